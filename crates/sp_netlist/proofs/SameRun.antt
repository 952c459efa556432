-- Two runs of a netlist are the same: cycle by cycle, and in a cycle along the ranks of the nets.
use Rattle.std.proofs.Common.{◌≡◌, ℕ, zero, suc, ◌<◌, List, [], ◌∷◌, ◌++◌, true, ◌==◌, ◌&&◌, nat_lt, if◌then◌else◌, IsTrue, map, length, get_or, slice_index, refl, sym, ap, ◌∙◌, Contains, count_by, arith, subst, ⊎_elim, inl, inr, ◌⊎◌}
use Rattle.std.proofs.lemmas.Bool.{false≢true}
use Rattle.std.proofs.lemmas.List.Elements.{Contains-append_left}
use Rattle.sp_netlist.specs.Cells.{PlainCell, in_cell, const_cell, op_cell, not_cell, shift_cell, cast_cell, mux_cell, reg_cell, bank_cell, read_tap, write_tap, dram_cell, load_unit, store_unit}
use Rattle.sp_words.specs.Interface.{word_count}
use Rattle.sp_netlist.specs.Rules.{is_bank, is_dram, is_unit, drives, reads, driven_nets, bank_width, dram_width, is_computed, IsNetlist, IsRight}
use Rattle.sp_netlist.specs.Signals.{Setting, Signals, op_word, shift_word, ready_word, next_phase, cell_asks, delay_of, bank_after, dram_after, Holds, RunsChannel, Obeys, IsRun}
use Rattle.sp_netlist.specs.Cycle.{SameRun}
use Rattle.sp_words.specs.Words.{word_not, word_cast}
use Rattle.sp_netlist.proofs.Splits.{Split, split_of, contains_head, contains_tail, count-split, same_count, nth, Nth}
use Rattle.sp_netlist.proofs.Drivers.{Driver, driver, driver_drives, drives_driven, reads_driven, operand_driver, feeds}

pub step_same : (a b x y v w : ℕ) → a ≡ b → x ≡ y → v ≡ w → (if a == 1 then x else v) ≡ (if b == 1 then y else w)
step_same a b x y v w e f k = cc

-- which net stands in a list of one or two
pub only_net : (n w net width : ℕ) → Contains {X = ℕ × ℕ} ((n, w) ∷ []) (net, width) → n ≡ net
only_net n w net width h = at h.0 h.1 h.2
  where
    at : (k : ℕ) → k < length {A = ℕ × ℕ} ((n, w) ∷ []) → get_or {A = ℕ × ℕ} ((n, w) ∷ []) k (net, width) ≡ (net, width) → n ≡ net
    at zero l e = ap (λ (p : ℕ × ℕ). p.0) e
    at (suc k) l e = absurd (omega arith)

pub one_of_two : (n w m v net width : ℕ) → Contains {X = ℕ × ℕ} ((n, w) ∷ (m, v) ∷ []) (net, width) → (n ≡ net) ⊎ (m ≡ net)
one_of_two n w m v net width h = at h.0 h.1 h.2
  where
    at : (k : ℕ) → k < length {A = ℕ × ℕ} ((n, w) ∷ (m, v) ∷ []) → get_or {A = ℕ × ℕ} ((n, w) ∷ (m, v) ∷ []) k (net, width) ≡ (net, width) → (n ≡ net) ⊎ (m ≡ net)
    at zero l e = inl (ap (λ (p : ℕ × ℕ). p.0) e)
    at (suc zero) l e = inr (ap (λ (p : ℕ × ℕ). p.0) e)
    at (suc (suc k)) l e = absurd (omega arith)

-- the driven nets have the same words
abbrev pub SameWords : List PlainCell → (ℕ → ℕ) → (ℕ → ℕ) → Type 0
SameWords cells w v = (net width : ℕ) → Contains (driven_nets cells) (net, width) → w net ≡ v net

-- two runs are the same in a cycle
pub record SameAt (cells : List PlainCell) (s u : Signals) (t : ℕ) : Type 0 where
  pub nets : SameWords cells (s.net t) (u.net t)
  pub banks : (bank addr : ℕ) → bank < count_by is_bank cells → s.bank t bank addr ≡ u.bank t bank addr
  pub drams : (dram addr : ℕ) → dram < count_by is_dram cells → s.dram t dram addr ≡ u.dram t dram addr
  pub phases : (channel : ℕ) → channel < count_by is_unit cells → s.phase t channel ≡ u.phase t channel
  pub asked : s.asked t ≡ u.asked t

-- and in the cycle before, if there is one
abbrev Prior : List PlainCell → Signals → Signals → ℕ → Type 0
Prior cells s u zero = Unit {0}
Prior cells s u (suc k) = SameAt cells s u k

-- what a bank and a DRAM come to at the same words
pub same_bank_after : (cells : List PlainCell) → IsNetlist cells → (w v : ℕ → ℕ) → SameWords cells w v → (bank addr : ℕ) (xs : List PlainCell) → ((x : PlainCell) → Contains xs x → Contains cells x)
    → (old new : ℕ) → old ≡ new → bank_after xs w bank addr old ≡ bank_after xs v bank addr new
same_bank_after cells h w v same bank addr [] inside old new e = e
same_bank_after cells h w v same bank addr (write_tap into enable at word ∷ xs) inside old new e =
    let split = split_of cells (write_tap into enable at word) (inside (write_tap into enable at word) (contains_head (write_tap into enable at word) xs)) in
    let e1 = same enable 1 (reads_driven cells h (write_tap into enable at word) enable 1 split (0, omega arith, refl)) in
    let e2 = same at 32 (reads_driven cells h (write_tap into enable at word) at 32 split (1, omega arith, refl)) in
    let e3 = same word (bank_width cells into) (reads_driven cells h (write_tap into enable at word) word (bank_width cells into) split (2, omega arith, refl)) in
    let k : (if (into == bank) && ((w enable == 1) && (w at == addr)) then w word else old) ≡ (if (into == bank) && ((v enable == 1) && (v at == addr)) then v word else new) = cc in
    same_bank_after cells h w v same bank addr xs (λ x c. inside x (contains_tail (write_tap into enable at word) x xs c)) _ _ k
same_bank_after cells h w v same bank addr (y ∷ xs) inside old new e =
    same_bank_after cells h w v same bank addr xs (λ x c. inside x (contains_tail _ x xs c)) old new e

pub same_dram_after : (cells : List PlainCell) → IsNetlist cells → (w v : ℕ → ℕ) → SameWords cells w v → (dram addr : ℕ) (xs : List PlainCell) → ((x : PlainCell) → Contains xs x → Contains cells x)
    → (old new : ℕ) → old ≡ new → dram_after xs w dram addr old ≡ dram_after xs v dram addr new
same_dram_after cells h w v same dram addr [] inside old new e = e
same_dram_after cells h w v same dram addr (store_unit channel into ready request last at word ∷ xs) inside old new e =
    let split = split_of cells (store_unit channel into ready request last at word) (inside (store_unit channel into ready request last at word) (contains_head (store_unit channel into ready request last at word) xs)) in
    let e1 = same ready 1 (drives_driven cells (store_unit channel into ready request last at word) ready 1 split (0, omega arith, refl)) in
    let e2 = same at 32 (reads_driven cells h (store_unit channel into ready request last at word) at 32 split (2, omega arith, refl)) in
    let e3 = same word (dram_width cells into) (reads_driven cells h (store_unit channel into ready request last at word) word (dram_width cells into) split (3, omega arith, refl)) in
    let k : (if (into == dram) && ((w ready == 1) && (w at == addr)) then w word else old) ≡ (if (into == dram) && ((v ready == 1) && (v at == addr)) then v word else new) = cc in
    same_dram_after cells h w v same dram addr xs (λ x c. inside x (contains_tail (store_unit channel into ready request last at word) x xs c)) _ _ k
same_dram_after cells h w v same dram addr (y ∷ xs) inside old new e =
    same_dram_after cells h w v same dram addr xs (λ x c. inside x (contains_tail _ x xs c)) old new e

-- a unit's number is below their count
pub below_units : (cells before : List PlainCell) (x : PlainCell) (after : List PlainCell) (channel : ℕ) → cells ≡ before ++ x ∷ after → is_unit x ≡ true → channel ≡ count_by is_unit before → channel < count_by is_unit cells
below_units cells before x after channel e is c = omega (arith, count-split is_unit cells before x after e is)

module _ (g : Setting) (h : IsNetlist g.cells) (s u : Signals) where
  -- the same cells ask
  cell_asks_same : (k : ℕ) → SameAt g.cells s u k → (before : List PlainCell) (x : PlainCell) (after : List PlainCell) → g.cells ≡ before ++ x ∷ after → IsRight g.cells before x → cell_asks s k x ≡ cell_asks u k x
  cell_asks_same k p before (load_unit channel dram ready net request last addr) after e r =
      let split : Split g.cells (load_unit channel dram ready net request last addr) = record { before = before; after = after; is = e } in
      let e1 = p.phases channel (below_units g.cells before (load_unit channel dram ready net request last addr) after channel e refl r.0) in
      let e2 = p.nets request 1 (reads_driven g.cells h (load_unit channel dram ready net request last addr) request 1 split (0, omega arith, refl)) in
      let e3 = p.nets last 1 (reads_driven g.cells h (load_unit channel dram ready net request last addr) last 1 split (1, omega arith, refl)) in
      cc
  cell_asks_same k p before (store_unit channel dram ready request last addr word) after e r =
      let split : Split g.cells (store_unit channel dram ready request last addr word) = record { before = before; after = after; is = e } in
      let e1 = p.phases channel (below_units g.cells before (store_unit channel dram ready request last addr word) after channel e refl r.0) in
      let e2 = p.nets request 1 (reads_driven g.cells h (store_unit channel dram ready request last addr word) request 1 split (0, omega arith, refl)) in
      let e3 = p.nets last 1 (reads_driven g.cells h (store_unit channel dram ready request last addr word) last 1 split (1, omega arith, refl)) in
      cc
  cell_asks_same k p before _ after e r = refl

  pub asking_same : (k : ℕ) → SameAt g.cells s u k → (x : PlainCell) → Contains g.cells x → cell_asks s k x ≡ cell_asks u k x
  asking_same k p x c = go (split_of g.cells x c)
    where
      go : Split g.cells x → cell_asks s k x ≡ cell_asks u k x
      go d = cell_asks_same k p d.before x d.after d.is (h.right d.before x d.after d.is)

  pub delay_same : (k : ℕ) → SameAt g.cells s u k → (before : List PlainCell) (x : PlainCell) (after : List PlainCell) → g.cells ≡ before ++ x ∷ after → delay_of g s k before ≡ delay_of g u k before
  delay_same k p before x after e =
      let count = same_count (cell_asks s k) (cell_asks u k) before (λ y c. asking_same k p y (subst (λ zs. Contains zs y) (sym e) (Contains-append_left before (x ∷ after) y c))) in
      let a = p.asked in
      ap (λ n. slice_index g.delays n) (omega arith)

module _ (g : Setting) (h : IsNetlist g.cells) (s u : Signals) (rs : IsRun g s) (ru : IsRun g u) where
  channel_same : (t : ℕ) → Prior g.cells s u t → (before : List PlainCell) (x : PlainCell) (after : List PlainCell) → g.cells ≡ before ++ x ∷ after
      → (channel ready request last : ℕ) → channel < count_by is_unit g.cells
      → Contains (driven_nets g.cells) (request, 1) → Contains (driven_nets g.cells) (last, 1)
      → RunsChannel g s before channel ready request last → RunsChannel g u before channel ready request last → s.phase t channel ≡ u.phase t channel
  channel_same zero p before x after e channel ready request last l d1 d2 os ou = os.begins ∙ sym ou.begins
  channel_same (suc k) p before x after e channel ready request last l d1 d2 os ou =
      let e1 = p.phases channel l in
      let e2 = p.nets request 1 d1 in
      let e3 = p.nets last 1 d2 in
      let e4 = delay_same g h s u k p before x after e in
      let step : next_phase (s.phase k channel) (s.net k request) (s.net k last) (delay_of g s k before) ≡ next_phase (u.phase k channel) (u.net k request) (u.net k last) (delay_of g u k before) = cc in
      os.goes_on k ∙ step ∙ sym (ou.goes_on k)

  unit_same : (t : ℕ) → Prior g.cells s u t → (before : List PlainCell) (x : PlainCell) (after : List PlainCell) → g.cells ≡ before ++ x ∷ after
      → IsRight g.cells before x → Obeys g s before x → Obeys g u before x → (channel : ℕ) → is_unit x ≡ true → count_by is_unit before ≡ channel → s.phase t channel ≡ u.phase t channel
  unit_same t p before (load_unit c dram ready net request last addr) after e r os ou channel is place =
      let split : Split g.cells (load_unit c dram ready net request last addr) = record { before = before; after = after; is = e } in
      subst (λ n. s.phase t n ≡ u.phase t n) (r.0 ∙ place)
      (channel_same t p before (load_unit c dram ready net request last addr) after e c ready request last (below_units g.cells before (load_unit c dram ready net request last addr) after c e refl r.0)
      (reads_driven g.cells h (load_unit c dram ready net request last addr) request 1 split (0, omega arith, refl))
      (reads_driven g.cells h (load_unit c dram ready net request last addr) last 1 split (1, omega arith, refl)) os.0 ou.0)
  unit_same t p before (store_unit c dram ready request last addr word) after e r os ou channel is place =
      let split : Split g.cells (store_unit c dram ready request last addr word) = record { before = before; after = after; is = e } in
      subst (λ n. s.phase t n ≡ u.phase t n) (r.0 ∙ place)
      (channel_same t p before (store_unit c dram ready request last addr word) after e c ready request last (below_units g.cells before (store_unit c dram ready request last addr word) after c e refl r.0)
      (reads_driven g.cells h (store_unit c dram ready request last addr word) request 1 split (0, omega arith, refl))
      (reads_driven g.cells h (store_unit c dram ready request last addr word) last 1 split (1, omega arith, refl)) os ou)
  unit_same t p before _ after e r os ou channel is place = absurd (false≢true is)

  phases_same : (t : ℕ) → Prior g.cells s u t → (channel : ℕ) → channel < count_by is_unit g.cells → s.phase t channel ≡ u.phase t channel
  phases_same t p channel l = go (nth is_unit g.cells channel l)
    where
      go : Nth is_unit g.cells channel → s.phase t channel ≡ u.phase t channel
      go n = unit_same t p n.before n.item n.after n.is (h.right n.before n.item n.after n.is) (rs.cells n.before n.item n.after n.is) (ru.cells n.before n.item n.after n.is) channel n.passes n.place

  -- banks and DRAMs
  bank_same : (t : ℕ) → Prior g.cells s u t → (before : List PlainCell) (x : PlainCell) → IsRight g.cells before x → Obeys g s before x → Obeys g u before x
      → (bank addr : ℕ) → bank < count_by is_bank g.cells → is_bank x ≡ true → count_by is_bank before ≡ bank → s.bank t bank addr ≡ u.bank t bank addr
  bank_same t p before (bank_cell n width len) r os ou bank addr l is place = subst (λ b. s.bank t b addr ≡ u.bank t b addr) (r.0 ∙ place) (go t p)
    where
      go : (t : ℕ) → Prior g.cells s u t → s.bank t n addr ≡ u.bank t n addr
      go zero q = os.0 addr ∙ sym (ou.0 addr)
      go (suc k) q =
          let old = q.banks n addr (omega (arith, r.0)) in
          os.1 k addr ∙ ap (λ x. if nat_lt addr len then x else 0) (same_bank_after g.cells h (s.net k) (u.net k) q.nets n addr g.cells (λ x c. c) _ _ old) ∙ sym (ou.1 k addr)
  bank_same t p before _ r os ou bank addr l is place = absurd (false≢true is)

  banks_same : (t : ℕ) → Prior g.cells s u t → (bank addr : ℕ) → bank < count_by is_bank g.cells → s.bank t bank addr ≡ u.bank t bank addr
  banks_same t p bank addr l = go (nth is_bank g.cells bank l)
    where
      go : Nth is_bank g.cells bank → s.bank t bank addr ≡ u.bank t bank addr
      go n = bank_same t p n.before n.item (h.right n.before n.item n.after n.is) (rs.cells n.before n.item n.after n.is) (ru.cells n.before n.item n.after n.is) bank addr l n.passes n.place

  dram_same : (t : ℕ) → Prior g.cells s u t → (before : List PlainCell) (x : PlainCell) → IsRight g.cells before x → Obeys g s before x → Obeys g u before x
      → (dram addr : ℕ) → dram < count_by is_dram g.cells → is_dram x ≡ true → count_by is_dram before ≡ dram → s.dram t dram addr ≡ u.dram t dram addr
  dram_same t p before (dram_cell n name ty dims) r os ou dram addr l is place = subst (λ b. s.dram t b addr ≡ u.dram t b addr) (r.0 ∙ place) (go t p)
    where
      go : (t : ℕ) → Prior g.cells s u t → s.dram t n addr ≡ u.dram t n addr
      go zero q = os.0 addr ∙ sym (ou.0 addr)
      go (suc k) q =
          let old = q.drams n addr (omega (arith, r.0)) in
          os.1 k addr ∙ ap (λ x. if nat_lt addr (word_count dims) then x else 0) (same_dram_after g.cells h (s.net k) (u.net k) q.nets n addr g.cells (λ x c. c) _ _ old) ∙ sym (ou.1 k addr)
  dram_same t p before _ r os ou dram addr l is place = absurd (false≢true is)

  drams_same : (t : ℕ) → Prior g.cells s u t → (dram addr : ℕ) → dram < count_by is_dram g.cells → s.dram t dram addr ≡ u.dram t dram addr
  drams_same t p dram addr l = go (nth is_dram g.cells dram l)
    where
      go : Nth is_dram g.cells dram → s.dram t dram addr ≡ u.dram t dram addr
      go n = dram_same t p n.before n.item (h.right n.before n.item n.after n.is) (rs.cells n.before n.item n.after n.is) (ru.cells n.before n.item n.after n.is) dram addr l n.passes n.place

  asked_same : (t : ℕ) → Prior g.cells s u t → s.asked t ≡ u.asked t
  asked_same zero p = rs.asked_first ∙ sym ru.asked_first
  asked_same (suc k) p =
      let count = same_count (cell_asks s k) (cell_asks u k) g.cells (asking_same g h s u k p) in
      let a = p.asked in
      omega (arith, rs.asked_next k, ru.asked_next k)

  -- a kept net
  held_same : (t : ℕ) → Prior g.cells s u t → (net first : ℕ) (enable next enable' next' : ℕ → ℕ)
      → Holds (λ t. s.net t net) first enable next → Holds (λ t. u.net t net) first enable' next'
      → ((k : ℕ) → SameAt g.cells s u k → (s.net k net ≡ u.net k net) × (enable k ≡ enable' k) × (next k ≡ next' k)) → s.net t net ≡ u.net t net
  held_same zero p net first enable next enable' next' os ou same = os.0 ∙ sym ou.0
  held_same (suc k) p net first enable next enable' next' os ou same =
      let e = same k p in
      os.1 k ∙ step_same (enable k) (enable' k) (next k) (next' k) (s.net k net) (u.net k net) e.1 e.2 e.0 ∙ sym (ou.1 k)

  -- a net that a cell drives
  net_same : (t : ℕ) → Prior g.cells s u t → (before : List PlainCell) (x : PlainCell) (after : List PlainCell) → g.cells ≡ before ++ x ∷ after
      → IsRight g.cells before x → Obeys g s before x → Obeys g u before x
      → ((a : ℕ) → IsTrue (is_computed x) → Contains (map (λ p. p.0) (reads g.cells x)) a → s.net t a ≡ u.net t a)
      → (net width : ℕ) → Contains (drives g.cells x) (net, width) → s.net t net ≡ u.net t net
  net_same t p before (in_cell name n ty) after e r os ou same net width c = subst (λ m. s.net t m ≡ u.net t m) (only_net n _ net width c) (os t ∙ sym (ou t))
  net_same t p before (const_cell n w word) after e r os ou same net width c = subst (λ m. s.net t m ≡ u.net t m) (only_net n _ net width c) (os t ∙ sym (ou t))
  net_same t p before (op_cell n ty op a b) after e r os ou same net width c =
      let ea = same a refl (0, omega arith, refl) in
      let eb = same b refl (1, omega arith, refl) in
      let k : op_word op ty (s.net t a) (s.net t b) ≡ op_word op ty (u.net t a) (u.net t b) = cc in
      subst (λ m. s.net t m ≡ u.net t m) (only_net n _ net width c) (os t ∙ k ∙ sym (ou t))
  net_same t p before (not_cell n ty a) after e r os ou same net width c =
      subst (λ m. s.net t m ≡ u.net t m) (only_net n _ net width c) (os t ∙ ap (word_not ty) (same a refl (0, omega arith, refl)) ∙ sym (ou t))
  net_same t p before (shift_cell n ty side a places) after e r os ou same net width c =
      subst (λ m. s.net t m ≡ u.net t m) (only_net n _ net width c) (os t ∙ ap (λ x. shift_word side ty x places) (same a refl (0, omega arith, refl)) ∙ sym (ou t))
  net_same t p before (cast_cell n from to a) after e r os ou same net width c =
      subst (λ m. s.net t m ≡ u.net t m) (only_net n _ net width c) (os t ∙ ap (word_cast from to) (same a refl (0, omega arith, refl)) ∙ sym (ou t))
  net_same t p before (mux_cell n w choice a b) after e r os ou same net width c =
      let ec = same choice refl (0, omega arith, refl) in
      let ea = same a refl (1, omega arith, refl) in
      let eb = same b refl (2, omega arith, refl) in
      subst (λ m. s.net t m ≡ u.net t m) (only_net n _ net width c) (os t ∙ step_same (s.net t choice) (u.net t choice) (s.net t a) (u.net t a) (s.net t b) (u.net t b) ec ea eb ∙ sym (ou t))
  net_same t p before (reg_cell n w first next enable) after e r os ou same net width c =
      let split : Split g.cells (reg_cell n w first next enable) = record { before = before; after = after; is = e } in
      subst (λ m. s.net t m ≡ u.net t m) (only_net n _ net width c)
      (held_same t p n first (λ t. s.net t enable) (λ t. s.net t next) (λ t. u.net t enable) (λ t. u.net t next) os ou
      (λ k q. (
        q.nets n w (drives_driven g.cells (reg_cell n w first next enable) n w split (0, omega arith, refl)),
        q.nets enable 1 (reads_driven g.cells h (reg_cell n w first next enable) enable 1 split (1, omega arith, refl)),
        q.nets next w (reads_driven g.cells h (reg_cell n w first next enable) next w split (0, omega arith, refl)),
      )))
  net_same t p before (read_tap n bank enable addr) after e r os ou same net width c =
      let split : Split g.cells (read_tap n bank enable addr) = record { before = before; after = after; is = e } in
      subst (λ m. s.net t m ≡ u.net t m) (only_net n _ net width c)
      (held_same t p n 0 (λ t. s.net t enable) (λ t. s.bank t bank (s.net t addr)) (λ t. u.net t enable) (λ t. u.bank t bank (u.net t addr)) os ou
      (λ k q. (
        q.nets n (bank_width g.cells bank) (drives_driven g.cells (read_tap n bank enable addr) n (bank_width g.cells bank) split (0, omega arith, refl)),
        q.nets enable 1 (reads_driven g.cells h (read_tap n bank enable addr) enable 1 split (0, omega arith, refl)),
        ap (s.bank k bank) (q.nets addr 32 (reads_driven g.cells h (read_tap n bank enable addr) addr 32 split (1, omega arith, refl))) ∙ q.banks bank (u.net k addr) r,
      )))
  net_same t p before (load_unit channel dram ready n request last addr) after e r os ou same net width c =
      let split : Split g.cells (load_unit channel dram ready n request last addr) = record { before = before; after = after; is = e } in
      let at_ready = os.0.shows t ∙ ap ready_word (phases_same t p channel (below_units g.cells before (load_unit channel dram ready n request last addr) after channel e refl r.0)) ∙ sym (ou.0.shows t) in
      let at_net = held_same t p n 0 (λ t. s.net t ready) (λ t. s.dram t dram (s.net t addr)) (λ t. u.net t ready) (λ t. u.dram t dram (u.net t addr)) os.1 ou.1
      (λ k q. (
        q.nets n (dram_width g.cells dram) (drives_driven g.cells (load_unit channel dram ready n request last addr) n (dram_width g.cells dram) split (1, omega arith, refl)),
        q.nets ready 1 (drives_driven g.cells (load_unit channel dram ready n request last addr) ready 1 split (0, omega arith, refl)),
        ap (s.dram k dram) (q.nets addr 32 (reads_driven g.cells h (load_unit channel dram ready n request last addr) addr 32 split (2, omega arith, refl))) ∙ q.drams dram (u.net k addr) r.1,
      )) in
      ⊎_elim (λ k. subst (λ m. s.net t m ≡ u.net t m) k at_ready) (λ k. subst (λ m. s.net t m ≡ u.net t m) k at_net) (one_of_two ready 1 n _ net width c)
  net_same t p before (store_unit channel dram ready request last addr word) after e r os ou same net width c =
      subst (λ m. s.net t m ≡ u.net t m) (only_net ready 1 net width c)
      (os.shows t ∙ ap ready_word (phases_same t p channel (below_units g.cells before (store_unit channel dram ready request last addr word) after channel e refl r.0)) ∙ sym (ou.shows t))
  net_same t p before _ after e r os ou same net width c = absurd (omega (arith, c.1))

  -- along the ranks
  ranked_same : (t : ℕ) → Prior g.cells s u t → (n net : ℕ) → h.ranked.0 net < n → Driver g.cells net → s.net t net ≡ u.net t net
  ranked_same t p zero net l d = absurd (omega arith)
  ranked_same t p (suc n) net l d =
      net_same t p d.split.before d.cell d.split.after d.split.is (h.right d.split.before d.cell d.split.after d.split.is)
      (rs.cells d.split.before d.cell d.split.after d.split.is) (ru.cells d.split.before d.cell d.split.after d.split.is)
      (λ a c k.
      let lower = h.ranked.1 a net (feeds g.cells d.cell a net d.split c k (driver_drives g.cells net d)) in
      ranked_same t p n a (omega (arith, lower)) (operand_driver g.cells h d.cell a d.split k))
      net d.width d.stands

  same_step : (t : ℕ) → Prior g.cells s u t → SameAt g.cells s u t
  same_step t p = record {
    nets = λ net width c. ranked_same t p (suc (h.ranked.0 net)) net (omega arith) (driver g.cells net width c);
    banks = banks_same t p;
    drams = drams_same t p;
    phases = phases_same t p;
    asked = asked_same t p;
  }

  pub same_at : (t : ℕ) → SameAt g.cells s u t
  same_at zero = same_step 0 tt
  same_at (suc t) = same_step (suc t) (same_at t)

  pub same_run : SameRun g.cells s u
  same_run = record {
    nets = λ t. (same_at t).nets;
    banks = λ t. (same_at t).banks;
    drams = λ t. (same_at t).drams;
    phases = λ t. (same_at t).phases;
    asked = λ t. (same_at t).asked;
  }
