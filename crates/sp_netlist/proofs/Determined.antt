-- What a part does is determined by what comes to it from outside.
use Rattle.std.proofs.Common.{◌≡◌, ℕ, zero, suc, ◌+◌, ◌<◌, List, [], ◌∷◌, ◌++◌, Bool, true, false, cond, ◌==◌, ◌&&◌, nat_lt, if◌then◌else◌, IsTrue, map, length, get_or, slice_index, refl, sym, ap, ◌∙◌, Contains, arith, subst, ⊎_elim, inl, inr, ◌⊎◌, eq-eqb, eqb-true}
use Rattle.std.specs.List.{list_any}
use Rattle.std.proofs.lemmas.Bool.{false≢true, cases_Bool, or_cases}
use Rattle.std.proofs.lemmas.List.Elements.{All-contains}
use Rattle.sp_words.specs.Words.{word_not, word_cast}
use Rattle.sp_netlist.specs.Cells.{PlainCell, in_cell, const_cell, op_cell, not_cell, shift_cell, cast_cell, mux_cell, reg_cell, bank_cell, read_tap, write_tap, dram_cell, load_unit, store_unit}
use Rattle.sp_words.specs.Interface.{word_count}
use Rattle.sp_netlist.specs.Rules.{drives, reads, driven_nets, read_nets, bank_width, dram_width, is_computed}
use Rattle.sp_netlist.specs.Signals.{Setting, Phase, idle, waiting, moving, Signals, op_word, shift_word, ready_word, asks, after_asking, next_phase, cell_asks, delay_of, bank_after, dram_after, given_words, Holds, RunsChannel, Obeys}
use Rattle.sp_netlist.specs.Parts.{stands_for_bank, stands_for_dram, stands_for_channel, names_bank, names_dram, SomeCell, RunsPart, ReadsOnly, SameOutside, SamePart}
use Rattle.sp_netlist.proofs.Splits.{Split, split_of, split_cons, contains_head, contains_tail, contains_flat, source, Source}
use Rattle.sp_netlist.proofs.Drivers.{Driver, driver, driver_drives, drives_driven, feeds}
use Rattle.sp_netlist.proofs.SameRun.{step_same, only_net, one_of_two}
use Rattle.sp_netlist.proofs.Alone.{some_cell, alone}

-- the cell that passes a test
pub record Passing (test : PlainCell → Bool) (xs : List PlainCell) : Type 0 where
  pub item : PlainCell
  pub split : Split xs item
  pub passes : test item ≡ true

pub passing : (test : PlainCell → Bool) (xs : List PlainCell) → SomeCell test xs → Passing test xs
passing test [] e = absurd (false≢true e)
passing test (x ∷ xs) e = ⊎_elim (λ k. record { item = x; split = record { before = []; after = xs; is = refl }; passes = k }) (λ k. later (passing test xs k)) (or_cases (test x) (list_any test xs) e)
  where
    later : Passing test xs → Passing test (x ∷ xs)
    later p = record { item = p.item; split = split_cons x p.item xs p.split; passes = p.passes }

-- the delay matters only where the channel asks
asking_matters : (p : Phase) (r l d e : ℕ) → (asks p r l ≡ true → d ≡ e) → next_phase p r l d ≡ next_phase p r l e
asking_matters idle r l d e h = go (r == 1) h
  where
    go : (b : Bool) → (b ≡ true → d ≡ e) → cond b (after_asking d) idle ≡ cond b (after_asking e) idle
    go true k = ap after_asking (k refl)
    go false k = refl
asking_matters (waiting n) r l d e h = refl
asking_matters (moving n) r l d e h = go (l == 0) (n == 15) h
  where
    go : (b c : Bool) → ((b && c) ≡ true → d ≡ e) → cond b (cond c (after_asking d) (moving (n + 1))) idle ≡ cond b (cond c (after_asking e) (moving (n + 1))) idle
    go true true k = ap after_asking (k refl)
    go true false k = refl
    go false c k = refl

-- what cells make of a bank's and a DRAM's word where the words of their nets agree
abbrev Agree : List PlainCell → (ℕ → ℕ) → (ℕ → ℕ) → Type 0
Agree cells w v = (x : PlainCell) → Contains cells x → (net width : ℕ) → Contains (reads cells x) (net, width) ⊎ Contains (drives cells x) (net, width) → w net ≡ v net

bank_agrees : (cells : List PlainCell) (w v : ℕ → ℕ) → Agree cells w v → (bank addr : ℕ) (xs : List PlainCell) → ((x : PlainCell) → Contains xs x → Contains cells x)
    → (old new : ℕ) → old ≡ new → bank_after xs w bank addr old ≡ bank_after xs v bank addr new
bank_agrees cells w v same bank addr [] inside old new e = e
bank_agrees cells w v same bank addr (write_tap into enable at word ∷ xs) inside old new e =
    let here = same (write_tap into enable at word) (inside (write_tap into enable at word) (contains_head (write_tap into enable at word) xs)) in
    let e1 = here enable 1 (inl (0, omega arith, refl)) in
    let e2 = here at 32 (inl (1, omega arith, refl)) in
    let e3 = here word (bank_width cells into) (inl (2, omega arith, refl)) in
    let k : (if (into == bank) && ((w enable == 1) && (w at == addr)) then w word else old) ≡ (if (into == bank) && ((v enable == 1) && (v at == addr)) then v word else new) = cc in
    bank_agrees cells w v same bank addr xs (λ x c. inside x (contains_tail (write_tap into enable at word) x xs c)) _ _ k
bank_agrees cells w v same bank addr (y ∷ xs) inside old new e =
    bank_agrees cells w v same bank addr xs (λ x c. inside x (contains_tail _ x xs c)) old new e

dram_agrees : (cells : List PlainCell) (w v : ℕ → ℕ) → Agree cells w v → (dram addr : ℕ) (xs : List PlainCell) → ((x : PlainCell) → Contains xs x → Contains cells x)
    → (old new : ℕ) → old ≡ new → dram_after xs w dram addr old ≡ dram_after xs v dram addr new
dram_agrees cells w v same dram addr [] inside old new e = e
dram_agrees cells w v same dram addr (store_unit channel into ready request last at word ∷ xs) inside old new e =
    let here = same (store_unit channel into ready request last at word) (inside (store_unit channel into ready request last at word) (contains_head (store_unit channel into ready request last at word) xs)) in
    let e1 = here ready 1 (inr (0, omega arith, refl)) in
    let e2 = here at 32 (inl (2, omega arith, refl)) in
    let e3 = here word (dram_width cells into) (inl (3, omega arith, refl)) in
    let k : (if (into == dram) && ((w ready == 1) && (w at == addr)) then w word else old) ≡ (if (into == dram) && ((v ready == 1) && (v at == addr)) then v word else new) = cc in
    dram_agrees cells w v same dram addr xs (λ x c. inside x (contains_tail (store_unit channel into ready request last at word) x xs c)) _ _ k
dram_agrees cells w v same dram addr (y ∷ xs) inside old new e =
    dram_agrees cells w v same dram addr xs (λ x c. inside x (contains_tail _ x xs c)) old new e

-- the nets that a part reads or drives
abbrev Known : List ℕ → List PlainCell → ℕ → Type 0
Known inputs part net = Contains inputs net ⊎ Contains (map (λ p. p.0) (driven_nets part)) net

contains_first : (xs : List (ℕ × ℕ)) (net width k : ℕ) → k < length xs → get_or xs k (net, width) ≡ (net, width) → Contains (map (λ p. p.0) xs) net
contains_first [] net width k l e = absurd (omega arith)
contains_first (x ∷ xs) net width zero l e = (0, omega arith, ap (λ (p : ℕ × ℕ). p.0) e)
contains_first (x ∷ xs) net width (suc k) l e = contains_tail x.0 net (map (λ (p : ℕ × ℕ). p.0) xs) (contains_first xs net width k (omega arith) e)

-- two runs of a part are the same in a cycle
record PartAt (inputs : List ℕ) (part : List PlainCell) (s u : Signals) (t : ℕ) : Type 0 where
  nets : (net : ℕ) → Known inputs part net → s.net t net ≡ u.net t net
  banks : (bank addr : ℕ) → SomeCell (stands_for_bank bank) part → s.bank t bank addr ≡ u.bank t bank addr
  drams : (dram addr : ℕ) → SomeCell (names_dram dram) part → s.dram t dram addr ≡ u.dram t dram addr
  phases : (channel : ℕ) → SomeCell (stands_for_channel channel) part → s.phase t channel ≡ u.phase t channel

-- and in the cycle before, if there is one
abbrev Prior : List ℕ → List PlainCell → Signals → Signals → ℕ → Type 0
Prior inputs part s u zero = Unit {0}
Prior inputs part s u (suc k) = PartAt inputs part s u k

module _ (inputs : List ℕ) (part : List PlainCell) (only : ReadsOnly inputs part)
    (g : Setting) (s : Signals) (front : List PlainCell) (g' : Setting) (u : Signals) (front' : List PlainCell)
    (rs : RunsPart g s front part) (ru : RunsPart g' u front' part) (out : SameOutside inputs part g s front g' u front') where
  reads_known : (x : PlainCell) (net width : ℕ) → Split part x → Contains (reads part x) (net, width) → Known inputs part net
  reads_known x net width d c =
      All-contains (λ (p : ℕ × ℕ). Known inputs part p.0) (read_nets part) (net, width) only.nets (contains_flat (reads part) part x (net, width) d c)

  drives_known : (x : PlainCell) (net width : ℕ) → Split part x → Contains (drives part x) (net, width) → Known inputs part net
  drives_known x net width d c =
      let all = drives_driven part x net width d c in
      inr (contains_first (driven_nets part) net width all.0 all.1 all.2)

  agree : (t : ℕ) → PartAt inputs part s u t → Agree part (s.net t) (u.net t)
  agree t p x c net width side = ⊎_elim (λ r. p.nets net (reads_known x net width (split_of part x c) r)) (λ r. p.nets net (drives_known x net width (split_of part x c) r)) side

  -- channels
  channel_same : (t : ℕ) → Prior inputs part s u t → (before : List PlainCell) (x : PlainCell) (after : List PlainCell) → part ≡ before ++ x ∷ after
      → (channel ready request last : ℕ) → stands_for_channel channel x ≡ true
      → Known inputs part request → Known inputs part last
      → ((k : ℕ) → cell_asks s k x ≡ asks (s.phase k channel) (s.net k request) (s.net k last))
      → RunsChannel (alone g part) s (front ++ before) channel ready request last → RunsChannel (alone g' part) u (front' ++ before) channel ready request last → s.phase t channel ≡ u.phase t channel
  channel_same zero p before x after e channel ready request last c d1 d2 asked os ou = os.begins ∙ sym ou.begins
  channel_same (suc k) p before x after e channel ready request last c d1 d2 asked os ou =
      let e1 = p.phases channel (some_cell (stands_for_channel channel) part before x after e c) in
      let e2 = p.nets request d1 in
      let e3 = p.nets last d2 in
      let e4 = asking_matters (s.phase k channel) (s.net k request) (s.net k last) (delay_of g s k (front ++ before)) (delay_of g' u k (front' ++ before)) (λ a. out.delays k before x after e (asked k ∙ a)) in
      let step : next_phase (s.phase k channel) (s.net k request) (s.net k last) (delay_of g' u k (front' ++ before)) ≡ next_phase (u.phase k channel) (u.net k request) (u.net k last) (delay_of g' u k (front' ++ before)) = cc in
      os.goes_on k ∙ e4 ∙ step ∙ sym (ou.goes_on k)

  unit_same : (t : ℕ) → Prior inputs part s u t → (before : List PlainCell) (x : PlainCell) (after : List PlainCell) → part ≡ before ++ x ∷ after
      → Obeys (alone g part) s (front ++ before) x → Obeys (alone g' part) u (front' ++ before) x → (channel : ℕ) → stands_for_channel channel x ≡ true → s.phase t channel ≡ u.phase t channel
  unit_same t p before (load_unit c dram ready net request last addr) after e os ou channel is =
      let d : Split part (load_unit c dram ready net request last addr) = record { before = before; after = after; is = e } in
      subst (λ n. s.phase t n ≡ u.phase t n) (eqb-true c channel is)
      (channel_same t p before (load_unit c dram ready net request last addr) after e c ready request last (eq-eqb c c refl)
      (reads_known (load_unit c dram ready net request last addr) request 1 d (0, omega arith, refl))
      (reads_known (load_unit c dram ready net request last addr) last 1 d (1, omega arith, refl)) (λ k. refl) os.0 ou.0)
  unit_same t p before (store_unit c dram ready request last addr word) after e os ou channel is =
      let d : Split part (store_unit c dram ready request last addr word) = record { before = before; after = after; is = e } in
      subst (λ n. s.phase t n ≡ u.phase t n) (eqb-true c channel is)
      (channel_same t p before (store_unit c dram ready request last addr word) after e c ready request last (eq-eqb c c refl)
      (reads_known (store_unit c dram ready request last addr word) request 1 d (0, omega arith, refl))
      (reads_known (store_unit c dram ready request last addr word) last 1 d (1, omega arith, refl)) (λ k. refl) os ou)
  unit_same t p before _ after e os ou channel is = absurd (false≢true is)

  phases_same : (t : ℕ) → Prior inputs part s u t → (channel : ℕ) → SomeCell (stands_for_channel channel) part → s.phase t channel ≡ u.phase t channel
  phases_same t p channel l = go (passing (stands_for_channel channel) part l)
    where
      go : Passing (stands_for_channel channel) part → s.phase t channel ≡ u.phase t channel
      go n = unit_same t p n.split.before n.item n.split.after n.split.is (rs.cells n.split.before n.item n.split.after n.split.is) (ru.cells n.split.before n.item n.split.after n.split.is) channel n.passes

  -- banks and DRAMs
  bank_same : (t : ℕ) → Prior inputs part s u t → (before : List PlainCell) (x : PlainCell) → Obeys (alone g part) s (front ++ before) x → Obeys (alone g' part) u (front' ++ before) x
      → (bank addr : ℕ) → SomeCell (stands_for_bank bank) part → stands_for_bank bank x ≡ true → s.bank t bank addr ≡ u.bank t bank addr
  bank_same zero p before (bank_cell n width len) os ou bank addr l is = subst (λ b. s.bank 0 b addr ≡ u.bank 0 b addr) (eqb-true n bank is) (os.0 addr ∙ sym (ou.0 addr))
  bank_same (suc k) p before (bank_cell n width len) os ou bank addr l is =
      let m = eqb-true n bank is in
      let old = ap (λ b. s.bank k b addr) m ∙ p.banks bank addr l ∙ ap (λ b. u.bank k b addr) (sym m) in
      subst (λ b. s.bank (suc k) b addr ≡ u.bank (suc k) b addr) m
      (os.1 k addr ∙ ap (λ x. if nat_lt addr len then x else 0) (bank_agrees part (s.net k) (u.net k) (agree k p) n addr part (λ x c. c) _ _ old) ∙ sym (ou.1 k addr))
  bank_same t p before _ os ou bank addr l is = absurd (false≢true is)

  banks_same : (t : ℕ) → Prior inputs part s u t → (bank addr : ℕ) → SomeCell (stands_for_bank bank) part → s.bank t bank addr ≡ u.bank t bank addr
  banks_same t p bank addr l = go (passing (stands_for_bank bank) part l)
    where
      go : Passing (stands_for_bank bank) part → s.bank t bank addr ≡ u.bank t bank addr
      go n = bank_same t p n.split.before n.item (rs.cells n.split.before n.item n.split.after n.split.is) (ru.cells n.split.before n.item n.split.after n.split.is) bank addr l n.passes

  names_own : (dram : ℕ) (x : PlainCell) → stands_for_dram dram x ≡ true → names_dram dram x ≡ true
  names_own dram (dram_cell n name ty dims) e = e
  names_own dram _ e = absurd (false≢true e)

  dram_same : (t : ℕ) → Prior inputs part s u t → (before : List PlainCell) (x : PlainCell) → Obeys (alone g part) s (front ++ before) x → Obeys (alone g' part) u (front' ++ before) x
      → (dram addr : ℕ) → SomeCell (stands_for_dram dram) part → SomeCell (names_dram dram) part → stands_for_dram dram x ≡ true → s.dram t dram addr ≡ u.dram t dram addr
  dram_same zero p before (dram_cell n name ty dims) os ou dram addr l m is =
      let e = eqb-true n dram is in
      subst (λ b. s.dram 0 b addr ≡ u.dram 0 b addr) e (os.0 addr ∙ subst (λ b. slice_index (given_words g b) addr ≡ slice_index (given_words g' b) addr) (sym e) (out.given dram addr l) ∙ sym (ou.0 addr))
  dram_same (suc k) p before (dram_cell n name ty dims) os ou dram addr l m is =
      let e = eqb-true n dram is in
      let old = ap (λ b. s.dram k b addr) e ∙ p.drams dram addr m ∙ ap (λ b. u.dram k b addr) (sym e) in
      subst (λ b. s.dram (suc k) b addr ≡ u.dram (suc k) b addr) e
      (os.1 k addr ∙ ap (λ x. if nat_lt addr (word_count dims) then x else 0) (dram_agrees part (s.net k) (u.net k) (agree k p) n addr part (λ x c. c) _ _ old) ∙ sym (ou.1 k addr))
  dram_same t p before _ os ou dram addr l m is = absurd (false≢true is)

  drams_same : (t : ℕ) → Prior inputs part s u t → (dram addr : ℕ) → SomeCell (names_dram dram) part → s.dram t dram addr ≡ u.dram t dram addr
  drams_same t p dram addr m = ⊎_elim (λ l. go l (passing (stands_for_dram dram) part l)) (λ none. out.drams t dram addr m none) (cases_Bool (list_any (stands_for_dram dram) part))
    where
      go : SomeCell (stands_for_dram dram) part → Passing (stands_for_dram dram) part → s.dram t dram addr ≡ u.dram t dram addr
      go l n = dram_same t p n.split.before n.item (rs.cells n.split.before n.item n.split.after n.split.is) (ru.cells n.split.before n.item n.split.after n.split.is) dram addr l m n.passes

  -- a kept net
  held_same : (t : ℕ) → Prior inputs part s u t → (net first : ℕ) (enable next enable' next' : ℕ → ℕ)
      → Holds (λ t. s.net t net) first enable next → Holds (λ t. u.net t net) first enable' next'
      → ((k : ℕ) → PartAt inputs part s u k → (s.net k net ≡ u.net k net) × (enable k ≡ enable' k) × (next k ≡ next' k)) → s.net t net ≡ u.net t net
  held_same zero p net first enable next enable' next' os ou same = os.0 ∙ sym ou.0
  held_same (suc k) p net first enable next enable' next' os ou same =
      let e = same k p in
      os.1 k ∙ step_same (enable k) (enable' k) (next k) (next' k) (s.net k net) (u.net k net) e.1 e.2 e.0 ∙ sym (ou.1 k)

  -- a net that a cell drives
  net_same : (t : ℕ) → Prior inputs part s u t → (before : List PlainCell) (x : PlainCell) (after : List PlainCell) → part ≡ before ++ x ∷ after
      → Obeys (alone g part) s (front ++ before) x → Obeys (alone g' part) u (front' ++ before) x
      → ((a : ℕ) → IsTrue (is_computed x) → Contains (map (λ p. p.0) (reads part x)) a → s.net t a ≡ u.net t a)
      → (net width : ℕ) → Contains (drives part x) (net, width) → s.net t net ≡ u.net t net
  net_same t p before (in_cell name n ty) after e os ou same net width c =
      subst (λ m. s.net t m ≡ u.net t m) (only_net n _ net width c) (os t ∙ out.args before (in_cell name n ty) after e refl ∙ sym (ou t))
  net_same t p before (const_cell n w word) after e os ou same net width c = subst (λ m. s.net t m ≡ u.net t m) (only_net n _ net width c) (os t ∙ sym (ou t))
  net_same t p before (op_cell n ty op a b) after e os ou same net width c =
      let ea = same a refl (0, omega arith, refl) in
      let eb = same b refl (1, omega arith, refl) in
      let k : op_word op ty (s.net t a) (s.net t b) ≡ op_word op ty (u.net t a) (u.net t b) = cc in
      subst (λ m. s.net t m ≡ u.net t m) (only_net n _ net width c) (os t ∙ k ∙ sym (ou t))
  net_same t p before (not_cell n ty a) after e os ou same net width c =
      subst (λ m. s.net t m ≡ u.net t m) (only_net n _ net width c) (os t ∙ ap (word_not ty) (same a refl (0, omega arith, refl)) ∙ sym (ou t))
  net_same t p before (shift_cell n ty side a places) after e os ou same net width c =
      subst (λ m. s.net t m ≡ u.net t m) (only_net n _ net width c) (os t ∙ ap (λ x. shift_word side ty x places) (same a refl (0, omega arith, refl)) ∙ sym (ou t))
  net_same t p before (cast_cell n from to a) after e os ou same net width c =
      subst (λ m. s.net t m ≡ u.net t m) (only_net n _ net width c) (os t ∙ ap (word_cast from to) (same a refl (0, omega arith, refl)) ∙ sym (ou t))
  net_same t p before (mux_cell n w choice a b) after e os ou same net width c =
      let ec = same choice refl (0, omega arith, refl) in
      let ea = same a refl (1, omega arith, refl) in
      let eb = same b refl (2, omega arith, refl) in
      subst (λ m. s.net t m ≡ u.net t m) (only_net n _ net width c) (os t ∙ step_same (s.net t choice) (u.net t choice) (s.net t a) (u.net t a) (s.net t b) (u.net t b) ec ea eb ∙ sym (ou t))
  net_same t p before (reg_cell n w first next enable) after e os ou same net width c =
      let d : Split part (reg_cell n w first next enable) = record { before = before; after = after; is = e } in
      subst (λ m. s.net t m ≡ u.net t m) (only_net n _ net width c)
      (held_same t p n first (λ t. s.net t enable) (λ t. s.net t next) (λ t. u.net t enable) (λ t. u.net t next) os ou
      (λ k q. (
        q.nets n (drives_known (reg_cell n w first next enable) n w d (0, omega arith, refl)),
        q.nets enable (reads_known (reg_cell n w first next enable) enable 1 d (1, omega arith, refl)),
        q.nets next (reads_known (reg_cell n w first next enable) next w d (0, omega arith, refl)),
      )))
  net_same t p before (read_tap n bank enable addr) after e os ou same net width c =
      let d : Split part (read_tap n bank enable addr) = record { before = before; after = after; is = e } in
      let has = only.banks bank (some_cell (names_bank bank) part before (read_tap n bank enable addr) after e (eq-eqb bank bank refl)) in
      subst (λ m. s.net t m ≡ u.net t m) (only_net n _ net width c)
      (held_same t p n 0 (λ t. s.net t enable) (λ t. s.bank t bank (s.net t addr)) (λ t. u.net t enable) (λ t. u.bank t bank (u.net t addr)) os ou
      (λ k q. (
        q.nets n (drives_known (read_tap n bank enable addr) n (bank_width part bank) d (0, omega arith, refl)),
        q.nets enable (reads_known (read_tap n bank enable addr) enable 1 d (0, omega arith, refl)),
        ap (s.bank k bank) (q.nets addr (reads_known (read_tap n bank enable addr) addr 32 d (1, omega arith, refl))) ∙ q.banks bank (u.net k addr) has,
      )))
  net_same t p before (load_unit channel dram ready n request last addr) after e os ou same net width c =
      let d : Split part (load_unit channel dram ready n request last addr) = record { before = before; after = after; is = e } in
      let at_ready = os.0.shows t ∙ ap ready_word (phases_same t p channel (some_cell (stands_for_channel channel) part before (load_unit channel dram ready n request last addr) after e (eq-eqb channel channel refl))) ∙ sym (ou.0.shows t) in
      let at_net = held_same t p n 0 (λ t. s.net t ready) (λ t. s.dram t dram (s.net t addr)) (λ t. u.net t ready) (λ t. u.dram t dram (u.net t addr)) os.1 ou.1
      (λ k q. (
        q.nets n (drives_known (load_unit channel dram ready n request last addr) n (dram_width part dram) d (1, omega arith, refl)),
        q.nets ready (drives_known (load_unit channel dram ready n request last addr) ready 1 d (0, omega arith, refl)),
        ap (s.dram k dram) (q.nets addr (reads_known (load_unit channel dram ready n request last addr) addr 32 d (2, omega arith, refl)))
            ∙ q.drams dram (u.net k addr) (some_cell (names_dram dram) part before (load_unit channel dram ready n request last addr) after e (eq-eqb dram dram refl)),
      )) in
      ⊎_elim (λ k. subst (λ m. s.net t m ≡ u.net t m) k at_ready) (λ k. subst (λ m. s.net t m ≡ u.net t m) k at_net) (one_of_two ready 1 n _ net width c)
  net_same t p before (store_unit channel dram ready request last addr word) after e os ou same net width c =
      subst (λ m. s.net t m ≡ u.net t m) (only_net ready 1 net width c)
      (os.shows t ∙ ap ready_word (phases_same t p channel (some_cell (stands_for_channel channel) part before (store_unit channel dram ready request last addr word) after e (eq-eqb channel channel refl))) ∙ sym (ou.shows t))
  net_same t p before _ after e os ou same net width c = absurd (omega (arith, c.1))

  -- along the ranks
  own_driver : (net : ℕ) → Contains (map (λ p. p.0) (driven_nets part)) net → Driver part net
  own_driver net c = go (source (λ (p : ℕ × ℕ). p.0) (driven_nets part) net c.0 c.1 c.2)
    where
      go : Source (λ (p : ℕ × ℕ). p.0) (driven_nets part) net → Driver part net
      go o = subst (Driver part) o.gives (driver part o.item.0 o.item.1 o.stands)

  operand_known : (x : PlainCell) (net : ℕ) → Split part x → Contains (map (λ p. p.0) (reads part x)) net → Known inputs part net
  operand_known x net d c = go (source (λ (p : ℕ × ℕ). p.0) (reads part x) net c.0 c.1 c.2)
    where
      go : Source (λ (p : ℕ × ℕ). p.0) (reads part x) net → Known inputs part net
      go o = subst (Known inputs part) o.gives (reads_known x o.item.0 o.item.1 d o.stands)

  ranked_same : (t : ℕ) → Prior inputs part s u t → (n net : ℕ) → only.ranked.0 net < n → Driver part net → s.net t net ≡ u.net t net
  ranked_same t p zero net l d = absurd (omega arith)
  ranked_same t p (suc n) net l d =
      net_same t p d.split.before d.cell d.split.after d.split.is
      (rs.cells d.split.before d.cell d.split.after d.split.is) (ru.cells d.split.before d.cell d.split.after d.split.is)
      (λ a c k.
      let lower = only.ranked.1 a net (feeds part d.cell a net d.split c k (driver_drives part net d)) in
      ⊎_elim (λ i. out.nets t a i) (λ i. ranked_same t p n a (omega (arith, lower)) (own_driver a i)) (operand_known d.cell a d.split k))
      net d.width d.stands

  known_same : (t : ℕ) → Prior inputs part s u t → (net : ℕ) → Known inputs part net → s.net t net ≡ u.net t net
  known_same t p net k = ⊎_elim (λ i. out.nets t net i) (λ i. ranked_same t p (suc (only.ranked.0 net)) net (omega arith) (own_driver net i)) k

  part_step : (t : ℕ) → Prior inputs part s u t → PartAt inputs part s u t
  part_step t p = record { nets = known_same t p; banks = banks_same t p; drams = drams_same t p; phases = phases_same t p }

  part_at : (t : ℕ) → PartAt inputs part s u t
  part_at zero = part_step 0 tt
  part_at (suc t) = part_step (suc t) (part_at t)

  names_some : (dram : ℕ) → SomeCell (stands_for_dram dram) part → SomeCell (names_dram dram) part
  names_some dram l = go (passing (stands_for_dram dram) part l)
    where
      go : Passing (stands_for_dram dram) part → SomeCell (names_dram dram) part
      go n = some_cell (names_dram dram) part n.split.before n.item n.split.after n.split.is (names_own dram n.item n.passes)

  pub determined : SamePart part s u
  determined = record {
    nets = λ t net c. (part_at t).nets net (inr c);
    banks = λ t. (part_at t).banks;
    drams = λ t dram addr l. (part_at t).drams dram addr (names_some dram l);
    phases = λ t. (part_at t).phases;
  }
