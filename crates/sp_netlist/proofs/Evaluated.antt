-- Every run goes as the evaluation over lists says.
use Rattle.std.proofs.Common.{◌≡◌, ℕ, suc, ◌<◌, List, [], ◌∷◌, ◌++◌, true, false, cond, ◌==◌, ◌&&◌, nat_lt, if◌then◌else◌, map, get_or, slice_index, slice_index_or, refl, sym, ap, ◌∙◌, append_assoc, Contains, count_by, arith, subst, ⊎_elim, inl, inr, ◌⊎◌, Some, IfSome, is_some, eqb-true, lt-ltb, le-ltb}
use Rattle.std.specs.List.{range_with_len, AllByRecursion}
use Rattle.std.proofs.lemmas.Bool.{false≢true, cases_Bool, cases_lt, cond_both, and_parts, or_cases, cond-true, cond-false}
use Rattle.std.proofs.lemmas.List.{get_or_past}
use Rattle.std.proofs.lemmas.List.Elements.{All-contains}
use Rattle.std.proofs.lemmas.List.FromFn.{get_or-map-range_with_len, length-map-range_with_len}
use Rattle.std.proofs.lemmas.List.Sums.{AllPass-from_list_all}
use Rattle.sp_words.specs.Words.{word_not, word_cast}
use Rattle.sp_netlist.specs.Cells.{PlainCell, in_cell, const_cell, op_cell, not_cell, shift_cell, cast_cell, mux_cell, reg_cell, bank_cell, read_tap, dram_cell, load_unit, store_unit}
use Rattle.sp_words.specs.Interface.{word_count}
use Rattle.sp_netlist.specs.Rules.{is_bank, is_dram, is_unit, driven_nets, bank_width, dram_width, IsNetlist, IsRight}
use Rattle.sp_netlist.specs.Signals.{Setting, idle, Signals, op_word, shift_word, ready_word, next_phase, cell_asks, delay_of, bank_after, dram_after, given_words, RunsChannel, Obeys, IsRun}
use Rattle.sp_netlist.proofs.Collect.{collect, collected, collect_all}
use Rattle.sp_netlist.proofs.Splits.{Split, nth, same_count}
use Rattle.sp_netlist.proofs.Drivers.{drives_driven, reads_driven}
use Rattle.sp_netlist.proofs.SameRun.{SameAt, step_same, below_units, same_bank_after, same_dram_after, asking_same, delay_same}
use Rattle.sp_netlist.proofs.Evaluate.{Known, has, word_of, with_cell, with_cells, words_known, is_complete, plain, first_net, first_known, next_net, next_bank, next_dram, next_of_channel, next_known, cycle, after}

-- what is known of a run in a cycle is so
pub record Knows (g : Setting) (s : Signals) (t : ℕ) (k : Known) : Type 0 where
  pub nets : AllByRecursion (λ p. s.net t p.0 ≡ p.1) k.nets
  pub banks : (bank addr : ℕ) → bank < count_by is_bank g.cells → s.bank t bank addr ≡ slice_index (slice_index_or k.banks bank []) addr
  pub drams : (dram addr : ℕ) → dram < count_by is_dram g.cells → s.dram t dram addr ≡ slice_index (slice_index_or k.drams dram []) addr
  pub phases : (channel : ℕ) → channel < count_by is_unit g.cells → s.phase t channel ≡ get_or k.phases channel idle
  pub asked : s.asked t ≡ k.asked

-- a known word is the net's
has_right : (w : ℕ → ℕ) (ps : List (ℕ × ℕ)) → AllByRecursion (λ p. w p.0 ≡ p.1) ps → (net : ℕ) → has ps net ≡ true → w net ≡ word_of ps net
has_right w [] r net e = absurd (false≢true e)
has_right w (p ∷ ps) r net e = go (cases_Bool (p.0 == net)) (has_right w ps r.1 net)
  where
    go : ((p.0 == net) ≡ true) ⊎ ((p.0 == net) ≡ false) → (has ps net ≡ true → w net ≡ word_of ps net) → w net ≡ cond (p.0 == net) p.1 (word_of ps net)
    go (inl k) rest = ap w (sym (eqb-true p.0 net k)) ∙ r.0 ∙ sym (cond-true (p.0 == net) p.1 (word_of ps net) k)
    go (inr k) rest = rest (⊎_elim (λ j. absurd (false≢true (sym k ∙ j))) (λ j. j) (or_cases (p.0 == net) (has ps net) e)) ∙ sym (cond-false (p.0 == net) p.1 (word_of ps net) k)

-- a list of len words that a function gives, read anywhere
tabulated : (f : ℕ → ℕ) (len addr : ℕ) → slice_index (map f (range_with_len 0 len)) addr ≡ (if nat_lt addr len then f addr else 0)
tabulated f len addr = ⊎_elim
    (λ l. get_or-map-range_with_len f 0 len addr addr 0 l (omega arith) ∙ sym (cond-true (nat_lt addr len) (f addr) 0 (lt-ltb addr len l)))
    (λ l. get_or_past (map f (range_with_len 0 len)) addr 0 (omega (arith, length-map-range_with_len f 0 len)) ∙ sym (cond-false (nat_lt addr len) (f addr) 0 (le-ltb addr len l)))
    (cases_lt addr len)

bank_gives : (g : Setting) (u : Signals) (b : List PlainCell) (x : PlainCell) → is_bank x ≡ is_some (next_bank g u b x)
bank_gives g u b (bank_cell n width len) = refl
bank_gives g u b _ = refl

dram_gives : (g : Setting) (u : Signals) (b : List PlainCell) (x : PlainCell) → is_dram x ≡ is_some (next_dram g u b x)
dram_gives g u b (dram_cell n name ty dims) = refl
dram_gives g u b _ = refl

channel_gives : (g : Setting) (u : Signals) (b : List PlainCell) (x : PlainCell) → is_unit x ≡ is_some (next_of_channel g u b x)
channel_gives g u b (load_unit channel dram ready net request last addr) = refl
channel_gives g u b (store_unit channel dram ready request last addr word) = refl
channel_gives g u b _ = refl

module _ (g : Setting) (h : IsNetlist g.cells) (s : Signals) (rs : IsRun g s) where
  -- the words of a cycle
  with_cell_right : (t : ℕ) (k : Known) → Knows g s t k → (before : List PlainCell) (x : PlainCell) (after : List PlainCell) → g.cells ≡ before ++ x ∷ after → IsRight g.cells before x → Obeys g s before x
      → (words : List (ℕ × ℕ)) → AllByRecursion (λ p. s.net t p.0 ≡ p.1) words → AllByRecursion (λ p. s.net t p.0 ≡ p.1) (with_cell g k before words x)
  with_cell_right t k q before (in_cell name net ty) after e r o words all = (o t, all)
  with_cell_right t k q before (const_cell net width word) after e r o words all = (o t, all)
  with_cell_right t k q before (op_cell net ty op a b) after e r o words all =
      cond_both (has words a && has words b) ((net, op_word op ty (word_of words a) (word_of words b)) ∷ words) words (AllByRecursion (λ p. s.net t p.0 ≡ p.1))
      (λ y. let both = and_parts (has words a) (has words b) y in
      let ea = has_right (s.net t) words all a both.0 in
      let eb = has_right (s.net t) words all b both.1 in
      let step : op_word op ty (s.net t a) (s.net t b) ≡ op_word op ty (word_of words a) (word_of words b) = cc in
      (o t ∙ step, all))
      (λ n. all)
  with_cell_right t k q before (not_cell net ty a) after e r o words all =
      cond_both (has words a) ((net, word_not ty (word_of words a)) ∷ words) words (AllByRecursion (λ p. s.net t p.0 ≡ p.1))
      (λ y. (o t ∙ ap (word_not ty) (has_right (s.net t) words all a y), all)) (λ n. all)
  with_cell_right t k q before (shift_cell net ty side a places) after e r o words all =
      cond_both (has words a) ((net, shift_word side ty (word_of words a) places) ∷ words) words (AllByRecursion (λ p. s.net t p.0 ≡ p.1))
      (λ y. (o t ∙ ap (λ x. shift_word side ty x places) (has_right (s.net t) words all a y), all)) (λ n. all)
  with_cell_right t k q before (cast_cell net from to a) after e r o words all =
      cond_both (has words a) ((net, word_cast from to (word_of words a)) ∷ words) words (AllByRecursion (λ p. s.net t p.0 ≡ p.1))
      (λ y. (o t ∙ ap (word_cast from to) (has_right (s.net t) words all a y), all)) (λ n. all)
  with_cell_right t k q before (mux_cell net width choice a b) after e r o words all =
      cond_both (has words choice && (has words a && has words b)) ((net, if word_of words choice == 1 then word_of words a else word_of words b) ∷ words) words (AllByRecursion (λ p. s.net t p.0 ≡ p.1))
      (λ y. let first = and_parts (has words choice) (has words a && has words b) y in
      let both = and_parts (has words a) (has words b) first.1 in (
        o t ∙ step_same (s.net t choice) (word_of words choice) (s.net t a) (word_of words a) (s.net t b) (word_of words b)
            (has_right (s.net t) words all choice first.0) (has_right (s.net t) words all a both.0) (has_right (s.net t) words all b both.1),
        all,
      ))
      (λ n. all)
  with_cell_right t k q before (load_unit channel dram ready net request last addr) after e r o words all =
      (o.0.shows t ∙ ap ready_word (q.phases channel (below_units g.cells before (load_unit channel dram ready net request last addr) after channel e refl r.0)), all)
  with_cell_right t k q before (store_unit channel dram ready request last addr word) after e r o words all =
      (o.shows t ∙ ap ready_word (q.phases channel (below_units g.cells before (store_unit channel dram ready request last addr word) after channel e refl r.0)), all)
  with_cell_right t k q before _ after e r o words all = all

  with_cells_right : (t : ℕ) (k : Known) → Knows g s t k → (before rest : List PlainCell) → g.cells ≡ before ++ rest
      → (words : List (ℕ × ℕ)) → AllByRecursion (λ p. s.net t p.0 ≡ p.1) words → AllByRecursion (λ p. s.net t p.0 ≡ p.1) (with_cells g k before words rest)
  with_cells_right t k q before [] e words all = all
  with_cells_right t k q before (x ∷ xs) e words all =
      with_cells_right t k q (before ++ x ∷ []) xs (e ∙ sym (append_assoc before (x ∷ []) xs)) (with_cell g k before words x)
      (with_cell_right t k q before x xs e (h.right before x xs e) (rs.cells before x xs e) words all)

  -- where every driven net is known the run is the same as the plain cycle
  pub known_same : (t : ℕ) (k : Known) → Knows g s t k → is_complete g.cells (words_known g k) ≡ true → SameAt g.cells s (plain k (words_known g k)) t
  known_same t k q e = record {
    nets = λ net width c. has_right (s.net t) (words_known g k) (with_cells_right t k q [] g.cells refl k.nets q.nets) net
        (All-contains (λ (p : ℕ × ℕ). has (words_known g k) p.0 ≡ true) (driven_nets g.cells) (net, width) (AllPass-from_list_all (λ (p : ℕ × ℕ). has (words_known g k) p.0) (driven_nets g.cells) e) c);
    banks = q.banks;
    drams = q.drams;
    phases = q.phases;
    asked = q.asked;
  }

  -- the first cycle
  first_right : (before : List PlainCell) (x : PlainCell) → Obeys g s before x → IfSome (first_net before x) (λ p. s.net 0 p.0 ≡ p.1)
  first_right before (reg_cell net width first next enable) o = o.0
  first_right before (read_tap net bank enable addr) o = o.0
  first_right before (load_unit channel dram ready net request last addr) o = o.1.0
  first_right before _ o = tt

  first_bank : (before : List PlainCell) (x : PlainCell) → IsRight g.cells before x → Obeys g s before x → is_bank x ≡ true → (bank addr : ℕ) → count_by is_bank before ≡ bank → s.bank 0 bank addr ≡ 0
  first_bank before (bank_cell n width len) r o is bank addr place = subst (λ b. s.bank 0 b addr ≡ 0) (r.0 ∙ place) (o.0 addr)
  first_bank before _ r o is bank addr place = absurd (false≢true is)

  first_dram : (before : List PlainCell) (x : PlainCell) → IsRight g.cells before x → Obeys g s before x → is_dram x ≡ true → (dram addr : ℕ) → count_by is_dram before ≡ dram → s.dram 0 dram addr ≡ slice_index (given_words g dram) addr
  first_dram before (dram_cell n name ty dims) r o is dram addr place = subst (λ d. s.dram 0 d addr ≡ slice_index (given_words g d) addr) (r.0 ∙ place) (o.0 addr)
  first_dram before _ r o is dram addr place = absurd (false≢true is)

  first_channel : (before : List PlainCell) (x : PlainCell) → IsRight g.cells before x → Obeys g s before x → is_unit x ≡ true → (channel : ℕ) → count_by is_unit before ≡ channel → s.phase 0 channel ≡ idle
  first_channel before (load_unit c dram ready net request last addr) r o is channel place = subst (λ n. s.phase 0 n ≡ idle) (r.0 ∙ place) o.0.begins
  first_channel before (store_unit c dram ready request last addr word) r o is channel place = subst (λ n. s.phase 0 n ≡ idle) (r.0 ∙ place) o.begins
  first_channel before _ r o is channel place = absurd (false≢true is)

  pub first_knows : Knows g s 0 (first_known g)
  first_knows = record {
    nets = collect_all (λ (p : ℕ × ℕ). s.net 0 p.0 ≡ p.1) first_net g.cells [] g.cells refl (λ b x a e. first_right b x (rs.cells b x a e));
    banks = λ bank addr l. let n = nth is_bank g.cells bank l in first_bank n.before n.item (h.right n.before n.item n.after n.is) (rs.cells n.before n.item n.after n.is) n.passes bank addr n.place;
    drams = λ dram addr l. let n = nth is_dram g.cells dram l in first_dram n.before n.item (h.right n.before n.item n.after n.is) (rs.cells n.before n.item n.after n.is) n.passes dram addr n.place;
    phases = λ channel l. let n = nth is_unit g.cells channel l in first_channel n.before n.item (h.right n.before n.item n.after n.is) (rs.cells n.before n.item n.after n.is) n.passes channel n.place;
    asked = rs.asked_first;
  }

  -- the next cycle, from signals u that are the same in this one
  module _ (k : Known) (words : List (ℕ × ℕ)) (t : ℕ) (same : SameAt g.cells s (plain k words) t) where
    next_right : (before : List PlainCell) (x : PlainCell) (after : List PlainCell) → g.cells ≡ before ++ x ∷ after → IsRight g.cells before x → Obeys g s before x → IfSome (next_net (plain k words) before x) (λ p. s.net (suc t) p.0 ≡ p.1)
    next_right before (reg_cell net width first next enable) after e r o =
        let d : Split g.cells (reg_cell net width first next enable) = record { before = before; after = after; is = e } in
        o.1 t ∙ step_same (s.net t enable) (word_of words enable) (s.net t next) (word_of words next) (s.net t net) (word_of words net)
        (same.nets enable 1 (reads_driven g.cells h (reg_cell net width first next enable) enable 1 d (1, omega arith, refl)))
        (same.nets next width (reads_driven g.cells h (reg_cell net width first next enable) next width d (0, omega arith, refl)))
        (same.nets net width (drives_driven g.cells (reg_cell net width first next enable) net width d (0, omega arith, refl)))
    next_right before (read_tap net bank enable addr) after e r o =
        let d : Split g.cells (read_tap net bank enable addr) = record { before = before; after = after; is = e } in
        o.1 t ∙ step_same (s.net t enable) (word_of words enable) (s.bank t bank (s.net t addr)) ((plain k words).bank 0 bank (word_of words addr)) (s.net t net) (word_of words net)
        (same.nets enable 1 (reads_driven g.cells h (read_tap net bank enable addr) enable 1 d (0, omega arith, refl)))
        (ap (s.bank t bank) (same.nets addr 32 (reads_driven g.cells h (read_tap net bank enable addr) addr 32 d (1, omega arith, refl))) ∙ same.banks bank (word_of words addr) r)
        (same.nets net (bank_width g.cells bank) (drives_driven g.cells (read_tap net bank enable addr) net (bank_width g.cells bank) d (0, omega arith, refl)))
    next_right before (load_unit channel dram ready net request last addr) after e r o =
        let d : Split g.cells (load_unit channel dram ready net request last addr) = record { before = before; after = after; is = e } in
        o.1.1 t ∙ step_same (s.net t ready) (word_of words ready) (s.dram t dram (s.net t addr)) ((plain k words).dram 0 dram (word_of words addr)) (s.net t net) (word_of words net)
        (same.nets ready 1 (drives_driven g.cells (load_unit channel dram ready net request last addr) ready 1 d (0, omega arith, refl)))
        (ap (s.dram t dram) (same.nets addr 32 (reads_driven g.cells h (load_unit channel dram ready net request last addr) addr 32 d (2, omega arith, refl))) ∙ same.drams dram (word_of words addr) r.1)
        (same.nets net (dram_width g.cells dram) (drives_driven g.cells (load_unit channel dram ready net request last addr) net (dram_width g.cells dram) d (1, omega arith, refl)))
    next_right before _ after e r o = tt

    next_bank_right : (before : List PlainCell) (x : PlainCell) (after : List PlainCell) → g.cells ≡ before ++ x ∷ after → IsRight g.cells before x → Obeys g s before x → is_bank x ≡ true
        → (bank addr : ℕ) → count_by is_bank before ≡ bank → bank < count_by is_bank g.cells → s.bank (suc t) bank addr ≡ slice_index (slice_index_or (collect (next_bank g (plain k words)) [] g.cells) bank []) addr
    next_bank_right before (bank_cell n width len) after e r o is bank addr place l =
        let u = plain k words in
        let list = map (λ addr. bank_after g.cells (u.net 0) n addr (u.bank 0 n addr)) (range_with_len 0 len) in
        let found = collected (next_bank g u) is_bank (bank_gives g u) [] before (bank_cell n width len) after [] list refl in
        let here = subst (λ zs. get_or (collect (next_bank g u) [] zs) (count_by is_bank before) [] ≡ list) (sym e) found in
        subst (λ b. s.bank (suc t) b addr ≡ slice_index (slice_index_or (collect (next_bank g u) [] g.cells) bank []) addr) (r.0 ∙ place)
        (o.1 t addr
        ∙ ap (λ x. if nat_lt addr len then x else 0) (same_bank_after g.cells h (s.net t) (u.net 0) same.nets n addr g.cells (λ x c. c) (s.bank t n addr) (u.bank 0 n addr) (same.banks n addr (omega (arith, r.0))))
        ∙ sym (tabulated (λ addr. bank_after g.cells (u.net 0) n addr (u.bank 0 n addr)) len addr)
        ∙ ap (λ ws. slice_index ws addr) (sym (ap (λ b. get_or (collect (next_bank g u) [] g.cells) b []) (sym place) ∙ here)))
    next_bank_right before _ after e r o is bank addr place l = absurd (false≢true is)

    next_dram_right : (before : List PlainCell) (x : PlainCell) (after : List PlainCell) → g.cells ≡ before ++ x ∷ after → IsRight g.cells before x → Obeys g s before x → is_dram x ≡ true
        → (dram addr : ℕ) → count_by is_dram before ≡ dram → dram < count_by is_dram g.cells → s.dram (suc t) dram addr ≡ slice_index (slice_index_or (collect (next_dram g (plain k words)) [] g.cells) dram []) addr
    next_dram_right before (dram_cell n name ty dims) after e r o is dram addr place l =
        let u = plain k words in
        let list = map (λ addr. dram_after g.cells (u.net 0) n addr (u.dram 0 n addr)) (range_with_len 0 (word_count dims)) in
        let found = collected (next_dram g u) is_dram (dram_gives g u) [] before (dram_cell n name ty dims) after [] list refl in
        let here = subst (λ zs. get_or (collect (next_dram g u) [] zs) (count_by is_dram before) [] ≡ list) (sym e) found in
        subst (λ b. s.dram (suc t) b addr ≡ slice_index (slice_index_or (collect (next_dram g u) [] g.cells) dram []) addr) (r.0 ∙ place)
        (o.1 t addr
        ∙ ap (λ x. if nat_lt addr (word_count dims) then x else 0) (same_dram_after g.cells h (s.net t) (u.net 0) same.nets n addr g.cells (λ x c. c) (s.dram t n addr) (u.dram 0 n addr) (same.drams n addr (omega (arith, r.0))))
        ∙ sym (tabulated (λ addr. dram_after g.cells (u.net 0) n addr (u.dram 0 n addr)) (word_count dims) addr)
        ∙ ap (λ ws. slice_index ws addr) (sym (ap (λ b. get_or (collect (next_dram g u) [] g.cells) b []) (sym place) ∙ here)))
    next_dram_right before _ after e r o is dram addr place l = absurd (false≢true is)

    next_channel_right : (before : List PlainCell) (x : PlainCell) (after : List PlainCell) → g.cells ≡ before ++ x ∷ after
        → (channel ready request last : ℕ) → channel ≡ count_by is_unit before → is_unit x ≡ true
        → Contains (driven_nets g.cells) (request, 1) → Contains (driven_nets g.cells) (last, 1) → RunsChannel g s before channel ready request last
        → next_of_channel g (plain k words) before x ≡ Some (next_phase ((plain k words).phase 0 channel) (word_of words request) (word_of words last) (delay_of g (plain k words) 0 before))
        → s.phase (suc t) channel ≡ get_or (collect (next_of_channel g (plain k words)) [] g.cells) (count_by is_unit before) idle
    next_channel_right before x after e channel ready request last number is d1 d2 o gives =
        let u = plain k words in
        let found = collected (next_of_channel g u) is_unit (channel_gives g u) [] before x after idle (next_phase (u.phase 0 channel) (word_of words request) (word_of words last) (delay_of g u 0 before)) gives in
        let here = subst (λ zs. get_or (collect (next_of_channel g u) [] zs) (count_by is_unit before) idle ≡ next_phase (u.phase 0 channel) (word_of words request) (word_of words last) (delay_of g u 0 before)) (sym e) found in
        let e1 = same.phases channel (below_units g.cells before x after channel e is number) in
        let e2 = same.nets request 1 d1 in
        let e3 = same.nets last 1 d2 in
        let e4 : delay_of g s t before ≡ delay_of g u 0 before = delay_same g h s u t same before x after e in
        let step : next_phase (s.phase t channel) (s.net t request) (s.net t last) (delay_of g s t before) ≡ next_phase (u.phase 0 channel) (word_of words request) (word_of words last) (delay_of g u 0 before) = cc in
        o.goes_on t ∙ step ∙ sym here

    next_unit_right : (before : List PlainCell) (x : PlainCell) (after : List PlainCell) → g.cells ≡ before ++ x ∷ after → IsRight g.cells before x → Obeys g s before x → is_unit x ≡ true
        → (channel : ℕ) → count_by is_unit before ≡ channel → s.phase (suc t) channel ≡ get_or (collect (next_of_channel g (plain k words)) [] g.cells) channel idle
    next_unit_right before (load_unit c dram ready net request last addr) after e r o is channel place =
        let d : Split g.cells (load_unit c dram ready net request last addr) = record { before = before; after = after; is = e } in
        let here = next_channel_right before (load_unit c dram ready net request last addr) after e c ready request last r.0 refl
        (reads_driven g.cells h (load_unit c dram ready net request last addr) request 1 d (0, omega arith, refl))
        (reads_driven g.cells h (load_unit c dram ready net request last addr) last 1 d (1, omega arith, refl)) o.0 refl in
        ap (s.phase (suc t)) (sym (r.0 ∙ place)) ∙ here ∙ ap (λ n. get_or (collect (next_of_channel g (plain k words)) [] g.cells) n idle) place
    next_unit_right before (store_unit c dram ready request last addr word) after e r o is channel place =
        let d : Split g.cells (store_unit c dram ready request last addr word) = record { before = before; after = after; is = e } in
        let here = next_channel_right before (store_unit c dram ready request last addr word) after e c ready request last r.0 refl
        (reads_driven g.cells h (store_unit c dram ready request last addr word) request 1 d (0, omega arith, refl))
        (reads_driven g.cells h (store_unit c dram ready request last addr word) last 1 d (1, omega arith, refl)) o refl in
        ap (s.phase (suc t)) (sym (r.0 ∙ place)) ∙ here ∙ ap (λ n. get_or (collect (next_of_channel g (plain k words)) [] g.cells) n idle) place
    next_unit_right before _ after e r o is channel place = absurd (false≢true is)

    next_knows : Knows g s (suc t) (next_known g (plain k words))
    next_knows = record {
      nets = collect_all (λ (p : ℕ × ℕ). s.net (suc t) p.0 ≡ p.1) (next_net (plain k words)) g.cells [] g.cells refl (λ b x a e. next_right b x a e (h.right b x a e) (rs.cells b x a e));
      banks = λ bank addr l. let n = nth is_bank g.cells bank l in next_bank_right n.before n.item n.after n.is (h.right n.before n.item n.after n.is) (rs.cells n.before n.item n.after n.is) n.passes bank addr n.place l;
      drams = λ dram addr l. let n = nth is_dram g.cells dram l in next_dram_right n.before n.item n.after n.is (h.right n.before n.item n.after n.is) (rs.cells n.before n.item n.after n.is) n.passes dram addr n.place l;
      phases = λ channel l. let n = nth is_unit g.cells channel l in next_unit_right n.before n.item n.after n.is (h.right n.before n.item n.after n.is) (rs.cells n.before n.item n.after n.is) n.passes channel n.place;
      asked =
          let count = same_count (cell_asks s t) (cell_asks (plain k words) 0) g.cells (asking_same g h s (plain k words) t same) in
          let a = same.asked in
          omega (arith, rs.asked_next t);
    }

  pub cycle_knows : (t : ℕ) (k : Known) → Knows g s t k → is_complete g.cells (words_known g k) ≡ true → Knows g s (suc t) (cycle g k)
  cycle_knows t k q e = next_knows k (words_known g k) t (known_same t k q e)
