-- What the cells keep for the next cycle has the run's words there.
use Rattle.std.proofs.Common.{◌≡◌, ℕ, zero, suc, ◌<◌, ◌^◌, List, [], ◌∷◌, false, ◌==◌, length, get_or, take, map, filter, count_by, true, ⊎_elim, All, Contains, refl, sym, ap, ◌∙◌, subst, arith}
use Rattle.std.specs.List.{fold, AllByRecursion}
use Rattle.std.proofs.lemmas.Bool.{true≢false, false≢true, cases_Bool, cond_both}
use Rattle.sp_words.specs.Types.{width_of}
use Rattle.sp_netlist.specs.Cells.{PlainCell, done_cell, in_cell, const_cell, op_cell, not_cell, shift_cell, cast_cell, mux_cell, reg_cell, read_tap, load_unit, store_unit}
use Rattle.sp_netlist.specs.Rules.{is_bank, is_dram, bank_width, dram_width, drives, reads, driven_nets, is_computed, IsNetlist, IsRight}
use Rattle.sp_netlist.specs.Signals.{Setting, Signals, Phase, idle, waiting, moving, ready_word, Obeys}
use Rattle.sp_netlist.specs.Quiet.{IsQuiet}
use Rattle.sp_sim.specs.Rows.{word_of, with_word, nets_of}
use Rattle.sp_sim.specs.Settling.{cell_at, IsRow}
use Rattle.sp_sim.specs.Holding.{held, put_all}
use Rattle.sp_sim.proofs.RowLemmas.{word_of-put, nets_of-put, put_right}
use Rattle.sp_sim.proofs.CellLemmas.{right_at, drives_driven, reads_driven, IsRow-put}
use Rattle.sp_sim.proofs.Settled.{obeyed, first_of_pair, only_one}
use Rattle.sp_sim.specs.Programs.{is_kept, is_fixed}
use Rattle.sp_sim.proofs.Parts.{Contains-filter, Contains-from_filter, kept_or_fixed}
use Rattle.std.proofs.lemmas.List.{get_or_default}
use Rattle.std.proofs.lemmas.List.Elements.{All-map, All-weaker}
use Rattle.sp_netlist.specs.Order.{IsComputing}

-- what the cells hold at a run's signals is in the run's next cycle
held_right : (g : Setting) (s : Signals) (t : ℕ) (before : List PlainCell) (x : PlainCell) → Obeys g s before x
    → AllByRecursion (λ p. s.net (suc t) p.0 ≡ p.1) (held (s.net t) (s.bank t) (s.dram t) (s.phase (suc t)) x)
held_right g s t before (in_cell name net ty) o = (o (suc t) ∙ sym (o t), tt)
held_right g s t before (const_cell net width word) o = (o (suc t) ∙ sym (o t), tt)
held_right g s t before (reg_cell net width first next enable) o = (o.1 t, tt)
held_right g s t before (read_tap net bank enable addr) o = (o.1 t, tt)
held_right g s t before (load_unit channel dram ready net request last addr) o = (o.0.shows (suc t), (o.1.1 t, tt))
held_right g s t before (store_unit channel dram ready request last addr word) o = (o.shows (suc t), tt)
held_right g s t before _ o = tt

-- a cell that doesn't compute holds each net that it drives
held_nets : (cells : List PlainCell) (w : ℕ → ℕ) (bank dram : ℕ → ℕ → ℕ) (phase : ℕ → Phase) (x : PlainCell) → is_computed x ≡ false
    → (n : ℕ) → Contains (map (λ p. p.0) (drives cells x)) n → Contains (map (λ p. p.0) (held w bank dram phase x)) n
held_nets cells w bank dram phase (op_cell net ty op a b) e n c = absurd (true≢false e)
held_nets cells w bank dram phase (not_cell net ty a) e n c = absurd (true≢false e)
held_nets cells w bank dram phase (shift_cell net ty side a places) e n c = absurd (true≢false e)
held_nets cells w bank dram phase (cast_cell net from to a) e n c = absurd (true≢false e)
held_nets cells w bank dram phase (mux_cell net width choice a b) e n c = absurd (true≢false e)
held_nets cells w bank dram phase _ e n c = c

-- puts of right words
put_all_right : (f : ℕ → ℕ) (ps row : List (ℕ × ℕ)) (n : ℕ) → AllByRecursion (λ p. f p.0 ≡ p.1) ps → word_of row n ≡ f n → word_of (put_all row ps) n ≡ f n
put_all_right f [] row n all r = r
put_all_right f (p ∷ ps) row n all r = put_all_right f ps (with_word row p.0 p.1) n all.1 (put_right f row p.0 p.1 n all.0 r)

nets_of-put_all : (ps row : List (ℕ × ℕ)) → nets_of (put_all row ps) ≡ nets_of row
nets_of-put_all [] row = refl
nets_of-put_all (p ∷ ps) row = nets_of-put_all ps (with_word row p.0 p.1) ∙ nets_of-put row p.0 p.1

put_all_makes : (f : ℕ → ℕ) (ps row : List (ℕ × ℕ)) (n : ℕ) → AllByRecursion (λ p. f p.0 ≡ p.1) ps → Contains (map (λ p. p.0) ps) n → Contains (nets_of row) n → word_of (put_all row ps) n ≡ f n
put_all_makes f [] row n all c d = let l = c.1 in absurd (omega arith)
put_all_makes f (p ∷ ps) row n all c d = at (put_all_makes f ps (with_word row p.0 p.1) n all.1) c.0 c.1 c.2
  where
    at : (Contains (map (λ (q : ℕ × ℕ). q.0) ps) n → Contains (nets_of (with_word row p.0 p.1)) n → word_of (put_all (with_word row p.0 p.1) ps) n ≡ f n)
        → (k : ℕ) → k < length (map (λ (q : ℕ × ℕ). q.0) (p ∷ ps)) → get_or (map (λ (q : ℕ × ℕ). q.0) (p ∷ ps)) k n ≡ n → word_of (put_all row (p ∷ ps)) n ≡ f n
    at rest zero l e =
        let here = subst (λ m. word_of (with_word row p.0 p.1) m ≡ p.1) e (word_of-put row p.0 p.1 (subst (λ m. Contains (nets_of row) m) (sym e) d)) in
        put_all_right f ps (with_word row p.0 p.1) n all.1 (here ∙ sym all.0 ∙ ap f e)
    at rest (suc k) l e = rest (k, omega arith, e) (subst (λ ns. Contains ns n) (sym (nets_of-put row p.0 p.1)) d)

-- the same along cells, each with the words that it puts
module _ (f : ℕ → ℕ) (puts : PlainCell → List (ℕ × ℕ)) where
  cells_right : (xs : List PlainCell) (row : List (ℕ × ℕ)) (n : ℕ) → ((x : PlainCell) → Contains xs x → AllByRecursion (λ p. f p.0 ≡ p.1) (puts x)) → word_of row n ≡ f n
      → word_of (fold (λ r x. put_all r (puts x)) row xs) n ≡ f n
  cells_right [] row n all r = r
  cells_right (x ∷ xs) row n all r =
      cells_right xs (put_all row (puts x)) n (λ y c. all y (suc c.0, let l = c.1 in omega arith, c.2)) (put_all_right f (puts x) row n (all x (0, omega arith, refl)) r)

  pub cells_make : (xs : List PlainCell) (row : List (ℕ × ℕ)) (n : ℕ) (x : PlainCell) → ((y : PlainCell) → Contains xs y → AllByRecursion (λ p. f p.0 ≡ p.1) (puts y))
      → Contains xs x → Contains (map (λ p. p.0) (puts x)) n → Contains (nets_of row) n → word_of (fold (λ r y. put_all r (puts y)) row xs) n ≡ f n
  cells_make [] row n x all c d e = let l = c.1 in absurd (omega arith)
  cells_make (y ∷ ys) row n x all c d e = at (cells_make ys (put_all row (puts y)) n x (λ z k. all z (suc k.0, let l = k.1 in omega arith, k.2))) c.0 c.1 c.2
    where
      at : (Contains ys x → Contains (map (λ (p : ℕ × ℕ). p.0) (puts x)) n → Contains (nets_of (put_all row (puts y))) n → word_of (fold (λ r z. put_all r (puts z)) (put_all row (puts y)) ys) n ≡ f n)
          → (k : ℕ) → k < length (y ∷ ys) → get_or (y ∷ ys) k x ≡ x → word_of (fold (λ r z. put_all r (puts z)) row (y ∷ ys)) n ≡ f n
      at rest zero l same =
          cells_right ys (put_all row (puts y)) n (λ z k. all z (suc k.0, let m = k.1 in omega arith, k.2))
          (put_all_makes f (puts y) row n (all y (0, omega arith, refl)) (subst (λ z. Contains (map (λ (p : ℕ × ℕ). p.0) (puts z)) n) (sym same) d) e)
      at rest (suc k) l same = rest (k, omega arith, same) d (subst (λ ns. Contains ns n) (sym (nets_of-put_all (puts y) row)) e)

-- words that fit their nets
abbrev Fit : List PlainCell → List (ℕ × ℕ) → Type 0
Fit cells = AllByRecursion (λ p. (width : ℕ) × Contains (driven_nets cells) (p.0, width) × (p.1 < 2 ^ width))

put_all_row : (cells : List PlainCell) → IsNetlist cells → (ps row : List (ℕ × ℕ)) → Fit cells ps → IsRow cells row → IsRow cells (put_all row ps)
put_all_row cells h [] row all r = r
put_all_row cells h (p ∷ ps) row all r = put_all_row cells h ps (with_word row p.0 p.1) all.1 (IsRow-put cells h row r p.0 all.0.0 p.1 all.0.1 all.0.2)

pub cells_row : (cells : List PlainCell) → IsNetlist cells → (puts : PlainCell → List (ℕ × ℕ)) (xs : List PlainCell) (row : List (ℕ × ℕ)) → ((x : PlainCell) → Contains xs x → Fit cells (puts x)) → IsRow cells row
    → IsRow cells (fold (λ r x. put_all r (puts x)) row xs)
cells_row cells h puts [] row all r = r
cells_row cells h puts (x ∷ xs) row all r =
    cells_row cells h puts xs (put_all row (puts x)) (λ y c. all y (suc c.0, let l = c.1 in omega arith, c.2)) (put_all_row cells h (puts x) row (all x (0, omega arith, refl)) r)

ready_small : (phase : Phase) → ready_word phase < 2
ready_small idle = omega arith
ready_small (waiting k) = omega arith
ready_small (moving k) = omega arith

-- what a cell holds fits
module _ (cells : List PlainCell) (w : ℕ → ℕ) (bank dram : ℕ → ℕ → ℕ) (phase : ℕ → Phase)
    (fits : (net width : ℕ) → Contains (driven_nets cells) (net, width) → w net < 2 ^ width)
    (banks : (n addr : ℕ) → n < count_by is_bank cells → bank n addr < 2 ^ bank_width cells n)
    (drams : (n addr : ℕ) → n < count_by is_dram cells → dram n addr < 2 ^ dram_width cells n) where
  held_fits : (before : List PlainCell) (x : PlainCell) → IsRight cells before x
      → ((net width : ℕ) → Contains (drives cells x) (net, width) → Contains (driven_nets cells) (net, width))
      → ((net width : ℕ) → Contains (reads cells x) (net, width) → Contains (driven_nets cells) (net, width)) → Fit cells (held w bank dram phase x)
  held_fits before (in_cell name net ty) r d k = let c = d net (width_of ty) (0, omega arith, refl) in ((width_of ty, c, fits net (width_of ty) c), tt)
  held_fits before (const_cell net width word) r d k = let c = d net width (0, omega arith, refl) in ((width, c, fits net width c), tt)
  held_fits before (reg_cell net width first next enable) r d k =
      let c = d net width (0, omega arith, refl) in
      ((width, c, cond_both (w enable == 1) (w next) (w net) (λ v. v < 2 ^ width) (λ e. fits next width (k next width (0, omega arith, refl))) (λ e. fits net width c)), tt)
  held_fits before (read_tap net of enable addr) r d k =
      let c = d net (bank_width cells of) (0, omega arith, refl) in
      ((bank_width cells of, c, cond_both (w enable == 1) (bank of (w addr)) (w net) (λ v. v < 2 ^ bank_width cells of) (λ e. banks of (w addr) r) (λ e. fits net (bank_width cells of) c)), tt)
  held_fits before (load_unit channel of ready net request last addr) r d k =
      let a = d ready 1 (0, omega arith, refl) in
      let c = d net (dram_width cells of) (1, omega arith, refl) in (
        (1, a, ready_small (phase channel)),
        ((dram_width cells of, c, cond_both (w ready == 1) (dram of (w addr)) (w net) (λ v. v < 2 ^ dram_width cells of) (λ e. drams of (w addr) r.1) (λ e. fits net (dram_width cells of) c)), tt),
      )
  held_fits before (store_unit channel of ready request last addr word) r d k = ((1, d ready 1 (0, omega arith, refl), ready_small (phase channel)), tt)
  held_fits before _ r d k = tt

pub contains_place : (cells : List PlainCell) (at : ℕ) → at < length cells → Contains cells (cell_at cells at)
unfolding cell_at
contains_place cells at l = (at, l, get_or_default cells at (get_or cells at (done_cell 0)) (done_cell 0) l)

pub place_of_cell : (cells : List PlainCell) (x : PlainCell) → Contains cells x → (at : ℕ) × (at < length cells) × (cell_at cells at ≡ x)
unfolding cell_at
place_of_cell cells x c = (c.0, c.1, get_or_default cells c.0 (done_cell 0) x c.1 ∙ c.2)

-- the cells at computing places stand in the list
pub all_stand : (cells : List PlainCell) (order : List ℕ) → All (IsComputing cells) order → All (Contains cells) (map (cell_at cells) order)
all_stand cells order all =
    All-map (Contains cells) (cell_at cells) order (All-weaker (IsComputing cells) (λ at. Contains cells (cell_at cells at)) (λ at k. contains_place cells at k.0) order all)

module _ (g : Setting) (h : IsNetlist g.cells) (s : Signals) (q : IsQuiet g s) where
  -- a word that stays
  fixed_same : (before : List PlainCell) (x : PlainCell) → Obeys g s before x → is_fixed x ≡ true → (net : ℕ) → Contains (map (λ p. p.0) (drives g.cells x)) net → (t : ℕ) → s.net t net ≡ s.net (suc t) net
  fixed_same before (in_cell name n ty) o e net c t = subst (λ m. s.net t m ≡ s.net (suc t) m) (only_one n net c) (o t ∙ sym (o (suc t)))
  fixed_same before (const_cell n width word) o e net c t = subst (λ m. s.net t m ≡ s.net (suc t) m) (only_one n net c) (o t ∙ sym (o (suc t)))
  fixed_same before _ o e net c t = absurd (false≢true e)

  pub fixed_later : (at : ℕ) → at < length g.cells → is_fixed (cell_at g.cells at) ≡ true → (net : ℕ) → Contains (map (λ p. p.0) (drives g.cells (cell_at g.cells at))) net → (t : ℕ) → s.net t net ≡ s.net (suc t) net
  fixed_later at l e net c t = fixed_same (take at g.cells) (cell_at g.cells at) (obeyed g h s q at l) e net c t

  -- what each cell holds is in the run's next cycle
  puts_right : (t : ℕ) (x : PlainCell) → Contains g.cells x → AllByRecursion (λ p. s.net (suc t) p.0 ≡ p.1) (held (s.net t) (s.bank t) (s.dram t) (s.phase (suc t)) x)
  puts_right t x k =
      let p = place_of_cell g.cells x k in
      subst (λ y. AllByRecursion (λ p. s.net (suc t) p.0 ≡ p.1) (held (s.net t) (s.bank t) (s.dram t) (s.phase (suc t)) y)) p.2 (held_right g s t (take p.0 g.cells) (cell_at g.cells p.0) (obeyed g h s q p.0 p.1))

  pub next_right : (t : ℕ) (row : List (ℕ × ℕ)) → IsRow g.cells row
      → ((at : ℕ) → at < length g.cells → is_fixed (cell_at g.cells at) ≡ true → (net : ℕ) → Contains (map (λ p. p.0) (drives g.cells (cell_at g.cells at))) net → word_of row net ≡ s.net t net)
      → (at : ℕ) → at < length g.cells → is_computed (cell_at g.cells at) ≡ false
      → (net : ℕ) → Contains (map (λ p. p.0) (drives g.cells (cell_at g.cells at))) net
      → word_of (fold (λ r x. put_all r (held (s.net t) (s.bank t) (s.dram t) (s.phase (suc t)) x)) row (filter is_kept g.cells)) net ≡ s.net (suc t) net
  next_right t row r fixed at l free net c = ⊎_elim
      (λ yes.
      let pair = first_of_pair (drives g.cells (cell_at g.cells at)) net c in
      cells_make (s.net (suc t)) (held (s.net t) (s.bank t) (s.dram t) (s.phase (suc t))) (filter is_kept g.cells) row net (cell_at g.cells at) each
      (Contains-filter is_kept g.cells (cell_at g.cells at) (contains_place g.cells at l) yes)
      (held_nets g.cells (s.net t) (s.bank t) (s.dram t) (s.phase (suc t)) (cell_at g.cells at) free net c)
      (r.covers net pair.0 (drives_driven g.cells at net pair.0 l pair.1)))
      (λ no.
      let stays = kept_or_fixed g.cells (cell_at g.cells at) free no net c in
      cells_right (s.net (suc t)) (held (s.net t) (s.bank t) (s.dram t) (s.phase (suc t))) (filter is_kept g.cells) row net each (fixed at l stays net c ∙ fixed_later at l stays net c t))
      (cases_Bool (is_kept (cell_at g.cells at)))
    where
      each : (x : PlainCell) → Contains (filter is_kept g.cells) x → AllByRecursion (λ p. s.net (suc t) p.0 ≡ p.1) (held (s.net t) (s.bank t) (s.dram t) (s.phase (suc t)) x)
      each x k = puts_right t x (Contains-from_filter is_kept g.cells x k)

-- the next row is a row
pub next_is_row : (cells : List PlainCell) (h : IsNetlist cells) (w : ℕ → ℕ) (bank dram : ℕ → ℕ → ℕ) (phase : ℕ → Phase)
    → ((net width : ℕ) → Contains (driven_nets cells) (net, width) → w net < 2 ^ width)
    → ((n addr : ℕ) → n < count_by is_bank cells → bank n addr < 2 ^ bank_width cells n)
    → ((n addr : ℕ) → n < count_by is_dram cells → dram n addr < 2 ^ dram_width cells n)
    → (row : List (ℕ × ℕ)) → IsRow cells row → IsRow cells (fold (λ r x. put_all r (held w bank dram phase x)) row (filter is_kept cells))
next_is_row cells h w bank dram phase fits banks drams row r =
    cells_row cells h (held w bank dram phase) (filter is_kept cells) row
    (λ x k. let p = place_of_cell cells x (Contains-from_filter is_kept cells x k) in
    subst (λ y. Fit cells (held w bank dram phase y)) p.2
    (held_fits cells w bank dram phase fits banks drams (take p.0 cells) (cell_at cells p.0) (right_at cells h p.0 p.1)
    (λ n v d. drives_driven cells p.0 n v p.1 d) (λ n v d. reads_driven cells h p.0 n v p.1 d))) r
