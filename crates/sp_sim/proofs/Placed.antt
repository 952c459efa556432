-- Words at places: what a step by places does is what its cell does.
use Rattle.std.proofs.Common.{◌≡◌, ℕ, zero, suc, ◌+◌, ◌<◌, ◌^◌, List, [], ◌∷◌, ◌++◌, length, get_or, map, flat_map, slice_index, slice_index_or, slice_set, All, Contains, Some, refl, sym, ap, ◌∙◌, subst, arith}
use Rattle.std.proofs.lemmas.List.{get_or-map, get_or_append_left, get_or-append-add, length-append, length-map}
use Rattle.std.specs.List.{zip}
use Rattle.std.specs.List.Sorted.{IsStrictlyIncreasing}
use Rattle.sp_netlist.specs.Cells.{PlainCell}
use Rattle.sp_netlist.specs.Rules.{IsNetlist}
use Rattle.sp_sim.specs.declared.run.Places.{Places}
use Rattle.sp_sim.specs.declared.step.Task.{Task}
use Rattle.sp_sim.specs.Rows.{word_of, with_word, IsPlaceOf}
use Rattle.sp_sim.specs.declared.run.Run.{Run}
use Rattle.sp_sim.specs.Runs.{AreWithin, cell_in, run_cells, runs_cells}
use Rattle.sp_sim.specs.Settling.{OperandsFit, IsRow, computed_word, put_some, settle_cell}
use Rattle.sp_sim.specs.Steps.{word_by, width_by, Fit}
use Rattle.sp_sim.proofs.Held.{place_of_cell}
use Rattle.sp_sim.proofs.RowLemmas.{place_word, place_put}
use Rattle.sp_sim.proofs.SettleLemmas.{operands_fit, settled_row}
use Rattle.sp_sim.proofs.StepLemmas.{width_same, fit_at, stepped}

-- the word at a place of the nets
module _ (ns ws : List ℕ) (up : IsStrictlyIncreasing ns) (long : length ws ≡ length ns) (k : ℕ) (l : k < length ns) where
  own : IsPlaceOf ns (slice_index ns k) k
  own = record { found = λ h. refl; missing = λ past. absurd (omega (arith, past, l)) }

  pub word_there : slice_index ws k ≡ word_of (zip ns ws) (slice_index ns k)
  word_there = sym (place_word ns ws (slice_index ns k) k up long own (omega (arith, long, l)))

  pub put_there : (v : ℕ) → zip ns (slice_set ws k v) ≡ with_word (zip ns ws) (slice_index ns k) v
  put_there v = sym (place_put ns ws (slice_index ns k) k up long own v (omega (arith, long, l)))

-- the words at the places of a step
module _ (cells : List PlainCell) (h : IsNetlist cells) (ns ws : List ℕ) (up : IsStrictlyIncreasing ns) (long : length ws ≡ length ns) (r : IsRow cells (zip ns ws))
    (task : Task) (at : Places) (n : AreWithin (length ns) at) (stands : Contains cells (cell_in ns task at))
    (x y z : ℕ) (ex : x ≡ slice_index ws at.first) (ey : y ≡ slice_index ws at.second) (ez : z ≡ slice_index ws at.third) where
  first : x ≡ word_of (zip ns ws) (slice_index ns at.first)
  first = ex ∙ word_there ns ws up long at.first n.first

  second : y ≡ word_of (zip ns ws) (slice_index ns at.second)
  second = ey ∙ word_there ns ws up long at.second n.second

  third : z ≡ word_of (zip ns ws) (slice_index ns at.third)
  third = ez ∙ word_there ns ws up long at.third n.third

  -- fit the task
  pub fit_there : Fit task x y z
  fit_there =
      let p = place_of_cell cells (cell_in ns task at) stands in
      fit_at (word_of (zip ns ws)) task (slice_index ns at.net) (slice_index ns at.first) (slice_index ns at.second) (slice_index ns at.third) x y z first second third
      (subst (OperandsFit (word_of (zip ns ws))) p.2 (operands_fit cells h (zip ns ws) r p.0 p.1))

  -- a word that is right wherever they fit is that of the words at the places
  pub computed_there : (word : ℕ) → (Fit task x y z → (word ≡ word_by task x y z) × (word < 2 ^ width_by task))
      → (word ≡ word_by task (slice_index ws at.first) (slice_index ws at.second) (slice_index ws at.third)) × (word < 2 ^ width_by task)
  computed_there word right =
      let k = right fit_there in
      (k.0 ∙ ap (λ v. word_by task v y z) ex ∙ ap (λ v. word_by task (slice_index ws at.first) v z) ey ∙ ap (word_by task (slice_index ws at.first) (slice_index ws at.second)) ez, k.1)

  module _ (word : ℕ) (e : word ≡ word_by task x y z) where
    computed : Some (slice_index ns at.net, word) ≡ computed_word (word_of (zip ns ws)) (cell_in ns task at)
    computed = stepped (word_of (zip ns ws)) task (slice_index ns at.net) (slice_index ns at.first) (slice_index ns at.second) (slice_index ns at.third) x y z first second third word e

    -- and what is computed of them is put as the cell says
    pub settled_there : zip ns (slice_set ws at.net word) ≡ settle_cell (zip ns ws) (cell_in ns task at)
    unfolding put_some settle_cell
    settled_there = put_there ns ws up long at.net n.net word ∙ ap (put_some (zip ns ws)) computed

    pub row_there : word < 2 ^ width_by task → IsRow cells (zip ns (slice_set ws at.net word))
    row_there fits =
        let p = place_of_cell cells (cell_in ns task at) stands in
        subst (IsRow cells) (sym (put_there ns ws up long at.net n.net word))
        (settled_row cells h (zip ns ws) r p.0 p.1 (cell_in ns task at) (slice_index ns at.net, word) (sym p.2) computed
        (subst (λ k. word < 2 ^ k) (sym (width_same task (slice_index ns at.net) (slice_index ns at.first) (slice_index ns at.second) (slice_index ns at.third))) fits))

-- the cell of a step of a run stands in the netlist
pub stands_there : (cells : List PlainCell) (ns : List ℕ) (task : Task) (places : List Places) (i : ℕ) (d : Places) → i < length places → All (Contains cells) (map (cell_in ns task) places)
    → Contains cells (cell_in ns task (slice_index_or places i d))
stands_there cells ns task places i d l all =
    subst (Contains cells) (get_or-map (cell_in ns task) places i d (cell_in ns task d) l) (all i (cell_in ns task d) (omega (arith, length-map places (cell_in ns task), l)))

-- and so do those of a run among runs
all_first : {X : Type 0} (P : X → Type 0) (xs ys : List X) → All P (xs ++ ys) → All P xs
all_first P xs ys all i d l =
    subst P (get_or_append_left xs ys d i l) (all i d (let e = length-append xs ys in omega (arith, e, l)))

all_later : {X : Type 0} (P : X → Type 0) (xs ys : List X) → All P (xs ++ ys) → All P ys
all_later P xs ys all i d l =
    subst P (get_or-append-add xs ys i d) (all (length xs + i) d (let e = length-append xs ys in omega (arith, e, l)))

all_of_one : {X Y : Type 0} (P : Y → Type 0) (f : X → List Y) (xs : List X) (i : ℕ) (d : X) → i < length xs → All P (flat_map f xs) → All P (f (get_or xs i d))
all_of_one P f [] i d l all = absurd (omega (arith, l))
all_of_one P f (x ∷ xs) zero d l all = all_first P (f x) (flat_map f xs) all
all_of_one P f (x ∷ xs) (suc i) d l all = all_of_one P f xs i d (omega (arith, l)) (all_later P (f x) (flat_map f xs) all)

pub run_stands : (cells : List PlainCell) (ns : List ℕ) (runs : List Run) (i : ℕ) (run : Run) (places : List Places) → i < length runs → run ≡ get_or runs i run → places ≡ run.places.items
    → All (Contains cells) (runs_cells ns runs) → All (Contains cells) (map (cell_in ns run.task) places)
run_stands cells ns runs i run places l e f all =
    subst (λ ps. All (Contains cells) (map (cell_in ns run.task) ps)) (sym f)
    (subst (λ r. All (Contains cells) (run_cells ns r)) (sym e) (all_of_one (Contains cells) (run_cells ns) runs i run l all))
