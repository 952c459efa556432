-- How the map of places and the graph of the cells grow cell by cell.
use Rattle.std.proofs.Common.{◌≡◌, ◌≢◌, ℕ, zero, suc, ◌+◌, ◌<◌, ◌≤◌, Bool, true, List, [], ◌∷◌, ◌++◌, length, get_or, take, Contains, Option, Some, None, ◌⊎◌, inl, inr, refl, sym, ap, ◌∙◌, subst, arith, filter_map, count_by, replicate, ne_eqb, eq-eqb, append-nil, append_assoc}
use Rattle.std.specs.List.{cons_option}
use Rattle.std.proofs.lemmas.Bool.{cases_eq, cases_lt}
use Rattle.std.proofs.lemmas.List.{length-map, length-replicate, get_or-replicate, get_or_past}
use Rattle.std.proofs.lemmas.List.Elements.{filter_map-append}
use Rattle.std.proofs.lemmas.Option.{unwrap_or-slice_get}
use Rattle.sp_graph.specs.Edges.{targets_of}
use Rattle.sp_netlist.specs.declared.cell.Cell.{Cell}
use Rattle.sp_netlist.specs.Cells.{PlainCell, in_cell, out_cell, done_cell, const_cell, op_cell, not_cell, shift_cell, cast_cell, mux_cell, reg_cell, bank_cell, read_tap, write_tap, dram_cell, load_unit, store_unit, plain_cell, plain_cells}
use Rattle.sp_netlist.specs.Rules.{drives}
use Rattle.sp_netlist.specs.Draft.{driver_count}
use Rattle.sp_netlist.specs.Tables.{IsLeastOrNone, least_of}
use Rattle.sp_netlist.specs.CellGraph.{computed_net, operands, computed_at, operands_at, ComputedOnce, ArePlaces, place_with, IsCellGraph, HasTargets, StaysAt, IsComputedOnLoop}
use Rattle.sp_netlist.proofs.Lists.{Contains-here, Contains-later}
use Rattle.sp_netlist.proofs.Splits.{count-cons, count-cons_yes, any_count}
use Rattle.sp_netlist.proofs.Machine.{is_net, drives_net}
use Rattle.sp_netlist.proofs.CheckLemmas.{plain_more}
use Rattle.sp_netlist.proofs.NetFaults.{least_of_two}
use Rattle.sp_netlist.proofs.CellGraphs.{computed_within, place_is}

-- the cells up to a place
length_taken : (cells : List Cell) (i : ℕ) → i < length cells → length (plain_cells (take i cells)) ≡ i
length_taken [] i h = absurd (omega arith)
length_taken (x ∷ cells) zero h = refl
length_taken (x ∷ cells) (suc i) h = ap suc (length_taken cells i (omega (arith, h)))

-- what is computed once a cell is added
computed_grown : (cells : List PlainCell) (c : PlainCell) (place net : ℕ) → computed_at cells place ≡ Some net → computed_at (cells ++ c ∷ []) place ≡ Some net
computed_grown [] c place net e = absurd (cc)
computed_grown (x ∷ cells) c zero net e = e
computed_grown (x ∷ cells) c (suc place) net e = computed_grown cells c place net e

computed_last : (cells : List PlainCell) (c : PlainCell) → computed_at (cells ++ c ∷ []) (length cells) ≡ computed_net c
computed_last [] c = refl
computed_last (x ∷ cells) c = computed_last cells c

computed_push : (cells : List PlainCell) (c : PlainCell) (place net : ℕ) → computed_at (cells ++ c ∷ []) place ≡ Some net → (computed_at cells place ≡ Some net) ⊎ ((place ≡ length cells) × (computed_net c ≡ Some net))
computed_push [] c zero net e = inr (refl, e)
computed_push [] c (suc place) net e = absurd (cc)
computed_push (x ∷ cells) c zero net e = inl e
computed_push (x ∷ cells) c (suc place) net e = elim (computed_push cells c place net e) [ inl old ↦ inl old | inr new ↦ inr (ap suc new.0, new.1) ]

-- the map of places
pub ArePlaces-none : (place_of : ℕ → Option ℕ) → ((net : ℕ) → place_of net ≡ None) → ArePlaces [] place_of
ArePlaces-none place_of none = record {
  found = λ net place e. absurd (let n = none net in cc);
  kept = λ net place e. absurd (cc);
}

module _ (cells : List PlainCell) (c : PlainCell) (old : ℕ → Option ℕ) (were : ArePlaces cells old) where
  found_with : (net place : ℕ) (o : Option ℕ) → computed_net c ≡ o → place_with o (length cells) old net ≡ Some place → computed_at (cells ++ c ∷ []) place ≡ Some net
  found_with net place None is e = computed_grown cells c place net (were.found net place e)
  found_with net place (Some n) is e = elim (cases_eq n net) [
    | inl same ↦
        let test = eq-eqb n net same in
        let here : Some (length cells) ≡ Some place = rw test at e in
        let at : length cells ≡ place = cc in
        subst (λ p. computed_at (cells ++ c ∷ []) p ≡ Some net) at (computed_last cells c ∙ is ∙ ap (λ m. Some m) same)
    | inr apart ↦
        let test = ne_eqb n net apart in
        let before : old net ≡ Some place = rw test at e in
        computed_grown cells c place net (were.found net place before)
  ]

  kept_old : (net other : ℕ) (o : Option ℕ) → old net ≡ Some other → (p : ℕ) × (place_with o (length cells) old net ≡ Some p)
  kept_old net other None e = (other, e)
  kept_old net other (Some n) e = elim (cases_eq n net) [
    | inl same ↦ (length cells, let test = eq-eqb n net same in rw test)
    | inr apart ↦ (other, let test = ne_eqb n net apart in rw test e)
  ]

  kept_new : (net : ℕ) → computed_net c ≡ Some net → place_with (computed_net c) (length cells) old net ≡ Some (length cells)
  kept_new net e = let test = eq-eqb net net refl in rw (e, test)

  pub ArePlaces-push : (new : ℕ → Option ℕ) → ((net : ℕ) → new net ≡ place_with (computed_net c) (length cells) old net) → ArePlaces (cells ++ c ∷ []) new
  ArePlaces-push new put = record {
    found = λ net place e. found_with net place (computed_net c) refl (sym (put net) ∙ e);
    kept = λ net place e. elim (computed_push cells c place net e) [
      | inl was ↦ (let k = were.kept net place was in let p = kept_old net k.0 (computed_net c) k.1 in (p.0, put net ∙ p.1))
      | inr now' ↦ (length cells, put net ∙ kept_new net now'.1)
    ];
  }

-- up to the next cell of a list
pub places_more : (cells : List Cell) (i : ℕ) (cell : Cell) (old new : ℕ → Option ℕ) → i < length cells → cell ≡ get_or cells i cell
    → ArePlaces (plain_cells (take i cells)) old → ((net : ℕ) → new net ≡ place_with (computed_net (plain_cell cell)) i old net) → ArePlaces (plain_cells (take (i + 1) cells)) new
places_more cells i cell old new within is were put =
    subst (λ cs. ArePlaces cs new) (sym (plain_more cells i cell within is))
    (ArePlaces-push (plain_cells (take i cells)) (plain_cell cell) old were new (subst (λ n. (net : ℕ) → new net ≡ place_with (computed_net (plain_cell cell)) n old net) (sym (length_taken cells i within)) put))

-- no net is computed twice where none is driven twice
drives_computed : (cells : List PlainCell) (cell : PlainCell) (net : ℕ) → computed_net cell ≡ Some net → drives_net cells net cell ≡ true
drives_computed cells (op_cell n ty op x y) net e = let test = eq-eqb n net (cc) in rw test
drives_computed cells (not_cell n ty x) net e = let test = eq-eqb n net (cc) in rw test
drives_computed cells (shift_cell n ty side x places) net e = let test = eq-eqb n net (cc) in rw test
drives_computed cells (cast_cell n from to x) net e = let test = eq-eqb n net (cc) in rw test
drives_computed cells (mux_cell n width choice x y) net e = let test = eq-eqb n net (cc) in rw test
drives_computed cells (in_cell name n ty) net e = absurd (cc)
drives_computed cells (out_cell name n ty) net e = absurd (cc)
drives_computed cells (done_cell n) net e = absurd (cc)
drives_computed cells (const_cell n width word) net e = absurd (cc)
drives_computed cells (reg_cell n width first next enable) net e = absurd (cc)
drives_computed cells (bank_cell bank width len) net e = absurd (cc)
drives_computed cells (read_tap n bank enable addr) net e = absurd (cc)
drives_computed cells (write_tap bank enable addr word) net e = absurd (cc)
drives_computed cells (dram_cell dram name ty dims) net e = absurd (cc)
drives_computed cells (load_unit channel dram ready n request last addr) net e = absurd (cc)
drives_computed cells (store_unit channel dram ready request last addr word) net e = absurd (cc)

one_passes : (p : PlainCell → Bool) (net : ℕ) → ((x : PlainCell) → computed_net x ≡ Some net → p x ≡ true) → (xs : List PlainCell) (i : ℕ) → computed_at xs i ≡ Some net → 1 ≤ count_by p xs
one_passes p net all [] i e = absurd (cc)
one_passes p net all (x ∷ xs) zero e = omega (arith, count-cons_yes p x xs (all x e))
one_passes p net all (x ∷ xs) (suc i) e = omega (arith, count-cons p x xs, one_passes p net all xs i e)

two_pass : (p : PlainCell → Bool) (net : ℕ) → ((x : PlainCell) → computed_net x ≡ Some net → p x ≡ true) → (xs : List PlainCell) (i j : ℕ) → computed_at xs i ≡ Some net → computed_at xs j ≡ Some net → i ≢ j → 2 ≤ count_by p xs
two_pass p net all [] i j e f apart = absurd (cc)
two_pass p net all (x ∷ xs) zero zero e f apart = absurd (apart refl)
two_pass p net all (x ∷ xs) zero (suc j) e f apart = omega (arith, count-cons_yes p x xs (all x e), one_passes p net all xs j f)
two_pass p net all (x ∷ xs) (suc i) zero e f apart = omega (arith, count-cons_yes p x xs (all x f), one_passes p net all xs i e)
two_pass p net all (x ∷ xs) (suc i) (suc j) e f apart = omega (arith, count-cons p x xs, two_pass p net all xs i j e f (λ same. apart (ap suc same)))

pub computed_once : (cells : List PlainCell) → ((net : ℕ) → driver_count cells net ≤ 1) → ComputedOnce cells
computed_once cells driven i j net e f =
    elim (cases_eq i j) [
      | inl same ↦ same
      | inr apart ↦
          let two = two_pass (drives_net cells net) net (λ x h. drives_computed cells x net h) cells i j e f apart in
          let all = any_count (is_net net) (drives cells) cells in
          let few = driven net in
          absurd (omega (arith, two, all, few))
    ]

-- more targets of one node
pub HasTargets-none : (graph : List (List ℕ)) (from : ℕ) → HasTargets graph graph from []
HasTargets-none graph from = record { same_nodes = refl; own = sym (append-nil (targets_of graph from)); others = λ node apart. refl }

pub HasTargets-more : (f : ℕ → Option ℕ) (a b c : List (List ℕ)) (from : ℕ) (xs ys : List ℕ) → HasTargets a b from (filter_map f xs) → HasTargets b c from (filter_map f ys) → HasTargets a c from (filter_map f (xs ++ ys))
HasTargets-more f a b c from xs ys one two = record {
  same_nodes = two.same_nodes ∙ one.same_nodes;
  own = two.own ∙ ap (λ ts. ts ++ filter_map f ys) one.own ∙ append_assoc (targets_of a from) (filter_map f xs) (filter_map f ys) ∙ ap (λ ts. targets_of a from ++ ts) (sym (filter_map-append f xs ys));
  others = λ node apart. two.others node apart ∙ one.others node apart;
}

-- the operands at a place, once a cell is added
operands_last : (cells : List PlainCell) (c : PlainCell) → operands_at (cells ++ c ∷ []) (length cells) ≡ operands c
operands_last [] c = refl
operands_last (x ∷ cells) c = operands_last cells c

operands_past : (cells : List PlainCell) → operands_at cells (length cells) ≡ []
operands_past [] = refl
operands_past (x ∷ cells) = operands_past cells

operands_other : (cells : List PlainCell) (c : PlainCell) (place : ℕ) → place ≢ length cells → operands_at (cells ++ c ∷ []) place ≡ operands_at cells place
operands_other [] c zero apart = absurd (apart refl)
operands_other [] c (suc place) apart = refl
operands_other (x ∷ cells) c zero apart = refl
operands_other (x ∷ cells) c (suc place) apart = operands_other cells c place (λ same. apart (ap suc same))

-- each node's targets are the places of its operands
pub record HasRows (place_of : ℕ → Option ℕ) (cells : List PlainCell) (graph : List (List ℕ)) : Type 0 where
  pub row : (node : ℕ) → targets_of graph node ≡ filter_map place_of (operands_at cells node)

pub HasRows-none : (place_of : ℕ → Option ℕ) (nodes : ℕ) → HasRows place_of [] (replicate nodes [])
HasRows-none place_of nodes = record {
  row = λ node. unwrap_or-slice_get (replicate nodes []) node [] ∙ elim (cases_lt node nodes) [
    | inl h ↦ get_or-replicate nodes node [] [] h
    | inr h ↦ get_or_past (replicate nodes []) node [] (simp length-replicate h)
  ];
}

HasRows-push : (place_of : ℕ → Option ℕ) (cells : List PlainCell) (c : PlainCell) (old new : List (List ℕ)) → HasRows place_of cells old → HasTargets old new (length cells) (filter_map place_of (operands c)) → HasRows place_of (cells ++ c ∷ []) new
HasRows-push place_of cells c old new rows more = record {
  row = λ node. elim (cases_eq node (length cells)) [
    | inl same ↦ subst (λ n. targets_of new n ≡ filter_map place_of (operands_at (cells ++ c ∷ []) n)) (sym same)
        (more.own ∙ ap (λ ts. ts ++ filter_map place_of (operands c)) (rows.row (length cells) ∙ ap (filter_map place_of) (operands_past cells)) ∙ ap (filter_map place_of) (sym (operands_last cells c)))
    | inr apart ↦ more.others node apart ∙ rows.row node ∙ ap (filter_map place_of) (sym (operands_other cells c node apart))
  ];
}

pub rows_more : (place_of : ℕ → Option ℕ) (cells : List Cell) (i : ℕ) (cell : Cell) (old new : List (List ℕ)) → i < length cells → cell ≡ get_or cells i cell
    → HasRows place_of (plain_cells (take i cells)) old → HasTargets old new i (filter_map place_of (operands (plain_cell cell))) → HasRows place_of (plain_cells (take (i + 1) cells)) new
rows_more place_of cells i cell old new within is rows more =
    subst (λ cs. HasRows place_of cs new) (sym (plain_more cells i cell within is))
    (HasRows-push place_of (plain_cells (take i cells)) (plain_cell cell) old new rows (subst (λ n. HasTargets old new n (filter_map place_of (operands (plain_cell cell)))) (sym (length_taken cells i within)) more))

-- what a filter keeps comes from the list, and the other way round
filter_source : (f : ℕ → Option ℕ) (xs : List ℕ) (y : ℕ) → Contains (filter_map f xs) y → (x : ℕ) × Contains xs x × (f x ≡ Some y)
filter_source f [] y within = absurd (let k = within.1 in omega (arith, k))
filter_source f (x ∷ xs) y within = go (f x) refl within (filter_source f xs y)
  where
    go : (o : Option ℕ) → f x ≡ o → Contains (cons_option o (filter_map f xs)) y → (Contains (filter_map f xs) y → (z : ℕ) × Contains xs z × (f z ≡ Some y)) → (z : ℕ) × Contains (x ∷ xs) z × (f z ≡ Some y)
    go None o w rest = let r = rest w in (r.0, Contains-later x xs r.0 r.1, r.2)
    go (Some v) o (zero, h, e) rest = (x, Contains-here x xs, o ∙ ap (λ n. Some n) e)
    go (Some v) o (suc k, h, e) rest = let r = rest (k, omega (arith, h), e) in (r.0, Contains-later x xs r.0 r.1, r.2)

filter_has : (f : ℕ → Option ℕ) (xs : List ℕ) (x y : ℕ) → Contains xs x → f x ≡ Some y → Contains (filter_map f xs) y
filter_has f [] x y within e = absurd (let k = within.1 in omega (arith, k))
filter_has f (z ∷ xs) x y (zero, h, same) e = rw (ap f same ∙ e) (Contains-here y (filter_map f xs))
filter_has f (z ∷ xs) x y (suc k, h, same) e = go (f z) (filter_has f xs x y (k, omega (arith, h), same) e)
  where
    go : (o : Option ℕ) → Contains (filter_map f xs) y → Contains (cons_option o (filter_map f xs)) y
    go None w = w
    go (Some v) w = Contains-later v (filter_map f xs) y w

pub IsCellGraph-rows : (cells : List PlainCell) (place_of : ℕ → Option ℕ) (graph : List (List ℕ)) → ComputedOnce cells → ArePlaces cells place_of → length graph ≡ length cells → HasRows place_of cells graph → IsCellGraph cells graph
IsCellGraph-rows cells place_of graph once places nodes rows = record {
  each_cell = nodes;
  edges = λ from to. (
    λ edge. let h = filter_source place_of (operands_at cells from) to (subst (λ ts. Contains ts to) (rows.row from) edge) in (h.0, h.1, places.found h.0 to h.2),
    λ p. subst (λ ts. Contains ts to) (sym (rows.row from)) (filter_has place_of (operands_at cells from) p.0 to p.1 (place_is cells place_of once places p.0 to p.2)),
  );
}

-- a place in the map is that of a cell
pub place_within : (cells : List Cell) (place_of : ℕ → Option ℕ) (n : ℕ) → ArePlaces (plain_cells cells) place_of → n ≡ length cells → (net place : ℕ) → place_of net ≡ Some place → place < n
place_within cells place_of n places size net place e =
    let h = computed_within (plain_cells cells) place net (places.found net place e) in
    omega (arith, h, size, length-map cells plain_cell)

-- the least net on a loop, with one cell more
pub looped_more : (cells : List Cell) (graph : List (List ℕ)) (numbers : List ℕ) (i : ℕ) (cell : Cell) (best here new : Option ℕ) → i < length cells → cell ≡ get_or cells i cell
    → IsLeastOrNone (IsComputedOnLoop (plain_cells (take i cells)) graph numbers) best → IsLeastOrNone (λ net. (computed_net (plain_cell cell) ≡ Some net) × StaysAt graph numbers i) here → new ≡ least_of best here
    → IsLeastOrNone (IsComputedOnLoop (plain_cells (take (i + 1) cells)) graph numbers) new
looped_more cells graph numbers i cell best here new within is least at note =
    let front = plain_cells (take i cells) in
    rw (note, plain_more cells i cell within is)
    (least_of_two (IsComputedOnLoop front graph numbers) (λ net. (computed_net (plain_cell cell) ≡ Some net) × StaysAt graph numbers i) (IsComputedOnLoop (front ++ plain_cell cell ∷ []) graph numbers) best here least at
    (λ net h. elim (computed_push front (plain_cell cell) h.0 net h.1) [
      | inl old ↦ inl (h.0, old, h.2)
      | inr new' ↦ inr (new'.1, subst (StaysAt graph numbers) (new'.0 ∙ length_taken cells i within) h.2)
    ])
    (λ net h. (h.0, computed_grown front (plain_cell cell) h.0 net h.1, h.2))
    (λ net h. (i, subst (λ p. computed_at (front ++ plain_cell cell ∷ []) p ≡ Some net) (length_taken cells i within) (computed_last front (plain_cell cell) ∙ h.0), h.1)))
