-- Levels rise from operands to what is computed of them, and steps that are sorted by levels are in an order.
use Rattle.std.proofs.Common.{◌≡◌, ℕ, ◌+◌, ◌<◌, ◌≤◌, List, [], ◌∷◌, ◌++◌, ◌==◌, cond, length, get_or, set, map, max, All, Contains, refl, sym, ap, ◌∙◌, subst, arith, ⊎_elim}
use Rattle.std.specs.List.{swap}
use Rattle.std.specs.List.Sorted.{IsPermutation, IsNonDecreasingBy}
use Rattle.std.proofs.Math.Nat.{le-max_left, le-max_right, max-le}
use Rattle.std.proofs.lemmas.Bool.{cases_eq}
use Rattle.std.proofs.lemmas.List.{get_or_at, get_or-append-add, length-append, length-map, map-set, get_or_default}
use Rattle.std.proofs.Math.ListN.{get_or-map}
use Rattle.std.proofs.lemmas.List as listed
use Rattle.std.proofs.lemmas.List.Elements.{Contains-append_cases}
use Rattle.std.proofs.lemmas.List.Sorted.{IsPermutation-refl, IsPermutation-trans, IsPermutation-swap, IsPermutation-keeps, IsPermutation-sym, All-permutation, Contains-permutation, length_permutation, sum_by-IsPermutation}
use Rattle.sp_netlist.specs.Cells.{PlainCell}
use Rattle.sp_netlist.specs.Rules.{drives, reads, driven_nets, IsNetlist}
use Rattle.sp_netlist.specs.Order.{IsComputing}
use Rattle.sp_sim.specs.declared.step.Step.{Step}
use Rattle.sp_sim.specs.Levels.{AreOrdered, Rises, raised}
use Rattle.sp_sim.specs.Rows.{word_of, with_word, nets_of}
use Rattle.sp_sim.specs.Settling.{cell_at}
use Rattle.sp_sim.specs.Steps.{cell_of, cells_of}
use Rattle.sp_sim.proofs.Begun.{zero_row, zero_nets, zero_words}
use Rattle.sp_sim.proofs.CellLemmas.{drives_driven}
use Rattle.sp_sim.proofs.Ordered.{cell_there, computing_there, nets_apart, reads_earlier}
use Rattle.sp_sim.proofs.RowLemmas.{word_of-put, word_of-put_other, nets_of-put}
use Rattle.sp_sim.proofs.Settled.{first_of_pair, pair_first}
use Rattle.sp_sim.proofs.StepNets.{drives_net, drives_only, reads_only}

-- the levels after the first i steps
pub record Levelled (cells : List PlainCell) (steps : List Step) (i : ℕ) (levels : List (ℕ × ℕ)) : Type 0 where
  pub covers : (net width : ℕ) → Contains (driven_nets cells) (net, width) → Contains (nets_of levels) net
  pub low : (net : ℕ) → word_of levels net ≤ i
  pub rises : (k : ℕ) (d : Step) → k < i → Rises cells (word_of levels) (get_or steps k d)

-- at the start all are 0
pub levelled_start : (cells : List PlainCell) (steps : List Step) (nets : List ℕ) (levels : List (ℕ × ℕ)) → levels ≡ map (λ n. (n, 0)) nets
    → ((net : ℕ) → Contains (map (λ p. p.0) (driven_nets cells)) net → Contains nets net) → Levelled cells steps 0 levels
unfolding zero_row
levelled_start cells steps nets levels e all = record {
  covers = λ n w c. subst (λ ns. Contains ns n) (sym (ap nets_of e ∙ zero_nets nets)) (all n (pair_first (driven_nets cells) n w c));
  low = λ n. (let z = ap (λ row. word_of row n) e ∙ zero_words nets n in omega (arith, z));
  rises = λ k d l. absurd (omega (arith, l));
}

module _ (cells : List PlainCell) (h : IsNetlist cells) (steps : List Step) (o : AreOrdered cells steps) where
  -- the net of a step stands in the levels
  stands : (i : ℕ) (levels : List (ℕ × ℕ)) → Levelled cells steps i levels → (j : ℕ) (d : Step) → j < length steps → Contains (nets_of levels) (get_or steps j d).net
  stands i levels v j d l =
      let s = get_or steps j d in
      let at = get_or o.order j 0 in
      let own = first_of_pair (drives cells (cell_of s)) s.net (drives_net cells s.task s.net s.first s.second s.third) in
      v.covers s.net own.0 (drives_driven cells at s.net own.0 (computing_there cells h steps o j l).0 (subst (λ c. Contains (drives cells c) (s.net, own.0)) (cell_there cells h steps o j d l) own.1))

  -- one more step
  pub levelled_more : (i : ℕ) (x : Step) (levels : List (ℕ × ℕ)) → i < length steps → x ≡ get_or steps i x → Levelled cells steps i levels → Levelled cells steps (i + 1) (raised levels x)
  unfolding raised
  levelled_more i x levels l e v = record {
    covers = λ n w c. subst (λ ns. Contains ns n) (sym (nets_of-put levels x.net level)) (v.covers n w c);
    low = λ n. ⊎_elim
        (λ same. let k = ap (word_of new) same ∙ own in omega (arith, k, high))
        (λ other. let k = word_of-put_other levels x.net level n other in let b = v.low n in omega (arith, k, b))
        (cases_eq n x.net);
    rises = λ k d b. ⊎_elim
        (λ same. subst (λ (s : Step). Rises cells (word_of new) s) (last k d same) above)
        (λ other. earlier k d (omega (arith, b, other)))
        (cases_eq k i);
  }
    where
      greatest : ℕ
      greatest = max (max (word_of levels x.first) (word_of levels x.second)) (word_of levels x.third)

      level : ℕ
      level = greatest + 1

      new : List (ℕ × ℕ)
      new = with_word levels x.net level

      high : level ≤ i + 1
      high = let m = max-le (max-le (v.low x.first) (v.low x.second)) (v.low x.third) in omega (arith, m)

      own : word_of new x.net ≡ level
      own = word_of-put levels x.net level (subst (λ (s : Step). Contains (nets_of levels) s.net) (sym e) (stands i levels v i x l))

      last : (k : ℕ) (d : Step) → k ≡ i → x ≡ get_or steps k d
      last k d same = e ∙ get_or_default steps i x d l ∙ ap (λ j. get_or steps j d) (sym same)

      above : Rises cells (word_of new) x
      above n r =
          let a = le-max_left (word_of levels x.first) (word_of levels x.second) in
          let b = le-max_right (word_of levels x.first) (word_of levels x.second) in
          let c = le-max_left (max (word_of levels x.first) (word_of levels x.second)) (word_of levels x.third) in
          let d = le-max_right (max (word_of levels x.first) (word_of levels x.second)) (word_of levels x.third) in
          let was = reads_only (λ m. word_of levels m ≤ greatest) cells x.task x.net x.first x.second x.third (omega (arith, a, c)) (omega (arith, b, c)) d n r in
          let far = reads_earlier cells h steps o i i x (omega arith) l n (subst (λ (s : Step). Contains (map (λ (p : ℕ × ℕ). p.0) (reads cells (cell_of s))) n) e r) in
          let same = word_of-put_other levels x.net level n (λ q. far (q ∙ ap (λ (s : Step). s.net) e)) in
          omega (arith, was, same, own)

      earlier : (k : ℕ) (d : Step) → k < i → Rises cells (word_of new) (get_or steps k d)
      earlier k d b n r =
          let there = sym (last i d refl) in
          let far = reads_earlier cells h steps o k i d (omega (arith, b)) l n r in
          let apart = nets_apart cells h steps o k i d b l in
          let one = word_of-put_other levels x.net level n (λ q. far (q ∙ ap (λ (s : Step). s.net) (sym there))) in
          let two = word_of-put_other levels x.net level (get_or steps k d).net (λ q. apart (q ∙ ap (λ (s : Step). s.net) (sym there))) in
          let was = v.rises k d b n r in
          omega (arith, one, two, was)

map-swap : {X Y : Type 0} (f : X → Y) (xs : List X) (i j : ℕ) → map f (swap xs i j) ≡ swap (map f xs) i j
map-swap f [] i j = refl
map-swap f (x ∷ xs) i j =
    map-set f (set (x ∷ xs) i (get_or (x ∷ xs) j x)) j (get_or (x ∷ xs) i x)
    ∙ (λ z. set (map-set f (x ∷ xs) i (get_or (x ∷ xs) j x) z) j (sym (get_or-map f (x ∷ xs) i x) z))
    ∙ ap (λ y. set (set (map f (x ∷ xs)) i y) j (get_or (map f (x ∷ xs)) i (f x))) (sym (get_or-map f (x ∷ xs) j x))

-- places that are moved as steps are
record Moved (cells : List PlainCell) (order : List ℕ) (steps : List Step) : Type 0 where
  pub places : List ℕ
  pub moved : IsPermutation order places
  pub same : cells_of steps ≡ map (cell_at cells) places

moved_along : (cells : List PlainCell) (steps new : List Step) (order : List ℕ) → cells_of steps ≡ map (cell_at cells) order → IsPermutation steps new → Moved cells order new
moved_along cells steps new order e p =
    IsPermutation-keeps steps (Moved cells order) (record { places = order; moved = IsPermutation-refl order; same = e }) one_swap new p
  where
    one_swap : (l : List Step) (i j : ℕ) → i < length l → j < length l → Moved cells order l → Moved cells order (swap l i j)
    one_swap l i j a b m =
        let long : length m.places ≡ length l = sym (length-map m.places (cell_at cells)) ∙ sym (ap length m.same) ∙ length-map l cell_of in
        record {
          places = swap m.places i j;
          moved = IsPermutation-trans order m.places (swap m.places i j) m.moved (IsPermutation-swap m.places (swap m.places i j) i j (omega (arith, long, a)) (omega (arith, long, b)) refl);
          same = map-swap cell_of l i j ∙ ap (λ cs. swap cs i j) m.same ∙ sym (map-swap (cell_at cells) m.places i j);
        }

some_of : (steps : List Step) → 0 < length steps → Step
some_of [] l = absurd (omega (arith, l))
some_of (s ∷ steps) l = s

module _ (cells : List PlainCell) (steps : List Step) (o : AreOrdered cells steps) (level : ℕ → ℕ) (new : List Step) (rises : All (Rises cells level) new) (p : IsPermutation steps new) (up : IsNonDecreasingBy (λ s. level s.net) new) where
  m : Moved cells o.order new
  m = moved_along cells steps new o.order o.computed p

  was : IsPermutation m.places o.order
  was = IsPermutation-sym o.order m.places m.moved

  long : length m.places ≡ length new
  long = sym (length-map m.places (cell_at cells)) ∙ sym (ap length m.same) ∙ length-map new cell_of

  there : (i : ℕ) (at : ℕ) (d : Step) → i < length new → get_or m.places i at ≡ at → cell_at cells at ≡ cell_of (get_or new i d)
  there i at d l e =
      ap (cell_at cells) (sym e) ∙ sym (get_or-map (cell_at cells) m.places i at)
      ∙ ap (λ cs. get_or cs i (cell_at cells at)) (sym m.same)
      ∙ listed.get_or-map cell_of new i d (cell_at cells at) l

  -- a step that drives what another one reads doesn't come after it
  not_late : (i j at driver net : ℕ) (d : Step) → i ≤ j → j < length new → get_or m.places i at ≡ at → get_or m.places j driver ≡ driver
      → Contains (map (λ p. p.0) (reads cells (cell_at cells at))) net → Contains (map (λ p. p.0) (drives cells (cell_at cells driver))) net → ⊥
  not_late i j at driver net d l k e f r v =
      let s = get_or new i d in
      let t = get_or new j d in
      let read = rises i d (omega (arith, l, k)) net (subst (λ c. Contains (map (λ (q : ℕ × ℕ). q.0) (reads cells c)) net) (there i at d (omega (arith, l, k)) e) r) in
      let same = drives_only cells t.task t.net t.first t.second t.third net (subst (λ c. Contains (map (λ (q : ℕ × ℕ). q.0) (drives cells c)) net) (there j driver d k f) v) in
      let rise = up i j d l k in
      let equal = ap level same in
      omega (arith, read, rise, equal)

  operands_first : (before : List ℕ) (at : ℕ) (after : List ℕ) → m.places ≡ before ++ at ∷ after → (net driver : ℕ) → Contains (map (λ p. p.0) (reads cells (cell_at cells at))) net
      → IsComputing cells driver → Contains (map (λ p. p.0) (drives cells (cell_at cells driver))) net → Contains before driver
  operands_first before at after split net driver r c v =
      ⊎_elim (λ k. k) (λ k. absurd (late k))
      (Contains-append_cases before (at ∷ after) driver (subst (λ xs. Contains xs driver) split (Contains-permutation o.order m.places driver m.moved (o.is_order.complete driver c))))
    where
      late : Contains (at ∷ after) driver → ⊥
      late k =
          let n = length before in
          let far : n + k.0 < length new = let b = k.1 in let all = ap length split ∙ length-append before (at ∷ after) in omega (arith, b, all, long) in
          let first : get_or m.places n at ≡ at = ap (λ xs. get_or xs n at) split ∙ get_or_at before at after at n refl in
          let second : get_or m.places (n + k.0) driver ≡ driver = ap (λ xs. get_or xs (n + k.0) driver) split ∙ get_or-append-add before (at ∷ after) k.0 driver ∙ k.2 in
          not_late n (n + k.0) at driver net (some_of new (omega (arith, far))) (omega arith) far first second r v

  pub sorted_steps : AreOrdered cells new
  unfolding cell_at
  sorted_steps = record {
    order = m.places;
    is_order = record {
      computing = All-permutation (IsComputing cells) o.order m.places m.moved o.is_order.computing;
      complete = λ at c. Contains-permutation o.order m.places at m.moved (o.is_order.complete at c);
      number = length_permutation o.order m.places m.moved ∙ o.is_order.number;
      once = λ at. (let same = sum_by-IsPermutation (λ other. cond (other == at) 1 0) o.order m.places m.moved in let one = o.is_order.once at in omega (arith, same, one));
      operands_first = operands_first;
    };
    computed = m.same;
  }
