-- The distance of two accesses is no greater than that at which they touch one element.
use Rattle.std.proofs.Common.{◌≡◌, inl, inr, ℕ, suc, ◌+◌, ◌-◌, ◌*◌, ◌<◌, ◌≤◌, Bool, true, false, ℤ, pos, ◌+ℤ◌, List, [], ◌∷◌, ◌++◌, length, refl, ap, sym, ◌∙◌, subst, arith}
use Rattle.std.specs.Prelude.{◌⊎◌, Option, Some, None, if◌then◌else◌}
use Rattle.std.specs.Bool.{Decides}
use Rattle.std.proofs.lemmas.Int.{ints}
use Rattle.sp_affine.specs.Affine.{Affine}
use Rattle.sp_affine.specs.Equality.{linear_parts_equal, Decides-linear_parts_equal}
use Rattle.sp_deps.specs.declared.access.Dist.{Dist}
use Rattle.sp_deps.specs.declared.access.Dist.TheVariants.{Never, AtLeast}
use Rattle.sp_deps.specs.declared.access.LoopRange.{LoopRange}
use Rattle.sp_deps.specs.declared.class.Class.TheVariants.{Same, Steps, Earlier}
use Rattle.sp_deps.specs.Access.{PlainAccess, advance}
use Rattle.sp_deps.specs.Classes.{Loops, may_meet}
use Rattle.sp_deps.specs.Distances.{all_common, IsLeast, IsLeastUpTo, AreParallel, ArePresentAndParallel, IsDistance, IsDistanceOver, earlier_may_meet, steps_may_meet}
use Rattle.sp_deps.specs.Groups.{HaveValues, AreGroupsOn, TouchOne, HaveLength, IsWithinDistance, AreTouching, IsSound}
use Rattle.sp_deps.proofs.Open.{open_steps, open_earlier, open_same, never_out, Values}
use Rattle.sp_deps.proofs.Parallel.{among_earlier}
use Rattle.sp_deps.proofs.Sound.{lengths_of_values, Along, Jumps, Moves, moves}

-- whether the linear parts are equal can be told
decide_lists : (fs gs : List Affine) → AreParallel fs gs ⊎ (AreParallel fs gs → ⊥)
decide_lists [] gs = inl tt
decide_lists (f ∷ fs) [] = inl tt
decide_lists (f ∷ fs) (g ∷ gs) = both (linear_parts_equal f g) (Decides-linear_parts_equal f g) (decide_lists fs gs)
  where
    both : {P Q : Type 0} (b : Bool) → Decides b P → (Q ⊎ (Q → ⊥)) → (P × Q) ⊎ (P × Q → ⊥)
    both true d (inl q) = inl (d.0 refl, q)
    both true d (inr n) = inr (λ z. n z.1)
    both false d r = inr (λ z. no (d.1 z.0))
      where
        no : false ≡ true → ⊥
        no e = cc

decide_parallel : (first second : Option (List Affine)) → ArePresentAndParallel first second ⊎ (ArePresentAndParallel first second → ⊥)
decide_parallel None second = inr (λ z. z)
decide_parallel (Some fs) None = inr (λ z. z)
decide_parallel (Some fs) (Some gs) = decide_lists fs gs

no_pass : (b : Bool) → b ≡ true → b ≡ false → ⊥
no_pass b e f = cc

least_within : (passes : ℕ → Bool) (d : Dist) (k : ℕ) → IsLeast passes d → 1 ≤ k → passes k ≡ true → IsWithinDistance k d
least_within passes Never k h some p = no_pass _ p (h k some)
least_within passes (AtLeast j) k h some p = not_less j k (λ less. no_pass _ p (h.2 k some less))
  where
    not_less : (j k : ℕ) → (k < j → ⊥) → j ≤ k
    not_less j k h = grind arith

least_up_to_within : (n : ℕ) (passes : ℕ → Bool) (d : Dist) (k : ℕ) → IsLeastUpTo n passes d → 1 ≤ k → passes k ≡ true → IsWithinDistance k d
least_up_to_within n passes Never k h some p = h
least_up_to_within n passes (AtLeast j) k h some p = not_less j k (λ less. no_pass _ p (h.3 k some less))
  where
    not_less : (j k : ℕ) → (k < j → ⊥) → j ≤ k
    not_less j k h = grind arith

one_within : (d : Dist) (k : ℕ) → d ≡ AtLeast 1 → 1 ≤ k → IsWithinDistance k d
one_within d k e some = let P : Dist → Type 0 = IsWithinDistance k in subst P (sym e) some

by_steps : (ls : List LoopRange) (first second : Option (List Affine)) (d : Dist) (k : ℕ) → IsDistanceOver (all_common ls) first second (length ls) d → 0 < length ls → 1 ≤ k →
    steps_may_meet (all_common ls) first second k ≡ true → IsWithinDistance k d
by_steps ls first second d k is some more p = by_earlier (earlier_may_meet (all_common ls) first second (length ls - 1)) refl
  where
    by_earlier : (b : Bool) → earlier_may_meet (all_common ls) first second (length ls - 1) ≡ b → IsWithinDistance k d
    by_earlier true e = one_within d k (is.by_earlier some e) more
    by_earlier false e = by_linear (decide_parallel first second)
      where
        by_linear : (ArePresentAndParallel first second ⊎ (ArePresentAndParallel first second → ⊥)) → IsWithinDistance k d
        by_linear (inl h) = least_within _ d k (is.parallel some e h) more p
        by_linear (inr h) = least_up_to_within 64 _ d k (is.slanted some e h) more p

-- the class of the groups between two accesses that touch one element
module _ (loops : Loops) (first second : Option (List Affine)) (o x y u v : List ℤ) (symbols : ℕ → ℤ)
    (m : HaveLength (length o + (length loops.common + length loops.first)) first) (n : HaveLength (length o + (length loops.common + length loops.second)) second)
    (hx : HaveValues loops.common x) (hy : HaveValues loops.common y) (hu : HaveValues loops.first u) (hv : HaveValues loops.second v)
    (e : TouchOne first second (o ++ (x ++ u)) (o ++ (y ++ v)) symbols) where
  values : Values loops Same o x y u v symbols
  values = (lengths_of_values loops.common x hx, lengths_of_values loops.common y hy, hu, hv)

  pub met_in_same : x ≡ y → may_meet loops Same first second ≡ true
  met_in_same same = never_out loops Same o x y u v symbols first second (λ f g s. open_same loops f g o x y u v symbols s same) values m n e

  pub met_in_steps : (k : ℕ) → Along loops.common x y k → may_meet loops (Steps k) first second ≡ true
  met_in_steps k a = never_out loops (Steps k) o x y u v symbols first second (λ f g s. open_steps loops f g o x y u v symbols s k a hx) values m n e

  pub met_in_earlier : (i : ℕ) → Jumps i loops.common x y → may_meet loops (Earlier i) first second ≡ true
  met_in_earlier i j = never_out loops (Earlier i) o x y u v symbols first second (λ f g s. open_earlier loops f g o x y u v symbols s i j) values m n e

-- in the same group all counters agree
pub same_group : (ls : List LoopRange) (xs ys : List ℤ) → AreGroupsOn ls xs ys 0 → xs ≡ ys
same_group [] [] [] h = refl
same_group [] [] (y ∷ ys) h = absurd h
same_group [] (x ∷ xs) ys h = absurd h
same_group (l ∷ []) [] ys h = absurd h
same_group (l ∷ []) (x ∷ []) [] h = absurd h
same_group (l ∷ []) (x ∷ []) (y ∷ []) h = ap (λ z. z ∷ []) (no_steps x y h)
  where
    no_steps : (x y : ℤ) → y ≡ x +ℤ pos (0 * advance l) → x ≡ y
    no_steps x y e = omega (arith, ints)
same_group (l ∷ []) (x ∷ []) (y ∷ z ∷ ys) h = absurd h
same_group (l ∷ []) (x ∷ z ∷ xs) ys h = absurd h
same_group (l ∷ m ∷ ls) [] ys h = absurd h
same_group (l ∷ m ∷ ls) (x ∷ xs) [] h = absurd h
same_group (l ∷ m ∷ ls) (x ∷ xs) (y ∷ ys) (inl (e, on)) = ap (λ z. z ∷ xs) e ∙ ap (λ zs. y ∷ zs) (same_group (m ∷ ls) xs ys on)
same_group (l ∷ m ∷ ls) (x ∷ xs) (y ∷ ys) (inr (later, more)) = absurd (omega arith)

-- what accesses that touch one element tell of the classes
module _ (loops : Loops) (a b : PlainAccess) (k : ℕ) (t : AreTouching loops a b k) where
  pub touching_same : t.xs ≡ t.ys → may_meet loops Same a.forms b.forms ≡ true
  touching_same e =
      met_in_same loops a.forms b.forms t.outer t.xs t.ys t.us t.vs t.symbols t.first_length t.second_length t.first_values t.second_values t.first_own t.second_own t.one e

  pub touching_moves : 0 < length loops.common → (may_meet loops (Steps k) a.forms b.forms ≡ true)
      ⊎ ((i : ℕ) × (suc i < length loops.common) × (may_meet loops (Earlier i) a.forms b.forms ≡ true))
  touching_moves some = by_move (moves loops.common t.xs t.ys k t.goes_on t.first_values t.second_values t.groups some)
    where
      by_move : Moves loops.common t.xs t.ys k → (may_meet loops (Steps k) a.forms b.forms ≡ true)
          ⊎ ((i : ℕ) × (suc i < length loops.common) × (may_meet loops (Earlier i) a.forms b.forms ≡ true))
      by_move (inl along) =
          inl (met_in_steps loops a.forms b.forms t.outer t.xs t.ys t.us t.vs t.symbols t.first_length t.second_length t.first_values t.second_values t.first_own t.second_own t.one k along)
      by_move (inr (i, less, more, jumps)) =
          inr (i, less, met_in_earlier loops a.forms b.forms t.outer t.xs t.ys t.us t.vs t.symbols t.first_length t.second_length t.first_values t.second_values t.first_own t.second_own t.one i jumps)

pub sound : (a b : PlainAccess) (ls : List LoopRange) (d : Dist) → IsDistance a b ls d → IsSound a b ls d
sound a b [] d is k some t =
    let none : k ≡ 0 = no_group t.xs t.ys k t.groups in
    let over = is.together t.can in
    let same : t.xs ≡ t.ys = (let P : ℕ → Type 0 = AreGroupsOn [] t.xs t.ys in same_group [] t.xs t.ys (subst P none t.groups)) in
    let met = touching_same (all_common []) a b k t same in
    let P : Dist → Type 0 = IsWithinDistance k in
    subst P (sym (over.one_group refl ∙ ap (λ z. if z then AtLeast 0 else Never) met)) (omega arith)
  where
    no_group : (xs ys : List ℤ) (k : ℕ) → AreGroupsOn [] xs ys k → k ≡ 0
    no_group [] [] k h = h
    no_group [] (y ∷ ys) k h = absurd h
    no_group (x ∷ xs) ys k h = absurd h
sound a b (l ∷ ls) d is k some t = by_class (touching_moves (all_common (l ∷ ls)) a b k t more)
  where
    more : 0 < length (l ∷ ls)
    more = omega arith

    by_class : ((may_meet (all_common (l ∷ ls)) (Steps k) a.forms b.forms ≡ true) ⊎ ((i : ℕ) × (suc i < length (l ∷ ls)) × (may_meet (all_common (l ∷ ls)) (Earlier i) a.forms b.forms ≡ true))) → IsWithinDistance k d
    by_class (inl met) = by_steps (l ∷ ls) a.forms b.forms d k (is.together t.can) more (some more) met
    by_class (inr (i, less, met)) =
        let inside : i < length (l ∷ ls) - 1 = omega arith in
        one_within d k ((is.together t.can).by_earlier more (among_earlier (all_common (l ∷ ls)) a.forms b.forms (length (l ∷ ls) - 1) i inside met)) (some more)
