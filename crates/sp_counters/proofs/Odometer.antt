-- The counters of nested loops go on as their groups do. What is left of the groups from some values on is a list by
-- structure, and one step takes its first element away.
use Rattle.std.proofs.Common.{◌≡◌, ◌≤◌, Bool, true, false, not, ◌&&◌, ℤ, pos, ◌+ℤ◌, List, [], ◌∷◌, ◌++◌, map, flat_map, length, refl, sym, ap, ap₂, ◌∙◌, arith, if◌then◌else◌}
use Rattle.std.specs.Prelude.{int_lt}
use Rattle.sp_core.specs.Elements.{values_below}
use Rattle.sp_core.specs.Scope.{Loop, group_values}
use Rattle.sp_counters.proofs.Values.{values_go_on}

abbrev pub values_of : Loop → List ℤ
values_of l = values_below l.from l.until l.advance

-- whether a counter has its last value, and whether all have
abbrev pub is_last : Loop → ℤ → Bool
is_last l v = not (int_lt (v +ℤ pos l.advance) l.until)

abbrev pub are_last : List Loop → List ℤ → Bool
are_last (l ∷ loops) (v ∷ vs) = is_last l v && are_last loops vs
are_last _ _ = true

-- the values after these: a counter goes on where all after it have their last ones
abbrev pub next_values : List Loop → List ℤ → List ℤ
next_values (l ∷ loops) (v ∷ vs) = (if are_last loops vs then (if is_last l v then l.from else v +ℤ pos l.advance) else v) ∷ next_values loops vs
next_values _ _ = []

-- each of some values of a counter, with all groups of the counters after it
abbrev pub rows : List Loop → List ℤ → List (List ℤ)
rows loops xs = flat_map (λ x. map (λ others. x ∷ others) (group_values loops)) xs

-- what is left of the groups, these values first
abbrev pub left : List Loop → List ℤ → List (List ℤ)
left [] [] = [] ∷ []
left (l ∷ loops) (v ∷ vs) = map (λ others. v ∷ others) (left loops vs) ++ rows loops (values_below (v +ℤ pos l.advance) l.until l.advance)
left _ _ = []

abbrev pub all_go_on : List Loop → Type 0
all_go_on [] = Unit {0}
all_go_on (l ∷ loops) = (1 ≤ l.advance) × all_go_on loops

-- whether each counter has a value
abbrev pub have_values : List Loop → Bool
have_values [] = true
have_values (l ∷ loops) = int_lt l.from l.until && have_values loops

abbrev pub firsts : List Loop → List ℤ
firsts loops = map (λ l. l.from) loops

and_parts : (a b : Bool) → (a && b) ≡ true → (a ≡ true) × (b ≡ true)
and_parts true true e = (refl, refl)
and_parts true false e = absurd (cc)
and_parts false b e = absurd (cc)

-- from the first values on all groups are left
pub all_left : (loops : List Loop) → all_go_on loops → have_values loops ≡ true → left loops (firsts loops) ≡ group_values loops
all_left [] h e = refl
all_left (l ∷ loops) h e =
    let p = and_parts (int_lt l.from l.until) (have_values loops) e in
    ap (λ g. map (λ others. l.from ∷ others) g ++ rows loops (values_below (l.from +ℤ pos l.advance) l.until l.advance)) (all_left loops h.1 p.1)
    ∙ ap (rows loops) (sym (values_go_on l.from l.until l.advance h.0 ∙ ap (λ t. if t then l.from ∷ values_below (l.from +ℤ pos l.advance) l.until l.advance else []) p.0))

no_groups : (xs : List ℤ) (gs : List (List ℤ)) → gs ≡ [] → flat_map (λ x. map (λ others. x ∷ others) gs) xs ≡ []
no_groups [] gs e = refl
no_groups (x ∷ xs) gs e = ap (λ g. map (λ others. x ∷ others) g ++ flat_map (λ x. map (λ others. x ∷ others) gs) xs) e ∙ no_groups xs gs e

-- a loop with a counter without values has no group
pub none_at_all : (loops : List Loop) → all_go_on loops → have_values loops ≡ false → group_values loops ≡ []
none_at_all [] h e = absurd (cc)
none_at_all (l ∷ loops) h e = by_first (int_lt l.from l.until) refl (λ p. none_at_all loops h.1 (ap (λ t. t && have_values loops) (sym p) ∙ e))
  where
    by_first : (t : Bool) → int_lt l.from l.until ≡ t → (int_lt l.from l.until ≡ true → group_values loops ≡ []) → group_values (l ∷ loops) ≡ []
    by_first true p k = no_groups (values_of l) (group_values loops) (k p)
    by_first false p k = ap (rows loops) (values_go_on l.from l.until l.advance h.0 ∙ ap (λ t. if t then l.from ∷ values_below (l.from +ℤ pos l.advance) l.until l.advance else []) p)

-- after their last values all counters have their first ones
pub from_the_first : (loops : List Loop) (vs : List ℤ) → length vs ≡ length loops → are_last loops vs ≡ true → next_values loops vs ≡ firsts loops
from_the_first [] vs n e = refl
from_the_first (l ∷ loops) [] n e = absurd (omega (arith, n))
from_the_first (l ∷ loops) (v ∷ vs) n e =
    let p = and_parts (is_last l v) (are_last loops vs) e in
    ap₂ (λ a b. (if a then (if b then l.from else v +ℤ pos l.advance) else v) ∷ next_values loops vs) p.1 p.0
    ∙ ap (λ xs. l.from ∷ xs) (from_the_first loops vs (omega (arith, n)) p.1)

not_true : (b : Bool) → not b ≡ true → b ≡ false
not_true true e = absurd (cc)
not_true false e = refl

not_false : (b : Bool) → not b ≡ false → b ≡ true
not_false true e = refl
not_false false e = absurd (cc)

and_false : (b : Bool) → (b && false) ≡ false
and_false true = refl
and_false false = refl

-- one step takes the first away
pub step_left : (loops : List Loop) (vs : List ℤ) → all_go_on loops → have_values loops ≡ true → length vs ≡ length loops → left loops vs ≡ vs ∷ (if are_last loops vs then [] else left loops (next_values loops vs))
step_left [] [] h some n = refl
step_left [] (v ∷ vs) h some n = absurd (omega (arith, n))
step_left (l ∷ loops) [] h some n = absurd (omega (arith, n))
step_left (l ∷ loops) (v ∷ vs) h some n =
    let p = and_parts (int_lt l.from l.until) (have_values loops) some in
    ap (λ g. map (λ x. v ∷ x) g ++ rows loops (values_below (v +ℤ pos l.advance) l.until l.advance)) (step_left loops vs h.1 p.1 (omega (arith, n)))
    ∙ by_rest (are_last loops vs) refl
  where
    ahead : (t : Bool) → int_lt (v +ℤ pos l.advance) l.until ≡ t → rows loops (values_below (v +ℤ pos l.advance) l.until l.advance) ≡ rows loops (if t then (v +ℤ pos l.advance) ∷ values_below ((v +ℤ pos l.advance) +ℤ pos l.advance) l.until l.advance else [])
    ahead t e = ap (rows loops) (values_go_on (v +ℤ pos l.advance) l.until l.advance h.0 ∙ ap (λ t. if t then (v +ℤ pos l.advance) ∷ values_below ((v +ℤ pos l.advance) +ℤ pos l.advance) l.until l.advance else []) e)

    by_first : (b : Bool) → is_last l v ≡ b → are_last loops vs ≡ true
        → rows loops (values_below (v +ℤ pos l.advance) l.until l.advance) ≡ (if b && true then [] else map (λ x. (if b then l.from else v +ℤ pos l.advance) ∷ x) (left loops (next_values loops vs)) ++ rows loops (values_below ((if b then l.from else v +ℤ pos l.advance) +ℤ pos l.advance) l.until l.advance))
    by_first true e a = ahead false (not_true (int_lt (v +ℤ pos l.advance) l.until) e)
    by_first false e a =
        ahead true (not_false (int_lt (v +ℤ pos l.advance) l.until) e)
        ∙ ap (λ g. map (λ x. (v +ℤ pos l.advance) ∷ x) g ++ rows loops (values_below ((v +ℤ pos l.advance) +ℤ pos l.advance) l.until l.advance))
        (sym (ap (left loops) (from_the_first loops vs (omega (arith, n)) a) ∙ all_left loops h.1 (and_parts (int_lt l.from l.until) (have_values loops) some).1))

    by_rest : (a : Bool) → are_last loops vs ≡ a → map (λ others. v ∷ others) (vs ∷ (if a then [] else left loops (next_values loops vs))) ++ rows loops (values_below (v +ℤ pos l.advance) l.until l.advance)
        ≡ (v ∷ vs) ∷ (if is_last l v && a then [] else left (l ∷ loops) ((if a then (if is_last l v then l.from else v +ℤ pos l.advance) else v) ∷ next_values loops vs))
    by_rest true e = ap (λ xs. (v ∷ vs) ∷ xs) (by_first (is_last l v) refl e)
    by_rest false e = ap (λ b. (v ∷ vs) ∷ (if b then [] else map (λ x. v ∷ x) (left loops (next_values loops vs)) ++ rows loops (values_below (v +ℤ pos l.advance) l.until l.advance))) (sym (and_false (is_last l v)))
