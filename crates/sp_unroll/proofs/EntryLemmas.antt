-- What entries stand for after one more.
use Rattle.std.proofs.Common.{◌≡◌, ◌==◌, ◌||◌, ◌++◌, ◌-◌, ◌≤◌, ℕ, suc, Bool, true, false, List, [], ◌∷◌, map, take, drop, get_or, length, Option, Some, None, arith, refl, sym, ap, ◌∙◌}
use Rattle.std.specs.Prelude.{if◌then◌else◌}
use mathlib.Core.Path.{fun_ext}
use Rattle.std.proofs.lemmas.Bool.{eqb-true}
use Rattle.sp_core.specs.Declarations.{is_among}
use Rattle.sp_core.specs.declared.node.CoreCounter.{CoreCounter}
use Rattle.sp_core.specs.Plain.{plain_counter}
use Rattle.sp_core.specs.Store.{changed}
use Rattle.sp_lanes.specs.Order.{occurrence}
use Rattle.sp_lanes.specs.Within.{with_lane}
use Rattle.sp_unroll.specs.declared.within.Entry.{Entry}
use Rattle.sp_unroll.specs.Entries.{found_after, or_value, lane_in, number_in, owned_at}

found_more : (was : Option ℕ) (all : List Entry) (e : Entry) (k : ℕ) → found_after was (all ++ e ∷ []) k ≡ (if k == e.key then Some e.value else found_after was all k)
found_more was [] e k = refl
found_more was (x ∷ all) e k = found_more (if k == x.key then Some x.value else was) all e k

chosen : (b : Bool) (v : ℕ) (o : Option ℕ) (other : ℕ) → or_value (if b then Some v else o) other ≡ elim b as (λ _. ℕ) [ true ↦ v | false ↦ or_value o other ]
chosen true v o other = refl
chosen false v o other = refl

pub lane_more : (all : List Entry) (c l : ℕ) → lane_in (all ++ record { key = c; value = l } ∷ []) ≡ changed (lane_in all) c l
unfolding lane_in
lane_more all c l = fun_ext (λ k. ap (λ f. or_value f 0) (found_more None all (record { key = c; value = l }) k) ∙ chosen (k == c) l (found_after None all k) 0)

number_more : (order : List ℕ) (all : List Entry) (o n m : ℕ) → number_in order (all ++ record { key = o; value = n } ∷ []) m ≡ elim (m == o) as (λ _. ℕ) [ true ↦ n | false ↦ number_in order all m ]
unfolding number_in
number_more order all o n m =
    ap (λ f. or_value f (occurrence m 0 order)) (found_more None all (record { key = o; value = n }) m) ∙ chosen (m == o) n (found_after None all m) (occurrence m 0 order)

either_way : (b among : Bool) (x v r : ℕ) → (b ≡ true → v ≡ x) → (if among then x else elim b as (λ _. ℕ) [ true ↦ v | false ↦ r ]) ≡ (if b || among then x else r)
either_way true true x v r h = refl
either_way true false x v r h = h refl
either_way false true x v r h = refl
either_way false false x v r h = refl

pub names_more : (order owned : List ℕ) (o copy n : ℕ) (all : List Entry) → n ≡ occurrence o copy order
    → owned_at order owned copy (number_in order (all ++ record { key = o; value = n } ∷ [])) ≡ owned_at order (o ∷ owned) copy (number_in order all)
names_more order owned o copy n all e = fun_ext (λ m.
    ap (λ x. if is_among m owned then occurrence m copy order else x) (number_more order all o n m)
    ∙ either_way (m == o) (is_among m owned) (occurrence m copy order) n (number_in order all m) (λ t. e ∙ ap (λ x. occurrence x copy order) (sym (eqb-true m o t))))

pub no_lanes : lane_in [] ≡ λ c. 0
unfolding lane_in
no_lanes = refl

pub no_names : (order : List ℕ) → number_in order [] ≡ λ m. occurrence m 0 order
unfolding number_in
no_names order = refl

apart : (b : Bool) → b ≡ true → b ≡ false → true ≡ false
apart true e f = f
apart false e f = sym e

all_of : (cs : List CoreCounter) → take (length cs) cs ≡ cs
all_of [] = refl
all_of (c ∷ cs) = ap (λ t. c ∷ t) (all_of cs)

rest_of : (x : CoreCounter) (cs : List CoreCounter) → take (length (x ∷ cs) - 1) cs ≡ cs
rest_of x cs =
    let k : length (x ∷ cs) - 1 ≡ length cs = omega arith in
    ap (λ n. take n cs) k ∙ all_of cs

none_after : (x y : CoreCounter) (cs : List CoreCounter) → (length (take (length (x ∷ y ∷ cs) - 1) (y ∷ cs)) == 0) ≡ true → suc (length cs) ≡ 0
none_after x y cs n = sym (ap length (rest_of x (y ∷ cs))) ∙ eqb-true (length (take (length (x ∷ y ∷ cs) - 1) (y ∷ cs))) 0 n

-- lanes of the counters of a controller, where one stands alone and where others follow
pub one_lane : (cs : List CoreCounter) (c : CoreCounter) (l : ℕ) (f : ℕ → ℕ) → 1 ≤ length cs → c ≡ get_or cs 0 c → (length (take (length cs - 1) (drop 1 cs)) == 0) ≡ true → with_lane (map plain_counter cs) l f ≡ changed f c.id l
one_lane [] c l f h e n = absurd (omega (arith, h))
one_lane (x ∷ []) c l f h e n = ap (λ (y : CoreCounter). changed f y.id l) (sym e)
one_lane (x ∷ y ∷ cs) c l f h e n = absurd (omega (arith, none_after x y cs n))

pub more_lanes : (cs : List CoreCounter) (c : CoreCounter) (l : ℕ) (f : ℕ → ℕ) → 1 ≤ length cs → c ≡ get_or cs 0 c → (length (take (length cs - 1) (drop 1 cs)) == 0) ≡ false
    → with_lane (map plain_counter (take (length cs - 1) (drop 1 cs))) l (changed f c.id 0) ≡ with_lane (map plain_counter cs) l f
more_lanes [] c l f h e n = absurd (omega (arith, h))
more_lanes (x ∷ []) c l f h e n =
    let none : (length (take (length (x ∷ []) - 1) (drop 1 (x ∷ []))) == 0) ≡ true = ap (λ t. length t == 0) (rest_of x []) in
    let clash : true ≡ false = apart (length (take (length (x ∷ []) - 1) (drop 1 (x ∷ []))) == 0) none n in
    absurd (cc)
more_lanes (x ∷ y ∷ cs) c l f h e n =
    ap (λ ys. with_lane (map plain_counter ys) l (changed f c.id 0)) (rest_of x (y ∷ cs))
    ∙ ap (λ (z : CoreCounter). with_lane (map plain_counter (y ∷ cs)) l (changed f z.id 0)) e
