-- Inside of a controller its counters are in the scope, after those around it.
use Rattle.std.proofs.Common.{◌≡◌, ℕ, Bool, true, false, ◌||◌, ℤ, List, [], ◌∷◌, ◌++◌, length, refl, ap, sym, ◌∙◌, subst, arith, append_assoc}
use Rattle.std.specs.Prelude.{◌==◌}
use Rattle.std.proofs.lemmas.Bool.Decides.{Decides-eqb}
use Rattle.sp_core.specs.History.{Bounds}
use Rattle.sp_core.specs.PlainCore.{PlainCounter}
use Rattle.sp_core.specs.Scope.{Reading, Loop, loop_of, loops_of, InGroup, Scope, lane_step, with_counters, is_live}
use Rattle.sp_core.specs.Store.{changed}
use Rattle.sp_patterns.specs.declared.place.CounterPlace.{CounterPlace}
use Rattle.sp_patterns.specs.Forms.{is_around}
use Rattle.sp_patterns.specs.Ranges.{lane_step_of, places_in}
use Rattle.sp_hold.specs.Laws.{AreCountersInScope}
use Rattle.sp_hold.specs.Values.{IsCounter, AreInScope}

neither : (a b : Bool) → (a || b) ≡ false → (a ≡ false) × (b ≡ false)
neither true b h = cc
neither false b h = (refl, h)

-- one that isn't around in a longer list is none of its parts
not_around : (places : List CounterPlace) (p : CounterPlace) (c : ℕ) → is_around (places ++ p ∷ []) c ≡ false → (is_around places c ≡ false) × ((p.id == c) ≡ false)
not_around [] p c h = (refl, (neither (p.id == c) false h).0)
not_around (q ∷ places) p c h =
    let a = neither (q.id == c) _ h in
    let rest = not_around places p c a.1 in
    (ap (λ b. b || is_around places c) a.0 ∙ rest.0, rest.1)

there : (scope : Scope) (n : ℕ) (g : InGroup) → changed scope n g n ≡ g
there scope n g = ap (λ b. elim b as (λ x. InGroup) [ true ↦ g | false ↦ scope n ]) ((Decides-eqb n n).1 refl)

elsewhere : (scope : Scope) (n k : ℕ) (g : InGroup) → (n == k) ≡ false → changed scope n g k ≡ scope k
elsewhere scope n k g h = by_test (k == n) refl
  where
    apart : k ≡ n → InGroup → ⊥
    apart same x = let yes : (n == k) ≡ true = (Decides-eqb n k).1 (sym same) in let no : true ≡ false = sym yes ∙ h in cc

    by_test : (b : Bool) → (k == n) ≡ b → (elim b as (λ x. InGroup) [ true ↦ g | false ↦ scope k ]) ≡ scope k
    by_test true e = absurd (apart ((Decides-eqb k n).0 e) g)
    by_test false e = refl

one_more : (scope : Scope) (places : List CounterPlace) (values : List ℤ) (p : CounterPlace) (v : ℤ) (g : InGroup) → IsCounter g v p.lane_step → AreInScope scope places values → AreInScope (changed scope p.id g) (places ++ p ∷ []) (values ++ v ∷ [])
one_more scope [] [] p v g is h = (λ away. subst (λ (x : InGroup). IsCounter x v p.lane_step) (sym (there scope p.id g)) is, tt)
one_more scope [] (w ∷ values) p v g is h = absurd h
one_more scope (q ∷ places) [] p v g is h = absurd h
one_more scope (q ∷ places) (w ∷ values) p v g is (here, rest) =
    (λ away. let parts = not_around places p q.id away in subst (λ (x : InGroup). IsCounter x w q.lane_step) (sym (elsewhere scope p.id q.id g parts.1)) (here parts.0), one_more scope places values p v g is rest)

step_is : (reading : Reading) (c : PlainCounter) (b : Bounds) (counters : List PlainCounter) (bounds : List Bounds) (l : Loop) → l.by ≡ c.by → length bounds ≡ length counters → lane_step l (loops_of reading counters bounds) ≡ lane_step_of c counters
step_is reading c b [] bounds l e h = e
step_is reading c b (d ∷ counters) [] l e h = absurd (omega arith)
step_is reading c b (d ∷ counters) (x ∷ bounds) l e h = refl

abbrev place_of : PlainCounter → List PlainCounter → CounterPlace
place_of c counters = record { id = c.number; lane_step = lane_step_of c counters }

more_counters : (reading : Reading) (live : ℕ → Bool) (counters : List PlainCounter) (bounds : List Bounds) (values : List ℤ) (scope : Scope) (places : List CounterPlace) (outer : List ℤ) → length bounds ≡ length counters → length values ≡ length counters →
    AreInScope scope places outer → AreInScope (with_counters scope (loops_of reading counters bounds) values live) (places ++ places_in counters) (outer ++ values)
more_counters reading live [] bounds [] scope places outer b v h =
    subst (λ (xs : List ℤ). AreInScope scope (places ++ []) xs) (sym (nil_right outer)) (subst (λ (ps : List CounterPlace). AreInScope scope ps outer) (sym (nil_right places)) h)
  where
    nil_right : {A : Type 0} (xs : List A) → xs ++ [] ≡ xs
    nil_right [] = refl
    nil_right (x ∷ xs) = ap (λ ys. x ∷ ys) (nil_right xs)
more_counters reading live [] bounds (v ∷ values) scope places outer b e h = absurd (omega arith)
more_counters reading live (c ∷ counters) [] values scope places outer b e h = absurd (omega arith)
more_counters reading live (c ∷ counters) (x ∷ bounds) [] scope places outer b e h = absurd (omega arith)
more_counters reading live (c ∷ counters) (x ∷ bounds) (v ∷ values) scope places outer b e h =
    let fewer : length bounds ≡ length counters = omega arith in
    let fewer_values : length values ≡ length counters = omega arith in
    let inner = one_more scope places outer (place_of c counters) v _ (record { value = refl; step = step_is reading c x counters bounds (loop_of reading c x) refl fewer }) h in
    let rest = more_counters reading live counters bounds values _ (places ++ place_of c counters ∷ []) (outer ++ v ∷ []) fewer fewer_values inner in
    subst (λ (xs : List ℤ). AreInScope (with_counters scope (loops_of reading (c ∷ counters) (x ∷ bounds)) (v ∷ values) live) (places ++ places_in (c ∷ counters)) xs) (append_assoc outer (v ∷ []) values)
    (subst (λ (ps : List CounterPlace). AreInScope (with_counters scope (loops_of reading (c ∷ counters) (x ∷ bounds)) (v ∷ values) live) ps ((outer ++ v ∷ []) ++ values)) (append_assoc places (place_of c counters ∷ []) (places_in counters)) rest)

pub counters_in_scope : AreCountersInScope
counters_in_scope reading counters bounds scope places outer values b v h = more_counters reading (is_live (loops_of reading counters bounds) values) counters bounds values scope places outer b v h
