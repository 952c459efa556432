-- The value of a counter's form is the counter's.
use Rattle.std.proofs.Common.{◌≡◌, ℕ, suc, Bool, true, false, not, ◌&&◌, ◌||◌, ℤ, pos, ◌+ℤ◌, ◌*ℤ◌, List, [], ◌∷◌, length, refl, ap, sym, ◌∙◌, arith}
use Rattle.std.specs.Prelude.{if◌then◌else◌, ◌==◌}
use Rattle.std.proofs.lemmas.Int.{ints}
use Rattle.std.proofs.lemmas.Bool.Decides.{Decides-eqb}
use Rattle.std.proofs.Math.IntN.{zero-*ℤ}
use Rattle.sp_affine.specs.Affine.{dot}
use Rattle.sp_core.specs.Scope.{Scope}
use Rattle.sp_patterns.specs.declared.place.CounterPlace.{CounterPlace}
use Rattle.sp_patterns.specs.Forms.{is_around, nearest_coefs, lane_step}
use Rattle.sp_hold.specs.Values.{AreInScope}

pub length_of_nearest : (places : List CounterPlace) (c : ℕ) → length (nearest_coefs places c) ≡ length places
length_of_nearest [] c = refl
length_of_nearest (p ∷ places) c = ap suc (length_of_nearest places c)

chosen : {A : Type 0} (b : Bool) (x y : A) → b ≡ true → (if b then x else y) ≡ x
chosen b x y e = ap (λ t. if t then x else y) e

not_chosen : {A : Type 0} (b : Bool) (x y : A) → b ≡ false → (if b then x else y) ≡ y
not_chosen b x y e = ap (λ t. if t then x else y) e

nothing_more : (c v rest : ℤ) → c ≡ pos 0 → (c *ℤ v) +ℤ rest ≡ rest
nothing_more c v rest e = zero_more _ _ (ap (λ x. x *ℤ v) e ∙ zero-*ℤ v)
  where
    zero_more : (x y : ℤ) → x ≡ pos 0 → x +ℤ y ≡ y
    zero_more x y e = omega (arith, ints)

alone : (c v rest : ℤ) → c ≡ pos 1 → rest ≡ pos 0 → (c *ℤ v) +ℤ rest ≡ v
alone c v rest e z = with_nothing _ _ (ap (λ x. x *ℤ v) e ∙ one_times v) z
  where
    one_times : (v : ℤ) → pos 1 *ℤ v ≡ v
    one_times v = omega (arith, ints)

    with_nothing : (x y : ℤ) → x ≡ v → y ≡ pos 0 → x +ℤ y ≡ v
    with_nothing x y e f = omega (arith, ints)

hidden : (a b : Bool) → b ≡ true → (a && not b) ≡ false
hidden true true e = refl
hidden false true e = refl
hidden a false e = cc

other : (a b : Bool) → a ≡ false → (a && b) ≡ false
other a b e = ap (λ x. x && b) e

neither : (a b : Bool) → (a || b) ≡ false → (a ≡ false) × (b ≡ false)
neither true b h = cc
neither false b h = (refl, h)

-- a counter that isn't around has no coefficient
none_around : (places : List CounterPlace) (c : ℕ) (values : List ℤ) → is_around places c ≡ false → dot (nearest_coefs places c) values ≡ pos 0
none_around [] c values h = refl
none_around (p ∷ places) c [] h = refl
none_around (p ∷ places) c (v ∷ values) h =
    let apart = neither (p.id == c) (is_around places c) h in
    nothing_more _ v _ (not_chosen _ (pos 1) (pos 0) (other (p.id == c) (not (is_around places c)) apart.0)) ∙ none_around places c values apart.1

pub record IsFound (scope : Scope) (places : List CounterPlace) (values : List ℤ) (c : ℕ) : Type 0 where
  pub value : dot (nearest_coefs places c) values ≡ (scope c).value
  pub step : lane_step places c ≡ (scope c).lane_step

pub found : (scope : Scope) (places : List CounterPlace) (values : List ℤ) (c : ℕ) → AreInScope scope places values → is_around places c ≡ true → IsFound scope places values c
found scope [] values c h k = cc
found scope (p ∷ places) [] c h k = absurd h
found scope (p ∷ places) (v ∷ values) c (here, rest) k = by_nearer (found scope places values c rest) (is_around places c) refl (p.id == c) refl
  where
    no_counter : (a b : Bool) → a ≡ false → b ≡ false → (a || b) ≡ true → ⊥
    no_counter a b e f h = let joined : (a || b) ≡ false = ap (λ x. x || b) e ∙ f in cc

    both : (a b : Bool) → a ≡ true → b ≡ false → (a && not b) ≡ true
    both true false e f = refl
    both true true e f = cc
    both false b e f = cc

    nearer : IsFound scope places values c → is_around places c ≡ true → IsFound scope (p ∷ places) (v ∷ values) c
    nearer f e = record {
      value = nothing_more _ v _ (not_chosen _ (pos 1) (pos 0) (hidden (p.id == c) (is_around places c) e)) ∙ f.value;
      step = not_chosen _ p.lane_step (lane_step places c) (hidden (p.id == c) (is_around places c) e) ∙ f.step;
    }

    this_one : is_around places c ≡ false → (p.id == c) ≡ true → IsFound scope (p ∷ places) (v ∷ values) c
    this_one e g =
        let same = (Decides-eqb p.id c).0 g in
        let is = here (ap (is_around places) same ∙ e) in
        record {
          value = alone _ v _ (chosen _ (pos 1) (pos 0) (both (p.id == c) (is_around places c) g e)) (none_around places c values e) ∙ sym is.value ∙ ap (λ x. (scope x).value) same;
          step = chosen _ p.lane_step (lane_step places c) (both (p.id == c) (is_around places c) g e) ∙ sym is.step ∙ ap (λ x. (scope x).lane_step) same;
        }

    by_nearer : (is_around places c ≡ true → IsFound scope places values c) → (b : Bool) → is_around places c ≡ b → (d : Bool) → (p.id == c) ≡ d → IsFound scope (p ∷ places) (v ∷ values) c
    by_nearer later true e d g = nearer (later e) e
    by_nearer later false e true g = this_one e g
    by_nearer later false e false g = absurd (no_counter _ _ g e k)
