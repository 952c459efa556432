-- What the tests of apartness tell.
use Rattle.std.proofs.Common.{◌≡◌, ◌≢◌, ℕ, zero, suc, ◌+◌, ◌-◌, ◌*◌, ◌<◌, ℤ, pos, ◌+ℤ◌, ◌*ℤ◌, ◌⊎◌, inl, inr, Bool, true, false, IsTrue, ◌↔◌, List, [], ◌∷◌, ◌++◌, replicate, Option, Some, None, arith, refl, sym, ap, ◌∙◌}
use Rattle.std.proofs.lemmas.Bool.{and_parts, and_from, leb-true, le-leb, false≢true}
use Rattle.std.proofs.lemmas.Bool.Decides.{Decides-int_eq}
use Rattle.std.proofs.lemmas.Int.{ints}
use Rattle.std.proofs.lemmas.Nat.{mul-lt}
use Rattle.std.specs.Cmp.Rules.{signed_items}
use Rattle.std.specs.Int.{int_rem_euclid}
use Rattle.std.specs.Cmp.Lexicographic.{pointwise}
use Rattle.std.specs.List.{list_all}
use Rattle.std.specs.Ordering.{int_eq}
use Rattle.std.specs.Prelude.{◌||◌, not, nat_le, slice_index, unsigned_abs}
use Rattle.sp_affine.specs.Affine.{Affine}
use Rattle.sp_bank.proofs.ApartLemmas.{apart_decided}
use Rattle.sp_bank.proofs.Floor.{parts}
use Rattle.sp_bank.specs.Banking.{Banking, period}
use Rattle.sp_bank.specs.Separation.{AreApart, AreFar, IsAbove, constants, weighted_sum, residue_of}
use Rattle.sp_core.specs.Elements.{numbers_below}
use Rattle.sp_core.specs.Forms.{PlainForms}
use Rattle.sp_core.specs.PlainCore.{PlainCore}
use Rattle.sp_plan.specs.Groups.{have_one_linear_part, is_one_group, Apart, AreKeptApart, lane_place, AreLanesApart}
use Rattle.sp_schemes.proofs.Bodies.{all_below, below_all}
use Rattle.sp_serving.specs.Apart.{is_above, is_far, place, is_apart, is_kind_apart, are_kept, lane_residue, is_lane_far, are_lanes_far}
use Rattle.sp_words.specs.declared.kind.Kind.{Kind}
use Rattle.sp_words.specs.declared.kind.Kind.TheVariants.{Reg, Sram, Fifo, LineBuf, Dram, ArgIn, ArgOut}

-- one of two is true
either_true : (a b : Bool) → (a || b) ≡ true → (a ≡ true) ⊎ (b ≡ true)
either_true true b e = inl refl
either_true false b e = inr e

left_true : (a b : Bool) → a ≡ true → (a || b) ≡ true
left_true true b e = refl
left_true false b e = absurd (false≢true e)

right_true : (a b : Bool) → b ≡ true → (a || b) ≡ true
right_true true b e = refl
right_true false b e = e

module _ (b : Banking) where
  above_tells : (x y : ℕ) → is_above b x y ≡ true → IsAbove b x y
  above_tells x y e =
      let p = and_parts (nat_le (y + b.block) x) (nat_le (x + b.block) (y + b.banks * b.block)) e in
      record { block_up = leb-true (y + b.block) x p.0; block_down = leb-true (x + b.block) (y + b.banks * b.block) p.1 }

  above_true : (x y : ℕ) → IsAbove b x y → is_above b x y ≡ true
  above_true x y h = and_from (nat_le (y + b.block) x) (nat_le (x + b.block) (y + b.banks * b.block)) (le-leb (y + b.block) x h.block_up) (le-leb (x + b.block) (y + b.banks * b.block) h.block_down)

  pub far_is : (x y : ℕ) → IsTrue (is_far b x y) ↔ AreFar b x y
  far_is x y = (tells, true_from)
    where
      tells : is_far b x y ≡ true → AreFar b x y
      tells e = elim (either_true (is_above b x y) (is_above b y x) e) [
        | inl h ↦ inl (above_tells x y h)
        | inr h ↦ inr (above_tells y x h)
      ]

      true_from : AreFar b x y → is_far b x y ≡ true
      true_from (inl h) = left_true (is_above b x y) (is_above b y x) (above_true x y h)
      true_from (inr h) = right_true (is_above b x y) (is_above b y x) (above_true y x h)

module _ (b : Banking) (block : 0 < b.block) (banks : 0 < b.banks) where
  place_is : (some : 0 < b.banks * b.block) (c : List ℤ) → pos (place b c) ≡ residue_of b c
  place_is some c = let p = parts (weighted_sum b.alpha c) (b.banks * b.block) some in ap (λ z. pos (unsigned_abs z)) p.1 ∙ sym p.1

  some_period : 0 < b.banks * b.block
  some_period = mul-lt 0 0 b.banks b.block banks block

  pub apart_is : (c d : List ℤ) → IsTrue (is_apart b c d) ↔ AreApart b c d
  apart_is c d = go (pointwise int_eq c d) refl
    where
      go : (t : Bool) → pointwise int_eq c d ≡ t → IsTrue (t || is_far b (place b c) (place b d)) ↔ AreApart b c d
      go true e = (λ h differ. absurd (differ ((signed_items c d).0 e)), λ h. refl)
      go false e =
          apart_decided b c d (place b c) (place b d) (is_far b (place b c) (place b d)) block banks
          (place_is some_period c) (place_is some_period d) (λ same. false≢true (sym e ∙ (signed_items c d).1 same)) (far_is b (place b c) (place b d))

  pub kind_apart_is : (kind : Kind) (f g : List Affine) → IsTrue (is_kind_apart b kind f g) ↔ Apart kind b f g
  kind_apart_is Reg f g = apart_is (constants f) (constants g)
  kind_apart_is Sram f g = apart_is (constants f) (constants g)
  kind_apart_is Fifo f g = apart_is (constants f) (constants g)
  kind_apart_is Dram f g = apart_is (constants f) (constants g)
  kind_apart_is ArgIn f g = apart_is (constants f) (constants g)
  kind_apart_is ArgOut f g = apart_is (constants f) (constants g)
  kind_apart_is LineBuf [] g = apart_is (constants []) (constants g)
  kind_apart_is LineBuf (row ∷ f) [] = apart_is (constants (row ∷ f)) (constants [])
  kind_apart_is LineBuf (row ∷ f) (other ∷ g) = go (int_eq row.constant other.constant) refl
    where
      go : (t : Bool) → int_eq row.constant other.constant ≡ t → IsTrue (not t || is_apart b (constants f) (constants g)) ↔ (row.constant ≡ other.constant → AreApart b (constants f) (constants g))
      go true e = (λ h same. (apart_is (constants f) (constants g)).0 h, λ h. (apart_is (constants f) (constants g)).1 (h ((Decides-int_eq row.constant other.constant).0 e)))
      go false e = (λ h same. absurd (false≢true (sym e ∙ (Decides-int_eq row.constant other.constant).1 same)), λ h. refl)

  pub kept_group : (kind : Kind) (f g : Option (List Affine)) → are_kept b kind f g ≡ true → is_one_group f g ≡ true
  kept_group kind (Some f) (Some g) e = (and_parts (have_one_linear_part f g) (is_kind_apart b kind f g) e).0
  kept_group kind None g e = absurd (false≢true e)
  kept_group kind (Some f) None e = absurd (false≢true e)

  pub kept_apart : (kind : Kind) (f g : Option (List Affine)) → are_kept b kind f g ≡ true → AreKeptApart kind (Some b) f g
  kept_apart kind (Some f) (Some g) e = (kind_apart_is kind f g).0 (and_parts (have_one_linear_part f g) (is_kind_apart b kind f g) e).1
  kept_apart kind None g e = tt
  kept_apart kind (Some f) None e = tt

  pub kept_from : (kind : Kind) (f g : Option (List Affine)) → is_one_group f g ≡ true → AreKeptApart kind (Some b) f g → are_kept b kind f g ≡ true
  kept_from kind (Some f) (Some g) e h = and_from (have_one_linear_part f g) (is_kind_apart b kind f g) e ((kind_apart_is kind f g).1 h)
  kept_from kind None g e h = absurd (false≢true e)
  kept_from kind (Some f) None e h = absurd (false≢true e)

-- the place of a lane
nothing_left : (alpha : List ℕ) → weighted_sum alpha [] ≡ pos 0
nothing_left [] = refl
nothing_left (a ∷ alpha) = refl

abbrev number : ℕ → Affine
number l = record { coefs = []; constant = pos l; symbol = None }

one_weight : (a l : ℕ) (rest : ℤ) → rest ≡ pos 0 → (pos a *ℤ pos l) +ℤ rest ≡ pos (a * l)
one_weight a l rest e = omega (arith, ints, e)

no_weight : (a : ℕ) (rest : ℤ) (x : ℕ) → rest ≡ pos x → (pos a *ℤ pos 0) +ℤ rest ≡ pos x
no_weight a rest x e = omega (arith, ints, e)

zero_mul : (x l : ℕ) → x ≡ 0 → 0 ≡ x * l
zero_mul x l e = sym (ap (λ y. y * l) e ∙ (let z : 0 * l ≡ 0 = omega arith in z))

weighted : (alpha : List ℕ) (n l : ℕ) → weighted_sum alpha (constants (replicate n (number 0) ++ number l ∷ [])) ≡ pos (slice_index alpha n * l)
weighted [] zero l = ap pos (zero_mul (slice_index [] 0) l refl)
weighted [] (suc n) l = ap pos (zero_mul (slice_index [] (suc n)) l refl)
weighted (a ∷ alpha) zero l = one_weight a l (weighted_sum alpha []) (nothing_left alpha)
weighted (a ∷ alpha) (suc n) l = no_weight a (weighted_sum alpha (constants (replicate n (number 0) ++ number l ∷ []))) (slice_index alpha n * l) (weighted alpha n l)

same_lane : (n i j : ℕ) → constants (replicate n (number 0) ++ number i ∷ []) ≡ constants (replicate n (number 0) ++ number j ∷ []) → i ≡ j
same_lane zero i j e = cc
same_lane (suc n) i j e = same_lane n i j (rest e)
  where
    rest : {x : ℤ} {xs ys : List ℤ} → x ∷ xs ≡ x ∷ ys → xs ≡ ys
    rest e = cc

module _ (core : PlainCore) (forms : PlainForms) (schemes : List (Option Banking)) (b : Banking) (block : 0 < b.block) (banks : 0 < b.banks) (rank : ℕ) where
  abbrev lane : ℕ → List ℤ
  lane l = constants (lane_place core forms schemes rank l)

  lane_is : (l : ℕ) → pos (lane_residue b rank l) ≡ residue_of b (lane l)
  lane_is l = ap (λ z. int_rem_euclid z (pos (period b))) (sym (weighted b.alpha (rank - 1) l))

  lane_apart_is : (j i : ℕ) → i < j → IsTrue (is_lane_far b rank j i) ↔ AreApart b (lane i) (lane j)
  lane_apart_is j i l =
      apart_decided b (lane i) (lane j) (lane_residue b rank i) (lane_residue b rank j) (is_lane_far b rank j i) block banks
      (lane_is i) (lane_is j) (λ same. let e = same_lane (rank - 1) i j same in absurd (omega (arith, e, l))) (far_is b (lane_residue b rank i) (lane_residue b rank j))

  pub lanes_tell : (par : ℕ) → are_lanes_far b rank par ≡ true → AreLanesApart core forms schemes (Some b) rank par
  lanes_tell par h j i l k =
      (lane_apart_is j i k).0 (all_below (is_lane_far b rank j) j (all_below (λ q. list_all (is_lane_far b rank q) (numbers_below q)) par h j l) i k)

  pub lanes_true : (par : ℕ) → AreLanesApart core forms schemes (Some b) rank par → are_lanes_far b rank par ≡ true
  lanes_true par h =
      below_all (λ q. list_all (is_lane_far b rank q) (numbers_below q)) par (λ j l.
      below_all (is_lane_far b rank j) j (λ i k. (lane_apart_is j i k).1 (h j i l k)))
