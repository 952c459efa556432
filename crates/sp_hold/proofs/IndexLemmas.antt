-- An index is its form's value: the value is within 3 times 2^30, so it can't differ from the index by a multiple of 2^32.
use Rattle.std.proofs.Common.{◌≡◌, ℕ, ◌^◌, ◌*◌, ◌<◌, Bool, true, false, ◌&&◌, T, ℤ, pos, negsuc, neg_ℤ, ◌+ℤ◌, ◌*ℤ◌, ◌≤ℤ◌, List, [], ◌∷◌, refl, ap, ◌∙◌, arith}
use Rattle.std.specs.Prelude.{Option, Some, None, is_none, if◌then◌else◌}
use Rattle.std.specs.Ordering.{int_eq}
use Rattle.std.proofs.lemmas.Int.{ints}
use Rattle.std.proofs.lemmas.Bool.Decides.{Decides-int_eq}
use Rattle.std.proofs.Math.IntN.{zero-*ℤ}
use Rattle.std.specs.Int.Signed.{le_z_yes}
use Rattle.sp_words.specs.Laws.{IsFloorDivision}
use Rattle.sp_words.specs.Types.{int_type}
use Rattle.sp_words.specs.WholeNumbers.{floor_div}
use Rattle.sp_words.specs.Words.{wrap}
use Rattle.sp_affine.specs.Affine.{Affine, dot, value_of, symbol_value}
use Rattle.sp_affine.specs.Interval.{least_product, greatest_product}
use Rattle.sp_core.specs.Elements.{index_value}
use Rattle.sp_patterns.specs.Indices.{leaves_out, least_rest, greatest_rest}
use Rattle.sp_hold.specs.Laws.{IsIndexItsForm}
use Rattle.sp_hold.specs.Values.{IsInt, AreInRanges}
use Rattle.sp_hold.proofs.Products.{times_keeps, times_turns}

least_is_below : (c : ℤ) (r : ℤ × ℤ) (x : ℤ) → r.0 ≤ℤ x → x ≤ℤ r.1 → least_product c r ≤ℤ (c *ℤ x)
least_is_below (pos n) r x h k = times_keeps n r.0 x h
least_is_below (negsuc n) r x h k = times_turns n x r.1 k

greatest_is_above : (c : ℤ) (r : ℤ × ℤ) (x : ℤ) → r.0 ≤ℤ x → x ≤ℤ r.1 → (c *ℤ x) ≤ℤ greatest_product c r
greatest_is_above (pos n) r x h k = times_keeps n x r.1 k
greatest_is_above (negsuc n) r x h k = times_turns n r.0 x h

both : (a b : Bool) → (a && b) ≡ true → (a ≡ true) × (b ≡ true)
both true b h = (refl, h)
both false b h = cc

-- the value of the counters is that of the one that is left out and something between the ends of the rest
pub record Split (one : Bool) (coefs : List ℤ) (ranges : List (Option (ℤ × ℤ))) (values : List ℤ) : Type 0 where
  pub left : ℤ
  pub low : (least_rest coefs ranges +ℤ left) ≤ℤ dot coefs values
  pub high : dot coefs values ≤ℤ (greatest_rest coefs ranges +ℤ left)
  pub small : IsInt left
  pub none : one ≡ false → left ≡ pos 0

added : (least term sum rest greatest total : ℤ) (left : ℤ) → least ≤ℤ term → term ≤ℤ greatest → (sum +ℤ left) ≤ℤ rest → rest ≤ℤ (total +ℤ left) →
    (((least +ℤ sum) +ℤ left) ≤ℤ (term +ℤ rest)) × ((term +ℤ rest) ≤ℤ ((greatest +ℤ total) +ℤ left))
added least term sum rest greatest total left a b c d = (omega (arith, ints), omega (arith, ints))

nothing_added : (term sum rest total left : ℤ) → term ≡ pos 0 → (sum +ℤ left) ≤ℤ rest → rest ≤ℤ (total +ℤ left) →
    ((sum +ℤ left) ≤ℤ (term +ℤ rest)) × ((term +ℤ rest) ≤ℤ (total +ℤ left))
nothing_added term sum rest total left a b c = (omega (arith, ints), omega (arith, ints))

one_added : (term v sum rest total left : ℤ) → term ≡ v → left ≡ pos 0 → (sum +ℤ left) ≤ℤ rest → rest ≤ℤ (total +ℤ left) →
    ((sum +ℤ v) ≤ℤ (term +ℤ rest)) × ((term +ℤ rest) ≤ℤ (total +ℤ v))
one_added term v sum rest total left a z b c = (omega (arith, ints), omega (arith, ints))

one_times : (v : ℤ) → pos 1 *ℤ v ≡ v
one_times v = omega (arith, ints)

zero_left : (one : Bool) → Split one [] [] []
zero_left one = record { left = pos 0; low = omega (arith, ints); high = omega (arith, ints); small = (omega (arith, ints), omega (arith, ints)); none = λ h. refl }

pub split : (one : Bool) (coefs : List ℤ) (ranges : List (Option (ℤ × ℤ))) (values : List ℤ) → leaves_out one coefs ranges ≡ true → AreInRanges coefs ranges values → Split one coefs ranges values
split one [] [] [] h k = zero_left one
split one [] [] (v ∷ values) h k = absurd k
split one [] (r ∷ ranges) values h k = absurd k
split one (c ∷ coefs) [] values h k = absurd k
split one (c ∷ coefs) (r ∷ ranges) [] h k = absurd k
split one (c ∷ coefs) (Some r ∷ ranges) (v ∷ values) h (in_range, int, k) =
    let s = split one coefs ranges values h k in
    let sums = added _ _ _ _ _ _ s.left (least_is_below c r v in_range.0 in_range.1) (greatest_is_above c r v in_range.0 in_range.1) s.low s.high in
    record { left = s.left; low = sums.0; high = sums.1; small = s.small; none = s.none }
split one (c ∷ coefs) (None ∷ ranges) (v ∷ values) h (in_range, int, k) = by_test (λ o g. split o coefs ranges values g k) (int_eq c (pos 0)) refl
  where
    passed : (b x y : Bool) → b ≡ true → (if b then x else y) ≡ true → x ≡ true
    passed true x y e g = g
    passed false x y e g = cc

    failed : (b x y : Bool) → b ≡ false → (if b then x else y) ≡ true → y ≡ true
    failed true x y e g = cc
    failed false x y e g = g

    is_none_out : Split one coefs ranges values → c ≡ pos 0 → Split one (c ∷ coefs) (None ∷ ranges) (v ∷ values)
    is_none_out s e =
        let sums = nothing_added (c *ℤ v) _ _ _ s.left (ap (λ x. x *ℤ v) e ∙ zero-*ℤ v) s.low s.high in
        record { left = s.left; low = sums.0; high = sums.1; small = s.small; none = s.none }

    is_one_out : Split false coefs ranges values → one ≡ true → c ≡ pos 1 → Split one (c ∷ coefs) (None ∷ ranges) (v ∷ values)
    is_one_out s o e =
        let sums = one_added (c *ℤ v) v _ _ _ s.left (ap (λ x. x *ℤ v) e ∙ one_times v) (s.none refl) s.low s.high in
        record { left = v; low = sums.0; high = sums.1; small = int; none = λ f. cc }

    by_test : ((o : Bool) → leaves_out o coefs ranges ≡ true → Split o coefs ranges values) → (b : Bool) → int_eq c (pos 0) ≡ b → Split one (c ∷ coefs) (None ∷ ranges) (v ∷ values)
    by_test later true e = is_none_out (later one (passed _ _ _ e h)) ((Decides-int_eq c (pos 0)).0 e)
    by_test later false e =
        let parts = both _ _ (failed _ _ _ e h) in
        let ones = both _ _ parts.0 in
        is_one_out (later false parts.1) ones.0 ((Decides-int_eq c (pos 1)).0 ones.1)

-- two numbers that leave one rest, and are less than 2^32 apart
one_number : (v z p q : ℤ) (m n : ℕ) → m ≡ n → (p *ℤ pos (2 ^ 32)) +ℤ pos m ≡ v → (q *ℤ pos (2 ^ 32)) +ℤ pos n ≡ z →
    pos 0 ≤ℤ v → v ≤ℤ pos (2 ^ 26) → neg_ℤ (pos (3 * 2 ^ 30)) ≤ℤ z → z ≤ℤ pos (3 * 2 ^ 30) → v ≡ z
one_number v z p q m n e a b c d f g = omega (arith, ints)

value_is_small : (least greatest total left constant symbol : ℤ) → (least +ℤ left) ≤ℤ total → total ≤ℤ (greatest +ℤ left) → neg_ℤ (pos (2 ^ 30)) ≤ℤ (least +ℤ constant) → (greatest +ℤ constant) ≤ℤ pos (2 ^ 30) →
    neg_ℤ (pos (2 ^ 31)) ≤ℤ (left +ℤ symbol) → (left +ℤ symbol) ≤ℤ pos (2 ^ 31) →
    (neg_ℤ (pos (3 * 2 ^ 30)) ≤ℤ ((total +ℤ constant) +ℤ symbol)) × (((total +ℤ constant) +ℤ symbol) ≤ℤ pos (3 * 2 ^ 30))
value_is_small least greatest total left constant symbol a b c d e f = (omega (arith, ints), omega (arith, ints))

-- only one of the two is left out
one_is_left : (symbol : Option ℕ) (left : ℤ) (symbols : ℕ → ℤ) → IsInt left → (is_none symbol ≡ false → left ≡ pos 0) → IsInt (symbol_value symbol symbols) → IsInt (left +ℤ symbol_value symbol symbols)
one_is_left None left symbols h k s = (omega (arith, ints, h), omega (arith, ints, h))
one_is_left (Some m) left symbols h k s = added_to_nothing left (symbols m) (k refl) s
  where
    added_to_nothing : (left x : ℤ) → left ≡ pos 0 → IsInt x → IsInt (left +ℤ x)
    added_to_nothing left x e h = (omega (arith, ints, h), omega (arith, ints, h))

module _ (divisions : (z : ℤ) (m : ℕ) → 0 < m → IsFloorDivision z m) where
  same_rest : (z : ℤ) → (floor_div z (2 ^ 32) *ℤ pos (2 ^ 32)) +ℤ pos (wrap int_type z) ≡ z
  unfolding wrap
  same_rest z = (divisions z (2 ^ 32) (omega arith)).0

  pub index_is_form : (f : Affine) → IsIndexItsForm f
  index_is_form f ranges values symbols word is in_ranges symbol above below like =
      let parts = both _ _ is in
      let ends = both _ _ parts.1 in
      let s = split (is_none f.symbol) f.coefs ranges values parts.0 in_ranges in
      let out = one_is_left f.symbol s.left symbols s.small s.none symbol in
      let small = value_is_small _ _ _ s.left f.constant (symbol_value f.symbol symbols) s.low s.high (le_z_yes (is_true _ ends.0)) (le_z_yes (is_true _ ends.1)) out.0 out.1 in
      one_number (index_value word) (value_of f values symbols) (floor_div (index_value word) (2 ^ 32)) (floor_div (value_of f values symbols) (2 ^ 32)) _ _ like (same_rest (index_value word)) (same_rest (value_of f values symbols)) above below small.0 small.1
    where
      is_true : (b : Bool) → b ≡ true → T b
      is_true true h = tt
      is_true false h = cc
