-- The values of sums, differences and multiples of forms.
use Rattle.std.proofs.Common.{◌≡◌, ℕ, zero, suc, Bool, true, false, ℤ, pos, ◌+ℤ◌, ◌-ℤ◌, ◌*ℤ◌, List, [], ◌∷◌, ◌&&◌, length, replicate, refl, ap, sym, ◌∙◌, arith, subst}
use Rattle.std.specs.Prelude.{Option, Some, None, if◌then◌else◌, ◌==◌, IfSome}
use Rattle.std.specs.List.{list_all}
use Rattle.std.specs.Ordering.{int_eq}
use Rattle.std.proofs.lemmas.Int.{ints}
use Rattle.std.proofs.lemmas.Bool.Decides.{Decides-int_eq, Decides-eqb}
use Rattle.std.proofs.Math.IntN.{zero-*ℤ, *ℤ-zero}
use Rattle.sp_affine.specs.Affine.{Affine, dot, symbol_value, value_of}
use Rattle.sp_affine.specs.Combination.{sums, differences, multiples}
use Rattle.sp_patterns.specs.Forms.{fits, held, sum_symbol, difference_symbol, multiple_symbol, sum_form, difference_form, multiple_form}
use Rattle.sp_hold.proofs.Products.{sum_times, difference_times, exchanged}

dot_of_sums : (a b xs : List ℤ) → length a ≡ length b → dot (sums a b) xs ≡ dot a xs +ℤ dot b xs
dot_of_sums [] [] xs e = refl
dot_of_sums [] (d ∷ b) xs e = absurd (omega arith)
dot_of_sums (c ∷ a) [] xs e = absurd (omega arith)
dot_of_sums (c ∷ a) (d ∷ b) [] e = refl
dot_of_sums (c ∷ a) (d ∷ b) (x ∷ xs) e =
    let shorter : length a ≡ length b = omega arith in
    joined _ (c *ℤ x) (d *ℤ x) _ (dot a xs) (dot b xs) (sum_times c d x) (dot_of_sums a b xs shorter)
  where
    joined : (both cx dx rest p q : ℤ) → both ≡ cx +ℤ dx → rest ≡ p +ℤ q → both +ℤ rest ≡ (cx +ℤ p) +ℤ (dx +ℤ q)
    joined both cx dx rest p q h k = omega (arith, ints)

dot_of_differences : (a b xs : List ℤ) → length a ≡ length b → dot (differences a b) xs ≡ dot a xs -ℤ dot b xs
dot_of_differences [] [] xs e = refl
dot_of_differences [] (d ∷ b) xs e = absurd (omega arith)
dot_of_differences (c ∷ a) [] xs e = absurd (omega arith)
dot_of_differences (c ∷ a) (d ∷ b) [] e = refl
dot_of_differences (c ∷ a) (d ∷ b) (x ∷ xs) e =
    let shorter : length a ≡ length b = omega arith in
    joined _ (c *ℤ x) (d *ℤ x) _ (dot a xs) (dot b xs) (difference_times c d x) (dot_of_differences a b xs shorter)
  where
    joined : (both cx dx rest p q : ℤ) → both ≡ cx -ℤ dx → rest ≡ p -ℤ q → both +ℤ rest ≡ (cx +ℤ p) -ℤ (dx +ℤ q)
    joined both cx dx rest p q h k = omega (arith, ints)

dot_of_multiples : (a : List ℤ) (z : ℤ) (xs : List ℤ) → dot (multiples a z) xs ≡ dot a xs *ℤ z
dot_of_multiples [] z xs = sym (zero-*ℤ z)
dot_of_multiples (c ∷ a) z [] = sym (zero-*ℤ z)
dot_of_multiples (c ∷ a) z (x ∷ xs) = joined _ _ _ _ _ (exchanged c z x) (dot_of_multiples a z xs) (sum_times (c *ℤ x) (dot a xs) z)
  where
    joined : (czx cxz rest restz whole : ℤ) → czx ≡ cxz → rest ≡ restz → whole ≡ cxz +ℤ restz → czx +ℤ rest ≡ whole
    joined czx cxz rest restz whole h k l = omega (arith, ints)

pub dot_of_zeros : (n : ℕ) (xs : List ℤ) → dot (replicate n (pos 0)) xs ≡ pos 0
dot_of_zeros zero xs = refl
dot_of_zeros (suc n) [] = refl
dot_of_zeros (suc n) (x ∷ xs) = nothing (pos 0 *ℤ x) _ (zero-*ℤ x) (dot_of_zeros n xs)
  where
    nothing : (a b : ℤ) → a ≡ pos 0 → b ≡ pos 0 → a +ℤ b ≡ pos 0
    nothing a b h k = omega (arith, ints)

pub length_of_sums : (a b : List ℤ) → length a ≡ length b → length (sums a b) ≡ length a
length_of_sums [] b e = refl
length_of_sums (c ∷ a) [] e = absurd (omega arith)
length_of_sums (c ∷ a) (d ∷ b) e = ap suc (length_of_sums a b (omega arith))

pub length_of_differences : (a b : List ℤ) → length a ≡ length b → length (differences a b) ≡ length a
length_of_differences [] b e = refl
length_of_differences (c ∷ a) [] e = absurd (omega arith)
length_of_differences (c ∷ a) (d ∷ b) e = ap suc (length_of_differences a b (omega arith))

pub length_of_multiples : (a : List ℤ) (z : ℤ) → length (multiples a z) ≡ length a
length_of_multiples [] z = refl
length_of_multiples (c ∷ a) z = ap suc (length_of_multiples a z)

pub record IsHeld (coefs : List ℤ) (constant : ℤ) (left : Option (Option ℕ)) (f : Affine) : Type 0 where
  pub coefs_are : f.coefs ≡ coefs
  pub constant_is : f.constant ≡ constant
  pub symbol_is : left ≡ Some f.symbol

abbrev made : List ℤ → ℤ → Option ℕ → Affine
made coefs z s = record { coefs = coefs; constant = z; symbol = s }

-- what a form is that is held
pub what_is_held : (coefs : List ℤ) (z : ℤ) (left : Option (Option ℕ)) (f : Affine) → held coefs z left ≡ Some f → IsHeld coefs z left f
what_is_held coefs z None f e = cc
what_is_held coefs z (Some s) f e = by_test (list_all fits coefs && fits z) e
  where
    is_made : made coefs z s ≡ f → IsHeld coefs z (Some s) f
    is_made same = record { coefs_are = sym (ap (λ x. x.coefs) same); constant_is = sym (ap (λ x. x.constant) same); symbol_is = ap (λ x. Some x.symbol) same }

    by_test : (b : Bool) → (if b then Some (made coefs z s) else None) ≡ Some f → IsHeld coefs z (Some s) f
    by_test true h = let same : made coefs z s ≡ f = cc in is_made same
    by_test false h = cc

sum_is : (a b s : Option ℕ) (symbols : ℕ → ℤ) → sum_symbol a b ≡ Some s → symbol_value s symbols ≡ symbol_value a symbols +ℤ symbol_value b symbols
sum_is None b s symbols e = let same : b ≡ s = cc in ap (λ x. symbol_value x symbols) (sym same) ∙ zero_more _
  where
    zero_more : (z : ℤ) → z ≡ pos 0 +ℤ z
    zero_more z = omega (arith, ints)
sum_is (Some m) None s symbols e = let same : Some m ≡ s = cc in ap (λ x. symbol_value x symbols) (sym same) ∙ more_zero (symbols m)
  where
    more_zero : (z : ℤ) → z ≡ z +ℤ pos 0
    more_zero z = omega (arith, ints)
sum_is (Some m) (Some n) s symbols e = cc

less_zero : (z : ℤ) → z ≡ z -ℤ pos 0
less_zero z = omega (arith, ints)

difference_is : (a b s : Option ℕ) (symbols : ℕ → ℤ) → difference_symbol a b ≡ Some s → symbol_value s symbols ≡ symbol_value a symbols -ℤ symbol_value b symbols
difference_is None None s symbols e = let same : None ≡ s = cc in ap (λ x. symbol_value x symbols) (sym same)
difference_is (Some m) None s symbols e = let same : Some m ≡ s = cc in ap (λ x. symbol_value x symbols) (sym same) ∙ less_zero (symbols m)
difference_is None (Some n) s symbols e = cc
difference_is (Some m) (Some n) s symbols e = by_test (m == n) refl e
  where
    nothing : (x y : ℤ) → x ≡ y → pos 0 ≡ x -ℤ y
    nothing x y e = omega (arith, ints)

    by_test : (b : Bool) → (m == n) ≡ b → (if b then Some None else None) ≡ Some s → symbol_value s symbols ≡ symbols m -ℤ symbols n
    by_test true t h = let same : None ≡ s = cc in ap (λ x. symbol_value x symbols) (sym same) ∙ nothing _ _ (ap symbols ((Decides-eqb m n).0 t))
    by_test false t h = cc

multiple_is : (a : Option ℕ) (z : ℤ) (s : Option ℕ) (symbols : ℕ → ℤ) → multiple_symbol a z ≡ Some s → symbol_value s symbols ≡ symbol_value a symbols *ℤ z
multiple_is None z s symbols e = let same : None ≡ s = cc in ap (λ x. symbol_value x symbols) (sym same) ∙ sym (zero-*ℤ z)
multiple_is (Some m) z s symbols e = by_zero (int_eq z (pos 0)) refl e
  where
    times_one : (x : ℤ) → x ≡ x *ℤ pos 1
    times_one x = omega (arith, ints)

    by_one : (b : Bool) → int_eq z (pos 1) ≡ b → (if b then Some (Some m) else None) ≡ Some s → symbol_value s symbols ≡ symbols m *ℤ z
    by_one true t h = let same : Some m ≡ s = cc in ap (λ x. symbol_value x symbols) (sym same) ∙ times_one (symbols m) ∙ ap (λ x. symbols m *ℤ x) (sym ((Decides-int_eq z (pos 1)).0 t))
    by_one false t h = cc

    by_zero : (b : Bool) → int_eq z (pos 0) ≡ b → (if b then Some None else (if int_eq z (pos 1) then Some (Some m) else None)) ≡ Some s → symbol_value s symbols ≡ symbols m *ℤ z
    by_zero true t h = let same : None ≡ s = cc in ap (λ x. symbol_value x symbols) (sym same) ∙ sym (*ℤ-zero (symbols m)) ∙ ap (λ x. symbols m *ℤ x) (sym ((Decides-int_eq z (pos 0)).0 t))
    by_zero false t h = by_one _ refl h

-- a form with a coefficient for each counter
pub record IsOf (n : ℕ) (values : List ℤ) (symbols : ℕ → ℤ) (f : Affine) (z : ℤ) : Type 0 where
  pub counters : length f.coefs ≡ n
  pub value : value_of f values symbols ≡ z

module _ (n : ℕ) (values : List ℤ) (symbols : ℕ → ℤ) where
  pub sum_value : (f g h : Affine) → length f.coefs ≡ n → length g.coefs ≡ n → sum_form f g ≡ Some h → IsOf n values symbols h (value_of f values symbols +ℤ value_of g values symbols)
  sum_value f g h a b e =
      let is = what_is_held (sums f.coefs g.coefs) (f.constant +ℤ g.constant) (sum_symbol f.symbol g.symbol) h e in
      let same = a ∙ sym b in
      record {
        counters = ap length is.coefs_are ∙ length_of_sums f.coefs g.coefs same ∙ a;
        value = joined (dot h.coefs values) (dot f.coefs values) (dot g.coefs values) h.constant f.constant g.constant (symbol_value h.symbol symbols) (symbol_value f.symbol symbols) (symbol_value g.symbol symbols) (ap (λ x. dot x values) is.coefs_are ∙ dot_of_sums f.coefs g.coefs values same) is.constant_is (sum_is f.symbol g.symbol h.symbol symbols is.symbol_is);
      }
    where
      joined : (d dx dy k kx ky s sx sy : ℤ) → d ≡ dx +ℤ dy → k ≡ kx +ℤ ky → s ≡ sx +ℤ sy → (d +ℤ k) +ℤ s ≡ ((dx +ℤ kx) +ℤ sx) +ℤ ((dy +ℤ ky) +ℤ sy)
      joined d dx dy k kx ky s sx sy p q r = omega (arith, ints)

  pub difference_value : (f g h : Affine) → length f.coefs ≡ n → length g.coefs ≡ n → difference_form f g ≡ Some h → IsOf n values symbols h (value_of f values symbols -ℤ value_of g values symbols)
  difference_value f g h a b e =
      let is = what_is_held (differences f.coefs g.coefs) (f.constant -ℤ g.constant) (difference_symbol f.symbol g.symbol) h e in
      let same = a ∙ sym b in
      record {
        counters = ap length is.coefs_are ∙ length_of_differences f.coefs g.coefs same ∙ a;
        value = joined (dot h.coefs values) (dot f.coefs values) (dot g.coefs values) h.constant f.constant g.constant (symbol_value h.symbol symbols) (symbol_value f.symbol symbols) (symbol_value g.symbol symbols) (ap (λ x. dot x values) is.coefs_are ∙ dot_of_differences f.coefs g.coefs values same) is.constant_is (difference_is f.symbol g.symbol h.symbol symbols is.symbol_is);
      }
    where
      joined : (d dx dy k kx ky s sx sy : ℤ) → d ≡ dx -ℤ dy → k ≡ kx -ℤ ky → s ≡ sx -ℤ sy → (d +ℤ k) +ℤ s ≡ ((dx +ℤ kx) +ℤ sx) -ℤ ((dy +ℤ ky) +ℤ sy)
      joined d dx dy k kx ky s sx sy p q r = omega (arith, ints)

  pub multiple_value : (f : Affine) (z : ℤ) (h : Affine) → length f.coefs ≡ n → multiple_form f z ≡ Some h → IsOf n values symbols h (value_of f values symbols *ℤ z)
  multiple_value f z h a e =
      let is = what_is_held (multiples f.coefs z) (f.constant *ℤ z) (multiple_symbol f.symbol z) h e in
      record {
        counters = ap length is.coefs_are ∙ length_of_multiples f.coefs z ∙ a;
        value = joined (dot h.coefs values) (dot f.coefs values *ℤ z) h.constant (f.constant *ℤ z) (symbol_value h.symbol symbols) (symbol_value f.symbol symbols *ℤ z) (value_of f values symbols *ℤ z) ((dot f.coefs values +ℤ f.constant) *ℤ z) (ap (λ x. dot x values) is.coefs_are ∙ dot_of_multiples f.coefs z values) is.constant_is (multiple_is f.symbol z h.symbol symbols is.symbol_is)
            (sum_times (dot f.coefs values +ℤ f.constant) (symbol_value f.symbol symbols) z) (sum_times (dot f.coefs values) f.constant z);
      }
    where
      joined : (d dz k kz s sz all two : ℤ) → d ≡ dz → k ≡ kz → s ≡ sz → all ≡ two +ℤ sz → two ≡ dz +ℤ kz → (d +ℤ k) +ℤ s ≡ all
      joined d dz k kz s sz all two p q r t u = omega (arith, ints)

-- the symbol that is left is one of those that were there
module _ (P : ℕ → Type 0) where
  sum_keeps : (a b s : Option ℕ) → sum_symbol a b ≡ Some s → IfSome a P → IfSome b P → IfSome s P
  sum_keeps None b s e h k = let same : b ≡ s = cc in subst (λ (x : Option ℕ). IfSome x P) same k
  sum_keeps (Some m) None s e h k = let same : Some m ≡ s = cc in subst (λ (x : Option ℕ). IfSome x P) same h
  sum_keeps (Some m) (Some n) s e h k = cc

  difference_keeps : (a b s : Option ℕ) → difference_symbol a b ≡ Some s → IfSome a P → IfSome s P
  difference_keeps None None s e h = let same : None ≡ s = cc in subst (λ (x : Option ℕ). IfSome x P) same tt
  difference_keeps (Some m) None s e h = let same : Some m ≡ s = cc in subst (λ (x : Option ℕ). IfSome x P) same h
  difference_keeps None (Some n) s e h = cc
  difference_keeps (Some m) (Some n) s e h = by_test (m == n) e
    where
      by_test : (b : Bool) → (if b then Some None else None) ≡ Some s → IfSome s P
      by_test true g = let same : None ≡ s = cc in subst (λ (x : Option ℕ). IfSome x P) same tt
      by_test false g = cc

  multiple_keeps : (a : Option ℕ) (z : ℤ) (s : Option ℕ) → multiple_symbol a z ≡ Some s → IfSome a P → IfSome s P
  multiple_keeps None z s e h = let same : None ≡ s = cc in subst (λ (x : Option ℕ). IfSome x P) same tt
  multiple_keeps (Some m) z s e h = by_zero (int_eq z (pos 0)) e
    where
      by_one : (b : Bool) → (if b then Some (Some m) else None) ≡ Some s → IfSome s P
      by_one true g = let same : Some m ≡ s = cc in subst (λ (x : Option ℕ). IfSome x P) same h
      by_one false g = cc

      by_zero : (b : Bool) → (if b then Some None else (if int_eq z (pos 1) then Some (Some m) else None)) ≡ Some s → IfSome s P
      by_zero true g = let same : None ≡ s = cc in subst (λ (x : Option ℕ). IfSome x P) same tt
      by_zero false g = by_one _ g

  pub sum_symbol_kept : (f g h : Affine) → sum_form f g ≡ Some h → IfSome f.symbol P → IfSome g.symbol P → IfSome h.symbol P
  sum_symbol_kept f g h e = sum_keeps f.symbol g.symbol h.symbol (what_is_held (sums f.coefs g.coefs) (f.constant +ℤ g.constant) (sum_symbol f.symbol g.symbol) h e).symbol_is

  pub difference_symbol_kept : (f g h : Affine) → difference_form f g ≡ Some h → IfSome f.symbol P → IfSome h.symbol P
  difference_symbol_kept f g h e = difference_keeps f.symbol g.symbol h.symbol (what_is_held (differences f.coefs g.coefs) (f.constant -ℤ g.constant) (difference_symbol f.symbol g.symbol) h e).symbol_is

  pub multiple_symbol_kept : (f : Affine) (z : ℤ) (h : Affine) → multiple_form f z ≡ Some h → IfSome f.symbol P → IfSome h.symbol P
  multiple_symbol_kept f z h e = multiple_keeps f.symbol z h.symbol (what_is_held (multiples f.coefs z) (f.constant *ℤ z) (multiple_symbol f.symbol z) h e).symbol_is
