-- What a number says at a type, from what `of_decimal` says of it; and what a value of a setup says.
use Rattle.std.proofs.Common.{◌≡◌, ℕ, ◌^◌, ◌<◌, ◌≤◌, ◌&&◌, Bool, true, false, nat_lt, nat_le, T, ℤ, pos, List, [], length, Some, None, if◌then◌else◌, refl, sym, subst, ap, ◌∙◌, arith}
use Rattle.std.specs.Prelude.{int_lt, int_le, ◌≤ℤ◌, ◌<ℤ◌, unsigned_abs}
use Rattle.std.specs.Bool.{MatchBool}
use Rattle.std.proofs.lemmas.Bool.{and_parts}
use Rattle.std.proofs.lemmas.Bool.Decides.{nat_tests}
use Rattle.toml.specs.Data.{Data, string, integer, float, boolean, datetime, array, table, as_integer, as_bool, as_str}
use Rattle.sp_words.specs.declared.types.Ty.{Ty}
use Rattle.sp_words.specs.Types.{signed_of}
use Rattle.sp_words.specs.Words.{IsWord, value_of, wrap}
use Rattle.sp_words.specs.Laws.{IsInRange}
use Rattle.sp_words.specs.Decimal.{digits_number, decimal_value}
use Rattle.sp_setup.specs.declared.reading.Reading.TheVariants.{Word, OutOfRange, NoNumber}
use Rattle.sp_setup.specs.Number.{NumberParts}
use Rattle.sp_setup.specs.Reading.{is_in_range, number_reading, parts_reading, text_reading, boolean_reading, data_reading}

is_so : (t : Bool) → T t → t ≡ true
is_so true h = refl
is_so false h = absurd h

not_true : (b : Bool) → (b ≡ true → ⊥) → b ≡ false
not_true true h = absurd (h refl)
not_true false h = refl

between-true : (low z high : ℤ) → (low ≤ℤ z) × (z <ℤ high) → (int_le low z && int_lt z high) ≡ true
between-true low z high h =
    let a : int_le low z ≡ true = is_so _ h.0.le in
    let b : int_lt z high ≡ true = is_so _ h.1.lt in
    rw (a, b)

true-between : (low z high : ℤ) → (int_le low z && int_lt z high) ≡ true → (low ≤ℤ z) × (z <ℤ high)
true-between low z high e =
    let parts = and_parts _ _ e in
    (record { le = subst T (sym parts.0) tt }, record { lt = subst T (sym parts.1) tt })

chosen-true : (s : Bool) (z low high top : ℤ) → MatchBool s ((low ≤ℤ z) × (z <ℤ high)) ((pos 0 ≤ℤ z) × (z <ℤ top))
    → (if s then int_le low z && int_lt z high else (int_le (pos 0) z && int_lt z top)) ≡ true
chosen-true true z low high top h = between-true low z high h
chosen-true false z low high top h = between-true (pos 0) z top h

true-chosen : (s : Bool) (z low high top : ℤ) → (if s then int_le low z && int_lt z high else (int_le (pos 0) z && int_lt z top)) ≡ true
    → MatchBool s ((low ≤ℤ z) × (z <ℤ high)) ((pos 0 ≤ℤ z) × (z <ℤ top))
true-chosen true z low high top e = true-between low z high e
true-chosen false z low high top e = true-between (pos 0) z top e

in_range-true : (ty : Ty) (z : ℤ) → IsInRange ty z → is_in_range ty z ≡ true
unfolding is_in_range
in_range-true ty z h = chosen-true (signed_of ty) z _ _ _ h

true-in_range : (ty : Ty) (z : ℤ) → is_in_range ty z ≡ true → IsInRange ty z
unfolding is_in_range
true-in_range ty z e = true-chosen (signed_of ty) z _ _ _ e

pub number_reading-word : ((ty : Ty) (w : ℕ) → IsWord ty w → IsInRange ty (value_of ty w)) → ((ty : Ty) (w : ℕ) → IsWord ty w → wrap ty (value_of ty w) ≡ w)
    → (ty : Ty) (negative : Bool) (whole : ℕ) (ds : List ℕ) (w : ℕ) → IsWord ty w → value_of ty w ≡ decimal_value ty negative whole ds
    → Word w ≡ number_reading ty negative whole ds
unfolding number_reading
number_reading-word in_range each_word ty negative whole ds w is e =
    let P : ℤ → Type 0 = IsInRange ty in
    let range : is_in_range ty (decimal_value ty negative whole ds) ≡ true = in_range-true ty _ (subst P e (in_range ty w is)) in
    let same : w ≡ wrap ty (decimal_value ty negative whole ds) = sym (each_word ty w is) ∙ ap (wrap ty) e in
    rw range (ap Word same)

pub number_reading-none : (ty : Ty) (negative : Bool) (whole : ℕ) (ds : List ℕ) → (IsInRange ty (decimal_value ty negative whole ds) → ⊥)
    → OutOfRange ≡ number_reading ty negative whole ds
unfolding number_reading
number_reading-none ty negative whole ds never =
    let range : is_in_range ty (decimal_value ty negative whole ds) ≡ false = not_true _ (λ e. never (true-in_range ty _ e)) in
    rw range

-- ---- number texts

pub parts_reading-none : (ty : Ty) → NoNumber ≡ parts_reading ty None
unfolding parts_reading
parts_reading-none ty = refl

pub parts_reading-great : (ty : Ty) (parts : NumberParts) → 2 ^ 128 ≤ digits_number parts.whole → OutOfRange ≡ parts_reading ty (Some parts)
unfolding parts_reading
parts_reading-great ty parts h =
    let e : nat_lt (digits_number parts.whole) (2 ^ 128) ≡ false = grind (arith, nat_tests) in
    rw e

pub parts_reading-long : (ty : Ty) (parts : NumberParts) → digits_number parts.whole < 2 ^ 128 → 64 < length parts.fraction → OutOfRange ≡ parts_reading ty (Some parts)
unfolding parts_reading
parts_reading-long ty parts small h =
    let e : nat_lt (digits_number parts.whole) (2 ^ 128) ≡ true = grind (arith, nat_tests) in
    let g : nat_le (length parts.fraction) 64 ≡ false = grind (arith, nat_tests) in
    rw (e, g)

pub parts_reading-number : (ty : Ty) (parts : NumberParts) → digits_number parts.whole < 2 ^ 128 → length parts.fraction ≤ 64
    → number_reading ty parts.negative (digits_number parts.whole) parts.fraction ≡ parts_reading ty (Some parts)
unfolding parts_reading
parts_reading-number ty parts small few =
    let e : nat_lt (digits_number parts.whole) (2 ^ 128) ≡ true = grind (arith, nat_tests) in
    let g : nat_le (length parts.fraction) 64 ≡ true = grind (arith, nat_tests) in
    rw (e, g)

-- ---- values of a setup

pub data_reading-integer : (ty : Ty) (d : Data) (z : ℤ) → Some z ≡ as_integer d → number_reading ty (int_lt z (pos 0)) (unsigned_abs z) [] ≡ data_reading ty d
unfolding data_reading
data_reading-integer ty (integer x) z e = let same : z ≡ x = cc in ap (λ y. number_reading ty (int_lt y (pos 0)) (unsigned_abs y) []) same
data_reading-integer ty (boolean b) z e = cc
data_reading-integer ty (string s) z e = cc
data_reading-integer ty (float x) z e = cc
data_reading-integer ty (datetime t) z e = cc
data_reading-integer ty (array xs) z e = cc
data_reading-integer ty (table t) z e = cc

pub data_reading-boolean : (ty : Ty) (d : Data) (b : Bool) → Some b ≡ as_bool d → boolean_reading ty b ≡ data_reading ty d
unfolding data_reading
data_reading-boolean ty (integer x) b e = cc
data_reading-boolean ty (boolean x) b e = let same : b ≡ x = cc in ap (boolean_reading ty) same
data_reading-boolean ty (string s) b e = cc
data_reading-boolean ty (float x) b e = cc
data_reading-boolean ty (datetime t) b e = cc
data_reading-boolean ty (array xs) b e = cc
data_reading-boolean ty (table t) b e = cc

pub data_reading-text : (ty : Ty) (d : Data) (s : List ℕ) → Some s ≡ as_str d → text_reading ty s ≡ data_reading ty d
unfolding data_reading
data_reading-text ty (integer x) s e = cc
data_reading-text ty (boolean b) s e = cc
data_reading-text ty (string x) s e = let same : s ≡ x = cc in ap (text_reading ty) same
data_reading-text ty (float x) s e = cc
data_reading-text ty (datetime t) s e = cc
data_reading-text ty (array xs) s e = cc
data_reading-text ty (table t) s e = cc

pub data_reading-other : (ty : Ty) (d : Data) → None ≡ as_integer d → None ≡ as_bool d → None ≡ as_str d → NoNumber ≡ data_reading ty d
unfolding data_reading
data_reading-other ty (integer x) i b s = cc
data_reading-other ty (boolean x) i b s = cc
data_reading-other ty (string x) i b s = cc
data_reading-other ty (float x) i b s = refl
data_reading-other ty (datetime t) i b s = refl
data_reading-other ty (array xs) i b s = refl
data_reading-other ty (table t) i b s = refl

pub number_reading-same : (ty : Ty) (negative : Bool) (n m : ℕ) (ds es : List ℕ) → n ≡ m → ds ≡ es → number_reading ty negative n ds ≡ number_reading ty negative m es
number_reading-same ty negative n m ds es p q = ap (λ k. number_reading ty negative k ds) p ∙ ap (number_reading ty negative m) q
