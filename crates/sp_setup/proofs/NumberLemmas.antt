-- Digits and the numbers that they write.
use Rattle.std.proofs.Common.{◌≡◌, ℕ, zero, suc, ◌+◌, ◌-◌, ◌*◌, ◌^◌, ◌<◌, ◌≤◌, true, List, ◌∷◌, length, drop, get_or, ◌∙◌, ap, arith}
use Rattle.std.specs.List.{list_all}
use Rattle.std.proofs.Math.Nat.{pow-succ'}
use Rattle.std.proofs.lemmas.Bool.Decides.{nat_tests}
use Rattle.std.proofs.lemmas.List.{length-map, drop_more}
use Rattle.std.proofs.lemmas.List.Sums.{AllPass-from_list_all}
use Rattle.std.proofs.lemmas.List.Elements.{All-map}
use Rattle.sp_words.specs.Decimal.{AreDigits, digits_number}
use Rattle.sp_setup.specs.Number.{is_digit, digits_of}

-- what is left of the number that bytes write, after a number so far
abbrev pub number_with : ℕ → List ℕ → ℕ
number_with n rest = n * 10 ^ length rest + digits_number (digits_of rest)

-- one more digit
with_digit : (n b : ℕ) (rest : List ℕ) → number_with n (b ∷ rest) ≡ number_with (n * 10 + (b - 48)) rest
with_digit n b rest =
    let power : 10 ^ length (b ∷ rest) ≡ 10 * 10 ^ length rest = pow-succ' 10 (length rest) in
    let long : length (digits_of rest) ≡ length rest = length-map rest (λ byte. byte - 48) in
    let part : digits_number (digits_of (b ∷ rest)) ≡ (b - 48) * 10 ^ length rest + digits_number (digits_of rest) =
    ap (λ k. (b - 48) * 10 ^ k + digits_number (digits_of rest)) long in
    ap (λ p. n * p + digits_number (digits_of (b ∷ rest))) power
    ∙ ap (λ k. n * (10 * 10 ^ length rest) + k) part
    ∙ omega arith

pub number_with-drop : (bytes : List ℕ) (i n : ℕ) → i < length bytes → number_with n (drop i bytes) ≡ number_with (n * 10 + (get_or bytes i 0 - 48)) (drop (i + 1) bytes)
number_with-drop bytes i n h = ap (number_with n) (drop_more bytes i 0 h) ∙ with_digit n (get_or bytes i 0) (drop (i + 1) bytes)

-- more digits write no smaller number
positive : (k : ℕ) → 0 < 10 ^ k
positive zero = omega arith
positive (suc k) = omega (arith, pow-succ' 10 k, positive k)

le-times : (n q : ℕ) → 0 < q → n ≤ n * q
le-times n zero h = absurd (omega arith)
le-times n (suc q) h = omega arith

pub le-number_with : (n : ℕ) (rest : List ℕ) → n ≤ number_with n rest
le-number_with n rest =
    let more : n ≤ n * 10 ^ length rest = le-times n (10 ^ length rest) (positive (length rest)) in
    omega arith

-- a byte that writes a digit less 48 is a digit
digit_of : (b : ℕ) → is_digit b ≡ true → b - 48 < 10
digit_of b h = grind (arith, nat_tests)

pub AreDigits-digits_of : (bytes : List ℕ) → list_all is_digit bytes ≡ true → AreDigits (digits_of bytes)
AreDigits-digits_of bytes all =
    All-map (λ d. d < 10) (λ byte. byte - 48) bytes (λ k d below. digit_of _ (AllPass-from_list_all is_digit bytes all k d below))
