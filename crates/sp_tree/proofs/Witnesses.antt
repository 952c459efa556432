-- How parts of a worked program are shown to be right.
use Rattle.std.proofs.Common.{◌≡◌, ℕ, zero, suc, Bool, true, false, IsTrue, List, [], ◌∷◌, refl, sym, ◌∙◌, ap, arith, eq-eqb}
use Rattle.std.specs.Prelude.{◌+◌, ◌*◌, ◌==◌, ◌&&◌, not, All, Contains}
use Rattle.std.specs.List.{list_all}
use Rattle.sp_words.specs.declared.types.Ty.TheVariants.{Bit}
use Rattle.sp_words.specs.Types.{int_type}
use Rattle.sp_words.specs.Names.{IsName, is_name, reserved_words}

-- P of each element, one after the other
abbrev pub EachOf : {A : Type 0} → (A → Type 0) → List A → Type 0
EachOf P [] = Unit {0}
EachOf P (x ∷ xs) = P x × EachOf P xs

pub all_of : {A : Type 0} (P : A → Type 0) (xs : List A) → EachOf P xs → All P xs
all_of P [] each k d h = absurd (omega arith)
all_of P (x ∷ xs) each zero d h = each.0
all_of P (x ∷ xs) each (suc k) d h = all_of P xs each.1 k d (omega arith)

-- a sum of the bytes, by which the names of the worked programs are told apart
abbrev pub mark : List ℕ → ℕ
mark [] = 0
mark (c ∷ rest) = c + 2 * mark rest

apart_first : (b : Bool) (rest : Bool) → IsTrue (b && rest) → IsTrue b
apart_first true rest h = refl
apart_first false rest h = h

apart_rest : (b : Bool) (rest : Bool) → IsTrue (b && rest) → IsTrue rest
apart_rest true rest h = h
apart_rest false rest h = cc

pub not_among : (names : List (List ℕ)) (name : List ℕ) → IsTrue (list_all (λ w. not (mark w == mark name)) names) → Contains names name → ⊥
not_among [] name h c = omega (arith, c.1)
not_among (w ∷ names) name h (zero, lt, e) =
    let first : not (mark w == mark name) ≡ true = apart_first _ _ h in
    let same : (mark w == mark name) ≡ true = eq-eqb (mark w) (mark name) (ap mark e) in
    let bad : false ≡ true = sym (ap not same) ∙ first in
    absurd (cc)
not_among (w ∷ names) name h (suc k, lt, e) = not_among names name (apart_rest _ _ h) (k, omega (arith, lt), e)

pub a_name : (name : List ℕ) → IsTrue (is_name name) → IsTrue (list_all (λ w. not (mark w == mark name)) reserved_words) → IsName name
a_name name letters free = record { letters = letters; free = not_among reserved_words name free }

pub int_is_number : int_type ≡ Bit → ⊥
int_is_number e = absurd (cc)
