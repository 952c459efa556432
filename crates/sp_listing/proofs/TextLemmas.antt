-- Texts cut at a byte, and which bytes the parts of a listing's lines have.
use Rattle.std.proofs.Common.{◌≡◌, ◌≢◌, ℕ, ◌<◌, ◌≤◌, ◌^◌, Bool, true, false, List, [], ◌∷◌, ◌++◌, length, get_or, All, IsTrue, refl, sym, ◌∙◌, arith, decimal, Option, Some, None, Bor, MatchOption, ◌&&◌, nat_le}
use Rattle.std.specs.Int.{IsInRange}
use Rattle.std.specs.List.{list_all}
use Rattle.std.proofs.lemmas.Bool.{false≢true}
use Rattle.std.proofs.lemmas.Bool.Decides.{nat_tests}
use Rattle.std.proofs.lemmas.Fmt.{digits_decimal}
use Rattle.std.proofs.lemmas.Str.Pattern.{IsSplitOnceResult, split_parts}
use Rattle.std.proofs.lemmas.Str.Parse.{tells_by_index, numerals_by_value}
use Rattle.std.proofs.lemmas.List.Elements.{All-nil, All-cons, All-head, All-tail, All-from_get_or, All-weaker}
use Rattle.sp_words.specs.Names.{IsName, is_name, is_letter, is_name_byte}
use Rattle.sp_listing.specs.Readers.{Lacks, sign_text, counts_text}

-- a text is cut at the first place of a byte in just one way
pub cut_same : (c : ℕ) (xs us ys vs : List ℕ) → Lacks c xs → Lacks c us → xs ++ (c ∷ ys) ≡ us ++ (c ∷ vs) → (xs ≡ us) × (ys ≡ vs)
cut_same c [] [] ys vs l m e = (refl, cc)
cut_same c [] (u ∷ us) ys vs l m e = let h : c ≡ u = cc in absurd (All-head (λ b. b ≢ c) u us m (sym h))
cut_same c (x ∷ xs) [] ys vs l m e = let h : x ≡ c = cc in absurd (All-head (λ b. b ≢ c) x xs l h)
cut_same c (x ∷ xs) (u ∷ us) ys vs l m e =
    let h : x ≡ u = cc in
    let t : xs ++ (c ∷ ys) ≡ us ++ (c ∷ vs) = cc in
    let r = cut_same c xs us ys vs (All-tail (λ b. b ≢ c) x xs l) (All-tail (λ b. b ≢ c) u us m) t in
    let same : xs ≡ us = r.0 in
    (cc, r.1)

pub lacks_none : (c : ℕ) (xs ys : List ℕ) → Lacks c (xs ++ (c ∷ ys)) → ⊥
lacks_none c [] ys l = All-head (λ b. b ≢ c) c ys l refl
lacks_none c (x ∷ xs) ys l = lacks_none c xs ys (All-tail (λ b. b ≢ c) x (xs ++ (c ∷ ys)) l)

pub cut_once : (c : ℕ) (text : List ℕ) (r : Option (Bor (List ℕ) × Bor (List ℕ))) → IsSplitOnceResult c text r → c < 128
    → MatchOption r (Lacks c text) (λ p. (text ≡ p.0.now ++ (c ∷ p.1.now)) × Lacks c p.0.now)
cut_once c text r h ascii =
    let parts = split_parts c text r h ascii in
    let P : Option (Bor (List ℕ) × Bor (List ℕ)) → Type 0 = λ o.
    MatchOption o ((i : ℕ) → i < length text → get_or text i 0 ≢ c) (λ x. (text ≡ x.0.now ++ (c ∷ x.1.now)) × ((i : ℕ) → i < length x.0.now → get_or x.0.now i 0 ≢ c))
    → MatchOption o (Lacks c text) (λ p. (text ≡ p.0.now ++ (c ∷ p.1.now)) × Lacks c p.0.now) in
    let by_cases : (o : Option (Bor (List ℕ) × Bor (List ℕ))) → P o = λ o. elim o as P [
      | None ↦ λ none. All-from_get_or (λ b. b ≢ c) text 0 none
      | Some p ↦ λ (same, before). (same, All-from_get_or (λ b. b ≢ c) p.0.now 0 before)
    ] in
    by_cases r parts

-- a byte that is no blank and no line end
abbrev pub is_graphic : ℕ → Bool
is_graphic b = nat_le 33 b && nat_le b 127

abbrev pub IsGraphic : ℕ → Type 0
IsGraphic b = (33 ≤ b) × (b ≤ 127)

pub graphic_lacks : (c : ℕ) (xs : List ℕ) → c < 33 → All IsGraphic xs → Lacks c xs
graphic_lacks c xs small h = All-weaker IsGraphic (λ b. b ≢ c) (λ b (low, high) e. absurd (omega arith)) xs h

graphic_tested : (b : ℕ) → is_graphic b ≡ true → IsGraphic b
graphic_tested b e = grind (arith, nat_tests)

pub and_left : (a b : Bool) → (a && b) ≡ true → a ≡ true
and_left true b e = refl
and_left false b e = e

pub and_right : (a b : Bool) → (a && b) ≡ true → b ≡ true
and_right true b e = e
and_right false b e = absurd (false≢true e)

-- for a written text, whose test computes
pub graphic_all : (xs : List ℕ) → list_all is_graphic xs ≡ true → All IsGraphic xs
graphic_all [] e = All-nil IsGraphic
graphic_all (x ∷ xs) e =
    All-cons IsGraphic x xs (graphic_tested x (and_left (is_graphic x) (list_all is_graphic xs) e))
    (graphic_all xs (and_right (is_graphic x) (list_all is_graphic xs) e))

graphic_byte : (b : ℕ) → is_name_byte b ≡ true → IsGraphic b
graphic_byte b e = grind (arith, nat_tests)

graphic_letter : (b : ℕ) → is_letter b ≡ true → IsGraphic b
graphic_letter b e = grind (arith, nat_tests)

graphic_bytes : (xs : List ℕ) → list_all is_name_byte xs ≡ true → All IsGraphic xs
graphic_bytes [] e = All-nil IsGraphic
graphic_bytes (x ∷ xs) e =
    All-cons IsGraphic x xs (graphic_byte x (and_left (is_name_byte x) (list_all is_name_byte xs) e))
    (graphic_bytes xs (and_right (is_name_byte x) (list_all is_name_byte xs) e))

graphic_letters : (name : List ℕ) → IsTrue (is_name name) → All IsGraphic name
graphic_letters [] e = absurd (false≢true e)
graphic_letters (x ∷ xs) e =
    All-cons IsGraphic x xs (graphic_letter x (and_left (is_letter x) (list_all is_name_byte xs) e))
    (graphic_bytes xs (and_right (is_letter x) (list_all is_name_byte xs) e))

pub graphic_name : (name : List ℕ) → IsName name → All IsGraphic name
graphic_name name h = graphic_letters name h.letters

decimal_digits : (n : ℕ) → n < 2 ^ 64 → (i : ℕ) → i < length (decimal n) → IsInRange 48 57 (get_or (decimal n) i 0)
decimal_digits n small =
    digits_decimal (numerals_by_value (λ ds. (i : ℕ) → i < length ds → IsInRange 48 57 (get_or ds i 0)) tells_by_index) n small

pub graphic_decimal : (n : ℕ) → n < 2 ^ 64 → All IsGraphic (decimal n)
graphic_decimal n small =
    let digits = decimal_digits n small in
    All-from_get_or IsGraphic (decimal n) 0 (λ i l. let d = digits i l in (omega arith, omega arith))

-- a number has no point
pub decimal_lacks : (n : ℕ) → n < 2 ^ 64 → Lacks 46 (decimal n)
decimal_lacks n small =
    let digits = decimal_digits n small in
    All-from_get_or (λ b. b ≢ 46) (decimal n) 0 (λ i l point. let d = digits i l in absurd (omega arith))

pub counts_point : (bits : List ℕ) (whole frac : ℕ) → Lacks 46 bits → bits ≡ counts_text whole frac → ⊥
counts_point bits whole frac lacks same = lacks_none 46 (decimal whole) (decimal frac) (rw same at lacks)

pub counts_cut : (bits front rest : List ℕ) (whole frac : ℕ) → whole ≤ 64 → bits ≡ front ++ (46 ∷ rest) → Lacks 46 front → bits ≡ counts_text whole frac → (front ≡ decimal whole) × (rest ≡ decimal frac)
counts_cut bits front rest whole frac small cut lacks same =
    cut_same 46 front (decimal whole) rest (decimal frac) lacks (decimal_lacks whole (omega arith)) (sym cut ∙ same)

-- the sign of a type's code is its first letter
pub same_sign : (a b : Bool) (xs ys : List ℕ) → sign_text a ++ xs ≡ sign_text b ++ ys → (a ≡ b) × (xs ≡ ys)
same_sign true true xs ys e = (refl, cc)
same_sign false false xs ys e = (refl, cc)
same_sign true false xs ys e = let h : ◌≡◌ {A = ℕ} 115 117 = cc in absurd (omega arith)
same_sign false true xs ys e = let h : ◌≡◌ {A = ℕ} 117 115 = cc in absurd (omega arith)
