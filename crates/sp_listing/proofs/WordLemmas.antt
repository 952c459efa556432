-- The words of a line, one by one.
use Rattle.std.proofs.Common.{◌≡◌, ◌≢◌, ℕ, All, decimal, suc, ◌+◌, ◌<◌, List, [], ◌∷◌, length, get_or, drop, map, Bor, refl, sym, ◌∙◌, ap, arith, add-one, drop-cons, length-drop}
use Rattle.std.proofs.Math.ListN.{get_or-map}
use Rattle.std.proofs.lemmas.List.{get_or-map as get_or-map_within}
use Rattle.std.proofs.lemmas.List.{length-map}
use Rattle.std.proofs.lemmas.List.Elements.{All-get_or}
use Rattle.sp_netlist.specs.Rules.{IsLength}
use Rattle.sp_listing.specs.Readers.{texts}

-- what stands for a word past the last
abbrev pub blank : Bor (List ℕ)
blank = record { ref_ptr = (0, 0); now = [] }

text_at : (parts : List (Bor (List ℕ))) (i : ℕ) → get_or (texts parts) i [] ≡ (get_or parts i blank).now
text_at parts i = get_or-map (λ text. text.now) parts i blank

-- each word of equal lists is the same
pub word_is : (parts : List (Bor (List ℕ))) (words : List (List ℕ)) (i : ℕ) → texts parts ≡ words → (get_or parts i blank).now ≡ get_or words i []
word_is parts words i e = sym (text_at parts i) ∙ ap (λ ws. get_or ws i []) e

-- these words stand from the i-th on
abbrev pub StandFrom : List (Bor (List ℕ)) → ℕ → List (List ℕ) → Type 0
StandFrom parts i [] = Unit {0}
StandFrom parts i (word ∷ words) = ((get_or parts i blank).now ≡ word) × StandFrom parts (i + 1) words

-- a list of length 0 is empty
pub nothing : (parts : List (Bor (List ℕ))) → length parts ≡ 0 → parts ≡ []
nothing [] len = refl
nothing (p ∷ ps) len = absurd (omega arith)

texts_from : (parts : List (Bor (List ℕ))) (words : List (List ℕ)) (i : ℕ) → length parts ≡ i + length words → StandFrom parts i words → texts (drop i parts) ≡ words
texts_from parts [] i len h = ap texts (nothing (drop i parts) (omega (arith, length-drop i parts)))
texts_from parts (word ∷ words) i len (first, others) =
    let within : i < length parts = omega arith in
    let later : texts (drop (i + 1) parts) ≡ words = texts_from parts words (i + 1) (omega arith) others in
    let next : texts (drop (suc i) parts) ≡ words = rw add-one at later in
    rw (drop-cons parts i blank) cc

pub texts_are : (parts : List (Bor (List ℕ))) (words : List (List ℕ)) → length parts ≡ length words → StandFrom parts 0 words → texts parts ≡ words
texts_are parts words len h = texts_from parts words 0 (omega arith) h

-- a word that is no length isn't among the texts of lengths
pub no_dims : (words : List (Bor (List ℕ))) (i : ℕ) → i < length words → ((n : ℕ) → IsLength n → (get_or words i blank).now ≢ decimal n)
    → (dims : List ℕ) → All IsLength dims → texts words ≢ map decimal dims
no_dims words i within none dims lengths same =
    let long : length words ≡ length dims = sym (length-map words (λ text. text.now)) ∙ ap length same ∙ length-map dims decimal in
    let at : (get_or words i blank).now ≡ decimal (get_or dims i 0) = word_is words (map decimal dims) i same ∙ get_or-map_within decimal dims i 0 [] (omega arith) in
    none (get_or dims i 0) (All-get_or IsLength dims i 0 (omega arith) lengths) at
