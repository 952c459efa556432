-- What is found of words that name files, where the parser has no fault to tell.
use Rattle.std.proofs.Common.{◌≡◌, ◌∙◌, ◌⊎◌, inl, inr, List, [], ◌∷◌, All, Option, Some, None, ap, refl, sym, codes, length, map, arith, subst}
use Rattle.std.proofs.lemmas.List.{length-map}
use Rattle.std.proofs.lemmas.List.Elements.{All-nil, All-cons, All-tail}
use Rattle.std.specs.Borrow.{Bor}
use Rattle.std.specs.Prelude.{option_map}
use Rattle.clap.specs.declared.parser.matches.Found.{Found}
use Rattle.clap.specs.Matches.{first_value}
use Rattle.clap.specs.Walk.{Text, first_of, rows_of}
use Rattle.clap.specs.Faults.{fault_of}
use Rattle.clap.specs.Kinds.{HasKind, IsAmong, Kinds}
use Rattle.clap.specs.Values.{kind_of}
use Rattle.clap.specs.declared.error.Error.{Error}
use Rattle.clap.specs.declared.error.kind.ErrorKind.TheVariants as kind
use Rattle.clap.specs.Simple.{matches_of}
use Rattle.sp_command.specs.Commands.{IsFileWord}
use Rattle.sp_command.specs.Said.{word_in}
use Rattle.sp_command.specs.Table.{table}
use Rattle.clap.proofs.WalkLemmas.{first_value-rows}
use Rattle.sp_command.proofs.Parsing.{none_is_refused, one_is_refused, two_are_taken, three_are_taken, more_are_refused, verb_of_two, first_of_two, second_of_two, verb_of_three, first_of_three, second_of_three}

abbrev pub listed : Option Text → List Text
listed None = []
listed (Some word) = word ∷ []

pub words_found : (words : List Text) → All IsFileWord words → fault_of table words ≡ [] → (v f : Text) (s : Option Text) → first_of (codes "verb") (matches_of table words) ≡ Some v
    → first_of (codes "first") (matches_of table words) ≡ Some f → first_of (codes "second") (matches_of table words) ≡ s → v ∷ f ∷ listed s ≡ words
words_found [] h e v f s p q r = let bad = sym none_is_refused ∙ e in cc
words_found (a ∷ []) h e v f s p q r = let bad = sym (one_is_refused a (h 0 [] (omega arith))) ∙ e in cc
words_found (a ∷ b ∷ []) h e v f s p q r =
    let x = h 0 [] (omega arith) in
    let y = h 1 [] (omega arith) in
    let is_v : v ≡ a = let t = sym p ∙ verb_of_two a b x y in cc in
    let is_f : f ≡ b = let t = sym q ∙ first_of_two a b x y in cc in
    let is_s : s ≡ None = sym r ∙ second_of_two a b x y in
    rw (is_v, is_f, is_s) refl
words_found (a ∷ b ∷ c ∷ []) h e v f s p q r =
    let x = h 0 [] (omega arith) in
    let y = h 1 [] (omega arith) in
    let z = h 2 [] (omega arith) in
    let is_v : v ≡ a = let t = sym p ∙ verb_of_three a b x y c z in cc in
    let is_f : f ≡ b = let t = sym q ∙ first_of_three a b x y c z in cc in
    let is_s : s ≡ Some c = sym r ∙ second_of_three a b x y c z in
    rw (is_v, is_f, is_s) refl
words_found (a ∷ b ∷ c ∷ d ∷ rest) h e v f s p q r =
    let bad = sym (more_are_refused a b c d rest (h 0 [] (omega arith)) (h 1 [] (omega arith)) (h 2 [] (omega arith)) (h 3 [] (omega arith))) ∙ e in cc

-- of two or three words the first two are
pub first_are_found : (words : List Text) → All IsFileWord words → (length words ≡ 2) ⊎ (length words ≡ 3)
    → (v f : Text) × (first_of (codes "verb") (matches_of table words) ≡ Some v) × (first_of (codes "first") (matches_of table words) ≡ Some f)
first_are_found [] h (inl e) = absurd (omega arith)
first_are_found [] h (inr e) = absurd (omega arith)
first_are_found (a ∷ []) h (inl e) = absurd (omega arith)
first_are_found (a ∷ []) h (inr e) = absurd (omega arith)
first_are_found (a ∷ b ∷ []) h e = (a, b, verb_of_two a b (h 0 [] (omega arith)) (h 1 [] (omega arith)), first_of_two a b (h 0 [] (omega arith)) (h 1 [] (omega arith)))
first_are_found (a ∷ b ∷ c ∷ []) h e =
    let x = h 0 [] (omega arith) in
    let y = h 1 [] (omega arith) in
    let z = h 2 [] (omega arith) in
    (a, b, verb_of_three a b x y c z, first_of_three a b x y c z)
first_are_found (a ∷ b ∷ c ∷ d ∷ rest) h (inl e) = absurd (omega arith)
first_are_found (a ∷ b ∷ c ∷ d ∷ rest) h (inr e) = absurd (omega arith)

-- of all words that are made by a function from others, and of these
pub before_map : {X Y : Type 0} (P : X → Type 0) (f : Y → X) (ys : List Y) → All P (map f ys) → All (λ y. P (f y)) ys
before_map P f [] h = All-nil (λ y. P (f y))
before_map P f (y ∷ ys) h = All-cons (λ y. P (f y)) y ys (h 0 (f y) (omega arith)) (before_map P f ys (All-tail P (f y) (map f ys) h))

-- what the parser's matches hold is what its rows do
pub seen : (f : Found) (words : List Text) (id : Text) (o : Option Text) → rows_of f ≡ matches_of table words → first_value f id ≡ o → first_of id (matches_of table words) ≡ o
seen f words id o e h = sym (first_value-rows f id ∙ ap (first_of id) e) ∙ h

pub word_listed : (word : Option (Bor Text)) → word_in word ≡ listed (option_map (λ w. w.now) word)
word_listed None = refl
word_listed (Some w) = refl

pub are_taken : (words : List Text) → All IsFileWord words → (length words ≡ 2) ⊎ (length words ≡ 3) → fault_of table words ≡ []
are_taken [] h (inl e) = absurd (omega arith)
are_taken [] h (inr e) = absurd (omega arith)
are_taken (a ∷ []) h (inl e) = absurd (omega arith)
are_taken (a ∷ []) h (inr e) = absurd (omega arith)
are_taken (a ∷ b ∷ []) h e = two_are_taken a b (h 0 [] (omega arith)) (h 1 [] (omega arith))
are_taken (a ∷ b ∷ c ∷ []) h e = three_are_taken a b c (h 0 [] (omega arith)) (h 1 [] (omega arith)) (h 2 [] (omega arith))
are_taken (a ∷ b ∷ c ∷ d ∷ rest) h (inl e) = absurd (omega arith)
are_taken (a ∷ b ∷ c ∷ d ∷ rest) h (inr e) = absurd (omega arith)

-- as many words as texts
pub as_many : {Y : Type 0} (f : Y → Text) (ys : List Y) → (length ys ≡ 2) ⊎ (length ys ≡ 3) → (length (map f ys) ≡ 2) ⊎ (length (map f ys) ≡ 3)
as_many f ys (inl e) = inl (omega (arith, length-map ys f))
as_many f ys (inr e) = inr (omega (arith, length-map ys f))

-- an error that isn't want of memory has a fault
pub has_fault : (kinds : Kinds) (e : Error) → HasKind kinds e → kinds ≡ [] → (kind_of e ≡ kind.OutOfMemory → ⊥) → ⊥
has_fault kinds e (inl h) empty other = other h
has_fault kinds e (inr h) empty other = subst (λ (k : Kinds). IsAmong (kind_of e) k) empty h
