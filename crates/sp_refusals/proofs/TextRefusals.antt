-- Where a text is refused.
use Rattle.std.proofs.Common.{◌≡◌, ◌∙◌, ◌⊎◌, inl, inr, ℕ, zero, suc, ◌+◌, ◌-◌, ◌≤◌, ◌<◌, ◌==◌, Bool, true, false, List, [], ◌∷◌, ◌++◌, length, take, Option, Some, None, Result, Ok, Err, refl, sym, ap, subst, arith, if◌then◌else◌}
use Rattle.std.proofs.lemmas.List.{append-nil}
use Rattle.sp_grammar.proofs.Programs.{program_is}
use Rattle.std.specs.Option.{option_map_or}
use Rattle.sp_reader.specs.declared.error.ReadError.{ReadError}
use Rattle.sp_reader.specs.declared.error.ReadError.TheVariants.{NotText, NoParse}
use Rattle.sp_reader.specs.declared.limits.Limit.{Limit}
use Rattle.sp_reader.specs.declared.limits.Limit.TheVariants.{Deep, Wide}
use Rattle.sp_reader.specs.declared.token.Token.{Token}
use Rattle.sp_reader.specs.Limits.{PlainCounts, taken, is_wide, passed_from, first_passed, place_in, refusal_of, read_all, read_before, read_within, fault_of, read_past, read_of}
use Rattle.sp_reader.specs.PlainStatement.{PlainSyntax}
use Rattle.sp_reader.specs.ProgramRules.{program}
use Rattle.sp_reader.specs.Steps.{Text, kind_of}
use Rattle.sp_reader.specs.Tokens.{tokens_of}
use Rattle.sp_grammar.specs.Statements.{IsProgram}
use Rattle.sp_refusals.specs.Laws.{AreLike, without_last}
use Rattle.sp_refusals.specs.Texts.{GoOn, IsFirstRefused}
use Rattle.sp_refusals.proofs.Refusals.{within_take, left_most, none_elsewhere, end_too_early, some_go_on}
use Rattle.sp_refusals.proofs.Within.{tokens_within}

pub take_take : (m n : ℕ) (ts : List Token) → m ≤ n → take m (take n ts) ≡ take m ts
take_take zero n ts le = refl
take_take (suc m) zero ts le = absurd (omega (arith, le))
take_take (suc m) (suc n) [] le = refl
take_take (suc m) (suc n) (t ∷ ts) le = ap (λ xs. t ∷ xs) (take_take m n ts (omega (arith, le)))

length_take : (n : ℕ) (ts : List Token) → n ≤ length ts → length (take n ts) ≡ n
length_take zero ts le = refl
length_take (suc n) [] le = absurd (omega (arith, le))
length_take (suc n) (t ∷ ts) le = let more = length_take n ts (omega (arith, le)) in omega (arith, more)

take_all : (n : ℕ) (ts : List Token) → n ≡ length ts → take n ts ≡ ts
take_all zero [] e = refl
take_all zero (t ∷ ts) e = absurd (omega (arith, e))
take_all (suc n) [] e = absurd (omega (arith, e))
take_all (suc n) (t ∷ ts) e = ap (λ xs. t ∷ xs) (take_all n ts (omega (arith, e)))

-- the token that passes a limit is one of these
passed_within : (source : Text) (c : PlainCounts) (number : ℕ) (ts : List Token) (p : ℕ × Limit) → passed_from source c number ts ≡ Some p → p.0 < number + length ts
passed_within source c number [] p e = absurd (cc)
passed_within source c number (t ∷ ts) p e = go (is_wide source t) (taken c t.kind (kind_of ts)) (λ more q h. passed_within source more (number + 1) ts q h) e
  where
    here : (l : Limit) → ◌≡◌ {A = Option (ℕ × Limit)} (Some (number, l)) (Some p) → p.0 < number + length (t ∷ ts)
    here l h = let pairs : ◌≡◌ {A = ℕ × Limit} (number, l) p = cc in let same : number ≡ p.0 = ap (λ (x : ℕ × Limit). x.0) pairs in omega (arith, same)

    go : (b : Bool) (o : Option PlainCounts) → ((more : PlainCounts) (q : ℕ × Limit) → passed_from source more (number + 1) ts ≡ Some q → q.0 < (number + 1) + length ts)
        → (if b then Some (number, Wide) else option_map_or (λ more. passed_from source more (number + 1) ts) o (Some (number, Deep))) ≡ Some p → p.0 < number + length (t ∷ ts)
    go true o more h = here Wide h
    go false None more h = here Deep h
    go false (Some counts) more h = let far = more counts p h in omega (arith, far)

pub passed_at : (source : Text) (p : ℕ × Limit) → first_passed source (tokens_of source) ≡ Some p → p.0 < 0 + length (tokens_of source)
unfolding first_passed
passed_at source p is = passed_within source (record { around = []; here = 0 }) 0 (tokens_of source) p is

-- of the first tokens of a text
pub of_front : (source : Text) (n left : ℕ) → n ≤ length (tokens_of source) → program source (take n (tokens_of source)) ≡ Err left → (n ≡ length (tokens_of source)) ⊎ (1 ≤ left)
    → (number : ℕ) × (number ≡ n - left) × (number ≤ length (tokens_of source)) × IsFirstRefused source (tokens_of source) number
of_front source n left le h last = (n - left, refl, omega (arith, le), record { before = before; with_it = with_it; at_end = at_end })
  where
    count : length (take n (tokens_of source)) ≡ n
    count = length_take n (tokens_of source) le

    most : left ≤ n
    most = let m = left_most source (take n (tokens_of source)) left h in omega (arith, m, count)

    before : GoOn source (take (n - left) (tokens_of source))
    before =
        let on = some_go_on source (take n (tokens_of source)) left (within_take source n (tokens_of source) (tokens_within source)) h in
        let same : without_last left (take n (tokens_of source)) ≡ take (n - left) (tokens_of source) = ap (λ m. take (m - left) (take n (tokens_of source))) count ∙ take_take (n - left) n (tokens_of source) (omega arith) in
        (on.0, on.1, on.2, subst (λ xs. IsProgram (source ++ on.0) (xs ++ on.1) on.2) same on.3)

    with_it : (other : Text) (front rest : List Token) (tree : PlainSyntax) → n - left < length (tokens_of source) → AreLike source other (take (suc (n - left)) (tokens_of source)) front → IsProgram other (front ++ rest) tree → ⊥
    with_it other front rest tree less like is = go left refl
      where
        go : (l : ℕ) → left ≡ l → ⊥
        go zero e = elim last [ inl end ↦ omega (arith, end, e, less) | inr some ↦ omega (arith, some, e) ]
        go (suc b) e =
            let number : length (take n (tokens_of source)) - b ≡ suc (n - left) = omega (arith, count, e, most) in
            let same : without_last b (take n (tokens_of source)) ≡ take (suc (n - left)) (tokens_of source) = ap (λ m. take m (take n (tokens_of source))) number ∙ take_take (suc (n - left)) n (tokens_of source) (omega (arith, e, most)) in
            none_elsewhere source other (take n (tokens_of source)) front rest b tree (within_take source n (tokens_of source) (tokens_within source)) (subst (λ xs. AreLike source other xs front) (sym same) like) (h ∙ ap (λ m. Err m) e) is

    at_end : (tree : PlainSyntax) → n - left ≡ length (tokens_of source) → IsProgram source (tokens_of source) tree → ⊥
    at_end tree end is =
        let none : left ≡ 0 = omega (arith, end, le, most) in
        let all : n ≡ length (tokens_of source) = omega (arith, end, le) in
        let whole : take n (tokens_of source) ≡ tokens_of source = take_all n (tokens_of source) all in
        end_too_early source (tokens_of source) tree (sym (ap (program source) whole) ∙ h ∙ ap (λ m. Err m) none) is

-- a text that is refused so
abbrev Refused : Text → ℕ → Type 0
Refused source at = (number : ℕ) × (number ≤ length (tokens_of source)) × (at ≡ place_in source (tokens_of source) number) × IsFirstRefused source (tokens_of source) number

at_place : (source : Text) (n left at : ℕ) → n ≤ length (tokens_of source) → program source (take n (tokens_of source)) ≡ Err left → (n ≡ length (tokens_of source)) ⊎ (1 ≤ left)
    → at ≡ place_in source (tokens_of source) (n - left) → Refused source at
at_place source n left at le h last is =
    let first = of_front source n left le h last in
    (first.0, first.2, is ∙ ap (place_in source (tokens_of source)) (sym first.1), first.3)

same_place : (a b : ℕ) → ◌≡◌ {A = Result PlainSyntax ReadError} (Err (NoParse a)) (Err (NoParse b)) → a ≡ b
same_place a b e = cc

pub refused_first : (source : Text) (at : ℕ) → read_of source ≡ Err (NoParse at) → Refused source at
unfolding read_of
refused_first source at h = by_fault (fault_of source) h
  where
    all_read : (o : Result PlainSyntax ℕ) → program source (tokens_of source) ≡ o → read_all source (tokens_of source) o ≡ Err (NoParse at) → Refused source at
    all_read (Ok s) is e = absurd (cc)
    all_read (Err left) is e =
        at_place source (length (tokens_of source)) left at (omega arith) (ap (program source) (take_all (length (tokens_of source)) (tokens_of source) refl) ∙ is) (inl refl) (sym (same_place _ _ e))

    no_limit : (limit : Limit) (place : ℕ) → ◌≡◌ {A = Result PlainSyntax ReadError} (Err (refusal_of limit place)) (Err (NoParse at)) → ⊥
    no_limit Deep place e = absurd (cc)
    no_limit Wide place e = absurd (cc)

    by_left : (p : ℕ × Limit) (left : ℕ) → p.0 < length (tokens_of source) → program source (take p.0 (tokens_of source)) ≡ Err left → (b : Bool) → (left == 0) ≡ b
        → if◌then◌else◌ {A = Result PlainSyntax ReadError} b (Err (refusal_of p.1 (place_in source (tokens_of source) p.0))) (Err (NoParse (place_in source (tokens_of source) (p.0 - left)))) ≡ Err (NoParse at) → Refused source at
    by_left p left less is true z e = absurd (no_limit p.1 (place_in source (tokens_of source) p.0) e)
    by_left p left less is false z e = at_place source p.0 left at (omega (arith, less)) is (inr (grind arith)) (sym (same_place _ _ e))

    before : (p : ℕ × Limit) → p.0 < length (tokens_of source) → (o : Result PlainSyntax ℕ) → program source (take p.0 (tokens_of source)) ≡ o → read_before source (tokens_of source) p.0 p.1 o ≡ Err (NoParse at) → Refused source at
    before p less (Ok s) is e = absurd (no_limit p.1 (place_in source (tokens_of source) p.0) e)
    before p less (Err left) is e = by_left p left less is (left == 0) refl e

    by_limit : (o : Option (ℕ × Limit)) → first_passed source (tokens_of source) ≡ o → read_within source (tokens_of source) o ≡ Err (NoParse at) → Refused source at
    by_limit None is e = all_read (program source (tokens_of source)) refl e
    by_limit (Some p) is e =
        let far = passed_at source p is in
        before p (omega (arith, far)) (program source (take p.0 (tokens_of source))) refl e

    by_fault : (o : Option ℕ) → read_past source o ≡ Err (NoParse at) → Refused source at
    by_fault None e = by_limit (first_passed source (tokens_of source)) refl e
    by_fault (Some place) e = absurd (cc)

-- ---- a text that passes a limit

abbrev Passed : Text → ℕ → Limit → Type 0
Passed source at limit = (number : ℕ) × (first_passed source (tokens_of source) ≡ Some (number, limit)) × (at ≡ place_in source (tokens_of source) number) × GoOn source (take number (tokens_of source))

same_refusal : (l m : Limit) (a b : ℕ) → ◌≡◌ {A = Result PlainSyntax ReadError} (Err (refusal_of l a)) (Err (refusal_of m b)) → (l ≡ m) × (a ≡ b)
same_refusal Deep Deep a b e = (refl, cc)
same_refusal Deep Wide a b e = absurd (cc)
same_refusal Wide Deep a b e = absurd (cc)
same_refusal Wide Wide a b e = (refl, cc)

no_parse : (limit : Limit) (a b : ℕ) → ◌≡◌ {A = Result PlainSyntax ReadError} (Err (NoParse a)) (Err (refusal_of limit b)) → ⊥
no_parse Deep a b e = absurd (cc)
no_parse Wide a b e = absurd (cc)

no_text : (limit : Limit) (a b : ℕ) → ◌≡◌ {A = Result PlainSyntax ReadError} (Err (NotText a)) (Err (refusal_of limit b)) → ⊥
no_text Deep a b e = absurd (cc)
no_text Wide a b e = absurd (cc)

pub passed_first : (source : Text) (at : ℕ) (limit : Limit) → read_of source ≡ Err (refusal_of limit at) → Passed source at limit
unfolding read_of
passed_first source at limit h = by_fault (fault_of source) h
  where
    found : (p : ℕ × Limit) → first_passed source (tokens_of source) ≡ Some p → ◌≡◌ {A = Result PlainSyntax ReadError} (Err (refusal_of p.1 (place_in source (tokens_of source) p.0))) (Err (refusal_of limit at)) → GoOn source (take p.0 (tokens_of source))
        → Passed source at limit
    found p is e on = let same = same_refusal p.1 limit (place_in source (tokens_of source) p.0) at e in (p.0, is ∙ ap (λ l. Some (p.0, l)) same.0, sym same.1, on)

    by_left : (p : ℕ × Limit) (left : ℕ) → first_passed source (tokens_of source) ≡ Some p → p.0 ≤ length (tokens_of source) → program source (take p.0 (tokens_of source)) ≡ Err left → (b : Bool) → (left == 0) ≡ b
        → if◌then◌else◌ {A = Result PlainSyntax ReadError} b (Err (refusal_of p.1 (place_in source (tokens_of source) p.0))) (Err (NoParse (place_in source (tokens_of source) (p.0 - left)))) ≡ Err (refusal_of limit at) → Passed source at limit
    by_left p left is le read true z e =
        let none : left ≡ 0 = grind arith in
        let on = some_go_on source (take p.0 (tokens_of source)) left (within_take source p.0 (tokens_of source) (tokens_within source)) read in
        let count = length_take p.0 (tokens_of source) le in
        let same : without_last left (take p.0 (tokens_of source)) ≡ take p.0 (tokens_of source) = take_all (length (take p.0 (tokens_of source)) - left) (take p.0 (tokens_of source)) (omega (arith, none)) in
        found p is e (on.0, on.1, on.2, subst (λ xs. IsProgram (source ++ on.0) (xs ++ on.1) on.2) same on.3)
    by_left p left is le read false z e = absurd (no_parse limit (place_in source (tokens_of source) (p.0 - left)) at e)

    before : (p : ℕ × Limit) → first_passed source (tokens_of source) ≡ Some p → p.0 ≤ length (tokens_of source) → (o : Result PlainSyntax ℕ) → program source (take p.0 (tokens_of source)) ≡ o
        → read_before source (tokens_of source) p.0 p.1 o ≡ Err (refusal_of limit at) → Passed source at limit
    before p is le (Ok s) read e =
        found p is e ([], [], s, subst (λ text. IsProgram text (take p.0 (tokens_of source) ++ []) s) (sym (append-nil source)) (subst (λ xs. IsProgram source xs s) (sym (append-nil (take p.0 (tokens_of source)))) (program_is source (take p.0 (tokens_of source)) s read)))
    before p is le (Err left) read e = by_left p left is le read (left == 0) refl e

    all_read : (o : Result PlainSyntax ℕ) → read_all source (tokens_of source) o ≡ Err (refusal_of limit at) → Passed source at limit
    all_read (Ok s) e = absurd (cc)
    all_read (Err left) e = absurd (no_parse limit (place_in source (tokens_of source) (length (tokens_of source) - left)) at e)

    by_limit : (o : Option (ℕ × Limit)) → first_passed source (tokens_of source) ≡ o → read_within source (tokens_of source) o ≡ Err (refusal_of limit at) → Passed source at limit
    by_limit None is e = all_read (program source (tokens_of source)) e
    by_limit (Some p) is e =
        let far = passed_at source p is in
        before p is (omega (arith, far)) (program source (take p.0 (tokens_of source))) refl e

    by_fault : (o : Option ℕ) → read_past source o ≡ Err (refusal_of limit at) → Passed source at limit
    by_fault None e = by_limit (first_passed source (tokens_of source)) refl e
    by_fault (Some place) e = absurd (no_text limit place at e)
