-- A text is refused at one place, and at each other kind of refusal it isn't.
use Rattle.std.proofs.Common.{◌≡◌, ◌∙◌, inr, ℕ, suc, ◌-◌, ◌≤◌, ◌<◌, ◌==◌, Bool, true, false, nat_lt, List, [], ◌∷◌, ◌++◌, length, take, drop, length-take, append_assoc, Result, Ok, Err, Option, Some, None, refl, sym, ap, subst, arith, if◌then◌else◌}
use Rattle.std.proofs.lemmas.List.{take-append-drop}
use Rattle.sp_reader.specs.declared.error.ReadError.{ReadError}
use Rattle.sp_reader.specs.declared.error.ReadError.TheVariants.{NotText, NoParse, TooDeep, LiteralTooWide, Memory}
use Rattle.sp_reader.specs.declared.limits.Limit.{Limit}
use Rattle.sp_reader.specs.declared.limits.Limit.TheVariants.{Deep, Wide}
use Rattle.sp_reader.specs.declared.token.Token.{Token}
use Rattle.sp_reader.specs.Limits.{first_passed, place_in, refusal_of, read_all, read_before, read_within, fault_of, read_past, read_of}
use Rattle.sp_reader.specs.PlainStatement.{PlainSyntax}
use Rattle.sp_reader.specs.ProgramRules.{program}
use Rattle.sp_reader.specs.Steps.{Text}
use Rattle.sp_reader.specs.Tokens.{tokens_of}
use Rattle.sp_grammar.specs.Statements.{IsProgram}
use Rattle.sp_grammar.proofs.Texts.{read_is_spelled}
use Rattle.sp_refusals.specs.Laws.{AreLike, SpellAlike}
use Rattle.sp_refusals.specs.Texts.{GoOn, IsFirstRefused}
use Rattle.sp_refusals.proofs.Refusals.{alike_on, within_take, left_most}
use Rattle.sp_refusals.proofs.TextRefusals.{passed_first, passed_at, of_front, take_take}
use Rattle.sp_refusals.proofs.Within.{tokens_within}
use Rattle.sp_refused_texts.specs.Laws.{IsRefusedAt, IsRefused}
use Rattle.sp_refused_texts.proofs.Refused.{refused, fault_free, no_text}

-- ---- the number of the first refused token

like_on : (source other : Text) (ts : List Token) → SpellAlike source other ts → AreLike source other ts ts
like_on source other [] h = tt
like_on source other (t ∷ ts) h = ((refl, λ _. h.0), like_on source other ts h.1)

module _ (source : Text) where
  -- tokens with the refused one don't go on
  none_on : (n m : ℕ) → IsFirstRefused source (tokens_of source) n → GoOn source (take m (tokens_of source)) → m ≤ length (tokens_of source) → n < m → ⊥
  none_on n m first on le less =
      let same : take (suc n) (take m (tokens_of source)) ≡ take (suc n) (tokens_of source) = take_take (suc n) m (tokens_of source) (omega (arith, less)) in
      let parts : take m (tokens_of source) ≡ take (suc n) (tokens_of source) ++ drop (suc n) (take m (tokens_of source)) = sym (take-append-drop (suc n) (take m (tokens_of source))) ∙ ap (λ x. x ++ drop (suc n) (take m (tokens_of source))) same in
      let whole : take m (tokens_of source) ++ on.1 ≡ take (suc n) (tokens_of source) ++ (drop (suc n) (take m (tokens_of source)) ++ on.1) = ap (λ x. x ++ on.1) parts ∙ append_assoc (take (suc n) (tokens_of source)) (drop (suc n) (take m (tokens_of source))) on.1 in
      first.with_it (source ++ on.0) (take (suc n) (tokens_of source)) (drop (suc n) (take m (tokens_of source)) ++ on.1) on.2 (omega (arith, le, less))
      (like_on source (source ++ on.0) (take (suc n) (tokens_of source)) (alike_on source on.0 (take (suc n) (tokens_of source)) (within_take source (suc n) (tokens_of source) (tokens_within source))))
      (subst (λ ts. IsProgram (source ++ on.0) ts on.2) whole on.3)

  one_number : (n m : ℕ) → n ≤ length (tokens_of source) → m ≤ length (tokens_of source) → IsFirstRefused source (tokens_of source) n → IsFirstRefused source (tokens_of source) m → n ≡ m
  one_number n m among few first second = go (nat_lt n m) refl (nat_lt m n) refl
    where
      go : (a : Bool) → nat_lt n m ≡ a → (b : Bool) → nat_lt m n ≡ b → n ≡ m
      go true less b is = absurd (none_on n m first second.before few (grind arith))
      go false is true less = absurd (none_on m n second first.before among (grind arith))
      go false is false least = let a : m ≤ n = grind arith in let b : n ≤ m = grind arith in omega (arith, a, b)

  pub one_place : (p q : ℕ) → IsRefusedAt source p → IsRefusedAt source q → p ≡ q
  one_place p q r s = r.stands ∙ ap (place_in source (tokens_of source)) (one_number r.number s.number r.among s.among r.first s.first) ∙ sym s.stands

-- ---- the kinds of answers

-- neither a refusal of the rules nor one for a limit
record IsOther (e : ReadError) : Type 0 where
  no_rule : (at : ℕ) → NoParse at ≡ e → ⊥
  no_limit : (l : Limit) (at : ℕ) → refusal_of l at ≡ e → ⊥

-- of a text without a fault it is no answer
no_other : (source : Text) (e : ReadError) → IsOther e → (o : Option (ℕ × Limit)) → read_within source (tokens_of source) o ≡ Err e → ⊥
no_other source e other None h = all (program source (tokens_of source)) h
  where
    all : (o : Result PlainSyntax ℕ) → read_all source (tokens_of source) o ≡ Err e → ⊥
    all (Ok s) e = absurd (cc)
    all (Err left) e = other.no_rule (place_in source (tokens_of source) (length (tokens_of source) - left)) (cc)
no_other source e other (Some p) h = before (program source (take p.0 (tokens_of source))) h
  where
    by_left : (left : ℕ) (b : Bool) → if◌then◌else◌ {A = Result PlainSyntax ReadError} b (Err (refusal_of p.1 (place_in source (tokens_of source) p.0))) (Err (NoParse (place_in source (tokens_of source) (p.0 - left)))) ≡ Err e → ⊥
    by_left left true h = other.no_limit p.1 (place_in source (tokens_of source) p.0) (cc)
    by_left left false h = other.no_rule (place_in source (tokens_of source) (p.0 - left)) (cc)

    before : (o : Result PlainSyntax ℕ) → read_before source (tokens_of source) p.0 p.1 o ≡ Err e → ⊥
    before (Ok s) h = other.no_limit p.1 (place_in source (tokens_of source) p.0) (cc)
    before (Err left) h = by_left left (left == 0) h

limit_no_memory : (l : Limit) (at : ℕ) → refusal_of l at ≡ Memory → ⊥
limit_no_memory Deep at e = absurd (cc)
limit_no_memory Wide at e = absurd (cc)

no_memory : (source : Text) → fault_of source ≡ None → read_of source ≡ Err Memory → ⊥
unfolding read_of
no_memory source none h =
    let past : read_within source (tokens_of source) (first_passed source (tokens_of source)) ≡ Err Memory = sym (ap (read_past source) none) ∙ h in
    no_other source Memory (record { no_rule = λ at e. absurd (cc); no_limit = limit_no_memory }) (first_passed source (tokens_of source)) past

no_fault_named : (source : Text) (at : ℕ) → fault_of source ≡ None → read_of source ≡ Err (NotText at) → ⊥
unfolding read_of
no_fault_named source at none h =
    let past : read_within source (tokens_of source) (first_passed source (tokens_of source)) ≡ Err (NotText at) = sym (ap (read_past source) none) ∙ h in
    no_other source (NotText at) (record { no_rule = λ place e. absurd (cc); no_limit = λ l place e. no_text l place at e }) (first_passed source (tokens_of source)) past

limit_no_rule : (l : Limit) (at place : ℕ) → ◌≡◌ {A = Result PlainSyntax ReadError} (Err (refusal_of l at)) (Err (NoParse place)) → ⊥
limit_no_rule Deep at place e = absurd (cc)
limit_no_rule Wide at place e = absurd (cc)

-- the rules refuse a token before one that passes a limit
before_limit : (source : Text) (place : ℕ) → read_of source ≡ Err (NoParse place) → (p : ℕ × Limit) → first_passed source (tokens_of source) ≡ Some p → (number : ℕ) × (number < p.0) × (number ≤ length (tokens_of source)) × IsFirstRefused source (tokens_of source) number
unfolding read_of
before_limit source place h p is = by (program source (take p.0 (tokens_of source))) refl past
  where
    none : fault_of source ≡ None
    none = fault_free source (NoParse place) (λ at e. absurd (cc)) h

    past : read_before source (tokens_of source) p.0 p.1 (program source (take p.0 (tokens_of source))) ≡ Err (NoParse place)
    past = sym (ap (read_within source (tokens_of source)) is) ∙ sym (ap (read_past source) none) ∙ h

    among : p.0 ≤ length (tokens_of source)
    among = let far = passed_at source p is in omega (arith, far)

    by_left : (left : ℕ) → program source (take p.0 (tokens_of source)) ≡ Err left → (b : Bool) → (left == 0) ≡ b
        → if◌then◌else◌ {A = Result PlainSyntax ReadError} b (Err (refusal_of p.1 (place_in source (tokens_of source) p.0))) (Err (NoParse (place_in source (tokens_of source) (p.0 - left)))) ≡ Err (NoParse place)
        → (number : ℕ) × (number < p.0) × (number ≤ length (tokens_of source)) × IsFirstRefused source (tokens_of source) number
    by_left left read true zero_left e = absurd (limit_no_rule p.1 (place_in source (tokens_of source) p.0) place e)
    by_left left read false some e =
        let most = left_most source (take p.0 (tokens_of source)) left read in
        let count = length-take p.0 (tokens_of source) in
        let least : 1 ≤ left = grind arith in
        let front = of_front source p.0 left among read (inr least) in
        (front.0, omega (arith, front.1, most, count, among, least), front.2, front.3)

    by : (o : Result PlainSyntax ℕ) → program source (take p.0 (tokens_of source)) ≡ o → read_before source (tokens_of source) p.0 p.1 o ≡ Err (NoParse place)
        → (number : ℕ) × (number < p.0) × (number ≤ length (tokens_of source)) × IsFirstRefused source (tokens_of source) number
    by (Ok s) read e = absurd (limit_no_rule p.1 (place_in source (tokens_of source) p.0) place e)
    by (Err left) read e = by_left left read (left == 0) refl e

-- ---- the law

is_refused : (source : Text) (place : ℕ) → read_of source ≡ Err (NoParse place) → IsRefused source place
is_refused source place h =
    let r = refused source place h in
    record {
      is_text = fault_free source (NoParse place) (λ at e. absurd (cc)) h;
      refused = r;
      within = λ p is.
          let b = before_limit source place h p is in
          let same = one_number source r.number b.0 r.among b.2 r.first b.3 in
          omega (arith, same, b.1);
    }

answers : (source : Text) (place : ℕ) → IsRefused source place → read_of source ≡ Err (NoParse place)
answers source place r = go (read_of source) refl
  where
    limited : (l : Limit) (at : ℕ) → read_of source ≡ Err (refusal_of l at) → ⊥
    limited l at h =
        let p = passed_first source at l h in
        let less = r.within (p.0, l) p.1 in
        let far = passed_at source (p.0, l) p.1 in
        none_on source r.refused.number p.0 r.refused.first p.3 (omega (arith, far)) less

    go : (o : Result PlainSyntax ReadError) → read_of source ≡ o → o ≡ Err (NoParse place)
    go (Ok tree) h = absurd (r.refused.itself (tree, (read_is_spelled source tree h).1))
    go (Err (NotText at)) h = absurd (no_fault_named source at r.is_text h)
    go (Err (TooDeep at)) h = absurd (limited Deep at h)
    go (Err (LiteralTooWide at)) h = absurd (limited Wide at h)
    go (Err (NoParse at)) h = ap (λ p. Err (NoParse p)) (one_place source at place (refused source at h) r.refused)
    go (Err Memory) h = absurd (no_memory source r.is_text h)

pub exactly : (source : Text) (place : ℕ) → (read_of source ≡ Err (NoParse place) → IsRefused source place) × (IsRefused source place → read_of source ≡ Err (NoParse place))
exactly source place = (is_refused source place, answers source place)
