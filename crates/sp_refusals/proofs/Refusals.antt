-- Where tokens are refused.
use Rattle.std.proofs.Common.{◌≡◌, ◌∙◌, ℕ, zero, suc, ◌+◌, ◌-◌, ◌≤◌, ◌<◌, Bool, true, false, ◌&&◌, nat_le, List, [], ◌∷◌, ◌++◌, length, take, drop, length-append, length-drop, Result, Ok, Err, refl, sym, ap, subst, arith, if◌then◌else◌}
use Rattle.std.proofs.lemmas.List.{append-nil, take-append-drop, take-append-le, drop-append-le}
use Rattle.sp_reader.specs.declared.token.Token.{Token}
use Rattle.sp_reader.specs.declared.token.TokenKind.TheVariants as k
use Rattle.sp_reader.specs.Numbers.{has_point, whole as whole_part, fraction, with_digit, digit}
use Rattle.sp_reader.specs.PlainStatement.{PlainSyntax}
use Rattle.sp_reader.specs.ProgramRules.{program}
use Rattle.sp_reader.specs.Steps.{Text, Outcome, spelling_of}
use Rattle.sp_grammar.specs.Statements.{IsProgram}
use Rattle.sp_grammar.proofs.AgainPrograms.{program_again}
use Rattle.sp_grammar.proofs.Programs.{program_is}
use Rattle.sp_refusals.specs.Laws.{SpellAlike, AreLike, EndWithin, without_last}
use Rattle.std.specs.Prelude.{map}
use Rattle.sp_refusals.proofs.Elsewhere.{near, program_like}
use Rattle.sp_refusals.proofs.ContinuedWords.{SmallNumber}
use Rattle.sp_refusals.proofs.ContinuedPrograms.{goes_on}
use Rattle.sp_refusals.proofs.Steady.{AtMost}
use Rattle.sp_refusals.proofs.SteadyPrograms.{refused_again, whole, whole_go, value_of, whole_is}

-- ---- tokens of two texts

pub alike_back : (source other : Text) (ts : List Token) → SpellAlike source other ts → SpellAlike other source ts
alike_back source other [] h = tt
alike_back source other (t ∷ ts) h = (sym h.0, alike_back source other ts h.1)

pub within_take : (source : Text) (n : ℕ) (ts : List Token) → EndWithin source ts → EndWithin source (take n ts)
within_take source zero ts h = tt
within_take source (suc n) [] h = tt
within_take source (suc n) (t ∷ ts) h = (h.0, within_take source n ts h.1)

-- a token spells the same where the text goes on
spelled_on : (source more : Text) (t : Token) → t.end ≤ length source → spelling_of source t ≡ spelling_of (source ++ more) t
unfolding spelling_of
spelled_on source more t le = go (nat_le t.at t.end) refl
  where
    first : nat_le t.end (length source) ≡ true
    first = grind arith

    other : nat_le t.end (length (source ++ more)) ≡ true
    other = let l = length-append source more in let more_is : t.end ≤ length (source ++ more) = omega (arith, l, le) in grind arith

    same : t.at ≤ t.end → take (t.end - t.at) (drop t.at source) ≡ take (t.end - t.at) (drop t.at (source ++ more))
    same at =
        let left = drop-append-le t.at source more (omega (arith, at, le)) in
        let l = length-drop t.at source in
        sym (take-append-le (t.end - t.at) (drop t.at source) more (omega (arith, l, at, le))) ∙ ap (take (t.end - t.at)) (sym left)

    go : (b : Bool) → nat_le t.at t.end ≡ b
        → (if b && nat_le t.end (length source) then take (t.end - t.at) (drop t.at source) else []) ≡ (if b && nat_le t.end (length (source ++ more)) then take (t.end - t.at) (drop t.at (source ++ more)) else [])
    go true is = rw (first, other) (same (grind arith))
    go false is = refl

pub alike_on : (source more : Text) (ts : List Token) → EndWithin source ts → SpellAlike source (source ++ more) ts
alike_on source more [] h = tt
alike_on source more (t ∷ ts) h = (spelled_on source more t h.0, alike_on source more ts h.1)

-- ---- how many tokens are left

pub left_most : (source : Text) (ts : List Token) (left : ℕ) → program source ts ≡ Err left → left ≤ length ts
unfolding whole value_of
left_most source ts left h = go (whole source (length ts) ts) ((whole_go (source, source) {m = zero}).within ts) (sym (whole_is source ts) ∙ h)
  where
    go : (o : Outcome PlainSyntax) → AtMost (length ts) o → value_of source o ≡ Err left → left ≤ length ts
    go (Ok p) le e = absurd (cc)
    go (Err l) le e = let same : l ≡ left = cc in subst (λ n. n ≤ length ts) same le

-- the last so many
behind_of : (ts : List Token) (n : ℕ) → n ≤ length ts → length (drop (length ts - n) ts) ≡ n
behind_of ts n le = let l = length-drop (length ts - n) ts in omega (arith, l, le)

-- ---- the laws

pub stays : (source other : Text) (ts rest : List Token) (behind : ℕ) → SpellAlike source other (without_last behind ts) → program source ts ≡ Err (suc behind) → program other (without_last behind ts ++ rest) ≡ Err (suc (length rest))
stays source other ts rest behind alike h =
    let most = left_most source ts (suc behind) h in
    let left : length (drop (length ts - behind) ts) ≡ behind = behind_of ts behind (omega (arith, most)) in
    let whole : without_last behind ts ++ drop (length ts - behind) ts ≡ ts = take-append-drop (length ts - behind) ts in
    let first : program source (without_last behind ts ++ drop (length ts - behind) ts) ≡ Err (suc 0 + length (drop (length ts - behind) ts)) = ap (program source) whole ∙ h ∙ ap (λ n. Err n) (omega (arith, left)) in
    refused_again (source, other) (without_last behind ts) (drop (length ts - behind) ts) rest 0 alike first ∙ ap (λ n. Err n) (omega arith)

pub none_go_on : (source other : Text) (ts rest : List Token) (behind : ℕ) (tree : PlainSyntax) → SpellAlike source other (without_last behind ts) → program source ts ≡ Err (suc behind) → IsProgram other (without_last behind ts ++ rest) tree → ⊥
none_go_on source other ts rest behind tree alike h is =
    let both : ◌≡◌ {A = Result PlainSyntax ℕ} (Ok tree) (Err (suc (length rest))) = sym (program_again other is) ∙ stays source other ts rest behind alike h in absurd (cc)

-- ---- tokens that stand elsewhere

-- a token that stands so many bytes further on
shifted : ℕ → Token → Token
shifted n t = record { kind = t.kind; at = t.at + n; end = t.end + n }

le_shifted : (a b n : ℕ) → nat_le (a + n) (b + n) ≡ nat_le a b
le_shifted a b n = go (nat_le a b) refl
  where
    go : (c : Bool) → nat_le a b ≡ c → nat_le (a + n) (b + n) ≡ c
    go true is = let le : a ≤ b = grind arith in let far : a + n ≤ b + n = omega (arith, le) in grind arith
    go false is = let lt : b < a = grind arith in let far : b + n < a + n = omega (arith, lt) in grind arith

drop_past : (n : ℕ) (source other : Text) → drop (n + length source) (source ++ other) ≡ drop n other
drop_past n [] other = ap (λ m. drop m other) (omega arith)
drop_past n (b ∷ source) other =
    let same : n + length (b ∷ source) ≡ suc (n + length source) = omega arith in ap (λ m. drop m (b ∷ (source ++ other))) same ∙ drop_past n source other

spelled_behind : (source other : Text) (t : Token) → spelling_of other t ≡ spelling_of (source ++ other) (shifted (length source) t)
unfolding spelling_of shifted
spelled_behind source other t =
    let l = length-append source other in
    let first = le_shifted t.at t.end (length source) in
    let whole : length (source ++ other) ≡ length other + length source = omega (arith, l) in
    let second : nat_le (t.end + length source) (length (source ++ other)) ≡ nat_le t.end (length other) = ap (nat_le (t.end + length source)) whole ∙ le_shifted t.end (length other) (length source) in
    let count : (t.end + length source) - (t.at + length source) ≡ t.end - t.at = omega arith in
    rw (first, second, count, drop_past t.at source other) refl

shifted_like : (source other : Text) (ts : List Token) → AreLike other (source ++ other) ts (map (shifted (length source)) ts)
unfolding shifted
shifted_like source other [] = tt
shifted_like source other (t ∷ ts) = ((refl, λ _. spelled_behind source other t), shifted_like source other ts)

-- these tokens, and others behind them in the other text
like_behind : (source other : Text) (ts front rest : List Token) → EndWithin source ts → AreLike source other ts front → AreLike other (source ++ other) (front ++ rest) (ts ++ map (shifted (length source)) rest)
like_behind source other [] [] rest within like = shifted_like source other rest
like_behind source other [] (u ∷ front) rest within like = elim like [ ]
like_behind source other (t ∷ ts) [] rest within like = elim like [ ]
like_behind source other (t ∷ ts) (u ∷ front) rest within like = ((sym like.0.0, λ e. sym (like.0.1 (like.0.0 ∙ e)) ∙ spelled_on source other t within.0), like_behind source other ts front rest within.1 like.1)

pub none_elsewhere : (source other : Text) (ts front rest : List Token) (behind : ℕ) (tree : PlainSyntax) → EndWithin source ts → AreLike source other (without_last behind ts) front → program source ts ≡ Err (suc behind) → IsProgram other (front ++ rest) tree → ⊥
none_elsewhere source other ts front rest behind tree within like h is =
    let first = within_take source (length ts - behind) ts within in
    let again = program_like other (source ++ other) is (near other (source ++ other) (front ++ rest) (without_last behind ts ++ map (shifted (length source)) rest) (like_behind source other (without_last behind ts) front rest first like)) in
    none_go_on source (source ++ other) ts (map (shifted (length source)) rest) behind again.0 (alike_on source other (without_last behind ts) first) h again.1

pub end_too_early : (source : Text) (ts : List Token) (tree : PlainSyntax) → program source ts ≡ Err 0 → IsProgram source ts tree → ⊥
end_too_early source ts tree h is = let both : ◌≡◌ {A = Result PlainSyntax ℕ} (Ok tree) (Err 0) = sym (program_again source is) ∙ h in absurd (cc)

-- a text with a `1` behind it
abbrev with_one : Text → Text
with_one source = source ++ 49 ∷ []

drop_all : (source more : Text) → drop (length source) (source ++ more) ≡ more
drop_all [] more = refl
drop_all (b ∷ source) more = drop_all source more

the_one : (source : Text) → spelling_of (with_one source) (record { kind = k.Number; at = length source; end = length source + 1 }) ≡ 49 ∷ []
unfolding spelling_of
the_one source =
    let l = length-append source (49 ∷ []) in
    let low : nat_le (length source) (length source + 1) ≡ true = grind arith in
    let high : nat_le (length source + 1) (length (with_one source)) ≡ true = (let le : length source + 1 ≤ length (with_one source) = omega (arith, l) in grind arith) in
    let one : (length source + 1) - length source ≡ 1 = omega arith in
    rw (low, high, one) (ap (take 1) (drop_all source (49 ∷ [])))

small_one : (source : Text) → SmallNumber (with_one source)
unfolding has_point whole_part fraction with_digit digit
small_one source = record {
  token = record { kind = k.Number; at = length source; end = length source + 1 };
  number = 1;
  of_kind = refl;
  no_point = ap has_point (the_one source);
  spells = ap whole_part (the_one source);
  low = omega arith;
  high = omega arith;
}

pub some_go_on : (source : Text) (ts : List Token) (left : ℕ) → EndWithin source ts → program source ts ≡ Err left → (more : Text) × (rest : List Token) × (tree : PlainSyntax) × IsProgram (source ++ more) (without_last left ts ++ rest) tree
some_go_on source ts left within h = go (program (with_one source) front) refl
  where
    front : List Token
    front = without_last left ts

    behind : List Token
    behind = drop (length ts - left) ts

    alike : SpellAlike (with_one source) source (without_last left ts)
    alike = alike_back source (with_one source) (without_last left ts) (alike_on source (49 ∷ []) (without_last left ts) (within_take source (length ts - left) ts within))

    go : (o : Result PlainSyntax ℕ) → program (with_one source) (without_last left ts) ≡ o → (more : Text) × (rest : List Token) × (tree : PlainSyntax) × IsProgram (source ++ more) (without_last left ts ++ rest) tree
    go (Ok tree) is = (49 ∷ [], [], tree, subst (λ xs. IsProgram (with_one source) xs tree) (sym (append-nil (without_last left ts))) (program_is (with_one source) (without_last left ts) tree is))
    go (Err zero) is = let on = goes_on (with_one source) (small_one source) (without_last left ts) is in (49 ∷ [], on.0, on.1, on.2)
    go (Err (suc e)) is =
        let most = left_most source ts left h in
        let length_is : length (drop (length ts - left) ts) ≡ left = behind_of ts left most in
        let whole : without_last left ts ++ drop (length ts - left) ts ≡ ts = take-append-drop (length ts - left) ts in
        let first : program (with_one source) (without_last left ts ++ []) ≡ Err (suc e + length {A = Token} []) = ap (program (with_one source)) (append-nil (without_last left ts)) ∙ is ∙ ap (λ n. Err n) (omega arith) in
        let again : program source (without_last left ts ++ drop (length ts - left) ts) ≡ Err (suc e + length (drop (length ts - left) ts)) = refused_again (with_one source, source) (without_last left ts) [] (drop (length ts - left) ts) e alike first in
        let both : ◌≡◌ {A = Result PlainSyntax ℕ} (Err (suc e + length (drop (length ts - left) ts))) (Err left) = sym again ∙ ap (program source) whole ∙ h in
        let same : suc e + length (drop (length ts - left) ts) ≡ left = cc in
        absurd (omega (arith, same, length_is))
