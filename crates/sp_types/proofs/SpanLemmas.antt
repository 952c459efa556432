-- Spans as they are declared and as they are shown.
use Rattle.std.proofs.Common.{◌≡◌, ℕ, zero, suc, ◌+◌, ◌-◌, Bool, true, false, cond, List, [], ◌∷◌, map, length, take, drop, length-drop, Option, Some, slice_get, refl, ap, subst, arith}
use Rattle.std.specs.Prelude.{count_by, fold, ◌==◌, ◌||◌}
use Rattle.std.specs.List.{list_any}
use Rattle.std.proofs.lemmas.Bool.Decides.{nat_tests}
use Rattle.std.proofs.lemmas.List.{take_all}
use Rattle.sp_reader.specs.declared.syntax.statement.SynCounter.{SynCounter}
use Rattle.sp_reader.specs.declared.syntax.statement.SynSpan.{SynSpan}
use Rattle.sp_reader.specs.PlainProgram.{plain_span, plain_spans, plain_counters}
use Rattle.sp_types.specs.Spans.{is_range, ends_in_range, is_empty}

-- what is true of the only one left is true of the last
abbrev in_range : Option SynSpan → Bool
in_range (Some s) = is_range (plain_span s)
in_range _ = false

last_at : (k : ℕ) (xs : List SynSpan) (x : SynSpan) → length xs ≡ suc k → slice_get xs k ≡ Some x → ends_in_range (plain_spans xs) ≡ is_range (plain_span x)
last_at k [] x l e = absurd (omega (arith, l))
last_at zero (y ∷ []) x l e = ap in_range e
last_at zero (y ∷ z ∷ rest) x l e = absurd (omega (arith, l))
last_at (suc k) (y ∷ []) x l e = absurd (omega (arith, l))
last_at (suc k) (y ∷ z ∷ rest) x l e = last_at k (z ∷ rest) x (omega (arith, l)) e

pub last_in_range : (xs : List SynSpan) (x : SynSpan) → slice_get xs (length xs - 1) ≡ Some x → ends_in_range (plain_spans xs) ≡ is_range (plain_span x)
last_in_range [] x e = absurd (cc)
last_in_range (y ∷ rest) x e = last_at (length rest) (y ∷ rest) x (omega arith) (subst (λ k. slice_get (y ∷ rest) k ≡ Some x) (omega arith) e)

counted : (n : ℕ) (xs : List SynSpan) → fold (λ a x. a + cond (is_range x) 1 0) n (plain_spans xs) ≡ fold (λ a x. a + cond (is_range (plain_span x)) 1 0) n xs
counted n [] = refl
counted n (x ∷ xs) = counted (n + cond (is_range (plain_span x)) 1 0) xs

pub count_shown : (xs : List SynSpan) → count_by is_range (plain_spans xs) ≡ count_by (λ s. is_range (plain_span s)) xs
count_shown xs = counted 0 xs

pub any_shown : (xs : List SynSpan) → list_any is_range (plain_spans xs) ≡ list_any (λ s. is_range (plain_span s)) xs
any_shown [] = refl
any_shown (x ∷ xs) = ap (λ b. is_range (plain_span x) || b) (any_shown xs)

pub none_left : (cs : List SynCounter) → (length cs == 0) ≡ is_empty (plain_counters cs)
none_left [] = refl
none_left (c ∷ cs) = grind (arith, nat_tests)

-- what a slice from an index on holds
pub rest_from : {A : Type 0} (k : ℕ) (xs : List A) → take (length xs - k) (drop k xs) ≡ drop k xs
rest_from k xs = take_all (length xs - k) (drop k xs) (omega (arith, length-drop k xs))

pub span_count : (spans : List SynSpan) → length (plain_spans spans) ≡ length spans
span_count [] = refl
span_count (s ∷ spans) = ap suc (span_count spans)

pub counter_count : (cs : List SynCounter) → length (plain_counters cs) ≡ length cs
counter_count [] = refl
counter_count (c ∷ cs) = ap suc (counter_count cs)
