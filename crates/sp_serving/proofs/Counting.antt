-- Passing the numbers of a core one after the other counts its accesses.
use Rattle.std.proofs.Common.{◌≡◌, ℕ, zero, suc, ◌+◌, ◌-◌, ◌≤◌, List, [], ◌∷◌, ◌++◌, take, arith, refl, sym, ap, ◌∙◌}
use Rattle.std.proofs.lemmas.Bool.{ne_eqb}
use Rattle.std.specs.Prelude.{Bool, true, false, Option, if◌then◌else◌}
use Rattle.sp_core.specs.declared.node.SparseKind.{SparseKind}
use Rattle.sp_core.specs.declared.node.SparseKind.TheVariants.{Gather, Scatter, WideLoad, WideStore}
use Rattle.sp_core.specs.NodeRules.{range_count}
use Rattle.sp_core.specs.Numbered.{Numbered, plain, accesses, transfers, access_count, list_numbers, counters_numbers, spans_numbers, stages_numbers, numbers}
use Rattle.sp_core.specs.PlainCore.{PlainOp, PlainCounter, PlainSpan, single, range, PlainNode, PlainStages, outer, sparse}
use Rattle.sp_schemes.specs.Places.{has_forms}
use Rattle.sp_serving.specs.declared.standing.Passing.{Passing}
use Rattle.sp_serving.specs.Standing.{past, passed}
use Rattle.sp_words.specs.declared.kind.Style.{Style}

pub passed_both : (p : Passing) (xs ys : List Numbered) → passed p (xs ++ ys) ≡ passed (passed p xs) ys
passed_both p [] ys = refl
passed_both p (x ∷ xs) ys = passed_both (past p (has_forms x)) xs ys

-- how many were passed that have forms
abbrev pub found : Passing → ℕ
found p = p.most - p.left

abbrev pub from : (left most : ℕ) → Passing
from left most = record { left = left; most = most }

-- nothing is left to pass
none_left : (most : ℕ) (xs : List Numbered) → passed (from 0 most) xs ≡ from 0 most
none_left most [] = refl
none_left most (x ∷ xs) = none_left most xs

-- past one number, where one is left
past_some : (left most : ℕ) (forms : Bool) → past (from (suc left) most) forms ≡ from left (most - (if forms then 0 else 1))
past_some left most forms =
    ap (λ t. if t then from (suc left) most else from (suc left - 1) (most - (if forms then 0 else 1))) (ne_eqb (suc left) 0 (λ e. absurd (omega (arith, e))))
    ∙ ap (λ k. from k (most - (if forms then 0 else 1))) (let e : suc left - 1 ≡ left = omega arith in e)

counted : (left most : ℕ) (xs : List Numbered) → left ≤ most → found (passed (from left most) xs) ≡ (most - left) + access_count (take left xs)
counted zero most xs l = ap found (none_left most xs) ∙ (let e : most - 0 ≡ (most - 0) + access_count (take 0 xs) = omega arith in e)
counted (suc left) most [] l = omega arith
counted (suc left) most (plain ∷ xs) l =
    let h = counted left (most - 1) xs (omega (arith, l)) in
    ap (λ p. found (passed p xs)) (past_some left most false) ∙ h ∙ (let e : ((most - 1) - left) + access_count (take left xs) ≡ (most - suc left) + access_count (take left xs) = omega arith in e)
counted (suc left) most (accesses ∷ xs) l =
    let h = counted left (most - 0) xs (omega (arith, l)) in
    ap (λ p. found (passed p xs)) (past_some left most true) ∙ h ∙ (let e : ((most - 0) - left) + access_count (take left xs) ≡ (most - suc left) + (1 + access_count (take left xs)) = omega (arith, l) in e)
counted (suc left) most (transfers r ∷ xs) l =
    let h = counted left (most - 0) xs (omega (arith, l)) in
    ap (λ p. found (passed p xs)) (past_some left most true) ∙ h ∙ (let e : ((most - 0) - left) + access_count (take left xs) ≡ (most - suc left) + (1 + access_count (take left xs)) = omega (arith, l) in e)

pub counted_before : (n : ℕ) (xs : List Numbered) (p : Passing) → p ≡ passed (from n n) xs → found p ≡ access_count (take n xs)
counted_before n xs p e = ap found e ∙ counted n n xs (omega arith) ∙ (let z : (n - n) + access_count (take n xs) ≡ access_count (take n xs) = omega arith in z)

-- of an outer body, whose counters were passed
pub outer_passed : (node : PlainNode) (counters : List PlainCounter) (style : Style) (owned : List ℕ) (stages : PlainStages) (old new : Passing)
    → node ≡ outer counters style owned stages → new ≡ passed old (counters_numbers counters) → passed new (stages_numbers stages) ≡ passed old (numbers node)
outer_passed node counters style owned stages old new e h =
    ap (λ p. passed p (stages_numbers stages)) h
    ∙ sym (passed_both old (counters_numbers counters) (stages_numbers stages))
    ∙ ap (λ x. passed old (numbers x)) (sym e)

-- one counter, and those that follow
pub passed_counter : (p q r : Passing) (counter : PlainCounter) (counters : List PlainCounter)
    → q ≡ passed p (list_numbers counter.from) → r ≡ passed q (list_numbers counter.until) → passed p (counters_numbers (counter ∷ counters)) ≡ passed r (counters_numbers counters)
passed_counter p q r counter counters f g =
    passed_both p (list_numbers counter.from ++ list_numbers counter.until) (counters_numbers counters)
    ∙ ap (λ x. passed x (counters_numbers counters))
    (passed_both p (list_numbers counter.from) (list_numbers counter.until) ∙ ap (λ x. passed x (list_numbers counter.until)) (sym f) ∙ sym g)

-- one span, and those that follow
pub passed_span : (p : Passing) (span : PlainSpan) (spans : List PlainSpan) → passed p (spans_numbers (span ∷ spans)) ≡ passed (passed p (spans_numbers (span ∷ []))) (spans_numbers spans)
passed_span p (single ops) spans =
    passed_both p (list_numbers ops) (spans_numbers spans)
    ∙ ap (λ q. passed q (spans_numbers spans)) (sym (passed_both p (list_numbers ops) []))
passed_span p (range a b) spans =
    passed_both p (list_numbers a ++ list_numbers b) (spans_numbers spans)
    ∙ ap (λ q. passed q (spans_numbers spans)) (sym (passed_both p (list_numbers a ++ list_numbers b) []))

-- of a transfer, whose spans were passed, and the operations of its count
pub sparse_passed : (node : PlainNode) (kind : SparseKind) (r m : ℕ) (places : Option ℕ) (spans : List PlainSpan) (count : List PlainOp) (par : ℕ) (old mid new : Passing)
    → node ≡ sparse kind r m places spans count par → mid ≡ passed old (spans_numbers spans) → new ≡ passed mid (list_numbers count) → past new true ≡ passed old (numbers node)
sparse_passed node kind r m places spans count par old mid new e g h = by kind ∙ ap (λ x. passed old (numbers x)) (sym e)
  where
    any : (k : ℕ) → past new true ≡ passed old (spans_numbers spans ++ (list_numbers count ++ transfers k ∷ []))
    any k =
        ap (λ p. past p true) (h ∙ ap (λ p. passed p (list_numbers count)) g)
        ∙ sym (passed_both (passed old (spans_numbers spans)) (list_numbers count) (transfers k ∷ []))
        ∙ sym (passed_both old (spans_numbers spans) (list_numbers count ++ transfers k ∷ []))

    by : (k : SparseKind) → past new true ≡ passed old (numbers (sparse k r m places spans count par))
    by Gather = any 1
    by Scatter = any 1
    by WideLoad = any (range_count spans)
    by WideStore = any (range_count spans)
