-- The spans of a slice, as they are counted in the tree and in the program.
use Rattle.std.proofs.Common.{◌≡◌, ℕ, ◌+◌, Bool, true, false, cond, not, ◌&&◌, List, [], ◌∷◌, length, refl, sym, ◌∙◌, true≢false, arith}
use Rattle.std.specs.Prelude.{◌==◌}
use Rattle.std.proofs.lemmas.Bool.{eqb-true, eq-eqb}
use Rattle.std.proofs.lemmas.List.Recursion.{is_count_by}
use Rattle.std.proofs.lemmas.List.{length-map}
use Rattle.sp_reader.specs.PlainStatement.{PlainSpan, single, range}
use Rattle.sp_tree.specs.Typing as program
use Rattle.sp_types.specs.Spans.{is_range, range_count, line_ranges, ends_in_range}
use Rattle.sp_typed.specs.Named.{Here}
use Rattle.sp_typed.specs.Statements.{span_typed, spans_typed}

counted_first : (here : Here) (s : PlainSpan) (rest : List PlainSpan)
    → program.range_count (spans_typed here (s ∷ rest)) ≡ cond (is_range s) (1 + program.range_count (spans_typed here rest)) (program.range_count (spans_typed here rest))
counted_first here (single e) rest = refl
counted_first here (range a b par) rest = refl

pub ranges_counted : (here : Here) (spans : List PlainSpan) → program.range_count (spans_typed here spans) ≡ range_count spans
ranges_counted here spans = is_count_by (λ ss. program.range_count (spans_typed here ss)) is_range refl (counted_first here) spans

pub spans_counted : (here : Here) (spans : List PlainSpan) → length (spans_typed here spans) ≡ length spans
spans_counted here spans = length-map spans (span_typed here)

-- ---- a slice of a line buffer ends in its only range

one_range : (n : ℕ) (b : Bool) → 1 ≡ cond (n == 1 && not b) 0 n → (n ≡ 1) × (b ≡ true)
one_range n b e = by (n == 1) refl e
  where
    by : (t : Bool) → (n == 1) ≡ t → 1 ≡ cond (t && not b) 0 n → (n ≡ 1) × (b ≡ true)
    by true t e = (eqb-true n 1 t, at_end b e)
      where
        at_end : (b : Bool) → 1 ≡ cond (not b) 0 n → b ≡ true
        at_end true e = refl
        at_end false e = absurd (cc)
    by false t e = absurd (true≢false (sym (eq-eqb n 1 (sym e)) ∙ t))

no_more : (here : Here) (rest : List PlainSpan) → program.range_count (spans_typed here rest) ≡ 0 → ends_in_range rest ≡ false
no_more here [] e = refl
no_more here (single a ∷ []) e = refl
no_more here (single a ∷ s ∷ rest) e = no_more here (s ∷ rest) e
no_more here (range a b par ∷ rest) e = absurd (omega arith)

ends : (here : Here) (spans : List PlainSpan) → program.range_count (spans_typed here spans) ≡ 1 → ends_in_range spans ≡ true → program.EndsInRange (spans_typed here spans)
ends here [] n e = absurd (true≢false (sym e))
ends here (single a ∷ []) n e = absurd (true≢false (sym e))
ends here (single a ∷ s ∷ rest) n e = ends here (s ∷ rest) n e
ends here (range a b par ∷ []) n e = tt
ends here (range a b par ∷ s ∷ rest) n e = absurd (true≢false (sym e ∙ no_more here (s ∷ rest) (omega arith)))

pub line_ends : (here : Here) (spans : List PlainSpan) → 1 ≡ line_ranges spans → program.EndsInRange (spans_typed here spans)
line_ends here spans e =
    let f = one_range (range_count spans) (ends_in_range spans) e in
    ends here spans (ranges_counted here spans ∙ f.0) f.1
