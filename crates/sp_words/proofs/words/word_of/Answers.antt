use Rattle.std.proofs.Common.{◌≡◌, ◌∙◌, ◌%◌, ◌^◌}
use Rattle.sp_words.specs.Types.{width_of}
use Rattle.sp_words.specs.Words.{wrap}
use Rattle.sp_words.specs.WholeNumbers.{with_sign}
use Rattle.sp_words.proofs.OperatorLemmas.{word_of_is, word_of_natural}
use Rattle.sp_words.proofs.words.word_of.Goals as goal
use Rattle.sp_words.proofs.words.word_of.Goals.{then-negative, else-negative}

pub returns : goal.returns
returns c =
    let e : c.if-negative.low_bits % 2 ^ width_of c.args.ty ≡ wrap c.args.ty (with_sign c.args.negative c.args.magnitude) =
    elim c.if-negative.branch [
      | then-negative w ↦ rw (w.low_bits-is, w.if-negative.true) (word_of_is c.args.ty c.args.magnitude w.wrapping_neg.result w.wrapping_neg.ensures)
      | else-negative w ↦ rw (w.low_bits-is, w.if-negative.false) (word_of_natural c.args.ty c.args.magnitude)
    ] in
    c.low_bits.ensures ∙ e
