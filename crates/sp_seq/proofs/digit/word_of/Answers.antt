use Rattle.std.proofs.Common.{◌*◌}
use Rattle.sp_seq.proofs.DigitLemmas.{wrapped_sum}
use Rattle.sp_seq.proofs.digit.word_of.Goals as goal

pub returns-clause-value : goal.returns-clause-value
returns-clause-value c =
    let d = c.args.digit.now in
    wrapped_sum d.from (d.at * d.by) c.requires.is_word
