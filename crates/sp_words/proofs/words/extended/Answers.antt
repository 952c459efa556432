use Rattle.std.proofs.Common.{sym, ◌∙◌}
use Rattle.sp_words.proofs.OperatorLemmas.{extended_negative, extended_natural}
use Rattle.sp_words.proofs.words.extended.Goals as goal

pub returns-then-is_negative : goal.returns-then-is_negative
returns-then-is_negative c =
    rw (c.from.ensures, c.from-then-is_negative.ensures)
    (extended_negative c.args.ty c.args.word c.mask.result (sym c.is_negative.ensures ∙ c.if-is_negative.true) c.requires c.mask.ensures)

pub returns-else-is_negative : goal.returns-else-is_negative
returns-else-is_negative c =
    c.from-else-is_negative.ensures
    ∙ extended_natural c.args.ty c.args.word (sym c.is_negative.ensures ∙ c.if-is_negative.false) c.requires
