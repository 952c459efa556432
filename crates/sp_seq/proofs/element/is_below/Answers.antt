use Rattle.std.proofs.Common.{sym, ◌∙◌, arith}
use Rattle.std.proofs.lemmas.Bool.{le-ltb}
use Rattle.sp_seq.proofs.PlaceLemmas.{is_below_small, is_below_large}
use Rattle.sp_seq.proofs.element.is_below.Goals as goal

pub returns-then-word : goal.returns-then-word
returns-then-word c = sym (is_below_small c.args.word c.args.size (omega arith))

pub returns-else-word : goal.returns-else-word
returns-else-word c = le-ltb c.args.word 2147483648 (omega arith) ∙ sym (is_below_large c.args.word c.args.size (omega arith) c.requires)
