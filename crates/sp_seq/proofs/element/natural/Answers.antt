use Rattle.std.proofs.Common.{sym, arith}
use Rattle.sp_seq.proofs.PlaceLemmas.{natural_small, natural_large}
use Rattle.sp_seq.proofs.element.natural.Goals as goal

pub returns-then-word : goal.returns-then-word
returns-then-word c = sym (natural_small c.args.word (omega arith))

pub returns-else-word : goal.returns-else-word
returns-else-word c = sym (natural_large c.args.word (omega arith) c.requires)
