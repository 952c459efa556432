use Rattle.std.proofs.Common.{refl, sym}
use Rattle.sp_seq.proofs.StoreLemmas.{count-set}
use Rattle.sp_seq.proofs.state.State.count.Goals as goal

pub returns-clause-store : goal.returns-clause-store
returns-clause-store c = sym (count-set c.args.self.now _ c.args.counter c.args.word c.requires refl refl refl)
