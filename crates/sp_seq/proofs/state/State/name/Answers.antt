use Rattle.std.proofs.Common.{refl, sym}
use Rattle.sp_seq.proofs.StoreLemmas.{name-set}
use Rattle.sp_seq.proofs.state.State.name.Goals as goal

pub returns-clause-store : goal.returns-clause-store
returns-clause-store c = sym (name-set c.args.self.now _ c.args.value c.args.word c.requires refl refl refl)
