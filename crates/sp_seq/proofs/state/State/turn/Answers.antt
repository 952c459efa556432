use Rattle.std.proofs.Common.{arith}
use Rattle.sp_seq.specs.States.{store_of}
use Rattle.sp_seq.proofs.AccessLemmas.{turn_none, turn_went}
use Rattle.sp_seq.proofs.state.State.turn.Goals as goal

pub returns-then-self-eq0-clause-ran : goal.returns-then-self-eq0-clause-ran
returns-then-self-eq0-clause-ran c = turn_none c.args.self.now.left (store_of c.args.self.now) c.if-self-eq0.true

pub returns-clause-ran : goal.returns-clause-ran
unfolding store_of
returns-clause-ran c = turn_went c.args.self.now.left (store_of c.args.self.now) (omega arith)
