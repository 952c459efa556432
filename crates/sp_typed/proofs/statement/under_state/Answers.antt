use Rattle.std.specs.Prelude.{Some}
use Rattle.sp_types.specs.Visible.{value}
use Rattle.sp_typed.specs.Named.{give}
use Rattle.sp_typed.specs.Plain.{here_of}
use Rattle.sp_typed.proofs.GrowthLemmas.{left, back_given}
use Rattle.sp_typed.proofs.statement.under_state.Goals as goal

pub returns-clause-seen : goal.returns-clause-seen
returns-clause-seen c =
    let here = here_of c.args.scope.now in
    left here (give here c.deref.result.now (value (Some c.args.state)) c.args.number) (here_of c.give.new.self) (here_of c.leave.new.self) c.mark-mark.result
    c.leave.ensures c.mark-mark.ensures c.in_ok-give.ensures here
    (back_given here c.deref.result.now (value (Some c.args.state)) c.args.number)
