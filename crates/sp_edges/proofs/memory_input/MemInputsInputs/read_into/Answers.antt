use Rattle.std.proofs.Common.{arith}
use Rattle.std.proofs.lemmas.Grind.{common_steps}
use Rattle.sp_edges.proofs.Sure.{all_past-not_among, all_past-next_number}
use Rattle.sp_edges.proofs.memory_input.MemInputsInputs.read_into.Goals as goal
use Rattle.sp_edges.proofs.memory_input.MemInputsInputs.read_into.Goals.{in_default-via-in-Some+else-not-fails, in_default-via-in_default}

pub returns-in-Some-clause-stays_sure : goal.returns-in-Some-clause-stays_sure
returns-in-Some-clause-stays_sure c n sure =
    rw c.begin_call-fails.ensures.counts (sure.0, all_past-next_number c.args.self.now.failing c.args.self.now.next sure.1)

pub returns-in_default-clause-not_sure : goal.returns-in_default-clause-not_sure
returns-in_default-clause-not_sure c sure same =
    let among = all_past-not_among c.args.self.now.failing c.args.self.now.next sure.1 in
    elim c.in_default.branch [
      | in_default-via-in-Some+else-not-fails w ↦ grind (arith, common_steps, among)
      | in_default-via-in_default w ↦ grind (arith, common_steps, sure.0)
    ]

pub returns-in_default-clause-stays_sure : goal.returns-in_default-clause-stays_sure
returns-in_default-clause-stays_sure c n sure =
    rw (c.fail.ensures.counts, c.begin_call-fails.ensures.counts) (sure.0, all_past-next_number c.args.self.now.failing c.args.self.now.next sure.1)
