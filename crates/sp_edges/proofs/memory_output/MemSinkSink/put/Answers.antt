use Rattle.std.proofs.Common.{arith, length}
use Rattle.std.proofs.lemmas.Grind.{common_steps}
use Rattle.sp_edges.proofs.SureRoom.{sure_room-within, no_stop-within, sure_room-after}
use Rattle.sp_edges.proofs.memory_output.MemSinkSink.put.Goals as goal

pub returns-then-count-piece-clause-room : goal.returns-then-count-piece-clause-room
returns-then-count-piece-clause-room c some fits =
    let within = sure_room-within c.args.self.now (length c.args.piece.now) some fits in
    sure_room-after c.args.self.now c.take.new.self (length c.args.piece.now) within (cc) (cc) (grind (arith, common_steps))

pub returns-clause-sure : goal.returns-clause-sure
returns-clause-sure c some fits =
    let within = sure_room-within c.args.self.now (length c.args.piece.now) some fits in
    let no_stop = no_stop-within c.args.self.now (length c.args.piece.now) within in
    grind (arith, common_steps, within, no_stop)

pub returns-clause-room : goal.returns-clause-room
returns-clause-room c some fits =
    let within = sure_room-within c.args.self.now (length c.args.piece.now) some fits in
    let no_stop = no_stop-within c.args.self.now (length c.args.piece.now) within in
    grind (arith, common_steps, within, no_stop)
