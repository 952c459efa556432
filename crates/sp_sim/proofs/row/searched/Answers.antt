use Rattle.sp_sim.proofs.RowLemmas.{place_found, place_missing}
use Rattle.sp_sim.proofs.row.searched.Goals as goal

pub returns-in-Ok : goal.returns-in-Ok
returns-in-Ok c = place_found c.args.nets.now c.args.number c.in-Ok.place c.requires c.in-Ok.ensures.position

pub returns-in-Err : goal.returns-in-Err
returns-in-Err c = place_missing c.args.nets.now c.args.number c.in-Err.field-0 c.requires c.in-Err.ensures.position
