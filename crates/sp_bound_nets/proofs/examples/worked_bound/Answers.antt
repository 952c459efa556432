use Rattle.std.proofs.Common.{List, [], sym, ◌∙◌, ap, subst}
use Rattle.sp_core.specs.Plain.{plain_ops}
use Rattle.sp_part_runs.specs.ActsCircuits.{AreOpsOf}
use Rattle.sp_op_nets.specs.declared.table.AroundNets.{AroundNets}
use Rattle.sp_op_nets.specs.Reserved.{Reserves}
use Rattle.sp_op_nets.specs.Table.{nets_at, StandAround}
use Rattle.sp_op_nets.proofs.Reserving.{none_reserved, reserved_join}
use Rattle.sp_bound_nets.specs.Direct.{IsDirect}
use Rattle.sp_bound_nets.specs.Example.{one_near}
use Rattle.sp_bound_nets.proofs.Worked.{gives_odd, no_answers, no_plan, odd_core, odd_is_right, are_odd_right, one_around}
use Rattle.sp_bound_nets.proofs.examples.worked_bound.Goals as goal

pub emit_direct-requires-clause-right : goal.emit_direct-requires-clause-right
emit_direct-requires-clause-right c =
    let stands = subst (λ (table : List AroundNets). StandAround c.one_around.new.builder table one_near) (sym c.deref-2.ensures.value) c.in_ok-around.ensures.counter.stands in
    odd_is_right c.one_around.new.builder c.deref-2.result.now (plain_ops c.deref.result.now) stands (ap plain_ops c.deref.ensures.value ∙ c.in_ok-ops.ensures)

pub returns-clause-reserves : goal.returns-clause-reserves
returns-clause-reserves c =
    let mid = c.one_around.new.builder in
    let new = c.emit_direct.new.builder in
    let ops = ap plain_ops c.deref.ensures.value ∙ c.in_ok-ops.ensures in
    let ps = c.in_ok-bound.bound.acted.ops.items in
    let none = no_answers ps (subst (λ os. AreOpsOf os ps) ops c.in_ok-bound.ensures.acted.ops_of) in
    reserved_join c.args.builder.now mid new [] [] (none_reserved c.args.builder.now mid c.in_ok-around.ensures.fills) (subst (Reserves mid new) none c.in_ok-bound.ensures.reserves)

pub returns-clause-odd : goal.returns-clause-odd
returns-clause-odd c = λ s run t i has.
    let mid = c.one_around.new.builder in
    let new = c.emit_direct.new.builder in
    let table = c.deref-2.result.now in
    let bound = c.in_ok-bound.bound in
    let ops = ap plain_ops c.deref.ensures.value ∙ c.in_ok-ops.ensures in
    let stands = subst (λ (table : List AroundNets). StandAround mid table one_near) (sym c.deref-2.ensures.value) c.in_ok-around.ensures.counter.stands in
    let direct = subst (λ os. IsDirect mid new table 0 os bound.net bound.acted) ops c.in_ok-bound.ensures.direct in
    let w = direct odd_core no_plan one_around (are_odd_right odd_core) stands s run in
    let value = ap (λ (table : List AroundNets). (nets_at table 0).value) c.deref-2.ensures.value ∙ c.in_ok-around.ensures.counter.is_value in
    gives_odd odd_core no_plan s one_near (nets_at table) new bound.net c.args.value run w.circuit value t i has
