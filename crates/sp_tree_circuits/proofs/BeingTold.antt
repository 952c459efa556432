-- A loop in beats is told what it asks for one cycle further than it goes.
use Rattle.std.proofs.Common.{suc, map, sym, subst, arith}
use Rattle.sp_core.specs.PlainCore.{outer, PlainCore}
use Rattle.sp_part_runs.specs.SequencesChains.{SaysWanted, turn}
use Rattle.sp_part_runs.specs.BeatsRuns.{slot_cycle, slot_found, groups_in}
use Rattle.sp_plan.specs.PlainPlan.{PlainPlan}
use Rattle.sp_machine.specs.Transfers.{Delays}
use Rattle.sp_node_runs.specs.ControlBeating.{beats_ran}
use Rattle.sp_node_runs.proofs.ControlNumbering.{numbered_map}
use Rattle.sp_tree_runs.specs.BodiesScoped.{placed}
use Rattle.sp_tree_circuits.specs.Circuits.{MemberCircuit}
use Rattle.sp_tree_circuits.specs.Told.{LoopsAreTold}
use Rattle.sp_tree_circuits.specs.Given.{Laws}
use Rattle.sp_tree_circuits.proofs.Looping.{next_stepped}
use Rattle.sp_tree_circuits.proofs.Ready.{Ready}
use Rattle.sp_tree_circuits.proofs.Wanted.{says_wanted}

pub loops_are_told : (core : PlainCore) (plan : PlainPlan) (delays : Delays) → Laws core plan delays → LoopsAreTold core plan delays
loops_are_told core plan delays laws s events last near env around earlier k n from until counters style owned stages qs c is right did told w answered t le stand started looping =
    let ready : Ready core plan delays s events (outer counters style owned stages) near env k n qs (suc t) = record { from = from; until = until; did = did; told = told; stand = stand } in
    let stepping = next_stepped core plan delays laws s events last near env around earlier k n counters style owned stages right is c w answered qs (suc t) le ready t (omega arith) started looping in (
      stepping.1,
      numbered_map _ _ 0 w.slots (λ x slot b f. numbered_map _ _ 0 slot.chains.items (λ j chain d g. numbered_map (λ i m. MemberCircuit s w.child counters stages w.nets w.rows w.places x j i m) _ 0 chain.members.items
          (λ i m q h. subst (λ shape. SaysWanted s m.wanted (turn (slot_cycle shape x) (λ q. slot_found x q j) i) (λ q. slot_found x q j i) (groups_in (map (beats_ran core plan delays k n counters owned stages w.places) (placed qs))) (suc t)) (sym w.shaped)
          (says_wanted core plan delays laws s events last near env around earlier k n counters style owned stages right is c w answered qs (suc t) le ready x j i m h t stepping looping)) g) f) w.members,
    )
