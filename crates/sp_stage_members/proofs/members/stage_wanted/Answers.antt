use Rattle.std.proofs.Common.{◌<◌, ◌≤◌, ℕ, List, length, subst, sym, ◌∙◌}
use Rattle.std.specs.Prelude.{slice_index}
use Rattle.std.specs.Result.{IfOk}
use Rattle.sp_netlist.specs.Signals.{Signals}
use Rattle.sp_gates.specs.Runs.{RunsOn}
use Rattle.sp_gates.specs.Nets.{HasNet}
use Rattle.sp_gates.proofs.Growing.{Fills-none}
use Rattle.sp_stage_members.specs.Members.{IsWanted}
use Rattle.sp_stage_members.proofs.Making.{list_at, list_past, no_lane}
use Rattle.sp_stage_members.proofs.members.stage_wanted.Goals as goal

pub wanted_net-requires-clause-lanes : goal.wanted_net-requires-clause-lanes
wanted_net-requires-clause-lanes c =
    let h = c.in-Some.ensures.lookup in
    let e = c.deref.ensures.value ∙ sym (list_at c.args.masks.now c.args.row c.in-Some.told.now h.3.0 h.1) in
    subst (λ (ms : List ℕ). 1 ≤ c.args.part.now.first → c.args.part.now.last < length ms) (sym e) c.requires.lanes

pub wanted_net-requires-clause-masks : goal.wanted_net-requires-clause-masks
wanted_net-requires-clause-masks c =
    let h = c.in-Some.ensures.lookup in
    let e = c.deref.ensures.value ∙ sym (list_at c.args.masks.now c.args.row c.in-Some.told.now h.3.0 h.1) in
    subst (λ (ms : List ℕ). (i : ℕ) → i < length ms → HasNet c.args.builder.now (slice_index ms i) 1) (sym e) (c.requires.masks c.args.row)

pub returns-in-Some-clause-told : goal.returns-in-Some-clause-told
returns-in-Some-clause-told c =
    let h = c.in-Some.ensures.lookup in
    let e = c.deref.ensures.value ∙ sym (list_at c.args.masks.now c.args.row c.in-Some.told.now h.3.0 h.1) in
    subst (λ (ms : List ℕ). IfOk c.wanted_net.result (λ wanted. (s : Signals) → RunsOn s c.wanted_net.new.builder.cells → IsWanted s ms c.args.part.now.first c.args.part.now.last wanted)) e c.wanted_net.ensures.told

pub returns-in-None-clause-fills : goal.returns-in-None-clause-fills
returns-in-None-clause-fills c = Fills-none _

pub returns-in-None-clause-told : goal.returns-in-None-clause-told
returns-in-None-clause-told c = λ s r.
    let h = c.in-None.ensures.lookup in
    no_lane c.args.part.now.first c.args.part.now.last (subst (λ (ms : List ℕ). 1 ≤ c.args.part.now.first → c.args.part.now.last < length ms) (list_past c.args.masks.now c.args.row h.3) c.requires.lanes)
