use Rattle.std.proofs.Common.{◌≡◌, false, map, length, ap, sym, ◌∙◌, arith}
use Rattle.std.proofs.lemmas.List.{length-map}
use Rattle.sp_core.specs.CoreParts.{plain_core}
use Rattle.sp_core.specs.Declarations.{is_stream}
use Rattle.sp_core.specs.Plain.{plain_counter, plain_stage_list}
use Rattle.sp_plan.specs.Slots.{runs_of}
use Rattle.sp_stages.specs.Divided.{slots_of}
use Rattle.sp_plan.specs.Runs.{plain_run}
use Rattle.sp_stages.proofs.FinestAt.{ok_like, finest_in}
use Rattle.sp_stages.proofs.Sizes.{few_runs}
use Rattle.sp_stages.proofs.finest.body_slots.Goals as goal

pub slots_of-requires-clause-few : goal.slots_of-requires-clause-few
slots_of-requires-clause-few c =
    let value = ap length c.deref-2.ensures.value in
    let same = length-map c.in_ok-runs.runs.items plain_run in
    let listed = ap length c.in_ok-runs.ensures in
    let few = few_runs c.args.number (plain_stage_list c.args.stages.now) in
    omega arith

pub returns : goal.returns
returns c =
    let pipe : is_stream c.args.style ≡ false = sym c.is_stream.ensures ∙ c.if-is_stream.false in
    let runs : map plain_run c.deref-2.result.now ≡ runs_of c.args.number (plain_stage_list c.args.stages.now) = ap (map plain_run) c.deref-2.ensures.value ∙ c.in_ok-runs.ensures in
    ok_like _ _
    (λ slots e. finest_in (plain_core c.args.core.now) c.args.meets.now (is_stream c.args.style) (map plain_counter c.args.counters.now) c.args.style c.args.owned.now (runs_of c.args.number (plain_stage_list c.args.stages.now)) slots.items pipe c.requires.in_place
    (e ∙ ap (slots_of (plain_core c.args.core.now) c.args.meets.now (map plain_counter c.args.counters.now) c.args.style c.args.owned.now) runs))
    c.slots_of.result c.slots_of.ensures
