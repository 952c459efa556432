use Rattle.std.proofs.Common.{map, string_bytes, ℕ, List}
use Rattle.sp_edges.specs.Calls.{Call}
use Rattle.sp_edges.specs.Counts.{Rose}
use Rattle.sp_edges.specs.Standing.{Standing}
use Rattle.sp_top.specs.Status.{plain_status}
use Rattle.sp_top.specs.Commands.{MayEnd, Refuses}
use Rattle.sp_top.proofs.RefusalLemmas.{ends_refused, ends_memory, not_done}
use Rattle.sp_top.specs.Said.{plain_command}
use Rattle.sp_top.proofs.RecordLemmas.{delivered, refused, Gained-same}
use Rattle.sp_top.proofs.top.carry_out.Goals as goal

-- a command's texts were delivered
pub returns-in-Ok : goal.returns-in-Ok
returns-in-Ok g c =
    delivered (MayEnd (map string_bytes c.args.words.now) (g.I.Inputs.told c.args.inputs.now) _ _) _ _ _ _ _
    (plain_command c.args.command, c.requires, c.in-Ok.ensures.done) c.deliver.ensures.delivered

-- a refusal was put
pub returns-in-Err : goal.returns-in-Err
returns-in-Err g c =
    let said = map string_bytes c.args.words.now in
    let told : List ℕ → Standing = g.I.Inputs.told c.args.inputs.now in
    let failed : List ℕ → Type 0 =
    λ name. Rose (g.I.Inputs.faults c.args.inputs.now) (g.I.Inputs.faults c.texts_of.new.inputs) × (g.I.Inputs.sure c.args.inputs.now name → ⊥) in
    let asked : List Call → Type 0 = λ calls. g.I.Inputs.asked c.args.inputs.now calls c.texts_of.new.inputs in
    let status = plain_status c.in-Err.status in
    let refuses : Refuses said told failed asked status = (plain_command c.args.command, c.requires, c.in-Err.ensures.refused) in
    refused (MayEnd said told failed asked) status _ _ _ (λ which out_text aside_text bad. bad) (not_done said told failed asked status refuses)
    (ends_refused said told failed asked status refuses) (ends_memory said told failed asked status refuses) (Gained-same _, g.met.A.Sink.no_put c.args.aside.now) c.refuse.ensures.refused
