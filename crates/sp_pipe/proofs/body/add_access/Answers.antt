use Rattle.std.proofs.Common.{◌+◌, ◌++◌, length, take, ap, subst, sym, ◌∙◌}
use Rattle.sp_gates.proofs.Growing.{Fills-none}
use Rattle.sp_pipe.specs.Acts.{AreActs}
use Rattle.sp_pipe.proofs.Kept.{acts_kept, operands_kept}
use Rattle.sp_pipe.proofs.Acting.{act_added, act_passed}
use Rattle.sp_pipe.proofs.body.add_access.Goals as goal

pub returns-else-is_access-clause-fills : goal.returns-else-is_access-clause-fills
returns-else-is_access-clause-fills c = Fills-none _

pub returns-else-is_access-clause-acts : goal.returns-else-is_access-clause-acts
returns-else-is_access-clause-acts c = act_passed _ _ _ (length c.args.stages.now) c.args.op.now c.requires.here _ c.requires.acts (sym c.is_access.ensures ∙ c.if-is_access.false)

pub returns-in_ok-extend_from_slice-clause-acts : goal.returns-in_ok-extend_from_slice-clause-acts
returns-in_ok-extend_from_slice-clause-acts c =
    let e = c.in_ok-enable.ensures in
    subst (λ ns. AreActs c.enable_of.new.builder c.args.issue c.args.ops.now (take (length c.args.stages.now + 1) c.args.ops.now) ns)
    (sym (c.in_ok-extend_from_slice.ensures.items ∙ ap (λ ns. ns ++ c.args.operands.now) c.in_ok-push.ensures.items))
    (act_added _ _ _ (length c.args.stages.now) c.args.op.now c.requires.here c.args.nets.now.items (acts_kept _ _ e.fills.grows _ _ _ _ c.requires.acts) c.in_ok-enable.enable c.args.operands.now
    (sym c.is_access.ensures ∙ c.if-is_access.true)
    (record { net = e.net; enabled = e.enabled; early = e.early; taken = operands_kept _ _ e.fills.grows _ _ _ _ c.requires.operands }))
