use Rattle.std.proofs.Common.{◌≡◌, subst, sym}
use Rattle.std.proofs.lemmas.Result.{IfOk-weaker}
use Rattle.sp_tree.specs.ProgramParts.{plain_program}
use Rattle.sp_core.specs.CoreParts.{plain_core}
use Rattle.sp_sugar.specs.Core.{core_of}
use Rattle.sp_lane_cores.specs.LanedMarks.{IsLaned}
use Rattle.sp_proper.specs.Laws.{AreStreamsProper}
use Rattle.sp_desugar.proofs.program.desugar.Goals as goal

pub returns-clause-marks : goal.returns-clause-marks
returns-clause-marks c =
    let p = plain_program c.args.program.now in
    IfOk-weaker c.defined_core.result (λ core. plain_core core ≡ core_of p) (λ core. IsLaned (plain_core core) (plain_core core).root)
    (λ core e. subst (λ k. IsLaned k k.root) (sym e) (c.programs_are_laned.ensures p c.defined_core.ensures.program))
    c.defined_core.ensures.core

pub returns-clause-proper : goal.returns-clause-proper
returns-clause-proper c =
    let p = plain_program c.args.program.now in
    IfOk-weaker c.defined_core.result (λ core. plain_core core ≡ core_of p) (λ core. AreStreamsProper (plain_core core))
    (λ core e. subst (λ k. AreStreamsProper k) (sym e) (c.stream_blocks_are_proper.ensures p c.defined_core.ensures.program))
    c.defined_core.ensures.core
