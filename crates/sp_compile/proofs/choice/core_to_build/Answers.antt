use Rattle.std.proofs.Common.{◌∙◌, ap, sym, subst}
use Rattle.sp_core.specs.Invariant.{IsCore}
use Rattle.sp_core.specs.PlainCore.{PlainCore}
use Rattle.sp_lanes.specs.Unrolled.{unrolled}
use Rattle.sp_narrow.specs.Narrow.{narrow}
use Rattle.sp_tree.specs.ProgramParts.{plain_program}
use Rattle.sp_compile.specs.Choices.{lanes_of}
use Rattle.sp_compile.proofs.choice.core_to_build.Goals as goal

pub narrow_laned-requires : goal.narrow_laned-requires
narrow_laned-requires c =
    let p = plain_program c.args.program.now in
    let P : PlainCore → Type 0 = λ k. IsCore (narrow (unrolled k)) in
    subst P (sym c.in_ok-core.ensures.core) (c.narrow_cores_stay_cores.ensures (lanes_of p) (c.programs_stay_cores.ensures p c.mems.ensures.program))

pub returns : goal.returns
returns c = c.in_ok-lanes.ensures ∙ ap (λ (k : PlainCore). narrow (unrolled k)) c.in_ok-core.ensures.core
