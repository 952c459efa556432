use Rattle.std.proofs.Common.{◌∙◌, ap, sym, subst}
use Rattle.sp_core.specs.Invariant.{IsCore}
use Rattle.sp_core.specs.PlainCore.{PlainCore}
use Rattle.sp_lanes.specs.Unrolled.{unrolled}
use Rattle.sp_tree.specs.ProgramParts.{plain_program}
use Rattle.sp_compile.proofs.choice.core_in_lanes.Goals as goal

pub laned-requires : goal.laned-requires
laned-requires c =
    let P : PlainCore → Type 0 = λ k. IsCore (unrolled k) in
    subst P (sym c.in_ok-core.ensures.core) (c.programs_stay_cores.ensures (plain_program c.args.program.now) c.mems.ensures.program)

pub returns : goal.returns
returns c = c.in_ok-lanes.ensures ∙ ap unrolled c.in_ok-core.ensures.core
