use Rattle.std.proofs.Common.{◌≡◌, true, sym, ◌∙◌, subst}
use Rattle.sp_core.specs.PlainCore.{PlainCore}
use Rattle.sp_plan.specs.Plain.{plain_plan}
use Rattle.sp_tree.specs.ProgramParts.{plain_program}
use Rattle.sp_lower.specs.Carries.{CarriesCore}
use Rattle.sp_build.specs.Buildable.{is_buildable}
use Rattle.sp_build.proofs.built.build.Goals as goal

pub returns-clause-carries : goal.returns-clause-carries
returns-clause-carries c =
    let p = plain_program c.args.program.now in
    let plan = plain_plan c.in_ok-made.made.plan in
    let core_is = c.in_ok-made.ensures.core in
    let test = subst (λ (core : PlainCore). is_buildable core ≡ true) core_is (sym c.is_buildable.ensures ∙ c.if-not-is_buildable.false) in
    let carries = subst (λ (core : PlainCore). CarriesCore core plan c.in_ok-netlist.netlist) core_is c.in_ok-netlist.ensures.carries in
    c.cores_carry_programs.ensures p plan c.mems.ensures.program c.in_ok-made.ensures.plan test c.in_ok-netlist.netlist carries
