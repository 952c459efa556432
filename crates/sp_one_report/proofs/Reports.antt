-- A program has one plan, and one report.
use Rattle.std.proofs.Common.{◌≡◌, ℕ, List, length, sym, ap, ◌∙◌, subst}
use Rattle.sp_compile.specs.Choices.{lanes_of, forms_of, IsPlanOf}
use Rattle.sp_core.specs.declared.access.Meet.{Meet}
use Rattle.sp_core.specs.Forms.{PlainForms}
use Rattle.sp_core.specs.PlainCore.{PlainCore}
use Rattle.sp_meets.specs.Meets.{IsMeetsOf}
use Rattle.sp_meets.specs.Sites.{sites}
use Rattle.sp_one_plan.specs.Laws.{CoresHaveOnePlan}
use Rattle.sp_one_report.proofs.Meets.{one_among}
use Rattle.sp_one_report.specs.Laws.{IsReportOf, IsReportOfText}
use Rattle.sp_plan.specs.PlainPlan.{PlainPlan}
use Rattle.sp_plans.specs.Planned.{IsPlanned}
use Rattle.sp_report.specs.Report.{report_text}
use Rattle.sp_source.specs.Texts.{Spells}
use Rattle.sp_tree.specs.PlainProgram.{PlainProgram}

pub one_list : (core : PlainCore) (forms : PlainForms) (a b : List Meet) → IsMeetsOf core forms a → IsMeetsOf core forms b → a ≡ b
one_list core forms a b h k = one_among (length core.mems) (sites core forms) (sites core forms) a b h k

module _ (law : CoresHaveOnePlan) where
  pub one_plan_of : (program : PlainProgram) (p q : PlainPlan) → IsPlanOf program p → IsPlanOf program q → p ≡ q
  one_plan_of program p q h k =
      let same = one_list (lanes_of program) (forms_of program) k.meets h.meets k.are_meets h.are_meets in
      law (lanes_of program) (forms_of program) h.meets p q h.is_planned (subst (λ meets. IsPlanned (lanes_of program) (forms_of program) meets q) same k.is_planned)

  pub one_report_of : (program : PlainProgram) (s t : List ℕ) → IsReportOf program s → IsReportOf program t → s ≡ t
  one_report_of program s t h k = h.2 ∙ ap (report_text (lanes_of program)) (one_plan_of program h.0 k.0 h.1 k.1) ∙ sym k.2

  pub one_report_of_text : ((text : List ℕ) (p q : PlainProgram) → Spells text p → Spells text q → p ≡ q) → (bytes s t : List ℕ) → IsReportOfText bytes s → IsReportOfText bytes t → s ≡ t
  one_report_of_text one bytes s t h k = one_report_of h.0 s t h.2 (subst (λ p. IsReportOf p t) (sym (one bytes h.0 k.0 h.1 k.1)) k.2)
