-- A chosen plan is valid.
use Rattle.std.proofs.Common.{List}
use Rattle.sp_core.specs.declared.access.Meet.{Meet}
use Rattle.sp_core.specs.Forms.{PlainForms}
use Rattle.sp_core.specs.Invariant.{IsCore}
use Rattle.sp_core.specs.PlainCore.{PlainCore}
use Rattle.sp_depths.specs.Laws.{DepthsAreRight}
use Rattle.sp_plan.specs.PlainPlan.{PlainPlan}
use Rattle.sp_plan.specs.Validity.{kind_rule, time_rule, slot_rule, IsValid}
use Rattle.sp_plans.proofs.BestRules.{TimesAreRight, FinestAreRight, kind_kept, time_kept, slot_kept}
use Rattle.sp_plans.proofs.FromSites.{from_sites}
use Rattle.sp_plans.specs.Planned.{IsPlanned}
use Rattle.sp_schemes.specs.Laws.{ChosenAreRight}

pub valid : ChosenAreRight → TimesAreRight → FinestAreRight → DepthsAreRight → (core : PlainCore) (forms : PlainForms) (meets : List Meet) (plan : PlainPlan) → IsCore core → IsPlanned core forms meets plan → IsValid core forms meets plan
valid schemes_right times_right finest_right depths_right core forms meets plan ok h =
    let schemes = schemes_right core forms meets plan h.schemes in
    let copies = depths_right core forms meets plan ok h.depths in
    record {
      memories = h.memories;
      nodes = h.nodes;
      kinds = from_sites (kind_rule core forms meets plan) core.root (λ k lt. kind_kept core forms meets plan k (h.best k lt) finest_right);
      schemes = schemes.schemes;
      groups = schemes.groups;
      separated = schemes.separated;
      times = from_sites (time_rule core forms meets plan) core.root (λ k lt. time_kept core forms meets plan k (h.best k lt) times_right);
      slots = from_sites (slot_rule core forms meets plan) core.root (λ k lt. slot_kept core forms meets plan k (h.best k lt) finest_right);
      copied = copies.copied;
      single = copies.single;
      duplicated = h.duplicated;
    }
