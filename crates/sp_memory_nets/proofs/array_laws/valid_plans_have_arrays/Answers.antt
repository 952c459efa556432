use Rattle.sp_memory_nets.proofs.ArrayPlanned.{valid_plans_have_arrays}
use Rattle.sp_memory_nets.proofs.array_laws.valid_plans_have_arrays.Goals as goal

pub returns : goal.returns
returns c = λ core plan. valid_plans_have_arrays core plan (c.plans_have_layouts.ensures core plan) (c.plans_have_copies.ensures core plan)
