use Rattle.sp_gates.specs.Nets.{HasNet}
use Rattle.sp_slices.proofs.Lists.{first_and_rest}
use Rattle.sp_slices.proofs.Standing.{of_first}
use Rattle.sp_worked_parts.proofs.slices.first_of.Goals as goal

pub returns : goal.returns
returns c = λ d each other. of_first (λ net. HasNet d net 32) c.args.nets.now _ c.net-item.result (first_and_rest c.args.nets.now c.net-item.result c.in-len1-up.len_at_least c.net-item.is) each
