use Rattle.std.proofs.Common.{List, refl, sym, subst}
use Rattle.sp_gates.proofs.Growing.{HasNet-stays}
use Rattle.sp_op_nets.specs.declared.table.AroundNets.{AroundNets}
use Rattle.sp_bound_nets.specs.Example.{HasCounter}
use Rattle.sp_bound_nets.proofs.Worked.{has_counter}
use Rattle.sp_bound_nets.proofs.examples.one_around.Goals as goal

pub returns-clause-counter : goal.returns-clause-counter
returns-clause-counter c =
    let new = c.one.new.builder in
    subst (λ (table : List AroundNets). HasCounter new table c.args.value) (sym c.in_ok-table.ensures.items)
    (has_counter new c.in_ok-mask.mask c.args.value (record { value = c.args.value; step = 1; masks = c.in_ok-masks.masks }) c.in_ok-masks.ensures.items refl (HasNet-stays c.args.builder.now new c.args.value 32 c.in_ok-mask.ensures.fills.grows c.requires)
    c.in_ok-mask.ensures.one.net_stands)
