use Rattle.std.proofs.Common.{sym, ap, subst, ◌∙◌, arith}
use Rattle.sp_copy_nets.specs.Numbers.{StandNumbers}
use Rattle.sp_copy_nets.specs.Table.{slot_numbers}
use Rattle.sp_tree_copies.proofs.loops.coming_nets.Goals as goal

pub returns-then-slot-len-clause-stand : goal.returns-then-slot-len-clause-stand
returns-then-slot-len-clause-stand c d h =
    subst (StandNumbers d) (sym (c.nets_of.ensures ∙ ap (λ slots. slot_numbers slots c.args.slot) c.deref.ensures.value)) (h.coming c.args.slot (let l = c.len.ensures in let v = c.args.copies.now.numbers.ok.0 in let t = c.if-slot-len.true in omega (arith, l, v, t)))
