use Rattle.std.proofs.Common.{map}
use Rattle.sp_core.specs.Plain.{plain_ops}
use Rattle.sp_tree.specs.Plain.{plain_mem}
use Rattle.sp_operations.proofs.ElementLemmas.{after_word}
use Rattle.sp_operations.proofs.elements.push_element.Goals as goal

pub returns : goal.returns
returns c =
    after_word (map plain_mem c.args.mems.now) (plain_ops c.args.ops.now.items) (plain_ops c.push_element_word.new.ops.items) (plain_ops c.push_element_end.new.ops.items)
    c.args.word c.in_ok-new.new c.args.counter c.args.dims.now c.args.acc c.args.begun c.args.ty c.args.comb
    c.in_ok-new.ensures.ops c.in_ok-new.ensures.place c.in_ok-push_element_end.ensures
