use Rattle.std.proofs.Common.{◌+◌, refl}
use Rattle.sp_core.specs.Plain.{plain_ops}
use Rattle.sp_tree_accesses.proofs.Walking.{adds_one}
use Rattle.sp_tree_accesses.proofs.walk.add_list.Goals as goal

pub returns : goal.returns
returns c n at_once =
    adds_one c.args.copies.now c.args.acted.now (record { number = n; ops = plain_ops c.args.ops.now; at_once = at_once }) c.in-Some.list.now c.in_ok-added.added.items c.args.walk.now (record { accesses = c.append.new.all; at = c.args.walk.now.at + 1 })
    c.in-Some.ensures.lookup.1 c.in_ok-append.ensures refl c.in_ok-added.ensures.accesses c.in_ok-added.ensures.nets
