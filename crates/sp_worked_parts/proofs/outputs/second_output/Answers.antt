use Rattle.std.proofs.Common.{refl, ap, ◌∙◌, codes}
use Rattle.std.specs.Prelude.{filter_map}
use Rattle.sp_netlist.specs.Rules.{out_name}
use Rattle.sp_netlist.proofs.Examples.{a_name}
use Rattle.sp_worked_parts.proofs.Closing.{can_output, promised_net, other_name}
use Rattle.sp_worked_parts.proofs.outputs.second_output.Goals as goal

pub add-requires : goal.add-requires
add-requires c =
    rw (c.in_ok-name.ensures, c.int.ensures)
    (can_output c.promise.new.self (codes "z") c.in_ok-net.net (a_name (codes "z") refl refl) (other_name c.promise.new.self.cells (ap (filter_map out_name) (c.in_ok-net.ensures.same_cells ∙ c.requires.cells)))
    (promised_net c.promise.new.self c.in_ok-net.net c.in_ok-net.ensures.as_promised))
