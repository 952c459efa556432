use Rattle.std.proofs.Common.{refl, ap, ◌∙◌, codes}
use Rattle.std.specs.Prelude.{filter_map}
use Rattle.sp_netlist.specs.Rules.{out_name}
use Rattle.sp_netlist.proofs.Examples.{a_name}
use Rattle.sp_worked_parts.proofs.Closing.{can_output, promised_net, no_name}
use Rattle.sp_worked_parts.proofs.outputs.output.Goals as goal

pub add-requires : goal.add-requires
add-requires c =
    rw (c.in_ok-name.ensures, c.int.ensures)
    (can_output c.promise.new.self (codes "y") c.in_ok-net.net (a_name (codes "y") refl refl) (no_name c.promise.new.self.cells (codes "y") (ap (filter_map out_name) (c.in_ok-net.ensures.same_cells ∙ c.requires.no_cells)))
    (promised_net c.promise.new.self c.in_ok-net.net c.in_ok-net.ensures.as_promised))
