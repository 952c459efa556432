use Rattle.std.proofs.Common.{[], ◌∷◌}
use Rattle.std.proofs.lemmas.Result.{on_ok_weaker}
use Rattle.std.specs.BTreeMap.{get}
use Rattle.std.specs.Ordering.{nat_cmp}
use Rattle.sp_netlist.proofs.CellGraphSteps.{HasTargets-more}
use Rattle.sp_netlist.proofs.loops.link_cell.Goals as goal

pub returns-in_ok-link_net-in-Op : goal.returns-in_ok-link_net-in-Op
returns-in_ok-link_net-in-Op c =
    rw c.in-Op.is (on_ok_weaker c.link_net-in-Op.result
    (λ more. HasTargets-more (get nat_cmp c.args.places.now) c.args.graph.now c.link_net.new.graph c.link_net-in-Op.new.graph c.args.from (c.in-Op.a ∷ []) (c.in-Op.b ∷ []) c.in_ok-link_net-in-Op.ensures more)
    c.link_net-in-Op.ensures)

pub returns-in_ok-link_net-in-Mux-2 : goal.returns-in_ok-link_net-in-Mux-2
returns-in_ok-link_net-in-Mux-2 c =
    let f = get nat_cmp c.args.places.now in
    let two = HasTargets-more f c.args.graph.now c.link_net-in-Mux.new.graph c.link_net-in-Mux-2.new.graph c.args.from (c.in-Mux.choice ∷ []) (c.in-Mux.a ∷ []) c.in_ok-link_net-in-Mux.ensures c.in_ok-link_net-in-Mux-2.ensures in
    rw c.in-Mux.is (on_ok_weaker c.link_net-in-Mux-3.result
    (λ more. HasTargets-more f c.args.graph.now c.link_net-in-Mux-2.new.graph c.link_net-in-Mux-3.new.graph c.args.from (c.in-Mux.choice ∷ c.in-Mux.a ∷ []) (c.in-Mux.b ∷ []) two more)
    c.link_net-in-Mux-3.ensures)
