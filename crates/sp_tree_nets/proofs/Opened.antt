-- A loop with stages, round these.
use Rattle.std.proofs.Common.{◌≡◌, ℕ, ◌+◌, ◌≤◌, Bool, List, [], ◌∷◌, ◌++◌, length, Contains, refl, subst, arith, Option}
use Rattle.std.proofs.Math.Path.{fun_ext}
use Rattle.sp_netlist.specs.declared.parts.Child.{Child}
use Rattle.sp_netlist.specs.Draft.{Draft}
use Rattle.sp_gates.specs.Grows.{Grows}
use Rattle.sp_gates.specs.Nets.{HasNet, Awaits}
use Rattle.sp_core.specs.Around.{Near, within, lanes_of}
use Rattle.sp_core.specs.Invariant.{owned_in}
use Rattle.sp_core.specs.Numbering.{node_count, number_count}
use Rattle.sp_core.specs.PlainCore.{PlainCounter, PlainNode, PlainStages, no_stage, more_stage, PlainCore}
use Rattle.sp_beat_words.specs.Fits.{AreRows}
use Rattle.sp_plan.specs.PlainPlan.{PlainPlan}
use Rattle.sp_node_runs.specs.BodiesLaws.{own_near}
use Rattle.sp_op_nets.specs.declared.acted.ActedList.{ActedList}
use Rattle.sp_op_nets.specs.declared.table.AroundNets.{AroundNets}
use Rattle.sp_op_nets.specs.Acted.{answers_in}
use Rattle.sp_op_nets.specs.Reserved.{Reserves}
use Rattle.sp_op_nets.specs.Table.{nets_at, StandAround}
use Rattle.sp_op_nets.proofs.Driving.{stay}
use Rattle.sp_op_nets.proofs.Reserving.{reserved_join}
use Rattle.sp_tree_circuits.specs.Circuits.{slot_nets}
use Rattle.sp_loop_nets.specs.declared.opening.OpenLoop.{OpenLoop}
use Rattle.sp_loop_nets.specs.Fits.{counted_wires}
use Rattle.sp_loop_nets.proofs.Promising.{rows_stand_later}
use Rattle.sp_tree_handed.specs.declared.moves.TreeMove.{TreeMove}
use Rattle.sp_tree_handed.specs.declared.owners.Keeping.{Keeping}
use Rattle.sp_tree_handed.specs.declared.owners.LoopTurns.{LoopTurns}
use Rattle.sp_tree_handed.specs.Lists.{lists_in}
use Rattle.sp_tree_handed.proofs.Moving.{ends_later, stage_ends_later}
use Rattle.sp_tree_handed.specs.Moves.{AreMovesStanding, slices_in}
use Rattle.sp_tree_handed.specs.Standing.{AreListsStanding, AreTurnsStanding}
use Rattle.sp_tree_nets.specs.Emitted.{CanEmit, IsTree}
use Rattle.sp_tree_nets.specs.Stages.{CanEmitStages, IsStage, LoopStands}
use Rattle.sp_tree_nets.proofs.Lanes.{tree_by}
use Rattle.sp_tree_nets.proofs.Later.{stand_later}

-- a loop that stands, stands where more was reserved
pub loop_later : (a b : Draft) (begun : OpenLoop) (counters : List PlainCounter) (nets : List ℕ) → Reserves a b nets → LoopStands a begun counters → LoopStands b begun counters
loop_later a b begun counters nets r h = record { rows = rows_stand_later a b (counted_wires begun.nets) begun.rows.rows.items nets r h.rows; long = h.long; masks = h.masks }

-- the first of stages, and the others behind it
module _ (core : PlainCore) (plan : PlainPlan) (table : List AroundNets) (ends : List (Option ℕ)) (counters : List PlainCounter) (first last : ℕ) (comb : Bool) (node : PlainNode) (rest : PlainStages) (k n : ℕ) where
  pub first_stage : (d : Draft) → CanEmitStages d core plan table ends counters (more_stage first last comb node rest) k n → CanEmitStages d core plan table ends counters (more_stage first last comb node no_stage) k n
  first_stage d can = record {
    around = can.around;
    owned = can.owned;
    earlier = can.earlier;
    right = (can.right.0, tt);
    stand = can.stand;
    timed = (can.timed.0, tt);
    have_ends = (can.have_ends.0, tt);
    times = (can.times.0, tt);
    places = (can.places.0, tt);
    planned = (let h = can.planned in omega (arith, h));
    nodes = (let h = can.nodes in omega (arith, h));
    numbers = (let h = can.numbers in omega (arith, h));
  }

  pub other_stages : (d e : Draft) → Grows d e → CanEmitStages d core plan table ends counters (more_stage first last comb node rest) k n → CanEmitStages e core plan table ends counters rest (k + node_count node) (n + number_count node)
  other_stages d e g can = record {
    around = can.around;
    owned = can.owned;
    earlier = can.earlier ++ owned_in node;
    right = can.right.1;
    stand = stand_later d e table can.around.counters g can.stand;
    timed = can.timed.1;
    have_ends = stage_ends_later d e ends rest (k + node_count node) g can.have_ends.1;
    times = can.times.1;
    places = can.places.1;
    planned = (let h = can.planned in omega (arith, h));
    nodes = (let h = can.nodes in omega (arith, h));
    numbers = (let h = can.numbers in omega (arith, h));
  }

-- a stage, with the table inside of its slot
module _ (core : PlainCore) (plan : PlainPlan) (table inside : List AroundNets) (ends : List (Option ℕ)) (begun : OpenLoop) (counters : List PlainCounter) (first last : ℕ) (comb : Bool) (node : PlainNode) (slot k n : ℕ) (d e : Draft) (nets : List ℕ) (g : Reserves d e nets) (loop : LoopStands d begun counters)
    (stands : (d : Draft) (near : List Near) → StandAround d table near → AreRows d (counted_wires begun.nets) begun.rows.rows.items → ((c : PlainCounter) → Contains counters c → lanes_of counters ≤ length begun.nets.masks.items) → StandAround d inside (own_near counters near)) where
  there : (near : List Near) → StandAround d table near → StandAround e inside (own_near counters near)
  there near h = stands e near (stand_later d e table near g.grows h) (loop_later d e begun counters nets g loop).rows loop.masks

  pub stage_can : CanEmitStages d core plan table ends counters (more_stage first last comb node no_stage) k n → CanEmit e core plan inside ends node k n
  stage_can can = record {
    around = within can.around counters can.owned;
    earlier = can.earlier;
    right = can.right.0;
    stand = there can.around.counters can.stand;
    timed = can.timed.0;
    have_ends = ends_later d e ends node k g.grows can.have_ends.0;
    times = can.times.0;
    places = can.places.0;
    planned = (let h = can.planned in omega (arith, h));
    nodes = (let h = can.nodes in omega (arith, h));
    numbers = (let h = can.numbers in omega (arith, h));
  }

  pub stage_is : (f : Draft) (child : Child) (acted : List ActedList) (turns : List LoopTurns) (kept : List Keeping) (moves : List TreeMove) → nets ≡ child.start ∷ [] → Awaits e child.start 1 → Reserves e f (answers_in acted) → HasNet f child.done 1
      → ((number : ℕ) → nets_at inside number ≡ slot_nets begun.nets begun.rows.rows.items (nets_at table) counters slot number) → IsTree e f core plan inside ends node k n child acted turns kept moves
      → AreListsStanding f core (lists_in node n) acted → AreTurnsStanding f core turns kept → AreMovesStanding f (slices_in node k) moves
      → IsStage d f core plan table ends begun counters first last node slot k n (record { child = child; first = first; last = last }) acted turns kept moves
  stage_is f child acted turns kept moves nets_are start more done same tree lists owners moved = record {
    reserves = reserved_join d e f (child.start ∷ []) (answers_in acted) (subst (Reserves d e) nets_are g) more;
    first_is = refl;
    last_is = refl;
    start = stay e f child.start 1 (answers_in acted) start more;
    done = done;
    lists = lists;
    owners = owners;
    moved = moved;
    tree = λ around earlier owned right stand s run.
        tree_by core plan s ends (own_near counters around.counters) node k n acted turns kept moves (nets_at inside) (slot_nets begun.nets begun.rows.rows.items (nets_at table) counters slot) child child (fun_ext same) refl (tree (within around counters owned) earlier right (there around.counters stand) s run);
  }
