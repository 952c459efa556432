-- Stages as they are emitted, one behind the other.
use Rattle.std.proofs.Common.{◌≡◌, ℕ, zero, suc, ◌+◌, ◌<◌, Bool, List, [], ◌∷◌, ◌++◌, length, refl, sym, subst, arith, Option}
use Rattle.sp_netlist.specs.declared.parts.Child.{Child}
use Rattle.sp_netlist.specs.Draft.{Draft}
use Rattle.sp_netlist.specs.Signals.{Signals}
use Rattle.sp_gates.specs.Nets.{HasNet, Awaits}
use Rattle.sp_gates.proofs.Growing.{HasNet-stays}
use Rattle.sp_gates.proofs.Running.{runs_earlier}
use Rattle.sp_core.specs.Around.{Near}
use Rattle.sp_core.specs.Invariant.{owned_in}
use Rattle.sp_core.specs.Numbering.{node_count, number_count}
use Rattle.sp_core.specs.PlainCore.{PlainCounter, PlainNode, PlainStages, no_stage, more_stage, PlainCore}
use Rattle.sp_plan.specs.PlainPlan.{PlainPlan}
use Rattle.sp_node_runs.specs.BodiesGiven.{Nets}
use Rattle.sp_node_runs.specs.BodiesLaws.{own_near}
use Rattle.sp_op_nets.specs.declared.acted.ActedList.{ActedList}
use Rattle.sp_op_nets.specs.declared.table.AroundNets.{AroundNets}
use Rattle.sp_op_nets.specs.Acted.{answers_in}
use Rattle.sp_op_nets.specs.Table.{nets_at}
use Rattle.sp_op_nets.proofs.Driving.{stay}
use Rattle.sp_op_nets.proofs.Reserving.{reserved_join, same_reserved}
use Rattle.sp_tree_circuits.specs.Circuits.{first_lane, last_lane, slot_nets}
use Rattle.sp_loop_nets.specs.declared.opening.OpenLoop.{OpenLoop}
use Rattle.sp_stage_members.specs.declared.part.StagePart.{StagePart}
use Rattle.sp_stage_members.specs.Members.{part_at, starts_in}
use Rattle.sp_tree_handed.specs.declared.moves.TreeMove.{TreeMove}
use Rattle.sp_tree_handed.specs.declared.owners.Keeping.{Keeping}
use Rattle.sp_tree_handed.specs.declared.owners.LoopTurns.{LoopTurns}
use Rattle.sp_tree_handed.specs.Lists.{lists_in, lists_in_stages}
use Rattle.sp_tree_handed.specs.Moves.{slices_in, slices_in_stages}
use Rattle.sp_tree_handed.proofs.Joining.{lists_join, lists_later}
use Rattle.sp_tree_handed.proofs.Moving.{moves_join, moves_later}
use Rattle.sp_tree_handed.proofs.Owning.{no_turns_stand, turns_join, turns_later}
use Rattle.sp_tree_nets.specs.Emitted.{TreeIn}
use Rattle.sp_tree_nets.specs.Stages.{IsStage, AreTrees, AreStages, AreDivided, no_more, to_one}
use Rattle.sp_tree_nets.proofs.Dividing.{others_behind}
use Rattle.sp_tree_nets.proofs.Later.{stand_later}
use Rattle.sp_tree_nets.proofs.Sides.{answers_append}

-- no stage
pub no_stages : (d : Draft) (core : PlainCore) (plan : PlainPlan) (table : List AroundNets) (ends : List (Option ℕ)) (begun : OpenLoop) (counters : List PlainCounter) (k n : ℕ) → AreStages d d core plan table ends begun counters no_stage [] k n [] [] [] [] []
no_stages d core plan table ends begun counters k n = record {
  nets = [];
  reserves = same_reserved d;
  divided = no_more;
  each = refl;
  firsts = λ i. refl;
  lasts = λ i. refl;
  awaits = λ i lt. absurd (omega (arith, lt));
  dones = λ i lt. absurd (omega (arith, lt));
  lists = tt;
  owners = no_turns_stand d core;
  moved = tt;
  trees = λ around earlier owned right stand s run i nets child nets_are child_are. record { circuits = tt; handed = refl; owners = (refl, refl); moved = refl };
}

module _ (core : PlainCore) (plan : PlainPlan) (s : Signals) (ends : List (Option ℕ)) (near : List Near) (node : PlainNode) (k n : ℕ) (acted : List ActedList) (turns : List LoopTurns) (kept : List Keeping) (moves : List TreeMove) where
  pub tree_by : (env other : Nets) (c d : Child) → env ≡ other → c ≡ d → TreeIn core plan s ends near env node k n c acted turns kept moves → TreeIn core plan s ends near other node k n d acted turns kept moves
  tree_by env other c d e f t = subst (λ x. TreeIn core plan s ends near other node k n x acted turns kept moves) f (subst (λ x. TreeIn core plan s ends near x node k n c acted turns kept moves) e t)

-- one stage before the others
module _ (a b c : Draft) (core : PlainCore) (plan : PlainPlan) (table : List AroundNets) (ends : List (Option ℕ)) (begun : OpenLoop) (counters : List PlainCounter) (first last : ℕ) (comb : Bool) (node : PlainNode) (rest : PlainStages) (slot : ℕ) (slots : List ℕ) (k n : ℕ) (part : StagePart)
    (parts : List StagePart) (xs ys : List ActedList) (rs ss : List LoopTurns) (ps qs : List Keeping) (ms os : List TreeMove) (one : IsStage a b core plan table ends begun counters first last node slot k n part xs rs ps ms)
    (more : AreStages b c core plan table ends begun counters rest slots (k + node_count node) (n + number_count node) parts ys ss qs os) where
  both_trees : AreTrees a c core plan table ends begun counters (more_stage first last comb node rest) (slot ∷ slots) k n (part ∷ parts) (xs ++ ys) (rs ++ ss) (ps ++ qs) (ms ++ os)
  both_trees around earlier owned right stand s run i nets child nets_are child_are =
      let here = one.tree around earlier owned right.0 stand s (runs_earlier b c s more.reserves.grows run) in
      let env = sym (nets_are 0 i (omega arith) (omega arith)) in
      let whole = sym (child_are 0 i (omega arith) (omega arith)) in
      let own = tree_by core plan s ends (own_near counters around.counters) node k n xs rs ps ms (slot_nets begun.nets begun.rows.rows.items (nets_at table) counters slot) (nets i) part.child (child i) env whole here in
      let others = more.trees around (earlier ++ owned_in node) owned right.1 (stand_later a b table around.counters one.reserves.grows stand) s run (suc i) nets child
      (λ m at e lt. nets_are (suc m) at (omega (arith, e)) (omega (arith, lt))) (λ m at e lt. child_are (suc m) at (omega (arith, e)) (omega (arith, lt))) in
      record {
        circuits = (own.circuit, others.circuits);
        handed = record { one = xs; rest = ys; all = refl; first = own.handed; others = others.handed };
        owners = record { one = rs; other = ss; one_kept = ps; other_kept = qs; turns_are = refl; kept_are = refl; first = own.owners; second = others.owners };
        moved = record { one = ms; other = os; moves_are = refl; first = own.moved; second = others.moved };
      }

  pub both_stages : AreStages a c core plan table ends begun counters (more_stage first last comb node rest) (slot ∷ slots) k n (part ∷ parts) (xs ++ ys) (rs ++ ss) (ps ++ qs) (ms ++ os)
  both_stages = record {
    nets = part.child.start ∷ (answers_in xs ++ more.nets);
    reserves = reserved_join a b c (part.child.start ∷ answers_in xs) more.nets one.reserves more.reserves;
    divided = subst (λ ns. AreDivided (part.child.start ∷ (answers_in xs ++ more.nets)) (part.child.start ∷ starts_in parts) ns) (sym (answers_append xs ys)) (to_one (others_behind (answers_in xs) more.nets (starts_in parts) (answers_in ys) more.divided));
    each = (let e = more.each in omega (arith, e));
    firsts = first_is;
    lasts = last_is;
    awaits = start_is;
    dones = done_is;
    lists = lists_join c core (lists_in node n) (lists_in_stages rest (n + number_count node)) xs ys (lists_later b c core (lists_in node n) xs more.reserves.grows one.lists) more.lists;
    owners = turns_join c core rs ss ps qs (turns_later b c core rs ps more.reserves.grows one.owners) more.owners;
    moved = moves_join c (slices_in node k) (slices_in_stages rest (k + node_count node)) ms os (moves_later b c (slices_in node k) ms more.reserves.grows one.moved) more.moved;
    trees = both_trees;
  }
    where
      first_is : (i : ℕ) → first_lane (more_stage first last comb node rest) i ≡ (part_at (part ∷ parts) i).first
      first_is zero = one.first_is
      first_is (suc i) = more.firsts i

      last_is : (i : ℕ) → last_lane (more_stage first last comb node rest) i ≡ (part_at (part ∷ parts) i).last
      last_is zero = one.last_is
      last_is (suc i) = more.lasts i

      start_is : (i : ℕ) → i < length (part ∷ parts) → Awaits c (part_at (part ∷ parts) i).child.start 1
      start_is zero lt = stay b c part.child.start 1 more.nets one.start more.reserves
      start_is (suc i) lt = more.awaits i (omega (arith, lt))

      done_is : (i : ℕ) → i < length (part ∷ parts) → HasNet c (part_at (part ∷ parts) i).child.done 1
      done_is zero lt = HasNet-stays b c part.child.done 1 more.reserves.grows one.done
      done_is (suc i) lt = more.dones i (omega (arith, lt))
