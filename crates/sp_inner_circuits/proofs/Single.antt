-- A body by its plan, and one without counters.
use Rattle.std.proofs.Common.{◌≡◌, ℕ, ◌+◌, ◌≤◌, true, List, [], ◌∷◌, ◌++◌, slice_index, Option, None, refl, sym, ◌∙◌, ap, subst, arith}
use Rattle.std.proofs.lemmas.Bool.{and_parts}
use Rattle.sp_netlist.specs.declared.parts.Child.{Child}
use Rattle.sp_netlist.specs.Draft.{Draft}
use Rattle.sp_netlist.specs.Signals.{Signals}
use Rattle.sp_gates.specs.Grows.{Grows, Fills}
use Rattle.sp_gates.specs.Nets.{HasNet}
use Rattle.sp_gates.specs.Runs.{RunsOn}
use Rattle.sp_gates.specs.Tested.{is_on}
use Rattle.sp_core.specs.declared.operation.Op.{Op}
use Rattle.sp_core.specs.Around.{Around, within}
use Rattle.sp_core.specs.Latency.{latency}
use Rattle.sp_core.specs.NodeRules.{are_counters_right, is_node_right}
use Rattle.sp_core.specs.OperationRules.{are_operations_right}
use Rattle.sp_core.specs.Plain.{plain_ops}
use Rattle.sp_core.specs.PlainCore.{PlainOp, PlainCounter, inner, PlainCore}
use Rattle.sp_pipe.specs.declared.part.Groups.{Groups}
use Rattle.sp_pipe.specs.declared.part.Part.{Part}
use Rattle.sp_pipe.specs.declared.part.PipeOp.{PipeOp}
use Rattle.sp_pipe.specs.Emitted.{PartFits, GroupsFit, driven_of}
use Rattle.sp_pipe.specs.Issues.{IssuesOne, Issues}
use Rattle.sp_pipe.specs.Right.{OpsFit}
use Rattle.sp_plan.specs.PlainPlan.{PlainNodePlan, node_plan}
use Rattle.sp_pipe.specs.Acts.{AreActs}
use Rattle.sp_part_runs.specs.ActsCircuits.{AreOpsOf}
use Rattle.sp_machine.specs.Timeline.{times_of, interval_of, latency_of}
use Rattle.sp_node_runs.specs.Bodies.{AreTimedOps, IsPaced}
use Rattle.sp_op_nets.specs.declared.acted.ActedList.{ActedList}
use Rattle.sp_op_nets.specs.declared.table.AroundNets.{AroundNets}
use Rattle.sp_op_nets.specs.Acted.{answers_of, answers_in, AnswersStand, AreAnsweredAfter, IsActed}
use Rattle.sp_op_nets.specs.Reserved.{Reserves}
use Rattle.sp_op_nets.proofs.Reserving.{none_reserved, reserved_join}
use Rattle.sp_list_circuits.specs.Timed.{AreRightHere, AreTimed, IsIssuedList}
use Rattle.sp_list_circuits.proofs.Placing as placing
use Rattle.sp_inner_circuits.specs.Bodies.{IsPartOf, IsBody}
use Rattle.sp_inner_circuits.specs.Inner.{IsInnerActed, IsPlanned, IsInnerRight, IsInner}

-- what the rules of a node say of its operations
pub ops_right : (core : PlainCore) (around : Around) (counters : List PlainCounter) (owned : List ℕ) (ops : List PlainOp) (comb : Option ℕ) → is_node_right core around (inner counters owned ops comb) ≡ true
    → are_operations_right core (within around counters owned) ops ≡ true
ops_right core around counters owned ops comb right = (and_parts (are_counters_right core around counters) (are_operations_right core (within around counters owned) ops) right).1

pub right_single : (d : Draft) (core : PlainCore) (table : List AroundNets) (ops : List PlainOp) → IsInnerRight d core table [] ops → AreRightHere d core table ops
right_single d core table ops r = record { around = within r.around [] r.owned; right = ops_right core r.around [] r.owned ops r.comb r.right; stand = r.stand }

-- the part of a body may be emitted where its operations and its counters may
pub part_fits : (d : Draft) (p : PlainNodePlan) (start : ℕ) (groups : Option Groups) (ps : List PipeOp) (part : Part) → IsPartOf p start groups ps part → HasNet d start 1 → GroupsFit d groups → OpsFit d ps → 1 ≤ interval_of p → PartFits d part
part_fits d p start groups ps part is net more fits some = record {
  start = subst (λ n. HasNet d n 1) (sym is.started) net;
  groups = subst (GroupsFit d) (sym is.grouped) more;
  ops = subst (OpsFit d) (sym is.does) fits;
  interval = subst (λ n. 1 ≤ n) (sym is.interval) some;
}

-- operations at the times of a plan
module _ (mid : Draft) (core : PlainCore) (table : List AroundNets) (ops : List Op) (p : PlainNodePlan) (ps : List PipeOp) (w : AreTimed mid core table ops (times_of p) ps) (planned : IsPlanned core (plain_ops ops) p) (around : Around)
    (right : are_operations_right core around (plain_ops ops) ≡ true) where
  pub fit : (later : Draft) → Grows mid later → OpsFit later ps
  fit later grows = placing.fits mid core table ops (times_of p) ps w around right later grows (slice_index (times_of p)) (λ k lt. refl) planned.leave

  pub are_timed : (later : Draft) → Grows mid later → AreTimedOps later (plain_ops ops) ps (slice_index (times_of p))
  are_timed later grows = placing.timed_ops mid core table ops (times_of p) ps w around right later grows (slice_index (times_of p)) (λ k lt. refl) planned.leave

-- the body's own operations are handed on
pub own_issued : (placed new : Draft) (core : PlainCore) (table : List AroundNets) (ops : List Op) (times : List ℕ) (ps : List PipeOp) (w : AreTimed placed core table ops times ps) (p : PlainNodePlan) (start next : ℕ) (groups : Option Groups) (part : Part)
    (child : Child) (own : ActedList) → Grows placed new → IsPartOf p start groups ps part → IsBody new part next child own → IsIssuedList new core next (plain_ops ops) own
own_issued placed new core table ops times ps w p start next groups part child own grows is body = record {
  issue = body.issue;
  net = body.net;
  ops_of = subst (AreOpsOf (plain_ops ops)) (sym (body.acted.ops ∙ is.does)) w.placed.ops_of;
  acts = record { first = body.acted.first; ops = refl; acts = subst (λ xs. AreActs new body.issue xs xs own.nets.items) (sym body.acted.ops) body.acted.acts };
  answers = subst (AnswersStand new) (sym (body.acted.ops ∙ is.does)) (placing.answers_stand placed core table ops times ps w new grows);
  after = subst (AreAnsweredAfter (latency core) (plain_ops ops)) (sym (body.acted.ops ∙ is.does)) (placing.answered_after placed core table ops times ps w);
}

pub single_acted : (d : Draft) (core : PlainCore) (number : ℕ) (ops : List PlainOp) (own : ActedList) → IsIssuedList d core number ops own → IsInnerActed d core number [] ops (own ∷ [])
single_acted d core number ops own issued = record {
  bounds = [];
  own = own;
  are = refl;
  of_bounds = tt;
  of_own = (let zero : number + 0 ≡ number = omega arith in subst (λ n. IsIssuedList d core n ops own) (sym zero) issued);
}

-- a body without counters
pub single_reserves : (old mid new : Draft) (ps : List PipeOp) (groups : Option Groups) (own : ActedList) → Reserves old mid (answers_of ps) → groups ≡ None → Fills mid new (driven_of groups) → own.ops.items ≡ ps → Reserves old new (answers_in (own ∷ []))
single_reserves old mid new ps groups own r none f is =
    subst (λ xs. Reserves old new (answers_of xs ++ [])) (sym is) (reserved_join old mid new (answers_of ps) [] r (none_reserved mid new (subst (λ g. Fills mid new (driven_of g)) none f)))

module _ (old mid new : Draft) (core : PlainCore) (table : List AroundNets) (ops : List Op) (p : PlainNodePlan) (ps : List PipeOp) (w : AreTimed mid core table ops (times_of p) ps) (planned : IsPlanned core (plain_ops ops) p) (grows : Grows mid new)
    (start number : ℕ) (part : Part) (child : Child) (own : ActedList) (is : IsPartOf p start None ps part) (body : IsBody new part number child own) where
  issues_single : (q : PlainNodePlan) → q ≡ p → (s : Signals) → RunsOn s new.cells → IssuesOne (is_on s child.start) (is_on s body.issue) (is_on s child.done) (latency_of q)
  issues_single q e s run =
      let one : IssuesOne (is_on s part.start) (is_on s body.issue) (is_on s child.done) part.latency = subst (λ g. Issues g s part.start body.issue child.done part.ii part.latency) is.grouped (body.issues s run) in
      subst (λ n. IssuesOne (is_on s n) (is_on s body.issue) (is_on s child.done) (latency_of q)) (sym body.start)
      (subst (IssuesOne (is_on s part.start) (is_on s body.issue) (is_on s child.done)) (is.latency ∙ sym (ap latency_of e)) one)

  pub single_inner : IsInner old new core table p number [] (plain_ops ops) child (own ∷ [])
  single_inner plan k around owned comb at right stand s run =
      let here = within around [] owned in
      let goes = ops_right core around [] owned (plain_ops ops) comb right in
      let zero : number + 0 ≡ number = omega arith in
      record {
        circuit = record {
          draft = new;
          ps = ps;
          issue = body.issue;
          runs_on = run;
          paced = subst (IsPaced core (plain_ops ops)) (sym at) planned.paced;
          timed = subst (λ q. AreTimedOps new (plain_ops ops) ps (slice_index (times_of q))) (sym at) (are_timed mid core table ops p ps w planned here goes new grows);
          issued = record {
            issues = issues_single (node_plan plan k) at s run;
            given = placing.given mid core table ops (times_of p) ps w here goes new grows s run;
          };
        };
        bounds = [];
        own = own;
        are = refl;
        of_bounds = refl;
        of_own = subst (λ n. IsActed new body.issue n ps own) (sym zero) (subst (λ xs. IsActed new body.issue number xs own) is.does body.acted);
      }
