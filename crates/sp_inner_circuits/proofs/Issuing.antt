-- A body under counters.
use Rattle.std.proofs.Common.{◌≡◌, ℕ, ◌+◌, ◌≤◌, true, List, [], ◌∷◌, ◌++◌, length, slice_index, Some, append_assoc, refl, sym, ◌∙◌, ap, subst, arith}
use Rattle.std.proofs.lemmas.Bool.{and_parts}
use Rattle.std.proofs.lemmas.List.{append-nil}
use Rattle.std.specs.List.{list_all}
use Rattle.sp_netlist.specs.declared.parts.Child.{Child}
use Rattle.sp_netlist.specs.Draft.{Draft}
use Rattle.sp_netlist.specs.Signals.{Signals}
use Rattle.sp_gates.specs.Grows.{Grows, Fills}
use Rattle.sp_gates.specs.Runs.{RunsOn}
use Rattle.sp_gates.specs.Tested.{is_on}
use Rattle.sp_gates.proofs.Growing.{Grows-join}
use Rattle.sp_gates.proofs.Running.{runs_earlier}
use Rattle.sp_core.specs.declared.operation.Op.{Op}
use Rattle.sp_core.specs.Around.{Around, within}
use Rattle.sp_core.specs.NodeRules.{are_counters_right, is_node_right}
use Rattle.sp_core.specs.Numbering.{counters_size}
use Rattle.sp_core.specs.OperationRules.{are_operations_right, is_counter_right}
use Rattle.sp_core.specs.Plain.{plain_ops}
use Rattle.sp_core.specs.PlainCore.{PlainOp, PlainCounter, inner, PlainCore}
use Rattle.sp_pipe.specs.declared.part.Groups.{Groups}
use Rattle.sp_pipe.specs.declared.part.Part.{Part}
use Rattle.sp_pipe.specs.declared.part.PipeOp.{PipeOp}
use Rattle.sp_pipe.specs.Emitted.{driven_of}
use Rattle.sp_pipe.specs.Issues.{IssuesAll, Issues}
use Rattle.sp_plan.specs.PlainPlan.{PlainNodePlan, node_plan}
use Rattle.sp_machine.specs.Timeline.{times_of, interval_of, latency_of}
use Rattle.sp_node_runs.specs.Bodies.{AreTimedOps, IsPaced}
use Rattle.sp_node_runs.specs.BodiesGiven.{with_nets, values_of, AreGivenBy}
use Rattle.sp_node_runs.specs.BodiesLaws.{own_near}
use Rattle.sp_op_nets.specs.declared.acted.ActedList.{ActedList}
use Rattle.sp_op_nets.specs.declared.table.AroundNets.{AroundNets}
use Rattle.sp_op_nets.specs.Acted.{answers_of, answers_in, IsActed}
use Rattle.sp_op_nets.specs.Reserved.{Reserves}
use Rattle.sp_op_nets.specs.Table.{nets_at, StandAround}
use Rattle.sp_op_nets.proofs.Driving.{some_driven}
use Rattle.sp_op_nets.proofs.Giving.{same_give}
use Rattle.sp_op_nets.proofs.Reserving.{reserved_join}
use Rattle.sp_bound_nets.specs.Bounds.{AreCountersRight}
use Rattle.sp_list_circuits.specs.Timed.{AreRightHere, AreTimed}
use Rattle.sp_list_circuits.proofs.Placing as placing
use Rattle.sp_inner_circuits.specs.declared.counting.Counting.{Counting}
use Rattle.sp_inner_circuits.specs.Bodies.{IsPartOf, IsBody}
use Rattle.sp_inner_circuits.specs.Counting.{IsCounting}
use Rattle.sp_inner_circuits.specs.Inner.{IsPlanned, IsInnerRight, IsInner}
use Rattle.sp_inner_circuits.proofs.Single.{ops_right, are_timed}

-- what the rules of a node say of its counters
pub counters_right : (core : PlainCore) (around : Around) (counters : List PlainCounter) (owned : List ℕ) (ops : List PlainOp) (comb : _) → is_node_right core around (inner counters owned ops comb) ≡ true → list_all (is_counter_right core around) counters ≡ true
counters_right core around counters owned ops comb right =
    (and_parts _ (list_all (is_counter_right core around) counters) (and_parts (are_counters_right core around counters) (are_operations_right core (within around counters owned) ops) right).0).1

pub right_counters : (d : Draft) (core : PlainCore) (table : List AroundNets) (counters : List PlainCounter) (ops : List PlainOp) → IsInnerRight d core table counters ops → AreCountersRight d table counters
right_counters d core table counters ops r = record { core = core; around = r.around; right = counters_right core r.around counters r.owned ops r.comb r.right; stand = r.stand }

pub right_inside : (old d : Draft) (core : PlainCore) (table inside : List AroundNets) (counters : List PlainCounter) (ops : List PlainOp) (r : IsInnerRight old core table counters ops) → StandAround d inside (own_near counters r.around.counters)
    → AreRightHere d core inside ops
right_inside old d core table inside counters ops r stand = record { around = within r.around counters r.owned; right = ops_right core r.around counters r.owned ops r.comb r.right; stand = stand }

answers_append : (xs ys : List ActedList) → answers_in (xs ++ ys) ≡ answers_in xs ++ answers_in ys
answers_append [] ys = refl
answers_append (x ∷ xs) ys = ap (λ zs. answers_of x.ops.items ++ zs) (answers_append xs ys) ∙ sym (append_assoc (answers_of x.ops.items) (answers_in xs) (answers_in ys))

-- the net by which counters go on is driven by the body, and what answers is left
pub counted_reserves : (old mid placed new : Draft) (g : Groups) (bounds : List ActedList) (ps : List PipeOp) (groups : _) (own : ActedList) → Reserves old mid (g.step ∷ answers_in bounds) → Reserves mid placed (answers_of ps) → groups ≡ Some g → Fills placed new (driven_of groups)
    → own.ops.items ≡ ps → Reserves old new (answers_in (bounds ++ own ∷ []))
counted_reserves old mid placed new g bounds ps groups own first second is f same =
    let all : Reserves old placed ((g.step ∷ []) ++ (answers_in bounds ++ answers_of ps)) = reserved_join old mid placed (g.step ∷ answers_in bounds) (answers_of ps) first second in
    let step : Fills placed new (g.step ∷ []) = subst (λ x. Fills placed new (driven_of x)) is f in
    let left : Reserves old new (answers_in bounds ++ answers_of ps) = some_driven old placed new (g.step ∷ []) (answers_in bounds ++ answers_of ps) (g.step ∷ []) all step (λ n k. k) (λ n k. k) in
    let rest : answers_in (bounds ++ own ∷ []) ≡ answers_in bounds ++ answers_of ps = answers_append bounds (own ∷ []) ∙ ap (λ zs. answers_in bounds ++ zs) (append-nil (answers_of own.ops.items) ∙ ap answers_of same) in
    subst (Reserves old new) (sym rest) left

module _ (old mid placed new : Draft) (core : PlainCore) (table : List AroundNets) (counters : List PlainCounter) (ops : List Op) (p : PlainNodePlan) (ps : List PipeOp) (number next start : ℕ) (c : Counting) (w : AreTimed placed core c.inside.items ops (times_of p) ps)
    (planned : IsPlanned core (plain_ops ops) p) (f : Grows mid placed) (g : Grows placed new) (counting : IsCounting old mid table number counters start c) (some : 1 ≤ length counters)
    (part : Part) (child : Child) (own : ActedList) (is : IsPartOf p start (Some c.groups) ps part) (body : IsBody new part next child own) (behind : next ≡ number + counters_size counters) where
  issues_all : (q : PlainNodePlan) → q ≡ p → (s : Signals) → RunsOn s new.cells → (st more step : ℕ) → st ≡ start → more ≡ c.groups.more → step ≡ c.groups.step
      → IssuesAll (is_on s st) (is_on s more) (is_on s step) (is_on s body.issue) (is_on s child.done) (interval_of q) (latency_of q)
  issues_all q e s run st more step a b d =
      let all : IssuesAll (is_on s part.start) (is_on s c.groups.more) (is_on s c.groups.step) (is_on s body.issue) (is_on s child.done) part.ii part.latency = subst (λ x. Issues x s part.start body.issue child.done part.ii part.latency) is.grouped (body.issues s run) in
      subst (λ n. IssuesAll (is_on s n) (is_on s more) (is_on s step) (is_on s body.issue) (is_on s child.done) (interval_of q) (latency_of q)) (is.started ∙ sym a)
      (subst (λ n. IssuesAll (is_on s part.start) (is_on s n) (is_on s step) (is_on s body.issue) (is_on s child.done) (interval_of q) (latency_of q)) (sym b)
      (subst (λ n. IssuesAll (is_on s part.start) (is_on s c.groups.more) (is_on s n) (is_on s body.issue) (is_on s child.done) (interval_of q) (latency_of q)) (sym d)
      (subst (λ n. IssuesAll (is_on s part.start) (is_on s c.groups.more) (is_on s c.groups.step) (is_on s body.issue) (is_on s child.done) n (latency_of q)) (is.interval ∙ sym (ap interval_of e))
      (subst (IssuesAll (is_on s part.start) (is_on s c.groups.more) (is_on s c.groups.step) (is_on s body.issue) (is_on s child.done) part.ii) (is.latency ∙ sym (ap latency_of e)) all))))

  pub counted_inner : IsInner old new core table p number counters (plain_ops ops) child (c.acted.items ++ own ∷ [])
  counted_inner = by counters some counting behind
    where
      by : (xs : List PlainCounter) → 1 ≤ length xs → IsCounting old mid table number xs start c → next ≡ number + counters_size xs → IsInner old new core table p number xs (plain_ops ops) child (c.acted.items ++ own ∷ [])
      by [] some counting behind plan k around owned comb at right stand s run = absurd (omega (arith, some))
      by (x ∷ xs) some counting behind plan k around owned comb at right stand s run =
          let here = within around (x ∷ xs) owned in
          let goes = ops_right core around (x ∷ xs) owned (plain_ops ops) comb right in
          let in_run = counting core plan around (counters_right core around (x ∷ xs) owned (plain_ops ops) comb right) stand s (runs_earlier mid new s (Grows-join mid placed new f g) run) in
          let given : AreGivenBy s (own_near (x ∷ xs) around.counters) (nets_at c.inside.items) (plain_ops ops) ps = placing.given placed core c.inside.items ops (times_of p) ps w here goes new g s run in
          record {
            circuit = record {
              draft = new;
              ps = ps;
              issue = body.issue;
              runs_on = run;
              paced = subst (IsPaced core (plain_ops ops)) (sym at) planned.paced;
              timed = subst (λ q. AreTimedOps new (plain_ops ops) ps (slice_index (times_of q))) (sym at) (are_timed placed core c.inside.items ops p ps w planned here goes new g);
              issued = record {
                part = in_run.part;
                nets = in_run.nets;
                start = in_run.started ∙ sym is.started ∙ sym body.start;
                counts = in_run.counts;
                issues = issues_all (node_plan plan k) at s run in_run.part.start in_run.nets.more in_run.part.step in_run.started in_run.more in_run.stepped;
                lanes = in_run.lanes;
                given = same_give s (own_near (x ∷ xs) around.counters) (nets_at c.inside.items) (with_nets (nets_at table) (x ∷ xs) (values_of in_run.nets.counters.items) in_run.nets.masks.items) (plain_ops ops) ps (λ n lane has. in_run.inside.nets n) given;
                draft = in_run.draft;
                runs_on = in_run.runs_on;
                bounds = in_run.bounds.circuits;
              };
            };
            bounds = c.acted.items;
            own = own;
            are = refl;
            of_bounds = in_run.bounds.acts;
            of_own = subst (λ n. IsActed new body.issue n ps own) behind (subst (λ zs. IsActed new body.issue next zs own) is.does body.acted);
          }
