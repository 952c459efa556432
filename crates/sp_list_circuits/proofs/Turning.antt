-- A list of operations that are done one after the other, in each run.
use Rattle.std.proofs.Common.{◌≡◌, ℕ, zero, suc, ◌-◌, ◌<◌, ◌≤◌, ◌^◌, true, IsTrue, List, [], ◌∷◌, length, slice_index, refl, sym, ◌∙◌, ap, arith}
use Rattle.std.proofs.lemmas.Bool.{and_parts}
use Rattle.std.proofs.lemmas.List.{length-map}
use Rattle.sp_words.specs.declared.types.Ty.{Ty}
use Rattle.sp_words.specs.Types.{width_of}
use Rattle.sp_netlist.specs.declared.parts.Child.{Child}
use Rattle.sp_netlist.specs.Draft.{Draft}
use Rattle.sp_netlist.specs.Signals.{Signals}
use Rattle.sp_gates.specs.Grows.{Grows}
use Rattle.sp_gates.specs.Runs.{RunsOn}
use Rattle.sp_gates.specs.Tested.{is_on}
use Rattle.sp_gates.proofs.Growing.{Grows-same}
use Rattle.sp_core.specs.declared.operation.Op.{Op}
use Rattle.sp_core.specs.Around.{Around}
use Rattle.sp_core.specs.Latency.{latency, latency_of_all}
use Rattle.sp_core.specs.OperationRules.{are_operations_right, is_word_list}
use Rattle.sp_core.specs.Plain.{plain_op, plain_ops}
use Rattle.sp_core.specs.PlainCore.{PlainOp, PlainCore}
use Rattle.sp_core.specs.Typed.{last_gives}
use Rattle.sp_pipe.specs.declared.part.PipeOp.{PipeOp}
use Rattle.sp_pipe.specs.Acts.{AreActs, HasWord}
use Rattle.sp_pipe.specs.Issues.{IssuesOne}
use Rattle.sp_pipe.specs.Right.{IsAt, IsTaken}
use Rattle.sp_pipe.specs.Values.{gives_word, given_width, time_of}
use Rattle.sp_circuit_ops.specs.Fitting.{LeaveTime}
use Rattle.sp_circuit_ops.proofs.Typing.{gives_there, stands_within}
use Rattle.sp_node_runs.specs.BodiesLists.{turn_time}
use Rattle.sp_op_nets.specs.declared.acted.ActedList.{ActedList}
use Rattle.sp_op_nets.specs.declared.table.AroundNets.{AroundNets}
use Rattle.sp_list_circuits.specs.Timed.{AreRightHere, AreTimed}
use Rattle.sp_list_circuits.specs.Turns.{IsWordRight, IsInTurns}
use Rattle.sp_list_circuits.proofs.Placing.{each, of_place, stands, given, at_time, timed_ops}
use Rattle.sp_list_circuits.proofs.Rules.{used_before, last_there, some_ops}
use Rattle.sp_list_circuits.proofs.Summing.{before_time, before_all}

-- what keeps its rules and gives a word, keeps its rules
pub right_of : (core : PlainCore) (around : Around) (ops : List PlainOp) (ty : Ty) → is_word_list core around ops ty ≡ true → (are_operations_right core around ops ≡ true) × (last_gives ops ty ≡ true)
right_of core around ops ty e = and_parts (are_operations_right core around ops) (last_gives ops ty) e

pub right_here : (d : Draft) (core : PlainCore) (table : List AroundNets) (ops : List PlainOp) (ty : Ty) → IsWordRight d core table ops ty → AreRightHere d core table ops
right_here d core table ops ty r = record { around = r.around; right = (right_of core r.around ops ty r.right).0; stand = r.stand }

pub some_there : (ops : List Op) (ty : Ty) → last_gives (plain_ops ops) ty ≡ true → suc (length ops - 1) ≡ length ops
some_there ops ty e = (let l = some_ops (plain_ops ops) ty e in let m = length-map ops plain_op in omega (arith, l, m))

pub turns_leave : (core : PlainCore) (around : Around) (ops : List PlainOp) → are_operations_right core around ops ≡ true → latency_of_all core ops < 2 ^ 32 → LeaveTime core ops (turn_time core ops)
turns_leave core around ops right small = record {
  uses = λ k i op used at before takes. before_time core ops i k used before (used_before core around ops right k i op at takes);
  small = λ k op at. (let l = before_all core ops k op at in omega (arith, l, small));
}

pipe_there : (ps : List PipeOp) (k : ℕ) → k < length ps → (p : PipeOp) × IsAt ps k p
pipe_there [] k lt = absurd (omega (arith, lt))
pipe_there (p ∷ ps) zero lt = (p, record { within = lt; is = λ o. refl })
pipe_there (p ∷ ps) (suc k) lt = (let r = pipe_there ps k (omega (arith, lt)) in (r.0, record { within = lt; is = r.1.is }))

module _ (mid : Draft) (core : PlainCore) (table : List AroundNets) (ops : List Op) (times : List ℕ) (ps : List PipeOp) (w : AreTimed mid core table ops times ps)
    (timed : (k : ℕ) → k < length ops → slice_index times k ≡ turn_time core (plain_ops ops) k) (small : latency_of_all core (plain_ops ops) < 2 ^ 32) (ty : Ty) (gives_it : last_gives (plain_ops ops) ty ≡ true) (k : ℕ) (last : suc k ≡ length ops) where
  last_plain : suc k ≡ length (plain_ops ops)
  last_plain = last ∙ sym (length-map ops plain_op)

  gives_at : (p : PipeOp) → IsAt ps k p → IsTrue (gives_word p.act) × (given_width p.act p.ty ≡ width_of ty)
  gives_at p at =
      let o = of_place mid core table ops times ps w k p at in
      let g = gives_there o.0.kind p.act o.0.ty ty o.2.kinds (last_there (plain_ops ops) ty gives_it k last_plain o.0 o.1) in
      (g.0, ap (given_width p.act) o.2.types ∙ g.1)

  module _ (around : Around) (right : are_operations_right core around (plain_ops ops) ≡ true) where
    leave : LeaveTime core (plain_ops ops) (turn_time core (plain_ops ops))
    leave = turns_leave core around (plain_ops ops) right small

    in_time : (p : PipeOp) → IsAt ps k p → time_of p.act p.mask p.time ≤ latency_of_all core (plain_ops ops)
    in_time p at =
        let o = of_place mid core table ops times ps w k p at in
        let fit = stands mid core table ops times ps w around right mid (Grows-same mid) k o.0 p o.1 at in
        let most = stands_within p.act p.mask p.time (latency core o.0) fit.early in
        let when = at_time mid core table ops times ps w around right mid (Grows-same mid) (turn_time core (plain_ops ops)) timed leave k p at in
        let over = before_all core (plain_ops ops) k o.0 o.1 in omega (arith, most, when, over)

    pub taken : IsTaken ps k (width_of ty) (latency_of_all core (plain_ops ops))
    taken =
        let p = pipe_there ps k (let e = each mid core table ops times ps w in omega (arith, e, last)) in
        let g = gives_at p.0 p.1 in
        record { op = p.0; at = p.1; gives = g.0; wide = g.1; in_time = in_time p.0 p.1 }

  module _ (old new : Draft) (number issue word : ℕ) (child : Child) (a : ActedList) (grows : Grows mid new)
      (issues : (s : Signals) → RunsOn s new.cells → IssuesOne (is_on s child.start) (is_on s issue) (is_on s child.done) (latency_of_all core (plain_ops ops)))
      (has : HasWord new word (latency_of_all core (plain_ops ops)) ps k) (first : a.number ≡ number) (same : a.ops.items ≡ ps) (acts : AreActs new issue ps ps a.nets.items) where
    pub in_turns : IsInTurns old new core table number (plain_ops ops) child word a
    in_turns plan around right stand s run = record {
      circuit = record {
        draft = new;
        ps = ps;
        issue = issue;
        runs_on = run;
        issues = issues s run;
        timed = timed_ops mid core table ops times ps w around right new grows (turn_time core (plain_ops ops)) timed (leave around right);
        given = given mid core table ops times ps w around right new grows s run;
        place = k;
        is_last = last_plain;
        gives = λ p at. (gives_at p at).0;
        in_time = in_time around right;
        has_word = has;
      };
      acted = record { first = first; ops = same; acts = acts };
    }
