use Rattle.std.proofs.Common.{◌-◌, length, slice_index, sym, ◌∙◌, ap, subst, refl, ◌<◌, ◌^◌}
use Rattle.sp_words.specs.Types.{width_of}
use Rattle.sp_gates.proofs.Growing.{Grows-join, HasNet-stays}
use Rattle.sp_gates.proofs.Running.{runs_earlier}
use Rattle.sp_netlist.specs.Signals.{Signals}
use Rattle.sp_gates.specs.Runs.{RunsOn}
use Rattle.sp_gates.specs.Tested.{is_on}
use Rattle.sp_core.specs.CoreParts.{plain_core}
use Rattle.sp_core.specs.Latency.{latency_of_all}
use Rattle.sp_core.specs.Plain.{plain_ops}
use Rattle.sp_pipe.specs.Acts.{AreActs, HasWord}
use Rattle.sp_pipe.specs.Issues.{IssuesOne}
use Rattle.sp_pipe.specs.Right.{IsTaken, OpsFit}
use Rattle.sp_node_runs.specs.BodiesLists.{turn_time}
use Rattle.sp_op_nets.specs.Acted.{answers_of}
use Rattle.sp_list_circuits.proofs.Placing.{answered_after, answers_stand, fits, reserves_on}
use Rattle.sp_list_circuits.proofs.Turning.{right_of, some_there, turns_leave, taken, in_turns}
use Rattle.sp_list_circuits.proofs.turns.emit_turns.Goals as goal

pub emit_list-requires-clause-fits : goal.emit_list-requires-clause-fits
emit_list-requires-clause-fits c =
    let r = c.requires.right in
    let core = plain_core c.args.core.now in
    let ops = plain_ops c.args.ops.now in
    let right = (right_of core r.around ops c.args.ty r.right).0 in
    let small : latency_of_all core ops < 2 ^ 32 = subst (λ n. n < 2 ^ 32) c.in_ok-turns.ensures.all c.in_ok-turns.ensures.small in
    let times = c.deref.ensures.value in
    subst (OpsFit c.issue_list.new.builder) (sym c.deref-2.ensures.value)
    (fits c.timed_ops.new.builder core c.args.around.now c.args.ops.now c.deref.result.now c.in_ok-placed.placed.items c.in_ok-placed.ensures.timed r.around right c.issue_list.new.builder c.in_ok-nets.ensures.fills.grows
    (turn_time core ops) (λ k lt. ap (λ xs. slice_index xs k) times ∙ c.in_ok-turns.ensures.times k lt) (turns_leave core r.around ops right small))

pub emit_list-requires-clause-taken : goal.emit_list-requires-clause-taken
emit_list-requires-clause-taken c =
    let r = c.requires.right in
    let core = plain_core c.args.core.now in
    let ops = plain_ops c.args.ops.now in
    let both = right_of core r.around ops c.args.ty r.right in
    let small : latency_of_all core ops < 2 ^ 32 = subst (λ n. n < 2 ^ 32) c.in_ok-turns.ensures.all c.in_ok-turns.ensures.small in
    subst (λ ps. IsTaken ps (length c.args.ops.now - 1) c.width.result c.in_ok-turns.turns.all) (sym c.deref-2.ensures.value)
    (subst (λ n. IsTaken c.in_ok-placed.placed.items (length c.args.ops.now - 1) n c.in_ok-turns.turns.all) (sym c.width.ensures.value)
    (subst (IsTaken c.in_ok-placed.placed.items (length c.args.ops.now - 1) (width_of c.args.ty)) (sym c.in_ok-turns.ensures.all)
    (taken c.timed_ops.new.builder core c.args.around.now c.args.ops.now c.deref.result.now c.in_ok-placed.placed.items c.in_ok-placed.ensures.timed
    (λ k lt. ap (λ xs. slice_index xs k) c.deref.ensures.value ∙ c.in_ok-turns.ensures.times k lt) small c.args.ty both.1 (length c.args.ops.now - 1) (some_there c.args.ops.now c.args.ty both.1) r.around both.0)))

pub returns-clause-reserves : goal.returns-clause-reserves
returns-clause-reserves c = reserves_on _ _ _ _ (answers_of c.in_ok-placed.placed.items) c.in_ok-placed.ensures.reserves c.in_ok-nets.ensures.fills c.in_ok-list.ensures.fills

pub returns-clause-done : goal.returns-clause-done
returns-clause-done c = HasNet-stays _ _ _ _ c.in_ok-list.ensures.fills.grows c.in_ok-nets.ensures.done

pub returns-clause-turns : goal.returns-clause-turns
returns-clause-turns c =
    let r = c.requires.right in
    let core = plain_core c.args.core.now in
    let ops = plain_ops c.args.ops.now in
    let ps = c.in_ok-placed.placed.items in
    let new = c.emit_list.new.builder in
    let nets = c.in_ok-nets.nets in
    let last = length c.args.ops.now - 1 in
    let both = right_of core r.around ops c.args.ty r.right in
    let all = c.in_ok-turns.ensures.all in
    let small : latency_of_all core ops < 2 ^ 32 = subst (λ n. n < 2 ^ 32) all c.in_ok-turns.ensures.small in
    let grown = c.in_ok-list.ensures.fills.grows in
    let issues = λ (s : Signals) (run : RunsOn s new.cells). subst (IssuesOne (is_on s c.args.start) (is_on s nets.issue) (is_on s nets.done)) all (c.in_ok-nets.ensures.issues s (runs_earlier _ _ s grown run)) in
    let word = subst (λ n. HasWord new c.in_ok-list.list.word n ps last) all (subst (λ xs. HasWord new c.in_ok-list.list.word c.in_ok-turns.turns.all xs last) c.deref-2.ensures.value c.in_ok-list.ensures.word) in
    let acts = subst (λ xs. AreActs new nets.issue xs xs c.in_ok-list.list.nets.items) c.deref-2.ensures.value c.in_ok-list.ensures.acts in
    in_turns c.timed_ops.new.builder core c.args.around.now c.args.ops.now c.deref.result.now ps c.in_ok-placed.ensures.timed (λ k lt. ap (λ xs. slice_index xs k) c.deref.ensures.value ∙ c.in_ok-turns.ensures.times k lt) small c.args.ty both.1
    last (some_there c.args.ops.now c.args.ty both.1) c.args.builder.now new c.args.number nets.issue c.in_ok-list.list.word (record { start = c.args.start; done = nets.done }) _ (Grows-join _ _ _ c.in_ok-nets.ensures.fills.grows grown) issues word refl
    refl acts

pub returns-clause-acted : goal.returns-clause-acted
returns-clause-acted c =
    let acts = subst (λ xs. AreActs c.emit_list.new.builder c.in_ok-nets.nets.issue xs xs c.in_ok-list.list.nets.items) c.deref-2.ensures.value c.in_ok-list.ensures.acts in
    record {
      issue = c.in_ok-nets.nets.issue;
      net = HasNet-stays _ _ _ _ c.in_ok-list.ensures.fills.grows c.in_ok-nets.ensures.issue;
      ops_of = c.in_ok-placed.ensures.timed.placed.ops_of;
      acts = record { first = refl; ops = refl; acts = acts };
      answers =
          answers_stand c.timed_ops.new.builder (plain_core c.args.core.now) c.args.around.now c.args.ops.now c.deref.result.now c.in_ok-placed.placed.items c.in_ok-placed.ensures.timed c.emit_list.new.builder
          (Grows-join _ _ _ c.in_ok-nets.ensures.fills.grows c.in_ok-list.ensures.fills.grows);
      after = answered_after c.timed_ops.new.builder (plain_core c.args.core.now) c.args.around.now c.args.ops.now c.deref.result.now c.in_ok-placed.placed.items c.in_ok-placed.ensures.timed;
    }
