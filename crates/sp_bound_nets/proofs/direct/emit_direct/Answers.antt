use Rattle.std.proofs.Common.{◌-◌, length, sym, subst, refl}
use Rattle.sp_gates.proofs.Growing.{Grows-join, IsOne-stays}
use Rattle.sp_core.specs.Plain.{plain_ops}
use Rattle.sp_pipe.specs.Acts.{AreActs, HasWord}
use Rattle.sp_pipe.specs.Right.{IsTaken, OpsFit}
use Rattle.sp_op_nets.specs.Acted.{answers_of}
use Rattle.sp_op_nets.proofs.Answering.{have_nets, come_after}
use Rattle.sp_bound_nets.proofs.Standing.{fits, is_direct, reserves_on, right_of, some_there, taken}
use Rattle.sp_bound_nets.proofs.direct.emit_direct.Goals as goal

pub emit_list-requires-clause-fits : goal.emit_list-requires-clause-fits
emit_list-requires-clause-fits c =
    let r = c.requires.right in
    subst (OpsFit c.one.new.builder) (sym c.deref.ensures.value)
    (fits c.ops_at_once.new.builder c.args.around.now c.args.ops.now c.in_ok-placed.placed.items c.in_ok-placed.ensures.placed r.core r.around (right_of r.core r.around (plain_ops c.args.ops.now) r.right).0 c.one.new.builder
    c.in_ok-always.ensures.fills.grows)

pub emit_list-requires-clause-taken : goal.emit_list-requires-clause-taken
emit_list-requires-clause-taken c =
    let r = c.requires.right in
    let gives = (right_of r.core r.around (plain_ops c.args.ops.now) r.right).1 in
    subst (λ ps. IsTaken ps (length c.args.ops.now - 1) 32 0) (sym c.deref.ensures.value)
    (taken c.ops_at_once.new.builder c.args.around.now c.args.ops.now c.in_ok-placed.placed.items c.in_ok-placed.ensures.placed gives (length c.args.ops.now - 1) (some_there c.args.ops.now gives))

pub returns-clause-reserves : goal.returns-clause-reserves
returns-clause-reserves c = reserves_on _ _ _ _ (answers_of c.in_ok-placed.placed.items) c.in_ok-placed.ensures.reserves c.in_ok-always.ensures.fills c.in_ok-list.ensures.fills

pub returns-clause-acted : goal.returns-clause-acted
returns-clause-acted c =
    let mid = c.ops_at_once.new.builder in
    let w = c.in_ok-placed.ensures.placed in
    let new = c.emit_list.new.builder in
    let grown = c.in_ok-list.ensures.fills.grows in
    let acts = subst (λ ps. AreActs new c.in_ok-always.always ps ps c.in_ok-list.list.nets.items) c.deref.ensures.value c.in_ok-list.ensures.acts in
    record {
      ops_of = c.in_ok-placed.ensures.placed.placed.ops_of;
      acts = record {
        issue = c.in_ok-always.always;
        always = IsOne-stays c.one.new.builder new c.in_ok-always.always grown c.in_ok-always.ensures.one;
        acted = record { first = refl; ops = refl; acts = acts };
      };
      answers = have_nets mid new c.args.around.now c.args.ops.now w.zeros w.zeros w.nets c.in_ok-placed.placed.items w.nets_of w.placed (Grows-join mid c.one.new.builder new c.in_ok-always.ensures.fills.grows grown);
      at_once = come_after mid c.args.around.now c.args.ops.now w.zeros w.zeros w.nets c.in_ok-placed.placed.items (λ op. 0) w.nets_of w.placed (λ k op there. w.each_zero k);
    }

pub returns-clause-direct : goal.returns-clause-direct
returns-clause-direct c =
    let r = c.requires.right in
    let gives = (right_of r.core r.around (plain_ops c.args.ops.now) r.right).1 in
    let mid = c.ops_at_once.new.builder in
    let new = c.emit_list.new.builder in
    let grown = c.in_ok-list.ensures.fills.grows in
    let word = subst (λ ps. HasWord new c.in_ok-list.list.word 0 ps (length c.args.ops.now - 1)) c.deref.ensures.value c.in_ok-list.ensures.word in
    let acts = subst (λ ps. AreActs new c.in_ok-always.always ps ps c.in_ok-list.list.nets.items) c.deref.ensures.value c.in_ok-list.ensures.acts in
    is_direct mid c.args.around.now c.args.ops.now c.in_ok-placed.placed.items c.in_ok-placed.ensures.placed c.args.builder.now new c.args.number c.in_ok-list.list.word c.in_ok-always.always (length c.args.ops.now - 1) _ gives
    (some_there c.args.ops.now gives) (Grows-join mid c.one.new.builder new c.in_ok-always.ensures.fills.grows grown) word (IsOne-stays c.one.new.builder new c.in_ok-always.always grown c.in_ok-always.ensures.one) refl refl acts
