use Rattle.std.proofs.Common.{◌≡◌, eq-eqb, ne_eqb, ◌+◌, ◌∷◌, [], map, length, take, drop, true, false, refl, sym, ◌∙◌, ap, subst, rules, arith, length-take-le}
use Rattle.std.specs.Prelude.{◌==◌, IfOk, Ok}
use Rattle.sp_words.specs.Words.{IsWord}
use Rattle.std.proofs.lemmas.List.{length-map}
use Rattle.sp_words.specs.declared.kind.Style.TheVariants.{Stream, Pipe, Sequential, Parallel}
use Rattle.sp_tree.specs.declared.statement.Ctl.{the_lemmas}
use Rattle.sp_tree.specs.Plain.{plain_expr, plain_exprs, plain_mem}
use Rattle.sp_tree.specs.PlainStatement as plain
use Rattle.sp_tree.specs.PlainTree.{plain_counter, plain_ctl, plain_span, plain_stmt_kind, plain_stmts}
use Rattle.sp_tree.specs.Sequential.{run_all, combining}
use Rattle.sp_tree.specs.Shape.{looped, turned, shapes}
use Rattle.sp_tree.specs.Step.{turn}
use Rattle.sp_tree.specs.Typing.{after_all}
use Rattle.sp_seq.specs.Controlling.{Runs, fsm_turn}
use Rattle.sp_seq.specs.Looping.{current, values, left_if, word_combined, part_combined}
use Rattle.sp_seq.specs.Running.{CanRun}
use Rattle.sp_seq.specs.States.{store_of}
use Rattle.sp_seq.proofs.ArmLemmas.{body_size, ctl_size, reduce_falls, mem_reduce_falls, fsm_falls, then_falls, else_falls, block_stops, block_ends, block_body, pipe_end, sequential_end, parallel_end, stream_end, branch_stops, branch_then, branch_else, then_can, else_can}
use Rattle.sp_seq.proofs.BodyLemmas.{body_start, body_spent, body_can, body_halted, body_more}
use Rattle.sp_seq.proofs.ControlLemmas.{at_next, at_end, no_more_left, fewer_left, round_counts, round_body, round_goes, foreach_loop, reduce_loop, mem_reduce_loop, foreach_stops, foreach_next, combine_stops, combine_stops_later, combine_next, loop_begins, combine_begins, turn_named, turn_body, turn_name, turn_outer, test_of}
use Rattle.sp_seq.proofs.DigitLemmas.{starts_inside}
use Rattle.sp_seq.proofs.FsmLemmas.{fsm_start, fsm_untested, fsm_over, fsm_halted, fsm_more}
use Rattle.sp_seq.proofs.RoundLemmas.{foreach_step, foreach_unranged, foreach_stopped, foreach_done, combine_step, reduce_unranged, reduce_stopped, reduce_done, mem_reduce_unranged, mem_reduce_stopped, mem_reduce_done, loop_over}
use Rattle.sp_seq.proofs.RunningLemmas.{finished_stop, stands_kept}
use Rattle.sp_seq.proofs.ScopeLemmas.{stands_on}
use Rattle.sp_seq.proofs.SeesLemmas.{sees_later}
use Rattle.sp_seq.proofs.StepLemmas.{bind_halted}
use Rattle.sp_seq.proofs.TreeLemmas.{block_is, foreach_is, reduce_is, mem_reduce_is, fsm_is, branch_is}
use Rattle.sp_seq.proofs.TurnLemmas.{finished_with_stop, not_ok, no_turn, turn_halts, body_halts, turn_ends, turn_taken, test_halts, test_goes, fsm_unstarted, fsm_stopped, fsm_done, fsm_test, fsm_can, reduce_combines, mem_reduce_combines}
use Rattle.sp_seq.proofs.state.State.+running.Goals as goal

pub body-loop-s-init : goal.body-loop-s-init
body-loop-s-init t c = λ can. body_start (map plain_mem c.args.decls.now) (plain_stmts c.args.body.now) c.args.self.now can

pub body-statement-requires : goal.body-statement-requires
body-statement-requires t c =
    let a = c.args in
    let mems = map plain_mem a.decls.now in
    let can = c.requires in
    let s = a.self.now in
    let now = c.loop-s.self in
    let k = c.loop-s.s-index in
    let x = c.s-item.result in
    let next = at_next mems can.setting.roomy (after_all can.setting.scope (plain_stmts a.body.now)) (run_all mems can.setting.roomy (plain_stmts a.body.now) s.left (store_of s)) s now a.body.now k x c.loop-s-test.true c.s-item.is (c.loop-s.invariant can) in
    (search (rules, the_lemmas), body_can mems can.setting.roomy _ _ s now x.at (plain_stmt_kind x.kind) (plain_stmts (drop (k + 1) a.body.now)) next c.turn.new.self c.in_ok-turn.ensures.keeps)

pub body-returns-in_err-turn : goal.body-returns-in_err-turn
body-returns-in_err-turn t c = λ can.
    let a = c.args in
    let mems = map plain_mem a.decls.now in
    let s = a.self.now in
    let now = c.loop-s.self in
    let k = c.loop-s.s-index in
    let x = c.s-item.result in
    let whole = run_all mems can.setting.roomy (plain_stmts a.body.now) s.left (store_of s) in
    let next = at_next mems can.setting.roomy (after_all can.setting.scope (plain_stmts a.body.now)) whole s now a.body.now k x c.loop-s-test.true c.s-item.is (c.loop-s.invariant can) in
    finished_stop mems can.setting.roomy _ s whole _ _ c.in_err-turn.field-0.0 c.from_residual.ensures.1
    (body_spent mems can.setting.roomy _ whole s now x.at (plain_stmt_kind x.kind) (plain_stmts (drop (k + 1) a.body.now)) next c.in_err-turn.field-0.0 c.in_err-turn.ensures.ran)

pub body-returns-in_err-statement : goal.body-returns-in_err-statement
body-returns-in_err-statement t c = λ can.
    let a = c.args in
    let mems = map plain_mem a.decls.now in
    let s = a.self.now in
    let now = c.loop-s.self in
    let k = c.loop-s.s-index in
    let x = c.s-item.result in
    let whole = run_all mems can.setting.roomy (plain_stmts a.body.now) s.left (store_of s) in
    let next = at_next mems can.setting.roomy (after_all can.setting.scope (plain_stmts a.body.now)) whole s now a.body.now k x c.loop-s-test.true c.s-item.is (c.loop-s.invariant can) in
    finished_stop mems can.setting.roomy _ s whole _ _ c.in_err-statement.field-0.0 c.from_residual-in_err-statement.ensures.1
    (body_halted mems can.setting.roomy _ whole s now x.at (plain_stmt_kind x.kind) (plain_stmts (drop (k + 1) a.body.now)) next c.turn.new.self c.in_ok-turn.ensures.keeps c.in_ok-turn.ensures.ran c.in_err-statement.field-0.0 c.statement.new.self c.in_err-statement.ensures)

pub body-loop-s-preserved : goal.body-loop-s-preserved
body-loop-s-preserved t c = λ can.
    let a = c.args in
    let mems = map plain_mem a.decls.now in
    let s = a.self.now in
    let now = c.loop-s.self in
    let k = c.loop-s.s-index in
    let x = c.s-item.result in
    let whole = run_all mems can.setting.roomy (plain_stmts a.body.now) s.left (store_of s) in
    let next = at_next mems can.setting.roomy (after_all can.setting.scope (plain_stmts a.body.now)) whole s now a.body.now k x c.loop-s-test.true c.s-item.is (c.loop-s.invariant can) in
    body_more mems can.setting.roomy _ whole s now x.at (plain_stmt_kind x.kind) (plain_stmts (drop (k + 1) a.body.now)) next c.turn.new.self c.in_ok-turn.ensures.keeps c.in_ok-turn.ensures.ran c.statement.new.self c.in_ok-statement.ensures

pub body-returns : goal.body-returns
body-returns t c = λ can.
    let a = c.args in
    let mems = map plain_mem a.decls.now in
    let s = a.self.now in
    at_end mems can.setting.roomy (after_all can.setting.scope (plain_stmts a.body.now)) (run_all mems can.setting.roomy (plain_stmts a.body.now) s.left (store_of s)) s c.loop-s.self a.body.now c.loop-s.s-index (omega arith) (c.loop-s.invariant can)

pub round-returns-in_err-turn-clause-ran : goal.round-returns-in_err-turn-clause-ran
round-returns-in_err-turn-clause-ran t c = λ can.
    let a = c.args in
    let mems = map plain_mem a.decls.now in
    let s = a.self.now in
    finished_stop mems can.setting.roomy _ s _ _ _ c.in_err-turn.field-0.0 c.from_residual.ensures.1
    (bind_halted turn _ s.left (store_of s) c.in_err-turn.field-0.0 c.in_err-turn.ensures.ran)

pub round-count_all-requires : goal.round-count_all-requires
round-count_all-requires t c =
    let a = c.args in
    let mems = map plain_mem a.decls.now in
    let s = a.self.now in
    let counters = map plain_counter a.counters.now in
    let body = plain_stmts a.body.now in
    record { each = c.requires.each; digits = c.requires.digits; inside = round_counts mems counters body s c.requires.can c.turn.new.self c.in_ok-turn.ensures.keeps }

pub round-body-requires : goal.round-body-requires
round-body-requires t c =
    let a = c.args in
    let mems = map plain_mem a.decls.now in
    let s = a.self.now in
    let counters = map plain_counter a.counters.now in
    let body = plain_stmts a.body.now in
    let can = c.requires.can in
    let u = c.turn.new.self in
    let v = c.count_all.new.self in
    let st = c.count_all.ensures.stands mems can.setting.roomy can.setting.scope (sees_later can.setting.sees c.in_ok-turn.ensures.keeps) in
    (search (rules, the_lemmas), round_body mems counters body s can u v c.in_ok-turn.ensures.keeps st)

pub round-returns : goal.round-returns
round-returns t c =
    let a = c.args in
    let mems = map plain_mem a.decls.now in
    let s = a.self.now in
    let counters = map plain_counter a.counters.now in
    let body = plain_stmts a.body.now in
    let u = c.turn.new.self in
    let v = c.count_all.new.self in
    let w = c.body.new.self in
    let first = c.requires.can in
    let kept = c.count_all.ensures.stands mems first.setting.roomy first.setting.scope (sees_later first.setting.sees c.in_ok-turn.ensures.keeps) in
    record {
      ran = λ can.
          let st = c.count_all.ensures.stands mems can.setting.roomy can.setting.scope (sees_later can.setting.sees c.in_ok-turn.ensures.keeps) in
          round_goes mems counters body s can u v c.in_ok-turn.ensures.keeps st (current a.digits.now) c.in_ok-turn.ensures.ran c.count_all.ensures.ran c.body.result w (c.body.ensures (round_body mems counters body s can u v c.in_ok-turn.ensures.keeps st));
      taken = fewer_left s.left v.left w.left c.body.result (omega (arith, c.in_ok-turn.ensures.taken, c.count_all.ensures.left))
          (no_more_left mems first.setting.roomy _ v w _ c.body.result (c.body.ensures (round_body mems counters body s first u v c.in_ok-turn.ensures.keeps kept)));
    }

pub foreach-ranges-requires : goal.foreach-ranges-requires
foreach-ranges-requires t c =
    let a = c.args in
    let can = c.requires.1 in
    record { few = omega (arith, can.typed.1.one_to_four.1, length-map a.counters.now plain_counter); can = record { setting = can.setting; typed = can.typed.1.bounds } }

pub foreach-returns-in_err-ranges : goal.foreach-returns-in_err-ranges
foreach-returns-in_err-ranges t c = λ style at can.
    let a = c.args in
    let mems = map plain_mem a.decls.now in
    let s = a.self.now in
    let counters = map plain_counter a.counters.now in
    let body = plain_stmts a.body.now in
    finished_stop mems can.setting.roomy _ s _ _ _ c.in_err-ranges.field-0.0 c.from_residual.ensures.1 (foreach_unranged mems can.setting.roomy counters body style at s.left (store_of s) c.in_err-ranges.field-0.0 c.in_err-ranges.ensures.ran)

pub foreach-rounds-init : goal.foreach-rounds-init
foreach-rounds-init t c =
    let a = c.args in
    let mems = map plain_mem a.decls.now in
    let s = a.self.now in
    let counters = map plain_counter a.counters.now in
    let body = plain_stmts a.body.now in
    let begun = c.ranges-2.new.self in
    let n = length a.counters.now in
    let first = take n c.ranges-2.new.digits in
    record {
      going = λ style can. loop_begins (foreach_step mems can.setting.roomy counters body) mems can.setting.roomy can.setting.scope s begun first c.in_ok-ranges.ensures.starts c.have_words-more.result c.have_words-more.ensures (stands_kept can.setting.sees c.in_ok-ranges.ensures.keeps);
      good = λ e. starts_inside first c.in_ok-ranges.ensures.starts (sym c.have_words-more.ensures ∙ e);
      same = refl;
    }

pub foreach-round-requires : goal.foreach-round-requires
foreach-round-requires t c =
    let a = c.args in
    let n = length a.counters.now in
    let first = take n c.ranges-2.new.digits in
    let style = c.requires.0 in
    let can = c.requires.1 in
    let inv = c.rounds.invariant in
    let few = can.typed.1.one_to_four.1 in
    let wide : length first ≡ n = length-take-le n c.ranges-2.new.digits (omega (arith, few, length-map a.counters.now plain_counter)) in
    (search (rules, the_lemmas), (foreach_loop style can (inv.going style can).stands, (inv.same ∙ wide, inv.good c.rounds-test.true)))

pub foreach-returns-in_err-round : goal.foreach-returns-in_err-round
foreach-returns-in_err-round t c = λ style at can.
    let a = c.args in
    let mems = map plain_mem a.decls.now in
    let s = a.self.now in
    let counters = map plain_counter a.counters.now in
    let body = plain_stmts a.body.now in
    let begun = c.ranges-2.new.self in
    let n = length a.counters.now in
    let first = take n c.ranges-2.new.digits in
    let now = c.rounds.self in
    let g = c.rounds.invariant.going style can in
    finished_stop mems can.setting.roomy _ s _ _ _ c.in_err-round.field-0.0 c.from_residual-in_err-round.ensures.1
    (foreach_stopped mems can.setting.roomy counters body style at s.left (store_of s) (map values first) begun.left (store_of begun) c.in_ok-ranges.ensures.ran c.in_err-round.field-0.0 (foreach_stops mems counters body can.setting.roomy can.setting.scope s now c.rounds.digits c.rounds.more c.rounds-test.true _ g c.in_err-round.field-0.0 (c.in_err-round.ensures.ran (foreach_loop style can g.stands))))

pub foreach-rounds-preserved : goal.foreach-rounds-preserved
foreach-rounds-preserved t c =
    let a = c.args in
    let mems = map plain_mem a.decls.now in
    let s = a.self.now in
    let counters = map plain_counter a.counters.now in
    let body = plain_stmts a.body.now in
    let now = c.rounds.self in
    record {
      going = λ style can. let g = c.rounds.invariant.going style can in foreach_next mems counters body can.setting.roomy can.setting.scope s now c.rounds.digits c.rounds.more c.rounds-test.true _ g c.advance-more.result c.advance-more.new.digits c.advance-more.ensures.left c.round.new.self (c.in_ok-round.ensures.ran (foreach_loop style can g.stands));
      good = λ e. c.advance-more.ensures.digits;
      same = c.advance-more.auto.digits ∙ c.rounds.invariant.same;
    }

pub foreach-rounds-smaller : goal.foreach-rounds-smaller
foreach-rounds-smaller t c = c.in_ok-round.ensures.taken

pub foreach-returns : goal.foreach-returns
foreach-returns t c = λ style at can.
    let a = c.args in
    let mems = map plain_mem a.decls.now in
    let s = a.self.now in
    let counters = map plain_counter a.counters.now in
    let body = plain_stmts a.body.now in
    let begun = c.ranges-2.new.self in
    let n = length a.counters.now in
    let first = take n c.ranges-2.new.digits in
    let now = c.rounds.self in
    let g = c.rounds.invariant.going style can in
    (looped (map length (map values first)) (shapes g.done) ∷ [], foreach_done mems can.setting.roomy counters body style at s.left (store_of s) (map values first) begun.left (store_of begun) c.in_ok-ranges.ensures.ran g.done now.left (store_of now) (loop_over (foreach_step mems can.setting.roomy counters body) mems can.setting.roomy can.setting.scope _ s now _ g (ap (λ b. left_if b c.rounds.digits) c.rounds-test.false)), g.stands)

pub reduce-ranges-requires : goal.reduce-ranges-requires
reduce-ranges-requires t c =
    let a = c.args in
    let can = c.requires.1 in
    record { few = omega (arith, can.typed.1.one_to_four.1, length-map a.counters.now plain_counter); can = record { setting = can.setting; typed = can.typed.1.bounds } }

pub reduce-returns-in_err-ranges : goal.reduce-returns-in_err-ranges
reduce-returns-in_err-ranges t c = λ style can.
    let a = c.args in
    let mems = map plain_mem a.decls.now in
    let s = a.self.now in
    let counters = map plain_counter a.counters.now in
    let body = plain_stmts a.body.now in
    finished_stop mems can.setting.roomy _ s _ _ _ c.in_err-ranges.field-0.0 c.from_residual.ensures.1 (reduce_unranged mems can.setting.roomy counters body a.into.at a.into.acc a.into.comb style s.left (store_of s) a.fold (plain_expr a.value.now) c.in_err-ranges.field-0.0 c.in_err-ranges.ensures.ran)

pub reduce-rounds-init : goal.reduce-rounds-init
reduce-rounds-init t c =
    let a = c.args in
    let mems = map plain_mem a.decls.now in
    let s = a.self.now in
    let counters = map plain_counter a.counters.now in
    let body = plain_stmts a.body.now in
    let begun = c.ranges-2.new.self in
    let n = length a.counters.now in
    let first = take n c.ranges-2.new.digits in
    record {
      going = λ style can. combine_begins (combine_step mems can.setting.roomy counters body (word_combined mems a.into.comb a.into.acc a.into.at (plain_expr a.value.now))) mems can.setting.roomy can.setting.scope s begun first c.in_ok-ranges.ensures.starts c.have_words-more.result c.have_words-more.ensures a.fold (stands_kept can.setting.sees c.in_ok-ranges.ensures.keeps);
      good = λ e. starts_inside first c.in_ok-ranges.ensures.starts (sym c.have_words-more.ensures ∙ e);
      same = refl;
    }

pub reduce-round-requires : goal.reduce-round-requires
reduce-round-requires t c =
    let a = c.args in
    let n = length a.counters.now in
    let first = take n c.ranges-2.new.digits in
    let style = c.requires.0 in
    let can = c.requires.1 in
    let inv = c.rounds.invariant in
    let few = can.typed.1.one_to_four.1 in
    let wide : length first ≡ n = length-take-le n c.ranges-2.new.digits (omega (arith, few, length-map a.counters.now plain_counter)) in
    (search (rules, the_lemmas), (reduce_loop style a.fold a.into.acc (plain_expr a.value.now) a.into.comb can (inv.going style can).stands, (inv.same ∙ wide, inv.good c.rounds-test.true)))

pub reduce-returns-in_err-round : goal.reduce-returns-in_err-round
reduce-returns-in_err-round t c = λ style can.
    let a = c.args in
    let mems = map plain_mem a.decls.now in
    let s = a.self.now in
    let counters = map plain_counter a.counters.now in
    let body = plain_stmts a.body.now in
    let begun = c.ranges-2.new.self in
    let n = length a.counters.now in
    let first = take n c.ranges-2.new.digits in
    let now = c.rounds.self in
    let g = c.rounds.invariant.going style can in
    finished_stop mems can.setting.roomy _ s _ _ _ c.in_err-round.field-0.0 c.from_residual-in_err-round.ensures.1
    (reduce_stopped mems can.setting.roomy counters body a.into.at a.into.acc a.into.comb style s.left (store_of s) a.fold (plain_expr a.value.now) (map values first) begun.left (store_of begun) c.in_ok-ranges.ensures.ran c.in_err-round.field-0.0 (combine_stops mems counters body can.setting.roomy can.setting.scope s now c.rounds.digits c.rounds.more c.rounds-test.true (word_combined mems a.into.comb a.into.acc a.into.at (plain_expr a.value.now)) _ c.rounds.combines g c.in_err-round.field-0.0 (c.in_err-round.ensures.ran (reduce_loop style a.fold a.into.acc (plain_expr a.value.now) a.into.comb can g.stands))))

pub reduce-rounds-preserved : goal.reduce-rounds-preserved
reduce-rounds-preserved t c =
    let a = c.args in
    let mems = map plain_mem a.decls.now in
    let s = a.self.now in
    let counters = map plain_counter a.counters.now in
    let body = plain_stmts a.body.now in
    let now = c.rounds.self in
    record {
      going = λ style can. let g = c.rounds.invariant.going style can in combine_next mems counters body can.setting.roomy can.setting.scope s now c.rounds.digits c.rounds.more c.rounds-test.true (word_combined mems a.into.comb a.into.acc a.into.at (plain_expr a.value.now)) _ c.rounds.combines g c.round.new.self (c.in_ok-round.ensures.ran (reduce_loop style a.fold a.into.acc (plain_expr a.value.now) a.into.comb can g.stands)) c.advance-more.result c.advance-more.new.digits c.advance-more.ensures.left tt c.combine_word.new.self c.in_ok-combine_word.ensures.ran c.in_ok-combine_word.ensures.keeps;
      good = λ e. c.advance-more.ensures.digits;
      same = c.advance-more.auto.digits ∙ c.rounds.invariant.same;
    }

pub reduce-rounds-smaller : goal.reduce-rounds-smaller
reduce-rounds-smaller t c = omega (arith, c.in_ok-round.ensures.taken, c.in_ok-combine_word.ensures.keeps.left)

pub reduce-returns-in_err-combine_word : goal.reduce-returns-in_err-combine_word
reduce-returns-in_err-combine_word t c = λ style can.
    let a = c.args in
    let mems = map plain_mem a.decls.now in
    let s = a.self.now in
    let counters = map plain_counter a.counters.now in
    let body = plain_stmts a.body.now in
    let begun = c.ranges-2.new.self in
    let n = length a.counters.now in
    let first = take n c.ranges-2.new.digits in
    let now = c.rounds.self in
    let g = c.rounds.invariant.going style can in
    finished_stop mems can.setting.roomy _ s _ _ _ c.in_err-combine_word.field-0.0 c.from_residual-in_err-combine_word.ensures.1
    (reduce_stopped mems can.setting.roomy counters body a.into.at a.into.acc a.into.comb style s.left (store_of s) a.fold (plain_expr a.value.now) (map values first) begun.left (store_of begun) c.in_ok-ranges.ensures.ran c.in_err-combine_word.field-0.0 (combine_stops_later mems counters body can.setting.roomy can.setting.scope s now c.rounds.digits c.rounds.more c.rounds-test.true (word_combined mems a.into.comb a.into.acc a.into.at (plain_expr a.value.now)) _ c.rounds.combines g c.round.new.self (c.in_ok-round.ensures.ran (reduce_loop style a.fold a.into.acc (plain_expr a.value.now) a.into.comb can g.stands)) c.in_err-combine_word.field-0.0 c.in_err-combine_word.ensures.ran))

pub reduce-returns : goal.reduce-returns
reduce-returns t c = λ style can.
    let a = c.args in
    let mems = map plain_mem a.decls.now in
    let s = a.self.now in
    let counters = map plain_counter a.counters.now in
    let body = plain_stmts a.body.now in
    let begun = c.ranges-2.new.self in
    let n = length a.counters.now in
    let first = take n c.ranges-2.new.digits in
    let now = c.rounds.self in
    let g = c.rounds.invariant.going style can in
    (looped (map length (map values first)) (shapes g.done) ∷ [], reduce_done mems can.setting.roomy counters body a.into.at a.into.acc a.into.comb style s.left (store_of s) a.fold (plain_expr a.value.now) (map values first) begun.left (store_of begun) c.in_ok-ranges.ensures.ran g.done now.left (store_of now) (loop_over (combine_step mems can.setting.roomy counters body (word_combined mems a.into.comb a.into.acc a.into.at (plain_expr a.value.now))) mems can.setting.roomy can.setting.scope _ s now _ g (ap (λ b. combining c.rounds.combines (left_if b c.rounds.digits)) c.rounds-test.false)), g.stands)

pub mem_reduce-ranges-requires : goal.mem_reduce-ranges-requires
mem_reduce-ranges-requires t c =
    let a = c.args in
    let can = c.requires.1 in
    record { few = omega (arith, can.typed.1.one_to_four.1, length-map a.counters.now plain_counter); can = record { setting = can.setting; typed = can.typed.1.bounds } }

pub mem_reduce-returns-in_err-ranges : goal.mem_reduce-returns-in_err-ranges
mem_reduce-returns-in_err-ranges t c = λ style can.
    let a = c.args in
    let mems = map plain_mem a.decls.now in
    let s = a.self.now in
    let counters = map plain_counter a.counters.now in
    let body = plain_stmts a.body.now in
    finished_stop mems can.setting.roomy _ s _ _ _ c.in_err-ranges.field-0.0 c.from_residual.ensures.1 (mem_reduce_unranged mems can.setting.roomy counters body a.into.at a.into.acc a.into.comb style s.left (store_of s) a.part c.in_err-ranges.field-0.0 c.in_err-ranges.ensures.ran)

pub mem_reduce-rounds-init : goal.mem_reduce-rounds-init
mem_reduce-rounds-init t c =
    let a = c.args in
    let mems = map plain_mem a.decls.now in
    let s = a.self.now in
    let counters = map plain_counter a.counters.now in
    let body = plain_stmts a.body.now in
    let begun = c.ranges-2.new.self in
    let n = length a.counters.now in
    let first = take n c.ranges-2.new.digits in
    record {
      going = λ style can. combine_begins (combine_step mems can.setting.roomy counters body (part_combined mems a.into.comb a.into.acc a.part a.into.at)) mems can.setting.roomy can.setting.scope s begun first c.in_ok-ranges.ensures.starts c.have_words-more.result c.have_words-more.ensures false (stands_kept can.setting.sees c.in_ok-ranges.ensures.keeps);
      good = λ e. starts_inside first c.in_ok-ranges.ensures.starts (sym c.have_words-more.ensures ∙ e);
      same = refl;
    }

pub mem_reduce-round-requires : goal.mem_reduce-round-requires
mem_reduce-round-requires t c =
    let a = c.args in
    let n = length a.counters.now in
    let first = take n c.ranges-2.new.digits in
    let style = c.requires.0 in
    let can = c.requires.1 in
    let inv = c.rounds.invariant in
    let few = can.typed.1.one_to_four.1 in
    let wide : length first ≡ n = length-take-le n c.ranges-2.new.digits (omega (arith, few, length-map a.counters.now plain_counter)) in
    (search (rules, the_lemmas), (mem_reduce_loop style a.into.acc a.part a.into.comb can (inv.going style can).stands, (inv.same ∙ wide, inv.good c.rounds-test.true)))

pub mem_reduce-returns-in_err-round : goal.mem_reduce-returns-in_err-round
mem_reduce-returns-in_err-round t c = λ style can.
    let a = c.args in
    let mems = map plain_mem a.decls.now in
    let s = a.self.now in
    let counters = map plain_counter a.counters.now in
    let body = plain_stmts a.body.now in
    let begun = c.ranges-2.new.self in
    let n = length a.counters.now in
    let first = take n c.ranges-2.new.digits in
    let now = c.rounds.self in
    let g = c.rounds.invariant.going style can in
    finished_stop mems can.setting.roomy _ s _ _ _ c.in_err-round.field-0.0 c.from_residual-in_err-round.ensures.1
    (mem_reduce_stopped mems can.setting.roomy counters body a.into.at a.into.acc a.into.comb style s.left (store_of s) a.part (map values first) begun.left (store_of begun) c.in_ok-ranges.ensures.ran c.in_err-round.field-0.0 (combine_stops mems counters body can.setting.roomy can.setting.scope s now c.rounds.digits c.rounds.more c.rounds-test.true (part_combined mems a.into.comb a.into.acc a.part a.into.at) _ c.rounds.combines g c.in_err-round.field-0.0 (c.in_err-round.ensures.ran (mem_reduce_loop style a.into.acc a.part a.into.comb can g.stands))))

pub mem_reduce-rounds-preserved : goal.mem_reduce-rounds-preserved
mem_reduce-rounds-preserved t c =
    let a = c.args in
    let mems = map plain_mem a.decls.now in
    let s = a.self.now in
    let counters = map plain_counter a.counters.now in
    let body = plain_stmts a.body.now in
    let now = c.rounds.self in
    record {
      going = λ style can. let g = c.rounds.invariant.going style can in combine_next mems counters body can.setting.roomy can.setting.scope s now c.rounds.digits c.rounds.more c.rounds-test.true (part_combined mems a.into.comb a.into.acc a.part a.into.at) _ c.rounds.combines g c.round.new.self (c.in_ok-round.ensures.ran (mem_reduce_loop style a.into.acc a.part a.into.comb can g.stands)) c.advance-more.result c.advance-more.new.digits c.advance-more.ensures.left c.in_ok-combine_all.ensures.ran.0 c.combine_all.new.self c.in_ok-combine_all.ensures.ran.1 c.in_ok-combine_all.ensures.keeps;
      good = λ e. c.advance-more.ensures.digits;
      same = c.advance-more.auto.digits ∙ c.rounds.invariant.same;
    }

pub mem_reduce-rounds-smaller : goal.mem_reduce-rounds-smaller
mem_reduce-rounds-smaller t c = omega (arith, c.in_ok-round.ensures.taken, c.in_ok-combine_all.ensures.keeps.left)

pub mem_reduce-returns-in_err-combine_all : goal.mem_reduce-returns-in_err-combine_all
mem_reduce-returns-in_err-combine_all t c = λ style can.
    let a = c.args in
    let mems = map plain_mem a.decls.now in
    let s = a.self.now in
    let counters = map plain_counter a.counters.now in
    let body = plain_stmts a.body.now in
    let begun = c.ranges-2.new.self in
    let n = length a.counters.now in
    let first = take n c.ranges-2.new.digits in
    let now = c.rounds.self in
    let g = c.rounds.invariant.going style can in
    finished_stop mems can.setting.roomy _ s _ _ _ c.in_err-combine_all.field-0.0 c.from_residual-in_err-combine_all.ensures.1
    (mem_reduce_stopped mems can.setting.roomy counters body a.into.at a.into.acc a.into.comb style s.left (store_of s) a.part (map values first) begun.left (store_of begun) c.in_ok-ranges.ensures.ran c.in_err-combine_all.field-0.0 (combine_stops_later mems counters body can.setting.roomy can.setting.scope s now c.rounds.digits c.rounds.more c.rounds-test.true (part_combined mems a.into.comb a.into.acc a.part a.into.at) _ c.rounds.combines g c.round.new.self (c.in_ok-round.ensures.ran (mem_reduce_loop style a.into.acc a.part a.into.comb can g.stands)) c.in_err-combine_all.field-0.0 c.in_err-combine_all.ensures.ran))

pub mem_reduce-returns : goal.mem_reduce-returns
mem_reduce-returns t c = λ style can.
    let a = c.args in
    let mems = map plain_mem a.decls.now in
    let s = a.self.now in
    let counters = map plain_counter a.counters.now in
    let body = plain_stmts a.body.now in
    let begun = c.ranges-2.new.self in
    let n = length a.counters.now in
    let first = take n c.ranges-2.new.digits in
    let now = c.rounds.self in
    let g = c.rounds.invariant.going style can in
    (looped (map length (map values first)) (shapes g.done) ∷ [], mem_reduce_done mems can.setting.roomy counters body a.into.at a.into.acc a.into.comb style s.left (store_of s) a.part (map values first) begun.left (store_of begun) c.in_ok-ranges.ensures.ran g.done now.left (store_of now) (loop_over (combine_step mems can.setting.roomy counters body (part_combined mems a.into.comb a.into.acc a.part a.into.at)) mems can.setting.roomy can.setting.scope _ s now _ g (ap (λ b. combining c.rounds.combines (left_if b c.rounds.digits)) c.rounds-test.false)), g.stands)

pub control-returns-in-Block : goal.control-returns-in-Block
control-returns-in-Block t c =
    let a = c.args in
    let mems = map plain_mem a.decls.now in
    let s = a.self.now in
    let e = block_is c.in-Block.style c.in-Block.body c.in-Block.is c.deref.ensures.value in
    subst (λ k. Runs mems k a.at s c.block.result c.block.new.self) (sym e) (c.block.ensures)

pub control-block-requires : goal.control-block-requires
control-block-requires t c =
    let a = c.args in
    let mems = map plain_mem a.decls.now in
    let s = a.self.now in
    let e = block_is c.in-Block.style c.in-Block.body c.in-Block.is c.deref.ensures.value in
    (search (rules, the_lemmas), subst (λ k. CanRun mems k s) e c.requires)

pub control-returns-in-Foreach : goal.control-returns-in-Foreach
control-returns-in-Foreach t c =
    let a = c.args in
    let mems = map plain_mem a.decls.now in
    let s = a.self.now in
    let e = foreach_is c.in-Foreach.style c.in-Foreach.counters c.in-Foreach.body c.in-Foreach.is c.deref-in-Foreach-2.ensures.value c.deref-in-Foreach.ensures.value in
    subst (λ k. Runs mems k a.at s c.foreach.result c.foreach.new.self) (sym e) (c.foreach.ensures c.in-Foreach.style a.at)

pub control-foreach-requires : goal.control-foreach-requires
control-foreach-requires t c =
    let a = c.args in
    let mems = map plain_mem a.decls.now in
    let s = a.self.now in
    let e = foreach_is c.in-Foreach.style c.in-Foreach.counters c.in-Foreach.body c.in-Foreach.is c.deref-in-Foreach-2.ensures.value c.deref-in-Foreach.ensures.value in
    (search (rules, the_lemmas), (c.in-Foreach.style, subst (λ k. CanRun mems k s) e c.requires))

pub statement-returns-in-Declare : goal.statement-returns-in-Declare
statement-returns-in-Declare t c =
    let a = c.args in
    let mems = map plain_mem a.decls.now in
    let s = a.self.now in
    subst (λ k. Runs mems k a.at s (Ok tt) c.declare.new.self) (sym (ap plain_stmt_kind c.in-Declare.is)) (λ can. c.declare.ensures a.at can)

pub statement-returns-in-Control : goal.statement-returns-in-Control
statement-returns-in-Control t c =
    let a = c.args in
    let mems = map plain_mem a.decls.now in
    let s = a.self.now in
    subst (λ k. Runs mems k a.at s c.control.result c.control.new.self) (sym (ap plain_stmt_kind c.in-Control.is)) (subst (λ ctl. Runs mems (plain_ctl ctl) a.at s c.control.result c.control.new.self) c.deref-in-Control.ensures c.control.ensures)

pub control-reduce-requires : goal.control-reduce-requires
control-reduce-requires t c =
    let a = c.args in
    let mems = map plain_mem a.decls.now in
    let s = a.self.now in
    let e = reduce_is c.in-Reduce.style c.in-Reduce.fold c.in-Reduce.acc c.in-Reduce.counters c.in-Reduce.body c.in-Reduce.value c.in-Reduce.comb c.in-Reduce.is c.number.ensures c.deref-in-Reduce-2.ensures.value c.deref-in-Reduce.ensures.value in
    (omega (arith, reduce_falls c.in-Reduce.style c.in-Reduce.fold c.in-Reduce.acc c.in-Reduce.counters c.in-Reduce.body c.in-Reduce.value c.in-Reduce.comb, ap ctl_size c.in-Reduce.is, ap body_size c.deref-in-Reduce.ensures.value), (c.in-Reduce.style, subst (λ k. CanRun mems k s) e c.requires))

pub control-returns-in-Reduce : goal.control-returns-in-Reduce
control-returns-in-Reduce t c =
    let a = c.args in
    let mems = map plain_mem a.decls.now in
    let s = a.self.now in
    let e = reduce_is c.in-Reduce.style c.in-Reduce.fold c.in-Reduce.acc c.in-Reduce.counters c.in-Reduce.body c.in-Reduce.value c.in-Reduce.comb c.in-Reduce.is c.number.ensures c.deref-in-Reduce-2.ensures.value c.deref-in-Reduce.ensures.value in
    subst (λ k. Runs mems k a.at s c.reduce.result c.reduce.new.self) (sym e) (c.reduce.ensures c.in-Reduce.style)

pub control-mem_reduce-requires : goal.control-mem_reduce-requires
control-mem_reduce-requires t c =
    let a = c.args in
    let mems = map plain_mem a.decls.now in
    let s = a.self.now in
    let e = mem_reduce_is c.in-MemReduce.style c.in-MemReduce.acc c.in-MemReduce.counters c.in-MemReduce.body c.in-MemReduce.part c.in-MemReduce.comb c.in-MemReduce.is c.number-in-MemReduce.ensures c.number-in-MemReduce-2.ensures c.deref-in-MemReduce-2.ensures.value c.deref-in-MemReduce.ensures.value in
    (omega (arith, mem_reduce_falls c.in-MemReduce.style c.in-MemReduce.acc c.in-MemReduce.counters c.in-MemReduce.body c.in-MemReduce.part c.in-MemReduce.comb, ap ctl_size c.in-MemReduce.is, ap body_size c.deref-in-MemReduce.ensures.value), (c.in-MemReduce.style, subst (λ k. CanRun mems k s) e c.requires))

pub control-returns-in-MemReduce : goal.control-returns-in-MemReduce
control-returns-in-MemReduce t c =
    let a = c.args in
    let mems = map plain_mem a.decls.now in
    let s = a.self.now in
    let e = mem_reduce_is c.in-MemReduce.style c.in-MemReduce.acc c.in-MemReduce.counters c.in-MemReduce.body c.in-MemReduce.part c.in-MemReduce.comb c.in-MemReduce.is c.number-in-MemReduce.ensures c.number-in-MemReduce-2.ensures c.deref-in-MemReduce-2.ensures.value c.deref-in-MemReduce.ensures.value in
    subst (λ k. Runs mems k a.at s c.mem_reduce.result c.mem_reduce.new.self) (sym e) (c.mem_reduce.ensures c.in-MemReduce.style)

pub control-fsm-requires : goal.control-fsm-requires
control-fsm-requires t c =
    let a = c.args in
    let mems = map plain_mem a.decls.now in
    let s = a.self.now in
    let e = fsm_is c.in-Fsm.start c.in-Fsm.tested c.in-Fsm.test c.in-Fsm.state c.in-Fsm.body c.in-Fsm.last c.in-Fsm.next c.in-Fsm.is c.number-in-Fsm.ensures c.number-in-Fsm-2.ensures c.number-in-Fsm-3.ensures c.deref-in-Fsm.ensures.value in
    (omega (arith, fsm_falls c.in-Fsm.start c.in-Fsm.tested c.in-Fsm.test c.in-Fsm.state c.in-Fsm.body c.in-Fsm.last c.in-Fsm.next, ap ctl_size c.in-Fsm.is, ap body_size c.deref-in-Fsm.ensures.value), subst (λ k. CanRun mems k s) e c.requires)

pub control-returns-in-Fsm : goal.control-returns-in-Fsm
control-returns-in-Fsm t c =
    let a = c.args in
    let mems = map plain_mem a.decls.now in
    let s = a.self.now in
    let e = fsm_is c.in-Fsm.start c.in-Fsm.tested c.in-Fsm.test c.in-Fsm.state c.in-Fsm.body c.in-Fsm.last c.in-Fsm.next c.in-Fsm.is c.number-in-Fsm.ensures c.number-in-Fsm-2.ensures c.number-in-Fsm-3.ensures c.deref-in-Fsm.ensures.value in
    subst (λ k. Runs mems k a.at s c.fsm.result c.fsm.new.self) (sym e) (c.fsm.ensures a.at)

pub control-word-requires : goal.control-word-requires
control-word-requires t c =
    let a = c.args in
    let mems = map plain_mem a.decls.now in
    let s = a.self.now in
    let e = branch_is c.in-Branch.test c.in-Branch.yes c.in-Branch.no c.in-Branch.is refl refl in
    let can = subst (λ k. CanRun mems k s) e c.requires in
    record { setting = can.setting; typed = can.typed.0.0.0 }

pub control-body-requires : goal.control-body-requires
control-body-requires t c =
    let a = c.args in
    let mems = map plain_mem a.decls.now in
    let s = a.self.now in
    let e = branch_is c.in-Branch.test c.in-Branch.yes c.in-Branch.no c.in-Branch.is c.deref-then-branch-eq1.ensures.value refl in
    (omega (arith, then_falls c.in-Branch.test c.in-Branch.yes c.in-Branch.no, ap ctl_size c.in-Branch.is, ap body_size c.deref-then-branch-eq1.ensures.value), then_can mems (plain_expr c.in-Branch.test) (plain_stmts c.deref-then-branch-eq1.result.now) (plain_stmts c.in-Branch.no.items) s (subst (λ k. CanRun mems k s) e c.requires) c.word.new.self c.in_ok-word-in-Branch.ensures.keeps)

pub block-body-requires : goal.block-body-requires
block-body-requires t c =
    let can = c.requires in
    (search (rules, the_lemmas), record { setting = can.setting; typed = can.typed; numbered = can.numbered; told = can.told.1 })

pub block-returns-in_err-body : goal.block-returns-in_err-body
block-returns-in_err-body t c =
    λ can.
    let a = c.args in
    let mems = map plain_mem a.decls.now in
    let s = a.self.now in
    let body = plain_stmts a.body.now in
    finished_stop mems can.setting.roomy _ s _ _ _ c.in_err-body.field-0.0 c.from_residual.ensures.1
    (block_stops mems can.setting.roomy can.setting.scope a.style body a.at s c.in_err-body.field-0.0 (c.in_err-body.ensures (block_body a.style can)))

pub block-end_stream-requires : goal.block-end_stream-requires
block-end_stream-requires t c =
    let a = c.args in
    let mems = map plain_mem a.decls.now in
    let s = a.self.now in
    let body = plain_stmts a.body.now in
    let can = subst (λ style. CanRun mems (plain.block style body) s) c.in-Stream.is c.requires in
    stream_end mems body s c.body.new.self can (c.in_ok-body.ensures (block_body Stream can)).2

pub block-returns-in-Stream : goal.block-returns-in-Stream
block-returns-in-Stream t c =
    let a = c.args in
    let mems = map plain_mem a.decls.now in
    let s = a.self.now in
    let body = plain_stmts a.body.now in
    subst (λ style. Runs mems (plain.block style body) a.at s c.end_stream.result c.body.new.self) (sym c.in-Stream.is)
    (λ can. block_ends mems can.setting.roomy can.setting.scope Stream body a.at s c.body.new.self (c.in_ok-body.ensures (block_body Stream can)) c.end_stream.result c.end_stream.ensures)

pub block-returns-in-Pipe : goal.block-returns-in-Pipe
block-returns-in-Pipe t c =
    let a = c.args in
    let mems = map plain_mem a.decls.now in
    let s = a.self.now in
    let body = plain_stmts a.body.now in
    subst (λ style. Runs mems (plain.block style body) a.at s (Ok tt) c.body.new.self) (sym c.in-Pipe.is)
    (λ can. let f = c.in_ok-body.ensures (block_body Pipe can) in block_ends mems can.setting.roomy can.setting.scope Pipe body a.at s c.body.new.self f (Ok tt) ([], pipe_end mems body a.at c.body.new.self.left (store_of c.body.new.self)))

pub block-returns-in-Sequential : goal.block-returns-in-Sequential
block-returns-in-Sequential t c =
    let a = c.args in
    let mems = map plain_mem a.decls.now in
    let s = a.self.now in
    let body = plain_stmts a.body.now in
    subst (λ style. Runs mems (plain.block style body) a.at s (Ok tt) c.body.new.self) (sym c.in-Sequential.is)
    (λ can. let f = c.in_ok-body.ensures (block_body Sequential can) in block_ends mems can.setting.roomy can.setting.scope Sequential body a.at s c.body.new.self f (Ok tt) ([], sequential_end mems body a.at c.body.new.self.left (store_of c.body.new.self)))

pub block-returns-in-Parallel : goal.block-returns-in-Parallel
block-returns-in-Parallel t c =
    let a = c.args in
    let mems = map plain_mem a.decls.now in
    let s = a.self.now in
    let body = plain_stmts a.body.now in
    subst (λ style. Runs mems (plain.block style body) a.at s (Ok tt) c.body.new.self) (sym c.in-Parallel.is)
    (λ can. let f = c.in_ok-body.ensures (block_body Parallel can) in block_ends mems can.setting.roomy can.setting.scope Parallel body a.at s c.body.new.self f (Ok tt) ([], parallel_end mems body a.at c.body.new.self.left (store_of c.body.new.self)))

pub reduce-combine_word-requires : goal.reduce-combine_word-requires
reduce-combine_word-requires t c =
    let a = c.args in
    let style = c.requires.0 in
    let can = c.requires.1 in
    let e = plain_expr a.value.now in
    let f = c.in_ok-round.ensures.ran (reduce_loop style a.fold a.into.acc e a.into.comb can (c.rounds.invariant.going style can).stands) in
    reduce_combines style a.fold a.into.acc e a.into.comb can c.round.new.self f.2.sees

pub mem_reduce-combine_all-requires : goal.mem_reduce-combine_all-requires
mem_reduce-combine_all-requires t c =
    let a = c.args in
    let style = c.requires.0 in
    let can = c.requires.1 in
    let f = c.in_ok-round.ensures.ran (mem_reduce_loop style a.into.acc a.part a.into.comb can (c.rounds.invariant.going style can).stands) in
    mem_reduce_combines style a.into.acc a.part a.into.comb can c.round.new.self f.2.sees

pub fsm_turn-returns-in_err-turn : goal.fsm_turn-returns-in_err-turn
fsm_turn-returns-in_err-turn t c =
    let a = c.args in
    let mems = map plain_mem a.decls.now in
    let s = a.self.now in
    let state = a.binders.state in
    let last = a.binders.last in
    let body = plain_stmts a.body.now in
    let next = plain_expr a.next.now in
    let stop = c.in_err-turn.field-0.0 in
    record {
      ran = λ can. finished_with_stop mems can.setting.roomy can.setting.scope (IsWord can.ty) s _ c.from_residual.result c.turn.new.self stop c.from_residual.ensures.1 (turn_halts mems can.setting.roomy state last body next a.from s stop c.in_err-turn.ensures.ran);
      taken = not_ok c.from_residual.result _ stop c.from_residual.ensures.1;
    }

pub fsm_turn-name-requires : goal.fsm_turn-name-requires
fsm_turn-name-requires t c =
    let a = c.args in
    let mems = map plain_mem a.decls.now in
    let s = a.self.now in
    let body = plain_stmts a.body.now in
    let next = plain_expr a.next.now in
    let can = c.requires in
    let u = c.turn.new.self in
    turn_named mems a.binders.state a.binders.last body next s a.from can u c.in_ok-turn.ensures.keeps

pub fsm_turn-body-requires : goal.fsm_turn-body-requires
fsm_turn-body-requires t c =
    let a = c.args in
    let mems = map plain_mem a.decls.now in
    let s = a.self.now in
    let body = plain_stmts a.body.now in
    let next = plain_expr a.next.now in
    let can = c.requires in
    let u = c.turn.new.self in
    let v = c.name.new.self in
    (search (rules, the_lemmas), turn_body mems a.binders.state a.binders.last body next s a.from can u v c.in_ok-turn.ensures.keeps c.name.ensures.values c.name.ensures.others.0 c.name.ensures.others.1 c.name.ensures.others.2)

pub fsm_turn-returns-in_err-body : goal.fsm_turn-returns-in_err-body
fsm_turn-returns-in_err-body t c =
    let a = c.args in
    let mems = map plain_mem a.decls.now in
    let s = a.self.now in
    let state = a.binders.state in
    let last = a.binders.last in
    let body = plain_stmts a.body.now in
    let next = plain_expr a.next.now in
    let u = c.turn.new.self in
    let v = c.name.new.self in
    let stop = c.in_err-body.field-0.0 in
    let end = c.from_residual-in_err-body.ensures.1 in
    record {
      ran = λ can. finished_with_stop mems can.setting.roomy can.setting.scope (IsWord can.ty) s _ c.from_residual-in_err-body.result c.body.new.self stop end
          (body_halts mems can.setting.roomy state last body next a.from s u v c.in_ok-turn.ensures.ran c.name.ensures.store c.name.ensures.others.2 stop (c.in_err-body.ensures (turn_body mems state last body next s a.from can u v c.in_ok-turn.ensures.keeps c.name.ensures.values c.name.ensures.others.0 c.name.ensures.others.1 c.name.ensures.others.2)));
      taken = not_ok c.from_residual-in_err-body.result _ stop end;
    }

pub fsm_turn-word_under-requires : goal.fsm_turn-word_under-requires
fsm_turn-word_under-requires t c =
    let a = c.args in
    let mems = map plain_mem a.decls.now in
    let s = a.self.now in
    let body = plain_stmts a.body.now in
    let next = plain_expr a.next.now in
    let can = c.requires in
    let u = c.turn.new.self in
    let v = c.name.new.self in
    turn_name mems a.binders.state a.binders.last body next s a.from can u v c.in_ok-turn.ensures.keeps c.name.ensures.values c.name.ensures.others.0 c.name.ensures.others.1 c.name.ensures.others.2 c.body.new.self (c.in_ok-body.ensures (turn_body mems a.binders.state a.binders.last body next s a.from can u v c.in_ok-turn.ensures.keeps c.name.ensures.values c.name.ensures.others.0 c.name.ensures.others.1 c.name.ensures.others.2))

pub fsm_turn-returns : goal.fsm_turn-returns
fsm_turn-returns t c =
    let a = c.args in
    let mems = map plain_mem a.decls.now in
    let s = a.self.now in
    let state = a.binders.state in
    let last = a.binders.last in
    let body = plain_stmts a.body.now in
    let next = plain_expr a.next.now in
    let u = c.turn.new.self in
    let v = c.name.new.self in
    let w = c.body.new.self in
    let r = c.word_under.result in
    record {
      ran = λ can.
          let f = c.in_ok-body.ensures (turn_body mems state last body next s a.from can u v c.in_ok-turn.ensures.keeps c.name.ensures.values c.name.ensures.others.0 c.name.ensures.others.1 c.name.ensures.others.2) in
          turn_ends mems can.setting.roomy state last body next a.from s u v c.in_ok-turn.ensures.ran c.name.ensures.store c.name.ensures.others.2 f.0 w f.1 can.setting.scope (IsWord can.ty)
          (turn_outer mems state last body next s a.from can u v c.in_ok-turn.ensures.keeps c.name.ensures.values c.name.ensures.others.0 c.name.ensures.others.1 c.name.ensures.others.2 w f) r c.word_under.new.self c.word_under.ensures.ran (c.word_under.ensures.stands (turn_name mems state last body next s a.from can u v c.in_ok-turn.ensures.keeps c.name.ensures.values c.name.ensures.others.0 c.name.ensures.others.1 c.name.ensures.others.2 w f)) (subst (λ ty. IfOk r (IsWord ty)) can.next_typed.1 c.word_under.ensures.fits);
      taken =
          let can = c.requires in
          let f = c.in_ok-body.ensures (turn_body mems state last body next s a.from can u v c.in_ok-turn.ensures.keeps c.name.ensures.values c.name.ensures.others.0 c.name.ensures.others.1 c.name.ensures.others.2) in
          turn_taken mems can.setting.roomy can.setting.scope w c.word_under.new.self s.left r (omega (arith, c.in_ok-turn.ensures.taken, c.name.ensures.others.2, f.2.left)) (c.word_under.ensures.stands (turn_name mems state last body next s a.from can u v c.in_ok-turn.ensures.keeps c.name.ensures.values c.name.ensures.others.0 c.name.ensures.others.1 c.name.ensures.others.2 w f));
    }

pub fsm-word-requires : goal.fsm-word-requires
fsm-word-requires t c =
    record { setting = c.requires.setting; typed = c.requires.typed.0.0.0 }

pub fsm-turns-init : goal.fsm-turns-init
fsm-turns-init t c =
    let a = c.args in
    let mems = map plain_mem a.decls.now in
    let s = a.self.now in
    let tested = a.binders.tested in
    let test = plain_expr a.test.now in
    let state = a.binders.state in
    let body = plain_stmts a.body.now in
    let last = a.binders.last in
    let next = plain_expr a.next.now in
    let begun = c.word.new.self in
    let first = c.in_ok-state.state in
    record {
      going = λ can. fsm_start (test_of mems tested test) (fsm_turn mems can.setting.roomy state last body next) mems can.setting.roomy can.setting.scope first s begun (stands_kept can.setting.sees c.in_ok-state.ensures.keeps);
      is_word = c.in_ok-state.ensures.fits;
    }

pub fsm-word_under-requires : goal.fsm-word_under-requires
fsm-word_under-requires t c =
    let now = c.turns.self in
    let x = c.turns.state in
    let good = c.turns.invariant.is_word in
    let can = c.requires in
    fsm_test can now (c.turns.invariant.going can).stands x good

pub fsm-returns-in_err-word_under : goal.fsm-returns-in_err-word_under
fsm-returns-in_err-word_under t c =
    λ at can.
    let a = c.args in
    let mems = map plain_mem a.decls.now in
    let s = a.self.now in
    let start = plain_expr a.start.now in
    let tested = a.binders.tested in
    let test = plain_expr a.test.now in
    let state = a.binders.state in
    let body = plain_stmts a.body.now in
    let last = a.binders.last in
    let next = plain_expr a.next.now in
    let begun = c.word.new.self in
    let first = c.in_ok-state.state in
    let started = c.in_ok-state.ensures.ran in
    let now = c.turns.self in
    let x = c.turns.state in
    let g = c.turns.invariant.going can in
    let stop = c.in_err-word_under.field-0.0 in
    finished_stop mems can.setting.roomy can.setting.scope s _ _ _ stop c.from_residual-in_err-word_under.ensures.1
    (fsm_stopped mems can.setting.roomy start tested test state body last next at s first begun started stop
    (fsm_untested (test_of mems tested test) (fsm_turn mems can.setting.roomy state last body next) mems can.setting.roomy can.setting.scope _ s now x g stop (test_halts mems tested test x now.left (store_of now) stop c.in_err-word_under.ensures.ran)))

pub fsm-fsm_turn-requires : goal.fsm-fsm_turn-requires
fsm-fsm_turn-requires t c =
    let now = c.turns.self in
    let x = c.turns.state in
    let good = c.turns.invariant.is_word in
    let can = c.requires in
    let g = c.turns.invariant.going can in
    let t = c.word_under.new.self in
    let later = c.in_ok-word_under.ensures.stands (fsm_test can now g.stands x good) in
    (search (rules, the_lemmas), fsm_can can t (stands_on g.stands later) x good)

pub fsm-turns-preserved : goal.fsm-turns-preserved
fsm-turns-preserved t c =
    let a = c.args in
    let mems = map plain_mem a.decls.now in
    let s = a.self.now in
    let tested = a.binders.tested in
    let test = plain_expr a.test.now in
    let state = a.binders.state in
    let body = plain_stmts a.body.now in
    let last = a.binders.last in
    let next = plain_expr a.next.now in
    let now = c.turns.self in
    let x = c.turns.state in
    let good = c.turns.invariant.is_word in
    record {
      going = λ can.
          let g = c.turns.invariant.going can in
          let t = c.word_under.new.self in
          let later = c.in_ok-word_under.ensures.stands (fsm_test can now g.stands x good) in
          let f = c.in_ok-state-2.ensures.ran (fsm_can can t (stands_on g.stands later) x good) in
          fsm_more (test_of mems tested test) (fsm_turn mems can.setting.roomy state last body next) mems can.setting.roomy can.setting.scope _ s now x g t (test_goes mems tested test x now.left (store_of now) c.in_ok-word_under.field-0 t.left (store_of t) c.in_ok-word_under.ensures.ran true (eq-eqb _ _ c.if-branch-ne1.false)) later.left c.in_ok-state-2.state f.0 c.fsm_turn.new.self f.1 c.in_ok-state-2.ensures.taken (stands_on later f.2);
      is_word =
          let can = c.requires in
          let g = c.turns.invariant.going can in
          let t = c.word_under.new.self in
          let later = c.in_ok-word_under.ensures.stands (fsm_test can now g.stands x good) in
          (c.in_ok-state-2.ensures.ran (fsm_can can t (stands_on g.stands later) x good)).3;
    }

pub fsm-turns-smaller : goal.fsm-turns-smaller
fsm-turns-smaller t c =
    let now = c.turns.self in
    let x = c.turns.state in
    let good = c.turns.invariant.is_word in
    let can = c.requires in
    let g = c.turns.invariant.going can in
    let later = c.in_ok-word_under.ensures.stands (fsm_test can now g.stands x good) in
    omega (arith, c.in_ok-state-2.ensures.taken, later.left)

pub control-returns-in_err-word-in-Branch : goal.control-returns-in_err-word-in-Branch
control-returns-in_err-word-in-Branch t c =
    let a = c.args in
    let mems = map plain_mem a.decls.now in
    let s = a.self.now in
    let e = branch_is c.in-Branch.test c.in-Branch.yes c.in-Branch.no c.in-Branch.is refl refl in
    subst (λ k. Runs mems k a.at s c.from_residual.result c.word.new.self) (sym e)
    (λ can. finished_stop mems can.setting.roomy _ s _ _ _ c.in_err-word-in-Branch.field-0.0 c.from_residual.ensures.1
    (branch_stops mems can.setting.roomy can.setting.scope (plain_expr c.in-Branch.test) (plain_stmts c.in-Branch.yes.items) (plain_stmts c.in-Branch.no.items) a.at s c.in_err-word-in-Branch.field-0.0 c.in_err-word-in-Branch.ensures.ran))

pub control-body-requires-else-branch-eq1 : goal.control-body-requires-else-branch-eq1
control-body-requires-else-branch-eq1 t c =
    let a = c.args in
    let mems = map plain_mem a.decls.now in
    let s = a.self.now in
    let e = branch_is c.in-Branch.test c.in-Branch.yes c.in-Branch.no c.in-Branch.is refl c.deref-else-branch-eq1.ensures.value in
    (omega (arith, else_falls c.in-Branch.test c.in-Branch.yes c.in-Branch.no, ap ctl_size c.in-Branch.is, ap body_size c.deref-else-branch-eq1.ensures.value), else_can mems (plain_expr c.in-Branch.test) (plain_stmts c.in-Branch.yes.items) (plain_stmts c.deref-else-branch-eq1.result.now) s (subst (λ k. CanRun mems k s) e c.requires) c.word.new.self c.in_ok-word-in-Branch.ensures.keeps)

pub control-returns-then-branch-eq1 : goal.control-returns-then-branch-eq1
control-returns-then-branch-eq1 t c =
    let a = c.args in
    let mems = map plain_mem a.decls.now in
    let s = a.self.now in
    let e = branch_is c.in-Branch.test c.in-Branch.yes c.in-Branch.no c.in-Branch.is c.deref-then-branch-eq1.ensures.value refl in
    subst (λ k. Runs mems k a.at s c.body.result c.body.new.self) (sym e)
    (λ can. branch_then mems can.setting.roomy can.setting.scope (plain_expr c.in-Branch.test) (plain_stmts c.deref-then-branch-eq1.result.now) (plain_stmts c.in-Branch.no.items) a.at s c.in_ok-word-in-Branch.field-0 c.word.new.self c.in_ok-word-in-Branch.ensures.ran can.setting.sees c.in_ok-word-in-Branch.ensures.keeps
    (ap (λ w. w == 1) c.if-branch-eq1.true) c.body.result c.body.new.self
    (c.body.ensures (then_can mems (plain_expr c.in-Branch.test) (plain_stmts c.deref-then-branch-eq1.result.now) (plain_stmts c.in-Branch.no.items) s can c.word.new.self c.in_ok-word-in-Branch.ensures.keeps)))

pub control-returns-else-branch-eq1 : goal.control-returns-else-branch-eq1
control-returns-else-branch-eq1 t c =
    let a = c.args in
    let mems = map plain_mem a.decls.now in
    let s = a.self.now in
    let e = branch_is c.in-Branch.test c.in-Branch.yes c.in-Branch.no c.in-Branch.is refl c.deref-else-branch-eq1.ensures.value in
    subst (λ k. Runs mems k a.at s c.body-else-branch-eq1.result c.body-else-branch-eq1.new.self) (sym e)
    (λ can. branch_else mems can.setting.roomy can.setting.scope (plain_expr c.in-Branch.test) (plain_stmts c.in-Branch.yes.items) (plain_stmts c.deref-else-branch-eq1.result.now) a.at s c.in_ok-word-in-Branch.field-0 c.word.new.self c.in_ok-word-in-Branch.ensures.ran can.setting.sees c.in_ok-word-in-Branch.ensures.keeps
    (ne_eqb _ _ c.if-branch-eq1.false) c.body-else-branch-eq1.result c.body-else-branch-eq1.new.self
    (c.body-else-branch-eq1.ensures (else_can mems (plain_expr c.in-Branch.test) (plain_stmts c.in-Branch.yes.items) (plain_stmts c.deref-else-branch-eq1.result.now) s can c.word.new.self c.in_ok-word-in-Branch.ensures.keeps)))

pub fsm-returns-in_err-state : goal.fsm-returns-in_err-state
fsm-returns-in_err-state t c =
    λ at can.
    let a = c.args in
    let mems = map plain_mem a.decls.now in
    let s = a.self.now in
    let start = plain_expr a.start.now in
    let tested = a.binders.tested in
    let test = plain_expr a.test.now in
    let state = a.binders.state in
    let body = plain_stmts a.body.now in
    let last = a.binders.last in
    let next = plain_expr a.next.now in
    let stop = c.in_err-state.field-0.0 in
    finished_stop mems can.setting.roomy can.setting.scope s _ _ _ stop c.from_residual.ensures.1 (fsm_unstarted mems can.setting.roomy start tested test state body last next at s stop c.in_err-state.ensures.ran)

pub fsm-returns-then-branch-ne1 : goal.fsm-returns-then-branch-ne1
fsm-returns-then-branch-ne1 t c =
    λ at can.
    let a = c.args in
    let mems = map plain_mem a.decls.now in
    let s = a.self.now in
    let start = plain_expr a.start.now in
    let tested = a.binders.tested in
    let test = plain_expr a.test.now in
    let state = a.binders.state in
    let body = plain_stmts a.body.now in
    let last = a.binders.last in
    let next = plain_expr a.next.now in
    let begun = c.word.new.self in
    let first = c.in_ok-state.state in
    let started = c.in_ok-state.ensures.ran in
    let now = c.turns.self in
    let x = c.turns.state in
    let good = c.turns.invariant.is_word in
    let g = c.turns.invariant.going can in
    let t = c.word_under.new.self in
    let later = c.in_ok-word_under.ensures.stands (fsm_test can now g.stands x good) in (
      turned (length g.done) (shapes g.done) ∷ [],
      fsm_done mems can.setting.roomy start tested test state body last next at s first begun started g.done t.left (store_of t)
          (fsm_over (test_of mems tested test) (fsm_turn mems can.setting.roomy state last body next) mems can.setting.roomy can.setting.scope _ s now x g t (test_goes mems tested test x now.left (store_of now) c.in_ok-word_under.field-0 t.left (store_of t) c.in_ok-word_under.ensures.ran false (ne_eqb _ _ c.if-branch-ne1.true))),
      stands_on g.stands later,
    )

pub fsm-returns-in_err-state-2 : goal.fsm-returns-in_err-state-2
fsm-returns-in_err-state-2 t c =
    λ at can.
    let a = c.args in
    let mems = map plain_mem a.decls.now in
    let s = a.self.now in
    let start = plain_expr a.start.now in
    let tested = a.binders.tested in
    let test = plain_expr a.test.now in
    let state = a.binders.state in
    let body = plain_stmts a.body.now in
    let last = a.binders.last in
    let next = plain_expr a.next.now in
    let begun = c.word.new.self in
    let first = c.in_ok-state.state in
    let started = c.in_ok-state.ensures.ran in
    let now = c.turns.self in
    let x = c.turns.state in
    let good = c.turns.invariant.is_word in
    let g = c.turns.invariant.going can in
    let t = c.word_under.new.self in
    let later = c.in_ok-word_under.ensures.stands (fsm_test can now g.stands x good) in
    let stop = c.in_err-state-2.field-0.0 in
    finished_stop mems can.setting.roomy can.setting.scope s _ _ _ stop c.from_residual-in_err-state-2.ensures.1
    (fsm_stopped mems can.setting.roomy start tested test state body last next at s first begun started stop
    (fsm_halted (test_of mems tested test) (fsm_turn mems can.setting.roomy state last body next) mems can.setting.roomy can.setting.scope _ s now x g t (test_goes mems tested test x now.left (store_of now) c.in_ok-word_under.field-0 t.left (store_of t) c.in_ok-word_under.ensures.ran true (eq-eqb _ _ c.if-branch-ne1.false)) later.left stop (c.in_err-state-2.ensures.ran (fsm_can can t (stands_on g.stands later) x good)) (no_turn mems can.setting.roomy state last body next x)))

pub statement-returns-in-Let : goal.statement-returns-in-Let
statement-returns-in-Let t c =
    let a = c.args in
    let mems = map plain_mem a.decls.now in
    let s = a.self.now in
    let e = ap plain_stmt_kind c.in-Let.is ∙ ap (λ m. plain.name m (plain_expr c.in-Let.e)) (sym c.number.ensures) in
    subst (λ k. Runs mems k a.at s c.name_word.result c.name_word.new.self) (sym e) (λ can. c.name_word.ensures a.at can)

pub statement-returns-in-SetReg : goal.statement-returns-in-SetReg
statement-returns-in-SetReg t c =
    let a = c.args in
    let mems = map plain_mem a.decls.now in
    let s = a.self.now in
    let e = ap plain_stmt_kind c.in-SetReg.is ∙ ap (λ m. plain.set_reg m (plain_expr c.in-SetReg.e)) (sym c.number-in-SetReg.ensures) in
    subst (λ k. Runs mems k a.at s c.set_reg.result c.set_reg.new.self) (sym e) (λ can. c.set_reg.ensures a.at can)

pub statement-returns-in-SetOut : goal.statement-returns-in-SetOut
statement-returns-in-SetOut t c =
    let a = c.args in
    let mems = map plain_mem a.decls.now in
    let s = a.self.now in
    let e = ap plain_stmt_kind c.in-SetOut.is ∙ ap (λ m. plain.set_out m (plain_expr c.in-SetOut.e)) (sym c.number-in-SetOut.ensures) in
    subst (λ k. Runs mems k a.at s c.set_out.result c.set_out.new.self) (sym e) (λ can. c.set_out.ensures a.at can)

pub statement-returns-in-SetSram : goal.statement-returns-in-SetSram
statement-returns-in-SetSram t c =
    let a = c.args in
    let mems = map plain_mem a.decls.now in
    let s = a.self.now in
    let e = ap plain_stmt_kind c.in-SetSram.is ∙ ap (λ n. plain.set_sram n (plain_exprs c.in-SetSram.indices.items) (plain_expr c.in-SetSram.e)) (sym c.number-in-SetSram.ensures) ∙ ap (λ xs. plain.set_sram c.number-in-SetSram.result (plain_exprs xs) (plain_expr c.in-SetSram.e)) (sym c.deref.ensures.value) in
    subst (λ k. Runs mems k a.at s c.set_sram.result c.set_sram.new.self) (sym e) (λ can. c.set_sram.ensures can)

pub statement-returns-in-Enq : goal.statement-returns-in-Enq
statement-returns-in-Enq t c =
    let a = c.args in
    let mems = map plain_mem a.decls.now in
    let s = a.self.now in
    let e = ap plain_stmt_kind c.in-Enq.is ∙ ap (λ m. plain.enq m (plain_expr c.in-Enq.e)) (sym c.number-in-Enq.ensures) in
    subst (λ k. Runs mems k a.at s c.enqueue_word.result c.enqueue_word.new.self) (sym e) (λ can. c.enqueue_word.ensures can)

pub statement-returns-in-LoadSram : goal.statement-returns-in-LoadSram
statement-returns-in-LoadSram t c =
    let a = c.args in
    let mems = map plain_mem a.decls.now in
    let s = a.self.now in
    let e = ap plain_stmt_kind c.in-LoadSram.is ∙ ap (λ n. plain.load_sram n c.in-LoadSram.dram (map plain_span c.in-LoadSram.spans.items)) (sym c.number-in-LoadSram.ensures) ∙ ap (λ n. plain.load_sram c.number-in-LoadSram.result n (map plain_span c.in-LoadSram.spans.items)) (sym c.number-in-LoadSram-2.ensures) ∙ ap (λ xs. plain.load_sram c.number-in-LoadSram.result c.number-in-LoadSram-2.result (map plain_span xs)) (sym c.deref-in-LoadSram.ensures.value) in
    subst (λ k. Runs mems k a.at s c.load_sram.result c.load_sram.new.self) (sym e) (λ can. c.load_sram.ensures can)

pub statement-returns-in-LoadLine : goal.statement-returns-in-LoadLine
statement-returns-in-LoadLine t c =
    let a = c.args in
    let mems = map plain_mem a.decls.now in
    let s = a.self.now in
    let e = ap plain_stmt_kind c.in-LoadLine.is ∙ ap (λ n. plain.load_line n c.in-LoadLine.dram (map plain_span c.in-LoadLine.spans.items)) (sym c.number-in-LoadLine.ensures) ∙ ap (λ n. plain.load_line c.number-in-LoadLine.result n (map plain_span c.in-LoadLine.spans.items)) (sym c.number-in-LoadLine-2.ensures) ∙ ap (λ xs. plain.load_line c.number-in-LoadLine.result c.number-in-LoadLine-2.result (map plain_span xs)) (sym c.deref-in-LoadLine.ensures.value) in
    subst (λ k. Runs mems k a.at s c.load_line.result c.load_line.new.self) (sym e) c.load_line.ensures

pub statement-returns-in-Store : goal.statement-returns-in-Store
statement-returns-in-Store t c =
    let a = c.args in
    let mems = map plain_mem a.decls.now in
    let s = a.self.now in
    let e = ap plain_stmt_kind c.in-Store.is ∙ ap (λ n. plain.store n (map plain_span c.in-Store.spans.items) c.in-Store.sram) (sym c.number-in-Store.ensures) ∙ ap (λ xs. plain.store c.number-in-Store.result (map plain_span xs) c.in-Store.sram) (sym c.deref-in-Store.ensures.value) ∙ ap (λ n. plain.store c.number-in-Store.result (map plain_span c.deref-in-Store.result.now) n) (sym c.number-in-Store-2.ensures) in
    subst (λ k. Runs mems k a.at s c.store.result c.store.new.self) (sym e) (λ can. c.store.ensures can)

pub statement-returns-in-Gather : goal.statement-returns-in-Gather
statement-returns-in-Gather t c =
    let a = c.args in
    let mems = map plain_mem a.decls.now in
    let s = a.self.now in
    let e = ap plain_stmt_kind c.in-Gather.is ∙ ap (λ n. plain.gather n c.in-Gather.dram c.in-Gather.places (plain_expr c.in-Gather.count)) (sym c.number-in-Gather.ensures) ∙ ap (λ n. plain.gather c.number-in-Gather.result n c.in-Gather.places (plain_expr c.in-Gather.count)) (sym c.number-in-Gather-2.ensures) ∙ ap (λ n. plain.gather c.number-in-Gather.result c.number-in-Gather-2.result n (plain_expr c.in-Gather.count)) (sym c.number-in-Gather-3.ensures) in
    subst (λ k. Runs mems k a.at s c.gather.result c.gather.new.self) (sym e) (λ can. c.gather.ensures can)

pub statement-returns-in-Scatter : goal.statement-returns-in-Scatter
statement-returns-in-Scatter t c =
    let a = c.args in
    let mems = map plain_mem a.decls.now in
    let s = a.self.now in
    let e = ap plain_stmt_kind c.in-Scatter.is ∙ ap (λ n. plain.scatter n c.in-Scatter.places (plain_expr c.in-Scatter.count) c.in-Scatter.sram) (sym c.number-in-Scatter.ensures) ∙ ap (λ n. plain.scatter c.number-in-Scatter.result n (plain_expr c.in-Scatter.count) c.in-Scatter.sram) (sym c.number-in-Scatter-2.ensures) ∙ ap (λ n. plain.scatter c.number-in-Scatter.result c.number-in-Scatter-2.result (plain_expr c.in-Scatter.count) n) (sym c.number-in-Scatter-3.ensures) in
    subst (λ k. Runs mems k a.at s c.scatter.result c.scatter.new.self) (sym e) (λ can. c.scatter.ensures can)
