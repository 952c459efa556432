use Rattle.std.proofs.Common.{◌≡◌, ◌<◌, ◌+◌, ◌∷◌, map, length, take, drop, sym, ◌∙◌, ap, subst, arith, All}
use Rattle.std.proofs.lemmas.List.{length-map, take_more_set, drop_more, drop_all, get_or-map, map_push}
use Rattle.std.proofs.lemmas.List.Elements.{All-push}
use Rattle.sp_tree.specs.Plain.{plain_mem}
use Rattle.sp_tree.specs.PlainTree.{plain_counter}
use Rattle.sp_tree.specs.Sequential.{counter_range}
use Rattle.sp_tree.specs.Step.{went}
use Rattle.sp_seq.specs.Looping.{values, IsStart}
use Rattle.sp_seq.specs.States.{store_of}
use Rattle.sp_seq.proofs.CountLemmas.{bounds_typed}
use Rattle.sp_seq.proofs.LoopLemmas.{left_of, left_none, left_over, left_more, left_halted}
use Rattle.sp_seq.proofs.SeesLemmas.{setting_later, keeps_same, keeps_on}
use Rattle.sp_seq.proofs.StepLemmas.{ran_stop_with}
use Rattle.sp_seq.proofs.state.State.ranges.Goals as goal

pub loop-k-init : goal.loop-k-init
loop-k-init c =
    let a = c.args in
    let s = a.self.now in
    record { so_far = left_none (counter_range (map plain_mem a.decls.now)) s.left (store_of s) (map plain_counter a.counters.now); keeps = keeps_same s; starts = λ k d l. absurd (omega arith) }

pub range_of-requires : goal.range_of-requires
range_of-requires c =
    let can = c.requires.can in
    record { setting = setting_later can.setting c.loop-k.invariant.keeps; typed = bounds_typed can.setting.program can.setting.scope c.args.counters.now can.typed c.loop-k.k c.index-counters-k.result c.loop-k-test.true c.index-counters-k.is }

pub returns-in_err-range-clause-ran : goal.returns-in_err-range-clause-ran
returns-in_err-range-clause-ran c =
    let a = c.args in
    let step = counter_range (map plain_mem a.decls.now) in
    let now = c.loop-k.self in
    let inv = c.loop-k.invariant in
    let k = c.loop-k.k in
    let xs = map plain_counter a.counters.now in
    let x = c.index-counters-k.result in
    let inside : k < length xs = omega (arith, c.loop-k-test.true, length-map a.counters.now plain_counter) in
    let split = drop_more xs k (plain_counter x) inside ∙ ap (λ y. y ∷ drop (k + 1) xs) (get_or-map plain_counter a.counters.now k x (plain_counter x) c.loop-k-test.true ∙ ap plain_counter (sym c.index-counters-k.is)) in
    let done = map values (take k c.loop-k.digits) in
    ran_stop_with _ _ _ _ c.in_err-range.field-0.0 c.from_residual.ensures.1
    (inv.so_far ∙ ap (λ ys. left_of step done ys now.left (store_of now)) split ∙ left_halted step now.left (store_of now) done (plain_counter x) (drop (k + 1) xs) c.in_err-range.field-0.0 c.in_err-range.ensures.ran)

pub loop-k-preserved : goal.loop-k-preserved
loop-k-preserved c =
    let a = c.args in
    let step = counter_range (map plain_mem a.decls.now) in
    let now = c.loop-k.self in
    let inv = c.loop-k.invariant in
    let k = c.loop-k.k in
    let found = c.loop-k.digits in
    let xs = map plain_counter a.counters.now in
    let x = c.index-counters-k.result in
    let inside : k < length xs = omega (arith, c.loop-k-test.true, length-map a.counters.now plain_counter) in
    let split = drop_more xs k (plain_counter x) inside ∙ ap (λ y. y ∷ drop (k + 1) xs) (get_or-map plain_counter a.counters.now k x (plain_counter x) c.loop-k-test.true ∙ ap plain_counter (sym c.index-counters-k.is)) in
    let done = map values (take k found) in
    let t = c.range_of.new.self in
    let d = c.in_ok-range.range in
    let more = take_more_set found k d (omega arith) in
    record {
      so_far = inv.so_far ∙ ap (λ ys. left_of step done ys now.left (store_of now)) split ∙ left_more step now.left (store_of now) done (plain_counter x) (drop (k + 1) xs) (values d) t.left (store_of t) c.in_ok-range.ensures.ran
          ∙ ap (λ vs. left_of step vs (drop (k + 1) xs) t.left (store_of t)) (sym (ap (map values) more ∙ map_push values (take k found) d));
      keeps = keeps_on _ _ _ inv.keeps c.in_ok-range.ensures.keeps;
      starts = subst (All IsStart) (sym more) (All-push IsStart (take k found) d inv.starts c.in_ok-range.ensures.start);
    }

pub returns-clause-ran : goal.returns-clause-ran
returns-clause-ran c =
    let a = c.args in
    let step = counter_range (map plain_mem a.decls.now) in
    let now = c.loop-k.self in
    let inv = c.loop-k.invariant in
    let k = c.loop-k.k in
    let found = c.loop-k.digits in
    let xs = map plain_counter a.counters.now in
    let over : k ≡ length a.counters.now = omega arith in
    inv.so_far ∙ ap (λ ys. left_of step (map values (take k found)) ys now.left (store_of now)) (drop_all k xs (omega (arith, length-map a.counters.now plain_counter)))
    ∙ left_over step now.left (store_of now) (map values (take k found)) ∙ ap (λ n. went (map values (take n found)) now.left (store_of now)) over

pub returns-clause-keeps : goal.returns-clause-keeps
returns-clause-keeps c = c.loop-k.invariant.keeps

pub returns-clause-starts : goal.returns-clause-starts
returns-clause-starts c =
    let over : c.loop-k.k ≡ length c.args.counters.now = omega arith in
    subst (λ n. All IsStart (take n c.loop-k.digits)) over c.loop-k.invariant.starts
