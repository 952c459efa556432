use Rattle.std.proofs.Common.{◌≡◌, ◌++◌, ◌-◌, [], take, drop, length, map, arith, refl, sym, ap, ◌∙◌}
use Rattle.sp_core.specs.Plain.{plain_ops}
use Rattle.sp_lanes.specs.Combined.{meeting_in_order, moved_place}
use Rattle.sp_unroll.specs.Bodies.{plain_body}
use Rattle.sp_unroll.specs.Words.{plain_word, plain_meeting}
use Rattle.sp_unroll.proofs.CombineLemmas.{all_from, choice_made, fold_made}
use Rattle.sp_unroll.proofs.combined.push_in_order.Goals as goal

pub returns-then-is_last_choice : goal.returns-then-is_last_choice
returns-then-is_last_choice c =
    let m = plain_meeting c.args.m in
    let out = plain_ops c.args.ops.now.items in
    let words = map plain_word c.args.words.now in
    let ops = c.args.combination.now in
    let count = c.count_up_to-count.result in
    let rest = take (length ops - count) (drop count ops) in
    let at = c.in_ok-at.at in
    let to = c.first_place-to.result in
    let left = c.in_ok-left.left in
    let ended = c.in_ok-ended.ended in
    let others = map plain_word c.without_first-others.result.now in
    choice_made c.args.counter c.args.first (map plain_body c.args.lanes.now) m out words ops others (take count ops) rest (plain_ops c.push_in_turn.new.ops.items) count at to left ended c.in_ok-places.places.items
    c.count_up_to-count.ensures.count (c.in_ok-at.ensures ∙ ap (λ l. length (plain_ops l)) c.deref.ensures.value) c.first_place-to.ensures c.in_ok-left.ensures c.in_ok-ended.ensures c.in_ok-places.ensures c.without_first-others.ensures refl (all_from count ops)
    (sym c.is_last_choice.ensures ∙ c.if-is_last_choice.true)
    (c.in_ok-push_in_turn.ensures
    ∙ ap (λ p. out ++ meeting_in_order c.args.counter c.args.first [] (length out) m (moved_place c.args.first at m.word to p) (plain_ops (take count ops)) left others ended (plain_ops rest)) c.deref-then-is_last_choice.ensures.value)

pub returns : goal.returns
returns c =
    let m = plain_meeting c.args.m in
    let out = plain_ops c.args.ops.now.items in
    let words = map plain_word c.args.words.now in
    let ops = c.args.combination.now in
    let count = c.count_up_to-count.result in
    let rest = take (length ops - count) (drop count ops) in
    let at = c.in_ok-at.at in
    let to = c.first_place-to.result in
    let left = c.in_ok-left-2.left in
    let ended = c.in_ok-ended.ended in
    let less = c.saturating_sub.result in
    let z : less ≡ count - 1 = omega (arith, c.saturating_sub.ensures) in
    fold_made c.args.counter c.args.first (map plain_body c.args.lanes.now) m out words ops (take count ops) (take less ops) rest (plain_ops c.push_in_turn-2.new.ops.items) count at to c.last_left.result left ended c.in_ok-places.places.items
    c.count_up_to-count.ensures.count (c.in_ok-at.ensures ∙ ap (λ l. length (plain_ops l)) c.deref.ensures.value) c.first_place-to.ensures c.last_left.ensures
    (c.in_ok-left-2.ensures ∙ ap (λ p. moved_place c.args.first at m.word to p c.last_left.result) c.deref-2.ensures.value)
    c.in_ok-ended.ensures c.in_ok-places.ensures refl (ap (λ k. take k ops) z) (all_from count ops)
    (sym c.is_last_choice.ensures ∙ c.if-is_last_choice.false)
    (c.in_ok-push_in_turn-2.ensures
    ∙ ap (λ p. out ++ meeting_in_order c.args.counter c.args.first [] (length out) m (moved_place c.args.first at m.word to p) (plain_ops (take less ops)) left words ended (plain_ops rest)) c.deref-3.ensures.value)
