use Rattle.std.proofs.Common.{◌≡◌, ◌-◌, length, map, arith, ap, ◌∙◌}
use Rattle.sp_core.specs.Plain.{plain_ops}
use Rattle.sp_unroll.specs.Words.{plain_word, plain_meeting, here_of}
use Rattle.sp_unroll.proofs.CombineLemmas.{turn_made}
use Rattle.sp_unroll.proofs.combined.push_in_turn.Goals as goal

pub returns : goal.returns
returns c =
    let two = plain_ops c.push_met.new.ops.items in
    let n : c.in_ok-next.next ≡ length two = c.in_ok-next.ensures ∙ ap (λ l. length (plain_ops l)) c.deref.ensures.value in
    let s : c.saturating_sub-stands.result ≡ length two - 1 = omega (arith, n, c.saturating_sub-stands.ensures) in
    turn_made c.args.counter c.args.moved.first (plain_meeting c.args.m) (plain_ops c.args.ops.now.items) (here_of c.args.moved c.args.places.now) (map plain_word c.args.words.now)
    (plain_ops c.args.before.now) (plain_ops c.push_moved.new.ops.items) two (plain_ops c.push_moved-2.new.ops.items) (plain_ops c.args.after.now) c.args.left c.args.ended c.saturating_sub-stands.result
    c.in_ok-push_moved.ensures c.in_ok-push_met.ensures s c.in_ok-push_moved-2.ensures
