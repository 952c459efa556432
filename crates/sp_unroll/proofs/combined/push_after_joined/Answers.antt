use Rattle.std.proofs.Common.{◌++◌, length, map, sym, ap, ◌∙◌}
use Rattle.std.proofs.lemmas.List.{length-map}
use Rattle.sp_core.specs.Plain.{plain_ops}
use Rattle.sp_lanes.specs.Combined.{moved, moved_place, first_place}
use Rattle.sp_unroll.specs.Bodies.{plain_body}
use Rattle.sp_unroll.specs.Words.{plain_word, plain_meeting}
use Rattle.sp_unroll.proofs.CombineLemmas.{after_made}
use Rattle.sp_unroll.proofs.combined.push_after_joined.Goals as goal

pub returns : goal.returns
returns c =
    let all = plain_ops c.push_rounds.new.ops.items in
    let combination = plain_ops c.args.combination.now in
    let at = c.in_ok-at.at in
    let to = c.first_place-to.result in
    after_made c.args.counter c.args.first (plain_meeting c.args.m) (plain_ops c.args.ops.now.items) (map plain_body c.args.lanes.now) (map plain_word c.args.words.now) (map plain_word c.in_ok-joined.joined.items)
    all (plain_ops c.push_moved.new.ops.items) combination (length c.args.words.now) at to c.in_ok-places.places.items
    (sym (length-map c.args.words.now plain_word)) c.in_ok-joined.ensures.ops c.in_ok-joined.ensures.words
    (c.in_ok-at.ensures ∙ ap (λ l. length (plain_ops l)) c.deref.ensures.value)
    (c.first_place-to.ensures ∙ ap (λ l. first_place (map plain_word l)) c.deref-2.ensures.value)
    c.in_ok-places.ensures
    (c.in_ok-push_moved.ensures ∙ ap (λ p. all ++ moved (moved_place c.args.first at c.args.m.word to p) combination) c.deref-3.ensures.value)
