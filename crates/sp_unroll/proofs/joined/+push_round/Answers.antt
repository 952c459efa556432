use Rattle.std.proofs.Common.{◌++◌, ◌-◌, ◌∷◌, [], None, get_or, map, take, drop, length, sym, ap, ◌∙◌}
use Rattle.std.proofs.lemmas.List.{map-append}
use Rattle.sp_core.specs.Plain.{plain_ops}
use Rattle.sp_lanes.specs.Joined as joined
use Rattle.sp_lanes.specs.Joined.{one_round}
use Rattle.sp_unroll.specs.declared.joined.LaneWord.{LaneWord}
use Rattle.sp_unroll.specs.Words.{plain_word}
use Rattle.sp_unroll.proofs.JoinLemmas.{round_ops, round_words, first_two}
use Rattle.sp_unroll.proofs.joined.+push_round.Goals as goal

pub returns-clause-ops : goal.returns-clause-ops
returns-clause-ops t c =
    let by = c.args.by in
    let words = c.args.words.now in
    let none : LaneWord = record { place = 0; first = 0; last = 0; mask = None } in
    let others = take (length words - 1) (drop 1 words) in
    let rest = take (length others - 1) (drop 1 others) in
    let out = plain_ops c.args.ops.now.items in
    round_ops by.counter by.op by.ty out (plain_ops c.push_joined.new.ops.items) (plain_ops c.push_round.new.ops.items) (plain_word (get_or words 0 none)) (plain_word (get_or others 0 none)) (map plain_word rest)
    c.in_ok-word.ensures.ops c.in_ok-push_round.ensures.ops
    ∙ ap (λ x. out ++ (one_round by.counter by.op by.ty (length out) x).ops) (sym (first_two words none none c.in-len1-up.len_at_least c.in-len1-up-others.len_at_least))

pub returns-clause-words : goal.returns-clause-words
returns-clause-words t c =
    let by = c.args.by in
    let words = c.args.words.now in
    let none : LaneWord = record { place = 0; first = 0; last = 0; mask = None } in
    let others = take (length words - 1) (drop 1 words) in
    let rest = take (length others - 1) (drop 1 others) in
    let out = plain_ops c.args.ops.now.items in
    let was = c.args.out.now.items in
    round_words by.counter by.op by.ty out (plain_ops c.push_joined.new.ops.items) (map plain_word was) (map plain_word c.push-2.new.self.items) (map plain_word c.push_round.new.out.items)
    (plain_word (get_or words 0 none)) (plain_word (get_or others 0 none)) (map plain_word rest)
    c.in_ok-word.ensures.ops
    (ap (map plain_word) c.in_ok-push-2.ensures.items ∙ map-append plain_word was (c.in_ok-word.word ∷ []) ∙ ap (λ (x : joined.LaneWord). map plain_word was ++ x ∷ []) c.in_ok-word.ensures.word)
    c.in_ok-push_round.ensures.words
    ∙ ap (λ x. map plain_word was ++ (one_round by.counter by.op by.ty (length out) x).words) (sym (first_two words none none c.in-len1-up.len_at_least c.in-len1-up-others.len_at_least))
