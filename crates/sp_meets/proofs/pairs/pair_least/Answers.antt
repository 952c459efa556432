use Rattle.std.proofs.Common.{◌∙◌, false, true, length}
use Rattle.sp_meets.specs.Plain.{plain_view}
use Rattle.sp_meets.proofs.PairLemmas.{in_group, no_more, one_group, some_counters, group_test, later_of}
use Rattle.sp_meets.proofs.pairs.pair_least.Goals as goal

pub returns-then-meet_in_group : goal.returns-then-meet_in_group
returns-then-meet_in_group c = λ P Q e f can m.
    let v = plain_view c.args.v.now in
    let w = plain_view c.args.w.now in
    in_group c.args.chip v w c.args.before P Q
    (group_test c.args.chip v w c.args.before P Q c.args.mem c.share_port-shares.result m c.share_port-shares.ensures c.meet_in_group.result (c.meet_in_group.ensures P Q e f can) ∙ c.if-meet_in_group.true)

pub returns-then-has_one_group : goal.returns-then-has_one_group
returns-then-has_one_group c = λ P Q e f can m.
    let v = plain_view c.args.v.now in
    let w = plain_view c.args.w.now in
    no_more c.args.chip v w c.args.before P Q
    (group_test c.args.chip v w c.args.before P Q c.args.mem c.share_port-shares.result m c.share_port-shares.ensures c.meet_in_group.result (c.meet_in_group.ensures P Q e f can) ∙ c.if-meet_in_group.false)
    (one_group v c.args.p.now P c.args.mem c.has_one_group.result true e c.requires.a m c.has_one_group.ensures c.if-has_one_group.true)

pub returns : goal.returns
returns c = λ P Q e f can m.
    let v = plain_view c.args.v.now in
    let w = plain_view c.args.w.now in
    let on = one_group v c.args.p.now P c.args.mem c.has_one_group.result false e c.requires.a m c.has_one_group.ensures c.if-has_one_group.false in
    later_of c.args.chip v w c.args.before P Q c.args.mem c.share_port-shares.result m c.share_port-shares.ensures c.later_least.result
    (group_test c.args.chip v w c.args.before P Q c.args.mem c.share_port-shares.result m c.share_port-shares.ensures c.meet_in_group.result (c.meet_in_group.ensures P Q e f can) ∙ c.if-meet_in_group.false)
    on (c.later_least.ensures P Q e f can (some_counters (length P.common) _ on))
