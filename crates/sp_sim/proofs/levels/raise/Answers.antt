use Rattle.std.proofs.Common.{◌≡◌, ◌+◌, ◌∙◌, ap, max}
use Rattle.sp_sim.specs.Levels.{raised}
use Rattle.sp_sim.specs.Rows.{word_of, with_word}
use Rattle.sp_sim.proofs.levels.raise.Goals as goal

pub returns : goal.returns
unfolding raised
returns c =
    let s = c.args.step.now in
    let w = word_of c.args.levels.now in
    let first = c.get-first.ensures in
    let second = c.get-second.ensures in
    let third = c.get-third.ensures in
    let lower = c.max.ensures in
    let upper = c.max-2.ensures in
    let all : c.max-2.result ≡ max (max (w s.first) (w s.second)) (w s.third) = cc in
    c.put.ensures ∙ ap (λ k. with_word c.args.levels.now s.net (k + 1)) all
