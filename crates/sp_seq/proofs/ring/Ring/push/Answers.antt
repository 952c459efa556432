use Rattle.std.proofs.Common.{◌<◌, ◌+◌, ◌%◌, ◌++◌, ◌∷◌, [], set, length, refl, ap, ◌∙◌, arith}
use Rattle.sp_seq.specs.Rows.{window}
use Rattle.sp_seq.proofs.RingLemmas.{length-window, window-push}
use Rattle.sp_seq.proofs.ring.Ring.push.Goals as goal

pub returns-clause-words : goal.returns-clause-words
returns-clause-words c =
    let q = c.self.inside in
    let xs = q.slots.words in
    let old = length-window (length xs) q.oldest q.len xs c.self.invariant.0 c.self.invariant.1 refl in
    let same = ap (λ v. length v.words) c.self.view_is in
    let wide = ap (λ v. v.room) c.self.view_is in
    let has_room : q.len < length xs = omega arith in
    ap (window q.oldest (q.len + 1)) (c.set.ensures.words ∙ ap (λ n. set xs ((q.oldest + q.len) % n) c.args.word) c.len.ensures)
    ∙ window-push (length xs) q.oldest q.len xs c.self.invariant.0 c.self.invariant.1 refl c.args.word has_room
    ∙ ap (λ v. v.words ++ c.args.word ∷ []) c.self.view_is
