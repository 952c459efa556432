use Rattle.std.proofs.Common.{Some, ◌<◌, ◌+◌, ◌-◌, ◌%◌, length, sym, refl, ap, ◌∙◌, arith}
use Rattle.sp_seq.specs.Rows.{first, rest, window}
use Rattle.sp_seq.proofs.RingLemmas.{window-pop}
use Rattle.sp_seq.proofs.ring.Ring.pop.Goals as goal

pub returns-clause-oldest : goal.returns-clause-oldest
returns-clause-oldest c =
    let q = c.self.inside in
    let some : 0 < q.len = omega arith in
    let split = window-pop (length q.slots.words) q.oldest q.len q.slots.words c.self.invariant.0 c.self.invariant.1 refl some in
    ap Some c.get-word.ensures.word ∙ ap first (sym split) ∙ ap (λ v. first v.words) c.self.view_is

pub returns-clause-rest : goal.returns-clause-rest
returns-clause-rest c =
    let q = c.self.inside in
    let some : 0 < q.len = omega arith in
    let split = window-pop (length q.slots.words) q.oldest q.len q.slots.words c.self.invariant.0 c.self.invariant.1 refl some in
    ap (λ n. window ((q.oldest + 1) % n) (q.len - 1) q.slots.words) c.len.ensures ∙ ap rest (sym split) ∙ ap (λ v. rest v.words) c.self.view_is
