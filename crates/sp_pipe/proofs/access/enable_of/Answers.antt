use Rattle.std.proofs.Common.{◌+◌, ◌==◌, ◌&&◌, [], ap, ap₂, sym, ◌∙◌}
use Rattle.sp_gates.specs.Tested.{is_on}
use Rattle.sp_gates.proofs.Growing.{Fills-join, IsOne-stays}
use Rattle.sp_gates.proofs.Running.{runs_earlier}
use Rattle.sp_pipe.specs.Values.{is_wanted, words_of}
use Rattle.sp_pipe.proofs.BitLemmas.{wanted_always}
use Rattle.sp_pipe.proofs.Kept.{stages_kept}
use Rattle.sp_pipe.proofs.access.enable_of.Goals as goal

pub operand-requires-clause-stages : goal.operand-requires-clause-stages
operand-requires-clause-stages c = stages_kept _ _ c.in_ok-late.ensures.fills.grows _ _ c.requires.stages

pub operand-requires-clause-one : goal.operand-requires-clause-one
operand-requires-clause-one c = IsOne-stays _ _ _ c.in_ok-late.ensures.fills.grows c.requires.one

pub returns-in-None-clause-enabled : goal.returns-in-None-clause-enabled
returns-in-None-clause-enabled c = λ s r u. ap (λ n. n == 1) (c.in_ok-late.ensures.later s r u) ∙ wanted_always (is_on s c.args.issue u) (words_of s u c.args.ops.now) c.args.op.now.mask c.in-None.is

pub returns-in_ok-net-in-Some-clause-fills : goal.returns-in_ok-net-in-Some-clause-fills
returns-in_ok-net-in-Some-clause-fills c = Fills-join _ _ _ [] [] c.in_ok-late.ensures.fills (Fills-join _ _ _ [] [] c.in_ok-wanted-in-Some.ensures.fills c.in_ok-net-in-Some.ensures.fills)

pub returns-in_ok-net-in-Some-clause-enabled : goal.returns-in_ok-net-in-Some-clause-enabled
returns-in_ok-net-in-Some-clause-enabled c = λ s r u.
    let n = c.in_ok-net-in-Some.ensures in
    let w = c.in_ok-wanted-in-Some.ensures in
    let l = c.in_ok-late.ensures in
    let before = runs_earlier _ _ s n.fills.grows r in
    n.on s r (u + c.args.op.now.time)
    ∙ ap₂ (λ a b. a && b) (ap (λ n. n == 1) (l.later s (runs_earlier _ _ s w.fills.grows before) u)) (ap (λ n. n == 1) (w.word s before u))
    ∙ ap (λ m. is_on s c.args.issue u && is_wanted (words_of s u c.args.ops.now) m) (sym c.in-Some.is)

pub returns-in_ok-net-in-Some-clause-early : goal.returns-in_ok-net-in-Some-clause-early
returns-in_ok-net-in-Some-clause-early c = λ s r t below.
    let n = c.in_ok-net-in-Some.ensures in
    let w = c.in_ok-wanted-in-Some.ensures in
    let l = c.in_ok-late.ensures in
    let before = runs_earlier _ _ s n.fills.grows r in
    n.on s r t ∙ ap (λ k. (k == 1) && is_on s c.in_ok-wanted-in-Some.wanted t) (l.before s (runs_earlier _ _ s w.fills.grows before) t below)
