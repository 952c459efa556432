use Rattle.std.proofs.Common.{◌==◌, ◌&&◌, not, [], ap, ◌∙◌}
use Rattle.sp_gates.specs.Tested.{is_on}
use Rattle.sp_gates.proofs.Growing.{Fills-join, HasNet-stays, IsOne-stays}
use Rattle.sp_gates.proofs.Running.{runs_earlier}
use Rattle.sp_sequence.proofs.Cycles.{twice_after}
use Rattle.sp_sequence.proofs.members.passed.Goals as goal

pub on_both-requires-clause-left : goal.on_both-requires-clause-left
on_both-requires-clause-left c = HasNet-stays _ _ _ _ c.in_ok-unwanted.ensures.fills.grows (c.requires.cause)

pub delay-requires-clause-one : goal.delay-requires-clause-one
delay-requires-clause-one c = IsOne-stays _ _ _ c.in_ok-skip.ensures.fills.grows (IsOne-stays _ _ _ c.in_ok-unwanted.ensures.fills.grows (c.requires.one))

pub returns-clause-fills : goal.returns-clause-fills
returns-clause-fills c = Fills-join _ _ _ [] _ c.in_ok-unwanted.ensures.fills (Fills-join _ _ _ [] _ c.in_ok-skip.ensures.fills (c.in_ok-net.ensures.fills))

pub returns-clause-passed : goal.returns-clause-passed
returns-clause-passed c = λ s r.
    let r_skip = runs_earlier _ _ s c.in_ok-net.ensures.fills.grows r in
    let r_unwanted = runs_earlier _ _ s c.in_ok-skip.ensures.fills.grows r_skip in
    twice_after (is_on s c.in_ok-net.net) (is_on s c.in_ok-skip.skip) (λ u. is_on s c.args.cause u && not (is_on s c.args.wanted u)) (λ t. ap (λ n. n == 1) (c.in_ok-net.ensures.later s r t)) (λ t l. ap (λ n. n == 1) (c.in_ok-net.ensures.before s r t l))
    (λ t. c.in_ok-skip.ensures.on s r_skip t ∙ ap (λ b. is_on s c.args.cause t && b) (c.in_ok-unwanted.ensures.on s r_unwanted t))
