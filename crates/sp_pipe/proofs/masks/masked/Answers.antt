use Rattle.std.proofs.Common.{◌+◌, []}
use Rattle.sp_gates.proofs.Growing.{Fills-join, HasNet-stays, IsOne-stays}
use Rattle.sp_gates.proofs.Running.{runs_earlier}
use Rattle.sp_pipe.specs.Values.{time_of}
use Rattle.sp_pipe.proofs.MaskLemmas.{no_earlier, mask_taken, masked_word}
use Rattle.sp_pipe.proofs.masks.masked.Goals as goal

pub operand-requires-clause-taken : goal.operand-requires-clause-taken
operand-requires-clause-taken c = mask_taken _ c.args.op.now.act c.args.op.now.mask _ c.args.op.now.time _ c.in-Some.is c.requires.fits.mask c.time_of-time.ensures

pub delay-requires-clause-one : goal.delay-requires-clause-one
delay-requires-clause-one c = IsOne-stays _ _ _ c.in_ok-wanted-in-Some.ensures.fills.grows c.requires.one

pub choose-requires-clause-choice : goal.choose-requires-clause-choice
choose-requires-clause-choice c = HasNet-stays _ _ _ _ c.in_ok-zero-in-Some.ensures.fills.grows (HasNet-stays _ _ _ _ c.in_ok-late-in-Some.ensures.fills.grows c.in_ok-wanted-in-Some.ensures.net)

pub choose-requires-clause-left : goal.choose-requires-clause-left
choose-requires-clause-left c = HasNet-stays _ _ _ _ c.in_ok-zero-in-Some.ensures.fills.grows c.in_ok-late-in-Some.ensures.net

pub returns-in_ok-word-in-Some-clause-fills : goal.returns-in_ok-word-in-Some-clause-fills
returns-in_ok-word-in-Some-clause-fills c =
    Fills-join _ _ _ [] [] c.in_ok-wanted-in-Some.ensures.fills (Fills-join _ _ _ [] [] c.in_ok-late-in-Some.ensures.fills (Fills-join _ _ _ [] [] c.in_ok-zero-in-Some.ensures.fills c.in_ok-word-in-Some.ensures.fills))

pub returns-in_ok-word-in-Some-clause-word : goal.returns-in_ok-word-in-Some-clause-word
returns-in_ok-word-in-Some-clause-word c = λ s r u.
    let word = c.in_ok-word-in-Some.ensures in
    let zero = c.in_ok-zero-in-Some.ensures in
    let late = c.in_ok-late-in-Some.ensures in
    let wanted = c.in_ok-wanted-in-Some.ensures in
    let third = runs_earlier _ _ s word.fills.grows r in
    let second = runs_earlier _ _ s zero.fills.grows third in
    let first = runs_earlier _ _ s late.fills.grows second in
    masked_word s u c.args.ops.now c.args.op.now.mask c.in-Some.mask c.in-Some.is _ _ c.time_of-time.result c.word_time.result c.time_of-time.ensures c.word_time.ensures (no_earlier c.args.op.now.act c.args.op.now.mask c.args.op.now.time) _ _ _ _ _
    (word.word s r (u + c.time_of-time.result)) (wanted.word s first u) (late.later s second) (zero.word s third (u + c.time_of-time.result))
