use Rattle.std.proofs.Common.{arith}
use Rattle.sp_gen.proofs.DrawLemmas.{next_word, last_word}
use Rattle.sp_gen.proofs.draws.Draws.words.Goals as goal

pub loop-i-preserved : goal.loop-i-preserved
loop-i-preserved c = (
  omega (arith, c.loop-i-test.true),
  next_word _ _ _ _ _ _ _ _ c.loop-i-test.true c.in_ok-push.ensures.items c.draw.ensures.value c.draw.ensures.state c.loop-i.invariant.1,
)

-- none is left
pub returns : goal.returns
returns c = last_word _ _ _ _ _ (omega (arith, c.loop-i-test.false)) c.loop-i.invariant.1
