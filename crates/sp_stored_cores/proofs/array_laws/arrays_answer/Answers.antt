use Rattle.sp_stored_cores.proofs.ArrayWhole.{arrays_answer}
use Rattle.sp_stored_cores.proofs.array_laws.arrays_answer.Goals as goal

pub returns : goal.returns
returns c core plan delays =
    arrays_answer core plan delays c.picks_accesses_to.ensures (c.operations_stay.ensures core plan) (λ s events m last number touch. c.operations_go.ensures core plan s events m last number touch) (c.runs_hold_words.ensures core plan delays)
