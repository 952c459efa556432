use Rattle.std.proofs.Common.{[]}
use Rattle.sp_gates.specs.Tested.{is_on}
use Rattle.sp_gates.proofs.Growing.{Fills-join, HasNet-stays}
use Rattle.sp_gates.proofs.Running.{runs_earlier}
use Rattle.sp_mem.proofs.CopyLemmas.{is_same}
use Rattle.sp_banked.proofs.Reading.{chosen_at}
use Rattle.sp_banked.proofs.readers.found_at.Goals as goal

pub choose-requires-clause-left : goal.choose-requires-clause-left
choose-requires-clause-left c =
    HasNet-stays _ _ _ _ c.in_ok-here.ensures.fills.grows (HasNet-stays _ _ _ _ c.in_ok-same_bank.ensures.fills.grows (HasNet-stays _ _ _ _ c.in_ok-same_copy.ensures.fills.grows c.requires.found))

pub choose-requires-clause-right : goal.choose-requires-clause-right
choose-requires-clause-right c =
    HasNet-stays _ _ _ _ c.in_ok-here.ensures.fills.grows (HasNet-stays _ _ _ _ c.in_ok-same_bank.ensures.fills.grows (HasNet-stays _ _ _ _ c.in_ok-same_copy.ensures.fills.grows c.requires.other))

pub returns-clause-fills : goal.returns-clause-fills
returns-clause-fills c =
    Fills-join _ _ _ [] [] c.in_ok-same_copy.ensures.fills (Fills-join _ _ _ [] [] c.in_ok-same_bank.ensures.fills (Fills-join _ _ _ [] [] c.in_ok-here.ensures.fills c.in_ok-net.ensures.fills))

pub returns-clause-word : goal.returns-clause-word
returns-clause-word c = λ s run t.
    let third = runs_earlier _ _ s c.in_ok-net.ensures.fills.grows run in
    let second = runs_earlier _ _ s c.in_ok-here.ensures.fills.grows third in
    let first = runs_earlier _ _ s c.in_ok-same_bank.ensures.fills.grows second in
    chosen_at (is_on s c.in_ok-here.here t) (is_on s c.in_ok-same_copy.same_copy t) (is_on s c.in_ok-same_bank.same_bank t) _ (s.net t c.args.copy) (s.net t c.args.bank) _ _ _ _ _ _
    (c.in_ok-net.ensures.word s run t) (c.in_ok-here.ensures.on s third t)
    (is_same _ _ _ (c.in_ok-same_copy.ensures.word s first t)) (is_same _ _ _ (c.in_ok-same_bank.ensures.word s second t)) c.from.ensures c.from-2.ensures
