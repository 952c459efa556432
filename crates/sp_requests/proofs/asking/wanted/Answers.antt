use Rattle.std.proofs.Common.{[]}
use Rattle.sp_gates.specs.Tested.{is_on}
use Rattle.sp_gates.proofs.Growing.{Fills-join, HasNet-stays}
use Rattle.sp_gates.proofs.Running.{runs_earlier}
use Rattle.sp_mem.proofs.CopyLemmas.{is_same}
use Rattle.sp_requests.proofs.Kept.{is_here}
use Rattle.sp_requests.proofs.asking.wanted.Goals as goal

pub on_both-requires-2-clause-left : goal.on_both-requires-2-clause-left
on_both-requires-2-clause-left c =
    HasNet-stays _ _ _ _ c.in_ok-here.ensures.fills.grows (HasNet-stays _ _ _ _ c.in_ok-same_bank.ensures.fills.grows (HasNet-stays _ _ _ _ c.in_ok-same_copy.ensures.fills.grows c.requires.enable))

pub returns-clause-fills : goal.returns-clause-fills
returns-clause-fills c =
    Fills-join _ _ _ [] [] c.in_ok-same_copy.ensures.fills (Fills-join _ _ _ [] [] c.in_ok-same_bank.ensures.fills (Fills-join _ _ _ [] [] c.in_ok-here.ensures.fills c.in_ok-net.ensures.fills))

pub returns-clause-on : goal.returns-clause-on
returns-clause-on c = λ s run t.
    let third = runs_earlier _ _ s c.in_ok-net.ensures.fills.grows run in
    let second = runs_earlier _ _ s c.in_ok-here.ensures.fills.grows third in
    let first = runs_earlier _ _ s c.in_ok-same_bank.ensures.fills.grows second in
    is_here (is_on s c.in_ok-net.net t) (is_on s c.in_ok-here.here t) (is_on s c.args.request.now.enable t) (is_on s c.in_ok-same_copy.same_copy t) (is_on s c.in_ok-same_bank.same_bank t) (s.net t c.args.request.now.copy) (s.net t c.args.request.now.bank) _ _ c.args.copy c.args.bank
    (c.in_ok-net.ensures.on s run t) (c.in_ok-here.ensures.on s third t)
    (is_same _ _ _ (c.in_ok-same_copy.ensures.word s first t)) (is_same _ _ _ (c.in_ok-same_bank.ensures.word s second t)) c.from.ensures c.from-2.ensures
