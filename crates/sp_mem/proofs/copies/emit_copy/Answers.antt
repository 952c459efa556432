use Rattle.std.proofs.Common.{[], ◌∷◌, ◌∙◌, ap, subst}
use Rattle.sp_gates.specs.Nets.{HasNet}
use Rattle.sp_gates.proofs.Growing.{Fills-join, HasNet-stays, IsOne-stays, reserved}
use Rattle.sp_gates.proofs.Running.{runs_earlier}
use Rattle.sp_mem.specs.Copies.{freshened, written}
use Rattle.sp_mem.proofs.Holding.{copy_runs}
use Rattle.sp_mem.proofs.Kept.{fresh_kept, writes_kept}
use Rattle.sp_mem.proofs.Waiting.{awaits_kept}
use Rattle.sp_mem.proofs.copies.emit_copy.Goals as goal

pub made_fresh-requires-clause-fresh : goal.made_fresh-requires-clause-fresh
made_fresh-requires-clause-fresh c = rw c.deref.ensures.value (fresh_kept _ _ c.in_ok-net.ensures.opens.grows _ c.requires.fits.fresh)

pub after_writes-requires-clause-writes : goal.after_writes-requires-clause-writes
after_writes-requires-clause-writes c =
    rw (c.deref-2.ensures.value, c.width-width.ensures.value) (writes_kept _ _ c.in_ok-begun.ensures.fills.grows _ _ (writes_kept _ _ c.in_ok-net.ensures.opens.grows _ _ c.requires.fits.writes))

pub drive-requires-clause-net : goal.drive-requires-clause-net
drive-requires-clause-net c = awaits_kept _ _ _ _ c.in_ok-next.ensures.fills (awaits_kept _ _ _ _ c.in_ok-begun.ensures.fills c.in_ok-net.ensures.awaits)

pub drive-requires-clause-enable : goal.drive-requires-clause-enable
drive-requires-clause-enable c =
    (IsOne-stays _ _ _ c.in_ok-next.ensures.fills.grows (IsOne-stays _ _ _ c.in_ok-begun.ensures.fills.grows (IsOne-stays _ _ _ c.in_ok-net.ensures.opens.grows c.requires.one))).net_stands

pub returns-clause-net : goal.returns-clause-net
returns-clause-net c =
    subst (HasNet c.drive.new.builder c.in_ok-net.net) c.width-width.ensures.value
    (HasNet-stays _ _ _ _ c.in_ok-drive.ensures.fills.grows (HasNet-stays _ _ _ _ c.in_ok-next.ensures.fills.grows (HasNet-stays _ _ _ _ c.in_ok-begun.ensures.fills.grows c.in_ok-net.ensures.net)))

pub returns-clause-fills : goal.returns-clause-fills
returns-clause-fills c =
    reserved _ _ _ c.in_ok-net.net [] c.in_ok-net.ensures.opens
    (Fills-join _ _ _ [] (c.in_ok-net.net ∷ []) c.in_ok-begun.ensures.fills (Fills-join _ _ _ [] (c.in_ok-net.net ∷ []) c.in_ok-next.ensures.fills c.in_ok-drive.ensures.fills))

pub returns-clause-runs : goal.returns-clause-runs
returns-clause-runs c = λ s run.
    let third = runs_earlier _ _ s c.in_ok-drive.ensures.fills.grows run in
    let second = runs_earlier _ _ s c.in_ok-next.ensures.fills.grows third in
    let first = runs_earlier _ _ s c.in_ok-begun.ensures.fills.grows second in
    let before = runs_earlier _ _ s c.in_ok-net.ensures.opens.grows first in
    copy_runs s c.args.part.now c.args.number c.in_ok-net.net c.in_ok-begun.begun c.in_ok-next.next c.args.first c.args.one c.first_of.result (c.in_ok-drive.ensures.word s run) c.first_of.ensures (c.requires.one.always s before)
    (λ t. c.in_ok-begun.ensures.word s second t ∙ ap (λ fs. freshened s t c.args.number (s.net t c.args.first) fs (s.net t c.in_ok-net.net)) c.deref.ensures.value)
    (λ t. c.in_ok-next.ensures.word s third t ∙ ap (λ ws. written s t c.args.number ws (s.net t c.in_ok-begun.begun)) c.deref-2.ensures.value)
    (c.requires.first_word s before)
