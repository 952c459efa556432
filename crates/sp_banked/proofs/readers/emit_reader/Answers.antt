use Rattle.std.proofs.Common.{[], ◌∷◌}
use Rattle.sp_gates.proofs.Growing.{Fills-join, HasNet-stays, IsOne-stays}
use Rattle.sp_gates.proofs.Running.{runs_earlier}
use Rattle.sp_mem.proofs.Waiting.{awaits_kept}
use Rattle.sp_banked.proofs.Reading.{founds_kept, reader_runs}
use Rattle.sp_banked.proofs.readers.emit_reader.Goals as goal

pub found_of-requires-clause-stores : goal.found_of-requires-clause-stores
found_of-requires-clause-stores c = founds_kept _ _ c.args.width c.args.stores.now c.in_ok-bank.ensures.fills.grows (founds_kept _ _ c.args.width c.args.stores.now c.in_ok-copy.ensures.fills.grows c.requires.stores)

pub drive-requires-clause-net : goal.drive-requires-clause-net
drive-requires-clause-net c = awaits_kept _ _ _ _ c.in_ok-word.ensures.fills (awaits_kept _ _ _ _ c.in_ok-bank.ensures.fills (awaits_kept _ _ _ _ c.in_ok-copy.ensures.fills c.requires.word))

pub drive-requires-clause-enable : goal.drive-requires-clause-enable
drive-requires-clause-enable c =
    (IsOne-stays _ _ _ c.in_ok-word.ensures.fills.grows (IsOne-stays _ _ _ c.in_ok-bank.ensures.fills.grows (IsOne-stays _ _ _ c.in_ok-copy.ensures.fills.grows c.requires.one))).net_stands

pub returns-clause-fills : goal.returns-clause-fills
returns-clause-fills c =
    Fills-join _ _ _ [] (c.args.request.now.word ∷ []) c.in_ok-copy.ensures.fills
    (Fills-join _ _ _ [] (c.args.request.now.word ∷ []) c.in_ok-bank.ensures.fills (Fills-join _ _ _ [] (c.args.request.now.word ∷ []) c.in_ok-word.ensures.fills c.in_ok-drive.ensures.fills))

pub returns-clause-runs : goal.returns-clause-runs
returns-clause-runs c = λ s run.
    let third = runs_earlier _ _ s c.in_ok-drive.ensures.fills.grows run in
    let second = runs_earlier _ _ s c.in_ok-word.ensures.fills.grows third in
    let first = runs_earlier _ _ s c.in_ok-bank.ensures.fills.grows second in
    let before = runs_earlier _ _ s c.in_ok-copy.ensures.fills.grows first in
    reader_runs s c.args.stores.now c.args.lines c.args.banks c.in_ok-copy.copy c.in_ok-bank.bank c.in_ok-word.word c.args.one c.args.request.now (c.requires.one.always s before)
    (c.in_ok-copy.ensures.word s first) (c.in_ok-bank.ensures.word s second) (λ t. c.in_ok-word.ensures.word s third t) (c.in_ok-drive.ensures.word s run)

pub found_of-requires-clause-copy : goal.found_of-requires-clause-copy
found_of-requires-clause-copy c = HasNet-stays _ _ _ _ c.in_ok-bank.ensures.fills.grows c.in_ok-copy.ensures.net
