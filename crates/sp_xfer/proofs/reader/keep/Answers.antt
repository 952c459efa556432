use Rattle.std.proofs.Common.{[]}
use Rattle.sp_gates.proofs.Growing.{Fills-join, HasNet-stays, IsOne-stays, reserved}
use Rattle.sp_gates.proofs.Running.{runs_earlier}
use Rattle.sp_mem.proofs.Waiting.{awaits_kept}
use Rattle.sp_xfer.proofs.Reading.{always_kept}
use Rattle.sp_xfer.proofs.reader.keep.Goals as goal

pub choose-requires-clause-choice : goal.choose-requires-clause-choice
choose-requires-clause-choice c = HasNet-stays _ _ _ _ c.in_ok-kept.ensures.opens.grows c.requires.comes

pub choose-requires-clause-left : goal.choose-requires-clause-left
choose-requires-clause-left c = HasNet-stays _ _ _ _ c.in_ok-kept.ensures.opens.grows c.requires.found

pub drive-requires-clause-net : goal.drive-requires-clause-net
drive-requires-clause-net c = awaits_kept _ _ _ _ c.in_ok-word.ensures.fills c.in_ok-kept.ensures.awaits

pub drive-requires-clause-enable : goal.drive-requires-clause-enable
drive-requires-clause-enable c = (IsOne-stays _ _ _ c.in_ok-word.ensures.fills.grows (IsOne-stays _ _ _ c.in_ok-kept.ensures.opens.grows c.requires.one)).net_stands

pub returns-clause-fills : goal.returns-clause-fills
returns-clause-fills c = reserved _ _ _ _ [] c.in_ok-kept.ensures.opens (Fills-join _ _ _ [] _ c.in_ok-word.ensures.fills c.in_ok-drive.ensures.fills)

pub returns-clause-word : goal.returns-clause-word
returns-clause-word c = HasNet-stays _ _ _ _ c.in_ok-drive.ensures.fills.grows c.in_ok-word.ensures.net

pub returns-clause-kept : goal.returns-clause-kept
returns-clause-kept c = HasNet-stays _ _ _ _ c.in_ok-drive.ensures.fills.grows (HasNet-stays _ _ _ _ c.in_ok-word.ensures.fills.grows c.in_ok-kept.ensures.net)

pub returns-clause-keeps : goal.returns-clause-keeps
returns-clause-keeps c = λ s r.
    let r_word = runs_earlier _ _ s c.in_ok-drive.ensures.fills.grows r in
    let r_kept = runs_earlier _ _ s c.in_ok-word.ensures.fills.grows r_word in
    record {
      now = c.in_ok-word.ensures.word s r_word;
      later = λ t. always_kept s _ _ _ t (c.in_ok-drive.ensures.word s r) ((IsOne-stays _ _ _ c.in_ok-kept.ensures.opens.grows c.requires.one).always s r_kept t);
    }
