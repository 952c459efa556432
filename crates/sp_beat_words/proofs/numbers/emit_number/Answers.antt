use Rattle.std.proofs.Common.{[], ◌∙◌}
use Rattle.sp_gates.specs.Tested.{is_on}
use Rattle.sp_gates.proofs.Growing.{Fills-join, HasNet-stays}
use Rattle.sp_gates.proofs.Running.{runs_earlier}
use Rattle.sp_sequence.proofs.Waiting.{awaits_kept}
use Rattle.sp_beat_words.proofs.Counting.{numbers_are, coming_are}
use Rattle.sp_beat_words.proofs.numbers.emit_number.Goals as goal

pub choose-requires-clause-choice : goal.choose-requires-clause-choice
choose-requires-clause-choice c = HasNet-stays _ _ _ _ c.in_ok-after.ensures.fills.grows (HasNet-stays _ _ _ _ c.in_ok-last.ensures.fills.grows (HasNet-stays _ _ _ _ c.in_ok-always.ensures.fills.grows (c.requires.turn.first)))

pub choose-requires-2-clause-choice : goal.choose-requires-2-clause-choice
choose-requires-2-clause-choice c = HasNet-stays _ _ _ _ c.in_ok-coming.ensures.fills.grows (HasNet-stays _ _ _ _ c.in_ok-after.ensures.fills.grows (HasNet-stays _ _ _ _ c.in_ok-last.ensures.fills.grows (HasNet-stays _ _ _ _ c.in_ok-always.ensures.fills.grows (c.requires.start))))

pub choose-requires-2-clause-left : goal.choose-requires-2-clause-left
choose-requires-2-clause-left c = HasNet-stays _ _ _ _ c.in_ok-coming.ensures.fills.grows (HasNet-stays _ _ _ _ c.in_ok-after.ensures.fills.grows (c.in_ok-last.ensures.net))

pub drive-requires-clause-net : goal.drive-requires-clause-net
drive-requires-clause-net c = awaits_kept _ _ _ _ c.in_ok-next.ensures.fills (awaits_kept _ _ _ _ c.in_ok-coming.ensures.fills (awaits_kept _ _ _ _ c.in_ok-after.ensures.fills (awaits_kept _ _ _ _ c.in_ok-last.ensures.fills (awaits_kept _ _ _ _ c.in_ok-always.ensures.fills (c.requires.turn.net)))))

pub drive-requires-clause-enable : goal.drive-requires-clause-enable
drive-requires-clause-enable c = HasNet-stays _ _ _ _ c.in_ok-next.ensures.fills.grows (HasNet-stays _ _ _ _ c.in_ok-coming.ensures.fills.grows (HasNet-stays _ _ _ _ c.in_ok-after.ensures.fills.grows (HasNet-stays _ _ _ _ c.in_ok-last.ensures.fills.grows (c.in_ok-always.ensures.one.net_stands))))

pub returns-clause-fills : goal.returns-clause-fills
returns-clause-fills c = Fills-join _ _ _ [] _ c.in_ok-always.ensures.fills (Fills-join _ _ _ [] _ c.in_ok-last.ensures.fills (Fills-join _ _ _ [] _ c.in_ok-after.ensures.fills (Fills-join _ _ _ [] _ c.in_ok-coming.ensures.fills (Fills-join _ _ _ [] _ c.in_ok-next.ensures.fills (c.in_ok-drive.ensures.fills)))))

pub returns-clause-net : goal.returns-clause-net
returns-clause-net c = HasNet-stays _ _ _ _ c.in_ok-drive.ensures.fills.grows (HasNet-stays _ _ _ _ c.in_ok-next.ensures.fills.grows (c.in_ok-coming.ensures.net))

pub returns-clause-number : goal.returns-clause-number
returns-clause-number c = λ s r t.
    let r_next = runs_earlier _ _ s c.in_ok-drive.ensures.fills.grows r in
    let r_coming = runs_earlier _ _ s c.in_ok-next.ensures.fills.grows r_next in
    let r_after = runs_earlier _ _ s c.in_ok-coming.ensures.fills.grows r_coming in
    let r_last = runs_earlier _ _ s c.in_ok-after.ensures.fills.grows r_after in
    let r_always = runs_earlier _ _ s c.in_ok-last.ensures.fills.grows r_last in
    numbers_are (is_on s c.args.start) (is_on s c.args.turn.now.first) c.args.turn.now.copies (λ u. s.net u c.args.turn.now.net) (λ u. s.net u c.in_ok-coming.coming) (λ u. s.net u c.in_ok-after.after) (λ u. s.net u c.in_ok-last.last) (λ u. s.net u c.in_ok-next.next) (λ u. s.net u c.in_ok-always.always)
    (c.in_ok-always.ensures.one.always s r_always) ((c.in_ok-drive.ensures.word s r).0 ∙ c.from-2.ensures) (c.in_ok-drive.ensures.word s r).1 (λ u. c.in_ok-last.ensures.word s r_last u ∙ c.from.ensures) (c.in_ok-after.ensures.word s r_after) (c.in_ok-coming.ensures.word s r_coming) (c.in_ok-next.ensures.word s r_next) t

pub returns-clause-coming : goal.returns-clause-coming
returns-clause-coming c = λ s r t.
    let r_next = runs_earlier _ _ s c.in_ok-drive.ensures.fills.grows r in
    let r_coming = runs_earlier _ _ s c.in_ok-next.ensures.fills.grows r_next in
    let r_after = runs_earlier _ _ s c.in_ok-coming.ensures.fills.grows r_coming in
    let r_last = runs_earlier _ _ s c.in_ok-after.ensures.fills.grows r_after in
    let r_always = runs_earlier _ _ s c.in_ok-last.ensures.fills.grows r_last in
    coming_are (is_on s c.args.start) (is_on s c.args.turn.now.first) c.args.turn.now.copies (λ u. s.net u c.args.turn.now.net) (λ u. s.net u c.in_ok-coming.coming) (λ u. s.net u c.in_ok-after.after) (λ u. s.net u c.in_ok-last.last) (λ u. s.net u c.in_ok-next.next) (λ u. s.net u c.in_ok-always.always)
    (c.in_ok-always.ensures.one.always s r_always) ((c.in_ok-drive.ensures.word s r).0 ∙ c.from-2.ensures) (c.in_ok-drive.ensures.word s r).1 (λ u. c.in_ok-last.ensures.word s r_last u ∙ c.from.ensures) (c.in_ok-after.ensures.word s r_after) (c.in_ok-coming.ensures.word s r_coming) (c.in_ok-next.ensures.word s r_next) t
