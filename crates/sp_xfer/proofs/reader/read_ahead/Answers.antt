use Rattle.std.proofs.Common.{[], ◌∙◌}
use Rattle.sp_gates.proofs.Growing.{Fills-join, HasNet-stays, IsOne-stays}
use Rattle.sp_gates.proofs.Running.{runs_earlier}
use Rattle.sp_xfer.proofs.Reading.{two_kept}
use Rattle.sp_xfer.proofs.reader.read_ahead.Goals as goal

pub after-requires-2-clause-one : goal.after-requires-2-clause-one
after-requires-2-clause-one c = IsOne-stays _ _ _ c.in_ok-went.ensures.fills.grows c.requires.one

pub keep-requires-clause-found : goal.keep-requires-clause-found
keep-requires-clause-found c = HasNet-stays _ _ _ _ c.in_ok-comes.ensures.fills.grows (HasNet-stays _ _ _ _ c.in_ok-went.ensures.fills.grows c.requires.found)

pub keep-requires-clause-one : goal.keep-requires-clause-one
keep-requires-clause-one c = IsOne-stays _ _ _ c.in_ok-comes.ensures.fills.grows (IsOne-stays _ _ _ c.in_ok-went.ensures.fills.grows c.requires.one)

pub keep-requires-2-clause-comes : goal.keep-requires-2-clause-comes
keep-requires-2-clause-comes c = HasNet-stays _ _ _ _ c.in_ok-newest.ensures.fills.grows c.in_ok-comes.ensures.net

pub keep-requires-2-clause-one : goal.keep-requires-2-clause-one
keep-requires-2-clause-one c = IsOne-stays _ _ _ c.in_ok-newest.ensures.fills.grows (IsOne-stays _ _ _ c.in_ok-comes.ensures.fills.grows (IsOne-stays _ _ _ c.in_ok-went.ensures.fills.grows c.requires.one))

pub choose-requires-clause-choice : goal.choose-requires-clause-choice
choose-requires-clause-choice c = HasNet-stays _ _ _ _ c.in_ok-before.ensures.fills.grows (HasNet-stays _ _ _ _ c.in_ok-newest.ensures.fills.grows (HasNet-stays _ _ _ _ c.in_ok-comes.ensures.fills.grows c.in_ok-went.ensures.net))

pub choose-requires-clause-left : goal.choose-requires-clause-left
choose-requires-clause-left c = HasNet-stays _ _ _ _ c.in_ok-before.ensures.fills.grows c.in_ok-newest.ensures.word

pub returns-clause-fills : goal.returns-clause-fills
returns-clause-fills c = Fills-join _ _ _ [] [] c.in_ok-went.ensures.fills (Fills-join _ _ _ [] [] c.in_ok-comes.ensures.fills (Fills-join _ _ _ [] [] c.in_ok-newest.ensures.fills (Fills-join _ _ _ [] [] c.in_ok-before.ensures.fills c.in_ok-word.ensures.fills)))

pub returns-clause-reads : goal.returns-clause-reads
returns-clause-reads c = λ s r.
    let r_before = runs_earlier _ _ s c.in_ok-word.ensures.fills.grows r in
    let r_newest = runs_earlier _ _ s c.in_ok-before.ensures.fills.grows r_before in
    let r_comes = runs_earlier _ _ s c.in_ok-newest.ensures.fills.grows r_newest in
    let r_went = runs_earlier _ _ s c.in_ok-comes.ensures.fills.grows r_comes in
    two_kept s c.args.goes c.in_ok-went.went c.in_ok-comes.comes c.args.found c.in_ok-newest.newest.word c.in_ok-newest.newest.kept c.in_ok-before.before.word c.in_ok-before.before.kept c.in_ok-word.word
    (c.in_ok-went.ensures.on s r_went) (c.in_ok-comes.ensures.on s r_comes) (c.in_ok-newest.ensures.keeps s r_newest) (c.in_ok-before.ensures.keeps s r_before) (c.in_ok-word.ensures.word s r)
