use Rattle.std.proofs.Common.{ℕ, ◌==◌, ap}
use Rattle.sp_gates.proofs.Running.{runs_earlier}
use Rattle.sp_gates.proofs.Words.{always}
use Rattle.sp_gates.proofs.tested.drive_after.Goals as goal

pub returns-clause-first : goal.returns-clause-first
returns-clause-first c = λ s run. ap (λ n. n == 1) (c.in_ok-drive.ensures.word s run).0

pub returns-clause-later : goal.returns-clause-later
returns-clause-later c = λ s run t.
    let before = runs_earlier _ _ s c.in_ok-drive.ensures.fills.grows run in
    ap (λ n. n == 1) (always (λ t. s.net t c.args.net) (λ t. s.net t c.args.next) (λ t. s.net t c.args.one) 0 (c.in_ok-drive.ensures.word s run) (c.requires.one.always s before) t)
