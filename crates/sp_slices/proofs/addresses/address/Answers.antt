use Rattle.std.proofs.Common.{[], ◌^◌, lit<}
use Rattle.sp_gates.proofs.Growing.{Fills-join}
use Rattle.sp_gates.proofs.Running.{runs_earlier}
use Rattle.sp_slices.proofs.Rows.{from_nothing}
use Rattle.sp_slices.proofs.Standing.{counters_stay}
use Rattle.sp_slices.proofs.addresses.address.Goals as goal

pub row-requires-clause-before : goal.row-requires-clause-before
row-requires-clause-before c = record { net_stands = c.in_ok-zero.ensures.net; fits = λ s r t. let e = c.in_ok-zero.ensures.word s r t in rw e (lit< tt) }

pub row-requires-clause-values : goal.row-requires-clause-values
row-requires-clause-values c = counters_stay _ _ _ c.in_ok-zero.ensures.fills.grows c.requires.values

pub returns-clause-fills : goal.returns-clause-fills
returns-clause-fills c = Fills-join _ _ _ [] [] c.in_ok-zero.ensures.fills c.in_ok-net.ensures.fills

pub returns-clause-net : goal.returns-clause-net
returns-clause-net c = c.in_ok-net.ensures.net.net_stands

pub returns-clause-word : goal.returns-clause-word
returns-clause-word c = λ s run each t.
    from_nothing (2 ^ 32) (s.net t c.in_ok-net.net) (s.net t c.in_ok-zero.zero) _ _ (c.in_ok-net.ensures.net.fits s run t) (c.in_ok-zero.ensures.word s (runs_earlier _ _ s c.in_ok-net.ensures.fills.grows run) t) (c.in_ok-net.ensures.word s run each t)
