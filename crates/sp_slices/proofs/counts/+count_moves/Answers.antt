use Rattle.std.proofs.Common.{[], rules, arith}
use Rattle.std.proofs.lemmas.List.Elements.{All-cons}
use Rattle.sp_gates.proofs.Growing.{Fills-none, Fills-join}
use Rattle.sp_gates.proofs.Running.{runs_earlier}
use Rattle.sp_counters.specs.Fits.{CountFits}
use Rattle.sp_slices.specs.Fits.{MoveFits}
use Rattle.sp_slices.proofs.Lists.{first_and_rest, empty}
use Rattle.sp_slices.proofs.Standing.{moves_stay, count_stays, of_first, of_rest, no_moves, more_moves}
use Rattle.sp_slices.proofs.counts.+count_moves.Goals as goal

pub returns-in_default-clause-fills : goal.returns-in_default-clause-fills
returns-in_default-clause-fills t c = Fills-none _

pub returns-in_default-clause-count : goal.returns-in_default-clause-count
returns-in_default-clause-count t c = λ s run. no_moves s _ _ (empty c.args.moves.now (let l = c.in_default.len_below in omega (arith, l))) c.new.ensures.items

pub count_move-requires : goal.count_move-requires
count_move-requires t c = of_first (MoveFits c.args.builder.now) c.args.moves.now _ c.first-item.result (first_and_rest c.args.moves.now c.first-item.result c.in-len1-up.len_at_least c.first-item.is) c.requires

pub count_moves-requires : goal.count_moves-requires
count_moves-requires t c = (search rules, moves_stay _ _ _ c.in_ok-own.ensures.fills.grows (of_rest (MoveFits c.args.builder.now) c.args.moves.now _ c.first-item.result (first_and_rest c.args.moves.now c.first-item.result c.in-len1-up.len_at_least c.first-item.is) c.requires))

pub returns-clause-fills : goal.returns-clause-fills
returns-clause-fills t c = Fills-join _ _ _ [] _ c.in_ok-own.ensures.fills c.in_ok-counts.ensures.fills

pub returns-clause-fit : goal.returns-clause-fit
returns-clause-fit t c = rw c.in_ok-insert.ensures.items (All-cons (CountFits c.count_moves.new.builder) _ _ (count_stays _ _ c.in_ok-counts.ensures.fills.grows _ c.in_ok-own.ensures.fits) c.in_ok-counts.ensures.fit)

pub returns-clause-count : goal.returns-clause-count
returns-clause-count t c = λ s run.
    more_moves s c.args.moves.now _ c.first-item.result c.in_ok-counts.counts.items _ c.in_ok-own.own (first_and_rest c.args.moves.now c.first-item.result c.in-len1-up.len_at_least c.first-item.is) c.in_ok-insert.ensures.items
    (c.in_ok-own.ensures.counts s (runs_earlier _ _ s c.in_ok-counts.ensures.fills.grows run)) (c.in_ok-counts.ensures.count s run)
