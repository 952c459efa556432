use Rattle.std.proofs.Common.{List, [], ◌∷◌}
use Rattle.sp_core.specs.Around.{nothing}
use Rattle.sp_core.specs.Events.{Moment, core_moments}
use Rattle.sp_core.specs.Meaning.{first_store, run_core}
use Rattle.sp_core.specs.PlainCore.{PlainCore}
use Rattle.sp_core.specs.Scope.{in_lanes, no_scope}
use Rattle.sp_core.specs.Store.{Store}
use Rattle.sp_fitting.specs.Fitting.{StoreFits, EachStore}
use Rattle.sp_patterns.specs.Ranges.{nothing_around}
use Rattle.sp_forms_hold.proofs.hold.forms_hold.Goals as goal

-- the first of the stores of a run
begun : (core : PlainCore) (ms : List Moment) (s : Store) → EachStore core (StoreFits core) ms s → StoreFits core s
begun core [] s h = h
begun core (m ∷ ms) s h = h.0

pub returns : goal.returns
unfolding run_core
returns c core is_core input turns h t fits went =
    let run = c.runs_fit.ensures core in_lanes input turns t h is_core fits went in
    c.nodes_hold.ensures core in_lanes turns core.root nothing [] nothing_around no_scope 0 0 (record { path = []; counters = [] }) (first_store core input) t h is_core.memories is_core.nodes (c.parts_stand_at_their_numbers.ensures core).root
    c.controllers_are_entered.ensures.outside (begun core (core_moments core in_lanes h) (first_store core input) run.stores) went
