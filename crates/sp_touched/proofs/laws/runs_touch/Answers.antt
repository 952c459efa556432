use Rattle.std.proofs.Common.{List, [], ◌∷◌, refl}
use Rattle.std.proofs.lemmas.List.Elements.{All-nil}
use Rattle.sp_core.specs.Around.{nothing}
use Rattle.sp_core.specs.Events.{Moment, core_moments}
use Rattle.sp_core.specs.Meaning.{first_store, run_core}
use Rattle.sp_core.specs.PlainCore.{PlainCore}
use Rattle.sp_core.specs.Scope.{in_lanes, no_scope}
use Rattle.sp_core.specs.Store.{Store}
use Rattle.sp_fitting.specs.Fitting.{StoreFits, EachStore}
use Rattle.sp_forms_hold.proofs.HoldLists.{Known}
use Rattle.sp_meets.specs.Around.{changed_in, once}
use Rattle.sp_patterns.specs.Ranges.{nothing_around}
use Rattle.sp_touched.proofs.Lists.{IsAround}
use Rattle.sp_touched.proofs.Runs.{node_holds}
use Rattle.sp_touched.proofs.laws.runs_touch.Goals as goal

-- the first of the stores of a run
begun : (core : PlainCore) (ms : List Moment) (s : Store) → EachStore core (StoreFits core) ms s → StoreFits core s
begun core [] s h = h
begun core (m ∷ ms) s h = h.0

outermost : (core : PlainCore) → IsAround (once (changed_in core.root) ∷ []) nothing_around
outermost core = record { ranges = refl; size = refl; go_on = All-nil _ }

pub returns : goal.returns
unfolding run_core
returns c core is_core input turns h t fits went =
    let run = c.runs_fit.ensures core in_lanes input turns t h is_core fits went in
    let known : Known core = record {
      memories = is_core.memories;
      lists_fit = c.lists_fit.ensures core;
      lists_hold = c.lists_hold.ensures core;
      slices_hold = c.slices_hold.ensures core;
      counts_hold = c.counts_hold.ensures core;
      entered = c.controllers_are_entered.ensures.inside core;
      parts = c.parts_stand_at_their_numbers.ensures core;
    } in
    node_holds core known in_lanes turns core.root nothing [] nothing_around 0 0 (record { path = []; counters = [] }) no_scope (once (changed_in core.root) ∷ []) (first_store core input) t h is_core.nodes
    (c.parts_stand_at_their_numbers.ensures core).root c.controllers_are_entered.ensures.outside (outermost core) (λ x has. has) (begun core (core_moments core in_lanes h) (first_store core input) run.stores) went
