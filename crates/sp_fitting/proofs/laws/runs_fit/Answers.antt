use Rattle.std.proofs.Common.{[]}
use Rattle.sp_core.specs.Around.{nothing}
use Rattle.sp_core.specs.Meaning.{first_store, run_core}
use Rattle.sp_core.specs.Scope.{no_scope}
use Rattle.sp_fitting.specs.Fitting.{StoreFits}
use Rattle.sp_fitting.specs.Laws.{SymbolsAreInts}
use Rattle.sp_fitting.proofs.Inputs.{first_fits}
use Rattle.sp_fitting.proofs.Moments.{each_store}
use Rattle.sp_fitting.proofs.laws.runs_fit.Goals as goal

pub returns : goal.returns
unfolding run_core
returns c core reading input turns t h is_core fits went =
    let first = first_fits core input is_core.ports fits in
    let n = c.nodes_fit.ensures core reading turns core.root nothing [] no_scope (first_store core input) t h is_core.memories is_core.nodes first went in
    let stores = n.stores 0 0 (record { path = []; counters = [] }) in
    record {
      left = n.left;
      history = n.history;
      happening = n.happening 0 0 (record { path = []; counters = [] });
      stores = stores;
      symbols = λ forms. each_store core (StoreFits core) (SymbolsAreInts core forms) (c.stores_fit.ensures.symbols core forms) _ (first_store core input) stores;
    }
