use Rattle.std.proofs.Common.{ℕ, List, length, All, Contains, sym, ap, ◌∙◌, subst}
use Rattle.std.specs.List.{fold, zip}
use Rattle.std.proofs.lemmas.List.{with_items_is}
use Rattle.sp_sim.specs.Rows.{nets_of}
use Rattle.sp_sim.specs.Runs.{runs_cells, IsRunWithin, AreNetsOf}
use Rattle.sp_sim.specs.Settling.{IsRow, settle_cell}
use Rattle.sp_sim.proofs.Nets.{row_nets}
use Rattle.sp_sim.proofs.RowLemmas.{nets_of-zip}
use Rattle.sp_sim.proofs.row.Row.settle.Goals as goal

pub settle_runs-requires-clause-stand : goal.settle_runs-requires-clause-stand
settle_runs-requires-clause-stand c =
    let cells = c.args.netlist.now in
    let ns = c.self.inside.nets.items in
    let ws = c.self.inside.words.items in
    let inv = c.self.invariant in
    let nets = row_nets cells ns ws inv.0 inv.1 (subst (IsRow cells) (sym c.self.view_is) c.requires.is_row) in
    subst (λ xs. All (Contains cells) (runs_cells xs c.args.runs.now)) (sym c.deref.ensures.value) (c.requires.runs ns nets).1

pub settle_runs-requires-clause-within : goal.settle_runs-requires-clause-within
settle_runs-requires-clause-within c =
    let cells = c.args.netlist.now in
    let ns = c.self.inside.nets.items in
    let ws = c.self.inside.words.items in
    let inv = c.self.invariant in
    let nets = row_nets cells ns ws inv.0 inv.1 (subst (IsRow cells) (sym c.self.view_is) c.requires.is_row) in
    subst (λ (xs : List ℕ). All (IsRunWithin (length xs)) c.args.runs.now) (sym c.deref.ensures.value) (c.requires.runs ns nets).0

pub returns-clause-nets : goal.returns-clause-nets
returns-clause-nets c =
    let cells = c.args.netlist.now in
    let ns = c.self.inside.nets.items in
    let ws = c.self.inside.words.items in
    let inv = c.self.invariant in
    let nets = row_nets cells ns ws inv.0 inv.1 (subst (IsRow cells) (sym c.self.view_is) c.requires.is_row) in
    subst (AreNetsOf cells) (sym (ap nets_of (sym c.self.view_is) ∙ nets_of-zip ns ws inv.1)) nets

pub returns-clause-settled : goal.returns-clause-settled
returns-clause-settled c =
    let runs = c.args.runs.now in
    let ns = c.self.inside.nets.items in
    let ws = c.self.inside.words.items in
    let new = c.settle_runs.new.words in
    ap (λ (vs : List ℕ). zip ns vs) (with_items_is c.self.inside.words new (c.settle_runs.auto.words ∙ c.deref_mut.ensures.len))
    ∙ ap (λ (xs : List ℕ). zip xs new) (sym c.deref.ensures.value) ∙ c.settle_runs.ensures.settled
    ∙ ap (λ (xs : List ℕ). fold settle_cell (zip xs c.deref_mut.result.now) (runs_cells xs runs)) c.deref.ensures.value
    ∙ ap (λ (vs : List ℕ). fold settle_cell (zip ns vs) (runs_cells ns runs)) c.deref_mut.ensures.value
    ∙ ap (λ row. fold settle_cell row (runs_cells ns runs)) c.self.view_is
    ∙ ap (λ (xs : List ℕ). fold settle_cell c.args.self.now (runs_cells xs runs)) (sym (ap nets_of (sym c.self.view_is) ∙ nets_of-zip ns ws c.self.invariant.1))
