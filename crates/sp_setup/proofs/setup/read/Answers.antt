use Rattle.std.proofs.Common.{ℕ, List}
use Rattle.sp_edges.specs.Calls.{Call}
use Rattle.sp_edges.specs.Counts.{Rose}
use Rattle.sp_edges.specs.Standing.{Standing}
use Rattle.sp_words.specs.Ports.{plain_ports}
use Rattle.toml.specs.View.{table_view}
use Rattle.sp_setup.proofs.Turns.{passed_on}
use Rattle.sp_setup.proofs.FitLemmas.{args-fit, drams-fit, arguments_pass}
use Rattle.sp_setup.proofs.SetupLemmas.{ends-document, ends-table, ends-file}
use Rattle.sp_setup.proofs.setup.read.Goals as goal

pub returns-in_err-table-clause-refused : goal.returns-in_err-table-clause-refused
returns-in_err-table-clause-refused g c =
    let told : List ℕ → Standing = g.I.Inputs.told c.args.inputs.now in
    let failed : List ℕ → Type 0 = λ name. Rose (g.I.Inputs.faults c.args.inputs.now) (g.I.Inputs.faults c.args.inputs.now) × (g.I.Inputs.sure c.args.inputs.now name → ⊥) in
    let asked : List Call → Type 0 = λ calls. g.I.Inputs.asked c.args.inputs.now calls c.args.inputs.now in
    passed_on c.from_residual.result c.in_err-table.field-0.0 _ _ c.from_residual.ensures.1 (λ y p. p)
    (ends-document told failed asked (plain_ports c.args.ports.now) _ _ (g.met.I.Inputs.no_call c.args.inputs.now) c.in_err-table.ensures.refused)

pub returns-in_err-settings-clause-refused : goal.returns-in_err-settings-clause-refused
returns-in_err-settings-clause-refused g c =
    let told : List ℕ → Standing = g.I.Inputs.told c.args.inputs.now in
    let failed : List ℕ → Type 0 = λ name. Rose (g.I.Inputs.faults c.args.inputs.now) (g.I.Inputs.faults c.args.inputs.now) × (g.I.Inputs.sure c.args.inputs.now name → ⊥) in
    let asked : List Call → Type 0 = λ calls. g.I.Inputs.asked c.args.inputs.now calls c.args.inputs.now in
    passed_on c.from_residual-in_err-settings.result c.in_err-settings.field-0.0 _ _ c.from_residual-in_err-settings.ensures.1 (λ y p. p)
    (ends-table told failed asked (plain_ports c.args.ports.now) _ _ _ (g.met.I.Inputs.no_call c.args.inputs.now) c.in_ok-table.ensures.ok c.in_err-settings.ensures.refused)

pub returns-in_err-drams-clause-refused : goal.returns-in_err-drams-clause-refused
returns-in_err-drams-clause-refused g c =
    let ends = rw c.section_at-files.ensures at c.in_err-drams.ensures.refused in
    passed_on c.from_residual-in_err-drams.result c.in_err-drams.field-0.0 _ _ c.from_residual-in_err-drams.ensures.1 (λ y p. p)
    (ends-file _ _ _ _ _ _ _ c.in_ok-table.ensures.ok c.in_ok-settings.ensures.ok.passes ends)

pub returns-clause-setup : goal.returns-clause-setup
returns-clause-setup g c =
    let settings = c.in_ok-settings.ensures.ok in
    record {
      top = table_view c.in_ok-table.table;
      document = c.in_ok-table.ensures.ok;
      passes = settings.passes;
      turns = settings.turns;
      cycles = settings.cycles;
      delays = settings.delays;
      args = settings.args;
      drams = rw c.section_at-files.ensures at c.in_ok-drams.ensures.given;
    }

-- the files are those of the document
pub returns-clause-asks : goal.returns-clause-asks
returns-clause-asks g c =
    let asks = rw c.section_at-files.ensures at c.in_ok-drams.ensures.asks in
    rw c.in_ok-table.ensures.ok.document asks

pub returns-clause-fits : goal.returns-clause-fits
returns-clause-fits g c =
    let wraps = c.values_are_a_range.ensures.wrapped in
    let settings = c.in_ok-settings.ensures.ok in
    record {
      args = rw settings.args (args-fit wraps _ c.args.ports.now.args.items (arguments_pass (plain_ports c.args.ports.now) (table_view c.in_ok-table.table) settings.passes));
      drams = drams-fit wraps _ _ c.args.ports.now.drams.items c.in_ok-drams.drams.items c.in_ok-drams.ensures.given;
    }
