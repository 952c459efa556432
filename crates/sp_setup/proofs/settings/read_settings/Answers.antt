use Rattle.std.proofs.Common.{◌∙◌, ap, map}
use Rattle.toml.specs.View.{table_view}
use Rattle.sp_words.specs.Ports.{plain_ports}
use Rattle.sp_setup.specs.Refusal.{IsRefusal}
use Rattle.sp_setup.specs.Checks.{argument_word, table_check}
use Rattle.sp_setup.proofs.Turns.{passed_on}
use Rattle.sp_setup.proofs.SettingsLemmas.{keys-refuse, turns-refuse, cycles-refuse, delays-refuse, names-refuse, arguments-refuse, files-refuse, all-pass}
use Rattle.sp_setup.proofs.settings.read_settings.Goals as goal

pub returns-in_err-check_top_keys-clause-refused : goal.returns-in_err-check_top_keys-clause-refused
returns-in_err-check_top_keys-clause-refused c =
    let h : IsRefusal (table_check (plain_ports c.args.ports.now) (table_view c.args.table.now)) c.in_err-check_top_keys.field-0.0 =
    keys-refuse _ _ _ c.in_err-check_top_keys.ensures.refused in
    passed_on c.from_residual.result c.in_err-check_top_keys.field-0.0 _ _ c.from_residual.ensures.1 (λ y p. p) h

pub returns-in_err-turns-clause-refused : goal.returns-in_err-turns-clause-refused
returns-in_err-turns-clause-refused c =
    let h : IsRefusal (table_check (plain_ports c.args.ports.now) (table_view c.args.table.now)) c.in_err-turns.field-0.0 =
    turns-refuse _ _ _ c.in_ok-check_top_keys.ensures.ok c.in_err-turns.ensures.refused in
    passed_on c.from_residual-in_err-turns.result c.in_err-turns.field-0.0 _ _ c.from_residual-in_err-turns.ensures.1 (λ y p. p) h

pub returns-in_err-cycles-clause-refused : goal.returns-in_err-cycles-clause-refused
returns-in_err-cycles-clause-refused c =
    let h : IsRefusal (table_check (plain_ports c.args.ports.now) (table_view c.args.table.now)) c.in_err-cycles.field-0.0 =
    cycles-refuse _ _ _ c.in_ok-check_top_keys.ensures.ok c.in_ok-turns.ensures.ok.0 c.in_err-cycles.ensures.refused in
    passed_on c.from_residual-in_err-cycles.result c.in_err-cycles.field-0.0 _ _ c.from_residual-in_err-cycles.ensures.1 (λ y p. p) h

pub returns-in_err-delays-clause-refused : goal.returns-in_err-delays-clause-refused
returns-in_err-delays-clause-refused c =
    let h : IsRefusal (table_check (plain_ports c.args.ports.now) (table_view c.args.table.now)) c.in_err-delays.field-0.0 =
    delays-refuse _ _ _ c.in_ok-check_top_keys.ensures.ok c.in_ok-turns.ensures.ok.0 c.in_ok-cycles.ensures.ok.0 c.in_err-delays.ensures.refused in
    passed_on c.from_residual-in_err-delays.result c.in_err-delays.field-0.0 _ _ c.from_residual-in_err-delays.ensures.1 (λ y p. p) h

pub returns-in_err-check_argument_names-clause-refused : goal.returns-in_err-check_argument_names-clause-refused
returns-in_err-check_argument_names-clause-refused c =
    let h : IsRefusal (table_check (plain_ports c.args.ports.now) (table_view c.args.table.now)) c.in_err-check_argument_names.field-0.0 =
    names-refuse _ _ _ _ c.section_at-arguments.ensures c.in_ok-check_top_keys.ensures.ok c.in_ok-turns.ensures.ok.0 c.in_ok-cycles.ensures.ok.0 c.in_ok-delays.ensures.ok.0
    c.in_err-check_argument_names.ensures.refused in
    passed_on c.from_residual-in_err-check_argument_names.result c.in_err-check_argument_names.field-0.0 _ _ c.from_residual-in_err-check_argument_names.ensures.1 (λ y p. p) h

pub returns-in_err-args-clause-refused : goal.returns-in_err-args-clause-refused
returns-in_err-args-clause-refused c =
    let h : IsRefusal (table_check (plain_ports c.args.ports.now) (table_view c.args.table.now)) c.in_err-args.field-0.0 =
    arguments-refuse _ _ _ _ c.section_at-arguments.ensures c.in_ok-check_top_keys.ensures.ok c.in_ok-turns.ensures.ok.0 c.in_ok-cycles.ensures.ok.0 c.in_ok-delays.ensures.ok.0
    c.in_ok-check_argument_names.ensures.ok c.in_err-args.ensures.refused in
    passed_on c.from_residual-in_err-args.result c.in_err-args.field-0.0 _ _ c.from_residual-in_err-args.ensures.1 (λ y p. p) h

pub returns-in_err-check_dram_names-clause-refused : goal.returns-in_err-check_dram_names-clause-refused
returns-in_err-check_dram_names-clause-refused c =
    let h : IsRefusal (table_check (plain_ports c.args.ports.now) (table_view c.args.table.now)) c.in_err-check_dram_names.field-0.0 =
    files-refuse _ _ _ _ _ c.section_at-arguments.ensures c.section_at-files.ensures c.in_ok-check_top_keys.ensures.ok c.in_ok-turns.ensures.ok.0 c.in_ok-cycles.ensures.ok.0 c.in_ok-delays.ensures.ok.0
    c.in_ok-check_argument_names.ensures.ok c.in_ok-args.ensures.ok.0 c.in_err-check_dram_names.ensures.refused in
    passed_on c.from_residual-in_err-check_dram_names.result c.in_err-check_dram_names.field-0.0 _ _ c.from_residual-in_err-check_dram_names.ensures.1 (λ y p. p) h

pub returns-clause-ok : goal.returns-clause-ok
returns-clause-ok c = record {
  passes = all-pass _ _ _ _ c.section_at-arguments.ensures c.section_at-files.ensures c.in_ok-check_top_keys.ensures.ok c.in_ok-turns.ensures.ok.0 c.in_ok-cycles.ensures.ok.0
      c.in_ok-delays.ensures.ok.0 c.in_ok-check_argument_names.ensures.ok c.in_ok-args.ensures.ok.0 c.in_ok-check_dram_names.ensures.ok;
  turns = c.in_ok-turns.ensures.ok.1;
  cycles = c.in_ok-cycles.ensures.ok.1;
  delays = c.in_ok-delays.ensures.ok.1;
  args = c.in_ok-args.ensures.ok.1 ∙ ap (λ args. map (argument_word args) (plain_ports c.args.ports.now).args) c.section_at-arguments.ensures;
}
