use Rattle.std.proofs.Common.{◌≡◌}
use Rattle.toml.specs.View.{table_view, members_view}
use Rattle.sp_setup.specs.Checks.{first_key}
use Rattle.sp_setup.specs.Section.{allowed}
use Rattle.sp_setup.proofs.table.first_unknown.Given as goal

abbrev pub invariant-loop-key : goal.invariant-loop-key
invariant-loop-key l = first_key (allowed l.section) (members_view l.key-iterator) ≡ first_key (allowed l.section) (table_view l.table)
