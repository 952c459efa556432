-- A table that may not be there, as its members.
use Rattle.std.specs.Prelude.{Option, Some, None, String}
use Rattle.std.specs.BTreeMap.{BTreeMap}
use Rattle.std.specs.declared.alloc.Global.{Global}
use Rattle.toml.specs.Data.{Members, no_members}
use Rattle.toml.specs.View.{table_view}
use Rattle.toml.specs.declared.value.Value.{Value}
use denote.Ref.{Bor}

abbrev pub option_table : Option (Bor (BTreeMap (String Global) Value)) → Members
option_table None = no_members
option_table (Some table) = table_view table.now
