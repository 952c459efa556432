-- What a scope of the code shows.
use Rattle.std.specs.Prelude.{List, map, Option, Some, None, string_bytes}
use Rattle.sp_types.specs.declared.scope.Symbol.{Symbol}
use Rattle.sp_types.specs.declared.scope.Symbol.TheVariants.{Memory, Value, Counter}
use Rattle.sp_types.specs.declared.scope.Scope.{Scope}
use Rattle.sp_types.specs.Visible.{PlainSymbol, memory, value, counter, Visible}

abbrev pub plain_symbol : Symbol → PlainSymbol
plain_symbol (Memory kind ty dims) = memory kind ty dims.items
plain_symbol (Value ty) = value ty
plain_symbol Counter = counter

abbrev pub visible_of : Scope → Visible
visible_of s = record { names = map (λ entry. (string_bytes entry.0, plain_symbol entry.1)) s.names.entries; busy = map string_bytes s.busy.items }
