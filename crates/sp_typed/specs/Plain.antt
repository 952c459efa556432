-- What a scope of the code shows.
use Rattle.std.specs.Prelude.{ℕ, map, take, string_bytes}
use Rattle.sp_types.specs.Visible.{PlainSymbol, memory, value, counter}
use Rattle.sp_typed.specs.declared.scope.Symbol.{Symbol}
use Rattle.sp_typed.specs.declared.scope.Symbol.TheVariants.{Memory, Value, Counter}
use Rattle.sp_typed.specs.declared.scope.Entry.{Entry}
use Rattle.sp_typed.specs.declared.scope.Scope.{Scope}
use Rattle.sp_typed.specs.Named.{Meant, Here}

abbrev pub plain_symbol : Symbol → PlainSymbol
plain_symbol (Memory kind ty dims) = memory kind ty dims.items
plain_symbol (Value ty) = value ty
plain_symbol Counter = counter

abbrev pub meant : Entry → Meant
meant e = record { symbol = plain_symbol e.symbol; number = e.number }

abbrev pub here_of : Scope → Here
here_of s = record {
  names = map (λ entry. (string_bytes entry.0, meant entry.1)) s.names.entries;
  mems = s.mems;
  vals = s.vals;
  counters = s.counters;
}

-- only the first names
abbrev pub back_to : ℕ → Here → Here
back_to n here = record here { names = take n here.names }
