-- The names of a program, by number.
use Rattle.std.specs.Prelude.{ℕ, List, [], slice_index_or}
use Rattle.sp_tree.specs.PlainProgram.{PlainMem, PlainProgram, no_mem}
use Rattle.sp_tree.specs.ProgramParts.{ProgramParts}

-- the memories with their declarations, and the names of values and of counters
pub record Names : Type 0 where
  pub mems : List PlainMem
  pub vals : List (List ℕ)
  pub counters : List (List ℕ)

abbrev pub names_in : PlainProgram → Names
names_in p = record { mems = p.mems; vals = p.vals; counters = p.counters }

abbrev pub names_of : ProgramParts → Names
names_of p = record { mems = p.mems; vals = p.vals; counters = p.counters }

abbrev pub mem_of : Names → ℕ → PlainMem
mem_of names m = slice_index_or names.mems m no_mem

abbrev pub mem_name : Names → ℕ → List ℕ
mem_name names m = (mem_of names m).name

abbrev pub val_name : Names → ℕ → List ℕ
val_name names v = slice_index_or names.vals v []

abbrev pub counter_name : Names → ℕ → List ℕ
counter_name names c = slice_index_or names.counters c []
