-- The memories of a core, by number. Those of the program's text come first, in their order and without its DRAMs, which
-- are numbered by themselves; then the registers that the compiler adds.
use Rattle.std.specs.Prelude.{ℕ, zero, suc, not, Bool, true, false, List, [], ◌∷◌, map, filter, take, count_by, Option, Some, None, codes}
use Rattle.sp_words.specs.declared.kind.Kind.TheVariants.{Reg}
use Rattle.sp_words.specs.declared.types.Ty.{Ty}
use Rattle.sp_words.specs.declared.types.Ty.TheVariants.{Bit}
use Rattle.sp_tree.specs.Meaning.{is_dram}
use Rattle.sp_tree.specs.PlainProgram as program
use Rattle.sp_core.specs.PlainCore as core

abbrev pub is_on_dram : program.PlainMem → Bool
is_on_dram m = is_dram m.kind

abbrev pub is_off_dram : program.PlainMem → Bool
is_off_dram m = not (is_dram m.kind)

-- a memory's number in the core, and a DRAM's among the DRAMs: how many of its sort are declared before it
abbrev pub mem_number : List program.PlainMem → ℕ → ℕ
mem_number mems m = count_by is_off_dram (take m mems)

abbrev pub dram_number : List program.PlainMem → ℕ → ℕ
dram_number mems m = count_by is_on_dram (take m mems)

-- a memory of the text, as it stands in the core
abbrev pub written_mem : program.PlainMem → core.PlainMem
written_mem m = record { name = m.name; kind = m.kind; ty = m.ty; dims = m.dims; start = m.start; written = true }

abbrev pub written_mems : List program.PlainMem → List core.PlainMem
written_mems mems = map written_mem (filter is_off_dram mems)

-- a register that the compiler adds
abbrev pub added_register : List ℕ → Ty → Option ℕ → core.PlainMem
added_register name ty start = record { name = name; kind = Reg; ty = ty; dims = []; start = start; written = false }

-- whether an accumulator holds a word of this run of its loop; the state of an FSM; and a word that is used in another
-- stage than the one that computes it
abbrev pub begun_register : core.PlainMem
begun_register = added_register (codes "begun") Bit (Some 0)

abbrev pub state_register : Ty → core.PlainMem
state_register ty = added_register (codes "state") ty None

abbrev pub crossing_register : Ty → core.PlainMem
crossing_register ty = added_register (codes "crossing") ty None

-- so many numbers, from the first
abbrev pub numbers_from : (first count : ℕ) → List ℕ
numbers_from first zero = []
numbers_from first (suc count) = first ∷ numbers_from (suc first) count
