-- What the memories hold that a program shows at a place: contents of their kinds.
use Rattle.std.specs.Prelude.{◌≡◌, ℕ, List, length, slice_index, Contains, Option, Some}
use Rattle.sp_words.specs.declared.kind.Kind.{Kind}
use Rattle.sp_words.specs.declared.kind.Kind.TheVariants.{Reg, Sram, Fifo, LineBuf, Dram, ArgIn, ArgOut}
use Rattle.sp_words.specs.Memory.{Contents, cells, queue, rows}
use Rattle.sp_tree.specs.Expressions.{mem}
use Rattle.sp_tree.specs.PlainProgram.{PlainProgram}
use Rattle.sp_tree.specs.Store.{Store}

-- a line buffer has as many rows as it is declared with; nothing is said of ports
abbrev pub IsContents : Kind → (dims : List ℕ) → Option Contents → Type 0
IsContents Reg dims (Some (cells cs)) = Unit {0}
IsContents Sram dims (Some (cells cs)) = Unit {0}
IsContents Fifo dims (Some (queue ws)) = Unit {0}
IsContents LineBuf dims (Some (rows rs)) = length rs ≡ slice_index dims 0
IsContents Dram dims c = Unit {0}
IsContents ArgIn dims c = Unit {0}
IsContents ArgOut dims c = Unit {0}
IsContents _ dims _ = ⊥

-- so does each memory of a list
abbrev pub HoldRightly : PlainProgram → (mems : List ℕ) → Store → Type 0
HoldRightly p mems s = (m : ℕ) → Contains mems m → IsContents (mem p.mems m).kind (mem p.mems m).dims (s.held m)
