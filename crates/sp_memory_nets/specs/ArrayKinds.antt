-- Memories whose circuits can be emitted.
use Rattle.std.specs.Prelude.{ℕ, ◌<◌, length}
use Rattle.sp_words.specs.declared.kind.Kind.{Kind}
use Rattle.sp_words.specs.declared.kind.Kind.TheVariants.{Reg, Sram, Fifo, ArgIn, ArgOut}
use Rattle.sp_core.specs.Declarations.{kind_of}
use Rattle.sp_core.specs.PlainCore.{PlainCore}

-- a register, an argument, an output, an SRAM or a FIFO
abbrev pub IsEmitted : Kind → Type 0
IsEmitted Reg = Unit {0}
IsEmitted ArgIn = Unit {0}
IsEmitted ArgOut = Unit {0}
IsEmitted Sram = Unit {0}
IsEmitted Fifo = Unit {0}
IsEmitted _ = ⊥

-- all memories of a core are such
abbrev pub AreEmitted : PlainCore → Type 0
AreEmitted core = (m : ℕ) → m < length core.mems → IsEmitted (kind_of core m)
