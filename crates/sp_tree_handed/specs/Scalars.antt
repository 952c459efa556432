-- Memories of one word, memories in banks, and cores of such.
use Rattle.std.specs.Prelude.{ℕ, ◌<◌, length}
use Rattle.sp_words.specs.declared.kind.Kind.{Kind}
use Rattle.sp_words.specs.declared.kind.Kind.TheVariants.{Reg, Sram, LineBuf, ArgIn, ArgOut}
use Rattle.sp_core.specs.Declarations.{kind_of}
use Rattle.sp_core.specs.PlainCore.{PlainCore}

-- a register, an argument or an output
abbrev pub IsScalar : Kind → Type 0
IsScalar Reg = Unit {0}
IsScalar ArgIn = Unit {0}
IsScalar ArgOut = Unit {0}
IsScalar _ = ⊥

abbrev pub AreScalars : PlainCore → Type 0
AreScalars core = (m : ℕ) → m < length core.mems → IsScalar (kind_of core m)

-- such a memory or an SRAM
abbrev pub IsStored : Kind → Type 0
IsStored Reg = Unit {0}
IsStored ArgIn = Unit {0}
IsStored ArgOut = Unit {0}
IsStored Sram = Unit {0}
IsStored _ = ⊥

abbrev pub AreStored : PlainCore → Type 0
AreStored core = (m : ℕ) → m < length core.mems → IsStored (kind_of core m)

-- words of these memories come out of banks, and no bound or slice reads them
abbrev pub IsInBanks : Kind → Type 0
IsInBanks Sram = Unit {0}
IsInBanks LineBuf = Unit {0}
IsInBanks _ = ⊥
