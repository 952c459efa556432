-- The declarations of memories.
use Rattle.std.specs.Prelude.{◌≡◌, ℕ, ◌≤◌, length, IfSome, Option, None, All}
use Rattle.sp_words.specs.declared.kind.Kind.{Kind}
use Rattle.sp_words.specs.declared.kind.Kind.TheVariants.{Reg, Sram, Fifo, LineBuf, Dram, ArgIn, ArgOut}
use Rattle.sp_words.specs.Interface.{IsCount}
use Rattle.sp_words.specs.Names.{IsName}
use Rattle.sp_words.specs.Words.{IsWord}
use Rattle.sp_tree.specs.PlainProgram.{PlainMem}

-- how many dimensions a kind of memory has: a FIFO one, its depth, and a line buffer two
abbrev pub HasRank : Kind → ℕ → Type 0
HasRank Reg n = n ≡ 0
HasRank Sram n = (1 ≤ n) × (n ≤ 3)
HasRank Fifo n = n ≡ 1
HasRank LineBuf n = n ≡ 2
HasRank Dram n = (1 ≤ n) × (n ≤ 3)
HasRank ArgIn n = n ≡ 0
HasRank ArgOut n = n ≡ 0

-- only a register has a start, a word of its type
abbrev pub HasStart : PlainMem → Kind → Option ℕ → Type 0
HasStart m Reg start = IfSome start (λ w. IsWord m.ty w)
HasStart m _ start = start ≡ None

pub record IsDeclaration (m : PlainMem) : Type 0 where
  pub name : IsName m.name
  pub rank : HasRank m.kind (length m.dims)
  pub dims : All IsCount m.dims
  pub start : HasStart m m.kind m.start
