-- Memories with banks, their ports, and which accesses change a memory.
use Rattle.std.specs.Prelude.{ℕ, ◌==◌, Bool, true, false, ◌&&◌, not, List, Option, Some, None, is_some, slice_index_or}
use Rattle.sp_bank.specs.Banking.{Banking}
use Rattle.sp_core.specs.declared.operation.OpKind.{OpKind}
use Rattle.sp_core.specs.declared.operation.OpKind.TheVariants.{Read, Write, Enq, Deq, Reset}
use Rattle.sp_core.specs.Declarations.{mem}
use Rattle.sp_core.specs.PlainCore.{PlainOp, PlainCore}
use Rattle.sp_words.specs.declared.kind.Kind.{Kind}
use Rattle.sp_words.specs.declared.kind.Kind.TheVariants.{Sram, LineBuf}

abbrev pub has_banks : Kind → Bool
has_banks Sram = true
has_banks LineBuf = true
has_banks _ = false

abbrev pub is_change : OpKind → Bool
is_change Write = true
is_change Enq = true
is_change Deq = true
is_change Reset = true
is_change _ = false

-- a memory has a port to be read and one to be written
abbrev pub is_one_port : OpKind → OpKind → Bool
is_one_port Read Read = true
is_one_port Write Write = true
is_one_port _ _ = false

abbrev pub is_one_mem : Option ℕ → Option ℕ → Bool
is_one_mem (Some m) (Some r) = m == r
is_one_mem _ _ = false

module _ (core : PlainCore) where
  abbrev pub is_in_banks : Option ℕ → Bool
  is_in_banks None = false
  is_in_banks (Some m) = has_banks (mem core m).kind

  -- two accesses to one port of a memory with banks
  abbrev pub share_port : PlainOp → PlainOp → Bool
  share_port a b = (is_one_port a.kind b.kind && is_one_mem a.mem b.mem) && is_in_banks a.mem

-- the schemes of memories, by number; a memory with banks that has none is serial
abbrev pub scheme_at : List (Option Banking) → Option ℕ → Option Banking
scheme_at schemes None = None
scheme_at schemes (Some m) = slice_index_or schemes m None

abbrev pub is_serial : List (Option Banking) → Option ℕ → Bool
is_serial schemes m = not (is_some (scheme_at schemes m))
