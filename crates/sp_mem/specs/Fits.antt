-- When a memory can be emitted.
use Rattle.std.specs.Prelude.{◌≢◌, ℕ, ◌<◌, ◌≤◌, ◌^◌, List, map, length, slice_index_or, All, Option, IfSome}
use Rattle.sp_netlist.specs.Draft.{Draft}
use Rattle.sp_words.specs.Types.{width_of}
use Rattle.sp_gates.specs.Nets.{HasNet, Awaits}
use Rattle.sp_mem.specs.declared.part.Fresh.{Fresh}
use Rattle.sp_mem.specs.declared.part.Touch.{Touch}
use Rattle.sp_mem.specs.declared.part.Register.{Register}
use Rattle.sp_mem.specs.Copies.{first_word}

-- the net of a copy's number, if there is one
abbrev pub CopyFits : Draft → Option ℕ → Type 0
CopyFits d copy = IfSome copy (λ net. HasNet d net 32)

pub record FreshFits (d : Draft) (f : Fresh) : Type 0 where
  pub enable : HasNet d f.enable 1
  pub copy : CopyFits d f.copy

-- an access that gives a word to a register
pub record WriteFits (d : Draft) (width : ℕ) (w : Touch) : Type 0 where
  pub enable : HasNet d w.enable 1
  pub copy : CopyFits d w.copy
  pub word : HasNet d w.word width

-- an access whose word the register is to drive
pub record ReadFits (d : Draft) (width : ℕ) (r : Touch) : Type 0 where
  pub copy : CopyFits d r.copy
  pub word : Awaits d r.word width

-- the nets that are driven for readers
abbrev pub words_of : List Touch → List ℕ
words_of reads = map (λ r. r.word) reads

-- no two readers have one net
abbrev pub AreApart : List Touch → Type 0
AreApart reads = (i k : ℕ) (d : Touch) → i < k → k < length reads → (slice_index_or reads i d).word ≢ (slice_index_or reads k d).word

pub record RegisterFits (d : Draft) (part : Register) : Type 0 where
  pub start : HasNet d part.start 1
  pub copies : 1 ≤ part.copies
  pub first : first_word part.first < 2 ^ width_of part.ty
  pub fresh : All (FreshFits d) part.fresh.items
  pub writes : All (WriteFits d (width_of part.ty)) part.writes.items
  pub reads : All (ReadFits d (width_of part.ty)) part.reads.items
  pub apart : AreApart part.reads.items
