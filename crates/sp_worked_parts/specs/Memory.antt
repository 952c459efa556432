-- The worked memory.
use Rattle.std.specs.Prelude.{◌≡◌, ℕ, [], ◌∷◌}
use Rattle.sp_words.specs.Types.{int_type}
use Rattle.sp_netlist.specs.Draft.{Draft}
use Rattle.sp_gates.specs.Nets.{HasNet}
use Rattle.sp_banked.specs.declared.part.Banked.{Banked}
use Rattle.sp_worked_parts.specs.declared.memory.Asked.{Asked}
use Rattle.sp_worked_parts.specs.Touches.{IsOne, AreTwo}

pub record AskedFits (d : Draft) (asked : Asked) : Type 0 where
  pub write_net : HasNet d asked.write 1
  pub element_net : HasNet d asked.element 32
  pub word_net : HasNet d asked.word 32
  pub read_net : HasNet d asked.read 1
  pub up_net : HasNet d asked.up 32
  pub down_net : HasNet d asked.down 32
  pub done_net : HasNet d asked.done 1

-- four elements in two banks, in one copy and two duplicates
pub record IsMemory (asked : Asked) (y z : ℕ) (part : Banked) : Type 0 where
  pub start : part.start ≡ asked.write
  pub bank : part.bank ≡ 0
  pub ty : part.ty ≡ int_type
  pub dims : part.layout.dims.items ≡ 4 ∷ []
  pub alpha : part.layout.alpha.items ≡ 1 ∷ []
  pub banks : part.layout.banks ≡ 2
  pub block : part.layout.block ≡ 1
  pub hinge : part.layout.hinge ≡ 0
  pub copies : part.copies ≡ 1
  pub duplicates : part.duplicates ≡ 2
  pub writes : IsOne asked.write (asked.element ∷ []) asked.word part.writes.items
  pub reads : AreTwo asked.read (asked.up ∷ []) y (asked.down ∷ []) z part.reads.items
