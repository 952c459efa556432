-- Slots of one member each.
use Rattle.std.specs.Prelude.{◌≡◌, List, [], ◌∷◌, None}
use Rattle.sp_netlist.specs.declared.parts.Child.{Child}
use Rattle.sp_sequence.specs.declared.part.Chain.{Chain}
use Rattle.sp_sequence.specs.declared.part.Slot.{Slot}

pub record IsAlone (slot : Slot) (child : Child) : Type 0 where
  pub chain : Chain
  pub chains : slot.chains.items ≡ chain ∷ []
  pub members : chain.members.items ≡ record { child = child; wanted = None } ∷ []

pub record AreTwo (slots : List Slot) (a b : Child) : Type 0 where
  pub first : Slot
  pub second : Slot
  pub are : slots ≡ first ∷ second ∷ []
  pub first_one : IsAlone first a
  pub second_one : IsAlone second b
