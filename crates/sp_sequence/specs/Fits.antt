-- When sequences can be emitted.
use Rattle.std.specs.Prelude.{ℕ, List, [], ◌∷◌, ◌++◌, Option, Some, None, Contains}
use Rattle.sp_netlist.specs.Draft.{Draft}
use Rattle.sp_gates.specs.Nets.{HasNet, Awaits}
use Rattle.sp_sequence.specs.declared.part.Member.{Member}
use Rattle.sp_sequence.specs.declared.part.Chain.{Chain}
use Rattle.sp_sequence.specs.declared.part.Slot.{Slot}
use Rattle.sp_sequence.specs.declared.part.Sequence.{Sequence}

-- the nets that are driven: the starts of members
abbrev pub starts_of : List Member → List ℕ
starts_of [] = []
starts_of (m ∷ members) = m.child.start ∷ starts_of members

abbrev pub chain_starts : List Chain → List ℕ
chain_starts [] = []
chain_starts (c ∷ chains) = starts_of c.members.items ++ chain_starts chains

abbrev pub slot_starts : List Slot → List ℕ
slot_starts [] = []
slot_starts (slot ∷ slots) = chain_starts slot.chains.items ++ slot_starts slots

abbrev pub WantedFits : Draft → Option ℕ → Type 0
WantedFits d None = Unit {0}
WantedFits d (Some w) = HasNet d w 1

-- a member's start is to be driven, its done stands, and so does what tells whether it is wanted
pub record IsMember (d : Draft) (m : Member) : Type 0 where
  pub start : Awaits d m.child.start 1
  pub done : HasNet d m.child.done 1
  pub wanted : WantedFits d m.wanted

-- and no start is that of another member
pub data AreMembers (d : Draft) : List Member → Type 0 where
  no_member : AreMembers d []
  one_member : {m : Member} {members : List Member} → IsMember d m → (Contains (starts_of members) m.child.start → ⊥) → AreMembers d members → AreMembers d (m ∷ members)

abbrev pub AreApart : (starts others : List ℕ) → Type 0
AreApart starts others = (net : ℕ) → Contains starts net → Contains others net → ⊥

pub data AreChains (d : Draft) : List Chain → Type 0 where
  no_chain : AreChains d []
  one_chain : {c : Chain} {chains : List Chain} → AreMembers d c.members.items → AreApart (starts_of c.members.items) (chain_starts chains) → AreChains d chains → AreChains d (c ∷ chains)

pub data AreSlots (d : Draft) : List Slot → Type 0 where
  no_slot : AreSlots d []
  one_slot : {slot : Slot} {slots : List Slot} → AreChains d slot.chains.items → AreApart (chain_starts slot.chains.items) (slot_starts slots) → AreSlots d slots → AreSlots d (slot ∷ slots)

pub record SequenceFits (d : Draft) (part : Sequence) : Type 0 where
  pub start : HasNet d part.start 1
  pub slots : AreSlots d part.slots.items
