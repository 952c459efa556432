-- The runs of a sequence: what was found of each member, and from that the cycles in which all begins.
use Rattle.std.specs.Prelude.{◌≡◌, ℕ, suc, ◌+◌, ◌≤◌, ◌⊎◌, max, Bool, true, false, List, [], ◌∷◌, length, map, slice_index_or}
use Rattle.std.specs.List.{Contains}
use Rattle.sp_time.specs.Lists.{total}
use Rattle.sp_part_runs.specs.ControlParts.{Ran}
use Rattle.sp_sequence.specs.declared.part.Chain.{Chain}
use Rattle.sp_sequence.specs.declared.part.Slot.{Slot}

-- a member of a run: whether it was wanted, and if so how long its child took
pub record MemberRan : Type 0 where
  pub wanted : Bool
  pub took : ℕ

-- a run that was started in a cycle
pub record SequenceRan : Type 0 where
  pub cycle : ℕ
  pub found : (slot chain member : ℕ) → MemberRan

-- how long a member takes in its place: one that isn't wanted is passed over in two cycles
abbrev pub member_took : MemberRan → ℕ
member_took m = elim m.wanted [ true ↦ m.took | false ↦ 2 ]

-- so many members of a chain, one after the other
abbrev pub chain_took : (found : (member : ℕ) → MemberRan) → (members : ℕ) → ℕ
chain_took found n = total (λ i. member_took (found i)) n

-- how many members the chains of a slot have, and those of each slot
abbrev pub sizes_of : List Chain → List ℕ
sizes_of chains = map (λ (c : Chain). length c.members.items) chains

abbrev pub shape_of : List Slot → List (List ℕ)
shape_of slots = map (λ (slot : Slot). sizes_of slot.chains.items) slots

-- the longest of chains at once, from a number on
abbrev pub longest : (found : (chain member : ℕ) → MemberRan) → (chain : ℕ) → (sizes : List ℕ) → ℕ
longest found j [] = 0
longest found j (n ∷ sizes) = max (chain_took (found j) n) (longest found (suc j) sizes)

-- from a slot's first cycle to its end: one that has no chain ends in the next cycle
abbrev pub slot_lasts : (found : (chain member : ℕ) → MemberRan) → (sizes : List ℕ) → ℕ
slot_lasts found sizes = max 1 (longest found 0 sizes)

module _ (shape : List (List ℕ)) where
  -- the first slots of a run, one after the other
  abbrev pub slots_took : SequenceRan → (slots : ℕ) → ℕ
  slots_took r n = total (λ k. suc (slot_lasts (r.found k) (slice_index_or shape k []))) n

  -- the first slot has its first cycle in the one after the start
  abbrev pub first_cycle : (slot : ℕ) → SequenceRan → ℕ
  first_cycle k r = suc (r.cycle + slots_took r k)

  -- the whole is over a cycle after its last slot
  abbrev pub whole_run : SequenceRan → Ran
  whole_run r = record { cycle = r.cycle; took = 2 + slots_took r (length shape) }

  -- no run begins before those before it are over
  abbrev pub AreInTurn : List SequenceRan → Type 0
  AreInTurn runs = (r q : SequenceRan) → Contains runs r → Contains runs q → r.cycle ≤ q.cycle → (r ≡ q) ⊎ ((whole_run r).cycle + (whole_run r).took ≤ q.cycle)
