-- The nets of numbers that are to be driven.
use Rattle.std.specs.Prelude.{◌≡◌, ℕ, ◌≤◌, List, [], ◌∷◌, ◌++◌, All, Option, Some, None, Contains}
use Rattle.sp_netlist.specs.Draft.{Draft}
use Rattle.sp_gates.specs.Nets.{Awaits}
use Rattle.sp_op_nets.specs.Reserved.{Reserves, Rise}
use Rattle.sp_copy_nets.specs.declared.part.SlotNumbers.{SlotNumbers}

-- those that there are
abbrev pub given_nets : List (Option ℕ) → List ℕ
given_nets [] = []
given_nets (None ∷ nets) = given_nets nets
given_nets (Some net ∷ nets) = net ∷ given_nets nets

-- of all slots, in order
abbrev pub number_nets : List SlotNumbers → List ℕ
number_nets [] = []
number_nets (slot ∷ slots) = given_nets slot.nets.items ++ number_nets slots

-- a memory without a net has one copy, and one with a net has some
abbrev pub HasCopies : (copies : ℕ) → Option ℕ → Type 0
HasCopies copies None = copies ≡ 1
HasCopies copies (Some net) = 1 ≤ copies

abbrev pub AreCopied : (copies : List ℕ) → List (Option ℕ) → Type 0
AreCopied [] [] = Unit {0}
AreCopied (n ∷ copies) (net ∷ nets) = HasCopies n net × AreCopied copies nets
AreCopied _ _ = ⊥

-- nets of 32 bits that are to be driven, each another one
pub record AwaitNumbers (d : Draft) (nets : List ℕ) : Type 0 where
  pub rise : Rise 0 nets
  pub each : (net : ℕ) → Contains nets net → Awaits d net 32

-- the nets of all slots are to be driven
pub record NumbersFit (d : Draft) (copies : List ℕ) (slots : List SlotNumbers) : Type 0 where
  pub copied : All (λ (slot : SlotNumbers). AreCopied copies slot.nets.items) slots
  pub awaited : AwaitNumbers d (number_nets slots)

-- nets of 32 bits were promised, and nothing else is open more
pub record Promises (old new : Draft) (nets : List ℕ) : Type 0 where
  pub reserves : Reserves old new nets
  pub each : (net : ℕ) → Contains nets net → Awaits new net 32
