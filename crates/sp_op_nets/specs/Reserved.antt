-- Drafts that grew, and in which some more nets are open.
use Rattle.std.specs.Prelude.{ℕ, suc, ◌≤◌, Bool, true, false, if◌then◌else◌, List, [], ◌∷◌, ◌++◌, length, Contains}
use Rattle.sp_netlist.specs.Draft.{Draft}
use Rattle.sp_gates.specs.Grows.{Grows, AddsGates}
use Rattle.sp_gates.specs.Nets.{IsOpen}
use Rattle.sp_core.specs.declared.operation.OpKind.{OpKind}
use Rattle.sp_core.specs.declared.operation.OpKind.TheVariants.{Read, Deq}
use Rattle.sp_core.specs.PlainCore.{PlainOp}
use Rattle.sp_circuit_ops.specs.declared.ops.WordNet.{WordNet}

-- numbers that rise, from this one on: each is another one
abbrev pub Rise : (from : ℕ) → List ℕ → Type 0
Rise from [] = Unit {0}
Rise from (n ∷ ns) = (from ≤ n) × Rise (suc n) ns

-- gates were added, and exactly these nets are open more: they are new, and each is another one
pub record Reserves (old new : Draft) (nets : List ℕ) : Type 0 where
  pub grows : Grows old new
  pub rise : Rise (length old.promised) nets
  pub are_open : (net : ℕ) → Contains nets net → IsOpen new net
  pub still_open : (net : ℕ) → IsOpen old net → IsOpen new net
  pub no_other : (net : ℕ) → IsOpen new net → (Contains nets net → ⊥) → IsOpen old net
  pub gates : AddsGates old new

-- a memory answers a read or a take
abbrev pub is_reserved : OpKind → Bool
is_reserved Read = true
is_reserved Deq = true
is_reserved _ = false

-- the nets of those
abbrev pub reserved_by : OpKind → (net : ℕ) → List ℕ
reserved_by kind net = if is_reserved kind then net ∷ [] else []

abbrev pub reserved_of : List PlainOp → List WordNet → List ℕ
reserved_of (op ∷ ops) (n ∷ nets) = reserved_by op.kind n.net ++ reserved_of ops nets
reserved_of _ _ = []
