-- Memories that are reset by an operation before they are used.
use Rattle.std.specs.Prelude.{◌≡◌, ℕ, Bool, true, false, ◌&&◌, not, List, [], ◌∷◌, Option, Some, None}
use Rattle.sp_core.specs.declared.operation.OpKind.{OpKind}
use Rattle.sp_core.specs.declared.operation.OpKind.TheVariants.{Reset}
use Rattle.sp_core.specs.Declarations.{mem, is_among}
use Rattle.sp_core.specs.PlainCore.{PlainOp, PlainCore}
use Rattle.sp_core.specs.Sequential.{has_reset}
use Rattle.sp_lanes.specs.Shared.{is_of}

abbrev pub is_reset : OpKind → Bool
is_reset Reset = true
is_reset _ = false

abbrev pub is_unmasked : Option ℕ → Bool
is_unmasked None = true
is_unmasked (Some k) = false

-- whether an operation resets a memory, in any case
abbrev pub resets : PlainOp → ℕ → Bool
resets op m = (is_reset op.kind && is_unmasked op.mask) && is_of op.mem m

-- which memories wait for their reset after an operation
abbrev pub waits_after : PlainOp → (ℕ → Bool) → ℕ → Bool
waits_after op waits m = waits m && not (resets op m)

-- in a list a memory that waits isn't used before it is reset
abbrev pub ResetsFirst : (waits : ℕ → Bool) → List PlainOp → Type 0
ResetsFirst waits [] = Unit {0}
ResetsFirst waits (op ∷ ops) = ((m : ℕ) → is_of op.mem m ≡ true → waits m ≡ true → resets op m ≡ true) × ResetsFirst (waits_after op waits) ops

-- at the beginning of a body wait those that it owns that have a reset operation
abbrev pub waits_in : PlainCore → (owned : List ℕ) → ℕ → Bool
waits_in core owned m = is_among m owned && has_reset (mem core m).kind (mem core m).start
