-- Which operations of a body depend on the lane, and so which reads stand once for all lanes. The last counter depends on
-- it, and what a FIFO gives, and a read of a memory that the body changes or that each lane has for its own; and every
-- operation with an operand that does. A read that doesn't is the same in each lane.
use Rattle.std.specs.Prelude.{ℕ, ◌==◌, Bool, true, false, ◌||◌, ◌&&◌, not, List, [], ◌∷◌, ◌++◌, slice_index_or, Option, Some, None}
use Rattle.std.specs.List.{list_any}
use Rattle.sp_core.specs.declared.operation.OpKind.{OpKind}
use Rattle.sp_core.specs.declared.operation.OpKind.TheVariants.{Count, Live, Read, Write, Enq, Deq, Reset}
use Rattle.sp_core.specs.Declarations.{is_among}
use Rattle.sp_core.specs.PlainCore.{PlainOp}

abbrev pub changes_memory : OpKind → Bool
changes_memory Write = true
changes_memory Enq = true
changes_memory Deq = true
changes_memory Reset = true
changes_memory _ = false

abbrev pub is_read : OpKind → Bool
is_read Read = true
is_read _ = false

abbrev pub is_of : Option ℕ → (m : ℕ) → Bool
is_of None m = false
is_of (Some k) m = k == m

abbrev pub does_change : List PlainOp → (m : ℕ) → Bool
does_change ops m = list_any (λ op. changes_memory op.kind && is_of op.mem m) ops

-- by the last counter of the controller, the memories that each lane has for its own, and the operations of the body
module _ (counter : ℕ) (own : List ℕ) (body : List PlainOp) where
  abbrev pub differs : Option ℕ → Bool
  differs None = false
  differs (Some m) = is_among m own || does_change body m

  abbrev pub is_of_lane : OpKind → Option ℕ → Bool
  is_of_lane (Count c l) m = c == counter
  is_of_lane (Live c first last) m = c == counter
  is_of_lane Deq m = true
  is_of_lane Read m = differs m
  is_of_lane _ m = false

  abbrev pub is_mask_of_lane : (earlier : List Bool) → Option ℕ → Bool
  is_mask_of_lane earlier None = false
  is_mask_of_lane earlier (Some k) = slice_index_or earlier k false

  -- by whether earlier operations do
  abbrev pub does_depend : (earlier : List Bool) → PlainOp → Bool
  does_depend earlier op =
      (is_of_lane op.kind op.mem || is_mask_of_lane earlier op.mask) || list_any (λ k. slice_index_or earlier k false) op.args

  -- whether each of these stands once
  abbrev pub shared_after : (earlier : List Bool) → List PlainOp → List Bool
  shared_after earlier [] = []
  shared_after earlier (op ∷ ops) =
      (is_read op.kind && not (does_depend earlier op)) ∷ shared_after (earlier ++ does_depend earlier op ∷ []) ops

  abbrev pub shared : List PlainOp → List Bool
  shared ops = shared_after [] ops
