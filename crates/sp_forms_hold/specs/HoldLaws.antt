-- What is said of the forms of a core in its runs, as statements.
use Rattle.std.specs.Prelude.{◌≡◌, ℕ, true, false, List, [], ◌∷◌, map, None}
use Rattle.sp_core.specs.Around.{Around}
use Rattle.sp_core.specs.Declarations.{dims, dram_number}
use Rattle.sp_core.specs.Elements.{index_value, natural}
use Rattle.sp_core.specs.Events.{Standing, Slice, first_of, moments}
use Rattle.sp_core.specs.Forms.{holds_of_slice, hold_in, FormsHold}
use Rattle.sp_core.specs.History.{Entry, Taken, last_word, History}
use Rattle.sp_core.specs.Invariant.{IsRight, IsCore}
use Rattle.sp_core.specs.MemoryRules.{are_memories_right}
use Rattle.sp_core.specs.NodeRules.{range_count, is_slice_right}
use Rattle.sp_core.specs.OperationRules.{is_bound}
use Rattle.sp_core.specs.Operations.{operations}
use Rattle.sp_core.specs.PlainCore.{PlainOp, PlainSpan, PlainNode, PlainCore}
use Rattle.sp_core.specs.Scope.{Reading, Scope}
use Rattle.sp_core.specs.Sequential.{taken, run}
use Rattle.sp_core.specs.Step.{went, in_order}
use Rattle.sp_core.specs.Store.{Store}
use Rattle.sp_core.specs.Transfers.{Part, part_of, lengths, has_none, are_parts_inside}
use Rattle.sp_fitting.specs.Fitting.{StoreFits}
use Rattle.sp_patterns.specs.Indices.{bound_form, slice_forms, length_up_to, range_lengths}
use Rattle.sp_patterns.specs.Patterns.{patterns_of}
use Rattle.sp_patterns.specs.Ranges.{PlainAround}
use Rattle.sp_forms_hold.specs.RunsLaws.{IsPlaced}
use Rattle.sp_forms_hold.specs.RunsStanding.{NodeStands, TransferStands}

-- the slice of a transfer, by its number and its parts
abbrev pub slice_of : (number : ℕ) → Standing → List Part → Slice
slice_of n st parts = record { number = n; standing = st; firsts = map first_of parts; lengths = lengths parts }

-- the spans of a transfer change nothing; and where no range is empty and the slice is inside of its DRAM, its first
-- indices are its forms, and its ranges are no longer than is known
pub record SliceHolds (core : PlainCore) (n : ℕ) (st : Standing) (r : ℕ) (parts : List Part) (s t : Store) : Type 0 where
  pub left : t ≡ s
  pub holds : has_none (lengths parts) ≡ false → are_parts_inside (dims core (dram_number core r)) parts ≡ true → holds_of_slice core (patterns_of core) (slice_of n st parts) s ≡ true

-- where a transfer stands in a core whose counters are in their ranges, and its spans are given in a store whose words fit
abbrev pub SlicesHold : PlainCore → Type 0
SlicesHold core =
    (reading : Reading) (turns : ℕ) (outside : Around) (around : PlainAround) (scope : Scope) (n : ℕ) (st : Standing) (r : ℕ) (spans : List PlainSpan) (s t : Store) (ts : List Taken) →
    are_memories_right core ≡ true → is_slice_right core outside r spans ≡ true → TransferStands core n around (range_count spans) (slice_forms core.mems around spans) (range_lengths core.mems around spans) →
    IsPlaced scope around st.counters → StoreFits core s → in_order (taken core reading turns scope) spans s ≡ went ts t →
    SliceHolds core n st r (map part_of ts) s t

-- a gather or scatter moves no more words than is known
abbrev pub CountsHold : PlainCore → Type 0
CountsHold core =
    (outside : Around) (around : PlainAround) (scope : Scope) (n : ℕ) (st : Standing) (count : List PlainOp) (s t u : Store) (es : List Entry) →
    are_memories_right core ≡ true → is_bound core outside count ≡ true → TransferStands core n around 1 None (length_up_to (bound_form core.mems around count) ∷ []) →
    IsPlaced scope around st.counters → StoreFits core s → operations core scope count s ≡ went es t →
    holds_of_slice core (patterns_of core) (record { number = n; standing = st; firsts = []; lengths = natural (index_value (last_word es)) ∷ [] }) u ≡ true

-- where a node stands in a core and keeps its rules, and the counters around it are in their ranges, each moment of its run
-- from a store whose words fit is as the forms say, in the store in which it happens
abbrev pub NodesHold : PlainCore → Type 0
NodesHold core =
    (reading : Reading) (turns : ℕ) (node : PlainNode) (outside : Around) (earlier : List ℕ) (around : PlainAround) (scope : Scope) (k n : ℕ) (st : Standing) (s t : Store) (h : History) →
    are_memories_right core ≡ true → IsRight core outside earlier node → NodeStands core n around node → IsPlaced scope around st.counters → StoreFits core s → run core reading turns node scope s ≡ went h t →
    hold_in core (patterns_of core) s (moments core reading node k n st h) ≡ true

-- the forms of a core, and the lengths of its ranges, hold in each of its runs
abbrev pub CoresHold : Type 0
CoresHold = (core : PlainCore) → IsCore core → FormsHold core (patterns_of core)
