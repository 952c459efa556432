-- Each stage does a group in the beat of the group and of its slot.
use Rattle.std.proofs.Common.{ℕ, zero, suc, ◌+◌, ◌<◌, ◌≤◌, List, [], ◌∷◌, length, arith, sym, subst}
use Rattle.std.specs.Prelude.{slice_index_or}
use Rattle.sp_plan.specs.PlainPlan.{PlainPlan, node_plan}
use Rattle.sp_plan.specs.Validity.{stage_count}
use Rattle.sp_core.specs.PlainCore.{PlainStages, PlainCore}
use Rattle.sp_time.specs.Beats.{Slot, Run, slot_at, no_time, run_at, took_at, first_cycle, starts}
use Rattle.sp_time.specs.Lists.{Each}
use Rattle.sp_time.proofs.Whole.{beats_in_order}
use Rattle.sp_machine.specs.Laws.{IsInBeat, WorksInBeats}
use Rattle.sp_machine.specs.Stamps.{Stamped, later}
use Rattle.sp_machine.specs.Timeline.{group_runs, slots_of}
use Rattle.sp_machine.specs.Transfers.{Delays}
use Rattle.sp_machine.proofs.Within.{Before, RowWithin, TableWithin, slot_count, groups_within}

row_at : (row : List (Run Stamped)) → RowWithin row → (s : ℕ) → Before (slice_index_or row s no_time).took (slice_index_or row s no_time).events
row_at [] h s = tt
row_at (r ∷ row) h zero = h.0
row_at (r ∷ row) h (suc s) = row_at row h.1 s

table_at : (n : ℕ) (runs : List (List (Run Stamped))) → TableWithin n runs → (g s : ℕ) → Before (run_at runs g s).took (run_at runs g s).events
table_at n [] h g s = tt
table_at n (row ∷ rows) h zero s = row_at row h.0.1 s
table_at n (row ∷ rows) h (suc g) s = table_at n rows h.1 g s

in_beat : (slots : List Slot) (took : ℕ → ℕ → ℕ) (g s n : ℕ) (es : List Stamped) → s < length slots → n ≤ took g s → Before n es → Each (IsInBeat slots took (g + (slot_at slots s).slot)) (later (starts slots took g s) es)
in_beat slots took g s n [] l q h = tt
in_beat slots took g s n (e ∷ es) l q h =
    let after : first_cycle slots took (g + (slot_at slots s).slot) < starts slots took g s = (beats_in_order slots took).in_beat g s (g + (slot_at slots s).slot) (omega arith) in
    let over : starts slots took g s + took g s ≤ first_cycle slots took (suc (g + (slot_at slots s).slot)) = (beats_in_order slots took).after_beat g s (suc (g + (slot_at slots s).slot)) l (omega arith) in
    let before : e.cycle < n = h.0 in
    ((omega arith, omega arith), in_beat slots took g s n es l q h.1)

pub works_in_beats : (core : PlainCore) (plan : PlainPlan) (delays : Delays) (stages : PlainStages) → WorksInBeats core plan delays stages
works_in_beats core plan delays stages k n st owned copies values groups has planned kept g s l =
    let runs = group_runs core plan delays stages k n 0 st owned copies values groups in
    let few : s < length (slots_of (node_plan plan k)) = subst (λ m. s < m) (sym (slot_count (node_plan plan k) (stage_count stages) has)) l in
    in_beat (slots_of (node_plan plan k)) (took_at runs) g s (took_at runs g s) (run_at runs g s).events few (omega arith)
    (table_at (stage_count stages) runs (groups_within core plan delays stages k n 0 st owned copies values groups planned kept) g s)
