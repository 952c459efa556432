-- The slot in which a loop first uses a memory is one of its slots.
use Rattle.std.proofs.Common.{◌≡◌, ℕ, zero, suc, ◌+◌, ◌<◌, ◌≤◌, Bool, true, false, if◌then◌else◌, List, [], ◌∷◌, ◌++◌, length, map, slice_index, refl, sym, ap, subst, ◌∙◌, arith}
use Rattle.sp_netlist.specs.Signals.{Signals}
use Rattle.sp_sequence.specs.declared.part.Slot.{Slot}
use Rattle.sp_beats.specs.Beats.{has_group, StartsSlots, no_slot, one_slot}
use Rattle.sp_core.specs.PlainCore.{PlainStages, no_stage, more_stage, PlainCore}
use Rattle.sp_plan.specs.Copies.{used_slots}
use Rattle.sp_plan.specs.Named.{uses}
use Rattle.sp_plan.specs.PlainPlan.{PlainNodePlan, inner_plan, outer_plan, other_plan}
use Rattle.sp_plan.specs.Validity.{stage_count}
use Rattle.sp_time.specs.Beats.{Slot as Place, slot_at}
use Rattle.sp_time.proofs.ListLemmas.{greatest_ge}
use Rattle.sp_machine.specs.Timeline.{slots_from, slots_of, slot_numbers, least}
use Rattle.sp_part_runs.specs.SequencesChains.{Numbered}
use Rattle.sp_part_runs.specs.SequencesPlaces.{last_slot, sizes, AreArranged}
use Rattle.sp_part_runs.specs.SequencesRuns.{sizes_of, shape_of}
use Rattle.sp_part_runs.proofs.SequencesPlacing.{map_length}

-- each slot has a net for its first cycles
starts_long : (start step : ℕ → Bool) (s : Signals) (comes : ℕ → Bool) (slots : List Slot) (firsts : List ℕ) → StartsSlots start step s comes slots firsts → length firsts ≡ length slots
starts_long start step s comes _ _ no_slot = refl
starts_long start step s comes _ _ (one_slot {slot = slot} {slots = slots} {first = first} {firsts = nets} gets starting rest) = ap suc (starts_long start step s (has_group start step comes) slots nets rest)

pub firsts_long : (start step : ℕ → Bool) (s : Signals) (comes : ℕ → Bool) (slots : List Slot) (firsts : List ℕ) (places : List (List (List ℕ))) → StartsSlots start step s comes slots firsts → shape_of slots ≡ sizes places → length firsts ≡ length places
firsts_long start step s comes slots firsts places h shaped =
    starts_long start step s comes slots firsts h ∙ sym (map_length (λ (slot : Slot). sizes_of slot.chains.items) slots) ∙ ap (λ (xs : List (List ℕ)). length xs) shaped
    ∙ map_length (λ (chains : List (List ℕ)). map (λ (c : List ℕ). length c) chains) places

pub numbered_at : (Q : ℕ → ℕ → Type 0) (x : ℕ) (xs : List ℕ) (i : ℕ) → i < length xs → Numbered Q x xs → Q (x + i) (slice_index xs i)
numbered_at Q x [] i l h = absurd (omega (arith, l))
numbered_at Q x (y ∷ ys) zero l h = subst (λ n. Q n y) {x = x} {y = x + 0} (omega arith) h.0
numbered_at Q x (y ∷ ys) (suc i) l h = subst (λ n. Q n (slice_index ys i)) {x = suc x + i} {y = x + suc i} (omega arith) (numbered_at Q (suc x) ys i (omega (arith, l)) h.1)

abbrev AllUpTo : ℕ → List ℕ → Type 0
AllUpTo b [] = Unit {0}
AllUpTo b (x ∷ xs) = (x ≤ b) × AllUpTo b xs

least_up_to : (b : ℕ) (xs : List ℕ) → AllUpTo b xs → least xs ≤ b
least_up_to b [] h = omega arith
least_up_to b (x ∷ []) h = h.0
least_up_to b (x ∷ y ∷ ys) h = let a = h.0 in omega (arith, a)

module _ (core : PlainCore) (m : ℕ) (b : ℕ) where
  used_up_to : (stages : PlainStages) (slots chains : List ℕ) → stage_count stages ≤ length (slots_from slots chains) → ((i : ℕ) → i < length (slots_from slots chains) → (slot_at (slots_from slots chains) i).slot ≤ b) → AllUpTo b (used_slots core m stages slots)
  used_up_to no_stage slots chains many each = tt
  used_up_to (more_stage first last comb node rest) [] chains many each = tt
  used_up_to (more_stage first last comb node rest) (x ∷ slots) [] many each = absurd (omega (arith, many))
  used_up_to (more_stage first last comb node rest) (x ∷ slots) (c ∷ chains) many each = by (uses core m node) (each 0 (omega arith)) (used_up_to rest slots chains (omega (arith, many)) (λ i l. each (suc i) (omega (arith, l))))
    where
      by : (u : Bool) → x ≤ b → AllUpTo b (used_slots core m rest slots) → AllUpTo b ((if u then x ∷ [] else []) ++ used_slots core m rest slots)
      by true l more = (l, more)
      by false l more = more

none_used : (core : PlainCore) (m : ℕ) (stages : PlainStages) → least (used_slots core m stages []) ≤ 0
none_used core m no_stage = omega arith
none_used core m (more_stage first last comb node rest) = omega arith

pub used_below : (core : PlainCore) (m : ℕ) (stages : PlainStages) (p : PlainNodePlan) (places : List (List (List ℕ))) → AreArranged places (slots_of p) → length (slots_of p) ≡ stage_count stages → least (used_slots core m stages (slot_numbers p)) < length places
used_below core m stages (outer_plan slots chains) places arranged size =
    let each = arranged.each in
    let l = least_up_to (last_slot (slots_from slots chains)) (used_slots core m stages slots)
    (used_up_to core m (last_slot (slots_from slots chains)) stages slots chains (omega (arith, size)) (λ i l. greatest_ge (λ j. (slot_at (slots_from slots chains) j).slot) (length (slots_from slots chains)) i l)) in
    omega (arith, each, l)
used_below core m stages (inner_plan times ii latency serial) places arranged size = let each = arranged.each in let l = none_used core m stages in omega (arith, each, l)
used_below core m stages other_plan places arranged size = let each = arranged.each in let l = none_used core m stages in omega (arith, each, l)

-- so is that of each stage
pub slot_below : (places : List (List (List ℕ))) (slots : List Place) → AreArranged places slots → (i : ℕ) → i < length slots → (slot_at slots i).slot < length places
slot_below places slots arranged i lt = let each = arranged.each in let l = greatest_ge (λ j. (slot_at slots j).slot) (length slots) i lt in omega (arith, each, l)
