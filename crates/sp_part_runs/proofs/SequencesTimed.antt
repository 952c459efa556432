-- A sequence takes as long as a timeline says of a loop with one group.
use Rattle.std.proofs.Common.{◌≡◌, ℕ, suc, ◌+◌, ◌-◌, ◌<◌, ◌≤◌, ◌⊎◌, inl, inr, Bool, true, false, cond, nat_le, refl, sym, ap, ◌∙◌, arith, List, [], length, map, le-leb}
use Rattle.std.specs.Prelude.{max, slice_index_or}
use Rattle.std.proofs.lemmas.Bool.{lt-leb}
use Rattle.sp_time.specs.Beats.{Slot, slot_at, is_slot, offset, ends, beat, begins, first_cycle as beat_cycle, starts, whole}
use Rattle.sp_time.proofs.ListLemmas.{greatest_ge}
use Rattle.sp_part_runs.specs.SequencesChains.{turn}
use Rattle.sp_part_runs.specs.SequencesPlaces.{chains_at, stages_at, stage_at, sizes, IsPlace, AreArranged, TookAsStages, IsInTimeline, last_slot}
use Rattle.sp_part_runs.specs.SequencesRuns.{SequenceRan, member_took, longest, slot_lasts, slots_took, first_cycle, whole_run}
use Rattle.sp_part_runs.proofs.SequencesPlacing.{total_same, total_none, greatest_within, map_at, map_length, longest_bound, stage_bound, stage_here}

by_order : (a b : ℕ) → (a < b) ⊎ (a ≡ b) ⊎ (b < a)
by_order a b = grind arith

module _ (slots : List Slot) (took : (group stage : ℕ) → ℕ) (places : List (List (List ℕ))) (r : SequenceRan) (arranged : AreArranged places slots) (tells : TookAsStages places took r) where
  -- one slot
  module _ (k : ℕ) (here : k < length places) where
    fits : (j i : ℕ) → j < length (chains_at places k) → i < length (stages_at places k j) → member_took (r.found k j i) ≡ took 0 (stage_at places k j i)
    fits j i l m = tells.found k j i (here, l, m)

    abbrev long : ℕ
    long = longest (r.found k) 0 (map (λ (c : List ℕ). length c) (chains_at places k))

    shape_here : slice_index_or (sizes places) k [] ≡ map (λ (c : List ℕ). length c) (chains_at places k)
    shape_here = map_at (λ (chains : List (List ℕ)). map (λ (c : List ℕ). length c) chains) places [] [] k here

    -- what a stage adds to the beat of this number
    abbrev part : (stage : ℕ) → ℕ
    part s = cond (nat_le (slot_at slots s).slot k) (ends slots took (k - (slot_at slots s).slot) s) 0

    part_here : (s : ℕ) → (slot_at slots s).slot ≡ k → part s ≡ ends slots took 0 s
    part_here s e = ap (λ b. cond b (ends slots took (k - (slot_at slots s).slot) s) 0) (le-leb (slot_at slots s).slot k (omega (arith, e))) ∙ ap (λ n. ends slots took n s) (omega (arith, e))

    part_earlier : (s : ℕ) → (slot_at slots s).slot < k → part s ≡ 0
    part_earlier s l =
        let g = k - (slot_at slots s).slot in
        let none : offset slots took g s ≡ 0 = total_none (λ j. cond (is_slot (slot_at slots j) (slot_at slots s)) (took g j) 0) s (λ j m. by (is_slot (slot_at slots j) (slot_at slots s)) (took g j) (tells.alone g j (omega (arith, l)))) in
        let own : took g s ≡ 0 = tells.alone g s (omega (arith, l)) in
        ap (λ b. cond b (ends slots took g s) 0) (le-leb (slot_at slots s).slot k (omega (arith, l))) ∙ (omega (arith, none, own))
      where
        by : (b : Bool) (n : ℕ) → n ≡ 0 → cond b n 0 ≡ 0
        by true n e = e
        by false n e = refl

    part_later : (s : ℕ) → k < (slot_at slots s).slot → part s ≡ 0
    part_later s l = ap (λ b. cond b (ends slots took (k - (slot_at slots s).slot) s) 0) (lt-leb (slot_at slots s).slot k l)

    beat_is : long ≡ beat slots took k
    beat_is =
        let up = longest_bound slots took places arranged 0 k here (r.found k) fits (beat slots took k) (λ s l e. let p = part_here s e in let m = greatest_ge part (length slots) s l in omega (arith, p, m)) in
        let down = greatest_within part (length slots) long (λ s l. each s l (by_order (slot_at slots s).slot k)) in
        omega (arith, up, down)
      where
        each : (s : ℕ) → s < length slots → ((slot_at slots s).slot < k) ⊎ ((slot_at slots s).slot ≡ k) ⊎ (k < (slot_at slots s).slot) → part s ≤ long
        each s l (inl m) = let e = part_earlier s m in omega (arith, e)
        each s l (inr (inl m)) = let e = part_here s m in let b = stage_bound slots took places arranged 0 k here (r.found k) fits s l m in omega (arith, e, b)
        each s l (inr (inr m)) = let e = part_later s m in omega (arith, e)

    -- its longest chain takes a cycle at least
    some_long : 1 ≤ long
    some_long =
        let first = arranged.some k here in
        let h = stage_here slots took places arranged 0 k here (r.found k) fits 0 0 (omega (arith, first)) (arranged.chains k 0 here (omega (arith, first))).2 in
        let b = stage_bound slots took places arranged 0 k here (r.found k) fits (stage_at places k 0 0) h.below h.slot in
        let t = tells.takes_time k 0 0 (here, omega (arith, first), (arranged.chains k 0 here (omega (arith, first))).2) in
        omega (arith, b, t)

    lasts_is : slot_lasts (r.found k) (slice_index_or (sizes places) k []) ≡ beat slots took k
    lasts_is =
        let e = ap (longest (r.found k) 0) shape_here in
        let a : max 1 long ≡ long = (let s = some_long in omega (arith, s)) in
        ap (λ n. max 1 n) e ∙ a ∙ beat_is

  slots_are : (k : ℕ) → k ≤ length places → slots_took (sizes places) r k ≡ begins slots took k
  slots_are k l = total_same (λ j. suc (slot_lasts (r.found j) (slice_index_or (sizes places) j []))) (λ b. suc (beat slots took b)) k (λ j m. ap suc (lasts_is j (omega (arith, l, m))))

  firsts_are : (k : ℕ) → k < length places → first_cycle (sizes places) k r ≡ r.cycle + beat_cycle slots took k
  firsts_are k l = let e = slots_are k (omega (arith, l)) in omega (arith, e)

  members_are : (k j i : ℕ) → IsPlace places k j i → suc (turn (first_cycle (sizes places) k) (λ (q : SequenceRan). q.found k j) i r) ≡ r.cycle + starts slots took 0 (stage_at places k j i)
  members_are k j i (l, m, n) =
      let h = stage_here slots took places arranged 0 k l (r.found k) (fits k l) j i m n in
      let before = h.before in
      let first = firsts_are k l in
      let slot : beat_cycle slots took (0 + (slot_at slots (stage_at places k j i)).slot) ≡ beat_cycle slots took k = ap (beat_cycle slots took) (let e = h.slot in omega (arith, e)) in
      omega (arith, before, first, slot)

  whole_is : (whole_run (sizes places) r).took ≡ whole slots took 1
  whole_is =
      let n : length (sizes places) ≡ 1 + last_slot slots = map_length (λ (chains : List (List ℕ)). map (λ (c : List ℕ). length c) chains) places ∙ arranged.each ∙ (omega arith) in
      let all = slots_are (length places) (omega arith) in
      let e = map_length (λ (chains : List (List ℕ)). map (λ (c : List ℕ). length c) chains) places in
      ap (λ n. 2 + slots_took (sizes places) r n) e ∙ ap (λ n. 2 + n) all ∙ ap (λ n. 2 + begins slots took n) (sym e ∙ n)

pub in_timeline : (slots : List Slot) (took : (group stage : ℕ) → ℕ) (places : List (List (List ℕ))) (r : SequenceRan) → AreArranged places slots → TookAsStages places took r → IsInTimeline places slots took r
in_timeline slots took places r arranged tells = record { first_cycles = firsts_are slots took places r arranged tells; members = members_are slots took places r arranged tells; lasts = whole_is slots took places r arranged tells }
