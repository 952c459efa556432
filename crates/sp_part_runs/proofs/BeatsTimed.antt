-- A loop in beats takes as long as a timeline says.
use Rattle.std.proofs.Common.{◌≡◌, ℕ, zero, suc, ◌+◌, ◌-◌, ◌<◌, ◌≤◌, ◌⊎◌, inl, inr, Bool, true, false, cond, nat_le, refl, ap, subst, ◌∙◌, arith, List, [], ◌∷◌, length, map, le-leb}
use Rattle.std.specs.Prelude.{max, slice_index_or}
use Rattle.std.proofs.Math.Nat.{max-le, le-max_left, le-max_right}
use Rattle.std.proofs.lemmas.Bool.{lt-leb}
use Rattle.sp_time.specs.Beats.{Slot, slot_at, is_slot, beat_count, offset, ends, beat, begins, first_cycle, starts, whole}
use Rattle.sp_time.proofs.ListLemmas.{greatest_ge}
use Rattle.sp_part_runs.specs.SequencesChains.{turn}
use Rattle.sp_part_runs.specs.SequencesPlaces.{chains_at, stages_at, stage_at, sizes, IsPlace, AreArranged, last_slot}
use Rattle.sp_part_runs.specs.SequencesRuns.{member_took, longest}
use Rattle.sp_part_runs.proofs.SequencesCycles.{either}
use Rattle.sp_part_runs.proofs.SequencesPlacing.{total_same, total_none, greatest_within, map_at, map_length, longest_bound, stage_bound, stage_here}
use Rattle.sp_part_runs.specs.BeatsRuns.{BeatsRan, has_in, beats, slot_lasts, longest_of, beat_lasts, beats_took, beats_of, whole_run, Turn, slot_cycle, slot_found}
use Rattle.sp_part_runs.specs.BeatsTimelines.{TookAsStages, IsInTimeline}
use Rattle.sp_part_runs.proofs.BeatsCounting.{has_of_group, group_of_has, some_had, beat_has_some, group_in_beats, turn_of}

order : (a b : ℕ) → (a ≤ b) ⊎ (b < a)
order a b = grind arith

-- the longest of slots
module _ (r : BeatsRan) (b : ℕ) where
  within_of : (xs : List (List ℕ)) (j i : ℕ) → i < length xs → slot_lasts r b (j + i) (slice_index_or xs i []) ≤ longest_of r b j xs
  within_of [] j i l = absurd (omega (arith, l))
  within_of (x ∷ xs) j zero l = subst (λ k. slot_lasts r b k x ≤ max (slot_lasts r b j x) (longest_of r b (suc j) xs)) {x = j} (omega arith) (le-max_left _ _)
  within_of (x ∷ xs) j (suc i) l =
      let m = le-max_right (slot_lasts r b j x) (longest_of r b (suc j) xs) in
      let k : slot_lasts r b (j + suc i) (slice_index_or xs i []) ≤ longest_of r b (suc j) xs = subst (λ k. slot_lasts r b k (slice_index_or xs i []) ≤ longest_of r b (suc j) xs) {x = suc j + i} (omega arith) (within_of xs (suc j) i (omega (arith, l))) in
      omega (arith, k, m)

  of_within : (xs : List (List ℕ)) (j m : ℕ) → ((i : ℕ) → i < length xs → slot_lasts r b (j + i) (slice_index_or xs i []) ≤ m) → longest_of r b j xs ≤ m
  of_within [] j m h = omega arith
  of_within (x ∷ xs) j m h =
      max-le (subst (λ k. slot_lasts r b k x ≤ m) {x = j + 0} (omega arith) (h 0 (omega arith)))
      (of_within xs (suc j) m (λ i l. subst (λ k. slot_lasts r b k (slice_index_or xs i []) ≤ m) {x = j + suc i} (omega arith) (h (suc i) (omega (arith, l)))))

module _ (slots : List Slot) (took : (group stage : ℕ) → ℕ) (places : List (List (List ℕ))) (r : BeatsRan) (arranged : AreArranged places slots) (tells : TookAsStages places took r) where
  shape_length : length (sizes places) ≡ length places
  shape_length = map_length (λ (chains : List (List ℕ)). map (λ (c : List ℕ). length c) chains) places

  -- one slot in one group
  module _ (g k : ℕ) (some : g < r.groups) (here : k < length places) where
    fits : (j i : ℕ) → j < length (chains_at places k) → i < length (stages_at places k j) → member_took (r.found g k j i) ≡ took g (stage_at places k j i)
    fits j i l m = tells.found g k j i some (here, l, m)

    abbrev long : ℕ
    long = longest (r.found g k) 0 (map (λ (c : List ℕ). length c) (chains_at places k))

    lasts_here : (b : ℕ) → b ≡ g + k → slot_lasts r b k (slice_index_or (sizes places) k []) ≡ long
    lasts_here b e =
        let t : has_in r.groups k b ≡ true = ap (has_in r.groups k) e ∙ has_of_group r.groups k g some in
        ap (λ v. elim v as (λ _. ℕ) [ true ↦ longest (r.found (b - k) k) 0 (slice_index_or (sizes places) k []) | false ↦ 0 ]) t
        ∙ ap (λ m. longest (r.found m k) 0 (slice_index_or (sizes places) k [])) (omega (arith, e)) ∙ ap (longest (r.found g k) 0) (map_at (λ (chains : List (List ℕ)). map (λ (c : List ℕ). length c) chains) places [] [] k here)

    -- its longest chain takes a cycle at least
    some_long : 1 ≤ long
    some_long =
        let first = arranged.some k here in
        let member = (arranged.chains k 0 here (omega (arith, first))).2 in
        let h = stage_here slots took places arranged g k here (r.found g k) fits 0 0 (omega (arith, first)) member in
        let b = stage_bound slots took places arranged g k here (r.found g k) fits (stage_at places k 0 0) h.below h.slot in
        let t = tells.takes_time g k 0 0 some (here, omega (arith, first), member) in
        omega (arith, b, t)

  -- what a stage adds to a beat
  module _ (b : ℕ) where
    abbrev part : (stage : ℕ) → ℕ
    part s = cond (nat_le (slot_at slots s).slot b) (ends slots took (b - (slot_at slots s).slot) s) 0

    part_here : (g s : ℕ) → b ≡ g + (slot_at slots s).slot → part s ≡ ends slots took g s
    part_here g s e = ap (λ v. cond v (ends slots took (b - (slot_at slots s).slot) s) 0) (le-leb (slot_at slots s).slot b (omega (arith, e))) ∙ ap (λ n. ends slots took n s) (omega (arith, e))

    part_ended : (s : ℕ) → (slot_at slots s).slot ≤ b → r.groups ≤ b - (slot_at slots s).slot → part s ≡ 0
    part_ended s l m =
        let g = b - (slot_at slots s).slot in
        let none : offset slots took g s ≡ 0 = total_none (λ j. cond (is_slot (slot_at slots j) (slot_at slots s)) (took g j) 0) s (λ j a. by (is_slot (slot_at slots j) (slot_at slots s)) (took g j) (tells.ended g j m)) in
        let own : took g s ≡ 0 = tells.ended g s m in
        ap (λ v. cond v (ends slots took g s) 0) (le-leb (slot_at slots s).slot b l) ∙ (omega (arith, none, own))
      where
        by : (v : Bool) (n : ℕ) → n ≡ 0 → cond v n 0 ≡ 0
        by true n e = e
        by false n e = refl

    part_later : (s : ℕ) → b < (slot_at slots s).slot → part s ≡ 0
    part_later s l = ap (λ v. cond v (ends slots took (b - (slot_at slots s).slot) s) 0) (lt-leb (slot_at slots s).slot b l)

    slot_within : (k : ℕ) → k < length places → slot_lasts r b k (slice_index_or (sizes places) k []) ≤ beat slots took b
    slot_within k here = by (either (has_in r.groups k b))
      where
        by : (has_in r.groups k b ≡ true) ⊎ (has_in r.groups k b ≡ false) → slot_lasts r b k (slice_index_or (sizes places) k []) ≤ beat slots took b
        by (inr f) = let e = ap (λ v. elim v as (λ _. ℕ) [ true ↦ longest (r.found (b - k) k) 0 (slice_index_or (sizes places) k []) | false ↦ 0 ]) f in omega (arith, e)
        by (inl t) =
            let q = group_of_has r.groups k b t in
            let at = q.2 in
            let e = lasts_here q.0 k q.1 here b q.2 in
            let up =
            longest_bound slots took places arranged q.0 k here (r.found q.0 k) (fits q.0 k q.1 here) (beat slots took b)
            (λ s l same. let p = part_here q.0 s (omega (arith, at, same)) in let m = greatest_ge part (length slots) s l in omega (arith, p, m)) in
            omega (arith, e, up)

    stage_within : (s : ℕ) → s < length slots → part s ≤ longest_of r b 0 (sizes places)
    stage_within s l = by (order (slot_at slots s).slot b) (order r.groups (b - (slot_at slots s).slot))
      where
        by : ((slot_at slots s).slot ≤ b) ⊎ (b < (slot_at slots s).slot) → (r.groups ≤ b - (slot_at slots s).slot) ⊎ (b - (slot_at slots s).slot < r.groups) → part s ≤ longest_of r b 0 (sizes places)
        by (inr m) _ = let e = part_later s m in omega (arith, e)
        by (inl a) (inl m) = let e = part_ended s a m in omega (arith, e)
        by (inl a) (inr m) =
            let k = (slot_at slots s).slot in
            let g = b - (slot_at slots s).slot in
            let top : k ≤ last_slot slots = greatest_ge (λ j. (slot_at slots j).slot) (length slots) s l in
            let n = arranged.each in
            let here : k < length places = omega (arith, top, n) in
            let at : b ≡ g + k = omega (arith, a) in
            let p = part_here g s at in
            let q = stage_bound slots took places arranged g k here (r.found g k) (fits g k m here) s l refl in
            let e = lasts_here g k m here b at in
            let w : slot_lasts r b k (slice_index_or (sizes places) k []) ≤ longest_of r b 0 (sizes places) =
            subst (λ x. slot_lasts r b x (slice_index_or (sizes places) k []) ≤ longest_of r b 0 (sizes places)) {x = 0 + k} (omega arith) (within_of r b (sizes places) 0 k (let z = shape_length in omega (arith, z, here))) in
            omega (arith, p, q, e, w)

    beat_is : longest_of r b 0 (sizes places) ≡ beat slots took b
    beat_is =
        let up = of_within r b (sizes places) 0 (beat slots took b) (λ i l. subst (λ x. slot_lasts r b x (slice_index_or (sizes places) i []) ≤ beat slots took b) {x = i} (omega arith) (slot_within i (let z = shape_length in omega (arith, z, l)))) in
        let down = greatest_within part (length slots) (longest_of r b 0 (sizes places)) stage_within in
        omega (arith, up, down)

    lasts_is : b < beats_of (sizes places) r → beat_lasts (sizes places) b r ≡ beat slots took b
    lasts_is l =
        let h = some_had r.groups b 0 (length (sizes places)) (beat_has_some r.groups (length (sizes places)) b l) in
        let q = group_of_has r.groups h.0 b h.3 in
        let z = shape_length in
        let u = h.2 in
        let here : h.0 < length places = omega (arith, u, z) in
        let e = lasts_here q.0 h.0 q.1 here b q.2 in
        let some = some_long q.0 h.0 q.1 here in
        let w : slot_lasts r b h.0 (slice_index_or (sizes places) h.0 []) ≤ longest_of r b 0 (sizes places) =
        subst (λ x. slot_lasts r b x (slice_index_or (sizes places) h.0 []) ≤ longest_of r b 0 (sizes places)) {x = 0 + h.0} (omega arith) (within_of r b (sizes places) 0 h.0 (omega (arith, z, here))) in
        let a : max 1 (longest_of r b 0 (sizes places)) ≡ longest_of r b 0 (sizes places) = omega (arith, e, some, w) in
        a ∙ beat_is

  beats_are : (b : ℕ) → b ≤ beats_of (sizes places) r → beats_took (sizes places) b r ≡ begins slots took b
  beats_are b l = total_same (λ c. suc (beat_lasts (sizes places) c r)) (λ c. suc (beat slots took c)) b (λ c m. ap suc (lasts_is c (omega (arith, l, m))))

  in_beats : (g k : ℕ) → g < r.groups → k < length places → g + k < beats_of (sizes places) r
  in_beats g k l m = group_in_beats r.groups (length (sizes places)) g k l (let z = shape_length in omega (arith, z, m))

  members_are : (g k j i : ℕ) → g < r.groups → IsPlace places k j i → suc (turn (slot_cycle (sizes places) k) (λ (x : Turn). slot_found k x j) i (turn_of r g)) ≡ r.cycle + starts slots took g (stage_at places k j i)
  members_are g k j i some (l, m, n) =
      let h = stage_here slots took places arranged g k l (r.found g k) (fits g k some l) j i m n in
      let before = h.before in
      let b = in_beats g k some l in
      let first = beats_are (g + k) (omega (arith, b)) in
      let slot : first_cycle slots took (g + (slot_at slots (stage_at places k j i)).slot) ≡ first_cycle slots took (g + k) = ap (λ x. first_cycle slots took (g + x)) h.slot in
      omega (arith, before, first, slot)

  whole_is : (whole_run (sizes places) r).took ≡ whole slots took r.groups
  whole_is =
      let all = beats_are (beats_of (sizes places) r) (omega arith) in
      let z = shape_length in
      let e = arranged.each in
      let count : beats r.groups (length (sizes places)) ≡ beat_count r.groups (last_slot slots) = by r.groups (length (sizes places)) (last_slot slots) (omega (arith, z, e)) in
      ap (λ n. 2 + n) all ∙ ap (λ n. 2 + begins slots took n) count
    where
      by : (n m last : ℕ) → m ≡ suc last → beats n m ≡ beat_count n last
      by zero m last e = refl
      by (suc n) zero last e = absurd (omega (arith, e))
      by (suc n) (suc m) last e = omega (arith, e)

pub in_timeline : (slots : List Slot) (took : (group stage : ℕ) → ℕ) (places : List (List (List ℕ))) (r : BeatsRan) → AreArranged places slots → TookAsStages places took r → IsInTimeline places slots took r
in_timeline slots took places r arranged tells = record {
  beats = λ b l. let e = beats_are slots took places r arranged tells b l in omega (arith, e);
  members = members_are slots took places r arranged tells;
  lasts = whole_is slots took places r arranged tells;
}
