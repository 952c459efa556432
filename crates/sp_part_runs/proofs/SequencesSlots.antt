-- Slots one after the other, over all runs of their sequence.
use Rattle.std.proofs.Common.{◌≡◌, ℕ, suc, ◌+◌, ◌<◌, ◌≤◌, ◌⊎◌, inl, inr, Bool, refl, sym, ap, arith, List, [], ◌∷◌, length, map}
use Rattle.std.specs.Prelude.{max, slice_index_or}
use Rattle.std.specs.List.{Contains}
use Rattle.std.proofs.Math.Nat.{le-max_right}
use Rattle.sp_time.proofs.ListLemmas.{total_mono}
use Rattle.sp_netlist.specs.Signals.{Signals}
use Rattle.sp_gates.specs.Tested.{is_on}
use Rattle.sp_part_runs.specs.BodiesRuns.{IsOnAt}
use Rattle.sp_part_runs.specs.ControlParts.{Ran, Begins, Ends}
use Rattle.sp_sequence.specs.declared.part.Slot.{Slot}
use Rattle.sp_sequence.specs.Joins.{chains_over}
use Rattle.sp_sequence.specs.Slots.{slot_end, RunsSlots, ended, begun}
use Rattle.sp_part_runs.specs.SequencesChains.{Numbered, At, ChainsDo, ChainsBegin}
use Rattle.sp_part_runs.specs.SequencesLaws.{SequencesWork}
use Rattle.sp_part_runs.specs.SequencesRuns.{SequenceRan, sizes_of, shape_of, longest, slot_lasts, slots_took, first_cycle, whole_run, AreInTurn}
use Rattle.sp_part_runs.proofs.SequencesCycles.{mapped, unmapped, by_order, at_same, on_same, after_at}
use Rattle.sp_part_runs.proofs.SequencesJoining.{chains_right, end_right}

-- a list stands in another one from a number on
abbrev StandsFrom : List (List ℕ) → ℕ → List (List ℕ) → Type 0
StandsFrom xs k [] = Unit {0}
StandsFrom xs k (y ∷ ys) = (slice_index_or xs k [] ≡ y) × StandsFrom xs (suc k) ys

one_later : (x : List ℕ) (xs : List (List ℕ)) (k : ℕ) (ys : List (List ℕ)) → StandsFrom xs k ys → StandsFrom (x ∷ xs) (suc k) ys
one_later x xs k [] h = tt
one_later x xs k (y ∷ ys) h = (h.0, one_later x xs (suc k) ys h.1)

stands : (xs : List (List ℕ)) → StandsFrom xs 0 xs
stands [] = tt
stands (x ∷ xs) = (refl, one_later x xs 0 xs (stands xs))

module _ (s : Signals) (shape : List (List ℕ)) (runs : List SequenceRan) (last : ℕ) (turns : AreInTurn shape runs) where
  apart : (k : ℕ) → k < length shape → (r q : SequenceRan) → Contains runs r → Contains runs q → first_cycle shape k r ≤ first_cycle shape k q → (r ≡ q) ⊎ (first_cycle shape k r + slot_lasts (r.found k) (slice_index_or shape k []) < first_cycle shape k q)
  apart k below r q c d l = by (by_order r.cycle q.cycle)
    where
      within : (p : SequenceRan) → slots_took shape p (suc k) ≤ slots_took shape p (length shape)
      within p = total_mono (λ k. suc (slot_lasts (p.found k) (slice_index_or shape k []))) (suc k) (length shape) (omega (arith, below))

      after : (r ≡ q) ⊎ (r.cycle + (2 + slots_took shape r (length shape)) ≤ q.cycle) → (r ≡ q) ⊎ (first_cycle shape k r + slot_lasts (r.found k) (slice_index_or shape k []) < first_cycle shape k q)
      after (inl same) = inl same
      after (inr over) = let w = within r in inr (omega (arith, over, w))

      before : q.cycle < r.cycle → (q ≡ r) ⊎ (q.cycle + (2 + slots_took shape q (length shape)) ≤ r.cycle) → (r ≡ q) ⊎ (first_cycle shape k r + slot_lasts (r.found k) (slice_index_or shape k []) < first_cycle shape k q)
      before m (inl same) = inl (sym same)
      before m (inr over) = let w = within q in absurd (omega (arith, over, w, l))

      by : (r.cycle ≤ q.cycle) ⊎ (q.cycle < r.cycle) → (r ≡ q) ⊎ (first_cycle shape k r + slot_lasts (r.found k) (slice_index_or shape k []) < first_cycle shape k q)
      by (inl m) = after (turns r q c d m)
      by (inr m) = before m (turns q r d c (omega (arith, m)))

  record SlotsRight (k : ℕ) (slots : List Slot) (nets : List ℕ) (done : ℕ → Bool) : Type 0 where
    first_cycles : Numbered (λ k first. IsOnAt (is_on s first) (At (first_cycle shape k) runs) last) k nets
    starts : Numbered (λ k (slot : Slot). ChainsBegin s (first_cycle shape k) (λ (r : SequenceRan). r.found k) runs last slot.chains.items) k slots
    ends : IsOnAt done (At (first_cycle shape (length shape)) runs) last

  slots_right : (slots : List Slot) (nets : List ℕ) (cause done : ℕ → Bool) (k : ℕ) → RunsSlots s cause slots nets done → IsOnAt cause (At (λ r. r.cycle + slots_took shape r k) runs) last → StandsFrom shape k (shape_of slots) → k + length slots ≡ length shape
      → Numbered (λ k (slot : Slot). ChainsDo s (first_cycle shape k) (λ (r : SequenceRan). r.found k) runs last slot.chains.items) k slots → SlotsRight k slots nets done
  slots_right _ _ cause done k (ended a) begins there end does = record {
    first_cycles = tt;
    starts = tt;
    ends = at_same done (first_cycle shape k) (first_cycle shape (length shape)) runs last (λ r. ap (λ n. first_cycle shape n r) (omega (arith, end))) (after_at done cause (λ r. r.cycle + slots_took shape r k) runs last a begins);
  }
  slots_right _ _ cause done k (begun {slot = slot} {slots = slots} {first = first} {firsts = nets} a starts rest) begins there end does =
      let firsts = after_at (is_on s first) cause (λ r. r.cycle + slots_took shape r k) runs last a begins in
      let below : k < length shape = omega (arith, end) in
      let span : SequenceRan → ℕ = λ r. slot_lasts (r.found k) (slice_index_or shape k []) in
      let long : SequenceRan → ℕ = λ r. longest (r.found k) 0 (sizes_of slot.chains.items) in
      let lasts : (r : SequenceRan) → Contains runs r → span r ≡ max 1 (long r) = λ r c. ap (slot_lasts (r.found k)) there.0 in
      let chains = chains_right (is_on s first) (first_cycle shape k) span runs last firsts (apart k below) s (λ r. r.found k) slot.chains.items 0 starts does.0 (λ r c. let e = lasts r c in let m = le-max_right 1 (long r) in omega (arith, e, m)) in
      let over = end_right (is_on s first) (first_cycle shape k) span runs last firsts (apart k below) (chains_over s (is_on s first) slot.chains.items) long chains.over lasts in
      let others =
      slots_right slots nets (slot_end s (is_on s first) slot) done (suc k) rest
      (at_same (slot_end s (is_on s first) slot) (λ r. first_cycle shape k r + span r) (λ r. r.cycle + slots_took shape r (suc k)) runs last (λ r. omega arith) over)
      there.1 (omega (arith, end)) does.1 in
      record { first_cycles = (firsts, others.first_cycles); starts = (chains.starts, others.starts); ends = others.ends }

same_length : (slots : List Slot) → length slots ≡ length (shape_of slots)
same_length [] = refl
same_length (slot ∷ slots) = ap suc (same_length slots)

pub sequences_work : SequencesWork
sequences_work s start slots nets done last runs goes turns starts does =
    let shape = shape_of slots in
    let begins : IsOnAt (is_on s start) (At (λ (r : SequenceRan). r.cycle + slots_took shape r 0) runs) last =
    on_same (is_on s start) (Begins (map (whole_run shape) runs)) (At (λ (r : SequenceRan). r.cycle + slots_took shape r 0) runs) last
    (λ t (x, i, e). let q = unmapped (whole_run shape) runs x i in let f = ap (λ (r : Ran). r.cycle) q.2 in (q.0, q.1, omega (arith, e, f)))
    (λ t (r, i, e). (whole_run shape r, mapped (whole_run shape) runs r i, omega (arith, e))) starts in
    let all = slots_right s shape runs last turns slots nets (is_on s start) (is_on s done) 0 goes begins (stands shape) (let e = same_length slots in omega (arith, e)) does in
    record {
      first_cycles = all.first_cycles;
      starts = all.starts;
      ends = on_same (is_on s done) (At (first_cycle shape (length shape)) runs) (Ends (map (whole_run shape) runs)) last
          (λ t (r, i, e). (whole_run shape r, mapped (whole_run shape) runs r i, omega (arith, e)))
          (λ t (x, i, e). let q = unmapped (whole_run shape) runs x i in let f = ap (λ (r : Ran). r.cycle) q.2 in let g = ap (λ (r : Ran). r.took) q.2 in (q.0, q.1, omega (arith, e, f, g))) all.ends;
    }
