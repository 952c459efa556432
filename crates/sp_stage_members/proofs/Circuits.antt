-- Members by lists of nets for the lanes are those of a loop's circuit.
use Rattle.std.proofs.Common.{◌≡◌, ℕ, zero, suc, ◌+◌, ◌-◌, ◌<◌, ◌≤◌, refl, sym, ap, subst, ◌∙◌, arith, List, [], ◌∷◌, length, drop, map, Option, Some, None}
use Rattle.std.specs.Prelude.{slice_index, slice_index_or}
use Rattle.sp_netlist.specs.Draft.{Draft}
use Rattle.sp_netlist.specs.Signals.{Signals}
use Rattle.sp_gates.specs.Runs.{RunsOn}
use Rattle.sp_gates.specs.Tested.{is_on}
use Rattle.sp_core.specs.PlainCore.{PlainCounter, PlainStages}
use Rattle.sp_core.specs.Scope.{is_some_up_to}
use Rattle.sp_counters.specs.declared.part.Counted.{Counted}
use Rattle.sp_beat_words.specs.declared.part.Row.{Row}
use Rattle.sp_sequence.specs.declared.part.Chain.{Chain}
use Rattle.sp_sequence.specs.declared.part.Member.{Member}
use Rattle.sp_sequence.specs.declared.part.Slot.{Slot}
use Rattle.sp_part_runs.specs.SequencesPlaces.{chains_at, stages_at}
use Rattle.sp_part_runs.specs.SequencesPlaces as places_of
use Rattle.sp_part_runs.specs.SequencesChains.{Numbered}
use Rattle.sp_node_runs.specs.BodiesRows.{wires_of}
use Rattle.sp_tree_circuits.specs.Circuits.{first_lane, last_lane, row_masks, masks_told, IsToldBy, MemberCircuit, MemberCircuits}
use Rattle.sp_stage_members.specs.declared.part.StagePart.{StagePart}
use Rattle.sp_stage_members.specs.Members.{part_at, masks_at, told_row, IsWanted, IsMemberOf, AreMembersOf, AreChainsOf, AreSlotsOf}
use Rattle.sp_stage_members.specs.Circuits.{masks_in, AreMasksOf, HaveLanes, MembersAreCircuits}
use Rattle.sp_stage_members.proofs.Paired.{paired_numbered}

none_left : (n : ℕ) → drop {A = ℕ} n [] ≡ []
none_left zero = refl
none_left (suc n) = refl

-- the list of a row
row_at : (nets : Counted) (rows : List Row) (x : ℕ) → slice_index_or (map (λ (row : Row). drop (length nets.counters.items) (wires_of row.wires.items)) rows) x [] ≡ row_masks nets rows x
row_at nets [] x = sym (none_left (length nets.counters.items))
row_at nets (row ∷ rows) zero = refl
row_at nets (row ∷ rows) (suc x) = row_at nets rows x

told_at : (nets : Counted) (rows : List Row) (x i : ℕ) → masks_at (masks_in nets rows) (told_row x i) ≡ masks_told nets rows x i
told_at nets rows zero zero = refl
told_at nets rows (suc x) zero = row_at nets rows x
told_at nets rows x (suc i) = row_at nets rows x

-- what tells whether it is wanted
without : (first : ℕ) → 1 ≤ first → first ≡ 0 → ⊥
without first h e = absurd (omega (arith, h, e))

told_by : (s : Signals) (counters : List PlainCounter) (nets : Counted) (rows : List Row) (masks : List (List ℕ)) (x i first last : ℕ) (wanted : Option ℕ) → AreMasksOf counters nets rows masks → (counters ≡ [] → first ≡ 0)
    → IsWanted s (masks_at masks (told_row x i)) first last wanted → IsToldBy s counters (masks_told nets rows x i) first last wanted
told_by s [] nets rows masks x i first last None e f h = tt
told_by s [] nets rows masks x i first last (Some w) e f h = without first h.0 (f refl)
told_by s (c ∷ counters) nets rows masks x i first last None e f h = h
told_by s (c ∷ counters) nets rows masks x i first last (Some w) e f h = λ t.
    h.1 t ∙ ap (λ ms. is_some_up_to (λ l. is_on s (slice_index ms l) t) first (last - first)) (ap (λ ms. masks_at ms (told_row x i)) e ∙ told_at nets rows x i)

module _ (d : Draft) (counters : List PlainCounter) (stages : PlainStages) (nets : Counted) (rows : List Row) (masks : List (List ℕ)) (parts : List StagePart) (places : List (List (List ℕ))) (lanes : HaveLanes counters stages parts)
    (same : AreMasksOf counters nets rows masks) (s : Signals) (runs : RunsOn s d.cells) where
  abbrev child : ℕ → Rattle.sp_netlist.specs.declared.parts.Child.Child
  child i = (part_at parts i).child

  member_is : (x j i : ℕ) (m : Member) → places_of.IsPlace places x j i → IsMemberOf d masks (part_at parts (places_of.stage_at places x j i)) x i m → MemberCircuit s child counters stages nets rows places x j i m
  member_is x j i m place h =
      let n = places_of.stage_at places x j i in
      record {
        place = place;
        part = h.child;
        wanted = told_by s counters nets rows masks x i (first_lane stages n) (last_lane stages n) m.wanted same (λ e. lanes.single e n)
            (subst (λ k. IsWanted s (masks_at masks (told_row x i)) (first_lane stages n) k m.wanted) (sym (lanes.lasts n))
            (subst (λ k. IsWanted s (masks_at masks (told_row x i)) k (part_at parts n).last m.wanted) (sym (lanes.firsts n)) (h.told s runs)));
      }

  abbrev IsCircuit : (x j i : ℕ) → Member → Type 0
  IsCircuit x j i m = MemberCircuit s child counters stages nets rows places x j i m

  from_none : (P : ℕ → Type 0) (i : ℕ) → P (0 + i) → P i
  from_none P i h = subst P (let e : 0 + i ≡ i = omega arith in e) h

  to_none : (P : ℕ → Type 0) (i : ℕ) → P i → P (0 + i)
  to_none P i h = subst P (let e : i ≡ 0 + i = omega arith in e) h

  members_are : (x j : ℕ) (members : List Member) → x < length places → j < length (chains_at places x) → AreMembersOf d masks parts x (stages_at places x j) members → Numbered (λ i m. IsCircuit x j i m) 0 members
  members_are x j members k l h =
      paired_numbered (λ i n m. IsMemberOf d masks (part_at parts n) x i m) (λ i m. IsCircuit x j i m) 0 0 (stages_at places x j) members
      (λ i m b p. to_none (λ q. IsCircuit x j q m) i (member_is x j i m (k, l, b) (from_none (λ q. IsMemberOf d masks (part_at parts (places_of.stage_at places x j i)) x q m) i p))) h

  chains_are : (x : ℕ) (chains : List Chain) → x < length places → AreChainsOf d masks parts x (chains_at places x) chains → Numbered (λ j (c : Chain). Numbered (λ i m. IsCircuit x j i m) 0 c.members.items) 0 chains
  chains_are x chains k h =
      paired_numbered (λ j ns (c : Chain). AreMembersOf d masks parts x ns c.members.items) (λ j (c : Chain). Numbered (λ i m. IsCircuit x j i m) 0 c.members.items) [] 0 (chains_at places x) chains
      (λ j c b p. to_none (λ q. Numbered (λ i m. IsCircuit x q i m) 0 c.members.items) j (members_are x j c.members.items k b p)) h

  slots_are : (slots : List Slot) → AreSlotsOf d masks parts places slots → MemberCircuits s child counters stages nets rows places slots
  slots_are slots h =
      paired_numbered (λ x chains (slot : Slot). AreChainsOf d masks parts x chains slot.chains.items) (λ x (slot : Slot). Numbered (λ j (c : Chain). Numbered (λ i m. IsCircuit x j i m) 0 c.members.items) 0 slot.chains.items) [] 0 places slots
      (λ x slot b p.
      to_none (λ q. Numbered (λ j (c : Chain). Numbered (λ i m. IsCircuit q j i m) 0 c.members.items) 0 slot.chains.items) x
      (chains_are x slot.chains.items b (from_none (λ q. AreChainsOf d masks parts q (chains_at places x) slot.chains.items) x p))) h

pub members_are_circuits : MembersAreCircuits
members_are_circuits d counters stages nets rows masks parts places slots lanes same h s runs = slots_are d counters stages nets rows masks parts places lanes same s runs slots h
