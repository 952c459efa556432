-- Loops in beats over the runs of their nodes.
use Rattle.std.proofs.Common.{◌≡◌, ◌⊎◌, inl, inr, ℕ, zero, suc, ◌+◌, ◌≤◌, ◌<◌, List, [], ◌∷◌, Option, Some, None, map, length, sym, ap, subst, arith}
use Rattle.std.specs.List.{Contains}
use Rattle.std.proofs.lemmas.List.Elements.{Contains-append_cases}
use Rattle.sp_netlist.specs.Signals.{Signals}
use Rattle.sp_gates.specs.Tested.{is_on}
use Rattle.sp_part_runs.specs.BodiesRuns.{IsOnAt}
use Rattle.sp_part_runs.specs.ControlParts.{Begins, Ends}
use Rattle.sp_sequence.specs.declared.part.Chain.{Chain}
use Rattle.sp_sequence.specs.declared.part.Member.{Member}
use Rattle.sp_sequence.specs.declared.part.Slot.{Slot}
use Rattle.sp_part_runs.specs.SequencesChains.{Numbered, child_runs, turn, ChainsDo, ChainsBegin, MemberBegins}
use Rattle.sp_part_runs.specs.SequencesChains as chain
use Rattle.sp_part_runs.specs.SequencesPlaces.{stage_at as stage_in_place, chains_at, stages_at, sizes, IsPlace, AreArranged}
use Rattle.sp_part_runs.specs.SequencesRuns.{member_took, chain_took, sizes_of, shape_of}
use Rattle.sp_part_runs.specs.BeatsLaws as beat
use Rattle.sp_part_runs.specs.BeatsLaws.{LoopsWork, LoopsAreInTimeline, TellsMore}
use Rattle.sp_part_runs.specs.BeatsRuns.{BeatsRan, Turn, turns, slot_cycle, slot_found, groups_in, whole_run, AreInTurn}
use Rattle.sp_core.specs.PlainCore.{PlainCounter, PlainStages, outer, PlainCore}
use Rattle.sp_plan.specs.PlainPlan.{PlainPlan, node_plan}
use Rattle.sp_time.specs.Lists.{total}
use Rattle.sp_machine.specs.Timeline.{slots_of}
use Rattle.sp_machine.specs.Transfers.{Delays}
use Rattle.sp_node_runs.specs.Runs.{Placed}
use Rattle.sp_node_runs.specs.ControlBeating.{rows_of, beats_ran, TakeTime, stage_rans, MemberDoes, SlotsDo, SlotStarts, ChainDoes, SlotDoes, ChainStarts, LoopsOfNodesWork}
use Rattle.sp_node_runs.specs.ControlRuns.{rans}
use Rattle.sp_node_runs.proofs.ControlBeatRuns.{here, there, as_stages, wholes_same, in_turn}
use Rattle.sp_node_runs.proofs.ControlChildren.{front, turns_front, all_children}
use Rattle.sp_node_runs.proofs.ControlNumbering.{numbered_map, numbered_with}

in_front : (b : BeatsRan) (g n : ℕ) (q : Turn) → Contains (front b g n) q → (b ≡ q.run) × (q.number < g + n)
in_front b g zero q (i, l, e) = absurd (omega (arith, l))
in_front b g (suc n) q (zero, l, e) = (ap (λ (t : Turn). t.run) e, let z = ap (λ (t : Turn). t.number) e in omega (arith, z))
in_front b g (suc n) q (suc i, l, e) = let z = in_front b (suc g) n q (i, omega (arith, l), e) in (z.0, omega (arith, z.1))

first_of_total : (f : ℕ → ℕ) (n : ℕ) → 1 ≤ f 0 → 1 ≤ n → 1 ≤ total f n
first_of_total f zero h l = absurd (omega (arith, l))
first_of_total f (suc zero) h l = omega (arith, h)
first_of_total f (suc (suc n)) h l = let z = first_of_total f (suc n) h (omega arith) in omega (arith, z)

module _ (core : PlainCore) (plan : PlainPlan) (delays : Delays) (k n : ℕ) (counters : List PlainCounter) (owned : List ℕ) (stages : PlainStages) (places : List (List (List ℕ))) where
  abbrev beats : Placed → BeatsRan
  beats r = beats_ran core plan delays k n counters owned stages places r

  in_groups : (rs : List Placed) (q : Turn) → Contains (groups_in (map beats rs)) q → (r : Placed) × Contains rs r × (beats r ≡ q.run) × (q.number < length (rows_of core plan delays k n counters owned stages places r))
  in_groups [] q (i, l, e) = absurd (omega (arith, l))
  in_groups (r ∷ rs) q c = by (Contains-append_cases (turns (beats r) (length (rows_of core plan delays k n counters owned stages places r))) (groups_in (map beats rs)) q c) (in_groups rs q)
    where
      by : Contains (turns (beats r) (length (rows_of core plan delays k n counters owned stages places r))) q ⊎ Contains (groups_in (map beats rs)) q
          → (Contains (groups_in (map beats rs)) q → (r : Placed) × Contains rs r × (beats r ≡ q.run) × (q.number < length (rows_of core plan delays k n counters owned stages places r)))
          → (p : Placed) × Contains (r ∷ rs) p × (beats p ≡ q.run) × (q.number < length (rows_of core plan delays k n counters owned stages places p))
      by (inl x) h = let z = in_front (beats r) 0 (length (rows_of core plan delays k n counters owned stages places r)) q (subst (λ ts. Contains ts q) (turns_front (beats r) (length (rows_of core plan delays k n counters owned stages places r))) x) in (r, here r rs, z.0, omega (arith, z.1))
      by (inr x) h = let z = h x in (z.0, there r z.0 rs z.1, z.2, z.3)

  module _ (timeline : LoopsAreInTimeline) (arranged : AreArranged places (slots_of (node_plan plan k))) (runs : List Placed) (takes : TakeTime core plan delays k n counters owned stages places runs) (s : Signals) (slots : List Slot) (shaped : shape_of slots ≡ sizes places) where
    abbrev all : List BeatsRan
    all = map beats runs

    -- the runs of a member, by its place
    same_children : (x j i : ℕ) → IsPlace places x j i → child_runs (turn (slot_cycle (shape_of slots) x) (λ q. slot_found x q j) i) (λ q. slot_found x q j i) (groups_in all) ≡ stage_rans core plan delays k n counters owned stages places (stage_in_place places x j i) runs
    same_children x j i place =
        subst (λ sh. child_runs (turn (slot_cycle sh x) (λ q. slot_found x q j) i) (λ q. slot_found x q j i) (groups_in all) ≡ stage_rans core plan delays k n counters owned stages places (stage_in_place places x j i) runs) (sym shaped)
        (all_children core plan delays k n counters owned stages places timeline arranged runs takes x j i place runs (λ r c. c))

    -- each chain takes time
    chain_takes : (x j : ℕ) → IsPlace places x j 0 → (members : ℕ) → 1 ≤ members → (q : Turn) → Contains (groups_in all) q → 1 ≤ chain_took (λ i. slot_found x q j i) members
    chain_takes x j place members some q c =
        let z = in_groups runs q c in
        let is = as_stages core plan delays k n counters owned stages places runs takes z.0 z.1 in
        let first : 1 ≤ member_took ((beats z.0).found q.number x j 0) = let a = is.found q.number x j 0 z.3 place in let b = is.takes_time q.number x j 0 z.3 place in omega (arith, a, b) in
        first_of_total (λ i. member_took (slot_found x q j i)) members (subst (λ (b : BeatsRan). 1 ≤ member_took (b.found q.number x j 0)) z.2 first) some

    module _ (last t : ℕ) (le : t ≤ last) where
      member_does : (x j i : ℕ) (m : Member) → IsPlace places x j i → MemberDoes core plan delays k n counters owned stages places s (shape_of slots) runs last x j i m
          → chain.MemberDoes s (turn (slot_cycle (shape_of slots) x) (λ q. slot_found x q j) i) (λ q. slot_found x q j i) (groups_in all) t m
      member_does x j i m place h = record {
        child = λ u below. subst (λ xs. IsOnAt (is_on s m.child.start) (Begins xs) u → IsOnAt (is_on s m.child.done) (Ends xs) u) (sym (same_children x j i place)) (h.child u (omega (arith, below, le)));
        wanted = said m.wanted h.wanted;
      }
        where
          said : (w : Option ℕ) → chain.SaysWanted s w (turn (slot_cycle (shape_of slots) x) (λ q. slot_found x q j) i) (λ q. slot_found x q j i) (groups_in all) last → chain.SaysWanted s w (turn (slot_cycle (shape_of slots) x) (λ q. slot_found x q j) i) (λ q. slot_found x q j i) (groups_in all) t
          said None h = λ r c l. h r c (omega (arith, l, le))
          said (Some w) h = λ r c l. h r c (omega (arith, l, le))

      chain_does : (x j : ℕ) (c : Chain) → x < length places → j < length (chains_at places x) → length c.members.items ≡ length (stages_at places x j) → ChainDoes core plan delays k n counters owned stages places s (shape_of slots) runs last x j c
          → chain.ChainDoes s (slot_cycle (shape_of slots) x) (λ q. slot_found x q j) (groups_in all) t c
      chain_does x j c at_slot at_chain size h =
          let some : 1 ≤ length (stages_at places x j) = (arranged.chains x j at_slot at_chain).2 in
          record {
            takes_time = λ q in_all. chain_takes x j (at_slot, at_chain, some) (length c.members.items) (omega (arith, size, some)) q in_all;
            members = numbered_map (λ i m. MemberDoes core plan delays k n counters owned stages places s (shape_of slots) runs last x j i m) _ 0 c.members.items (λ i m l g. member_does x j i m (at_slot, at_chain, omega (arith, l, size)) g) h;
          }

      slot_does : (x : ℕ) (slot : Slot) → x < length places → sizes_of slot.chains.items ≡ map (λ (c : List ℕ). length c) (chains_at places x) → SlotDoes core plan delays k n counters owned stages places s (shape_of slots) runs last x slot
          → ChainsDo s (slot_cycle (shape_of slots) x) (slot_found x) (groups_in all) t slot.chains.items
      slot_does x slot at_slot size h =
          numbered_with (λ j c. ChainDoes core plan delays k n counters owned stages places s (shape_of slots) runs last x j c) _ (λ (c : Chain). length c.members.items) (λ (q : List ℕ). length q) (λ j. stages_at places x j) [] 0 slot.chains.items (chains_at places x) size
          (λ j l. ap (λ m. stages_at places x m) {x = j} {y = 0 + j} (omega arith)) (λ j c l e g. chain_does x j c at_slot (omega (arith, l)) e g) h

      pub slots_do : SlotsDo core plan delays k n counters owned stages places s runs last slots → beat.SlotsDo s slots t all
      slots_do h =
          numbered_with (λ x slot. SlotDoes core plan delays k n counters owned stages places s (shape_of slots) runs last x slot) _ (λ (slot : Slot). sizes_of slot.chains.items) (λ (chains : List (List ℕ)). map (λ (c : List ℕ). length c) chains) (λ x. chains_at places x) [] 0 slots places shaped
          (λ x l. ap (λ m. chains_at places m) {x = x} {y = 0 + x} (omega arith)) (λ x slot l e g. slot_does x slot (omega (arith, l)) e g) h

      -- the other way, of what is started
      chain_starts : (x j : ℕ) (c : Chain) → x < length places → j < length (chains_at places x) → length c.members.items ≡ length (stages_at places x j) → chain.ChainBegins s (slot_cycle (shape_of slots) x) (λ q. slot_found x q j) (groups_in all) t c
          → ChainStarts core plan delays k n counters owned stages places s runs t x j c
      chain_starts x j c at_slot at_chain size h =
          numbered_map (λ i m. MemberBegins s (turn (slot_cycle (shape_of slots) x) (λ q. slot_found x q j) i) (λ q. slot_found x q j i) (groups_in all) t m) _ 0 c.members.items
          (λ i m l g. subst (λ xs. IsOnAt (is_on s m.child.start) (Begins xs) t) (same_children x j i (at_slot, at_chain, omega (arith, l, size))) g) h

      slot_starts : (x : ℕ) (slot : Slot) → x < length places → sizes_of slot.chains.items ≡ map (λ (c : List ℕ). length c) (chains_at places x) → ChainsBegin s (slot_cycle (shape_of slots) x) (slot_found x) (groups_in all) t slot.chains.items
          → SlotStarts core plan delays k n counters owned stages places s runs t x slot
      slot_starts x slot at_slot size h =
          numbered_with (λ j c. chain.ChainBegins s (slot_cycle (shape_of slots) x) (λ q. slot_found x q j) (groups_in all) t c) _ (λ (c : Chain). length c.members.items) (λ (q : List ℕ). length q) (λ j. stages_at places x j) [] 0 slot.chains.items (chains_at places x) size
          (λ j l. ap (λ m. stages_at places x m) {x = j} {y = 0 + j} (omega arith)) (λ j c l e g. chain_starts x j c at_slot (omega (arith, l)) e g) h

      pub slots_start : Numbered (λ x (slot : Slot). ChainsBegin s (slot_cycle (shape_of slots) x) (slot_found x) (groups_in all) t slot.chains.items) 0 slots → Numbered (λ x slot. SlotStarts core plan delays k n counters owned stages places s runs t x slot) 0 slots
      slots_start h =
          numbered_with (λ x (slot : Slot). ChainsBegin s (slot_cycle (shape_of slots) x) (slot_found x) (groups_in all) t slot.chains.items) _ (λ (slot : Slot). sizes_of slot.chains.items) (λ (chains : List (List ℕ)). map (λ (c : List ℕ). length c) chains) (λ x. chains_at places x) [] 0 slots places shaped
          (λ x l. ap (λ m. chains_at places m) {x = x} {y = 0 + x} (omega arith)) (λ x slot l e g. slot_starts x slot (omega (arith, l)) e g) h

pub loops_of_nodes_work : (core : PlainCore) (plan : PlainPlan) (delays : Delays) → LoopsWork → LoopsAreInTimeline → LoopsOfNodesWork core plan delays
loops_of_nodes_work core plan delays work timeline s start more step slots firsts done last k n counters style owned stages places from until runs circuit are within arranged shaped takes tells does t le started =
    let all : List BeatsRan = map (beats core plan delays k n counters owned stages places) runs in
    let a = wholes_same core plan delays k n counters owned stages places timeline arranged runs takes style runs (λ r c. c) are in
    let b = subst (λ sh. map (whole_run sh) all ≡ rans core plan delays (outer counters style owned stages) k n runs) (sym shaped) a in
    let turn_by_turn = subst (λ sh. AreInTurn sh all) (sym shaped) (in_turn core plan delays k n counters owned stages places timeline arranged runs takes style are from until within) in
    let w = work s start more step slots firsts done t all circuit turn_by_turn (subst (λ xs. IsOnAt (is_on s start) (Begins xs) t) (sym b) started)
    (λ r g c l at. tells r g c l (omega (arith, at, le))) (slots_do core plan delays k n counters owned stages places timeline arranged runs takes s slots shaped last t le does) in
    record {
      steps = w.steps;
      first_cycles = w.first_cycles;
      starts = slots_start core plan delays k n counters owned stages places timeline arranged runs takes s slots shaped last t le w.starts;
      ends = subst (λ xs. IsOnAt (is_on s done) (Ends xs) t) b w.ends;
    }
