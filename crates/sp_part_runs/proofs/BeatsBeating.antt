-- A loop in beats over all of its runs, cycle by cycle.
use Rattle.std.proofs.Common.{◌≡◌, ℕ, zero, suc, ◌+◌, ◌-◌, ◌<◌, ◌≤◌, ◌⊎◌, inl, inr, Bool, true, false, ◌||◌, not, refl, sym, ap, ap₂, subst, ◌∙◌, arith, List, length}
use mathlib.Core.Path.{fun_ext}
use Rattle.std.specs.List.{Contains}
use Rattle.std.proofs.Math.Nat.{le-max_left, le-max_right}
use Rattle.std.proofs.lemmas.Bool.{and_parts, and_from, or_left, or_right}
use Rattle.sp_time.proofs.ListLemmas.{total_mono}
use Rattle.sp_netlist.specs.Signals.{Signals}
use Rattle.sp_gates.specs.Tested.{is_on}
use Rattle.sp_part_runs.specs.BodiesRuns.{IsOnAt}
use Rattle.sp_sequence.specs.declared.part.Chain.{Chain}
use Rattle.sp_sequence.specs.declared.part.Slot.{Slot}
use Rattle.sp_sequence.specs.Joins.{chains_over, ChainsStart}
use Rattle.sp_sequence.specs.Members.{IsAfter}
use Rattle.sp_beats.specs.Beats.{has_group, gets_group, some_comes, slots_over, StartsSlots, no_slot, one_slot}
use Rattle.sp_part_runs.specs.SequencesChains.{Numbered, At, ChainsDo, ChainsBegin}
use Rattle.sp_part_runs.specs.SequencesRuns.{longest, sizes_of, shape_of}
use Rattle.sp_part_runs.proofs.SequencesCycles.{one_of, either, was_not, is_not, neither, by_order}
use Rattle.sp_part_runs.proofs.SequencesJoining.{chains_right, ChainsRight, add_max}
use Rattle.sp_part_runs.specs.BeatsRuns.{BeatsRan, has_in, slot_lasts, longest_of, beat_lasts, beats_took, beat_cycle, beats_of, AreInTurn, Turn, slot_cycle, slot_found, groups_in, steps_in, step_cycle}
use Rattle.sp_part_runs.proofs.BeatsCounting.{turn_of, in_turns_of, turns_of_in, has_of_group, group_of_has, some_has, group_in_beats}
use Rattle.sp_part_runs.proofs.BeatsHolding.{has_after, has_cleared}

-- a wire that follows a cause is right a cycle longer
pub after_more : (wire cause : ℕ → Bool) (W C : ℕ → Type 0) (n : ℕ) → IsAfter wire cause → IsOnAt cause C n → (W 0 → ⊥) → ((c : ℕ) → W (suc c) → C c) → ((c : ℕ) → C c → W (suc c)) → IsOnAt wire W (suc n)
after_more wire cause W C n follows h never back forth = record { on = on; only = only }
  where
    on : (t : ℕ) → t ≤ suc n → W t → wire t ≡ true
    on zero l w = absurd (never w)
    on (suc c) l w = follows (suc c) ∙ h.on c (omega (arith, l)) (back c w)

    only : (t : ℕ) → t ≤ suc n → wire t ≡ true → W t
    only zero l b = absurd (let e = sym (follows 0) ∙ b in cc (e))
    only (suc c) l b = forth c (h.only c (omega (arith, l)) (sym (follows (suc c)) ∙ b))

-- the runs of a loop in time
module _ (shape : List (List ℕ)) (runs : List BeatsRan) (turns : AreInTurn shape runs) where
  pub within : (r : BeatsRan) (b : ℕ) → b < beats_of shape r → beats_took shape b r + suc (beat_lasts shape b r) ≤ beats_took shape (beats_of shape r) r
  within r b l = total_mono (λ b. suc (beat_lasts shape b r)) (suc b) (beats_of shape r) (omega (arith, l))

  pub no_later : (r : BeatsRan) (b : ℕ) → b ≤ beats_of shape r → beats_took shape b r ≤ beats_took shape (beats_of shape r) r
  no_later r b l = total_mono (λ b. suc (beat_lasts shape b r)) b (beats_of shape r) l

  abbrev pub After : BeatsRan → BeatsRan → ℕ → ℕ → Type 0
  After r q b c = ((r ≡ q) × (b ≡ c)) ⊎ (beat_cycle shape b r + beat_lasts shape b r < beat_cycle shape c q)

  pub apart : (r q : BeatsRan) (b c : ℕ) → Contains runs r → Contains runs q → b < beats_of shape r → c ≤ beats_of shape q → beat_cycle shape b r ≤ beat_cycle shape c q → After r q b c
  apart r q b c i j l m h = by (by_order r.cycle q.cycle)
    where
      in_one : r ≡ q → (b < c) ⊎ (b ≡ c) ⊎ (c < b) → After r q b c
      in_one same (inl a) = let p : beats_took shape b r + suc (beat_lasts shape b r) ≤ beats_took shape c r = total_mono (λ b. suc (beat_lasts shape b r)) (suc b) c a in let f = ap (beat_cycle shape c) same in inr (omega (arith, p, f))
      in_one same (inr (inl e)) = inl (same, e)
      in_one same (inr (inr a)) = let p : beats_took shape c r + suc (beat_lasts shape c r) ≤ beats_took shape b r = total_mono (λ b. suc (beat_lasts shape b r)) (suc c) b a in let f = ap (beat_cycle shape c) same in absurd (omega (arith, p, f, h))

      order : (b c : ℕ) → (b < c) ⊎ (b ≡ c) ⊎ (c < b)
      order b c = grind arith

      first : (r ≡ q) ⊎ (r.cycle + (2 + beats_took shape (beats_of shape r) r) ≤ q.cycle) → After r q b c
      first (inl same) = in_one same (order b c)
      first (inr over) = let w = within r b l in inr (omega (arith, over, w))

      second : q.cycle < r.cycle → (q ≡ r) ⊎ (q.cycle + (2 + beats_took shape (beats_of shape q) q) ≤ r.cycle) → After r q b c
      second a (inl same) = absurd (let f = ap (λ (x : BeatsRan). x.cycle) same in omega (arith, f, a))
      second a (inr over) = let w = no_later q c m in absurd (omega (arith, over, w, h))

      by : (r.cycle ≤ q.cycle) ⊎ (q.cycle < r.cycle) → After r q b c
      by (inl a) = first (turns r q i j a)
      by (inr a) = second a (turns q r j i (omega (arith, a)))

  module _ (start step : ℕ → Bool) (n : ℕ) (starts : IsOnAt start (At (λ (r : BeatsRan). r.cycle) runs) n) (steps : IsOnAt step (At (step_cycle shape) (steps_in shape runs)) n) where
    -- nothing is started while a run goes on
    pub no_start : (r : BeatsRan) (w : ℕ) → Contains runs r → r.cycle < w → w < r.cycle + (2 + beats_took shape (beats_of shape r) r) → w ≤ n → start w ≡ false
    no_start r w i a b l = by (either (start w))
      where
        other : (q : BeatsRan) → w ≡ q.cycle → (r ≡ q) ⊎ (r.cycle + (2 + beats_took shape (beats_of shape r) r) ≤ q.cycle) → start w ≡ false
        other q e (inl same) = absurd (let f = ap (λ (x : BeatsRan). x.cycle) same in omega (arith, e, f, a))
        other q e (inr over) = absurd (omega (arith, e, over, b))

        by : (start w ≡ true) ⊎ (start w ≡ false) → start w ≡ false
        by (inr f) = f
        by (inl t) = let x = starts.only w l t in let e = x.2 in other x.0 x.2 (turns r x.0 i x.1 (omega (arith, e, a)))

    -- nor is there a step within a beat
    pub no_step : (r : BeatsRan) (b w : ℕ) → Contains runs r → b < beats_of shape r → beat_cycle shape b r < w → w ≤ beat_cycle shape b r + beat_lasts shape b r → w ≤ n → step w ≡ false
    no_step r b w i l a z m = by (either (step w))
      where
        other : (q : BeatsRan) (c : ℕ) → w ≡ beat_cycle shape c q → After r q b c → step w ≡ false
        other q c e (inl (same, f)) = absurd (let g = ap₂ (beat_cycle shape) f same in omega (arith, e, g, a))
        other q c e (inr d) = absurd (omega (arith, e, d, z))

        by : (step w ≡ true) ⊎ (step w ≡ false) → step w ≡ false
        by (inr f) = f
        by (inl t) =
            let x = steps.only w m t in
            let k = turns_of_in (λ r. suc (beats_of shape r)) runs x.0 x.1 in
            let e = x.2 in
            let g = k.1 in
            other x.0.run x.0.number x.2 (apart r x.0.run b x.0.number i k.0 l (omega (arith, g)) (omega (arith, e, a)))

    pub step_at : (r : BeatsRan) (b : ℕ) → Contains runs r → b ≤ beats_of shape r → beat_cycle shape b r ≤ n → step (beat_cycle shape b r) ≡ true
    step_at r b i l m = steps.on (beat_cycle shape b r) m (turn_of r b, in_turns_of (λ r. suc (beats_of shape r)) runs r b i (omega (arith, l)), refl)

    start_off : (r : BeatsRan) (b : ℕ) → Contains runs r → b ≤ beats_of shape r → beat_cycle shape b r ≤ n → start (beat_cycle shape b r) ≡ false
    start_off r b i l m = let w = no_later r b l in no_start r (beat_cycle shape b r) i (omega arith) (omega (arith, w)) m

    -- a flag has within a beat what came in its step
    flag_in : (comes : ℕ → Bool) (r : BeatsRan) (b t : ℕ) → Contains runs r → b < beats_of shape r → beat_cycle shape b r < t → t ≤ suc (beat_cycle shape b r + beat_lasts shape b r) → t ≤ suc n → beat_cycle shape b r ≤ n → has_group start step comes t ≡ comes (beat_cycle shape b r)
    flag_in comes r b t i l a z m u =
        let d = within r b l in
        has_after start step comes (beat_cycle shape b r) t a (step_at r b i (omega (arith, l)) u) (start_off r b i (omega (arith, l)) u)
        (λ w x y. (no_step r b w i l x (omega (arith, y, z)) (omega (arith, y, m)), no_start r w i (omega (arith, x)) (omega (arith, y, z, d)) (omega (arith, y, m))))

    -- what comes to a slot in each step
    abbrev pub Comes : (slot : ℕ) → (ℕ → Bool) → Type 0
    Comes k comes = (r : BeatsRan) (b : ℕ) → Contains runs r → b ≤ beats_of shape r → beat_cycle shape b r ≤ n → comes (beat_cycle shape b r) ≡ has_in r.groups k b

    next_comes : (k : ℕ) (comes : ℕ → Bool) → Comes k comes → Comes (suc k) (has_group start step comes)
    next_comes k comes h r zero i l m = has_cleared start step comes (r.cycle + 0) (starts.on (r.cycle + 0) (omega (arith, m)) (r, i, omega arith))
    next_comes k comes h r (suc b) i l m =
        flag_in comes r b (beat_cycle shape (suc b) r) i (omega (arith, l)) (omega arith) (omega arith) (omega (arith, m)) (omega (arith, m)) ∙ h r b i (omega (arith, l)) (omega (arith, m))

    -- a slot's span, and its groups one after the other
    abbrev span : (slot : ℕ) → Turn → ℕ
    span k x = beat_lasts shape (x.number + k) x.run

    groups_apart : (k : ℕ) → k < length shape → (x y : Turn) → Contains (groups_in runs) x → Contains (groups_in runs) y → slot_cycle shape k x ≤ slot_cycle shape k y → (x ≡ y) ⊎ (slot_cycle shape k x + span k x < slot_cycle shape k y)
    groups_apart k below x y i j l =
        let a = turns_of_in (λ r. r.groups) runs x i in
        let c = turns_of_in (λ r. r.groups) runs y j in
        let m = group_in_beats x.run.groups (length shape) x.number k a.1 below in
        let o = group_in_beats y.run.groups (length shape) y.number k c.1 below in
        by (apart x.run y.run (x.number + k) (y.number + k) a.0 c.0 m (omega (arith, o)) l)
      where
        by : After x.run y.run (x.number + k) (y.number + k) → (x ≡ y) ⊎ (slot_cycle shape k x + span k x < slot_cycle shape k y)
        by (inl (same, e)) = inl (ap₂ turn_of same (omega (arith, e)))
        by (inr d) = inr d

    -- it gets each group in the step of its number and as many more as slots stand before it
    first_right : (k : ℕ) → k < length shape → (first comes : ℕ → Bool) → Comes k comes → ((t : ℕ) → first t ≡ gets_group step comes t) → IsOnAt first (At (slot_cycle shape k) (groups_in runs)) n
    first_right k below first comes h gets = record { on = on; only = only }
      where
        on : (t : ℕ) → t ≤ n → At (slot_cycle shape k) (groups_in runs) t → first t ≡ true
        on t l (x, c, e) =
            let i = turns_of_in (λ r. r.groups) runs x c in
            let b = group_in_beats x.run.groups (length shape) x.number k i.1 below in
            subst (λ u. first u ≡ true) (sym e)
            (gets (slot_cycle shape k x) ∙ and_from (step (slot_cycle shape k x)) (comes (slot_cycle shape k x)) (step_at x.run (x.number + k) i.0 (omega (arith, b)) (omega (arith, e, l)))
            (h x.run (x.number + k) i.0 (omega (arith, b)) (omega (arith, e, l)) ∙ has_of_group x.run.groups k x.number i.1))

        of_group : (t : ℕ) (y : Turn) → Contains runs y.run → t ≡ step_cycle shape y → (g : ℕ) × (g < y.run.groups) × (y.number ≡ g + k) → At (slot_cycle shape k) (groups_in runs) t
        of_group t y i e (g, m, f) = (turn_of y.run g, in_turns_of (λ r. r.groups) runs y.run g i m, e ∙ ap (λ b. beat_cycle shape b y.run) f)

        only : (t : ℕ) → t ≤ n → first t ≡ true → At (slot_cycle shape k) (groups_in runs) t
        only t l f =
            let p = and_parts (step t) (comes t) (sym (gets t) ∙ f) in
            let y = steps.only t l p.0 in
            let i = turns_of_in (λ r. suc (beats_of shape r)) runs y.0 y.1 in
            let e = y.2 in
            let a = i.1 in
            let here : comes (step_cycle shape y.0) ≡ true = sym (ap comes e) ∙ p.1 in
            of_group t y.0 i.0 e (group_of_has y.0.run.groups k y.0.number (sym (h y.0.run y.0.number i.0 (omega (arith, a)) (omega (arith, e, l))) ∙ here))

    module _ (s : Signals) where
      pub record SlotsRight (k : ℕ) (slots : List Slot) (nets : List ℕ) (comes : ℕ → Bool) : Type 0 where
        pub first_cycles : Numbered (λ k first. IsOnAt (is_on s first) (At (slot_cycle shape k) (groups_in runs)) n) k nets
        pub begins : Numbered (λ k (slot : Slot). ChainsBegin s (slot_cycle shape k) (slot_found k) (groups_in runs) n slot.chains.items) k slots
        pub some : (r : BeatsRan) (b : ℕ) → Contains runs r → b ≤ beats_of shape r → beat_cycle shape b r ≤ n → some_comes start step comes slots (beat_cycle shape b r) ≡ some_has r.groups b k (length slots)
        pub over_on : (r : BeatsRan) (b t : ℕ) → Contains runs r → b < beats_of shape r → t ≤ n → beat_cycle shape b r < t → t ≤ beat_cycle shape b r + beat_lasts shape b r → beat_cycle shape b r + longest_of r b k (shape_of slots) ≤ t → slots_over start step s comes slots t ≡ true
        pub over_only : (r : BeatsRan) (b t : ℕ) → Contains runs r → b < beats_of shape r → t ≤ n → beat_cycle shape b r < t → t ≤ beat_cycle shape b r + beat_lasts shape b r → slots_over start step s comes slots t ≡ true → beat_cycle shape b r + longest_of r b k (shape_of slots) ≤ t

      -- one slot of them
      module _ (k : ℕ) (below : k < length shape) (comes : ℕ → Bool) (h : Comes k comes) (first : ℕ) (gets : (t : ℕ) → is_on s first t ≡ gets_group step comes t) (chains : List Chain) (starting : ChainsStart s (is_on s first) chains)
          (does : ChainsDo s (slot_cycle shape k) (slot_found k) (groups_in runs) n chains) (fits : (r : BeatsRan) (b : ℕ) → slot_lasts r b k (sizes_of chains) ≤ beat_lasts shape b r) where
        firsts : IsOnAt (is_on s first) (At (slot_cycle shape k) (groups_in runs)) n
        firsts = first_right k below (is_on s first) comes h gets

        lasts_has : (r : BeatsRan) (b g : ℕ) → has_in r.groups k b ≡ true → b ≡ g + k → slot_lasts r b k (sizes_of chains) ≡ longest (r.found g k) 0 (sizes_of chains)
        lasts_has r b g t e = ap (λ v. elim v as (λ _. ℕ) [ true ↦ longest (r.found (b - k) k) 0 (sizes_of chains) | false ↦ 0 ]) t ∙ ap (λ m. longest (r.found m k) 0 (sizes_of chains)) (omega (arith, e))

        lasts_none : (r : BeatsRan) (b : ℕ) → has_in r.groups k b ≡ false → slot_lasts r b k (sizes_of chains) ≡ 0
        lasts_none r b f = ap (λ v. elim v as (λ _. ℕ) [ true ↦ longest (r.found (b - k) k) 0 (sizes_of chains) | false ↦ 0 ]) f

        own : ChainsRight (is_on s first) (slot_cycle shape k) (span k) (groups_in runs) n firsts (groups_apart k below) s (slot_found k) 0 chains
        own =
            chains_right (is_on s first) (slot_cycle shape k) (span k) (groups_in runs) n firsts (groups_apart k below) s (slot_found k) chains 0 starting does
            (λ x c. let i = turns_of_in (λ r. r.groups) runs x c in let e = lasts_has x.run (x.number + k) x.number (has_of_group x.run.groups k x.number i.1) refl in let f = fits x.run (x.number + k) in omega (arith, e, f))

        module _ (r : BeatsRan) (b t : ℕ) (i : Contains runs r) (l : b < beats_of shape r) (m : t ≤ n) (a : beat_cycle shape b r < t) (z : t ≤ beat_cycle shape b r + beat_lasts shape b r) where
          flag : has_group start step comes t ≡ has_in r.groups k b
          flag = flag_in comes r b t i l a (omega (arith, z)) (omega (arith, m)) (omega (arith, a, m)) ∙ h r b i (omega (arith, l)) (omega (arith, a, m))

          slot_on : beat_cycle shape b r + slot_lasts r b k (sizes_of chains) ≤ t → (chains_over s (gets_group step comes) chains t || not (has_group start step comes t)) ≡ true
          slot_on d = by (either (has_in r.groups k b))
            where
              by : (has_in r.groups k b ≡ true) ⊎ (has_in r.groups k b ≡ false) → (chains_over s (gets_group step comes) chains t || not (has_group start step comes t)) ≡ true
              by (inr f) = or_right (chains_over s (gets_group step comes) chains t) (not (has_group start step comes t)) (is_not (has_group start step comes t) (flag ∙ f))
              by (inl y) =
                  let g = group_of_has r.groups k b y in
                  let e = ap (λ c. beat_cycle shape c r) g.2 in
                  let f = ap (λ c. beat_lasts shape c r) g.2 in
                  let w = lasts_has r b g.0 y g.2 in
                  or_left (chains_over s (gets_group step comes) chains t) (not (has_group start step comes t))
                  (ap (λ v. chains_over s v chains t) (sym (fun_ext gets)) ∙ own.over.on (turn_of r g.0) t (in_turns_of (λ r. r.groups) runs r g.0 i g.1) m (omega (arith, e, a)) (omega (arith, e, f, z)) (omega (arith, e, w, d)))

          slot_only : (chains_over s (gets_group step comes) chains t || not (has_group start step comes t)) ≡ true → beat_cycle shape b r + slot_lasts r b k (sizes_of chains) ≤ t
          slot_only o = by (either (has_in r.groups k b))
            where
              with_group : has_in r.groups k b ≡ true → (chains_over s (gets_group step comes) chains t ≡ true) ⊎ (not (has_group start step comes t) ≡ true) → beat_cycle shape b r + slot_lasts r b k (sizes_of chains) ≤ t
              with_group y (inr f) = absurd (neither (has_group start step comes t) (flag ∙ y) (was_not (has_group start step comes t) f))
              with_group y (inl c) =
                  let g = group_of_has r.groups k b y in
                  let e = ap (λ c. beat_cycle shape c r) g.2 in
                  let f = ap (λ c. beat_lasts shape c r) g.2 in
                  let w = lasts_has r b g.0 y g.2 in
                  let d = own.over.only (turn_of r g.0) t (in_turns_of (λ r. r.groups) runs r g.0 i g.1) m (omega (arith, e, a)) (omega (arith, e, f, z)) (ap (λ v. chains_over s v chains t) (fun_ext gets) ∙ c) in
                  omega (arith, e, w, d)

              by : (has_in r.groups k b ≡ true) ⊎ (has_in r.groups k b ≡ false) → beat_cycle shape b r + slot_lasts r b k (sizes_of chains) ≤ t
              by (inl y) = with_group y (one_of (chains_over s (gets_group step comes) chains t) (not (has_group start step comes t)) o)
              by (inr f) = let w = lasts_none r b f in omega (arith, w, a)

      pub slots_right : (slots : List Slot) (nets : List ℕ) (k : ℕ) (comes : ℕ → Bool) → StartsSlots start step s comes slots nets → Comes k comes → k + length slots ≡ length shape → ((r : BeatsRan) (b : ℕ) → longest_of r b k (shape_of slots) ≤ beat_lasts shape b r)
          → Numbered (λ k (slot : Slot). ChainsDo s (slot_cycle shape k) (slot_found k) (groups_in runs) n slot.chains.items) k slots → SlotsRight k slots nets comes
      slots_right _ _ k comes no_slot h end fits does = record { first_cycles = tt; begins = tt; some = λ r b i l m. refl; over_on = λ r b t i l m a z d. refl; over_only = λ r b t i l m a z o. omega (arith, a) }
      slots_right _ _ k comes (one_slot {slot = slot} {slots = slots} {first = first} {firsts = nets} gets starting rest) h end fits does =
          let below : k < length shape = omega (arith, end) in
          let own_fits : (r : BeatsRan) (b : ℕ) → slot_lasts r b k (sizes_of slot.chains.items) ≤ beat_lasts shape b r = λ r b. (let f = fits r b in let x = le-max_left (slot_lasts r b k (sizes_of slot.chains.items)) (longest_of r b (suc k) (shape_of slots)) in omega (arith, f, x)) in
          let others_fit : (r : BeatsRan) (b : ℕ) → longest_of r b (suc k) (shape_of slots) ≤ beat_lasts shape b r = λ r b. (let f = fits r b in let x = le-max_right (slot_lasts r b k (sizes_of slot.chains.items)) (longest_of r b (suc k) (shape_of slots)) in omega (arith, f, x)) in
          let others = slots_right slots nets (suc k) (has_group start step comes) rest (next_comes k comes h) (omega (arith, end)) others_fit does.1 in
          record {
            first_cycles = (firsts k below comes h first gets slot.chains.items starting does.0 own_fits, others.first_cycles);
            begins = ((own k below comes h first gets slot.chains.items starting does.0 own_fits).starts, others.begins);
            some = λ r b i l m. ap₂ (λ x y. x || y) (h r b i l m) (others.some r b i l m);
            over_on = λ r b t i l m a z d.
                let x = le-max_left (slot_lasts r b k (sizes_of slot.chains.items)) (longest_of r b (suc k) (shape_of slots)) in
                let y = le-max_right (slot_lasts r b k (sizes_of slot.chains.items)) (longest_of r b (suc k) (shape_of slots)) in
                and_from (chains_over s (gets_group step comes) slot.chains.items t || not (has_group start step comes t)) (slots_over start step s (has_group start step comes) slots t)
                (slot_on k below comes h first gets slot.chains.items starting does.0 own_fits r b t i l m a z (omega (arith, x, d))) (others.over_on r b t i l m a z (omega (arith, y, d)));
            over_only = λ r b t i l m a z o.
                let p = and_parts (chains_over s (gets_group step comes) slot.chains.items t || not (has_group start step comes t)) (slots_over start step s (has_group start step comes) slots t) o in
                add_max (beat_cycle shape b r) (slot_lasts r b k (sizes_of slot.chains.items)) (longest_of r b (suc k) (shape_of slots)) t
                (slot_only k below comes h first gets slot.chains.items starting does.0 own_fits r b t i l m a z p.0) (others.over_only r b t i l m a z p.1);
          }
