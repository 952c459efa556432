-- A whole loop in beats: each step follows the start or the end of the beat before, so all is right cycle by cycle.
use Rattle.std.proofs.Common.{◌≡◌, ℕ, zero, suc, ◌+◌, ◌<◌, ◌≤◌, ◌⊎◌, inl, inr, nat_lt, Bool, true, false, ◌&&◌, ◌||◌, not, refl, sym, ap, ap₂, subst, ◌∙◌, arith, List, [], ◌∷◌, length, map, Option, Some, None}
use Rattle.std.specs.List.{Contains}
use Rattle.std.proofs.Math.Nat.{le-max_right}
use Rattle.std.proofs.lemmas.Bool.{and_parts, and_from, or_left, or_right}
use Rattle.sp_netlist.specs.Signals.{Signals}
use Rattle.sp_gates.specs.Tested.{is_on}
use Rattle.sp_part_runs.specs.BodiesRuns.{IsOnAt}
use Rattle.sp_part_runs.specs.ControlParts.{Ran, Begins, Ends}
use Rattle.sp_sequence.specs.declared.part.Chain.{Chain}
use Rattle.sp_sequence.specs.declared.part.Member.{Member}
use Rattle.sp_sequence.specs.declared.part.Slot.{Slot}
use Rattle.sp_sequence.specs.Joins.{is_end}
use Rattle.sp_beats.specs.Beats.{some_comes, slots_over, RunsBeats}
use Rattle.sp_part_runs.specs.SequencesChains.{Numbered, At, ChainDoes, MemberDoes, SaysWanted}
use Rattle.sp_part_runs.specs.SequencesRuns.{MemberRan, shape_of}
use Rattle.sp_part_runs.proofs.SequencesCycles.{mapped, unmapped, one_of, either, was_not, is_not, neither, by_order, on_same}
use Rattle.sp_part_runs.proofs.SequencesJoining.{end_right}
use Rattle.sp_part_runs.specs.BeatsLaws.{SlotsDo, LoopsWork}
use Rattle.sp_part_runs.specs.BeatsRuns.{BeatsRan, longest_of, beat_lasts, beats_took, beat_cycle, beats_of, whole_run, AreInTurn, Turn, turns_of, slot_cycle, slot_found, groups_in, steps_in, step_cycle}
use Rattle.sp_part_runs.proofs.BeatsBeating.{after_more, apart, After, step_at, Comes, SlotsRight, slots_right}
use Rattle.sp_part_runs.proofs.BeatsCounting.{turn_of, in_turns_of, turns_of_in, some_has, in_beats, beat_has_some}

-- what is done up to a cycle is done up to an earlier one
on_less : (wire : ℕ → Bool) (Holds : ℕ → Type 0) (n last : ℕ) → n ≤ last → IsOnAt wire Holds last → IsOnAt wire Holds n
on_less wire Holds n last l h = record { on = λ t m. h.on t (omega (arith, l, m)); only = λ t m. h.only t (omega (arith, l, m)) }

numbered_map : {A : Type 0} (P Q : ℕ → A → Type 0) → ((k : ℕ) (x : A) → P k x → Q k x) → (k : ℕ) (xs : List A) → Numbered P k xs → Numbered Q k xs
numbered_map P Q f k [] h = tt
numbered_map P Q f k (x ∷ xs) h = (f k x h.0, numbered_map P Q f (suc k) xs h.1)

says_less : {R : Type 0} (s : Signals) (w : Option ℕ) (told : R → ℕ) (found : R → MemberRan) (runs : List R) (n last : ℕ) → n ≤ last → SaysWanted s w told found runs last → SaysWanted s w told found runs n
says_less s None told found runs n last l h = λ r c m. h r c (omega (arith, l, m))
says_less s (Some w) told found runs n last l h = λ r c m. h r c (omega (arith, l, m))

member_less : {R : Type 0} (s : Signals) (told : R → ℕ) (found : R → MemberRan) (runs : List R) (n last : ℕ) (m : Member) → n ≤ last → MemberDoes s told found runs last m → MemberDoes s told found runs n m
member_less s told found runs n last m l h = record { child = λ t a. h.child t (omega (arith, a, l)); wanted = says_less s m.wanted told found runs n last l h.wanted }

chain_less : {R : Type 0} (s : Signals) (first : R → ℕ) (found : R → (member : ℕ) → MemberRan) (runs : List R) (n last : ℕ) (c : Chain) → n ≤ last → ChainDoes s first found runs last c → ChainDoes s first found runs n c
chain_less s first found runs n last c l h = record { takes_time = h.takes_time; members = numbered_map _ _ (λ i m. member_less s _ _ runs n last m l) 0 c.members.items h.members }

length_same : (slots : List Slot) → length slots ≡ length (shape_of slots)
length_same [] = refl
length_same (slot ∷ slots) = ap suc (length_same slots)

module _ (s : Signals) (slots : List Slot) (runs : List BeatsRan) (turns : AreInTurn (shape_of slots) runs) (start more step : ℕ → Bool) (nets : List ℕ) (done : ℕ → Bool) (goes : RunsBeats s start more step slots nets done) (last : ℕ)
    (starts : IsOnAt start (At (λ (r : BeatsRan). r.cycle) runs) last) (tells : (r : BeatsRan) (b : ℕ) → Contains runs r → b ≤ beats_of (shape_of slots) r → beat_cycle (shape_of slots) b r ≤ last → more (beat_cycle (shape_of slots) b r) ≡ nat_lt b r.groups)
    (does : SlotsDo s slots last runs) where
  abbrev shape : List (List ℕ)
  shape = shape_of slots

  abbrev Steps : ℕ → Type 0
  Steps = At (step_cycle shape) (steps_in shape runs)

  abbrev all_beats : List Turn
  all_beats = turns_of (beats_of shape) runs

  abbrev lasts : Turn → ℕ
  lasts x = beat_lasts shape x.number x.run

  abbrev first : ℕ → Bool
  first u = step u && some_comes start step more slots u

  abbrev all : ℕ → Bool
  all = slots_over start step s more slots

  module _ (n : ℕ) (within : n ≤ last) (steps : IsOnAt step Steps n) where
    begun : IsOnAt start (At (λ (r : BeatsRan). r.cycle) runs) n
    begun = on_less start (At (λ (r : BeatsRan). r.cycle) runs) n last within starts

    comes : Comes shape runs turns start step n begun steps 0 more
    comes r b i l m = tells r b i l (omega (arith, m, within))

    slots_are : SlotsRight shape runs turns start step n begun steps s 0 slots nets more
    slots_are =
        slots_right shape runs turns start step n begun steps s slots nets 0 more goes.starts comes (let e = length_same slots in omega (arith, e)) (λ r b. le-max_right 1 (longest_of r b 0 shape))
        (numbered_map _ _ (λ k slot. numbered_map _ _ (λ j c. chain_less s (slot_cycle shape k) (λ x. slot_found k x j) (groups_in runs) n last c within) 0 slot.chains.items) 0 slots does)

    some_is : (r : BeatsRan) (b : ℕ) → Contains runs r → b ≤ beats_of shape r → beat_cycle shape b r ≤ n → some_comes start step more slots (beat_cycle shape b r) ≡ some_has r.groups b 0 (length shape)
    some_is r b i l m = slots_are.some r b i l m ∙ ap (some_has r.groups b 0) (length_same slots)

    -- beats begin in their first cycles
    beats_right : IsOnAt first (At (step_cycle shape) all_beats) n
    beats_right = record { on = on; only = only }
      where
        on : (t : ℕ) → t ≤ n → At (step_cycle shape) all_beats t → first t ≡ true
        on t l (x, c, e) =
            let i = turns_of_in (beats_of shape) runs x c in
            let b = i.1 in
            subst (λ u. first u ≡ true) (sym e)
            (and_from (step (step_cycle shape x)) (some_comes start step more slots (step_cycle shape x)) (step_at shape runs turns start step n begun steps x.run x.number i.0 (omega (arith, b)) (omega (arith, e, l)))
            (some_is x.run x.number i.0 (omega (arith, b)) (omega (arith, e, l)) ∙ beat_has_some x.run.groups (length shape) x.number i.1))

        only : (t : ℕ) → t ≤ n → first t ≡ true → At (step_cycle shape) all_beats t
        only t l f =
            let p = and_parts (step t) (some_comes start step more slots t) f in
            let y = steps.only t l p.0 in
            let i = turns_of_in (λ r. suc (beats_of shape r)) runs y.0 y.1 in
            let e = y.2 in
            let a = i.1 in
            let here : some_comes start step more slots (step_cycle shape y.0) ≡ true = sym (ap (some_comes start step more slots) e) ∙ p.1 in
            let b = in_beats y.0.run.groups (length shape) y.0.number (sym (some_is y.0.run y.0.number i.0 (omega (arith, a)) (omega (arith, e, l))) ∙ here) in
            (y.0, in_turns_of (beats_of shape) runs y.0.run y.0.number i.0 b, e)

    beats_apart : (x y : Turn) → Contains all_beats x → Contains all_beats y → step_cycle shape x ≤ step_cycle shape y → (x ≡ y) ⊎ (step_cycle shape x + lasts x < step_cycle shape y)
    beats_apart x y i j l =
        let a = turns_of_in (beats_of shape) runs x i in
        let c = turns_of_in (beats_of shape) runs y j in
        let m = c.1 in
        by (apart shape runs turns x.run y.run x.number y.number a.0 c.0 a.1 (omega (arith, m)) l)
      where
        by : After shape runs turns x.run y.run x.number y.number → (x ≡ y) ⊎ (step_cycle shape x + lasts x < step_cycle shape y)
        by (inl (same, e)) = inl (ap₂ turn_of same e)
        by (inr d) = inr d

    -- and end where the longest chain of a slot with a group is over
    ends_right : IsOnAt (is_end first all) (At (λ x. step_cycle shape x + lasts x) all_beats) n
    ends_right =
        end_right first (step_cycle shape) lasts all_beats n beats_right beats_apart all (λ x. longest_of x.run x.number 0 shape)
        (record {
          on = λ x t c l a z d. let i = turns_of_in (beats_of shape) runs x c in slots_are.over_on x.run x.number t i.0 i.1 l a z d;
          only = λ x t c l a z o. let i = turns_of_in (beats_of shape) runs x c in slots_are.over_only x.run x.number t i.0 i.1 l a z o;
        }) (λ x c. refl)

    abbrev Causes : ℕ → Type 0
    Causes t = At (λ (r : BeatsRan). r.cycle) runs t ⊎ At (λ x. step_cycle shape x + lasts x) all_beats t

    causes_right : IsOnAt (λ t. start t || is_end first all t) Causes n
    causes_right = record { on = on; only = λ t l h. only t l (one_of (start t) (is_end first all t) h) }
      where
        on : (t : ℕ) → t ≤ n → Causes t → (start t || is_end first all t) ≡ true
        on t l (inl a) = or_left (start t) (is_end first all t) (begun.on t l a)
        on t l (inr a) = or_right (start t) (is_end first all t) (ends_right.on t l a)

        only : (t : ℕ) → t ≤ n → (start t ≡ true) ⊎ (is_end first all t ≡ true) → Causes t
        only t l (inl h) = inl (begun.only t l h)
        only t l (inr h) = inr (ends_right.only t l h)

    steps_more : IsOnAt step Steps (suc n)
    steps_more = after_more step (λ t. start t || is_end first all t) Steps Causes n goes.steps causes_right (λ (x, c, e). omega (arith, e)) back forth
      where
        before : (c : ℕ) (r : BeatsRan) (b : ℕ) → Contains runs r → b < suc (beats_of shape r) → suc c ≡ beat_cycle shape b r → Causes c
        before c r zero i l e = inl (r, i, omega (arith, e))
        before c r (suc b) i l e = inr (turn_of r b, in_turns_of (beats_of shape) runs r b i (omega (arith, l)), omega (arith, e))

        back : (c : ℕ) → Steps (suc c) → Causes c
        back c (x, d, e) = let i = turns_of_in (λ r. suc (beats_of shape r)) runs x d in before c x.run x.number i.0 i.1 e

        forth : (c : ℕ) → Causes c → Steps (suc c)
        forth c (inl (r, i, e)) = (turn_of r 0, in_turns_of (λ r. suc (beats_of shape r)) runs r 0 i (omega arith), omega (arith, e))
        forth c (inr (x, d, e)) =
            let i = turns_of_in (beats_of shape) runs x d in
            let l = i.1 in
            (turn_of x.run (suc x.number), in_turns_of (λ r. suc (beats_of shape r)) runs x.run (suc x.number) i.0 (omega (arith, l)), omega (arith, e))

    -- a step to which no group comes is the end
    done_right : IsOnAt done (Ends (map (whole_run shape) runs)) n
    done_right = record { on = on; only = only }
      where
        on : (t : ℕ) → t ≤ n → Ends (map (whole_run shape) runs) t → done t ≡ true
        on t l (x, c, e) =
            let q = unmapped (whole_run shape) runs x c in
            let f = ap (λ (r : Ran). r.cycle) q.2 in
            let g = ap (λ (r : Ran). r.took) q.2 in
            let now : t ≡ beat_cycle shape (beats_of shape q.0) q.0 = omega (arith, e, f, g) in
            last_step t l q.0 q.1 now (either (some_has q.0.groups (beats_of shape q.0) 0 (length shape)))
          where
            last_step : (t : ℕ) → t ≤ n → (r : BeatsRan) → Contains runs r → t ≡ beat_cycle shape (beats_of shape r) r → (some_has r.groups (beats_of shape r) 0 (length shape) ≡ true) ⊎ (some_has r.groups (beats_of shape r) 0 (length shape) ≡ false) → done t ≡ true
            last_step t l r i now (inl h) = absurd (let b = in_beats r.groups (length shape) (beats_of shape r) h in omega (arith, b))
            last_step t l r i now (inr h) =
                goes.ends t ∙ ap (λ u. step u && not (some_comes start step more slots u)) now
                ∙ and_from (step (beat_cycle shape (beats_of shape r) r)) (not (some_comes start step more slots (beat_cycle shape (beats_of shape r) r))) (step_at shape runs turns start step n begun steps r (beats_of shape r) i (omega arith) (omega (arith, now, l)))
                (is_not (some_comes start step more slots (beat_cycle shape (beats_of shape r) r)) (some_is r (beats_of shape r) i (omega arith) (omega (arith, now, l)) ∙ h))

        only : (t : ℕ) → t ≤ n → done t ≡ true → Ends (map (whole_run shape) runs) t
        only t l h =
            let p = and_parts (step t) (not (some_comes start step more slots t)) (sym (goes.ends t) ∙ h) in
            let y = steps.only t l p.0 in
            let i = turns_of_in (λ r. suc (beats_of shape r)) runs y.0 y.1 in
            let e = y.2 in
            let a = i.1 in
            let none = sym (some_is y.0.run y.0.number i.0 (omega (arith, a)) (omega (arith, e, l))) ∙ sym (ap (some_comes start step more slots) e) ∙ was_not (some_comes start step more slots t) p.1 in
            over t y.0.run y.0.number i.0 i.1 y.2 none (by_order (beats_of shape y.0.run) y.0.number)
          where
            over : (t : ℕ) (r : BeatsRan) (b : ℕ) → Contains runs r → b < suc (beats_of shape r) → t ≡ beat_cycle shape b r → some_has r.groups b 0 (length shape) ≡ false → (beats_of shape r ≤ b) ⊎ (b < beats_of shape r) → Ends (map (whole_run shape) runs) t
            over t r b i l e none (inl m) = let f = ap (λ c. beats_took shape c r) {x = b} {y = beats_of shape r} (omega (arith, l, m)) in (whole_run shape r, mapped (whole_run shape) runs r i, omega (arith, e, f))
            over t r b i l e none (inr m) = absurd (neither (some_has r.groups b 0 (length shape)) (beat_has_some r.groups (length shape) b m) none)

  steps_up_to : (n : ℕ) → n ≤ last → IsOnAt step Steps n
  steps_up_to zero l = record { on = λ t m a. absurd (never t m a); only = λ t m h. absurd (off t m h) }
    where
      never : (t : ℕ) → t ≤ 0 → Steps t → ⊥
      never t m (x, c, e) = omega (arith, e, m)

      off : (t : ℕ) → t ≤ 0 → step t ≡ true → ⊥
      off zero m h = let e = sym (goes.steps 0) ∙ h in cc (e)
      off (suc t) m h = omega (arith, m)
  steps_up_to (suc n) l = steps_more n (omega (arith, l)) (steps_up_to n (omega (arith, l)))

  steps_all : IsOnAt step Steps last
  steps_all = steps_up_to last (omega arith)

pub loops_work : LoopsWork
loops_work s start more step slots nets done last runs goes turns starts tells does =
    let begins : IsOnAt (is_on s start) (At (λ (r : BeatsRan). r.cycle) runs) last =
    on_same (is_on s start) (Begins (map (whole_run (shape_of slots)) runs)) (At (λ (r : BeatsRan). r.cycle) runs) last
    (λ t (x, i, e). let q = unmapped (whole_run (shape_of slots)) runs x i in let f = ap (λ (r : Ran). r.cycle) q.2 in (q.0, q.1, omega (arith, e, f)))
    (λ t (r, i, e). (whole_run (shape_of slots) r, mapped (whole_run (shape_of slots)) runs r i, e)) starts in
    let steps = steps_all s slots runs turns (is_on s start) (is_on s more) (is_on s step) nets (is_on s done) goes last begins tells does in
    let all = slots_are s slots runs turns (is_on s start) (is_on s more) (is_on s step) nets (is_on s done) goes last begins tells does last (omega arith) steps in
    record {
      steps = steps;
      first_cycles = all.first_cycles;
      starts = all.begins;
      ends = done_right s slots runs turns (is_on s start) (is_on s more) (is_on s step) nets (is_on s done) goes last begins tells does last (omega arith) steps;
    }
