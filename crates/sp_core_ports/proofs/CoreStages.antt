-- Runs of stages that use one port come one after the other, by slots, chains and duplicates that are right.
use Rattle.std.proofs.Common.{◌≡◌, ℕ, zero, suc, ◌+◌, ◌-◌, ◌*◌, ◌<◌, ◌≤◌, ◌⊎◌, inl, inr, Bool, true, false, ℤ, List, [], ◌∷◌, ◌++◌, length, arith, refl, sym, subst, ap, ◌∙◌}
use Rattle.std.proofs.lemmas.Bool.{and_parts, and_from, cases_lt, cases_order, cases_Bool, eq-eqb, eqb-true, leb-true, le-leb, or_left, true≢false, false≢true}
use Rattle.std.specs.Prelude.{◌==◌, ◌||◌, not, nat_le, min, slice_index}
use Rattle.sp_words.specs.declared.kind.Style.{Style}
use Rattle.sp_core.specs.declared.access.Meet.{Meet}
use Rattle.sp_core.specs.Around.{lanes_of}
use Rattle.sp_core.specs.Declarations.{mem}
use Rattle.sp_core.specs.Events.{Standing, in_group_of, Event, Moment, touches, slices, renews, keeps, events_of}
use Rattle.sp_core.specs.History.{Groups}
use Rattle.sp_core.specs.Invariant.{owned_in}
use Rattle.sp_core.specs.Meeting.{changes, is_parallel, are_at_once, is_at_once, is_met, are_met}
use Rattle.sp_core.specs.Numbering.{number_count}
use Rattle.sp_core.specs.PlainCore.{PlainCounter, PlainStages, no_stage, more_stage, PlainCore}
use Rattle.sp_plan.specs.Copies.{one_if}
use Rattle.sp_plan.specs.PlainPlan.{outer_plan, PlainPlan, mem_plan}
use Rattle.sp_plan.specs.Ports.{has_banks}
use Rattle.sp_plan.specs.Slots.{StageRun, runs_of, run_at as stage_at, share_lane, is_of_all, is_once, is_parallel_block, lane_size, stage_of, is_slot_right, is_slot_right_in, are_joined, is_chain_right, are_chains_right_of, are_chains_right}
use Rattle.sp_plan.specs.Validity.{stage_count}
use Rattle.sp_time.specs.Beats.{Slot, Run, slot_at, run_at}
use Rattle.sp_time.specs.Lists.{Each, Pairs}
use Rattle.sp_time.specs.Orders.{Precedes}
use Rattle.sp_machine.specs.InOrder.{EachTwo}
use Rattle.sp_machine.specs.Laws.{told}
use Rattle.sp_machine.specs.Stamps.{Stamped, Copies}
use Rattle.sp_machine.specs.Timeline.{group_runs, group_events, in_copies, slots_from, slots_of}
use Rattle.sp_machine.specs.Told.{ArePlanned}
use Rattle.sp_machine.specs.Transfers.{Delays}
use Rattle.sp_machine.proofs.Beats.{slot_of_stage, chain_of_stage}
use Rattle.sp_machine.proofs.InnerOrder.{MomentsMet, AreMet, or_false, pairs_met}
use Rattle.sp_overlap.specs.Apart.{node_at}
use Rattle.sp_overlap.specs.Laws.{IsOuterRight}
use Rattle.sp_overlap.proofs.Inside.{IsEventIn, IsMomentIn}
use Rattle.sp_overlap.proofs.Lanes.{Lanes, all_below, stand_in_lanes, one_lane, single_stage}
use Rattle.sp_overlap.proofs.Compared.{runs_met}
use Rattle.sp_overlap.proofs.Parts.{groups_in}
use Rattle.sp_overlap.proofs.Places.{number_at, run_count, numbers_apart, Told, table_told, few_groups}
use Rattle.sp_overlap.proofs.Precede.{events_precede}
use Rattle.sp_overlap.proofs.Slots.{slots_rise}
use Rattle.sp_core_ports.specs.UsedLaws.{TakeTurns}
use Rattle.sp_core_ports.specs.UsedPorts.{AreAtPort}
use Rattle.sp_core_ports.specs.UsedReaders.{Reader, readers_of, over_at, duplicate_at}
use Rattle.sp_core_ports.proofs.UsedAtPort.{MomentsTogether, together}
use Rattle.sp_core_ports.specs.CoreLaws.{StagesTakeTurns}
use Rattle.sp_core_ports.specs.CoreServed.{IsOneOf, HasReader, IsServed, HasDuplicates}
use Rattle.sp_core_ports.proofs.CoreWriting.{on_chip, there, met_there, one_there}

-- how many readers are over: more where another one is, and less than all where one isn't
over_more : (a b : ℕ) → a ≤ b → (rs : List Reader) → over_at a rs ≤ over_at b rs
over_more a b l [] = omega arith
over_more a b l (r ∷ rs) = add (nat_le r.until a) refl (nat_le r.until b) refl (over_more a b l rs)
  where
    add : (x : Bool) → nat_le r.until a ≡ x → (y : Bool) → nat_le r.until b ≡ y → over_at a rs ≤ over_at b rs → one_if x + over_at a rs ≤ one_if y + over_at b rs
    add true p true q h = omega arith
    add true p false q h = let u : r.until ≤ a = leb-true _ _ p in absurd (true≢false (sym (le-leb r.until b (omega arith)) ∙ q))
    add false p true q h = omega arith
    add false p false q h = omega arith

over_less : (a b : ℕ) (r : Reader) (rs : List Reader) → IsOneOf r rs → a < r.until → r.until ≤ b → over_at a rs < over_at b rs
over_less a b r [] i l u = absurd i
over_less a b r (x ∷ rs) (inl e) l u = head (nat_le x.until a) refl (nat_le x.until b) refl (over_more a b (omega arith) rs)
  where
    same : r.until ≡ x.until
    same = ap (λ (z : Reader). z.until) e

    head : (p : Bool) → nat_le x.until a ≡ p → (q : Bool) → nat_le x.until b ≡ q → over_at a rs ≤ over_at b rs → one_if p + over_at a rs < one_if q + over_at b rs
    head true p q y h = let v : x.until ≤ a = leb-true _ _ p in let w : r.until ≡ x.until = same in absurd (omega arith)
    head false p true q h = omega arith
    head false p false q h = let w : r.until ≡ x.until = same in absurd (true≢false (sym (le-leb x.until b (omega arith)) ∙ q))
over_less a b r (x ∷ rs) (inr i) l u = tail (nat_le x.until a) refl (nat_le x.until b) refl (over_less a b r rs i l u)
  where
    tail : (p : Bool) → nat_le x.until a ≡ p → (q : Bool) → nat_le x.until b ≡ q → over_at a rs < over_at b rs → one_if p + over_at a rs < one_if q + over_at b rs
    tail true p true q h = omega arith
    tail true p false q h = let v : x.until ≤ a = leb-true _ _ p in absurd (true≢false (sym (le-leb x.until b (omega arith)) ∙ q))
    tail false p true q h = omega arith
    tail false p false q h = omega arith

over_all : (a : ℕ) (rs : List Reader) → over_at a rs ≤ length rs
over_all a [] = omega arith
over_all a (r ∷ rs) = add (nat_le r.until a) (over_all a rs)
  where
    add : (x : Bool) → over_at a rs ≤ length rs → one_if x + over_at a rs ≤ suc (length rs)
    add true h = omega arith
    add false h = omega arith

pub over_some : (a : ℕ) (r : Reader) (rs : List Reader) → IsOneOf r rs → a < r.until → over_at a rs < length rs
over_some a r rs i l = let x : over_at a rs < over_at r.until rs = over_less a r.until r rs i l (omega arith) in let y : over_at r.until rs ≤ length rs = over_all r.until rs in omega arith

-- the numbers of stages rise
from_on : (n : ℕ) (stages : PlainStages) (s : ℕ) → s < stage_count stages → n ≤ (stage_at (runs_of n stages) s).from
from_on n no_stage s l = absurd (omega (arith, l))
from_on n (more_stage first last comb node rest) zero l = omega arith
from_on n (more_stage first last comb node rest) (suc s) l =
    let a : n + number_count node ≤ (stage_at (runs_of (n + number_count node) rest) s).from = from_on (n + number_count node) rest s (omega arith) in omega arith

ranges_rise : (n : ℕ) (stages : PlainStages) (s r : ℕ) → s < r → r < stage_count stages → (stage_at (runs_of n stages) s).until ≤ (stage_at (runs_of n stages) r).from
ranges_rise n no_stage s r l q = absurd (omega (arith, q))
ranges_rise n (more_stage first last comb node rest) s zero l q = absurd (omega (arith, l))
ranges_rise n (more_stage first last comb node rest) zero (suc r) l q = from_on (n + number_count node) rest r (omega arith)
ranges_rise n (more_stage first last comb node rest) (suc s) (suc r) l q = ranges_rise (n + number_count node) rest s r (omega arith) (omega arith)

-- what is known of each of two lists and of each two
two_of : (A B : Stamped → Type 0) (C P : Stamped → Stamped → Type 0) → ((e f : Stamped) → A e → B f → C e f → P e f) → (xs ys : List Stamped) → Each A xs → Each B ys → EachTwo C xs ys → EachTwo P xs ys
two_of A B C P h [] ys a b c = tt
two_of A B C P h (x ∷ xs) ys a b c = (row ys b c.0, two_of A B C P h xs ys a.1 b c.1)
  where
    row : (ys : List Stamped) → Each B ys → Each (C x) ys → Each (P x) ys
    row [] b c = tt
    row (y ∷ ys) b c = (h x y a.0 b.0 c.0, row ys b.1 c.1)

both_each : (A B : Stamped → Type 0) (xs : List Stamped) → Each A xs → Each B xs → Each (λ e. A e × B e) xs
both_each A B [] a b = tt
both_each A B (x ∷ xs) a b = ((a.0, b.0), both_each A B xs a.1 b.1)

module _ (core : PlainCore) (plan : PlainPlan) (delays : Delays) (meets : List Meet) (k n : ℕ) (st : Standing) (counters : List PlainCounter) (style : Style) (owned : List ℕ) (stages : PlainStages) (slots chains : List ℕ)
    (right : IsOuterRight core plan meets k n st counters style owned stages slots chains) where
  abbrev all : List StageRun
  all = runs_of n stages

  abbrev places : List Slot
  places = slots_from slots chains

  abbrev at : ℕ → ℕ
  at s = slice_index slots s

  many_slots : length slots ≡ stage_count stages
  many_slots = right.many.0

  many_chains : length slots ≡ length chains
  many_chains = right.many.0 ∙ sym right.many.1

  counted : length all ≡ stage_count stages
  counted = run_count n stages

  lanes : Lanes all
  lanes = stand_in_lanes counters n stages right.lanes

  slot_right : (s : ℕ) → s < length all → is_slot_right all slots chains s ≡ true
  slot_right s l = (and_parts _ _ (all_below (is_slot_right_in all slots chains counters style) (length all) s (and_parts _ _ right.divided).0 l)).0

  slot_is : (s : ℕ) → s < stage_count stages → (slot_at places s).slot ≡ at s
  slot_is s l = slot_of_stage slots chains s many_chains (subst (λ x. s < x) (sym many_slots) l)

  chain_is : (s : ℕ) → s < stage_count stages → (slot_at places s).chain ≡ slice_index chains s
  chain_is s l = chain_of_stage slots chains s many_chains (subst (λ x. s < x) (sym many_slots) l)

  same_place : (a b : Slot) → a.slot ≡ b.slot → a.chain ≡ b.chain → a ≡ b
  same_place a b e f = ap (λ x. record { slot = x; chain = a.chain }) e ∙ ap (λ x. record { slot = b.slot; chain = x }) f

  -- a body that is done once, and is no `Parallel` block, has one lane: its stages come one after the other
  single : (cs : List PlainCounter) → is_once cs ≡ true → lanes_of cs ≡ 1
  single [] e = refl
  single (c ∷ cs) e = absurd (false≢true e)

  in_one_lane : is_once counters ≡ true → (s : ℕ) → s < stage_count stages → (is_of_all (stage_at all s) ≡ false) × ((stage_at all s).first ≡ 0)
  in_one_lane once s l = one_lane counters n stages right.lanes (single counters once) s (subst (λ x. s < x) (sym counted) l)

  stage_is : is_once counters ≡ true → (s : ℕ) → s < stage_count stages → stage_of all s ≡ s
  stage_is once s l =
      let a = in_one_lane once s l in
      let x : stage_of all s ≡ s - 0 * lane_size all = single_stage all s a.0 ∙ ap (λ f. s - f * lane_size all) a.1 in omega arith

  shared_lane : is_once counters ≡ true → (s r : ℕ) → s < stage_count stages → r < stage_count stages → share_lane (stage_at all s) (stage_at all r) ≡ true
  shared_lane once s r ls lr =
      let a = in_one_lane once s ls in
      let b = in_one_lane once r lr in
      let x : (stage_at all s).first ≡ 0 = a.1 in
      let y : (stage_at all r).first ≡ 0 = b.1 in
      let low : (stage_at all s).first ≤ (stage_at all r).last = omega arith in
      let high : (stage_at all r).first ≤ (stage_at all s).last = omega arith in
      and_from _ _ (le-leb _ _ low) (le-leb _ _ high)

  once_chained : is_once counters ≡ true → is_parallel_block counters style ≡ false → (s r : ℕ) → s < r → r < stage_count stages → at s ≡ at r → slot_at places s ≡ slot_at places r
  once_chained once block s r l q e =
      let in_all : r < length all = subst (λ x. r < x) (sym counted) q in
      let inside : s < stage_count stages = omega (arith, l, q) in
      let before_all : s < length all = omega (arith, l, in_all) in
      let chains_right : are_chains_right all slots chains core counters style meets ≡ true = (and_parts _ _ (and_parts _ _ right.divided).1).1 in
      let of_s : are_chains_right_of all slots chains core (is_parallel_block counters style) meets s ≡ true = all_below (are_chains_right_of all slots chains core (is_parallel_block counters style) meets) (length all) s chains_right before_all in
      let of_r : is_chain_right all slots chains core (is_parallel_block counters style) meets s r ≡ true = all_below (is_chain_right all slots chains core (is_parallel_block counters style) meets s) (length all) r of_s in_all in
      let joined : are_joined all slots chains core (is_parallel_block counters style) meets s r ≡ true = or_left _ _ (and_from _ _ (ap not block) (shared_lane once s r inside q)) in
      let both : slice_index chains s ≡ slice_index chains r =
      eqb-true _ _ (or_false _ _ (or_neither (nat_le r s) (not (at s == at r)) (not_above r s l) (ap not (eq-eqb _ _ e))) (left_of _ _ joined of_r)) in
      same_place (slot_at places s) (slot_at places r) (slot_is s inside ∙ e ∙ sym (slot_is r q)) (chain_is s inside ∙ both ∙ sym (chain_is r q))
    where
      not_above : (a b : ℕ) → b < a → nat_le a b ≡ false
      not_above a b l = elim (cases_Bool (nat_le a b)) [
        | inl e ↦ let x : a ≤ b = leb-true a b e in absurd (omega arith)
        | inr e ↦ e
      ]

      or_neither : (x y : Bool) → x ≡ false → y ≡ false → (x || y) ≡ false
      or_neither true y e f = e
      or_neither false y e f = f

      left_of : (x y : Bool) → y ≡ true → (x || not y) ≡ true → x ≡ true
      left_of true y e h = refl
      left_of false true e h = h
      left_of false false e h = absurd (false≢true e)

  module _ (copies : Copies) (values : List (List ℤ)) (groups : Groups) (few : is_once counters ≡ true → length values ≤ 1) where
    abbrev runs : List (List (Run Stamped))
    runs = group_runs core plan delays stages k n 0 st owned copies values groups

    few_runs : is_once counters ≡ true → length runs ≤ 1
    few_runs e = let a : length runs ≤ length values = few_groups core plan delays stages k n 0 st owned copies values groups in let b : length values ≤ 1 = few e in omega arith

    once_precede : is_once counters ≡ true → is_parallel_block counters style ≡ false → (g s h r : ℕ) → (g < h) ⊎ ((g ≡ h) × (s < r)) → g < length runs → h < length runs → s < stage_count stages → r < stage_count stages → Precedes places g s h r
    once_precede once block g s h r (inl l) lg lh ls lr = let a : length runs ≤ 1 = few_runs once in absurd (omega arith)
    once_precede once block g s h r (inr l) lg lh ls lr =
        let rise = slots_rise all slots chains lanes slot_right s r (subst (λ x. s < x) (sym counted) ls) (subst (λ x. r < x) (sym counted) lr) (λ e. let q : s < r = l.1 in absurd (omega (arith, e, q)))
        (let x : stage_of all s ≡ s = stage_is once s ls in let y : stage_of all r ≡ r = stage_is once r lr in let q : s < r = l.1 in omega arith) in
        let low : at s ≤ at r = rise.0 in
        let same : g ≡ h = l.0 in
        elim (cases_lt (at s) (at r)) [
          | inl z ↦ inl (let a : (slot_at places s).slot ≡ at s = slot_is s ls in let b : (slot_at places r).slot ≡ at r = slot_is r lr in omega arith)
          | inr z ↦ inr (l.0, once_chained once block s r l.1 lr (omega arith), l.1)
        ]

    abbrev Here : (g s : ℕ) → Stamped → Type 0
    Here g s e = Told core plan delays k st.path owned copies stages (suc k) n g s s (in_copies core plan delays owned g copies) e × (g < length runs)

    module _ (enough : HasDuplicates core plan) (at_once : are_at_once counters style ≡ true → is_at_once core k ≡ true) where
      -- two reads of two stages have two duplicates
      two_readers : (u v : ℕ) (e f : Event) → HasReader core u e → HasReader core v f → has_banks (mem core e.mem).kind ≡ true → e.mem ≡ f.mem → u ≤ f.number → duplicate_at core plan e.mem e.number ≡ duplicate_at core plan f.mem f.number → ⊥
      two_readers u v e f a b banked same apart equal =
          let rs : List Reader = readers_of core e.mem in
          let x : over_at e.number rs < over_at f.number rs = over_less e.number f.number a.reader rs a.is_one a.not_over (let z : a.reader.until ≤ u = a.is_over in omega arith) in
          let y : over_at f.number (readers_of core f.mem) < length (readers_of core f.mem) = over_some f.number b.reader (readers_of core f.mem) b.is_one b.not_over in
          let y2 : over_at f.number rs < length rs = subst (λ m. over_at f.number (readers_of core m) < length (readers_of core m)) (sym same) y in
          let d : ℕ = (mem_plan plan e.mem).duplicates in
          let z : length rs ≤ d = enough e.mem banked in
          let q : min (over_at e.number rs) (d - 1) ≡ min (over_at f.number rs) (d - 1) = equal ∙ ap (λ m. duplicate_at core plan m f.number) (sym same) in
          apart_under (over_at e.number rs) (over_at f.number rs) d x (omega arith) q
        where
          apart_under : (a b d : ℕ) → a < b → b < d → min a (d - 1) ≡ min b (d - 1) → ⊥
          apart_under a b d l u e = absurd (omega arith)

      module _ (g s h r : ℕ) (later : (g < h) ⊎ ((g ≡ h) × (s < r))) (apart : s ≡ r → ⊥) (ls : s < stage_count stages) (lr : r < stage_count stages) (lg : g < length runs) (lh : h < length runs) where
        abbrev MomentAt : (g s copy : ℕ) → Moment → Type 0
        MomentAt g s copy m = IsMomentIn core (st.path ++ record { node = k; when = in_group_of g s } ∷ []) (in_copies core plan delays owned g copies) (owned_in (node_at stages s)) (number_at (suc k) stages s) (stage_at all s).from (stage_at all s).until copy m

        abbrev EventAt : (g s copy : ℕ) → Event → Type 0
        EventAt g s copy e = IsEventIn core (st.path ++ record { node = k; when = in_group_of g s } ∷ []) (in_copies core plan delays owned g copies) (owned_in (node_at stages s)) (number_at (suc k) stages s) (stage_at all s).from (stage_at all s).until copy e

        reads_apart : (ce cf : ℕ) (e f : Event) → EventAt g s ce e → EventAt h r cf f → HasReader core (stage_at all s).until e → HasReader core (stage_at all r).until f → has_banks (mem core e.mem).kind ≡ true → e.mem ≡ f.mem → duplicate_at core plan e.mem e.number ≡ duplicate_at core plan f.mem f.number → ⊥
        reads_apart ce cf e f x y a b banked same equal = elim (cases_order s r) [
          | inl q ↦ apart q
          | inr (inl q) ↦ (
              let z : (stage_at all s).until ≤ (stage_at all r).from = ranges_rise n stages s r q lr in
              let w : (stage_at all r).from ≤ f.number = y.from_on in
              two_readers (stage_at all s).until (stage_at all r).until e f a b banked same (omega arith) equal
              )
          | inr (inr q) ↦ (
              let z : (stage_at all r).until ≤ (stage_at all s).from = ranges_rise n stages r s q ls in
              let w : (stage_at all s).from ≤ e.number = x.from_on in
              two_readers (stage_at all r).until (stage_at all s).until f e b a (subst (λ m. has_banks (mem core m).kind ≡ true) same banked) (sym same) (omega arith) (sym equal)
              )
        ]

        -- two writes stand in the meets, or the body is done once
        writes_precede : (ce cf : ℕ) (e f : Event) → EventAt g s ce e → EventAt h r cf f → is_met core meets e f ≡ true → ce ≡ cf → e.mem ≡ f.mem → has_banks (mem core e.mem).kind ≡ true → changes e.act ≡ true → Precedes places g s h r
        writes_precede ce cf e f x y met copy same banked change = go counters refl
          where
            by_meets : is_at_once core k ≡ true → Precedes places g s h r
            by_meets once =
                events_precede core plan delays meets k n st counters style owned stages slots chains right copies values groups few g s h r later apart ls lr lg lh e (there core k right.no_stream e f) ce cf x
                (record { rest = y.rest; path_is = y.path_is; begins = y.begins; from_on = y.from_on; below = y.below; named = y.named; copied = y.copied })
                (met_there core k right.no_stream meets st.path right.around (number_at (suc k) stages s) (number_at (suc k) stages r) (numbers_apart (suc k) stages s r ls lr apart) g s h r e f x.rest y.rest x.path_is y.path_is x.begins y.begins apart once (on_chip core e.mem banked) met)
                copy same (one_there core k right.no_stream e f same) (or_left (changes e.act) (changes f.act) change)

            go : (cs : List PlainCounter) → counters ≡ cs → Precedes places g s h r
            go [] q = elim (cases_Bool (is_parallel style)) [
              | inl z ↦ by_meets (at_once (ap (λ c. are_at_once c style) q ∙ z))
              | inr z ↦ once_precede (ap is_once q) (ap (λ c. is_parallel_block c style) q ∙ z) g s h r later lg lh ls lr
            ]
            go (c ∷ cs) q = by_meets (at_once (ap (λ c. are_at_once c style) q))

        moments_turn : (ce cf : ℕ) (a b : Moment) → MomentAt g s ce a → MomentAt h r cf b → IsServed core (stage_at all s).until a → IsServed core (stage_at all r).until b → MomentsMet core meets a b → MomentsTogether core plan ce cf a b → Precedes places g s h r
        moments_turn ce cf (touches e) (touches f) x y p q met t = go t.by_act
          where
            go : ((changes e.act ≡ false) × (changes f.act ≡ false) × (duplicate_at core plan e.mem e.number ≡ duplicate_at core plan f.mem f.number)) ⊎ ((changes e.act ≡ true) × (changes f.act ≡ true)) → Precedes places g s h r
            go (inl z) = absurd (reads_apart ce cf e f x y (p t.banked z.0) (q (subst (λ m. has_banks (mem core m).kind ≡ true) t.mem_is t.banked) z.1) t.banked t.mem_is z.2)
            go (inr z) = writes_precede ce cf e f x y met t.copy t.mem_is t.banked z.0
        moments_turn ce cf (touches e) (slices z) x y p q met t = absurd t
        moments_turn ce cf (touches e) (renews m) x y p q met t = absurd t
        moments_turn ce cf (touches e) (keeps m w) x y p q met t = absurd t
        moments_turn ce cf (slices z) b x y p q met t = absurd t
        moments_turn ce cf (renews m) b x y p q met t = absurd t
        moments_turn ce cf (keeps m w) b x y p q met t = absurd t

      abbrev Known : (g s : ℕ) → Stamped → Type 0
      Known g s e = Here g s e × IsServed core (stage_at all s).until e.moment

      two_turn : (g s h r : ℕ) → (g < h) ⊎ ((g ≡ h) × (s < r)) → (e f : Stamped) → Known g s e → Known h r f → AreMet core meets e f → AreAtPort core plan e f → Precedes places g s h r
      two_turn g s h r later e f x y met t = elim (cases_order s r) [
        | inl q ↦ same later q
        | inr (inl q) ↦ moments_turn g s h r later (λ z. absurd (omega (arith, z, q))) x.0.0.1 y.0.0.1 x.0.1 y.0.1 e.copy f.copy e.moment f.moment x.0.0.0 y.0.0.0 x.1 y.1 met (together core plan e f t)
        | inr (inr q) ↦ moments_turn g s h r later (λ z. absurd (omega (arith, z, q))) x.0.0.1 y.0.0.1 x.0.1 y.0.1 e.copy f.copy e.moment f.moment x.0.0.0 y.0.0.0 x.1 y.1 met (together core plan e f t)
      ]
        where
          same : (g < h) ⊎ ((g ≡ h) × (s < r)) → s ≡ r → Precedes places g s h r
          same (inl l) q = inl (let z : (slot_at places s).slot ≡ (slot_at places r).slot = ap (λ x. (slot_at places x).slot) q in omega arith)
          same (inr l) q = absurd (let z : s < r = l.1 in omega arith)

      module _ (planned : ArePlanned plan (suc k) stages) (served : (g s : ℕ) → Each (λ (e : Stamped). IsServed core (stage_at all s).until e.moment) (run_at runs g s).events) where
        told_here : (g s : ℕ) → Each (Here g s) (run_at runs g s).events
        told_here g s =
            subst (λ x. Each (λ e. Told core plan delays k st.path owned copies stages (suc k) n x s s (in_copies core plan delays owned x copies) e × (g < length runs)) (run_at runs g s).events) (let q : 0 + g ≡ g = omega arith in q)
            (table_told core plan delays k st.path owned copies stages n 0 runs (groups_in core plan delays stages k n 0 st owned copies values groups planned right.named) g s)

        known : (g s : ℕ) → Each (Known g s) (run_at runs g s).events
        known g s = both_each (Here g s) (λ e. IsServed core (stage_at all s).until e.moment) (run_at runs g s).events (told_here g s) (served g s)

        all_turn : Pairs (AreMet core meets) (group_events core plan delays places runs (outer_plan slots chains) stages copies owned 0 runs) → TakeTurns core plan delays places runs
        all_turn met g s h r later =
            two_of (Known g s) (Known h r) (AreMet core meets) (λ e f. AreAtPort core plan e f → Precedes places g s h r) (λ e f x y m t. two_turn g s h r later e f x y m t) (run_at runs g s).events (run_at runs h r).events (known g s) (known h r)
            (runs_met core meets plan delays places runs (outer_plan slots chains) stages copies owned 0 runs met g s h r later)

pub stages_take_turns : (core : PlainCore) (plan : PlainPlan) (delays : Delays) → StagesTakeTurns core plan delays
stages_take_turns core plan delays meets k n st counters style owned stages slots chains right planned enough at_once copies values groups few met served =
    subst (λ q. TakeTurns core plan delays (slots_of q) (group_runs core plan delays stages k n 0 st owned copies values groups)) (sym right.planned)
    (all_turn core plan delays meets k n st counters style owned stages slots chains right copies values groups few enough at_once planned served
    (pairs_met core meets _
    (subst (λ q. are_met core meets (events_of (told (group_events core plan delays (slots_of q) (group_runs core plan delays stages k n 0 st owned copies values groups) q stages copies owned 0 (group_runs core plan delays stages k n 0 st owned copies values groups)))) ≡ true) right.planned met)))
