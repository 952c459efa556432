-- Runs of stages that clash come one after the other, by slots, chains and copies that are right.
use Rattle.std.proofs.Common.{◌≡◌, ℕ, suc, ◌+◌, ◌-◌, ◌*◌, ◌%◌, ◌<◌, ◌≤◌, ◌⊎◌, inl, inr, Bool, true, false, cond, ℤ, List, [], ◌∷◌, ◌++◌, length, arith, refl, sym, subst, ap, ◌∙◌}
use Rattle.std.proofs.lemmas.Bool.{and_parts, and_from, cases_lt, cases_order, cases_Bool, eq-eqb, eqb-true, leb-true, le-leb, lt-ltb, or_left, or_right, true≢false, false≢true}
use Rattle.std.specs.List.{list_all, list_any}
use Rattle.std.specs.Prelude.{◌==◌, ◌&&◌, ◌||◌, not, nat_le, slice_index}
use Rattle.sp_words.specs.declared.kind.Style.{Style}
use Rattle.sp_core.specs.declared.access.Meet.{Meet}
use Rattle.sp_core.specs.Around.{lanes_of}
use Rattle.sp_core.specs.Declarations.{is_among}
use Rattle.sp_core.specs.Elements.{numbers_below}
use Rattle.sp_core.specs.Events.{Standing, in_group_of, Event, Moment, touches, slices, renews, keeps, events_of}
use Rattle.sp_core.specs.History.{Groups}
use Rattle.sp_core.specs.Invariant.{owned_in}
use Rattle.sp_core.specs.Meeting.{changes, is_one_element, is_met, are_met, least_of, stand, owns}
use Rattle.sp_core.specs.PlainCore.{PlainCounter, PlainStages, PlainCore}
use Rattle.sp_plan.specs.Copies.{copies as copy_count, slots_between, used_slots}
use Rattle.sp_plan.specs.Named.{names_at, share_other, uses}
use Rattle.sp_plan.specs.PlainPlan.{PlainNodePlan, outer_plan, PlainPlan, mem_plan, node_plan}
use Rattle.sp_plan.specs.Slots.{StageRun, runs_of, run_at as stage_at, is_within, is_once, is_parallel_block, lane_size, stage_of, is_slot_right, is_slot_right_in, are_slots_right, is_pair, is_held, are_held_with, are_held, is_meeting, are_joined, is_chain_right, are_chains_right_of, are_chains_right}
use Rattle.sp_plan.specs.Validity.{stage_count}
use Rattle.sp_time.specs.Beats.{Slot, Run, slot_at, run_at}
use Rattle.sp_time.specs.Lists.{Each, Pairs}
use Rattle.sp_time.specs.Orders.{Precedes}
use Rattle.sp_machine.specs.InOrder.{is_done, does_change, memory_of, share_place, Clash, EachTwo, Conflicts, fresh_beat, fresh, RunsPrecede}
use Rattle.sp_machine.specs.Laws.{told}
use Rattle.sp_machine.specs.Stamps.{Stamped, Copies}
use Rattle.sp_machine.specs.Timeline.{group_runs, group_events, in_copies, slots_from, slots_of, least}
use Rattle.sp_machine.specs.Told.{ArePlanned}
use Rattle.sp_machine.specs.Transfers.{Delays}
use Rattle.sp_machine.proofs.Beats.{slot_of_stage, chain_of_stage}
use Rattle.sp_machine.proofs.InnerOrder.{MomentsMet, AreMet, or_false, pairs_met}
use Rattle.sp_overlap.specs.Apart.{node_at}
use Rattle.sp_overlap.specs.Laws.{IsOuterRight, OverlapsPrecede}
use Rattle.sp_overlap.proofs.Depths.{first_used, used_between, all_among, same_remainder}
use Rattle.sp_overlap.proofs.Inside.{IsEventIn, IsMomentIn}
use Rattle.sp_overlap.proofs.Lanes.{Lanes, all_below, stand_in_lanes, one_lane, single_stage}
use Rattle.sp_overlap.proofs.Compared.{runs_met, stand_there, stand_some}
use Rattle.sp_overlap.proofs.Parts.{groups_in}
use Rattle.sp_overlap.proofs.Places.{number_at, run_count, numbers_apart, ranges_apart, uses_at, Told, table_told, few_groups}
use Rattle.sp_overlap.proofs.Slots.{slots_rise}

-- where a memory is among names
any_among : (test : ℕ → Bool) (ms : List ℕ) (m : ℕ) → is_among m ms ≡ true → test m ≡ true → list_any test ms ≡ true
any_among test [] m h e = absurd (false≢true h)
any_among test (x ∷ ms) m h e = go (λ k. any_among test ms m k e) (m == x) refl h
  where
    go : (is_among m ms ≡ true → list_any test ms ≡ true) → (b : Bool) → (m == x) ≡ b → (b || is_among m ms) ≡ true → (test x || list_any test ms) ≡ true
    go rest true q h = ap (λ t. t || list_any test ms) (ap test (sym (eqb-true m x q)) ∙ e)
    go rest false q h = or_right (test x) (list_any test ms) (rest h)

-- what one of each two lists keep together, where each of them keeps something of its own
two_by : (A B : Stamped → Type 0) (C P : Stamped → Stamped → Type 0) → ((e f : Stamped) → A e → B f → C e f → P e f) → (xs ys : List Stamped) → Each A xs → Each B ys → EachTwo C xs ys → EachTwo P xs ys
two_by A B C P h [] ys a b c = tt
two_by A B C P h (x ∷ xs) ys a b c = (row ys b c.0, two_by A B C P h xs ys a.1 b c.1)
  where
    row : (ys : List Stamped) → Each B ys → Each (C x) ys → Each (P x) ys
    row [] b c = tt
    row (y ∷ ys) b c = (h x y a.0 b.0 c.0, row ys b.1 c.1)

each_by : (A P : Stamped → Type 0) → ((e : Stamped) → A e → P e) → (xs : List Stamped) → Each A xs → Each P xs
each_by A P h [] a = tt
each_by A P h (x ∷ xs) a = (h x a.0, each_by A P h xs a.1)

module _ (core : PlainCore) (plan : PlainPlan) (delays : Delays) (meets : List Meet) (k n : ℕ) (st : Standing) (counters : List PlainCounter) (style : Style) (owned : List ℕ) (stages : PlainStages) (slots chains : List ℕ)
    (right : IsOuterRight core plan meets k n st counters style owned stages slots chains) where
  abbrev all : List StageRun
  all = runs_of n stages

  abbrev p : PlainNodePlan
  p = outer_plan slots chains

  abbrev places : List Slot
  places = slots_from slots chains

  abbrev at : ℕ → ℕ
  at s = slice_index slots s

  many_slots : length slots ≡ stage_count stages
  many_slots = right.many.0

  many_chains : length slots ≡ length chains
  many_chains = right.many.0 ∙ sym right.many.1

  counted : length all ≡ stage_count stages
  counted = run_count n stages

  lanes : Lanes all
  lanes = stand_in_lanes counters n stages right.lanes

  -- the parts of the division
  slots_right : are_slots_right all slots chains counters style ≡ true
  slots_right = (and_parts _ _ right.divided).0

  held_right : are_held all slots chains core owned counters meets ≡ true
  held_right = (and_parts _ _ (and_parts _ _ right.divided).1).0

  chains_right : are_chains_right all slots chains core counters style meets ≡ true
  chains_right = (and_parts _ _ (and_parts _ _ right.divided).1).1

  slot_right : (s : ℕ) → s < length all → is_slot_right all slots chains s ≡ true
  slot_right s l = (and_parts _ _ (all_below (is_slot_right_in all slots chains counters style) (length all) s slots_right l)).0

  rises : (s r : ℕ) → s < stage_count stages → r < stage_count stages → (s ≡ r → ⊥) → stage_of all s ≤ stage_of all r → (at s ≤ at r) × (at r ≤ at s + (stage_of all r - stage_of all s))
  rises s r a b = slots_rise all slots chains lanes slot_right s r (subst (λ x. s < x) (sym counted) a) (subst (λ x. r < x) (sym counted) b)

  slot_is : (s : ℕ) → s < stage_count stages → (slot_at places s).slot ≡ at s
  slot_is s l = slot_of_stage slots chains s many_chains (subst (λ x. s < x) (sym many_slots) l)

  chain_is : (s : ℕ) → s < stage_count stages → (slot_at places s).chain ≡ slice_index chains s
  chain_is s l = chain_of_stage slots chains s many_chains (subst (λ x. s < x) (sym many_slots) l)

  same_place : (a b : Slot) → a.slot ≡ b.slot → a.chain ≡ b.chain → a ≡ b
  same_place a b e f = ap (λ x. record { slot = x; chain = a.chain }) e ∙ ap (λ x. record { slot = b.slot; chain = x }) f

  -- stages of one slot that may meet in a group are in one chain
  chained : (s r : ℕ) → s < r → r < stage_count stages → at s ≡ at r → list_any (is_meeting all slots chains core s r) meets ≡ true → slot_at places s ≡ slot_at places r
  chained s r l q e some =
      let in_all : r < length all = subst (λ x. r < x) (sym counted) q in
      let of_s : are_chains_right_of all slots chains core (is_parallel_block counters style) meets s ≡ true = all_below (are_chains_right_of all slots chains core (is_parallel_block counters style) meets) (length all) s chains_right (omega (arith, l, in_all)) in
      let of_r : is_chain_right all slots chains core (is_parallel_block counters style) meets s r ≡ true = all_below (is_chain_right all slots chains core (is_parallel_block counters style) meets s) (length all) r of_s in_all in
      let joined : are_joined all slots chains core (is_parallel_block counters style) meets s r ≡ true = or_right _ _ some in
      let both : slice_index chains s ≡ slice_index chains r =
      eqb-true _ _ (or_false _ _ (or_neither (nat_le r s) (not (at s == at r)) (not_above r s l) (ap not (eq-eqb _ _ e))) (left_of _ _ joined of_r)) in
      let inside : s < stage_count stages = omega (arith, l, q) in
      same_place (slot_at places s) (slot_at places r) (slot_is s inside ∙ e ∙ sym (slot_is r q)) (chain_is s inside ∙ both ∙ sym (chain_is r q))
    where
      not_above : (a b : ℕ) → b < a → nat_le a b ≡ false
      not_above a b l = elim (cases_Bool (nat_le a b)) [
        | inl e ↦ let x : a ≤ b = leb-true a b e in absurd (omega arith)
        | inr e ↦ e
      ]

      or_neither : (x y : Bool) → x ≡ false → y ≡ false → (x || y) ≡ false
      or_neither true y e f = e
      or_neither false y e f = f

      left_of : (x y : Bool) → y ≡ true → (x || not y) ≡ true → x ≡ true
      left_of true y e h = refl
      left_of false true e h = h
      left_of false false e h = absurd (false≢true e)

  -- a memory that the loop owns
  copy_is : (g m : ℕ) (copies : Copies) → is_among m owned ≡ true → in_copies core plan delays owned g copies m ≡ g % (mem_plan plan m).depth
  copy_is g m copies e = ap (λ b. cond b (g % (mem_plan plan m).depth) (copies m)) e

  depth_is : is_once counters ≡ false → (m : ℕ) → is_among m owned ≡ true → (mem_plan plan m).depth ≡ slots_between (used_slots core m stages slots)
  depth_is loop m e =
      eqb-true _ _ (all_among (λ x. (mem_plan plan x).depth == copy_count core x stages (node_plan plan k)) owned m (right.copied loop) e)
      ∙ ap (copy_count core m stages) right.planned

  some_depth : (m : ℕ) → 0 < slots_between (used_slots core m stages slots)
  some_depth m = go (used_slots core m stages slots)
    where
      go : (ns : List ℕ) → 0 < slots_between ns
      go [] = omega arith
      go (x ∷ ns) = omega arith

  -- groups that have one copy are as many apart as there are copies
  groups_apart : is_once counters ≡ false → (g h m : ℕ) (copies : Copies) → is_among m owned ≡ true → g < h → in_copies core plan delays owned g copies m ≡ in_copies core plan delays owned h copies m → g + slots_between (used_slots core m stages slots) ≤ h
  groups_apart loop g h m copies o l e =
      let d : (mem_plan plan m).depth ≡ slots_between (used_slots core m stages slots) = depth_is loop m o in
      let some : 0 < slots_between (used_slots core m stages slots) = some_depth m in
      let far : g + (mem_plan plan m).depth ≤ h = same_remainder g h (mem_plan plan m).depth l (sym (copy_is g m copies o) ∙ e ∙ copy_is h m copies o) (omega arith) in
      omega arith

  first_under : (m s : ℕ) → s < stage_count stages → uses core m (node_at stages s) ≡ true → least (used_slots core m stages slots) ≤ at s
  first_under m s l u = first_used core m stages slots s (subst (λ x. s < x) (sym many_slots) l) u

  between : (m s : ℕ) → s < stage_count stages → uses core m (node_at stages s) ≡ true → at s < slots_between (used_slots core m stages slots) + least (used_slots core m stages slots)
  between m s l u = used_between core m stages slots s (subst (λ x. s < x) (sym many_slots) l) u

  -- a body that is done once has one lane
  once_in_turn : is_once counters ≡ true → (s r : ℕ) → s < r → r < stage_count stages → stage_of all s ≤ stage_of all r
  once_in_turn once s r l q =
      let in_all : r < length all = subst (λ x. r < x) (sym counted) q in
      let one : lanes_of counters ≡ 1 = single counters once in
      let a = one_lane counters n stages right.lanes one s (omega (arith, l, in_all)) in
      let b = one_lane counters n stages right.lanes one r in_all in
      let x : stage_of all s ≡ s - 0 * lane_size all = single_stage all s a.0 ∙ ap (λ f. s - f * lane_size all) a.1 in
      let y : stage_of all r ≡ r - 0 * lane_size all = single_stage all r b.0 ∙ ap (λ f. r - f * lane_size all) b.1 in
      omega arith
    where
      single : (cs : List PlainCounter) → is_once cs ≡ true → lanes_of cs ≡ 1
      single [] e = refl
      single (c ∷ cs) e = absurd (false≢true e)

  module _ (copies : Copies) (values : List (List ℤ)) (groups : Groups) (few : is_once counters ≡ true → length values ≤ 1) where
    abbrev runs : List (List (Run Stamped))
    runs = group_runs core plan delays stages k n 0 st owned copies values groups

    few_runs : is_once counters ≡ true → length runs ≤ 1
    few_runs e = let a : length runs ≤ length values = few_groups core plan delays stages k n 0 st owned copies values groups in let b : length values ≤ 1 = few e in omega arith

    abbrev Here : (g s : ℕ) → Stamped → Type 0
    Here g s e = Told core plan delays k st.path owned copies stages (suc k) n g s s (in_copies core plan delays owned g copies) e × (g < length runs)

    -- two events of two stages
    module _ (g s h r : ℕ) (later : (g < h) ⊎ ((g ≡ h) × (s < r))) (apart : s ≡ r → ⊥) (ls : s < stage_count stages) (lr : r < stage_count stages) (lg : g < length runs) (lh : h < length runs) where
      abbrev hidden : ℕ → List ℕ
      hidden s = owned_in (node_at stages s)

      abbrev EventAt : (g s copy : ℕ) → Event → Type 0
      EventAt g s copy e = IsEventIn core (st.path ++ record { node = k; when = in_group_of g s } ∷ []) (in_copies core plan delays owned g copies) (hidden s) (number_at (suc k) stages s) (stage_at all s).from (stage_at all s).until copy e

      abbrev MomentAt : (g s copy : ℕ) → Moment → Type 0
      MomentAt g s copy m = IsMomentIn core (st.path ++ record { node = k; when = in_group_of g s } ∷ []) (in_copies core plan delays owned g copies) (hidden s) (number_at (suc k) stages s) (stage_at all s).from (stage_at all s).until copy m

      used : (g s copy : ℕ) (e : Event) → s < stage_count stages → EventAt g s copy e → uses core e.mem (node_at stages s) ≡ true
      used g s copy e l x = uses_at core n stages s e.number e.mem right.named l x.from_on x.below x.named

      by_groups : g < h → at s ≤ at r → Precedes places g s h r
      by_groups l q = inl (let a : (slot_at places s).slot ≡ at s = slot_is s ls in let b : (slot_at places r).slot ≡ at r = slot_is r lr in omega arith)

      by_beats : g + at s < h + at r → Precedes places g s h r
      by_beats l = inl (let a : (slot_at places s).slot ≡ at s = slot_is s ls in let b : (slot_at places r).slot ≡ at r = slot_is r lr in omega arith)

      module _ (e f : Event) (ce cf : ℕ) (x : EventAt g s ce e) (y : EventAt h r cf f) (met : is_met core meets e f ≡ true) (copy : ce ≡ cf) (mem : e.mem ≡ f.mem) (one : is_one_element core e f ≡ true) (some : (changes e.act || changes f.act) ≡ true) where
        stands : (owns core k e.mem ≡ false) ⊎ (g ≡ h) → stand core meets e.number f.number (h - g) ≡ true
        stands own =
            stand_there core meets k right.no_stream st.path right.around (number_at (suc k) stages s) (number_at (suc k) stages r) (numbers_apart (suc k) stages s r ls lr apart) g s h r e f x.rest y.rest x.path_is y.path_is x.begins y.begins
            (ranges_apart n stages s r e.number f.number ls lr apart x.from_on x.below y.from_on y.below) own met mem one some

        inside_both : (m : Meet) → m.first ≡ e.number → m.second ≡ f.number → (is_within (stage_at all s) m.first && is_within (stage_at all r) m.second) ≡ true
        inside_both m a b =
            and_from _ _
            (subst (λ z. is_within (stage_at all s) z ≡ true) (sym a) (and_from _ _ (le-leb _ _ x.from_on) (lt-ltb _ _ x.below)))
            (subst (λ z. is_within (stage_at all r) z ≡ true) (sym b) (and_from _ _ (le-leb _ _ y.from_on) (lt-ltb _ _ y.below)))

        -- in one group
        in_chain : g ≡ h → s < r → at s ≡ at r → Precedes places g s h r
        in_chain eg l es =
            let at_once : stand core meets e.number f.number 0 ≡ true = subst (λ z. stand core meets e.number f.number z ≡ true) (let q : h - g ≡ 0 = omega arith in q) (stands (inr eg)) in
            inr (eg, chained s r l lr es (stand_some core meets e.number f.number 0 (is_meeting all slots chains core s r) (λ m a b c. and_from _ _ (inside_both m a b) (eq-eqb _ _ (let z : least_of core [] m ≤ 0 = c in omega arith))) at_once), l)

        -- a stage that isn't after the other one
        no_later : stage_of all s ≤ stage_of all r → Precedes places g s h r
        no_later q =
            let rise = rises s r ls lr apart q in
            let low : at s ≤ at r = rise.0 in
            elim later [
              | inl l ↦ by_groups l low
              | inr l ↦ elim (cases_lt (at s) (at r)) [
                | inl z ↦ let eg : g ≡ h = l.0 in by_beats (omega arith)
                | inr z ↦ in_chain l.0 l.1 (omega arith)
              ]
            ]

        -- one that is, over a memory of the loop, has another group that is far enough
        over_owned : stage_of all r < stage_of all s → is_among e.mem owned ≡ true → Precedes places g s h r
        over_owned q o = elim later [
          | inl l ↦ elim (cases_Bool (is_once counters)) [
            | inl once ↦ let a : length runs ≤ 1 = few_runs once in absurd (omega arith)
            | inr loop ↦ (
                let not_s : is_among e.mem (hidden s) ≡ false = free s (is_among e.mem (hidden s)) refl in
                let not_r : is_among f.mem (hidden r) ≡ false = subst (λ z. is_among z (hidden r) ≡ false) mem (free r (is_among e.mem (hidden r)) refl) in
                let same : in_copies core plan delays owned g copies e.mem ≡ in_copies core plan delays owned h copies e.mem = sym (x.copied not_s) ∙ copy ∙ y.copied not_r ∙ ap (in_copies core plan delays owned h copies) (sym mem) in
                let far : g + slots_between (used_slots core e.mem stages slots) ≤ h = groups_apart loop g h e.mem copies o l same in
                let top : at s < slots_between (used_slots core e.mem stages slots) + least (used_slots core e.mem stages slots) = between e.mem s ls (used g s ce e ls x) in
                let low : least (used_slots core e.mem stages slots) ≤ at r = first_under e.mem r lr (subst (λ z. uses core z (node_at stages r) ≡ true) (sym mem) (used h r cf f lr y)) in
                by_beats (omega arith)
                )
          ]
          | inr l ↦ (
              let in_turn : stage_of all s ≤ stage_of all r =
              right.of_one_lane s r e.mem l.1 (subst (λ z. r < z) (sym counted) lr) o (used g s ce e ls x) (subst (λ z. uses core z (node_at stages r) ≡ true) (sym mem) (used h r cf f lr y)) in
              absurd (omega arith)
              )
        ]
          where
            free : (t : ℕ) (b : Bool) → is_among e.mem (hidden t) ≡ b → is_among e.mem (hidden t) ≡ false
            free t true z = absurd (true≢false (sym o ∙ right.apart.within t e.mem z))
            free t false z = z

        -- over another memory it is held in the same slot, or far enough
        over_other : stage_of all r < stage_of all s → is_among e.mem owned ≡ false → Precedes places g s h r
        over_other q o = elim (cases_Bool (is_once counters)) [
          | inl once ↦ elim later [
            | inl l ↦ let a : length runs ≤ 1 = few_runs once in absurd (omega arith)
            | inr l ↦ let a : stage_of all s ≤ stage_of all r = once_in_turn once s r l.1 lr in absurd (omega arith)
          ]
          | inr loop ↦ elim (cases_lt (stage_of all s - stage_of all r) (h - g)) [
            | inl far ↦ (
                let rise = rises r s lr ls (λ z. apart (sym z)) (omega arith) in
                let high : at s ≤ at r + (stage_of all s - stage_of all r) = rise.1 in
                by_beats (omega arith)
                )
            | inr near ↦ (
                let es : at s ≡ at r = held loop (omega arith) in
                elim later [
                  | inl l ↦ by_beats (omega arith)
                  | inr l ↦ in_chain l.0 l.1 es
                ]
                )
          ]
        ]
          where
            not_first : (a b : ℕ) → b < a → nat_le a b ≡ false
            not_first a b l = elim (cases_Bool (nat_le a b)) [
              | inl e ↦ let z : a ≤ b = leb-true a b e in absurd (omega arith)
              | inr e ↦ e
            ]

            left_of : (a b : Bool) → b ≡ true → (a || not b) ≡ true → a ≡ true
            left_of true b e h = refl
            left_of false true e h = h
            left_of false false e h = absurd (false≢true e)

            shared : (m : Meet) → m.first ≡ e.number → m.second ≡ f.number → share_other core owned m.first m.second ≡ true
            shared m a b =
                subst (λ z. share_other core owned z m.second ≡ true) (sym a)
                (subst (λ z. share_other core owned e.number z ≡ true) (sym b)
                (any_among (λ z. is_among z (names_at core f.number) && not (is_among z owned)) (names_at core e.number) e.mem x.named
                (and_from _ _ (subst (λ z. is_among z (names_at core f.number) ≡ true) (sym mem) y.named) (ap not o))))

            held : is_once counters ≡ false → h - g ≤ stage_of all s - stage_of all r → at s ≡ at r
            held loop near =
                let in_s : s < length all = subst (λ z. s < z) (sym counted) ls in
                let in_r : r < length all = subst (λ z. r < z) (sym counted) lr in
                let rows : list_all (are_held_with all slots chains core owned meets) (numbers_below (length all)) ≡ true = or_false _ _ loop held_right in
                let row : are_held_with all slots chains core owned meets s ≡ true = all_below (are_held_with all slots chains core owned meets) (length all) s rows in_s in
                let here : is_held all slots chains core owned meets s r ≡ true = all_below (is_held all slots chains core owned meets s) (length all) r row in_r in
                let pair : list_any (is_pair all slots chains core owned s r) meets ≡ true =
                stand_some core meets e.number f.number (h - g) (is_pair all slots chains core owned s r)
                (λ m a b c. and_from _ _ (inside_both m a b) (and_from _ _ (le-leb _ _ (let z : least_of core [] m ≤ h - g = c in omega arith)) (shared m a b)))
                (stands (inl (right.owner e.mem o))) in
                eqb-true _ _ (or_false _ _ (not_first (stage_of all s) (stage_of all r) q) (left_of _ _ pair here))

        pub events_precede : Precedes places g s h r
        events_precede = elim (cases_lt (stage_of all r) (stage_of all s)) [
          | inl q ↦ elim (cases_Bool (is_among e.mem owned)) [
            | inl o ↦ over_owned q o
            | inr o ↦ over_other q o
          ]
          | inr q ↦ no_later (omega arith)
        ]

      -- two moments: what is made fresh or kept in a stage is its own
      its_own : (a b m : ℕ) → (a ≡ b → ⊥) → is_among m (hidden a) ≡ true → uses core m (node_at stages b) ≡ true → ⊥
      its_own a b m d i u = true≢false (sym u ∙ right.apart.unnamed a b m d i)

      both_own : (m : ℕ) → is_among m (hidden s) ≡ true → is_among m (hidden r) ≡ true → ⊥
      both_own m i j = true≢false (sym j ∙ right.apart.unowned s r m apart i)

      flipped : r ≡ s → ⊥
      flipped e = apart (sym e)

      moments_precede : (ce cf : ℕ) (a b : Moment) → MomentAt g s ce a → MomentAt h r cf b → MomentsMet core meets a b → is_done core a ≡ true → is_done core b ≡ true → ce ≡ cf → share_place core a b ≡ true → (does_change a ≡ true) ⊎ (does_change b ≡ true) → Precedes places g s h r
      moments_precede ce cf (touches e) (touches f) x y met da db copy place some =
          let parts = and_parts (e.mem == f.mem) (is_one_element core e f) place in
          events_precede e f ce cf x y met copy (eqb-true _ _ parts.0) parts.1 (either some)
        where
          either : (changes e.act ≡ true) ⊎ (changes f.act ≡ true) → (changes e.act || changes f.act) ≡ true
          either (inl z) = or_left _ _ z
          either (inr z) = or_right _ _ z
      moments_precede ce cf (touches e) (slices z) x y met da db copy place some = absurd (false≢true db)
      moments_precede ce cf (touches e) (renews m) x y met da db copy place some = absurd (its_own r s m flipped y (subst (λ z. uses core z (node_at stages s) ≡ true) (eqb-true _ _ place) (used g s ce e ls x)))
      moments_precede ce cf (touches e) (keeps m w) x y met da db copy place some = absurd (its_own r s m flipped y (subst (λ z. uses core z (node_at stages s) ≡ true) (eqb-true _ _ place) (used g s ce e ls x)))
      moments_precede ce cf (slices z) b x y met da db copy place some = absurd (false≢true da)
      moments_precede ce cf (renews m) (touches f) x y met da db copy place some = absurd (its_own s r m apart x (subst (λ z. uses core z (node_at stages r) ≡ true) (sym (eqb-true _ _ place)) (used h r cf f lr y)))
      moments_precede ce cf (renews m) (slices z) x y met da db copy place some = absurd (false≢true db)
      moments_precede ce cf (renews m) (renews o) x y met da db copy place some = absurd (both_own m x (subst (λ z. is_among z (hidden r) ≡ true) (sym (eqb-true _ _ place)) y))
      moments_precede ce cf (renews m) (keeps o w) x y met da db copy place some = absurd (both_own m x (subst (λ z. is_among z (hidden r) ≡ true) (sym (eqb-true _ _ place)) y))
      moments_precede ce cf (keeps m v) (touches f) x y met da db copy place some = absurd (its_own s r m apart x (subst (λ z. uses core z (node_at stages r) ≡ true) (sym (eqb-true _ _ place)) (used h r cf f lr y)))
      moments_precede ce cf (keeps m v) (slices z) x y met da db copy place some = absurd (false≢true db)
      moments_precede ce cf (keeps m v) (renews o) x y met da db copy place some = absurd (both_own m x (subst (λ z. is_among z (hidden r) ≡ true) (sym (eqb-true _ _ place)) y))
      moments_precede ce cf (keeps m v) (keeps o w) x y met da db copy place some = absurd (both_own m x (subst (λ z. is_among z (hidden r) ≡ true) (sym (eqb-true _ _ place)) y))

    two_precede : (g s h r : ℕ) → (g < h) ⊎ ((g ≡ h) × (s < r)) → (e f : Stamped) → Here g s e → Here h r f → AreMet core meets e f → Conflicts core e f → Precedes places g s h r
    two_precede g s h r later e f x y met c = elim (cases_order s r) [
      | inl q ↦ same later q
      | inr (inl q) ↦ moments_precede g s h r later (λ z. absurd (omega (arith, z, q))) x.0.1 y.0.1 x.1 y.1 e.copy f.copy e.moment f.moment x.0.0 y.0.0 met c.0.first c.0.second c.0.copy c.0.place c.1
      | inr (inr q) ↦ moments_precede g s h r later (λ z. absurd (omega (arith, z, q))) x.0.1 y.0.1 x.1 y.1 e.copy f.copy e.moment f.moment x.0.0 y.0.0 met c.0.first c.0.second c.0.copy c.0.place c.1
    ]
      where
        same : (g < h) ⊎ ((g ≡ h) × (s < r)) → s ≡ r → Precedes places g s h r
        same (inl l) q = inl (let z : (slot_at places s).slot ≡ (slot_at places r).slot = ap (λ x. (slot_at places x).slot) q in omega arith)
        same (inr l) q = absurd (let z : s < r = l.1 in omega arith)

    -- memories that the loop makes fresh
    uses_fresh : (g m h r cf : ℕ) (b : Moment) → r < stage_count stages → IsMomentIn core (st.path ++ record { node = k; when = in_group_of h r } ∷ []) (in_copies core plan delays owned h copies) (owned_in (node_at stages r)) (number_at (suc k) stages r) (stage_at all r).from (stage_at all r).until cf b
        → is_among m owned ≡ true → is_done core b ≡ true → memory_of b ≡ m → (uses core m (node_at stages r) ≡ true) × (cf ≡ in_copies core plan delays owned h copies m)
    uses_fresh g m h r cf (touches f) l y o d e = (
      subst (λ z. uses core z (node_at stages r) ≡ true) e (uses_at core n stages r f.number f.mem right.named l y.from_on y.below y.named),
      y.copied (free (is_among f.mem (owned_in (node_at stages r))) refl) ∙ ap (in_copies core plan delays owned h copies) e,
    )
      where
        free : (t : Bool) → is_among f.mem (owned_in (node_at stages r)) ≡ t → is_among f.mem (owned_in (node_at stages r)) ≡ false
        free true z = absurd (true≢false (sym o ∙ subst (λ w. is_among w owned ≡ false) e (right.apart.within r f.mem z)))
        free false z = z
    uses_fresh g m h r cf (slices z) l y o d e = absurd (false≢true d)
    uses_fresh g m h r cf (renews x) l y o d e = absurd (true≢false (sym o ∙ subst (λ w. is_among w owned ≡ false) e (right.apart.within r x y)))
    uses_fresh g m h r cf (keeps x w) l y o d e = absurd (true≢false (sym o ∙ subst (λ z. is_among z owned ≡ false) e (right.apart.within r x y)))

    abbrev fresh_at : (g m : ℕ) → Stamped
    fresh_at g m = fresh core plan delays places runs p stages copies owned g m

    place_after : (m : ℕ) (b : Moment) → share_place core (renews m) b ≡ true → memory_of b ≡ m
    place_after m (touches f) e = sym (eqb-true _ _ e)
    place_after m (slices z) e = sym (eqb-true _ _ e)
    place_after m (renews x) e = sym (eqb-true _ _ e)
    place_after m (keeps x w) e = sym (eqb-true _ _ e)

    place_before : (m : ℕ) (a : Moment) → share_place core a (renews m) ≡ true → memory_of a ≡ m
    place_before m (touches f) e = eqb-true _ _ e
    place_before m (slices z) e = eqb-true _ _ e
    place_before m (renews x) e = eqb-true _ _ e
    place_before m (keeps x w) e = eqb-true _ _ e

    fresh_then : (g m h r : ℕ) → is_among m owned ≡ true → g ≤ h → (f : Stamped) → Here h r f → Clash core (fresh_at g m) f → g + least (used_slots core m stages slots) ≤ h + (slot_at places r).slot
    fresh_then g m h r o l f y c =
        let u = uses_fresh g m h r f.copy f.moment y.0.1 y.0.0 o c.second (place_after m f.moment c.place) in
        let a : least (used_slots core m stages slots) ≤ at r = first_under m r y.0.1 u.0 in
        let b : (slot_at places r).slot ≡ at r = slot_is r y.0.1 in
        omega arith

    then_fresh : (h s g m : ℕ) → is_among m owned ≡ true → h < g → g < length runs → (e : Stamped) → Here h s e → Clash core e (fresh_at g m) → h + (slot_at places s).slot < g + least (used_slots core m stages slots)
    then_fresh h s g m o l q e x c = elim (cases_Bool (is_once counters)) [
      | inl once ↦ let a : length runs ≤ 1 = few_runs once in absurd (omega arith)
      | inr loop ↦ (
          let u = uses_fresh g m h s e.copy e.moment x.0.1 x.0.0 o c.first (place_before m e.moment c.place) in
          let far : h + slots_between (used_slots core m stages slots) ≤ g = groups_apart loop h g m copies o l (sym u.1 ∙ c.copy) in
          let top : at s < slots_between (used_slots core m stages slots) + least (used_slots core m stages slots) = between m s x.0.1 u.0 in
          let b : (slot_at places s).slot ≡ at s = slot_is s x.0.1 in
          omega arith
          )
    ]

    module _ (planned : ArePlanned plan (suc k) stages) where
      told_here : (g s : ℕ) → Each (Here g s) (run_at runs g s).events
      told_here g s =
          subst (λ x. Each (λ e. Told core plan delays k st.path owned copies stages (suc k) n x s s (in_copies core plan delays owned x copies) e × (g < length runs)) (run_at runs g s).events) (let q : 0 + g ≡ g = omega arith in q)
          (table_told core plan delays k st.path owned copies stages n 0 runs (groups_in core plan delays stages k n 0 st owned copies values groups planned right.named) g s)

      pub all_precede : Pairs (AreMet core meets) (group_events core plan delays places runs p stages copies owned 0 runs) → RunsPrecede core plan delays places runs p stages copies owned
      all_precede met = record {
        in_turn = λ g s h r later. two_by (Here g s) (Here h r) (AreMet core meets) (λ e f. Conflicts core e f → Precedes places g s h r) (λ e f x y m c. two_precede g s h r later e f x y m c) (run_at runs g s).events (run_at runs h r).events (told_here g s) (told_here h r)
            (runs_met core meets plan delays places runs p stages copies owned 0 runs met g s h r later);
        fresh_first = λ g m h r o l. each_by (Here h r) (λ f. Clash core (fresh_at g m) f → g + least (used_slots core m stages slots) ≤ h + (slot_at places r).slot) (λ f y c. fresh_then g m h r o l f y c) (run_at runs h r).events (told_here h r);
        fresh_after = λ h s g m o l q. each_by (Here h s) (λ e. Clash core e (fresh_at g m) → h + (slot_at places s).slot < g + least (used_slots core m stages slots)) (λ e x c. then_fresh h s g m o l q e x c) (run_at runs h s).events (told_here h s);
        fresh_apart = λ g m h o l c. let e : m ≡ o = eqb-true m o c.place in let q : least (used_slots core m stages slots) ≡ least (used_slots core o stages slots) = ap (λ x. least (used_slots core x stages slots)) e in omega arith;
        fresh_alone = λ g. alone g owned right.distinct;
      }
        where
          alone : (g : ℕ) (ms : List ℕ) → Pairs (λ a b. a ≡ b → ⊥) ms → Pairs (λ a b. Clash core (fresh_at g a) (fresh_at g b) → fresh_beat core plan delays places runs p stages copies owned g a < fresh_beat core plan delays places runs p stages copies owned g b) ms
          alone g [] h = tt
          alone g (m ∷ ms) h = (each ms h.0, alone g ms h.1)
            where
              each : (ns : List ℕ) → Each (λ b. m ≡ b → ⊥) ns → Each (λ b. Clash core (fresh_at g m) (fresh_at g b) → fresh_beat core plan delays places runs p stages copies owned g m < fresh_beat core plan delays places runs p stages copies owned g b) ns
              each [] q = tt
              each (b ∷ ns) q = ((λ c. absurd (q.0 (eqb-true m b c.place))), each ns q.1)

pub overlaps_precede : (core : PlainCore) (plan : PlainPlan) (delays : Delays) → OverlapsPrecede core plan delays
overlaps_precede core plan delays meets k n st counters style owned stages slots chains right planned copies values groups few met =
    subst (λ q. RunsPrecede core plan delays (slots_of q) (group_runs core plan delays stages k n 0 st owned copies values groups) q stages copies owned) (sym right.planned)
    (all_precede core plan delays meets k n st counters style owned stages slots chains right copies values groups few planned
    (pairs_met core meets _
    (subst (λ q. are_met core meets (events_of (told (group_events core plan delays (slots_of q) (group_runs core plan delays stages k n 0 st owned copies values groups) q stages copies owned 0 (group_runs core plan delays stages k n 0 st owned copies values groups)))) ≡ true) right.planned met)))
