-- What happens in a run happens within it.
use Rattle.std.proofs.Common.{◌≡◌, ℕ, zero, suc, ◌+◌, ◌*◌, ◌<◌, ◌≤◌, Bool, true, false, cond, ℤ, List, [], ◌∷◌, ◌++◌, map, take, length, arith, refl, sym, subst, ap, ◌∙◌}
use Rattle.std.proofs.Math.Nat.{mul-le-mul_right}
use Rattle.std.specs.Prelude.{◌/◌, flat_map, slice_index, slice_index_or}
use Rattle.sp_core.specs.Cost.{waits, greatest_of}
use Rattle.sp_core.specs.Declarations.{kind_of}
use Rattle.sp_core.specs.Events.{Standing, inside_at, before, in_group_of, in_turn, Moment, slices, first_of, bounds_moments, spans_moments, rows_turn, renewal_in_body, moments}
use Rattle.sp_core.specs.History.{Entry, last_word, History, Groups, Runs, Turns, inner_ran, outer_ran, fsm_ran, branch_ran, moved, no_group, more_group, no_run, masked_run, more_run, no_turn, more_turn}
use Rattle.sp_core.specs.Latency.{latency, latency_of_all}
use Rattle.sp_core.specs.Numbering.{counters_size, spans_size, node_count, number_count}
use Rattle.sp_core.specs.PlainCore.{PlainOp, PlainNode, PlainStages, inner, outer, fsm, branch, load, store, sparse, no_stage, more_stage, PlainCore}
use Rattle.sp_core.specs.Scope.{in_lanes, loops_of, group_values}
use Rattle.sp_core.specs.Transfers.{Part, part_of, lengths, has_none, all_offsets}
use Rattle.sp_plan.specs.PlainPlan.{PlainNodePlan, inner_plan, outer_plan, other_plan, PlainPlan, node_plan}
use Rattle.sp_plan.specs.Copies.{used_slots}
use Rattle.sp_plan.specs.Named.{uses}
use Rattle.sp_plan.specs.Validity.{stage_count}
use Rattle.sp_time.specs.Beats.{Slot, Run, slot_at, no_time, took_at, run_at, starts, begins, first_cycle, whole}
use Rattle.sp_time.specs.Lists.{Each, total, greatest}
use Rattle.sp_machine.specs.Stamps.{Stamped, Copies, stamped, later, list_stamped, in_a_row, ◌▸◌, inside_of, list_run, kept_run}
use Rattle.sp_machine.specs.Timeline.{timed, group_runs, stage_runs, turn_runs, body_events, issued, issued_by, inner_took, interval_of, latency_of, times_of, least, slots_from, slots_of, first_slot, fresh_events, stage_events, group_events, in_copies}
use Rattle.sp_machine.specs.Told.{HasSlots, IsPlanned, ArePlanned, AreTimesKept, IsKept, AreKept}
use Rattle.sp_machine.specs.Transfers.{Delays, word_cycle, look_cycle, transfer_took, load_stamped, store_stamped, slice_stamped}
use Rattle.sp_time.proofs.ListLemmas.{total_mono, greatest_ge}
use Rattle.sp_time.proofs.Whole.{beats_in_order}
use Rattle.sp_machine.proofs.AtOnce.{by_pace}
use Rattle.sp_machine.proofs.Beats.{slots_length, slot_of_stage}

-- before a cycle
abbrev pub Before : ℕ → List Stamped → Type 0
Before n events = Each (λ e. e.cycle < n) events

pub before_append : (n : ℕ) (a b : List Stamped) → Before n a → Before n b → Before n (a ++ b)
before_append n [] b h k = k
before_append n (e ∷ a) b h k = (h.0, before_append n a b h.1 k)

pub before_stamped : (n : ℕ) (copies : Copies) (cycle : ℕ) (ms : List Moment) → cycle < n → Before n (stamped copies cycle ms)
before_stamped n copies cycle [] l = tt
before_stamped n copies cycle (m ∷ ms) l = (l, before_stamped n copies cycle ms l)

pub before_later : (n by : ℕ) (es : List Stamped) → Before n es → Before (by + n) (later by es)
before_later n by [] h = tt
before_later n by (e ∷ es) h = (let a : e.cycle < n = h.0 in omega arith, before_later n by es h.1)

pub before_more : (n m : ℕ) (es : List Stamped) → n ≤ m → Before n es → Before m es
before_more n m [] l h = tt
before_more n m (e ∷ es) l h = (let a : e.cycle < n = h.0 in omega arith, before_more n m es l h.1)

-- operations of a list, each before a cycle
before_list : (n : ℕ) (copies : Copies) (f : ℕ → ℕ) (i number : ℕ) (st : Standing) (ops : List PlainOp) (es : List Entry) → ((j : ℕ) → f j < n) → Before n (list_stamped copies f i number st ops es)
before_list n copies f i number st (op ∷ ops) (e ∷ es) h = before_append n _ _ (before_stamped n copies (f i) _ (h i)) (before_list n copies f (suc i) (suc number) st ops es h)
before_list n copies f i number st [] es h = tt
before_list n copies f i number st (op ∷ ops) [] h = tt

-- runs after each other and inside of a controller
before_then : (a b : Run Stamped) → Before a.took a.events → Before b.took b.events → Before (a ▸ b).took (a ▸ b).events
before_then a b h k = before_append _ a.events (later a.took b.events) (before_more a.took (a.took + b.took) a.events (omega arith) h) (before_later b.took a.took b.events k)

before_inside : (r : Run Stamped) → Before r.took r.events → Before (inside_of r).took (inside_of r).events
before_inside r h = before_more (1 + r.took) (2 + r.took) (later 1 r.events) (omega arith) (before_later r.took 1 r.events h)

module _ (core : PlainCore) where
  front_less : (ops : List PlainOp) (i : ℕ) → latency_of_all core (take i ops) ≤ latency_of_all core ops
  front_less ops zero = omega arith
  front_less [] (suc i) = omega arith
  front_less (op ∷ ops) (suc i) = let a : latency_of_all core (take i ops) ≤ latency_of_all core ops = front_less ops i in omega arith

  pub before_row : (copies : Copies) (number : ℕ) (st : Standing) (ops : List PlainOp) (es : List Entry) → Before (list_run core copies number st ops es).took (list_run core copies number st ops es).events
  before_row copies number st ops es = before_list _ copies (in_a_row core ops) 0 number st ops es (λ j. let a : latency_of_all core (take j ops) ≤ latency_of_all core ops = front_less ops j in omega arith)

  pub before_kept : (copies : Copies) (number : ℕ) (st : Standing) (ops : List PlainOp) (es : List Entry) (state word : ℕ) → Before (kept_run core copies number st ops es state word).took (kept_run core copies number st ops es state word).events
  before_kept copies number st ops es state word = before_append _ _ _ (before_row copies number st ops es) (omega arith, tt)

-- the words of a transfer
module _ (delay : ℕ → ℕ) (w : ℕ) where
  asks_enough : (j : ℕ) → j < w → j / 16 + 1 ≤ waits w
  asks_enough j l = omega arith

  word_before : (j : ℕ) → j < w → suc (word_cycle delay j) < transfer_took delay w
  word_before j l = let a : total delay (j / 16 + 1) ≤ total delay (waits w) = total_mono delay _ _ (asks_enough j l) in omega arith

  look_before : (j : ℕ) → j < w → look_cycle delay j < transfer_took delay w
  look_before zero l = omega arith
  look_before (suc zero) l = omega arith
  look_before (suc (suc j)) l = let a : suc (word_cycle delay j) < transfer_took delay w = word_before j (omega arith) in omega arith

module _ (core : PlainCore) (delay : ℕ → ℕ) (copies : Copies) (n : ℕ) (st : Standing) (r m : ℕ) (parts : List Part) (w : ℕ) where
  loads_before : (j : ℕ) (offsets : List (List ℕ)) (words : List ℕ) → j + length words ≤ w → Before (transfer_took delay w) (load_stamped delay core copies n st r m parts j offsets words)
  loads_before j (o ∷ offsets) (x ∷ words) l =
      let a : suc (word_cycle delay j) < transfer_took delay w = word_before delay w j (omega arith) in
      (omega arith, (a, loads_before (suc j) offsets words (omega arith)))
  loads_before j [] words l = tt
  loads_before j (o ∷ offsets) [] l = tt

  stores_before : (j : ℕ) (offsets : List (List ℕ)) (words : List ℕ) → j + length words ≤ w → Before (transfer_took delay w) (store_stamped delay core copies n st r m parts j offsets words)
  stores_before j (o ∷ offsets) (x ∷ words) l =
      let a : suc (word_cycle delay j) < transfer_took delay w = word_before delay w j (omega arith) in
      (look_before delay w j (omega arith), (omega arith, stores_before (suc j) offsets words (omega arith)))
  stores_before j [] words l = tt
  stores_before j (o ∷ offsets) [] l = tt

  slice_before : (es : List Stamped) → Before (transfer_took delay w) es → Before (transfer_took delay w) (slice_stamped delay core copies n st parts es)
  slice_before es h = go (has_none (lengths parts))
    where
      asked : Moment
      asked = slices (record { number = n; standing = st; firsts = map first_of parts; lengths = lengths parts })

      go : (b : Bool) → Before (transfer_took delay w) (elim b as (λ _. List Stamped) [ true ↦ [] | false ↦ stamped copies 1 (asked ∷ []) ++ es ])
      go true = tt
      go false = (omega arith, h)

-- the groups of an inner body
time_under : (ts : List ℕ) (n : ℕ) → Each (λ t. t ≤ n) ts → (i : ℕ) → slice_index ts i ≤ n
time_under [] n h i = omega arith
time_under (t ∷ ts) n h zero = h.0
time_under (t ∷ ts) n h (suc i) = time_under ts n h.1 i

plan_time : (p : PlainNodePlan) → AreTimesKept p → (i : ℕ) → slice_index (times_of p) i ≤ latency_of p
plan_time (inner_plan times ii latency serial) h i = time_under times latency h i
plan_time (outer_plan slots chains) h i = omega arith
plan_time other_plan h i = omega arith

issue_before : (g n ii l : ℕ) → g < n → 1 + g * ii + l < inner_took n ii l
issue_before g zero ii l h = absurd (omega (arith, h))
issue_before g (suc n) ii l h = let a : g * ii ≤ n * ii = mul-le-mul_right ii (omega (arith, h)) in omega arith

module _ (core : PlainCore) (plan : PlainPlan) (delays : Delays) where
  body_before : (p : PlainNodePlan) → AreTimesKept p → (copies : Copies) (k number g all : ℕ) (st : Standing) (owned : List ℕ) (ops : List PlainOp) (values : List (List ℤ)) (groups : List (List Entry)) → g + length groups ≤ all
      → Before (inner_took all (interval_of p) (latency_of p)) (body_events core plan delays p copies k number g st owned ops values groups)
  body_before p h copies k number g all st owned ops (v ∷ values) (es ∷ groups) l =
      let top : 1 + g * interval_of p + latency_of p < inner_took all (interval_of p) (latency_of p) = issue_before g all (interval_of p) (latency_of p) (omega arith) in
      before_append _ _ _
      (before_append _ _ _ (before_stamped _ copies (issued core plan delays p g) (flat_map (renewal_in_body core) owned) (omega arith))
      (before_list _ copies _ 0 number (inside_at st k (in_group_of g 0) v) ops es (λ j. let a : slice_index (times_of p) j ≤ latency_of p = plan_time p h j in omega arith)))
      (body_before p h copies k number (suc g) all st owned ops values groups (omega arith))
  body_before p h copies k number g all st owned ops [] groups l = tt
  body_before p h copies k number g all st owned ops (v ∷ values) [] l = tt

-- the slots of a plan, and the first one that uses a memory
least_first : (n : ℕ) (ns : List ℕ) → least (n ∷ ns) ≤ n
least_first n [] = omega arith
least_first n (m ∷ ns) = omega arith

greatest_of_under : (ns : List ℕ) (top : ℕ) → ((i : ℕ) → i < length ns → slice_index ns i ≤ top) → greatest_of ns ≤ top
greatest_of_under [] top h = omega arith
greatest_of_under (n ∷ ns) top h =
    let a : n ≤ top = h 0 (omega arith) in
    let b : greatest_of ns ≤ top = greatest_of_under ns top (λ i l. h (suc i) (omega arith)) in
    omega arith

abbrev pub last_slot : List Slot → ℕ
last_slot slots = greatest (λ s. (slot_at slots s).slot) (length slots)

slots_reach : (slots chains : List ℕ) → length slots ≡ length chains → greatest_of slots ≤ last_slot (slots_from slots chains)
slots_reach slots chains e = greatest_of_under slots _ (λ i l.
    subst (λ n. n ≤ last_slot (slots_from slots chains)) (slot_of_stage slots chains i e l)
    (greatest_ge (λ s. (slot_at (slots_from slots chains) s).slot) (length (slots_from slots chains)) i (subst (λ n. i < n) (sym (slots_length slots chains e)) l)))

module _ (core : PlainCore) where
  used_under : (m : ℕ) (stages : PlainStages) (slots : List ℕ) → Each (λ n. n ≤ greatest_of slots) (used_slots core m stages slots)
  used_under m (more_stage first last comb node rest) (s ∷ slots) = go (used_under m rest slots) (uses core m node)
    where
      rise : (ns : List ℕ) → Each (λ n. n ≤ greatest_of slots) ns → Each (λ n. n ≤ greatest_of (s ∷ slots)) ns
      rise [] h = tt
      rise (n ∷ ns) h = (let a : n ≤ greatest_of slots = h.0 in omega arith, rise ns h.1)

      go : Each (λ n. n ≤ greatest_of slots) (used_slots core m rest slots) → (b : Bool) → Each (λ n. n ≤ greatest_of (s ∷ slots)) (cond b (s ∷ []) [] ++ used_slots core m rest slots)
      go h true = (omega arith, rise _ h)
      go h false = rise _ h
  used_under m (more_stage first last comb node rest) [] = tt
  used_under m no_stage slots = tt

least_under : (ns : List ℕ) (top : ℕ) → Each (λ n. n ≤ top) ns → least ns ≤ top
least_under [] top h = omega arith
least_under (n ∷ ns) top h = let a : least (n ∷ ns) ≤ n = least_first n ns in let b : n ≤ top = h.0 in omega arith

-- a beat that is one of a loop's begins within it
beat_within : (slots : List Slot) (took : ℕ → ℕ → ℕ) (groups b : ℕ) → b < groups + last_slot slots → 0 < groups → first_cycle slots took b < whole slots took groups
beat_within slots took zero b l p = absurd (omega arith)
beat_within slots took (suc n) b l p = let a : begins slots took b ≤ begins slots took (suc n + last_slot slots) = total_mono _ b (suc n + last_slot slots) (omega arith) in omega arith

-- the first slot of a memory is one of the plan's
pub first_under : (core : PlainCore) (plan : PlainPlan) (delays : Delays) (p : PlainNodePlan) (n : ℕ) → HasSlots p n → (stages : PlainStages) (m : ℕ) → first_slot core plan delays p stages m ≤ last_slot (slots_of p)
first_under core plan delays (outer_plan slots chains) n h stages m =
    let a : least (used_slots core m stages slots) ≤ greatest_of slots = least_under _ (greatest_of slots) (used_under core m stages slots) in
    let b : greatest_of slots ≤ last_slot (slots_from slots chains) = slots_reach slots chains (h.0 ∙ sym h.1) in
    omega arith
first_under core plan delays (inner_plan times ii latency serial) n h stages m = absurd h
first_under core plan delays other_plan n h stages m = absurd h

pub slot_count : (p : PlainNodePlan) (n : ℕ) → HasSlots p n → length (slots_of p) ≡ n
slot_count (outer_plan slots chains) n h = slots_length slots chains (h.0 ∙ sym h.1) ∙ h.0
slot_count (inner_plan times ii latency serial) n h = absurd h
slot_count other_plan n h = absurd h

-- runs, each of which is over when it says
abbrev pub RowWithin : List (Run Stamped) → Type 0
RowWithin row = Each (λ r. Before r.took r.events) row

abbrev pub TableWithin : ℕ → List (List (Run Stamped)) → Type 0
TableWithin n rows = Each (λ row. (length row ≤ n) × RowWithin row) rows

module _ (core : PlainCore) (plan : PlainPlan) (delays : Delays) (slots : List Slot) (runs : List (List (Run Stamped))) where
  abbrev all_took : ℕ
  all_took = whole slots (took_at runs) (length runs)

  stages_before : (g s : ℕ) (row : List (Run Stamped)) → g < length runs → s + length row ≤ length slots → ((i : ℕ) → run_at runs g (s + i) ≡ slice_index_or row i no_time) → RowWithin row → Before all_took (stage_events core plan delays slots runs g s row)
  stages_before g s [] l m same h = tt
  stages_before g s (r ∷ row) l m same h =
      let here : took_at runs g s ≡ r.took = ap (λ (x : Run Stamped). x.took) (ap (run_at runs g) (let e : s ≡ s + 0 = omega arith in e) ∙ same 0) in
      let within : starts slots (took_at runs) g s + took_at runs g s < all_took = (beats_in_order slots (took_at runs)).within (length runs) g s l (omega arith) in
      before_append all_took _ _
      (before_more (starts slots (took_at runs) g s + r.took) all_took _ (omega arith) (before_later r.took (starts slots (took_at runs) g s) r.events h.0))
      (stages_before g (suc s) row l (omega arith) (λ i. ap (run_at runs g) (let e : suc s + i ≡ s + suc i = omega arith in e) ∙ same (suc i)) h.1)

  fresh_before : (p : PlainNodePlan) (n : ℕ) → HasSlots p n → slots ≡ slots_of p → (stages : PlainStages) (copies : Copies) (g : ℕ) → g < length runs → (owned : List ℕ) → Before all_took (fresh_events core plan delays slots runs p stages copies g owned)
  fresh_before p n h e stages copies g l [] = tt
  fresh_before p n h e stages copies g l (m ∷ owned) =
      let a : first_slot core plan delays p stages m ≤ last_slot slots = subst (λ x. first_slot core plan delays p stages m ≤ last_slot x) (sym e) (first_under core plan delays p n h stages m) in
      (beat_within slots (took_at runs) (length runs) (g + first_slot core plan delays p stages m) (omega arith) (omega arith), fresh_before p n h e stages copies g l owned)

  groups_before : (p : PlainNodePlan) (n : ℕ) → HasSlots p n → slots ≡ slots_of p → (stages : PlainStages) (copies : Copies) (owned : List ℕ) (g : ℕ) (rows : List (List (Run Stamped))) → g + length rows ≤ length runs
      → ((i : ℕ) → slice_index_or runs (g + i) [] ≡ slice_index_or rows i []) → TableWithin n rows → Before all_took (group_events core plan delays slots runs p stages copies owned g rows)
  groups_before p n h e stages copies owned g [] l same t = tt
  groups_before p n h e stages copies owned g (row ∷ rows) l same t =
      let row_is : slice_index_or runs g [] ≡ row = ap (λ j. slice_index_or runs j []) (let q : g ≡ g + 0 = omega arith in q) ∙ same 0 in
      let few : length row ≤ n = t.0.0 in
      let count : length slots ≡ n = ap length e ∙ slot_count p n h in
      before_append all_took _ _
      (before_append all_took _ _ (fresh_before p n h e stages (in_copies core plan delays owned g copies) g (omega arith) owned)
      (stages_before g 0 row (omega arith) (omega arith) (λ i. ap (run_at runs g) (let q : 0 + i ≡ i = omega arith in q) ∙ ap (λ x. slice_index_or x i no_time) row_is) t.0.1))
      (groups_before p n h e stages copies owned (suc g) rows (omega arith) (λ i. ap (λ j. slice_index_or runs j []) (let q : suc g + i ≡ g + suc i = omega arith in q) ∙ same (suc i)) t.1)

whole_some : (slots : List Slot) (took : ℕ → ℕ → ℕ) (groups : ℕ) → 0 < whole slots took groups
whole_some slots took groups = omega arith

issued_kept : (core : PlainCore) (ops : List PlainOp) (p : PlainNodePlan) → AreTimesKept p → AreTimesKept (issued_by core ops p)
issued_kept core ops p h = by_pace core ops p AreTimesKept (λ z w. at_once p z h) h
  where
    at_once : (p : PlainNodePlan) → latency_of p ≡ 0 → AreTimesKept p → Each (λ t. t ≤ 0) (times_of p)
    at_once (inner_plan times ii latency serial) z h = subst (λ l. Each (λ t. t ≤ l) times) z h
    at_once (outer_plan slots chains) z h = tt
    at_once other_plan z h = tt

inner_some : (n ii l : ℕ) → 0 < inner_took n ii l
inner_some zero ii l = omega arith
inner_some (suc n) ii l = omega arith

module _ (core : PlainCore) (plan : PlainPlan) (delays : Delays) where
  mutual
    unfolding timed group_runs stage_runs turn_runs moments

    pub node_within : (node : PlainNode) (k n : ℕ) (st : Standing) (copies : Copies) (h : History) → IsPlanned plan k node → IsKept plan k node → Before (timed core plan delays node k n st copies h).took (timed core plan delays node k n st copies h).events
    node_within (inner counters owned ops comb) k n st copies (inner_ran bs counts groups) p q =
        let r : PlainNodePlan = issued_by core ops (node_plan plan k) in
        before_append _ _ _ (before_stamped _ copies 0 (bounds_moments n (inside_at st k before []) counters bs) (inner_some (length groups) (interval_of r) (latency_of r)))
        (body_before core plan delays r (issued_kept core ops (node_plan plan k) q) copies k (n + counters_size counters) 0 (length groups) st owned ops (group_values (loops_of in_lanes counters bs)) groups (omega arith))
    node_within (outer counters style owned stages) k n st copies (outer_ran bs counts groups) p q =
        let runs = group_runs core plan delays stages k (n + counters_size counters) 0 st owned copies (group_values (loops_of in_lanes counters bs)) groups in
        let slots : List Slot = slots_of (node_plan plan k) in
        before_append _ _ _ (before_stamped _ copies 0 (bounds_moments n (inside_at st k before []) counters bs) (whole_some slots (took_at runs) (length runs)))
        (groups_before core plan delays slots runs (node_plan plan k) (stage_count stages) p.1 refl stages copies owned 0 runs (omega arith) (λ i. ap (λ j. slice_index_or runs j []) (let q : 0 + i ≡ i = omega arith in q))
        (groups_within stages k (n + counters_size counters) 0 st owned copies (group_values (loops_of in_lanes counters bs)) groups p.2 q))
    node_within (fsm start state test body next) k n st copies (fsm_ran first ts last) p q =
        before_inside _ (before_then (kept_run core copies n (inside_at st k before []) start first state (last_word first)) (turn_runs core plan delays start state test body next k n 0 st copies ts last)
        (before_kept core copies n (inside_at st k before []) start first state (last_word first)) (turns_within start state test body next k n 0 st copies ts last p q))
    node_within (branch test first second) k n st copies (branch_ran es true h) p q =
        before_inside _ (before_then (list_run core copies n (inside_at st k (in_turn 0) []) test es) (timed core plan delays first (suc k) (n + length test) (inside_at st k (in_turn 0) []) copies h)
        (before_row core copies n (inside_at st k (in_turn 0) []) test es) (node_within first (suc k) (n + length test) (inside_at st k (in_turn 0) []) copies h p.0 q.0))
    node_within (branch test first second) k n st copies (branch_ran es false h) p q =
        before_inside _ (before_then (list_run core copies n (inside_at st k (in_turn 0) []) test es) (timed core plan delays second (suc k + node_count first) (n + (length test + number_count first)) (inside_at st k (in_turn 0) []) copies h)
        (before_row core copies n (inside_at st k (in_turn 0) []) test es) (node_within second (suc k + node_count first) (n + (length test + number_count first)) (inside_at st k (in_turn 0) []) copies h p.1 q.1))
    node_within (load r m spans) k n st copies (moved taken words) p q =
        before_append _ _ _ (before_stamped _ copies 0 (spans_moments n st spans taken) (omega arith))
        (slice_before core (delays k st.path) copies (n + spans_size spans) st r m (map part_of taken) (length words) _
        (before_append _ _ _ (before_stamped _ copies 1 (rows_turn core (n + spans_size spans) st (kind_of core m) m) (omega arith))
        (loads_before core (delays k st.path) copies (n + spans_size spans) st r m (map part_of taken) (length words) 0 (all_offsets (map part_of taken)) words (omega arith))))
    node_within (store r m spans) k n st copies (moved taken words) p q =
        before_append _ _ _ (before_stamped _ copies 0 (spans_moments n st spans taken) (omega arith))
        (slice_before core (delays k st.path) copies (n + spans_size spans) st r m (map part_of taken) (length words) _
        (stores_before core (delays k st.path) copies (n + spans_size spans) st r m (map part_of taken) (length words) 0 (all_offsets (map part_of taken)) words (omega arith)))
    node_within (sparse kind r m places spans count par) k n st copies h p q = absurd p
    node_within node k n st copies h p q = tt

    pub groups_within : (stages : PlainStages) (k n g : ℕ) (st : Standing) (owned : List ℕ) (copies : Copies) (values : List (List ℤ)) (groups : Groups) → ArePlanned plan (suc k) stages → AreKept plan (suc k) stages
        → TableWithin (stage_count stages) (group_runs core plan delays stages k n g st owned copies values groups)
    groups_within stages k n g st owned copies (v ∷ values) (more_group rs rest) p q =
        (stages_within stages k n 0 g (suc k) v st (in_copies core plan delays owned g copies) rs p q, groups_within stages k n (suc g) st owned copies values rest p q)
    groups_within stages k n g st owned copies [] groups p q = tt
    groups_within stages k n g st owned copies (v ∷ values) no_group p q = tt

    stages_within : (stages : PlainStages) (k n s g j : ℕ) (v : List ℤ) (st : Standing) (copies : Copies) (rs : Runs) → ArePlanned plan j stages → AreKept plan j stages
        → (length (stage_runs core plan delays stages k n s g j v st copies rs) ≤ stage_count stages) × RowWithin (stage_runs core plan delays stages k n s g j v st copies rs)
    stages_within (more_stage first last comb node rest) k n s g j v st copies (more_run h rs) p q =
        let others = stages_within rest k (n + number_count node) (suc s) g (j + node_count node) v st copies rs p.1 q.1 in (
          let a : length (stage_runs core plan delays rest k (n + number_count node) (suc s) g (j + node_count node) v st copies rs) ≤ stage_count rest = others.0 in omega arith,
          (node_within node j n (inside_at st k (in_group_of g s) v) copies h p.0 q.0, others.1),
        )
    stages_within (more_stage first last comb node rest) k n s g j v st copies (masked_run rs) p q =
        let others = stages_within rest k (n + number_count node) (suc s) g (j + node_count node) v st copies rs p.1 q.1 in
        (let a : length (stage_runs core plan delays rest k (n + number_count node) (suc s) g (j + node_count node) v st copies rs) ≤ stage_count rest = others.0 in omega arith, (tt, others.1))
    stages_within (more_stage first last comb node rest) k n s g j v st copies no_run p q = (omega arith, tt)
    stages_within no_stage k n s g j v st copies rs p q = (omega arith, tt)

    turns_within : (start : List PlainOp) (state : ℕ) (test : List PlainOp) (body : PlainNode) (next : List PlainOp) (k n t : ℕ) (st : Standing) (copies : Copies) (ts : Turns) (last : List Entry) → IsPlanned plan (suc k) body → IsKept plan (suc k) body
        → Before (turn_runs core plan delays start state test body next k n t st copies ts last).took (turn_runs core plan delays start state test body next k n t st copies ts last).events
    turns_within start state test body next k n t st copies no_turn last p q = before_row core copies (n + length start) (inside_at st k (in_turn t) []) test last
    turns_within start state test body next k n t st copies (more_turn es h ns rest) last p q =
        let at : Standing = inside_at st k (in_turn t) [] in
        let tested : Run Stamped = list_run core copies (n + length start) at test es in
        let body_run : Run Stamped = timed core plan delays body (suc k) (n + (length start + length test)) at copies h in
        let next_run : Run Stamped = kept_run core copies (n + (length start + (length test + number_count body))) at next ns state (last_word ns) in
        let others : Run Stamped = turn_runs core plan delays start state test body next k n (suc t) st copies rest last in
        before_then tested (body_run ▸ next_run ▸ others) (before_row core copies (n + length start) at test es)
        (before_then body_run (next_run ▸ others) (node_within body (suc k) (n + (length start + length test)) at copies h p q)
        (before_then next_run others (before_kept core copies (n + (length start + (length test + number_count body))) at next ns state (last_word ns)) (turns_within start state test body next k n (suc t) st copies rest last p q)))
