-- A loop that is closed behind its stages.
use Rattle.std.proofs.Common.{◌≡◌, ℕ, zero, suc, ◌+◌, ◌<◌, ◌≤◌, ◌^◌, inl, inr, ◌&&◌, nat_le, nat_lt, max, true, List, [], ◌∷◌, ◌++◌, length, slice_index, Contains, append_assoc, refl, sym, ◌∙◌, ap, subst, arith, Option}
use Rattle.std.proofs.lemmas.Bool.{cases_order, and_parts, leb-true}
use Rattle.std.proofs.lemmas.List.Elements.{Contains-append_right, Contains-append_left, Contains-append_cases}
use Rattle.std.specs.List.{list_all}
use Rattle.sp_words.specs.declared.kind.Style.{Style}
use Rattle.sp_netlist.specs.Draft.{Draft}
use Rattle.sp_netlist.specs.Signals.{Signals}
use Rattle.sp_gates.specs.Grows.{Grows, Fills}
use Rattle.sp_gates.specs.Runs.{RunsOn}
use Rattle.sp_gates.proofs.Growing.{HasNet-stays}
use Rattle.sp_gates.proofs.Running.{runs_earlier}
use Rattle.sp_core.specs.Around.{Around, lanes_of}
use Rattle.sp_core.specs.NodeRules.{are_counters_right, are_lanes_right}
use Rattle.sp_core.specs.Numbering.{counters_size}
use Rattle.sp_core.specs.OperationRules.{is_bound, is_counter_right}
use Rattle.sp_core.specs.PlainCore.{PlainCounter, PlainStages, outer, PlainCore}
use Rattle.sp_counters.specs.Counting.{CountsGroups}
use Rattle.sp_counters.specs.Fits.{AreCounted}
use Rattle.sp_beat_words.specs.Fits.{AreRows, row_nets}
use Rattle.sp_part_runs.specs.WordsLaws.{AreAsLong}
use Rattle.sp_part_runs.specs.SequencesPlaces.{AreArranged}
use Rattle.sp_time.specs.Beats.{slot_at}
use Rattle.sp_time.specs.Lists.{greatest}
use Rattle.sp_plan.specs.PlainPlan.{PlainPlan, PlainNodePlan, outer_plan, inner_plan, other_plan, node_plan}
use Rattle.sp_plan.specs.Validity.{stage_count}
use Rattle.sp_machine.specs.Timeline.{slots_from, slots_of, slot_numbers}
use Rattle.sp_stage_places.specs.Arranged.{arranged}
use Rattle.sp_plan_times.specs.Times.{StagesHaveTime}
use Rattle.sp_stage_places.specs.Planned.{StagesHavePlaces}
use Rattle.sp_node_runs.specs.BodiesLaws.{own_near}
use Rattle.sp_op_nets.specs.declared.acted.ActedList.{ActedList}
use Rattle.sp_op_nets.specs.declared.table.AroundNets.{AroundNets}
use Rattle.sp_op_nets.specs.Acted.{answers_in}
use Rattle.sp_op_nets.specs.Reserved.{Reserves}
use Rattle.sp_op_nets.specs.Table.{nets_at}
use Rattle.sp_op_nets.proofs.Reserving.{reserved_join}
use Rattle.sp_tree_circuits.specs.Circuits.{slot_nets, TakeWords}
use Rattle.sp_bound_nets.specs.Bounds.{AreCountersRight}
use Rattle.sp_loop_nets.specs.declared.opening.OpenLoop.{OpenLoop}
use Rattle.sp_loop_nets.specs.Fits.{counted_wires}
use Rattle.sp_loop_nets.specs.Laws.{RowsTakeWords}
use Rattle.sp_loop_nets.specs.Open.{HasBounds, LanesFit}
use Rattle.sp_loop_nets.proofs.Leaving.{left_reserved}
use Rattle.sp_loop_nets.proofs.Promising.{rows_stand_later}
use Rattle.sp_stage_members.specs.declared.part.StagePart.{StagePart}
use Rattle.sp_stage_members.specs.Circuits.{MembersAreCircuits, SingleLanesAreFirst, AreMasksOf, HaveLanes, masks_in}
use Rattle.sp_stage_members.specs.Members.{part_at, starts_in}
use Rattle.sp_loop_circuits.specs.Laws.{ArePartsOf}
use Rattle.sp_loop_circuits.specs.Loops.{IsClosed}
use Rattle.sp_tree_handed.specs.declared.moves.TreeMove.{TreeMove}
use Rattle.sp_tree_handed.specs.declared.owners.Keeping.{Keeping}
use Rattle.sp_tree_handed.specs.declared.owners.LoopTurns.{LoopTurns}
use Rattle.sp_tree_handed.proofs.Moving.{stage_ends_later}
use Rattle.sp_tree_handed.specs.Moves.{StagesHaveEnds}
use Rattle.sp_tree_nets.specs.Emitted.{CanEmit, IsTree}
use Rattle.sp_tree_nets.specs.Stages.{AreStages, CanEmitStages, StagesIn, AreDivided, to_one}
use Rattle.sp_tree_nets.proofs.Dividing.{ones_behind, others_behind, is_other, one_there, each_there, none_in_both}
use Rattle.sp_tree_nets.proofs.Later.{stand_later}
use Rattle.sp_tree_nets.proofs.Sides.{answers_append, node_right}

slot_from : (slots chains : List ℕ) (m : ℕ) → m < length (slots_from slots chains) → (slot_at (slots_from slots chains) m).slot ≡ slice_index slots m
slot_from [] chains m lt = absurd (omega (arith, lt))
slot_from (s ∷ slots) [] m lt = absurd (omega (arith, lt))
slot_from (s ∷ slots) (c ∷ chains) zero lt = refl
slot_from (s ∷ slots) (c ∷ chains) (suc m) lt = slot_from slots chains m (omega (arith, lt))

pub plan_slot : (p : PlainNodePlan) (m : ℕ) → m < length (slots_of p) → (slot_at (slots_of p) m).slot ≡ slice_index (slot_numbers p) m
plan_slot (outer_plan slots chains) m lt = slot_from slots chains m lt
plan_slot (inner_plan times ii latency serial) m lt = absurd (omega (arith, lt))
plan_slot other_plan m lt = absurd (omega (arith, lt))

most : (f : ℕ → ℕ) (n i : ℕ) → i < n → f i ≤ greatest f n
most f zero i lt = absurd (omega (arith, lt))
most f (suc n) i lt = elim (cases_order i n) [
  | inl e ↦ subst (λ j. f j ≤ max (greatest f n) (f n)) (sym e) (omega arith)
  | inr (inl q) ↦ let a : f i ≤ greatest f n = most f n i q in omega arith
  | inr (inr q) ↦ absurd (omega arith)
]

-- each slot of a stage has a row
pub slot_in : (p : PlainNodePlan) (places : List (List (List ℕ))) (rows : ℕ) → AreArranged places (slots_of p) → rows ≡ length places → (m : ℕ) → m < length (slots_of p) → slice_index (slot_numbers p) m < rows
slot_in p places rows arranged each m lt =
    let low = most (λ s. (slot_at (slots_of p) s).slot) (length (slots_of p)) m lt in
    let is = plan_slot p m lt in
    let long = arranged.each in
    omega (arith, low, is, long, each)

-- of counters that are right the last one has a lane
lanes_some : (core : PlainCore) (around : Around) (counters : List PlainCounter) → list_all (is_counter_right core around) counters ≡ true → 1 ≤ lanes_of counters
lanes_some core around [] h = omega arith
lanes_some core around (c ∷ []) h =
    let own = (and_parts (is_counter_right core around c) true h).0 in
    let both = and_parts (is_bound core around c.from && is_bound core around c.until) ((nat_le 1 c.by && nat_lt c.by (2 ^ 31)) && (nat_le 1 c.par && nat_le c.par 16)) own in
    let last = and_parts (nat_le 1 c.by && nat_lt c.by (2 ^ 31)) (nat_le 1 c.par && nat_le c.par 16) both.1 in
    leb-true 1 c.par (and_parts (nat_le 1 c.par) (nat_le c.par 16) last.1).0
lanes_some core around (c ∷ d ∷ rest) h = lanes_some core around (d ∷ rest) (and_parts (is_counter_right core around c) (list_all (is_counter_right core around) (d ∷ rest)) h).1

module _ (d : Draft) (core : PlainCore) (plan : PlainPlan) (table : List AroundNets) (ends : List (Option ℕ)) (counters : List PlainCounter) (style : Style) (owned : List ℕ) (stages : PlainStages) (k n : ℕ) (can : CanEmit d core plan table ends (outer counters style owned stages) k n) where
  rules : (are_counters_right core can.around counters ≡ true) × (are_lanes_right (lanes_of counters) stages ≡ true)
  rules = and_parts (are_counters_right core can.around counters) (are_lanes_right (lanes_of counters) stages) (node_right core can.around can.earlier (outer counters style owned stages) can.right.0)

  pub loop_rules : (1 ≤ lanes_of counters) × (are_lanes_right (lanes_of counters) stages ≡ true)
  loop_rules = (lanes_some core can.around counters (and_parts (nat_le (length counters) 4 && nat_le (length counters + length can.around.counters) 1000) (list_all (is_counter_right core can.around) counters) rules.0).1, rules.1)

  pub loop_counters : AreCountersRight d table counters
  loop_counters = record { core = core; around = can.around; right = (and_parts (nat_le (length counters) 4 && nat_le (length counters + length can.around.counters) 1000) (list_all (is_counter_right core can.around) counters) rules.0).1; stand = can.stand }

  pub loop_stages : (e : Draft) → Grows d e → CanEmitStages e core plan table ends counters stages (k + 1) (n + counters_size counters)
  loop_stages e g = record {
    around = can.around;
    owned = owned;
    earlier = can.earlier ++ owned;
    right = can.right.1;
    stand = stand_later d e table can.around.counters g can.stand;
    timed = can.timed.1;
    have_ends = subst (λ j. StagesHaveEnds e ends stages j) (omega arith) (stage_ends_later d e ends stages (suc k) g can.have_ends);
    times = subst (λ j. StagesHaveTime core plan stages j) (omega arith) can.times;
    places = subst (λ j. StagesHavePlaces plan stages j) (omega arith) can.places.1;
    planned = (let h = can.planned in omega (arith, h));
    nodes = (let h = can.nodes in omega (arith, h));
    numbers = (let h = can.numbers in omega (arith, h));
  }

own_masks : (counters : List PlainCounter) (begun : OpenLoop) → AreMasksOf counters begun.nets begun.rows.rows.items (masks_in begun.nets begun.rows.rows.items)
own_masks [] begun = tt
own_masks (c ∷ counters) begun = refl

module _ (a b c : Draft) (core : PlainCore) (plan : PlainPlan) (table : List AroundNets) (ends : List (Option ℕ)) (begun : OpenLoop) (counters : List PlainCounter) (stages : PlainStages) (slots : List ℕ) (k n : ℕ) (bs : List ActedList) (parts : List StagePart) (xs : List ActedList) (rs : List LoopTurns) (ks : List Keeping) (ms : List TreeMove)
    (was : Reserves a b (begun.part.step ∷ (answers_in bs ++ row_nets begun.rows.rows.items))) (st : AreStages b c core plan table ends begun counters stages slots (k + 1) (n + counters_size counters) parts xs rs ks ms) where
  pub all_reserved : Reserves a c (begun.part.step ∷ (answers_in bs ++ (row_nets begun.rows.rows.items ++ st.nets)))
  all_reserved =
      subst (λ ns. Reserves a c (begun.part.step ∷ ns)) (append_assoc (answers_in bs) (row_nets begun.rows.rows.items) st.nets)
      (reserved_join a b c (begun.part.step ∷ (answers_in bs ++ row_nets begun.rows.rows.items)) st.nets was st.reserves)

  pub all_divided : AreDivided (begun.part.step ∷ (answers_in bs ++ (row_nets begun.rows.rows.items ++ st.nets))) (begun.part.step ∷ (row_nets begun.rows.rows.items ++ starts_in parts)) (answers_in bs ++ answers_in xs)
  all_divided =
      to_one (others_behind (answers_in bs) (row_nets begun.rows.rows.items ++ st.nets) (row_nets begun.rows.rows.items ++ starts_in parts) (answers_in xs) (ones_behind (row_nets begun.rows.rows.items) st.nets (starts_in parts) (answers_in xs) st.divided))

  -- what drives the step last drives the same nets
  to_driven : (net : ℕ) → Contains (begun.part.step ∷ (row_nets begun.rows.rows.items ++ starts_in parts)) net → Contains (row_nets begun.rows.rows.items ++ (starts_in parts ++ begun.part.step ∷ [])) net
  to_driven net h =
      subst (λ ns. Contains ns net) (append_assoc (row_nets begun.rows.rows.items) (starts_in parts) (begun.part.step ∷ []))
      (elim (Contains-append_cases (begun.part.step ∷ []) (row_nets begun.rows.rows.items ++ starts_in parts) net h) [
        | inl x ↦ Contains-append_right (row_nets begun.rows.rows.items ++ starts_in parts) (begun.part.step ∷ []) net x
        | inr y ↦ Contains-append_left (row_nets begun.rows.rows.items ++ starts_in parts) (begun.part.step ∷ []) net y
      ])

  from_driven : (net : ℕ) → Contains (row_nets begun.rows.rows.items ++ (starts_in parts ++ begun.part.step ∷ [])) net → Contains (begun.part.step ∷ (row_nets begun.rows.rows.items ++ starts_in parts)) net
  from_driven net h =
      elim (Contains-append_cases (row_nets begun.rows.rows.items ++ starts_in parts) (begun.part.step ∷ []) net (subst (λ ns. Contains ns net) (sym (append_assoc (row_nets begun.rows.rows.items) (starts_in parts) (begun.part.step ∷ []))) h)) [
        | inl x ↦ Contains-append_right (begun.part.step ∷ []) (row_nets begun.rows.rows.items ++ starts_in parts) net x
        | inr y ↦ Contains-append_left (begun.part.step ∷ []) (row_nets begun.rows.rows.items ++ starts_in parts) net y
      ]

  pub loop_reserves : (d : Draft) (acted : List ActedList) → acted ≡ bs ++ xs → Fills c d (row_nets begun.rows.rows.items ++ (starts_in parts ++ begun.part.step ∷ [])) → Reserves a d (answers_in acted)
  loop_reserves d acted acted_is fills =
      subst (Reserves a d) (sym (answers_append bs xs) ∙ sym (ap answers_in acted_is))
      (left_reserved a c d (begun.part.step ∷ (answers_in bs ++ (row_nets begun.rows.rows.items ++ st.nets))) (row_nets begun.rows.rows.items ++ (starts_in parts ++ begun.part.step ∷ [])) (answers_in bs ++ answers_in xs) all_reserved fills (is_other _ _ _ all_divided)
      (λ net h. elim (each_there _ _ _ all_divided net h) [ inl x ↦ inl (to_driven net x) | inr y ↦ inr y ]) (λ net h. one_there _ _ _ all_divided net (from_driven net h))
      (λ net x y. none_in_both _ _ _ _ all_reserved.rise all_divided net (from_driven net x) y))

  module _ (right : are_lanes_right (lanes_of counters) stages ≡ true) (single : SingleLanesAreFirst) where
    pub loop_lanes : HaveLanes counters stages parts
    loop_lanes = record { firsts = st.firsts; lasts = st.lasts; single = λ e. single stages (subst (λ cs. are_lanes_right (lanes_of cs) stages ≡ true) e right) }

    module _ (lanes : LanesFit counters begun.part begun.nets) (wires : begun.rows.before.items ≡ counted_wires begun.nets) (rows : AreRows b begun.rows.before.items begun.rows.rows.items) where
      pub loop_parts : 1 ≤ lanes_of counters → AreCounted b begun.part begun.nets → AreAsLong (length begun.rows.before.items) begun.rows.rows.items → ArePartsOf c counters stages begun parts
      loop_parts some counted long = record {
        right = right;
        some = some;
        each = st.each;
        lanes = loop_lanes;
        fit = lanes;
        counted = λ i lt. HasNet-stays b c _ 1 st.reserves.grows (counted.masks i (let e = counted.lanes in omega (arith, lt, e)));
        wires = wires;
        rows = rows_stand_later b c begun.rows.before.items begun.rows.rows.items st.nets st.reserves rows;
        long = long;
        starts = st.awaits;
        dones = st.dones;
      }

      pub loop_is : (d : Draft) (places : List (List (List ℕ))) (firsts : List ℕ) (done : ℕ) (style : Style) (owned : List ℕ) (own : LoopTurns) → own.start ≡ begun.part.start → own.owned.items ≡ owned → own.firsts.items ≡ firsts → Grows c d → IsClosed d begun parts places firsts done → ((s : Signals) → RunsOn s b.cells → CountsGroups s begun.part begun.nets)
          → HasBounds a b table n counters begun.part.counters.items bs → length begun.rows.rows.items ≡ length places → AreArranged places (slots_of (node_plan plan k)) → length (slots_of (node_plan plan k)) ≡ stage_count stages
          → slots ≡ slot_numbers (node_plan plan k) → MembersAreCircuits → RowsTakeWords → IsTree a d core plan table ends (outer counters style owned stages) k n (record { start = begun.part.start; done = done }) (bs ++ xs)
          (own ∷ rs) ks ms
      loop_is d places firsts done style owned own start_is owned_are firsts_are g closed counts has each arranged size slots_are members taken around earlier is stand s run =
          let p = node_plan plan k in
          let at_c = runs_earlier c d s g run in
          let at_b = runs_earlier b c s st.reserves.grows at_c in
          let counters_right = (and_parts (are_counters_right core around counters) (are_lanes_right (lanes_of counters) stages) (node_right core around earlier (outer counters style owned stages) is.0)).0 in
          let every = (and_parts (nat_le (length counters) 4 && nat_le (length counters + length around.counters) 1000) (list_all (is_counter_right core around) counters) counters_right).1 in
          let bounded = runs_earlier has.draft b s has.grows at_b in
          let bounds = has.bounds core plan around every stand s bounded in
          let nets = λ (i : ℕ). slot_nets begun.nets begun.rows.rows.items (nets_at table) counters (slot_at (slots_of p) i).slot in
          let child = λ (i : ℕ). (part_at parts i).child in
          let inside =
          subst (λ j. StagesIn core plan s ends (own_near counters around.counters) stages j (n + counters_size counters) 0 nets child xs rs ks ms) (omega arith)
          (st.trees around (earlier ++ owned) owned is.1 (stand_later a b table around.counters was.grows stand) s at_c 0 nets child
          (λ m at e lt. ap (λ x. slot_nets begun.nets begun.rows.rows.items (nets_at table) counters x) (ap (λ q. (slot_at (slots_of p) q).slot) (plain_at m at e) ∙ plan_slot p m (let z = size in omega (arith, lt, z)) ∙ ap (λ ss. slice_index ss m) (sym slots_are)))
          (λ m at e lt. ap child (plain_at m at e))) in
          record {
            circuit = record {
              part = begun.part;
              nets = begun.nets;
              before = begun.rows.before.items;
              rows = begun.rows.rows.items;
              slots = closed.slots;
              firsts = firsts;
              places = places;
              child = child;
              start = refl;
              counts = counts s at_b;
              circuit = closed.beats s run;
              draft = has.draft;
              runs_on = bounded;
              bounds = bounds.circuits;
              words = subst (TakeWords s counters begun.part begun.nets begun.rows.before.items begun.rows.rows.items) each (taken b s begun.part begun.nets begun.rows.before.items begun.rows.rows.items counters wires lanes rows (closed.moves s run));
              arranged = arranged;
              size = size;
              shaped = closed.shaped;
              members = members d counters stages begun.nets begun.rows.rows.items (masks_in begun.nets begun.rows.rows.items) parts places closed.slots loop_lanes (own_masks counters begun) closed.members s run;
              parts = inside.circuits;
            };
            handed = record { bounds = bs; inside = xs; all = refl; bound = bounds.acts; stand = inside.handed };
            owners = record { own = own; rest = rs; turns_are = refl; start_is = start_is; owned_are = owned_are; firsts_are = firsts_are; stages = inside.owners };
            moved = inside.moved;
          }
        where
          plain_at : (m at : ℕ) → at ≡ 0 + m → at ≡ m
          plain_at m at e = omega (arith, e)
