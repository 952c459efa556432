-- The counters of a body, with their bounds.
use Rattle.std.proofs.Common.{◌≡◌, ℕ, zero, suc, ◌+◌, ◌<◌, ◌≤◌, ◌==◌, true, List, [], ◌∷◌, ◌++◌, map, length, take, slice_index, slice_index_or, All, refl, sym, ◌∙◌, ap, subst, arith}
use Rattle.std.proofs.lemmas.Bool.{eqb-true}
use Rattle.std.proofs.lemmas.List.{take_more, map-append, append-nil}
use Rattle.sp_netlist.specs.Draft.{Draft}
use Rattle.sp_netlist.specs.Signals.{Signals}
use Rattle.sp_gates.specs.Grows.{Grows, Fills, Opens}
use Rattle.sp_gates.specs.Nets.{HasNet, Awaits}
use Rattle.sp_gates.specs.Runs.{RunsOn}
use Rattle.sp_gates.proofs.Growing.{Grows-join, HasNet-stays}
use Rattle.sp_gates.proofs.Running.{runs_earlier}
use Rattle.sp_core.specs.declared.node.CoreCounter.{CoreCounter}
use Rattle.sp_core.specs.Around.{Near, lanes_of}
use Rattle.sp_core.specs.Plain.{plain_counter}
use Rattle.sp_core.specs.PlainCore.{PlainCounter, PlainCore}
use Rattle.sp_counters.specs.declared.part.Count.{Count}
use Rattle.sp_counters.specs.declared.part.Counter.{Counter}
use Rattle.sp_counters.specs.declared.part.Counters.{Counters}
use Rattle.sp_counters.specs.declared.part.Counted.{Counted}
use Rattle.sp_counters.specs.Counting.{CountsGroups}
use Rattle.sp_counters.specs.Counting as counting
use Rattle.sp_counters.specs.Fits.{IsCounter, AreCounted}
use Rattle.sp_node_runs.specs.BodiesGiven.{Nets, values_of}
use Rattle.sp_node_runs.specs.BodiesLaws.{own_near}
use Rattle.sp_op_nets.specs.declared.acted.ActedList.{ActedList}
use Rattle.sp_op_nets.specs.declared.table.AroundNets.{AroundNets}
use Rattle.sp_op_nets.specs.Acted.{answers_in}
use Rattle.sp_op_nets.specs.Reserved.{Reserves}
use Rattle.sp_op_nets.specs.Table.{nets_at, StandAround}
use Rattle.sp_op_nets.proofs.Driving.{stay}
use Rattle.sp_op_nets.proofs.Reserving.{none_reserved, one_reserved, reserved_join}
use Rattle.sp_plan.specs.PlainPlan.{PlainPlan}
use Rattle.sp_tree_circuits.specs.Parts.{BoundCircuits}
use Rattle.sp_around_tables.specs.Inside.{IsInside}
use Rattle.sp_around_tables.proofs.Standing.{stand_inside}
use Rattle.sp_bound_nets.specs.Bounds.{BoundsIn, AreBounds, AreCountersRight}
use Rattle.sp_inner_circuits.specs.declared.counting.Counting.{Counting}
use Rattle.sp_inner_circuits.specs.Counting.{IsCounting}

pub one_value : (counters : List Counter) (i : ℕ) (c : Counter) → i < length counters → values_of (take (i + 1) counters) ≡ values_of (take i counters) ++ (slice_index_or counters i c).value ∷ []
one_value counters i c low = ap values_of (take_more counters i c low) ∙ map-append (λ (n : Counter). n.value) (take i counters) (slice_index_or counters i c ∷ [])

pub some_plain : (counters : List CoreCounter) → 1 ≤ length counters → 1 ≤ length (map plain_counter counters)
some_plain [] some = some
some_plain (c ∷ counters) some = omega arith

pub no_plain : (counters : List CoreCounter) → true ≡ (length counters == 0) → map plain_counter counters ≡ []
no_plain [] e = refl
no_plain (c ∷ counters) e = absurd (let l = eqb-true (length (c ∷ counters)) 0 (sym e) in omega (arith, l))

-- the values of counters stand
pub values_stand : (d : Draft) (counters : List Counter) → All (IsCounter d) counters → All (λ v. HasNet d v 32) (values_of counters)
values_stand d [] all k x lt = absurd (omega (arith, lt))
values_stand d (c ∷ counters) all zero x lt = all 0 c (omega arith)
values_stand d (c ∷ counters) all (suc k) x lt = values_stand d counters (λ j y l. all (suc j) y (omega (arith, l))) k x (omega (arith, lt))

pub masks_stand : (d : Draft) (part : Counters) (nets : Counted) → AreCounted d part nets → (i : ℕ) → i < length nets.masks.items → HasNet d (slice_index nets.masks.items i) 1
masks_stand d part nets counted i lt = counted.masks i (subst (λ n. i < n) counted.lanes lt)

-- what stood around stands where the draft has grown
pub around_later : (a b : Draft) (table : List AroundNets) (near : List Near) → Grows a b → StandAround a table near → StandAround b table near
around_later a b table near g all c lane has =
    let at = all c lane has in record { within = at.within; value = HasNet-stays a b _ _ g at.value; has = at.has; masks = λ i l. HasNet-stays a b _ _ g (at.masks i l) }

-- circuits of bounds have the lanes of their counters
pub same_lanes : (core : PlainCore) (plan : PlainPlan) (s : Signals) (near : List Near) (env : Nets) (d : Draft) (counters : List PlainCounter) (counts : List Count) → BoundCircuits core plan s near env d counters counts → 1 ≤ length counters
    → lanes_of counters ≡ counting.lanes_of counts
same_lanes core plan s near env d [] counts w some = absurd (omega (arith, some))
same_lanes core plan s near env d (c ∷ counters) [] w some = absurd w
same_lanes core plan s near env d (c ∷ []) (k ∷ []) w some = w.0.par
same_lanes core plan s near env d (c ∷ []) (k ∷ l ∷ counts) w some = absurd w.1
same_lanes core plan s near env d (c ∷ x ∷ counters) (k ∷ []) w some = absurd w.1
same_lanes core plan s near env d (c ∷ x ∷ counters) (k ∷ l ∷ counts) w some = same_lanes core plan s near env d (x ∷ counters) (l ∷ counts) w.1 (omega arith)

pub right_opened : (old opened : Draft) (table : List AroundNets) (counters : List PlainCounter) (step : ℕ) → Opens old opened step → AreCountersRight old table counters → AreCountersRight opened table counters
right_opened old opened table counters step o h = record { core = h.core; around = h.around; right = h.right; stand = around_later old opened table h.around.counters o.grows h.stand }

-- the drafts: a net is reserved for the step, then come the bounds, then the counters
module _ (old opened bounded new : Draft) (table : List AroundNets) (counters : List PlainCounter) (step start : ℕ) (bounds : List ActedList) (o : Opens old opened step) (awaits : Awaits opened step 1) (r : Reserves opened bounded (answers_in bounds)) (f : Fills bounded new []) where
  grows_old : Grows old opened
  grows_old = (one_reserved old opened step 1 o awaits).grows

  pub awaits_new : Awaits new step 1
  awaits_new = stay bounded new step 1 [] (stay opened bounded step 1 (answers_in bounds) awaits r) (none_reserved bounded new f)

  pub all_reserved : Reserves old new (step ∷ answers_in bounds)
  all_reserved =
      let two = reserved_join old opened bounded (step ∷ []) (answers_in bounds) (one_reserved old opened step 1 o awaits) r in
      subst (Reserves old new) (append-nil (step ∷ answers_in bounds)) (reserved_join old bounded new (step ∷ answers_in bounds) [] two (none_reserved bounded new f))

  module _ (part : Counters) (nets : Counted) (inside : List AroundNets) (counted : AreCounted new part nets) (has : IsInside counters table (values_of nets.counters.items) nets.masks.items inside) where
    pub stands : (near : List Near) → StandAround old table near → StandAround new inside (own_near counters near)
    stands near all =
        stand_inside new near counters table inside (values_of nets.counters.items) nets.masks.items has
        (around_later old new table near (Grows-join old opened new grows_old (Grows-join opened bounded new r.grows f.grows)) all)
        (values_stand new nets.counters.items counted.values) (masks_stand new part nets counted) has.lanes

    module _ (number : ℕ) (c : Counting) (some : 1 ≤ length counters) (started : part.start ≡ start) (stepped : part.step ≡ c.groups.step) (more : nets.more ≡ c.groups.more) (acted : c.acted.items ≡ bounds) (entries : c.inside.items ≡ inside)
        (counts : (s : Signals) → RunsOn s new.cells → CountsGroups s part nets) (are : AreBounds opened bounded table number counters part.counters.items bounds) where
      pub is_counting : IsCounting old new table number counters start c
      is_counting core plan around right stand s run =
          let early = runs_earlier bounded new s f.grows run in
          let all = are core plan around right (around_later old opened table around.counters grows_old stand) s early in
          record {
            part = part;
            nets = nets;
            draft = bounded;
            started = started;
            stepped = stepped;
            more = more;
            counts = counts s run;
            lanes = same_lanes core plan s around.counters (nets_at table) bounded counters part.counters.items all.circuits some;
            runs_on = early;
            bounds = subst (λ xs. BoundsIn core plan s around.counters (nets_at table) bounded number counters part.counters.items xs) (sym acted) all;
            inside = subst (IsInside counters table (values_of nets.counters.items) nets.masks.items) (sym entries) has;
          }
