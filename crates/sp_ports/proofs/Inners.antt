-- A whole run of an inner body, with its bounds, shares no port of a bank.
use Rattle.std.proofs.Common.{◌≡◌, ℕ, suc, ◌+◌, ◌*◌, ◌<◌, ◌≤◌, true, false, ℤ, List, [], ◌∷◌, ◌++◌, map, length, arith, refl, sym, subst, ap, ◌∙◌}
use Rattle.std.proofs.lemmas.Bool.{and_parts, true≢false, false≢true}
use Rattle.std.specs.List.{list_all}
use Rattle.std.specs.Prelude.{◌&&◌, flat_map, slice_index, Option, Some, None}
use Rattle.sp_bank.specs.Banking.{Banking}
use Rattle.sp_core.specs.declared.access.Meet.{Meet}
use Rattle.sp_core.specs.declared.operation.OpKind.{OpKind}
use Rattle.sp_core.specs.declared.operation.OpKind.TheVariants as kind
use Rattle.sp_core.specs.Around.{Around}
use Rattle.sp_core.specs.Declarations.{mem}
use Rattle.sp_core.specs.Events.{At, Standing, inside_at, before, Event, Moment, touches, slices, renews, keeps, act_of, event_of, entry_moments, list_moments, bounds_moments, events_of}
use Rattle.sp_core.specs.Forms.{PlainForms}
use Rattle.sp_core.specs.History.{Entry, left_out, gave, touched, Bounds}
use Rattle.sp_core.specs.Meeting.{is_met, are_met}
use Rattle.sp_core.specs.Numbered.{list_numbers}
use Rattle.sp_core.specs.Numbering.{counters_size}
use Rattle.sp_core.specs.OperationRules.{is_early_kind, is_early_at, is_early, is_bound, is_counter_right}
use Rattle.sp_core.specs.PlainCore.{PlainOp, PlainCounter, inner, PlainCore}
use Rattle.sp_core.specs.Scope.{in_lanes, loops_of, group_values}
use Rattle.sp_plan.specs.PlainPlan.{PlainNodePlan, inner_plan, outer_plan, other_plan, PlainPlan, node_plan}
use Rattle.sp_plan.specs.Ports.{has_banks}
use Rattle.sp_plan.specs.Validity.{schemes_of, is_kind_of, is_timed}
use Rattle.sp_time.specs.Lists.{Each, Pairs}
use Rattle.sp_words.specs.declared.kind.Kind.{Kind}
use Rattle.sp_words.specs.declared.kind.Kind.TheVariants as kinds
use Rattle.sp_machine.specs.InOrder.{is_done, IsPlaced}
use Rattle.sp_machine.specs.Laws.{told}
use Rattle.sp_machine.specs.Stamps.{Stamped, Copies, stamp, stamped}
use Rattle.sp_machine.specs.Timeline.{timed, times_of, issued_by, body_events}
use Rattle.sp_machine.specs.Transfers.{Delays}
use Rattle.sp_machine.proofs.AtOnce.{by_pace, AreIdle, body_idle}
use Rattle.sp_ports.specs.Banks.{AreAtOnePort, SharePort, IsAtForms, IsAtOwnForms, ShareNoPort}
use Rattle.sp_ports.specs.Laws.{IsInnerRight, InnersShareNoPort}
use Rattle.sp_ports.proofs.Bodies.{bodies_share_no_port, body_at_forms}
use Rattle.sp_ports.proofs.Numbers.{AreNumbered}

-- a moment that uses no port of a memory with banks
abbrev pub HasNoPort : PlainCore → Moment → Type 0
HasNoPort core (touches e) = has_banks (mem core e.mem).kind ≡ false
HasNoPort core _ = Unit {0}

none_append : (core : PlainCore) (a b : List Moment) → Each (HasNoPort core) a → Each (HasNoPort core) b → Each (HasNoPort core) (a ++ b)
none_append core [] b h k = k
none_append core (x ∷ a) b h k = (h.0, none_append core a b h.1 k)

-- bounds read no memory with banks
module _ (core : PlainCore) (around : Around) where
  early_read : (k : Kind) → is_early_kind core around kind.Read k ≡ true → has_banks k ≡ false
  early_read kinds.Sram h = absurd (false≢true h)
  early_read kinds.LineBuf h = absurd (false≢true h)
  early_read k h = refl

  entry_ports : (n : ℕ) (st : Standing) (op : OpKind) (m : Option ℕ) (e : Entry) → is_early_at core around op m ≡ true → Each (HasNoPort core) (entry_moments n st op m e)
  entry_ports n st op m left_out h = tt
  entry_ports n st op m (gave w) h = tt
  entry_ports n st op None (touched is w) h = tt
  entry_ports n st op (Some m) (touched is w) h = go op h
    where
      go : (op : OpKind) → is_early_at core around op (Some m) ≡ true → Each (HasNoPort core) (event_of n st (Some m) is (act_of op w))
      go kind.Read h = (early_read (mem core m).kind h, tt)
      go kind.Write h = absurd (false≢true h)
      go kind.Enq h = absurd (false≢true h)
      go kind.Deq h = absurd (false≢true h)
      go kind.Reset h = absurd (false≢true h)
      go op h = tt

  list_ports : (n : ℕ) (st : Standing) (ops : List PlainOp) (es : List Entry) → list_all (is_early core around) ops ≡ true → Each (HasNoPort core) (list_moments n st ops es)
  list_ports n st (op ∷ ops) (e ∷ es) h =
      let q = and_parts (is_early core around op) (list_all (is_early core around) ops) h in
      none_append core (entry_moments n st op.kind op.mem e) (list_moments (suc n) st ops es) (entry_ports n st op.kind op.mem e q.0) (list_ports (suc n) st ops es q.1)
  list_ports n st [] es h = tt
  list_ports n st (op ∷ ops) [] h = tt

  pub bound_ports : (n : ℕ) (st : Standing) (ops : List PlainOp) (es : List Entry) → is_bound core around ops ≡ true → Each (HasNoPort core) (list_moments n st ops es)
  bound_ports n st ops es h = list_ports n st ops es (and_parts _ _ h).1

  pub bounds_ports : (n : ℕ) (st : Standing) (counters : List PlainCounter) (bs : List Bounds) → list_all (is_counter_right core around) counters ≡ true → Each (HasNoPort core) (bounds_moments n st counters bs)
  bounds_ports n st (c ∷ counters) (b ∷ bs) h =
      let q = and_parts (is_counter_right core around c) (list_all (is_counter_right core around) counters) h in
      let two = and_parts (is_bound core around c.from) (is_bound core around c.until) (and_parts _ _ q.0).0 in
      none_append core (list_moments n st c.from b.from ++ list_moments (n + length c.from) st c.until b.until) (bounds_moments (n + (length c.from + length c.until)) st counters bs)
      (none_append core (list_moments n st c.from b.from) (list_moments (n + length c.from) st c.until b.until) (bound_ports n st c.from b.from two.0) (bound_ports (n + length c.from) st c.until b.until two.1))
      (bounds_ports (n + (length c.from + length c.until)) st counters bs q.1)
  bounds_ports n st [] bs h = tt
  bounds_ports n st (c ∷ counters) [] h = tt

-- what has no port shares none
no_port_first : (core : PlainCore) (schemes : List (Option Banking)) (m n : Moment) → HasNoPort core m → AreAtOnePort core schemes m n → ⊥
no_port_first core schemes (touches e) (touches f) h p = true≢false (sym p.1 ∙ h)
no_port_first core schemes (touches e) (slices x) h p = p
no_port_first core schemes (touches e) (renews x) h p = p
no_port_first core schemes (touches e) (keeps x w) h p = p
no_port_first core schemes (slices x) n h p = p
no_port_first core schemes (renews x) n h p = p
no_port_first core schemes (keeps x w) n h p = p

module _ (core : PlainCore) (forms : PlainForms) (schemes : List (Option Banking)) where
  free : (s : Stamped) (xs : List Stamped) → HasNoPort core s.moment → Each (ShareNoPort core forms schemes s) xs
  free s [] h = tt
  free s (x ∷ xs) h = ((λ share. absurd (no_port_first core schemes s.moment x.moment h share.port)), free s xs h)

  pub after_bounds : (copies : Copies) (cycle : ℕ) (ms : List Moment) (rest : List Stamped) → Each (HasNoPort core) ms → Pairs (ShareNoPort core forms schemes) rest → Pairs (ShareNoPort core forms schemes) (stamped copies cycle ms ++ rest)
  after_bounds copies cycle [] rest h p = p
  after_bounds copies cycle (m ∷ ms) rest h p = (free (stamp copies cycle m) (stamped copies cycle ms ++ rest) h.0, after_bounds copies cycle ms rest h.1 p)

-- what holds of all holds of what comes last
each_last : {A : Type 0} (Q : A → Type 0) (a b : List A) → Each Q (a ++ b) → Each Q b
each_last Q [] b h = h
each_last Q (x ∷ a) b h = each_last Q a b h.1

met_last : (core : PlainCore) (meets : List Meet) (copies : Copies) (cycle : ℕ) (ms : List Moment) (rest : List Stamped) → are_met core meets (events_of (told (stamped copies cycle ms ++ rest))) ≡ true → are_met core meets (events_of (told rest)) ≡ true
met_last core meets copies cycle [] rest h = h
met_last core meets copies cycle (touches e ∷ ms) rest h = met_last core meets copies cycle ms rest (and_parts (list_all (is_met core meets e) (events_of (told (stamped copies cycle ms ++ rest)))) _ h).1
met_last core meets copies cycle (slices x ∷ ms) rest h = met_last core meets copies cycle ms rest h
met_last core meets copies cycle (renews m ∷ ms) rest h = met_last core meets copies cycle ms rest h
met_last core meets copies cycle (keeps m w ∷ ms) rest h = met_last core meets copies cycle ms rest h

-- where there is nothing to do, there is no port
idle_has_none : (core : PlainCore) (m : Moment) → is_done core m ≡ false → HasNoPort core m
idle_has_none core (touches e) h = absurd (true≢false h)
idle_has_none core (slices x) h = tt
idle_has_none core (renews m) h = tt
idle_has_none core (keeps m w) h = tt

idle_share_none : (core : PlainCore) (forms : PlainForms) (schemes : List (Option Banking)) (xs : List Stamped) → AreIdle core xs → Pairs (ShareNoPort core forms schemes) xs
idle_share_none core forms schemes [] h = tt
idle_share_none core forms schemes (x ∷ xs) h = (free core forms schemes x xs (idle_has_none core x.moment h.0), idle_share_none core forms schemes xs h.1)

idle_at_forms : (core : PlainCore) (forms : PlainForms) (symbols : List At → ℕ → ℤ) (xs : List Stamped) → AreIdle core xs → Each (λ s. IsAtForms core forms symbols s.moment) xs
idle_at_forms core forms symbols [] h = tt
idle_at_forms core forms symbols (x ∷ xs) h = (go x.moment h.0, idle_at_forms core forms symbols xs h.1)
  where
    go : (m : Moment) → is_done core m ≡ false → IsAtForms core forms symbols m
    go (touches e) q = absurd (true≢false q)
    go (slices s) q = tt
    go (renews m) q = tt
    go (keeps m w) q = tt

-- by what is known of the body alone
pub inner_shares_none : (core : PlainCore) (plan : PlainPlan) (delays : Delays) (forms : PlainForms) (meets : List Meet) (symbols : List At → ℕ → ℤ) (around : Around) (k n : ℕ) (st : Standing) (copies : Copies)
    (counters : List PlainCounter) (owned : List ℕ) (ops : List PlainOp) (comb : Option ℕ) (bs : List Bounds) (groups : List (List Entry)) → IsPlaced core k st → IsInnerRight core forms meets plan around k n counters owned ops comb
    → Each (λ s. IsAtForms core forms symbols s.moment) (body_events core plan delays (issued_by core ops (node_plan plan k)) copies k (n + counters_size counters) 0 st owned ops (group_values (loops_of in_lanes counters bs)) groups)
    → are_met core meets (events_of (told (body_events core plan delays (issued_by core ops (node_plan plan k)) copies k (n + counters_size counters) 0 st owned ops (group_values (loops_of in_lanes counters bs)) groups))) ≡ true
    → Pairs (ShareNoPort core forms (schemes_of plan)) (stamped copies 0 (bounds_moments n (inside_at st k before []) counters bs) ++ body_events core plan delays (issued_by core ops (node_plan plan k)) copies k (n + counters_size counters) 0 st owned ops (group_values (loops_of in_lanes counters bs)) groups)
inner_shares_none core plan delays forms meets symbols around k n st copies counters owned ops comb bs groups placed w at met =
    after_bounds core forms (schemes_of plan) copies 0 bounds _ (bounds_ports core around n (inside_at st k before []) counters bs w.bounds)
    (by_pace core ops (node_plan plan k) (λ r. Each (λ s. IsAtForms core forms symbols s.moment) (happens r) → are_met core meets (events_of (told (happens r))) ≡ true → Pairs (ShareNoPort core forms (schemes_of plan)) (happens r))
    (λ z idle a m. idle_share_none core forms (schemes_of plan) _ (body_idle core plan delays (inner_plan (times_of (node_plan plan k)) 0 0 false) copies k (n + counters_size counters) 0 st owned ops (group_values (loops_of in_lanes counters bs)) groups idle))
    (by_plan (node_plan plan k) w.kind w.timed) at met)
  where
    bounds : List Moment
    bounds = bounds_moments n (inside_at st k before []) counters bs

    happens : PlainNodePlan → List Stamped
    happens p = body_events core plan delays p copies k (n + counters_size counters) 0 st owned ops (group_values (loops_of in_lanes counters bs)) groups

    by_plan : (p : PlainNodePlan) → is_kind_of (inner counters owned ops comb) p ≡ true → is_timed core forms meets plan n false (inner counters owned ops comb) p ≡ true
        → Each (λ s. IsAtForms core forms symbols s.moment) (happens p) → are_met core meets (events_of (told (happens p))) ≡ true → Pairs (ShareNoPort core forms (schemes_of plan)) (happens p)
    by_plan (inner_plan times ii latency serial) e t a m =
        bodies_share_no_port core plan delays forms (schemes_of plan) meets symbols k (n + counters_size counters) st copies owned ops times ii latency serial (group_values (loops_of in_lanes counters bs)) groups placed t w.grouped w.separated a m
    by_plan (outer_plan slots chains) e t a m = absurd (false≢true e)
    by_plan other_plan e t a m = absurd (false≢true e)

-- and by plans of its kind
body_forms : (core : PlainCore) (plan : PlainPlan) (delays : Delays) (forms : PlainForms) (meets : List Meet) (symbols : List At → ℕ → ℤ) (around : Around) (k n : ℕ) (st : Standing) (copies : Copies)
    (counters : List PlainCounter) (owned : List ℕ) (ops : List PlainOp) (comb : Option ℕ) (values : List (List ℤ)) (groups : List (List Entry)) → (p : PlainNodePlan) → is_kind_of (inner counters owned ops comb) p ≡ true
    → AreNumbered core (n + counters_size counters) (list_numbers ops)
    → Each (λ s. IsAtOwnForms core forms symbols s.moment) (body_events core plan delays p copies k (n + counters_size counters) 0 st owned ops values groups)
    → Each (λ s. IsAtForms core forms symbols s.moment) (body_events core plan delays p copies k (n + counters_size counters) 0 st owned ops values groups)
body_forms core plan delays forms meets symbols around k n st copies counters owned ops comb values groups (inner_plan times ii latency serial) e right at =
    body_at_forms core plan delays forms symbols k (n + counters_size counters) st copies owned ops times ii latency serial values groups right at
body_forms core plan delays forms meets symbols around k n st copies counters owned ops comb values groups (outer_plan slots chains) e right at = absurd (false≢true e)
body_forms core plan delays forms meets symbols around k n st copies counters owned ops comb values groups other_plan e right at = absurd (false≢true e)

-- as the body is issued
pub issued_forms : (core : PlainCore) (plan : PlainPlan) (delays : Delays) (forms : PlainForms) (meets : List Meet) (symbols : List At → ℕ → ℤ) (around : Around) (k n : ℕ) (st : Standing) (copies : Copies)
    (counters : List PlainCounter) (owned : List ℕ) (ops : List PlainOp) (comb : Option ℕ) (values : List (List ℤ)) (groups : List (List Entry)) → (p : PlainNodePlan) → is_kind_of (inner counters owned ops comb) p ≡ true
    → AreNumbered core (n + counters_size counters) (list_numbers ops)
    → Each (λ s. IsAtOwnForms core forms symbols s.moment) (body_events core plan delays (issued_by core ops p) copies k (n + counters_size counters) 0 st owned ops values groups)
    → Each (λ s. IsAtForms core forms symbols s.moment) (body_events core plan delays (issued_by core ops p) copies k (n + counters_size counters) 0 st owned ops values groups)
issued_forms core plan delays forms meets symbols around k n st copies counters owned ops comb values groups p e right =
    by_pace core ops p (λ r. Each (λ s. IsAtOwnForms core forms symbols s.moment) (happens r) → Each (λ s. IsAtForms core forms symbols s.moment) (happens r))
    (λ z idle at. idle_at_forms core forms symbols _ (body_idle core plan delays (inner_plan (times_of p) 0 0 false) copies k (n + counters_size counters) 0 st owned ops values groups idle))
    (body_forms core plan delays forms meets symbols around k n st copies counters owned ops comb values groups p e right)
  where
    happens : PlainNodePlan → List Stamped
    happens r = body_events core plan delays r copies k (n + counters_size counters) 0 st owned ops values groups

pub inners_share_no_port : (core : PlainCore) (plan : PlainPlan) (delays : Delays) → InnersShareNoPort core plan delays
unfolding timed
inners_share_no_port core plan delays forms meets symbols around k n st copies counters owned ops comb bs counts groups placed w at met =
    inner_shares_none core plan delays forms meets symbols around k n st copies counters owned ops comb bs groups placed w
    (each_last (λ s. IsAtForms core forms symbols s.moment) (stamped copies 0 (bounds_moments n (inside_at st k before []) counters bs)) _ at)
    (met_last core meets copies 0 (bounds_moments n (inside_at st k before []) counters bs) _ met)
