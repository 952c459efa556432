-- That times which are over by the latency are those within limits, and that there are some.
use Rattle.std.proofs.Common.{◌≡◌, ℕ, zero, suc, ◌*◌, ◌-◌, ◌<◌, ◌≤◌, ◌==◌, max, Bool, true, false, cond, List, [], ◌∷◌, length, slice_index, slice_index_or, map, arith, ap, refl, sym, ◌∙◌, subst, le_of_eq, suc-mul}
use Rattle.std.specs.List.{All, filter}
use Rattle.std.proofs.lemmas.Bool.Decides.{Decides-eqb}
use Rattle.std.proofs.lemmas.List.{get_or-map, length-map}
use Rattle.std.proofs.lemmas.List.Elements.{All-filter, filter_passes}
use Rattle.sp_modulo.specs.declared.order.Order.{Order}
use Rattle.sp_modulo.specs.Searching.{IsWithin, IsLeastInterval}
use Rattle.sp_modulo.specs.Times.{IsAmong, IsObeyed, Obey, IsNoLater, IsLeast, end_of, in_group, IsLatency, InTime, IsSchedule}
use Rattle.sp_modulo.proofs.Ends.{over_each, over_all}
use Rattle.sp_modulo.proofs.Later.{no_later-from}

here : {X : Type 0} (p : X → Bool) (P : X → Type 0) (x : X) (xs : List X) (b : Bool) → p x ≡ b → All P (cond b (x ∷ filter p xs) (filter p xs)) → (k : ℕ) (d : X) → k < length (x ∷ xs) → p (slice_index_or (x ∷ xs) k d) ≡ true →
    ((j : ℕ) → All P (filter p xs) → j < length xs → p (slice_index_or xs j d) ≡ true → P (slice_index_or xs j d)) → P (slice_index_or (x ∷ xs) k d)
here p P x xs true e h zero d lt pass rest = h 0 d (omega arith)
here p P x xs true e h (suc k) d lt pass rest = rest k (λ j c l. h (suc j) c (omega arith)) (omega arith) pass
here p P x xs false e h zero d lt pass rest = cc
here p P x xs false e h (suc k) d lt pass rest = rest k h (omega arith) pass

from_filter : {X : Type 0} (p : X → Bool) (P : X → Type 0) (xs : List X) → All P (filter p xs) → (k : ℕ) (d : X) → k < length xs → p (slice_index_or xs k d) ≡ true → P (slice_index_or xs k d)
from_filter p P [] h k d lt pass = absurd (omega arith)
from_filter p P (x ∷ xs) h k d lt pass = here p P x xs (p x) refl h k d lt pass (λ j all l q. from_filter p P xs all j d l q)

is_zero : (n : ℕ) → (n == 0) ≡ true → n ≡ 0
is_zero n e = (Decides-eqb n 0).0 e

-- an order within a group is obeyed at any interval
any_interval : (i j : ℕ) (times : List ℕ) (o : Order) → o.distance ≡ 0 → IsObeyed i times o → IsObeyed j times o
any_interval i j times o e h =
    let a : o.distance * i ≡ 0 = ap (λ n. n * i) e ∙ omega arith in
    let b : o.distance * j ≡ 0 = ap (λ n. n * j) e ∙ omega arith in
    omega arith

module _ (latencies : List ℕ) (orders : List Order) (latency : ℕ) where
  abbrev limits : List ℕ
  limits = map (λ l. latency - l) latencies

  limit-at : (i : ℕ) → i < length latencies → slice_index limits i ≡ latency - slice_index latencies i
  limit-at i h = get_or-map (λ l. latency - l) latencies i 0 0 h

  length-limits : length limits ≡ length latencies
  length-limits = length-map latencies (λ l. latency - l)

  each_before : IsLatency latencies orders latency → (i : ℕ) → i < length latencies → slice_index latencies i ≤ latency
  each_before h i lt = let k = over_each latencies h.first h.least.obey.one_each i lt in omega (arith, h.over)

  to_within : (i : ℕ) (times : List ℕ) → InTime latencies orders latency i times → IsWithin limits orders i times
  to_within i times h = record {
    obey = record { one_each = h.obey.one_each ∙ sym length-limits; obeyed = h.obey.obeyed };
    within = no_later-from times limits (h.obey.one_each ∙ sym length-limits)
        (λ k lt.
        let inside : k < length latencies = omega (arith, h.obey.one_each) in
        let over = over_each latencies times h.obey.one_each k inside in
        let at = limit-at k inside in
        let most = h.over in
        omega arith);
  }

  from_within : IsLatency latencies orders latency → (i : ℕ) (times : List ℕ) → IsWithin limits orders i times → InTime latencies orders latency i times
  from_within is i times h = record {
    obey = record { one_each = h.obey.one_each ∙ length-limits; obeyed = h.obey.obeyed };
    over = over_all latencies times latency (λ k lt. let at = limit-at k lt in let before = each_before is k lt in let within = h.within k in omega arith);
  }

  least_once : (m k : ℕ) → k ≤ suc m * k
  least_once m k = omega (arith, suc-mul m k)

  one_obeyed : (h : IsLatency latencies orders latency) → (o : Order) → IsAmong (length latencies) o → o.gap ≤ slice_index latencies o.first →
      ((o.distance == 0) ≡ true → IsObeyed 0 h.first o) → (n : ℕ) → n ≡ o.distance → IsObeyed (max latency 1) h.first o
  one_obeyed h o among gap inside zero e = any_interval 0 (max latency 1) h.first o (sym e) (inside (ap (λ x. x == 0) (sym e)))
  one_obeyed h o among gap inside (suc n) e =
      let over = over_each latencies h.first h.least.obey.one_each o.first among.0 in
      let is = h.over in
      let far : max latency 1 ≤ o.distance * max latency 1 = subst (λ (d : ℕ). max latency 1 ≤ d * max latency 1) e (least_once n (max latency 1)) in
      omega arith

  -- the least times of the orders within a group obey all orders at an interval of the latency
  pub possible : IsLatency latencies orders latency → All (IsAmong (length latencies)) orders → All (λ o. o.gap ≤ slice_index latencies o.first) orders →
      (times : List ℕ) × IsWithin limits orders (max latency 1) times
  possible h among gaps = (
    h.first,
    to_within (max latency 1) h.first (record {
      obey = record {
        one_each = h.least.obey.one_each;
        obeyed = λ k d lt. one_obeyed h (slice_index_or orders k d) (among k d lt) (gaps k d lt)
            (from_filter (λ o. o.distance == 0) (IsObeyed 0 h.first) orders h.least.obey.obeyed k d lt) (slice_index_or orders k d).distance refl;
      };
      over = le_of_eq (sym h.over);
    }),
  )

  scheduled : IsLatency latencies orders latency → (interval : ℕ) (times : List ℕ) → 1 ≤ interval → IsLeastInterval limits orders interval → IsLeast (length limits) orders interval times → IsNoLater times limits →
      IsSchedule latencies orders latency interval times
  scheduled h interval times some below least within = record {
    latency_is = h;
    some_interval = some;
    least_interval = λ i others one less in_time. below i others one less (to_within i others in_time);
    in_time = from_within h interval times (record { obey = least.obey; within = within });
    least_times = λ others in_time. least.least others ((to_within interval others in_time).obey);
  }

  -- the same, by limits that are those
  pub scheduled_by : (given : List ℕ) → given ≡ limits → IsLatency latencies orders latency → (interval : ℕ) (times : List ℕ) → 1 ≤ interval → IsLeastInterval given orders interval → IsLeast (length given) orders interval times → IsNoLater times given →
      IsSchedule latencies orders latency interval times
  scheduled_by given e h interval times some below least within =
      scheduled h interval times some
      (subst (λ (x : List ℕ). IsLeastInterval x orders interval) e below)
      (subst (λ (x : List ℕ). IsLeast (length x) orders interval times) e least)
      (subst (λ (x : List ℕ). IsNoLater times x) e within)

  -- the last operation is over at the latency
  pub over_at : (interval : ℕ) (times : List ℕ) → IsSchedule latencies orders latency interval times → end_of latencies times ≡ latency
  over_at interval times s =
      let h = s.latency_is in
      let obey : Obey (length latencies) (in_group orders) 0 times = record {
        one_each = s.in_time.obey.one_each;
        obeyed = λ k d lt. any_interval interval 0 times (slice_index_or (in_group orders) k d) (is_zero _ (filter_passes (λ (o : Order). o.distance == 0) orders k d lt))
            (All-filter (λ o. o.distance == 0) (IsObeyed interval times) orders s.in_time.obey.obeyed k d lt);
      } in
      let later = h.least.least times obey in
      let first : end_of latencies h.first ≤ end_of latencies times =
      over_all latencies h.first (end_of latencies times) (λ i lt. let a = over_each latencies times s.in_time.obey.one_each i lt in let b = later i in omega arith) in
      let most = s.in_time.over in
      let is = h.over in
      omega arith
