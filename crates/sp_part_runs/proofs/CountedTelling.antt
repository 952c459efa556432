-- Counters tell in each run of a body whether a group is left.
use Rattle.std.proofs.Common.{◌≡◌, ℕ, zero, suc, ◌+◌, ◌-◌, ◌*◌, ◌<◌, ◌≤◌, ◌⊎◌, inl, inr, nat_lt, Bool, true, false, ◌&&◌, ◌||◌, if◌then◌else◌, refl, sym, ap, subst, ◌∙◌, arith, List, length, map}
use Rattle.std.specs.List.{Contains}
use Rattle.std.proofs.Math.Nat.{mul-le-mul_right}
use Rattle.std.proofs.lemmas.Bool.{and_parts, or_left, or_right, false_from_ne_true}
use Rattle.sp_netlist.specs.Draft.{Draft}
use Rattle.sp_netlist.specs.Signals.{Signals}
use Rattle.sp_gates.specs.Runs.{RunsOn}
use Rattle.sp_gates.specs.Tested.{is_on}
use Rattle.sp_core.specs.PlainCore.{PlainOp}
use Rattle.sp_core.specs.Scope.{Loop, group_values}
use Rattle.sp_pipe.specs.declared.part.PipeOp.{PipeOp}
use Rattle.sp_pipe.specs.Issues.{due, IssuesAll}
use Rattle.sp_pipe.specs.Laws.{issue_cycle}
use Rattle.sp_counters.specs.declared.part.Counters.{Counters}
use Rattle.sp_counters.specs.declared.part.Counted.{Counted}
use Rattle.sp_counters.specs.Counting.{CountsGroups}
use Rattle.sp_counters.specs.Laws.{AreLoopsAt, AreAtGroup, steps_after}
use Rattle.sp_counters.proofs.Through.{run_through_groups}
use Rattle.sp_part_runs.specs.BodiesActing.{BodyRun, begun}
use Rattle.sp_part_runs.specs.BodiesLaws.{AreDone, BodyWorks}
use Rattle.sp_part_runs.specs.BodiesRuns.{Begun, took, IsOnAt, AreApart, Begins, Issues, IsCurrent, Tell}
use Rattle.sp_part_runs.proofs.BodiesActing.{body_works}
use Rattle.sp_part_runs.proofs.BodiesIssuing.{more_steps, either, one_of, neither, WasDue, was_due, is_due, issued_within, current, issues_right}
use Rattle.sp_part_runs.specs.CountedLaws.{IsLoop}
use Rattle.sp_part_runs.specs.CountedLoops.{AreLoopsOf, AreInGroups}

-- in cycles up to an earlier one
on_less : (wire : ℕ → Bool) (Holds : ℕ → Type 0) (n last : ℕ) → n ≤ last → IsOnAt wire Holds last → IsOnAt wire Holds n
on_less wire Holds n last l h = record { on = λ t m. h.on t (omega (arith, l, m)); only = λ t m. h.only t (omega (arith, l, m)) }

-- which of two numbers is less
compare : (a b : ℕ) → (a < b) ⊎ ((a ≡ b) ⊎ (b < a))
compare a b = grind arith

-- no turn is between two multiples
no_turn_between : (i k j n : ℕ) → 1 ≤ j → j < n → i * n + j ≡ suc k * n → ⊥
no_turn_between i k j n l m e = by (compare i (suc k))
  where
    by : (i < suc k) ⊎ ((i ≡ suc k) ⊎ (suc k < i)) → ⊥
    by (inl x) = let p : suc i * n ≤ suc k * n = mul-le-mul_right n (omega (arith, x)) in let q = more_steps i n in omega (arith, p, q, e, m)
    by (inr (inl x)) = let p = ap (λ y. y * n) x in omega (arith, p, e, l)
    by (inr (inr x)) = let p : suc k * n ≤ i * n = mul-le-mul_right n (omega (arith, x)) in omega (arith, p, e, l)

module _ (s : Signals) (part : Counters) (nets : Counted) (issue done interval latency last : ℕ) (runs : List Begun) (loops : Begun → List Loop) (h : IsLoop s part nets issue done interval latency) (apart : AreApart interval latency runs)
    (starts : IsOnAt (is_on s part.start) (Begins interval latency runs) last) (are : AreLoopsOf s part loops runs last) where
  -- in a run that is the current one up to a cycle, where the counters tell up to the cycle before
  module _ (n : ℕ) (n_within : n ≤ last) (tells : Tell interval latency runs (is_on s nets.more) n) (r : Begun) (t : ℕ) (now : IsCurrent interval latency runs r t) (late : t ≤ suc n) where
    starts_now : IsOnAt (is_on s part.start) (Begins interval latency runs) n
    starts_now = on_less _ _ n last n_within starts

    issues : IsOnAt (is_on s issue) (Issues interval latency runs) n
    issues = issues_right (is_on s part.start) (is_on s nets.more) (is_on s part.step) (is_on s issue) (is_on s done) interval latency n runs h.some_interval h.some_latency h.issues apart starts_now tells

    within : (q : Begun) (k : ℕ) → k < q.groups → issue_cycle q.cycle interval k + latency < q.cycle + took interval latency q.groups
    within = issued_within (is_on s part.start) (is_on s nets.more) (is_on s part.step) (is_on s issue) (is_on s done) interval latency n runs h.some_interval h.some_latency h.issues apart starts_now tells

    started : is_on s part.start r.cycle ≡ true
    started = let b = now.before in starts_now.on r.cycle (omega (arith, b, late)) (r, now.there, refl)

    quiet : (u : ℕ) → r.cycle < u → u < t → is_on s part.start u ≡ false
    quiet u l m = false_from_ne_true (is_on s part.start u) (λ on.
        let b = starts_now.only u (omega (arith, m, late)) on in
        let at = b.2 in
        let f = now.latest b.0 b.1 (omega (arith, l, at)) in
        omega (arith, f, at, m))

    -- a turn
    turn : (i : ℕ) → i ≤ r.groups → issue_cycle r.cycle interval i < t → is_on s part.step (issue_cycle r.cycle interval i) ≡ true
    turn zero l m =
        ap (is_on s part.step) (omega arith) ∙ h.issues.turned (suc r.cycle) ∙ or_left (is_on s part.start r.cycle) (due (is_on s part.start) (is_on s issue) (interval - 1) r.cycle) started
    turn (suc i) l m =
        let steps = more_steps i interval in
        let some = h.some_interval in
        let e : issue_cycle r.cycle interval (suc i) ≡ suc (issue_cycle r.cycle interval i + (interval - 1)) = omega (arith, steps, some) in
        let before = issues.on (issue_cycle r.cycle interval i) (omega (arith, m, e, late)) (r, i, now.there, omega (arith, l), refl) in
        ap (is_on s part.step) e ∙ h.issues.turned (suc (issue_cycle r.cycle interval i + (interval - 1)))
        ∙ or_right (is_on s part.start (issue_cycle r.cycle interval i + (interval - 1))) (due (is_on s part.start) (is_on s issue) (interval - 1) (issue_cycle r.cycle interval i + (interval - 1)))
        (is_due (is_on s part.start) (is_on s issue) (interval - 1) (issue_cycle r.cycle interval i) before (λ w a b. quiet w (omega (arith, a)) (omega (arith, b, m, e))))

    -- a group that was issued, so many cycles before there could be a turn between two turns of the run
    not_due : (i j v : ℕ) → 1 ≤ j → j < interval → suc v ≡ issue_cycle r.cycle interval i + j → suc v < t → WasDue (is_on s part.start) (is_on s issue) (interval - 1) v → ⊥
    not_due i j v l m e u d = by (compare q.cycle r.cycle)
      where
        x : Issues interval latency runs d.from
        x = let a = d.at in issues.only d.from (omega (arith, a, u, late)) d.issued

        q : Begun
        q = x.0

        by : (q.cycle < r.cycle) ⊎ ((q.cycle ≡ r.cycle) ⊎ (r.cycle < q.cycle)) → ⊥
        by (inl less) =
            let a = apart q r x.2 now.there less in
            let w = within q x.1 x.3 in
            let from = x.4 in
            neither (is_on s part.start r.cycle) started (d.quiet r.cycle (omega (arith, a, w, from)) (omega (arith, e, l)))
        by (inr (inl same)) =
            let from = x.4 in
            let at = d.at in
            let steps = more_steps x.1 interval in
            let some = h.some_interval in
            no_turn_between i x.1 j interval l m (omega (arith, from, at, e, same, steps, some))
        by (inr (inr more)) =
            let f = now.latest q x.2 more in
            let from = x.4 in
            let at = d.at in
            omega (arith, f, from, at, u)

    pause : (i j : ℕ) → 1 ≤ j → j < interval → issue_cycle r.cycle interval i + j < t → is_on s part.step (issue_cycle r.cycle interval i + j) ≡ false
    pause i j l m u = false_from_ne_true (is_on s part.step (issue_cycle r.cycle interval i + j)) (λ on. by_cause (issue_cycle r.cycle interval i + (j - 1)) (omega (arith, l)) on)
      where
        by_cause : (v : ℕ) → suc v ≡ issue_cycle r.cycle interval i + j → is_on s part.step (issue_cycle r.cycle interval i + j) ≡ true → ⊥
        by_cause v e on = by (one_of (is_on s part.start v) (due (is_on s part.start) (is_on s issue) (interval - 1) v) (sym (h.issues.turned (suc v)) ∙ ap (is_on s part.step) e ∙ on))
          where
            by : (is_on s part.start v ≡ true) ⊎ (due (is_on s part.start) (is_on s issue) (interval - 1) v ≡ true) → ⊥
            by (inl x) = neither (is_on s part.start v) x (quiet v (omega (arith, e, l)) (omega (arith, e, u)))
            by (inr x) = not_due i j v l m e (omega (arith, e, u)) (was_due (is_on s part.start) (is_on s issue) (interval - 1) v x)

    -- how many steps there were
    step_on : (c : ℕ) (b : Bool) → is_on s part.step (r.cycle + suc c) ≡ b → steps_after (is_on s part.step) r.cycle (suc c) ≡ (if b then suc (steps_after (is_on s part.step) r.cycle c) else steps_after (is_on s part.step) r.cycle c)
    step_on c b e = ap (λ x. if x then suc (steps_after (is_on s part.step) r.cycle c) else steps_after (is_on s part.step) r.cycle c) e

    steps_within : (i j : ℕ) → i ≤ r.groups → j < interval → issue_cycle r.cycle interval i + j < t → steps_after (is_on s part.step) r.cycle (i * interval + 1 + j) ≡ suc i
    steps_within i (suc j) l m u =
        let e : i * interval + 1 + suc j ≡ suc (i * interval + 1 + j) = omega arith in
        let f : r.cycle + suc (i * interval + 1 + j) ≡ issue_cycle r.cycle interval i + suc j = omega arith in
        ap (steps_after (is_on s part.step) r.cycle) e ∙ step_on (i * interval + 1 + j) false (ap (is_on s part.step) f ∙ pause i (suc j) (omega arith) m u)
        ∙ steps_within i j l (omega (arith, m)) (omega (arith, u))
    steps_within zero zero l m u =
        let e : 0 * interval + 1 + 0 ≡ suc (0 * interval) = omega arith in
        let f : r.cycle + suc (0 * interval) ≡ issue_cycle r.cycle interval 0 = omega arith in
        ap (steps_after (is_on s part.step) r.cycle) e ∙ step_on (0 * interval) true (ap (is_on s part.step) f ∙ turn zero l (omega (arith, u)))
        ∙ ap (λ c. suc (steps_after (is_on s part.step) r.cycle c)) (no_steps interval)
      where
        no_steps : (n : ℕ) → 0 * n ≡ 0
        no_steps n = omega arith
    steps_within (suc i) zero l m u =
        let steps = more_steps i interval in
        let some = h.some_interval in
        let e : suc i * interval + 1 + 0 ≡ suc (suc i * interval) = omega arith in
        let f : r.cycle + suc (suc i * interval) ≡ issue_cycle r.cycle interval (suc i) = omega arith in
        let g : suc i * interval ≡ i * interval + 1 + (interval - 1) = omega (arith, steps, some) in
        ap (steps_after (is_on s part.step) r.cycle) e ∙ step_on (suc i * interval) true (ap (is_on s part.step) f ∙ turn (suc i) l (omega (arith, u)))
        ∙ ap suc (ap (steps_after (is_on s part.step) r.cycle) g ∙ steps_within i (interval - 1) (omega (arith, l)) (omega (arith, some)) (omega (arith, u, steps, some)))

    -- so many cycles after the one after the start
    at_cycle : (c k : ℕ) → t ≡ r.cycle + 1 + c → steps_after (is_on s part.step) r.cycle c ≡ k → AreAtGroup s part nets (loops r) k t
    at_cycle c k e count =
        let b = now.before in
        subst (λ x. AreAtGroup s part nets (loops r) x t) count
        (subst (λ x. AreAtGroup s part nets (loops r) (steps_after (is_on s part.step) r.cycle c) x) (sym e)
        (run_through_groups s part nets (loops r) r.cycle c h.counts (are r now.there (omega (arith, b, late, n_within))).0 started (λ u l m. quiet u l (omega (arith, m, e)))))

    groups_are : r.groups ≡ length (group_values (loops r))
    groups_are = let b = now.before in (are r now.there (omega (arith, b, late, n_within))).1

    at_first : t ≡ r.cycle + 1 → AreAtGroup s part nets (loops r) 0 t
    at_first e = at_cycle 0 0 (omega (arith, e)) refl

    at_later : (k j : ℕ) → k ≤ r.groups → j < interval → t ≡ issue_cycle r.cycle interval k + (1 + j) → AreAtGroup s part nets (loops r) (suc k) t
    at_later k j l m e = at_cycle (k * interval + 1 + j) (suc k) (omega (arith, e)) (steps_within k j l m (omega (arith, e)))

  -- the cycle after those up to which they tell
  tells_next : (n : ℕ) → n ≤ last → Tell interval latency runs (is_on s nets.more) n → Tell interval latency runs (is_on s nets.more) (suc n)
  tells_next n l tells = record {
    first = λ r now late.
        let a = at_first n l tells r (r.cycle + 1) now late refl in
        a.more ∙ ap (nat_lt 0) (sym (groups_are n l tells r (r.cycle + 1) now late));
    then = λ r k j below short now late.
        let a = at_later n l tells r _ now late k j (omega (arith, below)) short refl in
        a.more ∙ ap (nat_lt (suc k)) (sym (groups_are n l tells r _ now late));
  }

  tells_none : Tell interval latency runs (is_on s nets.more) 0
  tells_none = record { first = λ r now late. absurd (omega (arith, late)); then = λ r k j below short now late. absurd (omega (arith, late)) }

  tell_up_to : (n : ℕ) → n ≤ suc last → Tell interval latency runs (is_on s nets.more) n
  tell_up_to zero l = tells_none
  tell_up_to (suc n) l = tells_next n (omega (arith, l)) (tell_up_to n (omega (arith, l)))

  tell : Tell interval latency runs (is_on s nets.more) last
  tell = tell_up_to last (omega arith)

  in_groups : AreInGroups s part nets loops interval runs last
  in_groups r k there below late = by_group k refl
    where
      now : IsCurrent interval latency runs r (issue_cycle r.cycle interval k)
      now =
          let w = issued_within (is_on s part.start) (is_on s nets.more) (is_on s part.step) (is_on s issue) (is_on s done) interval latency last runs h.some_interval h.some_latency h.issues apart starts tell r k below in
          current (is_on s part.start) (is_on s nets.more) (is_on s part.step) (is_on s issue) (is_on s done) interval latency last runs h.some_interval h.some_latency h.issues apart starts tell r (issue_cycle r.cycle interval k) there (omega arith) (omega (arith, w))

      by_group : (i : ℕ) → k ≡ i → AreAtGroup s part nets (loops r) k (issue_cycle r.cycle interval k)
      by_group zero e =
          let f = ap (λ x. x * interval) e in
          subst (λ x. AreAtGroup s part nets (loops r) x (issue_cycle r.cycle interval k)) (sym e) (at_first last (omega arith) tell r (issue_cycle r.cycle interval k) now (omega (arith, late)) (omega (arith, f)))
      by_group (suc i) e =
          let f = ap (λ x. x * interval) e in
          let steps = more_steps i interval in
          let some = h.some_interval in
          subst (λ x. AreAtGroup s part nets (loops r) x (issue_cycle r.cycle interval k)) (sym e)
          (at_later last (omega arith) tell r (issue_cycle r.cycle interval k) now (omega (arith, late)) i (interval - 1) (omega (arith, e, below)) (omega (arith, some)) (omega (arith, f, steps, some)))

  pub all_tell : Tell interval latency runs (is_on s nets.more) last × AreInGroups s part nets loops interval runs last
  all_tell = (tell, in_groups)

pub loop_works : (d : Draft) (ops : List PlainOp) (ps : List PipeOp) (s : Signals) (part : Counters) (nets : Counted) (issue done interval latency last : ℕ) (runs : List BodyRun) (loops : Begun → List Loop) → RunsOn s d.cells
    → IsLoop s part nets issue done interval latency → AreApart interval latency (map begun runs) → IsOnAt (is_on s part.start) (Begins interval latency (map begun runs)) last → AreLoopsOf s part loops (map begun runs) last
    → (AreInGroups s part nets loops interval (map begun runs) last → AreDone interval d ops ps s last runs) → BodyWorks d ps s issue done interval latency last runs
loop_works d ops ps s part nets issue done interval latency last runs loops r h apart starts are does =
    let t = all_tell s part nets issue done interval latency last (map begun runs) loops h apart starts are in
    body_works d ops ps s part.start nets.more part.step issue done interval latency last runs r h.some_interval h.some_latency h.issues apart starts t.0 (does t.1)
