-- Accesses act where they were made.
use Rattle.std.proofs.Common.{◌≡◌, ℕ, zero, suc, ◌+◌, ◌*◌, ◌<◌, ◌≤◌, ◌⊎◌, inl, inr, Bool, true, ◌&&◌, List, [], ◌∷◌, length, map, refl, sym, ap, ◌∙◌, arith}
use Rattle.std.specs.List.{Contains}
use Rattle.std.proofs.lemmas.Bool.{and_parts}
use Rattle.sp_netlist.specs.Draft.{Draft}
use Rattle.sp_netlist.specs.Signals.{Signals}
use Rattle.sp_gates.specs.Runs.{RunsOn}
use Rattle.sp_gates.specs.Tested.{is_on}
use Rattle.sp_core.specs.PlainCore.{PlainOp}
use Rattle.sp_pipe.specs.declared.part.PipeOp.{PipeOp}
use Rattle.sp_pipe.specs.Acts.{ActsAt}
use Rattle.sp_pipe.specs.Issues.{IssuesOne, IssuesAll}
use Rattle.sp_pipe.specs.Right.{IsAt}
use Rattle.sp_part_runs.specs.ActsEntries.{entry_at}
use Rattle.sp_part_runs.specs.ActsLaws.{is_made, ActsAsMade}
use Rattle.sp_part_runs.proofs.ActsAgreeing.{acts_agree}
use Rattle.sp_part_runs.specs.BodiesActing.{BodyRun, begun, entries_of, group_cycle, Acts, AccessRight}
use Rattle.sp_part_runs.specs.BodiesLaws.{AreDone, BodyWorks}
use Rattle.sp_part_runs.specs.BodiesRuns.{Begun, took, IsOnAt, AreApart, Begins, Issues, Ends, Tell}
use Rattle.sp_part_runs.proofs.BodiesIssuing.{spent_first, all_right, later_was, later_is}

-- a run, and when it began
begun_of : (runs : List BodyRun) (r : BodyRun) → Contains runs r → Contains (map begun runs) (begun r)
begun_of [] r c = let l = c.1 in absurd (omega (arith, l))
begun_of (q ∷ runs) r (zero, l, e) = (0, omega arith, ap begun e)
begun_of (q ∷ runs) r (suc i, l, e) = let c = begun_of runs r (i, omega (arith, l), e) in let n = c.1 in (suc c.0, omega (arith, n), c.2)

run_of : (runs : List BodyRun) (b : Begun) → Contains (map begun runs) b → (r : BodyRun) × Contains runs r × (begun r ≡ b)
run_of [] b c = let l = c.1 in absurd (omega (arith, l))
run_of (q ∷ runs) b (zero, l, e) = (q, (0, omega arith, refl), e)
run_of (q ∷ runs) b (suc i, l, e) = let r = run_of runs b (i, omega (arith, l), e) in let n = r.1.1 in (r.0, (suc r.1.0, omega (arith, n), r.1.2), r.2)

later_or_early : (t n : ℕ) → (t < n) ⊎ ((u : ℕ) × (t ≡ u + n))
later_or_early t zero = inr (t, omega arith)
later_or_early zero (suc n) = inl (omega arith)
later_or_early (suc t) (suc n) = by (later_or_early t n)
  where
    by : (t < n) ⊎ ((u : ℕ) × (t ≡ u + n)) → (suc t < suc n) ⊎ ((u : ℕ) × (suc t ≡ u + suc n))
    by (inl l) = inl (omega (arith, l))
    by (inr (u, e)) = inr (u, omega (arith, e))

module _ (d : Draft) (ops : List PlainOp) (ps : List PipeOp) (s : Signals) (issue interval latency last : ℕ) (runs : List BodyRun) (r : RunsOn s d.cells) (issues : IsOnAt (is_on s issue) (Issues interval latency (map begun runs)) last)
    (done : AreDone interval d ops ps s last runs) (k : ℕ) (p : PipeOp) (enable : ℕ) (operands : List ℕ) (at : IsAt ps k p) (acts : ActsAt d issue ps p enable operands) where
  -- in a group, at its access's time
  module _ (q : BodyRun) (g : ℕ) (there : Contains runs q) (below : g < length q.groups) (late : group_cycle interval q g + p.time ≤ last) where
    as_made : ActsAsMade s issue (group_cycle interval q g) p (entries_of q g) (entry_at (entries_of q g) k) enable operands
    as_made =
        let does = done q g there below in
        acts_agree d (q.scopes g) ops ps (entries_of q g) s (group_cycle interval q g) last does.group (does.given (omega (arith, late))) does.answered r issue enable operands k p at acts late

    is_issued : is_on s issue (group_cycle interval q g) ≡ true
    is_issued = issues.on (group_cycle interval q g) (omega (arith, late)) (begun q, g, begun_of runs q there, below, refl)

    enabled_here : is_on s enable (group_cycle interval q g + p.time) ≡ is_made (entry_at (entries_of q g) k)
    enabled_here = as_made.enabled ∙ ap (λ b. b && is_made (entry_at (entries_of q g) k)) is_issued

  enabled_at : (t : ℕ) → t ≤ last → Acts interval runs k p.time t → is_on s enable t ≡ true
  enabled_at t l a = let e = a.5 in ap (is_on s enable) e ∙ enabled_here a.0 a.1 a.2 a.3 (omega (arith, e, l)) ∙ a.4

  only_enabled : (t : ℕ) → t ≤ last → is_on s enable t ≡ true → Acts interval runs k p.time t
  only_enabled t l on = by_time (later_or_early t p.time)
    where
      of_run : (u : ℕ) (b : Begun) (g : ℕ) (x : (q : BodyRun) × Contains runs q × (begun q ≡ b)) → t ≡ u + p.time → g < b.groups → u ≡ b.cycle + 1 + g * interval → Acts interval runs k p.time t
      of_run u b g x e below from =
          let c = ap (λ (y : Begun). y.cycle) x.2 in
          let n = ap (λ (y : Begun). y.groups) x.2 in
          let here : t ≡ group_cycle interval x.0 g + p.time = omega (arith, e, from, c) in
          let m : g < length x.0.groups = omega (arith, below, n) in
          (x.0, g, x.1, m, sym (enabled_here x.0 g x.1 m (omega (arith, here, l))) ∙ ap (is_on s enable) (sym here) ∙ on, here)

      by_time : (t < p.time) ⊎ ((u : ℕ) × (t ≡ u + p.time)) → Acts interval runs k p.time t
      by_time (inl early) = absurd (let f = sym on ∙ acts.early s r t early in cc (f))
      by_time (inr (u, e)) =
          let both = and_parts (is_on s issue u) _ (sym (acts.enabled s r u) ∙ ap (is_on s enable) (sym e) ∙ on) in
          let i = issues.only u (omega (arith, e, l)) both.0 in
          of_run u i.0 i.1 (run_of runs i.0 i.2) e i.3 i.4

  pub access_right : AccessRight interval runs s last k p enable operands
  access_right = record { enabled = record { on = enabled_at; only = only_enabled }; words = λ q g there below late. (as_made q g there below late).words }

pub body_works : (d : Draft) (ops : List PlainOp) (ps : List PipeOp) (s : Signals) (start more step issue done interval latency last : ℕ) (runs : List BodyRun) → RunsOn s d.cells → 1 ≤ interval → 1 ≤ latency
    → IssuesAll (is_on s start) (is_on s more) (is_on s step) (is_on s issue) (is_on s done) interval latency → AreApart interval latency (map begun runs)
    → IsOnAt (is_on s start) (Begins interval latency (map begun runs)) last → Tell interval latency (map begun runs) (is_on s more) last → AreDone interval d ops ps s last runs
    → BodyWorks d ps s issue done interval latency last runs
body_works d ops ps s start more step issue done interval latency last runs r i l goes apart starts tells are =
    let right = all_right (is_on s start) (is_on s more) (is_on s step) (is_on s issue) (is_on s done) interval latency last (map begun runs) i l goes apart starts tells in
    record { ends = right.ends; accesses = λ k p enable operands at acts. access_right d ops ps s issue interval latency last runs r right.issues are k p enable operands at acts }

-- a body with one group in each run
module _ (start issue done : ℕ → Bool) (interval latency last : ℕ) (runs : List Begun) (goes : IssuesOne start issue done latency) (ones : (r : Begun) → Contains runs r → r.groups ≡ 1) (starts : IsOnAt start (Begins interval latency runs) last) where
  one_issued : (t : ℕ) → t ≤ last → issue t ≡ true → Issues interval latency runs t
  one_issued zero l h = absurd (let e = sym (goes.issued 0) ∙ h in cc (e))
  one_issued (suc v) l h =
      let b = starts.only v (omega (arith, l)) (sym (goes.issued (suc v)) ∙ h) in
      let at = b.2 in
      let n = ones b.0 b.1 in
      (b.0, 0, b.1, omega (arith, n), omega (arith, at))

  is_issued_one : (t : ℕ) → t ≤ last → Issues interval latency runs t → issue t ≡ true
  is_issued_one t l (r, zero, there, below, e) = let f : t ≡ suc r.cycle = omega (arith, e) in ap issue f ∙ goes.issued (suc r.cycle) ∙ starts.on r.cycle (omega (arith, e, l)) (r, there, refl)
  is_issued_one t l (r, suc k, there, below, e) = let n = ones r there in absurd (omega (arith, n, below))

  pub ones_right : IsOnAt issue (Issues interval latency runs) last
  ones_right = record { on = is_issued_one; only = one_issued }

  took_one : (n : ℕ) → n ≡ 1 → took interval latency n ≡ 2 + latency
  took_one zero e = absurd (omega (arith, e))
  took_one (suc zero) e = ap (λ n. 2 + n) (spent_first interval latency)
  took_one (suc (suc n)) e = absurd (omega (arith, e))

  one_ends : (t : ℕ) → t ≤ last → done t ≡ true → Ends interval latency runs t
  one_ends t l h = by_issue (later_was issue latency t (sym (goes.ends t) ∙ h))
    where
      by_issue : (u : ℕ) × (t ≡ u + latency) × (issue u ≡ true) → Ends interval latency runs t
      by_issue (u, e, on) =
          let i = one_issued u (omega (arith, e, l)) on in
          let n = ones i.0 i.2 in
          let k = i.3 in
          let z : i.1 ≡ 0 = omega (arith, n, k) in
          let at = i.4 in
          let g = ap (λ x. x * interval) z in
          let w = took_one i.0.groups n in
          (i.0, i.2, omega (arith, e, at, g, w))

  ends_one : (t : ℕ) → t ≤ last → Ends interval latency runs t → done t ≡ true
  ends_one t l (r, there, e) =
      let w = took_one r.groups (ones r there) in
      let f : t ≡ suc r.cycle + latency = omega (arith, e, w) in
      ap done f ∙ goes.ends (suc r.cycle + latency) ∙ later_is issue latency (suc r.cycle) (goes.issued (suc r.cycle) ∙ starts.on r.cycle (omega (arith, f, l)) (r, there, refl))

  pub ends_of_ones : IsOnAt done (Ends interval latency runs) last
  ends_of_ones = record { on = ends_one; only = one_ends }

pub single_works : (d : Draft) (ops : List PlainOp) (ps : List PipeOp) (s : Signals) (start issue done interval latency last : ℕ) (runs : List BodyRun) → RunsOn s d.cells
    → IssuesOne (is_on s start) (is_on s issue) (is_on s done) latency → ((r : BodyRun) → Contains runs r → length r.groups ≡ 1)
    → IsOnAt (is_on s start) (Begins interval latency (map begun runs)) last → AreDone interval d ops ps s last runs
    → BodyWorks d ps s issue done interval latency last runs
single_works d ops ps s start issue done interval latency last runs r goes ones starts are = record {
  ends = ends_of_ones (is_on s start) (is_on s issue) (is_on s done) interval latency last (map begun runs) goes begun_ones starts;
  accesses = λ k p enable operands at acts.
      access_right d ops ps s issue interval latency last runs r (ones_right (is_on s start) (is_on s issue) (is_on s done) interval latency last (map begun runs) goes begun_ones starts) are k p enable operands at acts;
}
  where
    begun_ones : (b : Begun) → Contains (map begun runs) b → b.groups ≡ 1
    begun_ones b c = let x = run_of runs b c in sym (ap (λ (y : Begun). y.groups) x.2) ∙ ones x.0 x.1
