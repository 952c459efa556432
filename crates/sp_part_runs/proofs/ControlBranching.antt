-- A branch over all of its runs.
use Rattle.std.proofs.Common.{◌≡◌, ℕ, zero, suc, ◌+◌, ◌<◌, ◌≤◌, ◌⊎◌, inl, inr, Bool, true, false, ◌&&◌, ◌||◌, not, refl, sym, ap, subst, ◌∙◌, arith, List, [], ◌∷◌, map}
use Rattle.std.specs.List.{Contains}
use Rattle.std.proofs.lemmas.Bool.{and_parts, and_from, or_left, or_right}
use Rattle.sp_netlist.specs.declared.parts.Child.{Child}
use Rattle.sp_netlist.specs.Signals.{Signals}
use Rattle.sp_gates.specs.Tested.{is_on}
use Rattle.sp_ctrl.specs.Runs.{IsAfter, RunsBranch}
use Rattle.sp_part_runs.specs.BodiesRuns.{IsOnAt}
use Rattle.sp_part_runs.specs.ControlBranches.{BranchRan, whole_run, test_run, part_run, is_side, part_runs}
use Rattle.sp_part_runs.specs.ControlLaws.{BranchWorks}
use Rattle.sp_part_runs.specs.ControlParts.{Ran, Begins, Ends, DoesRuns, Tested, runs_of, Tells}
use Rattle.sp_part_runs.proofs.ControlSteps.{no_element, here, there, mapped, unmapped, after_right, one_of}

not_side : (b : Bool) → not b ≡ is_side false b
not_side true = refl
not_side false = refl

-- the runs of one part are those of the runs in which it was taken
in_part : (side : Bool) (runs : List BranchRan) (q : BranchRan) → Contains runs q → is_side side q.taken ≡ true → Contains (part_runs side runs) (part_run q)
in_part side [] q c t = absurd (no_element q c)
in_part side (r ∷ runs) q (zero, l, e) t = subst (λ x. Contains (part_runs side (r ∷ runs)) (part_run x)) e (by (is_side side r.taken) (ap (λ (x : BranchRan). is_side side x.taken) e ∙ t))
  where
    by : (b : Bool) → b ≡ true → Contains (elim b as (λ _. List Ran) [ true ↦ part_run r ∷ part_runs side runs | false ↦ part_runs side runs ]) (part_run r)
    by true f = here (part_run r) (part_runs side runs)
    by false f = absurd (cc)
in_part side (r ∷ runs) q (suc i, l, e) t = by (is_side side r.taken) (in_part side runs q (i, omega (arith, l), e) t)
  where
    by : (b : Bool) → Contains (part_runs side runs) (part_run q) → Contains (elim b as (λ _. List Ran) [ true ↦ part_run r ∷ part_runs side runs | false ↦ part_runs side runs ]) (part_run q)
    by true c = there (part_run r) (part_run q) (part_runs side runs) c
    by false c = c

part_in : (side : Bool) (runs : List BranchRan) (x : Ran) → Contains (part_runs side runs) x → (q : BranchRan) × Contains runs q × (is_side side q.taken ≡ true) × (part_run q ≡ x)
part_in side [] x c = absurd (no_element x c)
part_in side (r ∷ runs) x c = by (is_side side r.taken) refl c (part_in side runs x)
  where
    later : ((q : BranchRan) × Contains runs q × (is_side side q.taken ≡ true) × (part_run q ≡ x)) → (q : BranchRan) × Contains (r ∷ runs) q × (is_side side q.taken ≡ true) × (part_run q ≡ x)
    later (q, c, t, e) = (q, there r q runs c, t, e)

    by : (b : Bool) → is_side side r.taken ≡ b → Contains (elim b as (λ _. List Ran) [ true ↦ part_run r ∷ part_runs side runs | false ↦ part_runs side runs ]) x
        → (Contains (part_runs side runs) x → (q : BranchRan) × Contains runs q × (is_side side q.taken ≡ true) × (part_run q ≡ x)) → (q : BranchRan) × Contains (r ∷ runs) q × (is_side side q.taken ≡ true) × (part_run q ≡ x)
    by true f (zero, l, e) rest = (r, here r runs, f, e)
    by true f (suc i, l, e) rest = later (rest (i, omega (arith, l), e))
    by false f d rest = later (rest d)

module _ (s : Signals) (start : ℕ) (test : Child) (tested : ℕ) (chosen left : Child) (done last : ℕ) (runs : List BranchRan) (goes : RunsBranch s start test tested chosen left done) (starts : IsOnAt (is_on s start) (Begins (map whole_run runs)) last)
    (test_does : DoesRuns (is_on s test.start) (is_on s test.done) (runs_of (map test_run runs)) last) (tells : Tells (is_on s test.start) (is_on s tested) (map test_run runs) last)
    (chosen_does : DoesRuns (is_on s chosen.start) (is_on s chosen.done) (part_runs true runs) last) (left_does : DoesRuns (is_on s left.start) (is_on s left.done) (part_runs false runs) last) where
  -- the run of a test, and that of its branch
  of_test : (x : Ran) → Contains (runs_of (map test_run runs)) x → (q : BranchRan) × Contains runs q × ((test_run q).run ≡ x)
  of_test x c = let e = unmapped (λ (e : Tested). e.run) (map test_run runs) x c in let q = unmapped test_run runs e.0 e.1 in (q.0, q.1, ap (λ (t : Tested). t.run) q.2 ∙ e.2)

  test_of : (q : BranchRan) → Contains runs q → Contains (runs_of (map test_run runs)) (test_run q).run
  test_of q c = mapped (λ (e : Tested). e.run) (map test_run runs) (test_run q) (mapped test_run runs q c)

  tests_right : IsOnAt (is_on s test.start) (Begins (runs_of (map test_run runs))) last
  tests_right =
      after_right (is_on s test.start) (is_on s start) (Begins (runs_of (map test_run runs))) (Begins (map whole_run runs)) last goes.tests (λ c l b. starts.on c (omega (arith, l)) b) (λ c l h. starts.only c (omega (arith, l)) h)
      (λ (x, c, e). let q = of_test x c in let f = ap (λ (r : Ran). r.cycle) q.2 in omega (arith, e, f))
      (λ c (x, i, e). let q = of_test x i in let f = ap (λ (r : Ran). r.cycle) q.2 in (whole_run q.0, mapped whole_run runs q.0 q.1, omega (arith, e, f)))
      (λ c (x, i, e). let q = unmapped whole_run runs x i in let f = ap (λ (r : Ran). r.cycle) q.2 in ((test_run q.0).run, test_of q.0 q.1, omega (arith, e, f)))

  tests_done : IsOnAt (is_on s test.done) (Ends (runs_of (map test_run runs))) last
  tests_done = test_does last (omega arith) tests_right

  told : (q : BranchRan) (c : ℕ) → Contains runs q → suc c ≡ suc q.cycle + q.test → c ≤ last → is_on s tested c ≡ q.taken
  told q c i e l = tells last (omega arith) tests_right (test_run q) c (mapped test_run runs q i) e l

  -- one of the two parts
  module _ (side : Bool) (wire : ℕ → Bool) (follows : IsAfter wire (λ t. is_on s test.done t && is_side side (is_on s tested t))) where
    record IsTaken (c : ℕ) : Type 0 where
      run : BranchRan
      in_runs : Contains runs run
      taken : is_side side run.taken ≡ true
      over : suc c ≡ suc run.cycle + run.test

    takes : (c : ℕ) → c < last → IsTaken c → (is_on s test.done c && is_side side (is_on s tested c)) ≡ true
    takes c l k =
        and_from (is_on s test.done c) (is_side side (is_on s tested c)) (tests_done.on c (omega (arith, l)) ((test_run k.run).run, test_of k.run k.in_runs, k.over))
        (ap (is_side side) (told k.run c k.in_runs k.over (omega (arith, l))) ∙ k.taken)

    was_taken : (c : ℕ) → c < last → (is_on s test.done c && is_side side (is_on s tested c)) ≡ true → IsTaken c
    was_taken c l h =
        let p = and_parts (is_on s test.done c) (is_side side (is_on s tested c)) h in
        let x = tests_done.only c (omega (arith, l)) p.0 in
        let q = of_test x.0 x.1 in
        let f = ap (λ (r : Ran). r.cycle) q.2 in
        let g = ap (λ (r : Ran). r.took) q.2 in
        let e = x.2 in
        let over : suc c ≡ suc q.0.cycle + q.0.test = omega (arith, e, f, g) in
        record { run = q.0; in_runs = q.1; taken = sym (ap (is_side side) (told q.0 c q.1 over (omega (arith, l)))) ∙ p.1; over = over }

    part_right : IsOnAt wire (Begins (part_runs side runs)) last
    part_right =
        after_right wire (λ t. is_on s test.done t && is_side side (is_on s tested t)) (Begins (part_runs side runs)) IsTaken last follows takes was_taken
        (λ (x, i, e). let q = part_in side runs x i in let f = ap (λ (r : Ran). r.cycle) q.3 in omega (arith, e, f))
        (λ c (x, i, e). let q = part_in side runs x i in let f = ap (λ (r : Ran). r.cycle) q.3 in record { run = q.0; in_runs = q.1; taken = q.2; over = omega (arith, e, f) })
        (λ c k. let o = k.over in (part_run k.run, in_part side runs k.run k.in_runs k.taken, o))

  chosen_right : IsOnAt (is_on s chosen.start) (Begins (part_runs true runs)) last
  chosen_right = part_right true (is_on s chosen.start) goes.goes

  left_right : IsOnAt (is_on s left.start) (Begins (part_runs false runs)) last
  left_right = part_right false (is_on s left.start) (record { off = goes.turns.off; on = λ t. goes.turns.on t ∙ ap (λ b. is_on s test.done t && b) (not_side (is_on s tested t)) })

  chosen_done : IsOnAt (is_on s chosen.done) (Ends (part_runs true runs)) last
  chosen_done = chosen_does last (omega arith) chosen_right

  left_done : IsOnAt (is_on s left.done) (Ends (part_runs false runs)) last
  left_done = left_does last (omega arith) left_right

  record IsOver (c : ℕ) : Type 0 where
    run : BranchRan
    in_runs : Contains runs run
    over : suc c ≡ (suc run.cycle + run.test) + run.part

  ends_on : (c : ℕ) → c < last → IsOver c → (is_on s chosen.done c || is_on s left.done c) ≡ true
  ends_on c l k = by k.run.taken refl
    where
      by : (b : Bool) → k.run.taken ≡ b → (is_on s chosen.done c || is_on s left.done c) ≡ true
      by true e = or_left (is_on s chosen.done c) (is_on s left.done c) (chosen_done.on c (omega (arith, l)) (part_run k.run, in_part true runs k.run k.in_runs e, k.over))
      by false e = or_right (is_on s chosen.done c) (is_on s left.done c) (left_done.on c (omega (arith, l)) (part_run k.run, in_part false runs k.run k.in_runs (ap (is_side false) e), k.over))

  was_over : (side : Bool) (c : ℕ) → Ends (part_runs side runs) c → IsOver c
  was_over side c (x, i, e) =
      let q = part_in side runs x i in
      let f = ap (λ (r : Ran). r.cycle) q.3 in
      let g = ap (λ (r : Ran). r.took) q.3 in
      record { run = q.0; in_runs = q.1; over = omega (arith, e, f, g) }

  ends_only : (c : ℕ) → c < last → (is_on s chosen.done c || is_on s left.done c) ≡ true → IsOver c
  ends_only c l h = by (one_of (is_on s chosen.done c) (is_on s left.done c) h)
    where
      by : (is_on s chosen.done c ≡ true) ⊎ (is_on s left.done c ≡ true) → IsOver c
      by (inl x) = was_over true c (chosen_done.only c (omega (arith, l)) x)
      by (inr x) = was_over false c (left_done.only c (omega (arith, l)) x)

  ends_right : IsOnAt (is_on s done) (Ends (map whole_run runs)) last
  ends_right =
      after_right (is_on s done) (λ t. is_on s chosen.done t || is_on s left.done t) (Ends (map whole_run runs)) IsOver last goes.ends ends_on ends_only
      (λ (x, i, e). let q = unmapped whole_run runs x i in let f = ap (λ (r : Ran). r.cycle) q.2 in let g = ap (λ (r : Ran). r.took) q.2 in omega (arith, e, f, g))
      (λ c (x, i, e). let q = unmapped whole_run runs x i in let f = ap (λ (r : Ran). r.cycle) q.2 in let g = ap (λ (r : Ran). r.took) q.2 in record { run = q.0; in_runs = q.1; over = omega (arith, e, f, g) })
      (λ c k. let o = k.over in (whole_run k.run, mapped whole_run runs k.run k.in_runs, omega (arith, o)))

  pub branch_works : BranchWorks s test chosen left done last runs
  branch_works = record { tests = tests_right; goes = chosen_right; turns = left_right; ends = ends_right }
