-- An FSM over all of its runs, cycle by cycle.
use Rattle.std.proofs.Common.{◌≡◌, ℕ, zero, suc, ◌+◌, ◌<◌, ◌≤◌, ◌⊎◌, inl, inr, Bool, true, false, ◌&&◌, ◌||◌, not, refl, sym, ap, subst, ◌∙◌, arith, List, [], ◌∷◌, ◌++◌, map}
use Rattle.std.specs.List.{Contains, flat_map}
use Rattle.std.proofs.lemmas.Bool.{and_parts, and_from, or_left, or_right, not_from_false}
use Rattle.sp_netlist.specs.declared.parts.Child.{Child}
use Rattle.sp_netlist.specs.Signals.{Signals}
use Rattle.sp_gates.specs.Tested.{is_on}
use Rattle.sp_ctrl.specs.Runs.{IsAfter, RunsFsm}
use Rattle.sp_part_runs.specs.BodiesRuns.{IsOnAt}
use Rattle.sp_part_runs.specs.ControlLaws.{MachineWorks}
use Rattle.sp_part_runs.specs.ControlMachines.{Turn, MachineRan, turns_took, whole_run, first_run, tests_from, bodies_from, nexts_from, tests_of, bodies_of, nexts_of, tests, bodies, nexts}
use Rattle.sp_part_runs.specs.ControlParts.{Ran, Begins, Ends, DoesRuns, Tested, runs_of, Tells}
use Rattle.sp_part_runs.proofs.ControlSteps.{no_element, here, there, one_of_more, mapped, unmapped, flat_in, in_flat, after_right, on_less, one_of, was_not}

-- a test that gave this is over in a cycle
pub record IsTested (all : List Tested) (goes : Bool) (c : ℕ) : Type 0 where
  test : Tested
  in_tests : Contains all test
  gave : test.goes ≡ goes
  over : suc c ≡ test.run.cycle + test.run.took

more_tested : (t : Tested) (all : List Tested) (goes : Bool) (c : ℕ) → IsTested all goes c → IsTested (t ∷ all) goes c
more_tested t all goes c h = record { test = h.test; in_tests = there t h.test all h.in_tests; gave = h.gave; over = h.over }

more_begun : (r : Ran) (runs : List Ran) (t : ℕ) → Begins runs t → Begins (r ∷ runs) t
more_begun r runs t (x, i, e) = (x, there r x runs i, e)

more_ended : (r : Ran) (runs : List Ran) (t : ℕ) → Ends runs t → Ends (r ∷ runs) t
more_ended r runs t (x, i, e) = (x, there r x runs i, e)

-- in one run from its first test on: a body begins where a test was over that gave 1
body_after : (p : ℕ) (turns : List Turn) (last c : ℕ) → IsTested (tests_from p turns last) true c → Begins (bodies_from p turns) (suc c)
body_after p [] last c h = by (one_of_more _ h.test [] h.in_tests)
  where
    by : (record { run = record { cycle = p; took = last }; goes = false } ≡ h.test) ⊎ Contains [] h.test → Begins [] (suc c)
    by (inl e) = absurd (let f = ap (λ (t : Tested). t.goes) e ∙ h.gave in cc (f))
    by (inr i) = absurd (no_element h.test i)
body_after p (x ∷ turns) last c h = by (one_of_more _ h.test _ h.in_tests) (body_after (p + x.test + x.body + x.next) turns last c)
  where
    by : (record { run = record { cycle = p; took = x.test }; goes = true } ≡ h.test) ⊎ Contains (tests_from (p + x.test + x.body + x.next) turns last) h.test
        → (IsTested (tests_from (p + x.test + x.body + x.next) turns last) true c → Begins (bodies_from (p + x.test + x.body + x.next) turns) (suc c)) → Begins (bodies_from p (x ∷ turns)) (suc c)
    by (inl e) rest = let f = ap (λ (t : Tested). t.run.cycle) e in let g = ap (λ (t : Tested). t.run.took) e in let o = h.over in (record { cycle = p + x.test; took = x.body }, here _ _, omega (arith, f, g, o))
    by (inr i) rest = more_begun _ _ (suc c) (rest (record { test = h.test; in_tests = i; gave = h.gave; over = h.over }))

test_before : (p : ℕ) (turns : List Turn) (last c : ℕ) → Begins (bodies_from p turns) (suc c) → IsTested (tests_from p turns last) true c
test_before p [] last c (r, i, e) = absurd (no_element r i)
test_before p (x ∷ turns) last c (r, i, e) = by (one_of_more _ r _ i) (test_before (p + x.test + x.body + x.next) turns last c)
  where
    by : (record { cycle = p + x.test; took = x.body } ≡ r) ⊎ Contains (bodies_from (p + x.test + x.body + x.next) turns) r
        → (Begins (bodies_from (p + x.test + x.body + x.next) turns) (suc c) → IsTested (tests_from (p + x.test + x.body + x.next) turns last) true c) → IsTested (tests_from p (x ∷ turns) last) true c
    by (inl f) rest = let g = ap (λ (q : Ran). q.cycle) f in record { test = record { run = record { cycle = p; took = x.test }; goes = true }; in_tests = here _ _; gave = refl; over = omega (arith, e, g) }
    by (inr j) rest = more_tested _ _ true c (rest (r, j, e))

-- a next part begins where a body is over
next_after : (p : ℕ) (turns : List Turn) (c : ℕ) → Ends (bodies_from p turns) c → Begins (nexts_from p turns) (suc c)
next_after p [] c (r, i, e) = absurd (no_element r i)
next_after p (x ∷ turns) c (r, i, e) = by (one_of_more _ r _ i) (next_after (p + x.test + x.body + x.next) turns c)
  where
    by : (record { cycle = p + x.test; took = x.body } ≡ r) ⊎ Contains (bodies_from (p + x.test + x.body + x.next) turns) r
        → (Ends (bodies_from (p + x.test + x.body + x.next) turns) c → Begins (nexts_from (p + x.test + x.body + x.next) turns) (suc c)) → Begins (nexts_from p (x ∷ turns)) (suc c)
    by (inl f) rest = let g = ap (λ (q : Ran). q.cycle) f in let k = ap (λ (q : Ran). q.took) f in (record { cycle = p + x.test + x.body; took = x.next }, here _ _, omega (arith, e, g, k))
    by (inr j) rest = more_begun _ _ (suc c) (rest (r, j, e))

body_before : (p : ℕ) (turns : List Turn) (c : ℕ) → Begins (nexts_from p turns) (suc c) → Ends (bodies_from p turns) c
body_before p [] c (r, i, e) = absurd (no_element r i)
body_before p (x ∷ turns) c (r, i, e) = by (one_of_more _ r _ i) (body_before (p + x.test + x.body + x.next) turns c)
  where
    by : (record { cycle = p + x.test + x.body; took = x.next } ≡ r) ⊎ Contains (nexts_from (p + x.test + x.body + x.next) turns) r
        → (Begins (nexts_from (p + x.test + x.body + x.next) turns) (suc c) → Ends (bodies_from (p + x.test + x.body + x.next) turns) c) → Ends (bodies_from p (x ∷ turns)) c
    by (inl f) rest = let g = ap (λ (q : Ran). q.cycle) f in (record { cycle = p + x.test; took = x.body }, here _ _, omega (arith, e, g))
    by (inr j) rest = more_ended _ _ c (rest (r, j, e))

-- a test begins in the first cycle, or where a next part is over
test_after : (p : ℕ) (turns : List Turn) (last c : ℕ) → (suc c ≡ p) ⊎ Ends (nexts_from p turns) c → Begins (runs_of (tests_from p turns last)) (suc c)
test_after p [] last c (inl e) = (record { cycle = p; took = last }, here (record { cycle = p; took = last }) [], e)
test_after p [] last c (inr (r, i, e)) = absurd (no_element r i)
test_after p (x ∷ turns) last c (inl e) = (record { cycle = p; took = x.test }, here (record { cycle = p; took = x.test }) (runs_of (tests_from (p + x.test + x.body + x.next) turns last)), e)
test_after p (x ∷ turns) last c (inr (r, i, e)) = by (one_of_more _ r _ i) (test_after (p + x.test + x.body + x.next) turns last c)
  where
    by : (record { cycle = p + x.test + x.body; took = x.next } ≡ r) ⊎ Contains (nexts_from (p + x.test + x.body + x.next) turns) r
        → ((suc c ≡ p + x.test + x.body + x.next) ⊎ Ends (nexts_from (p + x.test + x.body + x.next) turns) c → Begins (runs_of (tests_from (p + x.test + x.body + x.next) turns last)) (suc c))
        → Begins (runs_of (tests_from p (x ∷ turns) last)) (suc c)
    by (inl f) rest = let g = ap (λ (q : Ran). q.cycle) f in let k = ap (λ (q : Ran). q.took) f in more_begun _ _ (suc c) (rest (inl (omega (arith, e, g, k))))
    by (inr j) rest = more_begun _ _ (suc c) (rest (inr (r, j, e)))

before_test : (p : ℕ) (turns : List Turn) (last c : ℕ) → Begins (runs_of (tests_from p turns last)) (suc c) → (suc c ≡ p) ⊎ Ends (nexts_from p turns) c
before_test p [] last c (r, i, e) = by (one_of_more (record { cycle = p; took = last }) r [] i)
  where
    by : (record { cycle = p; took = last } ≡ r) ⊎ Contains [] r → (suc c ≡ p) ⊎ Ends [] c
    by (inl f) = let g = ap (λ (q : Ran). q.cycle) f in inl (omega (arith, e, g))
    by (inr j) = absurd (no_element r j)
before_test p (x ∷ turns) last c (r, i, e) = by (one_of_more (record { cycle = p; took = x.test }) r (runs_of (tests_from (p + x.test + x.body + x.next) turns last)) i) (before_test (p + x.test + x.body + x.next) turns last c)
  where
    later : (suc c ≡ p + x.test + x.body + x.next) ⊎ Ends (nexts_from (p + x.test + x.body + x.next) turns) c → Ends (nexts_from p (x ∷ turns)) c
    later (inl f) = (record { cycle = p + x.test + x.body; took = x.next }, here _ _, f)
    later (inr h) = more_ended _ _ c h

    by : (record { cycle = p; took = x.test } ≡ r) ⊎ Contains (runs_of (tests_from (p + x.test + x.body + x.next) turns last)) r
        → (Begins (runs_of (tests_from (p + x.test + x.body + x.next) turns last)) (suc c) → (suc c ≡ p + x.test + x.body + x.next) ⊎ Ends (nexts_from (p + x.test + x.body + x.next) turns) c)
        → (suc c ≡ p) ⊎ Ends (nexts_from p (x ∷ turns)) c
    by (inl f) rest = let g = ap (λ (q : Ran). q.cycle) f in inl (omega (arith, e, g))
    by (inr j) rest = inr (later (rest (r, j, e)))

-- the last test gave 0, and no other
last_over : (p : ℕ) (turns : List Turn) (last c : ℕ) → IsTested (tests_from p turns last) false c → suc c ≡ p + turns_took turns last
last_over p [] last c h = by (one_of_more _ h.test [] h.in_tests)
  where
    by : (record { run = record { cycle = p; took = last }; goes = false } ≡ h.test) ⊎ Contains [] h.test → suc c ≡ p + last
    by (inl e) = let f = ap (λ (t : Tested). t.run.cycle) e in let g = ap (λ (t : Tested). t.run.took) e in let o = h.over in omega (arith, f, g, o)
    by (inr i) = absurd (no_element h.test i)
last_over p (x ∷ turns) last c h = by (one_of_more _ h.test _ h.in_tests) (last_over (p + x.test + x.body + x.next) turns last c)
  where
    by : (record { run = record { cycle = p; took = x.test }; goes = true } ≡ h.test) ⊎ Contains (tests_from (p + x.test + x.body + x.next) turns last) h.test
        → (IsTested (tests_from (p + x.test + x.body + x.next) turns last) false c → suc c ≡ p + x.test + x.body + x.next + turns_took turns last) → suc c ≡ p + (x.test + (x.body + (x.next + turns_took turns last)))
    by (inl e) rest = absurd (let f = ap (λ (t : Tested). t.goes) e ∙ h.gave in cc (f))
    by (inr i) rest = let r = rest (record { test = h.test; in_tests = i; gave = h.gave; over = h.over }) in omega (arith, r)

over_last : (p : ℕ) (turns : List Turn) (last c : ℕ) → suc c ≡ p + turns_took turns last → IsTested (tests_from p turns last) false c
over_last p [] last c e = record { test = record { run = record { cycle = p; took = last }; goes = false }; in_tests = here (record { run = record { cycle = p; took = last }; goes = false }) []; gave = refl; over = e }
over_last p (x ∷ turns) last c e = more_tested _ _ false c (over_last (p + x.test + x.body + x.next) turns last c (omega (arith, e)))

-- of all runs: a test, its runs, and the runs of bodies and next parts are those of one of them
test_of : (runs : List MachineRan) (goes : Bool) (c : ℕ) → IsTested (tests runs) goes c → (r : MachineRan) × Contains runs r × IsTested (tests_of r) goes c
test_of runs goes c h = let q = flat_in tests_of runs h.test h.in_tests in (q.0, q.1, record { test = h.test; in_tests = q.2; gave = h.gave; over = h.over })

of_tests : (runs : List MachineRan) (r : MachineRan) (goes : Bool) (c : ℕ) → Contains runs r → IsTested (tests_of r) goes c → IsTested (tests runs) goes c
of_tests runs r goes c i h = record { test = h.test; in_tests = in_flat tests_of runs r h.test i h.in_tests; gave = h.gave; over = h.over }

begun_of : (f : MachineRan → List Ran) (runs : List MachineRan) (t : ℕ) → Begins (flat_map f runs) t → (r : MachineRan) × Contains runs r × Begins (f r) t
begun_of f runs t (x, i, e) = let q = flat_in f runs x i in (q.0, q.1, (x, q.2, e))

of_begun : (f : MachineRan → List Ran) (runs : List MachineRan) (r : MachineRan) (t : ℕ) → Contains runs r → Begins (f r) t → Begins (flat_map f runs) t
of_begun f runs r t i (x, j, e) = (x, in_flat f runs r x i j, e)

ended_of : (f : MachineRan → List Ran) (runs : List MachineRan) (t : ℕ) → Ends (flat_map f runs) t → (r : MachineRan) × Contains runs r × Ends (f r) t
ended_of f runs t (x, i, e) = let q = flat_in f runs x i in (q.0, q.1, (x, q.2, e))

of_ended : (f : MachineRan → List Ran) (runs : List MachineRan) (r : MachineRan) (t : ℕ) → Contains runs r → Ends (f r) t → Ends (flat_map f runs) t
of_ended f runs r t i (x, j, e) = (x, in_flat f runs r x i j, e)

test_begun : (runs : List MachineRan) (t : ℕ) → Begins (runs_of (tests runs)) t → (r : MachineRan) × Contains runs r × Begins (runs_of (tests_of r)) t
test_begun runs t (x, i, e) =
    let u = unmapped (λ (y : Tested). y.run) (tests runs) x i in
    let q = flat_in tests_of runs u.0 u.1 in
    (q.0, q.1, (x, subst (λ y. Contains (runs_of (tests_of q.0)) y) u.2 (mapped (λ (y : Tested). y.run) (tests_of q.0) u.0 q.2), e))

of_test : (runs : List MachineRan) (r : MachineRan) (t : ℕ) → Contains runs r → Begins (runs_of (tests_of r)) t → Begins (runs_of (tests runs)) t
of_test runs r t i (x, j, e) =
    let u = unmapped (λ (y : Tested). y.run) (tests_of r) x j in
    (x, subst (λ y. Contains (runs_of (tests runs)) y) u.2 (mapped (λ (y : Tested). y.run) (tests runs) u.0 (in_flat tests_of runs r u.0 i u.1)), e)

-- no part but the whole begins in the first cycle
later_tests : (p : ℕ) (turns : List Turn) (last : ℕ) → 1 ≤ p → Begins (runs_of (tests_from p turns last)) 0 → ⊥
later_tests p [] last l (r, i, e) = by (one_of_more (record { cycle = p; took = last }) r [] i)
  where
    by : (record { cycle = p; took = last } ≡ r) ⊎ Contains [] r → ⊥
    by (inl f) = let g = ap (λ (q : Ran). q.cycle) f in omega (arith, e, g, l)
    by (inr j) = no_element r j
later_tests p (x ∷ turns) last l (r, i, e) = by (one_of_more (record { cycle = p; took = x.test }) r (runs_of (tests_from (p + x.test + x.body + x.next) turns last)) i) (later_tests (p + x.test + x.body + x.next) turns last (omega (arith, l)))
  where
    by : (record { cycle = p; took = x.test } ≡ r) ⊎ Contains (runs_of (tests_from (p + x.test + x.body + x.next) turns last)) r → (Begins (runs_of (tests_from (p + x.test + x.body + x.next) turns last)) 0 → ⊥) → ⊥
    by (inl f) rest = let g = ap (λ (q : Ran). q.cycle) f in omega (arith, e, g, l)
    by (inr j) rest = rest (r, j, e)

later_bodies : (p : ℕ) (turns : List Turn) → 1 ≤ p → Begins (bodies_from p turns) 0 → ⊥
later_bodies p [] l (r, i, e) = no_element r i
later_bodies p (x ∷ turns) l (r, i, e) = by (one_of_more _ r _ i) (later_bodies (p + x.test + x.body + x.next) turns (omega (arith, l)))
  where
    by : (record { cycle = p + x.test; took = x.body } ≡ r) ⊎ Contains (bodies_from (p + x.test + x.body + x.next) turns) r → (Begins (bodies_from (p + x.test + x.body + x.next) turns) 0 → ⊥) → ⊥
    by (inl f) rest = let g = ap (λ (q : Ran). q.cycle) f in omega (arith, e, g, l)
    by (inr j) rest = rest (r, j, e)

later_nexts : (p : ℕ) (turns : List Turn) → 1 ≤ p → Begins (nexts_from p turns) 0 → ⊥
later_nexts p [] l (r, i, e) = no_element r i
later_nexts p (x ∷ turns) l (r, i, e) = by (one_of_more _ r _ i) (later_nexts (p + x.test + x.body + x.next) turns (omega (arith, l)))
  where
    by : (record { cycle = p + x.test + x.body; took = x.next } ≡ r) ⊎ Contains (nexts_from (p + x.test + x.body + x.next) turns) r → (Begins (nexts_from (p + x.test + x.body + x.next) turns) 0 → ⊥) → ⊥
    by (inl f) rest = let g = ap (λ (q : Ran). q.cycle) f in omega (arith, e, g, l)
    by (inr j) rest = rest (r, j, e)

module _ (s : Signals) (start : ℕ) (first test : Child) (tested : ℕ) (body next : Child) (done last : ℕ) (runs : List MachineRan) (goes : RunsFsm s start first test tested body next done) (starts : IsOnAt (is_on s start) (Begins (map whole_run runs)) last)
    (first_does : DoesRuns (is_on s first.start) (is_on s first.done) (map first_run runs) last) (test_does : DoesRuns (is_on s test.start) (is_on s test.done) (runs_of (tests runs)) last) (tells : Tells (is_on s test.start) (is_on s tested) (tests runs) last)
    (body_does : DoesRuns (is_on s body.start) (is_on s body.done) (bodies runs) last) (next_does : DoesRuns (is_on s next.start) (is_on s next.done) (nexts runs) last) where
  first_right : IsOnAt (is_on s first.start) (Begins (map first_run runs)) last
  first_right =
      after_right (is_on s first.start) (is_on s start) (Begins (map first_run runs)) (Begins (map whole_run runs)) last goes.begins (λ c l b. starts.on c (omega (arith, l)) b) (λ c l h. starts.only c (omega (arith, l)) h)
      (λ (x, i, e). let q = unmapped first_run runs x i in let f = ap (λ (r : Ran). r.cycle) q.2 in omega (arith, e, f))
      (λ c (x, i, e). let q = unmapped first_run runs x i in let f = ap (λ (r : Ran). r.cycle) q.2 in (whole_run q.0, mapped whole_run runs q.0 q.1, omega (arith, e, f)))
      (λ c (x, i, e). let q = unmapped whole_run runs x i in let f = ap (λ (r : Ran). r.cycle) q.2 in (first_run q.0, mapped first_run runs q.0 q.1, omega (arith, e, f)))

  first_done : IsOnAt (is_on s first.done) (Ends (map first_run runs)) last
  first_done = first_does last (omega arith) first_right

  -- where the tests are right up to a cycle
  module _ (n : ℕ) (within : n ≤ last) (tests_right : IsOnAt (is_on s test.start) (Begins (runs_of (tests runs))) n) where
    tests_done : IsOnAt (is_on s test.done) (Ends (runs_of (tests runs))) n
    tests_done = test_does n within tests_right

    told : (k : Tested) (c : ℕ) → Contains (tests runs) k → suc c ≡ k.run.cycle + k.run.took → c ≤ n → is_on s tested c ≡ k.goes
    told k c i e l = tells n within tests_right k c i e l

    over_done : (all : Bool) (c : ℕ) → c ≤ n → IsTested (tests runs) all c → (is_on s test.done c ≡ true) × (is_on s tested c ≡ all)
    over_done all c l h = (tests_done.on c l (h.test.run, mapped (λ (y : Tested). y.run) (tests runs) h.test h.in_tests, h.over), told h.test c h.in_tests h.over l ∙ h.gave)

    done_over : (c : ℕ) → c ≤ n → is_on s test.done c ≡ true → IsTested (tests runs) (is_on s tested c) c
    done_over c l h =
        let x = tests_done.only c l h in
        let u = unmapped (λ (y : Tested). y.run) (tests runs) x.0 x.1 in
        let e = x.2 in
        let f = ap (λ (r : Ran). r.cycle) u.2 in
        let g = ap (λ (r : Ran). r.took) u.2 in
        let over : suc c ≡ u.0.run.cycle + u.0.run.took = omega (arith, e, f, g) in
        record { test = u.0; in_tests = u.1; gave = sym (told u.0 c u.1 over l); over = over }

    body_right : IsOnAt (is_on s body.start) (Begins (bodies runs)) (suc n)
    body_right =
        after_right (is_on s body.start) (λ t. is_on s test.done t && is_on s tested t) (Begins (bodies runs)) (IsTested (tests runs) true) (suc n) goes.goes
        (λ c l h. let d = over_done true c (omega (arith, l)) h in and_from (is_on s test.done c) (is_on s tested c) d.0 d.1)
        (λ c l h. let p = and_parts (is_on s test.done c) (is_on s tested c) h in subst (λ b. IsTested (tests runs) b c) p.1 (done_over c (omega (arith, l)) p.0))
        (λ b. let q = begun_of bodies_of runs 0 b in later_bodies (suc q.0.cycle + q.0.first) q.0.turns (omega arith) q.2)
        (λ c b. let q = begun_of bodies_of runs (suc c) b in of_tests runs q.0 true c q.1 (test_before (suc q.0.cycle + q.0.first) q.0.turns q.0.last c q.2))
        (λ c h. let q = test_of runs true c h in of_begun bodies_of runs q.0 (suc c) q.1 (body_after (suc q.0.cycle + q.0.first) q.0.turns q.0.last c q.2))

    ends_right : IsOnAt (is_on s done) (Ends (map whole_run runs)) (suc n)
    ends_right =
        after_right (is_on s done) (λ t. is_on s test.done t && not (is_on s tested t)) (Ends (map whole_run runs)) (IsTested (tests runs) false) (suc n) goes.ends
        (λ c l h. let d = over_done false c (omega (arith, l)) h in and_from (is_on s test.done c) (not (is_on s tested c)) d.0 (not_from_false (is_on s tested c) d.1))
        (λ c l h. let p = and_parts (is_on s test.done c) (not (is_on s tested c)) h in subst (λ b. IsTested (tests runs) b c) (was_not (is_on s tested c) p.1) (done_over c (omega (arith, l)) p.0))
        (λ (x, i, e). let q = unmapped whole_run runs x i in let f = ap (λ (r : Ran). r.cycle) q.2 in let g = ap (λ (r : Ran). r.took) q.2 in omega (arith, e, f, g))
        (λ c (x, i, e). let q = unmapped whole_run runs x i in let f = ap (λ (r : Ran). r.cycle) q.2 in let g = ap (λ (r : Ran). r.took) q.2 in
        of_tests runs q.0 false c q.1 (over_last (suc q.0.cycle + q.0.first) q.0.turns q.0.last c (omega (arith, e, f, g))))
        (λ c h. let q = test_of runs false c h in let o = last_over (suc q.0.cycle + q.0.first) q.0.turns q.0.last c q.2 in (whole_run q.0, mapped whole_run runs q.0 q.1, omega (arith, o)))

    -- so are the next parts, and with them the tests of a cycle more
    module _ (more : suc n ≤ last) where
      body_done : IsOnAt (is_on s body.done) (Ends (bodies runs)) (suc n)
      body_done = body_does (suc n) more body_right

      next_right : IsOnAt (is_on s next.start) (Begins (nexts runs)) (suc n)
      next_right =
          after_right (is_on s next.start) (is_on s body.done) (Begins (nexts runs)) (Ends (bodies runs)) (suc n) goes.steps (λ c l e. body_done.on c (omega (arith, l)) e) (λ c l h. body_done.only c (omega (arith, l)) h)
          (λ b. let q = begun_of nexts_of runs 0 b in later_nexts (suc q.0.cycle + q.0.first) q.0.turns (omega arith) q.2)
          (λ c b. let q = begun_of nexts_of runs (suc c) b in of_ended bodies_of runs q.0 c q.1 (body_before (suc q.0.cycle + q.0.first) q.0.turns c q.2))
          (λ c e. let q = ended_of bodies_of runs c e in of_begun nexts_of runs q.0 (suc c) q.1 (next_after (suc q.0.cycle + q.0.first) q.0.turns c q.2))

      next_done : IsOnAt (is_on s next.done) (Ends (nexts runs)) (suc n)
      next_done = next_does (suc n) more next_right

      tests_next : IsOnAt (is_on s test.start) (Begins (runs_of (tests runs))) (suc n)
      tests_next =
          after_right (is_on s test.start) (λ t. is_on s first.done t || is_on s next.done t) (Begins (runs_of (tests runs))) (λ c. Ends (map first_run runs) c ⊎ Ends (nexts runs) c) (suc n) goes.tests is_cause was_cause
          (λ b. let q = test_begun runs 0 b in later_tests (suc q.0.cycle + q.0.first) q.0.turns q.0.last (omega arith) q.2) back forth
        where
          is_cause : (c : ℕ) → c < suc n → Ends (map first_run runs) c ⊎ Ends (nexts runs) c → (is_on s first.done c || is_on s next.done c) ≡ true
          is_cause c l (inl e) = or_left (is_on s first.done c) (is_on s next.done c) (first_done.on c (omega (arith, l, within)) e)
          is_cause c l (inr e) = or_right (is_on s first.done c) (is_on s next.done c) (next_done.on c (omega (arith, l)) e)

          was_cause : (c : ℕ) → c < suc n → (is_on s first.done c || is_on s next.done c) ≡ true → Ends (map first_run runs) c ⊎ Ends (nexts runs) c
          was_cause c l h = by (one_of (is_on s first.done c) (is_on s next.done c) h)
            where
              by : (is_on s first.done c ≡ true) ⊎ (is_on s next.done c ≡ true) → Ends (map first_run runs) c ⊎ Ends (nexts runs) c
              by (inl x) = inl (first_done.only c (omega (arith, l, within)) x)
              by (inr x) = inr (next_done.only c (omega (arith, l)) x)

          back : (c : ℕ) → Begins (runs_of (tests runs)) (suc c) → Ends (map first_run runs) c ⊎ Ends (nexts runs) c
          back c b = by (test_begun runs (suc c) b)
            where
              by : (r : MachineRan) × Contains runs r × Begins (runs_of (tests_of r)) (suc c) → Ends (map first_run runs) c ⊎ Ends (nexts runs) c
              by (r, i, k) = side (before_test (suc r.cycle + r.first) r.turns r.last c k)
                where
                  side : (suc c ≡ suc r.cycle + r.first) ⊎ Ends (nexts_of r) c → Ends (map first_run runs) c ⊎ Ends (nexts runs) c
                  side (inl e) = inl (first_run r, mapped first_run runs r i, e)
                  side (inr e) = inr (of_ended nexts_of runs r c i e)

          forth : (c : ℕ) → Ends (map first_run runs) c ⊎ Ends (nexts runs) c → Begins (runs_of (tests runs)) (suc c)
          forth c (inl (x, i, e)) =
              let q = unmapped first_run runs x i in
              let f = ap (λ (r : Ran). r.cycle) q.2 in
              let g = ap (λ (r : Ran). r.took) q.2 in
              of_test runs q.0 (suc c) q.1 (test_after (suc q.0.cycle + q.0.first) q.0.turns q.0.last c (inl (omega (arith, e, f, g))))
          forth c (inr e) = let q = ended_of nexts_of runs c e in of_test runs q.0 (suc c) q.1 (test_after (suc q.0.cycle + q.0.first) q.0.turns q.0.last c (inr q.2))

  tests_up_to : (n : ℕ) → n ≤ last → IsOnAt (is_on s test.start) (Begins (runs_of (tests runs))) n
  tests_up_to zero l = record { on = λ t m b. absurd (never t m b); only = λ t m h. absurd (off t m h) }
    where
      never : (t : ℕ) → t ≤ 0 → Begins (runs_of (tests runs)) t → ⊥
      never zero m b = let q = test_begun runs 0 b in later_tests (suc q.0.cycle + q.0.first) q.0.turns q.0.last (omega arith) q.2
      never (suc t) m b = omega (arith, m)

      off : (t : ℕ) → t ≤ 0 → is_on s test.start t ≡ true → ⊥
      off zero m h = let e = sym goes.tests.off ∙ h in cc (e)
      off (suc t) m h = omega (arith, m)
  tests_up_to (suc n) l = tests_next n (omega (arith, l)) (tests_up_to n (omega (arith, l))) l

  tests_all : IsOnAt (is_on s test.start) (Begins (runs_of (tests runs))) last
  tests_all = tests_up_to last (omega arith)

  bodies_all : IsOnAt (is_on s body.start) (Begins (bodies runs)) last
  bodies_all = on_less _ _ last (suc last) (omega arith) (body_right last (omega arith) tests_all)

  bodies_done : IsOnAt (is_on s body.done) (Ends (bodies runs)) last
  bodies_done = body_does last (omega arith) bodies_all

  nexts_all : IsOnAt (is_on s next.start) (Begins (nexts runs)) last
  nexts_all =
      after_right (is_on s next.start) (is_on s body.done) (Begins (nexts runs)) (Ends (bodies runs)) last goes.steps (λ c l e. bodies_done.on c (omega (arith, l)) e) (λ c l h. bodies_done.only c (omega (arith, l)) h)
      (λ b. let q = begun_of nexts_of runs 0 b in later_nexts (suc q.0.cycle + q.0.first) q.0.turns (omega arith) q.2)
      (λ c b. let q = begun_of nexts_of runs (suc c) b in of_ended bodies_of runs q.0 c q.1 (body_before (suc q.0.cycle + q.0.first) q.0.turns c q.2))
      (λ c e. let q = ended_of bodies_of runs c e in of_begun nexts_of runs q.0 (suc c) q.1 (next_after (suc q.0.cycle + q.0.first) q.0.turns c q.2))

  pub machine_works : MachineWorks s first test body next done last runs
  machine_works = record {
    begins = first_right;
    tested = tests_all;
    goes = bodies_all;
    steps = nexts_all;
    ends = on_less _ _ last (suc last) (omega arith) (ends_right last (omega arith) tests_all);
  }
