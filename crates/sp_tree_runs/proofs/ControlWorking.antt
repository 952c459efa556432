-- The worked branch, part by part.
use Rattle.std.proofs.Common.{◌≡◌, ℕ, zero, suc, ◌+◌, ◌≤◌, nat_eq, ◌==◌, ◌&&◌, ◌||◌, not, Bool, true, false, if◌then◌else◌, [], ◌∷◌, map, None, refl, sym, ap, subst, ◌∙◌, arith}
use Rattle.std.proofs.lemmas.Bool.{eqb-true, eq-eqb, ne_eqb}
use Rattle.std.proofs.lemmas.List.Elements.{All-nil, All-cons}
use Rattle.sp_gates.specs.Tested.{is_on}
use Rattle.sp_ctrl.specs.Runs.{RunsBranch}
use Rattle.sp_part_runs.specs.ControlBranches.{test_run}
use Rattle.sp_part_runs.specs.ControlParts.{Ran, Ends, DoesRuns, Tested, Tells, runs_of}
use Rattle.sp_machine.specs.Examples.{always, chosen, chosen_plan}
use Rattle.sp_machine.specs.Timeline.{timed}
use Rattle.sp_node_runs.specs.ControlLaws.{Does}
use Rattle.sp_node_runs.specs.ControlRuns.{rans, branch_of}
use Rattle.sp_node_runs.specs.FitsLaws.{AllFit}
use Rattle.sp_node_runs.specs.Runs.{AreWithin, side_runs}
use Rattle.sp_core.specs.ExampleForms.{lit, write}
use Rattle.sp_core.specs.History.{gave, touched}
use Rattle.sp_core.specs.PlainCore.{inner}
use Rattle.sp_fitting.specs.Fitting.{EntriesFit}
use Rattle.sp_tree_runs.specs.ControlExample.{test, taken, node, runs, waves, whole, over}
use Rattle.sp_tree_runs.specs.ControlLaws.{TreesDo}
use Rattle.sp_tree_runs.specs.ControlTrees.{Controls}

-- whether a word of a bit is 1
bit_is : (b : Bool) → ((if b then 1 else 0) == 1) ≡ b
bit_is true = refl
bit_is false = refl

next_cycle : (t c : ℕ) → nat_eq (suc t) (suc c) ≡ nat_eq t c
next_cycle t c = by (nat_eq t c) refl
  where
    by : (b : Bool) → nat_eq t c ≡ b → nat_eq (suc t) (suc c) ≡ b
    by true e = eq-eqb (suc t) (suc c) (ap suc (eqb-true t c e))
    by false e = ne_eqb (suc t) (suc c) (λ h. let f = eq-eqb t c (omega (arith, h)) in absurd (cc (e, f)))

goes_on : (t c : ℕ) → ((if nat_eq (suc t) (suc c) then 1 else 0) == 1) ≡ ((if nat_eq t c then 1 else 0) == 1)
goes_on t c = ap (λ b. (if b then 1 else 0) == 1) (next_cycle t c)

-- a part with one run, which is done in one cycle
one_run : (start done : ℕ → Bool) (c took d last : ℕ) → suc d ≡ c + took → ((t : ℕ) → done t ≡ nat_eq t d) → DoesRuns start done (record { cycle = c; took = took } ∷ []) last
one_run start done c took d last e is t l starts = record { on = on; only = λ u m h. (record { cycle = c; took = took }, (0, omega arith, refl), (let f : u ≡ d = eqb-true u d (sym (is u) ∙ h) in omega (arith, e, f))) }
  where
    on : (u : ℕ) → u ≤ t → Ends (record { cycle = c; took = took } ∷ []) u → done u ≡ true
    on u m (r, (zero, k, f), h) = let a = ap (λ (x : Ran). x.cycle) f in let b = ap (λ (x : Ran). x.took) f in is u ∙ eq-eqb u d (omega (arith, e, h, a, b))
    on u m (r, (suc i, k, f), h) = absurd (omega (arith, k))

-- and one that is never started
no_run : (start done : ℕ → Bool) (last : ℕ) → ((t : ℕ) → done t ≡ false) → DoesRuns start done [] last
no_run start done last is t l starts = record { on = λ u m (r, (i, k, f), h). absurd (omega (arith, k)); only = λ u m h. absurd (let e = sym (is u) ∙ h in cc (e)) }

both_same : (b : Bool) → (((if b then 1 else 0) == 1) && ((if b then 1 else 0) == 1)) ≡ ((if b then 1 else 0) == 1)
both_same true = refl
both_same false = refl

never_both : (b : Bool) → (((if b then 1 else 0) == 1) && not ((if b then 1 else 0) == 1)) ≡ false
never_both true = refl
never_both false = refl

or_none : (b : Bool) → (((if b then 1 else 0) == 1) || false) ≡ ((if b then 1 else 0) == 1)
or_none true = refl
or_none false = refl

circuit : RunsBranch waves 0 (record { start = 1; done = 2 }) 3 (record { start = 4; done = 5 }) (record { start = 6; done = 7 }) 8
circuit = record {
  tests = record { off = refl; on = λ t. goes_on t 0 };
  goes = record { off = refl; on = λ t. goes_on t 4 ∙ sym (both_same (nat_eq t 4)) };
  turns = record { off = refl; on = λ t. sym (never_both (nat_eq t 4)) };
  ends = record { off = refl; on = λ t. goes_on t 7 ∙ sym (or_none (nat_eq t 7)) };
}

tests_are : map (λ r. test_run (branch_of chosen chosen_plan (always 0) 1 0 test taken (inner [] [] [] None) r)) runs ≡ record { run = record { cycle = 1; took = 4 }; goes = true } ∷ []
unfolding timed chosen
tests_are = refl

bodies_are : rans chosen chosen_plan (always 0) taken 2 3 (side_runs chosen chosen_plan (always 0) test 1 true runs) ≡ record { cycle = 5; took = 3 } ∷ []
unfolding timed chosen
bodies_are = refl

pub lasts : rans chosen chosen_plan (always 0) node 1 0 runs ≡ over
unfolding timed chosen
lasts = refl

tells : (last : ℕ) → Tells (is_on waves 1) (is_on waves 3) (record { run = record { cycle = 1; took = 4 }; goes = true } ∷ []) last
tells last t l starts e c (zero, k, f) h m =
    let a = ap (λ (x : Tested). x.run.cycle) f in
    let b = ap (λ (x : Tested). x.run.took) f in
    let now : c ≡ 4 = omega (arith, h, a, b) in
    ap (is_on waves 3) now ∙ ap (λ (x : Tested). x.goes) f
tells last t l starts e c (suc i, k, f) h m = absurd (omega (arith, k))

pub control : (last : ℕ) → Controls chosen chosen_plan (always 0) waves last node 1 0 runs whole
control last = record {
  test = record { start = 1; done = 2 };
  tested = 3;
  chosen = record { start = 4; done = 5 };
  left = record { start = 6; done = 7 };
  circuit = circuit;
  does = subst (λ ts. DoesRuns (is_on waves 1) (is_on waves 2) (runs_of ts) last) (sym tests_are) (one_run (is_on waves 1) (is_on waves 2) 1 4 4 last (omega arith) (λ t. bit_is (nat_eq t 4)));
  tells = subst (λ ts. Tells (is_on waves 1) (is_on waves 3) ts last) (sym tests_are) (tells last);
  one = subst (λ rs. DoesRuns (is_on waves 4) (is_on waves 5) rs last) (sym bodies_are) (one_run (is_on waves 4) (is_on waves 5) 5 3 7 last (omega arith) (λ t. bit_is (nat_eq t 7)));
  other = no_run (is_on waves 6) (is_on waves 7) last (λ t. refl);
}

fits : AllFit chosen chosen_plan (always 0) node runs
fits = (((omega arith, (omega arith, (omega arith, tt))), (tt, All-cons (EntriesFit (lit 1 ∷ write 1 (0 ∷ []) ∷ [])) (gave 1 ∷ touched [] 1 ∷ []) [] (omega arith, (omega arith, tt)) (All-nil (EntriesFit (lit 1 ∷ write 1 (0 ∷ []) ∷ []))))), tt)

within : AreWithin chosen chosen_plan (always 0) node 1 0 0 9 runs
unfolding timed chosen
within = (omega arith, omega arith)

pub does : TreesDo chosen chosen_plan (always 0) → (last : ℕ) → Does waves whole over last
does work last = subst (λ rs. Does waves whole rs last) lasts (work waves last node 1 0 0 9 runs whole (tt, tt) fits within (control last))
