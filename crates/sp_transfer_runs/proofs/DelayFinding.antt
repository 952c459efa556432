-- Delays that are chosen by paths are taken by all transfers of a run.
use Rattle.std.proofs.Common.{◌≡◌, ℕ, suc, ◌+◌, ◌<◌, ◌≤◌, ◌==◌, nat_lt, Bool, true, false, if◌then◌else◌, List, [], ◌∷◌, map, length, refl, sym, ap, subst, ◌∙◌, arith, eq-eqb, ne_eqb, lt-ltb, le-ltb}
use Rattle.sp_core.specs.Cost.{waits}
use Rattle.sp_core.specs.Events.{At}
use Rattle.sp_core.specs.History.{History}
use Rattle.sp_core.specs.Numbering.{counters_size, node_count, node_count_in, number_count}
use Rattle.sp_core.specs.PlainCore.{PlainCounter, PlainNode, PlainStages, inner, outer, fsm, branch, load, store, sparse, no_stage, more_stage, PlainCore}
use Rattle.sp_plan.specs.PlainPlan.{PlainPlan}
use Rattle.sp_machine.specs.Transfers.{Delays}
use Rattle.sp_node_runs.specs.Runs.{Placed, side_runs, body_runs, stage_runs}
use Rattle.sp_transfer_runs.specs.Channels.{AreTaken}
use Rattle.sp_transfer_runs.specs.Choice.{AreApart, Moved, moved_in, chosen, same_path, DelaysAreChosen}
use Rattle.sp_transfer_runs.specs.Delays.{Went, went_in, whole_went, side_went, body_went, stage_went, each_went, went_at, went_beside, moved_by, delays_of, AllTaken, StagesTaken, DelaysAreThere}
use Rattle.sp_transfer_runs.proofs.DelayPaths.{Apart, apart_moved, sides_apart, bodies_apart, stages_apart}
use Rattle.sp_transfer_runs.proofs.DelayPlaces.{sides_placed, bodies_placed, stages_placed}

moved_same : (runs : List Placed) → map moved_by (map went_in runs) ≡ moved_in runs
moved_same [] = refl
moved_same (r ∷ runs) = ap (λ ms. record { path = r.standing.path; words = (moved_by (went_in r)).words } ∷ ms) (moved_same runs)

chosen_small : (took : ℕ → ℕ) (d : ℕ) → ((i : ℕ) → took i ≤ d) → (asked : ℕ) (ms : List Moved) (path : List At) (ask : ℕ) → chosen took asked ms path ask ≤ d
chosen_small took d l asked [] path ask = omega arith
chosen_small took d l asked (m ∷ ms) path ask = choose (same_path m.path path) (chosen_small took d l (asked + waits m.words) ms path ask)
  where
    choose : (b : Bool) → chosen took (asked + waits m.words) ms path ask ≤ d → (if b then took (asked + ask) else chosen took (asked + waits m.words) ms path ask) ≤ d
    choose true small = l (asked + ask)
    choose false small = small

less_not : (j k : ℕ) → j < k → (j == k) ≡ false
less_not j k l = ne_eqb j k (λ e. omega (arith, l, e))

at_own : (node : PlainNode) (k : ℕ) (ws : List Went) → went_at node k k ws ≡ ws
at_own (outer counters style owned stages) k ws = ap (λ b. if b then ws else went_beside counters stages stages k 0 (suc k) k ws) (eq-eqb k k refl)
at_own (fsm start state test body next) k ws = ap (λ b. if b then ws else went_at body (suc k) k (each_went (body_went k) ws)) (eq-eqb k k refl)
at_own (branch test first second) k ws =
    ap (λ b. if b then ws else (if nat_lt k (suc k + node_count first) then went_at first (suc k) k (each_went (side_went k true) ws) else went_at second (suc k + node_count first) k (each_went (side_went k false) ws))) (eq-eqb k k refl)
at_own (inner counters owned ops comb) k ws = ap (λ b. if b then ws else []) (eq-eqb k k refl)
at_own (load r m spans) k ws = ap (λ b. if b then ws else []) (eq-eqb k k refl)
at_own (store r m spans) k ws = ap (λ b. if b then ws else []) (eq-eqb k k refl)
at_own (sparse kind r m places spans count par) k ws = ap (λ b. if b then ws else []) (eq-eqb k k refl)

module _ (law : DelaysAreChosen) (core : PlainCore) (h : History) (took : (node ask : ℕ) → ℕ) where
  abbrev delays : Delays
  delays = delays_of core h took

  -- the runs of each node below are found from the root as from here
  abbrev Finds : PlainNode → (node : ℕ) → List Went → Type 0
  Finds node j ws = (k : ℕ) → j ≤ k → k < j + node_count node → went_at core.root 0 k (whole_went h) ≡ went_at node j k ws

  abbrev FindsBeside : List PlainCounter → (all stages : PlainStages) → (node stage next : ℕ) → List Went → Type 0
  FindsBeside counters all stages j s i ws = (k : ℕ) → i ≤ k → k < i + node_count_in stages → went_at core.root 0 k (whole_went h) ≡ went_beside counters all stages j s i k ws

  module _ (plan : PlainPlan) where
    transfer_taken : (node : PlainNode) (k : ℕ) (runs : List Placed) → k < k + node_count node → Finds node k (map went_in runs) → Apart (map went_in runs) → AreTaken delays k (took k) 0 runs
    transfer_taken node k runs l f a =
        law delays k (took k) 0 runs
        (λ path ask. ap (λ (ws : List Went). chosen (took k) 0 (map moved_by ws) path ask) (f k (omega arith) l ∙ at_own node k (map went_in runs)) ∙ ap (λ ms. chosen (took k) 0 ms path ask) (moved_same runs))
        (subst AreApart (moved_same runs) (apart_moved (map went_in runs) a))

    mutual
      node_taken : (node : PlainNode) (k n : ℕ) (runs : List Placed) → Finds node k (map went_in runs) → Apart (map went_in runs) → AllTaken core plan delays took node k n runs
      node_taken (inner counters owned ops comb) k n runs f a = tt
      node_taken (sparse kind r m places spans count par) k n runs f a = tt
      node_taken (load r m spans) k n runs f a = transfer_taken (load r m spans) k runs (omega arith) f a
      node_taken (store r m spans) k n runs f a = transfer_taken (store r m spans) k runs (omega arith) f a
      node_taken (outer counters style owned stages) k n runs f a =
          stages_taken counters stages k stages (suc k) (n + counters_size counters) 0 (λ i. stage_runs core plan delays counters owned stages k n i runs) (map went_in runs)
          (λ i. stages_placed core plan delays counters owned stages k n i runs)
          (λ j l m. f j (omega (arith, l)) (omega (arith, m)) ∙ ap (λ b. if b then map went_in runs else went_beside counters stages stages k 0 (suc k) j (map went_in runs)) (less_not k j (omega (arith, l)))) a
      node_taken (fsm start state test body next) k n runs f a =
          node_taken body (suc k) (n + (length start + length test)) (body_runs core plan delays start test next body k n runs)
          (λ j l m. f j (omega (arith, l)) (omega (arith, m)) ∙ ap (λ b. if b then map went_in runs else went_at body (suc k) j (each_went (body_went k) (map went_in runs))) (less_not k j (omega (arith, l)))
          ∙ ap (went_at body (suc k) j) (sym (bodies_placed core plan delays start test next body k n runs)))
          (subst Apart (sym (bodies_placed core plan delays start test next body k n runs)) (bodies_apart k (map went_in runs) a))
      node_taken (branch test first second) k n runs f a = (
        node_taken first (suc k) (n + length test) (side_runs core plan delays test k true runs)
            (λ j l m. below j (omega (arith, l)) (omega (arith, m)) ∙ ap (λ b. if b then one j else other j) (lt-ltb j (suc k + node_count first) m)
            ∙ ap (went_at first (suc k) j) (sym (sides_placed core plan delays test k true runs)))
            (subst Apart (sym (sides_placed core plan delays test k true runs)) (sides_apart k true (map went_in runs) a)),
        node_taken second (suc k + node_count first) (n + (length test + number_count first)) (side_runs core plan delays test k false runs)
            (λ j l m. below j (omega (arith, l)) (omega (arith, m)) ∙ ap (λ b. if b then one j else other j) (le-ltb j (suc k + node_count first) l)
            ∙ ap (went_at second (suc k + node_count first) j) (sym (sides_placed core plan delays test k false runs)))
            (subst Apart (sym (sides_placed core plan delays test k false runs)) (sides_apart k false (map went_in runs) a)),
      )
        where
          one : ℕ → List Went
          one j = went_at first (suc k) j (each_went (side_went k true) (map went_in runs))

          other : ℕ → List Went
          other j = went_at second (suc k + node_count first) j (each_went (side_went k false) (map went_in runs))

          below : (j : ℕ) → suc k ≤ j → j < k + node_count (branch test first second) → went_at core.root 0 j (whole_went h) ≡ (if nat_lt j (suc k + node_count first) then one j else other j)
          below j l m = f j (omega (arith, l)) m ∙ ap (λ b. if b then map went_in runs else (if nat_lt j (suc k + node_count first) then one j else other j)) (less_not k j (omega (arith, l)))

      stages_taken : (counters : List PlainCounter) (all : PlainStages) (j : ℕ) (stages : PlainStages) (i n s : ℕ) (runs : ℕ → List Placed) (ws : List Went)
          → ((s : ℕ) → map went_in (runs s) ≡ each_went (stage_went all j s counters) ws) → FindsBeside counters all stages j s i ws → Apart ws → StagesTaken core plan delays took stages i n s runs
      stages_taken counters all j no_stage i n s runs ws e f a = tt
      stages_taken counters all j (more_stage first last comb node rest) i n s runs ws e f a = (
        node_taken node i n (runs s)
            (λ k l m. f k l (omega (arith, m)) ∙ ap (λ b. if b then went_at node i k (each_went (stage_went all j s counters) ws) else went_beside counters all rest j (suc s) (i + node_count node) k ws) (lt-ltb k (i + node_count node) m)
            ∙ ap (went_at node i k) (sym (e s)))
            (subst Apart (sym (e s)) (stages_apart all j s counters ws a)),
        stages_taken counters all j rest (i + node_count node) (n + number_count node) (suc s) runs ws e
            (λ k l m. f k (omega (arith, l)) (omega (arith, m)) ∙ ap (λ b. if b then went_at node i k (each_went (stage_went all j s counters) ws) else went_beside counters all rest j (suc s) (i + node_count node) k ws) (le-ltb k (i + node_count node) l)) a,
      )

  pub delays_are_there : DelaysAreThere core h took
  delays_are_there = record {
    taken = λ plan n r e. node_taken plan core.root 0 n (r ∷ []) (λ k l m. ap (λ (w : Went). went_at core.root 0 k (w ∷ [])) (sym e)) (tt, tt);
    small = λ d l k path ask. chosen_small (took k) d (l k) 0 (map moved_by (went_at core.root 0 k (whole_went h))) path ask;
  }
