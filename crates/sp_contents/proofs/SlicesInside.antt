-- The slices of each run in lanes that ends are inside of their DRAMs.
use Rattle.std.proofs.Common.{◌≡◌, ℕ, inl, inr, Bool, true, false, List, [], ◌∷◌, map, refl}
use Rattle.std.specs.Prelude.{◌==◌}
use Rattle.sp_core.specs.Declarations.{dims, dram_number, kind_of}
use Rattle.sp_core.specs.History.{Entry, Taken, last_word, History, Runs, Turn, inner_ran, outer_ran, fsm_ran, branch_ran, moved, picked, no_run, masked_run, more_run, groups_of, turns_of}
use Rattle.sp_core.specs.Operations.{operations}
use Rattle.sp_core.specs.PlainCore.{PlainOp, PlainSpan, PlainNode, PlainStages, inner, outer, fsm, branch, load, store, sparse, no_stage, more_stage, PlainCore}
use Rattle.sp_core.specs.Scope.{in_lanes, Scope, loops_of, group_values, is_live, is_some_live, in_group}
use Rattle.sp_core.specs.Sequential.{run, run_stages}
use Rattle.sp_core.specs.Step.{Step, pure, ◌>>=◌, ◌>>◌, ensure, stop}
use Rattle.sp_core.specs.Transfers.{part_of, lengths, has_none, are_parts_inside, do_fit, range_limits, transfer, load_words, store_words}
use Rattle.sp_core.proofs.Replays.{not_stopped}
use Rattle.sp_machine.proofs.CountedRuns.{Gives, gives_bind, gives_pure, gives_after, Each, gives_each, gives_repeated}
use Rattle.sp_overlap.specs.Whole.{IsTimed, AreTimed}
use Rattle.sp_contents.specs.Inside.{IsSliceInside, IsInside, AreInside, RunsInside, TurnsInside, RunsAreInside}

module _ (core : PlainCore) where
  groups_inside : (stages : PlainStages) (groups : List Runs) → Each (RunsInside core stages) groups → AreInside core stages (groups_of groups)
  groups_inside stages [] h = tt
  groups_inside stages (g ∷ groups) h = (h.0, groups_inside stages groups h.1)

  turns_inside : (body : PlainNode) (turns : List Turn) → Each (λ t. IsInside core body t.body) turns → TurnsInside core body (turns_of turns)
  turns_inside body [] h = tt
  turns_inside body (t ∷ turns) h = (h.0, turns_inside body turns h.1)

  abbrev MovedInside : (dram : ℕ) → History → Type 0
  MovedInside r (moved taken words) = IsSliceInside core r taken
  MovedInside r h = Unit {0}

  -- a test that fails stops
  gives_test : {A : Type 0} (b : Bool) (rest : Step A) (P : A → Type 0) → (b ≡ true → Gives P rest) → Gives P (ensure b >> rest)
  unfolding ◌>>=◌ pure stop
  gives_test true rest P h s t a e = h refl s t a e
  gives_test false rest P h s t a e = not_stopped a t e

  slice_inside : (r m : ℕ) (taken : List Taken) (move : Step (List ℕ)) → Gives (MovedInside r) (transfer core r m taken move)
  slice_inside r m taken move = go (has_none (lengths (map part_of taken))) refl
    where
      go : (b : Bool) → has_none (lengths (map part_of taken)) ≡ b → Gives (MovedInside r) (elim b as (λ _. Step History) [
        | true ↦ pure (moved taken [])
        | false ↦ ensure (are_parts_inside (dims core (dram_number core r)) (map part_of taken)) >> (ensure (do_fit (range_limits (kind_of core m) (dims core m)) (lengths (map part_of taken))) >> (move >>= (λ ws. pure (moved taken ws))))
      ])
      go true e = gives_pure _ (moved taken []) (inl e)
      go false e = gives_test _ _ _ (λ inside. gives_test _ _ _ (λ fits. gives_after _ _ _ (λ ws. gives_pure _ (moved taken ws) (inr inside))))

  gives_as : {A : Type 0} (P R : A → Type 0) (step : Step A) → ((a : A) → P a → R a) → Gives P step → Gives R step
  gives_as P R step f g s t a e = f a (g s t a e)

  as_load : (r m : ℕ) (spans : List PlainSpan) (h : History) → MovedInside r h → IsInside core (load r m spans) h
  as_load r m spans (moved taken words) w = w
  as_load r m spans (inner_ran bs counts groups) w = tt
  as_load r m spans (outer_ran bs counts groups) w = tt
  as_load r m spans (fsm_ran first ts last) w = tt
  as_load r m spans (branch_ran es b h) w = tt
  as_load r m spans (picked es ws) w = tt

  as_store : (r m : ℕ) (spans : List PlainSpan) (h : History) → MovedInside r h → IsInside core (store r m spans) h
  as_store r m spans (moved taken words) w = w
  as_store r m spans (inner_ran bs counts groups) w = tt
  as_store r m spans (outer_ran bs counts groups) w = tt
  as_store r m spans (fsm_ran first ts last) w = tt
  as_store r m spans (branch_ran es b h) w = tt
  as_store r m spans (picked es ws) w = tt

  module _ (most : ℕ) where
    block_inside : (test : List Entry) (first second : PlainNode) (one two : Step History) → Gives (IsInside core first) one → Gives (IsInside core second) two
        → (ops : List PlainOp) (b : Bool) → Gives (λ h. IsInside core (branch ops first second) (branch_ran test b h)) (elim b as (λ _. Step History) [ true ↦ one | false ↦ two ])
    block_inside test first second one two f g ops true = f
    block_inside test first second one two f g ops false = g

    mutual
      unfolding run run_stages

      pub node_inside : (node : PlainNode) (scope : Scope) → IsTimed node → Gives (IsInside core node) (run core in_lanes most node scope)
      node_inside (inner counters owned ops comb) scope w = λ s t h e. tt
      node_inside (outer counters style owned stages) scope w =
          gives_after _ _ _ (λ bs. gives_bind _ _ _ _ (gives_each _ (RunsInside core stages) (λ v.
          gives_after _ _ _ (λ u. gives_bind _ _ _ _ (stages_inside stages (is_live (loops_of in_lanes counters bs) v) (in_group scope (loops_of in_lanes counters bs) v) w.1)
          (λ runs h. gives_after _ _ _ (λ z. gives_pure _ runs h)))) (group_values (loops_of in_lanes counters bs)))
          (λ groups h. gives_pure _ _ (groups_inside stages groups h.1)))
      node_inside (fsm start state test body next) scope w =
          gives_after _ _ _ (λ first. gives_bind _ _ _ _ (gives_repeated (λ t. IsInside core body t.body) (operations core scope test) _ _
          (λ tested. gives_bind _ _ _ _ (node_inside body scope w) (λ h c. gives_after _ _ _ (λ es. gives_pure _ _ c))) most)
          (λ r h. gives_pure _ _ (turns_inside body r.0 h)))
      node_inside (branch test first second) scope w =
          gives_after _ _ _ (λ es. gives_bind _ _ _ _ (block_inside es first second _ _ (node_inside first scope w.0) (node_inside second scope w.1) test (last_word es == 1))
          (λ h c. gives_pure _ _ c))
      node_inside (load r m spans) scope w =
          gives_after _ _ _ (λ ts. gives_as (MovedInside r) (IsInside core (load r m spans)) _ (as_load r m spans) (slice_inside r m ts (load_words core r m (map part_of ts))))
      node_inside (store r m spans) scope w =
          gives_after _ _ _ (λ ts. gives_as (MovedInside r) (IsInside core (store r m spans)) _ (as_store r m spans) (slice_inside r m ts (store_words core r m (map part_of ts))))
      node_inside (sparse kind r m index spans count par) scope w = absurd w

      stages_inside : (stages : PlainStages) (live : ℕ → Bool) (scope : Scope) → AreTimed stages → Gives (RunsInside core stages) (run_stages core in_lanes most stages live scope)
      stages_inside no_stage live scope w = gives_pure _ no_run tt
      stages_inside (more_stage first last comb node rest) live scope w = choose (node_inside node scope w.0) (stages_inside rest live scope w.1) (is_some_live live first last)
        where
          choose : Gives (IsInside core node) (run core in_lanes most node scope) → Gives (RunsInside core rest) (run_stages core in_lanes most rest live scope) → (b : Bool)
              → Gives (RunsInside core (more_stage first last comb node rest)) (elim b as (λ _. Step Runs) [ true ↦ run core in_lanes most node scope >>= (λ h. run_stages core in_lanes most rest live scope >>= (λ others. pure (more_run h others))) | false ↦ run_stages core in_lanes most rest live scope >>= (λ others. pure (masked_run others)) ])
          choose f g true = gives_bind _ _ _ _ f (λ h c. gives_bind _ _ _ _ g (λ hs d. gives_pure _ (more_run h hs) (c, d)))
          choose f g false = gives_bind _ _ _ _ g (λ hs d. gives_pure _ (masked_run hs) d)

pub runs_inside : (core : PlainCore) → RunsAreInside core
runs_inside core w turns scope s t h e = node_inside core turns core.root scope w s t h e
