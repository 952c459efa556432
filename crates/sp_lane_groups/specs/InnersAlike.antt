-- How the history of a run in lanes goes with the one of the core: the same parts ran, with the same bounds and counts. Each group of
-- a loop in lanes has the iterations that its lanes have, in their order, a lane without one is left out, and what combines runs once.
use Rattle.std.specs.Prelude.{◌≡◌, ℕ, suc, ◌==◌, Bool, true, false, ℤ, List, [], ◌∷◌, ◌++◌, map, Option}
use Rattle.sp_core.specs.declared.node.SparseKind.{SparseKind}
use Rattle.sp_core.specs.Around.{lanes_of}
use Rattle.sp_core.specs.History.{Entry, Bounds, History, Runs, Turn, inner_ran, outer_ran, fsm_ran, branch_ran, no_run, masked_run, more_run, groups_of, turns_of}
use Rattle.sp_core.specs.PlainCore.{PlainOp, PlainCounter, PlainSpan, PlainNode, PlainStages, inner, outer, fsm, branch, load, store, sparse, no_stage, more_stage}
use Rattle.sp_core.specs.Scope.{Loop, in_lanes, loops_of, group_values, is_live}
use Rattle.sp_words.specs.declared.kind.Style.{Style}

-- the stages but the one that combines, and their runs
abbrev pub own_stages : PlainStages → PlainStages
own_stages no_stage = no_stage
own_stages (more_stage first last true node rest) = own_stages rest
own_stages (more_stage first last false node rest) = more_stage first last false node (own_stages rest)

abbrev pub own_runs : PlainStages → Runs → Runs
own_runs no_stage r = no_run
own_runs (more_stage first last true node rest) (more_run h r) = own_runs rest r
own_runs (more_stage first last true node rest) (masked_run r) = own_runs rest r
own_runs (more_stage first last false node rest) (more_run h r) = more_run h (own_runs rest r)
own_runs (more_stage first last false node rest) (masked_run r) = masked_run (own_runs rest r)
own_runs (more_stage first last comb node rest) no_run = no_run

-- the stages of a lane without an iteration, before other runs
abbrev pub left_out : PlainStages → (after : Runs) → Runs
left_out no_stage after = after
left_out (more_stage first last comb node rest) after = masked_run (left_out rest after)

mutual
  pub data GoAlike : PlainNode → (core lanes : History) → Type 0 where
    body : {counters : List PlainCounter} {owned : List ℕ} {ops : List PlainOp} {comb : Option ℕ} {bounds : List Bounds} {counts : List ℕ} {groups others : List (List Entry)}
        → GoAlike (inner counters owned ops comb) (inner_ran bounds counts groups) (inner_ran bounds counts others)
    loaded : {r m : ℕ} {spans : List PlainSpan} {h : History} → GoAlike (load r m spans) h h
    stored : {r m : ℕ} {spans : List PlainSpan} {h : History} → GoAlike (store r m spans) h h
    sparsely : {kind : SparseKind} {r m : ℕ} {places : Option ℕ} {spans : List PlainSpan} {count : List PlainOp} {par : ℕ} {h : History} → GoAlike (sparse kind r m places spans count par) h h
    one_side : {test : List PlainOp} {first second : PlainNode} {es : List Entry} {h g : History} → GoAlike first h g → GoAlike (branch test first second) (branch_ran es true h) (branch_ran es true g)
    other_side : {test : List PlainOp} {first second : PlainNode} {es : List Entry} {h g : History} → GoAlike second h g → GoAlike (branch test first second) (branch_ran es false h) (branch_ran es false g)
    turned : {start : List PlainOp} {state : ℕ} {test : List PlainOp} {node : PlainNode} {next : List PlainOp} {first last end : List Entry} {ts us : List Turn}
        → TurnsAlike node ts us → GoAlike (fsm start state test node next) (fsm_ran first (turns_of ts) last) (fsm_ran first (turns_of us) end)
    looped : {counters : List PlainCounter} {style : Style} {owned : List ℕ} {stages : PlainStages} {bounds : List Bounds} {counts : List ℕ} {rs ys : List Runs}
        → GroupsAlike counters stages (loops_of in_lanes counters bounds) (group_values (loops_of in_lanes counters bounds)) rs ys → GoAlike (outer counters style owned stages) (outer_ran bounds counts (groups_of rs)) (outer_ran bounds counts (groups_of ys))

  pub data TurnsAlike : PlainNode → (core lanes : List Turn) → Type 0 where
    no_turns : {node : PlainNode} → TurnsAlike node [] []
    more_turns : {node : PlainNode} {a b : Turn} {ts us : List Turn} → GoAlike node a.body b.body → TurnsAlike node ts us → TurnsAlike node (a ∷ ts) (b ∷ us)

  -- the groups of some values in lanes, and the iterations that they have
  pub data GroupsAlike : List PlainCounter → PlainStages → List Loop → List (List ℤ) → (core lanes : List Runs) → Type 0 where
    no_groups : {counters : List PlainCounter} {stages : PlainStages} {loops : List Loop} → GroupsAlike counters stages loops [] [] []
    more_groups : {counters : List PlainCounter} {stages : PlainStages} {loops : List Loop} {values : List ℤ} {all : List (List ℤ)} {rs qs : List Runs} {y : Runs} {ys : List Runs}
        → GroupAlike counters stages (is_live loops values) rs y → GroupsAlike counters stages loops all qs ys → GroupsAlike counters stages loops (values ∷ all) (rs ++ qs) (y ∷ ys)

  -- a group of one lane is its iteration; one of several has an iteration for each lane that isn't masked, one at least
  pub data GroupAlike : List PlainCounter → PlainStages → (live : ℕ → Bool) → (core : List Runs) → (lanes : Runs) → Type 0 where
    alone : {counters : List PlainCounter} {stages : PlainStages} {live : ℕ → Bool} {r y : Runs} → lanes_of counters ≡ 1 → StagesAlike stages r y → GroupAlike counters stages live (r ∷ []) y
    together : {counters : List PlainCounter} {stages : PlainStages} {live : ℕ → Bool} {r : Runs} {rs : List Runs} {tail y : Runs} → (lanes_of counters == 1) ≡ false
        → LanesAlike (own_stages stages) live tail 0 (lanes_of counters) (map (own_runs stages) (r ∷ rs)) y → EndsAlike stages r tail → GroupAlike counters stages live (r ∷ rs) y

  pub data StagesAlike : PlainStages → (core lanes : Runs) → Type 0 where
    no_stages : StagesAlike no_stage no_run no_run
    ran : {first last : ℕ} {comb : Bool} {node : PlainNode} {rest : PlainStages} {h g : History} {r y : Runs} → GoAlike node h g → StagesAlike rest r y → StagesAlike (more_stage first last comb node rest) (more_run h r) (more_run g y)
    passed : {first last : ℕ} {comb : Bool} {node : PlainNode} {rest : PlainStages} {r y : Runs} → StagesAlike rest r y → StagesAlike (more_stage first last comb node rest) (masked_run r) (masked_run y)

  -- the stages of so many lanes from one on, before a tail
  pub data LanesAlike : PlainStages → (live : ℕ → Bool) → (tail : Runs) → (lane more : ℕ) → (core : List Runs) → (lanes : Runs) → Type 0 where
    all_lanes : {stages : PlainStages} {live : ℕ → Bool} {tail : Runs} {l : ℕ} → LanesAlike stages live tail l 0 [] tail
    with_one : {stages : PlainStages} {live : ℕ → Bool} {tail : Runs} {l k : ℕ} {r after y : Runs} {rs : List Runs} → live l ≡ true → LaneAlike stages r after y → LanesAlike stages live tail (suc l) k rs after → LanesAlike stages live tail l (suc k) (r ∷ rs) y
    without : {stages : PlainStages} {live : ℕ → Bool} {tail : Runs} {l k : ℕ} {after : Runs} → live l ≡ false → LanesAlike stages live tail (suc l) k [] after → LanesAlike stages live tail l (suc k) [] (left_out stages after)

  -- those of a lane with an iteration, before other runs
  pub data LaneAlike : PlainStages → (core after lanes : Runs) → Type 0 where
    lane_over : {after : Runs} → LaneAlike no_stage no_run after after
    stage_ran : {first last : ℕ} {comb : Bool} {node : PlainNode} {rest : PlainStages} {h g : History} {r after y : Runs} → GoAlike node h g → LaneAlike rest r after y → LaneAlike (more_stage first last comb node rest) (more_run h r) after (more_run g y)

  -- what combines, with the bounds and counts of any iteration
  pub data EndsAlike : PlainStages → (core tail : Runs) → Type 0 where
    nothing : EndsAlike no_stage no_run no_run
    combined : {first last : ℕ} {counters : List PlainCounter} {owned : List ℕ} {ops : List PlainOp} {comb : Option ℕ} {rest : PlainStages} {bounds : List Bounds} {counts : List ℕ} {groups others : List (List Entry)} {r : Runs}
        → EndsAlike (more_stage first last true (inner counters owned ops comb) rest) (more_run (inner_ran bounds counts groups) r) (more_run (inner_ran bounds counts others) no_run)
    past : {first last : ℕ} {node : PlainNode} {rest : PlainStages} {h : History} {r tail : Runs} → EndsAlike rest r tail → EndsAlike (more_stage first last false node rest) (more_run h r) tail
