-- The controllers along a path and their loops: a value for each counter.
use Rattle.std.proofs.Common.{◌≡◌, ℕ, zero, suc, ◌+◌, ◌<◌, ◌≤◌, true, false, ℤ, List, [], ◌∷◌, ◌++◌, length, length-append, map, flat_map, get_or, None, arith, refl, sym, ap, ◌∙◌, subst}
use Rattle.sp_core.specs.Events.{At, When, before, in_group_of, in_turn}
use Rattle.sp_core.specs.PlainCore.{PlainCounter, PlainNode, PlainStages, inner, outer, fsm, branch, load, store, sparse, no_stage, more_stage, PlainMem, PlainCore}
use Rattle.sp_core.specs.Elements.{tuples, values_below}
use Rattle.sp_core.specs.History.{Bounds, History, Groups, Runs, Turns, inner_ran, outer_ran, fsm_ran, branch_ran, moved, picked, no_group, more_group, no_run, masked_run, more_run, no_turn, more_turn}
use Rattle.sp_core.specs.Scope.{Loop, in_lanes, loops_of, group_values}
use Rattle.sp_patterns.specs.declared.place.CounterPlace.{CounterPlace}
use Rattle.sp_patterns.specs.Ranges.{places_in}
use Rattle.sp_meets.specs.Around.{PlainLevel, loop_of}
use Rattle.sp_meets.specs.Sites.{counters_of}
use Rattle.sp_along.specs.MetTraces.{group_in, stage_in, turn_in, loops_in, group_loops, stage_loops, turn_loops, HasGroup, IsTraced}
use Rattle.sp_along.specs.Along.{counters_at, level_of, HasInside, IsLevelAt, IsAlong}
use Rattle.sp_along.specs.AlongControllers.{Ran, nothing_ran, ran_in, ran_in_groups, ran_in_stages, ran_in_turns}
use Rattle.sp_touched.proofs.Words.{Each}

-- paths lead to controllers and to loops of one run
pub record Linked (ran : List At → Ran) (loops : List At → List Loop) : Type 0 where
  pub node : PlainNode
  pub history : History
  pub ran_is : (p : List At) → ran p ≡ ran_in node history p
  pub loops_are : (p : List At) → loops p ≡ loops_in in_lanes node history p

-- of what didn't run there is nothing
nothing_linked : (ran : List At → Ran) (loops : List At → List Loop) → ((p : List At) → ran p ≡ nothing_ran) → ((p : List At) → loops p ≡ []) → Linked ran loops
nothing_linked ran loops f g = record { node = inner [] [] [] None; history = inner_ran [] [] []; ran_is = λ p. f p ∙ sym (nothing p); loops_are = g }
  where
    nothing : (p : List At) → ran_in (inner [] [] [] None) (inner_ran [] [] []) p ≡ nothing_ran
    nothing [] = refl
    nothing (a ∷ p) = refl

stage_linked : (stages : PlainStages) (runs : Runs) (s : ℕ) → Linked (λ p. ran_in_stages stages runs s p) (λ p. stage_loops in_lanes stages runs s p)
stage_linked no_stage no_run s = nothing_linked _ _ (λ p. refl) (λ p. refl)
stage_linked no_stage (masked_run hs) s = nothing_linked _ _ (λ p. refl) (λ p. refl)
stage_linked no_stage (more_run h hs) s = nothing_linked _ _ (λ p. refl) (λ p. refl)
stage_linked (more_stage first last comb node rest) no_run s = nothing_linked _ _ (λ p. refl) (λ p. refl)
stage_linked (more_stage first last comb node rest) (masked_run hs) zero = nothing_linked _ _ (λ p. refl) (λ p. refl)
stage_linked (more_stage first last comb node rest) (masked_run hs) (suc s) = stage_linked rest hs s
stage_linked (more_stage first last comb node rest) (more_run h hs) zero = record { node = node; history = h; ran_is = λ p. refl; loops_are = λ p. refl }
stage_linked (more_stage first last comb node rest) (more_run h hs) (suc s) = stage_linked rest hs s

group_linked : (stages : PlainStages) (groups : Groups) (g s : ℕ) → Linked (λ p. ran_in_groups stages groups g s p) (λ p. group_loops in_lanes stages groups g s p)
group_linked stages no_group g s = nothing_linked _ _ (λ p. refl) (λ p. refl)
group_linked stages (more_group runs rest) zero s = stage_linked stages runs s
group_linked stages (more_group runs rest) (suc g) s = group_linked stages rest g s

turn_linked : (body : PlainNode) (ts : Turns) (t : ℕ) → Linked (λ p. ran_in_turns body ts t p) (λ p. turn_loops in_lanes body ts t p)
turn_linked body no_turn t = nothing_linked _ _ (λ p. refl) (λ p. refl)
turn_linked body (more_turn es h ns rest) zero = record { node = body; history = h; ran_is = λ p. refl; loops_are = λ p. refl }
turn_linked body (more_turn es h ns rest) (suc t) = turn_linked body rest t

-- one controller further in
node_linked : (node : PlainNode) (h : History) (a : At) → HasInside node → Linked (λ p. ran_in node h (a ∷ p)) (λ p. loops_in in_lanes node h (a ∷ p))
node_linked (outer counters style owned stages) (outer_ran bs counts groups) a i = group_linked stages groups (group_in a.when) (stage_in a.when)
node_linked (outer counters style owned stages) (inner_ran bs counts groups) a i = nothing_linked _ _ (λ p. refl) (λ p. refl)
node_linked (outer counters style owned stages) (fsm_ran first ts last) a i = nothing_linked _ _ (λ p. refl) (λ p. refl)
node_linked (outer counters style owned stages) (branch_ran es b h) a i = nothing_linked _ _ (λ p. refl) (λ p. refl)
node_linked (outer counters style owned stages) (moved ts ws) a i = nothing_linked _ _ (λ p. refl) (λ p. refl)
node_linked (outer counters style owned stages) (picked es ws) a i = nothing_linked _ _ (λ p. refl) (λ p. refl)
node_linked (fsm start state test body next) (fsm_ran first ts last) a i = turn_linked body ts (turn_in a.when)
node_linked (fsm start state test body next) (inner_ran bs counts groups) a i = nothing_linked _ _ (λ p. refl) (λ p. refl)
node_linked (fsm start state test body next) (outer_ran bs counts groups) a i = nothing_linked _ _ (λ p. refl) (λ p. refl)
node_linked (fsm start state test body next) (branch_ran es b h) a i = nothing_linked _ _ (λ p. refl) (λ p. refl)
node_linked (fsm start state test body next) (moved ts ws) a i = nothing_linked _ _ (λ p. refl) (λ p. refl)
node_linked (fsm start state test body next) (picked es ws) a i = nothing_linked _ _ (λ p. refl) (λ p. refl)
node_linked (branch test first second) (branch_ran es true h) a i = record { node = first; history = h; ran_is = λ p. refl; loops_are = λ p. refl }
node_linked (branch test first second) (branch_ran es false h) a i = record { node = second; history = h; ran_is = λ p. refl; loops_are = λ p. refl }
node_linked (branch test first second) (inner_ran bs counts groups) a i = nothing_linked _ _ (λ p. refl) (λ p. refl)
node_linked (branch test first second) (outer_ran bs counts groups) a i = nothing_linked _ _ (λ p. refl) (λ p. refl)
node_linked (branch test first second) (fsm_ran first_es ts last) a i = nothing_linked _ _ (λ p. refl) (λ p. refl)
node_linked (branch test first second) (moved ts ws) a i = nothing_linked _ _ (λ p. refl) (λ p. refl)
node_linked (branch test first second) (picked es ws) a i = nothing_linked _ _ (λ p. refl) (λ p. refl)
node_linked (inner counters owned ops comb) h a i = absurd i
node_linked (load r m spans) h a i = absurd i
node_linked (store r m spans) h a i = absurd i
node_linked (sparse kind r m p spans count par) h a i = absurd i

abbrev pub IsMore : List At → Type 0
IsMore [] = ⊥
IsMore (a ∷ p) = Unit {0}

pub one_further : (core : PlainCore) (ran : List At → Ran) (loops : List At → List Loop) (places : List CounterPlace) (a : At) (l : PlainLevel) (p : List At) → IsMore p → IsLevelAt core (ran []) places a p l → Linked ran loops → Linked (λ r. ran (a ∷ r)) (λ r. loops (a ∷ r))
one_further core ran loops places a l [] more level link = absurd more
one_further core ran loops places a l (b ∷ p) more level link =
    let inside : HasInside link.node = subst (λ (r : Ran). HasInside r.node) (link.ran_is []) level.on.0 in
    let next = node_linked link.node link.history a inside in
    record { node = next.node; history = next.history; ran_is = λ r. link.ran_is (a ∷ r) ∙ next.ran_is r; loops_are = λ r. link.loops_are (a ∷ r) ∙ next.loops_are r }

-- a group has a value for each loop
abbrev AllLong : ℕ → List (List ℤ) → Type 0
AllLong n ts = Each (λ (t : List ℤ). length t ≡ n) ts

one_longer : (x : ℤ) (n : ℕ) (ts : List (List ℤ)) → AllLong n ts → AllLong (suc n) (map (λ others. x ∷ others) ts)
one_longer x n [] h = tt
one_longer x n (t ∷ ts) h = (ap suc h.0, one_longer x n ts h.1)

each_append : (n : ℕ) (a b : List (List ℤ)) → AllLong n a → AllLong n b → AllLong n (a ++ b)
each_append n [] b h k = k
each_append n (x ∷ a) b h k = (h.0, each_append n a b h.1 k)

all_longer : (n : ℕ) (ts : List (List ℤ)) → AllLong n ts → (xs : List ℤ) → AllLong (suc n) (flat_map (λ x. map (λ others. x ∷ others) ts) xs)
all_longer n ts h [] = tt
all_longer n ts h (x ∷ xs) = each_append (suc n) (map (λ others. x ∷ others) ts) (flat_map (λ x. map (λ others. x ∷ others) ts) xs) (one_longer x n ts h) (all_longer n ts h xs)

tuples_long : (lists : List (List ℤ)) → AllLong (length lists) (tuples lists)
tuples_long [] = (refl, tt)
tuples_long (xs ∷ lists) = all_longer (length lists) (tuples lists) (tuples_long lists) xs

long_at : (n : ℕ) (ts : List (List ℤ)) (k : ℕ) → AllLong n ts → k < length ts → length (get_or ts k []) ≡ n
long_at n [] k h l = absurd (omega (arith, l))
long_at n (t ∷ ts) zero h l = h.0
long_at n (t ∷ ts) (suc k) h l = long_at n ts k h.1 (omega (arith, l))

lists_length : (loops : List Loop) → length (map (λ (l : Loop). values_below l.from l.until l.advance) loops) ≡ length loops
lists_length [] = refl
lists_length (l ∷ loops) = ap suc (lists_length loops)

pub group_length : (loops : List Loop) (g : ℕ) → g < length (group_values loops) → length (get_or (group_values loops) g []) ≡ length loops
group_length loops g l = long_at (length (map (λ (l : Loop). values_below l.from l.until l.advance) loops)) (group_values loops) g (tuples_long (map (λ (l : Loop). values_below l.from l.until l.advance) loops)) l ∙ lists_length loops

-- a controller's loops are those of its counters, or none
loops_short : (counters : List PlainCounter) (bs : List Bounds) → length (loops_of in_lanes counters bs) ≤ length counters
loops_short [] bs = omega arith
loops_short (c ∷ counters) [] = omega arith
loops_short (c ∷ counters) (b ∷ bs) = let h = loops_short counters bs in omega (arith, h)

no_loops : (n : ℕ) → 0 ≤ n
no_loops n = omega arith

node_loops : (node : PlainNode) (h : History) → length (loops_in in_lanes node h []) ≤ length (counters_at node)
node_loops (inner counters owned ops comb) (inner_ran bs counts groups) = loops_short counters bs
node_loops (outer counters style owned stages) (outer_ran bs counts groups) = loops_short counters bs
node_loops (fsm start state test body next) (inner_ran bs counts groups) = no_loops 0
node_loops (fsm start state test body next) (outer_ran bs counts groups) = no_loops 0
node_loops (fsm start state test body next) (fsm_ran es ts last) = no_loops 0
node_loops (fsm start state test body next) (moved ts ws) = no_loops 0
node_loops (fsm start state test body next) (picked es ws) = no_loops 0
node_loops (fsm start state test body next) (branch_ran es b x) = no_loops 0
node_loops (branch test first second) (inner_ran bs counts groups) = no_loops 0
node_loops (branch test first second) (outer_ran bs counts groups) = no_loops 0
node_loops (branch test first second) (fsm_ran es ts last) = no_loops 0
node_loops (branch test first second) (moved ts ws) = no_loops 0
node_loops (branch test first second) (picked es ws) = no_loops 0
node_loops (branch test first second) (branch_ran es true x) = no_loops 0
node_loops (branch test first second) (branch_ran es false x) = no_loops 0
node_loops node h = no_loops (length (counters_at node))

loops_length : (mems : List PlainMem) (places : List CounterPlace) (counters : List PlainCounter) → length (map (loop_of mems places) counters) ≡ length counters
loops_length mems places [] = refl
loops_length mems places (c ∷ counters) = ap suc (loops_length mems places counters)

pub level_loops : (mems : List PlainMem) (places : List CounterPlace) (node : PlainNode) → (level_of mems places node).loops ≡ map (loop_of mems places) (counters_at node)
level_loops mems places (inner counters owned ops comb) = refl
level_loops mems places (outer counters style owned stages) = refl
level_loops mems places (fsm start state test body next) = refl
level_loops mems places (branch test first second) = refl
level_loops mems places (load r m spans) = refl
level_loops mems places (store r m spans) = refl
level_loops mems places (sparse kind r m p spans count par) = refl

pub its_loops : (core : PlainCore) (ran : Ran) (places : List CounterPlace) (a : At) (p : List At) (l : PlainLevel) → IsLevelAt core ran places a p l → l.loops ≡ map (loop_of core.mems places) (counters_at ran.node)
its_loops core ran places a p l level = ap (λ (x : PlainLevel). x.loops) level.is ∙ level_loops core.mems places ran.node

-- the values at a controller are no more than its counters
values_short : (loops : List Loop) (w : When) (v : List ℤ) (n : ℕ) → length loops ≤ n → HasGroup loops w v → length v ≤ n
values_short loops before v n l h = let e = ap length h in omega (arith, e)
values_short loops (in_turn t) v n l h = let e = ap length h in omega (arith, e)
values_short loops (in_group_of g s) v n l h = let e = ap length (sym h.1) ∙ group_length loops g h.0 in omega (arith, l, e)

level_short : (core : PlainCore) (ran : List At → Ran) (loops : List At → List Loop) (places : List CounterPlace) (a : At) (p : List At) (l : PlainLevel) (v : List ℤ) → IsLevelAt core (ran []) places a p l → HasGroup (loops []) a.when v → Linked ran loops → length v ≤ length l.loops
level_short core ran loops places a p l v level group link =
    values_short (loops []) a.when v (length l.loops)
    (let n : length (loops_in in_lanes link.node link.history []) ≤ length (counters_at link.node) = node_loops link.node link.history in
    let same : (ran []).node ≡ link.node = ap (λ (r : Ran). r.node) (link.ran_is []) in
    let many : length (loops []) ≡ length (loops_in in_lanes link.node link.history []) = ap length (link.loops_are []) in
    let size : length l.loops ≡ length (counters_at (ran []).node) = ap length (its_loops core (ran []) places a p l level) ∙ loops_length core.mems places (counters_at (ran []).node) in
    let whole : length (counters_at (ran []).node) ≡ length (counters_at link.node) = ap (λ (x : PlainNode). length (counters_at x)) same in
    omega (arith, n, many, size, whole)) group

pub trace_short : (core : PlainCore) (ran : List At → Ran) (loops : List At → List Loop) (places : List CounterPlace) (levels : List PlainLevel) (p : List At) (cs : List ℤ) → IsAlong core ran places levels p → IsTraced loops p cs → Linked ran loops → length cs ≤ length (counters_of levels)
trace_short core ran loops places [] [] cs al tr link = let e = ap length tr in omega (arith, e)
trace_short core ran loops places [] (a ∷ []) cs al tr link =
    let e : length tr.0 ≡ 0 = nothing_before a.when tr.0 al tr.2 in
    let f = ap length tr.4 in
    let g = ap length tr.3 ∙ length-append tr.0 tr.1 in
    omega (arith, e, f, g)
  where
    nothing_before : (w : When) (v : List ℤ) → w ≡ before → HasGroup (loops []) w v → length v ≡ 0
    nothing_before before v e h = ap length h
    nothing_before (in_group_of g s) v e h = absurd (cc)
    nothing_before (in_turn t) v e h = absurd (cc)
trace_short core ran loops places [] (a ∷ b ∷ p) cs al tr link = absurd al
trace_short core ran loops places (l ∷ levels) [] cs al tr link = absurd al
trace_short core ran loops places (l ∷ levels) (a ∷ []) cs al tr link =
    let here = level_short core ran loops places a [] l tr.0 al.0 tr.2 link in
    let f = ap length tr.4 in
    let g = ap length tr.3 ∙ length-append tr.0 tr.1 in
    let n = length-append l.loops (counters_of levels) in
    omega (arith, here, f, g, n)
trace_short core ran loops places (l ∷ levels) (a ∷ b ∷ p) cs al tr link =
    let here = level_short core ran loops places a (b ∷ p) l tr.0 al.0 tr.2 link in
    let rest = trace_short core (λ r. ran (a ∷ r)) (λ r. loops (a ∷ r)) (places ++ places_in (counters_at (ran []).node)) levels (b ∷ p) tr.1 al.1 tr.4 (one_further core ran loops places a l (b ∷ p) tt al.0 link) in
    let g = ap length tr.3 ∙ length-append tr.0 tr.1 in
    let n = length-append l.loops (counters_of levels) in
    omega (arith, here, rest, g, n)

-- where they are as many in all, they are at each controller
pub sizes : (core : PlainCore) (ran : List At → Ran) (loops : List At → List Loop) (places : List CounterPlace) (a : At) (l : PlainLevel) (levels : List PlainLevel) (p : List At) (v rest : List ℤ) → IsLevelAt core (ran []) places a p l → IsAlong core (λ q. ran (a ∷ q)) (places ++ places_in (counters_at (ran []).node)) levels p →
    HasGroup (loops []) a.when v → IsTraced (λ q. loops (a ∷ q)) p rest → Linked ran loops → length (v ++ rest) ≡ length (l.loops ++ counters_of levels) → (length v ≡ length l.loops) × (length rest ≡ length (counters_of levels))
sizes core ran loops places a l levels p v rest level al group tr link e =
    let here = level_short core ran loops places a p l v level group link in
    let later = further p al tr level in
    let f = length-append v rest in
    let g = length-append l.loops (counters_of levels) in
    (omega (arith, here, later, e, f, g), omega (arith, here, later, e, f, g))
  where
    further : (q : List At) → IsAlong core (λ r. ran (a ∷ r)) (places ++ places_in (counters_at (ran []).node)) levels q → IsTraced (λ r. loops (a ∷ r)) q rest → IsLevelAt core (ran []) places a q l → length rest ≤ length (counters_of levels)
    further [] al tr level = let z = ap length tr in omega (arith, z)
    further (b ∷ q) al tr level = trace_short core (λ r. ran (a ∷ r)) (λ r. loops (a ∷ r)) (places ++ places_in (counters_at (ran []).node)) levels (b ∷ q) rest al tr (one_further core ran loops places a l (b ∷ q) tt level link)

pub both_sizes : (a b c d : ℕ) → a ≡ c → b ≡ d → a + b ≡ c + d
both_sizes a b c d e f = omega (arith, e, f)
