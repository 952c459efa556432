-- Values of counters, taken apart at a controller, and its steps.
use Rattle.std.proofs.Common.{◌≡◌, ◌≤◌, true, false, ℤ, List, [], ◌∷◌, ◌++◌, length, map, append_assoc, refl, sym, ap, ◌∙◌, arith}
use Rattle.std.proofs.lemmas.List.Elements.{All-nil, All-cons, All-head, All-tail}
use Rattle.sp_core.specs.History.{Bounds, History, inner_ran, outer_ran, fsm_ran, branch_ran, moved, picked}
use Rattle.sp_core.specs.PlainCore.{PlainCounter, PlainNode, inner, outer, fsm, branch, load, store, sparse, PlainMem}
use Rattle.sp_core.specs.Scope.{in_lanes, loops_of}
use Rattle.sp_deps.specs.declared.access.LoopRange.{LoopRange}
use Rattle.sp_deps.specs.Groups.{HaveValues, GoOn}
use Rattle.sp_patterns.specs.declared.place.CounterPlace.{CounterPlace}
use Rattle.sp_meets.specs.Around.{PlainLevel, loop_of}
use Rattle.sp_meets.specs.Sites.{counters_of}
use Rattle.sp_along.specs.MetGroups.{HaveSteps}
use Rattle.sp_along.specs.MetTraces.{loops_in}
use Rattle.sp_along.specs.Along.{counters_at}
use Rattle.sp_touched.specs.Touched.{AreSteps}

-- of two lists of counters with their values, those of each
pub first_values : (ls ms : List LoopRange) (xs ys : List ℤ) → length xs ≡ length ls → HaveValues (ls ++ ms) (xs ++ ys) → HaveValues ls xs
first_values [] ms [] ys e h = tt
first_values [] ms (x ∷ xs) ys e h = absurd (omega (arith, e))
first_values (l ∷ ls) ms [] ys e h = absurd (omega (arith, e))
first_values (l ∷ ls) ms (x ∷ xs) ys e h = (h.0, first_values ls ms xs ys (omega (arith, e)) h.1)

pub second_values : (ls ms : List LoopRange) (xs ys : List ℤ) → length xs ≡ length ls → HaveValues (ls ++ ms) (xs ++ ys) → HaveValues ms ys
second_values [] ms [] ys e h = h
second_values [] ms (x ∷ xs) ys e h = absurd (omega (arith, e))
second_values (l ∷ ls) ms [] ys e h = absurd (omega (arith, e))
second_values (l ∷ ls) ms (x ∷ xs) ys e h = second_values ls ms xs ys (omega (arith, e)) h.1

pub both_values : (ls ms : List LoopRange) (xs ys : List ℤ) → HaveValues ls xs → HaveValues ms ys → HaveValues (ls ++ ms) (xs ++ ys)
both_values [] ms [] ys h k = k
both_values [] ms (x ∷ xs) ys h k = absurd h
both_values (l ∷ ls) ms [] ys h k = absurd h
both_values (l ∷ ls) ms (x ∷ xs) ys h k = (h.0, both_values ls ms xs ys h.1 k)

-- the counters of a path, before a controller, of it, and inside of it
pub counters_at_level : (front : List PlainLevel) (l : PlainLevel) (inside : List PlainLevel) → counters_of (front ++ (l ∷ inside)) ≡ counters_of front ++ (l.loops ++ counters_of inside)
counters_at_level [] l inside = refl
counters_at_level (k ∷ front) l inside = ap (λ xs. k.loops ++ xs) (counters_at_level front l inside) ∙ sym (append_assoc k.loops (counters_of front) (l.loops ++ counters_of inside))

steps_front : (ls ms : List LoopRange) → AreSteps (ls ++ ms) → AreSteps ls
steps_front [] ms h = All-nil (λ (l : LoopRange). (1 ≤ l.by) × (1 ≤ l.par))
steps_front (l ∷ ls) ms h =
    let P = λ (l : LoopRange). (1 ≤ l.by) × (1 ≤ l.par) in
    All-cons P l ls (All-head P l (ls ++ ms) h) (steps_front ls ms (All-tail P l (ls ++ ms) h))

steps_back : (ls ms : List LoopRange) → AreSteps (ls ++ ms) → AreSteps ms
steps_back [] ms h = h
steps_back (l ∷ ls) ms h = steps_back ls ms (All-tail (λ (l : LoopRange). (1 ≤ l.by) × (1 ≤ l.par)) l (ls ++ ms) h)

pub middle_steps : (a b c : List LoopRange) → AreSteps (a ++ (b ++ c)) → AreSteps b
middle_steps a b c h = steps_front b c (steps_back a (b ++ c) h)

pub they_go_on : (ls : List LoopRange) → AreSteps ls → GoOn ls
they_go_on [] h = All-nil (λ (l : LoopRange). 1 ≤ l.by)
they_go_on (l ∷ ls) h =
    let P = λ (l : LoopRange). (1 ≤ l.by) × (1 ≤ l.par) in
    All-cons (λ (l : LoopRange). 1 ≤ l.by) l ls (All-head P l ls h).0 (they_go_on ls (All-tail P l ls h))

-- a controller's loops have the steps of its ranges
have_steps : (mems : List PlainMem) (places : List CounterPlace) (counters : List PlainCounter) (bs : List Bounds) → length (loops_of in_lanes counters bs) ≡ length counters → AreSteps (map (loop_of mems places) counters) → HaveSteps (map (loop_of mems places) counters) (loops_of in_lanes counters bs)
have_steps mems places [] bs e h = tt
have_steps mems places (c ∷ counters) [] e h = absurd (omega (arith, e))
have_steps mems places (c ∷ counters) (b ∷ bs) e h =
    let P = λ (l : LoopRange). (1 ≤ l.by) × (1 ≤ l.par) in
    ((refl, (All-head P (loop_of mems places c) (map (loop_of mems places) counters) h).1), have_steps mems places counters bs (omega (arith, e)) (All-tail P (loop_of mems places c) (map (loop_of mems places) counters) h))

none_there : (mems : List PlainMem) (places : List CounterPlace) (counters : List PlainCounter) → 0 ≡ length counters → HaveSteps (map (loop_of mems places) counters) []
none_there mems places [] e = tt
none_there mems places (c ∷ counters) e = absurd (omega (arith, e))

pub node_steps : (mems : List PlainMem) (places : List CounterPlace) (node : PlainNode) (h : History) → length (loops_in in_lanes node h []) ≡ length (counters_at node) → AreSteps (map (loop_of mems places) (counters_at node)) → HaveSteps (map (loop_of mems places) (counters_at node)) (loops_in in_lanes node h [])
node_steps mems places (inner counters owned ops comb) (inner_ran bs counts groups) e s = have_steps mems places counters bs e s
node_steps mems places (outer counters style owned stages) (outer_ran bs counts groups) e s = have_steps mems places counters bs e s
node_steps mems places (inner counters owned ops comb) (outer_ran bs counts groups) e s = none_there mems places counters e
node_steps mems places (inner counters owned ops comb) (fsm_ran es ts last) e s = none_there mems places counters e
node_steps mems places (inner counters owned ops comb) (moved ts ws) e s = none_there mems places counters e
node_steps mems places (inner counters owned ops comb) (picked es ws) e s = none_there mems places counters e
node_steps mems places (inner counters owned ops comb) (branch_ran es b x) e s = none_there mems places counters e
node_steps mems places (outer counters style owned stages) (inner_ran bs counts groups) e s = none_there mems places counters e
node_steps mems places (outer counters style owned stages) (fsm_ran es ts last) e s = none_there mems places counters e
node_steps mems places (outer counters style owned stages) (moved ts ws) e s = none_there mems places counters e
node_steps mems places (outer counters style owned stages) (picked es ws) e s = none_there mems places counters e
node_steps mems places (outer counters style owned stages) (branch_ran es b x) e s = none_there mems places counters e
node_steps mems places (fsm start state test body next) (inner_ran bs counts groups) e s = tt
node_steps mems places (fsm start state test body next) (outer_ran bs counts groups) e s = tt
node_steps mems places (fsm start state test body next) (fsm_ran es ts last) e s = tt
node_steps mems places (fsm start state test body next) (moved ts ws) e s = tt
node_steps mems places (fsm start state test body next) (picked es ws) e s = tt
node_steps mems places (fsm start state test body next) (branch_ran es b x) e s = tt
node_steps mems places (branch test first second) (inner_ran bs counts groups) e s = tt
node_steps mems places (branch test first second) (outer_ran bs counts groups) e s = tt
node_steps mems places (branch test first second) (fsm_ran es ts last) e s = tt
node_steps mems places (branch test first second) (moved ts ws) e s = tt
node_steps mems places (branch test first second) (picked es ws) e s = tt
node_steps mems places (branch test first second) (branch_ran es true x) e s = tt
node_steps mems places (branch test first second) (branch_ran es false x) e s = tt
node_steps mems places (load r m spans) h e s = tt
node_steps mems places (store r m spans) h e s = tt
node_steps mems places (sparse kind r m p spans count par) h e s = tt
