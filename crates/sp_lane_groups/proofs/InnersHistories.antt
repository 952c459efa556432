-- How the histories of bodies in the core and in lanes go together.
use Rattle.std.proofs.Common.{◌≡◌, ◌*◌, List, [], ◌∷◌, ◌++◌, ℕ, Option, refl, sym, ◌∙◌, ap, subst}
use Rattle.sp_words.specs.declared.kind.Style.{Style}
use Rattle.sp_core.specs.Cost.{group_count}
use Rattle.sp_core.specs.History.{Bounds, Entry, History, Runs, inner_ran, outer_ran, groups_of}
use Rattle.sp_core.specs.PlainCore.{PlainOp, PlainCounter, PlainStages, inner, outer}
use Rattle.sp_core.specs.Scope.{plainly, loop_of, loops_of, counts_of, group_values}
use Rattle.sp_core.specs.Scope as scope
use Rattle.sp_core.specs.Step.{Step, went, in_order}
use Rattle.sp_core.specs.Store.{Store}
use Rattle.sp_lanes.specs.Within.{Within, counters_in}
use Rattle.sp_lane_groups.proofs.LiveAlong.{answer_of}
use Rattle.sp_lane_groups.proofs.Renewed.{order_on, order_split, order_none}
use Rattle.sp_lane_groups.specs.InnersAlike.{GoAlike, GroupsAlike, body, looped}

-- counters have as many values in both readings
counts_kept : (w : Within) (counters : List PlainCounter) (bs : List Bounds) → counts_of (loops_of scope.in_lanes (counters_in w counters) bs) ≡ counts_of (loops_of plainly counters bs)
counts_kept w [] bs = refl
counts_kept w (c ∷ counters) [] = refl
counts_kept w (c ∷ counters) (b ∷ bs) = ap (λ ns. (counts_of (loop_of plainly c b ∷ [])) ++ ns) (counts_kept w counters bs)

pub groups_kept : (w : Within) (counters : List PlainCounter) (counts : List ℕ) → group_count (counters_in w counters) counts ≡ group_count counters counts
groups_kept w [] counts = refl
groups_kept w (c ∷ []) [] = refl
groups_kept w (c ∷ []) (n ∷ counts) = refl
groups_kept w (c ∷ d ∷ counters) [] = refl
groups_kept w (c ∷ d ∷ counters) (n ∷ counts) = ap (λ k. n * k) (groups_kept w (d ∷ counters) counts)

-- an inner body
pub inner_alike : (w : Within) (counters : List PlainCounter) (owned : List ℕ) (ops : List PlainOp) (comb : Option ℕ) (bs : List Bounds) (groups others : List (List Entry)) (h : History) → inner_ran bs (counts_of (loops_of plainly counters bs)) groups ≡ h
    → GoAlike (inner counters owned ops comb) h (inner_ran bs (counts_of (loops_of scope.in_lanes (counters_in w counters) bs)) others)
inner_alike w counters owned ops comb bs groups others h e =
    subst (λ (g : History). GoAlike (inner counters owned ops comb) g (inner_ran bs (counts_of (loops_of scope.in_lanes (counters_in w counters) bs)) others)) e
    (subst (λ ns. GoAlike (inner counters owned ops comb) (inner_ran bs (counts_of (loops_of plainly counters bs)) groups) (inner_ran bs ns others)) (sym (counts_kept w counters bs)) body)

-- a body with stages, by its groups
pub outer_alike : (w : Within) (counters : List PlainCounter) (style : Style) (owned : List ℕ) (stages : PlainStages) (bs : List Bounds) (gs ys : List Runs) (h : History) → outer_ran bs (counts_of (loops_of plainly counters bs)) (groups_of gs) ≡ h
    → GroupsAlike counters stages (loops_of scope.in_lanes counters bs) (group_values (loops_of scope.in_lanes counters bs)) gs ys
    → GoAlike (outer counters style owned stages) h (outer_ran bs (counts_of (loops_of scope.in_lanes (counters_in w counters) bs)) (groups_of ys))
outer_alike w counters style owned stages bs gs ys h e all =
    subst (λ (g : History). GoAlike (outer counters style owned stages) g (outer_ran bs (counts_of (loops_of scope.in_lanes (counters_in w counters) bs)) (groups_of ys))) e
    (subst (λ ns. GoAlike (outer counters style owned stages) (outer_ran bs (counts_of (loops_of plainly counters bs)) (groups_of gs)) (outer_ran bs ns (groups_of ys))) (sym (counts_kept w counters bs)) (looped all))

-- runs of two lists of steps
order_joined : {A B : Type 0} (step : A → Step B) (xs ys : List A) (s u v : Store) (bs cs : List B) → in_order step xs s ≡ went bs u → in_order step ys u ≡ went cs v → in_order step (xs ++ ys) s ≡ went (bs ++ cs) v
order_joined step [] ys s u v bs cs i j =
    let r = order_none step s u bs i in
    ap (λ (z : Store). in_order step ys z) r.0 ∙ j ∙ ap (λ l. went (l ++ cs) v) r.1
order_joined step (x ∷ xs) ys s u v bs cs i j =
    let r = order_split step x xs s u bs i in
    order_on step x (xs ++ ys) s r.1 v r.0 (r.2 ++ cs) r.3 (order_joined step xs ys r.1 u v r.2 cs r.4 j) ∙ ap (λ l. went (l ++ cs) v) r.5

pub order_answers : {A B : Type 0} (step : A → Step B) (xs ys : List A) (s u v : Store) (bs cs all : List B) → in_order step (xs ++ ys) s ≡ went all v → in_order step xs s ≡ went bs u → in_order step ys u ≡ went cs v → bs ++ cs ≡ all
order_answers step xs ys s u v bs cs all e i j = ap (answer_of all) (sym (order_joined step xs ys s u v bs cs i j) ∙ e)
