-- What goes alike in lanes goes around no oftener than it does in the core.
use Rattle.std.proofs.Common.{◌≡◌, ℕ, zero, suc, ◌+◌, ◌≤◌, ◌==◌, Bool, true, false, ℤ, List, [], ◌∷◌, ◌++◌, map, length, Option, refl, sym, ◌∙◌, ap, subst, arith}
use Rattle.std.proofs.lemmas.Bool.{true≢false, eq-eqb}
use Rattle.std.proofs.lemmas.List.{length-append}
use Rattle.std.specs.Prelude.{option_map, pred}
use Rattle.sp_words.specs.declared.kind.Style.{Style}
use Rattle.sp_core.specs.declared.node.SparseKind.{SparseKind}
use Rattle.sp_core.specs.Around.{lanes_of}
use Rattle.sp_core.specs.Cost.{group_count}
use Rattle.sp_core.specs.Elements.{numbers_below}
use Rattle.sp_core.specs.History.{Bounds, History, Runs, Turn, outer_ran, moved, picked, no_run, masked_run, more_run, groups_of, turns_of}
use Rattle.sp_core.specs.PlainCore.{PlainOp, PlainSpan, PlainCounter, PlainNode, PlainStages, outer, load, store, sparse, no_stage, more_stage}
use Rattle.sp_core.specs.Scope.{Loop, is_live}
use Rattle.sp_core.specs.Shape.{shape_of, group_shapes, stage_shapes, body_shapes}
use Rattle.sp_within.specs.Rounds.{groups_in, rounds, group_rounds, stage_rounds, turn_rounds}
use Rattle.sp_lanes.specs.Unrolled.{node_in, nodes_in, left_as_they_are, stages_in, stages_by_lane, stage_after, combination_in, combination_of, owned_in_lanes}
use Rattle.sp_lanes.specs.Within.{Within, owning, in_lane, counters_in}
use Rattle.sp_lane_groups.specs.Groups.{lanes_from}
use Rattle.sp_lane_groups.specs.InnersAlike as alike
use Rattle.sp_lane_groups.specs.InnersAlike.{own_stages, own_runs, left_out, GoAlike, TurnsAlike, GroupsAlike, GroupAlike, StagesAlike, LanesAlike, LaneAlike, EndsAlike}
use Rattle.sp_lane_groups.proofs.InnersHistories.{groups_kept}
use Rattle.sp_lane_trees.proofs.ReductionsNode.{numbers_are_lanes, map_alike}
use Rattle.sp_lane_trees.proofs.ReductionsOwn.{nodes_same}

-- of the stages of a group, and of groups
abbrev run_rounds : PlainStages → Runs → ℕ
run_rounds stages r = stage_rounds stages (stage_shapes stages r)

abbrev all_rounds : PlainStages → List Runs → ℕ
all_rounds stages [] = 0
all_rounds stages (r ∷ rs) = run_rounds stages r + all_rounds stages rs

rounds_append : (stages : PlainStages) (xs ys : List Runs) → all_rounds stages (xs ++ ys) ≡ all_rounds stages xs + all_rounds stages ys
rounds_append stages [] ys = omega arith
rounds_append stages (x ∷ xs) ys = omega (arith, rounds_append stages xs ys)

groups_rounds : (stages : PlainStages) (rs : List Runs) → group_rounds stages (group_shapes stages (groups_of rs)) ≡ all_rounds stages rs
unfolding rounds shape_of
groups_rounds stages [] = refl
groups_rounds stages (r ∷ rs) = ap (λ n. run_rounds stages r + n) (groups_rounds stages rs)

groups_long : (stages : PlainStages) (rs : List Runs) → groups_in (group_shapes stages (groups_of rs)) ≡ length rs
unfolding shape_of
groups_long stages [] = refl
groups_long stages (r ∷ rs) = ap suc (groups_long stages rs)

-- sums, over variables
same_most : (a b : ℕ) → a ≡ b → a ≤ b
same_most a b e = omega (arith, e)

through : (a b c : ℕ) → a ≤ b → b ≤ c → a ≤ c
through a b c f g = omega (arith, f, g)

added : (i j m n : ℕ) → i ≤ j → m ≤ n → i + m ≤ j + n
added i j m n f g = omega (arith, f, g)

added_next : (i j m n : ℕ) → i ≤ j → m ≤ n → suc i + m ≤ suc j + n
added_next i j m n f g = omega (arith, f, g)

grown : (i j m a b : ℕ) → i ≤ j → m ≤ a + b → i + m ≤ j + a + b
grown i j m a b f g = omega (arith, f, g)

joined : (y r a rs t : ℕ) → y ≤ r + a → a ≤ rs + t → y ≤ r + rs + t
joined y r a rs t f g = omega (arith, f, g)

whole : (y own rest tail first others : ℕ) → y ≤ own + rest + tail → own + tail ≤ first → rest ≤ others → y ≤ first + others
whole y own rest tail first others f g h = omega (arith, f, g, h)

past : (n a b : ℕ) → a ≤ b → a ≤ n + b
past n a b f = omega (arith, f)

one_more : (a b : ℕ) → a ≤ b → a ≤ b + 0
one_more a b f = omega (arith, f)

counted : (a b n c : ℕ) → 1 ≤ a → n ≤ b → c ≡ a + b → suc n ≤ c
counted a b n c h k e = omega (arith, h, k, e)

summed : (i j a b c : ℕ) → i ≤ a → j ≤ b → c ≡ a + b → i + j ≤ c
summed i j a b c h k e = omega (arith, h, k, e)

fewer : (a b x y : ℕ) → a ≤ b → x ≤ y → pred a + x ≤ pred b + y
fewer zero b x y f l = omega (arith, l)
fewer (suc a) zero x y f l = absurd (omega (arith, f))
fewer (suc a) (suc b) x y f l = omega (arith, f, l)

combines : (own all there here : ℕ) → own ≤ all → there ≡ here → own + (there + 0) ≤ here + all
combines own all there here f e = omega (arith, f, e)

passes : (n own t all : ℕ) → own + t ≤ all → n + own + t ≤ n + all
passes n own t all f = omega (arith, f)

-- stages of which none combines
abbrev AreOwn : PlainStages → Type 0
AreOwn no_stage = Unit {0}
AreOwn (more_stage first last true node rest) = ⊥
AreOwn (more_stage first last false node rest) = AreOwn rest

own_are_own : (stages : PlainStages) → AreOwn (own_stages stages)
own_are_own no_stage = tt
own_are_own (more_stage first last true node rest) = own_are_own rest
own_are_own (more_stage first last false node rest) = own_are_own rest

nothing_ran : (xs : PlainStages) → run_rounds xs no_run ≤ 0
unfolding rounds shape_of
nothing_ran no_stage = omega arith
nothing_ran (more_stage first last comb node rest) = omega arith

-- the stages but the one that combines go around no oftener than all do
own_less : (stages : PlainStages) (r : Runs) → run_rounds (own_stages stages) (own_runs stages r) ≤ run_rounds stages r
unfolding rounds shape_of
own_less no_stage r = omega arith
own_less (more_stage first last true node rest) (more_run h r) = past (rounds node (shape_of node h)) _ _ (own_less rest r)
own_less (more_stage first last true node rest) (masked_run r) = own_less rest r
own_less (more_stage first last true node rest) no_run = nothing_ran (own_stages rest)
own_less (more_stage first last false node rest) (more_run h r) = added (rounds node (shape_of node h)) (rounds node (shape_of node h)) _ _ (omega arith) (own_less rest r)
own_less (more_stage first last false node rest) (masked_run r) = own_less rest r
own_less (more_stage first last false node rest) no_run = omega arith

all_less : (stages : PlainStages) (rs : List Runs) → all_rounds (own_stages stages) (map (own_runs stages) rs) ≤ all_rounds stages rs
all_less stages [] = omega arith
all_less stages (r ∷ rs) = added (run_rounds (own_stages stages) (own_runs stages r)) (run_rounds stages r) _ _ (own_less stages r) (all_less stages rs)

module _ (order : List ℕ) where
  -- a transfer that moves the same words goes around as often
  load_less : (w : Within) (r m : ℕ) (spans : List PlainSpan) (h : History) → rounds (node_in order w (load r m spans)) (shape_of (node_in order w (load r m spans)) h) ≤ rounds (load r m spans) (shape_of (load r m spans) h)
  unfolding node_in rounds shape_of
  load_less w r m spans (moved ts ws) = same_most _ _ refl
  load_less w r m spans (picked es ws) = same_most _ _ refl
  load_less w r m spans h = same_most _ _ refl

  store_less : (w : Within) (r m : ℕ) (spans : List PlainSpan) (h : History) → rounds (node_in order w (store r m spans)) (shape_of (node_in order w (store r m spans)) h) ≤ rounds (store r m spans) (shape_of (store r m spans) h)
  unfolding node_in rounds shape_of
  store_less w r m spans (moved ts ws) = same_most _ _ refl
  store_less w r m spans (picked es ws) = same_most _ _ refl
  store_less w r m spans h = same_most _ _ refl

  sparse_less : (w : Within) (kind : SparseKind) (r m : ℕ) (places : Option ℕ) (spans : List PlainSpan) (count : List PlainOp) (par : ℕ) (h : History)
      → rounds (node_in order w (sparse kind r m places spans count par)) (shape_of (node_in order w (sparse kind r m places spans count par)) h) ≤ rounds (sparse kind r m places spans count par) (shape_of (sparse kind r m places spans count par) h)
  unfolding node_in rounds shape_of
  sparse_less w kind r m places spans count par (moved ts ws) = same_most _ _ refl
  sparse_less w kind r m places spans count par (picked es ws) = same_most _ _ refl
  sparse_less w kind r m places spans count par h = same_most _ _ refl

  -- a combination after all lanes
  ends_less : (w : Within) (counters : List PlainCounter) (owned : List ℕ) (lanes : ℕ) (stages : PlainStages) (r tail : Runs) → EndsAlike stages r tail
      → run_rounds (own_stages stages) (own_runs stages r) + run_rounds (stage_after lanes (option_map (combination_in order w counters owned) (combination_of stages))) tail ≤ run_rounds stages r
  unfolding rounds shape_of
  ends_less w counters owned lanes _ _ _ alike.nothing = omega arith
  ends_less w counters owned lanes _ _ _ (alike.combined {counters = cs} {rest = rest} {counts = counts} {r = r}) =
      combines (run_rounds (own_stages rest) (own_runs rest r)) (run_rounds rest r) (pred (group_count (counters_in (in_lane order counters owned w 0) cs) counts)) (pred (group_count cs counts)) (own_less rest r)
      (ap pred (groups_kept (in_lane order counters owned w 0) cs counts))
  ends_less w counters owned lanes _ _ _ (alike.past {node = node} {rest = rest} {h = h} {r = r} {tail = tail} x) = passes (rounds node (shape_of node h)) _ _ _ (ends_less w counters owned lanes rest r tail x)

  -- a lane without an iteration
  left_less : (w : Within) (l : ℕ) (xs : PlainStages) → AreOwn xs → (rest : PlainStages) (after : Runs) → run_rounds (stages_in l (nodes_in order w xs) rest) (left_out xs after) ≤ run_rounds rest after
  unfolding nodes_in rounds shape_of
  left_less w l no_stage own rest after = omega arith
  left_less w l (more_stage first last true node others) own rest after = absurd own
  left_less w l (more_stage first last false node others) own rest after = left_less w l others own rest after

  module _ (w : Within) (counters : List PlainCounter) (owned : List ℕ) (stages : PlainStages) where
    abbrev tail_stages : PlainStages
    tail_stages = stage_after (lanes_of counters) (option_map (combination_in order w counters owned) (combination_of stages))

    -- in lanes, whether there is one lane or not
    abbrev stages_there : Bool → PlainStages
    stages_there true = left_as_they_are order (in_lane order counters owned w 0) stages
    stages_there false = stages_by_lane 0 (map (λ l. nodes_in order (in_lane order counters owned w l) stages) (numbers_below (lanes_of counters))) tail_stages

    abbrev lanes_there : (l k : ℕ) → PlainStages → PlainStages
    lanes_there l k more = stages_by_lane l (map (λ l. nodes_in order (in_lane order counters owned w l) stages) (lanes_from l k)) more

    own_are : stages_there false ≡ stages_by_lane 0 (map (λ l. nodes_in order (in_lane order counters owned w l) (own_stages stages)) (lanes_from 0 (lanes_of counters))) tail_stages
    own_are =
        ap (λ ls. stages_by_lane 0 (map (λ l. nodes_in order (in_lane order counters owned w l) stages) ls) tail_stages) (numbers_are_lanes (lanes_of counters))
        ∙ ap (λ xs. stages_by_lane 0 xs tail_stages)
        (map_alike (λ l. nodes_in order (in_lane order counters owned w l) stages) (λ l. nodes_in order (in_lane order counters owned w l) (own_stages stages)) (lanes_from 0 (lanes_of counters)) (λ l. sym (nodes_same order (in_lane order counters owned w l) stages)))

    loop_is : (style : Style) (b : Bool) → (lanes_of counters == 1) ≡ b → node_in order w (outer counters style owned stages) ≡ outer (counters_in w counters) style (owned_in_lanes order counters owned w) (stages_there b)
    unfolding node_in
    loop_is style true e = ap (λ b. elim b as (λ _. PlainNode) [ true ↦ outer (counters_in w counters) style (owned_in_lanes order counters owned w) (stages_there true) | false ↦ outer (counters_in w counters) style (owned_in_lanes order counters owned w) (stages_there false) ]) e
    loop_is style false e = ap (λ b. elim b as (λ _. PlainNode) [ true ↦ outer (counters_in w counters) style (owned_in_lanes order counters owned w) (stages_there true) | false ↦ outer (counters_in w counters) style (owned_in_lanes order counters owned w) (stages_there false) ]) e

  -- a body with stages, by its groups
  outer_less : (counters cs : List PlainCounter) (style : Style) (owned own : List ℕ) (stages others : PlainStages) (bs : List Bounds) (counts : List ℕ) (gs ys : List Runs) → length ys ≤ length gs → all_rounds others ys ≤ all_rounds stages gs
      → rounds (outer cs style own others) (shape_of (outer cs style own others) (outer_ran bs counts (groups_of ys))) ≤ rounds (outer counters style owned stages) (shape_of (outer counters style owned stages) (outer_ran bs counts (groups_of gs)))
  unfolding rounds shape_of
  outer_less counters cs style owned own stages others bs counts gs ys few less =
      fewer (groups_in (group_shapes others (groups_of ys))) (groups_in (group_shapes stages (groups_of gs))) (group_rounds others (group_shapes others (groups_of ys))) (group_rounds stages (group_shapes stages (groups_of gs)))
      (omega (arith, few, groups_long others ys, groups_long stages gs)) (omega (arith, less, groups_rounds others ys, groups_rounds stages gs))

  mutual
    unfolding node_in nodes_in left_as_they_are rounds shape_of

    pub node_less : (w : Within) (node : PlainNode) (h g : History) → GoAlike node h g → rounds (node_in order w node) (shape_of (node_in order w node) g) ≤ rounds node (shape_of node h)
    node_less w _ _ _ (alike.body {counters = counters} {counts = counts}) = same_most _ _ (ap pred (groups_kept w counters counts))
    node_less w _ h _ (alike.loaded {r = r} {m = m} {spans = spans}) = load_less w r m spans h
    node_less w _ h _ (alike.stored {r = r} {m = m} {spans = spans}) = store_less w r m spans h
    node_less w _ h _ (alike.sparsely {kind = kind} {r = r} {m = m} {places = places} {spans = spans} {count = count} {par = par}) = sparse_less w kind r m places spans count par h
    node_less w _ _ _ (alike.one_side {first = first} {h = h} {g = g} x) = node_less w first h g x
    node_less w _ _ _ (alike.other_side {second = second} {h = h} {g = g} x) = node_less w second h g x
    node_less w _ _ _ (alike.turned {state = state} {node = node} {ts = ts} {us = us} x) = turns_less (owning order (state ∷ []) w) node ts us x
    node_less w _ _ _ (alike.looped {counters = counters} {style = style} {owned = owned} {stages = stages} {bounds = bounds} {counts = counts} {rs = rs} {ys = ys} x) =
        let all = groups_less w counters owned stages (lanes_of counters == 1) refl _ _ rs ys x in
        subst (λ (node : PlainNode). rounds node (shape_of node (outer_ran bounds counts (groups_of ys))) ≤ rounds (outer counters style owned stages) (shape_of (outer counters style owned stages) (outer_ran bounds counts (groups_of rs))))
        (sym (loop_is w counters owned stages style (lanes_of counters == 1) refl))
        (outer_less counters (counters_in w counters) style owned (owned_in_lanes order counters owned w) stages (stages_there w counters owned stages (lanes_of counters == 1)) bounds counts rs ys all.0 all.1)

    turns_less : (w : Within) (node : PlainNode) (ts us : List Turn) → TurnsAlike node ts us → turn_rounds (node_in order w node) (body_shapes (node_in order w node) (turns_of us)) ≤ turn_rounds node (body_shapes node (turns_of ts))
    turns_less w node _ _ alike.no_turns = omega arith
    turns_less w node _ _ (alike.more_turns {a = a} {b = b} {ts = ts} {us = us} x y) = added_next _ _ _ _ (node_less w node a.body b.body x) (turns_less w node ts us y)

    groups_less : (w : Within) (counters : List PlainCounter) (owned : List ℕ) (stages : PlainStages) (b : Bool) → (lanes_of counters == 1) ≡ b → (loops : List Loop) (all : List (List ℤ)) (rs ys : List Runs) → GroupsAlike counters stages loops all rs ys
        → (length ys ≤ length rs) × (all_rounds (stages_there w counters owned stages b) ys ≤ all_rounds stages rs)
    groups_less w counters owned stages b e loops _ _ _ alike.no_groups = (omega arith, omega arith)
    groups_less w counters owned stages b e loops _ _ _ (alike.more_groups {values = values} {all = all} {rs = rs} {qs = qs} {y = y} {ys = ys} x z) =
        let one = group_less w counters owned stages b e (is_live loops values) rs y x in
        let more = groups_less w counters owned stages b e loops all qs ys z in
        (counted (length rs) (length qs) (length ys) (length (rs ++ qs)) one.0 more.0 (length-append rs qs), summed _ _ _ _ _ one.1 more.1 (rounds_append stages rs qs))

    group_less : (w : Within) (counters : List PlainCounter) (owned : List ℕ) (stages : PlainStages) (b : Bool) → (lanes_of counters == 1) ≡ b → (live : ℕ → Bool) (rs : List Runs) (y : Runs) → GroupAlike counters stages live rs y
        → (1 ≤ length rs) × (run_rounds (stages_there w counters owned stages b) y ≤ all_rounds stages rs)
    group_less w counters owned stages true e live _ y (alike.alone {r = r} one x) = (omega arith, one_more _ _ (stages_less (in_lane order counters owned w 0) stages r y x))
    group_less w counters owned stages false e live _ y (alike.alone one x) = absurd (true≢false (sym (eq-eqb (lanes_of counters) 1 one) ∙ e))
    group_less w counters owned stages true e live _ y (alike.together several x z) = absurd (true≢false (sym e ∙ several))
    group_less w counters owned stages false e live _ y (alike.together {r = r} {rs = rs} {tail = tail} several x z) = (
      omega arith,
      whole (run_rounds (stages_there w counters owned stages false) y) (run_rounds (own_stages stages) (own_runs stages r)) (all_rounds (own_stages stages) (map (own_runs stages) rs)) (run_rounds (tail_stages w counters owned stages) tail) (run_rounds stages r) (all_rounds stages rs)
          (subst (λ xs. run_rounds xs y ≤ run_rounds (own_stages stages) (own_runs stages r) + all_rounds (own_stages stages) (map (own_runs stages) rs) + run_rounds (tail_stages w counters owned stages) tail) (sym (own_are w counters owned stages))
          (lanes_less w counters owned (own_stages stages) (own_are_own stages) (tail_stages w counters owned stages) live tail 0 (lanes_of counters) (map (own_runs stages) (r ∷ rs)) y x))
          (ends_less w counters owned (lanes_of counters) stages r tail z) (all_less stages rs),
    )

    stages_less : (w : Within) (stages : PlainStages) (r y : Runs) → StagesAlike stages r y → run_rounds (left_as_they_are order w stages) y ≤ run_rounds stages r
    stages_less w _ _ _ alike.no_stages = omega arith
    stages_less w _ _ _ (alike.ran {node = node} {rest = rest} {h = h} {g = g} {r = r} {y = y} x z) = added _ _ _ _ (node_less w node h g x) (stages_less w rest r y z)
    stages_less w _ _ _ (alike.passed {rest = rest} {r = r} {y = y} z) = stages_less w rest r y z

    lanes_less : (w : Within) (counters : List PlainCounter) (owned : List ℕ) (xs : PlainStages) → AreOwn xs → (more : PlainStages) (live : ℕ → Bool) (tail : Runs) (l k : ℕ) (rs : List Runs) (y : Runs) → LanesAlike xs live tail l k rs y
        → run_rounds (lanes_there w counters owned xs l k more) y ≤ all_rounds xs rs + run_rounds more tail
    lanes_less w counters owned xs own more live tail l _ _ _ alike.all_lanes = omega arith
    lanes_less w counters owned xs own more live tail l _ _ y (alike.with_one {k = k} {r = r} {after = after} {rs = rs} on x z) =
        joined _ _ _ _ _ (lane_less (in_lane order counters owned w l) l xs own r after y (lanes_there w counters owned xs (suc l) k more) x) (lanes_less w counters owned xs own more live tail (suc l) k rs after z)
    lanes_less w counters owned xs own more live tail l _ _ _ (alike.without {k = k} {after = after} off z) =
        through _ _ _ (left_less (in_lane order counters owned w l) l xs own (lanes_there w counters owned xs (suc l) k more) after) (lanes_less w counters owned xs own more live tail (suc l) k [] after z)

    lane_less : (w : Within) (l : ℕ) (xs : PlainStages) → AreOwn xs → (r after y : Runs) (rest : PlainStages) → LaneAlike xs r after y → run_rounds (stages_in l (nodes_in order w xs) rest) y ≤ run_rounds xs r + run_rounds rest after
    lane_less w l _ own _ after _ rest alike.lane_over = omega arith
    lane_less w l _ own _ after _ rest (alike.stage_ran {comb = true} x z) = absurd own
    lane_less w l _ own _ after _ rest (alike.stage_ran {comb = false} {node = node} {rest = others} {h = h} {g = g} {r = r} {y = y} x z) = grown _ _ _ _ _ (node_less w node h g x) (lane_less w l others own r after y rest z)
