-- A narrow core goes around no oftener: a slice that is moved word by word has the words that its lanes move.
use Rattle.std.proofs.Common.{◌≡◌, ℕ, suc, pred, ◌+◌, ◌<◌, ◌≤◌, Bool, true, false, List, [], ◌∷◌, length, map, All, Option, refl, sym, ap, subst, arith, ◌==◌}
use Rattle.std.proofs.lemmas.List.Elements.{All-head, All-tail}
use Rattle.sp_words.specs.Ports.{PlainInput}
use Rattle.sp_core.specs.declared.node.SparseKind.{SparseKind}
use Rattle.sp_core.specs.declared.node.SparseKind.TheVariants.{Gather, Scatter, WideLoad, WideStore}
use Rattle.sp_core.specs.Cost.{sum_of}
use Rattle.sp_core.specs.Declarations.{kind_of, dims, dram_number}
use Rattle.sp_core.specs.History.{Entry, Taken, History, Groups, Runs, Turn, branch_ran, moved, no_run, more_run, masked_run, no_group, more_group, groups_of, turns_of, last_word}
use Rattle.sp_core.specs.Meaning.{first_store, run_core}
use Rattle.sp_core.specs.PlainCore.{PlainOp, PlainSpan, PlainNode, PlainStages, inner, outer, fsm, branch, load, store, sparse, no_stage, more_stage, PlainCore}
use Rattle.sp_core.specs.Scope.{Reading, Scope, no_scope, is_some_live}
use Rattle.sp_core.specs.Sequential.{run, run_stages}
use Rattle.sp_core.specs.Shape.{shape_of, group_shapes, stage_shapes, body_shapes}
use Rattle.sp_core.specs.Step.{Step, went, pure, ◌>>=◌, ensure, in_order}
use Rattle.sp_core.specs.Store.{Store}
use Rattle.sp_core.specs.Transfers.{Part, part_of, lengths, has_none, all_offsets, are_parts_inside, do_fit, range_limits, make_room, load_words, store_words, load_slice, store_slice, transfer}
use Rattle.sp_within.specs.Rounds.{groups_in, rounds, group_rounds, stage_rounds, turn_rounds}
use Rattle.sp_narrow.specs.Narrow.{narrow_node, narrow_stages, narrow}
use Rattle.sp_narrow.proofs.Given.{Gives, bind_gives, then_gives, pure_gives, each_gives, turns_give}
use Rattle.sp_narrow.proofs.Sums.{in_lanes, all_words}

-- each transfer in several lanes has a lane
abbrev mutual
  pub HasLanes : PlainNode → Type 0
  HasLanes (outer counters style owned stages) = HaveLanes stages
  HasLanes (fsm start state test body next) = HasLanes body
  HasLanes (branch test first second) = HasLanes first × HasLanes second
  HasLanes (sparse WideLoad r m places spans count par) = 0 < par
  HasLanes (sparse WideStore r m places spans count par) = 0 < par
  HasLanes _ = Unit {0}

  pub HaveLanes : PlainStages → Type 0
  HaveLanes no_stage = Unit {0}
  HaveLanes (more_stage first last comb node rest) = HasLanes node × HaveLanes rest

abbrev IsLess : PlainNode → History → Type 0
IsLess node h = rounds (narrow_node node) (shape_of (narrow_node node) h) ≤ rounds node (shape_of node h)

abbrev AreLess : PlainStages → Runs → Type 0
AreLess stages runs = stage_rounds (narrow_stages stages) (stage_shapes (narrow_stages stages) runs) ≤ stage_rounds stages (stage_shapes stages runs)

same_number : (one two : PlainStages) (gs : Groups) → groups_in (group_shapes one gs) ≡ groups_in (group_shapes two gs)
unfolding group_shapes
same_number one two no_group = refl
same_number one two (more_group runs rest) = ap suc (same_number one two rest)

groups_less : (stages : PlainStages) (all : List Runs) → All (AreLess stages) all → group_rounds (narrow_stages stages) (group_shapes (narrow_stages stages) (groups_of all)) ≤ group_rounds stages (group_shapes stages (groups_of all))
unfolding group_rounds group_shapes
groups_less stages [] h = omega arith
groups_less stages (runs ∷ all) h =
    let one : AreLess stages runs = All-head (AreLess stages) runs all h in
    let others = groups_less stages all (All-tail (AreLess stages) runs all h) in
    omega (arith, one, others)

turns_less : (body : PlainNode) (all : List Turn) → All (λ (t : Turn). IsLess body t.body) all → turn_rounds (narrow_node body) (body_shapes (narrow_node body) (turns_of all)) ≤ turn_rounds body (body_shapes body (turns_of all))
unfolding turn_rounds body_shapes
turns_less body [] h = omega arith
turns_less body (t ∷ all) h =
    let one : IsLess body t.body = All-head (λ (t : Turn). IsLess body t.body) t all h in
    let others = turns_less body all (All-tail (λ (t : Turn). IsLess body t.body) t all h) in
    omega (arith, one, others)

-- what a slice moves
record IsMoved (h : History) : Type 0 where
  taken : List Taken
  words : List ℕ
  is : h ≡ moved taken words
  few : length words ≤ length (all_offsets (map part_of taken))

module _ (core : PlainCore) (r m : ℕ) where
  slice_moves : (taken : List Taken) (move : Step (List ℕ)) → Gives (λ ws. length ws ≤ length (all_offsets (map part_of taken))) move → Gives IsMoved (transfer core r m taken move)
  slice_moves taken move f = go (has_none (lengths (map part_of taken)))
    where
      go : (none : Bool) → Gives IsMoved (elim none as (λ _. Step History) [
        | true ↦ pure (moved taken [])
        | false ↦ ensure (are_parts_inside (dims core (dram_number core r)) (map part_of taken)) >>= (λ _. ensure (do_fit (range_limits (kind_of core m) (dims core m)) (lengths (map part_of taken))) >>= (λ _. move >>= (λ ws. pure (moved taken ws))))
      ])
      go true = pure_gives IsMoved (moved taken []) (record { taken = taken; words = []; is = refl; few = omega arith })
      go false =
          then_gives IsMoved (ensure (are_parts_inside (dims core (dram_number core r)) (map part_of taken))) _ (λ _.
          then_gives IsMoved (ensure (do_fit (range_limits (kind_of core m) (dims core m)) (lengths (map part_of taken)))) _ (λ _.
          bind_gives (λ ws. length ws ≤ length (all_offsets (map part_of taken))) IsMoved move _ f (λ ws few. pure_gives IsMoved (moved taken ws) (record { taken = taken; words = ws; is = refl; few = few }))))

  each_word : (step : List ℕ → Step ℕ) (parts : List Part) → Gives (λ ws. length ws ≤ length (all_offsets parts)) (in_order step (all_offsets parts))
  each_word step parts s t ws e =
      let f = each_gives (λ (w : ℕ). Unit {0}) step (λ offsets s t a e. tt) (all_offsets parts) s t ws e in
      let g : length ws ≡ length (all_offsets parts) = f.1 in
      omega (arith, g)

  load_moves : (taken : List Taken) → Gives IsMoved (load_slice core r m taken)
  load_moves taken = slice_moves taken (load_words core r m (map part_of taken)) (then_gives _ (make_room core (kind_of core m) m) _ (λ _. each_word _ (map part_of taken)))

  store_moves : (taken : List Taken) → Gives IsMoved (store_slice core r m taken)
  store_moves taken = slice_moves taken (store_words core r m (map part_of taken)) (each_word _ (map part_of taken))

module _ (kind : SparseKind) (r m : ℕ) (places : Option ℕ) (spans : List PlainSpan) (count : List PlainOp) (par : ℕ) (some : 0 < par) where
  load_less : (h : History) → IsMoved h → rounds (load r m spans) (shape_of (load r m spans) h) ≤ rounds (sparse kind r m places spans count par) (shape_of (sparse kind r m places spans count par) h)
  unfolding rounds shape_of
  load_less h x =
      let all = all_words par some (map part_of x.taken) in
      subst (λ (g : History). rounds (load r m spans) (shape_of (load r m spans) g) ≤ rounds (sparse kind r m places spans count par) (shape_of (sparse kind r m places spans count par) g)) (sym x.is)
      (let n : length x.words ≤ sum_of (in_lanes par (lengths (map part_of x.taken))) = omega (arith, all, x.few) in omega (arith, n))

  store_less : (h : History) → IsMoved h → rounds (store r m spans) (shape_of (store r m spans) h) ≤ rounds (sparse kind r m places spans count par) (shape_of (sparse kind r m places spans count par) h)
  unfolding rounds shape_of
  store_less h x =
      let all = all_words par some (map part_of x.taken) in
      subst (λ (g : History). rounds (store r m spans) (shape_of (store r m spans) g) ≤ rounds (sparse kind r m places spans count par) (shape_of (sparse kind r m places spans count par) g)) (sym x.is)
      (let n : length x.words ≤ sum_of (in_lanes par (lengths (map part_of x.taken))) = omega (arith, all, x.few) in omega (arith, n))

at_most_itself : (n : ℕ) → n ≤ n
at_most_itself n = omega arith

module _ (core : PlainCore) (reading : Reading) (most : ℕ) where
  mutual
    unfolding run run_stages rounds group_rounds stage_rounds turn_rounds shape_of group_shapes stage_shapes body_shapes

    node_less : (node : PlainNode) → HasLanes node → (scope : Scope) → Gives (IsLess node) (run core reading most node scope)
    node_less (inner counters owned ops comb) h scope = λ s t g e. at_most_itself (rounds (inner counters owned ops comb) (shape_of (inner counters owned ops comb) g))
    node_less (outer counters style owned stages) h scope =
        then_gives (IsLess (outer counters style owned stages)) _ _ (λ bs.
        bind_gives (All (AreLess stages)) (IsLess (outer counters style owned stages)) _ _
        (λ s t groups e.
        (each_gives (AreLess stages) _ (λ values. then_gives (AreLess stages) _ _ (λ _. bind_gives (AreLess stages) (AreLess stages) _ _ (stages_less stages h _ _) (λ runs less. then_gives (AreLess stages) _ _ (λ _. pure_gives (AreLess stages) runs less)))) _ s t groups e).0)
        (λ groups less. pure_gives (IsLess (outer counters style owned stages)) _ (
        let number : groups_in (group_shapes (narrow_stages stages) (groups_of groups)) ≡ groups_in (group_shapes stages (groups_of groups)) = same_number (narrow_stages stages) stages (groups_of groups) in
        let few : group_rounds (narrow_stages stages) (group_shapes (narrow_stages stages) (groups_of groups)) ≤ group_rounds stages (group_shapes stages (groups_of groups)) = groups_less stages groups less in
        together _ _ _ _ number few)))
      where
        together : (a b c d : ℕ) → a ≡ b → c ≤ d → pred a + c ≤ pred b + d
        together a b c d e f = subst (λ n. pred a + c ≤ pred n + d) e (omega (arith, f))
    node_less (fsm start state test body next) h scope =
        then_gives (IsLess (fsm start state test body next)) _ _ (λ first.
        bind_gives (λ r. All (λ (t : Turn). IsLess body t.body) r.0) (IsLess (fsm start state test body next)) _ _
        (turns_give (λ (t : Turn). IsLess body t.body) _ _ _ (λ tested. bind_gives (IsLess body) (λ (t : Turn). IsLess body t.body) _ _ (node_less body h scope) (λ g less. then_gives (λ (t : Turn). IsLess body t.body) _ _ (λ es. pure_gives (λ (t : Turn). IsLess body t.body) (record { test = tested; body = g; next = es }) less))) most)
        (λ r less. pure_gives (IsLess (fsm start state test body next)) _ (turns_less body r.0 less)))
    node_less (branch test first second) h scope =
        then_gives (IsLess (branch test first second)) _ _ (λ es. side (node_less first h.0 scope) (node_less second h.1 scope) (last_word es == 1) es)
      where
        side : Gives (IsLess first) (run core reading most first scope) → Gives (IsLess second) (run core reading most second scope) → (b : Bool) (es : List Entry) → Gives (IsLess (branch test first second)) ((elim b as (λ _. Step History) [ true ↦ run core reading most first scope | false ↦ run core reading most second scope ]) >>= (λ g. pure (branch_ran es b g)))
        side one two true es = bind_gives (IsLess first) (IsLess (branch test first second)) (run core reading most first scope) _ one (λ g less. pure_gives (IsLess (branch test first second)) (branch_ran es true g) less)
        side one two false es = bind_gives (IsLess second) (IsLess (branch test first second)) (run core reading most second scope) _ two (λ g less. pure_gives (IsLess (branch test first second)) (branch_ran es false g) less)
    node_less (load r m spans) h scope = λ s t g e. at_most_itself (rounds (load r m spans) (shape_of (load r m spans) g))
    node_less (store r m spans) h scope = λ s t g e. at_most_itself (rounds (store r m spans) (shape_of (store r m spans) g))
    node_less (sparse Gather r m places spans count par) h scope = λ s t g e. at_most_itself (rounds (sparse Gather r m places spans count par) (shape_of (sparse Gather r m places spans count par) g))
    node_less (sparse Scatter r m places spans count par) h scope = λ s t g e. at_most_itself (rounds (sparse Scatter r m places spans count par) (shape_of (sparse Scatter r m places spans count par) g))
    node_less (sparse WideLoad r m places spans count par) h scope =
        then_gives (IsLess (sparse WideLoad r m places spans count par)) _ _ (λ ts s t g e. load_less WideLoad r m places spans count par h g (load_moves core r m ts s t g e))
    node_less (sparse WideStore r m places spans count par) h scope =
        then_gives (IsLess (sparse WideStore r m places spans count par)) _ _ (λ ts s t g e. store_less WideStore r m places spans count par h g (store_moves core r m ts s t g e))

    stages_less : (stages : PlainStages) → HaveLanes stages → (live : ℕ → Bool) (scope : Scope) → Gives (AreLess stages) (run_stages core reading most stages live scope)
    stages_less no_stage h live scope = pure_gives (AreLess no_stage) no_run (omega arith)
    stages_less (more_stage first last comb node rest) h live scope = side (node_less node h.0 scope) (stages_less rest h.1 live scope) (is_some_live live first last)
      where
        side : Gives (IsLess node) (run core reading most node scope) → Gives (AreLess rest) (run_stages core reading most rest live scope) → (b : Bool) → Gives (AreLess (more_stage first last comb node rest)) (elim b as (λ _. Step Runs) [
          | true ↦ run core reading most node scope >>= (λ g. run_stages core reading most rest live scope >>= (λ others. pure (more_run g others)))
          | false ↦ run_stages core reading most rest live scope >>= (λ others. pure (masked_run others))
        ])
        side here others true =
            bind_gives (IsLess node) (AreLess (more_stage first last comb node rest)) (run core reading most node scope) _ here (λ g one.
            bind_gives (AreLess rest) (AreLess (more_stage first last comb node rest)) (run_stages core reading most rest live scope) _ others (λ others less.
            pure_gives (AreLess (more_stage first last comb node rest)) (more_run g others) (omega (arith, one, less))))
        side here others false =
            bind_gives (AreLess rest) (AreLess (more_stage first last comb node rest)) (run_stages core reading most rest live scope) _ others (λ others less.
            pure_gives (AreLess (more_stage first last comb node rest)) (masked_run others) less)

pub no_oftener : (core : PlainCore) → HasLanes core.root → (reading : Reading) (n : ℕ) (input : PlainInput) (h : History) (t : Store) → run_core reading n core input ≡ went h t
    → rounds (narrow core).root (shape_of (narrow core).root h) ≤ rounds core.root (shape_of core.root h)
unfolding run_core
no_oftener core lanes reading n input h t e = node_less core reading n core.root lanes no_scope (first_store core input) t h e
