-- The run of a node goes around no oftener than what is counted in it is read as, along an outline of the node.
use Rattle.std.proofs.Common.{◌≡◌, ℕ, zero, suc, ◌+◌, ◌≤◌, pred, Bool, true, false, ℤ, List, [], ◌∷◌, ◌++◌, Option, refl, sym, ◌∙◌, ap, subst, arith, length, map}
use Rattle.sp_words.specs.Interface.{word_count}
use Rattle.sp_words.specs.declared.kind.Style.{Style}
use Rattle.sp_core.specs.Cost.{group_count, sum_of}
use Rattle.sp_core.specs.Elements.{index_value, values_below}
use Rattle.sp_core.specs.History.{Entry, Bounds, History, Runs, last_word, inner_ran, outer_ran, no_run, masked_run, more_run, groups_of}
use Rattle.sp_core.specs.Operations.{operations}
use Rattle.sp_core.specs.PlainCore.{PlainOp, PlainCounter, PlainNode, PlainStages, PlainCore, inner, outer, fsm, branch, load, store, sparse, no_stage, more_stage}
use Rattle.sp_core.specs.Scope.{Loop, Scope, plainly, loops_of, counts_of as loop_counts, group_values, is_live, is_some_live, in_group}
use Rattle.sp_core.specs.Sequential.{renew, renew_in_body, end_of_group, bounds, run, run_stages}
use Rattle.sp_core.specs.Shape.{shape_of, group_shapes, stage_shapes}
use Rattle.sp_core.specs.Step.{Step, went, pure, ◌>>=◌, ◌>>◌, in_order}
use Rattle.sp_core.specs.Store.{Store}
use Rattle.sp_within.specs.Rounds.{groups_in, rounds, group_rounds, stage_rounds}
use Rattle.sp_sugar.proofs.StepLemmas.{core_apart, same_core_answer}
use Rattle.sp_same.specs.Counts.{Count, loop, words, counts_of, group_counts, stage_counts}
use Rattle.sp_same.proofs.BoundsTaken.{IsLive}
use Rattle.sp_same.proofs.Groups.{first_is_live}
use Rattle.sp_same.proofs.Values.{Each, Fit, FitAll, values_live, tuples_fit}
use Rattle.sp_turns.proofs.Outlines.{Outlines, loop_of, fsm_of, branch_of, transfer as transferred, no_outline, only, joined, Spent, besides, times, spent, spent_all, Reads, reads_nothing, reads_only, reads_joined, flat, ReadsEach, reads_times}
use Rattle.sp_turns.proofs.Counted.{no_more_counts, reads_same}
use Rattle.sp_turns.proofs.GroupCounts.{groups_within, group_number}

-- each counter goes on
abbrev pub HaveSteps : List PlainCounter → Type 0
HaveSteps [] = Unit {0}
HaveSteps (c ∷ counters) = (1 ≤ c.by) × HaveSteps counters

module _ (core : PlainCore) where
  -- no run of a node goes around oftener
  abbrev pub IsAtMost : PlainNode → ℕ → Type 0
  IsAtMost node m = (most : ℕ) (scope : Scope) (s t : Store) (h : History) → run core plainly most node scope s ≡ went h t → rounds node (shape_of node h) ≤ m

  -- a node and an outline of what is counted in its runs; of stages, how often their combinations go around
  abbrev mutual
    pub Outlined : PlainNode → Outlines → Type 0
    Outlined (inner [] owned ops comb) ps = ps ≡ no_outline
    Outlined (inner (c ∷ counters) owned ops comb) ps = ps ≡ only (loop_of 0 no_outline)
    Outlined (outer [] style owned stages) ps = StagesOutlined stages 0 ps
    Outlined (outer (c ∷ counters) style owned stages) ps = (m : ℕ) × (qs : Outlines) × HaveSteps (c ∷ counters) × StagesOutlined stages m qs × (ps ≡ only (loop_of m qs))
    Outlined (fsm start state test body next) ps = (qs : Outlines) × Outlined body qs × (ps ≡ only (fsm_of qs))
    Outlined (branch test first second) ps = (qs : Outlines) × (rs : Outlines) × Outlined first qs × Outlined second rs × (ps ≡ only (branch_of qs rs))
    Outlined (load r m spans) ps = ps ≡ only transferred
    Outlined (store r m spans) ps = ps ≡ only transferred
    Outlined (sparse kind r m places spans count par) ps = ps ≡ only transferred

    pub StagesOutlined : PlainStages → ℕ → Outlines → Type 0
    StagesOutlined no_stage m ps = ps ≡ no_outline
    StagesOutlined (more_stage first last true node rest) m ps = (first ≡ 0) × (last ≡ 0) × (a : ℕ) × (b : ℕ) × IsAtMost node a × (a + b ≤ m) × StagesOutlined rest b ps
    StagesOutlined (more_stage first last false node rest) m ps = (first ≡ 0) × (last ≡ 0) × (qs : Outlines) × (rs : Outlines) × Outlined node qs × StagesOutlined rest m rs × (ps ≡ joined qs rs)

  -- what is counted is read so, and the run goes around no oftener
  pub record GoesAround (ps : Outlines) (cs : List Count) (n : ℕ) : Type 0 where
    pub k : ℕ
    pub reads : Reads (spent_all ps) cs k
    pub within : n ≤ k

  abbrev pub NodeGoes : PlainNode → Outlines → Type 0
  NodeGoes node ps = (most : ℕ) (scope : Scope) (s t : Store) (h : History) → run core plainly most node scope s ≡ went h t → GoesAround ps (counts_of node (shape_of node h)) (rounds node (shape_of node h))

  pub record StagesGo (stages : PlainStages) (m : ℕ) (ps : Outlines) (runs : Runs) : Type 0 where
    k : ℕ
    reads : Reads (spent_all ps) (stage_counts stages (stage_shapes stages runs)) k
    within : stage_rounds stages (stage_shapes stages runs) ≤ m + k

  abbrev pub StagesGoes : PlainStages → ℕ → Outlines → Type 0
  StagesGoes stages m ps = (most : ℕ) (live : ℕ → Bool) (scope : Scope) (s t : Store) (runs : Runs) → live 0 ≡ true → run_stages core plainly most stages live scope s ≡ went runs t → StagesGo stages m ps runs

  one_less : (n m : ℕ) → n ≤ m → pred n ≤ m
  one_less zero m le = omega arith
  one_less (suc n) m le = omega (arith, le)

  -- an inner body
  module _ (most : ℕ) (counters : List PlainCounter) (owned : List ℕ) (ops : List PlainOp) (comb : Option ℕ) (scope : Scope) (s t : Store) (h : History) (e : run core plainly most (inner counters owned ops comb) scope s ≡ went h t) where
    pub inner_is : (bs : List Bounds) × (groups : List (List Entry)) × (inner_ran bs (loop_counts (loops_of plainly counters bs)) groups ≡ h) × (u : Store) × (in_order (bounds core plainly most scope) counters s ≡ went bs u)
    unfolding run pure
    inner_is =
        let group : List Bounds → List ℤ → Step (List Entry) = λ bs values. in_order (renew_in_body core plainly most) owned >> operations core (in_group scope (loops_of plainly counters bs) values) ops in
        let x = core_apart (in_order (bounds core plainly most scope) counters) (λ bs. in_order (group bs) (group_values (loops_of plainly counters bs)) >>= (λ groups. pure (inner_ran bs (loop_counts (loops_of plainly counters bs)) groups))) s h t e in
        let y = core_apart (in_order (group x.answer) (group_values (loops_of plainly counters x.answer))) (λ groups. pure (inner_ran x.answer (loop_counts (loops_of plainly counters x.answer)) groups)) x.store h t x.second in
        (x.answer, y.answer, ended x.answer y.answer y.store y.second, x.store, x.first)
      where
        ended : (bs : List Bounds) (groups : List (List Entry)) (u : Store) → pure (inner_ran bs (loop_counts (loops_of plainly counters bs)) groups) u ≡ went h t → inner_ran bs (loop_counts (loops_of plainly counters bs)) groups ≡ h
        ended bs groups u f = same_core_answer (inner_ran bs (loop_counts (loops_of plainly counters bs)) groups) h u t f

  so_often : (n : ℕ) (rest : List Count) → times n (besides 1 (spent_all no_outline)) rest ≡ (n, rest)
  unfolding times spent_all
  so_often zero rest = refl
  so_often (suc n) rest = ap (λ (x : Spent). (1 + 0 + x.0, x.1)) (so_often n rest) ∙ ap (λ k. (k, rest)) {x = 1 + 0 + n} {y = suc n} (omega arith)

  loop_reads : (ns : List ℕ) → Reads (spent_all (only (loop_of 0 no_outline))) (loop ns ∷ []) (word_count ns)
  unfolding spent
  loop_reads ns = reads_only (loop_of 0 no_outline) (loop ns ∷ []) (word_count ns) (λ rest. so_often (word_count ns) rest)

  pub alone_small : (owned : List ℕ) (ops : List PlainOp) (comb : Option ℕ) (m : ℕ) → IsAtMost (inner [] owned ops comb) m
  unfolding shape_of rounds
  alone_small owned ops comb m most scope s t h e =
      let x = inner_is most [] owned ops comb scope s t h e in
      subst (λ (y : History). rounds (inner [] owned ops comb) (shape_of (inner [] owned ops comb) y) ≤ m) x.2 (omega arith)

  -- the loop of a combination, by how many values its counters have
  pub loop_small : (counters : List PlainCounter) (owned : List ℕ) (ops : List PlainOp) (comb : Option ℕ) (m : ℕ) → ((most : ℕ) (scope : Scope) (s u : Store) (bs : List Bounds) → in_order (bounds core plainly most scope) counters s ≡ went bs u → word_count (loop_counts (loops_of plainly counters bs)) ≤ m)
      → IsAtMost (inner counters owned ops comb) m
  unfolding shape_of rounds
  loop_small counters owned ops comb m few most scope s t h e =
      let x = inner_is most counters owned ops comb scope s t h e in
      let ns : List ℕ = loop_counts (loops_of plainly counters x.0) in
      subst (λ (y : History). rounds (inner counters owned ops comb) (shape_of (inner counters owned ops comb) y) ≤ m) x.2
      (one_less (group_count counters ns) m (let f = groups_within counters x.0 in let g = few most scope s x.3 x.0 x.4 in omega (arith, f, g)))

  pub alone_goes : (owned : List ℕ) (ops : List PlainOp) (comb : Option ℕ) → NodeGoes (inner [] owned ops comb) no_outline
  unfolding shape_of counts_of rounds
  alone_goes owned ops comb most scope s t h e =
      let x = inner_is most [] owned ops comb scope s t h e in
      subst (λ (y : History). GoesAround no_outline (counts_of (inner [] owned ops comb) (shape_of (inner [] owned ops comb) y)) (rounds (inner [] owned ops comb) (shape_of (inner [] owned ops comb) y))) x.2 (record { k = 0; reads = reads_nothing; within = omega arith })

  pub inner_goes : (c : PlainCounter) (counters : List PlainCounter) (owned : List ℕ) (ops : List PlainOp) (comb : Option ℕ) → NodeGoes (inner (c ∷ counters) owned ops comb) (only (loop_of 0 no_outline))
  unfolding shape_of counts_of rounds
  inner_goes c counters owned ops comb most scope s t h e =
      let x = inner_is most (c ∷ counters) owned ops comb scope s t h e in
      let ns : List ℕ = loop_counts (loops_of plainly (c ∷ counters) x.0) in
      subst (λ (y : History). GoesAround (only (loop_of 0 no_outline)) (counts_of (inner (c ∷ counters) owned ops comb) (shape_of (inner (c ∷ counters) owned ops comb) y)) (rounds (inner (c ∷ counters) owned ops comb) (shape_of (inner (c ∷ counters) owned ops comb) y))) x.2
      (record { k = word_count ns; reads = loop_reads ns; within = one_less (group_count (c ∷ counters) ns) (word_count ns) (groups_within (c ∷ counters) x.0) })

  -- a transfer, whatever its history is
  pub words_go : (n : ℕ) → GoesAround (only transferred) (words (n ∷ []) ∷ []) (suc n)
  unfolding spent
  words_go n = record { k = suc (n + 0); reads = reads_only transferred (words (n ∷ []) ∷ []) (suc (n + 0)) (λ rest. refl); within = omega arith }

  pub lanes_go : (ns : List ℕ) → GoesAround (only transferred) (words ns ∷ []) (suc (sum_of ns))
  unfolding spent
  lanes_go ns = record { k = suc (sum_of ns); reads = reads_only transferred (words ns ∷ []) (suc (sum_of ns)) (λ rest. refl); within = omega arith }

  -- the groups of a loop, by the stages of each
  module _ (most : ℕ) (style : Style) (owned : List ℕ) (stages : PlainStages) (m : ℕ) (qs : Outlines) (go : StagesGoes stages m qs) (ls : List Loop) (scope : Scope) where
    abbrev group : List ℤ → Step Runs
    group values = in_order (renew core plainly most) owned >> (run_stages core plainly most stages (is_live ls values) (in_group scope ls values) >>= (λ runs. end_of_group core plainly most style owned >> pure runs))

    one_group : (values : List ℤ) (s t : Store) (runs : Runs) → is_live ls values 0 ≡ true → group values s ≡ went runs t → StagesGo stages m qs runs
    unfolding pure
    one_group values s t runs l e =
        let x = core_apart (in_order (renew core plainly most) owned) (λ _. run_stages core plainly most stages (is_live ls values) (in_group scope ls values) >>= (λ runs. end_of_group core plainly most style owned >> pure runs)) s runs t e in
        let y = core_apart (run_stages core plainly most stages (is_live ls values) (in_group scope ls values)) (λ runs. end_of_group core plainly most style owned >> pure runs) x.store runs t x.second in
        let z = core_apart (end_of_group core plainly most style owned) (λ _. pure y.answer) y.store runs t y.second in
        subst (StagesGo stages m qs) (ended y.answer z.store z.second) (go most (is_live ls values) (in_group scope ls values) x.store y.store y.answer l y.first)
      where
        ended : (runs2 : Runs) (u : Store) → pure runs2 u ≡ went runs t → runs2 ≡ runs
        ended runs2 u f = same_core_answer runs2 runs u t f

    record GroupsGo (all : List Runs) (n : ℕ) : Type 0 where
      total : ℕ
      each : ReadsEach (besides (suc m) (spent_all qs)) (map (λ runs. stage_counts stages (stage_shapes stages runs)) all) total
      number : length all ≡ n
      within : length all + group_rounds stages (group_shapes stages (groups_of all)) ≤ total

    groups_go : (vss : List (List ℤ)) (s t : Store) (all : List Runs) → Each (Fit IsLive ls) vss → in_order group vss s ≡ went all t → GroupsGo all (length vss)
    unfolding in_order group_rounds group_shapes pure
    groups_go [] s t all live e = subst (λ l. GroupsGo l 0) (ended all e) (record { total = 0; each = refl; number = refl; within = omega arith })
      where
        ended : (all : List Runs) → pure [] s ≡ went all t → [] ≡ all
        ended all f = same_core_answer [] all s t f
    groups_go (values ∷ vss) s t all live e =
        let x = core_apart (group values) (λ first. in_order group vss >>= (λ others. pure (first ∷ others))) s all t e in
        let y = core_apart (in_order group vss) (λ others. pure (x.answer ∷ others)) x.store all t x.second in
        let one = one_group values s x.store x.answer (first_is_live ls values live.0) x.first in
        let more = groups_go vss x.store y.store y.answer live.1 y.first in
        subst (λ l. GroupsGo l (suc (length vss))) (ended x.answer y.answer y.store y.second)
        (record {
          total = suc m + one.k + more.total;
          each = (suc m + one.k, more.total, (λ rest. ap (λ (z : Spent). (suc m + z.0, z.1)) (one.reads rest)), more.each, refl);
          number = ap suc more.number;
          within = omega (arith, one.within, more.within);
        })
      where
        ended : (one : Runs) (more : List Runs) (u : Store) → pure (one ∷ more) u ≡ went all t → one ∷ more ≡ all
        ended one more u f = same_core_answer (one ∷ more) all u t f

  number_of_groups : (stages : PlainStages) (all : List Runs) → groups_in (group_shapes stages (groups_of all)) ≡ length all
  unfolding group_shapes
  number_of_groups stages [] = refl
  number_of_groups stages (runs ∷ all) = ap suc (number_of_groups stages all)

  flat_groups : (stages : PlainStages) (all : List Runs) → flat (map (λ runs. stage_counts stages (stage_shapes stages runs)) all) ≡ group_counts stages (group_shapes stages (groups_of all))
  unfolding group_counts group_shapes
  flat_groups stages [] = refl
  flat_groups stages (runs ∷ all) = ap (λ l. stage_counts stages (stage_shapes stages runs) ++ l) (flat_groups stages all)

  -- each group has an iteration in its first lane
  loops_live : (counters : List PlainCounter) (bs : List Bounds) → HaveSteps counters → FitAll IsLive (loops_of plainly counters bs) (map (λ l. values_below l.from l.until l.advance) (loops_of plainly counters bs))
  loops_live [] bs steps = tt
  loops_live (c ∷ counters) [] steps = tt
  loops_live (c ∷ counters) (b ∷ bs) steps = (values_live (index_value (last_word b.from)) (index_value (last_word b.until)) c.by steps.0, loops_live counters bs steps.1)

  groups_live : (counters : List PlainCounter) (bs : List Bounds) → HaveSteps counters → Each (Fit IsLive (loops_of plainly counters bs)) (group_values (loops_of plainly counters bs))
  groups_live counters bs steps = let ls : List Loop = loops_of plainly counters bs in tuples_fit IsLive ls (map (λ l. values_below l.from l.until l.advance) ls) (loops_live counters bs steps)

  -- a body with stages
  module _ (most : ℕ) (counters : List PlainCounter) (style : Style) (owned : List ℕ) (stages : PlainStages) (m : ℕ) (qs : Outlines) (go : StagesGoes stages m qs) (steps : HaveSteps counters) (scope : Scope) (s t : Store) (h : History) (e : run core plainly most (outer counters style owned stages) scope s ≡ went h t) where
    abbrev its_loops : List Bounds → List Loop
    its_loops bs = loops_of plainly counters bs

    record OuterIs : Type 0 where
      bs : List Bounds
      all : List Runs
      goes : GroupsGo most style owned stages m qs go (its_loops bs) scope all (length (group_values (its_loops bs)))
      is : outer_ran bs (loop_counts (its_loops bs)) (groups_of all) ≡ h

    outer_is : OuterIs
    unfolding run pure
    outer_is =
        let x = core_apart (in_order (bounds core plainly most scope) counters) (λ bs. in_order (group most style owned stages m qs go (its_loops bs) scope) (group_values (its_loops bs)) >>= (λ groups. pure (outer_ran bs (loop_counts (its_loops bs)) (groups_of groups)))) s h t e in
        let y = core_apart (in_order (group most style owned stages m qs go (its_loops x.answer) scope) (group_values (its_loops x.answer))) (λ groups. pure (outer_ran x.answer (loop_counts (its_loops x.answer)) (groups_of groups))) x.store h t x.second in
        record {
          bs = x.answer;
          all = y.answer;
          goes = groups_go most style owned stages m qs go (its_loops x.answer) scope (group_values (its_loops x.answer)) x.store y.store y.answer (groups_live counters x.answer steps) y.first;
          is = ended x.answer y.answer y.store y.second;
        }
      where
        ended : (bs : List Bounds) (all : List Runs) (u : Store) → pure (outer_ran bs (loop_counts (its_loops bs)) (groups_of all)) u ≡ went h t → outer_ran bs (loop_counts (its_loops bs)) (groups_of all) ≡ h
        ended bs all u f = same_core_answer (outer_ran bs (loop_counts (its_loops bs)) (groups_of all)) h u t f

  pub length_of_map : {A B : Type 0} (f : A → B) (xs : List A) → length (map f xs) ≡ length xs
  length_of_map f [] = refl
  length_of_map f (x ∷ xs) = ap suc (length_of_map f xs)

  pub loop_goes : (c : PlainCounter) (counters : List PlainCounter) (style : Style) (owned : List ℕ) (stages : PlainStages) (m : ℕ) (qs : Outlines) → StagesGoes stages m qs → HaveSteps (c ∷ counters) → NodeGoes (outer (c ∷ counters) style owned stages) (only (loop_of m qs))
  unfolding shape_of counts_of rounds spent
  loop_goes c counters style owned stages m qs go steps most scope s t h e =
      let x = outer_is most (c ∷ counters) style owned stages m qs go steps scope s t h e in
      let ns : List ℕ = loop_counts (loops_of plainly (c ∷ counters) x.bs) in
      let read : List Count → Spent = besides (suc m) (spent_all qs) in
      let counted : Runs → List Count = λ runs. stage_counts stages (stage_shapes stages runs) in
      let groups : List Count = group_counts stages (group_shapes stages (groups_of x.all)) in
      let each : Reads (times (word_count ns) read) groups x.goes.total =
      reads_same (times (word_count ns) read) (flat (map counted x.all)) groups x.goes.total x.goes.total (flat_groups stages x.all) refl
      (reads_times read (map counted x.all) x.goes.total (word_count ns) (length_of_map counted x.all ∙ x.goes.number ∙ group_number (c ∷ counters) x.bs) x.goes.each) in
      subst (λ (y : History). GoesAround (only (loop_of m qs)) (counts_of (outer (c ∷ counters) style owned stages) (shape_of (outer (c ∷ counters) style owned stages) y)) (rounds (outer (c ∷ counters) style owned stages) (shape_of (outer (c ∷ counters) style owned stages) y))) x.is
      (record {
        k = x.goes.total;
        reads = reads_only (loop_of m qs) (loop ns ∷ groups) x.goes.total each;
        within = let f = one_less (groups_in (group_shapes stages (groups_of x.all))) (length x.all) (let g = number_of_groups stages x.all in omega (arith, g)) in omega (arith, f, x.goes.within);
      })

  single : {A B : Type 0} (f : A → Step B) (x : A) (s t : Store) (all : List B) → in_order f (x ∷ []) s ≡ went all t → (b : B) × (u : Store) × (f x s ≡ went b u) × (b ∷ [] ≡ all)
  unfolding in_order pure
  single f x s t all e =
      let b = core_apart (f x) (λ first. in_order f [] >>= (λ others. pure (first ∷ others))) s all t e in
      let d = core_apart (in_order f []) (λ others. pure (b.answer ∷ others)) b.store all t b.second in
      let none : [] ≡ d.answer = same_core_answer [] d.answer b.store d.store d.first in
      (b.answer, b.store, b.first, ap (λ l. b.answer ∷ l) none ∙ same_core_answer (b.answer ∷ d.answer) all d.store t d.second)

  pub block_goes : (style : Style) (owned : List ℕ) (stages : PlainStages) (qs : Outlines) → StagesGoes stages 0 qs → NodeGoes (outer [] style owned stages) qs
  unfolding run shape_of group_shapes counts_of group_counts rounds group_rounds pure
  block_goes style owned stages qs go most scope s t h e =
      let x = core_apart (in_order (bounds core plainly most scope) []) (λ bs. in_order (group most style owned stages 0 qs go (loops_of plainly [] bs) scope) (group_values (loops_of plainly [] bs)) >>= (λ groups. pure (outer_ran bs (loop_counts (loops_of plainly [] bs)) (groups_of groups)))) s h t e in
      let y = core_apart (in_order (group most style owned stages 0 qs go (loops_of plainly [] x.answer) scope) (group_values (loops_of plainly [] x.answer))) (λ groups. pure (outer_ran x.answer (loop_counts (loops_of plainly [] x.answer)) (groups_of groups))) x.store h t x.second in
      let z = single (group most style owned stages 0 qs go [] scope) [] x.store y.store y.answer y.first in
      let one = one_group most style owned stages 0 qs go [] scope [] x.store z.1 z.0 refl z.2 in
      let is : outer_ran x.answer [] (groups_of (z.0 ∷ [])) ≡ h = ap (λ l. outer_ran x.answer [] (groups_of l)) z.3 ∙ same_core_answer (outer_ran x.answer [] (groups_of y.answer)) h y.store t y.second in
      subst (λ (w : History). GoesAround qs (counts_of (outer [] style owned stages) (shape_of (outer [] style owned stages) w)) (rounds (outer [] style owned stages) (shape_of (outer [] style owned stages) w))) is
      (record {
        k = one.k;
        reads = reads_same (spent_all qs) (stage_counts stages (stage_shapes stages z.0)) (stage_counts stages (stage_shapes stages z.0) ++ []) one.k one.k (sym (no_more_counts (stage_counts stages (stage_shapes stages z.0)))) refl one.reads;
        within = omega (arith, one.within);
      })

  -- stages
  pub none_go : (m : ℕ) → StagesGoes no_stage m no_outline
  unfolding run_stages pure stage_shapes stage_counts stage_rounds
  none_go m most live scope s t runs l e = subst (StagesGo no_stage m no_outline) (same_core_answer no_run runs s t e) (record { k = 0; reads = reads_nothing; within = omega arith })

  is_alive : (live : ℕ → Bool) (first last : ℕ) → first ≡ 0 → last ≡ 0 → live 0 ≡ true → is_some_live live first last ≡ true
  is_alive live first last e f l = ap (λ n. is_some_live live n last) e ∙ ap (is_some_live live 0) f ∙ l

  record StageWent (most : ℕ) (comb : Bool) (node : PlainNode) (rest : PlainStages) (live : ℕ → Bool) (scope : Scope) (s t : Store) (runs : Runs) : Type 0 where
    h : History
    others : Runs
    u : Store
    v : Store
    first : run core plainly most node scope s ≡ went h u
    later : run_stages core plainly most rest live scope u ≡ went others v
    is : more_run h others ≡ runs

  stage_went : (most : ℕ) (first last : ℕ) (comb : Bool) (node : PlainNode) (rest : PlainStages) (live : ℕ → Bool) (scope : Scope) (s t : Store) (runs : Runs) → first ≡ 0 → last ≡ 0 → live 0 ≡ true → run_stages core plainly most (more_stage first last comb node rest) live scope s ≡ went runs t → StageWent most comb node rest live scope s t runs
  unfolding run_stages pure
  stage_went most first last comb node rest live scope s t runs f g l e =
      let by : Bool → Step Runs = λ b. elim b as (λ _. Step Runs) [ true ↦ run core plainly most node scope >>= (λ h. run_stages core plainly most rest live scope >>= (λ others. pure (more_run h others))) | false ↦ run_stages core plainly most rest live scope >>= (λ others. pure (masked_run others)) ] in
      let x = core_apart (run core plainly most node scope) (λ h. run_stages core plainly most rest live scope >>= (λ others. pure (more_run h others))) s runs t (ap (λ b. by b s) (sym (is_alive live first last f g l)) ∙ e) in
      let y = core_apart (run_stages core plainly most rest live scope) (λ others. pure (more_run x.answer others)) x.store runs t x.second in
      record { h = x.answer; others = y.answer; u = x.store; v = y.store; first = x.first; later = y.first; is = same_core_answer (more_run x.answer y.answer) runs y.store t y.second }

  pub combination_go : (first last : ℕ) (node : PlainNode) (rest : PlainStages) (m a b : ℕ) (ps : Outlines) → first ≡ 0 → last ≡ 0 → IsAtMost node a → a + b ≤ m → StagesGoes rest b ps → StagesGoes (more_stage first last true node rest) m ps
  unfolding stage_shapes stage_counts stage_rounds
  combination_go first last node rest m a b ps f g small le go most live scope s t runs l e =
      let x = stage_went most first last true node rest live scope s t runs f g l e in
      let others = go most live scope x.u x.v x.others l x.later in
      subst (StagesGo (more_stage first last true node rest) m ps) x.is
      (record { k = others.k; reads = others.reads; within = let n = small most scope s x.u x.h x.first in omega (arith, n, others.within, le) })

  pub stage_goes : (first last : ℕ) (node : PlainNode) (rest : PlainStages) (m : ℕ) (qs rs : Outlines) → first ≡ 0 → last ≡ 0 → NodeGoes node qs → StagesGoes rest m rs → StagesGoes (more_stage first last false node rest) m (joined qs rs)
  unfolding stage_shapes stage_counts stage_rounds
  stage_goes first last node rest m qs rs f g one go most live scope s t runs l e =
      let x = stage_went most first last false node rest live scope s t runs f g l e in
      let here = one most scope s x.u x.h x.first in
      let others = go most live scope x.u x.v x.others l x.later in
      subst (StagesGo (more_stage first last false node rest) m (joined qs rs)) x.is
      (record {
        k = here.k + others.k;
        reads = reads_joined qs rs (counts_of node (shape_of node x.h)) (stage_counts rest (stage_shapes rest x.others)) here.k others.k here.reads others.reads;
        within = omega (arith, here.within, others.within);
      })
