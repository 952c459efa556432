-- Stages in front of others, lane by lane.
use Rattle.std.proofs.Common.{◌≡◌, ◌≢◌, ◌==◌, ◌+◌, ℕ, zero, suc, Bool, true, false, List, [], ◌∷◌, ◌++◌, map, drop, length, length-append, Option, Some, None, arith, refl, sym, ap, ◌∙◌}
use Rattle.std.proofs.lemmas.Bool.Decides.{nat_tests}
use Rattle.std.proofs.lemmas.List.{map-append}
use Rattle.sp_words.specs.declared.kind.Style.{Style}
use Rattle.std.specs.Option.{option_map}
use Rattle.sp_core.specs.declared.node.Node.{Node}
use Rattle.sp_core.specs.declared.node.SparseKind.{SparseKind}
use Rattle.sp_core.specs.declared.node.Stage.{Stage}
use Rattle.sp_core.specs.Around.{lanes_of}
use Rattle.sp_core.specs.Elements.{numbers_below}
use Rattle.sp_core.specs.Plain.{plain_node, plain_stage_list}
use Rattle.sp_core.specs.PlainCore.{PlainOp, PlainCounter, PlainSpan, PlainNode, PlainStages, inner, outer, fsm, branch, load, store, sparse, no_stage, more_stage}
use Rattle.sp_lanes.specs.Unrolled.{stages_in, stages_by_lane, stage_after, combination_of, combination_in, owned_in_lanes, inner_ops, node_in, left_as_they_are, nodes_in}
use Rattle.sp_lanes.specs.Within.{Within, owning, in_lane, ops_in, counters_in, spans_in}
use Rattle.sp_unroll.specs.Stages.{onto, lane_stages, outer_stages}

pub onto_more : (stages : List Stage) (s : Stage) (rest : PlainStages) → onto (stages ++ s ∷ []) rest ≡ onto stages (more_stage s.first s.last s.comb (plain_node s.node) rest)
unfolding onto
onto_more [] s rest = refl
onto_more (t ∷ stages) s rest = ap (more_stage t.first t.last t.comb (plain_node t.node)) (onto_more stages s rest)

pub onto_none : (rest : PlainStages) → onto [] rest ≡ rest
unfolding onto
onto_none rest = refl

pub onto_all : (stages : List Stage) → plain_stage_list stages ≡ onto stages no_stage
unfolding onto
onto_all [] = refl
onto_all (s ∷ stages) = ap (more_stage s.first s.last s.comb (plain_node s.node)) (onto_all stages)

-- one more stage, as it is
pub stage_copied : (made after stages : List Stage) (s : Stage) (node : Node) (i : ℕ) → drop i stages ≡ s ∷ drop (i + 1) stages → plain_node node ≡ plain_node s.node
    → after ≡ made ++ record { first = s.first; last = s.last; comb = s.comb; node = node } ∷ []
    → onto after (plain_stage_list (drop (i + 1) stages)) ≡ onto made (plain_stage_list (drop i stages))
stage_copied made after stages s node i d n e =
    let rest = plain_stage_list (drop (i + 1) stages) in
    ap (λ l. onto l rest) e
    ∙ onto_more made (record { first = s.first; last = s.last; comb = s.comb; node = node }) rest
    ∙ ap (λ x. onto made (more_stage s.first s.last s.comb x rest)) n
    ∙ sym (ap (λ l. onto made (plain_stage_list l)) d)

pub stage_left : (order : List ℕ) (w : Within) (made after stages : List Stage) (s : Stage) (node : Node) (i : ℕ) → drop i stages ≡ s ∷ drop (i + 1) stages → plain_node node ≡ node_in order w (plain_node s.node)
    → after ≡ made ++ record { first = s.first; last = s.last; comb = s.comb; node = node } ∷ []
    → onto after (left_as_they_are order w (plain_stage_list (drop (i + 1) stages))) ≡ onto made (left_as_they_are order w (plain_stage_list (drop i stages)))
unfolding left_as_they_are
stage_left order w made after stages s node i d n e =
    let rest = left_as_they_are order w (plain_stage_list (drop (i + 1) stages)) in
    ap (λ l. onto l rest) e
    ∙ onto_more made (record { first = s.first; last = s.last; comb = s.comb; node = node }) rest
    ∙ ap (λ x. onto made (more_stage s.first s.last s.comb x rest)) n
    ∙ sym (ap (λ l. onto made (left_as_they_are order w (plain_stage_list l))) d)

comb_true : (first last : ℕ) (b : Bool) (node : PlainNode) (rest : PlainStages) → b ≡ true → combination_of (more_stage first last b node rest) ≡ Some node
comb_true first last true node rest e = refl
comb_true first last false node rest e = absurd (cc)

comb_false : (first last : ℕ) (b : Bool) (node : PlainNode) (rest : PlainStages) → b ≡ false → combination_of (more_stage first last b node rest) ≡ combination_of rest
comb_false first last true node rest e = absurd (cc)
comb_false first last false node rest e = refl

pub comb_here : (stages : List Stage) (s : Stage) (i : ℕ) → drop i stages ≡ s ∷ drop (i + 1) stages → s.comb ≡ true → combination_of (plain_stage_list (drop i stages)) ≡ Some (plain_node s.node)
comb_here stages s i d e = ap (λ l. combination_of (plain_stage_list l)) d ∙ comb_true s.first s.last s.comb (plain_node s.node) (plain_stage_list (drop (i + 1) stages)) e

pub comb_later : (stages : List Stage) (s : Stage) (i : ℕ) → drop i stages ≡ s ∷ drop (i + 1) stages → s.comb ≡ false → combination_of (plain_stage_list (drop (i + 1) stages)) ≡ combination_of (plain_stage_list (drop i stages))
comb_later stages s i d e = sym (ap (λ l. combination_of (plain_stage_list l)) d ∙ comb_false s.first s.last s.comb (plain_node s.node) (plain_stage_list (drop (i + 1) stages)) e)

counted_below : (n : ℕ) → length (numbers_below n) ≡ n
counted_below zero = refl
counted_below (suc n) = length-append (numbers_below n) (n ∷ []) ∙ ap (λ k. k + 1) (counted_below n) ∙ omega arith

counted_map : (f : ℕ → List PlainNode) (ns : List ℕ) → length (map f ns) ≡ length ns
counted_map f [] = refl
counted_map f (n ∷ ns) = ap suc (counted_map f ns)

lane_last : (l : ℕ) (lanes : List (List PlainNode)) (nodes : List PlainNode) (rest : PlainStages) → stages_by_lane l (lanes ++ nodes ∷ []) rest ≡ stages_by_lane l lanes (stages_in (l + length lanes) nodes rest)
lane_last l [] nodes rest = ap (λ k. stages_in k nodes rest) (omega arith)
lane_last l (x ∷ lanes) nodes rest = ap (stages_in l x) (lane_last (suc l) lanes nodes rest ∙ ap (λ k. stages_by_lane (suc l) lanes (stages_in k nodes rest)) (omega arith))

not_one : (n : ℕ) → n ≢ 1 → (n == 1) ≡ false
not_one n h = grind (arith, nat_tests)

module _ (order : List ℕ) (w : Within) where
  nodes_true : (first last : ℕ) (b : Bool) (node : PlainNode) (rest : PlainStages) → b ≡ true → nodes_in order w (more_stage first last b node rest) ≡ nodes_in order w rest
  unfolding nodes_in
  nodes_true first last true node rest e = refl
  nodes_true first last false node rest e = absurd (cc)

  nodes_false : (first last : ℕ) (b : Bool) (node : PlainNode) (rest : PlainStages) → b ≡ false → nodes_in order w (more_stage first last b node rest) ≡ node_in order w node ∷ nodes_in order w rest
  unfolding nodes_in
  nodes_false first last true node rest e = absurd (cc)
  nodes_false first last false node rest e = refl

  -- a stage that is the combination, and one that isn't
  pub lane_skips : (stages : List Stage) (s : Stage) (i lane : ℕ) (rest : PlainStages) → drop i stages ≡ s ∷ drop (i + 1) stages → s.comb ≡ true
      → stages_in lane (nodes_in order w (plain_stage_list (drop (i + 1) stages))) rest ≡ stages_in lane (nodes_in order w (plain_stage_list (drop i stages))) rest
  lane_skips stages s i lane rest d e =
      sym (ap (λ l. stages_in lane (nodes_in order w (plain_stage_list l)) rest) d
      ∙ ap (λ ns. stages_in lane ns rest) (nodes_true s.first s.last s.comb (plain_node s.node) (plain_stage_list (drop (i + 1) stages)) e))

  pub lane_takes : (stages : List Stage) (s : Stage) (i lane : ℕ) (rest : PlainStages) → drop i stages ≡ s ∷ drop (i + 1) stages → s.comb ≡ false
      → more_stage lane lane false (node_in order w (plain_node s.node)) (stages_in lane (nodes_in order w (plain_stage_list (drop (i + 1) stages))) rest)
      ≡ stages_in lane (nodes_in order w (plain_stage_list (drop i stages))) rest
  lane_takes stages s i lane rest d e =
      sym (ap (λ l. stages_in lane (nodes_in order w (plain_stage_list l)) rest) d
      ∙ ap (λ ns. stages_in lane ns rest) (nodes_false s.first s.last s.comb (plain_node s.node) (plain_stage_list (drop (i + 1) stages)) e))

  module _ (counters : List PlainCounter) (owned : List ℕ) where
    pub lane_next : (n : ℕ) (stages rest : PlainStages)
        → lane_stages order w counters owned n stages (stages_in n (nodes_in order (in_lane order counters owned w n) stages) rest) ≡ lane_stages order w counters owned (n + 1) stages rest
    lane_next n stages rest =
        let f = λ (l : ℕ). nodes_in order (in_lane order counters owned w l) stages in
        let l : length (map f (numbers_below n)) ≡ n = counted_map f (numbers_below n) ∙ counted_below n in
        let k : 0 + length (map f (numbers_below n)) ≡ n = omega (arith, l) in
        let m : suc n ≡ n + 1 = omega arith in
        sym (ap (λ ls. stages_by_lane 0 ls rest) (map-append f (numbers_below n) (n ∷ []))
        ∙ lane_last 0 (map f (numbers_below n)) (f n) rest
        ∙ ap (λ j. stages_by_lane 0 (map f (numbers_below n)) (stages_in j (f n) rest)) k)
        ∙ ap (λ j. lane_stages order w counters owned j stages rest) m

    pick : (b : Bool) (all : List PlainCounter) (style : Style) (mems : List ℕ) (one many : PlainStages)
        → (elim b as (λ _. PlainNode) [ true ↦ outer all style mems one | false ↦ outer all style mems many ]) ≡ outer all style mems (elim b as (λ _. PlainStages) [ true ↦ one | false ↦ many ])
    pick true all style mems one many = refl
    pick false all style mems one many = refl

    pub outer_made : (style : Style) (stages : PlainStages)
        → node_in order w (outer counters style owned stages) ≡ outer (counters_in w counters) style (owned_in_lanes order counters owned w) (outer_stages order w counters owned stages)
    unfolding node_in
    outer_made style stages = pick (lanes_of counters == 1) (counters_in w counters) style (owned_in_lanes order counters owned w) _ _

  -- one more stage of a lane
  pub lane_taken : (made after stages : List Stage) (s : Stage) (node : Node) (i lane : ℕ) (rest : PlainStages) → drop i stages ≡ s ∷ drop (i + 1) stages → s.comb ≡ false → plain_node node ≡ node_in order w (plain_node s.node)
      → after ≡ made ++ record { first = lane; last = lane; comb = false; node = node } ∷ []
      → onto after (stages_in lane (nodes_in order w (plain_stage_list (drop (i + 1) stages))) rest) ≡ onto made (stages_in lane (nodes_in order w (plain_stage_list (drop i stages))) rest)
  lane_taken made after stages s node i lane rest d b n e =
      let left = stages_in lane (nodes_in order w (plain_stage_list (drop (i + 1) stages))) rest in
      ap (λ l. onto l left) e
      ∙ onto_more made (record { first = lane; last = lane; comb = false; node = node }) left
      ∙ ap (λ x. onto made (more_stage lane lane false x left)) n
      ∙ ap (onto made) (lane_takes stages s i lane rest d b)

  -- each kind of node, by its parts
  pub inner_made : (counters : List PlainCounter) (owned : List ℕ) (ops : List PlainOp) (comb : Option ℕ)
      → node_in order w (inner counters owned ops comb) ≡ inner (counters_in w counters) (owned_in_lanes order counters owned w) (inner_ops order w counters owned ops comb) None
  unfolding node_in
  inner_made counters owned ops comb = refl

  pub fsm_made : (start : List PlainOp) (state : ℕ) (test : List PlainOp) (body : PlainNode) (next : List PlainOp)
      → node_in order w (fsm start state test body next)
      ≡ fsm (ops_in w start) ((owning order (state ∷ []) w).number state) (ops_in (owning order (state ∷ []) w) test) (node_in order (owning order (state ∷ []) w) body) (ops_in (owning order (state ∷ []) w) next)
  unfolding node_in
  fsm_made start state test body next = refl

  pub branch_made : (test : List PlainOp) (first second : PlainNode) → node_in order w (branch test first second) ≡ branch (ops_in w test) (node_in order w first) (node_in order w second)
  unfolding node_in
  branch_made test first second = refl

  pub load_made : (dram m : ℕ) (spans : List PlainSpan) → node_in order w (load dram m spans) ≡ load dram (w.number m) (spans_in w spans)
  unfolding node_in
  load_made dram m spans = refl

  pub store_made : (dram m : ℕ) (spans : List PlainSpan) → node_in order w (store dram m spans) ≡ store dram (w.number m) (spans_in w spans)
  unfolding node_in
  store_made dram m spans = refl

  pub sparse_made : (kind : SparseKind) (dram m : ℕ) (index : Option ℕ) (spans : List PlainSpan) (count : List PlainOp) (par : ℕ)
      → node_in order w (sparse kind dram m index spans count par) ≡ sparse kind dram (w.number m) (option_map w.number index) (spans_in w spans) (ops_in w count) par
  unfolding node_in
  sparse_made kind dram m index spans count par = refl

  module _ (counters : List PlainCounter) (owned : List ℕ) where
    one_or : (b : Bool) (one many : PlainStages) → b ≡ true → (elim b as (λ _. PlainStages) [ true ↦ one | false ↦ many ]) ≡ one
    one_or true one many e = refl
    one_or false one many e = absurd (cc)

    many_or : (b : Bool) (one many : PlainStages) → b ≡ false → (elim b as (λ _. PlainStages) [ true ↦ one | false ↦ many ]) ≡ many
    many_or true one many e = absurd (cc)
    many_or false one many e = refl

    -- the stages of a controller with one lane, and with several
    pub one_lane : (n : ℕ) (stages : PlainStages) → n ≡ lanes_of counters → n ≡ 1 → left_as_they_are order (in_lane order counters owned w 0) stages ≡ outer_stages order w counters owned stages
    one_lane n stages e h = sym (one_or (lanes_of counters == 1) _ _ (ap (λ k. k == 1) (sym e ∙ h)))

    pub more_lanes : (n : ℕ) (stages : PlainStages) → n ≡ lanes_of counters → n ≢ 1
        → lane_stages order w counters owned n stages (stage_after (lanes_of counters) (option_map (combination_in order w counters owned) (combination_of stages))) ≡ outer_stages order w counters owned stages
    more_lanes n stages e h =
        ap (λ k. lane_stages order w counters owned k stages (stage_after (lanes_of counters) (option_map (combination_in order w counters owned) (combination_of stages)))) e
        ∙ sym (many_or (lanes_of counters == 1) _ _ (not_one (lanes_of counters) (λ f. h (e ∙ f))))
