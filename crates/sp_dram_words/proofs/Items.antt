-- Loads and stores are the transfers at their numbers, one at each.
use Rattle.std.proofs.Common.{◌≡◌, ℕ, ◌+◌, inl, inr, length, refl, sym, subst, ◌∙◌, arith}
use Rattle.sp_core.specs.Numbering.{counters_size, spans_size, number_count}
use Rattle.sp_core.specs.PlainCore.{PlainNode, PlainStages, inner, outer, fsm, branch, load, store, sparse, no_stage, more_stage}
use Rattle.sp_tree_events.specs.ToldItems.{Item, transfer, TransferHas, NodeHas, StagesHave}
use Rattle.sp_tree_events.proofs.ToldRanges.{node_range, stages_range}
use Rattle.sp_dram_words.specs.Moves.{Move, loads, stores, NodeMoves, StagesMove, MovesAreItems}

abbrev pub item_of : Move → Item
item_of (loads r m) = transfer r m
item_of (stores r m) = transfer r m

mutual
  pub node_item : (node : PlainNode) (n x : ℕ) (v : Move) → NodeMoves node n x v → NodeHas node n x (item_of v)
  node_item (inner counters owned ops comb) n x v h = absurd h
  node_item (outer counters style owned stages) n x v h = inr (stages_item stages (n + counters_size counters) x v h)
  node_item (fsm start state test body next) n x v h = inr (inl (node_item body (n + (length start + length test)) x v h))
  node_item (branch test first second) n x v (inl h) = inr (inl (node_item first (n + length test) x v h))
  node_item (branch test first second) n x v (inr h) = inr (inr (node_item second (n + (length test + number_count first)) x v h))
  node_item (load r m spans) n x v h = inr (subst (λ u. TransferHas (n + spans_size spans) r m x (item_of u)) (sym h.1) (h.0, refl, refl))
  node_item (store r m spans) n x v h = inr (subst (λ u. TransferHas (n + spans_size spans) r m x (item_of u)) (sym h.1) (h.0, refl, refl))
  node_item (sparse kind r m places spans count par) n x v h = absurd h

  pub stages_item : (stages : PlainStages) (n x : ℕ) (v : Move) → StagesMove stages n x v → StagesHave stages n x (item_of v)
  stages_item no_stage n x v h = absurd h
  stages_item (more_stage first last comb node rest) n x v (inl h) = inl (node_item node n x v h)
  stages_item (more_stage first last comb node rest) n x v (inr h) = inr (stages_item rest (n + number_count node) x v h)

-- two parts have numbers of their own
sides_apart : (first second : PlainNode) (n k x : ℕ) (v w : Move) → NodeMoves first (n + k) x v → NodeMoves second (n + (k + number_count first)) x w → ⊥
sides_apart first second n k x v w h g =
    let l = (node_range first (n + k)).below x (item_of v) (node_item first (n + k) x v h) in
    let m = (node_range second (n + (k + number_count first))).above x (item_of w) (node_item second (n + (k + number_count first)) x w g) in
    absurd (omega (arith, l, m))

stages_apart : (node : PlainNode) (rest : PlainStages) (n x : ℕ) (v w : Move) → NodeMoves node n x v → StagesMove rest (n + number_count node) x w → ⊥
stages_apart node rest n x v w h g =
    let l = (node_range node n).below x (item_of v) (node_item node n x v h) in
    let m = (stages_range rest (n + number_count node)).above x (item_of w) (stages_item rest (n + number_count node) x w g) in
    absurd (omega (arith, l, m))

mutual
  pub node_one : (node : PlainNode) (n x : ℕ) (v w : Move) → NodeMoves node n x v → NodeMoves node n x w → v ≡ w
  node_one (inner counters owned ops comb) n x v w h g = absurd h
  node_one (outer counters style owned stages) n x v w h g = stages_one stages (n + counters_size counters) x v w h g
  node_one (fsm start state test body next) n x v w h g = node_one body (n + (length start + length test)) x v w h g
  node_one (branch test first second) n x v w (inl h) (inl g) = node_one first (n + length test) x v w h g
  node_one (branch test first second) n x v w (inl h) (inr g) = absurd (sides_apart first second n (length test) x v w h g)
  node_one (branch test first second) n x v w (inr h) (inl g) = absurd (sides_apart first second n (length test) x w v g h)
  node_one (branch test first second) n x v w (inr h) (inr g) = node_one second (n + (length test + number_count first)) x v w h g
  node_one (load r m spans) n x v w h g = h.1 ∙ sym g.1
  node_one (store r m spans) n x v w h g = h.1 ∙ sym g.1
  node_one (sparse kind r m places spans count par) n x v w h g = absurd h

  stages_one : (stages : PlainStages) (n x : ℕ) (v w : Move) → StagesMove stages n x v → StagesMove stages n x w → v ≡ w
  stages_one no_stage n x v w h g = absurd h
  stages_one (more_stage first last comb node rest) n x v w (inl h) (inl g) = node_one node n x v w h g
  stages_one (more_stage first last comb node rest) n x v w (inl h) (inr g) = absurd (stages_apart node rest n x v w h g)
  stages_one (more_stage first last comb node rest) n x v w (inr h) (inl g) = absurd (stages_apart node rest n x w v g h)
  stages_one (more_stage first last comb node rest) n x v w (inr h) (inr g) = stages_one rest (n + number_count node) x v w h g

pub moves_are_items : (node : PlainNode) → MovesAreItems node
moves_are_items node = record { load_is = λ n x r m h. node_item node n x (loads r m) h; store_is = λ n x r m h. node_item node n x (stores r m) h; one = λ n x v w h g. node_one node n x v w h g }
