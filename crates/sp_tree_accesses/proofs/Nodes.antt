-- The lists of a node, by those of its parts as a walk adds them.
use Rattle.std.proofs.Common.{◌≡◌, ℕ, ◌+◌, false, List, [], ◌∷◌, ◌++◌, length, Option, sym, subst}
use Rattle.sp_words.specs.declared.kind.Style.{Style}
use Rattle.sp_core.specs.declared.node.SparseKind.{SparseKind}
use Rattle.sp_core.specs.declared.node.Stage.{Stage}
use Rattle.sp_core.specs.Numbering.{counters_size, spans_size, number_count}
use Rattle.sp_core.specs.Plain.{plain_node, plain_stage_list}
use Rattle.sp_core.specs.PlainCore.{PlainOp, PlainCounter, PlainSpan, PlainNode, inner, outer, fsm, branch, sparse}
use Rattle.sp_op_nets.specs.declared.acted.ActedList.{ActedList}
use Rattle.sp_tree_handed.specs.Lists.{numbered, bounds_in, spans_in, lists_in, lists_in_stages}
use Rattle.sp_tree_accesses.specs.declared.walk.Walk.{Walk}
use Rattle.sp_tree_accesses.specs.Walks.{AddsLists}
use Rattle.sp_tree_accesses.proofs.Walking.{AddsOps, AddsAt, adds_join, adds_none, lists_of}

module _ (copies : List (Option ℕ)) (acted : List ActedList) (node : PlainNode) where
  -- a part is the node's own part
  ops_same : (ops own : List PlainOp) (a b : Walk) → ops ≡ own → AddsOps copies acted ops a b → AddsOps copies acted own a b
  ops_same ops own a b e h = subst (λ v. AddsOps copies acted v a b) e h

  node_same : (x own : PlainNode) (a b : Walk) → x ≡ own → AddsAt copies acted (lists_in x) a b → AddsAt copies acted (lists_in own) a b
  node_same x own a b e h = subst (λ v. AddsAt copies acted (lists_in v) a b) e h

  bounds_same : (x own : List PlainCounter) (a b : Walk) → x ≡ own → AddsAt copies acted (bounds_in x) a b → AddsAt copies acted (bounds_in own) a b
  bounds_same x own a b e h = subst (λ v. AddsAt copies acted (bounds_in v) a b) e h

  spans_same : (x own : List PlainSpan) (a b : Walk) → x ≡ own → AddsAt copies acted (spans_in x) a b → AddsAt copies acted (spans_in own) a b
  spans_same x own a b e h = subst (λ v. AddsAt copies acted (spans_in v) a b) e h

  pub branch_adds : (test : List PlainOp) (first second : PlainNode) (ops : List PlainOp) (x y : PlainNode) (a b m c : Walk) → node ≡ branch test first second → ops ≡ test → x ≡ first → y ≡ second → AddsOps copies acted ops a b → AddsAt copies acted (lists_in x) b m
      → AddsAt copies acted (lists_in y) m c → AddsAt copies acted (lists_in node) a c
  branch_adds test first second ops x y a b m c is ops_is x_is y_is f g h n =
      subst (λ v. AddsLists (lists_in v n) copies acted a c) (sym is)
      (adds_join copies acted (numbered n test ∷ []) (lists_in first (n + length test) ++ lists_in second (n + (length test + number_count first))) a b c (ops_same ops test a b ops_is f n false)
      (adds_join copies acted (lists_in first (n + length test)) (lists_in second (n + (length test + number_count first))) b m c (node_same x first b m x_is g (n + length test)) (node_same y second m c y_is h (n + (length test + number_count first)))))

  pub machine_adds : (start : List PlainOp) (state : ℕ) (test : List PlainOp) (body : PlainNode) (next : List PlainOp) (begins tests : List PlainOp) (x : PlainNode) (steps : List PlainOp) (a b m p c : Walk) → node ≡ fsm start state test body next
      → begins ≡ start → tests ≡ test → x ≡ body → steps ≡ next → AddsOps copies acted begins a b → AddsOps copies acted tests b m → AddsAt copies acted (lists_in x) m p → AddsOps copies acted steps p c → AddsAt copies acted (lists_in node) a c
  machine_adds start state test body next begins tests x steps a b m p c is begins_is tests_is x_is steps_is f g h i n =
      subst (λ v. AddsLists (lists_in v n) copies acted a c) (sym is)
      (adds_join copies acted (numbered n start ∷ []) (numbered (n + length start) test ∷ (lists_in body (n + (length start + length test)) ++ numbered (n + (length start + (length test + number_count body))) next ∷ [])) a b c (ops_same begins start a b begins_is f n false)
      (adds_join copies acted (numbered (n + length start) test ∷ []) (lists_in body (n + (length start + length test)) ++ numbered (n + (length start + (length test + number_count body))) next ∷ []) b m c (ops_same tests test b m tests_is g (n + length start) false)
      (adds_join copies acted (lists_in body (n + (length start + length test))) (numbered (n + (length start + (length test + number_count body))) next ∷ []) m p c (node_same x body m p x_is h (n + (length start + length test)))
      (ops_same steps next p c steps_is i (n + (length start + (length test + number_count body))) false))))

  pub inner_adds : (counters : List PlainCounter) (owned : List ℕ) (ops : List PlainOp) (comb : Option ℕ) (bounds : List PlainCounter) (xs : List PlainOp) (a b c : Walk) → node ≡ inner counters owned ops comb → bounds ≡ counters → xs ≡ ops
      → AddsAt copies acted (bounds_in bounds) a b → AddsOps copies acted xs b c → AddsAt copies acted (lists_in node) a c
  inner_adds counters owned ops comb bounds xs a b c is bounds_is xs_is f g n =
      subst (λ v. AddsLists (lists_in v n) copies acted a c) (sym is)
      (adds_join copies acted (bounds_in counters n) (numbered (n + counters_size counters) ops ∷ []) a b c (bounds_same bounds counters a b bounds_is f n) (ops_same xs ops b c xs_is g (n + counters_size counters) false))

  pub sparse_adds : (kind : SparseKind) (r m : ℕ) (places : Option ℕ) (spans : List PlainSpan) (count : List PlainOp) (par : ℕ) (xs : List PlainSpan) (ops : List PlainOp) (a b c : Walk) → node ≡ sparse kind r m places spans count par → xs ≡ spans → ops ≡ count
      → AddsAt copies acted (spans_in xs) a b → AddsOps copies acted ops b c → AddsAt copies acted (lists_in node) a c
  sparse_adds kind r m places spans count par xs ops a b c is xs_is ops_is f g n =
      subst (λ v. AddsLists (lists_in v n) copies acted a c) (sym is)
      (adds_join copies acted (spans_in spans n) (numbered (n + spans_size spans) count ∷ []) a b c (spans_same xs spans a b xs_is f n) (ops_same ops count b c ops_is g (n + spans_size spans) false))

  -- whatever comes of the stages that are left, all of the loop has come behind what was there before
  abbrev pub StagesSoFar : List Stage → (before now : Walk) → Type 0
  StagesSoFar left before now = (new : Walk) → AddsAt copies acted (lists_of left) now new → AddsAt copies acted (lists_in node) before new

  pub loop_begins : (counters : List PlainCounter) (style : Style) (owned : List ℕ) (stages left : List Stage) (bounds : List PlainCounter) (a b : Walk) → node ≡ outer counters style owned (plain_stage_list stages) → left ≡ stages → bounds ≡ counters
      → AddsAt copies acted (bounds_in bounds) a b → StagesSoFar left a b
  loop_begins counters style owned stages left bounds a b is left_is bounds_is f new more n =
      subst (λ v. AddsLists (lists_in v n) copies acted a new) (sym is)
      (adds_join copies acted (bounds_in counters n) (lists_in_stages (plain_stage_list stages) (n + counters_size counters)) a b new (bounds_same bounds counters a b bounds_is f n)
      (subst (λ l. AddsLists (lists_of l (n + counters_size counters)) copies acted b new) left_is (more (n + counters_size counters))))

  pub loop_goes : (left rest : List Stage) (x : Stage) (a b c : Walk) → left ≡ x ∷ rest → StagesSoFar left a b → AddsAt copies acted (lists_in (plain_node x.node)) b c → StagesSoFar rest a c
  loop_goes left rest x a b c cut inv f new more =
      inv new (λ n. subst (λ l. AddsLists (lists_of l n) copies acted b new) (sym cut)
      (adds_join copies acted (lists_in (plain_node x.node) n) (lists_of rest (n + number_count (plain_node x.node))) b c new (f n) (more (n + number_count (plain_node x.node)))))

  pub loop_ends : (left : List Stage) (a b : Walk) → left ≡ [] → StagesSoFar left a b → AddsAt copies acted (lists_in node) a b
  loop_ends left a b none inv = inv b (λ n. subst (λ l. AddsLists (lists_of l n) copies acted b b) (sym none) (adds_none copies acted b))
