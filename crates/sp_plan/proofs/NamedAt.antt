-- What stands at a place of names that are put together.
use Rattle.std.proofs.Common.{◌≡◌, ℕ, zero, suc, ◌+◌, ◌-◌, ◌^◌, ◌<◌, ◌≤◌, List, [], ◌∷◌, ◌++◌, length, map, drop, get_or, refl, ap, sym, ◌∙◌, ltb-true, arith}
use Rattle.std.proofs.Math.Seq.{get_or-append_right}
use Rattle.std.proofs.lemmas.List.{get_or_append_left, length-append, length-map}
use Rattle.sp_core.specs.Declarations.{dram_number}
use Rattle.sp_core.specs.Invariant.{IsCore}
use Rattle.sp_core.specs.Numbering.{node_count, node_count_in, counters_size, spans_size, number_count, number_count_in, operation_count, operation_count_in, core_size}
use Rattle.sp_core.specs.PlainCore.{PlainOp, PlainCounter, PlainSpan, single, range, PlainNode, PlainStages, inner, outer, fsm, branch, load, store, sparse, no_stage, more_stage, PlainCore}
use Rattle.sp_core.specs.declared.node.Stage.{Stage}
use Rattle.sp_core.specs.declared.operation.Op.{Op}
use Rattle.sp_core.specs.Plain.{plain_op, plain_node, plain_stage_list}
use Rattle.sp_plan.proofs.RunLists.{from_here}
use Rattle.sp_plan.specs.Named.{named_by, list_names, counters_names, spans_names, names, stages_names}

pub in_left : (xs ys : List (List ℕ)) (n : ℕ) (r : List ℕ) → n < length xs → r ≡ get_or xs n [] → r ≡ get_or (xs ++ ys) n []
in_left xs ys n r lt e = e ∙ sym (get_or_append_left xs ys [] n lt)

pub in_right : (xs ys : List (List ℕ)) (n rest : ℕ) (r : List ℕ) → length xs ≤ n → rest ≡ n - length xs → r ≡ get_or ys rest [] → r ≡ get_or (xs ++ ys) n []
in_right xs ys n rest r le is e = e ∙ ap (λ k. get_or ys k []) is ∙ sym (get_or-append_right xs ys n [] le)

pub list_length : (ops : List PlainOp) → length (list_names ops) ≡ length ops
list_length ops = length-map ops (λ (op : PlainOp). named_by op.mem)

pub two_length : (a b : List PlainOp) → length (list_names a ++ list_names b) ≡ length a + length b
two_length a b = length-append (list_names a) (list_names b) ∙ ap (λ k. k + length (list_names b)) (list_length a) ∙ ap (λ k. length a + k) (list_length b)

pub counters_length : (counters : List PlainCounter) → length (counters_names counters) ≡ counters_size counters
counters_length [] = refl
counters_length (c ∷ counters) =
    length-append (list_names c.from ++ list_names c.until) (counters_names counters) ∙ ap (λ k. k + length (counters_names counters)) (two_length c.from c.until)
    ∙ ap (λ k. (length c.from + length c.until) + k) (counters_length counters)

pub spans_length : (spans : List PlainSpan) → length (spans_names spans) ≡ spans_size spans
spans_length [] = refl
spans_length (single ops ∷ spans) =
    length-append (list_names ops) (spans_names spans) ∙ ap (λ k. k + length (spans_names spans)) (list_length ops) ∙ ap (λ k. length ops + k) (spans_length spans)
spans_length (range a b ∷ spans) =
    length-append (list_names a ++ list_names b) (spans_names spans) ∙ ap (λ k. k + length (spans_names spans)) (two_length a b) ∙ ap (λ k. (length a + length b) + k) (spans_length spans)

both : (xs ys : List (List ℕ)) (m n : ℕ) → length xs ≡ m → length ys ≡ n → length (xs ++ ys) ≡ m + n
both xs ys m n e f = length-append xs ys ∙ ap (λ k. k + length ys) e ∙ ap (λ k. m + k) f

module _ (core : PlainCore) where
  mutual
    pub node_length : (node : PlainNode) → length (names core node) ≡ number_count node
    node_length (inner counters owned ops comb) = both (counters_names counters) (list_names ops) _ _ (counters_length counters) (list_length ops)
    node_length (outer counters style owned stages) = both (counters_names counters) (stages_names core stages) _ _ (counters_length counters) (stages_length stages)
    node_length (fsm start state test body next) = both (list_names start ++ list_names test) (names core body ++ list_names next) _ _ (two_length start test) (both (names core body) (list_names next) _ _ (node_length body) (list_length next))
    node_length (branch test first second) = both (list_names test) (names core first ++ names core second) _ _ (list_length test) (both (names core first) (names core second) _ _ (node_length first) (node_length second))
    node_length (load r m spans) = both (spans_names spans) ((dram_number core r ∷ m ∷ []) ∷ []) _ _ (spans_length spans) refl
    node_length (store r m spans) = both (spans_names spans) ((dram_number core r ∷ m ∷ []) ∷ []) _ _ (spans_length spans) refl
    node_length (sparse kind r m places spans count par) =
        both (spans_names spans) (list_names count ++ (dram_number core r ∷ m ∷ named_by places) ∷ []) _ _ (spans_length spans)
        (both (list_names count) ((dram_number core r ∷ m ∷ named_by places) ∷ []) _ _ (list_length count) refl)

    pub stages_length : (stages : PlainStages) → length (stages_names core stages) ≡ number_count_in stages
    stages_length no_stage = refl
    stages_length (more_stage first last comb node rest) = both (names core node) (stages_names core rest) _ _ (node_length node) (stages_length rest)

  -- in a node, by what it is
  pub at_node : (node given : PlainNode) (n : ℕ) (r : List ℕ) → node ≡ given → r ≡ get_or (names core given) n [] → r ≡ get_or (names core node) n []
  at_node node given n r is e = e ∙ sym (ap (λ x. get_or (names core x) n []) is)

  -- among stages, in the first one of those that are left, or in those after it
  module _ (items : List Stage) (i left : ℕ) (s d : Stage) (lt : i < length items) (is : s ≡ get_or items i d) where
    these : stages_names core (plain_stage_list (drop i items)) ≡ names core (plain_node s.node) ++ stages_names core (plain_stage_list (drop (i + 1) items))
    these = ap (λ xs. stages_names core (plain_stage_list xs)) (from_here items i s d lt is)

    pub first_stage : (r : List ℕ) → left < number_count (plain_node s.node) → r ≡ get_or (names core (plain_node s.node)) left [] → r ≡ get_or (stages_names core (plain_stage_list (drop i items))) left []
    first_stage r less e =
        in_left (names core (plain_node s.node)) (stages_names core (plain_stage_list (drop (i + 1) items))) left r (omega (arith, node_length (plain_node s.node))) e
        ∙ sym (ap (λ xs. get_or xs left []) these)

    pub later_stage : (rest : ℕ) (r : List ℕ) → number_count (plain_node s.node) ≤ left → rest ≡ left - number_count (plain_node s.node) → r ≡ get_or (stages_names core (plain_stage_list (drop (i + 1) items))) rest [] → r ≡ get_or (stages_names core (plain_stage_list (drop i items))) left []
    later_stage rest r most at e =
        in_right (names core (plain_node s.node)) (stages_names core (plain_stage_list (drop (i + 1) items))) left rest r (omega (arith, node_length (plain_node s.node))) (at ∙ ap (λ k. left - k) (sym (node_length (plain_node s.node)))) e
        ∙ sym (ap (λ xs. get_or xs left []) these)

    pub fewer : number_count_in (plain_stage_list (drop i items)) ≤ 2 ^ 30 → (number_count (plain_node s.node) ≤ 2 ^ 30) × (number_count_in (plain_stage_list (drop (i + 1) items)) ≤ 2 ^ 30)
    fewer most = let e = ap (λ xs. number_count_in (plain_stage_list xs)) (from_here items i s d lt is) in (omega arith, omega arith)

-- a core's numbers are few
mutual
  numbers_of : (node : PlainNode) → number_count node ≤ node_count node + operation_count node
  numbers_of (inner counters owned ops comb) = omega arith
  numbers_of (outer counters style owned stages) = let k = numbers_in stages in omega arith
  numbers_of (fsm start state test body next) = let k = numbers_of body in omega arith
  numbers_of (branch test first second) = let k = numbers_of first in let l = numbers_of second in omega arith
  numbers_of (load r m spans) = omega arith
  numbers_of (store r m spans) = omega arith
  numbers_of (sparse kind r m places spans count par) = omega arith

  numbers_in : (stages : PlainStages) → number_count_in stages ≤ node_count_in stages + operation_count_in stages
  numbers_in no_stage = omega arith
  numbers_in (more_stage first last comb node rest) = let k = numbers_of node in let l = numbers_in rest in omega arith

pub few_numbers : (core : PlainCore) → IsCore core → number_count core.root ≤ 2 ^ 29
few_numbers core h =
    let size : core_size core < 2 ^ 29 = ltb-true (core_size core) (2 ^ 29) h.size in
    let numbers = numbers_of core.root in omega arith

-- what the operation at a place of a list names
pub op_found : (ops : List Op) (n : ℕ) (op d : Op) → n < length ops → op ≡ get_or ops n d → named_by op.mem ≡ get_or (list_names (map plain_op ops)) n []
op_found [] n op d lt e = absurd (omega arith)
op_found (x ∷ ops) zero op d lt e = ap (λ (o : Op). named_by o.mem) e
op_found (x ∷ ops) (suc n) op d lt e = op_found ops n op d (omega arith) e
