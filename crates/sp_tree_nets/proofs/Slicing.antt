-- A transfer, with the nets of the ends of its slice, and the transfers that a part hands on.
use Rattle.std.proofs.Common.{◌≡◌, ℕ, zero, suc, ◌+◌, ◌<◌, ◌≤◌, ◌^◌, ◌==◌, ◌&&◌, ◌||◌, nat_lt, true, List, [], ◌∷◌, ◌++◌, length, All, slice_index_or, Option, Some, None, refl, sym, ◌∙◌, ap, subst, arith}
use Rattle.std.proofs.lemmas.Bool.{and_parts}
use Rattle.std.specs.List.{list_all}
use Rattle.sp_words.specs.declared.kind.Style.{Style}
use Rattle.sp_netlist.specs.declared.parts.Child.{Child}
use Rattle.sp_netlist.specs.Draft.{Draft}
use Rattle.sp_gates.specs.Grows.{Grows}
use Rattle.sp_gates.specs.Nets.{HasNet}
use Rattle.sp_core.specs.Around.{Around}
use Rattle.sp_core.specs.Invariant.{IsRight}
use Rattle.sp_core.specs.Declarations.{dram}
use Rattle.sp_core.specs.NodeRules.{is_node_right, is_span_right, is_slice_right, fits_sram, fits_line}
use Rattle.sp_core.specs.Numbering.{node_count, number_count, spans_size}
use Rattle.sp_core.specs.PlainCore.{PlainOp, PlainCounter, PlainNode, PlainSpan, PlainStages, branch, fsm, inner, load, store, outer, PlainCore}
use Rattle.sp_plan.specs.PlainPlan.{PlainPlan}
use Rattle.sp_op_nets.specs.declared.acted.ActedList.{ActedList}
use Rattle.sp_op_nets.specs.declared.table.AroundNets.{AroundNets}
use Rattle.sp_bound_nets.specs.Spans.{AreSpans, AreSpansRight, HasEnds, nets_of_spans}
use Rattle.sp_tree_handed.specs.declared.moves.Direction.{Direction}
use Rattle.sp_tree_handed.specs.declared.moves.Direction.TheVariants.{Load, Store}
use Rattle.sp_tree_handed.specs.declared.moves.TreeMove.{TreeMove}
use Rattle.sp_tree_handed.specs.declared.owners.Keeping.{Keeping}
use Rattle.sp_tree_handed.specs.declared.owners.LoopTurns.{LoopTurns}
use Rattle.sp_tree_handed.specs.Moves.{HasEnd, HaveEnds, AreMovesStanding, end_at, slices_in, slices_in_stages}
use Rattle.sp_tree_handed.proofs.Moving.{moves_join, moves_later}
use Rattle.sp_tree_nets.specs.Emitted.{CanEmit}
use Rattle.sp_tree_nets.specs.Slices.{IsSliceTree, transfer_node}
use Rattle.sp_tree_nets.proofs.Sides.{node_right, one_more}

-- what a table has at a number, and past its end
pub end_there : (ends : List (Option ℕ)) (k : ℕ) (x : Option ℕ) → k < length ends → x ≡ slice_index_or ends k x → x ≡ end_at ends k
end_there [] k x lt e = absurd (omega (arith, lt))
end_there (y ∷ ends) zero x lt e = e
end_there (y ∷ ends) (suc k) x lt e = end_there ends k x (omega (arith, lt)) e

pub end_past : (ends : List (Option ℕ)) (k : ℕ) → length ends ≤ k → None ≡ end_at ends k
end_past [] k le = refl
end_past (y ∷ ends) zero le = absurd (omega (arith, le))
end_past (y ∷ ends) (suc k) le = end_past ends k (omega (arith, le))

net_in : Option ℕ → ℕ
net_in None = 0
net_in (Some net) = net

pub end_has : (d : Draft) (ends : List (Option ℕ)) (k net : ℕ) → HasEnd d ends k → end_at ends k ≡ Some net → HasNet d net 1
unfolding net_in
end_has d ends k net h e = subst (λ x. HasNet d x 1) (ap net_in (sym h.there ∙ e)) h.has

-- the spans of a transfer that is right
slice_spans : (core : PlainCore) (around : Around) (r : ℕ) (spans : List PlainSpan) → is_slice_right core around r spans ≡ true → list_all (is_span_right core around) spans ≡ true
slice_spans core around r spans h = (and_parts (nat_lt r (length core.ports.drams) && (length spans == length (dram core r).dims)) (list_all (is_span_right core around) spans) h).1

spans_right : (core : PlainCore) (around : Around) (way : Direction) (r m : ℕ) (spans : List PlainSpan) → is_node_right core around (transfer_node way r m spans) ≡ true → list_all (is_span_right core around) spans ≡ true
spans_right core around Load r m spans h = slice_spans core around r spans (and_parts (is_slice_right core around r spans) (fits_sram core around r m spans || fits_line core around r m spans) h).0
spans_right core around Store r m spans h = slice_spans core around r spans (and_parts (is_slice_right core around r spans) (fits_sram core around r m spans) h).0

module _ (d : Draft) (core : PlainCore) (plan : PlainPlan) (table : List AroundNets) (ends : List (Option ℕ)) (node : PlainNode) (way : Direction) (r m : ℕ) (spans : List PlainSpan) (k n : ℕ) (is : node ≡ transfer_node way r m spans) (can : CanEmit d core plan table ends node k n) where
  own : CanEmit d core plan table ends (transfer_node way r m spans) k n
  own = subst (λ v. CanEmit d core plan table ends v k n) is can

  pub slice_right : AreSpansRight d table spans
  slice_right = record { core = core; around = own.around; right = spans_right core own.around way r m spans (right_here way own.around own.earlier own.right); stand = own.stand }
    where
      right_here : (way : Direction) (around : Around) (earlier : List ℕ) → IsRight core around earlier (transfer_node way r m spans) → is_node_right core around (transfer_node way r m spans) ≡ true
      right_here Load around earlier h = node_right core around earlier (load r m spans) h
      right_here Store around earlier h = node_right core around earlier (store r m spans) h

  pub slice_numbers : n + spans_size spans < 2 ^ 32
  slice_numbers = few way own.numbers
    where
      few : (way : Direction) → n + number_count (transfer_node way r m spans) < 2 ^ 30 → n + spans_size spans < 2 ^ 32
      few Load h = omega (arith, h)
      few Store h = omega (arith, h)

  pub slice_end : HasEnd d ends k
  slice_end = there way own.have_ends
    where
      there : (way : Direction) → HaveEnds d ends (transfer_node way r m spans) k → HasEnd d ends k
      there Load h = h
      there Store h = h

module _ (a b : Draft) (table : List AroundNets) (ends : List (Option ℕ)) (spans : List PlainSpan) (k n : ℕ) (c : Child) (acted : List ActedList) (turns : List LoopTurns) (kept : List Keeping) (moves : List TreeMove) where
  pub slice_is : (move : TreeMove) → turns ≡ [] → kept ≡ [] → moves ≡ move ∷ [] → move.node ≡ k → move.start ≡ c.start → end_at ends k ≡ Some c.done → AreSpans a b table n spans (nets_of_spans move.nets.items) acted
      → IsSliceTree a b table ends spans k n c acted turns kept moves
  slice_is move turns_is kept_is moves_are node start end spans_are core plan Load r m around earlier right stand s run =
      let w = spans_are core plan around (spans_right core around Load r m spans (node_right core around earlier (load r m spans) right)) stand s run in
      record {
        circuit = record { draft = b; runs_on = run; nets = nets_of_spans move.nets.items; ends = w.circuits };
        handed = w.acts;
        owners = (turns_is, kept_is);
        moved = record { move = move; moves_are = moves_are; node = node; start = start; nets_are = refl; end = end };
      }
  slice_is move turns_is kept_is moves_are node start end spans_are core plan Store r m around earlier right stand s run =
      let w = spans_are core plan around (spans_right core around Store r m spans (node_right core around earlier (store r m spans) right)) stand s run in
      record {
        circuit = record { draft = b; runs_on = run; nets = nets_of_spans move.nets.items; ends = w.circuits };
        handed = w.acts;
        owners = (turns_is, kept_is);
        moved = record { move = move; moves_are = moves_are; node = node; start = start; nets_are = refl; end = end };
      }

-- the one transfer that is handed on stands
pub one_stands : (d : Draft) (way : Direction) (r m : ℕ) (spans : List PlainSpan) (k : ℕ) (move : TreeMove) (moves : List TreeMove) → moves ≡ move ∷ [] → move.node ≡ k → HasNet d move.start 1 → length move.nets.items ≡ length spans → All (HasEnds d) move.nets.items
    → AreMovesStanding d (slices_in (transfer_node way r m spans) k) moves
one_stands d Load r m spans k move moves are node start each nets = subst (AreMovesStanding d (slices_in (load r m spans) k)) (sym are) (record { node = node; start = start; each = each; nets = nets }, tt)
one_stands d Store r m spans k move moves are node start each nets = subst (AreMovesStanding d (slices_in (store r m spans) k)) (sym are) (record { node = node; start = start; each = each; nets = nets }, tt)

-- those of a branch, by the parts of a node as its function takes them
module _ (node : PlainNode) (ops : List PlainOp) (first second : PlainNode) (k nodes : ℕ) (is : node ≡ branch ops first second) (nodes_is : nodes ≡ node_count first) where
  pub both_stand : (c d e : Draft) (ms os moves : List TreeMove) (x y : PlainNode) → x ≡ first → y ≡ second → moves ≡ ms ++ os → Grows c e → Grows d e → AreMovesStanding c (slices_in x (k + 1)) ms → AreMovesStanding d (slices_in y (k + 1 + nodes)) os
      → AreMovesStanding e (slices_in node k) moves
  both_stand c d e ms os moves x y x_is y_is moves_are g h one other =
      let left = subst (λ j. AreMovesStanding c (slices_in first j) ms) (sym (one_more k)) (subst (λ v. AreMovesStanding c (slices_in v (k + 1)) ms) x_is one) in
      let there : (k + 1) + nodes ≡ suc k + node_count first = omega (arith, nodes_is) in
      let right = subst (λ j. AreMovesStanding d (slices_in second j) os) there (subst (λ v. AreMovesStanding d (slices_in v (k + 1 + nodes)) os) y_is other) in
      subst (λ v. AreMovesStanding e (slices_in v k) moves) (sym is)
      (subst (AreMovesStanding e (slices_in (branch ops first second) k)) (sym moves_are)
      (moves_join e (slices_in first (suc k)) (slices_in second (suc k + node_count first)) ms os (moves_later c e (slices_in first (suc k)) ms g left) (moves_later d e (slices_in second (suc k + node_count first)) os h right)))

-- those of an FSM
module _ (node : PlainNode) (start : List PlainOp) (state : ℕ) (test : List PlainOp) (body : PlainNode) (next : List PlainOp) (k : ℕ) (is : node ≡ fsm start state test body next) where
  pub body_stands : (c e : Draft) (ms : List TreeMove) (x : PlainNode) → x ≡ body → Grows c e → AreMovesStanding c (slices_in x (k + 1)) ms → AreMovesStanding e (slices_in node k) ms
  body_stands c e ms x x_is g one =
      subst (λ v. AreMovesStanding e (slices_in v k) ms) (sym is)
      (moves_later c e (slices_in body (suc k)) ms g (subst (λ j. AreMovesStanding c (slices_in body j) ms) (sym (one_more k)) (subst (λ v. AreMovesStanding c (slices_in v (k + 1)) ms) x_is one)))

-- those of a loop
pub loop_stands : (d : Draft) (node : PlainNode) (counters : List PlainCounter) (style : Style) (owned : List ℕ) (stages : PlainStages) (k : ℕ) → node ≡ outer counters style owned stages → (ms : List TreeMove) → AreMovesStanding d (slices_in_stages stages (k + 1)) ms
    → AreMovesStanding d (slices_in node k) ms
loop_stands d node counters style owned stages k is ms h = subst (λ v. AreMovesStanding d (slices_in v k) ms) (sym is) (subst (λ j. AreMovesStanding d (slices_in_stages stages j) ms) (sym (one_more k)) h)

-- an inner body has none
pub none_move : (d : Draft) (node : PlainNode) (counters : List PlainCounter) (owned : List ℕ) (ops : List PlainOp) (comb : Option ℕ) (k : ℕ) → node ≡ inner counters owned ops comb → (moves : List TreeMove) → moves ≡ [] → AreMovesStanding d (slices_in node k) moves
none_move d node counters owned ops comb k is moves are = subst (λ v. AreMovesStanding d (slices_in v k) moves) (sym is) (subst (AreMovesStanding d []) (sym are) tt)
