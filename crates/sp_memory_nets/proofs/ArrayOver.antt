-- Readers that are over at a number, in the parts of a node.
use Rattle.std.proofs.Common.{◌≡◌, ℕ, ◌+◌, List, [], ◌∷◌, ◌++◌, length, sym, ap, ◌∙◌, arith}
use Rattle.sp_core.specs.declared.node.Stage.{Stage}
use Rattle.sp_core.specs.Numbering.{number_count}
use Rattle.sp_core.specs.Plain.{plain_node, plain_stage_list}
use Rattle.sp_core.specs.PlainCore.{PlainOp, PlainNode, fsm, branch, PlainCore}
use Rattle.sp_plan.specs.Copies.{reads}
use Rattle.sp_core_ports.specs.UsedReaders.{Reader, over_at, reader_if, readers_in, readers_in_stages}

pub over_both : (n : ℕ) (rs ss : List Reader) → over_at n (rs ++ ss) ≡ over_at n rs + over_at n ss
over_both n [] ss = omega arith
over_both n (r ∷ rs) ss = (let e = over_both n rs ss in omega (arith, e))

module _ (core : PlainCore) (m at : ℕ) where
  pub stage_over : (n k x : ℕ) (s : Stage) (rest : List Stage) → k ≡ number_count (plain_node s.node) → x ≡ over_at at (readers_in core m n (plain_node s.node))
      → over_at at (readers_in_stages core m n (plain_stage_list (s ∷ rest))) ≡ x + over_at at (readers_in_stages core m (n + k) (plain_stage_list rest))
  stage_over n k x s rest numbers over =
      let node = plain_node s.node in
      over_both at (readers_in core m n node) (readers_in_stages core m (n + number_count node) (plain_stage_list rest))
      ∙ ap (λ z. z + over_at at (readers_in_stages core m (n + number_count node) (plain_stage_list rest))) (sym over)
      ∙ ap (λ z. x + over_at at (readers_in_stages core m (n + z) (plain_stage_list rest))) (sym numbers)

  -- the operations of a list
  abbrev pub list_over : (number : ℕ) → List PlainOp → ℕ
  list_over n ops = over_at at (reader_if (reads core m ops) n (length ops))

  pub fsm_over : (n tested inside behind x y z w : ℕ) (start : List PlainOp) (state : ℕ) (test : List PlainOp) (body : PlainNode) (next : List PlainOp)
      → tested ≡ n + length start → inside ≡ n + (length start + length test) → behind ≡ n + (length start + (length test + number_count body))
      → x ≡ list_over n start → y ≡ list_over tested test → z ≡ over_at at (readers_in core m inside body) → w ≡ list_over behind next
      → x + y + (z + w) ≡ over_at at (readers_in core m n (fsm start state test body next))
  fsm_over n tested inside behind x y z w start state test body next e f g a b c d =
      let readers = readers_in core m (n + (length start + length test)) body in
      let first = reader_if (reads core m start) n (length start) in
      let second = reader_if (reads core m test) (n + length start) (length test) in
      let last = reader_if (reads core m next) (n + (length start + (length test + number_count body))) (length next) in
      let whole = over_both at (first ++ second) (readers ++ last) in
      let front = over_both at first second in
      let back = over_both at readers last in
      let y_is = b ∙ ap (λ k. list_over k test) e in
      let z_is = c ∙ ap (λ k. over_at at (readers_in core m k body)) f in
      let w_is = d ∙ ap (λ k. list_over k next) g in
      omega (arith, whole, front, back, a, y_is, z_is, w_is)

  pub branch_over : (n first second x y z : ℕ) (test : List PlainOp) (left right : PlainNode)
      → first ≡ n + length test → second ≡ n + (length test + number_count left)
      → x ≡ list_over n test → y ≡ over_at at (readers_in core m first left) → z ≡ over_at at (readers_in core m second right)
      → x + (y + z) ≡ over_at at (readers_in core m n (branch test left right))
  branch_over n first second x y z test left right e f a b c =
      let own = reader_if (reads core m test) n (length test) in
      let front = readers_in core m (n + length test) left in
      let back = readers_in core m (n + (length test + number_count left)) right in
      let whole = over_both at own (front ++ back) in
      let both = over_both at front back in
      let y_is = b ∙ ap (λ k. over_at at (readers_in core m k left)) e in
      let z_is = c ∙ ap (λ k. over_at at (readers_in core m k right)) f in
      omega (arith, whole, both, a, y_is, z_is)
