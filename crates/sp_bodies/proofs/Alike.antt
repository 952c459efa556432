-- Where values are found matters only for those that are used: sources that are the same for these give the same
-- operations.
use Rattle.std.proofs.Common.{◌≡◌, ℕ, suc, ◌+◌, Bool, true, ◌||◌, List, [], ◌∷◌, ◌++◌, refl, ◌∙◌, ap, if◌then◌else◌}
use Rattle.std.proofs.lemmas.Bool.{eq-eqb, or_left, or_right}
use Rattle.std.specs.Prelude.{length}
use Rattle.sp_words.specs.declared.types.Ty.{Ty}
use Rattle.sp_words.specs.Types.{int_type}
use Rattle.sp_tree.specs.PlainExpression.{PlainExpr, PlainExprKind, PlainExprs, expr, literal, counter, value, get_reg, get_arg, get_sram, get_line, deq, one, two, shift, mux, cast, no_expr, more_expr, type_of}
use Rattle.sp_tree.specs.PlainProgram.{PlainMem}
use Rattle.sp_tree.specs.PlainStatement.{PlainSpan, single, range, PlainCounter, PlainStmtKind, declare, name, set_reg, set_out, set_sram, enq, load_sram, load_line, store, gather, scatter, block, foreach, reduce, mem_reduce, fsm, branch}
use Rattle.sp_core.specs.declared.operation.OpKind.TheVariants as kind
use Rattle.sp_core.specs.PlainCore as core
use Rattle.sp_core.specs.PlainCore.{PlainOp, PlainStages}
use Rattle.sp_sugar.specs.Early.{bounds_of, parts_of, is_early, is_early_slice, is_early_part, after, stage_of, into_register, from_register, counters_of, spans_from, bound_stages, part_ops, slice_ops, early_stages}
use Rattle.sp_sugar.specs.Numbers.{mem_number}
use Rattle.sp_sugar.specs.Operations.{Code, Codes, computes, read_op, write_op, source_code, ending_in, more_codes, code, code_of, codes, word_list}
use Rattle.sp_sugar.specs.Uses.{uses, kind_uses, some_use, counters_use, spans_use, are_using, is_using, names_after}
use Rattle.sp_sugar.specs.Values.{Sources}
use Rattle.sp_sugar.proofs.UseLemmas.{only}

module _ (mems : List PlainMem) (first second : Sources) where
  -- the same for the values that a test tells of
  abbrev pub SameFor : ((ℕ → Bool) → Bool) → Type 0
  SameFor test = (v : ℕ) → test (only v) ≡ true → first v ≡ second v

  -- a code after another one
  after_one : {A : Type 0} (f : Code → Code → A) (at : ℕ) (a b : PlainExpr) → code mems first at a ≡ code mems second at a → ((k : ℕ) → code mems first k b ≡ code mems second k b)
      → f (code mems first at a) (code mems first (at + length (code mems first at a).ops) b) ≡ f (code mems second at a) (code mems second (at + length (code mems second at a).ops) b)
  after_one f at a b x y = ap (λ (c : Code). f c (code mems first (at + length c.ops) b)) x ∙ ap (f (code mems second at a)) (y (at + length (code mems second at a).ops))

  after_two : {A : Type 0} (f : Code → Code → Code → A) (at : ℕ) (a b c : PlainExpr) → code mems first at a ≡ code mems second at a → ((k : ℕ) → code mems first k b ≡ code mems second k b) → ((k : ℕ) → code mems first k c ≡ code mems second k c)
      → (let x : Code = code mems first at a in let y : Code = code mems first (at + length x.ops) b in f x y (code mems first (at + length x.ops + length y.ops) c))
      ≡ (let x : Code = code mems second at a in let y : Code = code mems second (at + length x.ops) b in f x y (code mems second (at + length x.ops + length y.ops) c))
  after_two f at a b c x y z =
      after_one (λ (m : Code) (n : Code). f m n (code mems first (at + length m.ops + length n.ops) c)) at a b x y
      ∙ ap (f (code mems second at a) (code mems second (at + length (code mems second at a).ops) b)) (z (at + length (code mems second at a).ops + length (code mems second (at + length (code mems second at a).ops) b).ops))

  mutual
    unfolding code code_of codes

    pub code_alike : (e : PlainExpr) (at : ℕ) → SameFor (λ is. uses is e) → code mems first at e ≡ code mems second at e
    code_alike (expr place ty k) at h = kind_alike k at ty h

    kind_alike : (k : PlainExprKind) (at : ℕ) (ty : Ty) → SameFor (λ is. kind_uses is k) → code_of mems first at ty k ≡ code_of mems second at ty k
    kind_alike (literal w) at ty h = refl
    kind_alike (counter c) at ty h = refl
    kind_alike (value v) at ty h = ap (source_code at ty) (h v (eq-eqb v v refl))
    kind_alike (get_reg m) at ty h = refl
    kind_alike (get_arg m) at ty h = refl
    kind_alike (get_sram m xs) at ty h = ap (λ (is : Codes). ending_in at is.ops (read_op ty (mem_number mems m) is.words)) (codes_alike xs at h)
    kind_alike (get_line m r c) at ty h =
        after_one (λ (x : Code) (y : Code). ending_in at (x.ops ++ y.ops) (read_op ty (mem_number mems m) (x.word ∷ y.word ∷ []))) at r c
        (code_alike r at (λ v u. h v (or_left (uses (only v) r) (uses (only v) c) u))) (λ k. code_alike c k (λ v u. h v (or_right (uses (only v) r) (uses (only v) c) u)))
    kind_alike (deq m) at ty h = refl
    kind_alike (one op a) at ty h = ap (λ (x : Code). ending_in at x.ops (computes (kind.One op) ty (x.word ∷ []))) (code_alike a at h)
    kind_alike (two op a b) at ty h =
        after_one (λ (x : Code) (y : Code). ending_in at (x.ops ++ y.ops) (computes (kind.Two op) (type_of a) (x.word ∷ y.word ∷ []))) at a b
        (code_alike a at (λ v u. h v (or_left (uses (only v) a) (uses (only v) b) u))) (λ k. code_alike b k (λ v u. h v (or_right (uses (only v) a) (uses (only v) b) u)))
    kind_alike (shift left a by) at ty h = ap (λ (x : Code). ending_in at x.ops (computes (kind.Shift left by) ty (x.word ∷ []))) (code_alike a at h)
    kind_alike (mux c a b) at ty h =
        after_two (λ (x : Code) (y : Code) (z : Code). ending_in at (x.ops ++ y.ops ++ z.ops) (computes kind.Mux ty (x.word ∷ y.word ∷ z.word ∷ []))) at c a b
        (code_alike c at (λ v u. h v (or_left (uses (only v) c || uses (only v) a) (uses (only v) b) (or_left (uses (only v) c) (uses (only v) a) u))))
        (λ k. code_alike a k (λ v u. h v (or_left (uses (only v) c || uses (only v) a) (uses (only v) b) (or_right (uses (only v) c) (uses (only v) a) u))))
        (λ k. code_alike b k (λ v u. h v (or_right (uses (only v) c || uses (only v) a) (uses (only v) b) u)))
    kind_alike (cast a) at ty h = ap (λ (x : Code). ending_in at x.ops (computes (kind.Cast ty) (type_of a) (x.word ∷ []))) (code_alike a at h)

    pub codes_alike : (xs : PlainExprs) (at : ℕ) → SameFor (λ is. some_use is xs) → codes mems first at xs ≡ codes mems second at xs
    codes_alike no_expr at h = refl
    codes_alike (more_expr e rest) at h =
        ap (λ (x : Code). more_codes x (codes mems first (at + length x.ops) rest)) (code_alike e at (λ v u. h v (or_left (uses (only v) e) (some_use (only v) rest) u)))
        ∙ ap (more_codes (code mems second at e)) (codes_alike rest (at + length (code mems second at e).ops) (λ v u. h v (or_right (uses (only v) e) (some_use (only v) rest) u)))

  pub list_alike : (e : PlainExpr) → SameFor (λ is. uses is e) → word_list mems first e ≡ word_list mems second e
  list_alike e h = ap (λ (x : Code). x.ops) (code_alike e 0 h)

  into_alike : (at r : ℕ) (e : PlainExpr) → SameFor (λ is. uses is e) → into_register mems first at r e ≡ into_register mems second at r e
  into_alike at r e h = ap (λ (x : Code). x.ops ++ write_op int_type r (x.word ∷ []) ∷ []) (code_alike e at h)

  pub from_alike : (crosses : PlainExpr → Bool) (r : ℕ) (e : PlainExpr) → SameFor (λ is. uses is e) → from_register mems first crosses r e ≡ from_register mems second crosses r e
  from_alike crosses r e h = ap (λ l. if crosses e then read_op int_type r [] ∷ [] else l) (list_alike e h)

  pub counters_alike : (r : ℕ) (loops : List PlainCounter) → SameFor (λ is. counters_use is loops) → counters_of mems first r loops ≡ counters_of mems second r loops
  counters_alike r [] h = refl
  counters_alike r (c ∷ loops) h =
      let next : ℕ = after is_early (after is_early r c.from) c.until in
      let whole : List PlainOp → List PlainOp → List core.PlainCounter → List core.PlainCounter = λ a b l. record { number = c.number; from = a; until = b; by = c.step; par = c.par } ∷ l in
      ap (λ a. whole a (from_register mems first is_early (after is_early r c.from) c.until) (counters_of mems first next loops))
      (from_alike is_early r c.from (λ v u. h v (or_left (uses (only v) c.from || uses (only v) c.until) (counters_use (only v) loops) (or_left (uses (only v) c.from) (uses (only v) c.until) u))))
      ∙ ap (λ b. whole (from_register mems second is_early r c.from) b (counters_of mems first next loops))
      (from_alike is_early (after is_early r c.from) c.until (λ v u. h v (or_left (uses (only v) c.from || uses (only v) c.until) (counters_use (only v) loops) (or_right (uses (only v) c.from) (uses (only v) c.until) u))))
      ∙ ap (whole (from_register mems second is_early r c.from) (from_register mems second is_early (after is_early r c.from) c.until))
      (counters_alike next loops (λ v u. h v (or_right (uses (only v) c.from || uses (only v) c.until) (counters_use (only v) loops) u)))

  pub spans_alike : (crosses : PlainExpr → Bool) (r : ℕ) (spans : List PlainSpan) → SameFor (λ is. spans_use is spans) → spans_from mems first crosses r spans ≡ spans_from mems second crosses r spans
  spans_alike crosses r [] h = refl
  spans_alike crosses r (single e ∷ spans) h =
      ap (λ a. core.single a ∷ spans_from mems first crosses (after crosses r e) spans) (from_alike crosses r e (λ v u. h v (or_left (uses (only v) e) (spans_use (only v) spans) u)))
      ∙ ap (λ l. core.single (from_register mems second crosses r e) ∷ l) (spans_alike crosses (after crosses r e) spans (λ v u. h v (or_right (uses (only v) e) (spans_use (only v) spans) u)))
  spans_alike crosses r (range a b par ∷ spans) h =
      let next : ℕ = after crosses (after crosses r a) b in
      ap (λ x. core.range x (from_register mems first crosses (after crosses r a) b) ∷ spans_from mems first crosses next spans)
      (from_alike crosses r a (λ v u. h v (or_left (uses (only v) a || uses (only v) b) (spans_use (only v) spans) (or_left (uses (only v) a) (uses (only v) b) u))))
      ∙ ap (λ x. core.range (from_register mems second crosses r a) x ∷ spans_from mems first crosses next spans)
      (from_alike crosses (after crosses r a) b (λ v u. h v (or_left (uses (only v) a || uses (only v) b) (spans_use (only v) spans) (or_right (uses (only v) a) (uses (only v) b) u))))
      ∙ ap (λ l. core.range (from_register mems second crosses r a) (from_register mems second crosses (after crosses r a) b) ∷ l)
      (spans_alike crosses next spans (λ v u. h v (or_right (uses (only v) a || uses (only v) b) (spans_use (only v) spans) u)))

  -- expressions one after the other
  abbrev SameForAll : List PlainExpr → Type 0
  SameForAll [] = Unit {0}
  SameForAll (e ∷ es) = SameFor (λ is. uses is e) × SameForAll es

  of_bounds : (loops : List PlainCounter) → SameFor (λ is. counters_use is loops) → SameForAll (bounds_of loops)
  of_bounds [] h = tt
  of_bounds (c ∷ loops) h = (
    λ v u. h v (or_left (uses (only v) c.from || uses (only v) c.until) (counters_use (only v) loops) (or_left (uses (only v) c.from) (uses (only v) c.until) u)),
    (
      λ v u. h v (or_left (uses (only v) c.from || uses (only v) c.until) (counters_use (only v) loops) (or_right (uses (only v) c.from) (uses (only v) c.until) u)),
      of_bounds loops (λ v u. h v (or_right (uses (only v) c.from || uses (only v) c.until) (counters_use (only v) loops) u)),
    ),
  )

  of_parts : (spans : List PlainSpan) → SameFor (λ is. spans_use is spans) → SameForAll (parts_of spans)
  of_parts [] h = tt
  of_parts (single e ∷ spans) h = (λ v u. h v (or_left (uses (only v) e) (spans_use (only v) spans) u), of_parts spans (λ v u. h v (or_right (uses (only v) e) (spans_use (only v) spans) u)))
  of_parts (range a b par ∷ spans) h = (
    λ v u. h v (or_left (uses (only v) a || uses (only v) b) (spans_use (only v) spans) (or_left (uses (only v) a) (uses (only v) b) u)),
    (
      λ v u. h v (or_left (uses (only v) a || uses (only v) b) (spans_use (only v) spans) (or_right (uses (only v) a) (uses (only v) b) u)),
      of_parts spans (λ v u. h v (or_right (uses (only v) a || uses (only v) b) (spans_use (only v) spans) u)),
    ),
  )

  bounds_alike : (r : ℕ) (es : List PlainExpr) (rest : PlainStages) → SameForAll es → bound_stages mems first r es rest ≡ bound_stages mems second r es rest
  bounds_alike r [] rest h = refl
  bounds_alike r (e ∷ es) rest h =
      ap (λ x. if is_early e then stage_of x (bound_stages mems first (suc r) es rest) else bound_stages mems first r es rest) (into_alike 0 r e h.0)
      ∙ ap (λ x. if is_early e then stage_of (into_register mems second 0 r e) x else bound_stages mems first r es rest) (bounds_alike (suc r) es rest h.1)
      ∙ ap (λ x. if is_early e then stage_of (into_register mems second 0 r e) (bound_stages mems second (suc r) es rest) else x) (bounds_alike r es rest h.1)

  slice_alike : (crosses : PlainExpr → Bool) (at r : ℕ) (es : List PlainExpr) → SameForAll es → slice_ops mems first crosses at r es ≡ slice_ops mems second crosses at r es
  slice_alike crosses at r [] h = refl
  slice_alike crosses at r (e ∷ es) h =
      ap (λ x. x ++ slice_ops mems first crosses (at + length x) (after crosses r e) es) (ap (λ x. if crosses e then x else []) (into_alike at r e h.0))
      ∙ ap (λ x. part_ops mems second crosses at r e ++ x) (slice_alike crosses (at + length (part_ops mems second crosses at r e)) (after crosses r e) es h.1)

  pub early_alike : (k : PlainStmtKind) (r : ℕ) (rest : PlainStages) → SameFor (λ is. is_using is k) → early_stages mems first r k rest ≡ early_stages mems second r k rest
  early_alike (load_sram sram dram spans) r rest h = ap (λ x. if is_early_slice spans then stage_of x rest else rest) (slice_alike (is_early_part spans) 0 r (parts_of spans) (of_parts spans h))
  early_alike (load_line line dram spans) r rest h = ap (λ x. if is_early_slice spans then stage_of x rest else rest) (slice_alike (is_early_part spans) 0 r (parts_of spans) (of_parts spans h))
  early_alike (store dram spans sram) r rest h = ap (λ x. if is_early_slice spans then stage_of x rest else rest) (slice_alike (is_early_part spans) 0 r (parts_of spans) (of_parts spans h))
  early_alike (gather sram dram places n) r rest h = bounds_alike r (n ∷ []) rest (h, tt)
  early_alike (scatter dram places n sram) r rest h = bounds_alike r (n ∷ []) rest (h, tt)
  early_alike (foreach style loops body) r rest h = bounds_alike r (bounds_of loops) rest (of_bounds loops (λ v u. h v (or_left (counters_use (only v) loops) (are_using (only v) body) u)))
  early_alike (reduce style fold acc loops body e comb) r rest h =
      bounds_alike r (bounds_of loops) rest (of_bounds loops (λ v u. h v (or_left (counters_use (only v) loops || are_using (only v) body) (uses (names_after (only v) body) e) (or_left (counters_use (only v) loops) (are_using (only v) body) u))))
  early_alike (mem_reduce style acc loops body part comb) r rest h = bounds_alike r (bounds_of loops) rest (of_bounds loops (λ v u. h v (or_left (counters_use (only v) loops) (are_using (only v) body) u)))
  early_alike (declare m) r rest h = refl
  early_alike (name v e) r rest h = refl
  early_alike (set_reg m e) r rest h = refl
  early_alike (set_out m e) r rest h = refl
  early_alike (set_sram m xs e) r rest h = refl
  early_alike (enq m e) r rest h = refl
  early_alike (block style body) r rest h = refl
  early_alike (fsm start tested test state body last next) r rest h = refl
  early_alike (branch test one_body other_body) r rest h = refl
