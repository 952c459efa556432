-- Early stages keep the rules of nodes.
use Rattle.std.proofs.Common.{◌≡◌, ℕ, suc, ◌+◌, ◌<◌, ◌≤◌, Bool, true, false, ◌||◌, List, [], ◌∷◌, ◌++◌, Some, refl, sym, ap, subst, arith, length-append, if◌then◌else◌}
use Rattle.std.proofs.lemmas.Bool.{and_from, le-leb, or_left, or_right}
use Rattle.std.specs.Prelude.{length, filter}
use Rattle.sp_words.specs.declared.types.Ty.{Ty}
use Rattle.sp_words.specs.Types.{int_type}
use Rattle.sp_tree.specs.PlainExpression.{PlainExpr, type_of}
use Rattle.sp_tree.specs.PlainProgram.{PlainProgram}
use Rattle.sp_tree.specs.PlainStatement.{PlainSpan, single, range, PlainCounter}
use Rattle.sp_tree.specs.Typing.{Scope, Typed, HasTypeStill, SpansTyped, BoundsTyped}
use Rattle.sp_core.specs.declared.operation.OpKind.TheVariants as kind
use Rattle.sp_core.specs.Around.{Around}
use Rattle.sp_core.specs.OperationRules.{are_operations_right_after}
use Rattle.sp_core.specs.PlainCore.{PlainOp, PlainCore, PlainStages}
use Rattle.sp_core.specs.Typed.{Given}
use Rattle.sp_sugar.specs.Agreement.{HasMemories}
use Rattle.sp_sugar.specs.Early.{bounds_of, parts_of, is_early, is_early_slice, is_early_part, registers_for, into_register, slice_ops, stage_of, bound_stages, slice_stage}
use Rattle.sp_sugar.specs.Numbers.{crossing_register}
use Rattle.sp_sugar.specs.Operations.{Code, code}
use Rattle.sp_sugar.specs.Rules.{given_by, IsRegister, MayUse, MayNeed, Keep}
use Rattle.sp_sugar.specs.Stages.{run_stage}
use Rattle.sp_sugar.specs.Uses.{uses, counters_use, spans_use}
use Rattle.sp_sugar.specs.Values.{Sources}
use Rattle.sp_sugar.proofs.CombKeeps.{write_named, write_takes}
use Rattle.sp_sugar.proofs.KeepLemmas.{given_length, keep_nothing, keep_others, keep_silent}
use Rattle.sp_sugar.proofs.Keeps.{keeps, source_still}
use Rattle.sp_sugar.proofs.NodeParts.{InLaneZero}
use Rattle.sp_sugar.proofs.NumberLemmas.{either}
use Rattle.sp_sugar.proofs.RightNodes.{StagesRight}
use Rattle.sp_sugar.proofs.UseLemmas.{only, kept_there, there_kept, typed_fewer}

-- stages that keep the rules, of one lane
abbrev pub Good : PlainCore → Around → PlainStages → Type 0
Good core around xs = StagesRight core around xs × InLaneZero xs

pub good_stage : (core : PlainCore) (around : Around) → length around.counters ≤ 1000 → (ops : List PlainOp) (rest : PlainStages) → are_operations_right_after core around [] ops ≡ true → Good core around rest → Good core around (stage_of ops rest)
good_stage core around few ops rest r g = ((and_from _ _ (and_from _ _ (and_from _ _ refl (le-leb (0 + length around.counters) 1000 (omega (arith, few)))) refl) r, g.0), (refl, refl, g.1))

pub good_run : (core : PlainCore) (around : Around) → length around.counters ≤ 1000 → (ops : List PlainOp) (rest : PlainStages) → are_operations_right_after core around [] ops ≡ true → Good core around rest → Good core around (run_stage ops rest)
good_run core around few [] rest r g = g
good_run core around few (op ∷ ops) rest r g = good_stage core around few (op ∷ ops) rest r g

module _ (p : PlainProgram) (core : PlainCore) (h : HasMemories p core) (around : Around) (scope : Scope) (sources : Sources) (needed : ℕ → Bool) (g : MayNeed core around p scope sources needed) where
  abbrev seen_by : PlainExpr → List (ℕ × Ty)
  seen_by e = filter (λ u. uses (only u.0) e) scope.vals

  abbrev pub Needs : PlainExpr → Type 0
  Needs e = (v : ℕ) → uses (only v) e ≡ true → needed v ≡ true

  may_after : (e : PlainExpr) → Needs e → (earlier : Given) → MayUse core around p (record scope { vals = seen_by e }) sources earlier
  may_after e f earlier = record {
    mems = g.mems;
    vals = λ v c. let k = there_kept (λ u. uses (only u.0) e) scope.vals v c in source_still core around [] earlier (sources v.0) v.1 (g.vals v k.0 (f v.0 k.1));
    counters = g.counters;
  }

  -- an expression after others
  pub code_keeps : (e : PlainExpr) → Typed p scope e → Needs e → (earlier : Given) (at : ℕ) → at ≡ length earlier → Keep core around earlier (code p.mems sources at e).ops ((code p.mems sources at e).word ∷ []) (type_of e ∷ [])
  code_keeps e t f earlier at same =
      keeps p core h around (record scope { vals = seen_by e }) sources e at earlier same (typed_fewer p scope (seen_by e) e t (λ v ty c u. kept_there (λ w. uses (only w.0) e) scope.vals (v, ty) c u)) (may_after e f earlier)

  into_keeps : (r : ℕ) (e : PlainExpr) → IsRegister core around r int_type → HasTypeStill p scope int_type e → Needs e → (earlier : Given) (at : ℕ) → at ≡ length earlier → Keep core around earlier (into_register p.mems sources at r e) [] []
  into_keeps r e i t f earlier at same =
      let x : Code = code p.mems sources at e in
      let k = code_keeps e t.0.0 f earlier at same in
      keep_silent core around earlier x.ops (x.word ∷ []) (int_type ∷ []) (subst (λ t. Keep core around earlier x.ops (x.word ∷ []) (t ∷ [])) t.0.1 k) kind.Write int_type (Some r) refl (write_named core around r int_type i) (write_takes core around r int_type i)

  -- each of some bounds or parts of a slice is typed, and needs what it may
  abbrev pub Parts : List PlainExpr → Type 0
  Parts [] = Unit {0}
  Parts (e ∷ es) = (HasTypeStill p scope int_type e × Needs e) × Parts es

  pub bound_parts : (loops : List PlainCounter) → BoundsTyped p scope loops → ((v : ℕ) → counters_use (only v) loops ≡ true → needed v ≡ true) → Parts (bounds_of loops)
  bound_parts [] t f = tt
  bound_parts (c ∷ loops) t f = (
    (t.0, λ v u. f v (or_left (uses (only v) c.from || uses (only v) c.until) (counters_use (only v) loops) (or_left (uses (only v) c.from) (uses (only v) c.until) u))),
    (
      (t.1, λ v u. f v (or_left (uses (only v) c.from || uses (only v) c.until) (counters_use (only v) loops) (or_right (uses (only v) c.from) (uses (only v) c.until) u))),
      bound_parts loops t.4 (λ v u. f v (or_right (uses (only v) c.from || uses (only v) c.until) (counters_use (only v) loops) u)),
    ),
  )

  pub span_parts : (spans : List PlainSpan) → SpansTyped p scope spans → ((v : ℕ) → spans_use (only v) spans ≡ true → needed v ≡ true) → Parts (parts_of spans)
  span_parts [] t f = tt
  span_parts (single e ∷ spans) t f =
      ((t.0, λ v u. f v (or_left (uses (only v) e) (spans_use (only v) spans) u)), span_parts spans t.1 (λ v u. f v (or_right (uses (only v) e) (spans_use (only v) spans) u)))
  span_parts (range a b par ∷ spans) t f = (
    (t.0, λ v u. f v (or_left (uses (only v) a || uses (only v) b) (spans_use (only v) spans) (or_left (uses (only v) a) (uses (only v) b) u))),
    (
      (t.1, λ v u. f v (or_left (uses (only v) a || uses (only v) b) (spans_use (only v) spans) (or_right (uses (only v) a) (uses (only v) b) u))),
      span_parts spans t.3 (λ v u. f v (or_right (uses (only v) a || uses (only v) b) (spans_use (only v) spans) u)),
    ),
  )

  abbrev pub Registers_from : (crosses : PlainExpr → Bool) → ℕ → List PlainExpr → Type 0
  Registers_from crosses r es = (j : ℕ) → r ≤ j → j < r + length (registers_for crosses es) → IsRegister core around j int_type

  abbrev count_if : Bool → List PlainExpr → (PlainExpr → Bool) → ℕ
  count_if b es crosses = length ((if b then crossing_register int_type ∷ [] else []) ++ registers_for crosses es)

  crossed : (crosses : PlainExpr → Bool) (r : ℕ) (e : PlainExpr) (es : List PlainExpr) → crosses e ≡ true → Registers_from crosses r (e ∷ es) → IsRegister core around r int_type × Registers_from crosses (suc r) es
  crossed crosses r e es c regs =
      let n : length (registers_for crosses (e ∷ es)) ≡ suc (length (registers_for crosses es)) = ap (λ b. count_if b es crosses) c in
      (regs r (omega arith) (omega (arith, n)), λ j le lt. regs j (omega arith) (omega (arith, n, lt)))

  passed_by : (crosses : PlainExpr → Bool) (r : ℕ) (e : PlainExpr) (es : List PlainExpr) → crosses e ≡ false → Registers_from crosses r (e ∷ es) → Registers_from crosses r es
  passed_by crosses r e es c regs =
      let n : length (registers_for crosses (e ∷ es)) ≡ length (registers_for crosses es) = ap (λ b. count_if b es crosses) c in
      λ j le lt. regs j le (omega (arith, n, lt))

  slice_keeps : (crosses : PlainExpr → Bool) (es : List PlainExpr) (r : ℕ) → Registers_from crosses r es → Parts es → (earlier : Given) (at : ℕ) → at ≡ length earlier → Keep core around earlier (slice_ops p.mems sources crosses at r es) [] []
  slice_keeps crosses [] r regs parts earlier at same = keep_nothing core around earlier
  slice_keeps crosses (e ∷ es) r regs parts earlier at same = either (crosses e)
      (λ c. let x = crossed crosses r e es c regs in
      subst (λ b. Keep core around earlier ((if b then into_register p.mems sources at r e else []) ++ slice_ops p.mems sources crosses (at + length (if b then into_register p.mems sources at r e else [])) (if b then suc r else r) es) [] []) (sym c)
      (let first : List PlainOp = into_register p.mems sources at r e in
      keep_others core around earlier first (slice_ops p.mems sources crosses (at + length first) (suc r) es) [] [] [] [] (into_keeps r e x.0 parts.0.0 parts.0.1 earlier at same)
      (slice_keeps crosses es (suc r) x.1 parts.1 (earlier ++ given_by first) (at + length first) (omega (arith, same, length-append earlier (given_by first), given_length first)))))
      (λ c. subst (λ b. Keep core around earlier ((if b then into_register p.mems sources at r e else []) ++ slice_ops p.mems sources crosses (at + length (if b then into_register p.mems sources at r e else [])) (if b then suc r else r) es) [] []) (sym c)
      (slice_keeps crosses es r (passed_by crosses r e es c regs) parts.1 earlier (at + 0) (omega (arith, same))))

  module _ (few : length around.counters ≤ 1000) where
    pub bounds_good : (es : List PlainExpr) (r : ℕ) (rest : PlainStages) → Registers_from is_early r es → Parts es → Good core around rest → Good core around (bound_stages p.mems sources r es rest)
    bounds_good [] r rest regs parts good = good
    bounds_good (e ∷ es) r rest regs parts good = either (is_early e)
        (λ c. let x = crossed is_early r e es c regs in
        subst (λ b. Good core around (if b then stage_of (into_register p.mems sources 0 r e) (bound_stages p.mems sources (suc r) es rest) else bound_stages p.mems sources r es rest)) (sym c)
        (good_stage core around few (into_register p.mems sources 0 r e) (bound_stages p.mems sources (suc r) es rest) (into_keeps r e x.0 parts.0.0 parts.0.1 [] 0 refl).right (bounds_good es (suc r) rest x.1 parts.1 good)))
        (λ c. subst (λ b. Good core around (if b then stage_of (into_register p.mems sources 0 r e) (bound_stages p.mems sources (suc r) es rest) else bound_stages p.mems sources r es rest)) (sym c)
        (bounds_good es r rest (passed_by is_early r e es c regs) parts.1 good))

    pub slice_good : (r : ℕ) (spans : List PlainSpan) (rest : PlainStages) → Registers_from (is_early_part spans) r (parts_of spans) → Parts (parts_of spans) → Good core around rest → Good core around (slice_stage p.mems sources r spans rest)
    slice_good r spans rest regs parts good = choose (is_early_slice spans)
      where
        choose : (b : Bool) → Good core around (if b then stage_of (slice_ops p.mems sources (is_early_part spans) 0 r (parts_of spans)) rest else rest)
        choose true = good_stage core around few (slice_ops p.mems sources (is_early_part spans) 0 r (parts_of spans)) rest (slice_keeps (is_early_part spans) (parts_of spans) r regs parts [] 0 refl).right good
        choose false = good
