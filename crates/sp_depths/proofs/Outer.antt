-- The copies of a memory by an outer body: its own, or those of its stages.
use Rattle.std.proofs.Common.{◌≡◌, ℕ, suc, ◌≤◌, Bool, true, false, List, max, arith, sym, ap, ◌∙◌}
use Rattle.std.specs.Prelude.{◌&&◌, not, slice_index_or, if◌then◌else◌}
use Rattle.sp_core.specs.Declarations.{is_among, is_stream}
use Rattle.sp_core.specs.PlainCore.{PlainCounter, PlainNode, PlainStages, outer, PlainCore}
use Rattle.sp_depths.proofs.Some.{some_depths}
use Rattle.sp_depths.specs.Depths.{depth_in, depth_in_stages}
use Rattle.sp_plan.specs.Copies.{is_loop, copies}
use Rattle.sp_plan.specs.PlainPlan.{PlainNodePlan, other_plan}
use Rattle.sp_words.specs.declared.kind.Style.{Style}

taken : (b : Bool) (x y : ℕ) → b ≡ true → (if b then x else y) ≡ x
taken b x y e = ap (λ t. if t then x else y) e

passed : (b : Bool) (x y : ℕ) → b ≡ false → (if b then x else y) ≡ y
passed b x y e = ap (λ t. if t then x else y) e

module _ (core : PlainCore) (nodes : List PlainNodePlan) (m k : ℕ) (node : PlainNode) (counters : List PlainCounter) (style : Style) (owned : List ℕ) (stages : PlainStages) (is : node ≡ outer counters style owned stages) where
  pub by_loop : ((is_loop counters && not (is_stream style)) && is_among m owned) ≡ true → copies core m stages (slice_index_or nodes k other_plan) ≡ depth_in core nodes m k node
  by_loop e = sym (taken _ (copies core m stages (slice_index_or nodes k other_plan)) (depth_in_stages core nodes m (suc k) stages) e) ∙ ap (depth_in core nodes m k) (sym is)

  pub by_stages : ((is_loop counters && not (is_stream style)) && is_among m owned) ≡ false → (most : ℕ) → 1 ≤ most → max most 1 ≡ max 1 (depth_in_stages core nodes m (suc k) stages) → most ≡ depth_in core nodes m k node
  by_stages e most some h =
      let s = some_depths core nodes m (suc k) stages in
      (omega (arith, some, h, s) ∙ sym (passed _ (copies core m stages (slice_index_or nodes k other_plan)) (depth_in_stages core nodes m (suc k) stages) e)) ∙ ap (depth_in core nodes m k) (sym is)
