-- Runs of lists of operations: one after the other, how long they are, and what they leave.
use Rattle.std.proofs.Common.{◌≡◌, ℕ, ◌+◌, false, ◌&&◌, List, [], ◌∷◌, ◌++◌, length, refl, sym, ◌∙◌, ap, arith}
use Rattle.std.proofs.lemmas.List.{length-append}
use Rattle.sp_core.specs.History.{Entry}
use Rattle.sp_core.specs.Operations.{operation, operations_after}
use Rattle.sp_core.specs.PlainCore.{PlainOp, PlainCore}
use Rattle.sp_core.specs.Scope.{Scope}
use Rattle.sp_core.specs.Step.{Went, went, stopped, more, pure, ◌>>=◌}
use Rattle.sp_core.specs.Store.{Store}
use Rattle.sp_lanes.specs.Shared.{is_of, changes_memory, does_change}
use Rattle.sp_lane_groups.proofs.LiveLane.{split_run, nothing_run}
use Rattle.sp_lane_groups.proofs.SharedAgree.{neither}
use Rattle.sp_lane_groups.proofs.SharedKeeping.{op_leaves}

module _ (core : PlainCore) (scope : Scope) where
  step_on : (op : PlainOp) (ops : List PlainOp) (done : List Entry) (t : Store) (e : Entry) (u : Store) → operation core scope op done t ≡ went e u → operations_after core scope done (op ∷ ops) t ≡ operations_after core scope (done ++ e ∷ []) ops u
  unfolding operations_after ◌>>=◌
  step_on op ops done t e u i = ap (λ (r : Went Entry). elim r as (λ _. Went (List Entry)) [ went a v ↦ operations_after core scope (done ++ a ∷ []) ops v | stopped ↦ stopped | more ↦ more ]) i

  pub nothing_on : (done : List Entry) (t : Store) → operations_after core scope done [] t ≡ went done t
  unfolding operations_after pure
  nothing_on done t = refl

  pub runs_append : (xs ys : List PlainOp) (done last : List Entry) (s t : Store) → operations_after core scope done xs s ≡ went last t → operations_after core scope done (xs ++ ys) s ≡ operations_after core scope last ys t
  runs_append [] ys done last s t ran =
      let r = nothing_run core scope done s last t ran in
      ap (λ d. operations_after core scope d ys s) r.0 ∙ ap (λ (u : Store). operations_after core scope last ys u) r.1
  runs_append (op ∷ xs) ys done last s t ran =
      let r = split_run core scope op xs done s last t ran in
      step_on op (xs ++ ys) done s r.0 r.1 r.2 ∙ runs_append xs ys (done ++ r.0 ∷ []) last r.1 t r.3

  -- a run gives an entry for each operation
  pub run_long : (ops : List PlainOp) (done : List Entry) (s : Store) (es : List Entry) (after : Store) → operations_after core scope done ops s ≡ went es after → length es ≡ length done + length ops
  run_long [] done s es after ran = ap (λ (l : List Entry). length l) (sym (nothing_run core scope done s es after ran).0) ∙ omega arith
  run_long (op ∷ ops) done s es after ran =
      let r = split_run core scope op ops done s es after ran in
      omega (arith, run_long ops (done ++ r.0 ∷ []) r.1 es after r.3, length-append done (r.0 ∷ []))

  -- what a list doesn't change holds what it did
  pub run_leaves : (ops : List PlainOp) (done : List Entry) (s : Store) (es : List Entry) (after : Store) (m : ℕ) → does_change ops m ≡ false → operations_after core scope done ops s ≡ went es after → after m ≡ s m
  run_leaves [] done s es after m h ran = ap (λ (u : Store). u m) (sym (nothing_run core scope done s es after ran).1)
  run_leaves (op ∷ ops) done s es after m h ran =
      let r = split_run core scope op ops done s es after ran in
      let p = neither (changes_memory op.kind && is_of op.mem m) (does_change ops m) h in
      run_leaves ops (done ++ r.0 ∷ []) r.1 es after m p.1 r.3 ∙ op_leaves core scope op done s r.1 r.0 r.2 m p.0
