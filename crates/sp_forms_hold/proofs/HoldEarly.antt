-- Bounds, spans and counts change nothing.
use Rattle.std.proofs.Common.{◌≡◌, ℕ, suc, true, List, [], ◌∷◌, Option, Some, None, refl, sym, ap, ◌∙◌}
use Rattle.std.proofs.lemmas.Bool.{and_parts, false≢true}
use Rattle.std.specs.List.{list_all}
use Rattle.sp_core.specs.declared.operation.OpKind.{OpKind}
use Rattle.sp_core.specs.declared.operation.OpKind.TheVariants.{Word, Count, Live, Read, Write, Enq, Deq, Reset, One, Two, Shift, Mux, Cast}
use Rattle.sp_core.specs.Around.{Around}
use Rattle.sp_core.specs.Events.{Standing, entry_moments, list_moments}
use Rattle.sp_core.specs.History.{Entry, left_out, gave, touched}
use Rattle.sp_core.specs.OperationRules.{is_early_at, is_early, is_word_list, is_bound}
use Rattle.sp_core.specs.Operations.{operations}
use Rattle.sp_core.specs.PlainCore.{PlainOp, PlainCore}
use Rattle.sp_core.specs.Replay.{after_all}
use Rattle.sp_core.specs.Scope.{Scope}
use Rattle.sp_core.specs.Step.{went}
use Rattle.sp_core.specs.Store.{Store}
use Rattle.sp_core.proofs.Replays.{after_append}
use Rattle.sp_core.proofs.ReplayLists.{operations_do}
use Rattle.sp_words.specs.Types.{int_type}

module _ (core : PlainCore) (outside : Around) (st : Standing) where
  entry_leaves : (n : ℕ) (kind : OpKind) (m : Option ℕ) (e : Entry) (s : Store) → is_early_at core outside kind m ≡ true → after_all core (entry_moments n st kind m e) s ≡ s
  entry_leaves n kind m left_out s h = refl
  entry_leaves n kind m (gave w) s h = refl
  entry_leaves n kind None (touched is w) s h = refl
  entry_leaves n Read (Some m) (touched is w) s h = refl
  entry_leaves n Write (Some m) (touched is w) s h = absurd (false≢true h)
  entry_leaves n Enq (Some m) (touched is w) s h = absurd (false≢true h)
  entry_leaves n Deq (Some m) (touched is w) s h = absurd (false≢true h)
  entry_leaves n Reset (Some m) (touched is w) s h = absurd (false≢true h)
  entry_leaves n (Word x) (Some m) (touched is w) s h = refl
  entry_leaves n (Count c lane) (Some m) (touched is w) s h = refl
  entry_leaves n (Live c first last) (Some m) (touched is w) s h = refl
  entry_leaves n (One op) (Some m) (touched is w) s h = refl
  entry_leaves n (Two op) (Some m) (touched is w) s h = refl
  entry_leaves n (Shift left by) (Some m) (touched is w) s h = refl
  entry_leaves n Mux (Some m) (touched is w) s h = refl
  entry_leaves n (Cast to) (Some m) (touched is w) s h = refl

  moments_leave : (n : ℕ) (ops : List PlainOp) (es : List Entry) (s : Store) → list_all (is_early core outside) ops ≡ true → after_all core (list_moments n st ops es) s ≡ s
  moments_leave n [] es s h = refl
  moments_leave n (op ∷ ops) [] s h = refl
  moments_leave n (op ∷ ops) (e ∷ es) s h =
      let a = and_parts (is_early core outside op) (list_all (is_early core outside) ops) h in
      after_append core (entry_moments n st op.kind op.mem e) (list_moments (suc n) st ops es) s
      ∙ ap (after_all core (list_moments (suc n) st ops es)) (entry_leaves n op.kind op.mem e s a.0)
      ∙ moments_leave (suc n) ops es s a.1

  -- a bound leaves the store as it is
  pub bound_leaves : (scope : Scope) (ops : List PlainOp) (s t : Store) (es : List Entry) → is_bound core outside ops ≡ true → operations core scope ops s ≡ went es t → t ≡ s
  bound_leaves scope ops s t es right e =
      let d = operations_do core scope st 0 ops s t es e in
      let early = (and_parts (is_word_list core outside ops int_type) (list_all (is_early core outside) ops) right).1 in
      sym d.3 ∙ ap (λ ms. after_all core ms s) d.1 ∙ moments_leave 0 ops es s early
