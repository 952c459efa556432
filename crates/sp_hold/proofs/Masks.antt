-- Where an access did something, so did all operations under its mask.
use Rattle.std.proofs.Common.{◌≡◌, ℕ, suc, ◌+◌, ◌<◌, Bool, true, false, ◌&&◌, List, [], ◌∷◌, ◌++◌, length, map, refl, ap, sym, ◌∙◌, subst, arith, zero-add}
use Rattle.std.specs.Prelude.{Option, Some, None, IfSome, slice_index_or, ◌==◌}
use Rattle.std.proofs.lemmas.Bool.Decides.{Decides-eqb, Decides-ltb}
use Rattle.sp_words.specs.declared.types.Ty.{Ty}
use Rattle.sp_core.specs.declared.operation.OpKind.{OpKind}
use Rattle.sp_core.specs.declared.operation.OpKind.TheVariants.{Read, Write, Enq, Deq, Reset}
use Rattle.sp_core.specs.Accesses.{read_in, write_in, inside}
use Rattle.sp_core.specs.History.{Entry, left_out, touched, word_of, word_at}
use Rattle.sp_core.specs.Operations.{is_masked, done_by, operation, operations_after, operations}
use Rattle.sp_core.specs.PlainCore.{PlainOp, PlainCore}
use Rattle.sp_core.specs.Scope.{Scope}
use Rattle.sp_core.specs.Step.{Went, went, pure}
use Rattle.sp_core.specs.Store.{Store}
use Rattle.sp_patterns.specs.Forms.{is_masked_alike}
use Rattle.sp_hold.specs.Values.{ArePassed, did, is_earlier, are_masks_earlier}
use Rattle.sp_hold.proofs.ListSteps.{first_step, longer, stands, stays, at_place}
use Rattle.sp_hold.proofs.Steps.{bound, was_pure, no_stop}

both : (a b : Bool) → (a && b) ≡ true → (a ≡ true) × (b ≡ true)
both true b h = (refl, h)
both false b h = cc

module _ (core : PlainCore) (scope : Scope) where
  did_by : (kind : OpKind) (ty : Ty) (at : Option ℕ) (words : List ℕ) (e : Entry) (s t : Store) → done_by core scope kind ty at words s ≡ went e t → did e ≡ true
  did_by Read ty None words e s t h = no_stop e s t h
  did_by Write ty None words e s t h = no_stop e s t h
  did_by Enq ty None words e s t h = no_stop e s t h
  did_by Deq ty None words e s t h = no_stop e s t h
  did_by Reset ty None words e s t h = no_stop e s t h
  did_by Read ty (Some k) words e s t h =
      let b = bound (inside core k words) _ s e t h in
      let c = bound (read_in core k b.value) _ b.middle e t b.later in
      ap did (sym (was_pure (touched b.value c.value) e c.middle t c.later).value)
  did_by Write ty (Some k) words e s t h =
      let b = bound (inside core k _) _ s e t h in
      let c = bound (write_in core k b.value _) _ b.middle e t b.later in
      ap did (sym (was_pure (touched b.value _) e c.middle t c.later).value)
  did_by Enq ty (Some k) words e s t h = let b = bound _ _ s e t h in ap did (sym (was_pure _ e b.middle t b.later).value)
  did_by Deq ty (Some k) words e s t h = let b = bound _ _ s e t h in ap did (sym (was_pure _ e b.middle t b.later).value)
  did_by Reset ty (Some k) words e s t h = let b = bound _ _ s e t h in ap did (sym (was_pure _ e b.middle t b.later).value)
  did_by kind ty at words e s t h = ap did (sym (was_pure _ e s t h).value)

  -- an operation does something exactly where its mask isn't 0
  operation_did : (op : PlainOp) (done : List Entry) (e : Entry) (u v : Store) → operation core scope op done u ≡ went e v → is_masked op.mask done ≡ false → did e ≡ true
  operation_did op done e u v h clear = by_mask (is_masked op.mask done) h clear
    where
      by_mask : (b : Bool) → (elim b as (λ x. Store → Went Entry) [ true ↦ pure left_out | false ↦ done_by core scope op.kind op.ty op.mem (map (word_at done) op.args) ]) u ≡ went e v → b ≡ false → did e ≡ true
      by_mask true g f = cc
      by_mask false g f = did_by op.kind op.ty op.mem _ e u v g

  no_mask : (op : PlainOp) (done : List Entry) (e : Entry) (u v : Store) → operation core scope op done u ≡ went e v → did e ≡ true → is_masked op.mask done ≡ false
  no_mask op done e u v h d = by_mask (is_masked op.mask done) h
    where
      absent : left_out ≡ e → true ≡ false
      absent same = let not_done : false ≡ true = ap did same ∙ d in cc

      by_mask : (b : Bool) → (elim b as (λ x. Store → Went Entry) [ true ↦ pure left_out | false ↦ done_by core scope op.kind op.ty op.mem (map (word_at done) op.args) ]) u ≡ went e v → b ≡ false
      by_mask true g = absent (was_pure left_out e u v g).value
      by_mask false g = refl

  -- a mask that is clear in the end was clear where it was looked at
  still_clear : (mask o : Option ℕ) (done es : List Entry) → is_masked_alike o mask ≡ true → is_earlier o (length done) ≡ true → IfSome mask (λ m. (word_at es m == 0) ≡ false) →
      ((k : ℕ) → k < length done → slice_index_or es k left_out ≡ slice_index_or done k left_out) → is_masked o done ≡ false
  still_clear mask None done es a e clear same = refl
  still_clear None (Some m) done es a e clear same = cc
  still_clear (Some n) (Some m) done es a e clear same =
      let one = (Decides-eqb m n).0 a in
      ap (λ x. word_of x == 0) (sym (same m ((Decides-ltb m (length done)).0 e))) ∙ ap (λ k. word_at es k == 0) one ∙ clear

  pub passes : (mask : Option ℕ) (later : List PlainOp) (done : List Entry) (u : Store) (es : List Entry) (t : Store) → operations_after core scope done later u ≡ went es t → are_masks_earlier (length done) later ≡ true →
      IfSome mask (λ m. (word_at es m == 0) ≡ false) → ArePassed mask (length done) later es
  passes mask [] done u es t h masks clear = tt
  passes mask (op ∷ later) done u es t h masks clear =
      let f = first_step core scope done op later u es t h in
      let parts = both (is_earlier op.mask (length done)) _ masks in
      let here = stands core scope done op later u es t h in
      let next = longer core scope done f.entry in
      let rest = passes mask later (done ++ f.entry ∷ []) f.next es t f.rest (subst (λ (n : ℕ). are_masks_earlier n later ≡ true) (sym next) parts.1) clear in (
        λ a. ap did here ∙ operation_did op done f.entry u f.next f.here (still_clear mask op.mask done es a parts.0 clear (stays core scope (op ∷ later) done u es t h)),
        subst (λ (n : ℕ). ArePassed mask n later es) next rest,
      )

  earlier_there : (before : List PlainOp) (op : PlainOp) (after : List PlainOp) (k : ℕ) → are_masks_earlier k (before ++ op ∷ after) ≡ true → is_earlier op.mask (k + length before) ≡ true
  earlier_there [] op after k h = ap (is_earlier op.mask) (none_more k) ∙ (both (is_earlier op.mask k) _ h).0
    where
      none_more : (k : ℕ) → k + 0 ≡ k
      none_more k = omega arith
  earlier_there (b ∷ before) op after k h = ap (is_earlier op.mask) (one_more k (length before)) ∙ earlier_there before op after (suc k) (both (is_earlier b.mask k) _ h).1
    where
      one_more : (k n : ℕ) → k + suc n ≡ suc k + n
      one_more k n = omega arith

  pub all_passed : (before : List PlainOp) (op : PlainOp) (after : List PlainOp) (s : Store) (es : List Entry) (t : Store) → operations core scope (before ++ op ∷ after) s ≡ went es t →
      are_masks_earlier 0 (before ++ op ∷ after) ≡ true → did (slice_index_or es (length before) left_out) ≡ true → ArePassed op.mask 0 (before ++ op ∷ after) es
  all_passed before op after s es t h masks d =
      let at = at_place core scope before op after [] s es t h in
      let place : length at.earlier ≡ length before = at.place ∙ zero-add (length before) in
      let did_it = ap did (sym at.stands_there) ∙ ap (λ k. did (slice_index_or es k left_out)) place ∙ d in
      let clear = no_mask op at.earlier at.entry at.from at.to at.here did_it in
      let earlier = ap (is_earlier op.mask) (place ∙ sym (zero-add (length before))) ∙ earlier_there before op after 0 masks in
      passes op.mask (before ++ op ∷ after) [] s es t h masks (in_the_end op.mask at.earlier es clear earlier at.same)
    where
      in_the_end : (o : Option ℕ) (done es : List Entry) → is_masked o done ≡ false → is_earlier o (length done) ≡ true → ((k : ℕ) → k < length done → slice_index_or es k left_out ≡ slice_index_or done k left_out) →
          IfSome o (λ m. (word_at es m == 0) ≡ false)
      in_the_end None done es c e same = tt
      in_the_end (Some m) done es c e same = ap (λ x. word_of x == 0) (same m ((Decides-ltb m (length done)).0 e)) ∙ c
