-- The entries of a list that ran, one by one.
use Rattle.std.proofs.Common.{◌≡◌, ℕ, zero, suc, ◌+◌, ◌-◌, ◌<◌, Bool, true, false, List, [], ◌∷◌, ◌++◌, length, map, take, slice_index, slice_index_or, Option, Some, None, refl, sym, ap, subst, ◌∙◌, arith, append_assoc}
use Rattle.std.proofs.lemmas.List.{append-nil}
use Rattle.std.proofs.lemmas.List.Elements.{All-nil}
use Rattle.sp_words.specs.declared.types.Ty.{Ty}
use Rattle.sp_core.specs.declared.operation.OpKind.{OpKind}
use Rattle.sp_core.specs.declared.operation.OpKind.TheVariants.{Word, Count, Live, Read, Write, Enq, Deq, Reset, One, Two, Shift, Mux, Cast}
use Rattle.sp_core.specs.Accesses.{hold_now, read_in, write_in, enqueue, dequeue, inside}
use Rattle.sp_core.specs.Declarations.{fresh}
use Rattle.sp_core.specs.History.{Entry, left_out, gave, touched, word_at}
use Rattle.sp_core.specs.Operations.{is_masked, access_of, done_by, operation, operations_after, operations}
use Rattle.sp_core.specs.PlainCore.{PlainOp, PlainCore}
use Rattle.sp_core.specs.Scope.{Scope}
use Rattle.sp_core.specs.Step.{Step, Went, went, pure, stop}
use Rattle.sp_core.specs.Store.{Store}
use Rattle.sp_hold.proofs.ListSteps.{first_step, at_end}
use Rattle.sp_hold.proofs.Steps.{bound, was_pure, no_stop}
use Rattle.sp_part_runs.proofs.ActsIndices.{went_small}
use Rattle.sp_part_runs.specs.ActsEntries.{touches_memory, computed_word, index_of, touched_at, changes_by_word, word_that_changes, IsTouch, Did, IsOpAt, entry_at, AreEntries}

module _ (core : PlainCore) (scope : Scope) where
  -- the indices of an access that was inside of its memory
  were_inside : (m : ℕ) (ws is : List ℕ) (s t : Store) → inside core m ws s ≡ went is t → is ≡ map index_of ws
  were_inside m ws is s t h =
      let b = bound _ _ s is t h in
      sym (was_pure (map index_of ws) is b.middle t b.later).value

  -- what an operation gave that isn't masked
  pub record Gave (kind : OpKind) (ty : Ty) (ws : List ℕ) (e : Entry) : Type 0 where
    pub computes : touches_memory kind ≡ false → e ≡ gave (computed_word scope kind ty ws)
    pub touches : touches_memory kind ≡ true → IsTouch kind ws e

  computed : (kind : OpKind) (ty : Ty) (ws : List ℕ) (e : Entry) (s t : Store) → touches_memory kind ≡ false → pure (gave (computed_word scope kind ty ws)) s ≡ went e t → Gave kind ty ws e
  computed kind ty ws e s t is h = record {
    computes = λ f. sym (was_pure (gave (computed_word scope kind ty ws)) e s t h).value;
    touches = λ f. absurd (cc);
  }

  was_touch : (kind : OpKind) (ty : Ty) (ws : List ℕ) (e : Entry) → touches_memory kind ≡ true → IsTouch kind ws e → Gave kind ty ws e
  was_touch kind ty ws e is h = record { computes = λ f. absurd (cc); touches = λ f. h }

  read_gave : (ty : Ty) (m : ℕ) (ws : List ℕ) (e : Entry) (s t : Store) → access_of core scope Read (Some m) ws s ≡ went e t → Gave Read ty ws e
  read_gave ty m ws e s t h =
      let a = bound _ _ s e t h in
      let b = bound _ _ a.middle e t a.later in
      was_touch Read ty ws e refl (record {
        word = b.value;
        entry = sym (was_pure (touched a.value b.value) e b.middle t b.later).value ∙ ap (λ is. touched is b.value) (were_inside m ws a.value s a.middle a.first);
        changed = λ f. absurd (cc);
        small = went_small core m ws a.value s a.middle a.first;
      })

  write_gave : (ty : Ty) (m : ℕ) (ws : List ℕ) (e : Entry) (s t : Store) → access_of core scope Write (Some m) ws s ≡ went e t → Gave Write ty ws e
  write_gave ty m ws e s t h =
      let a = bound _ _ s e t h in
      let b = bound _ _ a.middle e t a.later in
      was_touch Write ty ws e refl (record {
        word = slice_index ws (length ws - 1);
        entry = sym (was_pure (touched a.value (slice_index ws (length ws - 1))) e b.middle t b.later).value
            ∙ ap (λ is. touched is (slice_index ws (length ws - 1))) (were_inside m (take (length ws - 1) ws) a.value s a.middle a.first);
        changed = λ f. refl;
        small = went_small core m (take (length ws - 1) ws) a.value s a.middle a.first;
      })

  enq_gave : (ty : Ty) (m : ℕ) (ws : List ℕ) (e : Entry) (s t : Store) → access_of core scope Enq (Some m) ws s ≡ went e t → Gave Enq ty ws e
  enq_gave ty m ws e s t h =
      let a = bound _ _ s e t h in
      was_touch Enq ty ws e refl (record {
        word = slice_index ws 0;
        entry = sym (was_pure (touched [] (slice_index ws 0)) e a.middle t a.later).value;
        changed = λ f. refl;
        small = All-nil _;
      })

  deq_gave : (ty : Ty) (m : ℕ) (ws : List ℕ) (e : Entry) (s t : Store) → access_of core scope Deq (Some m) ws s ≡ went e t → Gave Deq ty ws e
  deq_gave ty m ws e s t h =
      let a = bound _ _ s e t h in
      was_touch Deq ty ws e refl (record {
        word = a.value;
        entry = sym (was_pure (touched [] a.value) e a.middle t a.later).value;
        changed = λ f. absurd (cc);
        small = All-nil _;
      })

  reset_gave : (ty : Ty) (m : ℕ) (ws : List ℕ) (e : Entry) (s t : Store) → access_of core scope Reset (Some m) ws s ≡ went e t → Gave Reset ty ws e
  reset_gave ty m ws e s t h =
      let a = bound _ _ s e t h in
      was_touch Reset ty ws e refl (record {
        word = 0;
        entry = sym (was_pure (touched [] 0) e a.middle t a.later).value;
        changed = λ f. absurd (cc);
        small = All-nil _;
      })

  -- an access that names no memory stops
  some_memory : (kind : OpKind) (ty : Ty) (ws : List ℕ) (e : Entry) (s t : Store) → ((m : ℕ) → access_of core scope kind (Some m) ws s ≡ went e t → Gave kind ty ws e) → (m : Option ℕ) → access_of core scope kind m ws s ≡ went e t → Gave kind ty ws e
  some_memory kind ty ws e s t each None h = no_stop e s t h
  some_memory kind ty ws e s t each (Some m) h = each m h

  was_done : (kind : OpKind) (ty : Ty) (m : Option ℕ) (ws : List ℕ) (e : Entry) (s t : Store) → done_by core scope kind ty m ws s ≡ went e t → Gave kind ty ws e
  was_done (Word w) ty m ws e s t h = computed (Word w) ty ws e s t refl h
  was_done (Count c lane) ty m ws e s t h = computed (Count c lane) ty ws e s t refl h
  was_done (Live c first last) ty m ws e s t h = computed (Live c first last) ty ws e s t refl h
  was_done (One op) ty m ws e s t h = computed (One op) ty ws e s t refl h
  was_done (Two op) ty m ws e s t h = computed (Two op) ty ws e s t refl h
  was_done (Shift left by) ty m ws e s t h = computed (Shift left by) ty ws e s t refl h
  was_done Mux ty m ws e s t h = computed Mux ty ws e s t refl h
  was_done (Cast to) ty m ws e s t h = computed (Cast to) ty ws e s t refl h
  was_done Read ty m ws e s t h = some_memory Read ty ws e s t (λ m g. read_gave ty m ws e s t g) m h
  was_done Write ty m ws e s t h = some_memory Write ty ws e s t (λ m g. write_gave ty m ws e s t g) m h
  was_done Enq ty m ws e s t h = some_memory Enq ty ws e s t (λ m g. enq_gave ty m ws e s t g) m h
  was_done Deq ty m ws e s t h = some_memory Deq ty ws e s t (λ m g. deq_gave ty m ws e s t g) m h
  was_done Reset ty m ws e s t h = some_memory Reset ty ws e s t (λ m g. reset_gave ty m ws e s t g) m h

  did_one : (op : PlainOp) (done : List Entry) (e : Entry) (s t : Store) → operation core scope op done s ≡ went e t → Did scope op done e
  did_one op done e s t h = by_mask (is_masked op.mask done) refl h
    where
      by_mask : (b : Bool) → is_masked op.mask done ≡ b → (elim b as (λ x. Step Entry) [ true ↦ pure left_out | false ↦ done_by core scope op.kind op.ty op.mem (map (word_at done) op.args) ]) s ≡ went e t → Did scope op done e
      by_mask true is g = record { masked = λ f. sym (was_pure left_out e s t g).value; computes = λ f. absurd (cc); touches = λ f. absurd (cc) }
      by_mask false is g =
          let d = was_done op.kind op.ty op.mem (map (word_at done) op.args) e s t g in
          record { masked = λ f. absurd (cc); computes = λ f. d.computes; touches = λ f. d.touches }

  -- the entries that some operations add
  record Added (done : List Entry) (ops : List PlainOp) (es : List Entry) : Type 0 where
    added : List Entry
    all : es ≡ done ++ added
    each : length added ≡ length ops
    did : (k : ℕ) (op : PlainOp) → IsOpAt ops k op → Did scope op (done ++ take k added) (entry_at added k)

  all_added : (ops : List PlainOp) (done : List Entry) (s t : Store) (es : List Entry) → operations_after core scope done ops s ≡ went es t → Added done ops es
  all_added [] done s t es h = record {
    added = [];
    all = sym (at_end core scope done s es t h) ∙ sym (append-nil done);
    each = refl;
    did = λ k op at. let l = at.within in absurd (omega (arith, l));
  }
  all_added (op ∷ ops) done s t es h =
      let f = first_step core scope done op ops s es t h in
      let r = all_added ops (done ++ f.entry ∷ []) f.next t es f.rest in
      record {
        added = f.entry ∷ r.added;
        all = r.all ∙ append_assoc done (f.entry ∷ []) r.added;
        each = ap suc r.each;
        did = one_by_one f.entry r.added (did_one op done f.entry s f.next f.here) r.did;
      }
    where
      one_by_one : (e : Entry) (added : List Entry) → Did scope op done e → ((k : ℕ) (o : PlainOp) → IsOpAt ops k o → Did scope o ((done ++ e ∷ []) ++ take k added) (entry_at added k))
          → (k : ℕ) (o : PlainOp) → IsOpAt (op ∷ ops) k o → Did scope o (done ++ take k (e ∷ added)) (entry_at (e ∷ added) k)
      one_by_one e added first others zero o at = subst (λ x. Did scope o x e) (sym (append-nil done)) (subst (λ x. Did scope x done e) (at.is op) first)
      one_by_one e added first others (suc k) o at =
          subst (λ x. Did scope o x (entry_at added k)) (append_assoc done (e ∷ []) (take k added))
          (others k o (record { within = (let l = at.within in omega (arith, l)); is = at.is }))

  pub entries_done : (ops : List PlainOp) (s t : Store) (es : List Entry) → operations core scope ops s ≡ went es t → AreEntries scope ops es
  entries_done ops s t es h =
      let r = all_added ops [] s t es h in
      record {
        each = ap length r.all ∙ r.each;
        did = λ k op at. subst (λ x. Did scope op (take k x) (entry_at x k)) (sym r.all) (r.did k op at);
      }
