-- A memory that gives one word as long as a list runs holds what it held when the list began, and a read of it gives that.
use Rattle.std.proofs.Common.{◌≡◌, ℕ, Bool, true, false, not, ◌&&◌, ◌||◌, List, [], ◌∷◌, ◌++◌, length, map, refl, ap, sym, ◌∙◌, subst}
use Rattle.std.specs.Prelude.{Option, Some, None, ◌==◌, if◌then◌else◌}
use Rattle.std.specs.List.{list_all, list_any}
use Rattle.std.proofs.lemmas.Bool.Decides.{Decides-eqb}
use Rattle.sp_words.specs.declared.kind.Kind.{Kind}
use Rattle.sp_words.specs.declared.kind.Kind.TheVariants.{Reg, Sram, Fifo, LineBuf, Dram, ArgIn, ArgOut}
use Rattle.sp_words.specs.declared.types.Ty.{Ty}
use Rattle.sp_words.specs.Memory.{Contents}
use Rattle.sp_core.specs.declared.operation.OpKind.{OpKind}
use Rattle.sp_core.specs.declared.operation.OpKind.TheVariants.{Read, Write, Enq, Deq, Reset}
use Rattle.sp_core.specs.Accesses.{word_in, written, first_of_queue, read_in, write_in, hold_now, inside, read_at, write_at, enqueue, dequeue}
use Rattle.sp_core.specs.Declarations.{mem, kind_of, dims}
use Rattle.sp_core.specs.Elements.{index_value}
use Rattle.sp_core.specs.Forms.{PlainForms, symbol_in, held_word}
use Rattle.sp_core.specs.History.{Entry, left_out, touched, word_of, word_at}
use Rattle.sp_core.specs.OperationRules.{can, is_fifo}
use Rattle.sp_core.specs.Operations.{is_masked, access, done_by, operation, operations_after, operations}
use Rattle.sp_core.specs.PlainCore.{PlainOp, PlainCore}
use Rattle.sp_core.specs.Scope.{Scope}
use Rattle.sp_core.specs.Step.{Went, went, pure}
use Rattle.sp_core.specs.Store.{Store, hold}
use Rattle.sp_patterns.specs.Forms.{is_change, is_memory, changes, is_steady}
use Rattle.sp_hold.specs.Values.{IsRead, AreRead, IsLike, did, is_allowed, is_allowed_at}
use Rattle.sp_hold.proofs.ListSteps.{end_store, first_step, longer, stands}
use Rattle.sp_hold.proofs.Steps.{bound, was_pure, was_looked, was_changed, was_ensured, no_stop}

both : (a b : Bool) → (a && b) ≡ true → (a ≡ true) × (b ≡ true)
both true b h = (refl, h)
both false b h = cc

neither : (a b : Bool) → (a || b) ≡ false → (a ≡ false) × (b ≡ false)
neither true b h = cc
neither false b h = (refl, h)

-- what is held elsewhere stays
elsewhere : (s : Store) (k m : ℕ) (c : Contents) → (m == k) ≡ false → hold s k c m ≡ s m
elsewhere s k m c h = ap (λ b. elim b as (λ x. Option Contents) [ true ↦ Some c | false ↦ s m ]) h

module _ (core : PlainCore) (scope : Scope) where
  inside_keeps : (k : ℕ) (args is : List ℕ) (s t : Store) → inside core k args s ≡ went is t → s ≡ t
  inside_keeps k args is s t h =
      let b = bound _ _ s is t h in
      (was_ensured _ b.value s b.middle b.first).1 ∙ (was_pure _ is b.middle t b.later).store

  -- a word that is written gives itself
  was_written : (found : Option ℕ) (w : ℕ) (s t : Store) → written found s ≡ went w t → (found ≡ Some w) × (s ≡ t)
  was_written None w s t h = no_stop w s t h
  was_written (Some x) w s t h = let p = was_pure x w s t h in (ap Some p.value, p.store)

  record IsReadAt (k : ℕ) (e : Entry) (s t : Store) : Type 0 where
    store : s ≡ t
    indices : List ℕ
    word : ℕ
    is : e ≡ touched indices word
    found : word_in (kind_of core k) (dims core k) indices (s k) ≡ Some word

  read_gives : (k : ℕ) (args : List ℕ) (e : Entry) (s t : Store) → read_at core k args s ≡ went e t → IsReadAt k e s t
  read_gives k args e s t h =
      let b = bound (inside core k args) _ s e t h in
      let c = bound (read_in core k b.value) _ b.middle e t b.later in
      let d = bound _ written b.middle c.value c.middle c.first in
      let l = was_looked _ d.value b.middle d.middle d.first in
      let w = was_written d.value c.value d.middle c.middle d.later in
      let p = was_pure (touched b.value c.value) e c.middle t c.later in
      let entered = inside_keeps k args b.value s b.middle b.first in
      record {
        store = entered ∙ l.store ∙ w.1 ∙ p.store;
        indices = b.value;
        word = c.value;
        is = sym p.value;
        found = ap (λ (u : Store). word_in (kind_of core k) (dims core k) b.value (u k)) entered ∙ l.value ∙ w.0;
      }

  write_keeps : (k : ℕ) (args : List ℕ) (word : ℕ) (e : Entry) (s t : Store) → write_at core k args word s ≡ went e t → (m : ℕ) → (m == k) ≡ false → t m ≡ s m
  write_keeps k args word e s t h m apart =
      let b = bound (inside core k args) _ s e t h in
      let c = bound (write_in core k b.value word) _ b.middle e t b.later in
      let p = was_pure (touched b.value word) e c.middle t c.later in
      let changed = was_changed _ c.value b.middle c.middle c.first in
      ap (λ (u : Store). u m) (sym p.store ∙ sym changed) ∙ elsewhere b.middle k m _ apart ∙ ap (λ (u : Store). u m) (sym (inside_keeps k args b.value s b.middle b.first))

  hold_keeps : (k : ℕ) (contents : Contents) (a : Unit {0}) (s t : Store) → hold_now k contents s ≡ went a t → (m : ℕ) → (m == k) ≡ false → t m ≡ s m
  hold_keeps k contents a s t h m apart = ap (λ (u : Store). u m) (sym (was_changed _ a s t h)) ∙ elsewhere s k m contents apart

  -- an access that changes a memory changes no other one
  enqueue_keeps : (k w : ℕ) (a : Unit {0}) (s t : Store) → enqueue core k w s ≡ went a t → (m : ℕ) → (m == k) ≡ false → t m ≡ s m
  enqueue_keeps k w a s t h m apart =
      let b = bound _ _ s a t h in
      let l = was_looked _ b.value s b.middle b.first in
      let c = bound _ _ b.middle a t b.later in
      let e = was_ensured _ c.value b.middle c.middle c.first in
      let d = was_changed _ a c.middle t c.later in
      ap (λ (u : Store). u m) (sym d) ∙ elsewhere c.middle k m _ apart ∙ ap (λ (u : Store). u m) (sym (l.store ∙ e.1))

  dequeue_keeps : (k w : ℕ) (s t : Store) → dequeue core k s ≡ went w t → (m : ℕ) → (m == k) ≡ false → t m ≡ s m
  dequeue_keeps k w s t h m apart =
      let b = bound _ _ s w t h in
      let l = was_looked _ b.value s b.middle b.first in
      let c = bound (first_of_queue b.value) _ b.middle w t b.later in
      let d = bound _ _ c.middle w t c.later in
      let e = was_changed _ d.value c.middle d.middle d.first in
      let p = was_pure c.value w d.middle t d.later in
      ap (λ (u : Store). u m) (sym p.store ∙ sym e) ∙ elsewhere c.middle k m _ apart ∙ ap (λ (u : Store). u m) (sym (l.store ∙ first_keeps b.value c.value b.middle c.middle c.first))
    where
      first_keeps : (ws : List ℕ) (w : ℕ) (s t : Store) → first_of_queue ws s ≡ went w t → s ≡ t
      first_keeps [] w s t h = no_stop w s t h
      first_keeps (x ∷ ws) w s t h = (was_pure x w s t h).store

  module _ (all : List PlainOp) where
    abbrev steady : ℕ → Bool
    steady m = is_steady (mem core m).kind all m

    -- what an access changes is no memory that gives one word
    written_apart : (kind : Kind) (start : Option ℕ) (op : OpKind) (m : ℕ) → is_change op ≡ true → can op kind start ≡ true → is_steady kind all m ≡ true → (list_any (changes m) all ≡ false → is_change op ≡ false) → ⊥
    written_apart ArgIn start Write m c h k n = cc
    written_apart ArgIn start Reset m c h k n = cc
    written_apart Reg start op m c h k n = let away = n (turned (list_any (changes m) all) k) in cc
      where
        turned : (b : Bool) → not b ≡ true → b ≡ false
        turned true e = cc
        turned false e = refl
    written_apart Sram start op m c h k n = cc
    written_apart Fifo start op m c h k n = cc
    written_apart LineBuf start op m c h k n = cc
    written_apart Dram start op m c h k n = cc
    written_apart ArgOut start op m c h k n = cc
    written_apart ArgIn start op m c h k n = cc

    queue_apart : (kind : Kind) (m : ℕ) → is_fifo kind ≡ true → is_steady kind all m ≡ true → ⊥
    queue_apart Fifo m h k = cc
    queue_apart Reg m h k = cc
    queue_apart Sram m h k = cc
    queue_apart LineBuf m h k = cc
    queue_apart Dram m h k = cc
    queue_apart ArgIn m h k = cc
    queue_apart ArgOut m h k = cc

    other_one : (k m : ℕ) → (m ≡ k → ⊥) → (m == k) ≡ false
    other_one k m h = by_test (m == k) refl
      where
        by_test : (b : Bool) → (m == k) ≡ b → b ≡ false
        by_test true e = absurd (h ((Decides-eqb m k).0 e))
        by_test false e = refl

    module _ (m : ℕ) (is_steady_one : steady m ≡ true) (k : ℕ) where
      changed_apart : (op : OpKind) → is_change op ≡ true → can op (mem core k).kind (mem core k).start ≡ true → (list_any (changes m) all ≡ false → (is_change op && is_memory (Some k) m) ≡ false) → (m == k) ≡ false
      changed_apart op c allowed n = other_one k m (λ same.
          let here = subst (λ (x : ℕ). can op (mem core x).kind (mem core x).start ≡ true) (sym same) allowed in
          written_apart (mem core m).kind (mem core m).start op m c here is_steady_one (λ away. unchanged (is_change op) (k == m) (n away) ((Decides-eqb k m).1 (sym same))))
        where
          unchanged : (a b : Bool) → (a && b) ≡ false → b ≡ true → a ≡ false
          unchanged true b h k = let t : true ≡ false = sym k ∙ h in cc
          unchanged false b h k = refl

      queued_apart : is_fifo (mem core k).kind ≡ true → (m == k) ≡ false
      queued_apart h = other_one k m (λ same. queue_apart (mem core m).kind m (subst (λ (x : ℕ). is_fifo (mem core x).kind ≡ true) (sym same) h) is_steady_one)

      access_keeps : (op : OpKind) (words : List ℕ) (e : Entry) (u v : Store) → access core scope op k words u ≡ went e v → can op (mem core k).kind (mem core k).start ≡ true →
          (list_any (changes m) all ≡ false → (is_change op && is_memory (Some k) m) ≡ false) → v m ≡ u m
      access_keeps Read words e u v h allowed n = ap (λ (x : Store). x m) (sym (read_gives k words e u v h).store)
      access_keeps Write words e u v h allowed n = write_keeps k _ _ e u v h m (changed_apart Write refl allowed n)
      access_keeps Enq words e u v h allowed n =
          let b = bound _ _ u e v h in
          ap (λ (x : Store). x m) (sym (was_pure _ e b.middle v b.later).store) ∙ enqueue_keeps k _ b.value u b.middle b.first m (queued_apart allowed)
      access_keeps Deq words e u v h allowed n =
          let b = bound _ _ u e v h in
          ap (λ (x : Store). x m) (sym (was_pure _ e b.middle v b.later).store) ∙ dequeue_keeps k b.value u b.middle b.first m (queued_apart allowed)
      access_keeps Reset words e u v h allowed n =
          let b = bound _ _ u e v h in
          ap (λ (x : Store). x m) (sym (was_pure _ e b.middle v b.later).store) ∙ hold_keeps k _ b.value u b.middle b.first m (changed_apart Reset refl allowed n)
      access_keeps op words e u v h allowed n = no_stop e u v h

    kind_keeps : (op : OpKind) (ty : Ty) (at : Option ℕ) (words : List ℕ) (e : Entry) (u v : Store) → done_by core scope op ty at words u ≡ went e v → is_allowed_at core op at ≡ true →
        (m : ℕ) → steady m ≡ true → (list_any (changes m) all ≡ false → (is_change op && is_memory at m) ≡ false) → v m ≡ u m
    kind_keeps Read ty None words e u v h allowed m s n = no_stop e u v h
    kind_keeps Write ty None words e u v h allowed m s n = no_stop e u v h
    kind_keeps Enq ty None words e u v h allowed m s n = no_stop e u v h
    kind_keeps Deq ty None words e u v h allowed m s n = no_stop e u v h
    kind_keeps Reset ty None words e u v h allowed m s n = no_stop e u v h
    kind_keeps Read ty (Some k) words e u v h allowed m s n = access_keeps m s k Read words e u v h (both _ _ allowed).1 n
    kind_keeps Write ty (Some k) words e u v h allowed m s n = access_keeps m s k Write words e u v h (both _ _ allowed).1 n
    kind_keeps Enq ty (Some k) words e u v h allowed m s n = access_keeps m s k Enq words e u v h (both _ _ allowed).1 n
    kind_keeps Deq ty (Some k) words e u v h allowed m s n = access_keeps m s k Deq words e u v h (both _ _ allowed).1 n
    kind_keeps Reset ty (Some k) words e u v h allowed m s n = access_keeps m s k Reset words e u v h (both _ _ allowed).1 n
    kind_keeps op ty at words e u v h allowed m s n = ap (λ (x : Store). x m) (sym (was_pure _ e u v h).store)

    -- what an operation does under its mask
    pub unmasked : {P : Type 0} (op : PlainOp) (done : List Entry) (e : Entry) (u v : Store) → operation core scope op done u ≡ went e v →
        (left_out ≡ e → u ≡ v → P) → (done_by core scope op.kind op.ty op.mem (map (word_at done) op.args) u ≡ went e v → P) → P
    unmasked {P} op done e u v h masked passed = by_mask (is_masked op.mask done) h
      where
        by_mask : (b : Bool) → (elim b as (λ x. Store → Went Entry) [ true ↦ pure left_out | false ↦ done_by core scope op.kind op.ty op.mem (map (word_at done) op.args) ]) u ≡ went e v → P
        by_mask true g = let p = was_pure left_out e u v g in masked p.value p.store
        by_mask false g = passed g

    operation_keeps : (op : PlainOp) (done : List Entry) (e : Entry) (u v : Store) → operation core scope op done u ≡ went e v → is_allowed core op ≡ true →
        (m : ℕ) → steady m ≡ true → (list_any (changes m) all ≡ false → changes m op ≡ false) → v m ≡ u m
    operation_keeps op done e u v h allowed m s n =
        unmasked op done e u v h (λ left same. ap (λ (x : Store). x m) (sym same)) (λ g. kind_keeps op.kind op.ty op.mem _ e u v g (both _ _ allowed).0 m s n)

    pub steady_kept : (later : List PlainOp) (done : List Entry) (u : Store) (es : List Entry) (t : Store) → operations_after core scope done later u ≡ went es t → list_all (is_allowed core) later ≡ true →
        ((m : ℕ) → list_any (changes m) all ≡ false → list_any (changes m) later ≡ false) → (m : ℕ) → steady m ≡ true → t m ≡ u m
    steady_kept [] done u es t h allowed part m is = ap (λ (x : Store). x m) (sym (end_store core scope done u es t h))
    steady_kept (op ∷ later) done u es t h allowed part m is =
        let f = first_step core scope done op later u es t h in
        let allow = both (is_allowed core op) _ allowed in
        steady_kept later (done ++ f.entry ∷ []) f.next es t f.rest allow.1 (λ n away. (neither (changes n op) _ (part n away)).1) m is
        ∙ operation_keeps op done f.entry u f.next f.here allow.0 m is (λ away. (neither (changes m op) _ (part m away)).0)

    -- a steady memory gives its word whatever the indices
    same_word : (kind : Kind) (m : ℕ) → is_steady kind all m ≡ true → (ds is : List ℕ) (c : Option Contents) → word_in kind ds is c ≡ word_in kind ds [] c
    same_word Reg m h ds is c = refl
    same_word ArgIn m h ds is c = refl
    same_word Sram m h ds is c = cc
    same_word Fifo m h ds is c = cc
    same_word LineBuf m h ds is c = cc
    same_word Dram m h ds is c = cc
    same_word ArgOut m h ds is c = cc

    module _ (forms : PlainForms) (s : Store) where
      is_read : (op : OpKind) (at : Option ℕ) (ty : Ty) (words : List ℕ) (e : Entry) (u v : Store) → done_by core scope op ty at words u ≡ went e v → is_allowed_at core op at ≡ true →
          ((m : ℕ) → steady m ≡ true → u m ≡ s m) → IsRead core all (symbol_in core forms s) op at e
      is_read Read None ty words e u v h allowed k = tt
      is_read Read (Some m) ty words e u v h allowed k = gives
        where
          gives : is_steady (mem core m).kind all m ≡ true → did e ≡ true → IsLike (word_of e) (symbol_in core forms s m)
          gives is_steady_one did_it =
              let r = read_gives m words e u v h in
              let kind : kind_of core m ≡ (mem core m).kind = ap (λ b. if b then (mem core m).kind else Dram) (both _ _ allowed).0 in
              let first = ap (λ (c : Option Contents). word_in (kind_of core m) (dims core m) r.indices c) (sym (k m is_steady_one)) ∙ r.found in
              let any = ap (λ (x : Kind). word_in x (dims core m) [] (s m)) kind ∙ sym (same_word (mem core m).kind m is_steady_one (dims core m) r.indices (s m)) ∙ ap (λ (x : Kind). word_in x (dims core m) r.indices (s m)) (sym kind) ∙ first in
              let symbol : symbol_in core forms s m ≡ index_value r.word = ap (held_word core forms) any in
              subst (IsLike (word_of e)) (sym symbol) (subst (λ (x : Entry). IsLike (word_of x) (index_value r.word)) (sym r.is) refl)
      is_read op at ty words e u v h allowed k = tt

      masked_read : (op : OpKind) (at : Option ℕ) (e : Entry) → left_out ≡ e → IsRead core all (symbol_in core forms s) op at e
      masked_read Read (Some m) e left = λ (is_steady_one : is_steady (mem core m).kind all m ≡ true) (did_it : did e ≡ true). not_done (ap did left ∙ did_it)
        where
          not_done : {P : Type 0} → false ≡ true → P
          not_done h = cc
      masked_read Read None e left = tt
      masked_read op at e left = tt

      reads_after : (later : List PlainOp) (done : List Entry) (u : Store) (es : List Entry) (t : Store) → operations_after core scope done later u ≡ went es t → list_all (is_allowed core) later ≡ true →
          ((m : ℕ) → list_any (changes m) all ≡ false → list_any (changes m) later ≡ false) → ((m : ℕ) → steady m ≡ true → u m ≡ s m) → AreRead core all (symbol_in core forms s) (length done) later es
      reads_after [] done u es t h allowed part stays = tt
      reads_after (op ∷ later) done u es t h allowed part stays =
          let f = first_step core scope done op later u es t h in
          let allow = both (is_allowed core op) _ allowed in
          let here = stands core scope done op later u es t h in
          let read = unmasked op done f.entry u f.next f.here (λ left same. masked_read op.kind op.mem f.entry left) (λ g. is_read op.kind op.mem op.ty _ f.entry u f.next g (both _ _ allow.0).0 stays) in
          let after = λ (m : ℕ) (is : steady m ≡ true). operation_keeps op done f.entry u f.next f.here allow.0 m is (λ away. (neither (changes m op) _ (part m away)).0) ∙ stays m is in
          let others = λ (m : ℕ) (away : list_any (changes m) all ≡ false). (neither (changes m op) _ (part m away)).1 in (
            subst (λ (x : Entry). IsRead core all (symbol_in core forms s) op.kind op.mem x) (sym here) read,
            subst (λ (n : ℕ). AreRead core all (symbol_in core forms s) n later es) (longer core scope done f.entry) (reads_after later (done ++ f.entry ∷ []) f.next es t f.rest allow.1 others after),
          )

pub are_read : (core : PlainCore) (forms : PlainForms) (scope : Scope) (ops : List PlainOp) (s : Store) (es : List Entry) (t : Store) → list_all (is_allowed core) ops ≡ true → operations core scope ops s ≡ went es t → AreRead core ops (symbol_in core forms s) 0 ops es
are_read core forms scope ops s es t allowed h = reads_after core scope ops forms s ops [] s es t h allowed (λ m away. away) (λ m is. refl)
