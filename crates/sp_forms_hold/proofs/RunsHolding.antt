-- Each access of a list is at its forms, in the store in which it happens.
use Rattle.std.proofs.Common.{◌≡◌, ℕ, suc, ◌+◌, true, ℤ, pos, List, [], ◌∷◌, ◌++◌, length, map, Option, Some, None, refl, sym, ap, ◌∙◌, subst, arith, append_assoc, append-nil, slice_index_or, if◌then◌else◌}
use Rattle.std.proofs.lemmas.Bool.{and_parts, and_from}
use Rattle.std.proofs.lemmas.Int.{ints}
use Rattle.std.proofs.Math.Seq.{get_or-append_seam}
use Rattle.sp_words.specs.Laws.{IsInRange}
use Rattle.sp_words.specs.Types.{int_type}
use Rattle.sp_core.specs.declared.operation.OpKind.{OpKind}
use Rattle.sp_core.specs.declared.operation.OpKind.TheVariants.{Word, Count, Live, Read, Write, Enq, Deq, Reset, One, Two, Shift, Mux, Cast}
use Rattle.sp_core.specs.Around.{Around}
use Rattle.sp_core.specs.Declarations.{mem}
use Rattle.sp_core.specs.Events.{Act, reads, writes, puts, takes, resets, Standing, Event, Moment, act_of, event_of, entry_moments, list_moments}
use Rattle.sp_core.specs.Forms.{PlainForms, symbol_in, are_known_indices, form_at, holds_of_event, holds_of, hold_in}
use Rattle.sp_core.specs.History.{Entry, left_out, gave, touched}
use Rattle.sp_core.specs.MemoryRules.{are_memories_right}
use Rattle.sp_core.specs.Numbered.{plain, accesses, numbered}
use Rattle.sp_core.specs.OperationRules.{is_access, is_operation_right, are_operations_right_after, are_operations_right}
use Rattle.sp_core.specs.Operations.{operation, operations_after, operations}
use Rattle.sp_core.specs.PlainCore.{PlainOp, PlainCore}
use Rattle.sp_core.specs.Replay.{after_moment, after_all}
use Rattle.sp_core.specs.Scope.{Scope}
use Rattle.sp_core.specs.Step.{Went, went, stopped, more, pure, ◌>>=◌}
use Rattle.sp_core.specs.Store.{Store}
use Rattle.sp_core.specs.Typed.{Given, given_type, is_type}
use Rattle.sp_core.proofs.Replays.{after_append, same_value, same_store}
use Rattle.sp_core.proofs.ReplayLists.{operations_do}
use Rattle.sp_fitting.specs.Fitting.{StoreFits}
use Rattle.sp_fitting.specs.Laws.{ListsFit, SymbolsFit}
use Rattle.sp_hold.specs.Laws.{AreFormsIndices}
use Rattle.sp_hold.specs.Values.{IsInt}
use Rattle.sp_hold.proofs.ListSteps.{first_step, at_place}
use Rattle.sp_patterns.specs.Indices.{access_forms}
use Rattle.sp_patterns.specs.Patterns.{patterns_of}
use Rattle.sp_patterns.specs.Ranges.{PlainAround}
use Rattle.sp_forms_hold.specs.RunsLaws.{IsPlaced}
use Rattle.sp_forms_hold.specs.RunsStanding.{ListStands, PartsStand}

-- the front of a list that is right
front_right : (core : PlainCore) (outside : Around) (given : Given) (before after : List PlainOp) → are_operations_right_after core outside given (before ++ after) ≡ true → are_operations_right_after core outside given before ≡ true
front_right core outside given [] after e = refl
front_right core outside given (b ∷ before) after e =
    let a = and_parts (is_operation_right core outside given b) (are_operations_right_after core outside (given ++ given_type b.kind b.ty ∷ []) (before ++ after)) e in
    and_from (is_operation_right core outside given b) (are_operations_right_after core outside (given ++ given_type b.kind b.ty ∷ []) before) a.0 (front_right core outside (given ++ given_type b.kind b.ty ∷ []) before after a.1)

module _ (core : PlainCore) (scope : Scope) where
  -- an operation after some of a list
  one_op : (done : List Entry) (op : PlainOp) (u v : Store) (e : Entry) → operation core scope op done u ≡ went e v → operations_after core scope done (op ∷ []) u ≡ went (done ++ e ∷ []) v
  unfolding operations_after ◌>>=◌ pure
  one_op done op u v e h = ap (λ (r : Went Entry). elim r as (λ x. Went (List Entry)) [ went a w ↦ operations_after core scope (done ++ a ∷ []) [] w | stopped ↦ stopped | more ↦ more ]) h

  past_first : (done : List Entry) (op : PlainOp) (later : List PlainOp) (s : Store) (e : Entry) (u : Store) → operation core scope op done s ≡ went e u → operations_after core scope done (op ∷ later) s ≡ operations_after core scope (done ++ e ∷ []) later u
  unfolding operations_after ◌>>=◌
  past_first done op later s e u h = ap (λ (r : Went Entry). elim r as (λ x. Went (List Entry)) [ went a v ↦ operations_after core scope (done ++ a ∷ []) later v | stopped ↦ stopped | more ↦ more ]) h

  no_op : (begun done : List Entry) (s u : Store) → operations_after core scope begun [] s ≡ went done u → went begun s ≡ went done u
  unfolding operations_after pure
  no_op begun done s u h = h

  nothing_done : (s : Store) → operations core scope [] s ≡ went [] s
  unfolding operations_after pure
  nothing_done s = refl

  reach_more : (before : List PlainOp) (op : PlainOp) (begun done : List Entry) (s u v : Store) (e : Entry) → operations_after core scope begun before s ≡ went done u → operation core scope op done u ≡ went e v
      → operations_after core scope begun (before ++ op ∷ []) s ≡ went (done ++ e ∷ []) v
  reach_more [] op begun done s u v e h k =
      let same = no_op begun done s u h in
      subst (λ d. operations_after core scope d (op ∷ []) s ≡ went (done ++ e ∷ []) v) (sym (same_value begun done s u same))
      (subst (λ x. operations_after core scope done (op ∷ []) x ≡ went (done ++ e ∷ []) v) (sym (same_store begun done s u same)) (one_op done op u v e k))
  reach_more (b ∷ before) op begun done s u v e h k =
      let f = first_step core scope begun b before s done u h in
      past_first begun b (before ++ op ∷ []) s f.entry f.next f.here ∙ reach_more before op (begun ++ f.entry ∷ []) done f.next u v e f.rest k

length_end : (before : List PlainOp) (op : PlainOp) → length (before ++ op ∷ []) ≡ suc (length before)
length_end [] op = refl
length_end (b ∷ before) op = ap suc (length_end before op)

moments_end : (n : ℕ) (st : Standing) (before : List PlainOp) (done : List Entry) (op : PlainOp) (e : Entry) → length done ≡ length before
    → list_moments n st (before ++ op ∷ []) (done ++ e ∷ []) ≡ list_moments n st before done ++ entry_moments (n + length before) st op.kind op.mem e
moments_end n st [] [] op e h = append-nil (entry_moments n st op.kind op.mem e) ∙ ap (λ k. entry_moments k st op.kind op.mem e) (omega arith)
moments_end n st [] (d ∷ done) op e h = absurd (omega (arith, h))
moments_end n st (b ∷ before) [] op e h = absurd (omega (arith, h))
moments_end n st (b ∷ before) (d ∷ done) op e h =
    ap (λ ms. entry_moments n st b.kind b.mem d ++ ms) (moments_end (suc n) st before done op e (omega (arith, h)) ∙ ap (λ k. list_moments (suc n) st before done ++ entry_moments k st op.kind op.mem e) (omega arith))
    ∙ sym (append_assoc (entry_moments n st b.kind b.mem d) (list_moments (suc n) st before done) (entry_moments (n + length (b ∷ before)) st op.kind op.mem e))

is_int : (z : ℤ) → IsInRange int_type z → IsInt z
is_int z h = (h.0, let less = h.1 in omega (arith, ints, less))

module _ (core : PlainCore) where
  abbrev forms : PlainForms
  forms = patterns_of core

  -- what stands after the last of some moments
  after_last : (ms ns : List Moment) (s u v : Store) → after_all core ms s ≡ u → after_all core (ms ++ ns) s ≡ v → after_all core ns u ≡ v
  after_last ms ns s u v h k = ap (after_all core ns) (sym h) ∙ sym (after_append core ms ns s) ∙ k

  both_hold : (ms ns : List Moment) (s : Store) → hold_in core forms s ms ≡ true → hold_in core forms (after_all core ms s) ns ≡ true → hold_in core forms s (ms ++ ns) ≡ true
  both_hold [] ns s h k = k
  both_hold (m ∷ ms) ns s h k =
      let a = and_parts (holds_of core forms m s) (hold_in core forms (after_moment core m s) ms) h in
      and_from (holds_of core forms m s) (hold_in core forms (after_moment core m s) (ms ++ ns)) a.0 (both_hold ms ns (after_moment core m s) a.1 k)

  module _ (st : Standing) where
    abbrev event : (k : ℕ) → ℕ → List ℕ → Act → Event
    event k m is act = record { number = k; standing = st; mem = m; indices = is; act = act }

    -- an event of an access
    event_holds : (k : ℕ) (kind : OpKind) (m : Option ℕ) (is : List ℕ) (w : ℕ) (u : Store) → (is_access kind ≡ true → (memory : ℕ) → m ≡ Some memory → (act : Act) → holds_of_event core forms (numbered core k) (event k memory is act) u ≡ true)
        → hold_in core forms u (event_of k st m is (act_of kind w)) ≡ true
    event_holds k kind None is w u f = refl
    event_holds k Read (Some m) is w u f = and_from _ true (f refl m refl (reads w)) refl
    event_holds k Write (Some m) is w u f = and_from _ true (f refl m refl (writes w)) refl
    event_holds k Enq (Some m) is w u f = and_from _ true (f refl m refl (puts w)) refl
    event_holds k Deq (Some m) is w u f = and_from _ true (f refl m refl (takes w)) refl
    event_holds k Reset (Some m) is w u f = and_from _ true (f refl m refl resets) refl
    event_holds k (Word x) (Some m) is w u f = refl
    event_holds k (Count c lane) (Some m) is w u f = refl
    event_holds k (Live c first last) (Some m) is w u f = refl
    event_holds k (One op) (Some m) is w u f = refl
    event_holds k (Two op) (Some m) is w u f = refl
    event_holds k (Shift left by) (Some m) is w u f = refl
    event_holds k Mux (Some m) is w u f = refl
    event_holds k (Cast to) (Some m) is w u f = refl

    -- by how it is numbered, and its form
    known_holds : (k m : ℕ) (is : List ℕ) (act : Act) (u : Store) (row : Option (List _)) → numbered core k ≡ accesses → form_at core forms k ≡ row → are_known_indices core forms row (map pos is) st.counters (symbol_in core forms u) ≡ true
        → holds_of_event core forms (numbered core k) (event k m is act) u ≡ true
    known_holds k m is act u row e f h =
        subst (λ x. holds_of_event core forms x (event k m is act) u ≡ true) (sym e) (subst (λ r. are_known_indices core forms r (map pos is) st.counters (symbol_in core forms u) ≡ true) (sym f) h)

  module _ (lists : ListsFit core) (symbols : SymbolsFit core) (at_forms : (core : PlainCore) (outside : Around) (around : PlainAround) (before : List PlainOp) (op : PlainOp) (after : List PlainOp) → AreFormsIndices core outside around before op after) (parts : PartsStand core)
      (memories : are_memories_right core ≡ true) (outside : Around) (around : PlainAround) (scope : Scope) (n : ℕ) (st : Standing) (placed : IsPlaced scope around st.counters)
      (ops : List PlainOp) (right : are_operations_right core outside ops ≡ true) (stands : ListStands core n around ops) (s t : Store) (es : List Entry) (fits : StoreFits core s) (all : operations core scope ops s ≡ went es t) where
    -- symbols are numbers of `Int` after some of the operations
    ints_before : (before : List PlainOp) (done : List Entry) (u : Store) → are_operations_right core outside before ≡ true → operations core scope before s ≡ went done u → (m : ℕ) → is_type int_type (mem core m).ty ≡ true → IsInt (symbol_in core forms u m)
    ints_before before done u r e m h = is_int (symbol_in core forms u m) (symbols forms u (lists outside scope before s u done memories r fits e).left m h)

    entry_holds : (before : List PlainOp) (op : PlainOp) (after : List PlainOp) → before ++ op ∷ after ≡ ops → (done : List Entry) (u : Store) (e : Entry) → operations core scope before s ≡ went done u → slice_index_or es (length before) left_out ≡ e
        → hold_in core forms u (entry_moments (n + length before) st op.kind op.mem e) ≡ true
    entry_holds before op after same done u left_out reached there = refl
    entry_holds before op after same done u (gave w) reached there = refl
    entry_holds before op after same done u (touched is w) reached there =
        let right_here = subst (λ x. are_operations_right core outside x ≡ true) (sym same) right in
        let o = parts.operation n around before op after (subst (λ x. ListStands core n around x) (sym same) stands) in
        event_holds st (n + length before) op.kind op.mem is w u (λ access memory names act.
        known_holds st (n + length before) memory is act u (access_forms core.mems around (before ++ op ∷ after) op) (o.number ∙ ap (λ b. if b then accesses else plain) access) (o.form access)
        (at_forms core outside around before op after forms scope st.counters s u t done es memory is w memories right_here names reached
        (subst (λ x. operations core scope x s ≡ went es t) (sym same) all) there placed.in_scope placed.each_range placed.in_ranges
        (ints_before before done u (front_right core outside [] before (op ∷ after) right_here) reached)))

    rest_holds : (before later : List PlainOp) → before ++ later ≡ ops → (done rest : List Entry) (u : Store) → operations core scope before s ≡ went done u → es ≡ done ++ rest → hold_in core forms u (list_moments (n + length before) st later rest) ≡ true
    rest_holds before [] same done rest u reached split = refl
    rest_holds before (op ∷ after) same done [] u reached split = refl
    rest_holds before (op ∷ after) same done (e ∷ rest) u reached split =
        let r = at_place core scope before op after [] s es t (subst (λ x. operations core scope x s ≡ went es t) (sym same) all) in
        let alike : went r.earlier r.from ≡ went done u = sym r.reached ∙ reached in
        let same_done = same_value r.earlier done r.from u alike in
        let same_from = same_store r.earlier done r.from u alike in
        let many : length done ≡ length before = ap length (sym same_done) ∙ r.place ∙ omega arith in
        let there : slice_index_or es (length before) left_out ≡ e = ap (λ x. slice_index_or x (length before) left_out) split ∙ ap (λ k. slice_index_or (done ++ e ∷ rest) k left_out) (sym many) ∙ get_or-append_seam done e rest left_out in
        let entry : r.entry ≡ e = sym r.stands_there ∙ ap (λ k. slice_index_or es k left_out) (ap length same_done ∙ many) ∙ there in
        let step : operation core scope op done u ≡ went e r.to =
        subst (λ d. operation core scope op d u ≡ went e r.to) same_done (subst (λ x. operation core scope op r.earlier x ≡ went e r.to) same_from (r.here ∙ ap (λ x. went x r.to) entry)) in
        let next = reach_more core scope before op [] done s u r.to e reached step in
        let here = operations_do core scope st n before s u done reached in
        let later = operations_do core scope st n (before ++ op ∷ []) s r.to (done ++ e ∷ []) next in
        let moved : after_all core (entry_moments (n + length before) st op.kind op.mem e) u ≡ r.to =
        after_last (list_moments n st before done) (entry_moments (n + length before) st op.kind op.mem e) s u r.to
        (ap (λ ms. after_all core ms s) (sym here.1) ∙ here.3) (ap (λ ms. after_all core ms s) (sym (later.1 ∙ moments_end n st before done op e many)) ∙ later.3) in
        let longer : n + length (before ++ op ∷ []) ≡ suc (n + length before) = omega (arith, length_end before op) in
        both_hold (entry_moments (n + length before) st op.kind op.mem e) (list_moments (suc (n + length before)) st after rest) u (entry_holds before op after same done u e reached there)
        (subst (λ x. hold_in core forms x (list_moments (suc (n + length before)) st after rest) ≡ true) (sym moved)
        (subst (λ k. hold_in core forms r.to (list_moments k st after rest) ≡ true) longer
        (rest_holds (before ++ op ∷ []) after (append_assoc before (op ∷ []) after ∙ same) (done ++ e ∷ []) rest r.to next (split ∙ sym (append_assoc done (e ∷ []) rest)))))

    pub list_holds : hold_in core forms s (list_moments n st ops es) ≡ true
    list_holds = subst (λ k. hold_in core forms s (list_moments k st ops es) ≡ true) (omega arith) (rest_holds [] ops refl [] es s (nothing_done core scope s) refl)
