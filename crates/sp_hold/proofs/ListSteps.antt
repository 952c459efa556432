-- A list of operations, one after the other: the first one, those after it, and where its entry stands in the end.
use Rattle.std.proofs.Common.{◌≡◌, ℕ, ◌+◌, suc, ◌<◌, List, [], ◌∷◌, ◌++◌, length, refl, ap, sym, ◌∙◌, arith}
use Rattle.std.specs.Prelude.{slice_index_or}
use Rattle.std.proofs.Math.ListN.{get_or-append}
use Rattle.std.proofs.Math.Seq.{get_or-append_seam}
use Rattle.sp_core.specs.History.{Entry, left_out}
use Rattle.sp_core.specs.Operations.{operation, operations_after}
use Rattle.sp_core.specs.PlainCore.{PlainOp, PlainCore}
use Rattle.sp_core.specs.Scope.{Scope}
use Rattle.sp_core.specs.Step.{Went, went, stopped, more, pure, ◌>>=◌}
use Rattle.sp_core.specs.Store.{Store}

module _ (core : PlainCore) (scope : Scope) where
  -- the first operation of some, and those after it
  pub record First (done : List Entry) (op : PlainOp) (later : List PlainOp) (s : Store) (es : List Entry) (t : Store) : Type 0 where
    pub entry : Entry
    pub next : Store
    pub here : operation core scope op done s ≡ went entry next
    pub rest : operations_after core scope (done ++ entry ∷ []) later next ≡ went es t

  pub first_step : (done : List Entry) (op : PlainOp) (later : List PlainOp) (s : Store) (es : List Entry) (t : Store) → operations_after core scope done (op ∷ later) s ≡ went es t → First done op later s es t
  unfolding operations_after ◌>>=◌
  first_step done op later s es t h = by_step (operation core scope op done s) refl h
    where
      by_step : (r : Went Entry) → operation core scope op done s ≡ r →
          (elim r as (λ x. Went (List Entry)) [ went e u ↦ operations_after core scope (done ++ e ∷ []) later u | stopped ↦ stopped | more ↦ more ]) ≡ went es t → First done op later s es t
      by_step (went e u) is g = record { entry = e; next = u; here = is; rest = g }
      by_step stopped is g = cc
      by_step more is g = cc

  pub at_end : (done : List Entry) (s : Store) (es : List Entry) (t : Store) → operations_after core scope done [] s ≡ went es t → done ≡ es
  unfolding operations_after pure
  at_end done s es t h = cc

  pub end_store : (done : List Entry) (s : Store) (es : List Entry) (t : Store) → operations_after core scope done [] s ≡ went es t → s ≡ t
  unfolding operations_after pure
  end_store done s es t h = cc

  pub longer : (done : List Entry) (e : Entry) → length (done ++ e ∷ []) ≡ suc (length done)
  longer [] e = refl
  longer (d ∷ done) e = ap suc (longer done e)

  pub stays : (later : List PlainOp) (done : List Entry) (s : Store) (es : List Entry) (t : Store) → operations_after core scope done later s ≡ went es t → (k : ℕ) → k < length done → slice_index_or es k left_out ≡ slice_index_or done k left_out
  stays [] done s es t h k less = ap (λ x. slice_index_or x k left_out) (sym (at_end done s es t h))
  stays (op ∷ later) done s es t h k less =
      let f = first_step done op later s es t h in
      let longer_one = longer done f.entry in
      stays later (done ++ f.entry ∷ []) f.next es t f.rest k (omega arith) ∙ get_or-append done (f.entry ∷ []) left_out k less

  -- the entry of the first one
  pub stands : (done : List Entry) (op : PlainOp) (later : List PlainOp) (s : Store) (es : List Entry) (t : Store) (h : operations_after core scope done (op ∷ later) s ≡ went es t) →
      slice_index_or es (length done) left_out ≡ (first_step done op later s es t h).entry
  stands done op later s es t h =
      let f = first_step done op later s es t h in
      let longer_one = longer done f.entry in
      stays later (done ++ f.entry ∷ []) f.next es t f.rest (length done) (omega arith) ∙ get_or-append_seam done f.entry [] left_out

  at_start : (done : List Entry) (s : Store) → operations_after core scope done [] s ≡ went done s
  unfolding operations_after pure
  at_start done s = refl

  after_first : (done : List Entry) (op : PlainOp) (later : List PlainOp) (s : Store) (e : Entry) (u : Store) → operation core scope op done s ≡ went e u → operations_after core scope done (op ∷ later) s ≡ operations_after core scope (done ++ e ∷ []) later u
  unfolding operations_after ◌>>=◌
  after_first done op later s e u h = ap (λ (r : Went Entry). elim r as (λ x. Went (List Entry)) [ went a v ↦ operations_after core scope (done ++ a ∷ []) later v | stopped ↦ stopped | more ↦ more ]) h

  -- an operation after some of a list
  pub record At (before : List PlainOp) (op : PlainOp) (done : List Entry) (begun : Store) (es : List Entry) : Type 0 where
    pub earlier : List Entry
    pub from : Store
    pub entry : Entry
    pub to : Store
    pub here : operation core scope op earlier from ≡ went entry to
    pub reached : operations_after core scope done before begun ≡ went earlier from
    pub place : length earlier ≡ length done + length before
    pub stands_there : slice_index_or es (length earlier) left_out ≡ entry
    pub same : (k : ℕ) → k < length earlier → slice_index_or es k left_out ≡ slice_index_or earlier k left_out

  pub at_place : (before : List PlainOp) (op : PlainOp) (after : List PlainOp) (done : List Entry) (s : Store) (es : List Entry) (t : Store) → operations_after core scope done (before ++ op ∷ after) s ≡ went es t → At before op done s es
  at_place [] op after done s es t h =
      let f = first_step done op after s es t h in
      record { earlier = done; from = s; entry = f.entry; to = f.next; here = f.here; reached = at_start done s; place = omega arith; stands_there = stands done op after s es t h; same = stays (op ∷ after) done s es t h }
  at_place (b ∷ before) op after done s es t h =
      let f = first_step done b (before ++ op ∷ after) s es t h in
      let r = at_place before op after (done ++ f.entry ∷ []) f.next es t f.rest in
      let longer_one = longer done f.entry in
      let placed = r.place in
      record { earlier = r.earlier; from = r.from; entry = r.entry; to = r.to; here = r.here; reached = after_first done b before s f.entry f.next f.here ∙ r.reached; place = omega arith; stands_there = r.stands_there; same = r.same }
