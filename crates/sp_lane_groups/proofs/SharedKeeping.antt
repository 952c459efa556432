-- What an operation leaves as it was, and the word that it gives whatever its memory holds.
use Rattle.std.proofs.Common.{◌≡◌, ℕ, ◌-◌, Bool, true, false, ◌&&◌, List, [], length, map, take, Option, None, Some, refl, sym, ◌∙◌, ap, subst, ◌==◌}
use Rattle.std.proofs.lemmas.Bool.{true≢false, eq-eqb}
use Rattle.std.specs.Prelude.{slice_index}
use Rattle.sp_words.specs.declared.types.Ty.{Ty}
use Rattle.sp_core.specs.declared.operation.OpKind.{OpKind}
use Rattle.sp_core.specs.declared.operation.OpKind.TheVariants.{Word, Count, Live, Read, Write, Enq, Deq, Reset, One, Two, Shift, Mux, Cast}
use Rattle.sp_core.specs.Accesses as accesses
use Rattle.sp_core.specs.Accesses.{hold_now, write_in, enqueue}
use Rattle.sp_core.specs.Declarations.{fresh}
use Rattle.sp_core.specs.History.{Entry, left_out, touched, word_of, word_at}
use Rattle.sp_core.specs.Operations.{is_masked, access, done_by, operation}
use Rattle.sp_core.specs.PlainCore.{PlainOp, PlainCore}
use Rattle.sp_core.specs.Scope.{Scope}
use Rattle.sp_core.specs.Step.{Step, Went, went, stopped, more, pure, ◌>>=◌, stop}
use Rattle.sp_core.specs.Store.{Store}
use Rattle.sp_lanes.specs.Shared.{changes_memory, is_of}
use Rattle.sp_lane_groups.proofs.LiveAccesses.{Same, access_along}
use Rattle.sp_lane_groups.proofs.LiveAlong.{did_go, answer_of}
use Rattle.sp_lane_groups.proofs.LiveLane.{Stays, pure_stays, stop_stays, done_stays}

pub same_here : (core : PlainCore) (m : ℕ) → Same core core m m
same_here core m = record { kinds = refl; sizes = refl; rooms = refl; starts = refl }

-- what a step gives
module _ (P : Entry → Type 0) where
  abbrev pub Gives : Step Entry → Type 0
  Gives step = (s u : Store) (e : Entry) → step s ≡ went e u → P e

  pub pure_gives : (e : Entry) → P e → Gives (pure e)
  unfolding pure
  pure_gives e h s u f i = subst P (ap (answer_of e) i) h

  pub bind_gives : {A : Type 0} (step : Step A) (rest : A → Step Entry) → ((a : A) → Gives (rest a)) → Gives (step >>= rest)
  unfolding ◌>>=◌
  bind_gives {A = A} step rest f s u e i = by (step s) i
    where
      by : (r : Went A) → elim r as (λ _. Went Entry) [ went a v ↦ rest a v | stopped ↦ stopped | more ↦ more ] ≡ went e u → P e
      by (went a v) i = f a v u e i
      by stopped i = absurd (true≢false (sym (ap did_go i)))
      by more i = absurd (true≢false (sym (ap did_go i)))

module _ (core : PlainCore) (scope : Scope) (m : ℕ) where
  -- a write, a word that is put, a reset
  abbrev GivesWord : ℕ → Entry → Type 0
  GivesWord w e = word_of e ≡ w

  pub write_gives : (args : List ℕ) → Gives (GivesWord (slice_index args (length args - 1))) (access core scope Write m args)
  write_gives args =
      let w = slice_index args (length args - 1) in
      bind_gives (GivesWord w) (accesses.inside core m (take (length args - 1) args)) _ (λ is. bind_gives (GivesWord w) (write_in core m is w) _ (λ u. pure_gives (GivesWord w) (touched is w) refl))

  pub put_gives : (args : List ℕ) → Gives (GivesWord (slice_index args 0)) (access core scope Enq m args)
  put_gives args = bind_gives (GivesWord (slice_index args 0)) (enqueue core m (slice_index args 0)) _ (λ u. pure_gives (GivesWord (slice_index args 0)) (touched [] (slice_index args 0)) refl)

  pub reset_gives : (args : List ℕ) → Gives (GivesWord 0) (access core scope Reset m args)
  reset_gives args = bind_gives (GivesWord 0) (hold_now m (fresh core m)) _ (λ u. pure_gives (GivesWord 0) (touched [] 0) refl)

module _ (core : PlainCore) (scope : Scope) where
  -- what an operation doesn't change holds what it did
  abbrev Leaves : OpKind → Option ℕ → Step Entry → Type 0
  Leaves kind mem step = (s u : Store) (e : Entry) → step s ≡ went e u → (m : ℕ) → (changes_memory kind && is_of mem m) ≡ false → u m ≡ s m

  still : (kind : OpKind) (mem : Option ℕ) (step : Step Entry) → Stays core scope step → Leaves kind mem step
  still kind mem step f s u e i m h = ap (λ (v : Store). v m) (sym (f s u e i))

  changes_one : (kind : OpKind) (args : List ℕ) (mem m : ℕ) (s u : Store) (e : Entry) → access core scope kind mem args s ≡ went e u → (mem == m) ≡ false → u m ≡ s m
  changes_one kind args mem m s u e i h = (access_along core core mem mem (same_here core mem) scope scope kind args s s refl e u i).3 m (λ same. true≢false (sym (eq-eqb mem m (sym same)) ∙ h))

  done_leaves : (kind : OpKind) (ty : Ty) (mem : Option ℕ) (args : List ℕ) → Leaves kind mem (done_by core scope kind ty mem args)
  done_leaves Write ty None args = still Write None stop (stop_stays core scope)
  done_leaves Enq ty None args = still Enq None stop (stop_stays core scope)
  done_leaves Deq ty None args = still Deq None stop (stop_stays core scope)
  done_leaves Reset ty None args = still Reset None stop (stop_stays core scope)
  done_leaves Write ty (Some k) args = λ s u e i m h. changes_one Write args k m s u e i h
  done_leaves Enq ty (Some k) args = λ s u e i m h. changes_one Enq args k m s u e i h
  done_leaves Deq ty (Some k) args = λ s u e i m h. changes_one Deq args k m s u e i h
  done_leaves Reset ty (Some k) args = λ s u e i m h. changes_one Reset args k m s u e i h
  done_leaves Read ty mem args = still Read mem (done_by core scope Read ty mem args) (done_stays core scope Read ty mem args refl)
  done_leaves (Word w) ty mem args = still (Word w) mem (done_by core scope (Word w) ty mem args) (pure_stays core scope _)
  done_leaves (Count c l) ty mem args = still (Count c l) mem (done_by core scope (Count c l) ty mem args) (pure_stays core scope _)
  done_leaves (Live c first last) ty mem args = still (Live c first last) mem (done_by core scope (Live c first last) ty mem args) (pure_stays core scope _)
  done_leaves (One op) ty mem args = still (One op) mem (done_by core scope (One op) ty mem args) (pure_stays core scope _)
  done_leaves (Two op) ty mem args = still (Two op) mem (done_by core scope (Two op) ty mem args) (pure_stays core scope _)
  done_leaves (Shift left by) ty mem args = still (Shift left by) mem (done_by core scope (Shift left by) ty mem args) (pure_stays core scope _)
  done_leaves Mux ty mem args = still Mux mem (done_by core scope Mux ty mem args) (pure_stays core scope _)
  done_leaves (Cast to) ty mem args = still (Cast to) mem (done_by core scope (Cast to) ty mem args) (pure_stays core scope _)

  pub op_leaves : (op : PlainOp) (done : List Entry) → Leaves op.kind op.mem (operation core scope op done)
  op_leaves op done = by (is_masked op.mask done)
    where
      by : (b : Bool) → Leaves op.kind op.mem (elim b as (λ _. Step Entry) [ true ↦ pure left_out | false ↦ done_by core scope op.kind op.ty op.mem (map (word_at done) op.args) ])
      by true = still op.kind op.mem (pure left_out) (pure_stays core scope left_out)
      by false = done_leaves op.kind op.ty op.mem (map (word_at done) op.args)
