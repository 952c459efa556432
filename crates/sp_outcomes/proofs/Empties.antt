-- What isn't a FIFO never holds a queue with words: only operations that put words fill one, and those name FIFOs.
use Rattle.std.proofs.Common.{◌≡◌, ℕ, zero, suc, ◌==◌, Bool, true, false, List, [], ◌∷◌, ◌++◌, drop, Option, Some, None, refl, sym, ◌∙◌, ap, subst, arith}
use Rattle.std.proofs.lemmas.Bool.{eqb-true, eqb-false}
use Rattle.std.specs.Prelude.{ℤ, Contains}
use Rattle.sp_words.specs.declared.kind.Kind.{Kind}
use Rattle.sp_words.specs.declared.kind.Kind.TheVariants.{Reg, Sram, Fifo, LineBuf, Dram, ArgIn, ArgOut}
use Rattle.sp_words.specs.declared.types.Ty.{Ty}
use Rattle.sp_words.specs.Memory.{Contents, fresh_of}
use Rattle.sp_core.specs.declared.operation.OpKind.{OpKind}
use Rattle.sp_core.specs.declared.operation.OpKind.TheVariants.{Word, Count, Live, Read, Write, Enq, Deq, Reset, One, Two, Shift, Mux, Cast}
use Rattle.sp_core.specs.Accesses.{with_word, with_newest, without_oldest, hold_now, written, first_of_queue, inside}
use Rattle.sp_core.specs.Declarations.{mem, kind_of, fresh}
use Rattle.sp_core.specs.History.{Entry}
use Rattle.sp_core.specs.Operations.{is_masked, done_by, operations_after}
use Rattle.sp_core.specs.PlainCore.{PlainOp, PlainCounter, PlainNode, PlainStages, inner, outer, fsm, branch, load, store, sparse, no_stage, more_stage, PlainCore}
use Rattle.sp_core.specs.Scope.{Scope, Reading, is_some_live}
use Rattle.sp_core.specs.Sequential.{has_reset, renew, renew_in_body, bounds, run, run_stages}
use Rattle.sp_core.specs.Step.{Step, went, pure, ◌>>=◌, stop, ensure, look, change, in_order}
use Rattle.sp_core.specs.Store.{Store, hold, queue_of}
use Rattle.sp_sugar.proofs.MemoryLemmas.{changed_here, changed_elsewhere}
use Rattle.sp_sugar.proofs.NumberLemmas.{either}
use Rattle.sp_sugar.proofs.StepLemmas.{not_stopped, same_core_store, core_apart}
use Rattle.sp_same.proofs.Values.{Each}

fresh_empty : (k : Kind) (ds : List ℕ) (start : Option ℕ) → queue_of (Some (fresh_of k ds start [])) ≡ []
fresh_empty Reg ds start = refl
fresh_empty Sram ds start = refl
fresh_empty Fifo ds start = refl
fresh_empty LineBuf ds start = refl
fresh_empty Dram ds start = refl
fresh_empty ArgIn ds start = refl
fresh_empty ArgOut ds start = refl

word_empty : (k : Kind) (ds is : List ℕ) (w : ℕ) (c : Option Contents) → queue_of (Some (with_word k ds is w c)) ≡ []
word_empty Reg ds is w c = refl
word_empty Sram ds is w c = refl
word_empty Fifo ds is w c = refl
word_empty LineBuf ds is w c = refl
word_empty Dram ds is w c = refl
word_empty ArgIn ds is w c = refl
word_empty ArgOut ds is w c = refl

module _ (core : PlainCore) where
  -- a put names a FIFO
  abbrev pub IsPutRight : OpKind → Option ℕ → Type 0
  IsPutRight Enq (Some m) = kind_of core m ≡ Fifo
  IsPutRight _ _ = Unit {0}

  abbrev pub ArePutsRight : List PlainOp → Type 0
  ArePutsRight ops = Each (λ (op : PlainOp). IsPutRight op.kind op.mem) ops

  abbrev pub AreBoundsRight : List PlainCounter → Type 0
  AreBoundsRight cs = Each (λ (c : PlainCounter). ArePutsRight c.from × ArePutsRight c.until) cs

  -- so do those of stages without stages inside
  abbrev pub IsNodeRight : PlainNode → Type 0
  IsNodeRight (inner cs owned ops comb) = AreBoundsRight cs × ArePutsRight ops
  IsNodeRight _ = ⊥

  abbrev pub AreStagesRight : PlainStages → Type 0
  AreStagesRight no_stage = Unit {0}
  AreStagesRight (more_stage first last comb node rest) = IsNodeRight node × AreStagesRight rest

  module _ (x : ℕ) where
    abbrev pub IsEmpty : Store → Type 0
    IsEmpty t = queue_of (t x) ≡ []

    held_empty : (m : ℕ) (c : Contents) (t : Store) → queue_of (Some c) ≡ [] → IsEmpty t → IsEmpty (hold t m c)
    held_empty m c t e h = either (x == m)
        (λ is. ap queue_of (changed_here t m x (Some c) (eqb-true x m is)) ∙ e)
        (λ no. ap queue_of (changed_elsewhere t m x (Some c) (eqb-false x m no)) ∙ h)

    -- a step keeps this
    abbrev pub KeepsEmpty : {A : Type 0} → Step A → Type 0
    KeepsEmpty {A = A} step = (t u : Store) (a : A) → IsEmpty t → step t ≡ went a u → IsEmpty u

    keep_pure : {A : Type 0} (a : A) → KeepsEmpty (pure a)
    unfolding pure
    keep_pure a t u b h e = subst IsEmpty (same_core_store a b t u e) h

    keep_bind : {A B : Type 0} (step : Step A) (rest : A → Step B) → KeepsEmpty step → ((a : A) → KeepsEmpty (rest a)) → KeepsEmpty (step >>= rest)
    keep_bind step rest f g t u b h e = let y = core_apart step rest t b u e in g y.answer y.store u b (f t y.store y.answer h y.first) y.second

    keep_look : {A : Type 0} (look_at : Store → A) → KeepsEmpty (look look_at)
    unfolding look
    keep_look look_at t u a h e = subst IsEmpty (same_core_store (look_at t) a t u e) h

    keep_stop : {A : Type 0} → KeepsEmpty {A = A} stop
    unfolding stop
    keep_stop t u a h e = not_stopped a u e

    keep_ensure : (b : Bool) → KeepsEmpty (ensure b)
    keep_ensure true = keep_pure tt
    keep_ensure false = keep_stop

    keep_change : (next : Store → Store) → ((t : Store) → IsEmpty t → IsEmpty (next t)) → KeepsEmpty (change next)
    unfolding change
    keep_change next f t u a h e = subst IsEmpty (same_core_store tt a (next t) u e) (f t h)

    keep_chosen : {A : Type 0} (y z : Step A) → KeepsEmpty y → KeepsEmpty z → (b : Bool) → KeepsEmpty (elim b as (λ _. Step A) [ true ↦ y | false ↦ z ])
    keep_chosen y z f g true = f
    keep_chosen y z f g false = g

    keep_in_order : {A B : Type 0} (step : A → Step B) (xs : List A) → Each (λ a. KeepsEmpty (step a)) xs → KeepsEmpty (in_order step xs)
    unfolding in_order
    keep_in_order step [] f = keep_pure []
    keep_in_order step (a ∷ xs) f = keep_bind _ _ f.0 (λ first. keep_bind _ _ (keep_in_order step xs f.1) (λ others. keep_pure (first ∷ others)))

    each_of : {A : Type 0} (P : A → Type 0) → ((a : A) → P a) → (xs : List A) → Each P xs
    each_of P f [] = tt
    each_of P f (a ∷ xs) = (f a, each_of P f xs)

    keep_fresh : (m : ℕ) → KeepsEmpty (hold_now m (fresh core m))
    keep_fresh m = keep_change (λ s. hold s m (fresh core m)) (λ t h. held_empty m (fresh core m) t (fresh_empty (mem core m).kind (mem core m).dims (mem core m).start) h)

    -- an operation, if its put names a FIFO
    module _ (other : kind_of core x ≡ Fifo → ⊥) (scope : Scope) where
      keep_inside : (m : ℕ) (indices : List ℕ) → KeepsEmpty (inside core m indices)
      keep_inside m indices = keep_bind _ _ (keep_ensure _) (λ _. keep_pure _)

      keep_written : (o : Option ℕ) → KeepsEmpty (written o)
      keep_written None = keep_stop
      keep_written (Some w) = keep_pure w

      keep_first : (ws : List ℕ) → KeepsEmpty (first_of_queue ws)
      keep_first [] = keep_stop
      keep_first (w ∷ ws) = keep_pure w

      keep_newest : (m w : ℕ) (t : Store) → kind_of core m ≡ Fifo → IsEmpty t → IsEmpty (hold t m (with_newest w (t m)))
      keep_newest m w t is h = ap queue_of (changed_elsewhere t m x (Some (with_newest w (t m))) (λ e. other (ap (kind_of core) e ∙ is))) ∙ h

      keep_oldest : (m : ℕ) (t : Store) → IsEmpty t → IsEmpty (hold t m (without_oldest (t m)))
      keep_oldest m t h = either (x == m)
          (λ e. let is : x ≡ m = eqb-true x m e in ap queue_of (changed_here t m x (Some (without_oldest (t m))) is) ∙ ap (λ k. drop 1 (queue_of (t k))) (sym is) ∙ ap (λ ws. drop 1 ws) h)
          (λ e. ap queue_of (changed_elsewhere t m x (Some (without_oldest (t m))) (eqb-false x m e)) ∙ h)

      keep_done : (k : OpKind) (ty : Ty) (m : Option ℕ) (args : List ℕ) → IsPutRight k m → KeepsEmpty (done_by core scope k ty m args)
      keep_done (Word w) ty m args r = keep_pure _
      keep_done (Count c lane) ty m args r = keep_pure _
      keep_done (Live c first last) ty m args r = keep_pure _
      keep_done (One op) ty m args r = keep_pure _
      keep_done (Two op) ty m args r = keep_pure _
      keep_done (Shift left by) ty m args r = keep_pure _
      keep_done Mux ty m args r = keep_pure _
      keep_done (Cast to) ty m args r = keep_pure _
      keep_done Read ty None args r = keep_stop
      keep_done Read ty (Some m) args r = keep_bind _ _ (keep_inside m _) (λ is. keep_bind _ _ (keep_bind _ _ (keep_look _) (λ found. keep_written found)) (λ w. keep_pure _))
      keep_done Write ty None args r = keep_stop
      keep_done Write ty (Some m) args r = keep_bind _ _ (keep_inside m _) (λ is. keep_bind _ _ (keep_change _ (λ t h. held_empty m _ t (word_empty _ _ _ _ _) h)) (λ _. keep_pure _))
      keep_done Enq ty None args r = keep_stop
      keep_done Enq ty (Some m) args r = keep_bind _ _ (keep_bind _ _ (keep_look _) (λ ws. keep_bind _ _ (keep_ensure _) (λ _. keep_change _ (λ t h. keep_newest m _ t r h)))) (λ _. keep_pure _)
      keep_done Deq ty None args r = keep_stop
      keep_done Deq ty (Some m) args r = keep_bind _ _ (keep_bind _ _ (keep_look _) (λ ws. keep_bind _ _ (keep_first ws) (λ w. keep_bind _ _ (keep_change _ (λ t h. keep_oldest m t h)) (λ _. keep_pure w)))) (λ w. keep_pure _)
      keep_done Reset ty None args r = keep_stop
      keep_done Reset ty (Some m) args r = keep_bind _ _ (keep_fresh m) (λ _. keep_pure _)

      keep_operations : (ops : List PlainOp) (done : List Entry) → ArePutsRight ops → KeepsEmpty (operations_after core scope done ops)
      unfolding operations_after
      keep_operations [] done r = keep_pure done
      keep_operations (op ∷ ops) done r = keep_bind _ _ (keep_chosen _ _ (keep_pure _) (keep_done op.kind op.ty op.mem _ r.0) (is_masked op.mask done)) (λ e. keep_operations ops (done ++ e ∷ []) r.1)

    -- stages without stages inside
    module _ (other : kind_of core x ≡ Fifo → ⊥) (reading : Reading) (most : ℕ) where
      keep_bounds : (scope : Scope) (cs : List PlainCounter) → AreBoundsRight cs → Each (λ c. KeepsEmpty (bounds core reading most scope c)) cs
      keep_bounds scope [] r = tt
      keep_bounds scope (c ∷ cs) r = (keep_bind _ _ (keep_operations other scope c.from [] r.0.0) (λ a. keep_bind _ _ (keep_operations other scope c.until [] r.0.1) (λ b. keep_pure _)), keep_bounds scope cs r.1)

      keep_renewed : (m : ℕ) → KeepsEmpty (renew_in_body core reading most m)
      keep_renewed m = keep_chosen _ _ (keep_pure tt) (keep_fresh m) (has_reset (mem core m).kind (mem core m).start)

      keep_node : (node : PlainNode) (scope : Scope) → IsNodeRight node → KeepsEmpty (run core reading most node scope)
      unfolding run
      keep_node (inner cs owned ops comb) scope r = keep_bind _ _ (keep_in_order _ cs (keep_bounds scope cs r.0)) (λ bs. keep_bind _ _
          (keep_in_order _ _ (each_of _ (λ (values : List ℤ). keep_bind _ _ (keep_in_order _ owned (each_of _ keep_renewed owned)) (λ _. keep_operations other _ ops [] r.1)) _)) (λ groups. keep_pure _))
      keep_node (outer cs style owned stages) scope r = absurd r
      keep_node (fsm start state test body next) scope r = absurd r
      keep_node (branch test first second) scope r = absurd r
      keep_node (load r m spans) scope right = absurd right
      keep_node (store r m spans) scope right = absurd right
      keep_node (sparse kind r m index spans count par) scope right = absurd right

      pub keep_stages : (stages : PlainStages) (live : ℕ → Bool) (scope : Scope) → AreStagesRight stages → KeepsEmpty (run_stages core reading most stages live scope)
      unfolding run_stages
      keep_stages no_stage live scope r = keep_pure _
      keep_stages (more_stage first last comb node rest) live scope r = keep_chosen _ _
          (keep_bind _ _ (keep_node node scope r.0) (λ h. keep_bind _ _ (keep_stages rest live scope r.1) (λ others. keep_pure _)))
          (keep_bind _ _ (keep_stages rest live scope r.1) (λ others. keep_pure _)) (is_some_live live first last)

    -- what was made fresh is empty
    begins_empty : (m : ℕ) (t u : Store) (a : Unit {0}) → m ≡ x → hold_now m (fresh core m) t ≡ went a u → IsEmpty u
    unfolding change
    begins_empty m t u a is e = subst IsEmpty (same_core_store tt a (hold t m (fresh core m)) u e) (ap queue_of (changed_here t m x (Some (fresh core m)) (sym is)) ∙ fresh_empty (mem core m).kind (mem core m).dims (mem core m).start)

    pub renewed_empty : (reading : Reading) (most : ℕ) (owned : List ℕ) (t u : Store) (al : List (Unit {0})) → Contains owned x → in_order (renew core reading most) owned t ≡ went al u → IsEmpty u
    unfolding in_order
    renewed_empty reading most [] t u al c e = absurd (omega (arith, c.1))
    renewed_empty reading most (m ∷ owned) t u al (zero, lt, is) e =
        let y = core_apart (renew core reading most m) (λ first. in_order (renew core reading most) owned >>= (λ others. pure (first ∷ others))) t al u e in
        keep_bind _ _ (keep_in_order (renew core reading most) owned (each_of _ keep_fresh owned)) (λ others. keep_pure (y.answer ∷ others)) y.store u al (begins_empty m t y.store y.answer is y.first) y.second
    renewed_empty reading most (m ∷ owned) t u al (suc j, lt, is) e =
        let y = core_apart (renew core reading most m) (λ first. in_order (renew core reading most) owned >>= (λ others. pure (first ∷ others))) t al u e in
        let z = core_apart (in_order (renew core reading most) owned) (λ others. pure (y.answer ∷ others)) y.store al u y.second in
        keep_pure (y.answer ∷ z.answer) z.store u al (renewed_empty reading most owned y.store z.store z.answer (j, omega (arith, lt), is) z.first) z.second
