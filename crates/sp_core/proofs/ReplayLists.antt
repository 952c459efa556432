-- The moments of lists of operations, of bounds and of spans.
use Rattle.std.proofs.Common.{◌≡◌, ℕ, suc, ◌+◌, Bool, true, false, List, [], ◌∷◌, ◌++◌, Option, Some, None, refl, sym, ◌∙◌, ap, subst}
use Rattle.std.specs.Prelude.{length, map, flat_map}
use Rattle.sp_words.specs.declared.kind.Style.{Style}
use Rattle.sp_words.specs.declared.kind.Style.TheVariants.{Pipe, Sequential, Parallel, Stream}
use Rattle.sp_words.specs.declared.types.Ty.{Ty}
use Rattle.sp_core.specs.declared.operation.OpKind.{OpKind}
use Rattle.sp_core.specs.declared.operation.OpKind.TheVariants.{Word, Count, Live, Read, Write, Enq, Deq, Reset, One, Two, Shift, Mux, Cast}
use Rattle.sp_core.specs.Accesses.{inside}
use Rattle.sp_core.specs.Declarations.{mem}
use Rattle.sp_core.specs.Events.{resets, Standing, Moment, renews, keeps, entry_moments, list_moments, bounds_moments, spans_moments, renewal_in_body}
use Rattle.sp_core.specs.History.{Entry, left_out, one, both, last_word, word_at}
use Rattle.sp_core.specs.Operations.{is_masked, access, access_of, done_by, operation, operations_after, operations}
use Rattle.sp_core.specs.PlainCore.{PlainOp, PlainCounter, PlainSpan, single, range, PlainCore}
use Rattle.sp_core.specs.Scope.{Reading, Scope}
use Rattle.sp_core.specs.Sequential.{has_reset, renew, renew_in_body, holds_depth, end_of_group, bounds, taken, state_now}
use Rattle.sp_core.specs.Step.{Step, pure, ◌>>=◌, in_order}
use Rattle.sp_core.proofs.Replays.{Does, bind_does, pure_does, stop_does, weaker_does, Still, ensure_does, look_does, change_does, still_then, then_pure, event, read_does, write_does, enqueue_does, dequeue_does}

pub append_nil : (ms : List Moment) → ms ++ [] ≡ ms
append_nil [] = refl
append_nil (m ∷ ms) = ap (λ x. m ∷ x) (append_nil ms)

-- two lists of moments that are known, one after the other
pub both_known : {a b c d : List Moment} → a ≡ c → b ≡ d → a ++ b ≡ c ++ d
both_known {a = a} {b = b} {c = c} {d = d} e f = ap (λ x. x ++ b) e ∙ ap (λ x. c ++ x) f

module _ (core : PlainCore) where
  -- a step that does what its answer tells, and then one that does what both tell
  pub after_known : {A B : Type 0} (step : Step A) (rest : A → Step B) (f : A → List Moment) (R : B → List Moment → Type 0) → Does core (λ a ms. ms ≡ f a) step → ((a : A) → Does core (λ b ns. R b (f a ++ ns)) (rest a)) → Does core R (step >>= rest)
  after_known step rest f R h k = bind_does core step rest _ R h (λ a ms p. weaker_does core _ _ (rest a) (λ b ns r. subst (λ x. R b (x ++ ns)) (sym p) r) (k a))

  module _ (scope : Scope) (st : Standing) where
    inside_does : (m : ℕ) (indices : List ℕ) → Does core (Still core) (inside core m indices)
    inside_does m indices = still_then core _ _ _ (ensure_does core _) (λ _. pure_does core _ _ refl)

    access_does : (n : ℕ) (kind : OpKind) (m : ℕ) (args : List ℕ) → Does core (λ e ms. ms ≡ entry_moments n st kind (Some m) e) (access core scope kind m args)
    access_does n Read m args = still_then core _ _ _ (inside_does m args) (λ at. then_pure core _ _ _ _ (read_does core n st m at) (λ w ms e. e))
    access_does n Write m args = still_then core _ _ _ (inside_does m _) (λ at. then_pure core _ _ _ _ (write_does core n st m at _) (λ w ms e. e))
    access_does n Enq m args = then_pure core _ _ _ _ (enqueue_does core n st m _) (λ w ms e. e)
    access_does n Deq m args = then_pure core _ _ _ _ (dequeue_does core n st m) (λ w ms e. e)
    access_does n Reset m args = then_pure core _ _ _ _ (change_does core _ (event core n st m [] resets) (λ s. tt) (λ s. refl)) (λ w ms e. e)
    access_does n (Word w) m args = stop_does core _
    access_does n (Count c lane) m args = stop_does core _
    access_does n (Live c first last) m args = stop_does core _
    access_does n (One op) m args = stop_does core _
    access_does n (Two op) m args = stop_does core _
    access_does n (Shift left by) m args = stop_does core _
    access_does n Mux m args = stop_does core _
    access_does n (Cast to) m args = stop_does core _

    access_of_does : (n : ℕ) (kind : OpKind) (m : Option ℕ) (args : List ℕ) → Does core (λ e ms. ms ≡ entry_moments n st kind m e) (access_of core scope kind m args)
    access_of_does n kind None args = stop_does core _
    access_of_does n kind (Some m) args = access_does n kind m args

    done_by_does : (n : ℕ) (kind : OpKind) (ty : Ty) (m : Option ℕ) (args : List ℕ) → Does core (λ e ms. ms ≡ entry_moments n st kind m e) (done_by core scope kind ty m args)
    done_by_does n (Word w) ty m args = pure_does core _ _ refl
    done_by_does n (Count c lane) ty m args = pure_does core _ _ refl
    done_by_does n (Live c first last) ty m args = pure_does core _ _ refl
    done_by_does n (One op) ty m args = pure_does core _ _ refl
    done_by_does n (Two op) ty m args = pure_does core _ _ refl
    done_by_does n (Shift left by) ty m args = pure_does core _ _ refl
    done_by_does n Mux ty m args = pure_does core _ _ refl
    done_by_does n (Cast to) ty m args = pure_does core _ _ refl
    done_by_does n Read ty m args = access_of_does n Read m args
    done_by_does n Write ty m args = access_of_does n Write m args
    done_by_does n Enq ty m args = access_of_does n Enq m args
    done_by_does n Deq ty m args = access_of_does n Deq m args
    done_by_does n Reset ty m args = access_of_does n Reset m args

    operation_does : (n : ℕ) (op : PlainOp) (done : List Entry) → Does core (λ e ms. ms ≡ entry_moments n st op.kind op.mem e) (operation core scope op done)
    operation_does n op done = go (is_masked op.mask done)
      where
        go : (b : Bool) → Does core (λ e ms. ms ≡ entry_moments n st op.kind op.mem e) (elim b [ true ↦ pure left_out | false ↦ done_by core scope op.kind op.ty op.mem (map (word_at done) op.args) ])
        go true = pure_does core _ _ refl
        go false = done_by_does n op.kind op.ty op.mem _

    append_one : (done rest : List Entry) (e : Entry) → (done ++ e ∷ []) ++ rest ≡ done ++ e ∷ rest
    append_one [] rest e = refl
    append_one (d ∷ done) rest e = ap (λ x. d ∷ x) (append_one done rest e)

    operations_after_does : (n : ℕ) (done : List Entry) (ops : List PlainOp) → Does core (λ es ms. (rest : List Entry) × (es ≡ done ++ rest) × (ms ≡ list_moments n st ops rest)) (operations_after core scope done ops)
    unfolding operations_after
    operations_after_does n done [] = pure_does core _ _ ([], sym (entries_nil done), refl)
      where
        entries_nil : (es : List Entry) → es ++ [] ≡ es
        entries_nil [] = refl
        entries_nil (e ∷ es) = ap (λ x. e ∷ x) (entries_nil es)
    operations_after_does n done (op ∷ ops) = bind_does core _ _ _ _ (operation_does n op done) (λ e ms p. weaker_does core _ _ _ (λ es ns r. (e ∷ r.0, r.1 ∙ append_one done r.0 e, both_known p r.2)) (operations_after_does (suc n) (done ++ e ∷ []) ops))

    pub operations_do : (n : ℕ) (ops : List PlainOp) → Does core (λ es ms. ms ≡ list_moments n st ops es) (operations core scope ops)
    operations_do n ops = weaker_does core _ _ _ (λ es ms r. r.2 ∙ ap (list_moments n st ops) (sym r.1)) (operations_after_does n [] ops)

    module _ (reading : Reading) (most : ℕ) where
      bounds_does : (n : ℕ) (c : PlainCounter) → Does core (λ b ms. ms ≡ list_moments n st c.from b.from ++ list_moments (n + length c.from) st c.until b.until) (bounds core reading most scope c)
      bounds_does n c = after_known _ _ _ _ (operations_do n c.from) (λ a. then_pure core _ _ _ _ (operations_do (n + length c.from) c.until) (λ b ms e. ap (λ x. list_moments n st c.from a ++ x) e))

      pub all_bounds_do : (n : ℕ) (counters : List PlainCounter) → Does core (λ bs ms. ms ≡ bounds_moments n st counters bs) (in_order (bounds core reading most scope) counters)
      unfolding in_order
      all_bounds_do n [] = pure_does core _ _ refl
      all_bounds_do n (c ∷ counters) = after_known _ _ _ _ (bounds_does n c) (λ b. then_pure core _ _ _ _ (all_bounds_do (n + (length c.from + length c.until)) counters) (λ bs ms e. ap (λ x. (list_moments n st c.from b.from ++ list_moments (n + length c.from) st c.until b.until) ++ x) e))

      pub all_taken_do : (n : ℕ) (spans : List PlainSpan) → Does core (λ ts ms. ms ≡ spans_moments n st spans ts) (in_order (taken core reading most scope) spans)
      unfolding in_order
      all_taken_do n [] = pure_does core _ _ refl
      all_taken_do n (single ops ∷ spans) =
          bind_does core _ _ (λ t ms. (es : List Entry) × (t ≡ one es) × (ms ≡ list_moments n st ops es)) _ (then_pure core _ _ _ _ (operations_do n ops) (λ es ms e. (es, refl, e)))
          (λ t ms p. then_pure core _ _ _ _ (all_taken_do (n + length ops) spans) (λ ts ns e. subst (λ x. ms ++ ns ≡ spans_moments n st (single ops ∷ spans) (x ∷ ts)) (sym p.1) (both_known p.2 e)))
      all_taken_do n (range a b ∷ spans) =
          bind_does core _ _ (λ t ms. (es fs : List Entry) × (t ≡ both es fs) × (ms ≡ list_moments n st a es ++ list_moments (n + length a) st b fs)) _
          (after_known _ _ _ _ (operations_do n a) (λ es. then_pure core _ _ _ _ (operations_do (n + length a) b) (λ fs ms e. (es, fs, refl, ap (λ x. list_moments n st a es ++ x) e))))
          (λ t ms p. then_pure core _ _ _ _ (all_taken_do (n + (length a + length b)) spans) (λ ts ns e. subst (λ x. ms ++ ns ≡ spans_moments n st (range a b ∷ spans) (x ∷ ts)) (sym p.2) (both_known p.3 e)))

      pub state_does : (n state : ℕ) (ops : List PlainOp) → Does core (λ es ms. ms ≡ list_moments n st ops es ++ keeps state (last_word es) ∷ []) (state_now core reading most scope state ops)
      state_does n state ops = after_known _ _ _ _ (operations_do n ops) (λ es. then_pure core _ _ _ _ (change_does core _ (keeps state (last_word es)) (λ s. tt) (λ s. refl)) (λ _ ms e. ap (λ x. list_moments n st ops es ++ x) e))

  module _ (reading : Reading) (most : ℕ) where
    renew_does : (m : ℕ) → Does core (λ _ ms. ms ≡ renews m ∷ []) (renew core reading most m)
    renew_does m = change_does core _ (renews m) (λ s. tt) (λ s. refl)

    pub all_renewed : (owned : List ℕ) → Does core (λ _ ms. ms ≡ map renews owned) (in_order (renew core reading most) owned)
    unfolding in_order
    all_renewed [] = pure_does core _ _ refl
    all_renewed (m ∷ owned) = after_known _ _ (λ _. renews m ∷ []) _ (renew_does m) (λ _. then_pure core _ _ _ _ (all_renewed owned) (λ _ ms e. ap (λ x. renews m ∷ x) e))

    renew_in_body_does : (m : ℕ) → Does core (λ _ ms. ms ≡ renewal_in_body core m) (renew_in_body core reading most m)
    renew_in_body_does m = go (has_reset (mem core m).kind (mem core m).start)
      where
        go : (b : Bool) → Does core (λ _ ms. ms ≡ elim b as (λ _. List Moment) [ true ↦ [] | false ↦ renews m ∷ [] ]) (elim b [ true ↦ pure tt | false ↦ renew core reading most m ])
        go true = pure_does core _ _ refl
        go false = renew_does m

    pub all_renewed_in_body : (owned : List ℕ) → Does core (λ _ ms. ms ≡ flat_map (renewal_in_body core) owned) (in_order (renew_in_body core reading most) owned)
    unfolding in_order
    all_renewed_in_body [] = pure_does core _ _ refl
    all_renewed_in_body (m ∷ owned) = after_known _ _ (λ _. renewal_in_body core m) _ (renew_in_body_does m) (λ _. then_pure core _ _ _ _ (all_renewed_in_body owned) (λ _ ms e. ap (λ x. renewal_in_body core m ++ x) e))

    depths_hold : (owned : List ℕ) → Does core (Still core) (in_order (holds_depth core reading most) owned)
    unfolding in_order
    depths_hold [] = pure_does core _ _ refl
    depths_hold (m ∷ owned) = still_then core _ _ _ (still_then core _ _ _ (look_does core _) (λ ws. ensure_does core _)) (λ _. then_pure core _ _ _ _ (depths_hold owned) (λ _ ms e. e))

    pub group_ends : (style : Style) (owned : List ℕ) → Does core (Still core) (end_of_group core reading most style owned)
    group_ends Stream owned = depths_hold owned
    group_ends Pipe owned = pure_does core _ _ refl
    group_ends Sequential owned = pure_does core _ _ refl
    group_ends Parallel owned = pure_does core _ _ refl
