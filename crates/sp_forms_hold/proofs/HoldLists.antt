-- Lists of operations, bounds, spans, registers and renewals, as steps.
use Rattle.std.proofs.Common.{◌≡◌, ℕ, ◌+◌, Bool, true, false, List, [], ◌∷◌, ◌++◌, Some, All, refl, sym, ap, ◌∙◌, subst}
use Rattle.std.proofs.lemmas.Bool.{and_parts}
use Rattle.std.proofs.lemmas.List.Elements.{All-nil, All-cons}
use Rattle.std.specs.List.{list_all}
use Rattle.std.specs.Prelude.{length, map, flat_map, nat_lt, nat_le}
use Rattle.sp_words.specs.declared.kind.Style.{Style}
use Rattle.sp_words.specs.declared.kind.Style.TheVariants.{Pipe, Sequential, Parallel, Stream}
use Rattle.sp_words.specs.Memory.{cells}
use Rattle.sp_words.specs.Words.{IsWord}
use Rattle.sp_core.specs.Accesses.{hold_now}
use Rattle.sp_core.specs.Around.{Around}
use Rattle.sp_core.specs.Declarations.{mem, depth}
use Rattle.sp_core.specs.Events.{Standing, Moment, renews, keeps, list_moments, bounds_moments, spans_moments, renewal_in_body}
use Rattle.sp_core.specs.Forms.{hold_in}
use Rattle.sp_core.specs.History.{Entry, Bounds, one, both, last_word}
use Rattle.sp_core.specs.MemoryRules.{are_memories_right}
use Rattle.sp_core.specs.NodeRules.{is_span_right}
use Rattle.sp_core.specs.OperationRules.{are_operations_right, is_word_list, is_bound, is_counter_right}
use Rattle.sp_core.specs.Operations.{operations}
use Rattle.sp_core.specs.PlainCore.{PlainOp, PlainCounter, PlainSpan, single, range, PlainCore}
use Rattle.sp_core.specs.Replay.{after_moment, after_all}
use Rattle.sp_core.specs.Scope.{Reading, Scope, loops_of, group_values, in_group}
use Rattle.sp_core.specs.Sequential.{has_reset, renew, renew_in_body, holds_depth, end_of_group, bounds, taken, state_now}
use Rattle.sp_core.specs.Step.{Step, pure, in_order}
use Rattle.sp_core.specs.Store.{Store}
use Rattle.sp_core.proofs.Replays.{change_does}
use Rattle.sp_core.proofs.ReplayLists.{both_known, operations_do, all_renewed, all_renewed_in_body, group_ends}
use Rattle.sp_fitting.specs.Fitting.{type_at, IsCell, EntriesFit}
use Rattle.sp_fitting.specs.Laws.{ListsFit}
use Rattle.sp_fitting.proofs.Contents.{type_of_mem, fresh_fits}
use Rattle.sp_fitting.proofs.Keeping.{Keeps, Anything, pure_keeps, weaker_keeps, then_keeps, ensure_keeps, look_keeps, each_keeps, hold_keeps}
use Rattle.sp_fitting.proofs.Lists.{last_fits}
use Rattle.sp_fitting.proofs.Rules.{word_list_right, bound_right, counter_right}
use Rattle.sp_patterns.specs.Ranges.{PlainAround, inside}
use Rattle.sp_forms_hold.specs.RunsLaws.{IsPlaced, AreEntered, ListsHold}
use Rattle.sp_forms_hold.specs.RunsStanding.{ListStands, BoundsStand, SpansStand, PartsStand}
use Rattle.sp_forms_hold.specs.HoldLaws.{SlicesHold, CountsHold}
use Rattle.sp_forms_hold.proofs.HoldHolding.{forms, both_hold, Holds, bind_holds, pure_holds, weaker_holds, known_holds, after_given, after_known, then_answer}

-- what is known of a core
pub record Known (core : PlainCore) : Type 0 where
  pub memories : are_memories_right core ≡ true
  pub lists_fit : ListsFit core
  pub lists_hold : ListsHold core
  pub slices_hold : SlicesHold core
  pub counts_hold : CountsHold core
  pub entered : AreEntered core
  pub parts : PartsStand core

module _ (core : PlainCore) (known : Known core) where
  module _ (outside : Around) (around : PlainAround) (scope : Scope) (st : Standing) (placed : IsPlaced scope around st.counters) where
    -- a list, with words of its operations' types
    list_gives : (n : ℕ) (ops : List PlainOp) → are_operations_right core outside ops ≡ true → ListStands core n around ops → Holds core (λ es ms. (ms ≡ list_moments n st ops es) × EntriesFit ops es) (operations core scope ops)
    list_gives n ops right stands s t es fits e =
        let d = operations_do core scope st n ops s t es e in
        let l = known.lists_fit outside scope ops s t es known.memories right fits e in (
          list_moments n st ops es,
          (refl, l.entries),
          record {
            hold = known.lists_hold outside around scope n st ops s t es known.memories right stands placed fits e;
            after = ap (λ ms. after_all core ms s) (sym d.1) ∙ d.3;
            fits = l.left;
          },
        )

    pub list_holds : (n : ℕ) (ops : List PlainOp) → are_operations_right core outside ops ≡ true → ListStands core n around ops → Holds core (λ es ms. ms ≡ list_moments n st ops es) (operations core scope ops)
    list_holds n ops right stands = weaker_holds core _ _ _ (λ es ms p. p.0) (list_gives n ops right stands)

    module _ (reading : Reading) (most : ℕ) where
      bounds_hold : (n : ℕ) (c : PlainCounter) → is_counter_right core outside c ≡ true → ListStands core n around c.from → ListStands core (n + length c.from) around c.until
          → Holds core (λ b ms. ms ≡ list_moments n st c.from b.from ++ list_moments (n + length c.from) st c.until b.until) (bounds core reading most scope c)
      bounds_hold n c right first second =
          let r = counter_right core outside c right in
          after_known core _ _ (λ a. list_moments n st c.from a) _ (list_holds n c.from r.0 first) (λ a.
          then_answer core _ _ _ _ (list_holds (n + length c.from) c.until r.1 second) (λ b ms e. ap (λ x. list_moments n st c.from a ++ x) e))

      all_bounds_hold : (n : ℕ) (counters : List PlainCounter) → list_all (is_counter_right core outside) counters ≡ true → BoundsStand core n around counters → Holds core (λ bs ms. ms ≡ bounds_moments n st counters bs) (in_order (bounds core reading most scope) counters)
      unfolding in_order
      all_bounds_hold n [] right stands = pure_holds core _ _ refl
      all_bounds_hold n (c ∷ counters) right stands =
          let r = and_parts (is_counter_right core outside c) (list_all (is_counter_right core outside) counters) right in
          let p = known.parts.bounds n around c counters stands in
          after_known core _ _ (λ b. list_moments n st c.from b.from ++ list_moments (n + length c.from) st c.until b.until) _ (bounds_hold n c r.0 p.0.0 p.0.1) (λ b.
          then_answer core _ _ _ _ (all_bounds_hold (n + (length c.from + length c.until)) counters r.1 p.1) (λ bs ms e. ap (λ x. (list_moments n st c.from b.from ++ list_moments (n + length c.from) st c.until b.until) ++ x) e))

      -- in each group the counters are placed
      abbrev pub Entered : List PlainCounter → List Bounds → Type 0
      Entered counters bs = All (λ values. IsPlaced (in_group scope (loops_of reading counters bs) values) (inside core.mems around counters) (st.counters ++ values)) (group_values (loops_of reading counters bs))

      pub controller_holds : (n : ℕ) (counters : List PlainCounter) → list_all (is_counter_right core outside) counters ≡ true → BoundsStand core n around counters
          → Holds core (λ bs ms. (ms ≡ bounds_moments n st counters bs) × Entered counters bs) (in_order (bounds core reading most scope) counters)
      controller_holds n counters right stands s t bs fits e =
          let d = all_bounds_hold n counters right stands s t bs fits e in
          (d.0, (d.1, known.entered reading most outside around scope st.counters counters s t bs known.memories right fits placed e), d.2)

      pub spans_hold : (n : ℕ) (spans : List PlainSpan) → list_all (is_span_right core outside) spans ≡ true → SpansStand core n around spans → Holds core (λ ts ms. ms ≡ spans_moments n st spans ts) (in_order (taken core reading most scope) spans)
      unfolding in_order
      spans_hold n [] right stands = pure_holds core _ _ refl
      spans_hold n (single ops ∷ spans) right stands =
          let r = and_parts (is_span_right core outside (single ops)) (list_all (is_span_right core outside) spans) right in
          let p = known.parts.single_span n around ops spans stands in
          bind_holds core _ _ (λ t ms. (es : List Entry) × (t ≡ one es) × (ms ≡ list_moments n st ops es)) _ (then_answer core _ _ _ _ (list_holds n ops (bound_right core outside ops r.0) p.0) (λ es ms e. (es, refl, e)))
          (λ t ms q. then_answer core _ _ _ _ (spans_hold (n + length ops) spans r.1 p.1) (λ ts ns e. subst (λ x. ms ++ ns ≡ spans_moments n st (single ops ∷ spans) (x ∷ ts)) (sym q.1) (both_known q.2 e)))
      spans_hold n (range a b ∷ spans) right stands =
          let r = and_parts (is_span_right core outside (range a b)) (list_all (is_span_right core outside) spans) right in
          let q = and_parts (is_bound core outside a) (is_bound core outside b) r.0 in
          let p = known.parts.range_span n around a b spans stands in
          bind_holds core _ _ (λ t ms. (es fs : List Entry) × (t ≡ both es fs) × (ms ≡ list_moments n st a es ++ list_moments (n + length a) st b fs)) _
          (after_known core _ _ (λ es. list_moments n st a es) _ (list_holds n a (bound_right core outside a q.0) p.0.0) (λ es. then_answer core _ _ _ _ (list_holds (n + length a) b (bound_right core outside b q.1) p.0.1) (λ fs ms e. (es, fs, refl, ap (λ x. list_moments n st a es ++ x) e))))
          (λ t ms g. then_answer core _ _ _ _ (spans_hold (n + (length a + length b)) spans r.1 p.1) (λ ts ns e. subst (λ x. ms ++ ns ≡ spans_moments n st (range a b ∷ spans) (x ∷ ts)) (sym g.2) (both_known g.3 e)))

      -- a register takes the word of a list
      state_holds : (state w : ℕ) → IsWord (type_at core state) w → Holds core (λ _ ms. ms ≡ keeps state w ∷ []) (hold_now state (cells (Some w ∷ [])))
      state_holds state w word =
          known_holds core _ Anything _ (change_does core _ (keeps state w) (λ s. tt) (λ s. refl)) (hold_keeps core state _ (All-cons (IsCell (type_at core state)) (Some w) [] word (All-nil (IsCell (type_at core state)))))
          (λ u ms e s. subst (λ x. hold_in core (forms core) s x ≡ true) (sym e) refl)

      pub state_now_holds : (n state : ℕ) (ops : List PlainOp) → nat_lt state (length core.mems) ≡ true → is_word_list core outside ops (mem core state).ty ≡ true → ListStands core n around ops
          → Holds core (λ es ms. ms ≡ list_moments n st ops es ++ keeps state (last_word es) ∷ []) (state_now core reading most scope state ops)
      state_now_holds n state ops there right stands =
          let r = word_list_right core outside ops (mem core state).ty right in
          after_given core _ _ (λ es. list_moments n st ops es) (EntriesFit ops) _ (list_gives n ops r.0 stands) (λ es fit.
          after_known core _ _ (λ _. keeps state (last_word es) ∷ []) _ (state_holds state (last_word es) (subst (λ ty. IsWord ty (last_word es)) (sym (type_of_mem core state there)) (last_fits ops es (mem core state).ty r.1 fit)))
          (λ u. pure_holds core _ es refl))

  module _ (reading : Reading) (most : ℕ) where
    renew_keeps : (m : ℕ) → Keeps core Anything (renew core reading most m)
    renew_keeps m = hold_keeps core m _ (fresh_fits core m known.memories)

    renew_in_body_keeps : (m : ℕ) → Keeps core Anything (renew_in_body core reading most m)
    renew_in_body_keeps m = go (has_reset (mem core m).kind (mem core m).start)
      where
        go : (b : Bool) → Keeps core Anything (elim b as (λ _. Step (Unit {0})) [ true ↦ pure tt | false ↦ renew core reading most m ])
        go true = pure_keeps core _ tt tt
        go false = renew_keeps m

    renewals_hold : (owned : List ℕ) (s : Store) → hold_in core (forms core) s (map renews owned) ≡ true
    renewals_hold [] s = refl
    renewals_hold (m ∷ owned) s = renewals_hold owned (after_moment core (renews m) s)

    renewal_holds : (m : ℕ) (s : Store) → hold_in core (forms core) s (renewal_in_body core m) ≡ true
    renewal_holds m s = go (has_reset (mem core m).kind (mem core m).start)
      where
        go : (b : Bool) → hold_in core (forms core) s (elim b as (λ _. List Moment) [ true ↦ [] | false ↦ renews m ∷ [] ]) ≡ true
        go true = refl
        go false = refl

    renewals_in_body_hold : (owned : List ℕ) (s : Store) → hold_in core (forms core) s (flat_map (renewal_in_body core) owned) ≡ true
    renewals_in_body_hold [] s = refl
    renewals_in_body_hold (m ∷ owned) s = both_hold core (renewal_in_body core m) (flat_map (renewal_in_body core) owned) s (renewal_holds m s) (renewals_in_body_hold owned (after_all core (renewal_in_body core m) s))

    pub owner_holds : (owned : List ℕ) → Holds core (λ _ ms. ms ≡ map renews owned) (in_order (renew core reading most) owned)
    owner_holds owned = known_holds core _ Anything _ (all_renewed core reading most owned) (weaker_keeps core _ _ _ (λ us h. tt) (each_keeps core _ Anything renew_keeps owned)) (λ us ms e s. subst (λ x. hold_in core (forms core) s x ≡ true) (sym e) (renewals_hold owned s))

    pub body_owner_holds : (owned : List ℕ) → Holds core (λ _ ms. ms ≡ flat_map (renewal_in_body core) owned) (in_order (renew_in_body core reading most) owned)
    body_owner_holds owned =
        known_holds core _ Anything _ (all_renewed_in_body core reading most owned) (weaker_keeps core _ _ _ (λ us h. tt) (each_keeps core _ Anything renew_in_body_keeps owned)) (λ us ms e s. subst (λ x. hold_in core (forms core) s x ≡ true) (sym e) (renewals_in_body_hold owned s))

    depth_keeps : (m : ℕ) → Keeps core Anything (holds_depth core reading most m)
    depth_keeps m = then_keeps core _ _ _ (look_keeps core _ _ (λ s fits. tt)) (λ ws. ensure_keeps core (nat_le (length ws) (depth core m)))

    end_keeps : (style : Style) (owned : List ℕ) → Keeps core Anything (end_of_group core reading most style owned)
    end_keeps Stream owned = weaker_keeps core _ _ _ (λ us h. tt) (each_keeps core _ Anything depth_keeps owned)
    end_keeps Pipe owned = pure_keeps core _ _ tt
    end_keeps Sequential owned = pure_keeps core _ _ tt
    end_keeps Parallel owned = pure_keeps core _ _ tt

    pub end_holds : (style : Style) (owned : List ℕ) → Holds core (λ _ ms. ms ≡ []) (end_of_group core reading most style owned)
    end_holds style owned = known_holds core _ Anything _ (group_ends core reading most style owned) (end_keeps style owned) (λ us ms e s. subst (λ x. hold_in core (forms core) s x ≡ true) (sym e) refl)
