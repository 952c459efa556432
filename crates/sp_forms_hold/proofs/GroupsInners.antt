-- Each run of an inner body is at its forms, with one word for each symbol in each group.
use Rattle.std.proofs.Common.{◌≡◌, ℕ, zero, suc, ◌+◌, Bool, true, false, ◌&&◌, ℤ, pos, List, [], ◌∷◌, ◌++◌, length, flat_map, Option, All, refl, sym, ap, ◌∙◌, subst, arith, append-nil, slice_index_or}
use Rattle.std.proofs.lemmas.Bool.{and_parts}
use Rattle.std.proofs.lemmas.List.Elements.{All-nil, All-cons, All-head, All-tail, All-append}
use Rattle.std.specs.List.{list_all}
use Rattle.std.specs.Prelude.{◌==◌}
use Rattle.sp_words.specs.declared.kind.Style.{Style}
use Rattle.sp_core.specs.Around.{Around, lanes_of, within}
use Rattle.sp_core.specs.Declarations.{mem}
use Rattle.sp_core.specs.Events.{At, When, before, in_group_of, in_turn, Standing, inside_at, Moment, renews, list_moments, bounds_moments, renewal_in_body, body_moments, moments}
use Rattle.sp_core.specs.Forms.{PlainForms, symbol_in}
use Rattle.sp_core.specs.History.{Entry, Bounds, last_word, History, Runs, Turn, inner_ran, branch_ran, masked_run, more_run, groups_of, turns_of}
use Rattle.sp_core.specs.Invariant.{IsRight, AreRight, owned_in}
use Rattle.sp_core.specs.NodeRules.{are_counters_right, are_lanes_right, with_state}
use Rattle.sp_core.specs.Numbering.{counters_size, node_count, number_count}
use Rattle.sp_core.specs.OperationRules.{are_operations_right, is_bound, is_counter_right}
use Rattle.sp_core.specs.Operations.{operations}
use Rattle.sp_core.specs.PlainCore.{PlainOp, PlainCounter, PlainNode, PlainStages, inner, outer, fsm, branch, load, store, sparse, no_stage, more_stage, PlainCore}
use Rattle.sp_core.specs.Scope.{Reading, Scope, loops_of, counts_of, group_values, is_live, is_some_live, in_group}
use Rattle.sp_core.specs.Sequential.{has_reset, renew, renew_in_body, end_of_group, bounds, state_now, run, run_stages}
use Rattle.sp_core.specs.Step.{Step, went, pure, ◌>>=◌, ◌>>◌, out_of_turns, in_order, repeated}
use Rattle.sp_core.specs.Store.{Store}
use Rattle.sp_fitting.specs.Fitting.{StoreFits}
use Rattle.sp_fitting.proofs.Keeping.{Keeps, Anything, bind_keeps, pure_keeps, no_turn_keeps, then_keeps}
use Rattle.sp_fitting.proofs.Rules.{word_list_right, counter_right, counters_right, machine_right, state_there, here_right}
use Rattle.sp_hold.proofs.Steps.{bound, was_pure}
use Rattle.sp_patterns.specs.Patterns.{patterns_of}
use Rattle.sp_patterns.specs.Ranges.{PlainAround, inside}
use Rattle.sp_forms_hold.specs.RunsLaws.{IsPlaced}
use Rattle.sp_forms_hold.specs.RunsStanding.{ListStands, BoundsStand, NodeStands, StagesStand}
use Rattle.sp_forms_hold.proofs.HoldEarly.{bound_leaves}
use Rattle.sp_forms_hold.proofs.HoldHolding.{Holds}
use Rattle.sp_forms_hold.proofs.HoldLists.{Known, list_holds, Entered, controller_holds, state_now_holds, owner_holds, body_owner_holds, end_holds}
use Rattle.sp_forms_hold.proofs.HoldNodes.{placed_at, run_holds}
use Rattle.sp_forms_hold.specs.GroupsAtForms.{IsAtOwnForms, InnersAtForms, GroupsAtForms, StagesAtForms, TurnsAtForms}
use Rattle.sp_forms_hold.specs.GroupsLaws.{ListsKeepSymbols}

-- symbols by the last controller around: in its groups, and elsewhere
at_when : (elsewhere : ℕ → ℤ) → (groups : ℕ → ℕ → ℤ) → When → ℕ → ℤ
at_when b gs (in_group_of g stage) = gs g
at_when b gs _ = b

by_path : (elsewhere : ℕ → ℤ) → (groups : ℕ → ℕ → ℤ) → List At → ℕ → ℤ
by_path b gs [] = b
by_path b gs (a ∷ []) = at_when b gs a.when
by_path b gs (a ∷ c ∷ path) = by_path b gs (c ∷ path)

last_path : (b : ℕ → ℤ) (gs : ℕ → ℕ → ℤ) (path : List At) (a : At) → by_path b gs (path ++ a ∷ []) ≡ at_when b gs a.when
unfolding by_path
last_path b gs [] a = refl
last_path b gs (x ∷ []) a = refl
last_path b gs (x ∷ y ∷ path) a = last_path b gs (y ∷ path) a

before_path : (b : ℕ → ℤ) (gs : ℕ → ℕ → ℤ) (st : Standing) (k : ℕ) → by_path b gs (inside_at st k before []).path ≡ b
unfolding at_when
before_path b gs st k = last_path b gs st.path (record { node = k; when = before })

group_path : (b : ℕ → ℤ) (gs : ℕ → ℕ → ℤ) (st : Standing) (k g s : ℕ) (v : List ℤ) → by_path b gs (inside_at st k (in_group_of g s) v).path ≡ gs g
unfolding at_when
group_path b gs st k g s v = last_path b gs st.path (record { node = k; when = in_group_of g s })

module _ (core : PlainCore) (known : Known core) (lists_at : ListsKeepSymbols core) (reading : Reading) (most : ℕ) where
  abbrev own : PlainForms
  own = patterns_of core

  abbrev IsAt : (List At → ℕ → ℤ) → Moment → Type 0
  IsAt words = IsAtOwnForms core own words

  fits_of : {A : Type 0} (P : A → List Moment → Type 0) (step : Step A) → Holds core P step → Keeps core Anything step
  fits_of P step h s t a fits e = ((h s t a fits e).2.fits, tt)

  -- the bounds of a controller: they change nothing, so a symbol has one word in all of them
  module _ (outside : Around) (around : PlainAround) (scope : Scope) (st : Standing) (placed : IsPlaced scope around st.counters) where
    record BoundsAt (n : ℕ) (counters : List PlainCounter) (bs : List Bounds) (s t : Store) : Type 0 where
      left : t ≡ s
      at : (words : List At → ℕ → ℤ) → words st.path ≡ symbol_in core own s → All (IsAt words) (bounds_moments n st counters bs)

    list_at : (n : ℕ) (ops : List PlainOp) (s t : Store) (es : List Entry) → are_operations_right core outside ops ≡ true → ListStands core n around ops → StoreFits core s → operations core scope ops s ≡ went es t
        → (words : List At → ℕ → ℤ) → words st.path ≡ symbol_in core own s → All (IsAt words) (list_moments n st ops es)
    list_at n ops s t es right stands fits e words begun = lists_at outside around scope n st ops s t es words known.memories right stands placed fits e begun

    counter_bounds : (c : PlainCounter) → is_counter_right core outside c ≡ true → (is_bound core outside c.from ≡ true) × (is_bound core outside c.until ≡ true)
    counter_bounds c e = and_parts (is_bound core outside c.from) (is_bound core outside c.until) (and_parts (is_bound core outside c.from && is_bound core outside c.until) _ e).0

    all_bounds_at : (n : ℕ) (counters : List PlainCounter) (s t : Store) (bs : List Bounds) → list_all (is_counter_right core outside) counters ≡ true → BoundsStand core n around counters → StoreFits core s → in_order (bounds core reading most scope) counters s ≡ went bs t
        → BoundsAt n counters bs s t
    unfolding in_order
    all_bounds_at n [] s t bs right stands fits e =
        let end = was_pure [] bs s t e in
        record { left = sym end.store; at = λ words begun. subst (λ x. All (IsAt words) (bounds_moments n st [] x)) end.value (All-nil (IsAt words)) }
    all_bounds_at n (c ∷ counters) s t bs right stands fits e =
        let r = and_parts (is_counter_right core outside c) (list_all (is_counter_right core outside) counters) right in
        let q = counter_right core outside c r.0 in
        let w = counter_bounds c r.0 in
        let p = known.parts.bounds n around c counters stands in
        let one = bound _ _ s bs t e in
        let from = bound _ _ s one.value one.middle one.first in
        let until = bound _ _ from.middle one.value one.middle from.later in
        let given = was_pure (record { from = from.value; until = until.value }) one.value until.middle one.middle until.later in
        let same_from = bound_leaves core outside st scope c.from s from.middle from.value w.0 from.first in
        let second : operations core scope c.until s ≡ went until.value until.middle = subst (λ x. operations core scope c.until x ≡ went until.value until.middle) same_from until.first in
        let same_until = bound_leaves core outside st scope c.until s until.middle until.value w.1 second in
        let same : one.middle ≡ s = sym given.store ∙ same_until in
        let others = bound _ _ one.middle bs t one.later in
        let rest = all_bounds_at (n + (length c.from + length c.until)) counters s others.middle others.value r.1 p.1 fits (subst (λ x. in_order (bounds core reading most scope) counters x ≡ went others.value others.middle) same others.first) in
        let end = was_pure (one.value ∷ others.value) bs others.middle t others.later in
        record {
          left = sym end.store ∙ rest.left;
          at = λ words begun. subst (λ x. All (IsAt words) (bounds_moments n st (c ∷ counters) x)) end.value
              (subst (λ b. All (IsAt words) (bounds_moments n st (c ∷ counters) (b ∷ others.value))) given.value
              (All-append (IsAt words) (list_moments n st c.from from.value ++ list_moments (n + length c.from) st c.until until.value) (bounds_moments (n + (length c.from + length c.until)) st counters others.value)
              (All-append (IsAt words) (list_moments n st c.from from.value) (list_moments (n + length c.from) st c.until until.value) (list_at n c.from s from.middle from.value q.0 p.0.0 fits from.first words begun)
              (list_at (n + length c.from) c.until s until.middle until.value q.1 p.0.1 fits second words begun))
              (rest.at words begun)));
        }

    -- in each group of a controller its counters are placed; and its bounds are at their forms
    abbrev BoundsGive : (n : ℕ) → List PlainCounter → List Bounds → Type 0
    BoundsGive n counters bs = Entered core known outside around scope st placed reading most counters bs × ((begun : ℕ → ℤ) × ((words : List At → ℕ → ℤ) → words st.path ≡ begun → All (IsAt words) (bounds_moments n st counters bs)))

    bounds_give : (n : ℕ) (counters : List PlainCounter) → list_all (is_counter_right core outside) counters ≡ true → BoundsStand core n around counters → Keeps core (BoundsGive n counters) (in_order (bounds core reading most scope) counters)
    bounds_give n counters right stands s t bs fits e =
        let d = controller_holds core known outside around scope st placed reading most n counters right stands s t bs fits e in
        let b = all_bounds_at n counters s t bs right stands fits e in
        (d.2.fits, (d.1.1, (symbol_in core own s, b.at)))

  renewal_at : (words : List At → ℕ → ℤ) (m : ℕ) → All (IsAt words) (renewal_in_body core m)
  renewal_at words m = go (has_reset (mem core m).kind (mem core m).start)
    where
      go : (b : Bool) → All (IsAt words) (elim b as (λ _. List Moment) [ true ↦ [] | false ↦ renews m ∷ [] ])
      go true = All-nil (IsAt words)
      go false = All-cons (IsAt words) (renews m) [] tt (All-nil (IsAt words))

  renewals_at : (words : List At → ℕ → ℤ) (owned : List ℕ) → All (IsAt words) (flat_map (renewal_in_body core) owned)
  renewals_at words [] = All-nil (IsAt words)
  renewals_at words (m ∷ owned) = All-append (IsAt words) (renewal_in_body core m) (flat_map (renewal_in_body core) owned) (renewal_at words m) (renewals_at words owned)

  no_words : ℕ → ℤ
  no_words m = pos 0

  -- the groups of an inner body: a list of what symbols are in each of them
  module _ (outside : Around) (around : PlainAround) (counters : List PlainCounter) (owned : List ℕ) (ops : List PlainOp) (right : are_operations_right core (within outside counters owned) ops ≡ true) (scope : List ℤ → Scope) (k n : ℕ) (st : Standing) (stands : ListStands core n (inside core.mems around counters) ops) where
    abbrev Placed : List ℤ → Type 0
    Placed v = IsPlaced (scope v) (inside core.mems around counters) (st.counters ++ v)

    abbrev GroupAt : ℕ → List ℤ → List Entry → Type 0
    GroupAt g v es = (begun : ℕ → ℤ) × ((b : ℕ → ℤ) (gs : ℕ → ℕ → ℤ) → gs g ≡ begun → All (IsAt (by_path b gs)) (flat_map (renewal_in_body core) owned ++ list_moments n (inside_at st k (in_group_of g 0) v) ops es))

    abbrev BodyAt : ℕ → List (List ℤ) → List (List Entry) → Type 0
    BodyAt g values groups = (begun : List (ℕ → ℤ)) × ((b : ℕ → ℤ) (gs : ℕ → ℕ → ℤ) → ((i : ℕ) → gs (g + i) ≡ slice_index_or begun i no_words) → All (IsAt (by_path b gs)) (body_moments core reading k n g st owned ops values groups))

    group_at : (g : ℕ) (v : List ℤ) → Placed v → Keeps core (GroupAt g v) (in_order (renew_in_body core reading most) owned >> operations core (scope v) ops)
    group_at g v placed = then_keeps core _ _ _ (fits_of _ _ (body_owner_holds core known reading most owned)) (λ u s t es fits e.
        let l = known.lists_fit (within outside counters owned) (scope v) ops s t es known.memories right fits e in (
          l.left,
          (
            symbol_in core own s,
            λ b gs h. All-append (IsAt (by_path b gs)) (flat_map (renewal_in_body core) owned) (list_moments n (inside_at st k (in_group_of g 0) v) ops es) (renewals_at (by_path b gs) owned)
                (list_at (within outside counters owned) (inside core.mems around counters) (scope v) (inside_at st k (in_group_of g 0) v) placed n ops s t es right stands fits e (by_path b gs) (group_path b gs st k g 0 v ∙ h)),
          ),
        ))

    body_at : (g : ℕ) (values : List (List ℤ)) → All Placed values → Keeps core (BodyAt g values) (in_order (λ v. in_order (renew_in_body core reading most) owned >> operations core (scope v) ops) values)
    unfolding in_order
    body_at g [] h = pure_keeps core _ _ ([], λ b gs h. All-nil (IsAt (by_path b gs)))
    body_at g (v ∷ values) h =
        bind_keeps core _ _ (GroupAt g v) _ (group_at g v (All-head Placed v values h)) (λ es here.
        bind_keeps core _ _ (BodyAt (suc g) values) _ (body_at (suc g) values (All-tail Placed v values h)) (λ groups rest.
        pure_keeps core _ _ (
          here.0 ∷ rest.0,
          λ b gs h. All-append (IsAt (by_path b gs)) (flat_map (renewal_in_body core) owned ++ list_moments n (inside_at st k (in_group_of g 0) v) ops es) (body_moments core reading k n (suc g) st owned ops values groups)
              (here.1 b gs (ap gs (omega arith) ∙ h 0)) (rest.1 b gs (λ i. ap gs (omega arith) ∙ h (suc i))),
        )))

  -- a whole run of an inner body
  inner_at : (counters : List PlainCounter) (owned : List ℕ) (ops : List PlainOp) (comb : Option ℕ) (k n : ℕ) (st : Standing) (bs : List Bounds) (groups : List (List Entry))
      → ((begun : ℕ → ℤ) × ((words : List At → ℕ → ℤ) → words (inside_at st k before []).path ≡ begun → All (IsAt words) (bounds_moments n (inside_at st k before []) counters bs)))
      → ((begun : List (ℕ → ℤ)) × ((b : ℕ → ℤ) (gs : ℕ → ℕ → ℤ) → ((i : ℕ) → gs (0 + i) ≡ slice_index_or begun i no_words)
      → All (IsAt (by_path b gs)) (body_moments core reading k (n + counters_size counters) 0 st owned ops (group_values (loops_of reading counters bs)) groups)))
      → InnersAtForms core own reading (inner counters owned ops comb) k n st (inner_ran bs (counts_of (loops_of reading counters bs)) groups)
  unfolding moments
  inner_at counters owned ops comb k n st bs groups one two =
      let gs : ℕ → ℕ → ℤ = λ g. slice_index_or two.0 g no_words in
      let words = by_path one.0 gs in (
        words,
        All-append (IsAt words) (bounds_moments n (inside_at st k before []) counters bs) (body_moments core reading k (n + counters_size counters) 0 st owned ops (group_values (loops_of reading counters bs)) groups)
            (one.1 words (before_path one.0 gs st k)) (two.1 one.0 gs (λ i. ap gs (omega arith))),
      )

  -- the groups of an outer
  groups_at : (stages : PlainStages) (k n : ℕ) (st : Standing) (style : Style) (owned : List ℕ) (live : List ℤ → ℕ → Bool) (scope : List ℤ → Scope) (Placed : List ℤ → Type 0)
      → ((g : ℕ) (v : List ℤ) → Placed v → Keeps core (StagesAtForms core own reading stages k n 0 g (suc k) v st) (run_stages core reading most stages (live v) (scope v)))
      → (g : ℕ) (values : List (List ℤ)) → All Placed values → Keeps core (λ groups. GroupsAtForms core own reading stages k n g st values (groups_of groups))
      (in_order (λ v. in_order (renew core reading most) owned >> (run_stages core reading most stages (live v) (scope v) >>= (λ runs. end_of_group core reading most style owned >> pure runs))) values)
  unfolding in_order
  groups_at stages k n st style owned live scope Placed h g [] all = pure_keeps core _ _ tt
  groups_at stages k n st style owned live scope Placed h g (v ∷ values) all =
      bind_keeps core _ _ (StagesAtForms core own reading stages k n 0 g (suc k) v st) _ (then_keeps core _ _ _ (fits_of _ _ (owner_holds core known reading most owned)) (λ u.
      bind_keeps core _ _ (StagesAtForms core own reading stages k n 0 g (suc k) v st) _ (h g v (All-head Placed v values all)) (λ runs p. then_keeps core _ _ _ (fits_of _ _ (end_holds core known reading most style owned)) (λ w. pure_keeps core _ runs p)))) (λ runs p.
      bind_keeps core _ _ (λ groups. GroupsAtForms core own reading stages k n (suc g) st values (groups_of groups)) _ (groups_at stages k n st style owned live scope Placed h (suc g) values (All-tail Placed v values all)) (λ groups q. pure_keeps core _ _ (p, q)))

  -- the turns of an FSM
  module _ (test : Step (List Entry)) (body : PlainNode) (next : Step (List Entry)) (k n : ℕ) (st : Standing) (scope : Scope) (tests : Keeps core Anything test) (bodies : (t : ℕ) → Keeps core (InnersAtForms core own reading body (suc k) n (inside_at st k (in_turn t) [])) (run core reading most body scope)) (nexts : Keeps core Anything next) where
    abbrev turn_step : List Entry → Step Turn
    turn_step tested = run core reading most body scope >>= (λ h. next >>= (λ es. pure (record { test = tested; body = h; next = es })))

    abbrev TurnsAt : ℕ → List Turn × List Entry → Type 0
    TurnsAt t r = TurnsAtForms core own reading body k n t st (turns_of r.0)

    turn_at : (t : ℕ) (tested : List Entry) → Keeps core (λ (r : Turn). InnersAtForms core own reading body (suc k) n (inside_at st k (in_turn t) []) r.body) (turn_step tested)
    turn_at t tested = bind_keeps core _ _ (InnersAtForms core own reading body (suc k) n (inside_at st k (in_turn t) [])) _ (bodies t) (λ h p. then_keeps core _ _ _ nexts (λ es. pure_keeps core _ _ p))

    abbrev Repeated : ℕ → Step (List Turn × List Entry)
    Repeated many = repeated many test (λ es. last_word es == 1) turn_step

    choose_last : (t : ℕ) (es : List Entry) (b : Bool) → Keeps core (TurnsAt t) (elim b [ true ↦ out_of_turns | false ↦ pure ([], es) ])
    choose_last t es true = no_turn_keeps core _
    choose_last t es false = pure_keeps core _ _ tt

    choose : (many t : ℕ) → Keeps core (TurnsAt (suc t)) (Repeated many) → (es : List Entry) (b : Bool) → Keeps core (TurnsAt t) (elim b [ true ↦ turn_step es >>= (λ first. Repeated many >>= (λ r. pure (first ∷ r.0, r.1))) | false ↦ pure ([], es) ])
    choose many t others es true = bind_keeps core _ _ _ _ (turn_at t es) (λ first p. bind_keeps core _ _ (TurnsAt (suc t)) _ others (λ r q. pure_keeps core _ _ (p, q)))
    choose many t others es false = pure_keeps core _ _ tt

    turns_at : (many t : ℕ) → Keeps core (TurnsAt t) (Repeated many)
    unfolding repeated
    turns_at zero t = then_keeps core _ _ _ tests (λ es. choose_last t es (last_word es == 1))
    turns_at (suc many) t = then_keeps core _ _ _ tests (λ es. choose many t (turns_at many (suc t)) es (last_word es == 1))

  -- a branch, by which of its blocks was taken
  block_at : (test : List PlainOp) (first second : PlainNode) (k n : ℕ) (st : Standing) (es : List Entry) (one two : Step History) → Keeps core (InnersAtForms core own reading first (suc k) (n + length test) (inside_at st k (in_turn 0) [])) one
      → Keeps core (InnersAtForms core own reading second (suc k + node_count first) (n + (length test + number_count first)) (inside_at st k (in_turn 0) [])) two
      → (b : Bool) → Keeps core (λ h. InnersAtForms core own reading (branch test first second) k n st (branch_ran es b h)) (elim b as (λ _. Step History) [ true ↦ one | false ↦ two ])
  block_at test first second k n st es one two f g true = f
  block_at test first second k n st es one two f g false = g

  -- a transfer has no inner body
  transfer_at : (node : PlainNode) (outside : Around) (earlier : List ℕ) (around : PlainAround) (k n : ℕ) (st : Standing) (scope : Scope) → IsRight core outside earlier node → NodeStands core n around node → IsPlaced scope around st.counters
      → Keeps core Anything (run core reading most node scope)
  transfer_at node outside earlier around k n st scope right stands placed = fits_of _ _ (run_holds core known reading most node outside earlier around k n st scope right stands placed)

  mutual
    unfolding run run_stages

    pub node_at : (node : PlainNode) (outside : Around) (earlier : List ℕ) (around : PlainAround) (k n : ℕ) (st : Standing) (scope : Scope) → IsRight core outside earlier node → NodeStands core n around node → IsPlaced scope around st.counters
        → Keeps core (InnersAtForms core own reading node k n st) (run core reading most node scope)
    node_at (inner counters owned ops comb) outside earlier around k n st scope right stands placed =
        let a = and_parts (are_counters_right core outside counters) (are_operations_right core (within outside counters owned) ops) (here_right core outside earlier (inner counters owned ops comb) right).0 in
        let p = known.parts.inner_body n around counters owned ops comb stands in
        let here = placed_at scope around st k before placed in
        bind_keeps core _ _ (BoundsGive outside around scope (inside_at st k before []) here n counters) _ (bounds_give outside around scope (inside_at st k before []) here n counters (counters_right core outside counters a.0) p.0) (λ bs given.
        bind_keeps core _ _ (BodyAt outside around counters owned ops a.1 (λ v. in_group scope (loops_of reading counters bs) v) k (n + counters_size counters) st p.1 0 (group_values (loops_of reading counters bs))) _
        (body_at outside around counters owned ops a.1 (λ v. in_group scope (loops_of reading counters bs) v) k (n + counters_size counters) st p.1 0 (group_values (loops_of reading counters bs))
        (subst (λ cs. All (λ v. IsPlaced (in_group scope (loops_of reading counters bs) v) (inside core.mems around counters) (cs ++ v)) (group_values (loops_of reading counters bs))) (append-nil st.counters) given.0))
        (λ groups q. pure_keeps core _ _ (inner_at counters owned ops comb k n st bs groups given.1 q)))
    node_at (outer counters style owned stages) outside earlier around k n st scope right stands placed =
        let a = and_parts (are_counters_right core outside counters) (are_lanes_right (lanes_of counters) stages) (here_right core outside earlier (outer counters style owned stages) right.0).0 in
        let p = known.parts.outer_body n around counters style owned stages stands in
        let here = placed_at scope around st k before placed in
        bind_keeps core _ _ (BoundsGive outside around scope (inside_at st k before []) here n counters) _ (bounds_give outside around scope (inside_at st k before []) here n counters (counters_right core outside counters a.0) p.0) (λ bs given.
        bind_keeps core _ _ (λ groups. GroupsAtForms core own reading stages k (n + counters_size counters) 0 st (group_values (loops_of reading counters bs)) (groups_of groups)) _
        (groups_at stages k (n + counters_size counters) st style owned (λ v. is_live (loops_of reading counters bs) v) (λ v. in_group scope (loops_of reading counters bs) v)
        (λ v. IsPlaced (in_group scope (loops_of reading counters bs) v) (inside core.mems around counters) (st.counters ++ v))
        (λ g v here. stages_at stages (within outside counters owned) (earlier ++ owned) (inside core.mems around counters) k (n + counters_size counters) 0 g (suc k) v st (is_live (loops_of reading counters bs) v) (in_group scope (loops_of reading counters bs) v) right.1 p.1 here)
        0 (group_values (loops_of reading counters bs))
        (subst (λ cs. All (λ v. IsPlaced (in_group scope (loops_of reading counters bs) v) (inside core.mems around counters) (cs ++ v)) (group_values (loops_of reading counters bs))) (append-nil st.counters) given.0))
        (λ groups q. pure_keeps core _ _ q))
    node_at (fsm start state test body next) outside earlier around k n st scope right stands placed =
        let a = here_right core outside earlier (fsm start state test body next) right.0 in
        let m = machine_right core outside start state test body next a.0 in
        let there = state_there core outside earlier state a.1 in
        let p = known.parts.machine n around start state test body next stands in
        then_keeps core _ _ _ (fits_of _ _ (state_now_holds core known outside around scope st placed reading most n state start there m.start_right p.0.0)) (λ first.
        bind_keeps core _ _ _ _ (turns_at (operations core scope test) body (state_now core reading most scope state next) k (n + (length start + length test)) st scope
        (fits_of _ _ (list_holds core known (with_state core outside state) around scope st placed (n + length start) test m.test_right p.0.1))
        (λ t. node_at body (with_state core outside state) (earlier ++ state ∷ []) around (suc k) (n + (length start + length test)) (inside_at st k (in_turn t) []) scope right.1 p.1.0 (placed_at scope around st k (in_turn t) placed))
        (fits_of _ _ (state_now_holds core known (with_state core outside state) around scope st placed reading most (n + (length start + (length test + number_count body))) state next there m.next_right p.1.1)) most 0)
        (λ r q. pure_keeps core _ _ q))
    node_at (branch test first second) outside earlier around k n st scope right stands placed =
        let p = known.parts.blocks n around test first second stands in
        let here = placed_at scope around st k (in_turn 0) placed in
        then_keeps core _ _ _ (fits_of _ _ (list_holds core known outside around scope st placed n test (word_list_right core outside test _ (here_right core outside earlier (branch test first second) right.0).0).0 p.0)) (λ es.
        bind_keeps core _ _ (λ h. InnersAtForms core own reading (branch test first second) k n st (branch_ran es (last_word es == 1) h)) _ (block_at test first second k n st es _ _
        (node_at first outside earlier around (suc k) (n + length test) (inside_at st k (in_turn 0) []) scope right.1 p.1.0 here)
        (node_at second outside (earlier ++ owned_in first) around (suc k + node_count first) (n + (length test + number_count first)) (inside_at st k (in_turn 0) []) scope right.2 p.1.1 here) (last_word es == 1))
        (λ h q. pure_keeps core _ _ q))
    node_at (load r m spans) outside earlier around k n st scope right stands placed = transfer_at (load r m spans) outside earlier around k n st scope right stands placed
    node_at (store r m spans) outside earlier around k n st scope right stands placed = transfer_at (store r m spans) outside earlier around k n st scope right stands placed
    node_at (sparse kind r m index spans count par) outside earlier around k n st scope right stands placed = transfer_at (sparse kind r m index spans count par) outside earlier around k n st scope right stands placed

    stages_at : (stages : PlainStages) (outside : Around) (earlier : List ℕ) (around : PlainAround) (k n s g j : ℕ) (v : List ℤ) (st : Standing) (live : ℕ → Bool) (scope : Scope) → AreRight core outside earlier stages → StagesStand core n around stages → IsPlaced scope around (st.counters ++ v)
        → Keeps core (StagesAtForms core own reading stages k n s g j v st) (run_stages core reading most stages live scope)
    stages_at no_stage outside earlier around k n s g j v st live scope right stands placed = pure_keeps core _ _ tt
    stages_at (more_stage first last comb node rest) outside earlier around k n s g j v st live scope right stands placed =
        let p = known.parts.stages n around first last comb node rest stands in
        choose_stage (node_at node outside earlier around j n (inside_at st k (in_group_of g s) v) scope right.0 p.0 placed)
        (stages_at rest outside (earlier ++ owned_in node) around k (n + number_count node) (suc s) g (j + node_count node) v st live scope right.1 p.1 placed) (is_some_live live first last)
      where
        choose_stage : Keeps core (InnersAtForms core own reading node j n (inside_at st k (in_group_of g s) v)) (run core reading most node scope) → Keeps core (StagesAtForms core own reading rest k (n + number_count node) (suc s) g (j + node_count node) v st) (run_stages core reading most rest live scope)
            → (b : Bool) → Keeps core (StagesAtForms core own reading (more_stage first last comb node rest) k n s g j v st)
            (elim b as (λ _. Step Runs) [ true ↦ run core reading most node scope >>= (λ h. run_stages core reading most rest live scope >>= (λ others. pure (more_run h others))) | false ↦ run_stages core reading most rest live scope >>= (λ others. pure (masked_run others)) ])
        choose_stage f h true = bind_keeps core _ _ (InnersAtForms core own reading node j n (inside_at st k (in_group_of g s) v)) _ f (λ a p. bind_keeps core _ _ (StagesAtForms core own reading rest k (n + number_count node) (suc s) g (j + node_count node) v st) _ h (λ hs q. pure_keeps core _ (more_run a hs) (p, q)))
        choose_stage f h false = bind_keeps core _ _ (StagesAtForms core own reading rest k (n + number_count node) (suc s) g (j + node_count node) v st) _ h (λ hs q. pure_keeps core _ (masked_run hs) q)
