-- An FSM does what its statement does, where its body does.
use Rattle.std.proofs.Common.{◌≡◌, ℕ, zero, suc, ◌≤◌, Bool, true, false, List, [], ◌∷◌, ◌++◌, Some, refl, sym, ◌∙◌, ap, subst, arith, ◌==◌}
use Rattle.std.proofs.lemmas.Bool.{eqb-true, eq-eqb, false≢true}
use Rattle.std.specs.Prelude.{length, Contains}
use Rattle.sp_words.specs.declared.kind.Style.TheVariants.{Pipe}
use Rattle.sp_words.specs.declared.types.Ty.{Ty}
use Rattle.sp_words.specs.declared.types.Ty.TheVariants.{Bit}
use Rattle.sp_words.specs.Memory.{cells}
use Rattle.sp_tree.specs.Expressions.{word}
use Rattle.sp_tree.specs.PlainExpression.{PlainExpr, type_of}
use Rattle.sp_tree.specs.PlainProgram.{PlainProgram}
use Rattle.sp_tree.specs.PlainStatement.{PlainStmts, fsm}
use Rattle.sp_tree.specs.Sequential.{name_now, run_kind, run_all}
use Rattle.sp_tree.specs.Shape as program_shape
use Rattle.sp_tree.specs.Shape.{shapes, ran, turned}
use Rattle.sp_tree.specs.Step as step
use Rattle.sp_tree.specs.Store as program_store
use Rattle.sp_tree.specs.Typing.{IsFreshVal, HasTypeStill, StmtTyped, with_val}
use Rattle.sp_core.specs.Accesses.{hold_now}
use Rattle.sp_core.specs.History.{Entry, Turn, fsm_ran, turns_of, last_word}
use Rattle.sp_core.specs.Operations.{operations}
use Rattle.sp_core.specs.PlainCore.{PlainOp, PlainNode, PlainCore}
use Rattle.sp_core.specs.Scope.{plainly}
use Rattle.sp_core.specs.Sequential.{state_now, run}
use Rattle.sp_core.specs.Shape.{shape_of, body_shapes}
use Rattle.sp_core.specs.Step as core_step
use Rattle.sp_core.specs.Store as store
use Rattle.sp_core.specs.Store.{changed}
use Rattle.sp_sugar.specs.Agreement.{HasMemories, View, IsAdded, Finds, Agree}
use Rattle.sp_sugar.specs.Operations.{word_list}
use Rattle.sp_sugar.specs.Stages.{node}
use Rattle.sp_sugar.specs.Values.{in_register, Sources, with_state}
use Rattle.sp_sugar.proofs.Entering.{fresh_apart}
use Rattle.sp_sugar.proofs.MemoryLemmas.{changed_here, changed_elsewhere}
use Rattle.sp_sugar.proofs.NumberLemmas.{either}
use Rattle.sp_sugar.proofs.StepLemmas.{as_it_went, not_more, same_answer, same_store, taken_apart, then_on}
use Rattle.sp_same.specs.Contents.{HoldRightly}
use Rattle.sp_same.specs.Counts.{turns, counts_in, counts_in_all, counts_of, body_counts, turn_count}
use Rattle.sp_same.specs.Following.{AreSpare, NodeGoes, BodyFollowedRightly, alone}
use Rattle.sp_same.proofs.LoopNodes.{no_more_counts}
use Rattle.sp_same.proofs.Registers.{agree_written, agree_besides, agree_bound, agree_outside, agree_kept}
use Rattle.sp_same.proofs.Rightly.{keep_body, body_rightly}
use Rattle.sp_same.proofs.StillWords.{unchanged, word_still}
use Rattle.sp_same.proofs.Turns.{body_falls, turn_falls}
use Rattle.sp_same.proofs.WordsTaken.{Takes, word_taken}

module _ (p : PlainProgram) (core : PlainCore) (h : HasMemories p core) (roomy : List ℕ) (most : ℕ) (view : View) (b n place : ℕ) (start : PlainExpr) (tested : ℕ) (test : PlainExpr) (state : ℕ) (body : PlainStmts) (last : ℕ) (next : PlainExpr)
    (typed : StmtTyped p view.scope (fsm start tested test state body last next)) (added : IsAdded p core n) (before : AreSpare n (suc n) view) where
  abbrev ty : Ty
  ty = type_of start

  abbrev kept : Sources
  kept = with_state view.sources tested state last n

  abbrev inner_kept : Sources
  inner_kept = changed (changed view.sources tested (in_register n)) state (in_register n)

  abbrev body_node : PlainNode
  body_node = alone p kept (suc n) Pipe body

  abbrev inside : ℕ → View
  inside w = record view { scope = with_val view.scope state ty; sources = kept; registers = (n, Some w) ∷ view.registers }

  -- the binders stand in the register, and all else where it stood
  kept_as_before : (u : ℕ × Ty) → Contains view.scope.vals u → kept u.0 ≡ view.sources u.0
  kept_as_before u c =
      changed_elsewhere inner_kept last u.0 (in_register n) (fresh_apart p core h view.scope last typed.5 u c)
      ∙ changed_elsewhere (changed view.sources tested (in_register n)) state u.0 (in_register n) (fresh_apart p core h view.scope state typed.3 u c)
      ∙ changed_elsewhere view.sources tested u.0 (in_register n) (fresh_apart p core h view.scope tested typed.1 u c)

  last_kept : kept last ≡ in_register n
  last_kept = changed_here inner_kept last last (in_register n) refl

  state_kept : kept state ≡ in_register n
  state_kept = either (state == last)
      (λ e. changed_here inner_kept last state (in_register n) (eqb-true state last e))
      (λ e. changed_elsewhere inner_kept last state (in_register n) (λ f. false≢true (sym e ∙ eq-eqb state last f)) ∙ changed_here (changed view.sources tested (in_register n)) state state (in_register n) refl)

  tested_kept : kept tested ≡ in_register n
  tested_kept = either (tested == last)
      (λ e. changed_here inner_kept last tested (in_register n) (eqb-true tested last e))
      (λ e. changed_elsewhere inner_kept last tested (in_register n) (λ f. false≢true (sym e ∙ eq-eqb tested last f)) ∙ either (tested == state)
      (λ d. changed_here (changed view.sources tested (in_register n)) state tested (in_register n) (eqb-true tested state d))
      (λ d. changed_elsewhere (changed view.sources tested (in_register n)) state tested (in_register n) (λ f. false≢true (sym d ∙ eq-eqb tested state f)) ∙ changed_here view.sources tested tested (in_register n) refl))

  abbrev Holds : ℕ → store.Store → Type 0
  Holds w t = Finds p core view.around [] t (in_register n) w

  -- between two turns
  record Between (w : ℕ) (s : program_store.Store) (t : store.Store) : Type 0 where
    right : HoldRightly p view.scope.mems s
    agree : Agree p core view [] s t
    holds : Holds w t

  -- a word of an expression that is told a binder's value
  binder_word : (v w : ℕ) (e : PlainExpr) (to : Ty) → IsFreshVal p view.scope v → kept v ≡ in_register n → HasTypeStill p (with_val view.scope v ty) to e → (s after : program_store.Store) (t : store.Store) (left rest x : ℕ)
      → Between w s t → word p.mems e left (program_store.name_value s v w) ≡ step.went x rest after → (rest ≡ left) × (Between w after t) × Takes p core h view (word_list p.mems kept e) t x
  binder_word v w e to fresh there etyped s after t left rest x g goes =
      let bound : View = record view { scope = with_val view.scope v ty; sources = kept } in
      let a = agree_bound p core h view s t v w fresh g.agree ty kept kept_as_before (subst (λ y. Finds p core view.around [] t y w) (sym there) g.holds) in
      let still = word_still p bound.scope e left rest x (program_store.name_value s v w) after etyped.0.0 etyped.1 goes in (
        still.0,
        record { right = subst (HoldRightly p view.scope.mems) (sym still.1) g.right; agree = subst (λ y. Agree p core view [] y t) (sym still.1) (agree_besides p core h view s t v w fresh g.agree); holds = g.holds },
        word_taken p core h bound e (program_store.name_value s v w) after t left rest x etyped.0.0 etyped.1 a goes,
      )

  -- the register takes a word
  state_takes : (e : PlainExpr) (sources : Sources) (w : ℕ) (s : program_store.Store) (t : store.Store) → HoldRightly p view.scope.mems s → Agree p core view [] s t → (f : Takes p core h view (word_list p.mems sources e) t w)
      → (state_now core plainly most view.around n (word_list p.mems sources e) t ≡ core_step.went f.0 (store.hold t n (cells (Some w ∷ [])))) × Between w s (store.hold t n (cells (Some w ∷ [])))
  unfolding core_step.pure core_step.change core_step.◌>>=◌
  state_takes e sources w s t right a f = (
    then_on (operations core view.around (word_list p.mems sources e)) (λ es. core_step.◌>>◌ (hold_now n (cells (Some (last_word es) ∷ []))) (core_step.pure es)) t f.0 t f.1
        ∙ ap (λ x. core_step.went f.0 (store.hold t n (cells (Some x ∷ [])))) f.2,
    record { right = right; agree = agree_written p core h view [] s t n w added before a; holds = (added, changed_here t n n (Some (cells (Some w ∷ []))) refl) },
  )

  abbrev test_step : ℕ → step.Step Bool
  test_step w = step.◌>>◌ (name_now tested w) (step.◌>>=◌ (word p.mems test) (λ holds. step.pure (holds == 1)))

  abbrev turn_step : ℕ → step.Step (ℕ × program_shape.Shape)
  turn_step w = step.◌>>◌ step.turn (step.◌>>◌ (name_now state w) (step.◌>>=◌ (run_all p.mems roomy body) (λ did. step.◌>>◌ (name_now last w) (step.◌>>=◌ (word p.mems next) (λ after. step.pure (after, ran (shapes did)))))))

  abbrev test_ops : List PlainOp
  test_ops = word_list p.mems kept test

  abbrev next_ops : List PlainOp
  next_ops = word_list p.mems kept next

  abbrev is_one : List Entry → Bool
  is_one es = last_word es == 1

  abbrev core_turn : List Entry → core_step.Step Turn
  core_turn tested = core_step.◌>>=◌ (run core plainly most body_node view.around) (λ h. core_step.◌>>=◌ (state_now core plainly most view.around n next_ops) (λ es. core_step.pure (record { test = tested; body = h; next = es })))

  -- a test
  record Tested (w : ℕ) (t : store.Store) (holds : Bool) (after : program_store.Store) : Type 0 where
    es : List Entry
    goes : operations core view.around test_ops t ≡ core_step.went es t
    is : is_one es ≡ holds
    between : Between w after t

  test_follows : (w left rest : ℕ) (s after : program_store.Store) (t : store.Store) (holds : Bool) → Between w s t → test_step w left s ≡ step.went holds rest after → (rest ≡ left) × Tested w t holds after
  unfolding step.pure step.change step.◌>>=◌
  test_follows w left rest s after t holds g e =
      let x = taken_apart (word p.mems test) (λ holds. step.pure (holds == 1)) left (program_store.name_value s tested w) holds rest after e in
      let f = binder_word tested w test Bit typed.1 tested_kept typed.2 s x.store t left x.between x.answer g x.first in
      let same = unchanged (x.answer == 1) holds x.between rest x.store after x.second in (
        same.0 ∙ f.0,
        record { es = f.2.0; goes = f.2.1; is = ap (λ y. y == 1) f.2.2 ∙ same_answer (x.answer == 1) holds x.between rest x.store after x.second; between = subst (λ y. Between w y t) (sym same.1) f.1 },
      )

  module _ (followed : (w : ℕ) → BodyFollowedRightly p core roomy most (inside w) body_node body) where
    -- a turn
    record Turned (t : store.Store) (found : List Entry) (answer : ℕ × program_shape.Shape) (after : program_store.Store) : Type 0 where
      turn : Turn
      end : store.Store
      goes : core_turn found t ≡ core_step.went turn end
      between : Between answer.0 after end
      counts : counts_of body_node (shape_of body_node turn.body) ≡ counts_in answer.1

    turn_follows : (w left rest : ℕ) (s after : program_store.Store) (t : store.Store) (found : List Entry) (answer : ℕ × program_shape.Shape) → left ≤ most → Between w s t → turn_step w left s ≡ step.went answer rest after
        → (suc rest ≤ left) × Turned t found answer after
    unfolding step.pure step.change step.◌>>=◌ core_step.pure counts_in
    turn_follows w left rest s after t found answer enough g e =
        let c = taken_apart step.turn (λ _. step.◌>>◌ (name_now state w) (step.◌>>=◌ (run_all p.mems roomy body) (λ did. step.◌>>◌ (name_now last w) (step.◌>>=◌ (word p.mems next) (λ after. step.pure (after, ran (shapes did))))))) left s answer rest after e in
        let fell = turn_falls c.answer left c.between s c.store c.first in
        let d = taken_apart (run_all p.mems roomy body) (λ did. step.◌>>◌ (name_now last w) (step.◌>>=◌ (word p.mems next) (λ after. step.pure (after, ran (shapes did))))) c.between (program_store.name_value c.store state w) answer rest after c.second in
        let x = taken_apart (word p.mems next) (λ after. step.pure (after, ran (shapes d.answer))) d.between (program_store.name_value d.store last w) answer rest after d.second in
        let here : Agree p core view [] c.store t = subst (λ y. Agree p core view [] y t) (sym fell.1) g.agree in
        let bound : Agree p core (record view { scope = with_val view.scope state ty; sources = kept }) [] (program_store.name_value c.store state w) t = agree_bound p core h view c.store t state w typed.3 here ty kept kept_as_before (subst (λ y. Finds p core view.around [] t y w) (sym state_kept) g.holds) in
        let entered : Agree p core (inside w) [] (program_store.name_value c.store state w) t = agree_kept p core h (record view { scope = with_val view.scope state ty; sources = kept }) (program_store.name_value c.store state w) t (n, Some w) g.holds bound in
        let fewer : c.between ≤ most = omega (arith, fell.0, enough) in
        let right_here : HoldRightly p view.scope.mems c.store = subst (HoldRightly p view.scope.mems) (sym fell.1) g.right in
        let goes = followed w (program_store.name_value c.store state w) d.store t c.between d.between d.answer fewer right_here entered d.first in
        let right_then : HoldRightly p view.scope.mems d.store = keep_body p h.declared roomy view.scope body (with_val view.scope state ty) refl (body_rightly p h.declared roomy body (with_val view.scope state ty) typed.4) c.between d.between (program_store.name_value c.store state w) d.store d.answer right_here d.first in
        let out = agree_outside p core h view d.store goes.after state ty kept (n, Some w) kept_as_before goes.agree in
        let f = binder_word last w next ty typed.5 last_kept typed.6 d.store x.store goes.after d.between x.between x.answer (record { right = right_then; agree = out.0; holds = out.1 }) x.first in
        let put = state_takes next kept x.answer x.store goes.after f.1.right f.1.agree f.2 in
        let same = unchanged (x.answer, ran (shapes d.answer)) answer x.between rest x.store after x.second in
        let answered : (x.answer, ran (shapes d.answer)) ≡ answer = same_answer (x.answer, ran (shapes d.answer)) answer x.between rest x.store after x.second in
        let falls : d.between ≤ c.between = body_falls p.mems roomy body c.between d.between (program_store.name_value c.store state w) d.store d.answer d.first in (
          omega (arith, same.0, f.0, falls, fell.0),
          record {
            turn = record { test = found; body = goes.history; next = f.2.0 };
            end = store.hold goes.after n (cells (Some x.answer ∷ []));
            goes = then_on (run core plainly most body_node view.around) (λ h. core_step.◌>>=◌ (state_now core plainly most view.around n next_ops) (λ es. core_step.pure (record { test = found; body = h; next = es }))) t goes.history goes.after goes.goes
                ∙ then_on (state_now core plainly most view.around n next_ops) (λ es. core_step.pure (record { test = found; body = goes.history; next = es })) goes.after f.2.0 (store.hold goes.after n (cells (Some x.answer ∷ []))) put.0;
            between = subst (λ (y : ℕ × program_shape.Shape). Between y.0 after (store.hold goes.after n (cells (Some x.answer ∷ [])))) answered (subst (λ y. Between x.answer y (store.hold goes.after n (cells (Some x.answer ∷ [])))) (sym same.1) put.1);
            counts = goes.counts ∙ ap (λ (y : ℕ × program_shape.Shape). counts_in y.1) answered;
          },
        )

    -- all turns
    record Machine (k : ℕ) (t : store.Store) (did : List program_shape.Shape) (after : program_store.Store) : Type 0 where
      ts : List Turn
      last_test : List Entry
      end : store.Store
      goes : core_step.repeated k (operations core view.around test_ops) is_one core_turn t ≡ core_step.went (ts, last_test) end
      agree : Agree p core view [] after end
      counted : turn_count (body_shapes body_node (turns_of ts)) ≡ length did
      counts : body_counts body_node (body_shapes body_node (turns_of ts)) ≡ counts_in_all (shapes did)

    -- no more
    done : (k w : ℕ) (t : store.Store) (s after : program_store.Store) (left rest : ℕ) (did : List program_shape.Shape) → Tested w t false s → step.pure [] left s ≡ step.went did rest after → Machine k t did after
    unfolding core_step.repeated core_step.pure step.pure body_counts body_shapes counts_in_all
    done k w t s after left rest did g e = as_it_went (λ x n u. Machine k t x u) [] did left rest s after e
        (record { ts = []; last_test = g.es; end = t; goes = ends k; agree = g.between.agree; counted = refl; counts = refl })
      where
        ends : (k : ℕ) → core_step.repeated k (operations core view.around test_ops) is_one core_turn t ≡ core_step.went ([], g.es) t
        ends zero =
            then_on (operations core view.around test_ops) (λ tested. elim (is_one tested) as (λ _. core_step.Step (List Turn × List Entry)) [ true ↦ core_step.out_of_turns | false ↦ core_step.pure ([], tested) ]) t g.es t g.goes
            ∙ ap (λ b. (elim b as (λ _. core_step.Step (List Turn × List Entry)) [ true ↦ core_step.out_of_turns | false ↦ core_step.pure ([], g.es) ]) t) g.is
        ends (suc k) =
            let more : List Entry → core_step.Step (List Turn × List Entry) = λ tested. core_step.◌>>=◌ (core_turn tested) (λ first. core_step.◌>>=◌ (core_step.repeated k (operations core view.around test_ops) is_one core_turn) (λ x. core_step.pure (first ∷ x.0, x.1))) in
            then_on (operations core view.around test_ops) (λ tested. elim (is_one tested) as (λ _. core_step.Step (List Turn × List Entry)) [ true ↦ more tested | false ↦ core_step.pure ([], tested) ]) t g.es t g.goes
            ∙ ap (λ b. (elim b as (λ _. core_step.Step (List Turn × List Entry)) [ true ↦ more g.es | false ↦ core_step.pure ([], g.es) ]) t) g.is

    abbrev after_test : ℕ → ℕ → Bool → step.Step (List program_shape.Shape)
    after_test zero w b = elim b as (λ _. step.Step (List program_shape.Shape)) [ true ↦ step.out_of_turns | false ↦ step.pure [] ]
    after_test (suc k) w b = elim b as (λ _. step.Step (List program_shape.Shape)) [
      | true ↦ step.◌>>=◌ (turn_step w) (λ x. step.◌>>=◌ (step.repeated k test_step turn_step x.0) (λ others. step.pure (x.1 ∷ others)))
      | false ↦ step.pure []
    ]

    abbrev Goes_on : ℕ → ℕ → Type 0
    Goes_on k most_turns = (w : ℕ) (s after : program_store.Store) (t : store.Store) (left rest : ℕ) (did : List program_shape.Shape) → left ≤ most → Between w s t → step.repeated k test_step turn_step w left s ≡ step.went did rest after → Machine most_turns t did after

    no_turn : (k w : ℕ) (t : store.Store) (s after : program_store.Store) (left rest : ℕ) (did : List program_shape.Shape) (b : Bool) → Tested w t b s → after_test zero w b left s ≡ step.went did rest after → Machine k t did after
    unfolding step.out_of_turns
    no_turn k w t s after left rest did true g e = not_more did rest after e
    no_turn k w t s after left rest did false g e = done k w t s after left rest did g e

    one_turn : (k m w : ℕ) (t : store.Store) (s after : program_store.Store) (left rest : ℕ) (did : List program_shape.Shape) (b : Bool) → Goes_on k m → left ≤ most → Tested w t b s → after_test (suc k) w b left s ≡ step.went did rest after → Machine (suc m) t did after
    unfolding core_step.repeated core_step.pure step.pure body_counts body_shapes counts_in_all
    one_turn k m w t s after left rest did false again enough g e = done (suc m) w t s after left rest did g e
    one_turn k m w t s after left rest did true again enough g e =
        let y = taken_apart (turn_step w) (λ x. step.◌>>=◌ (step.repeated k test_step turn_step x.0) (λ others. step.pure (x.1 ∷ others))) left s did rest after e in
        let f = turn_follows w left y.between s y.store t g.es y.answer enough g.between y.first in
        let z = taken_apart (step.repeated k test_step turn_step y.answer.0) (λ others. step.pure (y.answer.1 ∷ others)) y.between y.store did rest after y.second in
        let others = again y.answer.0 y.store z.store f.1.end y.between z.between z.answer (omega (arith, f.0, enough)) f.1.between z.first in
        let more : List Entry → core_step.Step (List Turn × List Entry) = λ tested. core_step.◌>>=◌ (core_turn tested) (λ first. core_step.◌>>=◌ (core_step.repeated m (operations core view.around test_ops) is_one core_turn) (λ x. core_step.pure (first ∷ x.0, x.1))) in
        as_it_went (λ x n u. Machine (suc m) t x u) (y.answer.1 ∷ z.answer) did z.between rest z.store after z.second
        (record {
          ts = f.1.turn ∷ others.ts;
          last_test = others.last_test;
          end = others.end;
          goes = then_on (operations core view.around test_ops) (λ tested. elim (is_one tested) as (λ _. core_step.Step (List Turn × List Entry)) [ true ↦ more tested | false ↦ core_step.pure ([], tested) ]) t g.es t g.goes
              ∙ ap (λ b. (elim b as (λ _. core_step.Step (List Turn × List Entry)) [ true ↦ more g.es | false ↦ core_step.pure ([], g.es) ]) t) g.is
              ∙ then_on (core_turn g.es) (λ first. core_step.◌>>=◌ (core_step.repeated m (operations core view.around test_ops) is_one core_turn) (λ x. core_step.pure (first ∷ x.0, x.1))) t f.1.turn f.1.end f.1.goes
              ∙ then_on (core_step.repeated m (operations core view.around test_ops) is_one core_turn) (λ (x : List Turn × List Entry). core_step.pure (f.1.turn ∷ x.0, x.1)) f.1.end (others.ts, others.last_test) others.end others.goes;
          agree = others.agree;
          counted = ap suc others.counted;
          counts = ap (λ l. l ++ body_counts body_node (body_shapes body_node (turns_of others.ts))) f.1.counts ∙ ap (λ l. counts_in y.answer.1 ++ l) others.counts;
        })

    machine : (k m : ℕ) → k ≤ m → Goes_on k m
    unfolding step.repeated
    machine zero m le w s after t left rest did enough g e =
        let x = taken_apart (test_step w) (after_test zero w) left s did rest after e in
        let f = test_follows w left x.between s x.store t x.answer g x.first in
        no_turn m w t x.store after x.between rest did x.answer f.1 x.second
    machine (suc k) zero le w s after t left rest did enough g e = absurd (omega (arith, le))
    machine (suc k) (suc m) le w s after t left rest did enough g e =
        let x = taken_apart (test_step w) (after_test (suc k) w) left s did rest after e in
        let f = test_follows w left x.between s x.store t x.answer g x.first in
        one_turn k m w t x.store after x.between rest did x.answer (machine k m (omega (arith, le))) (omega (arith, f.0, enough)) f.1 x.second

    pub machine_goes : (s after : program_store.Store) (t : store.Store) (left rest : ℕ) (did : List program_shape.Shape) → left ≤ most → HoldRightly p view.scope.mems s → Agree p core view [] s t → run_kind p.mems roomy (fsm start tested test state body last next) place left s ≡ step.went did rest after
        → NodeGoes p core most view (node p.mems (length p.counters) view.sources b n (fsm start tested test state body last next)) t after did
    unfolding node run_kind run step.as_long_as step.pure core_step.pure shape_of counts_of counts_in counts_in_all
    machine_goes s after t left rest did enough right a e =
        let x = taken_apart (word p.mems start) (λ first. step.◌>>=◌ (step.as_long_as test_step turn_step first) (λ bodies. step.pure (turned (length bodies) (shapes bodies) ∷ []))) left s did rest after e in
        let still = word_still p view.scope start left x.between x.answer s x.store typed.0.0.0 typed.0.1 x.first in
        let here : Agree p core view [] x.store t = subst (λ v. Agree p core view [] v t) (sym still.1) a in
        let begins = state_takes start view.sources x.answer x.store t (subst (HoldRightly p view.scope.mems) (sym still.1) right) here (word_taken p core h view start s x.store t left x.between x.answer typed.0.0.0 typed.0.1 a x.first) in
        let y = taken_apart (step.as_long_as test_step turn_step x.answer) (λ bodies. step.pure (turned (length bodies) (shapes bodies) ∷ [])) x.between x.store did rest after x.second in
        let fewer : x.between ≤ most = omega (arith, still.0, enough) in
        let all = machine x.between most fewer x.answer x.store y.store (store.hold t n (cells (Some x.answer ∷ []))) x.between y.between y.answer fewer begins.1 y.first in
        let first = (word_taken p core h view start s x.store t left x.between x.answer typed.0.0.0 typed.0.1 a x.first).0 in
        record {
          history = fsm_ran first (turns_of all.ts) all.last_test;
          after = all.end;
          goes = then_on (state_now core plainly most view.around n (word_list p.mems view.sources start)) (λ first. core_step.◌>>=◌ (core_step.repeated most (operations core view.around test_ops) is_one core_turn) (λ x. core_step.pure (fsm_ran first (turns_of x.0) x.1))) t first (store.hold t n (cells (Some x.answer ∷ []))) begins.0
              ∙ then_on (core_step.repeated most (operations core view.around test_ops) is_one core_turn) (λ (x : List Turn × List Entry). core_step.pure (fsm_ran first (turns_of x.0) x.1)) (store.hold t n (cells (Some x.answer ∷ []))) (all.ts, all.last_test) all.end all.goes;
          agree = subst (λ v. Agree p core view [] v all.end) (same_store (turned (length y.answer) (shapes y.answer) ∷ []) did y.between rest y.store after y.second) all.agree;
          counts = ap (λ k. turns k ∷ body_counts body_node (body_shapes body_node (turns_of all.ts))) all.counted ∙ ap (λ l. turns (length y.answer) ∷ l) (all.counts ∙ sym (no_more_counts (counts_in_all (shapes y.answer))))
              ∙ ap (λ l. counts_in_all (shapes l)) (same_answer (turned (length y.answer) (shapes y.answer) ∷ []) did y.between rest y.store after y.second);
        }
