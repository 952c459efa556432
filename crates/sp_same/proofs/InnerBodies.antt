-- An inner body does what its statements do.
use Rattle.std.proofs.Common.{◌≡◌, ℕ, zero, suc, Bool, true, false, ◌&&◌, ◌||◌, List, [], ◌∷◌, ◌++◌, Option, Some, None, refl, sym, ◌∙◌, ap, subst, arith, ◌==◌, if◌then◌else◌}
use Rattle.std.proofs.lemmas.Bool.{false≢true, eqb-true, eq-eqb, or_left, or_right}
use Rattle.std.specs.Prelude.{map, length, Contains, IsTrue}
use Rattle.sp_words.specs.declared.kind.Style.{Style}
use Rattle.sp_words.specs.declared.types.Ty.{Ty}
use Rattle.sp_tree.specs.Expressions as expressions
use Rattle.sp_tree.specs.PlainExpression.{PlainExpr}
use Rattle.sp_tree.specs.PlainProgram.{PlainProgram}
use Rattle.sp_tree.specs.PlainStatement.{PlainStmts, stmt, declare, name, set_reg, set_out, set_sram, enq, no_stmt, more_stmt}
use Rattle.sp_tree.specs.Sequential.{run_all}
use Rattle.sp_tree.specs.Shape as program_shape
use Rattle.sp_tree.specs.Shape.{shapes}
use Rattle.sp_tree.specs.Step as step
use Rattle.sp_tree.specs.Store as program_store
use Rattle.sp_tree.specs.Structure.{own_mems, is_inner}
use Rattle.sp_tree.specs.Typing.{Scope, BodyTyped, after, after_all}
use Rattle.sp_core.specs.Declarations.{is_among}
use Rattle.sp_core.specs.History.{Entry, inner_ran}
use Rattle.sp_core.specs.Operations.{operations}
use Rattle.sp_core.specs.PlainCore.{PlainOp, PlainNode, PlainCore, inner, outer}
use Rattle.sp_core.specs.Scope as counters
use Rattle.sp_core.specs.Scope.{plainly}
use Rattle.sp_core.specs.Sequential.{has_reset, renew_in_body, run}
use Rattle.sp_core.specs.Shape.{shape_of}
use Rattle.sp_core.specs.Step as core_step
use Rattle.sp_core.specs.Store as store
use Rattle.sp_sugar.specs.Agreement.{HasMemories, View, at_run, HaveRooms, Apart, Finds, Agree, GoOn}
use Rattle.sp_sugar.specs.Numbers.{mem_number}
use Rattle.sp_core.specs.declared.operation.OpKind.TheVariants as kind
use Rattle.sp_sugar.specs.Operations.{accesses}
use Rattle.sp_sugar.specs.Registers.{owned_registers}
use Rattle.sp_sugar.specs.Runs.{Run, no_run, with_named, with_computed, with_reset, with_stmt, inner_run, with_ops, source_or}
use Rattle.sp_sugar.specs.Stages.{nothing, stages}
use Rattle.sp_sugar.specs.Uses.{no_more}
use Rattle.sp_sugar.specs.Values.{Source, at_place, in_register, constant, count, stands_for, with_value}
use Rattle.sp_sugar.proofs.Entering.{fresh_apart}
use Rattle.sp_sugar.proofs.GoOnLemmas.{at_rest}
use Rattle.sp_sugar.proofs.InnerRuns.{runs_follow}
use Rattle.sp_sugar.proofs.MemoryLemmas.{changed_elsewhere}
use Rattle.sp_sugar.proofs.NumberLemmas.{either}
use Rattle.sp_sugar.proofs.RunKeeps.{in_back}
use Rattle.sp_sugar.proofs.StepLemmas.{then_on}
use Rattle.sp_same.specs.Counts.{counts_in_all, counts_of}
use Rattle.sp_same.specs.Following.{IsOwn, NodeGoes, BodyFollowed, alone}
use Rattle.sp_same.proofs.Groups.{inner_alone}
use Rattle.sp_same.proofs.Renewed.{in_body, all_renewed}

-- what is visible stays so
pub after_counters : (S : Scope) (body : PlainStmts) → (after_all S body).counters ≡ S.counters
after_counters S no_stmt = refl
after_counters S (more_stmt (stmt place (declare m)) rest) = after_counters (after S (declare m)) rest
after_counters S (more_stmt (stmt place (name v e)) rest) = after_counters (after S (name v e)) rest
after_counters S (more_stmt (stmt place k) rest) = after_counters S rest

pub after_mems : (S : Scope) (body : PlainStmts) (m : ℕ) → Contains S.mems m → Contains (after_all S body).mems m
after_mems S no_stmt m c = c
after_mems S (more_stmt (stmt place (declare k)) rest) m c = after_mems (after S (declare k)) rest m (suc c.0, omega (arith, c.1), c.2)
after_mems S (more_stmt (stmt place (name v e)) rest) m c = after_mems (after S (name v e)) rest m c
after_mems S (more_stmt (stmt place k) rest) m c = after_mems S rest m c

pub after_vals : (S : Scope) (body : PlainStmts) (u : ℕ × Ty) → Contains S.vals u → Contains (after_all S body).vals u
after_vals S no_stmt u c = c
after_vals S (more_stmt (stmt place (declare k)) rest) u c = after_vals (after S (declare k)) rest u c
after_vals S (more_stmt (stmt place (name v e)) rest) u c = after_vals (after S (name v e)) rest u (suc c.0, omega (arith, c.1), c.2)
after_vals S (more_stmt (stmt place k) rest) u c = after_vals S rest u c

among : (m : ℕ) (ms : List ℕ) → Contains ms m → is_among m ms ≡ true
among m [] c = absurd (omega (arith, c.1))
among m (k ∷ ms) (zero, lt, e) = or_left (m == k) (is_among m ms) (eq-eqb m k (sym e))
among m (k ∷ ms) (suc j, lt, e) = or_right (m == k) (is_among m ms) (among m ms (j, omega arith, e))

there : (m : ℕ) (ms : List ℕ) → is_among m ms ≡ true → Contains ms m
there m [] e = absurd (false≢true e)
there m (k ∷ ms) e = either (m == k)
    (λ f. (0, omega arith, sym (eqb-true m k f)))
    (λ f. let c = there m ms (ap (λ b. b || is_among m ms) (sym f) ∙ e) in (suc c.0, omega (arith, c.1), c.2))

apart_from : (ms waits : List ℕ) (m : ℕ) → Apart (ms ++ waits) → Contains waits m → Contains ms m → ⊥
apart_from [] waits m a w c = omega (arith, c.1)
apart_from (k ∷ ms) waits m a w (zero, lt, e) = a.0 (subst (λ y. Contains (ms ++ waits) y) (sym e) (in_back ms waits m w))
apart_from (k ∷ ms) waits m a w (suc j, lt, e) = apart_from ms waits m a.1 w (j, omega arith, e)

chosen_here : (b : Bool) (so_far : Run) (ops : List PlainOp) (k : ℕ) → (if b then with_ops so_far ops else so_far).values.here k ≡ so_far.values.here k
chosen_here true so_far ops k = refl
chosen_here false so_far ops k = refl

module _ (p : PlainProgram) (core : PlainCore) (h : HasMemories p core) where
  -- values of before are found where they were
  named_elsewhere : (run : Run) (v k : ℕ) (e : PlainExpr) → (k ≡ v → ⊥) → (with_named p.mems run v e None).values.here k ≡ run.values.here k
  named_elsewhere run v k e ne = go (stands_for run.values.here e)
    where
      go : (o : Option Source) → (elim o as (λ _. Run) [ Some s ↦ record run { values = with_value run.values v s (source_or (stands_for run.values.elsewhere e) s) } | None ↦ with_computed p.mems run v e None ]).values.here k ≡ run.values.here k
      go (Some s) = changed_elsewhere run.values.here v k s ne
      go None = changed_elsewhere run.values.here v k _ ne

  reset_here : (so_far : Run) (m k : ℕ) → (with_reset p.mems so_far m).values.here k ≡ so_far.values.here k
  reset_here so_far m k = chosen_here (has_reset (expressions.mem p.mems m).kind (expressions.mem p.mems m).start) so_far (accesses kind.Reset (expressions.mem p.mems m).ty (mem_number p.mems m) [] ∷ []) k

  here_still : (S : Scope) (body : PlainStmts) (run : Run) (u : ℕ × Ty) → IsTrue (is_inner body) → BodyTyped p S body → Contains S.vals u → (inner_run p.mems run body).values.here u.0 ≡ run.values.here u.0
  here_still S no_stmt run u i typed c = refl
  here_still S (more_stmt (stmt place (declare m)) rest) run u i typed c = here_still (after S (declare m)) rest (with_stmt p.mems true None run (declare m)) u i typed.1 c ∙ reset_here run m u.0
  here_still S (more_stmt (stmt place (name v e)) rest) run u i typed c =
      here_still (after S (name v e)) rest (with_stmt p.mems true None run (name v e)) u i typed.1 (suc c.0, omega (arith, c.1), c.2) ∙ named_elsewhere run v u.0 e (fresh_apart p core h S v typed.0.0 u c)
  here_still S (more_stmt (stmt place (set_reg m e)) rest) run u i typed c = here_still S rest (with_stmt p.mems true None run (set_reg m e)) u i typed.1 c
  here_still S (more_stmt (stmt place (set_out m e)) rest) run u i typed c = here_still S rest (with_stmt p.mems true None run (set_out m e)) u i typed.1 c
  here_still S (more_stmt (stmt place (set_sram m xs e)) rest) run u i typed c = here_still S rest (with_stmt p.mems true None run (set_sram m xs e)) u i typed.1 c
  here_still S (more_stmt (stmt place (enq m e)) rest) run u i typed c = here_still S rest (with_stmt p.mems true None run (enq m e)) u i typed.1 c
  here_still S (more_stmt (stmt place k) rest) run u i typed c = absurd (false≢true i)

  found_out : (around : counters.Scope) (all : List Entry) (t u : store.Store) (source : Source) (w x : ℕ) → Finds p core around [] t source w → Finds p core around all u source x → Finds p core around [] u source x
  found_out around all t u (at_place k) w x f g = absurd (omega (arith, f.0))
  found_out around all t u (in_register r) w x f g = g
  found_out around all t u (constant c) w x f g = g
  found_out around all t u (count c) w x f g = g

  module _ (roomy : List ℕ) (body : PlainStmts) (rooms : HaveRooms p roomy core body) (most : ℕ) (view : View) (is : IsTrue (is_inner body)) (typed : BodyTyped p view.scope body) (apart : Apart (own_mems body ++ view.waiting))
      (own : (m : ℕ) → Contains (own_mems body) m → IsOwn p view.scope m) (resets : (m : ℕ) → view.resets m ≡ false) where
    abbrev body_run : Run
    body_run = inner_run p.mems (no_run view.sources) body

    abbrev owned : List ℕ
    owned = map (mem_number p.mems) (own_mems body)

    -- its memories are waiting, and its reset operations make some of them fresh
    abbrev begun : View
    begun = record view { waiting = own_mems body ++ view.waiting; resets = λ m. is_among m (own_mems body) }

    abbrev resetting : View
    resetting = record view { resets = λ m. is_among m (own_mems body) }

    abbrev pub ended : View
    ended = at_run (record begun { scope = after_all view.scope body; waiting = view.waiting }) body_run

    -- its memories were made fresh, and its operations went on
    pub record Ran (t : store.Store) (after : program_store.Store) (did : List program_shape.Shape) : Type 0 where
      pub renewed : List (Unit {0})
      pub start : store.Store
      pub renews : core_step.in_order (renew_in_body core plainly most) owned t ≡ core_step.went renewed start
      pub goes : GoOn p core ended [] body_run.ops start after [] []
      pub nothing_did : did ≡ []

    pub ran : (s after : program_store.Store) (t : store.Store) (left rest : ℕ) (did : List program_shape.Shape) → Agree p core view [] s t → run_all p.mems roomy body left s ≡ step.went did rest after → Ran t after did
    ran s after t left rest did a e =
        let a2 : Agree p core resetting [] s t = record {
          mems = a.mems;
          vals = a.vals;
          counts = a.counts;
          waiting = λ m c. let x = a.waiting m c in record { exists = x.exists; on_chip = x.on_chip; unseen = x.unseen; holds = λ f. x.holds (ap (λ b. b && has_reset (expressions.mem p.mems m).kind (expressions.mem p.mems m).start) (resets m)) };
          registers = a.registers;
        } in
        let fresh = all_renewed p core h most (renew_in_body core plainly most) (own_mems body) resetting s t
        (λ w m t c o ne b. in_body p core h (record resetting { waiting = w }) s m o ne most t b (among m (own_mems body) c)) own apart a2 in
        let g = runs_follow p core h view.waiting roomy body rooms begun (no_run view.sources) fresh.1 s after left rest did (at_rest p core begun [] s fresh.1 fresh.3) is typed apart refl e in
        record { renewed = fresh.0; start = fresh.1; renews = fresh.2; goes = g.1; nothing_did = g.0 }

    -- what is visible outside agrees then
    pub left_group : (all : List Entry) (s after : program_store.Store) (t u : store.Store) → Agree p core view [] s t → Agree p core ended all after u → Agree p core view [] after u
    left_group all s after t u a g = record {
      mems = λ m c. g.mems m (after_mems view.scope body m c);
      vals = λ v c. found_out view.around all t u (view.sources v.0) (s.values v.0) (after.values v.0) (a.vals v c)
          (subst (λ x. Finds p core view.around all u x (after.values v.0)) (here_still view.scope body (no_run view.sources) v is typed c) (g.vals v (after_vals view.scope body v c)));
      counts = λ k c. g.counts k (subst (λ l. Contains l k) (sym (after_counters view.scope body)) c);
      waiting = λ m c. let x = g.waiting m c in record {
        exists = x.exists;
        on_chip = x.on_chip;
        unseen = λ y. x.unseen (after_mems view.scope body m y);
        holds = λ f. x.holds (ap (λ b. b && has_reset (expressions.mem p.mems m).kind (expressions.mem p.mems m).start) (not_among m c));
      };
      registers = g.registers;
    }
      where
        not_among : (m : ℕ) → Contains view.waiting m → is_among m (own_mems body) ≡ false
        not_among m c = either (is_among m (own_mems body)) (λ f. absurd (apart_from (own_mems body) view.waiting m apart c (there m (own_mems body) f))) (λ f. f)

    pub body_goes : (n : ℕ) (style : Style) → BodyFollowed p core roomy most view (alone p view.sources n style body) body
    unfolding shape_of counts_of counts_in_all
    body_goes n style s after t left rest did enough a e =
        let g = ran s after t left rest did a e in
        let one : PlainNode = inner [] owned body_run.ops None in
        let other : PlainNode = outer [] style (owned ++ owned_registers n body no_more) (stages p.mems (length p.counters) (no_run view.sources) n body no_more nothing) in
        subst (λ b. NodeGoes p core most view (if b then one else other) t after did) (sym is) (record {
          history = inner_ran [] [] (g.goes.all ∷ []);
          after = g.goes.after;
          goes = inner_alone core most owned body_run.ops None view.around g.goes.all t g.goes.after
              (then_on (core_step.in_order (renew_in_body core plainly most) owned) (λ _. operations core view.around body_run.ops) t g.renewed g.start g.renews ∙ g.goes.goes);
          agree = left_group g.goes.all s after t g.goes.after a g.goes.agree;
          counts = ap (λ l. counts_in_all (shapes l)) (sym g.nothing_did);
        })
