-- A Reduce or a Fold over an inner body does what its statement does.
use Rattle.std.proofs.Common.{◌≡◌, ℕ, suc, ◌+◌, ◌≤◌, Bool, true, false, List, [], ◌∷◌, ◌++◌, Option, Some, refl, sym, ◌∙◌, ap, subst, arith, length-append, ◌==◌, if◌then◌else◌}
use Rattle.std.specs.Prelude.{ℤ, map, length, slice_set, Contains, IsTrue}
use Rattle.sp_words.specs.declared.kind.Kind.TheVariants.{Reg}
use Rattle.sp_words.specs.declared.kind.Style.{Style}
use Rattle.sp_words.specs.declared.types.Ty.{Ty}
use Rattle.sp_words.specs.Memory.{cells}
use Rattle.sp_tree.specs.declared.statement.Comb.{Comb}
use Rattle.sp_tree.specs.Accesses as program
use Rattle.sp_tree.specs.Elements.{tuples}
use Rattle.sp_tree.specs.Expressions as expressions
use Rattle.sp_tree.specs.Expressions.{word}
use Rattle.sp_tree.specs.Operators.{combined}
use Rattle.sp_tree.specs.PlainExpression.{PlainExpr, type_of}
use Rattle.sp_tree.specs.PlainProgram.{PlainProgram}
use Rattle.sp_tree.specs.PlainStatement.{PlainCounter, PlainStmts, reduce}
use Rattle.sp_tree.specs.Sequential.{combining, counter_range, count_now, assign, run_kind, run_all}
use Rattle.sp_tree.specs.Shape as program_shape
use Rattle.sp_tree.specs.Shape.{shapes, ran as ran_shape, looped}
use Rattle.sp_tree.specs.Step as step
use Rattle.sp_tree.specs.Store as program_store
use Rattle.sp_tree.specs.Structure.{own_mems, is_inner}
use Rattle.sp_tree.specs.Typing.{Typed, IsMem, BodyTyped, CountersTyped, with_counters, after_all}
use Rattle.sp_core.specs.declared.operation.OpKind.TheVariants as kind
use Rattle.sp_core.specs.History.{Entry, Bounds, left_out, touched, word_of, word_at, inner_ran}
use Rattle.sp_core.specs.Operations.{done_by, operation, operations}
use Rattle.sp_core.specs.Operators.{two_word, chosen}
use Rattle.sp_core.specs.PlainCore as plain
use Rattle.sp_core.specs.PlainCore.{PlainOp, PlainNode, PlainCore, inner}
use Rattle.sp_core.specs.Scope as counters
use Rattle.sp_core.specs.Scope.{Loop, plainly, counts_of, group_values, is_live, in_group}
use Rattle.sp_core.specs.Sequential.{bounds, renew_in_body, run}
use Rattle.sp_core.specs.Shape.{shape_of}
use Rattle.sp_core.specs.Step as core_step
use Rattle.sp_core.specs.Store as store
use Rattle.sp_sugar.specs.Agreement.{HasMemories, View, HaveRooms, Apart, IsAdded, Finds, Agree, GoOn}
use Rattle.sp_sugar.specs.Combination.{operator_of, fold_ops, reduce_ops}
use Rattle.sp_sugar.specs.Early.{is_early, registers_for, counters_of, bounds_of}
use Rattle.sp_sugar.specs.Numbers.{mem_number}
use Rattle.sp_sugar.specs.Operations.{Code, read_op, under}
use Rattle.sp_sugar.specs.Runs.{Run, no_run, next_code, inner_run}
use Rattle.sp_sugar.specs.Registers.{ending_of}
use Rattle.sp_sugar.specs.Stages.{Combines, folds, reduces, combines, outer_node, body_node, stages, node}
use Rattle.sp_sugar.specs.Values.{in_register, Sources}
use Rattle.sp_sugar.proofs.Entering.{same_mems, same_vals}
use Rattle.sp_sugar.proofs.Follows.{follows}
use Rattle.sp_sugar.proofs.GoOnLemmas.{then_others}
use Rattle.sp_sugar.proofs.MemoryLemmas.{changed_here}
use Rattle.sp_sugar.proofs.NumberLemmas.{either}
use Rattle.sp_sugar.proofs.StepLemmas.{same_answer, same_store, taken_apart, then_on}
use Rattle.sp_same.specs.Counts.{loop, counts_in, counts_in_all, counts_of as node_counts}
use Rattle.sp_same.specs.Following.{SourcesSeen, AreSpare, IsOwn, AreReady, NodeGoes}
use Rattle.sp_same.proofs.BoundsTaken.{IsLoop, core_loops, AreLoops, are_loops, SameValues, iterations, bounds_taken}
use Rattle.sp_same.proofs.Combining.{same_combined, fold_goes, reads, reduce_goes}
use Rattle.sp_same.proofs.Counting.{enter, outside, leave}
use Rattle.sp_same.proofs.Groups.{inner_group}
use Rattle.sp_same.proofs.InnerBodies.{after_mems, ended, Ran, ran, left_group}
use Rattle.sp_same.proofs.Picks.{read_found}
use Rattle.sp_same.proofs.Quietly.{Pairs}
use Rattle.sp_same.proofs.Registers.{agree_written, agree_kept}
use Rattle.sp_same.proofs.Turns.{turn_falls, each_pair}

-- a loop has a counter
pub first_counter : (p : PlainProgram) (sources : Sources) (b : ℕ) (loops : List PlainCounter) → 1 ≤ length loops → (c : plain.PlainCounter) × (more : List plain.PlainCounter) × (c ∷ more ≡ counters_of p.mems sources b loops)
first_counter p sources b [] le = absurd (omega (arith, le))
first_counter p sources b (c ∷ loops) le = (_, _, refl)

module _ (p : PlainProgram) (core : PlainCore) (h : HasMemories p core) (roomy : List ℕ) (body : PlainStmts) (rooms : HaveRooms p roomy core body) (most : ℕ) (view : View) (seen : SourcesSeen view.scope view.sources) (loops : List PlainCounter) (typed : CountersTyped p view.scope loops)
    (is : IsTrue (is_inner body)) (body_typed : BodyTyped p (with_counters view.scope loops) body) (apart : Apart (own_mems body ++ view.waiting)) (own : (m : ℕ) → Contains (own_mems body) m → IsOwn p (with_counters view.scope loops) m)
    (resets : (m : ℕ) → view.resets m ≡ false) (acc : ℕ) (e : PlainExpr) (comb : Comb) (is_acc : IsMem p view.scope acc Reg (type_of e)) (e_typed : Typed p (after_all (with_counters view.scope loops) body) e) (place : ℕ) where
  abbrev ty : Ty
  ty = type_of e

  abbrev so_far : Run
  so_far = inner_run p.mems (no_run view.sources) body

  abbrev x : Code
  x = next_code p.mems so_far e

  abbrev ops : List PlainOp
  ops = so_far.ops ++ x.ops

  abbrev mems_owned : List ℕ
  mems_owned = map (mem_number p.mems) (own_mems body)

  abbrev inside : counters.Scope → List (ℕ × Option ℕ) → View
  inside around regs = record view { scope = with_counters view.scope loops; around = around; registers = regs }

  -- after the body's statements and the word
  abbrev at_end : counters.Scope → List (ℕ × Option ℕ) → View
  at_end around regs = ended p core h roomy body rooms most (inside around regs) is body_typed apart own resets

  acc_there : (around : counters.Scope) (regs : List (ℕ × Option ℕ)) → IsMem p (at_end around regs).scope acc Reg ty
  acc_there around regs = record { seen = after_mems (with_counters view.scope loops) body acc (subst (λ l. Contains l acc) (sym (same_mems view.scope loops)) is_acc.seen); is_kind = is_acc.is_kind; is_type = is_acc.is_type }

  record Worded (around : counters.Scope) (regs : List (ℕ × Option ℕ)) (t : store.Store) (s : program_store.Store) (w : ℕ) (did : List program_shape.Shape) : Type 0 where
    renewed : List (Unit {0})
    start : store.Store
    renews : core_step.in_order (renew_in_body core plainly most) mems_owned t ≡ core_step.went renewed start
    goes : GoOn p core (at_end around regs) [] ops start s (x.word ∷ []) (w ∷ [])
    nothing_did : did ≡ []

  worded : (around : counters.Scope) (regs : List (ℕ × Option ℕ)) (s s2 s3 : program_store.Store) (t : store.Store) (left between rest w : ℕ) (did : List program_shape.Shape) → Agree p core (inside around regs) [] s t
      → run_all p.mems roomy body left s ≡ step.went did between s2 → word p.mems e between s2 ≡ step.went w rest s3 → Worded around regs t s3 w did
  worded around regs s s2 s3 t left between rest w did a goes word_goes =
      let r : Ran p core h roomy body rooms most (inside around regs) is body_typed apart own resets t s2 did = ran p core h roomy body rooms most (inside around regs) is body_typed apart own resets s s2 t left between did a goes in
      let f = follows p core h (at_end around regs) e (length so_far.ops) r.goes.all s2 s3 r.goes.after between rest w (omega (arith, r.goes.counted)) e_typed r.goes.agree word_goes in
      record {
        renewed = r.renewed;
        start = r.start;
        renews = r.renews;
        goes = then_others p core (at_end around regs) [] so_far.ops x.ops r.start s2 s3 [] (x.word ∷ []) [] (w ∷ []) r.goes f.1;
        nothing_did = r.nothing_did;
      }

  -- an iteration of the program
  abbrev iteration : Bool × List ℕ → step.Step program_shape.Shape
  iteration it = step.◌>>◌ step.turn (step.◌>>◌ (count_now loops it.1) (step.◌>>=◌ (run_all p.mems roomy body) (λ did. step.◌>>=◌ (word p.mems e) (λ w. step.◌>>◌ (assign p.mems comb acc 0 it.0 w place) (step.pure (ran_shape (shapes did)))))))

  -- its parts
  record Iterated (combines : Bool) (ws : List ℕ) (around : counters.Scope) (s after : program_store.Store) (t : store.Store) (a : program_shape.Shape) : Type 0 where
    did : List program_shape.Shape
    left : ℕ
    between : ℕ
    later : ℕ
    rest : ℕ
    s1 : program_store.Store
    s2 : program_store.Store
    s3 : program_store.Store
    w : ℕ
    unit : Unit {0}
    entered : Agree p core (inside around view.registers) [] s1 t
    ran_on : run_all p.mems roomy body left s1 ≡ step.went did between s2
    word_is : word p.mems e between s2 ≡ step.went w later s3
    assigns : assign p.mems comb acc 0 combines w place later s3 ≡ step.went unit rest after
    shape : ran_shape (shapes did) ≡ a

  iterated : (ls : List Loop) (numbers : Pairs IsLoop loops ls) (combines : Bool) (ws : List ℕ) (vs : List ℤ) (left rest : ℕ) (s after : program_store.Store) (t : store.Store) (a : program_shape.Shape) → SameValues p view.sources ls ws vs → Agree p core view [] s t
      → iteration (combines, ws) left s ≡ step.went a rest after → Iterated combines ws (in_group view.around ls vs) s after t a
  unfolding step.pure
  iterated ls numbers combines ws vs left rest s after t a same g goes =
      let last : List program_shape.Shape → ℕ → step.Step program_shape.Shape = λ did w. step.◌>>◌ (assign p.mems comb acc 0 combines w place) (step.pure (ran_shape (shapes did))) in
      let c = taken_apart step.turn (λ _. step.◌>>◌ (count_now loops ws) (step.◌>>=◌ (run_all p.mems roomy body) (λ did. step.◌>>=◌ (word p.mems e) (last did)))) left s a rest after goes in
      let fell = turn_falls c.answer left c.between s c.store c.first in
      let d = taken_apart (count_now loops ws) (λ _. step.◌>>=◌ (run_all p.mems roomy body) (λ did. step.◌>>=◌ (word p.mems e) (last did))) c.between c.store a rest after c.second in
      let f = taken_apart (run_all p.mems roomy body) (λ did. step.◌>>=◌ (word p.mems e) (last did)) d.between d.store a rest after d.second in
      let y = taken_apart (word p.mems e) (last f.answer) f.between f.store a rest after f.second in
      let z = taken_apart (assign p.mems comb acc 0 combines y.answer place) (λ _. step.pure (ran_shape (shapes f.answer))) y.between y.store a rest after y.second in
      let entered = enter p core view loops ls ws vs (is_live ls vs) c.store d.store t d.answer c.between d.between numbers same.0 same.1 typed.binders seen (subst (λ v. Agree p core view [] v t) (sym fell.1) g) d.first in
      record {
        did = f.answer;
        left = d.between;
        between = f.between;
        later = y.between;
        rest = z.between;
        s1 = d.store;
        s2 = f.store;
        s3 = y.store;
        w = y.answer;
        unit = z.answer;
        entered = entered.1;
        ran_on = f.first;
        word_is = y.first;
        assigns = z.first ∙ ap (λ v. step.went z.answer z.between v) (same_store (ran_shape (shapes f.answer)) a z.between rest z.store after z.second);
        shape = same_answer (ran_shape (shapes f.answer)) a z.between rest z.store after z.second;
      }

  nothing_counted : (did : List program_shape.Shape) (a : program_shape.Shape) → did ≡ [] → ran_shape (shapes did) ≡ a → counts_in a ≡ []
  unfolding counts_in counts_in_all
  nothing_counted did a f g = ap counts_in (sym g) ∙ ap (λ l. counts_in_all (shapes l)) f

  -- a Fold
  abbrev fold_body : List PlainOp
  fold_body = ops ++ fold_ops (length ops) x.word (mem_number p.mems acc) ty comb

  fold_iteration : (ls : List Loop) (numbers : Pairs IsLoop loops ls) (it : Bool × List ℕ) (vs : List ℤ) (left rest : ℕ) (s after : program_store.Store) (t : store.Store) (a : program_shape.Shape) → (it.0 ≡ true) × SameValues p view.sources ls it.1 vs → Agree p core view [] s t
      → iteration it left s ≡ step.went a rest after
      → (es : List Entry) × (u : store.Store) × (inner_group core most mems_owned fold_body (in_group view.around ls vs) t ≡ core_step.went es u) × Agree p core view [] after u × (counts_in a ≡ [])
  fold_iteration ls numbers it vs left rest s after t a same g goes =
      let around : counters.Scope = in_group view.around ls vs in
      let i = iterated ls numbers it.0 it.1 vs left rest s after t a same.1 g goes in
      let k = worded around view.registers i.s1 i.s2 i.s3 t i.left i.between i.later i.w i.did i.entered i.ran_on i.word_is in
      let f = fold_goes p core h (at_end around view.registers) acc ty (acc_there around view.registers) comb ops k.start i.s3 x.word i.w k.goes place i.later i.rest i.unit after
      (ap (λ b. assign p.mems comb acc 0 b i.w place i.later i.s3) (sym same.0) ∙ i.assigns) in
      let out = left_group p core h roomy body rooms most (inside around view.registers) is body_typed apart own resets f.all i.s1 after t f.after i.entered f.agree in (
        f.all,
        f.after,
        then_on (core_step.in_order (renew_in_body core plainly most) mems_owned) (λ _. operations core around fold_body) t k.renewed k.start k.renews ∙ f.goes,
        leave p core view loops around after f.after (λ j c. outside p core view.scope view.around loops ls vs (is_live ls vs) j numbers typed.binders c) seen out,
        nothing_counted i.did a k.nothing_did i.shape,
      )

  -- a Reduce, by the register that tells whether it has begun
  module _ (begun : ℕ) (added : IsAdded p core begun) (before : AreSpare begun (suc begun) view) where
    abbrev reduce_body : List PlainOp
    reduce_body = ops ++ reduce_ops (length ops) x.word (mem_number p.mems acc) begun ty comb

    abbrev Begun : ℕ → store.Store → Type 0
    Begun bk t = Finds p core view.around [] t (in_register begun) bk

    before_inside : (around : counters.Scope) → AreSpare begun (suc begun) (inside around view.registers)
    before_inside around = (λ v c. before.0 v (subst (λ l. Contains l v) (same_vals view.scope loops) c), before.1)

    abbrev Finished : (bk : ℕ) → List Loop → List ℤ → program_store.Store → store.Store → program_shape.Shape → Type 0
    Finished bk ls vs after t a = (es : List Entry) × (u : store.Store) × (inner_group core most mems_owned reduce_body (in_group view.around ls vs) t ≡ core_step.went es u) × (Agree p core view [] after u × Begun 1 u) × (counts_in a ≡ [])

    -- after the word, by what the accumulator takes
    module _ (ls : List Loop) (numbers : Pairs IsLoop loops ls) (ws : List ℕ) (vs : List ℤ) (combines : Bool) (s after : program_store.Store) (t : store.Store) (a : program_shape.Shape) (bk : ℕ) (b : Begun bk t) (i : Iterated combines ws (in_group view.around ls vs) s after t a) where
      abbrev around : counters.Scope
      around = in_group view.around ls vs

      abbrev regs : List (ℕ × Option ℕ)
      regs = (begun, Some bk) ∷ view.registers

      entered_too : Agree p core (inside around regs) [] i.s1 t
      entered_too = agree_kept p core h (inside around view.registers) i.s1 t (begun, Some bk) b i.entered

      k : Worded around regs t i.s3 i.w i.did
      k = worded around regs i.s1 i.s2 i.s3 t i.left i.between i.later i.w i.did entered_too i.ran_on i.word_is

      finished : (e1 : Entry) (c : ℕ) → chosen bk (two_word (operator_of comb) ty (word_of e1) i.w) i.w ≡ c
          → ((all : List Entry) (u : store.Store) → word_at all (length ops) ≡ bk → Agree p core (at_end around regs) all i.s3 u → operation core around (under (length ops) (read_op ty (mem_number p.mems acc) [])) all u ≡ core_step.went e1 u)
          → after ≡ program_store.hold i.s3 acc (cells (slice_set (program_store.cells_of (i.s3.held acc)) 0 (Some c))) → Finished bk ls vs after t a
      finished e1 c same first ends =
          let f = reduce_goes p core h (at_end around regs) acc ty (acc_there around regs) comb ops k.start i.s3 x.word i.w k.goes begun added bk (0, omega arith, refl) e1 c same first in
          let there : program_store.Store = program_store.hold i.s3 acc (cells (slice_set (program_store.cells_of (i.s3.held acc)) 0 (Some c))) in
          let out = left_group p core h roomy body rooms most (inside around regs) is body_typed apart own resets f.all i.s1 there t f.end entered_too f.agree in
          let fewer : Agree p core (inside around view.registers) [] there f.end = record {
            mems = out.mems;
            vals = out.vals;
            counts = out.counts;
            waiting = λ m c. let y = out.waiting m c in record { exists = y.exists; on_chip = y.on_chip; unseen = y.unseen; holds = y.holds };
            registers = λ y c. out.registers y (suc c.0, omega (arith, c.1), c.2);
          } in
          let end : store.Store = store.hold f.end begun (cells (Some 1 ∷ [])) in
          let wrote = agree_written p core h (inside around view.registers) [] there f.end begun 1 added (before_inside around) fewer in (
            f.entries,
            end,
            then_on (core_step.in_order (renew_in_body core plainly most) mems_owned) (λ _. operations core around reduce_body) t k.renewed k.start k.renews ∙ f.goes,
            (subst (λ v. Agree p core view [] v end) (sym ends) (leave p core view loops around there end (λ j c. outside p core view.scope view.around loops ls vs (is_live ls vs) j numbers typed.binders c) seen wrote), (added, changed_here f.end begun begun (Some (cells (Some 1 ∷ []))) refl)),
            nothing_counted i.did a k.nothing_did i.shape,
          )

      -- the first word
      begins : combines ≡ false → bk ≡ 0 → Finished bk ls vs after t a
      unfolding step.read step.change step.◌>>=◌ core_step.pure
      begins isn none =
          let into : ℕ → program_store.Store = λ c. program_store.hold i.s3 acc (cells (slice_set (program_store.cells_of (i.s3.held acc)) 0 (Some c))) in
          let assigns : step.went tt i.later (into i.w) ≡ step.went i.unit i.rest after = ap (λ b. assign p.mems comb acc 0 b i.w place i.later i.s3) (sym isn) ∙ i.assigns in
          finished left_out i.w (ap (λ y. chosen y (two_word (operator_of comb) ty 0 i.w) i.w) none)
          (λ all u e a. ap (λ y. (elim (y == 0) as (λ _. core_step.Step Entry) [ true ↦ core_step.pure left_out | false ↦ done_by core around kind.Read ty (Some (mem_number p.mems acc)) [] ]) u) (e ∙ none))
          (sym (same_store tt i.unit i.later i.rest (into i.w) after assigns))

      -- another one
      goes_on : combines ≡ true → bk ≡ 1 → Finished bk ls vs after t a
      unfolding step.read step.change step.◌>>=◌ core_step.pure
      goes_on is_so one =
          let ty2 : Ty = (expressions.mem p.mems acc).ty in
          let assigns : assign p.mems comb acc 0 true i.w place i.later i.s3 ≡ step.went i.unit i.rest after = ap (λ b. assign p.mems comb acc 0 b i.w place i.later i.s3) (sym is_so) ∙ i.assigns in
          let y = taken_apart (program.read_cell acc 0 place) (λ v. program.write_cell acc 0 (combined comb ty2 v i.w)) i.later i.s3 i.unit i.rest after assigns in
          let found = read_found acc 0 place y.answer i.later y.between i.s3 y.store y.first in
          let into : program_store.Store → ℕ → program_store.Store = λ u c. program_store.hold u acc (cells (slice_set (program_store.cells_of (u.held acc)) 0 (Some c))) in
          finished (touched [] y.answer) (combined comb ty2 y.answer i.w)
          (ap (λ z. chosen z (two_word (operator_of comb) ty y.answer i.w) i.w) one ∙ same_combined comb ty y.answer i.w ∙ ap (λ z. combined comb z y.answer i.w) (sym is_acc.is_type))
          (λ all u e a. ap (λ z. (elim (z == 0) as (λ _. core_step.Step Entry) [ true ↦ core_step.pure left_out | false ↦ done_by core around kind.Read ty (Some (mem_number p.mems acc)) [] ]) u) (e ∙ one)
          ∙ reads p core h (at_end around regs) acc ty (acc_there around regs) comb ops k.start i.s3 x.word i.w k.goes all u y.answer a found.0)
          (sym (same_store tt i.unit y.between i.rest (into y.store (combined comb ty2 y.answer i.w)) after y.second) ∙ ap (λ u. into u (combined comb ty2 y.answer i.w)) found.1)

    abbrev core_iteration : List Loop → List ℤ → core_step.Step (List Entry)
    core_iteration ls vs = inner_group core most mems_owned reduce_body (in_group view.around ls vs)

    -- those after the first
    later_iteration : (ls : List Loop) (numbers : Pairs IsLoop loops ls) (it : Bool × List ℕ) (vs : List ℤ) (left rest : ℕ) (s after : program_store.Store) (t : store.Store) (a : program_shape.Shape) → (it.0 ≡ true) × SameValues p view.sources ls it.1 vs → Agree p core view [] s t × Begun 1 t
        → iteration it left s ≡ step.went a rest after → Finished 1 ls vs after t a
    later_iteration ls numbers it vs left rest s after t a same g goes = goes_on ls numbers it.1 vs it.0 s after t a 1 g.1 (iterated ls numbers it.0 it.1 vs left rest s after t a same.1 g.0 goes) same.0 refl

    first_iteration : (ls : List Loop) (numbers : Pairs IsLoop loops ls) (ws : List ℕ) (vs : List ℤ) (left rest : ℕ) (s after : program_store.Store) (t : store.Store) (a : program_shape.Shape) → SameValues p view.sources ls ws vs → Agree p core view [] s t → Begun 0 t
        → iteration (false, ws) left s ≡ step.went a rest after → Finished 0 ls vs after t a
    first_iteration ls numbers ws vs left rest s after t a same g b goes = begins ls numbers ws vs false s after t a 0 b (iterated ls numbers false ws vs left rest s after t a same g goes) refl refl

  -- each further word is combined
  all_combine : (ls : List Loop) (xs : List (List ℕ)) (ys : List (List ℤ)) → Pairs (SameValues p view.sources ls) xs ys → Pairs (λ (it : Bool × List ℕ) vs. (it.0 ≡ true) × SameValues p view.sources ls it.1 vs) (map (λ others. (true, others)) xs) ys
  all_combine ls [] [] q = tt
  all_combine ls [] (y ∷ ys) q = absurd q
  all_combine ls (x ∷ xs) [] q = absurd q
  all_combine ls (x ∷ xs) (y ∷ ys) q = ((refl, q.0), all_combine ls xs ys q.1)

  counted_nothing : (al : List program_shape.Shape) (bs : List (List Entry)) → Pairs (λ a (es : List Entry). counts_in a ≡ []) al bs → counts_in_all (shapes al) ≡ []
  unfolding counts_in_all
  counted_nothing [] [] q = refl
  counted_nothing [] (b ∷ bs) q = refl
  counted_nothing (a ∷ al) [] q = absurd q
  counted_nothing (a ∷ al) (b ∷ bs) q = ap (λ l. l ++ counts_in_all (shapes al)) q.0 ∙ counted_nothing al bs q.1

  -- all iterations
  record All_ran (core_it : List ℤ → core_step.Step (List Entry)) (ys : List (List ℤ)) (t : store.Store) (al : List program_shape.Shape) (after : program_store.Store) : Type 0 where
    groups : List (List Entry)
    end : store.Store
    grouped : core_step.in_order core_it ys t ≡ core_step.went groups end
    agree : Agree p core view [] after end
    nothing : counts_in_all (shapes al) ≡ []

  all_folded : (ls : List Loop) (numbers : Pairs IsLoop loops ls) (xs : List (List ℕ)) (ys : List (List ℤ)) (left rest : ℕ) (s after : program_store.Store) (t : store.Store) (al : List program_shape.Shape) → Pairs (SameValues p view.sources ls) xs ys → Agree p core view [] s t
      → step.in_order iteration (combining true xs) left s ≡ step.went al rest after → All_ran (λ vs. inner_group core most mems_owned fold_body (in_group view.around ls vs)) ys t al after
  all_folded ls numbers xs ys left rest s after t al q g goes =
      let r = each_pair iteration (λ vs. inner_group core most mems_owned fold_body (in_group view.around ls vs)) (λ (it : Bool × List ℕ) vs. (it.0 ≡ true) × SameValues p view.sources ls it.1 vs) (λ a (es : List Entry). counts_in a ≡ []) (λ left s t. Agree p core view [] s t)
      (fold_iteration ls numbers) (combining true xs) ys left rest s after t al (all_pairs xs ys q) g goes in
      record { groups = r.0; end = r.1; grouped = r.2; agree = r.3; nothing = counted_nothing al r.0 r.4 }
    where
      all_pairs : (xs : List (List ℕ)) (ys : List (List ℤ)) → Pairs (SameValues p view.sources ls) xs ys → Pairs (λ (it : Bool × List ℕ) vs. (it.0 ≡ true) × SameValues p view.sources ls it.1 vs) (combining true xs) ys
      all_pairs [] [] q = tt
      all_pairs [] (y ∷ ys) q = absurd q
      all_pairs (x ∷ xs) [] q = absurd q
      all_pairs (x ∷ xs) (y ∷ ys) q = ((refl, q.0), all_combine ls xs ys q.1)

  module _ (begun : ℕ) (added : IsAdded p core begun) (before : AreSpare begun (suc begun) view) where
    all_reduced : (ls : List Loop) (numbers : Pairs IsLoop loops ls) (xs : List (List ℕ)) (ys : List (List ℤ)) (left rest : ℕ) (s after : program_store.Store) (t : store.Store) (al : List program_shape.Shape) → Pairs (SameValues p view.sources ls) xs ys → Agree p core view [] s t → Finds p core view.around [] t (in_register begun) 0
        → step.in_order iteration (combining false xs) left s ≡ step.went al rest after → All_ran (core_iteration begun added before ls) ys t al after
    unfolding step.in_order step.pure core_step.in_order core_step.pure counts_in_all
    all_reduced ls numbers [] [] left rest s after t al q g b goes = record {
      groups = [];
      end = t;
      grouped = refl;
      agree = subst (λ v. Agree p core view [] v t) (same_store [] al left rest s after goes) g;
      nothing = ap (λ l. counts_in_all (shapes l)) (sym (same_answer [] al left rest s after goes));
    }
    all_reduced ls numbers [] (y ∷ ys) left rest s after t al q g b goes = absurd q
    all_reduced ls numbers (x ∷ xs) [] left rest s after t al q g b goes = absurd q
    all_reduced ls numbers (ws ∷ xs) (vs ∷ ys) left rest s after t al q g b goes =
        let others : List (Bool × List ℕ) = map (λ others. (true, others)) xs in
        let core_it : List ℤ → core_step.Step (List Entry) = core_iteration begun added before ls in
        let c = taken_apart (iteration (false, ws)) (λ first. step.◌>>=◌ (step.in_order iteration others) (λ more. step.pure (first ∷ more))) left s al rest after goes in
        let d = taken_apart (step.in_order iteration others) (λ more. step.pure (c.answer ∷ more)) c.between c.store al rest after c.second in
        let one = first_iteration begun added before ls numbers ws vs left c.between s c.store t c.answer q.0 g b c.first in
        let r = each_pair iteration core_it (λ (it : Bool × List ℕ) vs. (it.0 ≡ true) × SameValues p view.sources ls it.1 vs) (λ a (es : List Entry). counts_in a ≡ []) (λ left s t. Agree p core view [] s t × Finds p core view.around [] t (in_register begun) 1)
        (later_iteration begun added before ls numbers) others ys c.between d.between c.store d.store one.1 d.answer (all_combine ls xs ys q.1) one.3 d.first in
        record {
          groups = one.0 ∷ r.0;
          end = r.1;
          grouped = then_on (core_it vs) (λ first. core_step.◌>>=◌ (core_step.in_order core_it ys) (λ more. core_step.pure (first ∷ more))) t one.0 one.1 one.2
              ∙ then_on (core_step.in_order core_it ys) (λ more. core_step.pure (one.0 ∷ more)) one.1 r.0 r.1 r.2;
          agree = subst (λ v. Agree p core view [] v r.1) (same_store (c.answer ∷ d.answer) al d.between rest d.store after d.second) r.3.0;
          nothing = sym (ap (λ l. counts_in_all (shapes l)) (same_answer (c.answer ∷ d.answer) al d.between rest d.store after d.second)) ∙ ap (λ l. l ++ counts_in_all (shapes d.answer)) one.4 ∙ counted_nothing d.answer r.0 r.4;
        }

  -- the loop
  module _ (b left rest : ℕ) (style : Style) (fold : Bool) (s after : program_store.Store) (t : store.Store) (did : List program_shape.Shape) (a : Agree p core view [] s t) (ready : AreReady p core is_early left s t b (bounds_of loops))
      (goes : run_kind p.mems roomy (reduce style fold acc loops body e comb) place left s ≡ step.went did rest after) where
    abbrev cs : List plain.PlainCounter
    cs = counters_of p.mems view.sources b loops

    looped_goes : (body_ops : List PlainOp) (comb_at : Option ℕ) (c : plain.PlainCounter) (more : List plain.PlainCounter) → c ∷ more ≡ cs
        → ((ls : List Loop) (numbers : Pairs IsLoop loops ls) (xs : List (List ℕ)) (ys : List (List ℤ)) (left rest : ℕ) (after : program_store.Store) (al : List program_shape.Shape) → Pairs (SameValues p view.sources ls) xs ys
        → step.in_order iteration (combining fold xs) left s ≡ step.went al rest after → All_ran (λ vs. inner_group core most mems_owned body_ops (in_group view.around ls vs)) ys t al after)
        → NodeGoes p core most view (inner cs mems_owned body_ops comb_at) t after did
    unfolding run_kind run step.pure core_step.pure shape_of node_counts counts_in counts_in_all
    looped_goes body_ops comb_at c more some all =
        let y = taken_apart (step.in_order (counter_range p.mems) loops) (λ ranges. step.◌>>=◌ (step.in_order iteration (combining fold (tuples ranges))) (λ bodies. step.pure (looped (map length ranges) (shapes bodies) ∷ []))) left s did rest after goes in
        let z = taken_apart (step.in_order iteration (combining fold (tuples y.answer))) (λ bodies. step.pure (looped (map length y.answer) (shapes bodies) ∷ [])) y.between y.store did rest after y.second in
        let bt = bounds_taken p core h most view s t left a b loops y.answer y.between y.store typed.bounds ready y.first in
        let bs : List Bounds = bt.2 in
        let are : AreLoops p view.sources b loops bs y.answer = are_loops p view.sources view.scope b loops bs y.answer typed.bounds bt.4 in
        let ls : List Loop = core_loops p view.sources b loops bs in
        let here : step.in_order iteration (combining fold (tuples y.answer)) y.between s ≡ step.went z.answer z.between z.store = ap (λ v. step.in_order iteration (combining fold (tuples y.answer)) y.between v) (sym bt.1) ∙ z.first in
        let r = all ls are.numbers (tuples y.answer) (group_values ls) y.between z.between z.store z.answer (iterations p view.sources b loops bs y.answer are) here in
        let shaped : looped (map length y.answer) (shapes z.answer) ∷ [] ≡ did = same_answer (looped (map length y.answer) (shapes z.answer) ∷ []) did z.between rest z.store after z.second in
        record {
          history = inner_ran bs (counts_of ls) r.groups;
          after = r.end;
          goes = then_on (core_step.in_order (bounds core plainly most view.around) cs) (λ bs. core_step.◌>>=◌ (core_step.in_order (λ vs. inner_group core most mems_owned body_ops (in_group view.around (core_loops p view.sources b loops bs) vs)) (group_values (core_loops p view.sources b loops bs))) (λ groups. core_step.pure (inner_ran bs (counts_of (core_loops p view.sources b loops bs)) groups))) t bs t bt.3
              ∙ then_on (core_step.in_order (λ vs. inner_group core most mems_owned body_ops (in_group view.around ls vs)) (group_values ls)) (λ groups. core_step.pure (inner_ran bs (counts_of ls) groups)) t r.groups r.end r.grouped;
          agree = subst (λ v. Agree p core view [] v r.end) (same_store (looped (map length y.answer) (shapes z.answer) ∷ []) did z.between rest z.store after z.second) r.agree;
          counts = ap (λ l. node_counts (inner l mems_owned body_ops comb_at) (shape_of (inner l mems_owned body_ops comb_at) (inner_ran bs (counts_of ls) r.groups))) (sym some)
              ∙ ap (λ l. loop l ∷ []) are.counted ∙ ap (λ l. loop (map length y.answer) ∷ (l ++ [])) (sym r.nothing) ∙ ap (λ l. counts_in_all (shapes l)) shaped;
        }

    -- by how it combines
    abbrev node_of : ℕ → Combines → PlainNode
    node_of n c = body_node p.mems (length p.counters) view.sources n cs style body (ending_of loops e) c (stages p.mems (length p.counters) (no_run view.sources) n body (ending_of loops e) c)

    abbrev place_in : ℕ
    place_in = length so_far.ops + length x.ops

    abbrev Goes : PlainNode → Type 0
    Goes y = NodeGoes p core most view y t after did

    folded : (n : ℕ) → fold ≡ true → Goes (node_of n (folds (mem_number p.mems acc) comb e))
    folded n f =
        let first = first_counter p view.sources b loops typed.one_to_four.0 in
        let other : PlainNode = outer_node p.mems (length p.counters) n cs style body (ending_of loops e) (stages p.mems (length p.counters) (no_run view.sources) n body (ending_of loops e) (folds (mem_number p.mems acc) comb e)) in
        let whole : PlainNode = inner cs mems_owned (ops ++ fold_ops place_in x.word (mem_number p.mems acc) ty comb) (Some place_in) in
        subst (λ c. Goes (if c then whole else other)) (sym is)
        (subst (λ k. Goes (inner cs mems_owned (ops ++ fold_ops k x.word (mem_number p.mems acc) ty comb) (Some place_in))) (length-append so_far.ops x.ops)
        (looped_goes fold_body (Some place_in) first.0 first.1 first.2
        (λ ls numbers xs ys left rest after al q g. all_folded ls numbers xs ys left rest s after t al q a (ap (λ c. step.in_order iteration (combining c xs) left s) (sym f) ∙ g))))

    reduced : (n begun : ℕ) → fold ≡ false → IsAdded p core begun → AreSpare begun (suc begun) view → Finds p core view.around [] t (in_register begun) 0 → Goes (node_of n (reduces (mem_number p.mems acc) begun comb e))
    reduced n begun f added before b0 =
        let first = first_counter p view.sources b loops typed.one_to_four.0 in
        let other : PlainNode = outer_node p.mems (length p.counters) n cs style body (ending_of loops e) (stages p.mems (length p.counters) (no_run view.sources) n body (ending_of loops e) (reduces (mem_number p.mems acc) begun comb e)) in
        let whole : PlainNode = inner cs mems_owned (ops ++ reduce_ops place_in x.word (mem_number p.mems acc) begun ty comb) (Some place_in) in
        subst (λ c. Goes (if c then whole else other)) (sym is)
        (subst (λ k. Goes (inner cs mems_owned (ops ++ reduce_ops k x.word (mem_number p.mems acc) begun ty comb) (Some place_in))) (length-append so_far.ops x.ops)
        (looped_goes (reduce_body begun added before) (Some place_in) first.0 first.1 first.2
        (λ ls numbers xs ys left rest after al q g. all_reduced begun added before ls numbers xs ys left rest s after t al q a b0 (ap (λ c. step.in_order iteration (combining c xs) left s) (sym f) ∙ g))))

    pub reduction_goes : (n : ℕ) → (fold ≡ false → IsAdded p core (b + length (registers_for is_early (bounds_of loops))) × AreSpare (b + length (registers_for is_early (bounds_of loops))) (suc (b + length (registers_for is_early (bounds_of loops)))) view × Finds p core view.around [] t (in_register (b + length (registers_for is_early (bounds_of loops)))) 0)
        → Goes (node p.mems (length p.counters) view.sources b n (reduce style fold acc loops body e comb))
    unfolding node
    reduction_goes n ready_too =
        let begun : ℕ = b + length (registers_for is_early (bounds_of loops)) in
        either fold
        (λ f. subst (λ c. Goes (node_of n (combines p.mems c acc begun comb e))) (sym f) (folded n f))
        (λ f. let r = ready_too f in subst (λ c. Goes (node_of n (combines p.mems c acc begun comb e))) (sym f) (reduced n begun f r.0 r.1 r.2))
