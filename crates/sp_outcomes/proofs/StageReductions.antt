-- A Reduce or Fold over a body with stages does what its statement does.
use Rattle.std.proofs.Common.{◌≡◌, ℕ, zero, suc, ◌+◌, ◌<◌, ◌≤◌, Bool, true, false, List, [], ◌∷◌, ◌++◌, Option, Some, refl, sym, ◌∙◌, ap, subst, arith, if◌then◌else◌}
use Rattle.std.proofs.lemmas.Bool.{false≢true, true≢false}
use Rattle.std.specs.Prelude.{length, map, Contains}
use Rattle.sp_words.specs.declared.kind.Kind.TheVariants.{Reg}
use Rattle.sp_words.specs.declared.kind.Style.{Style}
use Rattle.sp_words.specs.Memory.{cells}
use Rattle.sp_tree.specs.declared.statement.Comb.{Comb}
use Rattle.sp_tree.specs.Accesses as program
use Rattle.sp_tree.specs.Expressions as expressions
use Rattle.sp_tree.specs.Expressions.{word}
use Rattle.sp_tree.specs.Operators.{bit, combined}
use Rattle.sp_tree.specs.PlainExpression.{PlainExpr, type_of}
use Rattle.sp_tree.specs.PlainProgram.{PlainProgram}
use Rattle.sp_tree.specs.PlainStatement.{PlainCounter, PlainStmts, reduce}
use Rattle.sp_tree.specs.Sequential.{count_now, assign, run_kind, run_all}
use Rattle.sp_tree.specs.Shape as program_shape
use Rattle.sp_tree.specs.Shape.{shapes, ran as ran_shape}
use Rattle.sp_tree.specs.Step as step
use Rattle.sp_tree.specs.Store as program_store
use Rattle.sp_tree.specs.Structure.{own_mems, mems_declared, is_inner}
use Rattle.sp_tree.specs.Typing.{Scope, with_counter, with_counters, IsMem, Typed, CountersTyped, BodyTyped, after_all}
use Rattle.sp_core.specs.Declarations.{is_stream}
use Rattle.sp_core.specs.History.{Entry, History, Runs, inner_ran, masked_run, more_run, no_run as none_ran}
use Rattle.sp_core.specs.Operations.{operations_after, operations}
use Rattle.sp_core.specs.PlainCore.{PlainOp, PlainStages, PlainNode, PlainCore, no_stage, more_stage}
use Rattle.sp_core.specs.Scope as counters
use Rattle.sp_core.specs.Scope.{Loop, plainly, is_live, in_group}
use Rattle.sp_core.specs.Sequential.{renew, renew_in_body, end_of_group, run, run_stages}
use Rattle.sp_core.specs.Shape.{stage_shapes}
use Rattle.sp_core.specs.Step as core_step
use Rattle.sp_core.specs.Store as store
use Rattle.sp_sugar.specs.Agreement.{HasMemories, View, IsAdded, Finds, Apart, Agree}
use Rattle.sp_sugar.specs.Combination.{fold_ops, reduce_ops}
use Rattle.sp_sugar.specs.Early.{is_early, bounds_of, counters_of}
use Rattle.sp_sugar.specs.Numbers.{mem_number}
use Rattle.sp_sugar.specs.Operations.{Code}
use Rattle.sp_sugar.specs.Registers.{ending_of, registers, owned_registers}
use Rattle.sp_sugar.specs.Runs.{no_run}
use Rattle.sp_sugar.specs.Stages.{Combines, combines, combining as combining_ops, combination, combination_stage, last_stages, inner_node, outer_node, body_node, stages}
use Rattle.sp_sugar.specs.Uses.{Ending}
use Rattle.sp_sugar.specs.Values.{Source, at_place, in_register, constant, count, Sources}
use Rattle.sp_sugar.proofs.Entering.{same_mems, same_vals}
use Rattle.sp_sugar.proofs.MemoryLemmas.{changed_here, word_found}
use Rattle.sp_sugar.proofs.NumberLemmas.{either}
use Rattle.sp_sugar.proofs.RunKeeps.{in_back}
use Rattle.sp_sugar.proofs.StepLemmas.{same_answer, same_left, same_store, taken_apart, then_on}
use Rattle.sp_same.specs.Contents.{HoldRightly}
use Rattle.sp_same.specs.Counts.{counts_in, counts_in_all, stage_counts}
use Rattle.sp_same.specs.Following.{SourceSeen, SourcesSeen, AreSpare, IsOwn, AreReady, NodeGoes}
use Rattle.sp_same.proofs.Combining.{fold_goes}
use Rattle.sp_same.proofs.Counting.{enter, outside, leave}
use Rattle.sp_same.proofs.Groups.{inner_alone, outer_group, first_is_live}
use Rattle.sp_same.proofs.InnerBodies.{after_mems, after_vals}
use Rattle.sp_same.proofs.LoopNodes.{no_more_counts}
use Rattle.sp_same.proofs.Reductions.{first_counter}
use Rattle.sp_same.proofs.Registers.{agree_written, agree_kept}
use Rattle.sp_same.proofs.Rightly.{keep_turn, keep_counts, keep_word, keep_word_after, body_rightly}
use Rattle.sp_same.proofs.Turns.{turn_falls, body_falls}
use Rattle.sp_bodies.specs.Bodies.{HaveRoomsAlike, AreDeclared, AreStagesFollowed}
use Rattle.sp_bodies.proofs.BodyNodes.{agree_out, all_stages, kept_registers, begun as first_store, kept_here, owned, quiet_end}
use Rattle.sp_bodies.proofs.BodyStarts.{renewed}
use Rattle.sp_outcomes.proofs.Combined.{Reduces, reduces_first, reduces_more}
use Rattle.sp_outcomes.proofs.CombiningLoops.{Followed, loop_goes}
use Rattle.sp_bodies.proofs.Known.{Known}
use Rattle.sp_outcomes.proofs.LastWords.{IsOfWords, Worded, word_stands}
use Rattle.sp_bodies.proofs.StageSteps.{Onward, then_onward}
use Rattle.sp_bodies.proofs.StagesGo.{Ended}
use Rattle.sp_bodies.proofs.Statements.{fewer_registers}

-- counters of before are counters inside of a loop
pub counters_within : (scope : Scope) (loops : List PlainCounter) (k : ℕ) → Contains scope.counters k → Contains (with_counters scope loops).counters k
counters_within scope [] k c = c
counters_within scope (l ∷ loops) k c = counters_within (with_counter scope l.number) loops k (suc c.0, omega (arith, c.1), c.2)

pub seen_within : (scope : Scope) (sources : Sources) (loops : List PlainCounter) → SourcesSeen scope sources → SourcesSeen (with_counters scope loops) sources
seen_within scope sources loops f v c = go (sources v.0) (f v (subst (λ l. Contains l v) (same_vals scope loops) c))
  where
    go : (source : Source) → SourceSeen scope source → SourceSeen (with_counters scope loops) source
    go (at_place k) s = tt
    go (in_register r) s = tt
    go (constant w) s = tt
    go (count k) s = counters_within scope loops k s

-- an assignment takes no turn
assign_left : (p : PlainProgram) (comb : Comb) (acc : ℕ) (combines : Bool) (w place left rest : ℕ) (s after : program_store.Store) (x : Unit {0}) → assign p.mems comb acc 0 combines w place left s ≡ step.went x rest after → rest ≡ left
unfolding step.read step.change step.◌>>=◌
assign_left p comb acc false w place left rest s after x e = sym (same_left tt x left rest _ after e)
assign_left p comb acc true w place left rest s after x e =
    let y = taken_apart (program.read_cell acc 0 place) (λ v. program.write_cell acc 0 (combined comb (expressions.mem p.mems acc).ty v w)) left s x rest after e in
    let f = word_found place _ y.answer left y.between s y.store y.first in
    sym (same_left tt x y.between rest _ after y.second) ∙ f.1

-- the stage of a combination
module _ (p : PlainProgram) (core : PlainCore) (most : ℕ) (around : counters.Scope) where
  pub combined_onward : (x : PlainNode) (h : History) (t u : store.Store) → run core plainly most x around t ≡ core_step.went h u → Onward p core most around (more_stage 0 0 true x no_stage) no_stage t u []
  unfolding run_stages stage_shapes stage_counts core_step.pure
  combined_onward x h t u alone live runs end l e = (
    more_run h runs,
    ap (λ b. (elim b as (λ _. core_step.Step Runs) [
      | true ↦ core_step.◌>>=◌ (run core plainly most x around) (λ h. core_step.◌>>=◌ (run_stages core plainly most no_stage live around) (λ others. core_step.pure (more_run h others)))
      | false ↦ core_step.◌>>=◌ (run_stages core plainly most no_stage live around) (λ others. core_step.pure (masked_run others))
    ]) t) l
        ∙ then_on (run core plainly most x around) (λ h. core_step.◌>>=◌ (run_stages core plainly most no_stage live around) (λ others. core_step.pure (more_run h others))) t h u alone
        ∙ then_on (run_stages core plainly most no_stage live around) (λ others. core_step.pure (more_run h others)) u runs end e,
    refl,
  )

  pub combination_onward : (x : Code) (c : Combines) (t u : store.Store) (es : List Entry) → operations_after core around [] (x.ops ++ combining_ops p.mems (length p.counters) (0 + length x.ops) x.word c) t ≡ core_step.went es u → Onward p core most around (combination_stage p.mems (length p.counters) x c) no_stage t u []
  unfolding core_step.in_order core_step.pure
  combination_onward x c t u es goes =
      let ops : List PlainOp = x.ops ++ combining_ops p.mems (length p.counters) (0 + length x.ops) x.word c in
      combined_onward (combination p.mems (length p.counters) [] x c [] []) (inner_ran [] [] (es ∷ [])) t u
      (inner_alone core most [] ops (Some (0 + length x.ops)) around es t u (then_on (core_step.in_order (renew_in_body core plainly most) []) (λ _. operations core around ops) t [] t refl ∙ goes))

-- a value that stands outside of a list is found without it
known_moves : (p : PlainProgram) (core : PlainCore) (around : counters.Scope) (kept : List (ℕ × Option ℕ)) (all : List Entry) (u : store.Store) (source : Source) (w x : ℕ) → Known around kept source w → Finds p core around all u source x → Finds p core around [] u source x
known_moves p core around kept all u (at_place k) w x f g = absurd f
known_moves p core around kept all u (in_register r) w x f g = g
known_moves p core around kept all u (constant c) w x f g = g
known_moves p core around kept all u (count c) w x f g = g

module _ (p : PlainProgram) (core : PlainCore) (h : HasMemories p core) (roomy : List ℕ) (rooms : HaveRoomsAlike p roomy core) (most : ℕ) (view : View) (seen : SourcesSeen view.scope view.sources) (loops : List PlainCounter) (body : PlainStmts) (n acc : ℕ) (e : PlainExpr) (comb : Comb) (begun : ℕ) (place : ℕ)
    (style : Style) (quiet : is_stream style ≡ false) (body_typed : BodyTyped p (with_counters view.scope loops) body) (is_acc : IsMem p view.scope acc Reg (type_of e)) (e_typed : Typed p (after_all (with_counters view.scope loops) body) e)
    (spare : AreSpare n (n + length (registers body (ending_of loops e))) view) (declared : AreDeclared p core n (registers body (ending_of loops e))) (own : (m : ℕ) → Contains (mems_declared body) m → IsOwn p (with_counters view.scope loops) m)
    (apart : Apart (mems_declared body ++ view.waiting)) (resets : (m : ℕ) → view.resets m ≡ false) (followed : AreStagesFollowed p roomy core body) where
  abbrev ending : Ending
  ending = ending_of loops e

  abbrev inside : counters.Scope → List (ℕ × Option ℕ) → View
  inside around regs = record view { scope = with_counters view.scope loops; around = around; registers = regs }

  -- what is known of the register between two iterations, by whether the next one combines; a Fold has none, and always does
  abbrev pub Begun_now : (fold : Bool) → (combines : Bool) → store.Store → Type 0
  Begun_now true b t = b ≡ true
  Begun_now false b t = IsAdded p core begun × (t begun ≡ Some (cells (Some (bit b) ∷ [])))

  abbrev begun_cells : (fold : Bool) → (combines : Bool) → List (ℕ × Option ℕ)
  begun_cells true b = []
  begun_cells false b = (begun, Some (bit b)) ∷ []

  abbrev with_begun : (fold combines : Bool) → counters.Scope → View
  with_begun fold b around = inside around (begun_cells fold b ++ view.registers)

  begun_agrees : (fold b : Bool) (around : counters.Scope) (s : program_store.Store) (t : store.Store) → Begun_now fold b t → Agree p core (inside around view.registers) [] s t → Agree p core (with_begun fold b around) [] s t
  begun_agrees true b around s t f a = a
  begun_agrees false b around s t f a = agree_kept p core h (inside around view.registers) s t (begun, Some (bit b)) f a

  -- before a Reduce
  abbrev pub BegunSpare : Bool → Type 0
  BegunSpare fold = fold ≡ false → IsAdded p core begun × AreSpare begun (suc begun) view × (begun < n)

  spare_within : (fold b : Bool) (around : counters.Scope) → BegunSpare fold → AreSpare n (n + length (registers body ending)) (with_begun fold b around)
  spare_within true b around f = (λ v c. spare.0 v (subst (λ l. Contains l v) (same_vals view.scope loops) c), spare.1)
  spare_within false b around f = (λ v c. spare.0 v (subst (λ l. Contains l v) (same_vals view.scope loops) c), λ x c k le lt i. others x c k le lt i)
    where
      others : (x : ℕ × Option ℕ) → Contains ((begun, Some (bit b)) ∷ view.registers) x → (k : ℕ) → n ≤ k → k < n + length (registers body ending) → x.0 ≡ k → ⊥
      others x (zero, lt2, j) k le lt i = let q : begun ≡ x.0 = ap (λ (y : ℕ × Option ℕ). y.0) j in let below = (f refl).2 in omega (arith, q, i, le, below)
      others x (suc d, lt2, j) k le lt i = spare.1 x (d, omega arith, j) k le lt i

  abbrev combines_by : Bool → Combines
  combines_by fold = combines p.mems fold acc begun comb e

  abbrev all_stages_by : Bool → PlainStages
  all_stages_by fold = stages p.mems (length p.counters) (no_run view.sources) n body ending (combines_by fold)

  of_words : (fold : Bool) → IsOfWords (combines_by fold)
  of_words true = tt
  of_words false = tt

  fold_ops_are : (fold : Bool) → fold ≡ true → (at k : ℕ) → combining_ops p.mems (length p.counters) at k (combines_by fold) ≡ fold_ops at k (mem_number p.mems acc) (type_of e) comb
  fold_ops_are true f at k = refl
  fold_ops_are false f at k = absurd (false≢true f)

  reduce_ops_are : (fold : Bool) → fold ≡ false → (at k : ℕ) → combining_ops p.mems (length p.counters) at k (combines_by fold) ≡ reduce_ops at k (mem_number p.mems acc) begun (type_of e) comb
  reduce_ops_are false f at k = refl
  reduce_ops_are true f at k = absurd (true≢false f)

  now_folding : (fold : Bool) → fold ≡ true → (u : store.Store) → Begun_now fold true u
  now_folding true f u = refl
  now_folding false f u = absurd (false≢true f)

  now_reducing : (fold : Bool) → fold ≡ false → (u : store.Store) → IsAdded p core begun × (u begun ≡ Some (cells (Some 1 ∷ []))) → Begun_now fold true u
  now_reducing false f u g = g
  now_reducing true f u g = absurd (true≢false f)

  always_combines : (fold b : Bool) (t : store.Store) → fold ≡ true → Begun_now fold b t → b ≡ true
  always_combines true b t f g = g
  always_combines false b t f g = absurd (false≢true f)

  begun_kept : (fold b : Bool) → fold ≡ false → (rest : List (ℕ × Option ℕ)) → Contains (begun_cells fold b ++ rest) (begun, Some (bit b))
  begun_kept false b f rest = (0, omega arith, refl)
  begun_kept true b f rest = absurd (true≢false f)

  acc_there : (around : counters.Scope) (regs : List (ℕ × Option ℕ)) (sources : Sources) → IsMem p (record (inside around regs) { scope = after_all (with_counters view.scope loops) body; sources = sources }).scope acc Reg (type_of e)
  acc_there around regs sources = record { seen = after_mems (with_counters view.scope loops) body acc (subst (λ l. Contains l acc) (sym (same_mems view.scope loops)) is_acc.seen); is_kind = is_acc.is_kind; is_type = is_acc.is_type }

  -- one group
  module _ (fold b : Bool) (around : counters.Scope) (begun_spare : BegunSpare fold) (s1 s2 s3 after : program_store.Store) (t : store.Store) (left between later rest w : ℕ) (unit : Unit {0}) (did : List program_shape.Shape)
      (enough : left ≤ most) (right : HoldRightly p (with_counters view.scope loops).mems s1) (a : Agree p core (with_begun fold b around) [] s1 t)
      (ran_on : run_all p.mems roomy body left s1 ≡ step.went did between s2) (word_is : word p.mems e between s2 ≡ step.went w later s3) where
    abbrev V : View
    V = with_begun fold b around

    abbrev c : Combines
    c = combines_by fold

    abbrev start : store.Store
    start = first_store p core h roomy rooms most V body ending n body_typed (seen_within view.scope view.sources loops seen) (spare_within fold b around begun_spare) declared own apart resets followed s1 t right a s2 left between did enough ran_on

    abbrev kept0 : List (ℕ × Option ℕ)
    kept0 = kept_here p core h roomy rooms most V body ending n body_typed (seen_within view.scope view.sources loops seen) (spare_within fold b around begun_spare) declared own apart resets followed s1 t right a s2 left between did enough ran_on

    abbrev its_owned : List ℕ
    its_owned = owned p core h roomy rooms most V body ending n body_typed (seen_within view.scope view.sources loops seen) (spare_within fold b around begun_spare) declared own apart resets followed s1 t right a s2 left between did enough ran_on

    z : Ended p core h roomy rooms V resets most view.waiting V.scope.vals view.sources (after_all V.scope body) ending c (all_stages_by fold) kept0 start s2 did
    z = all_stages p core h roomy rooms most V body ending n body_typed (seen_within view.scope view.sources loops seen) (spare_within fold b around begun_spare) declared own apart resets followed s1 t right a s2 left between did enough ran_on c

    right_end : HoldRightly p (after_all V.scope body).mems s3
    right_end = keep_word p (after_all V.scope body).mems (after_all V.scope body) e e_typed between later s2 s3 w (body_rightly p h.declared roomy body V.scope body_typed left between s1 s2 did right ran_on) word_is

    wd : Worded p core h roomy rooms V resets most view.waiting (after_all V.scope body) e e_typed z.run z.n z.kept_end z.end s2 between later w s3 word_is right_end ending c
    wd = word_stands p core h roomy rooms V resets most view.waiting (after_all V.scope body) e e_typed z.run z.n z.kept_end z.end s2 between later w s3 word_is right_end loops c (of_words fold) z.standing z.placed

    abbrev E : View
    E = record V { scope = after_all V.scope body; sources = z.run.values.elsewhere; waiting = view.waiting; registers = wd.registers }

    -- out of the body again
    out : (all : List Entry) (u : store.Store) (s4 : program_store.Store) → Agree p core E all s4 u → Agree p core V [] s4 u
    out all u s4 g = agree_out p core h roomy rooms most V body ending n body_typed (seen_within view.scope view.sources loops seen) (spare_within fold b around begun_spare) declared own apart resets followed c kept0 (all_stages_by fold) start s2 did z
        (kept_registers p core h roomy rooms most V body ending n body_typed (seen_within view.scope view.sources loops seen) (spare_within fold b around begun_spare) declared own apart resets followed s1 t right a s2 left between did enough ran_on) E all u refl refl refl refl wd.more s4
        (λ v d. let k = after_vals V.scope body v d in
        subst (λ x. Finds p core around [] u x (s4.values v.0)) (z.old v d) (known_moves p core around z.kept_end all u (z.run.values.elsewhere v.0) (s2.values v.0) (s4.values v.0) (z.standing.later v k) (g.vals v k))) g

    -- the word is combined
    record Combined : Type 0 where
      entries : List Entry
      end : store.Store
      goes : operations_after core around [] (wd.code.ops ++ combining_ops p.mems (length p.counters) (0 + length wd.code.ops) wd.code.word c) wd.mid ≡ core_step.went entries end
      agree : Agree p core (inside around view.registers) [] after end
      now : Begun_now fold true end

    -- the group
    group_goes : Combined → (live : ℕ → Bool) → live 0 ≡ true → (x : Runs) × (u : store.Store) × (outer_group core most style its_owned (all_stages_by fold) live around t ≡ core_step.went x u) × Agree p core (inside around view.registers) [] after u × Begun_now fold true u × (stage_counts (all_stages_by fold) (stage_shapes (all_stages_by fold) x) ≡ counts_in_all (shapes did))
    unfolding run_stages stage_shapes stage_counts core_step.pure
    group_goes d live l =
        let all : PlainStages = all_stages_by fold in
        let last : PlainStages = last_stages p.mems (length p.counters) z.run z.n ending c in
        let comb_stage : PlainStages = combination_stage p.mems (length p.counters) wd.code c in
        let on = then_onward p core most around all last no_stage start z.end d.end (counts_in_all (shapes did)) [] z.onward
        (then_onward p core most around last comb_stage no_stage z.end wd.mid d.end [] [] wd.onward (combination_onward p core most around wd.code c wd.mid d.end d.entries d.goes)) in
        let x = on live none_ran d.end l refl in
        let renewed_here = renewed p core h roomy rooms most V body ending n body_typed (seen_within view.scope view.sources loops seen) (spare_within fold b around begun_spare) declared own apart resets s1 t right a in (
          x.0,
          d.end,
          then_on (core_step.in_order (renew core plainly most) its_owned) (λ _. core_step.◌>>=◌ (run_stages core plainly most all live around) (λ runs. core_step.◌>>◌ (end_of_group core plainly most style its_owned) (core_step.pure runs))) t _ start renewed_here
              ∙ then_on (run_stages core plainly most all live around) (λ runs. core_step.◌>>◌ (end_of_group core plainly most style its_owned) (core_step.pure runs)) start x.0 d.end x.1
              ∙ then_on (end_of_group core plainly most style its_owned) (λ _. core_step.pure x.0) d.end [] d.end (quiet_end core most style its_owned d.end quiet),
          d.agree,
          d.now,
          x.2 ∙ no_more_counts (counts_in_all (shapes did) ++ []) ∙ no_more_counts (counts_in_all (shapes did)),
        )

    kept_outside : (x : ℕ × Option ℕ) → Contains view.registers x → Contains V.registers x
    kept_outside x d = in_back (begun_cells fold b) view.registers x d

    -- in a Fold
    folded : fold ≡ true → b ≡ true → assign p.mems comb acc 0 b w place later s3 ≡ step.went unit rest after → Combined
    folded f combines assigns =
        let fg = fold_goes p core h E acc (type_of e) (acc_there around wd.registers z.run.values.elsewhere) comb wd.code.ops wd.mid s3 wd.code.word w wd.given place later rest unit after (ap (λ y. assign p.mems comb acc 0 y w place later s3) (sym combines) ∙ assigns) in
        record {
          entries = fg.all;
          end = fg.after;
          goes = ap (λ o. operations_after core around [] (wd.code.ops ++ o) wd.mid) (fold_ops_are fold f (0 + length wd.code.ops) wd.code.word)
              ∙ ap (λ j. operations_after core around [] (wd.code.ops ++ fold_ops j wd.code.word (mem_number p.mems acc) (type_of e) comb) wd.mid) {x = 0 + length wd.code.ops} {y = length wd.code.ops} (omega arith) ∙ fg.goes;
          agree = fewer_registers p core h view V view.registers [] after fg.after kept_outside (out fg.all fg.after after fg.agree);
          now = now_folding fold f fg.after;
        }

    -- in a Reduce
    reduced_by : (f : fold ≡ false) → Reduces p core h E acc (type_of e) (acc_there around wd.registers z.run.values.elsewhere) comb wd.code.ops wd.mid s3 wd.code.word w wd.given place later rest unit after begun (begun_spare f).0 → Combined
    reduced_by f r =
        let end : store.Store = store.hold r.end begun (cells (Some 1 ∷ [])) in
        let outer_view : View = inside around view.registers in
        let sp = begun_spare f in
        let before : Agree p core outer_view [] after r.end = fewer_registers p core h view V view.registers [] after r.end kept_outside (out r.all r.end after r.agree) in
        record {
          entries = r.entries;
          end = end;
          goes = ap (λ o. operations_after core around [] (wd.code.ops ++ o) wd.mid) (reduce_ops_are fold f (0 + length wd.code.ops) wd.code.word)
              ∙ ap (λ j. operations_after core around [] (wd.code.ops ++ reduce_ops j wd.code.word (mem_number p.mems acc) begun (type_of e) comb) wd.mid) {x = 0 + length wd.code.ops} {y = length wd.code.ops} (omega arith) ∙ r.goes;
          agree = agree_written p core h outer_view [] after r.end begun 1 sp.0 (λ v d. sp.1.0 v (subst (λ l. Contains l v) (same_vals view.scope loops) d), sp.1.1) before;
          now = now_reducing fold f end (sp.0, changed_here r.end begun begun (Some (cells (Some 1 ∷ []))) refl);
        }

    begun_there : (f : fold ≡ false) → Contains wd.registers (begun, Some (bit b))
    begun_there f = wd.more (begun, Some (bit b)) (z.more (begun, Some (bit b)) (kept_registers p core h roomy rooms most V body ending n body_typed (seen_within view.scope view.sources loops seen) (spare_within fold b around begun_spare) declared own apart resets followed s1 t right a s2 left between did enough ran_on (begun, Some (bit b)) (begun_kept fold b f view.registers)))

    reduced_now : (f : fold ≡ false) → assign p.mems comb acc 0 b w place later s3 ≡ step.went unit rest after → Combined
    reduced_now f assigns = either b
        (λ i. reduced_by f (reduces_more p core h E acc (type_of e) (acc_there around wd.registers z.run.values.elsewhere) comb wd.code.ops wd.mid s3 wd.code.word w wd.given place later rest unit after begun (begun_spare f).0
        (subst (λ y. Contains wd.registers (begun, Some (bit y))) i (begun_there f)) (ap (λ y. assign p.mems comb acc 0 y w place later s3) (sym i) ∙ assigns)))
        (λ i. reduced_by f (reduces_first p core h E acc (type_of e) (acc_there around wd.registers z.run.values.elsewhere) comb wd.code.ops wd.mid s3 wd.code.word w wd.given place later rest unit after begun (begun_spare f).0
        (subst (λ y. Contains wd.registers (begun, Some (bit y))) i (begun_there f)) (ap (λ y. assign p.mems comb acc 0 y w place later s3) (sym i) ∙ assigns)))

    combined_now : Begun_now fold b t → assign p.mems comb acc 0 b w place later s3 ≡ step.went unit rest after → Combined
    combined_now g assigns = either fold (λ f. folded f (always_combines fold b t f g) assigns) (λ f. reduced_now f assigns)

    turns_same : later ≡ between
    turns_same = wd.turns_same

  -- all iterations, and the loop
  module _ (fold : Bool) (begun_spare : BegunSpare fold) (typed : CountersTyped p view.scope loops) where
    abbrev Between : Bool → ℕ → program_store.Store → store.Store → Type 0
    Between b left s t = (left ≤ most) × Agree p core view [] s t × HoldRightly p view.scope.mems s × Begun_now fold b t

    abbrev owned_all : List ℕ
    owned_all = map (mem_number p.mems) (own_mems body) ++ owned_registers n body ending

    abbrev iteration : Bool × List ℕ → step.Step program_shape.Shape
    iteration it = step.◌>>◌ step.turn (step.◌>>◌ (count_now loops it.1) (step.◌>>=◌ (run_all p.mems roomy body) (λ did. step.◌>>=◌ (word p.mems e) (λ w. step.◌>>◌ (assign p.mems comb acc 0 it.0 w place) (step.pure (ran_shape (shapes did)))))))

    iteration_follows : Followed p core h most view 0 loops typed style owned_all (all_stages_by fold) iteration Between
    unfolding step.pure counts_in
    iteration_follows ls numbers combines ws vs left rest s after t a same g goes =
        let last : List program_shape.Shape → ℕ → step.Step program_shape.Shape = λ did w. step.◌>>◌ (assign p.mems comb acc 0 combines w place) (step.pure (ran_shape (shapes did))) in
        let c = taken_apart step.turn (λ _. step.◌>>◌ (count_now loops ws) (step.◌>>=◌ (run_all p.mems roomy body) (λ did. step.◌>>=◌ (word p.mems e) (last did)))) left s a rest after goes in
        let fell = turn_falls c.answer left c.between s c.store c.first in
        let d = taken_apart (count_now loops ws) (λ _. step.◌>>=◌ (run_all p.mems roomy body) (λ did. step.◌>>=◌ (word p.mems e) (last did))) c.between c.store a rest after c.second in
        let f = taken_apart (run_all p.mems roomy body) (λ did. step.◌>>=◌ (word p.mems e) (last did)) d.between d.store a rest after d.second in
        let y = taken_apart (word p.mems e) (last f.answer) f.between f.store a rest after f.second in
        let z = taken_apart (assign p.mems comb acc 0 combines y.answer place) (λ _. step.pure (ran_shape (shapes f.answer))) y.between y.store a rest after y.second in
        let around : counters.Scope = in_group view.around ls vs in
        let entered = enter p core view loops ls ws vs (is_live ls vs) c.store d.store t d.answer c.between d.between numbers same.0 same.1 typed.binders seen (subst (λ v. Agree p core view [] v t) (sym fell.1) g.1) d.first in
        let fewer : d.between ≤ most = omega (arith, fell.0, entered.0, g.0) in
        let right : HoldRightly p view.scope.mems d.store = keep_counts p view.scope.mems loops ws c.between d.between c.store d.store d.answer (keep_turn p view.scope.mems left c.between s c.store c.answer g.2 c.first) d.first in
        let right_in : HoldRightly p (with_counters view.scope loops).mems d.store = subst (λ l. HoldRightly p l d.store) (sym (same_mems view.scope loops)) right in
        let a1 = begun_agrees fold combines around d.store t g.3 entered.1 in
        let now = combined_now fold combines around begun_spare d.store f.store y.store z.store t d.between f.between y.between z.between y.answer z.answer f.answer fewer right_in a1 f.first y.first g.3 z.first in
        let x = group_goes fold combines around begun_spare d.store f.store y.store z.store t d.between f.between y.between z.between y.answer z.answer f.answer fewer right_in a1 f.first y.first now (is_live ls vs) (first_is_live ls vs same.1) in
        let turns1 = turns_same fold combines around begun_spare d.store f.store y.store z.store t d.between f.between y.between z.between y.answer z.answer f.answer fewer right_in a1 f.first y.first in
        let turns2 = assign_left p comb acc combines y.answer place y.between z.between y.store z.store z.answer z.first in
        let falls : f.between ≤ d.between = body_falls p.mems roomy body d.between f.between d.store f.store f.answer f.first in
        let ends : z.store ≡ after = same_store (ran_shape (shapes f.answer)) a z.between rest z.store after z.second in
        let left_again = leave p core view loops around z.store x.1 (λ j i. outside p core view.scope view.around loops ls vs (is_live ls vs) j numbers typed.binders i) seen x.3 in
        let right_out = keep_word_after p h.declared roomy view.scope body loops fold acc place e comb (body_rightly p h.declared roomy body (with_counters view.scope loops) body_typed) e_typed is_acc.is_kind (combines, ws) left rest s after a g.2 goes in (
          x.0,
          x.1,
          x.2,
          (
            omega (arith, falls, fewer, turns1, turns2, same_left (ran_shape (shapes f.answer)) a z.between rest z.store after z.second),
            subst (λ v. Agree p core view [] v x.1) ends left_again,
            right_out,
            x.4,
          ),
          x.5 ∙ ap counts_in (same_answer (ran_shape (shapes f.answer)) a z.between rest z.store after z.second),
        )

    pub reduction_goes : (b : ℕ) (s after : program_store.Store) (t : store.Store) (left rest : ℕ) (did : List program_shape.Shape) → left ≤ most → HoldRightly p view.scope.mems s → Agree p core view [] s t → AreReady p core is_early left s t b (bounds_of loops) → Begun_now fold fold t → is_inner body ≡ false
        → run_kind p.mems roomy (reduce style fold acc loops body e comb) place left s ≡ step.went did rest after
        → NodeGoes p core most view (body_node p.mems (length p.counters) view.sources n (counters_of p.mems view.sources b loops) style body ending (combines_by fold) (all_stages_by fold)) t after did
    unfolding run_kind
    reduction_goes b s after t left rest did enough right a ready now outer_body goes =
        let first = first_counter p view.sources b loops typed.one_to_four.0 in
        subst (λ i. NodeGoes p core most view (if i then inner_node p.mems (length p.counters) view.sources (counters_of p.mems view.sources b loops) body (combines_by fold) else outer_node p.mems (length p.counters) n (counters_of p.mems view.sources b loops) style body ending (all_stages_by fold)) t after did) (sym outer_body)
        (loop_goes p core h most view b loops typed style owned_all (all_stages_by fold) iteration Between iteration_follows (λ some left s t g. g.1) fold s after t left rest did a ready (enough, a, right, now) first.0 first.1 first.2 goes)
