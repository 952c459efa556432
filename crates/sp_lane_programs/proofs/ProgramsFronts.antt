-- What stands before the combination of a loop over stages, in the core of a program.
use Rattle.std.proofs.Common.{◌≡◌, ◌⊎◌, inl, inr, ℕ, suc, ◌+◌, ◌*◌, ◌<◌, ◌≤◌, ◌==◌, nat_le, nat_lt, Bool, true, false, not, ◌&&◌, ◌||◌, List, [], ◌∷◌, ◌++◌, length, map, Option, Some, None, refl, sym, ◌∙◌, ap, subst, arith, if◌then◌else◌}
use Rattle.std.proofs.lemmas.Bool.{true≢false, eq-eqb, eqb-true, and_from, le-leb, leb-true, lt-ltb, ltb-true}
use Rattle.std.proofs.lemmas.List.{length-append}
use Rattle.sp_words.specs.declared.kind.Kind.TheVariants.{Reg}
use Rattle.sp_words.specs.declared.kind.Style.{Style}
use Rattle.sp_words.specs.declared.kind.Style.TheVariants.{Pipe}
use Rattle.sp_words.specs.declared.types.Ty.{Ty}
use Rattle.sp_tree.specs.Expressions.{mem}
use Rattle.sp_tree.specs.Invariant.{IsProgram, outer_scope}
use Rattle.sp_tree.specs.Meaning.{is_dram}
use Rattle.sp_tree.specs.PlainExpression.{PlainExpr, expr, literal, counter, value, type_of}
use Rattle.sp_tree.specs.PlainProgram.{PlainProgram}
use Rattle.sp_tree.specs.PlainStatement as tree
use Rattle.sp_tree.specs.PlainStatement.{PlainStmtKind, PlainStmts, stmt, declare, name, set_reg, set_out, set_sram, enq, load_sram, load_line, store, gather, scatter, block, foreach, reduce, mem_reduce, fsm, branch, no_stmt, more_stmt}
use Rattle.sp_tree.specs.Structure as structure
use Rattle.sp_tree.specs.Structure.{mems_declared, mems_in, own_mems, slice_lanes, is_inner}
use Rattle.sp_tree.specs.Tallies.{Tally, primitive}
use Rattle.sp_tree.specs.Typing.{Scope, LanesAtEnd, BodyTyped, StmtTyped, after, after_all, with_counters, with_val}
use Rattle.sp_core.specs.Around.{lanes_of}
use Rattle.sp_core.specs.Declarations.{is_among}
use Rattle.sp_core.specs.Footprint.{ListNames}
use Rattle.sp_core.specs.PlainCore as core_tree
use Rattle.sp_core.specs.PlainCore.{PlainOp, PlainNode, PlainStages, inner, outer, no_stage, more_stage}
use Rattle.sp_sugar.specs.Agreement.{HasMemories}
use Rattle.sp_sugar.specs.Core.{core_of}
use Rattle.sp_sugar.specs.Early.{bounds_of, is_early, registers_for, counters_of, stage_of, early_stages, after as after_word}
use Rattle.sp_sugar.specs.Numbers.{is_off_dram, mem_number, numbers_from, written_mems}
use Rattle.sp_sugar.specs.Operations.{Code, alone, source_code, code, code_of, read_op, write_op}
use Rattle.sp_sugar.specs.Registers.{ending_of, beside, inside, owned_registers, registers_in}
use Rattle.sp_sugar.specs.Runs.{Run, no_run, next_code, with_stmt}
use Rattle.sp_sugar.specs.Stages.{run_stage, first_of, Combines, nothing, folds, reduces, reduces_elements, combines, combination_stage, inner_node, last_stages, style_of, outer_node, body_node, stages, node}
use Rattle.sp_sugar.specs.Uses.{is_bare, Ending, no_more, in_last_run, in_combination}
use Rattle.sp_sugar.specs.Values.{Source, at_place, in_register, constant, count, Sources, no_sources, with_state}
use Rattle.sp_sugar.proofs.Cores.{contains_count, port_is}
use Rattle.sp_sugar.proofs.NumberLemmas.{number_below}
use Rattle.sp_sugar.proofs.Owners.{declared_is, off_dram}
use Rattle.sp_lane_rules.proofs.UnrolledPlaces.{among_both}
use Rattle.sp_lane_cores.specs.LanedMarks.{Combination, folded, reduced, combination_ops}
use Rattle.sp_lane_cores.proofs.LanedEarlier.{run_good, early_good}
use Rattle.sp_lane_cores.proofs.LanedNaming.{SourceHas, SourcesHave, ValuesHave, RegisterHas, changed_have, stmt_have, InRange, Declared, declared_front, declared_back, range_after}
use Rattle.sp_lane_cores.proofs.LanedParting.{range_loops, range_all}
use Rattle.sp_lane_cores.specs.EndingsEnding.{IsOneWord}
use Rattle.sp_lane_trees.specs.ReductionsReduction.{AreStill}
use Rattle.sp_lane_trees.specs.ReductionsChanges.{StagesChange}
use Rattle.sp_lane_programs.proofs.ProgramsChanging.{Chips, names_pass, chip_passes, CombChanges}
use Rattle.sp_lane_programs.proofs.ProgramsElements.{LastElementsFront, among_mapped, elements_last}
use Rattle.sp_lane_programs.proofs.ProgramsChangingStages.{EndChanges, ending_changes, combines_changes, stages_change}

-- an inner body without counters combines a word, after operations that change nothing and name only these memories, or those that
-- pass the test
pub record HasFront (p : PlainProgram) (owned : List ℕ) (kept : ℕ → Bool) (x : PlainNode) : Type 0 where
  pub ops : List PlainOp
  pub at : ℕ
  pub front : List PlainOp
  pub combination : Combination
  pub node_is : x ≡ inner [] [] ops (Some at)
  pub list : ops ≡ front ++ combination_ops at combination
  pub place : length front ≡ at
  pub one_word : IsOneWord combination
  pub still : AreStill front
  pub own : ListNames (core_of p) (λ m. is_among m owned || kept m) front

module _ (p : PlainProgram) where
  -- so does each stage that combines
  abbrev pub LastFront : (owned : List ℕ) → (kept : ℕ → Bool) → PlainStages → Type 0
  LastFront owned kept no_stage = Unit {0}
  LastFront owned kept (more_stage first last true x rest) = HasFront p owned kept x × LastFront owned kept rest
  LastFront owned kept (more_stage first last false x rest) = LastFront owned kept rest

  -- where no stage changes what is kept
  abbrev pub KeepsFront : (owned : List ℕ) → PlainStages → Type 0
  KeepsFront owned xs = (kept : ℕ → Bool) × LastFront owned kept xs × StagesChange (core_of p) (λ m. not (kept m)) xs

  -- of each loop of several lanes
  abbrev mutual
    pub FrontNode : PlainNode → Type 0
    FrontNode (outer counters style owned xs) = ((lanes_of counters ≡ 1) ⊎ (KeepsFront owned xs ⊎ LastElementsFront p owned xs)) × FrontStages xs
    FrontNode (core_tree.fsm start state test body next) = FrontNode body
    FrontNode (core_tree.branch test first second) = FrontNode first × FrontNode second
    FrontNode x = Unit {0}

    pub FrontStages : PlainStages → Type 0
    FrontStages no_stage = Unit {0}
    FrontStages (more_stage first last true x rest) = FrontStages rest
    FrontStages (more_stage first last false x rest) = FrontNode x × FrontStages rest

-- the word that is combined at the end of a body is computed in its last run, or it has no operation of its own
abbrev FrontEnding : Ending → Combines → Type 0
FrontEnding ending (reduces_elements part acc begun comb) = ⊥
FrontEnding no_more c = Unit {0}
FrontEnding (in_last_run e) nothing = ⊥
FrontEnding (in_last_run e) c = Unit {0}
FrontEnding (in_combination e) nothing = ⊥
FrontEnding (in_combination e) c = is_bare e ≡ true

-- a word is combined
abbrev OneWord : Combines → Type 0
OneWord (folds acc comb e) = Unit {0}
OneWord (reduces acc begun comb e) = Unit {0}
OneWord c = ⊥

-- statements of a run have no registers inside
inside_none : (k : PlainStmtKind) (t : Tally) → primitive k ≡ Some t → length (inside k) ≡ 0
unfolding inside
inside_none (declare m) t e = refl
inside_none (name v x) t e = refl
inside_none (set_reg m x) t e = refl
inside_none (set_out m x) t e = refl
inside_none (set_sram m xs x) t e = refl
inside_none (enq m x) t e = refl
inside_none k t e = cc

module _ (p : PlainProgram) (counters : ℕ) where
  abbrev own_numbers : PlainStmts → List ℕ
  own_numbers body = map (mem_number p.mems) (own_mems body)

  abbrev owned_of : (n : ℕ) → PlainStmts → Ending → List ℕ
  owned_of n body ending = own_numbers body ++ owned_registers n body ending

  module _ (owned : List ℕ) (kept : ℕ → Bool) where
    -- what may be named before the combination
    abbrev Stands : ℕ → Type 0
    Stands m = (is_among m owned || kept m) ≡ true

    from_owned : (m : ℕ) → is_among m owned ≡ true → Stands m
    from_owned m e = ap (λ b. b || kept m) e

    last_good : (ops : List PlainOp) (rest : PlainStages) → LastFront p owned kept rest → LastFront p owned kept (stage_of ops rest)
    last_good ops rest h = h

    last_run : (ops : List PlainOp) (rest : PlainStages) → LastFront p owned kept rest → LastFront p owned kept (run_stage ops rest)
    last_run ops rest h = run_good (λ xs. LastFront p owned kept xs) last_good ops rest h

    -- the combination after the stages of a body
    stage_front : (x : Code) (c : Combines) → OneWord c → AreStill x.ops → ListNames (core_of p) (λ m. is_among m owned || kept m) x.ops → LastFront p owned kept (combination_stage p.mems counters x c)
    stage_front x nothing well still own = absurd well
    stage_front x (folds acc comb e) well still own = (record { ops = _; at = _; front = [] ++ x.ops; combination = folded x.word acc (type_of e) comb; node_is = refl; list = refl; place = length-append [] x.ops; one_word = tt; still = still; own = own }, tt)
    stage_front x (reduces acc begun comb e) well still own = (record { ops = _; at = _; front = [] ++ x.ops; combination = reduced x.word acc begun (type_of e) comb; node_is = refl; list = refl; place = length-append [] x.ops; one_word = tt; still = still; own = own }, tt)
    stage_front x (reduces_elements part acc begun comb) well still own = absurd well

    -- that of a value, by where it is found
    source_front : (ty : Ty) (source : Source) (c : Combines) → SourceHas Stands source → OneWord c → LastFront p owned kept (combination_stage p.mems counters (source_code 0 ty source) c)
    source_front ty (at_place k) c h well = stage_front (source_code 0 ty (at_place k)) c well tt tt
    source_front ty (in_register r) c h well = stage_front (source_code 0 ty (in_register r)) c well (refl, tt) (h, tt)
    source_front ty (constant w) c h well = stage_front (source_code 0 ty (constant w)) c well (refl, tt) (tt, tt)
    source_front ty (count k) c h well = stage_front (source_code 0 ty (count k)) c well (refl, tt) (tt, tt)

    -- that of a word that has no operation of its own
    given_front : (sources : Sources) → SourcesHave Stands sources → (e : PlainExpr) (c : Combines) → is_bare e ≡ true → OneWord c → LastFront p owned kept (combination_stage p.mems counters (code p.mems sources 0 e) c)
    unfolding code code_of
    given_front sources have (expr place ty (literal w)) c h well = stage_front (alone 0 _) c well (refl, tt) (tt, tt)
    given_front sources have (expr place ty (counter k)) c h well = stage_front (alone 0 _) c well (refl, tt) (tt, tt)
    given_front sources have (expr place ty (value v)) c h well = source_front ty (sources v) c (have v) well
    given_front sources have (expr place ty k) c h well = absurd (true≢false (sym h))

    -- of a word that stands in a register of the body
    read_front : (n : ℕ) (e : PlainExpr) (c : Combines) → is_among n owned ≡ true → OneWord c → LastFront p owned kept (combination_stage p.mems counters (alone 0 (read_op (type_of e) n [])) c)
    read_front n e c h well = stage_front (alone 0 (read_op (type_of e) n [])) c well (refl, tt) (from_owned n h, tt)

    last_front : (run : Run) (n : ℕ) (ending : Ending) (c : Combines) → SourcesHave Stands run.values.elsewhere → FrontEnding ending c → ((m : ℕ) → is_among m (owned_registers n no_stmt ending) ≡ true → is_among m owned ≡ true) → LastFront p owned kept (last_stages p.mems counters run n ending c)
    last_front run n ending (reduces_elements part acc begun comb) have well has = absurd well
    last_front run n no_more nothing have well has = last_run run.ops no_stage tt
    last_front run n no_more (folds acc comb e) have well has = last_run run.ops no_stage tt
    last_front run n no_more (reduces acc begun comb e) have well has = last_run run.ops no_stage tt
    last_front run n (in_last_run e) nothing have well has = absurd well
    last_front run n (in_last_run e) (folds acc comb x) have well has =
        last_run (run.ops ++ (next_code p.mems run e).ops ++ write_op (type_of e) n ((next_code p.mems run e).word ∷ []) ∷ []) _ (read_front n e (folds acc comb x) (has n (ap (λ b. b || false) (eq-eqb n n refl))) tt)
    last_front run n (in_last_run e) (reduces acc begun comb x) have well has =
        last_run (run.ops ++ (next_code p.mems run e).ops ++ write_op (type_of e) n ((next_code p.mems run e).word ∷ []) ∷ []) _ (read_front n e (reduces acc begun comb x) (has n (ap (λ b. b || false) (eq-eqb n n refl))) tt)
    last_front run n (in_combination e) nothing have well has = absurd well
    last_front run n (in_combination e) (folds acc comb x) have well has = last_run run.ops _ (given_front run.values.elsewhere have e (folds acc comb x) well tt)
    last_front run n (in_combination e) (reduces acc begun comb x) have well has = last_run run.ops _ (given_front run.values.elsewhere have e (reduces acc begun comb x) well tt)

    -- a statement is of a run, or a stage
    choose_last : (o : Option Tally) (xs : Tally → PlainStages) (ys : PlainStages) → ((t : Tally) → o ≡ Some t → LastFront p owned kept (xs t)) → LastFront p owned kept ys → LastFront p owned kept (elim o as (λ _. PlainStages) [ Some t ↦ xs t | None ↦ ys ])
    choose_last (Some t) xs ys f g = f t refl
    choose_last None xs ys f g = g

    among_later : (xs ys : List ℕ) (m : ℕ) → is_among m ys ≡ true → is_among m (xs ++ ys) ≡ true
    among_later xs ys m e = among_both m xs ys ∙ or_last (is_among m xs) (is_among m ys) e
      where
        or_last : (a b : Bool) → b ≡ true → (a || b) ≡ true
        or_last true b e = refl
        or_last false b e = e

    -- the register beside a statement is the body's own
    first_stands : (n : ℕ) (l : List core_tree.PlainMem) → ((m : ℕ) → is_among m (numbers_from n (length l)) ≡ true → Stands m) → RegisterHas Stands (first_of n l)
    first_stands n [] h = tt
    first_stands n (m ∷ ms) h = h n (ap (λ b. b || is_among n (numbers_from (suc n) (length ms))) (eq-eqb n n refl))

    among_sooner : (xs ys : List ℕ) (m : ℕ) → is_among m xs ≡ true → is_among m (xs ++ ys) ≡ true
    among_sooner xs ys m e = among_both m xs ys ∙ ap (λ b. b || is_among m ys) e

    pub stages_last : (run : Run) (n : ℕ) (body : PlainStmts) (ending : Ending) (c : Combines) → ValuesHave Stands run.values → FrontEnding ending c → ((m : ℕ) → is_among m (owned_registers n body ending) ≡ true → is_among m owned ≡ true) → LastFront p owned kept (stages p.mems counters run n body ending c)
    unfolding stages
    stages_last run n no_stmt ending c have well has = last_front run n ending c have.1 well has
    stages_last run n (more_stmt (stmt place k) rest) ending c have well has =
        let here : ℕ = length (beside k rest ending) in
        let later : (m : ℕ) → is_among m (owned_registers (n + here + length (inside k)) rest ending) ≡ true → is_among m owned ≡ true =
        λ m e. has m (among_later (numbers_from n here) (owned_registers (n + here + length (inside k)) rest ending) m e) in
        let now : RegisterHas Stands (first_of n (beside k rest ending)) =
        first_stands n (beside k rest ending) (λ m e. from_owned m (has m (among_sooner (numbers_from n here) (owned_registers (n + here + length (inside k)) rest ending) m e))) in
        choose_last (primitive k)
        (λ t. stages p.mems counters (with_stmt p.mems false (first_of n (beside k rest ending)) run k) (n + here) rest ending c)
        (run_stage run.ops (early_stages p.mems run.values.elsewhere n k (more_stage 0 0 false (node p.mems counters run.values.elsewhere n (n + here) k) (stages p.mems counters (no_run run.values.elsewhere) (n + here + length (inside k)) rest ending c))))
        (λ t is. stages_last (with_stmt p.mems false (first_of n (beside k rest ending)) run k) (n + here) rest ending c (stmt_have Stands p.mems false (first_of n (beside k rest ending)) run k have now) well
        (λ m e. later m (subst (λ i. is_among m (owned_registers i rest ending) ≡ true) (none_more (n + here) (length (inside k)) (inside_none k t is)) e)))
        (last_run run.ops _ (early_good (λ xs. LastFront p owned kept xs) last_good p.mems run.values.elsewhere n k _ (stages_last (no_run run.values.elsewhere) (n + here + length (inside k)) rest ending c (have.1, have.1) well later)))
      where
        none_more : (a b : ℕ) → b ≡ 0 → a ≡ a + b
        none_more a b e = omega (arith, e)

  -- loops, and the bodies in them
  good : (ops : List PlainOp) (rest : PlainStages) → FrontStages p rest → FrontStages p (stage_of ops rest)
  good ops rest h = (tt, h)

  run_front : (ops : List PlainOp) (rest : PlainStages) → FrontStages p rest → FrontStages p (run_stage ops rest)
  run_front ops rest h = run_good (λ xs. FrontStages p xs) good ops rest h

  if_front : (b : Bool) (x y : PlainNode) → FrontNode p x → FrontNode p y → FrontNode p (if b then x else y)
  if_front true x y h k = h
  if_front false x y h k = k

  choose : (o : Option Tally) (xs : Tally → PlainStages) (ys : PlainStages) → ((t : Tally) → FrontStages p (xs t)) → FrontStages p ys → FrontStages p (elim o as (λ _. PlainStages) [ Some t ↦ xs t | None ↦ ys ])
  choose (Some t) xs ys f g = f t
  choose None xs ys f g = g

  last_stages_front : (run : Run) (n : ℕ) (ending : Ending) (c : Combines) → FrontStages p (last_stages p.mems counters run n ending c)
  last_stages_front run n no_more (reduces_elements part acc begun comb) = run_front run.ops _ tt
  last_stages_front run n (in_last_run e) (reduces_elements part acc begun comb) = run_front run.ops _ tt
  last_stages_front run n (in_combination e) (reduces_elements part acc begun comb) = run_front run.ops _ tt
  last_stages_front run n no_more nothing = run_front run.ops no_stage tt
  last_stages_front run n no_more (folds acc comb e) = run_front run.ops no_stage tt
  last_stages_front run n no_more (reduces acc begun comb e) = run_front run.ops no_stage tt
  last_stages_front run n (in_last_run e) nothing = run_front (run.ops ++ (next_code p.mems run e).ops ++ write_op (type_of e) n ((next_code p.mems run e).word ∷ []) ∷ []) _ tt
  last_stages_front run n (in_last_run e) (folds acc comb x) = run_front (run.ops ++ (next_code p.mems run e).ops ++ write_op (type_of e) n ((next_code p.mems run e).word ∷ []) ∷ []) _ tt
  last_stages_front run n (in_last_run e) (reduces acc begun comb x) = run_front (run.ops ++ (next_code p.mems run e).ops ++ write_op (type_of e) n ((next_code p.mems run e).word ∷ []) ∷ []) _ tt
  last_stages_front run n (in_combination e) nothing = run_front run.ops _ tt
  last_stages_front run n (in_combination e) (folds acc comb x) = run_front run.ops _ tt
  last_stages_front run n (in_combination e) (reduces acc begun comb x) = run_front run.ops _ tt

  inner_front : (sources : Sources) (loops : List core_tree.PlainCounter) (body : PlainStmts) (c : Combines) → FrontNode p (inner_node p.mems counters sources loops body c)
  inner_front sources loops body nothing = tt
  inner_front sources loops body (folds acc comb e) = tt
  inner_front sources loops body (reduces acc begun comb e) = tt
  inner_front sources loops body (reduces_elements part acc begun comb) = tt

  body_front : (sources : Sources) (n : ℕ) (loops : List core_tree.PlainCounter) (style : Style) (body : PlainStmts) (ending : Ending) (c : Combines) (all : PlainStages) → (lanes_of loops ≡ 1) ⊎ (KeepsFront p (owned_of n body ending) all ⊎ LastElementsFront p (owned_of n body ending) all) → FrontStages p all
      → FrontNode p (body_node p.mems counters sources n loops style body ending c all)
  body_front sources n loops style body ending c all h k = by (is_inner body)
    where
      by : (b : Bool) → FrontNode p (if b then inner_node p.mems counters sources loops body c else outer_node p.mems counters n loops style body ending all)
      by true = inner_front sources loops body c
      by false = (h, k)

  -- lanes of the program's loops, and of the core's
  loop_lanes : (sources : Sources) (r : ℕ) (loops : List tree.PlainCounter) → LanesAtEnd p loops → lanes_of (counters_of p.mems sources r loops) ≡ structure.lanes_of loops
  loop_lanes sources r [] h = absurd h
  loop_lanes sources r (c ∷ []) h = omega arith
  loop_lanes sources r (c ∷ next ∷ rest) h =
      loop_lanes sources (after_word is_early (after_word is_early r c.from) c.until) (next ∷ rest) h.1
      ∙ subst (λ x. structure.lanes_of (next ∷ rest) ≡ x * structure.lanes_of (next ∷ rest)) (sym h.0) (omega arith)

  -- the ending of a loop
  own_ending : (loops : List tree.PlainCounter) (e : PlainExpr) (c : Combines) → OneWord c → (structure.lanes_of loops ≡ 1) ⊎ FrontEnding (ending_of loops e) c
  own_ending loops e c well = by (is_bare e) refl (structure.lanes_of loops == 1) refl
    where
      given : (c : Combines) → OneWord c → is_bare e ≡ true → FrontEnding (in_combination e) c
      given nothing w h = absurd w
      given (folds acc comb x) w h = h
      given (reduces acc begun comb x) w h = h
      given (reduces_elements part acc begun comb) w h = absurd w

      last : (c : Combines) → OneWord c → FrontEnding (in_last_run e) c
      last nothing w = absurd w
      last (folds acc comb x) w = tt
      last (reduces acc begun comb x) w = tt
      last (reduces_elements part acc begun comb) w = absurd w

      by : (a : Bool) → is_bare e ≡ a → (b : Bool) → (structure.lanes_of loops == 1) ≡ b → (structure.lanes_of loops ≡ 1) ⊎ FrontEnding (if a then in_combination e else if b then in_combination e else in_last_run e) c
      by true i b j = inr (given c well i)
      by false i true j = inl (eqb-true (structure.lanes_of loops) 1 j)
      by false i false j = inr (last c well)

  one_word_of : (fold : Bool) (acc begun : ℕ) (comb : _) (e : PlainExpr) → OneWord (combines p.mems fold acc begun comb e)
  one_word_of true acc begun comb e = tt
  one_word_of false acc begun comb e = tt

  -- the registers before a number, which no stage changes whose registers begin there
  abbrev Low : ℕ → ℕ → Type 0
  Low n r = (length (written_mems p.mems) ≤ r) × (r < n)

  abbrev is_low : ℕ → ℕ → Bool
  is_low n r = nat_le (length (written_mems p.mems)) r && nat_lt r n

  low_is : (n r : ℕ) → Low n r → is_low n r ≡ true
  low_is n r l = and_from (nat_le (length (written_mems p.mems)) r) (nat_lt r n) (le-leb (length (written_mems p.mems)) r l.0) (lt-ltb r n l.1)

  source_weaken : (P Q : ℕ → Type 0) → ((r : ℕ) → P r → Q r) → (x : Source) → SourceHas P x → SourceHas Q x
  source_weaken P Q f (at_place k) h = tt
  source_weaken P Q f (in_register r) h = f r h
  source_weaken P Q f (constant w) h = tt
  source_weaken P Q f (count c) h = tt

  low_more : (n k : ℕ) → n ≤ k → (sources : Sources) → SourcesHave (Low n) sources → SourcesHave (Low k) sources
  low_more n k le sources h v = source_weaken (Low n) (Low k) (λ r l. let b = l.0 in let a = l.1 in (b, omega (arith, a, le))) (sources v) (h v)

  first_low : (n : ℕ) (l : List core_tree.PlainMem) → length (written_mems p.mems) ≤ n → RegisterHas (Low (n + length l)) (first_of n l)
  first_low n [] le = tt
  first_low n (m ∷ ms) le = (le, omega arith)

  not_both : (a b : Bool) → (a ≡ true → b ≡ true → ⊥) → not (a && b) ≡ true
  not_both true true f = absurd (f refl refl)
  not_both true false f = refl
  not_both false b f = refl

  -- memories of the program, and registers from that number on, are others
  abbrev others : ℕ → Chips p
  others b = record { is = λ m. not (is_low b m); chips = λ m lt off. chip_other b (mem_number p.mems m) (number_below p.mems m lt off) }
    where
      chip_other : (b m : ℕ) → m < length (written_mems p.mems) → not (is_low b m) ≡ true
      chip_other b m lt = not_both (nat_le (length (written_mems p.mems)) m) (nat_lt m b) (λ e f. let le = leb-true (length (written_mems p.mems)) m e in absurd (omega (arith, le, lt)))

  from_others : (b r : ℕ) → b ≤ r → not (is_low b r) ≡ true
  from_others b r le = not_both (nat_le (length (written_mems p.mems)) r) (nat_lt r b) (λ e f. let lt = ltb-true r b f in absurd (omega (arith, le, lt)))

  -- a loop, by what stands before it
  module _ (sources : Sources) (b n : ℕ) (more : b ≤ n) (low : SourcesHave (Low b) sources) (loops : List tree.PlainCounter) (lanes : LanesAtEnd p loops) (scope : Scope) (ran : InRange p scope) (body : PlainStmts) (d : Declared p (mems_declared body)) (typed : BodyTyped p (with_counters scope loops) body) where
    ends_front : (ending : Ending) (c : Combines) → FrontEnding ending c → EndChanges p counters (core_of p) (others b) ending → CombChanges p (core_of p) (others b) c → KeepsFront p (owned_of n body ending) (stages p.mems counters (no_run sources) n body ending c)
    ends_front ending c ends en h =
        let stands : SourcesHave (λ m. (is_among m (owned_of n body ending) || is_low b m) ≡ true) sources =
        λ v. source_weaken (Low b) (λ m. (is_among m (owned_of n body ending) || is_low b m) ≡ true) (λ r l. or_last (is_among r (owned_of n body ending)) (is_low b r) (low_is b r l)) (sources v) (low v) in (
          is_low b,
          stages_last (owned_of n body ending) (is_low b) (no_run sources) n body ending c (stands, stands) ends (λ m i. later (own_numbers body) (owned_registers n body ending) m i),
          stages_change p counters (core_of p) (others b) (with_counters scope loops) (no_run sources) n body ending c (range_loops p scope loops ran) d tt (λ r le. from_others b r (omega (arith, more, le))) typed en h,
        )
      where
        or_last : (a b : Bool) → b ≡ true → (a || b) ≡ true
        or_last true b e = refl
        or_last false b e = e

        later : (xs ys : List ℕ) (m : ℕ) → is_among m ys ≡ true → is_among m (xs ++ ys) ≡ true
        later xs ys m i = among_both m xs ys ∙ or_last (is_among m xs) (is_among m ys) i

    -- one that reduces
    reduce_front : (e : PlainExpr) (c : Combines) → OneWord c → EndChanges p counters (core_of p) (others b) (ending_of loops e) → CombChanges p (core_of p) (others b) c
        → (lanes_of (counters_of p.mems sources b loops) ≡ 1) ⊎ (KeepsFront p (owned_of n body (ending_of loops e)) (stages p.mems counters (no_run sources) n body (ending_of loops e) c)
        ⊎ LastElementsFront p (owned_of n body (ending_of loops e)) (stages p.mems counters (no_run sources) n body (ending_of loops e) c))
    reduce_front e c well en h = elim (own_ending loops e c well) [
      | inl one ↦ inl (loop_lanes sources b loops lanes ∙ one)
      | inr ends ↦ inr (inl (ends_front (ending_of loops e) c ends en h))
    ]

  -- where the memories of the text are those of the core
  module _ (have : HasMemories p (core_of p)) where
    mutual
      unfolding stages node

      stages_front : (scope : Scope) (run : Run) (n : ℕ) (body : PlainStmts) (ending : Ending) (c : Combines) → InRange p scope → Declared p (mems_declared body) → length (written_mems p.mems) ≤ n → ValuesHave (Low n) run.values → BodyTyped p scope body
          → FrontStages p (stages p.mems counters run n body ending c)
      stages_front scope run n no_stmt ending c ran d le low typed = last_stages_front run n ending c
      stages_front scope run n (more_stmt (stmt place k) rest) ending c ran d le low typed =
          let late : ℕ = n + length (beside k rest ending) in
          let m : ℕ = late + length (inside k) in
          let here : Declared p (mems_in k) = declared_front p (mems_in k) (mems_declared rest) d in
          let after_here : Declared p (mems_declared rest) = declared_back p (mems_in k) (mems_declared rest) d in
          let within : InRange p (after scope k) = range_after p scope k ran here in
          let later : SourcesHave (Low m) run.values.elsewhere = low_more n m (omega arith) run.values.elsewhere low.1 in
          choose (primitive k)
          (λ t. stages p.mems counters (with_stmt p.mems false (first_of n (beside k rest ending)) run k) late rest ending c)
          (run_stage run.ops (early_stages p.mems run.values.elsewhere n k (more_stage 0 0 false (node p.mems counters run.values.elsewhere n late k) (stages p.mems counters (no_run run.values.elsewhere) m rest ending c))))
          (λ t. stages_front (after scope k) (with_stmt p.mems false (first_of n (beside k rest ending)) run k) late rest ending c within after_here (omega (arith, le))
          (stmt_have (Low late) p.mems false (first_of n (beside k rest ending)) run k (low_more n late (omega arith) run.values.here low.0, low_more n late (omega arith) run.values.elsewhere low.1) (first_low n (beside k rest ending) le)) typed.1)
          (run_front run.ops _ (early_good (λ xs. FrontStages p xs) good p.mems run.values.elsewhere n k _ (
            node_front scope run.values.elsewhere n late k ran here le (omega arith) low.1 typed.0,
            stages_front (after scope k) (no_run run.values.elsewhere) m rest ending c within after_here (omega (arith, le)) (later, later) typed.1,
          )))

      node_front : (scope : Scope) (sources : Sources) (b n : ℕ) (k : PlainStmtKind) → InRange p scope → Declared p (mems_in k) → length (written_mems p.mems) ≤ b → b ≤ n → SourcesHave (Low b) sources → StmtTyped p scope k → FrontNode p (node p.mems counters sources b n k)
      node_front scope sources b n (load_sram sram dram spans) ran d le more low typed = if_front (slice_lanes spans == 1) _ _ tt tt
      node_front scope sources b n (load_line line dram spans) ran d le more low typed = if_front (slice_lanes spans == 1) _ _ tt tt
      node_front scope sources b n (store dram spans sram) ran d le more low typed = if_front (slice_lanes spans == 1) _ _ tt tt
      node_front scope sources b n (gather sram dram places e) ran d le more low typed = tt
      node_front scope sources b n (scatter dram places e sram) ran d le more low typed = tt
      node_front scope sources b n (block style body) ran d le more low typed =
          let here : SourcesHave (Low n) sources = low_more b n more sources low in
          body_front sources n [] (style_of p.mems counters style body) body no_more nothing _ (inl refl) (stages_front scope (no_run sources) n body no_more nothing ran d (omega (arith, le, more)) (here, here) typed)
      node_front scope sources b n (foreach style loops body) ran d le more low typed =
          let here : SourcesHave (Low n) sources = low_more b n more sources low in
          body_front sources n (counters_of p.mems sources b loops) style body no_more nothing _ (inr (inl (ends_front sources b n more low loops typed.1.lanes scope ran body d typed.2 no_more nothing tt tt tt)))
          (stages_front (with_counters scope loops) (no_run sources) n body no_more nothing (range_loops p scope loops ran) d (omega (arith, le, more)) (here, here) typed.2)
      node_front scope sources b n (reduce style fold acc loops body e comb) ran d le more low typed =
          let here : SourcesHave (Low n) sources = low_more b n more sources low in
          let begun : ℕ = b + length (registers_for is_early (bounds_of loops)) in
          let c : Combines = combines p.mems fold acc begun comb e in
          let within : InRange p (with_counters scope loops) = range_loops p scope loops ran in
          let word = names_pass p (core_of p) (others b) (after_all (with_counters scope loops) body) (range_all p (with_counters scope loops) body within d) e typed.5 in
          let h : CombChanges p (core_of p) (others b) c = combines_changes p counters (core_of p) (others b) fold acc begun comb e (chip_passes p (core_of p) (others b) scope acc Reg (type_of e) ran typed.3 refl) (from_others b begun (omega arith)) word in
          body_front sources n (counters_of p.mems sources b loops) style body (ending_of loops e) c _
          (reduce_front sources b n more low loops typed.1.lanes scope ran body d typed.2 e c (one_word_of fold acc begun comb e) (ending_changes p counters (core_of p) (others b) loops e word) h)
          (stages_front (with_counters scope loops) (no_run sources) n body (ending_of loops e) c within d (omega (arith, le, more)) (here, here) typed.2)
      node_front scope sources b n (mem_reduce style acc loops body part comb) ran d le more low typed =
          let here : SourcesHave (Low n) sources = low_more b n more sources low in
          let begun : ℕ = b + length (registers_for is_early (bounds_of loops)) in
          let c : Combines = reduces_elements part (mem_number p.mems acc) begun comb in
          let owned : List ℕ = owned_of n body no_more in
          let part_owned : is_among (mem_number p.mems part) owned ≡ true =
          among_both (mem_number p.mems part) (own_numbers body) (owned_registers n body no_more) ∙ ap (λ z. z || is_among (mem_number p.mems part) (owned_registers n body no_more)) (among_mapped (mem_number p.mems) (own_mems body) part typed.6) in
          let off : is_off_dram (mem p.mems acc) ≡ true = ap (λ k. not (is_dram k)) typed.3.is_kind in (
            inr (inr (elements_last p have counters owned part acc begun comb part_owned (ran acc typed.3.seen) typed.3.is_kind off typed.9 (no_run sources) n body)),
            stages_front (with_counters scope loops) (no_run sources) n body no_more c (range_loops p scope loops ran) d (omega (arith, le, more)) (here, here) typed.2,
          )
      node_front scope sources b n (fsm start tested test state body last next) ran d le more low typed =
          let here : SourcesHave (Low (suc n)) sources = low_more b (suc n) (omega (arith, more)) sources low in
          let kept : Sources = with_state sources tested state last n in
          let is : Low (suc n) n = (omega (arith, le, more), omega arith) in
          let P = Low (suc n) in
          let known : SourcesHave (Low (suc n)) kept = changed_have P _ last (in_register n) (changed_have P _ state (in_register n) (changed_have P sources tested (in_register n) here is) is) is in
          body_front kept (suc n) [] Pipe body no_more nothing _ (inl refl) (stages_front (with_val scope state (type_of start)) (no_run kept) (suc n) body no_more nothing ran d (omega (arith, le, more)) (known, known) typed.4)
      node_front scope sources b n (branch test first second) ran d le more low typed =
          let m : ℕ = n + length (registers_in first no_more) in
          let here : SourcesHave (Low n) sources = low_more b n more sources low in
          let later : SourcesHave (Low m) sources = low_more b m (omega (arith, more)) sources low in (
            body_front sources n [] Pipe first no_more nothing _ (inl refl) (stages_front scope (no_run sources) n first no_more nothing ran (declared_front p (mems_declared first) (mems_declared second) d) (omega (arith, le, more)) (here, here) typed.1),
            body_front sources m [] Pipe second no_more nothing _ (inl refl) (stages_front scope (no_run sources) m second no_more nothing ran (declared_back p (mems_declared first) (mems_declared second) d) (omega (arith, le, more)) (later, later) typed.2),
          )
      node_front scope sources b n (declare m) ran d le more low typed = tt
      node_front scope sources b n (name v x) ran d le more low typed = tt
      node_front scope sources b n (set_reg m x) ran d le more low typed = tt
      node_front scope sources b n (set_out m x) ran d le more low typed = tt
      node_front scope sources b n (set_sram m xs x) ran d le more low typed = tt
      node_front scope sources b n (enq m x) ran d le more low typed = tt

pub program_front : (p : PlainProgram) → IsProgram p → FrontNode p (core_of p).root
unfolding core_of
program_front p h =
    let have : HasMemories p (core_of p) = record { declared = h.declarations; others = registers_in p.body no_more; mems = refl; ports = refl } in
    let n : ℕ = length (written_mems p.mems) in
    let ran : InRange p (outer_scope p) = λ m c. (port_is p h m c).0 in
    let d : Declared p (mems_declared p.body) = λ m c. let is = declared_is p h m (contains_count (mems_declared p.body) m c) in (is.0, off_dram p h m is.1) in
    body_front p (length p.counters) no_sources n [] Pipe p.body no_more nothing _ (inl refl) (stages_front p (length p.counters) have (outer_scope p) (no_run no_sources) n p.body no_more nothing ran d (omega arith) ((λ v. tt), (λ v. tt)) h.typed)
