-- The combinations of the core of a program: what they name isn't owned by their bodies, and is two memories.
use Rattle.std.proofs.Common.{◌≡◌, ℕ, zero, suc, ◌+◌, ◌<◌, ◌≤◌, ◌==◌, Bool, true, false, not, ◌&&◌, ◌||◌, List, [], ◌∷◌, ◌++◌, length, map, Option, Some, None, refl, sym, ◌∙◌, ap, subst, arith, if◌then◌else◌}
use Rattle.std.proofs.lemmas.Bool.{and_from, true≢false, eqb-true, eq-eqb, ne_eqb, false≢true, not-true}
use Rattle.std.proofs.lemmas.List.{length-append}
use Rattle.std.specs.Prelude.{Contains, IsTrue}
use Rattle.sp_words.specs.declared.kind.Kind.{Kind}
use Rattle.sp_words.specs.declared.kind.Kind.TheVariants.{Reg, Sram}
use Rattle.sp_words.specs.declared.kind.Style.{Style}
use Rattle.sp_words.specs.declared.kind.Style.TheVariants.{Pipe, Sequential, Parallel, Stream}
use Rattle.sp_words.specs.declared.types.Ty.{Ty}
use Rattle.sp_tree.specs.declared.statement.Comb.{Comb}
use Rattle.sp_tree.specs.Expressions.{mem, dims}
use Rattle.sp_tree.specs.Footprint.{BodyNames}
use Rattle.sp_tree.specs.Invariant.{IsProgram, outer_scope}
use Rattle.sp_tree.specs.Meaning.{is_dram}
use Rattle.sp_tree.specs.PlainExpression.{PlainExpr, type_of}
use Rattle.sp_tree.specs.PlainProgram.{PlainProgram}
use Rattle.sp_tree.specs.PlainStatement.{PlainCounter, PlainStmtKind, PlainStmts, stmt, declare, name, set_reg, set_out, set_sram, enq, load_sram, load_line, store, gather, scatter, block, foreach, reduce, mem_reduce, fsm, branch, no_stmt, more_stmt}
use Rattle.sp_tree.specs.Structure.{mems_declared, mems_in, own_mems, slice_lanes, is_inner}
use Rattle.sp_tree.specs.Tallies.{Tally, primitive}
use Rattle.sp_tree.specs.Typing.{Scope, IsLoopStyle, IsMem, BodyTyped, StmtTyped, after, with_counters, with_val, all_but}
use Rattle.sp_core.specs.Around.{lanes_of}
use Rattle.sp_core.specs.Declarations.{is_stream, is_among}
use Rattle.sp_core.specs.PlainCore as core_tree
use Rattle.sp_core.specs.PlainCore.{PlainOp, PlainNode, PlainStages, inner, outer, no_stage, more_stage}
use Rattle.sp_sugar.specs.Combination.{element_counters, element_value, element_loop}
use Rattle.sp_sugar.specs.Core.{core_of}
use Rattle.sp_sugar.specs.Early.{bounds_of, is_early, registers_for, counters_of, stage_of, early_stages}
use Rattle.sp_sugar.specs.Numbers.{begun_register, is_off_dram, mem_number, numbers_from, written_mems}
use Rattle.sp_sugar.specs.Operations.{Code, alone, code, read_op, write_op}
use Rattle.sp_sugar.specs.Registers.{ending_of, at_end, beside, inside, owned_registers, registers_in}
use Rattle.sp_sugar.specs.Runs.{Run, no_run, next_code, with_stmt, inner_run}
use Rattle.sp_sugar.specs.Stages.{run_stage, first_of, Combines, nothing, folds, reduces, reduces_elements, combines, combination_stage, inner_node, last_stages, style_of, outer_node, body_node, stages, node}
use Rattle.sp_sugar.specs.Uses.{Ending, no_more, in_last_run, in_combination}
use Rattle.sp_sugar.specs.Values.{Sources, no_sources, with_state}
use Rattle.sp_sugar.proofs.Cores.{contains_count, port_is}
use Rattle.sp_sugar.proofs.Entering.{own_declared}
use Rattle.sp_sugar.proofs.NodeSteps.{ending_is}
use Rattle.sp_sugar.proofs.NumberLemmas.{number_below, numbers_apart}
use Rattle.sp_sugar.proofs.Owners.{declared_is, off_dram}
use Rattle.sp_lane_rules.proofs.UnrolledPlaces.{among_both}
use Rattle.sp_lane_cores.specs.LanedMarks.{Combination, folded, reduced, element, combination_ops, is_other}
use Rattle.sp_lane_cores.proofs.LanedEarlier.{run_good, early_good}
use Rattle.sp_lane_cores.proofs.LanedNaming.{InRange, Declared, declared_front, declared_back, range_after}
use Rattle.sp_lane_cores.proofs.LanedParting.{range_loops}
use Rattle.sp_lane_cores.specs.EndingsEnding.{IsOneWord, HasTwo}

-- a list ends in a combination from a place on
pub record Ends (c : Combination) (ops : List PlainOp) (at : ℕ) : Type 0 where
  pub front : List PlainOp
  pub place : length front ≡ at
  pub list : ops ≡ front ++ combination_ops at c
  pub two : HasTwo c

-- so does that of an inner body where it has a mark, and that of the last stage of a loop that combines
abbrev pub InnerApart : (owned : List ℕ) → List PlainOp → Option ℕ → Type 0
InnerApart owned ops None = Unit {0}
InnerApart owned ops (Some at) = (c : Combination) × IsOneWord c × Ends c ops at × ((m : ℕ) → is_among m owned ≡ true → is_other c m ≡ true)

abbrev pub StageEnds : (is : ℕ → Bool) → PlainNode → Type 0
StageEnds is (inner counters owned ops (Some at)) = (lanes_of counters ≡ 1) × ((c : Combination) × (is_other c ≡ is) × Ends c ops at)
StageEnds is node = ⊥

abbrev mutual
  pub NodeApart : PlainNode → Type 0
  NodeApart (inner counters owned ops comb) = InnerApart owned ops comb
  NodeApart (outer counters style owned stages) = (is : ℕ → Bool) × ((m : ℕ) → is_among m owned ≡ true → is m ≡ true) × StagesApart is stages × (is_stream style ≡ true → lanes_of counters ≡ 1)
  NodeApart (core_tree.fsm start state test body next) = NodeApart body
  NodeApart (core_tree.branch test first second) = NodeApart first × NodeApart second
  NodeApart node = Unit {0}

  pub StagesApart : (is : ℕ → Bool) → PlainStages → Type 0
  StagesApart is no_stage = Unit {0}
  StagesApart is (more_stage first last true node rest) = (first ≡ 0) × (last ≡ 0) × StageEnds is node × StagesApart is rest
  StagesApart is (more_stage first last false node rest) = (first ≡ 0) × (last ≡ 0) × NodeApart node × StagesApart is rest

-- the memories that a loop doesn't combine by
abbrev other_of : Combines → ℕ → Bool
other_of nothing m = true
other_of (folds acc comb e) m = not (m == acc)
other_of (reduces acc begun comb e) m = not (m == acc) && not (m == begun)
other_of (reduces_elements part acc begun comb) m = not (m == acc) && not (m == begun)

abbrev TwoOf : Combines → Type 0
TwoOf nothing = Unit {0}
TwoOf (folds acc comb e) = Unit {0}
TwoOf (reduces acc begun comb e) = acc ≡ begun → ⊥
TwoOf (reduces_elements part acc begun comb) = acc ≡ begun → ⊥

-- a word is combined; and where one is combined at the end of a body, it is one
abbrev OneWord : Combines → Type 0
OneWord (folds acc comb e) = Unit {0}
OneWord (reduces acc begun comb e) = Unit {0}
OneWord c = ⊥

abbrev EndWell : Ending → Combines → Type 0
EndWell ending (reduces_elements part acc begun comb) = Unit {0}
EndWell no_more c = Unit {0}
EndWell ending c = OneWord c

differs : (a b : ℕ) → (a ≡ b → ⊥) → not (a == b) ≡ true
differs a b h = ap not (ne_eqb a b h)

differ : (a b : ℕ) → not (a == b) ≡ true → a ≡ b → ⊥
differ a b h e = false≢true (sym (not-true (a == b) h) ∙ eq-eqb a b e)

either : (a b : Bool) {P : Type 0} → (a || b) ≡ true → (a ≡ true → P) → (b ≡ true → P) → P
either true b e f g = f refl
either false b e f g = g e

-- what is among mapped numbers
mapped_in : (f : ℕ → ℕ) (xs : List ℕ) (k : ℕ) → is_among k (map f xs) ≡ true → (x : ℕ) × Contains xs x × (f x ≡ k)
mapped_in f [] k e = absurd (true≢false (sym e))
mapped_in f (x ∷ xs) k e = either (k == f x) (is_among k (map f xs)) e
    (λ i. (x, (zero, omega arith, refl), sym (eqb-true k (f x) i)))
    (λ i. let r = mapped_in f xs k i in (r.0, (let c = r.1 in (suc c.0, omega (arith, c.1), c.2)), r.2))

-- registers from a number on
numbers_high : (n k m : ℕ) → is_among m (numbers_from n k) ≡ true → n ≤ m
numbers_high n zero m e = absurd (true≢false (sym e))
numbers_high n (suc k) m e = either (m == n) (is_among m (numbers_from (suc n) k)) e
    (λ i. let same : m ≡ n = eqb-true m n i in omega (arith, same))
    (λ i. let le : suc n ≤ m = numbers_high (suc n) k m i in omega (arith, le))

registers_high : (n : ℕ) (body : PlainStmts) (ending : Ending) (m : ℕ) → is_among m (owned_registers n body ending) ≡ true → n ≤ m
registers_high n no_stmt ending m e = numbers_high n (length (at_end ending)) m e
registers_high n (more_stmt (stmt place k) rest) ending m e =
    let here : List ℕ = numbers_from n (length (beside k rest ending)) in
    let next : ℕ = n + length (beside k rest ending) + length (inside k) in
    either (is_among m here) (is_among m (owned_registers next rest ending)) (sym (among_both m here (owned_registers next rest ending)) ∙ e)
    (λ i. numbers_high n (length (beside k rest ending)) m i)
    (λ i. let le : next ≤ m = registers_high next rest ending m i in omega (arith, le))

-- what a body declares itself is named in it
own_ok : (ok : ℕ → Bool) (body : PlainStmts) (m : ℕ) → BodyNames ok body → Contains (own_mems body) m → IsTrue (ok m)
own_ok ok no_stmt m o c = absurd (omega (arith, c.1))
own_ok ok (more_stmt (stmt place (declare x)) rest) m o (zero, lt, e) = subst (λ y. IsTrue (ok y)) e o.0
own_ok ok (more_stmt (stmt place (declare x)) rest) m o (suc j, lt, e) = own_ok ok rest m o.1 (j, omega arith, e)
own_ok ok (more_stmt (stmt place k) rest) m o c = own_ok ok rest m o.1 c

-- one number later
begun_before : (b n : ℕ) (early : List core_tree.PlainMem) → b + length (early ++ begun_register ∷ []) ≤ n → b + length early < n
begun_before b n early h = omega (arith, h, length-append early (begun_register ∷ []))

-- a loop is no stream block
no_stream : (style : Style) (lanes : ℕ) → IsLoopStyle style → is_stream style ≡ true → lanes ≡ 1
no_stream Pipe lanes h e = absurd (true≢false (sym e))
no_stream Sequential lanes h e = absurd (true≢false (sym e))
no_stream Parallel lanes h e = absurd h
no_stream Stream lanes h e = absurd h

if_apart : (b : Bool) (x y : PlainNode) → NodeApart x → NodeApart y → NodeApart (if b then x else y)
if_apart true x y h k = h
if_apart false x y h k = k

-- elements are gone through in one lane
lone_elements : (c : ℕ) (ds : List ℕ) → lanes_of (element_counters c ds) ≡ 1
lone_elements c [] = refl
lone_elements c (d ∷ []) = refl
lone_elements c (d ∷ next ∷ ds) = lone_elements (suc c) (next ∷ ds)

module _ (p : PlainProgram) (counters : ℕ) where
  abbrev own_numbers : PlainStmts → List ℕ
  own_numbers body = map (mem_number p.mems) (own_mems body)

  -- a memory that is visible, and not declared in a body
  module _ (scope : Scope) (acc : ℕ) (K : Kind) (ty : Ty) (is : IsMem p scope acc K ty) (off : is_dram K ≡ false) (ran : InRange p scope) (body : PlainStmts) (d : Declared p (mems_declared body)) (o : BodyNames (all_but p acc) body) where
    acc_off : is_off_dram (mem p.mems acc) ≡ true
    acc_off = ap (λ k. not (is_dram k)) is.is_kind ∙ ap not off

    acc_low : mem_number p.mems acc < length (written_mems p.mems)
    acc_low = number_below p.mems acc (ran acc is.seen) acc_off

    own_apart : (m : ℕ) → is_among m (own_numbers body) ≡ true → (m < length (written_mems p.mems)) × (m ≡ mem_number p.mems acc → ⊥)
    own_apart m e =
        let x = mapped_in (mem_number p.mems) (own_mems body) m e in
        let here = d x.0 (own_declared body x.0 x.1) in
        let low : mem_number p.mems x.0 < length (written_mems p.mems) = number_below p.mems x.0 here.0 here.1 in (
          subst (λ k. k < length (written_mems p.mems)) x.2 low,
          λ same. differ x.0 acc (own_ok (all_but p acc) body x.0 o x.1) (numbers_apart p.mems x.0 acc here.0 (ran acc is.seen) here.1 acc_off (x.2 ∙ same)),
        )

    -- its memories, where the body owns these
    owned_other : (n begun : ℕ) (ending : Ending) → length (written_mems p.mems) ≤ n → length (written_mems p.mems) ≤ begun → begun < n → (m : ℕ) → is_among m (own_numbers body ++ owned_registers n body ending) ≡ true
        → (not (m == mem_number p.mems acc) ≡ true) × (not (m == begun) ≡ true)
    owned_other n begun ending le late lt m e = either (is_among m (own_numbers body)) (is_among m (owned_registers n body ending)) (sym (among_both m (own_numbers body) (owned_registers n body ending)) ∙ e)
        (λ i. let x = own_apart m i in let low = x.0 in (differs m (mem_number p.mems acc) x.1, differs m begun (λ same. omega (arith, low, late, same))))
        (λ i. let high : n ≤ m = registers_high n body ending m i in (differs m (mem_number p.mems acc) (λ same. omega (arith, high, le, acc_low, same)), differs m begun (λ same. omega (arith, high, lt, same))))

    owned_by_loop : (n : ℕ) (ending : Ending) → length (written_mems p.mems) ≤ n → (m : ℕ) → is_among m (own_numbers body ++ owned_registers n body ending) ≡ true → not (m == mem_number p.mems acc) ≡ true
    owned_by_loop n ending le m e = either (is_among m (own_numbers body)) (is_among m (owned_registers n body ending)) (sym (among_both m (own_numbers body) (owned_registers n body ending)) ∙ e)
        (λ i. differs m (mem_number p.mems acc) (own_apart m i).1)
        (λ i. let high : n ≤ m = registers_high n body ending m i in differs m (mem_number p.mems acc) (λ same. omega (arith, high, le, acc_low, same)))

  good : (is : ℕ → Bool) (ops : List PlainOp) (rest : PlainStages) → StagesApart is rest → StagesApart is (stage_of ops rest)
  good is ops rest h = (refl, refl, tt, h)

  run_apart : (is : ℕ → Bool) (ops : List PlainOp) (rest : PlainStages) → StagesApart is rest → StagesApart is (run_stage ops rest)
  run_apart is ops rest h = run_good (λ xs. StagesApart is xs) (good is) ops rest h

  -- the combination after the stages of a body
  stage_apart : (x : Code) (c : Combines) → OneWord c → TwoOf c → StagesApart (other_of c) (combination_stage p.mems counters x c)
  stage_apart x nothing some two = absurd some
  stage_apart x (folds acc comb e) some two = (refl, refl, (refl, (folded x.word acc (type_of e) comb, refl, record { front = [] ++ x.ops; place = length-append [] x.ops; list = refl; two = tt })), tt)
  stage_apart x (reduces acc begun comb e) some two = (refl, refl, (refl, (reduced x.word acc begun (type_of e) comb, refl, record { front = [] ++ x.ops; place = length-append [] x.ops; list = refl; two = two })), tt)
  stage_apart x (reduces_elements part acc begun comb) some two = absurd some

  elements_apart : (run : Run) (part acc begun : ℕ) (comb : Comb) → (acc ≡ begun → ⊥)
      → StagesApart (other_of (reduces_elements part acc begun comb)) (run_stage run.ops (more_stage 0 0 true (element_loop p.mems counters (dims p.mems part) part acc begun (mem p.mems part).ty comb) no_stage))
  elements_apart run part acc begun comb two =
      let value : Code = element_value p.mems counters (dims p.mems part) part (mem p.mems part).ty in
      run_apart (other_of (reduces_elements part acc begun comb)) run.ops _
      (refl, refl, (lone_elements counters (dims p.mems part), (element p.mems value.word counters (dims p.mems part) acc begun (mem p.mems part).ty comb, refl, record { front = value.ops; place = refl; list = refl; two = two })), tt)

  last_apart : (run : Run) (n : ℕ) (ending : Ending) (c : Combines) → EndWell ending c → TwoOf c → StagesApart (other_of c) (last_stages p.mems counters run n ending c)
  last_apart run n no_more (reduces_elements part acc begun comb) well two = elements_apart run part acc begun comb two
  last_apart run n (in_last_run e) (reduces_elements part acc begun comb) well two = elements_apart run part acc begun comb two
  last_apart run n (in_combination e) (reduces_elements part acc begun comb) well two = elements_apart run part acc begun comb two
  last_apart run n no_more nothing well two = run_apart (other_of nothing) run.ops no_stage tt
  last_apart run n no_more (folds acc comb e) well two = run_apart (other_of (folds acc comb e)) run.ops no_stage tt
  last_apart run n no_more (reduces acc begun comb e) well two = run_apart (other_of (reduces acc begun comb e)) run.ops no_stage tt
  last_apart run n (in_last_run e) nothing well two = absurd well
  last_apart run n (in_last_run e) (folds acc comb x) well two = run_apart (other_of (folds acc comb x)) (run.ops ++ (next_code p.mems run e).ops ++ write_op (type_of e) n ((next_code p.mems run e).word ∷ []) ∷ []) _ (stage_apart (alone 0 (read_op (type_of e) n [])) (folds acc comb x) tt two)
  last_apart run n (in_last_run e) (reduces acc begun comb x) well two = run_apart (other_of (reduces acc begun comb x)) (run.ops ++ (next_code p.mems run e).ops ++ write_op (type_of e) n ((next_code p.mems run e).word ∷ []) ∷ []) _ (stage_apart (alone 0 (read_op (type_of e) n [])) (reduces acc begun comb x) tt two)
  last_apart run n (in_combination e) nothing well two = absurd well
  last_apart run n (in_combination e) (folds acc comb x) well two = run_apart (other_of (folds acc comb x)) run.ops _ (stage_apart (code p.mems run.values.elsewhere 0 e) (folds acc comb x) tt two)
  last_apart run n (in_combination e) (reduces acc begun comb x) well two = run_apart (other_of (reduces acc begun comb x)) run.ops _ (stage_apart (code p.mems run.values.elsewhere 0 e) (reduces acc begun comb x) tt two)

  -- an inner body, and one that may have stages
  inner_apart : (sources : Sources) (loops : List core_tree.PlainCounter) (body : PlainStmts) (c : Combines) → TwoOf c → ((m : ℕ) → is_among m (own_numbers body) ≡ true → other_of c m ≡ true) → NodeApart (inner_node p.mems counters sources loops body c)
  inner_apart sources loops body nothing two h = tt
  inner_apart sources loops body (folds acc comb e) two h =
      let run : Run = inner_run p.mems (no_run sources) body in
      let x : Code = next_code p.mems run e in
      (folded x.word acc (type_of e) comb, tt, record { front = run.ops ++ x.ops; place = length-append run.ops x.ops; list = refl; two = tt }, h)
  inner_apart sources loops body (reduces acc begun comb e) two h =
      let run : Run = inner_run p.mems (no_run sources) body in
      let x : Code = next_code p.mems run e in
      (reduced x.word acc begun (type_of e) comb, tt, record { front = run.ops ++ x.ops; place = length-append run.ops x.ops; list = refl; two = two }, h)
  inner_apart sources loops body (reduces_elements part acc begun comb) two h = tt

  body_apart : (sources : Sources) (n : ℕ) (loops : List core_tree.PlainCounter) (style : Style) (body : PlainStmts) (ending : Ending) (c : Combines) (all : PlainStages) → (is_stream style ≡ true → lanes_of loops ≡ 1) → TwoOf c → ((m : ℕ) → is_among m (own_numbers body ++ owned_registers n body ending) ≡ true → other_of c m ≡ true)
      → StagesApart (other_of c) all → NodeApart (body_node p.mems counters sources n loops style body ending c all)
  body_apart sources n loops style body ending c all alone two h k =
      if_apart (is_inner body) (inner_node p.mems counters sources loops body c) (outer_node p.mems counters n loops style body ending all)
      (inner_apart sources loops body c two (λ m e. h m (among_both m (own_numbers body) (owned_registers n body ending) ∙ ap (λ b. b || is_among m (owned_registers n body ending)) e)))
      (other_of c, h, k, alone)

  -- a statement is of a run, or a stage
  choose : (is : ℕ → Bool) (k : PlainStmtKind) (xs : Tally → PlainStages) (ys : PlainStages) (o : Option Tally) → ((t : Tally) → StagesApart is (xs t)) → StagesApart is ys → StagesApart is (elim o as (λ _. PlainStages) [ Some t ↦ xs t | None ↦ ys ])
  choose is k xs ys (Some t) f g = f t
  choose is k xs ys None f g = g

  end_well : (loops : List PlainCounter) (fold : Bool) (acc begun : ℕ) (comb : Comb) (e : PlainExpr) → EndWell (ending_of loops e) (combines p.mems fold acc begun comb e)
  end_well loops true acc begun comb e = ending_is (λ ending. EndWell ending (folds (mem_number p.mems acc) comb e)) loops e tt tt
  end_well loops false acc begun comb e = ending_is (λ ending. EndWell ending (reduces (mem_number p.mems acc) begun comb e)) loops e tt tt

  -- the combination of a loop, by its accumulator and its register
  abbrev Late : ℕ → Type 0
  Late n = length (written_mems p.mems) ≤ n

  combines_apart : (fold : Bool) (acc begun : ℕ) (comb : Comb) (e : PlainExpr) (owned : List ℕ) → ((m : ℕ) → is_among m owned ≡ true → not (m == mem_number p.mems acc) ≡ true) → (fold ≡ false → (m : ℕ) → is_among m owned ≡ true → not (m == begun) ≡ true)
      → (m : ℕ) → is_among m owned ≡ true → other_of (combines p.mems fold acc begun comb e) m ≡ true
  combines_apart true acc begun comb e owned h k m i = h m i
  combines_apart false acc begun comb e owned h k m i = and_from (not (m == mem_number p.mems acc)) (not (m == begun)) (h m i) (k refl m i)

  combines_two : (fold : Bool) (acc begun : ℕ) (comb : Comb) (e : PlainExpr) → (mem_number p.mems acc ≡ begun → ⊥) → TwoOf (combines p.mems fold acc begun comb e)
  combines_two true acc begun comb e h = tt
  combines_two false acc begun comb e h = h

  -- the register stands before those inside of the loop
  begun_in : (fold : Bool) (b n : ℕ) (early : List core_tree.PlainMem) → b + length (early ++ (if fold then [] else begun_register ∷ [])) ≤ n → fold ≡ false → b + length early < n
  begun_in true b n early h e = absurd (true≢false e)
  begun_in false b n early h e = begun_before b n early h

  mutual
    unfolding stages node

    stages_apart : (scope : Scope) (run : Run) (n : ℕ) (body : PlainStmts) (ending : Ending) (c : Combines) → InRange p scope → Declared p (mems_declared body) → Late n → BodyTyped p scope body → EndWell ending c → TwoOf c → StagesApart (other_of c) (stages p.mems counters run n body ending c)
    stages_apart scope run n no_stmt ending c ran d le typed well two = last_apart run n ending c well two
    stages_apart scope run n (more_stmt (stmt place k) rest) ending c ran d le typed well two = choose (other_of c) k
        (λ t. stages p.mems counters (with_stmt p.mems false (first_of n (beside k rest ending)) run k) (n + length (beside k rest ending)) rest ending c)
        (run_stage run.ops (early_stages p.mems run.values.elsewhere n k (more_stage 0 0 false (node p.mems counters run.values.elsewhere n (n + length (beside k rest ending)) k)
        (stages p.mems counters (no_run run.values.elsewhere) (n + length (beside k rest ending) + length (inside k)) rest ending c))))
        (primitive k)
        (λ t. stages_apart (after scope k) (with_stmt p.mems false (first_of n (beside k rest ending)) run k) (n + length (beside k rest ending)) rest ending c
        (range_after p scope k ran (declared_front p (mems_in k) (mems_declared rest) d)) (declared_back p (mems_in k) (mems_declared rest) d) (omega (arith, le)) typed.1 well two)
        (run_apart (other_of c) run.ops _ (early_good (λ xs. StagesApart (other_of c) xs) (good (other_of c)) p.mems run.values.elsewhere n k _ (
          refl,
          refl,
          node_apart scope run.values.elsewhere n (n + length (beside k rest ending)) k rest ending ran (declared_front p (mems_in k) (mems_declared rest) d) le (omega arith) typed.0,
          stages_apart (after scope k) (no_run run.values.elsewhere) (n + length (beside k rest ending) + length (inside k)) rest ending c
              (range_after p scope k ran (declared_front p (mems_in k) (mems_declared rest) d)) (declared_back p (mems_in k) (mems_declared rest) d) (omega (arith, le)) typed.1 well two,
        )))

    node_apart : (scope : Scope) (sources : Sources) (b n : ℕ) (k : PlainStmtKind) (rest : PlainStmts) (ending : Ending) → InRange p scope → Declared p (mems_in k) → Late b → b + length (beside k rest ending) ≤ n → StmtTyped p scope k → NodeApart (node p.mems counters sources b n k)
    node_apart scope sources b n (load_sram sram dram spans) rest ending ran d le room typed = if_apart (slice_lanes spans == 1) _ _ tt tt
    node_apart scope sources b n (load_line line dram spans) rest ending ran d le room typed = if_apart (slice_lanes spans == 1) _ _ tt tt
    node_apart scope sources b n (store dram spans sram) rest ending ran d le room typed = if_apart (slice_lanes spans == 1) _ _ tt tt
    node_apart scope sources b n (gather sram dram places e) rest ending ran d le room typed = tt
    node_apart scope sources b n (scatter dram places e sram) rest ending ran d le room typed = tt
    node_apart scope sources b n (block style body) rest ending ran d le room typed =
        body_apart sources n [] (style_of p.mems counters style body) body no_more nothing _ (λ s. refl) tt (λ m e. refl)
        (stages_apart scope (no_run sources) n body no_more nothing ran d (omega (arith, le, room)) typed tt tt)
    node_apart scope sources b n (foreach style loops body) rest ending ran d le room typed =
        body_apart sources n (counters_of p.mems sources b loops) style body no_more nothing _ (no_stream style _ typed.0) tt (λ m e. refl)
        (stages_apart (with_counters scope loops) (no_run sources) n body no_more nothing (range_loops p scope loops ran) d (omega (arith, le, room)) typed.2 tt tt)
    node_apart scope sources b n (reduce style fold acc loops body e comb) rest ending ran d le room typed =
        let early : List core_tree.PlainMem = registers_for is_early (bounds_of loops) in
        let begun : ℕ = b + length early in
        let c : Combines = combines p.mems fold acc begun comb e in
        let late : Late n = omega (arith, le, room) in
        let low = acc_low scope acc Reg (type_of e) typed.3 refl ran body d typed.6 in
        let two = combines_two fold acc begun comb e (λ same. omega (arith, same, low, le)) in
        let own = combines_apart fold acc begun comb e (own_numbers body ++ owned_registers n body (ending_of loops e))
        (λ m i. (owned_by_loop scope acc Reg (type_of e) typed.3 refl ran body d typed.6 n (ending_of loops e) late m i))
        (λ f m i. (owned_other scope acc Reg (type_of e) typed.3 refl ran body d typed.6 n begun (ending_of loops e) late (omega (arith, le)) (begun_in fold b n early room f) m i).1) in
        body_apart sources n (counters_of p.mems sources b loops) style body (ending_of loops e) c _ (no_stream style _ typed.0) two own
        (stages_apart (with_counters scope loops) (no_run sources) n body (ending_of loops e) c (range_loops p scope loops ran) d late typed.2 (end_well loops fold acc begun comb e) two)
    node_apart scope sources b n (mem_reduce style acc loops body part comb) rest ending ran d le room typed =
        let early : List core_tree.PlainMem = registers_for is_early (bounds_of loops) in
        let begun : ℕ = b + length early in
        let c : Combines = reduces_elements part (mem_number p.mems acc) begun comb in
        let late : Late n = omega (arith, le, room) in
        let low = acc_low scope acc Sram (mem p.mems acc).ty typed.3 refl ran body d typed.5 in
        let two : mem_number p.mems acc ≡ begun → ⊥ = λ same. omega (arith, same, low, le) in (
          other_of c,
          (λ m i. let x = owned_other scope acc Sram (mem p.mems acc).ty typed.3 refl ran body d typed.5 n begun no_more late (omega (arith, le)) (begun_before b n early room) m i in and_from (not (m == mem_number p.mems acc)) (not (m == begun)) x.0 x.1),
          stages_apart (with_counters scope loops) (no_run sources) n body no_more c (range_loops p scope loops ran) d late typed.2 tt two,
          no_stream style _ typed.0,
        )
    node_apart scope sources b n (fsm start tested test state body last next) rest ending ran d le room typed =
        let kept : Sources = with_state sources tested state last n in
        body_apart kept (suc n) [] Pipe body no_more nothing _ (λ s. refl) tt (λ m e. refl)
        (stages_apart (with_val scope state (type_of start)) (no_run kept) (suc n) body no_more nothing ran d (omega (arith, le, room)) typed.4 tt tt)
    node_apart scope sources b n (branch test first second) rest ending ran d le room typed =
        let m : ℕ = n + length (registers_in first no_more) in (
          body_apart sources n [] Pipe first no_more nothing _ (λ s. refl) tt (λ m e. refl)
              (stages_apart scope (no_run sources) n first no_more nothing ran (declared_front p (mems_declared first) (mems_declared second) d) (omega (arith, le, room)) typed.1 tt tt),
          body_apart sources m [] Pipe second no_more nothing _ (λ s. refl) tt (λ m e. refl)
              (stages_apart scope (no_run sources) m second no_more nothing ran (declared_back p (mems_declared first) (mems_declared second) d) (omega (arith, le, room)) typed.2 tt tt),
        )
    node_apart scope sources b n (declare m) rest ending ran d le room typed = tt
    node_apart scope sources b n (name v x) rest ending ran d le room typed = tt
    node_apart scope sources b n (set_reg m x) rest ending ran d le room typed = tt
    node_apart scope sources b n (set_out m x) rest ending ran d le room typed = tt
    node_apart scope sources b n (set_sram m xs x) rest ending ran d le room typed = tt
    node_apart scope sources b n (enq m x) rest ending ran d le room typed = tt

pub program_apart : (p : PlainProgram) → IsProgram p → NodeApart (core_of p).root
unfolding core_of
program_apart p h =
    let n : ℕ = length (written_mems p.mems) in
    let ran : InRange p (outer_scope p) = λ m c. (port_is p h m c).0 in
    let d : Declared p (mems_declared p.body) = λ m c. let is = declared_is p h m (contains_count (mems_declared p.body) m c) in (is.0, off_dram p h m is.1) in
    body_apart p (length p.counters) no_sources n [] Pipe p.body no_more nothing _ (λ s. refl) tt (λ m e. refl)
    (stages_apart p (length p.counters) (outer_scope p) (no_run no_sources) n p.body no_more nothing ran d (omega arith) h.typed tt tt)
