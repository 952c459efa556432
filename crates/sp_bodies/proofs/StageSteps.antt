-- Stages one after the other: that of a run of statements, and those of a controller or transfer.
use Rattle.std.proofs.Common.{◌≡◌, ℕ, zero, suc, ◌+◌, ◌<◌, ◌≤◌, Bool, true, false, List, [], ◌∷◌, ◌++◌, Option, Some, None, refl, sym, ◌∙◌, ap, subst, arith, length-append, append_assoc, if◌then◌else◌}
use Rattle.std.specs.Prelude.{length, Contains}
use Rattle.sp_words.specs.declared.types.Ty.{Ty}
use Rattle.sp_words.specs.Memory.{cells}
use Rattle.sp_words.specs.Types.{int_type}
use Rattle.sp_tree.specs.PlainExpression.{PlainExpr}
use Rattle.sp_tree.specs.PlainProgram.{PlainProgram}
use Rattle.sp_tree.specs.PlainStatement.{PlainStmtKind, declare, name, set_reg, set_out, set_sram, enq, load_sram, load_line, store, gather, scatter, block, foreach, reduce, mem_reduce, fsm, branch}
use Rattle.sp_tree.specs.Sequential.{run_kind}
use Rattle.sp_tree.specs.Shape as program_shape
use Rattle.sp_tree.specs.Shape.{shapes}
use Rattle.sp_tree.specs.Step as step
use Rattle.sp_tree.specs.Store as program_store
use Rattle.sp_tree.specs.Structure.{mems_in}
use Rattle.sp_tree.specs.Typing.{Scope, StmtTyped}
use Rattle.sp_core.specs.History.{Entry, Runs, inner_ran, masked_run, more_run}
use Rattle.sp_core.specs.Operations.{operations_after}
use Rattle.sp_core.specs.PlainCore.{PlainMem, PlainOp, PlainNode, PlainStages, PlainCore, more_stage}
use Rattle.sp_core.specs.Scope as counters
use Rattle.sp_core.specs.Scope.{plainly}
use Rattle.sp_core.specs.Sequential.{run, run_stages}
use Rattle.sp_core.specs.Shape.{stage_shapes}
use Rattle.sp_core.specs.Step as core_step
use Rattle.sp_core.specs.Store as core_store
use Rattle.sp_sugar.specs.Agreement.{HasMemories, View, IsAdded, Apart, Agree}
use Rattle.sp_sugar.specs.Early.{early_registers, registers_for, after as number_after, early_stages}
use Rattle.sp_sugar.specs.Numbers.{begun_register, crossing_register}
use Rattle.sp_sugar.specs.Registers.{inside}
use Rattle.sp_sugar.specs.Runs.{Run, no_run}
use Rattle.sp_sugar.specs.Stages.{run_stage, node}
use Rattle.sp_sugar.specs.Values.{Sources}
use Rattle.sp_sugar.proofs.GoOnLemmas.{at_rest}
use Rattle.sp_sugar.proofs.RunKeeps.{in_front, in_back}
use Rattle.sp_sugar.proofs.StepLemmas.{then_on, same_core_store}
use Rattle.sp_same.specs.Counts.{Count, counts_in_all, stage_counts}
use Rattle.sp_same.specs.Contents.{HoldRightly}
use Rattle.sp_same.specs.Following.{SourcesSeen, SourceBefore, AreSpare, IsOwn, AreCells, EarlyGoes, NodeGoes}
use Rattle.sp_same.specs.Laws.{crosses_in, words_in}
use Rattle.sp_same.proofs.EarlyStages.{stage_goes}
use Rattle.sp_same.proofs.EarlyWords.{early_goes}
use Rattle.sp_same.proofs.Renewed.{in_either}
use Rattle.sp_bodies.specs.Bodies.{begun_of, beside_of, HasBegun, AreDeclared, IsStageFollowed}
use Rattle.sp_bodies.proofs.Known.{Known, known_here, known_more, known_found, known_same}
use Rattle.sp_bodies.proofs.Statements.{view_at, Standing, fewer_registers}

-- what registers from a number on hold when they are fresh
abbrev pub cells_from : ℕ → List PlainMem → List (ℕ × Option ℕ)
cells_from n [] = []
cells_from n (m ∷ ms) = (n, m.start) ∷ cells_from (suc n) ms

pub cells_number : (n : ℕ) (ms : List PlainMem) (x : ℕ × Option ℕ) → Contains (cells_from n ms) x → (n ≤ x.0) × (x.0 < n + length ms)
cells_number n [] x c = absurd (omega (arith, c.1))
cells_number n (m ∷ ms) x (zero, lt, e) = let f : n ≡ x.0 = ap (λ (y : ℕ × Option ℕ). y.0) e in (omega (arith, f), omega (arith, f))
cells_number n (m ∷ ms) x (suc j, lt, e) = let f = cells_number (suc n) ms x (j, omega arith, e) in (omega (arith, f.0), omega (arith, f.1))

pub cells_append : (n : ℕ) (xs ys : List PlainMem) → cells_from n (xs ++ ys) ≡ cells_from n xs ++ cells_from (n + length xs) ys
cells_append n [] ys = ap (λ k. cells_from k ys) {x = n} {y = n + 0} (omega arith)
cells_append n (m ∷ xs) ys = ap (λ l. (n, m.start) ∷ l) (cells_append (suc n) xs ys ∙ ap (λ k. cells_from (suc n) xs ++ cells_from k ys) {x = suc n + length xs} {y = n + suc (length xs)} (omega arith))

pub same_early : (k : PlainStmtKind) → early_registers k ≡ registers_for (crosses_in k) (words_in k)
same_early (load_sram sram dram spans) = refl
same_early (load_line line dram spans) = refl
same_early (store dram spans sram) = refl
same_early (gather sram dram places n) = refl
same_early (scatter dram places n sram) = refl
same_early (foreach style loops body) = refl
same_early (reduce style fold acc loops body e comb) = refl
same_early (mem_reduce style acc loops body part comb) = refl
same_early (declare m) = refl
same_early (name v e) = refl
same_early (set_reg m e) = refl
same_early (set_out m e) = refl
same_early (set_sram m xs e) = refl
same_early (enq m e) = refl
same_early (block style body) = refl
same_early (fsm start tested test state body last next) = refl
same_early (branch test first second) = refl

module _ (p : PlainProgram) (core : PlainCore) (most : ℕ) (around : counters.Scope) where
  -- where some stages go on, so do others that begin before them; those do what is counted more
  abbrev pub Onward : (whole rest : PlainStages) (t u : core_store.Store) → List Count → Type 0
  Onward whole rest t u cs =
      (live : ℕ → Bool) (runs : Runs) (end : core_store.Store) → live 0 ≡ true → run_stages core plainly most rest live around u ≡ core_step.went runs end
      → (all : Runs) × (run_stages core plainly most whole live around t ≡ core_step.went all end) × (stage_counts whole (stage_shapes whole all) ≡ cs ++ stage_counts rest (stage_shapes rest runs))

  pub then_onward : (first second third : PlainStages) (t u v : core_store.Store) (cs ds : List Count) → Onward first second t u cs → Onward second third u v ds → Onward first third t v (cs ++ ds)
  then_onward first second third t u v cs ds f g live runs end l e =
      let b = g live runs end l e in
      let a = f live b.0 end l b.1 in
      (a.0, a.1, a.2 ∙ ap (λ x. cs ++ x) b.2 ∙ sym (append_assoc cs ds (stage_counts third (stage_shapes third runs))))

  -- a run is a stage where it has an operation
  pub run_onward : (h : HasMemories p core) (view : View) (s : program_store.Store) (same : view.around ≡ around) (ops : List PlainOp) (rest : PlainStages) (t u : core_store.Store) (all : List Entry) → operations_after core around [] ops t ≡ core_step.went all u → Onward (run_stage ops rest) rest t u []
  unfolding operations_after core_step.pure
  run_onward h view s same [] rest t u all goes live runs end l e = (runs, ap (run_stages core plainly most rest live around) (same_core_store [] all t u goes) ∙ e, refl)
  run_onward h view s same (op ∷ ops) rest t u all goes live runs end l e =
      let goes2 : operations_after core view.around [] (op ∷ ops) t ≡ core_step.went all u = subst (λ a. operations_after core a [] (op ∷ ops) t ≡ core_step.went all u) (sym same) goes in
      let x = stage_goes p core h most view 0 s (op ∷ ops) t u all goes2 rest live runs end l (subst (λ a. run_stages core plainly most rest live a u ≡ core_step.went runs end) (sym same) e) in
      (more_run (inner_ran [] [] (all ∷ [])) runs, subst (λ a. run_stages core plainly most (run_stage (op ∷ ops) rest) live a t ≡ core_step.went (more_run (inner_ran [] [] (all ∷ [])) runs) end) same x.0, x.1)

  -- a node is one
  pub node_onward : (view : View) (same : view.around ≡ around) (x : PlainNode) (rest : PlainStages) (t : core_store.Store) (s : program_store.Store) (did : List program_shape.Shape) (g : NodeGoes p core most view x t s did) → Onward (more_stage 0 0 false x rest) rest t g.after (counts_in_all (shapes did))
  unfolding run_stages stage_shapes stage_counts core_step.pure
  node_onward view same x rest t s did g live runs end l e =
      let goes : run core plainly most x around t ≡ core_step.went g.history g.after = subst (λ a. run core plainly most x a t ≡ core_step.went g.history g.after) same g.goes in (
        more_run g.history runs,
        ap (λ b. (elim b as (λ _. core_step.Step Runs) [
          | true ↦ core_step.◌>>=◌ (run core plainly most x around) (λ h. core_step.◌>>=◌ (run_stages core plainly most rest live around) (λ others. core_step.pure (more_run h others)))
          | false ↦ core_step.◌>>=◌ (run_stages core plainly most rest live around) (λ others. core_step.pure (masked_run others))
        ]) t) l
            ∙ then_on (run core plainly most x around) (λ h. core_step.◌>>=◌ (run_stages core plainly most rest live around) (λ others. core_step.pure (more_run h others))) t g.history g.after goes
            ∙ then_on (run_stages core plainly most rest live around) (λ others. core_step.pure (more_run g.history others)) g.after runs end e,
        ap (λ cs. cs ++ stage_counts rest (stage_shapes rest runs)) g.counts,
      )

module _ (p : PlainProgram) (core : PlainCore) (h : HasMemories p core) (outer : View) where
  -- cells for early words
  cells_stand : (t : core_store.Store) (registers : List (ℕ × Option ℕ)) → ((x : ℕ × Option ℕ) → Contains registers x → IsAdded p core x.0 × (t x.0 ≡ Some (cells (x.1 ∷ []))))
      → (crosses : PlainExpr → Bool) (r : ℕ) (es : List PlainExpr) → ((x : ℕ × Option ℕ) → Contains (cells_from r (registers_for crosses es)) x → Contains registers x) → AreCells p core crosses t r es
  cells_stand t registers g crosses r [] f = tt
  cells_stand t registers g crosses r (e ∷ es) f = (
    λ c. let x = g (r, None) (f (r, None) (subst (λ b. Contains (cells_from r ((if b then crossing_register int_type ∷ [] else []) ++ registers_for crosses es)) (r, None)) (sym c) (0, omega arith, refl))) in (x.0, (None, x.1)),
    cells_stand t registers g crosses (number_after crosses r e) es (λ x c. f x (later (crosses e) x c)),
  )
    where
      later : (b : Bool) (x : ℕ × Option ℕ) → Contains (cells_from (if b then suc r else r) (registers_for crosses es)) x → Contains (cells_from r ((if b then crossing_register int_type ∷ [] else []) ++ registers_for crosses es)) x
      later true x c = (suc c.0, omega (arith, c.1), c.2)
      later false x c = c

  has_begun : (t : core_store.Store) (b : ℕ) (k : PlainStmtKind) → ((x : ℕ × Option ℕ) → Contains (cells_from (b + length (early_registers k)) (begun_of k)) x → IsAdded p core x.0 × (t x.0 ≡ Some (cells (x.1 ∷ [])))) → HasBegun p core t b k
  has_begun t b (reduce style fold acc loops body e comb) f = λ c. f (_, Some 0) (subst (λ x. Contains (cells_from (b + length (early_registers (reduce style fold acc loops body e comb))) (if x then [] else begun_register ∷ [])) (b + length (early_registers (reduce style fold acc loops body e comb)), Some 0)) (sym c) (0, omega arith, refl))
  has_begun t b (mem_reduce style acc loops body part comb) f = f (_, Some 0) (0, omega arith, refl)
  has_begun t b (load_sram sram dram spans) f = tt
  has_begun t b (load_line line dram spans) f = tt
  has_begun t b (store dram spans sram) f = tt
  has_begun t b (gather sram dram places n) f = tt
  has_begun t b (scatter dram places n sram) f = tt
  has_begun t b (foreach style loops body) f = tt
  has_begun t b (declare m) f = tt
  has_begun t b (name v e) f = tt
  has_begun t b (set_reg m e) f = tt
  has_begun t b (set_out m e) f = tt
  has_begun t b (set_sram m xs e) f = tt
  has_begun t b (enq m e) f = tt
  has_begun t b (block style body) f = tt
  has_begun t b (fsm start tested test state body last next) f = tt
  has_begun t b (branch test first second) f = tt

  -- past a controller or transfer: its stages go on wherever those after it do
  pub record Past (most : ℕ) (k : PlainStmtKind) (n : ℕ) (scope : Scope) (waiting : List ℕ) (fresh kept : List (ℕ × Option ℕ)) (sofar : Run) (t : core_store.Store) (after : program_store.Store) (did : List program_shape.Shape) : Type 0 where
    pub end : core_store.Store
    pub onward : (later : PlainStages) → Onward p core most outer.around (run_stage sofar.ops (early_stages p.mems sofar.values.elsewhere n k (more_stage 0 0 false (node p.mems (length p.counters) sofar.values.elsewhere n (n + length (beside_of k)) k) later))) later t end (counts_in_all (shapes did))
    pub stands : Standing p core h outer scope waiting fresh kept (no_run sofar.values.elsewhere) end after

  -- a controller or transfer among the statements of a body, after a run
  module _ (roomy : List ℕ) (most : ℕ) (k : PlainStmtKind) (n place : ℕ) (scope : Scope) (waiting : List ℕ) (fresh kept : List (ℕ × Option ℕ)) (sofar : Run) (t : core_store.Store) (s after : program_store.Store) (left rest : ℕ) (did : List program_shape.Shape)
      (g : Standing p core h outer scope waiting ((cells_from n (early_registers k) ++ cells_from (n + length (early_registers k)) (begun_of k)) ++ fresh) kept sofar t s) (followed : IsStageFollowed p roomy core k)
      (typed : StmtTyped p scope k) (before : (v : ℕ × Ty) → Contains scope.vals v → SourceBefore n (sofar.values.elsewhere v.0)) (seen : SourcesSeen scope sofar.values.elsewhere)
      (further : (x : ℕ × Option ℕ) → Contains fresh x → n + length (beside_of k) + length (inside k) ≤ x.0) (clear : (x : ℕ × Option ℕ) → Contains kept x → (j : ℕ) → n ≤ j → j < n + length (beside_of k) + length (inside k) → x.0 ≡ j → ⊥)
      (added : AreDeclared p core n (beside_of k ++ inside k)) (own : (m : ℕ) → Contains (mems_in k) m → IsOwn p scope m) (apart : Apart (mems_in k ++ waiting)) (resets : (m : ℕ) → outer.resets m ≡ false)
      (enough : left ≤ most) (shaped : HoldRightly p scope.mems after) (went : run_kind p.mems roomy k place left s ≡ step.went did rest after) where
    abbrev pub sources : Sources
    sources = sofar.values.elsewhere

    abbrev pub early : List PlainMem
    early = early_registers k

    abbrev pub begun : List (ℕ × Option ℕ)
    begun = cells_from (n + length early) (begun_of k)

    abbrev pub with_begun : View
    with_begun = record (view_at p core h outer scope waiting ((begun ++ fresh) ++ kept)) { sources = sources }

    abbrev pub inner_view : View
    inner_view = record (view_at p core h outer scope waiting (fresh ++ kept)) { sources = sources }

    abbrev all : List (ℕ × Option ℕ)
    all = ((cells_from n early ++ begun) ++ fresh) ++ kept

    begun_all : (x : ℕ × Option ℕ) → Contains ((begun ++ fresh) ++ kept) x → Contains all x
    begun_all x c = in_either (begun ++ fresh) kept x c
        (λ d. in_front ((cells_from n early ++ begun) ++ fresh) kept x (in_either begun fresh x d (λ e. in_front (cells_from n early ++ begun) fresh x (in_back (cells_from n early) begun x e)) (λ e. in_back (cells_from n early ++ begun) fresh x e)))
        (λ d. in_back ((cells_from n early ++ begun) ++ fresh) kept x d)

    -- the end of the run
    run_ended : Agree p core with_begun [] s g.goes.after
    run_ended = record {
      mems = g.goes.agree.mems;
      vals = λ v c. known_found p core with_begun [] g.goes.after (sources v.0) (s.values v.0) (λ x d. g.goes.agree.registers x (begun_all x d)) (known_more outer.around kept ((begun ++ fresh) ++ kept) (sources v.0) (s.values v.0) (λ x d. in_back (begun ++ fresh) kept x d) (g.later v c));
      counts = g.goes.agree.counts;
      waiting = λ m c. let x = g.goes.agree.waiting m c in record { exists = x.exists; on_chip = x.on_chip; unseen = x.unseen; holds = x.holds };
      registers = λ x c. g.goes.agree.registers x (begun_all x c);
    }

    beside_length : length (beside_of k) ≡ length early + length (begun_of k)
    beside_length = length-append early (begun_of k)

    spare_early : AreSpare n (n + length (registers_for (crosses_in k) (words_in k))) with_begun
    spare_early = (
      before,
      λ x c j le lt e. in_either (begun ++ fresh) kept x c
          (λ d. in_either begun fresh x d
          (λ f. let y = cells_number (n + length early) (begun_of k) x f in omega (arith, y.0, e, lt, ap length (same_early k)))
          (λ f. let y = further x f in omega (arith, y, e, lt, ap length (same_early k), beside_length)))
          (λ d. clear x d j le (omega (arith, lt, ap length (same_early k), beside_length)) e),
    )

    early_cells : AreCells p core (crosses_in k) g.goes.after n (words_in k)
    early_cells = cells_stand g.goes.after all g.goes.agree.registers (crosses_in k) n (words_in k)
        (λ x c. in_front ((cells_from n early ++ begun) ++ fresh) kept x (in_front (cells_from n early ++ begun) fresh x (in_front (cells_from n early) begun x (subst (λ l. Contains (cells_from n l) x) (sym (same_early k)) c))))

    pub words_put : EarlyGoes p core most with_begun (crosses_in k) (words_in k) n (early_stages p.mems sources n k) left g.goes.after s
    words_put = early_goes p core h most with_begun left s n g.goes.after run_ended roomy k place rest after did typed spare_early early_cells went

    abbrev pub first_inside : ℕ
    first_inside = n + length (beside_of k)

    abbrev pub its_node : PlainNode
    its_node = node p.mems (length p.counters) sources n first_inside k

    -- the node
    spare_inner : AreSpare n (first_inside + length (inside k)) inner_view
    spare_inner = (before, λ x c j le lt e. in_either fresh kept x c (λ d. let y = further x d in omega (arith, y, e, lt)) (λ d. clear x d j le lt e))

    agree_inner : Agree p core inner_view [] s words_put.after
    agree_inner = fewer_registers p core h outer with_begun (fresh ++ kept) [] s words_put.after
        (λ x c. in_either fresh kept x c (λ d. in_front (begun ++ fresh) kept x (in_back begun fresh x d)) (λ d. in_back (begun ++ fresh) kept x d)) words_put.agree

    pub node_done : NodeGoes p core most inner_view its_node words_put.after after did
    node_done = followed most inner_view n first_inside place s after words_put.after left rest did typed seen g.shaped refl spare_inner added own apart resets enough agree_inner words_put.ready
        (has_begun words_put.after n k (λ x c. words_put.agree.registers x (in_front (begun ++ fresh) kept x (in_front begun fresh x c)))) went

    pub stage_onward : (later : PlainStages) → Onward p core most outer.around (run_stage sofar.ops (early_stages p.mems sources n k (more_stage 0 0 false its_node later))) later t node_done.after (counts_in_all (shapes did))
    stage_onward later =
        let whole : PlainStages = more_stage 0 0 false its_node later in
        then_onward p core most outer.around (run_stage sofar.ops (early_stages p.mems sources n k whole)) (early_stages p.mems sources n k whole) later t g.goes.after node_done.after [] (counts_in_all (shapes did))
        (run_onward p core most outer.around h with_begun s refl sofar.ops (early_stages p.mems sources n k whole) t g.goes.after g.goes.all g.goes.goes)
        (then_onward p core most outer.around (early_stages p.mems sources n k whole) whole later g.goes.after words_put.after node_done.after [] (counts_in_all (shapes did))
        (words_put.goes whole) (node_onward p core most outer.around inner_view refl its_node later words_put.after after did node_done))

    -- what stands after it
    kept_inner : (v : ℕ × Ty) → Contains scope.vals v → Known outer.around (fresh ++ kept) (sources v.0) (s.values v.0)
    kept_inner v c = known_more outer.around kept (fresh ++ kept) (sources v.0) (s.values v.0) (λ x d. in_back fresh kept x d) (g.later v c)

    values_stay : (v : ℕ × Ty) → Contains scope.vals v → after.values v.0 ≡ s.values v.0
    values_stay v c = known_same p core inner_view [] node_done.after (sources v.0) (s.values v.0) (after.values v.0) node_done.agree.registers (kept_inner v c) (node_done.agree.vals v c)

    known_after : (v : ℕ × Ty) → Contains scope.vals v → Known outer.around kept (sources v.0) (after.values v.0)
    known_after v c = subst (Known outer.around kept (sources v.0)) (sym (values_stay v c)) (g.later v c)

    pub stage_stands : Standing p core h outer scope waiting fresh kept (no_run sources) node_done.after after
    stage_stands = record {
      goes = at_rest p core inner_view [] after node_done.after node_done.agree;
      here = λ v c. known_here outer.around kept (sources v.0) (after.values v.0) (known_after v c);
      later = known_after;
      shaped = shaped;
    }

    pub past : Past most k n scope waiting fresh kept sofar t after did
    past = record { end = node_done.after; onward = stage_onward; stands = stage_stands }
