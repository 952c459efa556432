-- The nodes of the core of a program keep the rules of nodes.
use Rattle.std.proofs.Common.{◌≡◌, ℕ, zero, suc, ◌+◌, ◌*◌, ◌<◌, ◌≤◌, max, Bool, true, false, not, ◌||◌, List, [], ◌∷◌, ◌++◌, None, refl, sym, ◌∙◌, ap, subst, arith, length-append, ◌==◌, if◌then◌else◌}
use Rattle.std.proofs.lemmas.Bool.{and_from, le-leb, or_left, false≢true, true≢false}
use Rattle.std.specs.Prelude.{length, map, Contains}
use Rattle.sp_words.specs.declared.kind.Style.{Style}
use Rattle.sp_words.specs.declared.kind.Style.TheVariants.{Pipe}
use Rattle.sp_words.specs.declared.types.Ty.{Ty}
use Rattle.sp_words.specs.Types.{int_type}
use Rattle.sp_tree.specs.Counts.{lanes_in, kind_lanes}
use Rattle.sp_tree.specs.PlainExpression.{PlainExpr}
use Rattle.sp_tree.specs.PlainProgram.{PlainProgram}
use Rattle.sp_tree.specs.PlainStatement.{PlainCounter, PlainStmtKind, PlainStmts, stmt, load_sram, load_line, store, gather, scatter, foreach, reduce, mem_reduce, no_stmt, more_stmt}
use Rattle.sp_tree.specs.Structure.{own_mems, mems_declared, mems_in, depth, depth_in, is_inner, slice_lanes}
use Rattle.sp_tree.specs.Structure as structure
use Rattle.sp_tree.specs.Typing.{Scope, CountersTyped, BodyTyped, StmtTyped, after_all}
use Rattle.sp_core.specs.Around.{Around, within, lanes_of}
use Rattle.sp_core.specs.NodeRules.{are_counters_right, is_node_right, are_stages}
use Rattle.sp_core.specs.PlainCore as core_tree
use Rattle.sp_core.specs.PlainCore.{PlainCore, PlainNode, PlainStages, more_stage}
use Rattle.sp_core.specs.declared.node.SparseKind.{SparseKind}
use Rattle.sp_sugar.specs.Agreement.{HasMemories}
use Rattle.sp_sugar.specs.Early.{bounds_of, parts_of, is_early, is_early_part, registers_for, early_stages}
use Rattle.sp_sugar.specs.Laws.{CombinesRightly, body_needs}
use Rattle.sp_sugar.specs.Numbers.{mem_number, begun_register, crossing_register, numbers_from}
use Rattle.sp_sugar.specs.Registers.{ending_of, beside, inside, registers, owned_registers}
use Rattle.sp_sugar.specs.Rules.{IsRegister, MayNeed, MayOwn}
use Rattle.sp_sugar.specs.Runs.{Run, no_run}
use Rattle.sp_sugar.specs.Stages.{run_stage, first_of, Combines, nothing, folds, reduces, reduces_elements, inner_node, outer_node, body_node}
use Rattle.sp_sugar.specs.Uses.{uses, is_bare, counters_use, are_using, is_using, names_after, Ending, no_more, in_last_run, in_combination, is_used_later}
use Rattle.sp_sugar.specs.Values.{Sources}
use Rattle.sp_sugar.proofs.EarlyKeeps.{Good, good_run, bounds_good, slice_good, bound_parts, span_parts}
use Rattle.sp_sugar.proofs.Endings.{of_elements, run_some, early_some}
use Rattle.sp_sugar.proofs.Entering.{around_length, Chips, own_within, start_right, Going}
use Rattle.sp_sugar.proofs.InnerKeeps.{inner_right}
use Rattle.sp_sugar.proofs.NodeParts.{dram_ports, lanes_right}
use Rattle.sp_sugar.proofs.NumberLemmas.{either}
use Rattle.sp_sugar.proofs.Placed.{Has, has_left, has_right, among_left, among_right, Placed, placed_left, placed_right, first_register, early_at}
use Rattle.sp_sugar.proofs.RightNodes.{NodesRight, append_none}
use Rattle.sp_sugar.proofs.RunKeeps.{RunRight, CrossesRight, in_front, in_back}
use Rattle.sp_sugar.proofs.UseLemmas.{used, only, later_used}

pub or_none : (b : Bool) → (b || false) ≡ true → b ≡ true
or_none true e = refl
or_none false e = e

pub or_middle : (a b c : Bool) → (b || c) ≡ true → ((a || b) || c) ≡ true
or_middle true b c e = refl
or_middle false b c e = e

numbers_split : (n a b : ℕ) → numbers_from n (a + b) ≡ numbers_from n a ++ numbers_from (n + a) b
numbers_split n zero b = ap (λ k. numbers_from n k) {x = 0 + b} {y = b} (omega arith) ∙ ap (λ k. numbers_from k b) {x = n} {y = n + 0} (omega arith)
numbers_split n (suc a) b =
    ap (λ k. numbers_from n k) {x = suc a + b} {y = suc (a + b)} (omega arith)
    ∙ ap (λ l. n ∷ l) (numbers_split (suc n) a b ∙ ap (λ k. numbers_from (suc n) a ++ numbers_from k b) {x = suc n + a} {y = n + suc a} (omega arith))

pub has_both : (around : Around) (n : ℕ) (xs ys : List core_tree.PlainMem) → Has around (numbers_from n (length (xs ++ ys))) → Has around (numbers_from n (length xs)) × Has around (numbers_from (n + length xs) (length ys))
has_both around n xs ys f =
    let g : Has around (numbers_from n (length xs) ++ numbers_from (n + length xs) (length ys)) = subst (Has around) (ap (numbers_from n) (length-append xs ys) ∙ numbers_split n (length xs) (length ys)) f in
    (has_left around (numbers_from n (length xs)) (numbers_from (n + length xs) (length ys)) g, has_right around (numbers_from n (length xs)) (numbers_from (n + length xs) (length ys)) g)

-- lanes are no fewer inside
pub lanes_least : (body : PlainStmts) (lanes : ℕ) → lanes ≤ lanes_in body lanes
lanes_least no_stmt lanes = omega arith
lanes_least (more_stmt (stmt place k) rest) lanes = let f : lanes ≤ lanes_in rest lanes = lanes_least rest lanes in omega (arith, f)

-- how the body of a Reduce or a Fold ends
pub ending_is : (P : Ending → Type 0) (loops : List PlainCounter) (e : PlainExpr) → P (in_combination e) → P (in_last_run e) → P (ending_of loops e)
ending_is P loops e f g = choose (is_bare e) (structure.lanes_of loops == 1)
  where
    choose : (a b : Bool) → P (if a then in_combination e else if b then in_combination e else in_last_run e)
    choose true b = f
    choose false true = f
    choose false false = g

pub ending_used : (is : ℕ → Bool) (body : PlainStmts) (loops : List PlainCounter) (e : PlainExpr) → used is body (ending_of loops e) ≡ (are_using is body || uses (names_after is body) e)
ending_used is body loops e = ending_is (λ ending. used is body ending ≡ (are_using is body || uses (names_after is body) e)) loops e refl refl

abbrev pub must : PlainStmts → Combines → Bool
must body c = not (is_inner body) || of_elements c

module _ (p : PlainProgram) (core : PlainCore) (h : HasMemories p core) (drams : core.ports.drams ≡ dram_ports p.mems) where
  abbrev pub Result : Around → PlainStmts → Combines → PlainStages → Type 0
  Result around body c xs = Good core around xs × (must body c ≡ true → are_stages xs ≡ true)

  abbrev pub own_numbers : PlainStmts → List ℕ
  own_numbers body = map (mem_number p.mems) (own_mems body)

  -- the registers of a statement, and those after it
  module _ (around : Around) (n place : ℕ) (k : PlainStmtKind) (rest : PlainStmts) (ending : Ending) where
    abbrev pub here : List core_tree.PlainMem
    here = beside k rest ending

    abbrev pub next : ℕ
    next = n + length here + length (inside k)

    module _ (placed : Placed core n (registers (more_stmt (stmt place k) rest) ending)) where
      pub placed_here : Placed core n here
      unfolding registers
      placed_here = placed_left core n here (inside k) (placed_left core n (here ++ inside k) (registers rest ending) placed)

      pub placed_inside : Placed core (n + length here) (inside k)
      unfolding registers
      placed_inside = placed_right core n here (inside k) (placed_left core n (here ++ inside k) (registers rest ending) placed)

      pub placed_after : Placed core next (registers rest ending)
      unfolding registers
      placed_after = subst (λ i. Placed core i (registers rest ending)) {x = n + length (here ++ inside k)} {y = next} (omega (arith, length-append here (inside k))) (placed_right core n (here ++ inside k) (registers rest ending) placed)

    pub has_here : Has around (owned_registers n (more_stmt (stmt place k) rest) ending) → Has around (numbers_from n (length here))
    has_here f = has_left around (numbers_from n (length here)) (owned_registers next rest ending) f

    pub has_after : Has around (owned_registers n (more_stmt (stmt place k) rest) ending) → Has around (owned_registers next rest ending)
    has_after f = has_right around (numbers_from n (length here)) (owned_registers next rest ending) f

  module _ (around : Around) (scope : Scope) (run : Run) (n place : ℕ) (k : PlainStmtKind) (rest : PlainStmts) (ending : Ending) (lanes : ℕ) (g : Going p core h around scope run n (more_stmt (stmt place k) rest) ending lanes) where
    -- after a statement that is no stage
    pub plain_going : inside k ≡ [] → (scope2 : Scope) (run2 : Run) → RunRight p core h around scope2 run2 rest ending → BodyTyped p scope2 rest → Going p core h around scope2 run2 (n + length (beside k rest ending)) rest ending lanes
    plain_going none scope2 run2 r typed =
        let e : n + length (beside k rest ending) + length (inside k) ≡ n + length (beside k rest ending) = ap (λ (l : List core_tree.PlainMem). n + length (beside k rest ending) + length l) none ∙ omega arith in
        let d : length around.counters + 4 * max (depth_in k) (depth rest) ≤ 260 = g.deep in
        let w : max (kind_lanes k lanes) (lanes_in rest lanes) ≤ 16 = g.wide in
        record {
          run_right = r;
          typed = typed;
          placed = subst (λ i. Placed core i (registers rest ending)) e (placed_after around n place k rest ending g.placed);
          has = subst (λ i. Has around (owned_registers i rest ending)) e (has_after around n place k rest ending g.has);
          chips = λ m c. g.chips m (in_back (mems_in k) (mems_declared rest) m c);
          deep = omega (arith, d);
          wide = omega (arith, w);
          some = g.some;
        }

    -- and after one that is
    pub stage_going : ((v : ℕ) → used (only v) rest ending ≡ true → is_used_later (only v) (more_stmt (stmt place k) rest) ending ≡ true) → own_mems (more_stmt (stmt place k) rest) ≡ own_mems rest → BodyTyped p scope rest
        → Going p core h around scope (no_run run.values.elsewhere) (next around n place k rest ending) rest ending lanes
    stage_going lat own typed =
        let d : length around.counters + 4 * max (depth_in k) (depth rest) ≤ 260 = g.deep in
        let w : max (kind_lanes k lanes) (lanes_in rest lanes) ≤ 16 = g.wide in
        record {
          run_right = record {
            right = refl;
            mems = g.run_right.mems;
            counters = g.run_right.counters;
            here = λ v c u. g.run_right.later v c (lat v.0 u);
            later = λ v c u. g.run_right.later v c (lat v.0 (later_used rest ending (only v.0) u));
            waiting = λ m c. g.run_right.waiting m (subst (λ l. Contains l m) (sym own) c);
          };
          typed = typed;
          placed = placed_after around n place k rest ending g.placed;
          has = has_after around n place k rest ending g.has;
          chips = λ m c. g.chips m (in_back (mems_in k) (mems_declared rest) m c);
          deep = omega (arith, d);
          wide = omega (arith, w);
          some = g.some;
        }

    pub stage_need : ((v : ℕ) → is_using (only v) k ≡ true → is_used_later (only v) (more_stmt (stmt place k) rest) ending ≡ true) → MayNeed core around p scope run.values.elsewhere (λ v. is_using (only v) k)
    stage_need lat = record { mems = g.run_right.mems; vals = λ v c u. g.run_right.later v c (lat v.0 u); counters = g.run_right.counters }

    pub kind_chips : Chips p core h (mems_in k)
    kind_chips m c = g.chips m (in_front (mems_in k) (mems_declared rest) m c)

    pub kind_deep : length around.counters + 4 * depth_in k ≤ 260
    kind_deep = let d : length around.counters + 4 * max (depth_in k) (depth rest) ≤ 260 = g.deep in omega (arith, d)

    pub kind_wide : kind_lanes k lanes ≤ 16
    kind_wide = let w : max (kind_lanes k lanes) (lanes_in rest lanes) ≤ 16 = g.wide in omega (arith, w)

    pub few : length around.counters ≤ 1000
    few = let d : length around.counters + 4 * max (depth_in k) (depth rest) ≤ 260 = g.deep in omega (arith, d)

  -- the early stages of a statement
  module _ (around : Around) (scope : Scope) (sources : Sources) (n : ℕ) (few : length around.counters ≤ 1000) (rest : PlainStages) (good : Good core around rest) where
    loops_good : (needed : ℕ → Bool) (loops : List PlainCounter) → MayNeed core around p scope sources needed → CountersTyped p scope loops → ((v : ℕ) → counters_use (only v) loops ≡ true → needed v ≡ true)
        → ((j : ℕ) → n ≤ j → j < n + length (registers_for is_early (bounds_of loops)) → IsRegister core around j int_type) → Good core around (early_stages p.mems sources n (foreach Pipe loops no_stmt) rest)
    loops_good needed loops need typed f regs = bounds_good p core h around scope sources needed need few (bounds_of loops) n rest regs (bound_parts p core h around scope sources needed need loops typed.bounds f) good

    early_good : (k : PlainStmtKind) → MayNeed core around p scope sources (λ v. is_using (only v) k) → StmtTyped p scope k → Placed core n (beside k no_stmt no_more) → Has around (numbers_from n (length (beside k no_stmt no_more)))
        → Good core around (early_stages p.mems sources n k rest)
    early_good (load_sram sram dram spans) need typed placed has = slice_good p core h around scope sources (λ v. is_using (only v) (load_sram sram dram spans)) need few n spans rest (early_at core around (is_early_part spans) n (parts_of spans) placed has) (span_parts p core h around scope sources (λ v. is_using (only v) (load_sram sram dram spans)) need spans typed.1.spans_typed (λ v u. u)) good
    early_good (load_line line dram spans) need typed placed has = slice_good p core h around scope sources (λ v. is_using (only v) (load_line line dram spans)) need few n spans rest (early_at core around (is_early_part spans) n (parts_of spans) placed has) (span_parts p core h around scope sources (λ v. is_using (only v) (load_line line dram spans)) need spans typed.1.spans_typed (λ v u. u)) good
    early_good (store dram spans sram) need typed placed has = slice_good p core h around scope sources (λ v. is_using (only v) (store dram spans sram)) need few n spans rest (early_at core around (is_early_part spans) n (parts_of spans) placed has) (span_parts p core h around scope sources (λ v. is_using (only v) (store dram spans sram)) need spans typed.1.spans_typed (λ v u. u)) good
    early_good (gather sram dram places e) need typed placed has = bounds_good p core h around scope sources (λ v. is_using (only v) (gather sram dram places e)) need few (e ∷ []) n rest (early_at core around is_early n (e ∷ []) placed has) ((typed.1.how_many, λ v u. u), tt) good
    early_good (scatter dram places e sram) need typed placed has = bounds_good p core h around scope sources (λ v. is_using (only v) (scatter dram places e sram)) need few (e ∷ []) n rest (early_at core around is_early n (e ∷ []) placed has) ((typed.1.how_many, λ v u. u), tt) good
    early_good (foreach style loops body) need typed placed has = loops_good (λ v. is_using (only v) (foreach style loops body)) loops need typed.1 (λ v u. or_left (counters_use (only v) loops) (are_using (only v) body) u) (early_at core around is_early n (bounds_of loops) placed has)
    early_good (reduce style fold acc loops body e comb) need typed placed has = loops_good (λ v. is_using (only v) (reduce style fold acc loops body e comb)) loops need typed.1 (λ v u. or_left (counters_use (only v) loops || are_using (only v) body) (uses (names_after (only v) body) e) (or_left (counters_use (only v) loops) (are_using (only v) body) u))
        (early_at core around is_early n (bounds_of loops) (placed_left core n (registers_for is_early (bounds_of loops)) (if fold then [] else begun_register ∷ []) placed) (has_both around n (registers_for is_early (bounds_of loops)) (if fold then [] else begun_register ∷ []) has).0)
    early_good (mem_reduce style acc loops body part comb) need typed placed has = loops_good (λ v. is_using (only v) (mem_reduce style acc loops body part comb)) loops need typed.1 (λ v u. or_left (counters_use (only v) loops) (are_using (only v) body) u)
        (early_at core around is_early n (bounds_of loops) (placed_left core n (registers_for is_early (bounds_of loops)) (begun_register ∷ []) placed) (has_both around n (registers_for is_early (bounds_of loops)) (begun_register ∷ []) has).0)
    early_good _ need typed placed has = good

  -- a statement's stage, with those before and after it
  module _ (around : Around) (scope : Scope) (run : Run) (n place : ℕ) (k : PlainStmtKind) (rest : PlainStmts) (ending : Ending) (lanes : ℕ) (g : Going p core h around scope run n (more_stmt (stmt place k) rest) ending lanes) where
    abbrev Stage : PlainNode → PlainStages → PlainStages
    Stage x xs = run_stage run.ops (early_stages p.mems run.values.elsewhere n k (more_stage 0 0 false x xs))

    pub stage_result : (x : PlainNode) (xs : PlainStages) → MayNeed core around p scope run.values.elsewhere (λ v. is_using (only v) k) → StmtTyped p scope k → Placed core n (beside k no_stmt no_more) → Has around (numbers_from n (length (beside k no_stmt no_more)))
        → NodesRight core around x → Good core around xs → Good core around (Stage x xs) × (are_stages (Stage x xs) ≡ true)
    stage_result x xs need typed placed has right good =
        let f : length around.counters ≤ 1000 = few around scope run n place k rest ending lanes g in (
          good_run core around f run.ops (early_stages p.mems run.values.elsewhere n k (more_stage 0 0 false x xs)) g.run_right.right
              (early_good around scope run.values.elsewhere n f (more_stage 0 0 false x xs) ((right, good.0), (refl, refl, good.1)) k need typed placed has),
          run_some run.ops (early_stages p.mems run.values.elsewhere n k (more_stage 0 0 false x xs)) (early_some p run.values.elsewhere k n (more_stage 0 0 false x xs) refl),
        )

  -- a value that crosses has a register
  pub crosses : (around : Around) (n : ℕ) (bare cross : Bool) (ty : Ty) → Placed core n (if bare then [] else if cross then crossing_register ty ∷ [] else []) → Has around (numbers_from n (length (if bare then [] else if cross then crossing_register ty ∷ [] else [])))
      → bare ≡ false → CrossesRight p core h around (first_of n (if bare then [] else if cross then crossing_register ty ∷ [] else [])) cross ty
  crosses around n true cross ty placed has e = absurd (true≢false e)
  crosses around n false true ty placed has e = first_register core around n (crossing_register ty) ty placed has refl refl
  crosses around n false false ty placed has e = λ u. false≢true u

  -- a body, in a loop or alone
  inner_nodes : (around : Around) (sources : Sources) (written : List core_tree.PlainCounter) (body : PlainStmts) (c : Combines) → is_node_right core around (inner_node p.mems (length p.counters) sources written body c) ≡ true → NodesRight core around (inner_node p.mems (length p.counters) sources written body c)
  inner_nodes around sources written body nothing e = e
  inner_nodes around sources written body (folds acc comb x) e = e
  inner_nodes around sources written body (reduces acc begun comb x) e = e
  inner_nodes around sources written body (reduces_elements part acc begun comb) e = e

  module _ (around : Around) (scope : Scope) (sources : Sources) (n : ℕ) (written : List core_tree.PlainCounter) (body : PlainStmts) (ending : Ending) (need : (owned : List ℕ) → MayNeed core (within around written owned) p scope sources (λ v. used (only v) body ending))
      (typed : BodyTyped p scope body) (chips : Chips p core h (mems_declared body)) where
    abbrev pub inside_of : Around
    inside_of = within around written (own_numbers body ++ owned_registers n body ending)

    pub enter : (lanes : ℕ) → Placed core n (registers body ending) → length written + length around.counters + 4 * depth body ≤ 260 → lanes_in body lanes ≤ 16 → 1 ≤ lanes → Going p core h inside_of scope (no_run sources) n body ending lanes
    enter lanes placed deep wide some = record {
      run_right = start_right p core h inside_of scope sources body ending (need (own_numbers body ++ owned_registers n body ending)) (own_within p core h around written (owned_registers n body ending) body chips);
      typed = typed;
      placed = placed;
      has = λ k e. among_left k (own_numbers body ++ owned_registers n body ending) around.owned (among_right k (own_numbers body) (owned_registers n body ending) e);
      chips = chips;
      deep = omega (arith, around_length around written (own_numbers body ++ owned_registers n body ending), deep);
      wide = wide;
      some = some;
    }

    module _ (style : Style) (c : Combines) (all : PlainStages) (counters : are_counters_right core around written ≡ true) (some : 1 ≤ lanes_of written) where
      pub outer_right : Good core inside_of all → are_stages all ≡ true → NodesRight core around (outer_node p.mems (length p.counters) n written style body ending all)
      outer_right good are = (and_from _ _ counters (lanes_right (lanes_of written) all good.1 are some), good.0)

      pub body_right : ((v : ℕ) → body_needs body c v ≡ true → used (only v) body ending ≡ true) → ((owned : List ℕ) → CombinesRightly p core (within around written owned) (after_all scope body) c)
          → (is_inner body ≡ false → Good core inside_of all × (are_stages all ≡ true)) → NodesRight core around (body_node p.mems (length p.counters) sources n written style body ending c all)
      body_right same comb f = either (is_inner body)
          (λ i. subst (λ b. NodesRight core around (if b then inner_node p.mems (length p.counters) sources written body c else outer_node p.mems (length p.counters) n written style body ending all)) (sym i)
          (inner_nodes around sources written body c (inner_right p core h around scope sources written body i typed (length p.counters) counters c
          (record { mems = (need (own_numbers body)).mems; vals = λ v x u. (need (own_numbers body)).vals v x (same v.0 u); counters = (need (own_numbers body)).counters })
          (λ m x. subst (λ l. MayOwn core (within around written l) p m) (append_none (own_numbers body)) (own_within p core h around written [] body chips m x)) (comb (own_numbers body)))))
          (λ i. subst (λ b. NodesRight core around (if b then inner_node p.mems (length p.counters) sources written body c else outer_node p.mems (length p.counters) n written style body ending all)) (sym i)
          (let x = f i in outer_right x.0 x.1))

  pub placed_outer : (n : ℕ) (body : PlainStmts) (l : List core_tree.PlainMem) → is_inner body ≡ false → Placed core n (if is_inner body then [] else l) → Placed core n l
  placed_outer n body l i placed = subst (λ b. Placed core n (if b then [] else l)) i placed

  pub no_loops : (around : Around) → length around.counters ≤ 1000 → are_counters_right core around [] ≡ true
  no_loops around few = and_from _ _ (and_from _ _ refl (le-leb (0 + length around.counters) 1000 (omega (arith, few)))) refl

  -- a transfer is one node
  pub load_nodes : (around : Around) (w : Bool) (r m lanes : ℕ) (spans : List core_tree.PlainSpan) (kind : SparseKind) → is_node_right core around (if w then core_tree.load r m spans else core_tree.sparse kind r m None spans [] lanes) ≡ true → NodesRight core around (if w then core_tree.load r m spans else core_tree.sparse kind r m None spans [] lanes)
  load_nodes around true r m lanes spans kind e = e
  load_nodes around false r m lanes spans kind e = e

  pub store_nodes : (around : Around) (w : Bool) (r m lanes : ℕ) (spans : List core_tree.PlainSpan) (kind : SparseKind) → is_node_right core around (if w then core_tree.store r m spans else core_tree.sparse kind r m None spans [] lanes) ≡ true → NodesRight core around (if w then core_tree.store r m spans else core_tree.sparse kind r m None spans [] lanes)
  store_nodes around true r m lanes spans kind e = e
  store_nodes around false r m lanes spans kind e = e
