-- A core that is buildable can be lowered.
use Rattle.std.proofs.Common.{◌≡◌, ℕ, zero, suc, ◌+◌, ◌<◌, ◌==◌, nat_lt, Bool, true, false, not, ◌&&◌, List, [], ◌∷◌, ◌++◌, length, Option, Some, None, inl, inr, refl, sym, ap, subst, ◌∙◌, arith, slice_index_or, if◌then◌else◌}
use Rattle.std.proofs.lemmas.Bool.{and_parts, true≢false, cases_lt, lt-ltb, ltb-true}
use Rattle.std.proofs.lemmas.List.Elements.{Contains-append_cases, Contains-get_or}
use Rattle.std.proofs.lemmas.List.{get_or_past}
use Rattle.std.specs.List.{Contains, list_all}
use Rattle.sp_words.specs.declared.kind.Kind.{Kind}
use Rattle.sp_words.specs.declared.kind.Kind.TheVariants.{Reg, Fifo, Sram, LineBuf, ArgIn, ArgOut, Dram}
use Rattle.sp_core.specs.declared.operation.OpKind.{OpKind}
use Rattle.sp_core.specs.declared.operation.OpKind.TheVariants.{Read}
use Rattle.sp_core.specs.Declarations.{mem, kind_of, is_stream}
use Rattle.sp_core.specs.Invariant.{IsCore}
use Rattle.sp_core.specs.Meaning.{is_arg}
use Rattle.sp_core.specs.Numbering.{counters_size, node_count, number_count}
use Rattle.sp_core.specs.PlainCore.{PlainOp, PlainCounter, PlainSpan, single, range, PlainNode, PlainStages, inner, outer, fsm, branch, load, store, sparse, no_stage, more_stage, PlainMem, no_mem, PlainCore}
use Rattle.sp_plan.specs.PlainPlan.{PlainPlan}
use Rattle.sp_overlap.specs.Whole.{IsTimed, AreTimed, IsByLane}
use Rattle.sp_plans.specs.Planned.{IsPlanned}
use Rattle.sp_plans.specs.Laws.{ChosenAreValid}
use Rattle.sp_tree_handed.specs.Lists.{NumberedOps, numbered, standing, bounds_in, spans_in, lists_in, lists_in_stages}
use Rattle.sp_memory_nets.specs.ArrayKinds.{IsEmitted, AreEmitted}
use Rattle.sp_tree_handed.specs.Standing.{BoundsReadArguments}
use Rattle.sp_tree_nets.specs.Whole.{HasTreePlan}
use Rattle.sp_stored_cores.specs.Quiet.{HasNoCounters}
use Rattle.sp_lower.specs.Carries.{CanLower}
use Rattle.sp_tree.specs.PlainProgram.{PlainProgram}
use Rattle.sp_bank.specs.Banking.{Banking, InSpace}
use Rattle.sp_core.specs.Forms.{PlainForms}
use Rattle.sp_plan.specs.Ports.{scheme_at}
use Rattle.sp_plan.specs.Validity.{schemes_of}
use Rattle.sp_schemes.specs.Chosen.{IsChosen, AreChosen}
use Rattle.sp_memory_nets.specs.ArrayLaws.{ValidPlansHaveArrays}
use Rattle.sp_patterns.specs.Patterns.{patterns_of}
use Rattle.sp_compile.specs.Choices.{built_core, IsPlanFor}
use Rattle.sp_build.specs.Buildable.{is_stored, is_stored_mem, is_argument, reads_argument, is_early, has_early_bounds, has_early_ends, is_node_buildable, are_buildable, is_uncounted_by, is_uncounted, is_buildable}
use Rattle.sp_build.specs.Laws.{BuildableCanBeLowered}
use Rattle.sp_build.proofs.Lists.{cons_cases, all_at, only}

not_on : (b : Bool) → not b ≡ true → b ≡ false
not_on false h = refl
not_on true h = absurd (true≢false (sym h))

-- a list that doesn't stand at once
later : (n : ℕ) (ops : List PlainOp) (list : NumberedOps) → numbered n ops ≡ list → list.at_once ≡ true → false ≡ true
later n ops list e h = ap (λ (l : NumberedOps). l.at_once) e ∙ h

module _ (core : PlainCore) where
  -- what is within has its kind
  pub own_kind : (m : ℕ) → m < length core.mems → kind_of core m ≡ (mem core m).kind
  own_kind m l = rw (lt-ltb m (length core.mems) l) refl

  is_arg_kind : (k : Kind) → is_arg k ≡ true → k ≡ ArgIn
  is_arg_kind ArgIn h = refl
  is_arg_kind Reg h = absurd (true≢false (sym h))
  is_arg_kind Fifo h = absurd (true≢false (sym h))
  is_arg_kind Sram h = absurd (true≢false (sym h))
  is_arg_kind LineBuf h = absurd (true≢false (sym h))
  is_arg_kind ArgOut h = absurd (true≢false (sym h))
  is_arg_kind Dram h = absurd (true≢false (sym h))

  arg_there : (m : ℕ) → is_arg (mem core m).kind ≡ true → kind_of core m ≡ ArgIn
  arg_there m h = elim (cases_lt m (length core.mems)) [
    | inl l ↦ own_kind m l ∙ is_arg_kind (mem core m).kind h
    | inr past ↦ absurd (true≢false (sym h ∙ ap (λ (x : PlainMem). is_arg x.kind) (get_or_past core.mems m no_mem past)))
  ]

  early_reads : (op : PlainOp) (m : ℕ) → is_early core op ≡ true → op.kind ≡ Read → op.mem ≡ Some m → kind_of core m ≡ ArgIn
  early_reads op m h k e = arg_there m (subst (λ o. reads_argument core Read o ≡ true) e (subst (λ x. reads_argument core x op.mem ≡ true) k h))

  -- the lists that stand at once read arguments alone
  abbrev AreEarly : List NumberedOps → Type 0
  AreEarly lists = (list : NumberedOps) → Contains lists list → list.at_once ≡ true → list_all (is_early core) list.ops ≡ true

  bounds_early : (counters : List PlainCounter) (n : ℕ) → list_all (has_early_bounds core) counters ≡ true → AreEarly (bounds_in counters n)
  bounds_early [] n h list (k, lt, e) once = absurd (omega (arith, lt))
  bounds_early (c ∷ counters) n h list there once =
      let here = and_parts (has_early_bounds core c) (list_all (has_early_bounds core) counters) h in
      let both = and_parts (list_all (is_early core) c.from) (list_all (is_early core) c.until) here.0 in
      let rest = bounds_in counters (n + (length c.from + length c.until)) in
      elim (cons_cases (standing n c.from) (standing (n + length c.from) c.until ∷ rest) list there) [
        | inl e ↦ subst (λ (l : NumberedOps). list_all (is_early core) l.ops ≡ true) e both.0
        | inr more ↦ elim (cons_cases (standing (n + length c.from) c.until) rest list more) [
          | inl e ↦ subst (λ (l : NumberedOps). list_all (is_early core) l.ops ≡ true) e both.1
          | inr last ↦ bounds_early counters (n + (length c.from + length c.until)) here.1 list last once
        ]
      ]

  spans_early : (spans : List PlainSpan) (n : ℕ) → list_all (has_early_ends core) spans ≡ true → AreEarly (spans_in spans n)
  spans_early [] n h list (k, lt, e) once = absurd (omega (arith, lt))
  spans_early (single ops ∷ spans) n h list there once =
      let both = and_parts (has_early_ends core (single ops)) (list_all (has_early_ends core) spans) h in
      elim (cons_cases (standing n ops) (spans_in spans (n + length ops)) list there) [
        | inl e ↦ subst (λ (l : NumberedOps). list_all (is_early core) l.ops ≡ true) e both.0
        | inr more ↦ spans_early spans (n + length ops) both.1 list more once
      ]
  spans_early (range a b ∷ spans) n h list there once =
      let here = and_parts (has_early_ends core (range a b)) (list_all (has_early_ends core) spans) h in
      let both = and_parts (list_all (is_early core) a) (list_all (is_early core) b) here.0 in
      let rest = spans_in spans (n + (length a + length b)) in
      elim (cons_cases (standing n a) (standing (n + length a) b ∷ rest) list there) [
        | inl e ↦ subst (λ (l : NumberedOps). list_all (is_early core) l.ops ≡ true) e both.0
        | inr more ↦ elim (cons_cases (standing (n + length a) b) rest list more) [
          | inl e ↦ subst (λ (l : NumberedOps). list_all (is_early core) l.ops ≡ true) e both.1
          | inr last ↦ spans_early spans (n + (length a + length b)) here.1 list last once
        ]
      ]

  either_early : (xs ys : List NumberedOps) → AreEarly xs → AreEarly ys → AreEarly (xs ++ ys)
  either_early xs ys f g list there once = elim (Contains-append_cases xs ys list there) [
    | inl a ↦ f list a once
    | inr b ↦ g list b once
  ]

  one_later : (n : ℕ) (ops : List PlainOp) → AreEarly (numbered n ops ∷ [])
  one_later n ops list there once = absurd (true≢false (sym (later n ops list (only (numbered n ops) list there) once)))

  before_early : (n : ℕ) (ops : List PlainOp) (lists : List NumberedOps) → AreEarly lists → AreEarly (numbered n ops ∷ lists)
  before_early n ops lists f list there once = elim (cons_cases (numbered n ops) lists list there) [
    | inl e ↦ absurd (true≢false (sym (later n ops list e once)))
    | inr more ↦ f list more once
  ]

  mutual
    lists_early : (node : PlainNode) (n : ℕ) → is_node_buildable core node ≡ true → AreEarly (lists_in node n)
    lists_early (inner counters owned ops comb) n h = either_early (bounds_in counters n) (numbered (n + counters_size counters) ops ∷ []) (bounds_early counters n h) (one_later (n + counters_size counters) ops)
    lists_early (outer counters style owned stages) n h =
        let parts = and_parts (not (is_stream style) && list_all (has_early_bounds core) counters) (are_buildable core stages) h in
        let bounds = (and_parts (not (is_stream style)) (list_all (has_early_bounds core) counters) parts.0).1 in
        either_early (bounds_in counters n) (lists_in_stages stages (n + counters_size counters)) (bounds_early counters n bounds) (stages_early stages (n + counters_size counters) parts.1)
    lists_early (fsm start state test body next) n h =
        before_early n start (numbered (n + length start) test ∷ (lists_in body (n + (length start + length test)) ++ numbered (n + (length start + (length test + number_count body))) next ∷ []))
        (before_early (n + length start) test (lists_in body (n + (length start + length test)) ++ numbered (n + (length start + (length test + number_count body))) next ∷ [])
        (either_early (lists_in body (n + (length start + length test))) (numbered (n + (length start + (length test + number_count body))) next ∷ []) (lists_early body (n + (length start + length test)) h) (one_later (n + (length start + (length test + number_count body))) next)))
    lists_early (branch test first second) n h =
        let both = and_parts (is_node_buildable core first) (is_node_buildable core second) h in
        before_early n test (lists_in first (n + length test) ++ lists_in second (n + (length test + number_count first)))
        (either_early (lists_in first (n + length test)) (lists_in second (n + (length test + number_count first))) (lists_early first (n + length test) both.0) (lists_early second (n + (length test + number_count first)) both.1))
    lists_early (load r m spans) n h = spans_early spans n h
    lists_early (store r m spans) n h = spans_early spans n h
    lists_early (sparse kind r m places spans count par) n h = absurd (true≢false (sym h))

    stages_early : (stages : PlainStages) (n : ℕ) → are_buildable core stages ≡ true → AreEarly (lists_in_stages stages n)
    stages_early no_stage n h = λ list there once. (let l = there.1 in absurd (omega (arith, l)))
    stages_early (more_stage first last comb node rest) n h =
        let both = and_parts (is_node_buildable core node) (are_buildable core rest) h in
        either_early (lists_in node n) (lists_in_stages rest (n + number_count node)) (lists_early node n both.0) (stages_early rest (n + number_count node) both.1)

  mutual
    timed : (node : PlainNode) → is_node_buildable core node ≡ true → IsTimed node
    timed (inner counters owned ops comb) h = tt
    timed (outer counters style owned stages) h =
        let both = and_parts (not (is_stream style) && list_all (has_early_bounds core) counters) (are_buildable core stages) h in
        (not_on (is_stream style) (and_parts (not (is_stream style)) (list_all (has_early_bounds core) counters) both.0).0, all_timed stages both.1)
    timed (fsm start state test body next) h = timed body h
    timed (branch test first second) h = let both = and_parts (is_node_buildable core first) (is_node_buildable core second) h in (timed first both.0, timed second both.1)
    timed (load r m spans) h = tt
    timed (store r m spans) h = tt
    timed (sparse kind r m places spans count par) h = absurd (true≢false (sym h))

    all_timed : (stages : PlainStages) → are_buildable core stages ≡ true → AreTimed stages
    all_timed no_stage h = tt
    all_timed (more_stage first last comb node rest) h = let both = and_parts (is_node_buildable core node) (are_buildable core rest) h in (timed node both.0, all_timed rest both.1)

  reads_arguments : is_node_buildable core core.root ≡ true → BoundsReadArguments core core.root
  reads_arguments h list there once op m has k e = early_reads op m (all_at (is_early core) list.ops op (lists_early core.root 0 h list there once) has) k e

uncounted : (node : PlainNode) → is_uncounted node ≡ true → HasNoCounters node
uncounted (inner [] owned ops comb) h = tt
uncounted (inner (c ∷ counters) owned ops comb) h = absurd (true≢false (sym h))
uncounted (outer [] style owned stages) h = tt
uncounted (outer (c ∷ counters) style owned stages) h = absurd (true≢false (sym h))
uncounted (fsm start state test body next) h = tt
uncounted (branch test first second) h = tt
uncounted (load r m spans) h = absurd (true≢false (sym h))
uncounted (store r m spans) h = absurd (true≢false (sym h))
uncounted (sparse kind r m places spans count par) h = absurd (true≢false (sym h))

stored_kind : (k : Kind) → is_stored k ≡ true → IsEmitted k
stored_kind Reg h = tt
stored_kind ArgIn h = tt
stored_kind ArgOut h = tt
stored_kind Fifo h = tt
stored_kind Sram h = tt
stored_kind LineBuf h = absurd (true≢false (sym h))
stored_kind Dram h = absurd (true≢false (sym h))

stored : (core : PlainCore) → list_all is_stored_mem core.mems ≡ true → AreEmitted core
stored core h m l = subst IsEmitted (sym (own_kind core m l)) (stored_kind (mem core m).kind (all_at is_stored_mem core.mems (mem core m) h (Contains-get_or core.mems m no_mem l)))

-- the parts of the test
pub record Buildable (core : PlainCore) : Type 0 where
  pub are_stored : list_all is_stored_mem core.mems ≡ true
  pub tree : is_node_buildable core core.root ≡ true
  pub root : is_uncounted core.root ≡ true

pub buildable : (core : PlainCore) → is_buildable core ≡ true → Buildable core
buildable core h =
    let all = and_parts (list_all is_stored_mem core.mems) (is_node_buildable core core.root && is_uncounted core.root) h in
    let tree = and_parts (is_node_buildable core core.root) (is_uncounted core.root) all.1 in
    record { are_stored = all.0; tree = tree.0; root = tree.1 }

-- the schemes of the chosen plan are of those that are searched
in_space : (core : PlainCore) (forms : PlainForms) (plan : PlainPlan) → AreChosen core forms (schemes_of plan) → (m : ℕ) (b : Banking) → scheme_at (schemes_of plan) (Some m) ≡ Some b → InSpace b
in_space core forms plan chosen m b e = (subst (IsChosen core forms m) e (chosen m)).0.space

pub can_lower : (p : PlainProgram) (plan : PlainPlan) → ChosenAreValid → IsCore (built_core p) → IsByLane (built_core p) (built_core p).root → ValidPlansHaveArrays (built_core p) plan → BuildableCanBeLowered p plan
can_lower p plan valid is by arrays planned short h =
    let core = built_core p in
    let b : Buildable core = buildable core h in
    record {
      can = record {
        planned = record {
          forms = patterns_of (built_core p);
          meets = planned.meets;
          valid = valid core (patterns_of (built_core p)) planned.meets plan is planned.is_planned;
          timed = timed core core.root b.tree;
          latencies = short;
        };
        stored = stored core b.are_stored;
        arrays = arrays (patterns_of (built_core p)) planned.meets
            (record { is_core = is; is_timed = timed core core.root b.tree; by_lane = by; valid = valid core (patterns_of (built_core p)) planned.meets plan is planned.is_planned })
            (in_space core (patterns_of (built_core p)) plan planned.is_planned.schemes);
        bounds = reads_arguments core b.tree;
      };
      stored = record {
        right = is;
        timed = timed core core.root b.tree;
        uncounted = uncounted core.root b.root;
        stored = stored core b.are_stored;
        arguments = reads_arguments core b.tree;
      };
    }

pub is_timed : (p : PlainProgram) → is_buildable (built_core p) ≡ true → IsTimed (built_core p).root
is_timed p h = timed (built_core p) (built_core p).root (buildable (built_core p) h).tree
