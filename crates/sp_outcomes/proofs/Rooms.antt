-- The FIFOs that get more room than their depth are the same in a program and its core: those of proper stream blocks with
-- stages.
use Rattle.std.proofs.Common.{◌≡◌, ℕ, zero, suc, ◌+◌, ◌<◌, ◌≤◌, Bool, true, false, not, ◌==◌, ◌||◌, List, [], ◌∷◌, ◌++◌, refl, sym, ◌∙◌, ap, subst, arith, if◌then◌else◌}
use Rattle.std.proofs.lemmas.Bool.{false≢true, or_left, or_right, eqb-true, eq-eqb}
use Rattle.std.specs.Prelude.{length, map, filter, Contains}
use Rattle.sp_words.specs.declared.kind.Kind.TheVariants.{Fifo}
use Rattle.sp_words.specs.declared.kind.Style.{Style}
use Rattle.sp_words.specs.declared.kind.Style.TheVariants.{Pipe, Sequential, Parallel, Stream}
use Rattle.sp_tree.specs.Expressions as expressions
use Rattle.sp_tree.specs.Meaning.{is_dram}
use Rattle.sp_tree.specs.PlainProgram.{PlainMem, PlainProgram}
use Rattle.sp_tree.specs.PlainStatement.{PlainStmtKind, PlainStmts, stmt, declare, name, set_reg, set_out, set_sram, enq, load_sram, load_line, store, gather, scatter, block, foreach, reduce, mem_reduce, fsm, branch, no_stmt, more_stmt}
use Rattle.sp_tree.specs.Streams.{is_fifo, own_fifos, is_proper, fifos_with_room}
use Rattle.sp_tree.specs.Structure.{own_mems, mems_declared, mems_in, slice_lanes, is_inner}
use Rattle.sp_tree.specs.Tallies as tree
use Rattle.sp_tree.specs.Typing.{Scope, StmtTyped, BodyTyped, with_counters, with_val}
use Rattle.sp_tree.specs.PlainExpression.{type_of}
use Rattle.sp_core.specs.Declarations.{is_stream, streamed, streamed_in, is_among}
use Rattle.sp_core.specs.declared.node.SparseKind.TheVariants.{WideLoad, WideStore}
use Rattle.sp_core.specs.PlainCore as core
use Rattle.sp_core.specs.PlainCore.{PlainCounter, PlainNode, PlainStages, more_stage}
use Rattle.sp_sugar.specs.Early.{is_early, bounds_of, registers_for, counters_of, spans_of, early_stages}
use Rattle.sp_sugar.specs.Numbers.{is_off_dram, written_mems, mem_number, dram_number}
use Rattle.sp_sugar.specs.Registers.{ending_of, beside, inside, registers_in, owned_registers}
use Rattle.sp_sugar.specs.Runs.{Run, no_run}
use Rattle.sp_sugar.specs.Stages.{Combines, nothing, reduces_elements, combines, style_of, body_node, inner_node, outer_node, stages, node}
use Rattle.sp_sugar.specs.Uses.{Ending, no_more}
use Rattle.sp_sugar.specs.Values.{Sources, with_state}
use Rattle.sp_sugar.proofs.Entering.{own_declared}
use Rattle.sp_sugar.proofs.NumberLemmas.{either, number_below, numbers_apart}
use Rattle.sp_sugar.proofs.RunKeeps.{in_map, in_front, in_back}
use Rattle.sp_same.proofs.Renewed.{in_either}
use Rattle.sp_bodies.proofs.Owned.{body_number}
use Rattle.sp_outcomes.proofs.PutsRight.{fifo_exists}
use Rattle.sp_outcomes.proofs.Recursion.{loop_quiet}
use Rattle.sp_outcomes.proofs.StreamBlocks.{owned_cells}
use Rattle.sp_outcomes.proofs.Streamed.{slice_streamed, run_streamed, early_streamed, last_streamed, inner_streamed}

-- members of lists, by the tests of a core and of a program
pub core_among : (x : ℕ) (xs : List ℕ) → Contains xs x → is_among x xs ≡ true
core_among x [] c = absurd (omega (arith, c.1))
core_among x (y ∷ xs) (zero, lt, e) = or_left (x == y) (is_among x xs) (eq-eqb x y (sym e))
core_among x (y ∷ xs) (suc j, lt, e) = or_right (x == y) (is_among x xs) (core_among x xs (j, omega (arith, lt), e))

pub core_there : (x : ℕ) (xs : List ℕ) → is_among x xs ≡ true → Contains xs x
core_there x [] e = absurd (false≢true e)
core_there x (y ∷ xs) e = either (x == y)
    (λ f. (0, omega arith, sym (eqb-true x y f)))
    (λ f. let c = core_there x xs (ap (λ b. b || is_among x xs) (sym f) ∙ e) in (suc c.0, omega (arith, c.1), c.2))

pub tree_among : (x : ℕ) (xs : List ℕ) → Contains xs x → tree.is_among x xs ≡ true
tree_among x [] c = absurd (omega (arith, c.1))
tree_among x (y ∷ xs) (zero, lt, e) = or_left (y == x) (tree.is_among x xs) (eq-eqb y x e)
tree_among x (y ∷ xs) (suc j, lt, e) = or_right (y == x) (tree.is_among x xs) (tree_among x xs (j, omega (arith, lt), e))

pub tree_there : (x : ℕ) (xs : List ℕ) → tree.is_among x xs ≡ true → Contains xs x
tree_there x [] e = absurd (false≢true e)
tree_there x (y ∷ xs) e = either (y == x)
    (λ f. (0, omega arith, eqb-true y x f))
    (λ f. let c = tree_there x xs (ap (λ b. b || tree.is_among x xs) (sym f) ∙ e) in (suc c.0, omega (arith, c.1), c.2))

pub same_tests : (b c : Bool) → (b ≡ true → c ≡ true) → (c ≡ true → b ≡ true) → b ≡ c
same_tests true true f g = refl
same_tests true false f g = sym (f refl)
same_tests false true f g = g refl
same_tests false false f g = refl

-- members of lists that are made of others
from_map : {A B : Type 0} (f : A → B) (xs : List A) (y : B) → Contains (map f xs) y → (x : A) × Contains xs x × (f x ≡ y)
from_map f [] y c = absurd (omega (arith, c.1))
from_map f (x ∷ xs) y (zero, lt, e) = (x, (0, omega arith, refl), e)
from_map f (x ∷ xs) y (suc j, lt, e) = let g = from_map f xs y (j, omega (arith, lt), e) in (g.0, (suc g.1.0, omega (arith, g.1.1), g.1.2), g.2)

pub into_filter : {A : Type 0} (test : A → Bool) (xs : List A) (x : A) → Contains xs x → test x ≡ true → Contains (filter test xs) x
into_filter test [] x c t = absurd (omega (arith, c.1))
into_filter test (y ∷ xs) x c t = go (test y) refl c (λ d. into_filter test xs x d t)
  where
    go : (b : Bool) → test y ≡ b → Contains (y ∷ xs) x → (Contains xs x → Contains (filter test xs) x) → Contains (if b then y ∷ filter test xs else filter test xs) x
    go true is (zero, lt, e) more = (0, omega arith, e)
    go true is (suc j, lt, e) more = let c = more (j, omega (arith, lt), e) in (suc c.0, omega (arith, c.1), c.2)
    go false is (zero, lt, e) more = absurd (false≢true (sym is ∙ ap test e ∙ t))
    go false is (suc j, lt, e) more = more (j, omega (arith, lt), e)

pub out_of_filter : {A : Type 0} (test : A → Bool) (xs : List A) (x : A) → Contains (filter test xs) x → Contains xs x
out_of_filter test [] x c = c
out_of_filter test (y ∷ xs) x c = go (test y) c (λ d. out_of_filter test xs x d)
  where
    go : (b : Bool) → Contains (if b then y ∷ filter test xs else filter test xs) x → (Contains (filter test xs) x → Contains xs x) → Contains (y ∷ xs) x
    go true (zero, lt, e) more = (0, omega arith, e)
    go true (suc j, lt, e) more = let c = more (j, omega (arith, lt), e) in (suc c.0, omega (arith, c.1), c.2)
    go false d more = let c = more d in (suc c.0, omega (arith, c.1), c.2)

-- the FIFOs of proper blocks with stages
module _ (mems : List PlainMem) where
  abbrev mutual
    pub stream_fifos : PlainStmts → List ℕ
    stream_fifos no_stmt = []
    stream_fifos (more_stmt (stmt place kind) rest) = kind_fifos kind ++ stream_fifos rest

    pub kind_fifos : PlainStmtKind → List ℕ
    kind_fifos (block style body) = (if is_inner body then [] else fifos_with_room mems style body) ++ stream_fifos body
    kind_fifos (foreach style loops body) = stream_fifos body
    kind_fifos (reduce style fold acc loops body e comb) = stream_fifos body
    kind_fifos (mem_reduce style acc loops body part comb) = stream_fifos body
    kind_fifos (fsm start tested test state body last next) = stream_fifos body
    kind_fifos (branch test first second) = stream_fifos first ++ stream_fifos second
    kind_fifos _ = []

  inner_fifos : (body : PlainStmts) → is_inner body ≡ true → stream_fifos body ≡ []
  inner_fifos no_stmt e = refl
  inner_fifos (more_stmt (stmt place (declare m)) rest) e = inner_fifos rest e
  inner_fifos (more_stmt (stmt place (name v x)) rest) e = inner_fifos rest e
  inner_fifos (more_stmt (stmt place (set_reg m x)) rest) e = inner_fifos rest e
  inner_fifos (more_stmt (stmt place (set_out m x)) rest) e = inner_fifos rest e
  inner_fifos (more_stmt (stmt place (set_sram m xs x)) rest) e = inner_fifos rest e
  inner_fifos (more_stmt (stmt place (enq m x)) rest) e = inner_fifos rest e
  inner_fifos (more_stmt (stmt place k) rest) e = absurd (false≢true e)

module _ (p : PlainProgram) where
  abbrev mems : List PlainMem
  mems = p.mems

  abbrev number : ℕ
  number = length p.counters

  -- a FIFO is in the one list where its number is in the other
  abbrev pub AreAlike : (of_core of_program : List ℕ) → Type 0
  AreAlike xs ys = (m : ℕ) → (expressions.mem mems m).kind ≡ Fifo → (Contains xs (mem_number mems m) → Contains ys m) × (Contains ys m → Contains xs (mem_number mems m))

  none_alike : AreAlike [] []
  none_alike m is = (λ c. absurd (omega (arith, c.1)), λ c. absurd (omega (arith, c.1)))

  both_alike : (xs ys us vs : List ℕ) → AreAlike xs ys → AreAlike us vs → AreAlike (xs ++ us) (ys ++ vs)
  both_alike xs ys us vs f g m is = (
    λ c. in_either xs us (mem_number mems m) c (λ d. in_front ys vs m ((f m is).0 d)) (λ d. in_back ys vs m ((g m is).0 d)),
    λ c. in_either ys vs m c (λ d. in_front xs us (mem_number mems m) ((f m is).1 d)) (λ d. in_back xs us (mem_number mems m) ((g m is).1 d)),
  )

  -- memories on the chip
  abbrev pub AreOn : List ℕ → Type 0
  AreOn ms = (m : ℕ) → Contains ms m → (m < length mems) × (is_off_dram (expressions.mem mems m) ≡ true)

  fifo_on : (m : ℕ) → (expressions.mem mems m).kind ≡ Fifo → (m < length mems) × (is_off_dram (expressions.mem mems m) ≡ true)
  fifo_on m is = (fifo_exists mems m is, ap (λ k. not (is_dram k)) is)

  abbrev first : ℕ
  first = length (written_mems mems)

  own_alike : (body : PlainStmts) (n : ℕ) → AreOn (mems_declared body) → first ≤ n → AreAlike (map (mem_number mems) (own_mems body) ++ owned_registers n body no_more) (own_fifos mems body)
  own_alike body n on le m is = (
    λ c. in_either (map (mem_number mems) (own_mems body)) (owned_registers n body no_more) (mem_number mems m) c
        (λ d.
        let g = from_map (mem_number mems) (own_mems body) (mem_number mems m) d in
        let its = on g.0 (own_declared body g.0 g.1) in
        let same : g.0 ≡ m = numbers_apart mems g.0 m its.0 (fifo_on m is).0 its.1 (fifo_on m is).1 g.2 in
        into_filter (λ m. is_fifo (expressions.mem mems m).kind) (own_mems body) m (subst (Contains (own_mems body)) same g.1) (ap is_fifo is))
        (λ d. let cell = owned_cells n body no_more (mem_number mems m) d in let f = body_number n body no_more (mem_number mems m, cell.0) cell.1 in absurd (omega (arith, f, le, number_below mems m (fifo_on m is).0 (fifo_on m is).1))),
    λ c. in_front (map (mem_number mems) (own_mems body)) (owned_registers n body no_more) (mem_number mems m)
        (in_map (mem_number mems) (own_mems body) m (out_of_filter (λ m. is_fifo (expressions.mem mems m).kind) (own_mems body) m c)),
  )

  -- the memories that a block owns
  block_alike : (style : Style) (body : PlainStmts) (n : ℕ) → AreOn (mems_declared body) → first ≤ n → AreAlike (if is_stream (style_of mems number style body) then map (mem_number mems) (own_mems body) ++ owned_registers n body no_more else []) (fifos_with_room mems style body)
  block_alike Pipe body n on le = none_alike
  block_alike Sequential body n on le = none_alike
  block_alike Parallel body n on le = none_alike
  block_alike Stream body n on le = go (is_proper mems body)
    where
      go : (b : Bool) → AreAlike (if is_stream (if b then Stream else Sequential) then map (mem_number mems) (own_mems body) ++ owned_registers n body no_more else []) (if b then own_fifos mems body else [])
      go true = own_alike body n on le
      go false = none_alike

  -- a body, by what it owns itself
  body_alike : (sources : Sources) (n : ℕ) (loops : List PlainCounter) (style : Style) (body : PlainStmts) (ending : Ending) (c : Combines) (all : PlainStages) (ys : List ℕ)
      → AreAlike (if is_stream style then map (mem_number mems) (own_mems body) ++ owned_registers n body ending else []) ys → AreAlike (streamed_in all) (stream_fifos mems body)
      → AreAlike (streamed (body_node mems number sources n loops style body ending c all)) ((if is_inner body then [] else ys) ++ stream_fifos mems body)
  body_alike sources n loops style body ending c all ys f g = go (is_inner body) refl
    where
      go : (b : Bool) → is_inner body ≡ b → AreAlike (streamed (if b then inner_node mems number sources loops body c else outer_node mems number n loops style body ending all)) ((if b then [] else ys) ++ stream_fifos mems body)
      go true i = subst (λ l. AreAlike l (stream_fifos mems body)) (sym (inner_streamed mems number sources loops body c)) (subst (AreAlike []) (sym (inner_fifos mems body i)) none_alike)
      go false i = both_alike (if is_stream style then map (mem_number mems) (own_mems body) ++ owned_registers n body ending else []) ys (streamed_in all) (stream_fifos mems body) f g

  quiet_alike : (style : Style) (own : List ℕ) → is_stream style ≡ false → AreAlike (if is_stream style then own else []) []
  quiet_alike style own e = subst (λ b. AreAlike (if b then own else []) []) (sym e) none_alike

  -- one that owns nothing of a stream block
  loop_alike : (sources : Sources) (n : ℕ) (loops : List PlainCounter) (style : Style) (body : PlainStmts) (ending : Ending) (c : Combines) (all : PlainStages) → is_stream style ≡ false → AreAlike (streamed_in all) (stream_fifos mems body)
      → AreAlike (streamed (body_node mems number sources n loops style body ending c all)) (stream_fifos mems body)
  loop_alike sources n loops style body ending c all quiet g = subst (AreAlike (streamed (body_node mems number sources n loops style body ending c all))) (nothing_more (is_inner body) (stream_fifos mems body))
      (body_alike sources n loops style body ending c all [] (quiet_alike style (map (mem_number mems) (own_mems body) ++ owned_registers n body ending) quiet) g)
    where
      nothing_more : (b : Bool) (xs : List ℕ) → (if b then [] else []) ++ xs ≡ xs
      nothing_more true xs = refl
      nothing_more false xs = refl

  mutual
    unfolding stages node

    pub stages_alike : (body : PlainStmts) (scope : Scope) → BodyTyped p scope body → AreOn (mems_declared body) → (run : Run) (n : ℕ) → first ≤ n → (ending : Ending) (c : Combines) → AreAlike (streamed_in (stages mems number run n body ending c)) (stream_fifos mems body)
    stages_alike no_stmt scope typed on run n le ending c = subst (λ l. AreAlike l []) (sym (last_streamed mems number run n ending c)) none_alike
    stages_alike (more_stmt (stmt place (declare m)) rest) scope typed on run n le ending c = stages_alike rest _ typed.1 (λ k d. on k (in_back (m ∷ []) (mems_declared rest) k d)) _ _ (omega (arith, le)) ending c
    stages_alike (more_stmt (stmt place (name v e)) rest) scope typed on run n le ending c = stages_alike rest _ typed.1 on _ _ (omega (arith, le)) ending c
    stages_alike (more_stmt (stmt place (set_reg m e)) rest) scope typed on run n le ending c = stages_alike rest _ typed.1 on _ _ (omega (arith, le)) ending c
    stages_alike (more_stmt (stmt place (set_out m e)) rest) scope typed on run n le ending c = stages_alike rest _ typed.1 on _ _ (omega (arith, le)) ending c
    stages_alike (more_stmt (stmt place (set_sram m xs e)) rest) scope typed on run n le ending c = stages_alike rest _ typed.1 on _ _ (omega (arith, le)) ending c
    stages_alike (more_stmt (stmt place (enq m e)) rest) scope typed on run n le ending c = stages_alike rest _ typed.1 on _ _ (omega (arith, le)) ending c
    stages_alike (more_stmt (stmt place k) rest) scope typed on run n le ending c =
        let sources : Sources = run.values.elsewhere in
        let next : ℕ = n + length (beside k rest ending) in
        let later : PlainStages = stages mems number (no_run sources) (next + length (inside k)) rest ending c in
        let its_node : PlainNode = node mems number sources n next k in
        let whole : PlainStages = more_stage 0 0 false its_node later in
        subst (λ l. AreAlike l (kind_fifos mems k ++ stream_fifos mems rest)) (sym (run_streamed run.ops (early_stages mems sources n k whole) ∙ early_streamed mems number sources n k whole))
        (both_alike (streamed its_node) (kind_fifos mems k) (streamed_in later) (stream_fifos mems rest) (node_alike k scope typed.0 (λ m d. on m (in_front (mems_in k) (mems_declared rest) m d)) sources n next (omega (arith, le)))
        (stages_alike rest _ typed.1 (λ m d. on m (in_back (mems_in k) (mems_declared rest) m d)) (no_run sources) (next + length (inside k)) (omega (arith, le)) ending c))

    node_alike : (k : PlainStmtKind) (scope : Scope) → StmtTyped p scope k → AreOn (mems_in k) → (sources : Sources) (b n : ℕ) → first ≤ n → AreAlike (streamed (node mems number sources b n k)) (kind_fifos mems k)
    node_alike (load_sram sram dram spans) scope typed on sources b n le = subst (λ l. AreAlike l []) (sym (slice_streamed (slice_lanes spans == 1) (dram_number mems dram) (mem_number mems sram) (spans_of mems sources b spans) WideLoad (slice_lanes spans) (core.load (dram_number mems dram) (mem_number mems sram) (spans_of mems sources b spans)) refl)) none_alike
    node_alike (load_line line dram spans) scope typed on sources b n le = subst (λ l. AreAlike l []) (sym (slice_streamed (slice_lanes spans == 1) (dram_number mems dram) (mem_number mems line) (spans_of mems sources b spans) WideLoad (slice_lanes spans) (core.load (dram_number mems dram) (mem_number mems line) (spans_of mems sources b spans)) refl)) none_alike
    node_alike (store dram spans sram) scope typed on sources b n le = subst (λ l. AreAlike l []) (sym (slice_streamed (slice_lanes spans == 1) (dram_number mems dram) (mem_number mems sram) (spans_of mems sources b spans) WideStore (slice_lanes spans) (core.store (dram_number mems dram) (mem_number mems sram) (spans_of mems sources b spans)) refl)) none_alike
    node_alike (gather sram dram places e) scope typed on sources b n le = none_alike
    node_alike (scatter dram places e sram) scope typed on sources b n le = none_alike
    node_alike (block style body) scope typed on sources b n le =
        body_alike sources n [] (style_of mems number style body) body no_more nothing (stages mems number (no_run sources) n body no_more nothing) (fifos_with_room mems style body) (block_alike style body n on le) (stages_alike body scope typed on (no_run sources) n le no_more nothing)
    node_alike (foreach style loops body) scope typed on sources b n le =
        loop_alike sources n (counters_of mems sources b loops) style body no_more nothing (stages mems number (no_run sources) n body no_more nothing) (loop_quiet style typed.0) (stages_alike body (with_counters scope loops) typed.2 on (no_run sources) n le no_more nothing)
    node_alike (reduce style fold acc loops body e comb) scope typed on sources b n le =
        let c : Combines = combines mems fold acc (b + length (registers_for is_early (bounds_of loops))) comb e in
        loop_alike sources n (counters_of mems sources b loops) style body (ending_of loops e) c (stages mems number (no_run sources) n body (ending_of loops e) c) (loop_quiet style typed.0) (stages_alike body (with_counters scope loops) typed.2 on (no_run sources) n le (ending_of loops e) c)
    node_alike (mem_reduce style acc loops body part comb) scope typed on sources b n le =
        let c : Combines = reduces_elements part (mem_number mems acc) (b + length (registers_for is_early (bounds_of loops))) comb in
        both_alike (if is_stream style then map (mem_number mems) (own_mems body) ++ owned_registers n body no_more else []) [] (streamed_in (stages mems number (no_run sources) n body no_more c)) (stream_fifos mems body)
        (quiet_alike style (map (mem_number mems) (own_mems body) ++ owned_registers n body no_more) (loop_quiet style typed.0)) (stages_alike body (with_counters scope loops) typed.2 on (no_run sources) n le no_more c)
    node_alike (fsm start tested test state body last next) scope typed on sources b n le =
        let kept : Sources = with_state sources tested state last n in
        loop_alike kept (suc n) [] Pipe body no_more nothing (stages mems number (no_run kept) (suc n) body no_more nothing) refl (stages_alike body (with_val scope state (type_of start)) typed.4 on (no_run kept) (suc n) (omega (arith, le)) no_more nothing)
    node_alike (branch test one two) scope typed on sources b n le =
        let m : ℕ = n + length (registers_in one no_more) in
        let all_one : PlainStages = stages mems number (no_run sources) n one no_more nothing in
        let all_two : PlainStages = stages mems number (no_run sources) m two no_more nothing in
        both_alike (streamed (body_node mems number sources n [] Pipe one no_more nothing all_one)) (stream_fifos mems one) (streamed (body_node mems number sources m [] Pipe two no_more nothing all_two)) (stream_fifos mems two)
        (loop_alike sources n [] Pipe one no_more nothing all_one refl (stages_alike one scope typed.1 (λ k d. on k (in_front (mems_declared one) (mems_declared two) k d)) (no_run sources) n le no_more nothing))
        (loop_alike sources m [] Pipe two no_more nothing all_two refl (stages_alike two scope typed.2 (λ k d. on k (in_back (mems_declared one) (mems_declared two) k d)) (no_run sources) m (omega (arith, le)) no_more nothing))
    node_alike (declare m) scope typed on sources b n le = none_alike
    node_alike (name v e) scope typed on sources b n le = none_alike
    node_alike (set_reg m e) scope typed on sources b n le = none_alike
    node_alike (set_out m e) scope typed on sources b n le = none_alike
    node_alike (set_sram m xs e) scope typed on sources b n le = none_alike
    node_alike (enq m e) scope typed on sources b n le = none_alike

  pub body_alone_alike : (sources : Sources) (n : ℕ) (body : PlainStmts) (scope : Scope) → BodyTyped p scope body → AreOn (mems_declared body) → first ≤ n
      → AreAlike (streamed (body_node mems number sources n [] Pipe body no_more nothing (stages mems number (no_run sources) n body no_more nothing))) (stream_fifos mems body)
  body_alone_alike sources n body scope typed on le = loop_alike sources n [] Pipe body no_more nothing (stages mems number (no_run sources) n body no_more nothing) refl (stages_alike body scope typed on (no_run sources) n le no_more nothing)
