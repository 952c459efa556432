-- The stages of a body go on as its statements do, up to its end.
use Rattle.std.proofs.Common.{◌≡◌, ℕ, zero, suc, ◌+◌, ◌<◌, ◌≤◌, Bool, true, false, ◌==◌, List, [], ◌∷◌, ◌++◌, Option, Some, None, refl, sym, ◌∙◌, ap, subst, arith, length-append, append_assoc, if◌then◌else◌}
use Rattle.std.proofs.lemmas.Bool.{false≢true, eqb-true, eq-eqb}
use Rattle.std.specs.Prelude.{length, Contains}
use Rattle.sp_words.specs.declared.types.Ty.{Ty}
use Rattle.sp_tree.specs.Expressions as expressions
use Rattle.sp_tree.specs.PlainExpression.{PlainExpr, expr, literal, counter, value, type_of}
use Rattle.sp_tree.specs.PlainProgram.{PlainProgram}
use Rattle.sp_tree.specs.PlainStatement.{PlainStmtKind, PlainStmts, stmt, declare, name, set_reg, set_out, set_sram, enq, no_stmt, more_stmt}
use Rattle.sp_tree.specs.Sequential.{name_now, run as run_stmt, run_kind, run_all}
use Rattle.sp_tree.specs.Shape as program_shape
use Rattle.sp_tree.specs.Shape.{shapes}
use Rattle.sp_tree.specs.Step as step
use Rattle.sp_tree.specs.Store as program_store
use Rattle.sp_tree.specs.Structure.{own_mems, mems_declared, mems_in}
use Rattle.sp_tree.specs.Typing.{Scope, with_mem, with_val, StmtTyped, BodyTyped, after as scope_after, after_all}
use Rattle.sp_core.specs.PlainCore.{PlainMem, PlainStages, PlainCore, more_stage}
use Rattle.sp_core.specs.Scope as counters
use Rattle.sp_core.specs.Store as core_store
use Rattle.sp_sugar.specs.Agreement.{HasMemories, View, Apart, Finds}
use Rattle.sp_sugar.specs.Early.{early_registers, early_stages}
use Rattle.sp_sugar.specs.Numbers.{crossing_register}
use Rattle.sp_sugar.specs.Operations.{Code, write_op}
use Rattle.sp_sugar.specs.Registers.{beside, inside, at_end, registers}
use Rattle.sp_sugar.specs.Runs.{Run, no_run, next_code, with_computed, with_stmt}
use Rattle.sp_sugar.specs.Stages.{run_stage, first_of, Combines, last_stages, stages, node}
use Rattle.sp_sugar.specs.Uses.{Ending, does_cross, is_used_later}
use Rattle.sp_sugar.specs.Values.{Source, at_place, in_register, constant, count, Sources, with_value}
use Rattle.sp_sugar.proofs.Entering.{fresh_apart}
use Rattle.sp_sugar.proofs.MemoryLemmas.{changed_elsewhere}
use Rattle.sp_sugar.proofs.OwnerCounts.{IsStageKind}
use Rattle.sp_sugar.proofs.RunKeeps.{in_front, in_back}
use Rattle.sp_sugar.proofs.StepLemmas.{as_it_went, same_answer, same_left, same_store, taken_apart}
use Rattle.sp_sugar.proofs.UseLemmas.{only}
use Rattle.sp_same.specs.Contents.{HoldRightly}
use Rattle.sp_same.specs.Counts.{counts_in, counts_in_all}
use Rattle.sp_same.specs.Following.{SourceSeen, SourcesSeen, SourceBefore, IsOwn}
use Rattle.sp_same.proofs.Renewed.{in_either}
use Rattle.sp_same.proofs.Rightly.{kind_rightly}
use Rattle.sp_same.proofs.Turns.{kind_falls, turn_falls}
use Rattle.sp_bodies.specs.Bodies.{HaveRoomsAlike, begun_of, beside_of, AreDeclared, IsStageFollowed, AreStagesFollowed}
use Rattle.sp_bodies.proofs.AlikeStages.{changed_alike, Same, stages_alike}
use Rattle.sp_bodies.proofs.Known.{Known, KnownHere}
use Rattle.sp_bodies.proofs.Owned.{declared_left, declared_right, same_beside, cells_of_body, body_number, registers_count, before_more, apart_inside, apart_after}
use Rattle.sp_bodies.proofs.StageSteps.{cells_from, cells_append, Onward, then_onward, past}
use Rattle.sp_bodies.proofs.Statements.{Standing, reg_stands, out_stands, sram_stands, enq_stands, declare_stands, bare_stands, alone_stands, crossing_stands}

-- a statement and those after it
pub record Parted (mems : List _) (roomy : List ℕ) (place : ℕ) (k : PlainStmtKind) (body : PlainStmts) (s : program_store.Store) (left : ℕ) (did : List program_shape.Shape) (rest : ℕ) (after : program_store.Store) : Type 0 where
  pub first_left : ℕ
  pub between : ℕ
  pub middle : program_store.Store
  pub one : List program_shape.Shape
  pub others : List program_shape.Shape
  pub fewer : first_left ≤ left
  pub first : run_kind mems roomy k place first_left s ≡ step.went one between middle
  pub second : run_all mems roomy body between middle ≡ step.went others rest after
  pub all : one ++ others ≡ did

pub parted : (mems : List _) (roomy : List ℕ) (place : ℕ) (k : PlainStmtKind) (body : PlainStmts) (s : program_store.Store) (left : ℕ) (did : List program_shape.Shape) (rest : ℕ) (after : program_store.Store)
    → run_all mems roomy (more_stmt (stmt place k) body) left s ≡ step.went did rest after → Parted mems roomy place k body s left did rest after
unfolding run_stmt run_all step.pure
parted mems roomy place k body s left did rest after goes =
    let b = taken_apart (run_stmt mems roomy (stmt place k)) (λ x. step.◌>>=◌ (run_all mems roomy body) (λ y. step.pure (x ++ y))) left s did rest after goes in
    let c = taken_apart step.turn (λ _. run_kind mems roomy k place) left s b.answer b.between b.store b.first in
    let fell = turn_falls c.answer left c.between s c.store c.first in
    let d = taken_apart (run_all mems roomy body) (λ y. step.pure (b.answer ++ y)) b.between b.store did rest after b.second in
    record {
      first_left = c.between;
      between = b.between;
      middle = b.store;
      one = b.answer;
      others = d.answer;
      fewer = omega (arith, fell.0);
      first = subst (λ u. run_kind mems roomy k place c.between u ≡ step.went b.answer b.between b.store) fell.1 c.second;
      second = d.first ∙ ap (λ n. step.went d.answer n d.store) (same_left (b.answer ++ d.answer) did d.between rest d.store after d.second) ∙ ap (λ u. step.went d.answer rest u) (same_store (b.answer ++ d.answer) did d.between rest d.store after d.second);
      all = same_answer (b.answer ++ d.answer) did d.between rest d.store after d.second;
    }

-- what is counted of statements one after the other
pub counts_append : (xs ys : List program_shape.Shape) → counts_in_all (shapes (xs ++ ys)) ≡ counts_in_all (shapes xs) ++ counts_in_all (shapes ys)
unfolding counts_in_all
counts_append [] ys = refl
counts_append (x ∷ xs) ys = ap (λ l. counts_in x ++ l) (counts_append xs ys) ∙ sym (append_assoc (counts_in x) (counts_in_all (shapes xs)) (counts_in_all (shapes ys)))

-- the word of a value, and its name
pub record Named (mems : List _) (v : ℕ) (e : PlainExpr) (s : program_store.Store) (left : ℕ) (did : List program_shape.Shape) (after : program_store.Store) : Type 0 where
  pub word : ℕ
  pub turns : ℕ
  pub store : program_store.Store
  pub worked : expressions.word mems e left s ≡ step.went word turns store
  pub named : program_store.name_value store v word ≡ after
  pub nothing : did ≡ []

pub named_apart : (mems : List _) (roomy : List ℕ) (v place : ℕ) (e : PlainExpr) (s : program_store.Store) (left : ℕ) (did : List program_shape.Shape) (rest : ℕ) (after : program_store.Store)
    → run_kind mems roomy (name v e) place left s ≡ step.went did rest after → Named mems v e s left did after
unfolding run_kind step.◌>>=◌ step.pure step.change
named_apart mems roomy v place e s left did rest after goes =
    let b = taken_apart (expressions.word mems e) (λ w. step.◌>>◌ (name_now v w) (step.pure [])) left s did rest after goes in
    record {
      word = b.answer;
      turns = b.between;
      store = b.store;
      worked = b.first;
      named = same_store [] did b.between rest (program_store.name_value b.store v b.answer) after b.second;
      nothing = sym (same_answer [] did b.between rest (program_store.name_value b.store v b.answer) after b.second);
    }

module _ (p : PlainProgram) (core : PlainCore) (h : HasMemories p core) (roomy : List ℕ) (rooms : HaveRoomsAlike p roomy core) (outer : View) (resets : (m : ℕ) → outer.resets m ≡ false) (most : ℕ)
    (waits : List ℕ) where
  keeps : (scope : Scope) (k : PlainStmtKind) (place left rest : ℕ) (s after : program_store.Store) (did : List program_shape.Shape) → StmtTyped p scope k → HoldRightly p scope.mems s → run_kind p.mems roomy k place left s ≡ step.went did rest after → HoldRightly p (scope_after scope k).mems after
  keeps scope k place left rest s after did typed right e = kind_rightly p h.declared roomy k scope place typed left rest s after did right e

  -- a place among the statements of a body, whose registers stand from a number on
  pub record Placed (scope : Scope) (sofar : Run) (n : ℕ) (rest : PlainStmts) (ending : Ending) (kept : List (ℕ × Option ℕ)) : Type 0 where
    pub typed : BodyTyped p scope rest
    pub here_before : (v : ℕ × Ty) → Contains scope.vals v → SourceBefore n (sofar.values.here v.0)
    pub later_before : (v : ℕ × Ty) → Contains scope.vals v → SourceBefore n (sofar.values.elsewhere v.0)
    pub seen : SourcesSeen scope sofar.values.elsewhere
    pub clear : (x : ℕ × Option ℕ) → Contains kept x → (j : ℕ) → n ≤ j → j < n + length (registers rest ending) → x.0 ≡ j → ⊥
    pub added : AreDeclared p core n (registers rest ending)
    pub own : (m : ℕ) → Contains (mems_declared rest) m → IsOwn p scope m
    pub apart : Apart (mems_declared rest ++ waits)

  -- the end of a body: whatever its last stages do, all its stages do
  pub record Ended (vals : List (ℕ × Ty)) (sources : Sources) (scope : Scope) (ending : Ending) (c : Combines) (whole : PlainStages) (kept : List (ℕ × Option ℕ)) (t : core_store.Store) (after : program_store.Store) (did : List program_shape.Shape) : Type 0 where
    pub run : Run
    pub n : ℕ
    pub kept_end : List (ℕ × Option ℕ)
    pub end : core_store.Store
    pub standing : Standing p core h outer scope waits (cells_from n (at_end ending)) kept_end run end after
    pub placed : Placed scope run n no_stmt ending kept_end
    pub more : (x : ℕ × Option ℕ) → Contains kept x → Contains kept_end x
    pub old : (v : ℕ × Ty) → Contains vals v → run.values.elsewhere v.0 ≡ sources v.0
    pub onward : Onward p core most outer.around whole (last_stages p.mems (length p.counters) run n ending c) t end (counts_in_all (shapes did))

  abbrev Stands : (scope : Scope) (n : ℕ) (rest : PlainStmts) (ending : Ending) (kept : List (ℕ × Option ℕ)) (sofar : Run) (t : core_store.Store) (s : program_store.Store) → Type 0
  Stands scope n rest ending kept sofar t s = Standing p core h outer scope (own_mems rest ++ waits) (cells_of_body n rest ending) kept sofar t s

  renumbered : (scope : Scope) (a b : ℕ) (rest : PlainStmts) (ending : Ending) (kept : List (ℕ × Option ℕ)) (sofar : Run) (t : core_store.Store) (s : program_store.Store) → a ≡ b → Stands scope a rest ending kept sofar t s → Stands scope b rest ending kept sofar t s
  renumbered scope a b rest ending kept sofar t s e g = subst (λ j. Stands scope j rest ending kept sofar t s) e g

  -- nothing was run of the first statement
  same_did : (P : List program_shape.Shape → Type 0) (one others did : List program_shape.Shape) → one ≡ [] → one ++ others ≡ did → P others → P did
  same_did P one others did e f g = subst P (ap (λ o. o ++ others) (sym e) ∙ f) g

  -- with what is kept and visible further on
  from_next : (vals vals2 : List (ℕ × Ty)) (sources sources2 : Sources) (scope : Scope) (ending : Ending) (c : Combines) (whole : PlainStages) (kept kept2 : List (ℕ × Option ℕ)) (t : core_store.Store) (after : program_store.Store) (did : List program_shape.Shape)
      → ((v : ℕ × Ty) → Contains vals v → Contains vals2 v × (sources2 v.0 ≡ sources v.0)) → ((x : ℕ × Option ℕ) → Contains kept x → Contains kept2 x) → Ended vals2 sources2 scope ending c whole kept2 t after did → Ended vals sources scope ending c whole kept t after did
  from_next vals vals2 sources sources2 scope ending c whole kept kept2 t after did f h g = record {
    run = g.run;
    n = g.n;
    kept_end = g.kept_end;
    end = g.end;
    standing = g.standing;
    placed = g.placed;
    more = λ y d. g.more y (h y d);
    old = λ v d. let e = f v d in g.old v e.0 ∙ e.1;
    onward = g.onward;
  }

  module _ (scope : Scope) (sofar : Run) (n place : ℕ) (k : PlainStmtKind) (rest : PlainStmts) (ending : Ending) (kept : List (ℕ × Option ℕ)) (g : Placed scope sofar n (more_stmt (stmt place k) rest) ending kept) where
    abbrev next : ℕ
    next = n + length (beside k rest ending) + length (inside k)

    clear_next : (m : ℕ) → next ≡ m → (x : ℕ × Option ℕ) → Contains kept x → (j : ℕ) → m ≤ j → j < m + length (registers rest ending) → x.0 ≡ j → ⊥
    clear_next m e x c j le lt f = g.clear x c j (omega (arith, e, le)) (omega (arith, e, lt, registers_count place k rest ending)) f

    added_next : (m : ℕ) → next ≡ m → AreDeclared p core m (registers rest ending)
    unfolding registers
    added_next m e = declared_right p core n m (beside k rest ending ++ inside k) (registers rest ending) (omega (arith, e, length-append (beside k rest ending) (inside k))) g.added

    added_here : AreDeclared p core n (beside k rest ending ++ inside k)
    unfolding registers
    added_here = declared_left p core n (beside k rest ending ++ inside k) (registers rest ending) g.added

    own_next : (m : ℕ) → Contains (mems_declared rest) m → IsOwn p scope m
    own_next m c = g.own m (in_back (mems_in k) (mems_declared rest) m c)

    -- the place after it, with the same names
    placed_next : (run2 : Run) (m : ℕ) → next ≡ m → ((v : ℕ × Ty) → Contains scope.vals v → SourceBefore n (run2.values.here v.0)) → ((v : ℕ × Ty) → Contains scope.vals v → SourceBefore n (run2.values.elsewhere v.0)) → SourcesSeen scope run2.values.elsewhere → BodyTyped p scope rest
        → Placed scope run2 m rest ending kept
    placed_next run2 m e here later seen typed = record {
      typed = typed;
      here_before = λ v c. before_more n m (run2.values.here v.0) (omega (arith, e)) (here v c);
      later_before = λ v c. before_more n m (run2.values.elsewhere v.0) (omega (arith, e)) (later v c);
      seen = seen;
      clear = clear_next m e;
      added = added_next m e;
      own = own_next;
      apart = apart_after (mems_in k) (mems_declared rest) waits g.apart;
    }

    -- with a value more, that is found by these sources
    placed_named : (v : ℕ) (ty : Ty) (ops : List _) (now elsewhere : Source) (kept2 : List (ℕ × Option ℕ)) (m : ℕ) → next ≡ m → SourceBefore m now → SourceBefore m elsewhere → SourceSeen scope elsewhere → BodyTyped p (with_val scope v ty) rest
        → ((x : ℕ × Option ℕ) → Contains kept2 x → (j : ℕ) → m ≤ j → j < m + length (registers rest ending) → x.0 ≡ j → ⊥) → Placed (with_val scope v ty) (record { ops = ops; values = with_value sofar.values v now elsewhere }) m rest ending kept2
    placed_named v ty ops now elsewhere kept2 m e b1 b2 seen typed clear = record {
      typed = typed;
      here_before = λ u c. either_named (SourceBefore m) sofar.values.here now (λ y d. before_more n m (sofar.values.here y.0) (omega (arith, e)) (g.here_before y d)) b1 u c;
      later_before = λ u c. either_named (SourceBefore m) sofar.values.elsewhere elsewhere (λ y d. before_more n m (sofar.values.elsewhere y.0) (omega (arith, e)) (g.later_before y d)) b2 u c;
      seen = λ u c. either_named (SourceSeen scope) sofar.values.elsewhere elsewhere (λ y d. g.seen y d) seen u c;
      clear = clear;
      added = added_next m e;
      own = λ x c. let y = own_next x c in record { exists = y.exists; on_chip = y.on_chip; unseen = y.unseen };
      apart = apart_after (mems_in k) (mems_declared rest) waits g.apart;
    }
      where
        either_named : (P : Source → Type 0) (sources : ℕ → Source) (source : Source) → ((u : ℕ × Ty) → Contains scope.vals u → P (sources u.0)) → P source → (u : ℕ × Ty) → Contains ((v, ty) ∷ scope.vals) u → P (core_store.changed sources v source u.0)
        either_named P sources source f x u (zero, lt, i) = subst (λ y. P (core_store.changed sources v source y)) (ap (λ (y : ℕ × Ty). y.0) i) (subst P (sym (ap (λ b. elim b as (λ _. Source) [ true ↦ source | false ↦ sources v ]) (eq-eqb v v refl))) x)
        either_named P sources source f x u (suc j, lt, i) = choose (u.0 == v)
          where
            choose : (b : Bool) → P (elim b as (λ _. Source) [ true ↦ source | false ↦ sources u.0 ])
            choose true = x
            choose false = f u (j, omega arith, i)

    placed_declared : (m : ℕ) → k ≡ declare m → BodyTyped p (with_mem scope m) rest → (i : ℕ) → next ≡ i → Placed (with_mem scope m) sofar i rest ending kept
    placed_declared m is typed i e = record {
      typed = typed;
      here_before = λ v c. before_more n i (sofar.values.here v.0) (omega (arith, e)) (g.here_before v c);
      later_before = λ v c. before_more n i (sofar.values.elsewhere v.0) (omega (arith, e)) (g.later_before v c);
      seen = g.seen;
      clear = clear_next i e;
      added = added_next i e;
      own = λ x c. let y = own_next x c in record { exists = y.exists; on_chip = y.on_chip; unseen = λ d. unseen x c y.unseen d };
      apart = apart_after (mems_in k) (mems_declared rest) waits g.apart;
    }
      where
        declared_once : Contains (mems_declared rest) m → ⊥
        declared_once c = (subst (λ x. Apart ((mems_in x ++ mems_declared rest) ++ waits)) is g.apart).0 (in_front (mems_declared rest) waits m c)

        unseen : (x : ℕ) → Contains (mems_declared rest) x → (Contains scope.mems x → ⊥) → Contains (m ∷ scope.mems) x → ⊥
        unseen x c f (zero, lt, i) = declared_once (subst (Contains (mems_declared rest)) (sym i) c)
        unseen x c f (suc j, lt, i) = f (j, omega arith, i)

  -- a controller or transfer, and what comes after it, by the registers beside it
  module _ (scope : Scope) (sofar : Run) (n place : ℕ) (k : PlainStmtKind) (stage : IsStageKind k) (stays : scope_after scope k ≡ scope) (rest : PlainStmts) (ending : Ending) (c : Combines) (kept : List (ℕ × Option ℕ)) (t : core_store.Store) (s after : program_store.Store) (left turns : ℕ) (did : List program_shape.Shape)
      (g : Placed scope sofar n (more_stmt (stmt place k) rest) ending kept) (followed : IsStageFollowed p roomy core k) (typed : StmtTyped p scope k) (later_typed : BodyTyped p scope rest) (enough : left ≤ most)
      (x : Parted p.mems roomy place k rest s left did turns after)
      (others : (run2 : Run) (m : ℕ) (u : core_store.Store) (s2 : program_store.Store) (left2 : ℕ) (did2 : List program_shape.Shape) → Placed scope run2 m rest ending kept → Stands scope m rest ending kept run2 u s2 → left2 ≤ most → run_all p.mems roomy rest left2 s2 ≡ step.went did2 turns after
      → Ended scope.vals run2.values.elsewhere (after_all scope rest) ending c (stages p.mems (length p.counters) run2 m rest ending c) kept u after did2) where
    -- by the registers beside it
    abbrev whole_by : List PlainMem → PlainStages
    whole_by b = run_stage sofar.ops (early_stages p.mems sofar.values.elsewhere n k (more_stage 0 0 false (node p.mems (length p.counters) sofar.values.elsewhere n (n + length b) k)
        (stages p.mems (length p.counters) (no_run sofar.values.elsewhere) (n + length b + length (inside k)) rest ending c)))

    abbrev Claim : List PlainMem → Type 0
    Claim b = n + length b + length (inside k) ≡ n + length (beside k rest ending) + length (inside k) → Standing p core h outer scope (own_mems rest ++ waits) (cells_from n b ++ cells_of_body (n + length b + length (inside k)) rest ending) kept sofar t s → Ended scope.vals sofar.values.elsewhere (after_all scope rest) ending c (whole_by b) kept t after did

    claim : Claim (beside_of k)
    claim e stands =
        let m : ℕ = n + length (beside_of k) + length (inside k) in
        let fresh : List (ℕ × Option ℕ) = cells_of_body m rest ending in
        let stands2 : Standing p core h outer scope (own_mems rest ++ waits) ((cells_from n (early_registers k) ++ cells_from (n + length (early_registers k)) (begun_of k)) ++ fresh) kept sofar t s = subst (λ l. Standing p core h outer scope (own_mems rest ++ waits) (l ++ fresh) kept sofar t s) (cells_append n (early_registers k) (begun_of k)) stands in
        let count = registers_count place k rest ending in
        let y = past p core h outer roomy most k n place scope (own_mems rest ++ waits) fresh kept sofar t s x.middle x.first_left x.between x.one stands2 followed typed g.later_before g.seen (λ z d. body_number m rest ending z d)
        (λ z d j le lt f. g.clear z d j le (omega (arith, lt, e, count)) f) (subst (λ b. AreDeclared p core n (b ++ inside k)) (sym (same_beside k stage rest ending)) (added_here scope sofar n place k rest ending kept g)) (λ j d. g.own j (in_front (mems_in k) (mems_declared rest) j d)) (apart_inside (mems_in k) rest waits g.apart) resets (omega (arith, x.fewer, enough))
        (subst (λ (S : Scope). HoldRightly p S.mems x.middle) stays (keeps scope k place x.first_left x.between s x.middle x.one typed stands.shaped x.first)) x.first in
        let falls : x.between ≤ x.first_left = kind_falls p.mems roomy k place x.first_left x.between s x.middle x.one x.first in
        let z = others (no_run sofar.values.elsewhere) m y.end x.middle x.between x.others
        (placed_next scope sofar n place k rest ending kept g (no_run sofar.values.elsewhere) m (sym e) g.later_before g.later_before g.seen later_typed) y.stands (omega (arith, falls, x.fewer, enough)) x.second in
        let later : PlainStages = stages p.mems (length p.counters) (no_run sofar.values.elsewhere) m rest ending c in
        record {
          run = z.run;
          n = z.n;
          kept_end = z.kept_end;
          end = z.end;
          standing = z.standing;
          placed = z.placed;
          more = z.more;
          old = z.old;
          onward = subst (Onward p core most outer.around (whole_by (beside_of k)) (last_stages p.mems (length p.counters) z.run z.n ending c) t z.end) (sym (counts_append x.one x.others) ∙ ap (λ d. counts_in_all (shapes d)) x.all)
              (then_onward p core most outer.around (whole_by (beside_of k)) later (last_stages p.mems (length p.counters) z.run z.n ending c) t y.end z.end (counts_in_all (shapes x.one)) (counts_in_all (shapes x.others)) (y.onward later) z.onward);
        }

    stage_case : (b : List PlainMem) → beside_of k ≡ b → Claim b
    stage_case b e = subst Claim e claim

  -- a statement that is neither, whose registers are none
  module _ (scope : Scope) (n place : ℕ) (k : PlainStmtKind) (rest : PlainStmts) (ending : Ending) (c : Combines) (kept : List (ℕ × Option ℕ)) (sofar : Run) (t : core_store.Store) (s after : program_store.Store) (left turns : ℕ) (did : List program_shape.Shape)
      (g : Placed scope sofar n (more_stmt (stmt place k) rest) ending kept) (x : Parted p.mems roomy place k rest s left did turns after) (enough : left ≤ most) where
    later_turns : x.between ≤ most
    later_turns = let falls : x.between ≤ x.first_left = kind_falls p.mems roomy k place x.first_left x.between s x.middle x.one x.first in omega (arith, falls, x.fewer, enough)

    abbrev Goes_later : Scope → Run → ℕ → PlainStages → List (ℕ × Option ℕ) → Type 0
    Goes_later scope2 run2 m whole kept2 = Placed scope2 run2 m rest ending kept2 → Stands scope2 m rest ending kept2 run2 t x.middle → x.between ≤ most → run_all p.mems roomy rest x.between x.middle ≡ step.went x.others turns after → Ended scope2.vals run2.values.elsewhere (after_all scope2 rest) ending c whole kept2 t after x.others

    -- the next place
    plain_case : (run2 : Run) (m : ℕ) (whole : PlainStages) → next scope sofar n place k rest ending kept g ≡ m → run2.values ≡ sofar.values → BodyTyped p scope rest → (x.one ≡ []) × Stands scope (next scope sofar n place k rest ending kept g) rest ending kept run2 t x.middle → Goes_later scope run2 m whole kept
        → Ended scope.vals sofar.values.elsewhere (after_all scope rest) ending c whole kept t after did
    plain_case run2 m whole e values typed stands later =
        same_did (λ d. Ended scope.vals sofar.values.elsewhere (after_all scope rest) ending c whole kept t after d) x.one x.others did stands.0 x.all
        (from_next scope.vals scope.vals sofar.values.elsewhere run2.values.elsewhere (after_all scope rest) ending c whole kept kept t after x.others (λ v d. (d, ap (λ (y : _). y.elsewhere v.0) values)) (λ y d. d)
        (later (placed_next scope sofar n place k rest ending kept g run2 m e (λ v d. subst (λ (y : _). SourceBefore n (y.here v.0)) (sym values) (g.here_before v d)) (λ v d. subst (λ (y : _). SourceBefore n (y.elsewhere v.0)) (sym values) (g.later_before v d))
        (λ v d. subst (λ (y : _). SourceSeen scope (y.elsewhere v.0)) (sym values) (g.seen v d)) typed)
        (renumbered scope (next scope sofar n place k rest ending kept g) m rest ending kept run2 t x.middle e stands.1) later_turns x.second))

  -- what a bare expression stands for
  literal_found : (w y left m : ℕ) (s u : program_store.Store) → step.went w left s ≡ step.went y m u → (u ≡ s) × (w ≡ y) × (w ≡ y) × (w ≡ y)
  literal_found w y left m s u e = let f = same_answer w y left m s u e in (sym (same_store w y left m s u e), f, f, f)

  counter_found : (i y left m : ℕ) (s u : program_store.Store) → step.went (s.counts i) left s ≡ step.went y m u → counters.count_word (outer.around i) 0 ≡ s.counts i
      → (u ≡ s) × (counters.count_word (outer.around i) 0 ≡ y) × (counters.count_word (outer.around i) 0 ≡ y) × (counters.count_word (outer.around i) 0 ≡ y)
  counter_found i y left m s u e a = let f = a ∙ same_answer (s.counts i) y left m s u e in (sym (same_store (s.counts i) y left m s u e), f, f, f)

  value_found : (scope : Scope) (waiting : List ℕ) (fresh kept : List (ℕ × Option ℕ)) (sofar : Run) (t : core_store.Store) (s : program_store.Store) (g : Standing p core h outer scope waiting fresh kept sofar t s) (y : ℕ) (ty : Ty) → Contains scope.vals (y, ty) → (z left m : ℕ) (u : program_store.Store) → step.went (s.values y) left s ≡ step.went z m u
      → (u ≡ s) × Finds p core outer.around g.goes.all g.goes.after (sofar.values.here y) z × KnownHere outer.around kept (sofar.values.here y) z × Known outer.around kept (sofar.values.elsewhere y) z
  value_found scope waiting fresh kept sofar t s g y ty c z left m u e =
      let f = same_answer (s.values y) z left m s u e in (
        sym (same_store (s.values y) z left m s u e),
        subst (Finds p core outer.around g.goes.all g.goes.after (sofar.values.here y)) f (g.goes.agree.vals (y, ty) c),
        subst (KnownHere outer.around kept (sofar.values.here y)) f (g.here (y, ty) c),
        subst (Known outer.around kept (sofar.values.elsewhere y)) f (g.later (y, ty) c),
      )

  -- a value that is named
  module _ (scope : Scope) (n place v : ℕ) (e : PlainExpr) (rest : PlainStmts) (ending : Ending) (c : Combines) (kept : List (ℕ × Option ℕ)) (sofar : Run) (t : core_store.Store) (s after : program_store.Store) (left turns : ℕ) (did : List program_shape.Shape)
      (g : Placed scope sofar n (more_stmt (stmt place (name v e)) rest) ending kept) (stands : Stands scope n (more_stmt (stmt place (name v e)) rest) ending kept sofar t s) (x : Parted p.mems roomy place (name v e) rest s left did turns after) (enough : left ≤ most)
      (others : (run2 : Run) (m : ℕ) (kept2 : List (ℕ × Option ℕ)) → Goes_later scope n place (name v e) rest ending c kept sofar t s after left turns did g x enough (with_val scope v (type_of e)) run2 m (stages p.mems (length p.counters) run2 m rest ending c) kept2) where
    abbrev scope2 : Scope
    scope2 = with_val scope v (type_of e)

    abbrev all_stages : Run → ℕ → PlainStages
    all_stages run2 m = stages p.mems (length p.counters) run2 m rest ending c

    its_name : Named p.mems v e s x.first_left x.one x.middle
    its_name = named_apart p.mems roomy v place e s x.first_left x.one x.between x.middle x.first

    shaped_middle : HoldRightly p scope.mems x.middle
    shaped_middle = keeps scope (name v e) place x.first_left x.between s x.middle x.one g.typed.0 stands.shaped x.first

    goes_later : (run2 : Run) (m : ℕ) (kept2 : List (ℕ × Option ℕ)) → Placed scope2 run2 m rest ending kept2 → Stands scope2 m rest ending kept2 run2 t x.middle → Ended scope2.vals run2.values.elsewhere (after_all scope2 rest) ending c (all_stages run2 m) kept2 t after did
    goes_later run2 m kept2 g2 stands2 =
        same_did (λ d. Ended scope2.vals run2.values.elsewhere (after_all scope2 rest) ending c (all_stages run2 m) kept2 t after d) x.one x.others did its_name.nothing x.all
        (others run2 m kept2 g2 stands2 (later_turns scope n place (name v e) rest ending c kept sofar t s after left turns did g x enough) x.second)

    -- no more numbers are taken than by those beside it
    numbers : (b : List PlainMem) → beside (name v e) rest ending ≡ b → n + length (beside (name v e) rest ending) + length (inside (name v e)) ≡ n + length b
    unfolding inside
    numbers b same = ap (λ l. n + length l + 0) same ∙ omega arith

    cells_are : (b : List PlainMem) → beside (name v e) rest ending ≡ b → cells_of_body n (more_stmt (stmt place (name v e)) rest) ending ≡ cells_from n b ++ cells_of_body (n + length b) rest ending
    cells_are b same = ap (λ l. cells_from n l ++ cells_of_body (n + length (beside (name v e) rest ending) + length (inside (name v e))) rest ending) same ∙ ap (λ m. cells_from n b ++ cells_of_body m rest ending) (numbers b same)

    Stands_by : List (ℕ × Option ℕ) → Scope → List (ℕ × Option ℕ) → Run → program_store.Store → Type 0
    Stands_by fresh scope3 kept3 run3 s3 = Standing p core h outer scope3 (own_mems rest ++ waits) fresh kept3 run3 t s3

    -- values of before are found where they were
    from_names : (elsewhere : Source) (whole : PlainStages) (kept2 : List (ℕ × Option ℕ)) → ((y : ℕ × Option ℕ) → Contains kept y → Contains kept2 y) → Ended scope2.vals (core_store.changed sofar.values.elsewhere v elsewhere) (after_all scope2 rest) ending c whole kept2 t after did
        → Ended scope.vals sofar.values.elsewhere (after_all scope2 rest) ending c whole kept t after did
    from_names elsewhere whole kept2 more z =
        from_next scope.vals scope2.vals sofar.values.elsewhere (core_store.changed sofar.values.elsewhere v elsewhere) (after_all scope2 rest) ending c whole kept kept2 t after did
        (λ u d. ((suc d.0, omega (arith, d.1), d.2), changed_elsewhere sofar.values.elsewhere v u.0 elsewhere (fresh_apart p core h scope v g.typed.0.0 u d))) more z

    -- after another one, or a constant or counter
    named_bare : (now elsewhere : Source) → beside (name v e) rest ending ≡ []
        → ((w m : ℕ) (u : program_store.Store) → expressions.word p.mems e x.first_left s ≡ step.went w m u → (u ≡ s) × Finds p core outer.around stands.goes.all stands.goes.after now w × KnownHere outer.around kept now w × Known outer.around kept elsewhere w)
        → SourceBefore n now → SourceBefore n elsewhere → SourceSeen scope elsewhere → Ended scope.vals sofar.values.elsewhere (after_all scope2 rest) ending c (all_stages (record { ops = sofar.ops; values = with_value sofar.values v now elsewhere }) (n + 0)) kept t after did
    unfolding Stands_by
    named_bare now elsewhere none found b1 b2 seen =
        let f = found its_name.word its_name.turns its_name.store its_name.worked in
        let run2 : Run = record { ops = sofar.ops; values = with_value sofar.values v now elsewhere } in
        let middle : program_store.name_value s v its_name.word ≡ x.middle = ap (λ u. program_store.name_value u v its_name.word) (sym f.0) ∙ its_name.named in
        let old : List (ℕ × Option ℕ) = cells_of_body n (more_stmt (stmt place (name v e)) rest) ending in
        let st = bare_stands p core h outer scope (own_mems rest ++ waits) old kept sofar t s stands v (type_of e) its_name.word now elsewhere f.1 f.2 f.3 stands.shaped in
        from_names elsewhere (all_stages run2 (n + 0)) kept (λ y d. d)
        (goes_later run2 (n + 0) kept
        (placed_named scope sofar n place (name v e) rest ending kept g v (type_of e) sofar.ops now elsewhere kept (n + 0) (numbers [] none) (before_more n (n + 0) now (omega arith) b1) (before_more n (n + 0) elsewhere (omega arith) b2) seen g.typed.1 (clear_next scope sofar n place (name v e) rest ending kept g (n + 0) (numbers [] none)))
        (subst (λ l. Stands_by l scope2 kept run2 x.middle) (cells_are [] none) (subst (Stands_by old scope2 kept run2) middle st)))

    -- by operations, by whether it crosses
    abbrev crossing : Bool → List PlainMem
    crossing b = if b then crossing_register (type_of e) ∷ [] else []

    abbrev Result : Bool → Type 0
    Result b = Ended scope.vals sofar.values.elsewhere (after_all scope2 rest) ending c (all_stages (with_computed p.mems sofar v e (first_of n (crossing b))) (n + length (crossing b))) kept t after did

    shaped_named : HoldRightly p scope.mems (program_store.name_value its_name.store v its_name.word)
    shaped_named = subst (HoldRightly p scope.mems) (sym its_name.named) shaped_middle

    named_computed : (b : Bool) → does_cross v rest ending ≡ b → beside (name v e) rest ending ≡ crossing b → Result b
    unfolding Stands_by
    named_computed false crosses same =
        let first : List (ℕ × Option ℕ) = cells_of_body (n + 0) rest ending in
        let st0 : Stands_by first scope kept sofar s = subst (λ l. Stands_by l scope kept sofar s) (cells_are [] same) stands in
        let w : ℕ = its_name.word in
        let st = alone_stands p core h outer scope (own_mems rest ++ waits) first kept sofar t s st0 v e g.typed.0.1 x.first_left its_name.turns w its_name.store its_name.worked shaped_named in
        let code : Code = next_code p.mems sofar e in
        let run2 : Run = record { ops = sofar.ops ++ code.ops; values = with_value sofar.values v (at_place code.word) (constant w) } in
        let alike : Same (with_computed p.mems sofar v e None) run2 rest ending = record {
          ops = refl;
          here = λ u d. refl;
          later = λ u d. changed_alike v sofar.values.elsewhere sofar.values.elsewhere (at_place code.word) (constant w) u refl (λ i. absurd (false≢true (sym crosses ∙ ap (λ z. is_used_later (only z) rest ending) (sym (eqb-true u v i)) ∙ d)));
        } in
        subst (λ whole. Ended scope.vals sofar.values.elsewhere (after_all scope2 rest) ending c whole kept t after did) (sym (stages_alike p.mems (length p.counters) rest ending c (n + 0) (with_computed p.mems sofar v e None) run2 alike))
        (from_names (constant w) (all_stages run2 (n + 0)) kept (λ y d. d)
        (goes_later run2 (n + 0) kept
        (placed_named scope sofar n place (name v e) rest ending kept g v (type_of e) (sofar.ops ++ code.ops) (at_place code.word) (constant w) kept (n + 0) (numbers [] same) tt tt tt g.typed.1 (clear_next scope sofar n place (name v e) rest ending kept g (n + 0) (numbers [] same)))
        (subst (Stands_by first scope2 kept run2) its_name.named st)))
    named_computed true crosses same =
        let others_fresh : List (ℕ × Option ℕ) = cells_of_body (n + 1) rest ending in
        let first : List (ℕ × Option ℕ) = (n, None) ∷ others_fresh in
        let st0 : Stands_by first scope kept sofar s = subst (λ l. Stands_by l scope kept sofar s) (cells_are (crossing true) same) stands in
        let w : ℕ = its_name.word in
        let kept2 : List (ℕ × Option ℕ) = (n, Some w) ∷ kept in
        let some : 1 ≤ length (registers (more_stmt (stmt place (name v e)) rest) ending) = omega (arith, registers_count place (name v e) rest ending, ap length same) in
        let st = crossing_stands p core h outer scope (own_mems rest ++ waits) first kept sofar t s st0 v e g.typed.0.1 x.first_left its_name.turns w its_name.store its_name.worked shaped_named n others_fresh refl g.here_before
        (λ y d i. in_either others_fresh kept y d (λ f. let z = body_number (n + 1) rest ending y f in omega (arith, z, i)) (λ f. g.clear y f n (omega arith) (omega (arith, some)) i)) in
        let code : Code = next_code p.mems sofar e in
        let run2 : Run = with_computed p.mems sofar v e (Some n) in
        from_names (in_register n) (all_stages run2 (n + 1)) kept2 (λ y d. (suc d.0, omega (arith, d.1), d.2))
        (goes_later run2 (n + 1) kept2
        (placed_named scope sofar n place (name v e) rest ending kept g v (type_of e) (sofar.ops ++ code.ops ++ write_op (type_of e) n (code.word ∷ []) ∷ []) (at_place code.word) (in_register n) kept2 (n + 1) (numbers (crossing true) same) tt (omega arith) tt g.typed.1 clear_too)
        (subst (Stands_by others_fresh scope2 kept2 run2) its_name.named st))
      where
        clear_too : (y : ℕ × Option ℕ) → Contains ((n, Some its_name.word) ∷ kept) y → (j : ℕ) → n + 1 ≤ j → j < n + 1 + length (registers rest ending) → y.0 ≡ j → ⊥
        clear_too y (zero, lt, i) j le lt2 f = let q : n ≡ y.0 = ap (λ (z : ℕ × Option ℕ). z.0) i in omega (arith, q, f, le)
        clear_too y (suc d, lt, i) j le lt2 f = clear_next scope sofar n place (name v e) rest ending kept g (n + 1) (numbers (crossing true) same) y (d, omega arith, i) j le lt2 f

  pub stages_go : (body : PlainStmts) (ending : Ending) (c : Combines) (scope : Scope) (sofar : Run) (n : ℕ) (kept : List (ℕ × Option ℕ)) (t : core_store.Store) (s after : program_store.Store) (left turns : ℕ) (did : List program_shape.Shape)
      → Placed scope sofar n body ending kept → Stands scope n body ending kept sofar t s → AreStagesFollowed p roomy core body → left ≤ most → run_all p.mems roomy body left s ≡ step.went did turns after
      → Ended scope.vals sofar.values.elsewhere (after_all scope body) ending c (stages p.mems (length p.counters) sofar n body ending c) kept t after did
  unfolding stages inside run_all expressions.word expressions.word_of step.pure step.read counts_in_all
  stages_go no_stmt ending c scope sofar n kept t s after left turns did g stands followed enough goes =
      as_it_went (λ d j u. Ended scope.vals sofar.values.elsewhere scope ending c (last_stages p.mems (length p.counters) sofar n ending c) kept t u d) [] did left turns s after goes
      (record { run = sofar; n = n; kept_end = kept; end = t; standing = stands; placed = g; more = λ x d. d; old = λ v d. refl; onward = λ live runs end l e. (runs, e, refl) })
  stages_go (more_stmt (stmt place (set_reg m e)) rest) ending c scope sofar n kept t s after left turns did g stands followed enough goes =
      let k : PlainStmtKind = set_reg m e in
      let x = parted p.mems roomy place k rest s left did turns after goes in
      let run2 : Run = with_stmt p.mems false None sofar k in
      plain_case scope n place k rest ending c kept sofar t s after left turns did g x enough run2 (n + 0) (stages p.mems (length p.counters) run2 (n + 0) rest ending c) (omega arith) refl g.typed.1
      (reg_stands p core h outer scope (own_mems rest ++ waits) (cells_of_body (n + 0 + 0) rest ending) kept sofar t s stands roomy rooms place x.first_left x.between x.one x.middle (keeps scope k place x.first_left x.between s x.middle x.one g.typed.0 stands.shaped x.first) m e g.typed.0 x.first)
      (λ g2 st2 le e2. stages_go rest ending c scope run2 (n + 0) kept t x.middle after x.between turns x.others g2 st2 followed le e2)
  stages_go (more_stmt (stmt place (set_out m e)) rest) ending c scope sofar n kept t s after left turns did g stands followed enough goes =
      let k : PlainStmtKind = set_out m e in
      let x = parted p.mems roomy place k rest s left did turns after goes in
      let run2 : Run = with_stmt p.mems false None sofar k in
      plain_case scope n place k rest ending c kept sofar t s after left turns did g x enough run2 (n + 0) (stages p.mems (length p.counters) run2 (n + 0) rest ending c) (omega arith) refl g.typed.1
      (out_stands p core h outer scope (own_mems rest ++ waits) (cells_of_body (n + 0 + 0) rest ending) kept sofar t s stands roomy rooms place x.first_left x.between x.one x.middle (keeps scope k place x.first_left x.between s x.middle x.one g.typed.0 stands.shaped x.first) m e g.typed.0 x.first)
      (λ g2 st2 le e2. stages_go rest ending c scope run2 (n + 0) kept t x.middle after x.between turns x.others g2 st2 followed le e2)
  stages_go (more_stmt (stmt place (set_sram m xs e)) rest) ending c scope sofar n kept t s after left turns did g stands followed enough goes =
      let k : PlainStmtKind = set_sram m xs e in
      let x = parted p.mems roomy place k rest s left did turns after goes in
      let run2 : Run = with_stmt p.mems false None sofar k in
      plain_case scope n place k rest ending c kept sofar t s after left turns did g x enough run2 (n + 0) (stages p.mems (length p.counters) run2 (n + 0) rest ending c) (omega arith) refl g.typed.1
      (sram_stands p core h outer scope (own_mems rest ++ waits) (cells_of_body (n + 0 + 0) rest ending) kept sofar t s stands roomy rooms place x.first_left x.between x.one x.middle (keeps scope k place x.first_left x.between s x.middle x.one g.typed.0 stands.shaped x.first) m xs e g.typed.0 x.first)
      (λ g2 st2 le e2. stages_go rest ending c scope run2 (n + 0) kept t x.middle after x.between turns x.others g2 st2 followed le e2)
  stages_go (more_stmt (stmt place (enq m e)) rest) ending c scope sofar n kept t s after left turns did g stands followed enough goes =
      let k : PlainStmtKind = enq m e in
      let x = parted p.mems roomy place k rest s left did turns after goes in
      let run2 : Run = with_stmt p.mems false None sofar k in
      plain_case scope n place k rest ending c kept sofar t s after left turns did g x enough run2 (n + 0) (stages p.mems (length p.counters) run2 (n + 0) rest ending c) (omega arith) refl g.typed.1
      (enq_stands p core h outer scope (own_mems rest ++ waits) (cells_of_body (n + 0 + 0) rest ending) kept sofar t s stands roomy rooms place x.first_left x.between x.one x.middle (keeps scope k place x.first_left x.between s x.middle x.one g.typed.0 stands.shaped x.first) m e g.typed.0 x.first)
      (λ g2 st2 le e2. stages_go rest ending c scope run2 (n + 0) kept t x.middle after x.between turns x.others g2 st2 followed le e2)
  stages_go (more_stmt (stmt place (declare m)) rest) ending c scope sofar n kept t s after left turns did g stands followed enough goes =
      let k : PlainStmtKind = declare m in
      let x = parted p.mems roomy place k rest s left did turns after goes in
      let apart = apart_inside (m ∷ []) rest waits g.apart in
      let st = declare_stands p core h outer scope (own_mems (more_stmt (stmt place k) rest) ++ waits) (cells_of_body (n + 0 + 0) rest ending) kept sofar t s stands roomy m (own_mems rest ++ waits) place x.first_left x.between x.one x.middle (keeps scope k place x.first_left x.between s x.middle x.one g.typed.0 stands.shaped x.first) refl apart.0 resets x.first in
      same_did (λ d. Ended scope.vals sofar.values.elsewhere (after_all (with_mem scope m) rest) ending c (stages p.mems (length p.counters) sofar (n + 0) rest ending c) kept t after d) x.one x.others did st.0 x.all
      (stages_go rest ending c (with_mem scope m) sofar (n + 0) kept t x.middle after x.between turns x.others (placed_declared scope sofar n place k rest ending kept g m refl g.typed.1 (n + 0) (omega arith))
      (renumbered (with_mem scope m) (n + 0 + 0) (n + 0) rest ending kept sofar t x.middle (omega arith) st.1) followed (later_turns scope n place k rest ending c kept sofar t s after left turns did g x enough) x.second)
  stages_go (more_stmt (stmt place (name v (expr at ty (literal w)))) rest) ending c scope sofar n kept t s after left turns did g stands followed enough goes =
      let e : PlainExpr = expr at ty (literal w) in
      let x = parted p.mems roomy place (name v e) rest s left did turns after goes in
      named_bare scope n place v e rest ending c kept sofar t s after left turns did g stands x enough (λ run2 m kept2 g2 st2 le e2. stages_go rest ending c (with_val scope v ty) run2 m kept2 t x.middle after x.between turns x.others g2 st2 followed le e2) (constant w) (constant w) refl (λ y m u went. literal_found w y x.first_left m s u went) tt tt tt
  stages_go (more_stmt (stmt place (name v (expr at ty (counter i)))) rest) ending c scope sofar n kept t s after left turns did g stands followed enough goes =
      let e : PlainExpr = expr at ty (counter i) in
      let x = parted p.mems roomy place (name v e) rest s left did turns after goes in
      named_bare scope n place v e rest ending c kept sofar t s after left turns did g stands x enough (λ run2 m kept2 g2 st2 le e2. stages_go rest ending c (with_val scope v ty) run2 m kept2 t x.middle after x.between turns x.others g2 st2 followed le e2) (count i) (count i) refl (λ y m u went. counter_found i y x.first_left m s u went (stands.goes.agree.counts i g.typed.0.1.0)) tt tt g.typed.0.1.0
  stages_go (more_stmt (stmt place (name v (expr at ty (value y)))) rest) ending c scope sofar n kept t s after left turns did g stands followed enough goes =
      let e : PlainExpr = expr at ty (value y) in
      let x = parted p.mems roomy place (name v e) rest s left did turns after goes in
      named_bare scope n place v e rest ending c kept sofar t s after left turns did g stands x enough (λ run2 m kept2 g2 st2 le e2. stages_go rest ending c (with_val scope v ty) run2 m kept2 t x.middle after x.between turns x.others g2 st2 followed le e2) (sofar.values.here y) (sofar.values.elsewhere y) refl (λ z m u went. value_found scope (own_mems rest ++ waits) (cells_of_body (n + 0 + 0) rest ending) kept sofar t s stands y ty g.typed.0.1 z x.first_left m u went) (g.here_before (y, ty) g.typed.0.1) (g.later_before (y, ty) g.typed.0.1) (g.seen (y, ty) g.typed.0.1)
  stages_go (more_stmt (stmt place (name v (expr at ty k))) rest) ending c scope sofar n kept t s after left turns did g stands followed enough goes =
      let e : PlainExpr = expr at ty k in
      let x = parted p.mems roomy place (name v e) rest s left did turns after goes in
      named_computed scope n place v e rest ending c kept sofar t s after left turns did g stands x enough (λ run2 m kept2 g2 st2 le e2. stages_go rest ending c (with_val scope v ty) run2 m kept2 t x.middle after x.between turns x.others g2 st2 followed le e2) (does_cross v rest ending) refl refl
  stages_go (more_stmt (stmt place k) rest) ending c scope sofar n kept t s after left turns did g stands followed enough goes =
      let x = parted p.mems roomy place k rest s left did turns after goes in
      stage_case scope sofar n place k tt refl rest ending c kept t s after left turns did g followed.0 g.typed.0 g.typed.1 enough x
      (λ run2 m u s2 left2 did2 g2 st2 le e2. stages_go rest ending c scope run2 m kept u s2 after left2 turns did2 g2 st2 followed.1 le e2)
      (beside k rest ending) (same_beside k tt rest ending) refl stands
