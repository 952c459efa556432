-- What is around inside of a controller, and what may be used there.
use Rattle.std.proofs.Common.{◌≡◌, ℕ, zero, suc, ◌+◌, ◌*◌, ◌<◌, ◌≤◌, Bool, true, ◌||◌, List, [], ◌∷◌, ◌++◌, refl, sym, ◌∙◌, ap, subst, arith, ◌==◌, nat_lt}
use Rattle.std.proofs.lemmas.Bool.{and_parts, and_from, eq-eqb, lt-ltb, or_left, or_right, false≢true, eqb-true}
use Rattle.std.specs.Prelude.{length, map, slice_index_or, Contains}
use Rattle.sp_words.specs.declared.types.Ty.{Ty}
use Rattle.sp_tree.specs.Counts.{lanes_in}
use Rattle.sp_tree.specs.Expressions as expressions
use Rattle.sp_tree.specs.PlainProgram.{PlainProgram, no_mem}
use Rattle.sp_tree.specs.PlainStatement.{PlainCounter, PlainStmts, stmt, declare, no_stmt, more_stmt}
use Rattle.sp_tree.specs.Structure.{own_mems, mems_declared, mems_in, depth}
use Rattle.sp_tree.specs.Typing.{Scope, with_val, with_counters, with_counter, visible, IsFreshVal, BoundsTyped, BodyTyped}
use Rattle.sp_core.specs.Around.{Around, Near, within, lanes_of, is_port_kind, is_usable}
use Rattle.sp_core.specs.Declarations.{mem, is_among}
use Rattle.sp_core.specs.PlainCore as core_tree
use Rattle.sp_core.specs.PlainCore.{PlainCore}
use Rattle.sp_core.specs.Store.{changed}
use Rattle.sp_sugar.specs.Agreement.{HasMemories}
use Rattle.sp_sugar.specs.Early.{is_early, after, counters_of}
use Rattle.sp_sugar.specs.Numbers.{is_off_dram, mem_number}
use Rattle.sp_sugar.specs.Registers.{registers, owned_registers}
use Rattle.sp_sugar.specs.Rules.{IsRegister, IsSource, MayNeed, MayOwn}
use Rattle.sp_sugar.specs.Runs.{Run, no_run}
use Rattle.sp_sugar.specs.Uses.{Ending}
use Rattle.sp_sugar.specs.Values.{Source, at_place, in_register, constant, count, Sources, with_state}
use Rattle.sp_sugar.proofs.ElementKeeps.{outer_lane, loop_lane}
use Rattle.sp_sugar.proofs.MemoryLemmas.{changed_here, changed_elsewhere, chip_exists}
use Rattle.sp_sugar.proofs.NumberLemmas.{either}
use Rattle.sp_sugar.proofs.Placed.{Has, Placed, among_left, among_right}
use Rattle.sp_sugar.proofs.RunKeeps.{RunRight, in_map, in_back, in_middle}
use Rattle.sp_sugar.proofs.UseLemmas.{used, only, later_used}

-- the counters of a program, as they stand in its core
module _ (p : PlainProgram) (sources : Sources) where
  pub counters_numbers : (r : ℕ) (loops : List PlainCounter) → map (λ (c : core_tree.PlainCounter). c.number) (counters_of p.mems sources r loops) ≡ map (λ (c : PlainCounter). c.number) loops
  counters_numbers r [] = refl
  counters_numbers r (c ∷ loops) = ap (λ l. c.number ∷ l) (counters_numbers (after is_early (after is_early r c.from) c.until) loops)

  pub counters_length : (r : ℕ) (loops : List PlainCounter) → length (counters_of p.mems sources r loops) ≡ length loops
  counters_length r [] = refl
  counters_length r (c ∷ loops) = ap suc (counters_length (after is_early (after is_early r c.from) c.until) loops)

  pub counters_lanes : (scope : Scope) (r : ℕ) (loops : List PlainCounter) → BoundsTyped p scope loops → 1 ≤ lanes_of (counters_of p.mems sources r loops)
  counters_lanes scope r [] t = omega arith
  counters_lanes scope r (c ∷ []) t = t.3.0
  counters_lanes scope r (c ∷ d ∷ loops) t = counters_lanes scope (after is_early (after is_early r c.from) c.until) (d ∷ loops) t.4

-- what loops make visible
pub same_mems : (scope : Scope) (loops : List PlainCounter) → (with_counters scope loops).mems ≡ scope.mems
same_mems scope [] = refl
same_mems scope (c ∷ loops) = same_mems (with_counter scope c.number) loops

pub same_vals : (scope : Scope) (loops : List PlainCounter) → (with_counters scope loops).vals ≡ scope.vals
same_vals scope [] = refl
same_vals scope (c ∷ loops) = same_vals (with_counter scope c.number) loops

pub counter_of : {P : Type 0} (scope : Scope) (loops : List PlainCounter) (k : ℕ) → Contains (with_counters scope loops).counters k → (Contains scope.counters k → P) → (Contains (map (λ (c : PlainCounter). c.number) loops) k → P) → P
counter_of scope [] k c f g = f c
counter_of {P = P} scope (x ∷ loops) k c f g = counter_of (with_counter scope x.number) loops k c (λ d. first d) (λ d. g (suc d.0, omega (arith, d.1), d.2))
  where
    first : Contains (x.number ∷ scope.counters) k → P
    first (zero, lt, e) = g (0, omega arith, e)
    first (suc j, lt, e) = f (j, omega arith, e)

near_length : (loops : List core_tree.PlainCounter) (n : ℕ) (rest : List Near) → length (map (λ (c : core_tree.PlainCounter). record { number = c.number; lanes = n }) loops ++ rest) ≡ length loops + length rest
near_length [] n rest = omega arith
near_length (c ∷ loops) n rest = omega (arith, near_length loops n rest)

pub around_length : (around : Around) (loops : List core_tree.PlainCounter) (owned : List ℕ) → length (within around loops owned).counters ≡ length loops + length around.counters
around_length around loops owned = near_length loops (lanes_of loops) around.counters

map_among : (f : ℕ → ℕ) (xs : List ℕ) (m : ℕ) → Contains xs m → is_among (f m) (map f xs) ≡ true
map_among f [] m c = absurd (omega (arith, c.1))
map_among f (x ∷ xs) m (zero, lt, e) = or_left (f m == f x) (is_among (f m) (map f xs)) (eq-eqb (f m) (f x) (ap f (sym e)))
map_among f (x ∷ xs) m (suc j, lt, e) = or_right (f m == f x) (is_among (f m) (map f xs)) (map_among f xs m (j, omega arith, e))

-- the memories that a body declares are declared in it
pub own_declared : (body : PlainStmts) (m : ℕ) → Contains (own_mems body) m → Contains (mems_declared body) m
own_declared no_stmt m c = c
own_declared (more_stmt (stmt place (declare x)) rest) m (zero, lt, e) = (0, omega arith, e)
own_declared (more_stmt (stmt place (declare x)) rest) m (suc j, lt, e) = in_back (x ∷ []) (mems_declared rest) m (own_declared rest m (j, omega arith, e))
own_declared (more_stmt (stmt place k) rest) m c = in_back (mems_in k) (mems_declared rest) m (own_declared rest m c)

module _ (p : PlainProgram) (core : PlainCore) (h : HasMemories p core) where
  -- memories on the chip
  abbrev pub Chips : List ℕ → Type 0
  Chips ms = (m : ℕ) → Contains ms m → (m < length p.mems) × (is_off_dram (expressions.mem p.mems m) ≡ true)

  pub usable_within : (around : Around) (loops : List core_tree.PlainCounter) (owned : List ℕ) (m : ℕ) → is_usable core around m ≡ true → is_usable core (within around loops owned) m ≡ true
  usable_within around loops owned m e =
      let a = and_parts (nat_lt m (length core.mems)) (is_port_kind (mem core m).kind || is_among m around.owned) e in
      and_from _ _ a.0 (either (is_port_kind (mem core m).kind)
      (λ f. or_left (is_port_kind (mem core m).kind) (is_among m (owned ++ around.owned)) f)
      (λ f. or_right (is_port_kind (mem core m).kind) (is_among m (owned ++ around.owned)) (among_right m owned around.owned (ap (λ b. b || is_among m around.owned) (sym f) ∙ a.1))))

  pub register_within : (around : Around) (loops : List core_tree.PlainCounter) (owned : List ℕ) (r : ℕ) (ty : Ty) → IsRegister core around r ty → IsRegister core (within around loops owned) r ty
  register_within around loops owned r ty i = record { usable = usable_within around loops owned r i.usable; is_kind = i.is_kind; is_type = i.is_type }

  source_within : (around : Around) (loops : List core_tree.PlainCounter) (owned : List ℕ) (s : Source) (ty : Ty) → 1 ≤ lanes_of loops → IsSource core around [] ty s → IsSource core (within around loops owned) [] ty s
  source_within around loops owned (at_place k) ty le i = i
  source_within around loops owned (in_register r) ty le i = register_within around loops owned r ty i
  source_within around loops owned (constant w) ty le i = i
  source_within around loops owned (count c) ty le i = (outer_lane around loops owned c le i.0, i.1)

  -- what may be used outside may be used inside of loops
  pub within_need : (around : Around) (scope : Scope) (sources : Sources) (needed more : ℕ → Bool) (loops : List PlainCounter) (written : List core_tree.PlainCounter) (owned : List ℕ) → 1 ≤ lanes_of written
      → map (λ (c : core_tree.PlainCounter). c.number) written ≡ map (λ (c : PlainCounter). c.number) loops → ((v : ℕ) → more v ≡ true → needed v ≡ true) → MayNeed core around p scope sources needed → MayNeed core (within around written owned) p (with_counters scope loops) sources more
  within_need around scope sources needed more loops written owned le same f g = record {
    mems = λ m c off. let x = g.mems m (subst (λ l. Contains l m) (same_mems scope loops) c) off in (x.0, usable_within around written owned (mem_number p.mems m) x.1);
    vals = λ v c u. source_within around written owned (sources v.0) v.1 le (g.vals v (subst (λ l. Contains l v) (same_vals scope loops) c) (f v.0 u));
    counters = λ k c. counter_of scope loops k c (λ d. outer_lane around written owned k le (g.counters k d)) (λ d. loop_lane around written owned k le (subst (λ l. Contains l k) (sym same) d));
  }

  -- and its own memories
  pub own_within : (around : Around) (loops : List core_tree.PlainCounter) (more : List ℕ) (body : PlainStmts) → Chips (mems_declared body) → (m : ℕ) → Contains (own_mems body) m → MayOwn core (within around loops (map (mem_number p.mems) (own_mems body) ++ more)) p m
  own_within around loops more body chips m c =
      let x = chips m (own_declared body m c) in
      let own : List ℕ = map (mem_number p.mems) (own_mems body) in
      record {
        exists = x.0;
        on_chip = x.1;
        usable = and_from _ _ (lt-ltb (mem_number p.mems m) (length core.mems) (chip_exists p core h m x.0 x.1)) (or_right (is_port_kind (mem core (mem_number p.mems m)).kind) (is_among (mem_number p.mems m) ((own ++ more) ++ around.owned))
            (among_left (mem_number p.mems m) (own ++ more) around.owned (among_left (mem_number p.mems m) own more (map_among (mem_number p.mems) (own_mems body) m c))));
      }

  pub start_right : (around : Around) (scope : Scope) (sources : Sources) (body : PlainStmts) (ending : Ending) → MayNeed core around p scope sources (λ v. used (only v) body ending) → ((m : ℕ) → Contains (own_mems body) m → MayOwn core around p m)
      → RunRight p core h around scope (no_run sources) body ending
  start_right around scope sources body ending g own = record {
    right = refl;
    mems = g.mems;
    counters = g.counters;
    here = λ v c u. g.vals v c u;
    later = λ v c u. g.vals v c (later_used body ending (only v.0) u);
    waiting = own;
  }

  -- what holds at a place among the stages of a body
  pub record Going (around : Around) (scope : Scope) (run : Run) (n : ℕ) (rest : PlainStmts) (ending : Ending) (lanes : ℕ) : Type 0 where
    pub run_right : RunRight p core h around scope run rest ending
    pub typed : BodyTyped p scope rest
    pub placed : Placed core n (registers rest ending)
    pub has : Has around (owned_registers n rest ending)
    pub chips : Chips (mems_declared rest)
    pub deep : length around.counters + 4 * depth rest ≤ 260
    pub wide : lanes_in rest lanes ≤ 16
    pub some : 1 ≤ lanes

  -- a value of a fresh name is none of those that are visible
  pub fresh_apart : (scope : Scope) (w : ℕ) → IsFreshVal p scope w → (u : ℕ × Ty) → Contains scope.vals u → u.0 ≡ w → ⊥
  fresh_apart scope w fresh u c e = fresh (subst (λ x. Contains (visible p scope) (slice_index_or p.vals x [])) e
      (in_middle (map (λ m. (slice_index_or p.mems m no_mem).name) scope.mems) (map (λ (v : ℕ × Ty). slice_index_or p.vals v.0 []) scope.vals) (map (λ c. slice_index_or p.counters c []) scope.counters) (slice_index_or p.vals u.0 [])
      (in_map (λ (v : ℕ × Ty). slice_index_or p.vals v.0 []) scope.vals u c)))

  module _ (around : Around) (scope : Scope) (sources : Sources) (n tested state last : ℕ) (ty : Ty) (ft : IsFreshVal p scope tested) (fs : IsFreshVal p scope state) (fl : IsFreshVal p scope last) where
    abbrev kept : Sources
    kept = with_state sources tested state last n

    abbrev inner_kept : Sources
    inner_kept = changed (changed sources tested (in_register n)) state (in_register n)

    pub last_kept : kept last ≡ in_register n
    last_kept = changed_here inner_kept last last (in_register n) refl

    pub state_kept : kept state ≡ in_register n
    state_kept = either (state == last)
        (λ e. changed_here inner_kept last state (in_register n) (eqb-true state last e))
        (λ e. changed_elsewhere inner_kept last state (in_register n) (λ f. false≢true (sym e ∙ eq-eqb state last f)) ∙ changed_here (changed sources tested (in_register n)) state state (in_register n) refl)

    pub tested_kept : kept tested ≡ in_register n
    tested_kept = either (tested == last)
        (λ e. changed_here inner_kept last tested (in_register n) (eqb-true tested last e))
        (λ e. changed_elsewhere inner_kept last tested (in_register n) (λ f. false≢true (sym e ∙ eq-eqb tested last f)) ∙ either (tested == state)
        (λ d. changed_here (changed sources tested (in_register n)) state tested (in_register n) (eqb-true tested state d))
        (λ d. changed_elsewhere (changed sources tested (in_register n)) state tested (in_register n) (λ f. false≢true (sym d ∙ eq-eqb tested state f)) ∙ changed_here sources tested tested (in_register n) refl))

    others_kept : (u : ℕ × Ty) → Contains scope.vals u → kept u.0 ≡ sources u.0
    others_kept u c =
        changed_elsewhere inner_kept last u.0 (in_register n) (fresh_apart scope last fl u c)
        ∙ changed_elsewhere (changed sources tested (in_register n)) state u.0 (in_register n) (fresh_apart scope state fs u c)
        ∙ changed_elsewhere sources tested u.0 (in_register n) (fresh_apart scope tested ft u c)

    -- inside of an FSM
    pub state_need : (w : ℕ) (needed more : ℕ → Bool) → kept w ≡ in_register n → IsRegister core (within around [] (n ∷ [])) n ty → ((v : ℕ) → more v ≡ true → needed v ≡ true) → MayNeed core around p scope sources needed
        → MayNeed core (within around [] (n ∷ [])) p (with_val scope w ty) kept more
    state_need w needed more kw i f g = record {
      mems = λ m c off. let x = g.mems m c off in (x.0, usable_within around [] (n ∷ []) (mem_number p.mems m) x.1);
      vals = λ v c u. value v c u;
      counters = λ k c. outer_lane around [] (n ∷ []) k (omega arith) (g.counters k c);
    }
      where
        value : (v : ℕ × Ty) → Contains ((w, ty) ∷ scope.vals) v → more v.0 ≡ true → IsSource core (within around [] (n ∷ [])) [] v.1 (kept v.0)
        value v (zero, lt, e) u = subst (λ (x : ℕ × Ty). IsSource core (within around [] (n ∷ [])) [] x.1 (kept x.0)) e (subst (λ s. IsSource core (within around [] (n ∷ [])) [] ty s) (sym kw) i)
        value v (suc j, lt, e) u = subst (λ s. IsSource core (within around [] (n ∷ [])) [] v.1 s) (sym (others_kept v (j, omega arith, e))) (source_within around [] (n ∷ []) (sources v.0) v.1 (omega arith) (g.vals v (j, omega arith, e) (f v.0 u)))
