-- The beginning and the end of a body with stages.
use Rattle.std.proofs.Common.{◌≡◌, ℕ, zero, suc, ◌+◌, ◌<◌, false, List, [], ◌∷◌, ◌++◌, Option, Some, refl, ◌∙◌, ap, subst, arith}
use Rattle.std.specs.Prelude.{ℤ, length, map, Contains}
use Rattle.sp_words.specs.declared.kind.Style.{Style}
use Rattle.sp_words.specs.declared.types.Ty.{Ty}
use Rattle.sp_words.specs.Memory.{cells}
use Rattle.sp_tree.specs.PlainProgram.{PlainProgram}
use Rattle.sp_tree.specs.PlainStatement.{PlainStmts}
use Rattle.sp_tree.specs.Store as program_store
use Rattle.sp_tree.specs.Structure.{own_mems, mems_declared}
use Rattle.sp_tree.specs.Typing.{BodyTyped}
use Rattle.sp_core.specs.History.{Runs, outer_ran, groups_of}
use Rattle.sp_core.specs.PlainCore.{PlainStages, PlainCore, outer}
use Rattle.sp_core.specs.Scope as counters
use Rattle.sp_core.specs.Scope.{plainly, loops_of, counts_of, group_values, is_live, in_group}
use Rattle.sp_core.specs.Sequential.{renew, end_of_group, bounds, run, run_stages}
use Rattle.sp_core.specs.Step.{Step, went, pure, in_order, ◌>>=◌, ◌>>◌}
use Rattle.sp_core.specs.Store as store
use Rattle.sp_sugar.specs.Agreement.{HasMemories, View, IsAdded, Finds, Apart, Agree}
use Rattle.sp_sugar.specs.Numbers.{mem_number}
use Rattle.sp_sugar.specs.Registers.{registers, owned_registers}
use Rattle.sp_sugar.specs.Runs.{no_run}
use Rattle.sp_sugar.specs.Uses.{Ending}
use Rattle.sp_sugar.specs.Values.{Source, at_place, in_register, constant, count, Sources}
use Rattle.sp_sugar.proofs.Entering.{own_declared}
use Rattle.sp_sugar.proofs.GoOnLemmas.{at_rest}
use Rattle.sp_sugar.proofs.RunKeeps.{in_front, in_back}
use Rattle.sp_sugar.proofs.StepLemmas.{then_on}
use Rattle.sp_same.specs.Contents.{HoldRightly}
use Rattle.sp_same.specs.Following.{SourceBefore, SourcesSeen, AreSpare, IsOwn}
use Rattle.sp_same.proofs.Groups.{outer_group, single_goes}
use Rattle.sp_same.proofs.Renewed.{in_either, all_renewed, agree_renewed, renews}
use Rattle.sp_bodies.specs.Bodies.{HaveRoomsAlike, AreDeclared}
use Rattle.sp_bodies.proofs.Fresh.{orders_append, body_renewed, are_all}
use Rattle.sp_bodies.proofs.Known.{Known, known_here, known_more}
use Rattle.sp_bodies.proofs.Owned.{cells_of_body, apart_own}
use Rattle.sp_bodies.proofs.StagesGo.{Placed}
use Rattle.sp_bodies.proofs.Statements.{view_at, Standing}

-- a loop that is done once
pub outer_alone : (core : PlainCore) (most : ℕ) (style : Style) (owned : List ℕ) (stages : PlainStages) (scope : counters.Scope) (runs : Runs) (t u : store.Store) → outer_group core most style owned stages (is_live [] []) scope t ≡ went runs u → run core plainly most (outer [] style owned stages) scope t ≡ went (outer_ran [] [] (groups_of (runs ∷ []))) u
unfolding run in_order pure
outer_alone core most style owned stages scope runs t u e =
    let group : List ℤ → Step Runs = λ values. in_order (renew core plainly most) owned >> (run_stages core plainly most stages (is_live [] values) (in_group scope [] values) >>= (λ runs. end_of_group core plainly most style owned >> pure runs)) in
    then_on (in_order (bounds core plainly most scope) []) (λ bs. ◌>>=◌ (in_order (λ values. in_order (renew core plainly most) owned >> (run_stages core plainly most stages (is_live (loops_of plainly [] bs) values) (in_group scope (loops_of plainly [] bs) values) >>= (λ runs. end_of_group core plainly most style owned >> pure runs))) (group_values (loops_of plainly [] bs))) (λ groups. pure (outer_ran bs (counts_of (loops_of plainly [] bs)) (groups_of groups)))) t [] t refl
    ∙ then_on (in_order group ([] ∷ [])) (λ groups. pure (outer_ran [] [] (groups_of groups))) t (runs ∷ []) u (single_goes group [] runs t u e)

-- the cells of the registers in which values stand
abbrev pub cell_of : Source → (word : ℕ) → List (ℕ × Option ℕ)
cell_of (in_register r) w = (r, Some w) ∷ []
cell_of _ w = []

abbrev pub held_by : Sources → program_store.Store → List (ℕ × Ty) → List (ℕ × Option ℕ)
held_by sources s [] = []
held_by sources s (v ∷ vals) = cell_of (sources v.0) (s.values v.0) ++ held_by sources s vals

module _ (p : PlainProgram) (core : PlainCore) (around : counters.Scope) (sources : Sources) (s : program_store.Store) (t : store.Store) where
  abbrev Holds : ℕ × Option ℕ → Type 0
  Holds x = IsAdded p core x.0 × (t x.0 ≡ Some (cells (x.1 ∷ [])))

  cell_holds : (source : Source) (w : ℕ) → Finds p core around [] t source w → (x : ℕ × Option ℕ) → Contains (cell_of source w) x → Holds x
  cell_holds (at_place k) w f x c = absurd (omega (arith, c.1))
  cell_holds (in_register r) w f x (zero, lt, e) = subst Holds e f
  cell_holds (in_register r) w f x (suc j, lt, e) = absurd (omega (arith, lt))
  cell_holds (constant k) w f x c = absurd (omega (arith, c.1))
  cell_holds (count k) w f x c = absurd (omega (arith, c.1))

  pub held_holds : (vals : List (ℕ × Ty)) → ((v : ℕ × Ty) → Contains vals v → Finds p core around [] t (sources v.0) (s.values v.0)) → (x : ℕ × Option ℕ) → Contains (held_by sources s vals) x → Holds x
  held_holds [] f x c = absurd (omega (arith, c.1))
  held_holds (v ∷ vals) f x c = in_either (cell_of (sources v.0) (s.values v.0)) (held_by sources s vals) x c
      (λ d. cell_holds (sources v.0) (s.values v.0) (f v (0, omega arith, refl)) x d) (λ d. held_holds vals (λ u i. f u (suc i.0, omega (arith, i.1), i.2)) x d)

  cell_before : (n : ℕ) (source : Source) (w : ℕ) → SourceBefore n source → (x : ℕ × Option ℕ) → Contains (cell_of source w) x → x.0 < n
  cell_before n (at_place k) w b x c = absurd (omega (arith, c.1))
  cell_before n (in_register r) w b x (zero, lt, e) = let q : r ≡ x.0 = ap (λ (y : ℕ × Option ℕ). y.0) e in omega (arith, q, b)
  cell_before n (in_register r) w b x (suc j, lt, e) = absurd (omega (arith, lt))
  cell_before n (constant k) w b x c = absurd (omega (arith, c.1))
  cell_before n (count k) w b x c = absurd (omega (arith, c.1))

  pub held_before : (n : ℕ) (vals : List (ℕ × Ty)) → ((v : ℕ × Ty) → Contains vals v → SourceBefore n (sources v.0)) → (x : ℕ × Option ℕ) → Contains (held_by sources s vals) x → x.0 < n
  held_before n [] f x c = absurd (omega (arith, c.1))
  held_before n (v ∷ vals) f x c = in_either (cell_of (sources v.0) (s.values v.0)) (held_by sources s vals) x c
      (λ d. cell_before n (sources v.0) (s.values v.0) (f v (0, omega arith, refl)) x d) (λ d. held_before n vals (λ u i. f u (suc i.0, omega (arith, i.1), i.2)) x d)

  cell_known : (source : Source) (w : ℕ) → Finds p core around [] t source w → Known around (cell_of source w) source w
  cell_known (at_place k) w f = omega (arith, f.0)
  cell_known (in_register r) w f = (0, omega arith, refl)
  cell_known (constant k) w f = f
  cell_known (count k) w f = f

  pub held_known : (vals : List (ℕ × Ty)) → ((v : ℕ × Ty) → Contains vals v → Finds p core around [] t (sources v.0) (s.values v.0)) → (v : ℕ × Ty) → Contains vals v → Known around (held_by sources s vals) (sources v.0) (s.values v.0)
  held_known [] f v c = absurd (omega (arith, c.1))
  held_known (u ∷ vals) f v (zero, lt, e) = subst (λ (y : ℕ × Ty). Known around (held_by sources s (u ∷ vals)) (sources y.0) (s.values y.0)) e
      (known_more around (cell_of (sources u.0) (s.values u.0)) (held_by sources s (u ∷ vals)) (sources u.0) (s.values u.0) (λ x d. in_front (cell_of (sources u.0) (s.values u.0)) (held_by sources s vals) x d) (cell_known (sources u.0) (s.values u.0) (f u (0, omega arith, refl))))
  held_known (u ∷ vals) f v (suc j, lt, e) = known_more around (held_by sources s vals) (held_by sources s (u ∷ vals)) (sources v.0) (s.values v.0) (λ x d. in_back (cell_of (sources u.0) (s.values u.0)) (held_by sources s vals) x d)
      (held_known vals (λ y i. f y (suc i.0, omega (arith, i.1), i.2)) v (j, omega arith, e))

module _ (p : PlainProgram) (core : PlainCore) (h : HasMemories p core) (roomy : List ℕ) (rooms : HaveRoomsAlike p roomy core) (most : ℕ) (view : View) (body : PlainStmts) (ending : Ending) (n : ℕ)
    (typed : BodyTyped p view.scope body) (seen : SourcesSeen view.scope view.sources) (spare : AreSpare n (n + length (registers body ending)) view) (declared : AreDeclared p core n (registers body ending))
    (own : (m : ℕ) → Contains (mems_declared body) m → IsOwn p view.scope m) (apart : Apart (mems_declared body ++ view.waiting)) (resets : (m : ℕ) → view.resets m ≡ false)
    (s : program_store.Store) (t : store.Store) (right : HoldRightly p view.scope.mems s) (a : Agree p core view [] s t) where
  abbrev pub its_owned : List ℕ
  its_owned = map (mem_number p.mems) (own_mems body) ++ owned_registers n body ending

  abbrev pub fresh : List (ℕ × Option ℕ)
  fresh = cells_of_body n body ending

  abbrev pub kept : List (ℕ × Option ℕ)
  kept = held_by view.sources s view.scope.vals ++ view.registers

  abbrev pub waiting_view : View
  waiting_view = record view { waiting = own_mems body ++ view.waiting }

  -- its memories and registers are made fresh
  pub mems_renewed : (al : List (Unit {0})) × (u : store.Store) × (in_order (renew core plainly most) (map (mem_number p.mems) (own_mems body)) t ≡ went al u) × Agree p core waiting_view [] s u
  mems_renewed = all_renewed p core h most (renew core plainly most) (own_mems body) view s t
      (λ w m t c o ne b. (store.hold t (mem_number p.mems m) _, renews p core h (record view { waiting = w }) s m o ne most t, agree_renewed p core h (record view { waiting = w }) s m o ne t b))
      (λ m c. own m (own_declared body m c)) (apart_own body view.waiting apart) a

  pub all_fresh : (al : List (Unit {0})) × (u : store.Store) × (in_order (renew core plainly most) (owned_registers n body ending) mems_renewed.1 ≡ went al u) × Agree p core (record waiting_view { registers = fresh ++ view.registers }) [] s u
  all_fresh = body_renewed p core h most body ending n waiting_view s mems_renewed.1 declared (λ j lt. are_all p core h most body ending j) spare mems_renewed.3

  abbrev pub start : store.Store
  start = all_fresh.1

  pub renewed : in_order (renew core plainly most) its_owned t ≡ went (mems_renewed.0 ++ all_fresh.0) start
  renewed = orders_append (renew core plainly most) (map (mem_number p.mems) (own_mems body)) (owned_registers n body ending) mems_renewed.0 all_fresh.0 t mems_renewed.1 start mems_renewed.2 all_fresh.2

  agree_start : Agree p core (record (view_at p core h view view.scope (own_mems body ++ view.waiting) (fresh ++ kept)) { sources = view.sources }) [] s start
  agree_start = record {
    mems = all_fresh.3.mems;
    vals = all_fresh.3.vals;
    counts = all_fresh.3.counts;
    waiting = λ m c. let x = all_fresh.3.waiting m c in record { exists = x.exists; on_chip = x.on_chip; unseen = x.unseen; holds = x.holds };
    registers = λ x c. in_either fresh kept x c (λ d. all_fresh.3.registers x (in_front fresh view.registers x d))
        (λ d. in_either (held_by view.sources s view.scope.vals) view.registers x d (λ e. held_holds p core view.around view.sources s start view.scope.vals all_fresh.3.vals x e) (λ e. all_fresh.3.registers x (in_back fresh view.registers x e)));
  }

  known_start : (v : ℕ × Ty) → Contains view.scope.vals v → Known view.around kept (view.sources v.0) (s.values v.0)
  known_start v c = known_more view.around (held_by view.sources s view.scope.vals) kept (view.sources v.0) (s.values v.0) (λ x d. in_front (held_by view.sources s view.scope.vals) view.registers x d)
      (held_known p core view.around view.sources s start view.scope.vals all_fresh.3.vals v c)

  pub standing_start : Standing p core h view view.scope (own_mems body ++ view.waiting) fresh kept (no_run view.sources) start s
  standing_start = record {
    goes = at_rest p core (record (view_at p core h view view.scope (own_mems body ++ view.waiting) (fresh ++ kept)) { sources = view.sources }) [] s start agree_start;
    here = λ v c. known_here view.around kept (view.sources v.0) (s.values v.0) (known_start v c);
    later = known_start;
    shaped = right;
  }

  pub placed_start : Placed p core h roomy rooms view resets most view.waiting view.scope (no_run view.sources) n body ending kept
  placed_start = record {
    typed = typed;
    here_before = λ v c. spare.0 v c;
    later_before = λ v c. spare.0 v c;
    seen = seen;
    clear = λ x c j le lt e. in_either (held_by view.sources s view.scope.vals) view.registers x c
        (λ d. let y = held_before p core view.around view.sources s start n view.scope.vals spare.0 x d in omega (arith, y, e, le)) (λ d. spare.1 x d j le lt e);
    added = declared;
    own = own;
    apart = apart;
  }
