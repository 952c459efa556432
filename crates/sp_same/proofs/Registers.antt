-- A register that the compiler added takes a word, and what agreed still does.
use Rattle.std.proofs.Common.{◌≡◌, ℕ, zero, suc, List, [], ◌∷◌, Option, Some, refl, sym, ◌∙◌, ap, subst, arith}
use Rattle.std.specs.Prelude.{Contains}
use Rattle.sp_words.specs.declared.types.Ty.{Ty}
use Rattle.sp_words.specs.Memory.{cells}
use Rattle.sp_tree.specs.PlainProgram.{PlainProgram}
use Rattle.sp_tree.specs.Store as program_store
use Rattle.sp_tree.specs.Typing.{IsFreshVal, with_val}
use Rattle.sp_core.specs.History.{Entry}
use Rattle.sp_core.specs.PlainCore.{PlainCore}
use Rattle.sp_core.specs.Store as store
use Rattle.sp_sugar.specs.Agreement.{HasMemories, View, IsAdded, Finds, IsWaiting, Agree}
use Rattle.sp_sugar.specs.Numbers.{mem_number}
use Rattle.sp_sugar.specs.Values.{Source, at_place, in_register, constant, count, Sources}
use Rattle.sp_sugar.proofs.Entering.{fresh_apart}
use Rattle.sp_sugar.proofs.MemoryLemmas.{changed_here, changed_elsewhere}
use Rattle.sp_sugar.proofs.NumberLemmas.{number_below}
use Rattle.sp_same.specs.Following.{SourceBefore, AreSpare}
use Rattle.sp_same.proofs.Places.{register_apart}

module _ (p : PlainProgram) (core : PlainCore) (h : HasMemories p core) (view : View) where
  -- a register holds this in its cell
  abbrev pub Keeps_cell : store.Store → ℕ × Option ℕ → Type 0
  Keeps_cell t x = IsAdded p core x.0 × (t x.0 ≡ Some (cells (x.1 ∷ [])))

  -- a register after all that are kept
  module _ (done : List Entry) (s : program_store.Store) (t : store.Store) (n : ℕ) (o : Option ℕ) (added : IsAdded p core n) (before : AreSpare n (suc n) view) (a : Agree p core view done s t) where
    abbrev held : store.Store
    held = store.hold t n (cells (o ∷ []))

    still_found : (source : Source) (x : ℕ) → SourceBefore n source → Finds p core view.around done t source x → Finds p core view.around done held source x
    still_found (at_place k) x b f = f
    still_found (in_register r) x b f = (f.0, changed_elsewhere t n r (Some (cells (o ∷ []))) (λ e. omega (arith, e, b)) ∙ f.1)
    still_found (constant k) x b f = f
    still_found (count k) x b f = f

    still_waits : (m : ℕ) → IsWaiting p core view t m → IsWaiting p core view held m
    still_waits m x = record {
      exists = x.exists;
      on_chip = x.on_chip;
      unseen = x.unseen;
      holds = λ f. changed_elsewhere t n (mem_number p.mems m) (Some (cells (o ∷ []))) (λ e. omega (arith, e, number_below p.mems m x.exists x.on_chip, added.after)) ∙ x.holds f;
    }

    pub agree_cell : Agree p core view done s held
    agree_cell = record {
      mems = λ m c. ((a.mems m c).0, changed_elsewhere t n _ (Some (cells (o ∷ []))) (λ e. register_apart p core h n m added (a.mems m c).0 (sym e)) ∙ (a.mems m c).1);
      vals = λ v c. still_found (view.sources v.0) (s.values v.0) (before.0 v c) (a.vals v c);
      counts = a.counts;
      waiting = λ m c. still_waits m (a.waiting m c);
      registers = λ x c. let f = a.registers x c in (f.0, changed_elsewhere t n x.0 (Some (cells (o ∷ []))) (λ e. before.1 x c n (omega arith) (omega arith) e) ∙ f.1);
    }

  pub agree_written : (done : List Entry) (s : program_store.Store) (t : store.Store) (n w : ℕ) → IsAdded p core n → AreSpare n (suc n) view → Agree p core view done s t → Agree p core view done s (store.hold t n (cells (Some w ∷ [])))
  agree_written done s t n w = agree_cell done s t n (Some w)

  -- a value of a fresh name takes a word
  module _ (s : program_store.Store) (t : store.Store) (v w : ℕ) (fresh : IsFreshVal p view.scope v) (a : Agree p core view [] s t) where
    kept_value : (u : ℕ × Ty) → Contains view.scope.vals u → (program_store.name_value s v w).values u.0 ≡ s.values u.0
    kept_value u c = changed_elsewhere s.values v u.0 w (fresh_apart p core h view.scope v fresh u c)

    pub agree_besides : Agree p core view [] (program_store.name_value s v w) t
    agree_besides = record {
      mems = a.mems;
      vals = λ u c. subst (λ x. Finds p core view.around [] t (view.sources u.0) x) (sym (kept_value u c)) (a.vals u c);
      counts = a.counts;
      waiting = a.waiting;
      registers = a.registers;
    }

    -- and is found from then on
    pub agree_bound : (ty : Ty) (sources : Sources) → ((u : ℕ × Ty) → Contains view.scope.vals u → sources u.0 ≡ view.sources u.0) → Finds p core view.around [] t (sources v) w
        → Agree p core (record view { scope = with_val view.scope v ty; sources = sources }) [] (program_store.name_value s v w) t
    agree_bound ty sources same f = record {
      mems = a.mems;
      vals = found;
      counts = a.counts;
      waiting = λ m c. let x = a.waiting m c in record { exists = x.exists; on_chip = x.on_chip; unseen = x.unseen; holds = x.holds };
      registers = a.registers;
    }
      where
        found : (u : ℕ × Ty) → Contains ((v, ty) ∷ view.scope.vals) u → Finds p core view.around [] t (sources u.0) ((program_store.name_value s v w).values u.0)
        found u (zero, lt, e) =
            let same_number : u.0 ≡ v = ap (λ (x : ℕ × Ty). x.0) (sym e) in
            subst (λ k. Finds p core view.around [] t (sources k) ((program_store.name_value s v w).values k)) (sym same_number)
            (subst (λ x. Finds p core view.around [] t (sources v) x) (sym (changed_here s.values v v w refl)) f)
        found u (suc j, lt, e) =
            let seen : Contains view.scope.vals u = (j, omega arith, e) in
            subst (λ x. Finds p core view.around [] t x ((program_store.name_value s v w).values u.0)) (sym (same u seen))
            (subst (λ x. Finds p core view.around [] t (view.sources u.0) x) (sym (kept_value u seen)) (a.vals u seen))

  -- what is visible outside, and a register that is kept inside
  pub agree_outside : (s : program_store.Store) (t : store.Store) (v : ℕ) (ty : Ty) (sources : Sources) (x : ℕ × Option ℕ) → ((u : ℕ × Ty) → Contains view.scope.vals u → sources u.0 ≡ view.sources u.0)
      → Agree p core (record view { scope = with_val view.scope v ty; sources = sources; registers = x ∷ view.registers }) [] s t → Agree p core view [] s t × Keeps_cell t x
  agree_outside s t v ty sources x same a = (
    record {
      mems = a.mems;
      vals = λ u c. subst (λ y. Finds p core view.around [] t y (s.values u.0)) (same u c) (a.vals u (suc c.0, omega (arith, c.1), c.2));
      counts = a.counts;
      waiting = λ m c. let y = a.waiting m c in record { exists = y.exists; on_chip = y.on_chip; unseen = y.unseen; holds = y.holds };
      registers = λ y c. a.registers y (suc c.0, omega (arith, c.1), c.2);
    },
    a.registers x (0, omega arith, refl),
  )

  -- a register that holds a word is kept from now on
  pub agree_kept : (s : program_store.Store) (t : store.Store) (x : ℕ × Option ℕ) → Keeps_cell t x → Agree p core view [] s t → Agree p core (record view { registers = x ∷ view.registers }) [] s t
  agree_kept s t x f a = record {
    mems = a.mems;
    vals = a.vals;
    counts = a.counts;
    waiting = λ m c. let y = a.waiting m c in record { exists = y.exists; on_chip = y.on_chip; unseen = y.unseen; holds = y.holds };
    registers = kept;
  }
    where
      kept : (y : ℕ × Option ℕ) → Contains (x ∷ view.registers) y → Keeps_cell t y
      kept y (zero, lt, e) = subst (λ (z : ℕ × Option ℕ). Keeps_cell t z) e f
      kept y (suc j, lt, e) = a.registers y (j, omega arith, e)
