-- The memories of a body are made fresh, and wait for their declarations.
use Rattle.std.proofs.Common.{◌≡◌, ℕ, zero, suc, Bool, true, false, ◌&&◌, List, [], ◌∷◌, ◌++◌, Some, refl, sym, ◌∙◌, ap, subst, arith}
use Rattle.std.proofs.lemmas.Bool.{false≢true}
use Rattle.std.specs.Prelude.{map, Contains}
use Rattle.sp_words.specs.Memory.{Contents, fresh_of}
use Rattle.sp_tree.specs.Expressions as expressions
use Rattle.sp_tree.specs.PlainProgram.{PlainProgram}
use Rattle.sp_tree.specs.Store as program_store
use Rattle.sp_core.specs.Declarations.{mem}
use Rattle.sp_core.specs.PlainCore as plain
use Rattle.sp_core.specs.PlainCore.{PlainCore}
use Rattle.sp_core.specs.Scope.{plainly}
use Rattle.sp_core.specs.Sequential.{has_reset, renew, renew_in_body}
use Rattle.sp_core.specs.Step.{Step, went, pure, change, in_order, ◌>>=◌}
use Rattle.sp_core.specs.Store as store
use Rattle.sp_sugar.specs.Agreement.{HasMemories, View, place_of, Finds, IsWaiting, Apart, Agree}
use Rattle.sp_sugar.specs.Numbers.{mem_number}
use Rattle.sp_sugar.specs.Values.{Source, at_place, in_register, constant, count}
use Rattle.sp_sugar.proofs.MemoryLemmas.{changed_here, changed_elsewhere, chip_mem, place_apart}
use Rattle.sp_sugar.proofs.NumberLemmas.{either, number_below, numbers_apart}
use Rattle.sp_sugar.proofs.RunKeeps.{in_front, in_back}
use Rattle.sp_sugar.proofs.StepLemmas.{then_on}
use Rattle.sp_same.specs.Following.{IsOwn}

pub in_either : {X P : Type 0} (xs ys : List X) (x : X) → Contains (xs ++ ys) x → (Contains xs x → P) → (Contains ys x → P) → P
in_either [] ys x c f g = g c
in_either (y ∷ xs) ys x (zero, lt, e) f g = f (0, omega arith, e)
in_either (y ∷ xs) ys x (suc j, lt, e) f g = in_either xs ys x (j, omega arith, e) (λ d. f (suc d.0, omega (arith, d.1), d.2)) g

module _ (p : PlainProgram) (core : PlainCore) (h : HasMemories p core) where
  -- fewer memories wait
  pub waits_fewer : (view : View) (waits : List ℕ) (s : program_store.Store) (t : store.Store) → ((m : ℕ) → Contains waits m → Contains view.waiting m) → Agree p core view [] s t → Agree p core (record view { waiting = waits }) [] s t
  waits_fewer view waits s t f a = record {
    mems = a.mems;
    vals = a.vals;
    counts = a.counts;
    waiting = λ m c. let x = a.waiting m (f m c) in record { exists = x.exists; on_chip = x.on_chip; unseen = x.unseen; holds = x.holds };
    registers = a.registers;
  }

  module _ (view : View) (s : program_store.Store) (m : ℕ) (own : IsOwn p view.scope m) (apart : Contains view.waiting m → ⊥) where
    abbrev n : ℕ
    n = mem_number p.mems m

    abbrev contents : Contents
    contents = fresh_of (expressions.mem p.mems m).kind (expressions.mem p.mems m).dims (expressions.mem p.mems m).start []

    abbrev waiting_too : View
    waiting_too = record view { waiting = m ∷ view.waiting }

    -- where it holds what it is to hold
    also_waits : (t : store.Store) → Agree p core view [] s t → ((view.resets m && has_reset (expressions.mem p.mems m).kind (expressions.mem p.mems m).start) ≡ false → t n ≡ Some contents) → Agree p core waiting_too [] s t
    also_waits t a holds = record { mems = a.mems; vals = a.vals; counts = a.counts; waiting = waits; registers = a.registers }
      where
        waits : (k : ℕ) → Contains (m ∷ view.waiting) k → IsWaiting p core waiting_too t k
        waits k (zero, lt, e) = subst (λ y. IsWaiting p core waiting_too t y) e (record { exists = own.exists; on_chip = own.on_chip; unseen = own.unseen; holds = holds })
        waits k (suc j, lt, e) = let x = a.waiting k (j, omega arith, e) in record { exists = x.exists; on_chip = x.on_chip; unseen = x.unseen; holds = x.holds }

    -- nothing else changes
    module _ (t : store.Store) (a : Agree p core view [] s t) where
      abbrev u : store.Store
      u = store.hold t n contents

      still : (k : ℕ) → (k ≡ n → ⊥) → u k ≡ t k
      still k ne = changed_elsewhere t n k (Some contents) ne

      still_found : (source : Source) (w : ℕ) → Finds p core view.around [] t source w → Finds p core view.around [] u source w
      still_found (at_place k) w f = f
      still_found (in_register r) w f = (f.0, still r (λ e. omega (arith, e, number_below p.mems m own.exists own.on_chip, f.0.after)) ∙ f.1)
      still_found (constant k) w f = f
      still_found (count k) w f = f

      pub agree_renewed : Agree p core waiting_too [] s u
      agree_renewed = also_waits u (record {
        mems = λ k c. ((a.mems k c).0, still (place_of p core k) (λ e. own.unseen (subst (λ y. Contains view.scope.mems y) (place_apart p core h m own.exists own.on_chip k (a.mems k c).0 e) c)) ∙ (a.mems k c).1);
        vals = λ v c. still_found (view.sources v.0) (s.values v.0) (a.vals v c);
        counts = a.counts;
        waiting = λ k c. let x = a.waiting k c in record {
          exists = x.exists;
          on_chip = x.on_chip;
          unseen = x.unseen;
          holds = λ f. still (mem_number p.mems k) (λ e. apart (subst (λ y. Contains view.waiting y) (numbers_apart p.mems k m x.exists own.exists x.on_chip own.on_chip e) c)) ∙ x.holds f;
        };
        registers = λ x c. let f = a.registers x c in (f.0, still x.0 (λ e. omega (arith, e, number_below p.mems m own.exists own.on_chip, f.0.after)) ∙ f.1);
      }) (λ f. changed_here t n n (Some contents) refl)

    -- an owner makes it fresh
    pub renews : (most : ℕ) (t : store.Store) → renew core plainly most n t ≡ went tt (store.hold t n contents)
    unfolding change
    renews most t = ap (λ (x : plain.PlainMem). went tt (store.hold t n (fresh_of x.kind x.dims x.start []))) (chip_mem p core h m own.exists own.on_chip)

    -- an inner body does where no reset operation is to
    pub in_body : (most : ℕ) (t : store.Store) → Agree p core view [] s t → view.resets m ≡ true → (u : store.Store) × (renew_in_body core plainly most n t ≡ went tt u) × Agree p core waiting_too [] s u
    unfolding pure
    in_body most t a resets =
        let has : Bool = has_reset (expressions.mem p.mems m).kind (expressions.mem p.mems m).start in
        let chosen : Bool → Step (Unit {0}) = λ b. elim b as (λ _. Step (Unit {0})) [ true ↦ pure tt | false ↦ renew core plainly most n ] in
        let same : has_reset (mem core n).kind (mem core n).start ≡ has = ap (λ (x : plain.PlainMem). has_reset x.kind x.start) (chip_mem p core h m own.exists own.on_chip) in
        either has
        (λ e. (t, ap (λ b. chosen b t) (same ∙ e), also_waits t a (λ f. absurd (false≢true (sym f ∙ ap (λ b. b && has) resets ∙ e)))))
        (λ e. (store.hold t n contents, ap (λ b. chosen b t) (same ∙ e) ∙ renews most t, agree_renewed t a))

  -- all memories of a body
  module _ (most : ℕ) (one : ℕ → Step (Unit {0})) where
    pub all_renewed : (ms : List ℕ) (view : View) (s : program_store.Store) (t : store.Store)
        → ((waits : List ℕ) (m : ℕ) (t : store.Store) → Contains ms m → IsOwn p view.scope m → (Contains waits m → ⊥) → Agree p core (record view { waiting = waits }) [] s t → (u : store.Store) × (one (mem_number p.mems m) t ≡ went tt u) × Agree p core (record view { waiting = m ∷ waits }) [] s u)
        → ((m : ℕ) → Contains ms m → IsOwn p view.scope m) → Apart (ms ++ view.waiting) → Agree p core view [] s t
        → (al : List (Unit {0})) × (u : store.Store) × (in_order one (map (mem_number p.mems) ms) t ≡ went al u) × Agree p core (record view { waiting = ms ++ view.waiting }) [] s u
    unfolding in_order pure
    all_renewed [] view s t step own apart a = ([], t, refl, a)
    all_renewed (m ∷ ms) view s t step own apart a =
        let first = step view.waiting m t (0, omega arith, refl) (own m (0, omega arith, refl)) (λ c. apart.0 (in_back ms view.waiting m c)) a in
        let next : View = record view { waiting = m ∷ view.waiting } in
        let others = all_renewed ms next s first.0 (λ w k t c. step w k t (suc c.0, omega (arith, c.1), c.2)) (λ k c. own k (suc c.0, omega (arith, c.1), c.2)) (moved_apart ms m view.waiting apart.0 apart.1) first.2 in (
          tt ∷ others.0,
          others.1,
          then_on (one (mem_number p.mems m)) (λ first. ◌>>=◌ (in_order one (map (mem_number p.mems) ms)) (λ others. pure (first ∷ others))) t tt first.0 first.1
              ∙ then_on (in_order one (map (mem_number p.mems) ms)) (λ others. pure (tt ∷ others)) first.0 others.0 others.1 others.2,
          waits_fewer (record view { waiting = ms ++ m ∷ view.waiting }) (m ∷ (ms ++ view.waiting)) s others.1 (moved_in ms m view.waiting) others.3,
        )
      where
        moved_apart : (ms : List ℕ) (m : ℕ) (waits : List ℕ) → (Contains (ms ++ waits) m → ⊥) → Apart (ms ++ waits) → Apart (ms ++ m ∷ waits)
        moved_apart [] m waits ne a = (ne, a)
        moved_apart (k ∷ ms) m waits ne a = (λ c. in_either ms (m ∷ waits) k c (λ d. a.0 (in_front ms waits k d)) (λ d. other d), moved_apart ms m waits (λ c. ne (suc c.0, omega (arith, c.1), c.2)) a.1)
          where
            other : Contains (m ∷ waits) k → ⊥
            other (zero, lt, e) = ne (0, omega arith, sym e)
            other (suc j, lt, e) = a.0 (in_back ms waits k (j, omega arith, e))

        moved_in : (ms : List ℕ) (m : ℕ) (waits : List ℕ) (k : ℕ) → Contains (m ∷ (ms ++ waits)) k → Contains (ms ++ m ∷ waits) k
        moved_in ms m waits k (zero, lt, e) = in_back ms (m ∷ waits) k (0, omega arith, e)
        moved_in ms m waits k (suc j, lt, e) = in_either ms waits k (j, omega arith, e) (λ d. in_front ms (m ∷ waits) k d) (λ d. in_back ms (m ∷ waits) k (suc d.0, omega (arith, d.1), d.2))
