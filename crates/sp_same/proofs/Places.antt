-- Where the memories of a program stand in its core, its DRAMs among them, and what a change at one place leaves.
use Rattle.std.proofs.Common.{◌≡◌, ℕ, zero, suc, ◌+◌, ◌-◌, ◌<◌, Bool, true, false, not, cond, List, [], ◌∷◌, Some, refl, sym, ◌∙◌, ap, subst, arith, ◌==◌, if◌then◌else◌}
use Rattle.std.proofs.lemmas.Bool.{eqb-true, eqb-false, le-ltb}
use Rattle.std.proofs.lemmas.List.Sums.{sum_by-cons}
use Rattle.std.specs.Prelude.{length, take, slice_index_or, Contains}
use Rattle.sp_words.specs.declared.kind.Kind.TheVariants.{Dram}
use Rattle.sp_words.specs.Memory.{Contents}
use Rattle.sp_words.specs.Ports.{PlainPort, PlainPorts}
use Rattle.sp_tree.specs.Expressions as expressions
use Rattle.sp_tree.specs.Invariant.{ports_of}
use Rattle.sp_tree.specs.Meaning.{is_dram}
use Rattle.sp_tree.specs.PlainProgram.{PlainMem, PlainProgram, no_mem}
use Rattle.sp_tree.specs.Store as program_store
use Rattle.sp_core.specs.Declarations.{mem, dram, kind_of, dims, dram_number as dram_place}
use Rattle.sp_core.specs.History.{Entry}
use Rattle.sp_core.specs.PlainCore as plain
use Rattle.sp_core.specs.PlainCore.{PlainCore}
use Rattle.sp_core.specs.Store as store
use Rattle.sp_sugar.specs.Agreement.{HasMemories, View, place_of, IsAdded, Finds, IsWaiting, Agree}
use Rattle.sp_sugar.specs.Numbers.{is_on_dram, mem_number, dram_number}
use Rattle.sp_sugar.specs.Values.{Source, at_place, in_register, constant, count}
use Rattle.sp_sugar.proofs.MemoryLemmas.{changed_here, changed_elsewhere, chip_exists, chip_place, place_apart}
use Rattle.sp_sugar.proofs.NodeParts.{dram_at}
use Rattle.sp_sugar.proofs.NumberLemmas.{either, number_below}

dram_cons : (x : PlainMem) (xs : List PlainMem) (m : ℕ) → dram_number (x ∷ xs) (suc m) ≡ cond (is_on_dram x) 1 0 + dram_number xs m
dram_cons x xs m = sum_by-cons (λ y. cond (is_on_dram y) 1 0) x (take m xs)

pub dram_kept : (x : PlainMem) (xs : List PlainMem) (m : ℕ) → is_on_dram x ≡ true → dram_number (x ∷ xs) (suc m) ≡ suc (dram_number xs m)
dram_kept x xs m e = dram_cons x xs m ∙ ap (λ b. cond b 1 0 + dram_number xs m) e ∙ omega arith

pub dram_skipped : (x : PlainMem) (xs : List PlainMem) (m : ℕ) → is_on_dram x ≡ false → dram_number (x ∷ xs) (suc m) ≡ dram_number xs m
dram_skipped x xs m e = dram_cons x xs m ∙ ap (λ b. cond b 1 0 + dram_number xs m) e ∙ omega arith

-- no two DRAMs have one number
drams_apart : (mems : List PlainMem) (m n : ℕ) → m < length mems → n < length mems → is_on_dram (slice_index_or mems m no_mem) ≡ true → is_on_dram (slice_index_or mems n no_mem) ≡ true
    → dram_number mems m ≡ dram_number mems n → m ≡ n
drams_apart [] m n lt lt2 h k e = absurd (omega arith)
drams_apart (x ∷ xs) zero zero lt lt2 h k e = refl
drams_apart (x ∷ xs) zero (suc n) lt lt2 h k e = absurd (omega (arith, e, dram_kept x xs n h))
drams_apart (x ∷ xs) (suc m) zero lt lt2 h k e = absurd (omega (arith, e, dram_kept x xs m k))
drams_apart (x ∷ xs) (suc m) (suc n) lt lt2 h k e = either (is_on_dram x)
    (λ f. ap suc (drams_apart xs m n (omega arith) (omega arith) h k (omega (arith, e, dram_kept x xs m f, dram_kept x xs n f))))
    (λ f. ap suc (drams_apart xs m n (omega arith) (omega arith) h k (sym (dram_skipped x xs m f) ∙ e ∙ dram_skipped x xs n f)))

module _ (p : PlainProgram) (core : PlainCore) (h : HasMemories p core) where
  abbrev Is_dram : ℕ → Bool → Type 0
  Is_dram m b = is_dram (expressions.mem p.mems m).kind ≡ b

  pub place_of_dram : (m : ℕ) → Is_dram m true → place_of p core m ≡ dram_place core (dram_number p.mems m)
  place_of_dram m on = ap (λ b. elim b as (λ _. ℕ) [ true ↦ dram_place core (dram_number p.mems m) | false ↦ mem_number p.mems m ]) on

  -- no two memories stand at one place
  pub places_apart : (k m : ℕ) → k < length p.mems → m < length p.mems → place_of p core k ≡ place_of p core m → k ≡ m
  places_apart k m lt lt2 e = either (is_dram (expressions.mem p.mems m).kind)
      (λ on. either (is_dram (expressions.mem p.mems k).kind)
      (λ on2. drams_apart p.mems k m lt lt2 on2 on (omega (arith, e, place_of_dram m on, place_of_dram k on2)))
      (λ off2. absurd (omega (arith, e, place_of_dram m on, chip_place p core h k lt (ap not off2), chip_exists p core h k lt (ap not off2)))))
      (λ off. place_apart p core h m lt2 (ap not off) k lt (e ∙ chip_place p core h m lt2 (ap not off)))

  -- and none where a register was added
  pub register_apart : (r m : ℕ) → IsAdded p core r → m < length p.mems → r ≡ place_of p core m → ⊥
  register_apart r m added lt e = either (is_dram (expressions.mem p.mems m).kind)
      (λ on. omega (arith, e, place_of_dram m on, added.exists))
      (λ off. omega (arith, e, chip_place p core h m lt (ap not off), number_below p.mems m lt (ap not off), added.after))

  pub dram_is : (r : ℕ) → kind_of core (dram_place core r) ≡ Dram
  dram_is r = ap (λ b. if b then (mem core (dram_place core r)).kind else Dram) (le-ltb (dram_place core r) (length core.mems) (omega arith))

  -- a DRAM has its dimensions
  pub dram_dims : p.ports ≡ ports_of p.mems → (m : ℕ) → m < length p.mems → Is_dram m true → dims core (dram_place core (dram_number p.mems m)) ≡ expressions.dims p.mems m
  dram_dims ports m lt on =
      let r : ℕ = dram_number p.mems m in
      ap (λ b. if b then (mem core (dram_place core r)).dims else (dram core (dram_place core r - length core.mems)).dims) (le-ltb (dram_place core r) (length core.mems) (omega arith))
      ∙ ap (λ k. (dram core k).dims) {x = dram_place core r - length core.mems} {y = r} (omega arith)
      ∙ ap (λ (x : PlainPorts). (slice_index_or x.drams r plain.no_port).dims) (h.ports ∙ ports)
      ∙ ap (λ (x : PlainPort). x.dims) (dram_at p.mems m lt on).0

  -- a memory that is visible begins to hold something, in both, and nothing else changes
  module _ (view : View) (done : List Entry) (s : program_store.Store) (t u : store.Store) (m : ℕ) (c : Contents) (a : Agree p core view done s t) (seen : Contains view.scope.mems m)
      (here : u (place_of p core m) ≡ Some c) (elsewhere : (k : ℕ) → (k ≡ place_of p core m → ⊥) → u k ≡ t k) where
    held_in : (k : ℕ) → Contains view.scope.mems k → u (place_of p core k) ≡ (program_store.hold s m c).held k
    held_in k v = either (k == m)
        (λ e. let f : k ≡ m = eqb-true k m e in ap (λ x. u (place_of p core x)) f ∙ here ∙ sym (changed_here s.held m k (Some c) f))
        (λ e. elsewhere (place_of p core k) (λ f. eqb-false k m e (places_apart k m (a.mems k v).0 (a.mems m seen).0 f)) ∙ (a.mems k v).1 ∙ sym (changed_elsewhere s.held m k (Some c) (eqb-false k m e)))

    pub register_stays : (r : ℕ) → IsAdded p core r → u r ≡ t r
    register_stays r added = elsewhere r (register_apart r m added (a.mems m seen).0)

    found_in : (source : Source) (w : ℕ) → Finds p core view.around done t source w → Finds p core view.around done u source w
    found_in (at_place k) w f = f
    found_in (in_register r) w f = (f.0, register_stays r f.0 ∙ f.1)
    found_in (constant k) w f = f
    found_in (count k) w f = f

    waits_in : (k : ℕ) → IsWaiting p core view t k → IsWaiting p core view u k
    waits_in k w = record {
      exists = w.exists;
      on_chip = w.on_chip;
      unseen = w.unseen;
      holds = λ f. elsewhere (mem_number p.mems k) (λ e. w.unseen (subst (λ x. Contains view.scope.mems x) (sym (places_apart k m w.exists (a.mems m seen).0 (chip_place p core h k w.exists w.on_chip ∙ e))) seen)) ∙ w.holds f;
    }

    pub agree_changed : Agree p core view done (program_store.hold s m c) u
    agree_changed = record {
      mems = λ k v. ((a.mems k v).0, held_in k v);
      vals = λ v w. found_in (view.sources v.0) (s.values v.0) (a.vals v w);
      counts = a.counts;
      waiting = λ k v. waits_in k (a.waiting k v);
      registers = λ x v. let f = a.registers x v in (f.0, register_stays x.0 f.0 ∙ f.1);
    }

  -- the same where it is a change of the core's store
  module _ (view : View) (done : List Entry) (s : program_store.Store) (t : store.Store) (m n : ℕ) (c : Contents) (a : Agree p core view done s t) (seen : Contains view.scope.mems m) (at : place_of p core m ≡ n) where
    pub agree_at : Agree p core view done (program_store.hold s m c) (store.hold t n c)
    agree_at = agree_changed view done s t (store.hold t n c) m c a seen (changed_here t n (place_of p core m) (Some c) at) (λ k ne. changed_elsewhere t n k (Some c) (λ f. ne (f ∙ sym at)))
