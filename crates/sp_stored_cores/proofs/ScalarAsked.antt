-- The register of a memory of one word is asked what happens to the memory.
use Rattle.std.proofs.Common.{◌≡◌, ◌≢◌, ℕ, ◌≤◌, ◌==◌, ◌⊎◌, inl, inr, Bool, true, false, ◌&&◌, List, [], ◌∷◌, map, Contains, Option, refl, sym, ap, subst, ◌∙◌}
use Rattle.std.specs.List.{filter}
use Rattle.std.proofs.lemmas.Bool.{true≢false, eqb-true, eq-eqb}
use Rattle.std.proofs.lemmas.List.Elements.{All-contains, Contains-append_left, Contains-append_right, Contains-append_cases}
use Rattle.sp_words.specs.declared.kind.Kind.{Kind}
use Rattle.sp_words.specs.declared.kind.Kind.TheVariants.{Reg, Sram, Fifo, LineBuf, Dram, ArgIn, ArgOut}
use Rattle.sp_netlist.specs.Signals.{Signals}
use Rattle.sp_gates.specs.Tested.{is_on}
use Rattle.sp_core.specs.declared.operation.OpKind.{OpKind}
use Rattle.sp_core.specs.declared.operation.OpKind.TheVariants.{Read, Write, Reset}
use Rattle.sp_core.specs.Declarations.{mem}
use Rattle.sp_core.specs.Events.{renews, keeps}
use Rattle.sp_core.specs.PlainCore.{PlainCore}
use Rattle.sp_core.specs.Sequential.{has_reset}
use Rattle.sp_plan.specs.PlainPlan.{PlainPlan}
use Rattle.sp_machine.specs.InOrder.{is_done}
use Rattle.sp_machine.specs.Stamps.{Stamped}
use Rattle.sp_mem.specs.declared.part.Fresh.{Fresh}
use Rattle.sp_mem.specs.declared.part.Register.{Register}
use Rattle.sp_mem.specs.declared.part.Touch.{Touch}
use Rattle.sp_mem.specs.Copies.{copy_at, is_at}
use Rattle.sp_node_runs.specs.BodiesTold.{ActsInTime}
use Rattle.sp_memory_words.specs.Accesses.{IsOperation, IsAccess, IsWrite, an_operation, a_machine, Makes, a_reset, an_owner, HasAllWrites, HasAllFresh, IsStill}
use Rattle.sp_memory_words.specs.Answers.{NamesCopies}
use Rattle.sp_memory_words.specs.Moments.{IsAt}
use Rattle.sp_memory_words.specs.Registers.{IsRegister}
use Rattle.sp_access_nets.specs.declared.access.AccessNets.{AccessNets}
use Rattle.sp_access_nets.specs.Picking.{is_to, PicksAccessesTo}
use Rattle.sp_tree_handed.specs.declared.owners.Keeping.{Keeping}
use Rattle.sp_tree_handed.specs.declared.owners.OwnerNets.{OwnerNets}
use Rattle.sp_tree_handed.specs.declared.owners.Renewal.{Renewal}
use Rattle.sp_tree_handed.specs.Scalars.{IsScalar}
use Rattle.sp_tree_handed.specs.Standing.{AccessStands}
use Rattle.sp_memory_nets.specs.ScalarLists.{PlainTouch, plain_touch, write_of, state_of, reset_of, renewal_of, is_kept, is_renewed, writes_to, renewals_to, fresh_to}
use Rattle.sp_memory_nets.specs.ScalarRuns.{IsPartOf}
use Rattle.sp_memory_nets.proofs.ScalarPicked.{none_there, here, there, first_or_later, picked, mapped, from_picked}
use Rattle.sp_stored_cores.specs.ScalarInTime.{MemoriesInTime}

-- what is taken for an element of a list
pub from_mapped : {A B : Type 0} (f : A → B) (xs : List A) (y : B) → Contains (map f xs) y → (x : A) × Contains xs x × (f x ≡ y)
from_mapped f [] y c = absurd (none_there y c)
from_mapped {A = A} {B = B} f (x ∷ xs) y c = found (from_mapped f xs y) (first_or_later (f x) y (map f xs) c)
  where
    found : (Contains (map f xs) y → (z : A) × Contains xs z × (f z ≡ y)) → (f x ≡ y) ⊎ Contains (map f xs) y → (z : A) × Contains (x ∷ xs) z × (f z ≡ y)
    found rest (inl e) = (x, here x x xs refl, e)
    found rest (inr later) = let r = rest later in (r.0, there x r.0 xs r.1, r.2)

pub mapped_in : {A B : Type 0} (f : A → B) (xs : List A) (ys : List B) (x : A) → map f xs ≡ ys → Contains xs x → Contains ys (f x)
mapped_in f xs ys x e c = subst (λ zs. Contains zs (f x)) e (mapped f xs x c)

pub not_argument : (k : Kind) → IsScalar k → k ≢ ArgIn → IsRegister k
not_argument Reg h n = tt
not_argument ArgOut h n = tt
not_argument ArgIn h n = absurd (n refl)
not_argument Sram h n = absurd h
not_argument Fifo h n = absurd h
not_argument LineBuf h n = absurd h
not_argument Dram h n = absurd h

pub still : (k : Kind) → IsScalar k → IsStill k
still Reg h = tt
still ArgOut h = tt
still ArgIn h = tt
still Sram h = h
still Fifo h = tt
still LineBuf h = h
still Dram h = h

write_no_read : (k : OpKind) → k ≡ Write → k ≢ Read
write_no_read k e h = absurd (cc (e, h))

reset_no_read : (k : OpKind) → k ≡ Reset → k ≢ Read
reset_no_read k e h = absurd (cc (e, h))

both_true : (a b : Bool) → a ≡ true → b ≡ true → (a && b) ≡ true
both_true true b e f = f
both_true false b e f = e

module _ (core : PlainCore) (s : Signals) (events : List Stamped) (last : ℕ) (accesses : List AccessNets) (owners : OwnerNets) (h : MemoriesInTime core s events last accesses owners) (m : ℕ) (picks : PicksAccessesTo) where
  -- an access of a kind to the memory, by the nets of a touch or of what makes it fresh
  pub access : (kind : OpKind) (a : AccessNets) (enable : ℕ) (copy : Option ℕ) → Contains accesses a → a.mem ≡ m → a.kind ≡ kind → kind ≢ Read → a.enable ≡ enable → a.copy ≡ copy → IsAccess core s events last m kind a.number enable a.operands.items copy
  access kind a enable copy c e k no_read on at =
      let operation : IsOperation core m kind a.number = subst (λ j. IsOperation core j kind a.number) e (subst (λ q. IsOperation core a.mem q a.number) k (h.is_operation a c)) in
      record {
        is = operation;
        acts = subst (λ n. ActsInTime s events last a.number kind n a.operands.items) on (subst (λ q. ActsInTime s events last a.number q a.enable a.operands.items) k (h.act a c (λ r. no_read (sym k ∙ r))));
        names = subst (λ (n : Option ℕ). NamesCopies s events last a.number n) at (h.named a c);
      }

  from_write : (w : Touch) → (a : AccessNets) × Contains accesses a × (is_to m Write a ≡ true) × (write_of a ≡ plain_touch w) → IsWrite core s events last m w
  from_write w (a, c, t, e) =
      let p = (picks m Write a refl).0 t in
      let some = (All-contains (AccessStands h.draft core) accesses a h.stand c).some p.1 in
      an_operation w (record {
        number = a.number;
        operands = a.operands.items;
        access = access Write a w.enable w.copy c p.0 p.1 (write_no_read Write refl) (ap (λ (x : PlainTouch). x.enable) e) (ap (λ (x : PlainTouch). x.copy) e);
        some = some;
        word = sym (ap (λ (x : PlainTouch). x.word) e);
      })

  from_state : (w : Touch) → (k : Keeping) × Contains owners.kept.items k × (is_kept m k ≡ true) × (state_of k ≡ plain_touch w) → IsWrite core s events last m w
  from_state w (k, c, t, e) = a_machine w (λ u l on.
      let at = h.owners_act.keeping k c u l (ap (λ (x : PlainTouch). is_on s x.enable u) e ∙ on) in
      let kept : IsAt events u (copy_at s u k.copy) (keeps m (s.net u w.word)) =
      subst (λ n. IsAt events u (copy_at s u k.copy) (keeps m (s.net u n))) (ap (λ (x : PlainTouch). x.word) e) (subst (λ j. IsAt events u (copy_at s u k.copy) (keeps j (s.net u k.word))) (eqb-true k.mem m t) at) in
      subst (λ n. IsAt events u n (keeps m (s.net u w.word))) (ap (λ (x : PlainTouch). copy_at s u x.copy) e) kept)

  module _ (plan : PlainPlan) (part : Register) (is : IsPartOf core plan accesses owners m part) where
    -- a touch of the part with these nets
    touch_of : (p : PlainTouch) → Contains (writes_to m accesses owners) p → (w : Touch) × Contains part.writes.items w × (plain_touch w ≡ p)
    touch_of p c = from_mapped plain_touch part.writes.items p (subst (λ xs. Contains xs p) (sym is.writes) c)

    is_write : (w : Touch) → Contains part.writes.items w → IsWrite core s events last m w
    is_write w c = elim (Contains-append_cases (map write_of (filter (is_to m Write) accesses)) (map state_of (filter (is_kept m) owners.kept.items)) (plain_touch w) (mapped_in plain_touch part.writes.items (writes_to m accesses owners) w is.writes c)) [
      | inl a ↦ from_write w (from_picked write_of (is_to m Write) accesses (plain_touch w) a)
      | inr k ↦ from_state w (from_picked state_of (is_kept m) owners.kept.items (plain_touch w) k)
    ]

    has_write : (n : ℕ) → IsOperation core m Write n → (w : Touch) × (operands : List ℕ) × Contains part.writes.items w × IsAccess core s events last m Write n w.enable operands w.copy
    has_write n operation =
        let a = h.all_operations m n Write refl operation in
        let w = touch_of (write_of a.0) (Contains-append_left (map write_of (filter (is_to m Write) accesses)) (map state_of (filter (is_kept m) owners.kept.items)) (write_of a.0) (picked write_of (is_to m Write) accesses a.0 a.1 ((picks m Write a.0 refl).1 a.3 a.4))) in (
          w.0,
          a.0.operands.items,
          w.1,
          subst (λ j. IsAccess core s events last m Write j w.0.enable a.0.operands.items w.0.copy) a.2
              (access Write a.0 w.0.enable w.0.copy a.1 a.3 a.4 (write_no_read Write refl) (sym (ap (λ (x : PlainTouch). x.enable) w.2)) (sym (ap (λ (x : PlainTouch). x.copy) w.2))),
        )

    has_state : (t c word : ℕ) → t ≤ last → IsAt events t c (keeps m word) → (w : Touch) × Contains part.writes.items w × (is_at s t w.enable w.copy c ≡ true)
    has_state t c word l at =
        let k = h.owners_act.all_keepings t c m word l at in
        let w = touch_of (state_of k.0) (Contains-append_right (map write_of (filter (is_to m Write) accesses)) (map state_of (filter (is_kept m) owners.kept.items)) (state_of k.0) (picked state_of (is_kept m) owners.kept.items k.0 k.1 (eq-eqb k.0.mem m k.2))) in (
          w.0,
          w.1,
          both_true (is_on s w.0.enable t) (copy_at s t w.0.copy == c) (ap (λ (x : PlainTouch). is_on s x.enable t) w.2 ∙ k.3) (eq-eqb (copy_at s t w.0.copy) c (ap (λ (x : PlainTouch). copy_at s t x.copy) w.2 ∙ k.4)),
        )

    pub all_writes : HasAllWrites core s events last m part.writes.items
    all_writes = record { each = is_write; operations = has_write; states = has_state }

  -- what makes it fresh is all that accesses and owners do so
  module _ (list : List Fresh) (is : list ≡ fresh_to core m accesses owners) where
    from_reset : (f : Fresh) → (a : AccessNets) × Contains accesses a × (is_to m Reset a ≡ true) × (reset_of a ≡ f) → Makes core s events last m f
    from_reset f (a, c, t, e) =
        let p = (picks m Reset a refl).0 t in
        a_reset f a.number a.operands.items (access Reset a f.enable f.copy c p.0 p.1 (reset_no_read Reset refl) (ap (λ (x : Fresh). x.enable) e) (ap (λ (x : Fresh). x.copy) e))

    from_renewal : (b : Bool) → has_reset (mem core m).kind (mem core m).start ≡ b → (f : Fresh) → Contains (renewals_to b m owners.renewed.items) f → Makes core s events last m f
    from_renewal true done f c =
        let r = from_picked renewal_of (is_renewed m) owners.renewed.items f c in
        an_owner f done (λ u l on.
        let at = h.owners_act.renewal r.0 r.1 u l (ap (λ (x : Fresh). is_on s x.enable u) r.3 ∙ on) in
        subst (λ n. IsAt events u n (renews m)) (ap (λ (x : Fresh). copy_at s u x.copy) r.3) (subst (λ j. IsAt events u (copy_at s u r.0.copy) (renews j)) (eqb-true r.0.mem m r.2) at))
    from_renewal false done f c = absurd (none_there f c)

    fresh_in : (f : Fresh) → Contains (fresh_to core m accesses owners) f → Contains list f
    fresh_in f c = subst (λ xs. Contains xs f) (sym is) c

    makes : (f : Fresh) → Contains list f → Makes core s events last m f
    makes f c = elim (Contains-append_cases (map reset_of (filter (is_to m Reset) accesses)) (renewals_to (has_reset (mem core m).kind (mem core m).start) m owners.renewed.items) f (subst (λ xs. Contains xs f) is c)) [
      | inl a ↦ from_reset f (from_picked reset_of (is_to m Reset) accesses f a)
      | inr r ↦ from_renewal (has_reset (mem core m).kind (mem core m).start) refl f r
    ]

    has_fresh : (n : ℕ) → IsOperation core m Reset n → (f : Fresh) × (operands : List ℕ) × Contains list f × IsAccess core s events last m Reset n f.enable operands f.copy
    has_fresh n operation =
        let a = h.all_operations m n Reset refl operation in
        let c = fresh_in (reset_of a.0) (Contains-append_left (map reset_of (filter (is_to m Reset) accesses)) (renewals_to (has_reset (mem core m).kind (mem core m).start) m owners.renewed.items) (reset_of a.0) (picked reset_of (is_to m Reset) accesses a.0 a.1 ((picks m Reset a.0 refl).1 a.3 a.4))) in
        (reset_of a.0, a.0.operands.items, c, subst (λ j. IsAccess core s events last m Reset j a.0.enable a.0.operands.items a.0.copy) a.2 (access Reset a.0 a.0.enable a.0.copy a.1 a.3 a.4 (reset_no_read Reset refl) refl refl))

    renewal_there : (b : Bool) → b ≡ true → (r : Renewal) → Contains owners.renewed.items r → r.mem ≡ m → Contains (renewals_to b m owners.renewed.items) (renewal_of r)
    renewal_there true done r c e = picked renewal_of (is_renewed m) owners.renewed.items r c (eq-eqb r.mem m e)
    renewal_there false done r c e = absurd (true≢false (sym done))

    has_owner : (t c : ℕ) → t ≤ last → IsAt events t c (renews m) → is_done core (renews m) ≡ true → (f : Fresh) × Contains list f × (is_at s t f.enable f.copy c ≡ true)
    has_owner t c l at done =
        let r = h.owners_act.all_renewals t c m l at done in (
          renewal_of r.0,
          fresh_in (renewal_of r.0) (Contains-append_right (map reset_of (filter (is_to m Reset) accesses)) (renewals_to (has_reset (mem core m).kind (mem core m).start) m owners.renewed.items) (renewal_of r.0) (renewal_there (has_reset (mem core m).kind (mem core m).start) done r.0 r.1 r.2)),
          both_true (is_on s r.0.first t) (copy_at s t r.0.copy == c) r.3 (eq-eqb (copy_at s t r.0.copy) c r.4),
        )

    pub all_fresh : HasAllFresh core s events last m list
    all_fresh = record { each = makes; operations = has_fresh; owners = has_owner }
