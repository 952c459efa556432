-- All that is done to a memory in banks is done by accesses that touch it.
use Rattle.std.proofs.Common.{◌≡◌, ℕ, zero, suc, ◌==◌, ◌&&◌, ◌||◌, ◌⊎◌, inl, inr, Bool, true, false, List, [], ◌∷◌, map, refl, sym, ap, subst, ◌∙◌, arith, eq-eqb}
use Rattle.std.specs.List.{Contains, list_any}
use Rattle.std.proofs.lemmas.Bool.{and_from, false≢true}
use Rattle.sp_words.specs.declared.kind.Kind.{Kind}
use Rattle.sp_words.specs.declared.kind.Kind.TheVariants.{Sram, LineBuf}
use Rattle.sp_core.specs.Declarations.{mem, kind_of}
use Rattle.sp_core.specs.Events.{Act, reads, writes, puts, takes, resets, turns, Event, Moment, touches, slices, renews, keeps, core_moments}
use Rattle.sp_core.specs.Meaning.{first_store, run_core}
use Rattle.sp_core.specs.Meeting.{changes}
use Rattle.sp_core.specs.PlainCore.{PlainCore}
use Rattle.sp_core.specs.Replay.{after_moment}
use Rattle.sp_core.specs.Scope.{in_lanes}
use Rattle.sp_core.specs.Sequential.{has_reset}
use Rattle.sp_core.specs.Store.{Store}
use Rattle.sp_plan.specs.PlainPlan.{PlainPlan}
use Rattle.sp_meets.specs.Spots.{PlainTarget, PlainSpot, spots}
use Rattle.sp_time.specs.Lists.{Each}
use Rattle.sp_machine.specs.InOrder.{is_done, memory_of, does_change}
use Rattle.sp_machine.specs.Laws.{told}
use Rattle.sp_machine.specs.Stamps.{Stamped}
use Rattle.sp_machine.specs.Timeline.{core_timed}
use Rattle.sp_machine.specs.Transfers.{Delays}
use Rattle.sp_machine.proofs.Told.{told_node}
use Rattle.sp_contents.specs.Inside.{RunsAreInside, RunsAreAllowed}
use Rattle.sp_contents.specs.Steady.{IsAllowed, MayAct}
use Rattle.sp_along.specs.AlongSymbols.{EachIn}
use Rattle.sp_touched.specs.Touched.{IsTouched, Touches, RunsTouch}
use Rattle.sp_bank_words.specs.Accesses.{IsWriteOf, IsTurnOf}
use Rattle.sp_bank_words.specs.Numbers.{accesses_of, changes_of, IsReadOf, IsByAccess, TimelinesAreByAccesses}
use Rattle.sp_bank_words.proofs.Acts.{sram_there, lines_there}
use Rattle.sp_bank_words.proofs.Events.{each_at}
use Rattle.sp_bank_words.proofs.Filtered.{filter_has}

any_has : {X : Type 0} (p : X → Bool) (xs : List X) (x : X) → Contains xs x → p x ≡ true → list_any p xs ≡ true
any_has p [] x (k, l, e) h = absurd (omega (arith, l))
any_has p (y ∷ xs) x (zero, l, e) h = first (p y) (list_any p xs) (ap p e ∙ h)
  where
    first : (a b : Bool) → a ≡ true → (a || b) ≡ true
    first true b h = refl
    first false b h = absurd (false≢true h)
any_has p (y ∷ xs) x (suc k, l, e) h = second (p y) (list_any p xs) (any_has p xs x (k, omega (arith, l), e) h)
  where
    second : (a b : Bool) → b ≡ true → (a || b) ≡ true
    second true b h = refl
    second false b h = h

map_has : {X : Type 0} (f : X → ℕ) (xs : List X) (x : X) → Contains xs x → Contains (map f xs) (f x)
map_has f [] x (k, l, e) = absurd (omega (arith, l))
map_has f (y ∷ xs) x (zero, l, e) = (0, omega arith, ap f e)
map_has f (y ∷ xs) x (suc k, l, e) = let r = map_has f xs x (k, omega (arith, l), e) in let b = r.1 in (suc r.0, omega (arith, b), r.2)

module _ (core : PlainCore) (m : ℕ) where
  -- the number of an event that touches the memory
  its_number : (s : Store) (e : Event) → IsTouched core s e → e.mem ≡ m → Contains (accesses_of core m) e.number
  its_number s e h p = subst (Contains (accesses_of core m)) h.is_number
      (map_has (λ (x : PlainSpot). x.number) _ h.spot
      (filter_has (λ x. list_any (λ t. t.mem == m) x.targets) (spots core) h.spot h.has (any_has (λ (t : PlainTarget). t.mem == m) h.spot.targets h.target h.has_target (eq-eqb h.target.mem m (h.is_mem ∙ p)))))

  change_number : (s : Store) (e : Event) → IsTouched core s e → e.mem ≡ m → changes e.act ≡ true → Contains (changes_of core m) e.number
  change_number s e h p c = subst (Contains (changes_of core m)) h.is_number
      (map_has (λ (x : PlainSpot). x.number) _ h.spot
      (filter_has (λ x. list_any (λ t. (t.mem == m) && t.writes) x.targets) (spots core) h.spot h.has
      (any_has (λ (t : PlainTarget). (t.mem == m) && t.writes) h.spot.targets h.target h.has_target (and_from _ _ (eq-eqb h.target.mem m (h.is_mem ∙ p)) (h.writes c)))))

  -- a memory of a kind that has no reset isn't made anew
  not_reset : (kind : ℕ → Kind) (r : ℕ) → r ≡ m → (kd : Kind) → kind m ≡ kd → has_reset kd (mem core m).start ≡ false → has_reset (kind r) (mem core r).start ≡ true → false ≡ true
  not_reset kind r p kd k none h = sym none ∙ ap (λ z. has_reset z (mem core m).start) (sym k) ∙ ap (λ j. has_reset (kind j) (mem core j).start) (sym p) ∙ h

  -- what may be done to an SRAM, and to a line buffer
  sram_acts : (e : Event) (s : Store) → kind_of core m ≡ Sram → IsTouched core s e → e.mem ≡ m → (a : Act) → e.act ≡ a → MayAct core e.mem e.indices a → (x : Stamped) → x.moment ≡ touches e → IsReadOf (accesses_of core m) x ⊎ IsWriteOf (changes_of core m) x
  sram_acts e s k h p (reads w) q may x named = inl (e, w, named, q, its_number s e h p)
  sram_acts e s k h p (writes w) q may x named = inr (e, w, named, q, change_number s e h p (ap changes q))
  sram_acts e s k h p (puts w) q may x named = absurd (rw (p, k) at may)
  sram_acts e s k h p (takes w) q may x named = absurd (rw (p, k) at may)
  sram_acts e s k h p resets q may x named = absurd (false≢true (not_reset (kind_of core) e.mem p Sram k refl may.0))
  sram_acts e s k h p turns q may x named = absurd (rw (p, k) at may)

  lines_acts : (e : Event) (s : Store) → kind_of core m ≡ LineBuf → IsTouched core s e → e.mem ≡ m → (a : Act) → e.act ≡ a → MayAct core e.mem e.indices a → (x : Stamped) → x.moment ≡ touches e
      → IsReadOf (accesses_of core m) x ⊎ (IsWriteOf (changes_of core m) x ⊎ IsTurnOf (changes_of core m) x)
  lines_acts e s k h p (reads w) q may x named = inl (e, w, named, q, its_number s e h p)
  lines_acts e s k h p (writes w) q may x named = inr (inl (e, w, named, q, change_number s e h p (ap changes q)))
  lines_acts e s k h p (puts w) q may x named = absurd (rw (p, k) at may)
  lines_acts e s k h p (takes w) q may x named = absurd (rw (p, k) at may)
  lines_acts e s k h p resets q may x named = absurd (false≢true (not_reset (kind_of core) e.mem p LineBuf k refl may.0))
  lines_acts e s k h p turns q may x named = inr (inr (e, named, q, change_number s e h p (ap changes q)))

  by_access : (n : Moment) (s : Store) → IsAllowed core n → Touches core s n → (x : Stamped) → x.moment ≡ n → IsByAccess core m x
  by_access (touches e) s may h x named = record {
    sram = λ k d p. sram_acts e s k h (sym (ap memory_of named) ∙ p) e.act refl may x named;
    lines = λ k d p. lines_acts e s k h (sym (ap memory_of named) ∙ p) e.act refl may x named;
  }
  by_access (slices z) s may h x named = record {
    sram = λ k d p. absurd (false≢true (sym (ap (is_done core) named) ∙ d));
    lines = λ k d p. absurd (false≢true (sym (ap (is_done core) named) ∙ d));
  }
  by_access (renews r) s may h x named = record {
    sram = λ k d p. absurd (false≢true (not_reset (λ j. (mem core j).kind) r (sym (ap memory_of named) ∙ p) Sram (sram_there core m k).0 refl (sym (ap (is_done core) named) ∙ d)));
    lines = λ k d p. absurd (false≢true (not_reset (λ j. (mem core j).kind) r (sym (ap memory_of named) ∙ p) LineBuf (lines_there core m k).0 refl (sym (ap (is_done core) named) ∙ d)));
  }
  by_access (keeps r w) s may h x named = record {
    sram = λ k d p. absurd (rw (sym (ap memory_of named) ∙ p, k) at may);
    lines = λ k d p. absurd (rw (sym (ap memory_of named) ∙ p, k) at may);
  }

-- in some store
in_some : (core : PlainCore) (P : Store → Moment → Type 0) (ms : List Moment) (s : Store) → EachIn core P s ms → Each (λ m. (u : Store) × P u m) ms
in_some core P [] s h = tt
in_some core P (m ∷ ms) s h = ((s, h.0), in_some core P ms (after_moment core m s) h.1)

both_of : {A : Type 0} (P Q : A → Type 0) (xs : List A) → Each P xs → Each Q xs → Each (λ x. P x × Q x) xs
both_of P Q [] h k = tt
both_of P Q (x ∷ xs) h k = ((h.0, k.0), both_of P Q xs h.1 k.1)

from_told : (Q : Moment → Type 0) (es : List Stamped) → Each Q (told es) → Each (λ (x : Stamped). Q x.moment) es
from_told Q [] h = tt
from_told Q (x ∷ es) h = (h.0, from_told Q es h.1)

-- what may be done, and touches a target in some store
abbrev Both : PlainCore → Moment → Type 0
Both core n = IsAllowed core n × ((u : Store) × Touches core u n)

-- a read changes nothing
no_change : (x : Stamped) (numbers : List ℕ) → IsReadOf numbers x → does_change x.moment ≡ true → ⊥
no_change x numbers (e, w, named, act, number) c = false≢true (sym (ap changes act) ∙ sym (ap does_change named) ∙ c)

changed : {A : Type 0} (x : Stamped) (numbers : List ℕ) → does_change x.moment ≡ true → IsReadOf numbers x ⊎ A → A
changed x numbers c (inl r) = absurd (no_change x numbers r c)
changed x numbers c (inr a) = a

pub timelines_are_by_accesses : RunsTouch → (core : PlainCore) (plan : PlainPlan) (delays : Delays) → RunsAreInside core → RunsAreAllowed core → TimelinesAreByAccesses core plan delays
unfolding run_core
timelines_are_by_accesses touch core plan delays inside allowed is_core is_timed input most h t fits ends = record {
  each = each;
  sram = λ m k x there d p c. changed x (accesses_of core m) c ((each m x there).sram k d p);
  lines = λ m k x there d p c. changed x (accesses_of core m) c ((each m x there).lines k d p);
}
  where
    may : Each (IsAllowed core) (core_moments core in_lanes h)
    may = (allowed is_core is_timed).1 h (inside is_timed most _ (first_store core input) t h ends)

    touched : Each (λ n. (u : Store) × Touches core u n) (core_moments core in_lanes h)
    touched = in_some core (Touches core) (core_moments core in_lanes h) (first_store core input) (touch core is_core input most h t fits ends)

    all : Each (λ (x : Stamped). Both core x.moment) (core_timed core plan delays h).events
    all = from_told (Both core) (core_timed core plan delays h).events
        (subst (λ ms. Each (Both core) ms) (sym (told_node core plan delays core.root 0 0 (record { path = []; counters = [] }) (λ m. 0) h)) (both_of (IsAllowed core) (λ n. (u : Store) × Touches core u n) (core_moments core in_lanes h) may touched))

    each : (m : ℕ) (x : Stamped) → Contains (core_timed core plan delays h).events x → IsByAccess core m x
    each m x there = let r = each_at (λ (y : Stamped). Both core y.moment) (core_timed core plan delays h).events all x there in by_access core m x.moment r.1.0 r.0 r.1.1 x refl
