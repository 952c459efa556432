-- What may be used at a place stands for a copy of it, and different memories for different copies.
use Rattle.std.proofs.Common.{◌≡◌, ℕ, ◌+◌, ◌*◌, ◌<◌, Bool, true, false, cond, ◌&&◌, ◌||◌, List, [], ◌∷◌, ◌++◌, length, refl, sym, ◌∙◌, ap, subst, arith, ◌==◌, nat_lt}
use Rattle.std.proofs.lemmas.Bool.{and_parts, and_from, true≢false, eqb-true}
use Rattle.sp_core.specs.Around.{Around, Near, nothing, within, lanes_of, is_port_kind, is_usable}
use Rattle.sp_core.specs.Declarations.{mem, is_among}
use Rattle.sp_core.specs.PlainCore.{PlainCore}
use Rattle.sp_lanes.specs.Order.{is_port, memory_order, occurrence}
use Rattle.sp_lanes.specs.Within.{Within, outside, owning, with_lane}
use Rattle.sp_lane_rules.specs.Copies.{one_if, occurrences}
use Rattle.sp_lane_rules.proofs.CopiesCounts.{are_counted}
use Rattle.sp_lane_rules.proofs.CopiesFound.{are_apart}
use Rattle.sp_lane_rules.proofs.UnrolledPlaces.{among_both}
use Rattle.sp_lane_groups.specs.LiveLaws.{CopiesStand}
use Rattle.sp_lane_groups.specs.LiveStores.{IsCopy, AreCopies}

just : (b : Bool) → (b || false) ≡ true → b ≡ true
just true e = refl
just false e = e

module _ (core : PlainCore) where
  -- different memories stand for different copies
  pub copies_apart : (around : Around) (w : Within) → AreCopies core around w → (m k : ℕ) → is_usable core around m ≡ true → is_usable core around k ≡ true → w.number m ≡ w.number k → m ≡ k
  copies_apart around w h m k i j e =
      let a = h m i in
      let b = h k j in
      (are_apart (memory_order core) m a.0 k b.0 a.1 b.1 (a.2 ∙ e ∙ sym b.2)).0

  outside_copies : AreCopies core nothing (outside (memory_order core))
  outside_copies m e =
      let a = and_parts (nat_lt m (length core.mems)) (is_port_kind (mem core m).kind || false) e in
      let one : one_if (is_port core m && nat_lt m (length core.mems)) ≡ 1 = ap one_if (and_from _ _ (just (is_port_kind (mem core m).kind) a.1) a.0) in
      (0, omega (arith, one, are_counted core m), refl)

  -- where these have their owner, as copies of one number
  owning_copies : (around : Around) (counters : List Near) (owned : List ℕ) (lane number : ℕ → ℕ) (k : ℕ) → ((m : ℕ) → is_usable core around m ≡ true → IsCopy (memory_order core) m (number m))
      → ((m : ℕ) → is_among m owned ≡ true → k < occurrences m (memory_order core))
      → AreCopies core (record { counters = counters; owned = owned ++ around.owned }) (owning (memory_order core) owned (record { lane = lane; number = number; copy = k }))
  owning_copies around counters owned lane number k h fits m e = by (is_among m owned) refl
    where
      still : (b c d : Bool) → (b || (c || d)) ≡ true → c ≡ false → (b || d) ≡ true
      still true c d i f = refl
      still false true d i f = absurd (true≢false f)
      still false false d i f = i

      by : (b : Bool) → is_among m owned ≡ b → IsCopy (memory_order core) m (cond b (occurrence m k (memory_order core)) (number m))
      by true i = (k, fits m i, refl)
      by false i =
          let a = and_parts (nat_lt m (length core.mems)) (is_port_kind (mem core m).kind || is_among m (owned ++ around.owned)) e in
          h m (and_from _ _ a.0 (still (is_port_kind (mem core m).kind) (is_among m owned) (is_among m around.owned) (ap (λ b. is_port_kind (mem core m).kind || b) (sym (among_both m owned around.owned)) ∙ a.1) i))

  pub copies_stand : CopiesStand core
  copies_stand = (
    outside_copies,
    (λ around w counters owned l h fits. owning_copies around (within around counters owned).counters owned (with_lane counters l w.lane) w.number (w.copy * lanes_of counters + l) h fits),
    (λ around w state h fits. owning_copies around around.counters (state ∷ []) w.lane w.number w.copy h
        (λ m i. subst (λ n. w.copy < occurrences n (memory_order core)) (sym (eqb-true m state (just (m == state) i))) fits)),
  )
