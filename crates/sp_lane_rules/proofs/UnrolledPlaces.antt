-- Places that go together, and places in them.
use Rattle.std.proofs.Common.{◌≡◌, ℕ, zero, suc, ◌+◌, ◌*◌, ◌<◌, Bool, true, false, cond, ◌&&◌, ◌||◌, List, [], ◌∷◌, ◌++◌, length, map, refl, sym, ◌∙◌, ap, subst, arith, inl, inr, ◌==◌, nat_lt}
use Rattle.std.proofs.lemmas.Bool.{and_parts, and_from, true≢false, lt-ltb, eq-eqb, ne_eqb, eqb-true, or_right}
use Rattle.std.proofs.lemmas.Bool.Decides.{eqb_tells}
use Rattle.std.specs.Prelude.{flat_map}
use Rattle.sp_core.specs.Around.{Around, Near, nothing, within, lanes_of, has_lane, is_port_kind, is_usable}
use Rattle.sp_core.specs.Declarations.{mem, is_among}
use Rattle.sp_core.specs.Elements.{numbers_below}
use Rattle.sp_core.specs.PlainCore.{PlainCounter, PlainMem, PlainCore}
use Rattle.sp_core.specs.Store.{changed}
use Rattle.sp_lanes.specs.Order.{is_port, memory_order, occurrence}
use Rattle.sp_lanes.specs.Unrolled.{unrolled, owned_in_lanes, last_number}
use Rattle.sp_lanes.specs.Within.{Within, outside, owning, with_lane, in_lane, counters_in}
use Rattle.sp_lane_rules.specs.Copies.{one_if, occurrences}
use Rattle.sp_lane_rules.proofs.CopiesCounts.{are_counted}
use Rattle.sp_lane_rules.proofs.CopiesFound.{are_declared}
use Rattle.sp_lane_rules.specs.UnrolledPlaces.{GoTogether}

-- what is among two lists
pub among_both : (m : ℕ) (xs ys : List ℕ) → is_among m (xs ++ ys) ≡ (is_among m xs || is_among m ys)
among_both m [] ys = refl
among_both m (x ∷ xs) ys = by (m == x) (among_both m xs ys)
  where
    by : (b : Bool) → is_among m (xs ++ ys) ≡ (is_among m xs || is_among m ys) → (b || is_among m (xs ++ ys)) ≡ ((b || is_among m xs) || is_among m ys)
    by true e = refl
    by false e = e

or_left : (a b : Bool) → a ≡ true → (a || b) ≡ true
or_left true b e = refl
or_left false b e = absurd (true≢false (sym e))

among_map : (f : ℕ → ℕ) (m : ℕ) (xs : List ℕ) → is_among m xs ≡ true → is_among (f m) (map f xs) ≡ true
among_map f m [] e = absurd (true≢false (sym e))
among_map f m (x ∷ xs) e = elim (eqb_tells m x) [
  | inl same ↦ or_left (f m == f x) (is_among (f m) (map f xs)) (eq-eqb (f m) (f x) (ap f same.1))
  | inr apart ↦ or_right (f m == f x) (is_among (f m) (map f xs)) (among_map f m xs (ap (λ b. b || is_among m xs) (sym apart.0) ∙ e))
]

flat_both : (f : ℕ → List ℕ) (xs ys : List ℕ) (n : ℕ) → (is_among n (flat_map f xs) || is_among n (flat_map f ys)) ≡ true → is_among n (flat_map f (xs ++ ys)) ≡ true
flat_both f [] ys n e = e
flat_both f (x ∷ xs) ys n e = among_both n (f x) (flat_map f (xs ++ ys)) ∙ by (is_among n (f x)) (is_among n (flat_map f xs)) (is_among n (flat_map f ys)) (is_among n (flat_map f (xs ++ ys)))
    (λ i. flat_both f xs ys n i) (ap (λ b. b || is_among n (flat_map f ys)) (sym (among_both n (f x) (flat_map f xs))) ∙ e)
  where
    by : (a b c d : Bool) → ((b || c) ≡ true → d ≡ true) → ((a || b) || c) ≡ true → (a || d) ≡ true
    by true b c d h e = refl
    by false b c d h e = h e

among_lanes : (f : ℕ → List ℕ) (p l n : ℕ) → l < p → is_among n (f l) ≡ true → is_among n (flat_map f (numbers_below p)) ≡ true
among_lanes f zero l n lt e = absurd (omega arith)
among_lanes f (suc p) l n lt e = flat_both f (numbers_below p) (p ∷ []) n (elim (eqb_tells l p) [
  | inl same ↦ or_right (is_among n (flat_map f (numbers_below p))) (is_among n (f p ++ [])) (among_both n (f p) [] ∙ or_left (is_among n (f p)) false (subst (λ q. is_among n (f q) ≡ true) same.1 e))
  | inr apart ↦ or_left (is_among n (flat_map f (numbers_below p))) (is_among n (f p ++ [])) (among_lanes f p l n (less l p lt apart.1) e)
])
  where
    less : (l p : ℕ) → l < suc p → (l ≡ p → ⊥) → l < p
    less l p lt ne = omega (arith, ne)

-- counters of a controller
abbrev pub near : ℕ → PlainCounter → Near
near n c = record { number = c.number; lanes = n }

module _ (w : Within) where
  pub lanes_kept : (counters : List PlainCounter) → lanes_of (counters_in w counters) ≡ lanes_of counters
  lanes_kept [] = refl
  lanes_kept (c ∷ []) = refl
  lanes_kept (c ∷ d ∷ counters) = lanes_kept (d ∷ counters)

  near_kept : (n : ℕ) (counters : List PlainCounter) → map (near n) (counters_in w counters) ≡ map (near n) counters
  near_kept n [] = refl
  near_kept n (c ∷ counters) = ap (λ (l : List Near). near n c ∷ l) (near_kept n counters)

  pub counters_kept : (around inside : Around) (counters : List PlainCounter) (owned own : List ℕ) → inside.counters ≡ around.counters
      → (within inside (counters_in w counters) own).counters ≡ (within around counters owned).counters
  counters_kept around inside counters owned own e =
      ap (λ n. map (near n) (counters_in w counters) ++ inside.counters) (lanes_kept counters)
      ∙ ap (λ (l : List Near). l ++ inside.counters) (near_kept (lanes_of counters) counters)
      ∙ ap (λ (l : List Near). map (near (lanes_of counters)) counters ++ l) e

-- the lane in which a counter stands is one of its controller's
lane_less : (counters : List PlainCounter) (l n : ℕ) (f : ℕ → ℕ) (c : ℕ) → l < n → f c < n → with_lane counters l f c < n
lane_less [] l n f c lt e = e
lane_less (d ∷ []) l n f c lt e = by (c == d.number)
  where
    by : (b : Bool) → elim b as (λ _. ℕ) [ true ↦ l | false ↦ f c ] < n
    by true = lt
    by false = e
lane_less (d ∷ g ∷ counters) l n f c lt e = lane_less (g ∷ counters) l n (changed f d.number 0) c lt (by (c == d.number))
  where
    by : (b : Bool) → elim b as (λ _. ℕ) [ true ↦ 0 | false ↦ f c ] < n
    by true = omega (arith, lt)
    by false = e

in_its_lane : (counters : List PlainCounter) (l n : ℕ) (f : ℕ → ℕ) (rest : List Near) (c j : ℕ) → l < n
    → (has_lane rest c j ≡ true → has_lane rest c (f c) ≡ true) → has_lane (map (near n) counters ++ rest) c j ≡ true → has_lane (map (near n) counters ++ rest) c (with_lane counters l f c) ≡ true
in_its_lane [] l n f rest c j lt h e = h e
in_its_lane (d ∷ []) l n f rest c j lt h e = elim (eqb_tells d.number c) [
  | inl same ↦ ap (λ b. elim b as (λ _. Bool) [ true ↦ nat_lt (with_lane (d ∷ []) l f c) n | false ↦ has_lane rest c (with_lane (d ∷ []) l f c) ]) same.0
      ∙ lt-ltb (with_lane (d ∷ []) l f c) n (subst (λ (b : Bool). elim b as (λ _. ℕ) [ true ↦ l | false ↦ f c ] < n) (sym (eq-eqb c d.number (sym same.1))) lt)
  | inr apart ↦ ap (λ b. elim b as (λ _. Bool) [ true ↦ nat_lt (with_lane (d ∷ []) l f c) n | false ↦ has_lane rest c (with_lane (d ∷ []) l f c) ]) apart.0
      ∙ ap (λ (b : Bool). has_lane rest c (elim b as (λ _. ℕ) [ true ↦ l | false ↦ f c ])) (ne_eqb c d.number (λ s. apart.1 (sym s)))
      ∙ h (sym (ap (λ b. elim b as (λ _. Bool) [ true ↦ nat_lt j n | false ↦ has_lane rest c j ]) apart.0) ∙ e)
]
in_its_lane (d ∷ g ∷ counters) l n f rest c j lt h e = elim (eqb_tells d.number c) [
  | inl same ↦ ap (λ b. elim b as (λ _. Bool) [ true ↦ nat_lt (with_lane (g ∷ counters) l (changed f d.number 0) c) n | false ↦ has_lane (map (near n) (g ∷ counters) ++ rest) c (with_lane (g ∷ counters) l (changed f d.number 0) c) ]) same.0
      ∙ lt-ltb (with_lane (g ∷ counters) l (changed f d.number 0) c) n (lane_less (g ∷ counters) l n (changed f d.number 0) c lt
      (subst (λ (b : Bool). elim b as (λ _. ℕ) [ true ↦ 0 | false ↦ f c ] < n) (sym (eq-eqb c d.number (sym same.1))) (omega (arith, lt))))
  | inr apart ↦ ap (λ b. elim b as (λ _. Bool) [ true ↦ nat_lt (with_lane (g ∷ counters) l (changed f d.number 0) c) n | false ↦ has_lane (map (near n) (g ∷ counters) ++ rest) c (with_lane (g ∷ counters) l (changed f d.number 0) c) ]) apart.0
      ∙ in_its_lane (g ∷ counters) l n (changed f d.number 0) rest c j lt
      (λ i. ap (λ (b : Bool). has_lane rest c (elim b as (λ _. ℕ) [ true ↦ 0 | false ↦ f c ])) (ne_eqb c d.number (λ s. apart.1 (sym s))) ∙ h i)
      (sym (ap (λ b. elim b as (λ _. Bool) [ true ↦ nat_lt j n | false ↦ has_lane (map (near n) (g ∷ counters) ++ rest) c j ]) apart.0) ∙ e)
]

-- the last counter has all lanes
pub last_has : (c : PlainCounter) (counters : List PlainCounter) (rest : List Near) (n l : ℕ) → l < n → has_lane (map (near n) (c ∷ counters) ++ rest) (last_number (c ∷ counters)) l ≡ true
last_has c [] rest n l lt = ap (λ b. elim b as (λ _. Bool) [ true ↦ nat_lt l n | false ↦ has_lane rest c.number l ]) (eq-eqb c.number c.number refl) ∙ lt-ltb l n lt
last_has c (d ∷ counters) rest n l lt = by (c.number == last_number (d ∷ counters)) (last_has d counters rest n l lt)
  where
    by : (b : Bool) → has_lane (map (near n) (d ∷ counters) ++ rest) (last_number (d ∷ counters)) l ≡ true
        → elim b as (λ _. Bool) [ true ↦ nat_lt l n | false ↦ has_lane (map (near n) (d ∷ counters) ++ rest) (last_number (d ∷ counters)) l ] ≡ true
    by true e = lt-ltb l n lt
    by false e = e

-- places in a core and in its lanes
module _ (core : PlainCore) where
  pub copy_there : (m k : ℕ) → k < occurrences m (memory_order core) → (nat_lt (occurrence m k (memory_order core)) (length (unrolled core).mems) ≡ true) × (mem (unrolled core) (occurrence m k (memory_order core)) ≡ mem core m)
  copy_there m k lt = let a = (are_declared core).0 m k lt in (lt-ltb (occurrence m k (memory_order core)) (length (unrolled core).mems) a.0, a.1)

  memories_together : (around inside : Around) (w : Within) → GoTogether core (unrolled core) around inside w → (cs ds : List Near) (owned own : List ℕ) (number : ℕ → ℕ)
      → ((m : ℕ) → is_among m owned ≡ true → (nat_lt (number m) (length (unrolled core).mems) ≡ true) × (is_among (number m) own ≡ true) × (mem (unrolled core) (number m) ≡ mem core m))
      → ((m : ℕ) → is_among m owned ≡ false → number m ≡ w.number m)
      → (m : ℕ) → is_usable core (record { counters = cs; owned = owned ++ around.owned }) m ≡ true
      → (is_usable (unrolled core) (record { counters = ds; owned = own ++ inside.owned }) (number m) ≡ true) × (mem (unrolled core) (number m) ≡ mem core m)
  memories_together around inside w h cs ds owned own number own_there others m e = by (is_among m owned) refl
    where
      a : (nat_lt m (length core.mems) ≡ true) × ((is_port_kind (mem core m).kind || is_among m (owned ++ around.owned)) ≡ true)
      a = and_parts (nat_lt m (length core.mems)) (is_port_kind (mem core m).kind || is_among m (owned ++ around.owned)) e

      still : (b c d : Bool) → (b || (c || d)) ≡ true → c ≡ false → (b || d) ≡ true
      still true c d i f = refl
      still false true d i f = absurd (true≢false f)
      still false false d i f = i

      widened : (n : ℕ) (b : Bool) → (b || is_among n inside.owned) ≡ true → (b || is_among n (own ++ inside.owned)) ≡ true
      widened n true i = refl
      widened n false i = among_both n own inside.owned ∙ or_right (is_among n own) (is_among n inside.owned) i

      by : (b : Bool) → is_among m owned ≡ b → (is_usable (unrolled core) (record { counters = ds; owned = own ++ inside.owned }) (number m) ≡ true) × (mem (unrolled core) (number m) ≡ mem core m)
      by true i = let c = own_there m i in
          (and_from _ _ c.0 (or_right (is_port_kind (mem (unrolled core) (number m)).kind) (is_among (number m) (own ++ inside.owned)) (among_both (number m) own inside.owned ∙ or_left (is_among (number m) own) (is_among (number m) inside.owned) c.1)), c.2)
      by false i =
          let before : is_usable core around m ≡ true = and_from _ _ a.0 (still (is_port_kind (mem core m).kind) (is_among m owned) (is_among m around.owned) (ap (λ b. is_port_kind (mem core m).kind || b) (sym (among_both m owned around.owned)) ∙ a.1) i) in
          let c = h.memories m before in
          let d = and_parts (nat_lt (w.number m) (length (unrolled core).mems)) (is_port_kind (mem (unrolled core) (w.number m)).kind || is_among (w.number m) inside.owned) c.0 in
          subst (λ n. (is_usable (unrolled core) (record { counters = ds; owned = own ++ inside.owned }) n ≡ true) × (mem (unrolled core) n ≡ mem core m)) (sym (others m i))
          (and_from _ _ d.0 (widened (w.number m) (is_port_kind (mem (unrolled core) (w.number m)).kind) d.1), c.1)

  -- in a lane of a controller
  pub lane_together : (around inside : Around) (w : Within) → GoTogether core (unrolled core) around inside w → (counters : List PlainCounter) (owned : List ℕ) (l : ℕ) → l < lanes_of counters
      → ((m : ℕ) → is_among m owned ≡ true → w.copy * lanes_of counters + l < occurrences m (memory_order core))
      → GoTogether core (unrolled core) (within around counters owned) (within inside (counters_in w counters) (owned_in_lanes (memory_order core) counters owned w)) (in_lane (memory_order core) counters owned w l)
  lane_together around inside w h counters owned l lt fits = record {
    counters = counters_kept w around inside counters owned (owned_in_lanes (memory_order core) counters owned w) h.counters;
    in_lanes = λ c j e. in_its_lane counters l (lanes_of counters) w.lane around.counters c j lt (λ i. h.in_lanes c j i) e;
    memories = memories_together around inside w h (within around counters owned).counters (within inside (counters_in w counters) (owned_in_lanes (memory_order core) counters owned w)).counters owned
        (owned_in_lanes (memory_order core) counters owned w) (in_lane (memory_order core) counters owned w l).number own_there
        (λ m e. ap (λ b. cond b (occurrence m (w.copy * lanes_of counters + l) (memory_order core)) (w.number m)) e);
  }
    where
      own_there : (m : ℕ) → is_among m owned ≡ true
          → (nat_lt ((in_lane (memory_order core) counters owned w l).number m) (length (unrolled core).mems) ≡ true)
          × (is_among ((in_lane (memory_order core) counters owned w l).number m) (owned_in_lanes (memory_order core) counters owned w) ≡ true)
          × (mem (unrolled core) ((in_lane (memory_order core) counters owned w l).number m) ≡ mem core m)
      own_there m e =
          let same : (in_lane (memory_order core) counters owned w l).number m ≡ occurrence m (w.copy * lanes_of counters + l) (memory_order core)
          = ap (λ b. cond b (occurrence m (w.copy * lanes_of counters + l) (memory_order core)) (w.number m)) e in
          let c = copy_there m (w.copy * lanes_of counters + l) (fits m e) in (
            ap (λ n. nat_lt n (length (unrolled core).mems)) same ∙ c.0,
            among_lanes (λ j. map (in_lane (memory_order core) counters owned w j).number owned) (lanes_of counters) l ((in_lane (memory_order core) counters owned w l).number m) lt
                (among_map (in_lane (memory_order core) counters owned w l).number m owned e),
            ap (mem (unrolled core)) same ∙ c.1,
          )

  -- inside of an FSM
  pub state_together : (around inside : Around) (w : Within) → GoTogether core (unrolled core) around inside w → (state : ℕ) → w.copy < occurrences state (memory_order core)
      → GoTogether core (unrolled core) (within around [] (state ∷ [])) (within inside [] ((owning (memory_order core) (state ∷ []) w).number state ∷ [])) (owning (memory_order core) (state ∷ []) w)
  state_together around inside w h state fits = record {
    counters = h.counters;
    in_lanes = h.in_lanes;
    memories = memories_together around inside w h around.counters inside.counters (state ∷ []) ((owning (memory_order core) (state ∷ []) w).number state ∷ []) (owning (memory_order core) (state ∷ []) w).number own_there
        (λ m e. ap (λ b. cond b (occurrence m w.copy (memory_order core)) (w.number m)) e);
  }
    where
      own_there : (m : ℕ) → is_among m (state ∷ []) ≡ true
          → (nat_lt ((owning (memory_order core) (state ∷ []) w).number m) (length (unrolled core).mems) ≡ true)
          × (is_among ((owning (memory_order core) (state ∷ []) w).number m) ((owning (memory_order core) (state ∷ []) w).number state ∷ []) ≡ true)
          × (mem (unrolled core) ((owning (memory_order core) (state ∷ []) w).number m) ≡ mem core m)
      own_there m e =
          let is : m ≡ state = eqb-true m state (just (m == state) e) in
          let same : (owning (memory_order core) (state ∷ []) w).number m ≡ occurrence m w.copy (memory_order core) = ap (λ b. cond b (occurrence m w.copy (memory_order core)) (w.number m)) e in
          let c = copy_there m w.copy (subst (λ n. w.copy < occurrences n (memory_order core)) (sym is) fits) in (
            ap (λ n. nat_lt n (length (unrolled core).mems)) same ∙ c.0,
            or_left _ false (eq-eqb ((owning (memory_order core) (state ∷ []) w).number m) ((owning (memory_order core) (state ∷ []) w).number state) (ap (owning (memory_order core) (state ∷ []) w).number is)),
            ap (mem (unrolled core)) same ∙ c.1,
          )
        where
          just : (b : Bool) → (b || false) ≡ true → b ≡ true
          just true e = refl
          just false e = e

  -- outside of all nodes
  pub outside_together : GoTogether core (unrolled core) nothing nothing (outside (memory_order core))
  outside_together = record {
    counters = refl;
    in_lanes = λ c l e. absurd (true≢false (sym e));
    memories = λ m e. port m e;
  }
    where
      just : (b : Bool) → (b || false) ≡ true → b ≡ true
      just true e = refl
      just false e = e

      port : (m : ℕ) → is_usable core nothing m ≡ true → (is_usable (unrolled core) nothing (occurrence m 0 (memory_order core)) ≡ true) × (mem (unrolled core) (occurrence m 0 (memory_order core)) ≡ mem core m)
      port m e =
          let a = and_parts (nat_lt m (length core.mems)) (is_port_kind (mem core m).kind || false) e in
          let one : one_if (is_port core m && nat_lt m (length core.mems)) ≡ 1 = ap one_if (and_from _ _ (just (is_port_kind (mem core m).kind) a.1) a.0) in
          let c = copy_there m 0 (omega (arith, one, are_counted core m)) in
          (and_from _ _ c.0 (ap (λ (x : PlainMem). is_port_kind x.kind || false) c.1 ∙ a.1), c.1)
