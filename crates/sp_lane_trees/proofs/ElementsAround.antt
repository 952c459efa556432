-- What stands around the combination of an element: the counters of elements stand inside of those of the loop, and may be taken to
-- stand outside of them, since they have other numbers.
use Rattle.std.proofs.Common.{◌≡◌, inl, inr, ℕ, zero, suc, ◌+◌, ◌<◌, ◌≤◌, ◌==◌, Bool, true, false, ◌&&◌, ◌||◌, nat_lt, nat_le, List, [], ◌∷◌, ◌++◌, length, map, Option, Some, None, refl, sym, ◌∙◌, ap, subst, arith, ℤ}
use Rattle.std.proofs.lemmas.Bool.{and_parts, and_from, true≢false, eqb-true, eq-eqb, ne_eqb, lt-ltb, or_right}
use Rattle.sp_words.specs.declared.types.Ty.{Ty}
use Rattle.sp_core.specs.declared.operation.OpKind.{OpKind}
use Rattle.sp_core.specs.declared.operation.OpKind.TheVariants.{Word, Count, Live, Read, Write, Enq, Deq, Reset, One, Two, Shift, Mux, Cast}
use Rattle.sp_core.specs.Around.{Near, Around, within, lanes_of, has_lane}
use Rattle.sp_core.specs.Declarations.{is_among}
use Rattle.sp_core.specs.OperationRules.{is_in_range, names_rightly, indices_of, is_mask, is_operation_right, are_operations_right_after}
use Rattle.sp_core.specs.PlainCore.{PlainOp, PlainCounter, PlainCore}
use Rattle.sp_core.specs.Scope.{InGroup, Scope, count_word, is_live}
use Rattle.sp_core.specs.Typed.{Given, given_type, taken_types, give_all}
use Rattle.sp_sugar.specs.Combination.{element_counters}
use Rattle.sp_lanes.specs.Order.{memory_order}
use Rattle.sp_lanes.specs.Unrolled.{unrolled, last_number}
use Rattle.sp_lanes.specs.Within.{Within, in_lane}
use Rattle.sp_lane_rules.specs.CombinedStanding.{numbers_of, AreApart}
use Rattle.sp_lane_rules.specs.UnrolledPlaces.{GoTogether}
use Rattle.sp_lane_groups.specs.Groups.{IsGroup}
use Rattle.sp_lane_trees.proofs.ElementsPlaced.{NoLanes}
use Rattle.sp_lane_trees.proofs.ElementsValues.{element_loops, in_element, inside_or}

-- the operations of a list are right where there are as many lanes
module _ (core : PlainCore) (owned : List ℕ) (one two : List Near) (more : (c l : ℕ) → has_lane one c l ≡ true → has_lane two c l ≡ true) where
  abbrev first : Around
  first = record { counters = one; owned = owned }

  abbrev second : Around
  second = record { counters = two; owned = owned }

  range_kept : (kind : OpKind) (ty : Ty) → is_in_range kind ty first ≡ true → is_in_range kind ty second ≡ true
  range_kept (Count c l) ty h = let a = and_parts (has_lane one c l) _ h in and_from (has_lane two c l) _ (more c l a.0) a.1
  range_kept (Live c f l) ty h =
      let a = and_parts (nat_le f l && has_lane one c l) _ h in
      let b = and_parts (nat_le f l) (has_lane one c l) a.0 in
      and_from (nat_le f l && has_lane two c l) _ (and_from (nat_le f l) (has_lane two c l) b.0 (more c l b.1)) a.1
  range_kept (Word w) ty h = h
  range_kept Read ty h = h
  range_kept Write ty h = h
  range_kept Enq ty h = h
  range_kept Deq ty h = h
  range_kept Reset ty h = h
  range_kept (One op) ty h = h
  range_kept (Two op) ty h = h
  range_kept (Shift left by) ty h = h
  range_kept Mux ty h = h
  range_kept (Cast to) ty h = h

  names_kept : (kind : OpKind) (ty : Ty) (m : Option ℕ) → names_rightly core first kind ty m ≡ names_rightly core second kind ty m
  names_kept kind ty None = refl
  names_kept kind ty (Some m) = refl

  pub right_kept : (g : Given) (ops : List PlainOp) → are_operations_right_after core first g ops ≡ true → are_operations_right_after core second g ops ≡ true
  right_kept g [] h = refl
  right_kept g (op ∷ ops) h =
      let a = and_parts (is_operation_right core first g op) (are_operations_right_after core first (g ++ given_type op.kind op.ty ∷ []) ops) h in
      let b = and_parts (is_in_range op.kind op.ty first && names_rightly core first op.kind op.ty op.mem) (give_all g op.args (taken_types op.kind op.ty (indices_of core first op.mem)) && is_mask core first g op.mask) a.0 in
      let c = and_parts (is_in_range op.kind op.ty first) (names_rightly core first op.kind op.ty op.mem) b.0 in
      and_from (is_operation_right core second g op) (are_operations_right_after core second (g ++ given_type op.kind op.ty ∷ []) ops)
      (and_from (is_in_range op.kind op.ty second && names_rightly core second op.kind op.ty op.mem) (give_all g op.args (taken_types op.kind op.ty (indices_of core second op.mem)) && is_mask core second g op.mask)
      (and_from (is_in_range op.kind op.ty second) (names_rightly core second op.kind op.ty op.mem) (range_kept op.kind op.ty c.0) (sym (names_kept op.kind op.ty op.mem) ∙ c.1)) b.1)
      (right_kept (g ++ given_type op.kind op.ty ∷ []) ops a.1)

-- counters of other numbers
abbrev nears : (lanes : ℕ) → List PlainCounter → List Near
nears n counters = map (λ c. record { number = c.number; lanes = n }) counters

abbrev by_number : (b : Bool) → (lane : ℕ) → Near → (others : Bool) → Bool
by_number b l near others = elim b as (λ _. Bool) [ true ↦ nat_lt l near.lanes | false ↦ others ]

-- one that isn't named
inserted : (xs zs : List Near) (near : Near) (k l : ℕ) → (near.number == k) ≡ false → has_lane (xs ++ near ∷ zs) k l ≡ has_lane (xs ++ zs) k l
inserted [] zs near k l e = ap (λ b. by_number b l near (has_lane zs k l)) e
inserted (x ∷ xs) zs near k l e = ap (λ o. by_number (x.number == k) l x o) (inserted xs zs near k l e)

-- none of these is named
passed : (n : ℕ) (cs : List PlainCounter) (zs : List Near) (k l : ℕ) → is_among k (numbers_of cs) ≡ false → has_lane (nears n cs ++ zs) k l ≡ has_lane zs k l
passed n [] zs k l h = refl
passed n (c ∷ cs) zs k l h = by (k == c.number) refl h (λ e. passed n cs zs k l e)
  where
    by : (b : Bool) → (k == c.number) ≡ b → (b || is_among k (numbers_of cs)) ≡ false → (is_among k (numbers_of cs) ≡ false → has_lane (nears n cs ++ zs) k l ≡ has_lane zs k l) → has_lane (nears n (c ∷ cs) ++ zs) k l ≡ has_lane zs k l
    by true i e rest = absurd (true≢false e)
    by false i e rest = ap (λ b. by_number b l (record { number = c.number; lanes = n }) (has_lane (nears n cs ++ zs) k l)) (ne_eqb c.number k (λ j. true≢false (sym (eq-eqb k c.number (sym j)) ∙ i))) ∙ rest e

-- inner counters may stand outside
pub moved_out : (n m : ℕ) (es cs : List PlainCounter) (zs : List Near) → AreApart (numbers_of cs) es → (k l : ℕ) → has_lane (nears m es ++ (nears n cs ++ zs)) k l ≡ true → has_lane (nears n cs ++ (nears m es ++ zs)) k l ≡ true
moved_out n m [] cs zs apart k l h = h
moved_out n m (e ∷ es) cs zs apart k l h = by (e.number == k) refl h (λ j. moved_out n m es cs zs apart.1 k l j)
  where
    near : Near
    near = record { number = e.number; lanes = m }

    by : (b : Bool) → (e.number == k) ≡ b → by_number b l (record { number = e.number; lanes = m }) (has_lane (nears m es ++ (nears n cs ++ zs)) k l) ≡ true
        → (has_lane (nears m es ++ (nears n cs ++ zs)) k l ≡ true → has_lane (nears n cs ++ (nears m es ++ zs)) k l ≡ true) → has_lane (nears n cs ++ (nears m (e ∷ es) ++ zs)) k l ≡ true
    by true i h rest =
        passed n cs (nears m (e ∷ es) ++ zs) k l (subst (λ j. is_among j (numbers_of cs) ≡ false) (eqb-true e.number k i) apart.0)
        ∙ ap (λ b. by_number b l (record { number = e.number; lanes = m }) (has_lane (nears m es ++ zs) k l)) i ∙ h
    by false i h rest = inserted (nears n cs) (nears m es ++ zs) (record { number = e.number; lanes = m }) k l i ∙ rest h

-- each counter has the lane of a place, where inner ones have the first one
pub lanes_kept : (m : ℕ) (f : ℕ → ℕ) (es : List PlainCounter) (xs zs : List Near) → 1 ≤ m → ((k : ℕ) → is_among k (numbers_of es) ≡ true → f k ≡ 0) → ((k l : ℕ) → has_lane (xs ++ zs) k l ≡ true → has_lane (xs ++ zs) k (f k) ≡ true)
    → (k l : ℕ) → has_lane (xs ++ (nears m es ++ zs)) k l ≡ true → has_lane (xs ++ (nears m es ++ zs)) k (f k) ≡ true
lanes_kept m f [] xs zs some zero_lane base k l h = base k l h
lanes_kept m f (e ∷ es) xs zs some zero_lane base k l h = by (e.number == k) refl (λ j. lanes_kept m f es xs zs some (λ i a. zero_lane i (later (i == e.number) (is_among i (numbers_of es)) a)) base k l j)
  where
    later : (a b : Bool) → b ≡ true → (a || b) ≡ true
    later true b e = refl
    later false b e = e

    -- where it is named, by itself or before
    front : (ys : List Near) → (e.number == k) ≡ true → ((l : ℕ) → has_lane (ys ++ zs) k l ≡ true → has_lane (ys ++ zs) k (f k) ≡ true) → f k ≡ 0 → (l : ℕ) → has_lane (ys ++ (nears m (e ∷ es) ++ zs)) k l ≡ true → has_lane (ys ++ (nears m (e ∷ es) ++ zs)) k (f k) ≡ true
    front [] i b z l h = ap (λ c. by_number c (f k) (record { number = e.number; lanes = m }) (has_lane (nears m es ++ zs) k (f k))) i ∙ ap (λ j. nat_lt j m) z ∙ lt-ltb 0 m (omega (arith, some))
    front (y ∷ ys) i b z l h = at_near (y.number == k) refl (front ys i) h
      where
        at_near : (c : Bool) → (y.number == k) ≡ c → (((l : ℕ) → has_lane (ys ++ zs) k l ≡ true → has_lane (ys ++ zs) k (f k) ≡ true) → f k ≡ 0 → (l : ℕ) → has_lane (ys ++ (nears m (e ∷ es) ++ zs)) k l ≡ true → has_lane (ys ++ (nears m (e ∷ es) ++ zs)) k (f k) ≡ true)
            → by_number (y.number == k) l y (has_lane (ys ++ (nears m (e ∷ es) ++ zs)) k l) ≡ true → has_lane ((y ∷ ys) ++ (nears m (e ∷ es) ++ zs)) k (f k) ≡ true
        at_near true j rest h =
            ap (λ c. by_number c (f k) y (has_lane (ys ++ (nears m (e ∷ es) ++ zs)) k (f k))) j ∙ sym (ap (λ c. by_number c (f k) y (has_lane (ys ++ zs) k (f k))) j)
            ∙ b l (ap (λ c. by_number c l y (has_lane (ys ++ zs) k l)) j ∙ sym (ap (λ c. by_number c l y (has_lane (ys ++ (nears m (e ∷ es) ++ zs)) k l)) j) ∙ h)
        at_near false j rest h =
            ap (λ c. by_number c (f k) y (has_lane (ys ++ (nears m (e ∷ es) ++ zs)) k (f k))) j
            ∙ rest (λ l g. sym (ap (λ c. by_number c (f k) y (has_lane (ys ++ zs) k (f k))) j) ∙ b l (ap (λ c. by_number c l y (has_lane (ys ++ zs) k l)) j ∙ g)) z l
            (sym (ap (λ c. by_number c l y (has_lane (ys ++ (nears m (e ∷ es) ++ zs)) k l)) j) ∙ h)

    by : (b : Bool) → (e.number == k) ≡ b → (has_lane (xs ++ (nears m es ++ zs)) k l ≡ true → has_lane (xs ++ (nears m es ++ zs)) k (f k) ≡ true) → has_lane (xs ++ (nears m (e ∷ es) ++ zs)) k (f k) ≡ true
    by true i rest = front xs i (λ l. base k l) (zero_lane k (ap (λ b. b || is_among k (numbers_of es)) (eq-eqb k e.number (sym (eqb-true e.number k i))))) l h
    by false i rest = inserted xs (nears m es ++ zs) (record { number = e.number; lanes = m }) k (f k) i ∙ rest (sym (inserted xs (nears m es ++ zs) (record { number = e.number; lanes = m }) k l i) ∙ h)

one_lane : (c : ℕ) (ds : List ℕ) → lanes_of (element_counters c ds) ≡ 1
one_lane c [] = refl
one_lane c (d ∷ []) = refl
one_lane c (d ∷ e ∷ ds) = one_lane (suc c) (e ∷ ds)

-- a number is that of an element's counter
number_at : (c : ℕ) (ds : List ℕ) (k : ℕ) → is_among k (numbers_of (element_counters c ds)) ≡ true → (j : ℕ) × (j < length ds) × (k ≡ c + j)
number_at c [] k h = absurd (true≢false (sym h))
number_at c (d ∷ ds) k h = by (k == c) refl h (λ e. number_at (suc c) ds k e)
  where
    by : (b : Bool) → (k == c) ≡ b → (b || is_among k (numbers_of (element_counters (suc c) ds))) ≡ true → (is_among k (numbers_of (element_counters (suc c) ds)) ≡ true → (j : ℕ) × (j < length ds) × (k ≡ suc c + j)) → (j : ℕ) × (j < length (d ∷ ds)) × (k ≡ c + j)
    by true i e rest = (0, omega arith, (let same = eqb-true k c i in omega (arith, same)))
    by false i e rest = let r = rest e in (suc r.0, (let lt = r.1 in omega (arith, lt)), (let same = r.2 in omega (arith, same)))

pub not_among : (numbers : List ℕ) (c : ℕ) (ds : List ℕ) (j : ℕ) → AreApart numbers (element_counters c ds) → j < length ds → is_among (c + j) numbers ≡ false
not_among numbers c [] j h lt = absurd (omega (arith, lt))
not_among numbers c (d ∷ ds) zero h lt = subst (λ k. is_among k numbers ≡ false) {x = c} {y = c + 0} (omega arith) h.0
not_among numbers c (d ∷ ds) (suc j) h lt = subst (λ k. is_among k numbers ≡ false) {x = suc c + j} {y = c + suc j} (omega arith) (not_among numbers (suc c) ds j h.1 (omega (arith, lt)))

last_among : (c : PlainCounter) (counters : List PlainCounter) → is_among (last_number (c ∷ counters)) (numbers_of (c ∷ counters)) ≡ true
last_among c [] = ap (λ b. b || false) (eq-eqb c.number c.number refl)
last_among c (d ∷ counters) = or_right (last_number (d ∷ counters) == c.number) (is_among (last_number (d ∷ counters)) (numbers_of (d ∷ counters))) (last_among d counters)

module _ (core : PlainCore) (around inside : Around) (w : Within) (counters : List PlainCounter) (owned : List ℕ) (plain : ℕ → Scope) (lanes : Scope) (count : ℕ) (g : IsGroup core around inside w counters owned plain lanes count)
    (c : ℕ) (ds : List ℕ) (apart : AreApart (numbers_of counters) (element_counters c ds)) (zero_lanes : (l : ℕ) → NoLanes (in_lane (memory_order core) counters owned w l) c (length ds)) where
  -- with the counters of elements around
  abbrev pub outside : Around
  outside = within around (element_counters c ds) []

  abbrev pub inside_too : Around
  inside_too = record { counters = (within outside counters owned).counters; owned = inside.owned }

  abbrev lane_at : ℕ → Within
  lane_at l = in_lane (memory_order core) counters owned w l

  -- what is right inside of the elements' counters is right where they stand outside
  pub front_right : (ops : List PlainOp) → are_operations_right_after core (within (within around counters owned) (element_counters c ds) []) [] ops ≡ true → are_operations_right_after core (within outside counters owned) [] ops ≡ true
  front_right ops h =
      right_kept core (owned ++ around.owned) (within (within around counters owned) (element_counters c ds) []).counters (within outside counters owned).counters
      (λ k l. moved_out (lanes_of counters) (lanes_of (element_counters c ds)) (element_counters c ds) counters around.counters apart k l) [] ops h

  together : (l : ℕ) → l < lanes_of counters → GoTogether core (unrolled core) (within outside counters owned) inside_too (lane_at l)
  together l lt = record {
    counters = refl;
    in_lanes = lanes_kept (lanes_of (element_counters c ds)) (lane_at l).lane (element_counters c ds) (nears (lanes_of counters) counters) around.counters (let e = one_lane c ds in omega (arith, e))
        (λ k i. (let r = number_at c ds k i in ap (lane_at l).lane r.2 ∙ zero_lanes l r.0 r.1)) (λ k j. (g.together l lt).in_lanes k j);
    memories = λ m u. (g.together l lt).memories m u;
  }

  -- the last counter of the loop is none of them
  not_last : (lanes_of counters == 1) ≡ false → is_among (last_number counters) (numbers_of counters) ≡ true
  not_last several = by counters several
    where
      by : (cs : List PlainCounter) → (lanes_of cs == 1) ≡ false → is_among (last_number cs) (numbers_of cs) ≡ true
      by [] e = absurd (true≢false e)
      by (x ∷ cs) e = last_among x cs

  module _ (v : List ℤ) where
    abbrev pub plain_at : ℕ → Scope
    plain_at l = in_element (plain l) c ds v

    abbrev pub lanes_at : Scope
    lanes_at = in_element lanes c ds v

    last_same : (lanes_of counters == 1) ≡ false → lanes_at (last_number counters) ≡ lanes (last_number counters)
    last_same several = elim (inside_or (is_live (element_loops c ds) v) lanes lanes c ds v (last_number counters)) [
      | inl h ↦ absurd (true≢false (sym (not_last several) ∙ subst (λ k. is_among k (numbers_of counters) ≡ false) (sym h.is) (not_among (numbers_of counters) c ds h.offset apart h.below)))
      | inr h ↦ h.0
    ]

    pub group_at : IsGroup core outside inside_too w counters owned plain_at lanes_at count
    group_at = record {
      copies = λ m u. g.copies m u;
      bound = g.bound;
      valid = g.valid;
      apart = g.apart;
      together = together;
      rooms = λ l lt m u. g.rooms l lt m u;
      scopes = λ l lt k. (elim (inside_or (is_live (element_loops c ds) v) lanes (plain l) c ds v k) [
        | inl h ↦ ap (λ x. count_word x ((lane_at l).lane k)) h.same ∙ ap (count_word (plain_at l k)) (ap (lane_at l).lane h.is ∙ zero_lanes l h.offset h.below)
        | inr h ↦ ap (λ x. count_word x ((lane_at l).lane k)) h.0 ∙ g.scopes l lt k ∙ ap (λ x. count_word x 0) (sym h.1)
      ]);
      others = λ k l ne. (elim (inside_or (is_live (element_loops c ds) v) (plain l) (plain 0) c ds v k) [
        | inl h ↦ ap (λ x. count_word x 0) h.same
        | inr h ↦ ap (λ x. count_word x 0) h.0 ∙ g.others k l ne ∙ ap (λ x. count_word x 0) (sym h.1)
      ]);
      live = λ several l lt. ap (λ (x : InGroup). x.live l) (last_same several) ∙ g.live several l lt;
      masked = λ several l le lt. ap (λ (x : InGroup). x.live l) (last_same several) ∙ g.masked several l le lt;
      some = g.some;
      most = g.most;
    }
