-- From the rule that memories are owned once: how often each stands among those that are owned.
use Rattle.std.proofs.Common.{◌≡◌, ℕ, zero, suc, ◌+◌, ◌*◌, ◌<◌, ◌≤◌, Bool, true, false, not, ◌&&◌, ◌||◌, List, [], ◌∷◌, ◌++◌, length, refl, sym, ◌∙◌, ap, subst, arith, ◌⊎◌, inl, inr, ◌==◌, nat_lt}
use Rattle.std.proofs.lemmas.Bool.{eq-eqb, ne_eqb, and_parts, ltb-true, true≢false, or_right}
use Rattle.std.proofs.lemmas.Bool.Decides.{eqb_tells}
use Rattle.sp_core.specs.Around.{is_port_kind}
use Rattle.sp_core.specs.Declarations.{mem, is_among}
use Rattle.sp_core.specs.NodeRules.{is_owned_once}
use Rattle.sp_core.specs.PlainCore.{PlainCore}
use Rattle.sp_core.specs.Invariant.{owned_in}
use Rattle.sp_lanes.specs.Order.{is_port, memory_order, occurrence}
use Rattle.sp_lanes.specs.Unrolled.{unrolled}
use Rattle.sp_lanes.specs.Within.{outside}
use Rattle.sp_lane_rules.specs.Copies.{one_if, occurrences, copies_in}
use Rattle.sp_lane_rules.specs.CopiesLaws.{HaveOwners}
use Rattle.sp_lane_rules.proofs.CopiesCounts.{are_counted}
use Rattle.sp_lane_rules.proofs.CopiesFound.{found_in, are_apart}
use Rattle.sp_lane_rules.proofs.CopiesOwners.{node_owns, no_copies}
use Rattle.sp_lane_rules.proofs.CopiesTotals.{span, span_in, span_out}

pub among_more : (m : ℕ) (xs ys : List ℕ) → is_among m xs ≡ true → is_among m (xs ++ ys) ≡ true
among_more m [] ys e = absurd (true≢false (sym e))
among_more m (x ∷ xs) ys e = by (m == x) (is_among m xs) (is_among m (xs ++ ys)) (among_more m xs ys) e
  where
    by : (b c d : Bool) → (c ≡ true → d ≡ true) → (b || c) ≡ true → (b || d) ≡ true
    by true c d h f = refl
    by false c d h f = h f

among_end : (m : ℕ) (xs : List ℕ) → is_among m (xs ++ m ∷ []) ≡ true
among_end m [] = ap (λ b. b || false) (eq-eqb m m refl)
among_end m (x ∷ xs) = or_right (m == x) (is_among m (xs ++ m ∷ [])) (among_end m xs)

not_true : (b : Bool) → not b ≡ true → b ≡ true → ⊥
not_true true e f = true≢false (sym e)
not_true false e f = true≢false (sym f)

module _ (core : PlainCore) where
  first_once : (earlier : List ℕ) (x : ℕ) (rest : List ℕ) → is_owned_once core earlier (x ∷ rest) ≡ true
      → ((x < length core.mems) × (is_port core x ≡ false)) × (is_among x earlier ≡ true → ⊥) × (is_owned_once core (earlier ++ x ∷ []) rest ≡ true)
  first_once earlier x rest e =
      let a = and_parts ((nat_lt x (length core.mems) && not (is_port_kind (mem core x).kind)) && not (is_among x earlier)) (is_owned_once core (earlier ++ x ∷ []) rest) e in
      let b = and_parts (nat_lt x (length core.mems) && not (is_port_kind (mem core x).kind)) (not (is_among x earlier)) a.0 in
      let c = and_parts (nat_lt x (length core.mems)) (not (is_port_kind (mem core x).kind)) b.0 in
      ((ltb-true x (length core.mems) c.0, not_false (is_port_kind (mem core x).kind) c.1), not_true (is_among x earlier) b.1, a.1)
    where
      not_false : (b : Bool) → not b ≡ true → b ≡ false
      not_false true e = absurd (true≢false (sym e))
      not_false false e = refl

  once_apart : (earlier xs : List ℕ) (m : ℕ) → is_owned_once core earlier xs ≡ true → is_among m earlier ≡ true → occurrences m xs ≡ 0
  once_apart earlier [] m e a = refl
  once_apart earlier (x ∷ rest) m e a =
      let f = first_once earlier x rest e in
      let other : one_if (x == m) ≡ 0 = ap one_if (ne_eqb x m (λ s. f.1 (subst (λ y. is_among y earlier ≡ true) (sym s) a))) in
      omega (arith, other, once_apart (earlier ++ x ∷ []) rest m f.2 (among_more m earlier (x ∷ []) a))

  pub once_most : (earlier xs : List ℕ) (m : ℕ) → is_owned_once core earlier xs ≡ true → occurrences m xs ≤ 1
  once_most earlier [] m e = omega arith
  once_most earlier (x ∷ rest) m e = let f = first_once earlier x rest e in elim (eqb_tells x m) [
    | inl same ↦
        let one : one_if (x == m) ≡ 1 = ap one_if same.0 in
        omega (arith, one, once_apart (earlier ++ x ∷ []) rest m f.2 (subst (λ y. is_among y (earlier ++ x ∷ []) ≡ true) same.1 (among_end x earlier)))
    | inr apart ↦ let none : one_if (x == m) ≡ 0 = ap one_if apart.0 in omega (arith, none, once_most (earlier ++ x ∷ []) rest m f.2)
  ]

  pub once_valid : (earlier xs : List ℕ) (m : ℕ) → is_owned_once core earlier xs ≡ true → 1 ≤ occurrences m xs → (m < length core.mems) × (is_port core m ≡ false)
  once_valid earlier [] m e c = absurd (omega arith)
  once_valid earlier (x ∷ rest) m e c = let f = first_once earlier x rest e in elim (eqb_tells x m) [
    | inl same ↦ subst (λ y. (y < length core.mems) × (is_port core y ≡ false)) same.1 f.0
    | inr apart ↦ let none : one_if (x == m) ≡ 0 = ap one_if apart.0 in once_valid (earlier ++ x ∷ []) rest m f.2 (omega (arith, none, c))
  ]

zero_or_more : (n : ℕ) → (n ≡ 0) ⊎ (1 ≤ n)
zero_or_more zero = inl refl
zero_or_more (suc n) = inr (omega arith)

-- a number is that of a copy, or past them all
tells_copy : (order : List ℕ) (m k : ℕ) → k < occurrences m order → (x j : ℕ) → j < occurrences x order
    → one_if (occurrence x j order == occurrence m k order) ≡ one_if (x == m) * one_if (j == k)
tells_copy order m k l x j h = elim (eqb_tells (occurrence x j order) (occurrence m k order)) [
  | inl same ↦ let a = are_apart order x j m k h l same.1 in
      let e : one_if (occurrence x j order == occurrence m k order) ≡ 1 = ap one_if same.0 in
      let f : one_if (x == m) ≡ 1 = ap one_if (eq-eqb x m a.0) in let g : one_if (j == k) ≡ 1 = ap one_if (eq-eqb j k a.1) in
      e ∙ sym (ap (λ n. n * one_if (j == k)) f ∙ omega (arith, g))
  | inr apart ↦ let e : one_if (occurrence x j order == occurrence m k order) ≡ 0 = ap one_if apart.0 in e ∙ sym (either apart.1)
]
  where
    either : (occurrence x j order ≡ occurrence m k order → ⊥) → one_if (x == m) * one_if (j == k) ≡ 0
    either ne = elim (eqb_tells x m) [
      | inr a ↦ ap (λ n. one_if n * one_if (j == k)) a.0 ∙ omega arith
      | inl s ↦ elim (eqb_tells j k) [
        | inr b ↦ ap (λ n. one_if (x == m) * one_if n) b.0 ∙ omega arith
        | inl t ↦ absurd (ne (ap (λ y. occurrence y j order) s.1 ∙ ap (λ y. occurrence m y order) t.1))
      ]
    ]

count_within : (m : ℕ) (xs : List ℕ) → occurrences m xs ≤ length xs
count_within m [] = omega arith
count_within m (x ∷ xs) = by (x == m) (count_within m xs)
  where
    by : (b : Bool) → occurrences m xs ≤ length xs → one_if b + occurrences m xs ≤ length (x ∷ xs)
    by true le = omega arith
    by false le = omega arith

tells_past : (order : List ℕ) (i m : ℕ) → length order ≤ i → (x j : ℕ) → j < occurrences x order
    → one_if (occurrence x j order == i) ≡ one_if (x == m) * one_if (j == length order)
tells_past order i m le x j h =
    let e : one_if (occurrence x j order == i) ≡ 0 = ap one_if (ne_eqb (occurrence x j order) i (λ s. absurd (omega (arith, s, (found_in (λ y. y) 0 x j order h).0)))) in
    let f : one_if (j == length order) ≡ 0 = ap one_if (ne_eqb j (length order) (λ s. absurd (omega (arith, s, h, count_within x order)))) in
    e ∙ sym (ap (λ n. one_if (x == m) * n) f ∙ omega arith)

pub have_owners : (core : PlainCore) → HaveOwners core
unfolding unrolled
have_owners core once lanes = (λ m k l. owned m k l, λ i le. past i le)
  where
    fits : (n : ℕ) → (0 + 1) * copies_in core.root n ≤ occurrences n (memory_order core)
    fits n = omega (arith, are_counted core n)

    found : (i m k : ℕ) → ((x j : ℕ) → j < occurrences x (memory_order core) → one_if (occurrence x j (memory_order core) == i) ≡ one_if (x == m) * one_if (j == k))
        → occurrences i (owned_in (unrolled core).root) ≡ span 0 (copies_in core.root m) k
    found i m k tells = node_owns (memory_order core) i m k tells core.root (outside (memory_order core)) lanes (once_most core [] (owned_in core.root) m once) fits
        ∙ ap (λ a. span a (copies_in core.root m) k) {x = 0 * copies_in core.root m} {y = 0} (omega arith)

    here : (m k : ℕ) → k < occurrences m (memory_order core) → span 0 (copies_in core.root m) k ≡ one_if (not (is_port core m))
    here m k l = elim (zero_or_more (occurrences m (owned_in core.root))) [
      | inl none ↦ let c : copies_in core.root m ≡ 0 = no_copies m core.root none in ap (λ n. span 0 n k) c ∙ sym (is_a_port (is_port core m) (nat_lt m (length core.mems)) (omega (arith, l, c, are_counted core m)))
      | inr some ↦
          let v = once_valid core [] (owned_in core.root) m once some in
          let p : one_if (is_port core m && nat_lt m (length core.mems)) ≡ 0 = ap (λ b. one_if (b && nat_lt m (length core.mems))) v.1 in
          span_in (copies_in core.root m) k (omega (arith, l, p, are_counted core m)) ∙ sym (ap (λ b. one_if (not b)) v.1)
    ]
      where
        is_a_port : (p b : Bool) → 1 ≤ one_if (p && b) → one_if (not p) ≡ 0
        is_a_port true b e = refl
        is_a_port false b e = absurd (omega arith)

    owned : (m k : ℕ) → k < occurrences m (memory_order core) → occurrences (occurrence m k (memory_order core)) (owned_in (unrolled core).root) ≡ one_if (not (is_port core m))
    owned m k l = found (occurrence m k (memory_order core)) m k (tells_copy (memory_order core) m k l) ∙ here m k l

    past : (i : ℕ) → length (memory_order core) ≤ i → occurrences i (owned_in (unrolled core).root) ≡ 0
    past i le =
        found i 0 (length (memory_order core)) (tells_past (memory_order core) i 0 le)
        ∙ span_out 0 (copies_in core.root 0) (length (memory_order core)) (omega (arith, count_within 0 (memory_order core), are_counted core 0))
