-- Where the copies of memories stand in a list.
use Rattle.std.proofs.Common.{◌≡◌, ℕ, zero, suc, ◌+◌, ◌<◌, true, false, cond, List, [], ◌∷◌, length, map, refl, sym, ◌∙◌, ap, subst, arith, eqb, inl, inr, ◌==◌}
use Rattle.std.proofs.lemmas.Bool.{eq-eqb}
use Rattle.std.proofs.lemmas.Bool.Decides.{eqb_tells}
use Rattle.std.proofs.lemmas.List.{length-map}
use Rattle.std.specs.Prelude.{slice_index_or}
use Rattle.sp_core.specs.Declarations.{mem}
use Rattle.sp_core.specs.PlainCore.{PlainCore, no_mem}
use Rattle.sp_lanes.specs.Order.{occurrence, memory_order}
use Rattle.sp_lanes.specs.Unrolled.{unrolled}
use Rattle.sp_lane_rules.specs.Copies.{one_if, occurrences}
use Rattle.sp_lane_rules.specs.CopiesLaws.{AreApart, AreDeclared}

-- one step along a list
pub found_here : (m : ℕ) (rest : List ℕ) → occurrence m 0 (m ∷ rest) ≡ 0
found_here m rest = ap (λ b. cond b 0 (suc (occurrence m 0 rest))) (eq-eqb m m refl)

pub found_later : (m k : ℕ) (rest : List ℕ) → occurrence m (suc k) (m ∷ rest) ≡ suc (occurrence m k rest)
found_later m k rest = ap (λ b. cond b (suc (occurrence m k rest)) (suc (occurrence m (suc k) rest))) (eq-eqb m m refl)

pub found_past : (x m k : ℕ) (rest : List ℕ) → eqb x m ≡ false → occurrence m k (x ∷ rest) ≡ suc (occurrence m k rest)
found_past x m k rest e = ap (λ b. cond b (elim k [ zero ↦ 0 | suc j ↦ suc (occurrence m j rest) ]) (suc (occurrence m k rest))) e

-- a copy stands in the list, and what stands there is given by its memory
module _ {A : Type 0} (f : ℕ → A) (d : A) where
  abbrev Stands : ℕ → List ℕ → ℕ → Type 0
  Stands m xs i = (i < length xs) × (slice_index_or (map f xs) i d ≡ f m)

  pub found_in : (m k : ℕ) (xs : List ℕ) → k < occurrences m xs → Stands m xs (occurrence m k xs)
  found_in m k [] lt = absurd (omega arith)
  found_in m k (x ∷ xs) lt = elim (eqb_tells x m) [
    | inl same ↦ here k (λ j l. found_in m j xs l) same.1 (let e : one_if (x == m) ≡ 1 = ap one_if same.0 in omega (arith, e))
    | inr apart ↦ subst (Stands m (x ∷ xs)) (sym (found_past x m k xs apart.0)) (next (occurrence m k xs) (found_in m k xs (let e : one_if (x == m) ≡ 0 = ap one_if apart.0 in omega (arith, e))))
  ]
    where
      next : (i : ℕ) → Stands m xs i → Stands m (x ∷ xs) (suc i)
      next i h = (omega (arith, h.0), h.1)

      here : (k : ℕ) → ((j : ℕ) → j < occurrences m xs → Stands m xs (occurrence m j xs)) → x ≡ m → k < 1 + occurrences m xs → Stands m (x ∷ xs) (occurrence m k (x ∷ xs))
      here zero r e l = subst (Stands m (x ∷ xs)) (sym (ap (λ y. occurrence m 0 (y ∷ xs)) e ∙ found_here m xs)) (omega arith, ap f e)
      here (suc j) r e l = subst (Stands m (x ∷ xs)) (sym (ap (λ y. occurrence m (suc j) (y ∷ xs)) e ∙ found_later m j xs)) (next (occurrence m j xs) (r j (omega arith)))

-- each place of a list is that of a copy
pub each_found : (xs : List ℕ) (i : ℕ) → i < length xs → (m : ℕ) × (k : ℕ) × (k < occurrences m xs) × (occurrence m k xs ≡ i)
each_found [] i lt = absurd (omega arith)
each_found (x ∷ xs) zero lt = (x, zero, (let e : one_if (x == x) ≡ 1 = ap one_if (eq-eqb x x refl) in omega (arith, e)), found_here x xs)
each_found (x ∷ xs) (suc i) lt = let r = each_found xs i (omega arith) in elim (eqb_tells x r.0) [
  | inl same ↦ (r.0, suc r.1, (let e : one_if (x == r.0) ≡ 1 = ap one_if same.0 in omega (arith, e, r.2)), ap (λ y. occurrence r.0 (suc r.1) (y ∷ xs)) same.1 ∙ found_later r.0 r.1 xs ∙ ap suc r.3)
  | inr apart ↦ (r.0, r.1, (let e : one_if (x == r.0) ≡ 0 = ap one_if apart.0 in omega (arith, e, r.2)), found_past x r.0 r.1 xs apart.0 ∙ ap suc r.3)
]

-- what stands at a place tells the memory, and the number of it before tells which copy it is
abbrev copies_before : ℕ → ℕ → List ℕ → ℕ
copies_before m zero xs = 0
copies_before m (suc i) [] = 0
copies_before m (suc i) (x ∷ xs) = one_if (x == m) + copies_before m i xs

which_copy : (m k : ℕ) (xs : List ℕ) → k < occurrences m xs → copies_before m (occurrence m k xs) xs ≡ k
which_copy m k [] lt = absurd (omega arith)
which_copy m k (x ∷ xs) lt = elim (eqb_tells x m) [
  | inl same ↦ here k (λ j l. which_copy m j xs l) same.0 same.1 (let e : one_if (x == m) ≡ 1 = ap one_if same.0 in omega (arith, e))
  | inr apart ↦
      let e : one_if (x == m) ≡ 0 = ap one_if apart.0 in
      ap (λ i. copies_before m i (x ∷ xs)) (found_past x m k xs apart.0) ∙ omega (arith, e, which_copy m k xs (omega (arith, e)))
]
  where
    here : (k : ℕ) → ((j : ℕ) → j < occurrences m xs → copies_before m (occurrence m j xs) xs ≡ j) → eqb x m ≡ true → x ≡ m → k < 1 + occurrences m xs → copies_before m (occurrence m k (x ∷ xs)) (x ∷ xs) ≡ k
    here zero r b e l = ap (λ i. copies_before m i (x ∷ xs)) (ap (λ y. occurrence m 0 (y ∷ xs)) e ∙ found_here m xs)
    here (suc j) r b e l = ap (λ i. copies_before m i (x ∷ xs)) (ap (λ y. occurrence m (suc j) (y ∷ xs)) e ∙ found_later m j xs)
        ∙ (let a : one_if (x == m) ≡ 1 = ap one_if b in omega (arith, a, r j (omega arith)))

pub are_apart : (order : List ℕ) → AreApart order
are_apart order m k n j l r e =
    let same : m ≡ n = sym (found_in (λ x. x) 0 m k order l).1 ∙ ap (λ i. slice_index_or (map (λ x. x) order) i 0) e ∙ (found_in (λ x. x) 0 n j order r).1 in
    (same, sym (which_copy m k order l) ∙ ap (λ i. copies_before m i order) e ∙ ap (λ x. copies_before x (occurrence n j order) order) same ∙ which_copy n j order r)

-- the memories of lanes are copies
pub are_declared : (core : PlainCore) → AreDeclared core
unfolding unrolled
are_declared core = (
  λ m k l. (let f = found_in (mem core) no_mem m k (memory_order core) l in (subst (λ n. occurrence m k (memory_order core) < n) (sym (length-map (memory_order core) (mem core))) f.0, f.1)),
  λ i l. each_found (memory_order core) i (subst (λ n. i < n) (length-map (memory_order core) (mem core)) l),
)
