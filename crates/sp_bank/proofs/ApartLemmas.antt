-- Two places are in different banks whatever is added to both, exactly where their distance around the period is a block or more.
use Rattle.std.proofs.Common.{◌≡◌, ◌≢◌, ℕ, ◌+◌, ◌-◌, ◌*◌, ◌<◌, ◌≤◌, ℤ, pos, neg_ℤ, ◌+ℤ◌, ◌-ℤ◌, ◌*ℤ◌, refl, ap, sym, ◌∙◌, arith, ◌⊎◌, inl, inr, List, Bool, true, false, IsTrue, ◌↔◌}
use Rattle.std.specs.Int.{int_div_euclid, int_rem_euclid}
use Rattle.std.proofs.lemmas.Int.{ints}
use Rattle.std.proofs.lemmas.Nat.{mul-lt}
use Rattle.std.proofs.lemmas.Bool.Decides.{leb_tells}
use borrow.Author.Differences.{up, down, sum_is_lem, neg_is}
use Rattle.sp_bank.specs.Banking.{Banking}
use Rattle.sp_bank.specs.Separation.{bank_at, weighted_sum, AreApart, IsAbove, AreFar, residue_of}
use Rattle.sp_bank.proofs.Floor.{Parts, parts, quotient_of, remainder_of, between}

-- v stands t periods up, at place r of bank k
pub record Stands (b : Banking) (v t : ℤ) (k r : ℕ) : Type 0 where
  pub in_bank : r < b.block
  pub bank : k < b.banks
  pub whole : v ≡ (t *ℤ pos (b.banks * b.block)) +ℤ pos (k * b.block + r)

regroup : (t : ℤ) (n b k : ℕ) (q : ℤ) → q ≡ (t *ℤ pos n) +ℤ pos k → (q *ℤ pos b) ≡ (t *ℤ pos (n * b)) +ℤ pos (k * b)
regroup t n b k q e =
    let flat : up q + down t * n ≡ up t * n + k + down q = omega (arith, ints, e) in
    let grown : (up q + down t * n) * b ≡ (up t * n + k + down q) * b = ap (λ z. z * b) flat in
    omega (arith, ints, grown)

join : (v w z : ℤ) (x r : ℕ) → v ≡ w +ℤ pos r → w ≡ z +ℤ pos x → v ≡ z +ℤ pos (x + r)
join v w z x r e f = omega (arith, ints)

apart_again : (v w z : ℤ) (x r : ℕ) → v ≡ z +ℤ pos (x + r) → w ≡ z +ℤ pos x → v ≡ w +ℤ pos r
apart_again v w z x r e f = omega (arith, ints)

pub stands : (b : Banking) (v : ℤ) → 0 < b.block → 0 < b.banks → (t : ℤ) × (k : ℕ) × (r : ℕ) × (bank_at b v ≡ pos k) × Stands b v t k r
stands b v h k =
    let inner = parts v b.block h in
    let outer = parts (int_div_euclid v (pos b.block)) b.banks k in (
      int_div_euclid (int_div_euclid v (pos b.block)) (pos b.banks),
      outer.0,
      inner.0,
      outer.1,
      record {
        in_bank = inner.2.below;
        bank = outer.2.below;
        whole = join v _ _ (outer.0 * b.block) inner.0 inner.2.whole (regroup _ b.banks b.block outer.0 _ outer.2.whole);
      },
    )

pub bank_of_stands : (b : Banking) (v t : ℤ) (k r : ℕ) → Stands b v t k r → bank_at b v ≡ pos k
bank_of_stands b v t k r s =
    let q : ℤ = (t *ℤ pos b.banks) +ℤ pos k in
    let inner : Parts v q b.block r = record {
      below = s.in_bank;
      whole = apart_again v _ _ (k * b.block) r s.whole (regroup t b.banks b.block k q refl);
    } in
    let outer : Parts q t b.banks k = record { below = s.bank; whole = refl } in
    ap (λ z. int_rem_euclid z (pos b.banks)) (quotient_of v q b.block r inner) ∙ remainder_of q t b.banks k outer

line : (s c d tp up' mp np : ℤ) (x y r1 r2 kb gap : ℕ) →
    s +ℤ c ≡ tp +ℤ pos (kb + r1) → c ≡ mp +ℤ pos x → s +ℤ d ≡ up' +ℤ pos (kb + r2) → d ≡ np +ℤ pos y → gap + (r1 + y) ≡ r2 + x →
    (tp +ℤ np) ≡ ((up' +ℤ mp) +ℤ pos gap)
line s c d tp up' mp np x y r1 r2 kb gap e f g h i = omega (arith, ints)

same_pos : (j k : ℕ) → pos j ≡ pos k → j ≡ k
same_pos j k e = cc

pub far_apart : (b : Banking) (c d m n : ℤ) (x y : ℕ) → 0 < b.block → 0 < b.banks →
    c ≡ (m *ℤ pos (b.banks * b.block)) +ℤ pos x → d ≡ (n *ℤ pos (b.banks * b.block)) +ℤ pos y → IsAbove b x y →
    (s : ℤ) → bank_at b (s +ℤ c) ≢ bank_at b (s +ℤ d)
far_apart b c d m n x y block banks is_c is_d far s same =
    let (t1, k1, r1, e1, at_c) = stands b (s +ℤ c) block banks in
    let (t2, k2, r2, e2, at_d) = stands b (s +ℤ d) block banks in
    let one_bank = same_pos k1 k2 (sym e1 ∙ same ∙ e2) in
    let moved : s +ℤ d ≡ (t2 *ℤ pos (b.banks * b.block)) +ℤ pos (k1 * b.block + r2) =
    at_d.whole ∙ ap (λ k. (t2 *ℤ pos (b.banks * b.block)) +ℤ pos (k * b.block + r2)) (sym one_bank) in
    let gap = (r2 + x) - (r1 + y) in
    let is_gap : gap + (r1 + y) ≡ r2 + x = omega (arith, far.block_up, at_c.in_bank) in
    between t1 m t2 n (b.banks * b.block) gap (omega (arith, far.block_up, at_c.in_bank)) (omega (arith, far.block_down, at_d.in_bank, at_c.in_bank, far.block_up))
    (line s c d _ _ _ _ x y r1 r2 (k1 * b.block) gap at_c.whole is_c moved is_d is_gap)

sub-mul : (m n : ℤ) (p : ℕ) → (m -ℤ n) *ℤ pos p ≡ (m *ℤ pos p) -ℤ (n *ℤ pos p)
sub-mul m n p =
    let less = sum_is_lem m (neg_ℤ n) in
    let grown : (up (m -ℤ n) + down m + down (neg_ℤ n)) * p ≡ (down (m -ℤ n) + up m + up (neg_ℤ n)) * p = ap (λ z. z * p) less in
    let turned_up : up (neg_ℤ n) * p ≡ down n * p = ap (λ z. z * p) (neg_is n).0 in
    let turned_down : down (neg_ℤ n) * p ≡ up n * p = ap (λ z. z * p) (neg_is n).1 in
    omega (arith, ints, grown, turned_up, turned_down)

nothing : (b : Banking) (d : ℤ) → 0 < b.block → 0 < b.banks → bank_at b (neg_ℤ d +ℤ d) ≡ pos 0
nothing b d block banks =
    bank_of_stands b (neg_ℤ d +ℤ d) (pos 0) 0 0 (record { in_bank = block; bank = banks; whole = zero_is _ })
  where
    zero_is : (p : ℕ) → neg_ℤ d +ℤ d ≡ (pos 0 *ℤ pos p) +ℤ pos (0 * b.block + 0)
    zero_is p = omega (arith, ints)

shifted : (c d mp np w : ℤ) (x y z gap : ℕ) → c ≡ mp +ℤ pos x → d ≡ np +ℤ pos y → w ≡ mp -ℤ np → z ≡ 0 → gap + y ≡ x →
    neg_ℤ d +ℤ c ≡ w +ℤ pos (z + gap)
shifted c d mp np w x y z gap e f g h i = omega (arith, ints)

-- where they are nearer, some s puts both in bank 0
pub near_together : (b : Banking) (c d m n : ℤ) (x y : ℕ) → 0 < b.banks →
    c ≡ (m *ℤ pos (b.banks * b.block)) +ℤ pos x → d ≡ (n *ℤ pos (b.banks * b.block)) +ℤ pos y → y ≤ x → x < y + b.block →
    bank_at b (neg_ℤ d +ℤ c) ≡ bank_at b (neg_ℤ d +ℤ d)
near_together b c d m n x y banks is_c is_d low near =
    bank_of_stands b (neg_ℤ d +ℤ c) (m -ℤ n) 0 (x - y) (record {
      in_bank = omega arith;
      bank = banks;
      whole = shifted c d _ _ _ x y (0 * b.block) (x - y) is_c is_d (sub-mul m n (b.banks * b.block)) (omega arith) (omega arith);
    })
    ∙ sym (nothing b d (omega arith) banks)

one_less : (m : ℤ) (p : ℕ) → (m -ℤ pos 1) *ℤ pos p ≡ (m *ℤ pos p) -ℤ pos p
one_less m p = sub-mul m (pos 1) p ∙ ap (λ z. (m *ℤ pos p) -ℤ z) (one_mul p)
  where
    one_mul : (k : ℕ) → pos 1 *ℤ pos k ≡ pos k
    one_mul k = omega (arith, ints)

around : (c d mp np w w' : ℤ) (x y z p gap : ℕ) → c ≡ mp +ℤ pos x → d ≡ np +ℤ pos y → w ≡ w' -ℤ pos p → w' ≡ np -ℤ mp → z ≡ 0 → gap + x ≡ y + p →
    neg_ℤ c +ℤ d ≡ w +ℤ pos (z + gap)
around c d mp np w w' x y z p gap e f g g' h i = omega (arith, ints)

pub near_around : (b : Banking) (c d m n : ℤ) (x y : ℕ) → 0 < b.banks →
    c ≡ (m *ℤ pos (b.banks * b.block)) +ℤ pos x → d ≡ (n *ℤ pos (b.banks * b.block)) +ℤ pos y → x < b.banks * b.block → y + b.banks * b.block < x + b.block →
    bank_at b (neg_ℤ c +ℤ c) ≡ bank_at b (neg_ℤ c +ℤ d)
near_around b c d m n x y banks is_c is_d high near =
    nothing b c (omega arith) banks
    ∙ sym (bank_of_stands b (neg_ℤ c +ℤ d) ((n -ℤ m) -ℤ pos 1) 0 (y + b.banks * b.block - x) (record {
      in_bank = omega arith;
      bank = banks;
      whole = around c d _ _ _ _ x y (0 * b.block) (b.banks * b.block) (y + b.banks * b.block - x) is_c is_d
          (one_less (n -ℤ m) (b.banks * b.block)) (sub-mul n m (b.banks * b.block)) (omega arith) (omega arith);
    }))

-- ---- the test of two accesses

remainder_parts : (v : ℤ) (p x : ℕ) → 0 < p → pos x ≡ int_rem_euclid v (pos p) → (m : ℤ) × (x < p) × (v ≡ (m *ℤ pos p) +ℤ pos x)
remainder_parts v p x h e =
    let (r, is, found) = parts v p h in
    let same : x ≡ r = same_pos x r (e ∙ is) in
    (int_div_euclid v (pos p), omega (arith, found.below), found.whole ∙ ap (λ z. (int_div_euclid v (pos p) *ℤ pos p) +ℤ pos z) (sym same))

pub AreApart-from_far : (b : Banking) (c d : List ℤ) (x y : ℕ) → 0 < b.block → 0 < b.banks →
    pos x ≡ residue_of b c → pos y ≡ residue_of b d → AreFar b x y → AreApart b c d
AreApart-from_far b c d x y block banks is_x is_y far differ s same =
    let some : 0 < b.banks * b.block = mul-lt 0 0 b.banks b.block banks block in
    let (m, low_x, at_c) = remainder_parts (weighted_sum b.alpha c) (b.banks * b.block) x some is_x in
    let (n, low_y, at_d) = remainder_parts (weighted_sum b.alpha d) (b.banks * b.block) y some is_y in
    elim far [
      | inl f ↦ far_apart b _ _ m n x y block banks at_c at_d f s same
      | inr f ↦ far_apart b _ _ n m y x block banks at_d at_c f s (sym same)
    ]

-- how two numbers within the period are near
pub near_cases : (b : Banking) (x y : ℕ) → ¬ (AreFar b x y) →
    ((y ≤ x) × (x < y + b.block)) ⊎ (((x ≤ y) × (y < x + b.block)) ⊎ ((y + b.banks * b.block < x + b.block) ⊎ (x + b.banks * b.block < y + b.block)))
near_cases b x y not_far = elim (leb_tells (y + b.block) x) [
  | inl up_x ↦ elim (leb_tells (x + b.block) (y + b.banks * b.block)) [
    | inl round ↦ absurd (not_far (inl (record { block_up = up_x.1; block_down = round.1 })))
    | inr past ↦ inr (inr (inl past.1))
  ]
  | inr low_x ↦ elim (leb_tells (x + b.block) y) [
    | inl up_y ↦ elim (leb_tells (y + b.block) (x + b.banks * b.block)) [
      | inl round ↦ absurd (not_far (inr (record { block_up = up_y.1; block_down = round.1 })))
      | inr past ↦ inr (inr (inr past.1))
    ]
    | inr low_y ↦ elim (leb_tells y x) [
      | inl u ↦ inl (u.1, low_x.1)
      | inr u ↦ inr (inl (below _ _ u.1, low_y.1))
    ]
  ]
]
  where
    below : (i j : ℕ) → i < j → i ≤ j
    below i j h = omega arith

pub far_from_AreApart : (b : Banking) (c d : List ℤ) (x y : ℕ) → 0 < b.block → 0 < b.banks →
    pos x ≡ residue_of b c → pos y ≡ residue_of b d → c ≢ d → ¬ (AreFar b x y) → ¬ (AreApart b c d)
far_from_AreApart b c d x y block banks is_x is_y differ not_far apart =
    let some : 0 < b.banks * b.block = mul-lt 0 0 b.banks b.block banks block in
    let (m, low_x, at_c) = remainder_parts (weighted_sum b.alpha c) (b.banks * b.block) x some is_x in
    let (n, low_y, at_d) = remainder_parts (weighted_sum b.alpha d) (b.banks * b.block) y some is_y in
    elim (near_cases b x y not_far) [
      | inl h ↦ apart differ (neg_ℤ (weighted_sum b.alpha d)) (near_together b _ _ m n x y banks at_c at_d h.0 h.1)
      | inr (inl h) ↦ apart differ (neg_ℤ (weighted_sum b.alpha c)) (sym (near_together b _ _ n m y x banks at_d at_c h.0 h.1))
      | inr (inr (inl h)) ↦ apart differ (neg_ℤ (weighted_sum b.alpha c)) (near_around b _ _ m n x y banks at_c at_d low_x h)
      | inr (inr (inr h)) ↦ apart differ (neg_ℤ (weighted_sum b.alpha d)) (sym (near_around b _ _ n m y x banks at_d at_c low_y h))
    ]

-- the test of distances decides, where the constants differ
pub apart_decided : (b : Banking) (c d : List ℤ) (x y : ℕ) (far : Bool) → 0 < b.block → 0 < b.banks →
    pos x ≡ residue_of b c → pos y ≡ residue_of b d → c ≢ d → IsTrue far ↔ AreFar b x y → IsTrue far ↔ AreApart b c d
apart_decided b c d x y true block banks is_x is_y differ test =
    (λ t. AreApart-from_far b c d x y block banks is_x is_y (test.0 t), λ t. refl)
apart_decided b c d x y false block banks is_x is_y differ test =
    (λ t. absurd (not_true t), λ apart. absurd (far_from_AreApart b c d x y block banks is_x is_y differ (λ far. not_true (test.1 far)) apart))
  where
    not_true : false ≡ true → ⊥
    not_true t = cc

pub block_positive : (b : ℕ) → (b ≡ 1) ⊎ ((b ≡ 2) ⊎ (b ≡ 4)) → 0 < b
block_positive b (inl e) = omega arith
block_positive b (inr (inl e)) = omega arith
block_positive b (inr (inr e)) = omega arith
