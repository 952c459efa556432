-- The bursts of a transfer, by its words.
use Rattle.std.proofs.Common.{◌≡◌, ℕ, zero, suc, ◌+◌, ◌-◌, ◌*◌, ◌/◌, ◌<◌, ◌≤◌, inl, inr, Bool, true, false, nat_lt, if◌then◌else◌, refl, sym, ap, ap₂, subst, ◌∙◌, arith, lt-ltb, le-ltb}
use Rattle.sp_time.specs.Lists.{total}
use Rattle.sp_channel_runs.specs.Bursts.{Burst, first_word, last_word, Moves, last_is, LastRight, bursts, bursts_end}
use Rattle.sp_transfer_runs.proofs.Passing.{by_order}

pub total_same : (f g : ℕ → ℕ) (n : ℕ) → ((a : ℕ) → a < n → f a ≡ g a) → total f n ≡ total g n
total_same f g zero h = refl
total_same f g (suc n) h = ap₂ (λ x y. x + y) (total_same f g n (λ a l. h a (omega (arith, l)))) (h n (omega arith))

total_head : (f : ℕ → ℕ) (n : ℕ) → total f (suc n) ≡ f 0 + total (λ a. f (suc a)) n
total_head f zero = omega arith
total_head f (suc n) = let h = total_head f n in omega (arith, h)

module _ (w : ℕ → ℕ) where
  -- the delays from an asking on
  abbrev pub sum_from : (i n : ℕ) → ℕ
  sum_from i n = total (λ a. w (i + a)) n

  sum_one : (i : ℕ) → sum_from i 1 ≡ w i
  sum_one i = let e : w (i + 0) ≡ w i = ap w (omega arith) in omega (arith, e)

  sum_head : (i n : ℕ) → sum_from i (suc n) ≡ w i + sum_from (suc i) n
  sum_head i n = total_head (λ a. w (i + a)) n ∙ ap₂ (λ x y. x + y) (ap w (let e : i + 0 ≡ i = omega arith in e)) (total_same (λ a. w (i + suc a)) (λ a. w (suc i + a)) n (λ a l. ap w (let e : i + suc a ≡ suc i + a = omega arith in e)))

  pub end_is : (c i full rest : ℕ) → bursts_end w c i full rest ≡ c + sum_from i (suc full) + 16 * full + rest
  end_is c i zero rest = let h = sum_one i in omega (arith, h)
  end_is c i (suc full) rest = let h = end_is (c + w i + 16) (suc i) full rest in let g = sum_head i (suc full) in omega (arith, h, g)

  -- the cycle of a word
  abbrev pub word_at : (c i j : ℕ) → ℕ
  word_at c i j = suc c + (j + sum_from i (j / 16 + 1))

  word_first : (c i j : ℕ) → j < 16 → word_at c i j ≡ suc (c + w i) + j
  word_first c i j l = let d : j / 16 + 1 ≡ 1 = omega (arith, l) in let e : sum_from i (j / 16 + 1) ≡ sum_from i 1 = ap (sum_from i) d in let h = sum_one i in omega (arith, e, h)

  word_later : (c i j : ℕ) → word_at c i (j + 16) ≡ word_at (c + w i + 16) (suc i) j
  word_later c i j =
      let d : (j + 16) / 16 + 1 ≡ suc (j / 16 + 1) = omega arith in
      let e : sum_from i ((j + 16) / 16 + 1) ≡ sum_from i (suc (j / 16 + 1)) = ap (sum_from i) d in
      let h = sum_head i (j / 16 + 1) in
      omega (arith, e, h)

  abbrev pub HasWord : (c i full rest t : ℕ) → Type 0
  HasWord c i full rest t = (j : ℕ) × (j < 16 * full + rest) × (t ≡ word_at c i j)

  abbrev by_sixteen : {X : Type 0} (j : ℕ) → (j < 16 → X) → (16 ≤ j → X) → X
  by_sixteen j f g = by_order j 16 f (λ x. g (omega (arith, x))) (λ x. g (omega (arith, x)))

  -- words move in the bursts
  pub moves_of_word : (full c i rest t : ℕ) → rest ≤ 16 → HasWord c i full rest t → Moves (bursts w c i full rest) t
  moves_of_word zero c i rest t m (j, l, e) = let f = word_first c i j (omega (arith, l, m)) in inl (omega (arith, e, f), omega (arith, e, f, l))
  moves_of_word (suc full) c i rest t m (j, l, e) =
      by_sixteen j
      (λ x. let f = word_first c i j x in inl (omega (arith, e, f), omega (arith, e, f, x)))
      (λ x. let same : (j - 16) + 16 ≡ j = omega (arith, x) in
      inr (moves_of_word full (c + w i + 16) (suc i) rest t m (j - 16, omega (arith, l, x), e ∙ sym (ap (word_at c i) same) ∙ word_later c i (j - 16))))

  -- and in no other cycle
  in_first : (c i words t : ℕ) → words ≤ 16 → suc (c + w i) ≤ t → t ≤ c + w i + words → (j : ℕ) × (j < words) × (t ≡ word_at c i j)
  in_first c i words t m a b =
      let j : ℕ = t - suc (c + w i) in
      let l : j < words = omega (arith, a, b) in
      let f = word_first c i j (omega (arith, l, m)) in
      (j, l, omega (arith, a, f))

  pub word_of_move : (full c i rest t : ℕ) → rest ≤ 16 → Moves (bursts w c i full rest) t → HasWord c i full rest t
  word_of_move zero c i rest t m (inl (a, b)) = let (j, l, e) = in_first c i rest t m a b in (j, omega (arith, l), e)
  word_of_move zero c i rest t m (inr x) = absurd x
  word_of_move (suc full) c i rest t m (inl (a, b)) = let (j, l, e) = in_first c i 16 t (omega arith) a b in (j, omega (arith, l), e)
  word_of_move (suc full) c i rest t m (inr x) = let (j, l, e) = word_of_move full (c + w i + 16) (suc i) rest t m x in (j + 16, omega (arith, l), e ∙ sym (word_later c i j))

  -- the last word is told
  abbrev pub TellsLast : (lst : ℕ → ℕ) → (upto c i full rest : ℕ) → Type 0
  TellsLast lst upto c i full rest = (j : ℕ) → j < 16 * full + rest → word_at c i j ≤ upto → lst (word_at c i j) ≡ (if nat_lt (suc j) (16 * full + rest) then 0 else 1)

  told : (lst : ℕ → ℕ) (upto c i total t j : ℕ) → ((j : ℕ) → j < total → word_at c i j ≤ upto → lst (word_at c i j) ≡ (if nat_lt (suc j) total then 0 else 1)) → t ≤ upto → j < total → t ≡ word_at c i j → (b : Bool) → nat_lt (suc j) total ≡ b → lst t ≡ (if b then 0 else 1)
  told lst upto c i total t j h l k e b f = ap lst e ∙ h j k (omega (arith, l, e)) ∙ ap (λ x. if x then 0 else 1) f

  last_told : (lst : ℕ → ℕ) (upto c i : ℕ) (b : Burst) (words full rest t : ℕ) → b.cycle ≡ c → b.wait ≡ w i → b.words ≡ words → TellsLast lst upto c i full rest → words ≤ 16 → words ≤ 16 * full + rest → ((more : Bool) → b.more ≡ more → (j : ℕ) → suc j ≡ words → nat_lt (suc j) (16 * full + rest) ≡ more)
      → first_word b ≤ t → t ≤ last_word b → t ≤ upto → lst t ≡ last_is b t
  last_told lst upto c i b words full rest t e f g h m n final x y z =
      let (j, l, is) = in_first c i words t m (omega (arith, e, f, x)) (omega (arith, e, f, g, y)) in
      let first = word_first c i j (omega (arith, l, m)) in
      by_order t (last_word b)
      (λ q. told lst upto c i (16 * full + rest) t j h z (omega (arith, l, n)) is true (lt-ltb (suc j) (16 * full + rest) (omega (arith, q, is, first, e, f, g, l, n)))
      ∙ sym (ap (λ x. if x then 0 else (if b.more then 0 else 1)) (lt-ltb t (last_word b) q)))
      (λ q. absurd (omega (arith, q, y)))
      (λ q. told lst upto c i (16 * full + rest) t j h z (omega (arith, l, n)) is b.more (final b.more refl j (omega (arith, q, is, first, e, f, g)))
      ∙ sym (ap (λ x. if x then 0 else (if b.more then 0 else 1)) (le-ltb t (last_word b) (omega (arith, q)))))

  pub last_right : (lst : ℕ → ℕ) (upto full c i rest : ℕ) → 0 < rest → rest ≤ 16 → TellsLast lst upto c i full rest → LastRight lst upto (bursts w c i full rest)
  last_right lst upto zero c i rest o m h = ((λ t x y z. last_told lst upto c i (record { cycle = c; wait = w i; words = rest; more = false }) rest 0 rest t refl refl refl h m (omega arith) (λ more e j k. le-ltb (suc j) (16 * 0 + rest) (omega (arith, k)) ∙ e) x y z), tt)
  last_right lst upto (suc full) c i rest o m h = (
    (λ t x y z. last_told lst upto c i (record { cycle = c; wait = w i; words = 16; more = true }) 16 (suc full) rest t refl refl refl h (omega arith) (omega arith) (λ more e j k. lt-ltb (suc j) (16 * suc full + rest) (omega (arith, k, o)) ∙ e) x y z),
    last_right lst upto full (c + w i + 16) (suc i) rest o m (λ j l k. ap lst (sym (word_later c i j)) ∙ h (j + 16) (omega (arith, l)) (subst (λ u. u ≤ upto) (sym (word_later c i j)) k) ∙ ap (λ x. if x then 0 else 1) (same_test j)),
  )
    where
      same_test : (j : ℕ) → nat_lt (suc (j + 16)) (16 * suc full + rest) ≡ nat_lt (suc j) (16 * full + rest)
      same_test j = by_order (suc j) (16 * full + rest)
          (λ x. lt-ltb (suc (j + 16)) (16 * suc full + rest) (omega (arith, x)) ∙ sym (lt-ltb (suc j) (16 * full + rest) x))
          (λ x. le-ltb (suc (j + 16)) (16 * suc full + rest) (omega (arith, x)) ∙ sym (le-ltb (suc j) (16 * full + rest) (omega (arith, x))))
          (λ x. le-ltb (suc (j + 16)) (16 * suc full + rest) (omega (arith, x)) ∙ sym (le-ltb (suc j) (16 * full + rest) (omega (arith, x))))
