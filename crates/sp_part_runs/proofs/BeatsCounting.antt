-- Groups and beats by their numbers.
use Rattle.std.proofs.Common.{◌≡◌, ℕ, zero, suc, ◌+◌, ◌-◌, ◌<◌, ◌≤◌, ◌⊎◌, inl, inr, Bool, true, false, ◌||◌, sym, ap, subst, arith, List, [], ◌∷◌}
use Rattle.std.specs.List.{Contains}
use Rattle.std.proofs.lemmas.Bool.{lt-ltb, ltb-true, or_left, or_right}
use Rattle.std.proofs.lemmas.List.Elements.{Contains-append_left, Contains-append_right, Contains-append_cases}
use Rattle.sp_part_runs.specs.BeatsRuns.{BeatsRan, has_in, beats, Turn, turns, turns_of}
use Rattle.sp_part_runs.proofs.SequencesCycles.{no_element, here, there, one_of}

abbrev pub turn_of : BeatsRan → ℕ → Turn
turn_of r n = record { run = r; number = n }

-- the turns of a list of runs
in_turns : (r : BeatsRan) (n k : ℕ) → k < n → Contains (turns r n) (turn_of r k)
in_turns r zero k l = absurd (omega (arith, l))
in_turns r (suc n) k l = by (split n k l) (in_turns r n k)
  where
    split : (n k : ℕ) → k < suc n → (k < n) ⊎ (n ≡ k)
    split n k l = grind arith

    by : (k < n) ⊎ (n ≡ k) → (k < n → Contains (turns r n) (turn_of r k)) → Contains (turns r (suc n)) (turn_of r k)
    by (inl m) rest = Contains-append_left (turns r n) (turn_of r n ∷ []) (turn_of r k) (rest m)
    by (inr e) rest = Contains-append_right (turns r n) (turn_of r n ∷ []) (turn_of r k) (subst (λ m. Contains (turn_of r n ∷ []) (turn_of r m)) e (here (turn_of r n) []))

turns_in : (r : BeatsRan) (n : ℕ) (x : Turn) → Contains (turns r n) x → (r ≡ x.run) × (x.number < n)
turns_in r zero x c = absurd (no_element x c)
turns_in r (suc n) x c = by (Contains-append_cases (turns r n) (turn_of r n ∷ []) x c) (turns_in r n x)
  where
    by : Contains (turns r n) x ⊎ Contains (turn_of r n ∷ []) x → (Contains (turns r n) x → (r ≡ x.run) × (x.number < n)) → (r ≡ x.run) × (x.number < suc n)
    by (inl d) rest = let h = rest d in let l = h.1 in (h.0, omega (arith, l))
    by (inr (zero, l, e)) rest = let f = ap (λ (y : Turn). y.number) e in (ap (λ (y : Turn). y.run) e, omega (arith, f))
    by (inr (suc i, l, e)) rest = absurd (omega (arith, l))

pub in_turns_of : (count : BeatsRan → ℕ) (runs : List BeatsRan) (r : BeatsRan) (k : ℕ) → Contains runs r → k < count r → Contains (turns_of count runs) (turn_of r k)
in_turns_of count [] r k c l = absurd (no_element r c)
in_turns_of count (q ∷ runs) r k (zero, m, e) l = Contains-append_left (turns q (count q)) (turns_of count runs) (turn_of r k) (subst (λ p. Contains (turns p (count p)) (turn_of r k)) (sym e) (in_turns r (count r) k l))
in_turns_of count (q ∷ runs) r k (suc i, m, e) l = Contains-append_right (turns q (count q)) (turns_of count runs) (turn_of r k) (in_turns_of count runs r k (i, omega (arith, m), e) l)

pub turns_of_in : (count : BeatsRan → ℕ) (runs : List BeatsRan) (x : Turn) → Contains (turns_of count runs) x → Contains runs x.run × (x.number < count x.run)
turns_of_in count [] x c = absurd (no_element x c)
turns_of_in count (q ∷ runs) x c = by (Contains-append_cases (turns q (count q)) (turns_of count runs) x c) (turns_of_in count runs x)
  where
    by : Contains (turns q (count q)) x ⊎ Contains (turns_of count runs) x → (Contains (turns_of count runs) x → Contains runs x.run × (x.number < count x.run)) → Contains (q ∷ runs) x.run × (x.number < count x.run)
    by (inl d) rest = let h = turns_in q (count q) x d in (subst (λ p. Contains (q ∷ runs) p) h.0 (here q runs), subst (λ p. x.number < count p) h.0 h.1)
    by (inr d) rest = let h = rest d in (there q x.run runs h.0, h.1)

-- which group a slot has in a beat
pub has_of_group : (n k g : ℕ) → g < n → has_in n k (g + k) ≡ true
has_of_group n zero g l = lt-ltb (g + 0) n (omega (arith, l))
has_of_group n (suc k) g l = subst (λ b. has_in n (suc k) b ≡ true) {x = suc (g + k)} (omega arith) (has_of_group n k g l)

pub group_of_has : (n k b : ℕ) → has_in n k b ≡ true → (g : ℕ) × (g < n) × (b ≡ g + k)
group_of_has n zero b h = (b, ltb-true b n h, omega arith)
group_of_has n (suc k) zero h = absurd (cc)
group_of_has n (suc k) (suc b) h = let r = group_of_has n k b h in let e = r.2 in (r.0, r.1, omega (arith, e))

-- whether one of some slots has a group
abbrev pub some_has : (groups beat slot slots : ℕ) → Bool
some_has n b k zero = false
some_has n b k (suc m) = has_in n k b || some_has n b (suc k) m

has_some : (n b j k m : ℕ) → j ≤ k → k < j + m → has_in n k b ≡ true → some_has n b j m ≡ true
has_some n b j k zero l u h = absurd (omega (arith, l, u))
has_some n b j k (suc m) l u h = by (split j k l) (has_some n b (suc j) k m)
  where
    split : (j k : ℕ) → j ≤ k → (k ≡ j) ⊎ (suc j ≤ k)
    split j k l = grind arith

    by : (k ≡ j) ⊎ (suc j ≤ k) → (suc j ≤ k → k < suc j + m → has_in n k b ≡ true → some_has n b (suc j) m ≡ true) → (has_in n j b || some_has n b (suc j) m) ≡ true
    by (inl e) rest = or_left (has_in n j b) (some_has n b (suc j) m) (subst (λ x. has_in n x b ≡ true) e h)
    by (inr a) rest = or_right (has_in n j b) (some_has n b (suc j) m) (rest a (omega (arith, u)) h)

pub some_had : (n b j m : ℕ) → some_has n b j m ≡ true → (k : ℕ) × (j ≤ k) × (k < j + m) × (has_in n k b ≡ true)
some_had n b j zero h = absurd (cc)
some_had n b j (suc m) h = by (one_of (has_in n j b) (some_has n b (suc j) m) h) (some_had n b (suc j) m)
  where
    by : (has_in n j b ≡ true) ⊎ (some_has n b (suc j) m ≡ true) → (some_has n b (suc j) m ≡ true → (k : ℕ) × (suc j ≤ k) × (k < suc j + m) × (has_in n k b ≡ true)) → (k : ℕ) × (j ≤ k) × (k < j + suc m) × (has_in n k b ≡ true)
    by (inl t) rest = (j, omega arith, omega arith, t)
    by (inr t) rest = let r = rest t in let a = r.1 in let c = r.2 in (r.0, omega (arith, a), omega (arith, c), r.3)

-- a beat has a group in some slot, and no other number has
pub in_beats : (n m b : ℕ) → some_has n b 0 m ≡ true → b < beats n m
in_beats n m b h =
    let r = some_had n b 0 m h in
    let q = group_of_has n r.0 b r.3 in
    by n m q.0 r.0 q.1 r.2 q.2
  where
    by : (n m g k : ℕ) → g < n → k < 0 + m → b ≡ g + k → b < beats n m
    by zero m g k l u e = absurd (omega (arith, l))
    by (suc n) zero g k l u e = absurd (omega (arith, u))
    by (suc n) (suc m) g k l u e = omega (arith, l, u, e)

pub beat_has_some : (n m b : ℕ) → b < beats n m → some_has n b 0 m ≡ true
beat_has_some zero m b l = absurd (omega (arith, l))
beat_has_some (suc n) zero b l = absurd (omega (arith, l))
beat_has_some (suc n) (suc m) b l =
    let k = b - n in
    let e : b - k + k ≡ b = omega arith in
    has_some (suc n) b 0 k (suc m) (omega arith) (omega (arith, l)) (subst (λ x. has_in (suc n) k x ≡ true) e (has_of_group (suc n) k (b - k) (omega arith)))

pub group_in_beats : (n m g k : ℕ) → g < n → k < m → g + k < beats n m
group_in_beats zero m g k l u = absurd (omega (arith, l))
group_in_beats (suc n) zero g k l u = absurd (omega (arith, u))
group_in_beats (suc n) (suc m) g k l u = omega (arith, l, u)
