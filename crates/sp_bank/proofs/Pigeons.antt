-- So many things in so many places, none of which has two of them.
use Rattle.std.proofs.Common.{◌≡◌, ◌≢◌, ℕ, zero, suc, ◌+◌, ◌<◌, ◌≤◌, ℤ, pos, ◌+ℤ◌, List, [], ◌∷◌, ◌++◌, length, get_or, refl, ap, sym, ◌∙◌, arith, eqb, false, true, Bool, inl, inr, subst, length-append}
use Rattle.std.specs.List.{list_any}
use Rattle.std.proofs.lemmas.List.Folds.{Any-from_list_any}
use Rattle.std.proofs.lemmas.Map.Keys.{IsDistinct-from_apart}
use Rattle.std.proofs.lemmas.Map.Steps.{length-le_from_distinct_below}
use Rattle.std.proofs.lemmas.Bool.Decides.{eqb_tells, leb_tells}
use Rattle.std.proofs.Math.ListN.{get_or-append}
use Rattle.std.proofs.Math.Seq.{get_or-append_seam}
use Rattle.sp_bank.specs.Search.{Serves}
use Rattle.sp_affine.specs.Affine.{Affine}
use Rattle.sp_bank.specs.Banking.{Banking}
use Rattle.sp_bank.specs.Separation.{bank_at, weighted_sum, AreApart, AreDifferent, IsListed, access, access_count, constants}
use Rattle.sp_bank.proofs.ApartLemmas.{stands, block_positive}

last_below : (n : ℕ) → n < suc n
last_below n = omega arith

below_suc : (i n : ℕ) → i < n → i < suc n
below_suc i n h = omega arith

-- thing number i stands at a place k below m
abbrev Placed : (ℕ → ℕ → Type 0) → ℕ → ℕ → Type 0
Placed P m i = (k : ℕ) × (k < m) × P i k

-- the places of the things below n, that of the last first
places : (P : ℕ → ℕ → Type 0) (m n : ℕ) → ((i : ℕ) → i < n → Placed P m i) → List ℕ
places P m zero each = []
places P m (suc n) each = (each n (last_below n)).0 ∷ places P m n (λ i h. each i (below_suc i n h))

length-places : (P : ℕ → ℕ → Type 0) (m n : ℕ) (each : (i : ℕ) → i < n → Placed P m i) → length (places P m n each) ≡ n
unfolding places
length-places P m zero each = refl
length-places P m (suc n) each = ap suc (length-places P m n (λ i h. each i (below_suc i n h)))

place_at : (P : ℕ → ℕ → Type 0) (m n : ℕ) (each : (i : ℕ) → i < n → Placed P m i) (j d : ℕ) → j < n →
    (i : ℕ) × (i + j + 1 ≡ n) × (get_or (places P m n each) j d < m) × P i (get_or (places P m n each) j d)
unfolding places
place_at P m zero each j d h = absurd (omega arith)
place_at P m (suc n) each zero d h = (n, omega arith, (each n (last_below n)).1, (each n (last_below n)).2)
place_at P m (suc n) each (suc j) d h =
    let (i, at, below, is) = place_at P m n (λ i h. each i (below_suc i n h)) j d (omega arith) in
    (i, omega arith, below, is)

pub pigeons : (P : ℕ → ℕ → Type 0) (m n : ℕ) → ((i : ℕ) → i < n → Placed P m i) → ((i j k : ℕ) → i < j → j < n → P i k → P j k → ⊥) → n ≤ m
pigeons P m n each alone =
    let many : length (places P m n each) ≡ n = length-places P m n each in
    let fit = length-le_from_distinct_below (places P m n each) m
    (IsDistinct-from_apart eqb (places P m n each) (λ i j d h k. differ i j d h (omega (arith, k, many)))) (λ q h. inside q h) in
    omega (arith, fit, many)
  where
    differ : (i j d : ℕ) → i < j → j < n → eqb (get_or (places P m n each) i d) (get_or (places P m n each) j d) ≡ false
    differ i j d h k =
        let (a, at_a, below_a, is_a) = place_at P m n each i d (omega arith) in
        let (b, at_b, below_b, is_b) = place_at P m n each j d k in
        elim (eqb_tells (get_or (places P m n each) i d) (get_or (places P m n each) j d)) [
          | inl same ↦
              let Q : ℕ → Type 0 = λ z. P a z in
              absurd (alone b a (get_or (places P m n each) j d) (omega arith) (omega arith) is_b (subst Q same.1 is_a))
          | inr apart ↦ apart.0
        ]

    false_true : (b : Bool) → b ≡ false → b ≡ true → ⊥
    false_true b e f = let g = sym e ∙ f in cc

    inside : (q : ℕ) → list_any (eqb q) (places P m n each) ≡ true → q < m
    inside q h =
        let (k, x, low, at, equal) = Any-from_list_any (eqb q) (places P m n each) h in
        let found = place_at P m n each k x (omega (arith, low, length-places P m n each)) in
        elim (eqb_tells q x) [
          | inl same ↦ omega (arith, same.1, found.2, at)
          | inr apart ↦ absurd (false_true (eqb q x) apart.0 equal)
        ]

-- accesses that are apart need a bank each
pub apart_fit : (b : Banking) (rank : ℕ) (group : List Affine) (us : List ℕ) → 0 < b.block → 0 < b.banks → AreDifferent rank group us →
    ((i j : ℕ) → i < j → j < length us → AreApart b (constants (access rank group (get_or us i 0))) (constants (access rank group (get_or us j 0)))) →
    length us ≤ b.banks
apart_fit b rank group us block banks differ apart =
    pigeons P b.banks (length us) (λ i h. bank i) (λ i j k h low at_i at_j. apart i j h low (differ.different i j h low) (pos 0) (at_i ∙ sym at_j))
  where
    P : ℕ → ℕ → Type 0
    P i k = bank_at b (pos 0 +ℤ weighted_sum b.alpha (constants (access rank group (get_or us i 0)))) ≡ pos k

    bank : (i : ℕ) → Placed P b.banks i
    bank i =
        let (t, k, r, is, at) = stands b (pos 0 +ℤ weighted_sum b.alpha (constants (access rank group (get_or us i 0)))) block banks in
        (k, at.bank, is)

-- where each access has the constants of a listed one, no more can differ than are listed
pub most_listed : (rank : ℕ) (group : List Affine) (us vs : List ℕ) → ((v : ℕ) → v < access_count rank group → IsListed rank group us v) →
    AreDifferent rank group vs → length vs ≤ length us
most_listed rank group us vs listed differ =
    pigeons P (length us) (length vs) (λ i h. listed (get_or vs i 0) (differ.inside i h))
    (λ i j k h low at_i at_j. differ.different i j h low (sym at_i ∙ at_j))
  where
    P : ℕ → ℕ → Type 0
    P i k = constants (access rank group (get_or us k 0)) ≡ constants (access rank group (get_or vs i 0))

-- so a scheme that serves has a bank for each of them
pub serves_fit : (rank : ℕ) (groups : List (List Affine)) (t : Banking) (k : ℕ) (d : List Affine) (us : List ℕ) → Serves rank groups t → k < length groups →
    AreDifferent rank (get_or groups k d) us → length us ≤ t.banks
serves_fit rank groups t k d us serves low differ =
    let P : ℕ → Type 0 = λ n. (u v : ℕ) → u < access_count n (get_or groups k d) → v < access_count n (get_or groups k d) →
    AreApart t (constants (access n (get_or groups k d) u)) (constants (access n (get_or groups k d) v)) in
    let separates = subst P serves.rank_is (serves.separates k d low) in
    apart_fit t rank (get_or groups k d) us (block_positive t.block serves.space.size.allowed_block) (omega (arith, serves.space.size.some_bank)) differ
    (λ i j h below. separates (get_or us i 0) (get_or us j 0) (differ.inside i (omega (arith, h, below))) (differ.inside j below))

pub added : (rank : ℕ) (group : List Affine) (us : List ℕ) (u : ℕ) → AreDifferent rank group us → u < access_count rank group →
    ((i : ℕ) → i < length us → constants (access rank group (get_or us i 0)) ≢ constants (access rank group u)) → AreDifferent rank group (us ++ u ∷ [])
added rank group us u known low new = record { inside = λ i h. inside i h; different = λ i j h k. different i j h k }
  where
    C : ℕ → List ℤ
    C v = constants (access rank group v)

    size : length (us ++ u ∷ []) ≡ length us + 1
    size = length-append us (u ∷ [])

    before : (i : ℕ) → i < length us → get_or (us ++ u ∷ []) i 0 ≡ get_or us i 0
    before i h = get_or-append us (u ∷ []) 0 i h

    last : (i : ℕ) → i ≡ length us → get_or (us ++ u ∷ []) i 0 ≡ u
    last i e = ap (λ z. get_or (us ++ u ∷ []) z 0) e ∙ get_or-append_seam us u [] 0

    inside : (i : ℕ) → i < length (us ++ u ∷ []) → get_or (us ++ u ∷ []) i 0 < access_count rank group
    inside i h = elim (leb_tells (i + 1) (length us)) [
      | inl le ↦ omega (arith, before i (omega (arith, le.1)), known.inside i (omega (arith, le.1)))
      | inr gt ↦ omega (arith, last i (omega (arith, gt.1, h, size)), low)
    ]

    different : (i j : ℕ) → i < j → j < length (us ++ u ∷ []) → C (get_or (us ++ u ∷ []) i 0) ≢ C (get_or (us ++ u ∷ []) j 0)
    different i j h k same = elim (leb_tells (j + 1) (length us)) [
      | inl le ↦ known.different i j h (omega (arith, le.1)) (sym (ap C (before i (omega (arith, h, le.1)))) ∙ same ∙ ap C (before j (omega (arith, le.1))))
      | inr gt ↦ new i (omega (arith, h, k, size)) (sym (ap C (before i (omega (arith, h, k, size)))) ∙ same ∙ ap C (last j (omega (arith, gt.1, k, size))))
    ]

pub listed_more : (rank : ℕ) (group : List Affine) (us : List ℕ) (u v : ℕ) → IsListed rank group us v → IsListed rank group (us ++ u ∷ []) v
listed_more rank group us u v (i, low, same) = (
  i,
  omega (arith, low, length-append us (u ∷ [])),
  ap (λ z. constants (access rank group z)) (get_or-append us (u ∷ []) 0 i low) ∙ same,
)

pub listed_last : (rank : ℕ) (group : List Affine) (us : List ℕ) (u : ℕ) → IsListed rank group (us ++ u ∷ []) u
listed_last rank group us u = (
  length us,
  omega (arith, length-append us (u ∷ [])),
  ap (λ z. constants (access rank group z)) (get_or-append_seam us u [] 0),
)
