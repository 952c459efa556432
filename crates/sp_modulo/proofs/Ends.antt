-- When the last operation is over.
use Rattle.std.proofs.Common.{◌≡◌, ℕ, zero, suc, ◌+◌, ◌<◌, ◌≤◌, max, List, [], ◌∷◌, length, slice_index, take, arith, add-one}
use Rattle.sp_modulo.specs.Times.{end_of}

end_of-suc : (ls ts : List ℕ) (k : ℕ) → k < length ls → k < length ts →
    end_of (take (suc k) ls) (take (suc k) ts) ≡ max (end_of (take k ls) (take k ts)) (slice_index ts k + slice_index ls k)
end_of-suc [] ts k h g = absurd (omega arith)
end_of-suc (l ∷ ls) [] k h g = absurd (omega arith)
end_of-suc (l ∷ ls) (t ∷ ts) zero h g = omega arith
end_of-suc (l ∷ ls) (t ∷ ts) (suc k) h g = let rest = end_of-suc ls ts k (omega arith) (omega arith) in omega arith

pub end_of-more : (ls ts : List ℕ) (k : ℕ) → k < length ls → k < length ts →
    end_of (take (k + 1) ls) (take (k + 1) ts) ≡ max (end_of (take k ls) (take k ts)) (slice_index ts k + slice_index ls k)
end_of-more ls ts k h g = rw add-one (end_of-suc ls ts k h g)

-- each operation is over by then
pub over_each : (ls ts : List ℕ) → length ts ≡ length ls → (i : ℕ) → i < length ls → slice_index ts i + slice_index ls i ≤ end_of ls ts
over_each [] ts e i h = absurd (omega arith)
over_each (l ∷ ls) [] e i h = absurd (omega arith)
over_each (l ∷ ls) (t ∷ ts) e zero h = omega arith
over_each (l ∷ ls) (t ∷ ts) e (suc i) h = let rest = over_each ls ts (omega arith) i (omega arith) in omega arith

-- so they are all over by any cycle by which each is
pub over_all : (ls ts : List ℕ) (n : ℕ) → ((i : ℕ) → i < length ls → slice_index ts i + slice_index ls i ≤ n) → end_of ls ts ≤ n
over_all [] ts n h = omega arith
over_all (l ∷ ls) [] n h = omega arith
over_all (l ∷ ls) (t ∷ ts) n h =
    let first : t + l ≤ n = h 0 (omega arith) in
    let rest = over_all ls ts n (λ i lt. h (suc i) (omega arith)) in
    omega arith
