-- Each group of nested loops has a value for each loop.
use Rattle.std.proofs.Common.{◌≡◌, ℕ, zero, suc, ◌<◌, ℤ, List, [], ◌∷◌, ◌++◌, map, length, slice_index_or, refl, ap, ◌∙◌, arith}
use Rattle.std.specs.Prelude.{flat_map}
use Rattle.sp_core.specs.Elements.{tuples, values_below}
use Rattle.sp_core.specs.History.{Bounds}
use Rattle.sp_core.specs.PlainCore.{PlainCounter}
use Rattle.sp_core.specs.Scope.{Loop, in_lanes, loops_of, group_values}

-- values of a group: one for each loop
abbrev AllLong : ℕ → List (List ℤ) → Type 0
AllLong n [] = Unit {0}
AllLong n (t ∷ ts) = (length t ≡ n) × AllLong n ts

one_longer : (x : ℤ) (n : ℕ) (ts : List (List ℤ)) → AllLong n ts → AllLong (suc n) (map (λ others. x ∷ others) ts)
one_longer x n [] h = tt
one_longer x n (t ∷ ts) h = (ap suc h.0, one_longer x n ts h.1)

each_append : (n : ℕ) (a b : List (List ℤ)) → AllLong n a → AllLong n b → AllLong n (a ++ b)
each_append n [] b h k = k
each_append n (x ∷ a) b h k = (h.0, each_append n a b h.1 k)

all_longer : (n : ℕ) (ts : List (List ℤ)) → AllLong n ts → (xs : List ℤ) → AllLong (suc n) (flat_map (λ x. map (λ others. x ∷ others) ts) xs)
all_longer n ts h [] = tt
all_longer n ts h (x ∷ xs) = each_append (suc n) (map (λ others. x ∷ others) ts) (flat_map (λ x. map (λ others. x ∷ others) ts) xs) (one_longer x n ts h) (all_longer n ts h xs)

tuples_long : (lists : List (List ℤ)) → AllLong (length lists) (tuples lists)
tuples_long [] = (refl, tt)
tuples_long (xs ∷ lists) = all_longer (length lists) (tuples lists) (tuples_long lists) xs

long_at : (n : ℕ) (ts : List (List ℤ)) (k : ℕ) → AllLong n ts → k < length ts → length (slice_index_or ts k []) ≡ n
long_at n [] k h l = absurd (omega (arith, l))
long_at n (t ∷ ts) zero h l = h.0
long_at n (t ∷ ts) (suc k) h l = long_at n ts k h.1 (omega (arith, l))

lists_length : (loops : List Loop) → length (map (λ (l : Loop). values_below l.from l.until l.advance) loops) ≡ length loops
lists_length [] = refl
lists_length (l ∷ loops) = ap suc (lists_length loops)

pub group_length : (loops : List Loop) (g : ℕ) → g < length (group_values loops) → length (slice_index_or (group_values loops) g []) ≡ length loops
group_length loops g l = long_at (length (map (λ (l : Loop). values_below l.from l.until l.advance) loops)) (group_values loops) g (tuples_long (map (λ (l : Loop). values_below l.from l.until l.advance) loops)) l ∙ lists_length loops

pub loops_length : (counters : List PlainCounter) (bs : List Bounds) → length bs ≡ length counters → length (loops_of in_lanes counters bs) ≡ length counters
loops_length [] bs e = refl
loops_length (c ∷ counters) [] e = absurd (omega (arith, e))
loops_length (c ∷ counters) (b ∷ bs) e = ap suc (loops_length counters bs (omega (arith, e)))
