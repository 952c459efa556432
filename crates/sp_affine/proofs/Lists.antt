-- Lists of numbers that are made number by number.
use Rattle.std.proofs.Common.{◌≡◌, ℕ, zero, suc, ◌+◌, ◌<◌, ◌≤◌, ℤ, pos, List, [], ◌∷◌, ◌++◌, length, get_or, take, refl, ap, ◌∙◌, arith}
use Rattle.std.proofs.lemmas.List.{take_more, take_all, length-map, get_or-map}
use Rattle.std.specs.Prelude.{map}
use Rattle.std.specs.List.{All, zip}

pub length-map_zip : (f : ℤ × ℤ → ℤ) (xs ys : List ℤ) → length xs ≡ length ys → length (map f (zip xs ys)) ≡ length xs
length-map_zip f [] ys e = refl
length-map_zip f (x ∷ xs) [] e = absurd (omega arith)
length-map_zip f (x ∷ xs) (y ∷ ys) e = let shorter : length xs ≡ length ys = omega arith in ap suc (length-map_zip f xs ys shorter)

pub get_or-map_zip : (f : ℤ × ℤ → ℤ) (xs ys : List ℤ) (k : ℕ) (d : ℤ) → length xs ≡ length ys → k < length xs →
    get_or (map f (zip xs ys)) k d ≡ f (get_or xs k (pos 0), get_or ys k (pos 0))
get_or-map_zip f [] ys k d e h = absurd (omega arith)
get_or-map_zip f (x ∷ xs) [] k d e h = absurd (omega arith)
get_or-map_zip f (x ∷ xs) (y ∷ ys) zero d e h = refl
get_or-map_zip f (x ∷ xs) (y ∷ ys) (suc k) d e h =
    let shorter : length xs ≡ length ys = omega arith in
    let below : k < length xs = omega arith in
    get_or-map_zip f xs ys k d shorter below

-- what holds of every number of such a list, by its place
pub All-map_zip : (P : ℤ → Type 0) (f : ℤ × ℤ → ℤ) (xs ys : List ℤ) → length xs ≡ length ys →
    ((k : ℕ) → k < length xs → P (f (get_or xs k (pos 0), get_or ys k (pos 0)))) → All P (map f (zip xs ys))
All-map_zip P f xs ys e each k d h =
    let below : k < length xs = omega (arith, length-map_zip f xs ys e) in
    rw (get_or-map_zip f xs ys k d e below) (each k below)

pub All-map_zip_at : (P : ℤ → Type 0) (f : ℤ × ℤ → ℤ) (xs ys : List ℤ) → length xs ≡ length ys →
    All P (map f (zip xs ys)) → (k : ℕ) → k < length xs → P (f (get_or xs k (pos 0), get_or ys k (pos 0)))
All-map_zip_at P f xs ys e all k h =
    let below : k < length (map f (zip xs ys)) = omega (arith, length-map_zip f xs ys e) in
    rw (get_or-map_zip f xs ys k (pos 0) e h) at (all k (pos 0) below)

-- one number more of such a list
pub take-map_zip : (f : ℤ × ℤ → ℤ) (xs ys : List ℤ) (i : ℕ) → length xs ≡ length ys → i < length xs →
    take (i + 1) (map f (zip xs ys)) ≡ take i (map f (zip xs ys)) ++ f (get_or xs i (pos 0), get_or ys i (pos 0)) ∷ []
take-map_zip f xs ys i e h =
    let below : i < length (map f (zip xs ys)) = omega (arith, length-map_zip f xs ys e) in
    take_more _ i (pos 0) below ∙ ap (λ z. take i (map f (zip xs ys)) ++ z ∷ []) (get_or-map_zip f xs ys i (pos 0) e h)

pub take_all-map_zip : (f : ℤ × ℤ → ℤ) (xs ys : List ℤ) (i : ℕ) → length xs ≡ length ys → length xs ≤ i →
    take i (map f (zip xs ys)) ≡ map f (zip xs ys)
take_all-map_zip f xs ys i e h =
    let past : length (map f (zip xs ys)) ≤ i = omega (arith, length-map_zip f xs ys e) in
    take_all i _ past

-- the same of a list that is made of one list
pub All-map_at : (P : ℤ → Type 0) (f : ℤ → ℤ) (xs : List ℤ) → ((k : ℕ) → k < length xs → P (f (get_or xs k (pos 0)))) → All P (map f xs)
All-map_at P f xs each k d h =
    let below : k < length xs = omega (arith, length-map xs f) in
    rw (get_or-map f xs k (pos 0) d below) (each k below)

pub All-map_each : (P : ℤ → Type 0) (f : ℤ → ℤ) (xs : List ℤ) → All P (map f xs) → (k : ℕ) → k < length xs → P (f (get_or xs k (pos 0)))
All-map_each P f xs all k h =
    let below : k < length (map f xs) = omega (arith, length-map xs f) in
    rw (get_or-map f xs k (pos 0) (pos 0) h) at (all k (pos 0) below)

pub take-map_more : (f : ℤ → ℤ) (xs : List ℤ) (i : ℕ) → i < length xs → take (i + 1) (map f xs) ≡ take i (map f xs) ++ f (get_or xs i (pos 0)) ∷ []
take-map_more f xs i h =
    let below : i < length (map f xs) = omega (arith, length-map xs f) in
    take_more _ i (pos 0) below ∙ ap (λ z. take i (map f xs) ++ z ∷ []) (get_or-map f xs i (pos 0) (pos 0) h)

pub take_all-map : (f : ℤ → ℤ) (xs : List ℤ) (i : ℕ) → length xs ≤ i → take i (map f xs) ≡ map f xs
take_all-map f xs i h =
    let past : length (map f xs) ≤ i = omega (arith, length-map xs f) in
    take_all i _ past
