-- The places of a slice's words are the groups of its loops.
use Rattle.std.proofs.Common.{◌≡◌, ℕ, ◌+◌, ◌*◌, Bool, true, false, ◌&&◌, ℤ, pos, negsuc, ◌+ℤ◌, ◌-ℤ◌, List, [], ◌∷◌, ◌++◌, map, flat_map, refl, sym, ap, ap₂, ◌∙◌, arith}
use Rattle.std.specs.Prelude.{int_le}
use Rattle.std.proofs.lemmas.Int.{ints}
use Rattle.std.proofs.lemmas.List.{map-append}
use Rattle.std.proofs.Math.Nat.{div-one}
use Rattle.sp_core.specs.Elements.{natural, numbers_below, length_between, count_below, values_below}
use Rattle.sp_core.specs.Scope.{group_values}
use Rattle.sp_core.specs.Transfers.{Part, index, between, is_part_inside, are_parts_inside, places_of, all_offsets}
use Rattle.sp_xfer_runs.specs.Slices.{no_part, of_index, of_range, SlicesAreLoops}

and_parts : (a b : Bool) → (a && b) ≡ true → (a ≡ true) × (b ≡ true)
and_parts true true e = (refl, refl)
and_parts true false e = absurd (cc)
and_parts false b e = absurd (cc)

-- the groups that begin with one value
module _ {X : Type 0} (f : X → List ℕ) (g : List ℤ → List ℕ) where
  one_row : (v : ℤ) (n : ℕ) (put : X → X) (place : X → List ℕ) (G : List (List ℤ)) (O : List X) → natural v ≡ n → ((o : X) → place (put o) ≡ n ∷ f o) → map (map natural) G ≡ map f O
      → map (map natural) (map (λ others. v ∷ others) G) ≡ map place (map put O)
  one_row v n put place G O e p h = left G ∙ ap₂ (λ m rows. map (λ r. m ∷ r) rows) e h ∙ sym (right O)
    where
      left : (G : List (List ℤ)) → map (map natural) (map (λ others. v ∷ others) G) ≡ map (λ r. natural v ∷ r) (map (map natural) G)
      left [] = refl
      left (x ∷ xs) = ap (λ rows. (natural v ∷ map natural x) ∷ rows) (left xs)

      right : (O : List X) → map place (map put O) ≡ map (λ r. n ∷ r) (map f O)
      right [] = refl
      right (o ∷ os) = ap₂ (λ r rows. r ∷ rows) (p o) (right os)

-- all values of a range
all_rows : (value : ℕ → ℤ) (place : ℕ → ℕ) (f h : List ℕ → List ℕ) (G : List (List ℤ)) (O : List (List ℕ)) (ks : List ℕ) → ((k : ℕ) → natural (value k) ≡ place k) → ((k : ℕ) (o : List ℕ) → h (k ∷ o) ≡ place k ∷ f o)
    → map (map natural) G ≡ map f O → map (map natural) (flat_map (λ x. map (λ others. x ∷ others) G) (map value ks)) ≡ map h (flat_map (λ k. map (λ others. k ∷ others) O) ks)
all_rows value place f h G O [] e p i = refl
all_rows value place f h G O (k ∷ ks) e p i =
    map-append (map natural) (map (λ others. value k ∷ others) G) (flat_map (λ x. map (λ others. x ∷ others) G) (map value ks))
    ∙ ap₂ (λ a b. a ++ b) (one_row f (λ g. map natural g) (value k) (place k) (λ o. k ∷ o) h G O (e k) (p k) i) (all_rows value place f h G O ks e p i)
    ∙ sym (map-append h (map (λ others. k ∷ others) O) (flat_map (λ k. map (λ others. k ∷ others) O) ks))

-- how many values there are
as_long : (a b : ℤ) → count_below a b 1 ≡ length_between a b
as_long a b = div-one (length_between a b + 0) ∙ omega arith

one_long : (i : ℤ) → length_between i (i +ℤ pos 1) ≡ 1
one_long i = ap natural (let e : (i +ℤ pos 1) -ℤ i ≡ pos 1 = omega (arith, ints) in e)

not_negative : (a : ℤ) → int_le (pos 0) a ≡ true → (k : ℕ) → natural (a +ℤ pos (k * 1)) ≡ natural a + k
not_negative (pos n) e k = omega arith
not_negative (negsuc n) e k = absurd (cc)

no_more : (i : ℤ) → natural (i +ℤ pos (0 * 1)) ≡ natural i
no_more i = ap natural (let e : i +ℤ pos 0 ≡ i = omega (arith, ints) in e)

single_row : (xs : List (List ℕ)) → xs ++ [] ≡ xs
single_row [] = refl
single_row (x ∷ xs) = ap (λ ys. x ∷ ys) (single_row xs)

by_index : (i v : ℤ) (parts : List Part) (G : List (List ℤ)) (O : List (List ℕ)) → natural v ≡ natural i → map (map natural) G ≡ map (places_of parts) O
    → map (map natural) (flat_map (λ x. map (λ others. x ∷ others) G) (v ∷ [])) ≡ map (places_of (index i ∷ parts)) O
by_index i v parts G O e h =
    map-append (map natural) (map (λ others. v ∷ others) G) []
    ∙ single_row (map (map natural) (map (λ others. v ∷ others) G))
    ∙ one_row (places_of parts) (λ g. map natural g) v (natural i) (λ o. o) (places_of (index i ∷ parts)) G O e (λ o. refl) h
    ∙ ap (map (places_of (index i ∷ parts))) (same O)
  where
    same : (os : List (List ℕ)) → map (λ o. o) os ≡ os
    same [] = refl
    same (o ∷ os) = ap (λ xs. o ∷ xs) (same os)

pub slices_are_loops : SlicesAreLoops
slices_are_loops dims [] _ no_part inside = refl
slices_are_loops [] (index i ∷ parts) _ (of_index e f g h) inside = absurd (cc)
slices_are_loops (d ∷ dims) (index i ∷ parts) _ (of_index {l = l} {loops = loops} e f g h) inside =
    let rest = slices_are_loops dims parts loops h (and_parts (is_part_inside d (index i)) (are_parts_inside dims parts) inside).1 in
    ap (λ n. map (map natural) (flat_map (λ x. map (λ others. x ∷ others) (group_values loops)) n))
    (ap (λ m. values_below l.from l.until m) g ∙ ap₂ (λ a b. values_below a b 1) e f ∙ ap (λ n. map (λ k. i +ℤ pos (k * 1)) (numbers_below n)) (as_long i (i +ℤ pos 1) ∙ one_long i))
    ∙ by_index i (i +ℤ pos (0 * 1)) parts (group_values loops) (all_offsets parts) (no_more i) rest
slices_are_loops [] (between a b ∷ parts) _ (of_range e f g h) inside = absurd (cc)
slices_are_loops (d ∷ dims) (between a b ∷ parts) _ (of_range {l = l} {loops = loops} e f g h) inside =
    let both = and_parts (is_part_inside d (between a b)) (are_parts_inside dims parts) inside in
    let first = (and_parts (int_le (pos 0) a) (int_le b (pos d)) both.0).0 in
    let rest = slices_are_loops dims parts loops h both.1 in
    ap (λ n. map (map natural) (flat_map (λ x. map (λ others. x ∷ others) (group_values loops)) n))
    (ap (λ m. values_below l.from l.until m) g ∙ ap₂ (λ x y. values_below x y 1) e f ∙ ap (λ n. map (λ k. a +ℤ pos (k * 1)) (numbers_below n)) (as_long a b))
    ∙ all_rows (λ k. a +ℤ pos (k * 1)) (λ k. natural a + k) (places_of parts) (places_of (between a b ∷ parts)) (group_values loops) (all_offsets parts) (numbers_below (length_between a b)) (not_negative a first) (λ k o. refl) rest
