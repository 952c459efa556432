-- An offset into a slice that is inside of its DRAM stands inside of it.
use Rattle.std.proofs.Common.{◌≡◌, ℕ, zero, suc, ◌+◌, ◌-◌, ◌*◌, ◌<◌, ◌≤◌, inl, inr, true, cond, List, [], ◌∷◌, ◌++◌, map, arith, refl, ap, ◌∙◌, le-ltb, lt-ltb}
use Rattle.std.proofs.Math.Nat.{suc-mul, mul-le-mul_right}
use Rattle.std.proofs.lemmas.Bool.{and_parts, cases_lt, leb-true, ltb-true, false≢true}
use Rattle.std.specs.Prelude.{◌&&◌, ◌-ℤ◌, ℤ, pos, negsuc, int_le, flat_map}
use Rattle.sp_words.specs.Interface.{word_count}
use Rattle.sp_core.specs.Elements.{natural, is_below, row_major, numbers_below, tuples, length_between}
use Rattle.sp_core.specs.Transfers.{Part, index, between, lengths, are_parts_inside, places_of, all_offsets}
use Rattle.sp_time.specs.Lists.{Each}

-- each number is below its limit
abbrev pub AreBelow : (limits numbers : List ℕ) → Type 0
AreBelow [] [] = Unit {0}
AreBelow (n ∷ ns) (k ∷ ks) = (k < n) × AreBelow ns ks
AreBelow _ _ = ⊥

each_both : {A : Type 0} (P : A → Type 0) (a b : List A) → Each P a → Each P b → Each P (a ++ b)
each_both P [] b h k = k
each_both P (x ∷ a) b h k = (h.0, each_both P a b h.1 k)

each_number : (n d : ℕ) → n ≤ d → Each (λ k. k < d) (numbers_below n)
each_number zero d l = tt
each_number (suc n) d l = each_both (λ k. k < d) (numbers_below n) (n ∷ []) (each_number n d (omega arith)) (omega arith, tt)

one_below : (d : ℕ) (ds : List ℕ) (j : ℕ) → j < d → (ts : List (List ℕ)) → Each (AreBelow ds) ts → Each (AreBelow (d ∷ ds)) (map (λ others. j ∷ others) ts)
one_below d ds j l [] e = tt
one_below d ds j l (t ∷ ts) e = ((l, e.0), one_below d ds j l ts e.1)

all_below : (d : ℕ) (ds : List ℕ) (ts : List (List ℕ)) → Each (AreBelow ds) ts → (js : List ℕ) → Each (λ j. j < d) js → Each (AreBelow (d ∷ ds)) (flat_map (λ j. map (λ others. j ∷ others) ts) js)
all_below d ds ts h [] e = tt
all_below d ds ts h (j ∷ js) e = each_both (AreBelow (d ∷ ds)) (map (λ others. j ∷ others) ts) (flat_map (λ j. map (λ others. j ∷ others) ts) js) (one_below d ds j e.0 ts h) (all_below d ds ts h js e.1)

tuples_below : (ds : List ℕ) → Each (AreBelow ds) (tuples (map numbers_below ds))
tuples_below [] = (tt, tt)
tuples_below (d ∷ ds) = all_below d ds (tuples (map numbers_below ds)) (tuples_below ds) (numbers_below d) (each_number d d (omega arith))

-- a difference of whole numbers
natural_less : (b a : ℕ) → natural (pos b -ℤ pos a) ≡ b - a
natural_less b zero = omega arith
natural_less b (suc a) = elim (cases_lt b (suc a)) [
  | inl l ↦ ap (λ t. natural (cond t (negsuc (suc a - suc b)) (pos (b - suc a)))) (lt-ltb b (suc a) l) ∙ omega arith
  | inr l ↦ ap (λ t. natural (cond t (negsuc (suc a - suc b)) (pos (b - suc a)))) (le-ltb b (suc a) l)
]

none_less : (n a : ℕ) → natural (negsuc n -ℤ pos a) ≡ 0
none_less n zero = ap (λ t. natural (cond t (negsuc (suc n - 1)) (pos (0 - suc n)))) (lt-ltb 0 (suc n) (omega arith))
none_less n (suc a) = refl

in_range : (a b : ℤ) (d k : ℕ) → int_le (pos 0) a ≡ true → int_le b (pos d) ≡ true → k < length_between a b → natural a + k < d
in_range (negsuc a) b d k e h l = absurd (false≢true e)
in_range (pos a) (negsuc b) d k e h l = absurd (omega (arith, none_less b a))
in_range (pos a) (pos b) d k e h l = let q = natural_less b a in let w : b ≤ d = leb-true b d h in omega arith

in_index : (i : ℤ) (d : ℕ) → is_below i d ≡ true → natural i < d
in_index (pos k) d e = ltb-true k d e
in_index (negsuc k) d e = absurd (false≢true e)

-- a row and what stands in it
in_rows : (i d w r : ℕ) → i < d → r < w → i * w + r < d * w
in_rows i d w r l q = let a : suc i * w ≤ d * w = mul-le-mul_right w l in let b : suc i * w ≡ i * w + w = suc-mul i w in omega arith

place_below : (ds : List ℕ) (parts : List Part) (o : List ℕ) → are_parts_inside ds parts ≡ true → AreBelow (lengths parts) o → row_major ds (places_of parts o) < word_count ds
place_below [] [] o h l = omega arith
place_below [] (p ∷ parts) o h l = absurd (false≢true h)
place_below (d ∷ ds) [] o h l = absurd (false≢true h)
place_below (d ∷ ds) (index i ∷ parts) o h l =
    let q = and_parts (is_below i d) (are_parts_inside ds parts) h in
    in_rows (natural i) d (word_count ds) (row_major ds (places_of parts o)) (in_index i d q.0) (place_below ds parts o q.1 l)
place_below (d ∷ ds) (between a b ∷ parts) [] h l = absurd l
place_below (d ∷ ds) (between a b ∷ parts) (k ∷ o) h l =
    let q = and_parts (int_le (pos 0) a && int_le b (pos d)) (are_parts_inside ds parts) h in
    let r = and_parts (int_le (pos 0) a) (int_le b (pos d)) q.0 in
    in_rows (natural a + k) d (word_count ds) (row_major ds (places_of parts o)) (in_range a b d k r.0 r.1 l.0) (place_below ds parts o q.1 l.1)

pub offsets_below : (ds : List ℕ) (parts : List Part) → are_parts_inside ds parts ≡ true → Each (λ o. row_major ds (places_of parts o) < word_count ds) (all_offsets parts)
offsets_below ds parts h = go (all_offsets parts) (tuples_below (lengths parts))
  where
    go : (os : List (List ℕ)) → Each (AreBelow (lengths parts)) os → Each (λ o. row_major ds (places_of parts o) < word_count ds) os
    go [] e = tt
    go (o ∷ os) e = (place_below ds parts o h e.0, go os e.1)
