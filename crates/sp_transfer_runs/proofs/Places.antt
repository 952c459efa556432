-- The loops of a slice that was taken, and the values of their groups.
use Rattle.std.proofs.Common.{◌≡◌, ℕ, suc, ◌+◌, ◌*◌, ◌<◌, ◌≤◌, ◌^◌, ◌==◌, Bool, true, false, ◌&&◌, ◌||◌, ℤ, pos, negsuc, ◌+ℤ◌, ◌-ℤ◌, ◌≤ℤ◌, ◌<ℤ◌, ◌⊎◌, inl, inr, List, [], ◌∷◌, map, flat_map, length, slice_index_or, refl, sym, ap, ap₂, subst, ◌∙◌, arith, mul-le-mul, div-one}
use Rattle.std.specs.Prelude.{int_le}
use Rattle.std.proofs.lemmas.Bool.{ltb-true, eqb-true}
use Rattle.std.proofs.lemmas.Int.{ints}
use Rattle.sp_words.specs.Interface.{word_count}
use Rattle.sp_words.specs.Types.{int_type}
use Rattle.sp_words.specs.Words.{wrap}
use Rattle.sp_core.specs.Elements.{index_value, natural, is_below, numbers_below, tuples, length_between, count_below, values_below, row_major}
use Rattle.sp_core.specs.History.{Taken, one, both, last_word}
use Rattle.sp_core.specs.Scope.{Loop, group_values}
use Rattle.sp_core.specs.Transfers.{Part, index, between, part_of, lengths, has_none, is_part_inside, are_parts_inside, places_of, all_offsets}
use Rattle.sp_time.specs.Lists.{Each}
use Rattle.sp_xfer_runs.specs.Slices.{AreLoopsOf, no_part, of_index, of_range, SlicesAreLoops}
use Rattle.sp_transfer_runs.specs.Words.{loop_of, loops_of, parts_of, count_of, offset_of}
use Rattle.sp_transfer_runs.proofs.Numbers.{small_wrap, one_more, factors, and_parts, mapped, nth_map, each_at, each_append, each_map, each_below, tuples_long, none_behind}

-- a number of a dimension
inside_is : (z : ℤ) (d : ℕ) → is_below z d ≡ true → (n : ℕ) × (z ≡ pos n) × (n < d)
inside_is (pos n) d e = (n, refl, ltb-true n d e)
inside_is (negsuc n) d e = absurd (cc)

pub range_is : (a b : ℤ) (d : ℕ) → (int_le (pos 0) a && int_le b (pos d)) ≡ true → (n : ℕ) × (a ≡ pos n) × (b ≤ℤ pos d)
range_is (pos n) b d e = (n, refl, grind (arith, ints, (and_parts (int_le (pos 0) (pos n)) (int_le b (pos d)) e).1))
range_is (negsuc n) b d e = absurd (cc)

-- the loops are those of its parts
pub are_loops : (dims : List ℕ) (taken : List Taken) → 1 ≤ word_count dims → word_count dims < 2 ^ 31 → are_parts_inside dims (parts_of taken) ≡ true → AreLoopsOf (parts_of taken) (loops_of taken)
are_loops [] [] some few h = no_part
are_loops (d ∷ dims) [] some few h = absurd (cc)
are_loops [] (one es ∷ taken) some few h = absurd (cc)
are_loops [] (both es fs ∷ taken) some few h = absurd (cc)
are_loops (d ∷ dims) (one es ∷ taken) some few h =
    let f = factors d (word_count dims) some in
    let e = and_parts (is_part_inside d (part_of (one es))) (are_parts_inside dims (parts_of taken)) h in
    let (n, is, l) = inside_is (index_value (last_word es)) d e.0 in
    of_index refl (one_more (last_word es) n is (omega (arith, l, f.0, few)) ∙ (let g : pos (suc n) ≡ pos n +ℤ pos 1 = omega (arith, ints) in g) ∙ ap (λ z. z +ℤ pos 1) (sym is)) refl
    (are_loops dims taken f.2 (omega (arith, f.1, few)) e.1)
are_loops (d ∷ dims) (both es fs ∷ taken) some few h =
    let f = factors d (word_count dims) some in
    let e = and_parts (is_part_inside d (part_of (both es fs))) (are_parts_inside dims (parts_of taken)) h in
    of_range refl refl refl (are_loops dims taken f.2 (omega (arith, f.1, few)) e.1)

-- a value of a dimension
abbrev pub IsBelow : ℕ → ℤ → Type 0
IsBelow d z = (n : ℕ) × (z ≡ pos n) × (n < d)

abbrev pub AreBelow : (dims : List ℕ) → List ℤ → Type 0
AreBelow [] [] = Unit {0}
AreBelow (d ∷ dims) (z ∷ zs) = IsBelow d z × AreBelow dims zs
AreBelow _ _ = ⊥

natural_more : (z : ℤ) (k : ℕ) → k < natural z → pos k <ℤ z
natural_more (pos n) k l = omega (arith, ints, l)
natural_more (negsuc n) k l = absurd (omega (arith, l))

in_range : (a b : ℤ) (n d : ℕ) → a ≡ pos n → b ≤ℤ pos d → (k : ℕ) → k < length_between a b → IsBelow d (a +ℤ pos (k * 1))
in_range a b n d e h k l = (
  n + k,
  ap (λ z. z +ℤ pos (k * 1)) e ∙ (let g : pos n +ℤ pos (k * 1) ≡ pos (n + k) = omega (arith, ints) in g),
  (let m = natural_more (b -ℤ pos n) k (subst (λ z. k < natural (b -ℤ z)) e l) in omega (arith, ints, m, h)),
)

as_long : (a b : ℤ) → count_below a b 1 ≡ length_between a b
as_long a b = div-one (length_between a b + 0) ∙ omega arith

range_below : (a b : ℤ) (n d : ℕ) → a ≡ pos n → b ≤ℤ pos d → Each (IsBelow d) (values_below a b 1)
range_below a b n d e h =
    each_map (λ k. k < length_between a b) (IsBelow d) (λ k. a +ℤ pos (k * 1)) (λ k l. in_range a b n d e h k l) (numbers_below (count_below a b 1))
    (subst (λ m. Each (λ k. k < length_between a b) (numbers_below m)) (sym (as_long a b)) (each_below (λ k. k < length_between a b) (length_between a b) (λ k l. l)))

abbrev ranges : List Loop → List (List ℤ)
ranges loops = map (λ l. values_below l.from l.until l.advance) loops

loop_below : (l : Loop) (a b : ℤ) (n d : ℕ) → l.from ≡ a → l.until ≡ b → l.advance ≡ 1 → a ≡ pos n → b ≤ℤ pos d → Each (IsBelow d) (values_below l.from l.until l.advance)
loop_below l a b n d e f g i h = subst (λ m. Each (IsBelow d) (values_below l.from l.until m)) (sym g) (range_below l.from l.until n d (e ∙ i) (subst (λ z. z ≤ℤ pos d) (sym f) h))

rows_below : (d : ℕ) (dims : List ℕ) (ts : List (List ℤ)) → Each (AreBelow dims) ts → (xs : List ℤ) → Each (IsBelow d) xs → Each (AreBelow (d ∷ dims)) (flat_map (λ x. map (λ others. x ∷ others) ts) xs)
rows_below d dims ts h [] k = tt
rows_below d dims ts h (x ∷ xs) k = each_append (AreBelow (d ∷ dims)) (map (λ others. x ∷ others) ts) (flat_map (λ x. map (λ others. x ∷ others) ts) xs) (each_map (AreBelow dims) (AreBelow (d ∷ dims)) (λ others. x ∷ others) (λ ys g. (k.0, g)) ts h) (rows_below d dims ts h xs k.1)

-- the values of each group are those of a place
all_below : (dims : List ℕ) (parts : List Part) (loops : List Loop) → AreLoopsOf parts loops → are_parts_inside dims parts ≡ true → Each (AreBelow dims) (group_values loops)
all_below [] _ _ no_part h = (tt, tt)
all_below (d ∷ dims) _ _ no_part h = absurd (cc)
all_below [] _ _ (of_index e f g rest) h = absurd (cc)
all_below [] _ _ (of_range e f g rest) h = absurd (cc)
all_below (d ∷ dims) _ _ (of_index {i = i} {l = l} {parts = parts} {loops = loops} e f g rest) h =
    let p = and_parts (is_part_inside d (index i)) (are_parts_inside dims parts) h in
    let (n, is, m) = inside_is i d p.0 in
    rows_below d dims (group_values loops) (all_below dims parts loops rest p.1) (values_below l.from l.until l.advance)
    (loop_below l i (i +ℤ pos 1) n d e f g is (subst (λ z. (z +ℤ pos 1) ≤ℤ pos d) (sym is) (omega (arith, ints, m))))
all_below (d ∷ dims) _ _ (of_range {a = a} {b = b} {l = l} {parts = parts} {loops = loops} e f g rest) h =
    let p = and_parts (is_part_inside d (between a b)) (are_parts_inside dims parts) h in
    let (n, is, m) = range_is a b d p.0 in
    rows_below d dims (group_values loops) (all_below dims parts loops rest p.1) (values_below l.from l.until l.advance) (loop_below l a b n d e f g is m)

-- their words are these numbers
pub words_natural : (dims : List ℕ) (g : List ℤ) → AreBelow dims g → 1 ≤ word_count dims → word_count dims < 2 ^ 31 → map (wrap int_type) g ≡ map natural g
words_natural [] [] h some few = refl
words_natural (d ∷ dims) [] h some few = absurd h
words_natural [] (v ∷ g) h some few = absurd h
words_natural (d ∷ dims) (v ∷ g) h some few =
    let w = factors d (word_count dims) some in
    let (n, is, l) = h.0 in
    ap₂ (λ x xs. x ∷ xs) (ap (wrap int_type) is ∙ small_wrap n (omega (arith, l, w.0, few)) ∙ sym (ap natural is)) (words_natural dims g h.1 w.2 (omega (arith, w.1, few)))

pub naturals_small : (dims : List ℕ) (g : List ℤ) → AreBelow dims g → 1 ≤ word_count dims → word_count dims < 2 ^ 31 → Each (λ p. p < 2 ^ 31) (map natural g)
naturals_small [] [] h some few = tt
naturals_small (d ∷ dims) [] h some few = absurd h
naturals_small [] (v ∷ g) h some few = absurd h
naturals_small (d ∷ dims) (v ∷ g) h some few =
    let w = factors d (word_count dims) some in
    let (n, is, l) = h.0 in
    (subst (λ z. natural z < 2 ^ 31) (sym is) (omega (arith, l, w.0, few)), naturals_small dims g h.1 w.2 (omega (arith, w.1, few)))

-- and their row-major number is one of the memory
pub in_memory : (dims : List ℕ) (g : List ℤ) → AreBelow dims g → row_major dims (map natural g) < word_count dims
in_memory [] [] h = omega arith
in_memory (d ∷ dims) [] h = absurd h
in_memory [] (v ∷ g) h = absurd h
in_memory (d ∷ dims) (v ∷ g) h =
    let (n, is, l) = h.0 in
    let rest = in_memory dims g h.1 in
    let rows : suc n * word_count dims ≤ d * word_count dims = mul-le-mul {n₁ = suc n} {m₁ = word_count dims} {n₂ = d} {m₂ = word_count dims} l (omega arith) in
    let first : natural v ≡ n = ap natural is in
    subst (λ i. i * word_count dims + row_major dims (map natural g) < d * word_count dims) (sym first) (omega (arith, rest, rows))

-- where a range is empty there is nothing
or_true : (a b : Bool) → (a || b) ≡ true → (a ≡ true) ⊎ (b ≡ true)
or_true true b e = inl refl
or_true false b e = inr e

zero_is : (n : ℕ) → (n == 0) ≡ true → n ≡ 0
zero_is n e = eqb-true n 0 e

none_values : (taken : List Taken) → has_none (lengths (parts_of taken)) ≡ true → group_values (loops_of taken) ≡ []
none_values [] h = absurd (cc)
none_values (one es ∷ taken) h = none_behind (values_below (loop_of (one es)).from (loop_of (one es)).until 1) (ranges (loops_of taken)) (none_values taken h)
none_values (both es fs ∷ taken) h = by (none_values taken) (or_true (length_between (index_value (last_word es)) (index_value (last_word fs)) == 0) (has_none (lengths (parts_of taken))) h)
  where
    by : (has_none (lengths (parts_of taken)) ≡ true → group_values (loops_of taken) ≡ []) → ((length_between (index_value (last_word es)) (index_value (last_word fs)) == 0) ≡ true) ⊎ (has_none (lengths (parts_of taken)) ≡ true) → group_values (loops_of (both es fs ∷ taken)) ≡ []
    by rest (inl e) = ap (λ n. tuples (map (λ k. index_value (last_word es) +ℤ pos (k * 1)) (numbers_below n) ∷ ranges (loops_of taken))) (as_long (index_value (last_word es)) (index_value (last_word fs)) ∙ zero_is (length_between (index_value (last_word es)) (index_value (last_word fs))) e)
    by rest (inr e) = none_behind (values_below (index_value (last_word es)) (index_value (last_word fs)) 1) (ranges (loops_of taken)) (rest e)

pub none_offsets : (parts : List Part) → has_none (lengths parts) ≡ true → all_offsets parts ≡ []
none_offsets [] h = absurd (cc)
none_offsets (index i ∷ parts) h = none_offsets parts h
none_offsets (between a b ∷ parts) h = by (none_offsets parts) (or_true (length_between a b == 0) (has_none (lengths parts)) h)
  where
    by : (has_none (lengths parts) ≡ true → all_offsets parts ≡ []) → ((length_between a b == 0) ≡ true) ⊎ (has_none (lengths parts) ≡ true) → all_offsets (between a b ∷ parts) ≡ []
    by rest (inl e) = ap (λ n. tuples (numbers_below n ∷ map numbers_below (lengths parts))) (zero_is (length_between a b) e)
    by rest (inr e) = none_behind (numbers_below (length_between a b)) (map numbers_below (lengths parts)) (rest e)

-- the groups of the loops are the places of the words
module _ (law : SlicesAreLoops) (dims : List ℕ) (taken : List Taken) (some : 1 ≤ word_count dims) (few : word_count dims < 2 ^ 31) where
  module _ (inside : are_parts_inside dims (parts_of taken) ≡ true) where
    same : map (map natural) (group_values (loops_of taken)) ≡ map (places_of (parts_of taken)) (all_offsets (parts_of taken))
    same = law dims (parts_of taken) (loops_of taken) (are_loops dims taken some few inside) inside

    pub as_many : length (group_values (loops_of taken)) ≡ count_of taken
    as_many = sym (mapped (map natural) (group_values (loops_of taken))) ∙ ap length same ∙ mapped (places_of (parts_of taken)) (all_offsets (parts_of taken))

    module _ (k : ℕ) (l : k < count_of taken) where
      pub group : List ℤ
      group = slice_index_or (group_values (loops_of taken)) k []

      below : AreBelow dims group
      unfolding group
      below = each_at (AreBelow dims) (group_values (loops_of taken)) k [] (all_below dims (parts_of taken) (loops_of taken) (are_loops dims taken some few inside) inside) (subst (λ n. k < n) (sym as_many) l)

      natural_group : map natural group ≡ places_of (parts_of taken) (offset_of taken k)
      unfolding group
      natural_group =
          sym (nth_map (map natural) (group_values (loops_of taken)) k [] [] (subst (λ n. k < n) (sym as_many) l))
          ∙ ap (λ rows. slice_index_or rows k []) same ∙ nth_map (places_of (parts_of taken)) (all_offsets (parts_of taken)) k [] [] l

      pub group_is : map (wrap int_type) (slice_index_or (group_values (loops_of taken)) k []) ≡ places_of (parts_of taken) (offset_of taken k)
      unfolding group
      group_is = words_natural dims group below some few ∙ natural_group

      pub places_small : Each (λ p. p < 2 ^ 31) (places_of (parts_of taken) (offset_of taken k))
      places_small = subst (Each (λ p. p < 2 ^ 31)) natural_group (naturals_small dims group below some few)

      pub place_inside : row_major dims (places_of (parts_of taken) (offset_of taken k)) < word_count dims
      place_inside = subst (λ ps. row_major dims ps < word_count dims) natural_group (in_memory dims group below)

  module _ (inside : has_none (lengths (parts_of taken)) ≡ false → are_parts_inside dims (parts_of taken) ≡ true) where
    pub count_is : length (group_values (loops_of taken)) ≡ count_of taken
    count_is = by (has_none (lengths (parts_of taken))) refl
      where
        by : (b : Bool) → has_none (lengths (parts_of taken)) ≡ b → length (group_values (loops_of taken)) ≡ count_of taken
        by true e = ap length (none_values taken e) ∙ sym (ap length (none_offsets (parts_of taken) e))
        by false e = as_many (inside e)

    -- a slice with a word is inside
    pub is_inside : (k : ℕ) → k < count_of taken → are_parts_inside dims (parts_of taken) ≡ true
    is_inside k l = by (has_none (lengths (parts_of taken))) refl
      where
        by : (b : Bool) → has_none (lengths (parts_of taken)) ≡ b → are_parts_inside dims (parts_of taken) ≡ true
        by true e = absurd (let f = ap length (none_offsets (parts_of taken) e) in omega (arith, l, f))
        by false e = inside e

-- how far into each range a word is: one number for each range
pub offsets_long : (taken : List Taken) (k : ℕ) → k < count_of taken → length (offset_of taken k) ≡ length (lengths (parts_of taken))
offsets_long taken k l =
    each_at (λ t. length t ≡ length (map numbers_below (lengths (parts_of taken)))) (all_offsets (parts_of taken)) k [] (tuples_long (map numbers_below (lengths (parts_of taken)))) l
    ∙ mapped numbers_below (lengths (parts_of taken))
