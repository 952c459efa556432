-- Places of elements, dimension by dimension.
use Rattle.std.proofs.Common.{◌≡◌, ℕ, suc, ◌+◌, ◌*◌, ◌-◌, ◌^◌, ◌<◌, ◌≤◌, Bool, true, false, List, [], ◌∷◌, length, get_or, drop, map, Option, Some, None, refl, sym, ◌∙◌, ap, subst, arith, cond, ltb, ⊎_elim, All}
use Rattle.std.specs.Prelude.{◌&&◌, ℤ, pos, negsuc, ◌-ℤ◌}
use Rattle.std.proofs.lemmas.Bool.{cases_lt, lt-ltb, le-ltb, lt-leb, le-leb, ltb-true}
use Rattle.std.proofs.lemmas.Nat.{mul-add-lt}
use Rattle.std.proofs.lemmas.List.{drop_more}
use Rattle.std.proofs.lemmas.List.Elements.{All-drop}
use Rattle.std.proofs.Math.Nat.{mul-le-mul_right, mul-le-mul_left, mul-pos}
use Rattle.sp_words.specs.Interface.{IsCount, word_count}
use Rattle.sp_words.specs.Types.{int_type}
use Rattle.sp_words.specs.Words.{IsWord, value_of, has_sign}
use Rattle.sp_tree.specs.Elements.{index_value, natural, is_below, are_inside, row_major}
use Rattle.sp_seq.specs.Places.{place_in}
use Rattle.sp_seq.specs.Rows.{CellRow, no_cells}
use Rattle.sp_seq.specs.States.{AreRows}

abbrev signed : ℕ → Bool → ℤ
signed i b = cond b (pos i -ℤ pos 4294967296) (pos i)

pub index_small : (i : ℕ) → i < 2 ^ 31 → index_value i ≡ pos i
unfolding value_of has_sign
index_small i l = ap (signed i) (lt-leb 2147483648 i l)

index_large : (i : ℕ) → 2 ^ 31 ≤ i → i < 2 ^ 32 → index_value i ≡ negsuc (4294967296 - suc i)
unfolding value_of has_sign
index_large i l h = ap (signed i) (le-leb 2147483648 i l) ∙ ap (λ b. cond b (negsuc (4294967296 - suc i)) (pos (i - 4294967296))) (lt-ltb i 4294967296 h)

below_in : (i d : ℕ) → i < d → d < 2 ^ 31 → is_below (index_value i) d ≡ true
below_in i d l h = ap (λ z. is_below z d) (index_small i (omega arith)) ∙ lt-ltb i d l

below_out : (i d : ℕ) → IsWord int_type i → d ≤ i → is_below (index_value i) d ≡ false
below_out i d w l = ⊎_elim
    (λ s. ap (λ z. is_below z d) (index_small i s) ∙ le-ltb i d l)
    (λ s. ap (λ z. is_below z d) (index_large i s w))
    (cases_lt i (2 ^ 31))

natural_in : (i d : ℕ) → i < d → d < 2 ^ 31 → natural (index_value i) ≡ i
natural_in i d l h = ap natural (index_small i (omega arith))

-- the place where so many rows stand before
pub place_from : ℕ → (dims indices : List ℕ) → Option ℕ
place_from at dims is =
    cond (are_inside dims (map index_value is)) (Some (at * word_count dims + row_major dims (map (λ i. natural (index_value i)) is))) None

pub from_start : (dims is : List ℕ) → place_from 0 dims is ≡ place_in dims is
unfolding place_from
from_start dims is = ap (λ n. cond (are_inside dims (map index_value is)) (Some (n + row_major dims (map (λ i. natural (index_value i)) is))) None) {x = 0 * word_count dims} {y = 0} (omega arith) ∙ ap (λ n. cond (are_inside dims (map index_value is)) (Some n) None) (omega arith)

pub at_end : (at : ℕ) → place_from at [] [] ≡ Some at
unfolding place_from
at_end at = ap (λ n. Some n) (omega arith)

pub one_in : (at d i : ℕ) (ds is : List ℕ) → i < d → d < 2 ^ 31 → place_from at (d ∷ ds) (i ∷ is) ≡ place_from (at * d + i) ds is
unfolding place_from
one_in at d i ds is l h =
    let inside = are_inside ds (map index_value is) in
    let w = word_count ds in
    let r = row_major ds (map (λ i. natural (index_value i)) is) in
    let sum : at * (d * w) + (i * w + r) ≡ (at * d + i) * w + r = omega arith in
    ap (λ b. cond (b && inside) (Some (at * (d * w) + (natural (index_value i) * w + r))) None) (below_in i d l h)
    ∙ ap (λ n. cond inside (Some (at * (d * w) + (n * w + r))) None) (natural_in i d l h)
    ∙ ap (λ n. cond inside (Some n) None) sum

pub one_out : (at d i : ℕ) (ds is : List ℕ) → IsWord int_type i → d ≤ i → place_from at (d ∷ ds) (i ∷ is) ≡ None
unfolding place_from
one_out at d i ds is w l =
    ap (λ b. cond (b && are_inside ds (map index_value is)) (Some (at * (d * word_count ds) + (natural (index_value i) * word_count ds + row_major ds (map (λ i. natural (index_value i)) is)))) None) (below_out i d w l)

pub other_lengths : (dims is : List ℕ) → (length dims ≡ length is → ⊥) → place_in dims is ≡ None
other_lengths [] [] h = absurd (h refl)
other_lengths [] (i ∷ is) h = refl
other_lengths (d ∷ ds) [] h = refl
other_lengths (d ∷ ds) (i ∷ is) h = none (is_below (index_value i) d) (are_inside ds (map index_value is)) _ (inside_lengths ds is (λ e. h (ap suc e)))
  where
    none : (a b : Bool) (n : ℕ) → b ≡ false → cond (a && b) (Some n) None ≡ None
    none true b n e = ap (λ c. cond c (Some n) None) e
    none false b n e = refl

    inside_lengths : (ds is : List ℕ) → (length ds ≡ length is → ⊥) → are_inside ds (map index_value is) ≡ false
    inside_lengths [] [] h = absurd (h refl)
    inside_lengths [] (i ∷ is) h = refl
    inside_lengths (d ∷ ds) [] h = refl
    inside_lengths (d ∷ ds) (i ∷ is) h = both (is_below (index_value i) d) _ (inside_lengths ds is (λ e. h (ap suc e)))
      where
        both : (a b : Bool) → b ≡ false → (a && b) ≡ false
        both true b e = e
        both false b e = refl

-- one dimension more, at a place of both lists
pub step_in : (at k : ℕ) (dims is : List ℕ) → length dims ≡ length is → k < length dims → get_or is k 0 < get_or dims k 0 → get_or dims k 0 < 2 ^ 31
    → place_from at (drop k dims) (drop k is) ≡ place_from (at * get_or dims k 0 + get_or is k 0) (drop (k + 1) dims) (drop (k + 1) is)
step_in at k dims is e l i d =
    let m : k < length is = omega arith in
    ap (λ xs. place_from at xs (drop k is)) (drop_more dims k 0 l) ∙ ap (λ xs. place_from at (get_or dims k 0 ∷ drop (k + 1) dims) xs) (drop_more is k 0 m) ∙ one_in at _ _ _ _ i d

pub step_out : (at k : ℕ) (dims is : List ℕ) → length dims ≡ length is → k < length dims → IsWord int_type (get_or is k 0) → get_or dims k 0 ≤ get_or is k 0 → place_from at (drop k dims) (drop k is) ≡ None
step_out at k dims is e l w i =
    let m : k < length is = omega arith in
    ap (λ xs. place_from at xs (drop k is)) (drop_more dims k 0 l) ∙ ap (λ xs. place_from at (get_or dims k 0 ∷ drop (k + 1) dims) xs) (drop_more is k 0 m) ∙ one_out at _ _ _ _ w i

-- there are no more places than words
pub step_room : (at k i : ℕ) (dims : List ℕ) → k < length dims → i < get_or dims k 0 → (at + 1) * word_count (drop k dims) ≤ word_count dims → (at * get_or dims k 0 + i + 1) * word_count (drop (k + 1) dims) ≤ word_count dims
step_room at k i dims l h r =
    let d = get_or dims k 0 in
    let w = word_count (drop (k + 1) dims) in
    let all : (at + 1) * (d * w) ≤ word_count dims = subst (λ xs. (at + 1) * word_count xs ≤ word_count dims) (drop_more dims k 0 l) r in
    let more = mul-le-mul_right {m = at * d + i + 1} {n = (at + 1) * d} w (omega arith) in
    omega arith

pub count_pos : (dims : List ℕ) → All IsCount dims → 1 ≤ word_count dims
count_pos [] h = omega arith
count_pos (d ∷ ds) h =
    let rest = count_pos ds (λ k e l. h (suc k) e (omega arith)) in
    let d_pos = (h 0 0 (omega arith)).0 in
    mul-pos {m = d} {n = word_count ds} d_pos rest

-- what a step computes fits
pub step_fits : (at k i : ℕ) (dims : List ℕ) → All IsCount dims → word_count dims < 2 ^ 32 → k < length dims → i < get_or dims k 0 → (at + 1) * word_count (drop k dims) ≤ word_count dims → at * get_or dims k 0 + i < 2 ^ 32
step_fits at k i dims c s l h r =
    let rest = count_pos (drop (k + 1) dims) (All-drop IsCount (k + 1) dims c) in
    let more = step_room at k i dims l h r in
    let x = at * get_or dims k 0 + i + 1 in
    let least = mul-le-mul_left {m = 1} {n = word_count (drop (k + 1) dims)} x rest in
    omega arith

-- the place of an element is one of its memory
row_below : (dims is : List ℕ) → are_inside dims (map index_value is) ≡ true → row_major dims (map (λ i. natural (index_value i)) is) < word_count dims
row_below [] [] e = omega arith
row_below [] (i ∷ is) e = absurd (cc)
row_below (d ∷ ds) [] e = absurd (cc)
row_below (d ∷ ds) (i ∷ is) e =
    let first = and_first (is_below (index_value i) d) _ e in
    let rest = row_below ds is (and_rest (is_below (index_value i) d) _ e) in
    let below = mul-add-lt (natural (index_value i)) (word_count ds) (row_major ds (map (λ j. natural (index_value j)) is)) d (natural_below (index_value i) d first) rest in
    omega arith
  where
    and_first : (a b : Bool) → (a && b) ≡ true → a ≡ true
    and_first true b e = refl
    and_first false b e = absurd (cc)

    and_rest : (a b : Bool) → (a && b) ≡ true → b ≡ true
    and_rest true b e = e
    and_rest false b e = absurd (cc)

    natural_below : (z : ℤ) (d : ℕ) → is_below z d ≡ true → natural z < d
    natural_below (pos k) d e = ltb-true k d e
    natural_below (negsuc k) d e = absurd (cc)

pub place_inside : (dims is : List ℕ) (k : ℕ) → place_in dims is ≡ Some k → are_inside dims (map index_value is) ≡ true
place_inside dims is k e = only (are_inside dims (map index_value is)) _ e
  where
    only : (b : Bool) (n : ℕ) → cond b (Some n) None ≡ Some k → b ≡ true
    only true n e = refl
    only false n e = absurd (cc)

pub place_outside : (dims is : List ℕ) → place_in dims is ≡ None → are_inside dims (map index_value is) ≡ false
place_outside dims is e = only (are_inside dims (map index_value is)) _ e
  where
    only : (b : Bool) (n : ℕ) → cond b (Some n) None ≡ None → b ≡ false
    only true n e = absurd (cc)
    only false n e = refl

pub place_below : (dims is : List ℕ) (k : ℕ) → place_in dims is ≡ Some k → k < word_count dims
place_below dims is k e =
    let inside = place_inside dims is k e in
    let same : row_major dims (map (λ i. natural (index_value i)) is) ≡ k = of_some _ _ (ap (λ b. cond b (Some (row_major dims (map (λ i. natural (index_value i)) is))) None) (sym inside) ∙ e) in
    let below = row_below dims is inside in
    omega arith
  where
    of_some : (a b : ℕ) → Some a ≡ Some b → a ≡ b
    of_some a b e = cc

-- a cell of a line buffer
pub line_inside : (width : ℕ) (dims : List ℕ) (rs : List CellRow) (r c k : ℕ) → AreRows width dims rs → All IsCount dims → IsWord int_type r → IsWord int_type c → place_in dims (r ∷ c ∷ []) ≡ Some k
    → (r < length rs) × (c < length (get_or rs r no_cells).cells) × ((get_or rs r no_cells).width ≡ width) × (natural (index_value r) ≡ r) × (natural (index_value c) ≡ c)
line_inside width [] rs r c k h n w v e = absurd h
line_inside width (a ∷ []) rs r c k h n w v e = absurd h
line_inside width (a ∷ b ∷ []) rs r c k h n w v e =
    let inside = place_inside (a ∷ b ∷ []) (r ∷ c ∷ []) k e in
    let both = inside_both (is_below (index_value r) a) (is_below (index_value c) b) inside in
    let row = below_from r a w both.0 in
    let column = below_from c b v both.1 in
    let a_small = (n 0 0 (omega arith)).1 in
    let b_small = (n 1 0 (omega arith)).1 in
    let here : r < length rs = omega (arith, h.0) in
    let is_row = h.1 r no_cells here in
    (here, omega (arith, is_row.1), is_row.0, natural_in r a row a_small, natural_in c b column b_small)
  where
    inside_both : (x y : Bool) → (x && (y && true)) ≡ true → (x ≡ true) × (y ≡ true)
    inside_both true true e = (refl, refl)
    inside_both true false e = absurd (cc)
    inside_both false y e = absurd (cc)

    below_from : (i d : ℕ) → IsWord int_type i → is_below (index_value i) d ≡ true → i < d
    below_from i d w e = ⊎_elim (λ l. l) (λ l. absurd (no (sym (below_out i d w l) ∙ e))) (cases_lt i d)
      where
        no : false ≡ true → ⊥
        no e = cc
line_inside width (a ∷ b ∷ x ∷ ds) rs r c k h n w v e = absurd h

-- numbers that words are, by their tests
pub natural_small : (i : ℕ) → i < 2 ^ 31 → natural (index_value i) ≡ i
natural_small i l = ap natural (index_small i l)

pub natural_large : (i : ℕ) → 2 ^ 31 ≤ i → IsWord int_type i → natural (index_value i) ≡ 0
natural_large i l w = ap natural (index_large i l w)

pub is_below_small : (i d : ℕ) → i < 2 ^ 31 → is_below (index_value i) d ≡ ltb i d
is_below_small i d l = ap (λ z. is_below z d) (index_small i l)

pub is_below_large : (i d : ℕ) → 2 ^ 31 ≤ i → IsWord int_type i → is_below (index_value i) d ≡ false
is_below_large i d l w = ap (λ z. is_below z d) (index_large i l w)

pub index_negative : (i : ℕ) → 2 ^ 31 ≤ i → i < 2 ^ 32 → index_value i ≡ pos i -ℤ pos 4294967296
unfolding value_of has_sign
index_negative i l h = ap (signed i) (le-leb 2147483648 i l)
