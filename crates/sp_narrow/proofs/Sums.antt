-- The lanes of a slice move all of its words.
use Rattle.std.proofs.Common.{◌≡◌, ℕ, ◌+◌, ◌-◌, ◌*◌, ◌<◌, List, [], ◌∷◌, length, map, refl, sym, ◌∙◌, ap, arith}
use Rattle.sp_words.specs.Interface.{word_count}
use Rattle.sp_core.specs.Cost.{sum_of}
use Rattle.sp_core.specs.Elements.{numbers_below}
use Rattle.sp_core.specs.Shape.{ceil_div, lane_words, last_length, row_count}
use Rattle.sp_core.specs.Transfers.{Part, lengths, all_offsets}
use Rattle.sp_same.proofs.LaneCounts.{lanes_same, numbers_length}
use Rattle.sp_same.proofs.SliceTwins.{same_numbers_below, same_tuples}
use Rattle.sp_turns.proofs.LaneSums.{tuple_count, whole_row}

-- of a slice with ranges of these lengths
abbrev pub in_lanes : (par : ℕ) → List ℕ → List ℕ
in_lanes par ns = map (lane_words (row_count ns) (last_length ns) par) (numbers_below par)

row_by_row : (rows columns par : ℕ) (lanes : List ℕ) → sum_of (map (lane_words rows columns par) lanes) ≡ rows * sum_of (map (lane_words 1 columns par) lanes)
row_by_row rows columns par [] = omega arith
row_by_row rows columns par (l ∷ lanes) =
    ap (λ k. lane_words rows columns par l + k) (row_by_row rows columns par lanes) ∙ gather rows (ceil_div (columns - l) par) (sum_of (map (lane_words 1 columns par) lanes))
  where
    gather : (rows one others : ℕ) → rows * one + rows * others ≡ rows * (1 * one + others)
    gather rows one others = omega arith

one_row : (par : ℕ) → 0 < par → (columns : ℕ) → sum_of (map (lane_words 1 columns par) (numbers_below par)) ≡ columns
one_row par some columns = ap sum_of (lanes_same (columns ∷ []) par none) ∙ whole_row par some columns
  where
    none : columns ∷ [] ≡ [] → ⊥
    none e = let f : 1 ≡ 0 = ap length e in omega (arith, f)

pub all_lanes : (par : ℕ) → 0 < par → (ns : List ℕ) → sum_of (in_lanes par ns) ≡ row_count ns * last_length ns
all_lanes par some ns = row_by_row (row_count ns) (last_length ns) par (numbers_below par) ∙ ap (λ k. row_count ns * k) (one_row par some (last_length ns))

product : (ns : List ℕ) → word_count ns ≡ row_count ns * last_length ns
product [] = omega arith
product (n ∷ []) = omega arith
product (n ∷ m ∷ ns) = ap (λ k. n * k) (product (m ∷ ns)) ∙ regroup n (row_count (m ∷ ns)) (last_length (m ∷ ns))
  where
    regroup : (a b c : ℕ) → a * (b * c) ≡ a * b * c
    regroup a b c = omega arith

lengths_below : (ns : List ℕ) → map length (map numbers_below ns) ≡ ns
lengths_below [] = refl
lengths_below (n ∷ ns) = ap (λ k. k ∷ map length (map numbers_below ns)) (ap length (same_numbers_below n) ∙ numbers_length n) ∙ ap (λ l. n ∷ l) (lengths_below ns)

-- and a slice has so many words
pub all_words : (par : ℕ) → 0 < par → (parts : List Part) → length (all_offsets parts) ≡ sum_of (in_lanes par (lengths parts))
all_words par some parts =
    ap length (same_tuples (map numbers_below (lengths parts))) ∙ tuple_count (map numbers_below (lengths parts)) ∙ ap word_count (lengths_below (lengths parts)) ∙ product (lengths parts)
    ∙ sym (all_lanes par some (lengths parts))
