-- The masks of rows tell which lanes have an iteration, while a slot is at work on a group.
use Rattle.std.proofs.Common.{◌≡◌, ℕ, zero, suc, ◌+◌, ◌<◌, List, [], ◌∷◌, ◌++◌, map, length, drop, slice_index, refl, ap, subst, ◌∙◌, arith}
use Rattle.sp_netlist.specs.declared.parts.Wire.{Wire}
use Rattle.sp_netlist.specs.Signals.{Signals}
use Rattle.sp_part_runs.specs.SequencesChains.{Numbered}
use Rattle.sp_beat_words.specs.declared.part.Row.{Row}
use Rattle.sp_part_runs.specs.WordsLaws.{HaveWords, AreAsLong}
use Rattle.sp_node_runs.specs.BodiesRows.{wires_of}
use Rattle.sp_tree_circuits.specs.Circuits.{row_nets}

module _ (s : Signals) (t u : ℕ) where
  pub have_words : (wires before : List Wire) → length wires ≡ length before → HaveWords s t u wires before → map (s.net t) (wires_of wires) ≡ map (s.net u) (wires_of before)
  have_words [] [] e h = refl
  have_words [] (w ∷ before) e h = absurd (omega (arith, e))
  have_words (v ∷ wires) [] e h = absurd (omega (arith, e))
  have_words (v ∷ wires) (w ∷ before) e h = ap (λ x. x ∷ map (s.net t) (wires_of wires)) h.0 ∙ ap (λ xs. s.net u w.net ∷ xs) (have_words wires before (omega (arith, e)) h.1)

module _ (f g : ℕ → ℕ) where
  heads : (x y : ℕ) (xs ys : List ℕ) → map f (x ∷ xs) ≡ map g (y ∷ ys) → (f x ≡ g y) × (map f xs ≡ map g ys)
  heads x y xs ys e = (cc (e), cc (e))

  none_more : (y : ℕ) (ys : List ℕ) → [] ≡ map g (y ∷ ys) → ⊥
  none_more y ys e = absurd (cc (e))

  -- behind so many words stand those of the masks
  pub behind : (ns vs ms : List ℕ) → map f ns ≡ map g (vs ++ ms) → map f (drop (length vs) ns) ≡ map g ms
  behind ns [] ms e = e
  behind [] (v ∷ vs) ms e = absurd (none_more v (vs ++ ms) e)
  behind (n ∷ ns) (v ∷ vs) ms e = behind ns vs ms (heads n v ns (vs ++ ms) e).1

  pub same_at : (xs ms : List ℕ) (i : ℕ) → map f xs ≡ map g ms → i < length ms → f (slice_index xs i) ≡ g (slice_index ms i)
  same_at xs [] i e l = absurd (omega (arith, l))
  same_at [] (m ∷ ms) i e l = absurd (none_more m ms e)
  same_at (x ∷ xs) (m ∷ ms) zero e l = (heads x m xs ms e).0
  same_at (x ∷ xs) (m ∷ ms) (suc i) e l = same_at xs ms i (heads x m xs ms e).1 (omega (arith, l))

-- a row by the number of its slot
pub record RowAt (P : ℕ → Row → Type 0) (count x : ℕ) (nets : List ℕ) : Type 0 where
  pub row : Row
  pub holds : P x row
  pub long : length row.wires.items ≡ count
  pub same : nets ≡ wires_of row.wires.items

pub row_at : (P : ℕ → Row → Type 0) (count n : ℕ) (rows : List Row) (x : ℕ) → Numbered P n rows → AreAsLong count rows → x < length rows → RowAt P count (n + x) (row_nets rows x)
row_at P count n [] x h long l = absurd (omega (arith, l))
row_at P count n (row ∷ rows) zero h long l = subst (λ m. RowAt P count m (row_nets (row ∷ rows) 0)) {x = n} {y = n + 0} (omega arith) (record { row = row; holds = h.0; long = long.0; same = refl })
row_at P count n (row ∷ rows) (suc x) h long l = subst (λ m. RowAt P count m (row_nets rows x)) {x = suc n + x} {y = n + suc x} (omega arith) (row_at P count (suc n) rows x h.1 long.1 (omega (arith, l)))
