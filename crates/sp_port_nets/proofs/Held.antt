-- What memories hold that are given their words by number.
use Rattle.std.proofs.Common.{◌≡◌, ℕ, zero, suc, ◌<◌, Bool, true, false, cond, List, [], ◌∷◌, ◌++◌, length, map, slice_index, Option, Some, refl, ap, ◌∙◌, arith}
use Rattle.std.proofs.lemmas.Bool.{eq-eqb, ne_eqb}
use Rattle.sp_words.specs.declared.kind.Kind.{Kind}
use Rattle.sp_words.specs.Memory.{Contents, words}
use Rattle.sp_core.specs.Meaning.{numbers_of, hold_each}
use Rattle.sp_core.specs.PlainCore.{PlainMem}
use Rattle.sp_core.specs.Store.{Store, hold}

held_here : (s : Store) (m : ℕ) (c : Contents) → hold s m c m ≡ Some c
held_here s m c = ap (λ b. elim b as (λ _. Option Contents) [ true ↦ Some c | false ↦ s m ]) (eq-eqb m m refl)

held_there : (s : Store) (n : ℕ) (c : Contents) (m : ℕ) → m < n → hold s n c m ≡ s m
held_there s n c m l = ap (λ b. elim b as (λ _. Option Contents) [ true ↦ Some c | false ↦ s m ]) (ne_eqb m n (λ e. omega (arith, e, l)))

module _ (is : Kind → Bool) where
  -- all numbers are from the first one on
  pub held_before : (mems : List PlainMem) (first : ℕ) (all : List (List ℕ)) (s : Store) (m : ℕ) → m < first → hold_each (numbers_of is first mems) all s m ≡ s m
  held_before [] first all s m l = refl
  held_before (x ∷ mems) first all s m l = go (is x.kind) all (λ others t. held_before mems (suc first) others t m (omega (arith, l)))
    where
      go : (b : Bool) (given : List (List ℕ)) → ((others : List (List ℕ)) (t : Store) → hold_each (numbers_of is (suc first) mems) others t m ≡ t m)
          → hold_each (cond b (first ∷ []) [] ++ numbers_of is (suc first) mems) given s m ≡ s m
      go true [] h = refl
      go true (ws ∷ others) h = h others (hold s first (words ws)) ∙ held_there s first (words ws) m l
      go false given h = h given s

  -- each memory has the word at its place
  pub held_at : (mems : List PlainMem) (first k : ℕ) (ws : List ℕ) (s : Store) → k < length (numbers_of is first mems) → k < length ws
      → hold_each (numbers_of is first mems) (map (λ (w : ℕ). w ∷ []) ws) s (slice_index (numbers_of is first mems) k) ≡ Some (words (slice_index ws k ∷ []))
  held_at [] first k ws s l q = absurd (omega (arith, l))
  held_at (x ∷ mems) first k ws s l q = go (is x.kind) k ws l q (λ j others t. held_at mems (suc first) j others t)
    where
      go : (b : Bool) (j : ℕ) (given : List ℕ) → j < length (cond b (first ∷ []) [] ++ numbers_of is (suc first) mems) → j < length given
          → ((i : ℕ) (others : List ℕ) (t : Store) → i < length (numbers_of is (suc first) mems) → i < length others
          → hold_each (numbers_of is (suc first) mems) (map (λ (w : ℕ). w ∷ []) others) t (slice_index (numbers_of is (suc first) mems) i) ≡ Some (words (slice_index others i ∷ [])))
          → hold_each (cond b (first ∷ []) [] ++ numbers_of is (suc first) mems) (map (λ (w : ℕ). w ∷ []) given) s (slice_index (cond b (first ∷ []) [] ++ numbers_of is (suc first) mems) j)
          ≡ Some (words (slice_index given j ∷ []))
      go true j [] l q h = absurd (omega (arith, q))
      go true zero (w ∷ given) l q h = held_before mems (suc first) (map (λ (v : ℕ). v ∷ []) given) (hold s first (words (w ∷ []))) first (omega arith) ∙ held_here s first (words (w ∷ []))
      go true (suc j) (w ∷ given) l q h = h j given (hold s first (words (w ∷ []))) (omega (arith, l)) (omega (arith, q))
      go false j given l q h = h j given s l q
