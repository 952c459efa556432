-- The words that the DRAMs of a core have first.
use Rattle.std.proofs.Common.{◌≡◌, ◌≢◌, ℕ, zero, suc, ◌+◌, ◌<◌, ◌≤◌, Bool, true, false, if◌then◌else◌, List, [], ◌∷◌, ◌++◌, length, map, slice_index_or, Option, Some, None, refl, sym, ap, ◌∙◌, arith, eq-eqb, ne_eqb}
use Rattle.std.specs.List.{range_with_len}
use Rattle.std.proofs.lemmas.List.{map-append}
use Rattle.std.proofs.lemmas.List.FromFn.{map-range_with_len_more}
use Rattle.sp_words.specs.declared.kind.Kind.{Kind}
use Rattle.sp_words.specs.Memory.{Contents, words}
use Rattle.sp_words.specs.Ports.{PlainInput}
use Rattle.sp_core.specs.Declarations.{dram_number}
use Rattle.sp_core.specs.Elements.{numbers_below}
use Rattle.sp_core.specs.Meaning.{is_arg, numbers_of, args_of, outs_of, drams_of, hold_each, first_store}
use Rattle.sp_core.specs.PlainCore.{PlainMem, PlainCore}
use Rattle.sp_core.specs.Store.{Store, hold, words_of}
use Rattle.sp_time.specs.Lists.{Each}
use Rattle.sp_stored_cores.specs.Outside.{FirstWordsGiven}

-- what is held elsewhere isn't changed
other_held : (s : Store) (m k : ℕ) (c : Contents) → k ≢ m → hold s m c k ≡ s k
other_held s m k c apart = ap (λ b. elim b as (λ _. Option Contents) [ true ↦ Some c | false ↦ s k ]) (ne_eqb k m apart)

held_here : (s : Store) (m : ℕ) (c : Contents) → hold s m c m ≡ Some c
held_here s m c = ap (λ b. elim b as (λ _. Option Contents) [ true ↦ Some c | false ↦ s m ]) (eq-eqb m m refl)

hold_others : (ms : List ℕ) (wss : List (List ℕ)) (s : Store) (k : ℕ) → Each (λ m. k ≢ m) ms → hold_each ms wss s k ≡ s k
hold_others [] wss s k apart = refl
hold_others (m ∷ ms) [] s k apart = refl
hold_others (m ∷ ms) (ws ∷ wss) s k apart = hold_others ms wss (hold s m (words ws)) k apart.1 ∙ other_held s m k (words ws) apart.0

-- the memories of a kind stand before the DRAMs
numbers_apart : (is : Kind → Bool) (first : ℕ) (mems : List PlainMem) (k : ℕ) → first + length mems ≤ k → Each (λ m. k ≢ m) (numbers_of is first mems)
numbers_apart is first [] k past = tt
numbers_apart is first (m ∷ mems) k past = by (is m.kind) (numbers_apart is (suc first) mems k (omega (arith, past)))
  where
    by : (b : Bool) → Each (λ n. k ≢ n) (numbers_of is (suc first) mems) → Each (λ n. k ≢ n) ((if b then first ∷ [] else []) ++ numbers_of is (suc first) mems)
    by true rest = ((λ e. absurd (omega (arith, past, e))), rest)
    by false rest = rest

-- DRAMs that are held one after the other, from a number on
range_apart : (base first n k : ℕ) → k < first → Each (λ m. base + k ≢ m) (map (λ r. base + r) (range_with_len first n))
range_apart base first zero k less = tt
range_apart base first (suc n) k less = ((λ e. absurd (omega (arith, less, e))), range_apart base (first + 1) n k (omega (arith, less)))

held_in_row : (base first : ℕ) (wss : List (List ℕ)) (s : Store) (r : ℕ) → r < length wss → hold_each (map (λ k. base + k) (range_with_len first (length wss))) wss s (base + (first + r)) ≡ Some (words (slice_index_or wss r []))
held_in_row base first [] s r l = absurd (omega (arith, l))
held_in_row base first (ws ∷ wss) s zero l =
    let at : base + (first + 0) ≡ base + first = omega arith in
    ap (hold_each (map (λ k. base + k) (range_with_len (first + 1) (length wss))) wss (hold s (base + first) (words ws))) at
    ∙ hold_others (map (λ k. base + k) (range_with_len (first + 1) (length wss))) wss (hold s (base + first) (words ws)) (base + first) (range_apart base (first + 1) (length wss) first (omega arith))
    ∙ held_here s (base + first) (words ws)
held_in_row base first (ws ∷ wss) s (suc r) l =
    let at : base + (first + suc r) ≡ base + (first + 1 + r) = omega arith in
    ap (hold_each (map (λ k. base + k) (range_with_len (first + 1) (length wss))) wss (hold s (base + first) (words ws))) at
    ∙ held_in_row base (first + 1) wss (hold s (base + first) (words ws)) r (omega (arith, l))

below_is_range : {A : Type 0} (f : ℕ → A) (n : ℕ) → map f (numbers_below n) ≡ map f (range_with_len 0 n)
below_is_range f zero = refl
below_is_range f (suc n) =
    map-append f (numbers_below n) (n ∷ []) ∙ ap (λ xs. xs ++ f n ∷ []) (below_is_range f n) ∙ sym (map-range_with_len_more f 0 n n (omega arith)) ∙ (let next : n + 1 ≡ suc n = omega arith in ap (λ k. map f (range_with_len 0 k)) next)

module _ (core : PlainCore) (input : PlainInput) (many : length input.drams ≡ length core.ports.drams) where
  row : drams_of core ≡ map (λ k. length core.mems + k) (range_with_len 0 (length input.drams))
  row = below_is_range (dram_number core) (length core.ports.drams) ∙ ap (λ n. map (λ k. length core.mems + k) (range_with_len 0 n)) (sym many)

  given_first : (r : ℕ) → r < length input.drams → first_store core input (dram_number core r) ≡ Some (words (slice_index_or input.drams r []))
  given_first r l =
      let base = hold_each (outs_of core) (map (λ m. 0 ∷ []) (outs_of core)) (λ m. None) in
      hold_others (args_of core) (map (λ w. w ∷ []) input.args) (hold_each (drams_of core) input.drams base) (dram_number core r) (numbers_apart is_arg 0 core.mems (dram_number core r) (omega arith))
      ∙ ap (λ ms. hold_each ms input.drams base (dram_number core r)) row
      ∙ (let at : dram_number core r ≡ length core.mems + (0 + r) = omega arith in
      ap (hold_each (map (λ k. length core.mems + k) (range_with_len 0 (length input.drams))) input.drams base) at)
      ∙ held_in_row (length core.mems) 0 input.drams base r l

pub first_words_given : (core : PlainCore) → FirstWordsGiven core
first_words_given core input many r l = ap words_of (given_first core input many r (omega (arith, l, many)))
