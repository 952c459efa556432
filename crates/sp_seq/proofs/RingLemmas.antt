-- The part of the slots that holds a queue.
use Rattle.std.proofs.Common.{◌≡◌, ℕ, ◌+◌, ◌-◌, ◌%◌, ◌<◌, ◌≤◌, ◌⊎◌, List, [], ◌∷◌, ◌++◌, length, get_or, set, ap, ◌∙◌, ap₂, inl, inr, mod-eq_of_lt, arith, length-append, length-drop, length-set, length-take-le, get_or-drop, get_or-take}
use native.Mathlib.Nat.{mod-eq-sub-mod, mod-add-mod}
use Rattle.std.proofs.lemmas.List.{same_lists, drop_more, get_or_append_left, get_or-append_right}
use Rattle.std.proofs.lemmas.Bool.{cases_lt}
use Rattle.std.proofs.lemmas.Grind.{common_steps}
use Rattle.sp_seq.specs.Rows.{window}

-- a place below 2 N wraps once at most
pub mod_wraps_once : (N j : ℕ) → j < N + N → ((j < N) × (j % N ≡ j)) ⊎ ((N ≤ j) × (j % N ≡ j - N))
mod_wraps_once N j below = elim (cases_lt j N) [
  | inl low ↦ inl (low, mod-eq_of_lt low)
  | inr high ↦ inr (high, mod-eq-sub-mod high ∙ mod-eq_of_lt (omega arith))
]

module _ (N k n : ℕ) (xs : List ℕ) (starts : k < N) (fits : n ≤ N) (all : length xs ≡ N) where
  pub length-window : length (window k n xs) ≡ n
  length-window = length-take-le n _ (simp (length-append, length-drop) (omega (arith, length-take-le k xs (omega arith))))

  -- word i of the queue stands in slot (k + i) % N
  get_or-window : (i d : ℕ) → i < n → get_or (window k n xs) i d ≡ get_or xs ((k + i) % N) d
  get_or-window i d inside =
      let length_tail = length-drop k xs in
      get_or-take n _ i d inside ∙ elim (mod_wraps_once N (k + i) (omega arith)) [
        | inl low ↦ get_or_append_left _ _ d i (omega arith) ∙ get_or-drop k xs i d ∙ ap (λ j. get_or xs j d) (omega arith)
        | inr high ↦ get_or-append_right _ _ (N - k) i d (omega arith) (omega arith) ∙ get_or-take k xs _ d (omega arith) ∙ ap (λ j. get_or xs j d) (omega arith)
      ]

module _ (N k n : ℕ) (xs : List ℕ) (starts : k < N) (fits : n ≤ N) (all : length xs ≡ N) where
  -- a write behind the last word adds it at the end
  pub window-push : (x : ℕ) → n < N → window k (n + 1) (set xs ((k + n) % N) x) ≡ window k n xs ++ x ∷ []
  window-push x has_room =
      let ys = set xs ((k + n) % N) x in
      let length_ys = length-set xs ((k + n) % N) x ∙ all in
      let length_old = length-window N k n xs starts fits all in
      let length_new = length-window N k (n + 1) ys starts (omega arith) length_ys in
      let written_slot = mod_wraps_once N (k + n) (omega arith) in
      same_lists _ _ (grind (arith, common_steps)) (λ i d inside. grind (
        arith,
        common_steps,
        mod_wraps_once N (k + i) (omega arith),
        get_or-window N k n xs starts fits all i d,
        get_or-window N k (n + 1) ys starts (omega arith) length_ys i d,
      ))

  -- the queue is slot k, and then the queue from the next slot on
  pub window-pop : 0 < n → window k n xs ≡ get_or xs k 0 ∷ window ((k + 1) % N) (n - 1) xs
  window-pop some =
      let next_starts : (k + 1) % N < N = grind (arith, mod_wraps_once N (k + 1) (omega arith)) in
      let length_old = length-window N k n xs starts fits all in
      let length_new = length-window N ((k + 1) % N) (n - 1) xs next_starts (omega arith) all in
      let old_word = get_or-window N k n xs starts fits all in
      drop_more _ 0 0 (omega arith) ∙ ap₂ ◌∷◌ (grind (arith, old_word 0 0, mod_wraps_once N k)) (same_lists _ _ (simp length-drop (omega arith)) (λ i d inside. grind (
        arith,
        length-drop 1 (window k n xs),
        get_or-drop 1 (window k n xs) i d,
        mod-add-mod (k + 1) N i,
        old_word (1 + i) d,
        get_or-window N _ (n - 1) xs next_starts (omega arith) all i d,
      )))
