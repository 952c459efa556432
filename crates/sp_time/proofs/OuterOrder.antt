-- What happens in an outer's run comes in order where it does in the runs of its stages.
use Rattle.std.proofs.Common.{◌≡◌, ℕ, zero, suc, ◌+◌, ◌<◌, ◌≤◌, List, [], ◌∷◌, length, slice_index_or, inl, inr, arith, refl}
use Rattle.sp_time.specs.Beats.{Slot, starts, whole, Run, run_at, took_at, placed, outer_run}
use Rattle.sp_time.specs.Lists.{Each}
use Rattle.sp_time.specs.Orders.{IsInOrder, Sooner, Precedes, IsOuterSound}
use Rattle.sp_time.proofs.BeatLemmas.{starts_after, starts_within}
use Rattle.sp_time.proofs.ListLemmas.{each_map, each_map2, each_mapped, each_joined, pairs_mapped, pairs_table}

pub each_at : {A : Type 0} (Q : A → Type 0) (d : A) → Q d → (xs : List A) → Each Q xs → (k : ℕ) → Q (slice_index_or xs k d)
each_at Q d q [] h k = q
each_at Q d q (x ∷ xs) h zero = h.0
each_at Q d q (x ∷ xs) h (suc k) = each_at Q d q xs h.1 k

-- any relation that two have where the first one is over before the second one unless they don't meet, and that they
-- keep where both are moved
module _ {E : Type 0} (at over : E → ℕ) (move : (group stage start : ℕ) → E → E) (R : E → E → Type 0) (Meets : (group stage other_group other_stage : ℕ) → E → E → Type 0)
    (at_move : (k s n : ℕ) (e : E) → at (move k s n e) ≡ n + at e)
    (over_move : (k s n : ℕ) (e : E) → over (move k s n e) ≡ n + over e)
    (unless : (k s l r m n : ℕ) (e f : E) → (Meets k s l r e f → over (move k s m e) ≤ at (move l r n f)) → R (move k s m e) (move l r n f))
    (moved : (k s n : ℕ) (e f : E) → R e f → R (move k s n e) (move k s n f))
    (slots : List Slot) (runs : List (List (Run E)))
    (each_run : (k s : ℕ) → IsInOrder over R (run_at runs k s)) (sound : IsOuterSound Meets slots runs) where
  comes : (k s l r : ℕ) (e f : E) → s < length slots → over e ≤ (run_at runs k s).took → Precedes slots k s l r → starts slots (took_at runs) k s + over e ≤ starts slots (took_at runs) l r + at f
  comes k s l r e f hs le before = let h : starts slots (took_at runs) k s + (run_at runs k s).took ≤ starts slots (took_at runs) l r = starts_after slots (took_at runs) k s l r hs before in omega arith

  two_runs : (k s l r : ℕ) → Sooner k s l r → l < length runs → s < length slots → r < length slots → Each (λ e. Each (R e) (placed move slots runs l r)) (placed move slots runs k s)
  two_runs k s l r sooner hl hs hr =
      let m = starts slots (took_at runs) k s in
      let n = starts slots (took_at runs) l r in
      each_mapped _ _ _
      (each_map2 (λ e. Each (λ f. Meets k s l r e f → Precedes slots k s l r) (run_at runs l r).events) (λ e. over e ≤ (run_at runs k s).took) (λ e. Each (R (move k s m e)) (placed move slots runs l r))
      (λ e apart le. each_mapped _ _ _ (each_map (λ f. Meets k s l r e f → Precedes slots k s l r) (λ f. R (move k s m e) (move l r n f))
      (λ f p. unless k s l r m n e f (λ meets.
      let h : m + over e ≤ n + at f = comes k s l r e f hs le (p meets) in
      omega (arith, over_move k s m e, at_move l r n f)))
      (run_at runs l r).events apart))
      (run_at runs k s).events (sound k s l r sooner hl hs hr) (each_run k s).within)

  pub outer_in_order : IsInOrder over R (outer_run move slots runs)
  outer_in_order = record {
    ordered = pairs_table R (placed move slots runs) (length runs) (length slots)
        (λ k s hk hs. pairs_mapped R R (move k s (starts slots (took_at runs) k s)) (λ e f. moved k s (starts slots (took_at runs) k s) e f) (run_at runs k s).events (each_run k s).ordered)
        (λ k r hk hr s hs. two_runs k s k r (inr (refl, hs)) hk (omega arith) hr)
        (λ k l s r hkl hl hs hr. two_runs k s l r (inl hkl) hl hs hr);
    within = each_joined _ _ _ (λ k hk. each_joined _ _ _ (λ s hs.
        let n = starts slots (took_at runs) k s in
        each_mapped _ _ _ (each_map (λ e. over e ≤ (run_at runs k s).took) (λ e. over (move k s n e) ≤ whole slots (took_at runs) (length runs))
        (λ e le. let h : suc (n + (run_at runs k s).took) ≤ whole slots (took_at runs) (length runs) = starts_within slots (took_at runs) (length runs) k s hk hs in omega (arith, over_move k s n e))
        (run_at runs k s).events (each_run k s).within)));
  }
