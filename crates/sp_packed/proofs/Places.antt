-- Places that all hold a value, and the list of those values.
use Rattle.std.proofs.Common.{◌≡◌, ℕ, zero, suc, ◌<◌, List, [], ◌∷◌, map, length, set, get_or, replicate, slice_get, Option, Some, None, refl, sym, ap, ◌∙◌, arith}
use Rattle.sp_packed.specs.Places.{somes, IsFilled}

module _ {X : Type 0} where
  pub somes-map : (xs : List X) → somes (map Some xs) ≡ xs
  somes-map [] = refl
  somes-map (x ∷ xs) = ap (λ l. x ∷ l) (somes-map xs)

  -- places that each hold x are the list of that many x
  pub all_written : (cs : List (Option X)) (n : ℕ) (x : X) → length cs ≡ n → ((k : ℕ) → k < n → get_or cs k None ≡ Some x) → cs ≡ map Some (replicate n x)
  all_written [] zero x e holds = refl
  all_written [] (suc n) x e holds = absurd (omega arith)
  all_written (c ∷ cs) zero x e holds = absurd (omega arith)
  all_written (c ∷ cs) (suc n) x e holds =
      let first : c ≡ Some x = holds 0 (omega arith) in
      let rest : cs ≡ map Some (replicate n x) = all_written cs n x (omega arith) (λ k h. holds (suc k) (omega arith)) in
      ap (λ d. d ∷ cs) first ∙ ap (λ l. Some x ∷ l) rest

  pub get_map : (xs : List X) (i : ℕ) → get_or (map Some xs) i None ≡ slice_get xs i
  get_map [] i = refl
  get_map (x ∷ xs) zero = refl
  get_map (x ∷ xs) (suc i) = get_map xs i

  slice_get_some : (xs : List X) (i : ℕ) → i < length xs → (x : X) × (slice_get xs i ≡ Some x)
  slice_get_some [] i h = absurd (omega arith)
  slice_get_some (x ∷ xs) zero h = (x, refl)
  slice_get_some (x ∷ xs) (suc i) h = slice_get_some xs i (omega arith)

  pub filled_at : (cs : List (Option X)) (xs : List X) (i : ℕ) → cs ≡ map Some xs → i < length xs → IsFilled cs i
  filled_at cs xs i e h = let there = slice_get_some xs i h in (there.0, ap (λ l. get_or l i None) e ∙ get_map xs i ∙ there.1)

  pub set_map : (xs : List X) (i : ℕ) (x : X) → set (map Some xs) i (Some x) ≡ map Some (set xs i x)
  set_map [] i x = refl
  set_map (y ∷ xs) zero x = refl
  set_map (y ∷ xs) (suc i) x = ap (λ l. Some y ∷ l) (set_map xs i x)

  somes_of : (cs : List (Option X)) (xs : List X) → cs ≡ map Some xs → somes cs ≡ xs
  somes_of cs xs e = ap somes e ∙ somes-map xs

  -- places that hold the values xs: they hold each of their values, and those are xs
  pub all_held : (cs : List (Option X)) (xs : List X) → cs ≡ map Some xs → (cs ≡ map Some (somes cs)) × (somes cs ≡ xs)
  all_held cs xs e = (e ∙ ap (map Some) (sym (somes_of cs xs e)), somes_of cs xs e)
