-- What writes leave of an element, and elements by their numbers.
use Rattle.std.proofs.Common.{◌≡◌, ℕ, zero, suc, ◌+◌, ◌*◌, ◌<◌, ◌⊎◌, inl, inr, Bool, true, false, cond, ◌&&◌, List, [], ◌∷◌, length, slice_index_or, All, refl, sym, ap, subst, ◌∙◌, arith}
use Rattle.std.specs.List.{AllZip, Contains, filter}
use Rattle.std.proofs.lemmas.Bool.{false≢true}
use Rattle.sp_words.specs.Interface.{word_count}
use Rattle.sp_bank.specs.Places.{IsInside, product_of, row_major as bank_row_major}
use Rattle.sp_bank.proofs.Distinct.{row_major-unique}
use Rattle.sp_core.specs.Elements.{row_major}
use Rattle.sp_netlist.specs.Signals.{Signals}
use Rattle.sp_mem.specs.declared.part.Touch.{Touch}
use Rattle.sp_mem.specs.Copies.{is_at}
use Rattle.sp_requests.specs.Elements.{are_same, element_at, element_after}

-- two elements with one number are one
pub same_size : (ds : List ℕ) → word_count ds ≡ product_of ds
same_size [] = refl
same_size (d ∷ ds) = ap (λ n. d * n) (same_size ds)

same_row : (ds is : List ℕ) → IsInside ds is → row_major ds is ≡ bank_row_major ds is
same_row [] [] h = refl
same_row [] (i ∷ is) h = absurd h
same_row (d ∷ ds) [] h = absurd h
same_row (d ∷ ds) (i ∷ is) h = ap (λ n. i * n + row_major ds is) (same_size ds) ∙ ap (λ n. i * product_of ds + n) (same_row ds is h.1)

pub one_number : (ds is js : List ℕ) → IsInside ds is → IsInside ds js → row_major ds is ≡ row_major ds js → is ≡ js
one_number ds is js h k e = row_major-unique ds is js h k (sym (same_row ds is h) ∙ e ∙ same_row ds js k)

-- what holds of all that pass a test holds of each that does
pub passing : {X : Type 0} (p : X → Bool) (P : X → Type 0) (xs : List X) → All P (filter p xs) → (k : ℕ) (d : X) → k < length xs → p (slice_index_or xs k d) ≡ true → P (slice_index_or xs k d)
passing p P [] h k d l e = absurd (omega (arith, l))
passing p P (x ∷ xs) h zero d l e = first (p x) e h
  where
    first : (b : Bool) → b ≡ true → All P (cond b (x ∷ filter p xs) (filter p xs)) → P x
    first true q h = h 0 x (omega arith)
    first false q h = absurd (false≢true q)
passing p P (x ∷ xs) h (suc k) d l e = passing p P xs (rest (p x) h) k d (omega (arith, l)) e
  where
    rest : (b : Bool) → All P (cond b (x ∷ filter p xs) (filter p xs)) → All P (filter p xs)
    rest true h = λ j y m. h (suc j) y (omega (arith, m))
    rest false h = h

-- of a number in a list, what stands at its place in another one
pub at_number : {X : Type 0} (R : ℕ → X → Type 0) (ns : List ℕ) (xs : List X) → AllZip R ns xs → (n : ℕ) → Contains ns n → (x : X) × Contains xs x × R n x
at_number R [] xs h n (k, l, e) = absurd (omega (arith, l))
at_number R (m ∷ ns) [] h n c = absurd h
at_number R (m ∷ ns) (x ∷ xs) h n (zero, l, e) = (x, (0, omega arith, refl), subst (λ i. R i x) e h.0)
at_number R (m ∷ ns) (x ∷ xs) h n (suc k, l, e) =
    let r = at_number R ns xs h.1 n (k, omega (arith, l), e) in
    let b = r.1.1 in
    (r.0, (suc r.1.0, omega (arith, b), r.1.2), r.2)

pub with_each : {X : Type 0} (R : ℕ → X → Type 0) (P : X → Type 0) (ns : List ℕ) (xs : List X) → AllZip R ns xs → All P xs → AllZip (λ n x. R n x × P x) ns xs
with_each R P [] [] h k = tt
with_each R P [] (x ∷ xs) h k = absurd h
with_each R P (n ∷ ns) [] h k = absurd h
with_each R P (n ∷ ns) (x ∷ xs) h k = ((h.0, k 0 x (omega arith)), with_each R P ns xs h.1 (λ j y l. k (suc j) y (omega (arith, l))))

pub zip_map : {X : Type 0} (R Q : ℕ → X → Type 0) (ns : List ℕ) (xs : List X) → ((n : ℕ) (x : X) → R n x → Q n x) → AllZip R ns xs → AllZip Q ns xs
zip_map R Q [] [] f h = tt
zip_map R Q [] (x ∷ xs) f h = absurd h
zip_map R Q (n ∷ ns) [] f h = absurd h
zip_map R Q (n ∷ ns) (x ∷ xs) f h = (f n x h.0, zip_map R Q ns xs f h.1)

pub chosen : (b : Bool) (x y v : ℕ) → (b ≡ true → x ≡ v) → (b ≡ false → y ≡ v) → cond b x y ≡ v
chosen true x y v f g = f refl
chosen false x y v f g = g refl

module _ (s : Signals) (t copy : ℕ) (x : List ℕ) where
  -- whether a write is enabled at the element of the copy
  abbrev pub is_here : Touch → Bool
  is_here w = is_at s t w.enable w.copy copy && are_same (element_at s t w) x

  pub element_kept : (ws : List Touch) (old : ℕ) → All (λ w. is_here w ≡ true → ⊥) ws → element_after s t copy ws x old ≡ old
  element_kept [] old h = refl
  element_kept (w ∷ ws) old h =
      ap (element_after s t copy ws x) (chosen (is_here w) (s.net t w.word) old old (λ e. absurd (h 0 w (omega arith) e)) (λ e. refl))
      ∙ element_kept ws old (λ k d l. h (suc k) d (omega (arith, l)))

  abbrev pub SomeHere : List Touch → Type 0
  SomeHere ws = (w : Touch) × Contains ws w × (is_here w ≡ true)

  -- one write is, and all that are have one word
  pub element_written : (ws : List Touch) (old v : ℕ) → All (λ w. is_here w ≡ true → s.net t w.word ≡ v) ws → (old ≡ v) ⊎ SomeHere ws → element_after s t copy ws x old ≡ v
  element_written [] old v h (inl e) = e
  element_written [] old v h (inr (u, (k, l, q), e)) = absurd (omega (arith, l))
  element_written (w ∷ ws) old v h (inl e) =
      element_written ws _ v (λ k d l. h (suc k) d (omega (arith, l))) (inl (chosen (is_here w) (s.net t w.word) old v (h 0 w (omega arith)) (λ q. e)))
  element_written (w ∷ ws) old v h (inr (u, (zero, l, q), e)) =
      element_written ws _ v (λ k d m. h (suc k) d (omega (arith, m))) (inl (chosen (is_here w) (s.net t w.word) old v (h 0 w (omega arith)) (λ f. absurd (false≢true (sym f ∙ ap is_here q ∙ e)))))
  element_written (w ∷ ws) old v h (inr (u, (suc k, l, q), e)) = element_written ws _ v (λ j d m. h (suc j) d (omega (arith, m))) (inr (u, (k, omega (arith, l), q), e))
