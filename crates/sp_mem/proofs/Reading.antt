-- The word of the copy that is read.
use Rattle.std.proofs.Common.{◌≡◌, ℕ, ◌+◌, ◌<◌, ◌==◌, ◌⊎◌, inl, inr, List, [], ◌∷◌, ◌++◌, length, take, Contains, slice_index, slice_index_or, refl, if◌then◌else◌, sym, ap, ◌∙◌, arith, eq-eqb, ne_eqb}
use Rattle.std.proofs.lemmas.List.{get_or_default, take_more, map-append, length-map, length-take-le, get_or-take, get_or-map}
use Rattle.sp_netlist.specs.Signals.{Signals}
use Rattle.sp_mem.specs.declared.part.Touch.{Touch}
use Rattle.sp_mem.specs.Fits.{AreApart, words_of}
use Rattle.sp_mem.proofs.CopyLemmas.{is_same, chosen_by}

module _ (s : Signals) (t number : ℕ) (nets : List ℕ) where
  -- one more copy is looked at
  pub number_more : (same net old reg k from : ℕ) → from ≡ k → k < length nets → reg ≡ slice_index_or nets k reg → s.net t same ≡ (if s.net t number == from then 1 else 0) → s.net t net ≡ (if s.net t same == 1 then s.net t reg else s.net t old)
      → ((copy : ℕ) → copy < k → s.net t number ≡ copy → s.net t old ≡ s.net t (slice_index nets copy))
      → (copy : ℕ) → copy < k + 1 → s.net t number ≡ copy → s.net t net ≡ s.net t (slice_index nets copy)
  number_more same net old reg k from f within is e choice before copy l at = go (split l)
    where
      split : copy < k + 1 → (copy < k) ⊎ (copy ≡ k)
      split h = grind arith

      go : (copy < k) ⊎ (copy ≡ k) → s.net t net ≡ s.net t (slice_index nets copy)
      go (inl below) =
          let other = ne_eqb (s.net t number) from (λ h. absurd (omega (arith, h, at, f, below))) in
          chosen_by (s.net t same) (s.net t net) _ (s.net t reg) _ (s.net t (slice_index nets copy)) (is_same _ _ _ e ∙ other) choice (before copy below at)
      go (inr here) =
          let hit = eq-eqb (s.net t number) from (omega (arith, at, here, f)) in
          chosen_by (s.net t same) (s.net t net) _ (s.net t reg) _ _ (is_same _ _ _ e ∙ hit) choice refl
          ∙ ap (s.net t) (is ∙ get_or_default nets k reg 0 within ∙ ap (slice_index nets) (sym here))

-- no earlier reader has the net of a later one
pub not_before : (reads : List Touch) (k : ℕ) (r : Touch) → AreApart reads → k < length reads → r ≡ slice_index_or reads k r → Contains (words_of (take k reads)) r.word → ⊥
not_before reads k r h l e (i, below, same) =
    let n : i < k = (let a = length-map (take k reads) (λ x. x.word) in let b = length-take-le k reads (omega (arith, l)) in omega (arith, a, b, below)) in
    let inside : i < length (take k reads) = (let b = length-take-le k reads (omega (arith, l)) in omega (arith, b, n)) in
    h i k r n l (ap (λ x. x.word) (sym (get_or-take k reads i r n)) ∙ sym (get_or-map (λ x. x.word) (take k reads) i r r.word inside) ∙ same ∙ ap (λ x. x.word) e)

-- one more reader's net
pub words_more : (reads : List Touch) (k : ℕ) (r : Touch) → k < length reads → r ≡ slice_index_or reads k r → words_of (take k reads) ++ r.word ∷ [] ≡ words_of (take (k + 1) reads)
words_more reads k r l e = sym (ap words_of (take_more reads k r l ∙ ap (λ x. take k reads ++ x ∷ []) (sym e)) ∙ map-append (λ x. x.word) (take k reads) (r ∷ []))
