-- The meets of a core are one list.
use Rattle.std.proofs.Common.{◌≡◌, ℕ, ◌<◌, Bool, List, [], ◌∷◌, ◌++◌, Option, Some, None, arith, refl, sym, ap, ◌∙◌}
use Rattle.std.proofs.lemmas.Bool.{false≢true}
use Rattle.sp_core.specs.declared.access.Meet.{Meet}
use Rattle.sp_meets.specs.Between.{meet_at}
use Rattle.sp_meets.specs.Meets.{IsLeastOf, entry, AreMeetsWith, AreMeetsAmong}
use Rattle.sp_meets.specs.Sites.{PlainSite}

one_least : (passes : ℕ → Bool) (x y : Option ℕ) → IsLeastOf passes x → IsLeastOf passes y → x ≡ y
one_least passes None None h k = refl
one_least passes None (Some n) h k = absurd (false≢true (sym (h n) ∙ k.0))
one_least passes (Some m) None h k = absurd (false≢true (sym (k m) ∙ h.0))
one_least passes (Some m) (Some n) h k =
    let low : ¬ (m < n) = λ less. false≢true (sym (k.1 m less) ∙ h.0) in
    let high : ¬ (n < m) = λ less. false≢true (sym (h.1 n less) ∙ k.0) in
    ap Some (same m n low high)
  where
    same : (m n : ℕ) → ¬ (m < n) → ¬ (n < m) → m ≡ n
    same m n h k = omega arith

module _ (chip : ℕ) where
  one_with : (a : PlainSite) (sites : List PlainSite) (xs ys : List Meet) → AreMeetsWith chip a sites xs → AreMeetsWith chip a sites ys → xs ≡ ys
  one_with a [] xs ys h k = h ∙ sym k
  one_with a (b ∷ rest) xs ys h k =
      h.3
      ∙ ap (λ x. entry a b x ++ h.1) (one_least (meet_at chip a b) h.0 k.0 h.2 k.2)
      ∙ ap (λ zs. entry a b k.0 ++ zs) (one_with a rest h.1 k.1 h.4 k.4)
      ∙ sym k.3

  pub one_among : (firsts seconds : List PlainSite) (xs ys : List Meet) → AreMeetsAmong chip firsts seconds xs → AreMeetsAmong chip firsts seconds ys → xs ≡ ys
  one_among [] seconds xs ys h k = h ∙ sym k
  one_among (a ∷ rest) seconds xs ys h k =
      h.3
      ∙ ap (λ zs. zs ++ h.1) (one_with a seconds h.0 k.0 h.2 k.2)
      ∙ ap (λ zs. k.0 ++ zs) (one_among rest seconds h.1 k.1 h.4 k.4)
      ∙ sym k.3
