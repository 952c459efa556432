-- Of two schemes of one rank neither of which precedes the other each is the other.
use Rattle.std.proofs.Common.{◌≡◌, ℕ, ◌<◌, true, List, [], ◌∷◌, length, Option, Some, None, inl, inr, arith, refl, sym, ap, ◌∙◌}
use Rattle.std.proofs.lemmas.Bool.{eqb-true, false≢true}
use Rattle.sp_bank.specs.Banking.{Banking}
use Rattle.sp_bank.specs.Search.{IsLexicographicallyLess, Precedes}
use Rattle.sp_core.specs.Declarations.{mem}
use Rattle.sp_core.specs.Forms.{PlainForms}
use Rattle.sp_core.specs.PlainCore.{PlainCore}
use Rattle.sp_plan.specs.Validity.{has_rank}
use Rattle.sp_schemes.specs.Chosen.{IsChosen}
use Rattle.sp_words.specs.declared.kind.Kind.{Kind}
use Rattle.sp_words.specs.declared.kind.Kind.TheVariants.{Reg, Sram, Fifo, LineBuf, Dram, ArgIn, ArgOut}

same_number : (m n : ℕ) → ¬ (m < n) → ¬ (n < m) → m ≡ n
same_number m n h k = omega arith

same_weights : (xs ys : List ℕ) → length xs ≡ length ys → ¬ IsLexicographicallyLess xs ys → ¬ IsLexicographicallyLess ys xs → xs ≡ ys
same_weights [] [] size h k = refl
same_weights [] (y ∷ ys) size h k = absurd (omega arith)
same_weights (x ∷ xs) [] size h k = absurd (omega arith)
same_weights (x ∷ xs) (y ∷ ys) size h k =
    let head : x ≡ y = same_number x y (λ l. h (inl l)) (λ l. k (inl l)) in
    let rest : xs ≡ ys = same_weights xs ys (omega arith) (λ l. h (inr (head, l))) (λ l. k (inr (sym head, l))) in
    cc

made_of : (s t : Banking) → s.banks ≡ t.banks → s.block ≡ t.block → s.alpha ≡ t.alpha → s.hinge ≡ t.hinge → s ≡ t
made_of s t a b c d =
    ap (λ x. record { banks = x; block = s.block; alpha = s.alpha; hinge = s.hinge }) a
    ∙ ap (λ x. record { banks = t.banks; block = x; alpha = s.alpha; hinge = s.hinge }) b
    ∙ ap (λ x. record { banks = t.banks; block = t.block; alpha = x; hinge = s.hinge }) c
    ∙ ap (λ x. record { banks = t.banks; block = t.block; alpha = t.alpha; hinge = x }) d

same_scheme : (s t : Banking) → length s.alpha ≡ length t.alpha → ¬ Precedes s t → ¬ Precedes t s → s ≡ t
same_scheme s t size h k =
    let banks : s.banks ≡ t.banks = same_number s.banks t.banks (λ l. h (inl l)) (λ l. k (inl l)) in
    let block : s.block ≡ t.block = same_number s.block t.block (λ l. h (inr (banks, inl l))) (λ l. k (inr (sym banks, inl l))) in
    let alpha : s.alpha ≡ t.alpha = same_weights s.alpha t.alpha size (λ l. h (inr (banks, inr (block, inl l)))) (λ l. k (inr (sym banks, inr (sym block, inl l)))) in
    let hinge : s.hinge ≡ t.hinge = same_number s.hinge t.hinge (λ l. h (inr (banks, inr (block, inr (alpha, l))))) (λ l. k (inr (sym banks, inr (sym block, inr (sym alpha, l))))) in
    made_of s t banks block alpha hinge

-- a kind and its dimensions leave one rank
same_rank : (kind : Kind) (dims rank other : ℕ) → has_rank kind dims rank ≡ true → has_rank kind dims other ≡ true → rank ≡ other
same_rank Sram dims rank other h k = eqb-true rank dims h ∙ sym (eqb-true other dims k)
same_rank LineBuf dims rank other h k = eqb-true rank 1 h ∙ sym (eqb-true other 1 k)
same_rank Reg dims rank other h k = absurd (false≢true h)
same_rank Fifo dims rank other h k = absurd (false≢true h)
same_rank Dram dims rank other h k = absurd (false≢true h)
same_rank ArgIn dims rank other h k = absurd (false≢true h)
same_rank ArgOut dims rank other h k = absurd (false≢true h)

module _ (core : PlainCore) (forms : PlainForms) (m : ℕ) where
  pub one_scheme : (x y : Option Banking) → IsChosen core forms m x → IsChosen core forms m y → x ≡ y
  one_scheme None None h k = refl
  one_scheme None (Some t) h k = absurd (h t k.0)
  one_scheme (Some s) None h k = absurd (k s h.0)
  one_scheme (Some s) (Some t) h k =
      let rank : length s.alpha ≡ length t.alpha = same_rank (mem core m).kind (length (mem core m).dims) (length s.alpha) (length t.alpha) h.0.fits k.0.fits in
      ap Some (same_scheme s t rank (k.1 s h.0) (h.1 t k.0))
