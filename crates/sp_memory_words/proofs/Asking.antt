-- The words of copies after what is asked in a cycle.
use Rattle.std.proofs.Common.{◌≡◌, ℕ, inl, inr, Bool, true, false, List, [], ◌∷◌, if◌then◌else◌, refl, sym, ap, ◌∙◌}
use Rattle.std.specs.List.{Contains}
use Rattle.std.proofs.lemmas.Bool.{true≢false}
use Rattle.sp_netlist.specs.Signals.{Signals}
use Rattle.sp_mem.specs.declared.part.Fresh.{Fresh}
use Rattle.sp_mem.specs.declared.part.Touch.{Touch}
use Rattle.sp_mem.specs.Copies.{is_at, freshened, written}
use Rattle.sp_memory_words.proofs.Finding.{none_there, there, here, first_or_later}

either : (P : ℕ → Type 0) (b : Bool) (x y : ℕ) → (b ≡ true → P x) → (b ≡ false → P y) → P (if b then x else y)
either P true x y f g = f refl
either P false x y f g = g refl

module _ (s : Signals) (t c : ℕ) where
  abbrev at_write : Touch → Bool
  at_write w = is_at s t w.enable w.copy c

  abbrev at_fresh : Fresh → Bool
  at_fresh f = is_at s t f.enable f.copy c

  -- where all that are at a copy write one word, it has that word if it had it before, or if one of them is at it
  pub written_stays : (v : ℕ) (ws : List Touch) (old : ℕ) → ((w : Touch) → Contains ws w → at_write w ≡ true → s.net t w.word ≡ v) → old ≡ v → written s t c ws old ≡ v
  written_stays v [] old all e = e
  written_stays v (w ∷ ws) old all e =
      written_stays v ws _ (λ x k h. all x (there w x ws k) h) (either (λ n. n ≡ v) (at_write w) (s.net t w.word) old (λ h. all w (here w w ws refl) h) (λ h. e))

  pub written_becomes : (v : ℕ) (ws : List Touch) (old : ℕ) → ((w : Touch) → Contains ws w → at_write w ≡ true → s.net t w.word ≡ v) → (w : Touch) → Contains ws w → at_write w ≡ true → written s t c ws old ≡ v
  written_becomes v [] old all w k h = absurd (none_there w k)
  written_becomes v (x ∷ ws) old all w k h = elim (first_or_later x w ws k) [
    | inl e ↦
        written_stays v ws _ (λ y j i. all y (there x y ws j) i)
        (either (λ n. n ≡ v) (at_write x) (s.net t x.word) old (λ i. all x (here x x ws refl) i) (λ i. absurd (true≢false (sym h ∙ sym (ap at_write e) ∙ i))))
    | inr j ↦ written_becomes v ws _ (λ y i g. all y (there x y ws i) g) w j h
  ]

  -- the same of what is made fresh
  pub freshened_stays : (first v : ℕ) (fs : List Fresh) (old : ℕ) → ((f : Fresh) → Contains fs f → at_fresh f ≡ true → first ≡ v) → old ≡ v → freshened s t c first fs old ≡ v
  freshened_stays first v [] old all e = e
  freshened_stays first v (f ∷ fs) old all e =
      freshened_stays first v fs _ (λ x k h. all x (there f x fs k) h) (either (λ n. n ≡ v) (at_fresh f) first old (λ h. all f (here f f fs refl) h) (λ h. e))

  pub freshened_becomes : (first : ℕ) (fs : List Fresh) (old : ℕ) (f : Fresh) → Contains fs f → at_fresh f ≡ true → freshened s t c first fs old ≡ first
  freshened_becomes first [] old f k h = absurd (none_there f k)
  freshened_becomes first (g ∷ fs) old f k h = elim (first_or_later g f fs k) [
    | inl e ↦ freshened_stays first first fs _ (λ y j i. refl) (either (λ n. n ≡ first) (at_fresh g) first old (λ i. refl) (λ i. absurd (true≢false (sym h ∙ sym (ap at_fresh e) ∙ i))))
    | inr j ↦ freshened_becomes first fs _ f j h
  ]
