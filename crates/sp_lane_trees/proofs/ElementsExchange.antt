-- Words of lanes that are combined into elements: lane by lane, and element by element.
use Rattle.std.proofs.Common.{◌≡◌, ◌⊎◌, inl, inr, ℕ, zero, suc, Bool, true, false, ◌||◌, List, [], ◌∷◌, length, Option, Some, None, refl, sym, ◌∙◌, ap, arith, ◌==◌}
use Rattle.std.proofs.lemmas.Bool.{true≢false, eq-eqb}
use Rattle.std.specs.Prelude.{slice_index_or, slice_set}
use Rattle.sp_core.specs.Declarations.{is_among}
use Rattle.sp_lane_groups.specs.JoinedWords.{in_turn}
use Rattle.sp_lane_trees.specs.ElementsCells.{after_cell, firsts, others, one_lane, one_element, by_elements, ArePlacesApart, HaveWordFor, ElementsExchange}

abbrev Cells : Type 0
Cells = List (Option ℕ)

-- what is set stands there, or there is no such place
set_twice : (cs : Cells) (p : ℕ) (x y : Option ℕ) → slice_set (slice_set cs p x) p y ≡ slice_set cs p y
set_twice [] p x y = refl
set_twice (c ∷ cs) zero x y = refl
set_twice (c ∷ cs) (suc p) x y = ap (λ ds. c ∷ ds) (set_twice cs p x y)

abbrev Outside : Cells → ℕ → Type 0
Outside cs p = (y : Option ℕ) → slice_set cs p y ≡ cs

pub set_there : (cs : Cells) (p : ℕ) (x : Option ℕ) → (slice_index_or (slice_set cs p x) p None ≡ x) ⊎ Outside cs p
set_there [] p x = inr (λ y. refl)
set_there (c ∷ cs) zero x = inl refl
set_there (c ∷ cs) (suc p) x = elim (set_there cs p x) [
  | inl e ↦ inl e
  | inr e ↦ inr (λ y. ap (λ ds. c ∷ ds) (e y))
]

-- other places
pub set_other : (cs : Cells) (p q : ℕ) (x : Option ℕ) → (q ≡ p → ⊥) → slice_index_or (slice_set cs p x) q None ≡ slice_index_or cs q None
set_other [] p q x ne = refl
set_other (c ∷ cs) zero zero x ne = absurd (ne refl)
set_other (c ∷ cs) zero (suc q) x ne = refl
set_other (c ∷ cs) (suc p) zero x ne = refl
set_other (c ∷ cs) (suc p) (suc q) x ne = set_other cs p q x (λ e. ne (ap suc e))

set_both : (cs : Cells) (p q : ℕ) (x y : Option ℕ) → (q ≡ p → ⊥) → slice_set (slice_set cs p x) q y ≡ slice_set (slice_set cs q y) p x
set_both [] p q x y ne = refl
set_both (c ∷ cs) zero zero x y ne = absurd (ne refl)
set_both (c ∷ cs) zero (suc q) x y ne = refl
set_both (c ∷ cs) (suc p) zero x y ne = refl
set_both (c ∷ cs) (suc p) (suc q) x y ne = ap (λ ds. c ∷ ds) (set_both cs p q x y (λ e. ne (ap suc e)))

pub not_first : (p q : ℕ) (places : List ℕ) → is_among p (q ∷ places) ≡ false → (q ≡ p → ⊥) × (is_among p places ≡ false)
not_first p q places h = by (p == q) refl h
  where
    by : (b : Bool) → (p == q) ≡ b → (b || is_among p places) ≡ false → (q ≡ p → ⊥) × (is_among p places ≡ false)
    by true i e = absurd (true≢false e)
    by false i e = ((λ s. true≢false (sym (eq-eqb p q (sym s)) ∙ i)), e)

module _ (op : ℕ → ℕ → ℕ) where
  abbrev value : Bool → Cells → ℕ → ℕ → Option ℕ
  value begun cs p w = Some (after_cell op begun (slice_index_or cs p None) w)

  abbrev value_of : Bool → Cells → ℕ → ℕ → List ℕ → Option ℕ
  value_of begun cs p w ws = Some (in_turn op (after_cell op begun (slice_index_or cs p None) w) ws)

  -- one element, and then a cell elsewhere
  element_past : (begun : Bool) (p q : ℕ) (ws : List ℕ) (x : Option ℕ) (cs : Cells) → (q ≡ p → ⊥) → one_element op begun p ws (slice_set cs q x) ≡ slice_set (one_element op begun p ws cs) q x
  element_past begun p q [] x cs ne = refl
  element_past begun p q (w ∷ ws) x cs ne =
      ap (λ o. slice_set (slice_set cs q x) p (Some (in_turn op (after_cell op begun o w) ws))) (set_other cs q p x (λ e. ne (sym e)))
      ∙ set_both cs q p x (value_of begun cs p w ws) (λ e. ne (sym e))

  element_other : (begun : Bool) (p q : ℕ) (ws : List ℕ) (cs : Cells) → (q ≡ p → ⊥) → slice_index_or (one_element op begun p ws cs) q None ≡ slice_index_or cs q None
  element_other begun p q [] cs ne = refl
  element_other begun p q (w ∷ ws) cs ne = set_other cs p q (value_of begun cs p w ws) ne

  -- one element before or after a lane that goes over other ones
  lane_past : (begun now : Bool) (p : ℕ) (ws places words : List ℕ) (cs : Cells) → is_among p places ≡ false
      → one_element op begun p ws (one_lane op now places words cs) ≡ one_lane op now places words (one_element op begun p ws cs)
  lane_past begun now p ws [] words cs h = refl
  lane_past begun now p ws (q ∷ places) [] cs h = refl
  lane_past begun now p ws (q ∷ places) (w ∷ words) cs h =
      let r = not_first p q places h in
      lane_past begun now p ws places words (slice_set cs q (value now cs q w)) r.1
      ∙ ap (one_lane op now places words) (element_past begun p q ws (value now cs q w) cs r.0
      ∙ ap (λ o. slice_set (one_element op begun p ws cs) q (Some (after_cell op now o w))) (sym (element_other begun p q ws cs r.0)))

  -- a word, and then those of later lanes
  one_more : (begun : Bool) (p w : ℕ) (ws : List ℕ) (cs : Cells) → one_element op true p ws (slice_set cs p (value begun cs p w)) ≡ one_element op begun p (w ∷ ws) cs
  one_more begun p w [] cs = refl
  one_more begun p w (u ∷ ws) cs = elim (set_there cs p x) [
    | inl e ↦ ap (λ o. slice_set now p (Some (in_turn op (after_cell op true o u) ws))) e ∙ set_twice cs p x (value_of begun cs p w (u ∷ ws))
    | inr e ↦ ap (λ c. slice_set c p (value_of true now p u ws)) (e x) ∙ e (value_of true now p u ws) ∙ sym (e (value_of begun cs p w (u ∷ ws)))
  ]
    where
      x : Option ℕ
      x = value begun cs p w

      now : Cells
      now = slice_set cs p x

  long : (lanes : List (List ℕ)) (p : ℕ) (places : List ℕ) → HaveWordFor (p ∷ places) lanes → HaveWordFor places (others lanes)
  long [] p places h = tt
  long ([] ∷ lanes) p places h = absurd (omega (arith, h.0))
  long ((w ∷ words) ∷ lanes) p places h = ((let e = h.0 in omega (arith, e)), long lanes p places h.1)

  -- the first lane, and then the elements
  first_lane : (begun : Bool) (places words : List ℕ) (lanes : List (List ℕ)) (cs : Cells) → ArePlacesApart places → length words ≡ length places → HaveWordFor places lanes
      → by_elements op true places lanes (one_lane op begun places words cs) ≡ by_elements op begun places (words ∷ lanes) cs
  first_lane begun [] words lanes cs apart e h = refl
  first_lane begun (p ∷ places) [] lanes cs apart e h = absurd (omega (arith, e))
  first_lane begun (p ∷ places) (w ∷ words) lanes cs apart e h =
      let x : Cells = slice_set cs p (value begun cs p w) in
      ap (by_elements op true places (others lanes)) (lane_past true begun p (firsts 0 lanes) places words x apart.0)
      ∙ first_lane begun places words (others lanes) (one_element op true p (firsts 0 lanes) x) apart.1 (omega (arith, e)) (long lanes p places h)
      ∙ ap (by_elements op begun places (words ∷ others lanes)) (one_more begun p w (firsts 0 lanes) cs)

  no_lanes : (begun : Bool) (places : List ℕ) (cs : Cells) → cs ≡ by_elements op begun places [] cs
  no_lanes begun [] cs = refl
  no_lanes begun (p ∷ places) cs = no_lanes begun places cs

pub exchange : ElementsExchange
exchange op begun places [] cs apart h = no_lanes op begun places cs
exchange op begun places (words ∷ lanes) cs apart h =
    exchange op true places lanes (one_lane op begun places words cs) apart h.1 ∙ first_lane op begun places words lanes cs apart h.0 h.1
