-- Accesses that agree in their place.
use Rattle.std.proofs.Common.{◌≡◌, ℕ, zero, suc, ◌<◌, ◌==◌, Bool, true, false, ◌&&◌, ◌||◌, if◌then◌else◌, List, [], ◌∷◌, length, slice_index_or, All, refl, sym, ap, subst, ◌∙◌, arith}
use Rattle.std.proofs.lemmas.Bool.{false≢true}
use Rattle.std.proofs.lemmas.List.{get_or_default}
use Rattle.sp_netlist.specs.Signals.{Signals}
use Rattle.sp_gates.specs.Tested.{is_on}
use Rattle.sp_access.specs.declared.access.Access.{Access}
use Rattle.sp_access.specs.Asking.{is_asked, last_place, last_word, put, Agree}

-- each access that asks has this place
record At (s : Signals) (t place : ℕ) (es : List Access) : Type 0 where
  at : (k : ℕ) (a : Access) → k < length es → is_on s (slice_index_or es k a).on t ≡ true → s.net t (slice_index_or es k a).place ≡ place

or_true : (b : Bool) → (b || true) ≡ true
or_true true = refl
or_true false = refl

-- a word that is put twice to one place is put once
covered : (b : Bool) (p q x w v old : ℕ) → (b ≡ true → q ≡ p) → (if q == x then w else old) ≡ (if q == x then w else (if b && (p == x) then v else old))
covered false p q x w v old h = refl
covered true p q x w v old h = subst (λ r. (if q == x then w else old) ≡ (if q == x then w else (if r == x then v else old))) (h refl) (nested (q == x))
  where
    nested : (test : Bool) → (if test then w else old) ≡ (if test then w else (if test then v else old))
    nested true = refl
    nested false = refl

module _ (s : Signals) (t : ℕ) where
  tail : (a : Access) (es : List Access) → Agree s t (a ∷ es) → Agree s t es
  tail a es h i k b l m = h (suc i) (suc k) b (omega (arith, l)) (omega (arith, m))

  from_head : (a : Access) (es : List Access) → Agree s t (a ∷ es) → is_on s a.on t ≡ true → At s t (s.net t a.place) es
  from_head a es h e = record { at = λ k b l g. h (suc k) 0 b (omega (arith, l)) (omega arith) g e }

  tail_at : (p : ℕ) (a : Access) (es : List Access) → At s t p (a ∷ es) → At s t p es
  tail_at p a es h = record { at = λ k b l g. h.at (suc k) b (omega (arith, l)) g }

  put_state : (es : List Access) (ws : List ℕ) (b : Bool) (p v x old : ℕ) → length ws ≡ length es → Agree s t es → (b ≡ true → At s t p es)
      → (if (b || is_asked s t es) && (last_place s t es p == x) then last_word s t es ws v else old) ≡ put s t es ws x (if b && (p == x) then v else old)
  put_state [] ws true p v x old e h at = refl
  put_state [] ws false p v x old e h at = refl
  put_state (a ∷ es) [] b p v x old e h at = absurd (omega (arith, e))
  put_state (a ∷ es) (w ∷ ws) b p v x old e h at =
      go (is_on s a.on t) refl
      (λ on. put_state es ws true (s.net t a.place) (s.net t w) x old (omega (arith, e)) (tail a es h) (λ f. from_head a es h on))
      (put_state es ws b p v x old (omega (arith, e)) (tail a es h) (λ f. tail_at p a es (at f)))
    where
      go : (on : Bool) → is_on s a.on t ≡ on
          → (is_on s a.on t ≡ true → (if (true || is_asked s t es) && (last_place s t es (s.net t a.place) == x) then last_word s t es ws (s.net t w) else old) ≡ put s t es ws x (if true && (s.net t a.place == x) then s.net t w else old))
          → (if (b || is_asked s t es) && (last_place s t es p == x) then last_word s t es ws v else old) ≡ put s t es ws x (if b && (p == x) then v else old)
          → (if (b || (on || is_asked s t es)) && (last_place s t es (if on then s.net t a.place else p) == x) then last_word s t es ws (if on then s.net t w else v) else old)
          ≡ put s t es ws x (if on && (s.net t a.place == x) then s.net t w else (if b && (p == x) then v else old))
      go true is first second =
          ap (λ c. if c && (last_place s t es (s.net t a.place) == x) then last_word s t es ws (s.net t w) else old) (or_true b)
          ∙ first is
          ∙ ap (put s t es ws x) (covered b p (s.net t a.place) x (s.net t w) v old (λ f. (at f).at 0 a (omega arith) is))
      go false is first second = second

  none_asked : (es : List Access) (other : ℕ) → is_asked s t es ≡ false → last_place s t es other ≡ other
  none_asked [] other e = refl
  none_asked (a ∷ es) other e = go (is_on s a.on t) e (none_asked es other)
    where
      go : (on : Bool) → (on || is_asked s t es) ≡ false → (is_asked s t es ≡ false → last_place s t es other ≡ other) → last_place s t es (if on then s.net t a.place else other) ≡ other
      go true f h = absurd (false≢true (sym f))
      go false f h = h f

  last_at : (es : List Access) (p other : ℕ) → At s t p es → is_asked s t es ≡ true → last_place s t es other ≡ p
  last_at [] p other h e = absurd (false≢true e)
  last_at (a ∷ es) p other h e = go (is_on s a.on t) refl e (is_asked s t es) refl (λ o. last_at es p o (tail_at p a es h))
    where
      go : (on : Bool) → is_on s a.on t ≡ on → (on || is_asked s t es) ≡ true → (rest : Bool) → is_asked s t es ≡ rest → ((o : ℕ) → is_asked s t es ≡ true → last_place s t es o ≡ p)
          → last_place s t es (if on then s.net t a.place else other) ≡ p
      go true is f true r h' = h' (s.net t a.place) r
      go true is f false r h' = none_asked es (s.net t a.place) r ∙ h.at 0 a (omega arith) is
      go false is f rest r h' = h' other f

  asked_at : (es : List Access) (k : ℕ) (a : Access) → k < length es → is_on s (slice_index_or es k a).on t ≡ true → is_asked s t es ≡ true
  asked_at [] k a l e = absurd (omega (arith, l))
  asked_at (b ∷ es) zero a l e = ap (λ on. on || is_asked s t es) e
  asked_at (b ∷ es) (suc k) a l e = ap (λ rest. is_on s b.on t || rest) (asked_at es k a (omega (arith, l)) e) ∙ or_true (is_on s b.on t)

  pub found_by_last : (es : List Access) → Agree s t es → All (λ a. is_on s a.on t ≡ true → (is_asked s t es ≡ true) × (last_place s t es 0 ≡ s.net t a.place)) es
  found_by_last es h k a l e =
      let asks = asked_at es k a l e in
      (asks, last_at es (s.net t (slice_index_or es k a).place) 0 (record { at = λ j b m g. h j k b m l g (subst (λ c. is_on s c.on t ≡ true) (get_or_default es k a b l) e) ∙ ap (λ c. s.net t c.place) (get_or_default es k b a l) }) asks)

  pub put_by_last : (es : List Access) (ws : List ℕ) (place old : ℕ) → length ws ≡ length es → Agree s t es
      → (if is_asked s t es && (last_place s t es 0 == place) then last_word s t es ws 0 else old) ≡ put s t es ws place old
  put_by_last es ws place old e h = put_state es ws false 0 0 place old e h (λ f. absurd (false≢true f))
