-- What accesses ask, one access more at a time.
use Rattle.std.proofs.Common.{◌≡◌, ℕ, zero, suc, ◌+◌, ◌<◌, ◌==◌, Bool, true, false, ◌||◌, if◌then◌else◌, List, [], ◌∷◌, ◌++◌, length, take, slice_index_or, All, refl, sym, ap, subst, ◌∙◌, arith}
use Rattle.std.proofs.lemmas.List.{take_more, length-take-le}
use Rattle.sp_netlist.specs.Draft.{Draft}
use Rattle.sp_netlist.specs.Signals.{Signals}
use Rattle.sp_gates.specs.Grows.{Grows}
use Rattle.sp_gates.specs.Nets.{HasNet}
use Rattle.sp_gates.specs.Tested.{is_on}
use Rattle.sp_gates.proofs.Growing.{HasNet-stays}
use Rattle.sp_access.specs.declared.access.Access.{Access}
use Rattle.sp_access.specs.Asking.{AccessFits, is_asked, last_place, last_word}

-- what holds of each element of a list holds of the one at a place
pub at_item : {X : Type 0} (P : X → Type 0) (xs : List X) (k : ℕ) (x : X) → All P xs → k < length xs → x ≡ slice_index_or xs k x → P x
at_item P xs k x h l e = subst P (sym e) (h k x l)

pub accesses_kept : (a b : Draft) (es : List Access) → Grows a b → All (AccessFits a) es → All (AccessFits b) es
accesses_kept a b es g h = λ k d l. let was = h k d l in record { on = HasNet-stays a b _ 1 g was.on; place = HasNet-stays a b _ 32 g was.place }

pub nets_kept : (a b : Draft) (width : ℕ) (nets : List ℕ) → Grows a b → All (λ net. HasNet a net width) nets → All (λ net. HasNet b net width) nets
nets_kept a b width nets g h = λ k d l. HasNet-stays a b _ width g (h k d l)

-- an access that fits, at a place of the list
pub access_at : (a b : Draft) (es : List Access) (k : ℕ) (x : Access) → Grows a b → All (AccessFits a) es → k < length es → x ≡ slice_index_or es k x → AccessFits b x
access_at a b es k x g h l e = at_item (AccessFits b) es k x (accesses_kept a b es g h) l e

module _ (s : Signals) (t : ℕ) where
  or_false : (b : Bool) → (b || false) ≡ b
  or_false true = refl
  or_false false = refl

  or_joined : (a b c : Bool) → (a || (b || c)) ≡ ((a || b) || c)
  or_joined true b c = refl
  or_joined false b c = refl

  asked_last : (es : List Access) (a : Access) → is_asked s t (es ++ a ∷ []) ≡ (is_asked s t es || is_on s a.on t)
  asked_last [] a = or_false (is_on s a.on t)
  asked_last (x ∷ es) a = ap (λ b. is_on s x.on t || b) (asked_last es a) ∙ or_joined (is_on s x.on t) (is_asked s t es) (is_on s a.on t)

  place_last : (es : List Access) (a : Access) (other : ℕ) → last_place s t (es ++ a ∷ []) other ≡ (if is_on s a.on t then s.net t a.place else last_place s t es other)
  place_last [] a other = refl
  place_last (x ∷ es) a other = place_last es a (if is_on s x.on t then s.net t x.place else other)

  word_last : (es : List Access) (ws : List ℕ) (a : Access) (w other : ℕ) → length ws ≡ length es → last_word s t (es ++ a ∷ []) (ws ++ w ∷ []) other ≡ (if is_on s a.on t then s.net t w else last_word s t es ws other)
  word_last [] [] a w other e = refl
  word_last [] (v ∷ ws) a w other e = absurd (omega (arith, e))
  word_last (x ∷ es) [] a w other e = absurd (omega (arith, e))
  word_last (x ∷ es) (v ∷ ws) a w other e = word_last es ws a w (if is_on s x.on t then s.net t v else other) (omega (arith, e))

  pub asked_more : (es : List Access) (i : ℕ) (a : Access) → i < length es → a ≡ slice_index_or es i a → is_asked s t (take (i + 1) es) ≡ (is_asked s t (take i es) || is_on s a.on t)
  asked_more es i a l e = ap (is_asked s t) (take_more es i a l ∙ ap (λ x. take i es ++ x ∷ []) (sym e)) ∙ asked_last (take i es) a

  pub place_more : (es : List Access) (i : ℕ) (a : Access) (other : ℕ) → i < length es → a ≡ slice_index_or es i a
      → last_place s t (take (i + 1) es) other ≡ (if is_on s a.on t then s.net t a.place else last_place s t (take i es) other)
  place_more es i a other l e = ap (λ xs. last_place s t xs other) (take_more es i a l ∙ ap (λ x. take i es ++ x ∷ []) (sym e)) ∙ place_last (take i es) a other

  pub word_more : (es : List Access) (ws : List ℕ) (i : ℕ) (a : Access) (w other : ℕ) → length ws ≡ length es → i < length es → a ≡ slice_index_or es i a → w ≡ slice_index_or ws i w
      → last_word s t (take (i + 1) es) (take (i + 1) ws) other ≡ (if is_on s a.on t then s.net t w else last_word s t (take i es) (take i ws) other)
  word_more es ws i a w other long l e f =
      let m : i < length ws = omega (arith, long, l) in
      ap (λ xs. last_word s t xs (take (i + 1) ws) other) (take_more es i a l ∙ ap (λ x. take i es ++ x ∷ []) (sym e))
      ∙ ap (λ vs. last_word s t (take i es ++ a ∷ []) vs other) (take_more ws i w m ∙ ap (λ x. take i ws ++ x ∷ []) (sym f))
      ∙ word_last (take i es) (take i ws) a w other (length-take-le i ws (omega (arith, m)) ∙ sym (length-take-le i es (omega (arith, l))))
