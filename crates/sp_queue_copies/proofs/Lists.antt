-- What is done to a copy, one access more at a time.
use Rattle.std.proofs.Common.{◌≡◌, ℕ, ◌+◌, ◌<◌, Bool, true, false, ◌||◌, List, [], ◌∷◌, ◌++◌, length, take, slice_index_or, All, refl, sym, ap, subst, ◌∙◌}
use Rattle.std.proofs.lemmas.List.{take_more}
use Rattle.sp_netlist.specs.Draft.{Draft}
use Rattle.sp_netlist.specs.Signals.{Signals}
use Rattle.sp_gates.specs.Grows.{Grows}
use Rattle.sp_gates.proofs.Growing.{HasNet-stays}
use Rattle.sp_mem.specs.declared.part.Fresh.{Fresh}
use Rattle.sp_mem.specs.declared.part.Touch.{Touch}
use Rattle.sp_mem.specs.Copies.{is_at}
use Rattle.sp_mem.specs.Fits.{WriteFits}
use Rattle.sp_mem.proofs.Kept.{copy_kept}
use Rattle.sp_queue_copies.specs.Events.{TouchFits, is_freshened, is_touched}

-- what holds of each element of a list holds of the one at a place
pub at_item : {X : Type 0} (P : X → Type 0) (xs : List X) (k : ℕ) (x : X) → All P xs → k < length xs → x ≡ slice_index_or xs k x → P x
at_item P xs k x h l e = subst P (sym e) (h k x l)

pub touches_kept : (a b : Draft) (g : Grows a b) (touches : List Touch) → All (TouchFits a) touches → All (TouchFits b) touches
touches_kept a b g touches h = λ k d l. let was = h k d l in record { enable = HasNet-stays a b _ 1 g was.enable; copy = copy_kept a b g _ was.copy }

pub puts_touch : (d : Draft) (width : ℕ) (puts : List Touch) → All (WriteFits d width) puts → All (TouchFits d) puts
puts_touch d width puts h = λ k e l. let was = h k e l in record { enable = was.enable; copy = was.copy }

or_false : (b : Bool) → (b || false) ≡ b
or_false true = refl
or_false false = refl

or_joined : (a b c : Bool) → (a || (b || c)) ≡ ((a || b) || c)
or_joined true b c = refl
or_joined false b c = refl

module _ (s : Signals) (t copy : ℕ) where
  fresh_last : (fs : List Fresh) (f : Fresh) → is_freshened s t copy (fs ++ f ∷ []) ≡ (is_freshened s t copy fs || is_at s t f.enable f.copy copy)
  fresh_last [] f = or_false (is_at s t f.enable f.copy copy)
  fresh_last (x ∷ fs) f = ap (λ b. is_at s t x.enable x.copy copy || b) (fresh_last fs f) ∙ or_joined (is_at s t x.enable x.copy copy) (is_freshened s t copy fs) (is_at s t f.enable f.copy copy)

  pub fresh_more : (fs : List Fresh) (i : ℕ) (f : Fresh) → i < length fs → f ≡ slice_index_or fs i f → is_freshened s t copy (take (i + 1) fs) ≡ (is_freshened s t copy (take i fs) || is_at s t f.enable f.copy copy)
  fresh_more fs i f l e = ap (is_freshened s t copy) (take_more fs i f l ∙ ap (λ x. take i fs ++ x ∷ []) (sym e)) ∙ fresh_last (take i fs) f

  touch_last : (es : List Touch) (a : Touch) → is_touched s t copy (es ++ a ∷ []) ≡ (is_touched s t copy es || is_at s t a.enable a.copy copy)
  touch_last [] a = or_false (is_at s t a.enable a.copy copy)
  touch_last (x ∷ es) a = ap (λ b. is_at s t x.enable x.copy copy || b) (touch_last es a) ∙ or_joined (is_at s t x.enable x.copy copy) (is_touched s t copy es) (is_at s t a.enable a.copy copy)

  pub touch_more : (es : List Touch) (i : ℕ) (a : Touch) → i < length es → a ≡ slice_index_or es i a → is_touched s t copy (take (i + 1) es) ≡ (is_touched s t copy (take i es) || is_at s t a.enable a.copy copy)
  touch_more es i a l e = ap (is_touched s t copy) (take_more es i a l ∙ ap (λ x. take i es ++ x ∷ []) (sym e)) ∙ touch_last (take i es) a
