-- The words of copies, one access more at a time.
use Rattle.std.proofs.Common.{◌≡◌, ℕ, zero, suc, ◌+◌, ◌<◌, ◌==◌, Bool, true, false, ◌&&◌, List, [], ◌∷◌, ◌++◌, length, take, if◌then◌else◌, slice_index_or, All, Option, refl, sym, ap, subst, ◌∙◌, arith, ne_eqb}
use Rattle.std.proofs.lemmas.List.{take_more}
use mir.Val.{bool_byte}
use Rattle.sp_netlist.specs.Signals.{Signals}
use Rattle.sp_mem.specs.declared.part.Fresh.{Fresh}
use Rattle.sp_mem.specs.declared.part.Touch.{Touch}
use Rattle.sp_gates.specs.Tested.{is_on}
use Rattle.sp_mem.specs.Copies.{copy_at, is_at, freshened, written}
use Rattle.sp_mem.specs.Laws.{NoWrite, NoFresh}

-- what holds of each element of a list holds of the one at a place
pub at_item : {X : Type 0} (P : X → Type 0) (xs : List X) (k : ℕ) (x : X) → All P xs → k < length xs → x ≡ slice_index_or xs k x → P x
at_item P xs k x h l e = subst P (sym e) (h k x l)

module _ (s : Signals) (t copy : ℕ) where
  pub written_join : (xs ys : List Touch) (old : ℕ) → written s t copy (xs ++ ys) old ≡ written s t copy ys (written s t copy xs old)
  written_join [] ys old = refl
  written_join (x ∷ xs) ys old = written_join xs ys (if is_at s t x.enable x.copy copy then s.net t x.word else old)

  pub written_more : (ws : List Touch) (i : ℕ) (w : Touch) (old : ℕ) → i < length ws → w ≡ slice_index_or ws i w
      → written s t copy (take (i + 1) ws) old ≡ (if is_at s t w.enable w.copy copy then s.net t w.word else written s t copy (take i ws) old)
  written_more ws i w old l e = rw (take_more ws i w l, sym e) (written_join (take i ws) (w ∷ []) old)

  pub freshened_join : (first : ℕ) (xs ys : List Fresh) (old : ℕ) → freshened s t copy first (xs ++ ys) old ≡ freshened s t copy first ys (freshened s t copy first xs old)
  freshened_join first [] ys old = refl
  freshened_join first (x ∷ xs) ys old = freshened_join first xs ys (if is_at s t x.enable x.copy copy then first else old)

  pub freshened_more : (first : ℕ) (fs : List Fresh) (i : ℕ) (f : Fresh) (old : ℕ) → i < length fs → f ≡ slice_index_or fs i f
      → freshened s t copy first (take (i + 1) fs) old ≡ (if is_at s t f.enable f.copy copy then first else freshened s t copy first (take i fs) old)
  freshened_more first fs i f old l e = rw (take_more fs i f l, sym e) (freshened_join first (take i fs) (f ∷ []) old)

  tail_of : {X : Type 0} (P : X → Type 0) (x : X) (xs : List X) → All P (x ∷ xs) → All P xs
  tail_of P x xs h k d l = h (suc k) d (omega (arith, l))

  pub kept : (ws : List Touch) (old : ℕ) → NoWrite s t copy ws → written s t copy ws old ≡ old
  kept [] old h = refl
  kept (w ∷ ws) old h = rw (h 0 w (omega arith)) (kept ws old (tail_of (λ x. is_at s t x.enable x.copy copy ≡ false) w ws h))

  pub last : (before : List Touch) (w : Touch) (after : List Touch) (old : ℕ) → is_at s t w.enable w.copy copy ≡ true → NoWrite s t copy after → written s t copy (before ++ w ∷ after) old ≡ s.net t w.word
  last before w after old e h = written_join before (w ∷ after) old ∙ rw e (kept after (s.net t w.word) h)

  pub unmade : (first : ℕ) (fs : List Fresh) (old : ℕ) → NoFresh s t copy fs → freshened s t copy first fs old ≡ old
  unmade first [] old h = refl
  unmade first (f ∷ fs) old h = rw (h 0 f (omega arith)) (unmade first fs old (tail_of (λ x. is_at s t x.enable x.copy copy ≡ false) f fs h))

  -- a copy that is fresh stays so
  still : (first : ℕ) (fs : List Fresh) → freshened s t copy first fs first ≡ first
  still first [] = refl
  still first (f ∷ fs) = ap (freshened s t copy first fs) (either (is_at s t f.enable f.copy copy)) ∙ still first fs
    where
      either : (b : Bool) → (if b then first else first) ≡ first
      either true = refl
      either false = refl

  pub made : (first : ℕ) (before : List Fresh) (f : Fresh) (after : List Fresh) (old : ℕ) → is_at s t f.enable f.copy copy ≡ true → freshened s t copy first (before ++ f ∷ after) old ≡ first
  made first before f after old e = freshened_join first before (f ∷ after) old ∙ rw e (still first after)

-- a constant that is 1 for copy 0
pub is_none : (number r : ℕ) → r ≡ bool_byte (number == 0) → (r == 1) ≡ (0 == number)
is_none number r e = ap (λ n. n == 1) e ∙ bit (number == 0) ∙ turned number
  where
    bit : (b : Bool) → (bool_byte b == 1) ≡ b
    bit true = refl
    bit false = refl

    turned : (n : ℕ) → (n == 0) ≡ (0 == n)
    turned zero = refl
    turned (suc n) = ne_eqb (suc n) 0 (λ h. absurd (omega (arith, h))) ∙ sym (ne_eqb 0 (suc n) (λ h. absurd (omega (arith, h))))

-- the bit of a comparison
pub is_same : (a number r : ℕ) → r ≡ (if a == number then 1 else 0) → (r == 1) ≡ (a == number)
is_same a number r e = ap (λ n. n == 1) e ∙ bit (a == number)
  where
    bit : (b : Bool) → ((if b then 1 else 0) == 1) ≡ b
    bit true = refl
    bit false = refl

-- a choice by a bit that is 1 where the test holds
pub chosen_by : (on net : ℕ) (test : Bool) (a b c : ℕ) → (on == 1) ≡ test → net ≡ (if on == 1 then a else b) → b ≡ c → net ≡ (if test then a else c)
chosen_by on net test a b c e f g = f ∙ rw (e, g) refl

-- whether something is done to a copy, where the net of its number is known
pub at_copy : (s : Signals) (t enable number n : ℕ) (copy known : Option ℕ) → copy ≡ known → n ≡ number → (is_on s enable t && (copy_at s t known == n)) ≡ is_at s t enable copy number
at_copy s t enable number n copy known e f = rw (e, f) refl
