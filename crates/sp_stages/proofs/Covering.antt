-- Lists of stages that are held together, as they grow.
use Rattle.std.proofs.Common.{◌≡◌, ℕ, ◌+◌, ◌&&◌, ◌||◌, Bool, true, false, List, [], ◌∷◌, ◌++◌, length, refl, ap, sym, subst, ◌∙◌, add-one}
use Rattle.std.specs.List.{list_any}
use Rattle.std.proofs.lemmas.List.Folds.{list_any-append}
use Rattle.sp_core.specs.declared.access.Meet.{Meet}
use Rattle.sp_core.specs.Elements.{numbers_below}
use Rattle.sp_core.specs.PlainCore.{PlainCore}
use Rattle.sp_plan.specs.Named.{share_other}
use Rattle.sp_core.specs.Meeting.{least_of}
use Rattle.std.specs.Prelude.{◌-◌, nat_le}
use Rattle.sp_plan.specs.Slots.{StageRun, run_at, is_within, stage_of}
use Rattle.sp_stages.specs.Divided.{are_around, is_over, is_over_any}

and_no : (a b : Bool) → b ≡ false → (a && b) ≡ false
and_no true b e = e
and_no false b e = refl

or_no : (a b : Bool) → b ≡ false → a ≡ (a || b)
or_no true b e = refl
or_no false b e = sym e

or_assoc : (a b c : Bool) → ((a || b) || c) ≡ (a || (b || c))
or_assoc true b c = refl
or_assoc false b c = refl

or_end : (b : Bool) → (b || false) ≡ b
or_end true = refl
or_end false = refl

none_of : {A : Type 0} (f : A → Bool) → ((x : A) → f x ≡ false) → (xs : List A) → list_any f xs ≡ false
none_of f h [] = refl
none_of f h (x ∷ xs) = ap (λ b. b || list_any f xs) (h x) ∙ none_of f h xs

-- one element more
pub any_next : {A : Type 0} (f : A → Bool) (xs : List A) (x : A) → list_any f (xs ++ x ∷ []) ≡ (list_any f xs || f x)
any_next f xs x = list_any-append f xs (x ∷ []) ∙ ap (λ b. list_any f xs || b) (or_end (f x))

-- what is found among numbers below n, and of n
pub found_more : (f : ℕ → Bool) (n : ℕ) (old now next : Bool) → now ≡ (old || list_any f (numbers_below n)) → next ≡ (now || f n) → next ≡ (old || list_any f (numbers_below (n + 1)))
found_more f n old now next e g =
    g ∙ ap (λ b. b || f n) e ∙ or_assoc old (list_any f (numbers_below n)) (f n)
    ∙ ap (λ b. old || b) (sym (any_next f (numbers_below n) n)) ∙ ap (λ k. old || list_any f (numbers_below k)) (sym (add-one n))

pub found_all : (f : ℕ → Bool) (n m : ℕ) (old now : Bool) → n ≡ m → now ≡ (old || list_any f (numbers_below n)) → now ≡ (old || list_any f (numbers_below m))
found_all f n m old now e h = subst (λ k. now ≡ (old || list_any f (numbers_below k))) e h

-- no pair with a run in which the first access doesn't stand
pub not_within : (core : PlainCore) (owned : List ℕ) (runs : List StageRun) (k : ℕ) (m : Meet) (p : ℕ) (a : Bool) → is_within (run_at runs p) m.first ≡ false → a ≡ (a || is_over_any core owned runs k m p)
not_within core owned runs k m p a e =
    or_no a (is_over_any core owned runs k m p) (none_of (is_over core owned runs k m p)
    (λ q. and_no (are_around core owned runs k p q) _
    (ap (λ b. (b && is_within (run_at runs q) m.second) && (nat_le (least_of core [] m) (stage_of runs p - stage_of runs q) && share_other core owned m.first m.second)) e))
    (numbers_below (length runs)))
