-- Steps for each element of a list, of which some are done.
use Rattle.std.proofs.Common.{◌≡◌, ℕ, zero, suc, ⊎_elim, ◌+◌, ◌<◌, ◌≤◌, List, [], ◌∷◌, ◌++◌, append_assoc, length, get_or, drop, refl, sym, ◌∙◌, ap, arith}
use mathlib.Core.Path.{fun_ext}
use Rattle.std.proofs.lemmas.List.{append-nil, drop_more, drop_all, length_push, get_or_append_left, get_or_push}
use Rattle.std.proofs.lemmas.Bool.{cases_lt}
use Rattle.sp_tree.specs.Elements.{numbers_below}
use Rattle.sp_tree.specs.Step.{Step, Went, went, ◌>>=◌, pure, in_order}
use Rattle.sp_tree.specs.Store.{Store}
use Rattle.sp_seq.specs.declared.state.State.{State}
use Rattle.sp_seq.specs.declared.state.Stop.{Stop}
use Rattle.sp_seq.specs.States.{store_of, halted, Keeps}
use Rattle.sp_seq.proofs.StepLemmas.{bind_went, bind_halted, bind_pure, bind_bind}

-- what is left to do
pub left_of : {A B : Type 0} → (A → Step B) → (done : List B) → List A → Step (List B)
left_of step done xs = in_order step xs >>= (λ others. pure (done ++ others))

-- the first k elements are done, in the state
pub record Going {A B : Type 0} (step : A → Step B) (xs : List A) (whole : Went (List B)) (now : State) (k : ℕ) : Type 0 where
  pub done : List B
  pub so_far : whole ≡ left_of step done (drop k xs) now.left (store_of now)

joined : {B : Type 0} (rest : Step (List B)) (done : List B) (b : B) (l : ℕ) (t : Store) → (rest >>= (λ others. pure (b ∷ others) >>= (λ more. pure (done ++ more)))) l t ≡ (rest >>= (λ others. pure ((done ++ b ∷ []) ++ others))) l t
unfolding ◌>>=◌ pure
joined rest done b l t = ap (λ f. (rest >>= f) l t) (fun_ext (λ others. ap pure (sym (append_assoc done (b ∷ []) others))))

module _ {A B : Type 0} (step : A → Step B) (left : ℕ) (s : Store) where
  pub left_none : (xs : List A) → in_order step xs left s ≡ left_of step [] xs left s
  unfolding left_of
  left_none xs = sym (bind_pure (in_order step xs) left s)

  pub left_over : (done : List B) → left_of step done [] left s ≡ went done left s
  unfolding in_order left_of ◌>>=◌ pure
  left_over done = ap (λ ws. went ws left s) (append-nil done)

  pub left_more : (done : List B) (x : A) (xs : List A) (b : B) (l : ℕ) (t : Store) → step x left s ≡ went b l t → left_of step done (x ∷ xs) left s ≡ left_of step (done ++ b ∷ []) xs l t
  unfolding in_order left_of pure
  left_more done x xs b l t r =
      bind_bind (step x) _ (λ others. pure (done ++ others)) left s
      ∙ bind_went (step x) _ left s b l t r
      ∙ bind_bind (in_order step xs) (λ others. pure (b ∷ others)) (λ others. pure (done ++ others)) l t
      ∙ joined (in_order step xs) done b l t

  pub left_halted : (done : List B) (x : A) (xs : List A) (stop : Stop) → step x left s ≡ halted stop → left_of step done (x ∷ xs) left s ≡ halted stop
  unfolding in_order left_of
  left_halted done x xs stop r = bind_bind (step x) _ (λ others. pure (done ++ others)) left s ∙ bind_halted (step x) _ left s stop r

module _ {A B : Type 0} (step : A → Step B) (xs : List A) where
  pub going_start : (s : State) → Going step xs (in_order step xs s.left (store_of s)) s 0
  going_start s = record { done = []; so_far = left_none step s.left (store_of s) xs }

  module _ (whole : Went (List B)) (now : State) (k : ℕ) (h : Going step xs whole now k) where
    pub going_on : (d : A) → k < length xs → (t : State) (b : B) → step (get_or xs k d) now.left (store_of now) ≡ went b t.left (store_of t) → Going step xs whole t (k + 1)
    going_on d l t b r = record {
      done = h.done ++ b ∷ [];
      so_far = h.so_far ∙ ap (λ ys. left_of step h.done ys now.left (store_of now)) (drop_more xs k d l) ∙ left_more step now.left (store_of now) h.done (get_or xs k d) (drop (k + 1) xs) b t.left (store_of t) r;
    }

    pub going_halted : (d : A) → k < length xs → (stop : Stop) → step (get_or xs k d) now.left (store_of now) ≡ halted stop → whole ≡ halted stop
    going_halted d l stop r = h.so_far ∙ ap (λ ys. left_of step h.done ys now.left (store_of now)) (drop_more xs k d l) ∙ left_halted step now.left (store_of now) h.done (get_or xs k d) (drop (k + 1) xs) stop r

    pub going_over : length xs ≤ k → whole ≡ went h.done now.left (store_of now)
    going_over l = h.so_far ∙ ap (λ ys. left_of step h.done ys now.left (store_of now)) (drop_all k xs l) ∙ left_over step now.left (store_of now) h.done

-- so far nothing but memories and turns changed
pub record MovesGo {A B : Type 0} (step : A → Step B) (xs : List A) (start now : State) (k : ℕ) : Type 0 where
  pub going : Going step xs (in_order step xs start.left (store_of start)) now k
  pub keeps : Keeps start now

-- the numbers below n
pub length-numbers : (n : ℕ) → length (numbers_below n) ≡ n
length-numbers zero = refl
length-numbers (suc n) = let h = length-numbers n in length_push (numbers_below n) n ∙ omega arith

pub number_at : (n k d : ℕ) → k < n → get_or (numbers_below n) k d ≡ k
number_at zero k d l = absurd (omega arith)
number_at (suc n) k d l = ⊎_elim
    (λ b. get_or_append_left (numbers_below n) (n ∷ []) d k (omega (arith, length-numbers n)) ∙ number_at n k d b)
    (λ b. let e : k ≡ n = omega arith in ap (λ j. get_or (numbers_below n ++ n ∷ []) j d) e ∙ get_or_push (numbers_below n) n d n (length-numbers n) ∙ sym e)
    (cases_lt k n)
