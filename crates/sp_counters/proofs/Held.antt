-- What counters hold of a loop that was started.
use Rattle.std.proofs.Common.{◌≡◌, ℕ, suc, ◌*◌, ◌<◌, ◌^◌, Bool, true, false, not, ◌&&◌, ℤ, pos, ◌+ℤ◌, List, [], ◌∷◌, map, length, refl, sym, ap, ap₂, ◌∙◌, if◌then◌else◌}
use Rattle.std.specs.Prelude.{int_lt}
use Rattle.sp_words.specs.Types.{int_type}
use Rattle.sp_words.specs.Words.{wrap}
use Rattle.sp_words.proofs.LawLemmas.{wrap-of-value}
use Rattle.sp_netlist.specs.Signals.{Signals}
use Rattle.sp_core.specs.Elements.{index_value}
use Rattle.sp_core.specs.Scope.{Loop, is_live}
use Rattle.sp_counters.specs.declared.part.Count.{Count}
use Rattle.sp_counters.specs.declared.part.Counter.{Counter}
use Rattle.sp_counters.specs.Counting.{number, low_number, advance_of, is_last, are_last, have_values, AllCount, none, counted, is_below}
use Rattle.sp_counters.specs.Laws.{AreLoopsAt, no_loop, one_loop}
use Rattle.sp_counters.proofs.Odometer as odometer

-- the nets of a counter hold the bounds of a loop
pub record Holds (s : Signals) (t : ℕ) (c : Count) (n : Counter) (l : Loop) : Type 0 where
  pub from : number s n.from t ≡ l.from
  pub until : number s n.until t ≡ l.until
  pub by : l.by ≡ c.by
  pub advance : l.advance ≡ advance_of c

pub data AllHold (s : Signals) (t : ℕ) : List Count → List Counter → List Loop → Type 0 where
  held_none : AllHold s t [] [] []
  held_more : {c : Count} {n : Counter} {l : Loop} {counts : List Count} {counters : List Counter} {loops : List Loop} → Holds s t c n l → AllHold s t counts counters loops → AllHold s t (c ∷ counts) (n ∷ counters) (l ∷ loops)

-- the values of some counters in a cycle
abbrev pub values_at : Signals → List Counter → (cycle : ℕ) → List ℤ
values_at s counters t = map (λ n. number s n.value t) counters

pub if_true : {A : Type 0} (b : Bool) (x y : A) → b ≡ true → (if b then x else y) ≡ x
if_true b x y e = ap (λ b. if b then x else y) e

pub if_false : {A : Type 0} (b : Bool) (x y : A) → b ≡ false → (if b then x else y) ≡ y
if_false b x y e = ap (λ b. if b then x else y) e

low_is : (s : Signals) (net t : ℕ) (z : ℤ) → z ≡ index_value (s.net t net) → s.net t net < 2 ^ 32 → low_number s net t ≡ z
low_is s net t z e l = ap index_value (wrap-of-value int_type (s.net t net) l) ∙ sym e

module _ (s : Signals) (start step : ℕ → Bool) where
  -- at the start the bounds are taken
  pub held_first : (t : ℕ) → start t ≡ true → (counts : List Count) (counters : List Counter) (loops : List Loop) → AllCount s start step counts counters → AreLoopsAt s t counts loops → AllHold s (suc t) counts counters loops
  held_first t e _ _ _ none no_loop = held_none
  held_first t e _ _ _ (counted h hs) (one_loop k ks) =
      held_more (record {
        from = h.from t ∙ if_true _ _ _ e ∙ low_is s _ t _ k.from k.from_fits;
        until = h.until t ∙ if_true _ _ _ e ∙ low_is s _ t _ k.until k.until_fits;
        by = k.by;
        advance = k.advance;
      }) (held_first t e _ _ _ hs ks)

  -- and they stay as long as it isn't started again
  pub held_on : (t : ℕ) → start t ≡ false → (counts : List Count) (counters : List Counter) (loops : List Loop) → AllCount s start step counts counters → AllHold s t counts counters loops → AllHold s (suc t) counts counters loops
  held_on t e _ _ _ none held_none = held_none
  held_on t e _ _ _ (counted h hs) (held_more k ks) =
      held_more (record {
        from = h.from t ∙ if_false _ _ _ e ∙ k.from;
        until = h.until t ∙ if_false _ _ _ e ∙ k.until;
        by = k.by;
        advance = k.advance;
      }) (held_on t e _ _ _ hs ks)

  -- the first values
  pub first_values : (t : ℕ) → start t ≡ true → (counts : List Count) (counters : List Counter) (loops : List Loop) → AllCount s start step counts counters → AreLoopsAt s t counts loops → values_at s counters (suc t) ≡ odometer.firsts loops
  first_values t e _ _ _ none no_loop = refl
  first_values t e _ _ _ (counted h hs) (one_loop k ks) =
      ap₂ (λ x xs. x ∷ xs) (h.value t ∙ if_true _ _ _ e ∙ low_is s _ t _ k.from k.from_fits) (first_values t e _ _ _ hs ks)

  -- whether there is a group
  pub values_stand : (t : ℕ) (counts : List Count) (loops : List Loop) → AreLoopsAt s t counts loops → have_values s counts t ≡ odometer.have_values loops
  values_stand t _ _ no_loop = refl
  values_stand t _ _ (one_loop k ks) =
      ap₂ (λ a b. a && b) (ap₂ int_lt (low_is s _ t _ k.from k.from_fits) (low_is s _ t _ k.until k.until_fits)) (values_stand t _ _ ks)

  last_is : (t : ℕ) (c : Count) (n : Counter) (l : Loop) → Holds s t c n l → is_last s c n t ≡ odometer.is_last l (number s n.value t)
  last_is t c n l k = ap₂ (λ a u. not (int_lt (number s n.value t +ℤ pos a) u)) (sym k.advance) k.until

  pub last_are : (t : ℕ) (counts : List Count) (counters : List Counter) (loops : List Loop) → AllHold s t counts counters loops → are_last s counts counters t ≡ odometer.are_last loops (values_at s counters t)
  last_are t _ _ _ held_none = refl
  last_are t _ _ _ (held_more k ks) = ap₂ (λ a b. a && b) (last_is t _ _ _ k) (last_are t _ _ _ ks)

  -- where there is a step, the values go on
  pub values_step : (t : ℕ) → start t ≡ false → step t ≡ true → (counts : List Count) (counters : List Counter) (loops : List Loop) → AllCount s start step counts counters → AllHold s t counts counters loops
      → values_at s counters (suc t) ≡ odometer.next_values loops (values_at s counters t)
  values_step t e g _ _ _ none held_none = refl
  values_step t e g _ _ _ (counted {c = c} {n = n} {counts = counts} {counters = counters} h hs) (held_more {l = l} {loops = loops} k ks) =
      ap₂ (λ x xs. x ∷ xs)
      (h.value t ∙ if_false _ _ _ e
      ∙ ap₂ (λ a b. if a then (if b then number s n.from t else number s n.value t +ℤ pos (advance_of c)) else number s n.value t) (ap₂ (λ a b. a && b) g (last_are t counts counters loops ks)) (last_is t c n l k)
      ∙ ap₂ (λ f a. if odometer.are_last loops (values_at s counters t) then (if odometer.is_last l (number s n.value t) then f else number s n.value t +ℤ pos a) else number s n.value t) k.from (sym k.advance))
      (values_step t e g _ _ _ hs ks)

  -- and else they stay
  pub values_stay : (t : ℕ) → start t ≡ false → step t ≡ false → (counts : List Count) (counters : List Counter) → AllCount s start step counts counters → values_at s counters (suc t) ≡ values_at s counters t
  values_stay t e g _ _ none = refl
  values_stay t e g _ _ (counted {c = c} {n = n} {counts = counts} {counters = counters} h hs) =
      ap₂ (λ x xs. x ∷ xs)
      (h.value t ∙ if_false _ _ _ e ∙ ap (λ a. if a && are_last s counts counters t then (if is_last s c n t then number s n.from t else number s n.value t +ℤ pos (advance_of c)) else number s n.value t) g)
      (values_stay t e g _ _ hs)

  -- the words are those of the values
  pub words_are : (t : ℕ) (counts : List Count) (counters : List Counter) → AllCount s start step counts counters → map (λ n. s.net t n.value) counters ≡ map (wrap int_type) (values_at s counters t)
  words_are t _ _ none = refl
  words_are t _ _ (counted {n = n} h hs) = ap₂ (λ x xs. x ∷ xs) (sym (wrap-of-value int_type (s.net t n.value) (h.fits t))) (words_are t _ _ hs)

  -- and lanes are below their bound where they have an iteration
  pub lanes_live : (t lane : ℕ) (counts : List Count) (counters : List Counter) (loops : List Loop) → AllHold s t counts counters loops → is_below s counts counters lane t ≡ is_live loops (values_at s counters t) lane
  lanes_live t lane _ _ _ held_none = refl
  lanes_live t lane _ _ _ (held_more {n = n} k held_none) = ap₂ (λ b u. int_lt (number s n.value t +ℤ pos (lane * b)) u) (sym k.by) k.until
  lanes_live t lane _ _ _ (held_more k (held_more m ks)) = lanes_live t lane _ _ _ (held_more m ks)

  pub as_many : (t : ℕ) (counts : List Count) (counters : List Counter) (loops : List Loop) → AllHold s t counts counters loops → length (values_at s counters t) ≡ length loops
  as_many t _ _ _ held_none = refl
  as_many t _ _ _ (held_more k ks) = ap suc (as_many t _ _ _ ks)
