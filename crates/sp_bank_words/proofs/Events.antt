-- Events of a list, two of them, and the words of indices.
use Rattle.std.proofs.Common.{◌≡◌, ℕ, zero, suc, ◌-◌, ◌<◌, ◌^◌, ◌⊎◌, inl, inr, Bool, true, false, cond, ◌&&◌, List, [], ◌∷◌, ◌++◌, map, take, length, slice_index, All, Option, Some, None, refl, sym, ap, subst, ◌∙◌, arith}
use Rattle.std.specs.List.{Contains}
use Rattle.std.specs.Prelude.{nat_eq, is_some, ℤ, pos, ◌-ℤ◌}
use Rattle.std.proofs.lemmas.List.{map-append, length-map, get_or_push, length_push}
use Rattle.std.proofs.lemmas.Bool.{and_parts, eqb-true, lt-leb, le-ltb, false≢true}
use Rattle.sp_time.proofs.Contents.{place_test}
use Rattle.sp_words.specs.Words.{value_of, has_sign}
use Rattle.sp_core.specs.Elements.{natural}
use Rattle.sp_core.specs.PlainCore.{PlainCore}
use Rattle.sp_core.specs.Events.{Moment}
use Rattle.sp_time.specs.Events.{Event, before, after, content, change_at}
use Rattle.sp_time.specs.Lists.{Each, Pairs}
use Rattle.sp_time.specs.Places.{Place, is_place}
use Rattle.sp_machine.specs.Found.{event_of, events_of}
use Rattle.sp_machine.specs.InOrder.{is_done, does_change}
use Rattle.sp_machine.specs.Stamps.{Stamped}
use Rattle.sp_part_runs.specs.ActsEntries.{index_of}

pub each_at : {A : Type 0} (Q : A → Type 0) (xs : List A) → Each Q xs → (x : A) → Contains xs x → Q x
each_at Q [] h x (k, l, e) = absurd (omega (arith, l))
each_at Q (y ∷ ys) h x (zero, l, e) = subst Q e h.0
each_at Q (y ∷ ys) h x (suc k, l, e) = each_at Q ys h.1 x (k, omega (arith, l), e)

-- two of a list are one, or stand in it one after the other
pub two_there : {A : Type 0} (R : A → A → Type 0) (xs : List A) → Pairs R xs → (x y : A) → Contains xs x → Contains xs y → (x ≡ y) ⊎ (R x y ⊎ R y x)
two_there R [] h x y (k, l, e) d = absurd (omega (arith, l))
two_there R (z ∷ zs) h x y (zero, l, e) (zero, m, f) = inl (sym e ∙ f)
two_there R (z ∷ zs) h x y (zero, l, e) (suc k, m, f) = inr (inl (subst (λ u. R u y) e (each_at (R z) zs h.0 y (k, omega (arith, m), f))))
two_there R (z ∷ zs) h x y (suc j, l, e) (zero, m, f) = inr (inr (subst (λ u. R u x) f (each_at (R z) zs h.0 x (j, omega (arith, l), e))))
two_there R (z ∷ zs) h x y (suc j, l, e) (suc k, m, f) = two_there R zs h.1 x y (j, omega (arith, l), e) (k, omega (arith, m), f)

-- a word without a sign is its index
abbrev signed : ℕ → Bool → ℤ
signed w b = cond b (pos w -ℤ pos 4294967296) (pos w)

pub no_sign : (w : ℕ) → w < 2 ^ 31 → index_of w ≡ w
unfolding value_of has_sign
no_sign w l = ap (λ b. natural (signed w b)) (lt-leb 2147483648 w l)

pub no_signs : (f : ℕ → ℕ) (nets : List ℕ) → All (λ net. f net < 2 ^ 31) nets → map index_of (map f nets) ≡ map f nets
no_signs f [] h = refl
no_signs f (n ∷ nets) h = ap (λ x. x ∷ map index_of (map f nets)) (no_sign (f n) (h 0 n (omega arith))) ∙ ap (λ xs. f n ∷ xs) (no_signs f nets (λ k d l. h (suc k) d (omega (arith, l))))

-- all but the last word, and the last one
long : (f : ℕ → ℕ) (nets : List ℕ) (n : ℕ) → length (map f (nets ++ n ∷ [])) - 1 ≡ length (map f nets)
long f nets n =
    let a = length-map (nets ++ n ∷ []) f in
    let b = length_push nets n in
    let c = length-map nets f in
    omega (arith, a, b, c)

pub words_before : (f : ℕ → ℕ) (nets : List ℕ) (n : ℕ) → take (length (map f (nets ++ n ∷ [])) - 1) (map f (nets ++ n ∷ [])) ≡ map f nets
words_before f nets n =
    ap (λ k. take k (map f (nets ++ n ∷ []))) (long f nets n)
    ∙ ap (take (length (map f nets))) (map-append f nets (n ∷ []))
    ∙ take_whole (map f nets) (f n ∷ [])
  where
    take_whole : (xs ys : List ℕ) → take (length xs) (xs ++ ys) ≡ xs
    take_whole [] ys = refl
    take_whole (x ∷ xs) ys = ap (λ zs. x ∷ zs) (take_whole xs ys)

pub word_behind : (f : ℕ → ℕ) (nets : List ℕ) (n : ℕ) → slice_index (map f (nets ++ n ∷ [])) (length (map f (nets ++ n ∷ [])) - 1) ≡ f n
word_behind f nets n =
    ap (slice_index (map f (nets ++ n ∷ []))) (long f nets n)
    ∙ ap (λ ws. slice_index ws (length (map f nets))) (map-append f nets (n ∷ []))
    ∙ get_or_push (map f nets) (f n) 0 (length (map f nets)) refl

abbrev some_or : Moment → Option Moment → Moment
some_or m None = m
some_or m (Some n) = n

module _ (core : PlainCore) where
  pub event_there : (Q : Event Place Moment → Type 0) (run : List Stamped) → Each Q (events_of core run) → (x : Stamped) → Contains run x → is_done core x.moment ≡ true → Q (event_of core x)
  event_there Q [] h x (k, l, e) d = absurd (omega (arith, l))
  event_there Q (y ∷ run) h x (zero, l, e) d = subst (λ z. Q (event_of core z)) e (go (is_done core y.moment) (ap (λ (z : Stamped). is_done core z.moment) e ∙ d) h)
    where
      go : (b : Bool) → b ≡ true → Each Q (cond b (event_of core y ∷ events_of core run) (events_of core run)) → Q (event_of core y)
      go true q h = h.0
      go false q h = absurd (false≢true q)
  event_there Q (y ∷ run) h x (suc k, l, e) d = event_there Q run (go (is_done core y.moment) h) x (k, omega (arith, l), e) d
    where
      go : (b : Bool) → Each Q (cond b (event_of core y ∷ events_of core run) (events_of core run)) → Each Q (events_of core run)
      go true h = h.1
      go false h = h

  -- the change at a place in a cycle is one of the list's
  pub record Comes (run : List Stamped) (t : ℕ) (p : Place) (a : Moment) : Type 0 where
    pub stamped : Stamped
    pub there : Contains run stamped
    pub done : is_done core stamped.moment ≡ true
    pub cycle : stamped.cycle ≡ t
    pub place : (event_of core stamped).place ≡ p
    pub changes : does_change stamped.moment ≡ true
    pub act : stamped.moment ≡ a

  comes_later : (x : Stamped) (run : List Stamped) (t : ℕ) (p : Place) (a : Moment) → Comes run t p a → Comes (x ∷ run) t p a
  comes_later x run t p a c = record {
    stamped = c.stamped;
    there = (let l = c.there.1 in (suc c.there.0, omega (arith, l), c.there.2));
    done = c.done;
    cycle = c.cycle;
    place = c.place;
    changes = c.changes;
    act = c.act;
  }

  comes_here : (x : Stamped) (run : List Stamped) (t : ℕ) (p : Place) (a : Moment) → is_done core x.moment ≡ true → (change_at does_change is_place (events_of core run) t p ≡ Some a → Comes run t p a)
      → (b : Bool) → (nat_eq x.cycle t && (is_place (event_of core x).place p && does_change x.moment)) ≡ b → cond b (Some x.moment) (change_at does_change is_place (events_of core run) t p) ≡ Some a → Comes (x ∷ run) t p a
  comes_here x run t p a d rest true q h =
      let one = and_parts _ _ q in
      let two = and_parts _ _ one.1 in
      record {
        stamped = x;
        there = (0, omega arith, refl);
        done = d;
        cycle = eqb-true _ _ one.0;
        place = (place_test (event_of core x).place p).0 two.0;
        changes = two.1;
        act = ap (some_or x.moment) h;
      }
  comes_here x run t p a d rest false q h = comes_later x run t p a (rest h)

  comes_done : (x : Stamped) (run : List Stamped) (t : ℕ) (p : Place) (a : Moment) → (change_at does_change is_place (events_of core run) t p ≡ Some a → Comes run t p a)
      → (b : Bool) → is_done core x.moment ≡ b → change_at does_change is_place (cond b (event_of core x ∷ events_of core run) (events_of core run)) t p ≡ Some a → Comes (x ∷ run) t p a
  comes_done x run t p a rest true d h = comes_here x run t p a d rest _ refl h
  comes_done x run t p a rest false d h = comes_later x run t p a (rest h)

  pub change_comes : (run : List Stamped) (t : ℕ) (p : Place) (a : Moment) → change_at does_change is_place (events_of core run) t p ≡ Some a → Comes run t p a
  change_comes [] t p a h = absurd (false≢true (ap is_some h))
  change_comes (x ∷ run) t p a h = comes_done x run t p a (change_comes run t p a) _ refl h

-- at first there stands what stood before all
pub none_before : (es : List (Event Place Moment)) → before 0 es ≡ []
none_before [] = refl
none_before (e ∷ es) = ap (λ b. cond b (e ∷ before 0 es) (before 0 es)) (le-ltb e.cycle 0 (omega arith)) ∙ none_before es

pub first_content : {C : Type 0} (does : Moment → C → C) (es : List (Event Place Moment)) (s : Place → C) (p : Place) → content is_place does es 0 s p ≡ s p
first_content does es s p = ap (λ xs. after is_place does xs s p) (none_before es)
