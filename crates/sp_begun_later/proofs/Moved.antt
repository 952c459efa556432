-- Events that come so many cycles later are found in time where they are as they stand.
use Rattle.std.proofs.Common.{◌≡◌, ℕ, suc, ◌+◌, ◌-◌, ◌<◌, ◌≤◌, inl, inr, Bool, true, false, cond, ◌&&◌, IsTrue, List, [], ◌∷◌, map, nat_lt, nat_eq, Some, None, refl, sym, ap, subst, ◌∙◌, arith, lt-ltb, le-ltb, eq-eqb, ne_eqb}
use Rattle.std.proofs.lemmas.Bool.{cases_lt, true≢false}
use Rattle.sp_time.specs.Events.{Event, before, put, after, content, change_at, changed_by, InTime}
use Rattle.sp_time.specs.Lists.{Each}

abbrev pub moved_event : {P A : Type 0} (n : ℕ) → Event P A → Event P A
moved_event n e = record { cycle = n + e.cycle; place = e.place; act = e.act }

abbrev pub all_moved : {P A : Type 0} (n : ℕ) → List (Event P A) → List (Event P A)
all_moved n es = map (moved_event n) es

-- what holds of each
pub each_mapped : {A B : Type 0} (f : A → B) (Q : B → Type 0) (xs : List A) → Each (λ x. Q (f x)) xs → Each Q (map f xs)
each_mapped f Q [] h = tt
each_mapped f Q (x ∷ xs) h = (h.0, each_mapped f Q xs h.1)

each_unmapped : {A B : Type 0} (f : A → B) (Q : B → Type 0) (xs : List A) → Each Q (map f xs) → Each (λ x. Q (f x)) xs
each_unmapped f Q [] h = tt
each_unmapped f Q (x ∷ xs) h = (h.0, each_unmapped f Q xs h.1)

each_weaker : {A : Type 0} (P Q : A → Type 0) (xs : List A) → ((x : A) → P x → Q x) → Each P xs → Each Q xs
each_weaker P Q [] f h = tt
each_weaker P Q (x ∷ xs) f h = (f x h.0, each_weaker P Q xs f h.1)

each_any : {A : Type 0} (Q : A → Type 0) (xs : List A) → ((x : A) → Q x) → Each Q xs
each_any Q [] f = tt
each_any Q (x ∷ xs) f = (f x, each_any Q xs f)

same_less : (n a b : ℕ) → nat_lt (n + a) (n + b) ≡ nat_lt a b
same_less n a b = elim (cases_lt a b) [
  | inl l ↦ lt-ltb (n + a) (n + b) (omega (arith, l)) ∙ sym (lt-ltb a b l)
  | inr l ↦ le-ltb (n + a) (n + b) (omega (arith, l)) ∙ sym (le-ltb a b l)
]

same_equal : (n a b : ℕ) → nat_eq (n + a) (n + b) ≡ nat_eq a b
same_equal n a b = elim (cases_lt a b) [
  | inl l ↦ ne_eqb (n + a) (n + b) (λ e. omega (arith, l, e)) ∙ sym (ne_eqb a b (λ e. omega (arith, l, e)))
  | inr l ↦ elim (cases_lt b a) [
    | inl g ↦ ne_eqb (n + a) (n + b) (λ e. omega (arith, g, e)) ∙ sym (ne_eqb a b (λ e. omega (arith, g, e)))
    | inr g ↦ eq-eqb (n + a) (n + b) (omega (arith, l, g)) ∙ sym (eq-eqb a b (omega (arith, l, g)))
  ]
]

module _ {P C A : Type 0} (same : P → P → Bool) (does : A → C → C) (Sees : A → C → Type 0) (changes : A → Bool) (n : ℕ) where
  chosen : (b c : Bool) (e : Event P A) (xs ys : List (Event P A)) → b ≡ c → xs ≡ all_moved n ys → cond b (moved_event n e ∷ xs) xs ≡ all_moved n (cond c (e ∷ ys) ys)
  chosen true true e xs ys q h = ap (λ zs. moved_event n e ∷ zs) h
  chosen false false e xs ys q h = h
  chosen true false e xs ys q h = absurd (true≢false q)
  chosen false true e xs ys q h = absurd (true≢false (sym q))

  before_moved : (t : ℕ) (es : List (Event P A)) → before (n + t) (all_moved n es) ≡ all_moved n (before t es)
  before_moved t [] = refl
  before_moved t (e ∷ es) = chosen (nat_lt (n + e.cycle) (n + t)) (nat_lt e.cycle t) e (before (n + t) (all_moved n es)) (before t es) (same_less n e.cycle t) (before_moved t es)

  left_out : (b : Bool) (e : Event P A) (xs : List (Event P A)) → b ≡ false → xs ≡ [] → cond b (e ∷ xs) xs ≡ []
  left_out true e xs q h = absurd (true≢false q)
  left_out false e xs q h = h

  before_early : (t : ℕ) (es : List (Event P A)) → t ≤ n → before t (all_moved n es) ≡ []
  before_early t [] l = refl
  before_early t (e ∷ es) l = left_out (nat_lt (n + e.cycle) t) (moved_event n e) (before t (all_moved n es)) (le-ltb (n + e.cycle) t (omega (arith, l))) (before_early t es l)

  pub after_moved : (es : List (Event P A)) (s : P → C) → after same does (all_moved n es) s ≡ after same does es s
  after_moved [] s = refl
  after_moved (e ∷ es) s = after_moved es (put same does e s)

  content_moved : (es : List (Event P A)) (t : ℕ) (s : P → C) → content same does (all_moved n es) (n + t) s ≡ content same does es t s
  content_moved es t s = ap (λ xs. after same does xs s) (before_moved t es) ∙ after_moved (before t es) s

  content_early : (es : List (Event P A)) (t : ℕ) (s : P → C) → t ≤ n → content same does (all_moved n es) t s ≡ s
  content_early es t s l = ap (λ xs. after same does xs s) (before_early t es l)

  change_moved : (es : List (Event P A)) (t : ℕ) (p : P) → change_at changes same (all_moved n es) (n + t) p ≡ change_at changes same es t p
  change_moved [] t p = refl
  change_moved (e ∷ es) t p =
      ap (λ b. cond (b && (same e.place p && changes e.act)) (Some e.act) (change_at changes same (all_moved n es) (n + t) p)) (same_equal n e.cycle t)
      ∙ ap (λ o. cond (nat_eq e.cycle t && (same e.place p && changes e.act)) (Some e.act) o) (change_moved es t p)

  change_early : (es : List (Event P A)) (t : ℕ) (p : P) → t < n → change_at changes same (all_moved n es) t p ≡ None
  change_early [] t p l = refl
  change_early (e ∷ es) t p l =
      ap (λ b. cond (b && (same e.place p && changes e.act)) (Some e.act) (change_at changes same (all_moved n es) t p)) (ne_eqb (n + e.cycle) t (λ q. omega (arith, q, l))) ∙ change_early es t p l

  module _ (es : List (Event P A)) (s : P → C) (h : InTime same does Sees changes es s) where
    abbrev Next : ℕ → P → Type 0
    Next t p = content same does (all_moved n es) (suc t) s p ≡ changed_by does (change_at changes same (all_moved n es) t p) (content same does (all_moved n es) t s p)

    next_early : (t : ℕ) (p : P) → t < n → Next t p
    next_early t p l =
        ap (λ (f : P → C). f p) (content_early es (suc t) s (omega (arith, l)))
        ∙ sym (ap (λ o. changed_by does o (content same does (all_moved n es) t s p)) (change_early es t p l) ∙ ap (λ (f : P → C). f p) (content_early es t s (omega (arith, l))))

    next_moved : (t : ℕ) (p : P) → Next (n + t) p
    next_moved t p =
        let e : suc (n + t) ≡ n + suc t = omega arith in
        ap (λ k. content same does (all_moved n es) k s p) e
        ∙ ap (λ (f : P → C). f p) (content_moved es (suc t) s)
        ∙ h.next t p
        ∙ sym (ap (λ o. changed_by does o (content same does (all_moved n es) (n + t) s p)) (change_moved es t p) ∙ ap (λ (f : P → C). changed_by does (change_at changes same es t p) (f p)) (content_moved es t s))

    since : (t : ℕ) → n ≤ t → n + (t - n) ≡ t
    since t l = omega (arith, l)

    abbrev Only : ℕ → P → Event P A → Type 0
    Only t p e = e.cycle ≡ t → e.place ≡ p → IsTrue (changes e.act) → change_at changes same (all_moved n es) t p ≡ Some e.act

    only_moved : (t : ℕ) (p : P) → Each (Only (n + t) p) (all_moved n es)
    only_moved t p =
        each_mapped (moved_event n) (Only (n + t) p) es
        (each_weaker (λ e. e.cycle ≡ t → e.place ≡ p → IsTrue (changes e.act) → change_at changes same es t p ≡ Some e.act) (λ e. Only (n + t) p (moved_event n e)) es (λ e f c at does_change. change_moved es t p ∙ f (omega (arith, c)) at does_change) (h.only t p))

    only_early : (t : ℕ) (p : P) → t < n → Each (Only t p) (all_moved n es)
    only_early t p l = each_mapped (moved_event n) (Only t p) es (each_any (λ e. Only t p (moved_event n e)) es (λ e c at does_change. absurd (omega (arith, c, l))))

    last_moved : (t : ℕ) (p : P) → Each (λ (e : Event P A). e.cycle < n + t) (all_moved n es) → content same does (all_moved n es) (n + t) s p ≡ after same does (all_moved n es) s p
    last_moved t p all =
        ap (λ (f : P → C). f p) (content_moved es t s)
        ∙ h.last t p (each_weaker (λ (e : Event P A). n + e.cycle < n + t) (λ (e : Event P A). e.cycle < t) es (λ e l. omega (arith, l)) (each_unmapped (moved_event n) (λ (e : Event P A). e.cycle < n + t) es all))
        ∙ sym (ap (λ (f : P → C). f p) (after_moved es s))

  last_early : (t : ℕ) (p : P) (es : List (Event P A)) (s : P → C) → t < n → Each (λ (e : Event P A). e.cycle < t) (all_moved n es) → content same does (all_moved n es) t s p ≡ after same does (all_moved n es) s p
  last_early t p [] s l all = refl
  last_early t p (e ∷ es) s l all = (let c = all.0 in absurd (omega (arith, c, l)))

  pub time_moved : (es : List (Event P A)) (s : P → C) → InTime same does Sees changes es s → InTime same does Sees changes (all_moved n es) s
  time_moved es s h = record {
    finds = each_mapped (moved_event n) (λ e. Sees e.act (content same does (all_moved n es) e.cycle s e.place)) es
        (each_weaker (λ e. Sees e.act (content same does es e.cycle s e.place)) (λ e. Sees e.act (content same does (all_moved n es) (n + e.cycle) s e.place)) es
        (λ e f. subst (λ (g : P → C). Sees e.act (g e.place)) (sym (content_moved es e.cycle s)) f) h.finds);
    next = λ t p. elim (cases_lt t n) [
      | inl l ↦ next_early es s h t p l
      | inr l ↦ subst (λ k. Next es s h k p) (since es s h t l) (next_moved es s h (t - n) p)
    ];
    only = λ t p. elim (cases_lt t n) [
      | inl l ↦ only_early es s h t p l
      | inr l ↦ subst (λ k. Each (Only es s h k p) (all_moved n es)) (since es s h t l) (only_moved es s h (t - n) p)
    ];
    last = λ t p all. elim (cases_lt t n) [
      | inl l ↦ last_early t p es s l all
      | inr l ↦ by_last es s h t p l all
    ];
  }
    where
      by_last : (es : List (Event P A)) (s : P → C) (h : InTime same does Sees changes es s) (t : ℕ) (p : P) → n ≤ t → Each (λ (e : Event P A). e.cycle < t) (all_moved n es) → content same does (all_moved n es) t s p ≡ after same does (all_moved n es) s p
      by_last es s h t p l =
          subst (λ k. Each (λ (e : Event P A). e.cycle < k) (all_moved n es) → content same does (all_moved n es) k s p ≡ after same does (all_moved n es) s p) (since es s h t l) (last_moved es s h (t - n) p)
