-- What stands at a place in a cycle, where events at one place come one after the other.
use Rattle.std.proofs.Common.{◌≡◌, ℕ, suc, ◌<◌, ◌≤◌, Bool, true, false, cond, ◌&&◌, IsTrue, Decides, List, [], ◌∷◌, ◌++◌, nat_eq, Some, refl, sym, ◌∙◌, ap, ap₂, subst, inl, inr, arith, lt-ltb, le-ltb}
use Rattle.std.proofs.lemmas.Bool.{cases_Bool, cases_lt, eqb-true, eq-eqb, and_parts, and_from, true≢false}
use Rattle.sp_time.specs.Events.{Event, before, put, after, content, Follows, Finds, Waits, change_at, changed_by, InTime}
use Rattle.sp_time.specs.Laws.{ContentsInTime}
use Rattle.sp_time.specs.Lists.{Each, Pairs}
use Rattle.sp_time.specs.Places.{Place, is_place, Act, does as acts, Sees as Needs, changes as alters, read, write, clear, enq, deq, empty}
use Rattle.sp_time.proofs.ListLemmas.{each_map, each_map2}

module _ {P C A : Type 0} (same : P → P → Bool) (does : A → C → C) (changes : A → Bool) (test : (p q : P) → Decides (same p q) (p ≡ q)) (still : (a : A) (c : C) → changes a ≡ false → does a c ≡ c) where
  put-same : (e : Event P A) (s : P → C) (p : P) → same e.place p ≡ true → put same does e s p ≡ does e.act (s p)
  put-same e s p h = ap (λ b. cond b (does e.act (s p)) (s p)) h

  put-other : (e : Event P A) (s : P → C) (p : P) → same e.place p ≡ false → put same does e s p ≡ s p
  put-other e s p h = ap (λ b. cond b (does e.act (s p)) (s p)) h

  put-still : (e : Event P A) (s : P → C) (p : P) → (e.place ≡ p → IsTrue (changes e.act) → ⊥) → put same does e s p ≡ s p
  put-still e s p h = elim (cases_Bool (same e.place p)) [
    | inr off ↦ put-other e s p off
    | inl at ↦ elim (cases_Bool (changes e.act)) [
      | inl c ↦ absurd (h ((test e.place p).0 at) c)
      | inr c ↦ put-same e s p at ∙ still e.act (s p) c
    ]
  ]

  -- what stands at a place afterwards is a matter of what stands there before
  after_local : (es : List (Event P A)) (s u : P → C) (p : P) → s p ≡ u p → after same does es s p ≡ after same does es u p
  after_local [] s u p h = h
  after_local (e ∷ es) s u p h = after_local es (put same does e s) (put same does e u) p (ap (λ c. cond (same e.place p) (does e.act c) c) h)

  content_local : (es : List (Event P A)) (t : ℕ) (s u : P → C) (p : P) → s p ≡ u p → content same does es t s p ≡ content same does es t u p
  content_local es t s u p h = after_local (before t es) s u p h

  content-in : (e : Event P A) (es : List (Event P A)) (t : ℕ) (s : P → C) (p : P) → e.cycle < t → content same does (e ∷ es) t s p ≡ content same does es t (put same does e s) p
  content-in e es t s p h = ap (λ b. after same does (cond b (e ∷ before t es) (before t es)) s p) (lt-ltb e.cycle t h)

  content-out : (e : Event P A) (es : List (Event P A)) (t : ℕ) (s : P → C) (p : P) → t ≤ e.cycle → content same does (e ∷ es) t s p ≡ content same does es t s p
  content-out e es t s p h = ap (λ b. after same does (cond b (e ∷ before t es) (before t es)) s p) (le-ltb e.cycle t h)

  -- where the changes of a place come no earlier, it has what it had
  unchanged : (es : List (Event P A)) (t : ℕ) (s : P → C) (p : P) → Each (λ e. e.place ≡ p → IsTrue (changes e.act) → t ≤ e.cycle) es → content same does es t s p ≡ s p
  unchanged [] t s p h = refl
  unchanged (e ∷ es) t s p h = elim (cases_lt e.cycle t) [
    | inl lt ↦ content-in e es t s p lt ∙ unchanged es t (put same does e s) p h.1 ∙ put-still e s p (λ at c. absurd (omega (arith, h.0 at c)))
    | inr ge ↦ content-out e es t s p ge ∙ unchanged es t s p h.1
  ]

  -- where all come earlier, it has what it has in the end
  all_earlier : (es : List (Event P A)) (t : ℕ) (s : P → C) (p : P) → Each (λ e. e.cycle < t) es → content same does es t s p ≡ after same does es s p
  all_earlier [] t s p h = refl
  all_earlier (e ∷ es) t s p h = content-in e es t s p h.0 ∙ all_earlier es t (put same does e s) p h.1

  -- where those that make changes come earlier it has what it has in the end
  changes_earlier : (es : List (Event P A)) (t : ℕ) (s : P → C) (p : P) → Each (λ e. e.place ≡ p → IsTrue (changes e.act) → e.cycle < t) es → content same does es t s p ≡ after same does es s p
  changes_earlier [] t s p h = refl
  changes_earlier (e ∷ es) t s p h = elim (cases_lt e.cycle t) [
    | inl lt ↦ content-in e es t s p lt ∙ changes_earlier es t (put same does e s) p h.1
    | inr ge ↦ content-out e es t s p ge ∙ changes_earlier es t s p h.1 ∙ after_local es s (put same does e s) p (sym (put-still e s p (λ at c. absurd (omega (arith, h.0 at c)))))
  ]

  -- between events and those after them: what stands at a place is what the former left there
  pub content_between : (es fs : List (Event P A)) (t : ℕ) (s : P → C) (p : P) → Each (λ e. e.place ≡ p → IsTrue (changes e.act) → e.cycle < t) es → Each (λ f. f.place ≡ p → IsTrue (changes f.act) → t ≤ f.cycle) fs → content same does (es ++ fs) t s p ≡ after same does es s p
  content_between [] fs t s p h k = unchanged fs t s p k
  content_between (e ∷ es) fs t s p h k = elim (cases_lt e.cycle t) [
    | inl lt ↦ content-in e (es ++ fs) t s p lt ∙ content_between es fs t (put same does e s) p h.1 k
    | inr ge ↦ content-out e (es ++ fs) t s p ge ∙ content_between es fs t s p h.1 k ∙ after_local es s (put same does e s) p (sym (put-still e s p (λ at c. absurd (omega (arith, h.0 at c)))))
  ]

  -- an event that comes first makes no difference to one that waits for it, but for what it did
  one_before : (e f : Event P A) (es : List (Event P A)) (s : P → C) → Waits changes e f → content same does (e ∷ es) f.cycle s f.place ≡ content same does es f.cycle (put same does e s) f.place
  one_before e f es s w = elim (cases_lt e.cycle f.cycle) [
    | inl lt ↦ content-in e es f.cycle s f.place lt
    | inr ge ↦ content-out e es f.cycle s f.place ge ∙ content_local es f.cycle s (put same does e s) f.place (sym (put-still e s f.place (λ at c. absurd (omega (arith, w.for_change at c)))))
  ]

  module _ (Sees : A → C → Type 0) where
    finds : (es : List (Event P A)) (s : P → C) → Pairs (Waits changes) es → Follows same does Sees es s → Finds same does Sees es s
    finds [] s h f = tt
    finds (e ∷ es) s h f = (
      subst (Sees e.act) (sym (content-out e es e.cycle s e.place (omega arith) ∙ unchanged es e.cycle s e.place (each_map _ _ (λ g w at c. w.for_look (sym at) c) es h.0))) f.0,
      each_map2 (Waits changes e) (λ g. Sees g.act (content same does es g.cycle (put same does e s) g.place)) (λ g. Sees g.act (content same does (e ∷ es) g.cycle s g.place)) (λ g w k. subst (Sees g.act) (sym (one_before e g es s w)) k) es h.0 (finds es (put same does e s) h.1 f.1),
    )

  -- whether an event is a change at a place in a cycle
  abbrev is_change : ℕ → P → Event P A → Bool
  is_change t p e = nat_eq e.cycle t && (same e.place p && changes e.act)

  is_change-true : (t : ℕ) (p : P) (e : Event P A) → e.cycle ≡ t → e.place ≡ p → IsTrue (changes e.act) → is_change t p e ≡ true
  is_change-true t p e at here c = and_from _ _ (eq-eqb e.cycle t at) (and_from _ _ ((test e.place p).1 here) c)

  change_at-here : (e : Event P A) (es : List (Event P A)) (t : ℕ) (p : P) → is_change t p e ≡ true → change_at changes same (e ∷ es) t p ≡ Some e.act
  change_at-here e es t p h = ap (λ b. cond b (Some e.act) (change_at changes same es t p)) h

  change_at-later : (e : Event P A) (es : List (Event P A)) (t : ℕ) (p : P) → is_change t p e ≡ false → change_at changes same (e ∷ es) t p ≡ change_at changes same es t p
  change_at-later e es t p h = ap (λ b. cond b (Some e.act) (change_at changes same es t p)) h

  module _ (e : Event P A) (es : List (Event P A)) (s : P → C) (p : P) (first : Each (Waits changes e) es) where
    later_here : e.place ≡ p → IsTrue (changes e.act) → Each (λ g. g.place ≡ p → IsTrue (changes g.act) → suc e.cycle ≤ g.cycle) es
    later_here here c = each_map _ _ (λ g w at d. w.for_change (here ∙ sym at) c) es first

    later_still : e.place ≡ p → IsTrue (changes e.act) → Each (λ g. g.place ≡ p → IsTrue (changes g.act) → e.cycle ≤ g.cycle) es
    later_still here c = each_map _ _ (λ g w at d. w.for_look (here ∙ sym at) d) es first

    -- the cycle of a change
    next_here : (t : ℕ) → e.cycle ≡ t → e.place ≡ p → IsTrue (changes e.act) → content same does (e ∷ es) (suc t) s p ≡ does e.act (content same does (e ∷ es) t s p)
    next_here t at here c = subst (λ n. content same does (e ∷ es) (suc n) s p ≡ does e.act (content same does (e ∷ es) n s p)) at
        (content-in e es (suc e.cycle) s p (omega arith)
        ∙ unchanged es (suc e.cycle) (put same does e s) p (later_here here c)
        ∙ put-same e s p ((test e.place p).1 here)
        ∙ ap (does e.act) (sym (content-out e es e.cycle s p (omega arith) ∙ unchanged es e.cycle s p (later_still here c))))

  -- a cycle makes its change, and no other one
  next : (es : List (Event P A)) (t : ℕ) (s : P → C) (p : P) → Pairs (Waits changes) es → content same does es (suc t) s p ≡ changed_by does (change_at changes same es t p) (content same does es t s p)
  next [] t s p h = refl
  next (e ∷ es) t s p h = elim (cases_Bool (is_change t p e)) [
    | inl here ↦
        let parts = and_parts _ _ here in
        let more = and_parts _ _ parts.1 in
        next_here e es s p h.0 t (eqb-true e.cycle t parts.0) ((test e.place p).0 more.0) more.1
        ∙ ap (λ o. changed_by does o (content same does (e ∷ es) t s p)) (sym (change_at-here e es t p here))
    | inr off ↦ elim (cases_lt e.cycle t) [
      | inl lt ↦
          content-in e es (suc t) s p (omega arith) ∙ next es t (put same does e s) p h.1
          ∙ ap₂ (changed_by does) (sym (change_at-later e es t p off)) (sym (content-in e es t s p lt))
      | inr ge ↦
          let quiet : content same does (e ∷ es) (suc t) s p ≡ content same does es (suc t) s p = elim (cases_lt e.cycle (suc t)) [
            | inl le ↦ content-in e es (suc t) s p le ∙ content_local es (suc t) (put same does e s) s p (put-still e s p (λ here c. true≢false (sym (is_change-true t p e (omega arith) here c) ∙ off)))
            | inr gt ↦ content-out e es (suc t) s p gt
          ] in
          quiet ∙ next es t s p h.1 ∙ ap₂ (changed_by does) (sym (change_at-later e es t p off)) (sym (content-out e es t s p ge))
    ]
  ]

  only : (es : List (Event P A)) (t : ℕ) (p : P) → Pairs (Waits changes) es → Each (λ e. e.cycle ≡ t → e.place ≡ p → IsTrue (changes e.act) → change_at changes same es t p ≡ Some e.act) es
  only [] t p h = tt
  only (e ∷ es) t p h = (
    λ at here c. change_at-here e es t p (is_change-true t p e at here c),
    each_map2 (Waits changes e) (λ g. g.cycle ≡ t → g.place ≡ p → IsTrue (changes g.act) → change_at changes same es t p ≡ Some g.act) (λ g. g.cycle ≡ t → g.place ≡ p → IsTrue (changes g.act) → change_at changes same (e ∷ es) t p ≡ Some g.act)
        (λ g w k at here c. elim (cases_Bool (is_change t p e)) [
          | inl both ↦
              let parts : (nat_eq e.cycle t ≡ true) × ((same e.place p && changes e.act) ≡ true) = and_parts _ _ both in
              let more : (same e.place p ≡ true) × (changes e.act ≡ true) = and_parts _ _ parts.1 in
              let lt : e.cycle < g.cycle = w.for_change ((test e.place p).0 more.0 ∙ sym here) more.1 in
              absurd (omega (arith, eqb-true e.cycle t parts.0))
          | inr off ↦ change_at-later e es t p off ∙ k at here c
        ]) es h.0 (only es t p h.1),
  )

  pub in_time : (Sees : A → C → Type 0) (es : List (Event P A)) (s : P → C) → Pairs (Waits changes) es → Follows same does Sees es s → InTime same does Sees changes es s
  in_time Sees es s h f = record {
    finds = finds Sees es s h f;
    next = λ t p. next es t s p h;
    only = λ t p. only es t p h;
    last = λ t p. all_earlier es t s p;
  }

pub place_test : (p q : Place) → Decides (is_place p q) (p ≡ q)
place_test p q = (
  λ h. let a = and_parts _ _ h in let b = and_parts _ _ a.1 in
      let e1 : p.mem ≡ q.mem = eqb-true _ _ a.0 in let e2 : p.copy ≡ q.copy = eqb-true _ _ b.0 in let e3 : p.element ≡ q.element = eqb-true _ _ b.1 in
      λ i. record { mem = e1 i; copy = e2 i; element = e3 i },
  λ e. and_from _ _ (eq-eqb _ _ (ap (λ r. r.mem) e)) (and_from _ _ (eq-eqb _ _ (ap (λ r. r.copy) e)) (eq-eqb _ _ (ap (λ r. r.element) e))),
)

pub still_acts : (a : Act) (h : _) → alters a ≡ false → acts a h ≡ h
still_acts (read w) h e = refl
still_acts (write w) h e = absurd (true≢false e)
still_acts clear h e = absurd (true≢false e)
still_acts (enq d w) h e = absurd (true≢false e)
still_acts (deq w) h e = absurd (true≢false e)
still_acts empty h e = absurd (true≢false e)

pub contents_in_time : ContentsInTime
contents_in_time es s h f = in_time is_place acts alters place_test still_acts Needs es s h f
