-- A queue that a ring of places holds.
use Rattle.std.proofs.Common.{◌≡◌, ℕ, zero, suc, ◌+◌, ◌-◌, ◌<◌, ◌≤◌, ◌==◌, ◌⊎◌, inl, inr, Bool, true, false, ◌&&◌, if◌then◌else◌, List, [], ◌∷◌, ◌++◌, length, slice_index, refl, sym, ap, subst, ◌∙◌, arith, eq-eqb, ne_eqb}
use Rattle.std.proofs.lemmas.List.{length_push, get_or_append_left, get_or_push}
use Rattle.sp_netlist.specs.Signals.{Signals}
use Rattle.sp_gates.specs.Tested.{is_on}
use Rattle.sp_taps.specs.declared.store.Store.{Store}
use Rattle.sp_ring.specs.declared.part.Asked.{Asked}
use Rattle.sp_ring.specs.declared.part.Ring.{Ring}
use Rattle.sp_ring.specs.Places.{wrapped, moved_place}
use Rattle.sp_ring.specs.Rings.{RunsRing, rest_of, queue_after, queue, IsAllowed}
use Rattle.sp_ring.specs.Laws.{HoldsQueue}
use Rattle.sp_ring.proofs.Going.{wrapped_cases}

-- the words stand from the head on
record Held (len head tail : ℕ) (q : List ℕ) (bank : ℕ → ℕ) : Type 0 where
  fits : length q ≤ len
  ends : tail ≡ wrapped len (head + length q)
  words : (i : ℕ) → i < length q → bank (wrapped len (head + i)) ≡ slice_index q i

-- one place further on, from the next head
round : (len head n : ℕ) → head < len → n < len → wrapped len (wrapped len (head + 1) + n) ≡ wrapped len (head + (n + 1))
round len head n l m = go (wrapped_cases len (head + 1)) (wrapped_cases len (wrapped len (head + 1) + n)) (wrapped_cases len (head + (n + 1)))
  where
    go : (((head + 1) < len) × (wrapped len (head + 1) ≡ head + 1)) ⊎ ((len ≤ head + 1) × (wrapped len (head + 1) ≡ head + 1 - len))
        → ((wrapped len (head + 1) + n < len) × (wrapped len (wrapped len (head + 1) + n) ≡ wrapped len (head + 1) + n)) ⊎ ((len ≤ wrapped len (head + 1) + n) × (wrapped len (wrapped len (head + 1) + n) ≡ wrapped len (head + 1) + n - len))
        → ((head + (n + 1) < len) × (wrapped len (head + (n + 1)) ≡ head + (n + 1))) ⊎ ((len ≤ head + (n + 1)) × (wrapped len (head + (n + 1)) ≡ head + (n + 1) - len))
        → wrapped len (wrapped len (head + 1) + n) ≡ wrapped len (head + (n + 1))
    go (inl a) (inl b) (inl c) = omega (arith, a.0, a.1, b.0, b.1, c.0, c.1)
    go (inl a) (inl b) (inr c) = omega (arith, a.0, a.1, b.0, b.1, c.0, c.1)
    go (inl a) (inr b) (inl c) = omega (arith, a.0, a.1, b.0, b.1, c.0, c.1)
    go (inl a) (inr b) (inr c) = omega (arith, a.0, a.1, b.0, b.1, c.0, c.1)
    go (inr a) (inl b) (inl c) = omega (arith, a.0, a.1, b.0, b.1, c.0, c.1, l, m)
    go (inr a) (inl b) (inr c) = omega (arith, a.0, a.1, b.0, b.1, c.0, c.1, l, m)
    go (inr a) (inr b) (inl c) = omega (arith, a.0, a.1, b.0, b.1, c.0, c.1, l, m)
    go (inr a) (inr b) (inr c) = omega (arith, a.0, a.1, b.0, b.1, c.0, c.1, l, m)

-- one place further on, from the end
further : (len head n : ℕ) → head < len → n < len → wrapped len (wrapped len (head + n) + 1) ≡ wrapped len (head + (n + 1))
further len head n l m = go (wrapped_cases len (head + n)) (wrapped_cases len (wrapped len (head + n) + 1)) (wrapped_cases len (head + (n + 1)))
  where
    go : (((head + n) < len) × (wrapped len (head + n) ≡ head + n)) ⊎ ((len ≤ head + n) × (wrapped len (head + n) ≡ head + n - len))
        → ((wrapped len (head + n) + 1 < len) × (wrapped len (wrapped len (head + n) + 1) ≡ wrapped len (head + n) + 1)) ⊎ ((len ≤ wrapped len (head + n) + 1) × (wrapped len (wrapped len (head + n) + 1) ≡ wrapped len (head + n) + 1 - len))
        → ((head + (n + 1) < len) × (wrapped len (head + (n + 1)) ≡ head + (n + 1))) ⊎ ((len ≤ head + (n + 1)) × (wrapped len (head + (n + 1)) ≡ head + (n + 1) - len))
        → wrapped len (wrapped len (head + n) + 1) ≡ wrapped len (head + (n + 1))
    go (inl a) (inl b) (inl c) = omega (arith, a.0, a.1, b.0, b.1, c.0, c.1)
    go (inl a) (inl b) (inr c) = omega (arith, a.0, a.1, b.0, b.1, c.0, c.1)
    go (inl a) (inr b) (inl c) = omega (arith, a.0, a.1, b.0, b.1, c.0, c.1)
    go (inl a) (inr b) (inr c) = omega (arith, a.0, a.1, b.0, b.1, c.0, c.1)
    go (inr a) (inl b) (inl c) = omega (arith, a.0, a.1, b.0, b.1, c.0, c.1, l, m)
    go (inr a) (inl b) (inr c) = omega (arith, a.0, a.1, b.0, b.1, c.0, c.1, l, m)
    go (inr a) (inr b) (inl c) = omega (arith, a.0, a.1, b.0, b.1, c.0, c.1, l, m)
    go (inr a) (inr b) (inr c) = omega (arith, a.0, a.1, b.0, b.1, c.0, c.1, l, m)

-- places of two words differ, and are places
apart : (len head i n : ℕ) → head < len → i < n → n < len → wrapped len (head + n) ≡ wrapped len (head + i) → ⊥
apart len head i n l k m = go (wrapped_cases len (head + n)) (wrapped_cases len (head + i))
  where
    go : (((head + n) < len) × (wrapped len (head + n) ≡ head + n)) ⊎ ((len ≤ head + n) × (wrapped len (head + n) ≡ head + n - len))
        → (((head + i) < len) × (wrapped len (head + i) ≡ head + i)) ⊎ ((len ≤ head + i) × (wrapped len (head + i) ≡ head + i - len)) → wrapped len (head + n) ≡ wrapped len (head + i) → ⊥
    go (inl a) (inl b) e = absurd (omega (arith, a.1, b.1, e, k))
    go (inl a) (inr b) e = absurd (omega (arith, a.0, b.0, k))
    go (inr a) (inl b) e = absurd (omega (arith, a.0, a.1, b.0, b.1, e, k, l, m))
    go (inr a) (inr b) e = absurd (omega (arith, a.0, a.1, b.0, b.1, e, k))

a_place : (len head n : ℕ) → head < len → n < len → wrapped len (head + n) < len
a_place len head n l m = go (wrapped_cases len (head + n))
  where
    go : (((head + n) < len) × (wrapped len (head + n) ≡ head + n)) ⊎ ((len ≤ head + n) × (wrapped len (head + n) ≡ head + n - len)) → wrapped len (head + n) < len
    go (inl a) = omega (arith, a.0, a.1)
    go (inr a) = omega (arith, a.0, a.1, l, m)

-- nothing stands in a ring that is made fresh
emptied : (len : ℕ) (bank : ℕ → ℕ) → 0 < len → Held len 0 0 [] bank
emptied len bank some = record {
  fits = omega (arith, some);
  ends = go (wrapped_cases len (0 + 0));
  words = λ i l. absurd (omega (arith, l));
}
  where
    go : (((0 + 0) < len) × (wrapped len (0 + 0) ≡ 0 + 0)) ⊎ ((len ≤ 0 + 0) × (wrapped len (0 + 0) ≡ 0 + 0 - len)) → 0 ≡ wrapped len (0 + 0)
    go (inl a) = omega (arith, a.1)
    go (inr a) = absurd (omega (arith, a.0, some))

taken : (len head tail : ℕ) (q : List ℕ) (bank : ℕ → ℕ) → head < len → 0 < length q → Held len head tail q bank → Held len (wrapped len (head + 1)) tail (rest_of q) bank
taken len head tail [] bank l some h = absurd (omega (arith, some))
taken len head tail (x ∷ xs) bank l some h =
    let fits = h.fits in
    record {
      fits = omega (arith, fits);
      ends = h.ends ∙ ap (λ n. wrapped len (head + n)) (omega arith) ∙ sym (round len head (length xs) l (omega (arith, fits)));
      words = λ i m.
          ap bank (round len head i l (omega (arith, fits, m)) ∙ ap (λ n. wrapped len (head + n)) (omega arith))
          ∙ h.words (suc i) (omega (arith, m));
    }

put : (len head tail word : ℕ) (q : List ℕ) (bank new : ℕ → ℕ) → head < len → length q < len → ((place : ℕ) → place < len → new place ≡ (if tail == place then word else bank place)) → Held len head tail q bank
    → Held len head (wrapped len (tail + 1)) (q ++ word ∷ []) new
put len head tail word q bank new l room goes h =
    let long = length_push q word in
    record {
      fits = omega (arith, long, room);
      ends = ap (λ n. wrapped len (n + 1)) h.ends ∙ further len head (length q) l room ∙ ap (λ n. wrapped len (head + n)) (sym long);
      words = λ i m. go i (split i (omega (arith, m, long)));
    }
  where
    split : (i : ℕ) → i < length q + 1 → (i < length q) ⊎ (i ≡ length q)
    split i m = grind arith

    go : (i : ℕ) → (i < length q) ⊎ (i ≡ length q) → new (wrapped len (head + i)) ≡ slice_index (q ++ word ∷ []) i
    go i (inl below) =
        goes (wrapped len (head + i)) (a_place len head i l (omega (arith, below, room)))
        ∙ ap (λ (b : Bool). if b then word else bank (wrapped len (head + i))) (ne_eqb tail (wrapped len (head + i)) (λ e. apart len head i (length q) l below room (sym h.ends ∙ e)))
        ∙ h.words i below
        ∙ sym (get_or_append_left q (word ∷ []) 0 i below)
    go i (inr same) =
        let here : tail ≡ wrapped len (head + i) = h.ends ∙ ap (λ n. wrapped len (head + n)) (sym same) in
        goes (wrapped len (head + i)) (a_place len head i l (omega (arith, same, room)))
        ∙ ap (λ (b : Bool). if b then word else bank (wrapped len (head + i))) (eq-eqb tail (wrapped len (head + i)) here)
        ∙ sym (get_or_push q word 0 i (sym same))

kept : (len head tail : ℕ) (q : List ℕ) (bank new : ℕ → ℕ) → head < len → ((place : ℕ) → place < len → new place ≡ bank place) → Held len head tail q bank → Held len head tail q new
kept len head tail q bank new l same h = record {
  fits = h.fits;
  ends = h.ends;
  words = λ i m. let fits = h.fits in same (wrapped len (head + i)) (a_place len head i l (omega (arith, m, fits))) ∙ h.words i m;
}

rest_below : (q : List ℕ) (len : ℕ) → length q < len → length (rest_of q) < len
rest_below [] len l = l
rest_below (x ∷ xs) len l = omega (arith, l)

head_below : (len head : ℕ) → head < len → wrapped len (head + 1) < len
head_below len head l = go (wrapped_cases len (head + 1))
  where
    go : (((head + 1) < len) × (wrapped len (head + 1) ≡ head + 1)) ⊎ ((len ≤ head + 1) × (wrapped len (head + 1) ≡ head + 1 - len)) → wrapped len (head + 1) < len
    go (inl a) = omega (arith, a.0, a.1)
    go (inr a) = omega (arith, a.0, a.1, l)

one_cycle : (len head tail word : ℕ) (fresh puts takes : Bool) (q : List ℕ) (bank new : ℕ → ℕ) → head < len → (puts ≡ true → length q < len) → (takes ≡ true → 0 < length q)
    → ((place : ℕ) → place < len → new place ≡ (if puts && (tail == place) then word else bank place)) → Held len head tail q bank
    → Held len (moved_place len fresh takes head) (moved_place len fresh puts tail) (queue_after fresh puts takes word q) new
one_cycle len head tail word true puts takes q bank new l room some goes h = emptied len new (omega (arith, l))
one_cycle len head tail word false true true q bank new l room some goes h =
    put len (wrapped len (head + 1)) tail word (rest_of q) bank new (head_below len head l) (rest_below q len (room refl)) goes (taken len head tail q bank l (some refl) h)
one_cycle len head tail word false true false q bank new l room some goes h = put len head tail word q bank new l (room refl) goes h
one_cycle len head tail word false false true q bank new l room some goes h =
    kept len (wrapped len (head + 1)) tail (rest_of q) bank new (head_below len head l) goes (taken len head tail q bank l (some refl) h)
one_cycle len head tail word false false false q bank new l room some goes h = kept len head tail q bank new l goes h

at_places : (len a b c d : ℕ) (q : List ℕ) (bank : ℕ → ℕ) → a ≡ c → b ≡ d → Held len c d q bank → Held len a b q bank
at_places len a b c d q bank e f h = subst (λ x. Held len x b q bank) (sym e) (subst (λ y. Held len c y q bank) (sym f) h)

module _ (s : Signals) (bank len : ℕ) (store : Store) (asked : Asked) (ring : Ring) (h : RunsRing s bank len store asked ring) where
  held : (t : ℕ) → ((u : ℕ) → u < t → IsAllowed s len asked u) → Held len (s.net t ring.head) (s.net t ring.tail) (queue s asked t) (s.bank t bank)
  held zero allowed = at_places len _ _ 0 0 [] (s.bank 0 bank) h.head.begins h.tail.begins (emptied len (s.bank 0 bank) (let b = h.head.below 0 in omega (arith, b)))
  held (suc t) allowed =
      let now = allowed t (omega arith) in
      at_places len _ _ _ _ (queue s asked (suc t)) (s.bank (suc t) bank) (h.head.goes t) (h.tail.goes t)
      (one_cycle len (s.net t ring.head) (s.net t ring.tail) (s.net t asked.word) (is_on s asked.fresh t) (is_on s asked.put t) (is_on s asked.take t) (queue s asked t) (s.bank t bank) (s.bank (suc t) bank)
      (h.head.below t) now.room now.some (λ place l. h.served.goes t place l) (held t (λ u l. allowed u (omega (arith, l)))))

  pub holds : (t : ℕ) → ((u : ℕ) → u < t → IsAllowed s len asked u) → HoldsQueue s bank len asked ring t
  holds t allowed = let q = held t allowed in record { fits = q.fits; ends = q.ends; words = q.words }

  pub takes : (t : ℕ) → ((u : ℕ) → u < suc t → IsAllowed s len asked u) → is_on s asked.take t ≡ true → s.net (suc t) store.found ≡ slice_index (queue s asked t) 0
  takes t allowed on =
      let q = held t (λ u l. allowed u (omega (arith, l))) in
      let some = (allowed t (omega arith)).some on in
      h.served.finds t on ∙ ap (s.bank t bank) (first (wrapped_cases len (s.net t ring.head + 0)) (h.head.below t)) ∙ q.words 0 some
    where
      first : ((s.net t ring.head + 0 < len) × (wrapped len (s.net t ring.head + 0) ≡ s.net t ring.head + 0)) ⊎ ((len ≤ s.net t ring.head + 0) × (wrapped len (s.net t ring.head + 0) ≡ s.net t ring.head + 0 - len)) → s.net t ring.head < len
          → s.net t ring.head ≡ wrapped len (s.net t ring.head + 0)
      first (inl a) l = omega (arith, a.1)
      first (inr a) l = absurd (omega (arith, a.0, l))
