-- The worked output and queue.
use Rattle.std.proofs.Common.{◌≡◌, ℕ, ◌≤◌, ◌==◌, Bool, true, false, if◌then◌else◌, inl, inr, [], ◌∷◌, nat_eq, None, refl, sym, ap, subst}
use Rattle.std.specs.List.{Contains}
use Rattle.std.proofs.lemmas.Bool.{eqb-true, and_parts, true≢false}
use Rattle.sp_gates.specs.Tested.{is_on}
use Rattle.sp_core.specs.Events.{writes, Moment}
use Rattle.sp_machine.specs.Stamps.{Stamped}
use Rattle.sp_mem.specs.Copies.{is_at}
use Rattle.sp_memory_words.specs.Moments.{IsAt, Writes}
use Rattle.sp_memory_words.specs.Asked.{AreMade}
use Rattle.sp_memory_words.specs.Example.{worked_output, worked_queue, event_at, one_write, worked_waves, WorkedWords}
use Rattle.sp_memory_words.proofs.Finding.{none_there, here, first_or_later}

-- the one event
at_event : (t c : ℕ) (x : Moment) → IsAt one_write t c x → (t ≡ 2) × (c ≡ 0) × (x ≡ (event_at 2 1 (writes 7)).moment)
at_event t c x h = elim (first_or_later (event_at 2 1 (writes 7)) (record { cycle = t; copy = c; moment = x }) [] h) [
  | inl e ↦ (sym (ap (λ (y : Stamped). y.cycle) e), sym (ap (λ (y : Stamped). y.copy) e), sym (ap (λ (y : Stamped). y.moment) e))
  | inr k ↦ absurd (none_there _ k)
]

only_net : (n : ℕ) → Contains (0 ∷ []) n → n ≡ 0
only_net n h = elim (first_or_later 0 n [] h) [
  | inl e ↦ sym e
  | inr k ↦ absurd (none_there n k)
]

on_in : (t : ℕ) → is_on worked_waves 0 t ≡ true → t ≡ 2
on_in t h = by (nat_eq t 2) refl h
  where
    by : (b : Bool) → nat_eq t 2 ≡ b → ((if b then 1 else 0) == 1) ≡ true → t ≡ 2
    by true q k = eqb-true t 2 q
    by false q k = absurd (true≢false (sym k))

asked : (last : ℕ) → AreMade worked_waves one_write last (λ n. n) (λ n. None) (λ x. (word : ℕ) × Writes 0 word x) (λ t n. Writes 0 (worked_waves.net t 1)) (0 ∷ [])
asked last = record { made = made; only = only }
  where
    made : (t c : ℕ) (x : Moment) → t ≤ last → IsAt one_write t c x → (word : ℕ) × Writes 0 word x → (a : ℕ) × Contains (0 ∷ []) a × (is_at worked_waves t a None c ≡ true)
    made t c x l there h =
        let e = at_event t c x there in
        (0, here 0 0 [] refl, subst (λ u. is_at worked_waves u 0 None c ≡ true) (sym e.0) (subst (λ d. is_at worked_waves 2 0 None d ≡ true) (sym e.1) refl))

    only : (t c a : ℕ) → t ≤ last → Contains (0 ∷ []) a → is_at worked_waves t a None c ≡ true → (x : Moment) × IsAt one_write t c x × Writes 0 (worked_waves.net t 1) x
    only t c a l k h =
        let z = only_net a k in
        let parts = and_parts (is_on worked_waves 0 t) (0 == c) (subst (λ n. is_at worked_waves t n None c ≡ true) z h) in
        let same : event_at 2 1 (writes 7) ≡ record { cycle = t; copy = c; moment = (event_at 2 1 (writes 7)).moment } =
        (let e1 : 2 ≡ t = sym (on_in t parts.0) in let e2 : 0 ≡ c = eqb-true 0 c parts.1 in λ i. record { cycle = e1 i; copy = e2 i; moment = (event_at 2 1 (writes 7)).moment }) in
        ((event_at 2 1 (writes 7)).moment, here (event_at 2 1 (writes 7)) _ [] same, (refl, refl))

pub worked : WorkedWords
unfolding worked_output worked_queue
worked = record { asked = asked; before = refl; after = refl; empty = refl; one = refl; two = refl; last = refl }
