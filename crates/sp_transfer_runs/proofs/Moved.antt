-- A slice that moves, over all runs of its transfer.
use Rattle.std.proofs.Common.{◌≡◌, ℕ, zero, suc, ◌+◌, ◌-◌, ◌<◌, ◌≤◌, Bool, true, false, ◌&&◌, ◌||◌, not, nat_lt, List, refl, sym, ap, ap₂, subst, ◌∙◌, arith}
use Rattle.std.specs.List.{Contains}
use Rattle.std.proofs.lemmas.Bool.{ltb-true, lt-ltb}
use Rattle.sp_netlist.specs.Signals.{Signals}
use Rattle.sp_gates.specs.Tested.{is_on}
use Rattle.sp_core.specs.History.{Taken}
use Rattle.sp_machine.specs.Transfers.{word_cycle, transfer_took}
use Rattle.sp_part_runs.specs.BodiesRuns.{IsOnAt}
use Rattle.sp_xfer.specs.declared.part.Moving.{Moving}
use Rattle.sp_xfer.specs.declared.part.Wires.{Wires}
use Rattle.sp_xfer.specs.Moving.{MovesSlice, moves_at, ends_at}
use Rattle.sp_node_runs.specs.BodiesSpans.{SpanNets, HaveSpans}
use Rattle.sp_transfer_runs.specs.Words.{moves_of, IsSlice, count_of, MovesWord, StartedAt, SlicesAreWords}
use Rattle.sp_transfer_runs.proofs.Cycles.{two_on, took_is, word_within}
use Rattle.sp_transfer_runs.proofs.Numbers.{and_parts}
use Rattle.sp_transfer_runs.proofs.Passing.{by_bit, by_order, StartsAt, MovesAt, Apart, quiet, steps_are}

pub not_less : (a b : ℕ) → b ≤ a → nat_lt a b ≡ false
not_less a b l = by_bit (nat_lt a b) (λ e. absurd (let h = ltb-true a b e in omega (arith, h, l))) (λ e. e)

pub is_less : (a b : ℕ) → a < b → nat_lt a b ≡ true
is_less a b l = lt-ltb a b l

last_one : (j n : ℕ) → j < n → not (nat_lt (suc j) n) ≡ true → n ≡ suc j
last_one j n l e = by_order n (suc j) (λ x. absurd (omega (arith, l, x))) (λ x. absurd (let f = sym (ap not (is_less (suc j) n x)) ∙ e in cc)) (λ x. x)

no_word : (n : ℕ) → not (nat_lt 0 n) ≡ true → n ≡ 0
no_word zero e = refl
no_word (suc n) e = absurd (let f = sym (ap not (is_less 0 (suc n) (omega arith))) ∙ e in cc)

pub or_right : (a b : Bool) → b ≡ true → (a || b) ≡ true
or_right true b e = refl
or_right false b e = e

pub or_left_off : (a b : Bool) → a ≡ false → (a || b) ≡ b
or_left_off a b e = ap (λ x. x || b) e

module _ {R : Type 0} (cycle num : R → ℕ) (delay : R → ℕ → ℕ) (taken : R → List Taken) (runs : List R) (apart : Apart cycle num delay runs) where
  abbrev pub EndsAt : (t : ℕ) → Type 0
  EndsAt t = (r : R) × Contains runs r × (suc t ≡ cycle r + transfer_took (delay r) (num r))

  -- a run with a word is asked for in the cycle after its start
  abbrev pub AsksAt : (t : ℕ) → Type 0
  AsksAt t = (r : R) × Contains runs r × (0 < num r) × (t ≡ suc (cycle r))

  module _ (law : SlicesAreWords) (s : Signals) (wires : Wires) (dims : List ℕ) (nets : List SpanNets) (m : Moving) (h : MovesSlice s wires dims (moves_of nets) m)
      (slices : (r : R) → Contains runs r → IsSlice dims (taken r)) (same : (r : R) → Contains runs r → num r ≡ count_of (taken r)) (last : ℕ) (have : (r : R) → Contains runs r → cycle r ≤ last → HaveSpans s (cycle r) nets (taken r))
      (ready : IsOnAt (is_on s wires.ready) (MovesAt cycle num delay runs) last) (upto : ℕ) (in_time : upto ≤ last) (starts : IsOnAt (is_on s wires.start) (StartsAt cycle num delay runs) upto) where
    started : (r : R) → Contains runs r → cycle r ≤ upto → is_on s wires.start (cycle r) ≡ true
    started r c l = starts.on (cycle r) l (r, c, refl)

    nets_stand : (r : R) → Contains runs r → cycle r ≤ upto → HaveSpans s (cycle r) nets (taken r)
    nets_stand r c l = have r c (omega (arith, l, in_time))

    -- where a word moves
    pub at_word : (r : R) → Contains runs r → (j : ℕ) → j < num r → cycle r + word_cycle (delay r) j ≤ upto → MovesWord s wires dims (moves_of nets) m (taken r) j (cycle r + word_cycle (delay r) j)
    at_word r c j l k =
        let two = two_on (delay r) j in
        let w = word_within (delay r) j (num r) l in
        let n : ℕ = word_cycle (delay r) j - 1 in
        let e : suc n ≡ word_cycle (delay r) j = omega (arith, two) in
        let here : cycle r + 1 + n ≡ cycle r + word_cycle (delay r) j = omega (arith, e) in
        let began : StartedAt s wires.start (cycle r) (cycle r + 1 + n) = record {
          started = started r c (omega (arith, k, two));
          quiet = λ t a b. quiet cycle num delay runs apart (is_on s wires.start) upto starts r c t a (omega (arith, b, w, here)) (omega (arith, b, k, here));
        } in
        let now = law.moves s wires dims nets m (taken r) (cycle r) n h (nets_stand r c (omega (arith, k, two))) (slices r c) began in
        let steps = steps_are cycle num delay runs apart (is_on s wires.ready) last ready r c j l n e (omega (arith, k, in_time, here)) in
        subst (λ t. MovesWord s wires dims (moves_of nets) m (taken r) j t) here (subst (λ x. MovesWord s wires dims (moves_of nets) m (taken r) x (cycle r + 1 + n)) steps now)

    counted : (r : R) → Contains runs r → (j : ℕ) → j < num r → j < count_of (taken r)
    counted r c j l = subst (λ n. j < n) (same r c) l

    -- it moves in no other cycle
    pub moved : IsOnAt (is_on s m.moved) (MovesAt cycle num delay runs) upto
    moved = record {
      on = λ t l x. let (r, j, c, k, e) = x in h.moved t ∙ ap₂ (λ a b. a && b) (ready.on t (omega (arith, l, in_time)) x)
          (ap (is_on s m.walk.counted.more) e ∙ (at_word r c j k (subst (λ u. u ≤ upto) e l)).at.more ∙ is_less j (count_of (taken r)) (counted r c j k));
      only = λ t l e. ready.only t (omega (arith, l, in_time)) (and_parts (is_on s wires.ready t) (is_on s m.walk.counted.more t) (sym (h.moved t) ∙ e)).0;
    }

    -- the slice is asked for
    asks_in : (r : R) → Contains runs r → cycle r ≤ upto → is_on s wires.request (suc (cycle r)) ≡ nat_lt 0 (num r)
    asks_in r c l = law.asks s wires dims nets m (taken r) (cycle r) h (nets_stand r c l) (slices r c) (started r c l) ∙ ap (nat_lt 0) (sym (same r c))

    pub asks : IsOnAt (is_on s wires.request) AsksAt upto
    asks = record {
      on = λ t l x. let (r, c, k, e) = x in ap (is_on s wires.request) e ∙ asks_in r c (omega (arith, l, e)) ∙ is_less 0 (num r) k;
      only = λ t l e. only t l e;
    }
      where
        only : (t : ℕ) → t ≤ upto → is_on s wires.request t ≡ true → AsksAt t
        only zero l e = absurd (let f = sym (h.request zero) ∙ e in cc)
        only (suc t) l e =
            let on = (and_parts (is_on s wires.start t) (is_on s m.walk.counted.more (suc t)) (sym (h.request (suc t)) ∙ e)).0 in
            let (r, c, is) = starts.only t (omega (arith, l)) on in
            (r, c, ltb-true 0 (num r) (sym (asks_in r c (omega (arith, l, is))) ∙ ap (λ u. is_on s wires.request (suc u)) (sym is) ∙ e), ap (λ u. suc u) is)

    -- it is done
    empty_in : (r : R) → Contains runs r → cycle r ≤ upto → is_on s m.done (suc (suc (cycle r))) ≡ (ends_at s wires.ready m.walk (suc (cycle r)) || not (nat_lt 0 (num r)))
    empty_in r c l = law.empty s wires dims nets m (taken r) (cycle r) h (nets_stand r c l) (slices r c) (started r c l) ∙ ap (λ n. ends_at s wires.ready m.walk (suc (cycle r)) || not (nat_lt 0 n)) (sym (same r c))

    done_in : (r : R) → Contains runs r → (j : ℕ) → j < num r → (l : cycle r + word_cycle (delay r) j ≤ upto) → is_on s m.done (suc (cycle r + word_cycle (delay r) j)) ≡ not (nat_lt (suc j) (num r))
    done_in r c j k l =
        (at_word r c j k l).done (subst (λ n. 0 < n) (same r c) (omega (arith, k)))
        ∙ ap (λ b. b && (nat_lt j (count_of (taken r)) && not (nat_lt (suc j) (count_of (taken r))))) (ready.on (cycle r + word_cycle (delay r) j) (omega (arith, l, in_time)) (r, j, c, k, refl))
        ∙ ap (λ b. b && not (nat_lt (suc j) (count_of (taken r)))) (is_less j (count_of (taken r)) (counted r c j k))
        ∙ ap (λ n. not (nat_lt (suc j) n)) (sym (same r c))

    ends_on : (t : ℕ) → t ≤ upto → EndsAt t → is_on s m.done t ≡ true
    ends_on t l (r, c, e) = by (num r) refl
      where
        by : (w : ℕ) → num r ≡ w → is_on s m.done t ≡ true
        by zero f =
            let is : t ≡ suc (suc (cycle r)) = (let g : transfer_took (delay r) (num r) ≡ 3 = ap (transfer_took (delay r)) f in omega (arith, e, g)) in
            ap (is_on s m.done) is ∙ empty_in r c (omega (arith, l, is)) ∙ or_right (ends_at s wires.ready m.walk (suc (cycle r))) (not (nat_lt 0 (num r))) (ap (λ n. not (nat_lt 0 n)) f)
        by (suc w) f =
            let is : t ≡ suc (cycle r + word_cycle (delay r) w) = (let g : transfer_took (delay r) (num r) ≡ word_cycle (delay r) w + 2 = ap (transfer_took (delay r)) f ∙ took_is (delay r) w in omega (arith, e, g)) in
            ap (is_on s m.done) is ∙ done_in r c w (omega (arith, f)) (omega (arith, l, is)) ∙ ap not (not_less (suc w) (num r) (omega (arith, f)))

    over_at : (u : ℕ) → suc u ≤ upto → is_on s m.done (suc u) ≡ true → ends_at s wires.ready m.walk u ≡ true → EndsAt (suc u)
    over_at u l e f =
        let on = (and_parts (is_on s wires.ready u) (is_on s m.walk.counted.more u) (and_parts (moves_at s wires.ready m.walk u) _ f).0).0 in
        let (r, j, c, k, is) = ready.only u (omega (arith, l, in_time)) on in
        let n : num r ≡ suc j = last_one j (num r) k (sym (done_in r c j k (omega (arith, l, is))) ∙ ap (λ t. is_on s m.done (suc t)) (sym is) ∙ e) in
        let g : transfer_took (delay r) (num r) ≡ word_cycle (delay r) j + 2 = ap (transfer_took (delay r)) n ∙ took_is (delay r) j in
        (r, c, omega (arith, is, g))

    none_at : (v : ℕ) → suc (suc v) ≤ upto → is_on s m.done (suc (suc v)) ≡ true → ends_at s wires.ready m.walk (suc v) ≡ false → EndsAt (suc (suc v))
    none_at v l e f =
        let on = (and_parts (is_on s wires.start v) (not (is_on s m.walk.counted.more (suc v))) (sym (or_left_off (ends_at s wires.ready m.walk (suc v)) (is_on s wires.start v && not (is_on s m.walk.counted.more (suc v))) f) ∙ sym (h.done (suc (suc v))) ∙ e)).0 in
        let (r, c, is) = starts.only v (omega (arith, l)) on in
        let none : not (nat_lt 0 (num r)) ≡ true =
        sym (or_left_off (ends_at s wires.ready m.walk (suc (cycle r))) (not (nat_lt 0 (num r))) (ap (λ t. ends_at s wires.ready m.walk (suc t)) (sym is) ∙ f)) ∙ sym (empty_in r c (omega (arith, l, is))) ∙ ap (λ t. is_on s m.done (suc (suc t))) (sym is) ∙ e in
        let g : transfer_took (delay r) (num r) ≡ 3 = ap (transfer_took (delay r)) (no_word (num r) none) in
        (r, c, omega (arith, is, g))

    ends_only : (t : ℕ) → t ≤ upto → is_on s m.done t ≡ true → EndsAt t
    ends_only zero l e = absurd (let f = sym (h.done zero) ∙ e in cc)
    ends_only (suc zero) l e = by_bit (ends_at s wires.ready m.walk 0) (λ f. over_at 0 l e f) (λ f. absurd (let g = sym (or_left_off (ends_at s wires.ready m.walk 0) (false && not (is_on s m.walk.counted.more 0)) f) ∙ sym (h.done 1) ∙ e in cc))
    ends_only (suc (suc v)) l e = by_bit (ends_at s wires.ready m.walk (suc v)) (λ f. over_at (suc v) l e f) (λ f. none_at v l e f)

    pub ends : IsOnAt (is_on s m.done) EndsAt upto
    ends = record { on = ends_on; only = ends_only }
