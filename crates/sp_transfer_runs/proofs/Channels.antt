-- The channel of a transfer over all runs of its node.
use Rattle.std.proofs.Common.{◌≡◌, ℕ, zero, suc, ◌+◌, ◌-◌, ◌*◌, ◌/◌, ◌<◌, ◌≤◌, ◌==◌, ◌⊎◌, inl, inr, Bool, true, false, not, nat_lt, if◌then◌else◌, List, [], ◌∷◌, ◌++◌, refl, sym, ap, subst, ◌∙◌, arith}
use Rattle.std.proofs.lemmas.Bool.{eqb-true, eq-eqb}
use Rattle.std.specs.List.{Contains}
use Rattle.sp_netlist.specs.Cells.{PlainCell}
use Rattle.sp_netlist.specs.Signals.{Setting, Signals, ready_word}
use Rattle.sp_gates.specs.Tested.{is_on}
use Rattle.sp_channel_runs.specs.Bursts.{taken, Burst, first_word, last_word, Moves as MovesIn, LastRight, Pulses, FollowsBursts, Transfer, bursts, transfer_end, all_bursts, Ordered, Asks as AsksIn, TransfersFollow}
use Rattle.sp_core.specs.Cost.{waits}
use Rattle.sp_core.specs.PlainCore.{PlainNode, load, store, PlainCore}
use Rattle.sp_plan.specs.PlainPlan.{PlainPlan}
use Rattle.sp_time.specs.Lists.{total}
use Rattle.sp_machine.specs.Transfers.{Delays, word_cycle, transfer_took}
use Rattle.sp_part_runs.specs.BodiesRuns.{IsOnAt}
use Rattle.sp_node_runs.specs.Runs.{Placed, told, AreWithin}
use Rattle.sp_transfer_runs.specs.Channels.{AreTaken, IsAsked, ChannelsAnswer}
use Rattle.sp_transfer_runs.specs.Runs.{total_of, delay_in, moves_in, Moves, Asks}
use Rattle.sp_transfer_runs.proofs.Askings.{total_same, sum_from, end_is, word_at, moves_of_word, word_of_move, TellsLast, last_right}
use Rattle.sp_transfer_runs.proofs.Cycles.{two_on, in_split, in_head, in_tail, in_none}
use Rattle.sp_transfer_runs.proofs.Runs as runs_of

-- a run with a word, as a transfer that asked so often before
abbrev one : (words asked start : ℕ) → List Transfer
one zero asked start = []
one (suc v) asked start = record { start = start; first = asked; full = v / 16; rest = suc v - 16 * (v / 16) } ∷ []

abbrev transfers_of : (asked : ℕ) → List Placed → List Transfer
transfers_of asked [] = []
transfers_of asked (r ∷ runs) = one (total_of r) asked r.cycle ++ transfers_of (asked + waits (total_of r)) runs

moves_split : (xs ys : List Burst) (t : ℕ) → MovesIn (xs ++ ys) t → MovesIn xs t ⊎ MovesIn ys t
moves_split [] ys t m = inr m
moves_split (b ∷ xs) ys t (inl m) = inl (inl m)
moves_split (b ∷ xs) ys t (inr m) = by (moves_split xs ys t m)
  where
    by : MovesIn xs t ⊎ MovesIn ys t → (((first_word b ≤ t) × (t ≤ last_word b)) ⊎ MovesIn xs t) ⊎ MovesIn ys t
    by (inl x) = inl (inr x)
    by (inr x) = inr x

moves_left : (xs ys : List Burst) (t : ℕ) → MovesIn xs t → MovesIn (xs ++ ys) t
moves_left [] ys t m = absurd m
moves_left (b ∷ xs) ys t (inl m) = inl m
moves_left (b ∷ xs) ys t (inr m) = inr (moves_left xs ys t m)

moves_right : (xs ys : List Burst) (t : ℕ) → MovesIn ys t → MovesIn (xs ++ ys) t
moves_right [] ys t m = m
moves_right (b ∷ xs) ys t m = inr (moves_right xs ys t m)

last_both : (lst : ℕ → ℕ) (upto : ℕ) (xs ys : List Burst) → LastRight lst upto xs → LastRight lst upto ys → LastRight lst upto (xs ++ ys)
last_both lst upto [] ys x y = y
last_both lst upto (b ∷ xs) ys x y = (x.0, last_both lst upto xs ys x.1 y)

-- one run
module _ (w : ℕ → ℕ) (delay : ℕ → ℕ) (asked v : ℕ) (are : (ask : ℕ) → ask < waits (suc v) → delay ask ≡ w (asked + ask)) where
  sums : (n : ℕ) → n ≤ waits (suc v) → total delay n ≡ sum_from w asked n
  sums n l = total_same delay (λ a. w (asked + a)) n (λ a m. are a (omega (arith, l, m)))

  word_same : (start j : ℕ) → j < suc v → start + word_cycle delay j ≡ word_at w (suc start) asked j
  word_same start j l = let h = sums (j / 16 + 1) (omega (arith, l)) in omega (arith, h)

  ends_before : (start : ℕ) → transfer_end w (record { start = start; first = asked; full = v / 16; rest = suc v - 16 * (v / 16) }) ≤ suc (start + transfer_took delay (suc v))
  ends_before start =
      let h = end_is w (suc start) asked (v / 16) (suc v - 16 * (v / 16)) in
      let g : total delay (waits (suc v)) ≡ sum_from w asked (waits (suc v)) = sums (waits (suc v)) (omega arith) in
      let many : waits (suc v) ≡ suc (v / 16) = omega arith in
      let e : sum_from w asked (waits (suc v)) ≡ sum_from w asked (suc (v / 16)) = ap (sum_from w asked) many in
      omega (arith, h, g, e)

module _ (delays : Delays) (k : ℕ) (w : ℕ → ℕ) where
  ordered : (took : Placed → ℕ) (within : (from : ℕ) → List Placed → Type 0) (opened : (from : ℕ) (r : Placed) (runs : List Placed) → within from (r ∷ runs) → (from ≤ r.cycle) × within (r.cycle + took r) runs)
      (free asked from : ℕ) (runs : List Placed) → within from runs → free ≤ suc from → ((r : Placed) → Contains runs r → took r ≡ transfer_took (delay_in delays k r) (total_of r)) → AreTaken delays k w asked runs → Ordered w free asked (transfers_of asked runs)
  ordered took within opened free asked from [] i l t a = tt
  ordered took within opened free asked from (r ∷ runs) i l t a =
      by (total_of r) refl (λ free' l'. ordered took within opened free' (asked + waits (total_of r)) (r.cycle + took r) runs (opened from r runs i).1 l' (λ q c. t q (in_tail r runs q c)) a.1)
    where
      by : (n : ℕ) → total_of r ≡ n → ((free' : ℕ) → free' ≤ suc (r.cycle + took r) → Ordered w free' (asked + waits (total_of r)) (transfers_of (asked + waits (total_of r)) runs)) → Ordered w free asked (one n asked r.cycle ++ transfers_of (asked + waits (total_of r)) runs)
      by zero e rest =
          let h = (opened from r runs i).0 in
          let same : asked + waits (total_of r) ≡ asked = (let z : waits (total_of r) ≡ waits 0 = ap waits e in omega (arith, z)) in
          subst (λ x. Ordered w free x (transfers_of (asked + waits (total_of r)) runs)) same (rest free (omega (arith, l, h)))
      by (suc v) e rest =
          let h = (opened from r runs i).0 in
          let before = ends_before w (delay_in delays k r) asked v (λ ask m. a.0 ask (subst (λ x. ask < waits x) (sym e) m)) r.cycle in
          let long : took r ≡ transfer_took (delay_in delays k r) (suc v) = t r (in_head r runs) ∙ ap (transfer_took (delay_in delays k r)) e in
          let next : asked + waits (total_of r) ≡ suc (asked + v / 16) = (let z : waits (total_of r) ≡ waits (suc v) = ap waits e in omega (arith, z)) in
          (omega (arith, l, h), refl, omega arith, omega arith, subst (λ x. Ordered w (transfer_end w (record { start = r.cycle; first = asked; full = v / 16; rest = suc v - 16 * (v / 16) })) x (transfers_of (asked + waits (total_of r)) runs)) next (rest _ (omega (arith, before, long))))

  -- its askings
  asks_to : (asked : ℕ) (runs : List Placed) (t : ℕ) → AsksIn (transfers_of asked runs) t → Asks delays k runs t
  asks_to asked [] t a = absurd a
  asks_to asked (r ∷ runs) t a = by (total_of r) refl (asks_to (asked + waits (total_of r)) runs t) a
    where
      deeper : Asks delays k runs t → Asks delays k (r ∷ runs) t
      deeper (q, c, l, e) = (q, in_tail r runs q c, l, e)

      by : (n : ℕ) → total_of r ≡ n → (AsksIn (transfers_of (asked + waits (total_of r)) runs) t → Asks delays k runs t) → AsksIn (one n asked r.cycle ++ transfers_of (asked + waits (total_of r)) runs) t → Asks delays k (r ∷ runs) t
      by zero e rest b = deeper (rest b)
      by (suc v) e rest (inl f) = (r, in_head r runs, omega (arith, e), f)
      by (suc v) e rest (inr b) = deeper (rest b)

  asks_from : (asked : ℕ) (runs : List Placed) (t : ℕ) → Asks delays k runs t → AsksIn (transfers_of asked runs) t
  asks_from asked [] t (q, c, l, e) = absurd (in_none q c)
  asks_from asked (r ∷ runs) t (q, c, l, e) = by (total_of r) refl (asks_from (asked + waits (total_of r)) runs t) (in_split r runs q c)
    where
      by : (n : ℕ) → total_of r ≡ n → (Asks delays k runs t → AsksIn (transfers_of (asked + waits (total_of r)) runs) t) → (r ≡ q) ⊎ Contains runs q → AsksIn (one n asked r.cycle ++ transfers_of (asked + waits (total_of r)) runs) t
      by zero f rest (inl s) = absurd (let g : total_of r ≡ total_of q = ap total_of s in omega (arith, l, f, g))
      by (suc v) f rest (inl s) = inl (e ∙ ap (λ (x : Placed). suc x.cycle) (sym s))
      by zero f rest (inr d) = rest (q, d, l, e)
      by (suc v) f rest (inr d) = inr (rest (q, d, l, e))

  -- its words
  moves_to : (asked : ℕ) (runs : List Placed) (t : ℕ) → AreTaken delays k w asked runs → MovesIn (all_bursts w (transfers_of asked runs)) t → Moves delays k runs t
  moves_to asked [] t a m = absurd m
  moves_to asked (r ∷ runs) t a m = by (total_of r) refl (moves_to (asked + waits (total_of r)) runs t a.1) m
    where
      deeper : Moves delays k runs t → Moves delays k (r ∷ runs) t
      deeper (q, j, c, l, e) = (q, j, in_tail r runs q c, l, e)

      by : (n : ℕ) → total_of r ≡ n → (MovesIn (all_bursts w (transfers_of (asked + waits (total_of r)) runs)) t → Moves delays k runs t) → MovesIn (all_bursts w (one n asked r.cycle ++ transfers_of (asked + waits (total_of r)) runs)) t → Moves delays k (r ∷ runs) t
      by zero e rest b = deeper (rest b)
      by (suc v) e rest b = which (moves_split (bursts w (suc r.cycle) asked (v / 16) (suc v - 16 * (v / 16))) (all_bursts w (transfers_of (asked + waits (total_of r)) runs)) t b)
        where
          which : MovesIn (bursts w (suc r.cycle) asked (v / 16) (suc v - 16 * (v / 16))) t ⊎ MovesIn (all_bursts w (transfers_of (asked + waits (total_of r)) runs)) t → Moves delays k (r ∷ runs) t
          which (inr x) = deeper (rest x)
          which (inl x) =
              let (j, l, is) = word_of_move w (v / 16) (suc r.cycle) asked (suc v - 16 * (v / 16)) t (omega arith) x in
              (r, j, in_head r runs, omega (arith, l, e), is ∙ sym (word_same w (delay_in delays k r) asked v (λ ask m. a.0 ask (subst (λ x. ask < waits x) (sym e) m)) r.cycle j (omega (arith, l))))

  moves_from : (asked : ℕ) (runs : List Placed) (t : ℕ) → AreTaken delays k w asked runs → Moves delays k runs t → MovesIn (all_bursts w (transfers_of asked runs)) t
  moves_from asked [] t a (q, j, c, l, e) = absurd (in_none q c)
  moves_from asked (r ∷ runs) t a (q, j, c, l, e) = by (total_of r) refl (moves_from (asked + waits (total_of r)) runs t a.1) (in_split r runs q c)
    where
      by : (n : ℕ) → total_of r ≡ n → (Moves delays k runs t → MovesIn (all_bursts w (transfers_of (asked + waits (total_of r)) runs)) t) → (r ≡ q) ⊎ Contains runs q → MovesIn (all_bursts w (one n asked r.cycle ++ transfers_of (asked + waits (total_of r)) runs)) t
      by zero f rest (inl s) = absurd (let g : total_of r ≡ total_of q = ap total_of s in omega (arith, l, f, g))
      by zero f rest (inr d) = rest (q, j, d, l, e)
      by (suc v) f rest (inr d) = moves_right (bursts w (suc r.cycle) asked (v / 16) (suc v - 16 * (v / 16))) (all_bursts w (transfers_of (asked + waits (total_of r)) runs)) t (rest (q, j, d, l, e))
      by (suc v) f rest (inl s) =
          let g : total_of r ≡ total_of q = ap total_of s in
          moves_left (bursts w (suc r.cycle) asked (v / 16) (suc v - 16 * (v / 16))) (all_bursts w (transfers_of (asked + waits (total_of r)) runs)) t
          (moves_of_word w (v / 16) (suc r.cycle) asked (suc v - 16 * (v / 16)) t (omega arith)
          (j, omega (arith, l, f, g), e ∙ ap (λ x. moves_in delays k x j) (sym s) ∙ word_same w (delay_in delays k r) asked v (λ ask m. a.0 ask (subst (λ x. ask < waits x) (sym f) m)) r.cycle j (omega (arith, l, f, g))))

  -- their last words
  last_of : (lst : ℕ → ℕ) (upto asked : ℕ) (runs : List Placed) → AreTaken delays k w asked runs → ((r : Placed) (j : ℕ) → Contains runs r → j < total_of r → moves_in delays k r j ≤ upto → lst (moves_in delays k r j) ≡ (if nat_lt (suc j) (total_of r) then 0 else 1))
      → LastRight lst upto (all_bursts w (transfers_of asked runs))
  last_of lst upto asked [] a h = tt
  last_of lst upto asked (r ∷ runs) a h = by (total_of r) refl (last_of lst upto (asked + waits (total_of r)) runs a.1 (λ q j c l m. h q j (in_tail r runs q c) l m))
    where
      by : (n : ℕ) → total_of r ≡ n → LastRight lst upto (all_bursts w (transfers_of (asked + waits (total_of r)) runs)) → LastRight lst upto (all_bursts w (one n asked r.cycle ++ transfers_of (asked + waits (total_of r)) runs))
      by zero e rest = rest
      by (suc v) e rest =
          last_both lst upto (bursts w (suc r.cycle) asked (v / 16) (suc v - 16 * (v / 16))) (all_bursts w (transfers_of (asked + waits (total_of r)) runs))
          (last_right w lst upto (v / 16) (suc r.cycle) asked (suc v - 16 * (v / 16)) (omega arith) (omega arith) tells) rest
        where
          all : 16 * (v / 16) + (suc v - 16 * (v / 16)) ≡ total_of r
          all = omega (arith, e)

          tells : TellsLast w lst upto (suc r.cycle) asked (v / 16) (suc v - 16 * (v / 16))
          tells j l m =
              let same = word_same w (delay_in delays k r) asked v (λ ask x. a.0 ask (subst (λ y. ask < waits y) (sym e) x)) r.cycle j (omega (arith, l)) in
              ap lst (sym same) ∙ h r j (in_head r runs) (omega (arith, l, e)) (omega (arith, m, same)) ∙ ap (λ n. if nat_lt (suc j) n then 0 else 1) (sym all)

as_word : (v : ℕ) (more : Bool) → v < 2 → (v == 1) ≡ not more → v ≡ (if more then 0 else 1)
as_word zero true l e = refl
as_word zero false l e = absurd (cc)
as_word (suc zero) true l e = absurd (cc)
as_word (suc zero) false l e = refl
as_word (suc (suc v)) more l e = absurd (omega (arith, l))

module _ (follow : TransfersFollow) (core : PlainCore) (plan : PlainPlan) (delays : Delays) (node : PlainNode) (g : Setting) (s : Signals) (before : List PlainCell) (channel ready request last bound k n : ℕ) (runs : List Placed)
    (h : IsAsked core plan delays g s before channel ready request last bound node k n runs) (took : (r : Placed) → Contains runs r → (told core plan delays node k n r).took ≡ transfer_took (delay_in delays k r) (total_of r)) where
  abbrev w : ℕ → ℕ
  w = taken g s before channel request last bound

  in_order : Ordered w 0 0 (transfers_of 0 runs)
  in_order = ordered delays k w (λ r. (told core plan delays node k n r).took) (λ from rs. AreWithin core plan delays node k n from h.until rs) (λ from r rs i. i) 0 0 h.from runs h.in_turn (omega arith) took h.delays_are

  at_first : IsOnAt (is_on s ready) (Moves delays k runs) 0
  at_first = record {
    on = λ t l m. let (r, j, c, x, e) = m in absurd (let two = two_on (delay_in delays k r) j in omega (arith, l, e, two));
    only = λ t l e. none t l e;
  }
    where
      idle_first : is_on s ready 0 ≡ false
      idle_first = ap (λ v. v == 1) (h.channel_runs.shows 0 ∙ ap ready_word h.channel_runs.begins)

      none : (t : ℕ) → t ≤ 0 → is_on s ready t ≡ true → Moves delays k runs t
      none zero l e = absurd (let f = sym idle_first ∙ e in cc)
      none (suc t) l e = absurd (omega (arith, l))

  module _ (upto : ℕ) (less : upto < bound) (asks : IsOnAt (is_on s request) (Asks delays k runs) upto)
      (final : (r : Placed) (j : ℕ) → Contains runs r → j < total_of r → moves_in delays k r j ≤ upto → is_on s last (moves_in delays k r j) ≡ not (nat_lt (suc j) (total_of r))) where
    requests : Pulses (λ t. s.net t request) (AsksIn (transfers_of 0 runs)) upto
    requests t l = record {
      forth = λ a. eqb-true (s.net t request) 1 (asks.on t l (asks_to delays k w 0 runs t a));
      back = λ e. asks_from delays k w 0 runs t (asks.only t l (eq-eqb (s.net t request) 1 e));
    }

    lasts : LastRight (λ t. s.net t last) upto (all_bursts w (transfers_of 0 runs))
    lasts = last_of delays k w (λ t. s.net t last) upto 0 runs h.delays_are (λ r j c l m. as_word (s.net (moves_in delays k r j) last) (nat_lt (suc j) (total_of r)) (h.one_bit (moves_in delays k r j)) (final r j c l m))

    follows : FollowsBursts s channel ready request last (all_bursts w (transfers_of 0 runs)) (suc upto)
    follows = follow g s before channel ready request last bound (transfers_of 0 runs) upto h.channel_runs in_order less requests lasts

    next : IsOnAt (is_on s ready) (Moves delays k runs) (suc upto)
    next = record {
      on = λ t l m. eq-eqb (s.net t ready) 1 ((follows.ready t l).forth (moves_from delays k w 0 runs t h.delays_are m));
      only = λ t l e. moves_to delays k w 0 runs t h.delays_are ((follows.ready t l).back (eqb-true (s.net t ready) 1 e));
    }

pub channels_answer : TransfersFollow → (core : PlainCore) (plan : PlainPlan) (delays : Delays) → ChannelsAnswer core plan delays
channels_answer follow core plan delays = record {
  of_load = λ r m spans g s before channel ready request last bound k n runs h. (
    at_first follow core plan delays (load r m spans) g s before channel ready request last bound k n runs h (λ q c. runs_of.load_took core plan delays k n r m spans q (h.are_moved q c)),
    λ upto less asks final. next follow core plan delays (load r m spans) g s before channel ready request last bound k n runs h (λ q c. runs_of.load_took core plan delays k n r m spans q (h.are_moved q c)) upto less asks final,
  );
  of_store = λ r m spans g s before channel ready request last bound k n runs h. (
    at_first follow core plan delays (store r m spans) g s before channel ready request last bound k n runs h (λ q c. runs_of.store_took core plan delays k n r m spans q (h.are_moved q c)),
    λ upto less asks final. next follow core plan delays (store r m spans) g s before channel ready request last bound k n runs h (λ q c. runs_of.store_took core plan delays k n r m spans q (h.are_moved q c)) upto less asks final,
  );
}
