-- What a channel does after it asked.
use Rattle.std.proofs.Common.{◌≡◌, ℕ, zero, suc, ◌+◌, ◌<◌, List, Bool, true, false, cond, ◌==◌, ◌&&◌, refl, sym, ap, ◌∙◌, subst, arith, eq-eqb, ne_eqb, add-one}
use Rattle.std.proofs.lemmas.Bool.{false≢true, cond-false}
use Rattle.sp_netlist.specs.Cells.{PlainCell}
use Rattle.sp_netlist.specs.Signals.{Setting, Phase, idle, waiting, moving, Signals, ready_word, asks, after_asking, next_phase, delay_of, RunsChannel}
use Rattle.sp_netlist.specs.Channels.{Serves, ChannelServes}

-- what a channel that asks comes to
asking_next : (p : Phase) (r l d : ℕ) → asks p r l ≡ true → next_phase p r l d ≡ after_asking d
asking_next idle r l d e = go (r == 1) e
  where
    go : (b : Bool) → b ≡ true → cond b (after_asking d) idle ≡ after_asking d
    go true k = refl
    go false k = absurd (false≢true k)
asking_next (waiting n) r l d e = absurd (false≢true e)
asking_next (moving n) r l d e = go (l == 0) (n == 15) e
  where
    go : (b c : Bool) → (b && c) ≡ true → cond b (cond c (after_asking d) (moving (n + 1))) idle ≡ after_asking d
    go true true k = refl
    go true false k = absurd (false≢true k)
    go false c k = absurd (false≢true k)

module _ (g : Setting) (s : Signals) (before : List PlainCell) (channel ready request last : ℕ) (r : RunsChannel g s before channel ready request last) where
  -- a wait
  waits_for : (e t : ℕ) → s.phase t channel ≡ after_asking e → (j : ℕ) → j < e → s.net (t + j) ready ≡ 0
  waits_for zero t p j l = absurd (omega arith)
  waits_for (suc e) t p zero l = subst (λ x. s.net x ready ≡ 0) (omega arith) (r.shows t ∙ ap ready_word p)
  waits_for (suc e) t p (suc j) l =
      let next = r.goes_on t ∙ ap (λ q. next_phase q (s.net t request) (s.net t last) (delay_of g s t before)) p in
      subst (λ x. s.net x ready ≡ 0) (omega arith) (waits_for e (suc t) next j (omega arith))

  waited : (e t : ℕ) → s.phase t channel ≡ after_asking e → s.phase (t + e) channel ≡ moving 0
  waited zero t p = subst (λ x. s.phase x channel ≡ moving 0) (omega arith) p
  waited (suc e) t p =
      let next = r.goes_on t ∙ ap (λ q. next_phase q (s.net t request) (s.net t last) (delay_of g s t before)) p in
      subst (λ x. s.phase x channel ≡ moving 0) (omega arith) (waited e (suc t) next)

  -- words that move
  moves_on : (t : ℕ) → s.phase t channel ≡ moving 0 → (k : ℕ) → k < 16 → ((i : ℕ) → i < k → s.net (t + i) last ≡ 0) → s.phase (t + k) channel ≡ moving k
  moves_on t p zero l h = subst (λ x. s.phase x channel ≡ moving 0) (omega arith) p
  moves_on t p (suc k) l h =
      let here = moves_on t p k (omega arith) (λ i m. h i (omega arith)) in
      let e0 = eq-eqb (s.net (t + k) last) 0 (h k (omega arith)) in
      let e1 = ne_eqb k 15 (λ e. absurd (omega arith)) in
      let next = r.goes_on (t + k) ∙ ap (λ q. next_phase q (s.net (t + k) request) (s.net (t + k) last) (delay_of g s (t + k) before)) here in
      let step : next_phase (moving k) (s.net (t + k) request) (s.net (t + k) last) (delay_of g s (t + k) before) ≡ moving (k + 1) = cc in
      let next' : s.phase (suc (t + k)) channel ≡ moving (suc k) = next ∙ step ∙ ap moving (add-one k) in
      subst (λ x. s.phase x channel ≡ moving (suc k)) (omega arith) next'

  serves : (t : ℕ) → asks (s.phase t channel) (s.net t request) (s.net t last) ≡ true → Serves s channel ready request last t (delay_of g s t before)
  serves t a =
      let e = delay_of g s t before in
      let asked : s.phase (t + 1) channel ≡ after_asking e = subst (λ x. s.phase x channel ≡ after_asking e) (sym (add-one t)) (r.goes_on t ∙ asking_next (s.phase t channel) (s.net t request) (s.net t last) e a) in
      let begins = waited e (t + 1) asked in
      record {
        waits = waits_for e (t + 1) asked;
        moves = λ k l h. r.shows (t + 1 + e + k) ∙ ap ready_word (moves_on (t + 1 + e) begins k l h);
        ends = λ k l h x.
            let here = moves_on (t + 1 + e) begins k l h in
            let e0 = ne_eqb (s.net (t + 1 + e + k) last) 0 (λ z. absurd (omega arith)) in
            let next = r.goes_on (t + 1 + e + k) ∙ ap (λ q. next_phase q (s.net (t + 1 + e + k) request) (s.net (t + 1 + e + k) last) (delay_of g s (t + 1 + e + k) before)) here in
            let step : next_phase (moving k) (s.net (t + 1 + e + k) request) (s.net (t + 1 + e + k) last) (delay_of g s (t + 1 + e + k) before) ≡ idle = cc in
            subst (λ y. s.phase y channel ≡ idle) (omega arith) (next ∙ step);
        again = λ h.
            let here = moves_on (t + 1 + e) begins 15 (omega arith) (λ i m. h i (omega arith)) in
            let e0 = eq-eqb (s.net (t + 1 + e + 15) last) 0 (h 15 (omega arith)) in
            let step : asks (moving 15) (s.net (t + 1 + e + 15) request) (s.net (t + 1 + e + 15) last) ≡ true = cc in
            subst (λ y. asks (s.phase y channel) (s.net y request) (s.net y last) ≡ true) (omega arith) (ap (λ q. asks q (s.net (t + 1 + e + 15) request) (s.net (t + 1 + e + 15) last)) here ∙ step);
      }

pub channel_serves : ChannelServes
channel_serves = record {
  asked = serves;
  idles = λ g s before channel ready request last r t i. r.shows t ∙ ap ready_word i;
  requested = λ g s before channel ready request last r t i q. ap (λ p. asks p (s.net t request) (s.net t last)) i ∙ eq-eqb (s.net t request) 1 q;
  stays = λ g s before channel ready request last r t i q.
      r.goes_on t ∙ ap (λ p. next_phase p (s.net t request) (s.net t last) (delay_of g s t before)) i
      ∙ cond-false (s.net t request == 1) (after_asking (delay_of g s t before)) idle (ne_eqb (s.net t request) 1 (λ e. absurd (omega arith)));
}
