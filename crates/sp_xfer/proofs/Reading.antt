-- Two words that were read last, kept until they move.
use Rattle.std.proofs.Common.{◌≡◌, ℕ, suc, ◌==◌, Bool, if◌then◌else◌, sym, ap, ap₂, ◌∙◌}
use Rattle.sp_netlist.specs.Signals.{Signals, Holds}
use Rattle.sp_gates.specs.Tested.{is_on}
use Rattle.sp_xfer.specs.Ahead.{KeepsNewest, ReadsAhead}
use Rattle.sp_xfer.specs.Moving.{was}

-- a register that is always enabled has the word of the cycle before
pub always_kept : (s : Signals) (own next enable : ℕ) (t : ℕ) → {first : ℕ} → Holds (λ t. s.net t own) first (λ t. s.net t enable) (λ t. s.net t next) → s.net t enable ≡ 1 → s.net (suc t) own ≡ s.net t next
always_kept s own next enable t h e = h.1 t ∙ ap (λ n. if n == 1 then s.net t next else s.net t own) e

module _ (s : Signals) (goes went comes found new kept old older word : ℕ) (w : (t : ℕ) → is_on s went t ≡ was (is_on s goes) t) (c : (t : ℕ) → is_on s comes t ≡ was (is_on s went) t)
    (n : KeepsNewest s comes found new kept) (o : KeepsNewest s comes kept old older) (h : (t : ℕ) → s.net t word ≡ (if is_on s went t then s.net t new else s.net t old)) where
  -- what was asked for last: it comes in the next cycle, or came
  asked : ℕ → ℕ
  asked t = if is_on s went t then s.net (suc t) found else s.net t new

  went_on : (t : ℕ) → is_on s went (suc t) ≡ is_on s goes t
  went_on t = w (suc t)

  comes_on : (t : ℕ) → is_on s comes (suc t) ≡ is_on s went t
  comes_on t = c (suc t)

  -- where a word comes it is the newest, and else that of the cycle before is
  new_next : (t : ℕ) → s.net (suc t) new ≡ asked t
  unfolding asked
  new_next t =
      n.now (suc t) ∙ ap₂ (λ b k. if b then s.net (suc t) found else k) (comes_on t) (n.later t)

  old_next : (t : ℕ) → s.net (suc t) old ≡ s.net t word
  old_next t =
      o.now (suc t) ∙ ap₂ (λ b k. if b then s.net (suc t) kept else k) (comes_on t) (o.later t)
      ∙ ap (λ k. if is_on s went t then k else s.net t old) (n.later t) ∙ sym (h t)

  by_two : (b : Bool) (x y z : ℕ) → y ≡ z → (if b then x else y) ≡ (if b then x else z)
  by_two b x y z e = ap (λ k. if b then x else k) e

  pub two_kept : ReadsAhead s (is_on s goes) found word
  unfolding asked
  two_kept = record {
    next = asked;
    first = λ t. ap (λ b. if b then s.net (suc (suc t)) found else s.net (suc t) new) (went_on t) ∙ by_two (is_on s goes t) (s.net (suc (suc t)) found) (s.net (suc t) new) (asked t) (new_next t);
    second = λ t.
        h (suc t) ∙ ap (λ b. if b then s.net (suc t) new else s.net (suc t) old) (went_on t)
        ∙ ap₂ (λ x y. if is_on s goes t then x else y) (new_next t) (old_next t);
  }

-- so on a net that is connected, where the walk goes on in the same cycles
pub connected : (s : Signals) (goes found word wire : ℕ) → {on : ℕ → Bool} → ((t : ℕ) → is_on s goes t ≡ on t) → ((t : ℕ) → s.net t wire ≡ s.net t word) → ReadsAhead s (is_on s goes) found word → ReadsAhead s on found wire
connected s goes found word wire {on = on} same e h = record {
  next = h.next;
  first = λ t. h.first t ∙ ap (λ b. if b then s.net (suc (suc t)) found else h.next t) (same t);
  second = λ t. e (suc t) ∙ h.second t ∙ ap₂ (λ b w. if b then h.next t else w) (same t) (sym (e t));
}
