-- What loads and stores have in common over all runs of their node.
use Rattle.std.proofs.Common.{◌≡◌, ℕ, suc, ◌<◌, ◌≤◌, inl, inr, ⊎_elim, Bool, true, false, not, nat_lt, List, length, refl, sym, ap, subst, ◌∙◌, arith}
use Rattle.std.specs.List.{Contains}
use Rattle.sp_netlist.specs.Signals.{Signals}
use Rattle.sp_gates.specs.Tested.{is_on}
use Rattle.sp_core.specs.PlainCore.{PlainNode, PlainCore}
use Rattle.sp_core.specs.Transfers.{lengths, has_none}
use Rattle.sp_plan.specs.PlainPlan.{PlainPlan}
use Rattle.sp_machine.specs.Transfers.{Delays, transfer_took}
use Rattle.sp_part_runs.specs.BodiesRuns.{IsOnAt}
use Rattle.sp_part_runs.specs.ControlParts.{Begins, Ends}
use Rattle.sp_node_runs.specs.Runs.{Placed, told}
use Rattle.sp_xfer.specs.declared.part.Moving.{Moving}
use Rattle.sp_xfer.specs.declared.part.Wires.{Wires}
use Rattle.sp_xfer.specs.Moving.{MovesSlice}
use Rattle.sp_node_runs.specs.BodiesSpans.{SpanNets}
use Rattle.sp_transfer_runs.specs.Runs.{taken_in, DidSlice, total_of, delay_in, moves_in, Moves, Asks, TellsWords, TransferRuns}
use Rattle.sp_transfer_runs.specs.Words.{moves_of, parts_of, count_of, MovesWord, SlicesAreWords}
use Rattle.sp_transfer_runs.proofs.Moved as slices
use Rattle.sp_transfer_runs.proofs.Passing.{Apart, StartsAt}
use Rattle.sp_transfer_runs.proofs.Places.{none_offsets}
use Rattle.sp_transfer_runs.proofs.Runs as runs_of
use Rattle.sp_transfer_runs.proofs.Runs.{transfer_rans}

-- a slice that has a word has no empty range
pub some_range : (dims : List ℕ) (q : Placed) → DidSlice dims q.history → (j : ℕ) → j < total_of q → has_none (lengths (parts_of (taken_in q.history))) ≡ false
some_range dims q d j l = by (has_none (lengths (parts_of (taken_in q.history)))) refl
  where
    by : (b : Bool) → has_none (lengths (parts_of (taken_in q.history))) ≡ b → has_none (lengths (parts_of (taken_in q.history))) ≡ false
    by false e = e
    by true e = absurd (let f = ap length (none_offsets (parts_of (taken_in q.history)) e) in let g = d.each in omega (arith, l, f, g))

pub in_count : (dims : List ℕ) (q : Placed) → DidSlice dims q.history → (j : ℕ) → j < total_of q → j < count_of (taken_in q.history)
in_count dims q d j l = subst (λ n. j < n) d.each l

module _ (law : SlicesAreWords) (core : PlainCore) (plan : PlainPlan) (delays : Delays) (s : Signals) (wires : Wires) (dims : List ℕ) (spanned : List SpanNets) (m : Moving) (last : ℕ) (node : PlainNode) (k n : ℕ) (runs : List Placed)
    (h : MovesSlice s wires dims (moves_of spanned) m) (rs : TransferRuns core plan delays s last node k n dims spanned runs)
    (took : (q : Placed) → Contains runs q → (told core plan delays node k n q).took ≡ transfer_took (delay_in delays k q) (total_of q)) (ready : IsOnAt (is_on s wires.ready) (Moves delays k runs) last)
    (upto : ℕ) (in_time : upto ≤ last) (starts : IsOnAt (is_on s wires.start) (Begins (transfer_rans delays k runs)) upto) where
  abbrev at : Placed → ℕ
  at q = q.cycle

  pub apart : Apart at total_of (delay_in delays k) runs
  apart q p c d =
      ⊎_elim (λ e. inl e) (λ o. inr (⊎_elim (λ l. inl (let t = took q c in omega (arith, l, t))) (λ l. inr (let t = took p d in omega (arith, l, t))) o))
      (runs_of.apart core plan delays node k n rs.from rs.until runs rs.in_turn q p c d)

  pub starts_at : IsOnAt (is_on s wires.start) (StartsAt at total_of (delay_in delays k) runs) upto
  starts_at = runs_of.same_cycles (is_on s wires.start) (Begins (transfer_rans delays k runs)) (StartsAt at total_of (delay_in delays k) runs) upto (runs_of.starts_at delays k runs) (runs_of.begins delays k runs) starts

  pub word : (q : Placed) → Contains runs q → (j : ℕ) → j < total_of q → moves_in delays k q j ≤ upto → MovesWord s wires dims (moves_of spanned) m (taken_in q.history) j (moves_in delays k q j)
  word = slices.at_word at total_of (delay_in delays k) (λ q. taken_in q.history) runs apart law s wires dims spanned m h (λ q c. (rs.did q c).slice) (λ q c. (rs.did q c).each) last rs.stand ready upto in_time starts_at

  pub moved : IsOnAt (is_on s m.moved) (Moves delays k runs) upto
  moved = slices.moved at total_of (delay_in delays k) (λ q. taken_in q.history) runs apart law s wires dims spanned m h (λ q c. (rs.did q c).slice) (λ q c. (rs.did q c).each) last rs.stand ready upto in_time starts_at

  pub asks : IsOnAt (is_on s wires.request) (Asks delays k runs) upto
  asks = slices.asks at total_of (delay_in delays k) (λ q. taken_in q.history) runs apart law s wires dims spanned m h (λ q c. (rs.did q c).slice) (λ q c. (rs.did q c).each) last rs.stand ready upto in_time starts_at

  -- the net that tells where the slice is asked for is the request
  pub makes_room : IsOnAt (is_on s m.asks) (Asks delays k runs) upto
  makes_room = record { on = λ t l x. h.asks t ∙ sym (h.request t) ∙ asks.on t l x; only = λ t l e. asks.only t l (h.request t ∙ sym (h.asks t) ∙ e) }

  pub ends : IsOnAt (is_on s m.done) (Ends (transfer_rans delays k runs)) upto
  ends =
      runs_of.same_cycles (is_on s m.done) (slices.EndsAt at total_of (delay_in delays k) (λ q. taken_in q.history) runs apart) (Ends (transfer_rans delays k runs)) upto (runs_of.ends delays k runs) (runs_of.ends_at delays k runs)
      (slices.ends at total_of (delay_in delays k) (λ q. taken_in q.history) runs apart law s wires dims spanned m h (λ q c. (rs.did q c).slice) (λ q c. (rs.did q c).each) last rs.stand ready upto in_time starts_at)

  pub tells : TellsWords delays k s wires dims runs upto
  tells = record {
    address = λ q j c l t. (word q c j l t).address (in_count dims q (rs.did q c) j l);
    final = λ q j c l t. (word q c j l t).last (ready.on (moves_in delays k q j) (omega (arith, t, in_time)) (q, j, c, l, refl)) (in_count dims q (rs.did q c) j l) ∙ ap (λ x. not (nat_lt (suc j) x)) (sym (rs.did q c).each);
  }
