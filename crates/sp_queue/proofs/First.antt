-- The first word of a copy.
use Rattle.std.proofs.Common.{◌≡◌, ℕ, zero, suc, ◌+◌, ◌<◌, Bool, true, List, [], ◌∷◌, length, slice_index, slice_index_or, refl, sym, ap, ◌∙◌, arith}
use Rattle.sp_netlist.specs.Signals.{Signals}
use Rattle.sp_mem.specs.declared.part.Fresh.{Fresh}
use Rattle.sp_mem.specs.declared.part.Touch.{Touch}
use Rattle.sp_mem.specs.Copies.{copy_at}
use Rattle.sp_taps.specs.declared.store.Store.{Store}
use Rattle.sp_ring.specs.Rings.{queue_after, queue, IsAllowed}
use Rattle.sp_ring.proofs.Held.{takes as ring_takes}
use Rattle.sp_queue_copies.specs.Events.{is_touched, RunsQueue, RunQueues}
use Rattle.sp_queue.specs.Takes.{RunsTakes}
use Rattle.sp_queue.specs.Laws.{copy_queue, MayTouch}

some_of : {X : Type 0} (xs : List X) → 0 < length xs → X
some_of [] l = absurd (omega (arith, l))
some_of (x ∷ xs) l = x

same_after : (a b c x y z : Bool) (v w : ℕ) (q r : List ℕ) → a ≡ x → b ≡ y → c ≡ z → v ≡ w → q ≡ r → queue_after a b c v q ≡ queue_after x y z w r
same_after a b c x y z v w q r e f g h k = rw (e, f, g, h, k) refl

module _ (s : Signals) (bank depth : ℕ) (store : Store) (copy : ℕ) (fresh : List Fresh) (puts takes : List Touch) (h : RunsQueue s bank depth store copy fresh puts takes) where
  same_queue : (t : ℕ) → queue s h.asked t ≡ copy_queue s fresh puts takes copy t
  same_queue zero = refl
  same_queue (suc t) = let is = h.is_asked t in same_after _ _ _ _ _ _ _ _ _ _ is.fresh is.put is.take is.word (same_queue t)

  allowed : (t : ℕ) → MayTouch s depth fresh puts takes copy t → IsAllowed s depth h.asked t
  allowed t may =
      let is = h.is_asked t in
      let long = ap length (same_queue t) in
      record {
        room = λ on. let r = may.room (sym is.put ∙ on) in omega (arith, r, long);
        some = λ on. let r = may.some (sym is.take ∙ on) in omega (arith, r, long);
      }

  pub found_first : (t : ℕ) → is_touched s t copy takes ≡ true → ((u : ℕ) → u < suc t → MayTouch s depth fresh puts takes copy u) → s.net (suc t) store.found ≡ slice_index (copy_queue s fresh puts takes copy t) 0
  found_first t on may =
      ring_takes s bank depth store h.asked h.ring h.runs t (λ u l. allowed u (may u l)) ((h.is_asked t).take ∙ on) ∙ ap (λ q. slice_index q 0) (same_queue t)

pub first : (s : Signals) (bank depth copies : ℕ) (stores : List Store) (fresh : List Fresh) (puts takes : List Touch) → RunQueues s bank depth stores fresh puts takes → length stores ≡ copies
    → (touch : Touch) → RunsTakes s copies stores touch → (t : ℕ) → copy_at s t touch.copy < copies → is_touched s t (copy_at s t touch.copy) takes ≡ true
    → ((u : ℕ) → u < suc t → MayTouch s depth fresh puts takes (copy_at s t touch.copy) u)
    → s.net (suc (suc t)) touch.word ≡ slice_index (copy_queue s fresh puts takes (copy_at s t touch.copy) t) 0
first s bank depth copies stores fresh puts takes queues each touch reads t l on may =
    let c = copy_at s t touch.copy in
    let other = some_of stores (omega (arith, each, l)) in
    reads t l other ∙ found_first s (bank + c) depth (slice_index_or stores c other) c fresh puts takes (queues c other (omega (arith, each, l))) t on may
