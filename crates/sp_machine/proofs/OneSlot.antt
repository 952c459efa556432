-- Runs of stages in one slot and one chain come one after the other.
use Rattle.std.proofs.Common.{◌≡◌, ℕ, zero, suc, ◌<◌, ◌≤◌, inl, inr, List, [], ◌∷◌, length, replicate, arith, refl, sym, ap, ◌∙◌}
use Rattle.std.proofs.lemmas.Bool.{eqb-true}
use Rattle.std.proofs.lemmas.List.{length-replicate}
use Rattle.sp_core.specs.PlainCore.{PlainCore}
use Rattle.sp_plan.specs.PlainPlan.{PlainPlan}
use Rattle.sp_time.specs.Beats.{Slot, slot_at, run_at}
use Rattle.sp_time.specs.Lists.{Each, Pairs}
use Rattle.sp_time.specs.Orders.{Precedes}
use Rattle.sp_machine.specs.InOrder.{Clash, EachTwo, fresh_beat, fresh, IsLaterRun, one_slot, OneSlotPrecedes}
use Rattle.sp_machine.specs.Stamps.{Stamped}
use Rattle.sp_machine.specs.Timeline.{slots_from, slots_of, first_slot}
use Rattle.sp_machine.specs.Transfers.{Delays}
use Rattle.sp_machine.proofs.Within.{first_under, last_slot}
use Rattle.sp_machine.proofs.Beats.{greatest_under}

abbrev origin : Slot
origin = record { slot = 0; chain = 0 }

all_at_origin : (n s : ℕ) → slot_at (slots_from (replicate n 0) (replicate n 0)) s ≡ origin
all_at_origin zero s = refl
all_at_origin (suc n) zero = refl
all_at_origin (suc n) (suc s) = all_at_origin n s

each_of : {P : Stamped → Type 0} → ((e : Stamped) → P e) → (es : List Stamped) → Each P es
each_of h [] = tt
each_of h (e ∷ es) = (h e, each_of h es)

two_of : {P : Stamped → Stamped → Type 0} → ((e f : Stamped) → P e f) → (es fs : List Stamped) → EachTwo P es fs
two_of h [] fs = tt
two_of h (e ∷ es) fs = (each_of (h e) fs, two_of h es fs)

pub one_slot_precedes : (core : PlainCore) (plan : PlainPlan) (delays : Delays) → OneSlotPrecedes core plan delays
one_slot_precedes core plan delays n runs stages copies owned apart = record {
  in_turn = λ k s l r later. two_of (λ e f c. precedes k s l r later) (run_at runs k s).events (run_at runs l r).events;
  fresh_first = λ g m l r is le. each_of (λ f c. let a : beat_of m ≡ 0 = first_is m in omega arith) (run_at runs l r).events;
  fresh_after = λ k s g m is lt in_runs. each_of (λ e c. let a : beat_of m ≡ 0 = first_is m in let b : (slot_at (slots_of (one_slot n)) s).slot ≡ 0 = ap (λ x. x.slot) (all_at_origin n s) in omega arith) (run_at runs k s).events;
  fresh_apart = λ g m h o lt c. let a : beat_of m ≡ 0 = first_is m in let b : beat_of o ≡ 0 = first_is o in omega arith;
  fresh_alone = λ g. alone g owned apart;
}
  where
    beat_of : ℕ → ℕ
    beat_of m = first_slot core plan delays (one_slot n) stages m

    first_is : (m : ℕ) → first_slot core plan delays (one_slot n) stages m ≡ 0
    first_is m =
        let a : first_slot core plan delays (one_slot n) stages m ≤ last_slot (slots_of (one_slot n)) = first_under core plan delays (one_slot n) n (length-replicate n 0, length-replicate n 0) stages m in
        let b : last_slot (slots_of (one_slot n)) ≤ 0 = greatest_under _ (length (slots_of (one_slot n))) 0 (λ i q. let c : (slot_at (slots_of (one_slot n)) i).slot ≡ 0 = ap (λ x. x.slot) (all_at_origin n i) in omega arith) in
        omega arith

    precedes : (k s l r : ℕ) → IsLaterRun core plan delays (slots_of (one_slot n)) runs (one_slot n) stages copies owned k s l r → Precedes (slots_of (one_slot n)) k s l r
    precedes k s l r (inl x) =
        let a : (slot_at (slots_of (one_slot n)) s).slot ≡ 0 = ap (λ y. y.slot) (all_at_origin n s) in
        inl (omega arith)
    precedes k s l r (inr x) = inr (x.0, all_at_origin n s ∙ sym (all_at_origin n r), x.1)

    alone : (g : ℕ) (ms : List ℕ) → Pairs (λ a b. a ≡ b → ⊥) ms → Pairs (λ a b. Clash core (fresh core plan delays (slots_of (one_slot n)) runs (one_slot n) stages copies owned g a) (fresh core plan delays (slots_of (one_slot n)) runs (one_slot n) stages copies owned g b)
        → fresh_beat core plan delays (slots_of (one_slot n)) runs (one_slot n) stages copies owned g a < fresh_beat core plan delays (slots_of (one_slot n)) runs (one_slot n) stages copies owned g b) ms
    alone g [] h = tt
    alone g (m ∷ ms) h = (each ms h.0, alone g ms h.1)
      where
        each : (ns : List ℕ) → Each (λ b. m ≡ b → ⊥) ns → Each (λ b. Clash core (fresh core plan delays (slots_of (one_slot n)) runs (one_slot n) stages copies owned g m) (fresh core plan delays (slots_of (one_slot n)) runs (one_slot n) stages copies owned g b)
            → fresh_beat core plan delays (slots_of (one_slot n)) runs (one_slot n) stages copies owned g m < fresh_beat core plan delays (slots_of (one_slot n)) runs (one_slot n) stages copies owned g b) ns
        each [] k = tt
        each (b ∷ ns) k = ((λ c. absurd (k.0 (eqb-true m b c.place))), each ns k.1)
