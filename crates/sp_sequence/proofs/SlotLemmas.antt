-- Slots, one more before some.
use Rattle.std.proofs.Common.{◌≡◌, ℕ, zero, suc, ◌<◌, Bool, List, [], ◌∷◌, length, slice_index, refl, sym, ap, subst, ◌∙◌, arith}
use mathlib.Core.Path.{fun_ext}
use Rattle.sp_netlist.specs.Draft.{Draft}
use Rattle.sp_netlist.specs.Signals.{Signals}
use Rattle.sp_gates.specs.Grows.{Grows}
use Rattle.sp_gates.specs.Nets.{HasNet}
use Rattle.sp_gates.specs.Tested.{is_on}
use Rattle.sp_gates.proofs.Growing.{HasNet-stays}
use Rattle.sp_sequence.specs.declared.part.Slot.{Slot}
use Rattle.sp_sequence.specs.Members.{IsAfter}
use Rattle.sp_sequence.specs.Joins.{chains_over, ChainsStart, is_end}
use Rattle.sp_sequence.specs.Slots.{RunsSlots, ended, begun, AreFirsts}

pub no_firsts : (d : Draft) (slots : List Slot) (firsts : List ℕ) → slots ≡ [] → firsts ≡ [] → AreFirsts d slots firsts
no_firsts d slots firsts e f =
    subst (λ xs. AreFirsts d xs firsts) (sym e) (subst (λ ns. AreFirsts d [] ns) (sym f) (record { each = refl; nets = λ k l. absurd (omega (arith, l)) }))

pub more_firsts : (d : Draft) (slot : Slot) (slots : List Slot) (first : ℕ) (firsts : List ℕ) → HasNet d first 1 → AreFirsts d slots firsts → AreFirsts d (slot ∷ slots) (first ∷ firsts)
more_firsts d slot slots first firsts h k = record { each = ap suc k.each; nets = nets }
  where
    nets : (i : ℕ) → i < length (slot ∷ slots) → HasNet d (slice_index (first ∷ firsts) i) 1
    nets zero l = h
    nets (suc i) l = k.nets i (omega (arith, l))

pub firsts_stay : (a b : Draft) (slots : List Slot) (firsts : List ℕ) → Grows a b → AreFirsts a slots firsts → AreFirsts b slots firsts
firsts_stay a b slots firsts g h = record { each = h.each; nets = λ k l. HasNet-stays a b (slice_index firsts k) 1 g (h.nets k l) }

pub no_slots : (s : Signals) (cause done : ℕ → Bool) (slots : List Slot) (firsts : List ℕ) → slots ≡ [] → firsts ≡ [] → IsAfter done cause → RunsSlots s cause slots firsts done
no_slots s cause done slots firsts e f h = subst (λ xs. RunsSlots s cause xs firsts done) (sym e) (subst (λ ns. RunsSlots s cause [] ns done) (sym f) (ended h))

pub more_slots : (s : Signals) (cause done all end : ℕ → Bool) (slot : Slot) (slots : List Slot) (first : ℕ) (firsts : List ℕ) → IsAfter (is_on s first) cause → ChainsStart s (is_on s first) slot.chains.items
    → ((t : ℕ) → all t ≡ chains_over s (is_on s first) slot.chains.items t) → ((t : ℕ) → end t ≡ is_end (is_on s first) all t) → RunsSlots s end slots firsts done → RunsSlots s cause (slot ∷ slots) (first ∷ firsts) done
more_slots s cause done all end slot slots first firsts a starts over ends rest =
    begun a starts (subst (λ w. RunsSlots s w slots firsts done) (fun_ext ends ∙ ap (is_end (is_on s first)) (fun_ext over)) rest)
