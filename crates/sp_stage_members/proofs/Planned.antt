-- Stages by the slots and chains of a plan, and lists of places one element longer.
use Rattle.std.proofs.Common.{add-one, ◌≡◌, ℕ, ◌+◌, ◌<◌, ◌&&◌, not, nat_eq, sym, ap, ap₂, ◌∙◌, List, [], ◌∷◌, ◌++◌, length}
use Rattle.std.specs.Prelude.{slice_index, max}
use Rattle.std.proofs.lemmas.List.{map-append}
use Rattle.sp_time.specs.Beats.{Slot, slot_at, is_slot}
use Rattle.sp_time.specs.Lists.{greatest}
use Rattle.sp_machine.specs.Timeline.{slots_from}
use Rattle.sp_machine.proofs.Beats.{slots_length, slot_of_stage, chain_of_stage}
use Rattle.sp_stage_places.specs.Arranged.{is_seen, begins_chain}
use Rattle.sp_stage_members.specs.declared.placed.PlacedChain.{PlacedChain}
use Rattle.sp_stage_members.specs.declared.placed.PlacedSlot.{PlacedSlot}
use Rattle.sp_stage_members.specs.Placed.{chains_in, places_of}

slots_same : (a b : Slot) (s c t e : ℕ) → a.slot ≡ s → a.chain ≡ c → b.slot ≡ t → b.chain ≡ e → is_slot a b ≡ (nat_eq s t && nat_eq c e)
slots_same a b s c t e p q r u = ap₂ (λ x y. x && y) (ap₂ nat_eq p r) (ap₂ nat_eq q u)

pub together : (slots chains : List ℕ) (a b : ℕ) → length slots ≡ length chains → a < length slots → b < length slots
    → is_slot (slot_at (slots_from slots chains) a) (slot_at (slots_from slots chains) b) ≡ (nat_eq (slice_index slots a) (slice_index slots b) && nat_eq (slice_index chains a) (slice_index chains b))
together slots chains a b e l m =
    slots_same (slot_at (slots_from slots chains) a) (slot_at (slots_from slots chains) b) (slice_index slots a) (slice_index chains a) (slice_index slots b) (slice_index chains b)
    (slot_of_stage slots chains a e l) (chain_of_stage slots chains a e l) (slot_of_stage slots chains b e m) (chain_of_stage slots chains b e m)

pub chain_more : (chains : List PlacedChain) (c : PlacedChain) → chains_in (chains ++ c ∷ []) ≡ chains_in chains ++ c.stages.items ∷ []
chain_more chains c = map-append (λ (c : PlacedChain). c.stages.items) chains (c ∷ [])

pub slot_more : (placed : List PlacedSlot) (slot : PlacedSlot) → places_of (placed ++ slot ∷ []) ≡ places_of placed ++ chains_in slot.chains.items ∷ []
slot_more placed slot = map-append (λ (slot : PlacedSlot). chains_in slot.chains.items) placed (slot ∷ [])

pub begun : (slots chains : List ℕ) (g s : ℕ) → length slots ≡ length chains → s < length slots
    → begins_chain (slots_from slots chains) g s ≡ (nat_eq (slice_index slots s) g && not (is_seen (slots_from slots chains) (slot_at (slots_from slots chains) s) s))
begun slots chains g s e l = ap (λ k. nat_eq k g && not (is_seen (slots_from slots chains) (slot_at (slots_from slots chains) s) s)) (slot_of_stage slots chains s e l)

-- all of them, where a loop over them is over
pub at_end : (slots chains : List ℕ) (n : ℕ) → length slots ≡ length chains → n ≡ length slots → n ≡ length (slots_from slots chains)
at_end slots chains n e l = l ∙ sym (slots_length slots chains e)

pub greatest_more : (f : ℕ → ℕ) (i last x more : ℕ) → more ≡ max last x → last ≡ greatest f i → x ≡ f i → more ≡ greatest f (i + 1)
greatest_more f i last x more m l e = m ∙ ap₂ max l e ∙ ap (greatest f) (sym (add-one i))
