use Rattle.std.proofs.Common.{◌+◌, List, [], length, take, subst, sym, arith}
use Rattle.std.specs.Prelude.{Contains}
use Rattle.std.specs.List.{concat}
use Rattle.std.proofs.lemmas.List.{take_all}
use Rattle.sp_gates.proofs.Growing.{Fills-none, Fills-join}
use Rattle.sp_sequence.specs.declared.part.Slot.{Slot}
use Rattle.sp_stage_members.specs.declared.placed.PlacedChain.{PlacedChain}
use Rattle.sp_stage_members.specs.declared.placed.PlacedSlot.{PlacedSlot}
use Rattle.sp_stage_members.specs.Members.{AreChainsOf, AreSlotsOf, masks_of}
use Rattle.sp_stage_members.specs.Placed.{chains_in, places_of}
use Rattle.sp_stage_members.proofs.Making.{in_slot_of, parts_later, parts_fewer, slots_behind}
use Rattle.sp_stage_members.proofs.Standing.{shape_is, starts_are, slots_stand}
use Rattle.sp_stage_members.proofs.members.stage_members.Goals as goal

pub loop-index-init : goal.loop-index-init
loop-index-init c = record {
  fills = Fills-none _;
  slots = subst (λ (ss : List Slot). AreSlotsOf c.args.builder.now (masks_of c.args.masks.now) c.args.stages.now [] ss) (sym c.new-slots.ensures.items) tt;
}

pub slot_members-requires-clause-chains : goal.slot_members-requires-clause-chains
slot_members-requires-clause-chains c = λ s h.
    c.requires.places.below s
    (in_slot_of c.args.places.now c.loop-index.index c.index-places-index.result s c.loop-index-test.true c.index-places-index.is (subst (λ (cs : List PlacedChain). Contains (concat (chains_in cs)) s) c.deref.ensures.value h))

pub slot_members-requires-clause-stages : goal.slot_members-requires-clause-stages
slot_members-requires-clause-stages c =
    let t = c.loop-index-test.true in
    parts_later c.args.builder.now c.loop-index.builder (masks_of c.args.masks.now) (c.loop-index.index + 1) c.args.stages.now c.loop-index.invariant.fills
    (parts_fewer c.args.builder.now (masks_of c.args.masks.now) (length c.args.places.now) (c.loop-index.index + 1) c.args.stages.now (omega (arith, t)) c.requires.stages)

pub loop-index-preserved : goal.loop-index-preserved
loop-index-preserved c =
    let i = c.loop-index.invariant in
    let e = c.in_ok-slot.ensures in
    record {
      fills = Fills-join _ _ _ [] [] i.fills e.fills;
      slots = subst (λ (ss : List Slot). AreSlotsOf c.slot_members.new.builder (masks_of c.args.masks.now) c.args.stages.now (places_of (take (c.loop-index.index + 1) c.args.places.now)) ss) (sym c.in_ok-push.ensures.items)
          (slots_behind c.loop-index.builder c.slot_members.new.builder (masks_of c.args.masks.now) c.args.stages.now e.fills.grows c.loop-index.index c.args.places.now c.loop-index.slots.items c.index-places-index.result
          c.in_ok-slot.slot c.loop-index-test.true c.index-places-index.is i.slots
          (subst (λ (cs : List PlacedChain). AreChainsOf c.slot_members.new.builder (masks_of c.args.masks.now) c.args.stages.now c.loop-index.index (chains_in cs) c.in_ok-slot.slot.chains.items) c.deref.ensures.value e.chains));
    }

pub returns-clause-members : goal.returns-clause-members
returns-clause-members c =
    let t = c.loop-index-test.false in
    let b = c.loop-index.auto.index-end in
    let e = take_all c.loop-index.index c.args.places.now (omega (arith, t, b)) in
    subst (λ (ps : List PlacedSlot). AreSlotsOf c.loop-index.builder (masks_of c.args.masks.now) c.args.stages.now (places_of ps) c.loop-index.slots.items) e c.loop-index.invariant.slots

pub returns-clause-shaped : goal.returns-clause-shaped
returns-clause-shaped c = shape_is c.loop-index.builder (masks_of c.args.masks.now) c.args.stages.now (places_of c.args.places.now) c.loop-index.slots.items (returns-clause-members c)

pub returns-clause-slots : goal.returns-clause-slots
returns-clause-slots c =
    slots_stand c.loop-index.builder (masks_of c.args.masks.now) c.args.stages.now (length c.args.places.now)
    (parts_later c.args.builder.now c.loop-index.builder (masks_of c.args.masks.now) (length c.args.places.now) c.args.stages.now c.loop-index.invariant.fills c.requires.stages) (places_of c.args.places.now) c.loop-index.slots.items
    c.requires.places (returns-clause-members c)

pub returns-clause-starts : goal.returns-clause-starts
returns-clause-starts c = starts_are c.loop-index.builder (masks_of c.args.masks.now) c.args.stages.now (places_of c.args.places.now) c.loop-index.slots.items c.requires.places (returns-clause-members c)
