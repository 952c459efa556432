use Rattle.std.proofs.Common.{◌+◌, List, [], refl, get_or, take, subst, sym, arith}
use Rattle.sp_gates.proofs.Growing.{Fills-none, Fills-join}
use Rattle.sp_sequence.specs.declared.part.Member.{Member}
use Rattle.sp_stage_members.specs.Members.{PartFits, AreMembersOf, masks_of}
use Rattle.sp_stage_members.proofs.Making.{at_in, part_found, told_within, member_is, members_behind}
use Rattle.sp_stage_members.proofs.members.chain_members.Goals as goal

pub loop-number-init : goal.loop-number-init
loop-number-init c = record {
  fills = Fills-none _;
  members = subst (λ (ms : List Member). AreMembersOf c.args.builder.now (masks_of c.args.masks.now) c.args.stages.now c.args.slot [] ms) (sym c.new-members.ensures.items) tt;
}

pub bounds-stages-chain : goal.bounds-stages-chain
bounds-stages-chain c = c.requires.chain _ (at_in c.args.chain.now c.loop-number.number c.loop-number-test.true)

pub offset_bounds-stages-chain : goal.offset_bounds-stages-chain
offset_bounds-stages-chain c = let b = c.requires.chain _ (at_in c.args.chain.now c.loop-number.number c.loop-number-test.true) in omega (arith, b)

pub stage_wanted-requires-clause-order : goal.stage_wanted-requires-clause-order
stage_wanted-requires-clause-order c =
    let n = get_or c.args.chain.now c.loop-number.number 0 in
    let l = c.requires.chain n (at_in c.args.chain.now c.loop-number.number c.loop-number-test.true) in
    let p = c.index-stages-chain.result in
    (subst (PartFits c.args.builder.now (masks_of c.args.masks.now) (c.args.slot + 1)) (part_found c.args.stages.now n p l c.index-stages-chain.is) (c.requires.stages.each n l)).order

pub stage_wanted-requires-clause-lanes : goal.stage_wanted-requires-clause-lanes
stage_wanted-requires-clause-lanes c =
    let n = get_or c.args.chain.now c.loop-number.number 0 in
    let l = c.requires.chain n (at_in c.args.chain.now c.loop-number.number c.loop-number-test.true) in
    let p = c.index-stages-chain.result in
    let t = c.told_row.ensures in
    let w = told_within c.args.slot c.loop-number.number in
    λ o.
    (subst (PartFits c.args.builder.now (masks_of c.args.masks.now) (c.args.slot + 1)) (part_found c.args.stages.now n p l c.index-stages-chain.is) (c.requires.stages.each n l)).lanes o c.told_row.result (omega (arith, t, w))

pub loop-number-preserved : goal.loop-number-preserved
loop-number-preserved c =
    let i = c.loop-number.invariant in
    let e = c.in_ok-wanted.ensures in
    let n = get_or c.args.chain.now c.loop-number.number 0 in
    let l = c.requires.chain n (at_in c.args.chain.now c.loop-number.number c.loop-number-test.true) in
    let p = c.index-stages-chain.result in
    record {
      fills = Fills-join _ _ _ [] [] i.fills e.fills;
      members = subst (λ (ms : List Member). AreMembersOf c.stage_wanted.new.builder (masks_of c.args.masks.now) c.args.stages.now c.args.slot (take (c.loop-number.number + 1) c.args.chain.now) ms) (sym c.in_ok-push.ensures.items)
          (members_behind c.loop-number.builder c.stage_wanted.new.builder (masks_of c.args.masks.now) c.args.stages.now e.fills.grows c.args.slot c.loop-number.number c.args.chain.now c.loop-number.members.items n
          (record { child = p.child; wanted = c.in_ok-wanted.wanted }) c.loop-number-test.true refl i.members
          (member_is c.stage_wanted.new.builder (masks_of c.args.masks.now) c.args.stages.now p c.args.slot c.loop-number.number n c.told_row.result c.in_ok-wanted.wanted (part_found c.args.stages.now n p l c.index-stages-chain.is) c.told_row.ensures
          e.fits e.told));
    }
