use Rattle.std.proofs.Common.{◌+◌, ℕ, List, [], take, subst, sym}
use Rattle.std.specs.Prelude.{Contains}
use Rattle.sp_gates.proofs.Growing.{Fills-none, Fills-join}
use Rattle.sp_sequence.specs.declared.part.Chain.{Chain}
use Rattle.sp_stage_members.specs.Members.{AreMembersOf, AreChainsOf, masks_of}
use Rattle.sp_stage_members.specs.Placed.{chains_in}
use Rattle.sp_stage_members.proofs.Making.{in_chain_of, parts_later, chains_behind}
use Rattle.sp_stage_members.proofs.members.slot_members.Goals as goal

pub loop-index-init : goal.loop-index-init
loop-index-init c = record {
  fills = Fills-none _;
  chains = subst (λ (cs : List Chain). AreChainsOf c.args.builder.now (masks_of c.args.masks.now) c.args.stages.now c.args.slot [] cs) (sym c.new-found.ensures.items) tt;
}

pub chain_members-requires-clause-chain : goal.chain_members-requires-clause-chain
chain_members-requires-clause-chain c = λ s h.
    c.requires.chains s (in_chain_of c.args.chains.now c.loop-index.index c.index-chains-index.result s c.loop-index-test.true c.index-chains-index.is (subst (λ (ns : List ℕ). Contains ns s) c.deref.ensures.value h))

pub chain_members-requires-clause-stages : goal.chain_members-requires-clause-stages
chain_members-requires-clause-stages c = parts_later c.args.builder.now c.loop-index.builder (masks_of c.args.masks.now) (c.args.slot + 1) c.args.stages.now c.loop-index.invariant.fills c.requires.stages

pub loop-index-preserved : goal.loop-index-preserved
loop-index-preserved c =
    let i = c.loop-index.invariant in
    let e = c.in_ok-members.ensures in
    record {
      fills = Fills-join _ _ _ [] [] i.fills e.fills;
      chains = subst (λ (cs : List Chain). AreChainsOf c.chain_members.new.builder (masks_of c.args.masks.now) c.args.stages.now c.args.slot (chains_in (take (c.loop-index.index + 1) c.args.chains.now)) cs) (sym c.in_ok-push.ensures.items)
          (chains_behind c.loop-index.builder c.chain_members.new.builder (masks_of c.args.masks.now) c.args.stages.now e.fills.grows c.args.slot c.loop-index.index c.args.chains.now c.loop-index.found.items c.index-chains-index.result
          c.in_ok-members.members c.loop-index-test.true c.index-chains-index.is i.chains
          (subst (λ (ns : List ℕ). AreMembersOf c.chain_members.new.builder (masks_of c.args.masks.now) c.args.stages.now c.args.slot ns c.in_ok-members.members.members.items) c.deref.ensures.value e.members));
    }
