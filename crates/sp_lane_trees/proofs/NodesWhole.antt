-- Nodes as steps that follow, and steps by a choice.
use Rattle.std.proofs.Common.{◌≡◌, ℕ, Bool, true, false}
use Rattle.sp_core.specs.Around.{Around}
use Rattle.sp_core.specs.Invariant.{IsRight}
use Rattle.sp_core.specs.MemoryRules.{are_memories_right}
use Rattle.sp_core.specs.PlainCore.{PlainNode, PlainCore}
use Rattle.sp_core.specs.Scope.{plainly, Scope}
use Rattle.sp_core.specs.Scope as scope
use Rattle.sp_core.specs.Sequential.{run}
use Rattle.sp_core.specs.Step.{Step}
use Rattle.sp_core.specs.Store.{Store}
use Rattle.sp_fitting.specs.Laws.{NodesFit}
use Rattle.sp_lanes.specs.Order.{memory_order}
use Rattle.sp_lanes.specs.Unrolled.{unrolled, node_in}
use Rattle.sp_lanes.specs.Within.{Within}
use Rattle.sp_lane_groups.specs.LiveStores.{ScopesAgree}
use Rattle.sp_lane_groups.specs.InnersAlike.{GoAlike}
use Rattle.sp_lane_groups.specs.InnersAlong.{LeavesBut, GoesAlong}
use Rattle.sp_lane_groups.proofs.InnersFollows.{Follows}
use Rattle.std.specs.Prelude.{List}

abbrev pub Any : {A B : Type 0} → A → B → Type 0
Any a b = Unit {0}

module _ (core : PlainCore) (around : Around) (w : Within) (Left : Store → Store → Type 0) (none : (t : Store) → Left t t) (both : (t u v : Store) → Left t u → Left u v → Left t v) where
  -- a node that goes along
  pub node_follows : (nodes : NodesFit core) (memories : are_memories_right core ≡ true) (turns : ℕ) (earlier : List ℕ) (node : PlainNode) → IsRight core around earlier node → GoesAlong core turns around w node
      → ((t ended : Store) → LeavesBut core around w node t ended → Left t ended) → (plain lanes : Scope) → ScopesAgree w plain lanes
      → Follows core around w Left none both (GoAlike node) (run core plainly turns node plain) (run (unrolled core) scope.in_lanes turns (node_in (memory_order core) w node) lanes)
  node_follows nodes memories turns earlier node right goes weaker plain lanes agree s t after h fits alike ran =
      let x = goes plain lanes agree s t after h fits alike ran in
      record {
        answer = x.0;
        ended = x.1;
        ran = x.2;
        agree = x.3;
        left = weaker t x.1 x.4;
        fits = (nodes plainly turns node around earlier plain s after h memories right fits ran).left;
        related = x.5;
      }

  -- one of two, by the same test
  pub choice_follows : {A B : Type 0} (R : A → B → Type 0) (b : Bool) (one two : Step A) (one_too two_too : Step B) → Follows core around w Left none both R one one_too → Follows core around w Left none both R two two_too
      → Follows core around w Left none both R (elim b as (λ _. Step A) [ true ↦ one | false ↦ two ]) (elim b as (λ _. Step B) [ true ↦ one_too | false ↦ two_too ])
  choice_follows R true one two one_too two_too f g = f
  choice_follows R false one two one_too two_too f g = g

  -- where the two sides are related each in their own way
  pub sides_follow : {A B : Type 0} (R : Bool → A → B → Type 0) (b : Bool) (one two : Step A) (one_too two_too : Step B) → Follows core around w Left none both (R true) one one_too → Follows core around w Left none both (R false) two two_too
      → Follows core around w Left none both (R b) (elim b as (λ _. Step A) [ true ↦ one | false ↦ two ]) (elim b as (λ _. Step B) [ true ↦ one_too | false ↦ two_too ])
  sides_follow R true one two one_too two_too f g = f
  sides_follow R false one two one_too two_too f g = g
