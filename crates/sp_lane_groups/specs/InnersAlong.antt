-- When a node of a core does in lanes what it does in the core.
use Rattle.std.specs.Prelude.{◌≡◌, ◌<◌, ◌≤◌, ◌+◌, ◌*◌, ℕ, true, false, List, length}
use Rattle.sp_core.specs.Around.{Around, is_usable}
use Rattle.sp_core.specs.Declarations.{dram_number, is_among}
use Rattle.sp_core.specs.History.{History}
use Rattle.sp_core.specs.Invariant.{IsRight, owned_in}
use Rattle.sp_core.specs.PlainCore.{PlainNode, PlainStages, inner, outer, fsm, branch, no_stage, more_stage, PlainCore}
use Rattle.sp_core.specs.Scope.{plainly, in_lanes, Scope}
use Rattle.sp_core.specs.Sequential.{run}
use Rattle.sp_core.specs.Step.{went}
use Rattle.sp_core.specs.Store.{Store}
use Rattle.sp_fitting.specs.Fitting.{StoreFits}
use Rattle.sp_lanes.specs.Order.{memory_order}
use Rattle.sp_lanes.specs.Unrolled.{unrolled, node_in}
use Rattle.sp_lanes.specs.Within.{Within}
use Rattle.sp_lane_rules.specs.Copies.{occurrences, copies_in}
use Rattle.sp_lane_rules.specs.UnrolledPlaces.{GoTogether}
use Rattle.sp_lane_groups.specs.LiveStores.{AreCopies, HoldAlike, ScopesAgree}
use Rattle.sp_lane_cores.specs.LanedMarks.{IsLaned}
use Rattle.sp_lane_groups.specs.PlainNodes.{IsNodePlain}
use Rattle.sp_lane_groups.specs.InnersAlike.{GoAlike}
use Rattle.sp_lane_groups.specs.Waiting.{ResetsFirst, waits_in}

module _ (core : PlainCore) where
  -- what the stores of a core and of its lanes hold at a place: what may be used there, and DRAMs, which have no copies
  pub record AgreeAt (around : Around) (w : Within) (plain lanes : Store) : Type 0 where
    pub memories : HoldAlike core around w plain lanes
    pub drams : (r : ℕ) → lanes (dram_number (unrolled core) r) ≡ plain (dram_number core r)

  -- a memory of lanes that may not be used at the place, and isn't owned in a node there, holds what it did
  abbrev pub LeavesBut : Around → Within → PlainNode → (before after : Store) → Type 0
  LeavesBut around w node before after =
      (n : ℕ) → n < length (unrolled core).mems → ((m : ℕ) → is_usable core around m ≡ true → w.number m ≡ n → ⊥) → is_among n (owned_in (node_in (memory_order core) w node)) ≡ false → after n ≡ before n

  -- the node goes along: wherever it runs in the core, it runs in lanes, from stores that agree to stores that agree, and what is
  -- done goes alike
  abbrev pub GoesAlong : (turns : ℕ) → Around → Within → PlainNode → Type 0
  GoesAlong turns around w node =
      (plain lanes : Scope) → ScopesAgree w plain lanes → (s t after : Store) (h : History) → StoreFits core s → AgreeAt around w s t → run core plainly turns node plain s ≡ went h after
      → (g : History) × (ended : Store) × (run (unrolled core) in_lanes turns (node_in (memory_order core) w node) lanes t ≡ went g ended) × AgreeAt around w after ended × LeavesBut around w node t ended
      × GoAlike node h g

  -- in each inner body of a node what it owns is reset before it is used, where it has a reset operation
  abbrev mutual
    pub BodiesResetFirst : PlainNode → Type 0
    BodiesResetFirst (inner counters owned ops comb) = ResetsFirst (waits_in core owned) ops
    BodiesResetFirst (outer counters style owned stages) = StagesResetFirst stages
    BodiesResetFirst (fsm start state test body next) = BodiesResetFirst body
    BodiesResetFirst (branch test first second) = BodiesResetFirst first × BodiesResetFirst second
    BodiesResetFirst node = Unit {0}

    pub StagesResetFirst : PlainStages → Type 0
    StagesResetFirst no_stage = Unit {0}
    StagesResetFirst (more_stage first last comb node rest) = BodiesResetFirst node × StagesResetFirst rest

  -- a node at a place of a core, whose lanes stand at a place that goes together with it. Nodes before it own all that is owned
  -- around it, and what it owns has as many copies as the copies of this place ask
  pub record StandsIn (around inside : Around) (earlier : List ℕ) (w : Within) (node : PlainNode) : Type 0 where
    pub together : GoTogether core (unrolled core) around inside w
    pub copies : AreCopies core around w
    pub owned_before : (m : ℕ) → is_among m around.owned ≡ true → is_among m earlier ≡ true
    pub enough : (m : ℕ) → (w.copy + 1) * copies_in node m ≤ occurrences m (memory_order core)
    pub right : IsRight core around earlier node
    pub laned : IsLaned core node
    pub plain : IsNodePlain node
    pub resets : BodiesResetFirst node
