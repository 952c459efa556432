-- What holds of each node of a core, by the node's number, the number of its first operation, and whether it is a stage of a
-- `Stream` block.
use Rattle.std.specs.Prelude.{ℕ, zero, suc, ◌+◌, ◌-◌, nat_lt, Bool, true, false, ◌&&◌, length, Option, Some, None, if◌then◌else◌}
use Rattle.sp_core.specs.Declarations.{is_stream}
use Rattle.sp_core.specs.Numbering.{node_count, counters_size, number_count}
use Rattle.sp_core.specs.PlainCore.{PlainNode, PlainStages, outer, fsm, branch, no_stage, more_stage}

abbrev pub NodeRule : Type 0
NodeRule = (node number : ℕ) → (streamed : Bool) → PlainNode → Bool

module _ (holds : NodeRule) where
  abbrev mutual
    pub holds_of_each : NodeRule
    holds_of_each k n streamed (outer counters style owned stages) =
        holds k n streamed (outer counters style owned stages) && holds_of_stages (suc k) (n + counters_size counters) (is_stream style) stages
    holds_of_each k n streamed (fsm start state test body next) =
        holds k n streamed (fsm start state test body next) && holds_of_each (suc k) (n + (length start + length test)) false body
    holds_of_each k n streamed (branch test first second) =
        holds k n streamed (branch test first second)
        && (holds_of_each (suc k) (n + length test) false first
        && holds_of_each (suc k + node_count first) ((n + length test) + number_count first) false second)
    holds_of_each k n streamed node = holds k n streamed node

    pub holds_of_stages : (node number : ℕ) → (streamed : Bool) → PlainStages → Bool
    holds_of_stages k n streamed no_stage = true
    holds_of_stages k n streamed (more_stage first last comb node rest) =
        holds_of_each k n streamed node && holds_of_stages (k + node_count node) (n + number_count node) streamed rest

-- a node, with the number of its first operation, and whether it is a stage of a `Stream` block
pub record Site : Type 0 where
  pub number : ℕ
  pub streamed : Bool
  pub node : PlainNode

-- the node of a number, in preorder
abbrev mutual
  pub site_at : (wanted number : ℕ) → (streamed : Bool) → PlainNode → Option Site
  site_at zero n streamed node = Some (record { number = n; streamed = streamed; node = node })
  site_at (suc k) n streamed (outer counters style owned stages) = stage_site_at k (n + counters_size counters) (is_stream style) stages
  site_at (suc k) n streamed (fsm start state test body next) = site_at k (n + (length start + length test)) false body
  site_at (suc k) n streamed (branch test first second) =
      if nat_lt k (node_count first) then site_at k (n + length test) false first
      else site_at (k - node_count first) ((n + length test) + number_count first) false second
  site_at (suc k) n streamed node = None

  pub stage_site_at : (wanted number : ℕ) → (streamed : Bool) → PlainStages → Option Site
  stage_site_at k n streamed no_stage = None
  stage_site_at k n streamed (more_stage first last comb node rest) =
      if nat_lt k (node_count node) then site_at k n streamed node
      else stage_site_at (k - node_count node) (n + number_count node) streamed rest

-- the node of a number keeps a rule; there is nothing to keep where there is none
abbrev pub keeps_at : NodeRule → (node : ℕ) → Option Site → Bool
keeps_at rule k None = true
keeps_at rule k (Some site) = rule k site.number site.streamed site.node
