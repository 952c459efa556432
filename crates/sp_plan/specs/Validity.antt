-- When a plan of a core is valid, for forms and meets of its accesses.
use Rattle.std.specs.Prelude.{◌≡◌, ℕ, ◌+◌, ◌==◌, Bool, true, false, ◌&&◌, ◌||◌, not, IsTrue, List, map, length, Option, Some, None}
use Rattle.std.specs.List.{list_all}
use Rattle.sp_bank.specs.Banking.{Banking}
use Rattle.sp_core.specs.declared.access.Meet.{Meet}
use Rattle.sp_core.specs.Declarations.{mem, is_stream}
use Rattle.sp_core.specs.Elements.{numbers_below}
use Rattle.sp_core.specs.Forms.{PlainForms}
use Rattle.sp_core.specs.Numbering.{node_count, counters_size}
use Rattle.sp_core.specs.PlainCore.{PlainCounter, PlainNode, PlainStages, inner, outer, no_stage, more_stage, PlainCore}
use Rattle.sp_plan.specs.Bodies.{are_times_right}
use Rattle.sp_plan.specs.Copies.{is_loop, are_copied, is_single, is_duplicated}
use Rattle.sp_plan.specs.Groups.{are_grouped, Separated}
use Rattle.sp_plan.specs.Nodes.{NodeRule, holds_of_each}
use Rattle.sp_plan.specs.PlainPlan.{PlainMemPlan, PlainNodePlan, inner_plan, outer_plan, other_plan, PlainPlan, mem_plan, node_plan}
use Rattle.sp_plan.specs.Slots.{StageRun, runs_of, are_slots_right, are_held, are_chains_right}
use Rattle.sp_words.specs.declared.kind.Kind.{Kind}
use Rattle.sp_words.specs.declared.kind.Style.{Style}
use Rattle.sp_words.specs.declared.kind.Kind.TheVariants.{Sram, LineBuf}

abbrev pub schemes_of : PlainPlan → List (Option Banking)
schemes_of plan = map (λ (m : PlainMemPlan). m.scheme) plan.mems

-- the dimensions by which a memory is banked: all of an SRAM, the columns of a line buffer
abbrev pub has_rank : Kind → (dims rank : ℕ) → Bool
has_rank Sram dims rank = rank == dims
has_rank LineBuf dims rank = rank == 1
has_rank kind dims rank = false

abbrev pub stage_count : PlainStages → ℕ
stage_count no_stage = 0
stage_count (more_stage first last comb node rest) = 1 + stage_count rest

-- a slot and a chain for each stage, and none of a `Stream` block
abbrev pub has_slots : (stream : Bool) → (stages slots chains : ℕ) → Bool
has_slots true n slots chains = (slots == 0) && (chains == 0)
has_slots false n slots chains = (slots == n) && (chains == n)

-- a node's plan is of its kind; an inner body has a time for each operation
abbrev pub is_kind_of : PlainNode → PlainNodePlan → Bool
is_kind_of (inner counters owned ops comb) (inner_plan times ii latency serial) = length times == length ops
is_kind_of (outer counters style owned stages) (outer_plan slots chains) = has_slots (is_stream style) (stage_count stages) (length slots) (length chains)
is_kind_of (inner counters owned ops comb) _ = false
is_kind_of (outer counters style owned stages) _ = false
is_kind_of node other_plan = true
is_kind_of node _ = false

-- a scheme is one of a memory with banks, of its rank
abbrev pub fits_scheme : PlainCore → (mem : ℕ) → Option Banking → Bool
fits_scheme core m None = true
fits_scheme core m (Some b) = has_rank (mem core m).kind (length (mem core m).dims) (length b.alpha)

-- slots that hold together what meets, and chains
abbrev pub are_divided_right : PlainCore → List Meet → List StageRun → List PlainCounter → Style → (owned slots chains : List ℕ) → Bool
are_divided_right core meets runs counters style owned slots chains =
    are_slots_right runs slots chains counters style && (are_held runs slots chains core owned counters meets && are_chains_right runs slots chains core counters style meets)

module _ (core : PlainCore) (forms : PlainForms) (meets : List Meet) (plan : PlainPlan) where
  abbrev pub is_scheme_right : ℕ → Bool
  is_scheme_right m = fits_scheme core m (mem_plan plan m).scheme

  abbrev pub kind_rule : NodeRule
  kind_rule k n streamed node = is_kind_of node (node_plan plan k)

  abbrev pub group_rule : NodeRule
  group_rule k n streamed (inner counters owned ops comb) = are_grouped core forms (schemes_of plan) (n + counters_size counters) ops
  group_rule k n streamed node = true

  abbrev pub is_timed : (number : ℕ) → (streamed : Bool) → PlainNode → PlainNodePlan → Bool
  is_timed n streamed (inner counters owned ops comb) (inner_plan times ii latency serial) =
      are_times_right core (schemes_of plan) meets (n + counters_size counters) streamed ops times ii latency serial
  is_timed n streamed node _ = true

  abbrev pub time_rule : NodeRule
  time_rule k n streamed node = is_timed n streamed node (node_plan plan k)

  -- the slots and chains of an outer body that is no `Stream` block
  abbrev pub are_runs_right : (number : ℕ) → PlainNode → PlainNodePlan → Bool
  are_runs_right n (outer counters style owned stages) (outer_plan slots chains) =
      is_stream style || are_divided_right core meets (runs_of (n + counters_size counters) stages) counters style owned slots chains
  are_runs_right n node _ = true

  abbrev pub slot_rule : NodeRule
  slot_rule k n streamed node = are_runs_right n node (node_plan plan k)

  abbrev pub copy_rule : NodeRule
  copy_rule k n streamed (outer counters style owned stages) = not (is_loop counters && not (is_stream style)) || are_copied core plan k owned stages
  copy_rule k n streamed node = true

  abbrev pub EachNode : NodeRule → Type 0
  EachNode rule = IsTrue (holds_of_each rule 0 0 false core.root)

  abbrev pub EachMem : (ℕ → Bool) → Type 0
  EachMem holds = IsTrue (list_all holds (numbers_below (length core.mems)))

  pub record IsValid : Type 0 where
    -- one entry for each memory and for each node, of the node's kind
    pub memories : length plan.mems ≡ length core.mems
    pub nodes : length plan.nodes ≡ node_count core.root
    pub kinds : EachNode kind_rule
    -- schemes are of memories with banks, and of their rank
    pub schemes : EachMem is_scheme_right
    -- the accesses of a body to one port of a memory with a scheme are one group, which the scheme keeps apart
    pub groups : EachNode group_rule
    pub separated : Separated core forms (schemes_of plan) 0 core.root
    -- times, intervals and latencies
    pub times : EachNode time_rule
    -- slots that hold together what meets, and chains
    pub slots : EachNode slot_rule
    -- copies and duplicates
    pub copied : EachNode copy_rule
    pub single : EachMem (is_single core plan)
    pub duplicated : EachMem (is_duplicated core plan)
