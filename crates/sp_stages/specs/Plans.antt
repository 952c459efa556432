-- The finest slots and chains of the node of a number, and its plan.
use Rattle.std.specs.Prelude.{◌≡◌, ℕ, ◌+◌, Bool, true, false, IsTrue, List, [], Option, Some, None}
use Rattle.sp_core.specs.declared.access.Meet.{Meet}
use Rattle.sp_core.specs.Declarations.{is_stream}
use Rattle.sp_core.specs.Numbering.{counters_size}
use Rattle.sp_core.specs.PlainCore.{PlainCounter, PlainNode, outer, PlainCore}
use Rattle.sp_core.specs.Forms.{PlainForms}
use Rattle.sp_plan.specs.Nodes.{Site, site_at, keeps_at}
use Rattle.sp_plan.specs.PlainPlan.{PlainNodePlan, outer_plan, other_plan, PlainPlan, node_plan}
use Rattle.sp_plan.specs.Slots.{StageRun, runs_of}
use Rattle.sp_stages.specs.Finest.{AreFinestSlots, AreFinestChains}
use Rattle.sp_plan.specs.Validity.{kind_rule, slot_rule}
use Rattle.sp_words.specs.declared.kind.Style.{Style}

abbrev pub is_outer : PlainNode → Bool
is_outer (outer counters style owned stages) = true
is_outer node = false

abbrev pub is_outer_at : Option Site → Bool
is_outer_at None = false
is_outer_at (Some site) = is_outer site.node

-- the node of a number is an outer body
abbrev pub is_outer_of : PlainCore → (node : ℕ) → Bool
is_outer_of core k = is_outer_at (site_at k 0 false core.root)

module _ (core : PlainCore) (meets : List Meet) where
  -- the slots of a body, one for each stage; of a `Stream` block there are none
  abbrev pub AreFinestIn : (stream : Bool) → List PlainCounter → Style → (owned : List ℕ) → List StageRun → (slots : List ℕ) → Type 0
  AreFinestIn true counters style owned runs slots = slots ≡ []
  AreFinestIn false counters style owned runs slots = AreFinestSlots core meets counters style owned runs slots

  -- of a node that is no outer body there are none
  abbrev pub AreFinestOf : Site → PlainNode → (slots : List ℕ) → Type 0
  AreFinestOf site (outer counters style owned stages) slots = AreFinestIn (is_stream style) counters style owned (runs_of (site.number + counters_size counters) stages) slots
  AreFinestOf site node slots = slots ≡ []

  abbrev pub AreFinestAt : Option Site → (slots : List ℕ) → Type 0
  AreFinestAt (Some site) slots = AreFinestOf site site.node slots
  AreFinestAt None slots = slots ≡ []

  abbrev pub AreFinestSlotsOf : (node : ℕ) → (slots : List ℕ) → Type 0
  AreFinestSlotsOf k slots = AreFinestAt (site_at k 0 false core.root) slots

  module _ (slots : List ℕ) where
    -- the chains of a body whose stages have these slots, one for each stage; of a `Stream` block there are none
    abbrev pub AreFinestChainsIn : (stream : Bool) → List PlainCounter → Style → (owned : List ℕ) → List StageRun → (chains : List ℕ) → Type 0
    AreFinestChainsIn true counters style owned runs chains = chains ≡ []
    AreFinestChainsIn false counters style owned runs chains = AreFinestChains core meets counters style owned runs slots chains

    abbrev pub AreFinestChainsFrom : Site → PlainNode → (chains : List ℕ) → Type 0
    AreFinestChainsFrom site (outer counters style owned stages) chains = AreFinestChainsIn (is_stream style) counters style owned (runs_of (site.number + counters_size counters) stages) chains
    AreFinestChainsFrom site node chains = chains ≡ []

    abbrev pub AreFinestChainsAt : Option Site → (chains : List ℕ) → Type 0
    AreFinestChainsAt (Some site) chains = AreFinestChainsFrom site site.node chains
    AreFinestChainsAt None chains = chains ≡ []

    abbrev pub AreFinestChainsOf : (node : ℕ) → (chains : List ℕ) → Type 0
    AreFinestChainsOf k chains = AreFinestChainsAt (site_at k 0 false core.root) chains

  -- finest slots, and the finest chains for them; of a node that is no outer body nothing is planned
  abbrev pub IsFinestBy : (node : ℕ) → (is_outer : Bool) → PlainNodePlan → Type 0
  IsFinestBy k true (outer_plan slots chains) = AreFinestSlotsOf k slots × AreFinestChainsOf slots k chains
  IsFinestBy k true _ = ⊥
  IsFinestBy k false plan = plan ≡ other_plan

  abbrev pub IsFinestPlan : (node : ℕ) → PlainNodePlan → Type 0
  IsFinestPlan k plan = IsFinestBy k (is_outer_of core k) plan

  -- in each plan with this one of a node, the node keeps the rules of valid plans on kinds, slots and chains
  pub record IsRightPlan (node : ℕ) (mine : PlainNodePlan) : Type 0 where
    pub kind : (forms : PlainForms) (plan : PlainPlan) → node_plan plan node ≡ mine → IsTrue (keeps_at (kind_rule core forms meets plan) node (site_at node 0 false core.root))
    pub slots : (forms : PlainForms) (plan : PlainPlan) → node_plan plan node ≡ mine → IsTrue (keeps_at (slot_rule core forms meets plan) node (site_at node 0 false core.root))
