-- Stages of which the last one combines the elements of a memory, and the others.
use Rattle.std.specs.Prelude.{◌≡◌, ℕ, Bool, true, false, List, [], Some}
use Rattle.std.specs.List.{All}
use Rattle.sp_words.specs.declared.kind.Kind.TheVariants.{Sram}
use Rattle.sp_words.specs.declared.types.Ty.{Ty}
use Rattle.sp_words.specs.Interface.{IsCount}
use Rattle.sp_tree.specs.declared.statement.Comb.{Comb}
use Rattle.sp_tree.specs.PlainProgram.{PlainMem}
use Rattle.sp_core.specs.Declarations.{kind_of, dims, is_among}
use Rattle.sp_core.specs.Footprint.{ListNames, NodeNames}
use Rattle.sp_core.specs.PlainCore.{PlainOp, PlainNode, PlainStages, inner, no_stage, more_stage, PlainCore}
use Rattle.sp_sugar.specs.Combination.{element_counters}
use Rattle.sp_lane_cores.specs.LanedMarks.{element, is_other}
use Rattle.sp_lane_cores.specs.EndingsEnding.{EndsIn}
use Rattle.sp_lane_trees.specs.ReductionsReduction.{AreStill}

module _ (core : PlainCore) where
  -- an inner body that goes over the elements of a memory and combines a word into each, in a loop that owns these memories. What it
  -- does before changes nothing, and names only what the loop owns; what isn't its own are the memories that pass the test
  pub record CombinesElements (owned : List ℕ) (is : ℕ → Bool) (node : PlainNode) : Type 0 where
    pub mems : List PlainMem
    pub word : ℕ
    pub counter : ℕ
    pub sizes : List ℕ
    pub acc : ℕ
    pub begun : ℕ
    pub ty : Ty
    pub comb : Comb
    pub ops : List PlainOp
    pub at : ℕ
    pub node_is : node ≡ inner (element_counters counter sizes) [] ops (Some at)
    pub tests : is_other (element mems word counter sizes acc begun ty comb) ≡ is
    pub ends : EndsIn core owned ops at (element mems word counter sizes acc begun ty comb)
    pub still : AreStill ends.combined.before
    pub own : ListNames core (λ m. is_among m owned) ends.combined.before
    pub counts : All IsCount sizes
    pub sram : kind_of core acc ≡ Sram
    pub sized : dims core acc ≡ sizes

  -- the last stage combines elements, and no other stage names what is the combination's own
  abbrev pub LastElements : (owned : List ℕ) → (is : ℕ → Bool) → PlainStages → Type 0
  LastElements owned is (more_stage first last false node rest) = NodeNames core is node × LastElements owned is rest
  LastElements owned is (more_stage first last true node no_stage) = CombinesElements owned is node
  LastElements owned is stages = ⊥
