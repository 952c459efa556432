-- What a part of an inner body asks, and what its circuit promises.
use Rattle.std.specs.Prelude.{ℕ, ◌≤◌, List, [], ◌∷◌, Option, Some, None}
use Rattle.sp_netlist.specs.Draft.{Draft}
use Rattle.sp_netlist.specs.Signals.{Signals}
use Rattle.sp_gates.specs.Nets.{HasNet, Awaits}
use Rattle.sp_gates.specs.Runs.{RunsOn}
use Rattle.sp_pipe.specs.declared.part.Groups.{Groups}
use Rattle.sp_pipe.specs.declared.part.Part.{Part}
use Rattle.sp_pipe.specs.Acts.{AreActs}
use Rattle.sp_pipe.specs.Issues.{Issues}
use Rattle.sp_pipe.specs.Right.{OpsFit}

-- the net that the part drives, where there are counters
abbrev pub driven_of : Option Groups → List ℕ
driven_of None = []
driven_of (Some g) = g.step ∷ []

abbrev pub GroupsFit : Draft → Option Groups → Type 0
GroupsFit d None = Unit {0}
GroupsFit d (Some g) = HasNet d g.more 1 × Awaits d g.step 1

pub record PartFits (d : Draft) (part : Part) : Type 0 where
  pub start : HasNet d part.start 1
  pub groups : GroupsFit d part.groups
  pub ops : OpsFit d part.ops.items
  pub interval : 1 ≤ part.ii

-- In each run there is a wire of the issue of groups: it and the end come as they are to, and each access acts at its time
-- after the issue.
pub record IsEmitted (d : Draft) (part : Part) (done : ℕ) (nets : List ℕ) : Type 0 where
  pub issue : ℕ
  pub issue_net : HasNet d issue 1
  pub done_net : HasNet d done 1
  pub issues : (s : Signals) → RunsOn s d.cells → Issues part.groups s part.start issue done part.ii part.latency
  pub acts : AreActs d issue part.ops.items part.ops.items nets
