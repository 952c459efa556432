-- From the runs of a netlist to what its parts do.
use Rattle.std.specs.Prelude.{◌≡◌, ◌↔◌, ℕ, List, [], ◌∷◌, ◌++◌, count_by, Contains}
use Rattle.sp_netlist.specs.Rules.{is_done}
use Rattle.sp_netlist.specs.Signals.{Setting, Signals, IsRun}
use Rattle.sp_netlist.specs.Draft.{Draft, IsDraft, IsComplete}
use Rattle.sp_gates.specs.Nets.{HasNet, IsOpen, Awaits}
use Rattle.sp_gates.specs.Runs.{RunsOn}
use Rattle.sp_gates.specs.Grows.{Grows, AddsGates, Builds, Fills, Opens}
use Rattle.sp_gates.specs.Bits.{HasBit, IsOne}

pub record GateLaws : Type 0 where
  -- a run of a netlist runs on all of its cells, and what runs on a draft runs on each earlier one
  pub whole : (g : Setting) (s : Signals) → IsRun g s → RunsOn s g.cells
  pub earlier : (old new : Draft) (s : Signals) → Grows old new → RunsOn s new.cells → RunsOn s old.cells
  -- what is known of a net stays known
  pub net_stays : (old new : Draft) (net width : ℕ) → Grows old new → HasNet old net width → HasNet new net width
  pub bit_stays : (old new : Draft) (net : ℕ) → Grows old new → HasBit old net → HasBit new net
  pub one_stays : (old new : Draft) (net : ℕ) → Grows old new → IsOne old net → IsOne new net
  pub awaits_stays : (old new : Draft) (net width : ℕ) → Grows old new → IsOpen new net → Awaits old net width → Awaits new net width
  -- parts one after the other are one part
  pub no_growth : (d : Draft) → Fills d d []
  pub one_more : (first second third : Draft) (nets more : List ℕ) → Fills first second nets → Fills second third more → Fills first third (nets ++ more)
  -- a net that is promised, and driven by the part that comes after it, is no open net
  pub reserved : (first second third : Draft) (net : ℕ) (nets : List ℕ) → Opens first second net → Fills second third (net ∷ nets) → Fills first third nets
  -- in what order nets are listed says nothing
  pub same_nets : (old new : Draft) (nets others : List ℕ) → ((net : ℕ) → Contains nets net ↔ Contains others net) → Fills old new nets → Fills old new others
  pub no_gates : (d : Draft) → AddsGates d d
  pub more_gates : (first second third : Draft) → AddsGates first second → AddsGates second third → AddsGates first third
  -- the same of cells that aren't all gates
  pub fills_build : (old new : Draft) (nets : List ℕ) → Fills old new nets → Builds old new nets
  pub more_built : (first second third : Draft) (nets more : List ℕ) → Builds first second nets → Builds second third more → Builds first third (nets ++ more)
  pub built_reserved : (first second third : Draft) (net : ℕ) (nets : List ℕ) → Opens first second net → Builds second third (net ∷ nets) → Builds first third nets
  pub same_built : (old new : Draft) (nets others : List ℕ) → ((net : ℕ) → Contains nets net ↔ Contains others net) → Builds old new nets → Builds old new others
  -- a draft in which no net is open can be finished
  pub complete : (d : Draft) → IsDraft d → ((net : ℕ) → IsOpen d net → ⊥) → count_by is_done d.cells ≡ 1 → IsComplete d
