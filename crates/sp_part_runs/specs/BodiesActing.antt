-- The runs of an inner body with what was done in each of their groups, and when its accesses act.
use Rattle.std.specs.Prelude.{◌≡◌, ℕ, ◌+◌, ◌<◌, ◌≤◌, true, List, [], length, map, slice_index_or}
use Rattle.std.specs.List.{Contains}
use Rattle.sp_netlist.specs.Draft.{Draft}
use Rattle.sp_netlist.specs.Signals.{Signals}
use Rattle.sp_gates.specs.Tested.{is_on}
use Rattle.sp_core.specs.History.{Entry, word_at}
use Rattle.sp_core.specs.PlainCore.{PlainOp}
use Rattle.sp_core.specs.Scope.{Scope}
use Rattle.sp_pipe.specs.declared.part.PipeOp.{PipeOp}
use Rattle.sp_pipe.specs.Laws.{issue_cycle}
use Rattle.sp_part_runs.specs.ActsCircuits.{AreGiven, AreAnswered}
use Rattle.sp_part_runs.specs.ActsEntries.{entry_at}
use Rattle.sp_part_runs.specs.ActsLaws.{IsGroup, is_made}
use Rattle.sp_part_runs.specs.BodiesRuns.{Begun, IsOnAt}

-- a run from a cycle on, with the counters of each of its groups and what the operations did in it
pub record BodyRun : Type 0 where
  pub cycle : ℕ
  pub scopes : (group : ℕ) → Scope
  pub groups : List (List Entry)

abbrev pub begun : BodyRun → Begun
begun r = record { cycle = r.cycle; groups = length r.groups }

abbrev pub entries_of : BodyRun → (group : ℕ) → List Entry
entries_of r g = slice_index_or r.groups g []

module _ (interval : ℕ) where
  abbrev pub group_cycle : BodyRun → (group : ℕ) → ℕ
  group_cycle r g = issue_cycle r.cycle interval g

  -- a group is what the operations of a circuit did; where it is issued the nets of counters have its words, and up to a
  -- cycle its accesses are answered with what they found
  pub record DoesGroup (d : Draft) (ops : List PlainOp) (ps : List PipeOp) (s : Signals) (last : ℕ) (r : BodyRun) (g : ℕ) : Type 0 where
    pub group : IsGroup d (r.scopes g) ops ps (entries_of r g)
    pub given : group_cycle r g ≤ last → AreGiven s (group_cycle r g) (r.scopes g) ops ps
    pub answered : AreAnswered s (group_cycle r g) last ps (entries_of r g)

  module _ (runs : List BodyRun) where
    -- the access at a place was made in a group, and acts so many cycles after the group's issue
    abbrev pub Acts : (place time : ℕ) → (t : ℕ) → Type 0
    Acts k time t = (r : BodyRun) × (g : ℕ) × Contains runs r × (g < length r.groups) × (is_made (entry_at (entries_of r g) k) ≡ true) × (t ≡ group_cycle r g + time)

    -- up to a cycle an access is enabled where it was made and nowhere else, with the words that it took
    pub record AccessRight (s : Signals) (last : ℕ) (k : ℕ) (p : PipeOp) (enable : ℕ) (operands : List ℕ) : Type 0 where
      pub enabled : IsOnAt (is_on s enable) (Acts k p.time) last
      pub words : (r : BodyRun) (g : ℕ) → Contains runs r → g < length r.groups → group_cycle r g + p.time ≤ last → map (s.net (group_cycle r g + p.time)) operands ≡ map (word_at (entries_of r g)) p.args.items
