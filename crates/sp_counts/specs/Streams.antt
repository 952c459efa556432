-- Stages of Stream blocks, and the FIFOs that join them, without where they lie in memory.
use Rattle.std.specs.Prelude.{◌≡◌, ℕ, ◌<◌, true, false, List, [], ◌∷◌, map, Option, Some, None}
use Rattle.std.specs.Global.{Vec}
use Rattle.sp_tree.specs.PlainStatement.{PlainStmts}
use Rattle.sp_tree.specs.Streams as plain
use Rattle.sp_counts.specs.declared.stream.StreamStage.{StreamStage}
use Rattle.sp_counts.specs.declared.forest.Edge.{Edge}
use Rattle.sp_counts.specs.Tallies.{tally_of}

abbrev pub stage_of : StreamStage → plain.StreamStage
stage_of s = record { bounds = tally_of s.bounds; whole = tally_of s.whole }

abbrev pub edge_of : Edge → ℕ × ℕ
edge_of e = (e.one, e.two)

-- the stages of a body, if each of its statements is a declaration or a stage
abbrev pub AreStages : PlainStmts → Option (Vec StreamStage) → Type 0
AreStages body (Some all) = (plain.are_stages body ≡ true) × (map stage_of all.items ≡ plain.stream_stages body)
AreStages body None = plain.are_stages body ≡ false

-- both ends of each edge are below a number
abbrev pub AreBelow : ℕ → List (ℕ × ℕ) → Type 0
AreBelow n [] = Unit {0}
AreBelow n ((a, b) ∷ edges) = (a < n) × (b < n) × AreBelow n edges
