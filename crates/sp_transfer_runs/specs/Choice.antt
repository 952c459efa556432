-- A choice of delays for the runs of a transfer, by their paths.
use Rattle.std.specs.Prelude.{◌≡◌, ℕ, ◌+◌, ◌==◌, ◌&&◌, Bool, true, false, if◌then◌else◌, List, [], ◌∷◌, map}
use Rattle.sp_core.specs.Cost.{waits}
use Rattle.sp_core.specs.Events.{When, before, in_group_of, in_turn, At}
use Rattle.sp_time.specs.Lists.{Each}
use Rattle.sp_machine.specs.Transfers.{Delays}
use Rattle.sp_node_runs.specs.Runs.{Placed}
use Rattle.sp_transfer_runs.specs.Channels.{AreTaken}
use Rattle.sp_transfer_runs.specs.Runs.{total_of}

-- whether two places in a run are one
abbrev pub same_when : When → When → Bool
same_when before before = true
same_when (in_group_of g s) (in_group_of h r) = (g == h) && (s == r)
same_when (in_turn t) (in_turn u) = t == u
same_when _ _ = false

abbrev pub same_path : List At → List At → Bool
same_path [] [] = true
same_path (a ∷ path) (b ∷ other) = ((a.node == b.node) && same_when a.when b.when) && same_path path other
same_path _ _ = false

-- a run by its path and how many words it moves
pub record Moved : Type 0 where
  pub path : List At
  pub words : ℕ

abbrev pub moved_in : List Placed → List Moved
moved_in runs = map (λ (r : Placed). record { path = r.standing.path; words = total_of r }) runs

-- The delay of an asking: what the channel took when it had asked so often as this run did before, and those of the list that come
-- before it.
abbrev pub chosen : (took : ℕ → ℕ) → (asked : ℕ) → List Moved → List At → (ask : ℕ) → ℕ
chosen took asked [] path ask = 0
chosen took asked (x ∷ rest) path ask = if same_path x.path path then took (asked + ask) else chosen took (asked + waits x.words) rest path ask

-- no two have one path
abbrev pub AreApart : List Moved → Type 0
AreApart [] = Unit {0}
AreApart (x ∷ rest) = Each (λ (y : Moved). same_path x.path y.path ≡ false) rest × AreApart rest

-- with these delays each asking takes its own
abbrev pub DelaysAreChosen : Type 0
DelaysAreChosen = (delays : Delays) (k : ℕ) (took : ℕ → ℕ) (asked : ℕ) (runs : List Placed) → ((path : List At) (ask : ℕ) → delays k path ask ≡ chosen took asked (moved_in runs) path ask) → AreApart (moved_in runs) → AreTaken delays k took asked runs
