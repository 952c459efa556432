-- The channel of a transfer over all runs of its node, as statements: where it is asked and told of last words as the timeline says, it
-- is ready as the timeline says, one cycle on.
use Rattle.std.specs.Prelude.{◌≡◌, ℕ, suc, ◌+◌, ◌<◌, ◌≤◌, nat_lt, not, List, [], ◌∷◌}
use Rattle.std.specs.List.{Contains}
use Rattle.sp_netlist.specs.Cells.{PlainCell}
use Rattle.sp_netlist.specs.Signals.{Setting, Signals, RunsChannel}
use Rattle.sp_gates.specs.Tested.{is_on}
use Rattle.sp_channel_runs.specs.Bursts.{taken}
use Rattle.sp_core.specs.Cost.{waits}
use Rattle.sp_core.specs.History.{moved}
use Rattle.sp_core.specs.PlainCore.{PlainSpan, PlainNode, load, store, PlainCore}
use Rattle.sp_plan.specs.PlainPlan.{PlainPlan}
use Rattle.sp_machine.specs.Transfers.{Delays}
use Rattle.sp_part_runs.specs.BodiesRuns.{IsOnAt}
use Rattle.sp_node_runs.specs.Runs.{Placed, AreWithin}
use Rattle.sp_transfer_runs.specs.Runs.{taken_in, words_in, total_of, delay_in, moves_in, Moves, Asks}

-- each asking of a run waits for what the channel took when it had asked so often: those of the runs before it come first
abbrev pub AreTaken : Delays → (node : ℕ) → (took : ℕ → ℕ) → (asked : ℕ) → List Placed → Type 0
AreTaken delays k took asked [] = Unit {0}
AreTaken delays k took asked (r ∷ runs) = ((ask : ℕ) → ask < waits (total_of r) → delay_in delays k r ask ≡ took (asked + ask)) × AreTaken delays k took (asked + waits (total_of r)) runs

module _ (core : PlainCore) (plan : PlainPlan) (delays : Delays) where
  -- what is known of a channel and of the runs of its node
  pub record IsAsked (g : Setting) (s : Signals) (before : List PlainCell) (channel ready request last bound : ℕ) (node : PlainNode) (k n : ℕ) (runs : List Placed) : Type 0 where
    pub channel_runs : RunsChannel g s before channel ready request last
    pub one_bit : (t : ℕ) → s.net t last < 2
    pub from : ℕ
    pub until : ℕ
    pub in_turn : AreWithin core plan delays node k n from until runs
    pub are_moved : (r : Placed) → Contains runs r → r.history ≡ moved (taken_in r.history) (words_in r.history)
    pub delays_are : AreTaken delays k (taken g s before channel request last bound) 0 runs

  abbrev pub Answers : PlainNode → Type 0
  Answers node =
      (g : Setting) (s : Signals) (before : List PlainCell) (channel ready request last bound k n : ℕ) (runs : List Placed) → IsAsked g s before channel ready request last bound node k n runs
      → IsOnAt (is_on s ready) (Moves delays k runs) 0
      × ((upto : ℕ) → upto < bound → IsOnAt (is_on s request) (Asks delays k runs) upto
      → ((r : Placed) (j : ℕ) → Contains runs r → j < total_of r → moves_in delays k r j ≤ upto → is_on s last (moves_in delays k r j) ≡ not (nat_lt (suc j) (total_of r)))
      → IsOnAt (is_on s ready) (Moves delays k runs) (suc upto))

  -- of a load, and of a store
  pub record ChannelsAnswer : Type 0 where
    pub of_load : (r m : ℕ) (spans : List PlainSpan) → Answers (load r m spans)
    pub of_store : (r m : ℕ) (spans : List PlainSpan) → Answers (store r m spans)
