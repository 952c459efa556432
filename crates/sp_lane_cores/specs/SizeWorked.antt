-- Weights of worked cores, by hand.
use Rattle.std.specs.Prelude.{ℕ, List, [], ◌∷◌}
use Rattle.sp_core.specs.PlainCore.{PlainCore}
use Rattle.sp_lane_cores.specs.LanedWeights.{node_weight, weighted_size}

-- the weight of its nodes, and with its memories and DRAMs
abbrev pub weights : PlainCore → List ℕ
weights core = node_weight 1 core.root ∷ weighted_size core ∷ []
