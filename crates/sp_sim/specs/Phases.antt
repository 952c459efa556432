-- The phases of channels as they are kept.
use Rattle.std.specs.Prelude.{ℕ, List, map, min, slice_index_or}
use Rattle.sp_netlist.specs.Signals.{Phase as ChannelPhase, idle, waiting, moving}
use Rattle.sp_sim.specs.declared.phase.Phase.{Phase}
use Rattle.sp_sim.specs.declared.phase.Phase.TheVariants.{Idle, Waiting, Moving}

-- a channel that moves has moved up to 15 words since it last asked: a greater number counts as 15
abbrev pub plain_phase : Phase → ChannelPhase
plain_phase Idle = idle
plain_phase (Waiting cycles) = waiting cycles
plain_phase (Moving words) = moving (min words 15)

-- the phase of a channel, and idle where there is none
unfoldable pub phase_at : List Phase → ℕ → ChannelPhase
phase_at phases channel = slice_index_or (map plain_phase phases) channel idle
