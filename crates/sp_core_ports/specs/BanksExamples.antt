-- A port of a worked core.
use Rattle.std.specs.Prelude.{ℕ, false, None}
use Rattle.sp_core_ports.specs.UsedPorts.{Port}

-- by which a memory is read
abbrev pub read_port : (mem copy duplicate bank : ℕ) → Port
read_port m c d b = record { mem = m; copy = c; is_written = false; duplicate = d; row = None; bank = b }
