-- The ports of a worked frame.
use Rattle.std.specs.Prelude.{ℕ, List, []}
use Rattle.sp_words.specs.Ports.{PlainPort}
use Rattle.sp_words.specs.Types.{int_type}

abbrev pub int_port : List ℕ → PlainPort
int_port name = record { name = name; ty = int_type; dims = [] }
