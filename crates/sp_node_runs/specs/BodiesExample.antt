-- A worked body at the events of the timeline: one group of two operations, of which the second one writes the word 1 to an output, in a
-- run that begins in cycle 5. By hand, its write acts in the cycle after the start.
--   cycle        4  5  6  7
--   start           1
--   enable             1
--   word         1  1  1  1
use Rattle.std.specs.Prelude.{nat_eq, if◌then◌else◌, List, [], ◌∷◌, None}
use Rattle.sp_netlist.specs.Signals.{Signals, idle}
use Rattle.sp_core.specs.Events.{Standing, inside_at, in_group_of, touches, writes}
use Rattle.sp_core.specs.ExampleForms.{lit, write}
use Rattle.sp_core.specs.History.{History, gave, touched, inner_ran}
use Rattle.sp_core.specs.PlainCore.{PlainNode, inner}
use Rattle.sp_machine.specs.Stamps.{Stamped}
use Rattle.sp_node_runs.specs.Runs.{Placed}

-- the body that the core `chosen` of the timeline's examples does where its test gives 1: node 2, whose first operation has number 3
abbrev pub node : PlainNode
node = inner [] [] (lit 1 ∷ write 1 (0 ∷ []) ∷ []) None

abbrev pub history : History
history = inner_ran [] [] ((gave 1 ∷ touched [] 1 ∷ []) ∷ [])

abbrev pub standing : Standing
standing = record { path = []; counters = [] }

abbrev pub runs : List Placed
runs = record { cycle = 5; standing = standing; copies = λ m. 0; history = history } ∷ []

-- operation 4 writes the word 1 to memory 1 in cycle 6
abbrev pub events : List Stamped
events = record { cycle = 6; copy = 0; moment = touches (record { number = 4; standing = inside_at standing 2 (in_group_of 0 0) []; mem = 1; indices = []; act = writes 1 }) } ∷ []

-- net 0 is 1 in cycle 6 alone, net 1 has the word 1
abbrev pub waves : Signals
waves = record { net = λ t n. if nat_eq n 0 then (if nat_eq t 6 then 1 else 0) else 1; bank = λ t b place. 0; dram = λ t r place. 0; phase = λ t c. idle; asked = λ t. 0 }
