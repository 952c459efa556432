-- Worked control over a tree: a branch whose test reads an argument and compares it, with a body of one group on the side that is
-- taken, in one run. The cycles are by hand: the test takes 4, the body 3.
--   cycle        0  1  2  3  4  5  6  7  8
--   start        1
--   test            1
--   test done                1
--   tested                   1
--   body                        1
--   body done                         1
--   done                                 1
use Rattle.std.specs.Prelude.{ℕ, nat_eq, Bool, true, false, if◌then◌else◌, List, [], ◌∷◌, slice_index_or, Option, Some, None}
use Rattle.sp_words.specs.declared.kind.BinOp.TheVariants.{Gt}
use Rattle.sp_netlist.specs.declared.parts.Child.{Child}
use Rattle.sp_netlist.specs.Signals.{Signals, idle}
use Rattle.sp_part_runs.specs.ControlParts.{Ran}
use Rattle.sp_core.specs.ExampleForms.{lit, two, read, write}
use Rattle.sp_core.specs.History.{gave, touched, History, inner_ran, branch_ran}
use Rattle.sp_core.specs.PlainCore.{PlainOp, PlainNode, inner, branch}
use Rattle.sp_node_runs.specs.Runs.{Placed}

-- the branch of the core `chosen` of the timeline's examples
abbrev pub test : List PlainOp
test = read 0 [] ∷ lit 2 ∷ two Gt 0 1 ∷ []

abbrev pub taken : PlainNode
taken = inner [] [] (lit 1 ∷ write 1 (0 ∷ []) ∷ []) None

abbrev pub node : PlainNode
node = branch test taken (inner [] [] [] None)

-- its run for the argument 3
abbrev pub history : History
history = branch_ran (touched [] 3 ∷ gave 2 ∷ gave 1 ∷ []) true (inner_ran [] [] ((gave 1 ∷ touched [] 1 ∷ []) ∷ []))

abbrev pub runs : List Placed
runs = record { cycle = 0; standing = record { path = []; counters = [] }; copies = λ m. 0; history = history } ∷ []

-- by the net the cycle in which it is 1, alone: first those of the table, nets 6 and 7 of the side that isn't taken, and the last
abbrev pub cycles : List (Option ℕ)
cycles = Some 0 ∷ Some 1 ∷ Some 4 ∷ Some 4 ∷ Some 5 ∷ Some 7 ∷ None ∷ None ∷ Some 8 ∷ []

abbrev pub is_at : Option ℕ → (cycle : ℕ) → Bool
is_at None t = false
is_at (Some c) t = nat_eq t c

abbrev pub waves : Signals
waves = record { net = λ t n. if is_at (slice_index_or cycles n None) t then 1 else 0; bank = λ t b place. 0; dram = λ t r place. 0; phase = λ t c. idle; asked = λ t. 0 }

abbrev pub whole : Child
whole = record { start = 0; done = 8 }

-- it is over after 9 cycles
abbrev pub over : List Ran
over = record { cycle = 0; took = 9 } ∷ []
