-- How a command of the table may end, and what it then puts.
use Rattle.std.specs.Prelude.{◌≡◌, ◌⊎◌, ℕ, List, []}
pub use Rattle.sp_command.specs.Commands.{Command, check, format, compile, verilog, report, seq, run, simulate, waves, IsFileWord, IsCommand}
use Rattle.sp_edges.specs.Standing.{Standing}
use Rattle.sp_edges.specs.Calls.{Call}
use Rattle.sp_top.specs.Check.{SaysRight, WritesCanonical, WritesReport, CheckRefuses}
use Rattle.sp_top.specs.Compile.{ListsProgram, PrintsProgram, CompileRefuses}
use Rattle.sp_top.specs.Programs.{Translates}
use Rattle.sp_top.specs.Seq.{LeavesAlone, RunsNetlist, RunsProgram, RunRefuses, RunStops, Stops}
use Rattle.sp_top.specs.Simulate.{Prints, RunEnds, Dumps, DumpEnds, Simulates, SimulateRefuses}
use Rattle.sp_top.specs.Status.{PlainStatus, done, words, write_fault, memory, line_of}

-- The texts that a command puts on `out` and on `aside` where it is done, after these calls for names.
abbrev pub DoneTexts : (List ℕ → Standing) → (asked : List Call → Type 0) → Command → (out aside : List ℕ) → Type 0
DoneTexts told asked (check program) out aside = Translates SaysRight told asked program out aside
DoneTexts told asked (format program) out aside = Translates WritesCanonical told asked program out aside
DoneTexts told asked (compile program) out aside = Translates ListsProgram told asked program out aside
DoneTexts told asked (verilog program) out aside = Translates PrintsProgram told asked program out aside
DoneTexts told asked (report program) out aside = Translates WritesReport told asked program out aside
DoneTexts told asked (seq program setup) out aside = RunsProgram LeavesAlone told asked program setup out aside
DoneTexts told asked (run program setup) out aside = RunsProgram RunsNetlist told asked program setup out aside
DoneTexts told asked (simulate listing setup) out aside = Simulates Prints told asked listing setup out aside
DoneTexts told asked (waves listing setup) out aside = Simulates Dumps told asked listing setup out aside

-- The statuses in which a command may refuse, each with its cause, where `failed` says of a name that reading it
-- may have failed, and `asked` of calls for names that they were made. Want of memory may come always.
abbrev pub MayRefuse : (List ℕ → Standing) → (failed : List ℕ → Type 0) → (asked : List Call → Type 0) → Command → PlainStatus → Type 0
MayRefuse told failed asked (check program) status = CheckRefuses told failed asked program status
MayRefuse told failed asked (format program) status = CheckRefuses told failed asked program status
MayRefuse told failed asked (compile program) status = CompileRefuses told failed asked program status
MayRefuse told failed asked (verilog program) status = CompileRefuses told failed asked program status
MayRefuse told failed asked (report program) status = CheckRefuses told failed asked program status
MayRefuse told failed asked (seq program setup) status = RunRefuses Stops told failed asked program setup status
MayRefuse told failed asked (run program setup) status = RunRefuses RunStops told failed asked program setup status
MayRefuse told failed asked (simulate listing setup) status = SimulateRefuses RunEnds told failed asked listing setup status
MayRefuse told failed asked (waves listing setup) status = SimulateRefuses DumpEnds told failed asked listing setup status

-- a command of these words refuses so
abbrev pub Refuses : List (List ℕ) → (List ℕ → Standing) → (failed : List ℕ → Type 0) → (asked : List Call → Type 0) → PlainStatus → Type 0
Refuses said told failed asked status = (command : Command) × IsCommand said command × MayRefuse told failed asked command status

-- How a call with these words may end, with the texts for `out` and `aside` that belong to it: a command is
-- done with its texts, or refuses with the status's line; words that are no command are refused, and ask for nothing.
abbrev pub MayEnd : List (List ℕ) → (List ℕ → Standing) → (failed : List ℕ → Type 0) → (asked : List Call → Type 0) → PlainStatus → (out aside : List ℕ) → Type 0
MayEnd said told failed asked done out aside = (command : Command) × IsCommand said command × DoneTexts told asked command out aside
MayEnd said told failed asked words out aside = ((command : Command) → IsCommand said command → ⊥) × asked [] × (out ≡ line_of words) × (aside ≡ [])
MayEnd said told failed asked (write_fault which) out aside = ⊥
MayEnd said told failed asked memory out aside = (asked [] ⊎ Refuses said told failed asked memory) × (out ≡ line_of memory) × (aside ≡ [])
MayEnd said told failed asked status out aside = Refuses said told failed asked status × (out ≡ line_of status) × (aside ≡ [])

-- the call wasn't refused for its words, its input or its text
abbrev pub NotRefused : PlainStatus → Type 0
NotRefused done = Unit {0}
NotRefused memory = Unit {0}
NotRefused (write_fault which) = Unit {0}
NotRefused status = ⊥

-- the words are a command that reads a program of the whole language, and nothing else
abbrev pub IsReading : List (List ℕ) → (program : List ℕ) → Type 0
IsReading said program = IsCommand said (check program) ⊎ (IsCommand said (format program) ⊎ IsCommand said (report program))
