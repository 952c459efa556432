-- `seq P S` and `run P S`: the program P is run on the input of the setup S, statement by statement with at most the setup's turns, and
-- then, by `run`, as the netlist that it is compiled to.
use Rattle.std.specs.Prelude.{◌≡◌, ◌⊎◌, ℕ, List, [], ◌∷◌}
use Rattle.sp_edges.specs.Standing.{Standing}
use Rattle.sp_edges.specs.Calls.{Call, given}
use Rattle.sp_words.specs.Ports.{PlainPorts, PlainInput}
use Rattle.sp_netlist.specs.Cells.{PlainCell}
use Rattle.sp_netlist.specs.Cycle.{Ends, done_in}
use Rattle.sp_netlist.specs.Rules.{IsNetlist}
use Rattle.sp_listing.specs.Text.{listing_text}
use Rattle.sp_tree.specs.Meaning.{ended, stopped, unfinished}
use Rattle.sp_tree.specs.Meaning as sequential
use Rattle.sp_tree.specs.PlainProgram.{PlainProgram}
use Rattle.sp_tree.specs.Shape.{Shape}
use Rattle.sp_core.specs.Latency.{limit}
use Rattle.sp_compile.specs.Choices.{lanes_of}
use Rattle.sp_build.specs.Buildable.{IsUnbuilt}
use Rattle.sp_build.specs.Carries.{Carries, CostIsKept, greatest_delay}
use Rattle.sp_seq.specs.Progress.{InputFits}
use Rattle.sp_setup.specs.Setup.{PlainSetup}
use Rattle.sp_source.specs.Texts.{Spells}
use Rattle.sp_top.specs.declared.seq.Run.{Run}
use Rattle.sp_top.specs.declared.seq.Run.TheVariants.{Sequential, Netlist}
use Rattle.sp_top.specs.Check.{CheckRefuses}
use Rattle.sp_top.specs.Compile.{block_line}
use Rattle.sp_top.specs.Programs.{longest_program}
use Rattle.sp_top.specs.Reads.{GivesText}
use Rattle.sp_top.specs.ResultText.{result_text, cycles_line, turns_line}
use Rattle.sp_top.specs.Simulate.{GivesSetup, SetupRefuses, setting_of}
use Rattle.sp_top.specs.Status.{PlainStatus, memory, stopped_at, turns_spent, unbuilt}

abbrev pub input_of : PlainSetup → PlainInput
input_of plain = record { args = plain.args; drams = plain.drams }

-- the setup gives a word for each argument, and for each DRAM as many words as it has, each of its type
abbrev pub IsInput : PlainPorts → PlainSetup → Type 0
IsInput ports plain = InputFits ports (input_of plain)

-- what stands there is the text of this program
pub record GivesProgram (standing : Standing) (program : PlainProgram) : Type 0 where
  pub bytes : List ℕ
  pub gives : GivesText standing longest_program bytes
  pub spells : Spells bytes program

-- ---- the run

-- the program ends within the setup's turns, and this is its result
pub record Leaves (program : PlainProgram) (plain : PlainSetup) (text : List ℕ) : Type 0 where
  pub outs : List ℕ
  pub drams : List (List ℕ)
  pub turns : ℕ
  pub shape : Shape
  pub ends : sequential.seq plain.turns program (input_of plain) ≡ ended outs drams turns shape
  pub is : text ≡ result_text program.ports outs drams (turns_line turns)

-- the program stops at its first fault, or has no end within the setup's turns; want of memory may come always
abbrev pub Stops : PlainProgram → PlainSetup → PlainStatus → Type 0
Stops program plain (stopped_at kind at) = sequential.seq plain.turns program (input_of plain) ≡ stopped kind at
Stops program plain (turns_spent turns) = (turns ≡ plain.turns) × (sequential.seq plain.turns program (input_of plain) ≡ unfinished)
Stops program plain memory = Unit {0}
Stops program plain status = ⊥

-- the result stands on `out`, and nothing on `aside`
pub record LeavesAlone (program : PlainProgram) (plain : PlainSetup) (out aside : List ℕ) : Type 0 where
  pub leaves : Leaves program plain out
  pub nothing_aside : aside ≡ []

-- ---- the run of a netlist

-- The program ends within the setup's turns. `aside` has the listing of a netlist that carries it; under the setup's delays that very
-- netlist is done within the limit of the turns that the program took, with the words that the program leaves, and `out` has its result.
pub record RunsNetlist (program : PlainProgram) (plain : PlainSetup) (out aside : List ℕ) : Type 0 where
  pub outs : List ℕ
  pub drams : List (List ℕ)
  pub turns : ℕ
  pub shape : Shape
  pub ends : sequential.seq plain.turns program (input_of plain) ≡ ended outs drams turns shape
  pub cells : List PlainCell
  pub netlist : IsNetlist cells
  pub carries : Carries program cells
  pub cost : CostIsKept program cells
  pub lists : aside ≡ listing_text cells
  pub cycle : ℕ
  pub done : Ends (setting_of cells plain) (limit turns (greatest_delay plain.delays) (lanes_of program)) (done_in cycle outs drams)
  pub is : out ≡ result_text program.ports outs drams (cycles_line cycle)

-- the program ends, and can't be built so far
pub record EndsUnbuilt (program : PlainProgram) (plain : PlainSetup) (line : ℕ) : Type 0 where
  pub outs : List ℕ
  pub drams : List (List ℕ)
  pub turns : ℕ
  pub shape : Shape
  pub ends : sequential.seq plain.turns program (input_of plain) ≡ ended outs drams turns shape
  pub unbuilt : IsUnbuilt program
  pub at : line ≡ block_line program

-- the program has no end within the setup's turns, or can't be built so far
abbrev pub RunStops : PlainProgram → PlainSetup → PlainStatus → Type 0
RunStops program plain (unbuilt line) = EndsUnbuilt program plain line
RunStops program plain status = Stops program plain status

-- ---- the commands

-- what is run, after these calls for names: P, then S, then the files of the setup
pub record GivenRun (told : List ℕ → Standing) (asked : List Call → Type 0) (name setup : List ℕ) (program : PlainProgram) (plain : PlainSetup) : Type 0 where
  pub gives_program : GivesProgram (told name) program
  pub gives_setup : GivesSetup told (λ calls. asked (given name ∷ calls)) program.ports setup plain

-- how a program is run: with these texts for `out` and `aside`, or with a status in which it stops
abbrev pub LeavesBy : Run → PlainProgram → PlainSetup → (out aside : List ℕ) → Type 0
LeavesBy Sequential = LeavesAlone
LeavesBy Netlist = RunsNetlist

abbrev pub StopsBy : Run → PlainProgram → PlainSetup → PlainStatus → Type 0
StopsBy Sequential = Stops
StopsBy Netlist = RunStops

-- a command is done, with these texts
pub record RunsProgram (AreTexts : PlainProgram → PlainSetup → (out aside : List ℕ) → Type 0) (told : List ℕ → Standing) (asked : List Call → Type 0) (name setup out aside : List ℕ) : Type 0 where
  pub program : PlainProgram
  pub plain : PlainSetup
  pub is_given : GivenRun told asked name setup program plain
  pub are_texts : AreTexts program plain out aside

-- the program was given, and the setup is refused
pub record RefusesItsSetup (told : List ℕ → Standing) (failed : List ℕ → Type 0) (asked : List Call → Type 0) (name setup : List ℕ) (status : PlainStatus) : Type 0 where
  pub program : PlainProgram
  pub gives_program : GivesProgram (told name) program
  pub refuses : SetupRefuses told failed (λ calls. asked (given name ∷ calls)) program.ports setup status

-- everything was given, and the run stops so
pub record StopsRun (IsStop : PlainProgram → PlainSetup → PlainStatus → Type 0) (told : List ℕ → Standing) (asked : List Call → Type 0) (name setup : List ℕ) (status : PlainStatus) : Type 0 where
  pub program : PlainProgram
  pub plain : PlainSetup
  pub is_given : GivenRun told asked name setup program plain
  pub stops : IsStop program plain status

-- The statuses in which a command refuses, each with its cause: at the program, at the setup or in the run.
abbrev pub RunRefuses : (PlainProgram → PlainSetup → PlainStatus → Type 0) → (List ℕ → Standing) → (failed : List ℕ → Type 0) → (asked : List Call → Type 0) → (name setup : List ℕ) → PlainStatus → Type 0
RunRefuses IsStop told failed asked name setup status =
    CheckRefuses told failed asked name status
    ⊎ (RefusesItsSetup told failed asked name setup status ⊎ StopsRun IsStop told asked name setup status)
