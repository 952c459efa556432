-- `simulate L S` and `waves L S`: the listing L is run on the input, the delays and the cycles of the setup S, and its
-- result or its value change dump is shown.
use Rattle.std.specs.Prelude.{◌≡◌, ◌≢◌, ◌⊎◌, ℕ, List, [], ◌∷◌, map}
use Rattle.sp_edges.specs.Standing.{Standing}
use Rattle.sp_edges.specs.Calls.{Call, given}
use Rattle.sp_words.specs.Ports.{PlainPorts}
use Rattle.sp_netlist.specs.Cells.{PlainCell}
use Rattle.sp_netlist.specs.Rules.{IsNetlist}
use Rattle.sp_netlist.specs.Refusals.{IsWithinLimits}
use Rattle.sp_netlist.specs.Ports.{ports_of}
use Rattle.sp_netlist.specs.Signals.{Setting}
use Rattle.sp_netlist.specs.Cycle.{Ends, done_in, conflict_in, not_yet}
use Rattle.sp_listing.specs.declared.error.ListError.{ListError}
use Rattle.sp_listing.specs.declared.error.ListError.TheVariants as list
use Rattle.sp_listing.specs.Reading.{IsListing}
use Rattle.sp_listing.specs.Refusal.{RefusesText}
use Rattle.sp_setup.specs.declared.error.SetupEnd.{SetupEnd}
use Rattle.sp_setup.specs.declared.error.SetupEnd.TheVariants as setup
use Rattle.sp_setup.specs.Refusal.{plain_error}
use Rattle.sp_setup.specs.Setup.{PlainSetup, IsSetup, SetupEnds, files_named}
use Rattle.std.specs.Prelude.{string_bytes}
use Rattle.sp_waves.specs.Dump.{IsDump}
use Rattle.sp_top.specs.declared.simulate.View.{View}
use Rattle.sp_top.specs.declared.simulate.View.TheVariants.{Outcome, Waves}
use Rattle.sp_top.specs.Reads.{GivesText, ReadRefuses}
use Rattle.sp_top.specs.ResultText.{result_text, cycles_line}
use Rattle.sp_top.specs.Status.{PlainStatus, setup_refused, read_fault, memory, listing_refused, conflict, cycles_spent, too_long}

-- the longest listing and the longest setup that are read
abbrev pub longest_listing : ℕ
longest_listing = 268435456

abbrev pub longest_setup : ℕ
longest_setup = 4194304

-- ---- the listing

-- what stands there is the listing of this netlist, which is within the limits
pub record GivesNetlist (standing : Standing) (cells : List PlainCell) : Type 0 where
  pub bytes : List ℕ
  pub gives : GivesText standing longest_listing bytes
  pub lists : IsListing bytes cells
  pub netlist : IsNetlist cells
  pub within : IsWithinLimits cells

-- what stands there is refused so, for another cause than memory
pub record RefusesListing (standing : Standing) (error : ListError) : Type 0 where
  pub bytes : List ℕ
  pub gives : GivesText standing longest_listing bytes
  pub refuses : RefusesText bytes error
  pub not_memory : error ≢ list.Memory

-- why a name gives no netlist
abbrev pub ListingRefuses : Standing → (failed : Type 0) → (asked : List Call → Type 0) → List ℕ → PlainStatus → Type 0
ListingRefuses standing failed asked name (listing_refused error) = asked (given name ∷ []) × RefusesListing standing error
ListingRefuses standing failed asked name status = ReadRefuses standing failed asked longest_listing name status

-- ---- the setup

-- what stands under the name, and under the names of its files, is this setup for the ports
pub record GivesSetup (told : List ℕ → Standing) (asked : List Call → Type 0) (ports : PlainPorts) (name : List ℕ) (plain : PlainSetup) : Type 0 where
  pub bytes : List ℕ
  pub gives : GivesText (told name) longest_setup bytes
  pub is : IsSetup told ports bytes plain
  pub asks : asked (given name ∷ map given (files_named ports bytes))

-- the status in which the reading of a setup ends
abbrev pub end_status : SetupEnd → PlainStatus
end_status (setup.Refused error) = setup_refused (plain_error error)
end_status setup.ReadFault = read_fault
end_status (setup.TooLong name) = too_long (string_bytes name)
end_status setup.Memory = memory

-- the bytes were given, and the reading of the setup ended so
pub record SetupStops (told : List ℕ → Standing) (failed : List ℕ → Type 0) (asked : List Call → Type 0) (ports : PlainPorts) (name : List ℕ) (status : PlainStatus) : Type 0 where
  pub bytes : List ℕ
  pub gives : GivesText (told name) longest_setup bytes
  pub end : SetupEnd
  pub ends : SetupEnds told failed (λ calls. asked (given name ∷ calls)) ports bytes end
  pub is : end_status end ≡ status

-- why a name gives no setup: its text isn't given, or is refused
abbrev pub SetupRefuses : (List ℕ → Standing) → (failed : List ℕ → Type 0) → (asked : List Call → Type 0) → PlainPorts → List ℕ → PlainStatus → Type 0
SetupRefuses told failed asked ports name status =
    ReadRefuses (told name) (failed name) asked longest_setup name status ⊎ SetupStops told failed asked ports name status

-- ---- the run

abbrev pub setting_of : List PlainCell → PlainSetup → Setting
setting_of cells plain = record { cells = cells; args = plain.args; drams = plain.drams; delays = plain.delays }

-- the netlist is done within so many cycles, and this is its result
pub record PrintsWithin (cells : List PlainCell) (plain : PlainSetup) (most : ℕ) (text : List ℕ) : Type 0 where
  pub cycle : ℕ
  pub outs : List ℕ
  pub drams : List (List ℕ)
  pub ends : Ends (setting_of cells plain) most (done_in cycle outs drams)
  pub is : text ≡ result_text (ports_of cells) outs drams (cycles_line cycle)

-- the netlist isn't done within so many cycles; want of memory may come always
abbrev pub RunEndsWithin : List PlainCell → PlainSetup → (most : ℕ) → PlainStatus → Type 0
RunEndsWithin cells plain most (conflict cycle bank port) = Ends (setting_of cells plain) most (conflict_in cycle bank port)
RunEndsWithin cells plain most (cycles_spent cycles) = (cycles ≡ most) × Ends (setting_of cells plain) most not_yet
RunEndsWithin cells plain most memory = Unit {0}
RunEndsWithin cells plain most status = ⊥

-- so many are the setup's cycles
abbrev pub Prints : List PlainCell → PlainSetup → (text : List ℕ) → Type 0
Prints cells plain = PrintsWithin cells plain plain.cycles

abbrev pub RunEnds : List PlainCell → PlainSetup → PlainStatus → Type 0
RunEnds cells plain = RunEndsWithin cells plain plain.cycles

-- the text shows the run, up to its end or the setup's last cycle
abbrev pub Dumps : List PlainCell → PlainSetup → (text : List ℕ) → Type 0
Dumps cells plain text = IsDump (setting_of cells plain) plain.cycles text

-- a dump is put however the run ends; want of memory may come always
abbrev pub DumpEnds : List PlainCell → PlainSetup → PlainStatus → Type 0
DumpEnds cells plain memory = Unit {0}
DumpEnds cells plain status = ⊥

-- what is shown of a run, and how it may end without that
abbrev pub Shows : View → List PlainCell → PlainSetup → (text : List ℕ) → Type 0
Shows Outcome = Prints
Shows Waves = Dumps

abbrev pub ShowEnds : View → List PlainCell → PlainSetup → PlainStatus → Type 0
ShowEnds Outcome = RunEnds
ShowEnds Waves = DumpEnds

-- ---- the commands

-- what is simulated, after these calls for names: L, then S, then the files of the setup
pub record Given (told : List ℕ → Standing) (asked : List Call → Type 0) (listing setup : List ℕ) (cells : List PlainCell) (plain : PlainSetup) : Type 0 where
  pub gives_netlist : GivesNetlist (told listing) cells
  pub gives_setup : GivesSetup told (λ calls. asked (given listing ∷ calls)) (ports_of cells) setup plain

-- the command is done: what it shows stands on `out` alone
pub record Simulates (IsText : List PlainCell → PlainSetup → List ℕ → Type 0) (told : List ℕ → Standing) (asked : List Call → Type 0) (listing setup out aside : List ℕ) : Type 0 where
  pub cells : List PlainCell
  pub plain : PlainSetup
  pub is_given : Given told asked listing setup cells plain
  pub is_text : IsText cells plain out
  pub nothing_aside : aside ≡ []

-- the netlist was given, and the setup is refused
pub record RefusesSetup (told : List ℕ → Standing) (failed : List ℕ → Type 0) (asked : List Call → Type 0) (listing setup : List ℕ) (status : PlainStatus) : Type 0 where
  pub cells : List PlainCell
  pub netlist : GivesNetlist (told listing) cells
  pub refuses : SetupRefuses told failed (λ calls. asked (given listing ∷ calls)) (ports_of cells) setup status

-- everything was given, and the run ends so
pub record RefusesRun (Stops : List PlainCell → PlainSetup → PlainStatus → Type 0) (told : List ℕ → Standing) (asked : List Call → Type 0) (listing setup : List ℕ) (status : PlainStatus) : Type 0 where
  pub cells : List PlainCell
  pub plain : PlainSetup
  pub is_given : Given told asked listing setup cells plain
  pub ends : Stops cells plain status

-- The statuses in which a command refuses, each with its cause: at the listing, at the setup or in the run.
abbrev pub SimulateRefuses : (List PlainCell → PlainSetup → PlainStatus → Type 0) → (List ℕ → Standing) → (failed : List ℕ → Type 0) → (asked : List Call → Type 0) → (listing setup : List ℕ) → PlainStatus → Type 0
SimulateRefuses Stops told failed asked listing setup status =
    ListingRefuses (told listing) (failed listing) asked listing status
    ⊎ (RefusesSetup told failed asked listing setup status ⊎ RefusesRun Stops told asked listing setup status)
