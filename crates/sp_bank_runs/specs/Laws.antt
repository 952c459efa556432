-- The words of memories in banks in the runs of a core, as statements.
use Rattle.std.specs.Prelude.{◌≡◌, ℕ, List}
use Rattle.sp_netlist.specs.Signals.{Signals}
use Rattle.sp_words.specs.Ports.{PlainInput}
use Rattle.sp_words.specs.declared.kind.Kind.TheVariants.{Sram, LineBuf}
use Rattle.sp_core.specs.Declarations.{kind_of}
use Rattle.sp_core.specs.History.{History}
use Rattle.sp_core.specs.PlainCore.{PlainCore}
use Rattle.sp_core.specs.Store.{Store}
use Rattle.sp_plan.specs.PlainPlan.{PlainPlan}
use Rattle.sp_machine.specs.Timeline.{core_timed}
use Rattle.sp_machine.specs.Transfers.{Delays}
use Rattle.sp_contents.specs.Found.{first_contents, IsFound}
use Rattle.sp_core.specs.declared.access.Meet.{Meet}
use Rattle.sp_core.specs.Inputs.{InputFits}
use Rattle.sp_core.specs.Meaning.{run_core}
use Rattle.sp_core.specs.Scope.{in_lanes}
use Rattle.sp_core.specs.Step.{went}
use Rattle.sp_time.specs.Lists.{Each}
use Rattle.sp_overlap.specs.Whole.{HasPlan}
use Rattle.sp_patterns.specs.Patterns.{patterns_of}
use Rattle.sp_meets.specs.Meets.{IsMeetsOf}
use Rattle.sp_chosen_runs.specs.OwnLaws.{SharesNoPort}
use Rattle.sp_chosen_runs.specs.InsideLaws as run
use Rattle.sp_banked.specs.declared.part.Banked.{Banked}
use Rattle.sp_banked.specs.Runs.{RunsBanked}
use Rattle.sp_lines.specs.declared.part.Lines.{Lines}
use Rattle.sp_lines.specs.Runs.{RunsLines}
use Rattle.sp_bank_words.specs.Accesses.{IsMemoryOf, IsLinesOf}
use Rattle.sp_bank_words.specs.Acting.{MemoryGoes, LinesGo}
use Rattle.sp_bank_words.specs.Laws.{WordsStand}
use Rattle.sp_bank_words.specs.Buffers.{RowsStand}

-- a run with this history, which leaves this store: each moment is found in its own cycle, no port is used twice in one cycle, and each
-- read and each write is at an element of its memory
pub record GoesWell (core : PlainCore) (plan : PlainPlan) (delays : Delays) (input : PlainInput) (h : History) (end : Store) : Type 0 where
  pub found : IsFound core plan delays h end (first_contents core input)
  pub ports : SharesNoPort core plan delays (patterns_of core) h
  pub inside : Each (λ x. run.IsInside core x.moment) (core_timed core plan delays h).events

-- so goes each run in lanes of a core, by a plan that is valid for its own forms and meets
abbrev pub ValidPlansGoWell : PlainCore → PlainPlan → Delays → Type 0
ValidPlansGoWell core plan delays =
    (meets : List Meet) → HasPlan core (patterns_of core) meets plan → IsMeetsOf core (patterns_of core) meets
    → (input : PlainInput) (turns : ℕ) (h : History) (t : Store) → InputFits core input → run_core in_lanes turns core input ≡ went h t → GoesWell core plan delays input h t

-- in a run that goes well, the circuit of an SRAM whose accesses act in time
abbrev pub RunsHoldWords : PlainCore → PlainPlan → Delays → Type 0
RunsHoldWords core plan delays =
    (input : PlainInput) (h : History) (end : Store) → GoesWell core plan delays input h end
    → (s : Signals) (m last : ℕ) (part : Banked) (reading writing : List ℕ) → kind_of core m ≡ Sram → RunsBanked s part → IsMemoryOf core plan (core_timed core plan delays h).events m part reading writing
    → MemoryGoes core plan s m (core_timed core plan delays h).events last part reading writing → WordsStand core s (core_timed core plan delays h).events (first_contents core input) m part last reading

-- and that of a line buffer
abbrev pub RunsHoldRows : PlainCore → PlainPlan → Delays → Type 0
RunsHoldRows core plan delays =
    (input : PlainInput) (h : History) (end : Store) → GoesWell core plan delays input h end
    → (s : Signals) (m last : ℕ) (part : Lines) (turning loading reading : List ℕ) → kind_of core m ≡ LineBuf → RunsLines s part → IsLinesOf core plan (core_timed core plan delays h).events m part turning loading reading
    → LinesGo core plan s m (core_timed core plan delays h).events last part turning loading reading → RowsStand core plan s (core_timed core plan delays h).events (first_contents core input) m part last reading
