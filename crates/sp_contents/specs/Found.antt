-- What happens in a run by a valid plan is found in time, and in the end copies hold what the run leaves.
use Rattle.std.specs.Prelude.{◌≡◌, ℕ, ◌<◌, List, length, Option, Some, None, slice_index_or}
use Rattle.sp_words.specs.declared.kind.Kind.{Kind}
use Rattle.sp_words.specs.declared.kind.Kind.TheVariants.{LineBuf, Dram, ArgIn, ArgOut}
use Rattle.sp_words.specs.Interface.{word_count}
use Rattle.sp_words.specs.Memory.{Contents, rows, fresh_rows}
use Rattle.sp_words.specs.Ports.{PlainInput}
use Rattle.sp_core.specs.declared.access.Meet.{Meet}
use Rattle.sp_core.specs.Declarations.{mem, kind_of, dims, dram_number}
use Rattle.sp_core.specs.Forms.{PlainForms}
use Rattle.sp_core.specs.History.{History}
use Rattle.sp_core.specs.Inputs.{InputFits}
use Rattle.sp_core.specs.Invariant.{IsCore}
use Rattle.sp_core.specs.Meaning.{first_store, run_core}
use Rattle.sp_core.specs.Meeting.{MeetsHold}
use Rattle.sp_core.specs.PlainCore.{PlainCore}
use Rattle.sp_core.specs.Scope.{in_lanes}
use Rattle.sp_core.specs.Step.{went}
use Rattle.sp_core.specs.Store.{Store, words_of}
use Rattle.sp_plan.specs.PlainPlan.{PlainPlan}
use Rattle.sp_time.specs.Events.{InTime, after}
use Rattle.sp_time.specs.Places.{Place, is_place}
use Rattle.sp_machine.specs.Found.{events_of, does, Sees, one_cell}
use Rattle.sp_machine.specs.InOrder.{does_change}
use Rattle.sp_machine.specs.Timeline.{core_timed}
use Rattle.sp_machine.specs.Transfers.{Delays}
use Rattle.sp_overlap.specs.Whole.{HasPlan}
use Rattle.sp_contents.specs.Held.{Agree}
use Rattle.sp_contents.specs.Trees.{first_hand}

-- contents to begin with: DRAMs and ports by the first store, line buffers with rows, and nothing else
abbrev pub contents_at : PlainCore → Kind → (dims : List ℕ) → Option Contents → (element : ℕ) → Option Contents
contents_at core LineBuf ds c i = Some (rows (fresh_rows ds))
contents_at core Dram ds c i = one_cell core (slice_index_or (words_of c) i 0)
contents_at core ArgIn ds c i = one_cell core (slice_index_or (words_of c) 0 0)
contents_at core ArgOut ds c i = one_cell core (slice_index_or (words_of c) 0 0)
contents_at core kind ds c i = None

abbrev pub first_contents : PlainCore → PlainInput → Place → Option Contents
first_contents core input p = contents_at core (kind_of core p.mem) (dims core p.mem) (first_store core input p.mem) p.element

-- they agree with the first store of a core, for each input that fits
abbrev pub FirstContentsAgree : PlainCore → Type 0
FirstContentsAgree core = IsCore core → (input : PlainInput) → InputFits core input → Agree core (first_hand core) (first_store core input) (first_contents core input)

-- how a run that ended with a store goes in time, from these contents of places on
pub record IsFound (core : PlainCore) (plan : PlainPlan) (delays : Delays) (h : History) (end : Store) (first : Place → Option Contents) : Type 0 where
  -- each moment finds in its own cycle what it finds in the order of the text; each cycle makes at most one change at a place
  pub in_time : InTime is_place (does core) (Sees core) does_change (events_of core (core_timed core plan delays h).events) first
  -- and after all DRAMs and outputs hold the words that the run leaves
  pub drams : (r i : ℕ) → r < length core.ports.drams → i < word_count (dims core (dram_number core r))
      → after is_place (does core) (events_of core (core_timed core plan delays h).events) first (record { mem = dram_number core r; copy = 0; element = i }) ≡ one_cell core (slice_index_or (words_of (end (dram_number core r))) i 0)
  pub outs : (m : ℕ) → m < length core.mems → (mem core m).kind ≡ ArgOut
      → after is_place (does core) (events_of core (core_timed core plan delays h).events) first (record { mem = m; copy = 0; element = 0 }) ≡ one_cell core (slice_index_or (words_of (end m)) 0 0)

-- so it is of each run by a valid plan, for meets that hold, from contents that agree with the first store
abbrev pub PlannedRunsAreFound : PlainCore → PlainPlan → Delays → Type 0
PlannedRunsAreFound core plan delays =
    (forms : PlainForms) (meets : List Meet) → HasPlan core forms meets plan → MeetsHold core meets
    → (input : PlainInput) (turns : ℕ) (h : History) (t : Store) → InputFits core input → run_core in_lanes turns core input ≡ went h t
    → (first : Place → Option Contents) → Agree core (first_hand core) (first_store core input) first → IsFound core plan delays h t first
