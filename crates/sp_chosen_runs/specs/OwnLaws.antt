-- Words and ports in runs by a plan that is valid for a core's own forms and meets.
use Rattle.std.specs.Prelude.{◌≡◌, ℕ, List}
use Rattle.sp_words.specs.Ports.{PlainInput}
use Rattle.sp_core.specs.declared.access.Meet.{Meet}
use Rattle.sp_core.specs.Forms.{PlainForms}
use Rattle.sp_core.specs.History.{History}
use Rattle.sp_core.specs.Inputs.{InputFits}
use Rattle.sp_core.specs.Meaning.{run_core}
use Rattle.sp_core.specs.PlainCore.{PlainCore}
use Rattle.sp_core.specs.Scope.{in_lanes}
use Rattle.sp_core.specs.Step.{went}
use Rattle.sp_core.specs.Store.{Store}
use Rattle.sp_plan.specs.PlainPlan.{PlainPlan}
use Rattle.sp_time.specs.Lists.{Each, Pairs}
use Rattle.sp_machine.specs.Timeline.{core_timed}
use Rattle.sp_machine.specs.Transfers.{Delays}
use Rattle.sp_contents.specs.Found.{first_contents, IsFound}
use Rattle.sp_overlap.specs.Whole.{HasPlan}
use Rattle.sp_patterns.specs.Patterns.{patterns_of}
use Rattle.sp_meets.specs.Meets.{IsMeetsOf}
use Rattle.sp_core_ports.specs.CopiesLaws.{HasCopy}
use Rattle.sp_core_ports.specs.UsedPorts.{HasDuplicate, UseNoPortTwice}
use Rattle.sp_core_ports.specs.UsedQueues.{UseNoEndTwice}

-- the ports of a run: what is done to a memory on the chip is done to a copy that the plan has of it, and each read of a memory
-- with banks has a duplicate of its reader; no port of a bank is used twice in one cycle, other than as one tap; and no end
-- of a FIFO is
pub record SharesNoPort (core : PlainCore) (plan : PlainPlan) (delays : Delays) (forms : PlainForms) (h : History) : Type 0 where
  pub copied : Each (λ s. HasCopy core plan s.copy s.moment) (core_timed core plan delays h).events
  pub served : Each (λ s. HasDuplicate core plan s.moment) (core_timed core plan delays h).events
  pub banks : Pairs (UseNoPortTwice core plan forms) (core_timed core plan delays h).events
  pub queues : Pairs (UseNoEndTwice core) (core_timed core plan delays h).events

-- by such a plan, in each run of the core from an input that fits, each moment finds in its own cycle what it finds in the order
-- of the text, and no port is shared
abbrev pub OwnPlansShareNoPort : PlainCore → PlainPlan → Delays → Type 0
OwnPlansShareNoPort core plan delays =
    (meets : List Meet) → HasPlan core (patterns_of core) meets plan → IsMeetsOf core (patterns_of core) meets
    → (input : PlainInput) (turns : ℕ) (h : History) (t : Store) → InputFits core input → run_core in_lanes turns core input ≡ went h t
    → IsFound core plan delays h t (first_contents core input) × SharesNoPort core plan delays (patterns_of core) h
