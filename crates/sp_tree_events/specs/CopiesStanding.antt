-- The nets that carry the numbers of copies around a part, and when they stand.
use Rattle.std.specs.Prelude.{◌≡◌, ℕ, true, List, Option, Some, None, if◌then◌else◌}
use Rattle.sp_netlist.specs.Signals.{Signals}
use Rattle.sp_gates.specs.Tested.{is_on}
use Rattle.sp_core.specs.Declarations.{is_among}
use Rattle.sp_plan.specs.PlainPlan.{PlainPlan, mem_plan}
use Rattle.sp_machine.specs.Stamps.{Copies}
use Rattle.sp_mem.specs.Copies.{copy_at}
use Rattle.sp_beat_words.specs.Numbers.{copy_number}

-- for each memory the net of the number of its copy; a memory without one is in copy 0
abbrev pub CopyNets : Type 0
CopyNets = (mem : ℕ) → Option ℕ

-- in a cycle each has the number of the copy at hand
abbrev pub AreNumbered : Signals → (cycle : ℕ) → CopyNets → Copies → Type 0
AreNumbered s t nets copies = (m : ℕ) → copy_at s t (nets m) ≡ copies m

-- around a part of the whole core, where each memory has one copy
abbrev pub no_numbers : CopyNets
no_numbers m = None

-- inside of a loop: those of a slot for the memories that the loop owns, and for others those around
abbrev pub with_numbers : CopyNets → (owned : List ℕ) → CopyNets → CopyNets
with_numbers around owned own m = if is_among m owned then own m else around m

-- a net has the number of a slot's copy, of so many; of one copy there may be no net
abbrev pub IsNumber : Signals → (start first : ℕ) → (copies : ℕ) → Option ℕ → Type 0
IsNumber s start first copies None = copies ≡ 1
IsNumber s start first copies (Some net) = (t : ℕ) → s.net t net ≡ copy_number (is_on s start) (is_on s first) copies t

-- so it is for each memory that a loop owns
abbrev pub HaveNumbers : PlainPlan → Signals → (start first : ℕ) → (owned : List ℕ) → CopyNets → Type 0
HaveNumbers plan s start first owned own = (m : ℕ) → is_among m owned ≡ true → IsNumber s start first (mem_plan plan m).depth (own m)
