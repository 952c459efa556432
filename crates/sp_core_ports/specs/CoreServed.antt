-- Which reader does a read of a memory with banks.
use Rattle.std.specs.Prelude.{◌≡◌, ℕ, ◌<◌, ◌≤◌, ◌⊎◌, true, false, List, [], ◌∷◌, length}
use Rattle.sp_core.specs.Declarations.{mem}
use Rattle.sp_core.specs.Events.{Event, Moment, touches}
use Rattle.sp_core.specs.Meeting.{changes}
use Rattle.sp_core.specs.PlainCore.{PlainCore}
use Rattle.sp_plan.specs.PlainPlan.{PlainPlan, mem_plan}
use Rattle.sp_plan.specs.Ports.{has_banks}
use Rattle.sp_core_ports.specs.UsedReaders.{Reader, readers_of}

abbrev pub IsOneOf : Reader → List Reader → Type 0
IsOneOf r [] = ⊥
IsOneOf r (x ∷ xs) = (r ≡ x) ⊎ IsOneOf r xs

-- one of the memory's readers does it, which is over before a number
pub record HasReader (core : PlainCore) (until : ℕ) (e : Event) : Type 0 where
  pub reader : Reader
  pub is_one : IsOneOf reader (readers_of core e.mem)
  pub begun : reader.from ≤ e.number
  pub not_over : e.number < reader.until
  pub is_over : reader.until ≤ until

-- where a moment reads a memory with banks, one does
abbrev pub IsServed : PlainCore → (until : ℕ) → Moment → Type 0
IsServed core u (touches e) = has_banks (mem core e.mem).kind ≡ true → changes e.act ≡ false → HasReader core u e
IsServed core u moment = Unit {0}

-- a plan has a duplicate for each reader of a memory with banks
abbrev pub HasDuplicates : PlainCore → PlainPlan → Type 0
HasDuplicates core plan = (m : ℕ) → has_banks (mem core m).kind ≡ true → length (readers_of core m) ≤ (mem_plan plan m).duplicates
