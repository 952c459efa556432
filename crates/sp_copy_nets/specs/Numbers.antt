-- What the nets of numbers have in each cycle.
use Rattle.std.specs.Prelude.{◌≡◌, ℕ, true, List, [], ◌∷◌, map, Option, Some, None, Contains}
use Rattle.sp_netlist.specs.Draft.{Draft}
use Rattle.sp_netlist.specs.Signals.{Signals}
use Rattle.sp_gates.specs.Nets.{HasNet}
use Rattle.sp_gates.specs.Runs.{RunsOn}
use Rattle.sp_gates.specs.Tested.{is_on}
use Rattle.sp_core.specs.Declarations.{is_among}
use Rattle.sp_plan.specs.PlainPlan.{PlainPlan, mem_plan}
use Rattle.sp_beat_words.specs.Numbers.{coming_number}
use Rattle.sp_tree_events.specs.CopiesStanding.{CopyNets, IsNumber}
use Rattle.sp_copy_nets.specs.declared.part.SlotNumbers.{SlotNumbers}

-- the memories have so many copies in the plan
abbrev pub AreDepths : PlainPlan → (owned copies : List ℕ) → Type 0
AreDepths plan owned copies = map (λ m. (mem_plan plan m).depth) owned ≡ copies

-- a net has in a slot's first cycle already the number of the copy of the group that comes
abbrev pub IsComing : Signals → (start first copies : ℕ) → Option ℕ → Type 0
IsComing s start first copies None = copies ≡ 1
IsComing s start first copies (Some net) = (t : ℕ) → s.net t net ≡ coming_number (is_on s start) (is_on s first) copies t

-- so it is for each memory that a loop owns
abbrev pub HaveComing : PlainPlan → Signals → (start first : ℕ) → (owned : List ℕ) → CopyNets → Type 0
HaveComing plan s start first owned coming = (m : ℕ) → is_among m owned ≡ true → IsComing s start first (mem_plan plan m).depth (coming m)

-- the nets that there are have 32 bits
abbrev pub StandNumbers : Draft → List (Option ℕ) → Type 0
StandNumbers d nets = (net : ℕ) → Contains nets (Some net) → HasNet d net 32

-- a net has the number of a slot's copy in each run of what the draft becomes, and another one that of the copy that comes
pub record IsNumbered (d : Draft) (start first copies : ℕ) (net coming : Option ℕ) : Type 0 where
  pub stands : (n : ℕ) → coming ≡ Some n → HasNet d n 32
  pub number : (s : Signals) → RunsOn s d.cells → IsNumber s start first copies net
  pub comes : (s : Signals) → RunsOn s d.cells → IsComing s start first copies coming

-- memory by memory, and slot by slot
pub data AllNumbered (d : Draft) (start first : ℕ) : (copies : List ℕ) → (nets coming : List (Option ℕ)) → Type 0 where
  no_number : AllNumbered d start first [] [] []
  one_number : {n : ℕ} {net comes : Option ℕ} {copies : List ℕ} {nets coming : List (Option ℕ)} → IsNumbered d start first n net comes → AllNumbered d start first copies nets coming → AllNumbered d start first (n ∷ copies) (net ∷ nets) (comes ∷ coming)

pub data AllSlotsNumbered (d : Draft) (start : ℕ) (copies : List ℕ) : (firsts : List ℕ) → (slots coming : List SlotNumbers) → Type 0 where
  no_slot : AllSlotsNumbered d start copies [] [] []
  one_slot : {first : ℕ} {slot comes : SlotNumbers} {firsts : List ℕ} {slots coming : List SlotNumbers} → AllNumbered d start first copies slot.nets.items comes.nets.items → AllSlotsNumbered d start copies firsts slots coming
      → AllSlotsNumbered d start copies (first ∷ firsts) (slot ∷ slots) (comes ∷ coming)
