-- Why a list of cells is refused whose cells obey the rules one by one: it is too large, or a net isn't driven
-- once, stands at two widths, or is computed from itself.
use Rattle.std.specs.Prelude.{◌≡◌, ◌≢◌, ℕ, ◌+◌, ◌-◌, ◌^◌, ◌≤◌, List, [], ◌∷◌, ◌++◌, length, map, min, count_by, Option, Some, None, Contains, nat_lt, if◌then◌else◌}
use Rattle.sp_netlist.specs.declared.error.NetError.{NetError}
use Rattle.sp_netlist.specs.declared.error.NetError.TheVariants.{Driven, Width, Loop, NetLimit, Memory}
use Rattle.sp_netlist.specs.Cells.{PlainCell, bank_cell, dram_cell}
use Rattle.sp_words.specs.Interface.{word_count}
use Rattle.sp_netlist.specs.Rules.{IsRight, Leads, is_done, driven_nets, read_nets}
use Rattle.sp_netlist.specs.Draft.{driver_count}

-- each cell obeys the rules after those before it, and one done stands
pub record AreLines (cells : List PlainCell) : Type 0 where
  pub right : (before : List PlainCell) (cell : PlainCell) (after : List PlainCell) → cells ≡ before ++ cell ∷ after → IsRight cells before cell
  pub one_done : count_by is_done cells ≡ 1

-- how many words the banks have, and the DRAMs
abbrev pub bank_words : List PlainCell → ℕ
bank_words [] = 0
bank_words (bank_cell bank width len ∷ cells) = len + bank_words cells
bank_words (cell ∷ cells) = bank_words cells

abbrev pub dram_words : List PlainCell → ℕ
dram_words [] = 0
dram_words (dram_cell dram name ty dims ∷ cells) = word_count dims + dram_words cells
dram_words (cell ∷ cells) = dram_words cells

-- the first of the three counts that passes its limit
abbrev pub count_over : List PlainCell → Option ℕ
count_over cells =
    if nat_lt 2000000 (length cells) then Some (length cells) else
    (if nat_lt 67108864 (bank_words cells) then Some (bank_words cells) else
    (if nat_lt 67108864 (dram_words cells) then Some (dram_words cells) else None))

abbrev pub IsWithinLimits : List PlainCell → Type 0
IsWithinLimits cells = count_over cells ≡ None

-- a net that is driven or read, but isn't driven once
abbrev pub DrivenNotOnce : List PlainCell → ℕ → Type 0
DrivenNotOnce cells net = Contains (map (λ p. p.0) (driven_nets cells ++ read_nets cells)) net × (driver_count cells net ≢ 1)

-- a net that is read at another width than its driver gives it
abbrev pub WidthsDiffer : List PlainCell → ℕ → Type 0
WidthsDiffer cells net = (given : ℕ) × (read : ℕ) × Contains (driven_nets cells) (net, given) × Contains (read_nets cells) (net, read) × (given ≢ read)

-- a net that is computed from itself
abbrev pub IsLooped : List PlainCell → ℕ → Type 0
IsLooped cells net = Leads cells net net

-- the least number of which a fact holds, and that it holds of none
pub record IsLeast (P : ℕ → Type 0) (n : ℕ) : Type 0 where
  pub holds : P n
  pub least : (m : ℕ) → P m → n ≤ m

abbrev pub OfNone : (ℕ → Type 0) → Type 0
OfNone P = (n : ℕ) → P n → ⊥

-- The refusal of a list of cells: the first of the four faults that it has, with its count, or with the least
-- net that has the fault. A count stands as it is up to the end of its type. Want of memory says nothing.
abbrev pub Refuses : List PlainCell → NetError → Type 0
Refuses cells (NetLimit count) = (over : ℕ) × (count_over cells ≡ Some over) × (count ≡ min over (2 ^ 64 - 1))
Refuses cells (Driven net) = IsWithinLimits cells × IsLeast (DrivenNotOnce cells) net
Refuses cells (Width net) = IsWithinLimits cells × OfNone (DrivenNotOnce cells) × IsLeast (WidthsDiffer cells) net
Refuses cells (Loop net) = IsWithinLimits cells × OfNone (DrivenNotOnce cells) × OfNone (WidthsDiffer cells) × IsLeast (IsLooped cells) net
Refuses cells Memory = Unit {0}
