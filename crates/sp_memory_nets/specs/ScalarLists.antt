-- What is done to a memory of one word by accesses and by owners, each in the order in which they are handed on.
use Rattle.std.specs.Prelude.{ℕ, ◌==◌, Bool, true, false, ◌&&◌, List, [], ◌++◌, map, Option, Some, None}
use Rattle.std.specs.List.{filter}
use Rattle.sp_core.specs.declared.operation.OpKind.TheVariants.{Write, Reset}
use Rattle.sp_core.specs.Declarations.{mem}
use Rattle.sp_core.specs.PlainCore.{PlainCore}
use Rattle.sp_core.specs.Sequential.{has_reset}
use Rattle.sp_mem.specs.declared.part.Fresh.{Fresh}
use Rattle.sp_mem.specs.declared.part.Touch.{Touch}
use Rattle.sp_part_runs.specs.ActsEntries.{word_that_changes}
use Rattle.sp_circuit_ops.specs.declared.ops.WordNet.{WordNet}
use Rattle.sp_access_nets.specs.declared.access.AccessNets.{AccessNets}
use Rattle.sp_access_nets.specs.Picking.{is_to}
use Rattle.sp_tree_handed.specs.declared.owners.Keeping.{Keeping}
use Rattle.sp_tree_handed.specs.declared.owners.OwnerNets.{OwnerNets}
use Rattle.sp_tree_handed.specs.declared.owners.Renewal.{Renewal}

-- an access of a register by its nets: a register has no index, and looks at neither duplicates nor taps
pub record PlainTouch : Type 0 where
  pub enable : ℕ
  pub copy : Option ℕ
  pub word : ℕ

abbrev pub plain_touch : Touch → PlainTouch
plain_touch t = record { enable = t.enable; copy = t.copy; word = t.word }

abbrev pub touch_by : (enable : ℕ) (copy : Option ℕ) (word : ℕ) → PlainTouch
touch_by enable copy word = record { enable = enable; copy = copy; word = word }

abbrev pub fresh_by : (enable : ℕ) (copy : Option ℕ) → Fresh
fresh_by enable copy = record { enable = enable; copy = copy }

-- what an access or an owner does, at the copy whose number stands on its net
abbrev pub write_of : AccessNets → PlainTouch
write_of a = touch_by a.enable a.copy (word_that_changes Write a.operands.items)

abbrev pub state_of : Keeping → PlainTouch
state_of k = touch_by k.done k.copy k.word

abbrev pub reset_of : AccessNets → Fresh
reset_of a = fresh_by a.enable a.copy

abbrev pub renewal_of : Renewal → Fresh
renewal_of r = fresh_by r.first r.copy

abbrev pub answer_net : Option WordNet → ℕ
answer_net (Some word) = word.net
answer_net None = 0

abbrev pub read_of : AccessNets → PlainTouch
read_of a = touch_by a.enable a.copy (answer_net a.answer)

-- which of them are about a memory
abbrev pub is_kept : (mem : ℕ) → Keeping → Bool
is_kept m k = k.mem == m

abbrev pub is_renewed : (mem : ℕ) → Renewal → Bool
is_renewed m r = r.mem == m

abbrev pub is_answered : Option WordNet → Bool
is_answered (Some word) = true
is_answered None = false

abbrev pub is_reader : (mem : ℕ) → AccessNets → Bool
is_reader m a = a.mem == m && is_answered a.answer

-- the writes of operations, and of FSMs that keep their states
abbrev pub writes_to : (mem : ℕ) → List AccessNets → OwnerNets → List PlainTouch
writes_to m accesses owners = map write_of (filter (is_to m Write) accesses) ++ map state_of (filter (is_kept m) owners.kept.items)

-- loops make a memory fresh that has a reset
abbrev pub renewals_to : (has_reset : Bool) → (mem : ℕ) → List Renewal → List Fresh
renewals_to true m renewed = map renewal_of (filter (is_renewed m) renewed)
renewals_to false m renewed = []

abbrev pub fresh_to : PlainCore → (mem : ℕ) → List AccessNets → OwnerNets → List Fresh
fresh_to core m accesses owners = map reset_of (filter (is_to m Reset) accesses) ++ renewals_to (has_reset (mem core m).kind (mem core m).start) m owners.renewed.items

-- the accesses that are to be answered, and the nets on which they are
abbrev pub reads_to : (mem : ℕ) → List AccessNets → List PlainTouch
reads_to m accesses = map read_of (filter (is_reader m) accesses)

abbrev pub answers_to : (mem : ℕ) → List AccessNets → List ℕ
answers_to m accesses = map (λ (p : PlainTouch). p.word) (reads_to m accesses)
