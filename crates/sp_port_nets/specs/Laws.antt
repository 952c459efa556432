-- The ports of arguments and outputs, and the words of arguments: as statements.
use Rattle.std.specs.Prelude.{◌≡◌, ℕ, ◌<◌, true, List, [], ◌∷◌, length, slice_index, slice_index_or, Some}
use Rattle.sp_words.specs.declared.kind.Kind.{Kind}
use Rattle.sp_words.specs.declared.kind.Kind.TheVariants.{ArgIn, ArgOut}
use Rattle.sp_words.specs.Memory.{words}
use Rattle.sp_words.specs.Ports.{PlainPort, PlainInput}
use Rattle.sp_core.specs.Declarations.{mem, kind_of}
use Rattle.sp_core.specs.Invariant.{IsCore}
use Rattle.sp_core.specs.Meaning.{args_of, outs_of, first_store}
use Rattle.sp_core.specs.MemoryRules.{are_port_names, names_of}
use Rattle.sp_core.specs.PlainCore.{PlainMem, no_port, PlainCore}
use Rattle.sp_core.specs.Store.{words_of}
use Rattle.sp_port_nets.specs.Nets.{nets_of_arguments}

-- a port is that of a memory: one word of its type, with its name
pub record IsPortOf (port : PlainPort) (m : PlainMem) : Type 0 where
  pub name : port.name ≡ m.name
  pub ty : port.ty ≡ m.ty
  pub dims : port.dims ≡ []

-- the port at a place is that of the memory with this number, which is of this kind; `numbers` has those of all memories of
-- the kind, in order
pub record IsPortAt (core : PlainCore) (kind : Kind) (ports : List PlainPort) (numbers : List ℕ) (k m : ℕ) : Type 0 where
  pub place : k < length ports
  pub number : slice_index numbers k ≡ m
  pub within : m < length core.mems
  pub of_kind : (mem core m).kind ≡ kind
  pub port : IsPortOf (slice_index_or ports k no_port) (mem core m)

-- the ports are those of the memories of a kind, in order, and no two have one name
pub record ArePorts (core : PlainCore) (kind : Kind) (ports : List PlainPort) (numbers : List ℕ) : Type 0 where
  pub names : are_port_names (names_of ports) ≡ true
  pub each : length numbers ≡ length ports
  pub at : (k : ℕ) → k < length ports → IsPortAt core kind ports numbers k (slice_index numbers k)

-- the arguments' ports are those of the arguments; each argument has one, and its net is that of the port
abbrev pub ArgumentsArePorts : Type 0
ArgumentsArePorts =
    (core : PlainCore) → IsCore core
    → ArePorts core ArgIn core.ports.args (args_of core)
    × ((m : ℕ) → m < length core.mems → (mem core m).kind ≡ ArgIn
    → (k : ℕ) × IsPortAt core ArgIn core.ports.args (args_of core) k m × ((ports : List ℕ) → slice_index (nets_of_arguments core.mems ports) m ≡ slice_index ports k))

-- the outputs' ports are those of the outputs
abbrev pub OutputsArePorts : Type 0
OutputsArePorts = (core : PlainCore) → IsCore core → ArePorts core ArgOut core.ports.outs (outs_of core)

-- before a core begins an argument holds the word that the input has at its place
abbrev pub ArgumentsStand : Type 0
ArgumentsStand =
    (core : PlainCore) (input : PlainInput) → IsCore core → length input.args ≡ length core.ports.args
    → (k m : ℕ) → k < length core.ports.args → slice_index (args_of core) k ≡ m → first_store core input m ≡ Some (words (slice_index input.args k ∷ []))

-- where each port's net has at all times the word of the input, so have the nets of arguments those with which they begin
abbrev pub ArgumentsHaveWords : Type 0
ArgumentsHaveWords =
    (core : PlainCore) (input : PlainInput) (ports : List ℕ) (net : ℕ → ℕ → ℕ) → IsCore core
    → length ports ≡ length core.ports.args → length input.args ≡ length core.ports.args
    → ((t i : ℕ) → i < length ports → net t (slice_index ports i) ≡ slice_index input.args i)
    → (m : ℕ) → m < length core.mems → kind_of core m ≡ ArgIn → (t : ℕ) → net t (slice_index (nets_of_arguments core.mems ports) m) ≡ slice_index_or (words_of (first_store core input m)) 0 0
