-- The accesses of a list, by the nets that its circuit hands on.
use Rattle.std.specs.Prelude.{◌≡◌, ℕ, suc, Bool, true, false, List, [], ◌∷◌, ◌++◌, slice_index_or, Option, Some, None}
use Rattle.sp_netlist.specs.Draft.{Draft}
use Rattle.sp_core.specs.PlainCore.{PlainOp}
use Rattle.sp_pipe.specs.declared.part.Act.{Act}
use Rattle.sp_pipe.specs.declared.part.Act.TheVariants.{Read, Deq}
use Rattle.sp_pipe.specs.declared.part.PipeOp.{PipeOp}
use Rattle.sp_pipe.specs.Acts.{ActsAt, AreActs}
use Rattle.sp_pipe.specs.Values.{is_access}
use Rattle.sp_circuit_ops.specs.declared.ops.WordNet.{WordNet}
use Rattle.sp_access_nets.specs.declared.access.AccessNets.{AccessNets}

-- the net of the number of the copy on which an operation acts, in a list with an entry for each operation's number; for copy 0 there may be
-- none
abbrev pub copy_in : List (Option ℕ) → (number : ℕ) → Option ℕ
copy_in copies n = slice_index_or copies n None

-- the net on which an operation is to be answered, and how many cycles later
abbrev pub answer_in : Act → Option WordNet
answer_in (Read net after) = Some (record { net = net; after = after })
answer_in (Deq net after) = Some (record { net = net; after = after })
answer_in _ = None

abbrev pub is_some : Option ℕ → Bool
is_some (Some m) = true
is_some None = false

-- operations of a core and those of its circuit, of which just the accesses name memories
abbrev pub AccessesNameMemories : List PlainOp → List PipeOp → Type 0
AccessesNameMemories [] [] = Unit {0}
AccessesNameMemories (op ∷ ops) (p ∷ ps) = (is_some op.mem ≡ is_access p.act) × AccessesNameMemories ops ps
AccessesNameMemories _ _ = ⊥

-- an access is that of an operation
pub record IsAccessOf (copy : (number : ℕ) → Option ℕ) (number : ℕ) (op : PlainOp) (p : PipeOp) (a : AccessNets) : Type 0 where
  pub first : a.number ≡ number
  pub kind : a.kind ≡ op.kind
  pub mem : op.mem ≡ Some a.mem
  pub copied : a.copy ≡ copy number
  pub answered : a.answer ≡ answer_in p.act

-- accesses in the order of their operations, and that each acts by the nets that are handed on for it
module _ (copy : (number : ℕ) → Option ℕ) (d : Draft) (issue : ℕ) (all : List PipeOp) where
  pub data AreAccesses : (number : ℕ) → List PlainOp → List PipeOp → List AccessNets → Type 0 where
    none : {n : ℕ} → AreAccesses n [] [] []
    passed : {n : ℕ} {op : PlainOp} {ops : List PlainOp} {p : PipeOp} {ps : List PipeOp} {accesses : List AccessNets} → op.mem ≡ None → is_access p.act ≡ false → AreAccesses (suc n) ops ps accesses → AreAccesses n (op ∷ ops) (p ∷ ps) accesses
    acted : {n : ℕ} {op : PlainOp} {ops : List PlainOp} {p : PipeOp} {ps : List PipeOp} {a : AccessNets} {accesses : List AccessNets} → is_access p.act ≡ true → IsAccessOf copy n op p a → ActsAt d issue all p a.enable a.operands.items → AreAccesses (suc n) ops ps accesses → AreAccesses n (op ∷ ops) (p ∷ ps) (a ∷ accesses)

-- so it is in each circuit of which these are the nets
abbrev pub AreHandedOn : (copy : (number : ℕ) → Option ℕ) → (number : ℕ) → List PlainOp → List PipeOp → (nets : List ℕ) → List AccessNets → Type 0
AreHandedOn copy n ops ps nets accesses =
    (d : Draft) (issue : ℕ) (all : List PipeOp) → AccessesNameMemories ops ps → AreActs d issue all ps nets → AreAccesses copy d issue all n ops ps accesses

-- the nets of accesses in order: of each its enable, and behind it its operands
abbrev pub nets_of : List AccessNets → List ℕ
nets_of [] = []
nets_of (a ∷ accesses) = a.enable ∷ a.operands.items ++ nets_of accesses

-- in such a circuit these are all the nets that are handed on
abbrev pub AreNetsHandedOn : List PlainOp → List PipeOp → (nets : List ℕ) → List AccessNets → Type 0
AreNetsHandedOn ops ps nets accesses = (d : Draft) (issue : ℕ) (all : List PipeOp) → AccessesNameMemories ops ps → AreActs d issue all ps nets → nets ≡ nets_of accesses

-- accesses come behind others
pub record AddAccesses (copy : (number : ℕ) → Option ℕ) (number : ℕ) (ops : List PlainOp) (ps : List PipeOp) (nets : List ℕ) (before after : List AccessNets) : Type 0 where
  pub added : List AccessNets
  pub behind : after ≡ before ++ added
  pub handed : AreHandedOn copy number ops ps nets added
  pub nets_are : AreNetsHandedOn ops ps nets added
