-- Worked operations and their accesses.
use Rattle.std.specs.Prelude.{◌≡◌, ℕ, List, [], ◌∷◌, Option, Some, None}
use Rattle.sp_words.specs.Types.{int_type}
use Rattle.sp_netlist.specs.Draft.{Draft}
use Rattle.sp_core.specs.declared.operation.OpKind.{OpKind}
use Rattle.sp_core.specs.declared.operation.OpKind.TheVariants as kind
use Rattle.sp_core.specs.PlainCore.{PlainOp}
use Rattle.sp_pipe.specs.declared.part.Act.TheVariants as act
use Rattle.sp_pipe.specs.declared.part.PipeOp.{PipeOp}
use Rattle.sp_pipe.specs.Acts.{AreActs}
use Rattle.sp_circuit_ops.specs.declared.ops.WordNet.{WordNet}
use Rattle.sp_access_nets.specs.declared.access.AccessNets.{AccessNets}
use Rattle.sp_access_nets.specs.Accesses.{copy_in, AreHandedOn, AreNetsHandedOn}

-- a counter, a read of memory 2 at the counter's word, and a write of the read word to memory 3 at the same place
abbrev pub three_ops : List PlainOp
three_ops =
    record { kind = kind.Count 0 0; ty = int_type; args = []; mem = None; mask = None }
    ∷ record { kind = kind.Read; ty = int_type; args = 0 ∷ []; mem = Some 2; mask = None }
    ∷ record { kind = kind.Write; ty = int_type; args = 0 ∷ 1 ∷ []; mem = Some 3; mask = None }
    ∷ []

-- the same in a circuit, where net 4 is the counter, and the read is answered on net 9 two cycles later
pub record AreThree (count read write : PipeOp) : Type 0 where
  pub given : count.act ≡ act.Given 4
  pub reads : read.act ≡ act.Read 9 2
  pub place : read.args.items ≡ 0 ∷ []
  pub writes : write.act ≡ act.Write
  pub both : write.args.items ≡ 0 ∷ 1 ∷ []

-- the read is enabled on net 5 and takes net 6; the write is enabled on net 7 and takes nets 8 and 10
abbrev pub three_nets : List ℕ
three_nets = 5 ∷ 6 ∷ 7 ∷ 8 ∷ 10 ∷ []

-- the number of the copy on which operation 3 acts is on net 20
abbrev pub three_copies : (number : ℕ) → Option ℕ
three_copies = copy_in (None ∷ None ∷ None ∷ Some 20 ∷ [])

pub record IsTold (a : AccessNets) (number : ℕ) (k : OpKind) (mem enable : ℕ) (operands : List ℕ) (copy : Option ℕ) (answer : Option WordNet) : Type 0 where
  pub number_is : a.number ≡ number
  pub kind_is : a.kind ≡ k
  pub mem_is : a.mem ≡ mem
  pub enable_is : a.enable ≡ enable
  pub operands_are : a.operands.items ≡ operands
  pub copy_is : a.copy ≡ copy
  pub answer_is : a.answer ≡ answer

pub record AreBoth (accesses : List AccessNets) : Type 0 where
  pub read : AccessNets
  pub write : AccessNets
  pub both : accesses ≡ read ∷ write ∷ []
  pub reads : IsTold read 2 kind.Read 2 5 (6 ∷ []) None (Some (record { net = 9; after = 2 }))
  pub writes : IsTold write 3 kind.Write 3 7 (8 ∷ 10 ∷ []) (Some 20) None

-- what is handed on for them, from number 1 on, is the read and the write
abbrev pub WorkedAccesses : Type 0
WorkedAccesses =
    (d : Draft) (issue : ℕ) (all : List PipeOp) (p q r : PipeOp) (accesses : List AccessNets) → AreThree p q r → AreActs d issue all (p ∷ q ∷ r ∷ []) three_nets
    → AreHandedOn three_copies 1 three_ops (p ∷ q ∷ r ∷ []) three_nets accesses → AreNetsHandedOn three_ops (p ∷ q ∷ r ∷ []) three_nets accesses → AreBoth accesses
