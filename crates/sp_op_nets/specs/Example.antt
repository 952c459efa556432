-- Worked operations and their nets.
use Rattle.std.specs.Prelude.{◌≡◌, List, [], ◌∷◌, None}
use Rattle.sp_words.specs.Types.{int_type}
use Rattle.sp_core.specs.declared.operation.OpKind.{OpKind}
use Rattle.sp_core.specs.declared.operation.OpKind.TheVariants.{Count, Read, Write, Deq}
use Rattle.sp_core.specs.PlainCore.{PlainOp}
use Rattle.sp_circuit_ops.specs.declared.ops.WordNet.{WordNet}
use Rattle.sp_op_nets.specs.Reserved.{Rise, reserved_of}

abbrev of_kind : OpKind → PlainOp
of_kind kind = record { kind = kind; ty = int_type; args = []; mem = None; mask = None }

-- a counter in lane 3, a read, a write and a take
abbrev pub four_ops : List PlainOp
four_ops = of_kind (Count 0 3) ∷ of_kind Read ∷ of_kind Write ∷ of_kind Deq ∷ []

abbrev pub four_nets : List WordNet
four_nets = record { net = 8; after = 0 } ∷ record { net = 9; after = 2 } ∷ record { net = 0; after = 0 } ∷ record { net = 10; after = 1 } ∷ []

-- in a draft of seven nets, 7 being the constant of the lane: the nets of the read and the take are reserved, and they rise
abbrev pub WorkedNets : Type 0
WorkedNets = (reserved_of four_ops four_nets ≡ 9 ∷ 10 ∷ []) × Rise 7 (reserved_of four_ops four_nets)
