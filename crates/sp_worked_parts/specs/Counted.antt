-- The worked loop that writes a memory.
use Rattle.std.specs.Prelude.{◌≡◌, ℕ, List, [], ◌∷◌, None}
use Rattle.sp_words.specs.Types.{int_type}
use Rattle.sp_words.specs.declared.kind.BinOp.TheVariants.{Add}
use Rattle.sp_netlist.specs.Draft.{Draft}
use Rattle.sp_gates.specs.Nets.{HasNet}
use Rattle.sp_banked.specs.declared.part.Banked.{Banked}
use Rattle.sp_pipe.specs.declared.part.Act.{Act}
use Rattle.sp_pipe.specs.declared.part.Act.TheVariants.{Given, Two, Write}
use Rattle.sp_pipe.specs.declared.part.PipeOp.{PipeOp}
use Rattle.sp_worked_parts.specs.declared.counted.Stored.{Stored}
use Rattle.sp_worked_parts.specs.Touches.{IsOne}

-- an operation on numbers of 32 bits without a mask
pub record IsOp (act : Act) (args : List ℕ) (time : ℕ) (op : PipeOp) : Type 0 where
  pub act_is : op.act ≡ act
  pub ty_is : op.ty ≡ int_type
  pub args_is : op.args.items ≡ args
  pub mask_is : op.mask ≡ None
  pub time_is : op.time ≡ time

-- the element of a number is written with twice that number
pub record AreDoubled (value : ℕ) (ops : List PipeOp) : Type 0 where
  pub given : PipeOp
  pub sum : PipeOp
  pub write : PipeOp
  pub are : ops ≡ given ∷ sum ∷ write ∷ []
  pub given_is : IsOp (Given value) [] 0 given
  pub sum_is : IsOp (Two Add) (0 ∷ 0 ∷ []) 0 sum
  pub write_is : IsOp Write (0 ∷ 1 ∷ []) 1 write

pub record StoreFits (d : Draft) (stored : Stored) : Type 0 where
  pub enable_net : HasNet d stored.enable 1
  pub element_net : HasNet d stored.element 32
  pub word_net : HasNet d stored.word 32
  pub done_net : HasNet d stored.done 1

-- four elements in two banks, in one copy and one duplicate, of which one is read where the loop is done
pub record IsStored (stored : Stored) (place y : ℕ) (part : Banked) : Type 0 where
  pub start : part.start ≡ stored.done
  pub bank : part.bank ≡ 0
  pub ty : part.ty ≡ int_type
  pub dims : part.layout.dims.items ≡ 4 ∷ []
  pub alpha : part.layout.alpha.items ≡ 1 ∷ []
  pub banks : part.layout.banks ≡ 2
  pub block : part.layout.block ≡ 1
  pub hinge : part.layout.hinge ≡ 0
  pub copies : part.copies ≡ 1
  pub duplicates : part.duplicates ≡ 1
  pub writes : IsOne stored.enable (stored.element ∷ []) stored.word part.writes.items
  pub reads : IsOne stored.done (place ∷ []) y part.reads.items
