-- When operations can be emitted.
use Rattle.std.specs.Prelude.{◌≡◌, ℕ, ◌<◌, ◌≤◌, ◌^◌, true, IsTrue, List, length, take, IfSome, slice_index, slice_index_or}
use Rattle.sp_words.specs.declared.types.Ty.{Ty}
use Rattle.sp_words.specs.Types.{width_of}
use Rattle.sp_netlist.specs.Draft.{Draft}
use Rattle.sp_gates.specs.Nets.{HasNet}
use Rattle.sp_pipe.specs.declared.part.Act.{Act}
use Rattle.sp_pipe.specs.declared.part.Act.TheVariants.{Given, Word, Shift, Read, Deq}
use Rattle.sp_pipe.specs.declared.part.PipeOp.{PipeOp}
use Rattle.sp_pipe.specs.Values.{gives_word, time_of, given_width, taken_width, takes}

-- the operation at this place
pub record IsAt (ops : List PipeOp) (k : ℕ) (op : PipeOp) : Type 0 where
  pub within : k < length ops
  pub is : (other : PipeOp) → slice_index_or ops k other ≡ op

-- an earlier operation gives a word of that width, in time
pub record IsTaken (earlier : List PipeOp) (k width time : ℕ) : Type 0 where
  pub op : PipeOp
  pub at : IsAt earlier k op
  pub gives : IsTrue (gives_word op.act)
  pub wide : given_width op.act op.ty ≡ width
  pub in_time : time_of op.act op.mask op.time ≤ time

-- nets stand that are named, words are of their type
abbrev pub ActFits : Draft → Ty → Act → Type 0
ActFits d ty (Given net) = HasNet d net (width_of ty)
ActFits d ty (Word w) = w < 2 ^ width_of ty
ActFits d ty (Shift left by) = by < 64
ActFits d ty (Read net after) = HasNet d net (width_of ty)
ActFits d ty (Deq net after) = HasNet d net (width_of ty)
ActFits d ty act = Unit {0}

pub record OpFits (d : Draft) (earlier : List PipeOp) (op : PipeOp) : Type 0 where
  pub act : ActFits d op.ty op.act
  pub count : takes op.act (length op.args.items) ≡ true
  pub args : (i : ℕ) → i < length op.args.items → IsTaken earlier (slice_index op.args.items i) (taken_width op.act op.ty (length op.args.items) i) op.time
  pub mask : IfSome op.mask (λ m. IsTaken earlier m 1 op.time)
  pub time : time_of op.act op.mask op.time < 2 ^ 32

-- each operation fits behind those before it
abbrev pub OpsFit : Draft → List PipeOp → Type 0
OpsFit d ops = (k : ℕ) (op : PipeOp) → IsAt ops k op → OpFits d (take k ops) op
