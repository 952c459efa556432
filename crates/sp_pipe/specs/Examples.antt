-- A worked body, which puts 7 into a queue.
use Rattle.std.specs.Prelude.{◌≡◌, ℕ, suc, ◌<◌, false, List, [], ◌∷◌, None}
use Rattle.sp_words.specs.Types.{int_type}
use Rattle.sp_netlist.specs.Draft.{Draft}
use Rattle.sp_netlist.specs.Signals.{Signals}
use Rattle.sp_gates.specs.Runs.{RunsOn}
use Rattle.sp_gates.specs.Tested.{is_on}
use Rattle.sp_pipe.specs.declared.part.Act.TheVariants.{Word, Enq}
use Rattle.sp_pipe.specs.declared.part.PipeOp.{PipeOp}

-- the word 7
pub record IsSeven (op : PipeOp) : Type 0 where
  pub act : op.act ≡ Word 7
  pub ty : op.ty ≡ int_type
  pub args : op.args.items ≡ []
  pub mask : op.mask ≡ None
  pub time : op.time ≡ 0

-- the word of the first operation is put, a cycle after the issue
pub record IsPut (op : PipeOp) : Type 0 where
  pub act : op.act ≡ Enq
  pub ty : op.ty ≡ int_type
  pub args : op.args.items ≡ 0 ∷ []
  pub mask : op.mask ≡ None
  pub time : op.time ≡ 1

-- two cycles after each start the one net is 1 and the other has 7, and the first one is 1 in no other cycle
pub record PutsSeven (d : Draft) (start : ℕ) (nets : List ℕ) : Type 0 where
  pub enable : ℕ
  pub word : ℕ
  pub both : nets ≡ enable ∷ word ∷ []
  pub puts : (s : Signals) → RunsOn s d.cells → (t : ℕ) → is_on s enable (suc (suc t)) ≡ is_on s start t
  pub early : (s : Signals) → RunsOn s d.cells → (t : ℕ) → t < 2 → is_on s enable t ≡ false
  pub seven : (s : Signals) → RunsOn s d.cells → (t : ℕ) → s.net (suc t) word ≡ 7

-- the net has 7 in each cycle
abbrev pub GivesSeven : Draft → (net : ℕ) → Type 0
GivesSeven d net = (s : Signals) → RunsOn s d.cells → (t : ℕ) → s.net t net ≡ 7
