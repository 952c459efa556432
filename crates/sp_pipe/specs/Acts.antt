-- What the emitted operations of a body promise.
use Rattle.std.specs.Prelude.{◌≡◌, ℕ, ◌+◌, ◌<◌, true, false, ◌&&◌, if◌then◌else◌, IsTrue, List, [], ◌∷◌, ◌++◌, map, length, slice_index, slice_index_or}
use Rattle.sp_netlist.specs.Draft.{Draft}
use Rattle.sp_netlist.specs.Signals.{Signals}
use Rattle.sp_gates.specs.Nets.{HasNet}
use Rattle.sp_gates.specs.Runs.{RunsOn}
use Rattle.sp_gates.specs.Tested.{is_on}
use Rattle.sp_pipe.specs.declared.part.PipeOp.{PipeOp}
use Rattle.sp_pipe.specs.declared.words.Stage.{Stage}
use Rattle.sp_pipe.specs.Right.{IsAt}
use Rattle.sp_pipe.specs.Values.{gives_word, is_access, given_width, taken_width, word_time, time_of, act_word, words_of, is_wanted}

-- so many cycles after the issue the net has the word of the operation at this place
abbrev pub HasWord : Draft → (net time : ℕ) → List PipeOp → (place : ℕ) → Type 0
HasWord d net time ops k = (s : Signals) → RunsOn s d.cells → (u : ℕ) → s.net (u + time) net ≡ slice_index (words_of s u ops) k

-- the net on which the word of an operation stands first
pub record IsStage (d : Draft) (stage : Stage) (width time : ℕ) (ops : List PipeOp) (k : ℕ) : Type 0 where
  pub net : HasNet d stage.net width
  pub when : stage.time ≡ time
  pub gives : HasWord d stage.net time ops k

-- the net has what an operation gives where it is done, by the nets of the words that it takes
abbrev pub IsComputed : Draft → (net : ℕ) → PipeOp → (operands : List ℕ) → Type 0
IsComputed d net op operands = (s : Signals) → RunsOn s d.cells → (u : ℕ) → s.net (u + word_time op.act op.time) net ≡ act_word s u op.ty op.time op.act (map (s.net (u + op.time)) operands)

-- the net has the word of an operation, by one with what it gives where it is done
abbrev pub IsMasked : Draft → (word net : ℕ) → List PipeOp → PipeOp → Type 0
IsMasked d word net ops op = (s : Signals) → RunsOn s d.cells → (u : ℕ) → s.net (u + time_of op.act op.mask op.time) word ≡ (if is_wanted (words_of s u ops) op.mask then s.net (u + word_time op.act op.time) net else 0)

-- of the operation at a place, where it gives a word
abbrev pub StageAt : Draft → Stage → List PipeOp → (place : ℕ) → Type 0
StageAt d stage ops k = (op : PipeOp) → IsAt ops k op → IsTrue (gives_word op.act) → IsStage d stage (given_width op.act op.ty) (time_of op.act op.mask op.time) ops k

-- and of all so far
abbrev pub AreStages : Draft → List Stage → List PipeOp → Type 0
AreStages d stages ops = (k : ℕ) (other : Stage) → k < length stages → StageAt d (slice_index_or stages k other) ops k

-- the first words that an operation takes stand on these nets at its time
pub record AreOperandsTo (d : Draft) (ops : List PipeOp) (op : PipeOp) (operands : List ℕ) (count : ℕ) : Type 0 where
  pub each : length operands ≡ count
  pub nets : (i : ℕ) → i < count → HasNet d (slice_index operands i) (taken_width op.act op.ty (length op.args.items) i)
  pub words : (i : ℕ) → i < count → HasWord d (slice_index operands i) op.time ops (slice_index op.args.items i)

abbrev pub AreOperands : Draft → List PipeOp → PipeOp → List ℕ → Type 0
AreOperands d ops op operands = AreOperandsTo d ops op operands (length op.args.items)

-- An access acts in cycle u + time of each cycle u in which its group is issued and its mask is 1, with the words
-- that it takes, and in no other cycle.
pub record ActsAt (d : Draft) (issue : ℕ) (ops : List PipeOp) (op : PipeOp) (enable : ℕ) (operands : List ℕ) : Type 0 where
  pub net : HasNet d enable 1
  pub enabled : (s : Signals) → RunsOn s d.cells → (u : ℕ) → is_on s enable (u + op.time) ≡ (is_on s issue u && is_wanted (words_of s u ops) op.mask)
  pub early : (s : Signals) → RunsOn s d.cells → (t : ℕ) → t < op.time → is_on s enable t ≡ false
  pub taken : AreOperands d ops op operands

-- for each access of some operations in order its enable, and after it its operands
pub data AreActs (d : Draft) (issue : ℕ) (all : List PipeOp) : List PipeOp → List ℕ → Type 0 where
  none : AreActs d issue all [] []
  passed : {op : PipeOp} {ops : List PipeOp} {nets : List ℕ} → is_access op.act ≡ false → AreActs d issue all ops nets → AreActs d issue all (op ∷ ops) nets
  acted : {op : PipeOp} {ops : List PipeOp} {enable : ℕ} {operands nets : List ℕ} → is_access op.act ≡ true → ActsAt d issue all op enable operands → AreActs d issue all ops nets → AreActs d issue all (op ∷ ops) (enable ∷ operands ++ nets)
