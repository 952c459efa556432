-- Operations of a core as those of a body's circuit, and what a run of the circuit is given in a group: the words of counters
-- and lanes where it is issued, and the words that memories answer up to a cycle.
use Rattle.std.specs.Prelude.{◌≡◌, ℕ, ◌+◌, ◌≤◌, Bool, true, false, List, length, slice_index_or}
use Rattle.sp_words.specs.declared.kind.BinOp.{BinOp}
use Rattle.sp_words.specs.declared.kind.UnOp.{UnOp}
use Rattle.sp_words.specs.declared.types.Ty.{Ty}
use Rattle.sp_netlist.specs.Signals.{Signals}
use Rattle.sp_core.specs.declared.operation.OpKind.{OpKind}
use Rattle.sp_core.specs.declared.operation.OpKind.TheVariants as kind
use Rattle.sp_core.specs.History.{Entry, touched}
use Rattle.sp_core.specs.PlainCore.{PlainOp}
use Rattle.sp_core.specs.Scope.{Scope}
use Rattle.sp_pipe.specs.declared.part.Act.{Act}
use Rattle.sp_pipe.specs.declared.part.Act.TheVariants as act
use Rattle.sp_pipe.specs.declared.part.PipeOp.{PipeOp}
use Rattle.sp_pipe.specs.Right.{IsAt}
use Rattle.sp_part_runs.specs.ActsEntries.{IsOpAt, entry_at, computed_word}

-- counters and lanes are nets that are given, reads name the net on which their word comes
pub data IsActOf : OpKind → Act → Type 0 where
  of_word : (w : ℕ) → IsActOf (kind.Word w) (act.Word w)
  of_count : (c lane net : ℕ) → IsActOf (kind.Count c lane) (act.Given net)
  of_live : (c first last net : ℕ) → IsActOf (kind.Live c first last) (act.Given net)
  of_read : (net after : ℕ) → IsActOf kind.Read (act.Read net after)
  of_write : IsActOf kind.Write act.Write
  of_enq : IsActOf kind.Enq act.Enq
  of_deq : (net after : ℕ) → IsActOf kind.Deq (act.Deq net after)
  of_reset : IsActOf kind.Reset act.Reset
  of_one : (op : UnOp) → IsActOf (kind.One op) (act.One op)
  of_two : (op : BinOp) → IsActOf (kind.Two op) (act.Two op)
  of_shift : (left : Bool) (by : ℕ) → IsActOf (kind.Shift left by) (act.Shift left by)
  of_mux : IsActOf kind.Mux act.Mux
  of_cast : (to : Ty) → IsActOf (kind.Cast to) (act.Cast to)

pub record IsOpOf (op : PlainOp) (p : PipeOp) : Type 0 where
  pub kinds : IsActOf op.kind p.act
  pub types : p.ty ≡ op.ty
  pub taken : p.args.items ≡ op.args
  pub masks : p.mask ≡ op.mask

-- operation by operation
pub record AreOpsOf (ops : List PlainOp) (ps : List PipeOp) : Type 0 where
  pub each : length ps ≡ length ops
  pub alike : (k : ℕ) (op : PlainOp) (p : PipeOp) → IsOpAt ops k op → IsAt ps k p → IsOpOf op p

abbrev pub is_given : Act → Bool
is_given (act.Given net) = true
is_given _ = false

abbrev pub is_answered : Act → Bool
is_answered (act.Read net after) = true
is_answered (act.Deq net after) = true
is_answered _ = false

-- the net of a word that is given or answered, and how many cycles an answer comes after its access
abbrev pub net_of : Act → ℕ
net_of (act.Given net) = net
net_of (act.Read net after) = net
net_of (act.Deq net after) = net
net_of _ = 0

abbrev pub answer_of : Act → ℕ
answer_of (act.Read net after) = after
answer_of (act.Deq net after) = after
answer_of _ = 0

-- in the cycle of the issue the nets of counters and lanes have their words in the group
abbrev pub AreGiven : Signals → (issued : ℕ) → Scope → List PlainOp → List PipeOp → Type 0
AreGiven s u scope ops ps =
    (k : ℕ) (op : PlainOp) (p : PipeOp) → IsOpAt ops k op → IsAt ps k p → is_given p.act ≡ true → s.net u (net_of p.act) ≡ computed_word scope op.kind op.ty List.[]

-- each access that was made up to a cycle is answered with the word that it found
abbrev pub AreAnswered : Signals → (issued last : ℕ) → List PipeOp → List Entry → Type 0
AreAnswered s u last ps es =
    (k : ℕ) (p : PipeOp) (indices : List ℕ) (w : ℕ) → IsAt ps k p → is_answered p.act ≡ true → entry_at es k ≡ touched indices w → u + (p.time + answer_of p.act) ≤ last
    → s.net (u + (p.time + answer_of p.act)) (net_of p.act) ≡ w
