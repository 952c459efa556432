-- What has an answer reads a word, or takes one from a FIFO.
use Rattle.std.proofs.Common.{◌≡◌, ◌≢◌, ◌⊎◌, ℕ, inl, inr, true, List, [], Option, Some, None, refl, sym, ◌∙◌, subst, arith}
use Rattle.std.proofs.lemmas.Bool.{false≢true}
use Rattle.std.proofs.lemmas.List.Elements.{Contains-append_cases}
use Rattle.std.specs.List.{Contains}
use Rattle.sp_words.specs.declared.kind.Kind.{Kind}
use Rattle.sp_words.specs.declared.kind.Kind.TheVariants.{Reg, Sram, Fifo, LineBuf, Dram, ArgIn, ArgOut}
use Rattle.sp_netlist.specs.Draft.{Draft}
use Rattle.sp_core.specs.declared.operation.OpKind.{OpKind}
use Rattle.sp_core.specs.declared.operation.OpKind.TheVariants as kind
use Rattle.sp_core.specs.Around.{nothing}
use Rattle.sp_core.specs.OperationRules.{can}
use Rattle.sp_core.specs.PlainCore.{PlainCore}
use Rattle.sp_pipe.specs.declared.part.Act.{Act}
use Rattle.sp_part_runs.specs.ActsCircuits.{IsActOf, of_word, of_count, of_live, of_read, of_write, of_enq, of_deq, of_reset, of_one, of_two, of_shift, of_mux, of_cast}
use Rattle.sp_time.specs.Lists.{Each}
use Rattle.sp_circuit_ops.specs.declared.ops.WordNet.{WordNet}
use Rattle.sp_op_nets.specs.declared.acted.ActedList.{ActedList}
use Rattle.sp_access_nets.specs.declared.access.AccessNets.{AccessNets}
use Rattle.sp_access_nets.specs.Accesses.{answer_in, AreHandedOn}
use Rattle.sp_access_nets.specs.Laws.{RulesNameMemories, EachIsOfOperation}
use Rattle.sp_tree_handed.specs.Lists.{NumberedOps, lists_in}
use Rattle.sp_tree_handed.specs.Standing.{IsListStanding, AreListsStanding}
use Rattle.sp_tree_accesses.specs.Accesses.{AreAllAccesses, no_list, one_list}
use Rattle.sp_tree_accesses.specs.Laws.{AnswersAreOfReads}
use Rattle.sp_tree_accesses.proofs.Rules.{IsListRight, lists_right}
use Rattle.sp_tree_accesses.proofs.Told.{standing_accesses}

-- it reads a word, or takes one
abbrev TakesWord : OpKind → Type 0
TakesWord k = (k ≡ kind.Read) ⊎ (k ≡ kind.Deq)

none_some : (word : WordNet) → None ≡ Some word → ⊥
none_some word e = cc

-- just these have a net of an answer
answered_kind : (k : OpKind) (a : Act) (word : WordNet) → IsActOf k a → answer_in a ≡ Some word → TakesWord k
answered_kind _ _ word (of_word w) e = absurd (none_some word e)
answered_kind _ _ word (of_count c lane net) e = absurd (none_some word e)
answered_kind _ _ word (of_live c first last net) e = absurd (none_some word e)
answered_kind _ _ word (of_read net after) e = inl refl
answered_kind _ _ word of_write e = absurd (none_some word e)
answered_kind _ _ word of_enq e = absurd (none_some word e)
answered_kind _ _ word (of_deq net after) e = inr refl
answered_kind _ _ word of_reset e = absurd (none_some word e)
answered_kind _ _ word (of_one op) e = absurd (none_some word e)
answered_kind _ _ word (of_two op) e = absurd (none_some word e)
answered_kind _ _ word (of_shift left by) e = absurd (none_some word e)
answered_kind _ _ word of_mux e = absurd (none_some word e)
answered_kind _ _ word (of_cast to) e = absurd (none_some word e)

-- words are taken from FIFOs alone
taken_from_fifo : (m : Kind) (start : Option ℕ) → can kind.Deq m start ≡ true → m ≡ Fifo
taken_from_fifo Fifo start e = refl
taken_from_fifo Reg start e = absurd (false≢true e)
taken_from_fifo Sram start e = absurd (false≢true e)
taken_from_fifo LineBuf start e = absurd (false≢true e)
taken_from_fifo Dram start e = absurd (false≢true e)
taken_from_fifo ArgIn start e = absurd (false≢true e)
taken_from_fifo ArgOut start e = absurd (false≢true e)

module _ (core : PlainCore) (copy : (number : ℕ) → Option ℕ) (names : RulesNameMemories) (d : Draft) (of_op : EachIsOfOperation) where
  reads_here : (list : NumberedOps) (a : ActedList) (added : List AccessNets) → IsListRight core list → IsListStanding d core list a → AreHandedOn copy list.number list.ops a.ops.items a.nets.items added
      → (x : AccessNets) (word : WordNet) → Contains added x → x.answer ≡ Some word → TakesWord x.kind
  reads_here list a added right stand handed x word there e =
      let w = of_op copy stand.draft stand.issue a.ops.items list.number list.ops a.ops.items added (standing_accesses core copy names d list a added right stand handed) x there in
      subst TakesWord (sym w.3.of_op.kind) (answered_kind w.1.kind w.3.placed.act word (stand.ops_of.alike w.0 w.1 w.3.placed w.2 w.3.at).kinds (sym w.3.of_op.answered ∙ e))

  reads_each : (lists : List NumberedOps) (acted : List ActedList) (accesses : List AccessNets) → AreAllAccesses copy lists acted accesses → Each (IsListRight core) lists → AreListsStanding d core lists acted
      → (x : AccessNets) (word : WordNet) → Contains accesses x → x.answer ≡ Some word → TakesWord x.kind
  reads_each _ _ _ no_list rights stand x word (k, lt, at) e = absurd (omega (arith, lt))
  reads_each _ _ _ (one_list {list} {lists} {a} {acted} {added} {accesses} handed nets more) rights stand x word there e = elim (Contains-append_cases added accesses x there) [
    | inl w ↦ reads_here list a added rights.0 stand.0 handed x word w e
    | inr w ↦ reads_each lists acted accesses more rights.1 stand.1 x word w e
  ]

pub answers_of_reads : (core : PlainCore) → RulesNameMemories → EachIsOfOperation → AnswersAreOfReads core
answers_of_reads core names of_op copy acted accesses tree =
    reads_each core copy names tree.draft of_op (lists_in core.root 0) acted accesses tree.all (lists_right core core.root nothing [] 0 tree.right.nodes) tree.stand

-- what takes a word, of a memory that isn't a FIFO, reads it
pub read_of : (k : OpKind) (m : Kind) (start : Option ℕ) → TakesWord k → can k m start ≡ true → m ≢ Fifo → k ≡ kind.Read
read_of k m start (inl e) allowed other = e
read_of k m start (inr e) allowed other = absurd (other (taken_from_fifo m start (subst (λ j. can j m start ≡ true) e allowed)))
