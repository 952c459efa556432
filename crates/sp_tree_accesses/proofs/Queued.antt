-- The nets of puts and takes stand where the lists stand, and what is taken comes two cycles later.
use Rattle.std.proofs.Common.{◌≡◌, ℕ, ◌<◌, inl, inr, Bool, true, false, if◌then◌else◌, List, [], ◌∷◌, length, slice_index, slice_index_or, Option, Some, refl, sym, ◌∙◌, ap, subst, arith}
use Rattle.std.proofs.lemmas.Bool.{false≢true}
use Rattle.std.proofs.lemmas.List.Elements.{Contains-append_cases, Contains-get_or}
use Rattle.std.specs.Prelude.{All}
use Rattle.std.specs.List.{Contains}
use Rattle.sp_words.specs.declared.kind.Kind.{Kind}
use Rattle.sp_words.specs.declared.kind.Kind.TheVariants.{Fifo}
use Rattle.sp_words.specs.declared.types.Ty.{Ty}
use Rattle.sp_words.specs.Types.{width_of}
use Rattle.sp_netlist.specs.Draft.{Draft}
use Rattle.sp_gates.specs.Nets.{HasNet}
use Rattle.sp_gates.proofs.Growing.{HasNet-stays}
use Rattle.sp_core.specs.declared.operation.OpKind.{OpKind}
use Rattle.sp_core.specs.declared.operation.OpKind.TheVariants as kind
use Rattle.sp_core.specs.Around.{Around}
use Rattle.sp_core.specs.Declarations.{mem}
use Rattle.sp_core.specs.Latency.{latency, latency_by, read_of}
use Rattle.sp_core.specs.OperationRules.{can, is_early, is_early_at}
use Rattle.sp_core.specs.PlainCore.{PlainOp, PlainNode, PlainCore}
use Rattle.sp_core.specs.Typed.{taken_types}
use Rattle.sp_pipe.specs.declared.part.Act.{Act}
use Rattle.sp_pipe.specs.declared.part.PipeOp.{PipeOp}
use Rattle.sp_pipe.specs.Acts.{ActsAt}
use Rattle.sp_pipe.specs.Right.{IsAt}
use Rattle.sp_pipe.specs.Values.{taken_width}
use Rattle.sp_part_runs.specs.ActsCircuits.{IsActOf, IsOpOf, answer_of, of_word, of_count, of_live, of_read, of_write, of_enq, of_deq, of_reset, of_one, of_two, of_shift, of_mux, of_cast}
use Rattle.sp_part_runs.specs.ActsEntries.{IsOpAt, word_that_changes}
use Rattle.sp_circuit_ops.specs.declared.ops.WordNet.{WordNet}
use Rattle.sp_circuit_ops.proofs.Typing.{same_width}
use Rattle.sp_time.specs.Lists.{Each}
use Rattle.sp_op_nets.specs.declared.acted.ActedList.{ActedList}
use Rattle.sp_access_nets.specs.declared.access.AccessNets.{AccessNets}
use Rattle.sp_access_nets.specs.Accesses.{answer_in, AreHandedOn}
use Rattle.sp_access_nets.specs.Laws.{RulesNameMemories, EachIsOfOperation}
use Rattle.sp_tree_handed.specs.Lists.{NumberedOps, lists_in}
use Rattle.sp_tree_handed.specs.Standing.{IsListStanding, AreListsStanding}
use Rattle.sp_tree_accesses.specs.Accesses.{AreAllAccesses, no_list, one_list}
use Rattle.sp_tree_accesses.specs.Queued.{QueuedStands}
use Rattle.sp_tree_accesses.proofs.Allowed.{IsRightAccess, right_at, own_kind}
use Rattle.sp_tree_accesses.proofs.Rules.{IsListRight}
use Rattle.sp_tree_accesses.proofs.Standing.{answer_told}
use Rattle.sp_tree_accesses.proofs.Told.{standing_accesses, early_at}

-- a put takes the one word that it puts
put_takes : (k : OpKind) (ty : Ty) (n : ℕ) → k ≡ kind.Enq → 0 < length (taken_types k ty n)
put_takes k ty n e = subst (λ j. 0 < length (taken_types j ty n)) (sym e) (omega arith)

put_width : (k : OpKind) (a : Act) → IsActOf k a → k ≡ kind.Enq → (ty : Ty) (n : ℕ) → taken_width a ty n 0 ≡ width_of ty
put_width _ _ of_enq e ty n = refl
put_width _ _ (of_word w) e ty n = cc
put_width _ _ (of_count c lane net) e ty n = cc
put_width _ _ (of_live c first last net) e ty n = cc
put_width _ _ (of_read net after) e ty n = cc
put_width _ _ of_write e ty n = cc
put_width _ _ (of_deq net after) e ty n = cc
put_width _ _ of_reset e ty n = cc
put_width _ _ (of_one op) e ty n = cc
put_width _ _ (of_two op) e ty n = cc
put_width _ _ (of_shift left by) e ty n = cc
put_width _ _ of_mux e ty n = cc
put_width _ _ (of_cast to) e ty n = cc

-- a take is to be answered
take_answered : (k : OpKind) (a : Act) → IsActOf k a → k ≡ kind.Deq → (w : WordNet) × (answer_in a ≡ Some w)
take_answered _ _ (of_deq net after) e = (record { net = net; after = after }, refl)
take_answered _ _ of_enq e = absurd (cc (e))
take_answered _ _ (of_word w) e = absurd (cc (e))
take_answered _ _ (of_count c lane net) e = absurd (cc (e))
take_answered _ _ (of_live c first last net) e = absurd (cc (e))
take_answered _ _ (of_read net after) e = absurd (cc (e))
take_answered _ _ of_write e = absurd (cc (e))
take_answered _ _ of_reset e = absurd (cc (e))
take_answered _ _ (of_one op) e = absurd (cc (e))
take_answered _ _ (of_two op) e = absurd (cc (e))
take_answered _ _ (of_shift left by) e = absurd (cc (e))
take_answered _ _ of_mux e = absurd (cc (e))
take_answered _ _ (of_cast to) e = absurd (cc (e))

-- no FIFO is read
no_read : (k : OpKind) (m : Kind) (start : Option ℕ) → k ≡ kind.Read → m ≡ Fifo → can k m start ≡ true → ⊥
no_read k m start read fifo allowed = false≢true (subst (λ j. can kind.Read j start ≡ true) fifo (subst (λ j. can j m start ≡ true) read allowed))

-- nothing is taken in a list that stands at once
take_waits : (core : PlainCore) (around : Around) (k : OpKind) (o : Option ℕ) (m : ℕ) → k ≡ kind.Deq → o ≡ Some m → is_early_at core around k o ≡ true → ⊥
take_waits core around k o m take named e = false≢true (subst (λ j. is_early_at core around j (Some m) ≡ true) take (subst (λ v. is_early_at core around k v ≡ true) named e))

module _ (core : PlainCore) (copy : (number : ℕ) → Option ℕ) (names : RulesNameMemories) (d : Draft) where
  queued_here : (of_op : EachIsOfOperation) (list : NumberedOps) (a : ActedList) (added : List AccessNets) → IsListRight core list → IsListStanding d core list a → AreHandedOn copy list.number list.ops a.ops.items a.nets.items added
      → (x : AccessNets) → Contains added x → QueuedStands d core x
  queued_here of_op list a added right stand handed x there =
      let w = of_op copy stand.draft stand.issue a.ops.items list.number list.ops a.ops.items added (standing_accesses core copy names d list a added right stand handed) x there in
      stands w.0 w.1 w.3.placed w.2 w.3.at w.3.of_op.kind w.3.of_op.mem w.3.of_op.answered w.3.acts
    where
      stands : (k : ℕ) (op : PlainOp) (p : PipeOp) → IsOpAt list.ops k op → IsAt a.ops.items k p → x.kind ≡ op.kind → op.mem ≡ Some x.mem → x.answer ≡ answer_in p.act → ActsAt stand.draft stand.issue a.ops.items p x.enable x.operands.items → QueuedStands d core x
      stands k op p at at_p kind_is named answer_is acts = record {
        some = λ e. some e;
        word = λ e. HasNet-stays stand.draft d (word_that_changes x.kind x.operands.items) (width_of (mem core x.mem).ty) stand.grows
            (subst (λ j. HasNet stand.draft (word_that_changes j x.operands.items) (width_of (mem core x.mem).ty)) (sym e)
            (subst (HasNet stand.draft (slice_index x.operands.items 0)) (put_width op.kind p.act like.kinds (sym kind_is ∙ e) p.ty (length p.args.items) ∙ wide) (acts.taken.nets 0 (first_within e))));
        answered = λ e. (let w = take_answered op.kind p.act like.kinds (sym kind_is ∙ e) in (w.0, answer_is ∙ w.1));
        later = λ v take e. (
            let told = answer_told p.act v (sym answer_is ∙ e) in
            in_time v take (stand.after k op p at at_p told.answered) told.after);
        unread = λ read fifo. no_read op.kind (mem core x.mem).kind (mem core x.mem).start (sym kind_is ∙ read) (sym (own_kind core x.mem rule.on_chip) ∙ fifo) rule.allowed;
      }
        where
          rule : IsRightAccess core op x.mem
          rule = right_at core right.around [] list.ops k op x.mem right.right at named

          like : IsOpOf op p
          like = stand.ops_of.alike k op p at at_p

          wide : width_of p.ty ≡ width_of (mem core x.mem).ty
          wide = ap width_of like.types ∙ same_width op.ty (mem core x.mem).ty rule.typed

          each : length x.operands.items ≡ length op.args
          each = acts.taken.each ∙ ap length like.taken

          some : x.kind ≡ kind.Enq → 0 < length x.operands.items
          some e = (let l = put_takes op.kind op.ty rule.indices (sym kind_is ∙ e) in let t = rule.takes in let q = each in omega (arith, l, t, q))

          first_within : x.kind ≡ kind.Enq → 0 < length p.args.items
          first_within e = (let l = some e in let q = acts.taken.each in omega (arith, l, q))

          in_time : (v : WordNet) → x.kind ≡ kind.Deq → answer_of p.act ≡ (if list.at_once then 0 else latency core op) → answer_of p.act ≡ v.after → v.after ≡ 2
          in_time v take after told = by list.at_once refl
            where
              by : (b : Bool) → list.at_once ≡ b → v.after ≡ 2
              by true once = absurd (take_waits core right.around op.kind op.mem x.mem (sym kind_is ∙ take) named (early_at core right.around list.ops k op (right.early once) at))
              by false once = sym told ∙ (after ∙ (ap (λ b. if b then 0 else latency core op) once ∙ ap (λ j. latency_by j (read_of core op.mem)) (sym kind_is ∙ take)))

  queued_each : (of_op : EachIsOfOperation) (lists : List NumberedOps) (acted : List ActedList) (accesses : List AccessNets) → AreAllAccesses copy lists acted accesses → Each (IsListRight core) lists → AreListsStanding d core lists acted
      → (x : AccessNets) → Contains accesses x → QueuedStands d core x
  queued_each of_op _ _ _ no_list rights stand x (k, lt, e) = absurd (omega (arith, lt))
  queued_each of_op _ _ _ (one_list {list} {lists} {a} {acted} {added} {accesses} handed nets more) rights stand x there = elim (Contains-append_cases added accesses x there) [
    | inl w ↦ queued_here of_op list a added rights.0 stand.0 handed x w
    | inr w ↦ queued_each of_op lists acted accesses more rights.1 stand.1 x w
  ]

  pub all_queued : (of_op : EachIsOfOperation) (node : PlainNode) (acted : List ActedList) (accesses : List AccessNets) → AreAllAccesses copy (lists_in node 0) acted accesses → Each (IsListRight core) (lists_in node 0) → AreListsStanding d core (lists_in node 0) acted
      → All (QueuedStands d core) accesses
  all_queued of_op node acted accesses all rights stand k o lt = queued_each of_op (lists_in node 0) acted accesses all rights stand (slice_index_or accesses k o) (Contains-get_or accesses k o lt)
