-- The nets of accesses stand where the lists stand, and are to be answered on the nets that the lists reserved.
use Rattle.std.proofs.Common.{◌≡◌, ℕ, suc, ◌+◌, ◌-◌, ◌<◌, inl, inr, Bool, true, false, if◌then◌else◌, List, [], ◌∷◌, ◌++◌, length, replicate, slice_index, slice_index_or, Option, Some, None, refl, sym, ◌∙◌, ap, subst, arith, append_assoc}
use Rattle.std.proofs.lemmas.Bool.{eq-eqb}
use Rattle.std.proofs.lemmas.List.{length-append}
use Rattle.std.proofs.lemmas.List.Elements.{All-weaker, Contains-append_cases, Contains-get_or}
use Rattle.std.specs.Prelude.{◌≢◌, All}
use Rattle.std.specs.List.{Contains}
use Rattle.sp_words.specs.declared.kind.Kind.TheVariants.{ArgIn}
use Rattle.sp_words.specs.declared.types.Ty.{Ty}
use Rattle.sp_words.specs.Types.{int_type, width_of}
use Rattle.sp_netlist.specs.Draft.{Draft}
use Rattle.sp_gates.specs.Nets.{HasNet}
use Rattle.sp_gates.proofs.Growing.{HasNet-stays}
use Rattle.sp_core.specs.declared.operation.OpKind.{OpKind}
use Rattle.sp_core.specs.declared.operation.OpKind.TheVariants as kind
use Rattle.sp_core.specs.Declarations.{mem, kind_of, dims}
use Rattle.sp_core.specs.Latency.{latency, latency_by, read_of, read_latency}
use Rattle.sp_core.specs.PlainCore.{PlainOp, PlainNode, PlainCore}
use Rattle.sp_core.specs.Typed.{taken_types}
use Rattle.sp_pipe.specs.declared.part.Act.{Act}
use Rattle.sp_pipe.specs.declared.part.Act.TheVariants as act
use Rattle.sp_pipe.specs.declared.part.PipeOp.{PipeOp}
use Rattle.sp_pipe.specs.Acts.{ActsAt}
use Rattle.sp_pipe.specs.Right.{IsAt}
use Rattle.sp_pipe.specs.Values.{taken_width}
use Rattle.sp_part_runs.specs.ActsCircuits.{IsActOf, IsOpOf, is_answered, net_of, answer_of, of_word, of_count, of_live, of_read, of_write, of_enq, of_deq, of_reset, of_one, of_two, of_shift, of_mux, of_cast}
use Rattle.sp_part_runs.specs.ActsEntries.{IsOpAt, index_words, word_that_changes}
use Rattle.sp_circuit_ops.specs.declared.ops.WordNet.{WordNet}
use Rattle.sp_circuit_ops.proofs.Typing.{same_width}
use Rattle.sp_time.specs.Lists.{Each}
use Rattle.sp_op_nets.specs.declared.acted.ActedList.{ActedList}
use Rattle.sp_op_nets.specs.Acted.{answers_of, answers_in}
use Rattle.sp_access_nets.specs.declared.access.AccessNets.{AccessNets}
use Rattle.sp_access_nets.specs.Accesses.{answer_in, AreHandedOn}
use Rattle.sp_access_nets.specs.Laws.{RulesNameMemories, net_in, answer_nets, ReservedAreAnswers, EachIsOfOperation}
use Rattle.sp_tree_handed.specs.Lists.{NumberedOps, lists_in}
use Rattle.sp_tree_handed.specs.Scalars.{IsInBanks}
use Rattle.sp_tree_handed.specs.Standing.{IsListStanding, AreListsStanding, BoundsReadArguments, AccessStands}
use Rattle.sp_tree_accesses.specs.Accesses.{AreAllAccesses, no_list, one_list}
use Rattle.sp_tree_accesses.proofs.Allowed.{IsRightAccess, right_at, own_kind, own_dims}
use Rattle.sp_tree_accesses.proofs.Indices.{index_nets, rank_is, index_each}
use Rattle.sp_tree_accesses.proofs.Rules.{IsListRight}
use Rattle.sp_tree_accesses.proofs.Told.{standing_accesses}

nets_append : (xs ys : List AccessNets) → answer_nets (xs ++ ys) ≡ answer_nets xs ++ answer_nets ys
nets_append [] ys = refl
nets_append (x ∷ xs) ys = ap (λ l. net_in x.answer ++ l) (nets_append xs ys) ∙ sym (append_assoc (net_in x.answer) (answer_nets xs) (answer_nets ys))

-- a write takes a word at least, and the last one is that which it writes
write_takes : (k : OpKind) (ty : Ty) (n : ℕ) → k ≡ kind.Write → 0 < length (taken_types k ty n)
write_takes k ty n e = subst (λ j. 0 < length (taken_types j ty n)) (sym e) (let l = length-append (replicate n int_type) (ty ∷ []) in omega (arith, l))

write_width : (k : OpKind) (a : Act) → IsActOf k a → k ≡ kind.Write → (ty : Ty) (n i : ℕ) → i + 1 ≡ n → taken_width a ty n i ≡ width_of ty
write_width _ _ of_write e ty n i f = ap (λ b. if b then width_of ty else 32) (eq-eqb (i + 1) n f)
write_width _ _ (of_word w) e ty n i f = cc
write_width _ _ (of_count c lane net) e ty n i f = cc
write_width _ _ (of_live c first last net) e ty n i f = cc
write_width _ _ (of_read net after) e ty n i f = cc
write_width _ _ of_enq e ty n i f = cc
write_width _ _ (of_deq net after) e ty n i f = cc
write_width _ _ of_reset e ty n i f = cc
write_width _ _ (of_one op) e ty n i f = cc
write_width _ _ (of_two op) e ty n i f = cc
write_width _ _ (of_shift left by) e ty n i f = cc
write_width _ _ of_mux e ty n i f = cc
write_width _ _ (of_cast to) e ty n i f = cc

abbrev word_of : Option WordNet → WordNet
word_of None = record { net = 0; after = 0 }
word_of (Some w) = w

-- what is answered, on which net and when
pub record IsAnswer (a : Act) (w : WordNet) : Type 0 where
  pub answered : is_answered a ≡ true
  pub net : net_of a ≡ w.net
  pub after : answer_of a ≡ w.after

pub answer_told : (a : Act) (w : WordNet) → answer_in a ≡ Some w → IsAnswer a w
answer_told (act.Read net after) w e = record { answered = refl; net = ap (λ o. (word_of o).net) e; after = ap (λ o. (word_of o).after) e }
answer_told (act.Deq net after) w e = record { answered = refl; net = ap (λ o. (word_of o).net) e; after = ap (λ o. (word_of o).after) e }
answer_told (act.Given net) w e = absurd (cc)
answer_told (act.Word v) w e = absurd (cc)
answer_told (act.One op) w e = absurd (cc)
answer_told (act.Two op) w e = absurd (cc)
answer_told (act.Shift left by) w e = absurd (cc)
answer_told act.Mux w e = absurd (cc)
answer_told (act.Cast to) w e = absurd (cc)
answer_told act.Write w e = absurd (cc)
answer_told act.Enq w e = absurd (cc)
answer_told act.Reset w e = absurd (cc)

contains_later : {A : Type 0} (x : A) (xs : List A) (y : A) → Contains xs y → Contains (x ∷ xs) y
contains_later x xs y (k, lt, e) = (suc k, omega (arith, lt), e)

module _ (core : PlainCore) where
  -- of lists that stand at once, what is read are arguments
  abbrev pub ReadArguments : List NumberedOps → Type 0
  ReadArguments lists = (list : NumberedOps) → Contains lists list → list.at_once ≡ true → (op : PlainOp) (m : ℕ) → Contains list.ops op → op.kind ≡ kind.Read → op.mem ≡ Some m → kind_of core m ≡ ArgIn

  read_later : (list : NumberedOps) (op : PlainOp) (p : PipeOp) (m : ℕ) (w : WordNet) → answer_of p.act ≡ (if list.at_once then 0 else latency core op) → (list.at_once ≡ true → kind_of core m ≡ ArgIn) → kind_of core m ≢ ArgIn → op.kind ≡ kind.Read → op.mem ≡ Some m
      → kind_of core m ≡ (mem core m).kind → answer_of p.act ≡ w.after → w.after ≡ read_latency (kind_of core m)
  read_later list op p m w after early other read named own told = by list.at_once refl
    where
      by : (b : Bool) → list.at_once ≡ b → w.after ≡ read_latency (kind_of core m)
      by true e = absurd (other (early e))
      by false e =
          sym told ∙ (after ∙ (ap (λ b. if b then 0 else latency core op) e
          ∙ (ap (λ k. latency_by k (read_of core op.mem)) read ∙ (ap (λ o. latency_by kind.Read (read_of core o)) named ∙ ap read_latency (sym own)))))

  module _ (copy : (number : ℕ) → Option ℕ) (names : RulesNameMemories) (d : Draft) where
    stands_here : (of_op : EachIsOfOperation) (list : NumberedOps) (a : ActedList) (added : List AccessNets) → IsListRight core list → IsListStanding d core list a → AreHandedOn copy list.number list.ops a.ops.items a.nets.items added
        → (list.at_once ≡ true → (op : PlainOp) (m : ℕ) → Contains list.ops op → op.kind ≡ kind.Read → op.mem ≡ Some m → kind_of core m ≡ ArgIn) → (x : AccessNets) → Contains added x → AccessStands d core x
    stands_here of_op list a added right stand handed early x there =
        let w = of_op copy stand.draft stand.issue a.ops.items list.number list.ops a.ops.items added (standing_accesses core copy names d list a added right stand handed) x there in
        stands w.0 w.1 w.3.placed w.2 w.3.at w.3.of_op.kind w.3.of_op.mem w.3.of_op.answered w.3.acts
      where
        stands : (k : ℕ) (op : PlainOp) (p : PipeOp) → IsOpAt list.ops k op → IsAt a.ops.items k p → x.kind ≡ op.kind → op.mem ≡ Some x.mem → x.answer ≡ answer_in p.act → ActsAt stand.draft stand.issue a.ops.items p x.enable x.operands.items → AccessStands d core x
        stands k op p at at_p kind_is named answer_is acts = record {
          enable = HasNet-stays stand.draft d x.enable 1 stand.grows acts.net;
          some = λ e. some e;
          word = λ e. HasNet-stays stand.draft d (word_that_changes x.kind x.operands.items) (width_of (mem core x.mem).ty) stand.grows
              (subst (λ j. HasNet stand.draft (word_that_changes j x.operands.items) (width_of (mem core x.mem).ty)) (sym e)
              (subst (HasNet stand.draft (slice_index x.operands.items (length x.operands.items - 1))) (write_width op.kind p.act like.kinds (sym kind_is ∙ e) p.ty (length p.args.items) (length x.operands.items - 1) (last e) ∙ wide)
              (acts.taken.nets (length x.operands.items - 1) (last_within e))));
          answer = λ v e. let told = answer_told p.act v (sym answer_is ∙ e) in
              HasNet-stays stand.draft d v.net (width_of (mem core x.mem).ty) stand.grows (subst (λ n. HasNet stand.draft n (width_of (mem core x.mem).ty)) told.net (subst (HasNet stand.draft (net_of p.act)) wide (stand.answers k p at_p told.answered)));
          later = λ v read e other. let told = answer_told p.act v (sym answer_is ∙ e) in
              read_later list op p x.mem v (stand.after k op p at at_p told.answered) (λ once. early once op x.mem (k, at.within, at.is op) (sym kind_is ∙ read) named) other (sym kind_is ∙ read) named (own_kind core x.mem rule.on_chip) told.after;
          index = λ banks. All-weaker (λ net. HasNet stand.draft net 32) (λ net. HasNet d net 32) (λ net s. HasNet-stays stand.draft d net 32 stand.grows s) (index_words x.kind x.operands.items)
              (subst (λ j. All (λ net. HasNet stand.draft net 32) (index_words j x.operands.items)) (sym kind_is)
              (index_nets stand.draft p.ty x.operands.items (length p.args.items) acts.taken.each op.kind p.act like.kinds acts.taken.nets));
          each_index = λ banks. each_index (subst IsInBanks (own_kind core x.mem rule.on_chip) banks);
        }
          where
            rule : IsRightAccess core op x.mem
            rule = right_at core right.around [] list.ops k op x.mem right.right at named

            like : IsOpOf op p
            like = stand.ops_of.alike k op p at at_p

            wide : width_of p.ty ≡ width_of (mem core x.mem).ty
            wide = ap width_of like.types ∙ same_width op.ty (mem core x.mem).ty rule.typed

            each : length x.operands.items ≡ length op.args
            each = acts.taken.each ∙ ap length like.taken

            each_index : IsInBanks (mem core x.mem).kind → length (index_words x.kind x.operands.items) ≡ length (dims core x.mem)
            each_index banks =
                ap (λ j. length (index_words j x.operands.items)) kind_is
                ∙ index_each op.kind (mem core x.mem).kind (mem core x.mem).start op.ty rule.indices x.operands.items banks rule.allowed (each ∙ rule.takes)
                ∙ (rule.each_index ∙ (rank_is (mem core x.mem).kind (length (mem core x.mem).dims) banks ∙ sym (ap length (own_dims core x.mem rule.on_chip))))

            some : x.kind ≡ kind.Write → 0 < length x.operands.items
            some e = (let l = write_takes op.kind op.ty rule.indices (sym kind_is ∙ e) in let t = rule.takes in let q = each in omega (arith, l, t, q))

            last : x.kind ≡ kind.Write → length x.operands.items - 1 + 1 ≡ length p.args.items
            last e = (let l = some e in let q = acts.taken.each in omega (arith, l, q))

            last_within : x.kind ≡ kind.Write → length x.operands.items - 1 < length p.args.items
            last_within e = (let l = some e in let q = acts.taken.each in omega (arith, l, q))

    stand_each : (of_op : EachIsOfOperation) (lists : List NumberedOps) (acted : List ActedList) (accesses : List AccessNets) → AreAllAccesses copy lists acted accesses → Each (IsListRight core) lists → AreListsStanding d core lists acted → ReadArguments lists
        → (x : AccessNets) → Contains accesses x → AccessStands d core x
    stand_each of_op _ _ _ no_list rights stand early x (k, lt, e) = absurd (omega (arith, lt))
    stand_each of_op _ _ _ (one_list {list} {lists} {a} {acted} {added} {accesses} handed nets more) rights stand early x there = elim (Contains-append_cases added accesses x there) [
      | inl w ↦ stands_here of_op list a added rights.0 stand.0 handed (early list (0, omega arith, refl)) x w
      | inr w ↦ stand_each of_op lists acted accesses more rights.1 stand.1 (λ l at. early l (contains_later list lists l at)) x w
    ]

    pub all_stand : (of_op : EachIsOfOperation) (node : PlainNode) (acted : List ActedList) (accesses : List AccessNets) → AreAllAccesses copy (lists_in node 0) acted accesses → Each (IsListRight core) (lists_in node 0) → AreListsStanding d core (lists_in node 0) acted
        → BoundsReadArguments core node → All (AccessStands d core) accesses
    all_stand of_op node acted accesses all rights stand early k o lt = stand_each of_op (lists_in node 0) acted accesses all rights stand early (slice_index_or accesses k o) (Contains-get_or accesses k o lt)

    -- accesses are answered on the nets that are reserved, in order
    pub all_answers : (reserved : ReservedAreAnswers) (lists : List NumberedOps) (acted : List ActedList) (accesses : List AccessNets) → AreAllAccesses copy lists acted accesses → Each (IsListRight core) lists → AreListsStanding d core lists acted
        → answer_nets accesses ≡ answers_in acted
    all_answers reserved _ _ _ no_list rights stand = refl
    all_answers reserved _ _ _ (one_list {list} {lists} {a} {acted} {added} {accesses} handed nets more) rights stand =
        nets_append added accesses
        ∙ (ap (λ l. l ++ answer_nets accesses) (sym (reserved copy stand.0.draft stand.0.issue a.ops.items list.number list.ops a.ops.items added (standing_accesses core copy names d list a added rights.0 stand.0 handed)))
        ∙ ap (λ l. answers_of a.ops.items ++ l) (all_answers reserved lists acted accesses more rights.1 stand.1))
