-- What the rules of a core say of an operation that names a memory.
use Rattle.std.proofs.Common.{◌≡◌, ℕ, zero, suc, ◌-◌, inl, inr, true, ◌&&◌, ◌||◌, nat_lt, if◌then◌else◌, List, [], ◌∷◌, ◌++◌, length, All, Option, Some, None, sym, ◌∙◌, ap, subst, arith}
use Rattle.std.proofs.lemmas.Bool.{and_parts, ltb-true}
use Rattle.std.proofs.lemmas.List.Elements.{Contains-append_cases}
use Rattle.std.specs.List.{Contains}
use Rattle.sp_words.specs.declared.kind.Kind.TheVariants.{Dram}
use Rattle.sp_words.specs.declared.types.Ty.{Ty}
use Rattle.sp_netlist.specs.Draft.{Draft}
use Rattle.sp_core.specs.declared.operation.OpKind.{OpKind}
use Rattle.sp_core.specs.Around.{Around, is_port_kind, is_usable}
use Rattle.sp_core.specs.Declarations.{mem, dram, kind_of, dims, is_among}
use Rattle.sp_core.specs.OperationRules.{can, is_access, is_in_range, names_rightly, indices_of, is_mask, is_operation_right, are_operations_right_after}
use Rattle.sp_core.specs.PlainCore.{PlainOp, PlainCore}
use Rattle.sp_core.specs.Typed.{Given, is_type, given_type, index_count, taken_types, give_all}
use Rattle.sp_mem.specs.Fits.{CopyFits}
use Rattle.sp_part_runs.specs.ActsEntries.{IsOpAt}
use Rattle.sp_circuit_ops.proofs.Typing.{give_each}
use Rattle.sp_time.specs.Lists.{Each}
use Rattle.sp_op_nets.specs.declared.acted.ActedList.{ActedList}
use Rattle.sp_access_nets.specs.declared.access.AccessNets.{AccessNets}
use Rattle.sp_access_nets.specs.Accesses.{copy_in, AreHandedOn}
use Rattle.sp_access_nets.specs.Laws.{RulesNameMemories, EachIsOfOperation}
use Rattle.sp_tree_handed.specs.Lists.{NumberedOps, lists_in}
use Rattle.sp_tree_handed.specs.Standing.{IsListStanding, AreListsStanding}
use Rattle.sp_tree_accesses.specs.Accesses.{AreAllAccesses, no_list, one_list}
use Rattle.sp_tree_accesses.specs.Laws.{AreTreeAccesses, IsOfCore}
use Rattle.sp_tree_accesses.proofs.Numbers.{HasIn, of_lists}
use Rattle.sp_tree_accesses.proofs.Rules.{IsListRight, lists_right}
use Rattle.sp_tree_accesses.proofs.Told.{at_listed, standing_accesses}
use Rattle.sp_core.specs.Around.{nothing}

op_same : (a b : PlainOp) (ops : List PlainOp) → IsOpAt (a ∷ ops) 0 b → a ≡ b
op_same a b ops at = at.is a

op_behind : (a b : PlainOp) (ops : List PlainOp) (k : ℕ) → IsOpAt (a ∷ ops) (suc k) b → IsOpAt ops k b
op_behind a b ops k at = record { within = (let w = at.within in omega (arith, w)); is = at.is }

module _ (core : PlainCore) where
  -- what the rules say of an access
  pub record IsRightAccess (op : PlainOp) (m : ℕ) : Type 0 where
    pub on_chip : nat_lt m (length core.mems) ≡ true
    pub allowed : can op.kind (mem core m).kind (mem core m).start ≡ true
    pub typed : is_type op.ty (mem core m).ty ≡ true
    pub indices : ℕ
    pub each_index : indices ≡ index_count (mem core m)
    pub takes : length op.args ≡ length (taken_types op.kind op.ty indices)

  named_right : (around : Around) (k : OpKind) (ty : Ty) (o : Option ℕ) (m : ℕ) → o ≡ Some m → names_rightly core around k ty o ≡ true → (nat_lt m (length core.mems) ≡ true) × (can k (mem core m).kind (mem core m).start ≡ true) × (is_type ty (mem core m).ty ≡ true)
  named_right around k ty o m e h =
      let both = and_parts (is_access k && is_usable core around m) (can k (mem core m).kind (mem core m).start && is_type ty (mem core m).ty) (subst (λ v. names_rightly core around k ty v ≡ true) e h) in (
        (and_parts (nat_lt m (length core.mems)) (is_port_kind (mem core m).kind || is_among m around.owned) (and_parts (is_access k) (is_usable core around m) both.0).1).0,
        (and_parts (can k (mem core m).kind (mem core m).start) (is_type ty (mem core m).ty) both.1).0,
        (and_parts (can k (mem core m).kind (mem core m).start) (is_type ty (mem core m).ty) both.1).1,
      )

  right_here : (around : Around) (earlier : Given) (op : PlainOp) (m : ℕ) → op.mem ≡ Some m → is_operation_right core around earlier op ≡ true → IsRightAccess op m
  right_here around earlier op m e h =
      let both = and_parts (is_in_range op.kind op.ty around && names_rightly core around op.kind op.ty op.mem) (give_all earlier op.args (taken_types op.kind op.ty (indices_of core around op.mem)) && is_mask core around earlier op.mask) h in
      let named = named_right around op.kind op.ty op.mem m e (and_parts (is_in_range op.kind op.ty around) (names_rightly core around op.kind op.ty op.mem) both.0).1 in
      let given = (and_parts (give_all earlier op.args (taken_types op.kind op.ty (indices_of core around op.mem))) (is_mask core around earlier op.mask) both.1).0 in
      record { on_chip = named.0; allowed = named.1; typed = named.2; indices = indices_of core around op.mem; each_index = ap (indices_of core around) e; takes = (give_each earlier op.args (taken_types op.kind op.ty (indices_of core around op.mem)) given).0 }

  pub right_at : (around : Around) (earlier : Given) (ops : List PlainOp) (k : ℕ) (op : PlainOp) (m : ℕ) → are_operations_right_after core around earlier ops ≡ true → IsOpAt ops k op → op.mem ≡ Some m → IsRightAccess op m
  right_at around earlier [] k op m h at e = (let w = at.within in absurd (omega (arith, w)))
  right_at around earlier (o ∷ ops) zero op m h at e =
      right_here around earlier op m e (subst (λ x. is_operation_right core around earlier x ≡ true) (op_same o op ops at) (and_parts (is_operation_right core around earlier o) (are_operations_right_after core around (earlier ++ given_type o.kind o.ty ∷ []) ops) h).0)
  right_at around earlier (o ∷ ops) (suc k) op m h at e =
      right_at around (earlier ++ given_type o.kind o.ty ∷ []) ops k op m (and_parts (is_operation_right core around earlier o) (are_operations_right_after core around (earlier ++ given_type o.kind o.ty ∷ []) ops) h).1 (op_behind o op ops k at) e

  pub own_kind : (m : ℕ) → nat_lt m (length core.mems) ≡ true → kind_of core m ≡ (mem core m).kind
  own_kind m h = ap (λ b. if b then (mem core m).kind else Dram) h

  pub own_dims : (m : ℕ) → nat_lt m (length core.mems) ≡ true → dims core m ≡ (mem core m).dims
  own_dims m h = ap (λ b. if b then (mem core m).dims else (dram core (m - length core.mems)).dims) h

  -- an access is of an operation that stands in some list
  record IsOwn (copy : (number : ℕ) → Option ℕ) (lists : List NumberedOps) (x : AccessNets) : Type 0 where
    op : PlainOp
    has : HasIn lists x.number op
    mem_is : op.mem ≡ Some x.mem
    kind_is : op.kind ≡ x.kind
    on_chip : nat_lt x.mem (length core.mems) ≡ true
    allowed : can x.kind (kind_of core x.mem) (mem core x.mem).start ≡ true
    copied : x.copy ≡ copy x.number

  module _ (copy : (number : ℕ) → Option ℕ) (names : RulesNameMemories) (d : Draft) (of_op : EachIsOfOperation) where
    own_here : (list : NumberedOps) (lists : List NumberedOps) (a : ActedList) (added : List AccessNets) → IsListRight core list → IsListStanding d core list a → AreHandedOn copy list.number list.ops a.ops.items a.nets.items added → (x : AccessNets) → Contains added x
        → IsOwn copy (list ∷ lists) x
    own_here list lists a added right stand handed x there =
        let w = of_op copy stand.draft stand.issue a.ops.items list.number list.ops a.ops.items added (standing_accesses core copy names d list a added right stand handed) x there in
        let rule = right_at right.around [] list.ops w.0 w.1 x.mem right.right w.2 w.3.of_op.mem in
        record {
          op = w.1;
          has = inl (at_listed list.ops list.number x.number w.0 w.1 w.3.of_op.first w.2);
          mem_is = w.3.of_op.mem;
          kind_is = sym w.3.of_op.kind;
          on_chip = rule.on_chip;
          allowed = ap (λ k. can k (kind_of core x.mem) (mem core x.mem).start) w.3.of_op.kind ∙ (ap (λ k. can w.1.kind k (mem core x.mem).start) (own_kind x.mem rule.on_chip) ∙ rule.allowed);
          copied = w.3.of_op.copied ∙ ap copy (sym w.3.of_op.first);
        }

    own_each : (lists : List NumberedOps) (acted : List ActedList) (accesses : List AccessNets) → AreAllAccesses copy lists acted accesses → Each (IsListRight core) lists → AreListsStanding d core lists acted → (x : AccessNets) → Contains accesses x → IsOwn copy lists x
    own_each _ _ _ no_list rights stand x (k, lt, e) = absurd (omega (arith, lt))
    own_each _ _ _ (one_list {list} {lists} {a} {acted} {added} {accesses} handed nets more) rights stand x there = elim (Contains-append_cases added accesses x there) [
      | inl w ↦ own_here list lists a added rights.0 stand.0 handed x w
      | inr w ↦ (let r = own_each lists acted accesses more rights.1 stand.1 x w in record { op = r.op; has = inr r.has; mem_is = r.mem_is; kind_is = r.kind_is; on_chip = r.on_chip; allowed = r.allowed; copied = r.copied })
    ]

pub of_core : (core : PlainCore) (copy : (number : ℕ) → Option ℕ) → RulesNameMemories → EachIsOfOperation → (acted : List ActedList) (accesses : List AccessNets) → AreTreeAccesses core copy acted accesses → (a : AccessNets) → Contains accesses a → IsOfCore core copy a
of_core core copy names of_op acted accesses tree a there =
    let r = own_each core copy names tree.draft of_op (lists_in core.root 0) acted accesses tree.all (lists_right core core.root nothing [] 0 tree.right.nodes) tree.stand a there in
    record {
      is = record { op = r.op; stands = of_lists a.number r.op core.root 0 r.has; mem = r.mem_is; kind_is = r.kind_is };
      on_chip = ltb-true a.mem (length core.mems) r.on_chip;
      allowed = r.allowed;
      copied = r.copied;
    }

-- each net of a copy is as wide as those of the list
pub copy_fits : (d : Draft) (copies : List (Option ℕ)) → All (CopyFits d) copies → (n : ℕ) → CopyFits d (copy_in copies n)
copy_fits d [] wide zero = tt
copy_fits d [] wide (suc n) = tt
copy_fits d (x ∷ copies) wide zero = wide 0 None (omega arith)
copy_fits d (x ∷ copies) wide (suc n) = copy_fits d copies (λ k e l. wide (suc k) e (omega (arith, l))) n
