-- Lists of operations of one lane keep the rules of cores.
use Rattle.std.proofs.Common.{◌≡◌, ℕ, true, not, ◌&&◌, List, [], ◌∷◌, ◌++◌, Option, Some, None, refl, ◌∙◌, ap, arith, nat_le}
use Rattle.std.proofs.lemmas.Bool.{and_parts, and_from, le-leb}
use Rattle.std.specs.List.{list_all}
use Rattle.std.specs.Prelude.{option_map}
use Rattle.sp_words.specs.declared.kind.Kind.{Kind}
use Rattle.sp_words.specs.declared.kind.Kind.TheVariants.{Reg, Sram, Fifo, LineBuf, Dram, ArgIn, ArgOut}
use Rattle.sp_words.specs.declared.types.Ty.{Ty}
use Rattle.sp_words.specs.declared.types.Ty.TheVariants.{Bit}
use Rattle.sp_words.specs.Types.{int_type}
use Rattle.sp_core.specs.declared.operation.OpKind.{OpKind}
use Rattle.sp_core.specs.declared.operation.OpKind.TheVariants.{Word, Count, Live, Read, Shift}
use Rattle.sp_core.specs.Around.{Around, Near, has_lane, is_usable}
use Rattle.sp_core.specs.Declarations.{mem}
use Rattle.sp_core.specs.OperationRules.{can, is_access, is_in_range, names_rightly, indices_of, is_mask, is_operation_right, are_operations_right_after, are_operations_right, is_word_list, is_early_kind, is_early_at, is_early, is_bound}
use Rattle.sp_core.specs.PlainCore.{PlainOp, PlainMem, PlainCore}
use Rattle.sp_core.specs.Typed.{Given, is_type, given_type, is_given, index_count, taken_types, give_all, last_gives}
use Rattle.sp_lanes.specs.Within.{Within, kind_in, op_in, ops_in}
use Rattle.sp_lane_rules.specs.UnrolledPlaces.{GoTogether}

-- what a lane doesn't change of a kind
module _ (w : Within) where
  pub access_kept : (kind : OpKind) → is_access (kind_in w kind) ≡ is_access kind
  access_kept (Count c l) = refl
  access_kept (Live c first last) = refl
  access_kept kind = refl

  pub can_kept : (kind : OpKind) (k : Kind) (start : Option ℕ) → can (kind_in w kind) k start ≡ can kind k start
  can_kept (Count c l) k start = refl
  can_kept (Live c first last) k start = refl
  can_kept kind k start = refl

  pub taken_kept : (kind : OpKind) (ty : Ty) (n : ℕ) → taken_types (kind_in w kind) ty n ≡ taken_types kind ty n
  taken_kept (Count c l) ty n = refl
  taken_kept (Live c first last) ty n = refl
  taken_kept kind ty n = refl

  pub given_kept : (kind : OpKind) (ty : Ty) → given_type (kind_in w kind) ty ≡ given_type kind ty
  given_kept (Count c l) ty = refl
  given_kept (Live c first last) ty = refl
  given_kept kind ty = refl

  pub early_kept : (core lanes : PlainCore) (around inside : Around) (kind : OpKind) (k : Kind) → is_early_kind lanes inside (kind_in w kind) k ≡ is_early_kind core around kind k
  early_kept core lanes around inside (Count c l) k = refl
  early_kept core lanes around inside (Live c first last) k = refl
  early_kept core lanes around inside Read Reg = refl
  early_kept core lanes around inside Read Sram = refl
  early_kept core lanes around inside Read Fifo = refl
  early_kept core lanes around inside Read LineBuf = refl
  early_kept core lanes around inside Read Dram = refl
  early_kept core lanes around inside Read ArgIn = refl
  early_kept core lanes around inside Read ArgOut = refl
  early_kept core lanes around inside kind k = refl

module _ (core lanes : PlainCore) (around inside : Around) (w : Within) (h : GoTogether core lanes around inside w) where
  lane_there : (c l : ℕ) → has_lane around.counters c l ≡ true → has_lane inside.counters c (w.lane c) ≡ true
  lane_there c l e = ap (λ (xs : List Near). has_lane xs c (w.lane c)) h.counters ∙ h.in_lanes c l e

  pub range_kept : (kind : OpKind) (ty : Ty) → is_in_range kind ty around ≡ true → is_in_range (kind_in w kind) ty inside ≡ true
  range_kept (Word x) ty e = e
  range_kept (Count c l) ty e =
      let a = and_parts (has_lane around.counters c l) (is_type ty int_type) e in
      and_from _ _ (lane_there c l a.0) a.1
  range_kept (Live c first last) ty e =
      let a = and_parts (nat_le first last && has_lane around.counters c last) (is_type ty Bit) e in
      let b = and_parts (nat_le first last) (has_lane around.counters c last) a.0 in
      and_from _ _ (and_from _ _ (le-leb (w.lane c) (w.lane c) (omega arith)) (lane_there c last b.1)) a.1
  range_kept (Shift left by) ty e = e
  range_kept kind ty e = refl

  pub names_kept : (kind : OpKind) (ty : Ty) (m : Option ℕ) → names_rightly core around kind ty m ≡ true → names_rightly lanes inside (kind_in w kind) ty (option_map w.number m) ≡ true
  names_kept kind ty None e = ap not (access_kept w kind) ∙ e
  names_kept kind ty (Some m) e =
      let a = and_parts (is_access kind && is_usable core around m) (can kind (mem core m).kind (mem core m).start && is_type ty (mem core m).ty) e in
      let b = and_parts (is_access kind) (is_usable core around m) a.0 in
      let u = h.memories m b.1 in
      and_from _ _ (and_from _ _ (access_kept w kind ∙ b.0) u.0)
      (ap (λ (x : PlainMem). can (kind_in w kind) x.kind x.start && is_type ty x.ty) u.1
      ∙ ap (λ b. b && is_type ty (mem core m).ty) (can_kept w kind (mem core m).kind (mem core m).start) ∙ a.1)

  pub indices_kept : (kind : OpKind) (ty : Ty) (m : Option ℕ) → names_rightly core around kind ty m ≡ true → indices_of lanes inside (option_map w.number m) ≡ indices_of core around m
  indices_kept kind ty None e = refl
  indices_kept kind ty (Some m) e =
      let a = and_parts (is_access kind && is_usable core around m) (can kind (mem core m).kind (mem core m).start && is_type ty (mem core m).ty) e in
      let b = and_parts (is_access kind) (is_usable core around m) a.0 in
      ap index_count (h.memories m b.1).1

  -- an operation whose operands and mask are right by themselves
  pub operation_from : (op : PlainOp) (earlier given : Given) (args : List ℕ) (mask : Option ℕ) → is_operation_right core around earlier op ≡ true
      → ((types : List Ty) → give_all earlier op.args types ≡ true → give_all given args types ≡ true) → is_mask lanes inside given mask ≡ true
      → is_operation_right lanes inside given (record { kind = kind_in w op.kind; ty = op.ty; args = args; mem = option_map w.number op.mem; mask = mask }) ≡ true
  operation_from op earlier given args mask e f g =
      let a = and_parts (is_in_range op.kind op.ty around && names_rightly core around op.kind op.ty op.mem) (give_all earlier op.args (taken_types op.kind op.ty (indices_of core around op.mem)) && is_mask core around earlier op.mask) e in
      let b = and_parts (is_in_range op.kind op.ty around) (names_rightly core around op.kind op.ty op.mem) a.0 in
      let c = and_parts (give_all earlier op.args (taken_types op.kind op.ty (indices_of core around op.mem))) (is_mask core around earlier op.mask) a.1 in
      and_from _ _ (and_from _ _ (range_kept op.kind op.ty b.0) (names_kept op.kind op.ty op.mem b.1))
      (and_from _ _ (ap (give_all given args) (taken_kept w op.kind op.ty (indices_of lanes inside (option_map w.number op.mem)) ∙ ap (taken_types op.kind op.ty) (indices_kept op.kind op.ty op.mem b.1)) ∙ f _ c.0) g)

  pub mask_of : (op : PlainOp) (earlier : Given) → is_operation_right core around earlier op ≡ true → is_mask core around earlier op.mask ≡ true
  mask_of op earlier e =
      let a = and_parts (is_in_range op.kind op.ty around && names_rightly core around op.kind op.ty op.mem) (give_all earlier op.args (taken_types op.kind op.ty (indices_of core around op.mem)) && is_mask core around earlier op.mask) e in
      (and_parts (give_all earlier op.args (taken_types op.kind op.ty (indices_of core around op.mem))) (is_mask core around earlier op.mask) a.1).1

  -- lists of one lane
  pub list_after : (earlier : Given) (ops : List PlainOp) → are_operations_right_after core around earlier ops ≡ true → are_operations_right_after lanes inside earlier (ops_in w ops) ≡ true
  list_after earlier [] e = refl
  list_after earlier (op ∷ ops) e =
      let a = and_parts (is_operation_right core around earlier op) (are_operations_right_after core around (earlier ++ given_type op.kind op.ty ∷ []) ops) e in
      and_from _ _ (operation_from op earlier earlier op.args op.mask a.0 (λ types x. x) (mask_of op earlier a.0))
      (ap (λ t. are_operations_right_after lanes inside (earlier ++ t ∷ []) (ops_in w ops)) (given_kept w op.kind op.ty) ∙ list_after (earlier ++ given_type op.kind op.ty ∷ []) ops a.1)

  last_kept : (ops : List PlainOp) (ty : Ty) → last_gives (ops_in w ops) ty ≡ last_gives ops ty
  last_kept [] ty = refl
  last_kept (op ∷ []) ty = ap (λ t. is_given t ty) (given_kept w op.kind op.ty)
  last_kept (op ∷ next ∷ ops) ty = last_kept (next ∷ ops) ty

  pub word_list_kept : (ops : List PlainOp) (ty : Ty) → is_word_list core around ops ty ≡ true → is_word_list lanes inside (ops_in w ops) ty ≡ true
  word_list_kept ops ty e =
      let a = and_parts (are_operations_right core around ops) (last_gives ops ty) e in
      and_from _ _ (list_after [] ops a.0) (last_kept ops ty ∙ a.1)

  -- what is early in a list that is right stays so
  early_op : (op : PlainOp) (earlier : Given) → is_operation_right core around earlier op ≡ true → is_early core around op ≡ true → is_early lanes inside (op_in w op) ≡ true
  early_op op earlier e f =
      let a = and_parts (is_in_range op.kind op.ty around && names_rightly core around op.kind op.ty op.mem) (give_all earlier op.args (taken_types op.kind op.ty (indices_of core around op.mem)) && is_mask core around earlier op.mask) e in
      by op.kind op.mem (and_parts (is_in_range op.kind op.ty around) (names_rightly core around op.kind op.ty op.mem) a.0).1 f
    where
      by : (kind : OpKind) (m : Option ℕ) → names_rightly core around kind op.ty m ≡ true → is_early_at core around kind m ≡ true → is_early_at lanes inside (kind_in w kind) (option_map w.number m) ≡ true
      by kind None n i = refl
      by kind (Some m) n i =
          let a = and_parts (is_access kind && is_usable core around m) (can kind (mem core m).kind (mem core m).start && is_type op.ty (mem core m).ty) n in
          let b = and_parts (is_access kind) (is_usable core around m) a.0 in
          ap (λ (x : PlainMem). is_early_kind lanes inside (kind_in w kind) x.kind) (h.memories m b.1).1 ∙ early_kept w core lanes around inside kind (mem core m).kind ∙ i

  early_list : (ops : List PlainOp) (earlier : Given) → are_operations_right_after core around earlier ops ≡ true → list_all (is_early core around) ops ≡ true → list_all (is_early lanes inside) (ops_in w ops) ≡ true
  early_list [] earlier e f = refl
  early_list (op ∷ ops) earlier e f =
      let a = and_parts (is_operation_right core around earlier op) (are_operations_right_after core around (earlier ++ given_type op.kind op.ty ∷ []) ops) e in
      let b = and_parts (is_early core around op) (list_all (is_early core around) ops) f in
      and_from _ _ (early_op op earlier a.0 b.0) (early_list ops (earlier ++ given_type op.kind op.ty ∷ []) a.1 b.1)

  pub bound_kept : (ops : List PlainOp) → is_bound core around ops ≡ true → is_bound lanes inside (ops_in w ops) ≡ true
  bound_kept ops e =
      let a = and_parts (is_word_list core around ops int_type) (list_all (is_early core around) ops) e in
      and_from _ _ (word_list_kept ops int_type a.0) (early_list ops [] (and_parts (are_operations_right core around ops) (last_gives ops int_type) a.0).0 a.1)
