-- What the lists of a core keep: accesses that are allowed, earlier operands and masks, and memories with small dimensions.
use Rattle.std.proofs.Common.{◌≡◌, ℕ, zero, suc, ◌+◌, ◌-◌, ◌*◌, ◌^◌, ◌<◌, ◌≤◌, Bool, true, false, ◌&&◌, List, [], ◌∷◌, ◌++◌, length, replicate, refl, ap, sym, ◌∙◌, subst, arith, length-append, zero-add}
use Rattle.std.specs.Prelude.{Option, Some, None, nat_lt, nat_le, slice_index_or, if◌then◌else◌}
use Rattle.std.specs.List.{list_all}
use Rattle.std.proofs.lemmas.Bool.Decides.{Decides-eqb, Decides-ltb}
use Rattle.sp_words.specs.declared.types.Ty.{Ty}
use Rattle.sp_words.specs.declared.types.Ty.TheVariants.{Bit}
use Rattle.sp_words.specs.Interface.{word_count}
use Rattle.sp_words.specs.Types.{int_type}
use Rattle.sp_core.specs.declared.operation.OpKind.{OpKind}
use Rattle.sp_core.specs.declared.operation.OpKind.TheVariants.{Read, Write}
use Rattle.sp_core.specs.Around.{Around, is_usable}
use Rattle.sp_core.specs.Declarations.{mem, dram, dims}
use Rattle.sp_core.specs.MemoryRules.{is_mem_right, has_words, are_memories_right}
use Rattle.sp_core.specs.OperationRules.{can, is_access, is_in_range, names_rightly, indices_of, is_mask, is_operation_right, are_operations_right_after, are_operations_right}
use Rattle.sp_core.specs.PlainCore.{PlainOp, PlainMem, PlainCore, no_mem}
use Rattle.sp_core.specs.Typed.{Given, given_type, gives, give_all, taken_types}
use Rattle.sp_patterns.specs.Indices.{indices_at}
use Rattle.sp_hold.specs.Values.{IsOrderly, takes, is_allowed, is_allowed_at, is_typed, is_earlier, are_masks_earlier}

both : (a b : Bool) → (a && b) ≡ true → (a ≡ true) × (b ≡ true)
both true b h = (refl, h)
both false b h = cc

and_also : (a b : Bool) → a ≡ true → b ≡ true → (a && b) ≡ true
and_also a b h k = ap (λ x. x && b) h ∙ k

is_there : (earlier : Given) (p : ℕ) (ty : Ty) → gives earlier p ty ≡ true → p < length earlier
is_there [] p ty h = cc
is_there (g ∷ earlier) zero ty h = omega arith
is_there (g ∷ earlier) (suc p) ty h = let less = is_there earlier p ty h in omega arith

args_are_there : (earlier : Given) (args : List ℕ) (types : List Ty) → give_all earlier args types ≡ true → (list_all (λ a. nat_lt a (length earlier)) args ≡ true) × (length args ≡ length types)
args_are_there earlier [] [] h = (refl, refl)
args_are_there earlier [] (ty ∷ types) h = cc
args_are_there earlier (a ∷ args) [] h = cc
args_are_there earlier (a ∷ args) (ty ∷ types) h =
    let b = both (gives earlier a ty) _ h in
    let rest = args_are_there earlier args types b.1 in
    (and_also _ _ ((Decides-ltb a (length earlier)).1 (is_there earlier a ty b.0)) rest.0, ap suc rest.1)

length_of_copies : (n : ℕ) (ty : Ty) → length (replicate n ty) ≡ n
length_of_copies zero ty = refl
length_of_copies (suc n) ty = ap suc (length_of_copies n ty)

takes_rightly : (kind : OpKind) (ty : Ty) (n k : ℕ) → n ≡ length (taken_types kind ty k) → takes kind n k ≡ true
takes_rightly Read ty n k e = (Decides-eqb n k).1 (e ∙ length_of_copies k int_type)
takes_rightly Write ty n k e = (Decides-eqb n (suc k)).1 (e ∙ length-append (replicate k int_type) (ty ∷ []) ∙ one_more (length_of_copies k int_type))
  where
    one_more : {m : ℕ} → m ≡ k → m + 1 ≡ suc k
    one_more {m} e = omega arith
takes_rightly kind ty n k e = refl

module _ (core : PlainCore) (outside : Around) where
  allowed_by : (kind : OpKind) (ty : Ty) (at : Option ℕ) → names_rightly core outside kind ty at ≡ true → (is_allowed_at core kind at && is_typed core ty at) ≡ true
  allowed_by kind ty None h = refl
  allowed_by kind ty (Some m) h =
      let a = both (is_access kind && is_usable core outside m) _ h in
      let b = both (is_access kind) _ a.0 in
      let c = both (nat_lt m (length core.mems)) _ b.1 in
      let d = both (can kind (mem core m).kind (mem core m).start) _ a.1 in
      and_also _ _ (and_also _ _ c.0 d.0) d.1

  mask_is_there : (earlier : Given) (o : Option ℕ) → is_mask core outside earlier o ≡ true → is_earlier o (length earlier) ≡ true
  mask_is_there earlier None h = refl
  mask_is_there earlier (Some m) h = (Decides-ltb m (length earlier)).1 (is_there earlier m Bit h)

  same_count : (o : Option ℕ) → indices_of core outside o ≡ indices_at core.mems o
  same_count None = refl
  same_count (Some m) = refl

  pub record Right (earlier : Given) (op : PlainOp) : Type 0 where
    pub allowed : is_allowed core op ≡ true
    pub mask : is_earlier op.mask (length earlier) ≡ true
    pub operands : list_all (λ a. nat_lt a (length earlier)) op.args ≡ true
    pub taken : takes op.kind (length op.args) (indices_at core.mems op.mem) ≡ true

  right_one : (earlier : Given) (op : PlainOp) → is_operation_right core outside earlier op ≡ true → Right earlier op
  right_one earlier op h =
      let a = both (is_in_range op.kind op.ty outside && names_rightly core outside op.kind op.ty op.mem) _ h in
      let b = both (is_in_range op.kind op.ty outside) _ a.0 in
      let c = both (give_all earlier op.args (taken_types op.kind op.ty (indices_of core outside op.mem))) _ a.1 in
      let args = args_are_there earlier op.args _ c.0 in
      record {
        allowed = allowed_by op.kind op.ty op.mem b.1;
        mask = mask_is_there earlier op.mask c.1;
        operands = args.0;
        taken = takes_rightly op.kind op.ty (length op.args) (indices_at core.mems op.mem) (args.1 ∙ ap (λ k. length (taken_types op.kind op.ty k)) (same_count op.mem));
      }

  one_longer : (earlier : Given) (g : Option Ty) → length (earlier ++ g ∷ []) ≡ suc (length earlier)
  one_longer [] g = refl
  one_longer (e ∷ earlier) g = ap suc (one_longer earlier g)

  pub all_allowed : (ops : List PlainOp) (earlier : Given) → are_operations_right_after core outside earlier ops ≡ true → list_all (is_allowed core) ops ≡ true
  all_allowed [] earlier h = refl
  all_allowed (op ∷ ops) earlier h =
      let a = both (is_operation_right core outside earlier op) _ h in
      and_also _ _ (right_one earlier op a.0).allowed (all_allowed ops _ a.1)

  pub all_masked : (ops : List PlainOp) (earlier : Given) → are_operations_right_after core outside earlier ops ≡ true → are_masks_earlier (length earlier) ops ≡ true
  all_masked [] earlier h = refl
  all_masked (op ∷ ops) earlier h =
      let a = both (is_operation_right core outside earlier op) _ h in
      let rest = all_masked ops (earlier ++ given_type op.kind op.ty ∷ []) a.1 in
      and_also _ _ (right_one earlier op a.0).mask (subst (λ (k : ℕ). are_masks_earlier k ops ≡ true) (one_longer earlier (given_type op.kind op.ty)) rest)

  pub record There (count : ℕ) (op : PlainOp) : Type 0 where
    pub given : Given
    pub many : length given ≡ count
    pub right : Right given op

  right_there : (before : List PlainOp) (op : PlainOp) (after : List PlainOp) (earlier : Given) → are_operations_right_after core outside earlier (before ++ op ∷ after) ≡ true → There (length earlier + length before) op
  right_there [] op after earlier h = record { given = earlier; many = omega arith; right = right_one earlier op (both (is_operation_right core outside earlier op) _ h).0 }
  right_there (b ∷ before) op after earlier h =
      let r = right_there before op after (earlier ++ given_type b.kind b.ty ∷ []) (both (is_operation_right core outside earlier b) _ h).1 in
      let longer = one_longer earlier (given_type b.kind b.ty) in
      let many = r.many in
      record { given = r.given; many = omega arith; right = r.right }

-- no dimension is greater than all words
at_most : (a b : ℕ) → nat_le a b ≡ true → a ≤ b
at_most a b h = grind arith

factor : (d rest most : ℕ) → 1 ≤ d * rest → d * rest ≤ most → d ≤ most
factor d zero most h k = absurd (omega arith)
factor d (suc rest) most h k = omega arith

rest_counts : (d rest : ℕ) → 1 ≤ d * rest → 1 ≤ rest
rest_counts d zero h = absurd (omega arith)
rest_counts d (suc rest) h = omega arith

each_is_small : (most : ℕ) (ds : List ℕ) → 1 ≤ word_count ds → word_count ds ≤ most → most ≤ 2 ^ 26 → list_all (λ d. nat_le d (2 ^ 26)) ds ≡ true
each_is_small most [] h k l = refl
each_is_small most (d ∷ ds) h k l =
    let rest = rest_counts d (word_count ds) h in
    let here = factor d (word_count ds) most h k in
    and_also _ _ (small d (omega arith)) (each_is_small most ds rest (fewer d (word_count ds) most h k) l)
  where
    small : (d : ℕ) → d ≤ 2 ^ 26 → nat_le d (2 ^ 26) ≡ true
    small d h = grind arith

    fewer : (d rest most : ℕ) → 1 ≤ d * rest → d * rest ≤ most → rest ≤ most
    fewer zero rest most h k = absurd (omega arith)
    fewer (suc d) rest most h k = omega arith

mem_is_right : (mems : List PlainMem) (m : ℕ) → list_all is_mem_right mems ≡ true → m < length mems → is_mem_right (slice_index_or mems m no_mem) ≡ true
mem_is_right [] m h k = absurd (omega arith)
mem_is_right (x ∷ mems) zero h k = (both (is_mem_right x) _ h).0
mem_is_right (x ∷ mems) (suc m) h k = mem_is_right mems m (both (is_mem_right x) _ h).1 (omega arith)

module _ (core : PlainCore) where
  pub small_dims : (m : ℕ) → are_memories_right core ≡ true → nat_lt m (length core.mems) ≡ true → list_all (λ d. nat_le d (2 ^ 26)) (dims core m) ≡ true
  small_dims m h less =
      let right = mem_is_right core.mems m (both (list_all is_mem_right core.mems) _ h).0 ((Decides-ltb m (length core.mems)).0 less) in
      let words = (both _ (has_words 4194304 (mem core m).dims) right).1 in
      let counts = both (nat_le 1 (word_count (mem core m).dims)) _ words in
      ap (λ b. list_all (λ d. nat_le d (2 ^ 26)) (if b then (mem core m).dims else (dram core (m - length core.mems)).dims)) less
      ∙ each_is_small 4194304 (mem core m).dims (at_most 1 _ counts.0) (at_most _ 4194304 counts.1) (omega arith)

  -- an access of a list of a core
  pub orderly : (outside : Around) (before : List PlainOp) (op : PlainOp) (after : List PlainOp) (memory : ℕ) → are_memories_right core ≡ true → are_operations_right core outside (before ++ op ∷ after) ≡ true → op.mem ≡ Some memory → IsOrderly core before op memory
  orderly outside before op after memory memories right names =
      let r = right_there core outside before op after [] right in
      let count : length r.given ≡ length before = r.many ∙ zero-add (length before) in
      let allowed = subst (λ (x : Option ℕ). is_allowed_at core op.kind x ≡ true) names (both _ _ r.right.allowed).0 in
      record {
        names = names;
        earlier = ap (λ k. list_all (λ a. nat_lt a k) op.args) (sym count) ∙ r.right.operands;
        taken = r.right.taken;
        small = small_dims memory memories (both _ _ allowed).0;
      }
