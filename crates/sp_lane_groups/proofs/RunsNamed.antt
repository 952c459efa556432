-- Each access of a list that is right names a memory.
use Rattle.std.proofs.Common.{◌≡◌, Bool, true, false, not, ◌&&◌, [], ◌∷◌, ◌++◌, refl, sym, ◌∙◌, ap}
use Rattle.std.proofs.lemmas.Bool.{and_parts, true≢false}
use Rattle.sp_core.specs.OperationRules.{is_access, is_in_range, names_rightly, indices_of, is_mask, is_operation_right, are_operations_right_after}
use Rattle.sp_core.specs.PlainCore.{PlainCore}
use Rattle.sp_core.specs.Typed.{given_type, taken_types, give_all}
use Rattle.sp_lane_groups.specs.RunsLaws.{NameMemories}

not_false : (b : Bool) → not b ≡ true → b ≡ false
not_false true e = absurd (true≢false (sym e))
not_false false e = refl

pub name_memories : (core : PlainCore) → NameMemories core
name_memories core around earlier [] e = tt
name_memories core around earlier (op ∷ ops) e =
    let a = and_parts (is_operation_right core around earlier op) (are_operations_right_after core around (earlier ++ given_type op.kind op.ty ∷ []) ops) e in
    let b = and_parts (is_in_range op.kind op.ty around && names_rightly core around op.kind op.ty op.mem) (give_all earlier op.args (taken_types op.kind op.ty (indices_of core around op.mem)) && is_mask core around earlier op.mask) a.0 in
    let n = and_parts (is_in_range op.kind op.ty around) (names_rightly core around op.kind op.ty op.mem) b.0 in
    (λ i. not_false (is_access op.kind) (sym (ap (names_rightly core around op.kind op.ty) i) ∙ n.1), name_memories core around (earlier ++ given_type op.kind op.ty ∷ []) ops a.1)
