-- The operations of combinations keep the rules.
use Rattle.std.proofs.Common.{◌≡◌, ℕ, ◌+◌, true, [], ◌∷◌, Some, None, refl, ap, arith}
use Rattle.std.proofs.lemmas.Bool.{and_parts, and_from}
use Rattle.std.specs.Prelude.{length}
use Rattle.sp_words.specs.declared.kind.Kind.TheVariants.{Reg}
use Rattle.sp_words.specs.declared.types.Ty.{Ty}
use Rattle.sp_words.specs.declared.types.Ty.TheVariants.{Bit}
use Rattle.sp_tree.specs.declared.statement.Comb.{Comb}
use Rattle.sp_tree.specs.declared.statement.Comb.TheVariants as combiner
use Rattle.sp_core.specs.declared.operation.OpKind.TheVariants as kind
use Rattle.sp_core.specs.Around.{Around}
use Rattle.sp_core.specs.Declarations.{mem}
use Rattle.sp_core.specs.OperationRules.{are_operations_right_after, names_rightly}
use Rattle.sp_core.specs.PlainCore.{PlainOp, PlainCore}
use Rattle.sp_core.specs.Typed.{Given, given_type, taken_types, gives, give_all, index_count}
use Rattle.sp_sugar.specs.Combination.{operator_of, fold_ops, reduce_ops}
use Rattle.sp_sugar.specs.Operations.{computes, read_op, write_op, literal_op, under}
use Rattle.sp_sugar.specs.Rules.{given_by, IsRegister, Keep}
use Rattle.sp_sugar.proofs.KeepLemmas.{gives_still, gives_more, keep_nothing, keep_silent, keep_one, masked_one}
use Rattle.sp_sugar.proofs.Keeps.{access_named}

pub comb_type : (comb : Comb) (ty : Ty) → given_type (kind.Two (operator_of comb)) ty ≡ Some ty
comb_type combiner.Add ty = refl
comb_type combiner.Mul ty = refl
comb_type combiner.And ty = refl
comb_type combiner.Or ty = refl
comb_type combiner.Xor ty = refl
comb_type combiner.Min ty = refl
comb_type combiner.Max ty = refl

module _ (core : PlainCore) (around : Around) where
  pub read_named : (r : ℕ) (ty : Ty) → IsRegister core around r ty → names_rightly core around kind.Read ty (Some r) ≡ true
  read_named r ty i = access_named core around kind.Read ty r Reg refl i.usable i.is_kind (λ s. refl) i.is_type

  pub write_named : (r : ℕ) (ty : Ty) → IsRegister core around r ty → names_rightly core around kind.Write ty (Some r) ≡ true
  write_named r ty i = access_named core around kind.Write ty r Reg refl i.usable i.is_kind (λ s. refl) i.is_type

  pub read_takes : (r : ℕ) (ty : Ty) → IsRegister core around r ty → taken_types kind.Read ty (index_count (mem core r)) ≡ []
  read_takes r ty i = ap (λ y. taken_types kind.Read ty (index_count (record (mem core r) { kind = y }))) i.is_kind

  pub write_takes : (r : ℕ) (ty : Ty) → IsRegister core around r ty → taken_types kind.Write ty (index_count (mem core r)) ≡ ty ∷ []
  write_takes r ty i = ap (λ y. taken_types kind.Write ty (index_count (record (mem core r) { kind = y }))) i.is_kind

  -- the first place of a list
  pub first_given : (g : Given) (k : ℕ) (t : Ty) → give_all g (k ∷ []) (t ∷ []) ≡ true → gives g k t ≡ true
  first_given g k t e = (and_parts (gives g k t) true e).0

  module _ (earlier : Given) (word : ℕ) (acc : ℕ) (ty : Ty) (comb : Comb) (given : gives earlier word ty ≡ true) (a : IsRegister core around acc ty) where
    abbrev at : ℕ
    at = length earlier

    pub fold_keeps : are_operations_right_after core around earlier (fold_ops at word acc ty comb) ≡ true
    fold_keeps =
        let o1 : PlainOp = read_op ty acc [] in
        let o2 : PlainOp = computes (kind.Two (operator_of comb)) ty (at ∷ word ∷ []) in
        let k1 : Keep core around earlier (o1 ∷ []) (at ∷ []) (ty ∷ []) = keep_one core around earlier [] [] [] (keep_nothing core around earlier) kind.Read ty (Some acc) refl (read_named acc ty a) (read_takes acc ty a) ty at refl (omega arith) in
        let both : Keep core around earlier (o1 ∷ []) (at ∷ word ∷ []) (ty ∷ ty ∷ []) = record { right = k1.right; give = and_from _ _ (first_given _ at ty k1.give) (and_from _ _ (gives_still earlier (given_by (o1 ∷ [])) word ty given) refl) } in
        let k2 : Keep core around earlier (o1 ∷ o2 ∷ []) ((at + 1) ∷ []) (ty ∷ []) = keep_one core around earlier (o1 ∷ []) (at ∷ word ∷ []) (ty ∷ ty ∷ []) both (kind.Two (operator_of comb)) ty None refl refl refl ty (at + 1) (comb_type comb ty) (omega arith) in
        (keep_silent core around earlier (o1 ∷ o2 ∷ []) ((at + 1) ∷ []) (ty ∷ []) k2 kind.Write ty (Some acc) refl (write_named acc ty a) (write_takes acc ty a)).right

    module _ (begun : ℕ) (b : IsRegister core around begun Bit) where
      pub reduce_keeps : are_operations_right_after core around earlier (reduce_ops at word acc begun ty comb) ≡ true
      reduce_keeps =
          let o1 : PlainOp = read_op Bit begun [] in
          let o2 : PlainOp = under at (read_op ty acc []) in
          let o3 : PlainOp = computes (kind.Two (operator_of comb)) ty ((at + 1) ∷ word ∷ []) in
          let o4 : PlainOp = computes kind.Mux ty (at ∷ (at + 2) ∷ word ∷ []) in
          let o5 : PlainOp = write_op ty acc ((at + 3) ∷ []) in
          let o6 : PlainOp = literal_op Bit 1 in
          let k1 : Keep core around earlier (o1 ∷ []) (at ∷ []) (Bit ∷ []) = keep_one core around earlier [] [] [] (keep_nothing core around earlier) kind.Read Bit (Some begun) refl (read_named begun Bit b) (read_takes begun Bit b) Bit at refl (omega arith) in
          let n1 : Keep core around earlier (o1 ∷ []) [] [] = record { right = k1.right; give = refl } in
          let k2 : Keep core around earlier (o1 ∷ o2 ∷ []) ((at + 1) ∷ []) (ty ∷ []) = masked_one core around earlier (o1 ∷ []) [] [] n1 kind.Read ty (Some acc) at refl (read_named acc ty a) (read_takes acc ty a) (first_given _ at Bit k1.give) ty (at + 1) refl (omega arith) in
          let b2 : Keep core around earlier (o1 ∷ o2 ∷ []) ((at + 1) ∷ word ∷ []) (ty ∷ ty ∷ []) = record { right = k2.right; give = and_from _ _ (first_given _ (at + 1) ty k2.give) (and_from _ _ (gives_still earlier (given_by (o1 ∷ o2 ∷ [])) word ty given) refl) } in
          let k3 : Keep core around earlier (o1 ∷ o2 ∷ o3 ∷ []) ((at + 2) ∷ []) (ty ∷ []) = keep_one core around earlier (o1 ∷ o2 ∷ []) ((at + 1) ∷ word ∷ []) (ty ∷ ty ∷ []) b2 (kind.Two (operator_of comb)) ty None refl refl refl ty (at + 2) (comb_type comb ty) (omega arith) in
          let b3 : Keep core around earlier (o1 ∷ o2 ∷ o3 ∷ []) (at ∷ (at + 2) ∷ word ∷ []) (Bit ∷ ty ∷ ty ∷ []) = record {
            right = k3.right;
            give = and_from _ _ (gives_more earlier (given_by (o1 ∷ [])) (given_by (o2 ∷ o3 ∷ [])) at Bit (first_given _ at Bit k1.give))
                (and_from _ _ (first_given _ (at + 2) ty k3.give) (and_from _ _ (gives_still earlier (given_by (o1 ∷ o2 ∷ o3 ∷ [])) word ty given) refl));
          } in
          let k4 : Keep core around earlier (o1 ∷ o2 ∷ o3 ∷ o4 ∷ []) ((at + 3) ∷ []) (ty ∷ []) = keep_one core around earlier (o1 ∷ o2 ∷ o3 ∷ []) (at ∷ (at + 2) ∷ word ∷ []) (Bit ∷ ty ∷ ty ∷ []) b3 kind.Mux ty None refl refl refl ty (at + 3) refl (omega arith) in
          let k5 : Keep core around earlier (o1 ∷ o2 ∷ o3 ∷ o4 ∷ o5 ∷ []) [] [] = keep_silent core around earlier (o1 ∷ o2 ∷ o3 ∷ o4 ∷ []) ((at + 3) ∷ []) (ty ∷ []) k4 kind.Write ty (Some acc) refl (write_named acc ty a) (write_takes acc ty a) in
          let k6 : Keep core around earlier (o1 ∷ o2 ∷ o3 ∷ o4 ∷ o5 ∷ o6 ∷ []) ((at + 5) ∷ []) (Bit ∷ []) = keep_one core around earlier (o1 ∷ o2 ∷ o3 ∷ o4 ∷ o5 ∷ []) [] [] k5 (kind.Word 1) Bit None refl refl refl Bit (at + 5) refl (omega arith) in
          (keep_silent core around earlier (o1 ∷ o2 ∷ o3 ∷ o4 ∷ o5 ∷ o6 ∷ []) ((at + 5) ∷ []) (Bit ∷ []) k6 kind.Write Bit (Some begun) refl (write_named begun Bit b) (write_takes begun Bit b)).right
