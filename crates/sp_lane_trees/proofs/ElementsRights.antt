-- What the rules of cores say of the combination of an element.
use Rattle.std.proofs.Common.{◌≡◌, ℕ, ◌+◌, ◌<◌, true, ◌&&◌, List, [], ◌∷◌, ◌++◌, length, sym, ◌∙◌, ap, arith}
use Rattle.std.proofs.lemmas.Bool.{and_parts}
use Rattle.std.proofs.lemmas.List.{append_assoc, length-append}
use Rattle.std.specs.Prelude.{Some}
use Rattle.sp_words.specs.declared.types.Ty.{Ty}
use Rattle.sp_words.specs.declared.types.Ty.TheVariants.{Bit}
use Rattle.sp_tree.specs.declared.statement.Comb.{Comb}
use Rattle.sp_tree.specs.PlainProgram.{PlainMem}
use Rattle.sp_core.specs.declared.operation.OpKind.TheVariants.{Read, Two}
use Rattle.sp_core.specs.Around.{Around}
use Rattle.sp_core.specs.OperationRules.{names_rightly, are_operations_right_after}
use Rattle.sp_core.specs.PlainCore.{PlainOp, PlainCore}
use Rattle.sp_core.specs.Typed.{Given, given_type, gives}
use Rattle.sp_fitting.proofs.Lists.{first_right}
use Rattle.sp_sugar.specs.Combination.{operator_of}
use Rattle.sp_sugar.specs.Operations.{Code, computes, read_op, write_op, literal_op, under}
use Rattle.sp_lane_rules.specs.UnrolledMeetings.{given_of}
use Rattle.sp_lane_trees.proofs.CombinationsRights.{gives_front, right_parts, IsRegister}
use Rattle.sp_lane_trees.proofs.ElementsCodes.{counts, places}
use Rattle.sp_lane_trees.proofs.ElementsForms.{test, chooses, element}

module _ (core : PlainCore) (around : Around) (mems : List PlainMem) (c : ℕ) (ds : List ℕ) (ty : Ty) (comb : Comb) where
  -- the accumulator is read, the flag is a register, and the word has the type
  pub record ElementRight (g : Given) (word acc begun : ℕ) : Type 0 where
    pub accumulator : names_rightly core around Read ty (Some acc) ≡ true
    pub flag : IsRegister core around Bit begun
    pub given : gives g word ty ≡ true

  pub element_right : (g : Given) (at word acc begun : ℕ) → word < length g → are_operations_right_after core around g (element mems c ds ty comb at word acc begun) ≡ true → ElementRight g word acc begun
  element_right g at word acc begun lt e =
      let n : ℕ = length ds in
      let q : ℕ = at + 1 + n + 3 in
      let v : ℕ = at + 1 + n + 2 in
      let second : PlainOp = under at (read_op ty acc (places (at + 1) n)) in
      let third : PlainOp = computes (Two (operator_of comb)) ty ((at + 1 + n) ∷ word ∷ []) in
      let fourth : PlainOp = chooses mems c ds ty comb at word in
      let t : Code = test mems c ds ty comb (q + 1 + n) in
      let flag : PlainOp = under t.word (write_op Bit begun ((q + 1 + n + length t.ops) ∷ [])) in
      let written : List PlainOp = write_op ty acc (places q n ++ v ∷ []) ∷ (t.ops ++ literal_op Bit 1 ∷ flag ∷ []) in
      let rest : List PlainOp = fourth ∷ (counts c n ++ written) in
      let first : List PlainOp = read_op Bit begun [] ∷ counts c n in
      let all : are_operations_right_after core around g (first ++ second ∷ third ∷ rest) ≡ true = sym (ap (λ l. are_operations_right_after core around g l) (append_assoc first (second ∷ third ∷ []) rest)) ∙ e in
      let o1 = first_right core around g (read_op Bit begun []) (counts c n ++ second ∷ third ∷ rest) all in
      let r1 = right_parts core around g first (second ∷ third ∷ rest) all in
      let g1 : Given = g ++ given_of first in
      let o2 = first_right core around g1 second (third ∷ rest) r1.1 in
      let g2 : Given = g1 ++ Some ty ∷ [] in
      let o3 = first_right core around g2 third rest o2.1 in
      let g3 : Given = g2 ++ given_type third.kind third.ty ∷ [] in
      let o4 = first_right core around g3 fourth (counts c n ++ written) o3.1 in
      let g4 : Given = g3 ++ given_type fourth.kind fourth.ty ∷ [] in
      let r2 = right_parts core around g4 (counts c n) written o4.1 in
      let g5 : Given = g4 ++ given_of (counts c n) in
      let o5 = first_right core around g5 (write_op ty acc (places q n ++ v ∷ [])) (t.ops ++ literal_op Bit 1 ∷ flag ∷ []) r2.1 in
      let g6 : Given = g5 ++ given_type (write_op ty acc (places q n ++ v ∷ [])).kind ty ∷ [] in
      let r3 = right_parts core around g6 t.ops (literal_op Bit 1 ∷ flag ∷ []) o5.1 in
      let g7 : Given = g6 ++ given_of t.ops in
      let o6 = first_right core around g7 (literal_op Bit 1) (flag ∷ []) r3.1 in
      let o7 = first_right core around (g7 ++ Some Bit ∷ []) flag [] o6.1 in
      record {
        accumulator = o2.0.names;
        flag = record { read = o1.0.names; write = o7.0.names };
        given = gives_front g (given_of first) word ty lt
            (gives_front g1 (Some ty ∷ []) word ty (more (length g) (length (given_of first)) (length g1) word lt (length-append g (given_of first)))
            (and_parts (gives g2 word ty) true (and_parts (gives g2 (at + 1 + n) ty) (gives g2 word ty && true) o3.0.takes).1).0);
      }
    where
      more : (a b s w : ℕ) → w < a → s ≡ a + b → w < s
      more a b s w lt e = omega (arith, lt, e)
