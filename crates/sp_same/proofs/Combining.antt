-- The operations of a combination do what a program does with a word and its accumulator.
use Rattle.std.proofs.Common.{◌≡◌, ℕ, ◌+◌, ◌<◌, true, not, List, [], ◌∷◌, ◌++◌, Some, None, refl, sym, ◌∙◌, ap, subst, arith, length-append, append_assoc}
use Rattle.std.specs.Prelude.{length, slice_index_or, slice_set, Contains}
use Rattle.sp_words.specs.declared.kind.Kind.TheVariants.{Reg}
use Rattle.sp_words.specs.declared.types.Ty.{Ty}
use Rattle.sp_words.specs.declared.types.Ty.TheVariants.{Bit}
use Rattle.sp_words.specs.Memory.{Contents, cells}
use Rattle.sp_tree.specs.declared.statement.Comb.{Comb}
use Rattle.sp_tree.specs.declared.statement.Comb.TheVariants as combiner
use Rattle.sp_tree.specs.Accesses as program
use Rattle.sp_tree.specs.Expressions as expressions
use Rattle.sp_tree.specs.Meaning.{is_dram}
use Rattle.sp_tree.specs.Operators as program_operators
use Rattle.sp_tree.specs.PlainProgram.{PlainProgram}
use Rattle.sp_tree.specs.Sequential.{assign}
use Rattle.sp_tree.specs.Step as step
use Rattle.sp_tree.specs.Store as program_store
use Rattle.sp_tree.specs.Typing.{IsMem}
use Rattle.sp_core.specs.declared.operation.OpKind.TheVariants as kind
use Rattle.sp_core.specs.Accesses.{with_word}
use Rattle.sp_core.specs.Declarations.{dims}
use Rattle.sp_core.specs.Elements.{are_inside}
use Rattle.sp_core.specs.History.{Entry, gave, touched, word_of, word_at}
use Rattle.sp_core.specs.Operations.{done_by, operation, operations_after}
use Rattle.sp_core.specs.Operators.{two_word, chosen}
use Rattle.sp_core.specs.PlainCore.{PlainOp, PlainCore}
use Rattle.sp_core.specs.Step.{went, pure}
use Rattle.sp_core.specs.Store as store
use Rattle.sp_sugar.specs.Agreement.{HasMemories, View, IsAdded, Finds, Agree, GoOn}
use Rattle.sp_sugar.specs.Combination.{operator_of, fold_ops, reduce_ops}
use Rattle.sp_sugar.specs.Numbers.{is_off_dram, mem_number}
use Rattle.sp_sugar.specs.Operations.{computes, read_op, write_op, literal_op, under}
use Rattle.sp_sugar.specs.Values.{in_register}
use Rattle.sp_sugar.proofs.GoOnLemmas.{keeps_front, at_end, agree_still, give_still, ops_append}
use Rattle.sp_sugar.proofs.MemoryLemmas.{dimensionless, chip_kind, chip_dims, chip_holds, agree_held, core_reads, core_writes, reg_word}
use Rattle.sp_sugar.proofs.StepLemmas.{same_store, taken_apart, then_on}
use Rattle.sp_sugar.proofs.TwinLemmas.{same_cells}
use Rattle.sp_same.proofs.Picks.{read_found}

snoc : (xs : List PlainOp) (y : PlainOp) (zs : List PlainOp) → (xs ++ y ∷ []) ++ zs ≡ xs ++ y ∷ zs
snoc xs y zs = append_assoc xs (y ∷ []) zs

-- the operator of a combiner
pub same_combined : (comb : Comb) (ty : Ty) (a b : ℕ) → two_word (operator_of comb) ty a b ≡ program_operators.combined comb ty a b
same_combined combiner.Add ty a b = refl
same_combined combiner.Mul ty a b = refl
same_combined combiner.And ty a b = refl
same_combined combiner.Or ty a b = refl
same_combined combiner.Xor ty a b = refl
same_combined combiner.Min ty a b = refl
same_combined combiner.Max ty a b = refl

module _ (p : PlainProgram) (core : PlainCore) (h : HasMemories p core) (view : View) where
  -- one more operation, whose word stands beside those before
  one_more : (ops : List PlainOp) (t : store.Store) (s u : program_store.Store) (ks ws : List ℕ) (op : PlainOp) (e : Entry) (after : store.Store) (place : ℕ) (g : GoOn p core view [] ops t s ks ws) → place ≡ length ops
      → operation core view.around op g.all g.after ≡ went e after → Agree p core view g.all u after → GoOn p core view [] (ops ++ op ∷ []) t u (place ∷ ks) (word_of e ∷ ws)
  unfolding operations_after pure
  one_more ops t s u ks ws op e after place g at goes a = record {
    all = g.all ++ e ∷ [];
    after = after;
    goes = ops_append p core view ops (op ∷ []) [] t g.all g.after g.goes ∙ then_on (operation core view.around op g.all) (λ x. operations_after core view.around (g.all ++ x ∷ []) []) g.after e after goes;
    counted = omega (arith, g.counted, length-append g.all (e ∷ []), length-append ops (op ∷ []));
    kept = λ k lt. absurd (omega (arith, lt));
    agree = agree_still p core view g.all (g.all ++ e ∷ []) u after (keeps_front g.all (e ∷ [])) a;
    give = (
      omega (arith, g.counted, length-append g.all (e ∷ []), at),
      ap (λ k. word_at (g.all ++ e ∷ []) k) {x = place} {y = length g.all} (omega (arith, g.counted, at)) ∙ at_end g.all e,
      give_still p core view g.all (g.all ++ e ∷ []) ks ws (keeps_front g.all (e ∷ [])) g.give,
    );
  }

  reassociated : (ops more : List PlainOp) (t : store.Store) (s : program_store.Store) (ks ws : List ℕ) → ops ≡ more → GoOn p core view [] ops t s ks ws → GoOn p core view [] more t s ks ws
  reassociated ops more t s ks ws e g = subst (λ o. GoOn p core view [] o t s ks ws) e g

  -- an accumulator
  module _ (acc : ℕ) (ty : Ty) (is : IsMem p view.scope acc Reg ty) (comb : Comb) (ops : List PlainOp) (t : store.Store) (s : program_store.Store) (k w : ℕ) (g : GoOn p core view [] ops t s (k ∷ []) (w ∷ [])) where
    abbrev off : is_off_dram (expressions.mem p.mems acc) ≡ true
    off = ap (λ x. not (is_dram x)) is.is_kind

    abbrev n : ℕ
    n = mem_number p.mems acc

    abbrev at : ℕ
    at = length ops

    lt : acc < length p.mems
    lt = (g.agree.mems acc is.seen).0

    no_dims : dims core n ≡ []
    no_dims = chip_dims p core h acc lt off ∙ dimensionless p core h acc lt Reg is.is_kind (λ n r. r)

    abbrev holding : ℕ → Contents
    holding c = cells (slice_set (program_store.cells_of (s.held acc)) 0 (Some c))

    -- it is read
    pub reads : (all : List Entry) (u : store.Store) (v : ℕ) → Agree p core view all s u → slice_index_or (program_store.cells_of (s.held acc)) 0 None ≡ Some v → done_by core view.around kind.Read ty (Some n) [] u ≡ went (touched [] v) u
    reads all u v a found = core_reads core n [] u v (ap (λ d. are_inside d []) no_dims) (reg_word core n (u n) (s.held acc) (chip_kind p core h acc lt off ∙ is.is_kind) (chip_holds p core h acc lt off view all s u a is.seen) ∙ found)

    -- it is written
    pub writes : (all : List Entry) (u : store.Store) (c : ℕ) → Agree p core view all s u → done_by core view.around kind.Write ty (Some n) (c ∷ []) u ≡ went (touched [] c) (store.hold u n (holding c))
    writes all u c a = core_writes core view.around ty n [] c u (holding c) (ap (λ d. are_inside d []) no_dims)
        (ap (λ x. with_word x (dims core n) [] c (u n)) (chip_kind p core h acc lt off ∙ is.is_kind)
        ∙ ap (λ x. cells (slice_set x 0 (Some c))) (ap store.cells_of (chip_holds p core h acc lt off view all s u a is.seen) ∙ same_cells (s.held acc)))

    abbrev two_op : ℕ → PlainOp
    two_op first = computes (kind.Two (operator_of comb)) ty (first ∷ k ∷ [])

    pub fold_goes : (place left rest : ℕ) (x : Unit {0}) (after : program_store.Store) → assign p.mems comb acc 0 true w place left s ≡ step.went x rest after → GoOn p core view [] (ops ++ fold_ops at k n ty comb) t after [] []
    unfolding step.read step.change step.◌>>=◌ pure
    fold_goes place left rest x after e =
        let ty2 : Ty = (expressions.mem p.mems acc).ty in
        let b = taken_apart (program.read_cell acc 0 place) (λ v. program.write_cell acc 0 (program_operators.combined comb ty2 v w)) left s x rest after e in
        let v : ℕ = b.answer in
        let found = read_found acc 0 place v left b.between s b.store b.first in
        let c : ℕ = two_word (operator_of comb) ty v w in
        let into : program_store.Store → ℕ → program_store.Store = λ u y. program_store.hold u acc (cells (slice_set (program_store.cells_of (u.held acc)) 0 (Some y))) in
        let ends : after ≡ program_store.hold s acc (holding c) =
        sym (same_store tt x b.between rest (into b.store (program_operators.combined comb ty2 v w)) after b.second)
        ∙ ap (λ u. into u (program_operators.combined comb ty2 v w)) found.1 ∙ ap (λ y. into s (program_operators.combined comb y v w)) is.is_type ∙ ap (into s) (sym (same_combined comb ty v w)) in
        let o0 : PlainOp = read_op ty n [] in
        let o1 : PlainOp = two_op at in
        let o2 : PlainOp = write_op ty n ((at + 1) ∷ []) in
        let g1 = one_more ops t s s (k ∷ []) (w ∷ []) o0 (touched [] v) g.after at g refl (reads g.all g.after v g.agree found.0) g.agree in
        let g2 = one_more (ops ++ o0 ∷ []) t s s (at ∷ k ∷ []) (v ∷ w ∷ []) o1 (gave c) g1.after (at + 1) g1 (omega (arith, length-append ops (o0 ∷ [])))
        (ap (λ y. went (gave (two_word (operator_of comb) ty y (word_at g1.all k))) g1.after) g1.give.1 ∙ ap (λ y. went (gave (two_word (operator_of comb) ty v y)) g1.after) g1.give.2.1) g1.agree in
        let ops2 : List PlainOp = (ops ++ o0 ∷ []) ++ o1 ∷ [] in
        let g3 = one_more ops2 t s (program_store.hold s acc (holding c)) ((at + 1) ∷ at ∷ k ∷ []) (c ∷ v ∷ w ∷ []) o2 (touched [] c) (store.hold g2.after n (holding c)) (at + 2) g2 (omega (arith, length-append ops (o0 ∷ []), length-append (ops ++ o0 ∷ []) (o1 ∷ [])))
        (ap (λ y. done_by core view.around kind.Write ty (Some n) (y ∷ []) g2.after) g2.give.1 ∙ writes g2.all g2.after c g2.agree)
        (agree_held p core h acc lt off view g2.all s g2.after g2.agree is.seen (holding c)) in
        let same : ops2 ++ o2 ∷ [] ≡ ops ++ o0 ∷ o1 ∷ o2 ∷ [] = snoc (ops ++ o0 ∷ []) o1 (o2 ∷ []) ∙ snoc ops o0 (o1 ∷ o2 ∷ []) in
        subst (λ u. GoOn p core view [] (ops ++ o0 ∷ o1 ∷ o2 ∷ []) t u [] []) (sym ends)
        (reassociated (ops2 ++ o2 ∷ []) (ops ++ o0 ∷ o1 ∷ o2 ∷ []) t (program_store.hold s acc (holding c)) [] [] same (quiet (ops2 ++ o2 ∷ []) (program_store.hold s acc (holding c)) _ _ g3))
      where
        quiet : (ops : List PlainOp) (s : program_store.Store) (ks ws : List ℕ) → GoOn p core view [] ops t s ks ws → GoOn p core view [] ops t s [] []
        quiet ops s ks ws g = record { all = g.all; after = g.after; goes = g.goes; counted = g.counted; kept = g.kept; agree = g.agree; give = tt }

    -- by whether a word of this run is held already; after the write of the accumulator that is so
    module _ (begun : ℕ) (added : IsAdded p core begun) (bk : ℕ) (kept : Contains view.registers (begun, Some bk)) (e1 : Entry) (c : ℕ) (same : chosen bk (two_word (operator_of comb) ty (word_of e1) w) w ≡ c)
        (first : (all : List Entry) (u : store.Store) → word_at all at ≡ bk → Agree p core view all s u → operation core view.around (under at (read_op ty n [])) all u ≡ went e1 u) where
      abbrev o0 : PlainOp
      o0 = read_op Bit begun []

      abbrev o1 : PlainOp
      o1 = under at (read_op ty n [])

      abbrev o2 : PlainOp
      o2 = two_op (at + 1)

      abbrev o3 : PlainOp
      o3 = computes kind.Mux ty (at ∷ (at + 2) ∷ k ∷ [])

      abbrev o4 : PlainOp
      o4 = write_op ty n ((at + 3) ∷ [])

      abbrev o5 : PlainOp
      o5 = literal_op Bit 1

      abbrev o6 : PlainOp
      o6 = write_op Bit begun ((at + 5) ∷ [])

      pub record Reduced (after : program_store.Store) : Type 0 where
        pub all : List Entry
        pub end : store.Store
        pub agree : Agree p core view all after end
        pub entries : List Entry
        pub goes : operations_after core view.around [] (ops ++ reduce_ops at k n begun ty comb) t ≡ went entries (store.hold end begun (cells (Some 1 ∷ [])))

      abbrev d : ℕ
      d = two_word (operator_of comb) ty (word_of e1) w

      abbrev stored : program_store.Store
      stored = program_store.hold s acc (holding c)

      abbrev ops1 : List PlainOp
      ops1 = ops ++ o0 ∷ []

      abbrev ops2 : List PlainOp
      ops2 = ops1 ++ o1 ∷ []

      abbrev ops3 : List PlainOp
      ops3 = ops2 ++ o2 ∷ []

      abbrev ops4 : List PlainOp
      ops4 = ops3 ++ o3 ∷ []

      abbrev ops5 : List PlainOp
      ops5 = ops4 ++ o4 ∷ []

      abbrev ops6 : List PlainOp
      ops6 = ops5 ++ o5 ∷ []

      long1 : at + 1 ≡ length ops1
      long1 = omega (arith, length-append ops (o0 ∷ []))

      long2 : at + 2 ≡ length ops2
      long2 = omega (arith, long1, length-append ops1 (o1 ∷ []))

      long3 : at + 3 ≡ length ops3
      long3 = omega (arith, long2, length-append ops2 (o2 ∷ []))

      long4 : at + 4 ≡ length ops4
      long4 = omega (arith, long3, length-append ops3 (o3 ∷ []))

      long5 : at + 5 ≡ length ops5
      long5 = omega (arith, long4, length-append ops4 (o4 ∷ []))

      -- whether a word is held, and the word
      step1 : GoOn p core view [] ops1 t s (at ∷ k ∷ []) (bk ∷ w ∷ [])
      step1 =
          let register = g.agree.registers (begun, Some bk) kept in
          one_more ops t s s (k ∷ []) (w ∷ []) o0 (touched [] bk) g.after at g refl
          (core_reads core begun [] g.after bk (ap (λ d. are_inside d []) added.has_none) (reg_word core begun (g.after begun) _ added.is_kind register.1)) g.agree

      step2 : GoOn p core view [] ops2 t s ((at + 1) ∷ at ∷ k ∷ []) (word_of e1 ∷ bk ∷ w ∷ [])
      step2 = one_more ops1 t s s (at ∷ k ∷ []) (bk ∷ w ∷ []) o1 e1 step1.after (at + 1) step1 long1 (first step1.all step1.after step1.give.1 step1.agree) step1.agree

      -- they are combined
      combined_word : (all : List Entry) (u : store.Store) → word_at all (at + 1) ≡ word_of e1 → word_at all k ≡ w → operation core view.around o2 all u ≡ went (gave d) u
      unfolding pure
      combined_word all u e f = ap (λ y. went (gave (two_word (operator_of comb) ty y (word_at all k))) u) e ∙ ap (λ y. went (gave (two_word (operator_of comb) ty (word_of e1) y)) u) f

      step3 : GoOn p core view [] ops3 t s ((at + 2) ∷ (at + 1) ∷ at ∷ k ∷ []) (d ∷ word_of e1 ∷ bk ∷ w ∷ [])
      step3 = one_more ops2 t s s ((at + 1) ∷ at ∷ k ∷ []) (word_of e1 ∷ bk ∷ w ∷ []) o2 (gave d) step2.after (at + 2) step2 long2 (combined_word step2.all step2.after step2.give.1 step2.give.2.2.1) step2.agree

      chosen_word : (all : List Entry) (u : store.Store) → word_at all at ≡ bk → word_at all (at + 2) ≡ d → word_at all k ≡ w → operation core view.around o3 all u ≡ went (gave c) u
      unfolding pure
      chosen_word all u e f l =
          ap (λ y. went (gave (chosen y (word_at all (at + 2)) (word_at all k))) u) e ∙ ap (λ y. went (gave (chosen bk y (word_at all k))) u) f
          ∙ ap (λ y. went (gave (chosen bk d y)) u) l ∙ ap (λ y. went (gave y) u) same

      step4 : GoOn p core view [] ops4 t s ((at + 3) ∷ (at + 2) ∷ (at + 1) ∷ at ∷ k ∷ []) (c ∷ d ∷ word_of e1 ∷ bk ∷ w ∷ [])
      step4 = one_more ops3 t s s ((at + 2) ∷ (at + 1) ∷ at ∷ k ∷ []) (d ∷ word_of e1 ∷ bk ∷ w ∷ []) o3 (gave c) step3.after (at + 3) step3 long3 (chosen_word step3.all step3.after step3.give.2.2.1 step3.give.1 step3.give.2.2.2.1) step3.agree

      -- and written
      step5 : GoOn p core view [] ops5 t stored ((at + 4) ∷ (at + 3) ∷ (at + 2) ∷ (at + 1) ∷ at ∷ k ∷ []) (c ∷ c ∷ d ∷ word_of e1 ∷ bk ∷ w ∷ [])
      step5 = one_more ops4 t s stored ((at + 3) ∷ (at + 2) ∷ (at + 1) ∷ at ∷ k ∷ []) (c ∷ d ∷ word_of e1 ∷ bk ∷ w ∷ []) o4 (touched [] c) (store.hold step4.after n (holding c)) (at + 4) step4 long4
          (ap (λ y. done_by core view.around kind.Write ty (Some n) (y ∷ []) step4.after) step4.give.1 ∙ writes step4.all step4.after c step4.agree)
          (agree_held p core h acc lt off view step4.all s step4.after step4.agree is.seen (holding c))

      one_word : (all : List Entry) (u : store.Store) → operation core view.around o5 all u ≡ went (gave 1) u
      unfolding pure
      one_word all u = refl

      step6 : GoOn p core view [] ops6 t stored ((at + 5) ∷ (at + 4) ∷ (at + 3) ∷ (at + 2) ∷ (at + 1) ∷ at ∷ k ∷ []) (1 ∷ c ∷ c ∷ d ∷ word_of e1 ∷ bk ∷ w ∷ [])
      step6 = one_more ops5 t stored stored ((at + 4) ∷ (at + 3) ∷ (at + 2) ∷ (at + 1) ∷ at ∷ k ∷ []) (c ∷ c ∷ d ∷ word_of e1 ∷ bk ∷ w ∷ []) o5 (gave 1) step5.after (at + 5) step5 long5 (one_word step5.all step5.after) step5.agree

      same_ops : ops6 ++ o6 ∷ [] ≡ ops ++ o0 ∷ o1 ∷ o2 ∷ o3 ∷ o4 ∷ o5 ∷ o6 ∷ []
      same_ops =
          snoc ops5 o5 (o6 ∷ []) ∙ snoc ops4 o4 (o5 ∷ o6 ∷ []) ∙ snoc ops3 o3 (o4 ∷ o5 ∷ o6 ∷ []) ∙ snoc ops2 o2 (o3 ∷ o4 ∷ o5 ∷ o6 ∷ [])
          ∙ snoc ops1 o1 (o2 ∷ o3 ∷ o4 ∷ o5 ∷ o6 ∷ []) ∙ snoc ops o0 (o1 ∷ o2 ∷ o3 ∷ o4 ∷ o5 ∷ o6 ∷ [])

      -- a word is held from now on
      held_now : (all : List Entry) (u : store.Store) → word_at all (at + 5) ≡ 1 → Finds p core view.around [] u (in_register begun) bk → operation core view.around o6 all u ≡ went (touched [] 1) (store.hold u begun (cells (Some 1 ∷ [])))
      held_now all u e f =
          ap (λ y. done_by core view.around kind.Write Bit (Some begun) (y ∷ []) u) e
          ∙ core_writes core view.around Bit begun [] 1 u (cells (Some 1 ∷ [])) (ap (λ d. are_inside d []) added.has_none)
          (ap (λ y. with_word y (dims core begun) [] 1 (u begun)) added.is_kind ∙ ap (λ y. cells (slice_set (store.cells_of y) 0 (Some 1))) f.1)

      last_goes : (all : List Entry) (u : store.Store) → operation core view.around o6 all u ≡ went (touched [] 1) (store.hold u begun (cells (Some 1 ∷ []))) → operations_after core view.around all (o6 ∷ []) u ≡ went (all ++ touched [] 1 ∷ []) (store.hold u begun (cells (Some 1 ∷ [])))
      unfolding operations_after pure
      last_goes all u e = then_on (operation core view.around o6 all) (λ x. operations_after core view.around (all ++ x ∷ []) []) u (touched [] 1) (store.hold u begun (cells (Some 1 ∷ []))) e

      pub reduce_goes : Reduced stored
      reduce_goes = record {
        all = step6.all;
        end = step6.after;
        agree = step6.agree;
        entries = step6.all ++ touched [] 1 ∷ [];
        goes = ap (λ o. operations_after core view.around [] o t) (sym same_ops)
            ∙ ops_append p core view ops6 (o6 ∷ []) [] t step6.all step6.after step6.goes
            ∙ last_goes step6.all step6.after (held_now step6.all step6.after step6.give.1 (step6.agree.registers (begun, Some bk) kept));
      }
