-- The operations of one element of a MemReduce's combination.
use Rattle.std.proofs.Common.{◌≡◌, ℕ, suc, ◌+◌, ◌==◌, Bool, true, false, List, [], ◌∷◌, ◌++◌, Some, None, refl, sym, ◌∙◌, ap, subst, arith, append_assoc}
use Rattle.std.specs.Prelude.{length, map, slice_index_or, slice_set, Contains, All, Option}
use Rattle.sp_words.specs.declared.kind.Kind.TheVariants.{Sram}
use Rattle.sp_words.specs.declared.types.Ty.{Ty}
use Rattle.sp_words.specs.declared.types.Ty.TheVariants.{Bit}
use Rattle.sp_words.specs.Interface.{IsCount}
use Rattle.sp_words.specs.Memory.{Contents, cells}
use Rattle.sp_tree.specs.declared.statement.Comb.{Comb}
use Rattle.sp_tree.specs.Accesses as program
use Rattle.sp_tree.specs.Elements.{row_major}
use Rattle.sp_tree.specs.Expressions as expressions
use Rattle.sp_tree.specs.Expressions.{word}
use Rattle.sp_tree.specs.Operators.{bit}
use Rattle.sp_tree.specs.PlainExpression.{expr, get_sram}
use Rattle.sp_tree.specs.PlainProgram.{PlainProgram}
use Rattle.sp_tree.specs.Step as step
use Rattle.sp_tree.specs.Store as program_store
use Rattle.sp_tree.specs.Typing.{Scope, IsMem, Typed, IndicesTyped}
use Rattle.sp_core.specs.declared.operation.OpKind.TheVariants as kind
use Rattle.sp_core.specs.Accesses.{with_word}
use Rattle.sp_core.specs.Declarations.{dims}
use Rattle.sp_core.specs.Elements.{are_inside}
use Rattle.sp_core.specs.History.{Entry, gave, touched, left_out, word_of, word_at}
use Rattle.sp_core.specs.Operations.{done_by, operation, operations_after}
use Rattle.sp_core.specs.Operators.{two_word, chosen}
use Rattle.sp_core.specs.PlainCore.{PlainOp, PlainCore}
use Rattle.sp_core.specs.Scope as counters
use Rattle.sp_core.specs.Step as core_step
use Rattle.sp_core.specs.Step.{went, pure}
use Rattle.sp_core.specs.Store as store
use Rattle.sp_sugar.specs.Agreement.{HasMemories, View, IsAdded, Finds, Agree}
use Rattle.sp_sugar.specs.Combination.{operator_of, element_indices, is_last_element, element_value, element_ops}
use Rattle.sp_sugar.specs.Numbers.{mem_number}
use Rattle.sp_sugar.specs.Operations.{Code, Codes, code, code_of, codes, computes, read_op, write_op, literal_op, under}
use Rattle.sp_sugar.specs.Values.{no_sources, in_register}
use Rattle.sp_sugar.proofs.Follows.{follows, row_follow}
use Rattle.sp_sugar.proofs.MemoryLemmas.{core_reads, core_writes, reg_word}
use Rattle.sp_sugar.proofs.StepLemmas.{then_on}
use Rattle.sp_outcomes.proofs.ElementOrder.{AreBelow}
use Rattle.sp_outcomes.proofs.ElementWords.{HaveCounts, are_last, element_word, indices_words, last_word}
use Rattle.sp_outcomes.proofs.SoFar.{words_given, and_word, SoFar, one_op, some_ops, noted}

indices_length : (p : PlainProgram) (c : ℕ) (ds : List ℕ) (at : ℕ) → length (codes p.mems no_sources at (element_indices c ds)).ops ≡ length ds
unfolding code code_of codes
indices_length p c [] at = refl
indices_length p c (d ∷ ds) at = ap suc (indices_length p (suc c) ds (at + 1))

module _ (p : PlainProgram) (core : PlainCore) (h : HasMemories p core) (scope : Scope) (around : counters.Scope) (waiting : List ℕ) (resets : ℕ → Bool) (registers : List (ℕ × Option ℕ)) where
  abbrev pub view : View
  view = record { scope = scope; sources = no_sources; around = around; waiting = waiting; resets = resets; registers = registers }

  module _ (c part acc begun : ℕ) (ty : Ty) (comb : Comb) (is_part : IsMem p scope part Sram ty)
      (value_typed : Typed p scope (expr 0 ty (get_sram part (element_indices c (expressions.dims p.mems part))))) (indices_typed : IndicesTyped p scope (element_indices c (expressions.dims p.mems part)))
      (last_typed : Typed p scope (is_last_element c (expressions.dims p.mems part))) (counts : All IsCount (expressions.dims p.mems part))
      (t : store.Store) (s : program_store.Store) (agrees : Agree p core view [] s t) (js : List ℕ) (below : AreBelow (expressions.dims p.mems part) js) (have : HaveCounts s c js) (w : ℕ)
      (part_word : slice_index_or (program_store.cells_of (s.held part)) (row_major (expressions.dims p.mems part) js) None ≡ Some w) (added : IsAdded p core begun) (bk : ℕ) (kept : Contains registers (begun, Some bk)) where
    abbrev pub D : List ℕ
    D = expressions.dims p.mems part

    abbrev pub n : ℕ
    n = mem_number p.mems acc

    abbrev pub value : Code
    value = element_value p.mems c D part ty

    abbrev pub at : ℕ
    at = length value.ops

    abbrev pub indices : Codes
    indices = codes p.mems no_sources (at + 1) (element_indices c D)

    abbrev pub read : ℕ
    read = at + 1 + length D

    abbrev again : Codes
    again = codes p.mems no_sources (read + 3) (element_indices c D)

    abbrev last : Code
    last = code p.mems no_sources (read + 4 + length D) (is_last_element c D)

    abbrev o0 : PlainOp
    o0 = read_op Bit begun []

    abbrev pub o1 : PlainOp
    o1 = under at (read_op ty n indices.words)

    abbrev o2 : PlainOp
    o2 = computes (kind.Two (operator_of comb)) ty (read ∷ value.word ∷ [])

    abbrev o3 : PlainOp
    o3 = computes kind.Mux ty (at ∷ (read + 1) ∷ value.word ∷ [])

    abbrev pub o4 : PlainOp
    o4 = write_op ty n (again.words ++ (read + 2) ∷ [])

    abbrev pub o6 : PlainOp
    o6 = under last.word (write_op Bit begun ((read + 4 + length D + length last.ops) ∷ []))

    abbrev pub whole : List PlainOp
    whole = value.ops ++ element_ops p.mems at value.word c D n begun ty comb

    abbrev left5 : List PlainOp
    left5 = literal_op Bit 1 ∷ o6 ∷ []

    abbrev left4 : List PlainOp
    left4 = o4 ∷ last.ops ++ left5

    abbrev left1 : List PlainOp
    left1 = o1 ∷ o2 ∷ o3 ∷ again.ops ++ left4

    abbrev So : List PlainOp → program_store.Store → ℕ → List ℕ → List ℕ → Type 0
    So = SoFar p core view whole t

    found : word p.mems (expr 0 ty (get_sram part (element_indices c D))) 0 s ≡ step.went w 0 s
    unfolding step.read step.pure step.◌>>=◌
    found = element_word p 0 s part c ty js below counts have ∙ ap (λ o. program.written 0 o 0 s) part_word

    in_turn : element_ops p.mems at value.word c D n begun ty comb ≡ (o0 ∷ indices.ops) ++ left1
    in_turn =
        append_assoc ((o0 ∷ indices.ops) ++ (o1 ∷ o2 ∷ o3 ∷ again.ops)) (o4 ∷ last.ops) left5
        ∙ append_assoc (o0 ∷ indices.ops) (o1 ∷ o2 ∷ o3 ∷ again.ops) left4

    step0 : So (o0 ∷ indices.ops ++ left1) s (0 + at) (value.word ∷ []) (w ∷ [])
    step0 =
        let start : So (value.ops ++ (o0 ∷ indices.ops ++ left1)) s 0 [] [] = record { all = []; after = t; goes = ap (λ o. operations_after core around [] (value.ops ++ o) t) in_turn; long = refl; agree = agrees; give = tt } in
        let f = follows p core h view (expr 0 ty (get_sram part (element_indices c D))) 0 [] s s t 0 0 w refl value_typed agrees found in
        let x = some_ops p core view whole t value.ops (o0 ∷ indices.ops ++ left1) s s 0 [] [] (value.word ∷ []) (w ∷ []) start f.1 in
        noted p core view whole t (o0 ∷ indices.ops ++ left1) s (0 + at) value.word w [] [] x.0 x.1

    step1 : So (indices.ops ++ left1) s (0 + at + 1) (at ∷ value.word ∷ []) (bk ∷ w ∷ [])
    step1 =
        let register = step0.agree.registers (begun, Some bk) kept in
        one_op p core view whole t o0 (indices.ops ++ left1) s s (0 + at) at (value.word ∷ []) (w ∷ []) step0 (touched [] bk) step0.after (omega arith)
        (core_reads core begun [] step0.after bk (ap (λ d. are_inside d []) added.has_none) (reg_word core begun (step0.after begun) _ added.is_kind register.1)) step0.agree

    step_indices : (x : So left1 s (0 + at + 1 + length indices.ops) (at ∷ value.word ∷ []) (bk ∷ w ∷ [])) × (map (word_at x.all) indices.words ≡ js)
    step_indices =
        let row = row_follow p core h view (element_indices c D) (at + 1) step1.all s s step1.after 0 0 js (omega (arith, step1.long)) indices_typed step1.agree (indices_words p 0 s c D js below have) in
        let x = some_ops p core view whole t indices.ops left1 s s (0 + at + 1) (at ∷ value.word ∷ []) (bk ∷ w ∷ []) indices.words js step1 row.1 in
        (x.0, words_given x.0.all indices.words js x.1)

    -- by what the accumulator's element gives, the combined word, and what holds it
    module _ (e1 : Entry) (v : ℕ) (same : chosen bk (two_word (operator_of comb) ty (word_of e1) w) w ≡ v)
        (first : (all : List Entry) (u : store.Store) → word_at all at ≡ bk → map (word_at all) indices.words ≡ js → Agree p core view all s u → operation core around o1 all u ≡ went e1 u)
        (stored : program_store.Store) (contents : Contents) (e4 : Entry)
        (write : (all : List Entry) (u : store.Store) → Agree p core view all s u → (done_by core around kind.Write ty (Some n) (js ++ v ∷ []) u ≡ went e4 (store.hold u n contents)) × Agree p core view all stored (store.hold u n contents))
        (have_still : HaveCounts stored c js) where
      abbrev d : ℕ
      d = two_word (operator_of comb) ty (word_of e1) w

      indices_long : length indices.ops ≡ length D
      indices_long = indices_length p c D (at + 1)

      step2 : So (o2 ∷ o3 ∷ again.ops ++ left4) s (read + 1) (read ∷ at ∷ value.word ∷ []) (word_of e1 ∷ bk ∷ w ∷ [])
      step2 =
          let g = step_indices.0 in
          subst (λ k. So (o2 ∷ o3 ∷ again.ops ++ left4) s k (read ∷ at ∷ value.word ∷ []) (word_of e1 ∷ bk ∷ w ∷ [])) {x = 0 + at + 1 + length indices.ops + 1} {y = read + 1} (omega (arith, indices_long))
          (one_op p core view whole t o1 (o2 ∷ o3 ∷ again.ops ++ left4) s s (0 + at + 1 + length indices.ops) read (at ∷ value.word ∷ []) (bk ∷ w ∷ []) g e1 g.after (omega (arith, indices_long)) (first g.all g.after g.give.1 step_indices.1 g.agree) g.agree)

      combined_word : (all : List Entry) (u : store.Store) → word_at all read ≡ word_of e1 → word_at all value.word ≡ w → operation core around o2 all u ≡ went (gave d) u
      unfolding pure
      combined_word all u e f = ap (λ y. went (gave (two_word (operator_of comb) ty y (word_at all value.word))) u) e ∙ ap (λ y. went (gave (two_word (operator_of comb) ty (word_of e1) y)) u) f

      step3 : So (o3 ∷ again.ops ++ left4) s (read + 1 + 1) ((read + 1) ∷ read ∷ at ∷ value.word ∷ []) (d ∷ word_of e1 ∷ bk ∷ w ∷ [])
      step3 = one_op p core view whole t o2 (o3 ∷ again.ops ++ left4) s s (read + 1) (read + 1) (read ∷ at ∷ value.word ∷ []) (word_of e1 ∷ bk ∷ w ∷ []) step2 (gave d) step2.after refl (combined_word step2.all step2.after step2.give.1 step2.give.2.2.1) step2.agree

      chosen_word : (all : List Entry) (u : store.Store) → word_at all at ≡ bk → word_at all (read + 1) ≡ d → word_at all value.word ≡ w → operation core around o3 all u ≡ went (gave v) u
      unfolding pure
      chosen_word all u e f l =
          ap (λ y. went (gave (chosen y (word_at all (read + 1)) (word_at all value.word))) u) e ∙ ap (λ y. went (gave (chosen bk y (word_at all value.word))) u) f
          ∙ ap (λ y. went (gave (chosen bk d y)) u) l ∙ ap (λ y. went (gave y) u) same

      step4 : So (again.ops ++ left4) s (read + 3) ((read + 2) ∷ (read + 1) ∷ read ∷ at ∷ value.word ∷ []) (v ∷ d ∷ word_of e1 ∷ bk ∷ w ∷ [])
      step4 =
          subst (λ k. So (again.ops ++ left4) s k ((read + 2) ∷ (read + 1) ∷ read ∷ at ∷ value.word ∷ []) (v ∷ d ∷ word_of e1 ∷ bk ∷ w ∷ [])) {x = read + 1 + 1 + 1} {y = read + 3} (omega arith)
          (one_op p core view whole t o3 (again.ops ++ left4) s s (read + 1 + 1) (read + 2) ((read + 1) ∷ read ∷ at ∷ value.word ∷ []) (d ∷ word_of e1 ∷ bk ∷ w ∷ []) step3 (gave v) step3.after (omega arith)
          (chosen_word step3.all step3.after step3.give.2.2.1 step3.give.1 step3.give.2.2.2.1) step3.agree)

      step_again : (x : So left4 s (read + 3 + length again.ops) ((read + 2) ∷ (read + 1) ∷ read ∷ at ∷ value.word ∷ []) (v ∷ d ∷ word_of e1 ∷ bk ∷ w ∷ [])) × (map (word_at x.all) (again.words ++ (read + 2) ∷ []) ≡ js ++ v ∷ [])
      step_again =
          let row = row_follow p core h view (element_indices c D) (read + 3) step4.all s s step4.after 0 0 js (sym step4.long) indices_typed step4.agree (indices_words p 0 s c D js below have) in
          let x = some_ops p core view whole t again.ops left4 s s (read + 3) ((read + 2) ∷ (read + 1) ∷ read ∷ at ∷ value.word ∷ []) (v ∷ d ∷ word_of e1 ∷ bk ∷ w ∷ []) again.words js step4 row.1 in
          (x.0, and_word x.0.all again.words js (read + 2) v x.1 x.0.give.1)

      step5 : So (last.ops ++ left5) stored (read + 4 + length D) [] []
      step5 =
          let g = step_again.0 in
          let ws = write g.all g.after g.agree in
          let x = one_op p core view whole t o4 (last.ops ++ left5) s stored (read + 3 + length again.ops) (read + 3 + length again.ops) ((read + 2) ∷ (read + 1) ∷ read ∷ at ∷ value.word ∷ []) (v ∷ d ∷ word_of e1 ∷ bk ∷ w ∷ []) g e4 (store.hold g.after n contents) refl
          (ap (λ l. done_by core around kind.Write ty (Some n) l g.after) step_again.1 ∙ ws.0) ws.1 in
          record { all = x.all; after = x.after; goes = x.goes; long = omega (arith, x.long, indices_length p c D (read + 3)); agree = x.agree; give = tt }

      step_last : So left5 stored (read + 4 + length D + length last.ops) (last.word ∷ []) (bit (are_last D js) ∷ [])
      step_last =
          let f = follows p core h view (is_last_element c D) (read + 4 + length D) step5.all stored stored step5.after 0 0 (bit (are_last D js)) (sym step5.long) last_typed step5.agree (last_word p 0 stored c D js below have_still) in
          let x = some_ops p core view whole t last.ops left5 stored stored (read + 4 + length D) [] [] (last.word ∷ []) (bit (are_last D js) ∷ []) step5 f.1 in
          noted p core view whole t left5 stored (read + 4 + length D + length last.ops) last.word (bit (are_last D js)) [] [] x.0 x.1

      one_word : (all : List Entry) (u : store.Store) → operation core around (literal_op Bit 1) all u ≡ went (gave 1) u
      unfolding pure
      one_word all u = refl

      step6 : So (o6 ∷ []) stored (read + 4 + length D + length last.ops + 1) ((read + 4 + length D + length last.ops) ∷ last.word ∷ []) (1 ∷ bit (are_last D js) ∷ [])
      step6 = one_op p core view whole t (literal_op Bit 1) (o6 ∷ []) stored stored (read + 4 + length D + length last.ops) (read + 4 + length D + length last.ops) (last.word ∷ []) (bit (are_last D js) ∷ []) step_last (gave 1) step_last.after refl (one_word step_last.all step_last.after) step_last.agree

      -- the register that tells whether it has begun is written with the last one, and with no other
      pub record Done (now : Bool) : Type 0 where
        pub end : store.Store
        pub entries : List Entry
        pub agree : Agree p core view entries stored end
        pub goes : operations_after core around [] whole t ≡ went (entries ++ (elim now [ true ↦ touched [] 1 | false ↦ left_out ]) ∷ []) (elim now [ true ↦ store.hold end begun (cells (Some 1 ∷ [])) | false ↦ end ])

      written_now : (now : Bool) (all : List Entry) (u : store.Store) → word_at all last.word ≡ bit now → word_at all (read + 4 + length D + length last.ops) ≡ 1 → Finds p core around [] u (in_register begun) bk
          → operation core around o6 all u ≡ went (elim now [ true ↦ touched [] 1 | false ↦ left_out ]) (elim now [ true ↦ store.hold u begun (cells (Some 1 ∷ [])) | false ↦ u ])
      unfolding pure
      written_now true all u e one f =
          ap (λ y. (elim (y == 0) as (λ _. core_step.Step Entry) [ true ↦ core_step.pure left_out | false ↦ done_by core around kind.Write Bit (Some begun) (word_at all (read + 4 + length D + length last.ops) ∷ []) ]) u) e
          ∙ ap (λ y. done_by core around kind.Write Bit (Some begun) (y ∷ []) u) one
          ∙ core_writes core around Bit begun [] 1 u (cells (Some 1 ∷ [])) (ap (λ d. are_inside d []) added.has_none)
          (ap (λ y. with_word y (dims core begun) [] 1 (u begun)) added.is_kind ∙ ap (λ y. cells (slice_set (store.cells_of y) 0 (Some 1))) f.1)
      written_now false all u e one f =
          ap (λ y. (elim (y == 0) as (λ _. core_step.Step Entry) [ true ↦ core_step.pure left_out | false ↦ done_by core around kind.Write Bit (Some begun) (word_at all (read + 4 + length D + length last.ops) ∷ []) ]) u) e

      last_op : (all : List Entry) (u end : store.Store) (e : Entry) → operation core around o6 all u ≡ went e end → operations_after core around all (o6 ∷ []) u ≡ went (all ++ e ∷ []) end
      unfolding operations_after pure
      last_op all u end e f = then_on (operation core around o6 all) (λ x. operations_after core around (all ++ x ∷ []) []) u e end f

      pub element_goes : Done (are_last D js)
      element_goes = record {
        end = step6.after;
        entries = step6.all;
        agree = step6.agree;
        goes = step6.goes ∙ last_op step6.all step6.after _ _ (written_now (are_last D js) step6.all step6.after step6.give.2.1 step6.give.1 (step6.agree.registers (begun, Some bk) kept));
      }
