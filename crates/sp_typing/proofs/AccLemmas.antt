-- Loops with an accumulator, by their heads and their bodies.
use Rattle.std.proofs.Common.{◌≡◌, ℕ, Bool, List, [], refl, sym, ap, subst, ◌∙◌}
use Rattle.sp_words.specs.declared.kind.Kind.TheVariants.{Reg, Sram}
use Rattle.sp_words.specs.declared.types.Ty.{Ty}
use Rattle.sp_reader.specs.PlainTree.{PlainIdent, PlainExpr, PlainExprKind, expr}
use Rattle.sp_reader.specs.PlainStatement.{PlainHead, PlainComb, PlainStmts}
use Rattle.sp_tree.specs.PlainProgram.{PlainProgram}
use Rattle.sp_tree.specs.PlainStatement as program
use Rattle.sp_tree.specs.Typing.{Scope, CombTyped, with_counters as with_numbers, after_all as program_after_all}
use Rattle.sp_types.proofs.GrowthLemmas.{Grows, grows_on, grows_binds, grows_acc, grows_all}
use Rattle.sp_types.specs.Expressions.{expr_refusals}
use Rattle.sp_types.specs.Spans.{with_binds, comb_refusals}
use Rattle.sp_types.specs.Statements.{word, acc_inside, value_refusals, part_if, is_visible, after_all}
use Rattle.sp_types.specs.Types.{symbol_type}
use Rattle.sp_types.specs.Visible.{Visible, symbol_of}
use Rattle.sp_typed.proofs.ExpressionLemmas.{expr_right}
use Rattle.sp_typed.proofs.NoneLemmas.{both_none}
use Rattle.sp_typed.specs.Declarations.{in_loop}
use Rattle.sp_typed.specs.Declarations as tree
use Rattle.sp_typed.specs.Expressions.{number_of, word_type, typed}
use Rattle.sp_typed.specs.Named.{Here}
use Rattle.sp_typed.specs.ReadTree.{IsReadHead, IsReadExpr, IsCombiner}
use Rattle.sp_typed.specs.Statements.{loop_style, counters_typed, body_typed, comb_typed, part_number}
use Rattle.sp_typing.specs.Places.{KindRight, BodyRight}
use Rattle.sp_typing.proofs.AloneLemmas.{expr_alone}
use Rattle.sp_typing.proofs.FindLemmas.{symbol_grows}
use Rattle.sp_typing.proofs.LoopLemmas.{HeadRight, comb_right}
use Rattle.sp_typing.proofs.PartLemmas.{part_right}
use Rattle.sp_typing.proofs.UsedLemmas.{Kept, kept_alone, kept_known, word_is_kept, around_grows, own_around, other_than}

-- what is visible inside, and at the end of the body
pub grows_inside : (seen : Visible) (binds : List PlainIdent) (acc : PlainIdent) → Grows seen (acc_inside seen binds acc)
grows_inside seen binds acc = grows_on seen _ _ (grows_binds seen binds) (grows_acc (with_binds seen binds) acc.text)

grows_end : (seen : Visible) (binds : List PlainIdent) (acc : PlainIdent) (ss : PlainStmts) → Grows seen (after_all (acc_inside seen binds acc) ss)
grows_end seen binds acc ss = grows_on seen _ _ (grows_inside seen binds acc) (grows_all (acc_inside seen binds acc) ss)

-- the scope inside of the loop
abbrev pub inner_scope : Scope → Here → PlainHead → Scope
inner_scope scope here h = with_numbers scope (counters_typed here here.counters h.counters)

module _ (p : PlainProgram) (scope : Scope) (here : Here) (seen : Visible) (h : PlainHead) (acc : PlainIdent) (ss : PlainStmts) (head : HeadRight p scope here seen h) where
  -- the value of a Reduce or a Fold
  pub reduce_right : (flag : Bool) (place : ℕ) (v : PlainExprKind) (c : PlainComb) → IsReadHead h → IsReadExpr (expr place v) → IsCombiner c.operator → Kept p scope here seen acc Reg
      → BodyRight p (inner_scope scope here h) (in_loop here h.binds) (acc_inside seen h.binds acc) ss
      → value_refusals (symbol_type (symbol_of seen acc.text)) (after_all (acc_inside seen h.binds acc) ss) (expr place v) c ≡ []
      → KindRight p scope seen (program.reduce (loop_style h.style) flag (number_of here acc) (counters_typed here here.counters h.counters)
      (body_typed (in_loop here h.binds) ss) (typed (tree.after_all (in_loop here h.binds) ss) (word_type here acc) (expr place v)) (comb_typed c.operator))
  reduce_right flag place v c read read_value is k b none =
      let inside = acc_inside seen h.binds acc in
      let end = after_all inside ss in
      let e = expr place v in
      let ty = word_type here acc in
      let there = tree.after_all (in_loop here h.binds) ss in
      let scope_there = program_after_all (inner_scope scope here h) (body_typed (in_loop here h.binds) ss) in
      let ask = word (symbol_type (symbol_of seen acc.text)) in
      let want = kept_known p scope here seen acc Reg k in
      let f = both_none (expr_refusals end ask e) (comb_refusals (symbol_type (symbol_of seen acc.text)) c) none in
      let own = own_around p scope here seen acc Reg h.binds k in
      record {
        typed = (
          read.style,
          head.counters,
          b.typed,
          word_is_kept p scope here seen acc Reg k,
          comb_right ty c is (ap (λ o. comb_refusals o c) (sym want) ∙ f.1),
          expr_right p scope_there there end b.at_end.agree b.at_end.same ask ty e want read_value f.0,
          b.alone (number_of here acc) own,
          expr_alone p scope_there there end b.at_end (number_of here acc) (around_grows p inside end (number_of here acc) (grows_all inside ss) own) ask ty e read_value f.0,
        );
        alone = λ a around. (
          kept_alone p scope here seen acc Reg a k around,
          head.alone a around,
          b.alone a (around_grows p seen inside a (grows_inside seen h.binds acc) around),
          expr_alone p scope_there there end b.at_end a (around_grows p seen end a (grows_end seen h.binds acc ss) around) ask ty e read_value f.0,
        );
      }

  -- the value of a MemReduce
  pub mem_reduce_right : (v : PlainExpr) (c : PlainComb) → IsReadHead h → IsCombiner c.operator → Kept p scope here seen acc Sram
      → BodyRight p (inner_scope scope here h) (in_loop here h.binds) (acc_inside seen h.binds acc) ss
      → part_if (is_visible (with_binds seen h.binds) v) (after_all (acc_inside seen h.binds acc) ss) acc.text v ≡ []
      → comb_refusals (symbol_type (symbol_of seen acc.text)) c ≡ []
      → KindRight p scope seen (program.mem_reduce (loop_style h.style) (number_of here acc) (counters_typed here here.counters h.counters)
      (body_typed (in_loop here h.binds) ss) (part_number (tree.after_all (in_loop here h.binds) ss) v) (comb_typed c.operator))
  mem_reduce_right v c read is k b none comb_none =
      let inside = acc_inside seen h.binds acc in
      let end = after_all inside ss in
      let number = number_of here acc in
      let scope_there = program_after_all (inner_scope scope here h) (body_typed (in_loop here h.binds) ss) in
      let acc_is = symbol_grows seen end (grows_end seen h.binds acc ss) acc.text _ k.seen_as in
      let part = part_right p (inner_scope scope here h) (in_loop here h.binds) (with_binds seen h.binds) head.inside scope_there ss end acc.text k.ty k.dims v b.at_end acc_is none in
      let comb = comb_right k.ty c is (ap (λ o. comb_refusals (symbol_type o) c) (sym k.seen_as) ∙ comb_none) in
      let P : Ty → Type 0 = λ t. CombTyped (comb_typed c.operator) t in
      record {
        typed = (
          read.style,
          head.counters,
          b.typed,
          record { seen = k.mem.seen; is_kind = k.mem.is_kind; is_type = refl },
          subst P (sym k.mem.is_type) comb,
          b.alone number (own_around p scope here seen acc Sram h.binds k),
          part.own,
          part.is_kind,
          part.is_type ∙ sym k.mem.is_type,
          part.dims_are ∙ sym k.dims_are,
        );
        alone = λ a around. (
          kept_alone p scope here seen acc Sram a k around,
          other_than p end a (part_number (tree.after_all (in_loop here h.binds) ss) v) (around_grows p seen end a (grows_end seen h.binds acc ss) around) part.free,
          head.alone a around,
          b.alone a (around_grows p seen inside a (grows_inside seen h.binds acc) around),
        );
      }
