-- An FSM, by the state in its test, in its body and in its next state.
use Rattle.std.proofs.Common.{◌≡◌, ℕ, ◌+◌, List, [], ◌∷◌, ◌++◌, length, Some, refl, sym, add-zero, arith}
use Rattle.std.specs.Prelude.{slice_index_or}
use Rattle.sp_words.specs.declared.types.Ty.{Ty}
use Rattle.sp_words.specs.declared.types.Ty.TheVariants.{Bit}
use Rattle.sp_reader.specs.PlainTree.{PlainIdent, PlainExpr, PlainExprKind, expr}
use Rattle.sp_reader.specs.PlainStatement.{PlainStmts}
use Rattle.sp_tree.specs.PlainProgram.{PlainProgram, PlainMem}
use Rattle.sp_tree.specs.PlainStatement as program
use Rattle.sp_tree.specs.Typing.{Scope, with_val}
use Rattle.sp_types.proofs.GrowthLemmas.{grows_declare}
use Rattle.sp_types.specs.Expressions.{expr_refusals}
use Rattle.sp_types.specs.Spans.{twice}
use Rattle.sp_types.specs.Statements as rule
use Rattle.sp_types.specs.Visible.{value, Visible}
use Rattle.sp_typed.proofs.ExpressionLemmas.{by_itself}
use Rattle.sp_typed.proofs.NoneLemmas.{both_none}
use Rattle.sp_typed.proofs.StillLemmas.{still_right}
use Rattle.sp_typed.specs.Declarations.{past_turn, vals_declared}
use Rattle.sp_typed.specs.Expressions.{type_by_itself, typed}
use Rattle.sp_typed.specs.Named.{Here}
use Rattle.sp_typed.specs.ReadTree.{IsReadExpr}
use Rattle.sp_typed.specs.Statements.{with_state, in_fsm, body_typed}
use Rattle.sp_typing.specs.Places.{Held, Place, Declares, KindRight, BodyRight}
use Rattle.sp_typing.proofs.AloneLemmas.{expr_alone}
use Rattle.sp_typing.proofs.DeclareLemmas.{valued, fresh_val}
use Rattle.sp_typing.proofs.HeldLemmas.{held_left, held_right, held_at, held_tail, held_from}
use Rattle.sp_typing.proofs.UsedLemmas.{around_grows}

-- the three binders stand where they are numbered, and the values of the body between them
pub record BindersHeld (p : PlainProgram) (n : ℕ) (tested now : List ℕ) (inner : List (List ℕ)) (last : List ℕ) : Type 0 where
  pub tested_at : slice_index_or p.vals n [] ≡ tested
  pub now_at : slice_index_or p.vals (n + 1) [] ≡ now
  pub inner_held : Held p.vals (n + 2) inner
  pub last_at : slice_index_or p.vals (n + (2 + length inner)) [] ≡ last

pub binders_held : (p : PlainProgram) (n : ℕ) (tested now : List ℕ) (inner : List (List ℕ)) (last : List ℕ) → Held p.vals n (tested ∷ now ∷ inner ++ last ∷ []) → BindersHeld p n tested now inner last
binders_held p n tested now inner last h =
    let front = held_left p.vals n (tested ∷ now ∷ inner) (last ∷ []) h in
    let next = held_tail p.vals n tested (now ∷ inner) front in
    record {
      tested_at = held_at p.vals n tested (now ∷ inner) [] front;
      now_at = held_at p.vals (n + 1) now inner [] next;
      inner_held = held_from p.vals (n + 1 + 1) (n + 2) inner (omega arith) (held_tail p.vals (n + 1) now inner next);
      last_at = held_at p.vals (n + (2 + length inner)) last [] []
          (held_from p.vals (n + length (tested ∷ now ∷ inner)) (n + (2 + length inner)) (last ∷ []) (omega arith) (held_right p.vals n (tested ∷ now ∷ inner) (last ∷ []) h));
    }

module _ (p : PlainProgram) (scope : Scope) (here : Here) (seen : Visible) (at : Place p scope here.names seen.names) where
  -- the body of an FSM, after two of its binders
  pub in_turn : (now : PlainIdent) (ty : Ty) (mems : List PlainMem) (inner counters : List (List ℕ)) → Held p.mems here.mems mems → Held p.vals (here.vals + 2) inner → Held p.counters here.counters counters
      → Declares p (in_fsm here now ty) mems inner counters
  in_turn now ty mems inner counters m v c = record {
    mems_held = held_from p.mems here.mems (here.mems + 0) mems (sym (add-zero here.mems)) m;
    vals_held = v;
    counters_held = held_from p.counters here.counters (here.counters + 0) counters (sym (add-zero here.counters)) c;
  }

  pub fsm_right : (place : ℕ) (k : PlainExprKind) (tested : PlainIdent) (test : PlainExpr) (now : PlainIdent) (ss : PlainStmts) (last : PlainIdent) (next : PlainExpr)
      → IsReadExpr (expr place k) → IsReadExpr test → IsReadExpr next
      → BindersHeld p here.vals tested.text now.text (vals_declared ss) last.text
      → rule.begin_refusals seen (expr place k) tested test ≡ [] → twice seen now ≡ [] → rule.next_refusals seen (expr place k) last next ≡ []
      → BodyRight p (with_val scope (here.vals + 1) (type_by_itself here (expr place k))) (in_fsm here now (type_by_itself here (expr place k))) (rule.with_state seen (expr place k) now) ss
      → KindRight p scope seen (program.fsm (typed here (type_by_itself here (expr place k)) (expr place k))
      here.vals (typed (with_state here tested (type_by_itself here (expr place k)) here.vals) Bit test)
      (here.vals + 1) (body_typed (in_fsm here now (type_by_itself here (expr place k))) ss)
      (here.vals + (2 + length (vals_declared ss)))
      (typed (with_state (past_turn here ss) last (type_by_itself here (expr place k)) (here.vals + (2 + length (vals_declared ss)))) (type_by_itself here (expr place k)) next))
  fsm_right place k tested test now ss last next read_start read_test read_next held begins once ends b =
      let start = expr place k in
      let ty = type_by_itself here start in
      let n = here.vals + (2 + length (vals_declared ss)) in
      let ask = rule.still (rule.state seen start) in
      let f = both_none (expr_refusals seen ask start) _ begins in
      let g = both_none (twice seen tested) (rule.test_refusals (rule.with_state seen start tested) test) f.1 in
      let e = both_none (twice seen last) (expr_refusals (rule.with_state seen start last) ask next) ends in
      let own_is = by_itself p scope here seen at.agree at.same ask start f.0 in
      let in_test = with_state here tested ty here.vals in
      let seen_test = rule.with_state seen start tested in
      let at_test = valued p scope here seen at tested ty (rule.state seen start) here.vals g.0 own_is held.tested_at in
      let in_next = with_state (past_turn here ss) last ty n in
      let seen_next = rule.with_state seen start last in
      let at_next = valued p scope here seen at last ty (rule.state seen start) n e.0 own_is held.last_at in
      record {
        typed = (
          still_right p scope here seen at.agree at.same ask ty start own_is refl read_start f.0,
          fresh_val p scope here seen at tested here.vals g.0 held.tested_at,
          still_right p (with_val scope here.vals ty) in_test seen_test at_test.agree at_test.same (rule.still (Some Bit)) Bit test refl refl read_test g.1,
          fresh_val p scope here seen at now (here.vals + 1) once held.now_at,
          b.typed,
          fresh_val p scope here seen at last n e.0 held.last_at,
          still_right p (with_val scope n ty) in_next seen_next at_next.agree at_next.same ask ty next own_is refl read_next e.1,
        );
        alone = λ acc around. (
          expr_alone p scope here seen at acc around ask ty start read_start f.0,
          expr_alone p (with_val scope here.vals ty) in_test seen_test at_test acc (around_grows p seen seen_test acc (grows_declare seen tested.text (value (rule.state seen start))) around)
              (rule.still (Some Bit)) Bit test read_test g.1,
          b.alone acc (around_grows p seen (rule.with_state seen start now) acc (grows_declare seen now.text (value (rule.state seen start))) around),
          expr_alone p (with_val scope n ty) in_next seen_next at_next acc (around_grows p seen seen_next acc (grows_declare seen last.text (value (rule.state seen start))) around)
              ask ty next read_next e.1,
        );
      }
