-- Operations that change no memory, those of such an expression among them, leave the store of a core as it is.
use Rattle.std.proofs.Common.{◌≡◌, ℕ, ◌+◌, Bool, true, false, not, List, [], ◌∷◌, ◌++◌, Option, Some, None, sym, ◌∙◌, subst}
use Rattle.std.proofs.lemmas.Bool.{false≢true}
use Rattle.std.specs.Prelude.{map, length, IsTrue}
use Rattle.sp_words.specs.declared.types.Ty.{Ty}
use Rattle.sp_tree.specs.Footprint.{Names, KindNames, AllName}
use Rattle.sp_tree.specs.PlainExpression.{PlainExpr, PlainExprKind, PlainExprs, expr, literal, counter, value, get_reg, get_arg, get_sram, get_line, deq, one, two, shift, mux, cast, no_expr, more_expr}
use Rattle.sp_tree.specs.PlainProgram.{PlainProgram}
use Rattle.sp_tree.specs.Streams.{is_fifo}
use Rattle.sp_tree.specs.Typing.{Scope, Typed, KindTyped, IndicesTyped}
use Rattle.sp_core.specs.declared.operation.OpKind.{OpKind}
use Rattle.sp_core.specs.declared.operation.OpKind.TheVariants.{Word, Count, Live, Read, Write, Enq, Deq, Reset, One, Two, Shift, Mux, Cast}
use Rattle.sp_core.specs.Accesses.{written, read_in, inside, read_at, word_in}
use Rattle.sp_core.specs.Declarations.{kind_of, dims}
use Rattle.sp_core.specs.Elements.{index_value, natural, are_inside}
use Rattle.sp_core.specs.History.{Entry, left_out, touched, word_at}
use Rattle.sp_core.specs.Operations.{is_masked, done_by, operation, operations_after}
use Rattle.sp_core.specs.PlainCore.{PlainOp, PlainCore}
use Rattle.sp_core.specs.Scope as counters
use Rattle.sp_core.specs.Step.{Step, went, pure, ◌>>=◌, ensure, stop, look}
use Rattle.sp_core.specs.Store.{Store}
use Rattle.sp_sugar.specs.Operations.{Code, source_code, code, code_of, codes}
use Rattle.sp_sugar.specs.Values.{Source, at_place, in_register, constant, count, Sources}
use Rattle.sp_sugar.proofs.StepLemmas.{core_apart, same_core_store, not_stopped}
use Rattle.sp_same.proofs.StillWords.{is_no_fifo}

abbrev pub ChangesNothing : OpKind → Type 0
ChangesNothing Write = ⊥
ChangesNothing Enq = ⊥
ChangesNothing Deq = ⊥
ChangesNothing Reset = ⊥
ChangesNothing _ = Unit {0}

abbrev pub AllStill : List PlainOp → Type 0
AllStill [] = Unit {0}
AllStill (op ∷ ops) = ChangesNothing op.kind × AllStill ops

pub both_still : (xs ys : List PlainOp) → AllStill xs → AllStill ys → AllStill (xs ++ ys)
both_still [] ys a b = b
both_still (x ∷ xs) ys a b = (a.0, both_still xs ys a.1 b)

module _ (core : PlainCore) (around : counters.Scope) where
  ensure_still : (b : Bool) (x : Unit {0}) (t u : Store) → ensure b t ≡ went x u → u ≡ t
  unfolding pure stop
  ensure_still true x t u e = sym (same_core_store tt x t u e)
  ensure_still false x t u e = not_stopped x u e

  written_still : (o : Option ℕ) (w : ℕ) (t u : Store) → written o t ≡ went w u → u ≡ t
  unfolding pure stop
  written_still None w t u e = not_stopped w u e
  written_still (Some x) w t u e = sym (same_core_store x w t u e)

  read_still : (m : ℕ) (is : List ℕ) (x : Entry) (t u : Store) → read_at core m is t ≡ went x u → u ≡ t
  unfolding pure look ◌>>=◌
  read_still m is x t u e =
      let b = core_apart (inside core m is) (λ js. ◌>>=◌ (read_in core m js) (λ w. pure (touched js w))) t x u e in
      let c = core_apart (ensure (are_inside (dims core m) (map index_value is))) (λ _. pure (map (λ i. natural (index_value i)) is)) t b.answer b.store b.first in
      let d = core_apart (read_in core m b.answer) (λ w. pure (touched b.answer w)) b.store x u b.second in
      sym (same_core_store (touched b.answer d.answer) x d.store u d.second)
      ∙ written_still (word_in (kind_of core m) (dims core m) b.answer (b.store m)) d.answer b.store d.store d.first
      ∙ sym (same_core_store (map (λ i. natural (index_value i)) is) b.answer c.store b.store c.second)
      ∙ ensure_still (are_inside (dims core m) (map index_value is)) c.answer t c.store c.first

  done_still : (k : OpKind) (ty : Ty) (m : Option ℕ) (args : List ℕ) (x : Entry) (t u : Store) → ChangesNothing k → done_by core around k ty m args t ≡ went x u → u ≡ t
  unfolding pure stop
  done_still (Word w) ty m args x t u n e = sym (same_core_store _ x t u e)
  done_still (Count c lane) ty m args x t u n e = sym (same_core_store _ x t u e)
  done_still (Live c first last) ty m args x t u n e = sym (same_core_store _ x t u e)
  done_still Read ty None args x t u n e = not_stopped x u e
  done_still Read ty (Some m) args x t u n e = read_still m args x t u e
  done_still Write ty m args x t u n e = absurd n
  done_still Enq ty m args x t u n e = absurd n
  done_still Deq ty m args x t u n e = absurd n
  done_still Reset ty m args x t u n e = absurd n
  done_still (One op) ty m args x t u n e = sym (same_core_store _ x t u e)
  done_still (Two op) ty m args x t u n e = sym (same_core_store _ x t u e)
  done_still (Shift left by) ty m args x t u n e = sym (same_core_store _ x t u e)
  done_still Mux ty m args x t u n e = sym (same_core_store _ x t u e)
  done_still (Cast to) ty m args x t u n e = sym (same_core_store _ x t u e)

  masked_still : (b : Bool) (k : OpKind) (ty : Ty) (m : Option ℕ) (args : List ℕ) (x : Entry) (t u : Store) → ChangesNothing k → (elim b as (λ _. Step Entry) [ true ↦ pure left_out | false ↦ done_by core around k ty m args ]) t ≡ went x u → u ≡ t
  unfolding pure
  masked_still true k ty m args x t u n e = sym (same_core_store left_out x t u e)
  masked_still false k ty m args x t u n e = done_still k ty m args x t u n e

  pub ops_still : (ops : List PlainOp) (done all : List Entry) (t u : Store) → AllStill ops → operations_after core around done ops t ≡ went all u → u ≡ t
  unfolding operations_after pure
  ops_still [] done all t u n e = sym (same_core_store done all t u e)
  ops_still (op ∷ ops) done all t u n e =
      let b = core_apart (operation core around op done) (λ x. operations_after core around (done ++ x ∷ []) ops) t all u e in
      ops_still ops (done ++ b.answer ∷ []) all b.store u n.1 b.second
      ∙ masked_still (is_masked op.mask done) op.kind op.ty op.mem (map (word_at done) op.args) b.answer t b.store n.0 b.first

-- the operations of an expression that takes no word from a FIFO
module _ (p : PlainProgram) (scope : Scope) (sources : Sources) where
  source_still : (s : Source) (at : ℕ) (ty : Ty) → AllStill (source_code at ty s).ops
  source_still (at_place k) at ty = tt
  source_still (in_register r) at ty = (tt, tt)
  source_still (constant w) at ty = (tt, tt)
  source_still (count c) at ty = (tt, tt)

  mutual
    unfolding code code_of codes

    pub code_still : (e : PlainExpr) (at : ℕ) → Typed p scope e → Names (is_no_fifo p) e → AllStill (code p.mems sources at e).ops
    code_still (expr place ty k) at t n = code_of_still k at ty t n

    code_of_still : (k : PlainExprKind) (at : ℕ) (ty : Ty) → KindTyped p scope k ty → KindNames (is_no_fifo p) k → AllStill (code_of p.mems sources at ty k).ops
    code_of_still (literal v) at ty t n = (tt, tt)
    code_of_still (counter c) at ty t n = (tt, tt)
    code_of_still (value v) at ty t n = source_still (sources v) at ty
    code_of_still (get_reg m) at ty t n = (tt, tt)
    code_of_still (get_arg m) at ty t n = (tt, tt)
    code_of_still (get_sram m indices) at ty t n = both_still (codes p.mems sources at indices).ops _ (codes_still indices at t.2 n.1) (tt, tt)
    code_of_still (get_line m row column) at ty t n =
        let r : Code = code p.mems sources at row in
        let c : Code = code p.mems sources (at + length r.ops) column in
        both_still (r.ops ++ c.ops) _ (both_still r.ops c.ops (code_still row at t.1 n.1) (code_still column (at + length r.ops) t.3 n.2)) (tt, tt)
    code_of_still (deq m) at ty t n = absurd (false≢true (subst (λ k. IsTrue (not (is_fifo k))) t.is_kind n))
    code_of_still (one op a) at ty t n = both_still (code p.mems sources at a).ops _ (code_still a at t.0 n) (tt, tt)
    code_of_still (two op a b) at ty t n =
        let x : Code = code p.mems sources at a in
        let y : Code = code p.mems sources (at + length x.ops) b in
        both_still (x.ops ++ y.ops) _ (both_still x.ops y.ops (code_still a at t.0 n.0) (code_still b (at + length x.ops) t.1 n.1)) (tt, tt)
    code_of_still (shift left a by) at ty t n = both_still (code p.mems sources at a).ops _ (code_still a at t.0 n) (tt, tt)
    code_of_still (mux c a b) at ty t n =
        let x : Code = code p.mems sources at c in
        let y : Code = code p.mems sources (at + length x.ops) a in
        let z : Code = code p.mems sources (at + length x.ops + length y.ops) b in
        both_still (x.ops ++ y.ops ++ z.ops) _
        (both_still (x.ops ++ y.ops) z.ops (both_still x.ops y.ops (code_still c at t.0 n.0) (code_still a (at + length x.ops) t.2 n.1)) (code_still b (at + length x.ops + length y.ops) t.4 n.2)) (tt, tt)
    code_of_still (cast a) at ty t n = both_still (code p.mems sources at a).ops _ (code_still a at t n) (tt, tt)

    codes_still : (es : PlainExprs) (at : ℕ) → IndicesTyped p scope es → AllName (is_no_fifo p) es → AllStill (codes p.mems sources at es).ops
    codes_still no_expr at t n = tt
    codes_still (more_expr x xs) at t n =
        let c : Code = code p.mems sources at x in
        both_still c.ops (codes p.mems sources (at + length c.ops) xs).ops (code_still x at t.0 n.0) (codes_still xs (at + length c.ops) t.2 n.1)
