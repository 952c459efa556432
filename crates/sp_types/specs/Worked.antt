-- Worked trees, each with the text that it is of, or the part that is told.
use Rattle.std.specs.Prelude.{ℕ, true, false, List, [], ◌∷◌, ◌++◌, codes, Option, Some, None}
use Rattle.sp_words.specs.declared.kind.BinOp.TheVariants as binary
use Rattle.sp_words.specs.declared.types.Ty.TheVariants.{Bit as BitTy}
use Rattle.sp_words.specs.Types.{int_type}
use Rattle.sp_reader.specs.declared.syntax.expression.SynUn.TheVariants.{Minus, Bang, Tilde}
use Rattle.sp_reader.specs.PlainTree.{PlainIdent, PlainExpr, expr, mux, one, cast, number_lit}
use Rattle.sp_reader.specs.PlainStatement.{PlainStmt, PlainStmtKind, PlainDecl, stmt, reg, fifo, line_buffer, bind, set, set_at, enq, load, store, gather, foreach, reduce, mem_reduce, fsm, branch, no_stmt, body, single, range, arg_in, arg_out, dram, PlainSyntax}
use Rattle.sp_types.specs.declared.refusal.Refusal.{Refusal}
use Rattle.sp_types.specs.declared.refusal.Found.TheVariants.{Typed, Literal}
use Rattle.sp_types.specs.declared.refusal.Rule.TheVariants.{UnknownName, Twice, Misused, Rank, TypeClash, ParPlace}
use Rattle.sp_types.specs.ExampleForms.{ident, int, bit, fixed, num, minus, point, var, yes, bin, at, take, outer, sram_of, reg_of, put_y, up_to, lanes, loop_over, plain_comb, named_comb, program, in_accel}
use Rattle.sp_types.specs.First.{refused}
use Rattle.sp_types.specs.Statements.{first_refusal}

abbrev pub clash_at : ℕ → Refusal
clash_at place = refused place (TypeClash int_type (Typed BitTy))

abbrev pub no_word_at : ℕ → Refusal
no_word_at place = refused place (TypeClash int_type Literal)

-- val x = ArgIn[Int]; val x = ArgOut[Int]; Accel { }
unfoldable pub given_twice : PlainSyntax
given_twice = program (outer 4 (codes "x") (arg_in int) ∷ outer 24 (codes "x") (arg_out int) ∷ []) []

-- y := E
unfoldable pub written : PlainExpr → PlainSyntax
written e = in_accel (put_y 29 e ∷ [])

-- val s = SRAM[Int](2); y := s(0, 0)
unfoldable pub two_indices : PlainSyntax
two_indices = in_accel (sram_of 33 (codes "s") (2 ∷ []) ∷ put_y 51 (at 56 (codes "s") (num 58 0 ∷ num 61 0 ∷ [])) ∷ [])

-- Foreach(4 by 1 par 2, 4 by 1){ (i, j) => y := i }
unfoldable pub first_counter_in_lanes : PlainSyntax
first_counter_in_lanes = in_accel (stmt 29 (foreach
    (loop_over (up_to (num 37 4) (lanes 44 2) ∷ up_to (num 51 4) None ∷ []) (ident 62 (codes "i") ∷ ident 65 (codes "j") ∷ []))
    (body (put_y 71 (var 76 (codes "i")) ∷ []))) ∷ [])

-- val r = Reg[Int]; Reduce(r)(4){ i => E }{_ OP _}
unfoldable pub reduced_by : PlainStmt → PlainExpr → PlainSyntax
reduced_by before e = in_accel (before ∷ stmt 50 (reduce (loop_over (up_to (num 60 4) None ∷ []) (ident 65 (codes "i") ∷ [])) no_stmt (ident 55 (codes "r")) e (plain_comb binary.Add)) ∷ [])

-- val f = FIFO[Int](4); Foreach(f.deq()){ i => }
unfoldable pub taken_in_a_bound : PlainSyntax
taken_in_a_bound = in_accel (stmt 29 (fifo (ident 33 (codes "f")) int 4) ∷ stmt 50 (foreach (loop_over (up_to (take 58 (codes "f")) None ∷ []) (ident 70 (codes "i") ∷ [])) no_stmt) ∷ [])

-- val d = DRAM[Int](8) .. M load d(0::8 par 2)
unfoldable pub wide_load : PlainStmt → PlainSyntax
wide_load memory = program (outer 4 (codes "d") (dram int (8 ∷ [])) ∷ [])
    (memory ∷ stmt 60 (load (ident 60 (codes "m")) (ident 67 (codes "d")) (range (num 69 0) (num 72 8) (lanes 74 2) ∷ [])) ∷ [])

-- val s = SRAM[Int](2, 2); val p = SRAM[Int](2); s gather d(p, 2)
unfoldable pub gathered_in_two : PlainSyntax
gathered_in_two = program (outer 4 (codes "d") (dram int (8 ∷ [])) ∷ [])
    (sram_of 40 (codes "s") (2 ∷ 2 ∷ []) ∷ sram_of 70 (codes "p") (2 ∷ []) ∷ stmt 90 (gather (ident 90 (codes "s")) (ident 99 (codes "d")) (ident 101 (codes "p")) (num 104 2)) ∷ [])

-- val a = SRAM[Int](2); val p = SRAM[Int](2); MemReduce(a)(3){ k => BODY; p }{_ + _}, with and without the second one
-- in the body
unfoldable pub part_of : (before within : List PlainStmt) → PlainSyntax
part_of before within = in_accel (before ++ sram_of 33 (codes "a") (2 ∷ []) ∷ stmt 80 (mem_reduce (loop_over (up_to (num 94 3) None ∷ []) (ident 99 (codes "k") ∷ []))
    (body within) (ident 90 (codes "a")) (var 130 (codes "p")) (plain_comb binary.Add)) ∷ [])
