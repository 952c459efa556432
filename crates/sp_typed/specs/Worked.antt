-- Worked trees, each with its text.
use Rattle.std.specs.Prelude.{[], ◌∷◌, codes, Some, None}
use Rattle.sp_words.specs.declared.kind.BinOp.TheVariants as binary
use Rattle.sp_words.specs.declared.kind.Style.TheVariants.{Pipe, Sequential, Stream}
use Rattle.sp_reader.specs.declared.syntax.expression.SynUn.TheVariants.{Minus}
use Rattle.sp_reader.specs.PlainTree.{expr, one}
use Rattle.sp_reader.specs.PlainStatement.{stmt, line_buffer, set, enq, load, gather, scatter, block, reduce, fold, mem_reduce, fsm, branch, no_stmt, body, single, arg_in, arg_out, PlainSyntax}
use Rattle.sp_types.specs.ExampleForms as written
use Rattle.sp_types.specs.ExampleForms.{program, plain_comb, named_comb, lanes, loop_over}
use Rattle.sp_typed.specs.ExampleForms.{named, var, num, add, sub, mul, at, arg, out, dram_of, reg_of, reg_from, sram_of, fifo_of, here, put, put_at, val, between, in_lanes, loaded, stored, by, over, loop}

-- val x = ArgIn[Int]; val y = ArgOut[Int]; Accel { y := x + 3 }
unfoldable pub sum : PlainSyntax
sum = program (arg (codes "x") ∷ out (codes "y") ∷ []) (put (codes "y") (add (var (codes "x")) (num 3)) ∷ [])

-- val x = ArgIn[Int]; val y = ArgOut[Int]; Accel { y := x + 3 * -x }
unfoldable pub places : PlainSyntax
places = program (written.outer 0 (codes "x") (arg_in written.int) ∷ written.outer 20 (codes "y") (arg_out written.int) ∷ [])
    (stmt 49 (set (written.ident 49 (codes "y"))
    (written.bin binary.Add 54 (written.var 54 (codes "x")) (written.bin binary.Mul 58 (written.num 58 3) (expr 62 (one Minus (written.var 63 (codes "x"))))))) ∷ [])

-- val x = ArgIn[Int]; val y = ArgOut[Int]; Accel { val n = Reg[Int](0)
-- FSM(x)(s => s > 0){ s => n := n + s }{ s => s - 1 }; y := n }
unfoldable pub counting_down : PlainSyntax
counting_down = program (arg (codes "x") ∷ out (codes "y") ∷ []) (
    reg_from (codes "n") 0 ∷
    here (fsm (var (codes "x")) (named (codes "s")) (written.bin binary.Gt 0 (var (codes "s")) (num 0)) (named (codes "s"))
    (body (put (codes "n") (add (var (codes "n")) (var (codes "s"))) ∷ [])) (named (codes "s")) (sub (var (codes "s")) (num 1))) ∷
    put (codes "y") (var (codes "n")) ∷ [])

-- val y = ArgOut[Int]; Accel { val acc = Reg[Int]; acc := 10; Fold(acc)(4 by 1){ i => i }{_ + _}; y := acc }
unfoldable pub folded : PlainSyntax
folded = program (out (codes "y") ∷ []) (
    reg_of (codes "acc") ∷ put (codes "acc") (num 10) ∷
    here (fold (over (by 4 1 None) (codes "i")) no_stmt (named (codes "acc")) (var (codes "i")) (plain_comb binary.Add)) ∷
    put (codes "y") (var (codes "acc")) ∷ [])

-- val o = DRAM[Int](4); Accel { val r = Reg[Int](0); val s = SRAM[Int](4)
-- Foreach(4 by 1){ i => Pipe { r := i }; Pipe { s(i) = r + 10 } }; o(0::4) store s }
unfoldable pub register_between : PlainSyntax
register_between = program (dram_of (codes "o") (4 ∷ []) ∷ []) (
    reg_from (codes "r") 0 ∷ sram_of (codes "s") (4 ∷ []) ∷
    loop (by 4 1 None) (codes "i") (
    here (block Pipe (body (put (codes "r") (var (codes "i")) ∷ []))) ∷
    here (block Pipe (body (put_at (codes "s") (var (codes "i") ∷ []) (add (var (codes "r")) (num 10)) ∷ []))) ∷ []) ∷
    stored (codes "o") (between (num 0) (num 4) ∷ []) (codes "s") ∷ [])

-- val o = DRAM[Int](4); Accel { val f = FIFO[Int](4); val s = SRAM[Int](4)
-- Foreach(4 by 1){ i => f.enq(i * i) }; Foreach(4 by 1){ i => s(i) = f.deq() }; o(0::4) store s }
unfoldable pub queued : PlainSyntax
queued = program (dram_of (codes "o") (4 ∷ []) ∷ []) (
    fifo_of (codes "f") 4 ∷ sram_of (codes "s") (4 ∷ []) ∷
    loop (by 4 1 None) (codes "i") (here (enq (named (codes "f")) (mul (var (codes "i")) (var (codes "i")))) ∷ []) ∷
    loop (by 4 1 None) (codes "i") (put_at (codes "s") (var (codes "i") ∷ []) (written.take 7 (codes "f")) ∷ []) ∷
    stored (codes "o") (between (num 0) (num 4) ∷ []) (codes "s") ∷ [])

-- val o = DRAM[Int](2); Accel { val acc = SRAM[Int](2)
-- MemReduce(acc)(3 by 1){ k => val p = SRAM[Int](2); Foreach(2 by 1){ i => p(i) = k * 10 + i }; p }{_ + _}
-- o(0::2) store acc }
unfoldable pub memory_reduced : PlainSyntax
memory_reduced = program (dram_of (codes "o") (2 ∷ []) ∷ []) (
    sram_of (codes "acc") (2 ∷ []) ∷
    here (mem_reduce (over (by 3 1 None) (codes "k")) (body (
    sram_of (codes "p") (2 ∷ []) ∷
    loop (by 2 1 None) (codes "i") (put_at (codes "p") (var (codes "i") ∷ []) (add (mul (var (codes "k")) (num 10)) (var (codes "i"))) ∷ []) ∷ []))
    (named (codes "acc")) (var (codes "p")) (plain_comb binary.Add)) ∷
    stored (codes "o") (between (num 0) (num 2) ∷ []) (codes "acc") ∷ [])

-- val a = DRAM[Int](64); val b = DRAM[Int](64); val y = ArgOut[Int]; Accel { val acc = Reg[Int](0)
-- Reduce(acc)(64 by 16){ t => val ta = SRAM[Int](16); val tb = SRAM[Int](16)
--   ta load a(t::t + 16); tb load b(t::t + 16); val part = Reg[Int](0)
--   Reduce(part)(16 by 1 par 4){ i => ta(i) * tb(i) }{_ + _}
--   part }{_ + _}
-- y := acc }
unfoldable pub dot_product : PlainSyntax
dot_product = program (dram_of (codes "a") (64 ∷ []) ∷ dram_of (codes "b") (64 ∷ []) ∷ out (codes "y") ∷ []) (
    reg_from (codes "acc") 0 ∷
    here (reduce (over (by 64 16 None) (codes "t")) (body (
    sram_of (codes "ta") (16 ∷ []) ∷ sram_of (codes "tb") (16 ∷ []) ∷
    loaded (codes "ta") (codes "a") (between (var (codes "t")) (add (var (codes "t")) (num 16)) ∷ []) ∷
    loaded (codes "tb") (codes "b") (between (var (codes "t")) (add (var (codes "t")) (num 16)) ∷ []) ∷
    reg_from (codes "part") 0 ∷
    here (reduce (over (by 16 1 (lanes 0 4)) (codes "i")) no_stmt (named (codes "part"))
    (mul (at (codes "ta") (var (codes "i") ∷ [])) (at (codes "tb") (var (codes "i") ∷ []))) (plain_comb binary.Add)) ∷ []))
    (named (codes "acc")) (var (codes "part")) (plain_comb binary.Add)) ∷
    put (codes "y") (var (codes "acc")) ∷ [])

-- val d = DRAM[Int](8); val h = DRAM[Int](4); Accel { val s = SRAM[Int](8); val c = SRAM[Int](4); s load d(0::8)
-- Foreach(4 by 1){ i => c(i) = 0 }; Foreach(8 by 1){ i => val v = s(i); c(v) = c(v) + 1 }; h(0::4) store c }
unfoldable pub histogram : PlainSyntax
histogram = program (dram_of (codes "d") (8 ∷ []) ∷ dram_of (codes "h") (4 ∷ []) ∷ []) (
    sram_of (codes "s") (8 ∷ []) ∷ sram_of (codes "c") (4 ∷ []) ∷
    loaded (codes "s") (codes "d") (between (num 0) (num 8) ∷ []) ∷
    loop (by 4 1 None) (codes "i") (put_at (codes "c") (var (codes "i") ∷ []) (num 0) ∷ []) ∷
    loop (by 8 1 None) (codes "i") (
    val (codes "v") (at (codes "s") (var (codes "i") ∷ [])) ∷
    put_at (codes "c") (var (codes "v") ∷ []) (add (at (codes "c") (var (codes "v") ∷ [])) (num 1)) ∷ []) ∷
    stored (codes "h") (between (num 0) (num 4) ∷ []) (codes "c") ∷ [])

-- val img = DRAM[Int](4, 5); val res = DRAM[Int](2, 3); Accel { val lb = LineBuffer[Int](3, 5); val o = SRAM[Int](3)
-- Foreach(4 by 1){ r => lb load img(r, 0::5)
--   if (r >= 2) { Foreach(3 by 1){ c => val s = Reg[Int](0)
--       Reduce(s)(3 by 1, 3 by 1){ (i, j) => lb(i, c + j) }{_ + _}; o(c) = s }
--     res(r - 2, 0::3) store o } } }
unfoldable pub line_filter : PlainSyntax
line_filter = program (dram_of (codes "img") (4 ∷ 5 ∷ []) ∷ dram_of (codes "res") (2 ∷ 3 ∷ []) ∷ []) (
    here (line_buffer (named (codes "lb")) written.int 3 5) ∷ sram_of (codes "o") (3 ∷ []) ∷
    loop (by 4 1 None) (codes "r") (
    stmt 144 (load (named (codes "lb")) (named (codes "img")) (single (var (codes "r")) ∷ between (num 0) (num 5) ∷ [])) ∷
    here (branch (written.bin binary.Ge 0 (var (codes "r")) (num 2)) (body (
    loop (by 3 1 None) (codes "c") (
    reg_from (codes "s") 0 ∷
    here (reduce (loop_over (by 3 1 None ∷ by 3 1 None ∷ []) (named (codes "i") ∷ named (codes "j") ∷ [])) no_stmt (named (codes "s"))
    (at (codes "lb") (var (codes "i") ∷ add (var (codes "c")) (var (codes "j")) ∷ [])) (plain_comb binary.Add)) ∷
    put_at (codes "o") (var (codes "c") ∷ []) (var (codes "s")) ∷ []) ∷
    stored (codes "res") (single (sub (var (codes "r")) (num 2)) ∷ between (num 0) (num 3) ∷ []) (codes "o") ∷ [])) no_stmt) ∷ []) ∷ [])

-- val a = DRAM[Int](8); val q = DRAM[Int](4); val b = DRAM[Int](8); Accel { val p = SRAM[Int](4); val s = SRAM[Int](4)
-- p load q(0::4); s gather a(p, 4); b(p, 4) scatter s }
unfoldable pub scattered : PlainSyntax
scattered = program (dram_of (codes "a") (8 ∷ []) ∷ dram_of (codes "q") (4 ∷ []) ∷ dram_of (codes "b") (8 ∷ []) ∷ []) (
    sram_of (codes "p") (4 ∷ []) ∷ sram_of (codes "s") (4 ∷ []) ∷
    loaded (codes "p") (codes "q") (between (num 0) (num 4) ∷ []) ∷
    stmt 136 (gather (named (codes "s")) (named (codes "a")) (named (codes "p")) (num 4)) ∷
    here (scatter (named (codes "b")) (named (codes "p")) (num 4) (named (codes "s"))) ∷ [])

-- val y = ArgOut[Int]; Accel { val r = Reg[Int](0)
-- Stream { val f = FIFO[Int](2); val g = FIFO[Int](2); Foreach(8 by 1){ i => f.enq(i) }
--   Foreach(8 by 1){ i => g.enq(f.deq() * 2) }; Reduce(r)(8 by 1){ i => g.deq() }{_ + _} }
-- y := r }
unfoldable pub streamed : PlainSyntax
streamed = program (out (codes "y") ∷ []) (
    reg_from (codes "r") 0 ∷
    here (block Stream (body (
    fifo_of (codes "f") 2 ∷ fifo_of (codes "g") 2 ∷
    loop (by 8 1 None) (codes "i") (here (enq (named (codes "f")) (var (codes "i"))) ∷ []) ∷
    loop (by 8 1 None) (codes "i") (here (enq (named (codes "g")) (mul (written.take 0 (codes "f")) (num 2))) ∷ []) ∷
    here (reduce (over (by 8 1 None) (codes "i")) no_stmt (named (codes "r")) (written.take 0 (codes "g")) (plain_comb binary.Add)) ∷ []))) ∷
    put (codes "y") (var (codes "r")) ∷ [])

-- val a = DRAM[Int](8); val b = DRAM[Int](8); Accel { Foreach(8 by 4 par 2){ t => val s = SRAM[Int](4)
-- s load a(t::t + 4 par 4); b(t::t + 4) store s } }
unfoldable pub widely_copied : PlainSyntax
widely_copied = program (dram_of (codes "a") (8 ∷ []) ∷ dram_of (codes "b") (8 ∷ []) ∷ []) (
    loop (by 8 4 (lanes 0 2)) (codes "t") (
    sram_of (codes "s") (4 ∷ []) ∷
    loaded (codes "s") (codes "a") (in_lanes (var (codes "t")) (add (var (codes "t")) (num 4)) 4 ∷ []) ∷
    stored (codes "b") (between (var (codes "t")) (add (var (codes "t")) (num 4)) ∷ []) (codes "s") ∷ []) ∷ [])

-- val y = ArgOut[Int]; Accel { if (true) { val v = 1; y := v } else { val v = 2; y := v }; val v = 3; y := v }
unfoldable pub one_name : PlainSyntax
one_name = program (out (codes "y") ∷ []) (
    here (branch (written.yes 0) (body (val (codes "v") (num 1) ∷ put (codes "y") (var (codes "v")) ∷ []))
    (body (val (codes "v") (num 2) ∷ put (codes "y") (var (codes "v")) ∷ []))) ∷
    val (codes "v") (num 3) ∷ put (codes "y") (var (codes "v")) ∷ [])

-- val y = ArgOut[Int]; Accel { FSM(0)(a => a < 4){ b => val c = b; y := c }{ d => d + 1 }; val e = 5; y := e }
unfoldable pub four_values : PlainSyntax
four_values = program (out (codes "y") ∷ []) (
    here (fsm (num 0) (named (codes "a")) (written.bin binary.Lt 0 (var (codes "a")) (num 4)) (named (codes "b"))
    (body (val (codes "c") (var (codes "b")) ∷ put (codes "y") (var (codes "c")) ∷ [])) (named (codes "d")) (add (var (codes "d")) (num 1))) ∷
    val (codes "e") (num 5) ∷ put (codes "y") (var (codes "e")) ∷ [])

-- val y = ArgOut[Int]; Accel { val m = Reg[Int](9)
-- Sequential.Fold(m)(1 until 5 by 2, 4 par 2){ (i, j) => i + j }{(a, b) => min(a, b)}; y := m }
-- with places at the counters
unfoldable pub least_sum : PlainSyntax
least_sum = program (out (codes "y") ∷ []) (
    reg_from (codes "m") 9 ∷
    here (fold (record {
      style = Some Sequential;
      counters = record { from = Some (written.num 7 1); until = written.num 15 5; step = 2; par = None } ∷ written.up_to (written.num 23 4) (lanes 25 2) ∷ [];
      binds = named (codes "i") ∷ named (codes "j") ∷ [];
    })
    no_stmt (named (codes "m")) (add (var (codes "i")) (var (codes "j")))
    (named_comb binary.Min (named (codes "a")) (named (codes "b")) (named (codes "a")) (named (codes "b")))) ∷
    put (codes "y") (var (codes "m")) ∷ [])
