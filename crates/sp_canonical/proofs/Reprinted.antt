-- The canonical text of a program doesn't look at places.
use Rattle.std.proofs.Common.{◌≡◌, ℕ, suc, ◌+◌, nat_lt, Bool, true, false, if◌then◌else◌, List, [], ◌∷◌, ◌++◌, map, length, slice_index_or, codes, decimal, refl, ap, sym, ◌∙◌}
use Rattle.sp_words.specs.declared.types.Ty.{Ty}
use Rattle.sp_words.specs.declared.kind.Style.{Style}
use Rattle.sp_tree.specs.declared.statement.Comb.{Comb}
use Rattle.sp_tree.specs.Counts.{is_port}
use Rattle.sp_tree.specs.PlainExpression.{PlainExpr, PlainExprKind, PlainExprs, expr, literal, counter, value, get_reg, get_arg, get_sram, get_line, deq, one, two, shift, mux, cast, no_expr, more_expr}
use Rattle.sp_tree.specs.PlainProgram.{PlainMem, no_mem, PlainProgram}
use Rattle.sp_tree.specs.PlainStatement.{PlainSpan, single, range, PlainCounter, PlainStmtKind, PlainStmts, stmt, declare, name, set_reg, set_out, set_sram, enq, load_sram, load_line, store, gather, scatter, block, foreach, reduce, mem_reduce, fsm, branch, no_stmt, more_stmt}
use Rattle.sp_printer.specs.Body.{deeper, acc_head, reduce_word, block_head, foreach_head, reduce_head, mem_reduce_head, end_text, comb_tail, reduce_tail, mem_reduce_tail, fsm_test, fsm_head, fsm_tail, if_head, else_text, is_empty, declare_text, body_text, stmt_text, slice_text, places_text}
use Rattle.sp_printer.specs.Expressions.{op_sign, op_level, is_call, shift_sign, one_sign, operand_level, starts_with_digit, type_before_cast, parted, enclosed, level, expr_text, kind_text, list_text, whole_text}
use Rattle.sp_printer.specs.Names.{Names, names_in, mem_name, val_name, counter_name}
use Rattle.sp_printer.specs.Pieces.{mem_text, par_text, span_text, spans_text, is_zero, from_text, counter_text, counters_text, bound_names, binds_text, style_prefix, loop_head}
use Rattle.sp_printer.specs.Program.{ports_text, canonical_text}
use Rattle.sp_printer.specs.Words.{cast_text}
use Rattle.sp_retyped.specs.Bare.{bare, bare_kind, bare_all}
use Rattle.sp_retyped.specs.BareBody.{bare_span, bare_counter, bare_body, bare_stmt, bare_program}
use Rattle.sp_retyped.specs.BareMems.{bare_mem}
use Rattle.sp_canonical.proofs.Limits.{bare_at}

-- ---- memories

same_mem_text : (m : PlainMem) → mem_text (bare_mem m) ≡ mem_text m
unfolding mem_text
same_mem_text m = refl

same_length : (mems : List PlainMem) → length (map bare_mem mems) ≡ length mems
same_length [] = refl
same_length (m ∷ mems) = ap (λ n. suc n) (same_length mems)

same_ports : (mems : List PlainMem) → ports_text (map bare_mem mems) ≡ ports_text mems
same_ports [] = refl
same_ports (m ∷ rest) = let t = same_mem_text m in let more = same_ports rest in λ i. if is_port m.kind then t i ++ (codes "\n" ++ more i) else more i

-- ---- expressions

same_level : (kind : PlainExprKind) → level (bare_kind kind) ≡ level kind
same_level (literal w) = refl
same_level (counter c) = refl
same_level (value v) = refl
same_level (get_reg m) = refl
same_level (get_arg m) = refl
same_level (get_sram m indices) = refl
same_level (get_line m row column) = refl
same_level (deq m) = refl
same_level (one o a) = refl
same_level (two o a b) = refl
same_level (shift left a by) = refl
same_level (mux c a b) = refl
same_level (cast a) = refl

same_digit : (e : PlainExpr) → starts_with_digit (bare e) ≡ starts_with_digit e
same_digit (expr place ty (literal w)) = refl
same_digit (expr place ty (counter c)) = refl
same_digit (expr place ty (value v)) = refl
same_digit (expr place ty (get_reg m)) = refl
same_digit (expr place ty (get_arg m)) = refl
same_digit (expr place ty (get_sram m indices)) = refl
same_digit (expr place ty (get_line m row column)) = refl
same_digit (expr place ty (deq m)) = refl
same_digit (expr place ty (one o a)) = refl
same_digit (expr place ty (two o a b)) = refl
same_digit (expr place ty (shift left a by)) = refl
same_digit (expr place ty (mux c a b)) = refl
same_digit (expr place ty (cast a)) = same_digit a

same_before_cast : (e : PlainExpr) → type_before_cast (bare e) ≡ type_before_cast e
same_before_cast (expr place ty (literal w)) = refl
same_before_cast (expr place ty (counter c)) = refl
same_before_cast (expr place ty (value v)) = refl
same_before_cast (expr place ty (get_reg m)) = refl
same_before_cast (expr place ty (get_arg m)) = refl
same_before_cast (expr place ty (get_sram m indices)) = refl
same_before_cast (expr place ty (get_line m row column)) = refl
same_before_cast (expr place ty (deq m)) = refl
same_before_cast (expr place ty (one o a)) = refl
same_before_cast (expr place ty (two o a b)) = refl
same_before_cast (expr place ty (shift left a by)) = refl
same_before_cast (expr place ty (mux c a b)) = refl
same_before_cast (expr place ty (cast a)) = refl

same_zero : (e : PlainExpr) → is_zero (bare e) ≡ is_zero e
same_zero (expr place ty (literal w)) = refl
same_zero (expr place ty (counter c)) = refl
same_zero (expr place ty (value v)) = refl
same_zero (expr place ty (get_reg m)) = refl
same_zero (expr place ty (get_arg m)) = refl
same_zero (expr place ty (get_sram m indices)) = refl
same_zero (expr place ty (get_line m row column)) = refl
same_zero (expr place ty (deq m)) = refl
same_zero (expr place ty (one o a)) = refl
same_zero (expr place ty (two o a b)) = refl
same_zero (expr place ty (shift left a by)) = refl
same_zero (expr place ty (mux c a b)) = refl
same_zero (expr place ty (cast a)) = refl

same_empty : (body : PlainStmts) → is_empty (bare_body body) ≡ is_empty body
same_empty no_stmt = refl
same_empty (more_stmt (stmt place kind) rest) = refl

abbrev bare_names : Names → Names
bare_names names = record { mems = map bare_mem names.mems; vals = names.vals; counters = names.counters }

module _ (names : Names) where
  same_name : (m : ℕ) → mem_name (bare_names names) m ≡ mem_name names m
  same_name m = ap (λ x. x.name) (bare_at names.mems m)

  mutual
    same_expr : (least : ℕ) (e : PlainExpr) → expr_text (bare_names names) least (bare e) ≡ expr_text names least e
    same_expr least (expr place ty kind) = let l = same_level kind in let t = same_kind ty kind in λ i. enclosed (nat_lt (l i) least) (t i)

    same_kind : (ty : Ty) (kind : PlainExprKind) → kind_text (bare_names names) ty (bare_kind kind) ≡ kind_text names ty kind
    same_kind ty (literal w) = refl
    same_kind ty (counter c) = refl
    same_kind ty (value v) = refl
    same_kind ty (get_reg m) = same_name m
    same_kind ty (get_arg m) = same_name m
    same_kind ty (get_sram m indices) = let n = same_name m in let t = same_list true indices in λ i. n i ++ (codes "(" ++ (t i ++ codes ")"))
    same_kind ty (get_line m row column) =
        let n = same_name m in
        let x = same_expr 0 row in
        let y = same_expr 0 column in
        λ i. n i ++ (codes "(" ++ (x i ++ (codes ", " ++ (y i ++ codes ")"))))
    same_kind ty (deq m) = ap (λ n. n ++ codes ".deq()") (same_name m)
    same_kind ty (one o a) =
        ap (λ t. one_sign o ty ++ t) (ap (λ b. expr_text (bare_names names) (operand_level o b) (bare a)) (same_digit a) ∙ same_expr (operand_level o (starts_with_digit a)) a)
    same_kind ty (two o a b) =
        let x = same_expr 0 a in
        let y = same_expr 0 b in
        let u = same_expr (op_level o) a in
        let v = same_expr (op_level o + 1) b in
        λ i. if is_call o then op_sign o ++ (x i ++ (codes ", " ++ (y i ++ codes ")"))) else u i ++ (op_sign o ++ v i)
    same_kind ty (shift left a by) = ap (λ t. t ++ (shift_sign left ++ decimal by)) (same_expr 5 a)
    same_kind ty (mux c a b) =
        let x = same_expr 0 c in
        let y = same_expr 0 a in
        let z = same_expr 0 b in
        λ i. codes "mux(" ++ (x i ++ (codes ", " ++ (y i ++ (codes ", " ++ (z i ++ codes ")")))))
    same_kind ty (cast a) = let x = same_expr 9 a in let y = same_before_cast a in λ i. x i ++ (y i ++ cast_text ty)

    same_list : (first : Bool) (es : PlainExprs) → list_text (bare_names names) first (bare_all es) ≡ list_text names first es
    same_list first no_expr = refl
    same_list first (more_expr e rest) = let x = same_expr 0 e in let y = same_list false rest in λ i. parted first ++ (x i ++ y i)

  same_whole : (e : PlainExpr) → whole_text (bare_names names) (bare e) ≡ whole_text names e
  same_whole e = same_expr 0 e

  -- ---- slices and counters

  same_span : (s : PlainSpan) → span_text (bare_names names) (bare_span s) ≡ span_text names s
  same_span (single e) = same_whole e
  same_span (range a b par) = let x = same_whole a in let y = same_whole b in λ i. x i ++ (codes "::" ++ (y i ++ par_text par))

  same_spans : (first : Bool) (spans : List PlainSpan) → spans_text (bare_names names) first (map bare_span spans) ≡ spans_text names first spans
  same_spans first [] = refl
  same_spans first (s ∷ rest) = let x = same_span s in let y = same_spans false rest in λ i. parted first ++ (x i ++ y i)

  same_from : (e : PlainExpr) → from_text (bare_names names) (bare e) ≡ from_text names e
  same_from e = let z = same_zero e in let x = same_whole e in λ i. if z i then [] else x i ++ codes " until "

  same_counter : (c : PlainCounter) → counter_text (bare_names names) (bare_counter c) ≡ counter_text names c
  same_counter c = let x = same_from c.from in let y = same_whole c.until in λ i. x i ++ (y i ++ (codes " by " ++ (decimal c.step ++ par_text c.par)))

  same_counters : (first : Bool) (cs : List PlainCounter) → counters_text (bare_names names) first (map bare_counter cs) ≡ counters_text names first cs
  same_counters first [] = refl
  same_counters first (c ∷ rest) = let x = same_counter c in let y = same_counters false rest in λ i. parted first ++ (x i ++ y i)

  same_bound : (first : Bool) (cs : List PlainCounter) → bound_names (bare_names names) first (map bare_counter cs) ≡ bound_names names first cs
  same_bound first [] = refl
  same_bound first (c ∷ rest) = ap (λ t. parted first ++ (counter_name names c.number ++ t)) (same_bound false rest)

  same_binds : (cs : List PlainCounter) → binds_text (bare_names names) (map bare_counter cs) ≡ binds_text names cs
  same_binds [] = refl
  same_binds (c ∷ []) = refl
  same_binds (c ∷ d ∷ rest) = ap (λ t. codes "(" ++ (t ++ codes ")")) (same_bound true (c ∷ d ∷ rest))

  same_loop : (cs : List PlainCounter) → loop_head (bare_names names) (map bare_counter cs) ≡ loop_head names cs
  unfolding loop_head
  same_loop cs = let x = same_counters true cs in let y = same_binds cs in λ i. codes "(" ++ (x i ++ (codes "){ " ++ (y i ++ (codes " =>" ++ codes "\n"))))

  -- ---- statements

  same_acc : (acc : ℕ) → acc_head (bare_names names) acc ≡ acc_head names acc
  unfolding acc_head
  same_acc acc = ap (λ n. codes "(" ++ (n ++ codes ")")) (same_name acc)

  same_foreach : (s : Style) (cs : List PlainCounter) → foreach_head (bare_names names) s (map bare_counter cs) ≡ foreach_head names s cs
  unfolding foreach_head
  same_foreach s cs = ap (λ t. style_prefix s ++ (codes "Foreach" ++ t)) (same_loop cs)

  same_reduce : (s : Style) (fold : Bool) (acc : ℕ) (cs : List PlainCounter) → reduce_head (bare_names names) s fold acc (map bare_counter cs) ≡ reduce_head names s fold acc cs
  unfolding reduce_head
  same_reduce s fold acc cs = let x = same_acc acc in let y = same_loop cs in λ i. style_prefix s ++ (reduce_word fold ++ (x i ++ y i))

  same_mem_reduce : (s : Style) (acc : ℕ) (cs : List PlainCounter) → mem_reduce_head (bare_names names) s acc (map bare_counter cs) ≡ mem_reduce_head names s acc cs
  unfolding mem_reduce_head
  same_mem_reduce s acc cs = let x = same_acc acc in let y = same_loop cs in λ i. style_prefix s ++ (codes "MemReduce" ++ (x i ++ y i))

  same_reduce_tail : (margin : List ℕ) (word : PlainExpr) (c : Comb) → reduce_tail (bare_names names) margin (bare word) c ≡ reduce_tail names margin word c
  unfolding reduce_tail
  same_reduce_tail margin word c = ap (λ t. deeper margin ++ (t ++ comb_tail margin c)) (same_whole word)

  same_mem_tail : (margin : List ℕ) (part : ℕ) (c : Comb) → mem_reduce_tail (bare_names names) margin part c ≡ mem_reduce_tail names margin part c
  unfolding mem_reduce_tail
  same_mem_tail margin part c = ap (λ t. deeper margin ++ (t ++ comb_tail margin c)) (same_name part)

  same_test : (tested : ℕ) (test : PlainExpr) → fsm_test (bare_names names) tested (bare test) ≡ fsm_test names tested test
  unfolding fsm_test
  same_test tested test = ap (λ t. codes "(" ++ (val_name names tested ++ (codes " => " ++ (t ++ codes "){ ")))) (same_whole test)

  same_fsm : (start : PlainExpr) (tested : ℕ) (test : PlainExpr) (state : ℕ) → fsm_head (bare_names names) (bare start) tested (bare test) state ≡ fsm_head names start tested test state
  unfolding fsm_head
  same_fsm start tested test state =
      let x = same_whole start in
      let y = same_test tested test in
      λ i. codes "FSM(" ++ (x i ++ (codes ")" ++ (y i ++ (val_name names state ++ (codes " =>" ++ codes "\n")))))

  same_next : (last : ℕ) (next : PlainExpr) → fsm_tail (bare_names names) last (bare next) ≡ fsm_tail names last next
  unfolding fsm_tail
  same_next last next = ap (λ t. codes "}{ " ++ (val_name names last ++ (codes " => " ++ (t ++ codes " }")))) (same_whole next)

  same_if : (test : PlainExpr) → if_head (bare_names names) (bare test) ≡ if_head names test
  unfolding if_head
  same_if test = ap (λ t. codes "if (" ++ (t ++ (codes ") {" ++ codes "\n"))) (same_whole test)

  same_slice : (dram : ℕ) (spans : List PlainSpan) → slice_text (bare_names names) dram (map bare_span spans) ≡ slice_text names dram spans
  same_slice dram spans = let n = same_name dram in let t = same_spans true spans in λ i. n i ++ (codes "(" ++ (t i ++ codes ")"))

  same_places : (dram places : ℕ) (count : PlainExpr) → places_text (bare_names names) dram places (bare count) ≡ places_text names dram places count
  same_places dram places count =
      let n = same_name dram in
      let at = same_name places in
      let t = same_whole count in
      λ i. n i ++ (codes "(" ++ (at i ++ (codes ", " ++ (t i ++ codes ")"))))

  same_set : (m : ℕ) (e : PlainExpr) → mem_name (bare_names names) m ++ (codes " := " ++ whole_text (bare_names names) (bare e)) ≡ mem_name names m ++ (codes " := " ++ whole_text names e)
  same_set m e = let n = same_name m in let t = same_whole e in λ i. n i ++ (codes " := " ++ t i)

  same_declared : (m : ℕ) → declare_text (map bare_mem names.mems) m ≡ declare_text names.mems m
  same_declared m =
      let n = same_length names.mems in
      let t = ap mem_text (bare_at names.mems m) ∙ same_mem_text (slice_index_or names.mems m no_mem) in
      λ i. if nat_lt m (n i) then t i else []

  mutual
    same_body : (margin : List ℕ) (body : PlainStmts) → body_text (bare_names names) margin (bare_body body) ≡ body_text names margin body
    same_body margin no_stmt = refl
    same_body margin (more_stmt (stmt place kind) rest) = let x = same_stmt margin kind in let y = same_body margin rest in λ i. margin ++ (x i ++ (codes "\n" ++ y i))

    same_stmt : (margin : List ℕ) (kind : PlainStmtKind) → stmt_text (bare_names names) margin (bare_stmt kind) ≡ stmt_text names margin kind
    same_stmt margin (declare m) = same_declared m
    same_stmt margin (name v e) = ap (λ t. codes "val " ++ (val_name names v ++ (codes " = " ++ t))) (same_whole e)
    same_stmt margin (set_reg m e) = same_set m e
    same_stmt margin (set_out m e) = same_set m e
    same_stmt margin (set_sram m indices e) =
        let n = same_name m in
        let x = same_list true indices in
        let y = same_whole e in
        λ i. n i ++ (codes "(" ++ (x i ++ (codes ") = " ++ y i)))
    same_stmt margin (enq m e) = let n = same_name m in let t = same_whole e in λ i. n i ++ (codes ".enq(" ++ (t i ++ codes ")"))
    same_stmt margin (load_sram sram dram spans) = let n = same_name sram in let t = same_slice dram spans in λ i. n i ++ (codes " load " ++ t i)
    same_stmt margin (load_line line dram spans) = let n = same_name line in let t = same_slice dram spans in λ i. n i ++ (codes " load " ++ t i)
    same_stmt margin (store dram spans sram) = let n = same_name sram in let t = same_slice dram spans in λ i. t i ++ (codes " store " ++ n i)
    same_stmt margin (gather sram dram places count) = let n = same_name sram in let t = same_places dram places count in λ i. n i ++ (codes " gather " ++ t i)
    same_stmt margin (scatter dram places count sram) = let n = same_name sram in let t = same_places dram places count in λ i. t i ++ (codes " scatter " ++ n i)
    same_stmt margin (block style body) = ap (λ t. block_head style ++ (t ++ end_text margin)) (same_body (deeper margin) body)
    same_stmt margin (foreach style counters body) = let h = same_foreach style counters in let t = same_body (deeper margin) body in λ i. h i ++ (t i ++ end_text margin)
    same_stmt margin (reduce style fold acc counters body word c) =
        let h = same_reduce style fold acc counters in
        let t = same_body (deeper margin) body in
        let l = same_reduce_tail margin word c in
        λ i. h i ++ (t i ++ l i)
    same_stmt margin (mem_reduce style acc counters body part c) =
        let h = same_mem_reduce style acc counters in
        let t = same_body (deeper margin) body in
        let l = same_mem_tail margin part c in
        λ i. h i ++ (t i ++ l i)
    same_stmt margin (fsm start tested test state body last next) =
        let h = same_fsm start tested test state in
        let t = same_body (deeper margin) body in
        let l = same_next last next in
        λ i. h i ++ (t i ++ (margin ++ l i))
    same_stmt margin (branch test first second) =
        let h = same_if test in
        let x = same_body (deeper margin) first in
        let e = same_empty second in
        let y = same_body (deeper margin) second in
        λ i. h i ++ (x i ++ (else_text margin (e i) ++ (y i ++ end_text margin)))

-- the text of a program is that of the program without its places
same_text : (p : PlainProgram) → canonical_text (bare_program p) ≡ canonical_text p
same_text p =
    let x = same_ports p.mems in
    let y = same_body (names_in p) (codes "  ") p.body in
    λ i. x i ++ (codes "Accel {" ++ (codes "\n" ++ (y i ++ (codes "}" ++ codes "\n"))))

pub one_text : (p q : PlainProgram) → bare_program p ≡ bare_program q → canonical_text p ≡ canonical_text q
one_text p q e = sym (same_text p) ∙ ap (λ r. canonical_text r) e ∙ same_text q
