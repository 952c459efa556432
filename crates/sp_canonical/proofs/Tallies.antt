-- What stands in an expression or in a statement doesn't look at places.
use Rattle.std.proofs.Common.{◌≡◌, ◌*◌, ◌&&◌, true, false, if◌then◌else◌, List, [], ◌∷◌, map, Some, None, refl, ap, ap₂}
use Rattle.sp_tree.specs.PlainExpression.{PlainExpr, PlainExprKind, PlainExprs, expr, literal, counter, value, get_reg, get_arg, get_sram, get_line, deq, one, two, shift, mux, cast, no_expr, more_expr}
use Rattle.sp_tree.specs.PlainStatement.{PlainSpan, single, range, PlainCounter, PlainStmtKind, PlainStmts, stmt, declare, name, set_reg, set_out, set_sram, enq, load_sram, load_line, store, gather, scatter, block, foreach, reduce, mem_reduce, fsm, branch, no_stmt, more_stmt}
use Rattle.sp_tree.specs.Streams.{all_tallies, body_tally, stream_stage, is_declaration, are_stages, stream_stages}
use Rattle.sp_tree.specs.Structure.{own_mems, lanes_of, slice_lanes, is_inner, outside}
use Rattle.sp_tree.specs.Tallies.{nothing, ◌&◌, an_operation, a_read, a_write, a_put, tally, kind_tally, tallies, span_tally, slice_tally, bound_tallies, primitive}
use Rattle.sp_retyped.specs.Bare.{bare, bare_kind, bare_all}
use Rattle.sp_retyped.specs.BareBody.{bare_span, bare_counter, bare_body, bare_stmt}

-- ---- expressions

mutual
  pub same_tally : (e : PlainExpr) → tally (bare e) ≡ tally e
  same_tally (expr place ty kind) = ap (λ t. record nothing { nodes = 1 } & t) (same_kind kind)

  same_kind : (kind : PlainExprKind) → kind_tally (bare_kind kind) ≡ kind_tally kind
  same_kind (literal w) = refl
  same_kind (counter c) = refl
  same_kind (value v) = refl
  same_kind (get_reg m) = refl
  same_kind (get_arg m) = refl
  same_kind (get_sram m indices) = ap (λ t. t & a_read true m) (same_tallies indices)
  same_kind (get_line m row column) = ap₂ (λ s t. s & t & a_read true m) (same_tally row) (same_tally column)
  same_kind (deq m) = refl
  same_kind (one op a) = ap (λ t. t & an_operation) (same_tally a)
  same_kind (two op a b) = ap₂ (λ s t. s & t & an_operation) (same_tally a) (same_tally b)
  same_kind (shift left a by) = ap (λ t. t & an_operation) (same_tally a)
  same_kind (mux c a b) = let x = same_tally c in let y = same_tally a in let z = same_tally b in λ i. x i & y i & z i & an_operation
  same_kind (cast a) = ap (λ t. t & an_operation) (same_tally a)

  pub same_tallies : (es : PlainExprs) → tallies (bare_all es) ≡ tallies es
  same_tallies no_expr = refl
  same_tallies (more_expr e rest) = ap₂ (λ s t. s & t) (same_tally e) (same_tallies rest)

-- ---- slices and counters

same_span : (s : PlainSpan) → span_tally (bare_span s) ≡ span_tally s
same_span (single e) = same_tally e
same_span (range a b par) = ap₂ (λ s t. s & t) (same_tally a) (same_tally b)

pub same_slice : (spans : List PlainSpan) → slice_tally (map bare_span spans) ≡ slice_tally spans
same_slice [] = refl
same_slice (s ∷ spans) = ap₂ (λ x y. x & y) (same_span s) (same_slice spans)

pub same_slice_lanes : (spans : List PlainSpan) → slice_lanes (map bare_span spans) ≡ slice_lanes spans
same_slice_lanes [] = refl
same_slice_lanes (single e ∷ spans) = same_slice_lanes spans
same_slice_lanes (range a b par ∷ spans) = ap (λ n. par * n) (same_slice_lanes spans)

pub same_bounds : (counters : List PlainCounter) → bound_tallies (map bare_counter counters) ≡ bound_tallies counters
same_bounds [] = refl
same_bounds (c ∷ counters) = let x = same_tally c.from in let y = same_tally c.until in let z = same_bounds counters in λ i. x i ∷ y i ∷ z i

pub same_lanes : (counters : List PlainCounter) → lanes_of (map bare_counter counters) ≡ lanes_of counters
same_lanes [] = refl
same_lanes (c ∷ counters) = ap (λ n. c.par * n) (same_lanes counters)

-- ---- statements

pub same_primitive : (kind : PlainStmtKind) → primitive (bare_stmt kind) ≡ primitive kind
same_primitive (declare m) = refl
same_primitive (name v e) = ap (λ t. Some t) (same_tally e)
same_primitive (set_reg m e) = ap (λ t. Some (t & a_write m)) (same_tally e)
same_primitive (set_out m e) = ap (λ t. Some (t & a_write m)) (same_tally e)
same_primitive (set_sram m indices e) = ap₂ (λ s t. Some (s & t & a_write m)) (same_tallies indices) (same_tally e)
same_primitive (enq m e) = ap (λ t. Some (t & a_put m)) (same_tally e)
same_primitive (load_sram sram dram spans) = refl
same_primitive (load_line line dram spans) = refl
same_primitive (store dram spans sram) = refl
same_primitive (gather sram dram places count) = refl
same_primitive (scatter dram places count sram) = refl
same_primitive (block style body) = refl
same_primitive (foreach style counters body) = refl
same_primitive (reduce style fold acc counters body word comb) = refl
same_primitive (mem_reduce style acc counters body part comb) = refl
same_primitive (fsm start tested test state body last next) = refl
same_primitive (branch test first second) = refl

pub same_outside : (kind : PlainStmtKind) → outside (bare_stmt kind) ≡ outside kind
same_outside (load_sram sram dram spans) = ap (λ t. t ∷ []) (same_slice spans)
same_outside (load_line line dram spans) = ap (λ t. t ∷ []) (same_slice spans)
same_outside (store dram spans sram) = ap (λ t. t ∷ []) (same_slice spans)
same_outside (gather sram dram places count) = ap (λ t. t ∷ []) (same_tally count)
same_outside (scatter dram places count sram) = ap (λ t. t ∷ []) (same_tally count)
same_outside (foreach style counters body) = same_bounds counters
same_outside (reduce style fold acc counters body word comb) = same_bounds counters
same_outside (mem_reduce style acc counters body part comb) = same_bounds counters
same_outside (declare m) = refl
same_outside (name v e) = refl
same_outside (set_reg m e) = refl
same_outside (set_out m e) = refl
same_outside (set_sram m indices e) = refl
same_outside (enq m e) = refl
same_outside (block style body) = refl
same_outside (fsm start tested test state body last next) = refl
same_outside (branch test first second) = refl

pub same_inner : (body : PlainStmts) → is_inner (bare_body body) ≡ is_inner body
same_inner no_stmt = refl
same_inner (more_stmt (stmt place kind) rest) = let t = same_primitive kind in let more = same_inner rest in λ i. elim (t i) [ Some u ↦ more i | None ↦ false ]

pub same_own : (body : PlainStmts) → own_mems (bare_body body) ≡ own_mems body
same_own no_stmt = refl
same_own (more_stmt (stmt place (declare m)) rest) = ap (λ ms. m ∷ ms) (same_own rest)
same_own (more_stmt (stmt place (name v e)) rest) = same_own rest
same_own (more_stmt (stmt place (set_reg m e)) rest) = same_own rest
same_own (more_stmt (stmt place (set_out m e)) rest) = same_own rest
same_own (more_stmt (stmt place (set_sram m indices e)) rest) = same_own rest
same_own (more_stmt (stmt place (enq m e)) rest) = same_own rest
same_own (more_stmt (stmt place (load_sram sram dram spans)) rest) = same_own rest
same_own (more_stmt (stmt place (load_line line dram spans)) rest) = same_own rest
same_own (more_stmt (stmt place (store dram spans sram)) rest) = same_own rest
same_own (more_stmt (stmt place (gather sram dram places count)) rest) = same_own rest
same_own (more_stmt (stmt place (scatter dram places count sram)) rest) = same_own rest
same_own (more_stmt (stmt place (block style body)) rest) = same_own rest
same_own (more_stmt (stmt place (foreach style counters body)) rest) = same_own rest
same_own (more_stmt (stmt place (reduce style fold acc counters body word comb)) rest) = same_own rest
same_own (more_stmt (stmt place (mem_reduce style acc counters body part comb)) rest) = same_own rest
same_own (more_stmt (stmt place (fsm start tested test state body last next)) rest) = same_own rest
same_own (more_stmt (stmt place (branch test first second)) rest) = same_own rest

-- ---- stages of a block

same_body : (body : PlainStmts) → body_tally (bare_body body) ≡ body_tally body
same_body no_stmt = refl
same_body (more_stmt (stmt place kind) rest) = let t = same_primitive kind in let more = same_body rest in λ i. elim (t i) [ Some u ↦ u & more i | None ↦ more i ]

same_stage : (kind : PlainStmtKind) → stream_stage (bare_stmt kind) ≡ stream_stage kind
same_stage (foreach style counters body) =
    let inner = same_inner body in
    let bounds = same_bounds counters in
    let whole = same_body body in
    λ i. if inner i then Some (record { bounds = all_tallies (bounds i); whole = all_tallies (bounds i) & whole i }) else None
same_stage (reduce style fold acc counters body word comb) =
    let inner = same_inner body in
    let bounds = same_bounds counters in
    let whole = same_body body in
    let last = same_tally word in
    λ i. if inner i then Some (record { bounds = all_tallies (bounds i); whole = all_tallies (bounds i) & whole i & last i & a_write acc }) else None
same_stage (declare m) = refl
same_stage (name v e) = refl
same_stage (set_reg m e) = refl
same_stage (set_out m e) = refl
same_stage (set_sram m indices e) = refl
same_stage (enq m e) = refl
same_stage (load_sram sram dram spans) = refl
same_stage (load_line line dram spans) = refl
same_stage (store dram spans sram) = refl
same_stage (gather sram dram places count) = refl
same_stage (scatter dram places count sram) = refl
same_stage (block style body) = refl
same_stage (mem_reduce style acc counters body part comb) = refl
same_stage (fsm start tested test state body last next) = refl
same_stage (branch test first second) = refl

same_declaration : (kind : PlainStmtKind) → is_declaration (bare_stmt kind) ≡ is_declaration kind
same_declaration (declare m) = refl
same_declaration (name v e) = refl
same_declaration (set_reg m e) = refl
same_declaration (set_out m e) = refl
same_declaration (set_sram m indices e) = refl
same_declaration (enq m e) = refl
same_declaration (load_sram sram dram spans) = refl
same_declaration (load_line line dram spans) = refl
same_declaration (store dram spans sram) = refl
same_declaration (gather sram dram places count) = refl
same_declaration (scatter dram places count sram) = refl
same_declaration (block style body) = refl
same_declaration (foreach style counters body) = refl
same_declaration (reduce style fold acc counters body word comb) = refl
same_declaration (mem_reduce style acc counters body part comb) = refl
same_declaration (fsm start tested test state body last next) = refl
same_declaration (branch test first second) = refl

pub same_are_stages : (body : PlainStmts) → are_stages (bare_body body) ≡ are_stages body
same_are_stages no_stmt = refl
same_are_stages (more_stmt (stmt place kind) rest) =
    let t = same_stage kind in
    let d = same_declaration kind in
    let more = same_are_stages rest in
    λ i. elim (t i) [ Some s ↦ more i | None ↦ d i && more i ]

pub same_stages : (body : PlainStmts) → stream_stages (bare_body body) ≡ stream_stages body
same_stages no_stmt = refl
same_stages (more_stmt (stmt place kind) rest) = let t = same_stage kind in let more = same_stages rest in λ i. elim (t i) [ Some s ↦ s ∷ more i | None ↦ more i ]
