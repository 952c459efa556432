-- The counts of a program don't look at places.
use Rattle.std.proofs.Common.{◌≡◌, ℕ, ◌+◌, ◌*◌, max, ◌==◌, ◌&&◌, not, if◌then◌else◌, List, [], ◌∷◌, ◌++◌, map, Some, None, refl, ap, ap₂, ◌∙◌}
use Rattle.std.specs.Prelude.{sum_by, flat_map, fold}
use Rattle.sp_tree.specs.Counts.{nodes_in, kind_nodes, lanes_in, kind_lanes, a_run, a_part, a_combination, pieces, inner_pieces, loop_stages, reduce_stages, copies_in, kind_copies}
use Rattle.sp_tree.specs.PlainExpression.{PlainExpr}
use Rattle.sp_tree.specs.PlainStatement.{PlainCounter, PlainStmtKind, PlainStmts, stmt, declare, name, set_reg, set_out, set_sram, enq, load_sram, load_line, store, gather, scatter, block, foreach, reduce, mem_reduce, fsm, branch, no_stmt, more_stmt}
use Rattle.sp_tree.specs.Structure.{lanes_of, stages_before, uses_inside, body_uses, inside, inner_stage, stages}
use Rattle.sp_tree.specs.Tallies.{Tally, nothing, ◌&◌, uses_of, tally}
use Rattle.sp_retyped.specs.Bare.{bare}
use Rattle.sp_retyped.specs.BareBody.{bare_counter, bare_body, bare_stmt}
use Rattle.sp_canonical.proofs.Tallies.{same_tally, same_slice_lanes, same_lanes, same_primitive, same_outside, same_inner}

-- ---- statements and expressions

mutual
  pub same_nodes : (body : PlainStmts) → nodes_in (bare_body body) ≡ nodes_in body
  same_nodes no_stmt = refl
  same_nodes (more_stmt (stmt place kind) rest) =
      let out = same_outside kind in
      let mine = same_kind_nodes kind in
      let more = same_nodes rest in
      λ i. 1 + sum_by (λ (t : Tally). t.nodes) (out i) + mine i + more i

  same_kind_nodes : (kind : PlainStmtKind) → kind_nodes (bare_stmt kind) ≡ kind_nodes kind
  same_kind_nodes (block style body) = same_nodes body
  same_kind_nodes (foreach style counters body) = same_nodes body
  same_kind_nodes (reduce style fold acc counters body word comb) = let x = same_nodes body in let y = same_tally word in λ i. x i + (y i).nodes
  same_kind_nodes (mem_reduce style acc counters body part comb) = same_nodes body
  same_kind_nodes (fsm start tested test state body last next) =
      let x = same_tally start in
      let y = same_tally test in
      let z = same_tally next in
      let inner = same_nodes body in
      λ i. (x i & y i & z i).nodes + inner i
  same_kind_nodes (branch test first second) = let x = same_tally test in let y = same_nodes first in let z = same_nodes second in λ i. (x i).nodes + y i + z i
  same_kind_nodes (declare m) = refl
  same_kind_nodes (name v e) = let t = same_primitive (name v e) in λ i. elim (t i) [ Some u ↦ u.nodes | None ↦ 0 ]
  same_kind_nodes (set_reg m e) = let t = same_primitive (set_reg m e) in λ i. elim (t i) [ Some u ↦ u.nodes | None ↦ 0 ]
  same_kind_nodes (set_out m e) = let t = same_primitive (set_out m e) in λ i. elim (t i) [ Some u ↦ u.nodes | None ↦ 0 ]
  same_kind_nodes (set_sram m indices e) = let t = same_primitive (set_sram m indices e) in λ i. elim (t i) [ Some u ↦ u.nodes | None ↦ 0 ]
  same_kind_nodes (enq m e) = let t = same_primitive (enq m e) in λ i. elim (t i) [ Some u ↦ u.nodes | None ↦ 0 ]
  same_kind_nodes (load_sram sram dram spans) = refl
  same_kind_nodes (load_line line dram spans) = refl
  same_kind_nodes (store dram spans sram) = refl
  same_kind_nodes (gather sram dram places count) = refl
  same_kind_nodes (scatter dram places count sram) = refl

-- ---- lanes

mutual
  pub same_lanes_in : (body : PlainStmts) (around : ℕ) → lanes_in (bare_body body) around ≡ lanes_in body around
  same_lanes_in no_stmt around = refl
  same_lanes_in (more_stmt (stmt place kind) rest) around = ap₂ max (same_kind_lanes kind around) (same_lanes_in rest around)

  same_kind_lanes : (kind : PlainStmtKind) (around : ℕ) → kind_lanes (bare_stmt kind) around ≡ kind_lanes kind around
  same_kind_lanes (load_sram sram dram spans) around = ap (λ n. around * n) (same_slice_lanes spans)
  same_kind_lanes (load_line line dram spans) around = ap (λ n. around * n) (same_slice_lanes spans)
  same_kind_lanes (store dram spans sram) around = ap (λ n. around * n) (same_slice_lanes spans)
  same_kind_lanes (block style body) around = same_lanes_in body around
  same_kind_lanes (foreach style counters body) around = ap (λ n. lanes_in (bare_body body) (around * n)) (same_lanes counters) ∙ same_lanes_in body (around * lanes_of counters)
  same_kind_lanes (reduce style fold acc counters body word comb) around = ap (λ n. lanes_in (bare_body body) (around * n)) (same_lanes counters) ∙ same_lanes_in body (around * lanes_of counters)
  same_kind_lanes (mem_reduce style acc counters body part comb) around = ap (λ n. lanes_in (bare_body body) (around * n)) (same_lanes counters) ∙ same_lanes_in body (around * lanes_of counters)
  same_kind_lanes (fsm start tested test state body last next) around = same_lanes_in body around
  same_kind_lanes (branch test first second) around = ap₂ max (same_lanes_in first around) (same_lanes_in second around)
  same_kind_lanes (declare m) around = refl
  same_kind_lanes (name v e) around = refl
  same_kind_lanes (set_reg m e) around = refl
  same_kind_lanes (set_out m e) around = refl
  same_kind_lanes (set_sram m indices e) around = refl
  same_kind_lanes (enq m e) around = refl
  same_kind_lanes (gather sram dram places count) around = refl
  same_kind_lanes (scatter dram places count sram) around = refl

-- ---- pieces

mutual
  pub same_pieces : (body : PlainStmts) (lanes : ℕ) (before tail : Tally) → pieces (bare_body body) lanes before tail ≡ pieces body lanes before tail
  same_pieces no_stmt lanes before tail = refl
  same_pieces (more_stmt (stmt place kind) rest) lanes before tail =
      let t = same_primitive kind in
      let out = same_outside kind in
      let inner = same_inner_pieces kind lanes in
      let more = λ (before : Tally). same_pieces rest lanes before tail in
      λ i. elim (t i) [ Some u ↦ more (before & u) i | None ↦ a_run lanes before ∷ map (a_part lanes) (out i) ++ inner i ++ more nothing i ]

  same_inner_pieces : (kind : PlainStmtKind) (lanes : ℕ) → inner_pieces (bare_stmt kind) lanes ≡ inner_pieces kind lanes
  same_inner_pieces (load_sram sram dram spans) lanes = refl
  same_inner_pieces (load_line line dram spans) lanes = refl
  same_inner_pieces (store dram spans sram) lanes = refl
  same_inner_pieces (gather sram dram places count) lanes = refl
  same_inner_pieces (scatter dram places count sram) lanes = refl
  same_inner_pieces (block style body) lanes = same_pieces body lanes nothing nothing
  same_inner_pieces (foreach style counters body) lanes = ap (λ n. pieces (bare_body body) (lanes * n) nothing nothing) (same_lanes counters) ∙ same_pieces body (lanes * lanes_of counters) nothing nothing
  same_inner_pieces (reduce style fold acc counters body word comb) lanes =
      let inner = same_inner body in
      let n = same_lanes counters in
      let last = same_tally word in
      let apart = same_pieces body lanes nothing nothing in
      let joined = ap₂ (λ n t. pieces (bare_body body) (lanes * n) nothing t) n last ∙ same_pieces body (lanes * lanes_of counters) nothing (tally word) in
      λ i. if not (inner i) && (n i == 1) then apart i ++ a_run lanes (last i) ∷ [] else joined i
  same_inner_pieces (mem_reduce style acc counters body part comb) lanes =
      ap (λ ps. ps ++ a_combination lanes (acc ∷ part ∷ []) ∷ []) (ap (λ n. pieces (bare_body body) (lanes * n) nothing nothing) (same_lanes counters) ∙ same_pieces body (lanes * lanes_of counters) nothing nothing)
  same_inner_pieces (fsm start tested test state body last next) lanes =
      let x = same_tally start in
      let y = same_tally test in
      let z = same_tally next in
      let inner = same_pieces body lanes nothing nothing in
      λ i. a_part lanes (x i) ∷ a_part lanes (y i) ∷ a_part lanes (z i) ∷ inner i
  same_inner_pieces (branch test first second) lanes =
      let x = same_tally test in
      let y = same_pieces first lanes nothing nothing in
      let z = same_pieces second lanes nothing nothing in
      λ i. a_part lanes (x i) ∷ y i ++ z i
  same_inner_pieces (declare m) lanes = refl
  same_inner_pieces (name v e) lanes = refl
  same_inner_pieces (set_reg m e) lanes = refl
  same_inner_pieces (set_out m e) lanes = refl
  same_inner_pieces (set_sram m indices e) lanes = refl
  same_inner_pieces (enq m e) lanes = refl

-- ---- stages

mutual
  same_uses : (body : PlainStmts) → body_uses (bare_body body) ≡ body_uses body
  same_uses no_stmt = refl
  same_uses (more_stmt (stmt place kind) rest) =
      let t = same_primitive kind in
      let out = same_outside kind in
      let inner = same_inside kind in
      let more = same_uses rest in
      λ i. elim (t i) [ Some u ↦ uses_of u | None ↦ [] ] ++ flat_map uses_of (out i) ++ inner i ++ more i

  same_inside : (kind : PlainStmtKind) → inside (bare_stmt kind) ≡ inside kind
  same_inside (load_sram sram dram spans) = refl
  same_inside (load_line line dram spans) = refl
  same_inside (store dram spans sram) = refl
  same_inside (gather sram dram places count) = refl
  same_inside (scatter dram places count sram) = refl
  same_inside (block style body) = same_uses body
  same_inside (foreach style counters body) = same_uses body
  same_inside (reduce style fold acc counters body word comb) = let x = same_uses body in let y = same_tally word in λ i. acc ∷ x i ++ uses_of (y i)
  same_inside (mem_reduce style acc counters body part comb) = ap (λ ms. acc ∷ part ∷ ms) (same_uses body)
  same_inside (fsm start tested test state body last next) =
      let x = same_tally start in
      let y = same_tally test in
      let z = same_tally next in
      let inner = same_uses body in
      λ i. uses_of (x i & y i & z i) ++ inner i
  same_inside (branch test first second) = let x = same_tally test in let y = same_uses first in let z = same_uses second in λ i. uses_of (x i) ++ y i ++ z i
  same_inside (declare m) = refl
  same_inside (name v e) = refl
  same_inside (set_reg m e) = refl
  same_inside (set_out m e) = refl
  same_inside (set_sram m indices e) = refl
  same_inside (enq m e) = refl

same_lists : (body : PlainStmts) (before tail : Tally) → stages (bare_body body) before tail ≡ stages body before tail
same_lists no_stmt before tail = refl
same_lists (more_stmt (stmt place kind) rest) before tail =
    let t = same_primitive kind in
    let out = same_outside kind in
    let inner = same_inside kind in
    let more = λ (before : Tally). same_lists rest before tail in
    λ i. elim (t i) [ Some u ↦ more (before & u) i | None ↦ inner_stage before ++ stages_before (out i) ++ (uses_inside (out i) ++ inner i) ∷ more nothing i ]

same_loop_stages : (body : PlainStmts) (s t : Tally) (e f : List (List ℕ)) → s ≡ t → e ≡ f → loop_stages (bare_body body) s e ≡ loop_stages body t f
same_loop_stages body s t e f same ends =
    let inner = same_inner body in
    let all = ap (λ u. stages (bare_body body) nothing u) same ∙ same_lists body nothing t in
    λ i. if inner i then [] else all i ++ ends i

same_reduce_stages : (body : PlainStmts) (counters : List PlainCounter) (acc : ℕ) (word : PlainExpr) → reduce_stages (bare_body body) (map bare_counter counters) acc (bare word) ≡ reduce_stages body counters acc word
same_reduce_stages body counters acc word =
    let n = same_lanes counters in
    let last = same_tally word in
    let ends = ap (λ t. (acc ∷ uses_of t) ∷ []) last in
    let apart = same_loop_stages body nothing nothing ((acc ∷ uses_of (tally (bare word))) ∷ []) ((acc ∷ uses_of (tally word)) ∷ []) refl ends in
    let joined = same_loop_stages body (tally (bare word)) (tally word) ((acc ∷ []) ∷ []) ((acc ∷ []) ∷ []) last refl in
    λ i. if n i == 1 then apart i else joined i

-- ---- copies

mutual
  pub same_copies : (body : PlainStmts) (lanes : ℕ) (all : List (List ℕ)) → copies_in (bare_body body) lanes all ≡ copies_in body lanes all
  same_copies no_stmt lanes all = refl
  same_copies (more_stmt (stmt place kind) rest) lanes all = ap₂ (λ x y. x ++ y) (same_kind_copies kind lanes all) (same_copies rest lanes all)

  same_kind_copies : (kind : PlainStmtKind) (lanes : ℕ) (all : List (List ℕ)) → kind_copies (bare_stmt kind) lanes all ≡ kind_copies kind lanes all
  same_kind_copies (declare m) lanes all = refl
  same_kind_copies (block style body) lanes all = same_copies body lanes []
  same_kind_copies (foreach style counters body) lanes all =
      ap₂ (λ n s. copies_in (bare_body body) (lanes * n) s) (same_lanes counters) (same_loop_stages body nothing nothing [] [] refl refl) ∙ same_copies body (lanes * lanes_of counters) (loop_stages body nothing [])
  same_kind_copies (reduce style fold acc counters body word comb) lanes all =
      ap₂ (λ n s. copies_in (bare_body body) (lanes * n) s) (same_lanes counters) (same_reduce_stages body counters acc word) ∙ same_copies body (lanes * lanes_of counters) (reduce_stages body counters acc word)
  same_kind_copies (mem_reduce style acc counters body part comb) lanes all =
      ap₂ (λ n s. copies_in (bare_body body) (lanes * n) (s ++ (acc ∷ part ∷ []) ∷ [])) (same_lanes counters) (same_lists body nothing nothing)
      ∙ same_copies body (lanes * lanes_of counters) (stages body nothing nothing ++ (acc ∷ part ∷ []) ∷ [])
  same_kind_copies (fsm start tested test state body last next) lanes all = same_copies body lanes []
  same_kind_copies (branch test first second) lanes all = ap₂ (λ x y. x ++ y) (same_copies first lanes []) (same_copies second lanes [])
  same_kind_copies (name v e) lanes all = refl
  same_kind_copies (set_reg m e) lanes all = refl
  same_kind_copies (set_out m e) lanes all = refl
  same_kind_copies (set_sram m indices e) lanes all = refl
  same_kind_copies (enq m e) lanes all = refl
  same_kind_copies (load_sram sram dram spans) lanes all = refl
  same_kind_copies (load_line line dram spans) lanes all = refl
  same_kind_copies (store dram spans sram) lanes all = refl
  same_kind_copies (gather sram dram places count) lanes all = refl
  same_kind_copies (scatter dram places count sram) lanes all = refl
