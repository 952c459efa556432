-- A program that is within the limits stays so when it has other places.
use Rattle.std.proofs.Common.{◌≡◌, ◌≤◌, ℕ, zero, suc, ◌+◌, ◌*◌, max, ◌&&◌, not, Bool, if◌then◌else◌, List, [], ◌∷◌, ◌++◌, map, filter, slice_index_or, refl, sym, ap, ap₂, subst, ◌∙◌}
use Rattle.std.specs.Prelude.{sum_by, count_by, flat_map, fold, cond}
use Rattle.std.specs.List.{list_all}
use Rattle.std.proofs.Math.Path.{fun_ext}
use Rattle.sp_words.specs.declared.kind.Style.{Style}
use Rattle.sp_words.specs.declared.kind.Style.TheVariants.{Pipe, Sequential, Parallel, Stream}
use Rattle.sp_words.specs.Interface.{word_count}
use Rattle.sp_tree.specs.Counts.{is_port, node_count, lane_count, Piece, greatest, body_count, operation_count, words_from, chip_words, dram_count, copy_count}
use Rattle.sp_tree.specs.Expressions.{dims}
use Rattle.sp_tree.specs.Limits.{IsWithinLimits, most_nodes, most_lanes, most_in_one_run, most_operations, most_words, most_copies, most_dram_words}
use Rattle.sp_tree.specs.Meaning.{is_dram}
use Rattle.sp_tree.specs.PlainProgram.{PlainMem, no_mem, PlainProgram}
use Rattle.sp_tree.specs.PlainStatement.{PlainStmtKind, PlainStmts, stmt, declare, name, set_reg, set_out, set_sram, enq, load_sram, load_line, store, gather, scatter, block, foreach, reduce, mem_reduce, fsm, branch, no_stmt, more_stmt}
use Rattle.sp_tree.specs.Streams.{StreamStage, is_fifo, has_one_at_each_end, is_shared_unchanged, joined_by, is_forest, stream_room, own_fifos, is_proper, fifos_with_room, roomy_in, kind_roomy}
use Rattle.sp_tree.specs.Tallies.{nothing, uses_of, is_among}
use Rattle.sp_retyped.specs.BareBody.{bare_body, bare_stmt, bare_program}
use Rattle.sp_retyped.specs.BareMems.{bare_mem}
use Rattle.sp_canonical.proofs.Tallies.{same_own, same_are_stages, same_stages}
use Rattle.sp_canonical.proofs.Counts.{same_nodes, same_lanes_in, same_pieces, same_copies}

-- ---- memories

pub bare_at : (mems : List PlainMem) (m : ℕ) → slice_index_or (map bare_mem mems) m no_mem ≡ bare_mem (slice_index_or mems m no_mem)
bare_at [] zero = refl
bare_at [] (suc m) = refl
bare_at (x ∷ mems) zero = refl
bare_at (x ∷ mems) (suc m) = bare_at mems m

same_dims : (mems : List PlainMem) (m : ℕ) → dims (map bare_mem mems) m ≡ dims mems m
same_dims mems m = ap (λ x. x.dims) (bare_at mems m)

folded : {B : Type 0} (g : B → PlainMem → B) → ((b : B) (m : PlainMem) → g b (bare_mem m) ≡ g b m) → (b : B) (mems : List PlainMem) → fold g b (map bare_mem mems) ≡ fold g b mems
folded g same b [] = refl
folded g same b (m ∷ mems) = ap (λ c. fold g c (map bare_mem mems)) (same b m) ∙ folded g same (g b m) mems

summed : (f : PlainMem → ℕ) → ((m : PlainMem) → f (bare_mem m) ≡ f m) → (mems : List PlainMem) → sum_by f (map bare_mem mems) ≡ sum_by f mems
summed f same mems = folded (λ a x. a + f x) (λ a m. ap (λ n. a + n) (same m)) 0 mems

counted : (f : PlainMem → Bool) → ((m : PlainMem) → f (bare_mem m) ≡ f m) → (mems : List PlainMem) → count_by f (map bare_mem mems) ≡ count_by f mems
counted f same mems = folded (λ a x. a + cond (f x) 1 0) (λ a m. ap (λ b. a + cond b 1 0) (same m)) 0 mems

-- ---- rooms of FIFOs

module _ (mems : List PlainMem) where
  same_fifos : (body : PlainStmts) → own_fifos (map bare_mem mems) (bare_body body) ≡ own_fifos mems body
  same_fifos body =
      let kinds = fun_ext (λ (m : ℕ). ap (λ x. is_fifo x.kind) (bare_at mems m)) in
      let own = same_own body in
      λ i. filter (kinds i) (own i)

  same_proper : (body : PlainStmts) → is_proper (map bare_mem mems) (bare_body body) ≡ is_proper mems body
  same_proper body =
      let are = same_are_stages body in
      let all = same_stages body in
      let own = same_fifos body in
      λ i. are i
      && list_all (λ (s : StreamStage). not s.bounds.arrays) (all i)
      && list_all (has_one_at_each_end (all i)) (own i)
      && list_all (is_shared_unchanged (all i)) (filter (λ m. not (is_among m (own i))) (flat_map (λ (s : StreamStage). uses_of s.whole) (all i)))
      && is_forest (flat_map (joined_by (all i)) (own i))

  same_room_fifos : (style : Style) (body : PlainStmts) → fifos_with_room (map bare_mem mems) style (bare_body body) ≡ fifos_with_room mems style body
  same_room_fifos Stream body = let proper = same_proper body in let own = same_fifos body in λ i. if proper i then own i else []
  same_room_fifos Pipe body = refl
  same_room_fifos Sequential body = refl
  same_room_fifos Parallel body = refl

  mutual
    same_roomy : (body : PlainStmts) → roomy_in (map bare_mem mems) (bare_body body) ≡ roomy_in mems body
    same_roomy no_stmt = refl
    same_roomy (more_stmt (stmt place kind) rest) = ap₂ (λ x y. x ++ y) (same_kind_roomy kind) (same_roomy rest)

    same_kind_roomy : (kind : PlainStmtKind) → kind_roomy (map bare_mem mems) (bare_stmt kind) ≡ kind_roomy mems kind
    same_kind_roomy (block style body) = ap₂ (λ x y. x ++ y) (same_room_fifos style body) (same_roomy body)
    same_kind_roomy (foreach style counters body) = same_roomy body
    same_kind_roomy (reduce style fold acc counters body word comb) = same_roomy body
    same_kind_roomy (mem_reduce style acc counters body part comb) = same_roomy body
    same_kind_roomy (fsm start tested test state body last next) = same_roomy body
    same_kind_roomy (branch test first second) = ap₂ (λ x y. x ++ y) (same_roomy first) (same_roomy second)
    same_kind_roomy (declare m) = refl
    same_kind_roomy (name v e) = refl
    same_kind_roomy (set_reg m e) = refl
    same_kind_roomy (set_out m e) = refl
    same_kind_roomy (set_sram m indices e) = refl
    same_kind_roomy (enq m e) = refl
    same_kind_roomy (load_sram sram dram spans) = refl
    same_kind_roomy (load_line line dram spans) = refl
    same_kind_roomy (store dram spans sram) = refl
    same_kind_roomy (gather sram dram places count) = refl
    same_kind_roomy (scatter dram places count sram) = refl

-- ---- programs

module _ (p : PlainProgram) where
  same_words : (first : ℕ) (mems : List PlainMem) → words_from (bare_program p) first (map bare_mem mems) ≡ words_from p first mems
  same_words first [] = refl
  same_words first (m ∷ rest) =
      let roomy = same_roomy p.mems p.body in
      let d = same_dims p.mems first in
      let more = same_words (suc first) rest in
      λ i. (if is_port m.kind then 0 else (if is_among first (roomy i) then max (word_count (d i)) stream_room else word_count (d i))) + more i

  same_copy_count : copy_count (bare_program p) ≡ copy_count p
  same_copy_count =
      let d = fun_ext (λ (m : ℕ). same_dims p.mems m) in
      let all = same_pieces p.body 1 nothing nothing in
      let copies = same_copies p.body 1 [] in
      λ i. sum_by (λ (c : ℕ × ℕ). word_count (d i c.0) * c.1 * max 1 (count_by (λ (x : Piece). is_among c.0 x.reads) (all i))) (copies i)

  -- each count is that of the program without its places
  pub record SameCounts : Type 0 where
    pub nodes : node_count (bare_program p) ≡ node_count p
    pub lanes : lane_count (bare_program p) ≡ lane_count p
    pub in_one_run : body_count (bare_program p) ≡ body_count p
    pub operations : operation_count (bare_program p) ≡ operation_count p
    pub words : chip_words (bare_program p) ≡ chip_words p
    pub copies : copy_count (bare_program p) ≡ copy_count p
    pub dram : dram_count (bare_program p) ≡ dram_count p

  pub same_counts : SameCounts
  same_counts =
      let all = same_pieces p.body 1 nothing nothing in
      record {
        nodes = ap₂ (λ x y. x + y) (counted (λ m. is_port m.kind) (λ m. refl) p.mems) (same_nodes p.body);
        lanes = same_lanes_in p.body 1;
        in_one_run = ap (λ ps. greatest (map (λ (x : Piece). x.operations * x.lanes) (filter (λ (x : Piece). x.is_run) ps))) all;
        operations = ap (λ ps. sum_by (λ (x : Piece). x.operations * x.lanes) ps) all;
        words = same_words 0 p.mems;
        copies = same_copy_count;
        dram = summed (λ m. if is_dram m.kind then word_count m.dims else 0) (λ m. refl) p.mems;
      }

  bare_within : IsWithinLimits p → IsWithinLimits (bare_program p)
  bare_within h =
      let s = same_counts in
      record {
        nodes = subst (λ n. n ≤ most_nodes) (sym s.nodes) h.nodes;
        lanes = subst (λ n. n ≤ most_lanes) (sym s.lanes) h.lanes;
        in_one_run = subst (λ n. n ≤ most_in_one_run) (sym s.in_one_run) h.in_one_run;
        operations = subst (λ n. n ≤ most_operations) (sym s.operations) h.operations;
        words = subst (λ n. n ≤ most_words) (sym s.words) h.words;
        copies = subst (λ n. n ≤ most_copies) (sym s.copies) h.copies;
        dram = subst (λ n. n ≤ most_dram_words) (sym s.dram) h.dram;
      }

  within_bare : IsWithinLimits (bare_program p) → IsWithinLimits p
  within_bare h =
      let s = same_counts in
      record {
        nodes = subst (λ n. n ≤ most_nodes) s.nodes h.nodes;
        lanes = subst (λ n. n ≤ most_lanes) s.lanes h.lanes;
        in_one_run = subst (λ n. n ≤ most_in_one_run) s.in_one_run h.in_one_run;
        operations = subst (λ n. n ≤ most_operations) s.operations h.operations;
        words = subst (λ n. n ≤ most_words) s.words h.words;
        copies = subst (λ n. n ≤ most_copies) s.copies h.copies;
        dram = subst (λ n. n ≤ most_dram_words) s.dram h.dram;
      }

pub within_like : (p q : PlainProgram) → bare_program q ≡ bare_program p → IsWithinLimits p → IsWithinLimits q
within_like p q same h = within_bare q (subst IsWithinLimits (sym same) (bare_within p h))
