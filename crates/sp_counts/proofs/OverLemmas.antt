-- What the first count past its limit tells, and on what it depends.
use Rattle.std.proofs.Common.{◌≡◌, ℕ, suc, ◌+◌, ◌*◌, ◌<◌, ◌≤◌, true, false, max, List, [], ◌∷◌, map, Option, Some, None, refl, sym, ◌∙◌, ap, arith}
use Rattle.std.specs.Prelude.{◌↔◌, nat_le, filter, sum_by, count_by, if◌then◌else◌}
use Rattle.std.proofs.Math.Decide.{dec_lt}
use Rattle.std.proofs.lemmas.Bool.Decides.{nat_tests}
use Rattle.sp_tree.specs.Counts.{is_port, node_count, lane_count, body_count, operation_count, chip_words, copy_count, dram_count, words_from, Piece, greatest, pieces, copies_in}
use Rattle.sp_tree.specs.Expressions.{dims}
use Rattle.sp_tree.specs.Tallies.{nothing, is_among}
use Rattle.sp_words.specs.Interface.{word_count}
use Rattle.sp_tree.specs.Limits.{most_nodes, most_lanes, most_in_one_run, most_operations, most_words, most_copies, most_dram_words, IsWithinLimits}
use Rattle.sp_tree.specs.PlainProgram.{PlainMem, PlainProgram}
use Rattle.sp_tree.specs.PlainStatement.{PlainStmts}
use Rattle.sp_tree.specs.Streams.{room, roomy_in}
use Rattle.sp_counts.specs.Capped.{capped}
use Rattle.sp_counts.specs.Over.{past, parts_of, first_over}
use Rattle.sp_counts.specs.declared.over.Over.{Over}
use Rattle.sp_counts.specs.declared.over.Which.{Which}
use Rattle.sp_counts.specs.declared.over.Which.TheVariants as which

-- a count that is shown is past a limit exactly where the count is
pub is_past : (w : Which) (n most count : ℕ) (after : Option Over) → count ≡ capped n → most < count → past w n most after ≡ Some (record { which = w; count = count })
is_past w n most count after e lt = let f : nat_le n most ≡ false = grind (arith, nat_tests) in
    ap (λ b. if b then after else Some (record { which = w; count = capped n })) f ∙ ap (λ c. Some (record { which = w; count = c })) (sym e)

pub is_within : (w : Which) (n most count : ℕ) (after : Option Over) → count ≡ capped n → count ≤ most → most < 18446744073709551615 → past w n most after ≡ after
is_within w n most count after e le fits = let f : nat_le n most ≡ true = grind (arith, nat_tests) in
    ap (λ b. if b then after else Some (record { which = w; count = capped n })) f

-- the counts are those of the memories and the block
words_are : (p q : PlainProgram) (first : ℕ) (rest : List PlainMem) → p.mems ≡ q.mems → p.body ≡ q.body → words_from p first rest ≡ words_from q first rest
words_are p q first [] e f = refl
words_are p q first (m ∷ rest) e f =
    ap (λ ms. (if is_port m.kind then 0 else room ms (roomy_in ms p.body) first) + words_from p (suc first) rest) e
    ∙ ap (λ b. (if is_port m.kind then 0 else room q.mems (roomy_in q.mems b) first) + words_from p (suc first) rest) f
    ∙ ap (λ n. (if is_port m.kind then 0 else room q.mems (roomy_in q.mems q.body) first) + n) (words_are p q (suc first) rest e f)

over_of : List PlainMem → PlainStmts → (words : ℕ) → Option Over
over_of mems body words = let p = parts_of mems body in
    past which.Nodes (node_count p) most_nodes
    (past which.Lanes (lane_count p) most_lanes
    (past which.Body (body_count p) most_in_one_run
    (past which.Operations (operation_count p) most_operations
    (past which.Words words most_words
    (past which.Copies (copy_count p) most_copies
    (past which.Dram (dram_count p) most_dram_words None))))))

over_is : (p : PlainProgram) → first_over p ≡ over_of p.mems p.body (chip_words p)
unfolding over_of
over_is p = refl

pub same_over : (p q : PlainProgram) → p.mems ≡ q.mems → p.body ≡ q.body → first_over p ≡ first_over q
same_over p q e f =
    over_is p
    ∙ ap (λ n. over_of p.mems p.body n) (words_are p q 0 p.mems e f ∙ ap (words_from q 0) e)
    ∙ ap (λ ms. over_of ms p.body (chip_words q)) e
    ∙ ap (λ b. over_of q.mems b (chip_words q)) f
    ∙ sym (over_is q)

-- there is none exactly where all counts are within their limits
none_within : (w : Which) (n most : ℕ) (after : Option Over) → past w n most after ≡ None → (n ≤ most) × (after ≡ None)
none_within w n most after e = elim (dec_lt most n) [
  | yes lt ↦
      let f : nat_le n most ≡ false = grind (arith, nat_tests) in
      let g = sym (ap (λ b. if b then after else Some (record { which = w; count = capped n })) f) ∙ e in
      cc
  | no le ↦
      let f : nat_le n most ≡ true = grind (arith, nat_tests) in
      (omega arith, sym (ap (λ b. if b then after else Some (record { which = w; count = capped n })) f) ∙ e)
]

within_none : (w : Which) (n most : ℕ) (after : Option Over) → n ≤ most → after ≡ None → past w n most after ≡ None
within_none w n most after le e = let f : nat_le n most ≡ true = grind (arith, nat_tests) in
    ap (λ b. if b then after else Some (record { which = w; count = capped n })) f ∙ e

all_within : (p : PlainProgram) → first_over p ≡ None → IsWithinLimits p
all_within p e =
    let a = none_within which.Nodes (node_count p) most_nodes _ e in
    let b = none_within which.Lanes (lane_count p) most_lanes _ a.1 in
    let c = none_within which.Body (body_count p) most_in_one_run _ b.1 in
    let d = none_within which.Operations (operation_count p) most_operations _ c.1 in
    let f = none_within which.Words (chip_words p) most_words _ d.1 in
    let g = none_within which.Copies (copy_count p) most_copies _ f.1 in
    let h = none_within which.Dram (dram_count p) most_dram_words None g.1 in
    record { nodes = a.0; lanes = b.0; in_one_run = c.0; operations = d.0; words = f.0; copies = g.0; dram = h.0 }

within_all : (p : PlainProgram) → IsWithinLimits p → first_over p ≡ None
within_all p h =
    within_none which.Nodes (node_count p) most_nodes _ h.nodes
    (within_none which.Lanes (lane_count p) most_lanes _ h.lanes
    (within_none which.Body (body_count p) most_in_one_run _ h.in_one_run
    (within_none which.Operations (operation_count p) most_operations _ h.operations
    (within_none which.Words (chip_words p) most_words _ h.words
    (within_none which.Copies (copy_count p) most_copies _ h.copies
    (within_none which.Dram (dram_count p) most_dram_words None h.dram refl))))))

pub limits_tell : (p : PlainProgram) (found : Option Over) → found ≡ first_over p → (found ≡ None) ↔ IsWithinLimits p
limits_tell p found e = (λ f. all_within p (sym e ∙ f), λ h. e ∙ within_all p h)

-- the counts by the pieces and the copies
pub run_is : (mems : List PlainMem) (body : PlainStmts) (xs : List Piece) → xs ≡ pieces body 1 nothing nothing
    → capped (greatest (map (λ (x : Piece). x.operations * x.lanes) (filter (λ (x : Piece). x.is_run) xs))) ≡ capped (body_count (parts_of mems body))
run_is mems body xs e = ap (λ ys. capped (greatest (map (λ (x : Piece). x.operations * x.lanes) (filter (λ (x : Piece). x.is_run) ys)))) e

pub operations_are : (mems : List PlainMem) (body : PlainStmts) (xs : List Piece) → xs ≡ pieces body 1 nothing nothing
    → capped (sum_by (λ (x : Piece). x.operations * x.lanes) xs) ≡ capped (operation_count (parts_of mems body))
operations_are mems body xs e = ap (λ ys. capped (sum_by (λ (x : Piece). x.operations * x.lanes) ys)) e

pub copies_are : (mems : List PlainMem) (body : PlainStmts) (xs : List Piece) (cs : List (ℕ × ℕ)) → xs ≡ pieces body 1 nothing nothing → cs ≡ copies_in body 1 []
    → capped (sum_by (λ (c : ℕ × ℕ). word_count (dims mems c.0) * c.1 * max 1 (count_by (λ (x : Piece). is_among c.0 x.reads) xs)) cs) ≡ capped (copy_count (parts_of mems body))
copies_are mems body xs cs e f =
    ap (λ ys. capped (sum_by (λ (c : ℕ × ℕ). word_count (dims mems c.0) * c.1 * max 1 (count_by (λ (x : Piece). is_among c.0 x.reads) ys)) cs)) e
    ∙ ap (λ ds. capped (sum_by (λ (c : ℕ × ℕ). word_count (dims mems c.0) * c.1 * max 1 (count_by (λ (x : Piece). is_among c.0 x.reads) (pieces body 1 nothing nothing))) ds)) f
