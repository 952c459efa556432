use Rattle.std.proofs.Common.{arith, ap, sym, ◌∙◌, map, refl, lit<}
use Rattle.sp_tree.specs.Counts.{node_count, lane_count, body_count, operation_count, chip_words, copy_count, dram_count}
use Rattle.sp_tree.specs.Limits.{most_nodes, most_lanes, most_in_one_run, most_operations, most_words, most_copies, most_dram_words}
use Rattle.sp_tree.specs.Plain.{plain_mem}
use Rattle.sp_tree.specs.PlainTree.{plain_stmts}
use Rattle.sp_counts.specs.Copies.{copy_of}
use Rattle.sp_counts.specs.Over.{parts_of}
use Rattle.sp_counts.specs.Pieces.{piece_of}
use Rattle.sp_counts.specs.declared.over.Which.TheVariants as which
use Rattle.sp_counts.proofs.OverLemmas.{is_past, is_within, run_is, operations_are, copies_are}
use Rattle.sp_counts.proofs.over.first_past.Goals as goal

pub returns-then-run-gt-MOST_IN_ONE_RUN : goal.returns-then-run-gt-MOST_IN_ONE_RUN
returns-then-run-gt-MOST_IN_ONE_RUN c =
    let q = parts_of (map plain_mem c.args.mems.now) (plain_stmts c.args.body.now) in
    rw c.exceeded-then-run-gt-MOST_IN_ONE_RUN.ensures
    (sym
    (is_within which.Nodes (node_count q) most_nodes c.in_ok-nodes.nodes _ c.in_ok-nodes.ensures (omega (arith, c.if-nodes-gt-MOST_NODES.false)) (lit< tt)
    ∙ is_within which.Lanes (lane_count q) most_lanes c.lanes_in-lanes.result _ c.lanes_in-lanes.ensures (omega (arith, c.if-lanes-gt-MOST_LANES.false)) (lit< tt)
    ∙ is_past which.Body (body_count q) most_in_one_run c.greatest_run-run.result _ (c.greatest_run-run.ensures ∙ run_is (map plain_mem c.args.mems.now) (plain_stmts c.args.body.now) _ (ap (map piece_of) c.deref.ensures.value ∙ c.in_ok-pieces.ensures)) (omega (arith, c.if-run-gt-MOST_IN_ONE_RUN.true))))

pub returns-then-operations-gt-MOST_OPERATIONS : goal.returns-then-operations-gt-MOST_OPERATIONS
returns-then-operations-gt-MOST_OPERATIONS c =
    let q = parts_of (map plain_mem c.args.mems.now) (plain_stmts c.args.body.now) in
    rw c.exceeded-then-operations-gt-MOST_OPERATIONS.ensures
    (sym
    (is_within which.Nodes (node_count q) most_nodes c.in_ok-nodes.nodes _ c.in_ok-nodes.ensures (omega (arith, c.if-nodes-gt-MOST_NODES.false)) (lit< tt)
    ∙ is_within which.Lanes (lane_count q) most_lanes c.lanes_in-lanes.result _ c.lanes_in-lanes.ensures (omega (arith, c.if-lanes-gt-MOST_LANES.false)) (lit< tt)
    ∙ is_within which.Body (body_count q) most_in_one_run c.greatest_run-run.result _ (c.greatest_run-run.ensures ∙ run_is (map plain_mem c.args.mems.now) (plain_stmts c.args.body.now) _ (ap (map piece_of) c.deref.ensures.value ∙ c.in_ok-pieces.ensures)) (omega (arith, c.if-run-gt-MOST_IN_ONE_RUN.false)) (lit< tt)
    ∙ is_past which.Operations (operation_count q) most_operations c.all_operations-operations.result _ (c.all_operations-operations.ensures ∙ operations_are (map plain_mem c.args.mems.now) (plain_stmts c.args.body.now) _ (ap (map piece_of) c.deref-2.ensures.value ∙ c.in_ok-pieces.ensures)) (omega (arith, c.if-operations-gt-MOST_OPERATIONS.true))))

pub returns-then-words-gt-MOST_WORDS : goal.returns-then-words-gt-MOST_WORDS
returns-then-words-gt-MOST_WORDS c =
    let q = parts_of (map plain_mem c.args.mems.now) (plain_stmts c.args.body.now) in
    rw c.exceeded-then-words-gt-MOST_WORDS.ensures
    (sym
    (is_within which.Nodes (node_count q) most_nodes c.in_ok-nodes.nodes _ c.in_ok-nodes.ensures (omega (arith, c.if-nodes-gt-MOST_NODES.false)) (lit< tt)
    ∙ is_within which.Lanes (lane_count q) most_lanes c.lanes_in-lanes.result _ c.lanes_in-lanes.ensures (omega (arith, c.if-lanes-gt-MOST_LANES.false)) (lit< tt)
    ∙ is_within which.Body (body_count q) most_in_one_run c.greatest_run-run.result _ (c.greatest_run-run.ensures ∙ run_is (map plain_mem c.args.mems.now) (plain_stmts c.args.body.now) _ (ap (map piece_of) c.deref.ensures.value ∙ c.in_ok-pieces.ensures)) (omega (arith, c.if-run-gt-MOST_IN_ONE_RUN.false)) (lit< tt)
    ∙ is_within which.Operations (operation_count q) most_operations c.all_operations-operations.result _ (c.all_operations-operations.ensures ∙ operations_are (map plain_mem c.args.mems.now) (plain_stmts c.args.body.now) _ (ap (map piece_of) c.deref-2.ensures.value ∙ c.in_ok-pieces.ensures)) (omega (arith, c.if-operations-gt-MOST_OPERATIONS.false)) (lit< tt)
    ∙ is_past which.Words (chip_words q) most_words c.chip_words-words.result _ (c.chip_words-words.ensures q refl (sym (c.deref-3.ensures.value ∙ c.in_ok-roomy_fifos.ensures))) (omega (arith, c.if-words-gt-MOST_WORDS.true))))

pub returns-then-copies-gt-MOST_COPIES : goal.returns-then-copies-gt-MOST_COPIES
returns-then-copies-gt-MOST_COPIES c =
    let q = parts_of (map plain_mem c.args.mems.now) (plain_stmts c.args.body.now) in
    rw c.exceeded-then-copies-gt-MOST_COPIES.ensures
    (sym
    (is_within which.Nodes (node_count q) most_nodes c.in_ok-nodes.nodes _ c.in_ok-nodes.ensures (omega (arith, c.if-nodes-gt-MOST_NODES.false)) (lit< tt)
    ∙ is_within which.Lanes (lane_count q) most_lanes c.lanes_in-lanes.result _ c.lanes_in-lanes.ensures (omega (arith, c.if-lanes-gt-MOST_LANES.false)) (lit< tt)
    ∙ is_within which.Body (body_count q) most_in_one_run c.greatest_run-run.result _ (c.greatest_run-run.ensures ∙ run_is (map plain_mem c.args.mems.now) (plain_stmts c.args.body.now) _ (ap (map piece_of) c.deref.ensures.value ∙ c.in_ok-pieces.ensures)) (omega (arith, c.if-run-gt-MOST_IN_ONE_RUN.false)) (lit< tt)
    ∙ is_within which.Operations (operation_count q) most_operations c.all_operations-operations.result _ (c.all_operations-operations.ensures ∙ operations_are (map plain_mem c.args.mems.now) (plain_stmts c.args.body.now) _ (ap (map piece_of) c.deref-2.ensures.value ∙ c.in_ok-pieces.ensures)) (omega (arith, c.if-operations-gt-MOST_OPERATIONS.false)) (lit< tt)
    ∙ is_within which.Words (chip_words q) most_words c.chip_words-words.result _ (c.chip_words-words.ensures q refl (sym (c.deref-3.ensures.value ∙ c.in_ok-roomy_fifos.ensures))) (omega (arith, c.if-words-gt-MOST_WORDS.false)) (lit< tt)
    ∙ is_past which.Copies (copy_count q) most_copies c.copy_words-copies.result _ (c.copy_words-copies.ensures ∙ copies_are (map plain_mem c.args.mems.now) (plain_stmts c.args.body.now) _ _ (ap (map piece_of) c.deref-4.ensures.value ∙ c.in_ok-pieces.ensures) (ap (map copy_of) c.deref-5.ensures.value ∙ c.in_ok-program_copies.ensures)) (omega (arith, c.if-copies-gt-MOST_COPIES.true))))

pub returns-then-dram-gt-MOST_DRAM_WORDS : goal.returns-then-dram-gt-MOST_DRAM_WORDS
returns-then-dram-gt-MOST_DRAM_WORDS c =
    let q = parts_of (map plain_mem c.args.mems.now) (plain_stmts c.args.body.now) in
    rw c.exceeded-then-dram-gt-MOST_DRAM_WORDS.ensures
    (sym
    (is_within which.Nodes (node_count q) most_nodes c.in_ok-nodes.nodes _ c.in_ok-nodes.ensures (omega (arith, c.if-nodes-gt-MOST_NODES.false)) (lit< tt)
    ∙ is_within which.Lanes (lane_count q) most_lanes c.lanes_in-lanes.result _ c.lanes_in-lanes.ensures (omega (arith, c.if-lanes-gt-MOST_LANES.false)) (lit< tt)
    ∙ is_within which.Body (body_count q) most_in_one_run c.greatest_run-run.result _ (c.greatest_run-run.ensures ∙ run_is (map plain_mem c.args.mems.now) (plain_stmts c.args.body.now) _ (ap (map piece_of) c.deref.ensures.value ∙ c.in_ok-pieces.ensures)) (omega (arith, c.if-run-gt-MOST_IN_ONE_RUN.false)) (lit< tt)
    ∙ is_within which.Operations (operation_count q) most_operations c.all_operations-operations.result _ (c.all_operations-operations.ensures ∙ operations_are (map plain_mem c.args.mems.now) (plain_stmts c.args.body.now) _ (ap (map piece_of) c.deref-2.ensures.value ∙ c.in_ok-pieces.ensures)) (omega (arith, c.if-operations-gt-MOST_OPERATIONS.false)) (lit< tt)
    ∙ is_within which.Words (chip_words q) most_words c.chip_words-words.result _ (c.chip_words-words.ensures q refl (sym (c.deref-3.ensures.value ∙ c.in_ok-roomy_fifos.ensures))) (omega (arith, c.if-words-gt-MOST_WORDS.false)) (lit< tt)
    ∙ is_within which.Copies (copy_count q) most_copies c.copy_words-copies.result _ (c.copy_words-copies.ensures ∙ copies_are (map plain_mem c.args.mems.now) (plain_stmts c.args.body.now) _ _ (ap (map piece_of) c.deref-4.ensures.value ∙ c.in_ok-pieces.ensures) (ap (map copy_of) c.deref-5.ensures.value ∙ c.in_ok-program_copies.ensures)) (omega (arith, c.if-copies-gt-MOST_COPIES.false)) (lit< tt)
    ∙ is_past which.Dram (dram_count q) most_dram_words c.dram_words-dram.result _ c.dram_words-dram.ensures (omega (arith, c.if-dram-gt-MOST_DRAM_WORDS.true))))

pub returns : goal.returns
returns c =
    let q = parts_of (map plain_mem c.args.mems.now) (plain_stmts c.args.body.now) in
    sym
    (is_within which.Nodes (node_count q) most_nodes c.in_ok-nodes.nodes _ c.in_ok-nodes.ensures (omega (arith, c.if-nodes-gt-MOST_NODES.false)) (lit< tt)
    ∙ is_within which.Lanes (lane_count q) most_lanes c.lanes_in-lanes.result _ c.lanes_in-lanes.ensures (omega (arith, c.if-lanes-gt-MOST_LANES.false)) (lit< tt)
    ∙ is_within which.Body (body_count q) most_in_one_run c.greatest_run-run.result _ (c.greatest_run-run.ensures ∙ run_is (map plain_mem c.args.mems.now) (plain_stmts c.args.body.now) _ (ap (map piece_of) c.deref.ensures.value ∙ c.in_ok-pieces.ensures)) (omega (arith, c.if-run-gt-MOST_IN_ONE_RUN.false)) (lit< tt)
    ∙ is_within which.Operations (operation_count q) most_operations c.all_operations-operations.result _ (c.all_operations-operations.ensures ∙ operations_are (map plain_mem c.args.mems.now) (plain_stmts c.args.body.now) _ (ap (map piece_of) c.deref-2.ensures.value ∙ c.in_ok-pieces.ensures)) (omega (arith, c.if-operations-gt-MOST_OPERATIONS.false)) (lit< tt)
    ∙ is_within which.Words (chip_words q) most_words c.chip_words-words.result _ (c.chip_words-words.ensures q refl (sym (c.deref-3.ensures.value ∙ c.in_ok-roomy_fifos.ensures))) (omega (arith, c.if-words-gt-MOST_WORDS.false)) (lit< tt)
    ∙ is_within which.Copies (copy_count q) most_copies c.copy_words-copies.result _ (c.copy_words-copies.ensures ∙ copies_are (map plain_mem c.args.mems.now) (plain_stmts c.args.body.now) _ _ (ap (map piece_of) c.deref-4.ensures.value ∙ c.in_ok-pieces.ensures) (ap (map copy_of) c.deref-5.ensures.value ∙ c.in_ok-program_copies.ensures)) (omega (arith, c.if-copies-gt-MOST_COPIES.false)) (lit< tt)
    ∙ is_within which.Dram (dram_count q) most_dram_words c.dram_words-dram.result _ c.dram_words-dram.ensures (omega (arith, c.if-dram-gt-MOST_DRAM_WORDS.false)) (lit< tt))
