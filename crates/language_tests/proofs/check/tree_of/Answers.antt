use Rattle.sp_reader.specs.PlainProgram.{plain_syntax}
use Rattle.language_tests.proofs.check.tree_of.Goals as goal

pub returns : goal.returns
returns c = c.read_trees_keep_their_rules.ensures c.as_bytes-bytes.result.now (plain_syntax c.in_ok-tree.tree) c.in_ok-tree.ensures.answer
