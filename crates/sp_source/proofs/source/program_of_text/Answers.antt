use Rattle.sp_reader.specs.PlainProgram.{plain_syntax}
use Rattle.sp_source.proofs.source.program_of_text.Goals as goal

-- a tree that is read keeps what `check` asks
pub check-requires : goal.check-requires
check-requires c = c.read_trees_keep_their_rules.ensures c.args.bytes.now (plain_syntax c.in-Ok.syntax) c.in-Ok.ensures.answer
