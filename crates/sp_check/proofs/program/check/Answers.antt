use Rattle.std.proofs.Common.{sym, subst}
use Rattle.sp_reader.specs.PlainProgram.{plain_syntax}
use Rattle.sp_tree.specs.Invariant.{IsProgram}
use Rattle.sp_check.proofs.program.check.Goals as goal

pub new-requires : goal.new-requires
new-requires c =
    let right = c.in_ok-parts.ensures.right in
    subst IsProgram (sym c.in_ok-parts.ensures.program) (c.right_trees_are_programs.ensures (plain_syntax c.args.syntax.now) c.requires right.unrefused right.within)
