use Rattle.std.proofs.Common.{sym, subst}
use Rattle.sp_tree.specs.Invariant.{IsProgram}
use Rattle.sp_canonical.proofs.formatted_texts_stay.Goals as goal

-- src/lib.rt:40:1
pub returns : goal.returns
returns c = λ text p s shallow.
    let read = c.read_trees_keep_their_rules.ensures text s.tree s.is_read in
    let right = c.right_trees_are_programs.ensures s.tree read s.is_right.unrefused s.is_right.within in
    c.canonical_texts_read_back.ensures p (subst IsProgram (sym s.is_program) right) shallow
