use Rattle.std.proofs.Common.{sym, subst}
use Rattle.sp_tree.specs.Invariant.{IsProgram}
use Rattle.sp_tree.specs.Limits.{IsWithinLimits}
use Rattle.sp_tree.specs.PlainProgram.{PlainProgram}
use Rattle.sp_rules.proofs.TreeLemmas.{tree_none}
use Rattle.sp_rules.proofs.laws.typed_trees_are_programs.Goals as goal

pub returns : goal.returns
returns c = λ s p read h limits.
    let P : PlainProgram → Type 0 = λ x. IsProgram x in
    let Q : PlainProgram → Type 0 = λ x. IsWithinLimits x in
    subst P (sym h.1) (c.right_trees_are_programs.ensures s read (tree_none s h.0) (subst Q h.1 limits))
