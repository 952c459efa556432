use Rattle.std.proofs.Common.{◌≡◌, true, false, sym, ◌∙◌}
use Rattle.sp_canonical.proofs.Depths.{few_brackets, many_brackets}
use Rattle.sp_canonical.proofs.worked_depths.Goals as goal

-- src/lib.rt:56:1
pub returns : goal.returns
returns c = record {
  shallow = few_brackets;
  deep = λ h. let bad : true ≡ false = sym many_brackets ∙ h in absurd (cc);
}
