-- Why a tree may be refused.
use Rattle.std.specs.Prelude.{◌≡◌, ℕ, [], Some}
use Rattle.sp_reader.specs.PlainStatement.{PlainSyntax}
use Rattle.sp_types.specs.declared.refusal.Refusal.{Refusal}
use Rattle.sp_types.specs.declared.refusal.Rule.{Rule}
use Rattle.sp_types.specs.declared.refusal.Rule.TheVariants as rule
use Rattle.sp_types.specs.Statements.{refusals, first_refusal}
use Rattle.sp_tree.specs.Limits.{IsWithinLimits}
use Rattle.sp_typed.specs.Programs.{program_of}
use Rattle.sp_counts.specs.declared.over.Over.{Over}
use Rattle.sp_counts.specs.Over.{first_over}
use Rattle.sp_check.specs.declared.error.TypeError.{TypeError}
use Rattle.sp_check.specs.declared.error.TypeError.TheVariants.{UnknownName, Twice, TypeClash, Rank, Misused, ParPlace, Limit, Memory}

-- no place breaks a rule of names and types, and each count is within its limit
pub record IsRight (s : PlainSyntax) : Type 0 where
  pub unrefused : refusals s ≡ []
  pub within : IsWithinLimits (program_of s)

-- what a refusal comes with: the first place that breaks a rule, or else the first count past its limit
abbrev pub IsCause : PlainSyntax → TypeError → Type 0
IsCause s (UnknownName at) = first_refusal s ≡ Some (record { at = at; rule = rule.UnknownName })
IsCause s (Twice at) = first_refusal s ≡ Some (record { at = at; rule = rule.Twice })
IsCause s (TypeClash at want got) = first_refusal s ≡ Some (record { at = at; rule = rule.TypeClash want got })
IsCause s (Rank at want got) = first_refusal s ≡ Some (record { at = at; rule = rule.Rank want got })
IsCause s (Misused at) = first_refusal s ≡ Some (record { at = at; rule = rule.Misused })
IsCause s (ParPlace at) = first_refusal s ≡ Some (record { at = at; rule = rule.ParPlace })
IsCause s (Limit which count) = (refusals s ≡ []) × (first_over (program_of s) ≡ Some (record { which = which; count = count }))
IsCause s Memory = Unit {0}

-- ---- the refusals of the layers below, as those of a tree

abbrev pub refused : ℕ → Rule → TypeError
refused at rule.UnknownName = UnknownName at
refused at rule.Twice = Twice at
refused at (rule.TypeClash want got) = TypeClash at want got
refused at (rule.Rank want got) = Rank at want got
refused at rule.Misused = Misused at
refused at rule.ParPlace = ParPlace at

abbrev pub of_refusal : Refusal → TypeError
of_refusal refusal = refused refusal.at refusal.rule

abbrev pub of_over : Over → TypeError
of_over over = Limit over.which over.count
