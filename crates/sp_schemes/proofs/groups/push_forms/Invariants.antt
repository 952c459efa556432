use Rattle.std.proofs.Common.{◌≡◌, ◌++◌, drop}
use Rattle.sp_schemes.proofs.groups.push_forms.Given as goal

abbrev pub invariant-loop-form : goal.invariant-loop-form
invariant-loop-form l = l.into.items ++ drop l.form-index l.forms ≡ l.fn.into.items ++ l.forms
