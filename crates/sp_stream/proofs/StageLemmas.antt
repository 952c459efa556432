-- What is in two lists.
use Rattle.std.proofs.Common.{◌≡◌, ◌++◌, Bool, List}
use Rattle.std.specs.List.{list_any}
use Rattle.std.specs.Prelude.{◌||◌}
use Rattle.std.proofs.lemmas.List.Folds.{list_any-append}
use Rattle.sp_core.specs.PlainCore.{PlainOp}

pub any_in_both : (test : PlainOp → Bool) (xs ys : List PlainOp) → list_any test (xs ++ ys) ≡ (list_any test xs || list_any test ys)
any_in_both test xs ys = list_any-append test xs ys
