use Rattle.std.proofs.Common.{◌≡◌, ◌<◌, ℕ, List, Option, None, Some, length, cond, true, false, nat_eq, refl, sym, ap, ◌∙◌, subst, arith, eq-eqb}
use Rattle.std.specs.Str.Lossy.{utf8_valid_len}
use Rattle.std.specs.Str.{IsValidUpTo}
use Rattle.std.proofs.lemmas.Str.{utf8_valid_len-IsUtf8}
use Rattle.std.proofs.lemmas.Bool.Decides.{nat_tests}
use Rattle.sp_reader.specs.Limits.{fault_of}
use Rattle.sp_reader.proofs.reader.fault_of.Goals as goal

none_where : (text : List ℕ) → utf8_valid_len text ≡ length text → None ≡ fault_of text
unfolding fault_of
none_where text e = grind (arith, nat_tests)

some_where : (text : List ℕ) (n : ℕ) → n ≡ utf8_valid_len text → n < length text → Some n ≡ fault_of text
unfolding fault_of
some_where text n e lt = grind (arith, nat_tests)

pub returns-in-Ok-clause-value : goal.returns-in-Ok-clause-value
returns-in-Ok-clause-value c = none_where c.args.text.now (utf8_valid_len-IsUtf8 c.args.text.now c.in-Ok.ensures.cases.1)

pub returns-in-Err-clause-value : goal.returns-in-Err-clause-value
returns-in-Err-clause-value c =
    some_where c.args.text.now c.valid_up_to.result (c.valid_up_to.ensures ∙ c.in-Err.ensures.valid_len) (omega (arith, c.valid_up_to.ensures, c.in-Err.ensures.cases.1.short))
