use Rattle.std.proofs.Common.{◌≡◌, sym, ◌∙◌, List, map, Option, Result, Ok, Err}
use Rattle.std.specs.Prelude.{IfOk, ◌↔◌, None}
use Rattle.sp_tree.specs.Limits.{IsWithinLimits}
use Rattle.sp_tree.specs.Plain.{plain_mem}
use Rattle.sp_tree.specs.PlainProgram.{PlainMem, PlainProgram}
use Rattle.sp_tree.specs.PlainStatement.{PlainStmts}
use Rattle.sp_tree.specs.PlainTree.{plain_stmts}
use Rattle.sp_counts.specs.Over.{parts_of, first_over}
use Rattle.sp_counts.specs.declared.over.Over.{Over}
use Rattle.sp_counts.proofs.OverLemmas.{same_over, limits_tell}
use Rattle.sp_counts.proofs.over.first_over.Goals as goal

first_of : {E : Type 0} (r : Result (Option Over) E) (mems : List PlainMem) (body : PlainStmts) → IfOk r (λ found. found ≡ first_over (parts_of mems body))
    → IfOk r (λ found. (p : PlainProgram) → p.mems ≡ mems → p.body ≡ body → found ≡ first_over p)
first_of (Ok found) mems body e = λ p f g. e ∙ sym (same_over p (parts_of mems body) f g)
first_of (Err x) mems body e = e

within_of : {E : Type 0} (r : Result (Option Over) E) (mems : List PlainMem) (body : PlainStmts) → IfOk r (λ found. found ≡ first_over (parts_of mems body))
    → IfOk r (λ found. (p : PlainProgram) → p.mems ≡ mems → p.body ≡ body → (found ≡ None) ↔ IsWithinLimits p)
within_of (Ok found) mems body e = λ p f g. limits_tell p found (e ∙ sym (same_over p (parts_of mems body) f g))
within_of (Err x) mems body e = e

pub returns-clause-first : goal.returns-clause-first
returns-clause-first c = first_of c.first_past.result (map plain_mem c.args.mems.now) (plain_stmts c.args.body.now) c.first_past.ensures

pub returns-clause-within : goal.returns-clause-within
returns-clause-within c = within_of c.first_past.result (map plain_mem c.args.mems.now) (plain_stmts c.args.body.now) c.first_past.ensures
