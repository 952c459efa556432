use Rattle.std.proofs.Common.{rules, ◌≡◌, None, map, sym, ap, subst, ◌∙◌}
use Rattle.sp_reader.specs.PlainProgram.{plain_syntax}
use Rattle.sp_tree.specs.Plain.{plain_mem}
use Rattle.sp_tree.specs.PlainProgram.{PlainProgram}
use Rattle.sp_tree.specs.PlainTree.{plain_stmts}
use Rattle.sp_typed.specs.Programs.{program_of}
use Rattle.sp_typed.proofs.NoneLemmas.{none_first}
use Rattle.sp_check.specs.Refused.{IsCause}
use Rattle.sp_check.proofs.parts.checked_parts.Goals as goal

pub returns-in-Some-2-clause-refused : goal.returns-in-Some-2-clause-refused
returns-in-Some-2-clause-refused c =
    let s = plain_syntax c.args.syntax.now in
    let none : c.in_ok-refusal.field-0 ≡ None = search rules in
    let mems = sym (ap (λ (p : PlainProgram). p.mems) c.in_ok-parts.ensures) ∙ ap (map plain_mem) (sym c.deref.ensures.value) in
    let stmts = sym (ap (λ (p : PlainProgram). p.body) c.in_ok-parts.ensures) ∙ ap plain_stmts (sym c.deref-2.ensures.value) in
    let found = c.in_ok-over.ensures.first (program_of s) mems stmts in
    subst (IsCause s) (sym c.from-in-Some-2.ensures) (none_first _ (sym c.in_ok-refusal.ensures ∙ none), sym found ∙ c.in-Some-2.is)

pub returns-clause-right : goal.returns-clause-right
returns-clause-right c =
    let none : c.in_ok-refusal.field-0 ≡ None = search rules in
    let within : c.in_ok-over.field-0 ≡ None = search rules in
    let mems = sym (ap (λ (p : PlainProgram). p.mems) c.in_ok-parts.ensures) ∙ ap (map plain_mem) (sym c.deref.ensures.value) in
    let stmts = sym (ap (λ (p : PlainProgram). p.body) c.in_ok-parts.ensures) ∙ ap plain_stmts (sym c.deref-2.ensures.value) in
    record {
      unrefused = none_first _ (sym c.in_ok-refusal.ensures ∙ none);
      within = (c.in_ok-over.ensures.within (program_of (plain_syntax c.args.syntax.now)) mems stmts).0 within;
    }
