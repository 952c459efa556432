use Rattle.std.proofs.Common.{rules, ap₂, ◌≡◌, ◌∙◌, codes}
use Rattle.std.proofs.lemmas.Result.{IfOk-weaker}
use Rattle.clap.specs.Words.{app_of, new_rule, rule_of, with_rule}
use Rattle.sp_command.specs.Table.{bare, required}
use Rattle.sp_command.proofs.said.table.Goals as goal

pub returns : goal.returns
returns c =
    let bare_is : app_of c.disable_version_flag-bare.result ≡ bare = search rules in
    let verb_is : rule_of c.required-verb.result ≡ required (new_rule (codes "verb")) = search rules in
    let first_is : rule_of c.required-first.result ≡ required (new_rule (codes "first")) = search rules in
    let second_is : rule_of c.new-second.result ≡ new_rule (codes "second") = search rules in
    IfOk-weaker c.arg-3.result _ _
    (λ r h. h.shape (search rules)
    ∙ ap₂ with_rule (c.in_ok-arg-2.ensures.shape (search rules)
    ∙ ap₂ with_rule (c.in_ok-arg.ensures.shape (search rules) ∙ ap₂ with_rule bare_is verb_is) first_is) second_is)
    c.arg-3.ensures
