use Rattle.std.proofs.Common.{◌≡◌, ◌∙◌, sym, true, false, string_bytes, rules}
use Rattle.std.specs.Map.Iter.{deref_pair}
use Rattle.std.proofs.lemmas.Map.Iter.{rest_more, rest_all}
use Rattle.toml.specs.View.{view}
use Rattle.sp_setup.specs.Section.{allowed}
use Rattle.sp_setup.proofs.TableLemmas.{first_key-pass, first_key-stop, first_key-end}
use Rattle.sp_setup.proofs.table.first_unknown.Goals as goal

pub returns-then-not-is_allowed : goal.returns-then-not-is_allowed
returns-then-not-is_allowed c =
    let step = rest_more deref_pair c.loop-key.key-iterator c.next.new.self c.next.result (c.in-Some.key, c.in-Some.value) c.in-Some.is c.next.ensures.steps in
    let bad : allowed c.args.section (string_bytes c.in-Some.key.now) (view c.in-Some.value.now) ≡ false = search rules in
    sym (sym c.loop-key.invariant ∙ first_key-stop _ _ _ _ _ step bad)

pub loop-key-preserved : goal.loop-key-preserved
loop-key-preserved c =
    let step = rest_more deref_pair c.loop-key.key-iterator c.next.new.self c.next.result (c.in-Some.key, c.in-Some.value) c.in-Some.is c.next.ensures.steps in
    let good : allowed c.args.section (string_bytes c.in-Some.key.now) (view c.in-Some.value.now) ≡ true = search rules in
    sym (first_key-pass _ _ _ _ _ step good) ∙ c.loop-key.invariant

pub returns : goal.returns
returns c =
    let done = rest_all deref_pair c.loop-key.key-iterator c.next.new.self c.next.result c.in-None.is c.next.ensures.steps in
    sym (sym c.loop-key.invariant ∙ first_key-end _ _ done)
