use Rattle.std.proofs.Common.{◌≡◌, ◌+◌, ◌∷◌, drop, sym, ap, ◌∙◌, arith}
use Rattle.std.proofs.lemmas.List.{drop_more, at_drop_all}
use Rattle.sp_reader.specs.Plain.{plain_ident}
use Rattle.sp_reader.specs.PlainProgram.{plain_idents}
use Rattle.sp_types.specs.First.{notes}
use Rattle.sp_types.specs.Plain.{visible_of}
use Rattle.sp_types.specs.Visible.{declare, counter}
use Rattle.sp_types.specs.Spans.{twice, binds_refusals, with_binds}
use Rattle.sp_types.proofs.FindingLemmas.{notes_next, notes_none}
use Rattle.sp_types.proofs.span.check_binds.Goals as goal

pub loop-name-preserved : goal.loop-name-preserved
loop-name-preserved c =
    let xs = c.args.binds.now in
    let rest = drop (c.loop-name.name-index + 1) xs in
    let item = c.name-item.result in
    let s = drop_more xs c.loop-name.name-index item c.loop-name-test.true ∙ ap (λ x. x ∷ rest) (sym c.name-item.is) in
    let seen = visible_of c.loop-name.scope in
    let seen_next = c.in_ok-declare.ensures ∙ ap (λ n. declare seen n counter) c.deref.ensures in (
      ap (λ v. with_binds v (plain_idents rest)) seen_next ∙ ap (λ ys. with_binds seen (plain_idents ys)) (sym s) ∙ c.loop-name.invariant.0,
      ap (λ v. notes c.check_twice.new.finding.first (binds_refusals v (plain_idents rest))) seen_next
          ∙ notes_next c.loop-name.finding.first c.check_twice.new.finding.first _ (twice seen (plain_ident item)) _ c.check_twice.ensures
          (ap (λ ys. notes c.loop-name.finding.first (binds_refusals seen (plain_idents ys))) (sym s) ∙ c.loop-name.invariant.1),
    )

pub returns-clause-found : goal.returns-clause-found
returns-clause-found c =
    let seen = visible_of c.loop-name.scope in
    sym (notes_none c.loop-name.finding.first)
    ∙ sym (at_drop_all (λ xs. notes c.loop-name.finding.first (binds_refusals seen (plain_idents xs))) c.args.binds.now c.loop-name.name-index (omega arith))
    ∙ c.loop-name.invariant.1
