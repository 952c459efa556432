use Rattle.std.proofs.Common.{◌+◌, ◌∷◌, drop, sym, ap, ◌∙◌, arith}
use Rattle.std.proofs.lemmas.List.{drop_more, at_drop_all}
use Rattle.sp_reader.specs.Plain.{plain_ident}
use Rattle.sp_reader.specs.PlainProgram.{plain_idents}
use Rattle.sp_types.specs.Visible.{counter}
use Rattle.sp_typed.specs.Named.{given, give}
use Rattle.sp_typed.specs.Plain.{here_of}
use Rattle.sp_typed.proofs.GrowthLemmas.{entered, entered_is, here_with}
use Rattle.sp_typed.proofs.statement.enter_loop.Goals as goal

pub loop-name-preserved : goal.loop-name-preserved
loop-name-preserved c =
    let xs = c.args.binds.now in
    let rest = drop (c.loop-name.name-index + 1) xs in
    let item = c.name-item.result in
    let s = drop_more xs c.loop-name.name-index item c.loop-name-test.true ∙ ap (λ x. x ∷ rest) (sym c.name-item.is) in
    let here = here_of c.loop-name.scope in
    let n = c.loop-name.number in
    let given_next = c.in_ok-give.ensures ∙ ap (λ t. give here t counter n) c.deref.ensures in
    ap (λ h. entered (here_with h.names h.mems h.vals c.in_ok-number.number) (plain_idents rest)) given_next
    ∙ ap (λ m. entered (here_with (given here.names (plain_ident item).text counter n) here.mems here.vals m) (plain_idents rest)) c.in_ok-number.ensures
    ∙ ap (λ ys. entered (here_with here.names here.mems here.vals n) (plain_idents ys)) (sym s)
    ∙ c.loop-name.invariant

pub returns : goal.returns
returns c =
    let here = here_of c.loop-name.scope in
    sym (at_drop_all (λ ys. entered (here_with here.names here.mems here.vals c.loop-name.number) (plain_idents ys)) c.args.binds.now c.loop-name.name-index (omega arith))
    ∙ c.loop-name.invariant
    ∙ entered_is (here_of c.args.scope.now) (plain_idents c.args.binds.now)
