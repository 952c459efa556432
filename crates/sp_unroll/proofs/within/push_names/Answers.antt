use Rattle.std.proofs.Common.{◌≡◌, ◌++◌, ◌+◌, ◌∷◌, [], drop, get_or, arith, sym, ap, ◌∙◌}
use Rattle.std.proofs.lemmas.Grind.{common_steps}
use Rattle.std.proofs.lemmas.List.{drop_more}
use Rattle.sp_unroll.specs.Entries.{number_in, owned_at}
use Rattle.sp_unroll.proofs.EntryLemmas.{names_more}
use Rattle.sp_unroll.proofs.within.push_names.Goals as goal

pub loop-m-preserved : goal.loop-m-preserved
loop-m-preserved c =
    let order = c.args.order.now in
    let owned = c.args.owned.now in
    let copy = c.args.copy in
    let names = c.loop-m.names.items in
    let i = c.loop-m.m-index in
    let o = get_or owned i 0 in
    let e : c.push.new.self.items ≡ names ++ record { key = o; value = c.in_ok-value.value } ∷ [] = grind (arith, common_steps) in
    ap (λ xs. owned_at order (drop (i + 1) owned) copy (number_in order xs)) e
    ∙ names_more order (drop (i + 1) owned) o copy c.in_ok-value.value names c.in_ok-value.ensures
    ∙ ap (λ xs. owned_at order xs copy (number_in order names)) (sym (drop_more owned i 0 c.loop-m-test.true))
    ∙ c.loop-m.invariant

pub returns : goal.returns
returns c =
    let d : drop c.loop-m.m-index c.args.owned.now ≡ [] = grind (arith, common_steps) in
    sym (ap (λ xs. owned_at c.args.order.now xs c.args.copy (number_in c.args.order.now c.loop-m.names.items)) d) ∙ c.loop-m.invariant
