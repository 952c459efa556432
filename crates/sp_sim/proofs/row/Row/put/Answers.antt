use Rattle.std.proofs.Common.{◌<◌, ◌≤◌, sym, ap, ◌∙◌, subst, length, arith}
use Rattle.sp_sim.specs.Rows.{with_word, IsPlaceOf}
use Rattle.sp_sim.proofs.RowLemmas.{place_put, no_place_put}
use Rattle.sp_sim.proofs.row.Row.put.Goals as goal

pub returns-then-place-len : goal.returns-then-place-len
returns-then-place-len c =
    let ns = c.self.inside.nets.items in
    let ws = c.self.inside.words.items in
    let inv = c.self.invariant in
    let p = subst (λ xs. IsPlaceOf xs c.args.net c.place_of-place.result) c.deref.ensures.value c.place_of-place.ensures in
    let l : c.place_of-place.result < length ws = omega (arith, c.self.inside.words.ok.0) in
    sym (place_put ns ws c.args.net c.place_of-place.result inv.0 inv.1 p c.args.word l) ∙ ap (λ row. with_word row c.args.net c.args.word) c.self.view_is

pub returns-else-place-len : goal.returns-else-place-len
returns-else-place-len c =
    let ns = c.self.inside.nets.items in
    let ws = c.self.inside.words.items in
    let inv = c.self.invariant in
    let p = subst (λ xs. IsPlaceOf xs c.args.net c.place_of-place.result) c.deref.ensures.value c.place_of-place.ensures in
    let l : length ws ≤ c.place_of-place.result = omega (arith, c.self.inside.words.ok.0) in
    sym c.self.view_is ∙ sym (no_place_put ns ws c.args.net c.place_of-place.result inv.0 inv.1 p c.args.word l) ∙ ap (λ row. with_word row c.args.net c.args.word) c.self.view_is
