use Rattle.std.proofs.Common.{◌<◌, ◌≤◌, sym, ap, ◌∙◌, subst, length, arith}
use Rattle.std.proofs.lemmas.List.{get_or_read}
use Rattle.sp_sim.specs.Rows.{word_of, IsPlaceOf}
use Rattle.sp_sim.proofs.RowLemmas.{place_word, no_place_word}
use Rattle.sp_sim.proofs.row.Row.get.Goals as goal

pub returns-then-place-len : goal.returns-then-place-len
returns-then-place-len c =
    let ns = c.self.inside.nets.items in
    let ws = c.self.inside.words.items in
    let inv = c.self.invariant in
    let p = subst (λ xs. IsPlaceOf xs c.args.net c.place_of-place.result) c.deref.ensures.value c.place_of-place.ensures in
    let l : c.place_of-place.result < length ws = omega (arith, c.self.inside.words.ok.0) in
    sym (ap (λ row. word_of row c.args.net) (sym c.self.view_is) ∙ place_word ns ws c.args.net c.place_of-place.result inv.0 inv.1 p l ∙ sym (get_or_read ws c.place_of-place.result _ l c.index.ensures 0))

pub returns-else-place-len : goal.returns-else-place-len
returns-else-place-len c =
    let ns = c.self.inside.nets.items in
    let ws = c.self.inside.words.items in
    let inv = c.self.invariant in
    let p = subst (λ xs. IsPlaceOf xs c.args.net c.place_of-place.result) c.deref.ensures.value c.place_of-place.ensures in
    let l : length ws ≤ c.place_of-place.result = omega (arith, c.self.inside.words.ok.0) in
    sym (ap (λ row. word_of row c.args.net) (sym c.self.view_is) ∙ no_place_word ns ws c.args.net c.place_of-place.result inv.0 inv.1 p l)
