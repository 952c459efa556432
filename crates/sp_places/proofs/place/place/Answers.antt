use Rattle.std.proofs.Common.{[], ◌*◌, ◌%◌, ◌^◌, ap, ◌∙◌}
use Rattle.sp_bank.specs.Places.{weighted}
use Rattle.sp_gates.proofs.Growing.{Fills-join, HasNet-stays}
use Rattle.sp_gates.proofs.Running.{runs_earlier}
use Rattle.sp_places.specs.Layouts.{words_at}
use Rattle.sp_places.proofs.PlaceLemmas.{place_is}
use Rattle.sp_places.proofs.place.place.Goals as goal

pub sum-requires-clause-left : goal.sum-requires-clause-left
sum-requires-clause-left c = HasNet-stays _ _ _ _ c.in_ok-low.ensures.fills.grows c.in_ok-rows.ensures.net

pub returns-clause-fills : goal.returns-clause-fills
returns-clause-fills c =
    Fills-join _ _ _ [] [] c.in_ok-row.ensures.fills (Fills-join _ _ _ [] [] c.in_ok-rows.ensures.fills (Fills-join _ _ _ [] [] c.in_ok-low.ensures.fills (Fills-join _ _ _ [] [] c.in_ok-place.ensures.fills c.in_ok-net.ensures.fills)))

pub returns-clause-word : goal.returns-clause-word
returns-clause-word c = λ s run t inside.
    let fifth = runs_earlier _ _ s c.in_ok-net.ensures.fills.grows run in
    let fourth = runs_earlier _ _ s c.in_ok-place.ensures.fills.grows fifth in
    let third = runs_earlier _ _ s c.in_ok-low.ensures.fills.grows fourth in
    let second = runs_earlier _ _ s c.in_ok-rows.ensures.fills.grows third in
    let first = runs_earlier _ _ s c.in_ok-row.ensures.fills.grows second in
    place_is c.args.layout.now (words_at s t c.args.wide.now) (s.net t c.in_ok-row.row) (s.net t c.in_ok-rows.rows) (s.net t c.in_ok-low.low) (s.net t c.in_ok-place.place) (s.net t c.in_ok-net.net) c.requires.layout inside
    (c.in_ok-row.ensures.word s second t inside)
    (c.in_ok-rows.ensures.word s third t ∙ ap (λ n. s.net t c.in_ok-row.row * n % 2 ^ 64) c.from-block.ensures)
    (c.in_ok-low.ensures.word s fourth t ∙ ap (λ n. n % c.from-block.result % 2 ^ 64) (c.requires.weights s first t inside) ∙ ap (λ n. weighted c.args.layout.now.alpha.items (words_at s t c.args.wide.now) % n % 2 ^ 64) c.from-block.ensures)
    (c.in_ok-place.ensures.word s fifth t)
    (c.in_ok-net.ensures.word s run t)
