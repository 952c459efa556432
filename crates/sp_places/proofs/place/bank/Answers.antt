use Rattle.std.proofs.Common.{[], ◌/◌, ◌%◌, ◌^◌, ap, ◌∙◌}
use Rattle.sp_bank.specs.Places.{weighted}
use Rattle.sp_gates.proofs.Growing.{Fills-join}
use Rattle.sp_gates.proofs.Running.{runs_earlier}
use Rattle.sp_places.specs.Layouts.{words_at}
use Rattle.sp_places.proofs.PlaceLemmas.{bank_is, weights_small}
use Rattle.sp_places.proofs.place.bank.Goals as goal

pub returns-clause-fills : goal.returns-clause-fills
returns-clause-fills c = Fills-join _ _ _ [] [] c.in_ok-line.ensures.fills (Fills-join _ _ _ [] [] c.in_ok-bank.ensures.fills c.in_ok-net.ensures.fills)

pub returns-clause-word : goal.returns-clause-word
returns-clause-word c = λ s run t inside.
    let third = runs_earlier _ _ s c.in_ok-net.ensures.fills.grows run in
    let second = runs_earlier _ _ s c.in_ok-bank.ensures.fills.grows third in
    let first = runs_earlier _ _ s c.in_ok-line.ensures.fills.grows second in
    let size = c.requires.layout.space.size in
    bank_is (weighted c.args.layout.now.alpha.items (words_at s t c.args.wide.now)) c.args.layout.now.block c.args.layout.now.banks (s.net t c.in_ok-line.line) (s.net t c.in_ok-bank.bank) (s.net t c.in_ok-net.net)
    (weights_small c.args.layout.now (words_at s t c.args.wide.now) c.requires.layout inside) size.some_bank size.few_banks
    (c.in_ok-line.ensures.word s second t ∙ ap (λ n. n / c.from.result % 2 ^ 64) (c.requires.weights s first t inside) ∙ ap (λ n. weighted c.args.layout.now.alpha.items (words_at s t c.args.wide.now) / n % 2 ^ 64) c.from.ensures)
    (c.in_ok-bank.ensures.word s third t ∙ ap (λ n. s.net t c.in_ok-line.line % n % 2 ^ 64) c.from-2.ensures)
    (c.in_ok-net.ensures.word s run t)
