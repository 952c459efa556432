use Rattle.std.proofs.Common.{◌≡◌, [], ◌%◌, ◌^◌, ap, sym, subst, ◌∙◌}
use Rattle.std.proofs.Math.Nat.{mod-eq_of_lt}
use Rattle.sp_bank.specs.Places.{weighted, IsInside, bank as bank_number, offset}
use Rattle.sp_gates.proofs.Growing.{Fills-join, HasNet-stays}
use Rattle.sp_gates.proofs.Running.{runs_earlier}
use Rattle.sp_places.specs.Layouts.{words_at, banking_of}
use Rattle.sp_places.proofs.Nets.{nets_kept}
use Rattle.sp_places.proofs.SumLemmas.{kept_words}
use Rattle.sp_places.proofs.PlaceLemmas.{weights_small}
use Rattle.sp_places.proofs.place.locate.Goals as goal

pub bank-requires-clause-weights : goal.bank-requires-clause-weights
bank-requires-clause-weights c =
    rw c.deref-3.ensures.value
    (λ s run t inside.
    c.in_ok-weighed.ensures.word s run t
    ∙ ap (λ ws. weighted ws (words_at s t c.deref-2.result.now) % 2 ^ 64) c.deref.ensures.value
    ∙ ap (λ ns. weighted c.args.layout.now.alpha.items (words_at s t ns) % 2 ^ 64) c.deref-2.ensures.value
    ∙ mod-eq_of_lt (weights_small c.args.layout.now (words_at s t c.in_ok-wide.wide.items) c.requires.layout inside))

pub place-requires-clause-nets : goal.place-requires-clause-nets
place-requires-clause-nets c =
    rw c.deref-4.ensures.value (nets_kept _ _ 64 c.in_ok-wide.wide.items c.in_ok-bank.ensures.fills.grows (nets_kept _ _ 64 c.in_ok-wide.wide.items c.in_ok-weighed.ensures.fills.grows c.in_ok-wide.ensures.nets))

pub place-requires-clause-weighed : goal.place-requires-clause-weighed
place-requires-clause-weighed c = HasNet-stays _ _ _ _ c.in_ok-bank.ensures.fills.grows c.in_ok-weighed.ensures.net

pub place-requires-clause-weights : goal.place-requires-clause-weights
place-requires-clause-weights c =
    rw c.deref-4.ensures.value
    (λ s run t inside.
    c.in_ok-weighed.ensures.word s (runs_earlier _ _ s c.in_ok-bank.ensures.fills.grows run) t
    ∙ ap (λ ws. weighted ws (words_at s t c.deref-2.result.now) % 2 ^ 64) c.deref.ensures.value
    ∙ ap (λ ns. weighted c.args.layout.now.alpha.items (words_at s t ns) % 2 ^ 64) c.deref-2.ensures.value
    ∙ mod-eq_of_lt (weights_small c.args.layout.now (words_at s t c.in_ok-wide.wide.items) c.requires.layout inside))

pub returns-clause-fills : goal.returns-clause-fills
returns-clause-fills c =
    Fills-join _ _ _ [] [] c.in_ok-wide.ensures.fills (Fills-join _ _ _ [] [] c.in_ok-weighed.ensures.fills (Fills-join _ _ _ [] [] c.in_ok-bank.ensures.fills c.in_ok-place.ensures.fills))

pub returns-clause-spot : goal.returns-clause-spot
returns-clause-spot c = record {
  bank_net = HasNet-stays _ _ _ _ c.in_ok-place.ensures.fills.grows c.in_ok-bank.ensures.net;
  place_net = c.in_ok-place.ensures.net;
  bank = λ s run t inside.
      let third = runs_earlier _ _ s c.in_ok-place.ensures.fills.grows run in
      let second = runs_earlier _ _ s c.in_ok-bank.ensures.fills.grows third in
      let first = runs_earlier _ _ s c.in_ok-weighed.ensures.fills.grows second in
      let same : words_at s t c.deref-3.result.now ≡ words_at s t c.args.index.now = ap (words_at s t) c.deref-3.ensures.value ∙ c.in_ok-wide.ensures.words s first t ∙ kept_words c.args.layout.now.dims.items (words_at s t c.args.index.now) c.requires.layout.sizes inside in
      c.in_ok-bank.ensures.word s third t (subst (IsInside c.args.layout.now.dims.items) (sym same) inside) ∙ ap (bank_number (banking_of c.args.layout.now)) same;
  place = λ s run t inside.
      let third = runs_earlier _ _ s c.in_ok-place.ensures.fills.grows run in
      let second = runs_earlier _ _ s c.in_ok-bank.ensures.fills.grows third in
      let first = runs_earlier _ _ s c.in_ok-weighed.ensures.fills.grows second in
      let same : words_at s t c.deref-4.result.now ≡ words_at s t c.args.index.now = ap (words_at s t) c.deref-4.ensures.value ∙ c.in_ok-wide.ensures.words s first t ∙ kept_words c.args.layout.now.dims.items (words_at s t c.args.index.now) c.requires.layout.sizes inside in
      c.in_ok-place.ensures.word s run t (subst (IsInside c.args.layout.now.dims.items) (sym same) inside) ∙ ap (offset (banking_of c.args.layout.now) c.args.layout.now.dims.items) same;
}
