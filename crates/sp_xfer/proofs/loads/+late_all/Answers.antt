use Rattle.std.proofs.Common.{suc, [], ◌∷◌, rules, sym, ap, ap₂, ◌∙◌}
use Rattle.std.proofs.lemmas.List.Elements.{All-cons}
use Rattle.sp_gates.specs.Nets.{HasNet}
use Rattle.sp_gates.proofs.Growing.{Fills-none, Fills-join, HasNet-stays, IsOne-stays}
use Rattle.sp_gates.proofs.Running.{runs_earlier}
use Rattle.sp_gates.proofs.Words as gates
use Rattle.sp_slices.proofs.Lists.{first_and_rest}
use Rattle.sp_slices.proofs.Standing.{of_first, of_rest}
use Rattle.sp_xfer.specs.Moving.{words_at}
use Rattle.sp_xfer.proofs.Keeping.{nets_stay}
use Rattle.sp_xfer.proofs.loads.+late_all.Goals as goal

pub returns-in_default-clause-fills : goal.returns-in_default-clause-fills
returns-in_default-clause-fills t c = Fills-none _

pub hold-requires-clause-next : goal.hold-requires-clause-next
hold-requires-clause-next t c = of_first (λ net. HasNet c.args.builder.now net 32) c.args.nets.now _ c.net-item.result (first_and_rest c.args.nets.now c.net-item.result c.in-len1-up.len_at_least c.net-item.is) c.requires.nets

pub late_all-requires : goal.late_all-requires
late_all-requires t c = (search rules, (nets_stay _ _ _ c.in_ok-own.ensures.fills.grows (of_rest (λ net. HasNet c.args.builder.now net 32) c.args.nets.now _ c.net-item.result (first_and_rest c.args.nets.now c.net-item.result c.in-len1-up.len_at_least c.net-item.is) c.requires.nets), IsOne-stays _ _ _ c.in_ok-own.ensures.fills.grows c.requires.one))

pub returns-clause-fills : goal.returns-clause-fills
returns-clause-fills t c = Fills-join _ _ _ [] _ c.in_ok-own.ensures.fills c.in_ok-late.ensures.fills

pub returns-clause-late_nets : goal.returns-clause-late_nets
returns-clause-late_nets t c = rw c.in_ok-insert.ensures.items (All-cons (λ net. HasNet c.late_all.new.builder net 32) _ _ (HasNet-stays _ _ _ _ c.in_ok-late.ensures.fills.grows c.in_ok-own.ensures.net) c.in_ok-late.ensures.late_nets)

pub returns-clause-words : goal.returns-clause-words
returns-clause-words t c = λ s r u.
    let r_own = runs_earlier _ _ s c.in_ok-late.ensures.fills.grows r in
    let r_first = runs_earlier _ _ s c.in_ok-own.ensures.fills.grows r_own in
    ap (words_at s (suc u)) c.in_ok-insert.ensures.items
    ∙ ap₂ (λ w ws. w ∷ ws) (gates.always (λ v. s.net v c.in_ok-own.own) (λ v. s.net v c.net-item.result) (λ v. s.net v c.args.one) 0 (c.in_ok-own.ensures.word s r_own) (c.requires.one.always s r_first) u) (c.in_ok-late.ensures.words s r u)
    ∙ sym (ap (words_at s u) (first_and_rest c.args.nets.now c.net-item.result c.in-len1-up.len_at_least c.net-item.is))
