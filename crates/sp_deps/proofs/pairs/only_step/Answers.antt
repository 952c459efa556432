use Rattle.std.proofs.Common.{◌≡◌, ◌∙◌, ◌-ℤ◌, [], ap, FitsSigned, rules}
use Rattle.std.specs.Int.{w128}
use Rattle.std.proofs.lemmas.Int.{to_z-of_z}
use Rattle.sp_deps.specs.Classes.{last_step, of_common}
use Rattle.sp_deps.proofs.Parallel.{alone}
use Rattle.sp_deps.proofs.pairs.only_step.Goals as goal

pub returns-clause-only : goal.returns-clause-only
returns-clause-only c = λ t h ne.
    let s : FitsSigned w128 c.difference.result = search rules in
    let k : FitsSigned w128 c.last_step-step.result = search rules in
    let coefs : c.deref.result.now ≡ c.args.g.now.coefs = c.deref.ensures.value ∙ ap (λ f. f.coefs) c.g.view_is in
    let step : c.last_step-step.result ≡ last_step (of_common c.args.loops.now [] c.args.g.now.coefs) c.args.loops.now =
    c.last_step-step.ensures.step ∙ ap (λ xs. last_step xs c.args.loops.now) (rw coefs at c.parts-second.ensures.common) in
    let start : c.difference.result ≡ c.args.g.now.constant -ℤ c.args.f.now.constant =
    rw (ap (λ f. f.constant) c.g.view_is, ap (λ f. f.constant) c.f.view_is) at c.difference.ensures.value in
    alone c.args.loops.now c.args.f.now c.args.g.now c.quotient.result t c.requires.parallel
    (λ u some zero. c.quotient.ensures.only u some (rw (to_z-of_z w128 _ s, to_z-of_z w128 _ k, start, step) zero)) h ne
