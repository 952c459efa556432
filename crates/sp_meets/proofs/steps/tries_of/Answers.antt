use Rattle.std.proofs.Common.{◌≡◌, ◌∙◌, ◌-ℤ◌, ℤ, List, ap, subst, unsigned_abs}
use Rattle.sp_meets.specs.Steps.{AreTriesBy}
use Rattle.sp_meets.proofs.Parallel.{tries_are}
use Rattle.sp_meets.proofs.steps.tries_of.Goals as goal

pub returns : goal.returns
returns c =
    let f = c.args.f.now in
    let g = c.args.g.now in
    let xs : c.deref.result.now ≡ f.coefs = c.deref.ensures.value ∙ ap (λ f. f.coefs) c.f.view_is in
    let ys : c.deref-2.result.now ≡ g.coefs = c.deref-2.ensures.value ∙ ap (λ f. f.coefs) c.g.view_is in
    let start : c.apart-start.result ≡ unsigned_abs (g.constant -ℤ f.constant) =
    rw (ap (λ f. f.constant) c.g.view_is, ap (λ f. f.constant) c.f.view_is) at c.apart-start.ensures in
    let X : List ℤ → Type 0 = λ z. AreTriesBy c.args.common.now c.args.first.now c.args.second.now z c.deref-2.result.now c.apart-start.result c.tries_by.result in
    let Y : List ℤ → Type 0 = λ z. AreTriesBy c.args.common.now c.args.first.now c.args.second.now f.coefs z c.apart-start.result c.tries_by.result in
    tries_are c.args.common.now c.args.first.now c.args.second.now f g c.apart-start.result start c.requires.parallel c.requires.alike c.tries_by.result (subst Y ys (subst X xs c.tries_by.ensures))
