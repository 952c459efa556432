use Rattle.std.proofs.Common.{◌≡◌, ◌<◌, ◌≤◌, ℤ, List, [], ◌∷◌, ◌++◌, length, take, ap, sym, ◌∙◌, arith, rules, FitsSigned}
use Rattle.std.specs.Int.{w64}
use Rattle.std.proofs.lemmas.Int.{to_z-of_z}
use Rattle.std.proofs.lemmas.List.{take_all}
use Rattle.sp_bank.specs.Separation.{differences_of, residue_of, constants, access, access_count}
use Rattle.sp_bank.proofs.Differences.{length-differences_of, take-differences_of}
use Rattle.sp_bank.proofs.certificate.residues.Goals as goal

pub loop-u-preserved : goal.loop-u-preserved
loop-u-preserved c =
    let rank : c.len-rank.result ≡ length c.args.s.now.alpha = c.len-rank.ensures.value ∙ ap (λ s. length s.alpha) c.s.view_is in
    let forms : c.access_of.result.now ≡ access (length c.args.s.now.alpha) c.args.group.now c.loop-u.u =
    c.access_of.ensures.forms ∙ ap (λ r. access r c.args.group.now c.loop-u.u) rank in
    let value : c.from.result ≡ residue_of c.args.s.now (constants (access (length c.args.s.now.alpha) c.args.group.now c.loop-u.u)) =
    c.from.ensures ∙ c.residue.ensures.value ∙ ap (λ f. residue_of c.args.s.now (constants f)) forms in
    let inside : c.loop-u.u < access_count (length c.args.s.now.alpha) c.args.group.now = rw rank at c.loop-u-test.true in
    let fits : FitsSigned w64 c.from.result = search rules in
    let items = rw (to_z-of_z w64 _ fits) at c.in_ok-push.ensures.items in
    let put : List ℤ → List ℤ = λ z. z ++ c.from.result ∷ [] in
    let last : ℤ → List ℤ = λ z. take c.loop-u.u (differences_of c.args.s.now c.args.group.now) ++ z ∷ [] in
    items ∙ ap put c.loop-u.invariant ∙ ap last value ∙ sym (take-differences_of c.args.s.now c.args.group.now c.loop-u.u inside)

pub returns : goal.returns
returns c =
    let rank : c.len-rank.result ≡ length c.args.s.now.alpha = c.len-rank.ensures.value ∙ ap (λ s. length s.alpha) c.s.view_is in
    let done = rw rank at c.loop-u-test.false in
    let past : length (differences_of c.args.s.now c.args.group.now) ≤ c.loop-u.u = omega (arith, done, length-differences_of c.args.s.now c.args.group.now) in
    c.loop-u.invariant ∙ take_all c.loop-u.u (differences_of c.args.s.now c.args.group.now) past
