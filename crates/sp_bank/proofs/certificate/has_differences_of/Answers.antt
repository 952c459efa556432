use Rattle.std.proofs.Common.{◌≡◌, ◌/◌, ◌<◌, ◌≤◌, pos, length, get_or, ap, sym, ◌∙◌, arith, rules, refl, FitsSigned, to_z, of_z}
use Rattle.std.specs.Int.{w64}
use Rattle.std.proofs.lemmas.Int.{to_z-of_z}
use Rattle.std.proofs.lemmas.List.{take_all, take_more_same}
use Rattle.sp_bank.specs.Separation.{differences_of, residue_of, constants, access, access_count}
use Rattle.sp_bank.proofs.Differences.{length-differences_of, get_or-differences_of}
use Rattle.sp_bank.proofs.certificate.has_differences_of.Goals as goal

pub returns-then-differences-group : goal.returns-then-differences-group
returns-then-differences-group c =
    let rank : c.len-rank.result ≡ length c.args.s.now.alpha = c.len-rank.ensures.value ∙ ap (λ s. length s.alpha) c.s.view_is in (
      λ h. cc,
      λ same. absurd (c.if-differences-group.true
          (ap length same ∙ length-differences_of c.args.s.now c.args.group.now ∙ ap (λ r. length c.args.group.now / r) (sym rank))),
    )

pub returns-then-difference-from : goal.returns-then-difference-from
returns-then-difference-from c =
    let rank : c.len-rank.result ≡ length c.args.s.now.alpha = c.len-rank.ensures.value ∙ ap (λ s. length s.alpha) c.s.view_is in
    let long : length c.args.differences.now ≡ access_count (length c.args.s.now.alpha) c.args.group.now =
    c.if-differences-group.false ∙ ap (λ r. length c.args.group.now / r) rank in
    let forms : c.access_of.result.now ≡ access (length c.args.s.now.alpha) c.args.group.now c.loop-u.u =
    c.access_of.ensures.forms ∙ ap (λ r. access r c.args.group.now c.loop-u.u) rank in
    let value : c.from.result ≡ residue_of c.args.s.now (constants (access (length c.args.s.now.alpha) c.args.group.now c.loop-u.u)) =
    c.from.ensures ∙ c.residue.ensures.value ∙ ap (λ f. residue_of c.args.s.now (constants f)) forms in
    let inside : c.loop-u.u < access_count (length c.args.s.now.alpha) c.args.group.now = omega (arith, long, c.loop-u-test.true) in
    let fits : FitsSigned w64 c.from.result = search rules in
    let fits_known : FitsSigned w64 (get_or c.args.differences.now c.loop-u.u (pos 0)) = search rules in
    let wanted = value ∙ sym (get_or-differences_of c.args.s.now c.args.group.now c.loop-u.u inside) in (
      λ h. cc,
      λ same. absurd (c.if-difference-from.true
          (ap (of_z w64) (ap (λ xs. get_or xs c.loop-u.u (pos 0)) same ∙ sym wanted))),
    )

pub loop-u-preserved : goal.loop-u-preserved
loop-u-preserved c =
    let rank : c.len-rank.result ≡ length c.args.s.now.alpha = c.len-rank.ensures.value ∙ ap (λ s. length s.alpha) c.s.view_is in
    let long : length c.args.differences.now ≡ access_count (length c.args.s.now.alpha) c.args.group.now =
    c.if-differences-group.false ∙ ap (λ r. length c.args.group.now / r) rank in
    let forms : c.access_of.result.now ≡ access (length c.args.s.now.alpha) c.args.group.now c.loop-u.u =
    c.access_of.ensures.forms ∙ ap (λ r. access r c.args.group.now c.loop-u.u) rank in
    let value : c.from.result ≡ residue_of c.args.s.now (constants (access (length c.args.s.now.alpha) c.args.group.now c.loop-u.u)) =
    c.from.ensures ∙ c.residue.ensures.value ∙ ap (λ f. residue_of c.args.s.now (constants f)) forms in
    let inside : c.loop-u.u < access_count (length c.args.s.now.alpha) c.args.group.now = omega (arith, long, c.loop-u-test.true) in
    let fits : FitsSigned w64 c.from.result = search rules in
    let fits_known : FitsSigned w64 (get_or c.args.differences.now c.loop-u.u (pos 0)) = search rules in
    let wanted = value ∙ sym (get_or-differences_of c.args.s.now c.args.group.now c.loop-u.u inside) in
    let equal : get_or c.args.differences.now c.loop-u.u (pos 0) ≡ c.from.result =
    sym (to_z-of_z w64 _ fits_known) ∙ ap (to_z w64) c.if-difference-from.false ∙ to_z-of_z w64 _ fits in
    take_more_same c.args.differences.now (differences_of c.args.s.now c.args.group.now) c.loop-u.u (pos 0)
    c.loop-u-test.true (omega (arith, inside, length-differences_of c.args.s.now c.args.group.now)) c.loop-u.invariant (equal ∙ wanted)

pub returns : goal.returns
returns c =
    let rank : c.len-rank.result ≡ length c.args.s.now.alpha = c.len-rank.ensures.value ∙ ap (λ s. length s.alpha) c.s.view_is in
    let long : length c.args.differences.now ≡ access_count (length c.args.s.now.alpha) c.args.group.now =
    c.if-differences-group.false ∙ ap (λ r. length c.args.group.now / r) rank in
    let past : length c.args.differences.now ≤ c.loop-u.u = c.loop-u-test.false in
    let past_too : length (differences_of c.args.s.now c.args.group.now) ≤ c.loop-u.u = omega (arith, past, long, length-differences_of c.args.s.now c.args.group.now) in (
      λ h. rw (take_all c.loop-u.u c.args.differences.now past, take_all c.loop-u.u (differences_of c.args.s.now c.args.group.now) past_too) at c.loop-u.invariant,
      λ h. refl,
    )
