use Rattle.std.proofs.Common.{◌≡◌, ℕ, subst}
use Rattle.sp_bank.specs.Separation.{IsFirstClash}
use Rattle.sp_bank.proofs.Differences.{first_clash_unique}
use Rattle.sp_bank.proofs.certificate.certify.Goals as goal

pub returns-in-Some-clause-pair : goal.returns-in-Some-clause-pair
returns-in-Some-clause-pair c first second = (
  λ e.
      let is_first : c.in-Some.first ≡ first = cc in
      let is_second : c.in-Some.second ≡ second = cc in
      let P : ℕ → Type 0 = λ n. IsFirstClash c.args.s.now c.args.group.now n c.in-Some.second in
      let Q : ℕ → Type 0 = λ n. IsFirstClash c.args.s.now c.args.group.now first n in
      subst Q is_second (subst P is_first c.in-Some.ensures.found),
  λ clash.
      let both = first_clash_unique c.args.s.now c.args.group.now c.in-Some.first c.in-Some.second first second c.in-Some.ensures.found clash in
      let is_first : c.in-Some.first ≡ first = both.0 in
      let is_second : c.in-Some.second ≡ second = both.1 in
      cc,
)
