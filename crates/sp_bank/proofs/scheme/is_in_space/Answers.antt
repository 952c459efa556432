use Rattle.std.proofs.Common.{ℕ, ◌*◌, ◌<◌, IsTrue, nat_eq, ◌↔◌, length, get_or, subst, eq-eqb, rules, refl}
use Rattle.std.specs.List.{All}
use Rattle.std.specs.Int.{IsGcd}
use Rattle.std.proofs.lemmas.Bool.{eqb-true}
use Rattle.std.proofs.lemmas.Nat.Gcd.{same_from_IsGcd}
use Rattle.sp_bank.specs.Banking.{Banking, InSpace, IsAllowedSize}
use Rattle.sp_bank.proofs.scheme.is_in_space.Goals as goal

-- the last of the three tests decides, where the others hold
decided : (s : Banking) (g : ℕ) → IsAllowedSize s.banks s.block (length s.alpha) s.hinge → All (λ a. a < s.banks) s.alpha →
    IsGcd (get_or s.alpha s.hinge 0) (s.banks * s.block) g → IsTrue (nat_eq g 1) ↔ InSpace s
decided s g size weights divisor =
    let D : ℕ → Type 0 = λ d. IsGcd (get_or s.alpha s.hinge 0) (s.banks * s.block) d in (
      λ e. record { size = size; weights = weights; hinge = subst D (eqb-true g 1 e) divisor },
      λ space. eq-eqb g 1 (same_from_IsGcd _ _ g 1 divisor space.hinge),
    )

pub returns-then-all_below : goal.returns-then-all_below
returns-then-all_below c =
    let size = rw c.from-hinge.ensures at ((c.if-not-has_allowed_sizes.ensures {u = tt}).0 refl) in
    let divisor = rw c.from-hinge.ensures at c.gcd.ensures in
    decided (record { banks = c.args.banks; block = c.args.block; alpha = c.args.alpha.now; hinge = c.args.hinge }) c.gcd.result size (search rules) divisor
