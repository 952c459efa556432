use Rattle.std.proofs.Common.{rules, ◌≡◌, ◌-◌, ◌++◌, suc, [], ◌∷◌, replicate, arith}
use Rattle.sp_schemes.proofs.Begun.{one_in_front}
use Rattle.sp_schemes.specs.Groups.{constant_form}
use Rattle.sp_schemes.proofs.groups.+push_zeros.Goals as goal

pub returns : goal.returns
returns t c =
    let tail : c.push_zeros.new.into.items ≡ (c.args.into.now.items ++ constant_form 0 ∷ []) ++ replicate (c.args.count - 1) (constant_form 0) = search rules in
    one_in_front c.args.into.now.items c.push_zeros.new.into.items (constant_form 0) c.args.count (c.args.count - 1) (omega (arith, c.if-count-eq0.false)) tail
