use Rattle.std.proofs.Common.{◌<◌, ◌≤◌, ◌-◌, ◌^◌, arith, lit<}
use Rattle.std.proofs.Math.Nat.{pow-le-pow_right}
use Rattle.std.proofs.lemmas.Nat.{pow_pos}
use Rattle.sp_verilog.proofs.pieces.top_ones.Goals as goal

pub overflow_sub-result : goal.overflow_sub-result
overflow_sub-result c =
    let low : c.args.width - c.min.result ≤ c.args.width = omega arith in
    omega (arith, c.power.ensures, c.power-2.ensures, pow-le-pow_right {n = 2} (lit< tt) low)
