use Rattle.std.proofs.Common.{arith}
use Rattle.std.proofs.lemmas.Nat.{one_shl}
use Rattle.sp_verilog.proofs.pieces.power.Goals as goal

pub returns : goal.returns
returns c = one_shl c.args.exponent 128 (omega arith)
