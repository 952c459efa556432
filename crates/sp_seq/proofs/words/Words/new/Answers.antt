use Rattle.std.proofs.Common.{◌<◌, ◌≤◌, ◌^◌, sym, subst, All}
use Rattle.std.proofs.lemmas.List.Elements.{All-replicate}
use Rattle.std.proofs.Math.Pow.{pow_pos}
use Rattle.sp_seq.proofs.words.Words.new.Goals as goal

pub invariant_of-result : goal.invariant_of-result
invariant_of-result c = (
  subst (All (λ w. w < 2 ^ c.args.width)) (sym c.in_ok-words.ensures.numbers) (All-replicate (λ w. w < 2 ^ c.args.width) c.args.len 0 (pow_pos c.args.width)),
  subst (λ b. 2 ^ c.args.width ≤ 256 ^ b) (sym c.in_ok-words.ensures.width) c.bytes_for.ensures.holds,
)
