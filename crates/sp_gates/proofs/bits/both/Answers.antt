use Rattle.std.proofs.Common.{ℕ, ◌≤◌, subst, sym, ◌∙◌}
use Rattle.sp_gates.proofs.Running.{runs_earlier}
use Rattle.sp_gates.proofs.Words.{and_bits, product_bit}
use Rattle.sp_gates.proofs.bits.both.Goals as goal

pub returns-clause-word : goal.returns-clause-word
returns-clause-word c = λ s run t.
    let before = runs_earlier _ _ s c.in_ok-net.ensures.fills.grows run in
    c.in_ok-net.ensures.word s run t ∙ and_bits (s.net t c.args.a) (s.net t c.args.b) (c.requires.left.is_bit s before t) (c.requires.right.is_bit s before t)

pub returns-clause-bit : goal.returns-clause-bit
returns-clause-bit c = record {
  net_stands = c.in_ok-net.ensures.net;
  is_bit = λ s run t.
      let before = runs_earlier _ _ s c.in_ok-net.ensures.fills.grows run in
      let left = c.requires.left.is_bit s before t in
      let right = c.requires.right.is_bit s before t in
      let is = c.in_ok-net.ensures.word s run t ∙ and_bits (s.net t c.args.a) (s.net t c.args.b) left right in
      subst (λ (w : ℕ). w ≤ 1) (sym is) (product_bit (s.net t c.args.a) (s.net t c.args.b) left right);
}
