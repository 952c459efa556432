use Rattle.std.proofs.Common.{ℕ, ◌≤◌, ◌==◌, [], subst, sym, ◌∙◌}
use Rattle.sp_gates.proofs.Growing.{Fills-join, HasNet-stays}
use Rattle.sp_gates.proofs.Running.{runs_earlier}
use Rattle.sp_gates.proofs.Words.{equal_word, chosen_bit}
use Rattle.sp_gates.proofs.bits.equals.Goals as goal

pub operate-requires-clause-left : goal.operate-requires-clause-left
operate-requires-clause-left c = HasNet-stays _ _ _ _ c.in_ok-wanted.ensures.fills.grows c.requires.operand

pub returns-clause-fills : goal.returns-clause-fills
returns-clause-fills c = Fills-join _ _ _ [] [] c.in_ok-wanted.ensures.fills c.in_ok-net.ensures.fills

pub returns-clause-word : goal.returns-clause-word
returns-clause-word c = λ s run t.
    let before = runs_earlier _ _ s c.in_ok-net.ensures.fills.grows run in
    c.in_ok-net.ensures.word s run t ∙ equal_word c.args.ty (s.net t c.args.a) (s.net t c.in_ok-wanted.wanted) c.args.number (c.in_ok-wanted.ensures.word s before t)

pub returns-clause-bit : goal.returns-clause-bit
returns-clause-bit c = record {
  net_stands = c.in_ok-net.ensures.net;
  is_bit = λ s run t.
      let before = runs_earlier _ _ s c.in_ok-net.ensures.fills.grows run in
      let is = c.in_ok-net.ensures.word s run t ∙ equal_word c.args.ty (s.net t c.args.a) (s.net t c.in_ok-wanted.wanted) c.args.number (c.in_ok-wanted.ensures.word s before t) in
      subst (λ (w : ℕ). w ≤ 1) (sym is) (chosen_bit (s.net t c.args.a == c.args.number));
}
