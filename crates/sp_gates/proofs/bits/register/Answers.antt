use Rattle.std.proofs.Common.{◌≡◌, ℕ, ◌≤◌, ◌∙◌, sym, subst, if◌then◌else◌}
use Rattle.sp_gates.proofs.Running.{runs_earlier}
use Rattle.sp_gates.proofs.Words.{always, held_bit, chosen_bit}
use mir.Val.{bool_byte}
use Rattle.std.proofs.Common.{Bool, true, false, refl}
use Rattle.sp_gates.proofs.bits.register.Goals as goal

byte_of : (b : Bool) → bool_byte b ≡ (if b then 1 else 0)
byte_of true = refl
byte_of false = refl

pub returns-clause-first : goal.returns-clause-first
returns-clause-first c = λ s run. (c.in_ok-net.ensures.word s run).0 ∙ c.from.ensures ∙ byte_of c.args.first

pub returns-clause-later : goal.returns-clause-later
returns-clause-later c = λ s run.
    let before = runs_earlier _ _ s c.in_ok-net.ensures.fills.grows run in
    always (λ t. s.net t c.in_ok-net.net) (λ t. s.net t c.args.next) (λ t. s.net t c.args.one) _ (c.in_ok-net.ensures.word s run) (c.requires.one.always s before)

pub returns-clause-bit : goal.returns-clause-bit
returns-clause-bit c = record {
  net_stands = c.in_ok-net.ensures.net;
  is_bit = λ s run.
      let before = runs_earlier _ _ s c.in_ok-net.ensures.fills.grows run in
      let small : c.from.result ≤ 1 = subst (λ (w : ℕ). w ≤ 1) (sym (c.from.ensures ∙ byte_of c.args.first)) (chosen_bit c.args.first) in
      held_bit (λ t. s.net t c.in_ok-net.net) (λ t. s.net t c.args.next) (λ t. s.net t c.args.one) c.from.result small (c.in_ok-net.ensures.word s run) (c.requires.one.always s before)
      (c.requires.next.is_bit s before);
}
