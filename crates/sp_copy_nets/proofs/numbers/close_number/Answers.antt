use Rattle.std.proofs.Common.{[], ◌∷◌, Some, refl, sym, subst, arith}
use Rattle.sp_gates.specs.Grows.{Fills}
use Rattle.sp_gates.specs.Nets.{HasNet}
use Rattle.sp_gates.proofs.Growing.{Fills-none}
use Rattle.sp_copy_nets.specs.Fits.{AwaitNumbers, HasCopies, given_nets}
use Rattle.sp_copy_nets.specs.Numbers.{IsNumbered}
use Rattle.sp_copy_nets.proofs.Filling.{some_is}
use Rattle.sp_copy_nets.proofs.numbers.close_number.Goals as goal

pub returns-in_default-clause-fills : goal.returns-in_default-clause-fills
returns-in_default-clause-fills c = subst (λ x. Fills c.args.builder.now c.args.builder.now (given_nets (x ∷ []))) (sym c.in_default.is) (Fills-none c.args.builder.now)

pub emit_number-requires-clause-turn : goal.emit_number-requires-clause-turn
emit_number-requires-clause-turn c = record {
  first = c.requires.first;
  copies = subst (HasCopies c.args.copies) c.in-Some.is c.requires.copied;
  net = (let h = subst (λ x. AwaitNumbers c.args.builder.now (given_nets (x ∷ []))) c.in-Some.is c.requires.awaited in h.each c.in-Some.net (0, omega arith, refl));
}

pub returns-clause-numbered : goal.returns-clause-numbered
returns-clause-numbered c =
    let e = c.in_ok-coming.ensures in
    subst (λ x. IsNumbered c.emit_number.new.builder c.args.start c.args.first c.args.copies x (Some c.in_ok-coming.coming)) (sym c.in-Some.is)
    (record { stands = λ n is. subst (λ m. HasNet c.emit_number.new.builder m 32) (some_is c.in_ok-coming.coming n is) e.net; number = e.number; comes = e.coming })
