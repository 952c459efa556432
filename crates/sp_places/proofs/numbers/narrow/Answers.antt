use Rattle.std.proofs.Common.{ap, ◌∙◌, ◌%◌, ◌^◌}
use Rattle.sp_places.proofs.Unsigned.{cast_is}
use Rattle.sp_places.proofs.numbers.narrow.Goals as goal

pub returns-clause-word : goal.returns-clause-word
returns-clause-word c = λ s run t.
    c.in_ok-net.ensures.word s run t
    ∙ cast_is c.unsigned.result c.unsigned-2.result c.unsigned.ensures.sign c.unsigned.ensures.frac c.unsigned-2.ensures.frac (s.net t c.args.a)
    ∙ ap (λ w. s.net t c.args.a % 2 ^ w) c.unsigned-2.ensures.width
