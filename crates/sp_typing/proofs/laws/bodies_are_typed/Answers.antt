use Rattle.sp_typing.proofs.BodyLemmas.{body_right}
use Rattle.sp_typing.proofs.laws.bodies_are_typed.Goals as goal

pub returns : goal.returns
returns c = λ p scope here seen ss all at held read none. body_right p all scope here seen ss at held read none
