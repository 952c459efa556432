use Rattle.sp_same.proofs.InnerBodies.{body_goes}
use Rattle.sp_same.proofs.laws.inner_bodies_are_followed.Goals as goal

pub returns : goal.returns
returns c p roomy core body most view n style h rooms is typed apart own resets = body_goes p core h roomy body rooms most view is typed apart own resets n style
