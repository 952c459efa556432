use Rattle.sp_bodies.proofs.BodyNodes.{body_goes}
use Rattle.sp_bodies.proofs.laws.bodies_are_followed.Goals as goal

pub returns : goal.returns
returns c p roomy core body most view n style h rooms quiet outer_body typed seen spare declared own apart resets followed s after t left rest did enough right a goes =
    body_goes p core h roomy rooms most view body n typed seen spare declared own apart resets followed style quiet outer_body s after t left rest did enough right a goes
