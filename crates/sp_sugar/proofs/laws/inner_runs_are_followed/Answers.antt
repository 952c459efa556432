use Rattle.sp_sugar.proofs.InnerRuns.{runs_follow}
use Rattle.sp_sugar.proofs.laws.inner_runs_are_followed.Goals as goal

pub returns : goal.returns
returns c p roomy core body view run waits s after t left rest shapes h rooms inner typed apart same g went = runs_follow p core h waits roomy body rooms view run t s after left rest shapes g inner typed apart same went
