use Rattle.sp_same.proofs.EarlyWords.{early_goes}
use Rattle.sp_same.proofs.laws.early_stages_are_followed.Goals as goal

pub returns : goal.returns
returns c p roomy core kind most view b place s after t left rest did h typed before cells a goes = early_goes p core h most view left s b t a roomy kind place rest after did typed before cells goes
