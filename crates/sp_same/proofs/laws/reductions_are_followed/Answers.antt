use Rattle.sp_same.proofs.Reductions.{reduction_goes}
use Rattle.sp_same.proofs.laws.reductions_are_followed.Goals as goal

pub returns : goal.returns
returns c p roomy core body most view style fold acc loops e comb b n place s after t left rest did h rooms is typed seen apart own resets a ready begun goes =
    reduction_goes p core h roomy body rooms most view seen loops typed.1 is typed.2 apart own resets acc e comb typed.3 typed.5 place b left rest style fold s after t did a ready goes n begun
