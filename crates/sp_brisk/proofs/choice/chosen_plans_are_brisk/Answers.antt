use Rattle.sp_brisk.proofs.ChoiceChosen.{chosen_plans_are_brisk}
use Rattle.sp_brisk.proofs.choice.chosen_plans_are_brisk.Goals as goal

pub returns : goal.returns
returns c = chosen_plans_are_brisk
