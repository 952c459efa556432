use Rattle.std.proofs.Common.{refl}
use Rattle.sp_beat_words.specs.Numbers.{copy_number}
use Rattle.sp_beat_words.proofs.examples.worked_numbers.Goals as goal

pub returns : goal.returns
unfolding copy_number
returns c = record { numbers = refl; coming = refl; alone = refl }
