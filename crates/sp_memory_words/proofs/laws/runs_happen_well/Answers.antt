use Rattle.sp_memory_words.proofs.Running.{runs_happen_well}
use Rattle.sp_memory_words.proofs.laws.runs_happen_well.Goals as goal

pub returns : goal.returns
returns c core plan delays =
    runs_happen_well core plan delays (c.runs_are_inside.ensures core) (c.runs_are_allowed.ensures core) (c.timelines_tell_all.ensures core plan delays core.root) (c.runs_have_copies.ensures core plan delays) (c.timelines_are_of_items.ensures core plan delays)
