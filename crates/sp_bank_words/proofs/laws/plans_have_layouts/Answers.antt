use Rattle.sp_bank_words.proofs.Lying.{plans_have_layouts}
use Rattle.sp_bank_words.proofs.laws.plans_have_layouts.Goals as goal

pub returns : goal.returns
returns c = plans_have_layouts
