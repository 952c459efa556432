use Rattle.sp_source.proofs.Exclude.{one_program}
use Rattle.sp_source.proofs.laws.texts_spell_one_program.Goals as goal

pub returns : goal.returns
returns c = one_program
