use Rattle.sp_setup.proofs.NumberLaws.{parts_are_texts, texts_have_parts}
use Rattle.sp_setup.proofs.laws.number_texts_have_parts.Goals as goal

pub returns-clause-only : goal.returns-clause-only
returns-clause-only c = parts_are_texts

pub returns-clause-every : goal.returns-clause-every
returns-clause-every c = texts_have_parts
