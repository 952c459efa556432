use Rattle.sp_words.specs.Names.{reserved_words}
use Rattle.sp_words.proofs.NameLemmas.{among_decided}
use Rattle.sp_words.proofs.names.is_reserved.Goals as goal

pub returns : goal.returns
returns c = among_decided reserved_words c.args.name.now c.is_among.result c.is_among.ensures
