use Rattle.sp_port_nets.proofs.Standing.{have_words}
use Rattle.sp_port_nets.proofs.laws.arguments_have_words.Goals as goal

pub returns : goal.returns
returns c core input ports net right many each given m l e t = have_words core right input ports net many each given m l e t
