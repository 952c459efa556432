use Rattle.sp_gates.proofs.bits.one.Goals as goal

pub returns-clause-one : goal.returns-clause-one
returns-clause-one c = record { net_stands = c.in_ok-net.ensures.net; always = c.in_ok-net.ensures.word }
