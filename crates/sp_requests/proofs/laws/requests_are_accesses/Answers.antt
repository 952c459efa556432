use Rattle.sp_requests.proofs.Kept.{requests_stay}
use Rattle.sp_requests.proofs.Found.{agree}
use Rattle.sp_requests.proofs.Writing.{writes}
use Rattle.sp_requests.proofs.laws.requests_are_accesses.Goals as goal

pub returns : goal.returns
returns c = record { stay = requests_stay; agree = agree; writes = writes }
