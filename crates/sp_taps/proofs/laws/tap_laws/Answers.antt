use Rattle.sp_taps.proofs.Promised.{driven, store_stays, wire_stays}
use Rattle.sp_taps.proofs.laws.tap_laws.Goals as goal

pub returns : goal.returns
returns c = record { driven = driven; store_stays = store_stays; wire_stays = wire_stays }
