use Rattle.sp_channels.proofs.Standing.{load_stays}
use Rattle.sp_channels.proofs.StoreStanding.{store_stays}
use Rattle.sp_channels.proofs.laws.channel_laws.Goals as goal

pub returns : goal.returns
returns c = record { load_stays = load_stays; store_stays = store_stays }
