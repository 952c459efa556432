use Rattle.sp_lane_trees.proofs.ElementsExchange.{exchange}
use Rattle.sp_lane_trees.proofs.elements.elements_exchange.Goals as goal

pub returns : goal.returns
returns c = exchange
