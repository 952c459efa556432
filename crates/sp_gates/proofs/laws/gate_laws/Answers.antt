use Rattle.sp_gates.proofs.Growing.{HasNet-stays, HasBit-stays, IsOne-stays, Awaits-stays, Fills-none, Fills-join, reserved, same_nets, no_gates, more_gates, fills_build, Builds-join, built_reserved, same_built, complete}
use Rattle.sp_gates.proofs.Running.{runs_whole, runs_earlier}
use Rattle.sp_gates.proofs.laws.gate_laws.Goals as goal

pub returns : goal.returns
returns c = record {
  whole = runs_whole;
  earlier = runs_earlier;
  net_stays = HasNet-stays;
  bit_stays = HasBit-stays;
  one_stays = IsOne-stays;
  awaits_stays = Awaits-stays;
  no_growth = Fills-none;
  one_more = Fills-join;
  reserved = reserved;
  same_nets = same_nets;
  no_gates = no_gates;
  more_gates = more_gates;
  fills_build = fills_build;
  more_built = Builds-join;
  built_reserved = built_reserved;
  same_built = same_built;
  complete = complete;
}
