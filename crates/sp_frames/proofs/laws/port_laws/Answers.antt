use Rattle.sp_frames.proofs.Framing.{no_banks, no_drams, gates_inside, banks_inside, units_inside, inside_join, no_output, no_end, framed, runs_on, first_words}
use Rattle.sp_frames.proofs.Naming.{are_named, no_dims, sizes, nets_stay, net_for_each, has_nets, each_net}
use Rattle.sp_frames.proofs.Stores.{front_stores_none, gates_store_none, banks_store_none, ends_store_none}
use Rattle.sp_frames.proofs.laws.port_laws.Goals as goal

pub returns : goal.returns
returns c = record {
  named = are_named;
  no_dims = no_dims;
  sizes = sizes;
  nets_stay = nets_stay;
  net_for_each = net_for_each;
  has_nets = has_nets;
  each_net = each_net;
  no_drams = no_drams;
  no_banks = no_banks;
  gates_inside = gates_inside;
  banks_inside = banks_inside;
  units_inside = units_inside;
  inside_join = inside_join;
  front_stores_none = front_stores_none;
  gates_store_none = gates_store_none;
  banks_store_none = banks_store_none;
  ends_store_none = ends_store_none;
  no_output = no_output;
  no_end = no_end;
  framed = framed;
  runs_on = runs_on;
  words = first_words;
}
