use Rattle.sp_lane_trees.proofs.ReductionsNode.{reductions_go}
use Rattle.sp_lane_trees.proofs.reductions.reductions_go.Goals as goal

pub returns : goal.returns
returns c core = reductions_go core (c.lists_fit.ensures core) (c.nodes_fit.ensures core) (c.stores_fit.ensures.words core) (record {
  sum = c.operators_associate.ensures.sum;
  product = c.operators_associate.ensures.product;
  both = c.operators_associate.ensures.both;
  either = c.operators_associate.ensures.either;
  unlike = c.operators_associate.ensures.unlike;
  least = c.operators_associate.ensures.least;
  greatest = c.operators_associate.ensures.greatest;
  gives_sum = c.operators_give_words.ensures.sum;
  gives_product = c.operators_give_words.ensures.product;
  gives_both = c.operators_give_words.ensures.both;
  gives_either = c.operators_give_words.ensures.either;
  gives_unlike = c.operators_give_words.ensures.unlike;
  gives_least = c.operators_give_words.ensures.least;
  gives_greatest = c.operators_give_words.ensures.greatest;
}) (c.places_have_room.ensures core)
