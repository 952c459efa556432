use Rattle.std.proofs.Common.{ℕ}
use Rattle.sp_core.specs.Events.{Standing}
use Rattle.sp_fitting.proofs.Moments.{node_fits, stores_fit}
use Rattle.sp_fitting.proofs.Nodes.{node_keeps}
use Rattle.sp_fitting.proofs.Words.{Operators}
use Rattle.sp_fitting.proofs.laws.nodes_fit.Goals as goal

pub returns : goal.returns
returns c =
    let known : Operators = record {
      sum = c.operators_give_words.ensures.sum;
      difference = c.operators_give_words.ensures.difference;
      product = c.operators_give_words.ensures.product;
      quotient = c.operators_give_words.ensures.quotient;
      remainder = c.operators_give_words.ensures.remainder;
      both = c.operators_give_words.ensures.both;
      either = c.operators_give_words.ensures.either;
      unlike = c.operators_give_words.ensures.unlike;
      least = c.operators_give_words.ensures.least;
      greatest = c.operators_give_words.ensures.greatest;
      turned = c.operators_give_words.ensures.turned;
      shifted_left = c.operators_give_words.ensures.shifted_left;
      shifted_right = c.operators_give_words.ensures.shifted_right;
      cast = c.operators_give_words.ensures.cast;
      wrapped = c.values_are_a_range.ensures.wrapped;
    } in
    λ core reading turns node around earlier scope s t h memories right fits went.
    let n = node_keeps core known memories reading turns node around earlier scope right s t h fits went in
    let happens = λ (k i : ℕ) (st : Standing). node_fits core reading node around earlier right h n.1 k i st in
    record { left = n.0; history = n.1; happening = happens; stores = λ k i st. stores_fit core memories _ s (happens k i st) fits }
