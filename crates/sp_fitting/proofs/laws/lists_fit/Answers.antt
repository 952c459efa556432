use Rattle.sp_fitting.proofs.Lists.{list_keeps, masks_are_bits}
use Rattle.sp_fitting.proofs.Moments.{list_fit, stores_fit}
use Rattle.sp_fitting.proofs.Words.{Operators}
use Rattle.sp_fitting.proofs.laws.lists_fit.Goals as goal

pub returns : goal.returns
returns c =
    let known : Operators = record {
      sum = c.operators_give_words.ensures.sum;
      difference = c.operators_give_words.ensures.difference;
      product = c.operators_give_words.ensures.product;
      quotient = c.operators_give_words.ensures.quotient;
      remainder = c.operators_give_words.ensures.remainder;
      both = c.operators_give_words.ensures.both;
      either = c.operators_give_words.ensures.either;
      unlike = c.operators_give_words.ensures.unlike;
      least = c.operators_give_words.ensures.least;
      greatest = c.operators_give_words.ensures.greatest;
      turned = c.operators_give_words.ensures.turned;
      shifted_left = c.operators_give_words.ensures.shifted_left;
      shifted_right = c.operators_give_words.ensures.shifted_right;
      cast = c.operators_give_words.ensures.cast;
      wrapped = c.values_are_a_range.ensures.wrapped;
    } in
    λ core around scope ops s t es memories right fits went.
    let h = list_keeps core known memories around scope ops right s t es fits went in
    record {
      left = h.0;
      entries = h.1;
      masks = masks_are_bits core around ops es right h.1;
      stores = λ n st. stores_fit core memories _ s (list_fit core around n st ops es right h.1) fits;
    }
