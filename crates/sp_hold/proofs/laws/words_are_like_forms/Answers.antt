use Rattle.std.proofs.Common.{refl}
use Rattle.sp_words.specs.Types.{int_type}
use Rattle.sp_hold.proofs.Likeness.{Kept}
use Rattle.sp_hold.proofs.ListWords.{words_are_like}
use Rattle.sp_hold.proofs.laws.words_are_like_forms.Goals as goal

pub returns : goal.returns
returns c =
    let kept : Kept = record {
      sum = c.wrapping_is_kept.ensures.sum int_type;
      difference = c.wrapping_is_kept.ensures.difference int_type;
      product = c.wrapping_is_kept.ensures.product int_type refl;
      each_word = c.values_are_a_range.ensures.each_word int_type;
      wrapped = c.values_are_a_range.ensures.wrapped int_type;
      types = c.parts_make_the_type.ensures;
    } in
    words_are_like kept
