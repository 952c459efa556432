use Rattle.std.proofs.Common.{refl}
use Rattle.sp_words.specs.Types.{int_type}
use Rattle.sp_hold.proofs.Likeness.{Kept}
use Rattle.sp_forms_hold.proofs.HoldCounts.{count_holds}
use Rattle.sp_forms_hold.proofs.hold.counts_hold.Goals as goal

pub returns : goal.returns
returns c =
    let kept : Kept = record {
      sum = c.wrapping_is_kept.ensures.sum int_type;
      difference = c.wrapping_is_kept.ensures.difference int_type;
      product = c.wrapping_is_kept.ensures.product int_type refl;
      each_word = c.values_are_a_range.ensures.each_word int_type;
      wrapped = c.values_are_a_range.ensures.wrapped int_type;
      types = c.parts_make_the_type.ensures;
    } in
    λ core outside around scope n st count s t u es memories right stands placed fits e.
    count_holds core outside kept (c.values_are_a_range.ensures.each_value int_type) around scope st placed (c.lists_fit.ensures core) (c.parts_stand_at_their_numbers.ensures core) n count s t u es memories right stands fits e
