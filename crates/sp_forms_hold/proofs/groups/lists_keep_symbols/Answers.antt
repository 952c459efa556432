use Rattle.std.proofs.Common.{refl}
use Rattle.sp_words.specs.Types.{int_type}
use Rattle.sp_hold.proofs.Likeness.{Kept}
use Rattle.sp_forms_hold.proofs.GroupsSymbols.{list_at}
use Rattle.sp_forms_hold.proofs.groups.lists_keep_symbols.Goals as goal

pub returns : goal.returns
returns c =
    let kept : Kept = record {
      sum = c.wrapping_is_kept.ensures.sum int_type;
      difference = c.wrapping_is_kept.ensures.difference int_type;
      product = c.wrapping_is_kept.ensures.product int_type refl;
      each_word = c.values_are_a_range.ensures.each_word int_type;
      wrapped = c.values_are_a_range.ensures.wrapped int_type;
      types = c.parts_make_the_type.ensures;
    } in
    λ core outside around scope n st ops s t es symbols memories right stands placed fits e begun.
    list_at core kept (c.lists_fit.ensures core) (c.stores_fit.ensures.symbols core) c.accesses_are_at_their_forms.ensures (c.parts_stand_at_their_numbers.ensures core) memories outside around scope n st placed s t es fits symbols begun ops right stands e
