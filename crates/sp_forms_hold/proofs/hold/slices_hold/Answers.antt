use Rattle.std.proofs.Common.{refl}
use Rattle.sp_words.specs.Types.{int_type}
use Rattle.sp_hold.proofs.Likeness.{Kept}
use Rattle.sp_forms_hold.proofs.HoldSlices.{spans_hold}
use Rattle.sp_forms_hold.proofs.hold.slices_hold.Goals as goal

pub returns : goal.returns
returns c =
    let kept : Kept = record {
      sum = c.wrapping_is_kept.ensures.sum int_type;
      difference = c.wrapping_is_kept.ensures.difference int_type;
      product = c.wrapping_is_kept.ensures.product int_type refl;
      each_word = c.values_are_a_range.ensures.each_word int_type;
      wrapped = c.values_are_a_range.ensures.wrapped int_type;
      types = c.parts_make_the_type.ensures;
    } in
    λ core reading turns outside around scope n st r spans s t ts memories right stands placed fits e.
    spans_hold core outside kept around scope st placed c.indices_are_their_forms.ensures (c.stores_fit.ensures.symbols core) (c.parts_stand_at_their_numbers.ensures core) reading turns n r spans s t ts memories right stands fits e
