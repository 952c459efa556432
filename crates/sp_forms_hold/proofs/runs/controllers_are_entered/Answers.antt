use Rattle.std.proofs.Common.{refl}
use Rattle.sp_words.specs.Types.{int_type}
use Rattle.sp_forms_hold.proofs.RunsBounds.{Known}
use Rattle.sp_forms_hold.proofs.RunsGroups.{entered}
use Rattle.sp_forms_hold.proofs.runs.controllers_are_entered.Goals as goal

pub returns-clause-outside : goal.returns-clause-outside
returns-clause-outside c = record { in_scope = tt; in_ranges = tt; each_range = refl }

pub returns-clause-inside : goal.returns-clause-inside
returns-clause-inside c core =
    let known : Known core = record {
      lists = c.lists_fit.ensures core;
      like = c.words_are_like_forms.ensures core;
      in_range = c.values_are_a_range.ensures.in_range int_type;
      each_word = c.values_are_a_range.ensures.each_word int_type;
      each_value = c.values_are_a_range.ensures.each_value int_type;
    } in
    entered core known c.counters_have_their_values.ensures
