use Rattle.std.proofs.Common.{◌≡◌, slice_index, rules}
use Rattle.std.proofs.lemmas.List.Sorted.{IsNonDecreasingBy-from_sort_by_key}
use Rattle.sp_netlist.proofs.order.sort_by_number.Goals as goal

pub returns-clause-sorted : goal.returns-clause-sorted
returns-clause-sorted c = IsNonDecreasingBy-from_sort_by_key (λ at. slice_index c.args.numbers.now at) _ c.sort_unstable_by_key.ensures.sorted (λ a r q k. search rules)
