use Rattle.std.proofs.Common.{ℕ, ◌+◌, ◌++◌, [], ◌∷◌, List, Option, None, length, sym, ap, subst, ◌∙◌}
use Rattle.std.proofs.lemmas.List.{length-append}
use Rattle.sp_copy_nets.specs.Numbers.{StandNumbers}
use Rattle.sp_copy_nets.specs.Table.{numbers_at}
use Rattle.sp_copy_nets.proofs.Tables.{nothing_at, nothing_more, nothing_stands}
use Rattle.sp_copy_nets.proofs.table.no_number_table.Goals as goal

pub loop-memory-preserved : goal.loop-memory-preserved
loop-memory-preserved c = record {
  none = c.in_ok-push.ensures.items ∙ ap (λ (nets : List (Option ℕ)). nets ++ None ∷ []) c.loop-memory.invariant.none ∙ nothing_more c.loop-memory._memory;
  each = ap length c.in_ok-push.ensures.items ∙ length-append c.loop-memory.nets.items (None ∷ []) ∙ ap (λ n. n + 1) c.loop-memory.invariant.each;
}

pub returns-clause-numbers : goal.returns-clause-numbers
returns-clause-numbers c = λ m. ap (λ (nets : List (Option ℕ)). numbers_at nets m) c.loop-memory.invariant.none ∙ nothing_at c.loop-memory._memory m

pub returns-clause-stand : goal.returns-clause-stand
returns-clause-stand c = λ d. subst (λ (nets : List (Option ℕ)). StandNumbers d nets) (sym c.loop-memory.invariant.none) (nothing_stands d c.loop-memory._memory)
