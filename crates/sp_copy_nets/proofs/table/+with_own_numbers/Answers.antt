use Rattle.std.proofs.Common.{◌≡◌, ◌-◌, ◌∷◌, ℕ, List, Option, length, take, drop, slice_set, slice_index_or, sym, subst}
use Rattle.sp_sequence.proofs.Cycles.{first_and_rest}
use Rattle.sp_tree_events.specs.CopiesStanding.{with_numbers}
use Rattle.sp_copy_nets.specs.Numbers.{StandNumbers}
use Rattle.sp_copy_nets.specs.Table.{numbers_at, own_numbers}
use Rattle.sp_copy_nets.proofs.Tables.{first_of, rest_stands, set_stands, table_set}
use Rattle.sp_copy_nets.proofs.table.+with_own_numbers.Goals as goal

pub returns-clause-numbers : goal.returns-clause-numbers
returns-clause-numbers t c = λ m.
    let o = slice_index_or c.args.owned.now 0 0 in
    let nets = c.in_ok-table.table.items in
    let all = numbers_at (slice_set nets o c.net-item.result) m in
    let within = c.requires.owned 0 0 c.in-len1-up.len_at_least in
    subst (λ (os : List ℕ). all ≡ with_numbers (numbers_at c.args.around.now) os (own_numbers os c.args.own.now) m) (sym (first_of c.args.owned.now c.in-len1-up.len_at_least))
    (subst (λ (ns : List (Option ℕ)). all ≡ with_numbers (numbers_at c.args.around.now) (o ∷ take (length c.args.owned.now - 1) (drop 1 c.args.owned.now)) (own_numbers (o ∷ take (length c.args.owned.now - 1) (drop 1 c.args.owned.now)) ns) m)
    (sym (first_and_rest c.args.own.now c.net-item.result c.in-len1-up-own.len_at_least c.net-item.is))
    (table_set (numbers_at c.args.around.now) nets o (take (length c.args.owned.now - 1) (drop 1 c.args.owned.now)) c.net-item.result (take (length c.args.own.now - 1) (drop 1 c.args.own.now)) (rw c.in_ok-table.ensures.long within) c.in_ok-table.ensures.numbers m))

pub returns-clause-stand : goal.returns-clause-stand
returns-clause-stand t c = λ d around own.
    let all = subst (λ (ns : List (Option ℕ)). StandNumbers d ns) (first_and_rest c.args.own.now c.net-item.result c.in-len1-up-own.len_at_least c.net-item.is) own in
    set_stands d c.in_ok-table.table.items (slice_index_or c.args.owned.now 0 0) c.net-item.result (take (length c.args.own.now - 1) (drop 1 c.args.own.now)) (c.in_ok-table.ensures.stand d around (rest_stands d c.net-item.result (take (length c.args.own.now - 1) (drop 1 c.args.own.now)) all)) all
