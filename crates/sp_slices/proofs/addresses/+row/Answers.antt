use Rattle.std.proofs.Common.{◌≡◌, ◌-◌, ◌+◌, ◌*◌, ◌%◌, ◌^◌, List, [], ℕ, length, get_or, take, drop, rules, sym, ap, ap₂, ◌∙◌, arith, lit<}
use Rattle.sp_words.specs.Interface.{word_count}
use Rattle.sp_core.specs.Elements.{row_major}
use Rattle.sp_gates.proofs.Growing.{Fills-none, Fills-join, HasNet-stays}
use Rattle.sp_gates.proofs.Running.{runs_earlier}
use Rattle.sp_counters.specs.declared.part.Counter.{Counter}
use Rattle.sp_counters.specs.Fits.{IsCounter}
use Rattle.sp_slices.specs.Slices.{values_at}
use Rattle.sp_slices.proofs.Lists.{first_and_rest, number_and_rest}
use Rattle.sp_slices.proofs.Rows.{row_more, small_sum}
use Rattle.sp_slices.proofs.Standing.{counters_stay, of_first, of_rest}
use Rattle.sp_slices.proofs.addresses.+row.Goals as goal

pub returns-in_default-clause-fills : goal.returns-in_default-clause-fills
returns-in_default-clause-fills t c = Fills-none _

pub returns-in_default-counters-clause-fills : goal.returns-in_default-counters-clause-fills
returns-in_default-counters-clause-fills t c = Fills-none _

pub sum-requires-clause-right : goal.sum-requires-clause-right
sum-requires-clause-right t c = HasNet-stays _ _ _ _ c.in_ok-rows.ensures.fills.grows
    (of_first (IsCounter c.args.builder.now) c.args.counters.now _ c.counter-item.result (first_and_rest c.args.counters.now c.counter-item.result c.in-len1-up-counters.len_at_least c.counter-item.is) c.requires.values)

pub row-requires : goal.row-requires
row-requires t c = (
  search rules,
  (
    record {
      net_stands = c.in_ok-number.ensures.net;
      fits = λ s r u. small_sum (2 ^ 32) _ _ (lit< tt) (c.in_ok-number.ensures.word s r u);
    },
    counters_stay _ _ _ c.in_ok-number.ensures.fills.grows (counters_stay _ _ _ c.in_ok-rows.ensures.fills.grows
        (of_rest (IsCounter c.args.builder.now) c.args.counters.now _ c.counter-item.result (first_and_rest c.args.counters.now c.counter-item.result c.in-len1-up-counters.len_at_least c.counter-item.is) c.requires.values)),
  ),
)

pub returns-clause-fills : goal.returns-clause-fills
returns-clause-fills t c = Fills-join _ _ _ [] _ c.in_ok-rows.ensures.fills (Fills-join _ _ _ [] _ c.in_ok-number.ensures.fills c.in_ok-net.ensures.fills)

pub returns-clause-word : goal.returns-clause-word
returns-clause-word t c = λ s run each u.
    let middle = runs_earlier _ _ s c.in_ok-net.ensures.fills.grows run in
    let before = runs_earlier _ _ s c.in_ok-number.ensures.fills.grows middle in
    let dims = number_and_rest c.args.dims.now c.in-len1-up.len_at_least in
    let ns = first_and_rest c.args.counters.now c.counter-item.result c.in-len1-up-counters.len_at_least c.counter-item.is in
    let rest : List ℕ = take (length c.args.dims.now - 1) (drop 1 c.args.dims.now) in
    let others : List Counter = take (length c.args.counters.now - 1) (drop 1 c.args.counters.now) in
    let same : length others ≡ length rest = (let a = ap length ns in let b = ap length dims in omega (arith, a, b, each)) in
    row_more (2 ^ 32) (s.net u c.args.before) (s.net u c.in_ok-rows.rows) (s.net u c.in_ok-number.number) (s.net u c.in_ok-net.net) (get_or c.args.dims.now 0 0) (s.net u c.counter-item.result.value) (word_count rest) (row_major rest (values_at s others u))
    (c.in_ok-net.ensures.word s run same u) (c.in_ok-number.ensures.word s middle u) (c.in_ok-rows.ensures.word s before u)
    ∙ ap₂ (λ ds vs. (s.net u c.args.before * word_count ds + row_major ds (values_at s vs u)) % 2 ^ 32) (sym dims) (sym ns)
