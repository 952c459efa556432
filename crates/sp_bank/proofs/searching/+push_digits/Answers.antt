use Rattle.std.proofs.Common.{◌≡◌, ◌-◌, ◌/◌, ◌%◌, ◌^◌, ℕ, List, [], ◌∷◌, ◌++◌, ap, sym, ◌∙◌, append_assoc, arith}
use Rattle.sp_bank.specs.Search.{digits}
use Rattle.sp_bank.proofs.Order.{power_small, digits_step}
use Rattle.sp_bank.proofs.searching.+push_digits.Goals as goal

pub pow-scale-requires : goal.pow-scale-requires
pow-scale-requires t c = power_small c.args.banks c.from.result c.requires.small (omega (arith, c.from.ensures, c.requires.few))

pub returns-then-rank-gt0 : goal.returns-then-rank-gt0
returns-then-rank-gt0 t c =
    let scale : c.pow-scale.result ≡ c.args.banks ^ (c.args.rank - 1) = c.pow-scale.ensures ∙ ap (λ n. c.args.banks ^ n) c.from.ensures in
    let step = ap (λ z. (c.args.code / z) ∷ digits (c.args.rank - 1) c.args.banks (c.args.code % z)) scale
    ∙ sym (digits_step c.args.rank c.args.banks c.args.code c.if-rank-gt0.true) in
    let put : List ℕ → List ℕ = λ z. z ++ digits (c.args.rank - 1) c.args.banks (c.args.code % c.pow-scale.result) in
    let after : List ℕ → List ℕ = λ z. c.args.made.now.items ++ z in
    c.push_digits.ensures ∙ ap put c.push_reserved.ensures.items
    ∙ append_assoc c.args.made.now.items ((c.args.code / c.pow-scale.result) ∷ []) (digits (c.args.rank - 1) c.args.banks (c.args.code % c.pow-scale.result))
    ∙ ap after step
