use Rattle.std.proofs.Common.{◌-◌, arith, ◌∙◌, sym, length}
use Rattle.sp_counts.proofs.ForestLemmas.{below_at, ends_forest, goes_on, tells_on}
use Rattle.sp_counts.proofs.forest.is_forest.Goals as goal

pub join-requires : goal.join-requires
join-requires c =
    let b = below_at c.args.n c.args.edges.now (length c.args.edges.now - 1 - c.loop-k.k) (record { one = 0; two = 0 }) c.requires (omega (arith, c.loop-k-test.true)) in
    record { one = omega (arith, b.0, c.loop-k.invariant.0, c.loop-k.labels.ok.0); two = omega (arith, b.1, c.loop-k.invariant.0, c.loop-k.labels.ok.0) }

pub returns-then-not-join : goal.returns-then-not-join
returns-then-not-join c =
    ends_forest c.args.n c.loop-k.labels.items c.args.edges.now c.loop-k.k (record { one = 0; two = 0 }) c.loop-k-test.true c.requires c.loop-k.invariant.2 (sym c.if-not-join.true ∙ c.join.ensures.apart)

pub loop-k-preserved : goal.loop-k-preserved
loop-k-preserved c = (
  omega (arith, c.join.ensures.len, c.loop-k.invariant.0, c.loop-k.labels.ok.0, c.join.new.labels.ok.0),
  goes_on c.args.n c.loop-k.labels.items c.args.edges.now c.loop-k.k (record { one = 0; two = 0 }) c.loop-k-test.true c.requires c.loop-k.invariant.2 (sym c.if-not-join.false ∙ c.join.ensures.apart) c.loop-k.invariant.1,
  tells_on c.args.n c.loop-k.labels.items c.join.new.labels.items c.args.edges.now c.loop-k.k (record { one = 0; two = 0 }) c.loop-k-test.true c.requires c.loop-k.invariant.2
      (λ x lt. c.join.ensures.joined c.if-not-join.false x (omega (arith, lt, c.loop-k.invariant.0, c.loop-k.labels.ok.0))),
)
