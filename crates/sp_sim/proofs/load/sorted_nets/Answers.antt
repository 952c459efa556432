use Rattle.std.proofs.Common.{sym, subst, Contains, eqb}
use Rattle.std.specs.List.Sorted.{IsStrictlyIncreasing}
use Rattle.std.proofs.lemmas.List.Filters.{dedup_is}
use Rattle.std.proofs.lemmas.List.Kept.{Contains-dedup_nat, Contains-from_dedup}
use Rattle.std.proofs.lemmas.List.Sorted.{Contains-permutation, IsPermutation-sym}
use Rattle.std.proofs.lemmas.Map.Keys.{IsStrictlyIncreasing-dedup}
use Rattle.sp_sim.proofs.load.sorted_nets.Goals as goal

pub returns-clause-ascending : goal.returns-clause-ascending
returns-clause-ascending c =
    subst IsStrictlyIncreasing (sym (dedup_is eqb c.sort_unstable.new.self.items c.dedup.new.self.items c.dedup.ensures.filtered))
    (IsStrictlyIncreasing-dedup c.sort_unstable.new.self.items c.sort_unstable.ensures.sorted)

pub returns-clause-same : goal.returns-clause-same
returns-clause-same c = λ net.
    let old = c.in_ok-nets.nets.items in
    let sorted = c.sort_unstable.new.self.items in
    let is = dedup_is eqb sorted c.dedup.new.self.items c.dedup.ensures.filtered in (
      λ k. subst (λ xs. Contains xs net) c.in_ok-nets.ensures
          (Contains-permutation sorted old net (IsPermutation-sym old sorted c.sort_unstable.ensures.permutation) (Contains-from_dedup eqb sorted net (subst (λ xs. Contains xs net) is k))),
      λ k. subst (λ xs. Contains xs net) (sym is)
          (Contains-dedup_nat sorted net (Contains-permutation old sorted net c.sort_unstable.ensures.permutation (subst (λ xs. Contains xs net) (sym c.in_ok-nets.ensures) k))),
    )
