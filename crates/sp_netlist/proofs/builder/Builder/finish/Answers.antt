use Rattle.std.proofs.Common.{subst, sym, arith}
use Rattle.std.proofs.lemmas.List.{length-map}
use Rattle.sp_netlist.specs.Draft.{IsComplete}
use Rattle.sp_netlist.proofs.DraftLemmas.{IsNetlist-complete}
use Rattle.sp_netlist.proofs.builder.Builder.finish.Goals as goal

pub new-requires : goal.new-requires
new-requires c = IsNetlist-complete _ c.self.invariant (subst IsComplete (sym c.self.view_is) c.requires) (rw length-map (let held = c.self.inside.nets.ok in let small = c.self.inside.nets.small in omega (arith, held, small)))
