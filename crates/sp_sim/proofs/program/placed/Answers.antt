use Rattle.std.proofs.Common.{ℕ, List, sym, subst, map, length, ◌≡◌, All, Contains}
use Rattle.std.specs.List.Sorted.{IsStrictlyIncreasing}
use Rattle.sp_netlist.specs.Cells.{PlainCell}
use Rattle.sp_netlist.specs.Rules.{driven_nets}
use Rattle.sp_sim.specs.Runs.{runs_cells, IsRunWithin, StepStands}
use Rattle.sp_sim.specs.Steps.{cells_of}
use Rattle.sp_sim.proofs.Nets.{steps_stand, runs_hold}
use Rattle.sp_sim.proofs.program.placed.Goals as goal

abbrev Driven : List PlainCell → ℕ → Type 0
Driven cells net = Contains (map (λ p. p.0) (driven_nets cells)) net

abbrev Both : List PlainCell → List ℕ → ℕ → Type 0
Both cells nets net = (Contains nets net → Driven cells net) × (Driven cells net → Contains nets net)

pub runs_of-requires-clause-ascending : goal.runs_of-requires-clause-ascending
runs_of-requires-clause-ascending c = subst IsStrictlyIncreasing (sym c.deref.ensures.value) c.in_ok-nets.ensures.ascending

pub runs_of-requires-clause-stand : goal.runs_of-requires-clause-stand
runs_of-requires-clause-stand c =
    let cells = c.args.netlist.now in
    let nets = c.in_ok-nets.nets.items in
    subst (λ ns. All (StepStands ns) c.args.steps.now) (sym c.deref.ensures.value)
    (steps_stand cells c.cells.ensures.netlist c.args.steps.now c.requires nets
    (λ net k. (subst (λ cs. Both cs nets net) c.cells.ensures.cells (c.in_ok-nets.ensures.same net)).1 k))

pub returns : goal.returns
returns c =
    let cells = c.args.netlist.now in
    let nets = c.in_ok-nets.nets.items in
    let runs = c.in_ok-runs.runs.items in
    runs_hold cells nets runs c.args.steps.now c.in_ok-nets.ensures.ascending
    (λ net. subst (λ cs. Both cs nets net) c.cells.ensures.cells (c.in_ok-nets.ensures.same net))
    (subst (λ ns. All (IsRunWithin (length ns)) runs) c.deref.ensures.value c.in_ok-runs.ensures.within)
    (subst (λ ns. runs_cells ns runs ≡ cells_of c.args.steps.now) c.deref.ensures.value c.in_ok-runs.ensures.same)
