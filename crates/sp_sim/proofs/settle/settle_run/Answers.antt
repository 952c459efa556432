use Rattle.std.proofs.Common.{ℕ, List, subst, map, All, Contains}
use Rattle.sp_netlist.specs.Cells.{PlainCell}
use Rattle.sp_sim.specs.declared.run.Places.{Places}
use Rattle.sp_sim.specs.declared.step.Task.{Task}
use Rattle.sp_sim.specs.Runs.{cell_in}
use Rattle.sp_sim.proofs.settle.settle_run.Goals as goal

abbrev Stand : List PlainCell → List ℕ → List Places → Task → Type 0
Stand cells nets places task = All (Contains cells) (map (cell_in nets task) places)

pub settle_with-requires-clause-stand : goal.settle_with-requires-clause-stand
settle_with-requires-clause-stand c = subst (Stand c.args.netlist.now c.args.nets.now c.args.places.now) c.in-Add.is c.requires.stand

pub settle_with-requires-in-Sub-clause-stand : goal.settle_with-requires-in-Sub-clause-stand
settle_with-requires-in-Sub-clause-stand c = subst (Stand c.args.netlist.now c.args.nets.now c.args.places.now) c.in-Sub.is c.requires.stand

pub settle_with-requires-in-Mul-clause-stand : goal.settle_with-requires-in-Mul-clause-stand
settle_with-requires-in-Mul-clause-stand c = subst (Stand c.args.netlist.now c.args.nets.now c.args.places.now) c.in-Mul.is c.requires.stand

pub settle_with-requires-in-Div-clause-stand : goal.settle_with-requires-in-Div-clause-stand
settle_with-requires-in-Div-clause-stand c = subst (Stand c.args.netlist.now c.args.nets.now c.args.places.now) c.in-Div.is c.requires.stand

pub settle_with-requires-in-Rem-clause-stand : goal.settle_with-requires-in-Rem-clause-stand
settle_with-requires-in-Rem-clause-stand c = subst (Stand c.args.netlist.now c.args.nets.now c.args.places.now) c.in-Rem.is c.requires.stand

pub settle_with-requires-in-And-clause-stand : goal.settle_with-requires-in-And-clause-stand
settle_with-requires-in-And-clause-stand c = subst (Stand c.args.netlist.now c.args.nets.now c.args.places.now) c.in-And.is c.requires.stand

pub settle_with-requires-in-Or-clause-stand : goal.settle_with-requires-in-Or-clause-stand
settle_with-requires-in-Or-clause-stand c = subst (Stand c.args.netlist.now c.args.nets.now c.args.places.now) c.in-Or.is c.requires.stand

pub settle_with-requires-in-Xor-clause-stand : goal.settle_with-requires-in-Xor-clause-stand
settle_with-requires-in-Xor-clause-stand c = subst (Stand c.args.netlist.now c.args.nets.now c.args.places.now) c.in-Xor.is c.requires.stand

pub settle_with-requires-in-Min-clause-stand : goal.settle_with-requires-in-Min-clause-stand
settle_with-requires-in-Min-clause-stand c = subst (Stand c.args.netlist.now c.args.nets.now c.args.places.now) c.in-Min.is c.requires.stand

pub settle_with-requires-in-Max-clause-stand : goal.settle_with-requires-in-Max-clause-stand
settle_with-requires-in-Max-clause-stand c = subst (Stand c.args.netlist.now c.args.nets.now c.args.places.now) c.in-Max.is c.requires.stand

pub settle_with-requires-in-Lt-clause-stand : goal.settle_with-requires-in-Lt-clause-stand
settle_with-requires-in-Lt-clause-stand c = subst (Stand c.args.netlist.now c.args.nets.now c.args.places.now) c.in-Lt.is c.requires.stand

pub settle_with-requires-in-Eq-clause-stand : goal.settle_with-requires-in-Eq-clause-stand
settle_with-requires-in-Eq-clause-stand c = subst (Stand c.args.netlist.now c.args.nets.now c.args.places.now) c.in-Eq.is c.requires.stand

pub settle_with-requires-in-Not-clause-stand : goal.settle_with-requires-in-Not-clause-stand
settle_with-requires-in-Not-clause-stand c = subst (Stand c.args.netlist.now c.args.nets.now c.args.places.now) c.in-Not.is c.requires.stand

pub settle_with-requires-in-Shl-clause-stand : goal.settle_with-requires-in-Shl-clause-stand
settle_with-requires-in-Shl-clause-stand c = subst (Stand c.args.netlist.now c.args.nets.now c.args.places.now) c.in-Shl.is c.requires.stand

pub settle_with-requires-in-Shr-clause-stand : goal.settle_with-requires-in-Shr-clause-stand
settle_with-requires-in-Shr-clause-stand c = subst (Stand c.args.netlist.now c.args.nets.now c.args.places.now) c.in-Shr.is c.requires.stand

pub settle_with-requires-in-Cast-clause-stand : goal.settle_with-requires-in-Cast-clause-stand
settle_with-requires-in-Cast-clause-stand c = subst (Stand c.args.netlist.now c.args.nets.now c.args.places.now) c.in-Cast.is c.requires.stand
