use Rattle.std.specs.Global.{Vec}
use Rattle.std.proofs.Common.{◌≡◌, ℕ, List, map, ap, subst, Err, arith}
use Rattle.sp_netlist.specs.Ports.{ports_of}
use Rattle.sp_netlist.specs.Refusals.{IsLeast}
use Rattle.sp_sim.specs.declared.end.SimLoad.TheVariants.{InputShape}
use Rattle.sp_sim.specs.Given.{InputFault, NoFault}
use Rattle.sp_sim.proofs.GivenLemmas.{given_without_fault}
use Rattle.sp_sim.proofs.sim.Sim.load.Goals as goal

abbrev lists : List (Vec ℕ) → List (List ℕ)
lists vs = map (λ v. v.items) vs

pub begin-requires : goal.begin-requires
begin-requires c =
    let input = c.args.input.now in
    let none = rw c.in_default.is at c.first_fault.ensures in
    given_without_fault c.args.netlist.now c.ports.ensures.netlist input.args.items (lists input.drams.items) (subst (λ p. NoFault p input.args.items (lists input.drams.items)) c.ports.ensures.ports none)

pub returns-clause-given : goal.returns-clause-given
returns-clause-given c =
    let input = c.args.input.now in
    let none = rw c.in_default.is at c.first_fault.ensures in
    given_without_fault c.args.netlist.now c.ports.ensures.netlist input.args.items (lists input.drams.items) (subst (λ p. NoFault p input.args.items (lists input.drams.items)) c.ports.ensures.ports none)

same_least : (P : ℕ → Type 0) (m n : ℕ) → IsLeast P m → IsLeast P n → m ≡ n
same_least P m n a b = let up = a.least n b.holds in let down = b.least m a.holds in omega (arith, up, down)

pub returns-in-Some-clause-shape : goal.returns-in-Some-clause-shape
returns-in-Some-clause-shape c = λ which.
    let input = c.args.input.now in
    let fault = InputFault (ports_of c.args.netlist.now) input.args.items (lists input.drams.items) in
    let some = rw c.in-Some.is at c.first_fault.ensures in
    let least : IsLeast fault c.in-Some.which = subst (λ p. IsLeast (InputFault p input.args.items (lists input.drams.items)) c.in-Some.which) c.ports.ensures.ports some in (
      λ e. (let same : c.in-Some.which ≡ which = cc in subst (IsLeast fault) same least),
      λ other. ap (λ n. Err (InputShape n)) (same_least fault c.in-Some.which which least other),
    )
