use Rattle.std.specs.Global.{Vec}
use Rattle.std.proofs.Common.{◌≡◌, ℕ, ◌+◌, ◌<◌, ◌≤◌, List, length, map, subst, arith}
use Rattle.std.proofs.lemmas.List.{length-map}
use Rattle.sp_words.specs.Ports.{plain_port, plain_ports}
use Rattle.sp_netlist.specs.Refusals.{IsLeast}
use Rattle.sp_sim.specs.Given.{ArgGiven, InputFault}
use Rattle.sp_sim.proofs.Faults.{fault_dram}
use Rattle.sp_sim.proofs.given.first_fault.Goals as goal

pub returns-in-Some-first_dram : goal.returns-in-Some-first_dram
returns-in-Some-first_dram c =
    let ports = c.args.ports.now in
    let input = c.args.input.now in
    let drams : List (List ℕ) = map (λ (v : Vec ℕ). v.items) input.drams.items in
    let args = rw (c.in_default.is, c.deref.ensures.value, c.deref-2.ensures.value) at c.first_arg.ensures in
    let told = rw (c.in-Some-first_dram.is, c.deref-3.ensures.value, c.deref-4.ensures.value) at c.first_dram.ensures in
    let number = length-map ports.args.items plain_port in
    let dram_number = length-map ports.drams.items plain_port in
    let all : (m : ℕ) → m < length (map plain_port ports.args.items) → ArgGiven (map plain_port ports.args.items) input.args.items m = λ m l. args m (omega (arith, l, number)) in
    let few : length input.args.items ≤ length (map plain_port ports.args.items) = omega (arith, number, c.if-len-args.false, c.len.ensures, c.len-args.ensures, ports.args.ok.0, input.args.ok.0) in
    let within = told.0 in
    let here : c.in-Some-first_dram.place < length (map plain_port ports.drams.items) = omega (arith, within, dram_number) in
    let least = fault_dram (plain_ports ports) input.args.items drams all few c.in-Some-first_dram.place here told.1 told.2 in
    let same : length (map plain_port ports.args.items) + c.in-Some-first_dram.place ≡ c.len-args.result + c.in-Some-first_dram.place = omega (arith, number, c.len-args.ensures, ports.args.ok.0) in
    subst (IsLeast (InputFault (plain_ports ports) input.args.items drams)) same least
