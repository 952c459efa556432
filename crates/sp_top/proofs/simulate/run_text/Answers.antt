use Rattle.std.proofs.Common.{◌≡◌, ◌+◌, ℕ, List, min, map, arith, refl, ap, subst, string_bytes}
use Rattle.std.specs.Global.{Vec}
use Rattle.sp_words.specs.Ports.{PlainPorts}
use Rattle.sp_top.specs.ResultText.{result_text, cycles_line}
use Rattle.sp_setup.specs.Setup.{plain_setup}
use Rattle.sp_top.specs.Simulate.{setting_of}
use Rattle.sp_top.proofs.SimulateLemmas.{begun, whole_run, done_run}
use Rattle.sp_top.proofs.simulate.run_text.Goals as goal

pub returns-in-Done-clause-text : goal.returns-in-Done-clause-text
returns-in-Done-clause-text c =
    let start : c.in_ok-sim.sim ≡ begun (setting_of c.args.netlist.now (plain_setup c.args.setup.now)) = rw c.deref.ensures.value at c.in_ok-sim.ensures.loaded in
    let last : min (c.in_ok-sim.sim.cycle + c.args.most) 18446744073709551615 ≡ c.args.most = omega (arith, ap (λ p. p.cycle) start) in
    let end = c.in-Done.ensures.end in
    let outs = c.in_ok-output-in-Done.output.outs.items in
    let drams : List (List ℕ) = map (λ (words : Vec ℕ). words.items) c.in_ok-output-in-Done.output.drams.items in
    let P : PlainPorts → Type 0 = λ ports. string_bytes c.in_ok-text-in-Done.text ≡ result_text ports outs drams (cycles_line c.in-Done.cycles) in record {
      cycle = c.in-Done.cycles;
      outs = outs;
      drams = drams;
      ends = done_run c.ending_kept.ensures c.in_ok-sim.sim c.run.new.self _ _ _ c.in-Done.cycles outs end.0 drams end.1 _ start last c.in-Done.ensures.progress end.2 c.in_ok-output-in-Done.ensures;
      is = subst P c.ports.ensures.ports c.in_ok-text-in-Done.ensures;
    }

pub returns-in-Conflict-clause-refused : goal.returns-in-Conflict-clause-refused
returns-in-Conflict-clause-refused c =
    let start : c.in_ok-sim.sim ≡ begun (setting_of c.args.netlist.now (plain_setup c.args.setup.now)) = rw c.deref.ensures.value at c.in_ok-sim.ensures.loaded in
    let last : min (c.in_ok-sim.sim.cycle + c.args.most) 18446744073709551615 ≡ c.args.most = omega (arith, ap (λ p. p.cycle) start) in
    whole_run c.in_ok-sim.sim _ _ _ _ start last c.in-Conflict.ensures.end

pub returns-clause-refused : goal.returns-clause-refused
returns-clause-refused c =
    let start : c.in_ok-sim.sim ≡ begun (setting_of c.args.netlist.now (plain_setup c.args.setup.now)) = rw c.deref.ensures.value at c.in_ok-sim.ensures.loaded in
    let last : min (c.in_ok-sim.sim.cycle + c.args.most) 18446744073709551615 ≡ c.args.most = omega (arith, ap (λ p. p.cycle) start) in
    (refl, whole_run c.in_ok-sim.sim _ _ _ _ start last c.in-CyclesSpent.ensures.end)
