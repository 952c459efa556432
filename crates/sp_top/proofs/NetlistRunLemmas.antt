-- The result of a netlist's run is what the program leaves.
use Rattle.std.proofs.Common.{◌≡◌, ℕ, ◌+◌, List, [], ap, ◌∙◌, arith}
use Rattle.sp_netlist.specs.Cells.{PlainCell}
use Rattle.sp_netlist.specs.Cycle.{Ending, Ends, done_in}
use Rattle.sp_netlist.specs.Laws.{EndingKept, HasOneEnding}
use Rattle.sp_netlist.specs.Rules.{IsNetlist}
use Rattle.sp_netlist.specs.Signals.{Setting}
use Rattle.sp_words.specs.Ports.{PlainPorts}
use Rattle.sp_core.specs.Latency.{limit}
use Rattle.sp_tree.specs.Laws.{IsDecidedByTurns}
use Rattle.sp_tree.specs.Meaning.{ended, seq}
use Rattle.sp_tree.specs.PlainProgram.{PlainProgram}
use Rattle.sp_compile.specs.Choices.{lanes_of}
use Rattle.sp_listing.specs.Text.{listing_text}
use Rattle.sp_build.specs.Carries.{FitsPorts, Carries, CostIsKept, greatest_delay}
use Rattle.sp_setup.specs.Setup.{PlainSetup}
use Rattle.sp_top.specs.NetlistRun.{Takes}
use Rattle.sp_top.specs.ResultText.{result_text, cycles_line}
use Rattle.sp_top.specs.Seq.{IsInput, input_of, RunsNetlist}
use Rattle.sp_top.specs.Simulate.{PrintsWithin, setting_of}

fits_ports : (ports : PlainPorts) (plain : PlainSetup) → IsInput ports plain → FitsPorts ports (input_of plain)
fits_ports ports plain fits = record { args = fits.args; drams = fits.drams }

abbrev cycle_in : Ending → ℕ
cycle_in (done_in cycle outs drams) = cycle
cycle_in _ = 0

abbrev outs_in : Ending → List ℕ
outs_in (done_in cycle outs drams) = outs
outs_in _ = []

abbrev drams_in : Ending → List (List ℕ)
drams_in (done_in cycle outs drams) = drams
drams_in _ = []

-- a netlist is done in one way, within whatever number of cycles
same_end : EndingKept → HasOneEnding → (g : Setting) → IsNetlist g.cells → (a b c d : ℕ) (os ps : List ℕ) (rs ts : List (List ℕ)) → Ends g a (done_in c os rs) → Ends g b (done_in d ps ts) → ◌≡◌ {A = Ending} (done_in c os rs) (done_in d ps ts)
same_end kept one g is a b c d os ps rs ts x y =
    (one g is (c + d)).same_ending (done_in c os rs) (done_in d ps ts) (kept.done g a (c + d) c os rs (omega arith) x) (kept.done g b (c + d) d ps ts (omega arith) y)

pub netlist_ran : EndingKept → HasOneEnding → (p : PlainProgram) (plain : PlainSetup) → IsDecidedByTurns p (input_of plain) → IsInput p.ports plain → (turns : ℕ) → Takes p plain turns → (cells : List PlainCell) → IsNetlist cells → Carries p cells → CostIsKept p cells
    → (most : ℕ) (out aside : List ℕ) → aside ≡ listing_text cells → PrintsWithin cells plain most out → RunsNetlist p plain out aside
netlist_ran kept one p plain decided fits turns takes cells is carries cost most out aside lists prints =
    let again : seq turns p (input_of plain) ≡ ended takes.outs takes.drams turns takes.shape = (decided.ends plain.turns takes.outs takes.drams turns takes.shape takes.ends).1.enough turns (omega arith) in
    let c = carries.carries (input_of plain) plain.delays turns takes.outs takes.drams turns takes.shape (fits_ports p.ports plain fits) again in
    let e = same_end kept one (setting_of cells plain) is most (limit turns (greatest_delay plain.delays) (lanes_of p)) prints.cycle c.0 prints.outs takes.outs prints.drams takes.drams prints.ends c.1 in
    record {
      outs = takes.outs;
      drams = takes.drams;
      turns = turns;
      shape = takes.shape;
      ends = takes.ends;
      cells = cells;
      netlist = is;
      carries = carries;
      cost = cost;
      lists = lists;
      cycle = c.0;
      done = c.1;
      is = prints.is ∙ ap (λ ports. result_text ports prints.outs prints.drams (cycles_line prints.cycle)) carries.ports ∙ ap (λ (x : Ending). result_text p.ports (outs_in x) (drams_in x) (cycles_line (cycle_in x))) e;
    }
