use Rattle.std.proofs.Common.{◌≡◌, ◌≤◌, ℕ, List, map, take}
use Rattle.std.specs.Global.{Vec}
use Rattle.sp_edges.specs.Calls.{given}
use Rattle.sp_words.specs.Ports.{plain_port}
use Rattle.sp_setup.specs.Table.{option_table}
use Rattle.sp_setup.specs.Drams.{AllGive, files_of}
use Rattle.sp_setup.proofs.drams.read_dram_list.Given as goal

abbrev pub invariant-loop-port : goal.invariant-loop-port
invariant-loop-port g l = record {
  gives : AllGive (g.I.Inputs.told l.initial.inputs) (option_table l.files) (map plain_port (take l.port-index l.ports)) (map (λ (words : Vec ℕ). words.items) l.drams.items);
  counts : g.I.Inputs.faults l.initial.inputs ≤ g.I.Inputs.faults l.inputs;
  tells : (n : List ℕ) → g.I.Inputs.told l.inputs n ≡ g.I.Inputs.told l.initial.inputs n;
  stays_sure : (n : List ℕ) → g.I.Inputs.sure l.initial.inputs n → g.I.Inputs.sure l.inputs n;
  asked : g.I.Inputs.asked l.initial.inputs (map given (files_of (option_table l.files) (map plain_port (take l.port-index l.ports)))) l.inputs;
}
