-- A module by its parts is the text of its netlist.
use Rattle.std.proofs.Common.{◌≡◌, ℕ, List, flat_map, IsPermutation, sym, subst}
use Rattle.std.specs.List.Sorted.{IsNonDecreasingBy}
use Rattle.sp_netlist.specs.Cells.{PlainCell}
use Rattle.sp_verilog.specs.declared.memories.BankSize.{BankSize}
use Rattle.sp_verilog.specs.declared.nets.NetLine.{NetLine}
use Rattle.sp_verilog.specs.Text.{AreNets, IsVerilog, banks_of, drams_of, cell_nets, parts_text}

-- all nets in order, by tables that are those of the cells
pub from_tables : (cells : List PlainCell) (banks : List BankSize) (drams : List ℕ) (nets : List NetLine) → banks ≡ banks_of cells → drams ≡ drams_of cells → IsPermutation (flat_map (cell_nets banks drams) cells) nets → IsNonDecreasingBy (λ (n : NetLine). n.net) nets → AreNets cells nets
from_tables cells banks drams nets b d all ascending = record {
  all_nets = subst (λ bs. IsPermutation (flat_map (cell_nets bs (drams_of cells)) cells) nets) b (subst (λ ds. IsPermutation (flat_map (cell_nets banks ds) cells) nets) d all);
  ascending = ascending;
}

pub from_parts : (cells : List PlainCell) (banks : List BankSize) (drams : List ℕ) (nets : List NetLine) (text : List ℕ) → banks ≡ banks_of cells → drams ≡ drams_of cells → IsPermutation (flat_map (cell_nets banks drams) cells) nets → IsNonDecreasingBy (λ (n : NetLine). n.net) nets → text ≡ parts_text banks drams cells nets → IsVerilog cells text
from_parts cells banks drams nets text b d all ascending is = record {
  nets = nets;
  are_nets = from_tables cells banks drams nets b d all ascending;
  is_text = subst (λ bs. text ≡ parts_text bs (drams_of cells) cells nets) b (subst (λ ds. text ≡ parts_text banks ds cells nets) d is);
}
