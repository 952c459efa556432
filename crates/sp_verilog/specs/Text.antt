-- The Verilog text of a netlist: one module, with the ports, the nets, the banks and then the lines of each cell.
use Rattle.std.specs.Prelude.{◌≡◌, ℕ, ◌-◌, Bool, true, false, List, [], ◌∷◌, ◌++◌, flat_map, slice_index_or, codes, decimal, if◌then◌else◌, IsPermutation}
use Rattle.std.specs.List.Sorted.{IsNonDecreasingBy}
use Rattle.sp_words.specs.Types.{width_of}
use Rattle.sp_netlist.specs.declared.cell.CellOp.{CellOp}
use Rattle.sp_netlist.specs.declared.cell.CellOp.TheVariants.{Lt, Eq}
use Rattle.sp_netlist.specs.Cells.{PlainCell, in_cell, out_cell, done_cell, const_cell, op_cell, not_cell, shift_cell, cast_cell, mux_cell, reg_cell, bank_cell, read_tap, write_tap, dram_cell, load_unit, store_unit}
use Rattle.sp_netlist.specs.Rules.{op_width}
use Rattle.sp_verilog.specs.declared.nets.NetLine.{NetLine}
use Rattle.sp_verilog.specs.declared.memories.BankSize.{BankSize}
use Rattle.sp_verilog.specs.Computed.{op_lines, shift_lines, cast_lines}
use Rattle.sp_verilog.specs.Pieces.{net_name, result_name, bank_name, channel_port, range, sized, assign, choose}

-- the widths and lengths of the banks, and the widths of the DRAMs, by their numbers
abbrev pub bank_sizes : PlainCell → List BankSize
bank_sizes (bank_cell bank width len) = record { width = width; len = len } ∷ []
bank_sizes cell = []

abbrev pub dram_widths : PlainCell → List ℕ
dram_widths (dram_cell dram name ty dims) = width_of ty ∷ []
dram_widths cell = []

abbrev pub no_bank : BankSize
no_bank = record { width = 0; len = 0 }

-- a port, with the bits of its words
unfoldable pub input : ℕ → List ℕ → List ℕ
input width name = codes "input wire " ++ (range width ++ (codes " " ++ name))

unfoldable pub output : ℕ → List ℕ → List ℕ
output width name = codes "output wire " ++ (range width ++ (codes " " ++ name))

-- the ports of a channel: by them it hears that it is ready, and asks
abbrev pub asking_ports : ℕ → List (List ℕ)
asking_ports channel =
    output 1 (channel_port channel (codes "req")) ∷ output 1 (channel_port channel (codes "last")) ∷ output 32 (channel_port channel (codes "addr")) ∷ []

abbrev pub load_ports : (channel width : ℕ) → List (List ℕ)
load_ports channel width = input 1 (channel_port channel (codes "ready")) ∷ input width (channel_port channel (codes "word")) ∷ asking_ports channel

abbrev pub store_ports : (channel width : ℕ) → List (List ℕ)
store_ports channel width =
    input 1 (channel_port channel (codes "ready")) ∷ output 1 (channel_port channel (codes "req")) ∷ output 1 (channel_port channel (codes "last"))
    ∷ output 32 (channel_port channel (codes "addr")) ∷ output width (channel_port channel (codes "word")) ∷ []

-- the nets that a cell drives: a register or a wire of a width
abbrev pub a_wire : (net width : ℕ) → NetLine
a_wire net width = record { net = net; width = width; register = false }

abbrev pub a_register : (net width : ℕ) → NetLine
a_register net width = record { net = net; width = width; register = true }

-- at each rising edge of the clock a net takes its first word while `rst` is 1, and else a word where it is enabled
unfoldable pub at_clock : List ℕ
at_clock = codes "always @(posedge clk) "

unfoldable pub on_reset : (net : ℕ) → (first : List ℕ) → List ℕ
on_reset net first = codes "if (rst) " ++ (net_name net ++ (codes " <= " ++ (first ++ codes "; else ")))

unfoldable pub enabled : (enable net : ℕ) → List ℕ
enabled enable net = codes "if (" ++ (net_name enable ++ (codes ") " ++ (net_name net ++ codes " <= ")))

abbrev pub on_enable : (enable net : ℕ) → (word : List ℕ) → List ℕ
on_enable enable net word = enabled enable net ++ (word ++ codes ";")

abbrev pub at_edge : (net : ℕ) → (first : List ℕ) → (enable : ℕ) → (word : List ℕ) → List ℕ
at_edge net first enable word = at_clock ++ (on_reset net first ++ on_enable enable net word)

abbrev pub register_line : (width net first next enable : ℕ) → List ℕ
register_line width net first next enable = at_edge net (sized width first) enable (net_name next)

-- a word of a bank, and whether there is one at an address
abbrev pub element : (bank addr : ℕ) → List ℕ
element bank addr = bank_name bank ++ (codes "[" ++ (net_name addr ++ codes "]"))

abbrev pub is_inside : (addr len : ℕ) → List ℕ
is_inside addr len = net_name addr ++ (codes " < " ++ sized 32 len)

abbrev pub read_line : BankSize → (net bank enable addr : ℕ) → List ℕ
read_line size net bank enable addr =
    at_edge net (sized size.width 0) enable (choose (codes "(" ++ (is_inside addr size.len ++ codes ")")) (element bank addr) (sized size.width 0))

-- outside of a reset, where a net is enabled and an address is inside, a word of a bank takes that of a net
unfoldable pub on_write : (enable addr len : ℕ) → List ℕ
on_write enable addr len = codes "if (!rst && " ++ (net_name enable ++ (codes " && " ++ (is_inside addr len ++ codes ") ")))

abbrev pub write_line : BankSize → (bank enable addr word : ℕ) → List ℕ
write_line size bank enable addr word = at_clock ++ (on_write enable addr size.len ++ (element bank addr ++ (codes " <= " ++ (net_name word ++ codes ";"))))

-- the lines of a channel's unit: what it hears and what it asks
abbrev pub asking_lines : (channel request last addr : ℕ) → List (List ℕ)
asking_lines channel request last addr =
    assign (channel_port channel (codes "req")) (net_name request) ∷ assign (channel_port channel (codes "last")) (net_name last)
    ∷ assign (channel_port channel (codes "addr")) (net_name addr) ∷ []

abbrev pub load_lines : (channel ready net request last addr : ℕ) → List (List ℕ)
load_lines channel ready net request last addr =
    assign (net_name ready) (channel_port channel (codes "ready")) ∷ assign (net_name net) (channel_port channel (codes "word"))
    ∷ asking_lines channel request last addr

abbrev pub store_lines : (channel ready request last addr word : ℕ) → List (List ℕ)
store_lines channel ready request last addr word =
    assign (net_name ready) (channel_port channel (codes "ready")) ∷ assign (channel_port channel (codes "req")) (net_name request)
    ∷ assign (channel_port channel (codes "last")) (net_name last) ∷ assign (channel_port channel (codes "addr")) (net_name addr)
    ∷ assign (channel_port channel (codes "word")) (net_name word) ∷ []

module _ (banks : List BankSize) (drams : List ℕ) where
  abbrev pub bank_at : ℕ → BankSize
  bank_at bank = slice_index_or banks bank no_bank

  abbrev pub dram_at : ℕ → ℕ
  dram_at dram = slice_index_or drams dram 0

  abbrev pub cell_ports : PlainCell → List (List ℕ)
  cell_ports (in_cell name net ty) = input (width_of ty) (codes "in_" ++ name) ∷ []
  cell_ports (out_cell name net ty) = output (width_of ty) (result_name name) ∷ []
  cell_ports (done_cell net) = output 1 (codes "done") ∷ []
  cell_ports (load_unit channel dram ready net request last addr) = load_ports channel (dram_at dram)
  cell_ports (store_unit channel dram ready request last addr word) = store_ports channel (dram_at dram)
  cell_ports cell = []

  abbrev pub cell_nets : PlainCell → List NetLine
  cell_nets (in_cell name net ty) = a_wire net (width_of ty) ∷ []
  cell_nets (const_cell net width word) = a_wire net width ∷ []
  cell_nets (op_cell net ty op a b) = a_wire net (op_width ty op) ∷ []
  cell_nets (not_cell net ty a) = a_wire net (width_of ty) ∷ []
  cell_nets (shift_cell net ty side a places) = a_wire net (width_of ty) ∷ []
  cell_nets (cast_cell net from to a) = a_wire net (width_of to) ∷ []
  cell_nets (mux_cell net width choice a b) = a_wire net width ∷ []
  cell_nets (reg_cell net width first next enable) = a_register net width ∷ []
  cell_nets (read_tap net bank enable addr) = a_register net (bank_at bank).width ∷ []
  cell_nets (load_unit channel dram ready net request last addr) = a_wire ready 1 ∷ a_wire net (dram_at dram) ∷ []
  cell_nets (store_unit channel dram ready request last addr word) = a_wire ready 1 ∷ []
  cell_nets cell = []

  abbrev pub cell_lines : PlainCell → List (List ℕ)
  cell_lines (in_cell name net ty) = assign (net_name net) (codes "in_" ++ name) ∷ []
  cell_lines (out_cell name net ty) = assign (result_name name) (net_name net) ∷ []
  cell_lines (done_cell net) = assign (codes "done") (net_name net) ∷ []
  cell_lines (const_cell net width word) = assign (net_name net) (sized width word) ∷ []
  cell_lines (op_cell net ty op a b) = op_lines net ty op a b
  cell_lines (not_cell net ty a) = assign (net_name net) (codes "~" ++ net_name a) ∷ []
  cell_lines (shift_cell net ty side a places) = shift_lines net ty side a places
  cell_lines (cast_cell net from to a) = cast_lines net from to a
  cell_lines (mux_cell net width choice a b) = assign (net_name net) (choose (net_name choice) (net_name a) (net_name b)) ∷ []
  cell_lines (reg_cell net width first next enable) = register_line width net first next enable ∷ []
  cell_lines (read_tap net bank enable addr) = read_line (bank_at bank) net bank enable addr ∷ []
  cell_lines (write_tap bank enable addr word) = write_line (bank_at bank) bank enable addr word ∷ []
  cell_lines (load_unit channel dram ready net request last addr) = load_lines channel ready net request last addr
  cell_lines (store_unit channel dram ready request last addr word) = store_lines channel ready request last addr word
  cell_lines (bank_cell bank width len) = []
  cell_lines (dram_cell dram name ty dims) = []

-- a line, indented by two blanks
abbrev pub indented : List ℕ → List ℕ
indented line = codes "  " ++ (line ++ (10 ∷ []))

abbrev pub lines_text : List (List ℕ) → List ℕ
lines_text = flat_map indented

-- a port after others
abbrev pub next_port : List ℕ → List ℕ
next_port port = codes "," ++ (10 ∷ codes "  " ++ port)

abbrev pub ports_text : List (List ℕ) → List ℕ
ports_text = flat_map next_port

abbrev pub net_line : NetLine → List ℕ
net_line n = (if n.register then codes "reg " else codes "wire ") ++ (range n.width ++ (codes " " ++ (net_name n.net ++ codes ";")))

abbrev pub bank_lines : PlainCell → List (List ℕ)
bank_lines (bank_cell bank width len) = (codes "reg " ++ (range width ++ (codes " " ++ (bank_name bank ++ (codes " [0:" ++ (decimal (len - 1) ++ codes "];")))))) ∷ []
bank_lines cell = []

abbrev pub net_text : NetLine → List ℕ
net_text n = indented (net_line n)

abbrev pub bank_text : PlainCell → List ℕ
bank_text cell = lines_text (bank_lines cell)

-- the module before its ports, between its ports and its nets, and after its cells
unfoldable pub module_begin : List ℕ
module_begin = codes "module spatial(" ++ (10 ∷ codes "  input wire clk," ++ (10 ∷ codes "  input wire rst"))

unfoldable pub ports_end : List ℕ
ports_end = 10 ∷ codes ");" ++ (10 ∷ [])

unfoldable pub module_end : List ℕ
module_end = codes "endmodule" ++ (10 ∷ [])

-- the module by its parts, with its nets in this order
abbrev pub parts_text : List BankSize → (drams : List ℕ) → List PlainCell → List NetLine → List ℕ
parts_text banks drams cells nets =
    module_begin ++ (flat_map (λ c. ports_text (cell_ports banks drams c)) cells ++ (ports_end ++ (flat_map net_text nets
    ++ (flat_map bank_text cells ++ (flat_map (λ c. lines_text (cell_lines banks drams c)) cells ++ module_end)))))

module _ (cells : List PlainCell) where
  abbrev pub banks_of : List BankSize
  banks_of = flat_map bank_sizes cells

  abbrev pub drams_of : List ℕ
  drams_of = flat_map dram_widths cells

-- all nets of the cells, in ascending order
pub record AreNets (cells : List PlainCell) (nets : List NetLine) : Type 0 where
  pub all_nets : IsPermutation (flat_map (cell_nets (banks_of cells) (drams_of cells)) cells) nets
  pub ascending : IsNonDecreasingBy (λ (n : NetLine). n.net) nets

-- a text of the netlist
pub record IsVerilog (cells : List PlainCell) (text : List ℕ) : Type 0 where
  pub nets : List NetLine
  pub are_nets : AreNets cells nets
  pub is_text : text ≡ parts_text (banks_of cells) (drams_of cells) cells nets
