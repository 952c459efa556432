-- What a dump shows: signals, each a net under a name.
use Rattle.std.specs.Prelude.{ℕ, List, [], ◌∷◌, ◌++◌, map, flat_map, codes, decimal, string_bytes}
use Rattle.sp_words.specs.Types.{width_of}
use Rattle.sp_netlist.specs.Cells.{PlainCell, in_cell, out_cell, done_cell, load_unit, store_unit}
use Rattle.sp_verilog.specs.declared.nets.NetLine.{NetLine}
use Rattle.sp_waves.specs.declared.signal.Signal.{Signal}

pub record PlainSignal : Type 0 where
  pub name : List ℕ
  pub width : ℕ
  pub net : ℕ

abbrev pub plain_signal : Signal → PlainSignal
plain_signal s = record { name = string_bytes s.name; width = s.width; net = s.net }

abbrev pub signal : List ℕ → (width net : ℕ) → PlainSignal
signal name width net = record { name = name; width = width; net = net }

-- a net of a channel
unfoldable pub channel_name : ℕ → List ℕ → List ℕ
channel_name channel part = codes "c" ++ (decimal channel ++ (codes "_" ++ part))

-- the handshake of a channel
abbrev pub channel_signals : (channel ready request last : ℕ) → List PlainSignal
channel_signals channel ready request last =
    signal (channel_name channel (codes "ready")) 1 ready ∷ signal (channel_name channel (codes "req")) 1 request ∷ signal (channel_name channel (codes "last")) 1 last ∷ []

unfoldable pub argument_name : List ℕ → List ℕ
argument_name name = codes "in_" ++ name

unfoldable pub output_name : List ℕ → List ℕ
output_name name = codes "out_" ++ name

-- the ports of a cell
abbrev pub port_signals : PlainCell → List PlainSignal
port_signals (in_cell name net ty) = signal (argument_name name) (width_of ty) net ∷ []
port_signals (out_cell name net ty) = signal (output_name name) (width_of ty) net ∷ []
port_signals (done_cell net) = signal (codes "done") 1 net ∷ []
port_signals (load_unit channel dram ready net request last addr) = channel_signals channel ready request last
port_signals (store_unit channel dram ready request last addr word) = channel_signals channel ready request last
port_signals cell = []

unfoldable pub net_name : ℕ → List ℕ
net_name net = codes "n" ++ decimal net

abbrev pub net_signal : NetLine → PlainSignal
net_signal n = signal (net_name n.net) n.width n.net

-- the ports in the order of the cells, and then the nets in the order in which they are listed
abbrev pub signals_of : List PlainCell → List NetLine → List PlainSignal
signals_of cells nets = flat_map port_signals cells ++ map net_signal nets

-- the nets that are shown
abbrev pub nets_of : List PlainSignal → List ℕ
nets_of = map (λ s. s.net)
