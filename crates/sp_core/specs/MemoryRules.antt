-- What the memories and the ports of every core keep.
use Rattle.std.specs.Prelude.{ℕ, ◌^◌, ◌==◌, Bool, true, false, ◌&&◌, not, nat_le, nat_lt, List, [], ◌∷◌, length, map, filter, Option, Some, None}
use Rattle.std.specs.List.{list_all, list_any}
use Rattle.std.specs.Str.{bytes_eq}
use Rattle.sp_words.specs.declared.kind.Kind.{Kind}
use Rattle.sp_words.specs.declared.kind.Kind.TheVariants.{Reg, Sram, Fifo, LineBuf, Dram, ArgIn, ArgOut}
use Rattle.sp_words.specs.declared.types.Ty.{Ty}
use Rattle.sp_words.specs.Interface.{word_count}
use Rattle.sp_words.specs.Names.{is_name, reserved_words}
use Rattle.sp_words.specs.Ports.{PlainPort}
use Rattle.sp_words.specs.Types.{width_of}
use Rattle.sp_core.specs.Meaning.{is_arg, is_out}
use Rattle.sp_core.specs.PlainCore.{PlainMem, PlainCore}
use Rattle.sp_core.specs.Typed.{is_type}

-- how many dimensions a kind has; no memory of a core is a DRAM
abbrev pub has_rank : Kind → ℕ → Bool
has_rank Reg n = n == 0
has_rank Sram n = nat_le 1 n && nat_le n 3
has_rank Fifo n = n == 1
has_rank LineBuf n = n == 2
has_rank Dram n = false
has_rank ArgIn n = n == 0
has_rank ArgOut n = n == 0

-- only a register has a start, a word of its type
abbrev pub has_start : Kind → Ty → Option ℕ → Bool
has_start kind ty None = true
has_start Reg ty (Some w) = nat_lt w (2 ^ width_of ty)
has_start kind ty (Some w) = false

abbrev pub has_words : (most : ℕ) → (dims : List ℕ) → Bool
has_words most dims = nat_le 1 (word_count dims) && nat_le (word_count dims) most

abbrev pub is_mem_right : PlainMem → Bool
is_mem_right m = (has_rank m.kind (length m.dims) && has_start m.kind m.ty m.start) && has_words 4194304 m.dims

abbrev pub is_dram_right : PlainPort → Bool
is_dram_right p = (nat_le 1 (length p.dims) && nat_le (length p.dims) 3) && has_words 67108864 p.dims

-- the name of a port is no word of the language, and no other port of its kind has it
abbrev pub is_port_name : List ℕ → Bool
is_port_name name = is_name name && not (list_any (λ word. bytes_eq word name) reserved_words)

abbrev pub are_port_names : List (List ℕ) → Bool
are_port_names [] = true
are_port_names (name ∷ rest) = (is_port_name name && not (list_any (λ other. bytes_eq name other) rest)) && are_port_names rest

abbrev pub names_of : List PlainPort → List (List ℕ)
names_of ports = map (λ p. p.name) ports

-- the ports are those memories, in order, with their names, types and dimensions, of which they have none
abbrev pub are_ports_of : List PlainPort → List PlainMem → Bool
are_ports_of [] [] = true
are_ports_of (p ∷ ports) (m ∷ mems) = (bytes_eq p.name m.name && (is_type p.ty m.ty && (length p.dims == 0))) && are_ports_of ports mems
are_ports_of _ _ = false

abbrev pub are_memories_right : PlainCore → Bool
are_memories_right core = list_all is_mem_right core.mems && list_all is_dram_right core.ports.drams

abbrev pub are_ports_right : PlainCore → Bool
are_ports_right core =
    (are_port_names (names_of core.ports.args) && (are_port_names (names_of core.ports.outs) && are_port_names (names_of core.ports.drams)))
    && (are_ports_of core.ports.args (filter (λ m. is_arg m.kind) core.mems) && are_ports_of core.ports.outs (filter (λ m. is_out m.kind) core.mems))
