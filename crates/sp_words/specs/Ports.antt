-- Ports and inputs as plain values: without where names, dimensions and words lie in memory.
use Rattle.std.specs.Prelude.{ℕ, List, map, string_bytes}
use Rattle.sp_words.specs.declared.types.Ty.{Ty}
use Rattle.sp_words.specs.declared.interface.PortDecl.{PortDecl}
use Rattle.sp_words.specs.declared.interface.Ports.{Ports}
use Rattle.sp_words.specs.declared.interface.Input.{Input}

pub record PlainPort : Type 0 where
  pub name : List ℕ
  pub ty : Ty
  pub dims : List ℕ

pub record PlainPorts : Type 0 where
  pub args : List PlainPort
  pub outs : List PlainPort
  pub drams : List PlainPort

abbrev pub plain_port : PortDecl → PlainPort
plain_port port = record { name = string_bytes port.name; ty = port.ty; dims = port.dims.items }

abbrev pub plain_ports : Ports → PlainPorts
plain_ports ports = record { args = map plain_port ports.args.items; outs = map plain_port ports.outs.items; drams = map plain_port ports.drams.items }

-- the word of each argument, and the words of each DRAM in row-major order
pub record PlainInput : Type 0 where
  pub args : List ℕ
  pub drams : List (List ℕ)

abbrev pub plain_input : Input → PlainInput
plain_input input = record { args = input.args.items; drams = map (λ words. words.items) input.drams.items }
