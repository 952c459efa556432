-- What holds of every program.
use Rattle.std.specs.Prelude.{◌≡◌, ℕ, ◌≤◌, List, [], ◌∷◌, ◌++◌, map, filter, length, All}
use Rattle.sp_words.specs.Names.{IsName}
use Rattle.sp_words.specs.Ports.{PlainPort, PlainPorts}
use Rattle.sp_tree.specs.Counts.{is_port}
use Rattle.sp_tree.specs.Elements.{numbers_below}
use Rattle.sp_tree.specs.Limits.{IsWithinLimits}
use Rattle.sp_tree.specs.Meaning.{is_arg, is_out, is_dram, numbers_of}
use Rattle.sp_tree.specs.Declarations.{IsDeclaration}
use Rattle.sp_tree.specs.PlainProgram.{PlainMem, PlainProgram}
use Rattle.sp_tree.specs.Structure.{mems_declared, vals_declared, counters_declared, depth}
use Rattle.sp_tree.specs.Typing.{Scope, BodyTyped, with_mem, IsFresh, mem_at}

-- the port that a memory is
abbrev pub port_of : PlainMem → PlainPort
port_of m = record { name = m.name; ty = m.ty; dims = m.dims }

-- the arguments, outputs and DRAMs among the memories
abbrev pub ports_of : List PlainMem → PlainPorts
ports_of mems = record {
  args = map port_of (filter (λ m. is_arg m.kind) mems);
  outs = map port_of (filter (λ m. is_out m.kind) mems);
  drams = map port_of (filter (λ m. is_dram m.kind) mems);
}

-- the numbers of the declarations before the block
abbrev pub port_numbers : PlainProgram → List ℕ
port_numbers p = numbers_of is_port 0 p.mems

-- what is visible at the beginning of the block
abbrev pub outer_scope : PlainProgram → Scope
outer_scope p = record { mems = port_numbers p; vals = []; counters = [] }

-- each is declared under a name that those before it don't have
abbrev pub PortsFresh : PlainProgram → Scope → List ℕ → Type 0
PortsFresh p scope [] = Unit {0}
PortsFresh p scope (m ∷ rest) = IsFresh p scope (mem_at p m).name × PortsFresh p (with_mem scope m) rest

pub record IsProgram (p : PlainProgram) : Type 0 where
  -- declarations are right by themselves
  pub declarations : All IsDeclaration p.mems
  pub val_names : All IsName p.vals
  pub counter_names : All IsName p.counters
  -- memories, values and counters are numbered from 0 in the order of their declarations, ports first
  pub mem_numbers : port_numbers p ++ mems_declared p.body ≡ numbers_below (length p.mems)
  pub val_numbers : vals_declared p.body ≡ numbers_below (length p.vals)
  pub counter_numbers : counters_declared p.body ≡ numbers_below (length p.counters)
  -- the ports are the arguments, outputs and DRAMs among the memories, in order
  pub ports : p.ports ≡ ports_of p.mems
  pub port_names : PortsFresh p (record { mems = []; vals = []; counters = [] }) (port_numbers p)
  -- the block is typed, and its controllers stand at most 64 one inside another
  pub typed : BodyTyped p (outer_scope p) p.body
  pub nested : depth p.body ≤ 64
  pub limits : IsWithinLimits p
