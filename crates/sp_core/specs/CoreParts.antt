-- The parts of a core: all of them plain but the tree, which stands as it is declared.
use Rattle.std.specs.Prelude.{List}
use Rattle.sp_words.specs.Ports.{PlainPorts}
use Rattle.sp_core.specs.declared.node.Node.{Node}
use Rattle.sp_core.specs.Plain.{plain_node}
use Rattle.sp_core.specs.PlainCore.{PlainMem, PlainCore}

pub record CoreParts : Type 0 where
  pub mems : List PlainMem
  pub ports : PlainPorts
  pub root : Node

-- the core without where its parts lie in memory
abbrev pub plain_core : CoreParts → PlainCore
plain_core c = record { mems = c.mems; ports = c.ports; root = plain_node c.root }
