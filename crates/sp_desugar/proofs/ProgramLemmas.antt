-- The parts of the core of a program.
use Rattle.std.proofs.Common.{◌≡◌, List, [], ◌++◌, length, refl}
use mathlib.Core.Path.{fun_ext}
use Rattle.sp_words.specs.Ports.{PlainPorts}
use Rattle.sp_tree.specs.PlainProgram.{PlainProgram}
use Rattle.sp_core.specs.PlainCore.{PlainCore, PlainMem, PlainNode}
use Rattle.sp_sugar.specs.Core.{core_of}
use Rattle.sp_sugar.specs.Numbers.{written_mems}
use Rattle.sp_sugar.specs.Registers.{registers_in}
use Rattle.sp_sugar.specs.Uses.{no_more}
use Rattle.sp_sugar.specs.Values.{no_sources}
use Rattle.sp_operations.specs.Sources.{sources_of}
use Rattle.sp_desugar.specs.Tree.{alone_node}

pub no_source : sources_of [] ≡ no_sources
unfolding sources_of
no_source = fun_ext (λ v. refl)

pub core_is : (p : PlainProgram) (mems : List PlainMem) (ports : PlainPorts) (root : PlainNode) → mems ≡ written_mems p.mems ++ registers_in p.body no_more → ports ≡ p.ports
    → root ≡ alone_node p.mems (length p.counters) no_sources (length (written_mems p.mems)) p.body
    → ◌≡◌ {A = PlainCore} (record { mems = mems; ports = ports; root = root }) (core_of p)
unfolding core_of
core_is p mems ports root e f g = λ i. record { mems = e i; ports = f i; root = g i }
