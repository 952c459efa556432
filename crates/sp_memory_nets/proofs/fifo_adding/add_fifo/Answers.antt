use Rattle.std.proofs.Common.{◌≡◌, All, ap, subst, ◌∙◌}
use Rattle.sp_words.specs.Types.{width_of}
use Rattle.sp_core.specs.CoreParts.{plain_core}
use Rattle.sp_core.specs.Declarations.{mem}
use Rattle.sp_core.specs.PlainCore.{PlainMem}
use Rattle.sp_taps.specs.Wires.{AreWires}
use Rattle.sp_memory_nets.proofs.fifo_adding.add_fifo.Goals as goal

pub returns-clause-wires : goal.returns-clause-wires
returns-clause-wires c =
    let wide : c.width-width.result ≡ width_of (mem (plain_core c.args.core.now) c.args.m).ty = c.width-width.ensures.value ∙ ap (λ (x : PlainMem). width_of x.ty) c.memory.ensures.memory in
    subst (λ w. All (AreWires c.add_stores.new.builder w) c.in_ok-stores.stores.items) wide c.in_ok-stores.ensures.wires
