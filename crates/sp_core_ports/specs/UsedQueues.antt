-- The ports of FIFOs. A FIFO is one bank in each copy, with a port by which words enter and one by which they leave.
use Rattle.std.specs.Prelude.{◌≡◌, Bool, true, false}
use Rattle.sp_core.specs.Declarations.{kind_of}
use Rattle.sp_core.specs.Events.{Act, puts, takes, Moment, touches}
use Rattle.sp_core.specs.OperationRules.{is_fifo}
use Rattle.sp_core.specs.PlainCore.{PlainCore}
use Rattle.sp_machine.specs.Stamps.{Stamped}

abbrev pub is_one_end : Act → Act → Bool
is_one_end (puts v) (puts w) = true
is_one_end (takes v) (takes w) = true
is_one_end _ _ = false

-- two words enter one FIFO, or leave it
abbrev pub AreAtOneEnd : PlainCore → Moment → Moment → Type 0
AreAtOneEnd core (touches e) (touches f) = (e.mem ≡ f.mem) × (is_fifo (kind_of core e.mem) ≡ true) × (is_one_end e.act f.act ≡ true)
AreAtOneEnd core _ _ = ⊥

-- no two do in one cycle and one copy
abbrev pub UseNoEndTwice : PlainCore → (s t : Stamped) → Type 0
UseNoEndTwice core s t = s.cycle ≡ t.cycle → s.copy ≡ t.copy → AreAtOneEnd core s.moment t.moment → ⊥
