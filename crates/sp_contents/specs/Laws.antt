-- What happens in the order of the text happens in the copies.
use Rattle.std.specs.Prelude.{List, Option}
use Rattle.sp_words.specs.Memory.{Contents}
use Rattle.sp_core.specs.PlainCore.{PlainCore}
use Rattle.sp_core.specs.Replay.{Happens, after_all}
use Rattle.sp_core.specs.Store.{Store}
use Rattle.sp_time.specs.Events.{Follows, after}
use Rattle.sp_time.specs.Lists.{Each}
use Rattle.sp_time.specs.Places.{Place, is_place}
use Rattle.sp_machine.specs.Found.{events_of, does, Sees}
use Rattle.sp_machine.specs.Laws.{told}
use Rattle.sp_machine.specs.Stamps.{Stamped}
use Rattle.sp_contents.specs.Held.{Agree, AreLines}
use Rattle.sp_contents.specs.Steady.{AtHand, AreSteady, hand_after, IsAllowed}

-- moments that stay with a copy, that are allowed, and that find what they need in a store, one after the other, find it in the
-- copies, which then hold what the store holds after all
abbrev pub CopiesFollow : PlainCore → Type 0
CopiesFollow core =
    AreLines core → (run : List Stamped) (hand : AtHand) (s : Store) (c : Place → Option Contents) → AreSteady hand run → Each (λ x. IsAllowed core x.moment) run → Happens core (told run) s → Agree core hand s c
    → Follows is_place (does core) (Sees core) (events_of core run) c × Agree core (hand_after hand run) (after_all core (told run) s) (after is_place (does core) (events_of core run) c)
