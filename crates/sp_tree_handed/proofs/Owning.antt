-- Nets of loops and FSMs, one behind the other, and in a draft that has grown.
use Rattle.std.proofs.Common.{List, [], ◌++◌, arith}
use Rattle.std.proofs.lemmas.List.Elements.{All-append}
use Rattle.sp_netlist.specs.Draft.{Draft}
use Rattle.sp_gates.specs.Grows.{Grows}
use Rattle.sp_gates.proofs.Growing.{HasNet-stays}
use Rattle.sp_core.specs.PlainCore.{PlainCore}
use Rattle.sp_tree_handed.specs.declared.owners.Keeping.{Keeping}
use Rattle.sp_tree_handed.specs.declared.owners.LoopTurns.{LoopTurns}
use Rattle.sp_tree_handed.specs.Standing.{KeepingStands, TurnsStand, AreTurnsStanding}

pub turns_later : (a b : Draft) (core : PlainCore) (turns : List LoopTurns) (kept : List Keeping) → Grows a b → AreTurnsStanding a core turns kept → AreTurnsStanding b core turns kept
turns_later a b core turns kept g h = record {
  turn = λ k r lt. (let s = h.turn k r lt in record { start = HasNet-stays a b _ 1 g s.start; firsts = λ i net l. HasNet-stays a b _ 1 g (s.firsts i net l) });
  kept = λ k r lt. (let s = h.kept k r lt in record { done = HasNet-stays a b _ 1 g s.done; word = HasNet-stays a b _ _ g s.word });
}

pub turns_join : (d : Draft) (core : PlainCore) (turns more : List LoopTurns) (kept others : List Keeping) → AreTurnsStanding d core turns kept → AreTurnsStanding d core more others → AreTurnsStanding d core (turns ++ more) (kept ++ others)
turns_join d core turns more kept others h rest = record {
  turn = All-append (TurnsStand d) turns more h.turn rest.turn;
  kept = All-append (KeepingStands d core) kept others h.kept rest.kept;
}

pub no_turns_stand : (d : Draft) (core : PlainCore) → AreTurnsStanding d core [] []
no_turns_stand d core = record { turn = λ k r lt. absurd (omega (arith, lt)); kept = λ k r lt. absurd (omega (arith, lt)) }
