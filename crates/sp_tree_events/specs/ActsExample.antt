-- A worked loop that makes memory 2 fresh in cycle 3, and an FSM that keeps the word 5 in memory 4 in that cycle. Net 0 is 1 in cycle 3
-- alone, net 1 has 5, and net 2 is never 1.
use Rattle.std.specs.Prelude.{ℕ, nat_eq, if◌then◌else◌, List, [], ◌∷◌, None}
use Rattle.sp_netlist.specs.Signals.{Signals, idle}
use Rattle.sp_core.specs.Events.{Moment, renews, keeps}
use Rattle.sp_machine.specs.Stamps.{Stamped}
use Rattle.sp_tree_events.specs.ActsKeeping.{Keeps}
use Rattle.sp_tree_events.specs.ActsRenewing.{Renews}

abbrev pub waves : Signals
waves = record { net = λ t n. if nat_eq n 0 then (if nat_eq t 3 then 1 else 0) else (if nat_eq n 1 then 5 else 0); bank = λ t b place. 0; dram = λ t r place. 0; phase = λ t c. idle; asked = λ t. 0 }

abbrev pub in_three : Moment → List Stamped
in_three x = record { cycle = 3; copy = 0; moment = x } ∷ []

pub record WorkedOwners : Type 0 where
  pub loop : (last : ℕ) → Renews waves (in_three (renews 2)) 2 0 (λ t. 0) last
  pub machine : (last : ℕ) → Keeps waves (in_three (keeps 4 5)) 4 0 1 None 2 1 None last
