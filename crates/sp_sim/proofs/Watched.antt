-- A simulation whose state has looked at its cycle once more stands where it stood.
use Rattle.std.proofs.Common.{◌≡◌, ℕ, List, map, ◌∙◌, ap, Option, Some, None}
use Rattle.sp_netlist.specs.Signals.{Setting, Signals}
use Rattle.sp_netlist.specs.Quiet.{IsQuiet}
use Rattle.sp_sim.specs.declared.state.State.{State}
use Rattle.sp_sim.specs.declared.program.Program.{Program}
use Rattle.sp_sim.specs.declared.state.Found.{Found}
use Rattle.sp_sim.specs.declared.end.SimEnd.{SimEnd}
use Rattle.sp_sim.specs.declared.end.SimEnd.TheVariants.{Done, Conflict, CyclesSpent}
use Rattle.sp_sim.specs.Rows.{word_of}
use Rattle.sp_sim.specs.States.{IsState, LookedIn}
use Rattle.sp_sim.specs.Sims.{IsSim, EndedIn}

-- an end stays what it is, since what was found is told of the run
still_ended : (g : Setting) (s : Signals) (cycle : ℕ) (old new : State) (found : Found) (end : Option SimEnd) → LookedIn g s cycle new found → EndedIn g s cycle old end → EndedIn g s cycle new end
still_ended g s cycle old new found None k e = tt
still_ended g s cycle old new found (Some (Done cycles)) k e = (e.0, record { stands = k.stands; words = k.words; found = e.1.found })
still_ended g s cycle old new found (Some (Conflict at bank port)) k e = (e.0, record { stands = k.stands; words = k.words; found = e.1.found })
still_ended g s cycle old new found (Some CyclesSpent) k e = absurd e

pub watched_sim : (g : Setting) (program : Program) (cycle : ℕ) (old new : State) (found : Found) (end : Option SimEnd) → IsSim g program cycle old end → IsState g.cells new → ((s : Signals) → IsQuiet g s → LookedIn g s cycle new found) → IsSim g program cycle new end
watched_sim g program cycle old new found end sim state looked = record {
  netlist = sim.netlist;
  given = sim.given;
  is_program = sim.is_program;
  is_state = state;
  went_on = sim.went_on;
  stands = λ s q. (looked s q).stands;
  ended = λ s q. still_ended g s cycle old new found end (looked s q) (sim.ended s q);
}

-- the words of nets are those of the run
pub watched_words : (g : Setting) (cycle : ℕ) (state : State) (found : Found) (nets words : List ℕ) → ((s : Signals) → IsQuiet g s → LookedIn g s cycle state found) → words ≡ map (word_of state.row) nets
    → (s : Signals) → IsQuiet g s → words ≡ map (s.net cycle) nets
watched_words g cycle state found nets words looked are s q = are ∙ ap (λ (w : ℕ → ℕ). map w nets) (looked s q).words
