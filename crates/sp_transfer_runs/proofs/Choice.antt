-- Delays that are chosen by paths are those of the askings.
use Rattle.std.proofs.Common.{◌≡◌, ℕ, ◌+◌, ◌&&◌, true, false, if◌then◌else◌, List, [], ◌∷◌, refl, ap, ap₂, ◌∙◌}
use Rattle.std.proofs.lemmas.Bool.{eq-eqb}
use Rattle.sp_core.specs.Cost.{waits}
use Rattle.sp_core.specs.Events.{When, before, in_group_of, in_turn, At}
use Rattle.sp_time.specs.Lists.{Each}
use Rattle.sp_machine.specs.Transfers.{Delays}
use Rattle.sp_node_runs.specs.Runs.{Placed}
use Rattle.sp_transfer_runs.specs.Channels.{AreTaken}
use Rattle.sp_transfer_runs.specs.Choice.{same_when, same_path, Moved, moved_in, chosen, AreApart, DelaysAreChosen}
use Rattle.sp_transfer_runs.specs.Runs.{total_of, delay_in}

when_same : (w : When) → same_when w w ≡ true
when_same before = refl
when_same (in_group_of g s) = ap₂ (λ a b. a && b) (eq-eqb g g refl) (eq-eqb s s refl)
when_same (in_turn t) = eq-eqb t t refl

path_same : (path : List At) → same_path path path ≡ true
path_same [] = refl
path_same (a ∷ path) = ap₂ (λ x y. x && y) (ap₂ (λ x y. x && y) (eq-eqb a.node a.node refl) (when_same a.when)) (path_same path)

-- each run's own delays
abbrev Has : Delays → (k : ℕ) → (ℕ → ℕ) → (asked : ℕ) → List Moved → Placed → Type 0
Has delays k took asked ms q = (ask : ℕ) → delay_in delays k q ask ≡ chosen took asked ms q.standing.path ask

-- those behind a run don't look at it
passed_by : (delays : Delays) (k : ℕ) (took : ℕ → ℕ) (asked : ℕ) (x : Moved) (ms : List Moved) (runs : List Placed) → Each (λ (y : Moved). same_path x.path y.path ≡ false) (moved_in runs) → Each (Has delays k took asked (x ∷ ms)) runs → Each (Has delays k took (asked + waits x.words) ms) runs
passed_by delays k took asked x ms [] a h = tt
passed_by delays k took asked x ms (q ∷ runs) a h =
    ((λ ask. h.0 ask ∙ ap (λ b. if b then took (asked + ask) else chosen took (asked + waits x.words) ms q.standing.path ask) a.0), passed_by delays k took asked x ms runs a.1 h.1)

taken_so : (delays : Delays) (k : ℕ) (took : ℕ → ℕ) (asked : ℕ) (runs : List Placed) → Each (Has delays k took asked (moved_in runs)) runs → AreApart (moved_in runs) → AreTaken delays k took asked runs
taken_so delays k took asked [] h a = tt
taken_so delays k took asked (r ∷ runs) h a = (
  (λ ask l. h.0 ask ∙ ap (λ b. if b then took (asked + ask) else chosen took (asked + waits (total_of r)) (moved_in runs) r.standing.path ask) (path_same r.standing.path)),
  taken_so delays k took (asked + waits (total_of r)) runs (passed_by delays k took asked (record { path = r.standing.path; words = total_of r }) (moved_in runs) runs a.0 h.1) a.1,
)

all_have : (delays : Delays) (k : ℕ) (took : ℕ → ℕ) (asked : ℕ) (ms : List Moved) (runs : List Placed) → ((path : List At) (ask : ℕ) → delays k path ask ≡ chosen took asked ms path ask) → Each (Has delays k took asked ms) runs
all_have delays k took asked ms [] h = tt
all_have delays k took asked ms (q ∷ runs) h = ((λ ask. h q.standing.path ask), all_have delays k took asked ms runs h)

pub delays_are_chosen : DelaysAreChosen
delays_are_chosen delays k took asked runs h a = taken_so delays k took asked runs (all_have delays k took asked (moved_in runs) runs h) a
