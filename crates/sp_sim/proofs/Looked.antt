-- What is found in a cycle is so in the run's cycle.
use Rattle.std.proofs.Common.{◌≡◌, ℕ, ◌≤◌, List, [], length, false, true, count_by, Bool, Option, Some, None, MatchOption, replicate, slice_index, refl, sym, ap, ◌∙◌, subst, arith, ⊎_elim}
use Rattle.std.specs.List.{fold}
use Rattle.sp_netlist.specs.declared.cell.Port.{Port}
use Rattle.sp_netlist.specs.declared.cell.Port.TheVariants.{Read, Write}
use Rattle.sp_netlist.specs.Cells.{PlainCell}
use Rattle.sp_netlist.specs.Rules.{is_bank, IsNetlist}
use Rattle.sp_netlist.specs.Signals.{Setting, Signals}
use Rattle.sp_netlist.specs.Cycle.{SharesNone, IsConflict, is_over}
use Rattle.sp_netlist.specs.Order.{IsOrder}
use Rattle.sp_netlist.specs.Quiet.{IsQuiet}
use Rattle.sp_sim.specs.declared.state.State.{State}
use Rattle.sp_sim.specs.declared.state.Found.{Found}
use Rattle.sp_sim.specs.declared.state.Found.TheVariants.{Nothing, Over, Shared}
use Rattle.sp_sim.specs.Rows.{word_of}
use Rattle.sp_sim.specs.Memories.{word_at}
use Rattle.sp_sim.specs.Phases.{phase_at}
use Rattle.sp_sim.specs.Settling.{IsRow, settled}
use Rattle.sp_sim.specs.Standing.{AreBanks, AreDrams}
use Rattle.sp_sim.specs.States.{IsState, StandsIn, FoundIn, LookedIn, finding}
use Rattle.sp_sim.specs.Conflicts.{tally, IsFirstShared}
use Rattle.sp_sim.proofs.Settled.{Known, settled_right}
use Rattle.sp_sim.proofs.Conflicted.{shares_none, is_conflict}

-- the new state has the words of all nets, and else what the old one had
pub record Settles (cells : List PlainCell) (order : List ℕ) (old new : State) : Type 0 where
  pub row : new.row ≡ settled cells old.row order
  pub is_row : IsRow cells new.row
  pub next : new.next ≡ old.next
  pub banks : new.banks.items ≡ old.banks.items
  pub drams : new.drams.items ≡ old.drams.items
  pub phases : new.phases.items ≡ old.phases.items
  pub taken : new.taken ≡ old.taken
  pub reads : new.reads.items ≡ fold (tally (word_of new.row) Read) (replicate (count_by is_bank cells) 0) cells
  pub writes : new.writes.items ≡ fold (tally (word_of new.row) Write) (replicate (count_by is_bank cells) 0) cells
  pub read_number : length new.reads.items ≡ length old.reads.items
  pub write_number : length new.writes.items ≡ length old.writes.items

pub settles_state : (cells : List PlainCell) (order : List ℕ) (old new : State) → Settles cells order old new → IsState cells old → IsState cells new
settles_state cells order old new e r = record {
  row = e.is_row;
  next = subst (IsRow cells) (sym e.next) r.next;
  banks = subst (AreBanks cells) (sym e.banks) r.banks;
  drams = subst (AreDrams cells) (sym e.drams) r.drams;
  phases = ap length e.phases ∙ r.phases;
  reads = e.read_number ∙ r.reads;
  writes = e.write_number ∙ r.writes;
}

-- what the counts tell
abbrev pub Tells : (reads writes : List ℕ) (cells : List PlainCell) (w : ℕ → ℕ) → Found → Type 0
Tells reads writes cells w Nothing = ((b : ℕ) → (slice_index reads b ≤ 1) × (slice_index writes b ≤ 1)) × (is_over cells w ≡ false)
Tells reads writes cells w Over = ((b : ℕ) → (slice_index reads b ≤ 1) × (slice_index writes b ≤ 1)) × (is_over cells w ≡ true)
Tells reads writes cells w (Shared bank port) = IsFirstShared reads writes bank port

pub tells : (reads writes : List ℕ) (cells : List PlainCell) (w : ℕ → ℕ) (clash : Option (ℕ × Port)) (over : Bool) → over ≡ is_over cells w
    → MatchOption clash ((b : ℕ) → (slice_index reads b ≤ 1) × (slice_index writes b ≤ 1)) (λ p. IsFirstShared reads writes p.0 p.1) → Tells reads writes cells w (finding clash over)
tells reads writes cells w (Some p) over e m = m
tells reads writes cells w None true e m = (m, sym e)
tells reads writes cells w None false e m = (m, sym e)

found_of : (g : Setting) (h : IsNetlist g.cells) (s : Signals) (t : ℕ) (w : ℕ → ℕ) → w ≡ s.net t → (reads writes : List ℕ)
    → reads ≡ fold (tally w Read) (replicate (count_by is_bank g.cells) 0) g.cells → writes ≡ fold (tally w Write) (replicate (count_by is_bank g.cells) 0) g.cells
    → (found : Found) → Tells reads writes g.cells w found → FoundIn g s t found
found_of g h s t w words reads writes er ew Nothing k = record {
  shares_none = subst (SharesNone g.cells) words (shares_none g.cells h w (count_by is_bank g.cells) refl
      (λ b. (subst (λ cs. slice_index cs b ≤ 1) er (k.0 b).0, subst (λ cs. slice_index cs b ≤ 1) ew (k.0 b).1)));
  not_over = subst (λ v. is_over g.cells v ≡ false) words k.1;
}
found_of g h s t w words reads writes er ew Over k = (
  subst (SharesNone g.cells) words (shares_none g.cells h w (count_by is_bank g.cells) refl
      (λ b. (subst (λ cs. slice_index cs b ≤ 1) er (k.0 b).0, subst (λ cs. slice_index cs b ≤ 1) ew (k.0 b).1))),
  subst (λ v. is_over g.cells v ≡ true) words k.1,
)
found_of g h s t w words reads writes er ew (Shared bank port) k =
    subst (λ v. IsConflict g.cells v bank port) words (is_conflict g.cells h w (count_by is_bank g.cells) refl bank port
    (subst (λ cs. IsFirstShared cs (fold (tally w Write) (replicate (count_by is_bank g.cells) 0) g.cells) bank port) er (subst (λ cs. IsFirstShared reads cs bank port) ew k)))

pub looked : (g : Setting) (h : IsNetlist g.cells) (order : List ℕ) (o : IsOrder g.cells order) (old new : State) → Settles g.cells order old new → IsState g.cells old
    → (found : Found) → Tells new.reads.items new.writes.items g.cells (word_of new.row) found
    → (s : Signals) (q : IsQuiet g s) (t : ℕ) → StandsIn g s t old → LookedIn g s t new found
looked g h order o old new e r found tells s q t stands =
    let known : Known g s t old.row [] = record { covers = r.row.covers; right = λ at l c net d. ⊎_elim (λ free. stands.kept at l free net d) (λ none. let m = none.1 in absurd (omega arith)) c } in
    let words : word_of new.row ≡ s.net t = ap word_of e.row ∙ settled_right g h s q order o t old.row known (subst (IsRow g.cells) e.row e.is_row) in
    record {
      stands = record {
        kept = λ at l free net c. ap (λ (f : ℕ → ℕ). f net) words;
        fixed = λ at l stays net c. ap (λ r. word_of r net) e.next ∙ stands.fixed at l stays net c;
        banks = ap word_at e.banks ∙ stands.banks;
        drams = ap word_at e.drams ∙ stands.drams;
        phases = λ n. ap (λ ps. phase_at ps n) e.phases ∙ stands.phases n;
        taken = e.taken ∙ stands.taken;
      };
      words = words;
      found = found_of g h s t (word_of new.row) words new.reads.items new.writes.items e.reads e.writes found tells;
    }
