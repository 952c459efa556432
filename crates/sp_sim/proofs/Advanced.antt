-- The state after a cycle.
use Rattle.std.proofs.Common.{◌≡◌, ℕ, suc, ◌<◌, ◌^◌, List, length, get_or, map, filter, count_by, sym, ap, ◌∙◌, subst}
use Rattle.std.specs.List.{fold}
use mathlib.Core.Path.{fun_ext}
use Rattle.std.proofs.lemmas.List.{length-map}
use Rattle.sp_netlist.specs.Cells.{PlainCell}
use Rattle.sp_netlist.specs.Rules.{is_dram, IsNetlist}
use Rattle.sp_netlist.specs.Signals.{Setting, Signals, Phase as ChannelPhase, idle}
use Rattle.sp_netlist.specs.Quiet.{IsQuiet}
use Rattle.sp_sim.specs.declared.state.State.{State}
use Rattle.sp_sim.specs.declared.phase.Phase.{Phase}
use Rattle.sp_sim.specs.Rows.{word_of}
use Rattle.sp_sim.specs.Memories.{word_at}
use Rattle.sp_sim.specs.Phases.{plain_phase, phase_at}
use Rattle.sp_sim.specs.Settling.{IsRow, cell_at}
use Rattle.sp_sim.specs.Standing.{AreBanks, AreDrams}
use Rattle.sp_sim.specs.States.{IsState, StandsIn}
use Rattle.sp_sim.specs.Holding.{held, put_all}
use Rattle.sp_sim.specs.Writing.{bank_write, dram_write}
use Rattle.sp_sim.specs.Serving.{Channels, serve_one}
use Rattle.sp_sim.proofs.Held.{next_right, next_is_row, fixed_later}
use Rattle.sp_sim.specs.Programs.{is_kept}
use Rattle.sp_sim.proofs.Parts.{fixed_free}
use Rattle.sp_sim.proofs.Written.{are_banks_next, are_drams_next, banks_next, drams_next}
use Rattle.sp_sim.proofs.Served.{channels_next}

-- the next row
abbrev pub row_of : (ℕ → ℕ) → (ℕ → ℕ → ℕ) → (ℕ → ℕ → ℕ) → (ℕ → ChannelPhase) → List (ℕ × ℕ) → List PlainCell → List (ℕ × ℕ)
row_of w bank dram phase row cells = fold (λ r x. put_all r (held w bank dram phase x)) row cells

-- what a cycle leaves
pub record Advances (cells : List PlainCell) (delays : List ℕ) (old new : State) : Type 0 where
  pub row : new.row ≡ row_of (word_of old.row) (word_at old.banks.items) (word_at old.drams.items) (phase_at new.phases.items) old.next (filter is_kept cells)
  pub next : new.next ≡ old.row
  pub banks : new.banks.items ≡ fold (bank_write (word_of old.row)) old.banks.items cells
  pub drams : new.drams.items ≡ fold (dram_write (word_of old.row)) old.drams.items cells
  pub phases : map plain_phase new.phases.items ≡ (fold (serve_one (word_of old.row) delays) (record { phases = map plain_phase old.phases.items; taken = old.taken }) cells).phases
  pub taken : new.taken ≡ (fold (serve_one (word_of old.row) delays) (record { phases = map plain_phase old.phases.items; taken = old.taken }) cells).taken
  pub number : length new.phases.items ≡ length old.phases.items
  pub reads : length new.reads.items ≡ length old.reads.items
  pub writes : length new.writes.items ≡ length old.writes.items

pub advanced_state : (cells : List PlainCell) (h : IsNetlist cells) (delays : List ℕ) (old new : State) → Advances cells delays old new → IsState cells old → IsState cells new
advanced_state cells h delays old new a r = record {
  row = subst (IsRow cells) (sym a.row)
      (next_is_row cells h (word_of old.row) (word_at old.banks.items) (word_at old.drams.items) (phase_at new.phases.items) r.row.fits
      (λ n addr l. subst (λ w. word_at old.banks.items n addr < 2 ^ w) (r.banks.widths n l) (r.banks.fit n addr))
      (λ n addr l. subst (λ w. word_at old.drams.items n addr < 2 ^ w) (r.drams.widths n l) (r.drams.fit n addr)) old.next r.next);
  next = subst (IsRow cells) (sym a.next) r.row;
  banks = subst (AreBanks cells) (sym a.banks) (are_banks_next cells h (word_of old.row) r.row.fits old.banks.items r.banks);
  drams = subst (AreDrams cells) (sym a.drams) (are_drams_next cells h (word_of old.row) r.row.fits old.drams.items r.drams);
  phases = a.number ∙ r.phases;
  reads = a.reads ∙ r.reads;
  writes = a.writes ∙ r.writes;
}

pub advanced_stands : (g : Setting) (h : IsNetlist g.cells) (old new : State) → Advances g.cells g.delays old new → IsState g.cells old → length g.drams ≡ count_by is_dram g.cells
    → (s : Signals) (q : IsQuiet g s) (t : ℕ) → StandsIn g s t old → word_of old.row ≡ s.net t → StandsIn g s (suc t) new
unfolding phase_at
advanced_stands g h old new a r given s q t stands words =
    let first : Channels = record { phases = map plain_phase old.phases.items; taken = old.taken } in
    let same_channels = ap (λ (w : ℕ → ℕ). fold (serve_one w g.delays) first g.cells) words in
    let served = channels_next g h s q t first (length-plain old.phases.items ∙ r.phases) stands.phases stands.taken in
    let phases : (n : ℕ) → phase_at new.phases.items n ≡ s.phase (suc t) n = λ n. ap (λ ps. get_or ps n idle) (a.phases ∙ ap (λ c. c.phases) same_channels) ∙ served.1 n in
    let phase_same : phase_at new.phases.items ≡ s.phase (suc t) = fun_ext phases in
    let row : new.row ≡ row_of (s.net t) (s.bank t) (s.dram t) (s.phase (suc t)) old.next (filter is_kept g.cells) =
    a.row ∙ ap (λ (w : ℕ → ℕ). row_of w (word_at old.banks.items) (word_at old.drams.items) (phase_at new.phases.items) old.next (filter is_kept g.cells)) words
    ∙ ap (λ (b : ℕ → ℕ → ℕ). row_of (s.net t) b (word_at old.drams.items) (phase_at new.phases.items) old.next (filter is_kept g.cells)) stands.banks
    ∙ ap (λ (d : ℕ → ℕ → ℕ). row_of (s.net t) (s.bank t) d (phase_at new.phases.items) old.next (filter is_kept g.cells)) stands.drams
    ∙ ap (λ (p : ℕ → ChannelPhase). row_of (s.net t) (s.bank t) (s.dram t) p old.next (filter is_kept g.cells)) phase_same in
    record {
      kept = λ at l free net c. ap (λ ps. word_of ps net) row ∙ next_right g h s q t old.next r.next stands.fixed at l free net c;
      fixed = λ at l stays net c. ap (λ ps. word_of ps net) a.next ∙ stands.kept at l (fixed_free (cell_at g.cells at) stays) net c ∙ fixed_later g h s q at l stays net c t;
      banks = ap word_at (a.banks ∙ ap (λ (w : ℕ → ℕ). fold (bank_write w) old.banks.items g.cells) words) ∙ banks_next g h s q t old.banks.items r.banks stands.banks;
      drams = ap word_at (a.drams ∙ ap (λ (w : ℕ → ℕ). fold (dram_write w) old.drams.items g.cells) words) ∙ drams_next g h s q given t old.drams.items r.drams stands.drams;
      phases = phases;
      taken = a.taken ∙ ap (λ c. c.taken) same_channels ∙ served.2;
    }
  where
    length-plain : (ps : List Phase) → length (map plain_phase ps) ≡ length ps
    length-plain ps = length-map ps plain_phase
