-- A simulation stands in the first cycle of the run.
use Rattle.std.proofs.Common.{◌≡◌, ℕ, suc, ◌<◌, min, List, ◌∷◌, ◌++◌, Bool, true, length, get_or, take, drop, flat_map, replicate, count_by, Contains, refl, sym, ap, ◌∙◌, subst, arith, ⊎_elim, None}
use mathlib.Core.Path.{fun_ext}
use Rattle.std.proofs.lemmas.Bool.{cases_lt, false≢true}
use Rattle.std.proofs.lemmas.List.{get_or_past, get_or-replicate, length-replicate, length-map}
use Rattle.sp_netlist.specs.Cells.{PlainCell, done_cell, bank_cell, dram_cell, load_unit, store_unit}
use Rattle.sp_netlist.specs.Rules.{is_bank, is_dram, is_unit, IsNetlist, IsRight}
use Rattle.sp_netlist.specs.Signals.{Setting, Signals, idle, Obeys}
use Rattle.sp_sim.specs.Programs.{IsProgram}
use Rattle.sp_netlist.specs.Quiet.{IsQuiet, HasQuietRun}
use Rattle.sp_sim.specs.declared.state.State.{State}
use Rattle.sp_sim.specs.declared.program.Program.{Program}
use Rattle.sp_sim.specs.Given.{IsGiven}
use Rattle.sp_sim.specs.Rows.{word_of}
use Rattle.sp_sim.specs.Memories.{no_words, word_at}
use Rattle.sp_sim.specs.Phases.{plain_phase, phase_at}
use Rattle.sp_sim.specs.Settling.{cell_at, IsRow}
use Rattle.sp_sim.specs.Standing.{AreBanks, AreDrams}
use Rattle.sp_sim.specs.States.{IsState, StandsIn}
use Rattle.sp_sim.specs.Sims.{IsSim}
use Rattle.sp_sim.specs.Loading.{fresh_bank, fresh_dram, HasWidth, HasContents, BeginsWith}
use Rattle.sp_sim.proofs.CellLemmas.{place_split, right_at, nth_place}
use Rattle.sp_sim.proofs.Settled.{obeyed}
use Rattle.sp_sim.proofs.Held.{place_of_cell, contains_place}
use Rattle.sp_sim.proofs.Served.{count_split}
use Rattle.sp_sim.proofs.Begun.{begun}
use Rattle.sp_sim.proofs.Parts.{fixed_free}
use Rattle.sp_sim.proofs.Fresh.{zeros_at, bank_memory, dram_memory, are_banks_first, are_drams_first}

passes_at : (p : PlainCell → Bool) (cells : List PlainCell) (at : ℕ) → p (get_or cells at (done_cell 0)) ≡ true → p (cell_at cells at) ≡ true
unfolding cell_at
passes_at p cells at e = e

-- each bank can be made, and each DRAM
pub has_width : (cells : List PlainCell) → IsNetlist cells → (x : PlainCell) → Contains cells x → HasWidth x
has_width cells h x c = let p = place_of_cell cells x c in subst HasWidth p.2 (one (take p.0 cells) (cell_at cells p.0) (right_at cells h p.0 p.1))
  where
    one : (before : List PlainCell) (y : PlainCell) → IsRight cells before y → HasWidth y
    one before (bank_cell bank width len) r = r.1
    one before _ r = tt

pub has_contents : (cells : List PlainCell) → IsNetlist cells → (args : List ℕ) (contents : List (List ℕ)) → IsGiven cells args contents → (x : PlainCell) → Contains cells x → HasContents contents x
has_contents cells h args contents given x c =
    let p = place_of_cell cells x c in
    subst (HasContents contents) p.2 (one (take p.0 cells) (cell_at cells p.0) (drop (suc p.0) cells) (place_split cells p.0 p.1) (right_at cells h p.0 p.1))
  where
    one : (before : List PlainCell) (y : PlainCell) (after : List PlainCell) → cells ≡ before ++ y ∷ after → IsRight cells before y → HasContents contents y
    one before (dram_cell dram name ty dims) after e r =
        (omega (arith, count_split is_dram cells before (dram_cell dram name ty dims) after e refl, r.0, given.drams_number), (given.drams_fit before dram name ty dims after e).1)
    one before _ after e r = tt

module _ (g : Setting) (h : IsNetlist g.cells) (given : IsGiven g.cells g.args g.drams) (state : State) (b : BeginsWith g.cells g.args g.drams state) where
  first_is_state : (s : Signals) → IsQuiet g s → IsState g.cells state
  first_is_state s q = record {
    row = subst (IsRow g.cells) (sym b.row) (begun g h s q given b.row_nets b.row_same).is_row;
    next = subst (IsRow g.cells) (sym b.next) (begun g h s q given b.next_nets b.next_same).is_row;
    banks = subst (AreBanks g.cells) (sym b.banks) (are_banks_first g.cells h);
    drams = subst (AreDrams g.cells) (sym b.drams) (are_drams_first g.cells h g.args g.drams given);
    phases = sym (length-map state.phases.items plain_phase) ∙ ap length b.phases ∙ length-replicate (count_by is_unit g.cells) idle;
    reads = b.reads ∙ ap length b.banks ∙ (are_banks_first g.cells h).number;
    writes = b.writes ∙ ap length b.banks ∙ (are_banks_first g.cells h).number;
  }

  bank_zero : (s : Signals) → IsQuiet g s → (n addr : ℕ) → s.bank 0 n addr ≡ 0
  bank_zero s q n addr = ⊎_elim
      (λ l. let p = nth_place is_bank g.cells (done_cell 0) n l in one p.0 p.1 p.3 (cell_at g.cells p.0) refl (passes_at is_bank g.cells p.0 p.2))
      (λ l. q.banks 0 n addr l) (cases_lt n (count_by is_bank g.cells))
    where
      one : (at : ℕ) → at < length g.cells → count_by is_bank (take at g.cells) ≡ n → (x : PlainCell) → cell_at g.cells at ≡ x → is_bank x ≡ true → s.bank 0 n addr ≡ 0
      one at l place (bank_cell bank width len) e is =
          let right = subst (IsRight g.cells (take at g.cells)) e (right_at g.cells h at l) in
          let o = subst (Obeys g s (take at g.cells)) e (obeyed g h s q at l) in
          subst (λ k. s.bank 0 k addr ≡ 0) (right.0 ∙ place) (o.0 addr)
      one at l place _ e is = absurd (false≢true is)

  fresh_zero : (n addr : ℕ) → word_at (flat_map fresh_bank g.cells) n addr ≡ 0
  unfolding word_at
  fresh_zero n addr = ⊎_elim
      (λ l. let p = nth_place is_bank g.cells (done_cell 0) n l in one p.0 p.1 p.3 (cell_at g.cells p.0) refl (passes_at is_bank g.cells p.0 p.2))
      (λ l. ap (λ m. get_or m.words addr 0) (get_or_past (flat_map fresh_bank g.cells) n no_words (omega (arith, (are_banks_first g.cells h).number))))
      (cases_lt n (count_by is_bank g.cells))
    where
      one : (at : ℕ) → at < length g.cells → count_by is_bank (take at g.cells) ≡ n → (x : PlainCell) → cell_at g.cells at ≡ x → is_bank x ≡ true → get_or (get_or (flat_map fresh_bank g.cells) n no_words).words addr 0 ≡ 0
      one at l place (bank_cell bank width len) e is =
          let right = subst (IsRight g.cells (take at g.cells)) e (right_at g.cells h at l) in
          subst (λ k. get_or (get_or (flat_map fresh_bank g.cells) k no_words).words addr 0 ≡ 0) (right.0 ∙ place)
          (ap (λ m. get_or m.words addr 0) (bank_memory g.cells h at bank width len l e) ∙ zeros_at len addr)
      one at l place _ e is = absurd (false≢true is)

  dram_first : (s : Signals) → IsQuiet g s → (n addr : ℕ) → word_at (flat_map (fresh_dram g.drams) g.cells) n addr ≡ s.dram 0 n addr
  unfolding word_at
  dram_first s q n addr = ⊎_elim
      (λ l. let p = nth_place is_dram g.cells (done_cell 0) n l in one p.0 p.1 p.3 (cell_at g.cells p.0) refl (passes_at is_dram g.cells p.0 p.2))
      (λ l. ap (λ m. get_or m.words addr 0) (get_or_past (flat_map (fresh_dram g.drams) g.cells) n no_words (omega (arith, (are_drams_first g.cells h g.args g.drams given).number)))
      ∙ sym (q.drams 0 n addr l (omega (arith, given.drams_number))))
      (cases_lt n (count_by is_dram g.cells))
    where
      one : (at : ℕ) → at < length g.cells → count_by is_dram (take at g.cells) ≡ n → (x : PlainCell) → cell_at g.cells at ≡ x → is_dram x ≡ true → get_or (get_or (flat_map (fresh_dram g.drams) g.cells) n no_words).words addr 0 ≡ s.dram 0 n addr
      one at l place (dram_cell dram name ty dims) e is =
          let right = subst (IsRight g.cells (take at g.cells)) e (right_at g.cells h at l) in
          let o = subst (Obeys g s (take at g.cells)) e (obeyed g h s q at l) in
          subst (λ k. get_or (get_or (flat_map (fresh_dram g.drams) g.cells) k no_words).words addr 0 ≡ s.dram 0 k addr) (right.0 ∙ place)
          (ap (λ m. get_or m.words addr 0) (dram_memory g.cells h g.args g.drams given at dram name ty dims l e) ∙ sym (o.0 addr))
      one at l place _ e is = absurd (false≢true is)

  phase_idle : (s : Signals) → IsQuiet g s → (n : ℕ) → s.phase 0 n ≡ idle
  phase_idle s q n = ⊎_elim
      (λ l. let p = nth_place is_unit g.cells (done_cell 0) n l in one p.0 p.1 p.3 (cell_at g.cells p.0) refl (passes_at is_unit g.cells p.0 p.2))
      (λ l. q.phases 0 n l) (cases_lt n (count_by is_unit g.cells))
    where
      one : (at : ℕ) → at < length g.cells → count_by is_unit (take at g.cells) ≡ n → (x : PlainCell) → cell_at g.cells at ≡ x → is_unit x ≡ true → s.phase 0 n ≡ idle
      one at l place (load_unit channel dram ready net request last addr) e is =
          let right = subst (IsRight g.cells (take at g.cells)) e (right_at g.cells h at l) in
          let o = subst (Obeys g s (take at g.cells)) e (obeyed g h s q at l) in
          subst (λ k. s.phase 0 k ≡ idle) (right.0 ∙ place) o.0.begins
      one at l place (store_unit channel dram ready request last addr word) e is =
          let right = subst (IsRight g.cells (take at g.cells)) e (right_at g.cells h at l) in
          let o = subst (Obeys g s (take at g.cells)) e (obeyed g h s q at l) in
          subst (λ k. s.phase 0 k ≡ idle) (right.0 ∙ place) o.begins
      one at l place _ e is = absurd (false≢true is)

  first_stands : (s : Signals) → IsQuiet g s → StandsIn g s 0 state
  unfolding phase_at
  first_stands s q = record {
    kept = λ at l free net c. ap (λ r. word_of r net) b.row ∙ (begun g h s q given b.row_nets b.row_same).made (cell_at g.cells at) (contains_place g.cells at l) free net c;
    fixed = λ at l stays net c. ap (λ r. word_of r net) b.next ∙ (begun g h s q given b.next_nets b.next_same).made (cell_at g.cells at) (contains_place g.cells at l) (fixed_free (cell_at g.cells at) stays) net c;
    banks = ap word_at b.banks ∙ fun_ext (λ n. fun_ext (λ a. fresh_zero n a ∙ sym (bank_zero s q n a)));
    drams = ap word_at b.drams ∙ fun_ext (λ n. fun_ext (λ a. dram_first s q n a));
    phases = λ n. ap (λ ps. get_or ps n idle) b.phases ∙ all_idle n ∙ sym (phase_idle s q n);
    taken = b.taken ∙ sym (ap (λ k. min k (length g.delays)) q.run.asked_first ∙ omega arith);
  }
    where
      all_idle : (n : ℕ) → get_or (replicate (count_by is_unit g.cells) idle) n idle ≡ idle
      all_idle n = ⊎_elim (λ l. get_or-replicate (count_by is_unit g.cells) n idle idle l) (λ l. get_or_past (replicate (count_by is_unit g.cells) idle) n idle (omega (arith, length-replicate (count_by is_unit g.cells) idle))) (cases_lt n (count_by is_unit g.cells))

  pub first_sim : HasQuietRun → (program : Program) → IsProgram g.cells program → IsSim g program 0 state None
  first_sim quiet program o = record {
    netlist = h;
    given = given.drams_number;
    is_program = o;
    is_state = let run = quiet g h in first_is_state run.0 run.1;
    went_on = λ s q t l. absurd (omega arith);
    stands = first_stands;
    ended = λ s q. tt;
  }
