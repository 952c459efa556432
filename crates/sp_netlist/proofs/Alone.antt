-- The laws of parts.
use Rattle.std.proofs.Common.{◌≡◌, ℕ, List, ◌∷◌, ◌++◌, Bool, true, nat_lt, if◌then◌else◌, refl, sym, ap, ◌∙◌, append_assoc, subst, eq-eqb}
use Rattle.sp_netlist.specs.Cells.{PlainCell, in_cell, out_cell, done_cell, const_cell, op_cell, not_cell, shift_cell, cast_cell, mux_cell, reg_cell, bank_cell, read_tap, write_tap, dram_cell, load_unit, store_unit}
use Rattle.sp_words.specs.Interface.{word_count}
use Rattle.sp_netlist.specs.Signals.{Setting, Signals, bank_after, dram_after, RunsChannel, Obeys, IsRun}
use Rattle.sp_netlist.specs.Parts.{stands_for_bank, stands_for_dram, SomeCell, IsPart, RunsPart}
use Rattle.sp_netlist.proofs.Splits.{contains_split, any_contains}
use Rattle.sp_netlist.proofs.Apart.{part_bank, part_dram}

-- some cell passes where one does
pub some_cell : (test : PlainCell → Bool) (xs before : List PlainCell) (x : PlainCell) (after : List PlainCell) → xs ≡ before ++ x ∷ after → test x ≡ true → SomeCell test xs
some_cell test xs before x after e pass = let c = contains_split xs before x after e in any_contains test xs c.0 x c.1 c.2 pass

abbrev pub alone : Setting → List PlainCell → Setting
alone g part = record { cells = part; args = g.args; drams = g.drams; delays = g.delays }

channel_alone : (g : Setting) (s : Signals) (part before : List PlainCell) (channel ready request last : ℕ) → RunsChannel g s before channel ready request last → RunsChannel (alone g part) s before channel ready request last
channel_alone g s part before channel ready request last o = record { begins = o.begins; goes_on = o.goes_on; shows = o.shows }

obeys_alone : (g : Setting) (s : Signals) (front part rest : List PlainCell) → IsPart g.cells front part rest → (before : List PlainCell) (x : PlainCell) (after : List PlainCell) → part ≡ before ++ x ∷ after
    → Obeys g s (front ++ before) x → Obeys (alone g part) s (front ++ before) x
obeys_alone g s front part rest p before (in_cell name net ty) after e o = o
obeys_alone g s front part rest p before (out_cell name net ty) after e o = o
obeys_alone g s front part rest p before (done_cell net) after e o = o
obeys_alone g s front part rest p before (const_cell net width word) after e o = o
obeys_alone g s front part rest p before (op_cell net ty op a b) after e o = o
obeys_alone g s front part rest p before (not_cell net ty a) after e o = o
obeys_alone g s front part rest p before (shift_cell net ty side a places) after e o = o
obeys_alone g s front part rest p before (cast_cell net from to a) after e o = o
obeys_alone g s front part rest p before (mux_cell net width choice a b) after e o = o
obeys_alone g s front part rest p before (reg_cell net width first next enable) after e o = o
obeys_alone g s front part rest p before (read_tap net bank enable addr) after e o = o
obeys_alone g s front part rest p before (write_tap bank enable addr word) after e o = o
obeys_alone g s front part rest p before (bank_cell bank width len) after e o =
    let apart = p.banks bank (some_cell (stands_for_bank bank) part before (bank_cell bank width len) after e (eq-eqb bank bank refl)) in (
      o.0,
      λ t addr. o.1 t addr ∙ ap (λ x. if nat_lt addr len then x else 0)
          (subst (λ zs. bank_after zs (s.net t) bank addr (s.bank t bank addr) ≡ bank_after part (s.net t) bank addr (s.bank t bank addr)) (sym p.stands)
          (part_bank front part rest (s.net t) bank addr (s.bank t bank addr) apart.0 apart.1)),
    )
obeys_alone g s front part rest p before (dram_cell dram name ty dims) after e o =
    let apart = p.drams dram (some_cell (stands_for_dram dram) part before (dram_cell dram name ty dims) after e (eq-eqb dram dram refl)) in (
      o.0,
      λ t addr. o.1 t addr ∙ ap (λ x. if nat_lt addr (word_count dims) then x else 0)
          (subst (λ zs. dram_after zs (s.net t) dram addr (s.dram t dram addr) ≡ dram_after part (s.net t) dram addr (s.dram t dram addr)) (sym p.stands)
          (part_dram front part rest (s.net t) dram addr (s.dram t dram addr) apart.0 apart.1)),
    )
obeys_alone g s front part rest p before (load_unit channel dram ready net request last addr) after e o = (channel_alone g s part (front ++ before) channel ready request last o.0, o.1)
obeys_alone g s front part rest p before (store_unit channel dram ready request last addr word) after e o = channel_alone g s part (front ++ before) channel ready request last o

pub view : (g : Setting) (s : Signals) (front part rest : List PlainCell) → IsRun g s → IsPart g.cells front part rest → RunsPart g s front part
view g s front part rest r p = record {
  cells = λ before x after e. obeys_alone g s front part rest p before x after e
      (r.cells (front ++ before) x (after ++ rest)
      (p.stands ∙ ap (λ zs. (front ++ zs) ++ rest) e ∙ ap (λ zs. zs ++ rest) (sym (append_assoc front before (x ∷ after))) ∙ append_assoc (front ++ before) (x ∷ after) rest));
}
