-- The run that is made cycle by cycle is 0 where no cell drives or keeps anything.
use Rattle.std.proofs.Common.{◌≡◌, ℕ, zero, suc, ◌+◌, ◌<◌, ◌≤◌, List, [], ◌∷◌, ◌++◌, Bool, true, false, cond, ◌==◌, length, get_or, count_by, Contains, refl, sym, ap, ◌∙◌, subst, arith, ⊎_elim, ne_eqb}
use Rattle.std.specs.List.{list_any}
use Rattle.std.proofs.lemmas.Bool.{cases_Bool, false≢true, or_cases}
use Rattle.std.proofs.lemmas.List.{get_or_past}
use Rattle.std.proofs.lemmas.Bool.{eqb-true}
use Rattle.sp_netlist.specs.Cells.{PlainCell, bank_cell, dram_cell, load_unit, store_unit}
use Rattle.sp_netlist.specs.Rules.{is_bank, is_dram, is_unit, drives, driven_nets, IsNetlist, IsRight}
use Rattle.sp_netlist.specs.Signals.{Setting, Phase, idle, Signals, given_words}
use Rattle.sp_netlist.specs.Parts.{stands_for_bank, stands_for_dram, stands_for_channel}
use Rattle.sp_netlist.specs.Quiet.{IsQuiet, HasQuietRun}
use Rattle.sp_netlist.proofs.Splits.{Split, split_of, count-split, contains_flat, contains_tail}
use Rattle.sp_netlist.proofs.Machine.{Kept, nothing, found, look_up, behind, is_net, drives_net, settle, found_word, next_bank, next_dram, phase_after, words_of, kept_at, machine, at_once}
use Rattle.sp_netlist.proofs.SomeRun.{machine_runs}

-- nothing is found where no element passes
look_up-none : {X : Type 0} (p : X → Bool) (xs : List X) → ((x : X) → Contains xs x → p x ≡ false) → look_up p xs ≡ nothing
unfolding look_up
look_up-none p [] none = refl
look_up-none p (x ∷ xs) none =
    ap (λ (b : Bool). cond b (found [] x) (behind x (look_up p xs))) (none x (0, omega arith, refl))
    ∙ ap (behind x) (look_up-none p xs (λ y c. none y (suc c.0, let l = c.1 in omega arith, c.2)))

any_pair : (net : ℕ) (ps : List (ℕ × ℕ)) → list_any (is_net net) ps ≡ true → (width : ℕ) × Contains ps (net, width)
any_pair net [] e = absurd (false≢true e)
any_pair net (p ∷ ps) e = ⊎_elim
    (λ k. (p.1, (0, omega arith, ap (λ n. (n, p.1)) (eqb-true p.0 net k))))
    (λ k. let rest = any_pair net ps k in (rest.0, contains_tail p (net, rest.0) ps rest.1))
    (or_cases (p.0 == net) (list_any (is_net net) ps) e)

module _ (g : Setting) (h : IsNetlist g.cells) where
  no_driver : (net : ℕ) → ((width : ℕ) → Contains (driven_nets g.cells) (net, width) → ⊥) → look_up (drives_net g.cells net) g.cells ≡ nothing
  no_driver net none = look_up-none (drives_net g.cells net) g.cells (λ x c. ⊎_elim
      (λ e. let p = any_pair net (drives g.cells x) e in absurd (none p.0 (contains_flat (drives g.cells) g.cells x (net, p.0) (split_of g.cells x c) p.1)))
      (λ e. e) (cases_Bool (drives_net g.cells net x)))

  quiet_net : (t net : ℕ) → ((width : ℕ) → Contains (driven_nets g.cells) (net, width) → ⊥) → (machine g h.ranked.0).net t net ≡ 0
  unfolding settle
  quiet_net t net none =
      let kept = kept_at g h.ranked.0 t in
      ap (found_word g kept net (settle g kept (h.ranked.0 net))) (no_driver net none)

  bank_none : (bank : ℕ) → count_by is_bank g.cells ≤ bank → (before : List PlainCell) (x : PlainCell) (after : List PlainCell) → g.cells ≡ before ++ x ∷ after → IsRight g.cells before x → stands_for_bank bank x ≡ false
  bank_none bank l before (bank_cell n width len) after e r = ne_eqb n bank (λ k. absurd (omega (arith, count-split is_bank g.cells before (bank_cell n width len) after e refl, r.0)))
  bank_none bank l before _ after e r = refl

  dram_none : (dram : ℕ) → count_by is_dram g.cells ≤ dram → (before : List PlainCell) (x : PlainCell) (after : List PlainCell) → g.cells ≡ before ++ x ∷ after → IsRight g.cells before x → stands_for_dram dram x ≡ false
  dram_none dram l before (dram_cell n name ty dims) after e r = ne_eqb n dram (λ k. absurd (omega (arith, count-split is_dram g.cells before (dram_cell n name ty dims) after e refl, r.0)))
  dram_none dram l before _ after e r = refl

  channel_none : (channel : ℕ) → count_by is_unit g.cells ≤ channel → (before : List PlainCell) (x : PlainCell) (after : List PlainCell) → g.cells ≡ before ++ x ∷ after → IsRight g.cells before x → stands_for_channel channel x ≡ false
  channel_none channel l before (load_unit c dram ready net request last addr) after e r = ne_eqb c channel (λ k. absurd (omega (arith, count-split is_unit g.cells before (load_unit c dram ready net request last addr) after e refl, r.0)))
  channel_none channel l before (store_unit c dram ready request last addr word) after e r = ne_eqb c channel (λ k. absurd (omega (arith, count-split is_unit g.cells before (store_unit c dram ready request last addr word) after e refl, r.0)))
  channel_none channel l before _ after e r = refl

  quiet_bank : (t bank addr : ℕ) → count_by is_bank g.cells ≤ bank → (machine g h.ranked.0).bank t bank addr ≡ 0
  unfolding kept_at
  quiet_bank zero bank addr l = refl
  quiet_bank (suc t) bank addr l =
      ap (next_bank g.cells ((machine g h.ranked.0).net t) bank addr ((machine g h.ranked.0).bank t bank addr))
      (look_up-none (stands_for_bank bank) g.cells (λ x c. let d = split_of g.cells x c in bank_none bank l d.before x d.after d.is (h.right d.before x d.after d.is)))

  quiet_dram : (t dram addr : ℕ) → count_by is_dram g.cells ≤ dram → length g.drams ≤ dram → (machine g h.ranked.0).dram t dram addr ≡ 0
  unfolding kept_at
  quiet_dram zero dram addr l m = ap (λ ws. get_or ws addr 0) (get_or_past g.drams dram [] m)
  quiet_dram (suc t) dram addr l m =
      ap (next_dram g.cells ((machine g h.ranked.0).net t) dram addr ((machine g h.ranked.0).dram t dram addr))
      (look_up-none (stands_for_dram dram) g.cells (λ x c. let d = split_of g.cells x c in dram_none dram l d.before x d.after d.is (h.right d.before x d.after d.is)))

  quiet_phase : (t channel : ℕ) → count_by is_unit g.cells ≤ channel → (machine g h.ranked.0).phase t channel ≡ idle
  unfolding kept_at
  quiet_phase zero channel l = refl
  quiet_phase (suc t) channel l =
      ap (phase_after g (kept_at g h.ranked.0 t) ((machine g h.ranked.0).net t) channel)
      (look_up-none (stands_for_channel channel) g.cells (λ x c. let d = split_of g.cells x c in channel_none channel l d.before x d.after d.is (h.right d.before x d.after d.is)))

pub quiet_run : HasQuietRun
quiet_run g h = (
  machine g h.ranked.0,
  record {
    run = machine_runs g h;
    nets = quiet_net g h;
    banks = quiet_bank g h;
    drams = quiet_dram g h;
    phases = quiet_phase g h;
  },
)
