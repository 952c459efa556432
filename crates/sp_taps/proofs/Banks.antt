-- A bank with its taps.
use Rattle.std.proofs.Common.{◌≡◌, ℕ, ◌+◌, ◌<◌, ◌≤◌, ◌==◌, ◌&&◌, Bool, true, false, cond, List, [], ◌∷◌, ◌++◌, length, count_by, filter, get_or, Some, slice_get, option_map, refl, sym, ap, subst, ◌∙◌, ⊎_elim, arith, eq-eqb, eqb-true, lt-ltb, append_assoc}
use Rattle.std.proofs.lemmas.Bool.{or_cases, false≢true}
use Rattle.std.proofs.lemmas.List.Elements.{Contains-get_or, filter-append}
use Rattle.std.proofs.lemmas.List.Sums.{sum_by-append}
use Rattle.sp_netlist.specs.declared.cell.Port.{Port}
use Rattle.sp_netlist.specs.declared.cell.Port.TheVariants.{Read, Write}
use Rattle.sp_netlist.specs.Cells.{PlainCell, bank_cell, write_tap, read_tap, done_cell}
use Rattle.sp_netlist.specs.Rules.{is_bank, bank_width}
use Rattle.sp_netlist.specs.Cycle.{is_enabled_tap}
use Rattle.sp_netlist.specs.Signals.{Signals, Obeys}
use Rattle.sp_netlist.specs.Draft.{Draft, IsDraft, CanAdd, driver_count}
use Rattle.sp_netlist.specs.Parts.{names_bank, stands_for_bank, NoCell, SomeCell, RunsPart}
use Rattle.sp_netlist.proofs.PartLaws.{locality}
use Rattle.sp_netlist.proofs.DraftNames.{draft_laws}
use Rattle.sp_gates.specs.Runs.{RunsOn}
use Rattle.sp_taps.specs.declared.store.Store.{Store}
use Rattle.sp_taps.specs.Stores.{RunsStore}

pub can_read : (d : Draft) (bank width found read read_at : ℕ) → bank < count_by is_bank d.cells → bank_width d.cells bank ≡ width → slice_get d.promised found ≡ Some (width, true) → driver_count d.cells found ≡ 0
    → slice_get d.promised read ≡ Some (1, false) → slice_get d.promised read_at ≡ Some (32, false) → CanAdd d (read_tap found bank read read_at)
can_read d bank width found read read_at within wide p z e a = record {
  right = within;
  drives_promised = (p ∙ ap (λ w. Some (w, true)) (sym wide), tt);
  drives_new = (z, tt);
  drives_apart = tt;
  reads_promised = (ap (option_map (λ n. n.0)) e, (ap (option_map (λ n. n.0)) a, tt));
  operands_ready = λ h. absurd (false≢true h);
}

pub three_cells : (old a b c : List PlainCell) (x y z : PlainCell) → a ≡ old ++ x ∷ [] → b ≡ a ++ y ∷ [] → c ≡ b ++ z ∷ [] → c ≡ old ++ x ∷ y ∷ z ∷ []
three_cells old a b c x y z ea eb ec =
    ec ∙ ap (λ l. l ++ z ∷ []) (eb ∙ ap (λ l. l ++ y ∷ []) ea) ∙ ap (λ l. l ++ z ∷ []) (append_assoc old (x ∷ []) (y ∷ [])) ∙ append_assoc old (x ∷ y ∷ []) (z ∷ [])

module _ (old new : Draft) (bank width len : ℕ) (store : Store) (h : IsDraft old) (is : bank ≡ count_by is_bank old.cells)
    (cells : new.cells ≡ old.cells ++ bank_cell bank width len ∷ write_tap bank store.write store.write_at store.word ∷ read_tap store.found bank store.read store.read_at ∷ []) where
  part : List PlainCell
  part = bank_cell bank width len ∷ write_tap bank store.write store.write_at store.word ∷ read_tap store.found bank store.read store.read_at ∷ []

  pub one_bank : count_by is_bank new.cells ≡ bank + 1
  unfolding part
  one_bank = ap (count_by is_bank) cells ∙ sum_by-append (λ c. cond (is_bank c) 1 0) old.cells part ∙ omega (arith, is)

  pub banks_are : filter is_bank new.cells ≡ filter is_bank old.cells ++ bank_cell bank width len ∷ []
  unfolding part
  banks_are = ap (filter is_bank) cells ∙ filter-append is_bank old.cells part

  module _ (s : Signals) (r : RunsOn s new.cells) where
    stand : r.setting.cells ≡ old.cells ++ part ++ r.rest
    unfolding part
    stand = r.stands ∙ ap (λ xs. xs ++ r.rest) cells

    before_free : NoCell (names_bank bank) old.cells
    before_free = draft_laws.bank old bank h (omega (arith, is))

    after_free : NoCell (names_bank bank) r.rest
    after_free = r.banks bank (let c = one_bank in omega (arith, c))

    own : (n : ℕ) → SomeCell (stands_for_bank n) part → NoCell (names_bank n) old.cells × NoCell (names_bank n) r.rest
    unfolding part
    own n k = ⊎_elim (λ e. subst (λ b. NoCell (names_bank b) old.cells × NoCell (names_bank b) r.rest) (eqb-true bank n e) (before_free, after_free)) (λ e. absurd (false≢true e)) (or_cases (bank == n) false k)

    runs : RunsPart r.setting s old.cells part
    unfolding part
    runs = locality.view r.setting s old.cells part r.rest r.run (record { stands = stand; banks = own; drams = λ dram k. absurd (false≢true k) })

    obeyed : (k : ℕ) → k < length part → (before : List PlainCell) × Obeys (record { cells = part; args = r.setting.args; drams = r.setting.drams; delays = r.setting.delays }) s before (get_or part k (done_cell 0))
    obeyed k l = locality.cell r.setting s old.cells part runs (get_or part k (done_cell 0)) (Contains-get_or part k (done_cell 0) l)

    same_bank : (bank == bank) ≡ true
    same_bank = eq-eqb bank bank refl

    pub is_store : RunsStore s bank len store
    unfolding part
    is_store = record {
      begins = (obeyed 0 (omega arith)).1.0;
      goes = λ t place l. let e = same_bank in let step = (obeyed 0 (omega arith)).1.1 t place in let k = lt-ltb place len l in cc;
      finds = (obeyed 2 (omega arith)).1;
    }

    bit : (b : Bool) → cond b 1 0 ≤ 1
    bit true = omega arith
    bit false = omega arith

    at_most_one : (words : ℕ → ℕ) (port : Port) → count_by (is_enabled_tap words port bank) part ≤ 1
    unfolding part
    at_most_one words Read = let k = bit ((bank == bank) && (words store.read == 1)) in omega (arith, k)
    at_most_one words Write = let k = bit ((bank == bank) && (words store.write == 1)) in omega (arith, k)

    pub no_clash : (t : ℕ) (port : Port) → count_by (is_enabled_tap (s.net t) port bank) r.setting.cells ≤ 1
    no_clash t port = subst (λ n. n ≤ 1) (sym (ap (count_by (is_enabled_tap (s.net t) port bank)) stand ∙ locality.taps old.cells part r.rest (s.net t) port bank before_free after_free)) (at_most_one (s.net t) port)
