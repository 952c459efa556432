-- The signals that are made cycle by cycle are a run.
use Rattle.std.proofs.Common.{◌≡◌, ℕ, zero, suc, ◌<◌, List, [], ◌∷◌, ◌++◌, Bool, true, false, cond, ◌||◌, ◌==◌, IsTrue, map, refl, sym, ap, ◌∙◌, Contains, arith, ⊎_elim, eq-eqb}
use Rattle.std.proofs.lemmas.Bool.{or_left, or_right, cases_Bool}
use Rattle.sp_netlist.specs.Cells.{PlainCell, in_cell, out_cell, done_cell, const_cell, op_cell, not_cell, shift_cell, cast_cell, mux_cell, reg_cell, bank_cell, read_tap, write_tap, dram_cell, load_unit, store_unit}
use Rattle.sp_netlist.specs.Rules.{drives, reads, dram_width, is_computed, IsNetlist}
use Rattle.sp_netlist.specs.Signals.{Setting, Signals, shift_word, ready_word, next_phase, delay_of, RunsChannel, Obeys, IsRun}
use Rattle.sp_words.specs.Words.{word_not, word_cast}
use Rattle.sp_netlist.specs.Parts.{stands_for_bank, stands_for_dram, stands_for_channel}
use Rattle.sp_netlist.proofs.Splits.{Split, count-cons_yes, piece_count}
use Rattle.sp_netlist.proofs.Machine.{Kept, found, look_up, found_split, is_net, drives_net, cell_word, found_word, settle, first_word, next_word, next_bank, next_dram, phase_after, words_of, kept_at, machine, at_once}
use Rattle.sp_netlist.proofs.Drivers.{Driver, net_once, bank_once, dram_once, channel_once, driver_drives, operand_driver, feeds}

-- a cell's word is the same where its operands are, if it is computed
same_word : (g : Setting) (kept : Kept) (before : List PlainCell) (net : ℕ) (cells : List PlainCell) (w v : ℕ → ℕ) (cell : PlainCell)
    → ((a : ℕ) → IsTrue (is_computed cell) → Contains (map (λ p. p.0) (reads cells cell)) a → w a ≡ v a)
    → cell_word g kept before net w cell ≡ cell_word g kept before net v cell
same_word g kept before net cells w v (op_cell n ty op a b) h =
    let ea = h a refl (0, omega arith, refl) in
    let eb = h b refl (1, omega arith, refl) in
    cc
same_word g kept before net cells w v (not_cell n ty a) h = ap (word_not ty) (h a refl (0, omega arith, refl))
same_word g kept before net cells w v (shift_cell n ty side a places) h = ap (λ x. shift_word side ty x places) (h a refl (0, omega arith, refl))
same_word g kept before net cells w v (cast_cell n from to a) h = ap (word_cast from to) (h a refl (0, omega arith, refl))
same_word g kept before net cells w v (mux_cell n width choice a b) h =
    let ec = h choice refl (0, omega arith, refl) in
    let ea = h a refl (1, omega arith, refl) in
    let eb = h b refl (2, omega arith, refl) in
    cc
same_word g kept before net cells w v _ h = refl

-- a net is looked up as the cell that drives it
settle_step : (g : Setting) (h : IsNetlist g.cells) (kept : Kept) (n net : ℕ) (before : List PlainCell) (cell : PlainCell) (after : List PlainCell)
    → g.cells ≡ before ++ cell ∷ after → drives_net g.cells net cell ≡ true
    → settle g kept (suc n) net ≡ cell_word g kept before net (settle g kept n) cell
unfolding settle
settle_step g h kept n net before cell after e d =
    ap (found_word g kept net (settle g kept n)) (found_split (drives_net g.cells net) g.cells before cell after e d (net_once g.cells h net))

-- from a net's rank on more steps give the same
settle_more : (g : Setting) (h : IsNetlist g.cells) (kept : Kept) (n m net : ℕ) → Driver g.cells net → h.ranked.0 net < n → h.ranked.0 net < m → settle g kept n net ≡ settle g kept m net
settle_more g h kept zero m net d l k = absurd (omega arith)
settle_more g h kept (suc n) zero net d l k = absurd (omega arith)
settle_more g h kept (suc n) (suc m) net d l k =
    let drives = driver_drives g.cells net d in
    settle_step g h kept n net d.split.before d.cell d.split.after d.split.is drives
    ∙ same_word g kept d.split.before net g.cells (settle g kept n) (settle g kept m) d.cell
    (λ a c r.
    let lower = h.ranked.1 a net (feeds g.cells d.cell a net d.split c r drives) in
    settle_more g h kept n m a (operand_driver g.cells h d.cell a d.split r) (omega (arith, lower)) (omega (arith, lower)))
    ∙ sym (settle_step g h kept m net d.split.before d.cell d.split.after d.split.is drives)

-- so the words obey the cells
pub settled : (g : Setting) (h : IsNetlist g.cells) (kept : Kept) (net : ℕ) (before : List PlainCell) (cell : PlainCell) (after : List PlainCell)
    → g.cells ≡ before ++ cell ∷ after → drives_net g.cells net cell ≡ true
    → words_of g h.ranked.0 kept net ≡ cell_word g kept before net (words_of g h.ranked.0 kept) cell
settled g h kept net before cell after e d =
    let split : Split g.cells cell = record { before = before; after = after; is = e } in
    settle_step g h kept (h.ranked.0 net) net before cell after e d
    ∙ same_word g kept before net g.cells (settle g kept (h.ranked.0 net)) (words_of g h.ranked.0 kept) cell
    (λ a c r.
    let lower = h.ranked.1 a net (feeds g.cells cell a net split c r d) in
    settle_more g h kept (h.ranked.0 net) (suc (h.ranked.0 a)) a (operand_driver g.cells h cell a split r) lower (omega arith))

-- what a lone cell drives
own_net : (net : ℕ) → ((net == net) || false) ≡ true
own_net net = or_left (net == net) false (eq-eqb net net refl)

second_net : (net other : ℕ) → ((other == net) || ((net == net) || false)) ≡ true
second_net net other = or_right (other == net) ((net == net) || false) (own_net net)

first_net : (net other : ℕ) → ((net == net) || ((other == net) || false)) ≡ true
first_net net other = or_left (net == net) ((other == net) || false) (eq-eqb net net refl)

-- the word of a net in a cycle, by the cell that drives it
word_at : (g : Setting) (h : IsNetlist g.cells) (before : List PlainCell) (cell : PlainCell) (after : List PlainCell) (e : g.cells ≡ before ++ cell ∷ after)
    (net : ℕ) → drives_net g.cells net cell ≡ true → (t : ℕ)
    → (machine g h.ranked.0).net t net ≡ cell_word g (kept_at g h.ranked.0 t) before net ((machine g h.ranked.0).net t) cell
word_at g h before cell after e net d t = settled g h (kept_at g h.ranked.0 t) net before cell after e d

-- the driver as it is looked up
net_found : (g : Setting) (h : IsNetlist g.cells) (before : List PlainCell) (cell : PlainCell) (after : List PlainCell) (e : g.cells ≡ before ++ cell ∷ after)
    (net : ℕ) → drives_net g.cells net cell ≡ true → look_up (drives_net g.cells net) g.cells ≡ found before cell
net_found g h before cell after e net d = found_split (drives_net g.cells net) g.cells before cell after e d (net_once g.cells h net)

channel_found : (g : Setting) (h : IsNetlist g.cells) (before : List PlainCell) (cell : PlainCell) (after : List PlainCell) (e : g.cells ≡ before ++ cell ∷ after)
    (channel : ℕ) → stands_for_channel channel cell ≡ true → look_up (stands_for_channel channel) g.cells ≡ found before cell
channel_found g h before cell after e channel d = found_split (stands_for_channel channel) g.cells before cell after e d (channel_once g.cells h channel)

-- a load unit's two nets are two
apart : (cells : List PlainCell) (h : IsNetlist cells) (before : List PlainCell) (channel dram ready net request last addr : ℕ) (after : List PlainCell)
    → cells ≡ before ++ load_unit channel dram ready net request last addr ∷ after → (ready == net) ≡ false
apart cells h before channel dram ready net request last addr after e = ⊎_elim same (λ fails. fails) (cases_Bool (ready == net))
  where
    both : List (ℕ × ℕ)
    both = drives cells (load_unit channel dram ready net request last addr)

    same : (ready == net) ≡ true → (ready == net) ≡ false
    same k = absurd (omega (
      arith,
      h.driven_once net,
      piece_count (is_net net) (drives cells) cells before (load_unit channel dram ready net request last addr) after e,
      count-cons_yes (is_net net) (ready, 1) ((net, dram_width cells dram) ∷ []) k,
      count-cons_yes (is_net net) (net, dram_width cells dram) [] (eq-eqb net net refl),
    ))

-- a channel of a unit
runs_channel : (g : Setting) (h : IsNetlist g.cells) (before : List PlainCell) (cell : PlainCell) (after : List PlainCell) → g.cells ≡ before ++ cell ∷ after
    → (channel ready request last : ℕ) → stands_for_channel channel cell ≡ true → drives_net g.cells ready cell ≡ true
    → ((kept : Kept) (w : ℕ → ℕ) → phase_after g kept w channel (found before cell) ≡ next_phase (kept.phase channel) (w request) (w last) (delay_of g (at_once kept w) 0 before))
    → ((kept : Kept) (w : ℕ → ℕ) → cell_word g kept before ready w cell ≡ ready_word (kept.phase channel))
    → RunsChannel g (machine g h.ranked.0) before channel ready request last
unfolding kept_at
runs_channel g h before cell after e channel ready request last c d steps shown = record {
  begins = refl;
  goes_on = λ t.
      ap (phase_after g (kept_at g h.ranked.0 t) ((machine g h.ranked.0).net t) channel) (channel_found g h before cell after e channel c)
      ∙ steps (kept_at g h.ranked.0 t) ((machine g h.ranked.0).net t);
  shows = λ t. word_at g h before cell after e ready d t ∙ shown (kept_at g h.ranked.0 t) ((machine g h.ranked.0).net t);
}

obeys : (g : Setting) (h : IsNetlist g.cells) (before : List PlainCell) (cell : PlainCell) (after : List PlainCell) → g.cells ≡ before ++ cell ∷ after
    → Obeys g (machine g h.ranked.0) before cell
unfolding kept_at
obeys g h before (in_cell name net ty) after e = λ t. word_at g h before (in_cell name net ty) after e net (own_net net) t
obeys g h before (out_cell name net ty) after e = tt
obeys g h before (done_cell net) after e = tt
obeys g h before (const_cell net width word) after e = λ t. word_at g h before (const_cell net width word) after e net (own_net net) t
obeys g h before (op_cell net ty op a b) after e = λ t. word_at g h before (op_cell net ty op a b) after e net (own_net net) t
obeys g h before (not_cell net ty a) after e = λ t. word_at g h before (not_cell net ty a) after e net (own_net net) t
obeys g h before (shift_cell net ty side a places) after e = λ t. word_at g h before (shift_cell net ty side a places) after e net (own_net net) t
obeys g h before (cast_cell net from to a) after e = λ t. word_at g h before (cast_cell net from to a) after e net (own_net net) t
obeys g h before (mux_cell net width choice a b) after e = λ t. word_at g h before (mux_cell net width choice a b) after e net (own_net net) t
obeys g h before (reg_cell net width first next enable) after e =
    let at = net_found g h before (reg_cell net width first next enable) after e net (own_net net) in (
      word_at g h before (reg_cell net width first next enable) after e net (own_net net) 0 ∙ ap first_word at,
      λ t. word_at g h before (reg_cell net width first next enable) after e net (own_net net) (suc t) ∙ ap (next_word (kept_at g h.ranked.0 t) net ((machine g h.ranked.0).net t)) at,
    )
obeys g h before (bank_cell bank width len) after e = (
  λ addr. refl,
  λ t addr. ap (next_bank g.cells ((machine g h.ranked.0).net t) bank addr ((machine g h.ranked.0).bank t bank addr))
      (found_split (stands_for_bank bank) g.cells before (bank_cell bank width len) after e (eq-eqb bank bank refl) (bank_once g.cells h bank)),
)
obeys g h before (read_tap net bank enable addr) after e =
    let at = net_found g h before (read_tap net bank enable addr) after e net (own_net net) in (
      word_at g h before (read_tap net bank enable addr) after e net (own_net net) 0 ∙ ap first_word at,
      λ t. word_at g h before (read_tap net bank enable addr) after e net (own_net net) (suc t) ∙ ap (next_word (kept_at g h.ranked.0 t) net ((machine g h.ranked.0).net t)) at,
    )
obeys g h before (write_tap bank enable addr word) after e = tt
obeys g h before (dram_cell dram name ty dims) after e = (
  λ addr. refl,
  λ t addr. ap (next_dram g.cells ((machine g h.ranked.0).net t) dram addr ((machine g h.ranked.0).dram t dram addr))
      (found_split (stands_for_dram dram) g.cells before (dram_cell dram name ty dims) after e (eq-eqb dram dram refl) (dram_once g.cells h dram)),
)
obeys g h before (load_unit channel dram ready net request last addr) after e =
    let cell : PlainCell = load_unit channel dram ready net request last addr in
    let two = apart g.cells h before channel dram ready net request last addr after e in
    let at = net_found g h before (load_unit channel dram ready net request last addr) after e net (second_net net ready) in
    let word = word_at g h before (load_unit channel dram ready net request last addr) after e net (second_net net ready) in (
      runs_channel g h before (load_unit channel dram ready net request last addr) after e channel ready request last (eq-eqb channel channel refl) (first_net ready net)
          (λ kept w. refl) (λ kept w. ap (λ (b : Bool). cond b (ready_word (kept.phase channel)) (kept.net ready)) (eq-eqb ready ready refl)),
      (
        word 0 ∙ ap (λ (b : Bool). cond b (ready_word ((kept_at g h.ranked.0 0).phase channel)) ((kept_at g h.ranked.0 0).net net)) two ∙ ap first_word at,
        λ t. word (suc t) ∙ ap (λ (b : Bool). cond b (ready_word ((kept_at g h.ranked.0 (suc t)).phase channel)) ((kept_at g h.ranked.0 (suc t)).net net)) two
            ∙ ap (next_word (kept_at g h.ranked.0 t) net ((machine g h.ranked.0).net t)) at,
      ),
    )
obeys g h before (store_unit channel dram ready request last addr word) after e =
    runs_channel g h before (store_unit channel dram ready request last addr word) after e channel ready request last (eq-eqb channel channel refl) (own_net ready)
    (λ kept w. refl) (λ kept w. refl)

pub machine_runs : (g : Setting) (h : IsNetlist g.cells) → IsRun g (machine g h.ranked.0)
unfolding kept_at
machine_runs g h = record { cells = obeys g h; asked_first = refl; asked_next = λ t. refl }

pub some_run : (g : Setting) → IsNetlist g.cells → (s : Signals) × IsRun g s
some_run g h = (machine g h.ranked.0, machine_runs g h)
