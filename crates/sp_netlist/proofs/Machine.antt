-- A run of a netlist, made cycle by cycle: what is kept, then the words of the nets along their ranks.
use Rattle.std.proofs.Common.{◌≡◌, ℕ, zero, suc, ◌+◌, ◌≤◌, List, [], ◌∷◌, ◌++◌, Bool, true, cond, ◌==◌, nat_lt, if◌then◌else◌, ap, ◌∙◌, count_by, slice_index, arith}
use Rattle.std.specs.List.{list_any}
use Rattle.sp_netlist.specs.Cells.{PlainCell, in_cell, out_cell, done_cell, const_cell, op_cell, not_cell, shift_cell, cast_cell, mux_cell, reg_cell, bank_cell, read_tap, write_tap, dram_cell, load_unit, store_unit}
use Rattle.sp_words.specs.Interface.{word_count}
use Rattle.sp_netlist.specs.Rules.{is_in, drives}
use Rattle.sp_netlist.specs.Signals.{Setting, Phase, idle, Signals, op_word, shift_word, ready_word, next_phase, cell_asks, delay_of, bank_after, dram_after, given_words}
use Rattle.sp_words.specs.Words.{word_not, word_cast}
use Rattle.sp_netlist.specs.Parts.{stands_for_bank, stands_for_dram, stands_for_channel}
use Rattle.sp_netlist.proofs.Splits.{count-split, none_first, none_rest}

-- what is kept from cycle to cycle
pub record Kept : Type 0 where
  pub net : ℕ → ℕ
  pub bank : ℕ → ℕ → ℕ
  pub dram : ℕ → ℕ → ℕ
  pub phase : ℕ → Phase
  pub asked : ℕ

-- the first element that passes, and those before it
pub data Found (X : Type 0) : Type 0 where
  nothing : Found X
  found : List X → X → Found X

abbrev pub behind : {X : Type 0} → X → Found X → Found X
behind x nothing = nothing
behind x (found before y) = found (x ∷ before) y

unfoldable pub look_up : {X : Type 0} → (X → Bool) → List X → Found X
look_up p [] = nothing
look_up p (x ∷ xs) = cond (p x) (found [] x) (behind x (look_up p xs))

found_at : {X : Type 0} (p : X → Bool) (before : List X) (x : X) (after : List X) → count_by p before ≡ 0 → p x ≡ true → look_up p (before ++ x ∷ after) ≡ found before x
unfolding look_up
found_at p [] x after e pass = ap (λ (b : Bool). cond b (found [] x) (behind x (look_up p after))) pass
found_at p (y ∷ ys) x after e pass =
    ap (λ (b : Bool). cond b (found [] y) (behind y (look_up p (ys ++ x ∷ after)))) (none_first p y ys e)
    ∙ ap (behind y) (found_at p ys x after (none_rest p y ys e) pass)

-- one element at most passes: it is found
pub found_split : {X : Type 0} (p : X → Bool) (xs before : List X) (x : X) (after : List X) → xs ≡ before ++ x ∷ after → p x ≡ true → count_by p xs ≤ 1 → look_up p xs ≡ found before x
found_split p xs before x after e pass one =
    ap (look_up p) e ∙ found_at p before x after (omega (arith, count-split p xs before x after e pass)) pass

-- the cells that drive a net
abbrev pub is_net : ℕ → ℕ × ℕ → Bool
is_net net p = p.0 == net

abbrev pub drives_net : List PlainCell → ℕ → PlainCell → Bool
drives_net cells net cell = list_any (is_net net) (drives cells cell)

-- the word that a cell gives a net, where the other nets have these words
abbrev pub cell_word : Setting → Kept → List PlainCell → ℕ → (ℕ → ℕ) → PlainCell → ℕ
cell_word g kept before net w (in_cell name n ty) = slice_index g.args (count_by is_in before)
cell_word g kept before net w (out_cell name n ty) = 0
cell_word g kept before net w (done_cell n) = 0
cell_word g kept before net w (const_cell n width word) = word
cell_word g kept before net w (op_cell n ty op a b) = op_word op ty (w a) (w b)
cell_word g kept before net w (not_cell n ty a) = word_not ty (w a)
cell_word g kept before net w (shift_cell n ty side a places) = shift_word side ty (w a) places
cell_word g kept before net w (cast_cell n from to a) = word_cast from to (w a)
cell_word g kept before net w (mux_cell n width choice a b) = if w choice == 1 then w a else w b
cell_word g kept before net w (reg_cell n width first next enable) = kept.net net
cell_word g kept before net w (bank_cell bank width len) = 0
cell_word g kept before net w (read_tap n bank enable addr) = kept.net net
cell_word g kept before net w (write_tap bank enable addr word) = 0
cell_word g kept before net w (dram_cell dram name ty dims) = 0
cell_word g kept before net w (load_unit channel dram ready n request last addr) = if ready == net then ready_word (kept.phase channel) else kept.net net
cell_word g kept before net w (store_unit channel dram ready request last addr word) = ready_word (kept.phase channel)

abbrev pub found_word : Setting → Kept → ℕ → (ℕ → ℕ) → Found PlainCell → ℕ
found_word g kept net w nothing = 0
found_word g kept net w (found before cell) = cell_word g kept before net w cell

-- the words of the nets, for nets of a rank below the first number
unfoldable pub settle : Setting → Kept → ℕ → ℕ → ℕ
settle g kept zero net = 0
settle g kept (suc n) net = found_word g kept net (settle g kept n) (look_up (drives_net g.cells net) g.cells)

-- the first word of a kept net, and its next one
abbrev pub first_word : Found PlainCell → ℕ
first_word (found before (reg_cell n width first next enable)) = first
first_word other = 0

abbrev pub next_word : Kept → ℕ → (ℕ → ℕ) → Found PlainCell → ℕ
next_word kept net w (found before (reg_cell n width first next enable)) = if w enable == 1 then w next else w net
next_word kept net w (found before (read_tap n bank enable addr)) = if w enable == 1 then kept.bank bank (w addr) else w net
next_word kept net w (found before (load_unit channel dram ready n request last addr)) = if w ready == 1 then kept.dram dram (w addr) else w net
next_word kept net w other = 0

abbrev pub next_bank : List PlainCell → (ℕ → ℕ) → ℕ → ℕ → ℕ → Found PlainCell → ℕ
next_bank cells w bank addr old (found before (bank_cell n width len)) = if nat_lt addr len then bank_after cells w bank addr old else 0
next_bank cells w bank addr old other = 0

abbrev pub next_dram : List PlainCell → (ℕ → ℕ) → ℕ → ℕ → ℕ → Found PlainCell → ℕ
next_dram cells w dram addr old (found before (dram_cell n name ty dims)) = if nat_lt addr (word_count dims) then dram_after cells w dram addr old else 0
next_dram cells w dram addr old other = 0

-- one cycle as signals
abbrev pub at_once : Kept → (ℕ → ℕ) → Signals
at_once kept w = record { net = λ t. w; bank = λ t. kept.bank; dram = λ t. kept.dram; phase = λ t. kept.phase; asked = λ t. kept.asked }

abbrev pub phase_after : Setting → Kept → (ℕ → ℕ) → ℕ → Found PlainCell → Phase
phase_after g kept w channel (found before (load_unit c dram ready n request last addr)) = next_phase (kept.phase channel) (w request) (w last) (delay_of g (at_once kept w) 0 before)
phase_after g kept w channel (found before (store_unit c dram ready request last addr word)) = next_phase (kept.phase channel) (w request) (w last) (delay_of g (at_once kept w) 0 before)
phase_after g kept w channel other = idle

abbrev pub first_kept : Setting → Kept
first_kept g = record {
  net = λ net. first_word (look_up (drives_net g.cells net) g.cells);
  bank = λ bank addr. 0;
  dram = λ dram addr. slice_index (given_words g dram) addr;
  phase = λ channel. idle;
  asked = 0;
}

abbrev pub next_kept : Setting → Kept → (ℕ → ℕ) → Kept
next_kept g kept w = record {
  net = λ net. next_word kept net w (look_up (drives_net g.cells net) g.cells);
  bank = λ bank addr. next_bank g.cells w bank addr (kept.bank bank addr) (look_up (stands_for_bank bank) g.cells);
  dram = λ dram addr. next_dram g.cells w dram addr (kept.dram dram addr) (look_up (stands_for_dram dram) g.cells);
  phase = λ channel. phase_after g kept w channel (look_up (stands_for_channel channel) g.cells);
  asked = kept.asked + count_by (cell_asks (at_once kept w) 0) g.cells;
}

abbrev pub words_of : Setting → (ℕ → ℕ) → Kept → ℕ → ℕ
words_of g rank kept net = settle g kept (suc (rank net)) net

unfoldable pub kept_at : Setting → (ℕ → ℕ) → ℕ → Kept
kept_at g rank zero = first_kept g
kept_at g rank (suc t) = next_kept g (kept_at g rank t) (words_of g rank (kept_at g rank t))

abbrev pub machine : Setting → (ℕ → ℕ) → Signals
machine g rank = record {
  net = λ t. words_of g rank (kept_at g rank t);
  bank = λ t. (kept_at g rank t).bank;
  dram = λ t. (kept_at g rank t).dram;
  phase = λ t. (kept_at g rank t).phase;
  asked = λ t. (kept_at g rank t).asked;
}
