-- Banks and DRAMs after a cycle's writes are those of the run's next cycle.
use Rattle.std.proofs.Common.{◌≡◌, ℕ, suc, ◌<◌, ◌≤◌, ◌^◌, List, [], ◌∷◌, Bool, true, false, ◌&&◌, ◌==◌, nat_lt, if◌then◌else◌, length, take, count_by, Contains, refl, sym, ap, ◌∙◌, subst, arith, ⊎_elim, lt-ltb, le-ltb, eq-eqb, ne_eqb}
use Rattle.std.specs.List.{fold}
use mathlib.Core.Path.{fun_ext}
use Rattle.std.proofs.lemmas.Bool.{cases_eq, cases_lt, cases_Bool, cond_both, cond-true, cond-false, false≢true, eqb-true}
use Rattle.std.proofs.lemmas.List.{get_or_past}
use Rattle.std.proofs.lemmas.Nat.{pow_pos}
use Rattle.sp_netlist.specs.Cells.{PlainCell, done_cell, bank_cell, write_tap, dram_cell, store_unit}
use Rattle.sp_words.specs.Interface.{word_count}
use Rattle.sp_netlist.specs.Rules.{is_bank, is_dram, bank_width, dram_width, reads, driven_nets, IsNetlist, IsRight}
use Rattle.sp_netlist.specs.Signals.{Setting, Signals, Obeys, bank_after, dram_after}
use Rattle.sp_netlist.specs.Quiet.{IsQuiet}
use Rattle.sp_sim.specs.Memories.{Words, no_words, word_at, width_at, written}
use Rattle.sp_sim.specs.Settling.{cell_at}
use Rattle.sp_sim.specs.Standing.{HasBankLen, HasDramLen, AreBanks, AreDrams}
use Rattle.sp_sim.specs.Writing.{bank_write, dram_write, BankWordFits, DramWordFits}
use Rattle.sp_sim.proofs.CellLemmas.{right_at, reads_driven, nth_place}
use Rattle.sp_sim.proofs.MemoryLemmas.{len_at, len_at-written, width_at-written, length-written, word_at-written, word_at-other_memory, word_at-other_place, word_at-past, width_at-bank_write, width_at-dram_write, len_at-bank_write, len_at-dram_write, bank_word_fits, dram_word_fits}
use Rattle.sp_sim.proofs.Settled.{obeyed}
use Rattle.sp_sim.proofs.Held.{place_of_cell}

none_past : (ms : List Words) (n : ℕ) → length ms ≤ n → len_at ms n ≡ 0
none_past ms n l = ap (λ m. length m.words) (get_or_past ms n no_words l)

-- a word after one write that may be done
one_write : (ms : List Words) (gate : Bool) (into addr v n a : ℕ) → a < len_at ms n
    → word_at (if gate then written ms into addr v else ms) n a ≡ (if (into == n) && (gate && (addr == a)) then v else word_at ms n a)
one_write ms false into addr v n a l = sym (cond-false ((into == n) && (false && (addr == a))) v (word_at ms n a) (no_gate (into == n)))
  where
    no_gate : (b : Bool) → (b && false) ≡ false
    no_gate true = refl
    no_gate false = refl
one_write ms true into addr v n a l = ⊎_elim
    (λ e. ⊎_elim
    (λ f. subst (λ m. word_at (written ms m addr v) n a ≡ (if (into == n) && (addr == a) then v else word_at ms n a)) (sym e)
    (subst (λ b. word_at (written ms n b v) n a ≡ (if (into == n) && (addr == a) then v else word_at ms n a)) (sym f)
    (word_at-written ms n a v l ∙ sym (cond-true ((into == n) && (addr == a)) v (word_at ms n a) (both (into == n) (addr == a) (eq-eqb into n e) (eq-eqb addr a f))))))
    (λ d. subst (λ m. word_at (written ms m addr v) n a ≡ (if (into == n) && (addr == a) then v else word_at ms n a)) (sym e)
    (word_at-other_place ms n addr v a (λ k. d (sym k)) ∙ sym (cond-false ((into == n) && (addr == a)) v (word_at ms n a) (right_no (into == n) (addr == a) (ne_eqb addr a d)))))
    (cases_eq addr a))
    (λ d. word_at-other_memory ms into addr v n a (λ k. d (sym k)) ∙ sym (cond-false ((into == n) && (addr == a)) v (word_at ms n a) (left_no (into == n) (addr == a) (ne_eqb into n d))))
    (cases_eq into n)
  where
    both : (x y : Bool) → x ≡ true → y ≡ true → (x && y) ≡ true
    both x y e f = rw (e, f)

    left_no : (x y : Bool) → x ≡ false → (x && y) ≡ false
    left_no x y e = rw e

    right_no : (x y : Bool) → y ≡ false → (x && y) ≡ false
    right_no true y e = e
    right_no false y e = refl

-- words keep their widths where a word of that width is written
written_fits : (ms : List Words) (into addr v : ℕ) → ((n a : ℕ) → word_at ms n a < 2 ^ width_at ms n) → v < 2 ^ width_at ms into
    → (n a : ℕ) → word_at (written ms into addr v) n a < 2 ^ width_at (written ms into addr v) n
written_fits ms into addr v f fits n a = subst (λ w. word_at (written ms into addr v) n a < 2 ^ w) (sym (width_at-written ms into addr v n)) (⊎_elim
    (λ l. subst (λ w. w < 2 ^ width_at ms n) (sym (one_write ms true into addr v n a l))
    (⊎_elim
    (λ e. subst (λ w. w < 2 ^ width_at ms n) (sym (cond-true ((into == n) && (addr == a)) v (word_at ms n a) e)) (subst (λ m. v < 2 ^ width_at ms m) (eqb-true into n (first (into == n) (addr == a) e)) fits))
    (λ e. subst (λ w. w < 2 ^ width_at ms n) (sym (cond-false ((into == n) && (addr == a)) v (word_at ms n a) e)) (f n a))
    (cases_Bool ((into == n) && (addr == a)))))
    (λ l. subst (λ w. w < 2 ^ width_at ms n) (sym (word_at-past (written ms into addr v) n a (omega (arith, len_at-written ms into addr v n)))) (pow_pos (width_at ms n)))
    (cases_lt a (len_at ms n)))
  where
    first : (x y : Bool) → (x && y) ≡ true → x ≡ true
    first true y e = refl
    first false y e = absurd (false≢true e)

-- ---- banks
length-bank_fold : (w : ℕ → ℕ) (xs : List PlainCell) (ms : List Words) → length (fold (bank_write w) ms xs) ≡ length ms
length-bank_fold w [] ms = refl
length-bank_fold w (x ∷ xs) ms = length-bank_fold w xs (bank_write w ms x) ∙ one ms x
  where
    one : (ns : List Words) (y : PlainCell) → length (bank_write w ns y) ≡ length ns
    one ns (write_tap into enable addr word) = cond_both (w enable == 1) (written ns into (w addr) (w word)) ns (λ ps. length ps ≡ length ns) (λ e. length-written ns into (w addr) (w word)) (λ e. refl)
    one ns _ = refl

len_at-bank_fold : (w : ℕ → ℕ) (xs : List PlainCell) (ms : List Words) (n : ℕ) → len_at (fold (bank_write w) ms xs) n ≡ len_at ms n
len_at-bank_fold w [] ms n = refl
len_at-bank_fold w (x ∷ xs) ms n = len_at-bank_fold w xs (bank_write w ms x) n ∙ len_at-bank_write w ms x n

width_at-bank_fold : (w : ℕ → ℕ) (xs : List PlainCell) (ms : List Words) (n : ℕ) → width_at (fold (bank_write w) ms xs) n ≡ width_at ms n
width_at-bank_fold w [] ms n = refl
width_at-bank_fold w (x ∷ xs) ms n = width_at-bank_fold w xs (bank_write w ms x) n ∙ width_at-bank_write w ms x n

-- the words after the cells' writes
bank_fold_word : (w : ℕ → ℕ) (xs : List PlainCell) (ms : List Words) (n a : ℕ) → a < len_at ms n → word_at (fold (bank_write w) ms xs) n a ≡ bank_after xs w n a (word_at ms n a)
bank_fold_word w [] ms n a l = refl
bank_fold_word w (write_tap into enable addr word ∷ xs) ms n a l =
    bank_fold_word w xs (bank_write w ms (write_tap into enable addr word)) n a (subst (λ k. a < k) (sym (len_at-bank_write w ms (write_tap into enable addr word) n)) l)
    ∙ ap (bank_after xs w n a) (one_write ms (w enable == 1) into (w addr) (w word) n a l)
bank_fold_word w (_ ∷ xs) ms n a l = bank_fold_word w xs ms n a l

-- and they keep their widths
bank_fold_fits : (w : ℕ → ℕ) (xs : List PlainCell) (ms : List Words) → ((n a : ℕ) → word_at ms n a < 2 ^ width_at ms n) → ((x : PlainCell) → Contains xs x → BankWordFits w ms x)
    → (n a : ℕ) → word_at (fold (bank_write w) ms xs) n a < 2 ^ width_at (fold (bank_write w) ms xs) n
bank_fold_fits w [] ms f all n a = f n a
bank_fold_fits w (x ∷ xs) ms f all n a =
    bank_fold_fits w xs (bank_write w ms x) (one ms x f (all x (0, omega arith, refl)))
    (λ y c. bank_word_fits w (bank_write w ms x) ms (λ k. width_at-bank_write w ms x k) y (all y (suc c.0, let l = c.1 in omega arith, c.2))) n a
  where
    one : (ns : List Words) (y : PlainCell) → ((m b : ℕ) → word_at ns m b < 2 ^ width_at ns m) → BankWordFits w ns y → (m b : ℕ) → word_at (bank_write w ns y) m b < 2 ^ width_at (bank_write w ns y) m
    one ns (write_tap into enable addr word) g h m b = cond_both (w enable == 1) (written ns into (w addr) (w word)) ns (λ ps. word_at ps m b < 2 ^ width_at ps m) (λ e. written_fits ns into (w addr) (w word) g h m b) (λ e. g m b)
    one ns _ g h m b = g m b

bank_lens_kept : (w : ℕ → ℕ) (xs : List PlainCell) (ms : List Words) (x : PlainCell) → HasBankLen ms x → HasBankLen (fold (bank_write w) ms xs) x
bank_lens_kept w xs ms (bank_cell bank width len) h = len_at-bank_fold w xs ms bank ∙ h
bank_lens_kept w xs ms _ h = tt

-- the words that cells write fit
one_bank_word : (cells before : List PlainCell) (w : ℕ → ℕ) (ms : List Words) → AreBanks cells ms → (x : PlainCell) → IsRight cells before x
    → ((net width : ℕ) → Contains (reads cells x) (net, width) → w net < 2 ^ width) → BankWordFits w ms x
one_bank_word cells before w ms r (write_tap into enable addr word) right k = subst (λ v. w word < 2 ^ v) (sym (r.widths into right)) (k word (bank_width cells into) (2, omega arith, refl))
one_bank_word cells before w ms r _ right k = tt

pub bank_word : (cells : List PlainCell) (h : IsNetlist cells) (w : ℕ → ℕ) → ((net width : ℕ) → Contains (driven_nets cells) (net, width) → w net < 2 ^ width)
    → (ms : List Words) → AreBanks cells ms → (x : PlainCell) → Contains cells x → BankWordFits w ms x
bank_word cells h w fits ms r x c =
    let p = place_of_cell cells x c in
    subst (BankWordFits w ms) p.2 (one_bank_word cells (take p.0 cells) w ms r (cell_at cells p.0) (right_at cells h p.0 p.1) (λ n v d. fits n v (reads_driven cells h p.0 n v p.1 d)))

-- after a cycle they are the netlist's still
pub are_banks_next : (cells : List PlainCell) (h : IsNetlist cells) (w : ℕ → ℕ) → ((net width : ℕ) → Contains (driven_nets cells) (net, width) → w net < 2 ^ width)
    → (ms : List Words) → AreBanks cells ms → AreBanks cells (fold (bank_write w) ms cells)
are_banks_next cells h w fits ms r = record {
  number = length-bank_fold w cells ms ∙ r.number;
  lens = λ at l. bank_lens_kept w cells ms _ (r.lens at l);
  widths = λ n l. width_at-bank_fold w cells ms n ∙ r.widths n l;
  fit = bank_fold_fits w cells ms r.fit (λ x c. bank_word cells h w fits ms r x c);
}

-- the words are those of the run's next cycle
bank_next_at : (g : Setting) (s : Signals) (t : ℕ) (before : List PlainCell) (x : PlainCell) → IsRight g.cells before x → Obeys g s before x → is_bank x ≡ true
    → (ms : List Words) → HasBankLen ms x → word_at ms ≡ s.bank t → (n : ℕ) → count_by is_bank before ≡ n → (a : ℕ) → word_at (fold (bank_write (s.net t)) ms g.cells) n a ≡ s.bank (suc t) n a
bank_next_at g s t before (bank_cell bank width len) r o is ms long same n place a =
    subst (λ m. word_at (fold (bank_write (s.net t)) ms g.cells) m a ≡ s.bank (suc t) m a) (r.0 ∙ place) (⊎_elim
    (λ l. bank_fold_word (s.net t) g.cells ms bank a (subst (λ k. a < k) (sym long) l) ∙ ap (λ (f : ℕ → ℕ → ℕ). bank_after g.cells (s.net t) bank a (f bank a)) same
    ∙ sym (o.1 t a ∙ cond-true (nat_lt a len) (bank_after g.cells (s.net t) bank a (s.bank t bank a)) 0 (lt-ltb a len l)))
    (λ l. word_at-past (fold (bank_write (s.net t)) ms g.cells) bank a (omega (arith, len_at-bank_fold (s.net t) g.cells ms bank, long))
    ∙ sym (o.1 t a ∙ cond-false (nat_lt a len) (bank_after g.cells (s.net t) bank a (s.bank t bank a)) 0 (le-ltb a len l)))
    (cases_lt a len))
bank_next_at g s t before _ r o is ms long same n place a = absurd (false≢true is)

pub banks_next : (g : Setting) (h : IsNetlist g.cells) (s : Signals) (q : IsQuiet g s) (t : ℕ) (ms : List Words) → AreBanks g.cells ms → word_at ms ≡ s.bank t → word_at (fold (bank_write (s.net t)) ms g.cells) ≡ s.bank (suc t)
unfolding cell_at
banks_next g h s q t ms r same = fun_ext (λ n. fun_ext (λ a. ⊎_elim
    (λ l. let p = nth_place is_bank g.cells (done_cell 0) n l in
    bank_next_at g s t (take p.0 g.cells) (cell_at g.cells p.0) (right_at g.cells h p.0 p.1) (obeyed g h s q p.0 p.1) p.2 ms (r.lens p.0 p.1) same n p.3 a)
    (λ l. word_at-past (fold (bank_write (s.net t)) ms g.cells) n a (omega (arith, len_at-bank_fold (s.net t) g.cells ms n, none_past ms n (omega (arith, r.number))))
    ∙ sym (q.banks (suc t) n a l))
    (cases_lt n (count_by is_bank g.cells))))

-- ---- drams
length-dram_fold : (w : ℕ → ℕ) (xs : List PlainCell) (ms : List Words) → length (fold (dram_write w) ms xs) ≡ length ms
length-dram_fold w [] ms = refl
length-dram_fold w (x ∷ xs) ms = length-dram_fold w xs (dram_write w ms x) ∙ one ms x
  where
    one : (ns : List Words) (y : PlainCell) → length (dram_write w ns y) ≡ length ns
    one ns (store_unit channel into ready request last addr word) = cond_both (w ready == 1) (written ns into (w addr) (w word)) ns (λ ps. length ps ≡ length ns) (λ e. length-written ns into (w addr) (w word)) (λ e. refl)
    one ns _ = refl

len_at-dram_fold : (w : ℕ → ℕ) (xs : List PlainCell) (ms : List Words) (n : ℕ) → len_at (fold (dram_write w) ms xs) n ≡ len_at ms n
len_at-dram_fold w [] ms n = refl
len_at-dram_fold w (x ∷ xs) ms n = len_at-dram_fold w xs (dram_write w ms x) n ∙ len_at-dram_write w ms x n

width_at-dram_fold : (w : ℕ → ℕ) (xs : List PlainCell) (ms : List Words) (n : ℕ) → width_at (fold (dram_write w) ms xs) n ≡ width_at ms n
width_at-dram_fold w [] ms n = refl
width_at-dram_fold w (x ∷ xs) ms n = width_at-dram_fold w xs (dram_write w ms x) n ∙ width_at-dram_write w ms x n

-- the words after the cells' writes
dram_fold_word : (w : ℕ → ℕ) (xs : List PlainCell) (ms : List Words) (n a : ℕ) → a < len_at ms n → word_at (fold (dram_write w) ms xs) n a ≡ dram_after xs w n a (word_at ms n a)
dram_fold_word w [] ms n a l = refl
dram_fold_word w (store_unit channel into ready request last addr word ∷ xs) ms n a l =
    dram_fold_word w xs (dram_write w ms (store_unit channel into ready request last addr word)) n a (subst (λ k. a < k) (sym (len_at-dram_write w ms (store_unit channel into ready request last addr word) n)) l)
    ∙ ap (dram_after xs w n a) (one_write ms (w ready == 1) into (w addr) (w word) n a l)
dram_fold_word w (_ ∷ xs) ms n a l = dram_fold_word w xs ms n a l

-- and they keep their widths
dram_fold_fits : (w : ℕ → ℕ) (xs : List PlainCell) (ms : List Words) → ((n a : ℕ) → word_at ms n a < 2 ^ width_at ms n) → ((x : PlainCell) → Contains xs x → DramWordFits w ms x)
    → (n a : ℕ) → word_at (fold (dram_write w) ms xs) n a < 2 ^ width_at (fold (dram_write w) ms xs) n
dram_fold_fits w [] ms f all n a = f n a
dram_fold_fits w (x ∷ xs) ms f all n a =
    dram_fold_fits w xs (dram_write w ms x) (one ms x f (all x (0, omega arith, refl)))
    (λ y c. dram_word_fits w (dram_write w ms x) ms (λ k. width_at-dram_write w ms x k) y (all y (suc c.0, let l = c.1 in omega arith, c.2))) n a
  where
    one : (ns : List Words) (y : PlainCell) → ((m b : ℕ) → word_at ns m b < 2 ^ width_at ns m) → DramWordFits w ns y → (m b : ℕ) → word_at (dram_write w ns y) m b < 2 ^ width_at (dram_write w ns y) m
    one ns (store_unit channel into ready request last addr word) g h m b = cond_both (w ready == 1) (written ns into (w addr) (w word)) ns (λ ps. word_at ps m b < 2 ^ width_at ps m) (λ e. written_fits ns into (w addr) (w word) g h m b) (λ e. g m b)
    one ns _ g h m b = g m b

dram_lens_kept : (w : ℕ → ℕ) (xs : List PlainCell) (ms : List Words) (x : PlainCell) → HasDramLen ms x → HasDramLen (fold (dram_write w) ms xs) x
dram_lens_kept w xs ms (dram_cell dram name ty dims) h = len_at-dram_fold w xs ms dram ∙ h
dram_lens_kept w xs ms _ h = tt

-- the words that cells write fit
one_dram_word : (cells before : List PlainCell) (w : ℕ → ℕ) (ms : List Words) → AreDrams cells ms → (x : PlainCell) → IsRight cells before x
    → ((net width : ℕ) → Contains (reads cells x) (net, width) → w net < 2 ^ width) → DramWordFits w ms x
one_dram_word cells before w ms r (store_unit channel into ready request last addr word) right k = subst (λ v. w word < 2 ^ v) (sym (r.widths into right.1)) (k word (dram_width cells into) (3, omega arith, refl))
one_dram_word cells before w ms r _ right k = tt

pub dram_word : (cells : List PlainCell) (h : IsNetlist cells) (w : ℕ → ℕ) → ((net width : ℕ) → Contains (driven_nets cells) (net, width) → w net < 2 ^ width)
    → (ms : List Words) → AreDrams cells ms → (x : PlainCell) → Contains cells x → DramWordFits w ms x
dram_word cells h w fits ms r x c =
    let p = place_of_cell cells x c in
    subst (DramWordFits w ms) p.2 (one_dram_word cells (take p.0 cells) w ms r (cell_at cells p.0) (right_at cells h p.0 p.1) (λ n v d. fits n v (reads_driven cells h p.0 n v p.1 d)))

-- after a cycle they are the netlist's still
pub are_drams_next : (cells : List PlainCell) (h : IsNetlist cells) (w : ℕ → ℕ) → ((net width : ℕ) → Contains (driven_nets cells) (net, width) → w net < 2 ^ width)
    → (ms : List Words) → AreDrams cells ms → AreDrams cells (fold (dram_write w) ms cells)
are_drams_next cells h w fits ms r = record {
  number = length-dram_fold w cells ms ∙ r.number;
  lens = λ at l. dram_lens_kept w cells ms _ (r.lens at l);
  widths = λ n l. width_at-dram_fold w cells ms n ∙ r.widths n l;
  fit = dram_fold_fits w cells ms r.fit (λ x c. dram_word cells h w fits ms r x c);
}

-- the words are those of the run's next cycle
dram_next_at : (g : Setting) (s : Signals) (t : ℕ) (before : List PlainCell) (x : PlainCell) → IsRight g.cells before x → Obeys g s before x → is_dram x ≡ true
    → (ms : List Words) → HasDramLen ms x → word_at ms ≡ s.dram t → (n : ℕ) → count_by is_dram before ≡ n → (a : ℕ) → word_at (fold (dram_write (s.net t)) ms g.cells) n a ≡ s.dram (suc t) n a
dram_next_at g s t before (dram_cell dram name ty dims) r o is ms long same n place a =
    subst (λ m. word_at (fold (dram_write (s.net t)) ms g.cells) m a ≡ s.dram (suc t) m a) (r.0 ∙ place) (⊎_elim
    (λ l. dram_fold_word (s.net t) g.cells ms dram a (subst (λ k. a < k) (sym long) l) ∙ ap (λ (f : ℕ → ℕ → ℕ). dram_after g.cells (s.net t) dram a (f dram a)) same
    ∙ sym (o.1 t a ∙ cond-true (nat_lt a (word_count dims)) (dram_after g.cells (s.net t) dram a (s.dram t dram a)) 0 (lt-ltb a (word_count dims) l)))
    (λ l. word_at-past (fold (dram_write (s.net t)) ms g.cells) dram a (omega (arith, len_at-dram_fold (s.net t) g.cells ms dram, long))
    ∙ sym (o.1 t a ∙ cond-false (nat_lt a (word_count dims)) (dram_after g.cells (s.net t) dram a (s.dram t dram a)) 0 (le-ltb a (word_count dims) l)))
    (cases_lt a (word_count dims)))
dram_next_at g s t before _ r o is ms long same n place a = absurd (false≢true is)

pub drams_next : (g : Setting) (h : IsNetlist g.cells) (s : Signals) (q : IsQuiet g s) → length g.drams ≡ count_by is_dram g.cells → (t : ℕ) (ms : List Words) → AreDrams g.cells ms → word_at ms ≡ s.dram t → word_at (fold (dram_write (s.net t)) ms g.cells) ≡ s.dram (suc t)
unfolding cell_at
drams_next g h s q given t ms r same = fun_ext (λ n. fun_ext (λ a. ⊎_elim
    (λ l. let p = nth_place is_dram g.cells (done_cell 0) n l in
    dram_next_at g s t (take p.0 g.cells) (cell_at g.cells p.0) (right_at g.cells h p.0 p.1) (obeyed g h s q p.0 p.1) p.2 ms (r.lens p.0 p.1) same n p.3 a)
    (λ l. word_at-past (fold (dram_write (s.net t)) ms g.cells) n a (omega (arith, len_at-dram_fold (s.net t) g.cells ms n, none_past ms n (omega (arith, r.number))))
    ∙ sym (q.drams (suc t) n a l (omega arith)))
    (cases_lt n (count_by is_dram g.cells))))
