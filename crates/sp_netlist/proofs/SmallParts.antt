-- What the two small circuits do, by the laws of parts.
use Rattle.std.proofs.Common.{◌≡◌, ℕ, zero, suc, ◌+◌, ◌<◌, ◌≤◌, List, ◌++◌, Bool, true, false, cond, ◌||◌, ◌==◌, ◌&&◌, nat_lt, if◌then◌else◌, refl, sym, ap, ◌∙◌, get_or, length, count_by, subst, arith, ⊎_elim, eq-eqb, ne_eqb, eqb-true, lt-ltb}
use Rattle.std.proofs.lemmas.Bool.{false≢true, or_cases, cond-true}
use Rattle.std.proofs.lemmas.List.Elements.{Contains-get_or}
use Rattle.sp_words.specs.declared.types.Ty.TheVariants.{Bit}
use Rattle.sp_words.specs.Words.{word_add, word_and, word_eq, word_not, wrap, value_of, has_sign}
use Rattle.sp_words.specs.WholeNumbers.{modulo}
use Rattle.sp_netlist.specs.declared.cell.Port.{Port}
use Rattle.sp_netlist.specs.declared.cell.Port.TheVariants.{Read, Write}
use Rattle.sp_netlist.specs.Cells.{PlainCell, done_cell}
use Rattle.sp_netlist.specs.Signals.{Setting, Signals, Obeys, IsRun}
use Rattle.sp_netlist.specs.Cycle.{is_enabled_tap}
use Rattle.sp_netlist.specs.Parts.{names_bank, stands_for_bank, SomeCell, NoCell, RunsPart}
use Rattle.sp_netlist.specs.Examples.{int}
use Rattle.sp_netlist.specs.PartExamples.{Counter, counter_cells, Counts, Memory, memory_cells, IsMemory, PartExamples}
use Rattle.sp_netlist.proofs.PartLaws.{locality}

-- four cycles from the next one on, and three from the one after it
first_four : (P : ℕ → ℕ → Type 0) (t : ℕ) → P (suc t) 0 → P (suc (suc t)) 1 → P (suc (suc (suc t))) 2 → P (suc (suc (suc (suc t)))) 3 → (j : ℕ) → j < 4 → P (t + 1 + j) j
first_four P t a b c d zero l = subst (λ x. P x 0) (omega arith) a
first_four P t a b c d (suc zero) l = subst (λ x. P x 1) (omega arith) b
first_four P t a b c d (suc (suc zero)) l = subst (λ x. P x 2) (omega arith) c
first_four P t a b c d (suc (suc (suc zero))) l = subst (λ x. P x 3) (omega arith) d
first_four P t a b c d (suc (suc (suc (suc j)))) l = absurd (omega arith)

first_three : (P : ℕ → Type 0) (t : ℕ) → P (suc (suc t)) → P (suc (suc (suc t))) → P (suc (suc (suc (suc t)))) → (j : ℕ) → j < 3 → P (suc (suc (t + j)))
first_three P t a b c zero l = subst (λ x. P (suc (suc x))) (omega arith) a
first_three P t a b c (suc zero) l = subst (λ x. P (suc (suc x))) (omega arith) b
first_three P t a b c (suc (suc zero)) l = subst (λ x. P (suc (suc x))) (omega arith) c
first_three P t a b c (suc (suc (suc j))) l = absurd (omega arith)

module _ (c : Counter) (g : Setting) (s : Signals) (front rest : List PlainCell) (r : IsRun g s) (e : g.cells ≡ front ++ counter_cells c ++ rest) where
  counter_part : RunsPart g s front (counter_cells c)
  counter_part = locality.view g s front (counter_cells c) rest r (record {
    stands = e;
    banks = λ bank k. absurd (false≢true k);
    drams = λ dram k. absurd (false≢true k);
  })

  -- the cell at a place
  obeyed : (k : ℕ) → k < length (counter_cells c) → (before : List PlainCell) × Obeys (record { cells = counter_cells c; args = g.args; drams = g.drams; delays = g.delays }) s before (get_or (counter_cells c) k (done_cell 0))
  obeyed k l = locality.cell g s front (counter_cells c) counter_part (get_or (counter_cells c) k (done_cell 0)) (Contains-get_or (counter_cells c) k (done_cell 0) l)

  -- a register with the constant 1 as its enable
  always : (x own next first : ℕ) → (s.net 0 own ≡ first) × ((t : ℕ) → s.net (suc t) own ≡ (if s.net t c.one == 1 then s.net t next else s.net t own)) → s.net (suc x) own ≡ s.net x next
  always x own next first o = o.1 x ∙ cond-true (s.net x c.one == 1) (s.net x next) (s.net x own) (eq-eqb (s.net x c.one) 1 ((obeyed 0 (omega arith)).1 x))

  running_next : (x : ℕ) → s.net (suc x) c.running ≡ s.net x c.next_running
  running_next x = always x c.running c.next_running 0 (obeyed 4 (omega arith)).1

  count_next : (x : ℕ) → s.net (suc x) c.count ≡ s.net x c.next_count
  count_next x = always x c.count c.next_count 0 (obeyed 5 (omega arith)).1

  done_next : (x : ℕ) → s.net (suc x) c.done ≡ s.net x c.ends
  done_next x = always x c.done c.ends 0 (obeyed 13 (omega arith)).1

  -- the cycle after it was started
  started : (x : ℕ) → s.net x c.start ≡ 1 → (s.net (suc x) c.running ≡ 1) × (s.net (suc x) c.count ≡ 0)
  started x k =
      let one = (obeyed 0 (omega arith)).1 x in
      let none = (obeyed 1 (omega arith)).1 x in
      let m1 = (obeyed 10 (omega arith)).1 x in
      let m2 = (obeyed 12 (omega arith)).1 x in
      let e1 = running_next x in
      let e2 = count_next x in
      (cc, cc)

  -- a step at count n
  stepped : (x n : ℕ) → s.net x c.start ≡ 0 → s.net x c.running ≡ 1 → s.net x c.count ≡ n
      → (s.net (suc x) c.running ≡ word_and Bit 1 (word_not Bit (word_and Bit 1 (if word_eq int n 3 then 1 else 0)))) × (s.net (suc x) c.count ≡ word_add int n 1)
      × (s.net (suc x) c.done ≡ word_and Bit 1 (if word_eq int n 3 then 1 else 0))
  stepped x n k run at =
      let step = (obeyed 2 (omega arith)).1 x in
      let top = (obeyed 3 (omega arith)).1 x in
      let at_top = (obeyed 6 (omega arith)).1 x in
      let ends = (obeyed 7 (omega arith)).1 x in
      let stays = (obeyed 8 (omega arith)).1 x in
      let goes = (obeyed 9 (omega arith)).1 x in
      let m1 = (obeyed 10 (omega arith)).1 x in
      let more = (obeyed 11 (omega arith)).1 x in
      let m2 = (obeyed 12 (omega arith)).1 x in
      let e1 = running_next x in
      let e2 = count_next x in
      let e3 = done_next x in
      (cc, cc, cc)

  counter_counts : (t : ℕ) → s.net t c.start ≡ 1 → ((j : ℕ) → j < 4 → s.net (t + 1 + j) c.start ≡ 0) → Counts c s t
  unfolding word_and word_not word_eq word_add wrap value_of has_sign modulo
  counter_counts t k idle =
      let one = started t k in
      let two = stepped (suc t) 0 (subst (λ x. s.net x c.start ≡ 0) (omega arith) (idle 0 (omega arith))) one.0 one.1 in
      let three = stepped (suc (suc t)) 1 (subst (λ x. s.net x c.start ≡ 0) (omega arith) (idle 1 (omega arith))) two.0 two.1 in
      let four = stepped (suc (suc (suc t))) 2 (subst (λ x. s.net x c.start ≡ 0) (omega arith) (idle 2 (omega arith))) three.0 three.1 in
      let five = stepped (suc (suc (suc (suc t)))) 3 (subst (λ x. s.net x c.start ≡ 0) (omega arith) (idle 3 (omega arith))) four.0 four.1 in
      record {
        counts = first_four (λ x j. s.net x c.count ≡ j) t one.1 two.1 three.1 four.1;
        runs = first_four (λ x j. s.net x c.running ≡ 1) t one.0 two.0 three.0 four.0;
        stops = subst (λ x. s.net x c.running ≡ 0) (omega arith) five.0;
        early = λ j l. subst (λ x. s.net x c.done ≡ 0) (omega arith) (first_three (λ x. s.net x c.done ≡ 0) t two.2 three.2 four.2 j l);
        done = subst (λ x. s.net x c.done ≡ 1) (omega arith) five.2;
      }

small : (b : Bool) → cond b 1 0 ≤ 1
small true = omega arith
small false = omega arith

module _ (m : Memory) (bank : ℕ) (g : Setting) (s : Signals) (front rest : List PlainCell) (r : IsRun g s) (e : g.cells ≡ front ++ memory_cells m bank ++ rest)
    (f1 : NoCell (names_bank bank) front) (r1 : NoCell (names_bank bank) rest) (f2 : NoCell (names_bank (suc bank)) front) (r2 : NoCell (names_bank (suc bank)) rest) where
  -- no bank of the memory is named outside
  own : (n : ℕ) → SomeCell (stands_for_bank n) (memory_cells m bank) → NoCell (names_bank n) front × NoCell (names_bank n) rest
  own n k = ⊎_elim (λ a. subst (λ b. NoCell (names_bank b) front × NoCell (names_bank b) rest) (eqb-true bank n a) (f1, r1))
      (λ a. ⊎_elim (λ b. subst (λ b. NoCell (names_bank b) front × NoCell (names_bank b) rest) (eqb-true (suc bank) n b) (f2, r2)) (λ b. absurd (false≢true b)) (or_cases (suc bank == n) false a))
      (or_cases (bank == n) ((suc bank == n) || false) k)

  memory_part : RunsPart g s front (memory_cells m bank)
  memory_part = locality.view g s front (memory_cells m bank) rest r (record { stands = e; banks = own; drams = λ dram k. absurd (false≢true k) })

  has_cell : (k : ℕ) → k < length (memory_cells m bank) → (before : List PlainCell) × Obeys (record { cells = memory_cells m bank; args = g.args; drams = g.drams; delays = g.delays }) s before (get_or (memory_cells m bank) k (done_cell 0))
  has_cell k l = locality.cell g s front (memory_cells m bank) memory_part (get_or (memory_cells m bank) k (done_cell 0)) (Contains-get_or (memory_cells m bank) k (done_cell 0) l)

  same_bank : (bank == bank) ≡ true
  same_bank = eq-eqb bank bank refl

  same_other : (suc bank == suc bank) ≡ true
  same_other = eq-eqb (suc bank) (suc bank) refl

  two_banks : (suc bank == bank) ≡ false
  two_banks = ne_eqb (suc bank) bank (λ k. absurd (omega arith))

  two_banks_back : (bank == suc bank) ≡ false
  two_banks_back = ne_eqb bank (suc bank) (λ k. absurd (omega arith))

  -- a word of the memory after a cycle
  written : ℕ → ℕ → ℕ → ℕ
  written t addr old = if nat_lt addr 4 then (if (s.net t m.write == 1) && (s.net t m.write_at == addr) then s.net t m.word else old) else 0

  bank_next : (t addr : ℕ) → s.bank (suc t) bank addr ≡ written t addr (s.bank t bank addr)
  unfolding written
  bank_next t addr =
      let a = same_bank in
      let b = two_banks in
      let step = (has_cell 0 (omega arith)).1.1 t addr in
      cc

  other_next : (t addr : ℕ) → s.bank (suc t) (suc bank) addr ≡ written t addr (s.bank t (suc bank) addr)
  unfolding written
  other_next t addr =
      let a = same_other in
      let b = two_banks_back in
      let step = (has_cell 1 (omega arith)).1.1 t addr in
      cc

  copies : (t addr : ℕ) → s.bank t (suc bank) addr ≡ s.bank t bank addr
  copies zero addr = (has_cell 1 (omega arith)).1.0 addr ∙ sym ((has_cell 0 (omega arith)).1.0 addr)
  copies (suc t) addr = other_next t addr ∙ ap (written t addr) (copies t addr) ∙ sym (bank_next t addr)

  ports : (w : ℕ → ℕ) (port : Port) → count_by (is_enabled_tap w port bank) (memory_cells m bank) ≤ 1
  ports w Read = rw (same_bank, two_banks) (omega (arith, small (w m.first_read == 1)))
  ports w Write = rw (same_bank, two_banks) (omega (arith, small (w m.write == 1)))

  other_ports : (w : ℕ → ℕ) (port : Port) → count_by (is_enabled_tap w port (suc bank)) (memory_cells m bank) ≤ 1
  other_ports w Read = rw (same_other, two_banks_back) (omega (arith, small (w m.second_read == 1)))
  other_ports w Write = rw (same_other, two_banks_back) (omega (arith, small (w m.write == 1)))

  memory_is_one : IsMemory m bank g s
  unfolding written
  memory_is_one = record {
    copies = copies;
    writes = λ t addr l. bank_next t addr ∙ cond-true (nat_lt addr 4) (if (s.net t m.write == 1) && (s.net t m.write_at == addr) then s.net t m.word else s.bank t bank addr) 0 (lt-ltb addr 4 l);
    first = λ t. (has_cell 4 (omega arith)).1.1 t;
    second = λ t. (has_cell 5 (omega arith)).1.1 t ∙ ap (λ x. if s.net t m.second_read == 1 then x else s.net t m.second) (copies t (s.net t m.second_at));
    ports = λ t port. subst (λ zs. count_by (is_enabled_tap (s.net t) port bank) zs ≤ 1) (sym e)
        (subst (λ n. n ≤ 1) (sym (locality.taps front (memory_cells m bank) rest (s.net t) port bank f1 r1)) (ports (s.net t) port));
    other_ports = λ t port. subst (λ zs. count_by (is_enabled_tap (s.net t) port (suc bank)) zs ≤ 1) (sym e)
        (subst (λ n. n ≤ 1) (sym (locality.taps front (memory_cells m bank) rest (s.net t) port (suc bank) f2 r2)) (other_ports (s.net t) port));
  }

pub part_examples : PartExamples
part_examples = record {
  counter = λ c g s front rest r e t. counter_counts c g s front rest r e t;
  memory = λ m bank g s front rest r e f1 r1 f2 r2. memory_is_one m bank g s front rest r e f1 r1 f2 r2;
}
