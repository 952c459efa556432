-- How runs end: in one way, and that way stays.
use Rattle.std.proofs.Common.{◌≡◌, ℕ, zero, suc, ◌<◌, ◌≤◌, List, [], ◌∷◌, ◌++◌, Bool, true, false, ◌||◌, ◌==◌, ◌&&◌, nat_lt, IsTrue, map, refl, sym, ap, ◌∙◌, Contains, count_by, arith, subst, ⊎_elim, inl, inr, ◌⊎◌, ne_eqb, ltb-true, ltb-false, le-ltb, lt_trans}
use Rattle.std.specs.List.{range_with_len}
use Rattle.std.proofs.lemmas.Bool.{false≢true, cases_Bool, cases_order, cases_lt, or_parts, or_cases, and_left}
use Rattle.sp_netlist.specs.declared.cell.Port.{Port}
use Rattle.sp_netlist.specs.declared.cell.Port.TheVariants.{Read, Write}
use Rattle.sp_netlist.specs.Cells.{PlainCell, out_cell, done_cell, read_tap, write_tap, dram_cell}
use Rattle.sp_words.specs.Interface.{word_count}
use Rattle.sp_netlist.specs.Rules.{is_bank, is_dram, IsNetlist, IsRight, Leads, one_cell, more_cells}
use Rattle.sp_netlist.specs.Signals.{Setting, Signals, IsRun}
use Rattle.sp_netlist.specs.Cycle.{is_enabled_tap, Shares, SharesNone, IsConflict, is_over, out_words, dram_lists, Ending, done_in, conflict_in, not_yet, GoesOn, EndsAs}
use Rattle.sp_netlist.specs.Laws.{HasOneEnding, EndingKept, NoLoop}
use Rattle.sp_netlist.proofs.Splits.{Split, split_of, contains_head, contains_tail, count-split, count-cons_no, same_count}
use Rattle.sp_netlist.proofs.Drivers.{reads_driven}
use Rattle.sp_netlist.proofs.SomeRun.{some_run}
use Rattle.sp_netlist.proofs.SameRun.{SameWords, same_at}

-- no chain leads back: each of its cells raises the rank
leads_up : (cells : List PlainCell) (h : IsNetlist cells) {a b : ℕ} → Leads cells a b → h.ranked.0 a < h.ranked.0 b
leads_up cells h (one_cell f) = h.ranked.1 _ _ f
leads_up cells h (more_cells f rest) = lt_trans (h.ranked.1 _ _ f) (leads_up cells h rest)

pub no_loop : NoLoop
no_loop cells h net l = absurd (omega (arith, leads_up cells h l))

pub ending_kept : EndingKept
ending_kept = record {
  done = λ g a b cycle outs drams l e. record {
    has_run = e.has_run;
    every_run = λ s r. let x = e.every_run s r in (l, x.1, x.2, x.3, x.4, x.5);
  };
  conflict = λ g a b cycle bank port l e. record {
    has_run = e.has_run;
    every_run = λ s r. let x = e.every_run s r in (l, x.1, x.2);
  };
}

-- a cycle in which a run goes on has no conflict, and isn't the last
goes_on_conflict : (g : Setting) (s : Signals) (t bank : ℕ) (port : Port) → GoesOn g s t → IsConflict g.cells (s.net t) bank port → ⊥
goes_on_conflict g s t bank port o c = omega (arith, o.shares_none port bank, c.shared)

goes_on_over : (g : Setting) (s : Signals) (t : ℕ) → GoesOn g s t → IsTrue (is_over g.cells (s.net t)) → ⊥
goes_on_over g s t o e = false≢true (sym o.not_over ∙ e)

-- two first cycles of which each rules out that the other goes on are one
one_cycle : (g : Setting) (s : Signals) (a b : ℕ) → ((t : ℕ) → t < a → GoesOn g s t) → ((t : ℕ) → t < b → GoesOn g s t) → (GoesOn g s a → ⊥) → (GoesOn g s b → ⊥) → a ≡ b
one_cycle g s a b before_a before_b stop_a stop_b =
    ⊎_elim (λ e. e) (λ o. ⊎_elim (λ l. absurd (stop_a (before_b a l))) (λ l. absurd (stop_b (before_a b l))) o) (cases_order a b)

one_port : (cells : List PlainCell) (w : ℕ → ℕ) (bank : ℕ) (p q : Port) → IsConflict cells w bank p → IsConflict cells w bank q → p ≡ q
one_port cells w bank Read Read c d = refl
one_port cells w bank Read Write c d = sym (d.read_first c.shared)
one_port cells w bank Write Read c d = c.read_first d.shared
one_port cells w bank Write Write c d = refl

one_conflict : (cells : List PlainCell) (w : ℕ → ℕ) (a b : ℕ) (p q : Port) → IsConflict cells w a p → IsConflict cells w b q → (a ≡ b) × (p ≡ q)
one_conflict cells w a b p q c d =
    let e : a ≡ b = omega (arith, c.least q b d.shared, d.least p a c.shared) in
    (e, one_port cells w b p q (subst (λ n. IsConflict cells w n p) e c) d)

same_ending : (g : Setting) (s : Signals) (last : ℕ) (a b : Ending) → EndsAs g s last a → EndsAs g s last b → a ≡ b
same_ending g s last (done_in c outs drams) (done_in d outs' drams') x y =
    let e = one_cycle g s c d x.1 y.1 (λ o. goes_on_over g s c o x.3) (λ o. goes_on_over g s d o y.3) in
    let eo = x.4 ∙ ap (λ t. out_words g.cells (s.net t)) e ∙ sym y.4 in
    let ed = x.5 ∙ ap (λ t. dram_lists g.cells (s.dram t)) e ∙ sym y.5 in
    cc
same_ending g s last (conflict_in c bank port) (conflict_in d bank' port') x y =
    let e = one_cycle g s c d x.1 y.1 (λ o. goes_on_conflict g s c bank port o x.2) (λ o. goes_on_conflict g s d bank' port' o y.2) in
    let f = one_conflict g.cells (s.net d) bank bank' port port' (subst (λ t. IsConflict g.cells (s.net t) bank port) e x.2) y.2 in
    let e0 = f.0 in
    let e1 = f.1 in
    cc
same_ending g s last not_yet not_yet x y = refl
same_ending g s last (done_in c outs drams) (conflict_in d bank port) x y =
    let e = one_cycle g s c d x.1 y.1 (λ o. goes_on_over g s c o x.3) (λ o. goes_on_conflict g s d bank port o y.2) in
    absurd (omega (arith, subst (λ t. SharesNone g.cells (s.net t)) e x.2 port bank, y.2.shared))
same_ending g s last (conflict_in d bank port) (done_in c outs drams) x y =
    let e = one_cycle g s c d y.1 x.1 (λ o. goes_on_over g s c o y.3) (λ o. goes_on_conflict g s d bank port o x.2) in
    absurd (omega (arith, subst (λ t. SharesNone g.cells (s.net t)) e y.2 port bank, x.2.shared))
same_ending g s last (done_in c outs drams) not_yet x y = absurd (goes_on_over g s c (y c x.0) x.3)
same_ending g s last not_yet (done_in c outs drams) x y = absurd (goes_on_over g s c (x c y.0) y.3)
same_ending g s last (conflict_in c bank port) not_yet x y = absurd (goes_on_conflict g s c bank port (y c x.0) x.2)
same_ending g s last not_yet (conflict_in c bank port) x y = absurd (goes_on_conflict g s c bank port (x c y.0) y.2)

-- two runs agree on all that tells how they end
same_tap : (cells : List PlainCell) → IsNetlist cells → (w v : ℕ → ℕ) → SameWords cells w v → (port : Port) (bank : ℕ) (x : PlainCell) → Split cells x → is_enabled_tap w port bank x ≡ is_enabled_tap v port bank x
same_tap cells h w v same Read bank (read_tap net of enable addr) d =
    ap (λ n. (of == bank) && (n == 1)) (same enable 1 (reads_driven cells h (read_tap net of enable addr) enable 1 d (0, omega arith, refl)))
same_tap cells h w v same Write bank (write_tap of enable addr word) d =
    ap (λ n. (of == bank) && (n == 1)) (same enable 1 (reads_driven cells h (write_tap of enable addr word) enable 1 d (0, omega arith, refl)))
same_tap cells h w v same _ bank _ d = refl

pub same_taps : (cells : List PlainCell) → IsNetlist cells → (w v : ℕ → ℕ) → SameWords cells w v → (port : Port) (bank : ℕ) → count_by (is_enabled_tap w port bank) cells ≡ count_by (is_enabled_tap v port bank) cells
same_taps cells h w v same port bank = same_count (is_enabled_tap w port bank) (is_enabled_tap v port bank) cells (λ x c. same_tap cells h w v same port bank x (split_of cells x c))

pub same_over : (cells : List PlainCell) → IsNetlist cells → (w v : ℕ → ℕ) → SameWords cells w v → (xs : List PlainCell) → ((x : PlainCell) → Contains xs x → Contains cells x) → is_over xs w ≡ is_over xs v
same_over cells h w v same [] inside = refl
same_over cells h w v same (done_cell net ∷ xs) inside =
    let rest = same_over cells h w v same xs (λ x c. inside x (contains_tail (done_cell net) x xs c)) in
    let e = same net 1 (reads_driven cells h (done_cell net) net 1 (split_of cells (done_cell net) (inside (done_cell net) (contains_head (done_cell net) xs))) (0, omega arith, refl)) in
    ap (λ n. (n == 1) || is_over xs w) e ∙ ap (λ b. (v net == 1) || b) rest
same_over cells h w v same (y ∷ xs) inside = same_over cells h w v same xs (λ x c. inside x (contains_tail _ x xs c))

pub same_outs : (cells : List PlainCell) → IsNetlist cells → (w v : ℕ → ℕ) → SameWords cells w v → (xs : List PlainCell) → ((x : PlainCell) → Contains xs x → Contains cells x) → out_words xs w ≡ out_words xs v
same_outs cells h w v same [] inside = refl
same_outs cells h w v same (out_cell name net ty ∷ xs) inside =
    let rest = same_outs cells h w v same xs (λ x c. inside x (contains_tail (out_cell name net ty) x xs c)) in
    let e = same net _ (reads_driven cells h (out_cell name net ty) net _ (split_of cells (out_cell name net ty) (inside (out_cell name net ty) (contains_head (out_cell name net ty) xs))) (0, omega arith, refl)) in
    cc
same_outs cells h w v same (y ∷ xs) inside = same_outs cells h w v same xs (λ x c. inside x (contains_tail _ x xs c))

same_map : (f k : ℕ → ℕ) (xs : List ℕ) → ((n : ℕ) → f n ≡ k n) → map f xs ≡ map k xs
same_map f k [] e = refl
same_map f k (x ∷ xs) e =
    let a = e x in
    let b = same_map f k xs e in
    cc

below_drams : (cells before : List PlainCell) (x : PlainCell) (after : List PlainCell) (dram : ℕ) → cells ≡ before ++ x ∷ after → is_dram x ≡ true → dram ≡ count_by is_dram before → dram < count_by is_dram cells
below_drams cells before x after dram e is c = omega (arith, count-split is_dram cells before x after e is)

pub same_drams : (cells : List PlainCell) → IsNetlist cells → (d e : ℕ → ℕ → ℕ) → ((dram addr : ℕ) → dram < count_by is_dram cells → d dram addr ≡ e dram addr)
    → (xs : List PlainCell) → ((x : PlainCell) → Contains xs x → Contains cells x) → dram_lists xs d ≡ dram_lists xs e
same_drams cells h d e same [] inside = refl
same_drams cells h d e same (dram_cell dram name ty dims ∷ xs) inside =
    let rest = same_drams cells h d e same xs (λ x c. inside x (contains_tail (dram_cell dram name ty dims) x xs c)) in
    let split = split_of cells (dram_cell dram name ty dims) (inside (dram_cell dram name ty dims) (contains_head (dram_cell dram name ty dims) xs)) in
    let right = h.right split.before (dram_cell dram name ty dims) split.after split.is in
    let here = same_map (d dram) (e dram) (range_with_len 0 (word_count dims)) (λ n. same dram n (below_drams cells split.before (dram_cell dram name ty dims) split.after dram split.is refl right.0)) in
    cc
same_drams cells h d e same (y ∷ xs) inside = same_drams cells h d e same xs (λ x c. inside x (contains_tail _ x xs c))

module _ (g : Setting) (h : IsNetlist g.cells) (s u : Signals) (rs : IsRun g s) (ru : IsRun g u) where
  words_same : (t : ℕ) → SameWords g.cells (s.net t) (u.net t)
  words_same t = (same_at g h s u rs ru t).nets

  none_same : (t : ℕ) → SharesNone g.cells (s.net t) → SharesNone g.cells (u.net t)
  none_same t n port bank = subst (λ k. k ≤ 1) (same_taps g.cells h (s.net t) (u.net t) (words_same t) port bank) (n port bank)

  over_same : (t : ℕ) → is_over g.cells (s.net t) ≡ is_over g.cells (u.net t)
  over_same t = same_over g.cells h (s.net t) (u.net t) (words_same t) g.cells (λ x c. c)

  goes_on_same : (t : ℕ) → GoesOn g s t → GoesOn g u t
  goes_on_same t o = record { shares_none = none_same t o.shares_none; not_over = sym (over_same t) ∙ o.not_over }

  shares_same : (t : ℕ) (port : Port) (bank : ℕ) → Shares g.cells (s.net t) port bank → Shares g.cells (u.net t) port bank
  shares_same t port bank k = subst (λ n. 1 < n) (same_taps g.cells h (s.net t) (u.net t) (words_same t) port bank) k

  shares_back : (t : ℕ) (port : Port) (bank : ℕ) → Shares g.cells (u.net t) port bank → Shares g.cells (s.net t) port bank
  shares_back t port bank k = subst (λ n. 1 < n) (sym (same_taps g.cells h (s.net t) (u.net t) (words_same t) port bank)) k

  ends_same : (last : ℕ) (ending : Ending) → EndsAs g s last ending → EndsAs g u last ending
  ends_same last (done_in c outs drams) x = (
    x.0,
    λ t l. goes_on_same t (x.1 t l),
    none_same c x.2,
    sym (over_same c) ∙ x.3,
    x.4 ∙ same_outs g.cells h (s.net c) (u.net c) (words_same c) g.cells (λ y k. k),
    x.5 ∙ same_drams g.cells h (s.dram c) (u.dram c) (same_at g h s u rs ru c).drams g.cells (λ y k. k),
  )
  ends_same last (conflict_in c bank port) x = (
    x.0,
    λ t l. goes_on_same t (x.1 t l),
    record {
      shared = shares_same c port bank x.2.shared;
      least = λ p b k. x.2.least p b (shares_back c p b k);
      read_first = λ k. x.2.read_first (shares_back c Read bank k);
    },
  )
  ends_same last not_yet x = λ t l. goes_on_same t (x t l)

-- the least number below n that passes, if there is one
pub record Least (p : ℕ → Bool) (n : ℕ) : Type 0 where
  pub at : ℕ
  pub below : at < n
  pub passes : p at ≡ true
  pub first : (k : ℕ) → k < at → p k ≡ false

least : (p : ℕ → Bool) (n : ℕ) → Least p n ⊎ ((k : ℕ) → k < n → p k ≡ false)
least p zero = inr (λ k l. absurd (omega arith))
least p (suc n) = ⊎_elim (λ m. inl (record { at = m.at; below = omega (arith, m.below); passes = m.passes; first = m.first })) (λ none. go none (cases_Bool (p n))) (least p n)
  where
    go : ((k : ℕ) → k < n → p k ≡ false) → (p n ≡ true) ⊎ (p n ≡ false) → Least p (suc n) ⊎ ((k : ℕ) → k < suc n → p k ≡ false)
    go none (inl pass) = inl (record { at = n; below = omega arith; passes = pass; first = none })
    go none (inr fails) = inr (λ k l. ⊎_elim (λ m. none k m) (λ m. subst (λ j. p j ≡ false) (omega arith) fails) (cases_lt k n))

-- whether a bank has a conflict at these words
unfoldable pub shares : List PlainCell → (ℕ → ℕ) → ℕ → Bool
shares cells w bank = nat_lt 1 (count_by (is_enabled_tap w Read bank) cells) || nat_lt 1 (count_by (is_enabled_tap w Write bank) cells)

-- a tap's bank has a cell, so no other bank has an enabled tap
tap_below : (cells : List PlainCell) → IsNetlist cells → (w : ℕ → ℕ) (port : Port) (bank : ℕ) → count_by is_bank cells ≤ bank → (before : List PlainCell) (x : PlainCell) → IsRight cells before x → is_enabled_tap w port bank x ≡ false
tap_below cells h w Read bank l before (read_tap net of enable addr) r = and_left (of == bank) (w enable == 1) (ne_eqb of bank (λ e. absurd (omega arith)))
tap_below cells h w Write bank l before (write_tap of enable addr word) r = and_left (of == bank) (w enable == 1) (ne_eqb of bank (λ e. absurd (omega arith)))
tap_below cells h w _ bank l before _ r = refl

count_none : {X : Type 0} (xs : List X) → count_by (λ x. false) xs ≡ 0
count_none [] = refl
count_none {X} (x ∷ xs) = count-cons_no {X = X} (λ y. false) x xs refl ∙ count_none xs

pub no_tap : (cells : List PlainCell) → IsNetlist cells → (w : ℕ → ℕ) (port : Port) (bank : ℕ) → count_by is_bank cells ≤ bank → count_by (is_enabled_tap w port bank) cells ≡ 0
no_tap cells h w port bank l = same_count (is_enabled_tap w port bank) (λ x. false) cells
    (λ x c. let d = split_of cells x c in tap_below cells h w port bank l d.before x (h.right d.before x d.after d.is)) ∙ count_none cells

pub shares_tells : (cells : List PlainCell) (w : ℕ → ℕ) (bank : ℕ) → shares cells w bank ≡ false → (port : Port) → count_by (is_enabled_tap w port bank) cells ≤ 1
unfolding shares
shares_tells cells w bank e Read = ltb-false 1 _ (or_parts (nat_lt 1 (count_by (is_enabled_tap w Read bank) cells)) (nat_lt 1 (count_by (is_enabled_tap w Write bank) cells)) e).0
shares_tells cells w bank e Write = ltb-false 1 _ (or_parts (nat_lt 1 (count_by (is_enabled_tap w Read bank) cells)) (nat_lt 1 (count_by (is_enabled_tap w Write bank) cells)) e).1

-- what happens in a cycle
data Outcome (g : Setting) (s : Signals) (t : ℕ) : Type 0 where
  goes : GoesOn g s t → Outcome g s t
  stops : SharesNone g.cells (s.net t) → IsTrue (is_over g.cells (s.net t)) → Outcome g s t
  clashes : (bank : ℕ) (port : Port) → IsConflict g.cells (s.net t) bank port → Outcome g s t

the_conflict : (cells : List PlainCell) (w : ℕ → ℕ) (bank : ℕ) → shares cells w bank ≡ true → ((k : ℕ) → k < bank → shares cells w k ≡ false) → (port : Port) × IsConflict cells w bank port
unfolding shares
the_conflict cells w bank e first = go (cases_lt 1 (count_by (is_enabled_tap w Read bank) cells))
  where
    below : (p : Port) (b : ℕ) → Shares cells w p b → bank ≤ b
    below p b k = ⊎_elim (λ l. absurd (omega (arith, shares_tells cells w b (first b l) p))) (λ l. l) (cases_lt b bank)

    go : (1 < count_by (is_enabled_tap w Read bank) cells) ⊎ (count_by (is_enabled_tap w Read bank) cells ≤ 1) → (port : Port) × IsConflict cells w bank port
    go (inl l) = (Read, record { shared = l; least = below; read_first = λ k. refl })
    go (inr l) =
        let no = le-ltb 1 (count_by (is_enabled_tap w Read bank) cells) l in
        let passes = ⊎_elim (λ k. absurd (false≢true (sym no ∙ k))) (λ k. k) (or_cases (nat_lt 1 (count_by (is_enabled_tap w Read bank) cells)) (nat_lt 1 (count_by (is_enabled_tap w Write bank) cells)) e) in
        (Write, record { shared = ltb-true 1 _ passes; least = below; read_first = λ k. absurd (omega arith) })

outcome : (g : Setting) → IsNetlist g.cells → (s : Signals) (t : ℕ) → Outcome g s t
outcome g h s t = ⊎_elim conflict none (least (shares g.cells (s.net t)) (count_by is_bank g.cells))
  where
    conflict : Least (shares g.cells (s.net t)) (count_by is_bank g.cells) → Outcome g s t
    conflict m = let c = the_conflict g.cells (s.net t) m.at m.passes m.first in clashes m.at c.0 c.1

    none : ((k : ℕ) → k < count_by is_bank g.cells → shares g.cells (s.net t) k ≡ false) → Outcome g s t
    none n =
        let free : SharesNone g.cells (s.net t) = λ port bank. ⊎_elim (λ l. shares_tells g.cells (s.net t) bank (n bank l) port) (λ l. omega (arith, no_tap g.cells h (s.net t) port bank l)) (cases_lt bank (count_by is_bank g.cells)) in
        ⊎_elim (λ e. stops free e) (λ e. goes (record { shares_none = free; not_over = e })) (cases_Bool (is_over g.cells (s.net t)))

-- the cycles before n, as they end
ends_before : (g : Setting) → IsNetlist g.cells → (s : Signals) (n : ℕ) → ((t : ℕ) → t < n → GoesOn g s t) ⊎ ((e : Ending) × ((last : ℕ) → n ≤ suc last → EndsAs g s last e))
ends_before g h s zero = inl (λ t l. absurd (omega arith))
ends_before g h s (suc n) = ⊎_elim (λ all. go all (outcome g h s n)) (λ e. inr (e.0, λ last l. e.1 last (omega arith))) (ends_before g h s n)
  where
    go : ((t : ℕ) → t < n → GoesOn g s t) → Outcome g s n → ((t : ℕ) → t < suc n → GoesOn g s t) ⊎ ((e : Ending) × ((last : ℕ) → suc n ≤ suc last → EndsAs g s last e))
    go all (goes o) = inl (λ t l. ⊎_elim (λ k. all t k) (λ k. subst (GoesOn g s) (omega arith) o) (cases_lt t n))
    go all (stops free over) = inr (done_in n (out_words g.cells (s.net n)) (dram_lists g.cells (s.dram n)), λ last l. (omega arith, all, free, over, refl, refl))
    go all (clashes bank port c) = inr (conflict_in n bank port, λ last l. (omega arith, all, c))

some_ending : (g : Setting) → IsNetlist g.cells → (s : Signals) (last : ℕ) → (e : Ending) × EndsAs g s last e
some_ending g h s last = ⊎_elim (λ all. (not_yet, λ t l. all t (omega arith))) (λ e. (e.0, e.1 last (omega arith))) (ends_before g h s (suc last))

pub one_ending : HasOneEnding
one_ending g h last =
    let run = some_run g h in
    let end = some_ending g h run.0 last in
    record {
      some_ending = (end.0, record { has_run = run; every_run = λ u ru. ends_same g h run.0 u run.1 ru last end.0 end.1 });
      same_ending = λ a b ea eb. same_ending g run.0 last a b (ea.every_run run.0 run.1) (eb.every_run run.0 run.1);
      of_run = λ s ending r x. record { has_run = run; every_run = λ u ru. ends_same g h s u r ru last ending x };
    }
