-- How a netlist ends, from its evaluation over lists.
use Rattle.std.proofs.Common.{◌≡◌, ℕ, zero, suc, ◌+◌, ◌<◌, ◌≤◌, List, Bool, true, not, ◌&&◌, sym, ◌∙◌, count_by, arith, subst, ⊎_elim}
use Rattle.std.specs.List.{range_with_len, list_all}
use Rattle.std.proofs.lemmas.Bool.{cases_lt, and_parts, not-true}
use Rattle.std.proofs.lemmas.List.FromFn.{get_or-range_with_len, length-range_with_len}
use Rattle.std.proofs.lemmas.List.Sums.{AllPass-from_list_all}
use Rattle.sp_netlist.specs.declared.cell.Port.{Port}
use Rattle.sp_netlist.specs.declared.cell.Port.TheVariants.{Read}
use Rattle.sp_netlist.specs.Cells.{PlainCell}
use Rattle.sp_netlist.specs.Rules.{is_bank, IsNetlist}
use Rattle.sp_netlist.specs.Signals.{Setting, Signals, IsRun}
use Rattle.sp_netlist.specs.Cycle.{is_enabled_tap, SharesNone, IsConflict, is_over, out_words, dram_lists, done_in, conflict_in, GoesOn, Ends}
use Rattle.sp_netlist.proofs.SomeRun.{some_run}
use Rattle.sp_netlist.proofs.SameRun.{SameAt}
use Rattle.sp_netlist.proofs.Endings.{shares, shares_tells, no_tap, same_taps, same_over, same_outs, same_drams}
use Rattle.sp_netlist.proofs.Evaluate.{Known, word_of, words_known, is_complete, plain, first_known, cycle, after}
use Rattle.sp_netlist.proofs.Evaluated.{Knows, first_knows, cycle_knows, known_same}

-- no bank has two enabled taps on a port
unfoldable pub no_share : List PlainCell → (ℕ → ℕ) → Bool
no_share cells w = list_all (λ bank. not (shares cells w bank)) (range_with_len 0 (count_by is_bank cells))

none_shares : (cells : List PlainCell) → IsNetlist cells → (w : ℕ → ℕ) → no_share cells w ≡ true → SharesNone cells w
unfolding no_share
none_shares cells h w e port bank = ⊎_elim low (λ l. omega (arith, no_tap cells h w port bank l)) (cases_lt bank (count_by is_bank cells))
  where
    low : bank < count_by is_bank cells → count_by (is_enabled_tap w port bank) cells ≤ 1
    low l =
        let all = AllPass-from_list_all (λ (b : ℕ). not (shares cells w b)) (range_with_len 0 (count_by is_bank cells)) e bank 0 (omega (arith, length-range_with_len 0 (count_by is_bank cells))) in
        let at : not (shares cells w bank) ≡ true = subst (λ b. not (shares cells w b) ≡ true) (get_or-range_with_len 0 (count_by is_bank cells) bank 0 l ∙ omega arith) all in
        shares_tells cells w bank (not-true (shares cells w bank) at) port

-- a cycle is known whole, has no conflict and isn't the last
unfoldable pub goes_on : Setting → Known → Bool
goes_on g k = is_complete g.cells (words_known g k) && (no_share g.cells (word_of (words_known g k)) && not (is_over g.cells (word_of (words_known g k))))

-- and so are the next ones
unfoldable pub fine : Setting → ℕ → Known → Bool
fine g zero k = true
fine g (suc n) k = goes_on g k && fine g n (cycle g k)

module _ (g : Setting) (h : IsNetlist g.cells) (s : Signals) (rs : IsRun g s) where
  none_shares_at : (t : ℕ) (k : Known) → SameAt g.cells s (plain k (words_known g k)) t → no_share g.cells (word_of (words_known g k)) ≡ true → SharesNone g.cells (s.net t)
  none_shares_at t k same e port bank =
      let n = none_shares g.cells h (word_of (words_known g k)) e port bank in
      let c = same_taps g.cells h (s.net t) (word_of (words_known g k)) same.nets port bank in
      omega (arith, n, c)

  goes_on_at : (t : ℕ) (k : Known) → Knows g s t k → goes_on g k ≡ true → GoesOn g s t × Knows g s (suc t) (cycle g k)
  unfolding goes_on
  goes_on_at t k q e =
      let first = and_parts (is_complete g.cells (words_known g k)) (no_share g.cells (word_of (words_known g k)) && not (is_over g.cells (word_of (words_known g k)))) e in
      let rest = and_parts (no_share g.cells (word_of (words_known g k))) (not (is_over g.cells (word_of (words_known g k)))) first.1 in
      let same = known_same g h s rs t k q first.0 in (
        record {
          shares_none = none_shares_at t k same rest.0;
          not_over = same_over g.cells h (s.net t) (word_of (words_known g k)) same.nets g.cells (λ x c. c) ∙ not-true (is_over g.cells (word_of (words_known g k))) rest.1;
        },
        cycle_knows g h s rs t k q first.0,
      )

  fine_from : (n t m : ℕ) (k : Known) → m ≡ t + n → Knows g s t k → fine g n k ≡ true → ((j : ℕ) → t ≤ j → j < m → GoesOn g s j) × Knows g s m (after g n k)
  unfolding fine after
  fine_from zero t m k e q f = (λ j l r. absurd (omega arith), subst (λ i. Knows g s i k) (omega arith) q)
  fine_from (suc n) t m k e q f =
      let parts = and_parts (goes_on g k) (fine g n (cycle g k)) f in
      let now = goes_on_at t k q parts.0 in
      let rest = fine_from n (suc t) m (cycle g k) (omega arith) now.1 parts.1 in
      (λ j l r. ⊎_elim (λ x. rest.0 j x r) (λ x. subst (GoesOn g s) (omega arith) now.0) (cases_lt t j), rest.1)

  pub fine_run : (n : ℕ) → fine g n (first_known g) ≡ true → ((t : ℕ) → t < n → GoesOn g s t) × Knows g s n (after g n (first_known g))
  fine_run n f = let r = fine_from n 0 n (first_known g) (omega arith) (first_knows g h s rs) f in (λ t l. r.0 t (omega arith) l, r.1)

-- done in cycle n
pub done_at : (g : Setting) → IsNetlist g.cells → (n last : ℕ) → n ≤ last → fine g n (first_known g) ≡ true
    → (k : Known) → after g n (first_known g) ≡ k → is_complete g.cells (words_known g k) ≡ true → no_share g.cells (word_of (words_known g k)) ≡ true
    → is_over g.cells (word_of (words_known g k)) ≡ true
    → Ends g last (done_in n (out_words g.cells (word_of (words_known g k))) (dram_lists g.cells ((plain k (words_known g k)).dram n)))
done_at g h n last l f k e c ns over = record {
  has_run = some_run g h;
  every_run = λ s rs.
      let r = fine_run g h s rs n f in
      let same = known_same g h s rs n k (subst (Knows g s n) e r.1) c in (
        l,
        r.0,
        none_shares_at g h s rs n k same ns,
        same_over g.cells h (s.net n) (word_of (words_known g k)) same.nets g.cells (λ x c. c) ∙ over,
        sym (same_outs g.cells h (s.net n) (word_of (words_known g k)) same.nets g.cells (λ x c. c)),
        sym (same_drams g.cells h (s.dram n) ((plain k (words_known g k)).dram n) same.drams g.cells (λ x c. c)),
      );
}

-- a conflict in cycle n
pub conflict_at : (g : Setting) → IsNetlist g.cells → (n last : ℕ) → n ≤ last → fine g n (first_known g) ≡ true
    → (k : Known) → after g n (first_known g) ≡ k → is_complete g.cells (words_known g k) ≡ true
    → (bank : ℕ) (port : Port) → IsConflict g.cells (word_of (words_known g k)) bank port → Ends g last (conflict_in n bank port)
conflict_at g h n last l f k e c bank port x = record {
  has_run = some_run g h;
  every_run = λ s rs.
      let r = fine_run g h s rs n f in
      let same = known_same g h s rs n k (subst (Knows g s n) e r.1) c in
      let taps = same_taps g.cells h (s.net n) (word_of (words_known g k)) same.nets in (
        l,
        r.0,
        record {
          shared = subst (λ i. 1 < i) (sym (taps port bank)) x.shared;
          least = λ p b y. x.least p b (subst (λ i. 1 < i) (taps p b) y);
          read_first = λ y. x.read_first (subst (λ i. 1 < i) (taps Read bank) y);
        },
      );
}
