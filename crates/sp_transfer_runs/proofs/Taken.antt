-- A transfer in a run of a core is taken apart into its slice and its words.
use Rattle.std.proofs.Common.{◌≡◌, ℕ, zero, suc, ◌+◌, ◌-◌, ◌<◌, ◌≤◌, ◌^◌, ◌==◌, Bool, true, false, ◌&&◌, ◌||◌, nat_le, nat_lt, List, [], ◌∷◌, map, length, slice_index_or, if◌then◌else◌, refl, sym, ap, subst, ◌∙◌, arith}
use Rattle.std.specs.List.{AllZip, list_all}
use Rattle.std.proofs.lemmas.Bool.{and_parts, leb-true, ltb-true}
use Rattle.sp_words.specs.Interface.{word_count}
use Rattle.sp_words.specs.Ports.{PlainPort}
use Rattle.sp_words.specs.Types.{int_type}
use Rattle.sp_core.specs.Around.{Around}
use Rattle.sp_core.specs.Declarations.{mem, dims, dram, kind_of, dram_number}
use Rattle.sp_core.specs.History.{Taken, one, both, last_word, History, moved}
use Rattle.sp_core.specs.Invariant.{IsRight}
use Rattle.sp_core.specs.MemoryRules.{are_memories_right, is_mem_right, is_dram_right, has_words}
use Rattle.sp_core.specs.NodeRules.{is_span_right, is_slice_right, fits_sram, fits_line}
use Rattle.sp_core.specs.OperationRules.{is_bound, is_word_list, is_early}
use Rattle.sp_core.specs.PlainCore.{PlainOp, PlainSpan, single, range, load, store, PlainCore, no_port}
use Rattle.sp_core.specs.Scope.{Reading, Scope}
use Rattle.sp_core.specs.Sequential.{taken, run}
use Rattle.sp_core.specs.Step.{Step, went, pure, ◌>>=◌, ◌>>◌, ensure, in_order}
use Rattle.sp_core.specs.Store.{Store}
use Rattle.sp_core.specs.Transfers.{part_of, lengths, has_none, are_parts_inside, do_fit, range_limits, transfer, all_offsets, load_words, store_words, make_room}
use Rattle.sp_time.specs.Lists.{Each}
use Rattle.sp_fitting.specs.Fitting.{HistoryFits, EntriesFit, SpanFits}
use Rattle.sp_fitting.proofs.Lists.{last_fits}
use Rattle.sp_fitting.proofs.Rules.{word_list_right, here_right}
use Rattle.sp_hold.proofs.Steps.{bound, was_pure, was_ensured}
use Rattle.sp_transfer_runs.specs.Runs.{taken_in, words_in, DidSlice}
use Rattle.sp_transfer_runs.specs.Taken.{SlicesAreTaken}
use Rattle.sp_transfer_runs.specs.Trees.{MovesAll}
use Rattle.sp_transfer_runs.specs.Words.{EndsFit, parts_of}
use Rattle.sp_transfer_runs.proofs.Moved.{not_less}
use Rattle.sp_transfer_runs.proofs.Places.{none_offsets}

-- what a step gives, where it goes on
abbrev pub Gives : {A : Type 0} → (A → Type 0) → Step A → Type 0
Gives {A = A} P step = (s t : Store) (a : A) → step s ≡ went a t → P a

pub gives_bound : {A B : Type 0} (step : Step A) (rest : A → Step B) (P : A → Type 0) (R : B → Type 0) → Gives P step → ((a : A) → P a → Gives R (rest a)) → Gives R (step >>= rest)
gives_bound step rest P R f g s t b e = let x = bound step rest s b t e in g x.value (f s x.middle x.value x.first) x.middle t b x.later

pub gives_pure : {A : Type 0} (P : A → Type 0) (a : A) → P a → Gives P (pure a)
gives_pure P a p s t b e = subst P (was_pure a b s t e).value p

gives_ensured : (test : Bool) → Gives (λ u. test ≡ true) (ensure test)
gives_ensured test s t u e = (was_ensured test u s t e).0

-- a list has as many answers as elements
as_long : {A B : Type 0} (step : A → Step B) (xs : List A) → Gives (λ ys. length ys ≡ length xs) (in_order step xs)
unfolding in_order
as_long step [] = gives_pure (λ ys. length ys ≡ 0) [] refl
as_long step (x ∷ xs) = gives_bound (step x) _ (λ y. Unit {0}) _ (λ s t a e. tt) (λ y u. gives_bound (in_order step xs) _ (λ ys. length ys ≡ length xs) _ (as_long step xs) (λ ys e. gives_pure (λ zs. length zs ≡ suc (length xs)) (y ∷ ys) (ap (λ n. suc n) e)))

module _ (core : PlainCore) where
  transfer_gives : (r m : ℕ) (ts : List Taken) (move : Step (List ℕ)) → Gives (λ ws. length ws ≡ length (all_offsets (parts_of ts))) move → Gives (MovesAll (dims core (dram_number core r))) (transfer core r m ts move)
  transfer_gives r m ts move f = go (has_none (lengths (map part_of ts))) refl
    where
      go : (none : Bool) → has_none (lengths (map part_of ts)) ≡ none
          → Gives (MovesAll (dims core (dram_number core r))) (elim none as (λ _. Step History) [ true ↦ pure (moved ts []) | false ↦ ensure (are_parts_inside (dims core (dram_number core r)) (map part_of ts)) >> (ensure (do_fit (range_limits (kind_of core m) (dims core m)) (lengths (map part_of ts))) >> (move >>= (λ ws. pure (moved ts ws)))) ])
      go true e = gives_pure (MovesAll (dims core (dram_number core r))) (moved ts []) (record { is = refl; each = sym (ap length (none_offsets (parts_of ts) e)); inside = λ f. absurd (let g = sym e ∙ f in cc) })
      go false e =
          gives_bound (ensure (are_parts_inside (dims core (dram_number core r)) (map part_of ts))) _ (λ u. are_parts_inside (dims core (dram_number core r)) (map part_of ts) ≡ true) _ (gives_ensured (are_parts_inside (dims core (dram_number core r)) (map part_of ts)))
          (λ u inside. gives_bound (ensure (do_fit (range_limits (kind_of core m) (dims core m)) (lengths (map part_of ts)))) _ (λ u. Unit {0}) _ (λ s t a e. tt)
          (λ v w. gives_bound move _ (λ ws. length ws ≡ length (all_offsets (parts_of ts))) _ f
          (λ ws long. gives_pure (MovesAll (dims core (dram_number core r))) (moved ts ws) (record { is = refl; each = long; inside = λ g. inside }))))

  load_gives : (r m : ℕ) (ts : List Taken) → Gives (λ ws. length ws ≡ length (all_offsets (parts_of ts))) (load_words core r m (map part_of ts))
  load_gives r m ts = gives_bound (make_room core (kind_of core m) m) _ (λ u. Unit {0}) _ (λ s t a e. tt) (λ u w. as_long _ (all_offsets (map part_of ts)))

  store_gives : (r m : ℕ) (ts : List Taken) → Gives (λ ws. length ws ≡ length (all_offsets (parts_of ts))) (store_words core r m (map part_of ts))
  store_gives r m ts = as_long _ (all_offsets (map part_of ts))

  module _ (reading : Reading) (turns : ℕ) where
    pub load_run_gives : (r m : ℕ) (spans : List PlainSpan) (scope : Scope) → Gives (MovesAll (dims core (dram_number core r))) (run core reading turns (load r m spans) scope)
    unfolding run
    load_run_gives r m spans scope = gives_bound (in_order (taken core reading turns scope) spans) _ (λ ts. Unit {0}) _ (λ s t a e. tt) (λ ts u. transfer_gives r m ts (load_words core r m (map part_of ts)) (load_gives r m ts))

    pub store_run_gives : (r m : ℕ) (spans : List PlainSpan) (scope : Scope) → Gives (MovesAll (dims core (dram_number core r))) (run core reading turns (store r m spans) scope)
    unfolding run
    store_run_gives r m spans scope = gives_bound (in_order (taken core reading turns scope) spans) _ (λ ts. Unit {0}) _ (λ s t a e. tt) (λ ts u. transfer_gives r m ts (store_words core r m (map part_of ts)) (store_gives r m ts))

  -- its ends are words of `Int`
  module _ (around : Around) where
    bound_fits : (ops : List PlainOp) (es : _) → is_bound core around ops ≡ true → EntriesFit ops es → last_word es < 2 ^ 32
    bound_fits ops es e f = last_fits ops es int_type (word_list_right core around ops int_type (and_parts (is_word_list core around ops int_type) (list_all (is_early core around) ops) e).0).1 f

    ends_fit : (spans : List PlainSpan) (ts : List Taken) → list_all (is_span_right core around) spans ≡ true → AllZip SpanFits spans ts → Each EndsFit ts
    ends_fit [] [] e f = tt
    ends_fit [] (x ∷ ts) e f = absurd f
    ends_fit (span ∷ spans) [] e f = absurd f
    ends_fit (single ops ∷ spans) (one es ∷ ts) e f = let p = and_parts (is_bound core around ops) (list_all (is_span_right core around) spans) e in (bound_fits ops es p.0 f.0, ends_fit spans ts p.1 f.1)
    ends_fit (range a b ∷ spans) (both es fs ∷ ts) e f =
        let p = and_parts (is_bound core around a && is_bound core around b) (list_all (is_span_right core around) spans) e in
        let q = and_parts (is_bound core around a) (is_bound core around b) p.0 in
        ((bound_fits a es q.0 f.0.0, bound_fits b fs q.1 f.0.1), ends_fit spans ts p.1 f.1)
    ends_fit (single ops ∷ spans) (both es fs ∷ ts) e f = absurd f.0
    ends_fit (range a b ∷ spans) (one es ∷ ts) e f = absurd f.0

  -- its DRAM is one that a core may have
  dram_dims : (r : ℕ) → dims core (dram_number core r) ≡ (dram core r).dims
  dram_dims r =
      ap (λ b. if b then (mem core (dram_number core r)).dims else (dram core (dram_number core r - length core.mems)).dims) (not_less (length core.mems + r) (length core.mems) (omega arith))
      ∙ ap (λ k. (dram core k).dims) (let e : length core.mems + r - length core.mems ≡ r = omega arith in e)

  port_right : (ports : List PlainPort) (r : ℕ) → list_all is_dram_right ports ≡ true → r < length ports → has_words 67108864 (slice_index_or ports r no_port).dims ≡ true
  port_right [] r e l = absurd (omega (arith, l))
  port_right (p ∷ ports) zero e l = (and_parts (nat_le 1 (length p.dims) && nat_le (length p.dims) 3) (has_words 67108864 p.dims) (and_parts (is_dram_right p) (list_all is_dram_right ports) e).0).1
  port_right (p ∷ ports) (suc r) e l = port_right ports r (and_parts (is_dram_right p) (list_all is_dram_right ports) e).1 (omega (arith, l))

  size_right : are_memories_right core ≡ true → (r : ℕ) → nat_lt r (length core.ports.drams) ≡ true → (1 ≤ word_count (dims core (dram_number core r))) × (word_count (dims core (dram_number core r)) < 2 ^ 31)
  size_right e r l =
      let h = subst (λ ds. has_words 67108864 ds ≡ true) (sym (dram_dims r)) (port_right core.ports.drams r (and_parts (list_all is_mem_right core.mems) (list_all is_dram_right core.ports.drams) e).1 (ltb-true r (length core.ports.drams) l)) in
      let p = and_parts (nat_le 1 (word_count (dims core (dram_number core r)))) (nat_le (word_count (dims core (dram_number core r))) 67108864) h in
      let few = leb-true (word_count (dims core (dram_number core r))) 67108864 p.1 in
      (leb-true 1 (word_count (dims core (dram_number core r))) p.0, omega (arith, few))

  did : (around : Around) (r : ℕ) (spans : List PlainSpan) (h : History) → are_memories_right core ≡ true → is_slice_right core around r spans ≡ true → MovesAll (dims core (dram_number core r)) h → AllZip SpanFits spans (taken_in h) → DidSlice (dims core (dram_number core r)) h
  did around r spans h right slice so fits =
      let p = and_parts (nat_lt r (length core.ports.drams) && (length spans == length (dram core r).dims)) (list_all (is_span_right core around) spans) slice in
      let size = size_right right r (and_parts (nat_lt r (length core.ports.drams)) (length spans == length (dram core r).dims) p.0).0 in
      record { is = so.is; slice = record { fits = ends_fit around spans (taken_in h) p.1 fits; some = size.0; few = size.1; inside = so.inside }; each = so.each }

  load_fits : (r m : ℕ) (spans : List PlainSpan) (h : History) → h ≡ moved (taken_in h) (words_in h) → HistoryFits core (load r m spans) h → AllZip SpanFits spans (taken_in h)
  load_fits r m spans h e f = let g : HistoryFits core (load r m spans) (moved (taken_in h) (words_in h)) = subst (HistoryFits core (load r m spans)) e f in g.0

  store_fits : (r m : ℕ) (spans : List PlainSpan) (h : History) → h ≡ moved (taken_in h) (words_in h) → HistoryFits core (store r m spans) h → AllZip SpanFits spans (taken_in h)
  store_fits r m spans h e f = let g : HistoryFits core (store r m spans) (moved (taken_in h) (words_in h)) = subst (HistoryFits core (store r m spans)) e f in g.0

  pub load_did : (around : Around) (earlier : List ℕ) (r m : ℕ) (spans : List PlainSpan) (h : History) → are_memories_right core ≡ true → IsRight core around earlier (load r m spans) → MovesAll (dims core (dram_number core r)) h → HistoryFits core (load r m spans) h → DidSlice (dims core (dram_number core r)) h
  load_did around earlier r m spans h mems right so fits =
      did around r spans h mems (and_parts (is_slice_right core around r spans) (fits_sram core around r m spans || fits_line core around r m spans) (here_right core around earlier (load r m spans) right).0).0 so (load_fits r m spans h so.is fits)

  pub store_did : (around : Around) (earlier : List ℕ) (r m : ℕ) (spans : List PlainSpan) (h : History) → are_memories_right core ≡ true → IsRight core around earlier (store r m spans) → MovesAll (dims core (dram_number core r)) h → HistoryFits core (store r m spans) h → DidSlice (dims core (dram_number core r)) h
  store_did around earlier r m spans h mems right so fits =
      did around r spans h mems (and_parts (is_slice_right core around r spans) (fits_sram core around r m spans) (here_right core around earlier (store r m spans) right).0).0 so (store_fits r m spans h so.is fits)

  pub slices_are_taken : SlicesAreTaken core
  slices_are_taken = record {
    of_load = λ reading turns around earlier r m spans scope s t h mems right ran fits. load_did around earlier r m spans h mems right (load_run_gives reading turns r m spans scope s t h ran) fits;
    of_store = λ reading turns around earlier r m spans scope s t h mems right ran fits. store_did around earlier r m spans h mems right (store_run_gives reading turns r m spans scope s t h ran) fits;
  }
