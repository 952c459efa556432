-- What happens in the groups of an outer body comes in order, where runs that clash come one after the other.
use Rattle.std.proofs.Common.{◌≡◌, ℕ, zero, suc, ◌+◌, ◌<◌, ◌≤◌, ◌⊎◌, inl, inr, true, List, [], ◌∷◌, ◌++◌, length, arith, refl, subst, ap, ◌∙◌}
use Rattle.std.proofs.lemmas.Bool.{eq-eqb, or_right}
use Rattle.std.specs.Prelude.{◌==◌, ◌||◌, slice_index_or}
use Rattle.sp_core.specs.Declarations.{is_among}
use Rattle.sp_core.specs.PlainCore.{PlainStages, PlainCore}
use Rattle.sp_plan.specs.PlainPlan.{PlainNodePlan, PlainPlan}
use Rattle.sp_time.specs.Beats.{Slot, Run, slot_at, no_time, run_at, took_at, begins, first_cycle, starts}
use Rattle.sp_time.specs.Lists.{Each, Pairs}
use Rattle.sp_time.specs.Orders.{Precedes}
use Rattle.sp_time.proofs.ListLemmas.{total_mono}
use Rattle.sp_time.proofs.Whole.{beats_in_order}
use Rattle.sp_machine.specs.InOrder.{Clash, AreInOrder, EachTwo, Conflicts, fresh_beat, fresh, RunsPrecede, OutersInOrder}
use Rattle.sp_machine.specs.Stamps.{Stamped, Copies, later}
use Rattle.sp_machine.specs.Timeline.{in_copies, stage_events, fresh_events, group_events}
use Rattle.sp_machine.specs.Transfers.{Delays}

pub each_append : (Q : Stamped → Type 0) (a b : List Stamped) → Each Q a → Each Q b → Each Q (a ++ b)
each_append Q [] b h k = k
each_append Q (x ∷ a) b h k = (h.0, each_append Q a b h.1 k)

pub two_right : (P : Stamped → Stamped → Type 0) (xs a b : List Stamped) → EachTwo P xs a → EachTwo P xs b → EachTwo P xs (a ++ b)
two_right P [] a b h k = tt
two_right P (x ∷ xs) a b h k = (each_append (P x) a b h.0 k.0, two_right P xs a b h.1 k.1)

pub two_left : (P : Stamped → Stamped → Type 0) (a b ys : List Stamped) → EachTwo P a ys → EachTwo P b ys → EachTwo P (a ++ b) ys
two_left P [] b ys h k = k
two_left P (x ∷ a) b ys h k = (h.0, two_left P a b ys h.1 k)

pub two_none : (P : Stamped → Stamped → Type 0) (xs : List Stamped) → EachTwo P xs []
two_none P [] = tt
two_none P (x ∷ xs) = (tt, two_none P xs)

pub pairs_append : (P : Stamped → Stamped → Type 0) (a b : List Stamped) → Pairs P a → Pairs P b → EachTwo P a b → Pairs P (a ++ b)
pairs_append P [] b h k c = k
pairs_append P (x ∷ a) b h k c = (each_append (P x) a b h.0 c.0, pairs_append P a b h.1 k c.1)

-- what is moved by the same cycles keeps its order
pub order_later : (core : PlainCore) (n : ℕ) (xs : List Stamped) → Pairs (AreInOrder core) xs → Pairs (AreInOrder core) (later n xs)
order_later core n [] h = tt
order_later core n (x ∷ xs) h = (each xs h.0, order_later core n xs h.1)
  where
    each : (ys : List Stamped) → Each (AreInOrder core x) ys → Each (AreInOrder core (record x { cycle = n + x.cycle })) (later n ys)
    each [] k = tt
    each (y ∷ ys) k = (
      record {
        for_change = λ c e. let a : x.cycle < y.cycle = k.0.for_change (record { first = c.first; second = c.second; copy = c.copy; place = c.place }) e in omega arith;
        for_look = λ c e. let a : x.cycle ≤ y.cycle = k.0.for_look (record { first = c.first; second = c.second; copy = c.copy; place = c.place }) e in omega arith;
      },
      each ys k.1,
    )

module _ (core : PlainCore) (plan : PlainPlan) (delays : Delays) (slots : List Slot) (runs : List (List (Run Stamped))) (p : PlainNodePlan) (stages : PlainStages) (copies : Copies) (owned : List ℕ) (precede : RunsPrecede core plan delays slots runs p stages copies owned) where
  abbrev Order : Stamped → Stamped → Type 0
  Order s t = AreInOrder core s t

  abbrev placed : (g s : ℕ) → List Stamped → List Stamped
  placed g s es = later (starts slots (took_at runs) g s) es

  -- of two runs
  run_run : (k s l r : ℕ) → s < length slots → (es fs : List Stamped) → Each (λ e. e.cycle < took_at runs k s) es → EachTwo (λ e f. Conflicts core e f → Precedes slots k s l r) es fs → EachTwo Order (placed k s es) (placed l r fs)
  run_run k s l r q [] fs b h = tt
  run_run k s l r q (e ∷ es) fs b h = (each fs h.0, run_run k s l r q es fs b.1 h.1)
    where
      each : (fs : List Stamped) → Each (λ f. Conflicts core e f → Precedes slots k s l r) fs → Each (Order (record e { cycle = starts slots (took_at runs) k s + e.cycle })) (placed l r fs)
      each [] h = tt
      each (f ∷ fs) h = (
        record {
          for_change = λ c x. let a : starts slots (took_at runs) k s + took_at runs k s ≤ starts slots (took_at runs) l r =
              (beats_in_order slots (took_at runs)).after_run k s l r q (h.0 (record { first = c.first; second = c.second; copy = c.copy; place = c.place }, inl x)) in let d : e.cycle < took_at runs k s = b.0 in omega arith;
          for_look = λ c x. let a : starts slots (took_at runs) k s + took_at runs k s ≤ starts slots (took_at runs) l r =
              (beats_in_order slots (took_at runs)).after_run k s l r q (h.0 (record { first = c.first; second = c.second; copy = c.copy; place = c.place }, inr x)) in let d : e.cycle < took_at runs k s = b.0 in omega arith;
        },
        each fs h.1,
      )

  -- a fresh memory and a run
  fresh_run : (g m l r : ℕ) (fs : List Stamped) → Each (λ f. Clash core (fresh core plan delays slots runs p stages copies owned g m) f → fresh_beat core plan delays slots runs p stages copies owned g m ≤ l + (slot_at slots r).slot) fs
      → Each (Order (fresh core plan delays slots runs p stages copies owned g m)) (placed l r fs)
  fresh_run g m l r [] h = tt
  fresh_run g m l r (f ∷ fs) h = (record { for_change = λ c x. before c; for_look = λ c x. let a : first_cycle slots (took_at runs) (fresh_beat core plan delays slots runs p stages copies owned g m) < starts slots (took_at runs) l r + f.cycle = before c in omega arith }, fresh_run g m l r fs h.1)
    where
      before : Clash core (fresh core plan delays slots runs p stages copies owned g m) (record f { cycle = starts slots (took_at runs) l r + f.cycle }) → first_cycle slots (took_at runs) (fresh_beat core plan delays slots runs p stages copies owned g m) < starts slots (took_at runs) l r + f.cycle
      before c =
          let a : first_cycle slots (took_at runs) (fresh_beat core plan delays slots runs p stages copies owned g m) < starts slots (took_at runs) l r =
          (beats_in_order slots (took_at runs)).in_beat l r _ (h.0 (record { first = c.first; second = c.second; copy = c.copy; place = c.place })) in omega arith

  run_fresh : (k s g m : ℕ) → s < length slots → (es : List Stamped) → Each (λ e. e.cycle < took_at runs k s) es
      → Each (λ e. Clash core e (fresh core plan delays slots runs p stages copies owned g m) → k + (slot_at slots s).slot < fresh_beat core plan delays slots runs p stages copies owned g m) es
      → Each (λ e. Order e (fresh core plan delays slots runs p stages copies owned g m)) (placed k s es)
  run_fresh k s g m q [] b h = tt
  run_fresh k s g m q (e ∷ es) b h = (record { for_change = λ c x. before c; for_look = λ c x. let a : starts slots (took_at runs) k s + e.cycle < first_cycle slots (took_at runs) (fresh_beat core plan delays slots runs p stages copies owned g m) = before c in omega arith }, run_fresh k s g m q es b.1 h.1)
    where
      before : Clash core (record e { cycle = starts slots (took_at runs) k s + e.cycle }) (fresh core plan delays slots runs p stages copies owned g m) → starts slots (took_at runs) k s + e.cycle < first_cycle slots (took_at runs) (fresh_beat core plan delays slots runs p stages copies owned g m)
      before c =
          let a : starts slots (took_at runs) k s + took_at runs k s ≤ first_cycle slots (took_at runs) (fresh_beat core plan delays slots runs p stages copies owned g m) =
          (beats_in_order slots (took_at runs)).after_beat k s _ q (h.0 (record { first = c.first; second = c.second; copy = c.copy; place = c.place })) in let d : e.cycle < took_at runs k s = b.0 in omega arith

  beat_before : (a b : ℕ) → a < b → first_cycle slots (took_at runs) a < first_cycle slots (took_at runs) b
  beat_before a b l = let x : begins slots (took_at runs) (suc a) ≤ begins slots (took_at runs) b = total_mono _ (suc a) b l in omega arith

  abbrev fresh_at : (g m : ℕ) → Stamped
  fresh_at g m = fresh core plan delays slots runs p stages copies owned g m

  abbrev events_at : (g s : ℕ) → List Stamped
  events_at g s = (run_at runs g s).events

  abbrev stages_of : (g s : ℕ) → List (Run Stamped) → List Stamped
  stages_of g s row = stage_events core plan delays slots runs g s row

  abbrev freshes : (g : ℕ) → List ℕ → List Stamped
  freshes g ms = fresh_events core plan delays slots runs p stages (in_copies core plan delays owned g copies) g ms

  -- a row of the table from a stage on, and the table from a group on
  abbrev IsRow : (g s : ℕ) → List (Run Stamped) → Type 0
  IsRow g s row = (i : ℕ) → run_at runs g (s + i) ≡ slice_index_or row i no_time

  next_row : (g s : ℕ) (r : Run Stamped) (row : List (Run Stamped)) → IsRow g s (r ∷ row) → IsRow g (suc s) row
  next_row g s r row h i = ap (run_at runs g) (let e : suc s + i ≡ s + suc i = omega arith in e) ∙ h (suc i)

  head_row : (g s : ℕ) (r : Run Stamped) (row : List (Run Stamped)) → IsRow g s (r ∷ row) → run_at runs g s ≡ r
  head_row g s r row h = ap (run_at runs g) (let e : s ≡ s + 0 = omega arith in e) ∙ h 0

  module _ (within : (k s : ℕ) → Each (λ e. e.cycle < took_at runs k s) (events_at k s)) (ordered : (k s : ℕ) → Pairs Order (events_at k s)) where
    run_stages : (k s g t : ℕ) (row : List (Run Stamped)) → s < length slots → IsRow g t row → (k < g) ⊎ ((k ≡ g) × (s < t)) → EachTwo Order (placed k s (events_at k s)) (stages_of g t row)
    run_stages k s g t [] q h l = two_none Order (placed k s (events_at k s))
    run_stages k s g t (r ∷ row) q h l =
        two_right Order (placed k s (events_at k s)) (placed g t r.events) (stages_of g (suc t) row)
        (subst (λ (x : Run Stamped). EachTwo Order (placed k s (events_at k s)) (placed g t x.events)) (head_row g t r row h) (run_run k s g t q (events_at k s) (events_at g t) (within k s) (precede.in_turn k s g t l)))
        (run_stages k s g (suc t) row q (next_row g t r row h) (on l))
      where
        on : (k < g) ⊎ ((k ≡ g) × (s < t)) → (k < g) ⊎ ((k ≡ g) × (s < suc t))
        on (inl x) = inl x
        on (inr x) = inr (x.0, (let a : s < t = x.1 in omega arith))

    stages_stages : (g s h t : ℕ) (row others : List (Run Stamped)) → s + length row ≤ length slots → IsRow g s row → IsRow h t others → g < h → EachTwo Order (stages_of g s row) (stages_of h t others)
    stages_stages g s h t [] others q a b l = tt
    stages_stages g s h t (r ∷ row) others q a b l =
        two_left Order (placed g s r.events) (stages_of g (suc s) row) (stages_of h t others)
        (subst (λ (x : Run Stamped). EachTwo Order (placed g s x.events) (stages_of h t others)) (head_row g s r row a) (run_stages g s h t others (omega arith) b (inl l)))
        (stages_stages g (suc s) h t row others (omega arith) (next_row g s r row a) b l)

    row_pairs : (g s : ℕ) (row : List (Run Stamped)) → s + length row ≤ length slots → IsRow g s row → Pairs Order (stages_of g s row)
    row_pairs g s [] q h = tt
    row_pairs g s (r ∷ row) q h =
        pairs_append Order (placed g s r.events) (stages_of g (suc s) row)
        (subst (λ (x : Run Stamped). Pairs Order (placed g s x.events)) (head_row g s r row h) (order_later core (starts slots (took_at runs) g s) (events_at g s) (ordered g s)))
        (row_pairs g (suc s) row (omega arith) (next_row g s r row h))
        (subst (λ (x : Run Stamped). EachTwo Order (placed g s x.events) (stages_of g (suc s) row)) (head_row g s r row h) (run_stages g s g (suc s) row (omega arith) (next_row g s r row h) (inr (refl, omega arith))))

    -- memories that are made fresh
    abbrev AreOwned : List ℕ → Type 0
    AreOwned ms = (m : ℕ) → is_among m ms ≡ true → is_among m owned ≡ true

    head_owned : (m : ℕ) (ms : List ℕ) → AreOwned (m ∷ ms) → is_among m owned ≡ true
    head_owned m ms o = o m (ap (λ b. b || is_among m ms) (eq-eqb m m refl))

    tail_owned : (m : ℕ) (ms : List ℕ) → AreOwned (m ∷ ms) → AreOwned ms
    tail_owned m ms o n is = o n (or_right (n == m) (is_among n ms) is)

    fresh_stages : (g m h t : ℕ) (row : List (Run Stamped)) → is_among m owned ≡ true → g ≤ h → IsRow h t row → Each (Order (fresh_at g m)) (stages_of h t row)
    fresh_stages g m h t [] o l a = tt
    fresh_stages g m h t (r ∷ row) o l a =
        each_append (Order (fresh_at g m)) (placed h t r.events) (stages_of h (suc t) row)
        (subst (λ (x : Run Stamped). Each (Order (fresh_at g m)) (placed h t x.events)) (head_row h t r row a) (fresh_run g m h t (events_at h t) (precede.fresh_first g m h t o l)))
        (fresh_stages g m h (suc t) row o l (next_row h t r row a))

    freshes_stages : (g h t : ℕ) (ms : List ℕ) (row : List (Run Stamped)) → AreOwned ms → g ≤ h → IsRow h t row → EachTwo Order (freshes g ms) (stages_of h t row)
    freshes_stages g h t [] row o l a = tt
    freshes_stages g h t (m ∷ ms) row o l a = (fresh_stages g m h t row (head_owned m ms o) l a, freshes_stages g h t ms row (tail_owned m ms o) l a)

    stages_fresh : (g s h m : ℕ) (row : List (Run Stamped)) → is_among m owned ≡ true → h < length runs → s + length row ≤ length slots → IsRow g s row → g < h → Each (λ e. Order e (fresh_at h m)) (stages_of g s row)
    stages_fresh g s h m [] o i q a l = tt
    stages_fresh g s h m (r ∷ row) o i q a l =
        each_append (λ e. Order e (fresh_at h m)) (placed g s r.events) (stages_of g (suc s) row)
        (subst (λ (x : Run Stamped). Each (λ e. Order e (fresh_at h m)) (placed g s x.events)) (head_row g s r row a) (run_fresh g s h m (omega arith) (events_at g s) (within g s) (precede.fresh_after g s h m o l i)))
        (stages_fresh g (suc s) h m row o i (omega arith) (next_row g s r row a) l)

    two_cons : (xs : List Stamped) (y : Stamped) (ys : List Stamped) → Each (λ x. Order x y) xs → EachTwo Order xs ys → EachTwo Order xs (y ∷ ys)
    two_cons [] y ys h k = tt
    two_cons (x ∷ xs) y ys h k = ((h.0, k.0), two_cons xs y ys h.1 k.1)

    stages_freshes : (g s h : ℕ) (row : List (Run Stamped)) (ms : List ℕ) → AreOwned ms → h < length runs → s + length row ≤ length slots → IsRow g s row → g < h → EachTwo Order (stages_of g s row) (freshes h ms)
    stages_freshes g s h row [] o i q a l = two_none Order (stages_of g s row)
    stages_freshes g s h row (m ∷ ms) o i q a l =
        two_cons (stages_of g s row) (fresh_at h m) (freshes h ms) (stages_fresh g s h m row (head_owned m ms o) i q a l) (stages_freshes g s h row ms (tail_owned m ms o) i q a l)

    fresh_freshes : (g m h : ℕ) (ns : List ℕ) → g < h → Each (Order (fresh_at g m)) (freshes h ns)
    fresh_freshes g m h [] l = tt
    fresh_freshes g m h (n ∷ ns) l = (
      record {
        for_change = λ c x. beat_before _ _ (precede.fresh_apart g m h n l c);
        for_look = λ c x. let a : (fresh_at g m).cycle < (fresh_at h n).cycle = beat_before _ _ (precede.fresh_apart g m h n l c) in omega arith;
      },
      fresh_freshes g m h ns l,
    )

    freshes_freshes : (g h : ℕ) (ms ns : List ℕ) → g < h → EachTwo Order (freshes g ms) (freshes h ns)
    freshes_freshes g h [] ns l = tt
    freshes_freshes g h (m ∷ ms) ns l = (fresh_freshes g m h ns l, freshes_freshes g h ms ns l)

    freshes_alone : (g : ℕ) (ms : List ℕ) → Pairs (λ m n. Clash core (fresh_at g m) (fresh_at g n) → fresh_beat core plan delays slots runs p stages copies owned g m < fresh_beat core plan delays slots runs p stages copies owned g n) ms → Pairs Order (freshes g ms)
    freshes_alone g [] h = tt
    freshes_alone g (m ∷ ms) h = (each ms h.0, freshes_alone g ms h.1)
      where
        each : (ns : List ℕ) → Each (λ n. Clash core (fresh_at g m) (fresh_at g n) → fresh_beat core plan delays slots runs p stages copies owned g m < fresh_beat core plan delays slots runs p stages copies owned g n) ns → Each (Order (fresh_at g m)) (freshes g ns)
        each [] k = tt
        each (n ∷ ns) k = (
          record {
            for_change = λ c x. beat_before _ _ (k.0 c);
            for_look = λ c x. let a : (fresh_at g m).cycle < (fresh_at g n).cycle = beat_before _ _ (k.0 c) in omega arith;
          },
          each ns k.1,
        )

    -- groups
    abbrev groups_of : (g : ℕ) → List (List (Run Stamped)) → List Stamped
    groups_of g rows = group_events core plan delays slots runs p stages copies owned g rows

    abbrev IsTable : (g : ℕ) → List (List (Run Stamped)) → Type 0
    IsTable g rows = ((i : ℕ) → slice_index_or runs (g + i) [] ≡ slice_index_or rows i []) × Each (λ row. length row ≤ length slots) rows × (g + length rows ≡ length runs)

    row_is : (g : ℕ) (row : List (Run Stamped)) (rows : List (List (Run Stamped))) → IsTable g (row ∷ rows) → IsRow g 0 row
    row_is g row rows h i =
        ap (run_at runs g) (let e : 0 + i ≡ i = omega arith in e) ∙ ap (λ x. slice_index_or x i no_time) (ap (λ j. slice_index_or runs j []) (let e : g ≡ g + 0 = omega arith in e) ∙ h.0 0)

    next_table : (g : ℕ) (row : List (Run Stamped)) (rows : List (List (Run Stamped))) → IsTable g (row ∷ rows) → IsTable (suc g) rows
    next_table g row rows h = ((λ i. ap (λ j. slice_index_or runs j []) (let e : suc g + i ≡ g + suc i = omega arith in e) ∙ h.0 (suc i)), h.1.1, (let e : g + suc (length rows) ≡ length runs = h.2 in omega arith))

    freshes_groups : (g h : ℕ) (ms : List ℕ) (rows : List (List (Run Stamped))) → AreOwned ms → IsTable h rows → g < h → EachTwo Order (freshes g ms) (groups_of h rows)
    freshes_groups g h ms [] o t l = two_none Order (freshes g ms)
    freshes_groups g h ms (row ∷ rows) o t l =
        two_right Order (freshes g ms) (freshes h owned ++ stages_of h 0 row) (groups_of (suc h) rows)
        (two_right Order (freshes g ms) (freshes h owned) (stages_of h 0 row) (freshes_freshes g h ms owned l) (freshes_stages g h 0 ms row o (omega arith) (row_is h row rows t)))
        (freshes_groups g (suc h) ms rows o (next_table h row rows t) (omega arith))

    stages_groups : (g h : ℕ) (row : List (Run Stamped)) (rows : List (List (Run Stamped))) → length row ≤ length slots → IsRow g 0 row → IsTable h rows → g < h → EachTwo Order (stages_of g 0 row) (groups_of h rows)
    stages_groups g h row [] q a t l = two_none Order (stages_of g 0 row)
    stages_groups g h row (other ∷ rows) q a t l =
        two_right Order (stages_of g 0 row) (freshes h owned ++ stages_of h 0 other) (groups_of (suc h) rows)
        (two_right Order (stages_of g 0 row) (freshes h owned) (stages_of h 0 other) (stages_freshes g 0 h row owned (λ m is. is) (let e : h + suc (length rows) ≡ length runs = t.2 in omega arith) (omega arith) a l) (stages_stages g 0 h 0 row other (omega arith) a (row_is h other rows t) l))
        (stages_groups g (suc h) row rows q a (next_table h other rows t) (omega arith))

    groups_pairs : (g : ℕ) (rows : List (List (Run Stamped))) → IsTable g rows → Pairs Order (groups_of g rows)
    groups_pairs g [] t = tt
    groups_pairs g (row ∷ rows) t =
        let a : IsRow g 0 row = row_is g row rows t in
        let q : length row ≤ length slots = t.1.0 in
        pairs_append Order (freshes g owned ++ stages_of g 0 row) (groups_of (suc g) rows)
        (pairs_append Order (freshes g owned) (stages_of g 0 row) (freshes_alone g owned (precede.fresh_alone g)) (row_pairs g 0 row (omega arith) a) (freshes_stages g g 0 owned row (λ m is. is) (omega arith) a))
        (groups_pairs (suc g) rows (next_table g row rows t))
        (two_left Order (freshes g owned) (stages_of g 0 row) (groups_of (suc g) rows)
        (freshes_groups g (suc g) owned rows (λ m is. is) (next_table g row rows t) (omega arith)) (stages_groups g (suc g) row rows q a (next_table g row rows t) (omega arith)))

-- a run of the table, by its place
module _ (core : PlainCore) (n : ℕ) where
  abbrev RowRight : List (Run Stamped) → Type 0
  RowRight row = Each (λ r. Each (λ e. e.cycle < r.took) r.events × Pairs (AreInOrder core) r.events) row

  abbrev TableRight : List (List (Run Stamped)) → Type 0
  TableRight runs = Each (λ row. (length row ≤ n) × RowRight row) runs

  row_at : (row : List (Run Stamped)) → RowRight row → (s : ℕ) → Each (λ e. e.cycle < (slice_index_or row s no_time).took) (slice_index_or row s no_time).events × Pairs (AreInOrder core) (slice_index_or row s no_time).events
  row_at [] h s = (tt, tt)
  row_at (r ∷ row) h zero = h.0
  row_at (r ∷ row) h (suc s) = row_at row h.1 s

  table_at : (runs : List (List (Run Stamped))) → TableRight runs → (g s : ℕ) → Each (λ e. e.cycle < took_at runs g s) (run_at runs g s).events × Pairs (AreInOrder core) (run_at runs g s).events
  table_at [] h g s = (tt, tt)
  table_at (row ∷ rows) h zero s = row_at row h.0.1 s
  table_at (row ∷ rows) h (suc g) s = table_at rows h.1 g s

  few : (runs : List (List (Run Stamped))) → TableRight runs → Each (λ row. length row ≤ n) runs
  few [] h = tt
  few (row ∷ rows) h = (h.0.0, few rows h.1)

pub outers_in_order : (core : PlainCore) (plan : PlainPlan) (delays : Delays) → OutersInOrder core plan delays
outers_in_order core plan delays slots runs p stages copies owned right precede =
    groups_pairs core plan delays slots runs p stages copies owned precede
    (λ k s. (table_at core (length slots) runs right k s).0) (λ k s. (table_at core (length slots) runs right k s).1) 0 runs
    ((λ i. ap (λ j. slice_index_or runs j []) (let e : 0 + i ≡ i = omega arith in e)), few core (length slots) runs right, (let e : 0 + length runs ≡ length runs = omega arith in e))
