-- Nothing of an outer body's groups uses a port twice, where runs that use one come one after the other.
use Rattle.std.proofs.Common.{◌≡◌, ℕ, zero, suc, ◌+◌, ◌<◌, ◌≤◌, ◌⊎◌, inl, inr, List, [], ◌∷◌, ◌++◌, length, arith, refl, subst, ap, ◌∙◌}
use Rattle.std.specs.Prelude.{slice_index_or}
use Rattle.sp_core.specs.Forms.{PlainForms}
use Rattle.sp_core.specs.PlainCore.{PlainStages, PlainCore}
use Rattle.sp_plan.specs.PlainPlan.{PlainNodePlan, PlainPlan}
use Rattle.sp_time.specs.Beats.{Slot, Run, no_time, run_at, took_at, starts}
use Rattle.sp_time.specs.Lists.{Each, Pairs}
use Rattle.sp_time.specs.Orders.{Sooner, Precedes}
use Rattle.sp_time.proofs.Whole.{beats_in_order}
use Rattle.sp_machine.specs.InOrder.{EachTwo}
use Rattle.sp_machine.specs.Stamps.{Stamped, Copies, later, ◌▸◌}
use Rattle.sp_machine.specs.Timeline.{in_copies, stage_events, fresh_events, group_events}
use Rattle.sp_machine.specs.Transfers.{Delays}
use Rattle.sp_machine.proofs.OuterOrder.{two_right, two_left, two_none, pairs_append}
use Rattle.sp_core_ports.specs.UsedLaws.{PartsUseNoPortTwice, TakeTurns, OutersUseNoPortTwice}
use Rattle.sp_core_ports.specs.UsedPorts.{AreAtPort, UseNoPortTwice}
use Rattle.sp_core_ports.proofs.UsedAtPort.{IsFree, in_turn, free_before, free_two, free_pairs}

module _ (core : PlainCore) (plan : PlainPlan) (delays : Delays) (forms : PlainForms) where
  abbrev Twice : Stamped → Stamped → Type 0
  Twice s t = UseNoPortTwice core plan forms s t

  -- what is moved by the same cycles
  pub twice_later : (n : ℕ) (xs : List Stamped) → Pairs Twice xs → Pairs Twice (later n xs)
  twice_later n [] h = tt
  twice_later n (x ∷ xs) h = (each xs h.0, twice_later n xs h.1)
    where
      each : (ys : List Stamped) → Each (Twice x) ys → Each (Twice (record x { cycle = n + x.cycle })) (later n ys)
      each [] k = tt
      each (y ∷ ys) k = ((λ u. k.0 ((let e : n + x.cycle ≡ n + y.cycle = u.0 in omega arith), record { port = u.1.port; first = u.1.first; second = u.1.second })), each ys k.1)

  -- one part after another
  before_from : (n : ℕ) (xs ys : List Stamped) → Each (λ e. e.cycle < n) xs → EachTwo Twice xs (later n ys)
  before_from n [] ys b = tt
  before_from n (x ∷ xs) ys b = (each ys, before_from n xs ys b.1)
    where
      each : (ys : List Stamped) → Each (Twice x) (later n ys)
      each [] = tt
      each (y ∷ ys) = (in_turn core plan forms x (record y { cycle = n + y.cycle }) (let a : x.cycle < n = b.0 in omega arith), each ys)

  pub parts_twice : (a b : Run Stamped) → Each (λ e. e.cycle < a.took) a.events → Pairs Twice a.events → Pairs Twice b.events → Pairs Twice (a ▸ b).events
  parts_twice a b w p q = pairs_append Twice a.events (later a.took b.events) p (twice_later a.took b.events q) (before_from a.took a.events b.events w)

  module _ (slots : List Slot) (runs : List (List (Run Stamped))) (p : PlainNodePlan) (stages : PlainStages) (copies : Copies) (owned : List ℕ) (turns : TakeTurns core plan delays slots runs) where
    abbrev placed : (g s : ℕ) → List Stamped → List Stamped
    placed g s es = later (starts slots (took_at runs) g s) es

    abbrev events_at : (g s : ℕ) → List Stamped
    events_at g s = (run_at runs g s).events

    abbrev stages_of : (g s : ℕ) → List (Run Stamped) → List Stamped
    stages_of g s row = stage_events core plan delays slots runs g s row

    abbrev freshes : (g : ℕ) → List ℕ → List Stamped
    freshes g ms = fresh_events core plan delays slots runs p stages (in_copies core plan delays owned g copies) g ms

    -- of two runs
    run_run : (k s l r : ℕ) → s < length slots → (es fs : List Stamped) → Each (λ e. e.cycle < took_at runs k s) es → EachTwo (λ e f. AreAtPort core plan e f → Precedes slots k s l r) es fs → EachTwo Twice (placed k s es) (placed l r fs)
    run_run k s l r q [] fs b h = tt
    run_run k s l r q (e ∷ es) fs b h = (each fs h.0, run_run k s l r q es fs b.1 h.1)
      where
        each : (fs : List Stamped) → Each (λ f. AreAtPort core plan e f → Precedes slots k s l r) fs → Each (Twice (record e { cycle = starts slots (took_at runs) k s + e.cycle })) (placed l r fs)
        each [] h = tt
        each (f ∷ fs) h = (
          (λ u.
              let before : Precedes slots k s l r = h.0 (record { port = u.1.port; first = u.1.first; second = u.1.second }) in
              let a : starts slots (took_at runs) k s + took_at runs k s ≤ starts slots (took_at runs) l r = (beats_in_order slots (took_at runs)).after_run k s l r q before in
              let d : e.cycle < took_at runs k s = b.0 in
              let same : starts slots (took_at runs) k s + e.cycle ≡ starts slots (took_at runs) l r + f.cycle = u.0 in
              absurd (omega arith)),
          each fs h.1,
        )

    -- a row of the table from a stage on, and the table from a group on
    abbrev IsRow : (g s : ℕ) → List (Run Stamped) → Type 0
    IsRow g s row = (i : ℕ) → run_at runs g (s + i) ≡ slice_index_or row i no_time

    next_row : (g s : ℕ) (r : Run Stamped) (row : List (Run Stamped)) → IsRow g s (r ∷ row) → IsRow g (suc s) row
    next_row g s r row h i = ap (run_at runs g) (let e : suc s + i ≡ s + suc i = omega arith in e) ∙ h (suc i)

    head_row : (g s : ℕ) (r : Run Stamped) (row : List (Run Stamped)) → IsRow g s (r ∷ row) → run_at runs g s ≡ r
    head_row g s r row h = ap (run_at runs g) (let e : s ≡ s + 0 = omega arith in e) ∙ h 0

    -- memories that are made fresh use no port
    freshes_free : (g : ℕ) (ms : List ℕ) → Each (IsFree core plan) (freshes g ms)
    freshes_free g [] = tt
    freshes_free g (m ∷ ms) = (refl, freshes_free g ms)

    module _ (within : (k s : ℕ) → Each (λ e. e.cycle < took_at runs k s) (events_at k s)) (alone : (k s : ℕ) → Pairs Twice (events_at k s)) where
      run_stages : (k s g t : ℕ) (row : List (Run Stamped)) → s < length slots → IsRow g t row → Sooner k s g t → EachTwo Twice (placed k s (events_at k s)) (stages_of g t row)
      run_stages k s g t [] q h l = two_none Twice (placed k s (events_at k s))
      run_stages k s g t (r ∷ row) q h l =
          two_right Twice (placed k s (events_at k s)) (placed g t r.events) (stages_of g (suc t) row)
          (subst (λ (x : Run Stamped). EachTwo Twice (placed k s (events_at k s)) (placed g t x.events)) (head_row g t r row h) (run_run k s g t q (events_at k s) (events_at g t) (within k s) (turns k s g t l)))
          (run_stages k s g (suc t) row q (next_row g t r row h) (on l))
        where
          on : (k < g) ⊎ ((k ≡ g) × (s < t)) → (k < g) ⊎ ((k ≡ g) × (s < suc t))
          on (inl x) = inl x
          on (inr x) = inr (x.0, (let a : s < t = x.1 in omega arith))

      stages_stages : (g s h t : ℕ) (row others : List (Run Stamped)) → s + length row ≤ length slots → IsRow g s row → IsRow h t others → g < h → EachTwo Twice (stages_of g s row) (stages_of h t others)
      stages_stages g s h t [] others q a b l = tt
      stages_stages g s h t (r ∷ row) others q a b l =
          two_left Twice (placed g s r.events) (stages_of g (suc s) row) (stages_of h t others)
          (subst (λ (x : Run Stamped). EachTwo Twice (placed g s x.events) (stages_of h t others)) (head_row g s r row a) (run_stages g s h t others (omega arith) b (inl l)))
          (stages_stages g (suc s) h t row others (omega arith) (next_row g s r row a) b l)

      row_pairs : (g s : ℕ) (row : List (Run Stamped)) → s + length row ≤ length slots → IsRow g s row → Pairs Twice (stages_of g s row)
      row_pairs g s [] q h = tt
      row_pairs g s (r ∷ row) q h =
          pairs_append Twice (placed g s r.events) (stages_of g (suc s) row)
          (subst (λ (x : Run Stamped). Pairs Twice (placed g s x.events)) (head_row g s r row h) (twice_later (starts slots (took_at runs) g s) (events_at g s) (alone g s)))
          (row_pairs g (suc s) row (omega arith) (next_row g s r row h))
          (subst (λ (x : Run Stamped). EachTwo Twice (placed g s x.events) (stages_of g (suc s) row)) (head_row g s r row h) (run_stages g s g (suc s) row (omega arith) (next_row g s r row h) (inr (refl, omega arith))))

      -- groups
      abbrev groups_of : (g : ℕ) → List (List (Run Stamped)) → List Stamped
      groups_of g rows = group_events core plan delays slots runs p stages copies owned g rows

      abbrev IsTable : (g : ℕ) → List (List (Run Stamped)) → Type 0
      IsTable g rows = ((i : ℕ) → slice_index_or runs (g + i) [] ≡ slice_index_or rows i []) × Each (λ row. length row ≤ length slots) rows

      row_is : (g : ℕ) (row : List (Run Stamped)) (rows : List (List (Run Stamped))) → IsTable g (row ∷ rows) → IsRow g 0 row
      row_is g row rows h i =
          ap (run_at runs g) (let e : 0 + i ≡ i = omega arith in e) ∙ ap (λ x. slice_index_or x i no_time) (ap (λ j. slice_index_or runs j []) (let e : g ≡ g + 0 = omega arith in e) ∙ h.0 0)

      next_table : (g : ℕ) (row : List (Run Stamped)) (rows : List (List (Run Stamped))) → IsTable g (row ∷ rows) → IsTable (suc g) rows
      next_table g row rows h = ((λ i. ap (λ j. slice_index_or runs j []) (let e : suc g + i ≡ g + suc i = omega arith in e) ∙ h.0 (suc i)), h.1.1)

      stages_groups : (g h : ℕ) (row : List (Run Stamped)) (rows : List (List (Run Stamped))) → length row ≤ length slots → IsRow g 0 row → IsTable h rows → g < h → EachTwo Twice (stages_of g 0 row) (groups_of h rows)
      stages_groups g h row [] q a t l = two_none Twice (stages_of g 0 row)
      stages_groups g h row (other ∷ rows) q a t l =
          two_right Twice (stages_of g 0 row) (freshes h owned ++ stages_of h 0 other) (groups_of (suc h) rows)
          (two_right Twice (stages_of g 0 row) (freshes h owned) (stages_of h 0 other) (free_before core plan forms (stages_of g 0 row) (freshes h owned) (freshes_free h owned)) (stages_stages g 0 h 0 row other (omega arith) a (row_is h other rows t) l))
          (stages_groups g (suc h) row rows q a (next_table h other rows t) (omega arith))

      groups_pairs : (g : ℕ) (rows : List (List (Run Stamped))) → IsTable g rows → Pairs Twice (groups_of g rows)
      groups_pairs g [] t = tt
      groups_pairs g (row ∷ rows) t =
          let a : IsRow g 0 row = row_is g row rows t in
          let q : length row ≤ length slots = t.1.0 in
          pairs_append Twice (freshes g owned ++ stages_of g 0 row) (groups_of (suc g) rows)
          (pairs_append Twice (freshes g owned) (stages_of g 0 row) (free_pairs core plan forms (freshes g owned) (freshes_free g owned)) (row_pairs g 0 row (omega arith) a) (free_two core plan forms (freshes g owned) (stages_of g 0 row) (freshes_free g owned)))
          (groups_pairs (suc g) rows (next_table g row rows t))
          (two_left Twice (freshes g owned) (stages_of g 0 row) (groups_of (suc g) rows)
          (free_two core plan forms (freshes g owned) (groups_of (suc g) rows) (freshes_free g owned)) (stages_groups g (suc g) row rows q a (next_table g row rows t) (omega arith)))

  -- a run of the table, by its place
  module _ (n : ℕ) where
    abbrev RowAlone : List (Run Stamped) → Type 0
    RowAlone row = Each (λ r. Each (λ e. e.cycle < r.took) r.events × Pairs Twice r.events) row

    abbrev TableAlone : List (List (Run Stamped)) → Type 0
    TableAlone runs = Each (λ row. (length row ≤ n) × RowAlone row) runs

    row_at : (row : List (Run Stamped)) → RowAlone row → (s : ℕ) → Each (λ e. e.cycle < (slice_index_or row s no_time).took) (slice_index_or row s no_time).events × Pairs Twice (slice_index_or row s no_time).events
    row_at [] h s = (tt, tt)
    row_at (r ∷ row) h zero = h.0
    row_at (r ∷ row) h (suc s) = row_at row h.1 s

    table_at : (runs : List (List (Run Stamped))) → TableAlone runs → (g s : ℕ) → Each (λ e. e.cycle < took_at runs g s) (run_at runs g s).events × Pairs Twice (run_at runs g s).events
    table_at [] h g s = (tt, tt)
    table_at (row ∷ rows) h zero s = row_at row h.0.1 s
    table_at (row ∷ rows) h (suc g) s = table_at rows h.1 g s

    few : (runs : List (List (Run Stamped))) → TableAlone runs → Each (λ row. length row ≤ n) runs
    few [] h = tt
    few (row ∷ rows) h = (h.0.0, few rows h.1)

pub parts_use_none : (core : PlainCore) (plan : PlainPlan) (delays : Delays) → PartsUseNoPortTwice core plan delays
parts_use_none core plan delays forms a b w p q = parts_twice core plan delays forms a b w p q

pub outers_use_none : (core : PlainCore) (plan : PlainPlan) (delays : Delays) → OutersUseNoPortTwice core plan delays
outers_use_none core plan delays forms slots runs p stages copies owned right turns =
    groups_pairs core plan delays forms slots runs p stages copies owned turns
    (λ k s. (table_at core plan delays forms (length slots) runs right k s).0) (λ k s. (table_at core plan delays forms (length slots) runs right k s).1) 0 runs
    ((λ i. ap (λ j. slice_index_or runs j []) (let e : 0 + i ≡ i = omega arith in e)), few core plan delays forms (length slots) runs right)
