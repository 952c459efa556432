-- The runs of a stage of a loop: each is that of a group, in the cycles of the group and with its copies.
use Rattle.std.proofs.Common.{◌≡◌, ℕ, suc, ◌+◌, ◌<◌, ◌⊎◌, inl, inr, ℤ, List, [], ◌∷◌, length, slice_index_or, Option, Some, None, refl, sym, ap, ◌∙◌, arith}
use Rattle.std.specs.List.{Contains}
use Rattle.std.proofs.lemmas.List.Elements.{Contains-append_cases}
use Rattle.sp_core.specs.Events.{inside_at, in_group_of}
use Rattle.sp_core.specs.History.{History, Groups, outer_ran, no_group, more_group}
use Rattle.sp_core.specs.Numbering.{counters_size}
use Rattle.sp_core.specs.PlainCore.{PlainCounter, PlainStages, PlainCore}
use Rattle.sp_core.specs.Scope.{Loop, in_lanes, loops_of, group_values, in_group}
use Rattle.sp_plan.specs.PlainPlan.{PlainPlan, node_plan}
use Rattle.sp_time.specs.Beats.{Run, no_time, took_at, starts}
use Rattle.sp_machine.specs.Stamps.{Stamped}
use Rattle.sp_machine.specs.Timeline.{slots_of, in_copies, timed, group_runs, stage_runs as row_runs}
use Rattle.sp_machine.specs.Transfers.{Delays}
use Rattle.sp_node_runs.specs.Runs.{Placed, stage_at, node_at, number_at, stage_history, told, table, stage_of}
use Rattle.sp_node_runs.proofs.RunsStages.{in_row}
use Rattle.sp_node_runs.specs.ControlBeating.{values_of, groups_of}
use Rattle.sp_node_runs.proofs.BodiesListed.{none_there, first_or_later, joined_from}
use Rattle.sp_tree_runs.specs.BodiesScoped.{Scoped, with_scope, scoped_groups, scoped_stage_in, scoped_stages}

module _ (core : PlainCore) (plan : PlainPlan) (delays : Delays) (k n : ℕ) (counters : List PlainCounter) (owned : List ℕ) (stages : PlainStages) (s : ℕ) where
  abbrev pub rows_in : Placed → History → List (List (Run Stamped))
  rows_in r h = table core plan delays counters owned stages k n 0 r (values_of counters h) (groups_of h)

  abbrev lasts : Placed → ℕ
  lasts r = (told core plan delays (stage_at stages s) (node_at stages (suc k) s) (number_at stages (n + counters_size counters) s) r).took

  pub record InGroupRun (q : Scoped) (h : History) (x : Scoped) : Type 0 where
    pub group : ℕ
    pub below : group < length (rows_in q.run h)
    pub cycle : x.run.cycle ≡ q.run.cycle + starts (slots_of (node_plan plan k)) (took_at (rows_in q.run h)) group s
    pub took : lasts x.run ≡ took_at (rows_in q.run h) group s
    pub copies : x.run.copies ≡ in_copies core plan delays owned group q.run.copies

  -- from a group on
  record FromGroup (q : Scoped) (begins : ℕ → ℕ) (loops : List Loop) (g : ℕ) (values : List (List ℤ)) (rows : List (List (Run Stamped))) (x : Scoped) : Type 0 where
    at : ℕ
    below : at < length rows
    cycle : x.run.cycle ≡ q.run.cycle + begins (g + at)
    took : lasts x.run ≡ took_at rows at s
    copies : x.run.copies ≡ in_copies core plan delays owned (g + at) q.run.copies

  from_group : (q : Scoped) (begins : ℕ → ℕ) (loops : List Loop) (g : ℕ) (values : List (List ℤ)) (groups : Groups) (x : Scoped) → Contains (scoped_groups core plan delays counters owned stages k n s q begins loops g values groups) x
      → FromGroup q begins loops g values (group_runs core plan delays stages k (n + counters_size counters) g q.run.standing owned q.run.copies values groups) x
  unfolding group_runs
  from_group q begins loops g [] groups x c = absurd (none_there x c)
  from_group q begins loops g (v ∷ values) no_group x c = absurd (none_there x c)
  from_group q begins loops g (v ∷ values) (more_group hs rest) x c =
      by (Contains-append_cases (with_scope (in_group q.scope loops v) (stage_of core plan delays counters owned stages k n s q.run (begins g) g v (stage_history stages hs s))) (scoped_groups core plan delays counters owned stages k n s q begins loops (suc g) values rest) x c)
      (from_group q begins loops (suc g) values rest x)
    where
      here_row : List (Run Stamped)
      here_row = row_runs core plan delays stages k (n + counters_size counters) 0 g (suc k) v q.run.standing (in_copies core plan delays owned g q.run.copies) hs

      first : (o : Option History) → stage_history stages hs s ≡ o → Contains (with_scope (in_group q.scope loops v) (stage_of core plan delays counters owned stages k n s q.run (begins g) g v o)) x
          → (x.run.cycle ≡ q.run.cycle + begins g) × (lasts x.run ≡ (slice_index_or (row_runs core plan delays stages k (n + counters_size counters) 0 g (suc k) v q.run.standing (in_copies core plan delays owned g q.run.copies) hs) s no_time).took) × (x.run.copies ≡ in_copies core plan delays owned g q.run.copies)
      first None e d = absurd (none_there x d)
      first (Some h) e d = settle (first_or_later _ x [] d)
        where
          settle : (record { run = record { cycle = q.run.cycle + begins g; standing = inside_at q.run.standing k (in_group_of g s) v; copies = in_copies core plan delays owned g q.run.copies; history = h }; scope = in_group q.scope loops v } ≡ x) ⊎ Contains {X = Scoped} [] x
              → (x.run.cycle ≡ q.run.cycle + begins g) × (lasts x.run ≡ (slice_index_or (row_runs core plan delays stages k (n + counters_size counters) 0 g (suc k) v q.run.standing (in_copies core plan delays owned g q.run.copies) hs) s no_time).took) × (x.run.copies ≡ in_copies core plan delays owned g q.run.copies)
          settle (inr z) = absurd (none_there x z)
          settle (inl same) =
              let t = ap (λ (y : Run Stamped). y.took) (in_row core plan delays stages k (n + counters_size counters) 0 g (suc k) v q.run.standing (in_copies core plan delays owned g q.run.copies) hs s h e)
              ∙ ap (λ m. (timed core plan delays (stage_at stages s) (node_at stages (suc k) s) (number_at stages (n + counters_size counters) s) (inside_at q.run.standing k (in_group_of g m) v) (in_copies core plan delays owned g q.run.copies) h).took) {x = 0 + s} {y = s} (omega arith) in
              (sym (ap (λ (y : Scoped). y.run.cycle) same), sym (ap (λ (y : Scoped). lasts y.run) same) ∙ sym t, sym (ap (λ (y : Scoped). y.run.copies) same))

      by : Contains (with_scope (in_group q.scope loops v) (stage_of core plan delays counters owned stages k n s q.run (begins g) g v (stage_history stages hs s))) x ⊎ Contains (scoped_groups core plan delays counters owned stages k n s q begins loops (suc g) values rest) x
          → (Contains (scoped_groups core plan delays counters owned stages k n s q begins loops (suc g) values rest) x
          → FromGroup q begins loops (suc g) values (group_runs core plan delays stages k (n + counters_size counters) (suc g) q.run.standing owned q.run.copies values rest) x)
          → FromGroup q begins loops g (v ∷ values) (here_row ∷ group_runs core plan delays stages k (n + counters_size counters) (suc g) q.run.standing owned q.run.copies values rest) x
      by (inl d) others =
          let f = first (stage_history stages hs s) refl d in
          record { at = 0; below = omega arith; cycle = f.0 ∙ ap (λ m. q.run.cycle + begins m) {x = g} {y = g + 0} (omega arith); took = f.1; copies = f.2 ∙ ap (λ m. in_copies core plan delays owned m q.run.copies) {x = g} {y = g + 0} (omega arith) }
      by (inr d) others =
          let o = others d in
          record { at = suc o.at; below = (let b = o.below in omega (arith, b)); cycle = o.cycle ∙ ap (λ m. q.run.cycle + begins m) {x = suc g + o.at} {y = g + suc o.at} (omega arith); took = o.took; copies = o.copies ∙ ap (λ m. in_copies core plan delays owned m q.run.copies) {x = suc g + o.at} {y = g + suc o.at} (omega arith) }

  in_group_run : (q : Scoped) (h : History) (x : Scoped) → Contains (scoped_stage_in core plan delays counters owned stages k n s q h) x → InGroupRun q h x
  in_group_run q (outer_ran bs counts groups) x c =
      let f = from_group q (λ g. starts (slots_of (node_plan plan k)) (took_at (table core plan delays counters owned stages k n s q.run (group_values (loops_of in_lanes counters bs)) groups)) g s) (loops_of in_lanes counters bs) 0 (group_values (loops_of in_lanes counters bs)) groups x c in
      record {
        group = f.at;
        below = f.below;
        cycle = f.cycle ∙ ap (λ m. q.run.cycle + starts (slots_of (node_plan plan k)) (took_at (table core plan delays counters owned stages k n s q.run (group_values (loops_of in_lanes counters bs)) groups)) m s) {x = 0 + f.at} {y = f.at} (omega arith);
        took = f.took;
        copies = f.copies ∙ ap (λ m. in_copies core plan delays owned m q.run.copies) {x = 0 + f.at} {y = f.at} (omega arith);
      }
  in_group_run q h x c = absurd (none_there x c)

  -- the run of a stage and that of the loop
  pub record OfRun (qs : List Scoped) (x : Scoped) : Type 0 where
    pub run : Scoped
    pub there : Contains qs run
    pub group_run : InGroupRun run run.run.history x

  pub of_run : (qs : List Scoped) (x : Scoped) → Contains (scoped_stages core plan delays counters owned stages k n s qs) x → OfRun qs x
  of_run qs x c =
      let y = joined_from (λ (q : Scoped). scoped_stage_in core plan delays counters owned stages k n s q q.run.history) qs x c in
      record { run = y.0; there = y.1; group_run = in_group_run y.0 y.0.run.history x y.2 }
