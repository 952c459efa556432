-- What happens in the parts of a run stands in the meets where what happens in the run does.
use Rattle.std.proofs.Common.{◌≡◌, ℕ, suc, true, List, [], ◌∷◌, ◌++◌, refl}
use Rattle.std.proofs.lemmas.Bool.{and_from}
use Rattle.std.specs.List.{list_all}
use Rattle.sp_core.specs.declared.access.Meet.{Meet}
use Rattle.sp_core.specs.Events.{Event, Moment, touches, slices, renews, keeps, events_of}
use Rattle.sp_core.specs.Meeting.{is_met, are_met}
use Rattle.sp_core.specs.PlainCore.{PlainStages, PlainCore}
use Rattle.sp_plan.specs.PlainPlan.{PlainNodePlan, PlainPlan}
use Rattle.sp_time.specs.Beats.{Slot, Run, took_at, starts}
use Rattle.sp_time.specs.Lists.{Each, Pairs}
use Rattle.sp_machine.specs.Laws.{told}
use Rattle.sp_machine.specs.Stamps.{Stamped, Copies, later, ◌▸◌}
use Rattle.sp_machine.specs.Timeline.{fresh_events, stage_events, group_events, in_copies}
use Rattle.sp_machine.specs.Transfers.{Delays}
use Rattle.sp_machine.proofs.InnerOrder.{MomentsMet, AreMet}
use Rattle.sp_overlap.proofs.Compared.{pairs_split}

module _ (core : PlainCore) (meets : List Meet) (plan : PlainPlan) (delays : Delays) where
  abbrev pub Met : Stamped → Stamped → Type 0
  Met s t = AreMet core meets s t

  -- moments that are met, whatever their cycles are
  pub met_moved : (n : ℕ) (es : List Stamped) → Pairs Met (later n es) → Pairs Met es
  met_moved n [] h = tt
  met_moved n (e ∷ es) h = (each es h.0, met_moved n es h.1)
    where
      each : (ys : List Stamped) → Each (Met e) (later n ys) → Each (Met e) ys
      each [] h = tt
      each (y ∷ ys) h = (h.0, each ys h.1)

  pub met_then : (a b : Run Stamped) → Pairs Met (a ▸ b).events → Pairs Met a.events × Pairs Met b.events
  met_then a b h = let q = pairs_split Met a.events (later a.took b.events) h in (q.0, met_moved a.took b.events q.1)

  -- as a test
  all_met : (e : Event) (ys : List Stamped) → Each (λ t. MomentsMet core meets (touches e) t.moment) ys → list_all (is_met core meets e) (events_of (told ys)) ≡ true
  all_met e [] h = refl
  all_met e (y ∷ ys) h = go (all_met e ys h.1) y.moment h.0
    where
      go : list_all (is_met core meets e) (events_of (told ys)) ≡ true → (m : Moment) → MomentsMet core meets (touches e) m → list_all (is_met core meets e) (events_of (m ∷ told ys)) ≡ true
      go rest (touches f) x = and_from (is_met core meets e f) (list_all (is_met core meets e) (events_of (told ys))) x rest
      go rest (slices z) x = rest
      go rest (renews z) x = rest
      go rest (keeps z w) x = rest

  pub met_events : (es : List Stamped) → Pairs Met es → are_met core meets (events_of (told es)) ≡ true
  met_events [] h = refl
  met_events (e ∷ es) h = go (met_events es h.1) e.moment h.0
    where
      go : are_met core meets (events_of (told es)) ≡ true → (m : Moment) → Each (λ t. MomentsMet core meets m t.moment) es → are_met core meets (events_of (m ∷ told es)) ≡ true
      go rest (touches f) x = and_from (list_all (is_met core meets f) (events_of (told es))) (are_met core meets (events_of (told es))) (all_met f es x) rest
      go rest (slices z) x = rest
      go rest (renews z) x = rest
      go rest (keeps z w) x = rest

  -- the runs of stages in the groups of an outer body
  abbrev pub TableMet : List (List (Run Stamped)) → Type 0
  TableMet rows = Each (λ row. Each (λ (r : Run Stamped). Pairs Met r.events) row) rows

  row_met : (slots : List Slot) (runs : List (List (Run Stamped))) (g s : ℕ) (row : List (Run Stamped)) → Pairs Met (stage_events core plan delays slots runs g s row) → Each (λ (r : Run Stamped). Pairs Met r.events) row
  row_met slots runs g s [] h = tt
  row_met slots runs g s (r ∷ row) h =
      let q = pairs_split Met (later (starts slots (took_at runs) g s) r.events) (stage_events core plan delays slots runs g (suc s) row) h in
      (met_moved (starts slots (took_at runs) g s) r.events q.0, row_met slots runs g (suc s) row q.1)

  pub table_met : (slots : List Slot) (runs : List (List (Run Stamped))) (p : PlainNodePlan) (stages : PlainStages) (copies : Copies) (owned : List ℕ) (g : ℕ) (rows : List (List (Run Stamped))) → Pairs Met (group_events core plan delays slots runs p stages copies owned g rows) → TableMet rows
  table_met slots runs p stages copies owned g [] h = tt
  table_met slots runs p stages copies owned g (row ∷ rows) h =
      let fresh : List Stamped = fresh_events core plan delays slots runs p stages (in_copies core plan delays owned g copies) g owned in
      let here : List Stamped = stage_events core plan delays slots runs g 0 row in
      let q = pairs_split Met (fresh ++ here) (group_events core plan delays slots runs p stages copies owned (suc g) rows) h in
      (row_met slots runs g 0 row (pairs_split Met fresh here q.0).1, table_met slots runs p stages copies owned (suc g) rows q.1)
