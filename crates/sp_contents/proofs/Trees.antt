-- A run of a part of a core stays with its copies.
use Rattle.std.proofs.Common.{◌≡◌, ℕ, suc, ◌+◌, ◌<◌, ◌⊎◌, inl, inr, Bool, true, false, cond, ℤ, List, [], ◌∷◌, ◌++◌, map, length, arith, refl, sym, subst, ap, ◌∙◌}
use Rattle.std.proofs.lemmas.Bool.{and_parts, and_from, cases_eq, cases_Bool, eq-eqb, eqb-true, ltb-true, or_left, or_parts, or_right, true≢false, false≢true}
use Rattle.std.specs.Prelude.{◌==◌, ◌||◌, ◌%◌, nat_lt, slice_index, Some}
use Rattle.sp_core.specs.Around.{Around, within, is_port_kind, is_usable}
use Rattle.sp_core.specs.Declarations.{is_among, mem, dram_number}
use Rattle.sp_core.specs.Events.{Standing, inside_at, before, in_group_of, in_turn, keeps, bounds_moments, moments}
use Rattle.sp_core.specs.History.{Entry, last_word, History, Groups, Runs, Turns, inner_ran, outer_ran, fsm_ran, branch_ran, moved, no_group, more_group, no_run, masked_run, more_run, no_turn, more_turn}
use Rattle.sp_core.specs.Invariant.{IsRight, AreRight, owned_in, owned_in_stages}
use Rattle.sp_core.specs.Latency.{latency_of_all}
use Rattle.sp_core.specs.NodeRules.{with_state, is_slice_right, fits_sram, fits_line}
use Rattle.sp_core.specs.Numbering.{counters_size, spans_size, node_count, number_count}
use Rattle.sp_core.specs.OperationRules.{are_operations_right}
use Rattle.sp_core.specs.PlainCore.{PlainOp, PlainCounter, PlainSpan, PlainNode, PlainStages, inner, outer, fsm, branch, load, store, sparse, no_stage, more_stage, PlainCore}
use Rattle.sp_core.specs.Scope.{in_lanes, loops_of, group_values}
use Rattle.sp_core.specs.Sequential.{has_reset}
use Rattle.sp_core.specs.Store.{changed}
use Rattle.sp_core.specs.Transfers.{part_of}
use Rattle.sp_plan.specs.PlainPlan.{PlainNodePlan, PlainPlan, mem_plan, node_plan}
use Rattle.sp_time.specs.Beats.{Slot, Run, took_at, starts}
use Rattle.sp_machine.specs.Stamps.{Stamped, Copies, stamped, later, list_stamped, in_a_row, ◌▸◌, list_run, kept_run}
use Rattle.sp_machine.specs.Timeline.{timed, group_runs, stage_runs, turn_runs, body_events, issued, issued_by, times_of, fresh_events, stage_events, group_events, in_copies, slots_of}
use Rattle.sp_machine.specs.Transfers.{Delays}
use Rattle.sp_overlap.specs.Whole.{IsTimed, AreTimed}
use Rattle.sp_overlap.proofs.Lanes.{or_choose}
use Rattle.sp_overlap.proofs.Parts.{among_left, among_right, not_left}
use Rattle.sp_overlap.proofs.Scoped.{not_right, not_either, in_two, IsNew, within_new, stages_new}
use Rattle.sp_contents.specs.Steady.{AtHand, AreSteady, hand_after}
use Rattle.sp_contents.specs.Trees.{inner_owned, inner_owned_in}
use Rattle.sp_contents.proofs.Following.{changed_same, changed_other}
use Rattle.sp_contents.proofs.Unmade.{steady_append, after_append, steady_later, after_later, ArePlain, plain_append, plain_stamped, plain_steady, stamped_plain, bounds_plain, spans_plain, load_plain, store_plain, renewals, renewals_steady, renewals_same, renewals_still, renewals_now}

first_one : (m : ℕ) (a b : List ℕ) → is_among m b ≡ false → is_among m (a ++ b) ≡ true → is_among m a ≡ true
first_one m a b q e = by (is_among m a) refl
  where
    by : (t : Bool) → is_among m a ≡ t → is_among m a ≡ true
    by true z = z
    by false z = absurd (true≢false (sym e ∙ not_either m a b z q))

other_one : (m : ℕ) (a b : List ℕ) → is_among m a ≡ false → is_among m (a ++ b) ≡ true → is_among m b ≡ true
other_one m a b q e = by (is_among m b) refl
  where
    by : (t : Bool) → is_among m b ≡ t → is_among m b ≡ true
    by true z = z
    by false z = absurd (true≢false (sym e ∙ not_either m a b q z))

never_both : (m : ℕ) (a b : List ℕ) → ((x : ℕ) → is_among x b ≡ true → is_among x a ≡ false) → is_among m a ≡ true → is_among m b ≡ false
never_both m a b h e = by (is_among m b) refl
  where
    by : (t : Bool) → is_among m b ≡ t → is_among m b ≡ false
    by false z = z
    by true z = absurd (true≢false (sym e ∙ h m z))

-- what inner bodies own is owned within
mutual
  pub inner_within : (node : PlainNode) (m : ℕ) → is_among m (inner_owned node) ≡ true → is_among m (owned_in node) ≡ true
  inner_within (inner counters owned ops comb) m e = e
  inner_within (outer counters style owned stages) m e = among_right m owned (owned_in_stages stages) (inner_within_stages stages m e)
  inner_within (fsm start state test body next) m e = or_right (m == state) (is_among m (owned_in body)) (inner_within body m e)
  inner_within (branch test first second) m e = go (is_among m (inner_owned first)) refl (inner_within first m) (inner_within second m)
    where
      go : (b : Bool) → is_among m (inner_owned first) ≡ b → (is_among m (inner_owned first) ≡ true → is_among m (owned_in first) ≡ true) → (is_among m (inner_owned second) ≡ true → is_among m (owned_in second) ≡ true) → is_among m (owned_in first ++ owned_in second) ≡ true
      go true q f g = among_left m (owned_in first) (owned_in second) (f q)
      go false q f g = among_right m (owned_in first) (owned_in second) (g (other_one m (inner_owned first) (inner_owned second) q e))
  inner_within (load r x spans) m e = absurd (false≢true e)
  inner_within (store r x spans) m e = absurd (false≢true e)
  inner_within (sparse kind r x places spans count par) m e = absurd (false≢true e)

  inner_within_stages : (stages : PlainStages) (m : ℕ) → is_among m (inner_owned_in stages) ≡ true → is_among m (owned_in_stages stages) ≡ true
  inner_within_stages no_stage m e = e
  inner_within_stages (more_stage first last comb node rest) m e = go (is_among m (inner_owned node)) refl (inner_within node m) (inner_within_stages rest m)
    where
      go : (b : Bool) → is_among m (inner_owned node) ≡ b → (is_among m (inner_owned node) ≡ true → is_among m (owned_in node) ≡ true) → (is_among m (inner_owned_in rest) ≡ true → is_among m (owned_in_stages rest) ≡ true) → is_among m (owned_in node ++ owned_in_stages rest) ≡ true
      go true q f g = among_left m (owned_in node) (owned_in_stages rest) (f q)
      go false q f g = among_right m (owned_in node) (owned_in_stages rest) (g (other_one m (inner_owned node) (inner_owned_in rest) q e))

module _ (core : PlainCore) where
  abbrev IsReset : ℕ → Type 0
  IsReset m = has_reset (mem core m).kind (mem core m).start ≡ true

  -- what may be used around isn't owned within
  usable_outside : (around : Around) (earlier : List ℕ) (inside : List ℕ) → ((m : ℕ) → is_among m inside ≡ true → IsNew core earlier m) → ((m : ℕ) → is_among m around.owned ≡ true → is_among m earlier ≡ true) → (m : ℕ) → is_usable core around m ≡ true → is_among m inside ≡ false
  usable_outside around earlier inside new scoped m u = go (is_among m inside) refl
    where
      go : (b : Bool) → is_among m inside ≡ b → is_among m inside ≡ false
      go false e = e
      go true e =
          let w : IsNew core earlier m = new m e in
          elim (or_choose (is_port_kind (mem core m).kind) (is_among m around.owned) (and_parts (nat_lt m (length core.mems)) _ u).1) [
            | inl x ↦ absurd (true≢false (sym x ∙ w.no_port))
            | inr x ↦ absurd (true≢false (sym (scoped m x) ∙ w.new))
          ]

  pub dram_outside : (earlier inside : List ℕ) → ((m : ℕ) → is_among m inside ≡ true → IsNew core earlier m) → (r : ℕ) → is_among (dram_number core r) inside ≡ false
  dram_outside earlier inside new r = go (is_among (dram_number core r) inside) refl
    where
      go : (b : Bool) → is_among (dram_number core r) inside ≡ b → is_among (dram_number core r) inside ≡ false
      go false e = e
      go true e = let l : dram_number core r < length core.mems = (new (dram_number core r) e).on_chip in absurd (omega arith)

  not_first : (node : PlainNode) (around : Around) (earlier inside : List ℕ) → IsRight core around (earlier ++ inside) node → (m : ℕ) → is_among m (inner_owned node) ≡ true → is_among m inside ≡ false
  not_first node around earlier inside right m e = not_right m earlier inside (within_new core node around (earlier ++ inside) right m (inner_within node m e)).new

  not_second : (node : PlainNode) (around : Around) (earlier inside : List ℕ) → IsRight core around (earlier ++ inside) node → (m : ℕ) → is_among m inside ≡ true → is_among m (owned_in node) ≡ false
  not_second node around earlier inside right m e = never_both m inside (owned_in node) (λ x z. not_right x earlier inside (within_new core node around (earlier ++ inside) right x z).new) e

  -- what is at hand before a node
  pub record Ready (around : Around) (resets : List ℕ) (copies : Copies) (hand : AtHand) : Type 0 where
    pub usable : (m : ℕ) → is_usable core around m ≡ true → hand m ≡ Some (copies m)
    pub drams : (r : ℕ) → r < length core.ports.drams → hand (dram_number core r) ≡ Some (copies (dram_number core r))
    pub inner : (m : ℕ) → is_among m resets ≡ true → IsReset m → hand m ≡ Some (copies m)

  -- and how a run of it goes
  pub record Stays (inside resets : List ℕ) (copies : Copies) (hand : AtHand) (es : List Stamped) : Type 0 where
    pub steady : AreSteady hand es
    pub same : (m : ℕ) → is_among m inside ≡ false → hand_after hand es m ≡ hand m
    pub inner : (m : ℕ) → is_among m resets ≡ true → IsReset m → hand_after hand es m ≡ Some (copies m)

  -- first what leaves all as it is
  after_plain : (inside resets : List ℕ) (copies : Copies) (hand : AtHand) (a b : List Stamped) → AreSteady hand a → ((m : ℕ) → hand_after hand a m ≡ hand m) → Stays inside resets copies (hand_after hand a) b → Stays inside resets copies hand (a ++ b)
  after_plain inside resets copies hand a b steady same h = record {
    steady = steady_append hand a b steady h.steady;
    same = λ m e. ap (λ f. f m) (after_append hand a b) ∙ h.same m e ∙ same m;
    inner = λ m e r. ap (λ f. f m) (after_append hand a b) ∙ h.inner m e r;
  }

  stays_later : (inside resets : List ℕ) (copies : Copies) (hand : AtHand) (n : ℕ) (es : List Stamped) → Stays inside resets copies hand es → Stays inside resets copies hand (later n es)
  stays_later inside resets copies hand n es h = record {
    steady = steady_later hand n es h.steady;
    same = λ m e. ap (λ f. f m) (after_later hand n es) ∙ h.same m e;
    inner = λ m e r. ap (λ f. f m) (after_later hand n es) ∙ h.inner m e r;
  }

  ready_same : (around : Around) (resets : List ℕ) (copies : Copies) (hand next : AtHand) → ((m : ℕ) → next m ≡ hand m) → Ready around resets copies hand → Ready around resets copies next
  ready_same around resets copies hand next e h = record { usable = λ m u. e m ∙ h.usable m u; drams = λ r b. e (dram_number core r) ∙ h.drams r b; inner = λ m i r. e m ∙ h.inner m i r }

  -- what touches memories that may be used around, or DRAMs
  abbrev Near : Around → ℕ → Type 0
  Near around m = (is_usable core around m ≡ true) ⊎ ((r : ℕ) × (m ≡ dram_number core r) × (r < length core.ports.drams))

  near_hand : (around : Around) (resets : List ℕ) (copies : Copies) (hand : AtHand) → Ready around resets copies hand → (m : ℕ) → Near around m → hand m ≡ Some (copies m)
  near_hand around resets copies hand h m (inl u) = h.usable m u
  near_hand around resets copies hand h m (inr d) = ap hand d.1 ∙ h.drams d.0 d.2 ∙ ap (λ x. Some (copies x)) (sym d.1)

  near_steady : (around : Around) (resets : List ℕ) (copies : Copies) (hand : AtHand) → Ready around resets copies hand → (es : List Stamped) → ArePlain (Near around) copies es → AreSteady hand es × ((m : ℕ) → hand_after hand es m ≡ hand m)
  near_steady around resets copies hand h es p = plain_steady (Near around) copies hand (near_hand around resets copies hand h) es p

  near_stays : (around : Around) (copies : Copies) (hand : AtHand) → Ready around [] copies hand → (es : List Stamped) → ArePlain (Near around) copies es → Stays [] [] copies hand es
  near_stays around copies hand h es p = let q = near_steady around [] copies hand h es p in record { steady = q.0; same = λ m e. q.1 m; inner = λ m e r. absurd (false≢true e) }

  -- the groups of an inner body
  module _ (plan : PlainPlan) (delays : Delays) where
    module _ (around : Around) (counters : List PlainCounter) (owned : List ℕ) (ops : List PlainOp) (right : are_operations_right core (within around counters owned) ops ≡ true) (outside : (m : ℕ) → is_usable core around m ≡ true → is_among m owned ≡ false) (no_dram : (r : ℕ) → is_among (dram_number core r) owned ≡ false) where
      in_body : (copies : Copies) (hand : AtHand) (cycle : ℕ) → Ready around owned copies hand → Ready (within around counters owned) owned copies (hand_after hand (renewals core copies cycle owned))
      in_body copies hand cycle h = record {
        usable = λ m u. elim (or_choose (is_port_kind (mem core m).kind) (is_among m (owned ++ around.owned)) (and_parts (nat_lt m (length core.mems)) _ u).1) [
          | inl x ↦ renewals_still core copies cycle owned hand m (h.usable m (and_from (nat_lt m (length core.mems)) _ (and_parts _ _ u).0 (or_left _ _ x)))
          | inr x ↦ elim (in_two core m owned around.owned x) [
            | inl y ↦ elim (cases_Bool (has_reset (mem core m).kind (mem core m).start)) [
              | inl z ↦ renewals_still core copies cycle owned hand m (h.inner m y z)
              | inr z ↦ renewals_now core copies cycle owned hand m y z
            ]
            | inr y ↦ renewals_still core copies cycle owned hand m (h.usable m (and_from (nat_lt m (length core.mems)) _ (and_parts _ _ u).0 (or_right _ _ y)))
          ]
        ];
        drams = λ r b. renewals_still core copies cycle owned hand (dram_number core r) (h.drams r b);
        inner = λ m e r. renewals_still core copies cycle owned hand m (h.inner m e r);
      }

      group_stays : (copies : Copies) (hand : AtHand) (cycle n : ℕ) (f : ℕ → ℕ) (st : Standing) (es : List Entry) → Ready around owned copies hand → Stays owned owned copies hand (renewals core copies cycle owned ++ list_stamped copies f 0 n st ops es)
      group_stays copies hand cycle n f st es h =
          let inside : Ready (within around counters owned) owned copies (hand_after hand (renewals core copies cycle owned)) = in_body copies hand cycle h in
          let q = near_steady (within around counters owned) owned copies (hand_after hand (renewals core copies cycle owned)) inside (list_stamped copies f 0 n st ops es)
          (stamped_plain core (within around counters owned) (Near (within around counters owned)) copies (λ m u. inl u) f 0 n st [] ops es right) in
          record {
            steady = steady_append hand (renewals core copies cycle owned) (list_stamped copies f 0 n st ops es) (renewals_steady core copies cycle owned hand) q.0;
            same = λ m e. ap (λ g. g m) (after_append hand (renewals core copies cycle owned) (list_stamped copies f 0 n st ops es)) ∙ q.1 m ∙ renewals_same core copies cycle owned hand m e;
            inner = λ m e r. ap (λ g. g m) (after_append hand (renewals core copies cycle owned) (list_stamped copies f 0 n st ops es)) ∙ q.1 m ∙ renewals_still core copies cycle owned hand m (h.inner m e r);
          }

      -- what is at hand before the next group
      again : (copies : Copies) (hand : AtHand) (es : List Stamped) → Ready around owned copies hand → Stays owned owned copies hand es → Ready around owned copies (hand_after hand es)
      again copies hand es h s = record {
        usable = λ m u. s.same m (outside m u) ∙ h.usable m u;
        drams = λ r b. s.same (dram_number core r) (no_dram r) ∙ h.drams r b;
        inner = s.inner;
      }

      body_stays : (p : PlainNodePlan) (copies : Copies) (k n g : ℕ) (st : Standing) (values : List (List ℤ)) (groups : List (List Entry)) (hand : AtHand) → Ready around owned copies hand → Stays owned owned copies hand (body_events core plan delays p copies k n g st owned ops values groups)
      body_stays p copies k n g st (v ∷ values) (es ∷ groups) hand h =
          let first : List Stamped = renewals core copies (issued core plan delays p g) owned ++ list_stamped copies (λ i. issued core plan delays p g + slice_index (times_of p) i) 0 n (inside_at st k (in_group_of g 0) v) ops es in
          let a : Stays owned owned copies hand first = group_stays copies hand (issued core plan delays p g) n (λ i. issued core plan delays p g + slice_index (times_of p) i) (inside_at st k (in_group_of g 0) v) es h in
          let b : Stays owned owned copies (hand_after hand first) (body_events core plan delays p copies k n (suc g) st owned ops values groups) = body_stays p copies k n (suc g) st values groups (hand_after hand first) (again copies hand first h a) in
          record {
            steady = steady_append hand first (body_events core plan delays p copies k n (suc g) st owned ops values groups) a.steady b.steady;
            same = λ m e. ap (λ x. x m) (after_append hand first (body_events core plan delays p copies k n (suc g) st owned ops values groups)) ∙ b.same m e ∙ a.same m e;
            inner = λ m e r. ap (λ x. x m) (after_append hand first (body_events core plan delays p copies k n (suc g) st owned ops values groups)) ∙ b.inner m e r;
          }
      body_stays p copies k n g st [] groups hand h = record { steady = tt; same = λ m e. refl; inner = h.inner }
      body_stays p copies k n g st (v ∷ values) [] hand h = record { steady = tt; same = λ m e. refl; inner = h.inner }

    -- memories that an outer body makes fresh
    fresh_steady : (slots : List Slot) (runs : List (List (Run Stamped))) (p : PlainNodePlan) (stages : PlainStages) (copies : Copies) (g : ℕ) (owned : List ℕ) (hand : AtHand) → AreSteady hand (fresh_events core plan delays slots runs p stages copies g owned)
    fresh_steady slots runs p stages copies g [] hand = tt
    fresh_steady slots runs p stages copies g (m ∷ owned) hand = (tt, fresh_steady slots runs p stages copies g owned (changed hand m (Some (copies m))))

    fresh_same : (slots : List Slot) (runs : List (List (Run Stamped))) (p : PlainNodePlan) (stages : PlainStages) (copies : Copies) (g : ℕ) (owned : List ℕ) (hand : AtHand) (x : ℕ) → is_among x owned ≡ false → hand_after hand (fresh_events core plan delays slots runs p stages copies g owned) x ≡ hand x
    fresh_same slots runs p stages copies g [] hand x e = refl
    fresh_same slots runs p stages copies g (m ∷ owned) hand x e =
        let q = or_parts (x == m) (is_among x owned) e in
        fresh_same slots runs p stages copies g owned (changed hand m (Some (copies m))) x q.1 ∙ changed_other hand m (Some (copies m)) x (λ z. true≢false (sym (eq-eqb x m z) ∙ q.0))

    fresh_still : (slots : List Slot) (runs : List (List (Run Stamped))) (p : PlainNodePlan) (stages : PlainStages) (copies : Copies) (g : ℕ) (owned : List ℕ) (hand : AtHand) (x : ℕ) → hand x ≡ Some (copies x) → hand_after hand (fresh_events core plan delays slots runs p stages copies g owned) x ≡ Some (copies x)
    fresh_still slots runs p stages copies g [] hand x e = e
    fresh_still slots runs p stages copies g (m ∷ owned) hand x e = fresh_still slots runs p stages copies g owned (changed hand m (Some (copies m))) x (elim (cases_eq x m) [
      | inl q ↦ ap (changed hand m (Some (copies m))) q ∙ changed_same hand m (Some (copies m)) ∙ ap (λ y. Some (copies y)) (sym q)
      | inr q ↦ changed_other hand m (Some (copies m)) x q ∙ e
    ])

    fresh_now : (slots : List Slot) (runs : List (List (Run Stamped))) (p : PlainNodePlan) (stages : PlainStages) (copies : Copies) (g : ℕ) (owned : List ℕ) (hand : AtHand) (x : ℕ) → is_among x owned ≡ true → hand_after hand (fresh_events core plan delays slots runs p stages copies g owned) x ≡ Some (copies x)
    fresh_now slots runs p stages copies g [] hand x e = absurd (false≢true e)
    fresh_now slots runs p stages copies g (m ∷ owned) hand x e = elim (cases_eq x m) [
      | inl q ↦ fresh_still slots runs p stages copies g owned (changed hand m (Some (copies m))) x (ap (changed hand m (Some (copies m))) q ∙ changed_same hand m (Some (copies m)) ∙ ap (λ y. Some (copies y)) (sym q))
      | inr q ↦ fresh_now slots runs p stages copies g owned (changed hand m (Some (copies m))) x (other (x == m) refl e q)
    ]
      where
        other : (b : Bool) → (x == m) ≡ b → (b || is_among x owned) ≡ true → (x ≡ m → ⊥) → is_among x owned ≡ true
        other true q z n = absurd (n (eqb-true x m q))
        other false q z n = z

    -- runs of stages, one after the other
    abbrev RowSteady : AtHand → List (Run Stamped) → Type 0
    RowSteady hand [] = Unit {0}
    RowSteady hand (r ∷ row) = AreSteady hand r.events × RowSteady (hand_after hand r.events) row

    abbrev row_after : AtHand → List (Run Stamped) → AtHand
    row_after hand [] = hand
    row_after hand (r ∷ row) = row_after (hand_after hand r.events) row

    row_steady : (slots : List Slot) (runs : List (List (Run Stamped))) (g s : ℕ) (row : List (Run Stamped)) (hand : AtHand) → RowSteady hand row → AreSteady hand (stage_events core plan delays slots runs g s row) × (hand_after hand (stage_events core plan delays slots runs g s row) ≡ row_after hand row)
    row_steady slots runs g s [] hand h = (tt, refl)
    row_steady slots runs g s (r ∷ row) hand h =
        let moved : List Stamped = later (starts slots (took_at runs) g s) r.events in
        let same : hand_after hand moved ≡ hand_after hand r.events = after_later hand (starts slots (took_at runs) g s) r.events in
        let rest = row_steady slots runs g (suc s) row (hand_after hand r.events) h.1 in (
          steady_append hand moved (stage_events core plan delays slots runs g (suc s) row) (steady_later hand (starts slots (took_at runs) g s) r.events h.0) (subst (λ f. AreSteady f (stage_events core plan delays slots runs g (suc s) row)) (sym same) rest.0),
          after_append hand moved (stage_events core plan delays slots runs g (suc s) row) ∙ ap (λ f. hand_after f (stage_events core plan delays slots runs g (suc s) row)) same ∙ rest.1,
        )

    -- how a row stays
    record RowStays (inside resets : List ℕ) (copies : Copies) (hand : AtHand) (row : List (Run Stamped)) : Type 0 where
      steady : RowSteady hand row
      same : (m : ℕ) → is_among m inside ≡ false → row_after hand row m ≡ hand m
      inner : (m : ℕ) → is_among m resets ≡ true → IsReset m → row_after hand row m ≡ Some (copies m)

    -- an outer body in its next group
    within_usable : (around : Around) (counters : List PlainCounter) (owned : List ℕ) (m : ℕ) → is_usable core (within around counters owned) m ≡ true → (is_among m owned ≡ true) ⊎ (is_usable core around m ≡ true)
    within_usable around counters owned m u = elim (or_choose (is_port_kind (mem core m).kind) (is_among m (owned ++ around.owned)) (and_parts (nat_lt m (length core.mems)) _ u).1) [
      | inl x ↦ inr (and_from (nat_lt m (length core.mems)) _ (and_parts _ _ u).0 (or_left _ _ x))
      | inr x ↦ elim (in_two core m owned around.owned x) [
        | inl y ↦ inl y
        | inr y ↦ inr (and_from (nat_lt m (length core.mems)) _ (and_parts _ _ u).0 (or_right _ _ y))
      ]
    ]

    not_owned_copy : (owned : List ℕ) (g : ℕ) (copies : Copies) (m : ℕ) → is_among m owned ≡ false → in_copies core plan delays owned g copies m ≡ copies m
    not_owned_copy owned g copies m e = ap (λ b. cond b (g % (mem_plan plan m).depth) (copies m)) e

    module _ (around : Around) (earlier : List ℕ) (counters : List PlainCounter) (owned resets : List ℕ) (copies : Copies) (g : ℕ) (slots : List Slot) (runs : List (List (Run Stamped))) (p : PlainNodePlan) (stages : PlainStages)
        (outside : (m : ℕ) → is_usable core around m ≡ true → is_among m owned ≡ false) (no_dram : (r : ℕ) → is_among (dram_number core r) owned ≡ false) (apart : (m : ℕ) → is_among m resets ≡ true → is_among m owned ≡ false) where
      abbrev given : Copies
      given = in_copies core plan delays owned g copies

      abbrev freshes : List Stamped
      freshes = fresh_events core plan delays slots runs p stages given g owned

      as_before : (hand : AtHand) (m : ℕ) → is_among m owned ≡ false → hand m ≡ Some (copies m) → hand_after hand freshes m ≡ Some (given m)
      as_before hand m e q = fresh_same slots runs p stages given g owned hand m e ∙ q ∙ ap (λ x. Some x) (sym (not_owned_copy owned g copies m e))

      group_ready : (hand : AtHand) → Ready around resets copies hand → Ready (within around counters owned) resets given (hand_after hand freshes)
      group_ready hand h = record {
        usable = λ m u. elim (within_usable around counters owned m u) [
          | inl x ↦ fresh_now slots runs p stages given g owned hand m x
          | inr x ↦ as_before hand m (outside m x) (h.usable m x)
        ];
        drams = λ r b. as_before hand (dram_number core r) (no_dram r) (h.drams r b);
        inner = λ m e r. as_before hand m (apart m e) (h.inner m e r);
      }

    -- lists whose word an FSM keeps
    kept_steady : (around : Around) (resets : List ℕ) (copies : Copies) (hand : AtHand) (n : ℕ) (st : Standing) (ops : List PlainOp) (es : List Entry) (state word : ℕ) → Ready around resets copies hand → are_operations_right core around ops ≡ true
        → AreSteady hand (kept_run core copies n st ops es state word).events × ((m : ℕ) → (m ≡ state → ⊥) → hand_after hand (kept_run core copies n st ops es state word).events m ≡ hand m) × (hand_after hand (kept_run core copies n st ops es state word).events state ≡ Some (copies state))
    kept_steady around resets copies hand n st ops es state word h right =
        let listed : List Stamped = list_stamped copies (in_a_row core ops) 0 n st ops es in
        let kept : List Stamped = stamped copies (1 + latency_of_all core ops) (keeps state word ∷ []) in
        let q = near_steady around resets copies hand h listed (stamped_plain core around (Near around) copies (λ m u. inl u) (in_a_row core ops) 0 n st [] ops es right) in (
          steady_append hand listed kept q.0 (tt, tt),
          λ m d. ap (λ f. f m) (after_append hand listed kept) ∙ changed_other (hand_after hand listed) state (Some (copies state)) m d ∙ q.1 m,
          ap (λ f. f state) (after_append hand listed kept) ∙ changed_same (hand_after hand listed) state (Some (copies state)),
        )

    with_usable : (around : Around) (state m : ℕ) → is_usable core (with_state core around state) m ≡ true → (m ≡ state) ⊎ (is_usable core around m ≡ true)
    with_usable around state m u = elim (within_usable around [] (state ∷ []) m u) [
      | inl x ↦ elim (or_choose (m == state) false x) [
        | inl y ↦ inl (eqb-true m state y)
        | inr y ↦ absurd (false≢true y)
      ]
      | inr x ↦ inr x
    ]

    -- what is at hand once the state is kept
    kept_ready : (around : Around) (resets : List ℕ) (copies : Copies) (hand next : AtHand) (state : ℕ) → ((m : ℕ) → (m ≡ state → ⊥) → next m ≡ hand m) → next state ≡ Some (copies state)
        → ((m : ℕ) → is_usable core around m ≡ true → (m ≡ state → ⊥) → hand m ≡ Some (copies m)) → ((r : ℕ) → r < length core.ports.drams → hand (dram_number core r) ≡ Some (copies (dram_number core r))) → ((m : ℕ) → is_among m resets ≡ true → IsReset m → hand m ≡ Some (copies m)) → Ready around resets copies next
    kept_ready around resets copies hand next state others now usable drams reset = record {
      usable = λ m u. by m (λ d. usable m u d);
      drams = λ r b. by (dram_number core r) (λ d. drams r b);
      inner = λ m e r. by m (λ d. reset m e r);
    }
      where
        by : (m : ℕ) → ((m ≡ state → ⊥) → hand m ≡ Some (copies m)) → next m ≡ Some (copies m)
        by m h = elim (cases_eq m state) [
          | inl q ↦ ap next q ∙ now ∙ ap (λ x. Some (copies x)) (sym q)
          | inr q ↦ others m q ∙ h q
        ]

    -- one run after the other
    then_stays : (inside resets : List ℕ) (copies : Copies) (hand : AtHand) (a b : Run Stamped) → AreSteady hand a.events → ((m : ℕ) → is_among m inside ≡ false → hand_after hand a.events m ≡ hand m) → Stays inside resets copies (hand_after hand a.events) b.events → Stays inside resets copies hand (a ▸ b).events
    then_stays inside resets copies hand a b steady same h =
        let moved : Stays inside resets copies (hand_after hand a.events) (later a.took b.events) = stays_later inside resets copies (hand_after hand a.events) a.took b.events h in
        record {
          steady = steady_append hand a.events (later a.took b.events) steady moved.steady;
          same = λ m e. ap (λ f. f m) (after_append hand a.events (later a.took b.events)) ∙ moved.same m e ∙ same m e;
          inner = λ m e r. ap (λ f. f m) (after_append hand a.events (later a.took b.events)) ∙ moved.inner m e r;
        }

    not_state : (m state : ℕ) (rest : List ℕ) → is_among m (state ∷ rest) ≡ false → m ≡ state → ⊥
    not_state m state rest e q = true≢false (sym (eq-eqb m state q) ∙ (or_parts (m == state) (is_among m rest) e).0)

    scoped_within : (around : Around) (earlier owned : List ℕ) → ((m : ℕ) → is_among m around.owned ≡ true → is_among m earlier ≡ true) → (m : ℕ) → is_among m (owned ++ around.owned) ≡ true → is_among m (earlier ++ owned) ≡ true
    scoped_within around earlier owned scoped m e = elim (in_two core m owned around.owned e) [
      | inl x ↦ among_right m earlier owned x
      | inr x ↦ among_left m earlier owned (scoped m x)
    ]

    usable_of : (around : Around) (r m : ℕ) (spans : List PlainSpan) → (fits_sram core around r m spans || fits_line core around r m spans) ≡ true → is_usable core around m ≡ true
    usable_of around r m spans h = elim (or_choose (fits_sram core around r m spans) (fits_line core around r m spans) h) [
      | inl e ↦ (and_parts _ _ (and_parts _ _ (and_parts _ _ e).0).0).0
      | inr e ↦ (and_parts _ _ (and_parts _ _ (and_parts _ _ e).0).0).0
    ]

    dram_there : (around : Around) (r : ℕ) (spans : List PlainSpan) → is_slice_right core around r spans ≡ true → r < length core.ports.drams
    dram_there around r spans h = ltb-true _ _ (and_parts (nat_lt r (length core.ports.drams)) _ (and_parts _ _ h).0).0

    mutual
      unfolding timed group_runs stage_runs turn_runs moments

      pub node_stays : (node : PlainNode) (k n : ℕ) (st : Standing) (copies : Copies) (h : History) (around : Around) (earlier : List ℕ) (hand : AtHand) → IsRight core around earlier node → IsTimed node → ((m : ℕ) → is_among m around.owned ≡ true → is_among m earlier ≡ true) → Ready around (inner_owned node) copies hand
          → Stays (owned_in node) (inner_owned node) copies hand (timed core plan delays node k n st copies h).events
      node_stays (inner counters owned ops comb) k n st copies (inner_ran bs counts groups) around earlier hand right t scoped ready =
          let new : (m : ℕ) → is_among m owned ≡ true → IsNew core earlier m = within_new core (inner counters owned ops comb) around earlier right in
          let bounds : List Stamped = stamped copies 0 (bounds_moments n (inside_at st k before []) counters bs) in
          let q = near_steady around owned copies hand ready bounds (plain_stamped (Near around) copies 0 _ (bounds_plain core around (Near around) copies (λ m u. inl u) n (inside_at st k before []) counters bs (and_parts _ _ (and_parts _ _ (and_parts _ _ right).0).0).1)) in
          after_plain owned owned copies hand bounds _ q.0 q.1
          (body_stays around counters owned ops (and_parts _ _ (and_parts _ _ right).0).1 (usable_outside around earlier owned new scoped) (dram_outside earlier owned new) (issued_by core ops (node_plan plan k)) copies k (n + counters_size counters) 0 st (group_values (loops_of in_lanes counters bs)) groups (hand_after hand bounds)
          (ready_same around owned copies hand (hand_after hand bounds) q.1 ready))
      node_stays (outer counters style owned stages) k n st copies (outer_ran bs counts groups) around earlier hand right t scoped ready =
          let bounds : List Stamped = stamped copies 0 (bounds_moments n (inside_at st k before []) counters bs) in
          let runs = group_runs core plan delays stages k (n + counters_size counters) 0 st owned copies (group_values (loops_of in_lanes counters bs)) groups in
          let new : (m : ℕ) → is_among m (owned ++ owned_in_stages stages) ≡ true → IsNew core earlier m = within_new core (outer counters style owned stages) around earlier right in
          let q = near_steady around (inner_owned_in stages) copies hand ready bounds (plain_stamped (Near around) copies 0 _ (bounds_plain core around (Near around) copies (λ m u. inl u) n (inside_at st k before []) counters bs (and_parts _ _ (and_parts _ _ (and_parts _ _ right.0).0).0).1)) in
          after_plain (owned ++ owned_in_stages stages) (inner_owned_in stages) copies hand bounds _ q.0 q.1
          (groups_stay (slots_of (node_plan plan k)) runs (node_plan plan k) stages k (n + counters_size counters) 0 st counters owned copies (group_values (loops_of in_lanes counters bs)) groups around earlier (hand_after hand bounds) right.1 t.1 scoped
          (usable_outside around earlier (owned ++ owned_in_stages stages) new scoped) (dram_outside earlier (owned ++ owned_in_stages stages) new) (ready_same around (inner_owned_in stages) copies hand (hand_after hand bounds) q.1 ready))
      node_stays (fsm start state test body next) k n st copies (fsm_ran first ts last) around earlier hand right t scoped ready =
          let begin : Run Stamped = kept_run core copies n (inside_at st k before []) start first state (last_word first) in
          let rest : Run Stamped = turn_runs core plan delays start state test body next k n 0 st copies ts last in
          let rules = and_parts _ _ (and_parts _ _ right.0).0 in
          let a = kept_steady around (inner_owned body) copies hand n (inside_at st k before []) start first state (last_word first) ready (and_parts _ _ (and_parts _ _ rules.0).1).0 in
          let ready2 : Ready (with_state core around state) (inner_owned body) copies (hand_after hand begin.events) = kept_ready (with_state core around state) (inner_owned body) copies hand (hand_after hand begin.events) state a.1 a.2
          (λ m u d. elim (with_usable around state m u) [
            | inl x ↦ absurd (d x)
            | inr x ↦ ready.usable m x
          ]) ready.drams ready.inner in
          stays_later (state ∷ owned_in body) (inner_owned body) copies hand 1 (begin ▸ rest).events
          (then_stays (state ∷ owned_in body) (inner_owned body) copies hand begin rest a.0 (λ m e. a.1 m (not_state m state (owned_in body) e))
          (turns_stay start state test body next k n 0 st copies ts last (with_state core around state) (earlier ++ state ∷ []) (hand_after hand begin.events) right.1 t (scoped_within around earlier (state ∷ []) scoped)
          (and_parts _ _ (and_parts _ _ rules.1).0).0 (and_parts _ _ (and_parts _ _ rules.1).1).0 ready2))
      node_stays (branch test first second) k n st copies (branch_ran es true h) around earlier hand right t scoped ready =
          let at : Standing = inside_at st k (in_turn 0) [] in
          let asked : Run Stamped = list_run core copies n at test es in
          let taken : Run Stamped = timed core plan delays first (suc k) (n + length test) at copies h in
          let q = near_steady around (inner_owned first ++ inner_owned second) copies hand ready asked.events (stamped_plain core around (Near around) copies (λ m u. inl u) (in_a_row core test) 0 n at [] test es (and_parts _ _ (and_parts _ _ right.0).0).0) in
          let here : Ready around (inner_owned first) copies (hand_after hand asked.events) = record { usable = λ m u. q.1 m ∙ ready.usable m u; drams = λ r b. q.1 (dram_number core r) ∙ ready.drams r b; inner = λ m e r. q.1 m ∙ ready.inner m (among_left m (inner_owned first) (inner_owned second) e) r } in
          let a : Stays (owned_in first) (inner_owned first) copies (hand_after hand asked.events) taken.events = node_stays first (suc k) (n + length test) at copies h around earlier (hand_after hand asked.events) right.1 t.0 scoped here in
          stays_later (owned_in first ++ owned_in second) (inner_owned first ++ inner_owned second) copies hand 1 (asked ▸ taken).events
          (then_stays (owned_in first ++ owned_in second) (inner_owned first ++ inner_owned second) copies hand asked taken q.0 (λ m e. q.1 m) (record {
            steady = a.steady;
            same = λ m e. a.same m (not_left m (owned_in first) (owned_in second) e);
            inner = λ m e r. elim (cases_Bool (is_among m (inner_owned first))) [
              | inl x ↦ a.inner m x r
              | inr x ↦ a.same m (not_first second around earlier (owned_in first) right.2 m (other_one m (inner_owned first) (inner_owned second) x e)) ∙ q.1 m ∙ ready.inner m e r
            ];
          }))
      node_stays (branch test first second) k n st copies (branch_ran es false h) around earlier hand right t scoped ready =
          let at : Standing = inside_at st k (in_turn 0) [] in
          let asked : Run Stamped = list_run core copies n at test es in
          let taken : Run Stamped = timed core plan delays second (suc k + node_count first) (n + (length test + number_count first)) at copies h in
          let q = near_steady around (inner_owned first ++ inner_owned second) copies hand ready asked.events (stamped_plain core around (Near around) copies (λ m u. inl u) (in_a_row core test) 0 n at [] test es (and_parts _ _ (and_parts _ _ right.0).0).0) in
          let here : Ready around (inner_owned second) copies (hand_after hand asked.events) = record { usable = λ m u. q.1 m ∙ ready.usable m u; drams = λ r b. q.1 (dram_number core r) ∙ ready.drams r b; inner = λ m e r. q.1 m ∙ ready.inner m (among_right m (inner_owned first) (inner_owned second) e) r } in
          let a : Stays (owned_in second) (inner_owned second) copies (hand_after hand asked.events) taken.events = node_stays second (suc k + node_count first) (n + (length test + number_count first)) at copies h around (earlier ++ owned_in first) (hand_after hand asked.events) right.2 t.1 (λ m e. among_left m earlier (owned_in first) (scoped m e)) here in
          stays_later (owned_in first ++ owned_in second) (inner_owned first ++ inner_owned second) copies hand 1 (asked ▸ taken).events
          (then_stays (owned_in first ++ owned_in second) (inner_owned first ++ inner_owned second) copies hand asked taken q.0 (λ m e. q.1 m) (record {
            steady = a.steady;
            same = λ m e. a.same m (not_right m (owned_in first) (owned_in second) e);
            inner = λ m e r. elim (cases_Bool (is_among m (inner_owned second))) [
              | inl x ↦ a.inner m x r
              | inr x ↦ a.same m (not_second second around earlier (owned_in first) right.2 m (inner_within first m (first_one m (inner_owned first) (inner_owned second) x e))) ∙ q.1 m ∙ ready.inner m e r
            ];
          }))
      node_stays (load r m spans) k n st copies (moved taken words) around earlier hand right t scoped ready =
          let rules = and_parts _ _ (and_parts _ _ right).0 in
          near_stays around copies hand ready _ (plain_append (Near around) copies _ _
          (plain_stamped (Near around) copies 0 _ (spans_plain core around (Near around) copies (λ x u. inl u) n st spans taken (and_parts _ _ rules.0).1))
          (load_plain core around (Near around) copies (λ x u. inl u) (delays k st.path) (n + spans_size spans) st r m (inr (r, refl, dram_there around r spans rules.0)) (inl (usable_of around r m spans rules.1)) (map part_of taken) words))
      node_stays (store r m spans) k n st copies (moved taken words) around earlier hand right t scoped ready =
          let rules = and_parts _ _ (and_parts _ _ right).0 in
          near_stays around copies hand ready _ (plain_append (Near around) copies _ _
          (plain_stamped (Near around) copies 0 _ (spans_plain core around (Near around) copies (λ x u. inl u) n st spans taken (and_parts _ _ rules.0).1))
          (store_plain core around (Near around) copies (λ x u. inl u) (delays k st.path) (n + spans_size spans) st r m (inr (r, refl, dram_there around r spans rules.0)) (inl (usable_of around r m spans (or_left _ _ rules.1))) (map part_of taken) words))
      node_stays (sparse kind r m places spans count par) k n st copies h around earlier hand right t scoped ready = absurd t
      node_stays node k n st copies h around earlier hand right t scoped ready = record { steady = tt; same = λ m e. refl; inner = ready.inner }

      groups_stay : (slots : List Slot) (runs : List (List (Run Stamped))) (p : PlainNodePlan) (stages : PlainStages) (k n g : ℕ) (st : Standing) (counters : List PlainCounter) (owned : List ℕ) (copies : Copies) (values : List (List ℤ)) (groups : Groups) (around : Around) (earlier : List ℕ) (hand : AtHand)
          → AreRight core (within around counters owned) (earlier ++ owned) stages → AreTimed stages → ((m : ℕ) → is_among m around.owned ≡ true → is_among m earlier ≡ true) → ((m : ℕ) → is_usable core around m ≡ true → is_among m (owned ++ owned_in_stages stages) ≡ false) → ((r : ℕ) → is_among (dram_number core r) (owned ++ owned_in_stages stages) ≡ false)
          → Ready around (inner_owned_in stages) copies hand
          → Stays (owned ++ owned_in_stages stages) (inner_owned_in stages) copies hand (group_events core plan delays slots runs p stages copies owned g (group_runs core plan delays stages k n g st owned copies values groups))
      groups_stay slots runs p stages k n g st counters owned copies (v ∷ values) (more_group rs rest) around earlier hand right t scoped outside no_dram ready =
          let c : Copies = in_copies core plan delays owned g copies in
          let apart : (m : ℕ) → is_among m (inner_owned_in stages) ≡ true → is_among m owned ≡ false = (λ m e. not_right m earlier owned (stages_new core stages (within around counters owned) (earlier ++ owned) right m (inner_within_stages stages m e)).new) in
          let freshes : List Stamped = fresh_events core plan delays slots runs p stages c g owned in
          let row : List (Run Stamped) = stage_runs core plan delays stages k n 0 g (suc k) v st c rs in
          let staged : List Stamped = stage_events core plan delays slots runs g 0 row in
          let begin : AtHand = hand_after hand freshes in
          let ready2 : Ready (within around counters owned) (inner_owned_in stages) c begin =
          group_ready around earlier counters owned (inner_owned_in stages) copies g slots runs p stages (λ m u. not_left m owned (owned_in_stages stages) (outside m u)) (λ r. not_left (dram_number core r) owned (owned_in_stages stages) (no_dram r)) apart hand ready in
          let a : RowStays (owned_in_stages stages) (inner_owned_in stages) c begin row = stages_stay stages k n 0 g (suc k) v st c rs (within around counters owned) (earlier ++ owned) begin right t (scoped_within around earlier owned scoped) ready2 in
          let rows = row_steady slots runs g 0 row begin a.steady in
          let one : List Stamped = freshes ++ staged in
          let after_one : hand_after hand one ≡ row_after begin row = after_append hand freshes staged ∙ rows.1 in
          let same : (m : ℕ) → is_among m (owned ++ owned_in_stages stages) ≡ false → hand_after hand one m ≡ hand m =
          (λ m e. ap (λ f. f m) after_one ∙ a.same m (not_right m owned (owned_in_stages stages) e) ∙ fresh_same slots runs p stages c g owned hand m (not_left m owned (owned_in_stages stages) e)) in
          let reset : (m : ℕ) → is_among m (inner_owned_in stages) ≡ true → IsReset m → hand_after hand one m ≡ Some (copies m) =
          (λ m e r. ap (λ f. f m) after_one ∙ a.inner m e r ∙ ap (λ x. Some x) (not_owned_copy owned g copies m (apart m e))) in
          let others = groups_stay slots runs p stages k n (suc g) st counters owned copies values rest around earlier (hand_after hand one) right t scoped outside no_dram
          (record { usable = λ m u. same m (outside m u) ∙ ready.usable m u; drams = λ r b. same (dram_number core r) (no_dram r) ∙ ready.drams r b; inner = reset }) in
          let more : List Stamped = group_events core plan delays slots runs p stages copies owned (suc g) (group_runs core plan delays stages k n (suc g) st owned copies values rest) in
          record {
            steady = steady_append hand one more (steady_append hand freshes staged (fresh_steady slots runs p stages c g owned hand) rows.0) others.steady;
            same = λ m e. ap (λ f. f m) (after_append hand one more) ∙ others.same m e ∙ same m e;
            inner = λ m e r. ap (λ f. f m) (after_append hand one more) ∙ others.inner m e r;
          }
      groups_stay slots runs p stages k n g st counters owned copies [] groups around earlier hand right t scoped outside no_dram ready = record { steady = tt; same = λ m e. refl; inner = ready.inner }
      groups_stay slots runs p stages k n g st counters owned copies (v ∷ values) no_group around earlier hand right t scoped outside no_dram ready = record { steady = tt; same = λ m e. refl; inner = ready.inner }

      stages_stay : (stages : PlainStages) (k n s g j : ℕ) (v : List ℤ) (st : Standing) (copies : Copies) (rs : Runs) (around : Around) (earlier : List ℕ) (hand : AtHand) → AreRight core around earlier stages → AreTimed stages → ((m : ℕ) → is_among m around.owned ≡ true → is_among m earlier ≡ true)
          → Ready around (inner_owned_in stages) copies hand → RowStays (owned_in_stages stages) (inner_owned_in stages) copies hand (stage_runs core plan delays stages k n s g j v st copies rs)
      stages_stay (more_stage first last comb node rest) k n s g j v st copies (more_run h rs) around earlier hand right t scoped ready =
          let r : Run Stamped = timed core plan delays node j n (inside_at st k (in_group_of g s) v) copies h in
          let a : Stays (owned_in node) (inner_owned node) copies hand r.events = node_stays node j n (inside_at st k (in_group_of g s) v) copies h around earlier hand right.0 t.0 scoped
          (record { usable = ready.usable; drams = ready.drams; inner = λ m e z. ready.inner m (among_left m (inner_owned node) (inner_owned_in rest) e) z }) in
          let new : (m : ℕ) → is_among m (owned_in node) ≡ true → IsNew core earlier m = within_new core node around earlier right.0 in
          let apart : (m : ℕ) → is_among m (owned_in_stages rest) ≡ true → is_among m (owned_in node) ≡ false = (λ m e. not_right m earlier (owned_in node) (stages_new core rest around (earlier ++ owned_in node) right.1 m e).new) in
          let b : RowStays (owned_in_stages rest) (inner_owned_in rest) copies (hand_after hand r.events) (stage_runs core plan delays rest k (n + number_count node) (suc s) g (j + node_count node) v st copies rs) =
          stages_stay rest k (n + number_count node) (suc s) g (j + node_count node) v st copies rs around (earlier ++ owned_in node) (hand_after hand r.events) right.1 t.1 (λ m e. among_left m earlier (owned_in node) (scoped m e)) (record {
            usable = λ m u. a.same m (usable_outside around earlier (owned_in node) new scoped m u) ∙ ready.usable m u;
            drams = λ z b. a.same (dram_number core z) (dram_outside earlier (owned_in node) new z) ∙ ready.drams z b;
            inner = λ m e z. a.same m (apart m (inner_within_stages rest m e)) ∙ ready.inner m (among_right m (inner_owned node) (inner_owned_in rest) e) z;
          }) in
          record {
            steady = (a.steady, b.steady);
            same = λ m e. b.same m (not_right m (owned_in node) (owned_in_stages rest) e) ∙ a.same m (not_left m (owned_in node) (owned_in_stages rest) e);
            inner = λ m e z. elim (cases_Bool (is_among m (inner_owned_in rest))) [
              | inl x ↦ b.inner m x z
              | inr x ↦ (
                  let here : is_among m (inner_owned node) ≡ true = first_one m (inner_owned node) (inner_owned_in rest) x e in
                  b.same m (never_both m (owned_in node) (owned_in_stages rest) apart (inner_within node m here)) ∙ a.inner m here z
                  )
            ];
          }
      stages_stay (more_stage first last comb node rest) k n s g j v st copies (masked_run rs) around earlier hand right t scoped ready =
          let apart : (m : ℕ) → is_among m (owned_in_stages rest) ≡ true → is_among m (owned_in node) ≡ false = (λ m e. not_right m earlier (owned_in node) (stages_new core rest around (earlier ++ owned_in node) right.1 m e).new) in
          let b : RowStays (owned_in_stages rest) (inner_owned_in rest) copies hand (stage_runs core plan delays rest k (n + number_count node) (suc s) g (j + node_count node) v st copies rs) =
          stages_stay rest k (n + number_count node) (suc s) g (j + node_count node) v st copies rs around (earlier ++ owned_in node) hand right.1 t.1 (λ m e. among_left m earlier (owned_in node) (scoped m e))
          (record { usable = ready.usable; drams = ready.drams; inner = λ m e z. ready.inner m (among_right m (inner_owned node) (inner_owned_in rest) e) z }) in
          record {
            steady = (tt, b.steady);
            same = λ m e. b.same m (not_right m (owned_in node) (owned_in_stages rest) e);
            inner = λ m e z. elim (cases_Bool (is_among m (inner_owned_in rest))) [
              | inl x ↦ b.inner m x z
              | inr x ↦ b.same m (never_both m (owned_in node) (owned_in_stages rest) apart (inner_within node m (first_one m (inner_owned node) (inner_owned_in rest) x e))) ∙ ready.inner m e z
            ];
          }
      stages_stay (more_stage first last comb node rest) k n s g j v st copies no_run around earlier hand right t scoped ready = record { steady = tt; same = λ m e. refl; inner = ready.inner }
      stages_stay no_stage k n s g j v st copies rs around earlier hand right t scoped ready = record { steady = tt; same = λ m e. refl; inner = ready.inner }

      turns_stay : (start : List PlainOp) (state : ℕ) (test : List PlainOp) (body : PlainNode) (next : List PlainOp) (k n t : ℕ) (st : Standing) (copies : Copies) (ts : Turns) (last : List Entry) (around : Around) (earlier : List ℕ) (hand : AtHand) → IsRight core around earlier body → IsTimed body
          → ((m : ℕ) → is_among m around.owned ≡ true → is_among m earlier ≡ true) → are_operations_right core around test ≡ true → are_operations_right core around next ≡ true → Ready around (inner_owned body) copies hand
          → Stays (state ∷ owned_in body) (inner_owned body) copies hand (turn_runs core plan delays start state test body next k n t st copies ts last).events
      turns_stay start state test body next k n t st copies no_turn last around earlier hand right w scoped rt rn ready =
          let q = near_steady around (inner_owned body) copies hand ready _ (stamped_plain core around (Near around) copies (λ m u. inl u) (in_a_row core test) 0 (n + length start) (inside_at st k (in_turn t) []) [] test last rt) in
          record { steady = q.0; same = λ m e. q.1 m; inner = λ m e r. q.1 m ∙ ready.inner m e r }
      turns_stay start state test body next k n t st copies (more_turn es h ns rest) last around earlier hand right w scoped rt rn ready =
          let at : Standing = inside_at st k (in_turn t) [] in
          let tested : Run Stamped = list_run core copies (n + length start) at test es in
          let body_run : Run Stamped = timed core plan delays body (suc k) (n + (length start + length test)) at copies h in
          let next_run : Run Stamped = kept_run core copies (n + (length start + (length test + number_count body))) at next ns state (last_word ns) in
          let others : Run Stamped = turn_runs core plan delays start state test body next k n (suc t) st copies rest last in
          let new : (m : ℕ) → is_among m (owned_in body) ≡ true → IsNew core earlier m = within_new core body around earlier right in
          let q = near_steady around (inner_owned body) copies hand ready tested.events (stamped_plain core around (Near around) copies (λ m u. inl u) (in_a_row core test) 0 (n + length start) at [] test es rt) in
          let hand1 : AtHand = hand_after hand tested.events in
          let ready1 : Ready around (inner_owned body) copies hand1 = ready_same around (inner_owned body) copies hand hand1 q.1 ready in
          let a : Stays (owned_in body) (inner_owned body) copies hand1 body_run.events = node_stays body (suc k) (n + (length start + length test)) at copies h around earlier hand1 right w scoped ready1 in
          let hand2 : AtHand = hand_after hand1 body_run.events in
          let ready2 : Ready around (inner_owned body) copies hand2 =
          record { usable = λ m u. a.same m (usable_outside around earlier (owned_in body) new scoped m u) ∙ ready1.usable m u; drams = λ r b. a.same (dram_number core r) (dram_outside earlier (owned_in body) new r) ∙ ready1.drams r b; inner = a.inner } in
          let b = kept_steady around (inner_owned body) copies hand2 (n + (length start + (length test + number_count body))) at next ns state (last_word ns) ready2 rn in
          let hand3 : AtHand = hand_after hand2 next_run.events in
          let ready3 : Ready around (inner_owned body) copies hand3 = kept_ready around (inner_owned body) copies hand2 hand3 state b.1 b.2 (λ m u d. ready2.usable m u) ready2.drams ready2.inner in
          then_stays (state ∷ owned_in body) (inner_owned body) copies hand tested (body_run ▸ next_run ▸ others) q.0 (λ m e. q.1 m)
          (then_stays (state ∷ owned_in body) (inner_owned body) copies hand1 body_run (next_run ▸ others) a.steady (λ m e. a.same m (or_parts (m == state) (is_among m (owned_in body)) e).1)
          (then_stays (state ∷ owned_in body) (inner_owned body) copies hand2 next_run others b.0 (λ m e. b.1 m (not_state m state (owned_in body) e))
          (turns_stay start state test body next k n (suc t) st copies rest last around earlier hand3 right w scoped rt rn ready3)))
