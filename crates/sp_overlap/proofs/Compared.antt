-- Events of two stages of an outer body that touch one element stand in the meets.
use Rattle.std.proofs.Common.{◌≡◌, ℕ, zero, suc, ◌-◌, ◌<◌, ◌≤◌, ◌⊎◌, inl, inr, Bool, true, false, cond, List, [], ◌∷◌, ◌++◌, arith, refl, sym, ap, ◌∙◌}
use Rattle.std.proofs.lemmas.Bool.{and_parts, eq-eqb, eqb-true, ne_eqb, leb-true, true≢false, false≢true}
use Rattle.std.specs.List.{list_any}
use Rattle.std.specs.Prelude.{◌==◌, ◌&&◌, ◌||◌, not, nat_le, slice_index_or}
use Rattle.sp_core.specs.declared.access.Meet.{Meet}
use Rattle.sp_core.specs.Events.{At, in_group_of, Event}
use Rattle.sp_core.specs.Meeting.{changes, is_one_element, is_group, go_on, together_at, together, in_loop, nowhere, is_in_stream, owns, share_port, least_of, stand, stand_apart, do_stand, is_met}
use Rattle.sp_core.specs.PlainCore.{PlainStages, PlainCore}
use Rattle.sp_plan.specs.PlainPlan.{PlainNodePlan, PlainPlan}
use Rattle.sp_time.specs.Beats.{Slot, Run, no_time, run_at, took_at, starts}
use Rattle.sp_time.specs.Lists.{Each, Pairs}
use Rattle.sp_machine.specs.InOrder.{EachTwo}
use Rattle.sp_machine.specs.Stamps.{Stamped, Copies, later}
use Rattle.sp_machine.specs.Timeline.{in_copies, fresh_events, stage_events, group_events}
use Rattle.sp_machine.specs.Transfers.{Delays}
use Rattle.sp_machine.proofs.InnerOrder.{AreMet, or_false}
use Rattle.sp_overlap.proofs.Inside.{BeginsAt}

-- of each two of a list, those of its parts
each_split : (Q : Stamped → Type 0) (a b : List Stamped) → Each Q (a ++ b) → Each Q a × Each Q b
each_split Q [] b h = (tt, h)
each_split Q (x ∷ a) b h = let r = each_split Q a b h.1 in ((h.0, r.0), r.1)

pub pairs_split : (P : Stamped → Stamped → Type 0) (a b : List Stamped) → Pairs P (a ++ b) → Pairs P a × Pairs P b × EachTwo P a b
pairs_split P [] b h = (tt, h, tt)
pairs_split P (x ∷ a) b h =
    let e = each_split (P x) a b h.0 in
    let r = pairs_split P a b h.1 in
    ((e.0, r.0), r.1, (e.1, r.2))

right_split : (P : Stamped → Stamped → Type 0) (xs a b : List Stamped) → EachTwo P xs (a ++ b) → EachTwo P xs a × EachTwo P xs b
right_split P [] a b h = (tt, tt)
right_split P (x ∷ xs) a b h =
    let e = each_split (P x) a b h.0 in
    let r = right_split P xs a b h.1 in
    ((e.0, r.0), (e.1, r.1))

left_split : (P : Stamped → Stamped → Type 0) (a b ys : List Stamped) → EachTwo P (a ++ b) ys → EachTwo P a ys × EachTwo P b ys
left_split P [] b ys h = (tt, h)
left_split P (x ∷ a) b ys h = let r = left_split P a b ys h.1 in ((h.0, r.0), r.1)

two_empty : (P : Stamped → Stamped → Type 0) (xs : List Stamped) → EachTwo P xs []
two_empty P [] = tt
two_empty P (x ∷ xs) = (tt, two_empty P xs)

module _ (core : PlainCore) (meets : List Meet) where
  abbrev Met : Stamped → Stamped → Type 0
  Met s t = AreMet core meets s t

  -- whatever their cycles are
  each_moved : (x : Stamped) (n : ℕ) (ys : List Stamped) → Each (Met x) (later n ys) → Each (Met x) ys
  each_moved x n [] h = tt
  each_moved x n (y ∷ ys) h = (h.0, each_moved x n ys h.1)

  right_moved : (xs : List Stamped) (n : ℕ) (ys : List Stamped) → EachTwo Met xs (later n ys) → EachTwo Met xs ys
  right_moved [] n ys h = tt
  right_moved (x ∷ xs) n ys h = (each_moved x n ys h.0, right_moved xs n ys h.1)

  left_moved : (n : ℕ) (xs ys : List Stamped) → EachTwo Met (later n xs) ys → EachTwo Met xs ys
  left_moved n [] ys h = tt
  left_moved n (x ∷ xs) ys h = (h.0, left_moved n xs ys h.1)

  module _ (plan : PlainPlan) (delays : Delays) (slots : List Slot) (runs : List (List (Run Stamped))) where
    abbrev staged : (g s : ℕ) → List (Run Stamped) → List Stamped
    staged g s row = stage_events core plan delays slots runs g s row

    abbrev at : List (Run Stamped) → ℕ → List Stamped
    at row i = (slice_index_or row i no_time).events

    -- a run of a row
    right_at : (xs : List Stamped) (g s : ℕ) (row : List (Run Stamped)) → EachTwo Met xs (staged g s row) → (i : ℕ) → EachTwo Met xs (at row i)
    right_at xs g s [] h i = two_empty Met xs
    right_at xs g s (r ∷ row) h zero = right_moved xs (starts slots (took_at runs) g s) r.events (right_split Met xs (later (starts slots (took_at runs) g s) r.events) (staged g (suc s) row) h).0
    right_at xs g s (r ∷ row) h (suc i) = right_at xs g (suc s) row (right_split Met xs (later (starts slots (took_at runs) g s) r.events) (staged g (suc s) row) h).1 i

    left_at : (g s : ℕ) (row : List (Run Stamped)) (ys : List Stamped) → EachTwo Met (staged g s row) ys → (i : ℕ) → EachTwo Met (at row i) ys
    left_at g s [] ys h i = tt
    left_at g s (r ∷ row) ys h zero = left_moved (starts slots (took_at runs) g s) r.events ys (left_split Met (later (starts slots (took_at runs) g s) r.events) (staged g (suc s) row) ys h).0
    left_at g s (r ∷ row) ys h (suc i) = left_at g (suc s) row ys (left_split Met (later (starts slots (took_at runs) g s) r.events) (staged g (suc s) row) ys h).1 i

    in_row : (g s : ℕ) (row : List (Run Stamped)) → Pairs Met (staged g s row) → (i j : ℕ) → i < j → EachTwo Met (at row i) (at row j)
    in_row g s [] h i j l = tt
    in_row g s (r ∷ row) h i zero l = absurd (omega (arith, l))
    in_row g s (r ∷ row) h zero (suc j) l =
        left_moved (starts slots (took_at runs) g s) r.events (at row j) (right_at (later (starts slots (took_at runs) g s) r.events) g (suc s) row (pairs_split Met (later (starts slots (took_at runs) g s) r.events) (staged g (suc s) row) h).2 j)
    in_row g s (r ∷ row) h (suc i) (suc j) l = in_row g (suc s) row (pairs_split Met (later (starts slots (took_at runs) g s) r.events) (staged g (suc s) row) h).1 i j (omega arith)

    module _ (p : PlainNodePlan) (stages : PlainStages) (copies : Copies) (owned : List ℕ) where
      abbrev grouped : (g : ℕ) → List (List (Run Stamped)) → List Stamped
      grouped g rows = group_events core plan delays slots runs p stages copies owned g rows

      abbrev freshes : (g : ℕ) → List Stamped
      freshes g = fresh_events core plan delays slots runs p stages (in_copies core plan delays owned g copies) g owned

      right_group : (xs : List Stamped) (g : ℕ) (rows : List (List (Run Stamped))) → EachTwo Met xs (grouped g rows) → (i s : ℕ) → EachTwo Met xs (run_at rows i s).events
      right_group xs g [] h i s = two_empty Met xs
      right_group xs g (row ∷ rows) h zero s = right_at xs g 0 row (right_split Met xs (freshes g) (staged g 0 row) (right_split Met xs (freshes g ++ staged g 0 row) (grouped (suc g) rows) h).0).1 s
      right_group xs g (row ∷ rows) h (suc i) s = right_group xs (suc g) rows (right_split Met xs (freshes g ++ staged g 0 row) (grouped (suc g) rows) h).1 i s

      -- two runs of stages, in the order of the text
      pub runs_met : (g : ℕ) (rows : List (List (Run Stamped))) → Pairs Met (grouped g rows) → (i s j r : ℕ) → (i < j) ⊎ ((i ≡ j) × (s < r)) → EachTwo Met (run_at rows i s).events (run_at rows j r).events
      runs_met g [] h i s j r l = tt
      runs_met g (row ∷ rows) h zero s zero r (inl l) = absurd (omega (arith, l))
      runs_met g (row ∷ rows) h zero s zero r (inr l) =
          in_row g 0 row (pairs_split Met (freshes g) (staged g 0 row) (pairs_split Met (freshes g ++ staged g 0 row) (grouped (suc g) rows) h).0).1 s r l.1
      runs_met g (row ∷ rows) h zero s (suc j) r l =
          let across = (pairs_split Met (freshes g ++ staged g 0 row) (grouped (suc g) rows) h).2 in
          left_at g 0 row (run_at rows j r).events (right_group (staged g 0 row) (suc g) rows (left_split Met (freshes g) (staged g 0 row) (grouped (suc g) rows) across).1 j r) s
      runs_met g (row ∷ rows) h (suc i) s zero r (inl l) = absurd (omega (arith, l))
      runs_met g (row ∷ rows) h (suc i) s zero r (inr l) = absurd (omega (arith, l.0))
      runs_met g (row ∷ rows) h (suc i) s (suc j) r (inl l) = runs_met (suc g) rows (pairs_split Met (freshes g ++ staged g 0 row) (grouped (suc g) rows) h).1 i s j r (inl (omega arith))
      runs_met g (row ∷ rows) h (suc i) s (suc j) r (inr l) = runs_met (suc g) rows (pairs_split Met (freshes g ++ staged g 0 row) (grouped (suc g) rows) h).1 i s j r (inr ((let e : suc i ≡ suc j = l.0 in omega arith), l.1))

  -- events of two stages are compared over the loop
  module _ (k : ℕ) (no_stream : is_in_stream core k ≡ false) where
    abbrev group_at : (g s : ℕ) → At
    group_at g s = record { node = k; when = in_group_of g s }

    go_apart : (i j : ℕ) → (i ≡ j → ⊥) → (a b : List At) → BeginsAt i a → BeginsAt j b → go_on a b ≡ false
    go_apart i j n [] b p q = refl
    go_apart i j n (a ∷ x) [] p q = refl
    go_apart i j n (a ∷ x) (b ∷ y) p q = ne_eqb a.node b.node (λ e. n (sym p ∙ e ∙ q))

    meet_there : (g s h r : ℕ) (a b : List At) → go_on a b ≡ false → (path : List At) → Each (λ (x : At). (is_in_stream core x.node ≡ false) × (is_group x.when x.when ≡ true)) path
        → together core (path ++ group_at g s ∷ a) (path ++ group_at h r ∷ b) ≡ in_loop k g h (s == r)
    meet_there g s h r a b apart [] e =
        ap (λ t. cond t (cond (go_on a b) (cond (is_group (in_group_of g s) (in_group_of h r)) (together core a b) nowhere) (in_loop k g h (s == r))) nowhere) (here (k == k) (is_in_stream core k) (eq-eqb k k refl) no_stream)
        ∙ ap (λ t. cond t (cond (is_group (in_group_of g s) (in_group_of h r)) (together core a b) nowhere) (in_loop k g h (s == r))) apart
      where
        here : (x y : Bool) → x ≡ true → y ≡ false → (x && not y) ≡ true
        here true true p q = absurd (true≢false q)
        here true false p q = refl
        here false y p q = absurd (false≢true p)
    meet_there g s h r a b apart (x ∷ path) e =
        ap (λ t. cond (t && not (is_in_stream core x.node)) (cond (go_on (path ++ group_at g s ∷ a) (path ++ group_at h r ∷ b)) (cond (is_group x.when x.when) (together core (path ++ group_at g s ∷ a) (path ++ group_at h r ∷ b)) nowhere) (together_at x.node x.when x.when)) nowhere) (eq-eqb x.node x.node refl)
        ∙ ap (λ t. cond (not t) (cond (go_on (path ++ group_at g s ∷ a) (path ++ group_at h r ∷ b)) (cond (is_group x.when x.when) (together core (path ++ group_at g s ∷ a) (path ++ group_at h r ∷ b)) nowhere) (together_at x.node x.when x.when)) nowhere) e.0.0
        ∙ ap (λ t. cond t (cond (is_group x.when x.when) (together core (path ++ group_at g s ∷ a) (path ++ group_at h r ∷ b)) nowhere) (together_at x.node x.when x.when)) (goes path)
        ∙ ap (λ t. cond t (together core (path ++ group_at g s ∷ a) (path ++ group_at h r ∷ b)) nowhere) e.0.1
        ∙ meet_there g s h r a b apart path e.1
      where
        goes : (path : List At) → go_on (path ++ group_at g s ∷ a) (path ++ group_at h r ∷ b) ≡ true
        goes [] = eq-eqb k k refl
        goes (y ∷ path) = eq-eqb y.node y.node refl

    -- so they stand in the meets
    pub stand_there : (path : List At) → Each (λ (x : At). (is_in_stream core x.node ≡ false) × (is_group x.when x.when ≡ true)) path → (i j : ℕ) → (i ≡ j → ⊥) → (g s h r : ℕ) (e f : Event) (a b : List At) → e.standing.path ≡ (path ++ group_at g s ∷ []) ++ a → f.standing.path ≡ (path ++ group_at h r ∷ []) ++ b
        → BeginsAt i a → BeginsAt j b → (e.number ≡ f.number → ⊥) → (owns core k e.mem ≡ false) ⊎ (g ≡ h) → is_met core meets e f ≡ true → e.mem ≡ f.mem → is_one_element core e f ≡ true → (changes e.act || changes f.act) ≡ true → stand core meets e.number f.number (h - g) ≡ true
    stand_there path around i j n g s h r e f a b p q pa qb numbers own met same one some =
        let there : together core e.standing.path f.standing.path ≡ in_loop k g h (s == r) =
        ap (λ x. together core x f.standing.path) (p ∙ append_one path (group_at g s) a) ∙ ap (together core (path ++ group_at g s ∷ a)) (q ∙ append_one path (group_at h r) b) ∙ meet_there g s h r a b (go_apart i j n a b pa qb) path around in
        let x : do_stand core meets e f (together core e.standing.path f.standing.path) ≡ true = or_false _ _ (no_test (e.mem == f.mem) (changes e.act || changes f.act) (eq-eqb _ _ same) some) met in
        let y : do_stand core meets e f (in_loop k g h (s == r)) ≡ true = ap (do_stand core meets e f) (sym there) ∙ x in
        let z : stand_apart core meets e f (h - g) ≡ true = or_false _ _ (no_reason (owns core k e.mem) (g == h) (is_one_element core e f) (share_port core e k (s == r)) (no_owner own) one) y in
        or_false ((e.number == f.number) && (h - g == 0)) (stand core meets e.number f.number (h - g)) (no_and (e.number == f.number) (h - g == 0) (ne_eqb e.number f.number numbers)) z
      where
        append_one : (path : List At) (x : At) (rest : List At) → (path ++ x ∷ []) ++ rest ≡ path ++ x ∷ rest
        append_one [] x rest = refl
        append_one (y ∷ path) x rest = ap (λ t. y ∷ t) (append_one path x rest)

        no_test : (x y : Bool) → x ≡ true → y ≡ true → (not x || not y) ≡ false
        no_test true true p q = refl
        no_test true false p q = absurd (false≢true q)
        no_test false y p q = absurd (false≢true p)

        no_and : (x y : Bool) → x ≡ false → (x && y) ≡ false
        no_and true y e = absurd (true≢false e)
        no_and false y e = refl

        no_owner : (owns core k e.mem ≡ false) ⊎ (g ≡ h) → (owns core k e.mem && not (g == h)) ≡ false
        no_owner (inl u) = no_and (owns core k e.mem) (not (g == h)) u
        no_owner (inr u) = and_no (owns core k e.mem) (not (g == h)) (ap not (eq-eqb g h u))
          where
            and_no : (x y : Bool) → y ≡ false → (x && y) ≡ false
            and_no true y e = e
            and_no false y e = refl

        no_reason : (x y z w : Bool) → (x && not y) ≡ false → z ≡ true → ((x && not y) || (not z && not w)) ≡ false
        no_reason x y true w p q = ap (λ t. t || false) p
        no_reason x y false w p q = absurd (false≢true q)

  -- what stands in the meets passes each test that such meets pass
  pub stand_some : (a b n : ℕ) (test : Meet → Bool) → ((m : Meet) → m.first ≡ a → m.second ≡ b → least_of core [] m ≤ n → test m ≡ true) → stand core meets a b n ≡ true → list_any test meets ≡ true
  stand_some a b n test h s = go meets s
    where
      go : (ms : List Meet) → list_any (λ (m : Meet). ((m.first == a) && (m.second == b)) && nat_le (least_of core meets m) n) ms ≡ true → list_any test ms ≡ true
      go [] s = absurd (false≢true s)
      go (m ∷ ms) s = choose (λ x. go ms x) (((m.first == a) && (m.second == b)) && nat_le (least_of core meets m) n) refl s
        where
          here : (((m.first == a) && (m.second == b)) && nat_le (least_of core meets m) n) ≡ true → test m ≡ true
          here e =
              let outer = and_parts ((m.first == a) && (m.second == b)) (nat_le (least_of core meets m) n) e in
              let ends = and_parts (m.first == a) (m.second == b) outer.0 in
              h m (eqb-true _ _ ends.0) (eqb-true _ _ ends.1) (leb-true _ _ outer.1)

          choose : (list_any (λ (m : Meet). ((m.first == a) && (m.second == b)) && nat_le (least_of core meets m) n) ms ≡ true → list_any test ms ≡ true) → (t : Bool) → (((m.first == a) && (m.second == b)) && nat_le (least_of core meets m) n) ≡ t → (t || (list_any (λ (m : Meet). ((m.first == a) && (m.second == b)) && nat_le (least_of core meets m) n) ms)) ≡ true
              → (test m || list_any test ms) ≡ true
          choose rest true e s = ap (λ t. t || list_any test ms) (here e)
          choose rest false e s = other (test m) (rest s)
            where
              other : (x : Bool) → list_any test ms ≡ true → (x || list_any test ms) ≡ true
              other true q = refl
              other false q = q
