-- The events of an inner body come in order, by times that are right for meets in which its events stand.
use Rattle.std.proofs.Common.{◌≡◌, ℕ, zero, suc, ◌+◌, ◌-◌, ◌*◌, ◌<◌, ◌≤◌, ◌⊎◌, inl, inr, Bool, true, false, cond, ℤ, List, [], ◌∷◌, ◌++◌, length, append_assoc, arith, refl, sym, subst, ap, ◌∙◌, le-leb}
use Rattle.std.proofs.lemmas.Bool.{and_parts, eq-eqb, eqb-true, leb-true, lt-ltb, ne_eqb, true≢false, false≢true}
use Rattle.std.proofs.Math.Nat.{suc-mul, add-mul, mul-le-mul_right}
use Rattle.std.specs.List.{list_all, list_any}
use Rattle.std.specs.Prelude.{◌==◌, ◌&&◌, ◌||◌, not, nat_le, flat_map, slice_index, Option, Some, None}
use Rattle.sp_bank.specs.Banking.{Banking}
use Rattle.sp_core.specs.declared.access.Meet.{Meet}
use Rattle.sp_core.specs.declared.operation.OpKind.{OpKind}
use Rattle.sp_core.specs.declared.operation.OpKind.TheVariants as kind
use Rattle.sp_core.specs.Events.{Act, At, Standing, inside_at, in_group_of, Event, Moment, touches, slices, renews, keeps, act_of, event_of, entry_moments, events_of, renewal_in_body}
use Rattle.sp_core.specs.History.{Entry, left_out, gave, touched}
use Rattle.sp_core.specs.Latency.{latency_by, read_of, latency}
use Rattle.sp_core.specs.Meeting.{changes, is_one_element, is_group, go_on, together_at, together, in_loop, nowhere, is_in_stream, owns, share_port, least_of, stand, stand_apart, do_stand, is_met, are_met}
use Rattle.sp_core.specs.PlainCore.{PlainOp, PlainCore}
use Rattle.sp_modulo.specs.Times.{end_of}
use Rattle.sp_plan.specs.Bodies.{is_kept, latencies, are_in_turn, keep_orders, are_times_right}
use Rattle.sp_plan.specs.Orders.{op_at, change_gap, is_in_body, meet_order, meet_orders}
use Rattle.sp_plan.specs.PlainPlan.{PlainNodePlan, inner_plan, PlainPlan}
use Rattle.sp_plan.specs.Ports.{is_change}
use Rattle.sp_time.specs.Lists.{Each, Pairs}
use Rattle.sp_machine.specs.InOrder.{is_done, does_change, share_place, Clash, AreInOrder, IsPlaced, BodiesInOrder}
use Rattle.sp_machine.specs.Laws.{told}
use Rattle.sp_machine.specs.Stamps.{Stamped, Copies, stamped, list_stamped}
use Rattle.sp_machine.specs.Timeline.{body_events, issued}
use Rattle.sp_machine.specs.Transfers.{Delays}
use Rattle.sp_machine.proofs.AtOnce.{renewals_idle}

-- tests of all and of some
all_append : {A : Type 0} (p : A → Bool) (a b : List A) → list_all p (a ++ b) ≡ true → (list_all p a ≡ true) × (list_all p b ≡ true)
all_append p [] b h = (refl, h)
all_append p (x ∷ a) b h = let h2 = and_parts (p x) (list_all p (a ++ b)) h in let r = all_append p a b h2.1 in (both (p x) (list_all p a) h2.0 r.0, r.1)
  where
    both : (x y : Bool) → x ≡ true → y ≡ true → (x && y) ≡ true
    both true y e f = f
    both false y e f = e

-- where one of a list passes a test, what all of a list keep that is made of each, it keeps
some_of : {A B : Type 0} (p : B → Bool) (f : A → List B) (q : A → Bool) (xs : List A) → list_all p (flat_map f xs) ≡ true → list_any q xs ≡ true → (x : A) × (q x ≡ true) × (list_all p (f x) ≡ true)
some_of {A = A} p f q [] h k = absurd (false≢true k)
some_of {A = A} p f q (x ∷ xs) h k = choose (q x) refl (all_append p (f x) (flat_map f xs) h) (λ u v. some_of p f q xs u v) k
  where
    choose : (b : Bool) → q x ≡ b → (list_all p (f x) ≡ true) × (list_all p (flat_map f xs) ≡ true) → (list_all p (flat_map f xs) ≡ true → list_any q xs ≡ true → (x : A) × (q x ≡ true) × (list_all p (f x) ≡ true)) → (q x || list_any q xs) ≡ true
        → (x : A) × (q x ≡ true) × (list_all p (f x) ≡ true)
    choose true e both rest k = (x, e, both.0)
    choose false e both rest k = rest both.1 (ap (λ b. b || list_any q xs) (sym e) ∙ k)

pub or_false : (x y : Bool) → x ≡ false → (x || y) ≡ true → y ≡ true
or_false true y e h = absurd (true≢false e)
or_false false y e h = h

module _ (core : PlainCore) (k : ℕ) (st : Standing) (placed : IsPlaced core k st) where
  abbrev at : ℕ → At
  at g = record { node = k; when = in_group_of g 0 }

  -- two events in groups of the body are compared over it
  meet_there : (g h : ℕ) (path : List At) → Each (λ (a : At). (is_in_stream core a.node ≡ false) × (is_group a.when a.when ≡ true)) path → together core (path ++ at g ∷ []) (path ++ at h ∷ []) ≡ in_loop k g h true
  meet_there g h [] e = ap (λ b. cond b (in_loop k g h true) nowhere) (here (k == k) (is_in_stream core k) (eq-eqb k k refl) placed.no_stream)
    where
      here : (x y : Bool) → x ≡ true → y ≡ false → (x && not y) ≡ true
      here true true p q = absurd (true≢false q)
      here true false p q = refl
      here false y p q = absurd (false≢true p)
  meet_there g h (a ∷ path) e =
      ap (λ b. cond (b && not (is_in_stream core a.node)) (cond (go_on (path ++ at g ∷ []) (path ++ at h ∷ [])) (cond (is_group a.when a.when) (together core (path ++ at g ∷ []) (path ++ at h ∷ [])) nowhere) (together_at a.node a.when a.when)) nowhere) (eq-eqb a.node a.node refl)
      ∙ ap (λ b. cond (not b) (cond (go_on (path ++ at g ∷ []) (path ++ at h ∷ [])) (cond (is_group a.when a.when) (together core (path ++ at g ∷ []) (path ++ at h ∷ [])) nowhere) (together_at a.node a.when a.when)) nowhere) e.0.0
      ∙ ap (λ b. cond b (cond (is_group a.when a.when) (together core (path ++ at g ∷ []) (path ++ at h ∷ [])) nowhere) (together_at a.node a.when a.when)) (goes path)
      ∙ ap (λ b. cond b (together core (path ++ at g ∷ []) (path ++ at h ∷ [])) nowhere) e.0.1
      ∙ meet_there g h path e.1
    where
      goes : (path : List At) → go_on (path ++ at g ∷ []) (path ++ at h ∷ []) ≡ true
      goes [] = eq-eqb k k refl
      goes (b ∷ path) = eq-eqb b.node b.node refl

  module _ (meets : List Meet) where
    -- two events of the body that touch one element, of which one changes it, stand in the meets
    stands : (e f : Event) (g h : ℕ) → e.standing.path ≡ st.path ++ at g ∷ [] → f.standing.path ≡ st.path ++ at h ∷ [] → is_met core meets e f ≡ true → e.mem ≡ f.mem → is_one_element core e f ≡ true → (changes e.act || changes f.act) ≡ true
        → stand_apart core meets e f (h - g) ≡ true
    stands e f g h p q met same one some =
        let there : together core e.standing.path f.standing.path ≡ in_loop k g h true = ap (λ x. together core x f.standing.path) p ∙ ap (together core (st.path ++ at g ∷ [])) q ∙ meet_there g h st.path placed.around in
        let a : do_stand core meets e f (together core e.standing.path f.standing.path) ≡ true = or_false _ _ (no_test (e.mem == f.mem) (changes e.act || changes f.act) (eq-eqb _ _ same) some) met in
        let b : do_stand core meets e f (in_loop k g h true) ≡ true = ap (do_stand core meets e f) (sym there) ∙ a in
        or_false _ _ (no_reason (owns core k e.mem) (not (g == h)) (is_one_element core e f) (placed.no_owner e.mem) one) b
      where
        no_test : (x y : Bool) → x ≡ true → y ≡ true → (not x || not y) ≡ false
        no_test true true p q = refl
        no_test true false p q = absurd (false≢true q)
        no_test false y p q = absurd (false≢true p)

        no_reason : (x y z : Bool) → x ≡ false → z ≡ true → ((x && y) || (not z && not (share_port core e k true))) ≡ false
        no_reason true y z p q = absurd (true≢false p)
        no_reason false y true p q = refl
        no_reason false y false p q = absurd (false≢true q)

-- of each two, moments that are events are met
abbrev pub MomentsMet : PlainCore → List Meet → Moment → Moment → Type 0
MomentsMet core meets (touches e) (touches f) = is_met core meets e f ≡ true
MomentsMet core meets (touches e) _ = Unit {0}
MomentsMet core meets _ _ = Unit {0}

abbrev pub AreMet : PlainCore → List Meet → Stamped → Stamped → Type 0
AreMet core meets s t = MomentsMet core meets s.moment t.moment

each_met : (core : PlainCore) (meets : List Meet) (e : Event) (xs : List Stamped) → list_all (is_met core meets e) (events_of (told xs)) ≡ true → Each (λ t. MomentsMet core meets (touches e) t.moment) xs
each_met core meets e [] h = tt
each_met core meets e (x ∷ xs) h = go (λ h. each_met core meets e xs h) x.moment h
  where
    go : (list_all (is_met core meets e) (events_of (told xs)) ≡ true → Each (λ t. MomentsMet core meets (touches e) t.moment) xs) → (m : Moment) → list_all (is_met core meets e) (events_of (m ∷ told xs)) ≡ true
        → MomentsMet core meets (touches e) m × Each (λ t. MomentsMet core meets (touches e) t.moment) xs
    go rest (touches f) h = let a = and_parts (is_met core meets e f) (list_all (is_met core meets e) (events_of (told xs))) h in (a.0, rest a.1)
    go rest (slices x) h = (tt, rest h)
    go rest (renews m) h = (tt, rest h)
    go rest (keeps m w) h = (tt, rest h)

each_free : (core : PlainCore) (meets : List Meet) (m : Moment) (xs : List Stamped) → ((n : Moment) → MomentsMet core meets m n) → Each (λ t. MomentsMet core meets m t.moment) xs
each_free core meets m [] h = tt
each_free core meets m (x ∷ xs) h = (h x.moment, each_free core meets m xs h)

pub pairs_met : (core : PlainCore) (meets : List Meet) (xs : List Stamped) → are_met core meets (events_of (told xs)) ≡ true → Pairs (AreMet core meets) xs
pairs_met core meets [] h = tt
pairs_met core meets (x ∷ xs) h = go (λ h. pairs_met core meets xs h) x.moment h
  where
    go : (are_met core meets (events_of (told xs)) ≡ true → Pairs (AreMet core meets) xs) → (m : Moment) → are_met core meets (events_of (m ∷ told xs)) ≡ true
        → Each (λ t. MomentsMet core meets m t.moment) xs × Pairs (AreMet core meets) xs
    go rest (touches e) h = let a = and_parts (list_all (is_met core meets e) (events_of (told xs))) (are_met core meets (events_of (told xs))) h in (each_met core meets e xs a.0, rest a.1)
    go rest (slices x) h = (each_free core meets (slices x) xs (λ n. tt), rest h)
    go rest (renews m) h = (each_free core meets (renews m) xs (λ n. tt), rest h)
    go rest (keeps m w) h = (each_free core meets (keeps m w) xs (λ n. tt), rest h)

-- a group and a place in the body, no earlier than another one
abbrev Later : (g i h j : ℕ) → Type 0
Later g i h j = (g < h) ⊎ ((g ≡ h) × (i ≤ j))

later_on : (g i h j a b : ℕ) → Later g i h j → Later h j a b → Later g i a b
later_on g i h j a b (inl p) (inl q) = inl (omega arith)
later_on g i h j a b (inl p) (inr q) = inl (let e : h ≡ a = q.0 in omega arith)
later_on g i h j a b (inr p) (inl q) = inl (let e : g ≡ h = p.0 in omega arith)
later_on g i h j a b (inr p) (inr q) = inr (p.0 ∙ q.0, (let x : i ≤ j = p.1 in let y : j ≤ b = q.1 in omega arith))

abbrev pub changes_of : Option Act → Bool
changes_of None = false
changes_of (Some b) = changes b

abbrev pub is_none_of : Option Act → Type 0
is_none_of None = Unit {0}
is_none_of (Some b) = ⊥

pub act_changes : (kd : OpKind) (w : ℕ) (a : Act) → act_of kd w ≡ Some a → changes a ≡ is_change kd
act_changes kind.Read w a e = ap changes_of (sym e)
act_changes kind.Write w a e = ap changes_of (sym e)
act_changes kind.Enq w a e = ap changes_of (sym e)
act_changes kind.Deq w a e = ap changes_of (sym e)
act_changes kind.Reset w a e = ap changes_of (sym e)
act_changes kd w a e = absurd (subst is_none_of e tt)

-- what a change takes
pub change_takes : (kd : OpKind) (read : ℕ) → is_change kd ≡ true → 1 ≤ latency_by kd read
change_takes kind.Write read e = omega arith
change_takes kind.Enq read e = omega arith
change_takes kind.Deq read e = omega arith
change_takes kind.Reset read e = omega arith
change_takes kd read e = absurd (false≢true e)

-- times one after the other
turn_from : (core : PlainCore) (b : ℕ) (ops : List PlainOp) (times : List ℕ) → are_in_turn core b ops times ≡ true → (j : ℕ) → j < length ops → b ≤ slice_index times j
turn_from core b [] times h j l = absurd (omega (arith, l))
turn_from core b (op ∷ ops) [] h j l = absurd (false≢true h)
turn_from core b (op ∷ ops) (s ∷ times) h zero l = let a : s ≡ b = eqb-true _ _ (and_parts (s == b) (are_in_turn core (b + latency core op) ops times) h).0 in omega arith
turn_from core b (op ∷ ops) (s ∷ times) h (suc j) l =
    let a : b + latency core op ≤ slice_index times j = turn_from core (b + latency core op) ops times (and_parts (s == b) (are_in_turn core (b + latency core op) ops times) h).1 j (let q : suc j < suc (length ops) = l in omega arith) in
    omega arith

turn_after : (core : PlainCore) (b : ℕ) (ops : List PlainOp) (times : List ℕ) → are_in_turn core b ops times ≡ true → (j r : ℕ) → j < r → r < length ops → slice_index times j + latency core (op_at core ops j) ≤ slice_index times r
turn_after core b [] times h j r l q = absurd (omega (arith, q))
turn_after core b (op ∷ ops) [] h j r l q = absurd (false≢true h)
turn_after core b (op ∷ ops) (s ∷ times) h j zero l q = absurd (omega (arith, l))
turn_after core b (op ∷ ops) (s ∷ times) h zero (suc r) l q =
    let t = and_parts (s == b) (are_in_turn core (b + latency core op) ops times) h in
    let a : s ≡ b = eqb-true _ _ t.0 in
    let c : b + latency core op ≤ slice_index times r = turn_from core (b + latency core op) ops times t.1 r (let x : suc r < suc (length ops) = q in omega arith) in
    omega arith
turn_after core b (op ∷ ops) (s ∷ times) h (suc j) (suc r) l q =
    turn_after core (b + latency core op) ops times (and_parts (s == b) (are_in_turn core (b + latency core op) ops times) h).1 j r (omega arith) (let x : suc r < suc (length ops) = q in omega arith)

turn_ends : (core : PlainCore) (b : ℕ) (ops : List PlainOp) (times : List ℕ) → are_in_turn core b ops times ≡ true → (j : ℕ) → j < length ops → slice_index times j + latency core (op_at core ops j) ≤ end_of (latencies core ops) times
turn_ends core b [] times h j l = absurd (omega (arith, l))
turn_ends core b (op ∷ ops) [] h j l = absurd (false≢true h)
turn_ends core b (op ∷ ops) (s ∷ times) h zero l = omega arith
turn_ends core b (op ∷ ops) (s ∷ times) h (suc j) l =
    let a : slice_index times j + latency core (op_at core ops j) ≤ end_of (latencies core ops) times = turn_ends core (b + latency core op) ops times (and_parts (s == b) (are_in_turn core (b + latency core op) ops times) h).1 j (let q : suc j < suc (length ops) = l in omega arith) in
    omega arith

module _ (core : PlainCore) (schemes : List (Option Banking)) (meets : List Meet) (k number : ℕ) (st : Standing) (placed : IsPlaced core k st) (ops : List PlainOp) (times : List ℕ) (ii latency_is : ℕ) where
  -- the event of an operation in a group
  record IsTouch (g i : ℕ) (s : Stamped) : Type 0 where
    pub event : Event
    pub is : s.moment ≡ touches event
    pub numbered : event.number ≡ number + i
    pub path : event.standing.path ≡ st.path ++ at core k st placed g ∷ []
    pub cycle : s.cycle ≡ 1 + g * ii + slice_index times i
    pub inside : i < length ops
    pub change : changes event.act ≡ is_change (op_at core ops i).kind

  -- touches whose groups and places rise
  abbrev Rising : (g i : ℕ) → List Stamped → Type 0
  Rising g i [] = Unit {0}
  Rising g i (s ∷ rest) = ((is_done core s.moment ≡ false) × Rising g i rest) ⊎ ((h : ℕ) × (j : ℕ) × Later g i h j × IsTouch h j s × Rising h (suc j) rest)

  rising_from : (g i h j : ℕ) → Later g i h j → (xs : List Stamped) → Rising h j xs → Rising g i xs
  rising_from g i h j l [] r = tt
  rising_from g i h j l (x ∷ xs) (inl r) = inl (r.0, rising_from g i h j l xs r.1)
  rising_from g i h j l (x ∷ xs) (inr r) = inr (r.0, r.1, later_on g i h j r.0 r.1 l r.2, r.3, r.4)

  abbrev LaterTouch : (g i : ℕ) → Stamped → Type 0
  LaterTouch g i t = (is_done core t.moment ≡ false) ⊎ ((h : ℕ) × (j : ℕ) × Later g i h j × IsTouch h j t)

  each_weaker : (g i h j : ℕ) → Later g i h j → (xs : List Stamped) → Each (LaterTouch h j) xs → Each (LaterTouch g i) xs
  each_weaker g i h j l [] e = tt
  each_weaker g i h j l (x ∷ xs) e = (go e.0, each_weaker g i h j l xs e.1)
    where
      go : LaterTouch h j x → LaterTouch g i x
      go (inl n) = inl n
      go (inr r) = inr (r.0, r.1, later_on g i h j r.0 r.1 l r.2, r.3)

  each_later : (g i : ℕ) (xs : List Stamped) → Rising g i xs → Each (LaterTouch g i) xs
  each_later g i [] r = tt
  each_later g i (x ∷ xs) (inl r) = (inl r.0, each_later g i xs r.1)
  each_later g i (x ∷ xs) (inr r) = (inr (r.0, r.1, r.2, r.3), each_weaker g i r.0 (suc r.1) (later_on g i r.0 r.1 r.0 (suc r.1) r.2 (inr (refl, omega arith))) xs (each_later r.0 (suc r.1) xs r.4))

  -- the orders of the times, and times one after the other
  module _ (serial : Bool) (right : are_times_right core schemes meets number false ops times ii latency_is serial ≡ true) where
    abbrev gap_at : ℕ → ℕ
    gap_at j = change_gap core ops number (op_at core ops j)

    -- by an order of the meets
    by_meet : keep_orders core schemes meets number ops times ii ≡ true → (a b j r n : ℕ) → a ≡ number + j → b ≡ number + r → j < length ops → r < length ops → stand core meets a b n ≡ true
        → slice_index times j + gap_at j ≤ slice_index times r + n * ii
    by_meet kept a b j r n ea eb l q h = found (some_of (is_kept ii times) (meet_orders core ops number) (λ (m : Meet). ((m.first == a) && (m.second == b)) && nat_le (least_of core meets m) n) meets
        (all_append (is_kept ii times) (flat_map (meet_orders core ops number) meets) _ (all_append (is_kept ii times) _ _ kept).1).0 h)
      where
        found : (m : Meet) × ((((m.first == a) && (m.second == b)) && nat_le (least_of core meets m) n) ≡ true) × (list_all (is_kept ii times) (meet_orders core ops number m) ≡ true) → slice_index times j + gap_at j ≤ slice_index times r + n * ii
        found x =
            let m : Meet = x.0 in
            let outer = and_parts ((m.first == a) && (m.second == b)) (nat_le (least_of core meets m) n) x.1 in
            let ends = and_parts (m.first == a) (m.second == b) outer.0 in
            let first : m.first ≡ number + j = eqb-true _ _ ends.0 ∙ ea in
            let second : m.second ≡ number + r = eqb-true _ _ ends.1 ∙ eb in
            let least : least_of core meets m ≤ n = leb-true _ _ outer.1 in
            let in_first : is_in_body core ops number m.first ≡ true = in_body m.first j first l in
            let in_second : is_in_body core ops number m.second ≡ true = in_body m.second r second q in
            let some : list_all (is_kept ii times) (meet_order core ops number m ∷ []) ≡ true =
            ap (λ y. list_all (is_kept ii times) (cond y (meet_order core ops number m ∷ []) [])) (sym (two_true (is_in_body core ops number m.first) (is_in_body core ops number m.second) in_first in_second)) ∙ x.2 in
            let order : slice_index times (m.first - number) + change_gap core ops number (op_at core ops (m.first - number)) ≤ slice_index times (m.second - number) + least_of core [] m * ii = leb-true _ _ (and_parts _ true some).0 in
            let fj : m.first - number ≡ j = omega arith in
            let fr : m.second - number ≡ r = omega arith in
            let moved : slice_index times j + gap_at j ≤ slice_index times r + least_of core [] m * ii =
            subst (λ y. slice_index times y + gap_at y ≤ slice_index times r + least_of core [] m * ii) fj (subst (λ y. slice_index times (m.first - number) + gap_at (m.first - number) ≤ slice_index times y + least_of core [] m * ii) fr order) in
            let more : least_of core [] m * ii ≤ n * ii = mul-le-mul_right ii least in
            omega arith
          where
            two_true : (x y : Bool) → x ≡ true → y ≡ true → (x && y) ≡ true
            two_true true y e f = f
            two_true false y e f = e

            in_body : (n i : ℕ) → n ≡ number + i → i < length ops → is_in_body core ops number n ≡ true
            in_body n i e l = two_true _ _ (le-leb number n (omega arith)) (lt-ltb (n - number) (length ops) (let d : n - number ≡ i = omega arith in subst (λ y. y < length ops) (sym d) l))

    -- where one event of an operation changes its memory and another one comes later in the order of the text
    apart : (h j g r : ℕ) → j < length ops → r < length ops → Later h (suc j) g r → (e f : Event) → e.number ≡ number + j → f.number ≡ number + r → stand_apart core meets e f (g - h) ≡ true
        → h * ii + slice_index times j + gap_at j ≤ g * ii + slice_index times r
    apart h j g r l q later e f en fn s = go serial right
      where
        other : ((e.number == f.number) && (g - h == 0)) ≡ false
        other = elim later [
          | inl p ↦ and_no (e.number == f.number) _ (ne_eqb (g - h) 0 (λ z. absurd (omega (arith, z, p))))
          | inr p ↦ no_and (e.number == f.number) _ (ne_eqb e.number f.number (λ z. let x : suc j ≤ r = p.1 in absurd (omega (arith, z, en, fn, x))))
        ]
          where
            and_no : (x y : Bool) → y ≡ false → (x && y) ≡ false
            and_no true y e = e
            and_no false y e = refl

            no_and : (x y : Bool) → x ≡ false → (x && y) ≡ false
            no_and true y e = absurd (true≢false e)
            no_and false y e = refl

        groups : h * ii + (g - h) * ii ≤ g * ii
        groups = elim later [
          | inl p ↦ let d : h + (g - h) ≡ g = omega arith in let x : h * ii + (g - h) * ii ≡ (h + (g - h)) * ii = sym (add-mul h (g - h) ii) in let y : (h + (g - h)) * ii ≡ g * ii = ap (λ n. n * ii) d in omega arith
          | inr p ↦ let x : h ≡ g = p.0 in let z : g - h ≡ 0 = omega arith in let y : (g - h) * ii ≡ 0 * ii = ap (λ n. n * ii) z in let w : h * ii ≡ g * ii = ap (λ n. n * ii) x in omega arith
        ]

        go : (serial : Bool) → are_times_right core schemes meets number false ops times ii latency_is serial ≡ true → h * ii + slice_index times j + gap_at j ≤ g * ii + slice_index times r
        go false w =
            let kept : keep_orders core schemes meets number ops times ii ≡ true = (and_parts (nat_le 1 ii && (latency_is == end_of (latencies core ops) times)) (keep_orders core schemes meets number ops times ii) w).1 in
            let a : slice_index times j + gap_at j ≤ slice_index times r + (g - h) * ii = by_meet kept e.number f.number j r (g - h) en fn l q (or_false _ _ other s) in
            let b : h * ii + (g - h) * ii ≤ g * ii = groups in
            omega arith
        go true w =
            let parts = and_parts (nat_le 1 ii && (latency_is == end_of (latencies core ops) times)) (are_in_turn core 0 ops times && nat_le latency_is ii) w in
            let turn : are_in_turn core 0 ops times ≡ true = (and_parts (are_in_turn core 0 ops times) (nat_le latency_is ii) parts.1).0 in
            let short : latency_is ≤ ii = leb-true _ _ (and_parts (are_in_turn core 0 ops times) (nat_le latency_is ii) parts.1).1 in
            let ends : latency_is ≡ end_of (latencies core ops) times = eqb-true _ _ (and_parts (nat_le 1 ii) (latency_is == end_of (latencies core ops) times) parts.0).1 in
            let gap : gap_at j ≤ latency core (op_at core ops j) = gap_under (is_change (op_at core ops j).kind) refl in
            elim later [
              | inl p ↦
                  let over : slice_index times j + latency core (op_at core ops j) ≤ end_of (latencies core ops) times = turn_ends core 0 ops times turn j l in
                  let one : suc h * ii ≤ g * ii = mul-le-mul_right ii p in
                  let two : suc h * ii ≡ h * ii + ii = suc-mul h ii in
                  omega arith
              | inr p ↦
                  let over : slice_index times j + latency core (op_at core ops j) ≤ slice_index times r = turn_after core 0 ops times turn j r p.1 q in
                  let same : h * ii ≡ g * ii = ap (λ n. n * ii) p.0 in
                  omega arith
            ]
          where
            gap_under : (c : Bool) → is_change (op_at core ops j).kind ≡ c → cond c 1 0 ≤ latency core (op_at core ops j)
            gap_under true e = change_takes (op_at core ops j).kind (read_of core (op_at core ops j).mem) e
            gap_under false e = omega arith

    -- so two touches of the body are in order
    two_touches : (h j g r : ℕ) → Later h (suc j) g r → (s t : Stamped) → (a : IsTouch h j s) → (b : IsTouch g r t) → is_met core meets a.event b.event ≡ true → AreInOrder core s t
    two_touches h j g r later s t a b met = record {
      for_change = λ c some.
          let e : changes a.event.act ≡ true = ap does_change (sym a.is) ∙ some in
          let l : h * ii + slice_index times j + gap_at j ≤ g * ii + slice_index times r = least c (ap (λ x. x || changes b.event.act) e) in
          let one : gap_at j ≡ 1 = ap (λ x. cond x 1 0) (sym a.change ∙ e) in
          let x : s.cycle ≡ 1 + h * ii + slice_index times j = a.cycle in
          let y : t.cycle ≡ 1 + g * ii + slice_index times r = b.cycle in
          omega arith;
      for_look = λ c some.
          let e : changes b.event.act ≡ true = ap does_change (sym b.is) ∙ some in
          let l : h * ii + slice_index times j + gap_at j ≤ g * ii + slice_index times r = least c (or_true (changes a.event.act) (changes b.event.act) e) in
          let x : s.cycle ≡ 1 + h * ii + slice_index times j = a.cycle in
          let y : t.cycle ≡ 1 + g * ii + slice_index times r = b.cycle in
          omega arith;
    }
      where
        or_true : (x y : Bool) → y ≡ true → (x || y) ≡ true
        or_true true y e = refl
        or_true false y e = e

        least : Clash core s t → (changes a.event.act || changes b.event.act) ≡ true → h * ii + slice_index times j + gap_at j ≤ g * ii + slice_index times r
        least c some =
            let place : share_place core (touches a.event) (touches b.event) ≡ true = ap (λ m. share_place core m (touches b.event)) (sym a.is) ∙ ap (λ m. share_place core s.moment m) (sym b.is) ∙ c.place in
            let parts = and_parts (a.event.mem == b.event.mem) (is_one_element core a.event b.event) place in
            apart h j g r a.inside b.inside later a.event b.event a.numbered b.numbered
            (stands core k st placed meets a.event b.event h g a.path b.path met (eqb-true _ _ parts.0) parts.1 some)

    -- a touch and what comes later; a moment at which there is nothing to do
    nothing_later : (s t : Stamped) → is_done core t.moment ≡ false → AreInOrder core s t
    nothing_later s t n = record { for_change = λ c x. absurd (true≢false (sym c.second ∙ n)); for_look = λ c x. absurd (true≢false (sym c.second ∙ n)) }

    nothing_before : (s t : Stamped) → is_done core s.moment ≡ false → AreInOrder core s t
    nothing_before s t n = record { for_change = λ c x. absurd (true≢false (sym c.first ∙ n)); for_look = λ c x. absurd (true≢false (sym c.first ∙ n)) }

    one_later : (h j : ℕ) (s t : Stamped) → IsTouch h j s → LaterTouch h (suc j) t → AreMet core meets s t → AreInOrder core s t
    one_later h j s t a (inl n) met = nothing_later s t n
    one_later h j s t a (inr r) met =
        let b : IsTouch r.0 r.1 t = r.3 in
        two_touches h j r.0 r.1 r.2 s t a b (subst (λ m. MomentsMet core meets (touches a.event) m) b.is (subst (λ m. MomentsMet core meets m t.moment) a.is met))

    all_later : (h j : ℕ) (s : Stamped) → IsTouch h j s → (xs : List Stamped) → Each (LaterTouch h (suc j)) xs → Each (AreMet core meets s) xs → Each (AreInOrder core s) xs
    all_later h j s a [] l m = tt
    all_later h j s a (x ∷ xs) l m = (one_later h j s x a l.0 m.0, all_later h j s a xs l.1 m.1)

    nothing_free : (s : Stamped) → is_done core s.moment ≡ false → (xs : List Stamped) → Each (AreInOrder core s) xs
    nothing_free s n [] = tt
    nothing_free s n (x ∷ xs) = (nothing_before s x n, nothing_free s n xs)

    pairs_in_order : (g i : ℕ) (xs : List Stamped) → Rising g i xs → Pairs (AreMet core meets) xs → Pairs (AreInOrder core) xs
    pairs_in_order g i [] r m = tt
    pairs_in_order g i (x ∷ xs) (inl r) m = (nothing_free x r.0 xs, pairs_in_order g i xs r.1 m.1)
    pairs_in_order g i (x ∷ xs) (inr r) m = (all_later r.0 r.1 x r.3 xs (each_later r.0 (suc r.1) xs r.4) m.0, pairs_in_order r.0 (suc r.1) xs r.4 m.1)

  -- the groups of a body rise
  rising_skip : (g i : ℕ) (copies : Copies) (cycle : ℕ) (ms : List Moment) → Each (λ m. is_done core m ≡ false) ms → (rest : List Stamped) → Rising g i rest → Rising g i (stamped copies cycle ms ++ rest)
  rising_skip g i copies cycle [] e rest r = r
  rising_skip g i copies cycle (m ∷ ms) e rest r = inl (e.0, rising_skip g i copies cycle ms e.1 rest r)

  abbrev at_group : ℕ → List ℤ → Standing
  at_group g v = inside_at st k (in_group_of g 0) v

  one_entry : (copies : Copies) (g i n : ℕ) (v : List ℤ) (op : PlainOp) (e : Entry) → n ≡ number + i → i < length ops → op_at core ops i ≡ op → (rest : List Stamped) → Rising g (suc i) rest
      → Rising g i (stamped copies (1 + g * ii + slice_index times i) (entry_moments n (at_group g v) op.kind op.mem e) ++ rest)
  one_entry copies g i n v op left_out en l same rest r = rising_from g i g (suc i) (inr (refl, omega arith)) rest r
  one_entry copies g i n v op (gave w) en l same rest r = rising_from g i g (suc i) (inr (refl, omega arith)) rest r
  one_entry copies g i n v op (touched is w) en l same rest r = by_mem op.mem (act_of op.kind w) (λ a q. act_changes op.kind w a q)
    where
      by_mem : (m : Option ℕ) (act : Option Act) → ((a : Act) → act ≡ Some a → changes a ≡ is_change op.kind) → Rising g i (stamped copies (1 + g * ii + slice_index times i) (event_of n (at_group g v) m is act) ++ rest)
      by_mem None act q = rising_from g i g (suc i) (inr (refl, omega arith)) rest r
      by_mem (Some m) None q = rising_from g i g (suc i) (inr (refl, omega arith)) rest r
      by_mem (Some m) (Some a) q = inr (
        g,
        i,
        inr (refl, omega arith),
        record {
          event = record { number = n; standing = at_group g v; mem = m; indices = is; act = a };
          is = refl;
          numbered = en;
          path = refl;
          cycle = refl;
          inside = l;
          change = q a refl ∙ ap (λ (o : PlainOp). is_change o.kind) (sym same);
        },
        r,
      )

  list_rises : (copies : Copies) (g i n : ℕ) (v : List ℤ) (left : List PlainOp) (es : List Entry) → n ≡ number + i → i + length left ≡ length ops → ((m : ℕ) → op_at core ops (i + m) ≡ op_at core left m) → (rest : List Stamped) → Rising (suc g) 0 rest
      → Rising g i (list_stamped copies (λ j. 1 + g * ii + slice_index times j) i n (at_group g v) left es ++ rest)
  list_rises copies g i n v [] es en el same rest r = rising_from g i (suc g) 0 (inl (omega arith)) rest r
  list_rises copies g i n v (op ∷ left) [] en el same rest r = rising_from g i (suc g) 0 (inl (omega arith)) rest r
  list_rises copies g i n v (op ∷ left) (e ∷ es) en el same rest r =
      let more : Rising g (suc i) (list_stamped copies (λ j. 1 + g * ii + slice_index times j) (suc i) (suc n) (at_group g v) left es ++ rest) =
      list_rises copies g (suc i) (suc n) v left es (omega arith) (omega arith) (λ m. ap (op_at core ops) (let q : suc i + m ≡ i + suc m = omega arith in q) ∙ same (suc m)) rest r in
      subst (Rising g i) (sym (append_assoc (stamped copies (1 + g * ii + slice_index times i) (entry_moments n (at_group g v) op.kind op.mem e)) (list_stamped copies (λ j. 1 + g * ii + slice_index times j) (suc i) (suc n) (at_group g v) left es) rest))
      (one_entry copies g i n v op e en (omega arith) (ap (op_at core ops) (let q : i ≡ i + 0 = omega arith in q) ∙ same 0) _ more)

  body_rises : (plan : PlainPlan) (delays : Delays) (serial : Bool) (copies : Copies) (g : ℕ) (owned : List ℕ) (values : List (List ℤ)) (groups : List (List Entry))
      → Rising g 0 (body_events core plan delays (inner_plan times ii latency_is serial) copies k number g st owned ops values groups)
  body_rises plan delays serial copies g owned (v ∷ values) (es ∷ groups) =
      let p : PlainNodePlan = inner_plan times ii latency_is serial in
      let rest : List Stamped = body_events core plan delays p copies k number (suc g) st owned ops values groups in
      let listed : List Stamped = list_stamped copies (λ j. 1 + g * ii + slice_index times j) 0 number (at_group g v) ops es in
      subst (Rising g 0) (sym (append_assoc (stamped copies (issued core plan delays p g) (flat_map (renewal_in_body core) owned)) listed rest))
      (rising_skip g 0 copies (issued core plan delays p g) (flat_map (renewal_in_body core) owned) (renewals_idle core owned) (listed ++ rest)
      (list_rises copies g 0 number v ops es (omega arith) (omega arith) (λ m. ap (op_at core ops) (let q : 0 + m ≡ m = omega arith in q)) rest (body_rises plan delays serial copies (suc g) owned values groups)))
  body_rises plan delays serial copies g owned [] groups = tt
  body_rises plan delays serial copies g owned (v ∷ values) [] = tt

pub bodies_in_order : (core : PlainCore) (plan : PlainPlan) (delays : Delays) → BodiesInOrder core plan delays
bodies_in_order core plan delays schemes meets k number st copies owned ops times ii latency serial values groups placed right met =
    pairs_in_order core schemes meets k number st placed ops times ii latency serial right 0 0 _ (body_rises core schemes meets k number st placed ops times ii latency plan delays serial copies 0 owned values groups)
    (pairs_met core meets _ met)
