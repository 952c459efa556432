-- What happens in an inner body shares no port of a bank.
use Rattle.std.proofs.Common.{◌≡◌, ℕ, zero, suc, ◌+◌, ◌*◌, ◌<◌, ◌≤◌, ◌⊎◌, inl, inr, Bool, true, false, cond, ℤ, pos, List, [], ◌∷◌, ◌++◌, map, length, append_assoc, arith, refl, sym, subst, ap, ◌∙◌}
use Rattle.std.proofs.lemmas.Bool.{and_parts, eq-eqb, eqb-true, true≢false, false≢true}
use Rattle.std.specs.Prelude.{◌==◌, ◌&&◌, ◌||◌, not, flat_map, slice_index, slice_index_or, Option, Some, None, is_some}
use Rattle.std.specs.List.{list_all}
use Rattle.sp_affine.specs.Affine.{Affine}
use Rattle.sp_bank.specs.Banking.{Banking}
use Rattle.sp_core.specs.declared.access.Meet.{Meet}
use Rattle.sp_core.specs.declared.operation.OpKind.{OpKind}
use Rattle.sp_core.specs.declared.operation.OpKind.TheVariants as kind
use Rattle.sp_core.specs.Declarations.{mem, kind_of, dims}
use Rattle.sp_core.specs.Elements.{numbers_below}
use Rattle.sp_core.specs.Events.{Act, reads, writes, puts, takes, resets, turns, At, Standing, inside_at, in_group_of, Event, Moment, touches, slices, renews, keeps, act_of, event_of, entry_moments, events_of, renewal_in_body}
use Rattle.sp_core.specs.Forms.{PlainForms, form_at, are_indices, are_known_indices}
use Rattle.sp_core.specs.History.{Entry, left_out, gave, touched}
use Rattle.sp_core.specs.Meeting.{changes, element, is_one_element, are_met}
use Rattle.sp_core.specs.Numbered.{Numbered, plain, accesses, list_numbers, numbered}
use Rattle.sp_core.specs.OperationRules.{is_access}
use Rattle.sp_core.specs.PlainCore.{PlainOp, PlainCore}
use Rattle.sp_core.specs.Sequential.{has_reset}
use Rattle.sp_plan.specs.Bodies.{are_times_right}
use Rattle.sp_plan.specs.Groups.{have_one_linear_part, is_one_group, Apart, AreKeptApart, forms_by, rank_of, kind_at, known_forms, share_banks, is_grouped, are_grouped, AreSeparated}
use Rattle.sp_plan.specs.Orders.{op_at}
use Rattle.sp_plan.specs.PlainPlan.{PlainNodePlan, inner_plan, PlainPlan}
use Rattle.sp_plan.specs.Ports.{has_banks, is_one_mem, is_in_banks, share_port, scheme_at, is_serial}
use Rattle.sp_plan.specs.Ports as ports
use Rattle.sp_time.specs.Lists.{Each, Pairs}
use Rattle.sp_words.specs.declared.kind.Kind.{Kind}
use Rattle.sp_machine.specs.InOrder.{is_done, does_change, share_place, Clash, AreInOrder, IsPlaced}
use Rattle.sp_machine.specs.Stamps.{Stamped, Copies, stamped, list_stamped}
use Rattle.sp_machine.specs.Timeline.{body_events, issued}
use Rattle.sp_machine.specs.Transfers.{Delays}
use Rattle.sp_machine.proofs.InnerOrder.{bodies_in_order}
use Rattle.sp_ports.specs.Banks.{is_one_port, AreInOneBank, AreInBank, AreAtOnePort, SharePort, AreOneTap, IsAtForms, IsAtOwnForms, ShareNoPort}
use Rattle.sp_ports.specs.Laws.{IsLaterOperation, BodiesShareNoPort}
use Rattle.sp_ports.proofs.Linear.{schemes_keep_apart}
use Rattle.sp_ports.proofs.Numbers.{AreNumbered, list_many}
use Rattle.sp_ports.proofs.Turns.{and_true, all_below, ports_take_turns}

-- the port of an act, and of the operation that does it
abbrev looks : Option Act → Bool
looks (Some (reads w)) = true
looks _ = false

abbrev alters : Option Act → Bool
alters (Some (writes w)) = true
alters _ = false

by_read : (kd : OpKind) (w : ℕ) → looks (act_of kd w) ≡ true → kd ≡ kind.Read
by_read kind.Read w h = refl
by_read kd w h = absurd (false≢true h)

by_write : (kd : OpKind) (w : ℕ) → alters (act_of kd w) ≡ true → kd ≡ kind.Write
by_write kind.Write w h = refl
by_write kd w h = absurd (false≢true h)

abbrev OfOnePort : Act → Act → Type 0
OfOnePort a b = ((looks (Some a) ≡ true) × (looks (Some b) ≡ true)) ⊎ ((alters (Some a) ≡ true) × (alters (Some b) ≡ true))

of_one_port : (a b : Act) → is_one_port a b ≡ true → OfOnePort a b
of_one_port (reads v) (reads w) h = inl (refl, refl)
of_one_port (writes v) (writes w) h = inr (refl, refl)
of_one_port a b h = absurd (false≢true h)

by_one_port : (a b : OpKind) (v w : ℕ) (x y : Act) → act_of a v ≡ Some x → act_of b w ≡ Some y → is_one_port x y ≡ true → ports.is_one_port a b ≡ true
by_one_port a b v w x y p q h = elim (of_one_port x y h) [
  | inl t ↦ subst (λ k. ports.is_one_port k b ≡ true) (sym (by_read a v (ap looks p ∙ t.0))) (subst (λ k. ports.is_one_port kind.Read k ≡ true) (sym (by_read b w (ap looks q ∙ t.1))) refl)
  | inr t ↦ subst (λ k. ports.is_one_port k b ≡ true) (sym (by_write a v (ap alters p ∙ t.0))) (subst (λ k. ports.is_one_port kind.Write k ≡ true) (sym (by_write b w (ap alters q ∙ t.1))) refl)
]

-- reads change nothing, and writes do
looks_still : (a : Act) → looks (Some a) ≡ true → changes a ≡ false
looks_still (reads w) h = refl
looks_still a h = absurd (false≢true h)

alters_some : (a : Act) → alters (Some a) ≡ true → changes a ≡ true
alters_some (writes w) h = refl
alters_some a h = absurd (false≢true h)

-- no access: nothing shares a port with it
abbrev IsNone : Moment → Type 0
IsNone (touches e) = ⊥
IsNone _ = Unit {0}

none_first : (core : PlainCore) (schemes : List (Option Banking)) (m n : Moment) → IsNone m → AreAtOnePort core schemes m n → ⊥
none_first core schemes (touches e) n i p = i
none_first core schemes (slices x) n i p = p
none_first core schemes (renews x) n i p = p
none_first core schemes (keeps x w) n i p = p

none_second : (core : PlainCore) (schemes : List (Option Banking)) (m n : Moment) → IsNone n → AreAtOnePort core schemes m n → ⊥
none_second core schemes (touches e) (touches f) i p = i
none_second core schemes (touches e) (slices x) i p = p
none_second core schemes (touches e) (renews x) i p = p
none_second core schemes (touches e) (keeps x w) i p = p
none_second core schemes (slices x) n i p = p
none_second core schemes (renews x) n i p = p
none_second core schemes (keeps x w) n i p = p

-- a group and a place in the body, no earlier than another one
abbrev Later : (g i h j : ℕ) → Type 0
Later g i h j = (g < h) ⊎ ((g ≡ h) × (i ≤ j))

later_on : (g i h j a b : ℕ) → Later g i h j → Later h j a b → Later g i a b
later_on g i h j a b (inl p) (inl q) = inl (omega arith)
later_on g i h j a b (inl p) (inr q) = inl (let e : h ≡ a = q.0 in omega arith)
later_on g i h j a b (inr p) (inl q) = inl (let e : g ≡ h = p.0 in omega arith)
later_on g i h j a b (inr p) (inr q) = inr (p.0 ∙ q.0, (let x : i ≤ j = p.1 in let y : j ≤ b = q.1 in omega arith))

strictly : (h j g r : ℕ) → Later h (suc j) g r → IsLaterOperation h j g r
strictly h j g r (inl p) = inl p
strictly h j g r (inr p) = inr (p.0, (let x : suc j ≤ r = p.1 in omega arith))

-- by what stands around in each group
module _ (core : PlainCore) (number : ℕ) (standing_of : ℕ → Standing) (ops : List PlainOp) (times : List ℕ) (ii : ℕ) where
  -- the access of an operation in a group
  record IsTouch (g i : ℕ) (s : Stamped) : Type 0 where
    pub event : Event
    pub is : s.moment ≡ touches event
    pub numbered : event.number ≡ number + i
    pub standing : event.standing ≡ standing_of g
    pub cycle : s.cycle ≡ 1 + g * ii + slice_index times i
    pub inside : i < length ops
    pub word : ℕ
    pub act : act_of (op_at core ops i).kind word ≡ Some event.act
    pub mem : (op_at core ops i).mem ≡ Some event.mem

  -- accesses whose groups and places rise
  abbrev Rising : (g i : ℕ) → List Stamped → Type 0
  Rising g i [] = Unit {0}
  Rising g i (s ∷ rest) = (IsNone s.moment × Rising g i rest) ⊎ ((h : ℕ) × (j : ℕ) × Later g i h j × IsTouch h j s × Rising h (suc j) rest)

  rising_from : (g i h j : ℕ) → Later g i h j → (xs : List Stamped) → Rising h j xs → Rising g i xs
  rising_from g i h j l [] r = tt
  rising_from g i h j l (x ∷ xs) (inl r) = inl (r.0, rising_from g i h j l xs r.1)
  rising_from g i h j l (x ∷ xs) (inr r) = inr (r.0, r.1, later_on g i h j r.0 r.1 l r.2, r.3, r.4)

  abbrev LaterTouch : (g i : ℕ) → Stamped → Type 0
  LaterTouch g i t = IsNone t.moment ⊎ ((h : ℕ) × (j : ℕ) × Later g i h j × IsTouch h j t)

  each_weaker : (g i h j : ℕ) → Later g i h j → (xs : List Stamped) → Each (LaterTouch h j) xs → Each (LaterTouch g i) xs
  each_weaker g i h j l [] e = tt
  each_weaker g i h j l (x ∷ xs) e = (go e.0, each_weaker g i h j l xs e.1)
    where
      go : LaterTouch h j x → LaterTouch g i x
      go (inl n) = inl n
      go (inr r) = inr (r.0, r.1, later_on g i h j r.0 r.1 l r.2, r.3)

  each_later : (g i : ℕ) (xs : List Stamped) → Rising g i xs → Each (LaterTouch g i) xs
  each_later g i [] r = tt
  each_later g i (x ∷ xs) (inl r) = (inl r.0, each_later g i xs r.1)
  each_later g i (x ∷ xs) (inr r) = (inr (r.0, r.1, r.2, r.3), each_weaker g i r.0 (suc r.1) (later_on g i r.0 r.1 r.0 (suc r.1) r.2 (inr (refl, omega arith))) xs (each_later r.0 (suc r.1) xs r.4))

  -- what is asked of each two
  module _ (Q : Stamped → Stamped → Type 0) (none : (s t : Stamped) → IsNone s.moment → Q s t) (nothing : (s t : Stamped) → IsNone t.moment → Q s t)
      (two : (h j g r : ℕ) → Later h (suc j) g r → (s t : Stamped) → IsTouch h j s → IsTouch g r t → Q s t) where
    all_later : (h j : ℕ) (s : Stamped) → IsTouch h j s → (xs : List Stamped) → Each (LaterTouch h (suc j)) xs → Each (Q s) xs
    all_later h j s a [] l = tt
    all_later h j s a (x ∷ xs) l = (go l.0, all_later h j s a xs l.1)
      where
        go : LaterTouch h (suc j) x → Q s x
        go (inl n) = nothing s x n
        go (inr r) = two h j r.0 r.1 r.2 s x a r.3

    none_free : (s : Stamped) → IsNone s.moment → (xs : List Stamped) → Each (Q s) xs
    none_free s n [] = tt
    none_free s n (x ∷ xs) = (none s x n, none_free s n xs)

    pairs_of : (g i : ℕ) (xs : List Stamped) → Rising g i xs → Pairs Q xs
    pairs_of g i [] r = tt
    pairs_of g i (x ∷ xs) (inl r) = (none_free x r.0 xs, pairs_of g i xs r.1)
    pairs_of g i (x ∷ xs) (inr r) = (all_later r.0 r.1 x r.3 xs (each_later r.0 (suc r.1) xs r.4), pairs_of r.0 (suc r.1) xs r.4)

  -- the groups of a body rise
  rising_skip : (g i : ℕ) (copies : Copies) (cycle : ℕ) (ms : List Moment) → Each IsNone ms → (rest : List Stamped) → Rising g i rest → Rising g i (stamped copies cycle ms ++ rest)
  rising_skip g i copies cycle [] e rest r = r
  rising_skip g i copies cycle (m ∷ ms) e rest r = inl (e.0, rising_skip g i copies cycle ms e.1 rest r)

  renewals_free : (owned : List ℕ) → Each IsNone (flat_map (renewal_in_body core) owned)
  renewals_free [] = tt
  renewals_free (m ∷ owned) = go (has_reset (mem core m).kind (mem core m).start) (renewals_free owned)
    where
      go : (b : Bool) → Each IsNone (flat_map (renewal_in_body core) owned)
          → Each IsNone (elim b as (λ _. List Moment) [ true ↦ [] | false ↦ renews m ∷ [] ] ++ flat_map (renewal_in_body core) owned)
      go true e = e
      go false e = (tt, e)

  one_entry : (copies : Copies) (g i n : ℕ) (st : Standing) (op : PlainOp) (e : Entry) → st ≡ standing_of g → n ≡ number + i → i < length ops → op_at core ops i ≡ op → (rest : List Stamped) → Rising g (suc i) rest
      → Rising g i (stamped copies (1 + g * ii + slice_index times i) (entry_moments n st op.kind op.mem e) ++ rest)
  one_entry copies g i n st op left_out es en l same rest r = rising_from g i g (suc i) (inr (refl, omega arith)) rest r
  one_entry copies g i n st op (gave w) es en l same rest r = rising_from g i g (suc i) (inr (refl, omega arith)) rest r
  one_entry copies g i n st op (touched is w) es en l same rest r = by_mem op.mem (act_of op.kind w) refl refl
    where
      by_mem : (m : Option ℕ) (act : Option Act) → op.mem ≡ m → act_of op.kind w ≡ act → Rising g i (stamped copies (1 + g * ii + slice_index times i) (event_of n st m is act) ++ rest)
      by_mem None act p q = rising_from g i g (suc i) (inr (refl, omega arith)) rest r
      by_mem (Some m) None p q = rising_from g i g (suc i) (inr (refl, omega arith)) rest r
      by_mem (Some m) (Some a) p q = inr (
        g,
        i,
        inr (refl, omega arith),
        record {
          event = record { number = n; standing = st; mem = m; indices = is; act = a };
          is = refl;
          numbered = en;
          standing = es;
          cycle = refl;
          inside = l;
          word = w;
          act = ap (λ (o : PlainOp). act_of o.kind w) same ∙ q;
          mem = ap (λ (o : PlainOp). o.mem) same ∙ p;
        },
        r,
      )

  list_rises : (copies : Copies) (g i n : ℕ) (st : Standing) (left : List PlainOp) (es : List Entry) → st ≡ standing_of g → n ≡ number + i → i + length left ≡ length ops → ((m : ℕ) → op_at core ops (i + m) ≡ op_at core left m) → (rest : List Stamped) → Rising (suc g) 0 rest
      → Rising g i (list_stamped copies (λ j. 1 + g * ii + slice_index times j) i n st left es ++ rest)
  list_rises copies g i n st [] es around en el same rest r = rising_from g i (suc g) 0 (inl (omega arith)) rest r
  list_rises copies g i n st (op ∷ left) [] around en el same rest r = rising_from g i (suc g) 0 (inl (omega arith)) rest r
  list_rises copies g i n st (op ∷ left) (e ∷ es) around en el same rest r =
      let more : Rising g (suc i) (list_stamped copies (λ j. 1 + g * ii + slice_index times j) (suc i) (suc n) st left es ++ rest) =
      list_rises copies g (suc i) (suc n) st left es around (omega arith) (omega arith) (λ m. ap (op_at core ops) (let q : suc i + m ≡ i + suc m = omega arith in q) ∙ same (suc m)) rest r in
      subst (Rising g i) (sym (append_assoc (stamped copies (1 + g * ii + slice_index times i) (entry_moments n st op.kind op.mem e)) (list_stamped copies (λ j. 1 + g * ii + slice_index times j) (suc i) (suc n) st left es) rest))
      (one_entry copies g i n st op e around en (omega arith) (ap (op_at core ops) (let q : i ≡ i + 0 = omega arith in q) ∙ same 0) _ more)

  body_rises : (plan : PlainPlan) (delays : Delays) (latency_is : ℕ) (serial : Bool) (copies : Copies) (k g : ℕ) (st : Standing) (owned : List ℕ) (values : List (List ℤ)) (groups : List (List Entry))
      → ((m : ℕ) → m < length values → standing_of (g + m) ≡ inside_at st k (in_group_of (g + m) 0) (slice_index_or values m []))
      → Rising g 0 (body_events core plan delays (inner_plan times ii latency_is serial) copies k number g st owned ops values groups)
  body_rises plan delays latency_is serial copies k g st owned (v ∷ values) (es ∷ groups) around =
      let p : PlainNodePlan = inner_plan times ii latency_is serial in
      let rest : List Stamped = body_events core plan delays p copies k number (suc g) st owned ops values groups in
      let here : Standing = inside_at st k (in_group_of g 0) v in
      let listed : List Stamped = list_stamped copies (λ j. 1 + g * ii + slice_index times j) 0 number here ops es in
      let zero_on : g + 0 ≡ g = omega arith in
      let is_here : here ≡ standing_of g = sym (subst (λ n. standing_of n ≡ inside_at st k (in_group_of n 0) v) zero_on (around 0 (omega arith))) in
      let on : (m : ℕ) → m < length values → standing_of (suc g + m) ≡ inside_at st k (in_group_of (suc g + m) 0) (slice_index_or values m []) =
      λ m l. subst (λ n. standing_of n ≡ inside_at st k (in_group_of n 0) (slice_index_or values m [])) (let q : g + suc m ≡ suc g + m = omega arith in q) (around (suc m) (omega (arith, l))) in
      subst (Rising g 0) (sym (append_assoc (stamped copies (issued core plan delays p g) (flat_map (renewal_in_body core) owned)) listed rest))
      (rising_skip g 0 copies (issued core plan delays p g) (flat_map (renewal_in_body core) owned) (renewals_free owned) (listed ++ rest)
      (list_rises copies g 0 number here ops es is_here (omega arith) (omega arith) (λ m. ap (op_at core ops) (let q : 0 + m ≡ m = omega arith in q)) rest (body_rises plan delays latency_is serial copies k (suc g) st owned values groups on)))
  body_rises plan delays latency_is serial copies k g st owned [] groups around = tt
  body_rises plan delays latency_is serial copies k g st owned (v ∷ values) [] around = tt

-- what a relation says of each of a list and of each two says it of each two
with_each : {A : Type 0} (P : A → Type 0) (R Q : A → A → Type 0) → ((x y : A) → P x → P y → R x y → Q x y) → (xs : List A) → Each P xs → Pairs R xs → Pairs Q xs
with_each {A = A} P R Q f [] e p = tt
with_each {A = A} P R Q f (x ∷ xs) e p = (all xs e.1 p.0, with_each P R Q f xs e.1 p.1)
  where
    all : (ys : List A) → Each P ys → Each (R x) ys → Each (Q x) ys
    all [] g r = tt
    all (y ∷ ys) g r = (f x y e.0 g.0 r.0, all ys g.1 r.1)

both_pairs : {A : Type 0} (R Q : A → A → Type 0) (xs : List A) → Pairs R xs → Pairs Q xs → Pairs (λ x y. R x y × Q x y) xs
both_pairs R Q [] p q = tt
both_pairs {A = A} R Q (x ∷ xs) p q = (all xs p.0 q.0, both_pairs R Q xs p.1 q.1)
  where
    all : (ys : List A) → Each (R x) ys → Each (Q x) ys → Each (λ y. R x y × Q x y) ys
    all [] p q = tt
    all (y ∷ ys) p q = ((p.0, q.0), all ys p.1 q.1)

-- a scheme where a memory isn't serial
scheme_of : (o : Option Banking) → not (is_some o) ≡ false → (b : Banking) × (o ≡ Some b)
scheme_of None h = absurd (true≢false h)
scheme_of (Some b) h = (b, refl)

-- forms of one group
record OneGroup (x y : Option (List Affine)) : Type 0 where
  pub first : List Affine
  pub second : List Affine
  pub is_first : x ≡ Some first
  pub is_second : y ≡ Some second
  pub linear : have_one_linear_part first second ≡ true

of_group : (x y : Option (List Affine)) → is_one_group x y ≡ true → OneGroup x y
of_group None y h = absurd (false≢true h)
of_group (Some f) None h = absurd (false≢true h)
of_group (Some f) (Some g) h = record { first = f; second = g; is_first = refl; is_second = refl; linear = h }

known : (core : PlainCore) (forms : PlainForms) (rank : ℕ) (o : Option (List Affine)) (f : List Affine) → forms_by core forms rank o ≡ Some f → o ≡ Some f
known core forms rank None f h = h
known core forms rank (Some g) f h = by (length g == rank) h
  where
    by : (b : Bool) → cond b (Some g) None ≡ Some f → Some g ≡ Some f
    by true e = e
    by false e = absurd (true≢false (ap is_some (sym e)))

or_true : (x y : Bool) → x ≡ true → (not x || y) ≡ true → y ≡ true
or_true true y e h = h
or_true false y e h = absurd (false≢true e)

-- two events at one element of one memory
one_place : (core : PlainCore) (e f : Event) → e.mem ≡ f.mem → e.indices ≡ f.indices → share_place core (touches e) (touches f) ≡ true
one_place core e f m i = and_true (e.mem == f.mem) (is_one_element core e f) (eq-eqb _ _ m)
    (eq-eqb _ _ (ap (λ n. element (kind_of core n) (dims core n) e.indices) m ∙ ap (λ is. element (kind_of core f.mem) (dims core f.mem) is) i))

module _ (core : PlainCore) (forms : PlainForms) (schemes : List (Option Banking)) (meets : List Meet) (symbols : List At → ℕ → ℤ) (number : ℕ) (standing_of : ℕ → Standing) (ops : List PlainOp) (times : List ℕ) (ii latency : ℕ) (serial : Bool)
    (right : are_times_right core schemes meets number false ops times ii latency serial ≡ true) (grouped : are_grouped core forms schemes number ops ≡ true) (separated : AreSeparated core forms schemes number ops) where
  abbrev Touch : (g i : ℕ) → Stamped → Type 0
  Touch g i s = IsTouch core number standing_of ops times ii g i s

  -- the operations of two accesses share a port
  ops_share : (h j g r : ℕ) (s t : Stamped) (a : Touch h j s) (b : Touch g r t) → AreAtOnePort core schemes (touches a.event) (touches b.event) → share_port core (op_at core ops j) (op_at core ops r) ≡ true
  ops_share h j g r s t a b p =
      and_true (ports.is_one_port (op_at core ops j).kind (op_at core ops r).kind && is_one_mem (op_at core ops j).mem (op_at core ops r).mem) (is_in_banks core (op_at core ops j).mem)
      (and_true (ports.is_one_port (op_at core ops j).kind (op_at core ops r).kind) (is_one_mem (op_at core ops j).mem (op_at core ops r).mem)
      (by_one_port (op_at core ops j).kind (op_at core ops r).kind a.word b.word a.event.act b.event.act a.act b.act p.2)
      (subst (λ m. is_one_mem m (op_at core ops r).mem ≡ true) (sym a.mem) (subst (λ m. is_one_mem (Some a.event.mem) m ≡ true) (sym b.mem) (eq-eqb _ _ p.0))))
      (subst (λ m. is_in_banks core m ≡ true) (sym a.mem) p.1)

  -- then they are of one group of accesses, and kept apart
  record AreInGroup (h j g r : ℕ) (s t : Stamped) (a : Touch h j s) (b : Touch g r t) : Type 0 where
    pub one : h ≡ g
    pub scheme : Banking
    pub is_scheme : scheme_at schemes (Some a.event.mem) ≡ Some scheme
    pub first : List Affine
    pub second : List Affine
    pub is_first : form_at core forms (number + j) ≡ Some first
    pub is_second : form_at core forms (number + r) ≡ Some second
    pub linear : have_one_linear_part first second ≡ true
    pub apart : Apart (mem core a.event.mem).kind scheme first second

  in_group : (h j g r : ℕ) → Later h (suc j) g r → (s t : Stamped) (a : Touch h j s) (b : Touch g r t) → s.cycle ≡ t.cycle → AreAtOnePort core schemes (touches a.event) (touches b.event) → AreInGroup h j g r s t a b
  in_group h j g r later s t a b c p = found (scheme_of (scheme_at schemes (op_at core ops j).mem) turn.2) (of_group _ _ one_group)
    where
      share : share_port core (op_at core ops j) (op_at core ops r) ≡ true
      share = ops_share h j g r s t a b p

      at_once : h * ii + slice_index times j ≡ g * ii + slice_index times r
      at_once = let x : s.cycle ≡ 1 + h * ii + slice_index times j = a.cycle in let y : t.cycle ≡ 1 + g * ii + slice_index times r = b.cycle in omega (arith, x, y, c)

      turn : (h ≡ g) × (j < r) × (is_serial schemes (op_at core ops j).mem ≡ false)
      turn = ports_take_turns core schemes meets number ops times ii latency serial h j g r right a.inside b.inside (strictly h j g r later) share at_once

      banks : share_banks core forms schemes ops j r ≡ true
      banks = and_true (share_port core (op_at core ops j) (op_at core ops r)) (not (is_serial schemes (op_at core ops j).mem)) share (ap not turn.2)

      one_group : is_one_group (known_forms core forms (number + j) (op_at core ops j)) (known_forms core forms (number + r) (op_at core ops r)) ≡ true
      one_group = or_true (share_banks core forms schemes ops j r) _ banks
          (all_below (is_grouped core forms schemes number ops r) r j (all_below (λ n. list_all (is_grouped core forms schemes number ops n) (numbers_below n)) (length ops) r grouped b.inside) turn.1)

      found : (b : Banking) × (scheme_at schemes (op_at core ops j).mem ≡ Some b) → OneGroup (known_forms core forms (number + j) (op_at core ops j)) (known_forms core forms (number + r) (op_at core ops r)) → AreInGroup h j g r s t a b
      found x o = record {
        one = turn.0;
        scheme = x.0;
        is_scheme = ap (scheme_at schemes) (sym a.mem) ∙ x.1;
        first = o.first;
        second = o.second;
        is_first = known core forms (rank_of core forms (op_at core ops j).mem) (form_at core forms (number + j)) o.first o.is_first;
        is_second = known core forms (rank_of core forms (op_at core ops r).mem) (form_at core forms (number + r)) o.second o.is_second;
        linear = o.linear;
        apart =
            subst (λ m. Apart (kind_at core forms m) x.0 o.first o.second) a.mem
            (subst (λ y. AreKeptApart (kind_at core forms (op_at core ops j).mem) (Some x.0) (Some o.first) y) o.is_second
            (subst (λ y. AreKeptApart (kind_at core forms (op_at core ops j).mem) (Some x.0) y (known_forms core forms (number + r) (op_at core ops r))) o.is_first
            (subst (λ y. AreKeptApart (kind_at core forms (op_at core ops j).mem) y (known_forms core forms (number + j) (op_at core ops j)) (known_forms core forms (number + r) (op_at core ops r))) x.1
            (separated r j b.inside turn.1 banks))));
      }

  -- so they are one tap
  abbrev AtForms : Event → Type 0
  AtForms e = IsAtForms core forms symbols (touches e)

  indices_at : (n : ℕ) (e : Event) (fs : List Affine) → e.number ≡ n → form_at core forms n ≡ Some fs → AtForms e → are_indices core forms fs (map pos e.indices) e.standing.counters (symbols e.standing.path) ≡ true
  indices_at n e fs en is at = subst (λ o. are_known_indices core forms o (map pos e.indices) e.standing.counters (symbols e.standing.path) ≡ true) (ap (form_at core forms) en ∙ is) at

  one_tap : (h j g r : ℕ) → Later h (suc j) g r → (s t : Stamped) (a : Touch h j s) (b : Touch g r t) → AtForms a.event → AtForms b.event → AreInOrder core s t → s.cycle ≡ t.cycle → s.copy ≡ t.copy
      → AreAtOnePort core schemes (touches a.event) (touches b.event) → AreOneTap core forms (touches a.event) (touches b.event)
  one_tap h j g r later s t a b p q order c copy port = reading (of_one_port a.event.act b.event.act port.2)
    where
      here : AreInGroup h j g r s t a b
      here = in_group h j g r later s t a b c port

      around : a.event.standing ≡ b.event.standing
      around = a.standing ∙ ap standing_of here.one ∙ sym b.standing

      first_at : are_indices core forms here.first (map pos a.event.indices) a.event.standing.counters (symbols a.event.standing.path) ≡ true
      first_at = indices_at (number + j) a.event here.first a.numbered here.is_first p

      second_at : are_indices core forms here.second (map pos b.event.indices) a.event.standing.counters (symbols a.event.standing.path) ≡ true
      second_at = subst (λ st. are_indices core forms here.second (map pos b.event.indices) st.counters (symbols st.path) ≡ true) (sym around) (indices_at (number + r) b.event here.second b.numbered here.is_second q)

      same : (here.first ≡ here.second) × (a.event.indices ≡ b.event.indices)
      same = schemes_keep_apart core forms (mem core a.event.mem).kind here.scheme here.first here.second a.event.indices b.event.indices a.event.standing.counters (symbols a.event.standing.path) here.linear here.apart first_at second_at
          (subst (λ o. AreInBank (mem core a.event.mem).kind o a.event.indices b.event.indices) here.is_scheme port.3)

      one_form : form_at core forms a.event.number ≡ form_at core forms b.event.number
      one_form = ap (form_at core forms) a.numbered ∙ here.is_first ∙ ap Some same.0 ∙ sym here.is_second ∙ ap (form_at core forms) (sym b.numbered)

      clash : Clash core s t
      clash = record {
        first = ap (is_done core) a.is;
        second = ap (is_done core) b.is;
        copy = copy;
        place = ap (λ m. share_place core m t.moment) a.is ∙ ap (share_place core (touches a.event)) b.is ∙ one_place core a.event b.event port.0 same.1;
      }

      reading : OfOnePort a.event.act b.event.act → AreOneTap core forms (touches a.event) (touches b.event)
      reading (inl x) = (looks_still a.event.act x.0, looks_still b.event.act x.1, around, one_form, same.1)
      reading (inr x) = absurd (let l : s.cycle < t.cycle = order.for_change clash (ap does_change a.is ∙ alters_some a.event.act x.0) in omega (arith, l, c))

  -- two moments of the body
  abbrev TwoTouches : Stamped → Stamped → Type 0
  TwoTouches s t = (h : ℕ) × (j : ℕ) × (g : ℕ) × (r : ℕ) × Later h (suc j) g r × Touch h j s × Touch g r t

  abbrev AreTouches : Stamped → Stamped → Type 0
  AreTouches s t = IsNone s.moment ⊎ (IsNone t.moment ⊎ TwoTouches s t)

  shared : (s t : Stamped) → IsAtForms core forms symbols s.moment → IsAtForms core forms symbols t.moment → AreTouches s t × AreInOrder core s t → ShareNoPort core forms schemes s t
  shared s t p q (inl n, order) share = absurd (none_first core schemes s.moment t.moment n share.port)
  shared s t p q (inr (inl n), order) share = absurd (none_second core schemes s.moment t.moment n share.port)
  shared s t p q (inr (inr x), order) share =
      let a : Touch x.0 x.1 s = x.5 in
      let b : Touch x.2 x.3 t = x.6 in
      subst (λ m. AreOneTap core forms m t.moment) (sym a.is) (subst (λ m. AreOneTap core forms (touches a.event) m) (sym b.is)
      (one_tap x.0 x.1 x.2 x.3 x.4 s t a b (subst (IsAtForms core forms symbols) a.is p) (subst (IsAtForms core forms symbols) b.is q) order share.cycle share.copy
      (subst (λ m. AreAtOnePort core schemes (touches a.event) m) b.is (subst (λ m. AreAtOnePort core schemes m t.moment) a.is share.port))))

  all_shared : (xs : List Stamped) → Rising core number standing_of ops times ii 0 0 xs → Each (λ s. IsAtForms core forms symbols s.moment) xs → Pairs (AreInOrder core) xs → Pairs (ShareNoPort core forms schemes) xs
  all_shared xs rising at order =
      with_each (λ s. IsAtForms core forms symbols s.moment) (λ s t. AreTouches s t × AreInOrder core s t) (ShareNoPort core forms schemes) shared xs at
      (both_pairs AreTouches (AreInOrder core) xs
      (pairs_of core number standing_of ops times ii AreTouches (λ s t n. inl n) (λ s t n. inr (inl n)) (λ h j g r later s t a b. inr (inr (h, j, g, r, later, a, b))) 0 0 xs rising) order)

pub bodies_share_no_port : (core : PlainCore) (plan : PlainPlan) (delays : Delays) → BodiesShareNoPort core plan delays
bodies_share_no_port core plan delays forms schemes meets symbols k number st copies owned ops times ii latency serial values groups placed right grouped separated at met =
    all_shared core forms schemes meets symbols number standing_of ops times ii latency serial right grouped separated _
    (body_rises core number standing_of ops times ii plan delays latency serial copies k 0 st owned values groups (λ m l. let q : 0 + m ≡ m = omega arith in ap (λ n. inside_at st k (in_group_of (0 + m) 0) (slice_index_or values n [])) q)) at
    (bodies_in_order core plan delays schemes meets k number st copies owned ops times ii latency serial values groups placed right met)
  where
    standing_of : ℕ → Standing
    standing_of g = inside_at st k (in_group_of g 0) (slice_index_or values g [])

-- the accesses of a body are at their forms, where those of operations are
act_is_access : (kd : OpKind) (w : ℕ) (a : Act) → act_of kd w ≡ Some a → is_access kd ≡ true
act_is_access kind.Read w a e = refl
act_is_access kind.Write w a e = refl
act_is_access kind.Enq w a e = refl
act_is_access kind.Deq w a e = refl
act_is_access kind.Reset w a e = refl
act_is_access kd w a e = absurd (false≢true (ap is_some e))

number_at : (core : PlainCore) (ops : List PlainOp) (i : ℕ) → i < length ops → slice_index_or (list_numbers ops) i plain ≡ cond (is_access (op_at core ops i).kind) accesses plain
number_at core [] i l = absurd (omega (arith, l))
number_at core (op ∷ ops) zero l = refl
number_at core (op ∷ ops) (suc i) l = number_at core ops i (omega (arith, l))

module _ (core : PlainCore) (forms : PlainForms) (symbols : List At → ℕ → ℤ) (number : ℕ) (standing_of : ℕ → Standing) (ops : List PlainOp) (times : List ℕ) (ii : ℕ) (numbered_right : AreNumbered core number (list_numbers ops)) where
  at_touch : (g i : ℕ) (s : Stamped) → IsTouch core number standing_of ops times ii g i s → IsAtOwnForms core forms symbols s.moment → IsAtForms core forms symbols s.moment
  at_touch g i s a own = subst (IsAtForms core forms symbols) (sym a.is) (subst (IsAtOwnForms core forms symbols) a.is own is_one)
    where
      is_one : numbered core a.event.number ≡ accesses
      is_one =
          ap (numbered core) a.numbered ∙ numbered_right i (let e : length (list_numbers ops) ≡ length ops = list_many ops in let l : i < length ops = a.inside in omega arith) ∙ number_at core ops i a.inside
          ∙ ap (λ b. cond b accesses plain) (act_is_access (op_at core ops i).kind a.word a.event.act a.act)

  at_none : (m : Moment) → IsNone m → IsAtForms core forms symbols m
  at_none (touches e) n = absurd n
  at_none (slices x) n = tt
  at_none (renews x) n = tt
  at_none (keeps x w) n = tt

  at_own : (g i : ℕ) (xs : List Stamped) → Rising core number standing_of ops times ii g i xs → Each (λ s. IsAtOwnForms core forms symbols s.moment) xs → Each (λ s. IsAtForms core forms symbols s.moment) xs
  at_own g i [] r h = tt
  at_own g i (x ∷ xs) (inl r) h = (at_none x.moment r.0, at_own g i xs r.1 h.1)
  at_own g i (x ∷ xs) (inr r) h = (at_touch r.0 r.1 x r.3 h.0, at_own r.0 (suc r.1) xs r.4 h.1)

pub body_at_forms : (core : PlainCore) (plan : PlainPlan) (delays : Delays) (forms : PlainForms) (symbols : List At → ℕ → ℤ) (k number : ℕ) (st : Standing) (copies : Copies) (owned : List ℕ) (ops : List PlainOp) (times : List ℕ) (ii latency : ℕ) (serial : Bool) (values : List (List ℤ)) (groups : List (List Entry))
    → AreNumbered core number (list_numbers ops)
    → Each (λ s. IsAtOwnForms core forms symbols s.moment) (body_events core plan delays (inner_plan times ii latency serial) copies k number 0 st owned ops values groups)
    → Each (λ s. IsAtForms core forms symbols s.moment) (body_events core plan delays (inner_plan times ii latency serial) copies k number 0 st owned ops values groups)
body_at_forms core plan delays forms symbols k number st copies owned ops times ii latency serial values groups right at =
    at_own core forms symbols number standing_of ops times ii right 0 0 _ (body_rises core number standing_of ops times ii plan delays latency serial copies k 0 st owned values groups (λ m l. let q : 0 + m ≡ m = omega arith in ap (λ n. inside_at st k (in_group_of (0 + m) 0) (slice_index_or values n [])) q)) at
  where
    standing_of : ℕ → Standing
    standing_of g = inside_at st k (in_group_of g 0) (slice_index_or values g [])
