-- Accesses to one port of a memory act in one cycle only in one group, and where the memory has a scheme.
use Rattle.std.proofs.Common.{◌≡◌, ℕ, zero, suc, ◌+◌, ◌-◌, ◌*◌, ◌<◌, ◌≤◌, ◌⊎◌, inl, inr, Bool, true, false, cond, List, [], ◌∷◌, ◌++◌, length, append_assoc, arith, refl, sym, subst, ap, ◌∙◌}
use Rattle.std.proofs.lemmas.Bool.{and_parts, eq-eqb, eqb-true, leb-true, true≢false, false≢true}
use Rattle.std.proofs.Math.Nat.{suc-mul, mul-le-mul_right}
use Rattle.std.specs.List.{list_all}
use Rattle.std.specs.Prelude.{◌==◌, ◌&&◌, not, nat_le, flat_map, slice_index, Option, Some, None, is_some}
use Rattle.sp_bank.specs.Banking.{Banking}
use Rattle.sp_core.specs.declared.access.Meet.{Meet}
use Rattle.sp_core.specs.declared.operation.OpKind.{OpKind}
use Rattle.sp_core.specs.declared.operation.OpKind.TheVariants as kind
use Rattle.sp_core.specs.Declarations.{mem}
use Rattle.sp_core.specs.Elements.{numbers_below}
use Rattle.sp_core.specs.Latency.{read_latency, latency_by, read_of, latency}
use Rattle.sp_core.specs.PlainCore.{PlainOp, PlainCore}
use Rattle.sp_modulo.specs.declared.order.Order.{Order}
use Rattle.sp_modulo.specs.Times.{end_of}
use Rattle.sp_plan.specs.Bodies.{is_kept, latencies, are_in_turn, keep_orders, are_times_right}
use Rattle.sp_plan.specs.Orders.{op_at, order, use_orders, meet_orders, same_time, in_turn, port_orders, all_port_orders, body_orders}
use Rattle.sp_plan.specs.Ports.{is_one_port, is_one_mem, is_in_banks, share_port, is_serial}
use Rattle.sp_words.specs.declared.kind.Kind.{Kind}
use Rattle.sp_words.specs.declared.kind.Kind.TheVariants as kinds
use Rattle.sp_ports.specs.Laws.{IsLaterOperation, PortsTakeTurns}

-- tests of all that is made of numbers
all_append : {A : Type 0} (p : A → Bool) (a b : List A) → list_all p (a ++ b) ≡ true → (list_all p a ≡ true) × (list_all p b ≡ true)
all_append p [] b h = (refl, h)
all_append p (x ∷ a) b h = let t = and_parts (p x) (list_all p (a ++ b)) h in let r = all_append p a b t.1 in (both (p x) (list_all p a) t.0 r.0, r.1)
  where
    both : (x y : Bool) → x ≡ true → y ≡ true → (x && y) ≡ true
    both true y e f = f
    both false y e f = e

flat_append : {A B : Type 0} (f : A → List B) (xs ys : List A) → flat_map f (xs ++ ys) ≡ flat_map f xs ++ flat_map f ys
flat_append f [] ys = refl
flat_append f (x ∷ xs) ys = ap (λ l. f x ++ l) (flat_append f xs ys) ∙ sym (append_assoc (f x) (flat_map f xs) (flat_map f ys))

-- at the last number, or before it
at_or_before : (C : Type 0) (i n : ℕ) → i < suc n → (i ≡ n → C) → (i < n → C) → C
at_or_before C i n l here before = by (i == n) refl
  where
    smaller : (i ≡ n → ⊥) → i < n
    smaller d = omega (arith, l, d)

    by : (b : Bool) → (i == n) ≡ b → C
    by true e = here (eqb-true i n e)
    by false e = before (smaller (λ s. true≢false (sym (eq-eqb i n s) ∙ e)))

pub all_below : (q : ℕ → Bool) (n i : ℕ) → list_all q (numbers_below n) ≡ true → i < n → q i ≡ true
all_below q zero i h l = absurd (omega (arith, l))
all_below q (suc n) i h l =
    let parts = all_append q (numbers_below n) (n ∷ []) h in
    at_or_before (q i ≡ true) i n l (λ e. ap q e ∙ (and_parts (q n) true parts.1).0) (λ s. all_below q n i parts.0 s)

made_below : {B : Type 0} (p : B → Bool) (f : ℕ → List B) (n i : ℕ) → list_all p (flat_map f (numbers_below n)) ≡ true → i < n → list_all p (f i) ≡ true
made_below p f zero i h l = absurd (omega (arith, l))
made_below p f (suc n) i h l =
    let parts = all_append p (flat_map f (numbers_below n)) (flat_map f (n ∷ [])) (ap (list_all p) (sym (flat_append f (numbers_below n) (n ∷ []))) ∙ h) in
    at_or_before (list_all p (f i) ≡ true) i n l (λ e. ap (λ k. list_all p (f k)) e ∙ (all_append p (f n) [] parts.1).0) (λ s. made_below p f n i parts.0 s)

-- two accesses share a port whichever is named first
one_port_turned : (a b : OpKind) → is_one_port a b ≡ true → is_one_port b a ≡ true
one_port_turned kind.Read kind.Read h = refl
one_port_turned kind.Write kind.Write h = refl
one_port_turned a b h = absurd (false≢true h)

pub and_true : (x y : Bool) → x ≡ true → y ≡ true → (x && y) ≡ true
and_true true y e f = f
and_true false y e f = e

turned : (core : PlainCore) (a b : PlainOp) → share_port core a b ≡ true → share_port core b a ≡ true
turned core a b h =
    let t = and_parts (is_one_port a.kind b.kind && is_one_mem a.mem b.mem) (is_in_banks core a.mem) h in
    let u = and_parts (is_one_port a.kind b.kind) (is_one_mem a.mem b.mem) t.0 in
    let m : a.mem ≡ b.mem = same a.mem b.mem u.1 in
    and_true (is_one_port b.kind a.kind && is_one_mem b.mem a.mem) (is_in_banks core b.mem)
    (and_true (is_one_port b.kind a.kind) (is_one_mem b.mem a.mem) (one_port_turned a.kind b.kind u.0) (subst (λ x. is_one_mem x a.mem ≡ true) m (subst (λ x. is_one_mem a.mem x ≡ true) (sym m) u.1)))
    (subst (λ x. is_in_banks core x ≡ true) m t.1)
  where
    same : (x y : Option ℕ) → is_one_mem x y ≡ true → x ≡ y
    same None y h = absurd (false≢true h)
    same (Some x) None h = absurd (false≢true h)
    same (Some x) (Some y) h = ap Some (eqb-true x y h)

-- an access takes a cycle at least
read_takes : (k : Kind) → 1 ≤ read_latency k
read_takes kinds.Sram = omega arith
read_takes kinds.LineBuf = omega arith
read_takes k = omega arith

reading_takes : (core : PlainCore) (m : Option ℕ) → 1 ≤ read_of core m
reading_takes core None = omega arith
reading_takes core (Some m) = read_takes (mem core m).kind

access_takes : (a b : OpKind) (read : ℕ) → is_one_port a b ≡ true → 1 ≤ read → 1 ≤ latency_by a read
access_takes kind.Read b read h l = l
access_takes kind.Write b read h l = omega arith
access_takes a b read h l = absurd (false≢true h)

-- times one after the other
turn_from : (core : PlainCore) (b : ℕ) (ops : List PlainOp) (times : List ℕ) → are_in_turn core b ops times ≡ true → (j : ℕ) → j < length ops → b ≤ slice_index times j
turn_from core b [] times h j l = absurd (omega (arith, l))
turn_from core b (op ∷ ops) [] h j l = absurd (false≢true h)
turn_from core b (op ∷ ops) (s ∷ times) h zero l = let a : s ≡ b = eqb-true _ _ (and_parts (s == b) (are_in_turn core (b + latency core op) ops times) h).0 in omega arith
turn_from core b (op ∷ ops) (s ∷ times) h (suc j) l =
    let a : b + latency core op ≤ slice_index times j = turn_from core (b + latency core op) ops times (and_parts (s == b) (are_in_turn core (b + latency core op) ops times) h).1 j (let q : suc j < suc (length ops) = l in omega arith) in
    omega arith

turn_after : (core : PlainCore) (b : ℕ) (ops : List PlainOp) (times : List ℕ) → are_in_turn core b ops times ≡ true → (j r : ℕ) → j < r → r < length ops → slice_index times j + latency core (op_at core ops j) ≤ slice_index times r
turn_after core b [] times h j r l q = absurd (omega (arith, q))
turn_after core b (op ∷ ops) [] h j r l q = absurd (false≢true h)
turn_after core b (op ∷ ops) (s ∷ times) h j zero l q = absurd (omega (arith, l))
turn_after core b (op ∷ ops) (s ∷ times) h zero (suc r) l q =
    let t = and_parts (s == b) (are_in_turn core (b + latency core op) ops times) h in
    let a : s ≡ b = eqb-true _ _ t.0 in
    let c : b + latency core op ≤ slice_index times r = turn_from core (b + latency core op) ops times t.1 r (let x : suc r < suc (length ops) = q in omega arith) in
    omega arith
turn_after core b (op ∷ ops) (s ∷ times) h (suc j) (suc r) l q =
    turn_after core (b + latency core op) ops times (and_parts (s == b) (are_in_turn core (b + latency core op) ops times) h).1 j r (omega arith) (let x : suc r < suc (length ops) = q in omega arith)

turn_ends : (core : PlainCore) (b : ℕ) (ops : List PlainOp) (times : List ℕ) → are_in_turn core b ops times ≡ true → (j : ℕ) → j < length ops → slice_index times j + latency core (op_at core ops j) ≤ end_of (latencies core ops) times
turn_ends core b [] times h j l = absurd (omega (arith, l))
turn_ends core b (op ∷ ops) [] h j l = absurd (false≢true h)
turn_ends core b (op ∷ ops) (s ∷ times) h zero l = omega arith
turn_ends core b (op ∷ ops) (s ∷ times) h (suc j) l =
    let a : slice_index times j + latency core (op_at core ops j) ≤ end_of (latencies core ops) times = turn_ends core (b + latency core op) ops times (and_parts (s == b) (are_in_turn core (b + latency core op) ops times) h).1 j (let q : suc j < suc (length ops) = l in omega arith) in
    omega arith

-- a later group is issued an interval later at least
issued_later : (h g ii : ℕ) → h < g → h * ii + ii ≤ g * ii
issued_later h g ii l =
    let one : suc h * ii ≤ g * ii = mul-le-mul_right ii l in
    let two : suc h * ii ≡ h * ii + ii = suc-mul h ii in
    omega arith

module _ (core : PlainCore) (schemes : List (Option Banking)) (meets : List Meet) (number : ℕ) (ops : List PlainOp) (times : List ℕ) (ii : ℕ) where
  abbrev time : ℕ → ℕ
  time i = slice_index times i

  -- what the orders of two places say of their times: one time in a scheme, and less than an interval apart without one
  record InTurn (a b : ℕ) : Type 0 where
    pub up : time a + 1 ≤ time b
    pub back : time b + 1 ≤ time a + ii

  abbrev Ordered : (a b : ℕ) → Type 0
  Ordered a b = ((is_serial schemes (op_at core ops a).mem ≡ true) × InTurn a b) ⊎ ((is_serial schemes (op_at core ops a).mem ≡ false) × (time a ≡ time b))

  ordered : keep_orders core schemes meets number ops times ii ≡ true → (a b : ℕ) → a < b → b < length ops → share_port core (op_at core ops a) (op_at core ops b) ≡ true → Ordered a b
  ordered kept a b l q share = by_kind (is_serial schemes (op_at core ops a).mem) refl
      (ap (λ x. list_all (is_kept ii times) (cond x (cond (is_serial schemes (op_at core ops a).mem) (in_turn core ops schemes a b) (same_time core ops schemes a b)) [])) (sym share) ∙ port)
    where
      orders : list_all (is_kept ii times) (flat_map (all_port_orders core ops schemes) (numbers_below (length ops))) ≡ true
      orders = (all_append (is_kept ii times) (flat_map (meet_orders core ops number) meets) _ (all_append (is_kept ii times) (flat_map (use_orders core ops) (numbers_below (length ops))) _ kept).1).1

      port : list_all (is_kept ii times) (port_orders core ops schemes b a) ≡ true
      port = made_below (is_kept ii times) (port_orders core ops schemes b) b a (made_below (is_kept ii times) (all_port_orders core ops schemes) (length ops) b orders q) l

      by_kind : (s : Bool) → is_serial schemes (op_at core ops a).mem ≡ s → list_all (is_kept ii times) (cond s (in_turn core ops schemes a b) (same_time core ops schemes a b)) ≡ true → Ordered a b
      by_kind true e k =
          let t = and_parts (is_kept ii times (order a b 1 0)) (list_all (is_kept ii times) (order b a 1 1 ∷ [])) k in
          let x : time a + 1 ≤ time b + 0 * ii = leb-true _ _ t.0 in
          let y : time b + 1 ≤ time a + 1 * ii = leb-true _ _ (and_parts (is_kept ii times (order b a 1 1)) true t.1).0 in
          inl (e, record { up = omega arith; back = omega arith })
      by_kind false e k =
          let t = and_parts (is_kept ii times (order a b 0 0)) (list_all (is_kept ii times) (order b a 0 0 ∷ [])) k in
          let x : time a + 0 ≤ time b + 0 * ii = leb-true _ _ t.0 in
          let y : time b + 0 ≤ time a + 0 * ii = leb-true _ _ (and_parts (is_kept ii times (order b a 0 0)) true t.1).0 in
          inr (e, omega arith)

  abbrev InOneGroup : (h j g r : ℕ) → Type 0
  InOneGroup h j g r = (h ≡ g) × (j < r) × (is_serial schemes (op_at core ops j).mem ≡ false)

  -- in one group
  in_group : (h j g r : ℕ) → h ≡ g → j < r → Ordered j r → h * ii + time j ≡ g * ii + time r → InOneGroup h j g r
  in_group h j g r e l (inl t) c =
      let same : h * ii ≡ g * ii = ap (λ n. n * ii) e in
      let up : time j + 1 ≤ time r = t.1.up in
      absurd (omega (arith, same, up, c))
  in_group h j g r e l (inr t) c = (e, l, t.0)

  -- in two groups: nothing of two in their order, of two the other way round, or of one operation acts in one cycle
  none_in_order : (h j g r : ℕ) → 1 ≤ ii → h < g → Ordered j r → h * ii + time j ≡ g * ii + time r → ⊥
  none_in_order h j g r some l (inl t) c =
      let later : h * ii + ii ≤ g * ii = issued_later h g ii l in
      let up : time j + 1 ≤ time r = t.1.up in
      omega (arith, later, up, c)
  none_in_order h j g r some l (inr t) c =
      let later : h * ii + ii ≤ g * ii = issued_later h g ii l in
      let same : time j ≡ time r = t.1 in
      omega (arith, later, same, c, some)

  none_turned : (h j g r : ℕ) → 1 ≤ ii → h < g → Ordered r j → h * ii + time j ≡ g * ii + time r → ⊥
  none_turned h j g r some l (inl t) c =
      let later : h * ii + ii ≤ g * ii = issued_later h g ii l in
      let back : time j + 1 ≤ time r + ii = t.1.back in
      omega (arith, later, back, c)
  none_turned h j g r some l (inr t) c =
      let later : h * ii + ii ≤ g * ii = issued_later h g ii l in
      let same : time r ≡ time j = t.1 in
      omega (arith, later, same, c, some)

  none_alone : (h j g r : ℕ) → 1 ≤ ii → h < g → j ≡ r → h * ii + time j ≡ g * ii + time r → ⊥
  none_alone h j g r some l e c =
      let later : h * ii + ii ≤ g * ii = issued_later h g ii l in
      let same : time j ≡ time r = ap time e in
      omega (arith, later, same, c, some)

  -- by orders
  by_orders : (h j g r : ℕ) → 1 ≤ ii → keep_orders core schemes meets number ops times ii ≡ true → j < length ops → r < length ops → IsLaterOperation h j g r
      → share_port core (op_at core ops j) (op_at core ops r) ≡ true → h * ii + time j ≡ g * ii + time r → InOneGroup h j g r
  by_orders h j g r some kept p q (inr l) share c = in_group h j g r l.0 l.1 (ordered kept j r l.1 q share) c
  by_orders h j g r some kept p q (inl l) share c = absurd (choose (places j r))
    where
      places : (j r : ℕ) → (j < r) ⊎ ((r < j) ⊎ (j ≡ r))
      places zero zero = inr (inr refl)
      places zero (suc r) = inl (omega arith)
      places (suc j) zero = inr (inl (omega arith))
      places (suc j) (suc r) = elim (places j r) [ inl a ↦ inl (omega (arith, a)) | inr (inl b) ↦ inr (inl (omega (arith, b))) | inr (inr e) ↦ inr (inr (ap suc e)) ]

      choose : (j < r) ⊎ ((r < j) ⊎ (j ≡ r)) → ⊥
      choose (inl a) = none_in_order h j g r some l (ordered kept j r a q share) c
      choose (inr (inl b)) = none_turned h j g r some l (ordered kept r j b p (turned core (op_at core ops j) (op_at core ops r) share)) c
      choose (inr (inr e)) = none_alone h j g r some l e c

  -- one after the other
  by_turns : (h j g r latency_is : ℕ) → are_in_turn core 0 ops times ≡ true → latency_is ≤ ii → latency_is ≡ end_of (latencies core ops) times → 1 ≤ latency core (op_at core ops j)
      → j < length ops → r < length ops → IsLaterOperation h j g r → h * ii + time j ≡ g * ii + time r → ⊥
  by_turns h j g r latency_is turn short ends some p q (inl l) c =
      let over : time j + latency core (op_at core ops j) ≤ end_of (latencies core ops) times = turn_ends core 0 ops times turn j p in
      let later : h * ii + ii ≤ g * ii = issued_later h g ii l in
      omega arith
  by_turns h j g r latency_is turn short ends some p q (inr l) c =
      let over : time j + latency core (op_at core ops j) ≤ time r = turn_after core 0 ops times turn j r l.1 q in
      let same : h * ii ≡ g * ii = ap (λ n. n * ii) l.0 in
      omega arith

pub ports_take_turns : (core : PlainCore) → PortsTakeTurns core
ports_take_turns core schemes meets number ops times ii latency_is serial h j g r right p q later share c = go serial right
  where
    go : (serial : Bool) → are_times_right core schemes meets number false ops times ii latency_is serial ≡ true → (h ≡ g) × (j < r) × (is_serial schemes (op_at core ops j).mem ≡ false)
    go false w =
        let t = and_parts (nat_le 1 ii && (latency_is == end_of (latencies core ops) times)) (keep_orders core schemes meets number ops times ii) w in
        let some : 1 ≤ ii = leb-true _ _ (and_parts (nat_le 1 ii) (latency_is == end_of (latencies core ops) times) t.0).0 in
        by_orders core schemes meets number ops times ii h j g r some t.1 p q later share c
    go true w =
        let t = and_parts (nat_le 1 ii && (latency_is == end_of (latencies core ops) times)) (are_in_turn core 0 ops times && nat_le latency_is ii) w in
        let u = and_parts (are_in_turn core 0 ops times) (nat_le latency_is ii) t.1 in
        let ends : latency_is ≡ end_of (latencies core ops) times = eqb-true _ _ (and_parts (nat_le 1 ii) (latency_is == end_of (latencies core ops) times) t.0).1 in
        let one : is_one_port (op_at core ops j).kind (op_at core ops r).kind ≡ true =
        (and_parts (is_one_port (op_at core ops j).kind (op_at core ops r).kind) (is_one_mem (op_at core ops j).mem (op_at core ops r).mem)
        (and_parts (is_one_port (op_at core ops j).kind (op_at core ops r).kind && is_one_mem (op_at core ops j).mem (op_at core ops r).mem) (is_in_banks core (op_at core ops j).mem) share).0).0 in
        absurd (by_turns core schemes meets number ops times ii h j g r latency_is u.0 (leb-true _ _ u.1) ends
        (access_takes (op_at core ops j).kind (op_at core ops r).kind (read_of core (op_at core ops j).mem) one (reading_takes core (op_at core ops j).mem)) p q later c)
