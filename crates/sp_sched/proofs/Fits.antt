-- The orders of a body are orders of its operations, with gaps no longer than the first one takes.
use Rattle.std.proofs.Common.{◌≡◌, ℕ, zero, suc, ◌-◌, ◌<◌, ◌≤◌, nat_le, ◌&&◌, Bool, true, false, cond, List, [], ◌∷◌, map, length, slice_index, Option, Some, None, refl, sym, subst, ltb-true, arith}
use Rattle.std.proofs.lemmas.List.{get_or-map, length-map}
use Rattle.std.proofs.lemmas.List.Elements.{All-append, All-cons, All-nil}
use Rattle.std.specs.List.{All, flat_map}
use Rattle.sp_bank.specs.Banking.{Banking}
use Rattle.sp_core.specs.declared.access.Meet.{Meet}
use Rattle.sp_core.specs.declared.operation.OpKind.{OpKind}
use Rattle.sp_core.specs.declared.operation.OpKind.TheVariants.{Word, Count, Live, Read, Write, Enq, Deq, Reset, One, Two, Shift, Mux, Cast}
use Rattle.sp_core.specs.Declarations.{mem}
use Rattle.sp_core.specs.Elements.{numbers_below}
use Rattle.sp_core.specs.Latency.{latency, latency_by, read_of, read_latency}
use Rattle.sp_core.specs.Meeting.{least_of}
use Rattle.sp_core.specs.PlainCore.{PlainCore, PlainOp}
use Rattle.sp_modulo.specs.declared.order.Order.{Order}
use Rattle.sp_modulo.specs.Times.{IsFitting}
use Rattle.sp_plan.specs.Bodies.{latencies}
use Rattle.sp_plan.specs.Orders.{order, no_op, op_at, use_order, mask_orders, use_orders, is_in_body, change_gap, meet_order, meet_orders, same_time, in_turn, port_orders, all_port_orders, body_orders}
use Rattle.sp_plan.specs.Ports.{is_change, is_one_port, is_one_mem, share_port, is_serial}
use Rattle.sp_sched.proofs.Earlier.{and_parts, AllBelow, MaskBelow, IsEarlier}
use Rattle.sp_sched.proofs.OrderLists.{flat_map-suc}
use Rattle.sp_words.specs.declared.kind.Kind.{Kind}
use Rattle.sp_words.specs.declared.kind.Kind.TheVariants.{Reg, Sram, Fifo, LineBuf, Dram, ArgIn, ArgOut}

some_read : (k : Kind) → 1 ≤ read_latency k
some_read Reg = omega arith
some_read Sram = omega arith
some_read Fifo = omega arith
some_read LineBuf = omega arith
some_read Dram = omega arith
some_read ArgIn = omega arith
some_read ArgOut = omega arith

some_change : (k : OpKind) (r : ℕ) → cond (is_change k) 1 0 ≤ latency_by k r
some_change (Word w) r = omega arith
some_change (Count c l) r = omega arith
some_change (Live c f l) r = omega arith
some_change Read r = omega arith
some_change Write r = omega arith
some_change Enq r = omega arith
some_change Deq r = omega arith
some_change Reset r = omega arith
some_change (One op) r = omega arith
some_change (Two op) r = omega arith
some_change (Shift left by) r = omega arith
some_change Mux r = omega arith
some_change (Cast ty) r = omega arith

some_port : (a b : OpKind) (r : ℕ) → 1 ≤ r → is_one_port a b ≡ true → 1 ≤ latency_by a r
some_port Read b r h e = h
some_port Write b r h e = omega arith
some_port (Word w) b r h e = cc
some_port (Count c l) b r h e = cc
some_port (Live c f l) b r h e = cc
some_port Enq b r h e = cc
some_port Deq b r h e = cc
some_port Reset b r h e = cc
some_port (One op) b r h e = cc
some_port (Two op) b r h e = cc
some_port (Shift left by) b r h e = cc
some_port Mux b r h e = cc
some_port (Cast ty) b r h e = cc

one_port-back : (a b : OpKind) → is_one_port a b ≡ true → is_one_port b a ≡ true
one_port-back Read Read e = refl
one_port-back Read Write e = cc
one_port-back Read (Word x) e = cc
one_port-back Read (Count x y) e = cc
one_port-back Read (Live x y z) e = cc
one_port-back Read Enq e = cc
one_port-back Read Deq e = cc
one_port-back Read Reset e = cc
one_port-back Read (One x) e = cc
one_port-back Read (Two x) e = cc
one_port-back Read (Shift x y) e = cc
one_port-back Read Mux e = cc
one_port-back Read (Cast x) e = cc
one_port-back Write Read e = cc
one_port-back Write Write e = refl
one_port-back Write (Word x) e = cc
one_port-back Write (Count x y) e = cc
one_port-back Write (Live x y z) e = cc
one_port-back Write Enq e = cc
one_port-back Write Deq e = cc
one_port-back Write Reset e = cc
one_port-back Write (One x) e = cc
one_port-back Write (Two x) e = cc
one_port-back Write (Shift x y) e = cc
one_port-back Write Mux e = cc
one_port-back Write (Cast x) e = cc
one_port-back (Word w) b e = cc
one_port-back (Count c l) b e = cc
one_port-back (Live c f l) b e = cc
one_port-back Enq b e = cc
one_port-back Deq b e = cc
one_port-back Reset b e = cc
one_port-back (One op) b e = cc
one_port-back (Two op) b e = cc
one_port-back (Shift left by) b e = cc
one_port-back Mux b e = cc
one_port-back (Cast ty) b e = cc

All-below : {Y : Type 0} (P : Y → Type 0) (f : ℕ → List Y) (n : ℕ) → ((j : ℕ) → j < n → All P (f j)) → All P (flat_map f (numbers_below n))
All-below P f zero h = All-nil P
All-below P f (suc n) h = subst (λ (ys : List _). All P ys) (sym (flat_map-suc f n)) (All-append P (flat_map f (numbers_below n)) (f n) (All-below P f n (λ j lt. h j (omega arith))) (h n (omega arith)))

All-flat : {X Y : Type 0} (P : Y → Type 0) (f : X → List Y) (xs : List X) → ((x : X) → All P (f x)) → All P (flat_map f xs)
All-flat P f [] h = All-nil P
All-flat P f (x ∷ xs) h = All-append P (f x) (flat_map f xs) (h x) (All-flat P f xs h)

All-if : {Y : Type 0} (P : Y → Type 0) (b : Bool) (xs ys : List Y) → (b ≡ true → All P xs) → All P ys → All P (cond b xs ys)
All-if P true xs ys h g = h refl
All-if P false xs ys h g = g

All-two : {Y : Type 0} (P : Y → Type 0) (x y : Y) → P x → P y → All P (x ∷ y ∷ [])
All-two P x y p q = All-cons P x (y ∷ []) p (All-cons P y [] q (All-nil P))

module _ (core : PlainCore) (ops : List PlainOp) where
  abbrev Fits : Order → Type 0
  Fits = IsFitting (latencies core ops)

  count : length (latencies core ops) ≡ length ops
  count = length-map ops (latency core)

  at : (i : ℕ) → i < length ops → slice_index (latencies core ops) i ≡ latency core (op_at core ops i)
  at i h = get_or-map (latency core) ops i no_op 0 h

  fits : (i j gap k : ℕ) → i < length ops → j < length ops → gap ≤ latency core (op_at core ops i) → Fits (order i j gap k)
  fits i j gap k a b h = (omega (arith, count), omega (arith, count), omega (arith, at i a))

  use_fits : (j i : ℕ) → j < length ops → i < j → Fits (use_order core ops j i)
  use_fits j i h less = fits i j (latency core (op_at core ops i)) 0 (omega arith) h (omega arith)

  args_fit : (j : ℕ) (args : List ℕ) → j < length ops → AllBelow j args → All Fits (map (use_order core ops j) args)
  args_fit j [] h b = All-nil Fits
  args_fit j (a ∷ args) h b = All-cons Fits (use_order core ops j a) _ (use_fits j a h b.0) (args_fit j args h b.1)

  mask_fits : (j : ℕ) (mask : Option ℕ) → j < length ops → MaskBelow j mask → All Fits (mask_orders core ops j mask)
  mask_fits j None h b = All-nil Fits
  mask_fits j (Some a) h b = All-cons Fits (use_order core ops j a) [] (use_fits j a h b) (All-nil Fits)

  in_body : (number n : ℕ) → is_in_body core ops number n ≡ true → n - number < length ops
  in_body number n e = ltb-true _ _ (and_parts (nat_le number n) _ e).1

  meet_fits : (number : ℕ) (m : Meet) → All Fits (meet_orders core ops number m)
  meet_fits number m = All-if Fits (is_in_body core ops number m.first && is_in_body core ops number m.second) (meet_order core ops number m ∷ []) []
      (λ e.
      let parts = and_parts (is_in_body core ops number m.first) _ e in
      let op = op_at core ops (m.first - number) in
      All-cons Fits (meet_order core ops number m) [] (fits (m.first - number) (m.second - number) (change_gap core ops number op) (least_of core [] m) (in_body number m.first parts.0) (in_body number m.second parts.1) (some_change op.kind (read_of core op.mem))) (All-nil Fits))
      (All-nil Fits)

  some_read_of : (m : Option ℕ) → 1 ≤ read_of core m
  some_read_of None = omega arith
  some_read_of (Some m) = some_read (mem core m).kind

  port_fits : (schemes : List (Option Banking)) (j i : ℕ) → j < length ops → i < j → All Fits (port_orders core ops schemes j i)
  port_fits schemes j i h less =
      let a = op_at core ops i in
      let b = op_at core ops j in
      All-if Fits (share_port core a b) _ []
      (λ e.
      let port = (and_parts (is_one_port a.kind b.kind) (is_one_mem a.mem b.mem) (and_parts (is_one_port a.kind b.kind && is_one_mem a.mem b.mem) _ e).0).0 in
      let first : 1 ≤ latency core a = some_port a.kind b.kind (read_of core a.mem) (some_read_of a.mem) port in
      let second : 1 ≤ latency core b = some_port b.kind a.kind (read_of core b.mem) (some_read_of b.mem) (one_port-back a.kind b.kind port) in
      All-if Fits (is_serial schemes a.mem) (in_turn core ops schemes i j) (same_time core ops schemes i j)
      (λ _. All-two Fits _ _ (fits i j 1 0 (omega arith) h first) (fits j i 1 1 h (omega arith) second))
      (All-two Fits _ _ (fits i j 0 0 (omega arith) h (omega arith)) (fits j i 0 0 h (omega arith) (omega arith))))
      (All-nil Fits)

  pub orders_fit : (schemes : List (Option Banking)) (number : ℕ) (meets : List Meet) → ((j : ℕ) → j < length ops → IsEarlier j (op_at core ops j)) → All Fits (body_orders core ops schemes number meets)
  orders_fit schemes number meets earlier =
      All-append Fits (flat_map (use_orders core ops) (numbers_below (length ops))) _
      (All-below Fits (use_orders core ops) (length ops) (λ j h. let e = earlier j h in All-append Fits _ _ (args_fit j (op_at core ops j).args h e.args) (mask_fits j (op_at core ops j).mask h e.mask)))
      (All-append Fits (flat_map (meet_orders core ops number) meets) _
      (All-flat Fits (meet_orders core ops number) meets (meet_fits number))
      (All-below Fits (all_port_orders core ops schemes) (length ops) (λ j h. All-below Fits (port_orders core ops schemes j) j (λ i less. port_fits schemes j i h less))))
