-- Moments that stay with a copy follow in the copies.
use Rattle.std.proofs.Common.{◌≡◌, ℕ, suc, ◌<◌, inl, inr, Bool, true, false, cond, List, [], ◌∷◌, length, refl, sym, subst, ap, ◌∙◌}
use Rattle.std.proofs.lemmas.Bool.{and_parts, and_from, cases_eq, eq-eqb, ne_eqb, eqb-true, true≢false, false≢true}
use Rattle.std.specs.Prelude.{◌==◌, ◌&&◌, ◌⊎◌, Option, Some, None, slice_index}
use Rattle.sp_words.specs.declared.kind.Kind.{Kind}
use Rattle.sp_words.specs.declared.kind.Kind.TheVariants as kinds
use Rattle.sp_words.specs.Memory.{Contents, cells, fresh_of}
use Rattle.sp_core.specs.Accesses.{with_word, with_newest, without_oldest, with_new_row}
use Rattle.sp_core.specs.Declarations.{mem, kind_of, dims, room, fresh}
use Rattle.sp_core.specs.Events.{Act, reads, writes, puts, takes, resets, turns, Standing, Moment, touches, slices, renews, keeps}
use Rattle.sp_core.specs.Meeting.{element}
use Rattle.sp_core.specs.PlainCore.{PlainCore}
use Rattle.sp_core.specs.Replay.{Happens, after_all}
use Rattle.sp_core.specs.Sequential.{has_reset}
use Rattle.sp_core.specs.Store.{Store, changed, hold, queue_of, rows_of}
use Rattle.sp_time.specs.Events.{after, Follows}
use Rattle.sp_time.specs.Lists.{Each}
use Rattle.sp_time.specs.Places.{Place, is_place}
use Rattle.sp_machine.specs.Found.{event_of, events_of, does, Sees, one_cell, written_to}
use Rattle.sp_machine.specs.Laws.{told}
use Rattle.sp_machine.specs.Stamps.{Stamped}
use Rattle.sp_contents.specs.Held.{IsShaped, Holds, Agree, AreLines}
use Rattle.sp_contents.specs.Laws.{CopiesFollow}
use Rattle.sp_contents.specs.Steady.{AtHand, AreSteady, hand_after, IsFifo, IsLine, IsReg, IsMade, IsOnChip, MayAct, IsAllowed}
use Rattle.sp_contents.proofs.ByKind.{holds_same, word_seen, word_put, newest_put, oldest_taken, queue_is, rows_turned, start_held, blank_held, kept_held, shaped_set, shaped_turn}

cond_same : {A : Type 0} (b : Bool) (x : A) → cond b x x ≡ x
cond_same true x = refl
cond_same false x = refl

-- one number of a function is changed
pub changed_same : {A : Type 0} (f : ℕ → A) (m : ℕ) (x : A) → changed f m x m ≡ x
changed_same {A} f m x = ap (λ b. elim b as (λ _. A) [ true ↦ x | false ↦ f m ]) (eq-eqb m m refl)

pub changed_other : {A : Type 0} (f : ℕ → A) (m : ℕ) (x : A) (k : ℕ) → (k ≡ m → ⊥) → changed f m x k ≡ f k
changed_other {A} f m x k n = ap (λ b. elim b as (λ _. A) [ true ↦ x | false ↦ f k ]) (ne_eqb k m n)

-- kinds of one element
fifo_element : (k : Kind) (ds is : List ℕ) → IsFifo k → element k ds is ≡ 0
fifo_element kinds.Fifo ds is l = refl
fifo_element kinds.Reg ds is l = absurd l
fifo_element kinds.Sram ds is l = absurd l
fifo_element kinds.LineBuf ds is l = absurd l
fifo_element kinds.Dram ds is l = absurd l
fifo_element kinds.ArgIn ds is l = absurd l
fifo_element kinds.ArgOut ds is l = absurd l

line_element : (k : Kind) (ds is : List ℕ) → IsLine k → element k ds is ≡ 0
line_element kinds.LineBuf ds is l = refl
line_element kinds.Fifo ds is l = absurd l
line_element kinds.Reg ds is l = absurd l
line_element kinds.Sram ds is l = absurd l
line_element kinds.Dram ds is l = absurd l
line_element kinds.ArgIn ds is l = absurd l
line_element kinds.ArgOut ds is l = absurd l

reset_element : (k : Kind) (start : Option ℕ) (ds is : List ℕ) → has_reset k start ≡ true → element k ds is ≡ 0
reset_element kinds.Fifo start ds is l = refl
reset_element kinds.Reg start ds is l = refl
reset_element kinds.Sram start ds is l = absurd (false≢true l)
reset_element kinds.LineBuf start ds is l = absurd (false≢true l)
reset_element kinds.Dram start ds is l = absurd (false≢true l)
reset_element kinds.ArgIn start ds is l = absurd (false≢true l)
reset_element kinds.ArgOut start ds is l = absurd (false≢true l)

-- what isn't a line buffer
fifo_no_line : (k : Kind) → IsFifo k → k ≡ kinds.LineBuf → ⊥
fifo_no_line k l e = subst IsFifo e l

reg_no_line : (k : Kind) → IsReg k → k ≡ kinds.LineBuf → ⊥
reg_no_line k l e = subst IsReg e l

reset_no_line : (k : Kind) (start : Option ℕ) → has_reset k start ≡ true → k ≡ kinds.LineBuf → ⊥
reset_no_line k start l e = false≢true (subst (λ x. has_reset x start ≡ true) e l)

line_kind : (k : Kind) → IsLine k → k ≡ kinds.LineBuf
line_kind kinds.LineBuf l = refl
line_kind kinds.Fifo l = absurd l
line_kind kinds.Reg l = absurd l
line_kind kinds.Sram l = absurd l
line_kind kinds.Dram l = absurd l
line_kind kinds.ArgIn l = absurd l
line_kind kinds.ArgOut l = absurd l

module _ (core : PlainCore) (lines : AreLines core) where
  abbrev at : (m copy i : ℕ) → Place
  at m copy i = record { mem = m; copy = copy; element = i }

  here : (m copy i : ℕ) → is_place (at m copy i) (at m copy i) ≡ true
  here m copy i = and_from (m == m) _ (eq-eqb m m refl) (and_from (copy == copy) (i == i) (eq-eqb copy copy refl) (eq-eqb i i refl))

  no_first : (x y : Bool) → x ≡ false → (x && y) ≡ false
  no_first true y e = absurd (true≢false e)
  no_first false y e = refl

  no_second : (x y : Bool) → y ≡ false → (x && y) ≡ false
  no_second true y e = e
  no_second false y e = refl

  other_mem : (m copy i n c j : ℕ) → (n ≡ m → ⊥) → is_place (at m copy i) (at n c j) ≡ false
  other_mem m copy i n c j d = no_first (m == n) ((copy == c) && (i == j)) (ne_eqb m n (λ e. d (sym e)))

  other_element : (m copy i j : ℕ) → (j ≡ i → ⊥) → is_place (at m copy i) (at m copy j) ≡ false
  other_element m copy i j d = no_second (m == m) ((copy == copy) && (i == j)) (no_second (copy == copy) (i == j) (ne_eqb i j (λ e. d (sym e))))

  -- places in which one is changed
  abbrev after_at : Place → (Option Contents → Option Contents) → (Place → Option Contents) → Place → Option Contents
  after_at p d c q = cond (is_place p q) (d (c q)) (c q)

  hit : (m copy i : ℕ) (d : Option Contents → Option Contents) (c : Place → Option Contents) → after_at (at m copy i) d c (at m copy i) ≡ d (c (at m copy i))
  hit m copy i d c = ap (λ b. cond b (d (c (at m copy i))) (c (at m copy i))) (here m copy i)

  miss : (p : Place) (d : Option Contents → Option Contents) (c : Place → Option Contents) (q : Place) → is_place p q ≡ false → after_at p d c q ≡ c q
  miss p d c q e = ap (λ b. cond b (d (c q)) (c q)) e

  -- a memory is changed at one element of the copy at hand
  agree_changed : (hand next : AtHand) (s : Store) (c : Place → Option Contents) (m copy i : ℕ) (new : Contents) (d : Option Contents → Option Contents) → Agree core hand s c → next m ≡ Some copy → ((n : ℕ) → (n ≡ m → ⊥) → next n ≡ hand n)
      → Holds core (kind_of core m) (dims core m) (Some new) (λ j. after_at (at m copy i) d c (at m copy j)) → (kind_of core m ≡ kinds.LineBuf → (x : Option Contents) → IsShaped (dims core m) (rows_of x) → IsShaped (dims core m) (rows_of (d x)))
      → Agree core next (hold s m new) (after_at (at m copy i) d c)
  agree_changed hand next s c m copy i new d h now others holds shape = record {
    held = λ n k e. elim (cases_eq n m) [
      | inl q ↦ subst (λ x. Holds core (kind_of core x) (dims core x) (hold s m new x) (λ j. after_at (at m copy i) d c (at x k j))) (sym q)
          (subst (λ y. Holds core (kind_of core m) (dims core m) (hold s m new m) (λ j. after_at (at m copy i) d c (at m y j))) (some_same copy k (sym now ∙ ap next (sym q) ∙ e))
          (subst (λ z. Holds core (kind_of core m) (dims core m) z (λ j. after_at (at m copy i) d c (at m copy j))) (sym (changed_same s m (Some new))) holds))
      | inr q ↦ subst (λ z. Holds core (kind_of core n) (dims core n) z (λ j. after_at (at m copy i) d c (at n k j))) (sym (changed_other s m (Some new) n q))
          (holds_same core (kind_of core n) (dims core n) (s n) (λ j. c (at n k j)) (λ j. after_at (at m copy i) d c (at n k j)) (λ j. miss (at m copy i) d c (at n k j) (other_mem m copy i n k j q)) (h.held n k (sym (others n q) ∙ e)))
    ];
    lines = λ n k e. go n k e (is_place (at m copy i) (at n k 0)) refl;
  }
    where
      some_same : (x y : ℕ) → Some x ≡ Some y → x ≡ y
      some_same x y e = ap value e
        where
          value : Option ℕ → ℕ
          value None = 0
          value (Some v) = v

      go : (n k : ℕ) → kind_of core n ≡ kinds.LineBuf → (b : Bool) → is_place (at m copy i) (at n k 0) ≡ b → IsShaped (dims core n) (rows_of (after_at (at m copy i) d c (at n k 0)))
      go n k e false q = subst (λ x. IsShaped (dims core n) (rows_of x)) (sym (miss (at m copy i) d c (at n k 0) q)) (h.lines n k e)
      go n k e true q =
          let same : m ≡ n = eqb-true m n (and_parts (m == n) _ q).0 in
          subst (λ b. IsShaped (dims core n) (rows_of (cond b (d (c (at n k 0))) (c (at n k 0))))) (sym q)
          (subst (λ x. (y : Option Contents) → IsShaped (dims core x) (rows_of y) → IsShaped (dims core x) (rows_of (d y))) same (shape (ap (kind_of core) same ∙ e)) (c (at n k 0)) (h.lines n k e))

  -- nothing is changed
  agree_same : (hand : AtHand) (s : Store) (c : Place → Option Contents) (p : Place) → Agree core hand s c → Agree core hand s (after_at p (λ x. x) c)
  agree_same hand s c p h = record {
    held = λ n k e. holds_same core (kind_of core n) (dims core n) (s n) (λ j. c (at n k j)) (λ j. after_at p (λ x. x) c (at n k j)) (λ j. cond_same (is_place p (at n k j)) (c (at n k j))) (h.held n k e);
    lines = λ n k e. subst (λ x. IsShaped (dims core n) (rows_of x)) (sym (cond_same (is_place p (at n k 0)) (c (at n k 0)))) (h.lines n k e);
  }

  fresh_is : (m : ℕ) → IsOnChip core m → fresh core m ≡ fresh_of (kind_of core m) (dims core m) (mem core m).start []
  fresh_is m o = ap (λ k. fresh_of k (mem core m).dims (mem core m).start []) (sym o.kind_is) ∙ ap (λ ds. fresh_of (kind_of core m) ds (mem core m).start []) (sym o.dims_are)

  written_shaped : (k : Kind) (m : ℕ) (is : List ℕ) (w : ℕ) → k ≡ kinds.LineBuf → (x : Option Contents) → IsShaped (dims core m) (rows_of x) → IsShaped (dims core m) (rows_of (written_to core k m is w x))
  written_shaped kinds.LineBuf m is w e x h = shaped_set (dims core m) (rows_of x) (slice_index is 0) (slice_index is 1) w h
  written_shaped kinds.Reg m is w e x h = absurd (subst IsLine (sym e) tt)
  written_shaped kinds.Sram m is w e x h = absurd (subst IsLine (sym e) tt)
  written_shaped kinds.Fifo m is w e x h = absurd (subst IsLine (sym e) tt)
  written_shaped kinds.Dram m is w e x h = absurd (subst IsLine (sym e) tt)
  written_shaped kinds.ArgIn m is w e x h = absurd (subst IsLine (sym e) tt)
  written_shaped kinds.ArgOut m is w e x h = absurd (subst IsLine (sym e) tt)

  turned_held : (k : Kind) (ds : List ℕ) (r n : ℕ) → ds ≡ suc r ∷ n ∷ [] → IsLine k → (c : Option Contents) (f g : ℕ → Option Contents) → Holds core k ds c f → g 0 ≡ Some (with_new_row ds (f 0)) → Holds core k ds (Some (with_new_row ds c)) g
  turned_held k ds r n e l c f g = subst (λ x. Holds core k x c f → g 0 ≡ Some (with_new_row x (f 0)) → Holds core k x (Some (with_new_row x c)) g) (sym e) (λ h q. rows_turned core k r n c f g l h q)

  turned_shaped : (ds : List ℕ) (r n : ℕ) → ds ≡ suc r ∷ n ∷ [] → (x : Option Contents) → IsShaped ds (rows_of x) → IsShaped ds (rows_of (Some (with_new_row ds x)))
  turned_shaped ds r n e x = subst (λ y. IsShaped y (rows_of x) → IsShaped y (rows_of (Some (with_new_row y x)))) (sym e) (λ h. shaped_turn r n (rows_of x) h)

  -- an event, and those after it
  abbrev Followed : AtHand → Store → (Place → Option Contents) → List Stamped → Type 0
  Followed hand s c es =
      Follows is_place (does core) (Sees core) (events_of core es) c × Agree core (hand_after hand es) (after_all core (told es) s) (after is_place (does core) (events_of core es) c)

  abbrev Others : List Stamped → Type 0
  Others es = (hand : AtHand) (s : Store) (c : Place → Option Contents) → AreSteady hand es → Happens core (told es) s → Agree core hand s c → Followed hand s c es

  abbrev touched_at : (t k n : ℕ) → Standing → (m : ℕ) → List ℕ → Act → Stamped
  touched_at t k n st m is a = record { cycle = t; copy = k; moment = touches (record { number = n; standing = st; mem = m; indices = is; act = a }) }

  module _ (t k n : ℕ) (st : Standing) (m : ℕ) (is : List ℕ) where
    abbrev el : ℕ
    el = element (kind_of core m) (dims core m) is

    touch_follows : (a : Act) (es : List Stamped) → Others es → (hand : AtHand) (s : Store) (c : Place → Option Contents) → AreSteady hand (touched_at t k n st m is a ∷ es) → MayAct core m is a → Happens core (told (touched_at t k n st m is a ∷ es)) s → Agree core hand s c
        → Followed hand s c (touched_at t k n st m is a ∷ es)
    touch_follows (reads w) es others hand s c steady may happens h =
        let rest = others hand s (after_at (at m k el) (λ x. x) c) steady.1 happens.1 (agree_same hand s c (at m k el) h) in
        ((word_seen core (kind_of core m) m is w (s m) (λ i. c (at m k i)) happens.0 may (h.held m k steady.0), rest.0), rest.1)
    touch_follows (writes w) es others hand s c steady may happens h =
        let d : Option Contents → Option Contents = written_to core (kind_of core m) m is w in
        let rest = others hand (hold s m (with_word (kind_of core m) (dims core m) is w (s m))) (after_at (at m k el) d c) steady.1 happens.1
        (agree_changed hand hand s c m k el (with_word (kind_of core m) (dims core m) is w (s m)) d h steady.0 (λ x q. refl)
        (word_put core (kind_of core m) m is w (s m) (λ i. c (at m k i)) (λ i. after_at (at m k el) d c (at m k i)) may (h.held m k steady.0) (hit m k el d c) (λ i q. miss (at m k el) d c (at m k i) (other_element m k el i q)))
        (λ e. written_shaped (kind_of core m) m is w e)) in
        ((tt, rest.0), rest.1)
    touch_follows (puts w) es others hand s c steady may happens h =
        let d : Option Contents → Option Contents = (λ x. Some (with_newest w x)) in
        let z : el ≡ 0 = fifo_element (kind_of core m) (dims core m) is may in
        let rest = others hand (hold s m (with_newest w (s m))) (after_at (at m k el) d c) steady.1 happens.1
        (agree_changed hand hand s c m k el (with_newest w (s m)) d h steady.0 (λ x q. refl)
        (newest_put core (kind_of core m) (dims core m) w (s m) (λ i. c (at m k i)) (λ i. after_at (at m k el) d c (at m k i)) may (h.held m k steady.0) (subst (λ y. after_at (at m k el) d c (at m k y) ≡ d (c (at m k y))) z (hit m k el d c)))
        (λ e. absurd (fifo_no_line (kind_of core m) may e))) in
        ((subst (λ y. length (queue_of (c (at m k y))) < room core m) (sym z) (subst (λ ws. length ws < room core m) (queue_is core (kind_of core m) (dims core m) (s m) (λ i. c (at m k i)) may (h.held m k steady.0)) happens.0), rest.0), rest.1)
    touch_follows (takes w) es others hand s c steady may happens h =
        let d : Option Contents → Option Contents = (λ x. Some (without_oldest x)) in
        let z : el ≡ 0 = fifo_element (kind_of core m) (dims core m) is may in
        let rest = others hand (hold s m (without_oldest (s m))) (after_at (at m k el) d c) steady.1 happens.1
        (agree_changed hand hand s c m k el (without_oldest (s m)) d h steady.0 (λ x q. refl)
        (oldest_taken core (kind_of core m) (dims core m) (s m) (λ i. c (at m k i)) (λ i. after_at (at m k el) d c (at m k i)) may (h.held m k steady.0) (subst (λ y. after_at (at m k el) d c (at m k y) ≡ d (c (at m k y))) z (hit m k el d c)))
        (λ e. absurd (fifo_no_line (kind_of core m) may e))) in
        ((subst (λ y. (left : List ℕ) × (queue_of (c (at m k y)) ≡ w ∷ left)) (sym z) (happens.0.0, sym (queue_is core (kind_of core m) (dims core m) (s m) (λ i. c (at m k i)) may (h.held m k steady.0)) ∙ happens.0.1), rest.0), rest.1)
    touch_follows resets es others hand s c steady may happens h =
        let d : Option Contents → Option Contents = (λ x. Some (fresh core m)) in
        let z : el ≡ 0 = reset_element (kind_of core m) (mem core m).start (dims core m) is may.0 in
        let new : fresh core m ≡ fresh_of (kind_of core m) (dims core m) (mem core m).start [] = fresh_is m may.1 in
        let rest = others (changed hand m (Some k)) (hold s m (fresh core m)) (after_at (at m k el) d c) steady.1 happens.1
        (agree_changed hand (changed hand m (Some k)) s c m k el (fresh core m) d h (changed_same hand m (Some k)) (λ x q. changed_other hand m (Some k) x q)
        (subst (λ y. Holds core (kind_of core m) (dims core m) (Some y) (λ i. after_at (at m k el) d c (at m k i))) (sym new)
        (start_held core (kind_of core m) (dims core m) (mem core m).start (λ i. after_at (at m k el) d c (at m k i)) may.0 (subst (λ y. after_at (at m k el) d c (at m k y) ≡ Some (fresh core m)) z (hit m k el d c) ∙ ap (λ x. Some x) new)))
        (λ e. absurd (reset_no_line (kind_of core m) (mem core m).start may.0 e))) in
        ((tt, rest.0), rest.1)
    touch_follows turns es others hand s c steady may happens h =
        let d : Option Contents → Option Contents = (λ x. Some (with_new_row (dims core m) x)) in
        let z : el ≡ 0 = line_element (kind_of core m) (dims core m) is may in
        let sizes = lines m (line_kind (kind_of core m) may) in
        let rest = others hand (hold s m (with_new_row (dims core m) (s m))) (after_at (at m k el) d c) steady.1 happens.1
        (agree_changed hand hand s c m k el (with_new_row (dims core m) (s m)) d h steady.0 (λ x q. refl)
        (turned_held (kind_of core m) (dims core m) sizes.0 sizes.1 sizes.2 may (s m) (λ i. c (at m k i)) (λ i. after_at (at m k el) d c (at m k i)) (h.held m k steady.0) (subst (λ y. after_at (at m k el) d c (at m k y) ≡ d (c (at m k y))) z (hit m k el d c)))
        (λ e. turned_shaped (dims core m) sizes.0 sizes.1 sizes.2)) in
        ((tt, rest.0), rest.1)

  -- a memory that is made
  renewed : (t k m : ℕ) (es : List Stamped) → Others es → (hand : AtHand) (s : Store) (c : Place → Option Contents) → AreSteady (changed hand m (Some k)) es → IsMade (kind_of core m) → IsOnChip core m → Happens core (told es) (hold s m (fresh core m)) → Agree core hand s c
      → (b : Bool) → has_reset (mem core m).kind (mem core m).start ≡ b → Followed hand s c (record { cycle = t; copy = k; moment = renews m } ∷ es)
  renewed t k m es others hand s c steady made o happens h true q =
      let d : Option Contents → Option Contents = (λ x. Some (fresh core m)) in
      let reset : has_reset (kind_of core m) (mem core m).start ≡ true = ap (λ x. has_reset x (mem core m).start) o.kind_is ∙ q in
      let new : fresh core m ≡ fresh_of (kind_of core m) (dims core m) (mem core m).start [] = fresh_is m o in
      let rest = others (changed hand m (Some k)) (hold s m (fresh core m)) (after_at (at m k 0) d c) steady happens
      (agree_changed hand (changed hand m (Some k)) s c m k 0 (fresh core m) d h (changed_same hand m (Some k)) (λ x z. changed_other hand m (Some k) x z)
      (subst (λ y. Holds core (kind_of core m) (dims core m) (Some y) (λ i. after_at (at m k 0) d c (at m k i))) (sym new)
      (start_held core (kind_of core m) (dims core m) (mem core m).start (λ i. after_at (at m k 0) d c (at m k i)) reset (hit m k 0 d c ∙ ap (λ x. Some x) new)))
      (λ e. absurd (reset_no_line (kind_of core m) (mem core m).start reset e))) in
      subst (λ es. Follows is_place (does core) (Sees core) es c × Agree core (hand_after (changed hand m (Some k)) tail) (after_all core (told tail) (hold s m (fresh core m))) (after is_place (does core) es c)) (ap (λ b. cond b (event_of core head ∷ events_of core tail) (events_of core tail)) (sym q))
      ((tt, rest.0), rest.1)
    where
      head : Stamped
      head = record { cycle = t; copy = k; moment = renews m }

      tail : List Stamped
      tail = es
  renewed t k m es others hand s c steady made o happens h false q =
      let blank : has_reset (kind_of core m) (mem core m).start ≡ false = ap (λ x. has_reset x (mem core m).start) o.kind_is ∙ q in
      let new : fresh core m ≡ fresh_of (kind_of core m) (dims core m) (mem core m).start [] = fresh_is m o in
      let rest = others (changed hand m (Some k)) (hold s m (fresh core m)) c steady happens (record {
        held = λ x y e. by x y e (cases_eq x m) new blank;
        lines = h.lines;
      }) in
      subst (λ es. Follows is_place (does core) (Sees core) es c × Agree core (hand_after (changed hand m (Some k)) tail) (after_all core (told tail) (hold s m (fresh core m))) (after is_place (does core) es c)) (ap (λ b. cond b (event_of core head ∷ events_of core tail) (events_of core tail)) (sym q))
      rest
    where
      head : Stamped
      head = record { cycle = t; copy = k; moment = renews m }

      tail : List Stamped
      tail = es

      by : (x y : ℕ) → changed hand m (Some k) x ≡ Some y → (x ≡ m) ⊎ (x ≡ m → ⊥) → fresh core m ≡ fresh_of (kind_of core m) (dims core m) (mem core m).start [] → has_reset (kind_of core m) (mem core m).start ≡ false
          → Holds core (kind_of core x) (dims core x) (hold s m (fresh core m) x) (λ i. c (at x y i))
      by x y e (inl z) new blank =
          subst (λ x. Holds core (kind_of core x) (dims core x) (hold s m (fresh core m) x) (λ i. c (at x y i))) (sym z)
          (subst (λ v. Holds core (kind_of core m) (dims core m) v (λ i. c (at m y i))) (sym (changed_same s m (Some (fresh core m)) ∙ ap (λ x. Some x) new))
          (blank_held core (kind_of core m) (dims core m) (mem core m).start (λ i. c (at m y i)) made blank (λ l. h.lines m y l)))
      by x y e (inr z) new blank =
          subst (λ v. Holds core (kind_of core x) (dims core x) v (λ i. c (at x y i))) (sym (changed_other s m (Some (fresh core m)) x z)) (h.held x y (sym (changed_other hand m (Some k) x z) ∙ e))

  -- the state of an FSM
  kept : (t k m w : ℕ) (es : List Stamped) → Others es → (hand : AtHand) (s : Store) (c : Place → Option Contents) → AreSteady (changed hand m (Some k)) es → IsReg (kind_of core m) → Happens core (told es) (hold s m (cells (Some w ∷ []))) → Agree core hand s c
      → Followed hand s c (record { cycle = t; copy = k; moment = keeps m w } ∷ es)
  kept t k m w es others hand s c steady reg happens h =
      let d : Option Contents → Option Contents = (λ x. one_cell core w) in
      let rest = others (changed hand m (Some k)) (hold s m (cells (Some w ∷ []))) (after_at (at m k 0) d c) steady happens
      (agree_changed hand (changed hand m (Some k)) s c m k 0 (cells (Some w ∷ [])) d h (changed_same hand m (Some k)) (λ x q. changed_other hand m (Some k) x q)
      (kept_held core (kind_of core m) (dims core m) w (λ i. after_at (at m k 0) d c (at m k i)) reg (hit m k 0 d c)) (λ e. absurd (reg_no_line (kind_of core m) reg e))) in
      ((tt, rest.0), rest.1)

  one_follows : (t k : ℕ) (x : Moment) (es : List Stamped) → Others es → (hand : AtHand) (s : Store) (c : Place → Option Contents) → AreSteady hand (record { cycle = t; copy = k; moment = x } ∷ es) → IsAllowed core x → Happens core (x ∷ told es) s → Agree core hand s c
      → Followed hand s c (record { cycle = t; copy = k; moment = x } ∷ es)
  one_follows t k (touches e) es others hand s c steady may happens h = touch_follows t k e.number e.standing e.mem e.indices e.act es others hand s c steady may happens h
  one_follows t k (slices z) es others hand s c steady may happens h = others hand s c steady.1 happens.1 h
  one_follows t k (renews m) es others hand s c steady may happens h = renewed t k m es others hand s c steady.1 may.0 may.1 happens.1 h (has_reset (mem core m).kind (mem core m).start) refl
  one_follows t k (keeps m w) es others hand s c steady may happens h = kept t k m w es others hand s c steady.1 may happens.1 h

  all_follow : (es : List Stamped) → Each (λ x. IsAllowed core x.moment) es → Others es
  all_follow [] may hand s c steady happens h = (tt, h)
  all_follow (x ∷ es) may hand s c steady happens h = one_follows x.cycle x.copy x.moment es (all_follow es may.1) hand s c steady may.0 happens h

pub copies_follow : (core : PlainCore) → CopiesFollow core
copies_follow core lines run hand s c steady may happens h = all_follow core lines run may hand s c steady happens h
