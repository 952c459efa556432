-- What happens without making a memory stays with the copies at hand.
use Rattle.std.proofs.Common.{◌≡◌, ℕ, suc, ◌+◌, inl, inr, Bool, true, false, List, [], ◌∷◌, ◌++◌, map, length, refl, sym, ap, ◌∙◌}
use Rattle.std.proofs.lemmas.Bool.{and_parts, cases_eq, eq-eqb, eqb-true, or_parts, true≢false, false≢true}
use Rattle.std.specs.List.{list_all}
use Rattle.std.specs.Prelude.{◌==◌, ◌&&◌, ◌||◌, flat_map, Option, Some, None}
use Rattle.sp_words.specs.declared.kind.Kind.{Kind}
use Rattle.sp_words.specs.declared.kind.Kind.TheVariants as kinds
use Rattle.sp_core.specs.Around.{Around, is_usable}
use Rattle.sp_core.specs.Declarations.{is_among, mem, kind_of, dram_number}
use Rattle.sp_core.specs.Events.{Act, reads, writes, puts, takes, resets, turns, Standing, Moment, touches, slices, renews, keeps, act_of, event_of, entry_moments, list_moments, bounds_moments, spans_moments, rows_turn, renewal_in_body, first_of}
use Rattle.sp_core.specs.History.{Entry, left_out, gave, touched, Bounds, Taken, one, both}
use Rattle.sp_core.specs.NodeRules.{is_span_right}
use Rattle.sp_core.specs.OperationRules.{is_access, names_rightly, is_operation_right, are_operations_right_after, is_bound, is_counter_right}
use Rattle.sp_core.specs.PlainCore.{PlainOp, PlainCounter, PlainSpan, single, range, PlainCore}
use Rattle.sp_core.specs.Sequential.{has_reset}
use Rattle.sp_core.specs.Store.{changed}
use Rattle.sp_core.specs.Transfers.{Part, lengths, has_none, all_offsets}
use Rattle.sp_core.specs.Typed.{Given, given_type}
use Rattle.sp_time.specs.Lists.{Each}
use Rattle.sp_machine.specs.Stamps.{Stamped, Copies, copy_of, stamped, later, list_stamped}
use Rattle.sp_machine.specs.Transfers.{load_stamped, store_stamped, slice_stamped}
use Rattle.sp_contents.specs.Steady.{AtHand, act_hand, moment_hand, ActsAtHand, IsAtHand, AreSteady, hand_after}
use Rattle.sp_contents.proofs.Following.{changed_same, changed_other}

-- lists that are put together
pub steady_append : (hand : AtHand) (a b : List Stamped) → AreSteady hand a → AreSteady (hand_after hand a) b → AreSteady hand (a ++ b)
steady_append hand [] b h k = k
steady_append hand (x ∷ a) b h k = (h.0, steady_append (moment_hand hand x.copy x.moment) a b h.1 k)

pub after_append : (hand : AtHand) (a b : List Stamped) → hand_after hand (a ++ b) ≡ hand_after (hand_after hand a) b
after_append hand [] b = refl
after_append hand (x ∷ a) b = after_append (moment_hand hand x.copy x.moment) a b

pub steady_later : (hand : AtHand) (n : ℕ) (es : List Stamped) → AreSteady hand es → AreSteady hand (later n es)
steady_later hand n [] h = tt
steady_later hand n (x ∷ es) h = (h.0, steady_later (moment_hand hand x.copy x.moment) n es h.1)

pub after_later : (hand : AtHand) (n : ℕ) (es : List Stamped) → hand_after hand (later n es) ≡ hand_after hand es
after_later hand n [] = refl
after_later hand n (x ∷ es) = after_later (moment_hand hand x.copy x.moment) n es

-- a moment that makes no memory, and touches one of these in the copy that it has
module _ (U : ℕ → Type 0) (copies : Copies) where
  abbrev pub IsPlainAt : (copy : ℕ) → Moment → Type 0
  IsPlainAt copy (touches e) = U e.mem × (copy ≡ copies e.mem)
  IsPlainAt copy (slices s) = Unit {0}
  IsPlainAt copy (renews m) = ⊥
  IsPlainAt copy (keeps m w) = ⊥

  abbrev pub ArePlain : List Stamped → Type 0
  ArePlain es = Each (λ x. IsPlainAt x.copy x.moment) es

  -- moments of one cycle
  abbrev pub MomentsPlain : List Moment → Type 0
  MomentsPlain ms = Each (λ m. IsPlainAt (copy_of copies m) m) ms

  pub plain_append : (a b : List Stamped) → ArePlain a → ArePlain b → ArePlain (a ++ b)
  plain_append [] b h k = k
  plain_append (x ∷ a) b h k = (h.0, plain_append a b h.1 k)

  pub moments_append : (a b : List Moment) → MomentsPlain a → MomentsPlain b → MomentsPlain (a ++ b)
  moments_append [] b h k = k
  moments_append (x ∷ a) b h k = (h.0, moments_append a b h.1 k)

  pub plain_stamped : (cycle : ℕ) (ms : List Moment) → MomentsPlain ms → ArePlain (stamped copies cycle ms)
  plain_stamped cycle [] h = tt
  plain_stamped cycle (m ∷ ms) h = (h.0, plain_stamped cycle ms h.1)

  at_hand : (hand : AtHand) → ((m : ℕ) → U m → hand m ≡ Some (copies m)) → (copy : ℕ) (x : Moment) → IsPlainAt copy x → IsAtHand hand copy x × ((m : ℕ) → moment_hand hand copy x m ≡ hand m)
  at_hand hand ready copy (touches e) h = (acts e.act, kept e.act)
    where
      now : hand e.mem ≡ Some copy
      now = ready e.mem h.0 ∙ ap (λ c. Some c) (sym h.1)

      acts : (a : Act) → ActsAtHand hand copy e.mem a
      acts (reads w) = now
      acts (writes w) = now
      acts (puts w) = now
      acts (takes w) = now
      acts resets = tt
      acts turns = now

      kept : (a : Act) (m : ℕ) → act_hand hand copy e.mem a m ≡ hand m
      kept (reads w) m = refl
      kept (writes w) m = refl
      kept (puts w) m = refl
      kept (takes w) m = refl
      kept turns m = refl
      kept resets m = elim (cases_eq m e.mem) [
        | inl q ↦ ap (changed hand e.mem (Some copy)) q ∙ changed_same hand e.mem (Some copy) ∙ sym now ∙ ap hand (sym q)
        | inr q ↦ changed_other hand e.mem (Some copy) m q
      ]
  at_hand hand ready copy (slices s) h = (tt, λ m. refl)
  at_hand hand ready copy (renews m) h = absurd h
  at_hand hand ready copy (keeps m w) h = absurd h

  pub plain_steady : (hand : AtHand) → ((m : ℕ) → U m → hand m ≡ Some (copies m)) → (es : List Stamped) → ArePlain es → AreSteady hand es × ((m : ℕ) → hand_after hand es m ≡ hand m)
  plain_steady hand ready [] h = (tt, λ m. refl)
  plain_steady hand ready (x ∷ es) h =
      let a = at_hand hand ready x.copy x.moment h.0 in
      let r = plain_steady (moment_hand hand x.copy x.moment) (λ m u. a.1 m ∙ ready m u) es h.1 in
      ((a.0, r.0), λ m. r.1 m ∙ a.1 m)

-- lists of operations touch what may be used
module _ (core : PlainCore) (around : Around) (U : ℕ → Type 0) (copies : Copies) (may : (m : ℕ) → is_usable core around m ≡ true → U m) where
  entry_plain : (n : ℕ) (st : Standing) (op : PlainOp) (given : Given) (e : Entry) → is_operation_right core around given op ≡ true → MomentsPlain U copies (entry_moments n st op.kind op.mem e)
  entry_plain n st op given left_out h = tt
  entry_plain n st op given (gave w) h = tt
  entry_plain n st op given (touched is w) h = go op.mem (act_of op.kind w) (and_parts _ _ (and_parts _ _ h).0).1
    where
      go : (m : Option ℕ) (act : Option Act) → names_rightly core around op.kind op.ty m ≡ true → MomentsPlain U copies (event_of n st m is act)
      go None act q = tt
      go (Some m) None q = tt
      go (Some m) (Some act) q = ((may m (and_parts (is_access op.kind) (is_usable core around m) (and_parts _ _ q).0).1, refl), tt)

  list_plain : (n : ℕ) (st : Standing) (given : Given) (ops : List PlainOp) (es : List Entry) → are_operations_right_after core around given ops ≡ true → MomentsPlain U copies (list_moments n st ops es)
  list_plain n st given (op ∷ ops) (e ∷ es) h =
      let q = and_parts (is_operation_right core around given op) _ h in
      moments_append U copies (entry_moments n st op.kind op.mem e) (list_moments (suc n) st ops es) (entry_plain n st op given e q.0) (list_plain (suc n) st (given ++ given_type op.kind op.ty ∷ []) ops es q.1)
  list_plain n st given [] es h = tt
  list_plain n st given (op ∷ ops) [] h = tt

  pub stamped_plain : (f : ℕ → ℕ) (i n : ℕ) (st : Standing) (given : Given) (ops : List PlainOp) (es : List Entry) → are_operations_right_after core around given ops ≡ true → ArePlain U copies (list_stamped copies f i n st ops es)
  stamped_plain f i n st given (op ∷ ops) (e ∷ es) h =
      let q = and_parts (is_operation_right core around given op) _ h in
      plain_append U copies (stamped copies (f i) (entry_moments n st op.kind op.mem e)) (list_stamped copies f (suc i) (suc n) st ops es)
      (plain_stamped U copies (f i) (entry_moments n st op.kind op.mem e) (entry_plain n st op given e q.0)) (stamped_plain f (suc i) (suc n) st (given ++ given_type op.kind op.ty ∷ []) ops es q.1)
  stamped_plain f i n st given [] es h = tt
  stamped_plain f i n st given (op ∷ ops) [] h = tt

  bound_plain : (n : ℕ) (st : Standing) (ops : List PlainOp) (es : List Entry) → is_bound core around ops ≡ true → MomentsPlain U copies (list_moments n st ops es)
  bound_plain n st ops es h = list_plain n st [] ops es (and_parts _ _ (and_parts _ _ h).0).0

  pub bounds_plain : (n : ℕ) (st : Standing) (counters : List PlainCounter) (bs : List Bounds) → list_all (is_counter_right core around) counters ≡ true → MomentsPlain U copies (bounds_moments n st counters bs)
  bounds_plain n st (c ∷ counters) (b ∷ bs) h =
      let q = and_parts (is_counter_right core around c) (list_all (is_counter_right core around) counters) h in
      let two = and_parts (is_bound core around c.from) (is_bound core around c.until) (and_parts _ _ q.0).0 in
      moments_append U copies (list_moments n st c.from b.from ++ list_moments (n + length c.from) st c.until b.until) (bounds_moments (n + (length c.from + length c.until)) st counters bs)
      (moments_append U copies (list_moments n st c.from b.from) (list_moments (n + length c.from) st c.until b.until) (bound_plain n st c.from b.from two.0) (bound_plain (n + length c.from) st c.until b.until two.1))
      (bounds_plain (n + (length c.from + length c.until)) st counters bs q.1)
  bounds_plain n st [] bs h = tt
  bounds_plain n st (c ∷ counters) [] h = tt

  pub spans_plain : (n : ℕ) (st : Standing) (spans : List PlainSpan) (taken : List Taken) → list_all (is_span_right core around) spans ≡ true → MomentsPlain U copies (spans_moments n st spans taken)
  spans_plain n st (single ops ∷ spans) (one es ∷ taken) h =
      let q = and_parts (is_bound core around ops) (list_all (is_span_right core around) spans) h in
      moments_append U copies (list_moments n st ops es) (spans_moments (n + length ops) st spans taken) (bound_plain n st ops es q.0) (spans_plain (n + length ops) st spans taken q.1)
  spans_plain n st (range a b ∷ spans) (both es fs ∷ taken) h =
      let q = and_parts (is_bound core around a && is_bound core around b) (list_all (is_span_right core around) spans) h in
      let two = and_parts (is_bound core around a) (is_bound core around b) q.0 in
      moments_append U copies (list_moments n st a es ++ list_moments (n + length a) st b fs) (spans_moments (n + (length a + length b)) st spans taken)
      (moments_append U copies (list_moments n st a es) (list_moments (n + length a) st b fs) (bound_plain n st a es two.0) (bound_plain (n + length a) st b fs two.1))
      (spans_plain (n + (length a + length b)) st spans taken q.1)
  spans_plain n st [] taken h = tt
  spans_plain n st (single ops ∷ spans) [] h = tt
  spans_plain n st (single ops ∷ spans) (both es fs ∷ taken) h = tt
  spans_plain n st (range a b ∷ spans) [] h = tt
  spans_plain n st (range a b ∷ spans) (one es ∷ taken) h = tt

  -- transfers
  module _ (delay : ℕ → ℕ) (n : ℕ) (st : Standing) (r m : ℕ) (dram : U (dram_number core r)) (memory : U m) where
    loads_plain : (parts : List Part) (i : ℕ) (offsets : List (List ℕ)) (words : List ℕ) → ArePlain U copies (load_stamped delay core copies n st r m parts i offsets words)
    loads_plain parts i (o ∷ offsets) (w ∷ words) = ((dram, refl), ((memory, refl), loads_plain parts (suc i) offsets words))
    loads_plain parts i [] words = tt
    loads_plain parts i (o ∷ offsets) [] = tt

    stores_plain : (parts : List Part) (i : ℕ) (offsets : List (List ℕ)) (words : List ℕ) → ArePlain U copies (store_stamped delay core copies n st r m parts i offsets words)
    stores_plain parts i (o ∷ offsets) (w ∷ words) = ((memory, refl), ((dram, refl), stores_plain parts (suc i) offsets words))
    stores_plain parts i [] words = tt
    stores_plain parts i (o ∷ offsets) [] = tt

    rows_plain : (kind : Kind) → ArePlain U copies (stamped copies 1 (rows_turn core n st kind m))
    rows_plain kinds.LineBuf = ((memory, refl), tt)
    rows_plain kind = tt

    slice_plain : (parts : List Part) (es : List Stamped) → ArePlain U copies es → ArePlain U copies (slice_stamped delay core copies n st parts es)
    slice_plain parts es h = go (has_none (lengths parts))
      where
        asked : Moment
        asked = slices (record { number = n; standing = st; firsts = map first_of parts; lengths = lengths parts })

        go : (b : Bool) → ArePlain U copies (elim b as (λ _. List Stamped) [ true ↦ [] | false ↦ stamped copies 1 (asked ∷ []) ++ es ])
        go true = tt
        go false = (tt, h)

    pub load_plain : (parts : List Part) (words : List ℕ) → ArePlain U copies (slice_stamped delay core copies n st parts (stamped copies 1 (rows_turn core n st (kind_of core m) m) ++ load_stamped delay core copies n st r m parts 0 (all_offsets parts) words))
    load_plain parts words = slice_plain parts _ (plain_append U copies _ _ (rows_plain (kind_of core m)) (loads_plain parts 0 (all_offsets parts) words))

    pub store_plain : (parts : List Part) (words : List ℕ) → ArePlain U copies (slice_stamped delay core copies n st parts (store_stamped delay core copies n st r m parts 0 (all_offsets parts) words))
    store_plain parts words = slice_plain parts _ (stores_plain parts 0 (all_offsets parts) words)

-- memories that are made fresh in an inner body
module _ (core : PlainCore) (copies : Copies) (cycle : ℕ) where
  abbrev pub renewals : List ℕ → List Stamped
  renewals owned = stamped copies cycle (flat_map (renewal_in_body core) owned)

  pub renewals_steady : (owned : List ℕ) (hand : AtHand) → AreSteady hand (renewals owned)
  renewals_steady [] hand = tt
  renewals_steady (m ∷ owned) hand = go (has_reset (mem core m).kind (mem core m).start) (renewals_steady owned)
    where
      go : (b : Bool) → ((hand : AtHand) → AreSteady hand (renewals owned)) → AreSteady hand (stamped copies cycle (elim b as (λ _. List Moment) [ true ↦ [] | false ↦ renews m ∷ [] ] ++ flat_map (renewal_in_body core) owned))
      go true h = h hand
      go false h = (tt, h (changed hand m (Some (copies m))))

  -- a memory that isn't owned is as before, one that was at hand still is, and one that is owned and has no reset is now
  pub renewals_same : (owned : List ℕ) (hand : AtHand) (x : ℕ) → is_among x owned ≡ false → hand_after hand (renewals owned) x ≡ hand x
  renewals_same [] hand x e = refl
  renewals_same (m ∷ owned) hand x e = go (has_reset (mem core m).kind (mem core m).start) (λ h. renewals_same owned h x (or_parts (x == m) (is_among x owned) e).1)
    where
      apart : x ≡ m → ⊥
      apart q = true≢false (sym (eq-eqb x m q) ∙ (or_parts (x == m) (is_among x owned) e).0)

      go : (b : Bool) → ((h : AtHand) → hand_after h (renewals owned) x ≡ h x) → hand_after hand (stamped copies cycle (elim b as (λ _. List Moment) [ true ↦ [] | false ↦ renews m ∷ [] ] ++ flat_map (renewal_in_body core) owned)) x ≡ hand x
      go true h = h hand
      go false h = h (changed hand m (Some (copies m))) ∙ changed_other hand m (Some (copies m)) x apart

  pub renewals_still : (owned : List ℕ) (hand : AtHand) (x : ℕ) → hand x ≡ Some (copies x) → hand_after hand (renewals owned) x ≡ Some (copies x)
  renewals_still [] hand x e = e
  renewals_still (m ∷ owned) hand x e = go (has_reset (mem core m).kind (mem core m).start) (λ h q. renewals_still owned h x q)
    where
      still : changed hand m (Some (copies m)) x ≡ Some (copies x)
      still = elim (cases_eq x m) [
        | inl q ↦ ap (changed hand m (Some (copies m))) q ∙ changed_same hand m (Some (copies m)) ∙ ap (λ y. Some (copies y)) (sym q)
        | inr q ↦ changed_other hand m (Some (copies m)) x q ∙ e
      ]

      go : (b : Bool) → ((h : AtHand) → h x ≡ Some (copies x) → hand_after h (renewals owned) x ≡ Some (copies x)) → hand_after hand (stamped copies cycle (elim b as (λ _. List Moment) [ true ↦ [] | false ↦ renews m ∷ [] ] ++ flat_map (renewal_in_body core) owned)) x ≡ Some (copies x)
      go true h = h hand e
      go false h = h (changed hand m (Some (copies m))) still

  pub renewals_now : (owned : List ℕ) (hand : AtHand) (x : ℕ) → is_among x owned ≡ true → has_reset (mem core x).kind (mem core x).start ≡ false → hand_after hand (renewals owned) x ≡ Some (copies x)
  renewals_now [] hand x e f = absurd (false≢true e)
  renewals_now (m ∷ owned) hand x e f = go (has_reset (mem core m).kind (mem core m).start) refl (λ h q. renewals_now owned h x q f) (λ h q. renewals_still owned h x q)
    where
      go : (b : Bool) → has_reset (mem core m).kind (mem core m).start ≡ b → ((h : AtHand) → is_among x owned ≡ true → hand_after h (renewals owned) x ≡ Some (copies x)) → ((h : AtHand) → h x ≡ Some (copies x) → hand_after h (renewals owned) x ≡ Some (copies x))
          → hand_after hand (stamped copies cycle (elim b as (λ _. List Moment) [ true ↦ [] | false ↦ renews m ∷ [] ] ++ flat_map (renewal_in_body core) owned)) x ≡ Some (copies x)
      go true r later still = later hand (other (x == m) refl e)
        where
          other : (b : Bool) → (x == m) ≡ b → (b || is_among x owned) ≡ true → is_among x owned ≡ true
          other true q z = absurd (true≢false (sym r ∙ ap (λ y. has_reset (mem core y).kind (mem core y).start) (sym (eqb-true x m q)) ∙ f))
          other false q z = z
      go false r later still = elim (cases_eq x m) [
        | inl q ↦ still (changed hand m (Some (copies m))) (ap (changed hand m (Some (copies m))) q ∙ changed_same hand m (Some (copies m)) ∙ ap (λ y. Some (copies y)) (sym q))
        | inr q ↦ later (changed hand m (Some (copies m))) (other2 (x == m) refl e q)
      ]
        where
          other2 : (b : Bool) → (x == m) ≡ b → (b || is_among x owned) ≡ true → (x ≡ m → ⊥) → is_among x owned ≡ true
          other2 true q z n = absurd (n (eqb-true x m q))
          other2 false q z n = z
