-- Each read of a memory with banks has a reader.
use Rattle.std.proofs.Common.{◌≡◌, ℕ, suc, ◌+◌, ◌<◌, ◌≤◌, inl, inr, Bool, true, false, List, [], ◌∷◌, ◌++◌, map, length, Option, Some, None, arith, refl, sym, ap, ◌∙◌}
use Rattle.std.proofs.lemmas.Bool.{and_from, eq-eqb, or_left, or_right, true≢false, false≢true}
use Rattle.std.specs.Prelude.{◌==◌, ◌&&◌, is_some}
use Rattle.sp_core.specs.declared.operation.OpKind.{OpKind}
use Rattle.sp_core.specs.declared.operation.OpKind.TheVariants as kind
use Rattle.sp_core.specs.Declarations.{mem, kind_of, dram_number}
use Rattle.sp_core.specs.Events.{Act, Standing, Moment, touches, slices, renews, keeps, reads, act_of, event_of, entry_moments, first_of, rows_turn}
use Rattle.sp_core.specs.History.{Entry, left_out, gave, touched}
use Rattle.sp_core.specs.Meeting.{changes}
use Rattle.sp_core.specs.PlainCore.{PlainOp, PlainNode, PlainStages, PlainCore}
use Rattle.sp_core.specs.Transfers.{Part, lengths, has_none, all_offsets}
use Rattle.sp_plan.specs.Copies as copies_of
use Rattle.sp_plan.specs.Copies.{is_read}
use Rattle.sp_plan.specs.PlainPlan.{PlainPlan}
use Rattle.sp_plan.specs.Ports.{has_banks, is_one_mem}
use Rattle.sp_time.specs.Beats.{Run}
use Rattle.sp_time.specs.Lists.{Each}
use Rattle.sp_words.specs.declared.kind.Kind.{Kind}
use Rattle.sp_words.specs.declared.kind.Kind.TheVariants.{LineBuf}
use Rattle.sp_machine.specs.Stamps.{Stamped, Copies, stamped, later, list_stamped, ◌▸◌, list_run, kept_run, in_a_row}
use Rattle.sp_machine.specs.Transfers.{load_stamped, store_stamped, slice_stamped, load_run, store_run}
use Rattle.sp_machine.proofs.InnerOrder.{act_changes}
use Rattle.sp_ports.proofs.Inners.{HasNoPort}
use Rattle.sp_core_ports.specs.UsedReaders.{Reader, reader_if, readers_in, readers_in_stages, readers_of}
use Rattle.sp_core_ports.proofs.UsedMoving.{no_dram_banks}
use Rattle.sp_core_ports.specs.CoreServed.{IsOneOf, HasReader, IsServed}

pub one_left : (r : Reader) (xs ys : List Reader) → IsOneOf r xs → IsOneOf r (xs ++ ys)
one_left r [] ys h = absurd h
one_left r (x ∷ xs) ys (inl e) = inl e
one_left r (x ∷ xs) ys (inr h) = inr (one_left r xs ys h)

pub one_right : (r : Reader) (xs ys : List Reader) → IsOneOf r ys → IsOneOf r (xs ++ ys)
one_right r [] ys h = h
one_right r (x ∷ xs) ys h = inr (one_right r xs ys h)

reader_one : (b : Bool) (n k : ℕ) → b ≡ true → IsOneOf (record { from = n; until = n + k }) (reader_if b n k)
reader_one true n k e = inl refl
reader_one false n k e = absurd (false≢true e)

-- an access that changes nothing is a read
read_kind : (core : PlainCore) (kd : OpKind) (w : ℕ) (a : Act) → act_of kd w ≡ Some a → changes a ≡ false → is_read core kd ≡ true
read_kind core kind.Read w a e c = refl
read_kind core kind.Write w a e c = absurd (true≢false (sym (act_changes kind.Write w a e) ∙ c))
read_kind core kind.Enq w a e c = absurd (true≢false (sym (act_changes kind.Enq w a e) ∙ c))
read_kind core kind.Deq w a e c = absurd (true≢false (sym (act_changes kind.Deq w a e) ∙ c))
read_kind core kind.Reset w a e c = absurd (true≢false (sym (act_changes kind.Reset w a e) ∙ c))
read_kind core kd w a e c = absurd (false≢true (ap is_some e))

module _ (core : PlainCore) where
  abbrev pub AllServed : (until : ℕ) → List Stamped → Type 0
  AllServed u es = Each (λ (e : Stamped). IsServed core u e.moment) es

  -- readers of a part are readers of the core
  abbrev pub Serves : (number : ℕ) → PlainNode → Type 0
  Serves n node = (m : ℕ) (r : Reader) → IsOneOf r (readers_in core m n node) → IsOneOf r (readers_of core m)

  abbrev pub ListServes : (number : ℕ) → List PlainOp → Type 0
  ListServes n ops = (m : ℕ) (r : Reader) → IsOneOf r (reader_if (copies_of.reads core m ops) n (length ops)) → IsOneOf r (readers_of core m)

  abbrev pub AllServe : (number : ℕ) → PlainStages → Type 0
  AllServe n stages = (m : ℕ) (r : Reader) → IsOneOf r (readers_in_stages core m n stages) → IsOneOf r (readers_of core m)

  pub served_append : (u : ℕ) (xs ys : List Stamped) → AllServed u xs → AllServed u ys → AllServed u (xs ++ ys)
  served_append u [] ys h k = k
  served_append u (x ∷ xs) ys h k = (h.0, served_append u xs ys h.1 k)

  pub served_later : (u by : ℕ) (xs : List Stamped) → AllServed u xs → AllServed u (later by xs)
  served_later u by [] h = tt
  served_later u by (x ∷ xs) h = (h.0, served_later u by xs h.1)

  moment_more : (u v : ℕ) → u ≤ v → (m : Moment) → IsServed core u m → IsServed core v m
  moment_more u v l (touches e) h = λ b c. let r : HasReader core u e = h b c in record { reader = r.reader; is_one = r.is_one; begun = r.begun; not_over = r.not_over; is_over = (let x : r.reader.until ≤ u = r.is_over in omega arith) }
  moment_more u v l (slices z) h = tt
  moment_more u v l (renews m) h = tt
  moment_more u v l (keeps m w) h = tt

  pub served_more : (u v : ℕ) → u ≤ v → (xs : List Stamped) → AllServed u xs → AllServed v xs
  served_more u v l [] h = tt
  served_more u v l (x ∷ xs) h = (moment_more u v l x.moment h.0, served_more u v l xs h.1)

  -- what uses no port is no such read
  port_served : (u : ℕ) (m : Moment) → HasNoPort core m → IsServed core u m
  port_served u (touches e) h = λ b c. absurd (true≢false (sym b ∙ h))
  port_served u (slices z) h = tt
  port_served u (renews m) h = tt
  port_served u (keeps m w) h = tt

  pub ports_served : (u : ℕ) (copies : Copies) (cycle : ℕ) (ms : List Moment) → Each (HasNoPort core) ms → AllServed u (stamped copies cycle ms)
  ports_served u copies cycle [] h = tt
  ports_served u copies cycle (m ∷ ms) h = (port_served u m h.0, ports_served u copies cycle ms h.1)

  -- the operations of a list, from one number up to another
  module _ (a b u : ℕ) (over : b ≤ u) (copies : Copies) (cycle_of : ℕ → ℕ) (st : Standing) where
    abbrev AreReaders : List PlainOp → Type 0
    AreReaders ops = (m : ℕ) → copies_of.reads core m ops ≡ true → IsOneOf (record { from = a; until = b }) (readers_of core m)

    entry_served : (cycle x : ℕ) (op : PlainOp) (e : Entry) → a ≤ x → x < b → ((m : ℕ) → (is_read core op.kind && is_one_mem op.mem (Some m)) ≡ true → IsOneOf (record { from = a; until = b }) (readers_of core m)) → AllServed u (stamped copies cycle (entry_moments x st op.kind op.mem e))
    entry_served cycle x op left_out l q h = tt
    entry_served cycle x op (gave w) l q h = tt
    entry_served cycle x op (touched is w) l q h = go op.mem h (act_of op.kind w) refl
      where
        go : (m : Option ℕ) → ((r : ℕ) → (is_read core op.kind && is_one_mem m (Some r)) ≡ true → IsOneOf (record { from = a; until = b }) (readers_of core r)) → (act : Option Act) → act_of op.kind w ≡ act → AllServed u (stamped copies cycle (event_of x st m is act))
        go None h act e = tt
        go (Some m) h None e = tt
        go (Some m) h (Some act) e = (
          (λ banked c. record {
            reader = record { from = a; until = b };
            is_one = h m (and_from (is_read core op.kind) (m == m) (read_kind core op.kind w act e c) (eq-eqb m m refl));
            begun = l;
            not_over = q;
            is_over = over;
          }),
          tt,
        )

    list_served : (i x : ℕ) (ops : List PlainOp) (es : List Entry) → a ≤ x → x + length ops ≤ b → AreReaders ops → AllServed u (list_stamped copies cycle_of i x st ops es)
    list_served i x [] es l q h = tt
    list_served i x (op ∷ ops) [] l q h = tt
    list_served i x (op ∷ ops) (e ∷ es) l q h =
        served_append u (stamped copies (cycle_of i) (entry_moments x st op.kind op.mem e)) (list_stamped copies cycle_of (suc i) (suc x) st ops es)
        (entry_served (cycle_of i) x op e l (omega arith) (λ m r. h m (or_left _ _ r)))
        (list_served (suc i) (suc x) ops es (omega arith) (omega arith) (λ m r. h m (or_right _ _ r)))

  -- a whole list
  pub whole_served : (x u : ℕ) (copies : Copies) (cycle_of : ℕ → ℕ) (st : Standing) (ops : List PlainOp) (es : List Entry) → x + length ops ≤ u
      → ListServes x ops → AllServed u (list_stamped copies cycle_of 0 x st ops es)
  whole_served x u copies cycle_of st ops es l h =
      list_served x (x + length ops) u l copies cycle_of st 0 x ops es (omega arith) (omega arith) (λ m e. h m (record { from = x; until = x + length ops }) (reader_one (copies_of.reads core m ops) x (length ops) e))

  pub row_served : (x u : ℕ) (copies : Copies) (st : Standing) (ops : List PlainOp) (es : List Entry) → x + length ops ≤ u
      → ListServes x ops → AllServed u (list_run core copies x st ops es).events
  row_served x u copies st ops es l h = whole_served x u copies (in_a_row core ops) st ops es l h

  pub kept_served : (x u : ℕ) (copies : Copies) (st : Standing) (ops : List PlainOp) (es : List Entry) (state word : ℕ) → x + length ops ≤ u
      → ListServes x ops → AllServed u (kept_run core copies x st ops es state word).events
  kept_served x u copies st ops es state word l h = served_append u (list_run core copies x st ops es).events _ (row_served x u copies st ops es l h) (tt, tt)

  pub then_served : (u : ℕ) (a b : Run Stamped) → AllServed u a.events → AllServed u b.events → AllServed u (a ▸ b).events
  then_served u a b h k = served_append u a.events (later a.took b.events) h (served_later u a.took b.events k)

  -- transfers
  module _ (u : ℕ) (plan : PlainPlan) (delay : ℕ → ℕ) (copies : Copies) (n : ℕ) (st : Standing) (r m : ℕ) (parts : List Part) where
    dram_served : (act : Act) → has_banks (mem core (dram_number core r)).kind ≡ true → changes act ≡ false → (A : Type 0) → A
    dram_served act b c A = absurd (true≢false (sym b ∙ no_dram_banks core plan r))

    loads_served : (j : ℕ) (offsets : List (List ℕ)) (words : List ℕ) → AllServed u (load_stamped delay core copies n st r m parts j offsets words)
    loads_served j (o ∷ offsets) (w ∷ words) = ((λ b c. dram_served (reads w) b c _), ((λ b c. absurd (true≢false c)), loads_served (suc j) offsets words))
    loads_served j [] words = tt
    loads_served j (o ∷ offsets) [] = tt

    stores_served : n + 1 ≤ u → IsOneOf (record { from = n; until = n + 1 }) (readers_of core m) → (j : ℕ) (offsets : List (List ℕ)) (words : List ℕ) → AllServed u (store_stamped delay core copies n st r m parts j offsets words)
    stores_served l one j (o ∷ offsets) (w ∷ words) = (
      (λ b c. record { reader = record { from = n; until = n + 1 }; is_one = one; begun = (let q : n ≤ n = omega arith in q); not_over = (let q : n < n + 1 = omega arith in q); is_over = l }),
      ((λ b c. absurd (true≢false c)), stores_served l one (suc j) offsets words),
    )
    stores_served l one j [] words = tt
    stores_served l one j (o ∷ offsets) [] = tt

    slice_served : (es : List Stamped) → AllServed u es → AllServed u (slice_stamped delay core copies n st parts es)
    slice_served es h = go (has_none (lengths parts))
      where
        asked : Moment
        asked = slices (record { number = n; standing = st; firsts = map first_of parts; lengths = lengths parts })

        go : (b : Bool) → AllServed u (elim b as (λ _. List Stamped) [ true ↦ [] | false ↦ stamped copies 1 (asked ∷ []) ++ es ])
        go true = tt
        go false = (tt, h)

    pub load_served : (words : List ℕ) → AllServed u (load_run delay core copies n st r m parts words)
    load_served words = slice_served _ (turned (kind_of core m))
      where
        turned : (kd : Kind) → AllServed u (stamped copies 1 (rows_turn core n st kd m) ++ load_stamped delay core copies n st r m parts 0 (all_offsets parts) words)
        turned LineBuf = ((λ b c. absurd (true≢false c)), loads_served 0 (all_offsets parts) words)
        turned kd = loads_served 0 (all_offsets parts) words

    pub store_served : n + 1 ≤ u → IsOneOf (record { from = n; until = n + 1 }) (readers_of core m) → (words : List ℕ) → AllServed u (store_run delay core copies n st r m parts words)
    store_served l one words = slice_served _ (stores_served l one 0 (all_offsets parts) words)
