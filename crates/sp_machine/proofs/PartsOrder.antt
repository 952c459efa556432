-- What happens in the parts of a run comes in order: lists one operation after another, parts one after another, transfers.
use Rattle.std.proofs.Common.{◌≡◌, ℕ, suc, ◌+◌, ◌<◌, ◌≤◌, Bool, true, false, List, [], ◌∷◌, ◌++◌, map, take, length, arith, refl, sym, subst, ap, ◌∙◌}
use Rattle.std.proofs.lemmas.Bool.{and_parts, eqb-true, true≢false, false≢true}
use Rattle.std.specs.Prelude.{◌/◌, ◌==◌, Option, Some, None}
use Rattle.sp_words.specs.declared.kind.Kind.TheVariants.{LineBuf}
use Rattle.sp_core.specs.Declarations.{kind_of, dram_number}
use Rattle.sp_core.specs.Events.{Act, Standing, Moment, slices, keeps, reads, writes, turns, act_of, event_of, entry_moments, dram_event, mem_event, rows_turn, first_of}
use Rattle.sp_core.specs.History.{Entry, left_out, gave, touched}
use Rattle.sp_core.specs.Latency.{read_of, latency, latency_of_all}
use Rattle.sp_core.specs.Meeting.{changes}
use Rattle.sp_core.specs.PlainCore.{PlainOp, PlainCore}
use Rattle.sp_core.specs.Transfers.{Part, lengths, has_none, places_of, all_offsets, loaded_at}
use Rattle.sp_plan.specs.Ports.{is_change}
use Rattle.sp_time.specs.Beats.{Run}
use Rattle.sp_time.specs.Lists.{Each, Pairs, total}
use Rattle.sp_time.proofs.ListLemmas.{total_mono}
use Rattle.sp_machine.specs.InOrder.{does_change, share_place, AreInOrder, EachTwo}
use Rattle.sp_machine.specs.Sound.{AreLooks}
use Rattle.sp_machine.specs.Stamps.{Stamped, Copies, stamp, stamped, later, list_stamped, in_a_row, ◌▸◌, inside_of, list_run, kept_run}
use Rattle.sp_machine.specs.Transfers.{word_cycle, look_cycle, load_stamped, store_stamped, slice_stamped, load_run, store_run}
use Rattle.sp_machine.proofs.InnerOrder.{act_changes, change_takes}
use Rattle.sp_machine.proofs.OuterOrder.{each_append, pairs_append, order_later}
use Rattle.sp_machine.proofs.Within.{Before}

module _ (core : PlainCore) where
  abbrev pub Order : Stamped → Stamped → Type 0
  Order s t = AreInOrder core s t

  -- what comes in a later cycle is in order
  later_in_order : (s t : Stamped) → s.cycle < t.cycle → Order s t
  later_in_order s t l = record { for_change = λ c x. l; for_look = λ c x. omega arith }

  -- so is a look before what comes no earlier
  look_in_order : (s t : Stamped) → does_change s.moment ≡ false → s.cycle ≤ t.cycle → Order s t
  look_in_order s t n l = record { for_change = λ c x. absurd (true≢false (sym x ∙ n)); for_look = λ c x. l }

  -- each of a list is before a cycle, and each of another one no earlier
  abbrev pub From : ℕ → List Stamped → Type 0
  From n es = Each (λ e. n ≤ e.cycle) es

  before_from : (n : ℕ) (xs ys : List Stamped) → Before n xs → From n ys → EachTwo Order xs ys
  before_from n [] ys b f = tt
  before_from n (x ∷ xs) ys b f = (each ys f, before_from n xs ys b.1 f)
    where
      each : (ys : List Stamped) → From n ys → Each (Order x) ys
      each [] f = tt
      each (y ∷ ys) f = (later_in_order x y (let a : x.cycle < n = b.0 in let c : n ≤ y.cycle = f.0 in omega arith), each ys f.1)

  from_later : (n : ℕ) (es : List Stamped) → From n (later n es)
  from_later n [] = tt
  from_later n (e ∷ es) = (omega arith, from_later n es)

  -- parts one after another, and inside of a controller
  pub then_in_order : (a b : Run Stamped) → Before a.took a.events → Pairs Order a.events → Pairs Order b.events → Pairs Order (a ▸ b).events
  then_in_order a b w p q = pairs_append Order a.events (later a.took b.events) p (order_later core a.took b.events q) (before_from a.took a.events (later a.took b.events) w (from_later a.took b.events))

  pub inside_in_order : (r : Run Stamped) → Pairs Order r.events → Pairs Order (inside_of r).events
  inside_in_order r p = order_later core 1 r.events p

  -- looks of one cycle
  pub looks_in_order : (copies : Copies) (cycle : ℕ) (ms : List Moment) → AreLooks ms → Pairs Order (stamped copies cycle ms)
  looks_in_order copies cycle [] h = tt
  looks_in_order copies cycle (m ∷ ms) h = (each ms, looks_in_order copies cycle ms h.1)
    where
      each : (ns : List Moment) → Each (Order (stamp copies cycle m)) (stamped copies cycle ns)
      each [] = tt
      each (n ∷ ns) = (look_in_order (stamp copies cycle m) (stamp copies cycle n) h.0 (omega arith), each ns)

  pub looks_first : (copies : Copies) (ms : List Moment) → AreLooks ms → (ys : List Stamped) → EachTwo Order (stamped copies 0 ms) ys
  looks_first copies [] h ys = tt
  looks_first copies (m ∷ ms) h ys = (each ys, looks_first copies ms h.1 ys)
    where
      each : (ys : List Stamped) → Each (Order (stamp copies 0 m)) ys
      each [] = tt
      each (y ∷ ys) = (look_in_order (stamp copies 0 m) y h.0 (omega arith), each ys)

  -- an operation of a list: its moment, if it has one, is no earlier than its cycle, and what changes is over before the next
  abbrev Once : (from until : ℕ) → List Stamped → Type 0
  Once a b es = Each (λ e. (a ≤ e.cycle) × (e.cycle ≤ b) × (does_change e.moment ≡ true → e.cycle < b)) es

  once_later : (n : ℕ) (xs ys : List Stamped) → Each (λ e. (e.cycle ≤ n) × (does_change e.moment ≡ true → e.cycle < n)) xs → From n ys → EachTwo Order xs ys
  once_later n [] ys h f = tt
  once_later n (x ∷ xs) ys h f = (each ys f, once_later n xs ys h.1 f)
    where
      each : (ys : List Stamped) → From n ys → Each (Order x) ys
      each [] f = tt
      each (y ∷ ys) f = (
        record {
          for_change = λ c e. let a : x.cycle < n = h.0.1 e in let b : n ≤ y.cycle = f.0 in omega arith;
          for_look = λ c e. let a : x.cycle ≤ n = h.0.0 in let b : n ≤ y.cycle = f.0 in omega arith;
        },
        each ys f.1,
      )

  entry_alone : (copies : Copies) (cycle n : ℕ) (st : Standing) (op : PlainOp) (e : Entry)
      → Pairs Order (stamped copies cycle (entry_moments n st op.kind op.mem e))
      × Each (λ s. (s.cycle ≤ cycle + latency core op) × (does_change s.moment ≡ true → s.cycle < cycle + latency core op)) (stamped copies cycle (entry_moments n st op.kind op.mem e))
      × From cycle (stamped copies cycle (entry_moments n st op.kind op.mem e))
  entry_alone copies cycle n st op left_out = (tt, tt, tt)
  entry_alone copies cycle n st op (gave w) = (tt, tt, tt)
  entry_alone copies cycle n st op (touched is w) = go op.mem (act_of op.kind w) (λ a q. act_changes op.kind w a q)
    where
      go : (m : Option ℕ) (act : Option Act) → ((a : Act) → act ≡ Some a → changes a ≡ is_change op.kind)
          → Pairs Order (stamped copies cycle (event_of n st m is act))
          × Each (λ s. (s.cycle ≤ cycle + latency core op) × (does_change s.moment ≡ true → s.cycle < cycle + latency core op)) (stamped copies cycle (event_of n st m is act))
          × From cycle (stamped copies cycle (event_of n st m is act))
      go None act q = (tt, tt, tt)
      go (Some m) None q = (tt, tt, tt)
      go (Some m) (Some a) q = ((tt, tt), ((omega arith, (λ x. let l : 1 ≤ latency core op = change_takes op.kind (read_of core op.mem) (sym (q a refl) ∙ x) in omega arith)), tt), (omega arith, tt))

  -- lists, one operation after another
  abbrev IsRest : (all : List PlainOp) → (i : ℕ) → List PlainOp → Type 0
  IsRest all i ops = (j : ℕ) → in_a_row core all (i + j) ≡ in_a_row core all i + latency_of_all core (take j ops)

  row_step : (all : List PlainOp) (i : ℕ) (op : PlainOp) (ops : List PlainOp) → IsRest all i (op ∷ ops) → in_a_row core all (suc i) ≡ in_a_row core all i + latency core op
  row_step all i op ops h = ap (in_a_row core all) (let q : suc i ≡ i + 1 = omega arith in q) ∙ h 1 ∙ omega arith

  row_next : (all : List PlainOp) (i : ℕ) (op : PlainOp) (ops : List PlainOp) → IsRest all i (op ∷ ops) → IsRest all (suc i) ops
  row_next all i op ops h j =
      ap (in_a_row core all) (let q : suc i + j ≡ i + suc j = omega arith in q) ∙ h (suc j) ∙ (let s : in_a_row core all (suc i) ≡ in_a_row core all i + latency core op = row_step all i op ops h in omega arith)

  more : (a b : ℕ) → a ≤ b → (xs : List Stamped) → From b xs → From a xs
  more a b l [] h = tt
  more a b l (x ∷ xs) h = (let c : b ≤ x.cycle = h.0 in omega arith, more a b l xs h.1)

  list_from : (copies : Copies) (all : List PlainOp) (i n : ℕ) (st : Standing) (ops : List PlainOp) (es : List Entry) → IsRest all i ops → From (in_a_row core all i) (list_stamped copies (in_a_row core all) i n st ops es)
  list_from copies all i n st [] es h = tt
  list_from copies all i n st (op ∷ ops) [] h = tt
  list_from copies all i n st (op ∷ ops) (e ∷ es) h =
      let step : in_a_row core all (suc i) ≡ in_a_row core all i + latency core op = row_step all i op ops h in
      each_append (λ x. in_a_row core all i ≤ x.cycle) _ _ (entry_alone copies (in_a_row core all i) n st op e).2
      (more (in_a_row core all i) (in_a_row core all (suc i)) (omega arith) _ (list_from copies all (suc i) (suc n) st ops es (row_next all i op ops h)))

  list_in_order : (copies : Copies) (all : List PlainOp) (i n : ℕ) (st : Standing) (ops : List PlainOp) (es : List Entry) → IsRest all i ops → Pairs Order (list_stamped copies (in_a_row core all) i n st ops es)
  list_in_order copies all i n st [] es h = tt
  list_in_order copies all i n st (op ∷ ops) [] h = tt
  list_in_order copies all i n st (op ∷ ops) (e ∷ es) h =
      let step : in_a_row core all (suc i) ≡ in_a_row core all i + latency core op = row_step all i op ops h in
      let here = entry_alone copies (in_a_row core all i) n st op e in
      pairs_append Order (stamped copies (in_a_row core all i) (entry_moments n st op.kind op.mem e)) (list_stamped copies (in_a_row core all) (suc i) (suc n) st ops es) here.0
      (list_in_order copies all (suc i) (suc n) st ops es (row_next all i op ops h))
      (once_later (in_a_row core all i + latency core op) _ _ here.1 (subst (λ m. From m (list_stamped copies (in_a_row core all) (suc i) (suc n) st ops es)) step (list_from copies all (suc i) (suc n) st ops es (row_next all i op ops h))))

  whole_row : (ops : List PlainOp) → IsRest ops 0 ops
  whole_row ops j = ap (in_a_row core ops) (let q : 0 + j ≡ j = omega arith in q) ∙ omega arith

  pub row_in_order : (copies : Copies) (n : ℕ) (st : Standing) (ops : List PlainOp) (es : List Entry) → Pairs Order (list_run core copies n st ops es).events
  row_in_order copies n st ops es = list_in_order copies ops 0 n st ops es (whole_row ops)

  -- what is done in a list is over at its end
  list_over : (copies : Copies) (all : List PlainOp) (i n : ℕ) (st : Standing) (ops : List PlainOp) (es : List Entry) → IsRest all i ops
      → Each (λ e. (e.cycle ≤ in_a_row core all i + latency_of_all core ops) × (does_change e.moment ≡ true → e.cycle < in_a_row core all i + latency_of_all core ops)) (list_stamped copies (in_a_row core all) i n st ops es)
  list_over copies all i n st [] es h = tt
  list_over copies all i n st (op ∷ ops) [] h = tt
  list_over copies all i n st (op ∷ ops) (e ∷ es) h =
      let step : in_a_row core all (suc i) ≡ in_a_row core all i + latency core op = row_step all i op ops h in
      each_append _ (stamped copies (in_a_row core all i) (entry_moments n st op.kind op.mem e)) _
      (wider (in_a_row core all i + latency core op) (in_a_row core all i + (latency core op + latency_of_all core ops)) (omega arith) _ (entry_alone copies (in_a_row core all i) n st op e).1)
      (wider (in_a_row core all (suc i) + latency_of_all core ops) (in_a_row core all i + (latency core op + latency_of_all core ops)) (omega arith) _ (list_over copies all (suc i) (suc n) st ops es (row_next all i op ops h)))
    where
      wider : (a b : ℕ) → a ≤ b → (xs : List Stamped) → Each (λ e. (e.cycle ≤ a) × (does_change e.moment ≡ true → e.cycle < a)) xs → Each (λ e. (e.cycle ≤ b) × (does_change e.moment ≡ true → e.cycle < b)) xs
      wider a b l [] h = tt
      wider a b l (x ∷ xs) h = ((let c : x.cycle ≤ a = h.0.0 in omega arith, (λ y. let c : x.cycle < a = h.0.1 y in omega arith)), wider a b l xs h.1)

  pub kept_in_order : (copies : Copies) (n : ℕ) (st : Standing) (ops : List PlainOp) (es : List Entry) (state word : ℕ) → Pairs Order (kept_run core copies n st ops es state word).events
  kept_in_order copies n st ops es state word =
      pairs_append Order (list_run core copies n st ops es).events (stamped copies (1 + latency_of_all core ops) (keeps state word ∷ [])) (row_in_order copies n st ops es) (tt, tt)
      (once_later (in_a_row core ops 0 + latency_of_all core ops) (list_run core copies n st ops es).events (stamped copies (1 + latency_of_all core ops) (keeps state word ∷ [])) (list_over copies ops 0 n st ops es (whole_row ops)) (omega arith, tt))

  -- transfers: the memory isn't the DRAM, and words move one after another
  module _ (delay : ℕ → ℕ) (copies : Copies) (n : ℕ) (st : Standing) (r m : ℕ) (chip : m < length core.mems) (parts : List Part) where
    abbrev dram_at : (cycle : ℕ) → List ℕ → Act → Stamped
    dram_at cycle o act = stamp copies cycle (dram_event core n st r o act)

    abbrev mem_at : (cycle : ℕ) → List ℕ → Act → Stamped
    mem_at cycle o act = stamp copies cycle (mem_event core n st m o act)

    apart : (c d : ℕ) (o q : List ℕ) (a b : Act) → Order (mem_at c o a) (dram_at d q b)
    apart c d o q a b = record { for_change = λ x y. absurd (differ x.place); for_look = λ x y. absurd (differ x.place) }
      where
        differ : share_place core (mem_event core n st m o a) (dram_event core n st r q b) ≡ true → ⊥
        differ e = let z : m ≡ dram_number core r = eqb-true _ _ (and_parts (m == dram_number core r) _ e).0 in absurd (omega (arith, z, chip))

    rises : (j k : ℕ) → j < k → word_cycle delay j < word_cycle delay k
    rises j k l = let a : total delay (j / 16 + 1) ≤ total delay (k / 16 + 1) = total_mono delay _ _ (omega arith) in omega arith

    apart_back : (c d : ℕ) (o q : List ℕ) (a b : Act) → Order (dram_at c o a) (mem_at d q b)
    apart_back c d o q a b = record { for_change = λ x y. absurd (differ x.place); for_look = λ x y. absurd (differ x.place) }
      where
        differ : share_place core (dram_event core n st r o a) (mem_event core n st m q b) ≡ true → ⊥
        differ e = let z : dram_number core r ≡ m = eqb-true _ _ (and_parts (dram_number core r == m) _ e).0 in absurd (omega (arith, z, chip))

    looks_alone : (s t : Stamped) → does_change s.moment ≡ false → does_change t.moment ≡ false → Order s t
    looks_alone s t a b = record { for_change = λ c x. absurd (true≢false (sym x ∙ a)); for_look = λ c x. absurd (true≢false (sym x ∙ b)) }

    -- a load
    loads_from : (j k : ℕ) → j ≤ k → (offsets : List (List ℕ)) (words : List ℕ) → From (word_cycle delay j) (load_stamped delay core copies n st r m parts k offsets words)
    loads_from j k l (o ∷ offsets) (w ∷ words) =
        let a : total delay (j / 16 + 1) ≤ total delay (k / 16 + 1) = total_mono delay _ _ (omega arith) in
        (omega arith, (omega arith, loads_from j (suc k) (omega arith) offsets words))
    loads_from j k l [] words = tt
    loads_from j k l (o ∷ offsets) [] = tt

    load_after : (j k : ℕ) → j < k → (q : List ℕ) (x : ℕ) (offsets : List (List ℕ)) (words : List ℕ) → Each (Order (mem_at (suc (word_cycle delay j)) q (writes x))) (load_stamped delay core copies n st r m parts k offsets words)
    load_after j k l q x (o ∷ offsets) (w ∷ words) =
        let a : word_cycle delay j < word_cycle delay k = rises j k l in (
          apart (suc (word_cycle delay j)) (word_cycle delay k) q (places_of parts o) (writes x) (reads w),
          (
            later_in_order (mem_at (suc (word_cycle delay j)) q (writes x)) (mem_at (suc (word_cycle delay k)) (loaded_at core (kind_of core m) m o) (writes w)) (omega arith),
            load_after j (suc k) (omega arith) q x offsets words,
          ),
        )
    load_after j k l q x [] words = tt
    load_after j k l q x (o ∷ offsets) [] = tt

    look_before_all : (s : Stamped) → does_change s.moment ≡ false → (xs : List Stamped) → From s.cycle xs → Each (Order s) xs
    look_before_all s a [] f = tt
    look_before_all s a (x ∷ xs) f = (look_in_order s x a f.0, look_before_all s a xs f.1)

    loads_in_order : (j : ℕ) (offsets : List (List ℕ)) (words : List ℕ) → Pairs Order (load_stamped delay core copies n st r m parts j offsets words)
    loads_in_order j (o ∷ offsets) (w ∷ words) =
        let rest : List Stamped = load_stamped delay core copies n st r m parts (suc j) offsets words in
        let read : Stamped = dram_at (word_cycle delay j) (places_of parts o) (reads w) in
        let written : Stamped = mem_at (suc (word_cycle delay j)) (loaded_at core (kind_of core m) m o) (writes w) in (
          (look_in_order read written refl (omega arith), look_before_all read refl rest (loads_from j (suc j) (omega arith) offsets words)),
          (load_after j (suc j) (omega arith) (loaded_at core (kind_of core m) m o) w offsets words, loads_in_order (suc j) offsets words),
        )
    loads_in_order j [] words = tt
    loads_in_order j (o ∷ offsets) [] = tt

    -- the rows of a line buffer turn before its first word
    turn_first : (k : ℕ) (offsets : List (List ℕ)) (words : List ℕ) → Each (Order (mem_at 1 [] turns)) (load_stamped delay core copies n st r m parts k offsets words)
    turn_first k (o ∷ offsets) (w ∷ words) = (
      apart 1 (word_cycle delay k) [] (places_of parts o) turns (reads w),
      (later_in_order (mem_at 1 [] turns) (mem_at (suc (word_cycle delay k)) (loaded_at core (kind_of core m) m o) (writes w)) (omega arith), turn_first (suc k) offsets words),
    )
    turn_first k [] words = tt
    turn_first k (o ∷ offsets) [] = tt

    rows_in_order : (words : List ℕ) → Pairs Order (stamped copies 1 (rows_turn core n st (kind_of core m) m) ++ load_stamped delay core copies n st r m parts 0 (all_offsets parts) words)
    rows_in_order words = go (kind_of core m)
      where
        go : (kd : _) → Pairs Order (stamped copies 1 (rows_turn core n st kd m) ++ load_stamped delay core copies n st r m parts 0 (all_offsets parts) words)
        go LineBuf = (turn_first 0 (all_offsets parts) words, loads_in_order 0 (all_offsets parts) words)
        go kd = loads_in_order 0 (all_offsets parts) words

    -- a slice is asked for, which is at no place
    slice_in_order : (es : List Stamped) → Pairs Order es → Pairs Order (slice_stamped delay core copies n st parts es)
    slice_in_order es h = go (has_none (lengths parts))
      where
        asked : Moment
        asked = slices (record { number = n; standing = st; firsts = map first_of parts; lengths = lengths parts })

        free : (xs : List Stamped) → Each (Order (stamp copies 1 asked)) xs
        free [] = tt
        free (x ∷ xs) = (record { for_change = λ c y. absurd (false≢true c.first); for_look = λ c y. absurd (false≢true c.first) }, free xs)

        go : (b : Bool) → Pairs Order (elim b as (λ _. List Stamped) [ true ↦ [] | false ↦ stamped copies 1 (asked ∷ []) ++ es ])
        go true = tt
        go false = (free es, h)

    pub load_in_order : (words : List ℕ) → Pairs Order (load_run delay core copies n st r m parts words)
    load_in_order words = slice_in_order _ (rows_in_order words)

    -- a store
    store_after : (j k : ℕ) → j < k → (q : List ℕ) (x : ℕ) (offsets : List (List ℕ)) (words : List ℕ) → Each (Order (dram_at (word_cycle delay j) q (writes x))) (store_stamped delay core copies n st r m parts k offsets words)
    store_after j k l q x (o ∷ offsets) (w ∷ words) = (
      apart_back (word_cycle delay j) (look_cycle delay k) q o (writes x) (reads w),
      (later_in_order (dram_at (word_cycle delay j) q (writes x)) (dram_at (word_cycle delay k) (places_of parts o) (writes w)) (rises j k l), store_after j (suc k) (omega arith) q x offsets words),
    )
    store_after j k l q x [] words = tt
    store_after j k l q x (o ∷ offsets) [] = tt

    store_looks : (c : ℕ) (q : List ℕ) (x k : ℕ) (offsets : List (List ℕ)) (words : List ℕ) → Each (Order (mem_at c q (reads x))) (store_stamped delay core copies n st r m parts k offsets words)
    store_looks c q x k (o ∷ offsets) (w ∷ words) = (
      looks_alone (mem_at c q (reads x)) (mem_at (look_cycle delay k) o (reads w)) refl refl,
      (apart c (word_cycle delay k) q (places_of parts o) (reads x) (writes w), store_looks c q x (suc k) offsets words),
    )
    store_looks c q x k [] words = tt
    store_looks c q x k (o ∷ offsets) [] = tt

    stores_in_order : (j : ℕ) (offsets : List (List ℕ)) (words : List ℕ) → Pairs Order (store_stamped delay core copies n st r m parts j offsets words)
    stores_in_order j (o ∷ offsets) (w ∷ words) = (
      (apart (look_cycle delay j) (word_cycle delay j) o (places_of parts o) (reads w) (writes w), store_looks (look_cycle delay j) o w (suc j) offsets words),
      (store_after j (suc j) (omega arith) (places_of parts o) w offsets words, stores_in_order (suc j) offsets words),
    )
    stores_in_order j [] words = tt
    stores_in_order j (o ∷ offsets) [] = tt

    pub store_in_order : (words : List ℕ) → Pairs Order (store_run delay core copies n st r m parts words)
    store_in_order words = slice_in_order _ (stores_in_order 0 (all_offsets parts) words)
