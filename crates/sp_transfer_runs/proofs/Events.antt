-- The events of transfers in the timeline, one by one.
use Rattle.std.proofs.Common.{◌≡◌, ℕ, zero, suc, ◌+◌, ◌<◌, ◌⊎◌, inl, inr, Bool, true, false, List, [], ◌∷◌, ◌++◌, map, length, slice_index, slice_index_or, Option, Some, None, refl, sym, ap, subst, ◌∙◌, arith}
use Rattle.std.specs.List.{Contains}
use Rattle.sp_words.specs.declared.kind.Kind.{Kind}
use Rattle.sp_words.specs.declared.kind.Kind.TheVariants.{LineBuf}
use Rattle.sp_core.specs.declared.operation.OpKind.{OpKind}
use Rattle.sp_core.specs.Declarations.{kind_of}
use Rattle.sp_core.specs.Events.{Act, reads, writes, turns, Standing, Event, Moment, touches, slices, act_of, event_of, entry_moments, list_moments, spans_moments, first_of, dram_event, mem_event, rows_turn}
use Rattle.sp_core.specs.History.{Entry, left_out, gave, touched, Taken, one, both}
use Rattle.sp_core.specs.Numbering.{spans_size}
use Rattle.sp_core.specs.PlainCore.{PlainOp, PlainSpan, single, range, PlainCore}
use Rattle.sp_core.specs.Transfers.{Part, lengths, has_none, places_of, all_offsets, loaded_at}
use Rattle.sp_machine.specs.Stamps.{Stamped, Copies, stamp, stamped}
use Rattle.sp_machine.specs.Transfers.{word_cycle, look_cycle, load_stamped, store_stamped, slice_stamped, load_run, store_run}
use Rattle.sp_transfer_runs.proofs.Cycles.{in_split, in_head, in_left, in_tail, in_none, in_right, in_either}

-- what a moment touches
no_event : Event
no_event = record { number = 0; standing = record { path = []; counters = [] }; mem = 0; indices = []; act = turns }

abbrev touched_in : Moment → Event
touched_in (touches e) = e
touched_in m = no_event

pub same_event : (e f : Event) → touches e ≡ touches f → e ≡ f
same_event e f h = ap touched_in h

-- numbers of the operations of a list, and of spans
module _ (st : Standing) where
  of_event : (n : ℕ) (m : Option ℕ) (is : List ℕ) (act : Option Act) (e : Event) → Contains (event_of n st m is act) (touches e) → e.number ≡ n
  of_event n None is act e c = absurd (in_none (touches e) c)
  of_event n (Some m) is None e c = absurd (in_none (touches e) c)
  of_event n (Some m) is (Some act) e c = by (in_split _ [] (touches e) c)
    where
      by : (touches (record { number = n; standing = st; mem = m; indices = is; act = act }) ≡ touches e) ⊎ Contains [] (touches e) → e.number ≡ n
      by (inl h) = sym (ap (λ (x : Event). x.number) (same_event _ e h))
      by (inr d) = absurd (in_none (touches e) d)

  of_entry : (n : ℕ) (kind : OpKind) (m : Option ℕ) (entry : Entry) (e : Event) → Contains (entry_moments n st kind m entry) (touches e) → e.number ≡ n
  of_entry n kind m left_out e c = absurd (in_none (touches e) c)
  of_entry n kind m (gave w) e c = absurd (in_none (touches e) c)
  of_entry n kind m (touched is w) e c = of_event n m is (act_of kind w) e c

  of_list : (n : ℕ) (ops : List PlainOp) (es : List Entry) (e : Event) → Contains (list_moments n st ops es) (touches e) → e.number < n + length ops
  of_list n [] es e c = absurd (in_none (touches e) c)
  of_list n (op ∷ ops) [] e c = absurd (in_none (touches e) c)
  of_list n (op ∷ ops) (x ∷ es) e c = by (of_list (suc n) ops es e) (in_either (entry_moments n st op.kind op.mem x) (list_moments (suc n) st ops es) (touches e) c)
    where
      by : (Contains (list_moments (suc n) st ops es) (touches e) → e.number < suc n + length ops) → Contains (entry_moments n st op.kind op.mem x) (touches e) ⊎ Contains (list_moments (suc n) st ops es) (touches e) → e.number < n + suc (length ops)
      by rest (inl d) = let h = of_entry n op.kind op.mem x e d in omega (arith, h)
      by rest (inr d) = let h = rest d in omega (arith, h)

  pub of_spans : (n : ℕ) (spans : List PlainSpan) (taken : List Taken) (e : Event) → Contains (spans_moments n st spans taken) (touches e) → e.number < n + spans_size spans
  of_spans n [] taken e c = absurd (in_none (touches e) c)
  of_spans n (single ops ∷ spans) [] e c = absurd (in_none (touches e) c)
  of_spans n (range a b ∷ spans) [] e c = absurd (in_none (touches e) c)
  of_spans n (single ops ∷ spans) (both es fs ∷ taken) e c = absurd (in_none (touches e) c)
  of_spans n (range a b ∷ spans) (one es ∷ taken) e c = absurd (in_none (touches e) c)
  of_spans n (single ops ∷ spans) (one es ∷ taken) e c = by (of_spans (n + length ops) spans taken e) (in_either (list_moments n st ops es) (spans_moments (n + length ops) st spans taken) (touches e) c)
    where
      by : (Contains (spans_moments (n + length ops) st spans taken) (touches e) → e.number < n + length ops + spans_size spans) → Contains (list_moments n st ops es) (touches e) ⊎ Contains (spans_moments (n + length ops) st spans taken) (touches e) → e.number < n + (length ops + spans_size spans)
      by rest (inl d) = let h = of_list n ops es e d in omega (arith, h)
      by rest (inr d) = let h = rest d in omega (arith, h)
  of_spans n (range a b ∷ spans) (both es fs ∷ taken) e c =
      by (of_spans (n + (length a + length b)) spans taken e) (in_either (list_moments n st a es ++ list_moments (n + length a) st b fs) (spans_moments (n + (length a + length b)) st spans taken) (touches e) c)
    where
      ends : Contains (list_moments n st a es) (touches e) ⊎ Contains (list_moments (n + length a) st b fs) (touches e) → e.number < n + (length a + length b)
      ends (inl d) = let h = of_list n a es e d in omega (arith, h)
      ends (inr d) = let h = of_list (n + length a) b fs e d in omega (arith, h)

      by : (Contains (spans_moments (n + (length a + length b)) st spans taken) (touches e) → e.number < n + (length a + length b) + spans_size spans)
          → Contains (list_moments n st a es ++ list_moments (n + length a) st b fs) (touches e) ⊎ Contains (spans_moments (n + (length a + length b)) st spans taken) (touches e) → e.number < n + ((length a + length b) + spans_size spans)
      by rest (inl d) = let h = ends (in_either (list_moments n st a es) (list_moments (n + length a) st b fs) (touches e) d) in omega (arith, h)
      by rest (inr d) = let h = rest d in omega (arith, h)

-- two events for each word
module _ (f g : ℕ → List ℕ → ℕ → Stamped) where
  abbrev pub pairs : ℕ → (offsets : List (List ℕ)) → (words : List ℕ) → List Stamped
  pairs j (o ∷ offsets) (w ∷ words) = f j o w ∷ (g j o w ∷ pairs (suc j) offsets words)
  pairs j _ _ = []

  abbrev pub nth : List (List ℕ) → ℕ → List ℕ
  nth offsets i = slice_index_or offsets i []

  pub pair_at : (j : ℕ) (offsets : List (List ℕ)) (words : List ℕ) (i : ℕ) → i < length offsets → i < length words
      → Contains (pairs j offsets words) (f (j + i) (nth offsets i) (slice_index words i)) × Contains (pairs j offsets words) (g (j + i) (nth offsets i) (slice_index words i))
  pair_at j [] words i l k = absurd (omega (arith, l))
  pair_at j (o ∷ offsets) [] i l k = absurd (omega (arith, k))
  pair_at j (o ∷ offsets) (w ∷ words) zero l k =
      let e : j ≡ j + 0 = omega arith in (
        subst (λ x. Contains (pairs j (o ∷ offsets) (w ∷ words)) (f x o w)) e (in_head (f j o w) (g j o w ∷ pairs (suc j) offsets words)),
        subst (λ x. Contains (pairs j (o ∷ offsets) (w ∷ words)) (g x o w)) e (in_tail (f j o w) (g j o w ∷ pairs (suc j) offsets words) (g j o w) (in_head (g j o w) (pairs (suc j) offsets words))),
      )
  pair_at j (o ∷ offsets) (w ∷ words) (suc i) l k =
      let e : suc j + i ≡ j + suc i = omega arith in
      let h = pair_at (suc j) offsets words i (omega (arith, l)) (omega (arith, k)) in
      let deeper : (x : Stamped) → Contains (pairs (suc j) offsets words) x → Contains (pairs j (o ∷ offsets) (w ∷ words)) x = (λ x c. in_tail (f j o w) (g j o w ∷ pairs (suc j) offsets words) x (in_tail (g j o w) (pairs (suc j) offsets words) x c)) in (
        subst (λ x. Contains (pairs j (o ∷ offsets) (w ∷ words)) (f x (nth offsets i) (slice_index words i))) e (deeper _ h.0),
        subst (λ x. Contains (pairs j (o ∷ offsets) (w ∷ words)) (g x (nth offsets i) (slice_index words i))) e (deeper _ h.1),
      )

  -- and there is nothing else
  pub record OfPair (j : ℕ) (offsets : List (List ℕ)) (words : List ℕ) (x : Stamped) : Type 0 where
    pub word : ℕ
    pub within : word < length words
    pub either : (f (j + word) (nth offsets word) (slice_index words word) ≡ x) ⊎ (g (j + word) (nth offsets word) (slice_index words word) ≡ x)

  here : (j : ℕ) (o : List ℕ) (offsets : List (List ℕ)) (w : ℕ) (words : List ℕ) (x : Stamped) → (f j o w ≡ x) ⊎ (g j o w ≡ x) → OfPair j (o ∷ offsets) (w ∷ words) x
  here j o offsets w words x e = let zero_is : j ≡ j + 0 = omega arith in record { word = 0; within = omega arith; either = subst (λ y. (f y o w ≡ x) ⊎ (g y o w ≡ x)) zero_is e }

  later_on : (j : ℕ) (o : List ℕ) (offsets : List (List ℕ)) (w : ℕ) (words : List ℕ) (x : Stamped) → OfPair (suc j) offsets words x → OfPair j (o ∷ offsets) (w ∷ words) x
  later_on j o offsets w words x h =
      let next : suc j + h.word ≡ j + suc h.word = omega arith in
      record { word = suc h.word; within = (let l = h.within in omega (arith, l)); either = subst (λ y. (f y (nth offsets h.word) (slice_index words h.word) ≡ x) ⊎ (g y (nth offsets h.word) (slice_index words h.word) ≡ x)) next h.either }

  pub pair_only : (j : ℕ) (offsets : List (List ℕ)) (words : List ℕ) (x : Stamped) → Contains (pairs j offsets words) x → OfPair j offsets words x
  pair_only j [] words x c = absurd (in_none x c)
  pair_only j (o ∷ offsets) [] x c = absurd (in_none x c)
  pair_only j (o ∷ offsets) (w ∷ words) x c = first (pair_only (suc j) offsets words x) (in_split (f j o w) (g j o w ∷ pairs (suc j) offsets words) x c)
    where
      second : (Contains (pairs (suc j) offsets words) x → OfPair (suc j) offsets words x) → (g j o w ≡ x) ⊎ Contains (pairs (suc j) offsets words) x → OfPair j (o ∷ offsets) (w ∷ words) x
      second rest (inl e) = here j o offsets w words x (inr e)
      second rest (inr d) = later_on j o offsets w words x (rest d)

      first : (Contains (pairs (suc j) offsets words) x → OfPair (suc j) offsets words x) → (f j o w ≡ x) ⊎ Contains (g j o w ∷ pairs (suc j) offsets words) x → OfPair j (o ∷ offsets) (w ∷ words) x
      first rest (inl e) = here j o offsets w words x (inl e)
      first rest (inr d) = second rest (in_split (g j o w) (pairs (suc j) offsets words) x d)

-- those of transfers
module _ (delay : ℕ → ℕ) (core : PlainCore) (copies : Copies) (n : ℕ) (st : Standing) (r m : ℕ) (parts : List Part) where
  abbrev pub dram_read : ℕ → List ℕ → ℕ → Stamped
  dram_read j o w = stamp copies (word_cycle delay j) (dram_event core n st r (places_of parts o) (reads w))

  abbrev pub chip_write : ℕ → List ℕ → ℕ → Stamped
  chip_write j o w = stamp copies (suc (word_cycle delay j)) (mem_event core n st m (loaded_at core (kind_of core m) m o) (writes w))

  abbrev pub chip_read : ℕ → List ℕ → ℕ → Stamped
  chip_read j o w = stamp copies (look_cycle delay j) (mem_event core n st m o (reads w))

  abbrev pub dram_write : ℕ → List ℕ → ℕ → Stamped
  dram_write j o w = stamp copies (word_cycle delay j) (dram_event core n st r (places_of parts o) (writes w))

  loads_are : (j : ℕ) (offsets : List (List ℕ)) (words : List ℕ) → load_stamped delay core copies n st r m parts j offsets words ≡ pairs dram_read chip_write j offsets words
  loads_are j [] words = refl
  loads_are j (o ∷ offsets) [] = refl
  loads_are j (o ∷ offsets) (w ∷ words) = ap (λ rest. dram_read j o w ∷ (chip_write j o w ∷ rest)) (loads_are (suc j) offsets words)

  stores_are : (j : ℕ) (offsets : List (List ℕ)) (words : List ℕ) → store_stamped delay core copies n st r m parts j offsets words ≡ pairs chip_read dram_write j offsets words
  stores_are j [] words = refl
  stores_are j (o ∷ offsets) [] = refl
  stores_are j (o ∷ offsets) (w ∷ words) = ap (λ rest. chip_read j o w ∷ (dram_write j o w ∷ rest)) (stores_are (suc j) offsets words)

  asked : List Stamped
  asked = stamped copies 1 (slices (record { number = n; standing = st; firsts = map first_of parts; lengths = lengths parts }) ∷ [])

  -- a slice with a word has all of it
  sliced : (es : List Stamped) → has_none (lengths parts) ≡ false → (x : Stamped) → Contains es x → Contains (slice_stamped delay core copies n st parts es) x
  unfolding asked
  sliced es e x c = subst (λ b. Contains (elim b as (λ _. List Stamped) [ true ↦ [] | false ↦ asked ++ es ]) x) (sym e) (in_right asked es x c)

  -- and nothing else is touched
  unsliced : (es : List Stamped) (x : Stamped) (e : Event) → x.moment ≡ touches e → Contains (slice_stamped delay core copies n st parts es) x → Contains es x
  unfolding asked
  unsliced es x e is c = by (has_none (lengths parts)) c
    where
      by : (b : Bool) → Contains (elim b as (λ _. List Stamped) [ true ↦ [] | false ↦ asked ++ es ]) x → Contains es x
      by true d = absurd (in_none x d)
      by false d = other (in_split _ es x d)
        where
          other : (stamp copies 1 (slices (record { number = n; standing = st; firsts = map first_of parts; lengths = lengths parts })) ≡ x) ⊎ Contains es x → Contains es x
          other (inl h) = absurd (let g = ap (λ (y : Stamped). y.moment) h ∙ is in cc)
          other (inr h) = h

  not_turned : (kind : Kind) (x : Stamped) (e : Event) (w : ℕ) → x.moment ≡ touches e → e.act ≡ writes w → Contains (stamped copies 1 (rows_turn core n st kind m)) x → ⊥
  not_turned LineBuf x e w is act c = by (in_split _ [] x c)
    where
      by : (stamp copies 1 (mem_event core n st m [] turns) ≡ x) ⊎ Contains [] x → ⊥
      by (inl h) = let g = ap (λ (y : Event). y.act) (same_event _ e (ap (λ (y : Stamped). y.moment) h ∙ is)) ∙ act in absurd (cc)
      by (inr d) = absurd (in_none x d)
  not_turned kind x e w is act c = absurd (in_none x c)

  -- what a load writes on the chip, and reads of its DRAM
  pub load_happens : (words : List ℕ) → has_none (lengths parts) ≡ false → (i : ℕ) → i < length (all_offsets parts) → i < length words
      → Contains (load_run delay core copies n st r m parts words) (dram_read i (slice_index_or (all_offsets parts) i []) (slice_index words i))
      × Contains (load_run delay core copies n st r m parts words) (chip_write i (slice_index_or (all_offsets parts) i []) (slice_index words i))
  load_happens words some i l k =
      let h = pair_at dram_read chip_write 0 (all_offsets parts) words i l k in
      let z : 0 + i ≡ i = omega arith in
      let all : (x : Stamped) → Contains (pairs dram_read chip_write 0 (all_offsets parts) words) x → Contains (load_run delay core copies n st r m parts words) x =
      (λ x c. sliced (stamped copies 1 (rows_turn core n st (kind_of core m) m) ++ load_stamped delay core copies n st r m parts 0 (all_offsets parts) words) some x
      (in_right (stamped copies 1 (rows_turn core n st (kind_of core m) m)) (load_stamped delay core copies n st r m parts 0 (all_offsets parts) words) x (subst (λ es. Contains es x) (sym (loads_are 0 (all_offsets parts) words)) c))) in (
        all _ (subst (λ y. Contains (pairs dram_read chip_write 0 (all_offsets parts) words) (dram_read y (slice_index_or (all_offsets parts) i []) (slice_index words i))) z h.0),
        all _ (subst (λ y. Contains (pairs dram_read chip_write 0 (all_offsets parts) words) (chip_write y (slice_index_or (all_offsets parts) i []) (slice_index words i))) z h.1),
      )

  -- and nothing else
  pub record IsWord (words : List ℕ) (event : ℕ → List ℕ → ℕ → Stamped) (x : Stamped) : Type 0 where
    pub word : ℕ
    pub within : word < length words
    pub is : event word (slice_index_or (all_offsets parts) word []) (slice_index words word) ≡ x

  as_word : (words : List ℕ) (event : ℕ → List ℕ → ℕ → Stamped) (x : Stamped) (i : ℕ) → i < length words → event (0 + i) (slice_index_or (all_offsets parts) i []) (slice_index words i) ≡ x → IsWord words event x
  as_word words event x i l h = let z : 0 + i ≡ i = omega arith in record { word = i; within = l; is = subst (λ y. event y (slice_index_or (all_offsets parts) i []) (slice_index words i) ≡ x) z h }

  pub load_writes : (words : List ℕ) (x : Stamped) (e : Event) (w : ℕ) → x.moment ≡ touches e → e.act ≡ writes w → Contains (load_run delay core copies n st r m parts words) x → IsWord words chip_write x
  load_writes words x e w is act c = first (in_either (stamped copies 1 (rows_turn core n st (kind_of core m) m)) (load_stamped delay core copies n st r m parts 0 (all_offsets parts) words) x (unsliced (stamped copies 1 (rows_turn core n st (kind_of core m) m) ++ load_stamped delay core copies n st r m parts 0 (all_offsets parts) words) x e is c))
    where
      which : (h : OfPair dram_read chip_write 0 (all_offsets parts) words x) → (dram_read (0 + h.word) (slice_index_or (all_offsets parts) h.word []) (slice_index words h.word) ≡ x) ⊎ (chip_write (0 + h.word) (slice_index_or (all_offsets parts) h.word []) (slice_index words h.word) ≡ x) → IsWord words chip_write x
      which h (inl g) = absurd (let d = ap (λ (y : Event). y.act) (same_event _ e (ap (λ (y : Stamped). y.moment) g ∙ is)) ∙ act in cc)
      which h (inr g) = as_word words chip_write x h.word h.within g

      first : Contains (stamped copies 1 (rows_turn core n st (kind_of core m) m)) x ⊎ Contains (load_stamped delay core copies n st r m parts 0 (all_offsets parts) words) x → IsWord words chip_write x
      first (inl d) = absurd (not_turned (kind_of core m) x e w is act d)
      first (inr d) = let h = pair_only dram_read chip_write 0 (all_offsets parts) words x (subst (λ es. Contains es x) (loads_are 0 (all_offsets parts) words) d) in which h h.either

  -- the rows of a line buffer turn in the cycle after the start
  abbrev pub rows_turned : Stamped
  rows_turned = stamp copies 1 (mem_event core n st m [] turns)

  pub load_turns : (words : List ℕ) → has_none (lengths parts) ≡ false → kind_of core m ≡ LineBuf → Contains (load_run delay core copies n st r m parts words) rows_turned
  load_turns words some e =
      sliced (stamped copies 1 (rows_turn core n st (kind_of core m) m) ++ load_stamped delay core copies n st r m parts 0 (all_offsets parts) words) some rows_turned
      (in_left (stamped copies 1 (rows_turn core n st (kind_of core m) m)) (load_stamped delay core copies n st r m parts 0 (all_offsets parts) words) rows_turned
      (subst (λ kind. Contains (stamped copies 1 (rows_turn core n st kind m)) rows_turned) (sym e) (in_head rows_turned [])))

  only_turn : (kind : Kind) (x : Stamped) → Contains (stamped copies 1 (rows_turn core n st kind m)) x → rows_turned ≡ x
  only_turn LineBuf x c = by (in_split rows_turned [] x c)
    where
      by : (rows_turned ≡ x) ⊎ Contains [] x → rows_turned ≡ x
      by (inl h) = h
      by (inr d) = absurd (in_none x d)
  only_turn kind x c = absurd (in_none x c)

  pub load_turned : (words : List ℕ) (x : Stamped) (e : Event) → x.moment ≡ touches e → e.act ≡ turns → Contains (load_run delay core copies n st r m parts words) x → rows_turned ≡ x
  load_turned words x e is act c = first (in_either (stamped copies 1 (rows_turn core n st (kind_of core m) m)) (load_stamped delay core copies n st r m parts 0 (all_offsets parts) words) x (unsliced (stamped copies 1 (rows_turn core n st (kind_of core m) m) ++ load_stamped delay core copies n st r m parts 0 (all_offsets parts) words) x e is c))
    where
      which : (h : OfPair dram_read chip_write 0 (all_offsets parts) words x) → (dram_read (0 + h.word) (slice_index_or (all_offsets parts) h.word []) (slice_index words h.word) ≡ x) ⊎ (chip_write (0 + h.word) (slice_index_or (all_offsets parts) h.word []) (slice_index words h.word) ≡ x) → rows_turned ≡ x
      which h (inl g) = absurd (let d = ap (λ (y : Event). y.act) (same_event _ e (ap (λ (y : Stamped). y.moment) g ∙ is)) ∙ act in cc)
      which h (inr g) = absurd (let d = ap (λ (y : Event). y.act) (same_event _ e (ap (λ (y : Stamped). y.moment) g ∙ is)) ∙ act in cc)

      first : Contains (stamped copies 1 (rows_turn core n st (kind_of core m) m)) x ⊎ Contains (load_stamped delay core copies n st r m parts 0 (all_offsets parts) words) x → rows_turned ≡ x
      first (inl d) = only_turn (kind_of core m) x d
      first (inr d) = let h = pair_only dram_read chip_write 0 (all_offsets parts) words x (subst (λ es. Contains es x) (loads_are 0 (all_offsets parts) words) d) in which h h.either

  -- what happens has a word
  pub load_some : (words : List ℕ) (x : Stamped) → Contains (load_run delay core copies n st r m parts words) x → has_none (lengths parts) ≡ false
  unfolding asked
  load_some words x c = by (has_none (lengths parts)) c
    where
      by : (b : Bool) → Contains (elim b as (λ _. List Stamped) [ true ↦ [] | false ↦ asked ++ (stamped copies 1 (rows_turn core n st (kind_of core m) m) ++ load_stamped delay core copies n st r m parts 0 (all_offsets parts) words) ]) x → b ≡ false
      by true d = absurd (in_none x d)
      by false d = refl

  -- what a store reads on the chip, and writes in its DRAM
  pub store_happens : (words : List ℕ) → has_none (lengths parts) ≡ false → (i : ℕ) → i < length (all_offsets parts) → i < length words
      → Contains (store_run delay core copies n st r m parts words) (chip_read i (slice_index_or (all_offsets parts) i []) (slice_index words i))
      × Contains (store_run delay core copies n st r m parts words) (dram_write i (slice_index_or (all_offsets parts) i []) (slice_index words i))
  store_happens words some i l k =
      let h = pair_at chip_read dram_write 0 (all_offsets parts) words i l k in
      let z : 0 + i ≡ i = omega arith in
      let all : (x : Stamped) → Contains (pairs chip_read dram_write 0 (all_offsets parts) words) x → Contains (store_run delay core copies n st r m parts words) x =
      (λ x c. sliced (store_stamped delay core copies n st r m parts 0 (all_offsets parts) words) some x (subst (λ es. Contains es x) (sym (stores_are 0 (all_offsets parts) words)) c)) in (
        all _ (subst (λ y. Contains (pairs chip_read dram_write 0 (all_offsets parts) words) (chip_read y (slice_index_or (all_offsets parts) i []) (slice_index words i))) z h.0),
        all _ (subst (λ y. Contains (pairs chip_read dram_write 0 (all_offsets parts) words) (dram_write y (slice_index_or (all_offsets parts) i []) (slice_index words i))) z h.1),
      )

  store_pair : (words : List ℕ) (x : Stamped) (e : Event) → x.moment ≡ touches e → Contains (store_run delay core copies n st r m parts words) x → OfPair chip_read dram_write 0 (all_offsets parts) words x
  store_pair words x e is c = pair_only chip_read dram_write 0 (all_offsets parts) words x (subst (λ es. Contains es x) (stores_are 0 (all_offsets parts) words) (unsliced (store_stamped delay core copies n st r m parts 0 (all_offsets parts) words) x e is c))

  pub store_writes : (words : List ℕ) (x : Stamped) (e : Event) (w : ℕ) → x.moment ≡ touches e → e.act ≡ writes w → Contains (store_run delay core copies n st r m parts words) x → IsWord words dram_write x
  store_writes words x e w is act c = let h = store_pair words x e is c in which h h.either
    where
      which : (h : OfPair chip_read dram_write 0 (all_offsets parts) words x) → (chip_read (0 + h.word) (slice_index_or (all_offsets parts) h.word []) (slice_index words h.word) ≡ x) ⊎ (dram_write (0 + h.word) (slice_index_or (all_offsets parts) h.word []) (slice_index words h.word) ≡ x) → IsWord words dram_write x
      which h (inl g) = absurd (let d = ap (λ (y : Event). y.act) (same_event _ e (ap (λ (y : Stamped). y.moment) g ∙ is)) ∙ act in cc)
      which h (inr g) = as_word words dram_write x h.word h.within g

  pub store_reads : (words : List ℕ) (x : Stamped) (e : Event) (w : ℕ) → x.moment ≡ touches e → e.act ≡ reads w → Contains (store_run delay core copies n st r m parts words) x → IsWord words chip_read x
  store_reads words x e w is act c = let h = store_pair words x e is c in which h h.either
    where
      which : (h : OfPair chip_read dram_write 0 (all_offsets parts) words x) → (chip_read (0 + h.word) (slice_index_or (all_offsets parts) h.word []) (slice_index words h.word) ≡ x) ⊎ (dram_write (0 + h.word) (slice_index_or (all_offsets parts) h.word []) (slice_index words h.word) ≡ x) → IsWord words chip_read x
      which h (inl g) = as_word words chip_read x h.word h.within g
      which h (inr g) = absurd (let d = ap (λ (y : Event). y.act) (same_event _ e (ap (λ (y : Stamped). y.moment) g ∙ is)) ∙ act in cc)
