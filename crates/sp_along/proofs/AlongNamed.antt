-- Moments of one operation or transfer, and of lists, by their numbers.
use Rattle.std.proofs.Common.{◌≡◌, ℕ, suc, ◌+◌, Bool, true, false, List, [], ◌∷◌, ◌++◌, length, map, flat_map, Option, Some, None, arith, refl, sym, subst, if◌then◌else◌}
use Rattle.std.proofs.lemmas.List.Elements.{All-nil, All-cons, All-append, Contains-append_left, Contains-append_right}
use Rattle.std.specs.List.{All, Contains}
use Rattle.sp_words.specs.declared.kind.Kind.{Kind}
use Rattle.sp_words.specs.declared.kind.Kind.TheVariants.{Reg, Sram, Fifo, LineBuf, Dram, ArgIn, ArgOut}
use Rattle.sp_core.specs.declared.operation.OpKind.{OpKind}
use Rattle.sp_core.specs.declared.operation.OpKind.TheVariants.{Read, Write, Enq, Deq, Reset}
use Rattle.sp_core.specs.Declarations.{mem, kind_of}
use Rattle.sp_core.specs.Elements.{index_value, natural}
use Rattle.sp_core.specs.Events.{Act, reads, writes, Standing, Moment, slices, renews, keeps, act_of, event_of, entry_moments, list_moments, bounds_moments, spans_moments, first_of, dram_event, mem_event, rows_turn, load_moments, store_moments, slice_moments, loaded, stored, gather_moments, scatter_moments, picked_moments, renewal_in_body}
use Rattle.sp_core.specs.History.{Entry, left_out, gave, touched, Bounds, Taken, one, both}
use Rattle.sp_core.specs.OperationRules.{is_access}
use Rattle.sp_core.specs.PlainCore.{PlainOp, PlainCounter, PlainSpan, single, range, PlainCore}
use Rattle.sp_core.specs.Sequential.{has_reset}
use Rattle.sp_core.specs.Transfers.{Part, lengths, has_none, places_of, all_offsets, loaded_at}
use Rattle.sp_meets.specs.Around.{PlainLevel}
use Rattle.sp_meets.specs.Spots.{PlainSpot, op_targets, op_spots, list_spots, bounds_spots, spans_spots}
use Rattle.sp_along.specs.Along.{Named}

pub plus_assoc : (a b c : ℕ) → a + (b + c) ≡ (a + b) + c
plus_assoc a b c = omega arith

-- only an access does something to a memory
is_some : Option Act → Bool
is_some None = false
is_some (Some act) = true

act_access : (kind : OpKind) (w : ℕ) (act : Act) → act_of kind w ≡ Some act → is_access kind ≡ true
act_access Read w act e = refl
act_access Write w act e = refl
act_access Enq w act e = refl
act_access Deq w act e = refl
act_access Reset w act e = refl
act_access kind w act e = absurd (cc)

first_one : {A : Type 0} (x : A) (xs : List A) → Contains (x ∷ xs) x
first_one x xs = (0, omega arith, refl)

-- moments that all are so named
module _ (P : ℕ → Standing → Type 0) where
  abbrev pub AllNamed : List Moment → Type 0
  AllNamed ms = All (Named P) ms

  pub none : AllNamed []
  none = All-nil (Named P)

  pub more : (m : Moment) (ms : List Moment) → Named P m → AllNamed ms → AllNamed (m ∷ ms)
  more m ms p h = All-cons (Named P) m ms p h

  pub single_one : (m : Moment) → Named P m → AllNamed (m ∷ [])
  single_one m p = more m [] p none

  pub both_named : (ms ns : List Moment) → AllNamed ms → AllNamed ns → AllNamed (ms ++ ns)
  both_named ms ns h k = All-append (Named P) ms ns h k

  -- what is done at one standing, by the spots of its operations
  module _ (st : Standing) (path : List PlainLevel) where
    abbrev pub AreAt : List PlainSpot → Type 0
    AreAt xs = (x : PlainSpot) → Contains xs x → x.path ≡ path → P x.number st

    event_named : (n : ℕ) (m : Option ℕ) (is : List ℕ) (act : Option Act) → ((a : Act) → act ≡ Some a → P n st) → AllNamed (event_of n st m is act)
    event_named n None is None h = none
    event_named n None is (Some act) h = none
    event_named n (Some m) is None h = none
    event_named n (Some m) is (Some act) h = single_one _ (h act refl)

    op_here : (n : ℕ) (op : PlainOp) → AreAt (op_spots path n op) → is_access op.kind ≡ true → P n st
    op_here n op h e =
        let spot : PlainSpot = record { number = n; path = path; targets = op_targets op.kind op.mem; spans = []; lengths = 0 } in
        h spot (subst (λ b. Contains (if b then spot ∷ [] else []) spot) (sym e) (first_one spot [])) refl

    entry_named : (n : ℕ) (op : PlainOp) (y : Entry) → AreAt (op_spots path n op) → AllNamed (entry_moments n st op.kind op.mem y)
    entry_named n op left_out h = none
    entry_named n op (gave w) h = none
    entry_named n op (touched is w) h = event_named n op.mem is (act_of op.kind w) (λ a e. op_here n op h (act_access op.kind w a e))

    one_more : (n : ℕ) → n + 1 ≡ suc n
    one_more n = omega arith

    pub list_named : (n : ℕ) (ops : List PlainOp) (es : List Entry) → AreAt (list_spots path n ops) → AllNamed (list_moments n st ops es)
    list_named n [] es h = none
    list_named n (op ∷ ops) [] h = none
    list_named n (op ∷ ops) (y ∷ es) h =
        both_named _ _ (entry_named n op y (λ x c. h x (Contains-append_left (op_spots path n op) (list_spots path (n + 1) ops) x c)))
        (list_named (suc n) ops es (subst (λ k. AreAt (list_spots path k ops)) (one_more n) (λ x c. h x (Contains-append_right (op_spots path n op) (list_spots path (n + 1) ops) x c))))

    pub bounds_named : (n : ℕ) (counters : List PlainCounter) (bs : List Bounds) → AreAt (bounds_spots path n counters) → AllNamed (bounds_moments n st counters bs)
    bounds_named n [] bs h = none
    bounds_named n (c ∷ counters) [] h = none
    bounds_named n (c ∷ counters) (b ∷ bs) h =
        let first = list_spots path n c.from in
        let second = list_spots path (n + length c.from) c.until in
        let rest = bounds_spots path ((n + length c.from) + length c.until) counters in
        both_named _ _
        (both_named _ _ (list_named n c.from b.from (λ x i. h x (Contains-append_left (first ++ second) rest x (Contains-append_left first second x i))))
        (list_named (n + length c.from) c.until b.until (λ x i. h x (Contains-append_left (first ++ second) rest x (Contains-append_right first second x i)))))
        (bounds_named (n + (length c.from + length c.until)) counters bs
        (subst (λ k. AreAt (bounds_spots path k counters)) (sym (plus_assoc n (length c.from) (length c.until))) (λ x i. h x (Contains-append_right (first ++ second) rest x i))))

    pub spans_named : (n : ℕ) (spans : List PlainSpan) (ts : List Taken) → AreAt (spans_spots path n spans) → AllNamed (spans_moments n st spans ts)
    spans_named n [] ts h = none
    spans_named n (single ops ∷ spans) [] h = none
    spans_named n (range a b ∷ spans) [] h = none
    spans_named n (single ops ∷ spans) (one es ∷ ts) h =
        let first = list_spots path n ops in
        let rest = spans_spots path (n + length ops) spans in
        both_named _ _ (list_named n ops es (λ x i. h x (Contains-append_left first rest x i))) (spans_named (n + length ops) spans ts (λ x i. h x (Contains-append_right first rest x i)))
    spans_named n (single ops ∷ spans) (both es fs ∷ ts) h = none
    spans_named n (range a b ∷ spans) (one es ∷ ts) h = none
    spans_named n (range a b ∷ spans) (both es fs ∷ ts) h =
        let first = list_spots path n a in
        let second = list_spots path (n + length a) b in
        let rest = spans_spots path ((n + length a) + length b) spans in
        both_named _ _
        (both_named _ _ (list_named n a es (λ x i. h x (Contains-append_left (first ++ second) rest x (Contains-append_left first second x i))))
        (list_named (n + length a) b fs (λ x i. h x (Contains-append_left (first ++ second) rest x (Contains-append_right first second x i)))))
        (spans_named (n + (length a + length b)) spans ts
        (subst (λ k. AreAt (spans_spots path k spans)) (sym (plus_assoc n (length a) (length b))) (λ x i. h x (Contains-append_right (first ++ second) rest x i))))

  -- what a transfer does
  module _ (core : PlainCore) (n : ℕ) (st : Standing) (here : P n st) where
    rows_named : (kind : Kind) (m : ℕ) → AllNamed (rows_turn core n st kind m)
    rows_named LineBuf m = single_one _ here
    rows_named Reg m = none
    rows_named Sram m = none
    rows_named Fifo m = none
    rows_named Dram m = none
    rows_named ArgIn m = none
    rows_named ArgOut m = none

    slice_named : (parts : List Part) (ms : List Moment) → AllNamed ms → AllNamed (slice_moments core n st parts ms)
    slice_named parts ms h = go (has_none (lengths parts))
      where
        go : (b : Bool) → AllNamed (elim b as (λ _. List Moment) [ true ↦ [] | false ↦ slices (record { number = n; standing = st; firsts = map first_of parts; lengths = lengths parts }) ∷ ms ])
        go true = none
        go false = more (slices (record { number = n; standing = st; firsts = map first_of parts; lengths = lengths parts })) ms here h

    module _ (r m : ℕ) where
      loads_named : (parts : List Part) (offsets : List (List ℕ)) (ws : List ℕ) → AllNamed (load_moments core n st r m parts offsets ws)
      loads_named parts [] ws = none
      loads_named parts (o ∷ offsets) [] = none
      loads_named parts (o ∷ offsets) (w ∷ ws) =
          let put : Moment = mem_event core n st m (loaded_at core (kind_of core m) m o) (writes w) in
          more (dram_event core n st r (places_of parts o) (reads w)) (put ∷ load_moments core n st r m parts offsets ws) here
          (more put (load_moments core n st r m parts offsets ws) here (loads_named parts offsets ws))

      stores_named : (parts : List Part) (offsets : List (List ℕ)) (ws : List ℕ) → AllNamed (store_moments core n st r m parts offsets ws)
      stores_named parts [] ws = none
      stores_named parts (o ∷ offsets) [] = none
      stores_named parts (o ∷ offsets) (w ∷ ws) =
          let put : Moment = dram_event core n st r (places_of parts o) (writes w) in
          more (mem_event core n st m o (reads w)) (put ∷ store_moments core n st r m parts offsets ws) here
          (more put (store_moments core n st r m parts offsets ws) here (stores_named parts offsets ws))

      pub loaded_named : (parts : List Part) (ws : List ℕ) → AllNamed (loaded core n st r m parts ws)
      loaded_named parts ws = slice_named parts _ (both_named (rows_turn core n st (kind_of core m) m) _ (rows_named (kind_of core m) m) (loads_named parts (all_offsets parts) ws))

      pub stored_named : (parts : List Part) (ws : List ℕ) → AllNamed (stored core n st r m parts ws)
      stored_named parts ws = slice_named parts _ (stores_named parts (all_offsets parts) ws)

      module _ (p : ℕ) where
        pub gathers_named : (k : ℕ) (ws : List (ℕ × ℕ)) → AllNamed (gather_moments core n st r m p k ws)
        gathers_named k [] = none
        gathers_named k ((i, w) ∷ ws) =
            let found : Moment = dram_event core n st r (natural (index_value i) ∷ []) (reads w) in
            let put : Moment = mem_event core n st m (k ∷ []) (writes w) in
            let rest : List Moment = gather_moments core n st r m p (suc k) ws in
            more (mem_event core n st p (k ∷ []) (reads i)) (found ∷ put ∷ rest) here (more found (put ∷ rest) here (more put rest here (gathers_named (suc k) ws)))

        pub scatters_named : (k : ℕ) (ws : List (ℕ × ℕ)) → AllNamed (scatter_moments core n st r m p k ws)
        scatters_named k [] = none
        scatters_named k ((i, w) ∷ ws) =
            let found : Moment = mem_event core n st m (k ∷ []) (reads w) in
            let put : Moment = dram_event core n st r (natural (index_value i) ∷ []) (writes w) in
            let rest : List Moment = scatter_moments core n st r m p (suc k) ws in
            more (mem_event core n st p (k ∷ []) (reads i)) (found ∷ put ∷ rest) here (more found (put ∷ rest) here (more put rest here (scatters_named (suc k) ws)))

        pub picked_named : (ws : List (ℕ × ℕ)) (ms : List Moment) → AllNamed ms → AllNamed (picked_moments core n st ws ms)
        picked_named [] ms h = none
        picked_named (w ∷ ws) ms h = more (slices (record { number = n; standing = st; firsts = []; lengths = length (w ∷ ws) ∷ [] })) ms here h

  pub renew_named : (owned : List ℕ) → AllNamed (map renews owned)
  renew_named [] = none
  renew_named (m ∷ owned) = more (renews m) (map renews owned) tt (renew_named owned)

  renewal_named : (core : PlainCore) (m : ℕ) → AllNamed (renewal_in_body core m)
  renewal_named core m = go (has_reset (mem core m).kind (mem core m).start)
    where
      go : (b : Bool) → AllNamed (elim b as (λ _. List Moment) [ true ↦ [] | false ↦ renews m ∷ [] ])
      go true = none
      go false = single_one (renews m) tt

  pub renewals_named : (core : PlainCore) (owned : List ℕ) → AllNamed (flat_map (renewal_in_body core) owned)
  renewals_named core [] = none
  renewals_named core (m ∷ owned) = both_named (renewal_in_body core m) _ (renewal_named core m) (renewals_named core owned)

  pub keeps_named : (m w : ℕ) → AllNamed (keeps m w ∷ [])
  keeps_named m w = single_one (keeps m w) tt
