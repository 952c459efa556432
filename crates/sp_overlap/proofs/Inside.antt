-- What happens in a part of a core: under which controllers, what it touches, and in which copy.
use Rattle.std.proofs.Common.{◌≡◌, ℕ, suc, ◌+◌, ◌<◌, ◌≤◌, Bool, true, false, List, [], ◌∷◌, ◌++◌, length, append_assoc, arith, refl, sym, ap, ◌∙◌}
use Rattle.std.proofs.Math.Seq.{get_or-append_right}
use Rattle.std.proofs.lemmas.Bool.{eq-eqb, or_left, true≢false}
use Rattle.std.proofs.lemmas.List.{get_or_append_left, length-append}
use Rattle.std.specs.Prelude.{◌-◌, ◌==◌, slice_index_or, Option, Some, None}
use Rattle.sp_core.specs.declared.operation.OpKind.{OpKind}
use Rattle.sp_core.specs.Declarations.{is_among}
use Rattle.sp_core.specs.Events.{Act, At, Standing, Event, Moment, touches, slices, renews, keeps, event_of, act_of, entry_moments, list_moments, bounds_moments, spans_moments}
use Rattle.sp_core.specs.History.{Entry, left_out, gave, touched, Bounds, Taken, one, both}
use Rattle.sp_core.specs.Numbering.{counters_size, spans_size}
use Rattle.sp_core.specs.PlainCore.{PlainOp, PlainCounter, PlainSpan, single, range, PlainCore}
use Rattle.sp_plan.proofs.NamedAt.{list_length, two_length}
use Rattle.sp_plan.specs.Named.{named_by, list_names, counters_names, spans_names, names_at}
use Rattle.sp_time.specs.Lists.{Each}
use Rattle.sp_machine.specs.Stamps.{Stamped, Copies, copy_of, stamped, later, list_stamped}
use Rattle.sp_overlap.specs.Apart.{StandAt}

-- the path goes on, if it does, at this node
abbrev pub BeginsAt : (node : ℕ) → List At → Type 0
BeginsAt j [] = Unit {0}
BeginsAt j (a ∷ path) = a.node ≡ j

module _ (core : PlainCore) where
  -- an event under these controllers and then the node, of an operation with a number in between, touches what that names,
  -- in the copy at hand where nothing inside owns it
  pub record IsEventIn (path : List At) (copies : Copies) (hidden : List ℕ) (j from until copy : ℕ) (e : Event) : Type 0 where
    pub rest : List At
    pub path_is : e.standing.path ≡ path ++ rest
    pub begins : BeginsAt j rest
    pub from_on : from ≤ e.number
    pub below : e.number < until
    pub named : is_among e.mem (names_at core e.number) ≡ true
    pub copied : is_among e.mem hidden ≡ false → copy ≡ copies e.mem

  abbrev pub IsMomentIn : (path : List At) (copies : Copies) (hidden : List ℕ) (j from until copy : ℕ) → Moment → Type 0
  IsMomentIn path copies hidden j from until copy (touches e) = IsEventIn path copies hidden j from until copy e
  IsMomentIn path copies hidden j from until copy (slices s) = Unit {0}
  IsMomentIn path copies hidden j from until copy (renews m) = is_among m hidden ≡ true
  IsMomentIn path copies hidden j from until copy (keeps m w) = is_among m hidden ≡ true

  abbrev pub IsIn : (path : List At) (copies : Copies) (hidden : List ℕ) (j from until : ℕ) → Stamped → Type 0
  IsIn path copies hidden j from until s = IsMomentIn path copies hidden j from until s.copy s.moment

  abbrev pub AllIn : (path : List At) (copies : Copies) (hidden : List ℕ) (j from until : ℕ) → List Stamped → Type 0
  AllIn path copies hidden j from until events = Each (IsIn path copies hidden j from until) events

  -- names that stand at numbers, in two parts
  pub stand_left : (n : ℕ) (a b : List (List ℕ)) → StandAt core n (a ++ b) → StandAt core n a
  stand_left n a b h i l = h i (let e : length (a ++ b) ≡ length a + length b = length-append a b in omega arith) ∙ get_or_append_left a b [] i l

  pub stand_right : (n m : ℕ) (a b : List (List ℕ)) → n + length a ≡ m → StandAt core n (a ++ b) → StandAt core m b
  stand_right n m a b q h i l =
      ap (names_at core) (let e : m + i ≡ n + (length a + i) = omega arith in e)
      ∙ h (length a + i) (let e : length (a ++ b) ≡ length a + length b = length-append a b in omega arith)
      ∙ get_or-append_right a b (length a + i) [] (omega arith) ∙ ap (λ k. slice_index_or b k []) (let e : length a + i - length a ≡ i = omega arith in e)

  stand_head : (n : ℕ) (x : List ℕ) (xs : List (List ℕ)) → StandAt core n (x ∷ xs) → names_at core n ≡ x
  stand_head n x xs h = ap (names_at core) (let e : n ≡ n + 0 = omega arith in e) ∙ h 0 (omega arith)

  stand_tail : (n : ℕ) (x : List ℕ) (xs : List (List ℕ)) → StandAt core n (x ∷ xs) → StandAt core (suc n) xs
  stand_tail n x xs h i l = ap (names_at core) (let e : suc n + i ≡ n + suc i = omega arith in e) ∙ h (suc i) (omega arith)

  pub in_append : (path : List At) (copies : Copies) (hidden : List ℕ) (j from until : ℕ) (a b : List Stamped) → AllIn path copies hidden j from until a → AllIn path copies hidden j from until b → AllIn path copies hidden j from until (a ++ b)
  in_append path copies hidden j from until [] b h k = k
  in_append path copies hidden j from until (x ∷ a) b h k = (h.0, in_append path copies hidden j from until a b h.1 k)

  pub in_later : (path : List At) (copies : Copies) (hidden : List ℕ) (j from until by : ℕ) (es : List Stamped) → AllIn path copies hidden j from until es → AllIn path copies hidden j from until (later by es)
  in_later path copies hidden j from until by [] h = tt
  in_later path copies hidden j from until by (e ∷ es) h = (h.0, in_later path copies hidden j from until by es h.1)

  -- what happens in a node inside of another one, happens in that
  module _ (path : List At) (a : At) (copies inner_copies : Copies) (hidden inner_hidden : List ℕ) (j from until inner_from inner_until inner_j : ℕ) (at : a.node ≡ j) (low : from ≤ inner_from) (high : inner_until ≤ until)
      (more : (m : ℕ) → is_among m inner_hidden ≡ true → is_among m hidden ≡ true) (same : (m : ℕ) → is_among m hidden ≡ false → inner_copies m ≡ copies m) where
    not_inside : (m : ℕ) → is_among m hidden ≡ false → is_among m inner_hidden ≡ false
    not_inside m e = go (is_among m inner_hidden) refl
      where
        go : (b : Bool) → is_among m inner_hidden ≡ b → is_among m inner_hidden ≡ false
        go true q = absurd (true≢false (sym (more m q) ∙ e))
        go false q = q

    moment_out : (copy : ℕ) (m : Moment) → IsMomentIn (path ++ a ∷ []) inner_copies inner_hidden inner_j inner_from inner_until copy m → IsMomentIn path copies hidden j from until copy m
    moment_out copy (touches e) h = record {
      rest = a ∷ h.rest;
      path_is = h.path_is ∙ append_assoc path (a ∷ []) h.rest;
      begins = at;
      from_on = let x : inner_from ≤ e.number = h.from_on in omega arith;
      below = let x : e.number < inner_until = h.below in omega arith;
      named = h.named;
      copied = λ q. h.copied (not_inside e.mem q) ∙ same e.mem q;
    }
    moment_out copy (slices s) h = tt
    moment_out copy (renews m) h = more m h
    moment_out copy (keeps m w) h = more m h

    pub out : (es : List Stamped) → AllIn (path ++ a ∷ []) inner_copies inner_hidden inner_j inner_from inner_until es → AllIn path copies hidden j from until es
    out [] h = tt
    out (e ∷ es) h = (moment_out e.copy e.moment h.0, out es h.1)

  -- operations at a place
  module _ (path rest : List At) (copies : Copies) (hidden : List ℕ) (j from until : ℕ) (st : Standing) (there : st.path ≡ path ++ rest) (begins : BeginsAt j rest) where
    -- moments of one cycle
    abbrev MomentsIn : List Moment → Type 0
    MomentsIn ms = Each (λ m. IsMomentIn path copies hidden j from until (copy_of copies m) m) ms

    moments_append : (a b : List Moment) → MomentsIn a → MomentsIn b → MomentsIn (a ++ b)
    moments_append [] b h k = k
    moments_append (x ∷ a) b h k = (h.0, moments_append a b h.1 k)

    pub in_stamped : (cycle : ℕ) (ms : List Moment) → MomentsIn ms → AllIn path copies hidden j from until (stamped copies cycle ms)
    in_stamped cycle [] h = tt
    in_stamped cycle (m ∷ ms) h = (h.0, in_stamped cycle ms h.1)

    pub event_in : (n m : ℕ) (is : List ℕ) (act : Act) → from ≤ n → n < until → is_among m (names_at core n) ≡ true → IsMomentIn path copies hidden j from until (copies m) (touches (record { number = n; standing = st; mem = m; indices = is; act = act }))
    event_in n m is act l u named = record { rest = rest; path_is = there; begins = begins; from_on = l; below = u; named = named; copied = λ q. refl }

    entry_in : (n : ℕ) (kind : OpKind) (m : Option ℕ) (e : Entry) → from ≤ n → n < until → names_at core n ≡ named_by m → MomentsIn (entry_moments n st kind m e)
    entry_in n kind m left_out l u named = tt
    entry_in n kind m (gave w) l u named = tt
    entry_in n kind m (touched is w) l u named = go m (act_of kind w) named
      where
        go : (m : Option ℕ) (act : Option Act) → names_at core n ≡ named_by m → MomentsIn (event_of n st m is act)
        go None act q = tt
        go (Some m) None q = tt
        go (Some m) (Some act) q = (event_in n m is act l u (ap (is_among m) q ∙ or_left (m == m) false (eq-eqb m m refl)), tt)

    pub list_in : (n : ℕ) (ops : List PlainOp) (es : List Entry) → from ≤ n → n + length ops ≤ until → StandAt core n (list_names ops) → MomentsIn (list_moments n st ops es)
    list_in n (op ∷ ops) (e ∷ es) l u named =
        moments_append (entry_moments n st op.kind op.mem e) (list_moments (suc n) st ops es) (entry_in n op.kind op.mem e l (omega arith) (stand_head n (named_by op.mem) (list_names ops) named))
        (list_in (suc n) ops es (omega arith) (omega arith) (stand_tail n (named_by op.mem) (list_names ops) named))
    list_in n [] es l u named = tt
    list_in n (op ∷ ops) [] l u named = tt

    pub stamped_list_in : (f : ℕ → ℕ) (i n : ℕ) (ops : List PlainOp) (es : List Entry) → from ≤ n → n + length ops ≤ until → StandAt core n (list_names ops) → AllIn path copies hidden j from until (list_stamped copies f i n st ops es)
    stamped_list_in f i n (op ∷ ops) (e ∷ es) l u named =
        in_append path copies hidden j from until (stamped copies (f i) (entry_moments n st op.kind op.mem e)) (list_stamped copies f (suc i) (suc n) st ops es)
        (in_stamped (f i) (entry_moments n st op.kind op.mem e) (entry_in n op.kind op.mem e l (omega arith) (stand_head n (named_by op.mem) (list_names ops) named)))
        (stamped_list_in f (suc i) (suc n) ops es (omega arith) (omega arith) (stand_tail n (named_by op.mem) (list_names ops) named))
    stamped_list_in f i n [] es l u named = tt
    stamped_list_in f i n (op ∷ ops) [] l u named = tt

    two_in : (n : ℕ) (a b : List PlainOp) (es fs : List Entry) → from ≤ n → n + (length a + length b) ≤ until → StandAt core n (list_names a ++ list_names b) → MomentsIn (list_moments n st a es ++ list_moments (n + length a) st b fs)
    two_in n a b es fs l u named =
        moments_append (list_moments n st a es) (list_moments (n + length a) st b fs) (list_in n a es l (omega arith) (stand_left n (list_names a) (list_names b) named))
        (list_in (n + length a) b fs (omega arith) (omega arith) (stand_right n (n + length a) (list_names a) (list_names b) (ap (λ x. n + x) (list_length a)) named))

    pub bounds_in : (n : ℕ) (counters : List PlainCounter) (bs : List Bounds) → from ≤ n → n + counters_size counters ≤ until → StandAt core n (counters_names counters) → MomentsIn (bounds_moments n st counters bs)
    bounds_in n (c ∷ counters) (b ∷ bs) l u named =
        moments_append (list_moments n st c.from b.from ++ list_moments (n + length c.from) st c.until b.until) (bounds_moments (n + (length c.from + length c.until)) st counters bs)
        (two_in n c.from c.until b.from b.until l (omega arith) (stand_left n (list_names c.from ++ list_names c.until) (counters_names counters) named))
        (bounds_in (n + (length c.from + length c.until)) counters bs (omega arith) (omega arith)
        (stand_right n (n + (length c.from + length c.until)) (list_names c.from ++ list_names c.until) (counters_names counters) (ap (λ x. n + x) (two_length c.from c.until)) named))
    bounds_in n [] bs l u named = tt
    bounds_in n (c ∷ counters) [] l u named = tt

    pub spans_in : (n : ℕ) (spans : List PlainSpan) (taken : List Taken) → from ≤ n → n + spans_size spans ≤ until → StandAt core n (spans_names spans) → MomentsIn (spans_moments n st spans taken)
    spans_in n (single ops ∷ spans) (one es ∷ taken) l u named =
        moments_append (list_moments n st ops es) (spans_moments (n + length ops) st spans taken) (list_in n ops es l (omega arith) (stand_left n (list_names ops) (spans_names spans) named))
        (spans_in (n + length ops) spans taken (omega arith) (omega arith) (stand_right n (n + length ops) (list_names ops) (spans_names spans) (ap (λ x. n + x) (list_length ops)) named))
    spans_in n (range a b ∷ spans) (both es fs ∷ taken) l u named =
        moments_append (list_moments n st a es ++ list_moments (n + length a) st b fs) (spans_moments (n + (length a + length b)) st spans taken)
        (two_in n a b es fs l (omega arith) (stand_left n (list_names a ++ list_names b) (spans_names spans) named))
        (spans_in (n + (length a + length b)) spans taken (omega arith) (omega arith)
        (stand_right n (n + (length a + length b)) (list_names a ++ list_names b) (spans_names spans) (ap (λ x. n + x) (two_length a b)) named))
    spans_in n [] taken l u named = tt
    spans_in n (single ops ∷ spans) [] l u named = tt
    spans_in n (single ops ∷ spans) (both es fs ∷ taken) l u named = tt
    spans_in n (range a b ∷ spans) [] l u named = tt
    spans_in n (range a b ∷ spans) (one es ∷ taken) l u named = tt
