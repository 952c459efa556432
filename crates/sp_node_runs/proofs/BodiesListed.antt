-- What a list of operations did, as moments of a timeline.
use Rattle.std.proofs.Common.{◌≡◌, ℕ, zero, suc, ◌+◌, ◌<◌, ◌≤◌, ◌⊎◌, inl, inr, List, [], ◌∷◌, ◌++◌, map, length, slice_index_or, Option, Some, None, refl, sym, ap, subst, ◌∙◌, arith}
use Rattle.std.specs.List.{Contains}
use Rattle.std.specs.Prelude.{flat_map}
use Rattle.std.proofs.lemmas.List.Elements.{Contains-append_left, Contains-append_right, Contains-append_cases}
use Rattle.sp_core.specs.declared.operation.OpKind.{OpKind}
use Rattle.sp_core.specs.Events.{Standing, Event, Moment, touches, slices, renews, keeps, Act, act_of, event_of, entry_moments, list_moments, bounds_moments}
use Rattle.sp_core.specs.History.{Entry, left_out, gave, touched, Bounds}
use Rattle.sp_core.specs.Numbering.{counters_size}
use Rattle.sp_core.specs.PlainCore.{PlainOp, PlainCounter}
use Rattle.sp_time.specs.Lists.{Each}
use Rattle.sp_machine.specs.Stamps.{Stamped, Copies, stamp, stamped, list_stamped}
use Rattle.sp_part_runs.specs.ActsEntries.{IsOpAt, entry_at}

-- membership
pub here : {A : Type 0} (x : A) (xs : List A) → Contains (x ∷ xs) x
here x xs = (zero, omega arith, refl)

pub there : {A : Type 0} (x y : A) (xs : List A) → Contains xs y → Contains (x ∷ xs) y
there x y xs (k, l, e) = (suc k, omega (arith, l), e)

pub none_there : {A : Type 0} (x : A) → Contains [] x → ⊥
none_there x (k, l, e) = absurd (omega (arith, l))

pub first_or_later : {A : Type 0} (x y : A) (xs : List A) → Contains (x ∷ xs) y → (x ≡ y) ⊎ Contains xs y
first_or_later x y xs (zero, l, e) = inl e
first_or_later x y xs (suc k, l, e) = inr (k, omega (arith, l), e)

pub mapped_to : {A B : Type 0} (f : A → B) (xs : List A) (x : A) → Contains xs x → Contains (map f xs) (f x)
mapped_to f [] x c = absurd (none_there x c)
mapped_to f (y ∷ xs) x (zero, l, e) = (zero, omega arith, ap f e)
mapped_to f (y ∷ xs) x (suc k, l, e) = there (f y) (f x) (map f xs) (mapped_to f xs x (k, omega (arith, l), e))

pub mapped_from : {A B : Type 0} (f : A → B) (xs : List A) (y : B) → Contains (map f xs) y → (x : A) × Contains xs x × (f x ≡ y)
mapped_from f [] y (i, l, e) = absurd (omega (arith, l))
mapped_from f (x ∷ xs) y (zero, l, e) = (x, here x xs, e)
mapped_from f (x ∷ xs) y (suc i, l, e) = let z = mapped_from f xs y (i, omega (arith, l), e) in (z.0, there x z.0 xs z.1, z.2)

pub joined_to : {A B : Type 0} (f : A → List B) (xs : List A) (x : A) (y : B) → Contains xs x → Contains (f x) y → Contains (flat_map f xs) y
joined_to f [] x y c d = absurd (none_there x c)
joined_to f (z ∷ xs) x y (zero, l, e) d = Contains-append_left (f z) (flat_map f xs) y (subst (λ w. Contains (f w) y) (sym e) d)
joined_to f (z ∷ xs) x y (suc k, l, e) d = Contains-append_right (f z) (flat_map f xs) y (joined_to f xs x y (k, omega (arith, l), e) d)

pub joined_from : {A B : Type 0} (f : A → List B) (xs : List A) (y : B) → Contains (flat_map f xs) y → (x : A) × Contains xs x × Contains (f x) y
joined_from f [] y c = absurd (none_there y c)
joined_from f (z ∷ xs) y c = by (Contains-append_cases (f z) (flat_map f xs) y c) (joined_from f xs y)
  where
    by : Contains (f z) y ⊎ Contains (flat_map f xs) y → (Contains (flat_map f xs) y → (x : _) × Contains xs x × Contains (f x) y) → (x : _) × Contains (z ∷ xs) x × Contains (f x) y
    by (inl d) rest = (z, here z xs, d)
    by (inr d) rest = let r = rest d in (r.0, there z r.0 xs r.1, r.2)

-- the operation at a place
pub op_at : (ops : List PlainOp) (k : ℕ) (other : PlainOp) → k < length ops → IsOpAt ops k (slice_index_or ops k other)
op_at [] k other l = absurd (omega (arith, l))
op_at (o ∷ ops) zero other l = record { within = l; is = λ x. refl }
op_at (o ∷ ops) (suc k) other l = let r = op_at ops k other (omega (arith, l)) in record { within = l; is = r.is }

-- the event of an operation
abbrev pub event_at : (cycle copy number : ℕ) → Standing → (mem : ℕ) → (indices : List ℕ) → Act → Stamped
event_at t c n st m is a = record { cycle = t; copy = c; moment = touches (record { number = n; standing = st; mem = m; indices = is; act = a }) }

-- an operation that touched its memory, by place
pub record WasListed (f : ℕ → ℕ) (i n : ℕ) (ops : List PlainOp) (es : List Entry) (t : ℕ) (e : Event) : Type 0 where
  pub place : ℕ
  pub op : PlainOp
  pub word : ℕ
  pub at : IsOpAt ops place op
  pub entry : entry_at es place ≡ touched e.indices word
  pub cycle : t ≡ f (i + place)
  pub number : e.number ≡ n + place
  pub act : act_of op.kind word ≡ Some e.act

module _ (copies : Copies) (st : Standing) where
  one_event : (t n : ℕ) (op : PlainOp) (entry : Entry) (is : List ℕ) (w m : ℕ) (a : Act) → entry ≡ touched is w → op.mem ≡ Some m → act_of op.kind w ≡ Some a → stamped copies t (entry_moments n st op.kind op.mem entry) ≡ event_at t (copies m) n st m is a ∷ []
  one_event t n op entry is w m a e f g =
      ap (λ x. stamped copies t (entry_moments n st op.kind op.mem x)) e ∙ ap (λ x. stamped copies t (event_of n st x is (act_of op.kind w))) f ∙ ap (λ x. stamped copies t (event_of n st (Some m) is x)) g

  pub list_has : (f : ℕ → ℕ) (i n : ℕ) (ops : List PlainOp) (es : List Entry) (k : ℕ) (op : PlainOp) (is : List ℕ) (w m : ℕ) (a : Act) → IsOpAt ops k op → k < length es → entry_at es k ≡ touched is w → op.mem ≡ Some m → act_of op.kind w ≡ Some a
      → Contains (list_stamped copies f i n st ops es) (event_at (f (i + k)) (copies m) (n + k) st m is a)
  list_has f i n [] es k op is w m a at l e g h = absurd (let x = at.within in omega (arith, x))
  list_has f i n (o ∷ ops) [] k op is w m a at l e g h = absurd (omega (arith, l))
  list_has f i n (o ∷ ops) (x ∷ es) zero op is w m a at l e g h =
      let same : o ≡ op = at.is o in
      let it = one_event (f i) n o x is w m a e (ap (λ (y : PlainOp). y.mem) same ∙ g) (ap (λ (y : PlainOp). act_of y.kind w) same ∙ h) in
      Contains-append_left (stamped copies (f i) (entry_moments n st o.kind o.mem x)) (list_stamped copies f (suc i) (suc n) st ops es) _
      (subst (λ xs. Contains xs (event_at (f (i + 0)) (copies m) (n + 0) st m is a)) (sym it)
      (subst (λ j. Contains (event_at (f i) (copies m) n st m is a ∷ []) (event_at (f j) (copies m) (n + 0) st m is a)) {x = i} {y = i + 0} (omega arith)
      (subst (λ j. Contains (event_at (f i) (copies m) n st m is a ∷ []) (event_at (f i) (copies m) j st m is a)) {x = n} {y = n + 0} (omega arith) (here (event_at (f i) (copies m) n st m is a) []))))
  list_has f i n (o ∷ ops) (x ∷ es) (suc k) op is w m a at l e g h =
      Contains-append_right (stamped copies (f i) (entry_moments n st o.kind o.mem x)) (list_stamped copies f (suc i) (suc n) st ops es) _
      (subst (λ j. Contains (list_stamped copies f (suc i) (suc n) st ops es) (event_at (f j) (copies m) (n + suc k) st m is a)) {x = suc i + k} {y = i + suc k} (omega arith)
      (subst (λ j. Contains (list_stamped copies f (suc i) (suc n) st ops es) (event_at (f (suc i + k)) (copies m) j st m is a)) {x = suc n + k} {y = n + suc k} (omega arith)
      (list_has f (suc i) (suc n) ops es k op is w m a (record { within = (let b = at.within in omega (arith, b)); is = at.is }) (omega (arith, l)) e g h)))

  -- and what stands there is such an event
  pub record IsSuch (t n : ℕ) (kind : OpKind) (entry : Entry) (u : ℕ) (e : Event) : Type 0 where
    pub word : ℕ
    pub entry_is : entry ≡ touched e.indices word
    pub cycle : u ≡ t
    pub number : e.number ≡ n
    pub act : act_of kind word ≡ Some e.act

  same_event : (x y : Event) → touches x ≡ touches y → x ≡ y
  same_event x y h = cc (h)

  from_event : (t n : ℕ) (kind : OpKind) (is : List ℕ) (w : ℕ) (m : Option ℕ) (a : Option Act) → act_of kind w ≡ a → (u c : ℕ) (e : Event) → Contains (stamped copies t (event_of n st m is a)) (record { cycle = u; copy = c; moment = touches e }) → IsSuch t n kind (touched is w) u e
  from_event t n kind is w None a h u c e x = absurd (none_there _ x)
  from_event t n kind is w (Some m) None h u c e x = absurd (none_there _ x)
  from_event t n kind is w (Some m) (Some a) h u c e x = by (first_or_later (event_at t (copies m) n st m is a) (record { cycle = u; copy = c; moment = touches e }) [] x)
    where
      by : (event_at t (copies m) n st m is a ≡ record { cycle = u; copy = c; moment = touches e }) ⊎ Contains {X = Stamped} [] (record { cycle = u; copy = c; moment = touches e }) → IsSuch t n kind (touched is w) u e
      by (inr y) = absurd (none_there _ y)
      by (inl y) =
          let same : record { number = n; standing = st; mem = m; indices = is; act = a } ≡ e = same_event _ e (ap (λ (z : Stamped). z.moment) y) in
          record {
            word = w;
            entry_is = ap (λ (z : Event). touched z.indices w) same;
            cycle = sym (ap (λ (z : Stamped). z.cycle) y);
            number = sym (ap (λ (z : Event). z.number) same);
            act = h ∙ ap (λ (z : Event). Some z.act) same;
          }

  from_entry : (t n : ℕ) (kind : OpKind) (m : Option ℕ) (entry : Entry) (u c : ℕ) (e : Event) → Contains (stamped copies t (entry_moments n st kind m entry)) (record { cycle = u; copy = c; moment = touches e }) → IsSuch t n kind entry u e
  from_entry t n kind m left_out u c e x = absurd (none_there _ x)
  from_entry t n kind m (gave w) u c e x = absurd (none_there _ x)
  from_entry t n kind m (touched is w) u c e x = from_event t n kind is w m (act_of kind w) refl u c e x

  pub list_from : (f : ℕ → ℕ) (i n : ℕ) (ops : List PlainOp) (es : List Entry) (u c : ℕ) (e : Event) → Contains (list_stamped copies f i n st ops es) (record { cycle = u; copy = c; moment = touches e }) → WasListed f i n ops es u e
  list_from f i n [] es u c e x = absurd (none_there _ x)
  list_from f i n (o ∷ ops) [] u c e x = absurd (none_there _ x)
  list_from f i n (o ∷ ops) (y ∷ es) u c e x = by (Contains-append_cases (stamped copies (f i) (entry_moments n st o.kind o.mem y)) (list_stamped copies f (suc i) (suc n) st ops es) _ x) (list_from f (suc i) (suc n) ops es u c e)
    where
      by : Contains (stamped copies (f i) (entry_moments n st o.kind o.mem y)) (record { cycle = u; copy = c; moment = touches e }) ⊎ Contains (list_stamped copies f (suc i) (suc n) st ops es) (record { cycle = u; copy = c; moment = touches e })
          → (Contains (list_stamped copies f (suc i) (suc n) st ops es) (record { cycle = u; copy = c; moment = touches e }) → WasListed f (suc i) (suc n) ops es u e) → WasListed f i n (o ∷ ops) (y ∷ es) u e
      by (inl z) rest =
          let s = from_entry (f i) n o.kind o.mem y u c e z in
          record {
            place = 0;
            op = o;
            word = s.word;
            at = record { within = omega arith; is = λ other. refl };
            entry = s.entry_is;
            cycle = s.cycle ∙ ap f {x = i} {y = i + 0} (omega arith);
            number = s.number ∙ (let q : n ≡ n + 0 = omega arith in q);
            act = s.act;
          }
      by (inr z) rest =
          let s = rest z in
          record {
            place = suc s.place;
            op = s.op;
            word = s.word;
            at = record { within = (let b = s.at.within in omega (arith, b)); is = s.at.is };
            entry = s.entry;
            cycle = s.cycle ∙ ap f {x = suc i + s.place} {y = i + suc s.place} (omega arith);
            number = s.number ∙ (let q : suc n + s.place ≡ n + suc s.place = omega arith in q);
            act = s.act;
          }

-- numbers of the events of bounds are below those of a body
abbrev pub IsBelow : ℕ → Moment → Type 0
IsBelow n (touches e) = e.number < n
IsBelow n m = Unit {0}

below_more : (a b : ℕ) → a ≤ b → (ms : List Moment) → Each (IsBelow a) ms → Each (IsBelow b) ms
below_more a b l [] h = tt
below_more a b l (touches e ∷ ms) h = ((let x = h.0 in omega (arith, x, l)), below_more a b l ms h.1)
below_more a b l (slices x ∷ ms) h = (tt, below_more a b l ms h.1)
below_more a b l (renews m ∷ ms) h = (tt, below_more a b l ms h.1)
below_more a b l (keeps m w ∷ ms) h = (tt, below_more a b l ms h.1)

pub below_both : (b : ℕ) (xs ys : List Moment) → Each (IsBelow b) xs → Each (IsBelow b) ys → Each (IsBelow b) (xs ++ ys)
below_both b [] ys h k = k
below_both b (x ∷ xs) ys h k = (h.0, below_both b xs ys h.1 k)

event_below : (n b : ℕ) (st : Standing) (m : Option ℕ) (is : List ℕ) (a : Option Act) → n < b → Each (IsBelow b) (event_of n st m is a)
event_below n b st None is a l = tt
event_below n b st (Some m) is None l = tt
event_below n b st (Some m) is (Some a) l = (l, tt)

entry_below : (n b : ℕ) (st : Standing) (kind : OpKind) (m : Option ℕ) (e : Entry) → n < b → Each (IsBelow b) (entry_moments n st kind m e)
entry_below n b st kind m left_out l = tt
entry_below n b st kind m (gave w) l = tt
entry_below n b st kind m (touched is w) l = event_below n b st m is (act_of kind w) l

list_below : (n b : ℕ) (st : Standing) (ops : List PlainOp) (es : List Entry) → n + length ops ≤ b → Each (IsBelow b) (list_moments n st ops es)
list_below n b st [] es l = tt
list_below n b st (o ∷ ops) [] l = tt
list_below n b st (o ∷ ops) (e ∷ es) l = below_both b (entry_moments n st o.kind o.mem e) (list_moments (suc n) st ops es) (entry_below n b st o.kind o.mem e (omega (arith, l))) (list_below (suc n) b st ops es (omega (arith, l)))

pub bounds_below : (n b : ℕ) (st : Standing) (counters : List PlainCounter) (bs : List Bounds) → n + counters_size counters ≤ b → Each (IsBelow b) (bounds_moments n st counters bs)
bounds_below n b st [] bs l = tt
bounds_below n b st (c ∷ counters) [] l = tt
bounds_below n b st (c ∷ counters) (x ∷ bs) l =
    below_both b (list_moments n st c.from x.from ++ list_moments (n + length c.from) st c.until x.until) (bounds_moments (n + (length c.from + length c.until)) st counters bs)
    (below_both b (list_moments n st c.from x.from) (list_moments (n + length c.from) st c.until x.until) (list_below n b st c.from x.from (omega (arith, l))) (list_below (n + length c.from) b st c.until x.until (omega (arith, l))))
    (bounds_below (n + (length c.from + length c.until)) b st counters bs (omega (arith, l)))

pub not_below : (copies : Copies) (t b : ℕ) (ms : List Moment) → Each (IsBelow b) ms → (u c : ℕ) (e : Event) → Contains (stamped copies t ms) (record { cycle = u; copy = c; moment = touches e }) → e.number < b
not_below copies t b [] h u c e x = absurd (none_there _ x)
not_below copies t b (m ∷ ms) h u c e x = by m h.0 (first_or_later (stamp copies t m) (record { cycle = u; copy = c; moment = touches e }) (stamped copies t ms) x) (not_below copies t b ms h.1 u c e)
  where
    by : (m : Moment) → IsBelow b m → (stamp copies t m ≡ record { cycle = u; copy = c; moment = touches e }) ⊎ Contains (stamped copies t ms) (record { cycle = u; copy = c; moment = touches e })
        → (Contains (stamped copies t ms) (record { cycle = u; copy = c; moment = touches e }) → e.number < b) → e.number < b
    by m l (inr y) rest = rest y
    by m l (inl y) rest = subst (IsBelow b) (ap (λ (z : Stamped). z.moment) y) l
