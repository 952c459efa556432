-- The words of a slice, as targets of its spot.
use Rattle.std.proofs.Common.{◌≡◌, ℕ, zero, suc, ◌+◌, ◌-◌, ◌<◌, ◌≤◌, Bool, true, false, ◌&&◌, ℤ, pos, ◌+ℤ◌, List, [], ◌∷◌, ◌++◌, length, length-append, map, flat_map, drop, replicate, Option, Some, None, refl, sym, ap, ◌∙◌, subst, arith, if◌then◌else◌}
use Rattle.std.specs.Prelude.{IfSome, int_le, option_map, nat_lt, ◌==◌}
use Rattle.std.specs.List.{Contains}
use Rattle.std.specs.Ordering.{int_eq}
use Rattle.std.proofs.lemmas.Bool.{and_parts, and_from, eqb-true, false≢true}
use Rattle.std.proofs.lemmas.List.Elements.{All-nil, All-cons, All-head, All-tail}
use Rattle.sp_words.specs.declared.kind.Kind.TheVariants.{Sram, LineBuf, Dram}
use Rattle.sp_words.specs.Memory.{Contents}
use Rattle.sp_affine.specs.Affine.{Affine, dot, value_of, symbol_value}
use Rattle.sp_core.specs.Accesses.{word_in}
use Rattle.sp_core.specs.Declarations.{mem, dram, kind_of, dims, dram_number}
use Rattle.sp_core.specs.Elements.{numbers_below, tuples, is_below}
use Rattle.sp_core.specs.Events.{Act, reads, writes, puts, takes, resets, turns, Standing, Event, Moment, touches, first_of}
use Rattle.sp_core.specs.Forms.{PlainForms, symbol_in, held_word, are_indices, are_known_indices, form_at, are_within, holds_of_slice}
use Rattle.sp_core.specs.Meeting.{changes}
use Rattle.sp_core.specs.Numbered.{range_number}
use Rattle.sp_core.specs.PlainCore.{PlainSpan, single, range, PlainCore}
use Rattle.sp_core.specs.Replay.{after_act, after_moment, after_all}
use Rattle.sp_core.specs.Store.{Store, hold}
use Rattle.sp_core.specs.Transfers.{Part, index, between, lengths, are_parts_inside, places_of}
use Rattle.sp_deps.specs.declared.access.LoopRange.{LoopRange}
use Rattle.sp_deps.specs.Groups.{HaveValues, HaveLength}
use Rattle.sp_forms_hold.specs.HoldLaws.{slice_of}
use Rattle.sp_patterns.specs.Patterns.{patterns_of}
use Rattle.sp_meets.specs.declared.spot.Places.TheVariants.{Slice, Anywhere}
use Rattle.sp_meets.specs.Around.{PlainLevel}
use Rattle.sp_meets.specs.Sites.{counters_of, own_counters, indices_by, slice_indices, counter_indices}
use Rattle.sp_meets.specs.Spots.{PlainSpot, are_ranges, range_sizes, slice_places, slice_spot, spots}
use Rattle.sp_along.specs.AlongSymbols.{holds_symbol, EachIn}
use Rattle.sp_touched.specs.Touched.{AreSteps, IsInside, IsOfSymbol, AreSymbols, IsTouched, Touches}
use Rattle.sp_touched.proofs.OfSymbols.{RowHas, slice_row, counter_symbols, its_symbols}
use Rattle.sp_touched.proofs.SliceForms.{AreParts, length_inside, places_inside, offsets_inside, below_length, slice_indices_are, slice_length}
use Rattle.sp_touched.proofs.Slots.{AreBelow, AreUpTo, own_have, zeros_have, own_length, own_indices, unit_length, replicate_length}

pub have_length : (ls : List LoopRange) (vs : List ℤ) → HaveValues ls vs → length ls ≡ length vs
have_length [] [] h = refl
have_length [] (v ∷ vs) h = absurd h
have_length (l ∷ ls) [] h = absurd h
have_length (l ∷ ls) (v ∷ vs) h = ap suc (have_length ls vs h.1)

up_length : (ns ds : List ℕ) → AreUpTo ns ds → length ns ≡ length ds
up_length [] [] h = refl
up_length [] (d ∷ ds) h = absurd h
up_length (n ∷ ns) [] h = absurd h
up_length (n ∷ ns) (d ∷ ds) h = ap suc (up_length ns ds h.1)

-- every offset of a slice is below its lengths
abbrev pub Each : {A : Type 0} → (A → Type 0) → List A → Type 0
Each P [] = Unit {0}
Each P (x ∷ xs) = P x × Each P xs

each_append : {A : Type 0} (P : A → Type 0) (a b : List A) → Each P a → Each P b → Each P (a ++ b)
each_append P [] b h k = k
each_append P (x ∷ a) b h k = (h.0, each_append P a b h.1 k)

each_number : (n d : ℕ) → n ≤ d → Each (λ k. k < d) (numbers_below n)
each_number zero d l = tt
each_number (suc n) d l = each_append (λ k. k < d) (numbers_below n) (n ∷ []) (each_number n d (omega arith)) (omega arith, tt)

one_below : (d : ℕ) (ds : List ℕ) (j : ℕ) → j < d → (ts : List (List ℕ)) → Each (AreBelow ds) ts → Each (AreBelow (d ∷ ds)) (map (λ others. j ∷ others) ts)
one_below d ds j l [] e = tt
one_below d ds j l (t ∷ ts) e = ((l, e.0), one_below d ds j l ts e.1)

all_below : (d : ℕ) (ds : List ℕ) (ts : List (List ℕ)) → Each (AreBelow ds) ts → (js : List ℕ) → Each (λ j. j < d) js → Each (AreBelow (d ∷ ds)) (flat_map (λ j. map (λ others. j ∷ others) ts) js)
all_below d ds ts h [] e = tt
all_below d ds ts h (j ∷ js) e = each_append (AreBelow (d ∷ ds)) (map (λ others. j ∷ others) ts) (flat_map (λ j. map (λ others. j ∷ others) ts) js) (one_below d ds j e.0 ts h) (all_below d ds ts h js e.1)

pub tuples_below : (ds : List ℕ) → Each (AreBelow ds) (tuples (map numbers_below ds))
tuples_below [] = (tt, tt)
tuples_below (d ∷ ds) = all_below d ds (tuples (map numbers_below ds)) (tuples_below ds) (numbers_below d) (each_number d d (omega arith))

-- the lengths of a slice that is inside
lengths_up : (spans : List PlainSpan) (parts : List Part) (ds : List ℕ) → AreParts (are_ranges spans) parts → are_parts_inside ds parts ≡ true → AreUpTo (lengths parts) (range_sizes spans ds)
lengths_up [] [] ds a p = tt
lengths_up [] (x ∷ parts) ds a p = absurd a
lengths_up (single ops ∷ spans) [] ds a p = absurd a
lengths_up (range f u ∷ spans) [] ds a p = absurd a
lengths_up (single ops ∷ spans) (between x y ∷ parts) ds a p = absurd a
lengths_up (range f u ∷ spans) (index i ∷ parts) ds a p = absurd a
lengths_up (single ops ∷ spans) (index i ∷ parts) [] a p = absurd (false≢true p)
lengths_up (range f u ∷ spans) (between x y ∷ parts) [] a p = absurd (false≢true p)
lengths_up (single ops ∷ spans) (index i ∷ parts) (d ∷ ds) a p = lengths_up spans parts ds a (and_parts (is_below i d) (are_parts_inside ds parts) p).1
lengths_up (range f u ∷ spans) (between x y ∷ parts) (d ∷ ds) a p =
    let q = and_parts (int_le (pos 0) x && int_le y (pos d)) (are_parts_inside ds parts) p in
    let r = and_parts (int_le (pos 0) x) (int_le y (pos d)) q.0 in
    (length_inside x y d r.0 r.1, lengths_up spans parts ds a q.1)

module _ (core : PlainCore) where
  abbrev forms : PlainForms
  forms = patterns_of core

  -- what symbols are is the same in two stores
  abbrev pub SameSymbols : Store → Store → Type 0
  SameSymbols s u = (x : ℕ) → holds_symbol (kind_of core x) ≡ true → u x ≡ s x

  same_symbol : (s u : Store) (o : Option ℕ) → SameSymbols s u → IfSome o (λ m. holds_symbol (kind_of core m) ≡ true) → symbol_value o (symbol_in core forms s) ≡ symbol_value o (symbol_in core forms u)
  same_symbol s u None same h = refl
  same_symbol s u (Some x) same h = ap (λ (c : Option Contents). held_word core forms (word_in (kind_of core x) (dims core x) [] c)) (sym (same x h))

  same_indices : (s u : Store) (fs : List Affine) (is counters : List ℤ) → SameSymbols s u → AreSymbols core fs → are_indices core forms fs is counters (symbol_in core forms s) ≡ true → are_indices core forms fs is counters (symbol_in core forms u) ≡ true
  same_indices s u [] [] counters same h e = refl
  same_indices s u [] (i ∷ is) counters same h e = absurd (false≢true e)
  same_indices s u (f ∷ fs) [] counters same h e = absurd (false≢true e)
  same_indices s u (f ∷ fs) (i ∷ is) counters same h e =
      let a = and_parts (int_eq (value_of f counters (symbol_in core forms s)) i) (are_indices core forms fs is counters (symbol_in core forms s)) e in
      and_from (int_eq (value_of f counters (symbol_in core forms u)) i) (are_indices core forms fs is counters (symbol_in core forms u))
      (subst (λ z. int_eq ((dot f.coefs counters +ℤ f.constant) +ℤ z) i ≡ true) (same_symbol s u f.symbol same (All-head (IsOfSymbol core) f fs h)) a.0)
      (same_indices s u fs is counters same (All-tail (IsOfSymbol core) f fs h) a.1)

  pub same_known : (s u : Store) (row : Option (List Affine)) (is counters : List ℤ) → SameSymbols s u → RowHas core row → are_known_indices core forms row is counters (symbol_in core forms s) ≡ true → are_known_indices core forms row is counters (symbol_in core forms u) ≡ true
  same_known s u None is counters same h e = refl
  same_known s u (Some fs) is counters same h e = same_indices s u fs is counters same h e

  -- another memory keeps them
  held_elsewhere : (m : ℕ) (c : Contents) (s u : Store) → holds_symbol (kind_of core m) ≡ false → SameSymbols s u → SameSymbols s (hold u m c)
  held_elsewhere m c s u not_symbol same x h = go (x == m) refl
    where
      go : (b : Bool) → (x == m) ≡ b → elim b as (λ _. Option Contents) [ true ↦ Some c | false ↦ u x ] ≡ s x
      go true e = absurd (false≢true (sym not_symbol ∙ ap (λ k. holds_symbol (kind_of core k)) (sym (eqb-true x m e)) ∙ h))
      go false e = same x h

  pub touched_elsewhere : (e : Event) (s u : Store) → holds_symbol (kind_of core e.mem) ≡ false → SameSymbols s u → SameSymbols s (after_moment core (touches e) u)
  touched_elsewhere e s u n same = go e.act
    where
      go : (a : Act) → SameSymbols s (after_act core e.mem e.indices a u)
      go (reads w) = same
      go (writes w) = held_elsewhere e.mem _ s u n same
      go (puts w) = held_elsewhere e.mem _ s u n same
      go (takes w) = held_elsewhere e.mem _ s u n same
      go resets = held_elsewhere e.mem _ s u n same
      go turns = held_elsewhere e.mem _ s u n same

  pub each_both : (ms ns : List Moment) (s : Store) → EachIn core (Touches core) s ms → EachIn core (Touches core) (after_all core ms s) ns → EachIn core (Touches core) s (ms ++ ns)
  each_both [] ns s h k = k
  each_both (m ∷ ms) ns s h k = (h.0, each_both ms ns (after_moment core m s) h.1 k)

  -- a DRAM
  not_less : (n r : ℕ) → nat_lt (n + r) n ≡ false
  not_less n r = grind arith

  back : (n r : ℕ) → (n + r) - n ≡ r
  back n r = omega arith

  pub dram_kind : (r : ℕ) → kind_of core (dram_number core r) ≡ Dram
  dram_kind r = ap (λ b. if b then (mem core (dram_number core r)).kind else Dram) (not_less (length core.mems) r)

  pub dram_dims : (r : ℕ) → dims core (dram_number core r) ≡ (dram core r).dims
  dram_dims r =
      ap (λ b. if b then (mem core (dram_number core r)).dims else (dram core (dram_number core r - length core.mems)).dims) (not_less (length core.mems) r)
      ∙ ap (λ k. (dram core k).dims) (back (length core.mems) r)

  module _ (path : List PlainLevel) (st : Standing) (n : ℕ) (values : HaveValues (counters_of path) st.counters) (go_on : AreSteps (counters_of path)) (loads : Bool) (r m : ℕ) (spans : List PlainSpan)
      (has : Contains (spots core) (slice_spot core path n loads r m spans)) (parts : List Part) (s : Store) (row_symbols : RowHas core (form_at core forms n)) (row_length : HaveLength (length (counters_of path)) (form_at core forms n))
      (holds : holds_of_slice core forms (slice_of n st parts) s ≡ true) (aligned : AreParts (are_ranges spans) parts) (there : are_parts_inside (dims core (dram_number core r)) parts ≡ true) where
    abbrev sizes : List ℕ
    sizes = range_sizes spans (dram core r).dims

    abbrev spot : PlainSpot
    spot = slice_spot core path n loads r m spans

    firsts : are_known_indices core forms (form_at core forms n) (map first_of parts) st.counters (symbol_in core forms s) ≡ true
    firsts = (and_parts (are_known_indices core forms (form_at core forms n) (map first_of parts) st.counters (symbol_in core forms s)) (are_within core forms (range_number core n) (lengths parts)) holds).0

    within : are_within core forms (range_number core n) (lengths parts) ≡ true
    within = (and_parts (are_known_indices core forms (form_at core forms n) (map first_of parts) st.counters (symbol_in core forms s)) (are_within core forms (range_number core n) (lengths parts)) holds).1

    inside_dims : are_parts_inside (dram core r).dims parts ≡ true
    inside_dims = subst (λ ds. are_parts_inside ds parts ≡ true) (dram_dims r) there

    up_to : AreUpTo (lengths parts) sizes
    up_to = lengths_up spans parts (dram core r).dims aligned inside_dims

    offset_length : (o : List ℕ) → AreBelow (lengths parts) o → length o ≡ length sizes
    offset_length o b = below_length (lengths parts) o b ∙ up_length (lengths parts) sizes up_to

    size : length (counters_of path) ≡ length st.counters
    size = have_length (counters_of path) st.counters values

    abbrev event_of : ℕ → List ℕ → Act → Event
    event_of k is act = record { number = n; standing = st; mem = k; indices = is; act = act }

    abbrev own_lens : List (Option ℕ)
    own_lens = drop (range_number core n) forms.lengths

    pub dram_touched : (o : List ℕ) → AreBelow (lengths parts) o → (act : Act) → (changes act ≡ true → loads ≡ false) → (u : Store) → SameSymbols s u → IsTouched core u (event_of (dram_number core r) (places_of parts o) act)
    dram_touched o below act when u same =
        let row = form_at core forms n in
        record {
          spot = spot;
          has = has;
          is_number = refl;
          values = values;
          go_on = go_on;
          target = record { mem = dram_number core r; writes = if loads then false else true; places = Slice; sizes = sizes };
          has_target = (0, omega arith, refl);
          is_mem = refl;
          writes = λ e. ap (λ b. if b then false else true) (when e);
          own = map pos o;
          own_values = own_have core forms (range_number core n) sizes (lengths parts) o up_to within below;
          lengths = subst (λ k. HaveLength (length (counters_of path) + k) (option_map (slice_indices (length sizes) 0 (are_ranges spans)) row)) (sym (own_length own_lens sizes)) (slice_length (length (counters_of path)) (length sizes) (are_ranges spans) row row_length);
          forms = subst (λ k. are_known_indices core forms (option_map (slice_indices k 0 (are_ranges spans)) row) (map pos (places_of parts o)) (st.counters ++ map pos o) (symbol_in core forms u) ≡ true) (offset_length o below)
              (slice_indices_are core forms st.counters (symbol_in core forms u) (are_ranges spans) parts row o (dram core r).dims aligned (subst (λ k. HaveLength k row) size row_length) (same_known s u row (map first_of parts) st.counters same row_symbols firsts) inside_dims below);
          symbols = its_symbols core (option_map (slice_indices (length sizes) 0 (are_ranges spans)) row) (slice_row core (length sizes) (are_ranges spans) row row_symbols);
          inside = λ fs e. subst (λ k. IsInside k (dims core (dram_number core r)) (places_of parts o) act) (sym (dram_kind r)) (places_inside (dims core (dram_number core r)) parts o there below);
        }

    counters_long : (a k last : ℕ) → HaveLength (a + k) (Some (counter_indices a k last))
    counters_long a k zero = All-nil (λ f. length f.coefs ≡ a + k)
    counters_long a k (suc last) = All-cons (λ f. length f.coefs ≡ a + k) _ (counter_indices a k last) (let x = replicate_length a (pos 0) in let y = unit_length k (k - suc last) in length-append (replicate a (pos 0)) _ ∙ omega (arith, x, y)) (counters_long a k last)

    -- the words of an SRAM
    pub sram_touched : kind_of core m ≡ Sram → AreUpTo (lengths parts) (dims core m) → (o : List ℕ) → AreBelow (lengths parts) o → (act : Act) → (changes act ≡ true → loads ≡ true) → (u : Store) → IsTouched core u (event_of m o act)
    sram_touched sram fit o below act when u =
        let k = length sizes in
        let a = length (counters_of path) in
        record {
          spot = spot;
          has = has;
          is_number = refl;
          values = values;
          go_on = go_on;
          target = record { mem = m; writes = loads; places = slice_places (kind_of core m); sizes = sizes };
          has_target = (1, omega arith, refl);
          is_mem = refl;
          writes = when;
          own = map pos o;
          own_values = own_have core forms (range_number core n) sizes (lengths parts) o up_to within below;
          lengths = subst (λ z. HaveLength (a + length (own_counters own_lens sizes)) (indices_by (are_ranges spans) a (form_at core forms n) (slice_places z) k)) (sym sram) (subst (λ j. HaveLength (a + j) (Some (counter_indices a k k))) (sym (own_length own_lens sizes)) (counters_long a k k));
          forms = subst (λ z. are_known_indices core forms (indices_by (are_ranges spans) a (form_at core forms n) (slice_places z) k) (map pos o) (st.counters ++ map pos o) (symbol_in core forms u) ≡ true) (sym sram)
              (subst (λ j. are_indices core forms (counter_indices a j j) (map pos o) (st.counters ++ map pos o) (symbol_in core forms u) ≡ true) (offset_length o below) (own_indices core forms st.counters (symbol_in core forms u) a o size));
          symbols = its_symbols core (indices_by (are_ranges spans) a (form_at core forms n) (slice_places (kind_of core m)) k) (subst (λ z. RowHas core (indices_by (are_ranges spans) a (form_at core forms n) (slice_places z) k)) (sym sram) (counter_symbols core a k k));
          inside = λ fs e. subst (λ z. IsInside z (dims core m) o act) (sym sram) (offsets_inside (dims core m) (lengths parts) o fit below);
        }

    -- a line buffer as a whole
    pub line_touched : kind_of core m ≡ LineBuf → (is : List ℕ) (act : Act) → (changes act ≡ true → loads ≡ true) → (u : Store) → IsTouched core u (event_of m is act)
    line_touched line is act when u =
        let a = length (counters_of path) in
        let unknown : slice_places (kind_of core m) ≡ Anywhere = ap slice_places line in
        record {
          spot = spot;
          has = has;
          is_number = refl;
          values = values;
          go_on = go_on;
          target = record { mem = m; writes = loads; places = slice_places (kind_of core m); sizes = sizes };
          has_target = (1, omega arith, refl);
          is_mem = refl;
          writes = when;
          own = replicate (length sizes) (pos 0);
          own_values = zeros_have own_lens sizes;
          lengths = subst (λ z. HaveLength (a + length (own_counters own_lens sizes)) (indices_by (are_ranges spans) a (form_at core forms n) (slice_places z) (length sizes))) (sym line) tt;
          forms = subst (λ z. are_known_indices core forms (indices_by (are_ranges spans) a (form_at core forms n) (slice_places z) (length sizes)) (map pos is) (st.counters ++ replicate (length sizes) (pos 0)) (symbol_in core forms u) ≡ true) (sym line) refl;
          symbols = its_symbols core (indices_by (are_ranges spans) a (form_at core forms n) (slice_places (kind_of core m)) (length sizes)) (subst (λ z. RowHas core (indices_by (are_ranges spans) a (form_at core forms n) (slice_places z) (length sizes))) (sym line) tt);
          inside = λ fs e. absurd (no_forms fs (sym (ap (λ z. indices_by (are_ranges spans) a (form_at core forms n) (slice_places z) (length sizes)) line) ∙ e));
        }
      where
        no_forms : (fs : List Affine) → None ≡ Some fs → ⊥
        no_forms fs e = cc
