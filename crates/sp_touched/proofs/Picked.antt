-- The words of a gather and of a scatter, as targets of its spot.
use Rattle.std.proofs.Common.{◌≡◌, ℕ, zero, suc, ◌+◌, ◌<◌, ◌≤◌, Bool, true, false, pos, List, [], ◌∷◌, ◌++◌, length, length-append, replicate, append_assoc, Some, None, inl, inr, refl, sym, ap, ◌∙◌, subst, arith, if◌then◌else◌}
use Rattle.std.specs.Prelude.{slice_index_or}
use Rattle.std.specs.List.{Contains}
use Rattle.std.proofs.lemmas.Bool.{and_parts, ltb-true, cases_lt, false≢true}
use Rattle.std.proofs.lemmas.List.Elements.{All-nil, All-cons}
use Rattle.sp_words.specs.declared.kind.Kind.TheVariants.{Sram}
use Rattle.sp_core.specs.Declarations.{kind_of, dims, dram_number}
use Rattle.sp_core.specs.Elements.{index_value, natural, are_inside, is_below, numbers_below}
use Rattle.sp_core.specs.Events.{Act, reads, writes, Standing, Event, Moment, gather_moments, scatter_moments, picked_moments}
use Rattle.sp_core.specs.Forms.{PlainForms, symbol_in, are_within}
use Rattle.sp_core.specs.Meeting.{changes}
use Rattle.sp_core.specs.Numbered.{range_number}
use Rattle.sp_core.specs.PlainCore.{PlainCore}
use Rattle.sp_core.specs.Step.{Step, went, in_order}
use Rattle.sp_core.specs.Store.{Store}
use Rattle.sp_core.specs.Transfers.{has_place, place_at, gather_word, scatter_word}
use Rattle.sp_deps.specs.Groups.{HaveValues, HaveLength}
use Rattle.sp_hold.proofs.Steps.{bound, was_ensured}
use Rattle.sp_patterns.specs.Patterns.{patterns_of}
use Rattle.sp_meets.specs.declared.spot.Places.TheVariants.{Anywhere}
use Rattle.sp_meets.specs.Around.{PlainLevel}
use Rattle.sp_meets.specs.Sites.{counters_of, counter_indices}
use Rattle.sp_meets.specs.Spots.{pick_spot, word_target, spots}
use Rattle.sp_along.specs.AlongSymbols.{EachIn}
use Rattle.sp_touched.specs.Touched.{AreSteps, IsInside, IsTouched, Touches}
use Rattle.sp_touched.proofs.OfSymbols.{counter_symbols, its_symbols}
use Rattle.sp_touched.proofs.Slots.{one_has, own_indices, replicate_length, unit_length}
use Rattle.sp_touched.proofs.Words.{have_length}

-- a place in a memory of one dimension
one_dimension : (ds : List ℕ) (k : ℕ) → are_inside ds (pos k ∷ []) ≡ true → k < slice_index_or ds 0 1
one_dimension [] k h = absurd (false≢true h)
one_dimension (d ∷ []) k h = ltb-true k d (and_parts (is_below (pos k) d) true h).0
one_dimension (d ∷ e ∷ ds) k h = absurd (false≢true (and_parts (is_below (pos k) d) false h).1)

-- each step of a list of them went
record Went_so {A B : Type 0} (step : A → Step B) (x : A) : Type 0 where
  from : Store
  to : Store
  given : B
  so : step x from ≡ went given to

went_at : {A B : Type 0} (step : A → Step B) (xs ys : List A) (x : A) (s t : Store) (bs : List B) → in_order step (xs ++ x ∷ ys) s ≡ went bs t → Went_so step x
unfolding in_order
went_at step [] ys x s t bs e = let first = bound _ _ s bs t e in record { from = s; to = first.middle; given = first.value; so = first.first }
went_at step (y ∷ xs) ys x s t bs e = let first = bound _ _ s bs t e in let second = bound _ _ first.middle bs t first.later in went_at step xs ys x first.middle second.middle second.value second.first

-- a number stands among those below another one
record IsAmong (k n : ℕ) : Type 0 where
  front : List ℕ
  back : List ℕ
  is : numbers_below n ≡ front ++ k ∷ back

among : (n k : ℕ) → k < n → IsAmong k n
among zero k h = absurd (omega (arith, h))
among (suc n) k h = elim (cases_lt k n) [
  | inl l ↦ let a = among n k l in record { front = a.front; back = a.back ++ n ∷ []; is = ap (λ xs. xs ++ n ∷ []) a.is ∙ append_assoc a.front (k ∷ a.back) (n ∷ []) }
  | inr l ↦ let e : n ≡ k = omega (arith, l, h) in record { front = numbers_below n; back = []; is = ap (λ j. numbers_below n ++ j ∷ []) e }
]

module _ (core : PlainCore) where
  place_there : (m k : ℕ) (a : Unit {0}) (s t : Store) → has_place core m k s ≡ went a t → are_inside (dims core m) (pos k ∷ []) ≡ true
  place_there m k a s t e = (was_ensured (are_inside (dims core m) (pos k ∷ [])) a s t e).0

  -- a word of a gather and of a scatter stands inside of both memories
  abbrev pub AreBoth : ℕ → ℕ → ℕ → Type 0
  AreBoth m p k = (are_inside (dims core p) (pos k ∷ []) ≡ true) × (are_inside (dims core m) (pos k ∷ []) ≡ true)

  gathered_there : (r m p k : ℕ) → Went_so (gather_word core r m p) k → AreBoth m p k
  gathered_there r m p k w =
      let first = bound (place_at core r p k) _ w.from w.given w.to w.so in
      let place = bound (has_place core p k) _ w.from first.value first.middle first.first in
      let second = bound _ _ first.middle w.given w.to first.later in
      let third = bound (has_place core m k) _ second.middle w.given w.to second.later in
      (place_there p k place.value w.from place.middle place.first, place_there m k third.value second.middle third.middle third.first)

  scattered_there : (r m p k : ℕ) → Went_so (scatter_word core r m p) k → AreBoth m p k
  scattered_there r m p k w =
      let first = bound (place_at core r p k) _ w.from w.given w.to w.so in
      let place = bound (has_place core p k) _ w.from first.value first.middle first.first in
      let second = bound (has_place core m k) _ first.middle w.given w.to first.later in
      (place_there p k place.value w.from place.middle place.first, place_there m k second.value first.middle second.middle second.first)

  pub all_gathered_there : (r m p many : ℕ) (s t : Store) (ws : List (ℕ × ℕ)) → in_order (gather_word core r m p) (numbers_below many) s ≡ went ws t → (k : ℕ) → k < many → AreBoth m p k
  all_gathered_there r m p many s t ws e k less =
      let a = among many k less in
      gathered_there r m p k (went_at (gather_word core r m p) a.front a.back k s t ws (subst (λ xs. in_order (gather_word core r m p) xs s ≡ went ws t) a.is e))

  pub all_scattered_there : (r m p many : ℕ) (s t : Store) (ws : List (ℕ × ℕ)) → in_order (scatter_word core r m p) (numbers_below many) s ≡ went ws t → (k : ℕ) → k < many → AreBoth m p k
  all_scattered_there r m p many s t ws e k less =
      let a = among many k less in
      scattered_there r m p k (went_at (scatter_word core r m p) a.front a.back k s t ws (subst (λ xs. in_order (scatter_word core r m p) xs s ≡ went ws t) a.is e))

  abbrev forms : PlainForms
  forms = patterns_of core

  module _ (path : List PlainLevel) (st : Standing) (n : ℕ) (values : HaveValues (counters_of path) st.counters) (go_on : AreSteps (counters_of path)) (gathers : Bool) (r m p : ℕ) (has : Contains (spots core) (pick_spot core path n gathers r m (Some p)))
      (many : ℕ) (within : are_within core forms (range_number core n) (many ∷ []) ≡ true) where
    abbrev event_of : ℕ → List ℕ → Act → Event
    event_of k is act = record { number = n; standing = st; mem = k; indices = is; act = act }

    size : length (counters_of path) ≡ length st.counters
    size = have_length (counters_of path) st.counters values

    -- the DRAM
    pub dram_picked : (is : List ℕ) (act : Act) → (changes act ≡ true → gathers ≡ false) → (u : Store) → IsTouched core u (event_of (dram_number core r) is act)
    dram_picked is act when u = record {
      spot = pick_spot core path n gathers r m (Some p);
      has = has;
      is_number = refl;
      values = values;
      go_on = go_on;
      target = record { mem = dram_number core r; writes = if gathers then false else true; places = Anywhere; sizes = [] };
      has_target = (0, omega arith, refl);
      is_mem = refl;
      writes = λ e. ap (λ b. if b then false else true) (when e);
      own = [];
      own_values = tt;
      lengths = tt;
      forms = refl;
      symbols = its_symbols core None tt;
      inside = λ fs e. absurd (cc);
    }

    one_long : (a : ℕ) → HaveLength (a + 1) (Some (counter_indices a 1 1))
    one_long a = All-cons (λ f. length f.coefs ≡ a + 1) _ [] (let x = replicate_length a (pos 0) in let y = unit_length 1 0 in length-append (replicate a (pos 0)) _ ∙ omega (arith, x, y)) (All-nil (λ f. length f.coefs ≡ a + 1))

    word_picked : (x k : ℕ) (writes_it : Bool) → Contains (pick_spot core path n gathers r m (Some p)).targets (word_target core writes_it x) → kind_of core x ≡ Sram → are_inside (dims core x) (pos k ∷ []) ≡ true → k < many → (act : Act) → (changes act ≡ true → writes_it ≡ true) → (u : Store) → IsTouched core u (event_of x (k ∷ []) act)
    word_picked x k writes_it has_target sram there less act when u =
        let d = slice_index_or (dims core x) 0 1 in
        let a = length (counters_of path) in
        record {
          spot = pick_spot core path n gathers r m (Some p);
          has = has;
          is_number = refl;
          values = values;
          go_on = go_on;
          target = word_target core writes_it x;
          has_target = has_target;
          is_mem = refl;
          writes = when;
          own = pos k ∷ [];
          own_values = one_has core forms (range_number core n) d many k (one_dimension (dims core x) k there) less within;
          lengths = one_long a;
          forms = own_indices core forms st.counters (symbol_in core forms u) a (k ∷ []) size;
          symbols = its_symbols core (Some (counter_indices a 1 1)) (counter_symbols core a 1 1);
          inside = λ fs e. subst (λ z. IsInside z (dims core x) (k ∷ []) act) (sym sram) there;
        }

    less_all : (k : ℕ) (ws : List (ℕ × ℕ)) (w : ℕ × ℕ) → k + length (w ∷ ws) ≤ many → k < many
    less_all k ws w h = omega (arith, h)

    rest_all : (k : ℕ) (ws : List (ℕ × ℕ)) (w : ℕ × ℕ) → k + length (w ∷ ws) ≤ many → suc k + length ws ≤ many
    rest_all k ws w h = omega (arith, h)

  module _ (path : List PlainLevel) (st : Standing) (n : ℕ) (values : HaveValues (counters_of path) st.counters) (go_on : AreSteps (counters_of path)) (r m p many : ℕ) (within : are_within core forms (range_number core n) (many ∷ []) ≡ true)
      (sram : kind_of core m ≡ Sram) (places_sram : kind_of core p ≡ Sram) (there : (k : ℕ) → k < many → AreBoth m p k) where
    pub gathers_each : (has : Contains (spots core) (pick_spot core path n true r m (Some p))) (k : ℕ) (ws : List (ℕ × ℕ)) → k + length ws ≤ many → (u : Store) → EachIn core (Touches core) u (gather_moments core n st r m p k ws)
    gathers_each has k [] l u = tt
    gathers_each has k ((i, w) ∷ ws) l u =
        let less = less_all path st n values go_on true r m p has many within k ws (i, w) l in (
          word_picked path st n values go_on true r m p has many within p k false (2, omega arith, refl) places_sram (there k less).0 less (reads i) (λ e. absurd (false≢true e)) u,
          (
            dram_picked path st n values go_on true r m p has many within (natural (index_value i) ∷ []) (reads w) (λ e. absurd (false≢true e)) _,
            (
              word_picked path st n values go_on true r m p has many within m k true (1, omega arith, refl) sram (there k less).1 less (writes w) (λ e. refl) _,
              gathers_each has (suc k) ws (rest_all path st n values go_on true r m p has many within k ws (i, w) l) _,
            ),
          ),
        )

    pub scatters_each : (has : Contains (spots core) (pick_spot core path n false r m (Some p))) (k : ℕ) (ws : List (ℕ × ℕ)) → k + length ws ≤ many → (u : Store) → EachIn core (Touches core) u (scatter_moments core n st r m p k ws)
    scatters_each has k [] l u = tt
    scatters_each has k ((i, w) ∷ ws) l u =
        let less = less_all path st n values go_on false r m p has many within k ws (i, w) l in (
          word_picked path st n values go_on false r m p has many within p k false (2, omega arith, refl) places_sram (there k less).0 less (reads i) (λ e. absurd (false≢true e)) u,
          (
            word_picked path st n values go_on false r m p has many within m k false (1, omega arith, refl) sram (there k less).1 less (reads w) (λ e. absurd (false≢true e)) _,
            (
              dram_picked path st n values go_on false r m p has many within (natural (index_value i) ∷ []) (writes w) (λ e. refl) _,
              scatters_each has (suc k) ws (rest_all path st n values go_on false r m p has many within k ws (i, w) l) _,
            ),
          ),
        )

    -- a count, and then the words
    pub picked_each : (ws : List (ℕ × ℕ)) (words : List Moment) (s : Store) → ((u : Store) → EachIn core (Touches core) u words) → EachIn core (Touches core) s (picked_moments core n st ws words)
    picked_each [] words s h = tt
    picked_each (w ∷ ws) words s h = (tt, h s)
