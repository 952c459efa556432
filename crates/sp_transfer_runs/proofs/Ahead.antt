-- A walk that is one word ahead: what is read as it goes on is the word that it comes to.
use Rattle.std.proofs.Common.{◌≡◌, ℕ, zero, suc, ◌+◌, ◌*◌, ◌<◌, ◌≤◌, ◌==◌, Bool, true, false, ◌&&◌, ◌||◌, not, ℤ, pos, ◌+ℤ◌, ◌-ℤ◌, List, [], ◌∷◌, ◌++◌, map, flat_map, length, slice_index_or, refl, sym, ap, ap₂, subst, ◌∙◌, arith, lit<, if◌then◌else◌}
use Rattle.std.specs.Prelude.{int_lt}
use Rattle.std.proofs.lemmas.Int.{ints}
use Rattle.sp_words.specs.Types.{int_type}
use Rattle.sp_words.specs.Words.{wrap, word_add, word_sub}
use Rattle.sp_words.proofs.LawLemmas.{add-KeepsWrapping}
use Rattle.sp_netlist.specs.Signals.{Signals}
use Rattle.sp_gates.specs.Tested.{is_on}
use Rattle.sp_core.specs.Elements.{index_value, numbers_below, tuples}
use Rattle.sp_core.specs.History.{Taken, one, both}
use Rattle.sp_core.specs.Transfers.{lengths, has_none}
use Rattle.sp_counters.specs.declared.part.Count.{Count}
use Rattle.sp_counters.specs.declared.part.Counter.{Counter}
use Rattle.sp_counters.specs.Counting.{number, is_last, are_last, advance_of, AllCount, none, counted}
use Rattle.sp_slices.specs.declared.part.Axis.{Axis}
use Rattle.sp_slices.specs.declared.part.Move.{Move}
use Rattle.sp_slices.specs.declared.part.Move.TheVariants.{One, Range}
use Rattle.sp_slices.specs.Slices.{CountMoves, no_move, one_move, FollowAxes, no_axis, one_axis, is_ended, all_ended, offsets_of}
use Rattle.sp_xfer.specs.Ahead.{are_over, next_offset, look_offset, look_offsets}
use Rattle.sp_xfer.specs.Moving.{words_at}
use Rattle.sp_node_runs.specs.BodiesSpans.{SpanNets, one_net, two_nets, HaveSpans}
use Rattle.sp_transfer_runs.specs.Words.{moves_of, parts_of, offset_of}
use Rattle.sp_transfer_runs.proofs.Numbers.{small_wrap}

if_true : {A : Type 0} (b : Bool) (x y : A) → b ≡ true → (if b then x else y) ≡ x
if_true b x y e = ap (λ b. if b then x else y) e

if_false : {A : Type 0} (b : Bool) (x y : A) → b ≡ false → (if b then x else y) ≡ y
if_false b x y e = ap (λ b. if b then x else y) e

-- counters and dimensions took the same bounds
abbrev pub Bounded : Signals → List Counter → List Axis → (cycle : ℕ) → Type 0
Bounded s (n ∷ counters) (a ∷ axes) t = (number s n.from t ≡ number s a.from t) × (number s n.until t ≡ number s a.until t) × Bounded s counters axes t
Bounded s _ _ t = Unit {0}

module _ (s : Signals) (start step : ℕ → Bool) where
  bounded_first : (t : ℕ) → start t ≡ true → (counts : List Count) (counters : List Counter) (axes : List Axis) → AllCount s start step counts counters → FollowAxes s start counts counters axes → Bounded s counters axes (suc t)
  bounded_first t e _ _ _ none no_axis = tt
  bounded_first t e _ _ _ (counted h hs) (one_axis k ks) =
      (h.from t ∙ if_true _ _ _ e ∙ sym (k.from t ∙ if_true _ _ _ e), h.until t ∙ if_true _ _ _ e ∙ sym (k.until t ∙ if_true _ _ _ e), bounded_first t e _ _ _ hs ks)

  bounded_on : (t : ℕ) → start t ≡ false → (counts : List Count) (counters : List Counter) (axes : List Axis) → AllCount s start step counts counters → FollowAxes s start counts counters axes → Bounded s counters axes t → Bounded s counters axes (suc t)
  bounded_on t e _ _ _ none no_axis w = tt
  bounded_on t e _ _ _ (counted h hs) (one_axis k ks) w =
      (h.from t ∙ if_false _ _ _ e ∙ w.0 ∙ sym (k.from t ∙ if_false _ _ _ e), h.until t ∙ if_false _ _ _ e ∙ w.1 ∙ sym (k.until t ∙ if_false _ _ _ e), bounded_on t e _ _ _ hs ks w.2)

  pub bounded : (begun : ℕ) → start begun ≡ true → (counts : List Count) (counters : List Counter) (axes : List Axis) → AllCount s start step counts counters → FollowAxes s start counts counters axes
      → (cycles : ℕ) → ((t : ℕ) → begun < t → t ≤ begun + cycles → start t ≡ false) → Bounded s counters axes (begun + 1 + cycles)
  bounded begun e counts counters axes h k zero quiet = subst (Bounded s counters axes) (omega arith) (bounded_first begun e counts counters axes h k)
  bounded begun e counts counters axes h k (suc n) quiet =
      let next : suc (begun + 1 + n) ≡ begun + 1 + suc n = omega arith in
      subst (Bounded s counters axes) next (bounded_on (begun + 1 + n) (quiet (begun + 1 + n) (omega arith) (omega arith)) counts counters axes h k (bounded begun e counts counters axes h k n (λ t l m. quiet t l (omega (arith, m)))))

by_one : (c : Count) → c.by ≡ 1 → c.par ≡ 1 → advance_of c ≡ 1
by_one c e f = ap₂ (λ a b. a * b) e f

one_ended : (s : Signals) (t : ℕ) (c : Count) (n : Counter) (a : Axis) → advance_of c ≡ 1 → number s n.until t ≡ number s a.until t → is_ended s n a t ≡ is_last s c n t
one_ended s t c n a e w = ap₂ (λ m u. not (int_lt (number s n.value t +ℤ pos m) u)) (sym e) (sym w)

pub all_last : (s : Signals) (start : ℕ → Bool) (t : ℕ) (moves : List Move) (counts : List Count) (counters : List Counter) (axes : List Axis) → CountMoves s moves counts → FollowAxes s start counts counters axes → Bounded s counters axes t
    → all_ended s counters axes t ≡ are_last s counts counters t
all_last s start t _ _ _ _ no_move no_axis w = refl
all_last s start t _ _ _ _ (one_move {c = c} h hs) (one_axis {n = n} {a = a} k ks) w = ap₂ (λ a b. a && b) (one_ended s t c n a (by_one c h.by h.par) w.1) (all_last s start t _ _ _ _ hs ks w.2)

over_is : (s : Signals) (start : ℕ → Bool) (t : ℕ) (moves : List Move) (counts : List Count) (counters : List Counter) (axes : List Axis) → CountMoves s moves counts → FollowAxes s start counts counters axes → Bounded s counters axes t
    → are_over s moves axes t ≡ are_last s counts counters t
over_is s start t _ _ _ _ no_move no_axis w = refl
over_is s start t _ _ _ _ (one_move {c = c} h hs) (one_axis {n = n} {a = a} k ks) w = ap₂ (λ a b. a && b) (k.ended t ∙ one_ended s t c n a (by_one c h.by h.par) w.1) (over_is s start t _ _ _ _ hs ks w.2)

-- how far a value is from the first one, as it goes on
goes_offset : (goes final : Bool) (v f v' f' : ℤ) → f' ≡ f → v' ≡ (if goes then (if final then f else v +ℤ pos 1) else v)
    → wrap int_type (v' -ℤ f') ≡ (if goes then (if final then 0 else word_add int_type (wrap int_type (v -ℤ f)) 1) else wrap int_type (v -ℤ f))
goes_offset false final v f v' f' e g = ap₂ (λ x y. wrap int_type (x -ℤ y)) g e
goes_offset true true v f v' f' e g = ap₂ (λ x y. wrap int_type (x -ℤ y)) g e ∙ ap (wrap int_type) (let h : f -ℤ f ≡ pos 0 = omega (arith, ints) in h) ∙ small_wrap 0 (lit< tt)
goes_offset true false v f v' f' e g =
    ap₂ (λ x y. wrap int_type (x -ℤ y)) g e
    ∙ ap (wrap int_type) (let h : (v +ℤ pos 1) -ℤ f ≡ (v -ℤ f) +ℤ pos 1 = omega (arith, ints) in h)
    ∙ sym (add-KeepsWrapping int_type (v -ℤ f) (pos 1))
    ∙ ap (word_add int_type (wrap int_type (v -ℤ f))) (small_wrap 1 (lit< tt))

sub_is : (a b : ℕ) → word_sub int_type a b ≡ wrap int_type (index_value a -ℤ index_value b)
unfolding word_sub
sub_is a b = refl

-- each offset that is told is that of the next cycle
pub look_is_next : (s : Signals) (start : ℕ) (step : ℕ → Bool) (t : ℕ) (moves : List Move) (counts : List Count) (counters : List Counter) (axes : List Axis) → CountMoves s moves counts → AllCount s (is_on s start) step counts counters → FollowAxes s (is_on s start) counts counters axes → Bounded s counters axes t
    → is_on s start t ≡ false → step t ≡ true → look_offsets s start moves axes t ≡ words_at s (suc t) (offsets_of moves axes)
look_is_next s start step t _ _ _ _ no_move none no_axis w off on = refl
look_is_next s start step t _ _ _ _ (one_move {m = One i} h hs) (counted c cs) (one_axis k ks) w off on = look_is_next s start step t _ _ _ _ hs cs ks w.2 off on
look_is_next s start step t _ _ _ _ (one_move {m = Range x y} {c = count} {moves = moves} {counts = counts} h hs) (counted {n = n} {counters = counters} c cs) (one_axis {a = a} {axes = axes} k ks) w off on =
    ap₂ (λ o os. o ∷ os) (sym own) (look_is_next s start step t moves counts counters axes hs cs ks w.2 off on)
  where
    later : (step t && are_last s counts counters t) ≡ are_over s moves axes t
    later = ap (λ b. b && are_last s counts counters t) on ∙ sym (over_is s (is_on s start) t moves counts counters axes hs ks w.2)

    from : number s a.from (suc t) ≡ number s a.from t
    from = k.from t ∙ if_false _ _ _ off

    value : number s n.value (suc t) ≡ (if are_over s moves axes t then (if is_on s a.ended t then number s a.from t else number s n.value t +ℤ pos 1) else number s n.value t)
    value =
        c.value t ∙ if_false _ _ _ off
        ∙ ap (λ b. if b then (if is_last s count n t then number s n.from t else number s n.value t +ℤ pos (advance_of count)) else number s n.value t) later
        ∙ ap (λ b. if are_over s moves axes t then (if b then number s n.from t else number s n.value t +ℤ pos (advance_of count)) else number s n.value t) (sym (k.ended t ∙ one_ended s t count n a (by_one count h.by h.par) w.1))
        ∙ ap₂ (λ f m. if are_over s moves axes t then (if is_on s a.ended t then f else number s n.value t +ℤ pos m) else number s n.value t) w.0 (by_one count h.by h.par)

    own : s.net (suc t) a.offset ≡ look_offset s start (are_over s moves axes t) a t
    own =
        k.offset (suc t) ∙ sub_is (s.net (suc t) n.value) (s.net (suc t) a.from)
        ∙ goes_offset (are_over s moves axes t) (is_on s a.ended t) (number s n.value t) (number s a.from t) (number s n.value (suc t)) (number s a.from (suc t)) from value
        ∙ ap (λ o. if are_over s moves axes t then (if is_on s a.ended t then 0 else word_add int_type o 1) else o) (sym (k.offset t ∙ sub_is (s.net t n.value) (s.net t a.from)))
        ∙ sym (if_false (is_on s start t) 0 (next_offset s (are_over s moves axes t) a t) off)

-- in the cycle of a start it is the first word, which is at the beginning of each range
look_first : (s : Signals) (start : ℕ) (follows : ℕ → Bool) (t u : ℕ) (spanned : List SpanNets) (taken : List Taken) (counts : List Count) (counters : List Counter) (axes : List Axis) → CountMoves s (moves_of spanned) counts → FollowAxes s follows counts counters axes
    → HaveSpans s u spanned taken → is_on s start t ≡ true → look_offsets s start (moves_of spanned) axes t ≡ map (λ n. 0) (lengths (parts_of taken))
look_first s start follows t u [] [] _ _ _ no_move no_axis have on = refl
look_first s start follows t u [] (x ∷ taken) _ _ _ c f have on = absurd have
look_first s start follows t u (one_net n ∷ spanned) [] _ _ _ c f have on = absurd have
look_first s start follows t u (two_nets a b ∷ spanned) [] _ _ _ c f have on = absurd have
look_first s start follows t u (one_net n ∷ spanned) (both es fs ∷ taken) _ _ _ c f have on = absurd have
look_first s start follows t u (two_nets a b ∷ spanned) (one es ∷ taken) _ _ _ c f have on = absurd have
look_first s start follows t u (one_net n ∷ spanned) (one es ∷ taken) _ _ _ (one_move h hs) (one_axis k ks) have on = look_first s start follows t u spanned taken _ _ _ hs ks have.1 on
look_first s start follows t u (two_nets x y ∷ spanned) (both es fs ∷ taken) _ _ _ (one_move h hs) (one_axis {a = a} {axes = axes} k ks) have on =
    ap₂ (λ o os. o ∷ os) (if_true (is_on s start t) 0 (next_offset s (are_over s (moves_of spanned) axes t) a t) on) (look_first s start follows t u spanned taken _ _ _ hs ks have.2 on)

or_parts : (a b : Bool) → (a || b) ≡ false → (a ≡ false) × (b ≡ false)
or_parts true b e = absurd (cc)
or_parts false b e = (refl, e)

zero_first : (n : ℕ) → (rest : List ℕ) × (numbers_below (suc n) ≡ 0 ∷ rest)
zero_first zero = ([], refl)
zero_first (suc n) = let (rest, e) = zero_first n in (rest ++ suc n ∷ [], ap (λ xs. xs ++ suc n ∷ []) e)

first_tuple : (ns : List ℕ) → has_none ns ≡ false → (rest : List (List ℕ)) × (tuples (map numbers_below ns) ≡ map (λ n. 0) ns ∷ rest)
first_tuple [] h = ([], refl)
first_tuple (zero ∷ ns) h = absurd (cc)
first_tuple (suc n ∷ ns) h =
    let (rest, e) = first_tuple ns (or_parts (suc n == 0) (has_none ns) h).1 in
    let (others, f) = zero_first n in (
      map (λ xs. 0 ∷ xs) rest ++ flat_map (λ x. map (λ xs. x ∷ xs) (map (λ n. 0) ns ∷ rest)) others,
      ap₂ (λ xs ts. flat_map (λ x. map (λ ys. x ∷ ys) ts) xs) f e,
    )

-- so it has a word
pub some_word : (ns : List ℕ) → has_none ns ≡ false → 0 < length (tuples (map numbers_below ns))
some_word ns h = let (rest, e) = first_tuple ns h in let f : length (tuples (map numbers_below ns)) ≡ suc (length rest) = ap length e in omega (arith, f)

pub first_is : (s : Signals) (start : ℕ) (follows : ℕ → Bool) (t u : ℕ) (spanned : List SpanNets) (taken : List Taken) (counts : List Count) (counters : List Counter) (axes : List Axis) → CountMoves s (moves_of spanned) counts → FollowAxes s follows counts counters axes
    → HaveSpans s u spanned taken → is_on s start t ≡ true → has_none (lengths (parts_of taken)) ≡ false → look_offsets s start (moves_of spanned) axes t ≡ offset_of taken 0
first_is s start follows t u spanned taken counts counters axes c f have on some =
    look_first s start follows t u spanned taken counts counters axes c f have on ∙ sym (ap (λ ts. slice_index_or ts 0 []) (first_tuple (lengths (parts_of taken)) some).1)
