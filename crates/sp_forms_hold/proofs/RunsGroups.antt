-- The values of counters in the groups of a controller.
use Rattle.std.proofs.Common.{◌≡◌, suc, ℤ, List, [], ◌∷◌, ◌++◌, length, map, All, refl, ap, arith, length-append}
use Rattle.std.proofs.lemmas.List.Elements.{All-nil, All-cons, All-weaker}
use Rattle.std.specs.List.{AllZip}
use Rattle.sp_core.specs.Elements.{index_value, values_below}
use Rattle.sp_core.specs.History.{Bounds, last_word}
use Rattle.sp_core.specs.PlainCore.{PlainCounter, PlainCore}
use Rattle.sp_core.specs.Scope.{Reading, loops_of, group_values, in_group}
use Rattle.sp_patterns.specs.declared.place.CounterPlace.{CounterPlace}
use Rattle.sp_patterns.specs.Ranges.{constant_of, word_form, range_of, places_in, inside}
use Rattle.sp_hold.specs.Laws.{AreCountersInScope}
use Rattle.sp_hold.specs.Values.{AreValues}
use Rattle.sp_forms_hold.specs.RunsLaws.{IsPlaced, AreEntered}
use Rattle.sp_forms_hold.proofs.RunsBounds.{Known, AreBounds, all_given}
use Rattle.sp_forms_hold.proofs.RunsRanges.{IsBetween, all_between, in_range, is_int, all_ways}

values_joined : (ranges more : List _) (outer values : List ℤ) → AreValues ranges outer → AreValues more values → AreValues (ranges ++ more) (outer ++ values)
values_joined [] more [] values h k = k
values_joined [] more (v ∷ outer) values h k = absurd h
values_joined (r ∷ ranges) more [] values h k = absurd h
values_joined (r ∷ ranges) more (v ∷ outer) values (here, int, rest) k = (here, int, values_joined ranges more outer values rest k)

module _ (core : PlainCore) (places : List CounterPlace) where
  -- a value for each counter, in its range
  pub record AreCounted (counters : List PlainCounter) (values : List ℤ) : Type 0 where
    pub in_ranges : AreValues (map (range_of core.mems places) counters) values
    pub many : length values ≡ length counters

  one_more : (c : PlainCounter) (counters : List PlainCounter) (b : Bounds) (v : ℤ) (values : List ℤ) → AreBounds core places c b → IsBetween (index_value (last_word b.from)) (index_value (last_word b.until)) v → AreCounted counters values → AreCounted (c ∷ counters) (v ∷ values)
  one_more c counters b v values h w rest = record {
    in_ranges = (
      in_range (index_value (last_word b.from)) (index_value (last_word b.until)) v (constant_of (word_form core.mems places c.from)) (constant_of (word_form core.mems places c.until)) h.from.is h.until.is w,
      is_int (index_value (last_word b.from)) (index_value (last_word b.until)) v h.from.least h.until.greatest w,
      rest.in_ranges,
    );
    many = ap suc rest.many;
  }

  pub all_counted : (reading : Reading) (counters : List PlainCounter) (bs : List Bounds) → AllZip (AreBounds core places) counters bs → All (AreCounted counters) (group_values (loops_of reading counters bs))
  all_counted reading [] [] h = All-cons (AreCounted []) [] [] (record { in_ranges = tt; many = refl }) (All-nil (AreCounted []))
  all_counted reading [] (b ∷ bs) h = absurd h
  all_counted reading (c ∷ counters) [] h = absurd h
  all_counted reading (c ∷ counters) (b ∷ bs) h =
      all_ways (IsBetween (index_value (last_word b.from)) (index_value (last_word b.until))) (AreCounted counters) (AreCounted (c ∷ counters)) (values_below (index_value (last_word b.from)) (index_value (last_word b.until)) (reading c)) _
      (λ v values w rest. one_more c counters b v values h.0 w rest) (all_between (index_value (last_word b.from)) (index_value (last_word b.until)) (reading c)) (all_counted reading counters bs h.1)

same_many : {A B : Type 0} (R : A → B → Type 0) (xs : List A) (ys : List B) → AllZip R xs ys → length ys ≡ length xs
same_many R [] [] h = refl
same_many R [] (y ∷ ys) h = absurd h
same_many R (x ∷ xs) [] h = absurd h
same_many R (x ∷ xs) (y ∷ ys) h = ap suc (same_many R xs ys h.1)

ranges_many : {A : Type 0} (f : PlainCounter → A) (counters : List PlainCounter) → length (map f counters) ≡ length (places_in counters)
ranges_many f [] = refl
ranges_many f (c ∷ counters) = ap suc (ranges_many f counters)

pub entered : (core : PlainCore) → Known core → AreCountersInScope → AreEntered core
entered core known scopes reading turns outside around scope outer counters s t bs memories right fits placed e =
    let given = all_given core known memories outside scope around.places outer placed.in_scope reading turns counters s t bs right fits e in
    All-weaker (AreCounted core around.places counters) (λ values. IsPlaced (in_group scope (loops_of reading counters bs) values) (inside core.mems around counters) (outer ++ values))
    (λ values c. record {
      in_scope = scopes reading counters bs scope around.places outer values (same_many _ counters bs given) c.many placed.in_scope;
      in_ranges = values_joined around.ranges (map (range_of core.mems around.places) counters) outer values placed.in_ranges c.in_ranges;
      each_range =
          let before = placed.each_range in
          let more = ranges_many (range_of core.mems around.places) counters in
          let one = length-append around.ranges (map (range_of core.mems around.places) counters) in
          let two = length-append around.places (places_in counters) in
          omega (arith, before, more, one, two);
    })
    (group_values (loops_of reading counters bs)) (all_counted core around.places reading counters bs given)
