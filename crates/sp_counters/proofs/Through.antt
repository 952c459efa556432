-- Counters run through the groups of their loop.
use Rattle.std.proofs.Common.{◌≡◌, ℕ, zero, suc, ◌+◌, ◌<◌, ◌≤◌, nat_lt, Bool, true, false, not, ◌&&◌, ℤ, List, [], ◌∷◌, map, length, drop, refl, sym, ap, ap₂, subst, ◌∙◌, arith, if◌then◌else◌}
use Rattle.std.specs.Prelude.{slice_index_or}
use Rattle.std.proofs.lemmas.Bool.{lt-ltb, le-ltb}
use Rattle.std.proofs.lemmas.List.{length-drop}
use Rattle.std.proofs.Math.Seq.{drop-cons}
use Rattle.sp_words.specs.Types.{int_type}
use Rattle.sp_words.specs.Words.{wrap}
use Rattle.sp_netlist.specs.Signals.{Signals}
use Rattle.sp_gates.specs.Tested.{is_on}
use Rattle.sp_core.specs.Scope.{Loop, group_values, is_live}
use Rattle.sp_counters.specs.declared.part.Count.{Count}
use Rattle.sp_counters.specs.declared.part.Counters.{Counters}
use Rattle.sp_counters.specs.declared.part.Counted.{Counted}
use Rattle.sp_counters.specs.Counting.{CountsGroups}
use Rattle.sp_counters.specs.Laws.{AreLoopsAt, no_loop, one_loop, steps_after, AreAtGroup, CountersRunThroughGroups}
use Rattle.sp_counters.proofs.Odometer.{all_go_on, have_values, left, next_values, firsts, all_left, none_at_all, step_left}
use Rattle.sp_counters.proofs.Odometer as odometer
use Rattle.sp_counters.proofs.Held.{AllHold, values_at, if_true, if_false, held_first, held_on, first_values, values_stand, last_are, values_step, values_stay, words_are, lanes_live, as_many}

-- what stands first from a number on
module _ {A : Type 0} (xs : List A) (k : ℕ) where
  within : (x : A) (r : List A) → drop k xs ≡ x ∷ r → k < length xs
  within x r e = let l = length-drop k xs in let m = ap length e in omega (arith, l, m)

  past : drop k xs ≡ [] → length xs ≤ k
  past e = let l = length-drop k xs in let m = ap length e in omega (arith, l, m)

  first_and_rest : (x d : A) (r : List A) → drop k xs ≡ x ∷ r → (slice_index_or xs k d ≡ x) × (drop (suc k) xs ≡ r)
  first_and_rest x d r e = let f = drop-cons xs k d (within x r e) in let g = sym f ∙ e in (cc (g), cc (g))

go_on_all : (s : Signals) (t : ℕ) (counts : List Count) (loops : List Loop) → AreLoopsAt s t counts loops → all_go_on loops
go_on_all s t _ _ no_loop = tt
go_on_all s t _ _ (one_loop k ks) = (k.goes_on, go_on_all s t _ _ ks)

module _ (loops : List Loop) (go : all_go_on loops) where
  -- what is left of the groups, by whether there is one
  abbrev Rest : Bool → ℕ → List ℤ → Type 0
  Rest true k vs = (left loops vs ≡ drop k (group_values loops)) × (have_values loops ≡ true)
  Rest false k vs = length (group_values loops) ≤ k

  rest_first : (b : Bool) → have_values loops ≡ b → (vs : List ℤ) → vs ≡ firsts loops → Rest b 0 vs
  rest_first true h vs e = (ap (left loops) e ∙ all_left loops go h, h)
  rest_first false h vs e = let l = ap length (none_at_all loops go h) in omega (arith, l)

  rest_stays : (m : Bool) (k : ℕ) (vs ws : List ℤ) → ws ≡ vs → Rest m k vs → Rest m k ws
  rest_stays m k vs ws e = subst (Rest m k) (sym e)

  rest_step : (m : Bool) (k : ℕ) (vs ws : List ℤ) → length vs ≡ length loops → ws ≡ next_values loops vs → Rest m k vs → Rest (m && not (odometer.are_last loops vs)) (suc k) ws
  rest_step false k vs ws n e r = omega (arith, r)
  rest_step true k vs ws n e r = by_last (odometer.are_last loops vs) refl
    where
      by_last : (a : Bool) → odometer.are_last loops vs ≡ a → Rest (not a) (suc k) ws
      by_last true f =
          let p = first_and_rest (group_values loops) k vs [] [] (sym r.0 ∙ step_left loops vs go r.1 n ∙ ap (λ b. vs ∷ (if b then [] else left loops (next_values loops vs))) f) in
          past (group_values loops) (suc k) p.1
      by_last false f =
          let p = first_and_rest (group_values loops) k vs [] (left loops (next_values loops vs)) (sym r.0 ∙ step_left loops vs go r.1 n ∙ ap (λ b. vs ∷ (if b then [] else left loops (next_values loops vs))) f) in
          (ap (left loops) e ∙ sym p.1, r.1)

  -- the group that stands
  rest_more : (m : Bool) (k : ℕ) (vs : List ℤ) → length vs ≡ length loops → Rest m k vs → m ≡ nat_lt k (length (group_values loops))
  rest_more true k vs n r = sym (lt-ltb k (length (group_values loops)) (within (group_values loops) k vs _ (sym r.0 ∙ step_left loops vs go r.1 n)))
  rest_more false k vs n r = sym (le-ltb k (length (group_values loops)) r)

  rest_values : (m : Bool) (k : ℕ) (vs : List ℤ) → length vs ≡ length loops → Rest m k vs → k < length (group_values loops) → vs ≡ slice_index_or (group_values loops) k []
  rest_values true k vs n r l = sym (first_and_rest (group_values loops) k vs [] _ (sym r.0 ∙ step_left loops vs go r.1 n)).0
  rest_values false k vs n r l = absurd (omega (arith, r, l))

module _ (s : Signals) (part : Counters) (nets : Counted) (loops : List Loop) (begun : ℕ) (h : CountsGroups s part nets) (k : AreLoopsAt s begun part.counters.items loops)
    (started : is_on s part.start begun ≡ true) where
  go : all_go_on loops
  go = go_on_all s begun part.counters.items loops k

  abbrev values : ℕ → List ℤ
  values t = values_at s nets.counters.items t

  record At (group t : ℕ) : Type 0 where
    held : AllHold s t part.counters.items nets.counters.items loops
    rest : Rest loops go (is_on s nets.more t) group (values t)

  at_first : At 0 (suc begun)
  at_first = record {
    held = held_first s (is_on s part.start) (is_on s part.step) begun started part.counters.items nets.counters.items loops h.each k;
    rest = subst (λ b. Rest loops go b 0 (values (suc begun)))
        (sym (h.more begun ∙ if_true (is_on s part.start begun) _ _ started ∙ values_stand s (is_on s part.start) (is_on s part.step) begun part.counters.items loops k))
        (rest_first loops go (have_values loops) refl (values (suc begun)) (first_values s (is_on s part.start) (is_on s part.step) begun started part.counters.items nets.counters.items loops h.each k));
  }

  module _ (group t : ℕ) (a : At group t) (quiet : is_on s part.start t ≡ false) where
    some : length (values t) ≡ length loops
    some = as_many s (is_on s part.start) (is_on s part.step) t part.counters.items nets.counters.items loops a.held

    next_more : (g : Bool) → is_on s part.step t ≡ g → is_on s nets.more (suc t) ≡ (is_on s nets.more t && not (g && odometer.are_last loops (values t)))
    next_more g e =
        h.more t ∙ if_false (is_on s part.start t) _ _ quiet
        ∙ ap₂ (λ x y. is_on s nets.more t && not (x && y)) e (last_are s (is_on s part.start) (is_on s part.step) t part.counters.items nets.counters.items loops a.held)

    and_true : (b : Bool) → (b && true) ≡ b
    and_true true = refl
    and_true false = refl

    next_rest : (g : Bool) → is_on s part.step t ≡ g → Rest loops go (is_on s nets.more (suc t)) (if g then suc group else group) (values (suc t))
    next_rest true e =
        subst (λ b. Rest loops go b (suc group) (values (suc t))) (sym (next_more true e))
        (rest_step loops go (is_on s nets.more t) group (values t) (values (suc t)) some
        (values_step s (is_on s part.start) (is_on s part.step) t quiet e part.counters.items nets.counters.items loops h.each a.held) a.rest)
    next_rest false e =
        subst (λ b. Rest loops go b group (values (suc t))) (sym (next_more false e ∙ and_true (is_on s nets.more t)))
        (rest_stays loops go (is_on s nets.more t) group (values t) (values (suc t)) (values_stay s (is_on s part.start) (is_on s part.step) t quiet e part.counters.items nets.counters.items h.each) a.rest)

    at_next : At (if is_on s part.step t then suc group else group) (suc t)
    at_next = record {
      held = held_on s (is_on s part.start) (is_on s part.step) t quiet part.counters.items nets.counters.items loops h.each a.held;
      rest = next_rest (is_on s part.step t) refl;
    }

  module _ (group t : ℕ) (a : At group t) where
    many : length (values t) ≡ length loops
    many = as_many s (is_on s part.start) (is_on s part.step) t part.counters.items nets.counters.items loops a.held

    is_group : group < length (group_values loops) → values t ≡ slice_index_or (group_values loops) group []
    is_group l = rest_values loops go (is_on s nets.more t) group (values t) many a.rest l

    at_group : AreAtGroup s part nets loops group t
    at_group = record {
      more = rest_more loops go (is_on s nets.more t) group (values t) many a.rest;
      words = λ l. words_are s (is_on s part.start) (is_on s part.step) t part.counters.items nets.counters.items h.each ∙ ap (map (wrap int_type)) (is_group l);
      masks = λ lane l m.
          h.masks lane t m ∙ lanes_live s (is_on s part.start) (is_on s part.step) t lane part.counters.items nets.counters.items loops a.held ∙ ap (λ vs. is_live loops vs lane) (is_group l);
    }

  at_all : (cycles : ℕ) → ((t : ℕ) → begun < t → t ≤ begun + cycles → is_on s part.start t ≡ false) → At (steps_after (is_on s part.step) begun cycles) (begun + 1 + cycles)
  at_all zero quiet = subst (At 0) (omega arith) at_first
  at_all (suc n) quiet =
      let before = at_all n (λ t l m. quiet t l (omega (arith, m))) in
      let same : begun + suc n ≡ begun + 1 + n = omega arith in
      let next : suc (begun + 1 + n) ≡ begun + 1 + suc n = omega arith in
      subst (At (steps_after (is_on s part.step) begun (suc n))) next
      (subst (λ t. At (if is_on s part.step t then suc (steps_after (is_on s part.step) begun n) else steps_after (is_on s part.step) begun n) (suc (begun + 1 + n))) (sym same)
      (at_next (steps_after (is_on s part.step) begun n) (begun + 1 + n) before (quiet (begun + 1 + n) (omega arith) (omega arith))))

pub run_through_groups : CountersRunThroughGroups
run_through_groups s part nets loops begun cycles h k started quiet =
    at_group s part nets loops begun h k started (steps_after (is_on s part.step) begun cycles) (begun + 1 + cycles) (at_all s part nets loops begun h k started cycles quiet)
