-- The counters around, one controller further in.
use Rattle.std.proofs.Common.{◌≡◌, ℕ, suc, ◌+◌, ◌≤◌, true, ◌&&◌, List, [], ◌∷◌, ◌++◌, length, length-append, map, append_assoc, append-nil, refl, sym, ap, ◌∙◌, subst, arith}
use Rattle.std.specs.Prelude.{nat_le, nat_lt, ◌^◌}
use Rattle.std.specs.List.{list_all}
use Rattle.std.proofs.lemmas.Bool.{and_parts, leb-true}
use Rattle.std.proofs.lemmas.List.Elements.{All-nil, All-cons, All-append}
use Rattle.sp_core.specs.Around.{Around}
use Rattle.sp_core.specs.OperationRules.{is_bound, is_counter_right}
use Rattle.sp_core.specs.PlainCore.{PlainCounter, PlainMem, PlainCore}
use Rattle.sp_deps.specs.declared.access.LoopRange.{LoopRange}
use Rattle.sp_patterns.specs.declared.place.CounterPlace.{CounterPlace}
use Rattle.sp_patterns.specs.Ranges.{PlainAround, places_in, range_of, inside}
use Rattle.sp_meets.specs.Around.{PlainLevel, loop_of}
use Rattle.sp_meets.specs.Sites.{counters_of}
use Rattle.sp_touched.specs.Touched.{AreSteps}
use Rattle.sp_touched.proofs.Lists.{IsAround}

map_both : (xs ys : List LoopRange) → map (λ (l : LoopRange). l.from) (xs ++ ys) ≡ map (λ (l : LoopRange). l.from) xs ++ map (λ (l : LoopRange). l.from) ys
map_both [] ys = refl
map_both (x ∷ xs) ys = ap (λ zs. x.from ∷ zs) (map_both xs ys)

counters_last : (path : List PlainLevel) (l : PlainLevel) → counters_of (path ++ l ∷ []) ≡ counters_of path ++ l.loops
counters_last [] l = append-nil l.loops
counters_last (k ∷ path) l = ap (λ xs. k.loops ++ xs) (counters_last path l) ∙ sym (append_assoc k.loops (counters_of path) l.loops)

ranges_are : (mems : List PlainMem) (places : List CounterPlace) (counters : List PlainCounter) → map (λ (l : LoopRange). l.from) (map (loop_of mems places) counters) ≡ map (range_of mems places) counters
ranges_are mems places [] = refl
ranges_are mems places (c ∷ counters) = ap (λ xs. range_of mems places c ∷ xs) (ranges_are mems places counters)

places_length : (counters : List PlainCounter) → length (places_in counters) ≡ length counters
places_length [] = refl
places_length (c ∷ counters) = ap suc (places_length counters)

loops_length : (mems : List PlainMem) (places : List CounterPlace) (counters : List PlainCounter) → length (map (loop_of mems places) counters) ≡ length counters
loops_length mems places [] = refl
loops_length mems places (c ∷ counters) = ap suc (loops_length mems places counters)

loops_go_on : (core : PlainCore) (outside : Around) (places : List CounterPlace) (counters : List PlainCounter) → list_all (is_counter_right core outside) counters ≡ true → AreSteps (map (loop_of core.mems places) counters)
loops_go_on core outside places [] h = All-nil (λ (l : LoopRange). (1 ≤ l.by) × (1 ≤ l.par))
loops_go_on core outside places (c ∷ counters) h =
    let a = and_parts (is_counter_right core outside c) (list_all (is_counter_right core outside) counters) h in
    let b = and_parts (is_bound core outside c.from && is_bound core outside c.until) ((nat_le 1 c.by && nat_lt c.by (2 ^ 31)) && (nat_le 1 c.par && nat_le c.par 16)) a.0 in
    let d = and_parts (nat_le 1 c.by && nat_lt c.by (2 ^ 31)) (nat_le 1 c.par && nat_le c.par 16) b.1 in
    let e = and_parts (nat_le 1 c.by) (nat_lt c.by (2 ^ 31)) d.0 in
    let f = and_parts (nat_le 1 c.par) (nat_le c.par 16) d.1 in
    All-cons (λ (l : LoopRange). (1 ≤ l.by) × (1 ≤ l.par)) (loop_of core.mems places c) (map (loop_of core.mems places) counters) (leb-true 1 c.by e.0, leb-true 1 c.par f.0) (loops_go_on core outside places counters a.1)

pub around_counters : (core : PlainCore) (outside : Around) (path : List PlainLevel) (around : PlainAround) (l : PlainLevel) (counters : List PlainCounter) → IsAround path around → l.loops ≡ map (loop_of core.mems around.places) counters → list_all (is_counter_right core outside) counters ≡ true →
    IsAround (path ++ l ∷ []) (inside core.mems around counters)
around_counters core outside path around l counters h e right = record {
  ranges = ap (λ xs. xs ++ map (range_of core.mems around.places) counters) h.ranges ∙ ap (λ xs. map (λ (l : LoopRange). l.from) (counters_of path) ++ xs) (sym (ranges_are core.mems around.places counters)) ∙ sym (map_both (counters_of path) (map (loop_of core.mems around.places) counters))
      ∙ ap (λ xs. map (λ (l : LoopRange). l.from) (counters_of path ++ xs)) (sym e) ∙ ap (map (λ (l : LoopRange). l.from)) (sym (counters_last path l));
  size = all_size (length (around.places ++ places_in counters)) (length around.places) (length (places_in counters)) (length counters) (length (counters_of path)) (length l.loops) (length (counters_of path ++ l.loops)) (length (counters_of (path ++ l ∷ [])))
      (length-append around.places (places_in counters)) (places_length counters) h.size (ap length e ∙ loops_length core.mems around.places counters) (length-append (counters_of path) l.loops) (ap length (counters_last path l));
  go_on = subst AreSteps (sym (counters_last path l)) (All-append (λ (l : LoopRange). (1 ≤ l.by) × (1 ≤ l.par)) (counters_of path) l.loops h.go_on (subst AreSteps (sym e) (loops_go_on core outside around.places counters right)));
}
  where
    all_size : (a b c d e f g h : ℕ) → a ≡ b + c → c ≡ d → b ≡ e → f ≡ d → g ≡ e + f → h ≡ g → a ≡ h
    all_size a b c d e f g h p q r s t u = omega (arith, p, q, r, s, t, u)

-- what is done once has none
pub around_once : (path : List PlainLevel) (around : PlainAround) (l : PlainLevel) → IsAround path around → l.loops ≡ [] → IsAround (path ++ l ∷ []) around
around_once path around l h e =
    let same : counters_of path ≡ counters_of (path ++ l ∷ []) = sym (append-nil (counters_of path)) ∙ ap (λ xs. counters_of path ++ xs) (sym e) ∙ sym (counters_last path l) in
    record {
      ranges = h.ranges ∙ ap (map (λ (l : LoopRange). l.from)) same;
      size = h.size ∙ ap length same;
      go_on = subst AreSteps same h.go_on;
    }
