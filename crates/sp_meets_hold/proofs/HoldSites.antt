-- The spots of a core by their numbers, and their sites.
use Rattle.std.proofs.Common.{◌≡◌, ℕ, zero, suc, ◌+◌, Bool, true, false, ◌&&◌, List, [], ◌∷◌, ◌++◌, length, take, drop, Option, None, refl, sym, ap, ◌∙◌, subst, arith, if◌then◌else◌}
use Rattle.std.specs.Prelude.{slice_index_or, ◌==◌, nat_lt}
use Rattle.std.specs.List.{Contains, list_all}
use Rattle.std.proofs.lemmas.Bool.{and_parts, eqb-true}
use Rattle.sp_affine.specs.Affine.{Affine}
use Rattle.sp_core.specs.declared.node.SparseKind.TheVariants.{Gather, Scatter, WideLoad, WideStore}
use Rattle.sp_core.specs.Around.{Around, within, nothing}
use Rattle.sp_core.specs.Declarations.{dram}
use Rattle.sp_core.specs.Forms.{PlainForms, form_at}
use Rattle.sp_core.specs.Invariant.{IsRight, AreRight, owned_in}
use Rattle.sp_core.specs.NodeRules.{range_count, is_slice_right, is_span_right, fits_sram, is_wide_right, with_state}
use Rattle.sp_core.specs.Numbered.{Numbered, plain, accesses, transfers, list_numbers, counters_numbers, spans_numbers, numbers, stages_numbers, access_count, ranges_count, range_number}
use Rattle.sp_core.specs.Numbering.{counters_size, spans_size, number_count}
use Rattle.sp_core.specs.OperationRules.{is_access}
use Rattle.sp_core.specs.PlainCore.{PlainOp, PlainCounter, PlainSpan, single, range, PlainNode, PlainStages, inner, outer, fsm, branch, load, store, sparse, no_stage, more_stage, PlainCore}
use Rattle.sp_fitting.proofs.Rules.{here_right}
use Rattle.sp_forms_hold.proofs.RunsSizes.{list_size, bounds_size, all_spans_size, node_size, both_many}
use Rattle.sp_patterns.specs.declared.place.CounterPlace.{CounterPlace}
use Rattle.sp_patterns.specs.Ranges.{places_in}
use Rattle.sp_meets.specs.Around.{PlainLevel, in_part, changed_in, inner_level, outer_level, once}
use Rattle.sp_meets.specs.Sites.{site_of, sites_of, sites}
use Rattle.sp_meets.specs.Spots.{PlainSpot, range_sizes, op_targets, list_spots, bounds_spots, spans_spots, slice_spot, pick_spot, node_spots, stages_spots, spots}
use Rattle.sp_along.proofs.AlongNamed.{plus_assoc}
use Rattle.sp_meets_hold.proofs.HoldRising.{cases, Rising, from_less, one_of}

-- a spot for each access and transfer, by what stands at each number from one on
abbrev pub SpotsFit : ℕ → List Numbered → List PlainSpot → Type 0
SpotsFit n [] [] = Unit {0}
SpotsFit n [] (x ∷ xs) = ⊥
SpotsFit n (plain ∷ ns) xs = SpotsFit (suc n) ns xs
SpotsFit n (accesses ∷ ns) [] = ⊥
SpotsFit n (accesses ∷ ns) (x ∷ xs) = (x.number ≡ n) × (x.lengths ≡ 0) × SpotsFit (suc n) ns xs
SpotsFit n (transfers r ∷ ns) [] = ⊥
SpotsFit n (transfers r ∷ ns) (x ∷ xs) = (x.number ≡ n) × (x.lengths ≡ r) × SpotsFit (suc n) ns xs

next : (n k : ℕ) → n + suc k ≡ suc n + k
next n k = omega arith

both_fit : (n m : ℕ) (ns ms : List Numbered) (xs ys : List PlainSpot) → n + length ns ≡ m → SpotsFit n ns xs → SpotsFit m ms ys → SpotsFit n (ns ++ ms) (xs ++ ys)
both_fit n m [] ms [] ys e h k = subst (λ j. SpotsFit j ms ys) (let f : m ≡ n = omega (arith, e) in f) k
both_fit n m [] ms (x ∷ xs) ys e h k = absurd h
both_fit n m (plain ∷ ns) ms xs ys e h k = both_fit (suc n) m ns ms xs ys (sym (next n (length ns)) ∙ e) h k
both_fit n m (accesses ∷ ns) ms [] ys e h k = absurd h
both_fit n m (accesses ∷ ns) ms (x ∷ xs) ys e h k = (h.0, h.1, both_fit (suc n) m ns ms xs ys (sym (next n (length ns)) ∙ e) h.2 k)
both_fit n m (transfers r ∷ ns) ms [] ys e h k = absurd h
both_fit n m (transfers r ∷ ns) ms (x ∷ xs) ys e h k = (h.0, h.1, both_fit (suc n) m ns ms xs ys (sym (next n (length ns)) ∙ e) h.2 k)

plus_size : (n : ℕ) (ns : List Numbered) (a : ℕ) → length ns ≡ a → n + length ns ≡ n + a
plus_size n ns a e = ap (λ j. n + j) e

module _ (path : List PlainLevel) where
  one_fits : (b : Bool) (n : ℕ) (x : PlainSpot) (ns : List Numbered) (xs : List PlainSpot) → x.number ≡ n → x.lengths ≡ 0 → SpotsFit (suc n) ns xs → SpotsFit n ((if b then accesses else plain) ∷ ns) ((if b then x ∷ [] else []) ++ xs)
  one_fits true n x ns xs e f h = (e, f, h)
  one_fits false n x ns xs e f h = h

  one_more : (n : ℕ) → suc n ≡ n + 1
  one_more n = omega arith

  list_fits : (n : ℕ) (ops : List PlainOp) → SpotsFit n (list_numbers ops) (list_spots path n ops)
  list_fits n [] = tt
  list_fits n (op ∷ ops) =
      one_fits (is_access op.kind) n (record { number = n; path = path; targets = op_targets op.kind op.mem; spans = []; lengths = 0 }) (list_numbers ops) (list_spots path (n + 1) ops) refl refl
      (subst (λ j. SpotsFit j (list_numbers ops) (list_spots path (n + 1) ops)) (sym (one_more n)) (list_fits (n + 1) ops))

  two_lists : (n : ℕ) (a b : List PlainOp) → SpotsFit n (list_numbers a ++ list_numbers b) (list_spots path n a ++ list_spots path (n + length a) b)
  two_lists n a b = both_fit n (n + length a) (list_numbers a) (list_numbers b) (list_spots path n a) (list_spots path (n + length a) b) (plus_size n (list_numbers a) (length a) (list_size a)) (list_fits n a) (list_fits (n + length a) b)

  two_size : (n : ℕ) (a b : List PlainOp) → n + length (list_numbers a ++ list_numbers b) ≡ (n + length a) + length b
  two_size n a b = plus_size n (list_numbers a ++ list_numbers b) (length a + length b) (both_many (list_numbers a) (list_numbers b) (length a) (length b) (list_size a) (list_size b)) ∙ plus_assoc n (length a) (length b)

  bounds_fit : (n : ℕ) (counters : List PlainCounter) → SpotsFit n (counters_numbers counters) (bounds_spots path n counters)
  bounds_fit n [] = tt
  bounds_fit n (c ∷ counters) =
      both_fit n ((n + length c.from) + length c.until) (list_numbers c.from ++ list_numbers c.until) (counters_numbers counters) (list_spots path n c.from ++ list_spots path (n + length c.from) c.until) (bounds_spots path ((n + length c.from) + length c.until) counters)
      (two_size n c.from c.until) (two_lists n c.from c.until) (bounds_fit ((n + length c.from) + length c.until) counters)

  spans_fit : (n : ℕ) (spans : List PlainSpan) → SpotsFit n (spans_numbers spans) (spans_spots path n spans)
  spans_fit n [] = tt
  spans_fit n (single ops ∷ spans) = both_fit n (n + length ops) (list_numbers ops) (spans_numbers spans) (list_spots path n ops) (spans_spots path (n + length ops) spans) (plus_size n (list_numbers ops) (length ops) (list_size ops)) (list_fits n ops) (spans_fit (n + length ops) spans)
  spans_fit n (range a b ∷ spans) =
      both_fit n ((n + length a) + length b) (list_numbers a ++ list_numbers b) (spans_numbers spans) (list_spots path n a ++ list_spots path (n + length a) b) (spans_spots path ((n + length a) + length b) spans)
      (two_size n a b) (two_lists n a b) (spans_fit ((n + length a) + length b) spans)

  -- a transfer after its spans, and after its count
  transfer_fits : (n k : ℕ) (spans : List PlainSpan) (x : PlainSpot) → x.number ≡ n + spans_size spans → x.lengths ≡ k → SpotsFit n (spans_numbers spans ++ transfers k ∷ []) (spans_spots path n spans ++ x ∷ [])
  transfer_fits n k spans x e f =
      both_fit n (n + spans_size spans) (spans_numbers spans) (transfers k ∷ []) (spans_spots path n spans) (x ∷ []) (plus_size n (spans_numbers spans) (spans_size spans) (all_spans_size spans)) (spans_fit n spans) (e, f, tt)

  counted_fits : (n k : ℕ) (spans : List PlainSpan) (count : List PlainOp) (x : PlainSpot) → x.number ≡ (n + spans_size spans) + length count → x.lengths ≡ k → SpotsFit n (spans_numbers spans ++ (list_numbers count ++ transfers k ∷ [])) (spans_spots path n spans ++ (list_spots path (n + spans_size spans) count ++ x ∷ []))
  counted_fits n k spans count x e f =
      both_fit n (n + spans_size spans) (spans_numbers spans) (list_numbers count ++ transfers k ∷ []) (spans_spots path n spans) (list_spots path (n + spans_size spans) count ++ x ∷ []) (plus_size n (spans_numbers spans) (spans_size spans) (all_spans_size spans)) (spans_fit n spans)
      (both_fit (n + spans_size spans) ((n + spans_size spans) + length count) (list_numbers count) (transfers k ∷ []) (list_spots path (n + spans_size spans) count) (x ∷ []) (plus_size (n + spans_size spans) (list_numbers count) (length count) (list_size count)) (list_fits (n + spans_size spans) count) (e, f, tt))

-- a slice has a span for each dimension
sizes_count : (spans : List PlainSpan) (ds : List ℕ) → length spans ≡ length ds → length (range_sizes spans ds) ≡ range_count spans
sizes_count [] [] e = refl
sizes_count [] (d ∷ ds) e = refl
sizes_count (single ops ∷ spans) [] e = absurd (omega (arith, e))
sizes_count (range a b ∷ spans) [] e = absurd (omega (arith, e))
sizes_count (single ops ∷ spans) (d ∷ ds) e = sizes_count spans ds (omega (arith, e))
sizes_count (range a b ∷ spans) (d ∷ ds) e = let h = sizes_count spans ds (omega (arith, e)) in omega (arith, h)

module _ (core : PlainCore) where
  slice_count : (outside : Around) (r : ℕ) (spans : List PlainSpan) → is_slice_right core outside r spans ≡ true → length (range_sizes spans (dram core r).dims) ≡ range_count spans
  slice_count outside r spans e =
      let a = and_parts (nat_lt r (length core.ports.drams) && (length spans == length (dram core r).dims)) (list_all (is_span_right core outside) spans) e in
      let b = and_parts (nat_lt r (length core.ports.drams)) (length spans == length (dram core r).dims) a.0 in
      sizes_count spans (dram core r).dims (eqb-true (length spans) (length (dram core r).dims) b.1)

  wide_slice : (outside : Around) (r m : ℕ) (index : Option ℕ) (spans : List PlainSpan) (count : List PlainOp) (par : ℕ) → is_wide_right core outside r m index spans count par ≡ true → is_slice_right core outside r spans ≡ true
  wide_slice outside r m index spans count par e = (and_parts (is_slice_right core outside r spans) (fits_sram core outside r m spans) (and_parts (is_slice_right core outside r spans && fits_sram core outside r m spans) _ e).0).0

  mutual
    node_fits : (node : PlainNode) (outside : Around) (earlier : List ℕ) → IsRight core outside earlier node → (path : List PlainLevel) (places : List CounterPlace) (n : ℕ) → SpotsFit n (numbers node) (node_spots core path places n node)
    node_fits (inner counters owned ops comb) outside earlier right path places n =
        both_fit n (n + counters_size counters) (counters_numbers counters) (list_numbers ops) (bounds_spots path n counters) _ (plus_size n (counters_numbers counters) (counters_size counters) (bounds_size counters)) (bounds_fit path n counters)
        (list_fits (path ++ inner_level core.mems places counters (changed_in (inner counters owned ops comb)) ∷ []) (n + counters_size counters) ops)
    node_fits (outer counters style owned stages) outside earlier right path places n =
        both_fit n (n + counters_size counters) (counters_numbers counters) (stages_numbers stages) (bounds_spots path n counters) _ (plus_size n (counters_numbers counters) (counters_size counters) (bounds_size counters)) (bounds_fit path n counters)
        (stages_fit stages (within outside counters owned) (earlier ++ owned) right.1 path (outer_level core.mems places counters style owned (changed_in (outer counters style owned stages))) (places ++ places_in counters) 0 (n + counters_size counters))
    node_fits (fsm start state test body next) outside earlier right path places n =
        let c = changed_in (fsm start state test body next) in
        let tests = list_spots (path ++ once c ∷ []) (n + length start) test in
        let bodies = node_spots core (path ++ in_part 1 (once c) ∷ []) places ((n + length start) + length test) body in
        let nexts = list_spots (path ++ in_part 2 (once c) ∷ []) (((n + length start) + length test) + number_count body) next in
        both_fit n ((n + length start) + length test) (list_numbers start ++ list_numbers test) (numbers body ++ list_numbers next) (list_spots path n start ++ tests) (bodies ++ nexts) (two_size path n start test)
        (both_fit n (n + length start) (list_numbers start) (list_numbers test) (list_spots path n start) tests (plus_size n (list_numbers start) (length start) (list_size start)) (list_fits path n start) (list_fits (path ++ once c ∷ []) (n + length start) test))
        (both_fit ((n + length start) + length test) (((n + length start) + length test) + number_count body) (numbers body) (list_numbers next) bodies nexts (plus_size ((n + length start) + length test) (numbers body) (number_count body) (node_size body))
        (node_fits body (with_state core outside state) (earlier ++ state ∷ []) right.1 (path ++ in_part 1 (once c) ∷ []) places ((n + length start) + length test)) (list_fits (path ++ in_part 2 (once c) ∷ []) (((n + length start) + length test) + number_count body) next))
    node_fits (branch test first second) outside earlier right path places n =
        let c = changed_in (branch test first second) in
        let tests = list_spots (path ++ once c ∷ []) n test in
        let firsts = node_spots core (path ++ in_part 1 (once c) ∷ []) places (n + length test) first in
        let seconds = node_spots core (path ++ in_part 2 (once c) ∷ []) places ((n + length test) + number_count first) second in
        both_fit n (n + length test) (list_numbers test) (numbers first ++ numbers second) tests (firsts ++ seconds) (plus_size n (list_numbers test) (length test) (list_size test)) (list_fits (path ++ once c ∷ []) n test)
        (both_fit (n + length test) ((n + length test) + number_count first) (numbers first) (numbers second) firsts seconds (plus_size (n + length test) (numbers first) (number_count first) (node_size first))
        (node_fits first outside earlier right.1 (path ++ in_part 1 (once c) ∷ []) places (n + length test)) (node_fits second outside (earlier ++ owned_in first) right.2 (path ++ in_part 2 (once c) ∷ []) places ((n + length test) + number_count first)))
    node_fits (load r m spans) outside earlier right path places n =
        let e = (here_right core outside earlier (load r m spans) right).0 in
        transfer_fits path n (range_count spans) spans (slice_spot core path (n + spans_size spans) true r m spans) refl (slice_count outside r spans (and_parts (is_slice_right core outside r spans) _ e).0)
    node_fits (store r m spans) outside earlier right path places n =
        let e = (here_right core outside earlier (store r m spans) right).0 in
        transfer_fits path n (range_count spans) spans (slice_spot core path (n + spans_size spans) false r m spans) refl (slice_count outside r spans (and_parts (is_slice_right core outside r spans) (fits_sram core outside r m spans) e).0)
    node_fits (sparse Gather r m p spans count par) outside earlier right path places n = counted_fits path n 1 spans count (pick_spot core path ((n + spans_size spans) + length count) true r m p) refl refl
    node_fits (sparse Scatter r m p spans count par) outside earlier right path places n = counted_fits path n 1 spans count (pick_spot core path ((n + spans_size spans) + length count) false r m p) refl refl
    node_fits (sparse WideLoad r m p spans count par) outside earlier right path places n =
        let e = (here_right core outside earlier (sparse WideLoad r m p spans count par) right).0 in
        counted_fits path n (range_count spans) spans count (slice_spot core path ((n + spans_size spans) + length count) true r m spans) refl (slice_count outside r spans (wide_slice outside r m p spans count par e))
    node_fits (sparse WideStore r m p spans count par) outside earlier right path places n =
        let e = (here_right core outside earlier (sparse WideStore r m p spans count par) right).0 in
        counted_fits path n (range_count spans) spans count (slice_spot core path ((n + spans_size spans) + length count) false r m spans) refl (slice_count outside r spans (wide_slice outside r m p spans count par e))

    stages_fit : (stages : PlainStages) (outside : Around) (earlier : List ℕ) → AreRight core outside earlier stages → (path : List PlainLevel) (l : PlainLevel) (places : List CounterPlace) (s n : ℕ) → SpotsFit n (stages_numbers stages) (stages_spots core path l places s n stages)
    stages_fit no_stage outside earlier right path l places s n = tt
    stages_fit (more_stage first last comb node rest) outside earlier right path l places s n =
        both_fit n (n + number_count node) (numbers node) (stages_numbers rest) (node_spots core (path ++ in_part s l ∷ []) places n node) (stages_spots core path l places (suc s) (n + number_count node) rest) (plus_size n (numbers node) (number_count node) (node_size node))
        (node_fits node outside earlier right.0 (path ++ in_part s l ∷ []) places n) (stages_fit rest outside (earlier ++ owned_in node) right.1 path l places (suc s) (n + number_count node))

  pub spots_fit : IsRight core nothing [] core.root → SpotsFit 0 (numbers core.root) (spots core)
  spots_fit right = node_fits core.root nothing [] right (once (changed_in core.root) ∷ []) [] 0

-- the numbers of spots rise
abbrev number_of : PlainSpot → ℕ
number_of x = x.number

fits_rise : (n : ℕ) (ns : List Numbered) (xs : List PlainSpot) → SpotsFit n ns xs → Rising number_of n (n + length ns) xs
fits_rise n [] [] h = omega arith
fits_rise n [] (x ∷ xs) h = absurd h
fits_rise n (plain ∷ ns) xs h = from_less number_of n (suc n) (n + suc (length ns)) xs (omega arith) (subst (λ m. Rising number_of (suc n) m xs) (sym (next n (length ns))) (fits_rise (suc n) ns xs h))
fits_rise n (accesses ∷ ns) [] h = absurd h
fits_rise n (accesses ∷ ns) (x ∷ xs) h = (let a = h.0 in omega (arith, a), subst (λ k. Rising number_of (suc k) (n + suc (length ns)) xs) (sym h.0) (subst (λ m. Rising number_of (suc n) m xs) (sym (next n (length ns))) (fits_rise (suc n) ns xs h.2)))
fits_rise n (transfers r ∷ ns) [] h = absurd h
fits_rise n (transfers r ∷ ns) (x ∷ xs) h = (let a = h.0 in omega (arith, a), subst (λ k. Rising number_of (suc k) (n + suc (length ns)) xs) (sym h.0) (subst (λ m. Rising number_of (suc n) m xs) (sym (next n (length ns))) (fits_rise (suc n) ns xs h.2)))

pub one_spot : (core : PlainCore) → IsRight core nothing [] core.root → (x y : PlainSpot) → Contains (spots core) x → Contains (spots core) y → x.number ≡ y.number → x ≡ y
one_spot core right x y a b e = one_of number_of 0 (0 + length (numbers core.root)) (spots core) (fits_rise 0 (numbers core.root) (spots core) (spots_fit core right)) x y a b e

-- the site of a spot, by the forms and lengths before it
record HasSite (n : ℕ) (ns : List Numbered) (xs : List PlainSpot) (rows : List (Option (List Affine))) (lens : List (Option ℕ)) (x : PlainSpot) : Type 0 where
  at : ℕ
  number : x.number ≡ n + at
  site : Contains (sites_of xs rows lens) (site_of x (slice_index_or rows (access_count (take at ns)) None) (drop (ranges_count (take at ns)) lens))

add_one : {A : Type 0} (x y : A) (xs : List A) → Contains xs y → Contains (x ∷ xs) y
add_one x y xs (k, l, e) = (suc k, omega arith, e)

none_left : (a : ℕ) → drop {A = Option ℕ} a [] ≡ []
none_left zero = refl
none_left (suc a) = refl

drop_drop : (a b : ℕ) (xs : List (Option ℕ)) → drop a (drop b xs) ≡ drop (b + a) xs
drop_drop a zero xs = let e : a ≡ 0 + a = omega arith in ap (λ k. drop k xs) e
drop_drop a (suc b) [] = none_left a ∙ sym (none_left (suc b + a))
drop_drop a (suc b) (x ∷ xs) = let e : suc b + a ≡ suc (b + a) = omega arith in drop_drop a b xs ∙ sym (ap (λ k. drop k (x ∷ xs)) e)

drop_at : (a : ℕ) (xs : List (Option (List Affine))) → slice_index_or (drop 1 xs) a None ≡ slice_index_or xs (1 + a) None
drop_at a [] = refl
drop_at a (x ∷ xs) = let e : suc a ≡ 1 + a = omega arith in ap (λ k. slice_index_or (x ∷ xs) k None) e

nothing_more : (n : ℕ) → n ≡ n + 0
nothing_more n = omega arith

sites_at : (n : ℕ) (ns : List Numbered) (xs : List PlainSpot) (rows : List (Option (List Affine))) (lens : List (Option ℕ)) → SpotsFit n ns xs → (x : PlainSpot) → Contains xs x → HasSite n ns xs rows lens x
sites_at n [] [] rows lens h x c = absurd (let l = c.1 in omega (arith, l))
sites_at n [] (y ∷ xs) rows lens h x c = absurd h
sites_at n (plain ∷ ns) xs rows lens h x c =
    let rest = sites_at (suc n) ns xs rows lens h x c in
    record { at = suc rest.at; number = rest.number ∙ sym (next n rest.at); site = rest.site }
sites_at n (accesses ∷ ns) [] rows lens h x c = absurd h
sites_at n (accesses ∷ ns) (y ∷ xs) rows lens h x c =
    cases (HasSite n (accesses ∷ ns) (y ∷ xs) rows lens) y xs x c
    (λ e. subst (HasSite n (accesses ∷ ns) (y ∷ xs) rows lens) e (record { at = 0; number = h.0 ∙ nothing_more n; site = (0, omega arith, refl) }))
    (λ more.
    let rest = sites_at (suc n) ns xs (drop 1 rows) (drop y.lengths lens) h.2 x more in
    record {
      at = suc rest.at;
      number = rest.number ∙ sym (next n rest.at);
      site = add_one (site_of y (slice_index_or rows 0 None) lens) _ (sites_of xs (drop 1 rows) (drop y.lengths lens))
          (subst (λ row. Contains (sites_of xs (drop 1 rows) (drop y.lengths lens)) (site_of x row (drop (ranges_count (take rest.at ns)) lens))) (drop_at (access_count (take rest.at ns)) rows)
          (subst (λ ls. Contains (sites_of xs (drop 1 rows) (drop y.lengths lens)) (site_of x (slice_index_or (drop 1 rows) (access_count (take rest.at ns)) None) ls)) (drop_drop (ranges_count (take rest.at ns)) y.lengths lens ∙ ap (λ k. drop k lens) (let a = h.1 in let e : y.lengths + ranges_count (take rest.at ns) ≡ ranges_count (take rest.at ns) = omega (arith, a) in e)) rest.site));
    })
sites_at n (transfers r ∷ ns) [] rows lens h x c = absurd h
sites_at n (transfers r ∷ ns) (y ∷ xs) rows lens h x c =
    cases (HasSite n (transfers r ∷ ns) (y ∷ xs) rows lens) y xs x c
    (λ e. subst (HasSite n (transfers r ∷ ns) (y ∷ xs) rows lens) e (record { at = 0; number = h.0 ∙ nothing_more n; site = (0, omega arith, refl) }))
    (λ more.
    let rest = sites_at (suc n) ns xs (drop 1 rows) (drop y.lengths lens) h.2 x more in
    record {
      at = suc rest.at;
      number = rest.number ∙ sym (next n rest.at);
      site = add_one (site_of y (slice_index_or rows 0 None) lens) _ (sites_of xs (drop 1 rows) (drop y.lengths lens))
          (subst (λ row. Contains (sites_of xs (drop 1 rows) (drop y.lengths lens)) (site_of x row (drop (r + ranges_count (take rest.at ns)) lens))) (drop_at (access_count (take rest.at ns)) rows)
          (subst (λ ls. Contains (sites_of xs (drop 1 rows) (drop y.lengths lens)) (site_of x (slice_index_or (drop 1 rows) (access_count (take rest.at ns)) None) ls)) (drop_drop (ranges_count (take rest.at ns)) y.lengths lens ∙ ap (λ k. drop (k + ranges_count (take rest.at ns)) lens) h.1) rest.site));
    })

-- the site of a spot of a core
pub site_there : (core : PlainCore) → IsRight core nothing [] core.root → (forms : PlainForms) (x : PlainSpot) → Contains (spots core) x → Contains (sites core forms) (site_of x (form_at core forms x.number) (drop (range_number core x.number) forms.lengths))
site_there core right forms x c =
    let s = sites_at 0 (numbers core.root) (spots core) forms.forms forms.lengths (spots_fit core right) x c in
    let e : s.at ≡ x.number = let a = s.number in omega (arith, a) in
    subst (λ k. Contains (sites core forms) (site_of x (slice_index_or forms.forms (access_count (take k (numbers core.root))) None) (drop (ranges_count (take k (numbers core.root))) forms.lengths))) e s.site
