-- The core's node of a proper block is proper.
use Rattle.std.proofs.Common.{◌≡◌, ℕ, ◌+◌, ◌<◌, ◌≤◌, ◌==◌, nat_lt, nat_le, Bool, true, false, ◌||◌, ◌&&◌, not, List, [], ◌∷◌, ◌++◌, map, length, None, Some, refl, sym, ◌∙◌, ap, subst, arith, true≢false, eqb-true, if◌then◌else◌}
use Rattle.std.specs.List.{list_all, list_any}
use Rattle.std.specs.Prelude.{filter, flat_map, count_by, position}
use Rattle.std.proofs.lemmas.Bool.{le-leb, leb-true, lt-ltb, ltb-true, ltb-false, eq-eqb, false_from_ne_true, not-true}
use Rattle.std.proofs.lemmas.List.Folds.{list_all-append, list_any-append}
use Rattle.sp_words.specs.declared.kind.Kind.{Kind}
use Rattle.sp_tree.specs.Expressions as program
use Rattle.sp_tree.specs.PlainProgram.{PlainProgram}
use Rattle.sp_tree.specs.PlainStatement.{PlainStmts}
use Rattle.sp_tree.specs.Streams as tree
use Rattle.sp_tree.specs.Streams.{StreamStage, stream_stages, are_stages, puts_into, takes_from, joined_by, own_fifos, other_mems, is_proper}
use Rattle.sp_tree.specs.Structure.{own_mems, mems_declared}
use Rattle.sp_tree.specs.Tallies.{changes_of, uses_of, is_among}
use Rattle.sp_core.specs.Declarations as core_tree
use Rattle.sp_core.specs.Declarations.{mem}
use Rattle.sp_core.specs.declared.operation.OpKind.{OpKind}
use Rattle.sp_core.specs.OperationRules.{is_fifo}
use Rattle.sp_core.specs.PlainCore.{PlainNode, PlainCore}
use Rattle.sp_stream.specs.Proper.{is_put, is_take, is_change, is_any, acts_in, puts_and_takes, how_many, place_from, is_loop, bounds_of, has_array, has_one_at_each_end, is_shared_unchanged, is_mem_right, are_mems_right, is_stage, is_end_right, putter, taker, is_forest, is_proper_block}
use Rattle.sp_stream.proofs.Ways.{or_elim, or_first, or_second, and_elim, both_true}
use Rattle.sp_sugar.specs.Numbers.{mem_number, written_mems}
use Rattle.sp_sugar.specs.Registers.{owned_registers}
use Rattle.sp_sugar.specs.Uses.{no_more}
use Rattle.sp_sugar.proofs.NumberLemmas.{either}
use Rattle.sp_sugar.proofs.OwnerCounts.{one_if, count_of, count_append}
use Rattle.sp_sugar.proofs.Owners.{numbered_memory}
use Rattle.sp_proper.proofs.Acts.{same_fifo, put_listed, take_listed, change_listed, use_listed, acts_there, acts_added}
use Rattle.sp_proper.proofs.Counting.{Stage, tallies_of, total, one_where, total_count, one_there, none_there, position_is, Fits, most, some, placed}
use Rattle.sp_proper.proofs.Deeds.{IsChip}
use Rattle.sp_proper.proofs.Forests.{Each, forests}
use Rattle.sp_proper.proofs.Lists.{each_by, each_then, all_each, all_mapped, each_filtered, registers_least, mems_right, count_of_among, core_among, mapped_count}
use Rattle.sp_proper.proofs.Plain.{HasKinds}
use Rattle.sp_proper.proofs.RunDeeds.{neither}
use Rattle.sp_proper.proofs.Stages.{IsFresh, Chain, Fit, Staged}

-- a stage, of which no memory is another one's
record Apart (p : PlainProgram) (core : PlainCore) (outer : List ℕ) (low : ℕ) (all : List Stage) (d : Stage) (x : PlainNode) : Type 0 where
  fits : Fit p core outer low d x
  few : (m : ℕ) → count_of m d.own ≤ total (λ s. count_of m s.own) all
  from : low ≤ d.from

module _ (p : PlainProgram) (core : PlainCore) (outer : List ℕ) (low : ℕ) where
  apart_from : (all ds : List Stage) (xs : List PlainNode) (n : ℕ) → low ≤ n → Chain n ds → ((m : ℕ) → total (λ s. count_of m s.own) ds ≤ total (λ s. count_of m s.own) all) → Fits (Fit p core outer low) ds xs → Fits (Apart p core outer low all) ds xs
  apart_from all [] [] n le chain few h = tt
  apart_from all [] (x ∷ xs) n le chain few h = absurd h
  apart_from all (d ∷ ds) [] n le chain few h = absurd h
  apart_from all (d ∷ ds) (x ∷ xs) n le (a, b, c) few (h, hs) = (
    record { fits = h; few = λ m. let f = few m in omega (arith, f); from = omega (arith, le, a) },
    apart_from all ds xs d.until (omega (arith, le, a, b)) c (λ m. let f = few m in omega (arith, f)) hs,
  )

  -- at most one stage has a number for its own register
  abbrev between_numbers : ℕ → Stage → ℕ
  between_numbers r d = one_if (nat_le d.from r && nat_lt r d.until)

  numbers_later : (r n : ℕ) (ds : List Stage) → r < n → Chain n ds → total (between_numbers r) ds ≡ 0
  numbers_later r n [] lt h = refl
  numbers_later r n (d ∷ ds) lt (a, b, c) =
      let f : nat_le d.from r ≡ false = false_from_ne_true (nat_le d.from r) (λ e. let g = leb-true d.from r e in absurd (omega (arith, g, lt, a))) in
      let g : between_numbers r d ≡ 0 = ap (λ x. one_if (x && nat_lt r d.until)) f in
      omega (arith, g, numbers_later r d.until ds (omega (arith, lt, a, b)) c)

  numbers_once : (r n : ℕ) (ds : List Stage) → Chain n ds → total (between_numbers r) ds ≤ 1
  numbers_once r n [] h = omega arith
  numbers_once r n (d ∷ ds) (a, b, c) = either (nat_lt r d.until)
      (λ e. let f = numbers_later r d.until ds (ltb-true r d.until e) c in let g = at_most (nat_le d.from r && nat_lt r d.until) in omega (arith, f, g))
      (λ e. let f = numbers_once r d.until ds c in
      let g : between_numbers r d ≡ 0 = either (nat_le d.from r) (λ i. ap (λ x. one_if (x && nat_lt r d.until)) i ∙ ap one_if e) (λ i. ap (λ x. one_if (x && nat_lt r d.until)) i) in omega (arith, f, g))
    where
      at_most : (b : Bool) → one_if b ≤ 1
      at_most true = omega arith
      at_most false = omega arith

total_zero : (ds : List Stage) → total (λ d. 0) ds ≡ 0
total_zero [] = refl
total_zero (d ∷ ds) = omega (arith, total_zero ds)

-- a memory of a list that passes a test
filter_among : (is : ℕ → Bool) (m : ℕ) (xs : List ℕ) → is_among m (filter is xs) ≡ true → (is m ≡ true) × (is_among m xs ≡ true)
filter_among is m [] e = absurd (true≢false (sym e))
filter_among is m (x ∷ xs) e = either (is x)
    (λ f. or_elim (x == m) (is_among m (filter is xs)) (sym (ap (λ b. is_among m (if b then x ∷ filter is xs else filter is xs)) f) ∙ e)
    (λ g. (ap is (sym (eqb-true x m g)) ∙ f, or_first (x == m) (is_among m xs) g))
    (λ g. let r = filter_among is m xs g in (r.0, or_second (x == m) (is_among m xs) r.1)))
    (λ f. let r = filter_among is m xs (sym (ap (λ b. is_among m (if b then x ∷ filter is xs else filter is xs)) f) ∙ e) in (r.0, or_second (x == m) (is_among m xs) r.1))

flat_none : (f : StreamStage → List ℕ) (m : ℕ) (ss : List StreamStage) → is_among m (flat_map f ss) ≡ false → list_any (λ s. is_among m (f s)) ss ≡ false
flat_none f m [] e = refl
flat_none f m (s ∷ ss) e =
    neither (is_among m (f s)) (is_among m (flat_map f ss)) (sym (list_any-append (λ k. k == m) (f s) (flat_map f ss)) ∙ e)
    (λ a b. ap (λ x. x || list_any (λ s. is_among m (f s)) ss) a ∙ flat_none f m ss b)

module _ (p : PlainProgram) (core : PlainCore) (kinds : HasKinds p core) (visible : List ℕ) (n : ℕ) (body : PlainStmts) (nodes : List PlainNode) (later : length (written_mems p.mems) ≤ n)
    (fresh : IsFresh p visible (mems_declared body)) (r : Staged p core (visible ++ own_mems body) n n body nodes) (proper : is_proper p.mems body ≡ true) where
  abbrev outer : List ℕ
  outer = visible ++ own_mems body

  abbrev registers : List ℕ
  registers = owned_registers n body no_more

  abbrev owned : List ℕ
  owned = map (mem_number p.mems) (own_mems body) ++ registers

  abbrev of_all : List StreamStage
  of_all = stream_stages body

  abbrev A : Stage → PlainNode → Type 0
  A d x = Apart p core outer n r.ds d x

  apart_all : Fits A r.ds nodes
  apart_all = apart_from p core outer n r.ds r.ds nodes n (omega arith) r.chain (λ m. omega arith) r.fit

  -- a memory is visible around the stages, or declared in one of them
  unique : (m : ℕ) → count_of m outer + total (λ s. count_of m s.own) r.ds ≤ 1
  unique m = let o = r.owns m in let a = fresh.apart m in omega (arith, o, a, count_append m visible (own_mems body))

  own_outer : (m : ℕ) → 1 ≤ count_of m (own_mems body) → 1 ≤ count_of m outer
  own_outer m c = omega (arith, c, count_append m visible (own_mems body))

  own_chip : (m : ℕ) → 1 ≤ count_of m (own_mems body) → IsChip p m
  own_chip m c = let o = r.owns m in fresh.chips m (omega (arith, o, c))

  -- the rules of the program
  of_each : {P : Type 0} → (list_all (tree.has_one_at_each_end of_all) (own_fifos p.mems body) ≡ true → list_all (tree.is_shared_unchanged of_all) (other_mems p.mems body) ≡ true → tree.is_forest (flat_map (joined_by of_all) (own_fifos p.mems body)) ≡ true → P) → P
  of_each f =
      and_elim (are_stages body && list_all (λ s. not s.bounds.arrays) of_all && list_all (tree.has_one_at_each_end of_all) (own_fifos p.mems body) && list_all (tree.is_shared_unchanged of_all) (other_mems p.mems body)) _ proper
      (λ x forest. and_elim (are_stages body && list_all (λ s. not s.bounds.arrays) of_all && list_all (tree.has_one_at_each_end of_all) (own_fifos p.mems body)) _ x
      (λ y shared. and_elim (are_stages body && list_all (λ s. not s.bounds.arrays) of_all) _ y (λ z ends. f ends shared forest)))

  stages_right : (ds : List Stage) (xs : List PlainNode) → Fits A ds xs → list_all (is_stage core) xs ≡ true
  stages_right [] [] h = refl
  stages_right [] (x ∷ xs) h = absurd h
  stages_right (d ∷ ds) [] h = absurd h
  stages_right (d ∷ ds) (x ∷ xs) (a, h) = both_true (is_stage core x) (list_all (is_stage core) xs) (both_true (is_loop x) (not (has_array core (bounds_of x))) a.fits.loop (ap not a.fits.plain)) (stages_right ds xs h)

  counted : (test : StreamStage → Bool) → total (one_where test) r.ds ≡ count_by test of_all
  counted test = sym (total_count test r.ds) ∙ ap (count_by test) r.are

  few_of : (act : OpKind → Bool) (test : StreamStage → Bool) (k : ℕ) → ((d : Stage) (x : PlainNode) → A d x → acts_in act k x ≡ true → test d.of ≡ true) → how_many act k nodes ≤ count_by test of_all
  few_of act test k one = subst (λ c. how_many act k nodes ≤ c) (counted test) (most A (acts_in act k) (one_where test) (λ d x a h. one_there test d (one d x a h)) r.ds nodes apart_all)

  -- the ends of a FIFO of the block
  module _ (m : ℕ) (own : 1 ≤ count_of m (own_mems body)) where
    not_inside : {P : Type 0} (d : Stage) (x : PlainNode) → A d x → 1 ≤ count_of m d.own → P
    not_inside d x a c = let f = a.few m in let u = unique m in let o = own_outer m own in absurd (omega (arith, f, u, o, c))

    puts : (d : Stage) (x : PlainNode) → A d x → acts_in is_put (mem_number p.mems m) x ≡ true → puts_into m d.of ≡ true
    puts d x a h = acts_there p core outer n later is_put d x a.fits a.from m (own_chip m own) h (λ k e l seen. put_listed k m d.of.whole e l) (λ c. not_inside d x a c)

    takes : (d : Stage) (x : PlainNode) → A d x → acts_in is_take (mem_number p.mems m) x ≡ true → takes_from m d.of ≡ true
    takes d x a h = acts_there p core outer n later is_take d x a.fits a.from m (own_chip m own) h (λ k e l seen. take_listed k m d.of.whole e l) (λ c. not_inside d x a c)

    both_there : (d : Stage) (x : PlainNode) → A d x → puts_and_takes (mem_number p.mems m) x ≡ true → (puts_into m d.of && takes_from m d.of) ≡ true
    both_there d x a h = and_elim (acts_in is_put (mem_number p.mems m) x) (acts_in is_take (mem_number p.mems m) x) h (λ i j. both_true (puts_into m d.of) (takes_from m d.of) (puts d x a i) (takes d x a j))

    module _ (fifo : tree.is_fifo (program.mem p.mems m).kind ≡ true) where
      one_end : {P : Type 0} → (count_by (puts_into m) of_all ≤ 1 → count_by (takes_from m) of_all ≤ 1 → list_any (λ s. puts_into m s && takes_from m s) of_all ≡ false → P) → P
      one_end f = of_each (λ ends shared forest.
          and_elim (nat_le (count_by (puts_into m) of_all) 1 && nat_le (count_by (takes_from m) of_all) 1) (not (list_any (λ s. puts_into m s && takes_from m s) of_all))
          (each_filtered (tree.has_one_at_each_end of_all) (λ k. tree.is_fifo (program.mem p.mems k).kind) (own_mems body) ends m own fifo)
          (λ x c. and_elim (nat_le (count_by (puts_into m) of_all) 1) (nat_le (count_by (takes_from m) of_all) 1) x
          (λ a b. f (leb-true (count_by (puts_into m) of_all) 1 a) (leb-true (count_by (takes_from m) of_all) 1 b) (not-true (list_any (λ s. puts_into m s && takes_from m s) of_all) c))))

      one_at_each_end : has_one_at_each_end nodes (mem_number p.mems m) ≡ true
      one_at_each_end = one_end (λ a b c.
          let i = few_of is_put (puts_into m) (mem_number p.mems m) puts in
          let j = few_of is_take (takes_from m) (mem_number p.mems m) takes in
          both_true (nat_le (how_many is_put (mem_number p.mems m) nodes) 1 && nat_le (how_many is_take (mem_number p.mems m) nodes) 1) (not (list_any (puts_and_takes (mem_number p.mems m)) nodes))
          (both_true (nat_le (how_many is_put (mem_number p.mems m) nodes) 1) (nat_le (how_many is_take (mem_number p.mems m) nodes) 1)
          (le-leb (how_many is_put (mem_number p.mems m) nodes) 1 (omega (arith, i, a))) (le-leb (how_many is_take (mem_number p.mems m) nodes) 1 (omega (arith, j, b))))
          (ap not (false_from_ne_true (list_any (puts_and_takes (mem_number p.mems m)) nodes)
          (λ e. true≢false (sym (ap (list_any (λ s. puts_into m s && takes_from m s)) (sym r.are) ∙ some A (puts_and_takes (mem_number p.mems m)) (λ s. puts_into m s && takes_from m s) both_there r.ds nodes apart_all e) ∙ c)))))

      first_is : (act : OpKind → Bool) (test : StreamStage → Bool) (a : ℕ) → ((d : Stage) (x : PlainNode) → A d x → acts_in act (mem_number p.mems m) x ≡ true → test d.of ≡ true) → count_by test of_all ≤ 1
          → place_from 0 (acts_in act (mem_number p.mems m)) nodes ≡ Some a → position test of_all ≡ Some a
      first_is act test a one le h =
          ap (position test) (sym r.are) ∙ position_is test (tallies_of r.ds) a (placed A (acts_in act (mem_number p.mems m)) test one r.ds nodes 0 a apart_all (subst (λ c. c ≤ 1) (sym (counted test)) le) h)

      edge_is : (a b : ℕ) → place_from 0 (acts_in is_put (mem_number p.mems m)) nodes ≡ Some a → place_from 0 (acts_in is_take (mem_number p.mems m)) nodes ≡ Some b → joined_by of_all m ≡ (a, b) ∷ []
      edge_is a b h k = one_end (λ i j c.
          ap (λ o. elim o [ Some x ↦ elim (position (takes_from m) of_all) [ Some y ↦ (x, y) ∷ [] | None ↦ [] ] | None ↦ [] ]) (first_is is_put (puts_into m) a puts i h)
          ∙ ap (λ o. elim o [ Some y ↦ (a, y) ∷ [] | None ↦ [] ]) (first_is is_take (takes_from m) b takes j k))

    fifo_there : is_fifo (mem core (mem_number p.mems m)).kind ≡ tree.is_fifo (program.mem p.mems m).kind
    fifo_there = ap is_fifo (kinds.chips m (own_chip m own)) ∙ same_fifo (program.mem p.mems m).kind

    ends_are : (a b : ℕ) → putter core nodes (mem_number p.mems m) ≡ Some a → taker core nodes (mem_number p.mems m) ≡ Some b → (tree.is_fifo (program.mem p.mems m).kind ≡ true) × (joined_by of_all m ≡ (a, b) ∷ [])
    ends_are a b h k = either (is_fifo (mem core (mem_number p.mems m)).kind)
        (λ e. let fifo : tree.is_fifo (program.mem p.mems m).kind ≡ true = sym fifo_there ∙ e in (
          fifo,
          edge_is fifo a b
              (sym (ap (λ i. if i then place_from 0 (acts_in is_put (mem_number p.mems m)) nodes else None) e) ∙ h)
              (sym (ap (λ i. if i then place_from 0 (acts_in is_take (mem_number p.mems m)) nodes else None) e) ∙ k),
        ))
        (λ e. absurd (true≢false (ap (λ o. elim o [ Some x ↦ true | None ↦ false ]) (sym h ∙ ap (λ i. if i then place_from 0 (acts_in is_put (mem_number p.mems m)) nodes else None) e))))

    end_right : is_end_right core nodes (mem_number p.mems m) ≡ true
    end_right = either (is_fifo (mem core (mem_number p.mems m)).kind)
        (λ e. or_second (not (is_fifo (mem core (mem_number p.mems m)).kind)) (has_one_at_each_end nodes (mem_number p.mems m)) (one_at_each_end (sym fifo_there ∙ e)))
        (λ e. or_first (not (is_fifo (mem core (mem_number p.mems m)).kind)) (has_one_at_each_end nodes (mem_number p.mems m)) (ap not e))

  -- a register is no FIFO
  register_fifo : (k : ℕ) → n ≤ k → is_fifo (mem core k).kind ≡ false
  register_fifo k le = ap is_fifo (kinds.added k (omega (arith, le, later)))

  registers_high : Each (λ k. n ≤ k) registers
  registers_high = registers_least n n body no_more (omega arith)

  all_ends_right : list_all (is_end_right core nodes) owned ≡ true
  all_ends_right =
      list_all-append (is_end_right core nodes) (map (mem_number p.mems) (own_mems body)) registers
      ∙ both_true (list_all (is_end_right core nodes) (map (mem_number p.mems) (own_mems body))) (list_all (is_end_right core nodes) registers)
      (all_mapped (is_end_right core nodes) (mem_number p.mems) (own_mems body) (each_by (λ m. is_end_right core nodes (mem_number p.mems m) ≡ true) (own_mems body) end_right))
      (all_each (is_end_right core nodes) registers (each_then (λ k. n ≤ k) (λ k. is_end_right core nodes k ≡ true) registers
      (λ k le. or_first (not (is_fifo (mem core k).kind)) (has_one_at_each_end nodes k) (ap not (register_fifo k le))) registers_high))

  forest_right : is_forest core nodes owned ≡ true
  forest_right = of_each (λ ends shared forest.
      forests core nodes (mem_number p.mems) (λ m. tree.is_fifo (program.mem p.mems m).kind) (joined_by of_all) registers (own_mems body)
      (each_by (λ m. (a b : ℕ) → putter core nodes (mem_number p.mems m) ≡ Some a → taker core nodes (mem_number p.mems m) ≡ Some b → (tree.is_fifo (program.mem p.mems m).kind ≡ true) × (joined_by of_all m ≡ (a, b) ∷ [])) (own_mems body) ends_are)
      (each_then (λ k. n ≤ k) (λ k. putter core nodes k ≡ None) registers (λ k le. ap (λ i. if i then place_from 0 (acts_in is_put k) nodes else None) (register_fifo k le)) registers_high) forest)

  -- other memories
  few_users : (k : ℕ) (kind : Kind) → how_many is_any k nodes ≤ 1 → is_mem_right owned nodes k kind ≡ true
  few_users k kind h = or_second (is_fifo kind && core_tree.is_among k owned) (is_shared_unchanged nodes k) (or_first (nat_le (how_many is_any k nodes) 1) (how_many is_change k nodes == 0) (le-leb (how_many is_any k nodes) 1 h))

  no_changer : (k : ℕ) (kind : Kind) → how_many is_change k nodes ≤ 0 → is_mem_right owned nodes k kind ≡ true
  no_changer k kind h = or_second (is_fifo kind && core_tree.is_among k owned) (is_shared_unchanged nodes k) (or_second (nat_le (how_many is_any k nodes) 1) (how_many is_change k nodes == 0) (eq-eqb (how_many is_change k nodes) 0 (omega (arith, h))))

  none_of : (test : StreamStage → Bool) → list_any test of_all ≡ false → count_by test of_all ≡ 0
  none_of test e = sym (counted test) ∙ none_there test r.ds (ap (list_any test) r.are ∙ e)

  module _ (m : ℕ) (chip : IsChip p m) where
    -- one that a stage declares
    inside_right : (kind : Kind) → 1 ≤ total (λ s. count_of m s.own) r.ds → is_mem_right owned nodes (mem_number p.mems m) kind ≡ true
    inside_right kind c =
        let u = unique m in
        let f = most A (acts_in is_any (mem_number p.mems m)) (λ d. count_of m d.own)
        (λ d x a h. acts_there p core outer n later is_any d x a.fits a.from m chip h (λ k e l seen. omega (arith, seen, u, c)) (λ i. i)) r.ds nodes apart_all in
        few_users (mem_number p.mems m) kind (omega (arith, u, f))

    module _ (none : total (λ s. count_of m s.own) r.ds ≤ 0) where
      no_reset : {P : Type 0} (d : Stage) (x : PlainNode) → A d x → 1 ≤ count_of m d.own → P
      no_reset d x a c = let f = a.few m in absurd (omega (arith, f, none, c))

      uses : (d : Stage) (x : PlainNode) → A d x → acts_in is_any (mem_number p.mems m) x ≡ true → is_among m (uses_of d.of.whole) ≡ true
      uses d x a h = acts_there p core outer n later is_any d x a.fits a.from m chip h (λ k e l seen. use_listed k m d.of.whole l) (λ c. no_reset d x a c)

      changes : (d : Stage) (x : PlainNode) → A d x → acts_in is_change (mem_number p.mems m) x ≡ true → is_among m (changes_of d.of.whole) ≡ true
      changes d x a h = acts_there p core outer n later is_change d x a.fits a.from m chip h (λ k e l seen. change_listed k m d.of.whole e l) (λ c. no_reset d x a c)

      shared_right : (kind : Kind) → tree.is_shared_unchanged of_all m ≡ true → is_mem_right owned nodes (mem_number p.mems m) kind ≡ true
      shared_right kind h =
          or_elim (nat_le (count_by (λ s. is_among m (uses_of s.whole)) of_all) 1) (not (list_any (λ s. is_among m (changes_of s.whole)) of_all)) h
          (λ e. let f = few_of is_any (λ s. is_among m (uses_of s.whole)) (mem_number p.mems m) uses in let g = leb-true (count_by (λ s. is_among m (uses_of s.whole)) of_all) 1 e in few_users (mem_number p.mems m) kind (omega (arith, f, g)))
          (λ e. let f = few_of is_change (λ s. is_among m (changes_of s.whole)) (mem_number p.mems m) changes in let g = none_of (λ s. is_among m (changes_of s.whole)) (not-true (list_any (λ s. is_among m (changes_of s.whole)) of_all) e) in no_changer (mem_number p.mems m) kind (omega (arith, f, g)))

      unused_right : (kind : Kind) → is_among m (flat_map (λ s. uses_of s.whole) of_all) ≡ false → is_mem_right owned nodes (mem_number p.mems m) kind ≡ true
      unused_right kind h =
          let f = few_of is_any (λ s. is_among m (uses_of s.whole)) (mem_number p.mems m) uses in
          let g = none_of (λ s. is_among m (uses_of s.whole)) (flat_none (λ s. uses_of s.whole) m of_all h) in
          few_users (mem_number p.mems m) kind (omega (arith, f, g))

      fifo_right : is_among m (own_fifos p.mems body) ≡ true → is_mem_right owned nodes (mem_number p.mems m) (mem core (mem_number p.mems m)).kind ≡ true
      fifo_right h =
          let is = filter_among (λ k. tree.is_fifo (program.mem p.mems k).kind) m (own_mems body) h in
          let c = mapped_count (mem_number p.mems) m (own_mems body) (count_of_among m (own_mems body) is.1) in
          or_first (is_fifo (mem core (mem_number p.mems m)).kind && core_tree.is_among (mem_number p.mems m) owned) (is_shared_unchanged nodes (mem_number p.mems m))
          (both_true (is_fifo (mem core (mem_number p.mems m)).kind) (core_tree.is_among (mem_number p.mems m) owned)
          (ap is_fifo (kinds.chips m chip) ∙ same_fifo (program.mem p.mems m).kind ∙ is.0)
          (core_among (mem_number p.mems m) owned (omega (arith, c, count_append (mem_number p.mems m) (map (mem_number p.mems) (own_mems body)) registers))))

      outside_right : is_mem_right owned nodes (mem_number p.mems m) (mem core (mem_number p.mems m)).kind ≡ true
      outside_right = either (is_among m (own_fifos p.mems body))
          (λ e. fifo_right e)
          (λ e. either (is_among m (flat_map (λ s. uses_of s.whole) of_all))
          (λ f. of_each (λ ends shared forest.
          shared_right (mem core (mem_number p.mems m)).kind (each_filtered (tree.is_shared_unchanged of_all) (λ k. not (is_among k (own_fifos p.mems body))) (flat_map (λ s. uses_of s.whole) of_all) shared m (count_of_among m (flat_map (λ s. uses_of s.whole) of_all) f) (ap not e))))
          (λ f. unused_right (mem core (mem_number p.mems m)).kind f))

    chip_right : is_mem_right owned nodes (mem_number p.mems m) (mem core (mem_number p.mems m)).kind ≡ true
    chip_right = either (nat_lt 0 (total (λ s. count_of m s.own) r.ds))
        (λ e. inside_right (mem core (mem_number p.mems m)).kind (ltb-true 0 (total (λ s. count_of m s.own) r.ds) e))
        (λ e. outside_right (ltb-false 0 (total (λ s. count_of m s.own) r.ds) e))

  added_right : (k : ℕ) (kind : Kind) → length (written_mems p.mems) ≤ k → is_mem_right owned nodes k kind ≡ true
  added_right k kind le = either (nat_lt k n)
      (λ e. let lt : k < n = ltb-true k n e in
      let f = most A (acts_in is_change k) (λ d. 0)
      (λ d x a h. acts_added p core outer n later is_change d x a.fits a.from k le h (λ quiet below. absurd (true≢false (sym quiet))) (λ from until. let g = a.from in absurd (omega (arith, from, g, lt)))) r.ds nodes apart_all in
      no_changer k kind (omega (arith, f, total_zero r.ds)))
      (λ e. let above : n ≤ k = ltb-false k n e in
      let f = most A (acts_in is_any k) (between_numbers p core outer n k)
      (λ d x a h. acts_added p core outer n later is_any d x a.fits a.from k le h (λ yes below. absurd (omega (arith, below, above)))
      (λ from until. let g : one_if (nat_le d.from k && nat_lt k d.until) ≡ 1 = ap one_if (both_true (nat_le d.from k) (nat_lt k d.until) (le-leb d.from k from) (lt-ltb k d.until until)) in omega (arith, g))) r.ds nodes apart_all in
      few_users k kind (omega (arith, f, numbers_once p core outer n k n r.ds r.chain)))

  mem_right : (k : ℕ) → is_mem_right owned nodes k (mem core k).kind ≡ true
  mem_right k = either (nat_lt k (length (written_mems p.mems)))
      (λ e. let is = numbered_memory p.mems k (ltb-true k (length (written_mems p.mems)) e) in
      subst (λ j. is_mem_right owned nodes j (mem core j).kind ≡ true) is.3 (chip_right is.0 (record { exists = is.1; on_chip = is.2 })))
      (λ e. added_right k (mem core k).kind (ltb-false k (length (written_mems p.mems)) e))

  pub block_right : is_proper_block core owned nodes ≡ true
  block_right =
      both_true (list_all (is_stage core) nodes && list_all (is_end_right core nodes) owned) (are_mems_right owned nodes 0 core.mems && is_forest core nodes owned)
      (both_true (list_all (is_stage core) nodes) (list_all (is_end_right core nodes) owned) (stages_right r.ds nodes apart_all) all_ends_right)
      (both_true (are_mems_right owned nodes 0 core.mems) (is_forest core nodes owned)
      (mems_right owned nodes core.mems 0 (λ j lt. subst (λ k. is_mem_right owned nodes k (mem core j).kind ≡ true) {x = j} {y = 0 + j} (omega arith) (mem_right j)))
      forest_right)
