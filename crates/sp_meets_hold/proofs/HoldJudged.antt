-- Each two events of a run stand in the meets, where they have to.
use Rattle.std.proofs.Common.{◌≡◌, ℕ, zero, suc, ◌+◌, ◌-◌, ◌<◌, ◌≤◌, Bool, true, false, ◌&&◌, ◌||◌, not, ℤ, List, [], ◌∷◌, length, map, get_or, inl, inr, refl, sym, ap, ◌∙◌, subst, arith, if◌then◌else◌}
use Rattle.std.specs.Prelude.{◌⊎◌, ◌==◌, nat_lt}
use Rattle.std.specs.List.{Contains, list_any}
use Rattle.std.proofs.lemmas.Bool.{and_parts, and_from, eqb-true, false≢true, or_cases}
use Rattle.sp_core.specs.declared.access.Meet.{Meet}
use Rattle.sp_core.specs.Declarations.{kind_of, dims, is_among, is_stream}
use Rattle.sp_core.specs.Events.{At, When, before, in_group_of, in_turn, Event}
use Rattle.sp_core.specs.History.{History}
use Rattle.sp_core.specs.Invariant.{IsCore}
use Rattle.sp_core.specs.Meeting.{Together, in_loop, in_one_turn, nowhere, together, together_at, changes, element, Outer, outers, are_at_once, owns, is_one_element, is_at_once, share_port, stand, do_stand, is_met}
use Rattle.sp_core.specs.PlainCore.{PlainNode, inner, outer, fsm, branch, load, store, sparse, PlainCore}
use Rattle.sp_core.specs.Scope.{in_lanes, group_values}
use Rattle.sp_core.specs.Store.{Store}
use Rattle.sp_deps.specs.declared.access.LoopRange.{LoopRange}
use Rattle.sp_deps.specs.Groups.{AreGroupsOn}
use Rattle.sp_patterns.specs.declared.place.CounterPlace.{CounterPlace}
use Rattle.sp_meets.specs.Around.{PlainLevel, loop_of}
use Rattle.sp_meets.specs.Between as between
use Rattle.sp_meets.specs.Meets.{IsMeetsOf}
use Rattle.sp_along.specs.MetGroups.{HaveSteps, GroupsGoOn}
use Rattle.sp_along.specs.MetTouching.{MetAccessesStand}
use Rattle.sp_along.specs.MetTraces.{stage_in, loops_in, HasGroup}
use Rattle.sp_along.specs.Along.{counters_at, level_of, IsTurn, IsPart, IsOuter, IsLevelAt}
use Rattle.sp_along.specs.AlongControllers.{Ran, ran_in}
use Rattle.sp_along.specs.AlongTextOrder.{IsOneRound}
use Rattle.sp_touched.specs.Touched.{AreSteps}
use Rattle.sp_meets_hold.proofs.HoldLevels.{its_loops, group_length}
use Rattle.sp_meets_hold.proofs.HoldMeeting.{IsSomewhere, any_in}
use Rattle.sp_meets_hold.proofs.HoldOuters.{one_outer}
use Rattle.sp_meets_hold.proofs.HoldPairs.{forms, IsKnown, Meets, they_meet, first_spot, second_spot, first_part, second_part, views, same_loops, steps_here, met, they_stand}
use Rattle.sp_meets_hold.proofs.HoldValues.{node_steps}

-- what two places at one loop, or in one turn, say of their times
record InLoop (k : ℕ) (w x : When) (node g i : ℕ) (one : Bool) : Type 0 where
  s : ℕ
  r : ℕ
  first : w ≡ in_group_of g s
  second : x ≡ in_group_of i r
  node_is : k ≡ node
  stages : one ≡ (s == r)

no_loop : (b : Bool) (node g i : ℕ) (one : Bool) → (if b then in_one_turn else nowhere) ≡ in_loop node g i one → ⊥
no_loop true node g i one h = cc
no_loop false node g i one h = cc

in_its_loop : (k : ℕ) (w x : When) (node g i : ℕ) (one : Bool) → together_at k w x ≡ in_loop node g i one → InLoop k w x node g i one
in_its_loop k (in_group_of u s) (in_group_of v r) node g i one h =
    let a : k ≡ node = cc in
    let b : u ≡ g = cc in
    let c : v ≡ i = cc in
    let d : one ≡ (s == r) = cc in
    record { s = s; r = r; first = ap (λ z. in_group_of z s) b; second = ap (λ z. in_group_of z r) c; node_is = a; stages = d }
in_its_loop k (in_turn t) (in_turn u) node g i one h = absurd (no_loop (t == u) node g i one h)
in_its_loop k before x node g i one h = absurd (cc)
in_its_loop k (in_group_of u s) before node g i one h = absurd (cc)
in_its_loop k (in_group_of u s) (in_turn t) node g i one h = absurd (cc)
in_its_loop k (in_turn t) before node g i one h = absurd (cc)
in_its_loop k (in_turn t) (in_group_of u s) node g i one h = absurd (cc)

record InTurns (w x : When) : Type 0 where
  t : ℕ
  u : ℕ
  first : w ≡ in_turn t
  second : x ≡ in_turn u

in_its_turn : (k : ℕ) (w x : When) → together_at k w x ≡ in_one_turn → InTurns w x
in_its_turn k (in_turn t) (in_turn u) h = record { t = t; u = u; first = refl; second = refl }
in_its_turn k (in_group_of u s) (in_group_of v r) h = absurd (cc)
in_its_turn k before x h = absurd (cc)
in_its_turn k (in_group_of u s) before h = absurd (cc)
in_its_turn k (in_group_of u s) (in_turn t) h = absurd (cc)
in_its_turn k (in_turn t) before h = absurd (cc)
in_its_turn k (in_turn t) (in_group_of u s) h = absurd (cc)

-- tests
decide : (a x d s : Bool) → (a ≡ false → x ≡ false → d ≡ false → s ≡ true) → ((a || x) || (d || s)) ≡ true
decide true x d s f = refl
decide false true d s f = refl
decide false false true s f = refl
decide false false false s f = f refl refl refl

decide_turn : (x d s : Bool) → (x ≡ false → d ≡ false → s ≡ true) → (x || (d || s)) ≡ true
decide_turn true d s f = refl
decide_turn false true s f = refl
decide_turn false false s f = f refl refl

one_of_both : (p q : Bool) → (not p && not q) ≡ false → (p ≡ true) ⊎ (q ≡ true)
one_of_both true q h = inl refl
one_of_both false true h = inr refl
one_of_both false false h = absurd (false≢true (sym h))

was_true : (p : Bool) → not p ≡ false → p ≡ true
was_true true h = refl
was_true false h = absurd (false≢true (sym h))

same_number : (k : ℕ) → (k == k) ≡ true
same_number k = grind arith

as_test : (x y : ℕ) → x ≡ y → (x == y) ≡ true
as_test x y e = ap (λ z. z == y) e ∙ same_number y

less_then : (n m : ℕ) → n ≤ m → (n ≡ m → ⊥) → n < m
less_then n m l f = omega (arith, l, f)

other_numbers : (n m k : ℕ) → ((n == m) && (k == 0)) ≡ false → k ≡ 0 → n ≤ m → n < m
other_numbers n m k h e l = go (n == m) refl
  where
    go : (b : Bool) → (n == m) ≡ b → n < m
    go true t = absurd (false≢true (sym h ∙ ap (λ b. b && (k == 0)) t ∙ as_test k 0 e))
    go false t = less_then n m l (λ q. false≢true (sym t ∙ as_test n m q))

not_owned : (o : Bool) (g i : ℕ) → (o && not (g == i)) ≡ false → (g ≡ i → ⊥) → o ≡ false
not_owned false g i h f = refl
not_owned true g i h f = absurd (f (eqb-true g i (was_true (g == i) h)))

-- an element of a list that passes a test
record Passes {A : Type 0} (p : A → Bool) (xs : List A) : Type 0 where
  one : A
  has : Contains xs one
  so : p one ≡ true

some_passes : {A : Type 0} (p : A → Bool) (xs : List A) → list_any p xs ≡ true → Passes p xs
some_passes p [] h = absurd (false≢true h)
some_passes p (x ∷ xs) h = elim (or_cases (p x) (list_any p xs) h) [
  | inl e ↦ record { one = x; has = (0, omega arith, refl); so = e }
  | inr e ↦ let r = some_passes p xs e in record { one = r.one; has = (let c = r.has in (suc c.0, (let l = c.1 in omega (arith, l)), c.2)); so = r.so }
]

-- of a controller without counters
on_none : (ls : List LoopRange) (xs ys : List ℤ) (k : ℕ) → AreGroupsOn ls xs ys k → length ls ≡ 0 → length xs ≡ 0 → length ys ≡ 0 → k ≡ 0
on_none [] [] [] k h a b c = h
on_none [] [] (y ∷ ys) k h a b c = absurd (omega (arith, c))
on_none [] (x ∷ xs) ys k h a b c = absurd (omega (arith, b))
on_none (l ∷ ls) xs ys k h a b c = absurd (omega (arith, a))

none_on : (ls : List LoopRange) (xs ys : List ℤ) → length xs ≡ length ls → xs ≡ [] → ys ≡ [] → AreGroupsOn ls xs ys 0
none_on ls xs ys e p q = subst (λ z. AreGroupsOn ls z ys 0) (sym p) (subst (λ z. AreGroupsOn ls [] z 0) (sym q) (go ls (sym e ∙ ap length p)))
  where
    go : (ls : List LoopRange) → length ls ≡ 0 → AreGroupsOn ls [] [] 0
    go [] e = refl
    go (l ∷ ls) e = absurd (omega (arith, e))

-- a level at a loop: what has a copy for each group is what its controller owns
not_copied : (core : PlainCore) (ran : Ran) (places : List CounterPlace) (a : At) (rest : List At) (l : PlainLevel) (x : ℕ) → IsLevelAt core ran places a rest l → owns core a.node x ≡ false → is_among x l.copied ≡ false
not_copied core ran places a rest l x level not_owned = ap (λ (z : PlainLevel). is_among x z.copied) level.is ∙ by_node ran.node level.outer
  where
    by_node : (n : PlainNode) → IsOuter (outers 0 core.root) a.node n → is_among x (level_of core.mems places n).copied ≡ false
    by_node (outer counters style owned stages) has = go (is_among x owned) refl
      where
        go : (b : Bool) → is_among x owned ≡ b → is_among x owned ≡ false
        go false e = e
        go true e = absurd (false≢true (sym not_owned ∙ any_in (λ (o : Outer). (o.node == a.node) && is_among x o.owned) (outers 0 core.root) _ has (and_from (a.node == a.node) (is_among x owned) (same_number a.node) e)))
    by_node (inner counters owned ops comb) has = refl
    by_node (fsm start state test body next) has = refl
    by_node (branch test first second) has = refl
    by_node (load r m spans) has = refl
    by_node (store r m spans) has = refl
    by_node (sparse kind r m p spans count par) has = refl

not_same : (b : Bool) → not b ≡ true → b ≡ false
not_same true h = absurd (false≢true h)
not_same false h = refl

-- two stages that may be at work at once
at_once_there : (core : PlainCore) (ran : Ran) (places : List CounterPlace) (a b : At) (p q : List At) (l m : PlainLevel) (node g i : ℕ) (one : Bool) → IsLevelAt core ran places a p l → IsLevelAt core ran places b q m → InLoop a.node a.when b.when node g i one → (not one && is_at_once core node) ≡ true → (not (l.part == m.part) && l.at_once) ≡ true
at_once_there core ran places a b p q l m node g i one first second times h = by_node ran.node first.part second.part first.outer (ap (λ (z : PlainLevel). z.at_once) first.is)
  where
    parts : (not one ≡ true) × (is_at_once core node ≡ true)
    parts = and_parts (not one) (is_at_once core node) h

    other_stages : (times.s == times.r) ≡ false
    other_stages = sym times.stages ∙ not_same one parts.0

    by_node : (n : PlainNode) → IsPart n a.when l.part → IsPart n b.when m.part → IsOuter (outers 0 core.root) a.node n → l.at_once ≡ (level_of core.mems places n).at_once → (not (l.part == m.part) && l.at_once) ≡ true
    by_node (outer counters style owned stages) x y has e =
        let one_part : l.part ≡ times.s = x ∙ ap stage_in times.first in
        let two_part : m.part ≡ times.r = y ∙ ap stage_in times.second in
        let differ : (l.part == m.part) ≡ false = ap (λ z. z == m.part) one_part ∙ ap (λ z. times.s == z) two_part ∙ other_stages in
        let passing = some_passes (λ (o : Outer). (o.node == node) && o.at_once) (outers 0 core.root) parts.1 in
        let so = and_parts (passing.one.node == node) passing.one.at_once passing.so in
        let own : Outer = record { node = a.node; stream = is_stream style; at_once = are_at_once counters style; owned = owned } in
        let same : passing.one ≡ own = one_outer core.root passing.one own passing.has has (eqb-true passing.one.node node so.0 ∙ sym times.node_is) in
        and_from (not (l.part == m.part)) l.at_once (ap not differ) (e ∙ ap (λ (o : Outer). o.at_once) (sym same) ∙ so.1)
    by_node (inner counters owned ops comb) x y has e = absurd (false≢true (sym other_stages ∙ as_test times.s times.r (sym (ap stage_in times.first) ∙ x.1 ∙ sym y.1 ∙ ap stage_in times.second)))
    by_node (fsm start state test body next) x y has e = absurd (no_turn a.when x times.first)
      where
        no_turn : (w : When) → IsTurn w → w ≡ in_group_of g times.s → ⊥
        no_turn before x e = x
        no_turn (in_group_of g s) x e = x
        no_turn (in_turn t) x e = cc
    by_node (branch test first second) x y has e = absurd (no_turn a.when x times.first)
      where
        no_turn : (w : When) → IsTurn w → w ≡ in_group_of g times.s → ⊥
        no_turn before x e = x
        no_turn (in_group_of g s) x e = x
        no_turn (in_turn t) x e = cc
    by_node (load r m spans) x y has e = absurd x
    by_node (store r m spans) x y has e = absurd x
    by_node (sparse kind r m p spans count par) x y has e = absurd x

module _ (core : PlainCore) (h : History) (begun : List At → Store) (is_core : IsCore core) (law : MetAccessesStand) (go_on : GroupsGoOn) (meets : List Meet) (right : IsMeetsOf core (forms core h begun) meets) where
  module _ (s u : Store) (e f : Event) (a : IsKnown core h begun s e) (b : IsKnown core h begun u f) (same : f.mem ≡ e.mem) (ch : (changes e.act || changes f.act) ≡ true) where
    abbrev T : Together
    T = together core e.standing.path f.standing.path

    one_element : is_one_element core e f ≡ true → element (kind_of core e.mem) (dims core e.mem) e.indices ≡ element (kind_of core e.mem) (dims core e.mem) f.indices
    one_element t = eqb-true _ _ t ∙ ap (λ x. element (kind_of core x) (dims core x) f.indices) same

    loops_here : (m : Meets core h begun s u e f a b) (node g i : ℕ) (one : Bool) → InLoop m.here.node m.here.when m.there.when node g i one → g ≤ i → AreGroupsOn m.first.loops m.xs m.ys (i - g)
    loops_here m node g i one times l =
        let all = loops_in in_lanes core.root h m.around in
        let ran = ran_in core.root h m.around in
        let first : (g < length (group_values all)) × (get_or (group_values all) g [] ≡ m.xs) = subst (λ w. HasGroup all w m.xs) times.first m.first_group in
        let second : (i < length (group_values all)) × (get_or (group_values all) i [] ≡ m.ys) = subst (λ w. HasGroup all w m.ys) times.second m.second_group in
        let loops_are : m.first.loops ≡ map (loop_of core.mems m.places) (counters_at ran.node) = its_loops core ran m.places m.here m.first_rest m.first m.first_level in
        let size : length (loops_in in_lanes ran.node ran.history []) ≡ length (counters_at ran.node) =
        ap length (sym m.linked) ∙ sym (group_length all g first.0) ∙ ap length first.1 ∙ m.first_size ∙ ap length loops_are ∙ map_length (loop_of core.mems m.places) (counters_at ran.node) in
        let steps : HaveSteps m.first.loops all =
        subst (λ ls. HaveSteps ls all) (sym loops_are) (subst (HaveSteps (map (loop_of core.mems m.places) (counters_at ran.node))) (sym m.linked)
        (node_steps core.mems m.places ran.node ran.history size (subst AreSteps loops_are (steps_here core h begun s u e f a b m)))) in
        subst (λ z. AreGroupsOn m.first.loops z m.ys (i - g)) first.1 (subst (λ z. AreGroupsOn m.first.loops (get_or (group_values all) g []) z (i - g)) second.1
        (go_on m.first.loops all g (i - g) i steps (back g i l) second.0))
      where
        back : (g i : ℕ) → g ≤ i → g + (i - g) ≡ i
        back g i l = omega (arith, l)

        map_length : {A B : Type 0} (f : A → B) (xs : List A) → length (map f xs) ≡ length xs
        map_length f [] = refl
        map_length f (x ∷ xs) = ap suc (map_length f xs)

    in_loop_stands : (m : Meets core h begun s u e f a b) (node g i : ℕ) (one : Bool) → InLoop m.here.node m.here.when m.there.when node g i one → g ≤ i → (g ≡ i → e.number ≤ f.number) →
        (owns core node e.mem && not (g == i)) ≡ false → (not (is_one_element core e f) && not (share_port core e node one)) ≡ false → ((e.number == f.number) && ((i - g) == 0)) ≡ false → stand core meets e.number f.number (i - g) ≡ true
    in_loop_stands m node g i one times l up not_own apart not_one =
        let groups = loops_here m node g i one times l in
        they_stand core h begun s u e f a b m is_core law meets right (i - g)
        (met core h begun s u e f a b m (i - g) same ch (how (one_of_both (is_one_element core e f) (share_port core e node one) apart) groups)
        (λ z. other_numbers e.number f.number (i - g) not_one z (up (level_groups g i l z)))
        (λ some. has_loops groups some)
        (λ some. not_copied core (ran_in core.root h m.around) m.places m.here m.first_rest m.first e.mem m.first_level (subst (λ n. owns core n e.mem ≡ false) (sym times.node_is) (not_owned (owns core node e.mem) g i not_own (differ g i some)))))
      where
        level_groups : (g i : ℕ) → g ≤ i → i - g ≡ 0 → g ≡ i
        level_groups g i l z = omega (arith, l, z)

        differ : (g i : ℕ) → 1 ≤ i - g → g ≡ i → ⊥
        differ g i some z = absurd (omega (arith, some, z))

        has_loops : AreGroupsOn m.first.loops m.xs m.ys (i - g) → 1 ≤ i - g → 0 < length m.first.loops
        has_loops groups some = by_size (length m.first.loops) refl
          where
            by_size : (n : ℕ) → length m.first.loops ≡ n → 0 < length m.first.loops
            by_size zero z =
                let k = on_none m.first.loops m.xs m.ys (i - g) groups z (m.first_size ∙ z) (m.second_size ∙ ap length (same_loops core h begun s u e f a b m) ∙ z) in
                absurd (omega (arith, some, k))
            by_size (suc n) z = omega (arith, z)

        how : (is_one_element core e f ≡ true) ⊎ (share_port core e node one ≡ true) → AreGroupsOn m.first.loops m.xs m.ys (i - g) →
            (between.share_port (length core.mems) (views core h begun s u e f a b m).0 (views core h begun s u e f a b m).1 (nat_lt (first_spot core h begun s u e f a b).number (second_spot core h begun s u e f a b).number) (first_part core h begun s u e f a b m) (second_part core h begun s u e f a b m) ≡ true)
            ⊎ ((element (kind_of core e.mem) (dims core e.mem) e.indices ≡ element (kind_of core e.mem) (dims core e.mem) f.indices) × AreGroupsOn m.first.loops m.xs m.ys (i - g))
        how (inl t) groups = inr (one_element t, groups)
        how (inr t) groups =
            let p = and_parts (not one && is_at_once core node) (nat_lt e.mem (length core.mems)) t in
            inl (and_from (not (m.first.part == m.second.part) && m.first.at_once) (nat_lt a.touched.target.mem (length core.mems))
            (at_once_there core (ran_in core.root h m.around) m.places m.here m.there m.first_rest m.second_rest m.first m.second node g i one m.first_level m.second_level times p.0) (ap (λ x. nat_lt x (length core.mems)) a.touched.is_mem ∙ p.1))

    in_turn_stands : (m : Meets core h begun s u e f a b) → InTurns m.here.when m.there.when → e.number ≤ f.number → not (is_one_element core e f) ≡ false → ((e.number == f.number) && (0 == 0)) ≡ false → stand core meets e.number f.number 0 ≡ true
    in_turn_stands m times up not_apart not_one =
        let all = loops_in in_lanes core.root h m.around in
        let first : m.xs ≡ [] = subst (λ w. HasGroup all w m.xs) times.first m.first_group in
        let second : m.ys ≡ [] = subst (λ w. HasGroup all w m.ys) times.second m.second_group in
        they_stand core h begun s u e f a b m is_core law meets right 0
        (met core h begun s u e f a b m 0 same ch (inr (one_element (was_true (is_one_element core e f) not_apart), none_on m.first.loops m.xs m.ys m.first_size first second))
        (λ z. other_numbers e.number f.number 0 not_one z up) (λ some. absurd (omega (arith, some))) (λ some. absurd (omega (arith, some))))

    -- by where they are together
    stands_so : (t : Together) → T ≡ t → ((node g i : ℕ) (one : Bool) → T ≡ in_loop node g i one → g ≤ i) → (IsOneRound T → e.number ≤ f.number) → do_stand core meets e f t ≡ true
    stands_so nowhere is later up = refl
    stands_so (in_loop node g i one) is later up =
        let m = they_meet core h begun s u e f a b (subst IsSomewhere (sym is) tt) in
        let times = in_its_loop m.here.node m.here.when m.there.when node g i one (m.at ∙ is) in
        decide (owns core node e.mem && not (g == i)) (not (is_one_element core e f) && not (share_port core e node one)) ((e.number == f.number) && ((i - g) == 0)) (stand core meets e.number f.number (i - g))
        (in_loop_stands m node g i one times (later node g i one is) (λ z. up (subst IsOneRound (sym is) z)))
    stands_so in_one_turn is later up =
        let m = they_meet core h begun s u e f a b (subst IsSomewhere (sym is) tt) in
        decide_turn (not (is_one_element core e f)) ((e.number == f.number) && (0 == 0)) (stand core meets e.number f.number 0)
        (in_turn_stands m (in_its_turn m.here.node m.here.when m.there.when (m.at ∙ is)) (up (subst IsOneRound (sym is) tt)))

  -- each two events are met
  pub is_met_so : (s u : Store) (e f : Event) → IsKnown core h begun s e → IsKnown core h begun u f →
      ((node g i : ℕ) (one : Bool) → together core e.standing.path f.standing.path ≡ in_loop node g i one → g ≤ i) → (IsOneRound (together core e.standing.path f.standing.path) → e.number ≤ f.number) → is_met core meets e f ≡ true
  is_met_so s u e f a b later up = go (e.mem == f.mem) refl (changes e.act || changes f.act) refl
    where
      go : (x : Bool) → (e.mem == f.mem) ≡ x → (y : Bool) → (changes e.act || changes f.act) ≡ y → ((not x || not y) || do_stand core meets e f (together core e.standing.path f.standing.path)) ≡ true
      go false p y q = refl
      go true p false q = refl
      go true p true q = stands_so s u e f a b (sym (eqb-true e.mem f.mem p)) q (together core e.standing.path f.standing.path) refl later up
