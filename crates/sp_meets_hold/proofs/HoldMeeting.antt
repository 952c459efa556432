-- Two paths of a run at the innermost controller around both, and the views of their accesses there.
use Rattle.std.proofs.Common.{◌≡◌, ℕ, zero, suc, ◌<◌, Bool, true, false, ◌&&◌, not, ℤ, List, [], ◌∷◌, ◌++◌, length, length-append, get_or, append_assoc, Option, Some, None, inl, inr, arith, refl, sym, ap, ◌∙◌, subst, if◌then◌else◌}
use Rattle.std.proofs.lemmas.Bool.{and_parts, and_from, eqb-true, false≢true}
use Rattle.std.specs.List.{Contains, list_any}
use Rattle.std.specs.Prelude.{◌⊎◌, ◌==◌, ◌||◌}
use Rattle.sp_core.specs.Declarations.{is_stream}
use Rattle.sp_core.specs.Events.{At, When, before, in_group_of, in_turn}
use Rattle.sp_core.specs.Meeting.{Together, in_loop, in_one_turn, nowhere, Outer, outers, is_group, together_at, go_on, is_in_stream, together}
use Rattle.sp_core.specs.PlainCore.{PlainNode, inner, outer, fsm, branch, load, store, sparse, PlainCore}
use Rattle.sp_core.specs.Scope.{Loop, in_lanes}
use Rattle.sp_patterns.specs.declared.place.CounterPlace.{CounterPlace}
use Rattle.sp_patterns.specs.Ranges.{places_in}
use Rattle.sp_meets.specs.Around.{PlainLevel, in_part}
use Rattle.sp_meets.specs.Between.{goes_on, between}
use Rattle.sp_meets.specs.Sites.{PlainTouch, PlainView, counters_of, view_of, views_of}
use Rattle.sp_along.specs.MetTraces.{loops_in, HasGroup, IsTraced}
use Rattle.sp_along.proofs.MetTogether.{same_when, same_at}
use Rattle.sp_along.specs.Along.{counters_at, level_of, part_in, next_in, GoesOn, IsOuter, IsLevelAt, IsAlong}
use Rattle.sp_along.specs.AlongControllers.{Ran}
use Rattle.sp_meets_hold.proofs.HoldLevels.{Linked, IsMore, one_further, sizes, both_sizes}

-- somewhere in a run
abbrev pub IsSomewhere : Together → Type 0
IsSomewhere (in_loop node g i one) = Unit {0}
IsSomewhere in_one_turn = Unit {0}
IsSomewhere nowhere = ⊥

-- the innermost controller around both, along whose outer ones both paths go
pub record AreAtOne (core : PlainCore) (ran : List At → Ran) (loops : List At → List Loop) (la lb : List PlainLevel) (p q : List At) (cs ds : List ℤ) (t : Together) : Type 0 where
  pub front : List PlainLevel
  pub first : PlainLevel
  pub second : PlainLevel
  pub first_inside : List PlainLevel
  pub second_inside : List PlainLevel
  pub first_is : la ≡ front ++ (first ∷ first_inside)
  pub second_is : lb ≡ front ++ (second ∷ second_inside)
  pub around : List At
  pub here : At
  pub there : At
  pub first_rest : List At
  pub second_rest : List At
  pub first_path : p ≡ around ++ (here ∷ first_rest)
  pub second_path : q ≡ around ++ (there ∷ second_rest)
  pub same_node : here.node ≡ there.node
  pub at : together_at here.node here.when there.when ≡ t
  pub places : List CounterPlace
  pub first_level : IsLevelAt core (ran around) places here first_rest first
  pub second_level : IsLevelAt core (ran around) places there second_rest second
  pub between_is : (ta tb : List PlainTouch) → between (views_of la ta) (views_of lb tb) ≡ Some (view_of first (counters_of first_inside) ta, view_of second (counters_of second_inside) tb)
  pub outer : List ℤ
  pub xs : List ℤ
  pub ys : List ℤ
  pub us : List ℤ
  pub vs : List ℤ
  pub first_counters : cs ≡ outer ++ (xs ++ us)
  pub second_counters : ds ≡ outer ++ (ys ++ vs)
  pub outer_size : length outer ≡ length (counters_of front)
  pub first_size : length xs ≡ length first.loops
  pub second_size : length ys ≡ length second.loops
  pub first_own_size : length us ≡ length (counters_of first_inside)
  pub second_own_size : length vs ≡ length (counters_of second_inside)
  pub linked : loops around ≡ loops_in in_lanes (ran around).node (ran around).history []
  pub first_group : HasGroup (loops around) here.when xs
  pub second_group : HasGroup (loops around) there.when ys

-- of the test of two paths
choose : (c d e : Bool) (x y : Together) → IsSomewhere (if c then (if d then (if e then x else nowhere) else y) else nowhere) →
    (c ≡ true) × ((((d ≡ true) × (e ≡ true)) × ((if c then (if d then (if e then x else nowhere) else y) else nowhere) ≡ x)) ⊎ ((d ≡ false) × ((if c then (if d then (if e then x else nowhere) else y) else nowhere) ≡ y)))
choose true true true x y h = (refl, inl ((refl, refl), refl))
choose true true false x y h = absurd h
choose true false e x y h = (refl, inr (refl, refl))
choose false d e x y h = absurd h

before_first : (k : ℕ) (w x : When) → w ≡ before → IsSomewhere (together_at k w x) → ⊥
before_first k before x e h = h
before_first k (in_group_of g s) x e h = cc
before_first k (in_turn t) x e h = cc

before_second : (k : ℕ) (w x : When) → x ≡ before → IsSomewhere (together_at k w x) → ⊥
before_second k before before e h = h
before_second k (in_group_of g s) before e h = h
before_second k (in_turn t) before e h = h
before_second k w (in_group_of g s) e h = cc
before_second k w (in_turn t) e h = cc

-- a place before the groups is inside of no controller
outside_first : (core : PlainCore) (a : At) (q : List At) → a.when ≡ before → IsSomewhere (together core (a ∷ []) q) → ⊥
outside_first core a [] e h = h
outside_first core a (b ∷ q) e h =
    let c = choose ((a.node == b.node) && not (is_in_stream core a.node)) false (is_group a.when b.when) (together core [] q) (together_at a.node a.when b.when) h in
    elim c.1 [
      | inl ((d, f), g) ↦ false≢true d
      | inr (d, g) ↦ before_first a.node a.when b.when e (subst IsSomewhere g h)
    ]

nothing_first : (core : PlainCore) (q : List At) → IsSomewhere (together core [] q) → ⊥
nothing_first core q h = h

outside_second : (core : PlainCore) (p : List At) (b : At) → b.when ≡ before → IsSomewhere (together core p (b ∷ [])) → ⊥
outside_second core [] b e h = h
outside_second core (a ∷ []) b e h =
    let c = choose ((a.node == b.node) && not (is_in_stream core a.node)) false (is_group a.when b.when) (together core [] []) (together_at a.node a.when b.when) h in
    elim c.1 [
      | inl ((d, f), g) ↦ false≢true d
      | inr (d, g) ↦ before_second a.node a.when b.when e (subst IsSomewhere g h)
    ]
outside_second core (a ∷ c ∷ p) b e h =
    let x = choose ((a.node == b.node) && not (is_in_stream core a.node)) false (is_group a.when b.when) (together core (c ∷ p) []) (together_at a.node a.when b.when) h in
    elim x.1 [
      | inl ((d, f), g) ↦ false≢true d
      | inr (d, g) ↦ before_second a.node a.when b.when e (subst IsSomewhere g h)
    ]

-- so both have levels there
has_levels : (core : PlainCore) (ran : List At → Ran) (places : List CounterPlace) (levels : List PlainLevel) (p q : List At) → IsAlong core ran places levels p → IsSomewhere (together core p q) → goes_on (views_of levels []) ≡ true
has_levels core ran places [] [] q al h = absurd h
has_levels core ran places [] (a ∷ []) q al h = absurd (outside_first core a q al h)
has_levels core ran places [] (a ∷ b ∷ p) q al h = absurd al
has_levels core ran places (l ∷ levels) p q al h = refl

has_second : (core : PlainCore) (ran : List At → Ran) (places : List CounterPlace) (levels : List PlainLevel) (p q : List At) → IsAlong core ran places levels q → IsSomewhere (together core p q) → goes_on (views_of levels []) ≡ true
has_second core ran places [] [] [] al h = absurd h
has_second core ran places [] (a ∷ p) [] al h = absurd h
has_second core ran places [] p (b ∷ []) al h = absurd (outside_second core p b al h)
has_second core ran places [] p (b ∷ c ∷ q) al h = absurd al
has_second core ran places (l ∷ levels) p q al h = refl

-- views go on as levels do, whatever is touched
goes_so : (levels : List PlainLevel) (ta tb : List PlainTouch) → goes_on (views_of levels ta) ≡ goes_on (views_of levels tb)
goes_so [] ta tb = refl
goes_so (l ∷ levels) ta tb = refl

either : (a b : Bool) → (a ≡ true) ⊎ (b ≡ true) → (a || b) ≡ true
either true b h = refl
either false b (inl e) = absurd (false≢true e)
either false b (inr e) = e

any_at : {A : Type 0} (p : A → Bool) (xs : List A) (x : A) (k : ℕ) → k < length xs → get_or xs k x ≡ x → p x ≡ true → list_any p xs ≡ true
any_at p [] x k l e h = absurd (omega arith)
any_at p (y ∷ xs) x zero l e h = either (p y) (list_any p xs) (inl (ap p e ∙ h))
any_at p (y ∷ xs) x (suc k) l e h = either (p y) (list_any p xs) (inr (any_at p xs x k (omega arith) e h))

pub any_in : {A : Type 0} (p : A → Bool) (xs : List A) (x : A) → Contains xs x → p x ≡ true → list_any p xs ≡ true
any_in p xs x has h = any_at p xs x has.0 has.1 has.2 h

same_number : (k : ℕ) → (k == k) ≡ true
same_number k = grind arith

-- a controller that isn't among the `Stream` blocks is none
streams_not : (core : PlainCore) (ran : Ran) (places : List CounterPlace) (a : At) (rest : List At) (l : PlainLevel) → IsLevelAt core ran places a rest l → is_in_stream core a.node ≡ false → l.streams ≡ false
streams_not core ran places a rest l level not_stream = ap (λ (x : PlainLevel). x.streams) level.is ∙ by_node ran.node level.outer
  where
    by_node : (n : PlainNode) → IsOuter (outers 0 core.root) a.node n → (level_of core.mems places n).streams ≡ false
    by_node (outer counters style owned stages) has = go (is_stream style) refl
      where
        go : (b : Bool) → is_stream style ≡ b → is_stream style ≡ false
        go false e = e
        go true e = absurd (false≢true (sym not_stream ∙ any_in (λ (o : Outer). (o.node == a.node) && o.stream) (outers 0 core.root) _ has (and_from (a.node == a.node) (is_stream style) (same_number a.node) e)))
    by_node (inner counters owned ops comb) has = refl
    by_node (fsm start state test body next) has = refl
    by_node (branch test first second) has = refl
    by_node (load r m spans) has = refl
    by_node (store r m spans) has = refl
    by_node (sparse kind r m p spans count par) has = refl

gone_part : (ran : Ran) (a : At) (s : ℕ) (p q : List At) → go_on p q ≡ true → GoesOn ran a s p → s ≡ part_in ran.node ran.history a.when
gone_part ran a s [] q g h = absurd (false≢true g)
gone_part ran a s (b ∷ p) q g h = h.1

gone_second : (ran : Ran) (a : At) (s : ℕ) (p q : List At) → go_on p q ≡ true → GoesOn ran a s q → s ≡ part_in ran.node ran.history a.when
gone_second ran a s [] q g h = absurd (false≢true g)
gone_second ran a s (b ∷ p) [] g h = absurd (false≢true g)
gone_second ran a s (b ∷ p) (c ∷ q) g h = h.1

and_false : (b : Bool) → (b && false) ≡ false
and_false true = refl
and_false false = refl

-- where paths part, the parts differ, or one of them ends
no_further : (core : PlainCore) (ran : Ran) (inside other : List At → Ran) (places more : List CounterPlace) (la lb : List PlainLevel) (a b : At) (p q : List At) (s r : ℕ) (ta tb : List PlainTouch) → IsAlong core inside places la p → IsAlong core other more lb q → GoesOn ran a s p → GoesOn ran b r q → a.node ≡ b.node →
    go_on p q ≡ false → ((s == r) && (goes_on (views_of la ta) && goes_on (views_of lb tb))) ≡ false
no_further core ran inside other places more [] lb a b p q s r ta tb al bl g h e n = and_false (s == r)
no_further core ran inside other places more (l ∷ la) [] a b p q s r ta tb al bl g h e n = and_false (s == r)
no_further core ran inside other places more (l ∷ la) (m ∷ lb) a b [] q s r ta tb al bl g h e n = absurd al
no_further core ran inside other places more (l ∷ la) (m ∷ lb) a b (c ∷ p) [] s r ta tb al bl g h e n = absurd bl
no_further core ran inside other places more (l ∷ la) (m ∷ lb) a b (c ∷ p) (d ∷ q) s r ta tb al bl g h e n = go (s == r) refl
  where
    as_test : (x y : ℕ) → x ≡ y → (x == y) ≡ true
    as_test x y f = ap (λ z. z == y) f ∙ same_number y

    go : (t : Bool) → (s == r) ≡ t → (t && true) ≡ false
    go false f = refl
    go true f =
        let same : s ≡ r = eqb-true s r f in
        let node : c.node ≡ d.node = g.2 ∙ ap (λ k. next_in ran.node ran.history k s) e ∙ ap (next_in ran.node ran.history b.node) same ∙ sym h.2 in
        absurd (false≢true (sym n ∙ as_test c.node d.node node))

deeper : (s c : Bool) (x y : Option (PlainView × PlainView)) → s ≡ false → c ≡ true → (if s then None else (if c then x else y)) ≡ x
deeper true c x y e f = absurd (false≢true (sym e))
deeper false true x y e f = refl
deeper false false x y e f = absurd (false≢true f)

stops : (s c : Bool) (x y : Option (PlainView × PlainView)) → s ≡ false → c ≡ false → (if s then None else (if c then x else y)) ≡ y
stops true c x y e f = absurd (false≢true (sym e))
stops false true x y e f = absurd (false≢true (sym f))
stops false false x y e f = refl

not_true : (b : Bool) → not b ≡ true → b ≡ false
not_true true h = absurd (false≢true h)
not_true false h = refl

equal_test : (x y : ℕ) → x ≡ y → (x == y) ≡ true
equal_test x y f = ap (λ z. z == y) f ∙ same_number y

one_value : (loops : List Loop) (w : When) (v u : List ℤ) → HasGroup loops w v → HasGroup loops w u → v ≡ u
one_value loops before v u h k = h ∙ sym k
one_value loops (in_group_of g s) v u h k = sym h.1 ∙ k.1
one_value loops (in_turn t) v u h k = h ∙ sym k

-- a level is its controller's, in a part
one_level : (core : PlainCore) (ran : Ran) (places : List CounterPlace) (a b : At) (p q : List At) (l m : PlainLevel) → IsLevelAt core ran places a p l → IsLevelAt core ran places b q m → l.part ≡ m.part → l ≡ m
one_level core ran places a b p q l m h k e = h.is ∙ ap (λ s. in_part s (level_of core.mems places ran.node)) e ∙ sym k.is

has_rest : (core : PlainCore) (ran : List At → Ran) (p q : List At) → IsSomewhere (together core p q) → IsMore p
has_rest core ran [] q h = h
has_rest core ran (a ∷ p) q h = tt

pub meeting : (core : PlainCore) (ran : List At → Ran) (loops : List At → List Loop) (places : List CounterPlace) (la lb : List PlainLevel) (p q : List At) (cs ds : List ℤ) → IsAlong core ran places la p → IsAlong core ran places lb q → IsTraced loops p cs → IsTraced loops q ds →
    Linked ran loops → length cs ≡ length (counters_of la) → length ds ≡ length (counters_of lb) → IsSomewhere (together core p q) → AreAtOne core ran loops la lb p q cs ds (together core p q)
meeting core ran loops places [] lb [] q cs ds al bl tr ts link cn dn h = absurd h
meeting core ran loops places [] lb (a ∷ []) q cs ds al bl tr ts link cn dn h = absurd (outside_first core a q al h)
meeting core ran loops places [] lb (a ∷ c ∷ p) q cs ds al bl tr ts link cn dn h = absurd al
meeting core ran loops places (l ∷ la) lb [] q cs ds al bl tr ts link cn dn h = absurd al
meeting core ran loops places (l ∷ la) lb (a ∷ p) [] cs ds al bl tr ts link cn dn h = absurd h
meeting core ran loops places (l ∷ la) [] (a ∷ p) (b ∷ []) cs ds al bl tr ts link cn dn h = absurd (outside_second core (a ∷ p) b bl h)
meeting core ran loops places (l ∷ la) [] (a ∷ p) (b ∷ c ∷ q) cs ds al bl tr ts link cn dn h = absurd bl
meeting core ran loops places (l ∷ la) (m ∷ lb) (a ∷ p) (b ∷ q) cs ds al bl tr ts link cn dn h =
    let test = (a.node == b.node) && not (is_in_stream core a.node) in
    let c = choose test (go_on p q) (is_group a.when b.when) (together core p q) (together_at a.node a.when b.when) h in
    let ends = and_parts (a.node == b.node) (not (is_in_stream core a.node)) c.0 in
    let nodes : a.node ≡ b.node = eqb-true a.node b.node ends.0 in
    let level_sizes = sizes core ran loops places a l la p tr.0 tr.1 al.0 al.1 tr.2 tr.4 link (ap length (sym tr.3) ∙ cn) in
    let other_sizes = sizes core ran loops places b m lb q ts.0 ts.1 bl.0 bl.1 ts.2 ts.4 link (ap length (sym ts.3) ∙ dn) in
    let no_stream : l.streams ≡ false = streams_not core (ran []) places a p l al.0 (not_true (is_in_stream core a.node) ends.1) in
    elim c.1 [
      | inl ((goes, group), is) ↦
          let whens = same_when a.when b.when group in
          let same : a ≡ b = same_at a b nodes whens in
          let parts : l.part ≡ m.part = gone_part (ran []) a l.part p q goes al.0.on ∙ ap (part_in (ran []).node (ran []).history) whens ∙ sym (gone_second (ran []) b m.part p q goes bl.0.on) in
          let second : IsAlong core (λ r. ran (a ∷ r)) (places ++ places_in (counters_at (ran []).node)) lb q = subst (λ z. IsAlong core (λ r. ran (z ∷ r)) (places ++ places_in (counters_at (ran []).node)) lb q) (sym same) bl.1 in
          let traced : IsTraced (λ r. loops (a ∷ r)) q ts.1 = subst (λ z. IsTraced (λ r. loops (z ∷ r)) q ts.1) (sym same) ts.4 in
          let values : ts.0 ≡ tr.0 = one_value (loops []) a.when ts.0 tr.0 (subst (λ w. HasGroup (loops []) w ts.0) (sym whens) ts.2) tr.2 in
          let somewhere : IsSomewhere (together core p q) = subst IsSomewhere is h in
          let rest = meeting core (λ r. ran (a ∷ r)) (λ r. loops (a ∷ r)) (places ++ places_in (counters_at (ran []).node)) la lb p q tr.1 ts.1 al.1 second tr.4 traced (one_further core ran loops places a l p (has_rest core (λ r. ran (a ∷ r)) p q somewhere) al.0 link) level_sizes.1 other_sizes.1 somewhere in
          record {
            front = l ∷ rest.front;
            first = rest.first;
            second = rest.second;
            first_inside = rest.first_inside;
            second_inside = rest.second_inside;
            first_is = ap (λ xs. l ∷ xs) rest.first_is;
            second_is = ap (λ x. x ∷ lb) (sym (one_level core (ran []) places a b p q l m al.0 bl.0 parts)) ∙ ap (λ xs. l ∷ xs) rest.second_is;
            around = a ∷ rest.around;
            here = rest.here;
            there = rest.there;
            first_rest = rest.first_rest;
            second_rest = rest.second_rest;
            first_path = ap (λ xs. a ∷ xs) rest.first_path;
            second_path = ap (λ x. x ∷ q) (sym same) ∙ ap (λ xs. a ∷ xs) rest.second_path;
            same_node = rest.same_node;
            at = rest.at ∙ sym is;
            places = rest.places;
            first_level = rest.first_level;
            second_level = rest.second_level;
            between_is = λ ta tb. deeper l.streams ((l.part == m.part) && (goes_on (views_of la ta) && goes_on (views_of lb tb))) (between (views_of la ta) (views_of lb tb)) (Some (view_of l (counters_of la) ta, view_of m (counters_of lb) tb)) no_stream
                (and_from (l.part == m.part) (goes_on (views_of la ta) && goes_on (views_of lb tb)) (equal_test l.part m.part parts)
                (and_from (goes_on (views_of la ta)) (goes_on (views_of lb tb)) (goes_so la ta [] ∙ has_levels core (λ r. ran (a ∷ r)) (places ++ places_in (counters_at (ran []).node)) la p q al.1 somewhere)
                (goes_so lb tb [] ∙ has_second core (λ r. ran (a ∷ r)) (places ++ places_in (counters_at (ran []).node)) lb p q second somewhere)))
                ∙ rest.between_is ta tb;
            outer = tr.0 ++ rest.outer;
            xs = rest.xs;
            ys = rest.ys;
            us = rest.us;
            vs = rest.vs;
            first_counters = tr.3 ∙ ap (λ z. tr.0 ++ z) rest.first_counters ∙ sym (append_assoc tr.0 rest.outer (rest.xs ++ rest.us));
            second_counters = ts.3 ∙ ap (λ z. z ++ ts.1) values ∙ ap (λ z. tr.0 ++ z) rest.second_counters ∙ sym (append_assoc tr.0 rest.outer (rest.ys ++ rest.vs));
            outer_size = length-append tr.0 rest.outer ∙ both_sizes (length tr.0) (length rest.outer) (length l.loops) (length (counters_of rest.front)) level_sizes.0 rest.outer_size ∙ sym (length-append l.loops (counters_of rest.front));
            first_size = rest.first_size;
            second_size = rest.second_size;
            first_own_size = rest.first_own_size;
            second_own_size = rest.second_own_size;
            linked = rest.linked;
            first_group = rest.first_group;
            second_group = rest.second_group;
          }
      | inr (parted, is) ↦ record {
        front = [];
        first = l;
        second = m;
        first_inside = la;
        second_inside = lb;
        first_is = refl;
        second_is = refl;
        around = [];
        here = a;
        there = b;
        first_rest = p;
        second_rest = q;
        first_path = refl;
        second_path = refl;
        same_node = nodes;
        at = sym is;
        places = places;
        first_level = al.0;
        second_level = bl.0;
        between_is = λ ta tb. stops l.streams ((l.part == m.part) && (goes_on (views_of la ta) && goes_on (views_of lb tb))) (between (views_of la ta) (views_of lb tb)) (Some (view_of l (counters_of la) ta, view_of m (counters_of lb) tb)) no_stream
            (no_further core (ran []) (λ r. ran (a ∷ r)) (λ r. ran (b ∷ r)) (places ++ places_in (counters_at (ran []).node)) (places ++ places_in (counters_at (ran []).node)) la lb a b p q l.part m.part ta tb al.1 bl.1 al.0.on bl.0.on nodes parted);
        outer = [];
        xs = tr.0;
        ys = ts.0;
        us = tr.1;
        vs = ts.1;
        first_counters = tr.3;
        second_counters = ts.3;
        outer_size = refl;
        first_size = level_sizes.0;
        second_size = other_sizes.0;
        first_own_size = level_sizes.1;
        second_own_size = other_sizes.1;
        linked = link.loops_are [] ∙ sym (ap (λ (r : Ran). loops_in in_lanes r.node r.history []) (link.ran_is []));
        first_group = tr.2;
        second_group = ts.2;
      }
    ]
