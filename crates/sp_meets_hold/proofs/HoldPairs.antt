-- Two events of a run at one controller, as accesses that meet.
use Rattle.std.proofs.Common.{◌≡◌, ℕ, zero, suc, ◌+◌, ◌<◌, ◌≤◌, Bool, true, false, ◌&&◌, ◌||◌, ℤ, pos, List, [], ◌∷◌, ◌++◌, length, length-append, map, drop, get_or, append_assoc, Option, Some, inl, inr, refl, sym, ap, ◌∙◌, subst, arith, if◌then◌else◌}
use Rattle.std.specs.Prelude.{◌⊎◌, ◌==◌, nat_lt}
use Rattle.std.specs.List.{Contains}
use Rattle.std.proofs.lemmas.Bool.{and_from, false≢true}
use Rattle.sp_affine.specs.Affine.{Affine}
use Rattle.sp_core.specs.declared.access.Meet.{Meet}
use Rattle.sp_core.specs.Declarations.{kind_of, dims, is_among}
use Rattle.sp_core.specs.Events.{At, Event}
use Rattle.sp_core.specs.Forms.{PlainForms, symbol_in, are_indices, are_known_indices, form_at}
use Rattle.sp_core.specs.History.{History}
use Rattle.sp_core.specs.Invariant.{IsCore}
use Rattle.sp_core.specs.Meeting.{together, changes, element, stand}
use Rattle.sp_core.specs.Numbered.{range_number}
use Rattle.sp_core.specs.PlainCore.{PlainNode, inner, outer, fsm, branch, load, store, sparse, PlainCore}
use Rattle.sp_core.specs.Scope.{in_lanes}
use Rattle.sp_core.specs.Store.{Store}
use Rattle.sp_deps.specs.declared.access.LoopRange.{LoopRange}
use Rattle.sp_deps.specs.Access.{can_meet}
use Rattle.sp_deps.specs.Groups.{HaveValues, HaveLength, AreGroupsOn, AreTouching, TouchOne}
use Rattle.sp_patterns.specs.Patterns.{patterns_of}
use Rattle.sp_meets.specs.Around.{PlainLevel, changed_in, once}
use Rattle.sp_meets.specs.Between.{goes_on, between, loops_of_parts, share_port}
use Rattle.sp_meets.specs.Meets.{IsMeetsOf}
use Rattle.sp_meets.specs.Sites.{PlainTouch, PlainPart, PlainView, PlainSite, counters_of, known_inside, part_of, view_of, views_of, touch_of, site_of}
use Rattle.sp_meets.specs.Spots.{PlainTarget, PlainSpot}
use Rattle.sp_along.specs.MetTouching.{AreMet, MetAccessesStand}
use Rattle.sp_along.specs.MetTraces.{loops_in, IsTraced}
use Rattle.sp_along.specs.Along.{level_of, IsAlong, HasSpot}
use Rattle.sp_along.specs.AlongControllers.{ran_in}
use Rattle.sp_along.specs.AlongSymbols.{holds_symbol, AreKept}
use Rattle.sp_touched.specs.Touched.{own_of, target_forms, IsInside, AreSteps, IsTouched}
use Rattle.sp_touched.proofs.Words.{have_length}
use Rattle.sp_meets_hold.proofs.HoldLevels.{its_loops}
use Rattle.sp_meets_hold.proofs.HoldMeeting.{IsSomewhere, AreAtOne, meeting}
use Rattle.sp_meets_hold.proofs.HoldOnes.{same_places, touch_one, known_length, ones}
use Rattle.sp_meets_hold.proofs.HoldSites.{one_spot, site_there}
use Rattle.sp_meets_hold.proofs.HoldValues.{first_values, second_values, both_values, counters_at_level, middle_steps, they_go_on}

-- the image of an element is one of the images
pub contains_map : {A B : Type 0} (f : A → B) (xs : List A) (x : A) → Contains xs x → Contains (map f xs) (f x)
contains_map f xs x (k, l, e) = go xs k l e
  where
    go : (xs : List _) (k : ℕ) → k < length xs → get_or xs k x ≡ x → Contains (map f xs) (f x)
    go [] k l e = absurd (omega (arith, l))
    go (y ∷ ys) zero l e = (0, omega arith, ap f e)
    go (y ∷ ys) (suc k) l e = let r = go ys k (omega (arith, l)) e in (suc r.0, let m = r.1 in omega (arith, m), r.2)

-- a level that is a controller's changes what it changes
level_changed : (core : PlainCore) (places : _) (node : PlainNode) → (level_of core.mems places node).changed ≡ changed_in node
level_changed core places (inner counters owned ops comb) = refl
level_changed core places (outer counters style owned stages) = refl
level_changed core places (fsm start state test body next) = refl
level_changed core places (branch test first second) = refl
level_changed core places (load r m spans) = refl
level_changed core places (store r m spans) = refl
level_changed core places (sparse kind r m p spans count par) = refl

module _ (core : PlainCore) (h : History) (begun : List At → Store) where
  -- what is known of an event, in the store in which it happens
  pub record IsKnown (s : Store) (e : Event) : Type 0 where
    pub touched : IsTouched core s e
    pub kept : AreKept core h begun s e.standing
    pub levels : List PlainLevel
    pub path : touched.spot.path ≡ once (changed_in core.root) ∷ levels
    pub along : IsAlong core (ran_in core.root h) [] levels e.standing.path
    pub traced : IsTraced (loops_in in_lanes core.root h) e.standing.path e.standing.counters

  pub known : IsCore core → (s : Store) (e : Event) → IsTouched core s e → AreKept core h begun s e.standing → HasSpot core h e.number e.standing → IsTraced (loops_in in_lanes core.root h) e.standing.path e.standing.counters → IsKnown s e
  known is_core s e t k spot tr =
      let same : spot.spot ≡ t.spot = one_spot core is_core.nodes spot.spot t.spot spot.has t.has (spot.is_number ∙ sym t.is_number) in
      record { touched = t; kept = k; levels = spot.levels; path = ap (λ (x : PlainSpot). x.path) (sym same) ∙ spot.path; along = spot.along; traced = tr }

  -- the access of an event, and its site
  abbrev pub forms : PlainForms
  forms = patterns_of core

  abbrev lens_of : PlainSpot → List (Option ℕ)
  lens_of x = drop (range_number core x.number) forms.lengths

  abbrev touch_in : PlainSpot → PlainTarget → PlainTouch
  touch_in x t = touch_of x.spans (length (counters_of x.path)) (form_at core forms x.number) (lens_of x) t

  abbrev touches_in : PlainSpot → List PlainTouch
  touches_in x = map (touch_in x) x.targets

  abbrev pub site_in : PlainSpot → PlainSite
  site_in x = site_of x (form_at core forms x.number) (lens_of x)

  module _ (s u : Store) (e f : Event) (a : IsKnown s e) (b : IsKnown u f) where
    abbrev pub first_spot : PlainSpot
    first_spot = a.touched.spot

    abbrev pub second_spot : PlainSpot
    second_spot = b.touched.spot

    first_values_are : HaveValues (counters_of a.levels) e.standing.counters
    first_values_are = subst (λ p. HaveValues (counters_of p) e.standing.counters) a.path a.touched.values

    second_values_are : HaveValues (counters_of b.levels) f.standing.counters
    second_values_are = subst (λ p. HaveValues (counters_of p) f.standing.counters) b.path b.touched.values

    abbrev pub Meets : Type 0
    Meets = AreAtOne core (ran_in core.root h) (loops_in in_lanes core.root h) a.levels b.levels e.standing.path f.standing.path e.standing.counters f.standing.counters (together core e.standing.path f.standing.path)

    pub they_meet : IsSomewhere (together core e.standing.path f.standing.path) → Meets
    they_meet some =
        meeting core (ran_in core.root h) (loops_in in_lanes core.root h) [] a.levels b.levels e.standing.path f.standing.path e.standing.counters f.standing.counters a.along b.along a.traced b.traced
        (record { node = core.root; history = h; ran_is = λ p. refl; loops_are = λ p. refl }) (sym (have_length (counters_of a.levels) e.standing.counters first_values_are)) (sym (have_length (counters_of b.levels) f.standing.counters second_values_are)) some

    module _ (m : Meets) where
      abbrev pub first_part : PlainPart
      first_part = part_of m.first (counters_of m.first_inside) (touch_in first_spot a.touched.target)

      abbrev pub second_part : PlainPart
      second_part = part_of m.second (counters_of m.second_inside) (touch_in second_spot b.touched.target)

      abbrev pub views : PlainView × PlainView
      views = (view_of m.first (counters_of m.first_inside) (touches_in first_spot), view_of m.second (counters_of m.second_inside) (touches_in second_spot))

      goes : (xs : List PlainLevel) (l : PlainLevel) (ys zs : List PlainLevel) (t : List PlainTouch) → zs ≡ xs ++ (l ∷ ys) → goes_on (views_of zs t) ≡ true
      goes xs l ys zs t e = ap (λ z. goes_on (views_of z t)) e ∙ go xs
        where
          go : (xs : List PlainLevel) → goes_on (views_of (xs ++ (l ∷ ys)) t) ≡ true
          go [] = refl
          go (x ∷ xs) = refl

      whole : (g k : Bool) (x y : Option (PlainView × PlainView)) → g ≡ true → k ≡ true → (if g && k then x else y) ≡ x
      whole true true x y p q = refl
      whole false k x y p q = absurd (false≢true p)
      whole true false x y p q = absurd (false≢true q)

      pub over : between (site_in first_spot).views (site_in second_spot).views ≡ Some views
      over =
          ap (λ p. between (views_of p (touches_in first_spot)) (site_in second_spot).views) a.path ∙ ap (λ p. between (views_of (once (changed_in core.root) ∷ a.levels) (touches_in first_spot)) (views_of p (touches_in second_spot))) b.path
          ∙ whole (goes_on (views_of a.levels (touches_in first_spot))) (goes_on (views_of b.levels (touches_in second_spot))) (between (views_of a.levels (touches_in first_spot)) (views_of b.levels (touches_in second_spot))) _
          (goes m.front m.first m.first_inside a.levels (touches_in first_spot) m.first_is) (goes m.front m.second m.second_inside b.levels (touches_in second_spot) m.second_is)
          ∙ m.between_is (touches_in first_spot) (touches_in second_spot)

      -- both are levels of one controller
      pub same_loops : m.second.loops ≡ m.first.loops
      same_loops = its_loops core (ran_in core.root h m.around) m.places m.there m.second_rest m.second m.second_level ∙ sym (its_loops core (ran_in core.root h m.around) m.places m.here m.first_rest m.first m.first_level)

      changed_so : m.second.changed ≡ changed_in (ran_in core.root h m.around).node
      changed_so = ap (λ (x : PlainLevel). x.changed) m.second_level.is ∙ level_changed core m.places (ran_in core.root h m.around).node

      -- what it doesn't change is the same at both
      pub same_symbols : (x : ℕ) → holds_symbol (kind_of core x) ≡ true → is_among x m.second.changed ≡ false → s x ≡ u x
      same_symbols x sy ch =
          let unchanged = subst (λ c. is_among x c ≡ false) changed_so ch in
          a.kept m.around m.first_rest m.here x m.first_path sy unchanged ∙ sym (b.kept m.around m.second_rest m.there x m.second_path sy unchanged)

      -- the counters in their parts
      first_all : HaveValues (counters_of m.front ++ (m.first.loops ++ counters_of m.first_inside)) (m.outer ++ (m.xs ++ m.us))
      first_all = subst (λ l. HaveValues l (m.outer ++ (m.xs ++ m.us))) (ap counters_of m.first_is ∙ counters_at_level m.front m.first m.first_inside) (subst (HaveValues (counters_of a.levels)) m.first_counters first_values_are)

      second_all : HaveValues (counters_of m.front ++ (m.second.loops ++ counters_of m.second_inside)) (m.outer ++ (m.ys ++ m.vs))
      second_all = subst (λ l. HaveValues l (m.outer ++ (m.ys ++ m.vs))) (ap counters_of m.second_is ∙ counters_at_level m.front m.second m.second_inside) (subst (HaveValues (counters_of b.levels)) m.second_counters second_values_are)

      first_inner : HaveValues (m.first.loops ++ counters_of m.first_inside) (m.xs ++ m.us)
      first_inner = second_values (counters_of m.front) (m.first.loops ++ counters_of m.first_inside) m.outer (m.xs ++ m.us) m.outer_size first_all

      second_inner : HaveValues (m.second.loops ++ counters_of m.second_inside) (m.ys ++ m.vs)
      second_inner = second_values (counters_of m.front) (m.second.loops ++ counters_of m.second_inside) m.outer (m.ys ++ m.vs) m.outer_size second_all

      pub steps_here : AreSteps m.first.loops
      steps_here = middle_steps (counters_of m.front) m.first.loops (counters_of m.first_inside) (subst AreSteps (ap counters_of m.first_is ∙ counters_at_level m.front m.first m.first_inside) (subst (λ p. AreSteps (counters_of p)) a.path a.touched.go_on))

      all_sizes : (n f l i o c : ℕ) → n ≡ f + (l + i) → c ≡ f → n + o ≡ c + (l + (i + o))
      all_sizes n f l i o c e g = omega (arith, e, g)

      inside_size : (ls own : List LoopRange) → length (ls ++ own) ≡ length ls + length own
      inside_size ls own = length-append ls own

      levels_size : (levels front : List PlainLevel) (l : PlainLevel) (inside : List PlainLevel) → levels ≡ front ++ (l ∷ inside) → length (counters_of levels) ≡ length (counters_of front) + (length l.loops + length (counters_of inside))
      levels_size levels front l inside e =
          ap (λ z. length (counters_of z)) e ∙ ap length (counters_at_level front l inside) ∙ length-append (counters_of front) (l.loops ++ counters_of inside) ∙ ap (λ n. length (counters_of front) + n) (length-append l.loops (counters_of inside))

      first_long : HaveLength (length m.outer + (length m.first.loops + length (counters_of m.first_inside ++ own_of core first_spot a.touched.target))) (known_inside m.first.changed (target_forms core first_spot a.touched.target))
      first_long =
          known_length m.first.changed (target_forms core first_spot a.touched.target) _
          (subst (λ n. HaveLength n (target_forms core first_spot a.touched.target))
          (ap (λ p. length (counters_of p) + length (own_of core first_spot a.touched.target)) a.path
          ∙ all_sizes (length (counters_of a.levels)) (length (counters_of m.front)) (length m.first.loops) (length (counters_of m.first_inside)) (length (own_of core first_spot a.touched.target)) (length m.outer) (levels_size a.levels m.front m.first m.first_inside m.first_is) m.outer_size
          ∙ ap (λ n. length m.outer + (length m.first.loops + n)) (sym (inside_size (counters_of m.first_inside) (own_of core first_spot a.touched.target)))) a.touched.lengths)

      second_long : HaveLength (length m.outer + (length m.first.loops + length (counters_of m.second_inside ++ own_of core second_spot b.touched.target))) (known_inside m.second.changed (target_forms core second_spot b.touched.target))
      second_long =
          known_length m.second.changed (target_forms core second_spot b.touched.target) _
          (subst (λ n. HaveLength n (target_forms core second_spot b.touched.target))
          (ap (λ p. length (counters_of p) + length (own_of core second_spot b.touched.target)) b.path
          ∙ all_sizes (length (counters_of b.levels)) (length (counters_of m.front)) (length m.second.loops) (length (counters_of m.second_inside)) (length (own_of core second_spot b.touched.target)) (length m.outer) (levels_size b.levels m.front m.second m.second_inside m.second_is) m.outer_size
          ∙ ap (λ ls. length m.outer + (length ls + (length (counters_of m.second_inside) + length (own_of core second_spot b.touched.target)))) same_loops
          ∙ ap (λ n. length m.outer + (length m.first.loops + n)) (sym (inside_size (counters_of m.second_inside) (own_of core second_spot b.touched.target)))) b.touched.lengths)

      four : (o x i w : List ℤ) → (o ++ (x ++ i)) ++ w ≡ o ++ (x ++ (i ++ w))
      four o x i w = append_assoc o (x ++ i) w ∙ ap (λ z. o ++ z) (append_assoc x i w)

      known_so : (row : Option (List Affine)) (fs : List Affine) (is cs : List ℤ) (symbols : ℕ → ℤ) → row ≡ Some fs → are_known_indices core forms row is cs symbols ≡ true → are_indices core forms fs is cs symbols ≡ true
      known_so row fs is cs symbols e k = subst (λ r. are_known_indices core forms r is cs symbols ≡ true) e k

      -- where they are one element their forms are equal
      pub touch : f.mem ≡ e.mem → element (kind_of core e.mem) (dims core e.mem) e.indices ≡ element (kind_of core e.mem) (dims core e.mem) f.indices → (changes e.act || changes f.act) ≡ true →
          TouchOne (known_inside m.first.changed (target_forms core first_spot a.touched.target)) (known_inside m.second.changed (target_forms core second_spot b.touched.target)) (m.outer ++ (m.xs ++ (m.us ++ a.touched.own))) (m.outer ++ (m.ys ++ (m.vs ++ b.touched.own))) (symbol_in core forms s)
      touch same one ch =
          touch_one m.first.changed m.second.changed (target_forms core first_spot a.touched.target) (target_forms core second_spot b.touched.target) _ _ (symbol_in core forms s) (λ fs gs p q unchanged.
          ones core s u m.second.changed fs gs e.indices f.indices _ _ same_symbols (b.touched.symbols gs q) unchanged
          (subst (λ c. are_indices core forms fs (map pos e.indices) c (symbol_in core forms s) ≡ true) (ap (λ c. c ++ a.touched.own) m.first_counters ∙ four m.outer m.xs m.us a.touched.own) (known_so (target_forms core first_spot a.touched.target) fs (map pos e.indices) (e.standing.counters ++ a.touched.own) (symbol_in core forms s) p a.touched.forms))
          (subst (λ c. are_indices core forms gs (map pos f.indices) c (symbol_in core forms u) ≡ true) (ap (λ c. c ++ b.touched.own) m.second_counters ∙ four m.outer m.ys m.vs b.touched.own) (known_so (target_forms core second_spot b.touched.target) gs (map pos f.indices) (f.standing.counters ++ b.touched.own) (symbol_in core forms u) q b.touched.forms))
          (same_places (kind_of core e.mem) (dims core e.mem) e.indices f.indices e.act f.act (a.touched.inside fs p) (subst (λ x. IsInside (kind_of core x) (dims core x) f.indices f.act) same (b.touched.inside gs q)) one ch))

      either : (x y p q : Bool) → (x ≡ true → p ≡ true) → (y ≡ true → q ≡ true) → (x || y) ≡ true → (p || q) ≡ true
      either true y p q g k h = ap (λ b. b || q) (g refl)
      either false true p q g k h = go p
        where
          go : (p : Bool) → (p || q) ≡ true
          go true = refl
          go false = k refl
      either false false p q g k h = absurd (false≢true h)

      same_test : (x y : ℕ) → x ≡ y → (x == y) ≡ true
      same_test x y g = ap (λ z. z == y) g ∙ self y
        where
          self : (n : ℕ) → (n == n) ≡ true
          self n = grind arith

      pub can : f.mem ≡ e.mem → (changes e.act || changes f.act) ≡ true → can_meet first_part.access second_part.access ≡ true
      can same ch =
          and_from (first_part.access.mem == second_part.access.mem) (first_part.access.writes || second_part.access.writes) (same_test first_part.access.mem second_part.access.mem (a.touched.is_mem ∙ sym same ∙ sym b.touched.is_mem))
          (either (changes e.act) (changes f.act) first_part.access.writes second_part.access.writes a.touched.writes b.touched.writes ch)

      -- two accesses that meet so many groups apart
      pub met : (k : ℕ) → f.mem ≡ e.mem → (changes e.act || changes f.act) ≡ true →
          (share_port (length core.mems) views.0 views.1 (nat_lt first_spot.number second_spot.number) first_part second_part ≡ true) ⊎ ((element (kind_of core e.mem) (dims core e.mem) e.indices ≡ element (kind_of core e.mem) (dims core e.mem) f.indices) × AreGroupsOn m.first.loops m.xs m.ys k) →
          (k ≡ 0 → e.number < f.number) → (1 ≤ k → 0 < length m.first.loops) → (1 ≤ k → is_among e.mem m.first.copied ≡ false) → AreMet (length core.mems) (site_in first_spot) (site_in second_spot) k
      met k same ch how order looped copied = record {
        views = views;
        over = over;
        first = first_part;
        second = second_part;
        has_first = contains_map (part_of m.first (counters_of m.first_inside)) (touches_in first_spot) (touch_in first_spot a.touched.target) (contains_map (touch_in first_spot) first_spot.targets a.touched.target a.touched.has_target);
        has_second = contains_map (part_of m.second (counters_of m.second_inside)) (touches_in second_spot) (touch_in second_spot b.touched.target) (contains_map (touch_in second_spot) second_spot.targets b.touched.target b.touched.has_target);
        can = can same ch;
        touching = by_how how;
        in_order = λ e. number_less (order e);
        looped = looped;
        not_copied = λ l. ap (λ x. is_among x m.first.copied) a.touched.is_mem ∙ copied l;
      }
        where
          number_less : e.number < f.number → first_spot.number < second_spot.number
          number_less l = let x = a.touched.is_number in let y = b.touched.is_number in omega (arith, x, y, l)

          by_how : (share_port (length core.mems) views.0 views.1 (nat_lt first_spot.number second_spot.number) first_part second_part ≡ true) ⊎ ((element (kind_of core e.mem) (dims core e.mem) e.indices ≡ element (kind_of core e.mem) (dims core e.mem) f.indices) × AreGroupsOn m.first.loops m.xs m.ys k) →
              (share_port (length core.mems) views.0 views.1 (nat_lt first_spot.number second_spot.number) first_part second_part ≡ true) ⊎ AreTouching (loops_of_parts (length core.mems) views.0 views.1 (nat_lt first_spot.number second_spot.number) first_part second_part) first_part.access second_part.access k
          by_how (inl p) = inl p
          by_how (inr (one, groups)) = inr (record {
            outer = m.outer;
            xs = m.xs;
            ys = m.ys;
            us = m.us ++ a.touched.own;
            vs = m.vs ++ b.touched.own;
            symbols = symbol_in core forms s;
            can = can same ch;
            goes_on = they_go_on m.first.loops steps_here;
            first_length = first_long;
            second_length = second_long;
            first_values = first_values m.first.loops (counters_of m.first_inside) m.xs m.us m.first_size first_inner;
            second_values = subst (λ ls. HaveValues ls m.ys) same_loops (first_values m.second.loops (counters_of m.second_inside) m.ys m.vs m.second_size second_inner);
            first_own = both_values (counters_of m.first_inside) (own_of core first_spot a.touched.target) m.us a.touched.own (second_values m.first.loops (counters_of m.first_inside) m.xs m.us m.first_size first_inner) a.touched.own_values;
            second_own = both_values (counters_of m.second_inside) (own_of core second_spot b.touched.target) m.vs b.touched.own (second_values m.second.loops (counters_of m.second_inside) m.ys m.vs m.second_size second_inner) b.touched.own_values;
            groups = groups;
            one = touch same one ch;
          })

      -- so they stand in the meets
      pub they_stand : IsCore core → MetAccessesStand → (meets : List Meet) → IsMeetsOf core forms meets → (k : ℕ) → AreMet (length core.mems) (site_in first_spot) (site_in second_spot) k → stand core meets e.number f.number k ≡ true
      they_stand is_core law meets right k met =
          subst (λ n. stand core meets n f.number k ≡ true) a.touched.is_number
          (subst (λ n. stand core meets first_spot.number n k ≡ true) b.touched.is_number
          (law core forms meets right (site_in first_spot) (site_in second_spot) k (site_there core is_core.nodes forms first_spot a.touched.has) (site_there core is_core.nodes forms second_spot b.touched.has) met))
