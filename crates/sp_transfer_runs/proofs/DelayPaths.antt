-- Runs of the parts of a node stand at paths of their own where those of the node do.
use Rattle.std.proofs.Common.{◌≡◌, ◌≢◌, ℕ, suc, ◌≤◌, ◌==◌, ◌&&◌, Bool, true, false, ℤ, List, [], ◌∷◌, ◌++◌, map, Option, Some, None, refl, sym, ap, subst, ◌∙◌, arith, ne_eqb, true≢false}
use Rattle.sp_core.specs.Events.{When, in_group_of, in_turn, At}
use Rattle.sp_core.specs.History.{History, Groups, Turns, inner_ran, outer_ran, fsm_ran, branch_ran, moved, picked, no_group, more_group, no_turn, more_turn}
use Rattle.sp_core.specs.PlainCore.{PlainCounter, PlainStages}
use Rattle.sp_core.specs.Scope.{in_lanes, loops_of, group_values}
use Rattle.sp_time.specs.Lists.{Each}
use Rattle.sp_node_runs.specs.Runs.{stage_history}
use Rattle.sp_transfer_runs.specs.Choice.{same_when, same_path, Moved, AreApart}
use Rattle.sp_transfer_runs.specs.Delays.{Went, inside, side_went, turns_went, body_went, lane_went, groups_went, stage_went, each_went, moved_by}

-- no run among these stands at this path, and no two of them at one
abbrev pub Others : List At → List Went → Type 0
Others p ws = Each (λ (y : Went). same_path p y.path ≡ false) ws

abbrev pub Apart : List Went → Type 0
Apart [] = Unit {0}
Apart (w ∷ ws) = Others w.path ws × Apart ws

others_moved : (p : List At) (ws : List Went) → Others p ws → Each (λ (y : Moved). same_path p y.path ≡ false) (map moved_by ws)
others_moved p [] h = tt
others_moved p (w ∷ ws) h = (h.0, others_moved p ws h.1)

pub apart_moved : (ws : List Went) → Apart ws → AreApart (map moved_by ws)
apart_moved [] h = tt
apart_moved (w ∷ ws) h = (others_moved w.path ws h.0, apart_moved ws h.1)

none_of : (b : Bool) → (b && false) ≡ false
none_of true = refl
none_of false = refl

both_less : (b c d : Bool) → (c ≡ false → d ≡ false) → (b && c) ≡ false → (b && d) ≡ false
both_less true c d f h = f h
both_less false c d f h = refl

abbrev here_same : At → At → Bool
here_same x y = (x.node == y.node) && same_when x.when y.when

-- one more controller leaves two paths apart
none_before : (q : List At) (y : At) → same_path [] (q ++ y ∷ []) ≡ false
none_before [] y = refl
none_before (c ∷ q) y = refl

none_behind : (p : List At) (x : At) → same_path (p ++ x ∷ []) [] ≡ false
none_behind [] x = refl
none_behind (c ∷ p) x = refl

apart_on : (p q : List At) (x y : At) → same_path p q ≡ false → same_path (p ++ x ∷ []) (q ++ y ∷ []) ≡ false
apart_on [] [] x y h = absurd (true≢false h)
apart_on [] (b ∷ q) x y h = ap (λ c. here_same x b && c) (none_before q y) ∙ none_of (here_same x b)
apart_on (a ∷ p) [] x y h = ap (λ c. here_same a y && c) (none_behind p x) ∙ none_of (here_same a y)
apart_on (a ∷ p) (b ∷ q) x y h = both_less (here_same a b) (same_path p q) (same_path (p ++ x ∷ []) (q ++ y ∷ [])) (apart_on p q x y) h

-- two places in one controller too
apart_here : (p : List At) (x y : At) → here_same x y ≡ false → same_path (p ++ x ∷ []) (p ++ y ∷ []) ≡ false
apart_here [] x y h = ap (λ b. b && true) h
apart_here (a ∷ p) x y h = ap (λ c. here_same a a && c) (apart_here p x y h) ∙ none_of (here_same a a)

others_join : (p : List At) (a b : List Went) → Others p a → Others p b → Others p (a ++ b)
others_join p [] b h g = g
others_join p (w ∷ a) b h g = (h.0, others_join p a b h.1 g)

apart_join : (a b : List Went) → Apart a → Apart b → Each (λ (x : Went). Others x.path b) a → Apart (a ++ b)
apart_join [] b h g c = g
apart_join (w ∷ a) b h g c = (others_join w.path a b h.0 c.0, apart_join a b h.1 g c.1)

-- a run stands in a controller
abbrev Under : (node : ℕ) → List At → Went → Type 0
Under k p x = (w : When) × (x.path ≡ inside p k w)

-- the runs of a part, each in its controller, and apart from each other
module _ (part : List At → History → List Went) (k : ℕ) (under : (p : List At) (h : History) → Each (Under k p) (part p h)) (own : (p : List At) (h : History) → Apart (part p h)) where
  away : (p q : List At) (x : Went) → Under k p x → same_path p q ≡ false → (ys : List Went) → Each (Under k q) ys → Others x.path ys
  away p q x u e [] v = tt
  away p q x u e (y ∷ ys) v = (
    subst (λ a. same_path a y.path ≡ false) (sym u.1) (subst (λ b. same_path (inside p k u.0) b ≡ false) (sym v.0.1) (apart_on p q (record { node = k; when = u.0 }) (record { node = k; when = v.0.0 }) e)),
    away p q x u e ys v.1,
  )

  away_all : (p : List At) (x : Went) → Under k p x → (ws : List Went) → Others p ws → Others x.path (each_went part ws)
  away_all p x u [] h = tt
  away_all p x u (w ∷ ws) h = others_join x.path (part w.path w.history) (each_went part ws) (away p w.path x u h.0 (part w.path w.history) (under w.path w.history)) (away_all p x u ws h.1)

  all_away : (p : List At) (xs ws : List Went) → Each (Under k p) xs → Others p ws → Each (λ (x : Went). Others x.path (each_went part ws)) xs
  all_away p [] ws u h = tt
  all_away p (x ∷ xs) ws u h = (away_all p x u.0 ws h, all_away p xs ws u.1 h)

  pub parts_apart : (ws : List Went) → Apart ws → Apart (each_went part ws)
  parts_apart [] h = tt
  parts_apart (w ∷ ws) h = apart_join (part w.path w.history) (each_went part ws) (own w.path w.history) (parts_apart ws h.1) (all_away w.path (part w.path w.history) ws (under w.path w.history) h.0)

-- a branch
side_under : (k : ℕ) (side : Bool) (p : List At) (h : History) → Each (Under k p) (side_went k side p h)
side_under k true p (branch_ran es true h) = ((in_turn 0, refl), tt)
side_under k true p (branch_ran es false h) = tt
side_under k false p (branch_ran es true h) = tt
side_under k false p (branch_ran es false h) = ((in_turn 0, refl), tt)
side_under k true p (inner_ran bs counts groups) = tt
side_under k true p (outer_ran bs counts groups) = tt
side_under k true p (fsm_ran first turns last) = tt
side_under k true p (moved ts ws) = tt
side_under k true p (picked es places) = tt
side_under k false p (inner_ran bs counts groups) = tt
side_under k false p (outer_ran bs counts groups) = tt
side_under k false p (fsm_ran first turns last) = tt
side_under k false p (moved ts ws) = tt
side_under k false p (picked es places) = tt

side_own : (k : ℕ) (side : Bool) (p : List At) (h : History) → Apart (side_went k side p h)
side_own k true p (branch_ran es true h) = (tt, tt)
side_own k true p (branch_ran es false h) = tt
side_own k false p (branch_ran es true h) = tt
side_own k false p (branch_ran es false h) = (tt, tt)
side_own k true p (inner_ran bs counts groups) = tt
side_own k true p (outer_ran bs counts groups) = tt
side_own k true p (fsm_ran first turns last) = tt
side_own k true p (moved ts ws) = tt
side_own k true p (picked es places) = tt
side_own k false p (inner_ran bs counts groups) = tt
side_own k false p (outer_ran bs counts groups) = tt
side_own k false p (fsm_ran first turns last) = tt
side_own k false p (moved ts ws) = tt
side_own k false p (picked es places) = tt

pub sides_apart : (k : ℕ) (side : Bool) (ws : List Went) → Apart ws → Apart (each_went (side_went k side) ws)
sides_apart k side = parts_apart (side_went k side) k (side_under k side) (side_own k side)

-- an FSM, in turns from one on
abbrev FromTurn : (node least : ℕ) → List At → Went → Type 0
FromTurn k b p x = (u : ℕ) × (b ≤ u) × (x.path ≡ inside p k (in_turn u))

turns_from_one : (k b t : ℕ) (p : List At) (turns : Turns) → b ≤ t → Each (FromTurn k b p) (turns_went k t p turns)
turns_from_one k b t p no_turn l = tt
turns_from_one k b t p (more_turn es h ns rest) l = ((t, l, refl), turns_from_one k b (suc t) p rest (omega (arith, l)))

less_ne : (t u : ℕ) → suc t ≤ u → t ≢ u
less_ne t u l e = omega (arith, l, e)

turn_away : (k t : ℕ) (p : List At) (xs : List Went) → Each (FromTurn k (suc t) p) xs → Others (inside p k (in_turn t)) xs
turn_away k t p [] f = tt
turn_away k t p (x ∷ xs) f = (
  subst (λ a. same_path (inside p k (in_turn t)) a ≡ false) (sym f.0.2) (apart_here p (record { node = k; when = in_turn t }) (record { node = k; when = in_turn f.0.0 }) (ap (λ b. (k == k) && b) (ne_eqb t f.0.0 (less_ne t f.0.0 f.0.1)) ∙ none_of (k == k))),
  turn_away k t p xs f.1,
)

turns_own : (k t : ℕ) (p : List At) (turns : Turns) → Apart (turns_went k t p turns)
turns_own k t p no_turn = tt
turns_own k t p (more_turn es h ns rest) = (turn_away k t p (turns_went k (suc t) p rest) (turns_from_one k (suc t) (suc t) p rest (omega arith)), turns_own k (suc t) p rest)

turns_under : (k t : ℕ) (p : List At) (turns : Turns) → Each (Under k p) (turns_went k t p turns)
turns_under k t p no_turn = tt
turns_under k t p (more_turn es h ns rest) = ((in_turn t, refl), turns_under k (suc t) p rest)

body_under : (k : ℕ) (p : List At) (h : History) → Each (Under k p) (body_went k p h)
body_under k p (fsm_ran first turns last) = turns_under k 0 p turns
body_under k p (inner_ran bs counts groups) = tt
body_under k p (outer_ran bs counts groups) = tt
body_under k p (branch_ran es b h) = tt
body_under k p (moved ts ws) = tt
body_under k p (picked es places) = tt

body_own : (k : ℕ) (p : List At) (h : History) → Apart (body_went k p h)
body_own k p (fsm_ran first turns last) = turns_own k 0 p turns
body_own k p (inner_ran bs counts groups) = tt
body_own k p (outer_ran bs counts groups) = tt
body_own k p (branch_ran es b h) = tt
body_own k p (moved ts ws) = tt
body_own k p (picked es places) = tt

pub bodies_apart : (k : ℕ) (ws : List Went) → Apart ws → Apart (each_went (body_went k) ws)
bodies_apart k = parts_apart (body_went k) k (body_under k) (body_own k)

-- a loop, in groups from one on
module _ (stages : PlainStages) (k s : ℕ) where
  abbrev FromGroup : (least : ℕ) → List At → Went → Type 0
  FromGroup b p x = (u : ℕ) × (b ≤ u) × (x.path ≡ inside p k (in_group_of u s))

  joined : (Q : Went → Type 0) (a b : List Went) → Each Q a → Each Q b → Each Q (a ++ b)
  joined Q [] b f g = g
  joined Q (x ∷ a) b f g = (f.0, joined Q a b f.1 g)

  lane_from : (p : List At) (b g : ℕ) (h : Option History) → b ≤ g → Each (FromGroup b p) (lane_went stages k s p g h)
  lane_from p b g None l = tt
  lane_from p b g (Some h) l = ((g, l, refl), tt)

  groups_from_one : (p : List At) (b g : ℕ) (values : List (List ℤ)) (groups : Groups) → b ≤ g → Each (FromGroup b p) (groups_went stages k s p g values groups)
  groups_from_one p b g [] groups l = tt
  groups_from_one p b g (v ∷ values) no_group l = tt
  groups_from_one p b g (v ∷ values) (more_group row rest) l =
      joined (FromGroup b p) (lane_went stages k s p g (stage_history stages row s)) (groups_went stages k s p (suc g) values rest) (lane_from p b g (stage_history stages row s) l) (groups_from_one p b (suc g) values rest (omega (arith, l)))

  group_away : (g : ℕ) (p : List At) (xs : List Went) → Each (FromGroup (suc g) p) xs → Others (inside p k (in_group_of g s)) xs
  group_away g p [] f = tt
  group_away g p (x ∷ xs) f = (
    subst (λ a. same_path (inside p k (in_group_of g s)) a ≡ false) (sym f.0.2) (apart_here p (record { node = k; when = in_group_of g s }) (record { node = k; when = in_group_of f.0.0 s }) (ap (λ b. (k == k) && (b && (s == s))) (ne_eqb g f.0.0 (less_ne g f.0.0 f.0.1)) ∙ none_of (k == k))),
    group_away g p xs f.1,
  )

  lane_own : (p : List At) (g : ℕ) (h : Option History) → Apart (lane_went stages k s p g h)
  lane_own p g None = tt
  lane_own p g (Some h) = (tt, tt)

  lane_away : (p : List At) (g : ℕ) (h : Option History) (xs : List Went) → Each (FromGroup (suc g) p) xs → Each (λ (x : Went). Others x.path xs) (lane_went stages k s p g h)
  lane_away p g None xs f = tt
  lane_away p g (Some h) xs f = (group_away g p xs f, tt)

  groups_own : (p : List At) (g : ℕ) (values : List (List ℤ)) (groups : Groups) → Apart (groups_went stages k s p g values groups)
  groups_own p g [] groups = tt
  groups_own p g (v ∷ values) no_group = tt
  groups_own p g (v ∷ values) (more_group row rest) =
      apart_join (lane_went stages k s p g (stage_history stages row s)) (groups_went stages k s p (suc g) values rest) (lane_own p g (stage_history stages row s)) (groups_own p (suc g) values rest)
      (lane_away p g (stage_history stages row s) (groups_went stages k s p (suc g) values rest) (groups_from_one p (suc g) (suc g) values rest (omega arith)))

  from_under : (b : ℕ) (p : List At) (xs : List Went) → Each (FromGroup b p) xs → Each (Under k p) xs
  from_under b p [] f = tt
  from_under b p (x ∷ xs) f = ((in_group_of f.0.0 s, f.0.2), from_under b p xs f.1)

  stage_under : (counters : List PlainCounter) (p : List At) (h : History) → Each (Under k p) (stage_went stages k s counters p h)
  stage_under counters p (outer_ran bs counts groups) =
      from_under 0 p (groups_went stages k s p 0 (group_values (loops_of in_lanes counters bs)) groups) (groups_from_one p 0 0 (group_values (loops_of in_lanes counters bs)) groups (omega arith))
  stage_under counters p (inner_ran bs counts groups) = tt
  stage_under counters p (fsm_ran first turns last) = tt
  stage_under counters p (branch_ran es b h) = tt
  stage_under counters p (moved ts ws) = tt
  stage_under counters p (picked es places) = tt

  stage_own : (counters : List PlainCounter) (p : List At) (h : History) → Apart (stage_went stages k s counters p h)
  stage_own counters p (outer_ran bs counts groups) = groups_own p 0 (group_values (loops_of in_lanes counters bs)) groups
  stage_own counters p (inner_ran bs counts groups) = tt
  stage_own counters p (fsm_ran first turns last) = tt
  stage_own counters p (branch_ran es b h) = tt
  stage_own counters p (moved ts ws) = tt
  stage_own counters p (picked es places) = tt

  pub stages_apart : (counters : List PlainCounter) (ws : List Went) → Apart ws → Apart (each_went (stage_went stages k s counters) ws)
  stages_apart counters = parts_apart (stage_went stages k s counters) k (stage_under counters) (stage_own counters)
