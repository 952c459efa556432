-- What a walk over a node adds, by what walks over its parts do.
use Rattle.std.proofs.Common.{◌≡◌, ℕ, zero, suc, ◌+◌, ◌<◌, ◌==◌, Bool, true, false, ◌||◌, List, [], ◌∷◌, ◌++◌, length, slice_index, Option, None, append_assoc, refl, sym, ap, subst, ◌∙◌, arith}
use Rattle.std.proofs.lemmas.Bool.{true≢false}
use Rattle.std.proofs.lemmas.List.{append-nil, length-append}
use Rattle.sp_netlist.specs.declared.parts.Child.{Child}
use Rattle.sp_netlist.specs.Signals.{Signals}
use Rattle.sp_core.specs.Around.{Near}
use Rattle.sp_core.specs.Declarations.{is_among}
use Rattle.sp_core.specs.Invariant.{owned_in}
use Rattle.sp_core.specs.Numbering.{node_count}
use Rattle.sp_core.specs.PlainCore.{PlainOp, PlainCounter, PlainSpan, PlainNode, PlainStages, inner, fsm, branch, load, store, no_stage, more_stage, PlainCore}
use Rattle.sp_plan.specs.PlainPlan.{PlainNodePlan, inner_plan, outer_plan, other_plan, PlainPlan}
use Rattle.sp_plan.specs.Validity.{stage_count}
use Rattle.sp_time.specs.Beats.{slot_at}
use Rattle.sp_machine.specs.Timeline.{slots_from, slots_of, slot_numbers as slots_by}
use Rattle.sp_node_runs.specs.BodiesGiven.{Nets}
use Rattle.sp_tree_circuits.specs.Circuits.{StageCircuits}
use Rattle.sp_tree_events.specs.CopiesStanding.{CopyNets}
use Rattle.sp_copy_nets.specs.Table.{slot_numbers}
use Rattle.sp_tree_handed.specs.declared.owners.Keeping.{Keeping}
use Rattle.sp_tree_handed.specs.declared.owners.LoopTurns.{LoopTurns}
use Rattle.sp_tree_handed.specs.declared.owners.Renewal.{Renewal}
use Rattle.sp_tree_handed.specs.Owners.{keeping}
use Rattle.sp_tree_copies.specs.declared.numbers.LoopCopies.{LoopCopies}
use Rattle.sp_tree_copies.specs.declared.walk.Walk.{Walk}
use Rattle.sp_tree_copies.specs.Naming.{names_of, bound_names, transfer_names, AreNamed, StagesNamed}
use Rattle.sp_tree_copies.specs.Walks.{Adds, KeepsNext, nets_in, IsNext, WalksNode}
use Rattle.sp_tree_copies.proofs.Nexting.{next_later, first_next, second_next}
use Rattle.sp_tree_copies.proofs.Walking.{adds_join}

-- which are among which
pub among_left : (m : ℕ) (xs ys : List ℕ) → is_among m xs ≡ true → is_among m (xs ++ ys) ≡ true
among_left m [] ys h = absurd (true≢false (sym h))
among_left m (x ∷ xs) ys h = by (m == x) h (among_left m xs ys)
  where
    by : (b : Bool) → (b || is_among m xs) ≡ true → (is_among m xs ≡ true → is_among m (xs ++ ys) ≡ true) → (b || is_among m (xs ++ ys)) ≡ true
    by true h rest = refl
    by false h rest = rest h

pub among_right : (m : ℕ) (xs ys : List ℕ) → is_among m ys ≡ true → is_among m (xs ++ ys) ≡ true
among_right m [] ys h = h
among_right m (x ∷ xs) ys h = by (m == x) (among_right m xs ys h)
  where
    by : (b : Bool) → is_among m (xs ++ ys) ≡ true → (b || is_among m (xs ++ ys)) ≡ true
    by true h = refl
    by false h = h

-- the slot of a stage, as the timeline and the plan have it
slot_from : (slots chains : List ℕ) (i : ℕ) → i < length (slots_from slots chains) → (slot_at (slots_from slots chains) i).slot ≡ slice_index slots i
slot_from [] chains i lt = absurd (omega (arith, lt))
slot_from (x ∷ slots) [] i lt = absurd (omega (arith, lt))
slot_from (x ∷ slots) (c ∷ chains) zero lt = refl
slot_from (x ∷ slots) (c ∷ chains) (suc i) lt = slot_from slots chains i (omega (arith, lt))

pub slot_by : (p : PlainNodePlan) (i : ℕ) → i < length (slots_of p) → (slot_at (slots_of p) i).slot ≡ slice_index (slots_by p) i
slot_by (outer_plan slots chains) i lt = slot_from slots chains i lt
slot_by (inner_plan times ii latency serial) i lt = absurd (omega (arith, lt))
slot_by other_plan i lt = absurd (omega (arith, lt))

-- a slot's nets, in the list of its loop
pub nets_at : (gone more : List LoopCopies) (copies : LoopCopies) (loops : List LoopCopies) (at slot : ℕ) → loops ≡ gone ++ (copies ∷ more) → at ≡ length gone → nets_in loops at slot ≡ slot_numbers copies.numbers.items slot
nets_at gone more copies loops at slot e at_is = ap (λ l. nets_in l at slot) e ∙ ap (λ k. nets_in (gone ++ (copies ∷ more)) k slot) at_is ∙ go gone
  where
    go : (gone : List LoopCopies) → nets_in (gone ++ (copies ∷ more)) (length gone) slot ≡ slot_numbers copies.numbers.items slot
    go [] = refl
    go (x ∷ gone) = go gone

module _ (core : PlainCore) (plan : PlainPlan) (s : Signals) where
  -- stages are named by what stands around those that there are
  pub stages_around : (stages : PlainStages) (near : List Near) (j i : ℕ) (nets : (stage : ℕ) → Nets) (child : (stage : ℕ) → Child) (w : StageCircuits core plan s stages near j i nets child) (a b : (stage : ℕ) → CopyNets) (names : List (Option ℕ)) (renewed : List Renewal) (kept : List Keeping)
      → ((m : ℕ) → m < stage_count stages → a (i + m) ≡ b (i + m)) → StagesNamed core plan s stages near j i nets child w a names renewed kept → StagesNamed core plan s stages near j i nets child w b names renewed kept
  stages_around no_stage near j i nets child w a b names renewed kept same h = h
  stages_around (more_stage first last comb node rest) near j i nets child w a b names renewed kept same h = record {
    one_names = h.one_names;
    other_names = h.other_names;
    one_renewed = h.one_renewed;
    other_renewed = h.other_renewed;
    one_kept = h.one_kept;
    other_kept = h.other_kept;
    names_are = h.names_are;
    renewed_are = h.renewed_are;
    kept_are = h.kept_are;
    first = subst (λ x. AreNamed core plan s node near (nets i) j (child i) w.0 x h.one_names h.one_renewed h.one_kept) (subst (λ k. a k ≡ b k) {x = i + 0} {y = i} (omega arith) (same 0 (omega arith))) h.first;
    second = stages_around rest near (j + node_count node) (suc i) nets child w.1 a b h.other_names h.other_renewed h.other_kept (λ m lt. subst (λ k. a k ≡ b k) {x = i + suc m} {y = suc i + m} (omega arith) (same (suc m) (omega (arith, lt)))) h.second;
  }

module _ (core : PlainCore) (plan : PlainPlan) (turns : List LoopTurns) (kept : List Keeping) (loops : List LoopCopies) where
  abbrev Walks : PlainNode → (k : ℕ) → CopyNets → Walk → Walk → Type 0
  Walks node k around a b = WalksNode core plan turns kept loops node k around a b

  pub adds_as : (ns ms : List (Option ℕ)) (rs ss : List Renewal) (ks js : List Keeping) (l p m q : ℕ) (a b : Walk) → ns ≡ ms → rs ≡ ss → ks ≡ js → l ≡ p → m ≡ q → Adds ns rs ks l m a b → Adds ms ss js p q a b
  adds_as ns ms rs ss ks js l p m q a b e f g u v h =
      subst (λ x. Adds x ss js p q a b) e (subst (λ x. Adds ns x js p q a b) f (subst (λ x. Adds ns rs x p q a b) g (subst (λ x. Adds ns rs ks x q a b) u (subst (λ x. Adds ns rs ks l x a b) v h))))

  pub inner_walks : (node : PlainNode) (counters own_counters : List PlainCounter) (owned : List ℕ) (ops own_ops : List PlainOp) (comb : Option ℕ) (k : ℕ) (around : CopyNets) (a b c : Walk) → node ≡ inner counters owned ops comb → own_counters ≡ counters → own_ops ≡ ops
      → Adds (bound_names around own_counters) [] [] 0 0 a b → Adds (names_of around own_ops) [] [] 0 0 b c → Walks node k around a c
  inner_walks node counters own_counters owned ops own_ops comb k around a b c is counters_is ops_is f g = subst (λ v. Walks v k around a c) (sym is) walks
    where
      all : Adds (bound_names around counters ++ names_of around ops) [] [] 0 0 a c
      all = adds_join (bound_names around counters) (names_of around ops) [] [] [] [] 0 0 0 0 a b c (subst (λ v. Adds (bound_names around v) [] [] 0 0 a b) counters_is f) (subst (λ v. Adds (names_of around v) [] [] 0 0 b c) ops_is g)

      walks : Walks (inner counters owned ops comb) k around a c
      walks planned copied s zips near env child w now now_kept next turn = record {
        names = bound_names around counters ++ names_of around ops;
        renewed = [];
        kept = [];
        adds = adds_as _ _ [] [] [] [] 0 (length now) 0 (length now_kept) a c refl refl refl (sym (ap (λ xs. length xs) turn.0)) (sym (ap (λ xs. length xs) turn.1)) all;
        named = (refl, refl, refl);
      }

  pub load_walks : (node : PlainNode) (r m : ℕ) (spans own_spans : List PlainSpan) (k : ℕ) (around : CopyNets) (a c : Walk) → node ≡ load r m spans → own_spans ≡ spans → Adds (transfer_names around m own_spans) [] [] 0 0 a c → Walks node k around a c
  load_walks node r m spans own_spans k around a c is spans_is f = subst (λ v. Walks v k around a c) (sym is) walks
    where
      walks : Walks (load r m spans) k around a c
      walks planned copied s zips near env child w now now_kept next turn = record {
        names = transfer_names around m spans;
        renewed = [];
        kept = [];
        adds = adds_as _ _ [] [] [] [] 0 (length now) 0 (length now_kept) a c refl refl refl (sym (ap (λ xs. length xs) turn.0)) (sym (ap (λ xs. length xs) turn.1)) (subst (λ v. Adds (transfer_names around m v) [] [] 0 0 a c) spans_is f);
        named = (refl, refl, refl);
      }

  pub store_walks : (node : PlainNode) (r m : ℕ) (spans own_spans : List PlainSpan) (k : ℕ) (around : CopyNets) (a c : Walk) → node ≡ store r m spans → own_spans ≡ spans → Adds (transfer_names around m own_spans) [] [] 0 0 a c → Walks node k around a c
  store_walks node r m spans own_spans k around a c is spans_is f = subst (λ v. Walks v k around a c) (sym is) walks
    where
      walks : Walks (store r m spans) k around a c
      walks planned copied s zips near env child w now now_kept next turn = record {
        names = transfer_names around m spans;
        renewed = [];
        kept = [];
        adds = adds_as _ _ [] [] [] [] 0 (length now) 0 (length now_kept) a c refl refl refl (sym (ap (λ xs. length xs) turn.0)) (sym (ap (λ xs. length xs) turn.1)) (subst (λ v. Adds (transfer_names around m v) [] [] 0 0 a c) spans_is f);
        named = (refl, refl, refl);
      }

  pub branch_walks : (node : PlainNode) (ops own_ops : List PlainOp) (first second one other : PlainNode) (k j third count : ℕ) (around : CopyNets) (a b m c : Walk) → node ≡ branch ops first second → own_ops ≡ ops → one ≡ first → other ≡ second → j ≡ suc k → count ≡ node_count first → third ≡ j + count
      → Adds (names_of around own_ops) [] [] 0 0 a b → Walks one j around b m → Walks other third around m c → Walks node k around a c
  branch_walks node ops own_ops first second one other k j third count around a b m c is ops_is one_is other_is j_is count_is third_is f g h = subst (λ v. Walks v k around a c) (sym is) walks
    where
      tests : Adds (names_of around ops) [] [] 0 0 a b
      tests = subst (λ v. Adds (names_of around v) [] [] 0 0 a b) ops_is f

      firsts : Walks first (suc k) around b m
      firsts = subst (λ v. Walks first v around b m) j_is (subst (λ v. Walks v j around b m) one_is g)

      seconds : Walks second (suc k + node_count first) around m c
      seconds = subst (λ v. Walks second v around m c) (omega (arith, third_is, j_is, count_is)) (subst (λ v. Walks v third around m c) other_is h)

      walks : Walks (branch ops first second) k around a c
      walks planned copied s zips near env child w now now_kept next turn =
          let z = tests.loops_are in
          let y = tests.states_are in
          let start = next_later turns kept now now_kept a b next (omega (arith, z)) (omega (arith, y)) in
          let x = firsts (omega (arith, planned)) (λ m h. copied m (among_left m (owned_in first) (owned_in second) h)) s zips near env w.chosen w.one turn.one turn.one_kept (first_next turns kept turn.one turn.other now turn.one_kept turn.other_kept now_kept b turn.turns_are turn.kept_are start) turn.first in
          let u = seconds (omega (arith, planned)) (λ m h. copied m (among_right m (owned_in first) (owned_in second) h)) s zips near env w.left w.other turn.other turn.other_kept
          (second_next turns kept turn.one turn.other now turn.one_kept turn.other_kept now_kept b turn.turns_are turn.kept_are start m x.adds.loops_are x.adds.states_are) turn.second in
          let l = ap (λ xs. length xs) turn.turns_are ∙ length-append turn.one turn.other in
          let q = ap (λ xs. length xs) turn.kept_are ∙ length-append turn.one_kept turn.other_kept in
          record {
            names = names_of around ops ++ (x.names ++ u.names);
            renewed = x.renewed ++ u.renewed;
            kept = x.kept ++ u.kept;
            adds = adds_as _ _ _ _ _ _ _ (length now) _ (length now_kept) a c refl refl refl (omega (arith, l)) (omega (arith, q))
                (adds_join (names_of around ops) (x.names ++ u.names) [] (x.renewed ++ u.renewed) [] (x.kept ++ u.kept) 0 (length turn.one + length turn.other) 0 (length turn.one_kept + length turn.other_kept) a b c tests
                (adds_join x.names u.names x.renewed u.renewed x.kept u.kept (length turn.one) (length turn.other) (length turn.one_kept) (length turn.other_kept) b m c x.adds u.adds));
            named = record {
              one_names = x.names;
              other_names = u.names;
              one_renewed = x.renewed;
              other_renewed = u.renewed;
              one_kept = x.kept;
              other_kept = u.kept;
              names_are = refl;
              renewed_are = refl;
              kept_are = refl;
              first = x.named;
              second = u.named;
            };
          }

  pub machine_walks : (node : PlainNode) (start own_start : List PlainOp) (state : ℕ) (test own_test : List PlainOp) (body own_body : PlainNode) (after own_after : List PlainOp) (k j : ℕ) (around : CopyNets) (a b m p q r c : Walk) → node ≡ fsm start state test body after → own_start ≡ start → own_test ≡ test → own_body ≡ body
      → own_after ≡ after → j ≡ suc k → Adds (names_of around own_start) [] [] 0 0 a b → Adds (names_of around own_test) [] [] 0 0 b m → KeepsNext kept (around state) m p → KeepsNext kept (around state) p q → Walks own_body j around q r
      → Adds (names_of around own_after) [] [] 0 0 r c → Walks node k around a c
  machine_walks node start own_start state test own_test body own_body after own_after k j around a b m p q r c is start_is test_is body_is after_is j_is f g keep again h i = subst (λ v. Walks v k around a c) (sym is) walks
    where
      starts : Adds (names_of around start) [] [] 0 0 a b
      starts = subst (λ v. Adds (names_of around v) [] [] 0 0 a b) start_is f

      tests : Adds (names_of around test) [] [] 0 0 b m
      tests = subst (λ v. Adds (names_of around v) [] [] 0 0 b m) test_is g

      bodies : Walks body (suc k) around q r
      bodies = subst (λ v. Walks body v around q r) j_is (subst (λ v. Walks v j around q r) body_is h)

      afters : Adds (names_of around after) [] [] 0 0 r c
      afters = subst (λ v. Adds (names_of around v) [] [] 0 0 r c) after_is i

      walks : Walks (fsm start state test body after) k around a c
      walks planned copied s zips near env child w now now_kept next turn =
          let one : Keeping = keeping state w.first.done w.begun None in
          let two : Keeping = keeping state w.next.done w.stepped None in
          let z0 = starts.loops_are in
          let y0 = starts.states_are in
          let z1 = tests.loops_are in
          let y1 = tests.states_are in
          let at = next.state in
          let all : kept ≡ next.passed_kept ++ (one ∷ (two ∷ (turn.rest ++ next.rest_kept))) = next.kept_are ∙ ap (λ l. next.passed_kept ++ (l ++ next.rest_kept)) turn.kept_are in
          let first = keep next.passed_kept (two ∷ (turn.rest ++ next.rest_kept)) one all (omega (arith, z0, y0, y1, at)) in
          let l1 = length-append next.passed_kept (one ∷ []) in
          let y2 = first.states_are in
          let other = again (next.passed_kept ++ one ∷ []) (turn.rest ++ next.rest_kept) two (all ∙ sym (append_assoc next.passed_kept (one ∷ []) (two ∷ (turn.rest ++ next.rest_kept)))) (omega (arith, y0, y1, y2, at, l1)) in
          let y3 = other.states_are in
          let z2 = first.loops_are in
          let z3 = other.loops_are in
          let l2 = length-append next.passed_kept (one ∷ two ∷ []) in
          let begun : IsNext turns kept now turn.rest q = record {
            passed = next.passed;
            rest = next.rest;
            passed_kept = next.passed_kept ++ (one ∷ two ∷ []);
            rest_kept = next.rest_kept;
            turns_are = next.turns_are;
            kept_are = all ∙ sym (append_assoc next.passed_kept (one ∷ two ∷ []) (turn.rest ++ next.rest_kept));
            loop = (let e = next.loop in omega (arith, e, z0, z1, z2, z3));
            state = omega (arith, y0, y1, y2, y3, at, l2);
          } in
          let x = bodies (omega (arith, planned)) (λ m h. copied m (among_right m (state ∷ []) (owned_in body) h)) s zips near env w.body w.goes now turn.rest begun turn.body in
          let own : List Keeping = keeping state w.first.done w.begun (around state) ∷ keeping state w.next.done w.stepped (around state) ∷ [] in
          let n = ap (λ xs. length xs) turn.kept_are in
          record {
            names = names_of around start ++ (names_of around test ++ (x.names ++ names_of around after));
            renewed = x.renewed;
            kept = own ++ x.kept;
            adds = adds_as _ (names_of around start ++ (names_of around test ++ (x.names ++ names_of around after))) _ x.renewed _ (own ++ x.kept) _ (length now) _ (length now_kept) a c refl (append-nil x.renewed) (append-nil (own ++ x.kept)) (omega arith) (omega (arith, n))
                (adds_join (names_of around start) (names_of around test ++ (x.names ++ names_of around after)) [] (x.renewed ++ []) [] ((own ++ x.kept) ++ []) 0 (0 + (length now + 0)) 0 (0 + (2 + length turn.rest + 0)) a b c starts
                (adds_join (names_of around test) (x.names ++ names_of around after) [] (x.renewed ++ []) [] ((own ++ x.kept) ++ []) 0 (length now + 0) 0 (2 + length turn.rest + 0) b m c tests
                (adds_join x.names (names_of around after) x.renewed [] (own ++ x.kept) [] (length now) 0 (2 + length turn.rest) 0 m r c
                (adds_as x.names x.names x.renewed x.renewed (own ++ x.kept) (own ++ x.kept) (0 + length now) (length now) (2 + length turn.rest) (2 + length turn.rest) m r refl refl refl (omega arith) refl
                (adds_join [] x.names [] x.renewed own x.kept 0 (length now) 2 (length turn.rest) m q r (adds_join [] [] [] [] (keeping state w.first.done w.begun (around state) ∷ []) (keeping state w.next.done w.stepped (around state) ∷ []) 0 0 1 1 m p q first other) x.adds)) afters)));
            named = record { inside = x.names; rest = x.kept; names_are = refl; kept_are = refl; body = x.named };
          }
