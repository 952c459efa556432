-- How controllers go, by how the rounds of their bodies do.
use Rattle.std.proofs.Common.{◌≡◌, ℕ, ◌<◌, ◌≤◌, Bool, true, false, List, [], ◌∷◌, ◌++◌, ◌+◌, map, length, get_or, set, drop, refl, sym, ◌∙◌, ap, subst, arith, Contains, All}
use Rattle.std.specs.Result.{OnOk}
use Rattle.std.proofs.lemmas.List.{drop_more, drop_all, length-set}
use Rattle.std.proofs.lemmas.List.Elements.{Contains-append_left, Contains-append_right}
use Rattle.std.specs.Prelude.{◌==◌, flat_map, Result, Ok, Err}
use Rattle.sp_words.specs.declared.kind.Style.{Style}
use Rattle.sp_words.specs.Words.{IsWord}
use Rattle.sp_tree.specs.declared.statement.Comb.{Comb}
use Rattle.sp_tree.specs.declared.statement.Stmt.{Stmt}
use Rattle.sp_tree.specs.Elements.{tuples}
use Rattle.sp_tree.specs.Expressions.{word}
use Rattle.sp_tree.specs.PlainExpression.{PlainExpr, type_of}
use Rattle.sp_tree.specs.PlainProgram.{PlainMem}
use Rattle.sp_tree.specs.PlainStatement as plain
use Rattle.sp_tree.specs.PlainStatement.{PlainCounter, PlainStmts, more_stmt}
use Rattle.sp_tree.specs.PlainTree.{plain_stmt, plain_stmts}
use Rattle.sp_tree.specs.Sequential.{run_all, combining, name_now, count_now}
use Rattle.sp_tree.specs.Shape.{Shape, ran, shapes}
use Rattle.sp_tree.specs.Step.{Step, Went, went, ◌>>=◌, ◌>>◌, pure, turn, in_order, as_long_as}
use Rattle.sp_tree.specs.Structure.{mems_declared, vals_declared, counters_declared, counter_numbers}
use Rattle.sp_tree.specs.Typing.{Scope, BodyTyped, after_all, with_counters, with_val}
use Rattle.sp_seq.specs.declared.digit.Digit.{Digit}
use Rattle.sp_seq.specs.declared.state.State.{State}
use Rattle.sp_seq.specs.declared.state.Stop.{Stop}
use Rattle.sp_seq.specs.Controlling.{CanLoop, CanTurn, fsm_turn, round}
use Rattle.sp_seq.specs.Evaluating.{Setting}
use Rattle.sp_seq.specs.Looping.{values, current, word_at, tuples_left, have_words, left_if, CanName, IsStart, word_combined, part_combined, IsDigit}
use Rattle.sp_seq.specs.Running.{CanRun, CanRunAll, Numbered, BodyTold, Stands, Finished}
use Rattle.sp_seq.specs.States.{store_of, halted, Keeps, Sees}
use Rattle.sp_seq.proofs.BodyLemmas.{BodyGo, body_over}
use Rattle.sp_seq.proofs.DigitLemmas.{left_at_start}
use Rattle.sp_seq.proofs.FsmLemmas.{FsmGo}
use Rattle.sp_seq.proofs.RoundLemmas.{LoopGo, loop_start, loop_more, loop_halted, foreach_step, foreach_halted, foreach_went, combine_step, combine_halted, combine_stopped, combine_went, combining_more}
use Rattle.sp_seq.proofs.RunningLemmas.{contained_first, sees_named, stands_kept}
use Rattle.sp_seq.proofs.SeesLemmas.{sees_later}
use Rattle.sp_seq.proofs.ScopeLemmas.{numbered_later, numbered_some, stands_on, stands_within, within_on, within_counters, within_after_all, within_val, contained_later}
use Rattle.sp_seq.proofs.StepLemmas.{bind_went}

-- so far of each loop: the first state is that of the function, the second that when the loop began
pub record ForeachGo (mems : List PlainMem) (counters : List PlainCounter) (body : PlainStmts) (start begun : State) (first : List Digit) (now : State) (digits : List Digit) (more : Bool) : Type 0 where
  pub going : (style : Style) (can : CanRun mems (plain.foreach style counters body) start)
      → LoopGo (foreach_step mems can.setting.roomy counters body) (in_order (foreach_step mems can.setting.roomy counters body) (tuples (map values first)) begun.left (store_of begun)) mems can.setting.roomy can.setting.scope start now (left_if more digits)
  pub good : more ≡ true → All IsDigit digits
  pub same : length digits ≡ length first

pub record ReduceGo (mems : List PlainMem) (counters : List PlainCounter) (body : PlainStmts) (comb : Comb) (acc place : ℕ) (e : PlainExpr) (fold : Bool) (start begun : State) (first : List Digit) (now : State) (digits : List Digit) (more combines : Bool) : Type 0 where
  pub going : (style : Style) (can : CanRun mems (plain.reduce style fold acc counters body e comb) start)
      → LoopGo (combine_step mems can.setting.roomy counters body (word_combined mems comb acc place e)) (in_order (combine_step mems can.setting.roomy counters body (word_combined mems comb acc place e)) (combining fold (tuples (map values first))) begun.left (store_of begun)) mems can.setting.roomy can.setting.scope start now (combining combines (left_if more digits))
  pub good : more ≡ true → All IsDigit digits
  pub same : length digits ≡ length first

pub record MemReduceGo (mems : List PlainMem) (counters : List PlainCounter) (body : PlainStmts) (comb : Comb) (acc place : ℕ) (part : ℕ) (start begun : State) (first : List Digit) (now : State) (digits : List Digit) (more combines : Bool) : Type 0 where
  pub going : (style : Style) (can : CanRun mems (plain.mem_reduce style acc counters body part comb) start)
      → LoopGo (combine_step mems can.setting.roomy counters body (part_combined mems comb acc part place)) (in_order (combine_step mems can.setting.roomy counters body (part_combined mems comb acc part place)) (combining false (tuples (map values first))) begun.left (store_of begun)) mems can.setting.roomy can.setting.scope start now (combining combines (left_if more digits))
  pub good : more ≡ true → All IsDigit digits
  pub same : length digits ≡ length first

-- the test and the turn of an FSM
abbrev pub test_of : List PlainMem → (tested : ℕ) → (test : PlainExpr) → ℕ → Step Bool
test_of mems tested test w = do
  name_now tested w
  holds ← word mems test
  pure (holds == 1)

pub record TurnsGo (mems : List PlainMem) (from : PlainExpr) (tested : ℕ) (test : PlainExpr) (state : ℕ) (body : PlainStmts) (last : ℕ) (next : PlainExpr) (start begun : State) (first : ℕ) (now : State) (w : ℕ) : Type 0 where
  pub going : (can : CanRun mems (plain.fsm from tested test state body last next) start)
      → FsmGo (test_of mems tested test) (fsm_turn mems can.setting.roomy state last body next) mems can.setting.roomy can.setting.scope (as_long_as (test_of mems tested test) (fsm_turn mems can.setting.roomy state last body next) first begun.left (store_of begun)) start now w
  pub is_word : IsWord (type_of from) w

-- a run that begins with steps that are done
module _ (mems : List PlainMem) (roomy : List ℕ) (scope : Scope) where
  pub finished_from : {A : Type 0} (other : Scope) (s u t : State) (w v : Went A) → w ≡ v → Stands mems roomy other s u → (r : Result (Unit {0}) Stop) → Finished mems roomy scope u v r t → Finished mems roomy scope s w r t
  finished_from other s u t w v e st (Ok x) f = (f.0, e ∙ f.1, stands_on st f.2)
  finished_from other s u t w v e st (Err stop) f = e ∙ f

  pub no_more_left : {A : Type 0} (u t : State) (w : Went A) (r : Result (Unit {0}) Stop) → Finished mems roomy scope u w r t → OnOk r (t.left ≤ u.left)
  no_more_left u t w (Ok x) f = f.2.left
  no_more_left u t w (Err stop) f = tt

pub fewer_left : (a b c : ℕ) (r : Result (Unit {0}) Stop) → b < a → OnOk r (c ≤ b) → OnOk r (c < a)
fewer_left a b c (Ok x) l h = omega arith
fewer_left a b c (Err stop) l h = tt

-- the statement at a place of a body
module _ (mems : List PlainMem) (roomy : List ℕ) (final : Scope) (whole : Went (List Shape)) (start now : State) (body : List Stmt) (k : ℕ) (x : Stmt) (l : k < length body) (is : x ≡ get_or body k x) (h : BodyGo mems roomy final whole start now (plain_stmts (drop k body))) where
  pub at_next : BodyGo mems roomy final whole start now (more_stmt (plain_stmt x) (plain_stmts (drop (k + 1) body)))
  at_next = subst (λ xs. BodyGo mems roomy final whole start now (plain_stmts xs)) (drop_more body k x l ∙ ap (λ y. y ∷ drop (k + 1) body) (sym is)) h

pub at_end : (mems : List PlainMem) (roomy : List ℕ) (final : Scope) (whole : Went (List Shape)) (start now : State) (body : List Stmt) (k : ℕ) → length body ≤ k → BodyGo mems roomy final whole start now (plain_stmts (drop k body)) → Finished mems roomy final start whole (Ok tt) now
at_end mems roomy final whole start now body k l h = body_over mems roomy final whole start now (subst (λ xs. BodyGo mems roomy final whole start now (plain_stmts xs)) (drop_all k body l) h)

-- an iteration
module _ (mems : List PlainMem) (counters : List PlainCounter) (body : PlainStmts) (s : State) (can : CanLoop mems counters body s) where
  pub round_counts : (u : State) → Keeps s u → (c : ℕ) → Contains (counter_numbers counters) c → c < length u.counts.items
  round_counts u k c h = subst (λ n. c < n) (sym (ap length k.counts)) (can.numbered.counters c (Contains-append_left (counter_numbers counters) (counters_declared body) c h))

  module _ (u v : State) (k : Keeps s u) (st : Stands mems can.setting.roomy (with_counters can.setting.scope counters) u v) where
    round_stands : Stands mems can.setting.roomy (with_counters can.setting.scope counters) s v
    round_stands = let l = k.left in let m = st.left in record { sees = st.sees; values = st.values ∙ ap length k.values; counts = st.counts ∙ ap length k.counts; left = omega arith }

    abbrev pub round_body : CanRunAll mems body v
    round_body = record {
      setting = record { program = can.setting.program; same = can.setting.same; scope = with_counters can.setting.scope counters; roomy = can.setting.roomy; sees = st.sees };
      typed = can.typed;
      numbered = numbered_later (st.values ∙ ap length k.values) (st.counts ∙ ap length k.counts)
          (numbered_some (λ m h. h) (λ v h. h) (λ c h. Contains-append_right (counter_numbers counters) (counters_declared body) c h) can.numbered);
      told = can.told;
    }

    pub round_goes : (ws : List ℕ) → turn s.left (store_of s) ≡ went tt u.left (store_of u) → count_now counters ws u.left (store_of u) ≡ went tt v.left (store_of v) → (r : Result (Unit {0}) Stop) (t : State)
        → Finished mems can.setting.roomy (after_all (with_counters can.setting.scope counters) body) v (run_all mems can.setting.roomy body v.left (store_of v)) r t
        → Finished mems can.setting.roomy (after_all (with_counters can.setting.scope counters) body) s (round mems can.setting.roomy counters body ws s.left (store_of s)) r t
    round_goes ws e f r t g = finished_from mems can.setting.roomy (after_all (with_counters can.setting.scope counters) body) (with_counters can.setting.scope counters) s v t _ _
        (bind_went turn _ s.left (store_of s) tt u.left (store_of u) e ∙ bind_went (count_now counters ws) _ u.left (store_of u) tt v.left (store_of v) f)
        round_stands r g

-- what an iteration of each loop needs
module _ {mems : List PlainMem} {counters : List PlainCounter} {body : PlainStmts} {s t : State} where
  abbrev loop_at : (h : Setting mems s) → (typed : BodyTyped h.program (with_counters h.scope counters) body) → Numbered mems s (mems_declared body) (vals_declared body) (counter_numbers counters ++ counters_declared body) → BodyTold mems h.roomy body → Stands mems h.roomy h.scope s t → CanLoop mems counters body t
  loop_at h typed n told st = record { setting = record { program = h.program; same = h.same; scope = h.scope; roomy = h.roomy; sees = st.sees }; typed = typed; numbered = numbered_later st.values st.counts n; told = told }

  abbrev pub foreach_loop : (style : Style) (can : CanRun mems (plain.foreach style counters body) s) → Stands mems can.setting.roomy can.setting.scope s t → CanLoop mems counters body t
  foreach_loop style can st = loop_at can.setting can.typed.2 can.numbered can.told st

  abbrev pub reduce_loop : (style : Style) (fold : Bool) (acc : ℕ) (e : PlainExpr) (comb : Comb) (can : CanRun mems (plain.reduce style fold acc counters body e comb) s) → Stands mems can.setting.roomy can.setting.scope s t → CanLoop mems counters body t
  reduce_loop style fold acc e comb can st = loop_at can.setting can.typed.2 can.numbered can.told st

  abbrev pub mem_reduce_loop : (style : Style) (acc part : ℕ) (comb : Comb) (can : CanRun mems (plain.mem_reduce style acc counters body part comb) s) → Stands mems can.setting.roomy can.setting.scope s t → CanLoop mems counters body t
  mem_reduce_loop style acc part comb can st = loop_at can.setting can.typed.2 can.numbered can.told st

-- the tuple that stands is the first of those that are left
pub first_left_of : (ds : List Digit) → (rest : List (List ℕ)) × (tuples_left ds ≡ current ds ∷ rest)
first_left_of [] = ([], refl)
first_left_of (d ∷ ds) =
    let h = first_left_of ds in
    let others = flat_map (λ w. map (λ ws. w ∷ ws) (tuples (map values ds))) (drop (d.at + 1) (values d)) in
    (map (λ ws. word_at d d.at ∷ ws) h.0 ++ others, ap (λ ts. map (λ ws. word_at d d.at ∷ ws) ts ++ others) h.1)

-- what stands after a body stood before it
narrow : (mems : List PlainMem) (roomy : List ℕ) (scope : Scope) (counters : List PlainCounter) (body : PlainStmts) (s t : State) → Stands mems roomy (after_all (with_counters scope counters) body) s t → Stands mems roomy scope s t
narrow mems roomy scope counters body s t st = stands_within (within_on scope (with_counters scope counters) _ (within_counters counters scope) (within_after_all body (with_counters scope counters))) st

-- each loop, one iteration further
module _ (mems : List PlainMem) (counters : List PlainCounter) (body : PlainStmts) (roomy : List ℕ) (scope : Scope) (start now : State) (digits : List Digit) (m : Bool) (is : m ≡ true) where
  module _ (whole : Went (List Shape)) (g : LoopGo (foreach_step mems roomy counters body) whole mems roomy scope start now (left_if m digits)) where
    pub foreach_stops : (stop : Stop) → round mems roomy counters body (current digits) now.left (store_of now) ≡ halted stop → whole ≡ halted stop
    foreach_stops stop e =
        let f = first_left_of digits in
        loop_halted (foreach_step mems roomy counters body) mems roomy scope whole start now (left_if m digits) g (current digits) f.0 (ap (λ b. left_if b digits) is ∙ f.1) stop (foreach_halted mems roomy counters body (current digits) now.left (store_of now) stop e)

    pub foreach_next : (more : Bool) (others : List Digit) → tuples_left digits ≡ current digits ∷ left_if more others → (t : State) → Finished mems roomy (after_all (with_counters scope counters) body) now (round mems roomy counters body (current digits) now.left (store_of now)) (Ok tt) t
        → LoopGo (foreach_step mems roomy counters body) whole mems roomy scope start t (left_if more others)
    foreach_next more others e t f =
        loop_more (foreach_step mems roomy counters body) mems roomy scope whole start now (left_if m digits) g (current digits) (left_if more others) (ap (λ b. left_if b digits) is ∙ e) (ran (shapes f.0)) t
        (foreach_went mems roomy counters body (current digits) now.left (store_of now) f.0 t.left (store_of t) f.1) (narrow mems roomy scope counters body now t f.2)

  module _ {C : Type 0} (combine : Bool → Step C) (whole : Went (List Shape)) (combines : Bool) (g : LoopGo (combine_step mems roomy counters body combine) whole mems roomy scope start now (combining combines (left_if m digits))) where
    rest_is : (others : List (List ℕ)) → tuples_left digits ≡ current digits ∷ others → combining combines (left_if m digits) ≡ (combines, current digits) ∷ combining true others
    rest_is others e = ap (combining combines) (ap (λ b. left_if b digits) is ∙ e) ∙ combining_more combines (current digits) others

    pub combine_stops : (stop : Stop) → round mems roomy counters body (current digits) now.left (store_of now) ≡ halted stop → whole ≡ halted stop
    combine_stops stop e =
        let f = first_left_of digits in
        loop_halted (combine_step mems roomy counters body combine) mems roomy scope whole start now _ g (combines, current digits) (combining true f.0) (rest_is f.0 f.1) stop (combine_halted mems roomy counters body combine combines (current digits) now.left (store_of now) stop e)

    module _ (t : State) (f : Finished mems roomy (after_all (with_counters scope counters) body) now (round mems roomy counters body (current digits) now.left (store_of now)) (Ok tt) t) where
      pub combine_stops_later : (stop : Stop) → combine combines t.left (store_of t) ≡ halted stop → whole ≡ halted stop
      combine_stops_later stop e =
          let l = first_left_of digits in
          loop_halted (combine_step mems roomy counters body combine) mems roomy scope whole start now _ g (combines, current digits) (combining true l.0) (rest_is l.0 l.1) stop (combine_stopped mems roomy counters body combine combines (current digits) now.left (store_of now) f.0 t.left (store_of t) f.1 stop e)

      pub combine_next : (more : Bool) (others : List Digit) → tuples_left digits ≡ current digits ∷ left_if more others → (c : C) (u : State) → combine combines t.left (store_of t) ≡ went c u.left (store_of u) → Keeps t u
          → LoopGo (combine_step mems roomy counters body combine) whole mems roomy scope start u (combining true (left_if more others))
      combine_next more others e c u r k =
          loop_more (combine_step mems roomy counters body combine) mems roomy scope whole start now _ g (combines, current digits) (combining true (left_if more others)) (rest_is (left_if more others) e) (ran (shapes f.0)) u
          (combine_went mems roomy counters body combine combines (current digits) now.left (store_of now) f.0 t.left (store_of t) f.1 c u.left (store_of u) r) (let st = narrow mems roomy scope counters body now t f.2 in stands_on st (stands_kept st.sees k))

-- the beginning of each loop
pub loop_begins : {B : Type 0} (step : List ℕ → Step B) (mems : List PlainMem) (roomy : List ℕ) (scope : Scope) (start begun : State) (first : List Digit) → All IsStart first → (m : Bool) → m ≡ have_words first → Stands mems roomy scope start begun
    → LoopGo step (in_order step (tuples (map values first)) begun.left (store_of begun)) mems roomy scope start begun (left_if m first)
loop_begins step mems roomy scope start begun first h m e st =
    subst (LoopGo step (in_order step (tuples (map values first)) begun.left (store_of begun)) mems roomy scope start begun) (sym (left_at_start first h m e)) (loop_start step mems roomy scope (tuples (map values first)) start begun st)

pub combine_begins : {B : Type 0} (step : Bool × List ℕ → Step B) (mems : List PlainMem) (roomy : List ℕ) (scope : Scope) (start begun : State) (first : List Digit) → All IsStart first → (m : Bool) → m ≡ have_words first → (combines : Bool) → Stands mems roomy scope start begun
    → LoopGo step (in_order step (combining combines (tuples (map values first))) begun.left (store_of begun)) mems roomy scope start begun (combining combines (left_if m first))
combine_begins step mems roomy scope start begun first h m e combines st =
    subst (LoopGo step (in_order step (combining combines (tuples (map values first))) begun.left (store_of begun)) mems roomy scope start begun) (ap (combining combines) (sym (left_at_start first h m e))) (loop_start step mems roomy scope (combining combines (tuples (map values first))) start begun st)

-- a turn of an FSM
module _ (mems : List PlainMem) (state last : ℕ) (body : PlainStmts) (next : PlainExpr) (s : State) (from : ℕ) (can : CanTurn mems state last body next s from) where
  pub turn_named : (u : State) → Keeps s u → state < length u.values.items
  turn_named u k = subst (λ n. state < n) (sym (ap length k.values)) (can.numbered.vals state (contained_first state (vals_declared body ++ last ∷ [])))

  module _ (u v : State) (k : Keeps s u) (values : v.values.items ≡ set u.values.items state from) (counts : v.counts.items ≡ u.counts.items) (memories : v.memories.items ≡ u.memories.items) (left : v.left ≡ u.left) where
    pub turn_values : length v.values.items ≡ length s.values.items
    turn_values = ap length values ∙ length-set u.values.items state from ∙ ap length k.values

    pub turn_sees : Sees mems can.setting.roomy (with_val can.setting.scope state can.ty) v
    turn_sees = sees_named {mems = mems} {roomy = can.setting.roomy} {scope = can.setting.scope} {s = u} {t = v} can.setting.program state can.ty from (sees_later can.setting.sees k) can.state_fresh (turn_named u k) can.is_word values counts memories

    pub turn_stands : Stands mems can.setting.roomy (with_val can.setting.scope state can.ty) s v
    turn_stands = let l = k.left in record { sees = turn_sees; values = turn_values; counts = ap length (counts ∙ k.counts); left = omega arith }

    abbrev pub turn_body : CanRunAll mems body v
    turn_body = record {
      setting = record { program = can.setting.program; same = can.setting.same; scope = with_val can.setting.scope state can.ty; roomy = can.setting.roomy; sees = turn_sees };
      typed = can.typed;
      numbered = numbered_later turn_values (ap length (counts ∙ k.counts))
          (numbered_some (λ m h. h) (λ n h. contained_later state n (vals_declared body ++ last ∷ []) (Contains-append_left (vals_declared body) (last ∷ []) n h)) (λ c h. h) can.numbered);
      told = can.told;
    }

    module _ (w : State) (f : Finished mems can.setting.roomy (after_all (with_val can.setting.scope state can.ty) body) v (run_all mems can.setting.roomy body v.left (store_of v)) (Ok tt) w) where
      pub turn_outer : Stands mems can.setting.roomy can.setting.scope s w
      turn_outer = stands_within (within_on can.setting.scope (with_val can.setting.scope state can.ty) _ (within_val can.setting.scope state can.ty) (within_after_all body (with_val can.setting.scope state can.ty))) (stands_on turn_stands f.2)

      abbrev pub turn_name : CanName mems w last from next
      turn_name = record {
        setting = record { program = can.setting.program; same = can.setting.same; scope = can.setting.scope; roomy = can.setting.roomy; sees = turn_outer.sees };
        ty = can.ty;
        is_word = can.is_word;
        fresh = can.last_fresh;
        inside = subst (λ n. last < n) (sym turn_outer.values) (can.numbered.vals last (contained_later state last _ (Contains-append_right (vals_declared body) (last ∷ []) last (contained_first last []))));
        typed = can.next_typed.0;
      }
