-- The lists of operations that are handed on of a node stand in the draft.
use Rattle.std.proofs.Common.{◌≡◌, ℕ, ◌+◌, List, [], ◌∷◌, ◌++◌, length, sym, subst, arith, Option}
use Rattle.std.proofs.Math.Nat.{add_assoc}
use Rattle.sp_netlist.specs.Draft.{Draft}
use Rattle.sp_gates.specs.Grows.{Grows}
use Rattle.sp_gates.proofs.Growing.{Grows-join, Grows-same}
use Rattle.sp_core.specs.Numbering.{counters_size, number_count}
use Rattle.sp_core.specs.PlainCore.{PlainOp, PlainCounter, PlainSpan, single, range, PlainNode, PlainStages, branch, fsm, inner, PlainCore}
use Rattle.sp_op_nets.specs.declared.acted.ActedList.{ActedList}
use Rattle.sp_bound_nets.specs.Bounds.{bound_lists}
use Rattle.sp_bound_nets.specs.Spans.{span_lists}
use Rattle.sp_bound_nets.specs.Direct.{AreActedLists, IsActedList}
use Rattle.sp_list_circuits.specs.Timed.{IsIssuedList}
use Rattle.sp_inner_circuits.specs.Inner.{IsInnerActed}
use Rattle.sp_tree_handed.specs.Lists.{numbered, standing, bounds_in, spans_in, lists_in, lists_in_stages}
use Rattle.sp_tree_handed.specs.Standing.{IsListStanding, AreListsStanding}
use Rattle.sp_tree_handed.proofs.Joining.{list_later, lists_later, lists_join}
use Rattle.sp_tree_nets.specs.Loops.{lists_of_loop}

-- a list that is issued is answered after its latencies, one that is always on at once
pub issued_stands : (d : Draft) (core : PlainCore) (n : ℕ) (ops : List PlainOp) (a : ActedList) → IsIssuedList d core n ops a → IsListStanding d core (numbered n ops) a
issued_stands d core n ops a h = record { draft = d; grows = Grows-same d; first = h.acts.first; ops_of = h.ops_of; answers = h.answers; after = h.after; issue = h.issue; acts = h.acts.acts }

acted_stands : (d : Draft) (core : PlainCore) (n : ℕ) (ops : List PlainOp) (a : ActedList) → IsActedList d n ops a → IsListStanding d core (standing n ops) a
acted_stands d core n ops a h = record { draft = d; grows = Grows-same d; first = h.acts.acted.first; ops_of = h.ops_of; answers = h.answers; after = h.at_once; issue = h.acts.issue; acts = h.acts.acted.acts }

pub bounds_stand : (d : Draft) (core : PlainCore) (counters : List PlainCounter) (n : ℕ) (acted : List ActedList) → AreActedLists d n (bound_lists counters) acted → AreListsStanding d core (bounds_in counters n) acted
bounds_stand d core [] n [] h = tt
bounds_stand d core [] n (a ∷ acted) h = absurd h
bounds_stand d core (c ∷ counters) n (a ∷ b ∷ acted) h =
    let rest = subst (λ m. AreActedLists d m (bound_lists counters) acted) (add_assoc n (length c.from) (length c.until)) h.1.1 in
    (acted_stands d core n c.from a h.0, (acted_stands d core (n + length c.from) c.until b h.1.0, bounds_stand d core counters (n + (length c.from + length c.until)) acted rest))
bounds_stand d core (c ∷ counters) n (a ∷ []) h = absurd h.1
bounds_stand d core (c ∷ counters) n [] h = absurd h

pub spans_stand : (d : Draft) (core : PlainCore) (spans : List PlainSpan) (n : ℕ) (acted : List ActedList) → AreActedLists d n (span_lists spans) acted → AreListsStanding d core (spans_in spans n) acted
spans_stand d core [] n [] h = tt
spans_stand d core [] n (a ∷ acted) h = absurd h
spans_stand d core (single ops ∷ spans) n (a ∷ acted) h = (acted_stands d core n ops a h.0, spans_stand d core spans (n + length ops) acted h.1)
spans_stand d core (single ops ∷ spans) n [] h = absurd h
spans_stand d core (range xs ys ∷ spans) n (a ∷ b ∷ acted) h =
    let rest = subst (λ m. AreActedLists d m (span_lists spans) acted) (add_assoc n (length xs) (length ys)) h.1.1 in
    (acted_stands d core n xs a h.0, (acted_stands d core (n + length xs) ys b h.1.0, spans_stand d core spans (n + (length xs + length ys)) acted rest))
spans_stand d core (range xs ys ∷ spans) n (a ∷ []) h = absurd h.1
spans_stand d core (range xs ys ∷ spans) n [] h = absurd h

-- an inner body's
pub inner_lists : (d : Draft) (core : PlainCore) (counters : List PlainCounter) (owned : List ℕ) (ops : List PlainOp) (comb : Option ℕ) (n : ℕ) (acted : List ActedList) → IsInnerActed d core n counters ops acted
    → AreListsStanding d core (lists_in (inner counters owned ops comb) n) acted
inner_lists d core counters owned ops comb n acted h =
    subst (AreListsStanding d core (bounds_in counters n ++ numbered (n + counters_size counters) ops ∷ [])) (sym h.are)
    (lists_join d core (bounds_in counters n) (numbered (n + counters_size counters) ops ∷ []) h.bounds (h.own ∷ []) (bounds_stand d core counters n h.bounds h.of_bounds) (issued_stands d core (n + counters_size counters) ops h.own h.of_own, tt))

-- a branch's, by the parts of a node as its function takes them
module _ (core : PlainCore) (node : PlainNode) (ops : List PlainOp) (first second : PlainNode) (n len numbers : ℕ) (is : node ≡ branch ops first second) (len_is : len ≡ length ops) (numbers_is : numbers ≡ number_count first) where
  pub branch_lists_stand : (b c d e : Draft) (taken : List PlainOp) (list : ActedList) (xs ys acted : List ActedList) (x y : PlainNode) → taken ≡ ops → x ≡ first → y ≡ second → acted ≡ list ∷ (xs ++ ys) → Grows b c → Grows c d → Grows d e
      → IsListStanding b core (numbered n taken) list → AreListsStanding c core (lists_in x (n + len)) xs → AreListsStanding d core (lists_in y (n + len + numbers)) ys → AreListsStanding e core (lists_in node n) acted
  branch_lists_stand b c d e taken list xs ys acted x y taken_is x_is y_is acted_is h i j test left right =
      let own = subst (λ v. IsListStanding b core (numbered n v) list) taken_is test in
      let one = subst (λ l. AreListsStanding c core (lists_in first (n + l)) xs) len_is (subst (λ v. AreListsStanding c core (lists_in v (n + len)) xs) x_is left) in
      let sums : (n + len) + numbers ≡ n + (length ops + number_count first) = omega (arith, len_is, numbers_is) in
      let other = subst (λ l. AreListsStanding d core (lists_in second l) ys) sums (subst (λ v. AreListsStanding d core (lists_in v (n + len + numbers)) ys) y_is right) in
      subst (λ v. AreListsStanding e core (lists_in v n) acted) (sym is)
      (subst (AreListsStanding e core (lists_in (branch ops first second) n)) (sym acted_is) (
        list_later b e core (numbered n ops) list (Grows-join b c e h (Grows-join c d e i j)) own,
        lists_join e core (lists_in first (n + length ops)) (lists_in second (n + (length ops + number_count first))) xs ys (lists_later c e core (lists_in first (n + length ops)) xs (Grows-join c d e i j) one)
            (lists_later d e core (lists_in second (n + (length ops + number_count first))) ys j other),
      ))

-- an FSM's
module _ (core : PlainCore) (node : PlainNode) (start : List PlainOp) (state : ℕ) (test : List PlainOp) (body : PlainNode) (next : List PlainOp) (n : ℕ) (is : node ≡ fsm start state test body next) (len more numbers : ℕ) (len_is : len ≡ length start)
    (more_is : more ≡ length test) (numbers_is : numbers ≡ number_count body) where
  pub machine_lists_stand : (b c d e : Draft) (x y : ActedList) (xs : List ActedList) (z : ActedList) (acted : List ActedList) (start' test' next' : List PlainOp) (body' : PlainNode) (count : ℕ) → start' ≡ start → test' ≡ test → next' ≡ next → body' ≡ body
      → count ≡ length start → acted ≡ x ∷ y ∷ (xs ++ z ∷ []) → Grows b c → Grows c d → Grows d e → IsListStanding b core (numbered n start') x → IsListStanding b core (numbered (n + count) test') y
      → AreListsStanding c core (lists_in body' (n + (len + more))) xs → IsListStanding d core (numbered (n + (len + more) + numbers) next') z → AreListsStanding e core (lists_in node n) acted
  machine_lists_stand b c d e x y xs z acted start' test' next' body' count start_is test_is next_is body_is count_is acted_is h i j firsts tests work steps =
      let first = subst (λ v. IsListStanding b core (numbered n v) x) start_is firsts in
      let check = subst (λ l. IsListStanding b core (numbered (n + l) test) y) count_is (subst (λ v. IsListStanding b core (numbered (n + count) v) y) test_is tests) in
      let both : n + (len + more) ≡ n + (length start + length test) = omega (arith, len_is, more_is) in
      let all : (n + (len + more)) + numbers ≡ n + (length start + (length test + number_count body)) = omega (arith, len_is, more_is, numbers_is) in
      let inside = subst (λ l. AreListsStanding c core (lists_in body l) xs) both (subst (λ v. AreListsStanding c core (lists_in v (n + (len + more))) xs) body_is work) in
      let last = subst (λ l. IsListStanding d core (numbered l next) z) all (subst (λ v. IsListStanding d core (numbered (n + (len + more) + numbers) v) z) next_is steps) in
      let grown = Grows-join b c e h (Grows-join c d e i j) in
      subst (λ v. AreListsStanding e core (lists_in v n) acted) (sym is)
      (subst (AreListsStanding e core (lists_in (fsm start state test body next) n)) (sym acted_is) (
        list_later b e core (numbered n start) x grown first,
        (
          list_later b e core (numbered (n + length start) test) y grown check,
          lists_join e core (lists_in body (n + (length start + length test))) (numbered (n + (length start + (length test + number_count body))) next ∷ []) xs (z ∷ [])
              (lists_later c e core (lists_in body (n + (length start + length test))) xs (Grows-join c d e i j) inside)
              (list_later d e core (numbered (n + (length start + (length test + number_count body))) next) z j last, tt),
        ),
      ))

-- a loop's
pub loop_lists_stand : (b c e : Draft) (core : PlainCore) (counters : List PlainCounter) (stages : PlainStages) (n : ℕ) (bs xs acted : List ActedList) → acted ≡ bs ++ xs → Grows b e → Grows c e → AreActedLists b n (bound_lists counters) bs
    → AreListsStanding c core (lists_in_stages stages (n + counters_size counters)) xs → AreListsStanding e core (lists_of_loop counters stages n) acted
loop_lists_stand b c e core counters stages n bs xs acted acted_is g h bounds inside =
    subst (AreListsStanding e core (lists_of_loop counters stages n)) (sym acted_is)
    (lists_join e core (bounds_in counters n) (lists_in_stages stages (n + counters_size counters)) bs xs (lists_later b e core (bounds_in counters n) bs g (bounds_stand b core counters n bs bounds))
    (lists_later c e core (lists_in_stages stages (n + counters_size counters)) xs h inside))
