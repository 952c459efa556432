-- How a walk begins and ends at each kind of node.
use Rattle.std.proofs.Common.{◌≡◌, ℕ, suc, ◌+◌, List, [], ◌∷◌, ◌++◌, length, None, Result, Ok, Err, OnOk, sym, ap, ap₂, ◌∙◌, arith}
use Rattle.std.proofs.lemmas.List.{append-nil}
use Rattle.sp_words.specs.declared.kind.Style.{Style}
use Rattle.sp_netlist.specs.Draft.{Draft}
use Rattle.sp_core.specs.declared.node.Stage.{Stage}
use Rattle.sp_core.specs.Numbering.{node_count, number_count, counters_size}
use Rattle.sp_core.specs.Plain.{plain_stage_list}
use Rattle.sp_core.specs.PlainCore.{PlainOp, PlainCounter, PlainNode, outer, fsm, branch, PlainCore}
use Rattle.sp_tree_handed.specs.Transfers.{transfers_in, transfers_in_stages}
use Rattle.sp_load_units.specs.declared.walk.Walk.{Walk}
use Rattle.sp_load_units.specs.Walks.{Walked}
use Rattle.sp_load_units.proofs.Walking.{Left, StagesLeft, begun, ended, passed, skipped}

pub on_ok : {T E A B : Type 0} (r : Result T E) → (A → B) → OnOk r A → OnOk r B
on_ok (Ok v) f h = f h
on_ok (Err e) f h = h

pub on_ok_three : {T E A B C D : Type 0} (r : Result T E) → (A → B → C → D) → OnOk r A → OnOk r B → OnOk r C → OnOk r D
on_ok_three (Ok v) f a b c = f a b c
on_ok_three (Err e) f a b c = a

module _ (core : PlainCore) (node : PlainNode) (old : Draft) (before after : Walk) (own : ℕ) (same : after.units.items ≡ before.units.items) (more : after.ends.items ≡ before.ends.items ++ None ∷ []) (moved : after.number ≡ before.number + own) where
  -- a node that has no transfers
  pub passes : transfers_in node (length before.ends.items) before.number ≡ [] → node_count node ≡ 1 → own ≡ number_count node → Walked core node old before old after
  passes none one all = ended core node old before old after (begun core node old before after own (λ k n. []) 0 0 same more moved none one (omega (arith, all)))

  -- a loop, of which its stages are left
  pub loop_begins : (counters : List PlainCounter) (style : Style) (owned : List ℕ) (stages items : List Stage) → node ≡ outer counters style owned (plain_stage_list stages) → items ≡ stages → own ≡ counters_size counters → StagesLeft core node old before old after (plain_stage_list items)
  loop_begins counters style owned stages items is same_stages size =
      let e : node ≡ outer counters style owned (plain_stage_list items) = is ∙ ap (λ ss. outer counters style owned (plain_stage_list ss)) (sym same_stages) in
      let count = ap node_count e in
      let numbers = ap number_count e in
      begun core node old before after own (transfers_in_stages (plain_stage_list items)) _ _ same more moved
      (ap (λ v. transfers_in v (length before.ends.items) before.number) e ∙ ap (λ x. transfers_in_stages (plain_stage_list items) (suc (length before.ends.items)) (before.number + x)) (sym size)) (omega (arith, count)) (omega (arith, numbers, size))

  -- an FSM, of which its body is left, and the operations of its next state
  abbrev pub MachineLeft : (body : PlainNode) (next : List PlainOp) → Type 0
  MachineLeft body next = Left core node old before old after (transfers_in body (length after.ends.items) after.number ++ []) (node_count body + 0) (number_count body + (length next + 0))

  pub machine_begins : (start : List PlainOp) (state : ℕ) (test : List PlainOp) (body own_body : PlainNode) (next : List PlainOp) → node ≡ fsm start state test body next → own_body ≡ body → own ≡ length start + length test → MachineLeft own_body next
  machine_begins start state test body own_body next is is_body size =
      let e : node ≡ fsm start state test own_body next = is ∙ ap (λ v. fsm start state test v next) (sym is_body) in
      let count = ap node_count e in
      let numbers = ap number_count e in
      begun core node old before after own (λ k n. transfers_in own_body k n ++ []) _ _ same more moved
      (ap (λ v. transfers_in v (length before.ends.items) before.number) e ∙ ap (λ x. transfers_in own_body (suc (length before.ends.items)) (before.number + x)) (sym size) ∙ sym (append-nil (transfers_in own_body (suc (length before.ends.items)) (before.number + own)))) (omega (arith, count)) (omega (arith, numbers, size))

  -- a branch, of which both parts are left
  abbrev pub ForkLeft : (first second : PlainNode) → Type 0
  ForkLeft first second =
      Left core node old before old after (transfers_in first (length after.ends.items) after.number ++ transfers_in second (length after.ends.items + node_count first) (after.number + number_count first)) (node_count first + node_count second) (number_count first + number_count second)

  pub fork_begins : (test : List PlainOp) (first second own_first own_second : PlainNode) → node ≡ branch test first second → own_first ≡ first → own_second ≡ second → own ≡ length test → ForkLeft own_first own_second
  fork_begins test first second own_first own_second is is_first is_second size =
      let e : node ≡ branch test own_first own_second = is ∙ ap₂ (λ v w. branch test v w) (sym is_first) (sym is_second) in
      let count = ap node_count e in
      let numbers = ap number_count e in
      let k = length before.ends.items in
      let n = before.number in
      let sum : n + (length test + number_count own_first) ≡ n + own + number_count own_first = omega (arith, size) in
      begun core node old before after own (λ k n. transfers_in own_first k n ++ transfers_in own_second (k + node_count own_first) (n + number_count own_first)) _ _ same more moved
      (ap (λ v. transfers_in v k n) e
      ∙ ap (λ x. transfers_in own_first (suc k) (n + x) ++ transfers_in own_second (suc k + node_count own_first) (n + (length test + number_count own_first))) (sym size)
      ∙ ap (λ x. transfers_in own_first (suc k) (n + own) ++ transfers_in own_second (suc k + node_count own_first) x) sum)
      (omega (arith, count)) (omega (arith, numbers, size))

module _ (core : PlainCore) (node : PlainNode) (old : Draft) (before : Walk) (mid : Draft) (now : Walk) where
  -- behind the body of an FSM
  pub machine_ends : (body : PlainNode) (next : List PlainOp) (own : ℕ) (new : Draft) (later after : Walk) → own ≡ length next → after.units.items ≡ later.units.items → after.ends.items ≡ later.ends.items → after.number ≡ later.number + own
      → Left core node old before mid now (transfers_in body (length now.ends.items) now.number ++ []) (node_count body + 0) (number_count body + (length next + 0)) → Walked core body mid now new later → Walked core node old before new after
  machine_ends body next own new later after size same ends moved h w =
      ended core node old before new after (skipped core node old before new later after [] 0 (length next) 0 same ends (omega (arith, size, moved)) (passed core node old before body mid new now later [] 0 (length next + 0) h w))

  -- behind the first part of a branch
  abbrev pub OtherLeft : (second : PlainNode) → (new : Draft) → (later : Walk) → Type 0
  OtherLeft second new later = Left core node old before new later (transfers_in second (length later.ends.items) later.number ++ []) (node_count second + 0) (number_count second + 0)

  pub fork_goes : (first second : PlainNode) (new : Draft) (later : Walk)
      → Left core node old before mid now (transfers_in first (length now.ends.items) now.number ++ transfers_in second (length now.ends.items + node_count first) (now.number + number_count first)) (node_count first + node_count second) (number_count first + number_count second)
      → Walked core first mid now new later → OtherLeft second new later
  fork_goes first second new later h w =
      let all = passed core node old before first mid new now later _ _ _ h w in
      record {
        transfers = all.transfers;
        adds = all.adds;
        left = all.left ∙ ap (λ ls. all.transfers ++ ls)
            (ap (λ k. transfers_in second k (now.number + number_count first)) (sym w.nodes) ∙ ap (transfers_in second (length later.ends.items)) (sym w.numbers) ∙ sym (append-nil (transfers_in second (length later.ends.items) later.number)));
        nodes_left = (let e = all.nodes_left in omega (arith, e));
        numbers_left = (let e = all.numbers_left in omega (arith, e));
      }
