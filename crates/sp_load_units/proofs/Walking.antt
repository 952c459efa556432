-- A walk over a part, with what is left of it.
use Rattle.std.proofs.Common.{◌≡◌, ℕ, suc, ◌+◌, ◌≤◌, ◌^◌, List, [], ◌∷◌, ◌++◌, length, All, None, append_assoc, sym, ap, subst, ◌∙◌, arith}
use Rattle.std.proofs.lemmas.List.{append-nil, length-append}
use Rattle.sp_netlist.specs.Draft.{Draft}
use Rattle.sp_core.specs.declared.node.Stage.{Stage}
use Rattle.sp_core.specs.Numbering.{node_count, node_count_in, number_count, number_count_in}
use Rattle.sp_core.specs.Plain.{plain_node, plain_stage_list}
use Rattle.sp_core.specs.PlainCore.{PlainNode, PlainStages, PlainCore}
use Rattle.sp_tree_handed.specs.declared.transfers.CoreTransfer.{CoreTransfer}
use Rattle.sp_tree_handed.specs.Transfers.{transfers_in, transfers_in_stages}
use Rattle.sp_load_units.specs.declared.walk.Walk.{Walk}
use Rattle.sp_load_units.specs.Units.{IsTransferOf}
use Rattle.sp_load_units.specs.Walks.{CanGo, Adds, Walked}
use Rattle.sp_load_units.proofs.Joining.{all_front, all_back, adds_none, adds_join, goes_on}

-- the walk is inside of a node: it has added the units of the first transfers of it, and these are left, with so many nodes and numbers
pub record Left (core : PlainCore) (node : PlainNode) (old : Draft) (before : Walk) (new : Draft) (after : Walk) (rest : List CoreTransfer) (nodes numbers : ℕ) : Type 0 where
  pub transfers : List CoreTransfer
  pub adds : Adds core old before new after transfers
  pub left : transfers_in node (length before.ends.items) before.number ≡ transfers ++ rest
  pub nodes_left : length after.ends.items + nodes ≡ length before.ends.items + node_count node
  pub numbers_left : after.number + numbers ≡ before.number + number_count node

-- stages are left
abbrev pub StagesLeft : PlainCore → PlainNode → (old : Draft) → (before : Walk) → (new : Draft) → (after : Walk) → PlainStages → Type 0
StagesLeft core node old before new after stages =
    Left core node old before new after (transfers_in_stages stages (length after.ends.items) after.number) (node_count_in stages) (number_count_in stages)

-- a part may be entered
pub record CanEnter (core : PlainCore) (d : Draft) (walk : Walk) (node : PlainNode) : Type 0 where
  pub go : CanGo core d walk
  pub transfers : All (IsTransferOf core) (transfers_in node (length walk.ends.items) walk.number)
  pub nodes : length walk.ends.items + node_count node ≤ 2 ^ 30
  pub numbers : walk.number + number_count node ≤ 2 ^ 30

module _ (core : PlainCore) (node : PlainNode) (old : Draft) (before : Walk) where
  -- the node itself is behind the walk, and so many numbers of it
  pub begun : (after : Walk) (own : ℕ) (rest : (k n : ℕ) → List CoreTransfer) (nodes numbers : ℕ) → after.units.items ≡ before.units.items → after.ends.items ≡ before.ends.items ++ None ∷ [] → after.number ≡ before.number + own
      → transfers_in node (length before.ends.items) before.number ≡ rest (suc (length before.ends.items)) (before.number + own) → node_count node ≡ suc nodes → number_count node ≡ own + numbers
      → Left core node old before old after (rest (length after.ends.items) after.number) nodes numbers
  begun after own rest nodes numbers same more moved transfers count size =
      let long : length after.ends.items ≡ suc (length before.ends.items) = (let l = ap (λ es. length es) more ∙ length-append before.ends.items (None ∷ []) in omega (arith, l)) in
      record {
        transfers = [];
        adds = adds_none core old before after (None ∷ []) same more;
        left = transfers ∙ ap (λ k. rest k (before.number + own)) (sym long) ∙ ap (rest (length after.ends.items)) (sym moved);
        nodes_left = omega (arith, long, count);
        numbers_left = omega (arith, moved, size);
      }

  -- nothing is left
  pub ended : (new : Draft) (after : Walk) → Left core node old before new after [] 0 0 → Walked core node old before new after
  ended new after h = record {
    adds = subst (Adds core old before new after) (sym (h.left ∙ append-nil h.transfers)) h.adds;
    nodes = (let e = h.nodes_left in omega (arith, e));
    numbers = (let e = h.numbers_left in omega (arith, e));
  }

  -- a part is behind it
  pub passed : (part : PlainNode) (mid new : Draft) (now after : Walk) (rest : List CoreTransfer) (nodes numbers : ℕ)
      → Left core node old before mid now (transfers_in part (length now.ends.items) now.number ++ rest) (node_count part + nodes) (number_count part + numbers) → Walked core part mid now new after → Left core node old before new after rest nodes numbers
  passed part mid new now after rest nodes numbers h w = record {
    transfers = h.transfers ++ transfers_in part (length now.ends.items) now.number;
    adds = adds_join core old mid new before now after h.transfers (transfers_in part (length now.ends.items) now.number) h.adds w.adds;
    left = h.left ∙ sym (append_assoc h.transfers (transfers_in part (length now.ends.items) now.number) rest);
    nodes_left = (let e = h.nodes_left in let f = w.nodes in omega (arith, e, f));
    numbers_left = (let e = h.numbers_left in let f = w.numbers in omega (arith, e, f));
  }

  -- numbers of operations are
  pub skipped : (new : Draft) (now after : Walk) (rest : List CoreTransfer) (nodes own numbers : ℕ) → after.units.items ≡ now.units.items → after.ends.items ≡ now.ends.items → after.number ≡ now.number + own
      → Left core node old before new now rest nodes (own + numbers) → Left core node old before new after rest nodes numbers
  skipped new now after rest nodes own numbers same ends moved h = record {
    transfers = h.transfers ++ [];
    adds = adds_join core old new new before now after h.transfers [] h.adds (adds_none core new now after [] same (ends ∙ sym (append-nil now.ends.items)));
    left = h.left ∙ ap (λ ls. ls ++ rest) (sym (append-nil h.transfers));
    nodes_left = (let e = h.nodes_left in let l = ap (λ es. length es) ends in omega (arith, e, l));
    numbers_left = (let e = h.numbers_left in omega (arith, e, moved));
  }

  -- the part that comes next may be entered, where the node may
  pub enter : (part : PlainNode) (mid : Draft) (now : Walk) (rest : List CoreTransfer) (nodes numbers : ℕ) → CanEnter core old before node
      → Left core node old before mid now (transfers_in part (length now.ends.items) now.number ++ rest) (node_count part + nodes) (number_count part + numbers) → CanEnter core mid now part
  enter part mid now rest nodes numbers can h =
      let own = transfers_in part (length now.ends.items) now.number in
      record {
        go = goes_on core old mid before now h.transfers can.go h.adds;
        transfers = all_front (IsTransferOf core) own rest (all_back (IsTransferOf core) h.transfers (own ++ rest) (subst (All (IsTransferOf core)) h.left can.transfers));
        nodes = (let e = h.nodes_left in let l = can.nodes in omega (arith, e, l));
        numbers = (let e = h.numbers_left in let l = can.numbers in omega (arith, e, l));
      }

  -- the next stage
  abbrev next_left : (mid : Draft) (now : Walk) (part : PlainNode) (rest : PlainStages) → Type 0
  next_left mid now part rest =
      Left core node old before mid now (transfers_in part (length now.ends.items) now.number ++ transfers_in_stages rest (length now.ends.items + node_count part) (now.number + number_count part)) (node_count part + node_count_in rest) (number_count part + number_count_in rest)

  first_left : (mid : Draft) (now : Walk) (stage : Stage) (stages rest : List Stage) → stages ≡ stage ∷ rest → StagesLeft core node old before mid now (plain_stage_list stages) → next_left mid now (plain_node stage.node) (plain_stage_list rest)
  first_left mid now stage stages rest cut h = subst (λ ss. StagesLeft core node old before mid now (plain_stage_list ss)) cut h

  pub stage_enters : (mid : Draft) (now : Walk) (stage : Stage) (stages rest : List Stage) → stages ≡ stage ∷ rest → CanEnter core old before node → StagesLeft core node old before mid now (plain_stage_list stages) → CanEnter core mid now (plain_node stage.node)
  stage_enters mid now stage stages rest cut can h = enter (plain_node stage.node) mid now _ _ _ can (first_left mid now stage stages rest cut h)

  pub stage_passed : (mid new : Draft) (now after : Walk) (stage : Stage) (stages rest : List Stage) → stages ≡ stage ∷ rest → StagesLeft core node old before mid now (plain_stage_list stages) → Walked core (plain_node stage.node) mid now new after
      → StagesLeft core node old before new after (plain_stage_list rest)
  stage_passed mid new now after stage stages rest cut h w =
      let part = plain_node stage.node in
      let all = passed part mid new now after _ _ _ (first_left mid now stage stages rest cut h) w in
      subst (λ ls. Left core node old before new after ls (node_count_in (plain_stage_list rest)) (number_count_in (plain_stage_list rest)))
      (ap (λ k. transfers_in_stages (plain_stage_list rest) k (now.number + number_count part)) (sym w.nodes) ∙ ap (transfers_in_stages (plain_stage_list rest) (length after.ends.items)) (sym w.numbers)) all

  pub stages_ended : (new : Draft) (after : Walk) (stages : List Stage) → stages ≡ [] → StagesLeft core node old before new after (plain_stage_list stages) → Walked core node old before new after
  stages_ended new after stages none h = ended new after (subst (λ ss. StagesLeft core node old before new after (plain_stage_list ss)) none h)
