-- The stages of a loop so far.
use Rattle.std.proofs.Common.{◌≡◌, ℕ, ◌+◌, ◌<◌, List, [], ◌∷◌, ◌++◌, length, drop, get_or, append_assoc, sym, ◌∙◌, ap, subst, Option}
use Rattle.std.proofs.lemmas.List.{drop_more}
use Rattle.sp_netlist.specs.Draft.{Draft}
use Rattle.sp_core.specs.declared.node.Stage.{Stage}
use Rattle.sp_core.specs.Numbering.{node_count, number_count}
use Rattle.sp_core.specs.Plain.{plain_node, plain_stage_list}
use Rattle.sp_core.specs.PlainCore.{PlainCounter, PlainCore}
use Rattle.sp_plan.specs.PlainPlan.{PlainPlan}
use Rattle.sp_op_nets.specs.declared.acted.ActedList.{ActedList}
use Rattle.sp_op_nets.specs.declared.table.AroundNets.{AroundNets}
use Rattle.sp_loop_nets.specs.declared.opening.OpenLoop.{OpenLoop}
use Rattle.sp_stage_members.specs.declared.part.StagePart.{StagePart}
use Rattle.sp_tree_handed.specs.declared.moves.TreeMove.{TreeMove}
use Rattle.sp_tree_handed.specs.declared.owners.Keeping.{Keeping}
use Rattle.sp_tree_handed.specs.declared.owners.LoopTurns.{LoopTurns}
use Rattle.sp_tree_nets.specs.Stages.{CanEmitStages, LoopStands, AreStages, IsStage}
use Rattle.sp_tree_nets.proofs.Lanes.{both_stages}
use Rattle.sp_tree_nets.proofs.Opened.{loop_later, other_stages}

-- whatever comes of the stages that are left, it is of all of them behind those before
abbrev pub StagesSoFar : (old cur : Draft) → PlainCore → PlainPlan → List AroundNets → List (Option ℕ) → OpenLoop → List PlainCounter → List Stage → List ℕ → (k n i at second next : ℕ) → List StagePart → List ActedList → List LoopTurns → List Keeping → List TreeMove → Type 0
StagesSoFar old cur core plan table ends begun counters stages slots k n i at second next parts acted turns kept moves =
    CanEmitStages cur core plan table ends counters (plain_stage_list (drop i stages)) second next × LoopStands cur begun counters × (at ≡ i)
    × ((new : Draft) (ps : List StagePart) (ls : List ActedList) (rs : List LoopTurns) (ks : List Keeping) (ms : List TreeMove) → AreStages cur new core plan table ends begun counters (plain_stage_list (drop i stages)) (drop i slots) second next ps ls rs ks ms
    → AreStages old new core plan table ends begun counters (plain_stage_list stages) slots k n (parts ++ ps) (acted ++ ls) (turns ++ rs) (kept ++ ks) (moves ++ ms))

module _ (old cur mid : Draft) (core : PlainCore) (plan : PlainPlan) (table : List AroundNets) (ends : List (Option ℕ)) (begun : OpenLoop) (counters : List PlainCounter) (stages : List Stage) (slots : List ℕ) (k n i at second next c1 c2 : ℕ) (item : Stage) (parts parts' : List StagePart)
    (acted acted' : List ActedList) (turns turns' : List LoopTurns) (kept kept' : List Keeping) (moves moves' : List TreeMove) (part : StagePart) (xs : List ActedList) (us : List LoopTurns) (vs : List Keeping) (ws : List TreeMove)
    (inv : StagesSoFar old cur core plan table ends begun counters stages slots k n i at second next parts acted turns kept moves) (cut : drop i stages ≡ item ∷ drop (i + 1) stages) where
  pub item_can : CanEmitStages cur core plan table ends counters (plain_stage_list (item ∷ drop (i + 1) stages)) second next
  item_can = subst (λ l. CanEmitStages cur core plan table ends counters (plain_stage_list l) second next) cut inv.0

  module _ (low : i < length slots) (one : c1 ≡ node_count (plain_node item.node)) (two : c2 ≡ number_count (plain_node item.node))
      (is : IsStage cur mid core plan table ends begun counters item.first item.last (plain_node item.node) (get_or slots at 0) second next part xs us vs ws) (parts_are : parts' ≡ parts ++ part ∷ []) (acted_are : acted' ≡ acted ++ xs)
      (turns_are : turns' ≡ turns ++ us) (kept_are : kept' ≡ kept ++ vs) (moves_are : moves' ≡ moves ++ ws) where
    pub stages_step : StagesSoFar old mid core plan table ends begun counters stages slots k n (i + 1) (at + 1) (second + c1) (next + c2) parts' acted' turns' kept' moves'
    stages_step = (
      subst (λ x. CanEmitStages mid core plan table ends counters (plain_stage_list (drop (i + 1) stages)) (second + x) (next + c2)) (sym one)
          (subst (λ y. CanEmitStages mid core plan table ends counters (plain_stage_list (drop (i + 1) stages)) (second + node_count (plain_node item.node)) (next + y)) (sym two)
          (other_stages core plan table ends counters item.first item.last item.comb (plain_node item.node) (plain_stage_list (drop (i + 1) stages)) second next cur mid is.reserves.grows item_can)),
      loop_later cur mid begun counters _ is.reserves inv.1,
      ap (λ x. x + 1) inv.2,
      λ new ps ls rs ks ms more.
          let next_more = subst (λ y. AreStages mid new core plan table ends begun counters (plain_stage_list (drop (i + 1) stages)) (drop (i + 1) slots) (second + node_count (plain_node item.node)) (next + y) ps ls rs ks ms) two
          (subst (λ x. AreStages mid new core plan table ends begun counters (plain_stage_list (drop (i + 1) stages)) (drop (i + 1) slots) (second + x) (next + c2) ps ls rs ks ms) one more) in
          let here = subst (λ a. IsStage cur mid core plan table ends begun counters item.first item.last (plain_node item.node) (get_or slots a 0) second next part xs us vs ws) inv.2 is in
          let both = both_stages cur mid new core plan table ends begun counters item.first item.last item.comb (plain_node item.node) (plain_stage_list (drop (i + 1) stages)) (get_or slots i 0) (drop (i + 1) slots) second next part ps xs ls us rs vs ks ws ms here next_more in
          let there = inv.3 new (part ∷ ps) (xs ++ ls) (us ++ rs) (vs ++ ks) (ws ++ ms)
          (subst (λ l. AreStages cur new core plan table ends begun counters (plain_stage_list l) (drop i slots) second next (part ∷ ps) (xs ++ ls) (us ++ rs) (vs ++ ks) (ws ++ ms)) (sym cut)
          (subst (λ l. AreStages cur new core plan table ends begun counters (plain_stage_list (item ∷ drop (i + 1) stages)) l second next (part ∷ ps) (xs ++ ls) (us ++ rs) (vs ++ ks) (ws ++ ms)) (sym (drop_more slots i 0 low)) both)) in
          subst (λ l. AreStages old new core plan table ends begun counters (plain_stage_list stages) slots k n l (acted' ++ ls) (turns' ++ rs) (kept' ++ ks) (moves' ++ ms)) (sym (ap (λ l. l ++ ps) parts_are ∙ append_assoc parts (part ∷ []) ps))
          (subst (λ l. AreStages old new core plan table ends begun counters (plain_stage_list stages) slots k n (parts ++ (part ∷ ps)) l (turns' ++ rs) (kept' ++ ks) (moves' ++ ms)) (sym (ap (λ l. l ++ ls) acted_are ∙ append_assoc acted xs ls))
          (subst (λ l. AreStages old new core plan table ends begun counters (plain_stage_list stages) slots k n (parts ++ (part ∷ ps)) (acted ++ (xs ++ ls)) l (kept' ++ ks) (moves' ++ ms)) (sym (ap (λ l. l ++ rs) turns_are ∙ append_assoc turns us rs))
          (subst (λ l. AreStages old new core plan table ends begun counters (plain_stage_list stages) slots k n (parts ++ (part ∷ ps)) (acted ++ (xs ++ ls)) (turns ++ (us ++ rs)) l (moves' ++ ms)) (sym (ap (λ l. l ++ ks) kept_are ∙ append_assoc kept vs ks))
          (subst (λ l. AreStages old new core plan table ends begun counters (plain_stage_list stages) slots k n (parts ++ (part ∷ ps)) (acted ++ (xs ++ ls)) (turns ++ (us ++ rs)) (kept ++ (vs ++ ks)) l) (sym (ap (λ l. l ++ ms) moves_are ∙ append_assoc moves ws ms)) there)))),
    )
