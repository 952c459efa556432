-- A group of iterations of a node is a run of the node without its counters.
use Rattle.std.proofs.Common.{◌≡◌, ℕ, Bool, true, false, List, [], ◌∷◌, Option, refl, sym, ◌∙◌, ap}
use Rattle.std.specs.Prelude.{ℤ}
use Rattle.sp_words.specs.declared.kind.Style.{Style}
use Rattle.sp_core.specs.History.{Entry, History, Runs, inner_ran, outer_ran, masked_run, more_run, groups_of}
use Rattle.sp_core.specs.Operations.{operations}
use Rattle.sp_core.specs.PlainCore.{PlainOp, PlainStages, PlainCore, inner, outer, no_stage, more_stage}
use Rattle.sp_core.specs.Scope.{Loop, Scope, plainly, loops_of, counts_of, group_values, is_live, is_some_live, in_group}
use Rattle.sp_core.specs.Sequential.{renew, renew_in_body, end_of_group, bounds, run, run_stages}
use Rattle.sp_core.specs.Step.{Step, went, pure, ◌>>=◌, ◌>>◌, in_order}
use Rattle.sp_core.specs.Store.{Store}
use Rattle.sp_sugar.proofs.NodeParts.{InLaneZero}
use Rattle.sp_sugar.proofs.StepLemmas.{core_apart, then_on, same_core_answer, same_core_store}
use Rattle.sp_same.proofs.BoundsTaken.{IsLive}
use Rattle.sp_same.proofs.Values.{Fit}

-- one element
single : {A B : Type 0} (g : A → Step B) (x : A) (bs : List B) (t u : Store) → in_order g (x ∷ []) t ≡ went bs u → (b : B) × (g x t ≡ went b u) × (b ∷ [] ≡ bs)
unfolding in_order pure
single g x bs t u e =
    let b = core_apart (g x) (λ first. ◌>>=◌ (in_order g []) (λ others. pure (first ∷ others))) t bs u e in
    let d = core_apart (in_order g []) (λ others. pure (b.answer ∷ others)) b.store bs u b.second in
    let none : [] ≡ d.answer = same_core_answer [] d.answer b.store d.store d.first in
    (b.answer, b.first ∙ ap (went b.answer) (same_core_store [] d.answer b.store d.store d.first ∙ same_core_store (b.answer ∷ d.answer) bs d.store u d.second), ap (λ l. b.answer ∷ l) none ∙ same_core_answer (b.answer ∷ d.answer) bs d.store u d.second)

pub single_goes : {A B : Type 0} (g : A → Step B) (x : A) (b : B) (t u : Store) → g x t ≡ went b u → in_order g (x ∷ []) t ≡ went (b ∷ []) u
unfolding in_order pure
single_goes g x b t u e = then_on (g x) (λ first. ◌>>=◌ (in_order g []) (λ others. pure (first ∷ others))) t b u e ∙ then_on (in_order g []) (λ others. pure (b ∷ others)) u [] u refl

-- the last counter's value is below its bound in the first lane
pub first_is_live : (ls : List Loop) (vs : List ℤ) → Fit IsLive ls vs → is_live ls vs 0 ≡ true
first_is_live [] vs f = refl
first_is_live (l ∷ []) [] f = refl
first_is_live (l ∷ []) (v ∷ vs) f = f.0
first_is_live (l ∷ k ∷ ls) [] f = refl
first_is_live (l ∷ k ∷ ls) (v ∷ vs) f = first_is_live (k ∷ ls) vs f.1

module _ (core : PlainCore) (most : ℕ) where
  abbrev pub inner_group : List ℕ → List PlainOp → Scope → Step (List Entry)
  inner_group owned ops scope = in_order (renew_in_body core plainly most) owned >> operations core scope ops

  pub one_inner : (owned : List ℕ) (ops : List PlainOp) (comb : Option ℕ) (scope : Scope) (h : History) (t u : Store) → run core plainly most (inner [] owned ops comb) scope t ≡ went h u
      → (es : List Entry) × (inner_group owned ops scope t ≡ went es u) × (inner_ran [] [] (es ∷ []) ≡ h)
  unfolding run in_order pure
  one_inner owned ops comb scope h t u e =
      let b = core_apart (in_order (bounds core plainly most scope) []) (λ bs. ◌>>=◌ (in_order (λ values. in_order (renew_in_body core plainly most) owned >> operations core (in_group scope (loops_of plainly [] bs) values) ops) (group_values (loops_of plainly [] bs))) (λ groups. pure (inner_ran bs (counts_of (loops_of plainly [] bs)) groups))) t h u e in
      let none : [] ≡ b.answer = same_core_answer [] b.answer t b.store b.first in
      let here : t ≡ b.store = same_core_store [] b.answer t b.store b.first in
      let d = core_apart (in_order (λ values. in_order (renew_in_body core plainly most) owned >> operations core (in_group scope (loops_of plainly [] b.answer) values) ops) (group_values (loops_of plainly [] b.answer))) (λ groups. pure (inner_ran b.answer (counts_of (loops_of plainly [] b.answer)) groups)) b.store h u b.second in
      let one = single (λ values. in_order (renew_in_body core plainly most) owned >> operations core (in_group scope (loops_of plainly [] b.answer) values) ops) [] d.answer b.store d.store d.first in (
        one.0,
        ap (inner_group owned ops scope) here ∙ one.1 ∙ ap (went one.0) (same_core_store (inner_ran b.answer [] d.answer) h d.store u d.second),
        ap (λ bs. inner_ran bs [] (one.0 ∷ [])) none ∙ ap (inner_ran b.answer []) one.2 ∙ same_core_answer (inner_ran b.answer [] d.answer) h d.store u d.second,
      )

  -- and the other way round
  pub inner_alone : (owned : List ℕ) (ops : List PlainOp) (comb : Option ℕ) (scope : Scope) (es : List Entry) (t u : Store) → inner_group owned ops scope t ≡ went es u → run core plainly most (inner [] owned ops comb) scope t ≡ went (inner_ran [] [] (es ∷ [])) u
  unfolding run in_order pure
  inner_alone owned ops comb scope es t u e =
      let group : List ℤ → Step (List Entry) = λ values. in_order (renew_in_body core plainly most) owned >> operations core (in_group scope [] values) ops in
      then_on (in_order (bounds core plainly most scope) []) (λ bs. ◌>>=◌ (in_order (λ values. in_order (renew_in_body core plainly most) owned >> operations core (in_group scope (loops_of plainly [] bs) values) ops) (group_values (loops_of plainly [] bs))) (λ groups. pure (inner_ran bs (counts_of (loops_of plainly [] bs)) groups))) t [] t refl
      ∙ then_on (in_order group ([] ∷ [])) (λ groups. pure (inner_ran [] [] groups)) t (es ∷ []) u (single_goes group [] es t u e)

  abbrev pub outer_group : Style → List ℕ → PlainStages → (ℕ → Bool) → Scope → Step Runs
  outer_group style owned stages live scope = in_order (renew core plainly most) owned >> (run_stages core plainly most stages live scope >>= (λ runs. end_of_group core plainly most style owned >> pure runs))

  -- stages of lane 0 don't depend on the other lanes
  alive : (live : ℕ → Bool) (first last : ℕ) → first ≡ 0 → last ≡ 0 → live 0 ≡ true → is_some_live live first last ≡ true
  alive live first last e f l = ap (λ n. is_some_live live n last) e ∙ ap (is_some_live live 0) f ∙ l

  pub stages_alike : (stages : PlainStages) (live other : ℕ → Bool) (scope : Scope) (runs : Runs) (t u : Store) → InLaneZero stages → live 0 ≡ true → other 0 ≡ true
      → run_stages core plainly most stages live scope t ≡ went runs u → run_stages core plainly most stages other scope t ≡ went runs u
  unfolding run_stages
  stages_alike no_stage live other scope runs t u z l o e = e
  stages_alike (more_stage first last comb node rest) live other scope runs t u z l o e =
      let runs_of : (ℕ → Bool) → Bool → Step Runs = λ live b. elim b as (λ _. Step Runs) [ true ↦ run core plainly most node scope >>= (λ h. run_stages core plainly most rest live scope >>= (λ others. pure (more_run h others))) | false ↦ run_stages core plainly most rest live scope >>= (λ others. pure (masked_run others)) ] in
      let b = core_apart (run core plainly most node scope) (λ h. run_stages core plainly most rest live scope >>= (λ others. pure (more_run h others))) t runs u (ap (λ b. runs_of live b t) (sym (alive live first last z.0 z.1 l)) ∙ e) in
      let d = core_apart (run_stages core plainly most rest live scope) (λ others. pure (more_run b.answer others)) b.store runs u b.second in
      ap (λ b. runs_of other b t) (alive other first last z.0 z.1 o)
      ∙ then_on (run core plainly most node scope) (λ h. run_stages core plainly most rest other scope >>= (λ others. pure (more_run h others))) t b.answer b.store b.first
      ∙ then_on (run_stages core plainly most rest other scope) (λ others. pure (more_run b.answer others)) b.store d.answer d.store (stages_alike rest live other scope d.answer b.store d.store z.2 l o d.first)
      ∙ d.second

  group_alike : (style : Style) (owned : List ℕ) (stages : PlainStages) (live other : ℕ → Bool) (scope : Scope) (runs : Runs) (t u : Store) → InLaneZero stages → live 0 ≡ true → other 0 ≡ true
      → outer_group style owned stages live scope t ≡ went runs u → outer_group style owned stages other scope t ≡ went runs u
  group_alike style owned stages live other scope runs t u z l o e =
      let b = core_apart (in_order (renew core plainly most) owned) (λ _. run_stages core plainly most stages live scope >>= (λ runs. end_of_group core plainly most style owned >> pure runs)) t runs u e in
      let d = core_apart (run_stages core plainly most stages live scope) (λ runs. end_of_group core plainly most style owned >> pure runs) b.store runs u b.second in
      then_on (in_order (renew core plainly most) owned) (λ _. run_stages core plainly most stages other scope >>= (λ runs. end_of_group core plainly most style owned >> pure runs)) t b.answer b.store b.first
      ∙ then_on (run_stages core plainly most stages other scope) (λ runs. end_of_group core plainly most style owned >> pure runs) b.store d.answer d.store (stages_alike stages live other scope d.answer b.store d.store z l o d.first)
      ∙ d.second

  pub one_outer : (style : Style) (owned : List ℕ) (stages : PlainStages) (scope : Scope) (live : ℕ → Bool) (h : History) (t u : Store) → InLaneZero stages → live 0 ≡ true → run core plainly most (outer [] style owned stages) scope t ≡ went h u
      → (runs : Runs) × (outer_group style owned stages live scope t ≡ went runs u) × (outer_ran [] [] (groups_of (runs ∷ [])) ≡ h)
  unfolding run in_order pure
  one_outer style owned stages scope live h t u z l e =
      let group : List _ → List ℤ → Step Runs = λ bs values. in_order (renew core plainly most) owned >> (run_stages core plainly most stages (is_live (loops_of plainly [] bs) values) (in_group scope (loops_of plainly [] bs) values) >>= (λ runs. end_of_group core plainly most style owned >> pure runs)) in
      let b = core_apart (in_order (bounds core plainly most scope) []) (λ bs. ◌>>=◌ (in_order (group bs) (group_values (loops_of plainly [] bs))) (λ groups. pure (outer_ran bs (counts_of (loops_of plainly [] bs)) (groups_of groups)))) t h u e in
      let none : [] ≡ b.answer = same_core_answer [] b.answer t b.store b.first in
      let here : t ≡ b.store = same_core_store [] b.answer t b.store b.first in
      let d = core_apart (in_order (group b.answer) (group_values (loops_of plainly [] b.answer))) (λ groups. pure (outer_ran b.answer (counts_of (loops_of plainly [] b.answer)) (groups_of groups))) b.store h u b.second in
      let one = single (group b.answer) [] d.answer b.store d.store d.first in (
        one.0,
        group_alike style owned stages (is_live [] []) live scope one.0 t u z refl l (ap (outer_group style owned stages (is_live [] []) scope) here ∙ one.1 ∙ ap (went one.0) (same_core_store (outer_ran b.answer [] (groups_of d.answer)) h d.store u d.second)),
        ap (λ bs. outer_ran bs [] (groups_of (one.0 ∷ []))) none ∙ ap (λ g. outer_ran b.answer [] (groups_of g)) one.2 ∙ same_core_answer (outer_ran b.answer [] (groups_of d.answer)) h d.store u d.second,
      )
