-- The elements of one iteration in the core: what stands before each combination, by itself, and what the combinations leave.
use Rattle.std.proofs.Common.{◌≡◌, ℕ, suc, ◌+◌, ◌<◌, Bool, true, ℤ, List, [], ◌∷◌, ◌++◌, length, map, refl, sym, ◌∙◌, ap, subst, arith}
use Rattle.std.proofs.lemmas.List.{append_assoc}
use Rattle.std.specs.List.{All}
use Rattle.sp_words.specs.declared.kind.Kind.TheVariants.{Sram}
use Rattle.sp_words.specs.declared.types.Ty.{Ty}
use Rattle.sp_words.specs.declared.types.Ty.TheVariants.{Bit}
use Rattle.sp_words.specs.Interface.{IsCount}
use Rattle.sp_tree.specs.declared.statement.Comb.{Comb}
use Rattle.sp_tree.specs.PlainProgram.{PlainMem}
use Rattle.sp_core.specs.declared.operation.OpKind.TheVariants.{Two}
use Rattle.sp_core.specs.Around.{Around}
use Rattle.sp_core.specs.Declarations.{kind_of, dims}
use Rattle.sp_core.specs.Footprint.{ListNames, AllPass}
use Rattle.sp_core.specs.History.{Entry, word_at}
use Rattle.sp_core.specs.MemoryRules.{are_memories_right}
use Rattle.sp_core.specs.OperationRules.{are_operations_right}
use Rattle.sp_core.specs.Operations.{operations}
use Rattle.sp_core.specs.Operators.{two_word}
use Rattle.sp_core.specs.PlainCore.{PlainOp, PlainCore}
use Rattle.sp_core.specs.Scope.{Scope}
use Rattle.sp_core.specs.Step.{went, in_order}
use Rattle.sp_core.specs.Store.{Store}
use Rattle.sp_fitting.specs.Fitting.{StoreFits, MasksAreBits}
use Rattle.sp_fitting.specs.Laws.{ListFits, ListsFit}
use Rattle.sp_sugar.specs.Combination.{operator_of, element_ops}
use Rattle.sp_sugar.specs.Operations.{computes, read_op, under}
use Rattle.sp_lane_groups.proofs.Renewed.{order_split, order_none}
use Rattle.sp_lane_groups.proofs.RunsWhole.{run_long}
use Rattle.sp_lane_trees.specs.ReductionsReduction.{AreStill}
use Rattle.sp_lane_trees.proofs.CombinationsChain.{runs_parts}
use Rattle.sp_lane_trees.proofs.CombinationsCombining.{after_word}
use Rattle.sp_lane_trees.proofs.CombinationsRegisters.{IsBoth}
use Rattle.sp_lane_trees.proofs.CombinationsRights.{masks_back, right_parts}
use Rattle.sp_lane_trees.proofs.ReductionsFronts.{still_run}
use Rattle.sp_lane_trees.proofs.ElementsAccesses.{HoldsAt, written_at}
use Rattle.sp_lane_trees.proofs.ElementsCodes.{counts, places}
use Rattle.sp_lane_trees.proofs.ElementsForms.{chooses, writes, element, element_is}
use Rattle.sp_lane_trees.proofs.ElementsRuns.{count_words, is_last, element_was}
use Rattle.sp_lane_trees.proofs.ElementsStores.{Loop, written_other}
use Rattle.sp_lane_trees.proofs.ElementsWords.{front_words, FrontsFit}
use Rattle.sp_lane_trees.proofs.ElementsValues.{element_at, in_element, words_at, last_at_end, EachLong}

-- what is asked of a combination of elements: a test of all other memories; the accumulator has the elements that are gone over, and
-- the flag is a register, another memory
pub record AsksElements (core : PlainCore) (owned : List ℕ) (before : List PlainOp) (at word acc begun : ℕ) (ds : List ℕ) (is : ℕ → Bool) : Type 0 where
  pub place : at ≡ length before
  pub earlier : word < at
  pub names : ListNames core is before
  pub owns : AllPass core is owned
  pub other : (m : ℕ) → is m ≡ true → (m ≡ acc → ⊥) × (m ≡ begun → ⊥)
  pub all : (m : ℕ) → (m ≡ acc → ⊥) → (m ≡ begun → ⊥) → is m ≡ true
  pub sram : kind_of core acc ≡ Sram
  pub flag_both : IsBoth (kind_of core begun)
  pub apart : acc ≡ begun → ⊥
  pub counted : All IsCount ds
  pub sized : dims core acc ≡ ds

module _ (core : PlainCore) (lists : ListsFit core) (memories : are_memories_right core ≡ true) (place : Around) (owned : List ℕ) (is : ℕ → Bool) (mems : List PlainMem) (c : ℕ) (ds : List ℕ) (ty : Ty) (comb : Comb) (before : List PlainOp) (at word acc begun : ℕ) (asks : AsksElements core owned before at word acc begun ds is)
    (still : AreStill before) (right : are_operations_right core place (before ++ element mems c ds ty comb at word acc begun) ≡ true) where
  abbrev el : List PlainOp
  el = element mems c ds ty comb at word acc begun

  abbrev pub joint : ℕ → ℕ → ℕ
  joint = two_word (operator_of comb) ty

  front_right : are_operations_right core place before ≡ true
  front_right = (right_parts core place [] before el right).0

  module _ (scope : Scope) (first : Store) where
    -- what stands before the combination of an element, in a store that holds what one did but for the combination's own
    pub record FrontRan (v : List ℤ) (f : List Entry) : Type 0 where
      pub store : Store
      pub after : Store
      pub near : (m : ℕ) → (m ≡ acc → ⊥) → (m ≡ begun → ⊥) → store m ≡ first m
      pub ran : operations core (in_element scope c ds v) before store ≡ went f after
      pub bits : MasksAreBits before f

    abbrev pub FrontsRan : List (List ℤ) → List (List Entry) → Type 0
    FrontsRan [] [] = Unit {0}
    FrontsRan (v ∷ vs) (f ∷ fs) = FrontRan v f × FrontsRan vs fs
    FrontsRan vs fs = ⊥

    -- so many elements
    pub record Gone (vs : List (List ℤ)) (u after : Store) : Type 0 where
      pub fronts : List (List Entry)
      pub long : length fronts ≡ length vs
      pub loop : Loop core acc begun joint (map (element_at ds) vs) (front_words word fronts) u after
      pub fit : FrontsFit before fronts
      pub ran : FrontsRan vs fronts
      pub left : StoreFits core after

    -- the mask of the second read is a bit
    flag_bit : (es : List Entry) → MasksAreBits el es → word_at es at < 2
    flag_bit es h =
        let n : ℕ = length ds in
        let second : PlainOp = under at (read_op ty acc (places (at + 1) n)) in
        let third : PlainOp = computes (Two (operator_of comb)) ty ((at + 1 + n) ∷ word ∷ []) in
        let rest : List PlainOp = chooses mems c ds ty comb at word ∷ writes mems c ds ty comb (at + 1 + n + 3) (at + 1 + n + 2) acc begun in
        let there : MasksAreBits (second ∷ third ∷ rest) es =
        masks_back (read_op Bit begun [] ∷ counts c n) (second ∷ third ∷ rest) es (subst (λ l. MasksAreBits l es) (append_assoc (read_op Bit begun [] ∷ counts c n) (second ∷ third ∷ []) rest) h) in
        there.0 at refl

    abbrev Near : Store → Type 0
    Near u = (m : ℕ) → (m ≡ acc → ⊥) → (m ≡ begun → ⊥) → u m ≡ first m

    sized : (n at : ℕ) → at ≡ n → 0 + n ≡ at
    sized n at e = omega (arith, e)

    pub elements_gone : (ops : List PlainOp) → ops ≡ before ++ element_ops mems at word c ds acc begun ty comb → (vs : List (List ℤ)) → EachLong (length ds) vs → (u after : Store) (ess : List (List Entry)) → StoreFits core u → Near u
        → in_order (λ v. operations core (in_element scope c ds v) ops) vs u ≡ went ess after → Gone vs u after
    elements_gone ops list [] long u after ess fits near ran =
        let r = order_none (λ v. operations core (in_element scope c ds v) ops) u after ess ran in
        record { fronts = []; long = refl; loop = r.0; fit = tt; ran = tt; left = subst (StoreFits core) r.0 fits }
    elements_gone ops list (v ∷ vs) long u after ess fits near ran =
        let r = order_split (λ v. operations core (in_element scope c ds v) ops) v vs u after ess ran in
        let there : Scope = in_element scope c ds v in
        let one : operations core there (before ++ el) u ≡ went r.0 r.1 = subst (λ xs. operations core there xs u ≡ went r.0 r.1) (list ∙ ap (λ xs. before ++ xs) (element_is mems c ds ty comb at word acc begun)) r.3 in
        let fit : ListFits core (before ++ el) u r.0 r.1 = lists place there (before ++ el) u r.1 r.0 memories right fits one in
        let q = runs_parts core there before el [] u r.0 r.1 one in
        let front_fit : ListFits core before u q.0 q.1 = lists place there before u q.1 q.0 memories front_right fits q.2 in
        let same : q.1 ≡ u = still_run core there before [] u q.0 q.1 still q.2 in
        let size : length q.0 ≡ at = run_long core there before [] u q.0 q.1 q.2 ∙ sized (length before) at asks.place in
        let w = element_was core there mems c ds ty comb acc begun at word q.0 (sym size) asks.earlier q.1 r.1 r.0 (flag_bit r.0 (masks_back before el r.0 fit.masks)) q.3 in
        let ws_are : count_words there c (length ds) ≡ (element_at ds v).ws = words_at scope c ds v long.0 in
        let last_is : is_last there c ds ≡ (element_at ds v).last = last_at_end scope c ds v long.0 in
        let x : ℕ = word_at q.0 word in
        let holds : HoldsAt core begun acc (element_at ds v).ws u w.0 = subst (λ ws. HoldsAt core begun acc ws u w.0) ws_are (subst (λ (s : Store). HoldsAt core begun acc (count_words there c (length ds)) s w.0) same w.1) in
        let left : written_at core begun acc (element_at ds v).ws (element_at ds v).last (after_word joint w.0 x) u ≡ r.1 =
        sym (ap (λ (s : Store). written_at core begun acc (count_words there c (length ds)) (is_last there c ds) (after_word joint w.0 x) s) same ∙ ap (λ ws. written_at core begun acc ws (is_last there c ds) (after_word joint w.0 x) u) ws_are
        ∙ ap (λ k. written_at core begun acc (element_at ds v).ws k (after_word joint w.0 x) u) last_is) ∙ w.2 in
        let z : Gone vs r.1 after =
        elements_gone ops list vs long.1 r.1 after r.2 fit.left
        (λ m ne away. ap (λ (s : Store). s m) (sym left) ∙ written_other core acc begun asks.sram asks.flag_both asks.apart joint (element_at ds v) (after_word joint w.0 x) u m ne away ∙ near m ne away) r.4 in
        record {
          fronts = q.0 ∷ z.fronts;
          long = ap suc z.long;
          loop = (w.0, holds, subst (λ (s : Store). Loop core acc begun joint (map (element_at ds) vs) (front_words word z.fronts) s after) (sym left) z.loop);
          fit = (front_fit.entries, z.fit);
          ran = (record { store = u; after = q.1; near = near; ran = q.2; bits = front_fit.masks }, z.ran);
          left = z.left;
        }
