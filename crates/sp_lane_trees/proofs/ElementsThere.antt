-- The combination of elements in lanes: at each element the words of all lanes, and over all elements what the lanes of the core leave.
use Rattle.std.proofs.Common.{◌≡◌, ℕ, suc, ◌+◌, ◌<◌, ◌≤◌, ◌==◌, Bool, true, false, ◌&&◌, ℤ, List, [], ◌∷◌, ◌++◌, length, map, Option, Some, None, refl, sym, ◌∙◌, ap, subst, arith}
use Rattle.std.proofs.lemmas.Bool.{and_parts, true≢false}
use Rattle.sp_words.specs.declared.kind.Kind.TheVariants.{Sram}
use Rattle.sp_words.specs.declared.types.Ty.{Ty}
use Rattle.sp_words.specs.declared.types.Ty.TheVariants.{Bit}
use Rattle.sp_words.specs.Memory.{Contents, cells}
use Rattle.sp_words.specs.Words.{IsWord}
use Rattle.sp_tree.specs.declared.statement.Comb.{Comb}
use Rattle.sp_tree.specs.PlainProgram.{PlainMem}
use Rattle.sp_core.specs.declared.operation.OpKind.TheVariants.{Read}
use Rattle.sp_core.specs.Accesses.{word_in}
use Rattle.sp_core.specs.Around.{Around, within, lanes_of, is_usable}
use Rattle.sp_core.specs.Declarations.{mem, kind_of, dims, is_among}
use Rattle.sp_core.specs.Elements.{index_value, are_inside, row_major}
use Rattle.sp_core.specs.Footprint.{ListNames}
use Rattle.sp_core.specs.History.{Entry}
use Rattle.sp_core.specs.OperationRules.{can, is_access, are_operations_right}
use Rattle.sp_core.specs.Operations.{operations}
use Rattle.sp_core.specs.Operators.{two_word}
use Rattle.sp_core.specs.PlainCore.{PlainOp, PlainCounter, PlainCore}
use Rattle.sp_core.specs.Scope.{Scope}
use Rattle.sp_core.specs.Step.{Step, went, in_order}
use Rattle.sp_core.specs.Store.{Store, cells_of}
use Rattle.sp_core.specs.Typed.{is_type}
use Rattle.sp_fitting.specs.Fitting.{StoreFits}
use Rattle.sp_fitting.specs.Laws.{WordsFit}
use Rattle.sp_fitting.proofs.Lists.{typed_at, out_of_memory}
use Rattle.sp_sugar.specs.Combination.{operator_of, element_counters}
use Rattle.sp_lanes.specs.Bodies.{Body, lane_bodies, all_ops}
use Rattle.sp_lanes.specs.Combined.{combined}
use Rattle.sp_lanes.specs.Joined.{is_balanced}
use Rattle.sp_lanes.specs.Order.{memory_order}
use Rattle.sp_lanes.specs.Unrolled.{unrolled, last_number, ops_in_lanes}
use Rattle.sp_lanes.specs.Within.{Within, in_lane}
use Rattle.sp_lane_rules.specs.CombinedStanding.{numbers_of, AreApart}
use Rattle.sp_lane_rules.specs.UnrolledMeetings.{given_of}
use Rattle.sp_lane_rules.proofs.UnrolledGivens.{given_length}
use Rattle.sp_lane_groups.specs.Groups.{IsGroup}
use Rattle.sp_lane_groups.specs.LiveStores.{ArePlain}
use Rattle.sp_lane_groups.proofs.Apart.{in_usable, out_number, out_usable, lane_copies}
use Rattle.sp_lane_groups.proofs.JoinedBalanced.{Laws}
use Rattle.sp_lane_groups.proofs.LiveAccesses.{Same, same_declared}
use Rattle.sp_lane_groups.proofs.LiveCopies.{copies_apart}
use Rattle.sp_lane_groups.proofs.RunsWhole.{runs_append, run_long}
use Rattle.sp_lane_groups.specs.JoinedWords.{words_of, EachHasWord}
use Rattle.sp_lane_trees.specs.ElementsCells.{firsts, others, by_elements}
use Rattle.sp_lane_trees.specs.ReductionsReduction.{AreStill}
use Rattle.sp_lane_trees.proofs.CombinationsCopies.{Alike, reads_alike, put_alike}
use Rattle.sp_lane_trees.proofs.CombinationsRegisters.{IsBoth, put_in}
use Rattle.sp_lane_trees.proofs.CombinationsRights.{right_parts, register_usable}
use Rattle.sp_lane_trees.proofs.ReductionsFronts.{AllRan, fronts_stand}
use Rattle.sp_lane_trees.proofs.ElementsAccesses.{indices, HasElement, ElementIs, HoldsAt, written_at}
use Rattle.sp_lane_trees.proofs.ElementsAround.{outside, inside_too, front_right, plain_at, lanes_at, group_at}
use Rattle.sp_lane_trees.proofs.ElementsChain.{AsksElements}
use Rattle.sp_lane_trees.proofs.ElementsExchange.{exchange}
use Rattle.sp_lane_trees.proofs.ElementsForms.{element}
use Rattle.sp_lane_trees.proofs.ElementsFronts.{LanesRan, RanAt, firsts_ran, others_ran}
use Rattle.sp_lane_trees.proofs.ElementsOrdered.{combine}
use Rattle.sp_lane_trees.proofs.ElementsPlaced.{NoLanes, laned_is}
use Rattle.sp_lane_trees.proofs.ElementsRights.{ElementRight, element_right}
use Rattle.sp_lane_trees.proofs.ElementsRuns.{count_words, is_last}
use Rattle.sp_lane_trees.proofs.ElementsStores.{Element, places_of, Flag, HeldAt, Holding, AllHeld, Accumulated, all_words, Does, Done, elements_do}
use Rattle.sp_lane_trees.proofs.ElementsTurns.{element_step}
use Rattle.sp_lane_trees.proofs.ElementsValues.{element_at, element_values, in_element, words_at, last_at_end, EachLong, values_long, last_alone, places_apart}
use Rattle.sp_lane_trees.proofs.ElementsWords.{front_words, lane_words, EachSized, FrontsFit, LanesFit, firsts_are, others_are, others_sized, firsts_long, others_long, have_for, firsts_fit, others_fit, fronts_have}

-- what a memory holds at an element, its copy does
module _ (core lanes : PlainCore) (m n : ℕ) (alike : Alike core lanes m n) where
  has_alike : (ws : List ℕ) → HasElement core m ws → HasElement lanes n ws
  has_alike ws h = ap (λ d. are_inside d (map index_value ws)) alike.sizes ∙ h

  pub element_alike : (ws : List ℕ) (c : Option Contents) (a : ℕ) → ElementIs core m ws c a → ElementIs lanes n ws c a
  element_alike ws c a h = (has_alike ws h.0, ap (λ k. word_in k (dims lanes n) (indices ws) c) alike.kinds ∙ ap (λ d. word_in (kind_of core m) d (indices ws) c) alike.sizes ∙ h.1)

  pub held_alike : (b : Bool) (begun flag : ℕ) (ws : List ℕ) (c : Option Contents) → HeldAt core m begun b ws c → HeldAt lanes n flag b ws c
  held_alike true begun flag ws c h = (h.0, element_alike ws c h.0 h.1)
  held_alike false begun flag ws c h = has_alike ws h

  pub holding_alike : (b : Bool) (begun flag : ℕ) (es : List Element) (c : Option Contents) → Holding core m begun b c es → Holding lanes n flag b c es
  holding_alike b begun flag [] c h = tt
  holding_alike b begun flag (e ∷ es) c h = (held_alike b begun flag e.ws c h.0, holding_alike b begun flag es c h.1)

module _ (core : PlainCore) (fitting : WordsFit core) (laws : Laws) (turns : ℕ) (around inside : Around) (w : Within) (counters : List PlainCounter) (owned : List ℕ) (plain : ℕ → Scope) (lanes : Scope) (count : ℕ) (g : IsGroup core around inside w counters owned plain lanes count) (several : (lanes_of counters == 1) ≡ false)
    (is : ℕ → Bool) (mems : List PlainMem) (c : ℕ) (ds : List ℕ) (before : List PlainOp) (at word acc begun : ℕ) (ty : Ty) (comb : Comb) (asks : AsksElements core owned before at word acc begun ds is) (plain_before : ArePlain before) (still : AreStill before) (own : ListNames core (λ m. is_among m owned) before)
    (right : are_operations_right core (within (within around counters owned) (element_counters c ds) []) (before ++ element mems c ds ty comb at word acc begun) ≡ true) (acc_out : is_among acc owned ≡ false) (flag_out : is_among begun owned ≡ false)
    (apart : AreApart (numbers_of counters) (element_counters c ds)) (zero_lanes : (l : ℕ) → NoLanes (in_lane (memory_order core) counters owned w l) c (length ds)) where
  abbrev place : Around
  place = within around counters owned

  abbrev inner_place : Around
  inner_place = within place (element_counters c ds) []

  abbrev lane_at : ℕ → Within
  lane_at l = in_lane (memory_order core) counters owned w l

  abbrev el : List PlainOp
  el = element mems c ds ty comb at word acc begun

  abbrev pub acc_there : ℕ
  acc_there = w.number acc

  abbrev pub flag_there : ℕ
  flag_there = w.number begun

  abbrev op : ℕ → ℕ → ℕ
  op = two_word (operator_of comb) ty

  -- what the rules say
  rights : (are_operations_right core inner_place before ≡ true) × ElementRight core inner_place mems c ds ty comb (given_of before) word acc begun
  rights =
      let r = right_parts core inner_place [] before el right in
      (r.0, element_right core inner_place mems c ds ty comb (given_of before) at word acc begun (let lt = asks.earlier in let same = asks.place in omega (arith, lt, same, given_length before)) r.1)

  pub acc_usable : is_usable core around acc ≡ true
  acc_usable =
      in_usable core around inside w counters owned plain lanes count g acc
      (and_parts (is_access Read) (is_usable core place acc) (and_parts (is_access Read && is_usable core place acc) (can Read (mem core acc).kind (mem core acc).start && is_type ty (mem core acc).ty) rights.1.accumulator).0).1 acc_out

  pub flag_usable : is_usable core around begun ≡ true
  flag_usable = in_usable core around inside w counters owned plain lanes count g begun (register_usable core inner_place Bit begun rights.1.flag) flag_out

  zero_lane : 0 < lanes_of counters
  zero_lane = let some = g.some in let most = g.most in omega (arith, some, most)

  alike_at : (m : ℕ) → is_usable core around m ≡ true → is_among m owned ≡ false → Alike core (unrolled core) m (w.number m)
  alike_at m u o =
      let v : is_usable core place m ≡ true = out_usable core around inside w counters owned plain lanes count g m u in
      let there = (g.together 0 zero_lane).memories m v in
      let same : Same core (unrolled core) m ((lane_at 0).number m) = same_declared core (unrolled core) place inside m ((lane_at 0).number m) v there.0 there.1 (g.rooms 0 zero_lane m v) in
      let number : (lane_at 0).number m ≡ w.number m = out_number core around inside w counters owned plain lanes count g 0 m o in
      record { kinds = ap (kind_of (unrolled core)) (sym number) ∙ same.kinds; sizes = ap (dims (unrolled core)) (sym number) ∙ same.sizes }

  pub acc_alike : Alike core (unrolled core) acc acc_there
  acc_alike = alike_at acc acc_usable acc_out

  pub flag_alike : Alike core (unrolled core) begun flag_there
  flag_alike = alike_at begun flag_usable flag_out

  pub copies_differ : (m k : ℕ) → is_usable core around m ≡ true → is_usable core around k ≡ true → (m ≡ k → ⊥) → w.number m ≡ w.number k → ⊥
  copies_differ m k u v ne e = ne (copies_apart core around w g.copies m k u v e)

  pub far_flag : acc_there ≡ flag_there → ⊥
  far_flag = copies_differ acc begun acc_usable flag_usable asks.apart

  sram_there : kind_of (unrolled core) acc_there ≡ Sram
  sram_there = acc_alike.kinds ∙ asks.sram

  both_there : IsBoth (kind_of (unrolled core) flag_there)
  both_there = subst IsBoth (sym flag_alike.kinds) asks.flag_both

  -- copies of what the loop owns are others
  not_copy : (m x l : ℕ) → is_among m owned ≡ true → is_usable core around x ≡ true → is_among x owned ≡ false → l < lanes_of counters → (lane_at l).number m ≡ w.number x → ⊥
  not_copy m x l i u o lt e =
      let same : m ≡ x = copies_apart core place (lane_at l) (lane_copies core around inside w counters owned plain lanes count g l lt) m x (g.valid m i) (out_usable core around inside w counters owned plain lanes count g x u) (e ∙ sym (out_number core around inside w counters owned plain lanes count g l x o)) in
      true≢false (sym i ∙ ap (λ k. is_among k owned) same ∙ o)

  abbrev pub bodies : List Body
  bodies = lane_bodies (last_number counters) (in_lane (memory_order core) counters owned w) before owned (lanes_of counters)

  -- the operations in lanes
  abbrev pub last_ops : List PlainOp
  last_ops = ops_in_lanes (memory_order core) w counters owned (before ++ el) (Some at)

  abbrev combination : List PlainOp
  combination = combined (last_number counters) at bodies (element mems c ds ty comb at word acc_there flag_there)

  last_ops_are : last_ops ≡ all_ops bodies ++ combination
  last_ops_are =
      laned_is mems c ds ty comb (last_number counters) (in_lane (memory_order core) counters owned w) owned (lanes_of counters) at before word acc begun (zero_lanes 0) asks.place
      ∙ ap (λ k. all_ops bodies ++ combined (last_number counters) at bodies (element mems c ds ty comb at word k ((lane_at 0).number begun))) (out_number core around inside w counters owned plain lanes count g 0 acc acc_out)
      ∙ ap (λ k. all_ops bodies ++ combined (last_number counters) at bodies (element mems c ds ty comb at word acc_there k)) (out_number core around inside w counters owned plain lanes count g 0 begun flag_out)

  -- at an element, from a store that holds elsewhere what one did
  module _ (t : Store) where
    abbrev pub NearTo : Store → Type 0
    NearTo u = (m : ℕ) → (m ≡ acc_there → ⊥) → (m ≡ flag_there → ⊥) → u m ≡ t m

    abbrev pub there : List ℤ → Step (List Entry)
    there = element_step (unrolled core) turns c ds last_ops None lanes

    abbrev AllAt : (v : List ℤ) → (u : Store) → (l : ℕ) → List (List Entry) → Type 0
    AllAt v u l groups =
        AllRan core (outside core around inside w counters owned plain lanes count g c ds apart zero_lanes) (inside_too core around inside w counters owned plain lanes count g c ds apart zero_lanes) w counters owned
        (plain_at core around inside w counters owned plain lanes count g c ds apart zero_lanes v) (lanes_at core around inside w counters owned plain lanes count g c ds apart zero_lanes v) count
        (group_at core around inside w counters owned plain lanes count g c ds apart zero_lanes v) several (λ m. is_among m owned) before plain_before (front_right core around inside w counters owned plain lanes count g c ds apart zero_lanes before rights.0) still own u l groups

    all_at : (v : List ℤ) (u : Store) → NearTo u → (l : ℕ) (groups : List (List Entry)) → l + length groups ≤ lanes_of counters → RanAt core w counters owned plain c ds before t v l groups → AllAt v u l groups
    all_at v u near l [] le h = tt
    all_at v u near l (f ∷ fs) le h = (
      record {
        store = h.0.store;
        after = h.0.after;
        has = λ m i. near ((lane_at l).number m) (not_copy m acc l i acc_usable acc_out (omega (arith, le))) (not_copy m begun l i flag_usable flag_out (omega (arith, le))) ∙ h.0.has m i;
        ran = h.0.ran;
        bits = h.0.bits;
      },
      all_at v u near (suc l) fs (omega (arith, le)) h.1,
    )

    one_does : (v : List ℤ) → length v ≡ length ds → (groups : List (List Entry)) → length groups ≡ count → FrontsFit before groups → RanAt core w counters owned plain c ds before t v 0 groups → (u : Store) (o : Option ℕ) → NearTo u
        → HoldsAt (unrolled core) flag_there acc_there (element_at ds v).ws u o → ((a : ℕ) → o ≡ Some a → IsWord ty a)
        → (a : List Entry) × (there v u ≡ went a (written_at (unrolled core) flag_there acc_there (element_at ds v).ws (element_at ds v).last (all_words op o (words_of word groups)) u))
    one_does v size [] long fit ran u o near holds said = absurd (let some = g.some in omega (arith, long, some))
    one_does v size (f ∷ fs) long fit ran u o near holds said =
        let scope : Scope = in_element lanes c ds v in
        let ws_are : count_words scope c (length ds) ≡ (element_at ds v).ws = words_at lanes c ds v size in
        let last_is : is_last scope c ds ≡ (element_at ds v).last = last_at_end lanes c ds v size in
        let x = fronts_stand core (outside core around inside w counters owned plain lanes count g c ds apart zero_lanes) (inside_too core around inside w counters owned plain lanes count g c ds apart zero_lanes) w counters owned
        (plain_at core around inside w counters owned plain lanes count g c ds apart zero_lanes v) (lanes_at core around inside w counters owned plain lanes count g c ds apart zero_lanes v) count
        (group_at core around inside w counters owned plain lanes count g c ds apart zero_lanes v) several (λ m. is_among m owned) before plain_before (front_right core around inside w counters owned plain lanes count g c ds apart zero_lanes before rights.0) still own u (f ∷ fs) long
        (all_at v u near 0 (f ∷ fs) (let most = g.most in omega (arith, long, most)) ran) in
        let has : EachHasWord ty word (f ∷ fs) = fronts_have before word ty (let lt = asks.earlier in let same = asks.place in omega (arith, lt, same)) rights.1.given (f ∷ fs) fit in
        let size_there : length x.0 ≡ length (all_ops bodies) = (let n = run_long (unrolled core) scope (all_ops bodies) [] u x.0 u x.1 in omega (arith, n)) in
        let holds_there : HoldsAt (unrolled core) flag_there acc_there (count_words scope c (length ds)) u o = subst (λ ws. HoldsAt (unrolled core) flag_there acc_there ws u o) (sym ws_are) holds in
        let y = combine (unrolled core) scope mems c ds ty comb acc_there flag_there (last_number counters) at word asks.earlier laws bodies f fs x.0 u x.2 has size_there o said holds_there (is_balanced (operator_of comb) ty) refl in
        let value : ℕ = all_words op o (words_of word (f ∷ fs)) in (
          y.0,
          ap (λ xs. operations (unrolled core) scope xs u) last_ops_are
              ∙ runs_append (unrolled core) scope (all_ops bodies) combination [] x.0 u u x.1
              ∙ y.1
              ∙ ap (λ ws. went y.0 (written_at (unrolled core) flag_there acc_there ws (is_last scope c ds) value u)) ws_are
              ∙ ap (λ k. went y.0 (written_at (unrolled core) flag_there acc_there (element_at ds v).ws k value u)) last_is,
        )

    -- at all elements
    all_do : (vs : List (List ℤ)) → EachLong (length ds) vs → (words : List (List (List Entry))) → length words ≡ count → EachSized (length vs) words → LanesFit before words → LanesRan core w counters owned plain c ds before t vs 0 words
        → Does (unrolled core) acc_there flag_there sram_there both_there far_flag op there (element_at ds) t (IsWord ty) vs (lane_words word words)
    all_do [] long words many sized fit ran = tt
    all_do (v ∷ vs) long words many sized fit ran = (
      λ u o near holds said. (let r = one_does v long.0 (firsts [] words) (firsts_long words ∙ many) (firsts_fit before (length vs) words sized fit) (firsts_ran core w counters owned plain c ds before t v vs 0 words ran) u o near holds said in
          (r.0, r.1 ∙ ap (λ ws. went r.0 (written_at (unrolled core) flag_there acc_there (element_at ds v).ws (element_at ds v).last (all_words op o ws) u)) (sym (firsts_are word (length vs) words sized)))),
      subst (λ ls. Does (unrolled core) acc_there flag_there sram_there both_there far_flag op there (element_at ds) t (IsWord ty) vs ls) (sym (others_are word (length vs) words sized))
          (all_do vs long.1 (others words) (others_long words ∙ many) (others_sized (length vs) words sized) (others_fit before (length vs) words sized fit) (others_ran core w counters owned plain c ds before t v vs 0 words ran)),
    )

    -- what the loop over elements leaves in lanes is what the lanes of the core leave
    pub record AllCombined (after : Store) : Type 0 where
      pub answers : List (List Entry)
      pub ended : Store
      pub ran : in_order there (element_values ds) t ≡ went answers ended
      pub acc_same : ended acc_there ≡ after acc
      pub flag_same : ended flag_there ≡ after begun
      pub near : NearTo ended

    abbrev es : List Element
    es = map (element_at ds) (element_values ds)

    flag_begins : (b : Bool) (d : Option Contents) → Flag core acc begun b d → Flag (unrolled core) acc_there flag_there b d
    flag_begins true d h = reads_alike core (unrolled core) begun flag_there flag_alike d 1 h
    flag_begins false d h = reads_alike core (unrolled core) begun flag_there flag_alike d 0 h

    -- what the accumulator holds are words of its type
    held_words : (s : Store) → StoreFits core s → t acc_there ≡ s acc → (xs : List Element) → AllHeld (unrolled core) acc_there flag_there sram_there both_there far_flag op (IsWord ty) (t acc_there) xs
    held_words s fits same [] = tt
    held_words s fits same (e ∷ xs) = (
      λ a h. (let x = element_alike (unrolled core) core acc_there acc (record { kinds = sym acc_alike.kinds; sizes = sym acc_alike.sizes }) e.ws (s acc) a (subst (λ k. ElementIs (unrolled core) acc_there e.ws k a) same h) in
          out_of_memory core inner_place ty acc a (typed_at core inner_place Read ty acc rights.1.accumulator) (fitting s acc (indices e.ws) a fits x.1)),
      held_words s fits same xs,
    )

    length_mapped : {A B : Type 0} (f : A → B) (xs : List A) → length (map f xs) ≡ length xs
    length_mapped f [] = refl
    length_mapped f (x ∷ xs) = ap suc (length_mapped f xs)

    places_long : length (element_values ds) ≡ length (places_of core acc begun es)
    places_long = sym (length_mapped (λ (e : Element). row_major (dims core acc) (indices e.ws)) es ∙ length_mapped (element_at ds) (element_values ds))

    pub all_combined : (s after : Store) → StoreFits core s → t acc_there ≡ s acc → t flag_there ≡ s begun → (words : List (List (List Entry))) → length words ≡ count → EachSized (length (element_values ds)) words → LanesFit before words
        → LanesRan core w counters owned plain c ds before t (element_values ds) 0 words → Accumulated core acc begun op es (s acc) (s begun) after (lane_words word words) → AllCombined after
    all_combined s after fits acc_is flag_is [] long sized fit ran left = absurd (let some = g.some in omega (arith, long, some))
    all_combined s after fits acc_is flag_is (fs ∷ words) long sized fit ran left =
        let b : Bool = left.0 in
        let lanes_words : List (List ℕ) = lane_words word (fs ∷ words) in
        let ps : List ℕ = places_of core acc begun es in
        let places_same : places_of (unrolled core) acc_there flag_there es ≡ ps = ap (λ d. map (λ (e : Element). row_major d (indices e.ws)) es) acc_alike.sizes in
        let x : Done (unrolled core) acc_there flag_there sram_there both_there far_flag op there (element_at ds) t (IsWord ty) (element_values ds) b lanes_words t =
        elements_do (unrolled core) acc_there flag_there sram_there both_there far_flag op there (element_at ds) t (IsWord ty) (element_values ds) (front_words word fs) (lane_words word words) t b (last_alone ds asks.counted)
        (places_apart (unrolled core) acc_there flag_there ds asks.counted (acc_alike.sizes ∙ asks.sized)) (λ m ne away. refl)
        (subst (λ d. Flag (unrolled core) acc_there flag_there b d) (sym flag_is) (flag_begins b (s begun) left.1))
        (subst (λ k. Holding (unrolled core) acc_there flag_there b k es) (sym acc_is) (holding_alike core (unrolled core) acc acc_there acc_alike b begun flag_there es (s acc) left.2))
        (held_words s fits acc_is es) (all_do (element_values ds) (values_long ds) (fs ∷ words) long sized fit ran) in
        record {
          answers = x.answers;
          ended = x.ended;
          ran = x.ran;
          acc_same = x.words ∙ ap (λ p. Some (cells (by_elements op b p lanes_words (cells_of (t acc_there))))) places_same ∙ ap (λ k. Some (cells (by_elements op b ps lanes_words (cells_of k)))) acc_is
              ∙ ap (λ cs. Some (cells cs)) (sym (exchange op b ps lanes_words (cells_of (s acc)) (places_apart core acc begun ds asks.counted asks.sized) (have_for word ps (fs ∷ words) (subst (λ n. EachSized n (fs ∷ words)) places_long sized))))
              ∙ sym left.3;
          flag_same = x.flags ∙ ap (λ k. Some (put_in (unrolled core) flag_there 1 k)) flag_is ∙ ap Some (put_alike core (unrolled core) begun flag_there flag_alike 1 (s begun)) ∙ sym left.4;
          near = x.elsewhere;
        }
