-- A group of an inner body that ends in a combination: its lanes, the words that they join, and the combination.
use Rattle.std.proofs.Common.{◌≡◌, ℕ, zero, suc, ◌+◌, ◌<◌, ◌≤◌, Bool, true, false, List, [], ◌∷◌, ◌++◌, length, Option, Some, None, refl, sym, ◌∙◌, ap, subst, arith, inl, inr, ◌==◌}
use Rattle.std.proofs.lemmas.Bool.Decides.{eqb_tells}
use Rattle.std.specs.Prelude.{option_map}
use Rattle.sp_words.specs.declared.types.Ty.{Ty}
use Rattle.sp_words.specs.declared.types.Ty.TheVariants.{Bit}
use Rattle.sp_words.specs.Words.{IsWord}
use Rattle.sp_tree.specs.declared.statement.Comb.{Comb}
use Rattle.sp_core.specs.declared.operation.OpKind.TheVariants.{Read}
use Rattle.sp_core.specs.Accesses.{hold_now}
use Rattle.sp_core.specs.Around.{Around, within, lanes_of, is_usable}
use Rattle.sp_core.specs.Declarations.{mem, kind_of, dims, is_among, fresh}
use Rattle.sp_core.specs.History.{Entry, word_at}
use Rattle.sp_core.specs.MemoryRules.{are_memories_right}
use Rattle.sp_core.specs.OperationRules.{are_operations_right}
use Rattle.sp_core.specs.Operations.{operations, operations_after}
use Rattle.sp_core.specs.Operators.{two_word}
use Rattle.sp_core.specs.PlainCore.{PlainOp, PlainCounter, PlainCore}
use Rattle.sp_core.specs.Scope.{plainly, Scope}
use Rattle.sp_core.specs.Sequential.{has_reset, renew_in_body}
use Rattle.sp_core.specs.Step.{Step, went, pure, in_order}
use Rattle.sp_core.specs.Store.{Store}
use Rattle.sp_core.specs.Typed.{gives}
use Rattle.sp_fitting.specs.Fitting.{StoreFits, EntriesFit, MasksAreBits}
use Rattle.sp_fitting.specs.Laws.{ListsFit, WordsFit}
use Rattle.sp_fitting.proofs.Contents.{fresh_fits}
use Rattle.sp_fitting.proofs.Keeping.{Keeps, Anything, pure_keeps, each_keeps, hold_keeps}
use Rattle.sp_fitting.proofs.Lists.{typed_at, out_of_memory}
use Rattle.sp_sugar.specs.Combination.{operator_of}
use Rattle.sp_lanes.specs.Bodies.{Body, lane_bodies, all_ops}
use Rattle.sp_lanes.specs.Combined.{first_place, combined}
use Rattle.sp_lanes.specs.Joined.{Round, is_balanced}
use Rattle.sp_lanes.specs.Order.{memory_order}
use Rattle.sp_lanes.specs.Unrolled.{unrolled, last_number, owned_in_lanes, ops_in_lanes}
use Rattle.sp_lanes.specs.Within.{Within, in_lane}
use Rattle.sp_lane_rules.specs.UnrolledMeetings.{given_of}
use Rattle.sp_lane_rules.proofs.UnrolledGivens.{given_length}
use Rattle.sp_lane_groups.specs.LiveStores.{HoldAlike, ArePlain}
use Rattle.sp_lane_groups.proofs.LiveAccesses.{Same, same_declared}
use Rattle.sp_lane_groups.proofs.LiveCopies.{copies_apart}
use Rattle.sp_lane_groups.specs.Groups.{iteration, lanes_from, EachMasked, IsGroup, LeavesOutside}
use Rattle.sp_lane_groups.specs.Waiting.{ResetsFirst, waits_in}
use Rattle.sp_lane_groups.proofs.Apart.{out_number, in_usable}
use Rattle.sp_lane_groups.proofs.Masked.{groups_masked}
use Rattle.sp_lane_groups.proofs.Renewed.{bind_known, bind_split, order_split, order_none}
use Rattle.sp_lane_groups.proofs.RunsWhole.{runs_append, run_long}
use Rattle.sp_lane_groups.specs.WordsStanding.{LanesStand}
use Rattle.sp_lane_groups.proofs.WordsGroup.{words_go}
use Rattle.sp_lane_groups.specs.JoinedWords.{in_turn, words_of, EachHasWord}
use Rattle.sp_lane_groups.proofs.JoinedBalanced.{Laws, is_grouped, is_closed}
use Rattle.sp_lane_groups.proofs.JoinedTurns.{AllAre, turn_grouped}
use Rattle.sp_lane_groups.proofs.JoinedWhole.{words_join}
use Rattle.sp_lane_trees.proofs.CombinationsArranged.{ordered_is}
use Rattle.sp_lane_trees.proofs.CombinationsChain.{body, Asks, Chained, Accumulated, FlagsAreBits, IsBit, chained}
use Rattle.sp_lane_trees.proofs.CombinationsCombining.{after_word, combining, Holds, combined_in, builds}
use Rattle.sp_lane_trees.proofs.CombinationsCopies.{Alike, holds_alike, put_alike, left_acc, left_flag, left_other}
use Rattle.sp_lane_trees.proofs.CombinationsMoved.{joined_at, combined_is, laned_is}
use Rattle.sp_lane_trees.proofs.CombinationsOrdered.{HaveWords, builds_in_order}
use Rattle.sp_lane_trees.proofs.CombinationsRegisters.{ReadsAs, put_in}
use Rattle.sp_lane_trees.proofs.CombinationsRights.{plain_front, resets_front, masks_back, right_parts, word_fits, IsRegister, register_usable, CombinesRight, combines_right}

-- the entries of each iteration fit
abbrev EachFits : List PlainOp → List (List Entry) → Type 0
EachFits ops [] = Unit {0}
EachFits ops (g ∷ groups) = EntriesFit ops g × EachFits ops groups

module _ (core : PlainCore) (lists : ListsFit core) (memories : are_memories_right core ≡ true) where
  renewing_keeps : (m : ℕ) → Keeps core Anything (renew_in_body core plainly 0 m)
  renewing_keeps m = go (has_reset (mem core m).kind (mem core m).start)
    where
      go : (b : Bool) → Keeps core Anything (elim b as (λ _. Step (Unit {0})) [ true ↦ pure tt | false ↦ hold_now m (fresh core m) ])
      go true = pure_keeps core Anything tt tt
      go false = hold_keeps core m (fresh core m) (fresh_fits core m memories)

  all_fit : (around : Around) (plain : ℕ → Scope) (owned : List ℕ) (ops : List PlainOp) → are_operations_right core around ops ≡ true → (count l : ℕ) (s after : Store) (groups : List (List Entry)) → StoreFits core s
      → in_order (λ l. iteration core (plain l) owned ops) (lanes_from l count) s ≡ went groups after → EachFits ops groups
  all_fit around plain owned ops right zero l s after groups fits ran = subst (EachFits ops) (order_none (λ l. iteration core (plain l) owned ops) s after groups ran).1 tt
  all_fit around plain owned ops right (suc count) l s after groups fits ran =
      let r = order_split (λ l. iteration core (plain l) owned ops) l (lanes_from (suc l) count) s after groups ran in
      let b = bind_split (in_order (renew_in_body core plainly 0) owned) (λ _. operations core (plain l) ops) s r.1 r.0 r.3 in
      let renewed = each_keeps core (renew_in_body core plainly 0) Anything renewing_keeps owned s b.1 b.0 fits b.2 in
      let here = lists around (plain l) ops b.1 r.1 r.0 memories right renewed.0 b.3 in
      subst (EachFits ops) r.5 (here.entries, all_fit around plain owned ops right count (suc l) r.1 after r.2 here.left r.4)

fits_long : (ops : List PlainOp) (es : List Entry) → EntriesFit ops es → length es ≡ length ops
fits_long [] [] h = refl
fits_long [] (e ∷ es) h = absurd h
fits_long (op ∷ ops) [] h = absurd h
fits_long (op ∷ ops) (e ∷ es) h = ap suc (fits_long ops es h.1)

pub have_words : (ops : List PlainOp) (word : ℕ) (ty : Ty) → word < length ops → gives (given_of ops) word ty ≡ true → (groups : List (List Entry)) → EachFits ops groups → EachHasWord ty word groups
have_words ops word ty lt given [] h = tt
have_words ops word ty lt given (g ∷ groups) h = (let long = fits_long ops g h.0 in omega (arith, long, lt), word_fits ops g word ty h.0 given, have_words ops word ty lt given groups h.1)

are_words : (ty : Ty) (word : ℕ) (groups : List (List Entry)) → EachHasWord ty word groups → AllAre (IsWord ty) (words_of word groups)
are_words ty word [] h = tt
are_words ty word (g ∷ groups) h = (h.1, are_words ty word groups h.2)

words_alone : (ty : Ty) (word : ℕ) (groups : List (List Entry)) → EachHasWord ty word groups → HaveWords word groups
words_alone ty word [] h = tt
words_alone ty word (g ∷ groups) h = (h.0, words_alone ty word groups h.2)

module _ (core : PlainCore) (lists : ListsFit core) (fitting : WordsFit core) (laws : Laws) (memories : are_memories_right core ≡ true)
    (around inside : Around) (w : Within) (counters : List PlainCounter) (owned : List ℕ) (plain : ℕ → Scope) (lanes : Scope) (count : ℕ) (g : IsGroup core around inside w counters owned plain lanes count) (several : (lanes_of counters == 1) ≡ false)
    (before : List PlainOp) (begun : Option ℕ) (at word acc : ℕ) (ty : Ty) (comb : Comb) (is : ℕ → Bool) (asks : Asks core plain owned before begun at word acc ty comb is)
    (p : ArePlain (before ++ combining begun at word acc ty comb)) (right : are_operations_right core (within around counters owned) (before ++ combining begun at word acc ty comb) ≡ true)
    (acc_out : is_among acc owned ≡ false) (flag_out : (b : ℕ) → begun ≡ Some b → is_among b owned ≡ false) where
  abbrev place : Around
  place = within around counters owned

  abbrev all : List PlainOp
  all = before ++ combining begun at word acc ty comb

  pub parts : (are_operations_right core place before ≡ true) × CombinesRight core place (given_of before) begun word acc ty
  parts =
      let r = right_parts core place [] before (combining begun at word acc ty comb) right in
      (r.0, combines_right core place (given_of before) begun at word acc ty comb (let lt = asks.earlier in let same = asks.place in omega (arith, lt, same, given_length before)) r.1)

  abbrev lane0 : Within
  lane0 = in_lane (memory_order core) counters owned w 0

  -- the memories of the combination may be used outside, and have copies there
  usable_out : (t : Ty) (m : ℕ) → IsRegister core place t m → is_among m owned ≡ false → is_usable core around m ≡ true
  usable_out t m h o = in_usable core around inside w counters owned plain lanes count g m (register_usable core place t m h) o

  pub acc_usable : is_usable core around acc ≡ true
  acc_usable = usable_out ty acc parts.1.accumulator acc_out

  pub flag_usable : (b : ℕ) → begun ≡ Some b → is_usable core around b ≡ true
  flag_usable b e = usable_out Bit b (parts.1.flag b e) (flag_out b e)

  zero_lane : 0 < lanes_of counters
  zero_lane = let some = g.some in let most = g.most in omega (arith, some, most)

  alike_at : (t : Ty) (m : ℕ) → IsRegister core place t m → is_among m owned ≡ false → Alike core (unrolled core) m (w.number m)
  alike_at t m h o =
      let u : is_usable core place m ≡ true = register_usable core place t m h in
      let there = (g.together 0 zero_lane).memories m u in
      let same : Same core (unrolled core) m (lane0.number m) = same_declared core (unrolled core) place inside m (lane0.number m) u there.0 there.1 (g.rooms 0 zero_lane m u) in
      let number : lane0.number m ≡ w.number m = out_number core around inside w counters owned plain lanes count g 0 m o in
      record { kinds = ap (kind_of (unrolled core)) (sym number) ∙ same.kinds; sizes = ap (dims (unrolled core)) (sym number) ∙ same.sizes }

  pub acc_alike : Alike core (unrolled core) acc (w.number acc)
  acc_alike = alike_at ty acc parts.1.accumulator acc_out

  pub flag_alike : (b : ℕ) → begun ≡ Some b → Alike core (unrolled core) b (w.number b)
  flag_alike b e = alike_at Bit b (parts.1.flag b e) (flag_out b e)

  -- different memories have different copies
  pub copies_differ : (m k : ℕ) → is_usable core around m ≡ true → is_usable core around k ≡ true → (m ≡ k → ⊥) → w.number m ≡ w.number k → ⊥
  copies_differ m k u v ne e = ne (copies_apart core around w g.copies m k u v e)

  abbrev bodies_in_lanes : List Body
  bodies_in_lanes = lane_bodies (last_number counters) (in_lane (memory_order core) counters owned w) before owned (lanes_of counters)

  -- the combination in lanes
  abbrev begun_there : Option ℕ
  begun_there = option_map w.number begun

  begun_same : (o : Option ℕ) → ((b : ℕ) → o ≡ Some b → is_among b owned ≡ false) → option_map lane0.number o ≡ option_map w.number o
  begun_same None h = refl
  begun_same (Some b) h = ap Some (out_number core around inside w counters owned plain lanes count g 0 b (h b refl))

  abbrev lane_ops : List PlainOp
  lane_ops = ops_in_lanes (memory_order core) w counters owned all (Some at)

  abbrev joined : List Entry → Round
  joined es = joined_at (last_number counters) at bodies_in_lanes begun word acc ty comb (length es)

  abbrev last_part : List Entry → List PlainOp
  last_part es = combining begun_there (length es + length (joined es).ops) (first_place (joined es).words) (w.number acc) ty comb

  pub lane_ops_are : lane_ops ≡ all_ops bodies_in_lanes ++ combined (last_number counters) at bodies_in_lanes (combining begun_there at word (w.number acc) ty comb)
  lane_ops_are =
      laned_is (last_number counters) (in_lane (memory_order core) counters owned w) owned (lanes_of counters) at before begun word acc ty comb asks.place
      ∙ ap (λ o. all_ops bodies_in_lanes ++ combined (last_number counters) at bodies_in_lanes (combining o at word (lane0.number acc) ty comb)) (begun_same begun flag_out)
      ∙ ap (λ n. all_ops bodies_in_lanes ++ combined (last_number counters) at bodies_in_lanes (combining begun_there at word n ty comb)) (out_number core around inside w counters owned plain lanes count g 0 acc acc_out)

  abbrev all_owned : List ℕ
  all_owned = owned_in_lanes (memory_order core) counters owned w

  abbrev Went : (t after : Store) → Type 0
  Went t after =
      (es : List Entry) × (ended : Store) × (iteration (unrolled core) lanes all_owned lane_ops t ≡ went es ended) × HoldAlike core around w after ended × LeavesOutside core around w counters owned t ended

  -- the accumulator's word fits
  held_fits : is_balanced (operator_of comb) ty ≡ true → (s : Store) (held : Option ℕ) → StoreFits core s → (o : Option ℕ) → Holds core o acc s held → (v : ℕ) (vs : List ℕ) → IsWord ty v → AllAre (IsWord ty) vs
      → after_word (two_word (operator_of comb) ty) held (in_turn (two_word (operator_of comb) ty) v vs) ≡ in_turn (two_word (operator_of comb) ty) (after_word (two_word (operator_of comb) ty) held v) vs
  held_fits balanced s None fits o h v vs i k = refl
  held_fits balanced s (Some a) fits o h v vs i k =
      turn_grouped (IsWord ty) (two_word (operator_of comb) ty) (is_closed laws (operator_of comb) ty balanced) (is_grouped laws (operator_of comb) ty balanced) a v vs (fit o h) i k
    where
      from_read : ReadsAs core acc (s acc) a → IsWord ty a
      from_read r = out_of_memory core place ty acc a (typed_at core place Read ty acc parts.1.accumulator.read) (fitting s acc [] a fits r.1)

      fit : (o : Option ℕ) → Holds core o acc s (Some a) → IsWord ty a
      fit None r = from_read r
      fit (Some b) r = from_read r.1

  abbrev chain_of : ℕ → ℕ → Store → Store → Store → Type 0
  chain_of k l s t after = Chained core plain owned before begun at word acc ty comb is asks k l s t after

  not_is : (m : ℕ) → (is m ≡ true → ⊥) → is m ≡ false
  not_is m h = by (is m) refl
    where
      by : (b : Bool) → is m ≡ b → b ≡ false
      by true i = absurd (h i)
      by false i = refl

  -- what may be used holds after the combination what it does in the core
  abbrev Left : (x : ℕ) → (s after : Store) → Type 0
  Left x s after = (after acc ≡ Some (put_in core acc x (s acc))) × ((b : ℕ) → begun ≡ Some b → after b ≡ Some (put_in core b 1 (s b)))

  at_others : (s after between : Store) (x : ℕ) (c : chain_of count 0 s s after) → HoldAlike core around w c.ended between → (m : ℕ) → is_usable core around m ≡ true → (m ≡ acc → ⊥) → ((b : ℕ) → begun ≡ Some b → m ≡ b → ⊥)
      → combined_in (unrolled core) begun_there (w.number acc) x between (w.number m) ≡ after m
  at_others s after between x c alike m u ne far =
      left_other core (unrolled core) w.number begun acc x between (w.number m) (copies_differ m acc u acc_usable ne) (λ b e. copies_differ m b u (flag_usable b e) (far b e))
      ∙ alike m u ∙ c.agree m (asks.all m ne far)

  at_memory : (s after between : Store) (x : ℕ) (c : chain_of count 0 s s after) → HoldAlike core around w c.ended between → Left x s after → between (w.number acc) ≡ s acc → ((b : ℕ) → begun ≡ Some b → between (w.number b) ≡ s b)
      → ((b : ℕ) → begun ≡ Some b → w.number acc ≡ w.number b → ⊥) → (m : ℕ) → is_usable core around m ≡ true → combined_in (unrolled core) begun_there (w.number acc) x between (w.number m) ≡ after m
  at_memory s after between x c alike left acc_there flag_there far m u = elim (eqb_tells m acc) [
    | inl same ↦ subst (λ k. combined_in (unrolled core) begun_there (w.number acc) x between (w.number k) ≡ after k) (sym same.1)
        (left_acc core (unrolled core) w.number begun acc x between far ∙ ap (λ c. Some (put_in (unrolled core) (w.number acc) x c)) acc_there ∙ ap Some (put_alike core (unrolled core) acc (w.number acc) acc_alike x (s acc)) ∙ sym left.0)
    | inr apart ↦ by begun refl apart.1
  ]
    where
      at_flag : (b : ℕ) → begun ≡ Some b → combined_in (unrolled core) begun_there (w.number acc) x between (w.number b) ≡ after b
      at_flag b e =
          left_flag core (unrolled core) w.number begun acc x between far b e ∙ ap (λ c. Some (put_in (unrolled core) (w.number b) 1 c)) (flag_there b e)
          ∙ ap Some (put_alike core (unrolled core) b (w.number b) (flag_alike b e) 1 (s b)) ∙ sym (left.1 b e)

      by : (o : Option ℕ) → begun ≡ o → (m ≡ acc → ⊥) → combined_in (unrolled core) begun_there (w.number acc) x between (w.number m) ≡ after m
      by None e ne = at_others s after between x c alike m u ne (λ b f. absurd (nothing b (sym e ∙ f)))
        where
          nothing : (b : ℕ) → ◌≡◌ {A = Option ℕ} None (Some b) → ⊥
          nothing b i = cc
      by (Some y) e ne = elim (eqb_tells m y) [
        | inl same ↦ subst (λ k. combined_in (unrolled core) begun_there (w.number acc) x between (w.number k) ≡ after k) (sym same.1) (at_flag y e)
        | inr apart ↦ at_others s after between x c alike m u ne (λ b f i. apart.1 (i ∙ only b (sym f ∙ e)))
      ]
        where
          only : (b : ℕ) → Some b ≡ Some y → b ≡ y
          only b i = cc

  abbrev op : ℕ → ℕ → ℕ
  op = two_word (operator_of comb) ty

  -- the combination in lanes leaves the words of all lanes, combined in order
  abbrev Leaves : (done : List Entry) (between : Store) (x : ℕ) → Type 0
  Leaves done between x =
      (fs : List Entry) × (operations_after (unrolled core) lanes done (combined (last_number counters) at bodies_in_lanes (combining begun_there at word (w.number acc) ty comb)) between
      ≡ went fs (combined_in (unrolled core) begun_there (w.number acc) x between))

  pub combine : (s : Store) → StoreFits core s → (done : List Entry) (between : Store) (v : List Entry) (vs : List (List Entry)) → LanesStand (lanes (last_number counters)).live done 0 bodies_in_lanes (v ∷ vs) → EachHasWord ty word (v ∷ vs)
      → length done ≡ length (all_ops bodies_in_lanes) → (held : Option ℕ) → Holds core begun acc s held → Holds (unrolled core) begun_there (w.number acc) between held → (b : Bool) → is_balanced (operator_of comb) ty ≡ b
      → Leaves done between (in_turn op (after_word op held (word_at v word)) (words_of word vs))
  combine s fits done between v vs stand has long held here holds true balanced =
      let j = words_join (unrolled core) laws lanes (last_number counters) (operator_of comb) ty word balanced done bodies_in_lanes v vs between stand has in
      let longer : length done + length (joined done).ops ≡ length (done ++ j.0) = (let n = run_long (unrolled core) lanes (joined done).ops done between (done ++ j.0) between j.1 in omega (arith, n)) in
      let last = builds (unrolled core) lanes ty comb (length done + length (joined done).ops) (first_place (joined done).words) (w.number acc) (done ++ j.0) longer (let lt = j.2 in omega (arith, lt, longer)) begun_there held between holds in (
        last.0,
        ap (λ xs. operations_after (unrolled core) lanes done xs between) (combined_is (last_number counters) at bodies_in_lanes begun_there word (w.number acc) ty comb (length done) long balanced asks.earlier)
            ∙ runs_append (unrolled core) lanes (joined done).ops (last_part done) done (done ++ j.0) between between j.1 ∙ last.1
            ∙ ap (λ x. went last.0 (combined_in (unrolled core) begun_there (w.number acc) x between))
            (ap (after_word op held) j.3 ∙ held_fits balanced s held fits begun here (word_at v word) (words_of word vs) has.1 (are_words ty word vs has.2)),
      )
  combine s fits done between v vs stand has long held here holds false balanced =
      let x = builds_in_order (unrolled core) lanes (last_number counters) ty comb word bodies_in_lanes v vs (w.number acc) done between stand (words_alone ty word (v ∷ vs) has) begun_there held holds in
      (x.0, ap (λ xs. operations_after (unrolled core) lanes done xs between) (ordered_is (last_number counters) ty comb at bodies_in_lanes word (w.number acc) asks.earlier begun_there (length done) long balanced) ∙ x.1)

  -- from what the bodies do and what the combinations leave
  from_words : (s t after : Store) → StoreFits core s → (c : chain_of count 0 s s after) (v : List Entry) (vs : List (List Entry)) → v ∷ vs ≡ c.bodies
      → (done : List Entry) (between : Store) → iteration (unrolled core) lanes all_owned (all_ops bodies_in_lanes) t ≡ went done between → HoldAlike core around w c.ended between → LeavesOutside core around w counters owned t between
      → LanesStand (lanes (last_number counters)).live done 0 bodies_in_lanes (v ∷ vs) → EachHasWord ty word (v ∷ vs) → Went t after
  from_words s t after fits c v vs same done between ran alike leaves stand has =
      let left : Accumulated core plain owned before begun at word acc ty comb is asks s after (words_of word (v ∷ vs)) = subst (λ bs. Accumulated core plain owned before begun at word acc ty comb is asks s after (words_of word bs)) (sym same) c.left in
      let held : Option ℕ = left.0 in
      let acc_there : between (w.number acc) ≡ s acc = alike acc acc_usable ∙ c.kept acc (not_is acc (λ i. (asks.other acc i).0 refl)) in
      let flag_there : (b : ℕ) → begun ≡ Some b → between (w.number b) ≡ s b = λ b e. alike b (flag_usable b e) ∙ c.kept b (not_is b (λ i. (asks.other b i).1 b e refl)) in
      let holds : Holds (unrolled core) begun_there (w.number acc) between held = holds_alike core (unrolled core) w.number begun acc acc_alike flag_alike s between acc_there flag_there held left.1 in
      let b = bind_split (in_order (renew_in_body (unrolled core) plainly 0) all_owned) (λ _. operations (unrolled core) lanes (all_ops bodies_in_lanes)) t between done ran in
      let long : length done ≡ length (all_ops bodies_in_lanes) = (let n = run_long (unrolled core) lanes (all_ops bodies_in_lanes) [] b.1 done between b.3 in omega (arith, n)) in
      let value : ℕ = in_turn op (after_word op held (word_at v word)) (words_of word vs) in
      let last : Leaves done between value = combine s fits done between v vs stand has long held left.1 holds (is_balanced (operator_of comb) ty) refl in
      let far : (b : ℕ) → begun ≡ Some b → w.number acc ≡ w.number b → ⊥ = λ b e. copies_differ acc b acc_usable (flag_usable b e) (asks.apart b e) in (
        last.0,
        combined_in (unrolled core) begun_there (w.number acc) value between,
        bind_known (in_order (renew_in_body (unrolled core) plainly 0) all_owned) (λ _. operations (unrolled core) lanes lane_ops) t b.1 b.0 b.2
            ∙ ap (λ xs. operations (unrolled core) lanes xs b.1) lane_ops_are
            ∙ runs_append (unrolled core) lanes (all_ops bodies_in_lanes) (combined (last_number counters) at bodies_in_lanes (combining begun_there at word (w.number acc) ty comb)) [] done b.1 between b.3
            ∙ last.1,
        (λ m u. at_memory s after between value c alike left.2 acc_there flag_there far m u),
        (λ n outer own. left_other core (unrolled core) w.number begun acc value between n (λ i. outer acc acc_usable (sym i)) (λ b e i. outer b (flag_usable b e) (sym i)) ∙ leaves n outer own),
      )

  flags : (groups : List (List Entry)) → EachMasked all groups → FlagsAreBits core plain owned before begun at word acc ty comb is asks groups
  flags [] h = tt
  flags (g ∷ groups) h = (bit begun (masks_back before (combining begun at word acc ty comb) g h.0), flags groups h.1)
    where
      bit : (o : Option ℕ) → MasksAreBits (combining o at word acc ty comb) g → IsBit core plain owned before begun at word acc ty comb o g
      bit None k = tt
      bit (Some b) k = k.1.0 at refl

  some_body : (k : ℕ) → 1 ≤ k → (s ended : Store) (bodies : List (List Entry)) → in_order (body core plain owned before begun at word acc ty comb) (lanes_from 0 k) s ≡ went bodies ended → (v : List Entry) × (vs : List (List Entry)) × (v ∷ vs ≡ bodies)
  some_body zero some s ended bodies ran = absurd (omega (arith, some))
  some_body (suc k) some s ended bodies ran = let r = order_split (body core plain owned before begun at word acc ty comb) 0 (lanes_from 1 k) s ended bodies ran in (r.0, r.2, r.5)

  pub combined_goes : ResetsFirst (waits_in core owned) all → (s t after : Store) (groups : List (List Entry)) → StoreFits core s → HoldAlike core around w s t → in_order (λ l. iteration core (plain l) owned all) (lanes_from 0 count) s ≡ went groups after → EachMasked all groups → Went t after
  combined_goes resets s t after groups fits alike ran bits =
      let c : chain_of count 0 s s after = chained core plain owned before begun at word acc ty comb is asks count 0 s s after groups (flags groups bits) (λ m i. refl) ran in
      let masked = groups_masked core lists place plain owned before count s c.ended c.bodies memories parts.0 fits c.ran in
      let x = words_go core around inside w counters owned plain lanes count g several before s t c.ended c.bodies (plain_front before (combining begun at word acc ty comb) p) parts.0 (resets_front before (combining begun at word acc ty comb) (waits_in core owned) resets) alike c.ran masked.0 in
      let v = some_body count g.some s c.ended c.bodies c.ran in
      let has : EachHasWord ty word c.bodies = have_words before word ty (let lt = asks.earlier in let same = asks.place in omega (arith, lt, same)) parts.1.given c.bodies (all_fit core lists memories place plain owned before parts.0 count 0 s c.ended c.bodies fits c.ran) in
      from_words s t after fits c v.0 v.1 v.2 x.0 x.1 x.2 x.3 x.4 (subst (LanesStand (lanes (last_number counters)).live x.0 0 bodies_in_lanes) (sym v.2) x.5) (subst (EachHasWord ty word) (sym v.2) has)
