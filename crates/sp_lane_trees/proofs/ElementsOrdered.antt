-- The combination of an element after the words of lanes: in a tree, or one word after the other.
use Rattle.std.proofs.Common.{◌≡◌, ℕ, suc, ◌+◌, ◌<◌, Bool, true, false, List, [], ◌∷◌, ◌++◌, length, Option, Some, None, refl, sym, ◌∙◌, ap, subst, arith}
use Rattle.std.proofs.lemmas.List.{append_assoc, length-append}
use Rattle.std.specs.Prelude.{slice_index}
use Rattle.sp_words.specs.declared.types.Ty.{Ty}
use Rattle.sp_words.specs.Words.{IsWord}
use Rattle.sp_tree.specs.declared.statement.Comb.{Comb}
use Rattle.sp_tree.specs.PlainProgram.{PlainMem}
use Rattle.sp_core.specs.History.{Entry, word_at}
use Rattle.sp_core.specs.Operations.{operations_after}
use Rattle.sp_core.specs.Operators.{two_word}
use Rattle.sp_core.specs.PlainCore.{PlainOp, PlainCore}
use Rattle.sp_core.specs.Scope.{Scope}
use Rattle.sp_core.specs.Step.{went}
use Rattle.sp_core.specs.Store.{Store}
use Rattle.sp_sugar.specs.Combination.{operator_of}
use Rattle.sp_lanes.specs.Bodies.{Body, all_ops}
use Rattle.sp_lanes.specs.Combined.{first_place, combined}
use Rattle.sp_lanes.specs.Joined.{LaneWord, Round, is_balanced, lane_words}
use Rattle.sp_lane_groups.proofs.JoinedBalanced.{Laws, is_grouped, is_closed}
use Rattle.sp_lane_groups.proofs.JoinedTurns.{AllAre, turn_grouped}
use Rattle.sp_lane_groups.proofs.JoinedWhole.{words_join}
use Rattle.sp_lane_groups.proofs.RunsWhole.{runs_append, run_long}
use Rattle.sp_lane_groups.proofs.WordsMasks.{lanes_more}
use Rattle.sp_lane_groups.specs.WordsStanding.{LanesStand}
use Rattle.sp_lane_groups.specs.JoinedWords.{in_turn, words_of, EachHasWord}
use Rattle.sp_lane_trees.proofs.CombinationsCombining.{after_word}
use Rattle.sp_lane_trees.proofs.CombinationsOrdered.{HaveWords, Met, meets_all}
use Rattle.sp_lane_trees.proofs.ElementsAccesses.{HoldsAt, written_at}
use Rattle.sp_lane_trees.proofs.ElementsForms.{reads, chooses, writes, element}
use Rattle.sp_lane_trees.proofs.ElementsPlaced.{combined_is, ordered_is, in_order_ops, met, stands, joined_at}
use Rattle.sp_lane_trees.proofs.ElementsRuns.{count_words, is_last, Front, front_held, has_element, has_flag, writes_run, element_builds}

module _ (core : PlainCore) (scope : Scope) (mems : List PlainMem) (c : ℕ) (dims : List ℕ) (ty : Ty) (comb : Comb) (acc begun counter first : ℕ) (word : ℕ) (lt : word < first) where
  abbrev n : ℕ
  n = length dims

  abbrev op : ℕ → ℕ → ℕ
  op = two_word (operator_of comb) ty

  abbrev ws : List ℕ
  ws = count_words scope c n

  -- what an element leaves where so many words are combined with it in order
  abbrev pub Leaves : (bodies : List Body) (es : List Entry) (t : Store) (x : ℕ) → Type 0
  Leaves bodies es t x =
      (fs : List Entry) × (operations_after core scope es (combined counter first bodies (element mems c dims ty comb first word acc begun)) t ≡ went fs (written_at core begun acc ws (is_last scope c dims) x t))

  plus_four : (k : ℕ) → k + n + 4 ≡ suc (k + n + 3)
  plus_four k = omega arith

  in_order : (b : Body) (bodies : List Body) (g : List Entry) (groups : List (List Entry)) (es : List Entry) (t : Store) → LanesStand (scope counter).live es 0 (b ∷ bodies) (g ∷ groups) → HaveWords word (g ∷ groups)
      → (held : Option ℕ) → HoldsAt core begun acc ws t held
      → (fs : List Entry) × (operations_after core scope es (in_order_ops mems c dims ty comb counter first (b ∷ bodies) word acc begun lt (length es) acc begun) t
      ≡ went fs (written_at core begun acc ws (is_last scope c dims) (in_turn op (after_word op held (word_at g word)) (words_of word groups)) t))
  in_order b bodies g groups es t stand has held h =
      let at : ℕ = length es in
      let to : ℕ = slice_index b.places word in
      let there : (to < length es) × (word_at es to ≡ word_at g word) = stand.2.1 word has.0 in
      let others : List LaneWord = lane_words 1 word bodies in
      let met_ops : ℕ → List PlainOp = λ k. met mems c dims ty comb counter first (b ∷ bodies) word acc begun lt k (at + n + 3) others in
      let last : ℕ = stands mems c dims ty comb counter first (b ∷ bodies) word acc begun lt at in
      let tail : List PlainOp = writes mems c dims ty comb (last + 1) last acc begun in
      let v : ℕ = after_word op held (word_at es to) in
      let value : ℕ = in_turn op v (words_of word groups) in
      let f : Front core scope mems c dims ty comb acc begun at to es refl there.0 (met_ops (at + n + 4) ++ tail) t v = front_held core scope mems c dims ty comb acc begun at to es refl there.0 (met_ops (at + n + 4) ++ tail) held t h in
      let stand_there : LanesStand (scope counter).live f.done 1 bodies groups = subst (λ d. LanesStand (scope counter).live d 1 bodies groups) (sym f.grown) (lanes_more (scope counter).live es f.new 1 bodies groups stand.3) in
      let x : Met core scope counter ty comb word (at + n + 3) others f.done t value =
      meets_all core scope counter ty comb word bodies groups 1 (at + n + 3) v f.done t (sym (plus_four at) ∙ sym f.long) (ap (word_at f.done) {x = at + n + 3} {y = at + n + 3} refl ∙ f.word_there) stand_there has.1 in
      let same : met_ops (at + n + 4) ≡ met_ops (suc (at + n + 3)) = ap met_ops (plus_four at) in
      let count : length (met_ops (at + n + 4)) ≡ length x.new = ap (λ (xs : List PlainOp). length xs) same ∙ sym x.long in
      let done : List Entry = f.done ++ x.new in
      let long : last + 1 ≡ length done = ends (length f.done) (length x.new) at (length (met_ops (at + n + 4))) f.long count (length-append f.done x.new) in
      let z = writes_run core scope mems c dims ty comb acc begun (last + 1) last value done t long (omega arith) (ap (λ k. word_at done (at + n + 3 + k)) count ∙ x.word_there)
      (has_element core scope mems c dims ty comb acc begun at to es refl there.0 t held h) (has_flag core scope mems c dims ty comb acc begun at to es refl there.0 t held h) in (
        z.0,
        ap (λ l. operations_after core scope es l t) (append_assoc (reads mems c dims ty comb at to acc begun ++ chooses mems c dims ty comb at to ∷ []) (met_ops (at + n + 4)) tail
            ∙ append_assoc (reads mems c dims ty comb at to acc begun) (chooses mems c dims ty comb at to ∷ []) (met_ops (at + n + 4) ++ tail))
            ∙ f.ran
            ∙ ap (λ l. operations_after core scope f.done (l ++ tail) t) same
            ∙ runs_append core scope (met_ops (suc (at + n + 3))) tail f.done done t t x.ran
            ∙ z.1
            ∙ ap (λ y. went z.0 (written_at core begun acc ws (is_last scope c dims) (in_turn op (after_word op held y) (words_of word groups)) t)) there.1,
      )
    where
      ends : (d k at m : ℕ) → d ≡ at + n + 4 → m ≡ k → {total : ℕ} → total ≡ d + k → at + n + 3 + m + 1 ≡ total
      ends d k at m e f g = omega (arith, e, f, g)

  are_words : (groups : List (List Entry)) → EachHasWord ty word groups → AllAre (IsWord ty) (words_of word groups)
  are_words [] h = tt
  are_words (g ∷ groups) h = (h.1, are_words groups h.2)

  words_alone : (groups : List (List Entry)) → EachHasWord ty word groups → HaveWords word groups
  words_alone [] h = tt
  words_alone (g ∷ groups) h = (h.0, words_alone groups h.2)

  -- whatever the operator is, where the word that the accumulator holds fits
  pub combine : Laws → (bodies : List Body) (g : List Entry) (groups : List (List Entry)) (es : List Entry) (t : Store) → LanesStand (scope counter).live es 0 bodies (g ∷ groups) → EachHasWord ty word (g ∷ groups) → length es ≡ length (all_ops bodies)
      → (held : Option ℕ) → ((a : ℕ) → held ≡ Some a → IsWord ty a) → HoldsAt core begun acc ws t held → (b : Bool) → is_balanced (operator_of comb) ty ≡ b
      → Leaves bodies es t (in_turn op (after_word op held (word_at g word)) (words_of word groups))
  combine laws [] g groups es t stand has long held fit h b balanced = absurd stand
  combine laws (b ∷ bodies) g groups es t stand has long held fit h true balanced =
      let j = words_join core laws scope counter (operator_of comb) ty word balanced es (b ∷ bodies) g groups t stand has in
      let joined : Round = joined_at mems c dims ty comb counter first (b ∷ bodies) word acc begun lt (length es) in
      let longer : length es + length joined.ops ≡ length (es ++ j.0) = (let k = run_long core scope joined.ops es t (es ++ j.0) t j.1 in omega (arith, k)) in
      let last = element_builds core scope mems c dims ty comb acc begun (length es + length joined.ops) (first_place joined.words) (es ++ j.0) longer (let l = j.2 in omega (arith, l, longer)) held t h in (
        last.0,
        ap (λ xs. operations_after core scope es xs t) (combined_is mems c dims ty comb counter first (b ∷ bodies) word acc begun lt (length es) long balanced)
            ∙ runs_append core scope joined.ops (element mems c dims ty comb (length es + length joined.ops) (first_place joined.words) acc begun) es (es ++ j.0) t t j.1 ∙ last.1
            ∙ ap (λ x. went last.0 (written_at core begun acc ws (is_last scope c dims) x t)) (ap (after_word op held) j.3 ∙ grouped held fit),
      )
    where
      grouped : (o : Option ℕ) → ((a : ℕ) → o ≡ Some a → IsWord ty a) → after_word op o (in_turn op (word_at g word) (words_of word groups)) ≡ in_turn op (after_word op o (word_at g word)) (words_of word groups)
      grouped None k = refl
      grouped (Some a) k = turn_grouped (IsWord ty) op (is_closed laws (operator_of comb) ty balanced) (is_grouped laws (operator_of comb) ty balanced) a (word_at g word) (words_of word groups) (k a refl) has.1 (are_words groups has.2)
  combine laws (b ∷ bodies) g groups es t stand has long held fit h false balanced =
      let x = in_order b bodies g groups es t stand (words_alone (g ∷ groups) has) held h in
      (x.0, ap (λ xs. operations_after core scope es xs t) (ordered_is mems c dims ty comb counter first (b ∷ bodies) word acc begun lt (length es) long balanced) ∙ x.1)
