-- Words of lanes that meet the accumulator one after the other.
use Rattle.std.proofs.Common.{◌≡◌, ℕ, suc, ◌+◌, ◌<◌, List, [], ◌∷◌, ◌++◌, length, Option, Some, None, refl, sym, ◌∙◌, ap, subst, arith}
use Rattle.std.proofs.lemmas.List.{append_assoc, length-append}
use Rattle.std.specs.Prelude.{slice_index}
use Rattle.sp_words.specs.declared.types.Ty.{Ty}
use Rattle.sp_words.specs.declared.types.Ty.TheVariants.{Bit}
use Rattle.sp_tree.specs.declared.statement.Comb.{Comb}
use Rattle.sp_core.specs.declared.operation.OpKind.TheVariants.{Two, Mux}
use Rattle.sp_core.specs.History.{Entry, left_out, gave, touched, word_at}
use Rattle.sp_core.specs.Operations.{operations_after}
use Rattle.sp_core.specs.Operators.{two_word, chosen}
use Rattle.sp_core.specs.PlainCore.{PlainOp, PlainCore}
use Rattle.sp_core.specs.Scope.{Scope}
use Rattle.sp_core.specs.Step.{went}
use Rattle.sp_core.specs.Store.{Store}
use Rattle.sp_sugar.specs.Combination.{operator_of}
use Rattle.sp_sugar.specs.Operations.{computes, read_op, write_op, literal_op}
use Rattle.sp_lanes.specs.Bodies.{Body}
use Rattle.sp_lanes.specs.Combined.{met_ops}
use Rattle.sp_lanes.specs.Joined.{LaneWord, lane_words, join_ops}
use Rattle.sp_lane_rules.proofs.UnrolledGivens.{append_none}
use Rattle.sp_lane_groups.proofs.LiveLane.{word_end}
use Rattle.sp_lane_groups.proofs.RunsWhole.{nothing_on, runs_append}
use Rattle.sp_lane_groups.specs.WordsStanding.{LanesStand}
use Rattle.sp_lane_groups.proofs.WordsMasks.{lanes_more}
use Rattle.sp_lane_groups.specs.JoinedWords.{in_turn, words_of}
use Rattle.sp_lane_trees.proofs.CombinationsArranged.{in_order_ops}
use Rattle.sp_lane_trees.proofs.CombinationsCombining.{after_word, Holds, combined_in, step_on, computed_on, next_word, longer, two_runs, mux_runs, put_runs, literal_runs, Front, front, done_first, second_left, second_read}
use Rattle.sp_lane_trees.proofs.CombinationsRegisters.{HasPlace, put, read_runs}

-- each iteration has a word at a place
abbrev pub HaveWords : (word : ℕ) → List (List Entry) → Type 0
HaveWords word [] = Unit {0}
HaveWords word (g ∷ groups) = (word < length g) × HaveWords word groups

module _ (core : PlainCore) (scope : Scope) (counter : ℕ) (ty : Ty) (comb : Comb) (word : ℕ) where
  abbrev joint : ℕ → ℕ → ℕ
  joint = two_word (operator_of comb) ty

  abbrev pub met : (at left : ℕ) → List LaneWord → List PlainOp
  met at left words = met_ops counter (operator_of comb) ty at left words

  -- the operator, and the choice
  abbrev two_entries : (p x y : ℕ) → List Entry
  two_entries p x y = gave (joint x y) ∷ gave (chosen p (joint x y) x) ∷ []

  one_meets : (mask left right p x y : ℕ) (done : List Entry) (t : Store) → mask < length done → left < length done → word_at done mask ≡ p → word_at done left ≡ x → word_at done right ≡ y
      → operations_after core scope done (join_ops counter (operator_of comb) ty (length done) mask left right) t ≡ went (done ++ two_entries p x y) t
  one_meets mask left right p x y done t lm ll m a b =
      let d : List Entry = done ++ gave (joint x y) ∷ [] in
      computed_on core scope (computes (Two (operator_of comb)) ty (left ∷ right ∷ [])) (computes Mux ty (mask ∷ length done ∷ left ∷ []) ∷ []) done t (joint x y) (two_runs core scope comb ty left right x y done t a b)
      ∙ computed_on core scope (computes Mux ty (mask ∷ length done ∷ left ∷ [])) [] d t (chosen p (joint x y) x)
      (mux_runs core scope ty mask (length done) left p (joint x y) x d t (next_word core scope done (gave (joint x y)) mask p lm m) (word_end done (gave (joint x y)) (length done) refl) (next_word core scope done (gave (joint x y)) left x ll a))
      ∙ nothing_on core scope (d ++ gave (chosen p (joint x y) x) ∷ []) t
      ∙ ap (λ es. went es t) (append_assoc done (gave (joint x y) ∷ []) (gave (chosen p (joint x y) x) ∷ []))

  -- the lanes from one on meet what stands last
  pub record Met (left : ℕ) (words : List LaneWord) (done : List Entry) (t : Store) (value : ℕ) : Type 0 where
    pub new : List Entry
    pub ran : operations_after core scope done (met (suc left) left words) t ≡ went (done ++ new) t
    pub long : length new ≡ length (met (suc left) left words)
    pub word_there : word_at (done ++ new) (left + length new) ≡ value

  places : (n : ℕ) (words : List LaneWord) → met (suc n + 2) (suc n + 1) words ≡ met (suc (suc (suc n))) (suc (suc n)) words
  places n words = ap (λ k. met k (suc n + 1) words) {x = suc n + 2} {y = suc (suc (suc n))} (omega arith) ∙ ap (λ k. met (suc (suc (suc n))) k words) {x = suc n + 1} {y = suc (suc n)} (omega arith)

  ends : (n k : ℕ) → n + suc (suc k) ≡ suc (suc n) + k
  ends n k = omega arith

  longer_by_two : (left : ℕ) (done two : List Entry) → suc left ≡ length done → length two ≡ 2 → suc (suc (suc left)) ≡ length (done ++ two)
  longer_by_two left done two at e = omega (arith, at, e, length-append done two)

  chosen_there : (left p x y : ℕ) (done : List Entry) → suc left ≡ length done → word_at (done ++ two_entries p x y) (suc (suc left)) ≡ chosen p (joint x y) x
  chosen_there left p x y done at =
      ap (λ es. word_at es (suc (suc left))) (sym (append_assoc done (gave (joint x y) ∷ []) (gave (chosen p (joint x y) x) ∷ [])))
      ∙ word_end (done ++ gave (joint x y) ∷ []) (gave (chosen p (joint x y) x)) (suc (suc left)) (omega (arith, at, length-append done (gave (joint x y) ∷ [])))

  -- one lane, and those after it
  goes_on : (b : Body) (bodies : List Body) (l left x p y value : ℕ) (done : List Entry) (t : Store) → suc left ≡ length done → word_at done left ≡ x → b.mask < length done → word_at done b.mask ≡ p → word_at done (slice_index b.places word) ≡ y
      → Met (suc (suc left)) (lane_words (suc l) word bodies) (done ++ two_entries p x y) t value → Met left (lane_words l word (b ∷ bodies)) done t value
  goes_on b bodies l left x p y value done t at is lm m r after =
      let two : List Entry = two_entries p x y in
      let d : List Entry = done ++ two in
      let right : ℕ = slice_index b.places word in
      let ops : List PlainOp = join_ops counter (operator_of comb) ty (suc left) b.mask left right in
      let others : List LaneWord = lane_words (suc l) word bodies in
      let first : operations_after core scope done ops t ≡ went d t =
      ap (λ n. operations_after core scope done (join_ops counter (operator_of comb) ty n b.mask left right) t) at ∙ one_meets b.mask left right p x y done t lm (omega (arith, at)) m is r in
      record {
        new = two ++ after.new;
        ran =
            runs_append core scope ops (met (suc left + 2) (suc left + 1) others) done d t t first
            ∙ ap (λ xs. operations_after core scope d xs t) (places left others) ∙ after.ran ∙ ap (λ es. went es t) (append_assoc done two after.new);
        long = ap (λ n. suc (suc n)) (after.long ∙ sym (ap (λ (xs : List PlainOp). length xs) (places left others)));
        word_there =
            ap (word_at (done ++ (two ++ after.new))) (ends left (length after.new)) ∙ ap (λ es. word_at es (suc (suc left) + length after.new)) (sym (append_assoc done two after.new)) ∙ after.word_there;
      }

  pub meets_all : (bodies : List Body) (groups : List (List Entry)) (l left x : ℕ) (done : List Entry) (t : Store) → suc left ≡ length done → word_at done left ≡ x → LanesStand (scope counter).live done l bodies groups → HaveWords word groups
      → Met left (lane_words l word bodies) done t (in_turn joint x (words_of word groups))
  meets_all [] [] l left x done t at is stand has = record {
    new = [];
    ran = nothing_on core scope done t ∙ ap (λ es. went es t) (sym (append_none done));
    long = refl;
    word_there = ap (word_at (done ++ [])) {x = left + 0} {y = left} (omega arith) ∙ ap (λ es. word_at es left) (append_none done) ∙ is;
  }
  meets_all [] (g ∷ groups) l left x done t at is stand has = absurd stand
  meets_all (b ∷ bodies) [] l left x done t at is stand has =
      let y : ℕ = word_at done (slice_index b.places word) in
      goes_on b bodies l left x 0 y x done t at is stand.1.0 stand.1.1 refl
      (meets_all bodies [] (suc l) (suc (suc left)) x (done ++ two_entries 0 x y) t (longer_by_two left done (two_entries 0 x y) at refl) (chosen_there left 0 x y done at) (lanes_more (scope counter).live done (two_entries 0 x y) (suc l) bodies [] stand.2) tt)
  meets_all (b ∷ bodies) (g ∷ groups) l left x done t at is stand has =
      let y : ℕ = word_at g word in
      goes_on b bodies l left x 1 y (in_turn joint (joint x y) (words_of word groups)) done t at is stand.1.0 stand.1.1 (stand.2.1 word has.0).1
      (meets_all bodies groups (suc l) (suc (suc left)) (joint x y) (done ++ two_entries 1 x y) t (longer_by_two left done (two_entries 1 x y) at refl) (chosen_there left 1 x y done at) (lanes_more (scope counter).live done (two_entries 1 x y) (suc l) bodies groups stand.3) has.1)

  plus_one : (n : ℕ) → n + 1 ≡ suc n
  plus_one n = omega arith

  plus_four : (n : ℕ) → n + 4 ≡ suc (n + 3)
  plus_four n = omega arith

  -- a fold
  fold_in_order : (bodies : List Body) (groups : List (List Entry)) (acc a : ℕ) (es : List Entry) (t : Store) → LanesStand (scope counter).live es 0 bodies groups → HaveWords word groups → Holds core None acc t (Some a)
      → (fs : List Entry) × (operations_after core scope es (in_order_ops counter ty comb None (length es) (lane_words 0 word bodies) acc) t ≡ went fs (put core acc (in_turn joint a (words_of word groups)) t))
  fold_in_order bodies groups acc a es t stand has holds =
      let at : ℕ = length es in
      let words : List LaneWord = lane_words 0 word bodies in
      let value : ℕ = in_turn joint a (words_of word groups) in
      let d : List Entry = es ++ touched [] a ∷ [] in
      let x : Met at words d t value =
      meets_all bodies groups 0 at a d t (sym (longer core scope es (touched [] a) at refl)) (word_end es (touched [] a) at refl) (lanes_more (scope counter).live es (touched [] a ∷ []) 0 bodies groups stand) has in
      let same : met (at + 1) at words ≡ met (suc at) at words = ap (λ n. met n at words) (plus_one at) in
      let last : ℕ = at + length (met (at + 1) at words) in
      let there : word_at (d ++ x.new) last ≡ value = ap (λ n. word_at (d ++ x.new) (at + n)) (ap (λ (xs : List PlainOp). length xs) same ∙ sym x.long) ∙ x.word_there in
      let tail : List PlainOp = write_op ty acc (last ∷ []) ∷ [] in (
        (d ++ x.new) ++ touched [] value ∷ [],
        step_on core scope (read_op ty acc []) (met (at + 1) at words ++ tail) es t t (touched [] a) (read_runs core scope acc a t holds)
            ∙ ap (λ xs. operations_after core scope d (xs ++ tail) t) same
            ∙ runs_append core scope (met (suc at) at words) tail d (d ++ x.new) t t x.ran
            ∙ step_on core scope (write_op ty acc (last ∷ [])) [] (d ++ x.new) t (put core acc value t) (touched [] value) (put_runs core scope ty acc last value (d ++ x.new) t holds.0 there)
            ∙ nothing_on core scope ((d ++ x.new) ++ touched [] value ∷ []) (put core acc value t),
      )

  -- a word and a bit are written
  written_both : (n x acc begun : ℕ) (done : List Entry) (t : Store) → length done ≡ suc n → word_at done n ≡ x → HasPlace core acc → HasPlace core begun
      → (fs : List Entry) × (operations_after core scope done (write_op ty acc (n ∷ []) ∷ literal_op Bit 1 ∷ write_op Bit begun ((n + 2) ∷ []) ∷ []) t ≡ went fs (put core begun 1 (put core acc x t)))
  written_both n x acc begun done t long there h k =
      let d1 : List Entry = done ++ touched [] x ∷ [] in
      let d2 : List Entry = d1 ++ gave 1 ∷ [] in
      let l1 : length d1 ≡ suc (suc n) = longer core scope done (touched [] x) (suc n) long in
      let u : Store = put core acc x t in (
        d2 ++ touched [] 1 ∷ [],
        step_on core scope (write_op ty acc (n ∷ [])) (literal_op Bit 1 ∷ write_op Bit begun ((n + 2) ∷ []) ∷ []) done t u (touched [] x) (put_runs core scope ty acc n x done t h there)
            ∙ computed_on core scope (literal_op Bit 1) (write_op Bit begun ((n + 2) ∷ []) ∷ []) d1 u 1 (literal_runs core scope d1 u)
            ∙ step_on core scope (write_op Bit begun ((n + 2) ∷ [])) [] d2 u (put core begun 1 u) (touched [] 1) (put_runs core scope Bit begun (n + 2) 1 d2 u k (word_end d1 (gave 1) (n + 2) (omega (arith, l1))))
            ∙ nothing_on core scope (d2 ++ touched [] 1 ∷ []) (put core begun 1 u),
      )

  -- a reduction: its first word, and then the others
  module _ (b : Body) (bodies : List Body) (g : List Entry) (groups : List (List Entry)) (acc begun : ℕ) (es : List Entry) (t : Store) (stand : LanesStand (scope counter).live es 0 (b ∷ bodies) (g ∷ groups)) (has : HaveWords word (g ∷ groups)) where
    abbrev at : ℕ
    at = length es

    abbrev to : ℕ
    to = slice_index b.places word

    abbrev others : List LaneWord
    others = lane_words 1 word bodies

    to_there : (to < length es) × (word_at es to ≡ word_at g word)
    to_there = stand.2.1 word has.0

    abbrev last : ℕ
    last = at + 3 + length (met (at + 4) (at + 3) others)

    abbrev tail : List PlainOp
    tail = write_op ty acc (last ∷ []) ∷ literal_op Bit 1 ∷ write_op Bit begun ((last + 2) ∷ []) ∷ []

    abbrev rest : List PlainOp
    rest = met (at + 4) (at + 3) others ++ tail

    abbrev First : ℕ → Type 0
    First v = Front core scope ty comb at to acc es refl to_there.0 begun rest t v

    after_first : (v : ℕ) → First v → HasPlace core acc → HasPlace core begun
        → (fs : List Entry) × (operations_after core scope es (in_order_ops counter ty comb (Some begun) at (lane_words 0 word (b ∷ bodies)) acc) t ≡ went fs (put core begun 1 (put core acc (in_turn joint v (words_of word groups)) t)))
    after_first v f h k =
        let value : ℕ = in_turn joint v (words_of word groups) in
        let stand_there : LanesStand (scope counter).live f.done 1 bodies groups =
        subst (λ d. LanesStand (scope counter).live d 1 bodies groups) (sym f.grown) (lanes_more (scope counter).live es f.new 1 bodies groups stand.3) in
        let x : Met (at + 3) others f.done t value = meets_all bodies groups 1 (at + 3) v f.done t (sym (plus_four at) ∙ sym f.long) f.word_there stand_there has.1 in
        let same : met (at + 4) (at + 3) others ≡ met (suc (at + 3)) (at + 3) others = ap (λ n. met n (at + 3) others) (plus_four at) in
        let count : length (met (at + 4) (at + 3) others) ≡ length x.new = ap (λ (xs : List PlainOp). length xs) same ∙ sym x.long in
        let there : word_at (f.done ++ x.new) last ≡ value = ap (λ n. word_at (f.done ++ x.new) (at + 3 + n)) count ∙ x.word_there in
        let long : length (f.done ++ x.new) ≡ suc last = ends_at (length f.done) (length x.new) (length (met (at + 4) (at + 3) others)) f.long count (length-append f.done x.new) in
        let w = written_both last value acc begun (f.done ++ x.new) t long there h k in (
          w.0,
          f.ran ∙ ap (λ xs. operations_after core scope f.done (xs ++ tail) t) same ∙ runs_append core scope (met (suc (at + 3)) (at + 3) others) tail f.done (f.done ++ x.new) t t x.ran ∙ w.1,
        )
      where
        ends_at : (d n m : ℕ) → d ≡ at + 4 → m ≡ n → {total : ℕ} → total ≡ d + n → total ≡ suc (at + 3 + m)
        ends_at d n m e f g = omega (arith, e, f, g)

    reduce_in_order : (held : Option ℕ) → Holds core (Some begun) acc t held
        → (fs : List Entry) × (operations_after core scope es (in_order_ops counter ty comb (Some begun) at (lane_words 0 word (b ∷ bodies)) acc) t ≡ went fs (put core begun 1 (put core acc (in_turn joint (after_word joint held (word_at g word)) (words_of word groups)) t)))
    reduce_in_order None h =
        after_first (word_at g word)
        (subst First to_there.1 (front core scope ty comb at to acc es refl to_there.0 begun rest 0 0 left_out t h.0 refl (second_left core scope ty comb at to acc es refl to_there.0 begun (done_first core scope ty comb at to acc es refl to_there.0 begun 0) t (word_end es (touched [] 0) at refl))))
        h.1 h.0.0
    reduce_in_order (Some a) h =
        after_first (joint a (word_at g word))
        (subst (λ v. First (joint a v)) to_there.1 (front core scope ty comb at to acc es refl to_there.0 begun rest 1 a (touched [] a) t h.0 refl
        (second_read core scope ty comb at to acc es refl to_there.0 begun (done_first core scope ty comb at to acc es refl to_there.0 begun 1) t (word_end es (touched [] 1) at refl) ∙ read_runs core scope acc a t h.1)))
        h.1.0 h.0.0

  -- of both
  pub builds_in_order : (bodies : List Body) (g : List Entry) (groups : List (List Entry)) (acc : ℕ) (es : List Entry) (t : Store) → LanesStand (scope counter).live es 0 bodies (g ∷ groups) → HaveWords word (g ∷ groups) → (begun held : Option ℕ) → Holds core begun acc t held
      → (fs : List Entry) × (operations_after core scope es (in_order_ops counter ty comb begun (length es) (lane_words 0 word bodies) acc) t ≡ went fs (combined_in core begun acc (in_turn joint (after_word joint held (word_at g word)) (words_of word groups)) t))
  builds_in_order [] g groups acc es t stand has begun held h = absurd stand
  builds_in_order (b ∷ bodies) g groups acc es t stand has None None h = absurd h
  builds_in_order (b ∷ bodies) g groups acc es t stand has None (Some a) h = fold_in_order (b ∷ bodies) (g ∷ groups) acc a es t stand has h
  builds_in_order (b ∷ bodies) g groups acc es t stand has (Some y) held h = reduce_in_order b bodies g groups acc y es t stand has held h
