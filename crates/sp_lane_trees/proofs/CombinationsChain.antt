-- Iterations that end in a combination: their bodies by themselves, and what the combinations leave.
use Rattle.std.proofs.Common.{◌≡◌, ℕ, zero, suc, ◌+◌, ◌<◌, Bool, true, false, List, [], ◌∷◌, ◌++◌, length, Option, Some, None, refl, sym, ◌∙◌, ap, subst, arith}
use Rattle.sp_words.specs.declared.types.Ty.{Ty}
use Rattle.sp_tree.specs.declared.statement.Comb.{Comb}
use Rattle.sp_core.specs.Accesses.{word_in}
use Rattle.sp_core.specs.Declarations.{kind_of, dims}
use Rattle.sp_core.specs.Footprint.{ListNames, AllPass}
use Rattle.sp_core.specs.History.{Entry, word_at}
use Rattle.sp_core.specs.Operations.{operation, operations, operations_after}
use Rattle.sp_core.specs.Operators.{two_word}
use Rattle.sp_core.specs.PlainCore.{PlainOp, PlainCore}
use Rattle.sp_core.specs.Scope.{plainly, Scope}
use Rattle.sp_core.specs.Sequential.{renew_in_body}
use Rattle.sp_core.specs.Step.{Step, Went, went, stopped, more, pure, ◌>>=◌, in_order}
use Rattle.sp_core.specs.Store.{Store}
use Rattle.sp_sugar.specs.Combination.{operator_of}
use Rattle.sp_lane_groups.proofs.LiveLane.{split_run, kept_run}
use Rattle.sp_lane_groups.specs.Groups.{iteration, lanes_from}
use Rattle.sp_lane_groups.proofs.Renewed.{bind_known, bind_split, order_on, order_split, order_none}
use Rattle.sp_lane_groups.proofs.RunsWhole.{nothing_on, run_long}
use Rattle.sp_lane_groups.specs.JoinedWords.{in_turn, words_of}
use Rattle.sp_lane_trees.proofs.CombinationsCombining.{after_word, combining, Holds, combined_in, IsBegun, was_combined}
use Rattle.sp_lane_trees.proofs.CombinationsFrames.{AgreeOn, KeptBut, FramedAt, iteration_framed}
use Rattle.sp_lane_trees.proofs.CombinationsRegisters.{IsBoth, ReadsAs, put_in, put, put_here, put_other, read_back, write_twice}

module _ (core : PlainCore) (scope : Scope) where
  step_to : (x : PlainOp) (ops : List PlainOp) (done : List Entry) (s u : Store) (e : Entry) → operation core scope x done s ≡ went e u → operations_after core scope done (x ∷ ops) s ≡ operations_after core scope (done ++ e ∷ []) ops u
  unfolding operations_after ◌>>=◌
  step_to x ops done s u e i = ap (λ (r : Went Entry). elim r as (λ _. Went (List Entry)) [ went a v ↦ operations_after core scope (done ++ a ∷ []) ops v | stopped ↦ stopped | more ↦ more ]) i

  -- a run of two lists
  pub runs_parts : (xs ys : List PlainOp) (done : List Entry) (s : Store) (es : List Entry) (after : Store) → operations_after core scope done (xs ++ ys) s ≡ went es after
      → (between : List Entry) × (u : Store) × (operations_after core scope done xs s ≡ went between u) × (operations_after core scope between ys u ≡ went es after)
  runs_parts [] ys done s es after ran = (done, s, nothing_on core scope done s, ran)
  runs_parts (x ∷ xs) ys done s es after ran =
      let r = split_run core scope x (xs ++ ys) done s es after ran in
      let q = runs_parts xs ys (done ++ r.0 ∷ []) r.1 es after r.3 in
      (q.0, q.1, step_to x xs done s r.1 r.0 r.2 ∙ q.2, q.3)

module _ (core : PlainCore) (plain : ℕ → Scope) (owned : List ℕ) (before : List PlainOp) (begun : Option ℕ) (at word acc : ℕ) (ty : Ty) (comb : Comb) where
  abbrev pub whole : List PlainOp
  whole = before ++ combining begun at word acc ty comb

  abbrev pub joint : ℕ → ℕ → ℕ
  joint = two_word (operator_of comb) ty

  abbrev pub full : ℕ → Step (List Entry)
  full l = iteration core (plain l) owned whole

  abbrev pub body : ℕ → Step (List Entry)
  body l = iteration core (plain l) owned before

  -- what is asked: a test of all other memories; the accumulator and the flag are registers, and two memories
  pub record Asks (is : ℕ → Bool) : Type 0 where
    pub place : at ≡ length before
    pub earlier : word < at
    pub names : ListNames core is before
    pub owns : AllPass core is owned
    pub other : (m : ℕ) → is m ≡ true → (m ≡ acc → ⊥) × ((b : ℕ) → begun ≡ Some b → m ≡ b → ⊥)
    pub all : (m : ℕ) → (m ≡ acc → ⊥) → ((b : ℕ) → begun ≡ Some b → m ≡ b → ⊥) → is m ≡ true
    pub acc_both : IsBoth (kind_of core acc)
    pub flag_both : (b : ℕ) → begun ≡ Some b → IsBoth (kind_of core b)
    pub apart : (b : ℕ) → begun ≡ Some b → acc ≡ b → ⊥

  -- what the accumulator and the flag hold after a word is written
  abbrev pub Written : (x : ℕ) → (s after : Store) → Type 0
  Written x s after = (after acc ≡ Some (put_in core acc x (s acc))) × ((b : ℕ) → begun ≡ Some b → after b ≡ Some (put_in core b 1 (s b)))

  -- an iteration: its body, and the combination
  pub record OneRan (l : ℕ) (s after : Store) (g : List Entry) : Type 0 where
    pub entries : List Entry
    pub between : Store
    pub ran : body l s ≡ went entries between
    pub held : Option ℕ
    pub holds : Holds core begun acc between held
    pub is_left : combined_in core begun acc (after_word joint held (word_at entries word)) between ≡ after
    pub long : length entries ≡ at
    pub words : (k : ℕ) → k < at → word_at g k ≡ word_at entries k

  -- the flag's word is a bit
  abbrev pub IsBit : Option ℕ → List Entry → Type 0
  IsBit None g = Unit {0}
  IsBit (Some b) g = word_at g at < 2

  abbrev pub FlagIsBit : List Entry → Type 0
  FlagIsBit g = IsBit begun g

  module _ (is : ℕ → Bool) (asks : Asks is) where
    one_ran : (l : ℕ) (s after : Store) (g : List Entry) → FlagIsBit g → full l s ≡ went g after → OneRan l s after g
    one_ran l s after g bit ran =
        let r = bind_split (in_order (renew_in_body core plainly 0) owned) (λ _. operations core (plain l) whole) s after g ran in
        let q = runs_parts core (plain l) before (combining begun at word acc ty comb) [] r.1 g after r.3 in
        let long : length q.0 ≡ at = run_long core (plain l) before [] r.1 q.0 q.1 q.2 ∙ count (length before) at asks.place in
        let c = was_combined core (plain l) ty comb at word acc q.0 (sym long) asks.earlier begun q.1 after g (flag q.0 (sym long) begun bit) q.3 in
        record {
          entries = q.0;
          between = q.1;
          ran = bind_known (in_order (renew_in_body core plainly 0) owned) (λ _. operations core (plain l) before) s r.1 r.0 r.2 ∙ q.2;
          held = c.0;
          holds = c.1;
          is_left = c.2;
          long = long;
          words = λ k lt. kept_run core (plain l) (combining begun at word acc ty comb) q.0 q.1 g after q.3 k (omega (arith, lt, long));
        }
      where
        count : (n at : ℕ) → at ≡ n → 0 + n ≡ at
        count n at e = omega (arith, e)

        flag : (es : List Entry) (same : at ≡ length es) (o : Option ℕ) → IsBit o g → IsBegun core (plain l) ty comb at word acc es same asks.earlier o g
        flag es same None h = tt
        flag es same (Some b) h = h

    -- what a combination leaves
    pub left_other : (o : Option ℕ) (x : ℕ) (s : Store) (m : ℕ) → (m ≡ acc → ⊥) → ((b : ℕ) → o ≡ Some b → m ≡ b → ⊥) → combined_in core o acc x s m ≡ s m
    left_other None x s m ne far = put_other core acc x s m ne
    left_other (Some b) x s m ne far = put_other core b 1 (put core acc x s) m (far b refl) ∙ put_other core acc x s m ne

    pub left_acc : (o : Option ℕ) (x : ℕ) (s : Store) → ((b : ℕ) → o ≡ Some b → acc ≡ b → ⊥) → combined_in core o acc x s acc ≡ Some (put_in core acc x (s acc))
    left_acc None x s far = put_here core acc x s
    left_acc (Some b) x s far = put_other core b 1 (put core acc x s) acc (far b refl) ∙ put_here core acc x s

    pub left_flag : (o : Option ℕ) (x : ℕ) (s : Store) → ((b : ℕ) → o ≡ Some b → acc ≡ b → ⊥) → (b : ℕ) → o ≡ Some b → combined_in core o acc x s b ≡ Some (put_in core b 1 (s b))
    left_flag None x s far b e = absurd (nothing e)
      where
        nothing : ◌≡◌ {A = Option ℕ} None (Some b) → ⊥
        nothing e = cc
    left_flag (Some c) x s far b e = subst (λ n. combined_in core (Some c) acc x s n ≡ Some (put_in core n 1 (s n))) same
        (put_here core c 1 (put core acc x s) ∙ ap (λ d. Some (put_in core c 1 d)) (put_other core acc x s c (λ i. far c refl (sym i))))
      where
        same : c ≡ b
        same = cc

    is_not : (m : ℕ) → (is m ≡ true → ⊥) → is m ≡ false
    is_not m h = by (is m) refl
      where
        by : (b : Bool) → is m ≡ b → b ≡ false
        by true i = absurd (h i)
        by false i = refl

    pub acc_not : is acc ≡ false
    acc_not = is_not acc (λ i. (asks.other acc i).0 refl)

    pub flag_not : (b : ℕ) → begun ≡ Some b → is b ≡ false
    flag_not b e = is_not b (λ i. (asks.other b i).1 b e refl)

    -- after a combination the accumulator holds its word
    holds_again : (o : Option ℕ) (x : ℕ) (s u : Store) (held : Option ℕ) → ((b : ℕ) → o ≡ Some b → IsBoth (kind_of core b)) → u acc ≡ Some (put_in core acc x (s acc)) → ((b : ℕ) → o ≡ Some b → u b ≡ Some (put_in core b 1 (s b))) → Holds core o acc u held → held ≡ Some x
    holds_again None x s u None both e f h = absurd h
    holds_again None x s u (Some a) both e f h = ap Some (read_back (kind_of core acc) (dims core acc) x a (s acc) asks.acc_both (subst (λ c. word_in (kind_of core acc) (dims core acc) [] c ≡ Some a) e h.1))
    holds_again (Some b) x s u None both e f h =
        absurd (differ (read_back (kind_of core b) (dims core b) 1 0 (s b) (both b refl) (subst (λ c. word_in (kind_of core b) (dims core b) [] c ≡ Some 0) (f b refl) h.0.1)))
      where
        differ : ◌≡◌ {A = ℕ} 0 1 → ⊥
        differ e = omega (arith, e)
    holds_again (Some b) x s u (Some a) both e f h = ap Some (read_back (kind_of core acc) (dims core acc) x a (s acc) asks.acc_both (subst (λ c. word_in (kind_of core acc) (dims core acc) [] c ≡ Some a) e h.1.1))

    pub holds_same : (o : Option ℕ) (s u : Store) (held : Option ℕ) → u acc ≡ s acc → ((b : ℕ) → o ≡ Some b → u b ≡ s b) → Holds core o acc u held → Holds core o acc s held
    holds_same None s u None e f h = h
    holds_same None s u (Some a) e f h = subst (λ c. ReadsAs core acc c a) e h
    holds_same (Some b) s u None e f h = (subst (λ c. ReadsAs core b c 0) (f b refl) h.0, h.1)
    holds_same (Some b) s u (Some a) e f h = (subst (λ c. ReadsAs core b c 1) (f b refl) h.0, subst (λ c. ReadsAs core acc c a) e h.1)

    -- the words of bodies, combined in order with what the accumulator holds
    abbrev pub Accumulated : (s after : Store) → List ℕ → Type 0
    Accumulated s after [] = Unit {0}
    Accumulated s after (v ∷ vs) = (held : Option ℕ) × Holds core begun acc s held × Written (in_turn joint (after_word joint held v) vs) s after

    -- so many iterations: their bodies from another store that agrees, and what the combinations leave
    pub record Chained (k l : ℕ) (s t after : Store) : Type 0 where
      pub bodies : List (List Entry)
      pub ended : Store
      pub ran : in_order body (lanes_from l k) t ≡ went bodies ended
      pub agree : AgreeOn is after ended
      pub kept : KeptBut is t ended
      pub left : Accumulated s after (words_of word bodies)

    abbrev pub FlagsAreBits : List (List Entry) → Type 0
    FlagsAreBits [] = Unit {0}
    FlagsAreBits (g ∷ groups) = FlagIsBit g × FlagsAreBits groups

    -- the accumulator and the flag after the first iteration
    first_left : (l : ℕ) (s u : Store) (g : List Entry) (x : OneRan l s u g) → KeptBut is s x.between → (held : Option ℕ) × Holds core begun acc s held × Written (after_word joint held (word_at x.entries word)) s u
    first_left l s u g x kept =
        let value : ℕ = after_word joint x.held (word_at x.entries word) in
        let acc_kept : x.between acc ≡ s acc = kept acc acc_not in (
          x.held,
          holds_same begun s x.between x.held acc_kept (λ b e. kept b (flag_not b e)) x.holds,
          (
            ap (λ (v : Store). v acc) (sym x.is_left) ∙ left_acc begun value x.between asks.apart ∙ ap (λ c. Some (put_in core acc value c)) acc_kept,
            λ b e. ap (λ (v : Store). v b) (sym x.is_left) ∙ left_flag begun value x.between asks.apart b e ∙ ap (λ c. Some (put_in core b 1 c)) (kept b (flag_not b e)),
          ),
        )

    -- and after those that follow
    pub more_left : (s u after : Store) (v : ℕ) (vs : List ℕ) → (held : Option ℕ) × Holds core begun acc s held × Written (after_word joint held v) s u → (vs ≡ [] → u ≡ after) → Accumulated u after vs → Accumulated s after (v ∷ vs)
    more_left s u after v [] first done rest = (first.0, first.1, subst (λ (z : Store). Written (after_word joint first.0 v) s z) (done refl) first.2)
    more_left s u after v (y ∷ vs) first done rest =
        let x : ℕ = after_word joint first.0 v in
        let again : rest.0 ≡ Some x = holds_again begun x s u rest.0 asks.flag_both first.2.0 first.2.1 rest.1 in
        let same : in_turn joint (after_word joint rest.0 y) vs ≡ in_turn joint x (y ∷ vs) = ap (λ o. in_turn joint (after_word joint o y) vs) again in (
          first.0,
          first.1,
          (
            rest.2.0 ∙ ap (λ z. Some (put_in core acc z (u acc))) same ∙ ap (λ c. Some (put_in core acc (in_turn joint x (y ∷ vs)) c)) first.2.0
                ∙ ap Some (write_twice (kind_of core acc) (dims core acc) x (in_turn joint x (y ∷ vs)) (s acc) asks.acc_both),
            λ b e. rest.2.1 b e ∙ ap (λ c. Some (put_in core b 1 c)) (first.2.1 b e) ∙ ap Some (write_twice (kind_of core b) (dims core b) 1 1 (s b) (asks.flag_both b e)),
          ),
        )

    nothing_done : (t : Store) → in_order body [] t ≡ went [] t
    unfolding in_order pure
    nothing_done t = refl

    -- where no body follows, nothing does
    no_more : (k l : ℕ) (s t after : Store) (groups : List (List Entry)) → (rest : Chained k l s t after) → in_order full (lanes_from l k) s ≡ went groups after → words_of word rest.bodies ≡ [] → s ≡ after
    no_more zero l s t after groups rest ran e = (order_none full s after groups ran).0
    no_more (suc k) l s t after groups rest ran e = absurd (some rest.bodies (order_split body l (lanes_from (suc l) k) t rest.ended rest.bodies rest.ran).5 e)
      where
        some : {b : List Entry} {bs : List (List Entry)} (all : List (List Entry)) → b ∷ bs ≡ all → words_of word all ≡ [] → ⊥
        some [] e f = cc
        some (g ∷ all) e f = cc

    pub chained : (k l : ℕ) (s t after : Store) (groups : List (List Entry)) → FlagsAreBits groups → AgreeOn is s t → in_order full (lanes_from l k) s ≡ went groups after → Chained k l s t after
    chained zero l s t after groups bits agree ran =
        let r = order_none full s after groups ran in
        record { bodies = []; ended = t; ran = nothing_done t; agree = subst (λ (u : Store). AgreeOn is u t) r.0 agree; kept = λ m n. refl; left = tt }
    chained (suc k) l s t after groups bits agree ran =
        let r = order_split full l (lanes_from (suc l) k) s after groups ran in
        let flags : FlagsAreBits (r.0 ∷ r.2) = subst FlagsAreBits (sym r.5) bits in
        let x : OneRan l s r.1 r.0 = one_ran l s r.1 r.0 flags.0 r.3 in
        let f : FramedAt is (body l) s t x.between x.entries = iteration_framed is core (plain l) owned before asks.owns asks.names s t x.between x.entries agree x.ran in
        let value : ℕ = after_word joint x.held (word_at x.entries word) in
        let on : AgreeOn is r.1 f.ended = λ m i. f.agree m i ∙ sym (ap (λ (v : Store). v m) (sym x.is_left) ∙ left_other begun value x.between m (asks.other m i).0 (asks.other m i).1) in
        let rest : Chained k (suc l) r.1 f.ended after = chained k (suc l) r.1 f.ended after r.2 flags.1 on r.4 in
        record {
          bodies = x.entries ∷ rest.bodies;
          ended = rest.ended;
          ran = order_on body l (lanes_from (suc l) k) t f.ended rest.ended x.entries rest.bodies f.ran rest.ran;
          agree = rest.agree;
          kept = λ m n. rest.kept m n ∙ f.kept_too m n;
          left = more_left s r.1 after (word_at x.entries word) (words_of word rest.bodies) (first_left l s r.1 r.0 x f.kept) (no_more k (suc l) r.1 f.ended after r.2 rest r.4) rest.left;
        }
