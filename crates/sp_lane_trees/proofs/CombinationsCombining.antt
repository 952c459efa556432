-- What a combination does: it combines a word with that of its accumulator, if that holds one of this run.
use Rattle.std.proofs.Common.{◌≡◌, ℕ, zero, suc, ◌+◌, ◌<◌, true, false, List, [], ◌∷◌, ◌++◌, length, Option, Some, None, refl, sym, ◌∙◌, ap, arith, ◌==◌}
use Rattle.std.proofs.lemmas.List.{append_assoc, length-append}
use Rattle.sp_words.specs.declared.types.Ty.{Ty}
use Rattle.sp_words.specs.declared.types.Ty.TheVariants.{Bit}
use Rattle.sp_words.specs.Memory.{Contents}
use Rattle.sp_tree.specs.declared.statement.Comb.{Comb}
use Rattle.sp_core.specs.declared.operation.OpKind.TheVariants.{Read, Write, Two, Mux}
use Rattle.sp_core.specs.History.{Entry, left_out, gave, touched, word_of, word_at}
use Rattle.sp_core.specs.Operations.{access, operation, operations_after}
use Rattle.sp_core.specs.Operators.{two_word, chosen}
use Rattle.sp_core.specs.PlainCore.{PlainOp, PlainCore}
use Rattle.sp_core.specs.Scope.{Scope}
use Rattle.sp_core.specs.Step.{Step, Went, went, stopped, more, pure, ◌>>=◌}
use Rattle.sp_core.specs.Store.{Store}
use Rattle.sp_sugar.specs.Combination.{operator_of, fold_ops, reduce_ops}
use Rattle.sp_sugar.specs.Operations.{computes, read_op, write_op, literal_op, under}
use Rattle.sp_lane_groups.proofs.LiveAlong.{store_of}
use Rattle.sp_lane_groups.proofs.LiveLane.{word_kept, word_end, split_run, kept_run}
use Rattle.sp_lane_groups.proofs.RunsWhole.{nothing_on}
use Rattle.sp_lane_trees.proofs.CombinationsRegisters.{HasPlace, ReadsAs, put, read_runs, read_was, write_runs, write_was}

-- a word after another one, if there is one
abbrev pub after_word : (ℕ → ℕ → ℕ) → Option ℕ → ℕ → ℕ
after_word op None w = w
after_word op (Some a) w = op a w

-- the combination of a fold, or of a reduction by the register that tells whether it has begun
abbrev pub combining : (begun : Option ℕ) → (at word acc : ℕ) → Ty → Comb → List PlainOp
combining None at word acc ty comb = fold_ops at word acc ty comb
combining (Some b) at word acc ty comb = reduce_ops at word acc b ty comb

module _ (core : PlainCore) where
  -- what the accumulator holds of this run
  abbrev pub Holds : (begun : Option ℕ) → (acc : ℕ) → (ℕ → Option Contents) → Option ℕ → Type 0
  Holds None acc s None = ⊥
  Holds None acc s (Some a) = ReadsAs core acc (s acc) a
  Holds (Some b) acc s None = ReadsAs core b (s b) 0 × HasPlace core acc
  Holds (Some b) acc s (Some a) = ReadsAs core b (s b) 1 × ReadsAs core acc (s acc) a

  -- the store after a word is written
  abbrev pub combined_in : (begun : Option ℕ) → (acc x : ℕ) → Store → Store
  combined_in None acc x s = put core acc x s
  combined_in (Some b) acc x s = put core b 1 (put core acc x s)

  module _ (scope : Scope) where
    pub step_on : (x : PlainOp) (ops : List PlainOp) (done : List Entry) (s u : Store) (e : Entry) → operation core scope x done s ≡ went e u → operations_after core scope done (x ∷ ops) s ≡ operations_after core scope (done ++ e ∷ []) ops u
    unfolding operations_after ◌>>=◌
    step_on x ops done s u e i = ap (λ (r : Went Entry). elim r as (λ _. Went (List Entry)) [ went a v ↦ operations_after core scope (done ++ a ∷ []) ops v | stopped ↦ stopped | more ↦ more ]) i

    pub computed_on : (x : PlainOp) (ops : List PlainOp) (done : List Entry) (s : Store) (w : ℕ) → operation core scope x done s ≡ went (gave w) s → operations_after core scope done (x ∷ ops) s ≡ operations_after core scope (done ++ gave w ∷ []) ops s
    computed_on x ops done s w i = step_on x ops done s s (gave w) i

    -- words after one and two more entries
    pub next_word : (done : List Entry) (e : Entry) (k w : ℕ) → k < length done → word_at done k ≡ w → word_at (done ++ e ∷ []) k ≡ w
    next_word done e k w lt is = word_kept done (e ∷ []) k lt ∙ is

    pub longer : (done : List Entry) (e : Entry) (n : ℕ) → length done ≡ n → length (done ++ e ∷ []) ≡ suc n
    longer done e n h = omega (arith, h, length-append done (e ∷ []))

    -- an operator on two words, a choice, a write
    pub two_runs : (comb : Comb) (ty : Ty) (a b x y : ℕ) (done : List Entry) (s : Store) → word_at done a ≡ x → word_at done b ≡ y → operation core scope (computes (Two (operator_of comb)) ty (a ∷ b ∷ [])) done s ≡ went (gave (two_word (operator_of comb) ty x y)) s
    unfolding pure
    two_runs comb ty a b x y done s e f = ap (λ z. went (gave (two_word (operator_of comb) ty z (word_at done b))) s) e ∙ ap (λ z. went (gave (two_word (operator_of comb) ty x z)) s) f

    pub mux_runs : (ty : Ty) (c a b p x y : ℕ) (done : List Entry) (s : Store) → word_at done c ≡ p → word_at done a ≡ x → word_at done b ≡ y → operation core scope (computes Mux ty (c ∷ a ∷ b ∷ [])) done s ≡ went (gave (chosen p x y)) s
    unfolding pure
    mux_runs ty c a b p x y done s e f g =
        ap (λ z. went (gave (chosen z (word_at done a) (word_at done b))) s) e ∙ ap (λ z. went (gave (chosen p z (word_at done b))) s) f ∙ ap (λ z. went (gave (chosen p x z)) s) g

    pub put_runs : (ty : Ty) (m k w : ℕ) (done : List Entry) (s : Store) → HasPlace core m → word_at done k ≡ w → operation core scope (write_op ty m (k ∷ [])) done s ≡ went (touched [] w) (put core m w s)
    put_runs ty m k w done s h e = ap (λ z. access core scope Write m (z ∷ []) s) e ∙ write_runs core scope m w s h

    pub literal_runs : (done : List Entry) (u : Store) → operation core scope (literal_op Bit 1) done u ≡ went (gave 1) u
    unfolding pure
    literal_runs done u = refl

    -- a fold
    module _ (ty : Ty) (comb : Comb) (at word acc : ℕ) (es : List Entry) (same : at ≡ length es) (before : word < at) where
      abbrev joint : ℕ → ℕ → ℕ
      joint = two_word (operator_of comb) ty

      abbrev w : ℕ
      w = word_at es word

      fold_builds : (a : ℕ) (s : Store) → ReadsAs core acc (s acc) a → (fs : List Entry) × (operations_after core scope es (fold_ops at word acc ty comb) s ≡ went fs (put core acc (joint a w) s))
      fold_builds a s h =
          let d1 : List Entry = es ++ touched [] a ∷ [] in
          let d2 : List Entry = d1 ++ gave (joint a w) ∷ [] in
          let l1 : length d1 ≡ suc at = longer es (touched [] a) at (sym same) in (
            d2 ++ touched [] (joint a w) ∷ [],
            step_on (read_op ty acc []) (computes (Two (operator_of comb)) ty (at ∷ word ∷ []) ∷ write_op ty acc ((at + 1) ∷ []) ∷ []) es s s (touched [] a) (read_runs core scope acc a s h)
                ∙ computed_on (computes (Two (operator_of comb)) ty (at ∷ word ∷ [])) (write_op ty acc ((at + 1) ∷ []) ∷ []) d1 s (joint a w)
                (two_runs comb ty at word a w d1 s (word_end es (touched [] a) at same) (next_word es (touched [] a) word w (omega (arith, same, before)) refl))
                ∙ step_on (write_op ty acc ((at + 1) ∷ [])) [] d2 s (put core acc (joint a w) s) (touched [] (joint a w))
                (put_runs ty acc (at + 1) (joint a w) d2 s h.0 (word_end d1 (gave (joint a w)) (at + 1) (omega (arith, l1))))
                ∙ nothing_on core scope (d2 ++ touched [] (joint a w) ∷ []) (put core acc (joint a w) s),
          )

      fold_was : (s u : Store) (fs : List Entry) → operations_after core scope es (fold_ops at word acc ty comb) s ≡ went fs u → (a : ℕ) × ReadsAs core acc (s acc) a × (put core acc (joint a w) s ≡ u)
      fold_was s u fs ran =
          let r = split_run core scope (read_op ty acc []) (computes (Two (operator_of comb)) ty (at ∷ word ∷ []) ∷ write_op ty acc ((at + 1) ∷ []) ∷ []) es s fs u ran in
          let q = read_was core scope acc s r.1 r.0 r.2 in
          let b = fold_builds q.0 s q.1 in
          (q.0, q.1, ap (store_of s) (sym b.1 ∙ ran))

      -- a reduction, up to what comes after its choice: by the word that tells whether it has begun, and what the second read gives
      module _ (begun : ℕ) where
        abbrev writes : List PlainOp
        writes = write_op ty acc ((at + 3) ∷ []) ∷ literal_op Bit 1 ∷ write_op Bit begun ((at + 5) ∷ []) ∷ []

        abbrev pub second : PlainOp
        second = under at (read_op ty acc [])

        abbrev pub third : PlainOp
        third = computes (Two (operator_of comb)) ty ((at + 1) ∷ word ∷ [])

        abbrev pub fourth : PlainOp
        fourth = computes Mux ty (at ∷ (at + 2) ∷ word ∷ [])

        pub record Front (rest : List PlainOp) (s : Store) (x : ℕ) : Type 0 where
          pub done : List Entry
          pub new : List Entry
          pub grown : done ≡ es ++ new
          pub long : length done ≡ at + 4
          pub word_there : word_at done (at + 3) ≡ x
          pub ran : operations_after core scope es (read_op Bit begun [] ∷ second ∷ third ∷ fourth ∷ rest) s ≡ operations_after core scope done rest s

        pub front : (rest : List PlainOp) (p a : ℕ) (e : Entry) (s : Store) → ReadsAs core begun (s begun) p → word_of e ≡ a → operation core scope second (es ++ touched [] p ∷ []) s ≡ went e s → Front rest s (chosen p (joint a w) w)
        front rest p a e s reads is ran =
            let d1 : List Entry = es ++ touched [] p ∷ [] in
            let d2 : List Entry = d1 ++ e ∷ [] in
            let d3 : List Entry = d2 ++ gave (joint a w) ∷ [] in
            let d4 : List Entry = d3 ++ gave (chosen p (joint a w) w) ∷ [] in
            let l1 : length d1 ≡ suc at = longer es (touched [] p) at (sym same) in
            let l2 : length d2 ≡ suc (suc at) = longer d1 e (suc at) l1 in
            let l3 : length d3 ≡ suc (suc (suc at)) = longer d2 (gave (joint a w)) (suc (suc at)) l2 in
            let l4 : length d4 ≡ suc (suc (suc (suc at))) = longer d3 (gave (chosen p (joint a w) w)) (suc (suc (suc at))) l3 in
            let w1 : word_at d1 word ≡ w = next_word es (touched [] p) word w (omega (arith, same, before)) refl in
            let w2 : word_at d2 word ≡ w = next_word d1 e word w (omega (arith, l1, before)) w1 in
            let w3 : word_at d3 word ≡ w = next_word d2 (gave (joint a w)) word w (omega (arith, l2, before)) w2 in
            let p1 : word_at d1 at ≡ p = word_end es (touched [] p) at same in
            let p2 : word_at d2 at ≡ p = next_word d1 e at p (omega (arith, l1)) p1 in
            let p3 : word_at d3 at ≡ p = next_word d2 (gave (joint a w)) at p (omega (arith, l2)) p2 in
            let a2 : word_at d2 (at + 1) ≡ a = word_end d1 e (at + 1) (omega (arith, l1)) ∙ is in
            let j3 : word_at d3 (at + 2) ≡ joint a w = word_end d2 (gave (joint a w)) (at + 2) (omega (arith, l2)) in
            record {
              done = d4;
              new = touched [] p ∷ e ∷ gave (joint a w) ∷ gave (chosen p (joint a w) w) ∷ [];
              grown = append_assoc d2 (gave (joint a w) ∷ []) (gave (chosen p (joint a w) w) ∷ []) ∙ append_assoc d1 (e ∷ []) (gave (joint a w) ∷ gave (chosen p (joint a w) w) ∷ []) ∙ append_assoc es (touched [] p ∷ []) (e ∷ gave (joint a w) ∷ gave (chosen p (joint a w) w) ∷ []);
              long = omega (arith, l4);
              word_there = word_end d3 (gave (chosen p (joint a w) w)) (at + 3) (omega (arith, l3));
              ran =
                  step_on (read_op Bit begun []) (second ∷ third ∷ fourth ∷ rest) es s s (touched [] p) (read_runs core scope begun p s reads)
                  ∙ step_on second (third ∷ fourth ∷ rest) d1 s s e ran
                  ∙ computed_on third (fourth ∷ rest) d2 s (joint a w) (two_runs comb ty (at + 1) word a w d2 s a2 w2)
                  ∙ computed_on fourth rest d3 s (chosen p (joint a w) w) (mux_runs ty at (at + 2) word p (joint a w) w d3 s p3 j3 w3);
            }

        written_end : (s : Store) (x : ℕ) → Front writes s x → HasPlace core acc → HasPlace core begun → (fs : List Entry) × (operations_after core scope es (reduce_ops at word acc begun ty comb) s ≡ went fs (put core begun 1 (put core acc x s)))
        written_end s x f h k =
            let d5 : List Entry = f.done ++ touched [] x ∷ [] in
            let d6 : List Entry = d5 ++ gave 1 ∷ [] in
            let l5 : length d5 ≡ suc (at + 4) = longer f.done (touched [] x) (at + 4) f.long in
            let u : Store = put core acc x s in (
              d6 ++ touched [] 1 ∷ [],
              f.ran
                  ∙ step_on (write_op ty acc ((at + 3) ∷ [])) (literal_op Bit 1 ∷ write_op Bit begun ((at + 5) ∷ []) ∷ []) f.done s u (touched [] x) (put_runs ty acc (at + 3) x f.done s h f.word_there)
                  ∙ computed_on (literal_op Bit 1) (write_op Bit begun ((at + 5) ∷ []) ∷ []) d5 u 1 (literal_runs d5 u)
                  ∙ step_on (write_op Bit begun ((at + 5) ∷ [])) [] d6 u (put core begun 1 u) (touched [] 1) (put_runs Bit begun (at + 5) 1 d6 u k (word_end d5 (gave 1) (at + 5) (omega (arith, l5))))
                  ∙ nothing_on core scope (d6 ++ touched [] 1 ∷ []) (put core begun 1 u),
            )

        -- the second read, under its mask
        pub second_left : (done : List Entry) (s : Store) → word_at done at ≡ 0 → operation core scope second done s ≡ went left_out s
        unfolding pure
        second_left done s e = ap (λ p. (elim (p == 0) as (λ _. Step Entry) [ true ↦ pure left_out | false ↦ access core scope Read acc [] ]) s) e

        pub second_read : (done : List Entry) (s : Store) → word_at done at ≡ 1 → operation core scope second done s ≡ access core scope Read acc [] s
        second_read done s e = ap (λ p. (elim (p == 0) as (λ _. Step Entry) [ true ↦ pure left_out | false ↦ access core scope Read acc [] ]) s) e

        abbrev pub done_first : ℕ → List Entry
        done_first p = es ++ touched [] p ∷ []

        reduce_builds : (o : Option ℕ) (s : Store) → Holds (Some begun) acc s o → (fs : List Entry) × (operations_after core scope es (reduce_ops at word acc begun ty comb) s ≡ went fs (put core begun 1 (put core acc (after_word joint o w) s)))
        reduce_builds None s h = written_end s w (front writes 0 0 left_out s h.0 refl (second_left (done_first 0) s (word_end es (touched [] 0) at same))) h.1 h.0.0
        reduce_builds (Some a) s h =
            written_end s (joint a w) (front writes 1 a (touched [] a) s h.0 refl (second_read (done_first 1) s (word_end es (touched [] 1) at same) ∙ read_runs core scope acc a s h.1)) h.1.0 h.0.0

        reduce_was : (s u : Store) (fs : List Entry) → word_at fs at < 2 → operations_after core scope es (reduce_ops at word acc begun ty comb) s ≡ went fs u → (o : Option ℕ) × Holds (Some begun) acc s o × (put core begun 1 (put core acc (after_word joint o w) s) ≡ u)
        reduce_was s u fs bit ran =
            let r = split_run core scope (read_op Bit begun []) (second ∷ third ∷ fourth ∷ writes) es s fs u ran in
            let q = read_was core scope begun s r.1 r.0 r.2 in
            let rest : operations_after core scope (done_first q.0) (second ∷ third ∷ fourth ∷ writes) s ≡ went fs u =
            ap (λ e. operations_after core scope (es ++ e ∷ []) (second ∷ third ∷ fourth ∷ writes) s) q.2 ∙ ap (λ (v : Store). operations_after core scope (es ++ r.0 ∷ []) (second ∷ third ∷ fourth ∷ writes) v) q.3 ∙ r.3 in
            let there : word_at (done_first q.0) at ≡ q.0 = word_end es (touched [] q.0) at same in
            let kept : word_at fs at ≡ q.0 = kept_run core scope (second ∷ third ∷ fourth ∷ writes) (done_first q.0) s fs u rest at (omega (arith, longer es (touched [] q.0) at (sym same))) ∙ there in
            by q.0 q.1 there rest (omega (arith, bit, kept))
          where
            compared : (o : Option ℕ) → Holds (Some begun) acc s o → (o : Option ℕ) × Holds (Some begun) acc s o × (put core begun 1 (put core acc (after_word joint o w) s) ≡ u)
            compared o h = let b = reduce_builds o s h in (o, h, ap (store_of s) (sym b.1 ∙ ran))

            by : (p : ℕ) → ReadsAs core begun (s begun) p → word_at (done_first p) at ≡ p → operations_after core scope (done_first p) (second ∷ third ∷ fourth ∷ writes) s ≡ went fs u → p < 2
                → (o : Option ℕ) × Holds (Some begun) acc s o × (put core begun 1 (put core acc (after_word joint o w) s) ≡ u)
            by zero reads there rest lt =
                let f : Front writes s w = front writes 0 0 left_out s reads refl (second_left (done_first 0) s there) in
                let last = split_run core scope (write_op ty acc ((at + 3) ∷ [])) (literal_op Bit 1 ∷ write_op Bit begun ((at + 5) ∷ []) ∷ []) f.done s fs u (sym f.ran ∙ ran) in
                compared None (reads, write_was core scope acc (word_at f.done (at + 3)) s last.1 last.0 last.2)
            by (suc zero) reads there rest lt =
                let r = split_run core scope second (third ∷ fourth ∷ writes) (done_first 1) s fs u rest in
                let q = read_was core scope acc s r.1 r.0 (sym (second_read (done_first 1) s there) ∙ r.2) in
                compared (Some q.0) (reads, q.1)
            by (suc (suc p)) reads there rest lt = absurd (omega (arith, lt))

      -- of both
      pub builds : (begun : Option ℕ) (o : Option ℕ) (s : Store) → Holds begun acc s o → (fs : List Entry) × (operations_after core scope es (combining begun at word acc ty comb) s ≡ went fs (combined_in begun acc (after_word joint o w) s))
      builds None None s h = absurd h
      builds None (Some a) s h = fold_builds a s h
      builds (Some b) o s h = reduce_builds b o s h

      -- the mask of the second read of a reduction is a bit
      abbrev pub IsBegun : Option ℕ → List Entry → Type 0
      IsBegun None fs = Unit {0}
      IsBegun (Some b) fs = word_at fs at < 2

      pub was_combined : (begun : Option ℕ) (s u : Store) (fs : List Entry) → IsBegun begun fs → operations_after core scope es (combining begun at word acc ty comb) s ≡ went fs u
          → (o : Option ℕ) × Holds begun acc s o × (combined_in begun acc (after_word joint o w) s ≡ u)
      was_combined None s u fs bit ran = let r = fold_was s u fs ran in (Some r.0, r.1, r.2)
      was_combined (Some b) s u fs bit ran = reduce_was b s u fs bit ran
