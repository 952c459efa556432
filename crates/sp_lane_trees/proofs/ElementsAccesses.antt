-- Reads and writes of elements, by the words of their indices.
use Rattle.std.proofs.Common.{◌≡◌, ℕ, ◌-◌, Bool, true, false, ◌==◌, List, [], ◌∷◌, ◌++◌, length, map, Option, Some, None, refl, sym, ◌∙◌, ap, subst, arith}
use Rattle.std.proofs.lemmas.Bool.{true≢false, eq-eqb, ne_eqb}
use Rattle.std.proofs.lemmas.List.{length-append}
use Rattle.std.specs.Prelude.{slice_index, take}
use Rattle.sp_words.specs.Memory.{Contents}
use Rattle.sp_core.specs.declared.operation.OpKind.TheVariants.{Read, Write}
use Rattle.sp_core.specs.Accesses.{word_in, with_word, written, inside, read_in, write_in, write_at}
use Rattle.sp_core.specs.Declarations.{kind_of, dims}
use Rattle.sp_core.specs.Elements.{index_value, natural, are_inside}
use Rattle.sp_core.specs.History.{Entry, touched}
use Rattle.sp_core.specs.Operations.{access}
use Rattle.sp_core.specs.PlainCore.{PlainCore}
use Rattle.sp_core.specs.Scope.{Scope}
use Rattle.sp_core.specs.Step.{went, pure, ◌>>=◌, stop, ensure, look, change}
use Rattle.sp_core.specs.Store.{Store, hold}
use Rattle.sp_lane_groups.proofs.LiveAlong.{did_go, answer_of, store_of}
use Rattle.sp_lane_groups.proofs.Renewed.{bind_known, bind_split}
use Rattle.sp_lane_trees.proofs.CombinationsRegisters.{ReadsAs, put}

-- the indices that words are
abbrev pub indices : List ℕ → List ℕ
indices ws = map (λ i. natural (index_value i)) ws

module _ (core : PlainCore) where
  -- a memory has an element at the indices of these words
  abbrev pub HasElement : ℕ → List ℕ → Type 0
  HasElement m ws = are_inside (dims core m) (map index_value ws) ≡ true

  -- there a word stands
  abbrev pub ElementIs : ℕ → List ℕ → Option Contents → ℕ → Type 0
  ElementIs m ws c a = HasElement m ws × (word_in (kind_of core m) (dims core m) (indices ws) c ≡ Some a)

  -- the contents with a word there, and the store
  abbrev pub set_in : ℕ → List ℕ → ℕ → Option Contents → Contents
  set_in m ws w c = with_word (kind_of core m) (dims core m) (indices ws) w c

  abbrev pub set_at : ℕ → List ℕ → ℕ → Store → Store
  set_at m ws w s = hold s m (set_in m ws w (s m))

  pub set_here : (m : ℕ) (ws : List ℕ) (w : ℕ) (s : Store) → set_at m ws w s m ≡ Some (set_in m ws w (s m))
  set_here m ws w s = ap (λ b. elim b as (λ _. Option Contents) [ true ↦ Some (set_in m ws w (s m)) | false ↦ s m ]) (eq-eqb m m refl)

  pub set_elsewhere : (m : ℕ) (ws : List ℕ) (w : ℕ) (s : Store) (k : ℕ) → (k ≡ m → ⊥) → set_at m ws w s k ≡ s k
  set_elsewhere m ws w s k ne = ap (λ b. elim b as (λ _. Option Contents) [ true ↦ Some (set_in m ws w (s m)) | false ↦ s k ]) (ne_eqb k m ne)

  module _ (scope : Scope) where
    ensured : (b : Bool) (s u : Store) (a : Unit {0}) → ensure b s ≡ went a u → (b ≡ true) × (s ≡ u)
    unfolding pure stop
    ensured true s u a e = (refl, ap (store_of s) e)
    ensured false s u a e = absurd (true≢false (sym (ap did_go e)))

    in_place : (m : ℕ) (ws : List ℕ) (s : Store) → HasElement m ws → inside core m ws s ≡ went (indices ws) s
    unfolding pure
    in_place m ws s h = bind_known (ensure (are_inside (dims core m) (map index_value ws))) (λ _. pure (indices ws)) s s tt (ap (λ b. ensure b s) h)

    pub read_runs : (m : ℕ) (ws : List ℕ) (a : ℕ) (s : Store) → ElementIs m ws (s m) a → access core scope Read m ws s ≡ went (touched (indices ws) a) s
    unfolding pure look
    read_runs m ws a s h =
        bind_known (inside core m ws) (λ is. read_in core m is >>= (λ w. pure (touched is w))) s s (indices ws) (in_place m ws s h.0)
        ∙ bind_known (read_in core m (indices ws)) (λ w. pure (touched (indices ws) w)) s s a
        (bind_known (look (λ u. word_in (kind_of core m) (dims core m) (indices ws) (u m))) written s s (word_in (kind_of core m) (dims core m) (indices ws) (s m)) refl ∙ ap (λ o. written o s) h.1)

    was_inside : (m : ℕ) (ws : List ℕ) (s u : Store) (is : List ℕ) → inside core m ws s ≡ went is u → HasElement m ws × (s ≡ u) × (is ≡ indices ws)
    unfolding pure
    was_inside m ws s u is e =
        let r = bind_split (ensure (are_inside (dims core m) (map index_value ws))) (λ _. pure (indices ws)) s u is e in
        let q = ensured (are_inside (dims core m) (map index_value ws)) s r.1 r.0 r.2 in
        (q.0, q.1 ∙ ap (store_of s) r.3, sym (ap (answer_of is) r.3))

    was_written : (o : Option ℕ) (s u : Store) (a : ℕ) → written o s ≡ went a u → (o ≡ Some a) × (s ≡ u)
    unfolding pure stop
    was_written None s u a e = absurd (true≢false (sym (ap did_go e)))
    was_written (Some w) s u a e = (ap Some (ap (answer_of a) e), ap (store_of s) e)

    pub read_was : (m : ℕ) (ws : List ℕ) (s u : Store) (e : Entry) → access core scope Read m ws s ≡ went e u → (a : ℕ) × ElementIs m ws (s m) a × (touched (indices ws) a ≡ e) × (s ≡ u)
    unfolding pure look
    read_was m ws s u e ran =
        let at : List ℕ = indices ws in
        let r = bind_split (inside core m ws) (λ is. read_in core m is >>= (λ w. pure (touched is w))) s u e ran in
        let i = was_inside m ws s r.1 r.0 r.2 in
        let next : (read_in core m at >>= (λ w. pure (touched at w))) s ≡ went e u =
        subst (λ (v : Store). (read_in core m at >>= (λ w. pure (touched at w))) v ≡ went e u) (sym i.1) (subst (λ is. (read_in core m is >>= (λ w. pure (touched is w))) r.1 ≡ went e u) i.2 r.3) in
        let q = bind_split (read_in core m at) (λ w. pure (touched at w)) s u e next in
        let l = bind_split (look (λ v. word_in (kind_of core m) (dims core m) at (v m))) written s q.1 q.0 q.2 in
        let looked : word_in (kind_of core m) (dims core m) at (s m) ≡ l.0 = ap (answer_of l.0) l.2 in
        let w = was_written l.0 l.1 q.1 q.0 l.3 in
        (q.0, (i.0, looked ∙ w.0), ap (answer_of e) q.3, ap (store_of s) l.2 ∙ w.1 ∙ ap (store_of s) q.3)

    -- the operands of a write: its indices, and then the word
    all_but_last : (ws : List ℕ) (w : ℕ) → take (length (ws ++ w ∷ []) - 1) (ws ++ w ∷ []) ≡ ws
    all_but_last ws w = ap (λ n. take n (ws ++ w ∷ [])) {x = length (ws ++ w ∷ []) - 1} {y = length ws} (omega (arith, length-append ws (w ∷ []))) ∙ front ws
      where
        front : (xs : List ℕ) → take (length xs) (xs ++ w ∷ []) ≡ xs
        front [] = refl
        front (x ∷ xs) = ap (λ l. x ∷ l) (front xs)

    last_one : (ws : List ℕ) (w : ℕ) → slice_index (ws ++ w ∷ []) (length (ws ++ w ∷ []) - 1) ≡ w
    last_one ws w = ap (λ n. slice_index (ws ++ w ∷ []) n) {x = length (ws ++ w ∷ []) - 1} {y = length ws} (omega (arith, length-append ws (w ∷ []))) ∙ end ws
      where
        end : (xs : List ℕ) → slice_index (xs ++ w ∷ []) (length xs) ≡ w
        end [] = refl
        end (x ∷ xs) = end xs

    write_is : (m : ℕ) (ws : List ℕ) (w : ℕ) (s : Store) → access core scope Write m (ws ++ w ∷ []) s ≡ write_at core m ws w s
    write_is m ws w s = ap (λ xs. write_at core m xs (slice_index (ws ++ w ∷ []) (length (ws ++ w ∷ []) - 1)) s) (all_but_last ws w) ∙ ap (λ x. write_at core m ws x s) (last_one ws w)

    pub write_runs : (m : ℕ) (ws : List ℕ) (w : ℕ) (s : Store) → HasElement m ws → access core scope Write m (ws ++ w ∷ []) s ≡ went (touched (indices ws) w) (set_at m ws w s)
    unfolding pure change
    write_runs m ws w s h =
        write_is m ws w s
        ∙ bind_known (inside core m ws) (λ is. write_in core m is w >>= (λ _. pure (touched is w))) s s (indices ws) (in_place m ws s h)
        ∙ bind_known (write_in core m (indices ws) w) (λ _. pure (touched (indices ws) w)) s (set_at m ws w s) tt refl

    pub write_was : (m : ℕ) (ws : List ℕ) (w : ℕ) (s u : Store) (e : Entry) → access core scope Write m (ws ++ w ∷ []) s ≡ went e u → HasElement m ws
    unfolding pure
    write_was m ws w s u e ran =
        let r = bind_split (inside core m ws) (λ is. write_in core m is w >>= (λ _. pure (touched is w))) s u e (sym (write_is m ws w s) ∙ ran) in
        (was_inside m ws s r.1 r.0 r.2).0

  -- what the accumulator holds of this run at an element
  abbrev pub HoldsAt : (begun acc : ℕ) → List ℕ → (s : Store) → Option ℕ → Type 0
  HoldsAt begun acc ws s None = ReadsAs core begun (s begun) 0 × HasElement acc ws
  HoldsAt begun acc ws s (Some a) = ReadsAs core begun (s begun) 1 × ElementIs acc ws (s acc) a

  -- the flag is written where a word isn't 0
  abbrev pub flagged : (begun last : ℕ) → Store → Store
  flagged begun last s = elim (last == 0) [ true ↦ s | false ↦ put core begun 1 s ]

  -- the store after a word is written
  abbrev pub written_at : (begun acc : ℕ) → List ℕ → (last x : ℕ) → Store → Store
  written_at begun acc ws last x s = flagged begun last (set_at acc ws x s)
