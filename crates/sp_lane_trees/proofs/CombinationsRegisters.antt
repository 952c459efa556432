-- Memories without an index that are read and written: what is read after a write, and one write after another.
use Rattle.std.proofs.Common.{◌≡◌, ℕ, zero, suc, Bool, true, false, List, [], ◌∷◌, Option, Some, None, refl, sym, ◌∙◌, ap, subst}
use Rattle.std.proofs.lemmas.Bool.{true≢false, eq-eqb, ne_eqb}
use Rattle.std.specs.Prelude.{slice_index_or, slice_set}
use Rattle.sp_words.specs.declared.kind.Kind.{Kind}
use Rattle.sp_words.specs.declared.kind.Kind.TheVariants.{Reg, Sram, Fifo, LineBuf, Dram, ArgIn, ArgOut}
use Rattle.sp_words.specs.Memory.{Contents, cells}
use Rattle.sp_core.specs.declared.operation.OpKind.TheVariants.{Read, Write}
use Rattle.sp_core.specs.Accesses.{word_in, with_word, written, inside, read_in, write_in}
use Rattle.sp_core.specs.Declarations.{kind_of, dims}
use Rattle.sp_core.specs.Elements.{are_inside, row_major}
use Rattle.sp_core.specs.History.{Entry, touched}
use Rattle.sp_core.specs.OperationRules.{can_read, can_write}
use Rattle.sp_core.specs.Operations.{access}
use Rattle.sp_core.specs.PlainCore.{PlainCore}
use Rattle.sp_core.specs.Scope.{Scope}
use Rattle.sp_core.specs.Step.{went, pure, ◌>>=◌, stop, ensure, look, change}
use Rattle.sp_core.specs.Store.{Store, hold, cells_of}
use Rattle.sp_lane_groups.proofs.LiveAlong.{did_go, answer_of, store_of}
use Rattle.sp_lane_groups.proofs.Renewed.{bind_known, bind_split}

-- a kind that may be read and written
abbrev pub IsBoth : Kind → Type 0
IsBoth k = (can_read k ≡ true) × (can_write k ≡ true)

set_back : (cs : List (Option ℕ)) (i w a : ℕ) → slice_index_or (slice_set cs i (Some w)) i None ≡ Some a → a ≡ w
set_back [] i w a e = cc
set_back (c ∷ cs) zero w a e = cc
set_back (c ∷ cs) (suc i) w a e = set_back cs i w a e

set_twice : (cs : List (Option ℕ)) (i : ℕ) (x y : Option ℕ) → slice_set (slice_set cs i x) i y ≡ slice_set cs i y
set_twice [] i x y = refl
set_twice (c ∷ cs) zero x y = refl
set_twice (c ∷ cs) (suc i) x y = ap (λ ds. c ∷ ds) (set_twice cs i x y)

-- what is read after a write
pub read_back : (k : Kind) (d : List ℕ) (w a : ℕ) (c : Option Contents) → IsBoth k → word_in k d [] (Some (with_word k d [] w c)) ≡ Some a → a ≡ w
read_back Reg d w a c h e = set_back (cells_of c) 0 w a e
read_back Sram d w a c h e = set_back (cells_of c) (row_major d []) w a e
read_back Fifo d w a c h e = absurd (true≢false (sym h.0))
read_back LineBuf d w a c h e = absurd (true≢false (sym h.1))
read_back Dram d w a c h e = absurd (true≢false (sym h.0))
read_back ArgIn d w a c h e = absurd (true≢false (sym h.1))
read_back ArgOut d w a c h e = absurd (true≢false (sym h.0))

-- one write after another
pub write_twice : (k : Kind) (d : List ℕ) (x y : ℕ) (c : Option Contents) → IsBoth k → with_word k d [] y (Some (with_word k d [] x c)) ≡ with_word k d [] y c
write_twice Reg d x y c h = ap cells (set_twice (cells_of c) 0 (Some x) (Some y))
write_twice Sram d x y c h = ap cells (set_twice (cells_of c) (row_major d []) (Some x) (Some y))
write_twice Fifo d x y c h = absurd (true≢false (sym h.0))
write_twice LineBuf d x y c h = absurd (true≢false (sym h.1))
write_twice Dram d x y c h = absurd (true≢false (sym h.0))
write_twice ArgIn d x y c h = absurd (true≢false (sym h.1))
write_twice ArgOut d x y c h = absurd (true≢false (sym h.0))

module _ (core : PlainCore) where
  -- a memory has one place without an index
  abbrev pub HasPlace : ℕ → Type 0
  HasPlace m = are_inside (dims core m) [] ≡ true

  -- there a word stands
  abbrev pub ReadsAs : ℕ → Option Contents → ℕ → Type 0
  ReadsAs m c a = HasPlace m × (word_in (kind_of core m) (dims core m) [] c ≡ Some a)

  -- the contents with a word there, and the store
  abbrev pub put_in : ℕ → ℕ → Option Contents → Contents
  put_in m w c = with_word (kind_of core m) (dims core m) [] w c

  abbrev pub put : ℕ → ℕ → Store → Store
  put m w s = hold s m (put_in m w (s m))

  pub put_here : (m w : ℕ) (s : Store) → put m w s m ≡ Some (put_in m w (s m))
  put_here m w s = ap (λ b. elim b as (λ _. Option Contents) [ true ↦ Some (put_in m w (s m)) | false ↦ s m ]) (eq-eqb m m refl)

  pub put_other : (m w : ℕ) (s : Store) (k : ℕ) → (k ≡ m → ⊥) → put m w s k ≡ s k
  put_other m w s k ne = ap (λ b. elim b as (λ _. Option Contents) [ true ↦ Some (put_in m w (s m)) | false ↦ s k ]) (ne_eqb k m ne)

  module _ (scope : Scope) where
    ensured : (b : Bool) (s u : Store) (a : Unit {0}) → ensure b s ≡ went a u → (b ≡ true) × (s ≡ u)
    unfolding pure stop
    ensured true s u a e = (refl, ap (store_of s) e)
    ensured false s u a e = absurd (true≢false (sym (ap did_go e)))

    in_place : (m : ℕ) (s : Store) → HasPlace m → inside core m [] s ≡ went [] s
    unfolding pure
    in_place m s h = bind_known (ensure (are_inside (dims core m) [])) (λ _. pure []) s s tt (ap (λ b. ensure b s) h)

    pub read_runs : (m a : ℕ) (s : Store) → ReadsAs m (s m) a → access core scope Read m [] s ≡ went (touched [] a) s
    unfolding pure look
    read_runs m a s h =
        bind_known (inside core m []) (λ is. read_in core m is >>= (λ w. pure (touched is w))) s s [] (in_place m s h.0)
        ∙ bind_known (read_in core m []) (λ w. pure (touched [] w)) s s a
        (bind_known (look (λ u. word_in (kind_of core m) (dims core m) [] (u m))) written s s (word_in (kind_of core m) (dims core m) [] (s m)) refl ∙ ap (λ o. written o s) h.1)

    was_inside : (m : ℕ) (s u : Store) (is : List ℕ) → inside core m [] s ≡ went is u → HasPlace m × (s ≡ u) × (is ≡ [])
    unfolding pure
    was_inside m s u is e =
        let r = bind_split (ensure (are_inside (dims core m) [])) (λ _. pure []) s u is e in
        let q = ensured (are_inside (dims core m) []) s r.1 r.0 r.2 in
        (q.0, q.1 ∙ ap (store_of s) r.3, sym (ap (answer_of is) r.3))

    was_written : (o : Option ℕ) (s u : Store) (a : ℕ) → written o s ≡ went a u → (o ≡ Some a) × (s ≡ u)
    unfolding pure stop
    was_written None s u a e = absurd (true≢false (sym (ap did_go e)))
    was_written (Some w) s u a e = (ap Some (ap (answer_of a) e), ap (store_of s) e)

    pub read_was : (m : ℕ) (s u : Store) (e : Entry) → access core scope Read m [] s ≡ went e u → (a : ℕ) × ReadsAs m (s m) a × (touched [] a ≡ e) × (s ≡ u)
    unfolding pure look
    read_was m s u e ran =
        let r = bind_split (inside core m []) (λ is. read_in core m is >>= (λ w. pure (touched is w))) s u e ran in
        let i = was_inside m s r.1 r.0 r.2 in
        let next : (read_in core m [] >>= (λ w. pure (touched [] w))) s ≡ went e u =
        subst (λ (v : Store). (read_in core m [] >>= (λ w. pure (touched [] w))) v ≡ went e u) (sym i.1) (subst (λ is. (read_in core m is >>= (λ w. pure (touched is w))) r.1 ≡ went e u) i.2 r.3) in
        let q = bind_split (read_in core m []) (λ w. pure (touched [] w)) s u e next in
        let l = bind_split (look (λ v. word_in (kind_of core m) (dims core m) [] (v m))) written s q.1 q.0 q.2 in
        let looked : word_in (kind_of core m) (dims core m) [] (s m) ≡ l.0 = ap (answer_of l.0) l.2 in
        let w = was_written l.0 l.1 q.1 q.0 l.3 in
        (q.0, (i.0, looked ∙ w.0), ap (answer_of e) q.3, ap (store_of s) l.2 ∙ w.1 ∙ ap (store_of s) q.3)

    pub write_runs : (m w : ℕ) (s : Store) → HasPlace m → access core scope Write m (w ∷ []) s ≡ went (touched [] w) (put m w s)
    unfolding pure change
    write_runs m w s h =
        bind_known (inside core m []) (λ is. write_in core m is w >>= (λ _. pure (touched is w))) s s [] (in_place m s h)
        ∙ bind_known (write_in core m [] w) (λ _. pure (touched [] w)) s (put m w s) tt refl

    pub write_was : (m w : ℕ) (s u : Store) (e : Entry) → access core scope Write m (w ∷ []) s ≡ went e u → HasPlace m
    unfolding pure
    write_was m w s u e ran =
        let r = bind_split (inside core m []) (λ is. write_in core m is w >>= (λ _. pure (touched is w))) s u e ran in
        (was_inside m s r.1 r.0 r.2).0
