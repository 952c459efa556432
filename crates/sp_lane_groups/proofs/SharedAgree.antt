-- Words that don't depend on the lane, in two runs of a body.
use Rattle.std.proofs.Common.{◌≡◌, ℕ, zero, suc, Bool, true, false, ◌&&◌, ◌||◌, List, [], ◌∷◌, ◌++◌, map, Option, None, Some, refl, sym, ◌∙◌, ap, subst, ◌==◌}
use Rattle.std.proofs.lemmas.Bool.{true≢false, eq-eqb}
use Rattle.std.specs.List.{list_any}
use Rattle.std.specs.Prelude.{slice_index_or}
use Rattle.sp_words.specs.declared.types.Ty.{Ty}
use Rattle.sp_core.specs.declared.operation.OpKind.{OpKind}
use Rattle.sp_core.specs.declared.operation.OpKind.TheVariants.{Word, Count, Live, Read, Write, Enq, Deq, Reset, One, Two, Shift, Mux, Cast}
use Rattle.sp_core.specs.Declarations.{is_among}
use Rattle.sp_core.specs.History.{Entry, left_out, gave, word_of, word_at}
use Rattle.sp_core.specs.Operations.{is_masked, done_by, operation, operations_after}
use Rattle.sp_core.specs.PlainCore.{PlainOp, PlainCore}
use Rattle.sp_core.specs.Scope.{Scope, count_word}
use Rattle.sp_core.specs.Step.{Step, went, pure, stop}
use Rattle.sp_core.specs.Store.{Store}
use Rattle.sp_lanes.specs.Shared.{is_of, changes_memory, does_change, is_of_lane, is_mask_of_lane, does_depend}
use Rattle.sp_lane_groups.specs.LiveStores.{IsPlainKind, ArePlain}
use Rattle.sp_lane_groups.proofs.LiveAccesses.{access_along}
use Rattle.sp_lane_groups.proofs.LiveAlong.{did_go, answer_of}
use Rattle.sp_lane_groups.proofs.LiveLane.{split_run, nothing_run}
use Rattle.sp_lane_groups.proofs.SharedKeeping.{same_here, write_gives, put_gives, reset_gives, op_leaves}

pub neither : (a b : Bool) → (a || b) ≡ false → (a ≡ false) × (b ≡ false)
neither true b e = absurd (true≢false e)
neither false b e = (refl, e)

-- whether operations depend on the lane, those before and these
module _ (counter : ℕ) (own : List ℕ) (body : List PlainOp) where
  abbrev pub all_flags : List Bool → List PlainOp → List Bool
  all_flags ds [] = ds
  all_flags ds (op ∷ ops) = all_flags (ds ++ does_depend counter own body ds op ∷ []) ops

-- each word that doesn't depend on it is the same in both
abbrev pub Agree : List Bool → List Entry → List Entry → Type 0
Agree [] [] [] = Unit {0}
Agree (d ∷ ds) (e ∷ es) (f ∷ fs) = (d ≡ false → word_of f ≡ word_of e) × Agree ds es fs
Agree _ _ _ = ⊥

pub agree_end : (ds : List Bool) (es fs : List Entry) (d : Bool) (e f : Entry) → Agree ds es fs → (d ≡ false → word_of f ≡ word_of e) → Agree (ds ++ d ∷ []) (es ++ e ∷ []) (fs ++ f ∷ [])
agree_end [] [] [] d e f h same = (same, tt)
agree_end (c ∷ ds) (x ∷ es) (y ∷ fs) d e f h same = (h.0, agree_end ds es fs d e f h.1 same)
agree_end [] [] (y ∷ fs) d e f h same = absurd h
agree_end [] (x ∷ es) fs d e f h same = absurd h
agree_end (c ∷ ds) [] fs d e f h same = absurd h
agree_end (c ∷ ds) (x ∷ es) [] d e f h same = absurd h

pub agree_at : (ds : List Bool) (es fs : List Entry) (k : ℕ) → Agree ds es fs → slice_index_or ds k false ≡ false → word_at fs k ≡ word_at es k
agree_at [] [] [] k h e = refl
agree_at (d ∷ ds) (x ∷ es) (y ∷ fs) zero h e = h.0 e
agree_at (d ∷ ds) (x ∷ es) (y ∷ fs) (suc k) h e = agree_at ds es fs k h.1 e
agree_at [] [] (y ∷ fs) k h e = absurd h
agree_at [] (x ∷ es) fs k h e = absurd h
agree_at (d ∷ ds) [] fs k h e = absurd h
agree_at (d ∷ ds) (x ∷ es) [] k h e = absurd h

args_agree : (ds : List Bool) (es fs : List Entry) (args : List ℕ) → Agree ds es fs → list_any (λ k. slice_index_or ds k false) args ≡ false → map (word_at fs) args ≡ map (word_at es) args
args_agree ds es fs [] h e = refl
args_agree ds es fs (a ∷ args) h e =
    let p = neither (slice_index_or ds a false) (list_any (λ k. slice_index_or ds k false) args) e in
    ap (λ n. n ∷ map (word_at fs) args) (agree_at ds es fs a h p.0) ∙ ap (λ l. word_at es a ∷ l) (args_agree ds es fs args h p.1)

module _ (core : PlainCore) (counter : ℕ) (own : List ℕ) (body : List PlainOp) (one two : Scope) (counters : (c : ℕ) → (c ≡ counter → ⊥) → count_word (two c) 0 ≡ count_word (one c) 0) where
  abbrev pub HoldSame : Store → Store → Type 0
  HoldSame s t = (m : ℕ) → is_among m own ≡ false → does_change body m ≡ false → t m ≡ s m

  -- two steps that give the same word
  abbrev SameWord : Store → Store → Step Entry → Step Entry → Type 0
  SameWord s t first second = (u v : Store) (e f : Entry) → first s ≡ went e u → second t ≡ went f v → word_of f ≡ word_of e

  pure_same : (s t : Store) (x y : Entry) → y ≡ x → SameWord s t (pure x) (pure y)
  unfolding pure
  pure_same s t x y same u v e f i j = sym (ap (λ r. word_of (answer_of y r)) j) ∙ ap word_of same ∙ ap (λ r. word_of (answer_of x r)) i

  stop_same : (s t : Store) (second : Step Entry) → SameWord s t stop second
  unfolding stop
  stop_same s t second u v e f i j = absurd (true≢false (sym (ap did_go i)))

  done_same : (kind : OpKind) (ty : Ty) (mem : Option ℕ) (args : List ℕ) (s t : Store) → IsPlainKind kind → is_of_lane counter own body kind mem ≡ false → HoldSame s t
      → SameWord s t (done_by core one kind ty mem args) (done_by core two kind ty mem args)
  done_same (Word w) ty mem args s t p d h = pure_same s t (gave w) (gave w) refl
  done_same (Count c l) ty mem args s t p d h =
      pure_same s t (gave (count_word (one c) l)) (gave (count_word (two c) l))
      (ap gave (ap (count_word (two c)) p ∙ counters c (λ same. true≢false (sym (eq-eqb c counter same) ∙ d)) ∙ ap (count_word (one c)) (sym p)))
  done_same (Live c first last) ty mem args s t p d h = absurd p
  done_same Read ty None args s t p d h = stop_same s t (done_by core two Read ty None args)
  done_same Read ty (Some m) args s t p d h = λ u v e f i j.
      let q = neither (is_among m own) (does_change body m) d in
      let x = access_along core core m m (same_here core m) one two Read args s t (h m q.0 q.1) e u i in
      ap (λ r. word_of (answer_of f r)) (sym j ∙ x.1)
  done_same Write ty None args s t p d h = stop_same s t (done_by core two Write ty None args)
  done_same Write ty (Some m) args s t p d h = λ u v e f i j. write_gives core two m args t v f j ∙ sym (write_gives core one m args s u e i)
  done_same Enq ty None args s t p d h = stop_same s t (done_by core two Enq ty None args)
  done_same Enq ty (Some m) args s t p d h = λ u v e f i j. put_gives core two m args t v f j ∙ sym (put_gives core one m args s u e i)
  done_same Deq ty mem args s t p d h = absurd (true≢false d)
  done_same Reset ty None args s t p d h = stop_same s t (done_by core two Reset ty None args)
  done_same Reset ty (Some m) args s t p d h = λ u v e f i j. reset_gives core two m args t v f j ∙ sym (reset_gives core one m args s u e i)
  done_same (One op) ty mem args s t p d h = pure_same s t _ _ refl
  done_same (Two op) ty mem args s t p d h = pure_same s t _ _ refl
  done_same (Shift left by) ty mem args s t p d h = pure_same s t _ _ refl
  done_same Mux ty mem args s t p d h = pure_same s t _ _ refl
  done_same (Cast to) ty mem args s t p d h = pure_same s t _ _ refl

  op_same : (op : PlainOp) (ds : List Bool) (es fs : List Entry) (s t : Store) → IsPlainKind op.kind → Agree ds es fs → HoldSame s t → does_depend counter own body ds op ≡ false
      → SameWord s t (operation core one op es) (operation core two op fs)
  op_same op ds es fs s t p agree h d u v e f i j =
      let a = neither (is_of_lane counter own body op.kind op.mem || is_mask_of_lane counter own body ds op.mask) (list_any (λ k. slice_index_or ds k false) op.args) d in
      let b = neither (is_of_lane counter own body op.kind op.mem) (is_mask_of_lane counter own body ds op.mask) a.0 in
      let masks : is_masked op.mask fs ≡ is_masked op.mask es = same_mask op.mask b.1 in
      by b.0 (is_masked op.mask es) i
      (subst (λ l. elim (is_masked op.mask es) as (λ _. Step Entry) [ true ↦ pure left_out | false ↦ done_by core two op.kind op.ty op.mem l ] t ≡ went f v) (args_agree ds es fs op.args agree a.1)
      (subst (λ c. elim c as (λ _. Step Entry) [ true ↦ pure left_out | false ↦ done_by core two op.kind op.ty op.mem (map (word_at fs) op.args) ] t ≡ went f v) masks j))
    where
      same_mask : (mask : Option ℕ) → is_mask_of_lane counter own body ds mask ≡ false → is_masked mask fs ≡ is_masked mask es
      same_mask None q = refl
      same_mask (Some k) q = ap (λ n. n == 0) (agree_at ds es fs k agree q)

      by : is_of_lane counter own body op.kind op.mem ≡ false → (c : Bool)
          → elim c as (λ _. Step Entry) [ true ↦ pure left_out | false ↦ done_by core one op.kind op.ty op.mem (map (word_at es) op.args) ] s ≡ went e u
          → elim c as (λ _. Step Entry) [ true ↦ pure left_out | false ↦ done_by core two op.kind op.ty op.mem (map (word_at es) op.args) ] t ≡ went f v → word_of f ≡ word_of e
      by q true x y = pure_same s t left_out left_out refl u v e f x y
      by q false x y = done_same op.kind op.ty op.mem (map (word_at es) op.args) s t p q h u v e f x y

  pub agree_after : (ops : List PlainOp) (ds : List Bool) (es fs : List Entry) (s t after ended : Store) (last last_too : List Entry) → ArePlain ops → ((m : ℕ) → does_change body m ≡ false → does_change ops m ≡ false)
      → Agree ds es fs → HoldSame s t → operations_after core one es ops s ≡ went last after → operations_after core two fs ops t ≡ went last_too ended → Agree (all_flags counter own body ds ops) last last_too
  agree_after [] ds es fs s t after ended last last_too p part agree h i j =
      subst (λ l. Agree ds l last_too) (nothing_run core one es s last after i).0 (subst (λ l. Agree ds es l) (nothing_run core two fs t last_too ended j).0 agree)
  agree_after (op ∷ ops) ds es fs s t after ended last last_too p part agree h i j =
      let x = split_run core one op ops es s last after i in
      let y = split_run core two op ops fs t last_too ended j in
      let parts = λ (m : ℕ) (c : does_change body m ≡ false). neither (changes_memory op.kind && is_of op.mem m) (does_change ops m) (part m c) in
      agree_after ops (ds ++ does_depend counter own body ds op ∷ []) (es ++ x.0 ∷ []) (fs ++ y.0 ∷ []) x.1 y.1 after ended last last_too p.1 (λ m c. (parts m c).1)
      (agree_end ds es fs (does_depend counter own body ds op) x.0 y.0 agree (λ d. op_same op ds es fs s t p.0 agree h d x.1 y.1 x.0 y.0 x.2 y.2))
      (λ m o c. op_leaves core two op fs t y.1 y.0 y.2 m (parts m c).0 ∙ h m o c ∙ sym (op_leaves core one op es s x.1 x.0 x.2 m (parts m c).0))
      x.3 y.3
