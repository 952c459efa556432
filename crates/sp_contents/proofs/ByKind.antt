-- What is done to a memory and to its copy, by the kind of the memory.
use Rattle.std.proofs.Common.{◌≡◌, ℕ, zero, suc, ◌<◌, ◌≤◌, inl, inr, true, false, List, [], ◌∷◌, ◌++◌, length, drop, replicate, arith, refl, sym, subst, ap, ◌∙◌}
use Rattle.std.proofs.lemmas.Bool.{cases_eq, cases_lt, true≢false, false≢true}
use Rattle.std.proofs.lemmas.List.{get_or-set_same, get_or-set_other, length-set}
use Rattle.std.specs.Prelude.{Option, Some, None, slice_index, slice_index_or, slice_set}
use Rattle.sp_words.specs.declared.kind.Kind.{Kind}
use Rattle.sp_words.specs.declared.kind.Kind.TheVariants as kinds
use Rattle.sp_words.specs.Interface.{word_count}
use Rattle.sp_words.specs.Memory.{Contents, cells, fresh_rows, fresh_of}
use Rattle.sp_core.specs.Accesses.{word_in, with_word, with_newest, without_oldest, with_new_row}
use Rattle.sp_core.specs.Declarations.{dims}
use Rattle.sp_core.specs.Elements.{row_major}
use Rattle.sp_core.specs.Meeting.{element}
use Rattle.sp_core.specs.PlainCore.{PlainCore}
use Rattle.sp_core.specs.Sequential.{has_reset}
use Rattle.sp_core.specs.Store.{cells_of, queue_of, rows_of, words_of}
use Rattle.sp_machine.specs.Found.{one_cell, written_to, is_read_in}
use Rattle.sp_contents.specs.Held.{RowHolds, RowsHold, IsShaped, Holds}
use Rattle.sp_contents.specs.Steady.{MayWrite, MayRead, IsFifo, IsLine, IsReg, IsMade}

pub no_some : {A : Type 0} (x : A) → None ≡ Some x → ⊥
no_some {A} x e = subst is_none e tt
  where
    is_none : Option A → Type 0
    is_none None = Unit {0}
    is_none (Some y) = ⊥

some_same : (x y : ℕ) → Some x ≡ Some y → x ≡ y
some_same x y e = ap value e
  where
    value : Option ℕ → ℕ
    value None = 0
    value (Some v) = v

abbrev blank : Option ℕ
blank = None

none_blank : (n j : ℕ) → slice_index_or (replicate n blank) j None ≡ None
none_blank zero j = refl
none_blank (suc n) zero = refl
none_blank (suc n) (suc j) = none_blank n j

-- rows and cells in which one is set
row_set : (xs ys : List (Option ℕ)) (j w : ℕ) → RowHolds xs ys → RowHolds (slice_set xs j (Some w)) (slice_set ys j (Some w))
row_set xs ys j w h = record {
  count = length-set xs j (Some w) ∙ h.count ∙ sym (length-set ys j (Some w));
  holds = λ i v e. elim (cases_eq i j) [
    | inl q ↦ elim (cases_lt j (length xs)) [
      | inl l ↦ (
          let here : slice_index_or (slice_set xs j (Some w)) i None ≡ Some w = ap (λ k. slice_index_or (slice_set xs j (Some w)) k None) q ∙ get_or-set_same xs j (Some w) None l in
          let there : slice_index_or (slice_set ys j (Some w)) i None ≡ Some w = ap (λ k. slice_index_or (slice_set ys j (Some w)) k None) q ∙ get_or-set_same ys j (Some w) None (let c : length xs ≡ length ys = h.count in omega arith) in
          there ∙ sym here ∙ e
          )
      | inr l ↦ absurd (no_some v (sym (past (slice_set xs j (Some w)) i (let c : length (slice_set xs j (Some w)) ≡ length xs = length-set xs j (Some w) in omega arith)) ∙ e))
    ]
    | inr n ↦ get_or-set_other ys j i (Some w) None n ∙ h.holds i v (sym (get_or-set_other xs j i (Some w) None n) ∙ e)
  ];
}
  where
    past : (xs : List (Option ℕ)) (i : ℕ) → length xs ≤ i → slice_index_or xs i None ≡ None
    past [] i l = refl
    past (x ∷ xs) zero l = absurd (omega arith)
    past (x ∷ xs) (suc i) l = past xs i (omega arith)

row_same : (xs ys : List (Option ℕ)) (u v : List (Option ℕ)) → xs ≡ u → ys ≡ v → RowHolds u v → RowHolds xs ys
row_same xs ys u v e f h = subst (λ x. RowHolds x ys) (sym e) (subst (λ y. RowHolds u y) (sym f) h)

beyond : (rs : List (List (Option ℕ))) (i : ℕ) → length rs ≤ i → slice_index_or rs i [] ≡ []
beyond [] i l = refl
beyond (r ∷ rs) zero l = absurd (omega arith)
beyond (r ∷ rs) (suc i) l = beyond rs i (omega arith)

empty_row : RowHolds [] []
empty_row = record { count = refl; holds = λ j w e. e }

rows_set : (rs cs : List (List (Option ℕ))) (i j w : ℕ) → RowsHold rs cs → RowsHold (slice_set rs i (slice_set (slice_index_or rs i []) j (Some w))) (slice_set cs i (slice_set (slice_index_or cs i []) j (Some w)))
rows_set rs cs i j w h = record {
  count = length-set rs i _ ∙ h.count ∙ sym (length-set cs i _);
  holds = λ k. elim (cases_eq k i) [
    | inl q ↦ elim (cases_lt i (length rs)) [
      | inl l ↦ row_same _ _ _ _
          (ap (λ x. slice_index_or (slice_set rs i (slice_set (slice_index_or rs i []) j (Some w))) x []) q ∙ get_or-set_same rs i _ [] l)
          (ap (λ x. slice_index_or (slice_set cs i (slice_set (slice_index_or cs i []) j (Some w))) x []) q ∙ get_or-set_same cs i _ [] (let c : length rs ≡ length cs = h.count in omega arith))
          (row_set (slice_index_or rs i []) (slice_index_or cs i []) j w (h.holds i))
      | inr l ↦ row_same _ _ _ _
          (beyond (slice_set rs i (slice_set (slice_index_or rs i []) j (Some w))) k (let c : length (slice_set rs i (slice_set (slice_index_or rs i []) j (Some w))) ≡ length rs = length-set rs i _ in omega arith))
          (beyond (slice_set cs i (slice_set (slice_index_or cs i []) j (Some w))) k (let c : length (slice_set cs i (slice_set (slice_index_or cs i []) j (Some w))) ≡ length cs = length-set cs i _ in let d : length rs ≡ length cs = h.count in omega arith))
          empty_row
    ]
    | inr n ↦ row_same _ _ _ _ (get_or-set_other rs i k _ [] n) (get_or-set_other cs i k _ [] n) (h.holds k)
  ];
}

pub shaped_set : (ds : List ℕ) (cs : List (List (Option ℕ))) (i j w : ℕ) → IsShaped ds cs → IsShaped ds (slice_set cs i (slice_set (slice_index_or cs i []) j (Some w)))
shaped_set ds cs i j w h = record {
  count = length-set cs i _ ∙ h.count;
  cells = λ k. elim (cases_eq k i) [
    | inl q ↦ elim (cases_lt i (length cs)) [
      | inl l ↦ ap length (ap (λ x. slice_index_or (slice_set cs i (slice_set (slice_index_or cs i []) j (Some w))) x []) q ∙ get_or-set_same cs i _ [] l) ∙ length-set (slice_index_or cs i []) j (Some w) ∙ ap (λ x. length (slice_index_or cs x [])) (sym q) ∙ h.cells k
      | inr l ↦ ap length (beyond (slice_set cs i (slice_set (slice_index_or cs i []) j (Some w))) k (let c : length (slice_set cs i (slice_set (slice_index_or cs i []) j (Some w))) ≡ length cs = length-set cs i _ in omega arith))
          ∙ ap length (sym (beyond cs k (omega arith))) ∙ h.cells k
    ]
    | inr n ↦ ap length (get_or-set_other cs i k _ [] n) ∙ h.cells k
  ];
}

-- rows that turn
turned : (r : List (Option ℕ)) (rs : List (List (Option ℕ))) (x : List (Option ℕ)) (k : ℕ) → slice_index_or (drop 1 (r ∷ rs) ++ x ∷ []) k [] ≡ slice_index_or (rs ++ x ∷ []) k []
turned r rs x k = refl

at_end : (rs cs : List (List (Option ℕ))) (x : List (Option ℕ)) → length rs ≡ length cs → ((i : ℕ) → RowHolds (slice_index_or rs i []) (slice_index_or cs i [])) → RowHolds x x → (k : ℕ) → RowHolds (slice_index_or (rs ++ x ∷ []) k []) (slice_index_or (cs ++ x ∷ []) k [])
at_end [] [] x e h q zero = q
at_end [] [] x e h q (suc k) = empty_row
at_end [] (c ∷ cs) x e h q k = absurd (omega (arith, e))
at_end (r ∷ rs) [] x e h q k = absurd (omega (arith, e))
at_end (r ∷ rs) (c ∷ cs) x e h q zero = h 0
at_end (r ∷ rs) (c ∷ cs) x e h q (suc k) = at_end rs cs x (let z : suc (length rs) ≡ suc (length cs) = e in omega arith) (λ i. h (suc i)) q k

count_end : (rs : List (List (Option ℕ))) (x : List (Option ℕ)) → length (rs ++ x ∷ []) ≡ suc (length rs)
count_end [] x = refl
count_end (r ∷ rs) x = ap suc (count_end rs x)

rows_turn : (rs cs : List (List (Option ℕ))) (x : List (Option ℕ)) → RowHolds x x → 0 < length rs → RowsHold rs cs → RowsHold (drop 1 rs ++ x ∷ []) (drop 1 cs ++ x ∷ [])
rows_turn [] cs x q l h = absurd (omega (arith, l))
rows_turn (r ∷ rs) [] x q l h = absurd (let e : suc (length rs) ≡ 0 = h.count in omega arith)
rows_turn (r ∷ rs) (c ∷ cs) x q l h =
    let e : length rs ≡ length cs = (let z : suc (length rs) ≡ suc (length cs) = h.count in omega arith) in
    record { count = count_end rs x ∙ ap suc e ∙ sym (count_end cs x); holds = λ k. at_end rs cs x e (λ i. h.holds (suc i)) q k }

length_blank : (n : ℕ) → length (replicate n blank) ≡ n
length_blank zero = refl
length_blank (suc n) = ap suc (length_blank n)

fresh_count : (r n : ℕ) → length (replicate r (replicate n blank)) ≡ r
fresh_count zero n = refl
fresh_count (suc r) n = ap suc (fresh_count r n)

-- a row of a fresh line buffer, but past its end
row_at : (r n k : ℕ) → k < r → slice_index_or (replicate r (replicate n blank)) k [] ≡ replicate n None
row_at zero n k l = absurd (omega (arith, l))
row_at (suc r) n zero l = refl
row_at (suc r) n (suc k) l = row_at r n k (omega arith)

pub shaped_turn : (r n : ℕ) (cs : List (List (Option ℕ))) → IsShaped (suc r ∷ n ∷ []) cs → IsShaped (suc r ∷ n ∷ []) (drop 1 cs ++ replicate n None ∷ [])
shaped_turn r n [] h = absurd (let e : 0 ≡ length (fresh_rows (suc r ∷ n ∷ [])) = h.count in let f : length (fresh_rows (suc r ∷ n ∷ [])) ≡ suc r = fresh_count (suc r) n in omega arith)
shaped_turn r n (c ∷ cs) h =
    let e : suc (length cs) ≡ length (fresh_rows (suc r ∷ n ∷ [])) = h.count in
    let f : length (fresh_rows (suc r ∷ n ∷ [])) ≡ suc r = fresh_count (suc r) n in
    let many : length cs ≡ r = omega arith in
    record {
      count = count_end cs (replicate n None) ∙ e;
      cells = λ k. elim (cases_lt k r) [
        | inl l ↦ inner cs k (omega arith) ∙ h.cells (suc k) ∙ ap length (row_at (suc r) n (suc k) (omega arith) ∙ sym (row_at (suc r) n k (omega arith)))
        | inr l ↦ elim (cases_eq k r) [
          | inl q ↦ ap length (last cs k (many ∙ sym q)) ∙ ap length (sym (row_at (suc r) n k (omega arith)))
          | inr q ↦ ap length (beyond (cs ++ replicate n None ∷ []) k (let z : length (cs ++ replicate n None ∷ []) ≡ suc (length cs) = count_end cs (replicate n None) in omega arith)) ∙ ap length (sym (beyond (fresh_rows (suc r ∷ n ∷ [])) k (omega arith)))
        ]
      ];
    }
  where
    inner : (cs : List (List (Option ℕ))) (k : ℕ) → k < length cs → length (slice_index_or (cs ++ replicate n None ∷ []) k []) ≡ length (slice_index_or cs k [])
    inner [] k l = absurd (omega (arith, l))
    inner (x ∷ cs) zero l = refl
    inner (x ∷ cs) (suc k) l = inner cs k (omega arith)

    last : (cs : List (List (Option ℕ))) (k : ℕ) → length cs ≡ k → slice_index_or (cs ++ replicate n None ∷ []) k [] ≡ replicate n None
    last [] zero e = refl
    last [] (suc k) e = absurd (omega (arith, e))
    last (x ∷ cs) zero e = absurd (omega (arith, e))
    last (x ∷ cs) (suc k) e = last cs k (let z : suc (length cs) ≡ suc k = e in omega arith)

blank_row : (n : ℕ) → RowHolds (replicate n None) (replicate n None)
blank_row n = record { count = refl; holds = λ j w e. e }

-- fresh rows have no word
fresh_rows_hold : (ds : List ℕ) (cs : List (List (Option ℕ))) → IsShaped ds cs → RowsHold (fresh_rows ds) cs
fresh_rows_hold ds cs h = record {
  count = sym h.count;
  holds = λ i. record { count = sym (h.cells i); holds = λ j w e. absurd (no_some w (sym (no_word ds i j) ∙ e)) };
}
  where
    none_at : (r n i j : ℕ) → slice_index_or (slice_index_or (replicate r (replicate n blank)) i []) j None ≡ None
    none_at zero n i j = refl
    none_at (suc r) n zero j = none_blank n j
    none_at (suc r) n (suc i) j = none_at r n i j

    no_word : (ds : List ℕ) (i j : ℕ) → slice_index_or (slice_index_or (fresh_rows ds) i []) j None ≡ None
    no_word (r ∷ n ∷ []) i j = none_at r n i j
    no_word [] i j = refl
    no_word (r ∷ []) i j = refl
    no_word (r ∷ n ∷ x ∷ ds) i j = refl

pub shaped_fresh : (ds : List ℕ) → IsShaped ds (fresh_rows ds)
shaped_fresh ds = record { count = refl; cells = λ i. refl }

module _ (core : PlainCore) where
  -- elements that are the same hold the same
  pub holds_same : (k : Kind) (ds : List ℕ) (c : Option Contents) (f g : ℕ → Option Contents) → ((i : ℕ) → g i ≡ f i) → Holds core k ds c f → Holds core k ds c g
  holds_same kinds.Reg ds c f g e h = λ w q. e 0 ∙ h w q
  holds_same kinds.Sram ds c f g e h = λ i w q. e i ∙ h i w q
  holds_same kinds.Fifo ds c f g e h = h ∙ ap queue_of (sym (e 0))
  holds_same kinds.LineBuf ds c f g e h = (subst (λ x. RowsHold (rows_of c) (rows_of x)) (sym (e 0)) h.0, h.1)
  holds_same kinds.Dram ds c f g e h = (h.0, λ i l. e i ∙ h.1 i l)
  holds_same kinds.ArgIn ds c f g e h = e 0 ∙ h
  holds_same kinds.ArgOut ds c f g e h = (h.0, e 0 ∙ h.1)

  -- a word that is found
  pub word_seen : (k : Kind) (m : ℕ) (is : List ℕ) (w : ℕ) (c : Option Contents) (f : ℕ → Option Contents) → word_in k (dims core m) is c ≡ Some w → MayRead k (dims core m) is → Holds core k (dims core m) c f → is_read_in core k m is w (f (element k (dims core m) is))
  word_seen kinds.Reg m is w c f e l h = h w e
  word_seen kinds.Sram m is w c f e l h = h (row_major (dims core m) is) w e
  word_seen kinds.Fifo m is w c f e l h = absurd (no_some w e)
  word_seen kinds.LineBuf m is w c f e l h = (h.0.holds (slice_index is 0)).holds (slice_index is 1) w e
  word_seen kinds.Dram m is w c f e l h = h.1 (row_major (dims core m) is) l ∙ ap (one_cell core) (some_same (slice_index (words_of c) (row_major (dims core m) is)) w e)
  word_seen kinds.ArgIn m is w c f e l h = h ∙ ap (one_cell core) (some_same (slice_index (words_of c) 0) w e)
  word_seen kinds.ArgOut m is w c f e l h = absurd (no_some w e)

  -- a word that is written
  pub word_put : (k : Kind) (m : ℕ) (is : List ℕ) (w : ℕ) (c : Option Contents) (f g : ℕ → Option Contents) → MayWrite k (dims core m) is → Holds core k (dims core m) c f
      → g (element k (dims core m) is) ≡ written_to core k m is w (f (element k (dims core m) is)) → ((i : ℕ) → (i ≡ element k (dims core m) is → ⊥) → g i ≡ f i) → Holds core k (dims core m) (Some (with_word k (dims core m) is w c)) g
  word_put kinds.Reg m is w c f g l h e others = λ v q. one (cells_of c) v q
    where
      one : (cs : List (Option ℕ)) (v : ℕ) → slice_index_or (slice_set cs 0 (Some w)) 0 None ≡ Some v → g 0 ≡ one_cell core v
      one [] v q = absurd (no_some v q)
      one (x ∷ cs) v q = e ∙ ap (one_cell core) (some_same w v q)
  word_put kinds.Sram m is w c f g l h e others = λ i v q. elim (cases_eq i (row_major (dims core m) is)) [
    | inl z ↦ elim (cases_lt (row_major (dims core m) is) (length (cells_of c))) [
      | inl y ↦ ap g z ∙ e ∙ ap (one_cell core) (some_same w v (sym (ap (λ k. slice_index_or (slice_set (cells_of c) (row_major (dims core m) is) (Some w)) k None) z ∙ get_or-set_same (cells_of c) (row_major (dims core m) is) (Some w) None y) ∙ q))
      | inr y ↦ absurd (no_some v (sym (past (slice_set (cells_of c) (row_major (dims core m) is) (Some w)) i (let b : length (slice_set (cells_of c) (row_major (dims core m) is) (Some w)) ≡ length (cells_of c) = length-set (cells_of c) (row_major (dims core m) is) (Some w) in omega arith)) ∙ q))
    ]
    | inr z ↦ others i z ∙ h i v (sym (get_or-set_other (cells_of c) (row_major (dims core m) is) i (Some w) None z) ∙ q)
  ]
    where
      past : (xs : List (Option ℕ)) (i : ℕ) → length xs ≤ i → slice_index_or xs i None ≡ None
      past [] i l = refl
      past (x ∷ xs) zero l = absurd (omega arith)
      past (x ∷ xs) (suc i) l = past xs i (omega arith)
  word_put kinds.Fifo m is w c f g l h e others = absurd l
  word_put kinds.LineBuf m is w c f g l h e others = (
    subst (λ x. RowsHold (rows_of (Some (with_word kinds.LineBuf (dims core m) is w c))) (rows_of x)) (sym e) (rows_set (rows_of c) (rows_of (f 0)) (slice_index is 0) (slice_index is 1) w h.0),
    shaped_set (dims core m) (rows_of c) (slice_index is 0) (slice_index is 1) w h.1,
  )
  word_put kinds.Dram m is w c f g l h e others = (
    length-set (words_of c) (row_major (dims core m) is) w ∙ h.0,
    λ i q. elim (cases_eq i (row_major (dims core m) is)) [
      | inl z ↦ ap g z ∙ e ∙ ap (one_cell core) (sym (ap (λ k. slice_index_or (slice_set (words_of c) (row_major (dims core m) is) w) k 0) z ∙ get_or-set_same (words_of c) (row_major (dims core m) is) w 0 (let b : length (words_of c) ≡ word_count (dims core m) = h.0 in omega arith)))
      | inr z ↦ others i z ∙ h.1 i q ∙ ap (one_cell core) (sym (get_or-set_other (words_of c) (row_major (dims core m) is) i w 0 z))
    ],
  )
  word_put kinds.ArgIn m is w c f g l h e others = absurd l
  word_put kinds.ArgOut m is w c f g l h e others = one (words_of c) h.0
    where
      one : (ws : List ℕ) → 0 < length ws → (0 < length (slice_set ws 0 w)) × (g 0 ≡ one_cell core (slice_index (slice_set ws 0 w) 0))
      one [] z = absurd (omega (arith, z))
      one (x ∷ ws) z = (omega arith, e)

  -- a queue
  pub newest_put : (k : Kind) (ds : List ℕ) (w : ℕ) (c : Option Contents) (f g : ℕ → Option Contents) → IsFifo k → Holds core k ds c f → g 0 ≡ Some (with_newest w (f 0)) → Holds core k ds (Some (with_newest w c)) g
  newest_put kinds.Fifo ds w c f g l h e = ap (λ ws. ws ++ w ∷ []) h ∙ ap queue_of (sym e)
  newest_put kinds.Reg ds w c f g l h e = absurd l
  newest_put kinds.Sram ds w c f g l h e = absurd l
  newest_put kinds.LineBuf ds w c f g l h e = absurd l
  newest_put kinds.Dram ds w c f g l h e = absurd l
  newest_put kinds.ArgIn ds w c f g l h e = absurd l
  newest_put kinds.ArgOut ds w c f g l h e = absurd l

  pub oldest_taken : (k : Kind) (ds : List ℕ) (c : Option Contents) (f g : ℕ → Option Contents) → IsFifo k → Holds core k ds c f → g 0 ≡ Some (without_oldest (f 0)) → Holds core k ds (Some (without_oldest c)) g
  oldest_taken kinds.Fifo ds c f g l h e = ap (drop 1) h ∙ ap queue_of (sym e)
  oldest_taken kinds.Reg ds c f g l h e = absurd l
  oldest_taken kinds.Sram ds c f g l h e = absurd l
  oldest_taken kinds.LineBuf ds c f g l h e = absurd l
  oldest_taken kinds.Dram ds c f g l h e = absurd l
  oldest_taken kinds.ArgIn ds c f g l h e = absurd l
  oldest_taken kinds.ArgOut ds c f g l h e = absurd l

  pub queue_is : (k : Kind) (ds : List ℕ) (c : Option Contents) (f : ℕ → Option Contents) → IsFifo k → Holds core k ds c f → queue_of c ≡ queue_of (f 0)
  queue_is kinds.Fifo ds c f l h = h
  queue_is kinds.Reg ds c f l h = absurd l
  queue_is kinds.Sram ds c f l h = absurd l
  queue_is kinds.LineBuf ds c f l h = absurd l
  queue_is kinds.Dram ds c f l h = absurd l
  queue_is kinds.ArgIn ds c f l h = absurd l
  queue_is kinds.ArgOut ds c f l h = absurd l

  -- rows that turn
  pub rows_turned : (k : Kind) (r n : ℕ) (c : Option Contents) (f g : ℕ → Option Contents) → IsLine k → Holds core k (suc r ∷ n ∷ []) c f → g 0 ≡ Some (with_new_row (suc r ∷ n ∷ []) (f 0)) → Holds core k (suc r ∷ n ∷ []) (Some (with_new_row (suc r ∷ n ∷ []) c)) g
  rows_turned kinds.LineBuf r n c f g l h e = (
    subst (λ x. RowsHold (drop 1 (rows_of c) ++ replicate n None ∷ []) (rows_of x)) (sym e)
        (rows_turn (rows_of c) (rows_of (f 0)) (replicate n None) (blank_row n) (let a : length (rows_of c) ≡ length (fresh_rows (suc r ∷ n ∷ [])) = h.1.count in let b : length (fresh_rows (suc r ∷ n ∷ [])) ≡ suc r = fresh_count (suc r) n in omega arith) h.0),
    shaped_turn r n (rows_of c) h.1,
  )
  rows_turned kinds.Fifo r n c f g l h e = absurd l
  rows_turned kinds.Reg r n c f g l h e = absurd l
  rows_turned kinds.Sram r n c f g l h e = absurd l
  rows_turned kinds.Dram r n c f g l h e = absurd l
  rows_turned kinds.ArgIn r n c f g l h e = absurd l
  rows_turned kinds.ArgOut r n c f g l h e = absurd l

  -- a memory that is made: what it starts with stands at its one element, and a blank one holds nothing
  pub start_held : (k : Kind) (ds : List ℕ) (start : Option ℕ) (g : ℕ → Option Contents) → has_reset k start ≡ true → g 0 ≡ Some (fresh_of k ds start []) → Holds core k ds (Some (fresh_of k ds start [])) g
  start_held kinds.Fifo ds start g h e = ap queue_of (sym e)
  start_held kinds.Reg ds (Some v) g h e = λ w q. e ∙ ap (one_cell core) (some_same v w q)
  start_held kinds.Reg ds None g h e = absurd (false≢true h)
  start_held kinds.Sram ds start g h e = absurd (false≢true h)
  start_held kinds.LineBuf ds start g h e = absurd (false≢true h)
  start_held kinds.Dram ds start g h e = absurd (false≢true h)
  start_held kinds.ArgIn ds start g h e = absurd (false≢true h)
  start_held kinds.ArgOut ds start g h e = absurd (false≢true h)

  pub blank_held : (k : Kind) (ds : List ℕ) (start : Option ℕ) (g : ℕ → Option Contents) → IsMade k → has_reset k start ≡ false → (k ≡ kinds.LineBuf → IsShaped ds (rows_of (g 0))) → Holds core k ds (Some (fresh_of k ds start [])) g
  blank_held kinds.Reg ds None g l h s = λ w q. absurd (no_some w q)
  blank_held kinds.Reg ds (Some v) g l h s = absurd (true≢false h)
  blank_held kinds.Sram ds start g l h s = λ i w q. absurd (no_some w (sym (none_blank (word_count ds) i) ∙ q))
  blank_held kinds.LineBuf ds start g l h s = (fresh_rows_hold ds (rows_of (g 0)) (s refl), shaped_fresh ds)
  blank_held kinds.Fifo ds start g l h s = absurd (true≢false h)
  blank_held kinds.Dram ds start g l h s = absurd l
  blank_held kinds.ArgIn ds start g l h s = absurd l
  blank_held kinds.ArgOut ds start g l h s = absurd l

  -- the state of an FSM
  pub kept_held : (k : Kind) (ds : List ℕ) (w : ℕ) (g : ℕ → Option Contents) → IsReg k → g 0 ≡ one_cell core w → Holds core k ds (Some (cells (Some w ∷ []))) g
  kept_held kinds.Reg ds w g l e = λ v q. e ∙ ap (one_cell core) (some_same w v q)
  kept_held kinds.Fifo ds w g l e = absurd l
  kept_held kinds.Sram ds w g l e = absurd l
  kept_held kinds.LineBuf ds w g l e = absurd l
  kept_held kinds.Dram ds w g l e = absurd l
  kept_held kinds.ArgIn ds w g l e = absurd l
  kept_held kinds.ArgOut ds w g l e = absurd l
