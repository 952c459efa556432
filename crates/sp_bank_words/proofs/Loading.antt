-- What loads of one cell and turns leave of a line buffer.
use Rattle.std.proofs.Common.{◌≡◌, ℕ, zero, suc, Bool, true, false, cond, ◌||◌, List, [], ◌∷◌, slice_index_or, All, Option, Some, refl, sym, ap, ◌∙◌, arith}
use Rattle.std.specs.List.{Contains}
use Rattle.std.specs.Prelude.{slice_set, slice_index}
use Rattle.std.proofs.lemmas.Bool.{false≢true}
use Rattle.sp_words.specs.declared.kind.Kind.TheVariants.{LineBuf}
use Rattle.sp_words.specs.Memory.{Contents, rows}
use Rattle.sp_netlist.specs.Signals.{Signals}
use Rattle.sp_mem.specs.declared.part.Fresh.{Fresh}
use Rattle.sp_mem.specs.declared.part.Touch.{Touch}
use Rattle.sp_mem.specs.Copies.{is_at}
use Rattle.sp_core.specs.Accesses.{with_word}
use Rattle.sp_core.specs.Store.{rows_of}
use Rattle.sp_lines.specs.declared.part.Lines.{Lines}
use Rattle.sp_lines.specs.Turns.{is_turned}
use Rattle.sp_lines.specs.Spots.{load_spot}
use Rattle.sp_lines.specs.Buffers.{dims_of, buffer_loaded}

-- a cell that takes a word twice has it once
cell_again : (xs : List (Option ℕ)) (j : ℕ) (v : Option ℕ) → slice_set (slice_set xs j v) j v ≡ slice_set xs j v
cell_again [] j v = refl
cell_again (x ∷ xs) zero v = refl
cell_again (x ∷ xs) (suc j) v = ap (λ ys. x ∷ ys) (cell_again xs j v)

abbrev with_cell : List (List (Option ℕ)) → (row column word : ℕ) → List (List (Option ℕ))
with_cell rs r j w = slice_set rs r (slice_set (slice_index_or rs r []) j (Some w))

row_again : (rs : List (List (Option ℕ))) (r j w : ℕ) → with_cell (with_cell rs r j w) r j w ≡ with_cell rs r j w
row_again [] r j w = refl
row_again (x ∷ rs) zero j w = ap (λ y. y ∷ rs) (cell_again x j (Some w))
row_again (x ∷ rs) (suc r) j w = ap (λ ys. x ∷ ys) (row_again rs r j w)

pub load_again : (ds is : List ℕ) (w : ℕ) (c : Contents) → with_word LineBuf ds is w (Some (with_word LineBuf ds is w (Some c))) ≡ with_word LineBuf ds is w (Some c)
load_again ds is w c = ap rows (row_again (rows_of (Some c)) (slice_index is 0) (slice_index is 1) w)

same_load : (ds is js : List ℕ) (w v : ℕ) (c d : Contents) → is ≡ js → w ≡ v → c ≡ d → with_word LineBuf ds is w (Some c) ≡ with_word LineBuf ds js v (Some d)
same_load ds is js w v c d e f g = rw (e, f, g) refl

taken_if : (b : Bool) (x y z : Contents) → (b ≡ true → x ≡ z) → (b ≡ false → y ≡ z) → cond b x y ≡ z
taken_if true x y z f g = f refl
taken_if false x y z f g = g refl

module _ (s : Signals) (t copy : ℕ) (part : Lines) where
  abbrev pub is_loaded : Touch → Bool
  is_loaded w = is_at s t w.enable w.copy copy

  -- where no load is enabled at the copy
  pub none_loaded : (ws : List Touch) (c : Contents) → All (λ w. is_loaded w ≡ true → ⊥) ws → buffer_loaded s t copy part ws c ≡ c
  none_loaded [] c h = refl
  none_loaded (w ∷ ws) c h =
      ap (buffer_loaded s t copy part ws) (taken_if (is_loaded w) (with_word LineBuf (dims_of part) (load_spot part.rows s t w) (s.net t w.word) (Some c)) c c (λ e. absurd (h 0 w (omega arith) e)) (λ e. refl))
      ∙ none_loaded ws c (λ k d l. h (suc k) d (omega (arith, l)))

  -- and where some are, all of one word at one cell
  module _ (is : List ℕ) (v : ℕ) (base : Contents) where
    abbrev loaded : Contents
    loaded = with_word LineBuf (dims_of part) is v (Some base)

    abbrev pub OneLoad : Touch → Type 0
    OneLoad w = is_loaded w ≡ true → (load_spot part.rows s t w ≡ is) × (s.net t w.word ≡ v)

    -- the same load once more, and for the first time
    again : (w : Touch) (c : Contents) → OneLoad w → is_loaded w ≡ true → c ≡ loaded → with_word LineBuf (dims_of part) (load_spot part.rows s t w) (s.net t w.word) (Some c) ≡ loaded
    again w c h on e = same_load (dims_of part) _ is _ v c _ (h on).0 (h on).1 e ∙ load_again (dims_of part) is v base

    once : (w : Touch) (c : Contents) → OneLoad w → is_loaded w ≡ true → c ≡ base → with_word LineBuf (dims_of part) (load_spot part.rows s t w) (s.net t w.word) (Some c) ≡ loaded
    once w c h on e = same_load (dims_of part) _ is _ v c _ (h on).0 (h on).1 e

    after_loaded : (ws : List Touch) (c : Contents) → All OneLoad ws → c ≡ loaded → buffer_loaded s t copy part ws c ≡ loaded
    after_loaded [] c h e = e
    after_loaded (w ∷ ws) c h e = after_loaded ws _ (λ k d l. h (suc k) d (omega (arith, l))) (taken_if (is_loaded w) _ c loaded (λ on. again w c (h 0 w (omega arith)) on e) (λ off. e))

    next : (u : Touch) (ws : List Touch) (c : Contents) → OneLoad u → All OneLoad ws → c ≡ base → (b : Bool) → is_loaded u ≡ b → buffer_loaded s t copy part ws c ≡ loaded
        → buffer_loaded s t copy part ws (cond b (with_word LineBuf (dims_of part) (load_spot part.rows s t u) (s.net t u.word) (Some c)) c) ≡ loaded
    next u ws c one rest e true here more = after_loaded ws _ rest (once u c one here e)
    next u ws c one rest e false off more = more

    pub some_loaded : (ws : List Touch) (c : Contents) → All OneLoad ws → c ≡ base → (w : Touch) → Contains ws w → is_loaded w ≡ true → buffer_loaded s t copy part ws c ≡ loaded
    some_loaded [] c h e w (k, l, q) on = absurd (omega (arith, l))
    some_loaded (u ∷ ws) c h e w (zero, l, q) on =
        after_loaded ws _ (λ k d l. h (suc k) d (omega (arith, l))) (taken_if (is_loaded u) _ c loaded (λ here. once u c (h 0 u (omega arith)) here e) (λ off. absurd (false≢true (sym off ∙ ap is_loaded q ∙ on))))
    some_loaded (u ∷ ws) c h e w (suc k, l, q) on =
        next u ws c (h 0 u (omega arith)) (λ j d m. h (suc j) d (omega (arith, m))) e (is_loaded u) refl (some_loaded ws c (λ j d m. h (suc j) d (omega (arith, m))) e w (k, omega (arith, l), q) on)

  -- whether rows turn
  pub none_turned : (fs : List Fresh) → All (λ f. is_at s t f.enable f.copy copy ≡ true → ⊥) fs → is_turned s t copy fs ≡ false
  none_turned [] h = refl
  none_turned (f ∷ fs) h = no_more _ _ (h 0 f (omega arith)) (none_turned fs (λ k d l. h (suc k) d (omega (arith, l))))
    where
      no_more : (a b : Bool) → (a ≡ true → ⊥) → b ≡ false → (a || b) ≡ false
      no_more true b h e = absurd (h refl)
      no_more false b h e = e

  pub some_turned : (fs : List Fresh) (f : Fresh) → Contains fs f → is_at s t f.enable f.copy copy ≡ true → is_turned s t copy fs ≡ true
  some_turned [] f (k, l, q) on = absurd (omega (arith, l))
  some_turned (g ∷ fs) f (zero, l, q) on = ap (λ b. b || is_turned s t copy fs) (ap (λ (h : Fresh). is_at s t h.enable h.copy copy) q ∙ on)
  some_turned (g ∷ fs) f (suc k, l, q) on = either _ _ (some_turned fs f (k, omega (arith, l), q) on)
    where
      either : (a b : Bool) → b ≡ true → (a || b) ≡ true
      either true b e = refl
      either false b e = e
