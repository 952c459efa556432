-- What memories hold stays words of their types.
use Rattle.std.proofs.Common.{◌≡◌, ℕ, zero, suc, ◌<◌, ◌≤◌, ◌-◌, ◌+◌, ◌^◌, Bool, true, false, ◌&&◌, List, [], ◌∷◌, length, replicate, Option, Some, None, All, IfSome, refl, sym, ap, ◌∙◌, subst, arith, slice_index, slice_index_or, pow_pos, drop, if◌then◌else◌}
use Rattle.std.proofs.lemmas.Bool.{and_parts, false≢true, ltb-true, ltb-false, eqb-true, le-ltb}
use Rattle.std.proofs.lemmas.List.Elements.{All-nil, All-cons, All-head, All-tail, All-set, All-push, All-drop, All-replicate}
use Rattle.std.specs.List.{list_all}
use Rattle.std.specs.Prelude.{◌==◌, nat_lt}
use Rattle.sp_words.specs.declared.kind.Kind.{Kind}
use Rattle.sp_words.specs.declared.kind.Kind.TheVariants.{Reg, Sram, Fifo, LineBuf, Dram, ArgIn, ArgOut}
use Rattle.sp_words.specs.declared.types.Ty.{Ty}
use Rattle.sp_words.specs.declared.types.Ty.TheVariants.{Fix, Bit}
use Rattle.sp_words.specs.Interface.{word_count}
use Rattle.sp_words.specs.Memory.{Contents, cells, queue, rows, words, fresh_of, fresh_rows}
use Rattle.sp_words.specs.Types.{width_of}
use Rattle.sp_words.specs.Words.{IsWord}
use Rattle.sp_core.specs.Accesses.{word_in, with_word, with_newest, without_oldest, with_new_row}
use Rattle.sp_core.specs.Declarations.{mem, dram, dram_number, fresh}
use Rattle.sp_core.specs.Elements.{row_major}
use Rattle.sp_core.specs.MemoryRules.{has_rank, has_start, has_words, is_mem_right, is_dram_right, are_memories_right}
use Rattle.sp_core.specs.PlainCore.{PlainMem, no_mem, PlainCore}
use Rattle.sp_core.specs.Store.{Store, hold, cells_of, queue_of, rows_of, words_of}
use Rattle.sp_core.specs.Typed.{is_same_flag, is_type}
use Rattle.sp_fitting.specs.Fitting.{type_at, IsCell, AreWords, StoreFits}

pub zero_fits : (ty : Ty) → IsWord ty 0
zero_fits ty = pow_pos (width_of ty)

-- an element, or what stands for one that isn't there
all_or : {X : Type 0} (P : X → Type 0) (xs : List X) (i : ℕ) (d : X) → P d → All P xs → P (slice_index_or xs i d)
all_or P [] i d p h = p
all_or P (x ∷ xs) zero d p h = All-head P x xs h
all_or P (x ∷ xs) (suc i) d p h = all_or P xs i d p (All-tail P x xs h)

cells_fit : (ty : Ty) (c : Option Contents) → IfSome c (AreWords ty) → All (IsCell ty) (cells_of c)
cells_fit ty None h = All-nil (IsCell ty)
cells_fit ty (Some (cells cs)) h = h
cells_fit ty (Some (queue ws)) h = All-nil (IsCell ty)
cells_fit ty (Some (rows rs)) h = All-nil (IsCell ty)
cells_fit ty (Some (words ws)) h = All-nil (IsCell ty)

pub queue_fits : (ty : Ty) (c : Option Contents) → IfSome c (AreWords ty) → All (IsWord ty) (queue_of c)
queue_fits ty None h = All-nil (IsWord ty)
queue_fits ty (Some (cells cs)) h = All-nil (IsWord ty)
queue_fits ty (Some (queue ws)) h = h
queue_fits ty (Some (rows rs)) h = All-nil (IsWord ty)
queue_fits ty (Some (words ws)) h = All-nil (IsWord ty)

rows_fit : (ty : Ty) (c : Option Contents) → IfSome c (AreWords ty) → All (All (IsCell ty)) (rows_of c)
rows_fit ty None h = All-nil (All (IsCell ty))
rows_fit ty (Some (cells cs)) h = All-nil (All (IsCell ty))
rows_fit ty (Some (queue ws)) h = All-nil (All (IsCell ty))
rows_fit ty (Some (rows rs)) h = h
rows_fit ty (Some (words ws)) h = All-nil (All (IsCell ty))

words_fit : (ty : Ty) (c : Option Contents) → IfSome c (AreWords ty) → All (IsWord ty) (words_of c)
words_fit ty None h = All-nil (IsWord ty)
words_fit ty (Some (cells cs)) h = All-nil (IsWord ty)
words_fit ty (Some (queue ws)) h = All-nil (IsWord ty)
words_fit ty (Some (rows rs)) h = All-nil (IsWord ty)
words_fit ty (Some (words ws)) h = h

row_at : (ty : Ty) (c : Option Contents) (i : ℕ) → IfSome c (AreWords ty) → All (IsCell ty) (slice_index_or (rows_of c) i [])
row_at ty c i h = all_or (All (IsCell ty)) (rows_of c) i [] (All-nil (IsCell ty)) (rows_fit ty c h)

-- a word that is found
pub word_found : (ty : Ty) (kind : Kind) (dims is : List ℕ) (c : Option Contents) → IfSome c (AreWords ty) → IsCell ty (word_in kind dims is c)
word_found ty Reg dims is c h = all_or (IsCell ty) (cells_of c) 0 None tt (cells_fit ty c h)
word_found ty Sram dims is c h = all_or (IsCell ty) (cells_of c) (row_major dims is) None tt (cells_fit ty c h)
word_found ty Fifo dims is c h = tt
word_found ty LineBuf dims is c h = all_or (IsCell ty) (slice_index_or (rows_of c) (slice_index is 0) []) (slice_index is 1) None tt (row_at ty c (slice_index is 0) h)
word_found ty Dram dims is c h = all_or (IsWord ty) (words_of c) (row_major dims is) 0 (zero_fits ty) (words_fit ty c h)
word_found ty ArgIn dims is c h = all_or (IsWord ty) (words_of c) 0 0 (zero_fits ty) (words_fit ty c h)
word_found ty ArgOut dims is c h = tt

-- a word that is written
pub word_put : (ty : Ty) (kind : Kind) (dims is : List ℕ) (w : ℕ) (c : Option Contents) → IsWord ty w → IfSome c (AreWords ty) → AreWords ty (with_word kind dims is w c)
word_put ty Reg dims is w c p h = All-set (IsCell ty) (cells_of c) 0 (Some w) p (cells_fit ty c h)
word_put ty Sram dims is w c p h = All-set (IsCell ty) (cells_of c) (row_major dims is) (Some w) p (cells_fit ty c h)
word_put ty Fifo dims is w c p h = All-set (IsWord ty) (words_of c) 0 w p (words_fit ty c h)
word_put ty LineBuf dims is w c p h =
    All-set (All (IsCell ty)) (rows_of c) (slice_index is 0) _ (All-set (IsCell ty) (slice_index_or (rows_of c) (slice_index is 0) []) (slice_index is 1) (Some w) p (row_at ty c (slice_index is 0) h)) (rows_fit ty c h)
word_put ty Dram dims is w c p h = All-set (IsWord ty) (words_of c) (row_major dims is) w p (words_fit ty c h)
word_put ty ArgIn dims is w c p h = All-set (IsWord ty) (words_of c) 0 w p (words_fit ty c h)
word_put ty ArgOut dims is w c p h = All-set (IsWord ty) (words_of c) 0 w p (words_fit ty c h)

pub newest_put : (ty : Ty) (w : ℕ) (c : Option Contents) → IsWord ty w → IfSome c (AreWords ty) → AreWords ty (with_newest w c)
newest_put ty w c p h = All-push (IsWord ty) (queue_of c) w (queue_fits ty c h) p

pub oldest_taken : (ty : Ty) (c : Option Contents) → IfSome c (AreWords ty) → AreWords ty (without_oldest c)
oldest_taken ty c h = All-drop (IsWord ty) 1 (queue_of c) (queue_fits ty c h)

pub rows_turned : (ty : Ty) (dims : List ℕ) (c : Option Contents) → IfSome c (AreWords ty) → AreWords ty (with_new_row dims c)
rows_turned ty dims c h =
    All-push (All (IsCell ty)) (drop 1 (rows_of c)) (replicate (slice_index dims 1) None) (All-drop (All (IsCell ty)) 1 (rows_of c) (rows_fit ty c h))
    (All-replicate (IsCell ty) (slice_index dims 1) None tt)

rows_made : (ty : Ty) (dims : List ℕ) → All (All (IsCell ty)) (fresh_rows dims)
rows_made ty [] = All-nil (All (IsCell ty))
rows_made ty (r ∷ []) = All-nil (All (IsCell ty))
rows_made ty (r ∷ c ∷ []) = All-replicate (All (IsCell ty)) r (replicate c None) (All-replicate (IsCell ty) c None tt)
rows_made ty (r ∷ c ∷ d ∷ dims) = All-nil (All (IsCell ty))

made_fits : (ty : Ty) (kind : Kind) (dims : List ℕ) (start : Option ℕ) → IfSome start (IsWord ty) → AreWords ty (fresh_of kind dims start [])
made_fits ty Reg dims start p = All-cons (IsCell ty) start [] p (All-nil (IsCell ty))
made_fits ty Sram dims start p = All-replicate (IsCell ty) (word_count dims) None tt
made_fits ty Fifo dims start p = All-nil (IsWord ty)
made_fits ty LineBuf dims start p = rows_made ty dims
made_fits ty Dram dims start p = All-nil (IsWord ty)
made_fits ty ArgIn dims start p = All-nil (IsWord ty)
made_fits ty ArgOut dims start p = All-cons (IsWord ty) 0 [] (zero_fits ty) (All-nil (IsWord ty))

-- the start of a register
start_right : (kind : Kind) (ty : Ty) (start : Option ℕ) → has_start kind ty start ≡ true → IfSome start (IsWord ty)
start_right kind ty None e = tt
start_right Reg ty (Some w) e = ltb-true w (2 ^ width_of ty) e
start_right Sram ty (Some w) e = absurd (false≢true e)
start_right Fifo ty (Some w) e = absurd (false≢true e)
start_right LineBuf ty (Some w) e = absurd (false≢true e)
start_right Dram ty (Some w) e = absurd (false≢true e)
start_right ArgIn ty (Some w) e = absurd (false≢true e)
start_right ArgOut ty (Some w) e = absurd (false≢true e)

start_of : (mems : List PlainMem) (m : ℕ) → list_all is_mem_right mems ≡ true → IfSome (slice_index_or mems m no_mem).start (IsWord (slice_index_or mems m no_mem).ty)
start_of [] m e = tt
start_of (x ∷ mems) zero e =
    let a = and_parts (is_mem_right x) (list_all is_mem_right mems) e in
    let b = and_parts (has_rank x.kind (length x.dims) && has_start x.kind x.ty x.start) (has_words 4194304 x.dims) a.0 in
    start_right x.kind x.ty x.start (and_parts (has_rank x.kind (length x.dims)) (has_start x.kind x.ty x.start) b.0).1
start_of (x ∷ mems) (suc m) e = start_of mems m (and_parts (is_mem_right x) (list_all is_mem_right mems) e).1

pub no_mem_there : (mems : List PlainMem) (m : ℕ) → length mems ≤ m → slice_index_or mems m no_mem ≡ no_mem
no_mem_there [] m h = refl
no_mem_there (x ∷ mems) zero h = absurd (omega (arith, h))
no_mem_there (x ∷ mems) (suc m) h = no_mem_there mems m (omega (arith, h))

module _ (core : PlainCore) where
  -- the type at a number is that of a memory's declaration, and after the memories that of a DRAM's
  pub type_of_mem : (m : ℕ) → nat_lt m (length core.mems) ≡ true → type_at core m ≡ (mem core m).ty
  type_of_mem m e = ap (λ b. if b then (mem core m).ty else (dram core (m - length core.mems)).ty) e

  pub type_of_dram : (r : ℕ) → type_at core (dram_number core r) ≡ (dram core r).ty
  type_of_dram r =
      let past : length core.mems ≤ dram_number core r = omega arith in
      let back : dram_number core r - length core.mems ≡ r = omega arith in
      ap (λ b. if b then (mem core (dram_number core r)).ty else (dram core (dram_number core r - length core.mems)).ty) (le-ltb (dram_number core r) (length core.mems) past) ∙ ap (λ k. (dram core k).ty) back

  pub fresh_fits : (m : ℕ) → are_memories_right core ≡ true → AreWords (type_at core m) (fresh core m)
  fresh_fits m e = made_fits (type_at core m) (mem core m).kind (mem core m).dims (mem core m).start (go (nat_lt m (length core.mems)) refl)
    where
      go : (b : Bool) → nat_lt m (length core.mems) ≡ b → IfSome (mem core m).start (IsWord (type_at core m))
      go true is = subst (λ ty. IfSome (mem core m).start (IsWord ty)) (sym (type_of_mem m is)) (start_of core.mems m (and_parts (list_all is_mem_right core.mems) (list_all is_dram_right core.ports.drams) e).0)
      go false is = subst (λ (x : PlainMem). IfSome x.start (IsWord (type_at core m))) (sym (no_mem_there core.mems m (ltb-false m (length core.mems) is))) tt

  -- what a memory holds from now on
  pub held : (s : Store) (m : ℕ) (c : Contents) → AreWords (type_at core m) c → StoreFits core s → StoreFits core (hold s m c)
  held s m c p h k = go (k == m) refl
    where
      go : (b : Bool) → (k == m) ≡ b → IfSome (elim b as (λ _. Option Contents) [ true ↦ Some c | false ↦ s k ]) (AreWords (type_at core k))
      go true e = subst (λ j. AreWords (type_at core j) c) (sym (eqb-true k m e)) p
      go false e = h k

-- types that are one have words of one width
pub same_width : (a b : Ty) → is_type a b ≡ true → width_of a ≡ width_of b
same_width Bit Bit e = refl
same_width Bit (Fix b) e = absurd (false≢true e)
same_width (Fix a) Bit e = absurd (false≢true e)
same_width (Fix a) (Fix b) e =
    let parts = and_parts (is_same_flag a.signed b.signed) ((a.whole == b.whole) && (a.frac == b.frac)) e in
    let bits = and_parts (a.whole == b.whole) (a.frac == b.frac) parts.1 in
    ap (λ n. n + a.frac) (eqb-true a.whole b.whole bits.0) ∙ ap (λ n. b.whole + n) (eqb-true a.frac b.frac bits.1)

pub same_word : (a b : Ty) (w : ℕ) → is_type a b ≡ true → IsWord a w → IsWord b w
same_word a b w e h = subst (λ n. w < 2 ^ n) (same_width a b e) h

pub same_word_back : (a b : Ty) (w : ℕ) → is_type a b ≡ true → IsWord b w → IsWord a w
same_word_back a b w e h = subst (λ n. w < 2 ^ n) (sym (same_width a b e)) h
