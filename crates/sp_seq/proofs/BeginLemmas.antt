-- What lies in storages that are cleared.
use Rattle.std.proofs.Common.{◌≡◌, ℕ, suc, ◌+◌, ◌<◌, ◌^◌, List, [], ◌∷◌, ◌++◌, Option, Some, None, map, length, take, drop, get_or, set, replicate, refl, sym, ◌∙◌, ap, ap₂, subst, arith, All}
use Rattle.std.proofs.lemmas.List.{take_more_set, map_more, drop-set-lt, drop-drop, get_or-drop, length-set, length-map, length-replicate, get_or-map}
use Rattle.sp_words.specs.declared.kind.Kind.{Kind}
use Rattle.sp_words.specs.declared.kind.Kind.TheVariants.{Reg, Sram, Fifo, LineBuf, Dram, ArgIn, ArgOut}
use Rattle.sp_words.specs.Memory.{cells, rows, fresh_rows, fresh_of}
use Rattle.sp_words.specs.Types.{width_of}
use Rattle.sp_tree.specs.Declarations.{HasStart}
use Rattle.sp_tree.specs.PlainProgram.{PlainMem}
use Rattle.sp_tree.specs.Counts.{is_port}
use Rattle.std.specs.Prelude.{false}
use Rattle.sp_seq.specs.declared.memory.Storage.{Storage}
use Rattle.sp_seq.specs.declared.memory.Storage.TheVariants.{Cells, Queue, Rows, Words}
use Rattle.sp_seq.specs.Rows.{CellRow, no_cells}
use Rattle.sp_seq.specs.States.{CellRows, AreRows, IsStorage, blank, with_start, cleared, CanBegin}

same_row : (r new : CellRow) → new.width ≡ r.width → new.cells ≡ replicate (length r.cells) None → new ≡ blank r
same_row r new w c = λ i. record { width = w i; cells = c i }

pub one_cleared : (xs first : List CellRow) (i : ℕ) (d new : CellRow) → take i xs ≡ map blank (take i first) → drop i xs ≡ drop i first → length xs ≡ length first → i < length xs
    → new.width ≡ (get_or xs i d).width → new.cells ≡ replicate (length (get_or xs i d).cells) None
    → (take (i + 1) (set xs i new) ≡ map blank (take (i + 1) first)) × (drop (i + 1) (set xs i new) ≡ drop (i + 1) first) × (length (set xs i new) ≡ length first)
one_cleared xs first i d new t same n l w c =
    let m : i < length first = omega arith in
    let at : get_or xs i d ≡ get_or first i d = ap (λ k. get_or xs k d) {x = i} {y = i + 0} (omega arith) ∙ sym (get_or-drop i xs 0 d) ∙ ap (λ ys. get_or ys 0 d) same ∙ get_or-drop i first 0 d ∙ ap (λ k. get_or first k d) {x = i + 0} {y = i} (omega arith) in
    let here : new ≡ blank (get_or first i d) = same_row (get_or xs i d) new w c ∙ ap blank at in (
      take_more_set xs i new l ∙ ap₂ (λ ys y. ys ++ y ∷ []) t here ∙ sym (map_more blank first i d m),
      drop-set-lt (i + 1) xs i new (omega arith) ∙ sym (drop-drop 1 i xs) ∙ ap (drop 1) same ∙ drop-drop 1 i first,
      length-set xs i new ∙ n,
    )

pub map-blank : (rs : List CellRow) → map (λ (r : CellRow). r.cells) (map blank rs) ≡ map (λ (r : CellRow). (blank r).cells) rs
map-blank [] = refl
map-blank (r ∷ rs) = ap (λ xs. (blank r).cells ∷ xs) (map-blank rs)

blank_rows : (width : ℕ) (dims : List ℕ) (rs : List CellRow) → AreRows width dims rs → AreRows width dims (map blank rs)
blank_rows width [] rs h = h
blank_rows width (a ∷ []) rs h = h
blank_rows width (a ∷ b ∷ []) rs h = (
  length-map rs blank ∙ h.0,
  λ k d l.
      let inside : k < length rs = omega (arith, length-map rs blank) in
      let row = h.1 k no_cells inside in
      subst (λ (r : CellRow). (r.width ≡ width) × (length r.cells ≡ b)) (sym (get_or-map blank rs k no_cells d inside)) (row.0, length-replicate _ _ ∙ row.1),
)
blank_rows width (a ∷ b ∷ c ∷ ds) rs h = h

pub rows_stored : (d : PlainMem) (n : ℕ) (kind : Kind) (rs ts : CellRows) → ts.items ≡ map blank rs.items → IsStorage d n kind (Rows rs) → IsStorage d n kind (Rows ts)
rows_stored d n Reg rs ts e h = h
rows_stored d n Sram rs ts e h = h
rows_stored d n Fifo rs ts e h = h
rows_stored d n LineBuf rs ts e h = subst (AreRows (width_of d.ty) d.dims) (sym e) (blank_rows _ _ rs.items h)
rows_stored d n Dram rs ts e h = h
rows_stored d n ArgIn rs ts e h = h
rows_stored d n ArgOut rs ts e h = h

-- a storage of a memory on the chip can begin, and then holds what a fresh memory does
pub can_begin : (d : PlainMem) (n : ℕ) (kind : Kind) (start : Option ℕ) (st : Storage) → IsStorage d n kind st → is_port kind ≡ false → HasStart d kind start → CanBegin start st
can_begin d n Reg None (Cells c) h p e = tt
can_begin d n Reg (Some w) (Cells c) h p e = (omega (arith, h.1), subst (λ k. w < 2 ^ k) (sym h.0) e)
can_begin d n Reg start (Queue q) h p e = absurd h
can_begin d n Reg start (Rows rs) h p e = absurd h
can_begin d n Reg start (Words w) h p e = absurd h
can_begin d n Sram start (Cells c) h p e = let P : Option ℕ → Type 0 = λ o. CanBegin o (Cells c) in subst P (sym e) tt
can_begin d n Sram start (Queue q) h p e = absurd h
can_begin d n Sram start (Rows rs) h p e = absurd h
can_begin d n Sram start (Words w) h p e = absurd h
can_begin d n Fifo start (Queue q) h p e = let P : Option ℕ → Type 0 = λ o. CanBegin o (Queue q) in subst P (sym e) tt
can_begin d n Fifo start (Cells c) h p e = absurd h
can_begin d n Fifo start (Rows rs) h p e = absurd h
can_begin d n Fifo start (Words w) h p e = absurd h
can_begin d n LineBuf start (Rows rs) h p e = let P : Option ℕ → Type 0 = λ o. CanBegin o (Rows rs) in subst P (sym e) tt
can_begin d n LineBuf start (Cells c) h p e = absurd h
can_begin d n LineBuf start (Queue q) h p e = absurd h
can_begin d n LineBuf start (Words w) h p e = absurd h
can_begin d n Dram start st h p e = absurd (cc)
can_begin d n ArgIn start st h p e = absurd (cc)
can_begin d n ArgOut start st h p e = absurd (cc)

blank_lines : (c : ℕ) (rs : List CellRow) → All (λ (r : CellRow). length r.cells ≡ c) rs → map (λ (r : CellRow). (blank r).cells) rs ≡ replicate (length rs) (replicate c None)
blank_lines c [] h = refl
blank_lines c (r ∷ rs) h = ap₂ ◌∷◌ (ap (λ k. replicate k None) (h 0 no_cells (omega arith))) (blank_lines c rs (λ k d l. h (suc k) d (omega arith)))

fresh_lines : (width : ℕ) (dims : List ℕ) (rs : List CellRow) → AreRows width dims rs → map (λ (r : CellRow). (blank r).cells) rs ≡ fresh_rows dims
fresh_lines width [] rs h = absurd h
fresh_lines width (a ∷ []) rs h = absurd h
fresh_lines width (a ∷ b ∷ []) rs h = blank_lines b rs (λ k d l. (h.1 k d l).1) ∙ ap (λ k. replicate k (replicate b None)) h.0
fresh_lines width (a ∷ b ∷ c ∷ ds) rs h = absurd h

one_start : (start : Option ℕ) → with_start start (None ∷ []) ≡ start ∷ []
one_start None = refl
one_start (Some w) = refl

pub begins_fresh : (d : PlainMem) (n : ℕ) (kind : Kind) (start : Option ℕ) (st : Storage) → IsStorage d n kind st → is_port kind ≡ false → HasStart d kind start → cleared start st ≡ fresh_of kind d.dims start []
begins_fresh d n Reg start (Cells c) h p e = ap (λ k. cells (with_start start (replicate k None))) h.1 ∙ ap cells (one_start start)
begins_fresh d n Reg start (Queue q) h p e = absurd h
begins_fresh d n Reg start (Rows rs) h p e = absurd h
begins_fresh d n Reg start (Words w) h p e = absurd h
begins_fresh d n Sram start (Cells c) h p e = ap (λ o. cells (with_start o (replicate (length c.cells) None))) e ∙ ap (λ k. cells (replicate k None)) h.1
begins_fresh d n Sram start (Queue q) h p e = absurd h
begins_fresh d n Sram start (Rows rs) h p e = absurd h
begins_fresh d n Sram start (Words w) h p e = absurd h
begins_fresh d n Fifo start (Queue q) h p e = refl
begins_fresh d n Fifo start (Cells c) h p e = absurd h
begins_fresh d n Fifo start (Rows rs) h p e = absurd h
begins_fresh d n Fifo start (Words w) h p e = absurd h
begins_fresh d n LineBuf start (Rows rs) h p e = ap rows (fresh_lines _ d.dims rs.items h)
begins_fresh d n LineBuf start (Cells c) h p e = absurd h
begins_fresh d n LineBuf start (Queue q) h p e = absurd h
begins_fresh d n LineBuf start (Words w) h p e = absurd h
begins_fresh d n Dram start st h p e = absurd (cc)
begins_fresh d n ArgIn start st h p e = absurd (cc)
begins_fresh d n ArgOut start st h p e = absurd (cc)
