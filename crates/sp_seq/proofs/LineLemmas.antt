-- How rows of line buffers shift and fill, and how the words of a load are read.
use Rattle.std.proofs.Common.{◌≡◌, ◌≢◌, ℕ, zero, suc, ◌+◌, ◌-◌, ◌<◌, ◌≤◌, ◌^◌, Bool, true, false, List, [], ◌∷◌, ◌++◌, Option, Some, None, map, length, get_or, set, take, drop, replicate, ⊎_elim, refl, sym, ◌∙◌, ap, ap₂, subst, arith, All}
use Rattle.std.specs.Prelude.{◌==◌, ◌&&◌}
use mathlib.Core.Path.{fun_ext}
use Rattle.std.proofs.lemmas.Bool.{cases_lt, cases_eq, eq-eqb, ne_eqb, leb-true}
use Rattle.std.proofs.lemmas.List.{length_push, get_or_append_left, get_or_push, get_or_at, get_or-map, get_or_read, get_or-set_same, get_or-set_other, length-set, length-map, length-replicate, map-set, map_push, drop-map, set_at, take_all}
use Rattle.sp_words.specs.declared.types.Ty.{Ty}
use Rattle.sp_words.specs.declared.kind.Kind.{Kind}
use Rattle.sp_words.specs.declared.kind.Kind.TheVariants.{Reg, Sram, Fifo, LineBuf, Dram, ArgIn, ArgOut}
use Rattle.sp_words.specs.Interface.{IsCount, word_count}
use Rattle.sp_words.specs.Memory.{Contents, rows}
use Rattle.sp_words.specs.Types.{width_of}
use Rattle.sp_tree.specs.declared.statement.FaultKind.TheVariants.{RowLength}
use Rattle.sp_tree.specs.Accesses.{read_word}
use Rattle.sp_tree.specs.Elements.{row_major}
use Rattle.sp_tree.specs.Declarations.{HasRank}
use Rattle.sp_tree.specs.Expressions.{mem, dims}
use Rattle.sp_tree.specs.PlainProgram.{PlainMem, no_mem}
use Rattle.sp_tree.specs.PlainStatement.{PlainSpan, single, range, load_line}
use Rattle.sp_tree.specs.Sequential.{part, run, run_kind}
use Rattle.sp_tree.specs.Shape.{moved}
use Rattle.sp_tree.specs.Step.{Step, went, more, ◌>>=◌, ◌>>◌, pure, turn, read, change, in_order}
use Rattle.sp_tree.specs.Store.{Store, hold, rows_of, words_of}
use Rattle.sp_tree.specs.Structure.{slice_lanes}
use Rattle.sp_tree.specs.Transfers as transfers
use Rattle.sp_tree.specs.Typing.{range_count, EndsInRange, IsMem}
use Rattle.sp_seq.specs.declared.memory.Storage.TheVariants.{Rows, Words}
use Rattle.sp_seq.specs.declared.state.State.{State}
use Rattle.sp_seq.specs.declared.state.Stop.{Stop}
use Rattle.sp_seq.specs.declared.state.Stop.TheVariants.{Turns}
use Rattle.sp_seq.specs.Evaluating.{Setting}
use Rattle.sp_seq.specs.Lines.{newest, with_word, word_of_slice, CanFill, Wrote}
use Rattle.sp_seq.specs.Rows.{CellRow, WordRow, no_cells}
use Rattle.sp_seq.specs.Slices.{offsets_at}
use Rattle.sp_seq.specs.States.{CellRows, AreRows, IsStorage, IsLive, Keeps, blank, halted, store_of}
use Rattle.sp_seq.proofs.AccessLemmas.{turn_none, turn_went}
use Rattle.sp_seq.proofs.SeesLemmas.{setting_later, keeps_on, seen_mem, live_rows, live_dram, counts_of, dram_rank}
use Rattle.sp_seq.proofs.SliceLemmas.{length-offsets}
use Rattle.sp_seq.proofs.StepLemmas.{bind_went, bind_halted}
use Rattle.sp_seq.proofs.StoreLemmas.{held_live}
use Rattle.sp_seq.proofs.TransferLemmas.{offset_get}

-- rows that shift, or of which a cell is written, are stored as before
abbrev IsRow : (width columns : ℕ) → CellRow → Type 0
IsRow width columns row = (row.width ≡ width) × (length row.cells ≡ columns)

shifted_rows : (width : ℕ) (ds : List ℕ) (rs : List CellRow) → 0 < length rs → AreRows width ds rs → AreRows width ds (drop 1 rs ++ blank (get_or rs 0 no_cells) ∷ [])
shifted_rows width [] rs some h = h
shifted_rows width (a ∷ []) rs some h = h
shifted_rows width (a ∷ b ∷ c ∷ ds) rs some h = h
shifted_rows width (a ∷ b ∷ []) [] some h = absurd (omega arith)
shifted_rows width (a ∷ b ∷ []) (r ∷ rest) some h =
    let pushed = length_push rest (blank r) in
    let oldest = h.1 0 no_cells (omega arith) in (
      omega (arith, pushed, h.0),
      λ k d l. ⊎_elim
          (λ low. subst (IsRow width b) (sym (get_or_append_left rest (blank r ∷ []) d k low)) (h.1 (suc k) d (omega arith)))
          (λ high. subst (IsRow width b) (sym (get_or_push rest (blank r) d k (omega (arith, pushed)))) (oldest.0, length-replicate _ _ ∙ oldest.1))
          (cases_lt k (length rest)),
    )

written_rows : (width : ℕ) (ds : List ℕ) (rs : List CellRow) (column word : ℕ) → 0 < length rs → AreRows width ds rs → AreRows width ds (set rs (length rs - 1) (with_word (newest rs) column word))
written_rows width [] rs column word some h = h
written_rows width (a ∷ []) rs column word some h = h
written_rows width (a ∷ b ∷ c ∷ ds) rs column word some h = h
written_rows width (a ∷ b ∷ []) rs column word some h =
    let last = length rs - 1 in
    let row = with_word (newest rs) column word in
    let same = length-set rs last row in
    let was = h.1 last no_cells (omega arith) in (
      same ∙ h.0,
      λ k d l. ⊎_elim
          (λ e. subst (IsRow width b) (sym (ap (λ j. get_or (set rs last row) j d) e ∙ get_or-set_same rs last row d (omega arith))) (was.0, length-set (newest rs).cells column (Some word) ∙ was.1))
          (λ n. subst (IsRow width b) (sym (get_or-set_other rs last k row d n)) (h.1 k d (omega (arith, same))))
          (cases_eq k last),
    )

stored_rows : (d : PlainMem) (n : ℕ) (kind : Kind) (rs ts : CellRows) → ((width : ℕ) (ds : List ℕ) → AreRows width ds rs.items → AreRows width ds ts.items) → IsStorage d n kind (Rows rs) → IsStorage d n kind (Rows ts)
stored_rows d n Reg rs ts keeps h = h
stored_rows d n Sram rs ts keeps h = h
stored_rows d n Fifo rs ts keeps h = h
stored_rows d n LineBuf rs ts keeps h = keeps (width_of d.ty) d.dims h
stored_rows d n Dram rs ts keeps h = h
stored_rows d n ArgIn rs ts keeps h = h
stored_rows d n ArgOut rs ts keeps h = h

pub stored_shift : (rs ts : CellRows) → 0 < length rs.items → ts.items ≡ drop 1 rs.items ++ blank (get_or rs.items 0 no_cells) ∷ [] → (d : PlainMem) (n : ℕ) (kind : Kind) → IsStorage d n kind (Rows rs) → IsStorage d n kind (Rows ts)
stored_shift rs ts some e d n kind = stored_rows d n kind rs ts (λ width ds h. subst (AreRows width ds) (sym e) (shifted_rows width ds rs.items some h))

pub stored_write : (rs ts : CellRows) (column word : ℕ) → 0 < length rs.items → ts.items ≡ set rs.items (length rs.items - 1) (with_word (newest rs.items) column word) → (d : PlainMem) (n : ℕ) (kind : Kind) → IsStorage d n kind (Rows rs) → IsStorage d n kind (Rows ts)
stored_write rs ts column word some e d n kind = stored_rows d n kind rs ts (λ width ds h. subst (AreRows width ds) (sym e) (written_rows width ds rs.items column word some h))

-- the oldest row moves behind the others and is cleared
pub shifted : (xs ys : List CellRow) (n : ℕ) (x new : CellRow) → 0 < length xs → ys ≡ drop 1 xs ++ take 1 xs → n ≡ length ys - 1 → x ≡ get_or ys n x → new.width ≡ x.width → new.cells ≡ replicate (length x.cells) None
    → set ys n new ≡ drop 1 xs ++ blank (get_or xs 0 no_cells) ∷ []
shifted [] ys n x new some e at here w c = absurd (omega arith)
shifted (r ∷ rest) ys n x new some e at here w c =
    let count = ap length e ∙ length_push rest r in
    let last : length rest ≡ n = omega (arith, count, at) in
    let old : x ≡ r = here ∙ ap (λ zs. get_or zs n x) e ∙ get_or_at rest r [] x n last in
    let cleared : new ≡ blank x = λ i. record { width = w i; cells = c i } in
    ap (λ zs. set zs n new) e ∙ set_at rest r [] new n last ∙ ap (λ y. rest ++ y ∷ []) (cleared ∙ ap blank old)

-- a cell of the last row is written
pub written : (xs : List CellRow) (n : ℕ) (x new : CellRow) (column word : ℕ) → 0 < length xs → n ≡ length xs - 1 → x ≡ get_or xs n x → new.width ≡ x.width → new.cells ≡ set x.cells column (Some word)
    → set xs n new ≡ set xs (length xs - 1) (with_word (newest xs) column word)
written xs n x new column word some at here w c =
    let old : x ≡ newest xs = get_or_read xs n x (omega arith) here no_cells ∙ ap (λ j. get_or xs j no_cells) at in
    let row : new ≡ with_word x column word = λ i. record { width = w i; cells = c i } in
    ap₂ (λ j y. set xs j y) at (row ∙ ap (λ y. with_word y column word) old)

-- the newest of rows that are as declared
pub newest_is : (width : ℕ) (ds : List ℕ) (rs : List CellRow) → AreRows width ds rs → All IsCount ds → (0 < length rs) × ((newest rs).width ≡ width) × (length (newest rs).cells ≡ get_or ds 1 0) × (length (get_or rs 0 no_cells).cells ≡ get_or ds 1 0)
newest_is width [] rs h counts = absurd h
newest_is width (a ∷ []) rs h counts = absurd h
newest_is width (a ∷ b ∷ c ∷ ds) rs h counts = absurd h
newest_is width (a ∷ b ∷ []) rs h counts =
    let some : 0 < length rs = omega (arith, h.0, (counts 0 0 (omega arith)).0) in
    let last = h.1 (length rs - 1) no_cells (omega arith) in
    (some, last.0, last.1, (h.1 0 no_cells some).1)

-- the cells of rows after a write into the newest
pub cells_written : (rs : List CellRow) (older : List (List (Option ℕ))) (row : List (Option ℕ)) (column word : ℕ) → map (λ (r : CellRow). r.cells) rs ≡ older ++ row ∷ []
    → map (λ (r : CellRow). r.cells) (set rs (length rs - 1) (with_word (newest rs) column word)) ≡ older ++ set row column (Some word) ∷ []
cells_written rs older row column word e =
    let last = length rs - 1 in
    let both = sym (length-map rs (λ (r : CellRow). r.cells)) ∙ ap length e ∙ length_push older row in
    let at : length older ≡ last = omega (arith, both) in
    let here = sym (get_or-map (λ (r : CellRow). r.cells) rs last no_cells [] (omega (arith, both))) ∙ ap (λ xs. get_or xs last []) e ∙ get_or_at older row [] [] last at in
    map-set (λ (r : CellRow). r.cells) rs last (with_word (newest rs) column word)
    ∙ ap₂ (λ xs (x : List (Option ℕ)). set xs last (set x column (Some word))) e here
    ∙ set_at older row [] (set row column (Some word)) last at

-- a row that begins with some words
blank_row : (width : ℕ) → transfers.row_of width [] ≡ replicate width None
blank_row zero = refl
blank_row (suc width) = ap (λ xs. None ∷ xs) (blank_row width)

row_grows : (width k : ℕ) (ws : List ℕ) → k < length ws → k < width → transfers.row_of width (take (suc k) ws) ≡ set (transfers.row_of width (take k ws)) k (Some (get_or ws k 0))
row_grows width k [] l m = absurd (omega arith)
row_grows zero k (w ∷ ws) l m = absurd (omega arith)
row_grows (suc width) zero (w ∷ ws) l m = refl
row_grows (suc width) (suc k) (w ∷ ws) l m = ap (λ xs. Some w ∷ xs) (row_grows width k ws (omega arith) (omega arith))

-- what a memory holds, and what another one does; the last of two contents stays
held_now : (s : Store) (m : ℕ) (c : Contents) → (hold s m c).held m ≡ Some c
held_now s m c = ap (λ b. elim b as (λ _. Option Contents) [ true ↦ Some c | false ↦ s.held m ]) (eq-eqb m m refl)

held_other : (s : Store) (m k : ℕ) (c : Contents) → k ≢ m → (hold s m c).held k ≡ s.held k
held_other s m k c n = ap (λ b. elim b as (λ _. Option Contents) [ true ↦ Some c | false ↦ s.held k ]) (ne_eqb k m n)

held_last : (s : Store) (m : ℕ) (c d : Contents) → hold (hold s m c) m d ≡ hold s m d
held_last s m c d = ap (λ (f : ℕ → Option Contents). record s { held = f }) (fun_ext (λ k. by_test (k == m) (s.held k)))
  where
    by_test : (b : Bool) (x : Option Contents) → ◌≡◌ {A = Option Contents} (elim b as (λ _. Option Contents) [ true ↦ Some d | false ↦ elim b as (λ _. Option Contents) [ true ↦ Some c | false ↦ x ] ]) (elim b as (λ _. Option Contents) [ true ↦ Some d | false ↦ x ])
    by_test true x = refl
    by_test false x = refl

-- the words of a slice are read, a turn for each
module _ (dram : ℕ) (place_of : List ℕ → ℕ) (s : Store) where
  abbrev one_read : List ℕ → Step ℕ
  one_read offsets = do
    word ← read_word dram (place_of offsets)
    turn
    pure word

  abbrev word_at : List ℕ → ℕ
  word_at offsets = get_or (words_of (s.held dram)) (place_of offsets) 0

  found : (left : ℕ) (offsets : List ℕ) → read_word dram (place_of offsets) left s ≡ went (word_at offsets) left s
  unfolding read
  found left offsets = refl

  one_went : (left : ℕ) (offsets : List ℕ) → 0 < left → one_read offsets left s ≡ went (word_at offsets) (left - 1) s
  unfolding pure
  one_went left offsets l =
      bind_went (read_word dram (place_of offsets)) _ left s (word_at offsets) left s (found left offsets) ∙ bind_went turn _ left s tt (left - 1) s (turn_went left s l)

  one_spent : (left : ℕ) (offsets : List ℕ) → left ≡ 0 → one_read offsets left s ≡ more
  one_spent left offsets e =
      bind_went (read_word dram (place_of offsets)) _ left s (word_at offsets) left s (found left offsets) ∙ bind_halted turn _ left s Turns (turn_none left s e)

  all_went : (xs : List (List ℕ)) (left : ℕ) → length xs ≤ left → in_order one_read xs left s ≡ went (map word_at xs) (left - length xs) s
  unfolding in_order pure
  all_went [] left l =
      let none : List ℕ = [] in
      ap (λ n. went none n s) (omega arith)
  all_went (x ∷ xs) left l =
      bind_went (one_read x) _ left s (word_at x) (left - 1) s (one_went left x (omega arith))
      ∙ bind_went (in_order one_read xs) _ (left - 1) s (map word_at xs) (left - 1 - length xs) s (all_went xs (left - 1) (omega arith))
      ∙ ap (λ n. went (word_at x ∷ map word_at xs) n s) (omega arith)

  all_spent : (xs : List (List ℕ)) (left : ℕ) → left < length xs → in_order one_read xs left s ≡ more
  unfolding in_order
  all_spent [] left l = absurd (omega arith)
  all_spent (x ∷ xs) left l = ⊎_elim
      (λ some. bind_went (one_read x) _ left s (word_at x) (left - 1) s (one_went left x some) ∙ bind_halted (in_order one_read xs) _ (left - 1) s Turns (all_spent xs (left - 1) (omega arith)))
      (λ none. bind_halted (one_read x) _ left s Turns (one_spent left x (omega arith)))
      (cases_lt 0 left)

-- the words of a slice, in order
abbrev pub row_words : List PlainMem → (dram : ℕ) → List transfers.Part → Store → List ℕ
row_words mems dram parts s = map (word_of_slice mems dram parts s) (transfers.all_offsets parts)

-- a row is loaded, or there are too few turns
module _ (mems : List PlainMem) (line width dram : ℕ) (parts : List transfers.Part) (left : ℕ) (s : Store) where
  abbrev place_of : List ℕ → ℕ
  place_of offsets = row_major (dims mems dram) (transfers.places_of parts offsets)

  pub load_row_went : word_count (transfers.lengths parts) ≤ left
      → transfers.load_row line width dram (dims mems dram) parts left s ≡ went tt (left - word_count (transfers.lengths parts)) (hold s line (rows (drop 1 (rows_of (s.held line)) ++ transfers.row_of width (row_words mems dram parts s) ∷ [])))
  unfolding ◌>>=◌ read change
  load_row_went l =
      let count = length-offsets (transfers.lengths parts) in
      bind_went (in_order (one_read dram place_of s) (transfers.all_offsets parts)) _ left s (row_words mems dram parts s) (left - word_count (transfers.lengths parts)) s
      (all_went dram place_of s (transfers.all_offsets parts) left (omega (arith, count)) ∙ ap (λ n. went (row_words mems dram parts s) n s) (omega (arith, count)))

  pub load_row_spent : left < word_count (transfers.lengths parts) → transfers.load_row line width dram (dims mems dram) parts left s ≡ more
  load_row_spent l =
      let count = length-offsets (transfers.lengths parts) in
      bind_halted (in_order (one_read dram place_of s) (transfers.all_offsets parts)) _ left s Turns (all_spent dram place_of s (transfers.all_offsets parts) left (omega (arith, count)))

-- what a state has of a line buffer and a DRAM
pub record Facts (mems : List PlainMem) (s : State) (line dram : ℕ) (ty : Ty) : Type 0 where
  pub line_inside : line < length mems
  pub dram_inside : dram < length mems
  pub apart : dram ≢ line
  pub buffer : CellRows
  pub buffer_live : IsLive s line (Rows buffer)
  pub some : 0 < length buffer.items
  pub newest_width : (newest buffer.items).width ≡ width_of ty
  pub newest_columns : length (newest buffer.items).cells ≡ get_or (dims mems line) 1 0
  pub oldest_columns : length (get_or buffer.items 0 no_cells).cells ≡ get_or (dims mems line) 1 0
  pub words : WordRow
  pub words_live : IsLive s dram (Words words)
  pub words_width : words.width ≡ width_of ty
  pub size : length words.words ≡ word_count (dims mems dram)
  pub rank : length (dims mems line) ≡ 2
  pub few : length (dims mems dram) ≤ 3
  pub line_counts : All IsCount (dims mems line)
  pub dram_counts : All IsCount (dims mems dram)

pub facts : {mems : List PlainMem} {s : State} (h : Setting mems s) (line dram : ℕ) (ty : Ty) → IsMem h.program h.scope line LineBuf ty → IsMem h.program h.scope dram Dram ty → Facts mems s line dram ty
facts {mems = mems} {s = s} h line dram ty is_line is_dram =
    let chip = seen_mem h line LineBuf ty is_line in
    let outside = seen_mem h dram Dram ty is_dram in
    let buffer = live_rows chip in
    let words = live_dram outside in
    let counts = counts_of h line chip.inside in
    let newest = newest_is (width_of ty) (dims mems line) buffer.0.items buffer.2 counts in
    record {
      line_inside = chip.inside;
      dram_inside = outside.inside;
      apart = λ e. two_kinds (sym outside.is_kind ∙ ap (λ m. (mem mems m).kind) e ∙ chip.is_kind);
      buffer = buffer.0;
      buffer_live = buffer.1;
      some = newest.0;
      newest_width = newest.1;
      newest_columns = newest.2;
      oldest_columns = newest.3;
      words = words.0;
      words_live = words.1;
      words_width = words.2;
      size = words.3;
      rank = subst (λ k. HasRank k (length (dims mems line))) chip.is_kind (h.sees.declared line no_mem chip.inside).rank;
      few = dram_rank h dram ty outside;
      line_counts = counts;
      dram_counts = counts_of h dram outside.inside;
    }
  where
    two_kinds : Dram ≡ LineBuf → ⊥
    two_kinds e = cc

pub fill_later : {mems : List PlainMem} {s t : State} {line dram : ℕ} {parts : List transfers.Part} → CanFill mems s line dram parts → Keeps s t → CanFill mems t line dram parts
fill_later h k = record { setting = setting_later h.setting k; ty = h.ty; on_chip = h.on_chip; outside = h.outside; inside = h.inside; limited = h.limited }

-- the columns of a line buffer
pub column_limits : (ds : List ℕ) → length ds ≡ 2 → All IsCount ds → (All IsCount (drop 1 ds)) × (word_count (drop 1 ds) < 2 ^ 32) × (length (drop 1 ds) ≡ 1)
column_limits [] e counts = absurd (omega arith)
column_limits (a ∷ []) e counts = absurd (omega arith)
column_limits (a ∷ b ∷ c ∷ ds) e counts = absurd (omega arith)
column_limits (a ∷ b ∷ []) e counts =
    let columns = counts 1 0 (omega arith) in
    (λ k d l. counts (suc k) d (omega arith), omega (arith, columns.1), refl)

pub column_inside : (ds ns : List ℕ) (k : ℕ) → length ds ≡ 2 → length ns ≡ length (drop 1 ds) → transfers.do_fit (drop 1 ds) ns ≡ true → k < word_count ns → k < get_or ds 1 0
column_inside [] ns k e same fit l = absurd (omega arith)
column_inside (a ∷ []) ns k e same fit l = absurd (omega arith)
column_inside (a ∷ b ∷ c ∷ ds) ns k e same fit l = absurd (omega arith)
column_inside (a ∷ b ∷ []) [] k e same fit l = absurd (omega arith)
column_inside (a ∷ b ∷ []) (n ∷ m ∷ ns) k e same fit l = absurd (omega arith)
column_inside (a ∷ b ∷ []) (n ∷ []) k e same fit l =
    let within : n ≤ b = leb-true n b (first_holds _ _ fit) in
    omega (arith, within, l)
  where
    first_holds : (p q : Bool) → (p && q) ≡ true → p ≡ true
    first_holds true q e = refl
    first_holds false q e = absurd (cc)

-- the last span is the only range
pub one_range : (spans : List PlainSpan) → EndsInRange spans → range_count spans ≡ 1
one_range [] h = absurd h
one_range (single e ∷ spans) h = one_range spans h
one_range (range a b par ∷ []) h = refl
one_range (range a b par ∷ x ∷ spans) h = absurd h

-- what rows hold, and a word that is read
pub rows_held : (s : State) (m : ℕ) (rs : CellRows) → IsLive s m (Rows rs) → rows_of ((store_of s).held m) ≡ map (λ (r : CellRow). r.cells) rs.items
unfolding store_of
rows_held s m rs h = ap rows_of (held_live s m (Rows rs) h)

pub word_read : (dram at left w l : ℕ) (s t : Store) → read_word dram at left s ≡ went w l t → w ≡ get_or (words_of (s.held dram)) at 0
unfolding read
word_read dram at left w l s t e = cc

-- the words that are loaded, as far as they are, and the state after so many of them
pub record Fills (mems : List PlainMem) (line dram : ℕ) (parts : List transfers.Part) (start now : State) (k : ℕ) : Type 0 where
  pub store : hold (store_of start) line (rows (drop 1 (rows_of ((store_of start).held line)) ++ transfers.row_of (get_or (dims mems line) 1 0) (take k (row_words mems dram parts (store_of start))) ∷ [])) ≡ store_of now
  pub left : now.left ≡ start.left - word_count (transfers.lengths parts)
  pub keeps : Keeps start now

module _ (mems : List PlainMem) (line dram : ℕ) (parts : List transfers.Part) where
  pub fills_none : (s t u : State) (rs : CellRows) → IsLive t line (Rows rs) → length (get_or rs.items 0 no_cells).cells ≡ get_or (dims mems line) 1 0 → store_of t ≡ store_of s → t.left ≡ s.left - word_count (transfers.lengths parts) → Keeps s u
      → hold (store_of t) line (rows (map (λ (r : CellRow). r.cells) (drop 1 rs.items ++ blank (get_or rs.items 0 no_cells) ∷ []))) ≡ store_of u → u.left ≡ t.left → Fills mems line dram parts s u 0
  fills_none s t u rs live columns same left keeps shifted_store same_left =
      let cells : CellRow → List (Option ℕ) = λ r. r.cells in
      let older = ap (drop 1) (ap (λ st. rows_of (st.held line)) (sym same) ∙ rows_held t line rs live) ∙ drop-map cells 1 rs.items in
      let row = blank_row (get_or (dims mems line) 1 0) ∙ ap (λ n. replicate n None) (sym columns) in
      record {
        store = ap₂ (λ xs x. hold (store_of s) line (rows (xs ++ x ∷ []))) older row ∙ ap (λ xs. hold (store_of s) line (rows xs)) (sym (map_push cells (drop 1 rs.items) (blank (get_or rs.items 0 no_cells)))) ∙ ap (λ st. hold st line (rows (map cells (drop 1 rs.items ++ blank (get_or rs.items 0 no_cells) ∷ [])))) (sym same) ∙ shifted_store;
        left = same_left ∙ left;
        keeps = keeps;
      }

  module _ (start now next : State) (k : ℕ) (h : Fills mems line dram parts start now k) where
    pub fills_more : dram ≢ line → k < word_count (transfers.lengths parts) → k < get_or (dims mems line) 1 0 → Wrote line k (word_of_slice mems dram parts (store_of now) (offsets_at parts k)) (store_of now) (store_of next)
        → next.left ≡ now.left → Keeps now next → Fills mems line dram parts start next (k + 1)
    fills_more apart inside column wrote left keeps =
        let base = store_of start in
        let width = get_or (dims mems line) 1 0 in
        let ws = row_words mems dram parts base in
        let older = drop 1 (rows_of (base.held line)) in
        let row = transfers.row_of width (take k ws) in
        let all = rows (older ++ row ∷ []) in
        let word = word_of_slice mems dram parts (store_of now) (offsets_at parts k) in
        let count = length-offsets (transfers.lengths parts) in
        let held = ap (λ st. rows_of (st.held line)) (sym h.store) ∙ ap rows_of (held_now base line all) in
        let same = ap (λ st. word_of_slice mems dram parts st (offsets_at parts k)) (sym h.store) ∙ ap (λ c. get_or (words_of c) (row_major (dims mems dram) (transfers.places_of parts (offsets_at parts k))) 0) (held_other base line dram all apart) in
        let at = get_or-map (word_of_slice mems dram parts base) (transfers.all_offsets parts) k [] 0 (omega (arith, count)) ∙ ap (word_of_slice mems dram parts base) (offset_get parts k) in
        let grown = ap (λ n. transfers.row_of width (take n ws)) {x = k + 1} {y = suc k} (omega arith) ∙ row_grows width k ws (omega (arith, count, length-map (transfers.all_offsets parts) (word_of_slice mems dram parts base))) column ∙ ap (λ w. set row k (Some w)) (at ∙ sym same) in
        record {
          store = ap (λ x. hold base line (rows (older ++ x ∷ []))) grown ∙ sym (held_last base line all (rows (older ++ set row k (Some word) ∷ []))) ∙ ap (λ st. hold st line (rows (older ++ set row k (Some word) ∷ []))) h.store ∙ wrote older row held;
          left = left ∙ h.left;
          keeps = keeps_on start now next h.keeps keeps;
        }

    pub fills_all : k ≡ word_count (transfers.lengths parts) → word_count (transfers.lengths parts) ≤ start.left → transfers.load_row line (get_or (dims mems line) 1 0) dram (dims mems dram) parts start.left (store_of start) ≡ went tt now.left (store_of now)
    fills_all e enough =
        let base = store_of start in
        let width = get_or (dims mems line) 1 0 in
        let ws = row_words mems dram parts base in
        let count = length-offsets (transfers.lengths parts) in
        let whole = take_all k ws (omega (arith, count, length-map (transfers.all_offsets parts) (word_of_slice mems dram parts base))) in
        load_row_went mems line width dram parts start.left base enough
        ∙ ap₂ (λ n x. went tt n (hold base line (rows (drop 1 (rows_of (base.held line)) ++ transfers.row_of width x ∷ [])))) (sym h.left) (sym whole)
        ∙ ap (went tt now.left) h.store

-- the whole of a load
module _ (mems : List PlainMem) (roomy : List ℕ) (place left : ℕ) (s : Store) (line dram : ℕ) (spans : List PlainSpan) where
  pub line_halted : (stop : Stop) → in_order (part mems) spans left s ≡ halted stop → run_kind mems roomy (load_line line dram spans) place left s ≡ halted stop
  unfolding run
  line_halted stop r = bind_halted (in_order (part mems) spans) _ left s stop r

  module _ (parts : List transfers.Part) (l : ℕ) (t : Store) (r : in_order (part mems) spans left s ≡ went parts l t) where
    abbrev the_load : Step (Unit {0})
    the_load = transfers.transfer place (dims mems dram) parts RowLength (drop 1 (dims mems line)) (transfers.load_row line (get_or (dims mems line) 1 0) dram (dims mems dram) parts)

    pub line_stops : (stop : Stop) → the_load l t ≡ halted stop → run_kind mems roomy (load_line line dram spans) place left s ≡ halted stop
    unfolding run
    line_stops stop q = bind_went (in_order (part mems) spans) _ left s parts l t r ∙ bind_halted the_load _ l t stop q

    pub line_done : (n : ℕ) (u : Store) → the_load l t ≡ went tt n u → run_kind mems roomy (load_line line dram spans) place left s ≡ went (moved (transfers.words_by_lane (slice_lanes spans) (transfers.lengths parts)) ∷ []) n u
    unfolding run pure
    line_done n u q = bind_went (in_order (part mems) spans) _ left s parts l t r ∙ bind_went the_load _ l t tt n u q
