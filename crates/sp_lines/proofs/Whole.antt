-- A line buffer by the memory in banks that its rows are.
use Rattle.std.proofs.Common.{◌≡◌, ℕ, zero, suc, ◌+◌, ◌*◌, ◌<◌, true, List, [], ◌∷◌, length, slice_index, slice_index_or, sym, ap, subst, ◌∙◌, arith}
use Rattle.std.specs.List.{AllZip}
use Rattle.sp_bank.specs.Places.{IsInside}
use Rattle.sp_netlist.specs.Draft.{Draft}
use Rattle.sp_netlist.specs.Signals.{Signals}
use Rattle.sp_gates.specs.Runs.{RunsOn}
use Rattle.sp_gates.specs.Tested.{is_on}
use Rattle.sp_mem.specs.declared.part.Touch.{Touch}
use Rattle.sp_mem.specs.Copies.{copy_at}
use Rattle.sp_requests.specs.Elements.{element_at}
use Rattle.sp_requests.proofs.Zips.{zip_at, zip_long}
use Rattle.sp_banked.specs.declared.part.Banked.{Banked}
use Rattle.sp_banked.specs.Runs.{element_word, reads_of, RunsBanked}
use Rattle.sp_lines.specs.declared.part.Lines.{Lines}
use Rattle.sp_lines.specs.Turns.{row_of, is_turned, CountsTurns}
use Rattle.sp_lines.specs.Spots.{read_spot, load_spot, row_before, row_word, word_after, AreServed, LoadsServed}
use Rattle.sp_lines.specs.Fits.{IsSame, IsInner}
use Rattle.sp_lines.specs.Runs.{RunsLines}
use Rattle.sp_lines.proofs.Turning.{after_below, before_below, before_is, number_below}
use Rattle.sp_lines.proofs.Inner.{inner_filter}
use Rattle.sp_lines.proofs.Serving.{spot_at, first_of, second_of, served_inside, after_is}

module _ (d : Draft) (s : Signals) (part : Lines) (inner : Banked) (turns : List ℕ) (run : RunsOn s d.cells) (columns : length part.layout.dims.items ≡ 1) (same : IsSame part inner)
    (counts : (copy : ℕ) → copy < part.copies → CountsTurns s part.rows part.turns.items copy (slice_index turns copy)) (banked : RunsBanked s inner)
    (writes_are : AllZip (IsInner d part turns (load_spot part.rows)) part.loads.items inner.writes.items) (reads_are : AllZip (IsInner d part turns read_spot) part.reads.items inner.reads.items) where
  below : (t copy : ℕ) → copy < part.copies → s.net t (slice_index turns copy) < part.rows
  below t copy l = (counts copy l).below t

  number_small : (t copy row : ℕ) → copy < part.copies → row < part.rows → row_of s t part.rows turns copy row < inner.copies
  number_small t copy row l m =
      let place = after_below part.rows (s.net t (slice_index turns copy)) row (below t copy l) (omega (arith, m)) in
      let small = number_below part.rows copy _ part.copies l place in
      let is = same.copies in
      omega (arith, small, is)

  column_inside : (column : ℕ) → IsInside part.layout.dims.items (column ∷ []) → IsInside inner.layout.dims.items (column ∷ [])
  column_inside column h = subst (λ dims. IsInside dims (column ∷ [])) (sym same.dims) h

  duplicate_below : (n : ℕ) → n < part.duplicates → n < inner.duplicates
  duplicate_below n l = let is = same.duplicates in omega (arith, l, is)

  rows_hold : (t : ℕ) → LoadsServed s part t → (n copy row column : ℕ) → n < part.duplicates → copy < part.copies → row < part.rows → IsInside part.layout.dims.items (column ∷ [])
      → element_word s t inner n (row_of s t part.rows turns copy row) (column ∷ []) ≡ row_word s part copy t row column
  rows_hold zero served n copy row column l m k inside =
      banked.begins n (row_of s zero part.rows turns copy row) (column ∷ []) (duplicate_below n l) (number_small zero copy row m k) (column_inside column inside)
  rows_hold (suc t) served n copy row column l m k inside =
      let turned = is_turned s t copy part.turns.items in
      let before = row_before turned part.rows row in
      let low = before_below turned part.rows row k in
      let place : row_of s (suc t) part.rows turns copy row ≡ row_of s t part.rows turns copy before =
      ap (λ x. copy * part.rows + x) (before_is turned part.rows (s.net t (slice_index turns copy)) (s.net (suc t) (slice_index turns copy)) row (below t copy m) k ((counts copy m).goes t)) in
      let now = served t (omega arith) in
      ap (λ x. element_word s (suc t) inner n x (column ∷ [])) place
      ∙ banked.goes t (served_inside d s part inner turns run columns same below (load_spot part.rows) t part.loads.items inner.writes.items writes_are now) n (row_of s t part.rows turns copy before) (column ∷ [])
      (duplicate_below n l) (number_small t copy before m low) (column_inside column inside)
      ∙ after_is d s part inner turns run columns same below t copy before column m low part.loads.items inner.writes.items writes_are now.copies now.inside _
      ∙ ap (λ x. word_after_of t copy before column x) (rows_hold t (λ u h. served u (omega (arith, h))) n copy before column l m low inside)
    where
      word_after_of : (t copy row column old : ℕ) → ℕ
      word_after_of t copy row column old = word_after s t copy part.rows part.loads.items (row ∷ column ∷ []) old

  finds_at : (t n : ℕ) → n < part.duplicates → LoadsServed s part t → AreServed s t part (read_spot s t) (reads_of n part.reads.items) → (k : ℕ) (touch : Touch) → k < length (reads_of n part.reads.items)
      → is_on s (slice_index_or (reads_of n part.reads.items) k touch).enable t ≡ true → (row column : ℕ) → read_spot s t (slice_index_or (reads_of n part.reads.items) k touch) ≡ row ∷ column ∷ []
      → s.net (suc (suc t)) (slice_index_or (reads_of n part.reads.items) k touch).word ≡ row_word s part (copy_at s t (slice_index_or (reads_of n part.reads.items) k touch).copy) t row column
  finds_at t n n_below loads served k touch l on row column spot =
      let touches = reads_of n part.reads.items in
      let inners = reads_of n inner.reads.items in
      let are = inner_filter d part turns read_spot n part.reads.items inner.reads.items reads_are in
      let long = zip_long (IsInner d part turns read_spot) touches inners are in
      let m : k < length inners = omega (arith, long, l) in
      let r = slice_index_or touches k touch in
      let i = slice_index_or inners k touch in
      let is = zip_at (IsInner d part turns read_spot) touches inners k touch touch are l in
      let at = spot_at part.rows part.layout.dims.items (read_spot s t r) columns (served.inside k touch l on) in
      let copy_small = served.copies k touch l on in
      let copy = copy_at s t r.copy in
      let one_row : at.row ≡ row = first_of _ _ _ _ (sym at.is ∙ spot) in
      let one_column : at.column ≡ column = second_of _ _ _ _ (sym at.is ∙ spot) in
      let row_small : row < part.rows = let q = at.below in omega (arith, q, one_row) in
      let inside : IsInside part.layout.dims.items (column ∷ []) = subst (λ x. IsInside part.layout.dims.items (x ∷ [])) one_column at.inside in
      let number = is.row_is s run t row column spot row_small copy_small in
      let element = is.column_is s run t row column spot in
      let small = number_small t copy row copy_small row_small in
      ap (s.net (suc (suc t))) (sym is.word)
      ∙ banked.finds t n (served_inside d s part inner turns run columns same below read_spot t touches inners are served) k touch m (ap (λ e. is_on s e t) is.enable ∙ on) (omega (arith, small, number))
      ∙ ap (λ x. element_word s t inner n x (element_at s t i)) number
      ∙ ap (element_word s t inner n (row_of s t part.rows turns copy row)) element
      ∙ rows_hold t loads n copy row column n_below copy_small row_small inside

  pub lines_run : RunsLines s part
  lines_run = record { finds = λ t n l loads served k touch m on row column spot. finds_at t n l loads served k touch m on row column spot }
