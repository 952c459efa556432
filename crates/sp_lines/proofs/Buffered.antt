-- A copy is the line buffer of a core.
use Rattle.std.proofs.Common.{◌≡◌, ◌≢◌, ℕ, zero, suc, ◌+◌, ◌-◌, ◌<◌, ◌≤◌, ◌==◌, ◌⊎◌, inl, inr, Bool, true, false, ◌&&◌, if◌then◌else◌, List, [], ◌∷◌, length, get_or, replicate, slice_index_or, All, Option, Some, None, refl, sym, ap, subst, ◌∙◌, arith, eq-eqb, ne_eqb}
use Rattle.std.proofs.lemmas.List.{length-set, length-replicate, get_or_past, get_or-replicate}
use Rattle.std.proofs.lemmas.Bool.{cases_lt}
use Rattle.sp_words.specs.declared.kind.Kind.TheVariants.{LineBuf}
use Rattle.sp_words.specs.Memory.{Contents, rows, fresh_rows}
use Rattle.sp_bank.specs.Places.{IsInside}
use Rattle.sp_netlist.specs.Signals.{Signals}
use Rattle.sp_gates.specs.Tested.{is_on}
use Rattle.sp_mem.specs.declared.part.Touch.{Touch}
use Rattle.sp_mem.specs.Copies.{copy_at, is_at}
use Rattle.sp_requests.specs.Elements.{are_same}
use Rattle.sp_banked.specs.Runs.{reads_of}
use Rattle.sp_core.specs.Accesses.{word_in, with_word, with_new_row}
use Rattle.sp_core.specs.Store.{rows_of}
use Rattle.sp_lines.specs.declared.part.Lines.{Lines}
use Rattle.sp_lines.specs.Turns.{row_after, is_turned}
use Rattle.sp_lines.specs.Spots.{read_spot, load_spot, word_after, row_before, row_word, AreServed, LoadsServed}
use Rattle.sp_lines.specs.Runs.{RunsLines}
use Rattle.sp_lines.specs.Buffers.{dims_of, buffer_loaded, buffer_turned, buffer}
use Rattle.sp_lines.proofs.Turning.{after_cases}
use Rattle.sp_lines.proofs.Buffering.{nothing, cell, set_cell, turned_cell, turned_long}
use Rattle.sp_lines.proofs.Serving.{spot_at}

-- the rows are all there, and each word that stands in them is that of a function of rows and columns
record Shows (part : Lines) (c : Contents) (word_at : ℕ → ℕ → ℕ) : Type 0 where
  pub long : length (rows_of (Some c)) ≡ part.rows
  pub words : (row column word : ℕ) → row < part.rows → cell (rows_of (Some c)) row column ≡ Some word → word_at row column ≡ word

none_fresh : (n columns row column : ℕ) → cell (replicate n (replicate columns nothing)) row column ≡ None
none_fresh n columns row column = go (cases_lt row n)
  where
    inner : (cases_column : (column < columns) ⊎ (columns ≤ column)) → get_or (replicate columns nothing) column None ≡ None
    inner (inl l) = get_or-replicate columns column None None l
    inner (inr l) = get_or_past (replicate columns nothing) column None (let k = length-replicate columns nothing in omega (arith, k, l))

    go : (row < n) ⊎ (n ≤ row) → cell (replicate n (replicate columns nothing)) row column ≡ None
    go (inl l) = ap (λ (x : List (Option ℕ)). get_or x column None) (get_or-replicate n row (replicate columns nothing) [] l) ∙ inner (cases_lt column columns)
    go (inr l) = ap (λ (x : List (Option ℕ)). get_or x column None) (get_or_past (replicate n (replicate columns nothing)) row [] (let k = length-replicate n (replicate columns nothing) in omega (arith, k, l)))

fresh_is : (n : ℕ) (dims : List ℕ) → length dims ≡ 1 → (columns : ℕ) × (fresh_rows (n ∷ dims) ≡ replicate n (replicate columns None))
fresh_is n (c ∷ []) e = (c, refl)
fresh_is n [] e = absurd (omega (arith, e))
fresh_is n (c ∷ x ∷ dims) e = absurd (omega (arith, e))

module _ (part : Lines) (some : 1 ≤ part.rows) (columns : length part.layout.dims.items ≡ 1) where
  shows_fresh : (word_at : ℕ → ℕ → ℕ) → Shows part (rows (fresh_rows (dims_of part))) word_at
  shows_fresh word_at =
      let is = fresh_is part.rows part.layout.dims.items columns in
      record {
        long = ap length is.1 ∙ length-replicate part.rows (replicate is.0 None);
        words = λ row column word l e. absurd (let f : None ≡ Some word = sym (none_fresh part.rows is.0 row column) ∙ ap (λ x. cell x row column) (sym is.1) ∙ e in cc);
      }

  shows_turned : (c : Contents) (word_at : ℕ → ℕ → ℕ) → Shows part c word_at → Shows part (with_new_row (dims_of part) (Some c)) (λ row. word_at (row_after part.rows row 1))
  shows_turned c word_at h = record {
    long = turned_long (rows_of (Some c)) _ part.rows some h.long;
    words = λ row column word l e.
        let was = turned_cell (rows_of (Some c)) _ row column word e in
        let long = h.long in
        let within = was.0 in
        let low : row + 1 < part.rows = omega (arith, within, long) in
        ap (λ r. word_at r column) (next row low) ∙ h.words (row + 1) column word low was.1;
  }
    where
      next : (row : ℕ) → row + 1 < part.rows → row_after part.rows row 1 ≡ row + 1
      next row l = go (after_cases part.rows row 1)
        where
          go : ((row + 1 < part.rows) × (row_after part.rows row 1 ≡ row + 1)) ⊎ ((part.rows ≤ row + 1) × (row_after part.rows row 1 ≡ row + 1 - part.rows)) → row_after part.rows row 1 ≡ row + 1
          go (inl h) = h.1
          go (inr h) = absurd (let a = h.0 in omega (arith, a, l))

  shows_after : (turned : Bool) (c : Contents) (word_at : ℕ → ℕ → ℕ) → Shows part c word_at → Shows part (buffer_turned turned part c) (λ row. word_at (row_before turned part.rows row))
  shows_after true c word_at h = shows_turned c word_at h
  shows_after false c word_at h = h

  module _ (s : Signals) (t copy : ℕ) (l : copy < part.copies) where
    -- where a word was written, the function has it there
    abbrev written_at : (row column value : ℕ) (word_at : ℕ → ℕ → ℕ) → ℕ → ℕ → ℕ
    written_at row column value word_at x y = if are_same (row ∷ column ∷ []) (x ∷ y ∷ []) then value else word_at x y

    shows_written : (c : Contents) (word_at : ℕ → ℕ → ℕ) (row column value : ℕ) → Shows part c word_at → Shows part (with_word LineBuf (dims_of part) (row ∷ column ∷ []) value (Some c)) (written_at row column value word_at)
    shows_written c word_at row column value h = record {
      long = length-set (rows_of (Some c)) row _ ∙ h.long;
      words = λ x y word m e. go x y word m (set_cell (rows_of (Some c)) row column value x y word e);
    }
      where
        go : (x y word : ℕ) → x < part.rows → (((x ≡ row) × (y ≡ column)) × (word ≡ value)) ⊎ (((x ≢ row) ⊎ (y ≢ column)) × (cell (rows_of (Some c)) x y ≡ Some word))
            → (if are_same (row ∷ column ∷ []) (x ∷ y ∷ []) then value else word_at x y) ≡ word
        go x y word m (inl k) = rw (eq-eqb row x (sym k.0.0), eq-eqb column y (sym k.0.1)) (sym k.1)
        go x y word m (inr (inl far, k)) = rw (ne_eqb row x (λ e. far (sym e))) (h.words x y word m k)
        go x y word m (inr (inr far, k)) = other (row == x)
          where
            other : (b : Bool) → (if b && ((column == y) && true) then value else word_at x y) ≡ word
            other true = rw (ne_eqb column y (λ e. far (sym e))) (h.words x y word m k)
            other false = h.words x y word m k

    shows_same : (c : Contents) (f g : ℕ → ℕ → ℕ) → ((row column : ℕ) → f row column ≡ g row column) → Shows part c f → Shows part c g
    shows_same c f g e h = record { long = h.long; words = λ row column word m k. sym (e row column) ∙ h.words row column word m k }

    shows_loaded : (ws : List Touch) → All (λ a. is_on s a.enable t ≡ true → IsInside (part.rows ∷ part.layout.dims.items) (load_spot part.rows s t a)) ws → (c : Contents) (word_at : ℕ → ℕ → ℕ) → Shows part c word_at
        → Shows part (buffer_loaded s t copy part ws c) (λ row column. word_after s t copy part.rows ws (row ∷ column ∷ []) (word_at row column))
    shows_loaded [] inside c word_at h = h
    shows_loaded (w ∷ ws) inside c word_at h = shows_loaded ws (λ k e n. inside (suc k) e (omega (arith, n))) _ _ (step (is_at s t w.enable w.copy copy) refl)
      where
        on_at : (a b : Bool) → (a && b) ≡ true → a ≡ true
        on_at true b e = refl
        on_at false b e = absurd (cc)

        written : (row column : ℕ) → Shows part (with_word LineBuf (dims_of part) (row ∷ column ∷ []) (s.net t w.word) (Some c)) (λ x y. if are_same (row ∷ column ∷ []) (x ∷ y ∷ []) then s.net t w.word else word_at x y)
        written row column = shows_written c word_at row column (s.net t w.word) h

        step : (b : Bool) → is_at s t w.enable w.copy copy ≡ b
            → Shows part (if b then with_word LineBuf (dims_of part) (load_spot part.rows s t w) (s.net t w.word) (Some c) else c)
            (λ row column. if b && are_same (load_spot part.rows s t w) (row ∷ column ∷ []) then s.net t w.word else word_at row column)
        step false e = h
        step true e =
            let at = spot_at part.rows part.layout.dims.items (load_spot part.rows s t w) columns (inside 0 w (omega arith) (on_at (is_on s w.enable t) _ e)) in
            subst (λ z. Shows part (with_word LineBuf (dims_of part) z (s.net t w.word) (Some c)) (λ row column. if are_same z (row ∷ column ∷ []) then s.net t w.word else word_at row column)) (sym at.is)
            (written at.row at.column)

  module _ (s : Signals) (anew : ℕ → Bool) (copy : ℕ) (l : copy < part.copies) where
    shown_next : (t : ℕ) (b : Bool) → anew t ≡ b → LoadsServed s part (suc t) → Shows part (buffer s part anew copy t) (row_word s part copy t) → Shows part (buffer s part anew copy (suc t)) (row_word s part copy (suc t))
    shown_next t true e served h = rw e (shows_fresh (row_word s part copy (suc t)))
    shown_next t false e served h = rw e
        (shows_after (is_turned s t copy part.turns.items) _ (λ row column. word_after s t copy part.rows part.loads.items (row ∷ column ∷ []) (row_word s part copy t row column))
        (shows_loaded s t copy l part.loads.items (served t (omega arith)).inside (buffer s part anew copy t) (row_word s part copy t) h))

    shown : (t : ℕ) → LoadsServed s part t → Shows part (buffer s part anew copy t) (row_word s part copy t)
    shown zero served = shows_fresh (λ row column. 0)
    shown (suc t) served = shown_next t (anew t) refl served (shown t (λ u h. served u (omega (arith, h))))

one_column : (n : ℕ) (dims : List ℕ) (row column : ℕ) → IsInside (n ∷ dims) (row ∷ column ∷ []) → length dims ≡ 1
one_column n (c ∷ []) row column h = refl
one_column n [] row column h = absurd h.1
one_column n (c ∷ x ∷ dims) row column h = absurd h.1.1

pub shows : (s : Signals) (part : Lines) (anew : ℕ → Bool) (copy t row column word : ℕ) → LoadsServed s part t → copy < part.copies → IsInside (dims_of part) (row ∷ column ∷ [])
    → word_in LineBuf (dims_of part) (row ∷ column ∷ []) (Some (buffer s part anew copy t)) ≡ Some word → row_word s part copy t row column ≡ word
shows s part anew copy t row column word served l inside e =
    let low = inside.0 in
    (shown part (omega (arith, low)) (one_column part.rows part.layout.dims.items row column inside) s anew copy l t served).words row column word low e

inside_spot : (n : ℕ) (dims x : List ℕ) → length dims ≡ 1 → IsInside (n ∷ dims) x → (row : ℕ) × ((column : ℕ) × (x ≡ row ∷ column ∷ []))
inside_spot n dims x e h = let at = spot_at n dims x e h in (at.row, (at.column, at.is))

pub finds : (s : Signals) (part : Lines) → RunsLines s part → length part.layout.dims.items ≡ 1 → (anew : ℕ → Bool) (t n : ℕ) → n < part.duplicates → LoadsServed s part t → AreServed s t part (read_spot s t) (reads_of n part.reads.items)
    → All (λ r. is_on s r.enable t ≡ true → (word : ℕ) → word_in LineBuf (dims_of part) (read_spot s t r) (Some (buffer s part anew (copy_at s t r.copy) t)) ≡ Some word → s.net (suc (suc t)) r.word ≡ word) (reads_of n part.reads.items)
finds s part run columns anew t n l loads served k touch m on word e =
    let r = slice_index_or (reads_of n part.reads.items) k touch in
    let inside = served.inside k touch m on in
    let at = inside_spot part.rows part.layout.dims.items (read_spot s t r) columns inside in
    run.finds t n l loads served k touch m on at.0 at.1.0 at.1.1
    ∙ shows s part anew (copy_at s t r.copy) t at.0 at.1.0 word loads (served.copies k touch m on) (subst (IsInside (dims_of part)) at.1.1 inside)
    (ap (λ z. word_in LineBuf (dims_of part) z (Some (buffer s part anew (copy_at s t r.copy) t))) (sym at.1.1) ∙ e)
