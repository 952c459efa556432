-- Rows of promised wires.
use Rattle.std.proofs.Common.{◌≡◌, ℕ, zero, suc, ◌+◌, ◌<◌, ⊎_elim, List, [], ◌∷◌, ◌++◌, length, Contains, All, take, slice_index_or, append_assoc, refl, sym, ap, subst, inl, ◌∙◌, arith}
use Rattle.std.proofs.lemmas.List.{take_more, append-nil}
use Rattle.std.proofs.lemmas.List.Elements.{Contains-append_right, Contains-append_left, Contains-append_cases}
use Rattle.sp_netlist.specs.declared.parts.Wire.{Wire}
use Rattle.sp_netlist.specs.Draft.{Draft}
use Rattle.sp_netlist.specs.Rules.{IsWidth}
use Rattle.sp_gates.specs.Grows.{Grows, Opens}
use Rattle.sp_gates.specs.Nets.{HasNet, IsOpen, Awaits}
use Rattle.sp_gates.proofs.Growing.{Grows-join, HasNet-stays, Awaits-stays}
use Rattle.sp_counters.specs.declared.part.Counter.{Counter}
use Rattle.sp_counters.specs.declared.part.Counted.{Counted}
use Rattle.sp_counters.specs.Fits.{IsCounter}
use Rattle.sp_sequence.specs.Fits.{AreApart}
use Rattle.sp_beat_words.specs.declared.part.Row.{Row}
use Rattle.sp_beat_words.specs.Fits.{nets_of, row_nets, IsRow, no_wire, one_wire, AreRows, no_row, one_row}
use Rattle.sp_part_runs.specs.WordsLaws.{AreAsLong}
use Rattle.sp_node_runs.specs.BodiesGiven.{values_of}
use Rattle.sp_node_runs.specs.BodiesRows.{wires_of}
use Rattle.sp_op_nets.specs.Reserved.{Reserves}
use Rattle.sp_op_nets.proofs.Driving.{stay}
use Rattle.sp_op_nets.proofs.Giving.{above}
use Rattle.sp_op_nets.proofs.Reserving.{awaits_open, one_reserved, reserved_join}
use Rattle.sp_loop_nets.specs.Fits.{WireStands, CountedStand, value_wires, mask_wires}
use Rattle.sp_loop_nets.specs.Laws.{RowsStay}

none_in : (x : ℕ) → Contains [] x → ⊥
none_in x c = let l = c.1 in absurd (omega (arith, l))

one_in : (x y : ℕ) → Contains (x ∷ []) y → y ≡ x
one_in x y (zero, l, e) = sym e
one_in x y (suc k, l, e) = absurd (omega (arith, l))

nets_append : (xs ys : List Wire) → nets_of (xs ++ ys) ≡ nets_of xs ++ nets_of ys
nets_append [] ys = refl
nets_append (x ∷ xs) ys = ap (λ ns. x.net ∷ ns) (nets_append xs ys)

rows_append : (xs ys : List Row) → row_nets (xs ++ ys) ≡ row_nets xs ++ row_nets ys
rows_append [] ys = refl
rows_append (x ∷ xs) ys = ap (λ ns. nets_of x.wires.items ++ ns) (rows_append xs ys) ∙ sym (append_assoc (nets_of x.wires.items) (row_nets xs) (row_nets ys))

-- a row stays one where more nets are reserved
pub row_later : (a b : Draft) (nets : List ℕ) (before wires : List Wire) → Reserves a b nets → IsRow a before wires → IsRow b before wires
row_later a b nets _ _ r no_wire = no_wire
row_later a b nets _ _ r (one_wire {w = w} {v = v} {before = before} {wires = wires} h i k e p rest) =
    one_wire (HasNet-stays a b w.net w.width r.grows h) (stay a b v.net w.width nets i r) k e p (row_later a b nets before wires r rest)

pub rows_later : (a b : Draft) (nets : List ℕ) (before : List Wire) (rows : List Row) → Reserves a b nets → AreRows a before rows → AreRows b before rows
rows_later a b nets before _ r no_row = no_row
rows_later a b nets before _ r (one_row {row = row} {rows = rows} h p rest) = one_row (row_later a b nets before row.wires.items r h) p (rows_later a b nets row.wires.items rows r rest)

-- each net of a row is open
row_open : (d : Draft) (before wires : List Wire) → IsRow d before wires → (n : ℕ) → Contains (nets_of wires) n → IsOpen d n
row_open d _ _ no_wire n k = absurd (none_in n k)
row_open d _ _ (one_wire {w = w} {v = v} {before = before} {wires = wires} h i e f p rest) n k =
    ⊎_elim (λ l. subst (IsOpen d) (sym (one_in v.net n l)) (awaits_open d v.net w.width i)) (λ m. row_open d before wires rest n m) (Contains-append_cases (v.net ∷ []) (nets_of wires) n k)

rows_open : (d : Draft) (before : List Wire) (rows : List Row) → AreRows d before rows → (n : ℕ) → Contains (row_nets rows) n → IsOpen d n
rows_open d before _ no_row n k = absurd (none_in n k)
rows_open d before _ (one_row {row = row} {rows = rows} h p rest) n k =
    ⊎_elim (λ l. row_open d before row.wires.items h n l) (λ m. rows_open d row.wires.items rows rest n m) (Contains-append_cases (nets_of row.wires.items) (row_nets rows) n k)

-- one wire more, which was promised last
module _ (a b : Draft) (w v : Wire) (o : Opens a b v.net) (from : HasNet b w.net w.width) (into : Awaits b v.net w.width) (wide : IsWidth w.width) (same : v.width ≡ w.width) where
  pub row_end : (before wires : List Wire) → IsRow a before wires → IsRow b (before ++ w ∷ []) (wires ++ v ∷ [])
  row_end _ _ no_wire = one_wire from into wide same (none_in v.net) no_wire
  row_end _ _ (one_wire {w = x} {v = y} {before = before} {wires = wires} h i k e p rest) =
      one_wire (HasNet-stays a b x.net x.width o.grows h) (Awaits-stays a b y.net x.width o.grows (o.still_open y.net (awaits_open a y.net x.width i)) i) k e apart (row_end before wires rest)
    where
      apart : Contains (nets_of (wires ++ v ∷ [])) y.net → ⊥
      apart c = ⊎_elim p (λ m. (let s = one_in v.net y.net m in let f = o.fresh in let l = (awaits_open a y.net x.width i).within in omega (arith, s, f, l)))
          (Contains-append_cases (nets_of wires) (v.net ∷ []) y.net (subst (λ ns. Contains ns y.net) (nets_append wires (v ∷ [])) c))

-- two rows from the same wires are one behind the other
pub row_behind : (d : Draft) (before first second : List Wire) → IsRow d before first → IsRow d before second → IsRow d first second
row_behind d _ _ _ no_wire no_wire = no_wire
row_behind d _ _ _ (one_wire {w = w} {v = v} {before = before} {wires = wires} h i k e p rest) (one_wire {v = x} {wires = others} g j l f q more) =
    one_wire (subst (HasNet d v.net) (sym e) (record { wide = i.wide; ready = inl i.kept })) (subst (Awaits d x.net) (sym e) j) (subst IsWidth (sym e) k) (f ∙ sym e) q (row_behind d before wires others rest more)

pub rows_end : (d : Draft) (before : List Wire) (rows : List Row) (row : Row) → AreRows d before rows → IsRow d before row.wires.items → ((n : ℕ) → Contains (row_nets rows) n → Contains (nets_of row.wires.items) n → ⊥) → AreRows d before (rows ++ row ∷ [])
rows_end d before _ row no_row h out = one_row h (λ n i j. none_in n j) no_row
rows_end d before _ row (one_row {row = x} {rows = rows} g p rest) h out =
    one_row g apart (rows_end d x.wires.items rows row rest (row_behind d before x.wires.items row.wires.items g h) (λ n i j. out n (Contains-append_right (nets_of x.wires.items) (row_nets rows) n i) j))
  where
    last : (n : ℕ) → Contains (row_nets (rows ++ row ∷ [])) n → Contains (row_nets rows ++ nets_of row.wires.items) n
    last n c = subst (λ ns. Contains ns n) (rows_append rows (row ∷ []) ∙ ap (λ ns. row_nets rows ++ ns) (append-nil (nets_of row.wires.items))) c

    apart : AreApart (nets_of x.wires.items) (row_nets (rows ++ row ∷ []))
    apart n i j = ⊎_elim (λ l. p n i l) (λ m. out n (Contains-append_left (nets_of x.wires.items) (row_nets rows) n i) m) (Contains-append_cases (row_nets rows) (nets_of row.wires.items) n (last n j))

-- rows are as long as what is before them
pub row_long : (d : Draft) (before wires : List Wire) → IsRow d before wires → length wires ≡ length before
row_long d _ _ no_wire = refl
row_long d _ _ (one_wire {before = before} {wires = wires} h i k e p rest) = ap suc (row_long d before wires rest)

rows_long_at : (d : Draft) (count : ℕ) (before : List Wire) (rows : List Row) → length before ≡ count → AreRows d before rows → AreAsLong count rows
rows_long_at d count before _ e no_row = tt
rows_long_at d count before _ e (one_row {row = row} {rows = rows} h p rest) = (row_long d before row.wires.items h ∙ e, rows_long_at d count row.wires.items rows (row_long d before row.wires.items h ∙ e) rest)

pub rows_long : (d : Draft) (before : List Wire) (rows : List Row) → AreRows d before rows → AreAsLong (length before) rows
rows_long d before rows h = rows_long_at d (length before) before rows refl h

-- wires of counters
pub values_are : (counters : List Counter) (masks : List ℕ) → wires_of (value_wires counters ++ mask_wires masks) ≡ values_of counters ++ masks
values_are [] [] = refl
values_are [] (m ∷ masks) = ap (λ ns. m ∷ ns) (values_are [] masks)
values_are (c ∷ counters) masks = ap (λ ns. c.value ∷ ns) (values_are counters masks)

-- wires of nets that stand, stand
masks_stand : (d : Draft) (masks : List ℕ) → All (λ net. HasNet d net 1) masks → All (WireStands d) (mask_wires masks)
masks_stand d [] h k w lt = absurd (omega (arith, lt))
masks_stand d (m ∷ masks) h zero w lt = record { net = h 0 m (omega arith); width = (omega arith, omega arith) }
masks_stand d (m ∷ masks) h (suc k) w lt = masks_stand d masks (λ j n l. h (suc j) n (omega (arith, l))) k w (omega (arith, lt))

values_stand : (d : Draft) (counters : List Counter) (others : List Wire) → All (IsCounter d) counters → All (WireStands d) others → All (WireStands d) (value_wires counters ++ others)
values_stand d [] others h g k w lt = g k w lt
values_stand d (c ∷ counters) others h g zero w lt = record { net = h 0 c (omega arith); width = (omega arith, omega arith) }
values_stand d (c ∷ counters) others h g (suc k) w lt = values_stand d counters others (λ j n l. h (suc j) n (omega (arith, l))) g k w (omega (arith, lt))

pub wires_stand : (a b : Draft) (counted : Counted) (wires : List Wire) → Grows a b → CountedStand a counted → wires ≡ value_wires counted.counters.items ++ mask_wires counted.masks.items → All (WireStands b) wires
wires_stand a b counted wires g h e = subst (All (WireStands b)) (sym e) (λ k w lt. (let was = values_stand a counted.counters.items (mask_wires counted.masks.items) h.values (masks_stand a counted.masks.items h.masks) k w lt in
    record { net = HasNet-stays a b _ _ g was.net; width = was.width }))

-- a step of each of the loops
module _ (old a b : Draft) (before wires : List Wire) (i net width : ℕ) (w : Wire) (lt : i < length before) (is : w ≡ slice_index_or before i w) (stand : All (WireStands old) before) (was : Reserves old a (nets_of wires)) (o : Opens a b net) (same : width ≡ w.width) (into : Awaits b net width) where
  here : WireStands old w
  here = subst (WireStands old) (sym is) (stand i w lt)

  pub row_step : IsRow a (take i before) wires → IsRow b (take (i + 1) before) (wires ++ record { net = net; width = width } ∷ [])
  row_step h =
      subst (λ xs. IsRow b xs (wires ++ record { net = net; width = width } ∷ [])) (sym (take_more before i w lt ∙ ap (λ x. take i before ++ x ∷ []) (sym is)))
      (row_end a b w (record { net = net; width = width }) o (HasNet-stays old b w.net w.width (Grows-join old a b was.grows o.grows) here.net) (subst (Awaits b net) same into) here.width same (take i before) wires h)

  pub row_step_reserves : Reserves old b (nets_of (wires ++ record { net = net; width = width } ∷ []))
  row_step_reserves = subst (Reserves old b) (sym (nets_append wires (record { net = net; width = width } ∷ []))) (reserved_join old a b (nets_of wires) (net ∷ []) was (one_reserved a b net width o into))

module _ (old a b : Draft) (before : List Wire) (rows : List Row) (row : Row) (was : Reserves old a (row_nets rows)) (more : Reserves a b (nets_of row.wires.items)) where
  pub rows_step : AreRows a before rows → IsRow b before row.wires.items → AreRows b before (rows ++ row ∷ [])
  rows_step h g = rows_end b before rows row (rows_later a b (nets_of row.wires.items) before rows more h) g
      (λ n i j. (let low = (rows_open a before rows h n i).within in let up = above (length a.promised) (nets_of row.wires.items) n more.rise j in omega (arith, low, up)))

  pub rows_step_reserves : Reserves old b (row_nets (rows ++ row ∷ []))
  rows_step_reserves =
      subst (Reserves old b) (sym (rows_append rows (row ∷ []) ∙ ap (λ ns. row_nets rows ++ ns) (append-nil (nets_of row.wires.items)))) (reserved_join old a b (row_nets rows) (nets_of row.wires.items) was more)

pub rows_stand_later : RowsStay
rows_stand_later a b before rows nets r h = rows_later a b nets before rows r h
