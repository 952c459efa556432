-- The parts of a loop of a core fit.
use Rattle.std.proofs.Common.{◌≡◌, ℕ, zero, suc, ◌+◌, ◌<◌, ◌≤◌, ◌⊎◌, inl, inr, refl, subst, arith, List, [], ◌∷◌, length, map, drop}
use Rattle.std.specs.Prelude.{slice_index_or, Contains}
use Rattle.std.proofs.lemmas.List.{length-append, length-drop}
use Rattle.sp_netlist.specs.declared.parts.Wire.{Wire}
use Rattle.sp_core.specs.Around.{lanes_of}
use Rattle.sp_core.specs.PlainCore.{PlainCounter}
use Rattle.sp_counters.specs.declared.part.Counted.{Counted}
use Rattle.sp_counters.specs.declared.part.Counter.{Counter}
use Rattle.sp_beat_words.specs.declared.part.Row.{Row}
use Rattle.sp_beat_words.specs.Fits.{row_nets}
use Rattle.sp_part_runs.specs.WordsLaws.{AreAsLong}
use Rattle.sp_node_runs.specs.BodiesRows.{wires_of}
use Rattle.sp_part_runs.proofs.SequencesPlacing.{map_length}
use Rattle.sp_tree_circuits.specs.Circuits.{first_lane, last_lane}
use Rattle.sp_loop_nets.specs.Fits.{counted_wires, value_wires, mask_wires}
use Rattle.sp_stage_members.specs.Circuits.{masks_in, StagesHaveLanes}
use Rattle.sp_stage_members.specs.Members.{part_at, masks_at, starts_in, PartsFit}
use Rattle.sp_loop_circuits.specs.Laws.{PartsOfLoopsFit, LoopsFit}
use Rattle.sp_loop_circuits.proofs.Apart.{nets_are_apart}
use Rattle.sp_loop_circuits.proofs.Rows.{masks_stand}

-- as many masks as lanes in each list
wires_long : (nets : Counted) → length (counted_wires nets) ≡ length nets.counters.items + length nets.masks.items
wires_long nets =
    let a = length-append (value_wires nets.counters.items) (mask_wires nets.masks.items) in
    let b = map_length {B = Wire} (λ (n : Counter). record { net = n.value; width = 32 }) nets.counters.items in
    let c = map_length {B = Wire} (λ (n : ℕ). record { net = n; width = 1 }) nets.masks.items in
    omega (arith, a, b, c)

row_long : (n masks : ℕ) (rows : List Row) → AreAsLong (n + masks) rows → (x : ℕ) → x < length rows → length (slice_index_or (map (λ (row : Row). drop n (wires_of row.wires.items)) rows) x []) ≡ masks
row_long n masks [] h x l = absurd (omega (arith, l))
row_long n masks (row ∷ rows) h zero l = let a = length-drop n (wires_of row.wires.items) in let b = map_length (λ (w : Wire). w.net) row.wires.items in let c = h.0 in omega (arith, a, b, c)
row_long n masks (row ∷ rows) h (suc x) l = row_long n masks rows h.1 x (omega (arith, l))

list_long : (nets : Counted) (rows : List Row) → AreAsLong (length (counted_wires nets)) rows → (x : ℕ) → x ≤ length rows → length (masks_at (masks_in nets rows) x) ≡ length nets.masks.items
list_long nets rows h zero l = refl
list_long nets rows h (suc x) l = row_long (length nets.counters.items) (length nets.masks.items) rows (subst (λ n. AreAsLong n rows) (wires_long nets) h) x (omega (arith, l))

-- a stage that isn't always wanted is one of a loop with counters
counter_or_none : (counters : List PlainCounter) → (counters ≡ []) ⊎ ((c : PlainCounter) × Contains counters c)
counter_or_none [] = inl refl
counter_or_none (c ∷ counters) = inr (c, (0, omega arith, refl))

pub parts_of_loops_fit : StagesHaveLanes → PartsOfLoopsFit
parts_of_loops_fit law d counters stages begun parts h once = record {
  each = λ i l.
      (let e = h.each in
      let k = law (lanes_of counters) stages h.some h.right i (omega (arith, l, e)) in
      let f = h.lanes.firsts i in
      let g = h.lanes.lasts i in
      let o = k.0 in
      let w = k.1 in
      record {
        start = h.starts i l;
        done = h.dones i l;
        order = omega (arith, o, f, g);
        lanes = λ p x m. by i (counter_or_none counters) p x m f g w;
      });
  apart = once;
  stand = masks_stand d begun.nets begun.rows.before.items begun.rows.rows.items h.counted h.wires h.rows;
}
  where
    long : AreAsLong (length (counted_wires begun.nets)) begun.rows.rows.items
    long = subst (λ ws. AreAsLong (length ws) begun.rows.rows.items) h.wires h.long

    by : (i : ℕ) → (counters ≡ []) ⊎ ((c : PlainCounter) × Contains counters c) → 1 ≤ (part_at parts i).first → (x : ℕ) → x ≤ length begun.rows.rows.items → first_lane stages i ≡ (part_at parts i).first
        → last_lane stages i ≡ (part_at parts i).last → last_lane stages i < lanes_of counters → (part_at parts i).last < length (masks_at (masks_in begun.nets begun.rows.rows.items) x)
    by i (inl e) p x m f g w = let z = h.lanes.single e i in absurd (omega (arith, z, f, p))
    by i (inr c) p x m f g w = let t = (h.fit c.0 c.1).1 in let n = list_long begun.nets begun.rows.rows.items long x m in omega (arith, g, w, t, n)

pub loops_fit : StagesHaveLanes → LoopsFit
loops_fit law d counters stages begun parts places from all h start more step rise part once each =
    let apart = nets_are_apart from begun.part.step (row_nets begun.rows.rows.items) (starts_in parts) all rise part in
    record {
      start = start;
      more = more;
      step = step;
      rows = h.rows;
      fit = subst (λ n. PartsFit d (masks_in begun.nets begun.rows.rows.items) n parts) each (parts_of_loops_fit law d counters stages begun parts h apart.0);
      once = once;
      apart = apart.1;
      no_row = apart.2;
      no_start = apart.3;
    }
