-- A closed loop has its circuit.
use Rattle.std.proofs.Common.{ℕ, List, [], ◌∷◌, ◌++◌, inl, inr, refl, subst}
use Rattle.std.specs.Prelude.{Contains, ◌↔◌}
use Rattle.std.proofs.lemmas.List.Elements.{Contains-append_left, Contains-append_right, Contains-append_cases}
use Rattle.sp_core.specs.PlainCore.{PlainCounter}
use Rattle.sp_counters.specs.declared.part.Counted.{Counted}
use Rattle.sp_beat_words.specs.declared.part.Row.{Row}
use Rattle.sp_tree_circuits.specs.Circuits.{TakeWords}
use Rattle.sp_loop_nets.specs.Laws.{RowsTakeWords}
use Rattle.sp_stage_members.specs.Circuits.{MembersAreCircuits, AreMasksOf, masks_in}
use Rattle.sp_stage_members.specs.Members.{part_at}
use Rattle.sp_loop_circuits.specs.Laws.{ClosedLoopsAreCircuits}

own_masks : (counters : List PlainCounter) (nets : Counted) (rows : List Row) → AreMasksOf counters nets rows (masks_in nets rows)
own_masks [] nets rows = tt
own_masks (c ∷ counters) nets rows = refl

pub closed_loops_are_circuits : MembersAreCircuits → RowsTakeWords → ClosedLoopsAreCircuits
closed_loops_are_circuits members taken core plan s near env k counters style owned stages begun parts firsts done h =
    let c = h.closed in
    let before = begun.rows.before.items in
    let rows = begun.rows.rows.items in
    record {
      part = begun.part;
      nets = begun.nets;
      before = before;
      rows = rows;
      slots = c.slots;
      firsts = firsts;
      places = h.places;
      child = λ i. (part_at parts i).child;
      start = refl;
      counts = h.counted;
      circuit = c.beats s h.runs;
      draft = h.bounded;
      runs_on = h.runs_bounded;
      bounds = h.bounds;
      words = subst (TakeWords s counters begun.part begun.nets before rows) h.each (taken h.opened s begun.part begun.nets before rows counters h.wires h.lanes h.rows (c.moves s h.runs));
      arranged = h.arranged;
      size = h.size;
      shaped = c.shaped;
      members = members h.draft counters stages begun.nets rows (masks_in begun.nets rows) parts h.places c.slots h.have_lanes (own_masks counters begun.nets rows) c.members s h.runs;
      parts = h.inside;
    }

-- lists with the same nets, and more behind them
pub joined_same : (xs ys zs : List ℕ) → ((n : ℕ) → Contains xs n ↔ Contains ys n) → (n : ℕ) → Contains (xs ++ zs) n ↔ Contains (ys ++ zs) n
joined_same xs ys zs h n = (
  λ k. elim (Contains-append_cases xs zs n k) [ inl a ↦ Contains-append_left ys zs n ((h n).0 a) | inr b ↦ Contains-append_right ys zs n b ],
  λ k. elim (Contains-append_cases ys zs n k) [ inl a ↦ Contains-append_left xs zs n ((h n).1 a) | inr b ↦ Contains-append_right xs zs n b ],
)
