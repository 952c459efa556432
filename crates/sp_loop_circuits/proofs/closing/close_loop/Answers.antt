use Rattle.std.proofs.Common.{ℕ, List, [], ◌∷◌, ◌++◌, length, ap, subst, sym, ◌∙◌}
use Rattle.sp_netlist.specs.declared.parts.Wire.{Wire}
use Rattle.sp_gates.specs.Grows.{Fills}
use Rattle.sp_gates.proofs.Growing.{Fills-join, Grows-join, HasNet-stays, same_nets}
use Rattle.sp_gates.proofs.Running.{runs_earlier}
use Rattle.sp_sequence.specs.Fits.{slot_starts}
use Rattle.sp_sequence.proofs.Waiting.{awaits_beside, awaits_kept}
use Rattle.sp_beat_words.specs.declared.part.Row.{Row}
use Rattle.sp_beat_words.specs.Fits.{row_nets}
use Rattle.sp_beat_words.specs.Words.{MoveOn}
use Rattle.sp_stage_members.specs.Circuits.{masks_in}
use Rattle.sp_stage_members.specs.Members.{PartsFit, AreSlotsOf, masks_of, starts_in}
use Rattle.sp_stage_members.specs.Placed.{places_of}
use Rattle.sp_stage_members.proofs.Making.{places_length, slots_later}
use Rattle.sp_stage_members.proofs.Standing.{parts_beside}
use Rattle.sp_loop_circuits.proofs.Loops.{joined_same}
use Rattle.sp_loop_circuits.proofs.closing.close_loop.Goals as goal

pub stage_members-requires-clause-stages : goal.stage_members-requires-clause-stages
stage_members-requires-clause-stages c =
    let p = c.args.begun.now in
    let stages = c.args.stages.now in
    let places = c.args.places.now in
    let b1 = c.emit_words.new.builder in
    let f = subst (λ (rows : List Row). Fills c.args.builder.now b1 (row_nets rows)) c.deref-3.ensures.value c.in_ok-emit_words.ensures.fills in
    let e = ap masks_of c.deref-4.ensures.value ∙ c.in_ok-masks.ensures ∙ ap (masks_in p.nets) c.deref.ensures.value in
    let h = parts_beside c.args.builder.now b1 (masks_in p.nets p.rows.rows.items) (length (places_of places)) stages (row_nets p.rows.rows.items) f c.requires.apart c.requires.fit in
    subst (λ n. PartsFit b1 (masks_of c.deref-4.result.now) n stages) (places_length places) (subst (λ (ms : List (List ℕ)). PartsFit b1 ms (length (places_of places)) stages) (sym e) h)

pub emit-requires : goal.emit-requires
emit-requires c =
    let p = c.args.begun.now in
    let stages = c.args.stages.now in
    let b0 = c.args.builder.now in
    let b1 = c.emit_words.new.builder in
    let b2 = c.stage_members.new.builder in
    let f = subst (λ (rows : List Row). Fills b0 b1 (row_nets rows)) c.deref-3.ensures.value c.in_ok-emit_words.ensures.fills in
    let g = c.in_ok-slots.ensures.fills in
    let all = Grows-join b0 b1 b2 f.grows g.grows in
    let same = c.in_ok-slots.ensures.starts in
    record {
      start = HasNet-stays b0 b2 p.part.start 1 all c.requires.start;
      more = HasNet-stays b0 b2 p.nets.more 1 all c.requires.more;
      step = awaits_kept b1 b2 p.part.step 1 g (awaits_beside b0 b1 p.part.step 1 (row_nets p.rows.rows.items) f c.requires.no_row c.requires.step);
      slots = c.in_ok-slots.ensures.slots;
      apart = λ k. c.requires.no_start ((same p.part.step).0 k);
    }

pub returns-clause-fills : goal.returns-clause-fills
returns-clause-fills c =
    let p = c.args.begun.now in
    let stages = c.args.stages.now in
    let b0 = c.args.builder.now in
    let b1 = c.emit_words.new.builder in
    let b2 = c.stage_members.new.builder in
    let b3 = c.emit.new.builder in
    let slots = c.in_ok-slots.slots.items in
    let f = subst (λ (rows : List Row). Fills b0 b1 (row_nets rows)) c.deref-3.ensures.value c.in_ok-emit_words.ensures.fills in
    let same = c.in_ok-slots.ensures.starts in
    let h = same_nets b2 b3 (slot_starts slots ++ p.part.step ∷ []) (starts_in stages ++ p.part.step ∷ []) (joined_same (slot_starts slots) (starts_in stages) (p.part.step ∷ []) same) c.in_ok-ends.ensures.fills in
    Fills-join b0 b1 b3 (row_nets p.rows.rows.items) (starts_in stages ++ p.part.step ∷ []) f (Fills-join b1 b2 b3 [] (starts_in stages ++ p.part.step ∷ []) c.in_ok-slots.ensures.fills h)

pub returns-clause-closed : goal.returns-clause-closed
returns-clause-closed c =
    let p = c.args.begun.now in
    let stages = c.args.stages.now in
    let b1 = c.emit_words.new.builder in
    let b2 = c.stage_members.new.builder in
    let b3 = c.emit.new.builder in
    let slots = c.in_ok-slots.slots.items in
    let places = places_of c.args.places.now in
    let e = ap masks_of c.deref-4.ensures.value ∙ c.in_ok-masks.ensures ∙ ap (masks_in p.nets) c.deref.ensures.value in
    let m = subst (λ (ms : List (List ℕ)). AreSlotsOf b2 ms stages places slots) e c.in_ok-slots.ensures.members in
    let g = c.in_ok-ends.ensures.fills in
    let later = Grows-join b1 b2 b3 c.in_ok-slots.ensures.fills.grows g.grows in
    record {
      slots = slots;
      members = slots_later b2 b3 (masks_in p.nets p.rows.rows.items) stages g.grows places slots m;
      shaped = c.in_ok-slots.ensures.shaped;
      begin = c.in_ok-ends.ensures.firsts;
      moves = λ s r.
          subst (λ (rows : List Row). MoveOn s p.part.step p.rows.before.items rows) c.deref-3.ensures.value
          (subst (λ (before : List Wire). MoveOn s p.part.step before c.deref-3.result.now) c.deref-2.ensures.value (c.in_ok-emit_words.ensures.moves s (runs_earlier b1 b3 s later r)));
      beats = c.in_ok-ends.ensures.runs;
    }
