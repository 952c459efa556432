use Rattle.std.proofs.Common.{[], ◌∷◌, ◌++◌, map, refl, sym, ap, ◌∙◌}
use Rattle.std.proofs.lemmas.List.{length-map}
use Rattle.sp_gates.proofs.Growing.{HasNet-stays}
use Rattle.sp_core.specs.Plain.{plain_span}
use Rattle.sp_tree_handed.specs.declared.moves.TreeMove.{TreeMove}
use Rattle.sp_tree_nets.proofs.Listed.{spans_stand}
use Rattle.sp_tree_nets.proofs.Slicing.{end_has, one_stands, slice_is}
use Rattle.sp_tree_nets.proofs.moves.emit_slice.Goals as goal

pub returns-clause-done : goal.returns-clause-done
returns-clause-done c =
    HasNet-stays c.args.builder.now c.emit_spans.new.builder c.in-Some.done 1 c.in_ok-slice.ensures.reserves.grows
    (end_has c.args.builder.now c.args.ends.now c.args.index c.in-Some.done c.requires.end (sym c.in-Some.ensures))

pub returns-clause-lists : goal.returns-clause-lists
returns-clause-lists c core = spans_stand c.emit_spans.new.builder core (map plain_span c.args.spans.now) c.args.number c.in_ok-slice.slice.acted.items c.in_ok-slice.ensures.acted

pub returns-clause-moves : goal.returns-clause-moves
returns-clause-moves c way r m =
    let move : TreeMove = record { node = c.args.index; start = c.args.start; nets = c.in_ok-slice.slice.nets } in
    one_stands c.emit_spans.new.builder way r m (map plain_span c.args.spans.now) c.args.index move c.push.new.self.items (c.in_ok-push.ensures.items ∙ ap (λ xs. xs ++ move ∷ []) c.new-moves.ensures.items) refl
    (HasNet-stays c.args.builder.now c.emit_spans.new.builder c.args.start 1 c.in_ok-slice.ensures.reserves.grows c.requires.start) (c.in_ok-slice.ensures.each ∙ sym (length-map c.args.spans.now plain_span)) c.in_ok-slice.ensures.ends

pub returns-clause-tree : goal.returns-clause-tree
returns-clause-tree c =
    let move : TreeMove = record { node = c.args.index; start = c.args.start; nets = c.in_ok-slice.slice.nets } in
    slice_is c.args.builder.now c.emit_spans.new.builder c.args.around.now c.args.ends.now (map plain_span c.args.spans.now) c.args.index c.args.number (record { start = c.args.start; done = c.in-Some.done })
    c.in_ok-slice.slice.acted.items c.no_owners.result.turns.items c.no_owners.result.kept.items c.push.new.self.items move c.no_owners.ensures.turns c.no_owners.ensures.kept
    (c.in_ok-push.ensures.items ∙ ap (λ xs. xs ++ move ∷ []) c.new-moves.ensures.items) refl refl (sym c.in-Some.ensures) c.in_ok-slice.ensures.spans
