use Rattle.std.proofs.Common.{[], ◌∷◌, ◌++◌, refl, ap, ◌∙◌}
use Rattle.sp_gates.proofs.Growing.{HasNet-stays}
use Rattle.sp_lines.proofs.Standing.{inner_of}
use Rattle.sp_lines.proofs.accesses.access.Goals as goal

pub row_number-requires-clause-below : goal.row_number-requires-clause-below
row_number-requires-clause-below c = λ s run t number l. (c.requires.turns.count s run number l).below t

pub returns-clause-inner : goal.returns-clause-inner
returns-clause-inner c = λ spot spots.
    let number = c.in_ok-number.ensures in
    inner_of c.row_number.new.builder c.args.part.now c.args.turns.now spot c.args.touch.now _ c.args.row c.args.column c.in_ok-number.number
    refl refl refl refl (c.in_ok-push.ensures.items ∙ ap (λ xs. xs ++ c.args.column ∷ []) c.new-index.ensures.items) c.requires.shape.columns
    (HasNet-stays _ _ _ _ number.fills.grows c.requires.touch.1.enable) number.net (HasNet-stays _ _ _ _ number.fills.grows c.requires.column) spots number.word
