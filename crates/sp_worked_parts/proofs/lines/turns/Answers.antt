use Rattle.std.proofs.Common.{List, [], ◌∷◌, ◌++◌, None, refl, ap, ◌∙◌}
use Rattle.sp_mem.specs.declared.part.Fresh.{Fresh}
use Rattle.sp_worked_parts.proofs.lines.turns.Goals as goal

pub returns : goal.returns
returns c =
    let turn : Fresh = record { enable = c.args.enable; copy = None } in
    record { turn = turn; are = c.in_ok-push.ensures.items ∙ ap (λ (xs : List Fresh). xs ++ turn ∷ []) c.new-list.ensures.items; enable_is = refl; copy_is = refl }
