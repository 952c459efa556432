use Rattle.std.proofs.Common.{List, [], ◌∷◌, ◌++◌, None, refl, ap, ◌∙◌}
use Rattle.sp_mem.specs.declared.part.Touch.{Touch}
use Rattle.sp_worked_parts.proofs.touches.one_touch.Goals as goal

pub returns : goal.returns
returns c =
    let touch : Touch = record { enable = c.args.enable; index = c.args.index; copy = None; duplicate = 0; tap = 0; word = c.args.word } in
    record {
      touch = touch;
      are = c.in_ok-push.ensures.items ∙ ap (λ (xs : List Touch). xs ++ touch ∷ []) c.new-list.ensures.items;
      is = record { enable_is = refl; index_is = refl; copy_is = refl; duplicate_is = refl; word_is = refl };
    }
