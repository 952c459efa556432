use Rattle.std.proofs.Common.{List, [], ◌∷◌, ◌++◌, None, refl, ap, ◌∙◌}
use Rattle.sp_mem.specs.declared.part.Touch.{Touch}
use Rattle.sp_worked_parts.proofs.touches.two_touches.Goals as goal

pub returns : goal.returns
returns c =
    let first : Touch = record { enable = c.args.enable; index = c.args.index; copy = None; duplicate = 0; tap = 0; word = c.args.word } in
    let second : Touch = record { enable = c.args.enable; index = c.args.second_index; copy = None; duplicate = 1; tap = 1; word = c.args.second_word } in
    record {
      first = first;
      second = second;
      are = c.in_ok-push-2.ensures.items ∙ ap (λ (xs : List Touch). xs ++ second ∷ []) (c.in_ok-push.ensures.items ∙ ap (λ (xs : List Touch). xs ++ first ∷ []) c.new-list.ensures.items);
      first_is = record { enable_is = refl; index_is = refl; copy_is = refl; duplicate_is = refl; word_is = refl };
      second_is = record { enable_is = refl; index_is = refl; copy_is = refl; duplicate_is = refl; word_is = refl };
    }
