use Rattle.std.proofs.Common.{◌≡◌, ap, ◌∙◌, length, replicate}
use Rattle.std.specs.List.{zip}
use Rattle.sp_sim.proofs.RowLemmas.{zip_zeros}
use Rattle.sp_sim.proofs.row.Row.new.Goals as goal

pub returns : goal.returns
returns c =
    let clones = c.in_ok-words.ensures.items_if_clones_equal in
    let words : c.in_ok-words.words.items ≡ replicate (length c.args.nets.now) 0 = clones (λ y e. e) in
    ap (λ ns. zip ns c.in_ok-words.words.items) c.in_ok-nets.ensures.items ∙ ap (zip c.args.nets.now) words ∙ zip_zeros c.args.nets.now
