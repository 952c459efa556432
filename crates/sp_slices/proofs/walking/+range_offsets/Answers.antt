use Rattle.std.proofs.Common.{sym, ap, ap₂, ◌∙◌}
use Rattle.sp_slices.specs.Slices.{more_offset, offsets_of}
use Rattle.sp_slices.proofs.Lists.{first_and_rest}
use Rattle.sp_slices.proofs.walking.+range_offsets.Goals as goal

pub returns : goal.returns
returns t c = c.in_ok-nets.ensures ∙ ap (more_offset c.part-item.result c.axis-item.result) c.in_ok-others.ensures ∙ ap₂ offsets_of (sym (first_and_rest c.args.moves.now c.part-item.result c.in-len1-up.len_at_least c.part-item.is)) (sym (first_and_rest c.args.axes.now c.axis-item.result c.in-len1-up-axes.len_at_least c.axis-item.is))
