use Rattle.std.proofs.Common.{Some, None, map, get_or, sym, ap, ◌∙◌}
use Rattle.sp_packed.proofs.Places.{filled_at, get_map}
use Rattle.sp_packed.proofs.block.Block.get.Goals as goal

pub get-requires : goal.get-requires
get-requires g c =
    let inv = c.self.invariant in
    (sym inv.0, filled_at c.self.inside.cells.slots c.args.self.now c.args.i (inv.1 ∙ ap (map Some) c.self.view_is) c.requires)

pub returns : goal.returns
returns g c =
    let slots_are = c.self.invariant.1 ∙ ap (map Some) c.self.view_is in
    sym (get_map c.args.self.now c.args.i) ∙ ap (λ l. get_or l c.args.i None) (sym slots_are) ∙ c.get.ensures
