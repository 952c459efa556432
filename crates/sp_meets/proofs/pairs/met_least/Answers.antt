use Rattle.std.proofs.Common.{refl}
use Rattle.sp_meets.specs.Plain.{plain_view}
use Rattle.sp_meets.proofs.PairLemmas.{part_in, is_part, met_of}
use Rattle.sp_meets.proofs.pairs.met_least.Goals as goal

pub returns : goal.returns
returns c =
    let p = c.args.p.now in
    let q = c.args.q.now in
    let x = c.args.x.now in
    let y = c.args.y.now in
    met_of c.args.chip (plain_view c.args.v.now) (plain_view c.args.w.now) c.args.before p q x y c.requires.first c.requires.second c.pair_least.result c.requires.can
    (c.pair_least.ensures (part_in p x) (part_in q y) (is_part p x c.requires.first) (is_part q y c.requires.second) c.requires.can refl)
