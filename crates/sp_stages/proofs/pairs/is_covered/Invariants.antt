use Rattle.std.proofs.Common.{◌≡◌, drop}
use Rattle.std.specs.List.{list_any}
use Rattle.sp_stages.specs.Parts.{covers}
use Rattle.sp_stages.proofs.pairs.is_covered.Given as goal

abbrev pub invariant-loop-h : goal.invariant-loop-h
invariant-loop-h l = list_any (covers l.k) (drop l.h-index l.held) ≡ list_any (covers l.k) l.held
