use Rattle.std.proofs.Common.{◌≡◌, drop}
use Rattle.sp_core.specs.NodeRules.{is_owned_once}
use Rattle.sp_core.specs.PartsPlain.{core_of}
use Rattle.sp_core.proofs.shown.is_owned_once.Given as goal

abbrev pub invariant-loop-m : goal.invariant-loop-m
invariant-loop-m l = is_owned_once (core_of l.parts) l.before.items (drop l.m-index l.owned) ≡ is_owned_once (core_of l.parts) l.earlier l.owned
