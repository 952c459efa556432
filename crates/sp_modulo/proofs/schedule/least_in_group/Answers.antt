use Rattle.std.proofs.Common.{◌≡◌, ◌*◌, Option, Some, None, replicate, refl, rules}
use Rattle.std.specs.Option.{IfNone}
use Rattle.std.proofs.lemmas.Result.{IfOk-weaker}
use Rattle.sp_modulo.proofs.Ranks.{none_at_all}
use Rattle.sp_modulo.proofs.schedule.least_in_group.Goals as goal

none-weaker : {V A B : Type 0} (o : Option V) → (A → B) → IfNone o A → IfNone o B
none-weaker None f h = f h
none-weaker (Some v) f h = h

pub returns-clause-none : goal.returns-clause-none
returns-clause-none c =
    let limits : c.deref.result.now ≡ replicate c.args.count (c.args.count * 4) = search rules in
    IfOk-weaker c.least_within.result _ _ (λ found. none-weaker found (none_at_all _ _ _ _ limits refl c.requires.among c.requires.gaps)) c.least_within.ensures.none
