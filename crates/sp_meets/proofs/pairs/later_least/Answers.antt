use Rattle.std.proofs.Common.{sym, subst, ℕ}
use Rattle.std.specs.Prelude.{◌||◌, Option}
use Rattle.sp_meets.specs.Between.{may_meet_on}
use Rattle.sp_meets.specs.Entries.{IsLeastFrom, groups_of}
use Rattle.sp_meets.specs.Steps.{loops_of}
use Rattle.sp_meets.proofs.PairLemmas.{part_is_one, distance_at, port_shared, no_port}
use Rattle.sp_meets.proofs.pairs.later_least.Goals as goal

pub returns-then-shares : goal.returns-then-shares
returns-then-shares c = λ P Q e f can some.
    port_shared (may_meet_on (loops_of P.common P.own Q.own) P.access.forms Q.access.forms) c.args.shares c.if-shares.true

pub returns : goal.returns
returns c = λ P Q e f can some.
    let p = c.args.p.now in
    let q = c.args.q.now in
    let on = may_meet_on (loops_of P.common P.own Q.own) P.access.forms Q.access.forms in
    let least = distance_at p q P Q e f some c.in-Some.d (c.in-Some.ensures.distance P.access Q.access (part_is_one p P e) (part_is_one q Q f) can) in
    subst (λ (x : Option ℕ). IsLeastFrom 1 (λ t. c.args.shares || on t) x) (sym c.groups_of.ensures) (no_port on c.args.shares (groups_of c.in-Some.d) c.if-shares.false least)
