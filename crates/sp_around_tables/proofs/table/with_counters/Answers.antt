use Rattle.std.proofs.Common.{◌≤◌, length, refl, ◌∙◌, ap, subst, map}
use Rattle.std.proofs.Math.Path.{fun_ext}
use Rattle.sp_core.specs.Plain.{plain_counter}
use Rattle.sp_node_runs.specs.BodiesGiven.{Nets, with_nets}
use Rattle.sp_around_tables.proofs.table.with_counters.Goals as goal

pub returns : goal.returns
returns c =
    let entries = c.in_ok-set_counters.ensures in
    record {
      many = entries.many;
      lanes = c.if-not-are_enough.ensures.lanes refl;
      nets = λ n. entries.nets n ∙ ap (λ (env : Nets). with_nets env (map plain_counter c.args.counters.now) c.args.values.now c.args.masks.now n) (fun_ext c.in_ok-inside.ensures.nets);
      longer = subst (λ n. n ≤ length c.set_counters.new.table.items) c.in_ok-inside.ensures.many entries.longer;
      within = entries.within;
    }
