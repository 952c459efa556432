use Rattle.std.proofs.Common.{◌≡◌, Option, Some, None, ap, subst}
use Rattle.std.proofs.lemmas.Bool.{false≢true}
use Rattle.std.specs.Prelude.{slice_index_or, is_some}
use Rattle.sp_bank.specs.Banking.{Banking, InSpace}
use Rattle.sp_core.specs.Forms.{PlainForms}
use Rattle.sp_core.specs.Meaning.{first_store, run_core}
use Rattle.sp_core.specs.PlainCore.{PlainCore}
use Rattle.sp_core.specs.Scope.{no_scope}
use Rattle.sp_overlap.specs.Whole.{HasPlan}
use Rattle.sp_patterns.specs.Patterns.{patterns_of}
use Rattle.sp_plan.specs.PlainPlan.{PlainPlan}
use Rattle.sp_plan.specs.Validity.{schemes_of}
use Rattle.sp_schemes.specs.Chosen.{IsChosen, AreChosen}
use Rattle.sp_core_ports.specs.BanksLaws.{AreInSpace}
use Rattle.sp_chosen_runs.proofs.chosen.chosen_plans_run.Goals as goal

abbrev or_this : Banking → Option Banking → Banking
or_this b None = b
or_this b (Some s) = s

-- a scheme that is chosen is of those that are searched
in_space : (core : PlainCore) (forms : PlainForms) (plan : PlainPlan) → AreChosen core forms (schemes_of plan) → AreInSpace plan
in_space core forms plan chosen m b e = go (slice_index_or (schemes_of plan) m None) (chosen m) e
  where
    go : (scheme : Option Banking) → IsChosen core forms m scheme → scheme ≡ Some b → InSpace b
    go None h e = absurd (false≢true (ap is_some e))
    go (Some s) h e = subst InSpace (ap (or_this s) e) h.0.space

pub returns : goal.returns
unfolding run_core
returns c core plan delays delay meets w bound input turns h t fits went =
    let valid : HasPlan core (patterns_of core) meets plan = record { is_core = w.is_core; is_timed = w.is_timed; by_lane = w.by_lane; valid = c.chosen_plans_are_valid.ensures core (patterns_of core) meets plan w.is_core w.is_chosen } in
    let both = c.own_plans_share_no_port.ensures core plan delays meets valid w.meets_are input turns h t fits went in
    record {
      found = both.0;
      ports = both.1;
      there = c.ports_are_there.ensures core plan delays (patterns_of core) meets valid (in_space core (patterns_of core) plan w.is_chosen.schemes) h;
      inside = c.timelines_stay_inside.ensures core plan delays w.is_core w.is_timed input turns h t went;
      ends = λ n l. (c.chosen_plans_keep_to_limit.ensures core plan delays delay (patterns_of core) meets w.is_core w.is_chosen).ends bound w.is_timed turns no_scope (first_store core input) t h went n l;
    }
