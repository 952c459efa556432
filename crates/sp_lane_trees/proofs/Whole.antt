-- The core of a program in lanes ends as the core does.
use Rattle.std.proofs.Common.{◌≡◌, ℕ, Bool, true, false, ◌||◌, List, [], length, map, refl, sym, ◌∙◌, ap, nat_lt}
use Rattle.std.proofs.lemmas.Bool.{and_from, true≢false, lt-ltb}
use Rattle.sp_tree.specs.Invariant.{IsProgram}
use Rattle.sp_tree.specs.PlainProgram.{PlainProgram}
use Rattle.sp_core.specs.Around.{nothing, is_port_kind, is_usable}
use Rattle.sp_core.specs.Declarations.{mem, is_among}
use Rattle.sp_core.specs.Elements.{numbers_below}
use Rattle.sp_core.specs.History.{History}
use Rattle.sp_core.specs.Invariant.{IsCore, owned_in}
use Rattle.sp_core.specs.Meaning.{is_arg, is_out, args_of, outs_of, first_store, run_core, Outcome, ended, outcome, meaning, out_words, dram_words}
use Rattle.sp_core.specs.NodeRules.{is_owned_once}
use Rattle.sp_core.specs.PlainCore.{PlainCore}
use Rattle.sp_core.specs.Scope.{plainly, no_scope}
use Rattle.sp_core.specs.Sequential.{run}
use Rattle.sp_core.specs.Step.{Went, went, stopped, more}
use Rattle.sp_core.specs.Store.{Store}
use Rattle.sp_fitting.proofs.Inputs.{first_fits}
use Rattle.sp_sugar.specs.Core.{core_of}
use Rattle.sp_sugar.proofs.Cores.{core_is_right}
use Rattle.sp_lanes.specs.Order.{is_port, memory_order}
use Rattle.sp_lanes.specs.Unrolled.{unrolled}
use Rattle.sp_lanes.specs.Within.{outside}
use Rattle.sp_lane_rules.specs.Copies.{OwnsInLanes}
use Rattle.sp_lane_rules.specs.CopiesRules.{ArePortsWritten}
use Rattle.sp_lane_rules.proofs.CopiesMemoryRules.{node_once}
use Rattle.sp_lane_cores.proofs.LanedPorts.{may_have_lanes}
use Rattle.sp_lane_groups.specs.FirstLaws.{RootStands}
use Rattle.sp_lane_cores.specs.EndingsEnding.{IsEnded}
use Rattle.sp_lane_cores.specs.Standing.{StandsApart}
use Rattle.sp_lane_groups.specs.InnersAlong.{GoesAlong}
use Rattle.sp_lane_trees.specs.Laws.{NodesGo}
use Rattle.sp_lane_trees.specs.Outcomes.{EndsInLanes, ProgramGoes}
use Rattle.sp_lane_trees.proofs.Numbers.{below_less}
use Rattle.sp_lane_trees.proofs.Ports as ports
use Rattle.sp_lane_trees.proofs.Rounds.{node_less}
use Rattle.sp_lane_trees.proofs.Stores.{first_agree, outs_agree, drams_agree}
use Rattle.sp_words.specs.declared.kind.Kind.{Kind}
use Rattle.sp_words.specs.declared.kind.Kind.TheVariants.{ArgIn, ArgOut}

arg_is_port : (k : Kind) → is_arg k ≡ true → is_port_kind k ≡ true
arg_is_port ArgIn e = refl
arg_is_port ArgOut e = refl
arg_is_port _ e = absurd (true≢false (sym e))

out_is_port : (k : Kind) → is_out k ≡ true → is_port_kind k ≡ true
out_is_port ArgIn e = refl
out_is_port ArgOut e = refl
out_is_port _ e = absurd (true≢false (sym e))

-- what an outcome says of a run
ended_parts : (core : PlainCore) (r : Went History) (outs : List ℕ) (drams : List (List ℕ)) (h : History) → outcome core r ≡ ended outs drams h → (after : Store) × (r ≡ went h after) × (out_words core after ≡ outs) × (dram_words core after ≡ drams)
ended_parts core (went g s) outs drams h e =
    (s, ap (λ x. went x s) (ap history_of e), ap outs_in e, ap drams_in e)
  where
    history_of : Outcome → History
    history_of (ended a b c) = c
    history_of _ = g

    outs_in : Outcome → List ℕ
    outs_in (ended a b c) = a
    outs_in _ = []

    drams_in : Outcome → List (List ℕ)
    drams_in (ended a b c) = b
    drams_in _ = []
ended_parts core stopped outs drams h e = absurd (true≢false (sym (ap did_end e)))
  where
    did_end : Outcome → Bool
    did_end (ended a b c) = true
    did_end _ = false
ended_parts core more outs drams h e = absurd (true≢false (sym (ap did_end e)))
  where
    did_end : Outcome → Bool
    did_end (ended a b c) = true
    did_end _ = false

module _ (core : PlainCore) (is : IsCore core) (owns : OwnsInLanes core.root) (written : ArePortsWritten core) (go : (turns : ℕ) → GoesAlong core turns nothing (outside (memory_order core)) core.root) where
  once : is_owned_once core [] (owned_in core.root) ≡ true
  once = node_once core core.root nothing [] is.nodes

  usable : (m : ℕ) → (is_port core m ≡ true) × (is_among m (numbers_below (length core.mems)) ≡ true) → is_usable core nothing m ≡ true
  usable m h = and_from (nat_lt m (length core.mems)) (is_port_kind (mem core m).kind || false) (lt-ltb m (length core.mems) (below_less m (length core.mems) h.1)) (ap (λ b. b || false) h.0)

  args : args_of (unrolled core) ≡ map (outside (memory_order core)).number (args_of core)
  unfolding unrolled
  args = ports.in_lanes core once written is_arg arg_is_port

  outs : outs_of (unrolled core) ≡ map (outside (memory_order core)).number (outs_of core)
  unfolding unrolled
  outs = ports.in_lanes core once written is_out out_is_port

  args_usable : (m : ℕ) → is_among m (args_of core) ≡ true → is_usable core nothing m ≡ true
  args_usable m i = usable m (ports.each_port core once written is_arg arg_is_port m i)

  outs_usable : (m : ℕ) → is_among m (outs_of core) ≡ true → is_usable core nothing m ≡ true
  outs_usable m i = usable m (ports.each_port core once written is_out out_is_port m i)

  pub ends : EndsInLanes core
  unfolding meaning run_core unrolled
  ends turns input fits outs_there drams h e =
      let r = ended_parts core (run core plainly turns core.root no_scope (first_store core input)) outs_there drams h e in
      let x = go turns no_scope no_scope (λ c. refl) (first_store core input) (first_store (unrolled core) input) r.0 h (first_fits core input is.ports fits) (first_agree core args outs args_usable outs_usable input) r.1 in (
        x.0,
        ap (outcome (unrolled core)) x.2
            ∙ ap (λ ws. ended ws (dram_words (unrolled core) x.1) x.0) (outs_agree core args outs args_usable outs_usable r.0 x.1 x.3 ∙ r.2)
            ∙ ap (λ ws. ended outs_there ws x.0) (drams_agree core args outs args_usable outs_usable r.0 x.1 x.3 ∙ r.3),
        node_less (memory_order core) (outside (memory_order core)) core.root h x.0 x.5,
        x.5,
      )

pub program_goes : (p : PlainProgram) → NodesGo (core_of p) → RootStands p → IsEnded (core_of p) (core_of p).root → StandsApart [] (core_of p).root → IsProgram p → ProgramGoes p
program_goes p nodes stands ends_well apart h alone =
    let may = may_have_lanes p in
    let is : IsCore (core_of p) = core_is_right p h in
    ends (core_of p) is may.0 may.1 (λ turns. nodes is may.0 turns nothing nothing [] (outside (memory_order (core_of p))) (core_of p).root stands may.0 ends_well alone [] (λ c i. refl) apart)
