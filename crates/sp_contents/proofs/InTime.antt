-- What happens in a run by a valid plan is found in time.
use Rattle.std.proofs.Common.{◌≡◌, ℕ, ◌<◌, Bool, true, false, cond, List, [], ◌∷◌, length, arith, refl, sym, subst, ap, ◌∙◌, lt-ltb, le-ltb}
use Rattle.std.proofs.lemmas.Bool.{true≢false}
use Rattle.std.specs.Prelude.{Option, slice_index_or}
use Rattle.sp_words.specs.declared.kind.Kind.{Kind}
use Rattle.sp_words.specs.declared.kind.Kind.TheVariants as kinds
use Rattle.sp_words.specs.Memory.{Contents}
use Rattle.sp_core.specs.Around.{nothing, is_port_kind}
use Rattle.sp_core.specs.Declarations.{is_among, mem, kind_of, dims, dram_number}
use Rattle.sp_core.specs.Events.{Moment, moments}
use Rattle.sp_core.specs.Invariant.{owned_in}
use Rattle.sp_core.specs.Meaning.{first_store, run_core}
use Rattle.sp_core.specs.PlainCore.{PlainCore}
use Rattle.sp_core.specs.Replay.{Happens, after_all}
use Rattle.sp_core.specs.Scope.{in_lanes, no_scope}
use Rattle.sp_core.specs.Store.{Store, words_of}
use Rattle.sp_core.proofs.ReplayRuns.{replayed}
use Rattle.sp_plan.specs.PlainPlan.{PlainPlan}
use Rattle.sp_time.specs.Events.{Follows, after}
use Rattle.sp_time.specs.Lists.{Each}
use Rattle.sp_time.specs.Places.{Place, is_place}
use Rattle.sp_machine.specs.Found.{events_of, does, Sees, one_cell}
use Rattle.sp_machine.specs.Laws.{told}
use Rattle.sp_machine.specs.Stamps.{Stamped}
use Rattle.sp_machine.specs.Timeline.{core_timed}
use Rattle.sp_machine.specs.Transfers.{Delays}
use Rattle.sp_machine.proofs.Finding.{are_found}
use Rattle.sp_machine.proofs.Told.{told_node}
use Rattle.sp_overlap.proofs.Scoped.{within_new}
use Rattle.sp_overlap.proofs.Whole.{planned_runs_in_order}
use Rattle.sp_contents.specs.Found.{PlannedRunsAreFound}
use Rattle.sp_contents.specs.Held.{Holds, Agree}
use Rattle.sp_contents.specs.Steady.{IsLine, IsAllowed, hand_after}
use Rattle.sp_contents.specs.Trees.{inner_owned, first_hand}
use Rattle.sp_contents.proofs.Allowed.{runs_allowed}
use Rattle.sp_contents.proofs.Following.{copies_follow}
use Rattle.sp_contents.proofs.SlicesInside.{runs_inside}
use Rattle.sp_contents.proofs.Stay.{start, first_at, root_stays}
use Rattle.sp_contents.proofs.Trees.{Stays, dram_outside}

-- what holds of each moment that is told
each_told : (P : Moment → Type 0) (es : List Stamped) → Each P (told es) → Each (λ x. P x.moment) es
each_told P [] h = tt
each_told P (e ∷ es) h = (h.0, each_told P es h.1)

-- the kinds of DRAMs and outputs
dram_kind : (core : PlainCore) (r : ℕ) → kind_of core (dram_number core r) ≡ kinds.Dram
dram_kind core r = ap (λ b. cond b (mem core (dram_number core r)).kind kinds.Dram) (le-ltb (dram_number core r) (length core.mems) (omega arith))

out_kind : (core : PlainCore) (m : ℕ) → m < length core.mems → (mem core m).kind ≡ kinds.ArgOut → kind_of core m ≡ kinds.ArgOut
out_kind core m l e = ap (λ b. cond b (mem core m).kind kinds.Dram) (lt-ltb m (length core.mems) l) ∙ e

no_line : (k x : Kind) → k ≡ x → (x ≡ kinds.LineBuf → ⊥) → k ≡ kinds.LineBuf → ⊥
no_line k x e n q = n (sym e ∙ q)

pub planned_runs_found : (core : PlainCore) (plan : PlainPlan) (delays : Delays) → PlannedRunsAreFound core plan delays
unfolding run_core
planned_runs_found core plan delays forms meets w hold input turns h t fits ran first agree =
    record {
      in_time = are_found core es first (planned_runs_in_order core plan delays forms meets w hold input turns h t fits ran) follows.0;
      drams = λ r i b l. (subst (λ k. Holds core k (dims core (dram_number core r)) (left (dram_number core r)) (λ j. then (record { mem = dram_number core r; copy = 0; element = j }))) (dram_kind core r)
          (follows.1.held (dram_number core r) 0 (stays.same (dram_number core r) (dram_outside core [] (owned_in core.root) (within_new core core.root nothing [] w.is_core.nodes) r)
          ∙ first_at core (dram_number core r) (omega arith) (no_line (kind_of core (dram_number core r)) kinds.Dram (dram_kind core r) (λ q. subst IsLine (sym q) tt))))).1 i l
          ∙ ap (λ s. one_cell core (slice_index_or (words_of (s (dram_number core r))) i 0)) end;
      outs = λ m l k. (subst (λ x. Holds core x (dims core m) (left m) (λ j. then (record { mem = m; copy = 0; element = j }))) (out_kind core m l k)
          (follows.1.held m 0 (stays.same m (port_outside m (ap is_port_kind k)) ∙ first_at core m (omega arith) (no_line (kind_of core m) kinds.ArgOut (out_kind core m l k) (λ q. subst IsLine (sym q) tt))))).1
          ∙ ap (λ s. one_cell core (slice_index_or (words_of (s m)) 0 0)) end;
    }
  where
    es : List Stamped
    es = (core_timed core plan delays h).events

    same : told es ≡ moments core in_lanes core.root 0 0 start h
    same = told_node core plan delays core.root 0 0 start (λ m. 0) h

    replay : Happens core (moments core in_lanes core.root 0 0 start h) (first_store core input) × (after_all core (moments core in_lanes core.root 0 0 start h) (first_store core input) ≡ t)
    replay = replayed core in_lanes core.root turns no_scope (first_store core input) t h ran 0 0 start

    stays : Stays core (owned_in core.root) (inner_owned core.root) (λ m. 0) (first_hand core) es
    stays = root_stays core plan delays w.is_core w.is_timed h

    left : Store
    left = after_all core (told es) (first_store core input)

    end : left ≡ t
    end = ap (λ ms. after_all core ms (first_store core input)) same ∙ replay.1

    then : Place → Option Contents
    then = after is_place (does core) (events_of core es) first

    follows : Follows is_place (does core) (Sees core) (events_of core es) first × Agree core (hand_after (first_hand core) es) left then
    follows =
        let rules = runs_allowed core w.is_core w.is_timed in
        copies_follow core rules.0 es (first_hand core) (first_store core input) first stays.steady
        (each_told (IsAllowed core) es (subst (λ ms. Each (IsAllowed core) ms) (sym same) (rules.1 h (runs_inside core w.is_timed turns no_scope (first_store core input) t h ran))))
        (subst (λ ms. Happens core ms (first_store core input)) (sym same) replay.0) agree

    port_outside : (m : ℕ) → is_port_kind (mem core m).kind ≡ true → is_among m (owned_in core.root) ≡ false
    port_outside m p = go (is_among m (owned_in core.root)) refl
      where
        go : (b : Bool) → is_among m (owned_in core.root) ≡ b → is_among m (owned_in core.root) ≡ false
        go false e = e
        go true e = absurd (true≢false (sym p ∙ (within_new core core.root nothing [] w.is_core.nodes m e).no_port))
