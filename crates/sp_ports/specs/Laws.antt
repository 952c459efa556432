-- Laws of ports, as statements.
use Rattle.std.specs.Prelude.{◌≡◌, ℕ, suc, ◌+◌, ◌*◌, ◌<◌, ◌≤◌, ◌⊎◌, Bool, true, false, ℤ, pos, List, map, length, slice_index, Option, Some}
use Rattle.sp_affine.specs.Affine.{Affine}
use Rattle.sp_bank.specs.Banking.{Banking}
use Rattle.std.specs.List.{list_all}
use Rattle.sp_core.specs.Around.{Around}
use Rattle.sp_core.specs.declared.access.Meet.{Meet}
use Rattle.sp_core.specs.Events.{At, Standing, events_of}
use Rattle.sp_core.specs.Forms.{PlainForms, are_indices}
use Rattle.sp_core.specs.History.{Entry, Bounds, inner_ran}
use Rattle.sp_core.specs.Meeting.{are_met}
use Rattle.sp_core.specs.OperationRules.{is_counter_right}
use Rattle.sp_core.specs.PlainCore.{PlainOp, PlainCounter, inner, PlainCore}
use Rattle.sp_plan.specs.Bodies.{are_times_right}
use Rattle.sp_plan.specs.Groups.{have_one_linear_part, Apart, are_grouped, AreSeparated, Separated}
use Rattle.sp_plan.specs.Orders.{op_at}
use Rattle.sp_plan.specs.PlainPlan.{inner_plan, PlainPlan}
use Rattle.sp_plan.specs.Ports.{share_port, is_serial}
use Rattle.sp_plan.specs.Validity.{schemes_of, kind_rule, time_rule, group_rule}
use Rattle.sp_time.specs.Lists.{Each, Pairs}
use Rattle.sp_words.specs.declared.kind.Kind.{Kind}
use Rattle.sp_machine.specs.InOrder.{IsPlaced}
use Rattle.sp_machine.specs.Laws.{told}
use Rattle.sp_machine.specs.Stamps.{Copies}
use Rattle.sp_machine.specs.Timeline.{body_events, timed}
use Rattle.sp_machine.specs.Transfers.{Delays}
use Rattle.sp_ports.specs.Banks.{AreInOneBank, IsAtForms, ShareNoPort}

-- two accesses of a group, which a scheme keeps apart, are in one bank only where their forms are the same; then so are
-- their indices
abbrev pub SchemesKeepApart : Type 0
SchemesKeepApart =
    (core : PlainCore) (forms : PlainForms) (kind : Kind) (b : Banking) (f g : List Affine) (is js : List ℕ) (counters : List ℤ) (symbols : ℕ → ℤ)
    → have_one_linear_part f g ≡ true → Apart kind b f g
    → are_indices core forms f (map pos is) counters symbols ≡ true → are_indices core forms g (map pos js) counters symbols ≡ true
    → AreInOneBank kind b is js → (f ≡ g) × (is ≡ js)

-- of two operations of an inner body, in groups of iterations
abbrev pub IsLaterOperation : (group place other_group other_place : ℕ) → Type 0
IsLaterOperation h j g r = (h < g) ⊎ ((h ≡ g) × (j < r))

-- by times that are right, two accesses to one port of a memory act in one cycle only where the memory has a scheme, and in
-- one group
abbrev pub PortsTakeTurns : PlainCore → Type 0
PortsTakeTurns core =
    (schemes : List (Option Banking)) (meets : List Meet) (number : ℕ) (ops : List PlainOp) (times : List ℕ) (ii latency : ℕ) (serial : Bool) (h j g r : ℕ)
    → are_times_right core schemes meets number false ops times ii latency serial ≡ true
    → j < length ops → r < length ops → IsLaterOperation h j g r → share_port core (op_at core ops j) (op_at core ops r) ≡ true
    → h * ii + slice_index times j ≡ g * ii + slice_index times r
    → (h ≡ g) × (j < r) × (is_serial schemes (op_at core ops j).mem ≡ false)

-- what happens in the groups of an inner body shares no port of a bank, other than as one tap: where its times are right, its
-- accesses to a port are one group that the memory's scheme keeps apart, each access is at its forms, and its events stand
-- in the meets
abbrev pub BodiesShareNoPort : PlainCore → PlainPlan → Delays → Type 0
BodiesShareNoPort core plan delays =
    (forms : PlainForms) (schemes : List (Option Banking)) (meets : List Meet) (symbols : List At → ℕ → ℤ) (k number : ℕ) (st : Standing) (copies : Copies) (owned : List ℕ)
    (ops : List PlainOp) (times : List ℕ) (ii latency : ℕ) (serial : Bool) (values : List (List ℤ)) (groups : List (List Entry))
    → IsPlaced core k st → are_times_right core schemes meets number false ops times ii latency serial ≡ true
    → are_grouped core forms schemes number ops ≡ true → AreSeparated core forms schemes number ops
    → Each (λ s. IsAtForms core forms symbols s.moment) (body_events core plan delays (inner_plan times ii latency serial) copies k number 0 st owned ops values groups)
    → are_met core meets (events_of (told (body_events core plan delays (inner_plan times ii latency serial) copies k number 0 st owned ops values groups))) ≡ true
    → Pairs (ShareNoPort core forms schemes) (body_events core plan delays (inner_plan times ii latency serial) copies k number 0 st owned ops values groups)

-- what the rules of cores and of plans say of one inner body, by the number of the node and that of its first operation
pub record IsInnerRight (core : PlainCore) (forms : PlainForms) (meets : List Meet) (plan : PlainPlan) (around : Around) (k n : ℕ) (counters : List PlainCounter) (owned : List ℕ) (ops : List PlainOp) (comb : Option ℕ) : Type 0 where
  pub bounds : list_all (is_counter_right core around) counters ≡ true
  pub kind : kind_rule core forms meets plan k n false (inner counters owned ops comb) ≡ true
  pub timed : time_rule core forms meets plan k n false (inner counters owned ops comb) ≡ true
  pub grouped : group_rule core forms meets plan k n false (inner counters owned ops comb) ≡ true
  pub separated : Separated core forms (schemes_of plan) n (inner counters owned ops comb)

-- then nothing that happens in a run of it, its bounds among it, shares a port of a bank, other than as one tap
abbrev pub InnersShareNoPort : PlainCore → PlainPlan → Delays → Type 0
InnersShareNoPort core plan delays =
    (forms : PlainForms) (meets : List Meet) (symbols : List At → ℕ → ℤ) (around : Around) (k n : ℕ) (st : Standing) (copies : Copies)
    (counters : List PlainCounter) (owned : List ℕ) (ops : List PlainOp) (comb : Option ℕ) (bs : List Bounds) (counts : List ℕ) (groups : List (List Entry))
    → IsPlaced core k st → IsInnerRight core forms meets plan around k n counters owned ops comb
    → Each (λ s. IsAtForms core forms symbols s.moment) (timed core plan delays (inner counters owned ops comb) k n st copies (inner_ran bs counts groups)).events
    → are_met core meets (events_of (told (timed core plan delays (inner counters owned ops comb) k n st copies (inner_ran bs counts groups)).events)) ≡ true
    → Pairs (ShareNoPort core forms (schemes_of plan)) (timed core plan delays (inner counters owned ops comb) k n st copies (inner_ran bs counts groups)).events
