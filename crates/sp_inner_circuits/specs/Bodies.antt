-- A body by its part.
use Rattle.std.specs.Prelude.{◌≡◌, ℕ, List, Option}
use Rattle.sp_netlist.specs.declared.parts.Child.{Child}
use Rattle.sp_netlist.specs.Draft.{Draft}
use Rattle.sp_netlist.specs.Signals.{Signals}
use Rattle.sp_gates.specs.Nets.{HasNet}
use Rattle.sp_gates.specs.Runs.{RunsOn}
use Rattle.sp_machine.specs.Timeline.{interval_of, latency_of}
use Rattle.sp_op_nets.specs.declared.acted.ActedList.{ActedList}
use Rattle.sp_op_nets.specs.Acted.{IsActed}
use Rattle.sp_pipe.specs.declared.part.Groups.{Groups}
use Rattle.sp_pipe.specs.declared.part.Part.{Part}
use Rattle.sp_pipe.specs.declared.part.PipeOp.{PipeOp}
use Rattle.sp_pipe.specs.Issues.{Issues}
use Rattle.sp_plan.specs.PlainPlan.{PlainNodePlan}

-- a part with the interval and the latency of a plan
pub record IsPartOf (plan : PlainNodePlan) (start : ℕ) (groups : Option Groups) (ops : List PipeOp) (part : Part) : Type 0 where
  pub started : part.start ≡ start
  pub grouped : part.groups ≡ groups
  pub does : part.ops.items ≡ ops
  pub interval : part.ii ≡ interval_of plan
  pub latency : part.latency ≡ latency_of plan

-- the body of a part issues its groups, and its operations, which are handed on, act where a group is issued
pub record IsBody (d : Draft) (part : Part) (number : ℕ) (child : Child) (a : ActedList) : Type 0 where
  pub issue : ℕ
  pub net : HasNet d issue 1
  pub start : child.start ≡ part.start
  pub done : HasNet d child.done 1
  pub issues : (s : Signals) → RunsOn s d.cells → Issues part.groups s part.start issue child.done part.ii part.latency
  pub acted : IsActed d issue number part.ops.items a
