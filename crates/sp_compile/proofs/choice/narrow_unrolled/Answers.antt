use Rattle.std.proofs.Common.{◌≡◌, Some, None, map, ap, sym, ◌∙◌}
use Rattle.std.proofs.lemmas.Result.{IfOk-weaker}
use Rattle.sp_words.specs.Ports.{PlainPorts, plain_ports}
use Rattle.sp_core.specs.CoreParts.{plain_core}
use Rattle.sp_core.specs.Invariant.{wrong_place}
use Rattle.sp_core.specs.Plain.{plain_mem, plain_node}
use Rattle.sp_core.specs.PlainCore.{PlainNode}
use Rattle.sp_lanes.specs.Unrolled.{unrolled}
use Rattle.sp_narrow.specs.Narrow.{narrow}
use Rattle.sp_compile.proofs.choice.narrow_unrolled.Goals as goal

pub returns-clause-lanes : goal.returns-clause-lanes
returns-clause-lanes c =
    let made = c.in_ok-made.made in
    let ports : plain_ports c.in_ok-ports.ports ≡ c.args.core.now.ports = c.in_ok-ports.ensures ∙ c.ports.ensures.ports in
    let parts =
    ap (λ (p : PlainPorts). record { mems = map plain_mem made.mems.items; ports = p; root = plain_node c.in_ok-root.root }) ports
    ∙ ap (λ (r : PlainNode). record { mems = map plain_mem made.mems.items; ports = c.args.core.now.ports; root = r }) c.in_ok-root.ensures
    ∙ ap narrow c.in_ok-made.ensures.lanes in
    IfOk-weaker c.new.result _ _ (λ laned h. ap plain_core h ∙ parts) c.new.ensures.core

pub returns-clause-none : goal.returns-clause-none
returns-clause-none c =
    let made = c.in_ok-made.made in
    let ports : plain_ports c.in_ok-ports.ports ≡ c.args.core.now.ports = c.in_ok-ports.ensures ∙ c.ports.ensures.ports in
    let parts =
    ap (λ (p : PlainPorts). record { mems = map plain_mem made.mems.items; ports = p; root = plain_node c.in_ok-root.root }) ports
    ∙ ap (λ (r : PlainNode). record { mems = map plain_mem made.mems.items; ports = c.args.core.now.ports; root = r }) c.in_ok-root.ensures
    ∙ ap narrow c.in_ok-made.ensures.lanes in
    λ node e whole.
    let some : wrong_place (narrow (unrolled (plain_core c.args.core.now))) ≡ Some node = sym (ap wrong_place parts) ∙ c.new.ensures.shape node e in
    let none : wrong_place (narrow (unrolled (plain_core c.args.core.now))) ≡ None = (c.wrong_cores_are_shown.ensures (narrow (unrolled (plain_core c.args.core.now)))).1 whole in
    absurd (cc)
