use Rattle.std.proofs.Common.{[], List, ◌==◌, subst, ◌∙◌}
use Rattle.std.specs.List.{AllZip}
use Rattle.std.proofs.lemmas.List.Elements.{All-filter}
use Rattle.sp_gates.proofs.Growing.{Fills-join}
use Rattle.sp_gates.proofs.Running.{runs_earlier}
use Rattle.sp_access.specs.declared.access.Access.{Access}
use Rattle.sp_bank_ports.specs.Ports.{IsLast}
use Rattle.sp_requests.specs.declared.part.Request.{Request}
use Rattle.sp_requests.specs.Requests.{RequestFits, Asks}
use Rattle.sp_stores.proofs.line.read_line.Goals as goal

pub accesses_to-requires : goal.accesses_to-requires
accesses_to-requires c = rw (c.deref.ensures.value, c.in_ok-list.ensures) (All-filter (λ r. r.duplicate == c.args.duplicate) (RequestFits c.args.builder.now) c.args.requests.now c.requires)

pub read_port-requires : goal.read_port-requires
read_port-requires c = rw c.deref-2.ensures.value c.in_ok-accesses.ensures.fit

pub returns-clause-fills : goal.returns-clause-fills
returns-clause-fills c = Fills-join _ _ _ [] [] c.in_ok-accesses.ensures.fills c.in_ok-port.ensures.fills

pub returns-clause-line : goal.returns-clause-line
returns-clause-line c = λ s run t. record {
  accesses = c.in_ok-accesses.accesses.items;
  asks = subst (λ (rs : List Request). AllZip (Asks s t c.args.copy c.args.bank) rs c.in_ok-accesses.accesses.items) (c.deref.ensures.value ∙ c.in_ok-list.ensures)
      (c.in_ok-accesses.ensures.accesses s (runs_earlier _ _ s c.in_ok-port.ensures.fills.grows run) t);
  last = subst (λ (es : List Access). IsLast s t es c.in_ok-port.port) c.deref-2.ensures.value (c.in_ok-port.ensures.last s run t);
}
