use Rattle.sp_edges.proofs.host_input.HostInputsInputs.read_into.Goals as goal

pub returns-in-Ok-open-clause-failed : goal.returns-in-Ok-open-clause-failed
returns-in-Ok-open-clause-failed g c = rw (← c.self.view_is) c.read_at_most.ensures.failed
