use Rattle.std.proofs.Common.{refl, sym, ◌∙◌, ap, Some, get_or}
use Rattle.std.proofs.lemmas.List.{get_or_read}
use Rattle.sp_seq.specs.declared.memory.Memory.{Memory}
use Rattle.sp_seq.specs.States.{cleared, no_memory}
use Rattle.sp_seq.proofs.StoreLemmas.{hold-set}
use Rattle.sp_seq.proofs.state.State.begin.Goals as goal

pub returns-clause-store : goal.returns-clause-store
returns-clause-store c =
    let s = c.args.self.now in
    let slot = get_or_read s.memories.items c.args.memory c.index_mut-slot.result.now c.requires.0 c.index_mut-slot.ensures.value no_memory in
    sym (hold-set s _ c.args.memory _ (cleared c.args.start (get_or s.memories.items c.args.memory no_memory).storage) c.requires.0 refl refl refl
    (ap (λ x. Some x) (c.clear.ensures.contents ∙ ap (λ (y : Memory). cleared c.args.start y.storage) slot)))
