use Rattle.std.proofs.Common.{All, sym, subst}
use Rattle.sp_gates.specs.Nets.{HasNet}
use Rattle.sp_worked_parts.proofs.saving.look.Goals as goal

pub returns : goal.returns
returns c = λ d h other. record {
  read_net = h.read;
  index_net = c.first_of-index.ensures d (subst (All (λ net. HasNet d net 32)) (sym c.deref.ensures.value) h.indices) other;
  done_net = h.moving.done;
}
