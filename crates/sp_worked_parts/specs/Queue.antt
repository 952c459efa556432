-- The worked queue.
use Rattle.std.specs.Prelude.{◌≡◌, ℕ, []}
use Rattle.sp_words.specs.Types.{int_type}
use Rattle.sp_netlist.specs.Draft.{Draft}
use Rattle.sp_gates.specs.Nets.{HasNet}
use Rattle.sp_queue.specs.declared.part.Queue.{Queue}
use Rattle.sp_worked_parts.specs.declared.queue.Asked.{Asked}
use Rattle.sp_worked_parts.specs.Touches.{IsOne}

pub record AskedFits (d : Draft) (asked : Asked) : Type 0 where
  pub put_net : HasNet d asked.put 1
  pub word_net : HasNet d asked.word 32
  pub take_net : HasNet d asked.take 1
  pub done_net : HasNet d asked.done 1

-- four places in one copy
pub record IsQueue (asked : Asked) (y : ℕ) (part : Queue) : Type 0 where
  pub start : part.start ≡ asked.put
  pub bank : part.bank ≡ 0
  pub ty : part.ty ≡ int_type
  pub depth : part.depth ≡ 4
  pub copies : part.copies ≡ 1
  pub fresh : part.fresh.items ≡ []
  pub puts : IsOne asked.put [] asked.word part.puts.items
  pub takes : IsOne asked.take [] y part.takes.items
