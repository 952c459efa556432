-- What is done to a FIFO fits its queue.
use Rattle.std.proofs.Common.{◌≡◌, ℕ, List, All, refl, sym, subst, ◌∙◌}
use Rattle.sp_words.specs.declared.types.Ty.{Ty}
use Rattle.sp_words.specs.Types.{width_of}
use Rattle.sp_netlist.specs.Draft.{Draft}
use Rattle.sp_netlist.specs.Rules.{IsLength}
use Rattle.sp_gates.specs.Nets.{HasNet, Awaits}
use Rattle.sp_core.specs.declared.operation.OpKind.TheVariants.{Enq}
use Rattle.sp_core.specs.PlainCore.{PlainCore}
use Rattle.sp_plan.specs.PlainPlan.{PlainPlan}
use Rattle.sp_mem.specs.declared.part.Touch.{Touch}
use Rattle.sp_mem.specs.Fits.{CopyFits, FreshFits, WriteFits}
use Rattle.sp_taps.specs.declared.store.Store.{Store}
use Rattle.sp_taps.specs.Wires.{AreWires}
use Rattle.sp_taps.specs.Stores.{AreStores}
use Rattle.sp_queue.specs.declared.part.Queue.{Queue}
use Rattle.sp_queue.specs.Takes.{TakesFit, QueueFits, BanksFit}
use Rattle.sp_part_runs.specs.ActsEntries.{word_that_changes}
use Rattle.sp_access_nets.specs.declared.access.AccessNets.{AccessNets}
use Rattle.sp_access_nets.specs.Picking.{is_to, PicksAccessesTo}
use Rattle.sp_tree_handed.specs.declared.owners.OwnerNets.{OwnerNets}
use Rattle.sp_tree_handed.specs.Standing.{AccessStands}
use Rattle.sp_tree_accesses.specs.Queued.{QueuedStands}
use Rattle.sp_memory_nets.proofs.ScalarFitting.{width_at, wide_at, IsGiving, gives_fit, fresh_fits, answers_wait, reads_apart}
use Rattle.sp_memory_nets.proofs.ScalarPicked.{each_of}
use Rattle.sp_memory_nets.specs.FifoFits.{FifoFits}
use Rattle.sp_memory_nets.specs.FifoLists.{put_of, puts_to}
use Rattle.sp_memory_nets.specs.FifoRuns.{IsFifoOf}

module _ (d : Draft) (core : PlainCore) (plan : PlainPlan) (accesses : List AccessNets) (owners : OwnerNets) (bank : ℕ) (stores : List Store) (start m : ℕ) (fits : FifoFits d core plan accesses owners bank stores start m) where
  puts_give : PicksAccessesTo → All (IsGiving d (width_at core m)) (puts_to m accesses)
  puts_give picks = each_of put_of (IsGiving d (width_at core m)) (is_to m Enq) (λ a. AccessStands d core a × CopyFits d a.copy × QueuedStands d core a) accesses (λ k e l. (fits.accesses_stand k e l, fits.accesses_copied k e l, fits.queued k e l)) (λ a t s.
      let is = (picks m Enq a refl).0 t in
      record { copy = s.1; enable = s.0.enable; word = wide_at d core m _ a.mem is.0 (subst (λ k. HasNet d (word_that_changes k a.operands.items) (width_at core a.mem)) is.1 (s.2.word is.1)) })

  takes_fit : (part : Queue) → IsFifoOf core plan accesses owners m part → TakesFit d part
  takes_fit part is =
      let wait = answers_wait d core accesses m fits.accesses_stand fits.accesses_copied fits.awaiting part.takes.items is.takes in
      record {
        takes = λ k t l. let it = wait k t l in record { enable = it.enable; copy = it.copy };
        found = subst (λ (ty : Ty). All (λ (r : Touch). Awaits d r.word (width_of ty)) part.takes.items) (sym is.ty) (λ k t l. (wait k t l).word);
        apart = reads_apart m accesses fits.rise part.takes.items is.takes;
      }

  pub queue_fits : PicksAccessesTo → (part : Queue) → part.start ≡ start → IsLength part.depth → IsFifoOf core plan accesses owners m part → QueueFits d part
  queue_fits picks part at len is = record {
    start = subst (λ n. HasNet d n 1) (sym at) fits.starts;
    depth = len;
    fresh = subst (All (FreshFits d)) (sym is.fresh) (fresh_fits d core accesses owners m fits.accesses_stand fits.accesses_copied fits.owners_stand fits.owners_copied);
    puts = subst (λ (ty : Ty). All (WriteFits d (width_of ty)) part.puts.items) (sym is.ty) (gives_fit d (width_at core m) (puts_to m accesses) part.puts.items is.puts (puts_give picks));
    takes = takes_fit part is;
  }

  -- its banks are those of the queue
  pub banks_fit : (part : Queue) → part.bank ≡ bank → IsFifoOf core plan accesses owners m part → BanksFit d part stores
  banks_fit part at is = record {
    each = fits.each ∙ sym is.copies;
    rows = fits.rows;
    wires = subst (λ (ty : Ty). All (AreWires d (width_of ty)) stores) (sym is.ty) fits.wires;
    banks = subst (λ n. AreStores d n (width_of part.ty) part.depth stores) (sym at)
        (subst (λ (ty : Ty). AreStores d bank (width_of ty) part.depth stores) (sym is.ty)
        (subst (λ n. AreStores d bank (width_at core m) n stores) (sym is.depth) fits.banks));
  }
