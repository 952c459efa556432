-- Stores and loads by the events of their own runs, at the DRAMs of a core.
use Rattle.sp_core.specs.Declarations.{dram_number}
use Rattle.sp_core.specs.PlainCore.{PlainCore}
use Rattle.sp_plan.specs.PlainPlan.{PlainPlan}
use Rattle.sp_machine.specs.Timeline.{core_timed}
use Rattle.sp_machine.specs.Transfers.{Delays}
use Rattle.sp_bank_words.proofs.Filtered.{write_from}
use Rattle.sp_dram_words.specs.Parts.{StoresWriteInWhole, LoadsFindInPart}
use Rattle.sp_dram_words.specs.Moves.{TransfersAct, TransfersMoveDrams}
use Rattle.sp_dram_words.specs.Laws.{dram_dims}
use Rattle.sp_dram_words.specs.Stores.{StoresAreInTime, LoadsFindOwn}

module _ (core : PlainCore) (plan : PlainPlan) (delays : Delays) (act : TransfersAct core plan delays) where
  pub stores_are_in_time : StoresWriteInWhole → TransfersMoveDrams core plan delays → StoresAreInTime core plan delays
  stores_are_in_time in_whole move is timed h s last r units has =
      let events = (core_timed core plan delays h).events in
      record {
        acts = λ u k.
            let w = has.each u k in
            in_whole s events w.part last u.number (dram_number core r) (dram_dims core r) u.nets.ready u.nets.address u.nets.word w.agrees ((act timed h).store_writes u.number r w.mem w.stands) w.acts;
        has_each = λ n t l some.
            let w = write_from events (dram_number core r) t some.1.copy some.0 some.1.there in
            let by = (move is timed h).written_by n t r w.word some.0 (record { copy = some.1.copy; there = w.there; numbered = some.1.numbered }) w.act w.mem in
            has.all n by.0 by.1;
      }

  pub loads_find_own : LoadsFindInPart → LoadsFindOwn core plan delays
  loads_find_own in_part timed h s last n r m part stands agrees found =
      in_part s (core_timed core plan delays h).events part last n (dram_number core r) r (dram_dims core r) agrees ((act timed h).load_reads n r m stands) found
