use Rattle.sp_stored_cores.proofs.Circle.{along}
use Rattle.sp_stored_cores.proofs.closing.stored_cores_go.Goals as goal

pub returns : goal.returns
returns c core plan g s child arguments words is x starts input h left r given stored bound =
    along core plan
    (λ delays. record {
      act = c.accesses_act.ensures core plan delays;
      have = c.operations_have_accesses.ensures core;
      own = c.cores_own.ensures core plan delays;
      name = c.cores_name_copies.ensures core plan delays;
      name_loads = c.cores_name_loads.ensures core plan delays;
      numbers = c.plans_have_numbers.ensures core plan;
      answer = c.memories_answer.ensures core plan delays;
      hold = c.memories_hold.ensures core plan;
      goes = c.valid_plans_go_well.ensures core plan delays;
      tree = c.trees_are_answered.ensures core plan;
      close = c.circles_close.ensures core plan delays;
      timed = c.core_events_are_timed.ensures core plan delays;
      early = c.nothing_begins_at_once.ensures core plan delays;
      takes = c.runs_take_time.ensures core plan delays;
      done = c.runs_are_done.ensures;
      fit = c.runs_fit.ensures core;
      well = c.runs_happen_well.ensures core plan delays;
      within = λ node. c.runs_happen_within.ensures core plan delays node;
      agree = c.transfers_agree.ensures core plan delays;
      moving = c.going_is_moving.ensures core plan delays;
      moved_all = c.transfers_move_all.ensures core plan delays;
      filled = c.transfers_move.ensures core;
      items = c.moves_are_items.ensures core.root;
      one = c.numbers_stand_for_one.ensures core.root;
      acted = c.timelines_are_acted.ensures core plan delays;
      own_acts = c.transfers_act.ensures core plan delays;
      in_whole = c.loads_write_in_whole.ensures;
      read_in_whole = c.stores_read_in_whole.ensures;
      are_answered = c.stores_are_answered.ensures;
      name_stores = c.cores_name_stores.ensures core plan delays;
      one_copy = c.drams_are_one.ensures core plan delays;
      store_in_time = c.stores_are_in_time.ensures core plan delays;
      find = c.loads_find.ensures core plan;
      find_own = c.loads_find_own.ensures core plan delays;
      drams_end = c.drams_end.ensures core plan delays;
    })
    (c.cores_transfer.ensures core plan) g s child arguments words is x starts input h left r given stored bound
