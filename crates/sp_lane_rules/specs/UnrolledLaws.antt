-- Laws of the rules of cores in lanes, as statements.
use Rattle.std.specs.Prelude.{◌≡◌, true, IsTrue, List}
use Rattle.sp_words.specs.declared.types.Ty.{Ty}
use Rattle.sp_core.specs.Around.{Around}
use Rattle.sp_core.specs.Invariant.{IsCore, is_small}
use Rattle.sp_core.specs.OperationRules.{is_word_list, is_bound}
use Rattle.sp_core.specs.PlainCore.{PlainOp, PlainCore}
use Rattle.sp_lanes.specs.Unrolled.{unrolled}
use Rattle.sp_lanes.specs.Within.{Within, ops_in}
use Rattle.sp_lane_rules.specs.Copies.{OwnsInLanes}
use Rattle.sp_lane_rules.specs.CopiesRules.{ArePortsWritten}
use Rattle.sp_lane_rules.specs.UnrolledPlaces.{GoTogether}
use Rattle.sp_lane_rules.specs.UnrolledRight.{CombinesByTree}

-- a list that gives a word, and a bound
abbrev pub ListsKeepRules : (core lanes : PlainCore) → Type 0
ListsKeepRules core lanes =
    (around inside : Around) (w : Within) → GoTogether core lanes around inside w → (ops : List PlainOp)
    → ((ty : Ty) → is_word_list core around ops ty ≡ true → is_word_list lanes inside (ops_in w ops) ty ≡ true)
    × (is_bound core around ops ≡ true → is_bound lanes inside (ops_in w ops) ≡ true)

-- a core in lanes is a core where it is small, no combination owns a memory, arguments and outputs stand in the program's text,
-- and of the controllers of several lanes only inner bodies combine, by operators that are balanced
abbrev pub KeepRules : PlainCore → Type 0
KeepRules core = IsCore core → OwnsInLanes core.root → ArePortsWritten core → CombinesByTree core.root → IsTrue (is_small (unrolled core)) → IsCore (unrolled core)
