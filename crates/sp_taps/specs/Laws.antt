-- Laws of nets that are promised, and of banks.
use Rattle.std.specs.Prelude.{ℕ, List, ◌++◌}
use Rattle.sp_netlist.specs.Draft.{Draft}
use Rattle.sp_gates.specs.Nets.{IsOpen}
use Rattle.sp_gates.specs.Grows.{Grows, Builds, Fills}
use Rattle.sp_taps.specs.declared.store.Store.{Store}
use Rattle.sp_taps.specs.Stores.{IsStore}
use Rattle.sp_taps.specs.Wires.{IsWire, Promises}

pub record TapLaws : Type 0 where
  -- nets that are promised, and driven by what comes after, are no open nets
  pub driven : (first second third : Draft) (nets others : List ℕ) → Promises first second nets → Fills second third (nets ++ others) → Builds first third others
  -- what is known of a bank, and of a net that is to be driven, stays known
  pub store_stays : (old new : Draft) (bank width len : ℕ) (store : Store) → Grows old new → IsStore old bank width len store → IsStore new bank width len store
  pub wire_stays : (old new : Draft) (net width : ℕ) → Grows old new → IsOpen new net → IsWire old net width → IsWire new net width
