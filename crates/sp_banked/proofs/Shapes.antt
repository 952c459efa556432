-- Sizes of a memory, and what stays known of its accesses.
use Rattle.std.proofs.Common.{ℕ, ◌*◌, ◌<◌, ◌^◌, List, [], slice_index_or, All, arith}
use Rattle.std.proofs.lemmas.Nat.{mul-le}
use Rattle.sp_netlist.specs.Draft.{Draft}
use Rattle.sp_gates.specs.Nets.{HasNet, Awaits}
use Rattle.sp_gates.specs.Grows.{Grows, Fills}
use Rattle.sp_gates.proofs.Growing.{HasNet-stays}
use Rattle.sp_mem.specs.declared.part.Touch.{Touch}
use Rattle.sp_mem.proofs.Waiting.{awaits_kept}
use Rattle.sp_places.specs.declared.layout.Layout.{Layout}
use Rattle.sp_taps.specs.declared.store.Store.{Store}
use Rattle.sp_taps.specs.Stores.{AreStores}
use Rattle.sp_requests.specs.Requests.{TouchFits}
use Rattle.sp_requests.proofs.Kept.{touch_kept}
use Rattle.sp_banked.specs.declared.part.Banked.{Banked}
use Rattle.sp_banked.specs.Fits.{IsShape}
use Rattle.sp_banked.specs.Readers.{FoundFit}

pub lines_few : (part : Banked) → IsShape part → part.copies * part.layout.banks < 2 ^ 32
lines_few part shape =
    let m = mul-le 1 (part.copies * part.layout.banks) part.duplicates (part.copies * part.layout.banks) shape.duplicates (omega arith) in
    let few = shape.few in
    omega (arith, m, few)

pub lines_some : (part : Banked) → IsShape part → 0 < part.copies * part.layout.banks
lines_some part shape = let m = mul-le 1 1 part.copies part.layout.banks shape.copies shape.layout.space.size.some_bank in omega (arith, m)

pub touches_kept : (a b : Draft) (l : Layout) (touches : List Touch) → Grows a b → All (TouchFits a l) touches → All (TouchFits b l) touches
touches_kept a b l touches g h = λ k d m. touch_kept a b g l (slice_index_or touches k d) (h k d m)

pub written_kept : (a b : Draft) (width : ℕ) (touches : List Touch) → Grows a b → All (λ w. HasNet a w.word width) touches → All (λ w. HasNet b w.word width) touches
written_kept a b width touches g h = λ k d m. HasNet-stays a b _ width g (h k d m)

pub waits_kept : (a b : Draft) (width : ℕ) (touches : List Touch) → Fills a b [] → All (λ r. Awaits a r.word width) touches → All (λ r. Awaits b r.word width) touches
waits_kept a b width touches f h = λ k d m. awaits_kept a b _ width f (h k d m)

pub founds_stand : (d : Draft) (first width len : ℕ) (stores : List Store) → AreStores d first width len stores → All (FoundFit d width) stores
founds_stand d first width len stores h = λ k other m. (h k other m).found
