-- Laws of requests.
use Rattle.std.specs.Prelude.{◌≡◌, ℕ, List, map}
use Rattle.std.specs.List.{AllZip}
use Rattle.sp_bank.specs.Places.{IsInside, bank as bank_number, offset}
use Rattle.sp_netlist.specs.Draft.{Draft}
use Rattle.sp_netlist.specs.Signals.{Signals}
use Rattle.sp_gates.specs.Runs.{RunsOn}
use Rattle.sp_gates.specs.Grows.{Grows}
use Rattle.sp_access.specs.declared.access.Access.{Access}
use Rattle.sp_access.specs.Asking.{put, Agree}
use Rattle.sp_mem.specs.declared.part.Touch.{Touch}
use Rattle.sp_places.specs.declared.layout.Layout.{Layout}
use Rattle.sp_places.specs.Layouts.{IsLayout, banking_of}
use Rattle.sp_requests.specs.declared.part.Request.{Request}
use Rattle.sp_requests.specs.Requests.{IsRequest, Asks}
use Rattle.sp_requests.specs.Elements.{element_after, AreServed}

pub record RequestLaws : Type 0 where
  -- what is known of requests stays known
  pub stay : (old new : Draft) (l : Layout) (touches : List Touch) (rs : List Request) → Grows old new → AllZip (IsRequest old l) touches rs → AllZip (IsRequest new l) touches rs
  -- what accesses ask of a bank agrees
  pub agree : (d : Draft) (l : Layout) (s : Signals) → IsLayout l → RunsOn s d.cells → (t copy bank : ℕ) (touches : List Touch) (rs : List Request) (es : List Access)
      → AllZip (IsRequest d l) touches rs → AllZip (Asks s t copy bank) rs es → AreServed s t l touches → Agree s t es
  -- the word of an element's place after the writes is that of the element
  pub writes : (d : Draft) (l : Layout) (s : Signals) → IsLayout l → RunsOn s d.cells → (t copy bank : ℕ) (touches : List Touch) (rs : List Request) (es : List Access)
      → AllZip (IsRequest d l) touches rs → AllZip (Asks s t copy bank) rs es → AreServed s t l touches
      → (x : List ℕ) → IsInside l.dims.items x → bank_number (banking_of l) x ≡ bank → (old : ℕ)
      → put s t es (map (λ r. r.word) rs) (offset (banking_of l) l.dims.items x) old ≡ element_after s t copy touches x old
