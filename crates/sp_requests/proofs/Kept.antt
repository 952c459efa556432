-- What is known of accesses and requests stays known.
use Rattle.std.proofs.Common.{◌≡◌, ℕ, ◌<◌, ◌==◌, Bool, ◌&&◌, List, length, slice_index_or, All, refl, subst, sym}
use Rattle.std.specs.List.{AllZip}
use Rattle.sp_netlist.specs.Draft.{Draft}
use Rattle.sp_netlist.specs.Signals.{Signals}
use Rattle.sp_gates.specs.Grows.{Grows}
use Rattle.sp_gates.specs.Nets.{HasNet}
use Rattle.sp_gates.specs.Tested.{is_on}
use Rattle.sp_gates.proofs.Growing.{HasNet-stays}
use Rattle.sp_gates.proofs.Running.{runs_earlier}
use Rattle.sp_access.specs.declared.access.Access.{Access}
use Rattle.sp_access.specs.Asking.{AccessFits}
use Rattle.sp_mem.specs.declared.part.Touch.{Touch}
use Rattle.sp_mem.proofs.Kept.{copy_kept}
use Rattle.sp_places.specs.declared.layout.Layout.{Layout}
use Rattle.sp_places.specs.declared.layout.Spot.{Spot}
use Rattle.sp_places.specs.Layouts.{IsSpot}
use Rattle.sp_requests.specs.declared.part.Request.{Request}
use Rattle.sp_requests.specs.Requests.{TouchFits, RequestFits, IsRequest, spot_of, is_for, Asks}
use Rattle.sp_requests.proofs.Zips.{zip_kept}

-- what holds of each element of a list holds of the one at a place
pub at_item : {X : Type 0} (P : X → Type 0) (xs : List X) (k : ℕ) (x : X) → All P xs → k < length xs → x ≡ slice_index_or xs k x → P x
at_item P xs k x h l e = subst P (sym e) (h k x l)

module _ (a b : Draft) (g : Grows a b) where
  pub touch_kept : (l : Layout) (touch : Touch) → TouchFits a l touch → TouchFits b l touch
  touch_kept l touch h = record {
    enable = HasNet-stays a b _ 1 g h.enable;
    copy = copy_kept a b g _ h.copy;
    rank = h.rank;
    index = λ k d m. HasNet-stays a b _ 32 g (h.index k d m);
  }

  pub fits_kept : (r : Request) → RequestFits a r → RequestFits b r
  fits_kept r h = record { enable = HasNet-stays a b _ 1 g h.enable; copy = HasNet-stays a b _ 32 g h.copy; bank = HasNet-stays a b _ 32 g h.bank; place = HasNet-stays a b _ 32 g h.place }

  pub spot_kept : (l : Layout) (index : List ℕ) (spot : Spot) → IsSpot a l index spot → IsSpot b l index spot
  spot_kept l index spot h = record {
    bank_net = HasNet-stays a b _ 32 g h.bank_net;
    place_net = HasNet-stays a b _ 32 g h.place_net;
    bank = λ s run. h.bank s (runs_earlier a b s g run);
    place = λ s run. h.place s (runs_earlier a b s g run);
  }

  pub request_kept : (l : Layout) (touch : Touch) (r : Request) → IsRequest a l touch r → IsRequest b l touch r
  request_kept l touch r h = record {
    fits = fits_kept r h.fits;
    enable = h.enable;
    word = h.word;
    duplicate = h.duplicate;
    copy = λ s run. h.copy s (runs_earlier a b s g run);
    spot = spot_kept l touch.index.items (spot_of r) h.spot;
  }

  pub access_kept : (x : Access) → AccessFits a x → AccessFits b x
  access_kept x h = record { on = HasNet-stays a b _ 1 g h.on; place = HasNet-stays a b _ 32 g h.place }

pub requests_stay : (a b : Draft) (l : Layout) (touches : List Touch) (rs : List Request) → Grows a b → AllZip (IsRequest a l) touches rs → AllZip (IsRequest b l) touches rs
requests_stay a b l touches rs g h = zip_kept (IsRequest a l) (IsRequest b l) touches rs (request_kept a b g l) h

-- a net that is on at one copy and one bank
pub is_here : (on here enabled same_copy same_bank : Bool) (a b m n copy bank : ℕ) → on ≡ (enabled && here) → here ≡ (same_copy && same_bank) → same_copy ≡ (a == m) → same_bank ≡ (b == n) → m ≡ copy → n ≡ bank
    → on ≡ (enabled && ((a == copy) && (b == bank)))
is_here on here enabled same_copy same_bank a b m n copy bank e f g h i j = rw (e, f, g, h, i, j) refl

pub accesses_kept : (a b : Draft) (g : Grows a b) (es : List Access) → All (AccessFits a) es → All (AccessFits b) es
accesses_kept a b g es h = λ k d l. access_kept a b g (slice_index_or es k d) (h k d l)

pub one_access : (d : Draft) (on place : ℕ) → HasNet d on 1 → HasNet d place 32 → AccessFits d (record { on = on; place = place })
one_access d on place h k = record { on = h; place = k }

pub asks_one : (s : Signals) (t copy bank : ℕ) (r : Request) (on : ℕ) → is_on s on t ≡ is_for s t copy bank r → Asks s t copy bank r (record { on = on; place = r.place })
asks_one s t copy bank r on e = record { on = e; place = refl }
