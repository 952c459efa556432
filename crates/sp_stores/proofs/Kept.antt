-- What is known of ports stays known.
use Rattle.std.proofs.Common.{◌≡◌, ℕ, zero, suc, ◌<◌, List, [], ◌∷◌, length, map, slice_index_or, All, subst, sym, arith}
use Rattle.sp_netlist.specs.Draft.{Draft}
use Rattle.sp_gates.specs.Nets.{HasNet}
use Rattle.sp_gates.specs.Grows.{Grows}
use Rattle.sp_gates.proofs.Growing.{HasNet-stays}
use Rattle.sp_gates.proofs.Running.{runs_earlier}
use Rattle.sp_bank_ports.specs.declared.port.WritePort.{WritePort}
use Rattle.sp_bank_ports.specs.Ports.{WriteFits}
use Rattle.sp_requests.specs.declared.part.Request.{Request}
use Rattle.sp_requests.specs.Requests.{RequestFits}
use Rattle.sp_requests.proofs.Kept.{fits_kept, access_kept}
use Rattle.sp_stores.specs.Lines.{IsWriteLine, AreWriteLines}

-- what holds of each element of a list holds of the one at a place
pub at_item : {X : Type 0} (P : X → Type 0) (xs : List X) (k : ℕ) (x : X) → All P xs → k < length xs → x ≡ slice_index_or xs k x → P x
at_item P xs k x h l e = subst P (sym e) (h k x l)

module _ (a b : Draft) (g : Grows a b) where
  pub all_fit : (rs : List Request) → All (RequestFits a) rs → All (RequestFits b) rs
  all_fit rs h = λ k d l. fits_kept a b g (slice_index_or rs k d) (h k d l)

  pub words_kept : (width : ℕ) (rs : List Request) → All (λ r. HasNet a r.word width) rs → All (λ r. HasNet b r.word width) rs
  words_kept width rs h = λ k d l. HasNet-stays a b _ width g (h k d l)

  pub port_kept : (width : ℕ) (port : WritePort) → WriteFits a width port → WriteFits b width port
  port_kept width port h = record { access = access_kept a b g port.access h.access; word = HasNet-stays a b port.word width g h.word }

  pub ports_kept : (width : ℕ) (ports : List WritePort) → All (WriteFits a width) ports → All (WriteFits b width) ports
  ports_kept width ports h = λ k d l. port_kept width (slice_index_or ports k d) (h k d l)

  pub line_kept : (copy bank : ℕ) (writes : List Request) (port : WritePort) → IsWriteLine a copy bank writes port → IsWriteLine b copy bank writes port
  line_kept copy bank writes port h = λ s run. h s (runs_earlier a b s g run)

  pub lines_kept : (banks : ℕ) (writes : List Request) (ports : List WritePort) → AreWriteLines a banks writes ports → AreWriteLines b banks writes ports
  lines_kept banks writes ports h = λ i other l s run. h i other l s (runs_earlier a b s g run)

-- the nets of the words of requests
pub word_nets : (d : Draft) (width : ℕ) (rs : List Request) → All (λ r. HasNet d r.word width) rs → All (λ net. HasNet d net width) (map (λ r. r.word) rs)
word_nets d width [] h k net l = absurd (omega (arith, l))
word_nets d width (r ∷ rs) h zero net l = h 0 r (omega arith)
word_nets d width (r ∷ rs) h (suc k) net l = word_nets d width rs (λ j q m. h (suc j) q (omega (arith, m))) k net (omega (arith, l))
