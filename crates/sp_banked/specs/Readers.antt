-- The readers of a memory in banks.
use Rattle.std.specs.Prelude.{◌≡◌, ◌≢◌, ℕ, suc, ◌+◌, ◌*◌, ◌<◌, ◌≤◌, List, map, length, slice_index_or}
use Rattle.sp_netlist.specs.Draft.{Draft}
use Rattle.sp_netlist.specs.Signals.{Signals}
use Rattle.sp_gates.specs.Nets.{HasNet, Awaits}
use Rattle.sp_taps.specs.declared.store.Store.{Store}
use Rattle.sp_requests.specs.declared.part.Request.{Request}
use Rattle.sp_requests.specs.Requests.{RequestFits}

-- the net with the word that was read of a bank
abbrev pub FoundFit : Draft → (width : ℕ) → Store → Type 0
FoundFit d width store = HasNet d store.found width

-- a read of one of these banks, so many a duplicate, whose word is to be driven
pub record ReaderFits (d : Draft) (width count lines : ℕ) (r : Request) : Type 0 where
  pub fits : RequestFits d r
  pub word : Awaits d r.word width
  pub within : r.duplicate * lines + lines ≤ count

abbrev pub words_of : List Request → List ℕ
words_of requests = map (λ r. r.word) requests

-- no two readers have one net
abbrev pub AreApart : List Request → Type 0
AreApart requests = (i k : ℕ) (d : Request) → i < k → k < length requests → (slice_index_or requests i d).word ≢ (slice_index_or requests k d).word

-- the net has the word that was found in the bank whose copy and number stand on the two nets
abbrev pub IsFound : Signals → (cycle copy bank : ℕ) → List Store → (from lines banks net : ℕ) → Type 0
IsFound s t copy bank stores from lines banks net = (c b : ℕ) → b < banks → c * banks + b < lines → s.net t copy ≡ c → s.net t bank ≡ b → (other : Store)
    → s.net t net ≡ s.net t (slice_index_or stores (from + (c * banks + b)) other).found

-- a reader's net has, two cycles after it asked, the word that its bank found a cycle after it asked
abbrev pub RunsReader : Signals → List Store → (lines banks : ℕ) → Request → Type 0
RunsReader s stores lines banks r = (t c b : ℕ) → b < banks → c * banks + b < lines → s.net t r.copy ≡ c → s.net t r.bank ≡ b → (other : Store)
    → s.net (suc (suc t)) r.word ≡ s.net (suc t) (slice_index_or stores (r.duplicate * lines + (c * banks + b)) other).found
