-- What a channel does after it asked, told by cycles.
use Rattle.std.specs.Prelude.{◌≡◌, ℕ, suc, ◌+◌, ◌<◌, List, IsTrue}
use Rattle.sp_netlist.specs.Cells.{PlainCell}
use Rattle.sp_netlist.specs.Signals.{Setting, idle, Signals, asks, delay_of, RunsChannel}

-- A channel that asks in cycle t and takes the delay e is not ready in the next e cycles, and then is ready
-- in one cycle after the other: up to 16 of them, as long as LAST is 0. Where LAST is 1 in one of them it is
-- idle from the next; else it asks in the 16th.
pub record Serves (s : Signals) (channel ready request last t e : ℕ) : Type 0 where
  pub waits : (j : ℕ) → j < e → s.net (t + 1 + j) ready ≡ 0
  pub moves : (k : ℕ) → k < 16 → ((i : ℕ) → i < k → s.net (t + 1 + e + i) last ≡ 0) → s.net (t + 1 + e + k) ready ≡ 1
  pub ends : (k : ℕ) → k < 16 → ((i : ℕ) → i < k → s.net (t + 1 + e + i) last ≡ 0) → s.net (t + 1 + e + k) last ≡ 1 → s.phase (t + 2 + e + k) channel ≡ idle
  pub again : ((i : ℕ) → i < 16 → s.net (t + 1 + e + i) last ≡ 0) → IsTrue (asks (s.phase (t + 16 + e) channel) (s.net (t + 16 + e) request) (s.net (t + 16 + e) last))

-- the laws of a channel
pub record ChannelServes : Type 0 where
  pub asked : (g : Setting) (s : Signals) (before : List PlainCell) (channel ready request last : ℕ) → RunsChannel g s before channel ready request last
      → (t : ℕ) → IsTrue (asks (s.phase t channel) (s.net t request) (s.net t last)) → Serves s channel ready request last t (delay_of g s t before)
  -- an idle channel is not ready, asks where REQ is 1, and else stays idle
  pub idles : (g : Setting) (s : Signals) (before : List PlainCell) (channel ready request last : ℕ) → RunsChannel g s before channel ready request last
      → (t : ℕ) → s.phase t channel ≡ idle → s.net t ready ≡ 0
  pub requested : (g : Setting) (s : Signals) (before : List PlainCell) (channel ready request last : ℕ) → RunsChannel g s before channel ready request last
      → (t : ℕ) → s.phase t channel ≡ idle → s.net t request ≡ 1 → IsTrue (asks (s.phase t channel) (s.net t request) (s.net t last))
  pub stays : (g : Setting) (s : Signals) (before : List PlainCell) (channel ready request last : ℕ) → RunsChannel g s before channel ready request last
      → (t : ℕ) → s.phase t channel ≡ idle → s.net t request ≡ 0 → s.phase (suc t) channel ≡ idle
