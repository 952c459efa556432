-- A channel over all transfers of a run: the delays that it takes, found by a bounded search, and when its words move.
use Rattle.std.specs.Prelude.{◌≡◌, ℕ, zero, suc, ◌+◌, ◌-◌, ◌<◌, ◌≤◌, nat_lt, nat_eq, ◌&&◌, if◌then◌else◌, Bool, true, false, List, [], ◌∷◌, ◌++◌, ◌⊎◌, All}
use Rattle.sp_netlist.specs.Cells.{PlainCell}
use Rattle.sp_netlist.specs.Signals.{Setting, Signals, Phase, idle, waiting, moving, asks, delay_of, RunsChannel}

-- how often a channel asked before this cycle, by whether it asks in each cycle
abbrev pub asked_by : (ℕ → Bool) → ℕ → ℕ
asked_by ask zero = 0
asked_by ask (suc t) = if ask t then suc (asked_by ask t) else asked_by ask t

-- what it took when it asked for the i-th time (from 0) in the cycles before this one; 0 where it didn't
abbrev pub taken_by : (ℕ → Bool) → (ℕ → ℕ) → ℕ → ℕ → ℕ
taken_by ask takes zero i = 0
taken_by ask takes (suc t) i = if ask t && nat_eq (asked_by ask t) i then takes t else taken_by ask takes t i

-- whether a channel of a run asks in a cycle
abbrev pub channel_asks : Signals → (channel request last : ℕ) → ℕ → Bool
channel_asks s channel request last t = asks (s.phase t channel) (s.net t request) (s.net t last)

abbrev pub taken : Setting → Signals → List PlainCell → (channel request last bound : ℕ) → ℕ → ℕ
taken g s before channel request last bound i = taken_by (channel_asks s channel request last) (λ t. delay_of g s t before) bound i

-- A channel asks in a cycle, waits, and moves so many words; with the last one of them it may ask again.
pub record Burst : Type 0 where
  pub cycle : ℕ
  pub wait : ℕ
  pub words : ℕ
  pub more : Bool

-- the cycle of its first word, and that of its last one
abbrev pub first_word : Burst → ℕ
first_word b = suc (b.cycle + b.wait)

abbrev pub last_word : Burst → ℕ
last_word b = b.cycle + b.wait + b.words

abbrev pub phase_in : Burst → ℕ → Phase
phase_in b t = if nat_lt t (first_word b) then waiting (b.cycle + b.wait - t) else moving (t - first_word b)

-- the timeline of a channel
abbrev pub phase_at : List Burst → ℕ → Phase
phase_at [] t = idle
phase_at (b ∷ bs) t = if nat_lt b.cycle t then (if nat_lt (last_word b) t then phase_at bs t else phase_in b t) else idle

abbrev pub begun : List Burst → ℕ → ℕ
begun [] t = 0
begun (b ∷ bs) t = if nat_lt b.cycle t then suc (begun bs t) else 0

-- after a burst that asks again the next one begins with its last word, else it begins later
abbrev pub Begins : (going : Bool) → (free cycle : ℕ) → Type 0
Begins true free cycle = suc cycle ≡ free
Begins false free cycle = free ≤ cycle

pub record IsBurst (b : Burst) : Type 0 where
  pub some : 0 < b.words
  pub few : b.words ≤ 16
  pub full : b.more ≡ true → b.words ≡ 16

abbrev pub Spaced : (going : Bool) → (free : ℕ) → List Burst → Type 0
Spaced going free [] = going ≡ false
Spaced going free (b ∷ bs) = Begins going free b.cycle × IsBurst b × Spaced b.more (suc (last_word b)) bs

-- the cycles in which an idle channel asks
abbrev pub Opens : (going : Bool) → List Burst → ℕ → Type 0
Opens going [] t = ⊥
Opens true (b ∷ bs) t = Opens b.more bs t
Opens false (b ∷ bs) t = (t ≡ b.cycle) ⊎ Opens b.more bs t

-- the cycles in which a word moves
abbrev pub Moves : List Burst → ℕ → Type 0
Moves [] t = ⊥
Moves (b ∷ bs) t = ((first_word b ≤ t) × (t ≤ last_word b)) ⊎ Moves bs t

abbrev pub last_is : Burst → ℕ → ℕ
last_is b t = if nat_lt t (last_word b) then 0 else (if b.more then 0 else 1)

-- LAST where a word moves, up to a cycle
abbrev pub LastRight : (ℕ → ℕ) → ℕ → List Burst → Type 0
LastRight w upto [] = Unit {0}
LastRight w upto (b ∷ bs) = ((t : ℕ) → first_word b ≤ t → t ≤ last_word b → t ≤ upto → w t ≡ last_is b t) × LastRight w upto bs

-- the waits are these, from the i-th on
abbrev pub Takes : (ℕ → ℕ) → ℕ → List Burst → Type 0
Takes w i [] = Unit {0}
Takes w i (b ∷ bs) = (b.wait ≡ w i) × Takes w (suc i) bs

pub record Says (w : ℕ) (C : Type 0) : Type 0 where
  pub forth : C → w ≡ 1
  pub back : w ≡ 1 → C

abbrev pub Pulses : (ℕ → ℕ) → (ℕ → Type 0) → ℕ → Type 0
Pulses w C last = (t : ℕ) → t ≤ last → Says (w t) (C t)

-- Where REQ and LAST are right up to a cycle, phase and READY are right up to the next one.
pub record FollowsBursts (s : Signals) (channel ready_net request last : ℕ) (bs : List Burst) (upto : ℕ) : Type 0 where
  pub phase : (t : ℕ) → t ≤ upto → s.phase t channel ≡ phase_at bs t
  pub asked : (t : ℕ) → t ≤ upto → asked_by (channel_asks s channel request last) t ≡ begun bs t
  pub ready : Pulses (λ t. s.net t ready_net) (Moves bs) upto

abbrev pub ChannelFollows : Type 0
ChannelFollows = (g : Setting) (s : Signals) (before : List PlainCell) (channel ready request last bound : ℕ) (bs : List Burst) (upto : ℕ)
    → RunsChannel g s before channel ready request last → Spaced false 0 bs → Takes (taken g s before channel request last bound) 0 bs → upto < bound
    → Pulses (λ t. s.net t request) (Opens false bs) upto → LastRight (λ t. s.net t last) upto bs
    → FollowsBursts s channel ready request last bs (suc upto)

-- A run of a transfer: the cycle of its start, how often its channel asked before, and its words: so many times 16, and 1 to 16 more.
pub record Transfer : Type 0 where
  pub start : ℕ
  pub first : ℕ
  pub full : ℕ
  pub rest : ℕ

-- the bursts of words from a cycle of asking on, and the cycle of the last word, by each asking's delay
abbrev pub bursts : (ℕ → ℕ) → (cycle i full rest : ℕ) → List Burst
bursts w c i zero rest = record { cycle = c; wait = w i; words = rest; more = false } ∷ []
bursts w c i (suc full) rest = record { cycle = c; wait = w i; words = 16; more = true } ∷ bursts w (c + w i + 16) (suc i) full rest

abbrev pub bursts_end : (ℕ → ℕ) → (cycle i full rest : ℕ) → ℕ
bursts_end w c i zero rest = c + w i + rest
bursts_end w c i (suc full) rest = bursts_end w (c + w i + 16) (suc i) full rest

-- it asks in the cycle after the start, and is done in the cycle after its last word
abbrev pub transfer_end : (ℕ → ℕ) → Transfer → ℕ
transfer_end w x = suc (bursts_end w (suc x.start) x.first x.full x.rest)

abbrev pub all_bursts : (ℕ → ℕ) → List Transfer → List Burst
all_bursts w [] = []
all_bursts w (x ∷ xs) = bursts w (suc x.start) x.first x.full x.rest ++ all_bursts w xs

-- runs in their order that don't overlap, numbered by what the channel asked before
abbrev pub Ordered : (ℕ → ℕ) → (free i : ℕ) → List Transfer → Type 0
Ordered w free i [] = Unit {0}
Ordered w free i (x ∷ xs) = (free ≤ suc x.start) × (x.first ≡ i) × (0 < x.rest) × (x.rest ≤ 16) × Ordered w (transfer_end w x) (suc (i + x.full)) xs

abbrev pub Asks : List Transfer → ℕ → Type 0
Asks [] t = ⊥
Asks (x ∷ xs) t = (t ≡ suc x.start) ⊎ Asks xs t

abbrev pub TransfersFollow : Type 0
TransfersFollow = (g : Setting) (s : Signals) (before : List PlainCell) (channel ready request last bound : ℕ) (xs : List Transfer) (upto : ℕ)
    → RunsChannel g s before channel ready request last → Ordered (taken g s before channel request last bound) 0 0 xs → upto < bound
    → Pulses (λ t. s.net t request) (Asks xs) upto → LastRight (λ t. s.net t last) upto (all_bursts (taken g s before channel request last bound) xs)
    → FollowsBursts s channel ready request last (all_bursts (taken g s before channel request last bound) xs) (suc upto)

-- no delay that is taken is greater than the greatest of the list
abbrev pub DelaysAreSmall : Type 0
DelaysAreSmall = (g : Setting) (s : Signals) (before : List PlainCell) (channel request last d bound : ℕ) → All (λ e. e ≤ d) g.delays → (i : ℕ) → taken g s before channel request last bound i ≤ d
