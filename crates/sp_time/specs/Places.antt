-- The places of memories, what stands at one, and what is done there.
use Rattle.std.specs.Prelude.{◌≡◌, ℕ, ◌<◌, Bool, true, false, ◌&&◌, List, [], ◌∷◌, ◌++◌, length, drop, Option, Some, None, nat_eq}

-- an element of a copy of a memory; a queue is one element
pub record Place : Type 0 where
  pub mem : ℕ
  pub copy : ℕ
  pub element : ℕ

abbrev pub is_place : Place → Place → Bool
is_place p q = nat_eq p.mem q.mem && (nat_eq p.copy q.copy && nat_eq p.element q.element)

-- a cell, with a word or not written yet, or a queue, the oldest word first
pub data Held : Type 0 where
  cell : Option ℕ → Held
  queue : List ℕ → Held

pub data Act : Type 0 where
  -- a cell's word is looked at, is written, or is gone
  read : (word : ℕ) → Act
  write : (word : ℕ) → Act
  clear : Act
  -- a queue gets a word, where it has fewer than so many; gives its oldest one; becomes empty
  enq : (depth word : ℕ) → Act
  deq : (word : ℕ) → Act
  empty : Act

abbrev pub queued : Held → List ℕ
queued (queue ws) = ws
queued _ = []

abbrev pub does : Act → Held → Held
does (read w) h = h
does (write w) h = cell (Some w)
does clear h = cell None
does (enq depth w) h = queue (queued h ++ w ∷ [])
does (deq w) h = queue (drop 1 (queued h))
does empty h = queue []

-- what an act needs to find
abbrev pub Sees : Act → Held → Type 0
Sees (read w) h = h ≡ cell (Some w)
Sees (enq depth w) h = (ws : List ℕ) × (h ≡ queue ws) × (length ws < depth)
Sees (deq w) h = (rest : List ℕ) × (h ≡ queue (w ∷ rest))
Sees _ h = Unit {0}

abbrev pub changes : Act → Bool
changes (read w) = false
changes _ = true
