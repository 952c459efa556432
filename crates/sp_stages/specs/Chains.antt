-- The chains of an outer body, from leaders: at first each run is its own, and of two that are joined the greater one's
-- runs go over to the lesser one.
use Rattle.std.specs.Prelude.{◌≡◌, ℕ, zero, suc, ◌+◌, ◌==◌, ◌<◌, nat_le, nat_lt, Bool, false, ◌&&◌, List, [], map, filter, length, slice_index, Option, Some, None, if◌then◌else◌}
use Rattle.sp_core.specs.declared.access.Meet.{Meet}
use Rattle.sp_core.specs.Elements.{numbers_below}
use Rattle.sp_core.specs.Numbering.{counters_size}
use Rattle.sp_core.specs.PlainCore.{PlainCounter, PlainNode, PlainCore, outer}
use Rattle.sp_plan.specs.Nodes.{Site, site_at}
use Rattle.sp_plan.specs.Slots.{StageRun, runs_of, is_parallel_block, are_joined}
use Rattle.sp_words.specs.declared.kind.Style.{Style}

-- whose leader is one number gets another one
abbrev pub instead : (leader : ℕ → ℕ) → (lesser greater : ℕ) → ℕ → ℕ
instead leader a b r = if leader r == b then a else leader r

abbrev pub merged : (leader : ℕ → ℕ) → (p q : ℕ) → ℕ → ℕ
merged leader p q = if nat_le (leader p) (leader q) then instead leader (leader p) (leader q) else instead leader (leader q) (leader p)

-- a list of the leaders
abbrev pub AreListed : (leader : ℕ → ℕ) → List ℕ → Type 0
AreListed leader xs = (r : ℕ) → r < length xs → slice_index xs r ≡ leader r

module _ (is_linked : ℕ → ℕ → Bool) where
  -- after the links of p with the runs before q
  abbrev pub after_links : (leader : ℕ → ℕ) → (p q : ℕ) → ℕ → ℕ
  after_links leader p zero = leader
  after_links leader p (suc q) = if is_linked p q then merged (after_links leader p q) p q else after_links leader p q

  -- after those of the runs before p with all of so many runs
  abbrev pub leaders_before : (size p : ℕ) → ℕ → ℕ
  leaders_before size zero = λ r. r
  leaders_before size (suc p) = after_links (leaders_before size p) p size

-- r is a leader in a slot
abbrev pub leads_in : (slots : List ℕ) → (leader : ℕ → ℕ) → (slot r : ℕ) → Bool
leads_in slots leader s r = (leader r == r) && (slice_index slots r == s)

-- as many leaders of its slot stand before its own
abbrev pub chain_number : (slots : List ℕ) → (leader : ℕ → ℕ) → (p : ℕ) → ℕ
chain_number slots leader p = length (filter (leads_in slots leader (slice_index slots p)) (numbers_below (leader p)))

module _ (core : PlainCore) (meets : List Meet) (parallel : Bool) (runs : List StageRun) (slots : List ℕ) where
  -- a run and a later one of its slot are joined
  abbrev pub is_link : (p q : ℕ) → Bool
  is_link p q = (nat_lt p q && (slice_index slots p == slice_index slots q)) && are_joined runs slots [] core parallel meets p q

  abbrev pub leaders : ℕ → ℕ
  leaders = leaders_before is_link (length runs) (length runs)

  abbrev pub numbered_chains : List ℕ
  numbered_chains = map (chain_number slots leaders) (numbers_below (length runs))

abbrev pub chains_of : PlainCore → List Meet → List PlainCounter → Style → List StageRun → (slots : List ℕ) → List ℕ
chains_of core meets counters style runs slots = numbered_chains core meets (is_parallel_block counters style) runs slots

-- the chains of the node of a number, whose runs have these slots
abbrev pub chains_in : PlainCore → List Meet → (slots : List ℕ) → (number : ℕ) → PlainNode → List ℕ
chains_in core meets slots n (outer counters style owned stages) = chains_of core meets counters style (runs_of (n + counters_size counters) stages) slots
chains_in core meets slots n node = []

abbrev pub chains_at : PlainCore → List Meet → (slots : List ℕ) → Option Site → List ℕ
chains_at core meets slots (Some site) = chains_in core meets slots site.number site.node
chains_at core meets slots None = []

abbrev pub chains_of_node : PlainCore → List Meet → (node : ℕ) → (slots : List ℕ) → List ℕ
chains_of_node core meets k slots = chains_at core meets slots (site_at k 0 false core.root)
