-- Laws of reads that stand once for all lanes, as statements.
use Rattle.std.specs.Prelude.{◌≡◌, ◌<◌, ℕ, true, false, List, length, slice_index, slice_index_or}
use Rattle.sp_core.specs.Declarations.{is_among}
use Rattle.sp_core.specs.History.{Entry, word_at}
use Rattle.sp_core.specs.Operations.{operations}
use Rattle.sp_core.specs.PlainCore.{PlainOp, PlainCore}
use Rattle.sp_core.specs.Scope.{Scope, count_word}
use Rattle.sp_core.specs.Step.{went}
use Rattle.sp_core.specs.Store.{Store}
use Rattle.sp_lanes.specs.Bodies.{standing}
use Rattle.sp_lanes.specs.Shared.{does_change, shared}
use Rattle.sp_lane_groups.specs.LiveStores.{ArePlain, AreStanding}

-- two runs of a body, in scopes in which each counter but one has the same word, from stores in which memories hold the same
-- that the body doesn't change and that aren't a lane's own
pub record RunTwice (core : PlainCore) (counter : ℕ) (own : List ℕ) (body : List PlainOp) (es fs : List Entry) : Type 0 where
  pub one : Scope
  pub two : Scope
  pub counters : (c : ℕ) → (c ≡ counter → ⊥) → count_word (two c) 0 ≡ count_word (one c) 0
  pub first : Store
  pub second : Store
  pub memories : (m : ℕ) → is_among m own ≡ false → does_change body m ≡ false → second m ≡ first m
  pub after : Store
  pub ended : Store
  pub ran_first : operations core one body first ≡ went es after
  pub ran_second : operations core two body second ≡ went fs ended

-- a read that stands once gives the same word in both
abbrev pub SharedWordsAgree : PlainCore → Type 0
SharedWordsAgree core =
    (counter : ℕ) (own : List ℕ) (body : List PlainOp) (es fs : List Entry) → ArePlain body → RunTwice core counter own body es fs
    → (k : ℕ) → slice_index_or (shared counter own body body) k false ≡ true → word_at fs k ≡ word_at es k

-- so where the words of the first run stand at places, these reads stand for the second run
abbrev pub SharedReadsStand : PlainCore → Type 0
SharedReadsStand core =
    (counter : ℕ) (own : List ℕ) (body : List PlainOp) (es fs : List Entry) → ArePlain body → RunTwice core counter own body es fs
    → (done : List Entry) (places : List ℕ) → length places ≡ length es
    → ((k : ℕ) → k < length es → (slice_index places k < length done) × (word_at done (slice_index places k) ≡ word_at es k))
    → AreStanding done fs 0 body (standing (shared counter own body body) places)
