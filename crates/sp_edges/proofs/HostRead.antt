-- A file of which some bytes have been read.
use Rattle.std.proofs.Common.{◌≡◌, ℕ, ◌≤◌, List, ◌++◌, length}

-- at most `most` bytes were appended, and the count did not fall
pub record HasRead (most : ℕ) (old new : List ℕ) (faults_before faults_after : ℕ) : Type 0 where
  pub bytes : List ℕ
  pub appended : new ≡ old ++ bytes
  pub at_most : length bytes ≤ most
  pub counts : faults_before ≤ faults_after
