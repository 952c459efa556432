-- A text of which some pieces have been put.
use Rattle.std.proofs.Common.{arith, ◌≡◌, ℕ, ◌+◌, ◌<◌, ◌≤◌, List, ◌++◌, length, append_assoc, length-append, ap, Option, Result, Ok, Err, OnErr}
use Rattle.std.proofs.Common.{[], ◌∷◌, min, refl}
use Rattle.sp_edges.specs.Pieces.{piece_length, IsFirstPiece, AreFirstPieces}
use Rattle.sp_edges.specs.Gained.{Gained, GainedPart}
use Rattle.sp_edges.specs.Laws.{Gained-append, GainedPart-append, GainedPart-front}

pub record HasPut (text rest : List ℕ) (before after : Option (List ℕ)) (faults_before faults_after room_before room_after : ℕ) : Type 0 where
  pub front : List ℕ
  pub split : text ≡ front ++ rest
  pub gained : Gained before after front
  pub counts : faults_before ≤ faults_after
  pub room : length text ≤ room_before → room_after + length front ≡ room_before

module _ (text rest rest' piece : List ℕ) (before middle after : Option (List ℕ)) (faults faults' faults'' room room' room'' : ℕ) where
  -- one more piece
  pub HasPut-more : HasPut text rest before middle faults faults' room room' → rest ≡ piece ++ rest' → 0 < length piece →
      Gained middle after piece → faults' ≤ faults'' → (0 < length piece → length piece ≤ room' → room'' + length piece ≡ room') →
      HasPut text rest' before after faults faults'' room room''
  HasPut-more put next some gained counts sure = record {
    front = put.front ++ piece;
    split = rw (put.split, next) (rw append_assoc);
    gained = Gained-append before middle after put.front piece put.gained gained;
    counts = omega (arith, put.counts, counts);
    room = λ fits. omega (arith, put.room fits, sure some (omega (arith, put.room fits, ap length put.split, ap length next, length-append put.front rest, length-append piece rest')), length-append put.front piece);
  }

-- a fact that holds anyway holds at an error
pub OnErr-always : {T E P : Type 0} (result : Result T E) → P → OnErr result P
OnErr-always (Ok _) fact = tt
OnErr-always (Err _) fact = fact

-- after the pieces before it, a part of one piece is a part of the text
pub GainedPart-piece : (text rest rest' piece : List ℕ) (before middle after : Option (List ℕ)) (front : List ℕ) → text ≡ front ++ rest → rest ≡ piece ++ rest' →
    Gained before middle front → GainedPart middle after piece → GainedPart before after text
GainedPart-piece text rest rest' piece before middle after front split next gained part =
    rw (split, next) (GainedPart-append before middle after front (piece ++ rest') gained (GainedPart-front middle after piece rest' part))

-- one more piece of a text
pub AreFirstPieces-more : (text : List ℕ) (pieces : List (List ℕ)) (rest piece after : List ℕ) → AreFirstPieces text pieces rest → IsFirstPiece rest piece after →
    AreFirstPieces text (pieces ++ piece ∷ []) after
AreFirstPieces-more text [] rest piece after first next = (after, rw (← first) next, refl)
AreFirstPieces-more text (p ∷ pieces) rest piece after first next = (first.0, first.1, AreFirstPieces-more first.0 pieces rest piece after first.2 next)

-- the next piece of a text that is cut into pieces of that length
pub IsFirstPiece-of : (text piece rest : List ℕ) (size : ℕ) → text ≡ piece ++ rest → length piece ≡ min size (length text) → size ≡ piece_length → 0 < length text → IsFirstPiece text piece rest
IsFirstPiece-of text piece rest size parts long is some = record {
  parts = parts;
  long = rw (← is) long;
  some = omega (arith, long, is, some);
}

pub length_zero : (text : List ℕ) → length text ≡ 0 → text ≡ []
length_zero [] none = refl
length_zero (byte ∷ text) none = absurd (omega arith)
