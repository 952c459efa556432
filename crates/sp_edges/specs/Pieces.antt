-- How a text is cut into pieces of 65,536 bytes.
use Rattle.std.specs.Prelude.{◌≡◌, ℕ, ◌<◌, min, List, [], ◌∷◌, ◌++◌, length}

-- the length of each piece but the last, which may be shorter
abbrev pub piece_length : ℕ
piece_length = 65536

-- The first piece of a text, and what follows it: it is as long as it may be, and not empty.
pub record IsFirstPiece (text piece rest : List ℕ) : Type 0 where
  pub parts : text ≡ piece ++ rest
  pub long : length piece ≡ min piece_length (length text)
  pub some : 0 < length piece

-- The first pieces of a text, and what follows them. They are all its pieces where nothing follows.
abbrev pub AreFirstPieces : (text : List ℕ) → List (List ℕ) → (rest : List ℕ) → Type 0
AreFirstPieces text [] rest = rest ≡ text
AreFirstPieces text (piece ∷ pieces) rest = (after : List ℕ) × IsFirstPiece text piece after × AreFirstPieces after pieces rest

-- all pieces of a text, in order; an empty text has none
abbrev pub ArePieces : (text : List ℕ) → List (List ℕ) → Type 0
ArePieces text pieces = AreFirstPieces text pieces []
